-- `image_words` answers at most 5,125: the bound of an image whose sizes are in range. Assumes nothing.
use Rattle.std.proofs.Common.{sym, arith}
use Rattle.image.specs.Image.{image_length}
use Rattle.image.specs.inner.ImageLaws.{sizes-in, length-small}
use Rattle.replay.proofs.machine.Machine.image_words.Goals as goal

pub returns-in-New : goal.returns-in-New
unfolding image_length
returns-in-New c = omega (arith, c.image_length.ensures, length-small _ (sizes-in _ (sym c.if-not-sizes_ok.ensures)))

pub returns-in-Former : goal.returns-in-Former
returns-in-Former c = omega (arith, c.former_length.ensures, length-small _ (sizes-in _ (sym c.if-not-sizes_ok.ensures)))
