-- `lane_log::Log::of` meets its contract: an image has a base word. Assumes nothing.
use Rattle.std.proofs.Common.{refl, arith}
use Rattle.image.specs.Image.{base_of, former_length}
use Rattle.lane_log.proofs.Log.of.Goals as goal

pub bounds-image-0 : goal.bounds-image-0
unfolding former_length
bounds-image-0 c = omega (arith, c.requires.image.in_image)

pub returns-clause-base : goal.returns-clause-base
unfolding base_of
returns-clause-base c = refl
