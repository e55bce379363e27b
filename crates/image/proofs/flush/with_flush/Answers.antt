-- `image::flush::with_flush` meets its contract: the mask or-ed in sets the lane's bit. Assumes nothing.
use Rattle.image.specs.inner.MaskLaws.{or-mask}
use Rattle.image.proofs.flush.with_flush.Goals as goal

pub returns : goal.returns
returns c = λ L e. rw e (or-mask L c.args.flag)
