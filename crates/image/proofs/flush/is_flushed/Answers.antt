-- `image::flush::is_flushed` meets its contract: the masked byte is not 0 where the lane's bit is set. Assumes nothing.
use Rattle.image.specs.inner.MaskLaws.{and-mask-set}
use Rattle.image.proofs.flush.is_flushed.Goals as goal

pub returns : goal.returns
returns c = λ L e. rw e (and-mask-set L c.args.flag)
