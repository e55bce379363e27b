-- `image::flush::without_flush` meets its contract: the inverted mask clears the lane's bit, in 8 bits. Assumes nothing.
use Rattle.std.proofs.Common.{arith}
use Rattle.image.specs.inner.MaskLaws.{lane_below, and-not-mask}
use Rattle.image.proofs.flush.without_flush.Goals as goal

pub returns : goal.returns
returns c = λ L e. rw e (and-not-mask 8 L c.args.flag (lane_below 8 L (omega (arith, e))) (omega arith))
