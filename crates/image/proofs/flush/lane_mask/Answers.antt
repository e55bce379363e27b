-- `image::flush::lane_mask` meets its contract: by the law of a table of masks, whose test is computed of the code's own table. Assumes nothing.
use Rattle.image.specs.Image.{max_lanes}
use Rattle.image.specs.inner.MaskLaws.{are_powers, power_at}
use Rattle.image.proofs.flush.lane_mask.Goals as goal

-- the goal has the code's table in it: `search` takes it from there, and computes the test, once for all eight entries
pub returns : goal.returns
unfolding are_powers
returns c = search (power_at max_lanes)
