-- `image::log_start` meets its contract: the log of a lane starts within an image of few words. Assumes nothing.
use Rattle.std.proofs.Common.{arith}
use Rattle.image.specs.inner.ImageLaws.{sizes-in, logs-before-small}
use Rattle.image.proofs.log_start.Goals as goal

pub overflow_add-result : goal.overflow_add-result
overflow_add-result c = let s = sizes-in c.args.sizes c.requires.sizes_value in omega arith

pub overflow_mul-result : goal.overflow_mul-result
overflow_mul-result c = let s = sizes-in c.args.sizes c.requires.sizes_value in omega arith

pub overflow_mul-result-2 : goal.overflow_mul-result-2
overflow_mul-result-2 c =
    let s = sizes-in c.args.sizes c.requires.sizes_value in
    omega (arith, logs-before-small c.args.sizes c.args.lane s c.requires.lane_lt_lanes)

pub overflow_add-result-2 : goal.overflow_add-result-2
overflow_add-result-2 c =
    let s = sizes-in c.args.sizes c.requires.sizes_value in
    omega (arith, logs-before-small c.args.sizes c.args.lane s c.requires.lane_lt_lanes)
