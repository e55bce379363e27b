-- `image::log_part` meets its contract: the log of a lane ends within an image of few words. Assumes nothing.
use Rattle.std.proofs.Common.{arith}
use Rattle.image.specs.inner.ImageLaws.{part-fits, part_log, log-of}
use Rattle.image.proofs.log_part.Goals as goal

pub overflow_mul-end : goal.overflow_mul-end
overflow_mul-end c = let f = part-fits _ _ _ _ c.requires.image c.requires.lane_lt_lanes c.log_start-start.ensures in omega arith

pub overflow_add-end : goal.overflow_add-end
overflow_add-end c = let f = part-fits _ _ _ _ c.requires.image c.requires.lane_lt_lanes c.log_start-start.ensures in omega arith

pub offset_bounds-image-start : goal.offset_bounds-image-start
offset_bounds-image-start c = let f = part-fits _ _ _ _ c.requires.image c.requires.lane_lt_lanes c.log_start-start.ensures in omega arith

pub slice_bounds-result-end : goal.slice_bounds-result-end
slice_bounds-result-end c = (part-fits _ _ _ _ c.requires.image c.requires.lane_lt_lanes c.log_start-start.ensures).0

pub returns : goal.returns
returns c =
    let e = part_log _ _ c.args.image.now _ c.log_start-start.ensures in
    record { words = e; whole = rw e (log-of _ _ _ c.requires.image c.requires.lane_lt_lanes) }
