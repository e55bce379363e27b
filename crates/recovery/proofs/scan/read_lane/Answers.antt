-- `recovery::scan::read_lane` meets its contract: what its calls ensure, one after another.
-- Assumes nothing.
use Rattle.std.proofs.Common.{arith}
use Rattle.recovery.specs.inner.LanesLaws.{lane-bracket}
use Rattle.recovery.specs.inner.ScanLaws.{count_low}
use Rattle.recovery.proofs.scan.read_lane.Goals as goal

pub build-requires : goal.build-requires
build-requires c =
    lane-bracket _ c.requires.image.sizes-ok _ _ c.offer-seen.ensures.offers.long c.requires.tree_len

pub overflow_add-result : goal.overflow_add-result
overflow_add-result c =
    omega (
      arith,
      count_low _ c.requires.image.sizes-ok _ _ _ _ c.requires.lane_lt_lanes c.requires.torn_bound c.offer-seen.ensures.torn,
    )
