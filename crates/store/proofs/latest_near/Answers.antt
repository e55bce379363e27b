-- `store::latest_near` meets its contract: neither the lane nor the slot looked at first matters to its latest sequence. Assumes nothing.
use Rattle.std.proofs.Common.{sym, ◌∙◌, arith}
use Rattle.image.specs.inner.ImageLaws.{sizes-in}
use Rattle.lane_log.specs.inner.LogLaws.{latest-in}
use Rattle.store.specs.inner.StoreLaws.{lane-small}
use Rattle.store.proofs.latest_near.Goals as goal

pub cursor-cursor-requires : goal.cursor-cursor-requires
cursor-cursor-requires c = let p = c.requires in lane-small _ _ p.image.sizes-ok p.lane_lt_lanes

pub overflow_sub-last : goal.overflow_sub-last
overflow_sub-last c = omega (arith, (sizes-in _ c.requires.image.sizes-ok).slots-low)

pub returns : goal.returns
returns c = let e = c.of.ensures in c.latest_near.ensures ∙ rw (e.words, e.slots, e.base, e.log) (sym (latest-in _ _ _))
