-- `recovery::scan::latest` meets its contract. Outer invariant: what is offered is what the log holds, all complete sequences among it; inner: the entries
-- passed are whole. A bad slot drops the timestamp, and the first complete one from the top is the latest. The outer measure is how many are offered.
-- Assumes nothing.
use Rattle.std.proofs.Common.{◌≤◌, ◌≡◌, length}
use Rattle.winners.specs.inner.Winners.{Tournament}
use Rattle.image.specs.Image.{log_of}
use Rattle.lane_log.specs.Log.{entries_back}
use Rattle.recovery.specs.inner.Picking.{Offers}
use Rattle.recovery.specs.inner.PickingLaws.{left_over}
use Rattle.recovery.proofs.scan.latest.Given as goal

abbrev pub invariant-loop-i : goal.invariant-loop-i
invariant-loop-i l =
    (l.i ≤ l.count) × (length (entries_back l.fn.sizes.words l.fn.sizes.slots (log_of l.fn.sizes l.lane l.nvm) l.j l.wrap l.i) ≡ l.i) × (l.stamps ≡ l.initial.stamps) × (l.tree ≡ l.initial.tree)

abbrev pub invariant-stamps : goal.invariant-stamps
invariant-stamps l = Offers l.fn.sizes l.nvm l.lane l.stamps × Tournament l.stamps l.tree

abbrev pub decreases-stamps : goal.decreases-stamps
decreases-stamps l = left_over l.stamps l.fn.sizes.slots
