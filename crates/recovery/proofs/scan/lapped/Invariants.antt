-- `recovery::scan::lapped` meets its contract. The loop's invariant: the latest of the slots passed. Assumes nothing.
use Rattle.std.proofs.Common.{◌≤◌, ◌≡◌}
use Rattle.recovery.specs.inner.Picking.{lap_below}
use Rattle.recovery.proofs.scan.lapped.Given as goal

abbrev pub invariant-loop-k : goal.invariant-loop-k
invariant-loop-k l =
    (l.k ≤ l.k-end) × (l.best ≡ lap_below l.log.words l.log.slots l.log.log.now l.stamps l.stamp l.wrap l.initial.best l.k)
