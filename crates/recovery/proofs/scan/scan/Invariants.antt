-- `recovery::scan::scan` meets its contract. The loop's invariant: the lanes below `lane` are read, each into its part of the arrays. Assumes nothing.
use Rattle.std.proofs.Common.{◌≤◌, length}
use Rattle.recovery.specs.inner.ScanLaws.{Scanned}
use Rattle.recovery.proofs.scan.scan.Given as goal

abbrev pub invariant-loop-lane : goal.invariant-loop-lane
invariant-loop-lane l = (l.lane ≤ l.lane-end)
    × Scanned l.sizes l.nvm (length l.fn.stamps) l.lane l.stamps l.tree l.found.boundary l.found.base l.found.torn
