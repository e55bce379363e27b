-- `recovery::scan::offer` meets its contract. The loop's invariant: the slots below slot j are offered, the greatest of their timestamps is known and the
-- torn ones are counted. Assumes nothing.
use Rattle.std.proofs.Common.{◌≤◌}
use Rattle.recovery.specs.inner.ScanLaws.{OfferedTo}
use Rattle.recovery.proofs.scan.offer.Given as goal

abbrev pub invariant-loop-j : goal.invariant-loop-j
invariant-loop-j l = (l.j ≤ l.j-end) × OfferedTo l.fn.sizes l.nvm l.lane l.j l.stamps l.greatest l.torn
