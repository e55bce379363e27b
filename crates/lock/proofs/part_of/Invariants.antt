-- `lock::part_of` meets its contract: the loop has copied the first `i` pairs. Assumes nothing.
use Rattle.lock.specs.inner.PartsLaws.{Copied}
use Rattle.lock.proofs.part_of.Given as goal

abbrev pub invariant-loop-i : goal.invariant-loop-i
invariant-loop-i l = Copied l.pairs l.from l.i l.part
