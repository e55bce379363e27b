-- `lock::put_pairs` meets its contract: the loop has put the writes below `i`. Assumes nothing.
use Rattle.lock.specs.inner.PartsLaws.{Put}
use Rattle.lock.proofs.put_pairs.Given as goal

abbrev pub invariant-loop-i : goal.invariant-loop-i
invariant-loop-i l = Put l.writes l.i l.pairs
