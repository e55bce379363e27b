-- `txn::run` meets its contract. The loop's invariant is `Reached`: the writes so far, and the rest of the instructions gives the rest. Assumes nothing.
use Rattle.std.proofs.Common.{◌/◌, length}
use Rattle.txn.specs.inner.Progress.{Reached}
use Rattle.txn.proofs.run.Given as goal

abbrev pub invariant-loop-instruction : goal.invariant-loop-instruction
invariant-loop-instruction g l = Reached l.txn l.memory (length l.txn / 4) l.instruction-index l.passed l.writes l.last
