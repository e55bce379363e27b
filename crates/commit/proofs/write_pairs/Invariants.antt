-- `commit::write_pairs` meets its contract: the loop has written and flushed the pairs before the present one.
use Rattle.commit.specs.inner.CommitLaws.{Written}
use Rattle.commit.proofs.write_pairs.Given as goal

abbrev pub invariant-loop-pair : goal.invariant-loop-pair
invariant-loop-pair l = Written l.lane l.pairs l.initial.cache l.initial.flags l.pair-index l.cache l.flags
