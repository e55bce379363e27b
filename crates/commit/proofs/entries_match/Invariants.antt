-- `commit::entries_match` is `entries_match`: in the loop, what is left to compare from the present slot on decides.
use Rattle.commit.specs.inner.CommitLaws.{Compared}
use Rattle.commit.proofs.entries_match.Given as goal

abbrev pub invariant-loop-write : goal.invariant-loop-write
invariant-loop-write l = Compared l.log.words l.log.slots l.log.log.now l.first l.writes l.write-index l.slot
