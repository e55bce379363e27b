-- `commit::matches` meets its contract: the counts compared, then the entries in the lane's log.
use Rattle.commit.specs.inner.CommitLaws.{matches-few, matches-log}
use Rattle.commit.proofs.matches.Goals as goal

pub returns-then-writes-held : goal.returns-then-writes-held
returns-then-writes-held c = matches-few _ _ _ _ _ c.if-writes-held.true

pub returns : goal.returns
returns c = let e = c.of.ensures in
    matches-log _ _ _ _ _ _ _ c.if-writes-held.false e.log (rw (e.words, e.slots) at c.entries_match.ensures)
