-- `commit::entries_match` is `entries_match`: in the loop, what is left to compare from the present slot on decides.
use Rattle.std.proofs.Common.{refl, rules}
use Rattle.commit.specs.inner.CommitLaws.{compared-more, compared-fails, compared-all}
use Rattle.commit.proofs.entries_match.Goals as goal

pub returns-then-not-entry_matches : goal.returns-then-not-entry_matches
returns-then-not-entry_matches c =
    let l = c.loop-write in
    compared-fails _ _ _ _ c.args.writes.now l.write-index l.slot l.invariant (search rules) _ _ _ refl c.slot_at.ensures c.entry_matches.ensures
    c.if-not-entry_matches.true

pub loop-write-preserved : goal.loop-write-preserved
loop-write-preserved c =
    let l = c.loop-write in
    compared-more _ _ _ _ c.args.writes.now l.write-index l.slot l.invariant (search rules) _ _ _ refl c.slot_at.ensures c.entry_matches.ensures _
    c.if-not-entry_matches.false c.circular-slot.ensures

pub returns : goal.returns
returns c = compared-all _ _ _ _ _ _ _ c.loop-write.invariant (search rules)
