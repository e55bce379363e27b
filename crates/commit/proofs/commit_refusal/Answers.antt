-- `commit::commit_refusal` is the number of the first of causes 7, 11 and 8 that holds, test by test.
use Rattle.std.proofs.Common.{◌≡◌, refl, ◌∙◌, ap, not, is_some}
use Rattle.record.specs.Record.{is_logged}
use Rattle.commit.specs.inner.CommitLaws.{commit-idle, commit-held, commit-spent, commit-free}
use Rattle.store.specs.Interface.{number, refusal_of}
use Rattle.commit.proofs.commit_refusal.Goals as goal

pub returns-then-is_none : goal.returns-then-is_none
unfolding refusal_of number is_logged
returns-then-is_none c =
    let f : is_some c.args.phase ≡ is_logged c.args.phase = refl in
    commit-idle _ _ _ _ f (c.is_none.ensures ∙ ap not c.if-is_none.true)

pub returns-then-held : goal.returns-then-held
unfolding refusal_of number is_logged
returns-then-held c =
    let f : is_some c.args.phase ≡ is_logged c.args.phase = refl in
    commit-held _ _ _ _ f (c.is_none.ensures ∙ ap not c.if-is_none.false) c.if-held.true

pub returns-then-spent : goal.returns-then-spent
unfolding refusal_of number is_logged
returns-then-spent c =
    let f : is_some c.args.phase ≡ is_logged c.args.phase = refl in
    commit-spent _ _ _ _ f (c.is_none.ensures ∙ ap not c.if-is_none.false) c.if-held.false c.if-spent.true

pub returns : goal.returns
unfolding refusal_of number is_logged
returns c =
    let f : is_some c.args.phase ≡ is_logged c.args.phase = refl in
    commit-free _ _ _ _ f (c.is_none.ensures ∙ ap not c.if-is_none.false) c.if-held.false c.if-spent.false
