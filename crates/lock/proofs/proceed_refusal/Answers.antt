-- `lock::proceed_refusal` meets its contract: each return by its law, from the tests that led there. Assumes nothing.
use Rattle.std.proofs.Common.{rules, refl, sym, ap, ◌∙◌}
use Rattle.record.specs.Record.{is_held, locked_in}
use Rattle.store.specs.inner.StoreLaws.{checked}
use Rattle.store.specs.inner.KeepsLaws.{words-there}
use Rattle.lock.proofs.LockLaws.{proceed-lane, proceed-free, proceed-other, proceed-none}
use Rattle.store.specs.Interface.{number, refusal_of}
use Rattle.store.specs.inner.ResultLaws.{none-found, found-err, err-nonzero}
use Rattle.codec.proofs.Arrays.{chunk_read}
use Rattle.lock.proofs.proceed_refusal.Goals as goal

pub returns-in_err-drain_refusal : goal.returns-in_err-drain_refusal
returns-in_err-drain_refusal c = found-err _ _ _ c.from_residual.ensures.1 (proceed-lane _ _ _ _ c.in_err-drain_refusal.ensures (err-nonzero _))

pub unwrap-requires : goal.unwrap-requires
unwrap-requires c =
    let k = checked _ _ _ _ _ _ _ (none-found c.in_ok-drain_refusal.ensures) in
    search (rules, words-there c.args.state.now k.in_pairs)

pub returns-in_default : goal.returns-in_default
unfolding refusal_of number is_held
returns-in_default c =
    let e = sym (rw (chunk_read _ _ _ _ c.unwrap.ensures c.first_chunk.ensures.cases) at c.lock-lock.ensures) ∙ c.in_default.is in
    proceed-free _ _ _ _ (sym (none-found c.in_ok-drain_refusal.ensures)) refl (ap is_held e)

pub returns-then-held-lane : goal.returns-then-held-lane
unfolding refusal_of number is_held locked_in
returns-then-held-lane c =
    let e = sym (rw (chunk_read _ _ _ _ c.unwrap.ensures c.first_chunk.ensures.cases) at c.lock-lock.ensures) ∙ c.in-Some.is in
    proceed-other _ _ _ _ (sym (none-found c.in_ok-drain_refusal.ensures)) refl (ap is_held e) _ (sym (ap locked_in e)) c.if-held-lane.true

pub returns : goal.returns
unfolding refusal_of number is_held locked_in
returns c =
    let e = sym (rw (chunk_read _ _ _ _ c.unwrap.ensures c.first_chunk.ensures.cases) at c.lock-lock.ensures) ∙ c.in-Some.is in
    proceed-none _ _ _ _ (sym (none-found c.in_ok-drain_refusal.ensures)) refl (ap is_held e) _ (sym (ap locked_in e)) c.if-held-lane.false
