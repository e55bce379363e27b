-- `append::log_checks` meets its contract: each return by its law, from the tests that led there.
-- Assumes nothing.
use Rattle.std.proofs.Common.{rules, ◌≡◌, sym, ap, ◌∙◌, true, length}
use Rattle.txn.specs.Txn.{max_writes, txn_ok}
use Rattle.record.specs.Record.{is_logged, is_held}
use Rattle.store.specs.inner.StoreLaws.{checked, lane-small}
use Rattle.store.specs.inner.KeepsLaws.{words-there}
use Rattle.append.specs.inner.LogMarkLaws.{checks-lane, checks-txn, checks-logged, checks-held, checks-none}
use Rattle.store.specs.Interface.{number, refusal_of}
use Rattle.store.specs.inner.ResultLaws.{none-found, found-err, err-nonzero}
use Rattle.codec.proofs.Arrays.{chunk_read}
use Rattle.append.proofs.log_checks.Goals as goal
use Rattle.append.proofs.log_checks.Goals.{Joined-else-txn-ne0, else-txn-ne0-via-then-txn-ne0+else-not-txn_ok, else-txn-ne0-via-else-txn-ne0}

pub returns-in_err-drain_refusal : goal.returns-in_err-drain_refusal
returns-in_err-drain_refusal c =
    found-err _ _ _ c.from_residual.ensures.1 (checks-lane _ _ _ _ _ c.in_err-drain_refusal.ensures (err-nonzero _))

pub returns-then-not-txn_ok : goal.returns-then-not-txn_ok
unfolding refusal_of number
returns-then-not-txn_ok c =
    checks-txn _ _ _ _ (none-found c.in_ok-drain_refusal.ensures) c.if-txn-ne0.true
    (sym c.txn_ok.ensures ∙ c.if-not-txn_ok.true)

pub unwrap-words-requires : goal.unwrap-words-requires
unwrap-words-requires c =
    let k = checked _ _ _ _ _ _ _ (none-found c.in_ok-drain_refusal.ensures) in
    search (rules, words-there c.args.state.now k.in_pairs)

pub phase-phase-requires : goal.phase-phase-requires
phase-phase-requires c =
    let k = checked _ _ _ _ _ _ _ (none-found c.in_ok-drain_refusal.ensures) in
    lane-small _ _ k.image.sizes-ok k.lane_below

-- words that came this far are a well-formed transaction
well-formed : (c : Joined-else-txn-ne0) → (length c.args.txn.now ≡ 0 → ⊥) → txn_ok max_writes c.args.sizes.words c.args.txn.now ≡ true
well-formed c =
    elim c.else-txn-ne0.branch [
      | else-txn-ne0-via-then-txn-ne0+else-not-txn_ok w ↦ λ n. sym w.txn_ok.ensures ∙ w.if-not-txn_ok.false
      | else-txn-ne0-via-else-txn-ne0 w ↦ λ n. absurd (n w.if-txn-ne0.false)
    ]

pub returns-then-is_some : goal.returns-then-is_some
unfolding refusal_of number is_logged is_held
returns-then-is_some c =
    checks-logged _ _ _ _ (none-found c.in_ok-drain_refusal.ensures)
    (well-formed (goal.at.returns-then-is_some c).Joined-else-txn-ne0)
    (ap is_logged (sym (rw (chunk_read _ _ _ _ c.unwrap-words.ensures c.first_chunk.ensures.cases) at c.phase-phase.ensures)) ∙ sym c.is_some.ensures ∙ c.if-is_some.true)

pub returns-then-is_some-2 : goal.returns-then-is_some-2
unfolding refusal_of number is_logged is_held
returns-then-is_some-2 c =
    checks-held _ _ _ _ (none-found c.in_ok-drain_refusal.ensures)
    (well-formed (goal.at.returns-then-is_some-2 c).Joined-else-txn-ne0)
    (ap is_logged (sym (rw (chunk_read _ _ _ _ c.unwrap-words.ensures c.first_chunk.ensures.cases) at c.phase-phase.ensures)) ∙ sym c.is_some.ensures ∙ c.if-is_some.false)
    (ap is_held (sym (rw (chunk_read _ _ _ _ c.unwrap-words.ensures c.first_chunk.ensures.cases) at c.lock-lock.ensures)) ∙ sym c.is_some-2.ensures ∙ c.if-is_some-2.true)

pub returns : goal.returns
unfolding refusal_of number is_logged is_held
returns c =
    checks-none _ _ _ _ (none-found c.in_ok-drain_refusal.ensures)
    (well-formed (goal.at.returns c).Joined-else-txn-ne0)
    (ap is_logged (sym (rw (chunk_read _ _ _ _ c.unwrap-words.ensures c.first_chunk.ensures.cases) at c.phase-phase.ensures)) ∙ sym c.is_some.ensures ∙ c.if-is_some.false)
    (ap is_held (sym (rw (chunk_read _ _ _ _ c.unwrap-words.ensures c.first_chunk.ensures.cases) at c.lock-lock.ensures)) ∙ sym c.is_some-2.ensures ∙ c.if-is_some-2.false)
