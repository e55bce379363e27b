-- `lock::lock_checks` meets its contract: each return by its law, from the tests that led there. Assumes nothing.
use Rattle.std.proofs.Common.{rules, sym, ap, ◌∙◌, arith}
use Rattle.image.specs.inner.ImageLaws.{sizes-in}
use Rattle.record.specs.Record.{is_logged, is_held}
use Rattle.codec.specs.Fields.{record_in, pairs_in}
use Rattle.store.specs.inner.Checked.{Checked}
use Rattle.store.specs.inner.StoreLaws.{checked, lane-small}
use Rattle.store.specs.inner.KeepsLaws.{words-there}
use Rattle.lock.proofs.LockLaws.{checks-lane, checks-txn, checks-logged, checks-held, checks-many, checks-none}
use Rattle.store.specs.Interface.{number, refusal_of}
use Rattle.store.specs.inner.ResultLaws.{none-found, found-err, err-nonzero}
use Rattle.codec.proofs.Arrays.{chunk_read}
use Rattle.lock.proofs.lock_checks.Goals as goal
use Rattle.lock.proofs.lock_checks.Goals.{In_ok-drain_refusal}

in-lane : (c : In_ok-drain_refusal) → let a = c.args in
    Checked a.sizes (record_in a.state.now) (pairs_in a.state.now) a.cache.now a.nvm.now a.flags.now a.lane
in-lane c = checked _ _ _ _ _ _ _ (none-found c.in_ok-drain_refusal.ensures)

pub returns-in_err-drain_refusal : goal.returns-in_err-drain_refusal
returns-in_err-drain_refusal c = found-err _ _ _ c.from_residual.ensures.1 (checks-lane _ _ _ _ _ c.in_err-drain_refusal.ensures (err-nonzero _))

pub returns-then-not-txn_ok : goal.returns-then-not-txn_ok
unfolding refusal_of number is_logged is_held
returns-then-not-txn_ok c =
    checks-txn _ _ _ _ (none-found c.in_ok-drain_refusal.ensures) (sym c.txn_ok.ensures ∙ c.if-not-txn_ok.true)

pub unwrap-words-requires : goal.unwrap-words-requires
unwrap-words-requires c =
    let e = (goal.at.unwrap-words-requires c).In_ok-drain_refusal in
    search (rules, words-there c.args.state.now (in-lane e).in_pairs)

pub phase-phase-requires : goal.phase-phase-requires
phase-phase-requires c =
    let e = (goal.at.phase-phase-requires c).In_ok-drain_refusal in
    let k = in-lane e in
    lane-small _ _ k.image.sizes-ok k.lane_below

pub returns-then-is_some : goal.returns-then-is_some
unfolding refusal_of number is_logged is_held
returns-then-is_some c =
    checks-logged _ _ _ _ (none-found c.in_ok-drain_refusal.ensures) (sym c.txn_ok.ensures ∙ c.if-not-txn_ok.false)
    (ap is_logged (sym (rw (chunk_read _ _ _ _ c.unwrap-words.ensures c.first_chunk.ensures.cases) at c.phase-phase.ensures)) ∙ sym c.is_some.ensures ∙ c.if-is_some.true)

pub returns-then-is_some-2 : goal.returns-then-is_some-2
unfolding refusal_of number is_logged is_held
returns-then-is_some-2 c =
    checks-held _ _ _ _ (none-found c.in_ok-drain_refusal.ensures) (sym c.txn_ok.ensures ∙ c.if-not-txn_ok.false)
    (ap is_logged (sym (rw (chunk_read _ _ _ _ c.unwrap-words.ensures c.first_chunk.ensures.cases) at c.phase-phase.ensures)) ∙ sym c.is_some.ensures ∙ c.if-is_some.false)
    (ap is_held (sym (rw (chunk_read _ _ _ _ c.unwrap-words.ensures c.first_chunk.ensures.cases) at c.lock-lock.ensures)) ∙ sym c.is_some-2.ensures ∙ c.if-is_some-2.true)

pub overflow_sub-sizes : goal.overflow_sub-sizes
overflow_sub-sizes c =
    let e = (goal.at.overflow_sub-sizes c).In_ok-drain_refusal in
    omega (arith, (sizes-in _ (in-lane e).image.sizes-ok).slots-low)

pub returns-then-sizes-slots_counted : goal.returns-then-sizes-slots_counted
unfolding refusal_of number is_logged is_held
returns-then-sizes-slots_counted c =
    checks-many _ _ _ _ (none-found c.in_ok-drain_refusal.ensures) (sym c.txn_ok.ensures ∙ c.if-not-txn_ok.false)
    (ap is_logged (sym (rw (chunk_read _ _ _ _ c.unwrap-words.ensures c.first_chunk.ensures.cases) at c.phase-phase.ensures)) ∙ sym c.is_some.ensures ∙ c.if-is_some.false)
    (ap is_held (sym (rw (chunk_read _ _ _ _ c.unwrap-words.ensures c.first_chunk.ensures.cases) at c.lock-lock.ensures)) ∙ sym c.is_some-2.ensures ∙ c.if-is_some-2.false) _
    c.slots_counted.ensures c.if-sizes-slots_counted.true

pub returns : goal.returns
unfolding refusal_of number is_logged is_held
returns c =
    checks-none _ _ _ _ (none-found c.in_ok-drain_refusal.ensures) (sym c.txn_ok.ensures ∙ c.if-not-txn_ok.false)
    (ap is_logged (sym (rw (chunk_read _ _ _ _ c.unwrap-words.ensures c.first_chunk.ensures.cases) at c.phase-phase.ensures)) ∙ sym c.is_some.ensures ∙ c.if-is_some.false)
    (ap is_held (sym (rw (chunk_read _ _ _ _ c.unwrap-words.ensures c.first_chunk.ensures.cases) at c.lock-lock.ensures)) ∙ sym c.is_some-2.ensures ∙ c.if-is_some-2.false) _
    c.slots_counted.ensures c.if-sizes-slots_counted.false
