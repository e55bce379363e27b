-- `lock::begin` meets its contract: a refused call leaves what it found; otherwise, as the plan says, the lane is drained or the lock is taken.
-- Assumes nothing.
use Rattle.std.proofs.Common.{rules, ◌+◌, sym, ap, ◌∙◌, arith, length}
use Rattle.codec.specs.Fields.{record_in, pairs_in}
use Rattle.store.specs.Calls.{writes_on}
use Rattle.store.specs.Interface.{machine_in, answer_of}
use Rattle.store.specs.inner.KeepsLaws.{words-there}
use Rattle.lock.proofs.LockLaws.{Known, lock-known, lock-refuses, lock-drains, lock-takes, pairs-stored}
use Rattle.store.specs.inner.ResultLaws.{answered-err, err-nonzero}
use Rattle.codec.proofs.Arrays.{chunk_lent}
use Rattle.lock.proofs.begin.Goals as goal
use Rattle.lock.proofs.begin.Goals.{In_ok-plan}

-- what is known where the plan has no refusal
known : (c : In_ok-plan) → let a = c.args in
    Known a.sizes (record_in a.state.now) (pairs_in a.state.now) a.cache.now a.nvm.now a.flags.now a.lane
    (writes_on a.sizes a.txn.now (machine_in a.state.now a.cache.now a.nvm.now a.flags.now)) c.in_ok-plan.plan
known c = lock-known _ _ _ _ _ _ _ _ _ c.in_ok-plan.ensures

pub returns-in_err-plan : goal.returns-in_err-plan
returns-in_err-plan c = rw (answered-err _ _ c.from_residual.ensures.1) (lock-refuses _ _ _ _ _ _ _ _ c.in_err-plan.ensures (err-nonzero _))

pub drain-requires : goal.drain-requires
drain-requires c =
    let e = (goal.at.drain-requires c).In_ok-plan in
    let k = known e in
    record { lane_lt_max_lanes = k.small; nvm_len = k.checked.same-nvm; flags_len = k.checked.same_flags }

pub unwrap-words-requires : goal.unwrap-words-requires
unwrap-words-requires c =
    let e = (goal.at.unwrap-words-requires c).In_ok-plan in
    search (rules, words-there c.args.state.now (known e).checked.in_pairs)

pub put_drained-requires : goal.put_drained-requires
put_drained-requires c =
    let e = (goal.at.put_drained-requires c).In_ok-plan in
    let k = known e in
    k.small

pub returns-then-count-eq0 : goal.returns-then-count-eq0
unfolding answer_of
returns-then-count-eq0 c =
    lock-drains _ _ _ _ _ _ _ _ _ c.in_ok-plan.ensures _ _ c.drain.ensures.copied c.drain.ensures.cleared _ _
    (rw (chunk_lent _ _ _ _ c.unwrap-words.ensures c.first_chunk_mut.ensures.cases) at c.put_drained.ensures) (ap length (sym c.as_slice-writes.ensures.value) ∙ c.if-count-eq0.true)

pub overflow_add-stamp : goal.overflow_add-stamp
overflow_add-stamp c =
    let e = (goal.at.overflow_add-stamp c).In_ok-plan in
    omega (arith, (known e).room (λ d. c.if-count-eq0.false (ap length c.as_slice-writes.ensures.value ∙ d)), (rw (chunk_lent _ _ _ _ c.unwrap-words.ensures c.first_chunk_mut.ensures.cases) at c.clock-stamp.ensures))

pub put_taken-requires : goal.put_taken-requires
put_taken-requires c =
    let e = (goal.at.put_taken-requires c).In_ok-plan in
    let k = known e in
    k.small

pub put_pairs-requires : goal.put_pairs-requires
put_pairs-requires c =
    c.as_slice-writes.ensures.few

pub returns : goal.returns
unfolding answer_of
returns c =
    let e = (goal.at.returns c).In_ok-plan in
    let s = c.args.state.now in
    let o = chunk_lent _ _ _ _ c.unwrap-words.ensures c.first_chunk_mut.ensures.cases in
    rw c.as_slice-writes.ensures.value
    (lock-takes _ _ _ _ _ _ _ _ _ e.in_ok-plan.ensures _ _ c.drain.ensures.copied c.drain.ensures.cleared _
    (rw c.as_slice-writes.ensures.value at c.put_pairs.ensures) _ (ap (λ n. n + 2) (rw o at c.clock-stamp.ensures)) _ _ _
    (pairs-stored c.put_taken.new.words (pairs_in s) c.put_pairs.new.pairs (known e).checked.in_pairs)
    (rw (o, c.as_slice-writes.ensures.value) at c.put_taken.ensures) (λ d. c.if-count-eq0.false (ap length c.as_slice-writes.ensures.value ∙ d)))
