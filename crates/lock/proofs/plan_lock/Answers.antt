-- `lock::plan_lock` meets its contract: the checks, then the run on the data words and, where it writes, the room for the slots counted.
-- Assumes nothing.
use Rattle.std.proofs.Common.{refl, sym, ◌∙◌, take, rules}
use Rattle.codec.specs.Fields.{record_length}
use Rattle.store.specs.Interface.{machine_in}
use Rattle.store.specs.inner.StoreLaws.{checked}
use Rattle.store.specs.inner.CachedWritesLaws.{run_on}
use Rattle.store.specs.inner.KeepsLaws.{words-there}
use Rattle.codec.specs.inner.ReadLaws.{lanes-read}
use Rattle.lock.proofs.LockLaws.{lock-refused, Unrefused, unrefused, lock-nothing, lock-room, lock-searchable, planned-err}
use Rattle.store.specs.inner.ResultLaws.{none-found, err-nonzero}
use Rattle.codec.proofs.Arrays.{chunk_read}
use Rattle.lock.proofs.plan_lock.Goals as goal
use Rattle.lock.proofs.plan_lock.Goals.{In_ok-lock_checks}

-- the checks found nothing
passed : (c : In_ok-lock_checks) → let a = c.args in
    Unrefused a.sizes a.lane a.txn.now (machine_in a.state.now a.cache.now a.nvm.now a.flags.now)
passed c = unrefused _ _ _ _ (none-found c.in_ok-lock_checks.ensures)

pub returns-in_err-lock_checks : goal.returns-in_err-lock_checks
returns-in_err-lock_checks c =
    planned-err _ _ _ _ _ c.from_residual.ensures.1 (lock-refused _ _ _ _ _ c.in_err-lock_checks.ensures (err-nonzero _))

pub writes_on-writes-requires : goal.writes_on-writes-requires
writes_on-writes-requires c = let u = passed c in (search rules, ((checked _ _ _ _ _ _ _ u.at-lane).image, (search rules, u.txn-ok)))

pub unwrap-words-requires : goal.unwrap-words-requires
unwrap-words-requires c =
    let e = (goal.at.unwrap-words-requires c).In_ok-lock_checks in
    search (rules, words-there c.args.state.now (checked _ _ _ _ _ _ _ (passed e).at-lane).in_pairs)

pub latest_near-latest-requires : goal.latest_near-latest-requires
latest_near-latest-requires c =
    let e = (goal.at.latest_near-latest-requires c).In_ok-lock_checks in
    let k = checked _ _ _ _ _ _ _ (passed e).at-lane in
    record { image = k.image; lane_lt_lanes = k.lane_below }

pub returns-then-len-eq0 : goal.returns-then-len-eq0
returns-then-len-eq0 c =
    let e = (goal.at.returns-then-len-eq0 c).In_ok-lock_checks in
    let v = run_on _ _ _ _ _ _ _ _ c.writes_on-writes.ensures in
    record { number = sym (lock-nothing _ _ _ _ (passed e) _ v (sym c.len.ensures.value ∙ c.if-len-eq0.true)); writes = v; latest = c.latest_near-latest.ensures }

pub append_refusal-requires : goal.append_refusal-requires
append_refusal-requires c =
    let e = (goal.at.append_refusal-requires c).In_ok-lock_checks in
    let s = c.args.state.now in
    record {
      searchable = rw (chunk_read _ _ _ _ c.unwrap-words.ensures c.first_chunk.ensures.cases)
          (lock-searchable _ _ _ _ _ _ _ _ (passed e) (lanes-read (take record_length s)) _ _ c.latest_near-latest.ensures c.slots_counted-slots.ensures);
    }

-- where the transaction writes, what is asked then is the room for the slots counted
pub returns-in_err-append_refusal : goal.returns-in_err-append_refusal
returns-in_err-append_refusal c =
    let e = (goal.at.returns-in_err-append_refusal c).In_ok-lock_checks in
    let v = run_on _ _ _ _ _ _ _ _ c.writes_on-writes.ensures in
    planned-err _ _ _ _ _ c.from_residual-in_err-append_refusal.ensures.1
    (lock-room _ _ _ _ (passed e) _ v _ _ _ (rw (chunk_read _ _ _ _ c.unwrap-words.ensures c.first_chunk.ensures.cases) at c.in_err-append_refusal.ensures) c.slots_counted-slots.ensures refl (λ d. c.if-len-eq0.false (c.len.ensures.value ∙ d)))

pub returns : goal.returns
returns c =
    let e = (goal.at.returns c).In_ok-lock_checks in
    let v = run_on _ _ _ _ _ _ _ _ c.writes_on-writes.ensures in
    record {
      number =
          sym
          (lock-room _ _ _ _ (passed e) _ v _ _ _ (sym (none-found (rw (chunk_read _ _ _ _ c.unwrap-words.ensures c.first_chunk.ensures.cases) at c.in_ok-append_refusal.ensures))) c.slots_counted-slots.ensures refl (λ d. c.if-len-eq0.false (c.len.ensures.value ∙ d)));
      writes = v;
      latest = c.latest_near-latest.ensures;
    }
