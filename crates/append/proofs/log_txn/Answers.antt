-- `append::log_txn` meets its contract: where there is no room the step is refused; otherwise, as the run says, the machine is the drained one or the one
-- appended to. Assumes nothing.
use Rattle.std.proofs.Common.{sym, ap, ◌∙◌, length, ne_eqb, rules}
use Rattle.store.specs.inner.StoreLaws.{checked, lane-small}
use Rattle.store.specs.inner.CachedWritesLaws.{run_on}
use Rattle.codec.specs.inner.ReadLaws.{lanes-read}
use Rattle.store.specs.inner.KeepsLaws.{words-there}
use Rattle.append.specs.inner.LogMarkLaws.{unrefused, log-room, log-refuses, log-searchable, log-known, log-after}
use Rattle.append.specs.inner.LogMarkLaws.{log-drains, log-writes}
use Rattle.store.specs.inner.ResultLaws.{answered-err, err-nonzero}
use Rattle.store.specs.Interface.{keeps, answer_of}
use Rattle.codec.proofs.Arrays.{chunk_read, chunk_lent}
use Rattle.append.proofs.log_txn.Goals as goal

pub writes_on-writes-requires : goal.writes_on-writes-requires
writes_on-writes-requires c =
    let u = unrefused _ _ _ _ c.requires.flags_value in
    (search rules, ((checked _ _ _ _ _ _ _ u.at-lane).image, (search rules, u.txn-ok c.requires.fact)))

pub unwrap-requires : goal.unwrap-requires
unwrap-requires c =
    search (rules, words-there c.args.state.now (checked _ _ _ _ _ _ _ (unrefused _ _ _ _ c.requires.flags_value).at-lane).in_pairs)

pub plan_log-requires : goal.plan_log-requires
plan_log-requires c =
    record {
      searchable = rw (chunk_read _ _ _ _ c.unwrap.ensures c.first_chunk.ensures.cases)
          (log-searchable _ _ _ _ _ _ _ _ _ (lanes-read _) c.requires.flags_value (ap length (run_on _ _ _ _ _ _ _ _ (c.as_slice-writes.ensures.value ∙ c.writes_on-writes.ensures))));
    }

pub returns-in_err-latest : goal.returns-in_err-latest
returns-in_err-latest c =
    rw (answered-err _ _ c.from_residual.ensures.1)
    (log-refuses _ _ _ _ _ _ _ _
    ((rw (chunk_read _ _ _ _ c.unwrap.ensures c.first_chunk.ensures.cases) at c.in_err-latest.ensures)
    ∙ log-room _ _ _ _ (unrefused _ _ _ _ c.requires.flags_value) _ (ap length (run_on _ _ _ _ _ _ _ _ (c.as_slice-writes.ensures.value ∙ c.writes_on-writes.ensures))) _ (sym (ne_eqb _ 0 c.requires.fact)))
    (err-nonzero _))

pub drain-requires : goal.drain-requires
drain-requires c =
    let k = checked _ _ _ _ _ _ _ (unrefused _ _ _ _ c.requires.flags_value).at-lane in
    record { lane_lt_max_lanes = lane-small _ _ k.image.sizes-ok k.lane_below; nvm_len = k.same-nvm; flags_len = k.same_flags }

pub put_drained-requires : goal.put_drained-requires
put_drained-requires c =
    let k = checked _ _ _ _ _ _ _ (unrefused _ _ _ _ c.requires.flags_value).at-lane in
    lane-small _ _ k.image.sizes-ok k.lane_below

pub returns-then-is_empty : goal.returns-then-is_empty
unfolding answer_of
returns-then-is_empty c =
    let v = run_on _ _ _ _ _ _ _ _ (c.as_slice-writes.ensures.value ∙ c.writes_on-writes.ensures) in
    let n = sym (rw (chunk_read _ _ _ _ c.unwrap.ensures c.first_chunk.ensures.cases) at c.in_ok-latest.ensures.0) ∙ log-room _ _ _ _ (unrefused _ _ _ _ c.requires.flags_value) _ (ap length v) _ (sym (ne_eqb _ 0 c.requires.fact)) in
    log-drains _ _ _ _ _ _ _ _ _ c.drain.ensures.copied c.drain.ensures.cleared _ _ _
    (log-known _ _ _ _ _ _ _ _ _ (c.in_ok-latest.ensures.1) _ c.requires.flags_value v) (sym n) c.requires.fact _ _
    (rw (chunk_lent _ _ _ _ c.unwrap-words.ensures c.first_chunk_mut.ensures.cases) at c.put_drained.ensures) (search rules)

pub log_writes-requires : goal.log_writes-requires
log_writes-requires c =
    let v = run_on _ _ _ _ _ _ _ _ (c.as_slice-writes.ensures.value ∙ c.writes_on-writes.ensures) in
    let u = unrefused _ _ _ _ c.requires.flags_value in
    let n = sym (rw (chunk_read _ _ _ _ c.unwrap.ensures c.first_chunk.ensures.cases) at c.in_ok-latest.ensures.0) ∙ log-room _ _ _ _ u _ (ap length v) _ (sym (ne_eqb _ 0 c.requires.fact)) in
    let l = c.in_ok-latest.ensures.1 in record {
      after_drain = rw (chunk_lent _ _ _ _ c.unwrap-words.ensures c.first_chunk_mut.ensures.cases)
          (log-after _ _ _ _ _ _ _ _ _ l _ (log-known _ _ _ _ _ _ _ _ _ l _ c.requires.flags_value v) (sym n) (search rules) (lanes-read _) _
          c.drain.ensures.cleared);
    }

pub returns : goal.returns
returns c =
    let v = run_on _ _ _ _ _ _ _ _ (c.as_slice-writes.ensures.value ∙ c.writes_on-writes.ensures) in
    let n = sym (rw (chunk_read _ _ _ _ c.unwrap.ensures c.first_chunk.ensures.cases) at c.in_ok-latest.ensures.0) ∙ log-room _ _ _ _ (unrefused _ _ _ _ c.requires.flags_value) _ (ap length v) _ (sym (ne_eqb _ 0 c.requires.fact)) in
    (rw (chunk_lent _ _ _ _ c.unwrap-words.ensures c.first_chunk_mut.ensures.cases) at c.log_writes.ensures) _ _ _
    ∙ ap (keeps _)
    (log-writes _ _ _ _ _ _ _ _ _ c.drain.ensures.copied c.drain.ensures.cleared _ _ _
    (log-known _ _ _ _ _ _ _ _ _ (c.in_ok-latest.ensures.1) _ c.requires.flags_value v) (sym n) c.requires.fact (search rules))
