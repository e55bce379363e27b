-- `lock::proceed` meets its contract: a refused call leaves what it found, and otherwise the next part is logged or the logged one written. Assumes nothing.
use Rattle.std.proofs.Common.{rules, refl, sym, ap, ◌∙◌}
use Rattle.record.specs.Record.{locked_in}
use Rattle.codec.specs.Fields.{record_in, pairs_in}
use Rattle.store.specs.Interface.{keeps}
use Rattle.store.specs.inner.StoreLaws.{lane-small}
use Rattle.store.specs.inner.KeepsLaws.{words-there}
use Rattle.lock.proofs.LockLaws.{Accepted, proceed-accepted, proceed-refuses, part_at, proceed-logs, proceed-writes}
use Rattle.store.specs.inner.ResultLaws.{none-found, answered-err, err-nonzero}
use Rattle.codec.proofs.Arrays.{chunk_read}
use Rattle.codec.proofs.WriteLaws.{locked-default}
use Rattle.lock.proofs.proceed.Goals as goal
use Rattle.lock.proofs.proceed.Goals.{In_ok-proceed_refusal}

accepted : (c : In_ok-proceed_refusal) → let a = c.args in
    Accepted a.sizes (record_in a.state.now) (pairs_in a.state.now) a.cache.now a.nvm.now a.flags.now a.lane
accepted c = proceed-accepted _ _ _ _ _ _ _ _ (sym (none-found c.in_ok-proceed_refusal.ensures)) refl

pub returns-in_err-proceed_refusal : goal.returns-in_err-proceed_refusal
returns-in_err-proceed_refusal c =
    rw (answered-err _ _ c.from_residual.ensures.1) (proceed-refuses _ _ _ _ _ _ _ c.in_err-proceed_refusal.ensures (err-nonzero _))

pub unwrap-words-requires : goal.unwrap-words-requires
unwrap-words-requires c =
    let e = (goal.at.unwrap-words-requires c).In_ok-proceed_refusal in
    search (rules, words-there c.args.state.now (accepted e).known.in_pairs)

pub latest_near-latest-requires : goal.latest_near-latest-requires
latest_near-latest-requires c =
    let e = (goal.at.latest_near-latest-requires c).In_ok-proceed_refusal in
    let k = (accepted e).known in
    record { image = k.image; lane_lt_lanes = k.lane_below }

pub drain-requires : goal.drain-requires
drain-requires c =
    let e = (goal.at.drain-requires c).In_ok-proceed_refusal in
    let k = (accepted e).known in
    record { lane_lt_max_lanes = lane-small _ _ k.image.sizes-ok k.lane_below; nvm_len = k.same-nvm; flags_len = k.same_flags }

pub log_part-requires : goal.log_part-requires
log_part-requires c =
    let e = (goal.at.log_part-requires c).In_ok-proceed_refusal in record {
      part_at = part_at _ c.args.state.now _ _ _ _ _ _ _ (accepted e) c.latest_near-latest.ensures c.drain.ensures.cleared
          (locked-default _ _ c.unwrap_or_default-held.ensures ∙ ap locked_in (rw (chunk_read _ _ _ _ c.unwrap-words.ensures c.first_chunk.ensures.cases) at c.lock.ensures));
      logged_value = c.if-held.true;
    }

pub returns-then-held : goal.returns-then-held
returns-then-held c =
    let e = (goal.at.returns-then-held c).In_ok-proceed_refusal in
    c.log_part.ensures _
    ∙ ap (keeps c.args.state.now)
    (proceed-logs _ _ _ _ _ _ _ _ _ c.drain.ensures.copied c.drain.ensures.cleared _ (locked-default _ _ c.unwrap_or_default-held.ensures ∙ ap locked_in (rw (chunk_read _ _ _ _ c.unwrap-words.ensures c.first_chunk.ensures.cases) at c.lock.ensures)) _
    (sym (none-found e.in_ok-proceed_refusal.ensures)) refl c.if-held.true)

pub write_part-requires : goal.write_part-requires
write_part-requires c =
    let e = (goal.at.write_part-requires c).In_ok-proceed_refusal in
    part_at _ c.args.state.now _ _ _ _ _ _ _ (accepted e) c.latest_near-latest.ensures c.drain.ensures.cleared
    (locked-default _ _ c.unwrap_or_default-held.ensures ∙ ap locked_in (rw (chunk_read _ _ _ _ c.unwrap-words.ensures c.first_chunk.ensures.cases) at c.lock.ensures))

pub returns : goal.returns
returns c =
    let e = (goal.at.returns c).In_ok-proceed_refusal in
    c.write_part.ensures _
    ∙ ap (keeps c.args.state.now)
    (proceed-writes _ _ _ _ _ _ _ _ _ c.drain.ensures.copied c.drain.ensures.cleared _ (locked-default _ _ c.unwrap_or_default-held.ensures ∙ ap locked_in (rw (chunk_read _ _ _ _ c.unwrap-words.ensures c.first_chunk.ensures.cases) at c.lock.ensures)) _
    (sym (none-found e.in_ok-proceed_refusal.ensures)) refl c.if-held.false)
