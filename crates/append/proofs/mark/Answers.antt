-- `append::mark` meets its contract: a refused call is the step refused; otherwise a mark is appended to the drained lane.
-- Assumes nothing.
use Rattle.std.proofs.Common.{rules, ap, ◌∙◌}
use Rattle.record.specs.Record.{is_logged}
use Rattle.store.specs.Calls.{mark_step}
use Rattle.store.specs.Interface.{keeps, answer_of}
use Rattle.store.specs.inner.StoreLaws.{checked, lane-small}
use Rattle.codec.specs.inner.ReadLaws.{lanes-read}
use Rattle.store.specs.inner.KeepsLaws.{words-there}
use Rattle.append.specs.inner.LogMarkLaws.{refuses, mark-lane, mark-after, mark-taken}
use Rattle.store.specs.inner.ResultLaws.{answered-err, err-nonzero}
use Rattle.store.specs.declared.Answer.TheVariants.{Marked}
use Rattle.codec.proofs.Arrays.{chunk_lent}
use Rattle.append.proofs.mark.Goals as goal

pub returns-in_err-latest : goal.returns-in_err-latest
unfolding mark_step
returns-in_err-latest c =
    rw (answered-err _ _ c.from_residual.ensures.1) (refuses _ _ _ _ _ _ _ c.in_err-latest.ensures (err-nonzero _))

pub drain-requires : goal.drain-requires
drain-requires c =
    let k = checked _ _ _ _ _ _ _ (mark-lane _ _ _ (c.in_ok-latest.ensures.0)) in
    record { lane_lt_max_lanes = lane-small _ _ k.image.sizes-ok k.lane_below; nvm_len = k.same-nvm; flags_len = k.same_flags }

pub unwrap-words-requires : goal.unwrap-words-requires
unwrap-words-requires c =
    let k = checked _ _ _ _ _ _ _ (mark-lane _ _ _ (c.in_ok-latest.ensures.0)) in
    search (rules, words-there c.args.state.now k.in_pairs)

pub phase-phase-requires : goal.phase-phase-requires
phase-phase-requires c =
    let k = checked _ _ _ _ _ _ _ (mark-lane _ _ _ (c.in_ok-latest.ensures.0)) in
    lane-small _ _ k.image.sizes-ok k.lane_below

pub put_mark-stamp-requires : goal.put_mark-stamp-requires
put_mark-stamp-requires c =
    let n = c.in_ok-latest.ensures.0 in
    let k = checked _ _ _ _ _ _ _ (mark-lane _ _ _ n) in
    record {
      after_drain = rw (chunk_lent _ _ _ _ c.unwrap-words.ensures c.first_chunk_mut.ensures.cases) (mark-after _ _ _ _ _ _ _ _ (c.in_ok-latest.ensures.1) n (lanes-read _) _ c.drain.ensures.cleared);
    }

pub returns : goal.returns
unfolding answer_of is_logged
returns c =
    (rw (chunk_lent _ _ _ _ c.unwrap-words.ensures c.first_chunk_mut.ensures.cases) at c.put_mark-stamp.ensures.marked) _ _ _ (Marked (record { stamp = c.put_mark-stamp.result; dropped = c.is_some-dropped.result }))
    ∙ ap (keeps _)
    (mark-taken _ _ _ _ _ _ _ _ _ c.drain.ensures.copied c.drain.ensures.cleared (c.in_ok-latest.ensures.0) _ _ _
    (rw (chunk_lent _ _ _ _ c.unwrap-words.ensures c.first_chunk_mut.ensures.cases) at c.put_mark-stamp.ensures.stamp)
    (rw (chunk_lent _ _ _ _ c.unwrap-words.ensures c.first_chunk_mut.ensures.cases) at c.phase-phase.ensures) c.is_some-dropped.ensures)
