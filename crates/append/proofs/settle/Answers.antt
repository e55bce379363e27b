-- `append::settle` meets its contract: where there is no room the step is refused; otherwise a mark is appended to the drained lane.
-- Assumes nothing.
use Rattle.std.proofs.Common.{rules, refl, sym, ap, ◌∙◌}
use Rattle.store.specs.Interface.{keeps, answer_of}
use Rattle.store.specs.inner.StoreLaws.{checked, lane-small}
use Rattle.codec.specs.inner.ReadLaws.{lanes-read}
use Rattle.store.specs.inner.KeepsLaws.{words-there}
use Rattle.append.specs.inner.LogMarkLaws.{unrefused, log-room, log-refuses, log-searchable, settle-count}
use Rattle.append.specs.inner.LogMarkLaws.{settle-after, log-settles}
use Rattle.store.specs.inner.ResultLaws.{answered-err, err-nonzero}
use Rattle.store.specs.declared.Answer.TheVariants.{Settled}
use Rattle.codec.proofs.Arrays.{chunk_read, chunk_lent}
use Rattle.append.proofs.settle.Goals as goal

pub unwrap-requires : goal.unwrap-requires
unwrap-requires c =
    search (rules, words-there c.args.state.now (checked _ _ _ _ _ _ _ (unrefused _ _ _ _ c.requires).at-lane).in_pairs)

pub plan_log-requires : goal.plan_log-requires
plan_log-requires c =
    record {
      searchable = rw (chunk_read _ _ _ _ c.unwrap.ensures c.first_chunk.ensures.cases) (log-searchable _ _ _ _ _ _ _ _ _ (lanes-read _) c.requires (settle-count _ _));
    }

pub returns-in_err-latest : goal.returns-in_err-latest
returns-in_err-latest c =
    rw (answered-err _ _ c.from_residual.ensures.1)
    (log-refuses _ _ _ _ _ _ _ _
    ((rw (chunk_read _ _ _ _ c.unwrap.ensures c.first_chunk.ensures.cases) at c.in_err-latest.ensures) ∙ log-room _ _ _ _ (unrefused _ _ _ _ c.requires) _ (settle-count _ _) _ refl)
    (err-nonzero _))

pub drain-requires : goal.drain-requires
drain-requires c =
    let k = checked _ _ _ _ _ _ _ (unrefused _ _ _ _ c.requires).at-lane in
    record { lane_lt_max_lanes = lane-small _ _ k.image.sizes-ok k.lane_below; nvm_len = k.same-nvm; flags_len = k.same_flags }

pub put_mark-requires : goal.put_mark-requires
put_mark-requires c =
    let u = unrefused _ _ _ _ c.requires in
    let n = sym (rw (chunk_read _ _ _ _ c.unwrap.ensures c.first_chunk.ensures.cases) at c.in_ok-latest.ensures.0) ∙ log-room _ _ _ _ u _ (settle-count _ _) _ refl in
    record {
      after_drain = rw (chunk_lent _ _ _ _ c.unwrap-words.ensures c.first_chunk_mut.ensures.cases) (settle-after _ _ _ _ _ _ _ _ (c.in_ok-latest.ensures.1) (sym n) (lanes-read _) _ c.drain.ensures.cleared);
    }

pub returns : goal.returns
unfolding answer_of
returns c =
    let n = sym (rw (chunk_read _ _ _ _ c.unwrap.ensures c.first_chunk.ensures.cases) at c.in_ok-latest.ensures.0) ∙ log-room _ _ _ _ (unrefused _ _ _ _ c.requires) _ (settle-count _ _) _ refl in
    (rw (chunk_lent _ _ _ _ c.unwrap-words.ensures c.first_chunk_mut.ensures.cases) at c.put_mark.ensures.marked) _ _ _ (Settled c.put_mark.result)
    ∙ ap (keeps _)
    (log-settles _ _ _ _ _ _ _ _ _ c.drain.ensures.copied c.drain.ensures.cleared (sym n) _ (rw (chunk_lent _ _ _ _ c.unwrap-words.ensures c.first_chunk_mut.ensures.cases) at c.put_mark.ensures.stamp))
