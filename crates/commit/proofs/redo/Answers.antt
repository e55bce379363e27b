-- `commit::redo` meets its contract: a refused call is the step refused, and otherwise the drain keeps what the rest of Redo looks at.
use Rattle.std.proofs.Common.{rules, refl, sym, ◌∙◌, ap}
use Rattle.store.specs.inner.StoreLaws.{lane-small}
use Rattle.store.specs.Interface.{keeps}
use Rattle.codec.specs.inner.ReadLaws.{lanes-read}
use Rattle.store.specs.inner.KeepsLaws.{words-there}
use Rattle.commit.specs.inner.CommitLaws.{redo-accepted, committable, redo-refuses, redo-taken}
use Rattle.store.specs.inner.ResultLaws.{none-found, answered-err, err-nonzero}
use Rattle.codec.proofs.Arrays.{chunk_lent}
use Rattle.commit.proofs.redo.Goals as goal

pub returns-in_err-redo_refusal : goal.returns-in_err-redo_refusal
returns-in_err-redo_refusal c = rw (answered-err _ _ c.from_residual.ensures.1) (redo-refuses _ _ _ _ _ _ _ (err-nonzero _) c.in_err-redo_refusal.ensures)

pub unwrap-requires : goal.unwrap-requires
unwrap-requires c =
    let a = redo-accepted _ _ _ _ _ _ _ _ (sym (none-found c.in_ok-redo_refusal.ensures)) refl in
    search (rules, words-there c.args.state.now a.known.in_pairs)

pub latest_near-latest-requires : goal.latest_near-latest-requires
latest_near-latest-requires c =
    let k = (redo-accepted _ _ _ _ _ _ _ _ (sym (none-found c.in_ok-redo_refusal.ensures)) refl).known in
    record { image = k.image; lane_lt_lanes = k.lane_below }

pub drain-requires : goal.drain-requires
drain-requires c =
    let k = (redo-accepted _ _ _ _ _ _ _ _ (sym (none-found c.in_ok-redo_refusal.ensures)) refl).known in
    record { lane_lt_max_lanes = lane-small _ _ k.image.sizes-ok k.lane_below; nvm_len = k.same-nvm; flags_len = k.same_flags }

pub redo_drained-requires : goal.redo_drained-requires
redo_drained-requires c =
    let a = redo-accepted _ _ _ _ _ _ _ _ (sym (none-found c.in_ok-redo_refusal.ensures)) refl in
    record {
      latest_value = c.latest_near-latest.ensures;
      committable = rw (chunk_lent _ _ _ _ c.unwrap-2.ensures c.first_chunk_mut.ensures.cases) (committable _ _ _ _ _ _ _ _ a (lanes-read _) c.drain.ensures.cleared);
    }

pub returns : goal.returns
returns c =
    (rw (chunk_lent _ _ _ _ c.unwrap-2.ensures c.first_chunk_mut.ensures.cases) at c.redo_drained.ensures) _ _ _
    ∙ ap (keeps _)
    (redo-taken _ _ _ _ _ _ _ _ _ c.drain.ensures.copied c.drain.ensures.cleared _ (sym (none-found c.in_ok-redo_refusal.ensures)) refl)
