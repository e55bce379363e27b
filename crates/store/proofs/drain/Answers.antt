-- `store::drain` meets its contract: a refused call leaves what it found, and otherwise the drained record and buffers are the drained machine's.
-- Assumes nothing.
use Rattle.std.proofs.Common.{rules, refl, sym, ◌∙◌, ap, arith}
use Rattle.codec.proofs.Arrays.{chunk_lent}
use Rattle.store.specs.Answers.{Done}
use Rattle.store.specs.Machine.{said}
use Rattle.store.specs.Calls.{drain_step}
use Rattle.store.specs.inner.Checked.{drained_state}
use Rattle.store.specs.inner.StoreLaws.{checked, lane-small, step-taken, drained-by}
use Rattle.store.specs.inner.KeepsLaws.{keeps-taken, words-there, drained-words}
use Rattle.store.specs.Interface.{answer_of}
use Rattle.store.specs.inner.ResultLaws.{none-found, keeps-err}
use Rattle.store.proofs.drain.Goals as goal

pub returns-in_err-drain_refusal : goal.returns-in_err-drain_refusal
unfolding drain_step
returns-in_err-drain_refusal c = keeps-err _ _ _ _ _ _ _ _ c.from_residual.ensures.1 c.in_err-drain_refusal.ensures

pub unwrap-requires : goal.unwrap-requires
unwrap-requires c =
    let k = checked _ _ _ _ _ _ _ (none-found c.in_ok-drain_refusal.ensures) in
    search (rules, words-there c.args.state.now k.in_pairs)

pub latest_near-latest-requires : goal.latest_near-latest-requires
latest_near-latest-requires c =
    let k = checked _ _ _ _ _ _ _ (none-found c.in_ok-drain_refusal.ensures) in
    record { image = k.image; lane_lt_lanes = k.lane_below }

pub drain-requires : goal.drain-requires
drain-requires c =
    let k = checked _ _ _ _ _ _ _ (none-found c.in_ok-drain_refusal.ensures) in
    record { lane_lt_max_lanes = omega (arith, lane-small _ _ k.image.sizes-ok k.lane_below); nvm_len = k.same-nvm; flags_len = k.same_flags }

pub put_drained-requires : goal.put_drained-requires
put_drained-requires c =
    let k = checked _ _ _ _ _ _ _ (none-found c.in_ok-drain_refusal.ensures) in
    omega (arith, lane-small _ _ k.image.sizes-ok k.lane_below)

pub returns : goal.returns
unfolding drain_step said answer_of
returns c =
    keeps-taken _ Done _ _ _ _ _ _ _
    (ap (λ m. record { answer = Done; machine = m })
    (drained-by _ _ _ _ _ _ _ (drained_state _ _ _ _) _ _ refl c.drain.ensures.copied c.drain.ensures.cleared)
    ∙ step-taken _ _ _ _ (sym (none-found c.in_ok-drain_refusal.ensures)) refl)
    refl ((rw (chunk_lent _ _ _ _ c.unwrap-2.ensures c.first_chunk_mut.ensures.cases) at c.put_drained.ensures) ∙ drained-words _ _ _ _ _ c.latest_near-latest.ensures)
