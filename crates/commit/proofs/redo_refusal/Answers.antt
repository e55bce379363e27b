-- `commit::redo_refusal` meets its contract: Drain's causes first, then those of a commit.
use Rattle.std.proofs.Common.{rules, refl, sym}
use Rattle.store.specs.inner.StoreLaws.{checked, lane-small}
use Rattle.store.specs.inner.KeepsLaws.{words-there}
use Rattle.commit.specs.inner.CommitLaws.{redo-refused, redo-causes}
use Rattle.store.specs.inner.ResultLaws.{none-found, found-err, err-nonzero}
use Rattle.record.specs.Record.{is_held}
use Rattle.codec.proofs.Arrays.{chunk_read}
use Rattle.commit.proofs.redo_refusal.Goals as goal

pub returns-in_err-drain_refusal : goal.returns-in_err-drain_refusal
returns-in_err-drain_refusal c = found-err _ _ _ c.from_residual.ensures.1 (redo-refused _ _ _ _ c.in_err-drain_refusal.ensures (err-nonzero _))

pub unwrap-words-requires : goal.unwrap-words-requires
unwrap-words-requires c =
    let k = checked _ _ _ _ _ _ _ (none-found c.in_ok-drain_refusal.ensures) in
    search (rules, words-there c.args.state.now k.in_pairs)

pub phase-phase-requires : goal.phase-phase-requires
phase-phase-requires c =
    let k = checked _ _ _ _ _ _ _ (none-found c.in_ok-drain_refusal.ensures) in
    lane-small _ _ k.image.sizes-ok k.lane_below

pub returns : goal.returns
unfolding is_held
returns c =
    let e = chunk_read _ _ _ _ c.unwrap-words.ensures c.first_chunk.ensures.cases in
    redo-causes _ _ _ _ (sym (none-found c.in_ok-drain_refusal.ensures)) _ _ _ _ _ refl
    (rw e at c.phase-phase.ensures) (rw e at c.lock-lock.ensures) c.is_some.ensures (rw e at c.spent.ensures) c.commit_refusal.ensures
