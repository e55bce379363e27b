-- `commit::redo_drained` meets its contract: stale or committed, by the test of the last commit.
use Rattle.std.proofs.Common.{ap, rules, ◌∙◌, ◌≤◌}
use Rattle.txn.specs.Txn.{max_writes}
use Rattle.record.specs.Record.{logged_in}
use Rattle.store.specs.inner.StoreLaws.{lane-small}
use Rattle.commit.specs.inner.CommitLaws.{lane-read, redo-stale, redo-commits}
use Rattle.store.specs.Interface.{answer_of}
use Rattle.codec.proofs.WriteLaws.{logged-default}
use Rattle.commit.proofs.redo_drained.Goals as goal

pub phase-phase-requires : goal.phase-phase-requires
phase-phase-requires c =
    let k = c.requires.committable.restampable in
    lane-small _ _ k.image.sizes-ok k.lane_below

pub put_drained-requires : goal.put_drained-requires
put_drained-requires c =
    let k = c.requires.committable.restampable in
    lane-small _ _ k.image.sizes-ok k.lane_below

pub returns-then-held-last : goal.returns-then-held-last
unfolding answer_of
returns-then-held-last c =
    let held = logged-default _ _ c.unwrap_or_default-held.ensures ∙ ap logged_in c.phase-phase.ensures in
    λ before pairs nvm. redo-stale _ _ _ _ _ _ _ _ c.requires.latest_value held c.last-last.ensures before pairs nvm _ c.if-held-last.true
    c.put_drained.ensures

pub redo-pairs-requires : goal.redo-pairs-requires
redo-pairs-requires c =
    let k = c.requires.committable.restampable in
    lane-small _ _ k.image.sizes-ok k.lane_below

pub commit-requires-clause-restampable : goal.commit-requires-clause-restampable
commit-requires-clause-restampable c =
    let held = logged-default _ _ c.unwrap_or_default-held.ensures ∙ ap logged_in c.phase-phase.ensures in
    rw (held, c.clock-clock.ensures) c.requires.committable.restampable

pub slice_bounds-pairs-end : goal.slice_bounds-pairs-end
slice_bounds-pairs-end c =
    let held = logged-default _ _ c.unwrap_or_default-held.ensures ∙ ap logged_in c.phase-phase.ensures in
    let few : c.unwrap_or_default-held.result.count ≤ max_writes = rw held c.requires.committable.logged.most in
    search rules

pub slice_bounds-commit-end : goal.slice_bounds-commit-end
slice_bounds-commit-end c =
    let held = logged-default _ _ c.unwrap_or_default-held.ensures ∙ ap logged_in c.phase-phase.ensures in
    let few : c.unwrap_or_default-held.result.count ≤ max_writes = rw held c.requires.committable.logged.most in
    search rules

pub commit-requires-clause-pairs_value : goal.commit-requires-clause-pairs_value
commit-requires-clause-pairs_value c =
    let held = logged-default _ _ c.unwrap_or_default-held.ensures ∙ ap logged_in c.phase-phase.ensures in
    rw (held, c.redo-pairs.ensures) c.requires.committable.logged.pairs

pub put_committed-requires : goal.put_committed-requires
put_committed-requires c =
    let k = c.requires.committable.restampable in
    lane-small _ _ k.image.sizes-ok k.lane_below

pub returns : goal.returns
unfolding answer_of
returns c =
    let k = c.requires.committable.restampable in
    let held = logged-default _ _ c.unwrap_or_default-held.ensures ∙ ap logged_in c.phase-phase.ensures in
    λ before pairs nvm. redo-commits _ _ _ _ _ _ _ _ c.requires.latest_value held c.last-last.ensures before pairs nvm _
    (lane-read _ _ (lane-small _ _ k.image.sizes-ok k.lane_below)) c.if-held-last.false _ _ _ _ c.clock-clock.ensures c.redo-pairs.ensures
    c.commit.ensures.written c.commit.ensures.flushed c.put_committed.ensures
