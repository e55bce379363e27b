-- `commit::validate_drained` meets its contract: changed or committed, by whether the writes match.
use Rattle.std.proofs.Common.{◌∙◌, ap}
use Rattle.record.specs.Record.{logged_in}
use Rattle.store.specs.inner.StoreLaws.{lane-small}
use Rattle.commit.specs.inner.CommitLaws.{lane-read, validate-pairs, validate-commits, validate-changed}
use Rattle.store.specs.Interface.{answer_of}
use Rattle.codec.proofs.WriteLaws.{logged-default}
use Rattle.commit.proofs.validate_drained.Goals as goal

pub phase-phase-requires : goal.phase-phase-requires
phase-phase-requires c =
    let k = c.requires.committable.restampable in
    lane-small _ _ k.image.sizes-ok k.lane_below

pub matches-requires-clause-first_lt_slots : goal.matches-requires-clause-first_lt_slots
matches-requires-clause-first_lt_slots c =
    let held = logged-default _ _ c.unwrap_or_default-held.ensures ∙ ap logged_in c.phase-phase.ensures in
    rw held c.requires.committable.logged.first

pub put_released-requires : goal.put_released-requires
put_released-requires c =
    let k = c.requires.committable.restampable in
    lane-small _ _ k.image.sizes-ok k.lane_below

pub returns-then-not-matches : goal.returns-then-not-matches
unfolding answer_of
returns-then-not-matches c =
    let k = c.requires.committable.restampable in
    let held = logged-default _ _ c.unwrap_or_default-held.ensures ∙ ap logged_in c.phase-phase.ensures in
    λ before pairs nvm. validate-changed _ _ _ _ _ _ _ _ c.requires.latest_value held _ c.matches.ensures before pairs nvm _
    (lane-read _ _ (lane-small _ _ k.image.sizes-ok k.lane_below)) c.if-not-matches.true c.put_released.ensures

pub commit-requires-clause-restampable : goal.commit-requires-clause-restampable
commit-requires-clause-restampable c =
    let held = logged-default _ _ c.unwrap_or_default-held.ensures ∙ ap logged_in c.phase-phase.ensures in
    rw (held, c.clock-stamp.ensures) c.requires.committable.restampable

pub commit-requires-clause-pairs_value : goal.commit-requires-clause-pairs_value
commit-requires-clause-pairs_value c =
    validate-pairs c.args.sizes _ c.requires.few _ c.pairs_of-pairs.ensures c.requires.words_below

pub put_committed-requires : goal.put_committed-requires
put_committed-requires c =
    let k = c.requires.committable.restampable in
    lane-small _ _ k.image.sizes-ok k.lane_below

pub returns : goal.returns
unfolding answer_of
returns c =
    let k = c.requires.committable.restampable in
    let held = logged-default _ _ c.unwrap_or_default-held.ensures ∙ ap logged_in c.phase-phase.ensures in
    λ before pairs nvm. validate-commits c.args.sizes _ c.requires.few _ c.pairs_of-pairs.ensures _ _ _ _ _ _
    c.requires.latest_value held _ c.matches.ensures before pairs nvm _ (lane-read _ _ (lane-small _ _ k.image.sizes-ok k.lane_below)) c.if-not-matches.false
    _ _ _ c.clock-stamp.ensures c.commit.ensures.written c.commit.ensures.flushed c.put_committed.ensures
