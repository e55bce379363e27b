-- `append::plan_log` meets its contract: nothing is asked where nothing is appended, else the room for the sequence.
-- Assumes nothing.
use Rattle.std.proofs.Common.{◌≡◌, sym, ◌∙◌, true, ◌+◌}
use Rattle.append.specs.inner.LogMarkLaws.{planned-err, room-waived, room-counted, room-settles}
use Rattle.codec.specs.Fields.{record_of}
use Rattle.append.specs.inner.Plans.{room_refusal, log_room}
use Rattle.store.specs.inner.ResultLaws.{none-found}
use Rattle.append.proofs.plan_log.Goals as goal
use Rattle.append.proofs.plan_log.Goals.{Joined-else-not-settles, else-not-settles-via-then-not-settles+else-count-eq0, else-not-settles-via-else-not-settles}

pub returns-then-count-eq0 : goal.returns-then-count-eq0
returns-then-count-eq0 c = (sym (room-waived _ _ _ _ _ _ (c.if-not-settles.true) (c.if-count-eq0.true)), c.latest_near-latest.ensures)

-- what is asked is the room for the sequence
asked : (c : Joined-else-not-settles) → let a = c.args in
    room_refusal a.sizes (record_of a.words.now) a.cache.now a.lane (a.count + 1) true
    ≡ log_room a.sizes (record_of a.words.now) a.cache.now a.lane a.settles a.count
asked c =
    elim c.else-not-settles.branch [
      | else-not-settles-via-then-not-settles+else-count-eq0 w ↦ room-counted _ _ _ _ _ _ w.if-count-eq0.false
      | else-not-settles-via-else-not-settles w ↦ room-settles _ _ _ _ _ _ w.if-not-settles.false
    ]

pub returns-in_err-append_refusal : goal.returns-in_err-append_refusal
returns-in_err-append_refusal c =
    planned-err _ _ _ _ c.from_residual.ensures.1 (c.in_err-append_refusal.ensures ∙ asked (goal.at.returns-in_err-append_refusal c).Joined-else-not-settles)

pub returns : goal.returns
returns c = (sym (asked (goal.at.returns c).Joined-else-not-settles) ∙ none-found c.in_ok-append_refusal.ensures, c.latest_near-latest.ensures)
