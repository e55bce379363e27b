-- `append::append_refusal` meets its contract: each return by its law; the part of the cached image that is searched is the lane's log.
-- Assumes nothing.
use Rattle.std.proofs.Common.{◌≡◌, sym, ◌∙◌, false, ◌&&◌, ◌+◌, arith}
use Rattle.laws.specs.inner.Tests.{and_both}
use Rattle.image.specs.Image.{base_of}
use Rattle.image.specs.inner.ImageLaws.{sizes-in}
use Rattle.lane_log.specs.Log.{complete_below, hits}
use Rattle.record.specs.Record.{cursor_of, bound_of, lag_passed}
use Rattle.record.specs.inner.RecordLaws.{clock-next}
use Rattle.codec.specs.Fields.{record_of}
use Rattle.store.specs.inner.Checked.{drained_state}
use Rattle.store.specs.inner.StoreLaws.{lane-small}
use Rattle.append.specs.inner.LogMarkLaws.{bound-drained, lag-read, room-spent, room-lag, room-hit, room-free}
use Rattle.store.specs.Interface.{number, refusal_of}
use Rattle.append.proofs.append_refusal.Goals as goal
use Rattle.append.proofs.append_refusal.Goals.{After-bound-bound, After-would_hit, Joined-else-binds}
use Rattle.append.proofs.append_refusal.Goals.{else-binds-via-then-binds+else-lag_passed, else-binds-via-else-binds}

pub returns-then-spent : goal.returns-then-spent
unfolding refusal_of number
returns-then-spent c = room-spent _ _ _ _ _ _ (sym c.spent.ensures ∙ c.if-spent.true)

pub floor-requires : goal.floor-requires
floor-requires c =
    let p = c.requires in
    lane-small _ _ p.searchable.image.sizes-ok p.searchable.lane_below

pub bound-bound-requires : goal.bound-bound-requires
bound-bound-requires c =
    let p = c.requires in
    (sizes-in _ p.searchable.image.sizes-ok).lanes-high

-- the bound is that of the drained record
bounded : (c : After-bound-bound) → let a = c.args in
    c.bound-bound.result ≡ bound_of a.sizes (drained_state a.sizes a.cache.now a.lane (record_of a.words.now))
bounded c =
    let p = c.requires.searchable in
    bound-drained _ _ _ _ _ _ _ _ p.found c.floor.ensures c.floor_after_drain-floor.ensures c.bound-bound.ensures

pub overflow_add-clock : goal.overflow_add-clock
overflow_add-clock c =
    omega (arith, clock-next _ (sym c.spent.ensures ∙ c.if-spent.false), c.clock.ensures)

pub returns-then-lag_passed : goal.returns-then-lag_passed
unfolding refusal_of number
returns-then-lag_passed c =
    room-lag _ _ _ _ _ _ _ (bounded (goal.at.returns-then-lag_passed c).After-bound-bound) (sym c.spent.ensures ∙ c.if-spent.false)
    (and_both _ _ c.if-binds.true
    (lag-read _ _ _ _ _ c.lag.ensures c.clock.ensures c.lag_passed.ensures ∙ c.if-lag_passed.true))

-- the lag limit is not in the way: it does not bind, or it is not passed
unbound : (c : Joined-else-binds) → let a = c.args in
    (a.binds && lag_passed (record_of a.words.now).lag ((record_of a.words.now).clock + 2) c.bound-bound.result) ≡ false
unbound c =
    elim c.else-binds.branch [
      | else-binds-via-then-binds+else-lag_passed w ↦
          rw (w.if-binds.true, lag-read _ _ _ _ _ w.lag.ensures w.clock.ensures w.lag_passed.ensures ∙ w.if-lag_passed.false)
      | else-binds-via-else-binds w ↦ rw w.if-binds.false
    ]

pub cursor-cursor-requires : goal.cursor-cursor-requires
cursor-cursor-requires c =
    let p = c.requires in
    lane-small _ _ p.searchable.image.sizes-ok p.searchable.lane_below

pub would_hit-requires : goal.would_hit-requires
unfolding cursor_of
would_hit-requires c =
    let p = c.requires.searchable in
    let e = c.of-log.ensures.slots in
    record { next_lt_slots = rw (e, c.cursor-cursor.ensures) p.next; le_count = p.least; max_entries_bound = rw e p.most }

-- the log searched is the lane's
hit : (c : After-would_hit) → let a = c.args in
    c.would_hit.result
    ≡ hits a.sizes.slots c.cursor-cursor.result.slot a.count c.bound-bound.result
    (complete_below a.sizes.words a.sizes.slots (base_of a.cache.now) c.of-log.result.log.now 0 a.sizes.slots)
hit c = let e = c.of-log.ensures in rw (e.words, e.slots, e.base) at c.would_hit.ensures

pub returns-then-would_hit : goal.returns-then-would_hit
unfolding base_of refusal_of number
returns-then-would_hit c =
    room-hit _ _ _ _ _ _ _ (bounded (goal.at.returns-then-would_hit c).After-bound-bound) (sym c.spent.ensures ∙ c.if-spent.false) _ _ _ c.of-log.ensures.log
    c.cursor-cursor.ensures (hit (goal.at.returns-then-would_hit c).After-would_hit) (unbound (goal.at.returns-then-would_hit c).Joined-else-binds) c.if-would_hit.true

pub returns : goal.returns
unfolding base_of refusal_of
returns c =
    room-free _ _ _ _ _ _ _ (bounded (goal.at.returns c).After-bound-bound) (sym c.spent.ensures ∙ c.if-spent.false) _ _ _ c.of-log.ensures.log
    c.cursor-cursor.ensures (hit (goal.at.returns c).After-would_hit) (unbound (goal.at.returns c).Joined-else-binds) c.if-would_hit.false
