-- `lane_log::Log::hit_at` meets its contract, by the tests that it makes. Assumes nothing.
use Rattle.std.proofs.Common.{ℕ, ◌≡◌, ◌+◌, ◌<◌, sym, ◌∙◌, arith}
use Rattle.lane_log.specs.Append.{circular}
use Rattle.lane_log.specs.inner.LogLaws.{stamp-in}
use Rattle.lane_log.proofs.SearchLaws.{not-stamp, circular-low, hit-passed, hit_other, hit-base, hit-low, hit-far, hit-near}
use Rattle.lane_log.proofs.Log.hit_at.Goals as goal

-- the slot is one of the log
below : (N k d j : ℕ) → k < N → d < N → j ≡ circular N (k + d) → j < N
below N k d j h g e = rw e (circular-low N (k + d) (omega arith))

pub stamp_from-requires : goal.stamp_from-requires
stamp_from-requires c = omega (arith, below _ _ _ _ c.requires.next_lt_slots c.requires.distance_lt_slots c.circular-j.ensures)

pub returns-then-not-stamp_from : goal.returns-then-not-stamp_from
returns-then-not-stamp_from c =
    hit-passed _ _ _ _ _ _ _ _ _ c.circular-j.ensures c.requires.next_lt_slots c.requires.distance_lt_slots c.requires.le_count (sym c.stamp_from.ensures ∙ c.if-not-stamp_from.true)

pub slot_at-requires : goal.slot_at-requires
slot_at-requires c = omega (arith, below _ _ _ _ c.requires.next_lt_slots c.requires.distance_lt_slots c.circular-j.ensures)

pub returns-in_default : goal.returns-in_default
returns-in_default c =
    hit_other _ _ _ _ _ _ _ _ _ c.circular-j.ensures c.slot_at.ensures (not-stamp _ c.in_default.not-Stamp)

pub returns-then-stamp-self : goal.returns-then-stamp-self
returns-then-stamp-self c =
    hit-base _ _ _ _ _ _ _ _ _ c.circular-j.ensures c.slot_at.ensures c.in-Stamp.is
    c.requires.next_lt_slots c.requires.distance_lt_slots c.requires.le_count c.if-stamp-self.true

pub returns-then-stamp-least : goal.returns-then-stamp-least
returns-then-stamp-least c =
    hit-low _ _ _ _ _ _ _ _ _ c.circular-j.ensures c.slot_at.ensures c.in-Stamp.is
    c.requires.next_lt_slots c.requires.distance_lt_slots c.requires.le_count c.if-stamp-least.true

pub overflow_add-count : goal.overflow_add-count
overflow_add-count c =
    let a = c.args in
    let f = stamp-in a.self.now.words a.self.now.log.now c.circular-j.result _ _ _ (sym c.slot_at.ensures ∙ c.in-Stamp.is) in
    omega (arith, c.requires.count_le_slots)

pub returns-then-count-entries : goal.returns-then-count-entries
returns-then-count-entries c =
    hit-far _ _ _ _ _ _ _ _ _ c.circular-j.ensures c.slot_at.ensures c.in-Stamp.is
    c.requires.next_lt_slots c.requires.distance_lt_slots c.requires.le_count c.if-count-entries.true

pub entries_whole-requires : goal.entries_whole-requires
entries_whole-requires c =
    let a = c.args in
    let f = stamp-in a.self.now.words a.self.now.log.now c.circular-j.result _ _ _ (sym c.slot_at.ensures ∙ c.in-Stamp.is) in
    omega (arith, below _ _ _ _ c.requires.next_lt_slots c.requires.distance_lt_slots c.circular-j.ensures)

pub returns : goal.returns
returns c =
    c.entries_whole.ensures
    ∙ hit-near _ _ _ _ _ _ _ _ _ c.circular-j.ensures c.slot_at.ensures c.in-Stamp.is
    c.requires.next_lt_slots c.requires.distance_lt_slots c.requires.le_count c.if-stamp-self.false c.if-stamp-least.false c.if-count-entries.false
