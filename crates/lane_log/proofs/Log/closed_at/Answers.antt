-- `lane_log::Log::closed_at` meets its contract, by the tests that it makes. Assumes nothing.
use Rattle.std.proofs.Common.{sym, ◌∙◌, arith}
use Rattle.lane_log.specs.inner.LogLaws.{stamp-in}
use Rattle.lane_log.proofs.SearchLaws.{not-stamp, all_whole, closed-other, closed-low, closed-short, closed-whole}
use Rattle.lane_log.proofs.Log.closed_at.Goals as goal

pub returns-in_default : goal.returns-in_default
returns-in_default c = closed-other _ _ _ _ _ _ c.slot_at.ensures (not-stamp _ c.in_default.not-Stamp)

pub returns-then-stamp-self : goal.returns-then-stamp-self
returns-then-stamp-self c = closed-low _ _ _ _ _ c.slot_at.ensures c.in-Stamp.is c.if-stamp-self.true

pub entries_whole-requires : goal.entries_whole-requires
entries_whole-requires c = let a = c.args in
    let f = stamp-in a.self.now.words a.self.now.log.now a.j _ _ _ (sym c.slot_at.ensures ∙ c.in-Stamp.is) in
    record { j_lt_slots = c.requires; count_le_slots = omega arith; wrap_bound = omega arith }

pub returns-then-not-entries_whole : goal.returns-then-not-entries_whole
returns-then-not-entries_whole c = closed-short _ _ _ _ _ c.slot_at.ensures c.in-Stamp.is (sym c.entries_whole.ensures ∙ c.if-not-entries_whole.true)

pub returns : goal.returns
returns c = closed-whole _ _ _ _ _ c.slot_at.ensures c.in-Stamp.is c.if-stamp-self.false
    (all_whole _ _ _ _ _ _ (sym c.entries_whole.ensures ∙ c.if-not-entries_whole.false))
