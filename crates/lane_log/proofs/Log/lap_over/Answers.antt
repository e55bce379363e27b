-- `lane_log::Log::lap_over` meets its contract, by the tests that it makes. Assumes nothing.
use Rattle.std.proofs.Common.{sym, ◌∙◌, arith}
use Rattle.lane_log.specs.inner.LogLaws.{stamp-in}
use Rattle.lane_log.proofs.SearchLaws.{not-stamp, not-high, lap-other, lap-stamp, lap-wrap, lap-short, lap-is}
use Rattle.lane_log.proofs.Log.lap_over.Goals as goal

pub returns-then-not-stamp_high : goal.returns-then-not-stamp_high
returns-then-not-stamp_high c = lap-other _ _ _ _ _ _ _ (not-high _ _ _ (sym c.stamp_high.ensures ∙ c.if-not-stamp_high.true))

pub returns-in_default : goal.returns-in_default
returns-in_default c = lap-other _ _ _ _ _ _ _ (rw (← c.slot_at.ensures) (not-stamp _ c.in_default.not-Stamp))

pub returns-then-s-stamp : goal.returns-then-s-stamp
returns-then-s-stamp c = lap-stamp _ _ _ _ _ _ _ (sym c.slot_at.ensures ∙ c.in-Stamp.is) c.if-s-stamp.true

pub returns-then-p-wrap : goal.returns-then-p-wrap
returns-then-p-wrap c = lap-wrap _ _ _ _ _ _ _ (sym c.slot_at.ensures ∙ c.in-Stamp.is) c.if-p-wrap.true

pub entries_whole-requires : goal.entries_whole-requires
entries_whole-requires c = let a = c.args in
    let f = stamp-in a.self.now.words a.self.now.log.now a.k _ _ _ (sym c.slot_at.ensures ∙ c.in-Stamp.is) in
    omega arith

pub returns-then-not-entries_whole : goal.returns-then-not-entries_whole
returns-then-not-entries_whole c = lap-short _ _ _ _ _ _ _ (sym c.slot_at.ensures ∙ c.in-Stamp.is)
    (sym c.entries_whole.ensures ∙ c.if-not-entries_whole.true)

pub returns : goal.returns
returns c = lap-is _ _ _ _ _ _ _ (sym c.slot_at.ensures ∙ c.in-Stamp.is) c.if-s-stamp.false c.if-p-wrap.false
    (sym c.entries_whole.ensures ∙ c.if-not-entries_whole.false)
