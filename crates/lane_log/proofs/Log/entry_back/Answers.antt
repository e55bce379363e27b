-- `lane_log::Log::entry_back` meets its contract: the slot back is one of the log, and its wrap bit is tested by the side of the wrap. Assumes nothing.
use Rattle.std.proofs.Common.{arith}
use Rattle.lane_log.specs.inner.LogLaws.{back_low, entry-same, entry-wrapped}
use Rattle.lane_log.proofs.Log.entry_back.Goals as goal

pub slot_at-content-requires : goal.slot_at-content-requires
slot_at-content-requires c = let a = c.args in omega (arith, c.back.ensures, back_low a.self.now.slots a.j a.i (omega arith) (omega arith))

pub returns-then-i-j : goal.returns-then-i-j
returns-then-i-j c = entry-same _ _ _ _ _ _ c.back.result c.slot_at-content.result _ c.back.ensures c.slot_at-content.ensures
    c.if-i-j.true c.is_entry.ensures

pub returns : goal.returns
returns c = entry-wrapped _ _ _ _ _ _ c.back.result c.slot_at-content.result _ c.back.ensures c.slot_at-content.ensures
    c.if-i-j.false c.is_entry-2.ensures
