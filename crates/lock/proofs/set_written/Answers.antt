-- `lock::set_written` meets its contract: the record is `part_written_state`, by the test of the count. Assumes nothing.
use Rattle.std.proofs.Common.{arith}
use Rattle.record.specs.inner.RecordLaws.{part-most}
use Rattle.lock.proofs.LockLaws.{state-last, state-more}
use Rattle.lock.proofs.set_written.Goals as goal

pub overflow_add-written : goal.overflow_add-written
overflow_add-written c =
    omega (arith, part-most c.args.held c.requires, c.part_length.ensures)

pub returns-then-written-held : goal.returns-then-written-held
returns-then-written-held c =
    state-last _ _ _ _ c.part_length.ensures _ c.set_last.ensures c.set_lock.ensures c.if-written-held.true

pub returns : goal.returns
returns c =
    state-more _ _ _ _ c.part_length.ensures c.set_lock-2.ensures c.if-written-held.false
