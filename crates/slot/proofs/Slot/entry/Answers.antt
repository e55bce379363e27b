-- `Slot::entry` meets its contract: the low bit, taken by `&`, is the old value modulo 2, and the parts of the two words fit.
use Rattle.std.proofs.Common.{arith}
use Rattle.slot.proofs.SlotBits.{low_bit, made-entry}
use Rattle.slot.proofs.Slot.entry.Goals as goal

pub overflow_mul-result-2 : goal.overflow_mul-result-2
overflow_mul-result-2 c = omega (arith, low_bit c.args.old)

pub overflow_add-result-2 : goal.overflow_add-result-2
overflow_add-result-2 c = omega (arith, low_bit c.args.old)

pub overflow_add-result-3 : goal.overflow_add-result-3
overflow_add-result-3 c = omega (arith, low_bit c.args.old)

pub overflow_sub-result : goal.overflow_sub-result
overflow_sub-result c = omega (arith, low_bit c.args.old)

pub overflow_add-result-4 : goal.overflow_add-result-4
overflow_add-result-4 c = omega (arith, low_bit c.args.old)

pub returns : goal.returns
returns c = made-entry _ _ _
