-- `report::taken` meets its contract: one more than the longest, which is few for either place of the sizes.
-- Assumes nothing.
use Rattle.std.proofs.Common.{arith}
use Rattle.report.specs.inner.ReadingLaws.{longest-few}
use Rattle.report.proofs.taken.Goals as goal

pub overflow_add-result : goal.overflow_add-result
overflow_add-result c = omega (arith, c.longest.ensures, longest-few c.args.place)
