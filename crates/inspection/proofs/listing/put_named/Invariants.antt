-- `inspection::listing::put_named` meets its contract: the name, and then the numbers. The loop's invariant: the first numbers are printed after
-- the name.
-- Assumes nothing.
use Rattle.report.specs.inner.ReportFacts.{Put}
use Rattle.inspection.specs.Inspection.{numbers_to}
use Rattle.inspection.proofs.listing.put_named.Given as goal

abbrev pub invariant-loop-number : goal.invariant-loop-number
invariant-loop-number l = Put l.initial.page (numbers_to l.numbers l.number-index) l.page
