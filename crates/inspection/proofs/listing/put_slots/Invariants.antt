-- `inspection::listing::put_slots` meets its contract: the loop's invariant: the lines of the first j slots are printed.
-- Assumes nothing.
use Rattle.std.proofs.Common.{◌≤◌}
use Rattle.report.specs.inner.ReportFacts.{Put}
use Rattle.inspection.specs.Inspection.{slot_lines}
use Rattle.inspection.proofs.listing.put_slots.Given as goal

abbrev pub invariant-loop-j : goal.invariant-loop-j
invariant-loop-j l = (l.j ≤ l.j-end) × Put l.initial.page (slot_lines l.log.words l.log.log.now l.lane l.j) l.page
