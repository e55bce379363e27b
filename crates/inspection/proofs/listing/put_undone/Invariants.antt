-- `inspection::listing::put_undone` meets its contract: the loop's invariant: the lines of the sequences passed are printed. Assumes nothing.
use Rattle.std.proofs.Common.{take}
use Rattle.report.specs.inner.ReportFacts.{Put}
use Rattle.inspection.specs.inner.InspectionFacts.{undo_lines}
use Rattle.inspection.proofs.listing.put_undone.Given as goal

abbrev pub invariant-loop-sequence : goal.invariant-loop-sequence
invariant-loop-sequence l = Put l.initial.page (undo_lines (take l.sequence-index l.order)) l.page
