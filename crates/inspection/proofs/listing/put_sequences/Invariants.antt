-- `inspection::listing::put_sequences` meets its contract: the loop's invariant: the lines of the sequences that the slots below j close are
-- printed. Assumes nothing.
use Rattle.std.proofs.Common.{◌≤◌}
use Rattle.lane_log.specs.Log.{complete_below}
use Rattle.report.specs.inner.ReportFacts.{Put}
use Rattle.inspection.specs.Inspection.{sequence_text, sequence_lines}
use Rattle.inspection.proofs.listing.put_sequences.Given as goal

abbrev pub invariant-loop-j : goal.invariant-loop-j
invariant-loop-j l =
    (l.j ≤ l.j-end) × Put l.initial.page (sequence_lines sequence_text (complete_below l.log.words l.log.slots l.log.base l.log.log.now l.lane l.j)) l.page
