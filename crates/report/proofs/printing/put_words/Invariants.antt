-- `printing::put_words` meets its contract. The loop's invariant: the lines of the first words are printed. Assumes nothing.
use Rattle.std.proofs.Common.{◌≤◌}
use Rattle.report.specs.Report.{word_lines}
use Rattle.report.specs.inner.ReportFacts.{Put}
use Rattle.report.proofs.printing.put_words.Given as goal

abbrev pub invariant-loop-i : goal.invariant-loop-i
invariant-loop-i l = (l.i ≤ l.i-end) × Put l.initial.page (word_lines l.words l.i) l.page
