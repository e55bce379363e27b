-- `report::reading::sizes_in` meets its contract: the sizes are the first three words.
-- Assumes nothing.
use Rattle.report.specs.Report.{sizes_in}
use Rattle.report.proofs.reading.sizes_in.Goals as goal

pub returns : goal.returns
unfolding sizes_in
returns c = rw (c.word_at.ensures, c.word_at-2.ensures, c.word_at-3.ensures)
