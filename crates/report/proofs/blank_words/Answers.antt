-- `report::blank_words` meets its contract: the array is zeros, by computing both.
-- Assumes nothing.
use Rattle.std.proofs.Common.{refl}
use Rattle.report.specs.Report.{blank}
use Rattle.report.proofs.blank_words.Goals as goal

pub returns : goal.returns
unfolding blank
returns c = refl
