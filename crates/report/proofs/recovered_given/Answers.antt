-- `report::recovered_given` meets its contract: the image decoded is the one that the report is about, and recovery's step on it is recovery's answer. Assumes nothing.
use Rattle.std.proofs.Common.{◌∙◌, arith, rules}
use Rattle.report.specs.Report.{no_limit}
use Rattle.report.specs.inner.ReadingLaws.{start-long, start_fits}
use Rattle.report.specs.inner.ReportLaws.{report-given, start-image}
use Rattle.report.proofs.recovered_given.Goals as goal

pub sizes_in-sizes-requires : goal.sizes_in-sizes-requires
sizes_in-sizes-requires c = omega (arith, start-long _ c.requires.input_value)

pub decode-requires : goal.decode-requires
decode-requires c = start_fits _ _ c.requires.input_value c.requires.blanks.in-nvm

pub answered-requires : goal.answered-requires
answered-requires c = record { image = start-image _ _ _ c.requires.input_value c.sizes_in-sizes.ensures (search rules) }

pub returns : goal.returns
unfolding no_limit
returns c =
    c.answered.ensures
    ∙ report-given _ _ _ _ _ c.requires.input_value c.requires.blanks c.decode.ensures _ c.recover-answer.result _ _ _ c.sizes_in-sizes.ensures
    c.recover-answer.ensures
