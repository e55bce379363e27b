-- `report::recovered_told` meets its contract: the image decoded is the one that the report is about; where its trailer tells no sizes recovery would
-- refuse it with 14, and otherwise recovery's step on it is recovery's answer. Assumes nothing.
use Rattle.std.proofs.Common.{sym, ◌∙◌, rules}
use Rattle.image.specs.inner.ImageLaws.{trailer-four}
use Rattle.store.specs.Interface.{number}
use Rattle.report.specs.Report.{no_limit}
use Rattle.report.specs.inner.ReadingLaws.{end_fits}
use Rattle.report.specs.inner.ReportLaws.{report-told, report-untold, end-image}
use Rattle.report.proofs.recovered_told.Goals as goal

pub decode-requires : goal.decode-requires
decode-requires c = end_fits _ _ c.requires.blanks.in-nvm

pub returns-then-not-trailer_ok : goal.returns-then-not-trailer_ok
unfolding number
returns-then-not-trailer_ok c =
    c.refused.ensures
    ∙ report-untold _ _ _ _ _ c.requires.input_value c.requires.blanks c.decode.ensures (sym c.trailer_ok.ensures ∙ c.if-not-trailer_ok.true)

pub sizes_at_end-sizes-requires : goal.sizes_at_end-sizes-requires
sizes_at_end-sizes-requires c = trailer-four _ (sym c.trailer_ok.ensures ∙ c.if-not-trailer_ok.false)

pub answered-requires : goal.answered-requires
answered-requires c = record { image = end-image _ (sym c.trailer_ok.ensures ∙ c.if-not-trailer_ok.false) _ _ c.sizes_at_end-sizes.ensures (search rules) }

pub returns : goal.returns
unfolding no_limit
returns c =
    c.answered.ensures
    ∙ report-told _ _ _ _ _ c.requires.input_value c.requires.blanks c.decode.ensures _ c.recover_read-answer.result _ _ _ c.sizes_at_end-sizes.ensures
    c.recover_read-answer.ensures
