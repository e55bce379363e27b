-- `report::printed` meets its contract: a refusal where the input is refused, and otherwise what recovery on blank buffers prints. Assumes nothing.
use Rattle.std.proofs.Common.{sym, ap, ◌∙◌}
use Rattle.store.specs.Interface.{refusal_of}
use Rattle.store.specs.inner.ResultLaws.{found, none-found, not-zero}
use Rattle.report.specs.inner.ReportLaws.{report-refused}
use Rattle.report.proofs.printed.Goals as goal

pub returns-in-Err : goal.returns-in-Err
returns-in-Err c =
    c.refused.ensures ∙ report-refused _ _ _ (found _ (ap refusal_of (sym c.in-Err.is) ∙ c.refusal.ensures)) (not-zero _)

pub recovered-requires : goal.recovered-requires
recovered-requires c = none-found (ap refusal_of (sym c.in-Ok.is) ∙ c.refusal.ensures)
