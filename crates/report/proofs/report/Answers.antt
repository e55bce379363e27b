-- `report::report` meets its contract: nothing where there is no room, and otherwise the report. Assumes nothing.
use Rattle.std.proofs.Common.{refl, ◌∙◌, arith, rules}
use Rattle.report.specs.inner.ReportLaws.{printed-none, printed-all}
use Rattle.report.proofs.report.Goals as goal

pub returns-then-output-lt-ROOM : goal.returns-then-output-lt-ROOM
returns-then-output-lt-ROOM c = record { counts = search rules; printed = printed-none _ _ _ c.if-output-lt-ROOM.true; kept = refl }

pub returns : goal.returns
returns c =
    let p = c.copy_to.ensures in
    record { counts = p.counts; printed = p.printed ∙ c.printed-page.ensures ∙ printed-all _ _ _ (omega (arith, c.if-output-lt-ROOM.false)); kept = p.kept }
