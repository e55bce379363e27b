-- `report::reading::refusal` meets its contract: each way through the tests is the definition's.
-- Assumes nothing.
use Rattle.std.proofs.Common.{sym, ap, ◌∙◌, arith}
use Rattle.store.specs.Interface.{refusal_of, number}
use Rattle.report.specs.Report.{longest}
use Rattle.report.specs.inner.ReadingLaws.{refused-form, taken-form, refused-long, refused-bytes, taken-words}
use Rattle.report.proofs.reading.refusal.Goals as goal

pub returns-then-well_formed : goal.returns-then-well_formed
unfolding refusal_of number
returns-then-well_formed c =
    rw c.in-Start.is (taken-form _ (sym c.well_formed-in-Start.ensures ∙ c.if-well_formed.true))

pub returns-then-longest-input : goal.returns-then-longest-input
unfolding refusal_of number
returns-then-longest-input c =
    let e = c.in-End.is in
    rw e (refused-long _ (omega (arith, c.longest.ensures, ap longest e, c.if-longest-input.true)))

pub returns-then-input-ne0 : goal.returns-then-input-ne0
unfolding refusal_of number
returns-then-input-ne0 c =
    let e = c.in-End.is in
    rw e (refused-bytes _ (omega (arith, c.longest.ensures, ap longest e, c.if-longest-input.false)) c.if-input-ne0.true)

pub returns-else-well_formed : goal.returns-else-well_formed
unfolding refusal_of number
returns-else-well_formed c =
    rw c.in-Start.is (refused-form _ (sym c.well_formed-in-Start.ensures ∙ c.if-well_formed.false))

pub returns-else-input-ne0 : goal.returns-else-input-ne0
unfolding refusal_of number
returns-else-input-ne0 c =
    let e = c.in-End.is in
    rw e (taken-words _ (omega (arith, c.longest.ensures, ap longest e, c.if-longest-input.false)) c.if-input-ne0.false)
