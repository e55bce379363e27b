-- `inspection::inspect` meets its contract: nothing where there is no room, and otherwise the inspection.
-- Assumes nothing.
use Rattle.std.proofs.Common.{refl, ◌∙◌, arith, rules}
use Rattle.inspection.specs.inner.InspectionLaws.{inspected-none, inspected-all}
use Rattle.inspection.proofs.inspect.Goals as goal

pub returns-then-output-lt-ROOM : goal.returns-then-output-lt-ROOM
returns-then-output-lt-ROOM c = record { counts = search rules; printed = inspected-none _ _ _ c.if-output-lt-ROOM.true; kept = refl }

pub returns : goal.returns
returns c = let p = c.copy_to.ensures in
    record { counts = p.counts; printed = p.printed ∙ c.put_inspection.ensures ∙ inspected-all _ _ _ (omega (arith, c.if-output-lt-ROOM.false)); kept = p.kept }
