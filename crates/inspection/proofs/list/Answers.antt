-- `inspection::list` meets its contract: nothing of a refused input, and otherwise what is listed from blank buffers.
-- Assumes nothing.
use Rattle.std.proofs.Common.{sym, ap, ◌∙◌}
use Rattle.store.specs.Interface.{refusal_of}
use Rattle.store.specs.inner.ResultLaws.{none-found}
use Rattle.report.specs.inner.PrintingLaws.{put_same, put-none}
use Rattle.inspection.specs.inner.InspectionLaws.{refused-for, listed-refused}
use Rattle.inspection.proofs.list.Goals as goal

pub returns-in_default-clause-printed : goal.returns-in_default-clause-printed
returns-in_default-clause-printed c = put_same (listed-refused _ _ _ c.refusal.ensures (refused-for _ c.in_default.not-Ok)) (put-none _)

pub list_taken-requires : goal.list_taken-requires
list_taken-requires c = record { input_value = none-found (ap refusal_of (sym c.in-Ok.is) ∙ c.refusal.ensures); listing_room_in_bounds = c.requires }
