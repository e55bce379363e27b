-- `inspection::list_given` meets its contract: the image decoded is the one that is listed, and recovery refuses it by the number that the
-- definition goes by.
-- Assumes nothing.
use Rattle.std.proofs.Common.{ap, arith, rules}
use Rattle.store.specs.Interface.{refusal_of}
use Rattle.report.specs.inner.ReadingLaws.{start-long, start_fits}
use Rattle.report.specs.inner.ReportLaws.{start-image}
use Rattle.report.specs.inner.PrintingLaws.{put_same, put-none}
use Rattle.inspection.specs.inner.InspectionLaws.{refused-for, listed-stopped, given-refusal, given-listed}
use Rattle.inspection.proofs.list_given.Goals as goal

pub sizes_in-sizes-requires : goal.sizes_in-sizes-requires
sizes_in-sizes-requires c = omega (arith, start-long _ c.requires.input_value)

pub decode-requires : goal.decode-requires
decode-requires c = start_fits _ _ c.requires.input_value c.requires.blanks.in-nvm

pub returns-in_default-clause-printed : goal.returns-in_default-clause-printed
returns-in_default-clause-printed c =
    put_same
    (listed-stopped _ _ c.requires.input_value _
    (given-refusal _ _ _ _ _ c.requires.input_value c.requires.blanks c.decode.ensures _ _ c.sizes_in-sizes.ensures c.recover_refusal.ensures)
    (refused-for _ c.in_default.not-Ok))
    (put-none _)

pub put_image-requires : goal.put_image-requires
put_image-requires c = record { image = start-image _ _ _ c.requires.input_value c.sizes_in-sizes.ensures (search rules); listing_room_in_bounds = c.requires.listing_room_in_bounds }

pub returns-in-Ok : goal.returns-in-Ok
unfolding refusal_of
returns-in-Ok c = record {
  few = c.put_image.ensures.few;
  printed = put_same
      (given-listed _ _ _ _ _ c.requires.input_value c.requires.blanks c.decode.ensures _ _ c.sizes_in-sizes.ensures c.recover_refusal.ensures
      (ap refusal_of c.in-Ok.is))
      c.put_image.ensures.printed;
}
