-- `inspection::list_told` meets its contract: the image decoded is the one that is listed; where recovery does not refuse it, its trailer tells its
-- sizes.
-- Assumes nothing.
use Rattle.std.proofs.Common.{◌≡◌, sym, ap, ◌∙◌, true, rules}
use Rattle.image.specs.Image.{trailer_ok}
use Rattle.image.specs.inner.ImageLaws.{trailer-four}
use Rattle.store.specs.Interface.{refusal_of}
use Rattle.report.specs.inner.ReadingLaws.{end_fits}
use Rattle.report.specs.inner.ReportLaws.{end-image}
use Rattle.report.specs.inner.PrintingLaws.{put_same, put-none}
use Rattle.inspection.specs.inner.InspectionLaws.{refused-for, listed-stopped, told-refusal, told-trailer, told-listed}
use Rattle.inspection.proofs.list_told.Goals as goal
use Rattle.inspection.proofs.list_told.Goals.{In-Ok}

-- recovery takes the image
taken : (e : In-Ok) → refusal_of e.recover_read_refusal.result ≡ 0
unfolding refusal_of
taken e = ap refusal_of e.in-Ok.is

-- so that it tells its sizes
trailer : (e : In-Ok) → trailer_ok e.decode.new.nvm ≡ true
trailer e =
    told-trailer _ _ _ _ _ e.requires.input_value e.requires.blanks e.decode.ensures
    (sym (told-refusal _ _ _ _ _ e.requires.input_value e.requires.blanks e.decode.ensures _ e.recover_read_refusal.ensures) ∙ taken e)

pub decode-requires : goal.decode-requires
decode-requires c = end_fits _ _ c.requires.blanks.in-nvm

pub returns-in_default-clause-printed : goal.returns-in_default-clause-printed
returns-in_default-clause-printed c =
    put_same
    (listed-stopped _ _ c.requires.input_value _
    (told-refusal _ _ _ _ _ c.requires.input_value c.requires.blanks c.decode.ensures _ c.recover_read_refusal.ensures)
    (refused-for _ c.in_default.not-Ok))
    (put-none _)

pub sizes_at_end-requires : goal.sizes_at_end-requires
sizes_at_end-requires c = trailer-four _ (trailer (goal.at.sizes_at_end-requires c).In-Ok)

pub put_image-requires : goal.put_image-requires
put_image-requires c = let e = (goal.at.put_image-requires c).In-Ok in
    record { image = end-image _ (trailer e) _ _ c.sizes_at_end.ensures (search rules); listing_room_in_bounds = e.requires.listing_room_in_bounds }

pub returns-in-Ok : goal.returns-in-Ok
returns-in-Ok c = record {
  few = c.put_image.ensures.few;
  printed = put_same
      (told-listed _ _ _ _ _ c.requires.input_value c.requires.blanks c.decode.ensures _ _ c.sizes_at_end.ensures c.recover_read_refusal.ensures
      (taken (goal.at.returns-in-Ok c).In-Ok))
      c.put_image.ensures.printed;
}
