-- `inspection::list_taken` meets its contract: blank buffers, as long as the image. Assumes nothing.
use Rattle.std.proofs.Common.{sym, ◌∙◌}
use Rattle.report.specs.inner.ReportLaws.{blank_part, blank-long}
use Rattle.inspection.proofs.list_taken.Goals as goal

pub slice_bounds-list_in-end : goal.slice_bounds-list_in-end
slice_bounds-list_in-end c = blank-long _ _ _ c.image_words-length.ensures.few c.blank_words-cache.ensures

pub slice_bounds-list_in-end-2 : goal.slice_bounds-list_in-end-2
slice_bounds-list_in-end-2 c = blank-long _ _ _ c.image_words-length.ensures.few c.blank_words-nvm.ensures

pub slice_bounds-list_in-end-3 : goal.slice_bounds-list_in-end-3
slice_bounds-list_in-end-3 c = blank-long _ _ _ c.image_words-length.ensures.few c.blank_flags-flags.ensures

pub list_in-requires : goal.list_in-requires
list_in-requires c = let n = c.image_words-length.ensures in
    record {
      input_value = c.requires.input_value;
      blanks = record {
        no-cache = blank_part _ _ _ n.few c.blank_words-cache.ensures _ n.counted;
        in-nvm = sym (blank-long _ _ _ n.few c.blank_words-nvm.ensures) ∙ n.counted;
        no-flags = blank_part _ _ _ n.few c.blank_flags-flags.ensures _ n.counted;
      };
      listing_room_in_bounds = c.requires.listing_room_in_bounds;
    }
