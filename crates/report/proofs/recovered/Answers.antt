-- `report::recovered` meets its contract: blank buffers, as long as the image. Assumes nothing.
use Rattle.std.proofs.Common.{sym, ◌∙◌}
use Rattle.report.specs.inner.ReportLaws.{blank_part, blank-long}
use Rattle.report.proofs.recovered.Goals as goal

pub recovered_in-requires-clause-blanks : goal.recovered_in-requires-clause-blanks
recovered_in-requires-clause-blanks c =
    let n = c.image_words-length.ensures in
    record {
      no-cache = blank_part _ _ _ n.few c.blank_words-cache.ensures _ n.counted;
      in-nvm = sym (blank-long _ _ _ n.few c.blank_words-nvm.ensures) ∙ n.counted;
      no-flags = blank_part _ _ _ n.few c.blank_flags-flags.ensures _ n.counted;
    }
