-- `printing::finished` meets its contract: the boundary's line and then those of the data words, which are a part of the image. Assumes nothing.
use Rattle.std.proofs.Common.{ap, arith, length}
use Rattle.report.specs.Report.{boundary_line}
use Rattle.report.specs.inner.PrintingLaws.{put_then, put_same, put-first, put-long, stamp-few}
use Rattle.report.specs.inner.ReportLaws.{words-few, words-within, words_long, finished-text}
use Rattle.report.proofs.printing.finished.Goals as goal

pub put-requires-2 : goal.put-requires-2
put-requires-2 c =
    omega (arith, ap length c.new-page.ensures, put-long c.put.ensures, put-long c.put_stamp.ensures, stamp-few c.args.boundary)

pub overflow_add-sizes : goal.overflow_add-sizes
overflow_add-sizes c =
    omega (arith, words-few c.args.sizes c.args.nvm.now c.requires.image)

pub slice_bounds-put_words-end : goal.slice_bounds-put_words-end
slice_bounds-put_words-end c =
    words-within c.args.sizes c.args.nvm.now c.requires.image

pub put_words-requires : goal.put_words-requires
put_words-requires c =
    omega (
      arith,
      words_long c.args.sizes c.args.nvm.now c.requires.image,
      words-few c.args.sizes c.args.nvm.now c.requires.image,
      ap length c.new-page.ensures,
      put-long c.put.ensures,
      put-long c.put_stamp.ensures,
      stamp-few c.args.boundary,
      put-long c.put-2.ensures,
    )

pub returns : goal.returns
unfolding boundary_line
returns c =
    put-first c.new-page.ensures
    (put_same (finished-text _ _ c.requires.image _)
    (put_then (put_then (put_then c.put.ensures c.put_stamp.ensures) c.put-2.ensures) c.put_words.ensures))
