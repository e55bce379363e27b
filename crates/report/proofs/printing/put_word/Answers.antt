-- `printing::put_word` meets its contract: four texts, one after the other. Assumes nothing.
use Rattle.std.proofs.Common.{arith}
use Rattle.report.specs.Report.{word_line}
use Rattle.report.specs.inner.PrintingLaws.{put_then, put-long, decimal-few}
use Rattle.report.proofs.printing.put_word.Goals as goal

pub put-requires : goal.put-requires
put-requires c = omega (arith, c.requires, put-long c.put_number.ensures, decimal-few c.args.i)

pub put_number-requires-2 : goal.put_number-requires-2
put_number-requires-2 c =
    omega (arith, c.requires, put-long c.put_number.ensures, decimal-few c.args.i, put-long c.put.ensures)

pub put-requires-2 : goal.put-requires-2
put-requires-2 c =
    omega (
      arith,
      c.requires,
      put-long c.put_number.ensures,
      decimal-few c.args.i,
      put-long c.put.ensures,
      put-long c.put_number-2.ensures,
      decimal-few c.args.value,
    )

pub returns : goal.returns
unfolding word_line
returns c =
    put_then (put_then (put_then c.put_number.ensures c.put.ensures) c.put_number-2.ensures) c.put-2.ensures
