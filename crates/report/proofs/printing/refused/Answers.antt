-- `printing::refused` meets its contract: three texts, one after the other, on a new page. Assumes nothing.
use Rattle.std.proofs.Common.{ap, arith, length}
use Rattle.report.specs.Report.{decimal, refused_line}
use Rattle.report.specs.inner.PrintingLaws.{put_then, put_same, put-first, put-long, decimal-few}
use Rattle.report.proofs.printing.refused.Goals as goal

pub put-requires-2 : goal.put-requires-2
put-requires-2 c =
    omega (arith, ap length c.new-page.ensures, put-long c.put.ensures, put-long c.put_number.ensures, decimal-few c.number.result)

pub returns : goal.returns
unfolding refused_line
returns c =
    put-first c.new-page.ensures (put_then (put_then c.put.ensures (put_same (ap decimal c.number.ensures) c.put_number.ensures)) c.put-2.ensures)
