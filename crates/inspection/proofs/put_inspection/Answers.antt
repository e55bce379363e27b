-- `inspection::put_inspection` meets its contract: the listing, and then the report. Assumes nothing.
use Rattle.std.proofs.Common.{◌∙◌, ap, arith, length}
use Rattle.report.specs.inner.PrintingLaws.{put_then, put-first, put_same}
use Rattle.inspection.specs.Inspection.{inspection_of}
use Rattle.inspection.proofs.put_inspection.Goals as goal

pub list-requires : goal.list-requires
list-requires c = omega (arith, ap length c.requires)

pub put-requires : goal.put-requires
put-requires c = omega (arith, ap length c.requires, c.list.ensures.few, c.as_bytes.ensures.fits)

pub returns : goal.returns
unfolding inspection_of
returns c = put-first c.requires (put_then c.list.ensures.printed (put_same (c.as_bytes.ensures.text ∙ c.printed-report.ensures) c.put.ensures))
