-- `page::Page::put_number` meets its contract: the digits that `io::decimal` spells are the number's, at most 20.
-- Assumes nothing.
use Rattle.std.proofs.Common.{◌∙◌, arith}
use Rattle.report.specs.inner.PrintingLaws.{decimal-are, fewest-few, put_same}
use Rattle.report.proofs.page.Page.put_number.Goals as goal

pub put-requires : goal.put-requires
put-requires g c =
    omega (arith, c.requires, c.decimal-count.ensures.in_bounds.1, fewest-few c.args.number c.decimal-count.result (omega arith) c.decimal-count.ensures.len)

pub returns : goal.returns
returns g c =
    put_same (c.decimal-count.ensures.digits
    ∙ decimal-are _ _ c.decimal-count.ensures.len (fewest-few c.args.number _ (omega arith) c.decimal-count.ensures.len))
    c.put.ensures
