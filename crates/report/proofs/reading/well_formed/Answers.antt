-- `report::reading::well_formed` meets its contract: an input too short, sizes out of range, or the length tested.
-- Assumes nothing.
use Rattle.std.proofs.Common.{sym, ◌∙◌, ap, arith}
use Rattle.image.specs.Image.{sizes_ok, former_length}
use Rattle.image.specs.inner.ImageLaws.{sizes-in, length-small}
use Rattle.report.specs.inner.ReadingLaws.{short-input, bad-sizes, length-tested}
use Rattle.report.proofs.reading.well_formed.Goals as goal

pub returns-then-input-lt24 : goal.returns-then-input-lt24
returns-then-input-lt24 c = short-input _ c.if-input-lt24.true

pub returns-then-not-sizes_ok : goal.returns-then-not-sizes_ok
returns-then-not-sizes_ok c =
    bad-sizes _ (ap sizes_ok (sym c.sizes_in-sizes.ensures) ∙ sym c.sizes_ok.ensures ∙ c.if-not-sizes_ok.true)

pub former_length-requires : goal.former_length-requires
former_length-requires c = sym c.sizes_ok.ensures ∙ c.if-not-sizes_ok.false

pub overflow_add-result : goal.overflow_add-result
overflow_add-result c =
    omega (arith, c.former_length.ensures, length-small _ (sizes-in _ (sym c.sizes_ok.ensures ∙ c.if-not-sizes_ok.false)))

pub overflow_mul-result : goal.overflow_mul-result
overflow_mul-result c =
    omega (arith, c.former_length.ensures, length-small _ (sizes-in _ (sym c.sizes_ok.ensures ∙ c.if-not-sizes_ok.false)))

pub returns : goal.returns
returns c =
    length-tested _ _ (ap sizes_ok (sym c.sizes_in-sizes.ensures) ∙ sym c.sizes_ok.ensures ∙ c.if-not-sizes_ok.false)
    (c.former_length.ensures ∙ ap former_length c.sizes_in-sizes.ensures)
