-- `report::reading::image_words` meets its contract: the former length of the sizes read, or as many words as there are.
-- Assumes nothing.
use Rattle.std.proofs.Common.{◌≡◌, ◌/◌, length, sym, ap, ◌∙◌, arith, rules}
use Rattle.image.specs.Image.{sizes_ok}
use Rattle.report.specs.Report.{input_refusal}
use Rattle.report.specs.declared.SizesAt.TheVariants.{Start}
use Rattle.report.specs.inner.ReadingLaws.{start-long, start-sized, few_words, start-words, end-words}
use Rattle.report.proofs.reading.image_words.Goals as goal
use Rattle.report.proofs.reading.image_words.Goals.{In-Start}

at-start : (c : In-Start) → input_refusal Start c.args.input.now ≡ 0
at-start c = ap (λ p. input_refusal p c.args.input.now) (sym c.in-Start.is) ∙ c.requires

pub sizes_in-requires : goal.sizes_in-requires
sizes_in-requires c = omega (arith, start-long _ (at-start c))

pub former_length-requires : goal.former_length-requires
former_length-requires c = ap sizes_ok c.sizes_in.ensures ∙ start-sized _ (at-start (goal.at.former_length-requires c).In-Start)

pub returns-in-Start : goal.returns-in-Start
returns-in-Start c =
    let both = few_words _ _ _ c.requires (rw c.in-Start.is (start-words _ _ _ c.sizes_in.ensures c.former_length.ensures)) in
    record { counted = both.0; few = both.1 }

pub returns-in-End : goal.returns-in-End
returns-in-End c =
    let both = few_words _ _ _ c.requires (rw c.in-End.is (end-words _ (length c.args.input.now / 8) (search rules))) in
    record { counted = both.0; few = both.1 }
