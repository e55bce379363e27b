-- `image::trailer_ok` meets its contract: four words there, and the tests of them. Assumes nothing.
use Rattle.std.proofs.Common.{arith}
use Rattle.std.proofs.lemmas.Option.{MatchOption-at_some}
use Rattle.image.specs.inner.ImageLaws.{trailer-short}
use Rattle.image.proofs.Trailer.{last-tests}
use Rattle.image.proofs.trailer_ok.Goals as goal

pub returns-in_default : goal.returns-in_default
returns-in_default c = trailer-short _ c.in_default.ensures.cases

pub returns-then-last-former_length : goal.returns-then-last-former_length
returns-then-last-former_length c =
    let last = MatchOption-at_some _ _ _ c.in-Some.is c.last_chunk.ensures.cases in
    let t = last-tests _ _ last.0 last.1.same _ c.sizes_at_end-sizes.ensures in
    grind arith

pub returns-else-last-former_length : goal.returns-else-last-former_length
returns-else-last-former_length c =
    let last = MatchOption-at_some _ _ _ c.in-Some.is c.last_chunk.ensures.cases in
    let t = last-tests _ _ last.0 last.1.same _ c.sizes_at_end-sizes.ensures in
    grind arith
