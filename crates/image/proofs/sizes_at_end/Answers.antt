-- `image::sizes_at_end` meets its contract: the sizes are three of the last four words. Assumes nothing.
use Rattle.std.proofs.lemmas.Option.{MatchOption-at_some}
use Rattle.image.proofs.Trailer.{last-sizes}
use Rattle.image.proofs.sizes_at_end.Goals as goal

pub returns : goal.returns
returns c = let last = MatchOption-at_some _ _ _ c.unwrap.ensures c.last_chunk.ensures.cases in last-sizes _ _ last.0 last.1.same
