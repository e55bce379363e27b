-- `report::reading::word_at` meets its contract: the eight bytes, as the library spells them. Assumes nothing.
use Rattle.std.proofs.Common.{◌∙◌}
use Rattle.std.proofs.lemmas.Option.{MatchOption-at_some}
use Rattle.report.specs.inner.ReadingLaws.{word_read}
use Rattle.report.proofs.reading.word_at.Goals as goal

pub returns : goal.returns
returns c =
    let first = MatchOption-at_some _ _ _ c.unwrap-bytes.ensures c.first_chunk.ensures.cases in
    c.from_le_bytes.ensures ∙ word_read _ _ _ c.requires first.same
