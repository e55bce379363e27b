-- `put_lane` stores the words before the pairs, then the pairs. Assumes nothing.
use Rattle.std.proofs.Common.{ap, ◌∙◌}
use Rattle.codec.specs.Fields.{head_words}
use Rattle.codec.specs.inner.FieldsLaws.{lane-put}
use Rattle.codec.proofs.WriteLaws.{headed-own}
use Rattle.codec.proofs.put_lane.Goals as goal

pub returns : goal.returns
returns c =
    let a = c.args in
    lane-put a.lane _ _ a.words.now _ (c.head.ensures a.lane ∙ ap head_words (headed-own a.lane _ c.cursor_of.ensures))
    c.copy_from_slice.ensures.after (c.copy_from_slice-2.ensures.after ∙ c.as_flattened.ensures.value ∙ c.pairs_to.ensures)
