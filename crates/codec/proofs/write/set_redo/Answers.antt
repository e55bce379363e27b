-- `set_redo` stores a lane's pairs. Assumes nothing.
use Rattle.std.proofs.Common.{rules, ◌∙◌}
use Rattle.codec.proofs.WriteLaws.{redo-put}
use Rattle.codec.proofs.write.set_redo.Goals as goal

pub returns : goal.returns
returns c =
    let a = c.args in
    redo-put a.words.now c.copy_from_slice.new.self a.lane a.redo c.requires c.told-words (search rules) (search rules)
    (c.copy_from_slice.ensures.after ∙ c.as_flattened.ensures.value ∙ c.pairs_to.ensures)
