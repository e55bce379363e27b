-- `set_head` stores a lane's words before its pairs. Assumes nothing.
use Rattle.std.proofs.Common.{◌∙◌}
use Rattle.record.specs.Record.{no_lane}
use Rattle.codec.proofs.WriteLaws.{head-put}
use Rattle.codec.proofs.write.set_head.Goals as goal

pub returns : goal.returns
returns c =
    let a = c.args in
    head-put a.words.now c.copy_from_slice.new.self a.lane a.phase a.cursor a.floor c.requires c.told-words
    (c.copy_from_slice.ensures.after ∙ c.head.ensures no_lane)
