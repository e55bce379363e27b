-- `commit::put_released` meets its contract: an idle head with the drained floor, then the words of that record.
use Rattle.std.proofs.Common.{◌∙◌, ap}
use Rattle.codec.specs.Fields.{words_of}
use Rattle.commit.specs.inner.CommitLaws.{head-released}
use Rattle.commit.proofs.put_released.Goals as goal

pub returns : goal.returns
returns c =
    c.normalise.ensures
    ∙ ap words_of (head-released _ _ _ _ _ _ _ c.cursor-cursor.ensures c.floor.ensures c.floor_after_drain-floor.ensures c.set_head.ensures)
