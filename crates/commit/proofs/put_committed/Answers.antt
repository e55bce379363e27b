-- `commit::put_committed` meets its contract: clock and last commit, then the lane.
use Rattle.std.proofs.Common.{◌∙◌, ap}
use Rattle.codec.specs.Fields.{words_of}
use Rattle.commit.specs.inner.CommitLaws.{after-commit}
use Rattle.commit.proofs.put_committed.Goals as goal

pub returns : goal.returns
returns c =
    c.put_released.ensures ∙ ap words_of (after-commit _ _ _ _ _ _ c.set_clock.ensures c.set_last.ensures)
