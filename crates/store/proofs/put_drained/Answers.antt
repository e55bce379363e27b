-- `store::put_drained` leaves the drained record's words: the head with the new floor, in normal form.
-- Assumes nothing.
use Rattle.std.proofs.Common.{◌∙◌, ap}
use Rattle.codec.specs.Fields.{words_of}
use Rattle.store.specs.inner.KeepsLaws.{drained-head}
use Rattle.store.proofs.put_drained.Goals as goal

pub returns : goal.returns
returns c =
    c.normalise.ensures
    ∙ ap words_of
    (c.set_head.ensures
    ∙ drained-head _ _ _ _ _ _ _ c.phase-phase.ensures c.cursor-cursor.ensures c.floor.ensures c.floor_after_drain-floor.ensures)
