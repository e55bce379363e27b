-- `vandzulge_format` leaves what the call's own step says: a slice of another length is the call unfit, and
-- otherwise the record's words are written by `start`. Assumes nothing.
use Rattle.std.proofs.Common.{sym, ◌∙◌}
use Rattle.vandzulge.specs.inner.ExportsLaws.{fits-in, left-unfit, left-start}
use Rattle.vandzulge.proofs.vandzulge_format.Goals as goal

pub returns-then-not-record_fits : goal.returns-then-not-record_fits
returns-then-not-record_fits c = left-unfit _ _ _ _ _ _ _ _ (sym c.record_fits.ensures ∙ c.if-not-record_fits.true)

pub returns : goal.returns
returns c =
    left-start _ _ _ _ _ _ _ _ _ _ _ _ _ _ (sym c.record_fits.ensures ∙ c.if-not-record_fits.false) c.format-started.ensures c.start.ensures.number c.start.ensures.words

pub start-requires : goal.start-requires
start-requires c = fits-in _ (sym c.record_fits.ensures ∙ c.if-not-record_fits.false)
