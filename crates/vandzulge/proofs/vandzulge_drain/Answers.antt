-- `vandzulge_drain` leaves what the call's own step says: a record of another length is the call unfit.
-- Assumes nothing.
use Rattle.std.proofs.Common.{sym, ◌∙◌}
use Rattle.vandzulge.specs.inner.ExportsLaws.{left-unfit, left-by}
use Rattle.vandzulge.proofs.vandzulge_drain.Goals as goal

pub returns-then-not-record_fits : goal.returns-then-not-record_fits
returns-then-not-record_fits c = left-unfit _ _ _ _ _ _ _ _ (sym c.record_fits.ensures ∙ c.if-not-record_fits.true)

pub returns : goal.returns
returns c =
    left-by _ _ _ _ _ _ _ _ _ _ _ _ _ _ (sym c.record_fits.ensures ∙ c.if-not-record_fits.false) c.drain.ensures c.number_in.ensures
