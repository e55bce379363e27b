-- `recovery::scan::lap_at` meets its contract, by the test that it makes. Assumes nothing.
use Rattle.recovery.specs.inner.LapLaws.{lap-passed, lap-offered}
use Rattle.recovery.proofs.scan.lap_at.Goals as goal

pub returns-then-offer-stamp : goal.returns-then-offer-stamp
returns-then-offer-stamp c = lap-passed _ _ _ _ _ _ _ _ c.if-offer-stamp.true

pub returns : goal.returns
returns c = lap-offered _ _ _ _ _ _ _ _ _ c.if-offer-stamp.false c.lap_over.ensures
