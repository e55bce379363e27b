-- `recovery::scan::offered` is `offer_at`: each return is one of its cases. Assumes nothing.
use Rattle.recovery.specs.inner.ScanLaws.{stamp-whole, stamp-count, stamp-wrap, wrap-low, offer-other, offer-low, offer-lacks, offer-stamp}
use Rattle.recovery.proofs.scan.offered.Goals as goal

pub returns-in_default : goal.returns-in_default
returns-in_default c = offer-other _ _ _ _ _ _ c.in_default.not-Stamp

pub returns-then-stamp-log : goal.returns-then-stamp-log
returns-then-stamp-log c = offer-low _ _ _ _ _ _ (stamp-whole c.in-Stamp.is) c.if-stamp-log.true

pub lacks-requires-clause-wrap_bound : goal.lacks-requires-clause-wrap_bound
lacks-requires-clause-wrap_bound c = rw (stamp-wrap c.in-Stamp.is) (wrap-low _ 0 0 _ _ _ c.requires.content_value)

pub returns-then-lacks : goal.returns-then-lacks
returns-then-lacks c =
    let e = c.in-Stamp.is in
    offer-lacks _ _ _ _ _ _ (stamp-whole e) c.if-stamp-log.false (stamp-count e) (stamp-wrap e) c.lacks.ensures c.if-lacks.true

pub returns : goal.returns
returns c =
    let e = c.in-Stamp.is in
    offer-stamp _ _ _ _ _ _ (stamp-whole e) c.if-stamp-log.false (stamp-count e) (stamp-wrap e) c.lacks.ensures c.if-lacks.false
