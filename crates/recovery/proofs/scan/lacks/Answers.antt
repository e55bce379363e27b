-- `recovery::scan::lacks` is `lacks_last`: each return is one of its cases. Assumes nothing.
use Rattle.std.proofs.Common.{not, ap, eq-eqb, ne_eqb}
use Rattle.recovery.specs.inner.Picking.{lacks_last}
use Rattle.recovery.proofs.scan.lacks.Goals as goal

pub returns-then-count-eq0 : goal.returns-then-count-eq0
unfolding lacks_last
returns-then-count-eq0 c = rw (eq-eqb _ _ c.if-count-eq0.true)

pub returns : goal.returns
unfolding lacks_last
returns c = rw (ne_eqb _ _ c.if-count-eq0.false) (ap not c.entry_back.ensures)
