-- `recovery::scan::wrap_of` is `wrap_of`, arm by arm. Assumes nothing.
use Rattle.recovery.specs.inner.ScanLaws.{stamp-wrap, other-wrap}
use Rattle.recovery.proofs.scan.wrap_of.Goals as goal

pub returns-in-Stamp : goal.returns-in-Stamp
returns-in-Stamp c = stamp-wrap c.in-Stamp.is

pub returns-in_default : goal.returns-in_default
returns-in_default c = other-wrap _ c.in_default.not-Stamp
