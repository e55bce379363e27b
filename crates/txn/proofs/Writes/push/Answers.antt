-- `Writes::push` meets its contract: there is room behind the last write. Assumes nothing.
use Rattle.std.proofs.Common.{ap, arith, length, length-take-le}
use Rattle.txn.specs.inner.WritesLaws.{pushed}
use Rattle.txn.proofs.Writes.push.Goals as goal

pub invariant_of-self : goal.invariant_of-self
invariant_of-self g c =
    let e = ap length c.self.view_is in
    let n = length-take-le c.self.inside.count c.self.inside.list (omega (arith, c.self.told, c.self.invariant.few)) in
    pushed _ _ _ c.self.invariant (omega arith) c.args.write
