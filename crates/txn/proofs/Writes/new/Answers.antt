-- `Writes::new` meets its contract: an array of empty writes is the empty list, padded. Assumes nothing.
use Rattle.std.proofs.Common.{◌≡◌, rules}
use Rattle.txn.specs.inner.Writes.{no_write}
use Rattle.txn.specs.inner.WritesLaws.{padded_new}
use Rattle.txn.proofs.Writes.new.Goals as goal

pub invariant_of-result : goal.invariant_of-result
invariant_of-result g c = let e : c.default.result ≡ no_write = search rules in rw e (padded_new _)
