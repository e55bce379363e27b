-- `restart::make_stores` meets its contract: the stores that its calls make, one list after another, are all stores.
-- Assumes nothing.
use Rattle.std.proofs.Common.{rules}
use Rattle.image.specs.Image.{former_length}
use Rattle.restart.specs.inner.RestartLaws.{stores-all}
use Rattle.restart.proofs.make_stores.Goals as goal

pub put-requires-clause-at_in_bounds : goal.put-requires-clause-at_in_bounds
unfolding former_length
put-requires-clause-at_in_bounds c = search rules

pub returns : goal.returns
returns c =
    let u = c.undo_all-stores.ensures in
    let p = c.put.ensures in
    let q = c.clear_logs.ensures in
    let d = stores-all _ _ _ _ _ _ _ _ _ _ u.counted u.written c.scan-found.ensures.base p.counted (rw u.limit at p.written)
    q.counted (rw (p.limit, u.limit) at q.written) in
    record { boundary = c.scan-found.ensures.boundary; undo = u.counted; counted = d.0; torn = c.scan-found.ensures.torn; written = d.1 }
