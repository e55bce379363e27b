-- `recovery::scan::lapped` meets its contract. The loop's invariant: the latest of the slots passed. Assumes nothing.
use Rattle.std.proofs.Common.{arith, rules, get_or-take, length-take-le}
use Rattle.recovery.specs.inner.LapLaws.{lap-none, lap-more}
use Rattle.recovery.proofs.scan.lapped.Goals as goal

pub loop-k-init : goal.loop-k-init
loop-k-init c = (search rules, lap-none _ _ _ _ _ _ _)

pub loop-k-preserved : goal.loop-k-preserved
loop-k-preserved c = let l = c.loop-k in (
  search rules,
  lap-more _ _ _ _ _ _ _ l.k l.best _ l.invariant.1 (rw (get_or-take c.args.found.slot c.args.stamps.now l.k 0 (omega (arith, length-take-le c.args.found.slot c.args.stamps.now (omega arith)))) at
      c.lap_at-best.ensures),
)
