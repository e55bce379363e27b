-- `recovery::scan::scan` meets its contract. The loop's invariant: the lanes below `lane` are read, each into its part of the arrays. Assumes nothing.
use Rattle.std.proofs.Common.{refl, arith, rules}
use Rattle.image.specs.Image.{former_length}
use Rattle.recovery.specs.inner.ScanLaws.{scanned-none, scanned-more, scanned-low, scanned-all}
use Rattle.recovery.proofs.scan.scan.Goals as goal

pub bounds-nvm-0 : goal.bounds-nvm-0
unfolding former_length
bounds-nvm-0 c = omega arith

pub loop-lane-init : goal.loop-lane-init
loop-lane-init c = (search rules, scanned-none _ _ _ _ _ refl (search rules))

pub read_lane-found-requires-clause-torn_bound : goal.read_lane-found-requires-clause-torn_bound
read_lane-found-requires-clause-torn_bound c =
    let l = c.loop-lane in
    scanned-low _ _ _ l.lane l.stamps l.tree _ _ _ l.invariant.1

pub loop-lane-preserved : goal.loop-lane-preserved
loop-lane-preserved c =
    let l = c.loop-lane in
    let e = c.read_lane-found.ensures in (
      search rules,
      scanned-more _ _ _ c.requires.lane_room.enough l.lane l.stamps l.tree _ _ _ l.invariant.1 (search rules) _ _ e.offers e.tree
          _ _ _ e.boundary e.base e.torn,
    )

pub returns : goal.returns
returns c =
    let l = c.loop-lane in
    let s = scanned-all _ _ _ l.lane l.stamps l.tree _ _ _ l.invariant.1 (omega arith) in
    record { boundary = s.0; base = s.1; torn = s.2; offering = s.3; trees = s.4 }
