-- `recovery::scan::offer` meets its contract. The loop's invariant: the slots below slot j are offered, the greatest of their timestamps is known and the
-- torn ones are counted. Assumes nothing.
use Rattle.std.proofs.Common.{ap, ◌∙◌, arith, rules}
use Rattle.image.specs.inner.ImageLaws.{sizes-in}
use Rattle.lane_log.specs.Log.{slot_at}
use Rattle.recovery.specs.inner.ScanLaws.{offered-start, offered-low, offered-more, offered-all, torn-adds, stamp-adds, other-adds}
use Rattle.recovery.proofs.scan.offer.Goals as goal
use Rattle.recovery.proofs.scan.offer.Goals.{in-Torn, in-Stamp, in_default}

pub loop-j-init : goal.loop-j-init
loop-j-init c = (search rules, offered-start _ _ _ _ (search rules))

pub overflow_add-torn : goal.overflow_add-torn
overflow_add-torn c =
    let l = c.loop-j in
    omega (
      arith,
      offered-low _ _ _ l.j l.stamps l.greatest l.torn l.invariant.1,
      l.invariant.0,
      (sizes-in _ c.requires.image.sizes-ok).slots-high,
    )

pub loop-j-preserved : goal.loop-j-preserved
loop-j-preserved c =
    let l = c.loop-j in
    let e = c.of-log.ensures in
    let log = e.log in (
      search rules,
      offered-more _ _ _ l.j l.stamps l.greatest l.torn l.invariant.1 (search rules) _ _ _ _
          ((rw e.words at c.slot_at-content.ensures) ∙ ap (λ x. slot_at c.args.sizes.words x l.j) log) log (rw (e.words, e.slots, e.base) at c.offered.ensures)
          (elim c.match-content.branch [
            | in-Torn w ↦ rw (w.greatest-is, w.torn-is) (torn-adds l.greatest l.torn _ w.in-Torn.is)
            | in-Stamp w ↦ rw (w.greatest-is, w.torn-is, w.max-greatest.ensures) (stamp-adds l.greatest l.torn _ w.in-Stamp.is)
            | in_default w ↦ rw (w.greatest-is, w.torn-is) (other-adds l.greatest l.torn _ w.in_default.not-Torn w.in_default.not-Stamp)
          ]),
    )

pub returns-clause-offers : goal.returns-clause-offers
returns-clause-offers c =
    let l = c.loop-j in
    (offered-all _ _ _ l.j l.stamps l.greatest l.torn l.invariant.1 (omega arith)).0
