-- `lane_log::Log::fold_high` meets its contract. The loops' invariant: what a step that changes nothing at a low slot makes of the slots passed. Assumes
-- nothing.
use Rattle.std.proofs.Common.{◌+◌, ◌*◌, ◌≡◌, ap, sym, ◌∙◌, arith}
use Rattle.std.specs.List.{fold, range_with_len}
use Rattle.lane_log.specs.inner.Search.{group}
use Rattle.lane_log.proofs.Ranges.{fold-next}
use Rattle.lane_log.proofs.SearchLaws.{fold-passed}
use Rattle.lane_log.proofs.Log.fold_high.Goals as goal
use Rattle.lane_log.proofs.Log.fold_high.Goals.{then-any_high+else-loop-j-test, else-any_high}

pub loop-j-preserved : goal.loop-j-preserved
loop-j-preserved g c =
    let l = c.loop-j in (
      omega arith,
      λ h acts skips. acts _ _ _ c.step-folded.ensures ∙ ap (λ a. h a l.j) (l.invariant.1 h acts skips) ∙ fold-next h c.args.start l.j,
    )

pub loop-k-preserved : goal.loop-k-preserved
loop-k-preserved g c = (
  omega arith,
  λ h acts skips. elim c.if-any_high.branch [
    | then-any_high+else-loop-j-test w ↦
        let e : w.loop-j.j ≡ group * (c.loop-k.k + 1) = omega arith in
        w.folded-is ∙ w.loop-j.invariant.1 h acts skips ∙ ap (λ n. fold h c.args.start (range_with_len 0 n)) e
    | else-any_high w ↦
        w.folded-is ∙ c.loop-k.invariant.1 h acts skips
        ∙ fold-passed h c.args.self.now.log.now skips c.args.start (group * c.loop-k.k) (group * (c.loop-k.k + 1)) (omega arith) (sym c.any_high.ensures ∙ w.if-any_high.false)
  ],
)

pub loop-j-2-preserved : goal.loop-j-2-preserved
loop-j-2-preserved g c =
    let l = c.loop-j-2 in (
      omega arith,
      λ h acts skips. acts _ _ _ c.step-folded-in-loop-j-2.ensures ∙ ap (λ a. h a l.j) (l.invariant.1 h acts skips) ∙ fold-next h c.args.start l.j,
    )
