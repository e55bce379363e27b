-- Of the sequences of one lane and timestamp, the one appended later is undone first. Assumes nothing.
use mathlib.Core.Path.{◌≡◌, sym, ◌∙◌, subst}
use mathlib.Core.Logic.{◌⊎◌, inl, inr}
use mathlib.Core.Bool.{true}
use mathlib.Core.List.{List}
use Prim.Native.Nat.{ℕ, zero, suc, ◌<◌}
use native.Mathlib.Omega.{arith}
use lib.ListN.{length}
use Rattle.laws.specs.inner.Lists.{All, All-map}
use Rattle.laws.specs.inner.Members.{In, In-append, In-All}
use Rattle.image.specs.Image.{base_of, log_of}
use Rattle.image.specs.declared.Sizes.{Sizes}
use Rattle.lane_log.specs.Log.{Complete, complete_in, undone_before}
use Rattle.lane_log.specs.inner.OrderLaws.{below_at}
use Rattle.recovery.specs.Recovery.{complete_of}
use Rattle.recovery.specs.inner.SequenceLaws.{lane-in}
use Rattle.recovery.specs.inner.UndoOrderLaws.{complete-rising}
use Rattle.crash.proofs.lane.Ghost.{Past}
use Rattle.crash.proofs.lane.Later.{Numbered, later_first}
use Rattle.crash.proofs.lane.Seqs.{Seq, stands}
use Rattle.crash.proofs.lane.Shown.{Listed}
use Rattle.crash.proofs.lane.Written.{Whole}
use Rattle.crash.proofs.lane.Log.{Track}
use Rattle.crash.proofs.lane.Cut.{CutShows}

-- ---- lane by lane
module _ (z : Sizes) (image : List ℕ) where
  in-lane : (L : ℕ) → All (λ q. q.lane ≡ L) (complete_in z image L)
  unfolding complete_in
  in-lane L = All-map (λ q h. h.0) (below_at z.words z.slots (base_of image) (log_of z L image) L z.slots)

  -- a sequence of lane L is found in its log
  found_in : (k L : ℕ) (q : Complete) → In q (complete_of z image k) → q.lane ≡ L → In q (complete_in z image L)
  unfolding complete_of
  found_in zero L q i e = elim i [ ]
  found_in (suc k) L q i e = go (In-append (complete_of z image k) i) (λ j. found_in k L q j e)
    where
      go : (In q (complete_of z image k)) ⊎ (In q (complete_in z image k)) → (In q (complete_of z image k) → In q (complete_in z image L))
          → In q (complete_in z image L)
      go (inl j) ih = ih j
      go (inr j) ih = subst (λ M. In q (complete_in z image M)) (sym (In-All (in-lane k) j) ∙ e) j

-- q and r are found in lane L with timestamp s, whose sequences all stand whole; q ends later in the lane's history
module _ (z : Sizes) (pos : 0 < z.slots) (L : ℕ) (lane : L < z.lanes) (image : List ℕ) {t : Track} {h : List Past} {gs : List Seq}
    (shows : CutShows z L (complete_in z image L) t h gs)
    (s : ℕ) (whole : (g : Seq) → In g gs → g.stamp ≡ s → Whole z.slots h g) where
  number : {q : Complete} → (x : Listed z.slots gs q) → q.stamp ≡ s → Numbered z.slots (length h) q x.end
  number x e =
      record {
        slot = x.slot;
        wrap = x.wrap;
        new = omega (arith, whole _ x.among e);
        old = (stands z.words z.slots shows.history x.among).below;
      }

  pub undone-later : {q r : Complete} → In q (complete_in z image L) → In r (complete_in z image L) → (x : Listed z.slots gs q) (y : Listed z.slots gs r)
      → q.stamp ≡ s → r.stamp ≡ s → y.end < x.end → undone_before (complete_of z image z.lanes) q r ≡ true
  undone-later i j x y e f l =
      later_first z.slots (length h) pos (complete_of z image z.lanes) (complete-rising z image z.lanes) L s
      (λ q i a e. let x = In-All shows.known (found_in z image z.lanes L q i a) in (x.end, number x e))
      (lane-in z image z.lanes L lane i) (lane-in z image z.lanes L lane j) (In-All (in-lane z image L) i) (In-All (in-lane z image L) j)
      e f x.end y.end (number x e) (number y f) l
