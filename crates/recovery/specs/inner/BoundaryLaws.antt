-- Inner: how the code goes, need not be believed. The boundary against the sequences found: it is the timestamp of one lane's latest, which closes
-- entries, and at most that of each such one. Assumes nothing.
use Rattle.std.proofs.Math.Path.{◌≡◌, refl, ap}
use Rattle.std.proofs.Common.{◌∙◌, arith, le_refl, Option, Some, None}
use Rattle.std.specs.Prelude.{◌≢◌, List, ltb, eqb}
use Prim.Native.Nat.{ℕ, zero, suc, ◌≤◌, ◌<◌, min}
use borrow.Author.Tests.{ltb-true, ltb-false, eqb-false}
use Rattle.laws.specs.inner.Tests.{split}
use Rattle.image.specs.declared.Sizes.{Sizes}
use Rattle.lane_log.specs.Log.{Complete, complete_in, sequence_of, latest_in, given, contribution}
use Rattle.lane_log.specs.declared.Sequence.{Sequence}
use Rattle.record.specs.Record.{lesser}
use Rattle.lane_log.specs.inner.LogLaws.{at_one}
use Rattle.lane_log.specs.inner.LatestLaws.{latest-greatest}
use Rattle.recovery.specs.Recovery.{boundary_below, boundary, complete_of}
use Rattle.laws.specs.inner.Members.{In}
use Rattle.recovery.specs.inner.SequenceLaws.{lane-in}

-- ---- what a lane gives: the timestamp of a sequence that closes entries
pub record Gives (l : Option Sequence) (m : ℕ) : Type 0 where
  pub by : Sequence
  pub is : l ≡ Some by
  pub stamp : by.stamp ≡ m
  pub some : by.count ≢ 0

pub gives : (l : Option Sequence) (m : ℕ) → contribution l ≡ Some m → Gives l m
unfolding contribution given
gives None m e = absurd (let z : ◌≡◌ {A = ℕ} 0 1 = cc in omega arith)
gives (Some q) m e =
    split (eqb q.count 0)
    (λ t. absurd (let f : None ≡ Some m = rw t at e in let z : ◌≡◌ {A = ℕ} 0 1 = cc in omega arith))
    (λ t. record { by = q; is = refl; stamp = at_one (rw t at e); some = eqb-false q.count 0 t })

-- ---- the least of them
-- a timestamp that is there, and not above m
pub record Below (m : ℕ) (t : Option ℕ) : Type 0 where
  pub stamp : ℕ
  pub is : t ≡ Some stamp
  pub most : stamp ≤ m

below_left : (m : ℕ) (t u : Option ℕ) → Below m t → Below m (lesser t u)
unfolding lesser
below_left m None u b = let e = b.is in absurd (let z : ◌≡◌ {A = ℕ} 0 1 = cc in omega arith)
below_left m (Some a) None b = b
below_left m (Some a) (Some c) b =
    let e : a ≡ b.stamp = at_one b.is in
    record { stamp = min a c; is = refl; most = omega (arith, b.most) }

below_right : (m : ℕ) (t : Option ℕ) → Below m (lesser t (Some m))
unfolding lesser
below_right m None = record { stamp = m; is = refl; most = le_refl m }
below_right m (Some a) = record { stamp = min a m; is = refl; most = omega arith }

module _ (z : Sizes) (image : List ℕ) where
  below_lane : (k L m : ℕ) → L < k → contribution (latest_in z image L) ≡ Some m → Below m (boundary_below z image k)
  unfolding boundary_below
  below_lane zero L m l e = absurd (omega arith)
  below_lane (suc k) L m l e =
      split (ltb L k)
      (λ t. below_left m (boundary_below z image k) (contribution (latest_in z image k)) (below_lane k L m (ltb-true L k t) e))
      (λ t. let p : L ≡ k = omega (arith, ltb-false L k t) in rw (rw p at e) (below_right m (boundary_below z image k)))

  -- the boundary is at most what each lane gives
  pub boundary-below : (L m : ℕ) → L < z.lanes → contribution (latest_in z image L) ≡ Some m → Below m (boundary z image)
  unfolding boundary
  boundary-below L m l e = below_lane z.lanes L m l e

  -- a lane below k that gives this timestamp
  pub record LaneWith (k b : ℕ) : Type 0 where
    pub lane : ℕ
    pub low : lane < k
    pub latest : contribution (latest_in z image lane) ≡ Some b

  lane-with : (k b : ℕ) → boundary_below z image k ≡ Some b → LaneWith k b
  unfolding boundary_below lesser
  lane-with zero b e = absurd (let z : ◌≡◌ {A = ℕ} 0 1 = cc in omega arith)
  lane-with (suc k) b e = go (boundary_below z image k) refl (contribution (latest_in z image k)) refl (lane-with k)
    where
      up : LaneWith k b → LaneWith (suc k) b
      up r = record { lane = r.lane; low = omega (arith, r.low); latest = r.latest }

      go : (t : Option ℕ) → boundary_below z image k ≡ t → (u : Option ℕ) → contribution (latest_in z image k) ≡ u
          → ((a : ℕ) → boundary_below z image k ≡ Some a → LaneWith k a) → LaneWith (suc k) b
      go None p u q ih = record { lane = k; low = omega arith; latest = rw p at e }
      go (Some a) p None q ih = up (ih b (p ∙ rw (p, q) at e))
      go (Some a) p (Some c) q ih =
          let f : min a c ≡ b = at_one (rw (p, q) at e) in
          split (ltb a c)
          (λ t. up (ih b (p ∙ ap Some (let g : a ≡ b = omega (arith, ltb-true a c t) in g))))
          (λ t. record { lane = k; low = omega arith; latest = q ∙ ap Some (let g : c ≡ b = omega (arith, ltb-false a c t) in g) })

  -- and what one lane gives
  pub boundary-is : (b : ℕ) → boundary z image ≡ Some b → LaneWith z.lanes b
  unfolding boundary
  boundary-is b e = lane-with z.lanes b e

  -- so it is the timestamp of a sequence
  pub record Stamped (b : ℕ) : Type 0 where
    pub by : Complete
    pub found : In by (complete_of z image z.lanes)
    pub stamp : by.stamp ≡ b

  pub boundary-in : (b : ℕ) → boundary z image ≡ Some b → Stamped b
  unfolding latest_in sequence_of
  boundary-in b e =
      let r = boundary-is b e in
      let g = gives (latest_in z image r.lane) b r.latest in
      let q = latest-greatest (complete_in z image r.lane) g.by g.is in
      record {
        by = q.by;
        found = lane-in z image z.lanes r.lane r.low q.found;
        stamp = ap (λ (s : Sequence). s.stamp) q.is ∙ g.stamp;
      }
