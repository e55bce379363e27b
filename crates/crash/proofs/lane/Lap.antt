-- Numbers of one lane within one window: the wrap bit against that of the highest slot, then the slot, tell which was appended later. Assumes nothing.
use mathlib.Core.Path.{◌≡◌, ap}
use mathlib.Core.Logic.{◌≢◌}
use Prim.Native.Nat.{ℕ, ◌+◌, ◌*◌, ◌/◌, ◌%◌, ◌≤◌, ◌<◌}
use native.Mathlib.Omega.{arith}
use native.Mathlib.Nat.{div-add-mod', mod-lt, mul-le-mul_right}
use lib.Dec.{ltb}
use borrow.Author.Tests.{ltb-true, ltb-false}
use Rattle.laws.specs.inner.Tests.{split}
use Rattle.crash.proofs.lane.Absolute.{wrap_of}

-- number e is before number f: f alone is past the wrap, which the highest slot's number t is before; or they have the same wrap bit and f the higher slot
pub data Sooner (N t e f : ℕ) : Type 0 where
  wrapped : wrap_of N e ≡ wrap_of N t → wrap_of N f ≢ wrap_of N t → Sooner N t e f
  higher : wrap_of N e ≡ wrap_of N f → e % N < f % N → Sooner N t e f

module _ (N : ℕ) (pos : 0 < N) where
  -- the lap of number e, where t, less than a lap apart, has no lower slot: that of t or the next
  data Lap (t e : ℕ) : Type 0 where
    same : e / N ≡ t / N → Lap t e
    next : e / N ≡ t / N + 1 → Lap t e

  lap : (t e : ℕ) → e % N ≤ t % N → t < e + N → e < t + N → Lap t e
  lap t e h a b =
      split (ltb (e / N) (t / N))
      (λ k. absurd (omega (arith, de, dt, mul-le-mul_right N (ltb-true (e / N) (t / N) k))))
      (λ k. split (ltb (t / N) (e / N))
      (λ l. split (ltb (t / N + 1) (e / N))
      (λ i. absurd (omega (arith, de, dt, mod-lt t pos, mul-le-mul_right N (ltb-true (t / N + 1) (e / N) i))))
      (λ i. next (omega (arith, ltb-false (t / N + 1) (e / N) i, ltb-true (t / N) (e / N) l))))
      (λ l. same (omega (arith, ltb-false (e / N) (t / N) k, ltb-false (t / N) (e / N) l))))
    where
      de : e / N * N + e % N ≡ e
      de = div-add-mod' e N

      dt : t / N * N + t % N ≡ t
      dt = div-add-mod' t N

  -- in one lap the later number has the higher slot
  in-lap : (e f : ℕ) → e / N ≡ f / N → e < f → e % N < f % N
  in-lap e f q l = let p : e / N * N ≡ f / N * N = ap (◌* N) q in omega (arith, div-add-mod' e N, div-add-mod' f N)

  not_back : (e f : ℕ) → e / N ≡ f / N + 1 → e < f → ⊥
  not_back e f q l =
      let p : e / N * N ≡ (f / N + 1) * N = ap (◌* N) q in omega (arith, div-add-mod' e N, div-add-mod' f N, mod-lt f pos)

  -- e before f, neither in a higher slot than t, all less than a lap apart
  pub sooner : (t e f : ℕ) → e % N ≤ t % N → f % N ≤ t % N → t < e + N → e < t + N → t < f + N → f < t + N → e < f → Sooner N t e f
  unfolding wrap_of
  sooner t e f a b c d g h l = go (lap t e a c d) (lap t f b g h)
    where
      go : Lap t e → Lap t f → Sooner N t e f
      go (same p) (same q) = let r : e / N ≡ f / N = omega arith in higher (ap (◌% 2) r) (in-lap e f r l)
      go (same p) (next q) = wrapped (ap (◌% 2) p) (λ r. omega arith)
      go (next p) (same q) = absurd (not_back e f (omega arith) l)
      go (next p) (next q) = let r : e / N ≡ f / N = omega arith in higher (ap (◌% 2) r) (in-lap e f r l)
