-- Inner: how the code goes, need not be believed. Lane masks: the law of a table of them, and the code's bit operators with a mask, which are test, set and
-- clear of a lane's bit; by recursion on the lane. Assumes nothing.
use Rattle.std.specs.Prelude.{◌≡◌, refl, ◌≢◌, Bool, true, false, cond, not, ◌&&◌, List, ℕ, zero, suc, ◌+◌, ◌-◌, ◌*◌, ◌/◌, ◌%◌, ◌^◌, ◌≤◌, ◌<◌, min, max, eqb, ltb, get_or}
use Rattle.std.proofs.Common.{⊎_elim, arith, le_of_suc-le-suc, not-suc-le-zero, eq-or-lt_of_le, mod-eq_of_lt, pow_pos, pow_mono, ne_eqb, eqb-true, ltb-true, ltb-false}
use Rattle.std.specs.Int.Bits.{bit_and, bit_or, and_step, or_step, and_zero_r, or_zero_r}
use Rattle.std.proofs.lemmas.Nat.{and_mask}
use Rattle.std.proofs.lemmas.Bool.{eqb-false}
use Rattle.laws.specs.inner.Tests.{split, and_left, and_right}
use Rattle.image.specs.Flush.{flushed, flush, unflush}

-- ---- the table
-- is each of the first n entries 2 to the power of its number
unfoldable pub are_powers : ℕ → List ℕ → Bool
are_powers zero masks = true
are_powers (suc n) masks = eqb (get_or masks n 0) (2 ^ n) && are_powers n masks

-- entry L is 2 to the power L, in a table of which the test computes to true
pub power_at : (n : ℕ) (masks : List ℕ) → are_powers n masks ≡ true → (L : ℕ) → L < n → get_or masks L 0 ≡ 2 ^ L
unfolding are_powers
power_at zero masks e L h = absurd (not-suc-le-zero h)
power_at (suc n) masks e L h =
    let last = eqb (get_or masks n 0) (2 ^ n) in
    ⊎_elim
    (λ q. rw q (eqb-true (get_or masks n 0) (2 ^ n) (and_left last (are_powers n masks) e)))
    (λ l. power_at n masks (and_right last (are_powers n masks) e) L l)
    (eq-or-lt_of_le (le_of_suc-le-suc h))

-- ---- the bit operators
double : (L : ℕ) → 2 ^ suc L / 2 ≡ 2 ^ L
double L = omega arith

even : (L : ℕ) → 2 ^ suc L % 2 ≡ 0
even L = omega arith

-- a mask of k bits is that of one of the first k lanes
pub lane_below : (k L : ℕ) → 2 ^ L < 2 ^ k → L < k
lane_below k L h = split (ltb L k) (ltb-true L k) (λ e. absurd (omega (arith, pow_mono (ltb-false L k e))))

-- setting: flag | mask
pub or-mask : (L f : ℕ) → bit_or f (2 ^ L) ≡ flush L f
unfolding flush
or-mask zero f = rw (or_step f 1, or_zero_r (f / 2)) (omega arith)
or-mask (suc L) f = rw (or_step f (2 ^ suc L), double L, even L, or-mask L (f / 2)) (omega arith)

-- a bit that is clear in the or of two bytes is clear in both
pub flushed-or : (L a b : ℕ) → flushed L (bit_or a b) ≡ false → (flushed L a ≡ false) × (flushed L b ≡ false)
unfolding flushed
flushed-or zero a b h =
    let odd : (bit_or (a / 2) (b / 2) * 2 + max (a % 2) (b % 2)) % 2 ≢ 1 = eqb-false _ 1 (rw (or_step a b) at h) in
    (ne_eqb (a % 2) 1 (λ e. omega arith), ne_eqb (b % 2) 1 (λ e. omega arith))
flushed-or (suc L) a b h = flushed-or L (a / 2) (b / 2) (rw (or_step a b, upper) at h)
  where
    upper : (bit_or (a / 2) (b / 2) * 2 + max (a % 2) (b % 2)) / 2 ≡ bit_or (a / 2) (b / 2)
    upper = omega arith

-- what the mask leaves of the flag byte
masked : (L f : ℕ) → bit_and f (2 ^ L) ≡ cond (flushed L f) (2 ^ L) 0
unfolding flushed
masked zero f =
    rw (and_step f 1, and_zero_r (f / 2))
    (split (eqb (f % 2) 1) (λ e. rw e (omega (arith, eqb-true (f % 2) 1 e))) (λ e. rw e (omega (arith, eqb-false (f % 2) 1 e))))
masked (suc L) f = rw (and_step f (2 ^ suc L), double L, even L, masked L (f / 2)) (go (flushed L (f / 2)))
  where
    go : (b : Bool) → cond b (2 ^ L) 0 * 2 + min (f % 2) 0 ≡ cond b (2 ^ suc L) 0
    go true = let e : 2 ^ L * 2 + min (f % 2) 0 ≡ 2 ^ suc L = omega arith in e
    go false = omega arith

-- testing: flag & mask != 0
pub and-mask-set : (L f : ℕ) → not (eqb (bit_and f (2 ^ L)) 0) ≡ flushed L f
and-mask-set L f = rw (masked L f) (go (flushed L f))
  where
    go : (b : Bool) → not (eqb (cond b (2 ^ L) 0) 0) ≡ b
    go true = rw (ne_eqb (2 ^ L) 0 (λ e. omega (arith, pow_pos L)))
    go false = refl

-- clearing: flag & !mask, in k bits
pub and-not-mask : (k L f : ℕ) → L < k → f < 2 ^ k → bit_and f (2 ^ k - 1 - 2 ^ L) ≡ unflush L f
unfolding unflush
and-not-mask zero L f h g = absurd (not-suc-le-zero h)
and-not-mask (suc k) zero f h g =
    rw (and_step f (2 ^ suc k - 1 - 1), up k, down k, and_mask (f / 2) k, mod-eq_of_lt {n = f / 2} {m = 2 ^ k} (omega arith)) (omega arith)
  where
    up : (k : ℕ) → (2 ^ suc k - 1 - 1) / 2 ≡ 2 ^ k - 1
    up k = omega (arith, pow_pos k)

    down : (k : ℕ) → (2 ^ suc k - 1 - 1) % 2 ≡ 0
    down k = omega (arith, pow_pos k)
and-not-mask (suc k) (suc L) f h g =
    rw (and_step f (2 ^ suc k - 1 - 2 ^ suc L), up, down, and-not-mask k L (f / 2) (le_of_suc-le-suc h) (omega arith)) (omega arith)
  where
    fits : 2 ^ suc L ≤ 2 ^ k
    fits = pow_mono (le_of_suc-le-suc h)

    up : (2 ^ suc k - 1 - 2 ^ suc L) / 2 ≡ 2 ^ k - 1 - 2 ^ L
    up = omega (arith, fits)

    down : (2 ^ suc k - 1 - 2 ^ suc L) % 2 ≡ 1
    down = omega (arith, fits, pow_pos L)
