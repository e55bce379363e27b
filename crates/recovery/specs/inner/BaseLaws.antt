-- Inner: how the code goes, need not be believed. The new base timestamp: the greatest of the base and of every whole timestamp in the logs, complete or
-- not. Assumes nothing.
use Rattle.std.specs.Prelude.{◌≡◌, ◌⊎◌, List, ltb}
use Rattle.std.proofs.Math.Path.{refl, subst}
use Rattle.std.proofs.Math.Logic.{inl, inr}
use Prim.Native.Nat.{ℕ, zero, suc, ◌≤◌, ◌<◌, max}
use Rattle.std.proofs.Common.{arith}
use borrow.Author.Tests.{ltb-true, ltb-false}
use Rattle.laws.specs.inner.Tests.{split}
use Rattle.slot.specs.declared.Content.{Content}
use Rattle.slot.specs.declared.Content.TheVariants.{Empty, Torn, Entry, Stamp}
use Rattle.image.specs.Image.{base_of, log_of}
use Rattle.image.specs.declared.Sizes.{Sizes}
use Rattle.lane_log.specs.Log.{slot_at}
use Rattle.recovery.specs.Recovery.{whole_stamp, greatest_below, greatest_of, new_base}

-- ---- the statement
-- a slot below j of a log says the whole timestamp s
pub record WholeBelow (W : ℕ) (log : List ℕ) (j s : ℕ) : Type 0 where
  pub slot : ℕ
  pub low : slot < j
  pub count : ℕ
  pub wrap : ℕ
  pub reads : slot_at W log slot ≡ Stamp count s wrap

-- the log of a lane below k has the whole timestamp s
pub record WholeIn (z : Sizes) (image : List ℕ) (k s : ℕ) : Type 0 where
  pub lane : ℕ
  pub low : lane < k
  pub whole : WholeBelow z.words (log_of z lane image) z.slots s

-- b is at least the base and every whole timestamp of the logs, and is one of them
pub record NewBase (z : Sizes) (image : List ℕ) (b : ℕ) : Type 0 where
  pub base : base_of image ≤ b
  pub stamps : (s : ℕ) → WholeIn z image z.lanes s → s ≤ b
  pub one : (b ≡ base_of image) ⊎ WholeIn z image z.lanes b

-- ---- one log
stamp-of : (x : Content) (n s p : ℕ) → x ≡ Stamp n s p → whole_stamp x ≡ s
unfolding whole_stamp
stamp-of x n s p e = rw e

module _ (W : ℕ) (log : List ℕ) where
  below-most : (j s : ℕ) → WholeBelow W log j s → s ≤ greatest_below W log j
  unfolding greatest_below
  below-most zero s w = absurd (omega (arith, w.low))
  below-most (suc j) s w =
      split (ltb w.slot j)
      (λ t. let r = below-most j s (record { slot = w.slot; low = ltb-true w.slot j t; count = w.count; wrap = w.wrap; reads = w.reads }) in omega arith)
      (λ t. let e : w.slot ≡ j = omega (arith, w.low, ltb-false w.slot j t) in
      let r = stamp-of (slot_at W log j) w.count s w.wrap (subst (λ i. slot_at W log i ≡ Stamp w.count s w.wrap) e w.reads) in
      omega arith)

  -- a timestamp that is not 0 stands somewhere
  one-here : (j s : ℕ) (x : Content) → slot_at W log j ≡ x → whole_stamp x ≡ s → 0 < s → WholeBelow W log (suc j) s
  unfolding whole_stamp
  one-here j s Empty r e h = absurd (omega arith)
  one-here j s Torn r e h = absurd (omega arith)
  one-here j s (Entry i v p) r e h = absurd (omega arith)
  one-here j s (Stamp n t p) r e h = record { slot = j; low = omega arith; count = n; wrap = p; reads = subst (λ u. slot_at W log j ≡ Stamp n u p) e r }

  below_one : (j s : ℕ) → greatest_below W log j ≡ s → 0 < s → WholeBelow W log j s
  unfolding greatest_below
  below_one zero s e h = absurd (omega arith)
  below_one (suc j) s e h =
      split (ltb (greatest_below W log j) (whole_stamp (slot_at W log j)))
      (λ t. one-here j s (slot_at W log j) refl (omega (arith, ltb-true (greatest_below W log j) (whole_stamp (slot_at W log j)) t)) h)
      (λ t. let w = below_one j s (omega (arith, ltb-false (greatest_below W log j) (whole_stamp (slot_at W log j)) t)) h in
      record { slot = w.slot; low = omega (arith, w.low); count = w.count; wrap = w.wrap; reads = w.reads })

-- ---- all lanes
module _ (z : Sizes) (image : List ℕ) where
  of-most : (k s : ℕ) → WholeIn z image k s → s ≤ greatest_of z image k
  unfolding greatest_of
  of-most zero s w = absurd (omega (arith, w.low))
  of-most (suc k) s w =
      split (ltb w.lane k)
      (λ t. let r = of-most k s (record { lane = w.lane; low = ltb-true w.lane k t; whole = w.whole }) in omega arith)
      (λ t. let e : w.lane ≡ k = omega (arith, w.low, ltb-false w.lane k t) in
      let r = below-most z.words (log_of z k image) z.slots s (subst (λ L. WholeBelow z.words (log_of z L image) z.slots s) e w.whole) in
      omega arith)

  of_one : (k s : ℕ) → greatest_of z image k ≡ s → 0 < s → WholeIn z image k s
  unfolding greatest_of
  of_one zero s e h = absurd (omega arith)
  of_one (suc k) s e h =
      let g = greatest_below z.words (log_of z k image) z.slots in
      split (ltb (greatest_of z image k) g)
      (λ t. record {
        lane = k;
        low = omega arith;
        whole = below_one z.words (log_of z k image) z.slots s (omega (arith, ltb-true (greatest_of z image k) g t)) h;
      })
      (λ t. let w = of_one k s (omega (arith, ltb-false (greatest_of z image k) g t)) h in
      record { lane = w.lane; low = omega (arith, w.low); whole = w.whole })

  -- ---- the law
  pub new_base-greatest : NewBase z image (new_base z image)
  unfolding new_base
  new_base-greatest =
      record {
        base = omega arith;
        stamps = λ s w. omega (arith, of-most z.lanes s w);
        one = split (ltb (base_of image) (greatest_of z image z.lanes))
            (λ t. let h = ltb-true (base_of image) (greatest_of z image z.lanes) t in
            inr (of_one z.lanes (max (base_of image) (greatest_of z image z.lanes)) (omega arith) (omega arith)))
            (λ t. let h = ltb-false (base_of image) (greatest_of z image z.lanes) t in inl (omega arith));
      }
