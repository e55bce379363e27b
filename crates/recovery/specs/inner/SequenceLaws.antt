-- Inner: how the code goes, need not be believed. What every complete sequence found in an image is: its entries name data words, and its timestamp is
-- above the base and a whole one, so even and not above the new base. Assumes nothing.
use Rattle.std.specs.Prelude.{◌≡◌, refl, ◌⊎◌, ◌&&◌, List, ltb, length}
use Rattle.std.proofs.Common.{subst, inl, inr, arith}
use Prim.Native.Nat.{ℕ, zero, suc, ◌%◌, ◌≤◌, ◌<◌}
use Rattle.std.proofs.Math.Dec.{eqb}
use borrow.Author.Tests.{ltb-true, ltb-false}
use Rattle.laws.specs.inner.Tests.{split, and_left}
use Rattle.laws.specs.inner.Lists.{All, none as nil, more, All-append, All-map}
use Rattle.laws.specs.inner.Members.{In, In-left, In-right}
use Rattle.slot.specs.declared.Content.{Content}
use Rattle.slot.specs.declared.Content.TheVariants.{Empty, Torn, Entry, Stamp}
use Rattle.image.specs.Image.{base_of, log_of}
use Rattle.image.specs.declared.Sizes.{Sizes}
use Rattle.lane_log.specs.Log.{Old, Complete, slot_at, entries_back, closes, complete_below, complete_in}
use Rattle.lane_log.specs.inner.LogLaws.{stamp-in, back-words}
use Rattle.recovery.specs.Recovery.{complete_of, new_base}
use Rattle.recovery.specs.inner.BaseLaws.{WholeBelow, WholeIn, new_base-greatest}

-- ---- the lanes' sequences together
pub lane-in : (z : Sizes) (image : List ℕ) {q : Complete} (k L : ℕ) → L < k → In q (complete_in z image L) → In q (complete_of z image k)
unfolding complete_of
lane-in z image zero L l i = absurd (omega arith)
lane-in z image {q} (suc k) L l i =
    split (ltb L k)
    (λ e. In-left (complete_in z image k) (lane-in z image k L (ltb-true L k e) i))
    (λ e. In-right (complete_of z image k) (subst (λ m. In q (complete_in z image m)) (let p : L ≡ k = omega (arith, ltb-false L k e) in p) i))

pub lane-all : {P : Complete → Type 0} (z : Sizes) (image : List ℕ) (k : ℕ) → ((L : ℕ) → L < k → All P (complete_in z image L)) → All P (complete_of z image k)
unfolding complete_of
lane-all z image zero f = nil
lane-all z image (suc k) f = All-append (lane-all z image k (λ L l. f L (omega arith))) (f k (omega arith))

-- ---- each of them
abbrev pub Low : ℕ → Old → Type 0
Low W e = e.word < W

-- a complete sequence of a log of k slots
record SoundBelow (W base : ℕ) (log : List ℕ) (k : ℕ) (q : Complete) : Type 0 where
  low : All (Low W) q.entries
  above : base < q.stamp
  whole : WholeBelow W log k q.stamp

-- and of an image
pub record Sound (z : Sizes) (image : List ℕ) (q : Complete) : Type 0 where
  pub low : All (Low z.words) q.entries
  pub above : base_of image < q.stamp
  pub whole : WholeIn z image z.lanes q.stamp

module _ (W N base : ℕ) (log : List ℕ) (L k : ℕ) where
  sound-closes : (j : ℕ) → j < k → (x : Content) → slot_at W log j ≡ x → All (SoundBelow W base log k) (closes W N base log L j x)
  unfolding closes
  sound-closes j l Empty r = nil
  sound-closes j l Torn r = nil
  sound-closes j l (Entry i o p) r = nil
  sound-closes j l (Stamp n s p) r =
      split (ltb base s && eqb (length (entries_back W N log j p n)) n)
      (λ e. rw e (more
      (record {
        low = back-words W N log j p n;
        above = ltb-true base s (and_left (ltb base s) _ e);
        whole = record { slot = j; low = l; count = n; wrap = p; reads = r };
      })
      nil))
      (λ e. rw e nil)

  sound-below : (j : ℕ) → j ≤ k → All (SoundBelow W base log k) (complete_below W N base log L j)
  unfolding complete_below
  sound-below zero l = nil
  sound-below (suc j) l = All-append (sound-below j (omega arith)) (sound-closes j (omega arith) (slot_at W log j) refl)

module _ (z : Sizes) (image : List ℕ) where
  sound-in : (L : ℕ) → L < z.lanes → All (Sound z image) (complete_in z image L)
  unfolding complete_in
  sound-in L l =
      All-map (λ q s. record { low = s.low; above = s.above; whole = record { lane = L; low = l; whole = s.whole } })
      (sound-below z.words z.slots (base_of image) (log_of z L image) L z.slots z.slots (omega arith))

  pub sound : All (Sound z image) (complete_of z image z.lanes)
  sound = lane-all z image z.lanes sound-in

  -- ---- whole timestamps, complete or not
  pub whole-even : (k s : ℕ) → WholeIn z image k s → s % 2 ≡ 0
  whole-even k s w = let r = w.whole in (stamp-in z.words (log_of z w.lane image) r.slot r.count s r.wrap r.reads).even

  -- so the base stays even
  pub new_base-even : base_of image % 2 ≡ 0 → new_base z image % 2 ≡ 0
  new_base-even h = by (new_base-greatest z image).one
    where
      by : (new_base z image ≡ base_of image) ⊎ WholeIn z image z.lanes (new_base z image) → new_base z image % 2 ≡ 0
      by (inl e) = rw e h
      by (inr w) = whole-even z.lanes (new_base z image) w
