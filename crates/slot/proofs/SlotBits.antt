-- Inner: how the code goes, need not be believed. The slot format by bit operators, as the code has it: the wrap bit and the low bit taken by `&`, the
-- shapes tested on the two bits above the wrap bit. Assumes nothing.
use Rattle.std.specs.Prelude.{ℕ, ◌+◌, ◌-◌, ◌*◌, ◌/◌, ◌%◌, ◌≤◌, ◌<◌, ◌≡◌, refl, Bool, true, false, ◌&&◌, leb, ltb, eqb}
use Rattle.std.proofs.Common.{sym, ◌∙◌, arith, eq-eqb, le-leb, le-ltb, leb-true, lt-ltb, eqb-true, ltb-true, ltb-false}
use Rattle.std.specs.Int.Bits.{bit_and}
use Rattle.std.proofs.lemmas.Nat.{and_mask}
use Rattle.std.proofs.lemmas.Bool.{eqb-false}
use Rattle.laws.specs.inner.Tests.{split, and_left, and_right}
use Rattle.slot.specs.Slot.{tag, max_entries, entry_of, entry_shape, stamp_shape, read_of}
use Rattle.slot.proofs.SlotLaws.{torn-read, shape-entry, shape-stamp, shape-torn}
use Rattle.slot.specs.declared.Slot.{Slot}
use Rattle.slot.specs.declared.Content.TheVariants.{Torn, Entry, Stamp}

-- bit 0
pub low_bit : (a : ℕ) → bit_and a 1 ≡ a % 2
low_bit a = and_mask a 1

-- bits 1 and 2
pub low-two : (a : ℕ) → bit_and (a / 2) 3 ≡ a / 2 % 4
low-two a = and_mask (a / 2) 2

-- an entry's words
pub made-entry : (i v p : ℕ) → ◌≡◌ {A = Slot} record { address = 8 * (i + 1) + 2 * bit_and v 1 + p; value = v - bit_and v 1 + p } (entry_of i v p)
unfolding entry_of
made-entry i v p =
    let b : bit_and v 1 ≡ v % 2 = low_bit v in
    let e : v - bit_and v 1 + p ≡ 2 * (v / 2) + p = omega arith in
    rw (e, b)

-- an entry's shape: bit 2 is 0
pub entry-tests : (W a : ℕ) → entry_shape W a ≡ (leb 1 (a / 8) && leb (a / 8) W && ltb (bit_and (a / 2) 3) 2)
unfolding entry_shape
entry-tests W a = rw (low-two a, same (ltb (a / 2 % 4) 2) refl)
  where
    same : (t : Bool) → ltb (a / 2 % 4) 2 ≡ t → ltb (a % 8) 4 ≡ t
    same true h = lt-ltb (a % 8) 4 (omega (arith, ltb-true (a / 2 % 4) 2 h))
    same false h = le-ltb (a % 8) 4 (omega (arith, ltb-false (a / 2 % 4) 2 h))

-- a timestamp's shape: bits 1 and 2 are 0
pub stamp-tests : (a : ℕ) → stamp_shape a ≡ (leb tag (a / 8) && leb (a / 8) (tag + max_entries) && eqb (bit_and (a / 2) 3) 0)
unfolding stamp_shape
stamp-tests a = rw (low-two a, same (eqb (a / 2 % 4) 0) refl)
  where
    same : (t : Bool) → eqb (a / 2 % 4) 0 ≡ t → ltb (a % 8) 2 ≡ t
    same true h = lt-ltb (a % 8) 2 (omega (arith, eqb-true (a / 2 % 4) 0 h))
    same false h = le-ltb (a % 8) 2 (omega (arith, eqb-false (a / 2 % 4) 0 h))

-- a word has an entry's shape where all that the reader asks holds, and only there
module _ (W a : ℕ) where
  pub entry-in : 1 ≤ a / 8 → a / 8 ≤ W → bit_and (a / 2) 3 < 2 → entry_shape W a ≡ true
  entry-in h k l = entry-tests W a ∙ rw (le-leb 1 (a / 8) h, le-leb (a / 8) W k, lt-ltb (bit_and (a / 2) 3) 2 l)

  pub entry-out : (1 ≤ a / 8 → a / 8 ≤ W → bit_and (a / 2) 3 < 2 → ⊥) → entry_shape W a ≡ false
  entry-out never =
      split (entry_shape W a)
      (λ e. let t = sym (entry-tests W a) ∙ e in
      let u = and_left (leb 1 (a / 8) && leb (a / 8) W) _ t in
      absurd
      (never (leb-true 1 (a / 8) (and_left _ _ u)) (leb-true (a / 8) W (and_right (leb 1 (a / 8)) _ u))
      (ltb-true _ 2 (and_right (leb 1 (a / 8) && leb (a / 8) W) _ t))))
      (λ e. e)

-- and likewise a timestamp's
module _ (a : ℕ) where
  pub stamp-in : tag ≤ a / 8 → a / 8 ≤ tag + max_entries → bit_and (a / 2) 3 ≡ 0 → stamp_shape a ≡ true
  stamp-in h k l = stamp-tests a ∙ rw (le-leb tag (a / 8) h, le-leb (a / 8) (tag + max_entries) k, eq-eqb (bit_and (a / 2) 3) 0 l)

  pub stamp-out : (tag ≤ a / 8 → a / 8 ≤ tag + max_entries → bit_and (a / 2) 3 ≡ 0 → ⊥) → stamp_shape a ≡ false
  stamp-out never =
      split (stamp_shape a)
      (λ e. let t = sym (stamp-tests a) ∙ e in
      let u = and_left (leb tag (a / 8) && leb (a / 8) (tag + max_entries)) _ t in
      absurd
      (never (leb-true tag (a / 8) (and_left _ _ u)) (leb-true (a / 8) (tag + max_entries) (and_right (leb tag (a / 8)) _ u))
      (eqb-true _ 0 (and_right (leb tag (a / 8) && leb (a / 8) (tag + max_entries)) _ t))))
      (λ e. e)

-- what the reader finds in words whose wrap bits it has taken
pub found-torn : (W a v : ℕ) → (bit_and a 1 ≡ bit_and v 1 → ⊥) → read_of W a v ≡ Torn
found-torn W a v h = torn-read W a v (λ e. h (low_bit a ∙ e ∙ sym (low_bit v)))

-- the wrap bit taken of a value word is no more than the word
pub wrap-below : (p v : ℕ) → p ≡ bit_and v 1 → p ≤ v
wrap-below p v h = omega (arith, low_bit v)

module _ (W a v : ℕ) (nonzero : a ≡ 0 → ⊥) (agree : bit_and a 1 ≡ bit_and v 1) where
  bits : a % 2 ≡ v % 2
  bits = sym (low_bit a) ∙ agree ∙ low_bit v

  pub found-entry : entry_shape W a ≡ true → bit_and (a / 2) 3 < 2 → Entry (a / 8 - 1) (v - bit_and a 1 + bit_and (a / 2) 3) (bit_and a 1) ≡ read_of W a v
  found-entry h low =
      let e : v - bit_and a 1 + bit_and (a / 2) 3 ≡ 2 * (v / 2) + a / 2 % 2 = omega (arith, low_bit a, bits, low-two a) in
      rw (e, low_bit a) (sym (shape-entry W a v nonzero bits h))

  pub found-stamp : entry_shape W a ≡ false → stamp_shape a ≡ true → Stamp (a / 8 - tag) (v - bit_and a 1) (bit_and a 1) ≡ read_of W a v
  found-stamp h g =
      let e : v - bit_and a 1 ≡ 2 * (v / 2) = omega (arith, low_bit a, bits) in
      rw (e, low_bit a) (sym (shape-stamp W a v nonzero bits h g))

  pub found-neither : entry_shape W a ≡ false → stamp_shape a ≡ false → read_of W a v ≡ Torn
  found-neither h g = shape-torn W a v nonzero bits h g
