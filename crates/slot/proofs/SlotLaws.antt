-- Inner: how the code goes, need not be believed. Laws of the slot format, once for any wrap bit: what two words say, that a reading comes from
-- nothing else than was made, and that two makings differ. What was made is read back: SlotReads. Assumes nothing.
use Rattle.std.specs.Prelude.{ℕ, ◌+◌, ◌-◌, ◌*◌, ◌/◌, ◌%◌, ◌≤◌, ◌<◌, ◌≡◌, Bool, true, false, ◌&&◌, leb, ltb, eqb}
use Rattle.std.proofs.Common.{ap, arith}
use borrow.Author.Tests.{eq-eqb, ne_eqb, eqb-true, leb-true, ltb-true}
use Rattle.laws.specs.inner.Tests.{split, and_left, and_right}
use Rattle.slot.specs.Slot.{tag, max_entries, entry_of, stamp_of, entry_shape, stamp_shape, whole_of, read_of}
use Rattle.slot.specs.declared.Slot.{Slot}
use Rattle.slot.specs.declared.Content.{Content}
use Rattle.slot.specs.declared.Content.TheVariants.{Empty, Torn, Entry, Stamp}

-- ---- what two words say, by the tests that they pass

pub empty-read : (W a v : ℕ) → a ≡ 0 → v ≡ 0 → read_of W a v ≡ Empty
unfolding read_of
empty-read W a v h g = rw (eq-eqb a 0 h, eq-eqb v 0 g)

-- a value word without an address word
pub torn-blank : (W a v : ℕ) → a ≡ 0 → (v ≡ 0 → ⊥) → read_of W a v ≡ Torn
unfolding read_of
torn-blank W a v h g = rw (eq-eqb a 0 h, ne_eqb v 0 g)

-- words of two writes: their low bits differ, whatever the address word
pub torn-read : (W a v : ℕ) → (a % 2 ≡ v % 2 → ⊥) → read_of W a v ≡ Torn
unfolding read_of
torn-read W a v h =
    split (eqb a 0) (λ z. torn-blank W a v (eqb-true a 0 z) (λ e. h (same (eqb-true a 0 z) e))) (λ z. rw (z, ne_eqb (a % 2) (v % 2) h))
  where
    same : a ≡ 0 → v ≡ 0 → a % 2 ≡ v % 2
    same d e = omega arith

-- words whose low bits agree, an address word that is not 0
module _ (W a v : ℕ) (nonzero : a ≡ 0 → ⊥) (agree : a % 2 ≡ v % 2) where
  pub shape-entry : entry_shape W a ≡ true → read_of W a v ≡ Entry (a / 8 - 1) (2 * (v / 2) + a / 2 % 2) (a % 2)
  unfolding read_of whole_of
  shape-entry h = rw (ne_eqb a 0 nonzero, eq-eqb (a % 2) (v % 2) agree, h)

  pub shape-stamp : entry_shape W a ≡ false → stamp_shape a ≡ true → read_of W a v ≡ Stamp (a / 8 - tag) (2 * (v / 2)) (a % 2)
  unfolding read_of whole_of
  shape-stamp h g = rw (ne_eqb a 0 nonzero, eq-eqb (a % 2) (v % 2) agree, h, g)

  pub shape-torn : entry_shape W a ≡ false → stamp_shape a ≡ false → read_of W a v ≡ Torn
  unfolding read_of whole_of
  shape-torn h g = rw (ne_eqb a 0 nonzero, eq-eqb (a % 2) (v % 2) agree, h, g)

-- ---- and from nothing else

-- the words a, v are the entry of word i, old value o, wrap bit p
pub record EntryFrom (W a v i o p : ℕ) : Type 0 where
  pub word : i < W
  pub wrap : p ≤ 1
  pub address : a ≡ (entry_of i o p).address
  pub value : v ≡ (entry_of i o p).value

-- the words a, v are the timestamp s over n entries, wrap bit p
pub record StampFrom (a v n s p : ℕ) : Type 0 where
  pub count : n ≤ max_entries
  pub even : s % 2 ≡ 0
  pub wrap : p ≤ 1
  pub address : a ≡ (stamp_of n s p).address
  pub value : v ≡ (stamp_of n s p).value

-- what a reading says of the words that were read
unfoldable pub From : (W a v : ℕ) → Content → Type 0
From W a v Empty = (a ≡ 0) × (v ≡ 0)
From W a v Torn = Unit
From W a v (Entry i o p) = EntryFrom W a v i o p
From W a v (Stamp n s p) = StampFrom a v n s p

three : (x y z : Bool) → (x && y && z) ≡ true → (x ≡ true) × (y ≡ true) × (z ≡ true)
three x y z h = let g = and_left (x && y) z h in (and_left x y g, and_right x y g, and_right (x && y) z h)

entry-from : (W a v : ℕ) → a % 2 ≡ v % 2 → entry_shape W a ≡ true → EntryFrom W a v (a / 8 - 1) (2 * (v / 2) + a / 2 % 2) (a % 2)
unfolding entry_shape entry_of
entry-from W a v agree h =
    let t = three (leb 1 (a / 8)) (leb (a / 8) W) (ltb (a % 8) 4) h in
    let least : 1 ≤ a / 8 = leb-true _ _ t.0 in
    let most : a / 8 ≤ W = leb-true _ _ t.1 in
    let low : a % 8 < 4 = ltb-true _ _ t.2 in
    record { word = omega arith; wrap = omega arith; address = omega arith; value = omega arith }

stamp-from : (a v : ℕ) → a % 2 ≡ v % 2 → stamp_shape a ≡ true → StampFrom a v (a / 8 - tag) (2 * (v / 2)) (a % 2)
unfolding stamp_shape stamp_of
stamp-from a v agree h =
    let t = three (leb tag (a / 8)) (leb (a / 8) (tag + max_entries)) (ltb (a % 8) 2) h in
    let least : tag ≤ a / 8 = leb-true _ _ t.0 in
    let most : a / 8 ≤ tag + max_entries = leb-true _ _ t.1 in
    let low : a % 8 < 2 = ltb-true _ _ t.2 in
    record { count = omega arith; even = omega arith; wrap = omega arith; address = omega arith; value = omega arith }

pub read-from : (W a v : ℕ) → From W a v (read_of W a v)
unfolding From read_of whole_of
read-from W a v =
    split (eqb a 0) (λ z. rw z (split (eqb v 0) (λ y. rw y (eqb-true a 0 z, eqb-true v 0 y)) (λ y. rw y tt)))
    (λ z. rw z (split (eqb (a % 2) (v % 2))
    (λ l. rw l (split (entry_shape W a) (λ t. rw t (entry-from W a v (eqb-true _ _ l) t))
    (λ t. rw t (split (stamp_shape a) (λ u. rw u (stamp-from a v (eqb-true _ _ l) u)) (λ u. rw u tt)))))
    (λ l. rw l tt)))

pub empty-only : (W a v : ℕ) → read_of W a v ≡ Empty → (a ≡ 0) × (v ≡ 0)
unfolding From
empty-only W a v e = rw e at (read-from W a v)

pub entry-only : (W a v i o p : ℕ) → read_of W a v ≡ Entry i o p → EntryFrom W a v i o p
unfolding From
entry-only W a v i o p e = rw e at (read-from W a v)

pub stamp-only : (W a v n s p : ℕ) → read_of W a v ≡ Stamp n s p → StampFrom a v n s p
unfolding From
stamp-only W a v n s p e = rw e at (read-from W a v)

-- ---- both words made have the wrap bit

pub entry-bits : (i v p : ℕ) → p ≤ 1 → ((entry_of i v p).address % 2 ≡ p) × ((entry_of i v p).value % 2 ≡ p)
unfolding entry_of
entry-bits i v p h = (omega arith, omega arith)

pub stamp-bits : (n s p : ℕ) → s % 2 ≡ 0 → p ≤ 1 → ((stamp_of n s p).address % 2 ≡ p) × ((stamp_of n s p).value % 2 ≡ p)
unfolding stamp_of
stamp-bits n s p even h = (omega arith, omega arith)

-- ---- two makings differ

pub entry-one : (i v p j w q : ℕ) → p ≤ 1 → q ≤ 1 → entry_of i v p ≡ entry_of j w q → (i ≡ j) × (v ≡ w) × (p ≡ q)
unfolding entry_of
entry-one i v p j w q h g e =
    let d : 8 * (i + 1) + 2 * (v % 2) + p ≡ 8 * (j + 1) + 2 * (w % 2) + q = ap (λ (s : Slot). s.address) e in
    let f : 2 * (v / 2) + p ≡ 2 * (w / 2) + q = ap (λ (s : Slot). s.value) e in
    let words : i ≡ j = omega arith in
    let wraps : p ≡ q = omega arith in
    (words, omega arith, wraps)

pub stamp-one : (n s p m t q : ℕ) → p ≤ 1 → q ≤ 1 → stamp_of n s p ≡ stamp_of m t q → (n ≡ m) × (s ≡ t) × (p ≡ q)
unfolding stamp_of
stamp-one n s p m t q h g e =
    let d : 8 * (tag + n) + p ≡ 8 * (tag + m) + q = ap (λ (s : Slot). s.address) e in
    let f : s + p ≡ t + q = ap (λ (s : Slot). s.value) e in
    (omega arith, omega arith, omega arith)

pub entry-not-stamp : (i v p n s q : ℕ) → i + 1 < tag → p ≤ 1 → entry_of i v p ≡ stamp_of n s q → ⊥
unfolding entry_of stamp_of
entry-not-stamp i v p n s q h g e =
    let d : 8 * (i + 1) + 2 * (v % 2) + p ≡ 8 * (tag + n) + q = ap (λ (s : Slot). s.address) e in
    omega arith
