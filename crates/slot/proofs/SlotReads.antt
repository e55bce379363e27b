-- Inner: how the code goes, need not be believed. Of the slot format, once for any wrap bit: what was made is read back. Assumes nothing.
use Rattle.std.specs.Prelude.{ℕ, ◌+◌, ◌-◌, ◌*◌, ◌/◌, ◌%◌, ◌≤◌, ◌<◌, ◌≡◌, true, false}
use Rattle.std.proofs.Common.{◌∙◌, arith, le-leb, lt-ltb}
use Rattle.std.proofs.lemmas.Bool.{lt-leb}
use Rattle.slot.specs.Slot.{tag, max_entries, entry_of, stamp_of, entry_shape, stamp_shape, read_of}
use Rattle.slot.specs.declared.Content.TheVariants.{Entry, Stamp}
use Rattle.slot.proofs.SlotLaws.{shape-entry, shape-stamp}

entry-shaped : (W a : ℕ) → 1 ≤ a / 8 → a / 8 ≤ W → a % 8 < 4 → entry_shape W a ≡ true
unfolding entry_shape
entry-shaped W a h g k = rw (le-leb 1 (a / 8) h, le-leb (a / 8) W g, lt-ltb (a % 8) 4 k)

not-entry-shaped : (W a : ℕ) → 1 ≤ a / 8 → W < a / 8 → entry_shape W a ≡ false
unfolding entry_shape
not-entry-shaped W a h g = rw (le-leb 1 (a / 8) h, lt-leb (a / 8) W g)

stamp-shaped : (a : ℕ) → tag ≤ a / 8 → a / 8 ≤ tag + max_entries → a % 8 < 2 → stamp_shape a ≡ true
unfolding stamp_shape
stamp-shaped a h g k = rw (le-leb tag (a / 8) h, le-leb (a / 8) (tag + max_entries) g, lt-ltb (a % 8) 2 k)

pub entry_read : (W i v p : ℕ) → i < W → p ≤ 1 → read_of W (entry_of i v p).address (entry_of i v p).value ≡ Entry i v p
unfolding entry_of
entry_read W i v p h g =
    shape-entry W a x (λ e. omega arith) (omega arith) (entry-shaped W a (omega arith) (omega arith) (omega arith)) ∙ fields
  where
    a : ℕ
    a = 8 * (i + 1) + 2 * (v % 2) + p

    x : ℕ
    x = 2 * (v / 2) + p

    fields : Entry (a / 8 - 1) (2 * (x / 2) + a / 2 % 2) (a % 2) ≡ Entry i v p
    fields =
        let e₁ : a / 8 - 1 ≡ i = omega arith in
        let e₂ : 2 * (x / 2) + a / 2 % 2 ≡ v = omega arith in
        let e₃ : a % 2 ≡ p = omega arith in
        cc

pub stamp-read : (W n s p : ℕ) → W < tag → n ≤ max_entries → s % 2 ≡ 0 → p ≤ 1 → read_of W (stamp_of n s p).address (stamp_of n s p).value ≡ Stamp n s p
unfolding stamp_of
stamp-read W n s p k h even g =
    shape-stamp W a x (λ e. omega arith) (omega arith) (not-entry-shaped W a (omega arith) (omega arith))
    (stamp-shaped a (omega arith) (omega arith) (omega arith))
    ∙ fields
  where
    a : ℕ
    a = 8 * (tag + n) + p

    x : ℕ
    x = s + p

    fields : Stamp (a / 8 - tag) (2 * (x / 2)) (a % 2) ≡ Stamp n s p
    fields =
        let e₁ : a / 8 - tag ≡ n = omega arith in
        let e₂ : 2 * (x / 2) ≡ s = omega arith in
        let e₃ : a % 2 ≡ p = omega arith in
        cc
