-- Inner: how the code goes, need not be believed. Laws of stores up to a limit: none, one, a list after another, zeros; and stores to data words, which
-- leave the base and the logs as they are. Assumes nothing.
use Rattle.std.specs.Prelude.{◌≡◌, drop, replicate}
use Rattle.std.proofs.Math.Path.{refl, ap}
use Rattle.std.proofs.Common.{sym, ◌∙◌, length-append}
use mathlib.Core.List.{List, [], ◌∷◌, ◌++◌, append_assoc}
use Prim.Native.Nat.{ℕ, zero, suc, ◌+◌, ◌-◌, ◌≤◌, ◌<◌, min}
use Rattle.std.proofs.Math.Nat.{zero-min, min-zero, suc-min-suc}
use native.Mathlib.Omega.{arith}
use Rattle.std.proofs.Math.ListN.{length, set, take}
use Rattle.std.proofs.lemmas.List.{length-replicate}
use Rattle.std.proofs.Math.Seq.{take-nil}
use Rattle.std.proofs.lemmas.List.Edits.{sets, sets-eq}
use borrow.Rule.Slice.PartMut.{mid_of, put_mid, mid_len, Post-is}
use Rattle.laws.specs.inner.Lists.{All, All-take}
use Rattle.image.specs.Stores.{Store, stored}
use Rattle.image.specs.inner.StoresLaws.{length-stored, stored-append}
use Rattle.image.specs.declared.Sizes.{Sizes}
use Rattle.lane_log.specs.Log.{Old}
use Rattle.recovery.specs.Recovery.{undo_entries, zeros}
use Rattle.recovery.specs.inner.UndoStoreLaws.{OnData}
use Rattle.recovery.specs.inner.AgainLaws.{Alike, alike-data}
use Rattle.recovery.specs.inner.Limit.{limited}

-- ---- a list of stores
take-append : (n : ℕ) (xs ys : List Store) → take n (xs ++ ys) ≡ take n xs ++ take (n - length xs) ys
take-append zero [] ys = refl
take-append zero (x ∷ xs) ys = ap (λ m. take m ys) (let e : 0 ≡ 0 - length (x ∷ xs) = omega arith in e)
take-append (suc n) [] ys = ap (λ m. take m ys) (let e : suc n ≡ suc n - 0 = omega arith in e)
take-append (suc n) (x ∷ xs) ys =
    ap (λ l. x ∷ l) (take-append n xs ys ∙ ap (λ m. take n xs ++ take m ys) (let e : n - length xs ≡ suc n - suc (length xs) = omega arith in e))

module _ (limit due : ℕ) where
  pub limited-none : (image : List ℕ) → limited limit due [] image ≡ image
  unfolding limited stored
  limited-none image = ap (λ l. stored l image) (take-nil (limit - due))

  pub limited-append : (xs ys : List Store) (image : List ℕ)
      → limited limit due (xs ++ ys) image ≡ limited limit (due + length xs) ys (limited limit due xs image)
  unfolding limited
  limited-append xs ys image =
      ap (λ l. stored l image) (take-append (limit - due) xs ys)
      ∙ stored-append (take (limit - due) xs) (take (limit - due - length xs) ys) image
      ∙ ap (λ m. stored (take m ys) (stored (take (limit - due) xs) image)) (let e : limit - due - length xs ≡ limit - (due + length xs) = omega arith in e)

  pub limited-made : (x : Store) (image : List ℕ) → due < limit → limited limit due (x ∷ []) image ≡ set image x.at x.value
  unfolding limited stored
  limited-made x image h = go (limit - due) (let e : 0 < limit - due = omega arith in e)
    where
      go : (n : ℕ) → 0 < n → stored (take n (x ∷ [])) image ≡ set image x.at x.value
      go zero h = absurd (omega arith)
      go (suc n) h = ap (λ l. stored (x ∷ l) image) (take-nil n)

  pub limited-skipped : (xs : List Store) (image : List ℕ) → limit ≤ due → limited limit due xs image ≡ image
  unfolding limited stored
  limited-skipped xs image h = ap (λ n. stored (take n xs) image) (let e : limit - due ≡ 0 = omega arith in e) ∙ ap (λ l. stored l image) (take_none xs)
    where
      take_none : (xs : List Store) → take 0 xs ≡ []
      take_none [] = refl
      take_none (x ∷ xs) = refl

  pub length-limited : (xs : List Store) (image : List ℕ) → length (limited limit due xs image) ≡ length image
  unfolding limited
  length-limited xs image = length-stored (take (limit - due) xs) image

-- ---- zeros, as one stretch
take-zeros : (m at n : ℕ) → take m (zeros at n) ≡ zeros at (min m n)
unfolding zeros
take-zeros zero at n = ap (zeros at) (sym (zero-min n))
take-zeros (suc m) at zero = ap (zeros at) (sym (min-zero (suc m)))
take-zeros (suc m) at (suc n) = ap (λ l. record { at = at; value = 0 } ∷ l) (take-zeros m (suc at) n) ∙ ap (zeros at) (sym (suc-min-suc m n))

stored-zeros : (k at : ℕ) (image : List ℕ) → stored (zeros at k) image ≡ sets image at (replicate k 0)
unfolding zeros stored
stored-zeros zero at image = refl
stored-zeros (suc k) at image = stored-zeros k (suc at) (set image at 0)

-- a part of k zeros put back is what the limit makes of n zeros, where it lets k through
pub limited-zeros : (limit due at n k : ℕ) (image ys : List ℕ) → k ≡ min (limit - due) n → at + k ≤ length image
    → ys ≡ replicate (length (mid_of at (at + k - at) image)) 0
    → put_mid at (at + k - at) image ys ≡ limited limit due (zeros at n) image
unfolding limited
limited-zeros limit due at n k image ys e h d =
    ap (λ (l : List ℕ). take at image ++ (ys ++ l)) (Post-is at (at + k) image (omega arith))
    ∙ ap (λ (l : List ℕ). take at image ++ (l ++ drop (at + k) image)) (d ∙ ap (λ (m : ℕ). replicate m 0) (mid_len at (at + k) image h ∙ back))
    ∙ sym (append_assoc (take at image) (replicate k 0) (drop (at + k) image))
    ∙ ap (λ (m : ℕ). take at image ++ replicate k 0 ++ drop (at + m) image) (sym long)
    ∙ sym (sets-eq (replicate k 0) image at (rw long h))
    ∙ sym (stored-zeros k at image)
    ∙ ap (λ (m : ℕ). stored (zeros at m) image) e
    ∙ ap (λ (l : List Store). stored l image) (sym (take-zeros (limit - due) at n))
  where
    back : at + k - at ≡ k
    back = omega arith

    long : length {A = ℕ} (replicate k 0) ≡ k
    long = length-replicate {A = ℕ} k 0

pub length-zeros : (at n : ℕ) → length (zeros at n) ≡ n
unfolding zeros
length-zeros at zero = refl
length-zeros at (suc n) = ap suc (length-zeros (suc at) n)

-- ---- undoing entries
pub length-undo : (es : List Old) → length (undo_entries es) ≡ length es
unfolding undo_entries
length-undo [] = refl
length-undo (e ∷ es) = length-append (undo_entries es) _ ∙ rw (length-undo es) (omega arith)

-- stores to data words leave the base and the logs as they are
pub limited-alike : (z : Sizes) (limit due : ℕ) {xs : List Store} (image : List ℕ) → 0 < length image → All (OnData z.words) xs
    → Alike z (limited limit due xs image) image
unfolding limited
limited-alike z limit due image pos h = alike-data z image pos (All-take (limit - due) h)
