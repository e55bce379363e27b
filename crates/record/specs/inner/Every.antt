-- Inner: how the code goes, need not be believed. A test of every element of a list: its laws for a loop over the first elements, and what it says of
-- one. Assumes nothing.
use Rattle.std.specs.Prelude.{◌≡◌, Bool, true, false, ◌&&◌, length, get_or, take}
use Rattle.std.proofs.Math.Path.{refl}
use mathlib.Core.List.{List, [], ◌∷◌}
use Prim.Native.Nat.{ℕ, zero, suc, ◌+◌, ◌<◌}
use Rattle.std.proofs.Common.{add-one, le_of_suc-le-suc, arith}
use Rattle.laws.specs.inner.Tests.{and_left, and_right, and_both}

unfoldable pub every : {A : Type 0} → (A → Bool) → List A → Bool
every f [] = true
every f (x ∷ l) = f x && every f l

pub and-false : (a b : Bool) → b ≡ false → (a && b) ≡ false
and-false true b h = h
and-false false b h = refl

module _ {A : Type 0} (f : A → Bool) where
  past : (l : List A) (i : ℕ) (d : A) → every f (take i l) ≡ true → f (get_or l i d) ≡ true → every f (take (suc i) l) ≡ true
  unfolding every
  past [] i d h g = refl
  past (x ∷ l) zero d h g = rw g
  past (x ∷ l) (suc i) d h g =
      and_both (f x) (every f (take (suc i) l)) (and_left (f x) _ h) (past l i d (and_right (f x) (every f (take i l)) h) g)

  -- one more element
  pub every_more : (l : List A) (i : ℕ) (d : A) → every f (take i l) ≡ true → f (get_or l i d) ≡ true → every f (take (i + 1) l) ≡ true
  every_more l i d h g = rw add-one (past l i d h g)

  -- an element that fails
  pub every-fails : (l : List A) (i n : ℕ) (d : A) → i < n → i < length l → f (get_or l i d) ≡ false → every f (take n l) ≡ false
  unfolding every
  every-fails [] i n d h k g = absurd (omega arith)
  every-fails (x ∷ l) i zero d h k g = absurd (omega arith)
  every-fails (x ∷ l) zero (suc n) d h k g = rw g
  every-fails (x ∷ l) (suc i) (suc n) d h k g =
      and-false (f x) (every f (take n l)) (every-fails l i n d (le_of_suc-le-suc h) (le_of_suc-le-suc k) g)

  -- what the test says of one of the first n elements
  pub every-at : (l : List A) (i n : ℕ) (d : A) → every f (take n l) ≡ true → i < n → i < length l → f (get_or l i d) ≡ true
  unfolding every
  every-at [] i n d e h k = absurd (omega arith)
  every-at (x ∷ l) i zero d e h k = absurd (omega arith)
  every-at (x ∷ l) zero (suc n) d e h k = and_left (f x) _ e
  every-at (x ∷ l) (suc i) (suc n) d e h k =
      every-at l i n d (and_right (f x) (every f (take n l)) e) (le_of_suc-le-suc h) (le_of_suc-le-suc k)
