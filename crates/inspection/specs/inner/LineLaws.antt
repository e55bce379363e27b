-- Inner: how the code goes, need not be believed. Laws of lines: numbers one after another, and how long names and numbers are. Assumes nothing.
use Rattle.std.specs.Prelude.{◌≡◌, List, [], ◌∷◌, ◌++◌, length, get_or}
use Rattle.std.proofs.Math.Path.{refl, ap}
use Rattle.std.proofs.Common.{sym, add-one, length-append}
use Prim.Native.Nat.{ℕ, zero, suc, ◌+◌, ◌*◌, ◌≤◌}
use native.Mathlib.Omega.{arith}
use Rattle.report.specs.Report.{space, decimal}
use Rattle.report.specs.inner.PrintingLaws.{decimal-few}
use Rattle.inspection.specs.Inspection.{numbers_to, named, line_of, number_room}

-- a space and a number
pub spaced-short : (n : ℕ) → length (space ++ decimal n) ≤ number_room
spaced-short n = rw (length-append space (decimal n)) (omega (arith, decimal-few n))

-- ---- numbers, as a loop prints them
module _ (xs : List ℕ) where
  pub numbers-none : [] ≡ numbers_to xs 0
  unfolding numbers_to
  numbers-none = refl

  pub numbers_more : (n : ℕ) → numbers_to xs n ++ (space ++ decimal (get_or xs n 0)) ≡ numbers_to xs (n + 1)
  unfolding numbers_to
  numbers_more n = ap (numbers_to xs) (sym (add-one n))

  pub numbers-short : (n : ℕ) → length (numbers_to xs n) ≤ number_room * n
  unfolding numbers_to
  numbers-short zero = omega arith
  numbers-short (suc n) = rw (length-append (numbers_to xs n) (space ++ decimal (get_or xs n 0))) (omega (arith, numbers-short n, spaced-short (get_or xs n 0)))

-- ---- a name and numbers
module _ (name xs : List ℕ) where
  pub named-all : (n : ℕ) → n ≡ length xs → name ++ numbers_to xs n ≡ named name xs
  unfolding named
  named-all n e = ap (λ k. name ++ numbers_to xs k) e

  pub named-short : length (named name xs) ≤ length name + number_room * length xs
  unfolding named
  named-short = rw (length-append name (numbers_to xs (length xs))) (omega (arith, numbers-short xs (length xs)))

  pub line-short : length (line_of name xs) ≤ length name + number_room * length xs + 1
  unfolding line_of
  line-short = rw (length-append (named name xs) (10 ∷ [])) (omega (arith, named-short))
