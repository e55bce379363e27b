-- Inner: how the code goes, need not be believed. A stretch that is filled from the front with given elements: what stands in it once those below i are
-- stored. Assumes nothing.
use Rattle.std.specs.Prelude.{ℕ, zero, suc, ◌+◌, ◌≤◌, ◌<◌, ◌≡◌, refl, List, length, get_or, set, replicate}
use Rattle.std.proofs.Common.{sym, ◌∙◌, arith, length-set, ext_get_or, get_or-set_same, get_or-set_other, below_none, below_more}

-- zeros, at any index
pub get_or-zeros : (n i : ℕ) → ◌≡◌ {A = ℕ} (get_or (replicate n 0) i 0) 0
get_or-zeros zero i = refl
get_or-zeros (suc n) zero = refl
get_or-zeros (suc n) (suc i) = get_or-zeros n i

-- a stretch of n elements whose first i are the given ones
pub record Filled (n : ℕ) (given : List ℕ) (i : ℕ) (xs : List ℕ) : Type 0 where
  pub in_all : length xs ≡ n
  pub below : (k : ℕ) → k < i → get_or xs k 0 ≡ get_or given k 0

module _ (n : ℕ) (given : List ℕ) where
  pub filled_none : (xs : List ℕ) → length xs ≡ n → Filled n given 0 xs
  filled_none xs e = record { in_all = e; below = below_none (λ k. get_or xs k 0 ≡ get_or given k 0) }

  pub filled_more : (i : ℕ) (xs : List ℕ) (v : ℕ) → Filled n given i xs → i < n → v ≡ get_or given i 0 → Filled n given (i + 1) (set xs i v)
  filled_more i xs v d h e =
      record {
        in_all = length-set xs i v ∙ d.in_all;
        below = below_more (λ k. get_or (set xs i v) k 0 ≡ get_or given k 0) i
            (λ k l. get_or-set_other xs i k v 0 (λ q. omega arith) ∙ d.below k l)
            (get_or-set_same xs i v 0 (rw d.in_all h) ∙ e);
      }

  -- an element that is the given one already
  pub filled-skip : (i : ℕ) (xs : List ℕ) → Filled n given i xs → get_or xs i 0 ≡ get_or given i 0 → Filled n given (i + 1) xs
  filled-skip i xs d e = record { in_all = d.in_all; below = below_more (λ k. get_or xs k 0 ≡ get_or given k 0) i d.below e }

  pub filled-all : (i : ℕ) (xs : List ℕ) → Filled n given i xs → length given ≡ n → n ≤ i → xs ≡ given
  filled-all i xs d e h = ext_get_or 0 xs given (d.in_all ∙ sym e) (λ k l. d.below k (omega (arith, d.in_all)))
