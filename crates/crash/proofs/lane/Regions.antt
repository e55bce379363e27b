-- Where a list of stores goes: stores apart from a lane's log leave it, stores past the base leave it. Assumes nothing.
use mathlib.Core.Path.{◌≡◌, refl, ◌∙◌}
use mathlib.Core.Logic.{◌≢◌, ◌⊎◌, inl, inr}
use mathlib.Core.Bool.{false}
use mathlib.Core.List.{List}
use Prim.Native.Nat.{ℕ, ◌+◌, ◌-◌, ◌*◌, ◌≤◌, ◌<◌}
use native.Mathlib.Omega.{arith}
use lib.ListN.{set}
use lib.Seq.{get_or-set_other}
use borrow.Author.Tests.{ne_eqb}
use Rattle.laws.specs.inner.Lists.{All, none, more}
use Rattle.image.specs.Image.{base_of, log_start, log_of}
use Rattle.image.specs.inner.ImageLaws.{logs-apart, log_of-out}
use Rattle.image.specs.Stores.{Store, stored, places}
use Rattle.image.specs.inner.StoresLaws.{among}
use Rattle.image.specs.declared.Sizes.{Sizes}

-- image word i stands in the log of lane L
abbrev pub Inside : Sizes → (L i : ℕ) → Type 0
Inside z L i = (log_start z L ≤ i) × (i < log_start z L + 2 * z.slots)

-- it stands before or past that log
abbrev pub Apart : Sizes → (L i : ℕ) → Type 0
Apart z L i = (i < log_start z L) ⊎ (log_start z L + 2 * z.slots ≤ i)

-- the logs of different lanes are apart, and so are data words and logs
pub inside-apart : (z : Sizes) (L M i : ℕ) → L ≢ M → Inside z M i → Apart z L i
inside-apart z L M i d h = go (logs-apart z L M (i - log_start z M) d (omega arith))
  where
    go : (log_start z M + (i - log_start z M) < log_start z L) ⊎ (log_start z L + 2 * z.slots ≤ log_start z M + (i - log_start z M)) → Apart z L i
    go (inl p) = inl (omega arith)
    go (inr p) = inr (omega arith)

pub data-apart : (z : Sizes) (L i : ℕ) → i < 1 + z.words → Apart z L i
unfolding log_start
data-apart z L i h = inl (omega arith)

pub inside-late : (z : Sizes) (L i : ℕ) → Inside z L i → 1 + z.words ≤ i
unfolding log_start
inside-late z L i h = omega arith

-- what all of these stores leave
module _ (z : Sizes) where
  pub stored-log : (L : ℕ) {xs : List Store} (image : List ℕ) → All (λ x. Apart z L x.at) xs → log_of z L (stored xs image) ≡ log_of z L image
  unfolding stored
  stored-log L image none = refl
  stored-log L image (more {x = x} p h) = stored-log L (set image x.at x.value) h ∙ log_of-out z L image x.at x.value p

pub stored-base : {xs : List Store} (image : List ℕ) → All (λ x. 1 ≤ x.at) xs → base_of (stored xs image) ≡ base_of image
unfolding stored base_of
stored-base image none = refl
stored-base image (more {x = x} p h) = stored-base (set image x.at x.value) h ∙ get_or-set_other image x.at 0 x.value 0 (λ e. omega arith)

-- none of the log's words is among the places
pub among-apart : (z : Sizes) (L : ℕ) {xs : List Store} (j : ℕ) → j < 2 * z.slots → All (λ x. Apart z L x.at) xs
    → among (log_start z L + j) (places xs) ≡ false
unfolding among places
among-apart z L j l none = refl
among-apart z L j l (more {x = x} p h) = rw (ne_eqb x.at (log_start z L + j) (off p)) (among-apart z L j l h)
  where
    off : {i : ℕ} → Apart z L i → i ≡ log_start z L + j → ⊥
    off (inl q) e = omega arith
    off (inr q) e = omega arith

-- nor a data word, where all stores go past these
pub among-late : (z : Sizes) {xs : List Store} (w : ℕ) → w < z.words → All (λ x. 1 + z.words ≤ x.at) xs → among (1 + w) (places xs) ≡ false
unfolding among places
among-late z w l none = refl
among-late z w l (more {x = x} p h) = rw (ne_eqb x.at (1 + w) (λ e. omega arith)) (among-late z w l h)
