-- Stores as data: a list of stores, and what it makes of an image. SPECIFICATION, "Stores". Assumes nothing.
use Rattle.std.specs.Prelude.{ℕ, List, [], ◌∷◌, set}

-- a value to be stored at an image word
pub record Store : Type 0 where
  pub at : ℕ
  pub value : ℕ

-- the image after the stores, in order
unfoldable pub stored : List Store → List ℕ → List ℕ
stored [] image = image
stored (x ∷ l) image = stored l (set image x.at x.value)

-- the words that they store to
unfoldable pub places : List Store → List ℕ
places [] = []
places (x ∷ l) = x.at ∷ places l
