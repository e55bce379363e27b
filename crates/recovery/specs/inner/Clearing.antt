-- Inner: how the code goes, need not be believed. Recovery cut short while it clears the logs: whatever the order in which they are cleared, any of the
-- log words may be 0 by then. Assumes nothing.
use Rattle.std.specs.Prelude.{ℕ, ◌+◌, cond, ◌&&◌, List, [], ◌∷◌, ◌++◌, leb, ltb}
use Rattle.image.specs.Image.{former_length}
use Rattle.image.specs.Stores.{Store, stored}
use Rattle.image.specs.declared.Sizes.{Sizes}
use Rattle.recovery.specs.Recovery.{undo_stores, new_base}

-- the stores that clear the log words among these words, in any order
unfoldable pub clearing : Sizes → (words : List ℕ) → List Store
clearing z [] = []
clearing z (i ∷ is) = cond (leb (1 + z.words) i && ltb i (former_length z)) (record { at = i; value = 0 } ∷ []) [] ++ clearing z is

-- non-volatile memory once all is undone and the base is stored, and of the log words these are cleared
unfoldable pub partly_cleared : Sizes → (words nvm : List ℕ) → List ℕ
partly_cleared z words nvm = stored (undo_stores z nvm ++ (record { at = 0; value = new_base z nvm } ∷ clearing z words)) nvm
