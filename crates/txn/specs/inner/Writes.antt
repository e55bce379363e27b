-- Inner: how the code goes, need not be believed. A list of writes as the code has it: how many, and an array that begins with them. Assumes nothing.
use Rattle.std.specs.Prelude.{◌≡◌, ℕ, zero, suc, ◌≤◌, List, [], ◌∷◌, take}
use Rattle.txn.specs.declared.Write.{Write}

abbrev pub no_write : Write
no_write = record { word = 0; old = 0; new = 0 }

-- a list of `most` writes that begins with l, the rest 0
unfoldable pub padded : (most : ℕ) → List Write → List Write
padded zero l = []
padded (suc n) [] = no_write ∷ padded n []
padded (suc n) (w ∷ l) = w ∷ padded n l

-- the first `count` of the list are the writes, of at most `most`; the rest is 0
pub record Padded (most count : ℕ) (list : List Write) : Type 0 where
  pub few : count ≤ most
  pub rest : list ≡ padded most (take count list)
