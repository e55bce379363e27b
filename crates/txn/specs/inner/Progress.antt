-- Inner: how the code goes, need not be believed. A run in progress: what the code holds after some of the instructions. Assumes nothing.
use Rattle.std.specs.Prelude.{◌≡◌, ℕ, ◌-◌, ◌≤◌, true, List, [], ◌∷◌, ◌++◌, length, slice_index}
use Rattle.txn.specs.declared.Write.{Write}
use Rattle.txn.specs.Txn.{Instruction, instructions_from, current, all_by, emit, passed, applied, run_from, run}
use Rattle.txn.specs.inner.Lookup.{Seen}

-- after i of n instructions, where `passed` of the rest are to be passed over: the writes so far, and that the rest gives the rest of the run
pub record Reached (f ws : List ℕ) (n i passed : ℕ) (writes : List Write) (last : List ℕ) : Type 0 where
  pub seen : Seen ws writes last
  pub few : length writes ≤ i
  pub ok : all_by current (length ws) (instructions_from f i (n - i)) ≡ true
  pub rest : run (length ws) f ws ≡ writes ++ run_from (length ws) passed (instructions_from f i (n - i)) (applied writes ws)

-- an instruction that is not passed over writes `new` to a word, on W data words that are `ws`
pub record Stores (W : ℕ) (x : Instruction) (ws : List ℕ) (word new : ℕ) : Type 0 where
  pub target-is : x.a ≡ word
  pub emits : emit W 0 x ws ≡ record { word = word; old = slice_index ws word; new = new } ∷ []
  pub goes-on : passed 0 x ws ≡ 0
