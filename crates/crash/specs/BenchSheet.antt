-- The bench sheet's rows that are to be proved, and two of marked lanes, as one table. SPECIFICATION, "Bench sheet". Assumes nothing.
use Rattle.std.specs.Prelude.{ℕ, ◌-◌, ◌^◌, ◌≡◌, List, [], ◌∷◌, ◌++◌, replicate, Some, None}
use Rattle.slot.specs.Slot.{entry_of, stamp_of, read_of}
use Rattle.slot.specs.declared.Content.TheVariants.{Empty, Torn}
use Rattle.txn.specs.Txn.{after}
use Rattle.image.specs.declared.Sizes.{Sizes}
use Rattle.recovery.specs.Recovery.{boundary}

-- one data word and two lanes of 34 slots
abbrev pub two_lanes : Sizes
two_lanes = record { words = 1; lanes = 2; slots = 34 }

-- an image of these two logs, with base and word 0
abbrev pub two_logs : (a b : List ℕ) → List ℕ
two_logs a b = 0 ∷ 0 ∷ a ++ b

-- a log of one sequence stamped s: over one entry, of word 0, or a mark
abbrev pub closed : (s : ℕ) → List ℕ
closed s = (entry_of 0 0 1).address ∷ (entry_of 0 0 1).value ∷ (stamp_of 1 s 1).address ∷ (stamp_of 1 s 1).value ∷ replicate 64 0

abbrev pub marked : (s : ℕ) → List ℕ
marked s = (stamp_of 0 s 1).address ∷ (stamp_of 0 s 1).value ∷ replicate 66 0

pub record BenchSheet : Type 0 where
  pub word-3-old-5-wrap-1 : entry_of 3 5 1 ≡ record { address = 35; value = 5 }
  pub word-3-old-5-wrap-0 : entry_of 3 5 0 ≡ record { address = 34; value = 4 }
  pub word-3-old-4-wrap-1 : entry_of 3 4 1 ≡ record { address = 33; value = 5 }
  pub word-0-old-most-wrap-0 : entry_of 0 (2 ^ 64 - 1) 0 ≡ record { address = 10; value = 2 ^ 64 - 2 }
  pub stamp-6-over-2-wrap-1 : stamp_of 2 6 1 ≡ record { address = 32785; value = 7 }
  pub stamp-2-over-0-wrap-0 : stamp_of 0 2 0 ≡ record { address = 32768; value = 2 }
  pub torn-35-4 : read_of 1024 35 4 ≡ Torn
  pub empty-0-0 : read_of 1024 0 0 ≡ Empty
  -- ADD of 1 to the greatest word
  pub add_wraps : after 1 (3 ∷ 0 ∷ 0 ∷ 1 ∷ []) ((2 ^ 64 - 1) ∷ []) ≡ 0 ∷ []
  pub newest-6-and-10 : boundary two_lanes (two_logs (closed 6) (closed 10)) ≡ Some 6
  -- a marked lane gives none
  pub mark-6-and-10 : boundary two_lanes (two_logs (marked 6) (closed 10)) ≡ Some 10
  pub marks-6-and-10 : boundary two_lanes (two_logs (marked 6) (marked 10)) ≡ None
