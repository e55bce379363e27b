-- Appending a sequence to a log, and replacing a timestamp, as lists of stores to the image. SPECIFICATION, "Appending". Assumes nothing.
use Rattle.std.specs.Prelude.{ℕ, zero, suc, ◌+◌, ◌-◌, ◌*◌, ◌%◌, cond, List, [], ◌∷◌, ltb, eqb, length, get_or}
use Rattle.slot.specs.Slot.{entry_of, stamp_of}
use Rattle.slot.specs.declared.Slot.{Slot}
use Rattle.txn.specs.declared.Write.{Write}
use Rattle.image.specs.Stores.{Store}
use Rattle.lane_log.specs.declared.Cursor.{Cursor}

-- the place after a slot: the next slot, or slot 0 with the wrap bit flipped
unfoldable pub onward : (N : ℕ) → Cursor → Cursor
onward N c = cond (eqb (c.slot + 1) N) (record { slot = 0; wrap = 1 - c.wrap }) (record { slot = c.slot + 1; wrap = c.wrap })

-- the place after n slots
unfoldable pub advance : (N n : ℕ) → Cursor → Cursor
advance N zero c = c
advance N (suc n) c = advance N n (onward N c)

-- the stores of a slot's two words at slot j of the log that starts at image word `start`, and then more
unfoldable pub slot_stores : (start j : ℕ) → Slot → List Store → List Store
slot_stores start j s rest = record { at = start + 2 * j; value = s.address } ∷ record { at = start + 2 * j + 1; value = s.value } ∷ rest

-- an entry for each write, with its running old value, and the timestamp s that closes all n of them
unfoldable pub append_from : (start N n s : ℕ) → Cursor → List Write → List Store
append_from start N n s c [] = slot_stores start c.slot (stamp_of n s c.wrap) []
append_from start N n s c (w ∷ ws) = slot_stores start c.slot (entry_of w.word w.old c.wrap) (append_from start N n s (onward N c) ws)

unfoldable pub append_stores : (start N s : ℕ) → Cursor → List Write → List Store
append_stores start N s c ws = append_from start N (length ws) s c ws

-- slot number k of a log, circularly, where k is below 2 N
unfoldable pub circular : (N k : ℕ) → ℕ
circular N k = cond (ltb k N) k (k - N)

-- the store that puts timestamp s into the value word of slot j, with the wrap bit of its address word
unfoldable pub restamp_store : (start j s : ℕ) → List ℕ → Store
restamp_store start j s image = record { at = start + 2 * j + 1; value = s + get_or image (start + 2 * j) 0 % 2 }
