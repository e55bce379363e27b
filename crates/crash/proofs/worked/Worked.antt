-- What the worked lists of events share: sizes, transactions, and the two-lane scenario. Assumes nothing.
use Prim.Native.Nat.{ℕ, zero, suc, ◌%◌}
use mathlib.Core.List.{List, [], ◌∷◌, ◌++◌}
use Rattle.image.specs.declared.Sizes.{Sizes}
use Rattle.crash.specs.Events.{log, redo, validate, mark, lock, proceed, Junk, Event, write_back, call}

-- two data words and two lanes of 34 slots: an image of 139 words, and the four of its trailer
abbrev pub small : Sizes
small = record { words = 2; lanes = 2; slots = 34 }

-- what a failure leaves
abbrev pub junk : Junk
junk = record { cache = 7 ∷ 7 ∷ []; flags = 255 ∷ [] }

-- SET word 0, or word 1, to k; COPY word 0 into word 1
abbrev pub set0 : ℕ → List ℕ
set0 k = 1 ∷ 0 ∷ 0 ∷ k ∷ []

abbrev pub set1 : ℕ → List ℕ
set1 k = 1 ∷ 1 ∷ 0 ∷ k ∷ []

abbrev pub copy : List ℕ
copy = 2 ∷ 1 ∷ 0 ∷ 0 ∷ []

-- n SETs, of word 1 and word 0 in turn, to 1, 2, .. from k on
unfoldable pub sets : (k n : ℕ) → List ℕ
sets k zero = []
sets k (suc n) = 1 ∷ (k % 2) ∷ 0 ∷ k ∷ sets (suc k) n

-- POKE, which only the former rule takes: the word whose number is word 0 modulo W becomes 7. And the same where it is passed over if word 1 is 0
abbrev pub poke : List ℕ
poke = 4 ∷ 0 ∷ 0 ∷ 7 ∷ []

abbrev pub poke_passed : List ℕ
poke_passed = 5 ∷ 0 ∷ 1 ∷ 1 ∷ poke ++ set0 2

-- write-backs of n words from word i on
unfoldable pub write_backs : (i n : ℕ) → List Event
write_backs i zero = []
write_backs i (suc n) = write_back i ∷ write_backs (suc i) n

-- n marks of lane L; and n Continues of it
unfoldable pub marks : (L n : ℕ) → List Event
marks L zero = []
marks L (suc n) = call (mark L) ∷ marks L n

unfoldable pub proceeds : (L n : ℕ) → List Event
proceeds L zero = []
proceeds L (suc n) = call (proceed L) ∷ proceeds L n

-- lane 1 logs a COPY at 2; lane 0 logs a SET at 4 and commits at 6; lane 1 is stale, validates at 8, logs the COPY again at 10
abbrev pub two_lanes : List Event
two_lanes = call (log 1 copy) ∷ call (log 0 (set0 2)) ∷ call (redo 0) ∷ call (redo 1) ∷ call (validate 1 copy) ∷ call (log 1 copy) ∷ []

-- one data word and one lane of 36 slots, in which 17 instructions, the fewest of two parts, can be locked
abbrev pub tight : Sizes
tight = record { words = 1; lanes = 1; slots = 36 }

-- n SETs of word 0, to k, k + 1, ..
unfoldable pub rising : (k n : ℕ) → List ℕ
rising k zero = []
rising k (suc n) = set0 k ++ rising (suc k) n

-- 17 of them, in two parts on both sides of the wrap, logged and written
abbrev pub over_wrap : List Event
over_wrap = marks 0 19 ++ (call (lock 0 (rising 1 17)) ∷ proceeds 0 4)
