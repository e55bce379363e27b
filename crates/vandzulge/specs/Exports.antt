-- What a call leaves for a caller that lends words: the number returned, the record's words, the answer's words, the buffers. SPECIFICATION, "Exported
-- functions". Assumes nothing.
use Rattle.std.specs.Prelude.{ℕ, Bool, cond, ◌&&◌, ◌||◌, List, [], ◌∷◌, eqb, length, get_or, Option, Some, None}
use Rattle.image.specs.declared.Sizes.{Sizes}
use Rattle.store.specs.Machine.{Machine, Step, Said, said}
use Rattle.store.specs.Interface.{state_of, where_taken}
use Rattle.recovery.specs.Recovery.{Restarted, Told, told}
use Rattle.codec.specs.Fields.{state_length, bit_for}

-- W, T, N
abbrev pub sizes_of : (words lanes slots : ℕ) → Sizes
sizes_of words lanes slots = record { words = words; lanes = lanes; slots = slots }

-- how many words an answer has
abbrev pub answer_length : ℕ
answer_length = 4

-- do the lent slices have the lengths of a record, and of a record and an answer
unfoldable pub record_fits : List ℕ → Bool
record_fits state = eqb (length state) state_length

unfoldable pub both_fit : (state answer : List ℕ) → Bool
both_fit state answer = record_fits state && eqb (length answer) answer_length

-- ---- the words of an answer
-- the first word: Log's count; how many writes of a locked transaction are not yet made; 1 where Mark dropped a transaction; 1 where Redo or Validate
-- committed, which answer a timestamp alone; else 0
unfoldable pub first_word : (count left : List ℕ) → (dropped : List Bool) → (stamp : List ℕ) → ℕ
first_word (n ∷ ns) ls ds ss = n
first_word [] (l ∷ ls) ds ss = l
first_word [] [] (d ∷ ds) ss = bit_for d
first_word [] [] [] (s ∷ ss) = 1
first_word [] [] [] [] = 0

-- the second is the timestamp, 0 where there is none; the others are 0
unfoldable pub said_words : Said → List ℕ
said_words s = first_word s.count s.left s.dropped s.stamp ∷ get_or s.stamp 0 0 ∷ 0 ∷ 0 ∷ []

-- ---- what is left
pub record Left : Type 0 where
  pub number : ℕ
  pub state : List ℕ
  pub cache : List ℕ
  pub nvm : List ℕ
  pub flags : List ℕ

abbrev pub left_by : (number : ℕ) → (state cache nvm flags : List ℕ) → Left
left_by number state cache nvm flags = record { number = number; state = state; cache = cache; nvm = nvm; flags = flags }

-- the buffers of a machine
abbrev pub left_with : (number : ℕ) → (state : List ℕ) → Machine → Left
left_with number state m = left_by number state m.cache m.nvm m.flags

-- after a call on a machine, whose record and pairs stood in these words; slices that do not fit are refusal 1
unfoldable pub leaves : (fits : Bool) → (state : List ℕ) → (Machine → Step) → Machine → Left
leaves fits state call m =
    let s = call m in
    let number = (said s.answer).number in
    cond fits (left_with number (where_taken number (state_of s.machine) state) s.machine) (left_with 1 state m)

-- the answer's words after it
unfoldable pub replies : (fits : Bool) → (answer : List ℕ) → (Machine → Step) → Machine → List ℕ
replies fits answer call m =
    let s = said (call m).answer in
    cond fits (where_taken s.number (said_words s) answer) answer

-- ---- recovery
-- what a slice then holds: where recovery finished, new words; else those before
unfoldable pub where_finished : Told → (new before : List ℕ) → List ℕ
where_finished t new before = cond (t.refused || t.cut) before new

-- 1 and 0, or 2 and the boundary; then the count of entries undone, and that of torn slots
unfoldable pub finished_words : Option ℕ → (undone torn : ℕ) → List ℕ
finished_words None undone torn = 1 ∷ 0 ∷ undone ∷ torn ∷ []
finished_words (Some b) undone torn = 2 ∷ b ∷ undone ∷ torn ∷ []

-- 0s where recovery did not finish
unfoldable pub told_words : Told → List ℕ
told_words t = where_finished t (finished_words t.boundary (get_or t.undone 0 0) (get_or t.torn 0 0)) (0 ∷ 0 ∷ 0 ∷ 0 ∷ [])

-- a recovery that is refused or cut short leaves the record's words as they were; one that finished has pairs of 0
unfoldable pub restarts : (fits : Bool) → (state : List ℕ) → (Machine → Restarted) → Machine → Left
restarts fits state call m =
    let s = call m in
    let t = told s.answer in
    cond fits (left_with t.number (where_finished t (state_of s.machine) state) s.machine) (left_with 1 state m)

unfoldable pub restart_replies : (fits : Bool) → (answer : List ℕ) → (Machine → Restarted) → Machine → List ℕ
restart_replies fits answer call m =
    let t = told (call m).answer in
    cond fits (where_taken t.number (told_words t) answer) answer
