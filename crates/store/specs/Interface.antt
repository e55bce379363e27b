-- How a call's parameters and result are a machine and a step of it: what the calls' contracts compare. SPECIFICATION, "Contracts". Assumes nothing.
use Rattle.std.specs.Prelude.{ℕ, cond, List, ◌++◌, eqb, Result, Ok, Err, ⊤}
use Rattle.record.specs.Record.{no_pairs, blank_record}
use Rattle.record.specs.declared.Record.{Record}
use Rattle.codec.specs.Fields.{record_in, pairs_in, words_of}
use Rattle.store.specs.Answers.{Answer, Refused, Done, NoWrites, Logged, Settled, Committed, Stale, Changed, Marked, Locked}
use Rattle.store.specs.declared.Answer.{Answer as Reply}
use Rattle.store.specs.declared.Answer.TheVariants as reply
use Rattle.store.specs.declared.Refusal.{Refusal}
use Rattle.store.specs.declared.Refusal.TheVariants.{BadBuffers, BadRecord, BadLane, BadWord, BadTxn, AlreadyLogged, NotLogged, ClockSpent, WouldHit, OddBase, LockHeld, TooLong, BadTrailer, WouldLag, BadLag}
use Rattle.store.specs.Machine.{Machine, Step, said}

abbrev pub machine_of : Record → (pairs cache nvm flags : List ℕ) → Machine
machine_of state pairs cache nvm flags = record { state = state; pairs = pairs; cache = cache; nvm = nvm; flags = flags }

-- the machine of a call that takes no record: a blank one stands for it, and pairs of 0
abbrev pub blank_of : (cache nvm flags : List ℕ) → Machine
blank_of cache nvm flags = machine_of blank_record no_pairs cache nvm flags

-- ---- results of the code
-- the number of a refusal
unfoldable pub number : Refusal → ℕ
number BadBuffers = 1
number BadRecord = 2
number BadLane = 3
number BadWord = 4
number BadTxn = 5
number AlreadyLogged = 6
number NotLogged = 7
number ClockSpent = 8
number WouldHit = 9
number OddBase = 10
number LockHeld = 11
number TooLong = 12
number BadTrailer = 14
number WouldLag = 15
number BadLag = 16

-- of a test whether a call is refused: 0 where it is not
unfoldable pub refusal_of : Result ⊤ Refusal → ℕ
refusal_of (Ok t) = 0
refusal_of (Err e) = number e

-- what a call answers
unfoldable pub answer_of : Result Reply Refusal → Answer
answer_of (Err e) = Refused (number e)
answer_of (Ok reply.Done) = Done
answer_of (Ok reply.NoWrites) = NoWrites
answer_of (Ok (reply.Logged a)) = Logged a
answer_of (Ok (reply.Settled s)) = Settled s
answer_of (Ok (reply.Committed s)) = Committed s
answer_of (Ok reply.Stale) = Stale
answer_of (Ok reply.Changed) = Changed
answer_of (Ok (reply.Marked a)) = Marked a
answer_of (Ok (reply.Locked a)) = Locked a

-- Format's result, with the pairs and the three buffers as the call leaves them; beside a refusal stands a blank record
unfoldable pub step_of : Result Record Refusal → (pairs cache nvm flags : List ℕ) → Step
step_of (Ok r) pairs cache nvm flags = record { answer = Done; machine = machine_of r pairs cache nvm flags }
step_of (Err e) pairs cache nvm flags = record { answer = Refused (number e); machine = machine_of blank_record pairs cache nvm flags }

-- the answer of a call that takes and gives no record, with the buffers as it leaves them
abbrev pub blank_step_of : Answer → (cache nvm flags : List ℕ) → Step
blank_step_of r cache nvm flags = record { answer = r; machine = blank_of cache nvm flags }

-- ---- record and pairs in words
-- the machine of a call that is lent them
abbrev pub machine_in : (state cache nvm flags : List ℕ) → Machine
machine_in state cache nvm flags = machine_of (record_in state) (pairs_in state) cache nvm flags

-- those of a machine
abbrev pub state_of : Machine → List ℕ
state_of m = words_of m.state ++ m.pairs

-- what a slice then holds: where the call is taken, new words; else those before
unfoldable pub where_taken : (number : ℕ) → (new before : List ℕ) → List ℕ
where_taken number new before = cond (eqb number 0) new before

-- what such a call leaves: its answer, the words, the three buffers
pub record Kept : Type 0 where
  pub answer : Answer
  pub state : List ℕ
  pub cache : List ℕ
  pub nvm : List ℕ
  pub flags : List ℕ

abbrev pub kept_by : Answer → (state cache nvm flags : List ℕ) → Kept
kept_by answer state cache nvm flags = record { answer = answer; state = state; cache = cache; nvm = nvm; flags = flags }

-- after a step from these words; a refusal leaves them as they were
unfoldable pub keeps : (state : List ℕ) → Step → Kept
keeps state s =
    kept_by s.answer (where_taken (said s.answer).number (state_of s.machine) state) s.machine.cache s.machine.nvm s.machine.flags
