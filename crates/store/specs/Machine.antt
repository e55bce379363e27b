-- The machine that a call works on: the record, the lock's pairs and the three buffers; a step of it; refusals; what an answer says. SPECIFICATION,
-- "Machine, refusals and answers". Assumes nothing.
use Rattle.std.specs.Prelude.{ℕ, Bool, true, false, cond, List, [], ◌∷◌, eqb}
use Rattle.record.specs.declared.Record.{Record}
use Rattle.store.specs.Answers.{Answer}
use Rattle.store.specs.Answers.{Refused, Done, NoWrites, Logged, Settled, Committed, Stale, Changed, Marked, Locked}

-- record, the pairs of the transaction that holds the lock (a part of the record that is lent as words), cached image, non-volatile memory (its words are
-- the cells), flag bytes
pub record Machine : Type 0 where
  pub state : Record
  pub pairs : List ℕ
  pub cache : List ℕ
  pub nvm : List ℕ
  pub flags : List ℕ

-- what a call answers, and the machine after it
pub record Step : Type 0 where
  pub answer : Answer
  pub machine : Machine

-- ---- refusals
-- a cause for refusal: its number, and whether it holds
pub record Cause : Type 0 where
  pub number : ℕ
  pub holds : Bool

-- the number of the first cause that holds, 0 where none does
unfoldable pub first_cause : List Cause → ℕ
first_cause [] = 0
first_cause (c ∷ cs) = cond c.holds c.number (first_cause cs)

-- a step refused by a number leaves the machine as it was; 0 is no refusal
unfoldable pub unless : ℕ → Machine → Step → Step
unless number m step = cond (eqb number 0) step (record { answer = Refused number; machine = m })

-- ---- an answer in the specification's words
pub record Said : Type 0 where
  -- was the call refused, and by which number: 0 where it was not
  pub refused : Bool
  pub number : ℕ
  -- the count of writes that Log answers, how many writes of a locked transaction are not yet made, the timestamp, and whether Mark dropped a
  -- transaction: a list of one, or of none
  pub count : List ℕ
  pub left : List ℕ
  pub stamp : List ℕ
  pub dropped : List Bool
  -- a commit since the logged one; other writes than those logged
  pub stale : Bool
  pub changed : Bool

-- what each answer says; no two answers of calls say the same (`SaidLaws.said-apart`)
unfoldable pub said : Answer → Said
said (Refused n) = record { refused = true; number = n; count = []; left = []; stamp = []; dropped = []; stale = false; changed = false }
said Done = record { refused = false; number = 0; count = []; left = []; stamp = []; dropped = []; stale = false; changed = false }
said NoWrites = record { refused = false; number = 0; count = 0 ∷ []; left = []; stamp = []; dropped = []; stale = false; changed = false }
said (Logged a) = record { refused = false; number = 0; count = a.count ∷ []; left = []; stamp = a.stamp ∷ []; dropped = []; stale = false; changed = false }
said (Settled s) = record { refused = false; number = 0; count = 0 ∷ []; left = []; stamp = s ∷ []; dropped = []; stale = false; changed = false }
said (Committed s) = record { refused = false; number = 0; count = []; left = []; stamp = s ∷ []; dropped = []; stale = false; changed = false }
said Stale = record { refused = false; number = 0; count = []; left = []; stamp = []; dropped = []; stale = true; changed = false }
said Changed = record { refused = false; number = 0; count = []; left = []; stamp = []; dropped = []; stale = false; changed = true }
said (Marked a) = record { refused = false; number = 0; count = []; left = []; stamp = a.stamp ∷ []; dropped = a.dropped ∷ []; stale = false; changed = false }
said (Locked a) = record { refused = false; number = 0; count = []; left = a.left ∷ []; stamp = a.stamp ∷ []; dropped = []; stale = false; changed = false }
