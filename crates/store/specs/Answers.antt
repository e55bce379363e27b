-- What a call answers, in the specification's words. SPECIFICATION, "Machine, refusals and answers". Assumes nothing.
use Rattle.std.specs.Prelude.{ℕ}
use Rattle.store.specs.declared.Appended.{Appended}
use Rattle.store.specs.declared.Marked.{Marked as Mark}
use Rattle.store.specs.declared.Progress.{Progress}

pub data Answer : Type 0 where
  -- the number of the refusal; nothing is altered
  Refused : ℕ → Answer
  -- Format, write-back, Drain
  Done : Answer
  -- Log or Lock of a transaction that writes nothing: count 0, and no timestamp
  NoWrites : Answer
  -- Log
  Logged : Appended → Answer
  -- Log of no words, which settles the lane: count 0, with the timestamp of its mark
  Settled : ℕ → Answer
  -- Redo and Validate, with the timestamp of the commit
  Committed : ℕ → Answer
  -- Redo: there is a commit since
  Stale : Answer
  -- Validate: the transaction does not write what was logged
  Changed : Answer
  -- Mark
  Marked : Mark → Answer
  -- Lock and Continue
  Locked : Progress → Answer
