-- What can happen to a store, ours or any other: calls, write-backs, recoveries, and power failing at every place; and the store after it.
-- SPECIFICATION, "Events". Assumes nothing.
use Rattle.std.specs.Prelude.{ℕ, Bool, false, cond, not, List, [], ◌∷◌, ◌++◌, eqb, length, get_or, take, replicate, Option, Some, None}
use Rattle.txn.specs.Txn.{Rule, current}
use Rattle.image.specs.Image.{former_length, sizes_at_end}
use Rattle.image.specs.Flush.{flushed, written_back, drained_nvm}
use Rattle.image.specs.declared.Sizes.{Sizes}
use Rattle.record.specs.Record.{no_pairs, blank_record}
use Rattle.store.specs.Machine.{Machine, Step, said}
use Rattle.store.specs.Calls.{format_step, write_back_step, drain_step, log_step_by, redo_step, validate_step_by, mark_step}
use Rattle.store.specs.Locks.{lock_step, proceed_step}
use Rattle.store.specs.Answers.{Answer}
use Rattle.recovery.specs.Recovery.{Restarted, recover_step, recover_read_step, recovered_nvm}
use Rattle.recovery.specs.Answers.{Recovered}
use Rattle.recovery.specs.Answers.{Refused, Cut, Finished}

-- the calls that take a record: the six steps, and Drain. No function offers a Log or a Validate by the former rule: they are here so that a store which
-- carries over what it logged and committed under that rule is covered too
pub data Call : Type 0 where
  log_by : Rule → (lane : ℕ) (txn : List ℕ) → Call
  redo : (lane : ℕ) → Call
  validate_by : Rule → (lane : ℕ) (txn : List ℕ) → Call
  mark : (lane : ℕ) → Call
  drain : (lane : ℕ) → Call
  -- Lock, and Continue
  lock : (lane : ℕ) (txn : List ℕ) → Call
  proceed : (lane : ℕ) → Call

-- Log and Validate as they are offered
abbrev pub log : (lane : ℕ) (txn : List ℕ) → Call
log = log_by current

abbrev pub validate : (lane : ℕ) (txn : List ℕ) → Call
validate = validate_by current

-- what a failure leaves in cache and flags: anything
pub record Junk : Type 0 where
  pub cache : List ℕ
  pub flags : List ℕ

pub data Event : Type 0 where
  format : (lag : ℕ) (start : List ℕ) → Event
  write_back : (word : ℕ) → Event
  call : Call → Event
  -- a recovery with a lag limit and a limit of stores, by the call that fits the image; the junk is what is left where it answers Cut
  recover : (lag limit : ℕ) → Junk → Event
  -- power fails between two calls
  fails : Junk → Event
  -- power fails inside a call's drain: of these words, those that its lane has flushed have been stored
  fails_in_drain : Call → (words : List ℕ) → Junk → Event
  -- power fails after a call's whole drain: what it would have done in the cache is lost
  fails_after_drain : Call → Junk → Event
  -- power fails inside recovery, after this many of its stores: after the last of them too, before the answer
  fails_in_recovery : (stores : ℕ) → Junk → Event

-- the store: with a record; or without one, with the cut cells once a recovery has found them
pub data System : Type 0 where
  live : Machine → System
  down : (nvm : List ℕ) → Junk → (found : Option (List ℕ)) → System

-- the cells
unfoldable pub nvm_of : System → List ℕ
nvm_of (live m) = m.nvm
nvm_of (down nvm j found) = nvm

-- what the caller sees of an event
pub data Reply : Type 0 where
  answered : Answer → Reply
  recovered : Recovered → Reply
  -- power failed; with or without a whole drain
  failed : (drained : Bool) → Reply
  -- not offered: without a record there is only recovery and Format, and a failure inside a call needs the call
  ignored : Reply

pub record Happened : Type 0 where
  pub reply : Reply
  pub system : System
  -- the cut cells, where the event is a recovery
  pub found : List ℕ

-- ---- calls
unfoldable pub lane_of : Call → ℕ
lane_of (log_by r L f) = L
lane_of (redo L) = L
lane_of (validate_by r L f) = L
lane_of (mark L) = L
lane_of (drain L) = L
lane_of (lock L f) = L
lane_of (proceed L) = L

unfoldable pub call_step : Sizes → Call → Machine → Step
call_step z (log_by r L f) m = log_step_by r z L f m
call_step z (redo L) m = redo_step z L m
call_step z (validate_by r L f) m = validate_step_by r z L f m
call_step z (mark L) m = mark_step z L m
call_step z (drain L) m = drain_step z L m
call_step z (lock L f) m = lock_step z L f m
call_step z (proceed L) m = proceed_step z L m

-- ---- stores
-- a store, as the theorem sees it: its calls, its recoveries with sizes given and without, and the cells after so many stores of a recovery by these
-- sizes that power cuts short
pub record Design : Type 0 where
  pub format : Sizes → (lag : ℕ) → (start : List ℕ) → Machine → Step
  pub write_back : Sizes → (word : ℕ) → Machine → Step
  pub call : Sizes → Call → Machine → Step
  pub recover : Sizes → (lag limit : ℕ) → Machine → Restarted
  pub recover_read : (lag limit : ℕ) → Machine → Restarted
  pub cut_short : Sizes → (stores : ℕ) → (nvm : List ℕ) → List ℕ

-- this one: the definitions that the contracts of its code cite, Log's and Validate's at the current rule; of the former rule there is no code any more
unfoldable pub vandzulge : Design
vandzulge =
    record {
      format = format_step;
      write_back = write_back_step;
      call = call_step;
      recover = recover_step;
      recover_read = recover_read_step;
      cut_short = recovered_nvm;
    }

-- a refused call drains nothing
unfoldable pub is_taken : Design → Sizes → Call → Machine → Bool
is_taken d z c m = not (said (d.call z c m).answer).refused

-- ---- recovery, as it is called: an image of the former length with its sizes given, any other by the sizes at its end
unfoldable pub is_former : Sizes → (nvm : List ℕ) → Bool
is_former z nvm = eqb (length nvm) (former_length z)

unfoldable pub recovery_of : Design → Sizes → (lag limit : ℕ) → Machine → Restarted
recovery_of d z lag limit m = cond (is_former z m.nvm) (d.recover z lag limit m) (d.recover_read lag limit m)

unfoldable pub cut_short_of : Design → Sizes → (stores : ℕ) → (nvm : List ℕ) → List ℕ
cut_short_of d z n nvm = d.cut_short (cond (is_former z nvm) z (sizes_at_end nvm)) n nvm

-- ---- failures
-- the first n of these numbers, with 0s where there are fewer: every list of n numbers is one
unfoldable pub fitted : ℕ → List ℕ → List ℕ
fitted n l = take n (l ++ replicate n 0)

-- as long as the cells
unfoldable pub fit : (nvm : List ℕ) → Junk → Junk
fit nvm j = record { cache = fitted (length nvm) j.cache; flags = fitted (length nvm) j.flags }

-- non-volatile memory after some stores of a drain of lane L
unfoldable pub partly_drained : ℕ → (words flags cache nvm : List ℕ) → List ℕ
partly_drained L [] flags cache nvm = nvm
partly_drained L (i ∷ is) flags cache nvm = partly_drained L is flags cache (cond (flushed L (get_or flags i 0)) (written_back i cache nvm) nvm)

-- the machine that Format and recovery are handed where there is no record: they take none
unfoldable pub bare : (nvm : List ℕ) → Junk → Machine
bare nvm j = record { state = blank_record; pairs = no_pairs; cache = j.cache; nvm = nvm; flags = j.flags }

unfoldable pub found_or : List ℕ → Option (List ℕ) → List ℕ
found_or nvm None = nvm
found_or nvm (Some cells) = cells

-- ---- the store after an event
unfoldable pub after_step : Step → Happened
after_step s = record { reply = answered s.answer; system = live s.machine; found = [] }

-- a Format starts anew, or is refused
unfoldable pub after_format : System → Step → Happened
after_format y s = record { reply = answered s.answer; system = cond (said s.answer).refused y (live s.machine); found = [] }

unfoldable pub recovered_system : System → Junk → List ℕ → Restarted → Recovered → System
recovered_system y j found r (Refused n) = y
recovered_system y j found r Cut = down r.machine.nvm j (Some found)
recovered_system y j found r (Finished a) = live r.machine

unfoldable pub after_recovery : System → Junk → List ℕ → Restarted → Happened
after_recovery y j found r = record { reply = recovered r.answer; system = recovered_system y j found r r.answer; found = found }

unfoldable pub after_failure : Bool → (nvm : List ℕ) → Junk → Option (List ℕ) → Happened
after_failure drained nvm j found = record { reply = failed drained; system = down nvm j found; found = [] }

unfoldable pub not_offered : System → Happened
not_offered y = record { reply = ignored; system = y; found = [] }

unfoldable pub happens : Design → Sizes → System → Event → Happened
happens d z (live m) (format lag start) = after_format (live m) (d.format z lag start m)
happens d z (live m) (write_back i) = after_step (d.write_back z i m)
happens d z (live m) (call c) = after_step (d.call z c m)
happens d z (live m) (recover lag limit j) = after_recovery (live m) (fit m.nvm j) m.nvm (recovery_of d z lag limit m)
happens d z (live m) (fails j) = after_failure false m.nvm (fit m.nvm j) None
happens d z (live m) (fails_in_drain c is j) =
    after_failure false (cond (is_taken d z c m) (partly_drained (lane_of c) is m.flags m.cache m.nvm) m.nvm) (fit m.nvm j) None
happens d z (live m) (fails_after_drain c j) =
    after_failure (is_taken d z c m) (cond (is_taken d z c m) (drained_nvm (lane_of c) m.flags m.cache m.nvm) m.nvm) (fit m.nvm j) None
happens d z (live m) (fails_in_recovery n j) = after_failure false (cut_short_of d z n m.nvm) (fit m.nvm j) (Some m.nvm)
happens d z (down nvm j found) (format lag start) = after_format (down nvm j found) (d.format z lag start (bare nvm j))
happens d z (down nvm j found) (write_back i) = not_offered (down nvm j found)
happens d z (down nvm j found) (call c) = not_offered (down nvm j found)
happens d z (down nvm j found) (recover lag limit k) =
    after_recovery (down nvm j found) (fit nvm k) (found_or nvm found) (recovery_of d z lag limit (bare nvm j))
happens d z (down nvm j found) (fails k) = after_failure false nvm (fit nvm k) found
happens d z (down nvm j found) (fails_in_drain c is k) = not_offered (down nvm j found)
happens d z (down nvm j found) (fails_after_drain c k) = not_offered (down nvm j found)
happens d z (down nvm j found) (fails_in_recovery n k) = after_failure false (cut_short_of d z n nvm) (fit nvm k) (Some (found_or nvm found))
