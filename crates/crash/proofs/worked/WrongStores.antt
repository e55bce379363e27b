-- Wrong stores, and for each events after which the crash theorem, or one of the theorems beside it, is false of it: the traps of this design, and
-- stores that do too little or too much. Assumes nothing.
use Rattle.std.specs.Prelude.{Option, Some, None}
use Prim.Native.Nat.{ℕ, zero, suc, ◌+◌, ◌-◌, ◌*◌, ◌/◌}
use mathlib.Core.Path.{refl}
use mathlib.Core.Bool.{Bool, false, cond, not, ◌&&◌, ◌||◌}
use mathlib.Core.List.{List, [], ◌∷◌, ◌++◌}
use lib.Dec.{eqb, leb, ltb}
use lib.ListN.{length, get_or, set, take, drop, replicate}
use Rattle.txn.specs.Txn.{Instruction, instructions, Rule, current, former, emit, passed, applied}
use Rattle.image.specs.Image.{former_length, all_are, format_ok, sizes_at_end, trailer_ok, data_of, log_start, base_of}
use Rattle.image.specs.Flush.{flush_all}
use Rattle.image.specs.Stores.{Store, stored}
use Rattle.image.specs.declared.Sizes.{Sizes}
use Rattle.lane_log.specs.Log.{Old, Complete, complete_in, ordered, latest_in, given, contribution, hits}
use Rattle.lane_log.specs.Append.{circular}
use Rattle.record.specs.Record.{max_lag, lag_ok, blank_record, no_pair, no_pairs, lane_at, is_logged, logged_in, lesser, bound_of, lag_passed, with_lane, with_clock}
use Rattle.record.specs.Record.{is_held, locked_in, with_last, with_lock}
use Rattle.record.specs.declared.Lane.{Lane}
use Rattle.record.specs.Record.{Lock}
use Rattle.record.specs.declared.Locked.{Locked}
use Rattle.store.specs.Machine.{Machine, Step, first_cause, unless, said}
use Rattle.store.specs.Calls.{bad_lag, start_image, started, drained, would_lag, would_hit, writes_on, appended, marked, logged}
use Rattle.store.specs.Calls.{format_step, write_back_step, drain_step, log_txn_step_by, settle_refusal, settle_step, log_refusal_by}
use Rattle.store.specs.Calls.{log_step_by, redo_step, validate_step_by, mark_refusal, mark_step}
use Rattle.store.specs.Locks.{lock_refusal, locked, lock_step, proceed_refusal, next_step, proceed_step}
use Rattle.store.specs.Answers.{Refused, NoWrites, Logged, Settled, Stale, Locked as LockedAnswer}
use Rattle.recovery.specs.Recovery.{boundary, complete_of, undone_from, undone, undo_sequences, undo_stores, new_base, torn_in, zeros, recovered_nvm}
use Rattle.recovery.specs.Recovery.{Restarted, recovered_by, odd_base, recover_refusal, recover_step, recover_read_refusal, recover_read_step}
use Rattle.recovery.specs.declared.Finished.{Finished}
use Rattle.recovery.specs.Answers.{Recovered}
use Rattle.recovery.specs.Answers as recovereds
use Rattle.crash.specs.Events.{Call, log_by, log, redo, validate_by, validate, mark, drain, lock, proceed}
use Rattle.crash.specs.Events.{Event, format, write_back, call, recover, fails, fails_in_drain}
use Rattle.crash.specs.Events.{Design, call_step}
use Rattle.crash.specs.Theorem.{CrashTheorem, FormerTheorem, TrailerTheorem}
use Rattle.crash.specs.Corollaries.{SafeTheorem, IdleTheorem, LagTheorem, SettledTheorem}
use Rattle.crash.proofs.worked.Worked.{small, junk, set0, set1, copy, poke, poke_passed, write_backs, marks, proceeds, two_lanes, tight, rising, over_wrap}
use Rattle.crash.proofs.worked.Refute.{wrong-words, wrong-end, wrong-clock, wrong-lag, wrong-format, wrong_answer, wrong-count, wrong-recovery}
use Rattle.crash.proofs.worked.Refute.{wrong-former, wrong-trailer, wrong-safe, wrong-idle, wrong-loss, wrong-settled, refuting}
use Rattle.lane_log.specs.declared.Sequence.{Sequence}

-- A refutation names the store, the sizes, the lag limit, the start words, the events, then the last event, and two lists: the numbers that the store has at
-- its end, and those that the theorem gives. `wrong-recovery` looks at the data words after a recovery, `wrong-count` at how many entries it says to have
-- undone and how many torn slots to have found, `wrong-words` at the cached data words, `wrong-end` at the trailer in cells and cache and at its flags,
-- `wrong-clock` at the clock, `wrong-lag` at the lag limit, `wrong_answer` and `wrong-format` at the numbers of an answer. `wrong-former`,
-- `wrong-trailer`, `wrong-safe`, `wrong-idle`, `wrong-loss` and `wrong-settled` are of the theorems about images of the former length, who stores to the
-- trailer, commits that can no longer be lost, an idle lane, lost work, and a lane that is settled. `refl` computes the list and sees that they differ.

-- ---- how a store differs from ours
-- in its calls
abbrev Calls : Type 0
Calls = Sizes → Call → Machine → Step

unfoldable calling : Calls → Design
calling f =
    record { format = format_step; write_back = write_back_step; call = f; recover = recover_step; recover_read = recover_read_step; cut_short = recovered_nvm }

-- in one of them: Log of a transaction that has words
unfoldable logging : (Rule → Sizes → ℕ → List ℕ → Machine → Step) → Calls → Calls
logging f rest z (log_by r L []) m = rest z (log_by r L []) m
logging f rest z (log_by r L (w ∷ g)) m = f r z L (w ∷ g) m
logging f rest z (redo L) m = rest z (redo L) m
logging f rest z (validate_by r L g) m = rest z (validate_by r L g) m
logging f rest z (mark L) m = rest z (mark L) m
logging f rest z (drain L) m = rest z (drain L) m
logging f rest z (lock L g) m = rest z (lock L g) m
logging f rest z (proceed L) m = rest z (proceed L) m

-- Log of no words
unfoldable settling : (Sizes → ℕ → Machine → Step) → Calls → Calls
settling f rest z (log_by r L []) m = f z L m
settling f rest z (log_by r L (w ∷ g)) m = rest z (log_by r L (w ∷ g)) m
settling f rest z (redo L) m = rest z (redo L) m
settling f rest z (validate_by r L g) m = rest z (validate_by r L g) m
settling f rest z (mark L) m = rest z (mark L) m
settling f rest z (drain L) m = rest z (drain L) m
settling f rest z (lock L g) m = rest z (lock L g) m
settling f rest z (proceed L) m = rest z (proceed L) m

unfoldable redoing : (Sizes → ℕ → Machine → Step) → Calls → Calls
redoing f rest z (log_by r L g) m = rest z (log_by r L g) m
redoing f rest z (redo L) m = f z L m
redoing f rest z (validate_by r L g) m = rest z (validate_by r L g) m
redoing f rest z (mark L) m = rest z (mark L) m
redoing f rest z (drain L) m = rest z (drain L) m
redoing f rest z (lock L g) m = rest z (lock L g) m
redoing f rest z (proceed L) m = rest z (proceed L) m

unfoldable validating : (Rule → Sizes → ℕ → List ℕ → Machine → Step) → Calls → Calls
validating f rest z (log_by r L g) m = rest z (log_by r L g) m
validating f rest z (redo L) m = rest z (redo L) m
validating f rest z (validate_by r L g) m = f r z L g m
validating f rest z (mark L) m = rest z (mark L) m
validating f rest z (drain L) m = rest z (drain L) m
validating f rest z (lock L g) m = rest z (lock L g) m
validating f rest z (proceed L) m = rest z (proceed L) m

unfoldable marking : (Sizes → ℕ → Machine → Step) → Calls → Calls
marking f rest z (log_by r L g) m = rest z (log_by r L g) m
marking f rest z (redo L) m = rest z (redo L) m
marking f rest z (validate_by r L g) m = rest z (validate_by r L g) m
marking f rest z (mark L) m = f z L m
marking f rest z (drain L) m = rest z (drain L) m
marking f rest z (lock L g) m = rest z (lock L g) m
marking f rest z (proceed L) m = rest z (proceed L) m

unfoldable draining : (Sizes → ℕ → Machine → Step) → Calls → Calls
draining f rest z (log_by r L g) m = rest z (log_by r L g) m
draining f rest z (redo L) m = rest z (redo L) m
draining f rest z (validate_by r L g) m = rest z (validate_by r L g) m
draining f rest z (mark L) m = rest z (mark L) m
draining f rest z (drain L) m = f z L m
draining f rest z (lock L g) m = rest z (lock L g) m
draining f rest z (proceed L) m = rest z (proceed L) m

-- Lock and Continue
unfoldable locking : (Sizes → ℕ → List ℕ → Machine → Step) → Calls → Calls
locking f rest z (log_by r L g) m = rest z (log_by r L g) m
locking f rest z (redo L) m = rest z (redo L) m
locking f rest z (validate_by r L g) m = rest z (validate_by r L g) m
locking f rest z (mark L) m = rest z (mark L) m
locking f rest z (drain L) m = rest z (drain L) m
locking f rest z (lock L g) m = f z L g m
locking f rest z (proceed L) m = rest z (proceed L) m

unfoldable proceeding : (Sizes → ℕ → Machine → Step) → Calls → Calls
proceeding f rest z (log_by r L g) m = rest z (log_by r L g) m
proceeding f rest z (redo L) m = rest z (redo L) m
proceeding f rest z (validate_by r L g) m = rest z (validate_by r L g) m
proceeding f rest z (mark L) m = rest z (mark L) m
proceeding f rest z (drain L) m = rest z (drain L) m
proceeding f rest z (lock L g) m = rest z (lock L g) m
proceeding f rest z (proceed L) m = f z L m

-- in what its Format leaves, by the machine that it was handed and the one that ours leaves
unfoldable formatting : (Sizes → (found left : Machine) → Machine) → Design
formatting f =
    record {
      format = λ z lag start m. let s = format_step z lag start m in record { answer = s.answer; machine = f z m s.machine };
      write_back = write_back_step;
      call = call_step;
      recover = recover_step;
      recover_read = recover_read_step;
      cut_short = recovered_nvm;
    }

-- in the stores that its recovery makes
unfoldable recover_by : (Sizes → List ℕ → List Store) → Sizes → (lag limit number : ℕ) → Machine → Restarted
recover_by stores z lag limit number m =
    let nvm = stored (take limit (stores z m.nvm)) m.nvm in
    cond (eqb number 0)
    (cond (leb (length (stores z m.nvm)) limit)
    (record { answer = (recovered_by z lag limit 0 m).answer; machine = started lag (base_of nvm) nvm })
    (record { answer = recovereds.Cut; machine = record { state = m.state; pairs = m.pairs; cache = m.cache; nvm = nvm; flags = m.flags } }))
    (record { answer = recovereds.Refused number; machine = m })

unfoldable storing : (Sizes → List ℕ → List Store) → Design
storing stores =
    record {
      format = format_step;
      write_back = write_back_step;
      call = call_step;
      recover = λ z lag limit m. recover_by stores z lag limit (recover_refusal z lag m) m;
      recover_read = λ lag limit m. recover_by stores (sizes_at_end m.nvm) lag limit (recover_read_refusal lag m) m;
      cut_short = λ z n nvm. stored (take n (stores z nvm)) nvm;
    }

-- in what a finished recovery answers: by the machine that it found, and the one that it leaves
unfoldable finished_as : (Finished → Finished) → Recovered → Recovered
finished_as f (recovereds.Refused n) = recovereds.Refused n
finished_as f recovereds.Cut = recovereds.Cut
finished_as f (recovereds.Finished a) = recovereds.Finished (f a)

unfoldable told-as : (Sizes → (found left : Machine) → Finished → Finished) → Sizes → Machine → Restarted → Restarted
told-as f z m r = record { answer = finished_as (f z m r.machine) r.answer; machine = r.machine }

unfoldable telling : (Sizes → (found left : Machine) → Finished → Finished) → Design
telling f =
    record {
      format = format_step;
      write_back = write_back_step;
      call = call_step;
      recover = λ z lag limit m. told-as f z m (recover_step z lag limit m);
      recover_read = λ lag limit m. told-as f (sizes_at_end m.nvm) m (recover_read_step lag limit m);
      cut_short = recovered_nvm;
    }

unfoldable with_torn : ℕ → Finished → Finished
with_torn n a = record { boundary = a.boundary; undone = a.undone; torn = n }

-- recovery's last stores: the base timestamp's, and those that clear the logs
unfoldable base : Sizes → List ℕ → List Store
base z image = record { at = 0; value = new_base z image } ∷ []

unfoldable clearing : Sizes → List Store
clearing z = zeros (1 + z.words) (2 * z.lanes * z.slots)

-- the same step, but for the cached image; and but for the state of lane L
unfoldable with_cache : List ℕ → Step → Step
with_cache cache s =
    let m = s.machine in
    record { answer = s.answer; machine = record { state = m.state; pairs = m.pairs; cache = cache; nvm = m.nvm; flags = m.flags } }

unfoldable with_lane_of : ℕ → Lane → Step → Step
with_lane_of L l s =
    let m = s.machine in
    record { answer = s.answer; machine = record { state = with_lane m.state L l; pairs = m.pairs; cache = m.cache; nvm = m.nvm; flags = m.flags } }

unfoldable lane_in : ℕ → Step → Lane
lane_in L s = lane_at s.machine.state L

-- a step that, where it is taken, leaves lane L without floor
unfoldable unfloored : ℕ → Step → Step
unfloored L s =
    let l = lane_in L s in
    cond (said s.answer).refused s (with_lane_of L (record { phase = l.phase; next = l.next; wrap = l.wrap; floor = None; redo = l.redo }) s)

-- one image with the logs of another
unfoldable joined : Sizes → (image logs : List ℕ) → List ℕ
joined z image logs =
    take (1 + z.words) image ++ (take (2 * z.lanes * z.slots) (drop (1 + z.words) logs) ++ drop (former_length z) image)

-- all words but the trailer's are written back, and power fails
abbrev all_back_and_cut : List Event
all_back_and_cut = write_backs 0 139 ++ (fails junk ∷ [])

-- one name that opens all of this
unfoldable made : ℕ
unfolding refuting write_backs calling logging settling redoing validating marking draining locking proceeding formatting recover_by storing
    finished_as told-as telling with_torn base clearing with_cache with_lane_of lane_in unfloored joined
made = 0

-- ---- the traps
-- 1. A commit leaves the first, uncommitted timestamp in the log, so recovery goes by that one.
-- In the two-lane scenario, all written back, the boundary is then 4: word 0 is lost, and word 1, which was copied from it, keeps 2
unfoldable logs_kept : Machine → Sizes → Step → Step
logs_kept m z s = with_cache (joined z s.machine.cache m.cache) s

unfoldable by_first_stamp : Design
by_first_stamp = calling (redoing (λ z L m. logs_kept m z (redo_step z L m)) (validating (λ r z L f m. logs_kept m z (validate_step_by r z L f m)) call_step))

by-first-stamp : CrashTheorem by_first_stamp → ⊥
unfolding made by_first_stamp logs_kept
by-first-stamp = wrong-recovery by_first_stamp small max_lag (0 ∷ 0 ∷ []) (two_lanes ++ all_back_and_cut) max_lag 1000 junk (0 ∷ 2 ∷ []) (0 ∷ 0 ∷ []) refl

-- 2. Appends are never refused with 9. What lane 1 logged at 2 is the boundary; lane 0's third transaction of 16 additions is logged over its first one,
-- which recovery then cannot undo: word 0 is left at 16
unfoldable never_full : Calls
never_full =
    logging
    (λ r z L f m.
    let ws = writes_on z f m in
    cond (eqb (log_refusal_by r z L f m) 9)
    (record { answer = Logged (record { count = length ws; stamp = m.state.clock + 2 }); machine = logged z L ws (drained z L m) })
    (log_step_by r z L f m))
    call_step

-- word 0 plus 1, n times
unfoldable additions : ℕ → List ℕ
additions zero = []
additions (suc n) = 3 ∷ 0 ∷ 0 ∷ 1 ∷ additions n

abbrev three_on_lane0 : List Event
three_on_lane0 =
    call (log 0 (additions 16)) ∷ call (redo 0)
    ∷ call (log 0 (additions 16)) ∷ call (redo 0)
    ∷ call (log 0 (additions 16)) ∷ []

never-full : CrashTheorem (calling never_full) → ⊥
unfolding made never_full additions
never-full =
    wrong-recovery (calling never_full) small max_lag (0 ∷ 0 ∷ []) (call (log 1 copy) ∷ three_on_lane0 ++ all_back_and_cut)
    max_lag 1000 junk (16 ∷ 0 ∷ []) (0 ∷ 0 ∷ []) refl

-- 3. A second attempt is logged over the first, which was drained; 9, which would keep it from that, is never answered. The wrap bits are the same: with its
-- first word alone stored, the first slot passes for an entry of word 1 with the old value of word 0, and word 1 becomes 0
unfoldable over_first : Design
over_first =
    calling
    (validating
    (λ r z L f m.
    let s = validate_step_by r z L f m in
    let l = lane_in L s in
    with_lane_of L (record { phase = l.phase; next = (logged_in (lane_at m.state L).phase).first; wrap = l.wrap; floor = l.floor; redo = l.redo }) s)
    never_full)

over-first : CrashTheorem over_first → ⊥
unfolding made never_full over_first
over-first =
    wrong-recovery over_first small max_lag (0 ∷ 6 ∷ [])
    (call (log 0 (set0 5))
    ∷ call (drain 0)
    ∷ call (validate 0 (set1 7))
    ∷ call (log 0 (set1 7))
    ∷ fails_in_drain (drain 0) (3 ∷ []) junk
    ∷ [])
    max_lag 1000 junk (0 ∷ 0 ∷ []) (0 ∷ 6 ∷ []) refl

-- 4. Odd timestamps in the log: their low bit sits in the wrap bit's place, the slot is torn, and the sequence is not found.
-- Half of a commit is stored, and nothing undoes it
unfoldable odd_at : Sizes → (L slot : ℕ) → Step → Step
odd_at z L slot s =
    let i = log_start z L + 2 * slot + 1 in
    with_cache (set s.machine.cache i (get_or s.machine.cache i 0 + 1)) s

unfoldable odd_stamps : Design
odd_stamps =
    calling
    (logging (λ r z L f m. odd_at z L (circular z.slots ((lane_at m.state L).next + length (writes_on z f m))) (log_step_by r z L f m))
    (redoing (λ z L m. let g = logged_in (lane_at m.state L).phase in odd_at z L (circular z.slots (g.first + g.count)) (redo_step z L m)) call_step))

odd-stamps : CrashTheorem odd_stamps → ⊥
unfolding made odd_stamps odd_at
odd-stamps =
    wrong-recovery odd_stamps small max_lag (0 ∷ 0 ∷ [])
    (call (log 0 (1 ∷ 0 ∷ 0 ∷ 2 ∷ 1 ∷ 1 ∷ 0 ∷ 3 ∷ [])) ∷ call (redo 0) ∷ fails_in_drain (drain 0) (1 ∷ []) junk ∷ [])
    max_lag 1000 junk (2 ∷ 0 ∷ []) (2 ∷ 3 ∷ []) refl

-- 5. A Mark leaves the transaction open, and it commits behind the mark. The lane's newest sequence is the mark, which gives no boundary, and nothing is
-- undone: word 0, written back, keeps the 2 of a transaction that was dropped
unfoldable mark_open : Design
mark_open =
    calling
    (marking
    (λ z L m.
    let s = mark_step z L m in
    let l = lane_in L s in
    with_lane_of L (record { phase = (lane_at m.state L).phase; next = l.next; wrap = l.wrap; floor = l.floor; redo = l.redo }) s)
    call_step)

mark-open : CrashTheorem mark_open → ⊥
unfolding made mark_open
mark-open =
    wrong-recovery mark_open small max_lag (0 ∷ 0 ∷ [])
    (call (log 0 (set0 2)) ∷ call (mark 0) ∷ call (redo 0) ∷ write_back 1 ∷ fails junk ∷ []) max_lag 1000 junk (2 ∷ 0 ∷ []) (0 ∷ 0 ∷ []) refl

-- 6. The logs are cleared before the base timestamp is stored. Recovery of the two-lane scenario is cut when lane 0's log, 68 words, is cleared: the next one
-- takes lane 1's newest timestamp, 10, for the boundary, and word 1 becomes 2
unfoldable logs_first : Design
logs_first = storing (λ z image. undo_stores z image ++ (clearing z ++ base z image))

logs-first : CrashTheorem logs_first → ⊥
unfolding made logs_first
logs-first =
    wrong-recovery logs_first small max_lag (0 ∷ 0 ∷ []) (two_lanes ++ (write_backs 0 139 ++ (fails junk ∷ recover max_lag 71 junk ∷ [])))
    max_lag 1000 junk (0 ∷ 2 ∷ []) (0 ∷ 0 ∷ []) refl

-- 7. A sequence sets no floor before it is drained. Lane 1's first sequence, at 2, was written back and is the boundary, but keeps nobody from
-- overwriting: lane 0's third transaction is logged over its first one, and word 0 is left at 16
unfoldable no_first_floor : Design
no_first_floor =
    calling
    (logging
    (λ r z L f m.
    let s = log_step_by r z L f m in
    let l = lane_in L s in
    with_lane_of L (record { phase = l.phase; next = l.next; wrap = l.wrap; floor = (lane_at (drained z L m).state L).floor; redo = l.redo }) s)
    call_step)

no-first-floor : CrashTheorem no_first_floor → ⊥
unfolding made no_first_floor additions
no-first-floor =
    wrong-recovery no_first_floor small max_lag (0 ∷ 0 ∷ []) (call (log 1 copy) ∷ three_on_lane0 ++ all_back_and_cut) max_lag 1000 junk (16 ∷ 0 ∷ []) (0 ∷ 0 ∷ []) refl

-- ---- too little, or too much
-- 8. Recovery undoes every transaction: a commit that was drained and marked is lost
unfoldable undoes_every : Design
undoes_every = storing (λ z image. undo_sequences (let qs = complete_of z image z.lanes in ordered qs qs) ++ (base z image ++ clearing z))

undoes-every : CrashTheorem undoes_every → ⊥
unfolding made undoes_every
undoes-every =
    wrong-recovery undoes_every small max_lag (0 ∷ 0 ∷ [])
    (call (log 0 (set0 2)) ∷ call (redo 0) ∷ call (mark 0) ∷ call (drain 0) ∷ fails junk ∷ []) max_lag 1000 junk (0 ∷ 0 ∷ []) (2 ∷ 0 ∷ []) refl

-- 9. Recovery undoes none: a commit whose timestamp did not reach the log stays
unfoldable undoes_none : Design
undoes_none = storing (λ z image. base z image ++ clearing z)

undoes-none : CrashTheorem undoes_none → ⊥
unfolding made undoes_none
undoes-none =
    wrong-recovery undoes_none small max_lag (0 ∷ 0 ∷ [])
    (call (log 0 (set0 2)) ∷ call (redo 0) ∷ write_back 1 ∷ fails junk ∷ []) max_lag 1000 junk (2 ∷ 0 ∷ []) (0 ∷ 0 ∷ []) refl

-- 10. Sequences are undone in rising order: of two that name word 0, the later one's old value is left
unfoldable reversed : List Complete → List Complete
reversed [] = []
reversed (q ∷ qs) = reversed qs ++ (q ∷ [])

unfoldable rising_order : Design
rising_order = storing (λ z image. undo_sequences (reversed (undone z image)) ++ (base z image ++ clearing z))

rising-order : CrashTheorem rising_order → ⊥
unfolding made rising_order reversed
rising-order =
    wrong-recovery rising_order small max_lag (0 ∷ 0 ∷ [])
    (call (log 1 copy) ∷ call (log 0 (set0 2)) ∷ call (redo 0) ∷ call (log 0 (set0 3)) ∷ call (redo 0) ∷ all_back_and_cut)
    max_lag 1000 junk (2 ∷ 0 ∷ []) (0 ∷ 0 ∷ []) refl

-- 11. A sequence's entries are undone first to last: of two that name word 0, the second one's old value is left
unfoldable entries_forward : List Old → List Store
entries_forward [] = []
entries_forward (e ∷ es) = record { at = 1 + e.word; value = e.old } ∷ entries_forward es

unfoldable sequences_forward : List Complete → List Store
sequences_forward [] = []
sequences_forward (q ∷ qs) = entries_forward q.entries ++ sequences_forward qs

unfoldable undoes_forward : Design
undoes_forward = storing (λ z image. sequences_forward (undone z image) ++ (base z image ++ clearing z))

undoes-forward : CrashTheorem undoes_forward → ⊥
unfolding made undoes_forward sequences_forward entries_forward additions
undoes-forward =
    wrong-recovery undoes_forward small max_lag (0 ∷ 0 ∷ [])
    (call (log 0 (additions 2)) ∷ call (redo 0) ∷ write_back 1 ∷ fails junk ∷ []) max_lag 1000 junk (1 ∷ 0 ∷ []) (0 ∷ 0 ∷ []) refl

-- 12. An invented count of undone entries
unfoldable invented_count : Design
invented_count = telling (λ z m left a. record { boundary = a.boundary; undone = a.undone + 1; torn = a.torn })

invented-count : CrashTheorem invented_count → ⊥
unfolding made invented_count
invented-count = wrong-count invented_count small max_lag (0 ∷ 0 ∷ []) (fails junk ∷ []) max_lag 1000 junk (1 ∷ 0 ∷ []) (0 ∷ 0 ∷ []) refl

-- 13. A Redo stamps without writing
unfoldable stamps_only : Design
stamps_only = calling (redoing (λ z L m. let s = redo_step z L m in with_cache (joined z m.cache s.machine.cache) s) call_step)

stamps-only : CrashTheorem stamps_only → ⊥
unfolding made stamps_only
stamps-only = wrong-words stamps_only small max_lag (0 ∷ 0 ∷ []) (call (log 0 (set0 2)) ∷ []) (call (redo 0)) (0 ∷ 0 ∷ []) (2 ∷ 0 ∷ []) refl

-- 14. A Log answers 9 on a lane without a floor. Here its log is empty, while another lane has a floor
unfoldable refused_if_none : Option ℕ → Machine → Step → Step
refused_if_none None m s = record { answer = Refused 9; machine = m }
refused_if_none (Some f) m s = s

unfoldable nine_on_empty : Design
nine_on_empty = calling (logging (λ r z L f m. refused_if_none (lane_at m.state L).floor m (log_step_by r z L f m)) call_step)

nine-on-empty : CrashTheorem nine_on_empty → ⊥
unfolding made nine_on_empty refused_if_none
nine-on-empty = wrong_answer nine_on_empty small max_lag (0 ∷ 0 ∷ []) (call (mark 1) ∷ []) (log 0 (set0 2)) (9 ∷ []) (0 ∷ 4 ∷ []) refl

-- 15. A Redo is always stale
unfoldable always_stale : Design
always_stale = calling (redoing (λ z L m. record { answer = Stale; machine = drained z L m }) call_step)

always-stale : CrashTheorem always_stale → ⊥
unfolding made always_stale
always-stale = wrong_answer always_stale small max_lag (0 ∷ 0 ∷ []) (call (log 0 (set0 2)) ∷ []) (redo 0) (0 ∷ []) (0 ∷ 4 ∷ []) refl

-- 16. The first transaction is committed; afterwards commits only move the clock
unfoldable commits_once : Design
commits_once =
    calling (redoing (λ z L m. let s = redo_step z L m in cond (eqb m.state.last 0) s (with_cache m.cache s)) call_step)

commits-once : CrashTheorem commits_once → ⊥
unfolding made commits_once
commits-once =
    wrong-words commits_once small max_lag (0 ∷ 0 ∷ []) (call (log 0 (set0 2)) ∷ call (redo 0) ∷ call (log 0 (set0 3)) ∷ [])
    (call (redo 0)) (2 ∷ 0 ∷ []) (3 ∷ 0 ∷ []) refl

-- 17. A step answers as it should, and leaves all unaltered
unfoldable unaltered : Design
unaltered = calling (λ z c m. record { answer = (call_step z c m).answer; machine = m })

unaltering : CrashTheorem unaltered → ⊥
unfolding made unaltered
unaltering = wrong-clock unaltered small max_lag (0 ∷ 0 ∷ []) [] (call (log 0 (set0 2))) (0 ∷ []) (2 ∷ []) refl

-- 18. A Format that leaves the logs as they were: a sequence of before it is undone over the new start words
unfoldable keeps_logs : Design
keeps_logs =
    formatting
    (λ z m s.
    record { state = s.state; pairs = s.pairs; cache = joined z s.cache m.cache; nvm = joined z s.nvm m.nvm; flags = s.flags })

keeps-logs : CrashTheorem keeps_logs → ⊥
unfolding made keeps_logs
keeps-logs =
    wrong-recovery keeps_logs small max_lag (0 ∷ 0 ∷ []) (call (log 0 (set0 2)) ∷ call (redo 0) ∷ call (drain 0) ∷ format max_lag (5 ∷ 6 ∷ []) ∷ fails junk ∷ [])
    max_lag 1000 junk (0 ∷ 6 ∷ []) (5 ∷ 6 ∷ []) refl

-- 19. Torn slots are counted in the cache. Of a logged entry only the address word, word 3, has reached the cells, and the cache holds junk by then
unfoldable torn_cached : Design
torn_cached = telling (λ z m left a. with_torn (torn_in z m.cache) a)

torn-cached : CrashTheorem torn_cached → ⊥
unfolding made torn_cached
torn-cached =
    wrong-count torn_cached small max_lag (0 ∷ 0 ∷ []) (call (log 0 (set0 2)) ∷ write_back 3 ∷ fails junk ∷ []) max_lag 1000 junk (0 ∷ 0 ∷ []) (0 ∷ 1 ∷ []) refl

-- 20. Torn slots are counted in the cells that recovery leaves, where it has cleared them
unfoldable torn_left : Design
torn_left = telling (λ z m left a. with_torn (torn_in z left.nvm) a)

torn-left : CrashTheorem torn_left → ⊥
unfolding made torn_left
torn-left =
    wrong-count torn_left small max_lag (0 ∷ 0 ∷ []) (call (log 0 (set0 2)) ∷ write_back 3 ∷ fails junk ∷ []) max_lag 1000 junk (0 ∷ 0 ∷ []) (0 ∷ 1 ∷ []) refl

-- ---- the withdrawn POKE
-- 21. Log refuses a POKE only where its run comes to it, and takes one that is passed over, as by the former rule
unfoldable pokes : (W n : ℕ) → List Instruction → List ℕ → Bool
pokes W n [] ws = false
pokes W n (x ∷ xs) ws = (eqb n 0 && eqb x.code 4) || pokes W (passed n x ws) xs (applied (emit W n x ws) ws)

unfoldable poke_passed_over : Design
poke_passed_over =
    calling
    (logging
    (λ r z L f m. cond (pokes z.words 0 (instructions f) (data_of z m.cache)) (log_step_by r z L f m) (log_step_by former z L f m))
    call_step)

poke-passed-over : CrashTheorem poke_passed_over → ⊥
unfolding made poke_passed_over pokes
poke-passed-over = wrong_answer poke_passed_over small max_lag (3 ∷ 0 ∷ []) [] (log 0 poke_passed) (0 ∷ 2 ∷ []) (5 ∷ []) refl

-- 22. Validate takes the POKE that its lane holds
unfoldable validates_poke : Design
validates_poke = calling (validating (λ r z L f m. validate_step_by former z L f m) call_step)

validates-poke : CrashTheorem validates_poke → ⊥
unfolding made validates_poke
validates-poke = wrong_answer validates_poke small max_lag (3 ∷ 0 ∷ []) (call (log_by former 0 poke) ∷ []) (validate 0 poke) (0 ∷ 4 ∷ []) (5 ∷ []) refl

-- 23. Redo refuses a transaction whose first instruction is a POKE. What a lane holds does not tell, so this store notes the first code of a transaction of
-- fewer than 16 writes in the lane's last pair, which those leave free
unfoldable is_noted : Lane → Bool
is_noted l = is_logged l.phase && ltb (logged_in l.phase).count 16

unfoldable noted : ℕ → (code : ℕ) → Step → Step
noted L code s =
    let l = lane_in L s in
    let redo = cond (is_noted l) (set l.redo 15 (record { word = 0; value = code })) l.redo in
    cond (said s.answer).refused s (with_lane_of L (record { phase = l.phase; next = l.next; wrap = l.wrap; floor = l.floor; redo = redo }) s)

unfoldable redo_refuses : Design
redo_refuses =
    calling
    (logging (λ r z L f m. noted L (get_or f 0 0) (log_step_by r z L f m))
    (redoing
    (λ z L m.
    let l = lane_at m.state L in
    cond (is_noted l && eqb (get_or l.redo 15 no_pair).value 4) (record { answer = Refused 5; machine = m }) (redo_step z L m))
    call_step))

redo-refuses : CrashTheorem redo_refuses → ⊥
unfolding made redo_refuses noted is_noted
redo-refuses = wrong_answer redo_refuses small max_lag (3 ∷ 0 ∷ []) (call (log_by former 0 poke) ∷ []) (redo 0) (5 ∷ []) (0 ∷ 4 ∷ []) refl

-- ---- the trailer
-- 24. A Format that writes the trailer to the cache alone: in the cells stands what stood there
unfoldable trailer_cached : Design
trailer_cached =
    formatting
    (λ z m s.
    let nvm = take (former_length z) s.nvm ++ drop (former_length z) m.nvm in
    record { state = s.state; pairs = s.pairs; cache = s.cache; nvm = nvm; flags = s.flags })

trailer-cached : CrashTheorem trailer_cached → ⊥
unfolding made trailer_cached
trailer-cached = wrong-end trailer_cached small max_lag (0 ∷ 0 ∷ []) [] (fails junk) (0 ∷ 0 ∷ 0 ∷ 0 ∷ []) (2 ∷ 2 ∷ 34 ∷ 139 ∷ []) refl

-- 25. To the cells alone: a write-back of its first word, word 139, stores what the cache holds there
unfoldable trailer_stored : Design
trailer_stored =
    formatting
    (λ z m s.
    let cache = take (former_length z) s.cache ++ drop (former_length z) m.cache in
    record { state = s.state; pairs = s.pairs; cache = cache; nvm = s.nvm; flags = s.flags })

trailer-stored : CrashTheorem trailer_stored → ⊥
unfolding made trailer_stored
trailer-stored =
    wrong-end trailer_stored small max_lag (0 ∷ 0 ∷ []) (write_back 139 ∷ []) (fails junk) (0 ∷ 2 ∷ 34 ∷ 139 ∷ []) (2 ∷ 2 ∷ 34 ∷ 139 ∷ []) refl

-- 26. Recovery clears all words from the first log on, to the end of the cells
unfoldable trailer_cleared : Design
trailer_cleared = storing (λ z image. undo_stores z image ++ (base z image ++ zeros (1 + z.words) (length image - (1 + z.words))))

trailer-cleared : CrashTheorem trailer_cleared → ⊥
unfolding made trailer_cleared
trailer-cleared =
    wrong-end trailer_cleared small max_lag (0 ∷ 0 ∷ []) (fails junk ∷ recover max_lag 1000 junk ∷ []) (fails junk)
    (0 ∷ 0 ∷ 0 ∷ 0 ∷ []) (2 ∷ 2 ∷ 34 ∷ 139 ∷ []) refl

-- 27. A Mark that flushes the trailer too: the lane's next drain would store to it, though only what stands there
unfoldable trailer_flushed : Design
trailer_flushed =
    calling
    (marking
    (λ z L m.
    let s = mark_step z L m in
    let n = former_length z in
    let flags = flush_all L (n ∷ (n + 1) ∷ (n + 2) ∷ (n + 3) ∷ []) s.machine.flags in
    let n = s.machine in
    cond (said s.answer).refused s
    (record { answer = s.answer; machine = record { state = n.state; pairs = n.pairs; cache = n.cache; nvm = n.nvm; flags = flags } }))
    call_step)

trailer-flushed : CrashTheorem trailer_flushed → ⊥
unfolding made trailer_flushed
trailer-flushed =
    wrong-end trailer_flushed small max_lag (0 ∷ 0 ∷ []) [] (call (mark 1))
    (2 ∷ 2 ∷ 34 ∷ 139 ∷ 2 ∷ 2 ∷ 34 ∷ 139 ∷ 2 ∷ 2 ∷ 2 ∷ 2 ∷ []) (2 ∷ 2 ∷ 34 ∷ 139 ∷ 2 ∷ 2 ∷ 34 ∷ 139 ∷ 0 ∷ 0 ∷ 0 ∷ 0 ∷ []) refl

-- 28. Recovery reads the sizes from the end of the cache, in which a failure may leave anything: it is refused
unfoldable reads_cache : Design
reads_cache =
    record {
      format = format_step;
      write_back = write_back_step;
      call = call_step;
      recover = recover_step;
      recover_read = λ lag limit m.
          let n = length m.nvm in
          let number =
          first_cause
          (record { number = 1; holds = not (all_are n (length m.cache) n (length m.flags)) }
          ∷ record { number = 14; holds = not (trailer_ok m.cache) }
          ∷ bad_lag lag
          ∷ odd_base m
          ∷ []) in
          recovered_by (sizes_at_end m.cache) lag limit number m;
      cut_short = recovered_nvm;
    }

reads-cache : CrashTheorem reads_cache → ⊥
unfolding made reads_cache
reads-cache = wrong-count reads_cache small max_lag (0 ∷ 0 ∷ []) (fails junk ∷ []) max_lag 1000 junk [] (0 ∷ 0 ∷ []) refl

-- 29. Recovery with sizes given takes images with a trailer alone: no store that was there before could be taken over
unfoldable takes_sized : Design
takes_sized =
    record {
      format = format_step;
      write_back = write_back_step;
      call = call_step;
      recover = λ z lag limit m.
          let fits = format_ok z (length m.cache) (length m.nvm) (length m.flags) in
          recovered_by z lag limit (first_cause (record { number = 1; holds = not fits } ∷ bad_lag lag ∷ odd_base m ∷ [])) m;
      recover_read = recover_read_step;
      cut_short = recovered_nvm;
    }

takes-sized : FormerTheorem takes_sized → ⊥
unfolding made takes_sized
takes-sized =
    wrong-former takes_sized small max_lag 1000
    (record { state = blank_record; pairs = no_pairs; cache = replicate 139 0; nvm = replicate 139 0; flags = replicate 139 0 }) [] (0 ∷ 0 ∷ []) refl

-- 30. A call that writes the trailer back with its drain: that shows where the cache holds something else there
unfoldable trailer_drained : Design
trailer_drained =
    calling
    (λ z c m.
    let s = call_step z c m in
    let nvm = take (former_length z) s.machine.nvm ++ drop (former_length z) s.machine.cache in
    let n = s.machine in
    cond (said s.answer).refused s
    (record { answer = s.answer; machine = record { state = n.state; pairs = n.pairs; cache = n.cache; nvm = nvm; flags = n.flags } }))

trailer-drained : TrailerTheorem trailer_drained → ⊥
unfolding made trailer_drained
trailer-drained =
    wrong-trailer trailer_drained small
    (record { state = blank_record; pairs = no_pairs; cache = replicate 143 0; nvm = start_image small (0 ∷ 0 ∷ []); flags = replicate 143 0 })
    (call (drain 0)) (0 ∷ 0 ∷ 0 ∷ 0 ∷ []) (2 ∷ 2 ∷ 34 ∷ 139 ∷ []) refl

-- ---- marked lanes
-- 31. The floor ends at the Mark, not at its drain. Lane 1's mark is not written back when power fails, so its commit at 4 is the boundary; but nothing kept
-- lane 0's third transaction from being logged over its first one, and word 0 is left at 16
unfoldable ends_at_mark : Design
ends_at_mark = calling (marking (λ z L m. unfloored L (mark_step z L m)) call_step)

ends-at-mark : CrashTheorem ends_at_mark → ⊥
unfolding made ends_at_mark additions
ends-at-mark =
    wrong-recovery ends_at_mark small max_lag (0 ∷ 0 ∷ [])
    (call (log 1 (set1 9)) ∷ call (redo 1) ∷ call (mark 1) ∷ three_on_lane0 ++ (write_backs 0 71 ++ (fails junk ∷ [])))
    max_lag 1000 junk (16 ∷ 0 ∷ []) (0 ∷ 0 ∷ []) refl

-- 32. A marked lane's sequences are not undone. Lane 0 has logged at 2 and drained, so the boundary is 2; lane 1's commit at 6 stays
unfoldable where_given : Option ℕ → List Complete → List Complete
where_given None qs = []
where_given (Some s) qs = qs

unfoldable givers : Sizes → List ℕ → (k : ℕ) → List Complete
givers z image zero = []
givers z image (suc k) = givers z image k ++ where_given (contribution (latest_in z image k)) (complete_in z image k)

unfoldable marked_stay : Design
marked_stay = storing (λ z image. undo_sequences (undone_from (boundary z image) (givers z image z.lanes)) ++ (base z image ++ clearing z))

marked-stay : CrashTheorem marked_stay → ⊥
unfolding made marked_stay givers where_given
marked-stay =
    wrong-recovery marked_stay small max_lag (0 ∷ 0 ∷ [])
    (call (log 0 (set0 2)) ∷ call (drain 0) ∷ call (log 1 (set1 9)) ∷ call (redo 1) ∷ call (mark 1) ∷ call (drain 1) ∷ fails junk ∷ [])
    max_lag 1000 junk (0 ∷ 9 ∷ []) (0 ∷ 0 ∷ []) refl

-- 33. Drain takes the newest sequence of every lane that holds nothing, a commit's too, for a mark, and ends the floor. Lane 1's commit at 4 is the
-- boundary, and lane 0's third transaction is logged over its first one
unfoldable ends_at_commit : Design
ends_at_commit = calling (draining (λ z L m. let s = drain_step z L m in cond (is_logged (lane_in L s).phase) s (unfloored L s)) call_step)

ends-at-commit : CrashTheorem ends_at_commit → ⊥
unfolding made ends_at_commit additions
ends-at-commit =
    wrong-recovery ends_at_commit small max_lag (0 ∷ 0 ∷ [])
    (call (log 1 (set1 9)) ∷ call (redo 1) ∷ call (drain 1) ∷ three_on_lane0 ++ all_back_and_cut) max_lag 1000 junk (16 ∷ 0 ∷ []) (0 ∷ 0 ∷ []) refl

-- recovery by another boundary: the least of what the lanes below k give by g
unfoldable least_by : (Option Sequence → Option ℕ) → Sizes → List ℕ → (k : ℕ) → Option ℕ
least_by g z image zero = None
least_by g z image (suc k) = lesser (least_by g z image k) (g (latest_in z image k))

unfoldable bounded_by : (Option Sequence → Option ℕ) → Design
bounded_by g =
    storing (λ z image. undo_sequences (undone_from (least_by g z image z.lanes) (complete_of z image z.lanes)) ++ (base z image ++ clearing z))

-- 34. The same by recovery: a timestamp over one entry is taken for a mark. A commit whose timestamp did not reach the log stays
unfoldable gives_over_one : Option Sequence → Option ℕ
gives_over_one None = None
gives_over_one (Some q) = cond (leb q.count 1) None (Some q.stamp)

unfoldable one_as_mark : Design
one_as_mark = bounded_by gives_over_one

one-as-mark : CrashTheorem one_as_mark → ⊥
unfolding made one_as_mark bounded_by least_by gives_over_one
one-as-mark =
    wrong-recovery one_as_mark small max_lag (0 ∷ 0 ∷ [])
    (call (log 0 (set0 2)) ∷ call (redo 0) ∷ write_back 1 ∷ fails junk ∷ []) max_lag 1000 junk (2 ∷ 0 ∷ []) (0 ∷ 0 ∷ []) refl

-- 35. A mark gives a boundary. Lane 1 is marked at 2 and drained and stays idle; lane 0 commits at 6, is marked and drained, and its commit is lost
unfoldable gives_always : Option Sequence → Option ℕ
gives_always None = None
gives_always (Some q) = Some q.stamp

unfoldable marks_give : Design
marks_give = bounded_by gives_always

marks-give : IdleTheorem marks_give → ⊥
unfolding made marks_give bounded_by least_by gives_always
marks-give =
    wrong-idle marks_give small max_lag (0 ∷ 0 ∷ []) (mark 1) [] []
    (call (log 0 (set0 2)) ∷ call (redo 0) ∷ call (mark 0) ∷ call (drain 0) ∷ fails junk ∷ [])
    max_lag 1000 junk (0 ∷ 0 ∷ []) (2 ∷ 0 ∷ []) refl

-- ---- commits that can no longer be lost
-- 36. The boundary is the oldest timestamp over entries, not the least of the lanes' newest. Lane 0 commits at 4, is marked and drained, so no lane has a
-- floor any more; the commit is lost
unfoldable oldest : List Complete → Option ℕ
oldest [] = None
oldest (q ∷ qs) = lesser (given (length q.entries) q.stamp) (oldest qs)

unfoldable by_oldest : Design
by_oldest =
    storing
    (λ z image. let qs = complete_of z image z.lanes in undo_sequences (undone_from (oldest qs) qs) ++ (base z image ++ clearing z))

by-oldest : SafeTheorem by_oldest → ⊥
unfolding made by_oldest oldest
by-oldest =
    wrong-safe by_oldest small max_lag (0 ∷ 0 ∷ []) (call (log 0 (set0 2)) ∷ call (redo 0) ∷ call (mark 0) ∷ call (drain 0) ∷ []) (fails junk ∷ [])
    4 max_lag 1000 junk (0 ∷ 0 ∷ []) (2 ∷ 0 ∷ []) refl

-- ---- the lag limit
unfoldable with_lag : ℕ → Machine → Machine
with_lag lag m =
    record {
      state = record { clock = m.state.clock; last = m.state.last; lanes = m.state.lanes; lag = lag; lock = m.state.lock };
      pairs = m.pairs;
      cache = m.cache;
      nvm = m.nvm;
      flags = m.flags;
    }

-- a store whose Log of a transaction that has words goes by a test of its own for 15. The greatest limit never binds in these lists
unfoldable lagging : (Sizes → ℕ → List ℕ → Machine → Bool) → Design
lagging far =
    calling
    (logging
    (λ r z L f m.
    let s = log_step_by r z L f (with_lag max_lag m) in
    let n = (said s.answer).number in
    cond ((eqb n 0 || eqb n 9) && far z L f m) (record { answer = Refused 15; machine = m })
    (record { answer = s.answer; machine = with_lag m.state.lag s.machine }))
    call_step)

unfoldable is_writing : Sizes → List ℕ → Machine → Bool
is_writing z f m = leb 1 (length (writes_on z f m))

-- lane 1 logs at 2, and drains, so that 2 is the boundary; lane 0 logs at 4 and commits at 6
abbrev lane0_ahead : List Event
lane0_ahead = call (log 1 (set1 9)) ∷ call (drain 1) ∷ call (log 0 (set0 2)) ∷ call (redo 0) ∷ []

-- 37. No Log that has words is refused with 15. With a limit of 2 lane 0 logs at 8, and the boundary is 2
unfoldable never_lags : Design
never_lags = lagging (λ z L f m. false)

never-lags : LagTheorem never_lags → ⊥
unfolding made never_lags lagging with_lag
never-lags = wrong-loss never_lags small 2 (0 ∷ 0 ∷ []) lane0_ahead (log 0 (set0 3)) (fails junk ∷ []) 8 2 refl

-- 38. A timestamp at the limit is refused: 4, with a floor of 2 and a limit of 2
unfoldable reaches : (lag s : ℕ) → Option ℕ → Bool
reaches lag s None = false
reaches lag s (Some f) = leb (f + lag) s

unfoldable edge_refused : Design
edge_refused = lagging (λ z L f m. is_writing z f m && reaches m.state.lag (m.state.clock + 2) (bound_of z (drained z L m).state))

edge-refused : CrashTheorem edge_refused → ⊥
unfolding made edge_refused lagging with_lag is_writing reaches
edge-refused = wrong_answer edge_refused small 2 (0 ∷ 0 ∷ []) (call (log 1 (set1 9)) ∷ []) (log 0 (set0 2)) (15 ∷ []) (0 ∷ 4 ∷ []) refl

-- 39. The floors are those before the drain. A lane by itself, which logs at 2 and commits at 4, has a floor of 4 once its next Log has drained it
unfoldable floors_before : Design
floors_before = lagging (λ z L f m. is_writing z f m && lag_passed m.state.lag (m.state.clock + 2) (bound_of z m.state))

floors-before : CrashTheorem floors_before → ⊥
unfolding made floors_before lagging with_lag is_writing
floors-before =
    wrong_answer floors_before small 2 (0 ∷ 0 ∷ []) (call (log 0 (set0 2)) ∷ call (redo 0) ∷ []) (log 0 (set0 3)) (15 ∷ []) (0 ∷ 6 ∷ []) refl

-- 40. It binds where no lane has a floor, as if that were one of 0. Lane 0 is marked and drained twice
unfoldable passed_always : (lag s : ℕ) → Option ℕ → Bool
passed_always lag s None = ltb lag s
passed_always lag s (Some f) = ltb (f + lag) s

unfoldable binds_without : Design
binds_without = lagging (λ z L f m. is_writing z f m && passed_always m.state.lag (m.state.clock + 2) (bound_of z (drained z L m).state))

binds-without : CrashTheorem binds_without → ⊥
unfolding made binds_without lagging with_lag is_writing passed_always
binds-without =
    wrong_answer binds_without small 2 (0 ∷ 0 ∷ []) (call (mark 0) ∷ call (drain 0) ∷ call (mark 0) ∷ call (drain 0) ∷ [])
    (log 1 (set1 9)) (15 ∷ []) (0 ∷ 6 ∷ []) refl

-- 41. It binds a Log that writes nothing: word 1 is 0, so the SET is passed over
unfoldable binds_nothing : Design
binds_nothing = lagging (λ z L f m. would_lag z L m)

binds-nothing : CrashTheorem binds_nothing → ⊥
unfolding made binds_nothing lagging with_lag
binds-nothing = wrong_answer binds_nothing small 2 (0 ∷ 0 ∷ []) lane0_ahead (log 0 (5 ∷ 0 ∷ 1 ∷ 1 ∷ set0 3)) (15 ∷ []) (0 ∷ []) refl

-- 42. It binds a Mark
unfoldable binds_mark : Design
binds_mark = calling (marking (λ z L m. cond (would_lag z L m) (record { answer = Refused 15; machine = m }) (mark_step z L m)) call_step)

binds-mark : CrashTheorem binds_mark → ⊥
unfolding made binds_mark
binds-mark = wrong_answer binds_mark small 2 (0 ∷ 0 ∷ []) lane0_ahead (mark 0) (15 ∷ []) (0 ∷ 8 ∷ []) refl

-- 43. 15 comes after 9. Lane 1 is marked at 2 and keeps that floor; 34 marks have filled lane 0's log
unfoldable full_first : Design
full_first =
    calling
    (logging
    (λ r z L f m. cond (eqb (log_refusal_by r z L f (with_lag max_lag m)) 9) (record { answer = Refused 9; machine = m }) (log_step_by r z L f m))
    call_step)

full-first : CrashTheorem full_first → ⊥
unfolding made full_first with_lag marks
full-first = wrong_answer full_first small 2 (0 ∷ 0 ∷ []) (call (mark 1) ∷ marks 0 34) (log 0 (set0 2)) (9 ∷ []) (15 ∷ []) refl

-- 44. Recovery makes a record with a limit of its own, not with the one that it is given
unfoldable forgets_lag : Design
forgets_lag =
    record {
      format = format_step;
      write_back = write_back_step;
      call = call_step;
      recover = recover_step;
      recover_read = λ lag limit m. let r = recover_read_step lag limit m in record { answer = r.answer; machine = with_lag 2 r.machine };
      cut_short = recovered_nvm;
    }

forgets-lag : CrashTheorem forgets_lag → ⊥
unfolding made forgets_lag with_lag
forgets-lag = wrong-lag forgets_lag small 6 (0 ∷ 0 ∷ []) (fails junk ∷ []) (recover 4 1000 junk) (2 ∷ []) (4 ∷ []) refl

-- 45. Recovery takes any lag limit
unfoldable recovers_any : Design
recovers_any =
    record {
      format = format_step;
      write_back = write_back_step;
      call = call_step;
      recover = recover_step;
      recover_read = λ lag limit m. let r = recover_read_step max_lag limit m in record { answer = r.answer; machine = with_lag lag r.machine };
      cut_short = recovered_nvm;
    }

recovers-any : CrashTheorem recovers_any → ⊥
unfolding made recovers_any with_lag
recovers-any = wrong-count recovers_any small max_lag (0 ∷ 0 ∷ []) (fails junk ∷ []) 3 1000 junk (0 ∷ 0 ∷ []) [] refl

-- a store that differs in its Format
unfoldable formats_by : (Sizes → (lag : ℕ) → (start : List ℕ) → Machine → Step) → Design
formats_by f =
    record { format = f; write_back = write_back_step; call = call_step; recover = recover_step; recover_read = recover_read_step; cut_short = recovered_nvm }

-- 46. Format takes any lag limit
unfoldable formats_any : Design
formats_any = formats_by (λ z lag start m. let s = format_step z max_lag start m in record { answer = s.answer; machine = with_lag lag s.machine })

formats-any : CrashTheorem formats_any → ⊥
unfolding made formats_any formats_by with_lag
formats-any = wrong-format formats_any small max_lag (0 ∷ 0 ∷ []) [] 3 (0 ∷ 0 ∷ []) (0 ∷ []) (16 ∷ []) refl

-- 47. Format looks at the lag limit before the start words
unfoldable lag_first : Design
lag_first = formats_by (λ z lag start m. cond (lag_ok lag) (format_step z lag start m) (record { answer = Refused 16; machine = m }))

lag-first : CrashTheorem lag_first → ⊥
unfolding made lag_first formats_by
lag-first = wrong-format lag_first small max_lag (0 ∷ 0 ∷ []) [] 3 (0 ∷ []) (16 ∷ []) (1 ∷ []) refl

-- ---- Log of no words
-- a lane is settled after all where it would be refused by this number
unfoldable despite : ℕ → Design
despite n =
    calling
    (settling
    (λ z L m. cond (eqb (settle_refusal z L m) n) (record { answer = Settled (m.state.clock + 2); machine = marked z L m }) (settle_step z L m)) call_step)

-- 48. It answers a timestamp and takes the clock there, but appends nothing. Lane 0 commits at 4, is settled at 6 and drained; the commit is the boundary
unfoldable appends_nothing : Design
appends_nothing =
    calling
    (settling
    (λ z L m.
    let d = drained z L m in
    let s = m.state.clock + 2 in
    unless (settle_refusal z L m) m
    (record { answer = Settled s; machine = record { state = with_clock d.state s; pairs = d.pairs; cache = d.cache; nvm = d.nvm; flags = d.flags } }))
    call_step)

appends-nothing : SettledTheorem appends_nothing → ⊥
unfolding made appends_nothing
appends-nothing =
    wrong-settled appends_nothing small max_lag (0 ∷ 0 ∷ []) (call (log 0 (set0 2)) ∷ call (redo 0) ∷ []) (log 0 []) (call (drain 0) ∷ fails junk ∷ [])
    max_lag 1000 junk 6 4 (0 ∷ 0 ∷ []) (2 ∷ 0 ∷ []) refl

-- 49. It appends before the lane is drained. Of a commit of both words, the first word and the mark, slot 3 of the log, are stored when power fails: the
-- newest sequence is the mark, so nothing is undone, and half of the commit stays
unfoldable undrained : Design
undrained =
    calling
    (settling
    (λ z L m.
    unless (settle_refusal z L m) m
    (record { answer = Settled (m.state.clock + 2); machine = appended z L [] None (lane_at m.state L).redo m }))
    call_step)

un-drained : CrashTheorem undrained → ⊥
unfolding made undrained
un-drained =
    wrong-recovery undrained small max_lag (0 ∷ 0 ∷ [])
    (call (log 0 (1 ∷ 0 ∷ 0 ∷ 2 ∷ 1 ∷ 1 ∷ 0 ∷ 3 ∷ [])) ∷ call (redo 0) ∷ call (log 0 []) ∷ fails_in_drain (drain 0) (1 ∷ 9 ∷ 10 ∷ []) junk ∷ [])
    max_lag 1000 junk (2 ∷ 0 ∷ []) (2 ∷ 3 ∷ []) refl

-- 50. The floor ends at once, not at the next drain. Lane 1's mark is not written back when power fails, so its commit at 4 is the boundary; but nothing
-- kept lane 0's third transaction from being logged over its first one
unfoldable ends_at_once : Design
ends_at_once = calling (settling (λ z L m. unfloored L (settle_step z L m)) call_step)

ends-at-once : CrashTheorem ends_at_once → ⊥
unfolding made ends_at_once additions
ends-at-once =
    wrong-recovery ends_at_once small max_lag (0 ∷ 0 ∷ [])
    (call (log 1 (set1 9)) ∷ call (redo 1) ∷ call (log 1 []) ∷ three_on_lane0 ++ (write_backs 0 71 ++ (fails junk ∷ [])))
    max_lag 1000 junk (16 ∷ 0 ∷ []) (0 ∷ 0 ∷ []) refl

-- 51. A logged transaction is dropped, as by a Mark
drops-logged : CrashTheorem (despite 6) → ⊥
unfolding made despite
drops-logged = wrong_answer (despite 6) small max_lag (0 ∷ 0 ∷ []) (call (log 0 (set0 2)) ∷ []) (log 0 []) (0 ∷ 4 ∷ []) (6 ∷ []) refl

-- 52. The lag limit does not bind it. Lane 0 is settled at 8 with a limit of 2, and the boundary is 2
settles-late : LagTheorem (despite 15) → ⊥
unfolding made despite
settles-late = wrong-loss (despite 15) small 2 (0 ∷ 0 ∷ []) lane0_ahead (log 0 []) (fails junk ∷ []) 8 2 refl

-- 53. It is never refused with 9. Lane 1 is marked at 2 and keeps that floor; 34 marks have filled lane 0's log
settles-over : CrashTheorem (despite 9) → ⊥
unfolding made despite marks
settles-over = wrong_answer (despite 9) small max_lag (0 ∷ 0 ∷ []) (call (mark 1) ∷ marks 0 34) (log 0 []) (0 ∷ 72 ∷ []) (9 ∷ []) refl

-- 54. Two slots are counted for it. One is free
unfoldable two_slots : Design
two_slots = calling (settling (λ z L m. cond (would_hit z L 2 m) (record { answer = Refused 9; machine = m }) (settle_step z L m)) call_step)

two-slots : CrashTheorem two_slots → ⊥
unfolding made two_slots marks
two-slots = wrong_answer two_slots small max_lag (0 ∷ 0 ∷ []) (call (mark 1) ∷ marks 0 33) (log 0 []) (9 ∷ []) (0 ∷ 70 ∷ []) refl

-- 55. 15 comes before 6. Lane 1 has logged at 2; two marks of lane 0 take the clock past the limit
unfoldable lag_before_held : Design
lag_before_held = calling (settling (λ z L m. cond (would_lag z L m) (record { answer = Refused 15; machine = m }) (settle_step z L m)) call_step)

lag-before-held : CrashTheorem lag_before_held → ⊥
unfolding made lag_before_held marks
lag-before-held = wrong_answer lag_before_held small 2 (0 ∷ 0 ∷ []) (call (log 1 (set1 9)) ∷ marks 0 2) (log 1 []) (15 ∷ []) (6 ∷ []) refl

-- 56. It is checked as any transaction is, and refused with 5
unfoldable refuses_empty : Design
refuses_empty = calling (settling (λ z L m. log_txn_step_by current z L [] m) call_step)

refuses-empty : CrashTheorem refuses_empty → ⊥
unfolding made refuses_empty
refuses-empty = wrong_answer refuses_empty small max_lag (0 ∷ 0 ∷ []) [] (log 0 []) (5 ∷ []) (0 ∷ 2 ∷ []) refl

-- 57. It answers count 0 without a timestamp, as a Log that writes nothing does
unfoldable hides_stamp : Design
hides_stamp = calling (settling (λ z L m. unless (settle_refusal z L m) m (record { answer = NoWrites; machine = marked z L m })) call_step)

hides-stamp : CrashTheorem hides_stamp → ⊥
unfolding made hides_stamp
hides-stamp = wrong_answer hides_stamp small max_lag (0 ∷ 0 ∷ []) [] (log 0 []) (0 ∷ []) (0 ∷ 2 ∷ []) refl

-- 58. Validate takes it too
unfoldable validates_empty : Design
validates_empty = calling (validating (λ r z L f m. cond (eqb (length f) 0) (settle_step z L m) (validate_step_by r z L f m)) call_step)

validates-empty : CrashTheorem validates_empty → ⊥
unfolding made validates_empty
validates-empty = wrong_answer validates_empty small max_lag (0 ∷ 0 ∷ []) [] (validate 0 []) (0 ∷ 2 ∷ []) (5 ∷ []) refl

-- ---- long transactions
-- a lock that is taken after all where it would be refused by this number
unfoldable lock_taken : Sizes → ℕ → List ℕ → Machine → Step
lock_taken z L f m =
    let ws = writes_on z f m in
    record { answer = LockedAnswer (record { left = length ws; stamp = m.state.clock + 2 }); machine = locked L ws (drained z L m) }

unfoldable locks_despite : ℕ → Design
locks_despite n = calling (locking (λ z L f m. cond (eqb (lock_refusal z L f m) n) (lock_taken z L f m) (lock_step z L f m)) call_step)

-- a step with another lock in the record
unfoldable with_lock_of : Lock → Machine → Machine
with_lock_of k m = record { state = with_lock m.state k; pairs = m.pairs; cache = m.cache; nvm = m.nvm; flags = m.flags }

-- one that goes on as if the lock were free, and leaves it as it is
unfoldable unlocked : (Machine → Step) → Machine → Step
unlocked f m = let s = f (with_lock_of None m) in record { answer = s.answer; machine = with_lock_of m.state.lock s.machine }

-- the transaction that holds the lock
unfoldable holder : Machine → Locked
holder m = locked_in m.state.lock

unfoldable is_logging : Machine → Bool
is_logging m = eqb (holder m).logged (holder m).written

unfoldable long : ℕ
unfolding made lock_taken locks_despite with_lock_of unlocked holder is_logging rising marks proceeds additions
long = 0

-- 59. Of one lane's sequences of one timestamp that of the higher slot is undone first. The two parts stand on both sides of the wrap: the first is undone
-- first, and the old value of the second is left
unfoldable slot_before : Complete → Complete → Bool
slot_before q r = ltb r.stamp q.stamp || (eqb r.stamp q.stamp && (ltb r.lane q.lane || (eqb r.lane q.lane && ltb r.slot q.slot)))

unfoldable insert_by_slot : Complete → List Complete → List Complete
insert_by_slot q [] = q ∷ []
insert_by_slot q (r ∷ rs) = cond (slot_before q r) (q ∷ r ∷ rs) (r ∷ insert_by_slot q rs)

unfoldable ordered_by_slot : List Complete → List Complete
ordered_by_slot [] = []
ordered_by_slot (q ∷ qs) = insert_by_slot q (ordered_by_slot qs)

unfoldable by_slot : Design
by_slot = storing (λ z image. undo_sequences (ordered_by_slot (undone z image)) ++ (base z image ++ clearing z))

by-slot : CrashTheorem by_slot → ⊥
unfolding long by_slot ordered_by_slot insert_by_slot slot_before
by-slot =
    wrong-recovery by_slot tight max_lag (9 ∷ []) (over_wrap ++ (call (drain 0) ∷ fails junk ∷ [])) max_lag 1000 junk (16 ∷ []) (9 ∷ []) refl

-- 60. Slots are counted for the first part alone. What lane 1 logged at 2 is the boundary; lane 0 commits sixteen additions, in slots 0 to 16, and is
-- marked, in slot 17. The second part, in slots 35 and 0, is logged over the first addition's entry, so they are not undone
unfoldable first_part : Design
first_part =
    calling
    (locking (λ z L f m. cond (eqb (lock_refusal z L f m) 9 && not (would_hit z L 17 m)) (lock_taken z L f m) (lock_step z L f m)) call_step)

first-part : CrashTheorem first_part → ⊥
unfolding long first_part
first-part =
    wrong-recovery first_part (record { words = 2; lanes = 2; slots = 36 }) max_lag (0 ∷ 0 ∷ [])
    (call (log 1 copy) ∷ call (log 0 (additions 16)) ∷ call (redo 0) ∷ call (mark 0) ∷ call (lock 0 (rising 1 17)) ∷ proceeds 0 4
    ++ (write_backs 0 147 ++ (fails junk ∷ [])))
    max_lag 1000 junk (16 ∷ 0 ∷ []) (0 ∷ 0 ∷ []) refl

-- 61. Slots are counted by writes, not by instructions: one write, since word 1 is 0, of three instructions. Lane 1 is marked at 2 and keeps that floor; 31
-- marks leave three slots of lane 0
unfoldable counts_writes : Design
counts_writes =
    calling
    (locking
    (λ z L f m.
    let n = length (writes_on z f m) in
    cond (eqb (lock_refusal z L f m) 9 && not (would_hit z L (n + (n + 15) / 16) m)) (lock_taken z L f m) (lock_step z L f m)) call_step)

counts-writes : CrashTheorem counts_writes → ⊥
unfolding long counts_writes
counts-writes =
    wrong_answer counts_writes small max_lag (0 ∷ 0 ∷ []) (call (mark 1) ∷ marks 0 31) (lock 0 (5 ∷ 0 ∷ 1 ∷ 1 ∷ set0 3 ++ set0 4)) (0 ∷ 66 ∷ 1 ∷ []) (9 ∷ []) refl

-- 62. 12 is not asked for
unasked-12 : CrashTheorem (locks_despite 12) → ⊥
unfolding long
unasked-12 = wrong_answer (locks_despite 12) small max_lag (0 ∷ 0 ∷ []) [] (lock 0 (rising 1 17)) (0 ∷ 2 ∷ 17 ∷ []) (12 ∷ []) refl

-- 63. The lag limit does not bind Lock. Lane 0 locks at 8 with a limit of 2, and the boundary is 2
locks-late : LagTheorem (locks_despite 15) → ⊥
unfolding long
locks-late = wrong-loss (locks_despite 15) small 2 (0 ∷ 0 ∷ []) lane0_ahead (lock 0 (set0 3)) (fails junk ∷ []) 8 2 refl

-- 64. The last part does not set the last commit. Lane 1 has logged a COPY of word 0 before Lock, and commits it after the last part: it is not stale
unfoldable last_unset : Design
last_unset =
    calling
    (proceeding
    (λ z L m.
    let s = proceed_step z L m in
    let n = s.machine in
    record {
      answer = s.answer;
      machine = record { state = with_last n.state m.state.last; pairs = n.pairs; cache = n.cache; nvm = n.nvm; flags = n.flags };
    })
    call_step)

last-unset : CrashTheorem last_unset → ⊥
unfolding long last_unset
last-unset =
    wrong_answer last_unset small max_lag (0 ∷ 0 ∷ []) (call (log 1 copy) ∷ call (lock 0 (set0 2)) ∷ proceeds 0 2) (redo 1) (0 ∷ 6 ∷ []) (0 ∷ []) refl

-- 65. The lock is free once the last part is logged
unfoldable freed_at_log : Design
freed_at_log =
    calling
    (proceeding
    (λ z L m.
    let s = proceed_step z L m in
    let k = locked_in s.machine.state.lock in
    cond (eqb k.logged k.count) (record { answer = s.answer; machine = with_lock_of None s.machine }) s)
    call_step)

freed-at-log : CrashTheorem freed_at_log → ⊥
unfolding long freed_at_log
freed-at-log =
    wrong_answer freed_at_log small max_lag (0 ∷ 0 ∷ []) (call (lock 0 (set0 2)) ∷ call (proceed 0) ∷ []) (mark 1) (0 ∷ 4 ∷ []) (11 ∷ []) refl

-- 66. A part is written without its drain. With the first of two parts written, its word is written back when power fails, but nothing of the log is:
-- nothing undoes it
unfoldable written_undrained : Design
written_undrained =
    calling
    (proceeding (λ z L m. cond (is_logging m) (proceed_step z L m) (unless (proceed_refusal z L m) m (next_step z (holder m) m))) call_step)

written-undrained : CrashTheorem written_undrained → ⊥
unfolding long written_undrained
written-undrained =
    wrong-recovery written_undrained tight max_lag (9 ∷ []) (call (lock 0 (rising 1 17)) ∷ proceeds 0 2 ++ (write_back 1 ∷ fails junk ∷ []))
    max_lag 1000 junk (16 ∷ []) (9 ∷ []) refl

-- 67. Each part is logged with a timestamp of its own. The second is the boundary, so the first, which is below it, is not undone
unfoldable own_stamp : Design
own_stamp =
    calling
    (proceeding
    (λ z L m.
    let k = holder m in
    let s = m.state.clock + 2 in
    let d = drained z L m in
    let later : Machine = record { state = with_clock d.state s; pairs = d.pairs; cache = d.cache; nvm = d.nvm; flags = d.flags } in
    let held : Locked = record { lane = k.lane; stamp = s; count = k.count; logged = k.logged; written = k.written } in
    cond (is_logging m) (unless (proceed_refusal z L m) m (next_step z held later)) (proceed_step z L m))
    call_step)

own-stamp : CrashTheorem own_stamp → ⊥
unfolding long own_stamp
own-stamp =
    wrong-recovery own_stamp tight max_lag (9 ∷ []) (call (lock 0 (rising 1 17)) ∷ proceeds 0 3 ++ (call (drain 0) ∷ fails junk ∷ []))
    max_lag 1000 junk (16 ∷ []) (9 ∷ []) refl

-- 68. Where the count is a multiple of sixteen, the lock is kept for another part, of no writes: the record is out of range then
unfoldable empty_part : Design
empty_part =
    calling
    (proceeding
    (λ z L m.
    let k = holder m in
    let s = proceed_step z L m in
    let held : Locked = record { lane = k.lane; stamp = k.stamp; count = k.count; logged = k.logged; written = k.count } in
    cond (not (is_logging m) && eqb (k.written + 16) k.count) (record { answer = s.answer; machine = with_lock_of (Some held) s.machine }) s)
    call_step)

empty-part : CrashTheorem empty_part → ⊥
unfolding long empty_part
empty-part =
    wrong_answer empty_part small max_lag (0 ∷ 0 ∷ []) (call (lock 0 (rising 1 16)) ∷ proceeds 0 2) (proceed 0) (2 ∷ []) (7 ∷ []) refl

-- 69. A Mark is taken while the lock is held. With the first of two parts written, the lane's newest sequence is the mark, which gives no boundary: half of
-- the transaction stays
unfoldable marks_held : Design
marks_held = calling (marking (λ z L m. unlocked (mark_step z L) m) call_step)

marks-held : CrashTheorem marks_held → ⊥
unfolding long marks_held
marks-held =
    wrong-recovery marks_held tight max_lag (9 ∷ [])
    (call (lock 0 (rising 1 17)) ∷ proceeds 0 2 ++ (call (mark 0) ∷ call (drain 0) ∷ fails junk ∷ []))
    max_lag 1000 junk (16 ∷ []) (9 ∷ []) refl

-- 70. A Redo is taken while the lock is held
unfoldable redoes_held : Design
redoes_held = calling (redoing (λ z L m. unlocked (redo_step z L) m) call_step)

redoes-held : CrashTheorem redoes_held → ⊥
unfolding long redoes_held
redoes-held =
    wrong_answer redoes_held small max_lag (0 ∷ 0 ∷ []) (call (log 1 (set1 9)) ∷ call (lock 0 (set0 2)) ∷ []) (redo 1) (0 ∷ 6 ∷ []) (11 ∷ []) refl

-- 71. A Drain is refused while the lock is held
unfoldable drains_not : Design
drains_not = calling (draining (λ z L m. cond (is_held m.state.lock) (record { answer = Refused 11; machine = m }) (drain_step z L m)) call_step)

drains-not : CrashTheorem drains_not → ⊥
unfolding long drains_not
drains-not = wrong_answer drains_not small max_lag (0 ∷ 0 ∷ []) (call (lock 0 (set0 2)) ∷ []) (drain 1) (11 ∷ []) (0 ∷ []) refl

-- 72. Continue goes on for any lane
unfoldable any_lane : Design
any_lane = calling (proceeding (λ z L m. cond (is_held m.state.lock) (proceed_step z (holder m).lane m) (proceed_step z L m)) call_step)

any-lane : CrashTheorem any_lane → ⊥
unfolding long any_lane
any-lane = wrong_answer any_lane small max_lag (0 ∷ 0 ∷ []) (call (lock 0 (set0 2)) ∷ []) (proceed 1) (0 ∷ 2 ∷ 1 ∷ []) (11 ∷ []) refl

-- 73. Continue answers how many writes are not yet logged
unfoldable counts_logged : Design
counts_logged =
    calling
    (proceeding
    (λ z L m.
    let s = proceed_step z L m in
    let k = holder s.machine in
    let answer = LockedAnswer (record { left = k.count - k.logged; stamp = k.stamp }) in
    cond (is_logging m) (record { answer = answer; machine = s.machine }) s)
    call_step)

counts-logged : CrashTheorem counts_logged → ⊥
unfolding long counts_logged
counts-logged = wrong_answer counts_logged small max_lag (0 ∷ 0 ∷ []) (call (lock 0 (set0 2)) ∷ []) (proceed 0) (0 ∷ 2 ∷ 0 ∷ []) (0 ∷ 2 ∷ 1 ∷ []) refl

-- ---- refusal 9 by the floors before the lane's drain
-- would n slots of lane L, from its next one on, hit by the floors that are recorded
unfoldable hits_recorded : Sizes → (L n : ℕ) → Machine → Bool
hits_recorded z L n m = hits z.slots (lane_at m.state L).next n (bound_of z m.state) (complete_in z m.cache L)

-- 74. Of Log. Lane 0 commits at 4, in slots 0 to 16, and is marked in slot 17, so that its floor is 4 until its next drain ends it: seventeen slots more
-- then reach slot 0
unfoldable logs_recorded : Design
logs_recorded =
    calling
    (logging
    (λ r z L f m.
    cond (eqb (log_refusal_by r z L f m) 0 && (is_writing z f m && hits_recorded z L (length (writes_on z f m) + 1) m))
    (record { answer = Refused 9; machine = m }) (log_step_by r z L f m))
    call_step)

logs-recorded : CrashTheorem logs_recorded → ⊥
unfolding made logs_recorded hits_recorded is_writing additions
logs-recorded =
    wrong_answer logs_recorded small max_lag (0 ∷ 0 ∷ []) (call (log 0 (additions 16)) ∷ call (redo 0) ∷ call (mark 0) ∷ [])
    (log 0 (additions 16)) (9 ∷ []) (0 ∷ 8 ∷ []) refl

-- 75. Of Mark. Lane 0 commits at 4, in slots 0 to 16, and logs at 6, in slots 17 to 33, so that its floor is 4 until the Mark, in slot 0, drains it
unfoldable marks_recorded : Design
marks_recorded =
    calling
    (marking
    (λ z L m. cond (eqb (mark_refusal z L m) 0 && hits_recorded z L 1 m) (record { answer = Refused 9; machine = m }) (mark_step z L m))
    call_step)

marks-recorded : CrashTheorem marks_recorded → ⊥
unfolding made marks_recorded hits_recorded additions
marks-recorded =
    wrong_answer marks_recorded small max_lag (0 ∷ 0 ∷ []) (call (log 0 (additions 16)) ∷ call (redo 0) ∷ call (log 0 (additions 16)) ∷ [])
    (mark 0) (9 ∷ []) (0 ∷ 8 ∷ []) refl
