-- The calls as total functions: what each answers and leaves. SPECIFICATION, "Calls". Assumes nothing.
use Rattle.std.specs.Prelude.{ℕ, ◌+◌, ◌*◌, Bool, true, false, cond, not, ◌&&◌, List, [], ◌∷◌, ◌++◌, leb, ltb, eqb, length, take, replicate, Some, None}
use Rattle.slot.specs.declared.Content.{Content}
use Rattle.slot.specs.declared.Content.TheVariants.{Empty, Torn, Entry, Stamp}
use Rattle.txn.specs.Txn.{max_writes, Rule, current, txn_by, run}
use Rattle.txn.specs.declared.Write.{Write}
use Rattle.image.specs.Image.{trailer, format_ok, buffers_ok, data_of, log_of, log_start}
use Rattle.image.specs.Flush.{flush_all, written_back, drained_nvm, drained_flags}
use Rattle.image.specs.Stores.{Store, stored, places}
use Rattle.image.specs.declared.Sizes.{Sizes}
use Rattle.lane_log.specs.Log.{slot_at, complete_in, latest_in, hits}
use Rattle.lane_log.specs.Append.{advance, append_stores, circular, restamp_store}
use Rattle.record.specs.Record.{start_record, lane_at, cursor_of, is_logged, logged_in, lock_length, no_pairs, is_held, lag_ok, record_ok, spent, bound_of, lag_passed}
use Rattle.record.specs.Record.{with_lane, with_clock, with_last}
use Rattle.record.specs.Record.{drained_lane, appended_lane, idle_lane, pairs_of}
use Rattle.record.specs.declared.Pair.{Pair}
use Rattle.record.specs.declared.Record.{Record}
use Rattle.store.specs.Answers.{Done, NoWrites, Logged, Settled, Committed, Stale, Changed, Marked}
use Rattle.store.specs.Machine.{Machine, Step, Cause, first_cause, unless}
use Rattle.record.specs.Record.{Phase}

-- ---- causes that calls share
unfoldable pub bad_buffers : Sizes → Machine → Cause
bad_buffers z m = record { number = 1; holds = not (buffers_ok z (length m.cache) (length m.nvm) (length m.flags) && eqb (length m.pairs) lock_length) }

unfoldable pub bad_record : Sizes → Machine → Cause
bad_record z m = record { number = 2; holds = not (record_ok z m.state m.pairs) }

unfoldable pub bad_lane : Sizes → ℕ → Cause
bad_lane z L = record { number = 3; holds = leb z.lanes L }

-- of at most this many instructions
unfoldable pub bad_txn : Rule → (most : ℕ) → Sizes → List ℕ → Cause
bad_txn r most z f = record { number = 5; holds = not (txn_by r most z.words f) }

unfoldable pub already_logged : ℕ → Machine → Cause
already_logged L m = record { number = 6; holds = is_logged (lane_at m.state L).phase }

unfoldable pub not_logged : ℕ → Machine → Cause
not_logged L m = record { number = 7; holds = not (is_logged (lane_at m.state L).phase) }

-- a step while the lock is held, on any lane
unfoldable pub lock_held : Machine → Cause
lock_held m = record { number = 11; holds = is_held (m.state).lock }

unfoldable pub clock_spent : Machine → Cause
clock_spent m = record { number = 8; holds = spent m.state }

-- the lag limit that a start is given is out of range
unfoldable pub bad_lag : ℕ → Cause
bad_lag lag = record { number = 16; holds = not (lag_ok lag) }

-- ---- a drain of lane L: its flushed words reach non-volatile memory, its floor moves or ends
unfoldable pub drained : Sizes → ℕ → Machine → Machine
drained z L m =
    record {
      state = with_lane m.state L (drained_lane (latest_in z m.cache L) (lane_at m.state L));
      pairs = m.pairs;
      cache = m.cache;
      nvm = drained_nvm L m.flags m.cache m.nvm;
      flags = drained_flags L m.flags;
    }

-- cached stores by lane L, all flushed; the record becomes r
unfoldable pub changed : ℕ → List Store → Record → Machine → Machine
changed L xs r m = record { state = r; pairs = m.pairs; cache = stored xs m.cache; nvm = m.nvm; flags = flush_all L (places xs) m.flags }

-- would writing n slots in lane L hit a sequence at or above the lower bound, floors as after the lane's drain
unfoldable pub would_hit : Sizes → ℕ → ℕ → Machine → Bool
would_hit z L n m = hits z.slots (lane_at m.state L).next n (bound_of z (drained z L m).state) (complete_in z m.cache L)

-- would lane L's next timestamp be more than the lag limit above the lower bound, floors as after the lane's drain
unfoldable pub would_lag : Sizes → ℕ → Machine → Bool
would_lag z L m = lag_passed (m.state).lag ((m.state).clock + 2) (bound_of z (drained z L m).state)

-- ---- Format: image and record at a start; the buffers may hold anything of the right length
-- the image of these start words: base timestamp and logs 0, and the sizes at its end
unfoldable pub start_image : Sizes → List ℕ → List ℕ
start_image z start = 0 ∷ start ++ (replicate (2 * z.lanes * z.slots) 0 ++ trailer z)

-- a start with this lag limit: cache equals non-volatile memory, nothing is flushed
unfoldable pub started : (lag base : ℕ) → List ℕ → Machine
started lag base image = record { state = start_record lag base; pairs = no_pairs; cache = image; nvm = image; flags = replicate (length image) 0 }

unfoldable pub format_refusal : Sizes → (lag : ℕ) → List ℕ → Machine → ℕ
format_refusal z lag start m =
    first_cause
    (record { number = 1; holds = not (format_ok z (length m.cache) (length m.nvm) (length m.flags)) }
    ∷ record { number = 1; holds = not (eqb (length start) z.words) }
    ∷ bad_lag lag
    ∷ [])

unfoldable pub format_step : Sizes → (lag : ℕ) → List ℕ → Machine → Step
format_step z lag start m = unless (format_refusal z lag start m) m (record { answer = Done; machine = started lag 0 (start_image z start) })

-- ---- write-back of image word i, one of the trailer too; it knows no record
unfoldable pub write_back_refusal : Sizes → ℕ → Machine → ℕ
write_back_refusal z i m = first_cause (bad_buffers z m ∷ record { number = 4; holds = leb (length m.cache) i } ∷ [])

unfoldable pub write_back_step : Sizes → ℕ → Machine → Step
write_back_step z i m =
    unless (write_back_refusal z i m) m
    (record { answer = Done; machine = record { state = m.state; pairs = m.pairs; cache = m.cache; nvm = written_back i m.cache m.nvm; flags = m.flags } })

-- ---- Drain
unfoldable pub drain_refusal : Sizes → ℕ → Machine → ℕ
drain_refusal z L m = first_cause (bad_buffers z m ∷ bad_record z m ∷ bad_lane z L ∷ [])

unfoldable pub drain_step : Sizes → ℕ → Machine → Step
drain_step z L m = unless (drain_refusal z L m) m (record { answer = Done; machine = drained z L m })

-- ---- appending
-- a sequence of these writes with timestamp s appended to lane L, which then has this phase and redo log; all else of the record becomes that of r
abbrev pub appended_at : Sizes → ℕ → (s : ℕ) → List Write → Phase → List Pair → Record → Machine → Machine
appended_at z L s ws phase redo r m =
    let l = lane_at m.state L in
    let end = advance z.slots (length ws + 1) (cursor_of l) in
    changed L (append_stores (log_start z L) z.slots s (cursor_of l) ws) (with_lane r L (appended_lane s end phase redo l)) m

-- with a new timestamp
unfoldable pub appended : Sizes → ℕ → List Write → Phase → List Pair → Machine → Machine
appended z L ws phase redo m =
    let s = (m.state).clock + 2 in
    appended_at z L s ws phase redo (with_clock m.state s) m

-- a mark appended to lane L behind its drain: the lane then holds nothing, and its pairs stay
abbrev pub marked : Sizes → ℕ → Machine → Machine
marked z L m = appended z L [] None (lane_at m.state L).redo (drained z L m)

-- ---- Log of a transaction that has words, by the rule that it is checked by
-- the writes of a transaction on the cached data words
unfoldable pub writes_on : Sizes → List ℕ → Machine → List Write
writes_on z f m = run z.words f (data_of z m.cache)

unfoldable pub log_txn_refusal_by : Rule → Sizes → ℕ → List ℕ → Machine → ℕ
log_txn_refusal_by r z L f m =
    let n = length (writes_on z f m) in
    first_cause
    (bad_buffers z m
    ∷ bad_record z m
    ∷ bad_lane z L
    ∷ bad_txn r max_writes z f
    ∷ already_logged L m
    ∷ lock_held m
    ∷ record { number = 8; holds = leb 1 n && spent m.state }
    ∷ record { number = 15; holds = leb 1 n && would_lag z L m }
    ∷ record { number = 9; holds = leb 1 n && would_hit z L (n + 1) m }
    ∷ [])

unfoldable pub logged : Sizes → ℕ → List Write → Machine → Machine
logged z L ws m =
    let l = lane_at m.state L in
    appended z L ws (Some (record { first = l.next; count = length ws; stamp = (m.state).clock + 2 })) (pairs_of max_writes ws) m

unfoldable pub log_txn_step_by : Rule → Sizes → ℕ → List ℕ → Machine → Step
log_txn_step_by r z L f m =
    let ws = writes_on z f m in
    unless (log_txn_refusal_by r z L f m) m
    (cond (eqb (length ws) 0)
    (record { answer = NoWrites; machine = drained z L m })
    (record { answer = Logged (record { count = length ws; stamp = (m.state).clock + 2 }); machine = logged z L ws (drained z L m) }))

-- ---- Log of no words settles the lane: it appends a mark where the lane holds nothing, bound by the lag limit
unfoldable pub settle_refusal : Sizes → ℕ → Machine → ℕ
settle_refusal z L m =
    first_cause
    (bad_buffers z m
    ∷ bad_record z m
    ∷ bad_lane z L
    ∷ already_logged L m
    ∷ lock_held m
    ∷ clock_spent m
    ∷ record { number = 15; holds = would_lag z L m }
    ∷ record { number = 9; holds = would_hit z L 1 m }
    ∷ [])

unfoldable pub settle_step : Sizes → ℕ → Machine → Step
settle_step z L m = unless (settle_refusal z L m) m (record { answer = Settled ((m.state).clock + 2); machine = marked z L m })

-- ---- Log
unfoldable pub log_refusal_by : Rule → Sizes → ℕ → List ℕ → Machine → ℕ
log_refusal_by r z L [] m = settle_refusal z L m
log_refusal_by r z L (w ∷ f) m = log_txn_refusal_by r z L (w ∷ f) m

unfoldable pub log_step_by : Rule → Sizes → ℕ → List ℕ → Machine → Step
log_step_by r z L [] m = settle_step z L m
log_step_by r z L (w ∷ f) m = log_txn_step_by r z L (w ∷ f) m

-- as it is offered, by the current rule
abbrev pub log_refusal : Sizes → ℕ → List ℕ → Machine → ℕ
log_refusal = log_refusal_by current

abbrev pub log_step : Sizes → ℕ → List ℕ → Machine → Step
log_step = log_step_by current

-- ---- commit: the pairs in order, then the new timestamp in the value word of the sequence's timestamp
unfoldable pub pair_stores : List Pair → List Store
pair_stores [] = []
pair_stores (p ∷ ps) = record { at = 1 + p.word; value = p.value } ∷ pair_stores ps

unfoldable pub commit_stores : Sizes → ℕ → List Pair → Machine → List Store
commit_stores z L ps m =
    let g = logged_in (lane_at m.state L).phase in
    pair_stores ps ++ (restamp_store (log_start z L) (circular z.slots (g.first + g.count)) ((m.state).clock + 2) m.cache ∷ [])

unfoldable pub committed : Sizes → ℕ → List Pair → Machine → Machine
committed z L ps m =
    let s = (m.state).clock + 2 in
    changed L (commit_stores z L ps m) (with_last (with_lane (with_clock m.state s) L (idle_lane (lane_at m.state L))) s) m

-- ---- Redo
unfoldable pub redo_refusal : Sizes → ℕ → Machine → ℕ
redo_refusal z L m = first_cause (bad_buffers z m ∷ bad_record z m ∷ bad_lane z L ∷ not_logged L m ∷ lock_held m ∷ clock_spent m ∷ [])

-- is the last commit above the logged timestamp
unfoldable pub is_stale : ℕ → Machine → Bool
is_stale L m = ltb (logged_in (lane_at m.state L).phase).stamp (m.state).last

-- the pairs below the count
unfoldable pub redo_pairs : ℕ → Machine → List Pair
redo_pairs L m = take (logged_in (lane_at m.state L).phase).count (lane_at m.state L).redo

unfoldable pub redo_step : Sizes → ℕ → Machine → Step
redo_step z L m =
    unless (redo_refusal z L m) m
    (cond (is_stale L m)
    (record { answer = Stale; machine = drained z L m })
    (record { answer = Committed ((m.state).clock + 2); machine = committed z L (redo_pairs L m) (drained z L m) }))

-- ---- Validate, by a rule as Log is
unfoldable pub validate_refusal_by : Rule → Sizes → ℕ → List ℕ → Machine → ℕ
validate_refusal_by r z L f m =
    first_cause (bad_buffers z m ∷ bad_record z m ∷ bad_lane z L ∷ bad_txn r max_writes z f ∷ not_logged L m ∷ lock_held m ∷ clock_spent m ∷ [])

-- does a slot hold a whole entry of this write's word and old value; wrap bits are not compared
unfoldable pub entry_matches : Write → Content → Bool
entry_matches w Empty = false
entry_matches w Torn = false
entry_matches w (Entry i v p) = eqb w.word i && eqb w.old v
entry_matches w (Stamp n s p) = false

-- does each write match the next entry, from slot j of the log on
unfoldable pub entries_match : (W N : ℕ) → List ℕ → (j : ℕ) → List Write → Bool
entries_match W N log j [] = true
entries_match W N log j (w ∷ ws) = entry_matches w (slot_at W log j) && entries_match W N log (circular N (j + 1)) ws

-- are the writes those that lane L has logged
unfoldable pub matches : Sizes → ℕ → List Write → Machine → Bool
matches z L ws m =
    let g = logged_in (lane_at m.state L).phase in
    eqb (length ws) g.count && entries_match z.words z.slots (log_of z L m.cache) g.first ws

-- a lane that gives up its logged transaction; the log keeps the sequence
unfoldable pub released : ℕ → Machine → Machine
released L m = record { state = with_lane m.state L (idle_lane (lane_at m.state L)); pairs = m.pairs; cache = m.cache; nvm = m.nvm; flags = m.flags }

unfoldable pub validate_step_by : Rule → Sizes → ℕ → List ℕ → Machine → Step
validate_step_by r z L f m =
    let ws = writes_on z f m in
    unless (validate_refusal_by r z L f m) m
    (cond (matches z L ws m)
    (record { answer = Committed ((m.state).clock + 2); machine = committed z L (pairs_of (length ws) ws) (drained z L m) })
    (record { answer = Changed; machine = released L (drained z L m) }))

-- as it is offered, by the current rule
abbrev pub validate_refusal : Sizes → ℕ → List ℕ → Machine → ℕ
validate_refusal = validate_refusal_by current

abbrev pub validate_step : Sizes → ℕ → List ℕ → Machine → Step
validate_step = validate_step_by current

-- ---- Mark
unfoldable pub mark_refusal : Sizes → ℕ → Machine → ℕ
mark_refusal z L m =
    first_cause
    (bad_buffers z m
    ∷ bad_record z m
    ∷ bad_lane z L
    ∷ lock_held m
    ∷ clock_spent m
    ∷ record { number = 9; holds = would_hit z L 1 m }
    ∷ [])

unfoldable pub mark_step : Sizes → ℕ → Machine → Step
mark_step z L m =
    unless (mark_refusal z L m) m
    (record { answer = Marked (record { stamp = (m.state).clock + 2; dropped = is_logged (lane_at m.state L).phase }); machine = marked z L m })
