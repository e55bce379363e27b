-- The crash theorem: what holds after every event of every list of events from a Format on, or from a recovery of an image of the former length on.
-- SPECIFICATION, "Crash theorem". Assumes nothing.
use Rattle.std.specs.Prelude.{ℕ, ◌+◌, ◌-◌, ◌≤◌, ◌<◌, Bool, true, false, cond, ◌&&◌, List, [], ◌∷◌, ◌++◌, ◌≡◌, leb, ltb, eqb, length, drop, replicate, Some, None, Option}
use Rattle.image.specs.Image.{former_length, trailer, data_of}
use Rattle.image.specs.declared.Sizes.{Sizes}
use Rattle.lane_log.specs.Log.{complete_in, hits}
use Rattle.record.specs.Record.{lane_at, is_logged, lag_ok}
use Rattle.store.specs.Machine.{Machine, first_cause}
use Rattle.store.specs.Calls.{format_refusal}
use Rattle.store.specs.Answers.{Answer}
use Rattle.store.specs.Answers as answer
use Rattle.recovery.specs.Recovery.{boundary, undo_stores, new_base, torn_in, all_made, recover_refusal}
use Rattle.recovery.specs.Answers.{Recovered}
use Rattle.recovery.specs.Answers.{Refused, Cut, Finished}
use Rattle.crash.specs.Events.{Call, lane_of, System, live, down, nvm_of, Design, happens}
use Rattle.crash.specs.Events.{Event, format, write_back, call, recover, fails, fails_in_drain, fails_after_drain, fails_in_recovery}
use Rattle.crash.specs.Events.{Reply, answered, recovered, failed, ignored}
use Rattle.crash.specs.History.{Holder, History, unset, opened, fed, page_at, visible, words_below, least_floor_of, after_drain, is_some}
use Rattle.crash.specs.History.{causes_by, slots_by, taken_answer}
use Rattle.record.specs.Record.{Lock}

-- ---- the lock: its lane, timestamp, how many writes are not yet made, and whether the next part is logged
pub record Progress : Type 0 where
  pub lane : ℕ
  pub stamp : ℕ
  pub left : ℕ
  pub ready : Bool

-- of the record, and of the history
unfoldable pub lock_state : Lock → Option Progress
lock_state None = None
lock_state (Some k) = Some (record { lane = k.lane; stamp = k.stamp; left = k.count - k.written; ready = ltb k.written k.logged })

unfoldable pub holder_state : Option Holder → Option Progress
holder_state None = None
holder_state (Some k) = Some (record { lane = k.lane; stamp = k.stamp; left = k.left; ready = k.ready })

-- ---- a running store
pub record Live (z : Sizes) (h : History) (m : Machine) : Type 0 where
  -- the cached data words are the start words with the commits run whole, in the order of their timestamps, and then the parts written so far of a
  -- transaction that holds the lock
  pub words : data_of z m.cache ≡ visible z h
  -- the record's clock is the history's, and so is its lag limit
  pub clock : m.state.clock ≡ h.clock
  pub lag : m.state.lag ≡ h.lag
  -- and so is each lane's floor, and whether it holds a transaction
  pub floors : (L : ℕ) → L < z.lanes → (lane_at m.state L).floor ≡ (page_at h L).floor
  pub held : (L : ℕ) → L < z.lanes → is_logged (lane_at m.state L).phase ≡ is_some (page_at h L).held
  -- and so is who holds the lock, and how far it is
  pub lock : lock_state m.state.lock ≡ holder_state h.lock

-- ---- the end of an image: what stands past the former length, its trailer or nothing
unfoldable pub end_of : Sizes → List ℕ → List ℕ
end_of z image = drop (former_length z) image

-- a buffer with this end, and so of this length
pub record HasEnd (z : Sizes) (end : List ℕ) (buffer : List ℕ) : Type 0 where
  pub long : length buffer ≡ former_length z + length end
  pub ends : end_of z buffer ≡ end

-- of a running store: the same in non-volatile memory and in the cache, and flushed by no lane, so that no drain stores to it
pub record Ends (z : Sizes) (end : List ℕ) (m : Machine) : Type 0 where
  pub nvm : HasEnd z end m.nvm
  pub cache : HasEnd z end m.cache
  pub unflushed : HasEnd z (replicate (length end) 0) m.flags

-- ---- a store: of one without a record nothing but its end is claimed until recovery has finished
abbrev pub InStep : Sizes → (end : List ℕ) → History → System → Type 0
InStep z end h (live m) = Live z h m × Ends z end m
InStep z end h (down nvm j found) = HasEnd z end nvm

-- ---- answers
-- would the append of a call write a slot of a sequence that is not below the least floor, floors as after its lane's drain: cause 9, the one that
-- the history cannot tell, since it has no logs. The slots are those of the machine's cached log
unfoldable pub is_full : Sizes → Call → History → Machine → Bool
is_full z c h m =
    hits z.slots (lane_at m.state (lane_of c)).next (slots_by z c h) (least_floor_of (after_drain (lane_of c) h).pages) (complete_in z m.cache (lane_of c))

-- the number of the refusal, 0 where it is none
unfoldable pub refusal_by : Sizes → Call → History → Machine → ℕ
refusal_by z c h m = first_cause (causes_by z c h ++ (record { number = 9; holds = is_full z c h m } ∷ []))

unfoldable pub answer_by : Sizes → Call → History → Machine → Answer
answer_by z c h m = cond (eqb (refusal_by z c h m) 0) (taken_answer z c h) (answer.Refused (refusal_by z c h m))

-- the answer to a call on a store with this machine
pub record Answers (z : Sizes) (h : History) (m : Machine) (c : Call) (a : Answer) : Type 0 where
  -- is the one that is due
  pub gives : a ≡ answer_by z c h m
  -- and a lane whose log is full has appended since the start
  pub appended : lane_of c < z.lanes → is_full z c h m ≡ true → (page_at h (lane_of c)).newest ≡ unset → ⊥

-- without a record no call is answered
abbrev pub CallReply : Sizes → History → System → Call → Answer → Type 0
CallReply z h (live m) c a = Answers z h m c a
CallReply z h (down nvm j found) c a = ⊥

-- a Format of an image without a trailer or with too few or many start words is refused with 1, else one with a lag limit out of range with 16; and a
-- write-back of no word of the image with 4
abbrev pub format_answer : Sizes → (end : List ℕ) → (lag : ℕ) → (start : List ℕ) → Answer
format_answer z end lag start =
    cond (eqb (length end) 4 && eqb (length start) z.words) (cond (lag_ok lag) answer.Done (answer.Refused 16)) (answer.Refused 1)

abbrev pub write_back_answer : Sizes → (end : List ℕ) → ℕ → Answer
write_back_answer z end i = cond (leb (former_length z + length end) i) (answer.Refused 4) answer.Done

-- ---- recovery
-- the answer of a recovery with these limits that finds these cells: refused where the lag limit is out of range, cut exactly where stores remain past the
-- limit of stores, else their boundary, how many entries they have to undo, and how many of their slots are torn. No other refusal: recovery is by the
-- call that fits
unfoldable pub recovery_answer : Sizes → (lag limit : ℕ) → (cells : List ℕ) → Recovered
recovery_answer z lag limit cells =
    cond (lag_ok lag)
    (cond (all_made z limit cells) (Finished (record { boundary = boundary z cells; undone = length (undo_stores z cells); torn = torn_in z cells })) Cut)
    (Refused 16)

-- a boundary is at least the least floor, and there is one only if some lane has a floor
pub data NotBelow : (floor boundary : Option ℕ) → Type 0 where
  no_boundary : {f : Option ℕ} → NotBelow f None
  at_least : {f b : ℕ} → f ≤ b → NotBelow (Some f) (Some b)

-- a finished recovery, of the history before it and the cut cells
pub record Recovers (z : Sizes) (h : History) (found : List ℕ) (m : Machine) : Type 0 where
  -- in non-volatile memory and in the cache are the last start's words with exactly the commits below the boundary of the cut cells
  pub nvm : data_of z m.nvm ≡ words_below z (boundary z found) h
  pub cache : data_of z m.cache ≡ words_below z (boundary z found) h
  -- the boundary is not below the least floor
  pub floors : NotBelow (least_floor_of h.pages) (boundary z found)
  -- where there is none, nothing was undone: the data words are those of the cut cells
  pub none : boundary z found ≡ None → data_of z m.nvm ≡ data_of z found

-- only a store with a record has finished
abbrev pub Finishes : Sizes → History → (found : List ℕ) → System → Recovered → Type 0
Finishes z h found y (Refused n) = Unit {0}
Finishes z h found y Cut = Unit {0}
Finishes z h found (live m) (Finished a) = Recovers z h found m
Finishes z h found (down nvm j f) (Finished a) = ⊥

-- the cells are those that this call found; the cut cells are those that the first recovery since the start found
pub record RecoveryReply (z : Sizes) (h : History) (lag limit : ℕ) (cells found : List ℕ) (y : System) (r : Recovered) : Type 0 where
  pub gives : r ≡ recovery_answer z lag limit cells
  pub leaves : Finishes z h found y r

-- ---- one event: what is replied, of the history and the store before it
abbrev pub Replied : Sizes → (end : List ℕ) → History → Event → (was : System) → (found : List ℕ) → (is : System) → Reply → Type 0
Replied z end h (format lag start) was found is (answered a) = a ≡ format_answer z end lag start
Replied z end h (write_back i) was found is (answered a) = a ≡ write_back_answer z end i
Replied z end h (call c) was found is (answered a) = CallReply z h was c a
Replied z end h (recover lag limit j) was found is (answered a) = ⊥
Replied z end h (fails j) was found is (answered a) = ⊥
Replied z end h (fails_in_drain c ws j) was found is (answered a) = ⊥
Replied z end h (fails_after_drain c j) was found is (answered a) = ⊥
Replied z end h (fails_in_recovery n j) was found is (answered a) = ⊥
Replied z end h (format lag start) was found is (recovered r) = ⊥
Replied z end h (write_back i) was found is (recovered r) = ⊥
Replied z end h (call c) was found is (recovered r) = ⊥
Replied z end h (recover lag limit j) was found is (recovered r) = RecoveryReply z h lag limit (nvm_of was) found is r
Replied z end h (fails j) was found is (recovered r) = ⊥
Replied z end h (fails_in_drain c ws j) was found is (recovered r) = ⊥
Replied z end h (fails_after_drain c j) was found is (recovered r) = ⊥
Replied z end h (fails_in_recovery n j) was found is (recovered r) = ⊥
Replied z end h e was found is (failed d) = Unit {0}
Replied z end h e was found is ignored = Unit {0}

pub record Agrees (d : Design) (z : Sizes) (end : List ℕ) (h : History) (e : Event) (was : System) : Type 0 where
  pub reply : Replied z end h e was (happens d z was e).found (happens d z was e).system (happens d z was e).reply
  pub store : InStep z end (fed z e (happens d z was e).reply (happens d z was e).found h) (happens d z was e).system

-- ---- every event of a list
abbrev pub Holds : Design → Sizes → (end : List ℕ) → System → History → List Event → Type 0
Holds d z end y h [] = Unit {0}
Holds d z end y h (e ∷ es) =
    Agrees d z end h e y × Holds d z end (happens d z y e).system (fed z e (happens d z y e).reply (happens d z y e).found h) es

-- the theorem about a store: for all sizes, lag limits, buffers and start words that Format is not to refuse, and all lists of events that begin with it;
-- the history before it does not matter. It holds of ours (`CrashTheorem.crash-theorem`), and not of wrong ones (`proofs/worked/WrongStores`)
unfoldable pub CrashTheorem : Design → Type 0
CrashTheorem d =
    (z : Sizes) (lag : ℕ) (start : List ℕ) (m : Machine) (h : History) → format_refusal z lag start m ≡ 0
    → (es : List Event) → Holds d z (trailer z) (live m) h (format lag start ∷ es)

-- the same of a store that was there before images had a trailer: for all sizes and lag limits, all cells of the former length with an even base, whatever
-- they hold, and all lists of events after a recovery of them, with the sizes given, that is let finish. The words that it leaves are the start words
unfoldable pub FormerTheorem : Design → Type 0
FormerTheorem d =
    (z : Sizes) (lag limit : ℕ) (m : Machine) → recover_refusal z lag m ≡ 0 → all_made z limit m.nvm ≡ true
    → (es : List Event) → let r = d.recover z lag limit m in
    (r.answer ≡ recovery_answer z lag limit m.nvm)
    × InStep z [] (opened z lag (data_of z r.machine.nvm) (new_base z m.nvm)) (live r.machine)
    × Holds d z [] (live r.machine) (opened z lag (data_of z r.machine.nvm) (new_base z m.nvm)) es

-- ---- who stores to the trailer: Format and write-back
unfoldable pub may_store : Event → Bool
may_store (format lag start) = true
may_store (write_back i) = true
may_store (call c) = false
may_store (recover lag limit j) = false
may_store (fails j) = false
may_store (fails_in_drain c ws j) = false
may_store (fails_after_drain c j) = false
may_store (fails_in_recovery n j) = false

-- of a running store, no lane has flushed it; of one without a record nothing is asked
abbrev pub Unflushed : Sizes → System → Type 0
Unflushed z (live m) = end_of z m.flags ≡ replicate 4 0
Unflushed z (down nvm j found) = Unit {0}

-- no other event stores to it: of any store whose cells have it and where no lane has flushed it, whatever the cache holds in its place, it leaves these
-- cells as they are. By the crash theorem every store from a Format on is such a one
unfoldable pub TrailerTheorem : Design → Type 0
TrailerTheorem d =
    (z : Sizes) (y : System) (e : Event) → may_store e ≡ false → end_of z (nvm_of y) ≡ trailer z → Unflushed z y
    → end_of z (nvm_of (happens d z y e).system) ≡ trailer z
