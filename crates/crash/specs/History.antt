-- The history, the sequential reference: it is fed arguments, replies and the cut cells, and never reads the machine. SPECIFICATION, "History". Assumes
-- nothing.
use Rattle.std.specs.Prelude.{ℕ, ◌+◌, ◌-◌, ◌^◌, min, Bool, true, false, cond, not, ◌&&◌, ◌||◌, List, [], ◌∷◌, ◌++◌, map, leb, ltb, eqb, length, get_or, set, take, replicate, Some, None, Option}
use Rattle.txn.specs.Txn.{max_writes, max_long, current, run, applied, after}
use Rattle.txn.specs.declared.Write.{Write}
use Rattle.image.specs.declared.Sizes.{Sizes}
use Rattle.record.specs.Record.{lesser, lag_passed}
use Rattle.store.specs.Machine.{Cause, Said, said}
use Rattle.store.specs.Calls.{bad_lane, bad_txn}
use Rattle.store.specs.Locks.{slots_counted}
use Rattle.store.specs.Answers.{Answer}
use Rattle.store.specs.Answers as answer
use Rattle.recovery.specs.Recovery.{boundary, new_base, told}
use Rattle.recovery.specs.Answers.{Recovered}
use Rattle.crash.specs.Events.{Call, log_by, redo, validate_by, mark, drain, lock, proceed, lane_of}
use Rattle.crash.specs.Events.{Event, format, write_back, call, recover, fails, fails_in_drain, fails_after_drain, fails_in_recovery}
use Rattle.crash.specs.Events.{Reply, answered, recovered, failed, ignored}

-- a lane's newest timestamp: unset at a start, one that closes entries, or a mark's
pub data Newest : Type 0 where
  unset : Newest
  closing_at : (stamp : ℕ) → Newest
  mark_at : (stamp : ℕ) → Newest

-- a lane's page: the transaction it holds, its newest timestamp, its floor
pub record Page : Type 0 where
  pub held : Option (List ℕ)
  pub newest : Newest
  pub floor : Option ℕ

-- a commit: its timestamp and its transaction
pub record Commit : Type 0 where
  pub stamp : ℕ
  pub txn : List ℕ

-- a long transaction that holds the lock: its lane, words and timestamp, how many of its writes are not yet made, and whether the next part of them is
-- logged
pub record Holder : Type 0 where
  pub lane : ℕ
  pub txn : List ℕ
  pub stamp : ℕ
  pub left : ℕ
  pub ready : Bool

pub record History : Type 0 where
  pub start : List ℕ
  pub clock : ℕ
  -- since the start, by rising timestamp
  pub commits : List Commit
  pub pages : List Page
  -- the lag limit that the start was given
  pub lag : ℕ
  -- who holds the lock
  pub lock : Option Holder

abbrev pub blank_page : Page
blank_page = record { held = None; newest = unset; floor = None }

unfoldable pub page_at : History → ℕ → Page
page_at h L = get_or h.pages L blank_page

-- a start with this lag limit, these words and this clock
unfoldable pub opened : Sizes → (lag : ℕ) → List ℕ → ℕ → History
opened z lag start clock = record { start = start; clock = clock; commits = []; pages = replicate z.lanes blank_page; lag = lag; lock = None }

-- ---- the words
unfoldable pub is_below : Option ℕ → ℕ → Bool
is_below None s = true
is_below (Some b) s = ltb s b

-- the words with the commits below a timestamp run in order, all of them where it is none
unfoldable pub replay : (W : ℕ) → Option ℕ → List Commit → List ℕ → List ℕ
replay W b [] ws = ws
replay W b (c ∷ cs) ws = replay W b cs (cond (is_below b c.stamp) (after W c.txn ws) ws)

unfoldable pub words_below : Sizes → Option ℕ → History → List ℕ
words_below z b h = replay z.words b h.commits h.start

-- ---- what the history does with an event
unfoldable pub floor_or : Option ℕ → Option ℕ → Option ℕ
floor_or None b = b
floor_or (Some a) b = Some a

-- a lane's floor after a drain
unfoldable pub floor_on_drain : Newest → Option ℕ → Option ℕ
floor_on_drain unset floor = floor
floor_on_drain (closing_at s) floor = Some s
floor_on_drain (mark_at s) floor = None

-- a drain of lane L: its newest timestamp, if any, becomes its floor; a mark's ends it
unfoldable pub after_drain : ℕ → History → History
after_drain L h =
    let p = page_at h L in
    record {
      start = h.start;
      clock = h.clock;
      commits = h.commits;
      pages = set h.pages L (record { held = p.held; newest = p.newest; floor = floor_on_drain p.newest p.floor });
      lag = h.lag;
      lock = h.lock;
    }

-- a new timestamp of lane L, which closes entries or is a mark's, with what the lane then holds and what is committed
unfoldable pub stamped : ℕ → (ℕ → Newest) → Option (List ℕ) → List (List ℕ) → History → History
stamped L kind held txns h =
    let s = h.clock + 2 in
    record {
      start = h.start;
      clock = s;
      commits = h.commits ++ map (λ f. record { stamp = s; txn = f }) txns;
      pages = set h.pages L (record { held = held; newest = kind s; floor = floor_or (page_at h L).floor (Some s) });
      lag = h.lag;
      lock = h.lock;
    }

-- lane L holds nothing any more
unfoldable pub released : ℕ → History → History
released L h =
    let p = page_at h L in
    record {
      start = h.start;
      clock = h.clock;
      commits = h.commits;
      pages = set h.pages L (record { held = None; newest = p.newest; floor = p.floor });
      lag = h.lag;
      lock = h.lock;
    }

-- ---- the lock
-- lane L takes it for transaction f of n writes, with a new timestamp; its page stays, since nothing is appended yet
unfoldable pub lock_taken : ℕ → List ℕ → (n : ℕ) → History → History
lock_taken L f n h =
    let s = h.clock + 2 in
    record {
      start = h.start;
      clock = s;
      commits = h.commits;
      pages = h.pages;
      lag = h.lag;
      lock = Some (record { lane = L; txn = f; stamp = s; left = n; ready = false });
    }

-- its next part is logged: the lane's newest timestamp is the lock's from its first part on
unfoldable pub part_logged : Holder → History → History
part_logged k h =
    let p = page_at h k.lane in
    record {
      start = h.start;
      clock = h.clock;
      commits = h.commits;
      pages = set h.pages k.lane (record { held = p.held; newest = closing_at k.stamp; floor = floor_or p.floor (Some k.stamp) });
      lag = h.lag;
      lock = Some (record { lane = k.lane; txn = k.txn; stamp = k.stamp; left = k.left; ready = true });
    }

-- how many writes are not yet made once the part that is logged is written
unfoldable pub left_after : Holder → ℕ
left_after k = k.left - min max_writes k.left

-- that part is written: the last one commits the transaction, and the lock is free
unfoldable pub part_written : Holder → History → History
part_written k h =
    let n = left_after k in
    record {
      start = h.start;
      clock = h.clock;
      commits = cond (eqb n 0) (h.commits ++ (record { stamp = k.stamp; txn = k.txn } ∷ [])) h.commits;
      pages = h.pages;
      lag = h.lag;
      lock = cond (eqb n 0) None (Some (record { lane = k.lane; txn = k.txn; stamp = k.stamp; left = n; ready = false }));
    }

unfoldable pub next_part : Option Holder → History → History
next_part None h = h
next_part (Some k) h = cond k.ready (part_written k h) (part_logged k h)

unfoldable pub is_some : {A : Type 0} → Option A → Bool
is_some None = false
is_some (Some f) = true

unfoldable pub held_by : Option (List ℕ) → List (List ℕ)
held_by None = []
held_by (Some f) = f ∷ []

-- is a count answered, and above 0
unfoldable pub is_counted : List ℕ → Bool
is_counted [] = false
is_counted (n ∷ ns) = leb 1 n

-- a call that was taken, by what it answered; a Log of no words is a Mark of a lane that holds nothing
unfoldable pub taken : Call → Said → History → History
taken (log_by r L []) t h = stamped L mark_at None [] (after_drain L h)
taken (log_by r L (w ∷ f)) t h = cond (is_counted t.count) (stamped L closing_at (Some (w ∷ f)) [] (after_drain L h)) (after_drain L h)
taken (redo L) t h = cond t.stale (after_drain L h) (stamped L closing_at None (held_by (page_at h L).held) (after_drain L h))
taken (validate_by r L f) t h = cond t.changed (released L (after_drain L h)) (stamped L closing_at None (f ∷ []) (after_drain L h))
taken (mark L) t h = stamped L mark_at None [] (after_drain L h)
taken (drain L) t h = after_drain L h
taken (lock L f) t h = cond (is_counted t.left) (lock_taken L f (get_or t.left 0 0) (after_drain L h)) (after_drain L h)
taken (proceed L) t h = next_part (h.lock) (after_drain L h)

-- a finished recovery that was given this lag limit and started from these cut cells
unfoldable pub restarted : Sizes → (lag : ℕ) → List ℕ → History → History
restarted z lag found h = opened z lag (words_below z (boundary z found) h) (new_base z found)

unfoldable pub after_call : Call → Answer → History → History
after_call c a h = cond (said a).refused h (taken c (said a) h)

-- a recovery that was refused or cut short does nothing
unfoldable pub after_recovered : Sizes → (lag : ℕ) → List ℕ → Recovered → History → History
after_recovered z lag found r h = cond ((told r).refused || (told r).cut) h (restarted z lag found h)

-- by the reply; a reply that the event cannot have does nothing
unfoldable pub fed_answer : Sizes → Event → Answer → History → History
fed_answer z (format lag start) a h = cond (said a).refused h (opened z lag start 0)
fed_answer z (write_back i) a h = h
fed_answer z (call c) a h = after_call c a h
fed_answer z (recover lag limit j) a h = h
fed_answer z (fails j) a h = h
fed_answer z (fails_in_drain c is j) a h = h
fed_answer z (fails_after_drain c j) a h = h
fed_answer z (fails_in_recovery n j) a h = h

unfoldable pub fed_recovery : Sizes → Event → (found : List ℕ) → Recovered → History → History
fed_recovery z (format lag start) found r h = h
fed_recovery z (write_back i) found r h = h
fed_recovery z (call c) found r h = h
fed_recovery z (recover lag limit j) found r h = after_recovered z lag found r h
fed_recovery z (fails j) found r h = h
fed_recovery z (fails_in_drain c is j) found r h = h
fed_recovery z (fails_after_drain c j) found r h = h
fed_recovery z (fails_in_recovery n j) found r h = h

-- a whole drain in a call that power cut short counts as a Drain
unfoldable pub fed_failure : Event → Bool → History → History
fed_failure (format lag start) d h = h
fed_failure (write_back i) d h = h
fed_failure (call c) d h = h
fed_failure (recover lag limit j) d h = h
fed_failure (fails j) d h = h
fed_failure (fails_in_drain c is j) d h = h
fed_failure (fails_after_drain c j) d h = cond d (after_drain (lane_of c) h) h
fed_failure (fails_in_recovery n j) d h = h

unfoldable pub fed : Sizes → Event → Reply → (found : List ℕ) → History → History
fed z e (answered a) found h = fed_answer z e a h
fed z e (recovered r) found h = fed_recovery z e found r h
fed z e (failed d) found h = fed_failure e d h
fed z e ignored found h = h

-- ---- what the history can tell of an answer
unfoldable pub least_floor_of : List Page → Option ℕ
least_floor_of [] = None
least_floor_of (p ∷ ps) = lesser p.floor (least_floor_of ps)

-- the data words with all commits
unfoldable pub present : Sizes → History → List ℕ
present z h = words_below z None h

-- words with the writes that are made of a transaction that holds the lock
unfoldable pub written : Sizes → Option Holder → List ℕ → List ℕ
written z None ws = ws
written z (Some k) ws = let xs = run z.words k.txn ws in applied (take (length xs - k.left) xs) ws

-- the data words now: those with all commits, and then the parts written so far of a transaction that holds the lock
unfoldable pub visible : Sizes → History → List ℕ
visible z h = written z h.lock (present z h)

-- the writes of a transaction on them
unfoldable pub writes_now : Sizes → List ℕ → History → List Write
writes_now z f h = run z.words f (visible z h)

unfoldable pub newest_stamp : Newest → Option ℕ
newest_stamp unset = None
newest_stamp (closing_at s) = Some s
newest_stamp (mark_at s) = Some s

-- the writes that lane L has logged: those of the transaction that it holds, on the words before its timestamp
unfoldable pub writes_logged : Sizes → ℕ → History → List Write
writes_logged z L h = elim (page_at h L).held [ None ↦ [] | Some f ↦ run z.words f (words_below z (newest_stamp (page_at h L).newest) h) ]

-- the same words and old values, in the same order
unfoldable pub same_olds : List Write → List Write → Bool
same_olds [] [] = true
same_olds [] (w ∷ ws) = false
same_olds (v ∷ vs) [] = false
same_olds (v ∷ vs) (w ∷ ws) = (eqb v.word w.word && eqb v.old w.old) && same_olds vs ws

-- is some commit above a timestamp
unfoldable pub is_above : Option ℕ → ℕ → Bool
is_above None s = false
is_above (Some b) s = ltb b s

unfoldable pub commit_above : Option ℕ → List Commit → Bool
commit_above b [] = false
commit_above b (c ∷ cs) = is_above b c.stamp || commit_above b cs

-- ---- causes 6, 7, 11, 8 and 15; 3, 5 and 12 are the calls' own, which look at the arguments alone
unfoldable pub holds_one : ℕ → History → Bool
holds_one L h = is_some (page_at h L).held

unfoldable pub not_held : ℕ → History → Cause
not_held L h = record { number = 7; holds = not (holds_one L h) }

unfoldable pub lock_held : History → Cause
lock_held h = record { number = 11; holds = is_some h.lock }

-- does another lane than L hold the lock
unfoldable pub held_elsewhere : ℕ → Option Holder → Bool
held_elsewhere L None = false
held_elsewhere L (Some k) = not (eqb k.lane L)

unfoldable pub clock_spent : History → Bool
clock_spent h = leb (2 ^ 64 - 2) h.clock

-- would lane L's next timestamp be more than the lag limit above the least floor, floors as after the lane's drain
unfoldable pub would_lag : ℕ → History → Bool
would_lag L h = lag_passed h.lag (h.clock + 2) (least_floor_of (after_drain L h).pages)

-- a call's causes for refusal, in order; 1 and 2 never hold, and 9 is not the history's to tell, since it has no logs
unfoldable pub causes_by : Sizes → Call → History → List Cause
causes_by z (log_by r L []) h =
    bad_lane z L
    ∷ record { number = 6; holds = holds_one L h }
    ∷ lock_held h
    ∷ record { number = 8; holds = clock_spent h }
    ∷ record { number = 15; holds = would_lag L h }
    ∷ []
causes_by z (log_by r L (w ∷ f)) h =
    let n = length (writes_now z (w ∷ f) h) in
    bad_lane z L
    ∷ bad_txn r max_writes z (w ∷ f)
    ∷ record { number = 6; holds = holds_one L h }
    ∷ lock_held h
    ∷ record { number = 8; holds = leb 1 n && clock_spent h }
    ∷ record { number = 15; holds = leb 1 n && would_lag L h }
    ∷ []
causes_by z (redo L) h = bad_lane z L ∷ not_held L h ∷ lock_held h ∷ record { number = 8; holds = clock_spent h } ∷ []
causes_by z (validate_by r L f) h =
    bad_lane z L ∷ bad_txn r max_writes z f ∷ not_held L h ∷ lock_held h ∷ record { number = 8; holds = clock_spent h } ∷ []
causes_by z (mark L) h = bad_lane z L ∷ lock_held h ∷ record { number = 8; holds = clock_spent h } ∷ []
causes_by z (drain L) h = bad_lane z L ∷ []
causes_by z (lock L f) h =
    let n = length (writes_now z f h) in
    bad_lane z L
    ∷ bad_txn current max_long z f
    ∷ record { number = 6; holds = holds_one L h }
    ∷ lock_held h
    ∷ record { number = 12; holds = ltb (z.slots - 17) (slots_counted f) }
    ∷ record { number = 8; holds = leb 1 n && clock_spent h }
    ∷ record { number = 15; holds = leb 1 n && would_lag L h }
    ∷ []
causes_by z (proceed L) h =
    bad_lane z L ∷ record { number = 7; holds = not (is_some h.lock) } ∷ record { number = 11; holds = held_elsewhere L h.lock } ∷ []

-- how many slots a call appends to its lane's log, or counts for what it will append
unfoldable pub slots_by : Sizes → Call → History → ℕ
slots_by z (log_by r L []) h = 1
slots_by z (log_by r L (w ∷ f)) h = let n = length (writes_now z (w ∷ f) h) in cond (eqb n 0) 0 (n + 1)
slots_by z (redo L) h = 0
slots_by z (validate_by r L f) h = 0
slots_by z (mark L) h = 1
slots_by z (drain L) h = 0
slots_by z (lock L f) h = cond (eqb (length (writes_now z f h)) 0) 0 (slots_counted f)
slots_by z (proceed L) h = 0

-- what Continue answers, of the transaction that holds the lock
unfoldable pub progress : Option Holder → Answer
progress None = answer.Done
progress (Some k) = answer.Locked (record { left = cond k.ready (left_after k) k.left; stamp = k.stamp })

-- the answer of a call that is not refused
unfoldable pub taken_answer : Sizes → Call → History → Answer
taken_answer z (log_by r L []) h = answer.Settled (h.clock + 2)
taken_answer z (log_by r L (w ∷ f)) h =
    let n = length (writes_now z (w ∷ f) h) in
    cond (eqb n 0) answer.NoWrites (answer.Logged (record { count = n; stamp = h.clock + 2 }))
taken_answer z (redo L) h = cond (commit_above (newest_stamp (page_at h L).newest) h.commits) answer.Stale (answer.Committed (h.clock + 2))
taken_answer z (validate_by r L f) h =
    cond (same_olds (writes_now z f h) (writes_logged z L h)) (answer.Committed (h.clock + 2)) answer.Changed
taken_answer z (mark L) h = answer.Marked (record { stamp = h.clock + 2; dropped = holds_one L h })
taken_answer z (drain L) h = answer.Done
taken_answer z (lock L f) h =
    let n = length (writes_now z f h) in
    cond (eqb n 0) answer.NoWrites (answer.Locked (record { left = n; stamp = h.clock + 2 }))
taken_answer z (proceed L) h = progress h.lock
