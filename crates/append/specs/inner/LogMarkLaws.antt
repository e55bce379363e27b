-- Inner: how the code goes, need not be believed. Laws of Log and Mark: a law for each return of their checks, their plans and their steps; what they
-- know where they are not refused. Assumes nothing.
use Rattle.std.specs.Prelude.{ℕ, zero, suc, ◌+◌, ◌^◌, ◌≤◌, ◌<◌, ◌≡◌, Bool, true, cond, ◌&&◌, eqb, Option, Some, None, Result, Ok, Err, IsErrAnd}
use Rattle.std.proofs.Math.Path.{refl, sym, ap}
use Rattle.std.proofs.Common.{◌∙◌, arith, get_or-set_same}
use Rattle.std.proofs.Math.Bool.{false, or-true}
use mathlib.Core.List.{List, [], ◌∷◌, ◌++◌}
use Rattle.std.proofs.Math.Decide.{ℕ_discrete}
use Rattle.std.proofs.Math.ListN.{length, length-map}
use borrow.Author.Tests.{eq-eqb, ne_eqb, eqb-true, eqb-false, le-leb, not-false}
use Rattle.laws.specs.inner.Tests.{split}
use Rattle.laws.specs.inner.Lists.{none, All-map}
use Rattle.slot.specs.Slot.{max_entries}
use Rattle.txn.specs.Txn.{max_writes, current, txn_ok, run}
use Rattle.txn.specs.inner.TxnLaws.{run_none, few-writes, run-low}
use Rattle.txn.specs.declared.Write.{Write}
use Rattle.image.specs.Image.{max_words, max_lanes, sizes_ok, base_of, data_of, log_start, log_of}
use Rattle.image.specs.inner.ImageLaws.{sizes-in, log-fits}
use Rattle.image.specs.Flush.{flush_all, drained_nvm, drained_flags}
use Rattle.image.specs.Stores.{stored, places}
use Rattle.image.specs.declared.Sizes.{Sizes}
use Rattle.lane_log.specs.Log.{latest_in, complete_below, complete_in, hits}
use Rattle.lane_log.specs.inner.LogLaws.{hits-in}
use Rattle.lane_log.specs.Append.{advance, append_stores}
use Rattle.lane_log.specs.inner.AppendEntries.{WordsBelow, LogAt}
use Rattle.lane_log.specs.declared.Cursor.{Cursor}
use Rattle.record.specs.Record.{no_lane, lane_at, is_logged, is_held, spent, bound_of, lag_passed, cursor_of, floor_after_drain, floor_after_append}
use Rattle.record.specs.Record.{with_lane, with_clock, drained_lane, appended_lane, pairs_of}
use Rattle.record.specs.inner.RecordLaws.{record-in, LaneIn, lane-in, clock-room, clock-lane, lane-twice}
use Rattle.record.specs.declared.Lane.{Lane}
use Rattle.record.specs.declared.Pair.{Pair}
use Rattle.record.specs.declared.Record.{Record}
use Rattle.codec.specs.Fields.{record_of, words_of}
use Rattle.codec.specs.inner.InPlace.{headed, redone}
use Rattle.codec.specs.inner.ReadLaws.{lanes-read}
use Rattle.store.specs.Answers.{Answer}
use Rattle.store.specs.Answers.{Refused, NoWrites, Logged, Settled, Marked}
use Rattle.store.specs.declared.Refusal.{Refusal}
use Rattle.store.specs.Machine.{Machine, Step, Cause, first_cause, unless, said}
use Rattle.store.specs.Calls.{bad_buffers, bad_record, bad_lane, bad_txn, already_logged, lock_held, clock_spent, drain_refusal, drained, changed, would_lag, would_hit}
use Rattle.store.specs.Calls.{writes_on, appended}
use Rattle.store.specs.Calls.{marked, log_txn_refusal_by, log_txn_step_by, logged, settle_refusal, settle_step, log_refusal_by, log_refusal, log_step_by, log_step}
use Rattle.store.specs.Calls.{mark_refusal, mark_step}
use Rattle.store.specs.Interface.{machine_of, machine_in, kept_by, keeps, refusal_of}
use Rattle.store.specs.inner.Checked.{Checked, drained_state}
use Rattle.store.specs.inner.StoreLaws.{first_holds, first-fails, first-none, first-end, checked, lane-small, at-lane, after-lane}
use Rattle.store.specs.inner.StoreLaws.{lane-passed, step-taken, drained-by, drained-state, drained-clock, drained-lane, drained-keeps}
use Rattle.store.specs.inner.KeepsLaws.{keeps-taken, keeps-refused}
use Rattle.append.specs.inner.Plans.{room_refusal, bad_words, log_checks, log_room, takes_stamp, Planned, Searchable, Appendable, AfterDrain}
use Rattle.append.specs.inner.Plans.{logged_step, marked_step, appended_state}
use Rattle.record.specs.Record.{Phase}
use Rattle.lane_log.specs.declared.Sequence.{Sequence}

-- ---- refusals 8, 15 and 9
-- the lower bound once the lane has the floor that its drain gives it is that of the drained record
pub bound-drained : (z : Sizes) (r : Record) (q : Option Sequence) (cache : List ℕ) (L : ℕ) (old floor bound : Option ℕ) → q ≡ latest_in z cache L
    → old ≡ (lane_at r L).floor → floor ≡ floor_after_drain q old → ((l : Lane) → l.floor ≡ floor → bound ≡ bound_of z (with_lane r L l))
    → bound ≡ bound_of z (drained_state z cache L r)
unfolding drained_state drained_lane
bound-drained z r q cache L old floor bound f o e b = b (drained_lane (latest_in z cache L) (lane_at r L)) (rw (e, o, f))

-- the lag by what was read of the record
pub lag-read : (ws : List ℕ) (lag clock : ℕ) (bound : Option ℕ) (passed : Bool) → lag ≡ (record_of ws).lag → clock ≡ (record_of ws).clock
    → passed ≡ lag_passed lag (clock + 2) bound → lag_passed (record_of ws).lag ((record_of ws).clock + 2) bound ≡ passed
lag-read ws lag clock bound passed l k e = rw (← l, ← k) (sym e)

module _ (z : Sizes) (r : Record) (cache : List ℕ) (L n : ℕ) (binds : Bool) where
  pub room-spent : spent r ≡ true → 8 ≡ room_refusal z r cache L n binds
  unfolding room_refusal
  room-spent e = sym (first_holds _ _ e)

  -- the lag and a hit are looked at by the lower bound of the drained record
  module _ (bound : Option ℕ) (b : bound ≡ bound_of z (drained_state z cache L r)) (s : spent r ≡ false) where
    lag-in : (binds && lag_passed r.lag (r.clock + 2) (bound_of z (drained_state z cache L r))) ≡ (binds && lag_passed r.lag (r.clock + 2) bound)
    lag-in = rw b

    pub room-lag : (binds && lag_passed r.lag (r.clock + 2) bound) ≡ true → 15 ≡ room_refusal z r cache L n binds
    unfolding room_refusal
    room-lag h = sym (first-fails _ _ s ∙ first_holds _ _ (lag-in ∙ h))

    -- a hit is looked for in the part of the image that is the lane's log, from the lane's cursor on
    module _ (log : List ℕ) (cursor : Cursor) (hit : Bool) (p : log ≡ log_of z L cache) (c : cursor ≡ cursor_of (lane_at r L))
        (g : hit ≡ hits z.slots cursor.slot n bound (complete_below z.words z.slots (base_of cache) log 0 z.slots))
        (k : (binds && lag_passed r.lag (r.clock + 2) bound) ≡ false) where
      hit-in : hits z.slots (lane_at r L).next n (bound_of z (drained_state z cache L r)) (complete_in z cache L) ≡ hit
      unfolding cursor_of
      hit-in = rw (g, c, b, p) (hits-in z cache L (lane_at r L).next n (bound_of z (drained_state z cache L r)))

      pub room-hit : hit ≡ true → 9 ≡ room_refusal z r cache L n binds
      unfolding room_refusal
      room-hit h = sym (first-fails _ _ s ∙ first-fails _ _ (lag-in ∙ k) ∙ first_holds _ _ (hit-in ∙ h))

      pub room-free : hit ≡ false → 0 ≡ room_refusal z r cache L n binds
      unfolding room_refusal
      room-free h = sym (first-fails _ _ s ∙ first-fails _ _ (lag-in ∙ k) ∙ first-fails _ _ (hit-in ∙ h) ∙ first-end)

-- as the calls' refusals have them: bound by the lag limit
pub room_bound : (z : Sizes) (L n : ℕ) (m : Machine) → room_refusal z m.state m.cache L n true
    ≡ first_cause (clock_spent m ∷ record { number = 15; holds = would_lag z L m } ∷ record { number = 9; holds = would_hit z L n m } ∷ [])
unfolding room_refusal clock_spent would_lag would_hit
room_bound z L n m = rw (drained-state z L m)

-- and not
room-unbound : (z : Sizes) (L n : ℕ) (m : Machine)
    → room_refusal z m.state m.cache L n false ≡ first_cause (clock_spent m ∷ record { number = 9; holds = would_hit z L n m } ∷ [])
unfolding room_refusal first_cause clock_spent would_hit
room-unbound z L n m = rw (drained-state z L m)

-- where a Log settles no lane and writes nothing it is not asked for
module _ (z : Sizes) (r : Record) (cache : List ℕ) (L n : ℕ) (settles : Bool) where
  pub room-waived : settles ≡ false → n ≡ 0 → 0 ≡ log_room z r cache L settles n
  unfolding log_room
  room-waived s e = rw (s, e)

  -- else it is
  pub room-counted : (n ≡ 0 → ⊥) → room_refusal z r cache L (n + 1) true ≡ log_room z r cache L settles n
  unfolding log_room
  room-counted h = rw (ne_eqb n 0 h) (split settles (λ t. rw t) (λ t. rw t))

  pub room-settles : settles ≡ true → room_refusal z r cache L (n + 1) true ≡ log_room z r cache L settles n
  unfolding log_room
  room-settles t = rw t

-- ---- Log's refusals before it runs the transaction
txn-passes : (z : Sizes) (f : List ℕ) → ((length f ≡ 0 → ⊥) → txn_ok max_writes z.words f ≡ true) → (bad_words z f).holds ≡ false
txn-passes z f h = split (eqb (length f) 0) (λ t. rw t) (λ t. rw (t, h (eqb-false (length f) 0 t)))

module _ (z : Sizes) (L : ℕ) (f : List ℕ) (m : Machine) where
  pub checks-lane : (number : ℕ) → number ≡ drain_refusal z L m → (number ≡ 0 → ⊥) → number ≡ log_checks z L f m
  unfolding log_checks
  checks-lane number e h = e ∙ sym (at-lane z L m _ (λ d. h (e ∙ d)))

  module _ (e : drain_refusal z L m ≡ 0) where
    pub checks-txn : (length f ≡ 0 → ⊥) → txn_ok max_writes z.words f ≡ false → 5 ≡ log_checks z L f m
    unfolding log_checks
    checks-txn n h = sym (after-lane z L m _ e ∙ first_holds _ _ (rw (ne_eqb (length f) 0 n, h)))

    module _ (h : (length f ≡ 0 → ⊥) → txn_ok max_writes z.words f ≡ true) where
      pub checks-logged : is_logged (lane_at m.state L).phase ≡ true → 6 ≡ log_checks z L f m
      unfolding log_checks already_logged
      checks-logged g = sym (after-lane z L m _ e ∙ first-fails _ _ (txn-passes z f h) ∙ first_holds _ _ g)

      module _ (g : is_logged (lane_at m.state L).phase ≡ false) where
        pub checks-held : is_held m.state.lock ≡ true → 11 ≡ log_checks z L f m
        unfolding log_checks already_logged lock_held
        checks-held l = sym (after-lane z L m _ e ∙ first-fails _ _ (txn-passes z f h) ∙ first-fails _ _ g ∙ first_holds _ _ l)

        pub checks-none : is_held m.state.lock ≡ false → 0 ≡ log_checks z L f m
        unfolding log_checks already_logged lock_held
        checks-none l = sym (after-lane z L m _ e ∙ first-fails _ _ (txn-passes z f h) ∙ first-fails _ _ g ∙ first-fails _ _ l ∙ first-end)

-- ---- Log's refusals, from those that it checks first
pub some : (n : ℕ) → (n ≡ 0 → ⊥) → 1 ≤ n
some zero h = absurd (h refl)
some (suc n) h = omega arith

-- further causes do not matter where one of the first holds
pub first_more : (cs ds : List Cause) → (first_cause cs ≡ 0 → ⊥) → first_cause (cs ++ ds) ≡ first_cause cs
first_more [] ds h = absurd (h first-end)
first_more (c ∷ cs) ds h =
    split c.holds
    (λ t. first_holds c (cs ++ ds) t ∙ sym (first_holds c cs t))
    (λ t. first-fails c (cs ++ ds) t ∙ first_more cs ds (λ e. h (first-fails c cs t ∙ e)) ∙ sym (first-fails c cs t))

-- Log takes a timestamp where it writes, and where there are no words
module _ (z : Sizes) (f : List ℕ) (m : Machine) where
  takes_none : length f ≡ 0 → takes_stamp z f m ≡ true
  unfolding takes_stamp
  takes_none e = rw (eq-eqb (length f) 0 e)

  takes-some : (n : ℕ) → n ≡ length (writes_on z f m) → (n ≡ 0 → ⊥) → takes_stamp z f m ≡ true
  unfolding takes_stamp
  takes-some n v h = rw (le-leb 1 (length (writes_on z f m)) (some _ (λ d. h (v ∙ d)))) (or-true (eqb (length f) 0))

-- a transaction that has words
words-some : (f : List ℕ) (w : ℕ) → length (w ∷ f) ≡ 0 → ⊥
words-some f w e = omega arith

module _ (z : Sizes) (L : ℕ) (m : Machine) where
  abbrev causes_after : List ℕ → (takes : Bool) → List Cause
  causes_after f takes =
      record { number = 8; holds = takes && spent m.state }
      ∷ record { number = 15; holds = takes && would_lag z L m }
      ∷ record { number = 9; holds = takes && would_hit z L (length (writes_on z f m) + 1) m }
      ∷ []

  -- the refusals of both kinds of Log as one list
  log_is : (f : List ℕ) → log_refusal z L f m
      ≡ first_cause
      (bad_buffers z m
      ∷ bad_record z m
      ∷ bad_lane z L
      ∷ bad_words z f
      ∷ already_logged L m
      ∷ lock_held m
      ∷ causes_after f (takes_stamp z f m))
  unfolding log_refusal_by log_txn_refusal_by settle_refusal takes_stamp first_cause bad_txn clock_spent writes_on
  log_is [] = rw (run_none z.words (data_of z m.cache))
  log_is (w ∷ f) = rw (ne_eqb (length (w ∷ f)) 0 (words-some f w))

module _ (z : Sizes) (L : ℕ) (f : List ℕ) (m : Machine) where
  log-unless : (log_checks z L f m ≡ 0 → ⊥) → log_refusal z L f m ≡ log_checks z L f m
  unfolding log_checks
  log-unless h =
      log_is z L m f
      ∙ first_more
      (bad_buffers z m
      ∷ bad_record z m
      ∷ bad_lane z L
      ∷ bad_words z f
      ∷ already_logged L m
      ∷ lock_held m
      ∷ []) _ h

  pub log-refused : (number : ℕ) → number ≡ log_checks z L f m → (number ≡ 0 → ⊥) → number ≡ log_refusal z L f m
  log-refused number e h = e ∙ sym (log-unless (λ d. h (e ∙ d)))

  log-checked : log_refusal z L f m ≡ 0 → log_checks z L f m ≡ 0
  log-checked h = elim (ℕ_discrete (log_checks z L f m) 0) [ yes e ↦ e | no d ↦ absurd (d (sym (log-unless d) ∙ h)) ]

  -- what the checks say where they find nothing
  pub record Unrefused : Type 0 where
    pub at-lane : drain_refusal z L m ≡ 0
    pub txn-ok : (length f ≡ 0 → ⊥) → txn_ok max_writes z.words f ≡ true
    pub idle : is_logged (lane_at m.state L).phase ≡ false
    pub free : is_held m.state.lock ≡ false

  pub unrefused : log_checks z L f m ≡ 0 → Unrefused
  unfolding log_checks already_logged lock_held
  unrefused h =
      let a = lane-passed z L m _ h in
      let b = first-none _ _ (λ e. omega arith) a.1 in
      let c = first-none _ _ (λ e. omega arith) b.1 in
      let d = first-none _ _ (λ e. omega arith) c.1 in
      let t : (bad_words z f).holds ≡ false = b.0 in
      record {
        at-lane = a.0;
        txn-ok = λ n. not-false (txn_ok max_writes z.words f) (rw (ne_eqb (length f) 0 n) at t);
        idle = c.0;
        free = d.0;
      }

  -- the causes that are left then
  log-left : Unrefused → log_refusal z L f m ≡ first_cause (causes_after z L m f (takes_stamp z f m))
  unfolding already_logged lock_held
  log-left u =
      log_is z L m f
      ∙ after-lane z L m _ u.at-lane
      ∙ first-fails _ _ (txn-passes z f u.txn-ok)
      ∙ first-fails _ _ u.idle
      ∙ first-fails _ _ u.free

  module _ (u : Unrefused) (n : ℕ) (v : n ≡ length (writes_on z f m)) where
    -- none, where the transaction writes nothing
    log-nothing : (length f ≡ 0 → ⊥) → n ≡ 0 → 0 ≡ log_refusal z L f m
    unfolding takes_stamp
    log-nothing h e =
        let d : length (writes_on z f m) ≡ 0 = sym v ∙ e in
        let t : takes_stamp z f m ≡ false = rw (ne_eqb (length f) 0 h, d) in
        sym (log-left u ∙ first-fails _ _ (rw t) ∙ first-fails _ _ (rw t) ∙ first-fails _ _ (rw t) ∙ first-end)

    -- where it writes, or there are no words, those of an append
    log-asked : takes_stamp z f m ≡ true → room_refusal z m.state m.cache L (n + 1) true ≡ log_refusal z L f m
    unfolding clock_spent
    log-asked t = rw v (room_bound z L (length (writes_on z f m) + 1) m ∙ sym (log-left u ∙ rw t))

    pub log-room : (settles : Bool) → settles ≡ eqb (length f) 0 → log_room z m.state m.cache L settles n ≡ log_refusal z L f m
    unfolding log_room
    log-room settles s =
        split (eqb (length f) 0)
        (λ t. rw (s, t) (log-asked (takes_none z f m (eqb-true (length f) 0 t))))
        (λ t. split (eqb n 0)
        (λ h. rw (s, t, h) (log-nothing (eqb-false (length f) 0 t) (eqb-true n 0 h)))
        (λ h. rw (s, t, h) (log-asked (takes-some z f m n v (eqb-false n 0 h)))))

  log-unspent : log_refusal z L f m ≡ 0 → takes_stamp z f m ≡ true → spent m.state ≡ false
  log-unspent e t =
      let a = first-none _ _ (λ d. omega arith) (sym (log-left (unrefused (log-checked e))) ∙ e) in
      let b : (takes_stamp z f m && spent m.state) ≡ false = a.0 in
      rw t at b

-- ---- Mark's refusals
module _ (z : Sizes) (L : ℕ) (m : Machine) where
  pub mark-refused : (number : ℕ) → number ≡ drain_refusal z L m → (number ≡ 0 → ⊥) → number ≡ mark_refusal z L m
  unfolding mark_refusal
  mark-refused number e h = e ∙ sym (at-lane z L m _ (λ d. h (e ∙ d)))

  -- 11 where the lock is held; else those of an append
  module _ (h : drain_refusal z L m ≡ 0) where
    pub mark-held : is_held m.state.lock ≡ true → 11 ≡ mark_refusal z L m
    unfolding mark_refusal lock_held
    mark-held l = sym (after-lane z L m _ h ∙ first_holds _ _ l)

    pub mark-room : (number : ℕ) → is_held m.state.lock ≡ false → number ≡ room_refusal z m.state m.cache L 1 false → number ≡ mark_refusal z L m
    unfolding mark_refusal lock_held
    mark-room number l r = r ∙ room-unbound z L 1 m ∙ sym (after-lane z L m _ h ∙ first-fails _ _ l)

  pub mark-lane : mark_refusal z L m ≡ 0 → drain_refusal z L m ≡ 0
  unfolding mark_refusal
  mark-lane e = (lane-passed z L m _ e).0

  mark-unspent : mark_refusal z L m ≡ 0 → spent m.state ≡ false
  unfolding mark_refusal lock_held clock_spent
  mark-unspent e = (first-none _ _ (λ d. omega arith) (first-none _ _ (λ d. omega arith) (lane-passed z L m _ e).1).1).0

-- a refused call's plan
pub planned-err : (refusal : ℕ) (q : Option Sequence) (r : Result (Option Sequence) Refusal) (e : Refusal) → IsErrAnd r (λ x. x ≡ e)
    → refusal_of (Err e) ≡ refusal → Planned r refusal q
planned-err refusal q (Ok l) e p h = elim p [ ]
planned-err refusal q (Err x) e p h = rw p h

-- ---- what a call knows that is not refused 1, 2 or 3: its lane is in range
pub lane_inside : (z : Sizes) (L : ℕ) (ws : List ℕ) → sizes_ok z ≡ true → L < z.lanes → L < length (record_of ws).lanes
lane_inside z L ws ok h = omega (arith, lane-small z L ok h, lanes-read ws)

module _ (z : Sizes) (state : Record) (pairs cache nvm flags : List ℕ) (L : ℕ) (k : Checked z state pairs cache nvm flags L)
    (eight : length state.lanes ≡ max_lanes) where
  pub lane-held : LaneIn z state.clock (lane_at state L)
  lane-held = lane-in z _ _
      ((record-in z state pairs k.in-range).lanes L k.lane_below (omega (arith, lane-small z L k.image.sizes-ok k.lane_below)))

  pub searchable : (q : Option Sequence) (n : ℕ) → q ≡ latest_in z cache L → 1 ≤ n → n + max_entries ≤ z.slots → Searchable z state q cache L n
  searchable q n f h g = record {
    image = k.image;
    lane_below = k.lane_below;
    found = f;
    next = lane-held.next;
    least = h;
    most = g;
  }

-- ---- what a call knows that appends these writes: no refusal, and the lane's latest sequence
pub record Known (z : Sizes) (state : Record) (pairs cache nvm flags : List ℕ) (L : ℕ) (ws : List Write) (w : List Write) (q : Option Sequence) : Type 0 where
  pub checked : Checked z state pairs cache nvm flags L
  pub small : L < max_lanes
  pub writes : w ≡ ws
  pub few : length ws ≤ max_writes
  pub low : WordsBelow max_words ws
  pub latest : q ≡ latest_in z cache L

-- the writes of a transaction that is ok are few, and all to words that there are; no words write nothing
run-bounds : (z : Sizes) (f : List ℕ) (m : Machine) → z.words ≤ max_words → ((length f ≡ 0 → ⊥) → txn_ok max_writes z.words f ≡ true)
    → (length (writes_on z f m) ≤ max_writes) × WordsBelow max_words (writes_on z f m)
unfolding writes_on
run-bounds z [] m l ok = rw (run_none z.words (data_of z m.cache)) (omega arith, none)
run-bounds z (w ∷ f) m l ok = (
  few-writes current max_writes z.words (w ∷ f) (data_of z m.cache) (ok (words-some f w)),
  All-map (λ x h. omega arith) (run-low current max_writes z.words (w ∷ f) (data_of z m.cache) (ok (words-some f w))),
)

few-counted : (z : Sizes) (L : ℕ) (f : List ℕ) (m : Machine) (n : ℕ) → n ≡ length (writes_on z f m) → z.words ≤ max_words → Unrefused z L f m
    → n ≤ max_writes
few-counted z L f m n v l u = rw v (run-bounds z f m l u.txn-ok).0

-- as many as the calls' refusals and steps speak of
pub count-on : (z : Sizes) (f : List ℕ) (n : ℕ) (state : Record) (pairs cache nvm flags : List ℕ) → n ≡ length (run z.words f (data_of z cache))
    → n ≡ length (writes_on z f (machine_of state pairs cache nvm flags))
unfolding writes_on
count-on z f n state pairs cache nvm flags e = e

-- no words
no_words : (f : List ℕ) → length f ≡ 0 → f ≡ []
no_words [] n = refl
no_words (x ∷ f) n = absurd (words-some f x n)

pub count_none : (W : ℕ) (f ws : List ℕ) → length f ≡ 0 → 0 ≡ length (run W f ws)
count_none W [] ws n = rw (run_none W ws)
count_none W (x ∷ f) ws n = absurd (words-some f x n)

-- Log of no words
module _ (z : Sizes) (L : ℕ) (f : List ℕ) (m : Machine) (n : length f ≡ 0) where
  pub settle-checks : (number : ℕ) → number ≡ log_checks z L f m → number ≡ 0 → log_checks z L [] m ≡ 0
  settle-checks number e h = rw (no_words f n) at (sym e ∙ h)

  pub settle-step : log_step z L [] m ≡ log_step z L f m
  settle-step = rw (no_words f n)

pub settle-count : (z : Sizes) (m : Machine) → 0 ≡ length (writes_on z [] m)
unfolding writes_on
settle-count z m = count_none z.words [] (data_of z m.cache) refl

-- what the plan's search needs, of a Log that its checks do not refuse
pub log-searchable : (z : Sizes) (L : ℕ) (f : List ℕ) (state : Record) (pairs cache nvm flags : List ℕ) (n : ℕ) → length state.lanes ≡ max_lanes
    → log_checks z L f (machine_of state pairs cache nvm flags) ≡ 0 → n ≡ length (writes_on z f (machine_of state pairs cache nvm flags))
    → Searchable z state (latest_in z cache L) cache L (n + 1)
log-searchable z L f state pairs cache nvm flags n eight h v =
    let u = unrefused z L f (machine_of state pairs cache nvm flags) h in
    let k = checked z state pairs cache nvm flags L u.at-lane in
    let s = sizes-in z k.image.sizes-ok in
    searchable z state pairs cache nvm flags L k eight _ (n + 1) refl (omega arith)
    (omega (arith, few-counted z L f (machine_of state pairs cache nvm flags) n v s.words-high u, s.slots-low))

module _ (z : Sizes) (state : Record) (pairs cache nvm flags : List ℕ) (L : ℕ) (w : List Write) (q : Option Sequence) (found : q ≡ latest_in z cache L) where
  pub log-known : (f : List ℕ) → log_checks z L f (machine_of state pairs cache nvm flags) ≡ 0
      → w ≡ writes_on z f (machine_of state pairs cache nvm flags)
      → Known z state pairs cache nvm flags L (writes_on z f (machine_of state pairs cache nvm flags)) w q
  log-known f e v =
      let u = unrefused z L f (machine_of state pairs cache nvm flags) e in
      let k = checked z state pairs cache nvm flags L u.at-lane in
      let b = run-bounds z f (machine_of state pairs cache nvm flags) (sizes-in z k.image.sizes-ok).words-high u.txn-ok in
      record {
        checked = k;
        small = lane-small z L k.image.sizes-ok k.lane_below;
        writes = v;
        few = b.0;
        low = b.1;
        latest = found;
      }

  -- no writes
  none-known : drain_refusal z L (machine_of state pairs cache nvm flags) ≡ 0 → w ≡ [] → Known z state pairs cache nvm flags L [] w q
  none-known e v =
      let k = checked z state pairs cache nvm flags L e in
      record {
        checked = k;
        small = lane-small z L k.image.sizes-ok k.lane_below;
        writes = v;
        few = omega arith;
        low = none;
        latest = found;
      }

  module _ (ws : List Write) (k : Known z state pairs cache nvm flags L ws w q) where
    -- the clock has room for a timestamp where refusal 8 is ruled out
    clock-free : spent state ≡ false → state.clock + 3 < 2 ^ 64
    clock-free h = clock-room state h (record-in z state pairs k.checked.in-range).clock

    after-drain : length state.lanes ≡ max_lanes → state.clock + 3 < 2 ^ 64 → (flags' : List ℕ) → flags' ≡ drained_flags L flags
        → AfterDrain z state q cache flags' L w
    unfolding drained_flags cursor_of
    after-drain eight h flags' e =
        let l = lane-held z state pairs cache nvm flags L k.checked eight in
        record {
          found = k.latest;
          appendable = record {
            image = k.checked.image;
            same_flags = ap length e ∙ length-map flags _ ∙ k.checked.same_flags;
            lane_below = k.checked.lane_below;
            place = record { slot = l.next; wrap = l.wrap };
            room = omega (arith, h);
            writes = record {
              few = rw k.writes k.few;
              low = rw k.writes k.low;
            };
          };
        }

  pub log-after : (f : List ℕ) → Known z state pairs cache nvm flags L (writes_on z f (machine_of state pairs cache nvm flags)) w q
      → log_refusal z L f (machine_of state pairs cache nvm flags) ≡ 0 → (length w ≡ 0 → ⊥) → length state.lanes ≡ max_lanes → (flags' : List ℕ)
      → flags' ≡ drained_flags L flags → AfterDrain z state q cache flags' L w
  log-after f k e h eight flags' d =
      after-drain _ k eight
      (clock-free _ k
      (log-unspent z L f (machine_of state pairs cache nvm flags) e
      (takes-some z f (machine_of state pairs cache nvm flags) _ (ap length k.writes) h))) flags' d

-- a mark may be appended
module _ (z : Sizes) (state : Record) (pairs cache nvm flags : List ℕ) (L : ℕ) (q : Option Sequence) (found : q ≡ latest_in z cache L) where
  mark-may : drain_refusal z L (machine_of state pairs cache nvm flags) ≡ 0 → spent state ≡ false → length state.lanes ≡ max_lanes → (flags' : List ℕ)
      → flags' ≡ drained_flags L flags → AfterDrain z state q cache flags' L []
  mark-may e s eight flags' d =
      let k = none-known z state pairs cache nvm flags L [] q found e refl in
      after-drain z state pairs cache nvm flags L [] q found [] k eight (clock-free z state pairs cache nvm flags L [] q found [] k s) flags' d

  -- by Log of no words
  pub settle-after : log_refusal z L [] (machine_of state pairs cache nvm flags) ≡ 0 → length state.lanes ≡ max_lanes → (flags' : List ℕ)
      → flags' ≡ drained_flags L flags → AfterDrain z state q cache flags' L []
  settle-after e =
      let m = machine_of state pairs cache nvm flags in
      mark-may (unrefused z L [] m (log-checked z L [] m e)).at-lane (log-unspent z L [] m e (takes_none z [] m refl))

  -- by Mark
  pub mark-after : mark_refusal z L (machine_of state pairs cache nvm flags) ≡ 0 → length state.lanes ≡ max_lanes → (flags' : List ℕ)
      → flags' ≡ drained_flags L flags → AfterDrain z state q cache flags' L []
  mark-after e =
      let m = machine_of state pairs cache nvm flags in
      mark-may (mark-lane z L m e) (mark-unspent z L m e)

-- ---- an append
-- where it starts: the lane's log, which is within the buffers
pub append_at : (z : Sizes) (c : Cursor) (cache flags : List ℕ) (L : ℕ) (w : List Write) (s start : ℕ) → Appendable z c cache flags L w s
    → start ≡ log_start z L → LogAt start z.slots L cache flags
append_at z c cache flags L w s start a e = record {
  slots-high = (sizes-in z a.image.sizes-ok).slots-high;
  in-cache = omega (arith, e, log-fits z L a.lane_below, a.image.in_image);
  in-flags = omega (arith, e, log-fits z L a.lane_below, a.image.in_image, a.same_flags);
  lane-high = lane-small z L a.image.sizes-ok a.lane_below;
}

-- the record that it leaves, as it is stored: the clock, then the lane without its redo log
pub appended-words : (r r₁ r₂ : Record) (ws : List ℕ) (L : ℕ) (q : Option Sequence) (s : ℕ) (end : Cursor) (phase : Phase) (old mid floor : Option ℕ)
    → old ≡ (lane_at r L).floor → mid ≡ floor_after_drain q old → floor ≡ floor_after_append s mid → r₁ ≡ with_clock r s
    → r₂ ≡ with_lane r₁ L (headed phase end floor (lane_at r₁ L)) → ws ≡ words_of r₂ → ws ≡ words_of (appended_state r L q s end phase)
unfolding appended_state headed appended_lane drained_lane with_clock lane_at
appended-words r r₁ r₂ ws L q s end phase old mid floor e₁ e₂ e₃ e₄ e₅ e₆ = e₆ ∙ rw (e₅, e₄, e₃, e₂, e₁)

-- a lane that was set
lane-set : (r : Record) (L : ℕ) (l : Lane) → L < length r.lanes → lane_at (with_lane r L l) L ≡ l
unfolding lane_at with_lane
lane-set r L l h = get_or-set_same r.lanes L l no_lane h

-- the record where the redo log was stored before it
redone-first : (r r₁ : Record) (L : ℕ) (q : Option Sequence) (s : ℕ) (end : Cursor) (phase : Phase) (redo : List Pair) → L < length r.lanes
    → r₁ ≡ with_lane r L (redone redo (lane_at r L))
    → appended_state r₁ L q s end phase ≡ with_lane (with_clock r s) L (appended_lane s end phase redo (drained_lane q (lane_at r L)))
unfolding appended_state redone appended_lane drained_lane
redone-first r r₁ L q s end phase redo h e =
    let l = redone redo (lane_at r L) in
    rw (e, lane-set r L l h, clock-lane r s L l)
    (lane-twice (with_clock r s) L l (appended_lane s end phase redo (drained_lane q (lane_at r L))))

-- on a drained machine
append-machine : (z : Sizes) (L : ℕ) (phase : Phase) (redo : List Pair) (d : Record) (pairs cache nvm flags : List ℕ) (w : List Write)
    → (s : ℕ) (cursor end : Cursor) (r₂ : Record) (cache' flags' : List ℕ) → s ≡ d.clock + 2 → cursor ≡ cursor_of (lane_at d L)
    → end ≡ advance z.slots (length w + 1) cursor → r₂ ≡ with_lane (with_clock d s) L (appended_lane s end phase redo (lane_at d L))
    → cache' ≡ stored (append_stores (log_start z L) z.slots s cursor w) cache
    → flags' ≡ flush_all L (places (append_stores (log_start z L) z.slots s cursor w)) flags
    → machine_of r₂ pairs cache' nvm flags' ≡ appended z L w phase redo (machine_of d pairs cache nvm flags)
unfolding appended changed
append-machine z L phase redo d pairs cache nvm flags w s cursor end r₂ cache' flags' e₁ e₂ e₃ e₄ e₅ e₆ =
    rw (e₄, e₃, e₆, e₅, e₂, e₁)

-- the record before the drain, with its clock and its lane changed, is the drained one so changed
module _ (z : Sizes) (L : ℕ) (r : Record) (q : Option Sequence) (cache : List ℕ) (f : q ≡ latest_in z cache L) (small : L < length r.lanes) where
  changed-once : (s : ℕ) (after : Lane) → with_lane (with_clock r s) L after ≡ with_lane (with_clock (drained_state z cache L r) s) L after
  unfolding drained_state
  changed-once s after =
      sym (rw (clock-lane r s L (drained_lane (latest_in z cache L) (lane_at r L)))
      (lane-twice (with_clock r s) L (drained_lane (latest_in z cache L) (lane_at r L)) after))

  lane-drained : drained_lane q (lane_at r L) ≡ lane_at (drained_state z cache L r) L
  lane-drained = rw f (sym (drained-lane z cache L r small))

  cursor-drained : cursor_of (lane_at r L) ≡ cursor_of (lane_at (drained_state z cache L r) L)
  unfolding cursor_of
  cursor-drained = rw ((drained-keeps z cache L r).next, (drained-keeps z cache L r).wrap)

  -- what an append leaves, from the lane's cursor at the next timestamp
  module _ (pairs nvm flags : List ℕ) (w : List Write) (s : ℕ) (cursor end : Cursor) (cache' flags' : List ℕ)
      (e₁ : s ≡ r.clock + 2) (e₂ : cursor ≡ cursor_of (lane_at r L)) (e₃ : end ≡ advance z.slots (length w + 1) cursor)
      (e₄ : cache' ≡ stored (append_stores (log_start z L) z.slots s cursor w) cache)
      (e₅ : flags' ≡ flush_all L (places (append_stores (log_start z L) z.slots s cursor w)) flags) where
    appended-by : (phase : Phase) (redo : List Pair) (r₂ : Record)
        → r₂ ≡ with_lane (with_clock r s) L (appended_lane s end phase redo (drained_lane q (lane_at r L)))
        → machine_of r₂ pairs cache' nvm flags'
        ≡ appended z L w phase redo (machine_of (drained_state z cache L r) pairs cache nvm flags)
    appended-by phase redo r₂ e =
        append-machine z L phase redo (drained_state z cache L r) pairs cache nvm flags w s cursor end r₂ cache' flags'
        (e₁ ∙ ap (λ (k : ℕ). k + 2) (sym (drained-clock z cache L r))) (e₂ ∙ cursor-drained) e₃
        (e ∙ changed-once s _ ∙ ap (λ (l : Lane). with_lane (with_clock (drained_state z cache L r) s) L (appended_lane s end phase redo l)) lane-drained) e₄ e₅

    -- a mark
    mark-by : (answer : Answer) (machine : Machine) → w ≡ []
        → machine ≡ appended z L w None (lane_at r L).redo (machine_of (drained_state z cache L r) pairs cache nvm flags)
        → record { answer = answer; machine = machine } ≡ marked_step z L answer (machine_of (drained_state z cache L r) pairs cache nvm flags)
    unfolding marked_step
    mark-by answer machine v a = rw (a, v, (drained-keeps z cache L r).redo)

    pub marks : (before ws : List ℕ) (answer : Answer) → (said answer).number ≡ 0 → w ≡ []
        → ws ≡ words_of (appended_state r L q s end None)
        → kept_by answer (ws ++ pairs) cache' nvm flags'
        ≡ keeps before (marked_step z L answer (machine_of (drained_state z cache L r) pairs cache nvm flags))
    unfolding appended_state
    marks before ws answer t v e =
        let r₂ = appended_state r L q s end None in
        keeps-taken before answer r₂ ws pairs cache' nvm flags' _
        (mark-by answer (machine_of r₂ pairs cache' nvm flags') v (appended-by None (lane_at r L).redo r₂ refl)) t e

    -- Log of a transaction that writes
    log-by : (redo : List Pair) (machine : Machine) → redo ≡ pairs_of max_writes w
        → machine ≡ appended z L w (Some (record { first = cursor.slot; count = length w; stamp = s })) redo
        (machine_of (drained_state z cache L r) pairs cache nvm flags)
        → record { answer = Logged (record { count = length w; stamp = s }); machine = machine }
        ≡ logged_step z L w (machine_of (drained_state z cache L r) pairs cache nvm flags)
    unfolding logged_step logged cursor_of
    log-by redo machine g a =
        rw (a, g, e₂, e₁, (drained-keeps z cache L r).next, drained-clock z cache L r)

    pub logs : (before ws : List ℕ) (r₁ : Record) (redo : List Pair) → redo ≡ pairs_of max_writes w
        → r₁ ≡ with_lane r L (redone redo (lane_at r L))
        → ws ≡ words_of (appended_state r₁ L q s end (Some (record { first = cursor.slot; count = length w; stamp = s })))
        → kept_by (Logged (record { count = length w; stamp = s })) (ws ++ pairs) cache' nvm flags'
        ≡ keeps before (logged_step z L w (machine_of (drained_state z cache L r) pairs cache nvm flags))
    unfolding said
    logs before ws r₁ redo g e d =
        let phase = Some (record { first = cursor.slot; count = length w; stamp = s }) in
        let r₂ = appended_state r₁ L q s end phase in
        keeps-taken before _ r₂ ws pairs cache' nvm flags' _
        (log-by redo (machine_of r₂ pairs cache' nvm flags') g (appended-by phase redo r₂ (redone-first r r₁ L q s end phase redo small e))) refl d

-- ---- steps, from the plan and from what the drain and the append leave
-- Log of a transaction that has words, once it is taken
abbrev written_step : Sizes → ℕ → List ℕ → Machine → Step
written_step z L f m =
    let ws = writes_on z f m in
    cond (eqb (length ws) 0)
    (record { answer = NoWrites; machine = drained z L m })
    (record { answer = Logged (record { count = length ws; stamp = m.state.clock + 2 }); machine = logged z L ws (drained z L m) })

-- a refused call
pub refuses : (state cache nvm flags : List ℕ) (number refusal : ℕ) (step : Step) → number ≡ refusal → (number ≡ 0 → ⊥)
    → kept_by (Refused number) state cache nvm flags ≡ keeps state (unless refusal (machine_in state cache nvm flags) step)
refuses state cache nvm flags number refusal step e h =
    keeps-refused number state cache nvm flags step h ∙ ap (λ (k : ℕ). keeps state (unless k (machine_in state cache nvm flags) step)) e

pub log-refuses : (z : Sizes) (L : ℕ) (f state cache nvm flags : List ℕ) (number : ℕ) → number ≡ log_refusal z L f (machine_in state cache nvm flags)
    → (number ≡ 0 → ⊥) → kept_by (Refused number) state cache nvm flags ≡ keeps state (log_step z L f (machine_in state cache nvm flags))
unfolding log_refusal_by log_step_by settle_step log_txn_step_by
log-refuses z L [] state cache nvm flags number e h = refuses state cache nvm flags number _ _ e h
log-refuses z L (w ∷ f) state cache nvm flags number e h = refuses state cache nvm flags number _ _ e h

module _ (z : Sizes) (L : ℕ) (state : Record) (pairs cache nvm flags nvm' flags' : List ℕ) (f₁ : nvm' ≡ drained_nvm L flags cache nvm)
    (f₂ : flags' ≡ drained_flags L flags) where
  now-drained : machine_of (drained_state z cache L state) pairs cache nvm' flags' ≡ drained z L (machine_of state pairs cache nvm flags)
  now-drained = drained-by z L state pairs cache nvm flags (drained_state z cache L state) nvm' flags' refl f₁ f₂

  -- a mark on the drained machine
  marked-is : (answer : Answer) → marked_step z L answer (machine_of (drained_state z cache L state) pairs cache nvm' flags')
      ≡ record { answer = answer; machine = marked z L (machine_of state pairs cache nvm flags) }
  unfolding marked_step
  marked-is answer = rw ((drained-keeps z cache L state).redo, now-drained)

  -- Log of no words settles the lane
  pub log-settles : log_refusal z L [] (machine_of state pairs cache nvm flags) ≡ 0 → (s : ℕ) → s ≡ state.clock + 2
      → marked_step z L (Settled s) (machine_of (drained_state z cache L state) pairs cache nvm' flags') ≡ log_step z L [] (machine_of state pairs cache nvm flags)
  unfolding log_refusal_by log_step_by settle_step
  log-settles e s c = rw c (marked-is (Settled (state.clock + 2)) ∙ step-taken _ _ _ _ refl e)

  -- a Log of words that is taken
  taken-some : (f : List ℕ) → (length f ≡ 0 → ⊥) → log_refusal z L f (machine_of state pairs cache nvm flags) ≡ 0 → (step : Step)
      → step ≡ written_step z L f (machine_of state pairs cache nvm flags) → step ≡ log_step z L f (machine_of state pairs cache nvm flags)
  unfolding log_refusal_by log_step_by log_txn_step_by
  taken-some [] n e step a = absurd (n refl)
  taken-some (w ∷ f) n e step a = a ∙ step-taken _ _ _ _ refl e

  module _ (f : List ℕ) (w : List Write) (q : Option Sequence) (k : Known z state pairs cache nvm flags L (writes_on z f (machine_of state pairs cache nvm flags)) w q)
      (e : log_refusal z L f (machine_of state pairs cache nvm flags) ≡ 0) (n : length f ≡ 0 → ⊥) where
    -- a transaction that writes nothing drains its lane
    pub log-drains : (before ws : List ℕ) → ws ≡ words_of (with_lane state L (drained_lane q (lane_at state L))) → length w ≡ 0
        → kept_by NoWrites (ws ++ pairs) cache nvm' flags' ≡ keeps before (log_step z L f (machine_of state pairs cache nvm flags))
    unfolding said drained_state
    log-drains before ws d h =
        keeps-taken before NoWrites (drained_state z cache L state) ws pairs cache nvm' flags' _
        (rw now-drained (taken-some f n e _ (rw (sym (ap length k.writes) ∙ h)))) refl
        (d ∙ rw k.latest)

    -- one that writes appends to it
    pub log-writes : (length w ≡ 0 → ⊥)
        → logged_step z L w (machine_of (drained_state z cache L state) pairs cache nvm' flags')
        ≡ log_step z L f (machine_of state pairs cache nvm flags)
    unfolding logged_step
    log-writes h =
        let c = ap length k.writes in
        taken-some f n e _
        (rw (
          k.writes,
          now-drained,
          drained-state z L (machine_of state pairs cache nvm flags),
          drained-clock z cache L state,
          ne_eqb (length (writes_on z f (machine_of state pairs cache nvm flags))) 0 (λ d. h (c ∙ d)),
        ))

  -- a Mark
  pub mark-taken : mark_refusal z L (machine_of state pairs cache nvm flags) ≡ 0 → (s : ℕ) (phase : Phase) (dropped : Bool)
      → s ≡ state.clock + 2 → phase ≡ (lane_at state L).phase → dropped ≡ is_logged phase
      → marked_step z L (Marked (record { stamp = s; dropped = dropped })) (machine_of (drained_state z cache L state) pairs cache nvm' flags')
      ≡ mark_step z L (machine_of state pairs cache nvm flags)
  unfolding mark_step
  mark-taken e s phase dropped c h d = rw (c, d, h) (marked-is _ ∙ step-taken _ _ _ _ refl e)
