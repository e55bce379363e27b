-- Inner: how the code goes, need not be believed. Laws of Lock and Continue: a law for each return of their checks, of Lock's plan and of their steps; what
-- they know where they are not refused. Assumes nothing.
use Rattle.std.specs.Prelude.{ℕ, ◌+◌, ◌-◌, ◌/◌, ◌^◌, ◌≤◌, ◌<◌, ◌≡◌, Bool, true, false, cond, ◌&&◌, List, [], ◌∷◌, ◌++◌, leb, eqb, take, drop, Option, Some, None, Result, Ok, Err, IsErrAnd}
use Rattle.std.proofs.Math.Path.{refl, sym, ap}
use Rattle.std.proofs.Common.{length-append, ◌∙◌, append-nil, arith, length-drop, drop_of_length-le, take_at, drop_at}
use Rattle.std.proofs.Math.Decide.{ℕ_discrete}
use Rattle.std.proofs.Math.ListN.{length}
use borrow.Rule.Slice.PartMut.{put_mid}
use borrow.Author.Tests.{eq-eqb, ne_eqb, eqb-true, le-leb, lt-ltb, le-ltb, ltb-false, not-false}
use Rattle.laws.specs.inner.Tests.{split}
use Rattle.txn.specs.Txn.{max_writes, max_long, current, txn_ok}
use Rattle.txn.specs.inner.CheckLaws.{ok-some}
use Rattle.txn.specs.declared.Write.{Write}
use Rattle.image.specs.Image.{max_words, max_lanes, data_of, log_start}
use Rattle.image.specs.inner.Facts.{IsImage}
use Rattle.image.specs.inner.ImageLaws.{sizes-in}
use Rattle.image.specs.Flush.{flush_all, drained_nvm, drained_flags}
use Rattle.image.specs.inner.FlushLaws.{length-drained_flags}
use Rattle.image.specs.Stores.{stored, places}
use Rattle.image.specs.declared.Sizes.{Sizes}
use Rattle.lane_log.specs.Log.{latest_in}
use Rattle.lane_log.specs.Append.{advance, append_stores}
use Rattle.lane_log.specs.inner.AppendEntries.{Loggable}
use Rattle.lane_log.specs.declared.Cursor.{Cursor}
use Rattle.record.specs.Record.{lane_at, cursor_of, is_logged, lock_length, pairs_from, is_held, locked_in, part_length, pairs_ok, spent, pairs_of, words_of_pairs}
use Rattle.record.specs.Record.{with_lane, with_clock, with_last, with_lock, floor_after_drain, floor_after_append, drained_lane, appended_lane}
use Rattle.record.specs.inner.RecordLaws.{HeldIn, held_in, record-in, part-most, part-few, clock-next, lane-twice}
use Rattle.record.specs.declared.Locked.{Locked}
use Rattle.record.specs.declared.Pair.{Pair}
use Rattle.record.specs.declared.Record.{Record}
use Rattle.codec.specs.Fields.{record_length, state_length, record_in, pairs_in, words_of}
use Rattle.codec.specs.inner.FieldsLaws.{tail-is}
use Rattle.codec.specs.inner.InPlace.{headed}
use Rattle.codec.specs.inner.ReadLaws.{lanes-read}
use Rattle.store.specs.Answers as answer
use Rattle.store.specs.declared.Refusal.{Refusal}
use Rattle.store.specs.Machine.{Machine, Step, Cause, first_cause, said}
use Rattle.store.specs.Calls.{bad_buffers, bad_record, bad_lane, bad_txn, already_logged, lock_held, clock_spent, drain_refusal, drained, changed, would_lag, would_hit}
use Rattle.store.specs.Calls.{writes_on, pair_stores}
use Rattle.store.specs.Locks.{slots_counted, lock_refusal, locked, lock_step, proceed_refusal, part_of, pair_writes, part_logged, part_written_state, part_written}
use Rattle.store.specs.Locks.{next_step, proceed_step}
use Rattle.store.specs.Interface.{machine_of, machine_in, kept_by, keeps, refusal_of}
use Rattle.store.specs.inner.Checked.{Checked, drained_state}
use Rattle.store.specs.inner.StoreLaws.{first_holds, first-fails, first-none, first-end, refuses-txn, passes-txn, checked, lane-small, at-lane, after-lane}
use Rattle.store.specs.inner.StoreLaws.{lane-passed, step-taken, drained-by, drained-lane}
use Rattle.store.specs.inner.KeepsLaws.{keeps-taken, pairs-long, record-long}
use Rattle.store.specs.inner.CachedWritesLaws.{data-part}
use Rattle.append.specs.inner.Plans.{room_refusal, Searchable, Appendable}
use Rattle.commit.specs.inner.Commit.{PairsInside}
use Rattle.append.specs.inner.LogMarkLaws.{room_bound, first_more, some, lane-held, searchable, refuses}
use Rattle.lock.specs.declared.Plan.{Plan}
use Rattle.lock.specs.inner.Parts.{too_many, lock_checks, Found, Planned, taken_state, PairsHeld, logged_held, logged_state, PartAt, logged_step, written_step}
use Rattle.lock.specs.inner.PartsLaws.{length_pairs, length-writes, writes-low, part-inside, part-ok, part-words}
use Rattle.lane_log.specs.declared.Sequence.{Sequence}

-- ---- Lock's refusals before it runs the transaction
module _ (z : Sizes) (L : ℕ) (f : List ℕ) (m : Machine) where
  pub checks-lane : (number : ℕ) → number ≡ drain_refusal z L m → (number ≡ 0 → ⊥) → number ≡ lock_checks z L f m
  unfolding lock_checks
  checks-lane number e h = e ∙ sym (at-lane z L m _ (λ d. h (e ∙ d)))

  module _ (e : drain_refusal z L m ≡ 0) where
    pub checks-txn : txn_ok max_long z.words f ≡ false → 5 ≡ lock_checks z L f m
    unfolding lock_checks
    checks-txn h = sym (after-lane z L m _ e ∙ refuses-txn _ max_long z f h)

    module _ (h : txn_ok max_long z.words f ≡ true) where
      pub checks-logged : is_logged (lane_at m.state L).phase ≡ true → 6 ≡ lock_checks z L f m
      unfolding lock_checks already_logged
      checks-logged g = sym (after-lane z L m _ e ∙ passes-txn _ max_long z f h ∙ first_holds _ _ g)

      module _ (g : is_logged (lane_at m.state L).phase ≡ false) where
        pub checks-held : is_held m.state.lock ≡ true → 11 ≡ lock_checks z L f m
        unfolding lock_checks already_logged lock_held
        checks-held l = sym (after-lane z L m _ e ∙ passes-txn _ max_long z f h ∙ first-fails _ _ g ∙ first_holds _ _ l)

        module _ (l : is_held m.state.lock ≡ false) (n : ℕ) (c : n ≡ length f / 4 + (length f / 4 + 15) / 16) where
          pub checks-many : z.slots - 17 < n → 12 ≡ lock_checks z L f m
          unfolding lock_checks already_logged lock_held slots_counted
          checks-many b =
              sym (after-lane z L m _ e
              ∙ passes-txn _ max_long z f h
              ∙ first-fails _ _ g
              ∙ first-fails _ _ l
              ∙ first_holds _ _ (lt-ltb _ _ (rw c at b)))

          pub checks-none : n ≤ z.slots - 17 → 0 ≡ lock_checks z L f m
          unfolding lock_checks already_logged lock_held slots_counted
          checks-none b =
              sym (after-lane z L m _ e
              ∙ passes-txn _ max_long z f h
              ∙ first-fails _ _ g
              ∙ first-fails _ _ l
              ∙ first-fails _ _ (le-ltb _ _ (rw c at b))
              ∙ first-end)

  -- what they say where they find nothing
  pub record Unrefused : Type 0 where
    pub at-lane : drain_refusal z L m ≡ 0
    pub txn-ok : txn_ok max_long z.words f ≡ true
    pub idle : is_logged (lane_at m.state L).phase ≡ false
    pub free : is_held m.state.lock ≡ false
    pub room : slots_counted f ≤ z.slots - 17

  pub unrefused : lock_checks z L f m ≡ 0 → Unrefused
  unfolding lock_checks bad_txn already_logged lock_held
  unrefused h =
      let a = lane-passed z L m _ h in
      let b = first-none _ _ (λ e. omega arith) a.1 in
      let c = first-none _ _ (λ e. omega arith) b.1 in
      let d = first-none _ _ (λ e. omega arith) c.1 in
      let t = first-none (too_many z f) _ (λ e. omega arith) d.1 in
      record { at-lane = a.0; txn-ok = not-false _ b.0; idle = c.0; free = d.0; room = ltb-false _ _ t.0 }

  -- ---- its refusals, from those that it checks first
  lock-unless : (lock_checks z L f m ≡ 0 → ⊥) → lock_refusal z L f m ≡ lock_checks z L f m
  unfolding lock_refusal lock_checks
  lock-unless h =
      first_more
      (bad_buffers z m
      ∷ bad_record z m
      ∷ bad_lane z L
      ∷ bad_txn current max_long z f
      ∷ already_logged L m
      ∷ lock_held m
      ∷ too_many z f
      ∷ []) _ h

  pub lock-refused : (number : ℕ) → number ≡ lock_checks z L f m → (number ≡ 0 → ⊥) → number ≡ lock_refusal z L f m
  lock-refused number e h = e ∙ sym (lock-unless (λ d. h (e ∙ d)))

  lock-checked : lock_refusal z L f m ≡ 0 → lock_checks z L f m ≡ 0
  lock-checked h = elim (ℕ_discrete (lock_checks z L f m) 0) [ yes e ↦ e | no d ↦ absurd (d (sym (lock-unless d) ∙ h)) ]

  abbrev causes_after : (writes : Bool) → List Cause
  causes_after writes =
      record { number = 8; holds = writes && spent m.state }
      ∷ record { number = 15; holds = writes && would_lag z L m }
      ∷ record { number = 9; holds = writes && would_hit z L (slots_counted f) m }
      ∷ []

  lock-left : Unrefused → lock_refusal z L f m ≡ first_cause (causes_after (leb 1 (length (writes_on z f m))))
  unfolding lock_refusal already_logged lock_held
  lock-left u =
      after-lane z L m _ u.at-lane
      ∙ passes-txn _ max_long z f u.txn-ok
      ∙ first-fails _ _ u.idle
      ∙ first-fails _ _ u.free
      ∙ first-fails _ _ (le-ltb _ _ u.room)

-- ---- Lock's plan
module _ (z : Sizes) (L : ℕ) (f : List ℕ) (m : Machine) (u : Unrefused z L f m) (w : List Write) (v : w ≡ writes_on z f m) where
  -- a transaction that writes nothing is not refused for want of room
  pub lock-nothing : length w ≡ 0 → 0 ≡ lock_refusal z L f m
  lock-nothing e =
      let n : length (writes_on z f m) ≡ 0 = sym (ap length v) ∙ e in
      sym (lock-left z L f m u ∙ first-fails _ _ (rw n) ∙ first-fails _ _ (rw n) ∙ first-fails _ _ (rw n) ∙ first-end)

  writes-some : (length w ≡ 0 → ⊥) → leb 1 (length (writes_on z f m)) ≡ true
  writes-some h = le-leb 1 (length (writes_on z f m)) (some _ (λ d. h (ap length v ∙ d)))

  -- one that writes has the refusals of an append of the slots counted
  pub lock-room : (number n : ℕ) (binds : Bool) → number ≡ room_refusal z m.state m.cache L n binds → n ≡ length f / 4 + (length f / 4 + 15) / 16
      → binds ≡ true → (length w ≡ 0 → ⊥) → number ≡ lock_refusal z L f m
  unfolding clock_spent slots_counted
  lock-room number n binds r e b h = r ∙ rw (e, b) (room_bound z L (slots_counted f) m ∙ sym (lock-left z L f m u ∙ rw (writes-some h)))

  lock-unspent : lock_refusal z L f m ≡ 0 → (length w ≡ 0 → ⊥) → spent m.state ≡ false
  lock-unspent e h =
      let a = first-none _ _ (λ d. omega arith) (sym (lock-left z L f m u) ∙ e) in
      let b : (leb 1 (length (writes_on z f m)) && spent m.state) ≡ false = a.0 in
      rw (writes-some h) at b

pub planned-err : (refusal : ℕ) (ws : List Write) (q : Option Sequence) (r : Result Plan Refusal) (e : Refusal) → IsErrAnd r (λ x. x ≡ e)
    → refusal_of (Err e) ≡ refusal → Planned r refusal ws q
planned-err refusal ws q (Ok p) e a h = elim a [ ]
planned-err refusal ws q (Err x) e a h = rw a h

-- the slots counted can be searched
pub lock-searchable : (z : Sizes) (state : Record) (pairs cache nvm flags : List ℕ) (L : ℕ) (f : List ℕ)
    → Unrefused z L f (machine_of state pairs cache nvm flags) → length state.lanes ≡ max_lanes → (q : Option Sequence) (n : ℕ) → q ≡ latest_in z cache L
    → n ≡ length f / 4 + (length f / 4 + 15) / 16
    → Searchable z state q cache L n
unfolding slots_counted
lock-searchable z state pairs cache nvm flags L f u eight q n e c =
    let k = checked z state pairs cache nvm flags L u.at-lane in
    searchable z state pairs cache nvm flags L k eight q n e (omega (arith, ok-some current max_long z.words f u.txn-ok))
    (omega (arith, u.room, (sizes-in z k.image.sizes-ok).slots-low))

-- Lock, once it is taken
abbrev lock_taken : Sizes → ℕ → List ℕ → Machine → Step
lock_taken z L f m =
    let ws = writes_on z f m in
    cond (eqb (length ws) 0)
    (record { answer = answer.NoWrites; machine = drained z L m })
    (record { answer = answer.Locked (record { left = length ws; stamp = m.state.clock + 2 }); machine = locked L ws (drained z L m) })

-- ---- what Lock knows whose plan has no refusal
pub record Known (z : Sizes) (state : Record) (pairs cache nvm flags : List ℕ) (L : ℕ) (ws : List Write) (plan : Plan) : Type 0 where
  pub checked : Checked z state pairs cache nvm flags L
  pub small : L < max_lanes
  pub writes : plan.writes ≡ ws
  pub latest : plan.latest ≡ latest_in z cache L
  pub room : (length plan.writes ≡ 0 → ⊥) → state.clock + 2 < 2 ^ 64

module _ (z : Sizes) (state : Record) (pairs cache nvm flags : List ℕ) (L : ℕ) (plan : Plan) (f : List ℕ)
    (p : Found plan (lock_refusal z L f (machine_of state pairs cache nvm flags)) (writes_on z f (machine_of state pairs cache nvm flags)) (latest_in z cache L)) where
  abbrev machine : Machine
  machine = machine_of state pairs cache nvm flags

  pub lock-known : Known z state pairs cache nvm flags L (writes_on z f (machine_of state pairs cache nvm flags)) plan
  lock-known =
      let n = p.number in
      let u = unrefused z L f machine (lock-checked z L f machine n) in
      let k = checked z state pairs cache nvm flags L u.at-lane in
      record {
        checked = k;
        small = lane-small z L k.image.sizes-ok k.lane_below;
        writes = p.writes;
        latest = p.latest;
        room = λ h. clock-next state (lock-unspent z L f machine u plan.writes p.writes n h);
      }

  -- ---- Lock's steps, from the plan and from what the drain leaves
  module _ (nvm' flags' : List ℕ) (f₁ : nvm' ≡ drained_nvm L flags cache nvm) (f₂ : flags' ≡ drained_flags L flags) where
    now-drained : machine_of (drained_state z cache L state) pairs cache nvm' flags' ≡ drained z L machine
    now-drained = drained-by z L state pairs cache nvm flags (drained_state z cache L state) nvm' flags' refl f₁ f₂

    taken : (step : Step) → step ≡ lock_taken z L f machine → step ≡ lock_step z L f machine
    unfolding lock_step
    taken step a = a ∙ step-taken _ _ _ _ (sym p.number) refl

    -- a transaction that writes nothing drains its lane
    pub lock-drains : (before ws : List ℕ) → ws ≡ words_of (with_lane state L (drained_lane plan.latest (lane_at state L))) → length plan.writes ≡ 0
        → kept_by answer.NoWrites (ws ++ pairs) cache nvm' flags' ≡ keeps before (lock_step z L f (machine_of state pairs cache nvm flags))
    unfolding said drained_state
    lock-drains before ws d h =
        keeps-taken before answer.NoWrites (drained_state z cache L state) ws pairs cache nvm' flags' _
        (rw now-drained (taken _ (rw (sym (ap length p.writes) ∙ h)))) refl
        (d ∙ rw p.latest)

    -- one that writes takes the lock
    module _ (pairs' : List ℕ) (q : pairs' ≡ words_of_pairs (pairs_of max_long plan.writes)) (s : ℕ) (c : s ≡ state.clock + 2) where
      locked-is : machine_of (taken_state state L plan.latest s (length plan.writes)) pairs' cache nvm' flags'
          ≡ locked L (writes_on z f machine) (machine_of (drained_state z cache L state) pairs cache nvm' flags')
      unfolding locked taken_state drained_state with_lane
      locked-is = rw (q, c, p.latest, p.writes)

      pub lock-takes : (before ws exit : List ℕ) → exit ≡ ws ++ pairs' → ws ≡ words_of (taken_state state L plan.latest s (length plan.writes))
          → (length plan.writes ≡ 0 → ⊥)
          → kept_by (answer.Locked (record { left = length plan.writes; stamp = s })) exit cache nvm' flags'
          ≡ keeps before (lock_step z L f (machine_of state pairs cache nvm flags))
      unfolding said
      lock-takes before ws exit x d h =
          let n : length plan.writes ≡ length (writes_on z f machine) = ap length p.writes in
          rw x
          (keeps-taken before _ (taken_state state L plan.latest s (length plan.writes)) ws pairs' cache nvm' flags' _
          (taken _ (rw (locked-is, now-drained, c, n, ne_eqb (length (writes_on z f machine)) 0 (λ b. h (n ∙ b))))) refl d)

-- pairs put behind the record's words, as a part of the slice: as many as there were, and the slice is then the words and they
pub pairs-lent : (ws ps : List ℕ) → length ws ≡ record_length → length ps ≡ lock_length
    → length (take (length (ws ++ ps) - record_length) (drop record_length (ws ++ ps))) ≡ lock_length
pairs-lent ws ps e h = ap length (tail-is record_length (ws ++ ps) ∙ drop_at ws ps record_length e) ∙ h

pub pairs-put : (ws ps new : List ℕ) → length ws ≡ record_length
    → put_mid record_length (length (ws ++ ps) - record_length) (ws ++ ps) new ≡ ws ++ new
pairs-put ws ps new e =
    let xs = ws ++ ps in
    ap (λ (t : List ℕ). t ++ (new ++ drop (length xs - record_length) (drop record_length xs))) (take_at ws ps record_length e)
    ∙ ap (λ (t : List ℕ). ws ++ (new ++ t))
    (drop_of_length-le (drop record_length xs) {i = length xs - record_length} (omega (arith, length-drop record_length xs)))
    ∙ ap (λ (t : List ℕ). ws ++ t) (append-nil new)

-- the same, where the pairs are the last words as an array
pub pairs-stored : (ws ps new : List ℕ) → length ps ≡ lock_length
    → take (length (ws ++ ps) - lock_length) (ws ++ ps) ++ new ≡ ws ++ new
pairs-stored ws ps new h =
    let n : length (ws ++ ps) - lock_length ≡ length ws = omega (arith, length-append ws ps, h) in
    ap (λ k. take k (ws ++ ps) ++ new) n ∙ ap (λ (t : List ℕ). t ++ new) (take_at ws ps (length ws) refl)

-- a refused Lock
pub lock-refuses : (z : Sizes) (L : ℕ) (f state cache nvm flags : List ℕ) (number : ℕ) → number ≡ lock_refusal z L f (machine_in state cache nvm flags)
    → (number ≡ 0 → ⊥) → kept_by (answer.Refused number) state cache nvm flags ≡ keeps state (lock_step z L f (machine_in state cache nvm flags))
unfolding lock_step
lock-refuses z L f state cache nvm flags number e h = refuses state cache nvm flags number _ _ e h

-- ---- Continue's refusals
module _ (z : Sizes) (L : ℕ) (m : Machine) (number : ℕ) (e : number ≡ drain_refusal z L m) where
  pub proceed-lane : (number ≡ 0 → ⊥) → number ≡ proceed_refusal z L m
  unfolding proceed_refusal
  proceed-lane h = e ∙ sym (at-lane z L m _ (λ d. h (e ∙ d)))

  module _ (h : number ≡ 0) where
    pub proceed-free : is_held m.state.lock ≡ false → 7 ≡ proceed_refusal z L m
    unfolding proceed_refusal
    proceed-free l = sym (after-lane z L m _ (sym e ∙ h) ∙ first_holds _ _ (rw l))

    module _ (l : is_held m.state.lock ≡ true) (k : Locked) (g : k ≡ locked_in m.state.lock) where
      pub proceed-other : (k.lane ≡ L → ⊥) → 11 ≡ proceed_refusal z L m
      unfolding proceed_refusal
      proceed-other d = sym (after-lane z L m _ (sym e ∙ h) ∙ first-fails _ _ (rw l) ∙ first_holds _ _ (rw (← g, ne_eqb k.lane L d)))

      pub proceed-none : k.lane ≡ L → 0 ≡ proceed_refusal z L m
      unfolding proceed_refusal
      proceed-none d = sym (after-lane z L m _ (sym e ∙ h) ∙ first-fails _ _ (rw l) ∙ first-fails _ _ (rw (← g, eq-eqb k.lane L d)) ∙ first-end)

-- what it knows where it is not refused, before its drain
pub record Accepted (z : Sizes) (state : Record) (pairs cache nvm flags : List ℕ) (L : ℕ) : Type 0 where
  pub known : Checked z state pairs cache nvm flags L
  pub held : is_held state.lock ≡ true
  pub own : (locked_in state.lock).lane ≡ L

module _ (z : Sizes) (state : Record) (pairs cache nvm flags : List ℕ) (L : ℕ) where
  pub proceed-accepted : (number : ℕ) → number ≡ proceed_refusal z L (machine_of state pairs cache nvm flags) → number ≡ 0
      → Accepted z state pairs cache nvm flags L
  unfolding proceed_refusal
  proceed-accepted number e h =
      let a = lane-passed z L (machine_of state pairs cache nvm flags) _ (sym e ∙ h) in
      let b = first-none _ _ (λ d. omega arith) a.1 in
      let c = first-none _ _ (λ d. omega arith) b.1 in
      record { known = checked z state pairs cache nvm flags L a.0; held = not-false _ b.0; own = eqb-true _ L (not-false _ c.0) }

-- and after it
pub part_at : (z : Sizes) (state cache nvm flags : List ℕ) (L : ℕ) (q : Option Sequence) (flags' : List ℕ) (k : Locked)
    → Accepted z (record_in state) (pairs_in state) cache nvm flags L
    → q ≡ latest_in z cache L → flags' ≡ drained_flags L flags → k ≡ locked_in (record_in state).lock → PartAt z state q cache flags' k
unfolding cursor_of
part_at z state cache nvm flags L q flags' k a f e g =
    let c = a.known in
    let l = lane-held z (record_in state) (pairs_in state) cache nvm flags L c (lanes-read (take record_length state)) in
    let o : k.lane ≡ L = ap (λ (x : Locked). x.lane) g ∙ a.own in
    record {
      image = c.image;
      same_flags = rw e (length-drained_flags L flags ∙ c.same_flags);
      in_pairs = c.in_pairs;
      found = rw o f;
      place = rw o (record { slot = l.next; wrap = l.wrap });
      held = rw g
          (held_in z (record_in state) (pairs_in state) (record_in state).lock a.held (record-in z (record_in state) (pairs_in state) c.in-range).lock);
    }

-- a refused Continue
pub proceed-refuses : (z : Sizes) (L : ℕ) (state cache nvm flags : List ℕ) (number : ℕ) → number ≡ proceed_refusal z L (machine_in state cache nvm flags)
    → (number ≡ 0 → ⊥) → kept_by (answer.Refused number) state cache nvm flags ≡ keeps state (proceed_step z L (machine_in state cache nvm flags))
unfolding proceed_step
proceed-refuses z L state cache nvm flags number e h = refuses state cache nvm flags number _ _ e h

-- ---- a part
pub pairs-held : (z : Sizes) (clock : ℕ) (ps : List ℕ) (k : Locked) → HeldIn z clock ps k → PairsHeld z.words ps k
pairs-held z clock ps k h = record { most = h.most; pairs = h.pairs; left = h.left }

-- its writes can be made
pub part-makeable : (W : ℕ) (ps : List ℕ) (k : Locked) → PairsHeld W ps k → (n : ℕ) → n ≡ part_length k → (size : ℕ) → size ≡ W
    → (k.written + n ≤ max_long) × ((n ≤ max_writes) × (pairs_ok size (pairs_from ps k.written n) ≡ true))
part-makeable W ps k h n e size g = rw (e, g) (part-inside W ps k h, (part-few k, part-ok W ps k h))

pub part-made : (ps : List ℕ) (k : Locked) (n : ℕ) (ws₁ ws₂ : List ℕ) (w : List Write) → n ≡ part_length k → ws₁ ≡ ws₂
    → w ≡ pair_writes (pairs_from ps k.written n) ws₁ → w ≡ pair_writes (part_of k ps) ws₂
unfolding part_of
part-made ps k n ws₁ ws₂ w e g h = h ∙ rw (e, g)

pub writes-tail : (k : Locked) (ps ps₂ ws : List ℕ) (w : List Write) → ps ≡ ps₂ → w ≡ pair_writes (part_of k ps) ws
    → w ≡ pair_writes (part_of k ps₂) ws
writes-tail k ps ps₂ ws w t e = e ∙ rw t

-- and may be appended
module _ (z : Sizes) (ps ws : List ℕ) (k : Locked) (w : List Write) (e : w ≡ pair_writes (part_of k ps) ws) where
  part_count : length (pair_writes (part_of k ps) ws) ≡ part_length k
  unfolding part_of
  part_count = length-writes (pairs_from ps k.written (part_length k)) ws ∙ length_pairs ps k.written (part_length k)

  pub part-loggable : PairsHeld z.words ps k → z.words ≤ max_words → Loggable w
  unfolding part_of
  part-loggable h l = record {
    few = omega (arith, ap length e, part_count, part-few k);
    low = rw e (writes-low z.words max_words _ ws (part-ok z.words ps k h) l);
  }

pub part-appendable : (z : Sizes) (state : List ℕ) (q : Option Sequence) (cache flags : List ℕ) (k : Locked) (cursor : Cursor) (w : List Write)
    → PartAt z state q cache flags k → cursor ≡ cursor_of (lane_at (record_in state) k.lane)
    → w ≡ pair_writes (part_of k (pairs_in state)) (data_of z cache) → k.stamp < 2 ^ 64
    → Appendable z cursor cache flags k.lane w k.stamp
part-appendable z state q cache flags k cursor w p l e b = record {
  image = p.image;
  same_flags = p.same_flags;
  lane_below = p.held.lane;
  place = rw l p.place;
  room = omega (arith, p.held.stamp.even);
  writes = part-loggable z (pairs_in state) (data_of z cache) k w e (pairs-held z (record_in state).clock (pairs_in state) k p.held)
      (sizes-in z p.image.sizes-ok).words-high;
}

module _ (z : Sizes) (state : List ℕ) (q : Option Sequence) (cache flags : List ℕ) (k : Locked) (p : PartAt z state q cache flags k) where
  -- the words are as many as a record and its pairs have
  pub part-long : length state ≡ state_length
  part-long = pairs-long state p.in_pairs

  pub part-record : length (take record_length state) ≡ record_length
  part-record = record-long state part-long

  pub part_small : k.lane < max_lanes
  part_small = lane-small z k.lane p.image.sizes-ok p.held.lane

  pub part-lanes : k.lane < length (record_in state).lanes
  part-lanes = omega (arith, part_small, lanes-read (take record_length state))

  -- the part's pairs may be read
  pub part-readable : (ps : List ℕ) → ps ≡ pairs_in state → (IsImage z cache) × ((length ps ≡ lock_length) × PairsHeld z.words ps k)
  part-readable ps e = rw e (p.image, (p.in_pairs, pairs-held z (record_in state).clock (pairs_in state) k p.held))

  -- the record may be stored once it is logged
  pub part_room : k.logged ≡ k.written → k.logged + part_length k < 2 ^ 64
  part_room e = omega (arith, part-most k p.held.left, p.held.most)

  -- its pairs may be copied and written
  pub part_left : (n : ℕ) → n ≡ part_length k → k.written + n ≤ k.count
  part_left n e = rw e (part-most k p.held.left)

  module _ (n : ℕ) (e : n ≡ part_length k) (ps : List ℕ) (t : ps ≡ pairs_in state) where
    pub part-copyable : (length ps ≡ lock_length) × ((k.written + n ≤ max_long) × (n ≤ max_writes))
    part-copyable = (rw t p.in_pairs, (omega (arith, part_left n e, p.held.most), rw e (part-few k)))

    pub part-writable : (part : List Pair) → part ≡ pairs_from ps k.written n
        → (k.lane < max_lanes) × ((length flags ≡ length cache) × PairsInside (length cache) part)
    part-writable part c =
        let o : pairs_ok z.words (pairs_from ps k.written n) ≡ true =
        rw (e, t) (part-ok z.words (pairs_in state) k (pairs-held z (record_in state).clock (pairs_in state) k p.held)) in
        let i = part-words z.words ps k.written n (length cache) part c o (data-part z cache p.image).inside in
        (part_small, (p.same_flags, i))

-- ---- the record as it is stored
-- a lock taken: the clock, the lock, then the lane's floor
pub taken-words : (r r₁ r₂ : Record) (ws : List ℕ) (L : ℕ) (q : Option Sequence) (s n : ℕ) → r₁ ≡ with_clock r s
    → r₂ ≡ with_lock r₁ (Some (record { lane = L; stamp = s; count = n; logged = 0; written = 0 }))
    → ws ≡ words_of (with_lane r₂ L (drained_lane q (lane_at r₂ L))) → ws ≡ words_of (taken_state r L q s n)
unfolding taken_state with_clock with_lock with_lane lane_at
taken-words r r₁ r₂ ws L q s n e₁ e₂ e₃ = e₃ ∙ rw (e₂, e₁)

-- a part logged: the lock, then the lane without its redo log
pub logged-words : (r r₁ r₂ : Record) (ws : List ℕ) (q : Option Sequence) (k : Locked) (end : Cursor) (n : ℕ) (old drained floor : Option ℕ) → n ≡ part_length k
    → old ≡ (lane_at r k.lane).floor → drained ≡ floor_after_drain q old → floor ≡ floor_after_append k.stamp drained
    → r₁ ≡ with_lock r (Some (record { lane = k.lane; stamp = k.stamp; count = k.count; logged = k.logged + n; written = k.written }))
    → r₂ ≡ with_lane r₁ k.lane (headed None end floor (lane_at r₁ k.lane)) → ws ≡ words_of r₂ → ws ≡ words_of (logged_state r q k end)
unfolding logged_state logged_held headed appended_lane drained_lane with_lock lane_at
logged-words r r₁ r₂ ws q k end n old drained floor e₁ e₂ e₃ e₄ e₅ e₆ e₇ = e₇ ∙ rw (e₆, e₅, e₄, e₃, e₂, e₁)

-- a part written: the last one commits, and frees the lock
module _ (k : Locked) (r r₂ : Record) (n : ℕ) (e : n ≡ part_length k) where
  pub state-last : (r₁ : Record) → r₁ ≡ with_last r k.stamp → r₂ ≡ with_lock r₁ None → k.written + n ≡ k.count → r₂ ≡ part_written_state k r
  unfolding part_written_state
  state-last r₁ f g h = g ∙ rw (f, ← e, eq-eqb (k.written + n) k.count h)

  pub state-more : r₂ ≡ with_lock r (Some (record { lane = k.lane; stamp = k.stamp; count = k.count; logged = k.logged; written = k.written + n }))
      → (k.written + n ≡ k.count → ⊥) → r₂ ≡ part_written_state k r
  unfolding part_written_state
  state-more g h = g ∙ rw (← e, ne_eqb (k.written + n) k.count h)

-- and a lane drained: in either order
written-drained : (k : Locked) (r : Record) (L : ℕ) (q : Option Sequence)
    → with_lane (part_written_state k r) L (drained_lane q (lane_at (part_written_state k r) L)) ≡ part_written_state k (with_lane r L (drained_lane q (lane_at r L)))
unfolding part_written_state with_lock with_last with_lane lane_at
written-drained k r L q = split (eqb (k.written + part_length k) k.count) (λ e. rw e) (λ e. rw e)

-- ---- Continue's steps on a drained machine, from the record before the drain
module _ (z : Sizes) (k : Locked) (r : Record) (pairs cache nvm flags : List ℕ) (q : Option Sequence) (d : q ≡ latest_in z cache k.lane)
    (before ws cache' flags' : List ℕ) where
  -- a part logged
  module _ (w : List Write) (cursor end : Cursor) (small : k.lane < length r.lanes) (e : w ≡ pair_writes (part_of k pairs) (data_of z cache))
      (l : cursor ≡ cursor_of (lane_at r k.lane)) (a : end ≡ advance z.slots (length w + 1) cursor) where
    logged-once : logged_state r q k end
        ≡ with_lane (with_lock (drained_state z cache k.lane r) (Some (logged_held k))) k.lane
        (appended_lane k.stamp end None (lane_at r k.lane).redo (drained_lane (latest_in z cache k.lane) (lane_at r k.lane)))
    unfolding logged_state drained_state with_lock with_lane
    logged-once = rw d (sym (lane-twice (with_lock r (Some (logged_held k))) k.lane _ _))

    logged-is : cache' ≡ stored (append_stores (log_start z k.lane) z.slots k.stamp cursor w) cache
        → flags' ≡ flush_all k.lane (places (append_stores (log_start z k.lane) z.slots k.stamp cursor w)) flags
        → machine_of (logged_state r q k end) pairs cache' nvm flags' ≡ part_logged z k (machine_of (drained_state z cache k.lane r) pairs cache nvm flags)
    unfolding part_logged changed logged_held cursor_of drained_lane
    logged-is c f =
        let n = part_count z pairs (data_of z cache) k w e in
        rw (
          logged-once,
          c,
          f,
          a,
          l,
          e,
          n,
          drained-lane z cache k.lane r small,
        )

    pub part-logs : cache' ≡ stored (append_stores (log_start z k.lane) z.slots k.stamp cursor w) cache
        → flags' ≡ flush_all k.lane (places (append_stores (log_start z k.lane) z.slots k.stamp cursor w)) flags
        → ws ≡ words_of (logged_state r q k end)
        → kept_by (answer.Locked (record { left = k.count - k.written; stamp = k.stamp })) (ws ++ pairs) cache' nvm flags'
        ≡ keeps before (logged_step z k (machine_of (drained_state z cache k.lane r) pairs cache nvm flags))
    unfolding logged_step said
    part-logs c f g = keeps-taken before _ (logged_state r q k end) ws pairs cache' nvm flags' _ (rw (logged-is c f)) refl g

  -- a part written
  pub part-writes : (part : List Pair) (n : ℕ) (ps : List ℕ) (r₁ : Record) → n ≡ part_length k → ps ≡ pairs → part ≡ pairs_from ps k.written n
      → cache' ≡ stored (pair_stores part) cache
      → flags' ≡ flush_all k.lane (places (pair_stores part)) flags → r₁ ≡ part_written_state k r
      → ws ≡ words_of (with_lane r₁ k.lane (drained_lane q (lane_at r₁ k.lane)))
      → kept_by (answer.Locked (record { left = k.count - (k.written + n); stamp = k.stamp })) (ws ++ pairs) cache' nvm flags'
      ≡ keeps before (written_step k (machine_of (drained_state z cache k.lane r) pairs cache nvm flags))
  unfolding written_step part_written changed part_of drained_state said
  part-writes part n ps r₁ e t s c f g h =
      keeps-taken before _ (part_written_state k (drained_state z cache k.lane r)) ws pairs cache' nvm flags' _ (rw (c, f, s, t, e)) refl
      (h ∙ rw (g, d, written-drained k r k.lane (latest_in z cache k.lane)))

-- and as the whole call
module _ (z : Sizes) (L : ℕ) (state : Record) (pairs cache nvm flags : List ℕ) (nvm' flags' : List ℕ)
    (f₁ : nvm' ≡ drained_nvm L flags cache nvm) (f₂ : flags' ≡ drained_flags L flags) (k : Locked) (g : k ≡ locked_in state.lock) (number : ℕ)
    (p : number ≡ proceed_refusal z L (machine_of state pairs cache nvm flags)) (e : number ≡ 0) where
  now-next : next_step z k (machine_of (drained_state z cache k.lane state) pairs cache nvm' flags') ≡ proceed_step z L (machine_of state pairs cache nvm flags)
  unfolding proceed_step
  now-next =
      let o : k.lane ≡ L = ap (λ (x : Locked). x.lane) g ∙ (proceed-accepted z state pairs cache nvm flags L number p e).own in
      ap (λ (l : ℕ). next_step z k (machine_of (drained_state z cache l state) pairs cache nvm' flags')) o
      ∙ ap (next_step z k) (drained-by z L state pairs cache nvm flags (drained_state z cache L state) nvm' flags' refl f₁ f₂)
      ∙ ap (λ (x : Locked). next_step z x (drained z L (machine_of state pairs cache nvm flags))) g
      ∙ step-taken _ _ _ _ p e

  pub proceed-logs : k.logged ≡ k.written → logged_step z k (machine_of (drained_state z cache k.lane state) pairs cache nvm' flags')
      ≡ proceed_step z L (machine_of state pairs cache nvm flags)
  unfolding logged_step next_step
  proceed-logs h = rw (eq-eqb k.logged k.written h) at now-next

  pub proceed-writes : (k.logged ≡ k.written → ⊥) → written_step k (machine_of (drained_state z cache k.lane state) pairs cache nvm' flags')
      ≡ proceed_step z L (machine_of state pairs cache nvm flags)
  unfolding written_step next_step
  proceed-writes h = rw (ne_eqb k.logged k.written h) at now-next
