-- Every call is one of eleven moves, with the facts that it has checked: an invariant goes by cases on the move and opens no step. Assumes nothing.
use Rattle.std.specs.Prelude.{Some, None}
use mathlib.Core.Path.{◌≡◌, refl, subst}
use mathlib.Core.Bool.{Bool, true, false, cond, not, ◌&&◌}
use mathlib.Core.List.{List, [], ◌∷◌}
use Prim.Native.Nat.{ℕ, suc, ◌+◌, ◌-◌, ◌≤◌, ◌<◌}
use native.Mathlib.Omega.{arith}
use lib.Dec.{eqb, leb}
use lib.ListN.{length}
use borrow.Author.Tests.{eqb-true, eqb-false, leb-false, ltb-false, not-false, le-leb}
use Rattle.laws.specs.inner.Tests.{split, clash, and_left, and_right}
use Rattle.txn.specs.Txn.{max_writes, max_long, Rule, current, former, txn_by}
use Rattle.txn.specs.inner.CheckLaws.{txn-former}
use Rattle.image.specs.Image.{buffers_ok}
use Rattle.image.specs.declared.Sizes.{Sizes}
use Rattle.record.specs.Record.{lane_at, is_logged, lock_length, is_held, locked_in, part_length, record_ok, spent, pairs_of, Lock}
use Rattle.record.specs.declared.Locked.{Locked}
use Rattle.store.specs.Machine.{Machine, Step, Cause, first_cause, unless}
use Rattle.store.specs.Calls.{bad_buffers, bad_record, bad_lane, bad_txn, already_logged, not_logged, lock_held, clock_spent, drained, would_hit, writes_on}
use Rattle.store.specs.Calls.{marked, logged, committed, is_stale, redo_pairs, matches, released, drain_refusal, drain_step}
use Rattle.store.specs.Calls.{log_txn_refusal_by, log_txn_step_by, settle_refusal, settle_step, log_refusal_by, log_step_by, redo_refusal, redo_step}
use Rattle.store.specs.Calls.{validate_refusal_by, validate_step_by, mark_refusal, mark_step}
use Rattle.store.specs.Locks.{slots_counted, lock_refusal, locked, lock_step, proceed_refusal, part_logged, part_written, next_step, proceed_step}
use Rattle.store.specs.Answers.{Answer}
use Rattle.store.specs.Answers as answer
use Rattle.store.specs.Answers.{Refused, Done, NoWrites, Logged, Settled, Committed, Stale, Changed, Marked}
use Rattle.crash.specs.Events.{Call, log_by, redo, validate_by, mark, drain, lock, proceed, lane_of, call_step}

-- ---- what a call has checked
-- every call that is not refused: causes 1, 2 and 3 do not hold
pub record Known (z : Sizes) (m : Machine) (L : ℕ) : Type 0 where
  pub buffers : buffers_ok z (length m.cache) (length m.nvm) (length m.flags) ≡ true
  pub pairs : length m.pairs ≡ lock_length
  pub fields : record_ok z m.state m.pairs ≡ true
  pub lane : L < z.lanes

-- an append of n slots, or its room: causes 8 and 9 do not hold
pub record Room (z : Sizes) (m : Machine) (L n : ℕ) : Type 0 where
  pub clock : spent m.state ≡ false
  pub slots : would_hit z L n m ≡ false

-- a commit or a Validate: causes 7, 11 and 8 do not hold
pub record Ready (m : Machine) (L : ℕ) : Type 0 where
  pub held : is_logged (lane_at m.state L).phase ≡ true
  pub free : is_held m.state.lock ≡ false
  pub clock : spent m.state ≡ false

-- the number of a call's refusal, 0 where it is none
unfoldable pub refusal_of : Sizes → Call → Machine → ℕ
refusal_of z (log_by r L f) m = log_refusal_by r z L f m
refusal_of z (redo L) m = redo_refusal z L m
refusal_of z (validate_by r L f) m = validate_refusal_by r z L f m
refusal_of z (mark L) m = mark_refusal z L m
refusal_of z (drain L) m = drain_refusal z L m
refusal_of z (lock L f) m = lock_refusal z L f m
refusal_of z (proceed L) m = proceed_refusal z L m

-- ---- the moves. A transaction that either rule takes is well formed by the former one, and the laws ask for no more
-- the calls that only drain: a Log or a Lock that writes nothing, a Redo that is stale, a Drain
pub data Drains (z : Sizes) (m : Machine) : Call → Answer → Type 0 where
  quiet : (r : Rule) (L w : ℕ) (f : List ℕ) → txn_by former max_writes z.words (w ∷ f) ≡ true → is_logged (lane_at m.state L).phase ≡ false
      → length (writes_on z (w ∷ f) m) ≡ 0 → Drains z m (log_by r L (w ∷ f)) NoWrites
  late : (L : ℕ) → Ready m L → is_stale L m ≡ true → Drains z m (redo L) Stale
  plain : (L : ℕ) → Drains z m (drain L) Done
  idling : (L : ℕ) (f : List ℕ) → length (writes_on z f m) ≡ 0 → Drains z m (lock L f) NoWrites

pub data Move (z : Sizes) (m : Machine) : Call → Step → Type 0 where
  refusing : {c : Call} (n : ℕ) → refusal_of z c m ≡ n → (n ≡ 0 → ⊥) → Move z m c (record { answer = Refused n; machine = m })
  draining : {c : Call} {a : Answer} → Known z m (lane_of c) → Drains z m c a → Move z m c (record { answer = a; machine = drained z (lane_of c) m })
  logging : (r : Rule) (L w : ℕ) (f : List ℕ) → Known z m L → txn_by former max_writes z.words (w ∷ f) ≡ true
      → is_logged (lane_at m.state L).phase ≡ false → is_held m.state.lock ≡ false → 0 < length (writes_on z (w ∷ f) m)
      → Room z m L (length (writes_on z (w ∷ f) m) + 1)
      → Move z m (log_by r L (w ∷ f))
      (record {
        answer = Logged (record { count = length (writes_on z (w ∷ f) m); stamp = m.state.clock + 2 });
        machine = logged z L (writes_on z (w ∷ f) m) (drained z L m);
      })
  settling : (r : Rule) (L : ℕ) → Known z m L → is_logged (lane_at m.state L).phase ≡ false → is_held m.state.lock ≡ false → Room z m L 1
      → Move z m (log_by r L []) (record { answer = Settled (m.state.clock + 2); machine = marked z L m })
  redoing : (L : ℕ) → Known z m L → Ready m L → is_stale L m ≡ false
      → Move z m (redo L) (record { answer = Committed (m.state.clock + 2); machine = committed z L (redo_pairs L m) (drained z L m) })
  validating : (r : Rule) (L : ℕ) (f : List ℕ) → Known z m L → txn_by former max_writes z.words f ≡ true → Ready m L → matches z L (writes_on z f m) m ≡ true
      → Move z m (validate_by r L f)
      (record {
        answer = Committed (m.state.clock + 2);
        machine = committed z L (pairs_of (length (writes_on z f m)) (writes_on z f m)) (drained z L m);
      })
  giving-up : (r : Rule) (L : ℕ) (f : List ℕ) → Known z m L → txn_by former max_writes z.words f ≡ true → Ready m L → matches z L (writes_on z f m) m ≡ false
      → Move z m (validate_by r L f) (record { answer = Changed; machine = released L (drained z L m) })
  marking : (L : ℕ) → Known z m L → is_held m.state.lock ≡ false → Room z m L 1
      → Move z m (mark L)
      (record {
        answer = Marked (record { stamp = m.state.clock + 2; dropped = is_logged (lane_at m.state L).phase });
        machine = marked z L m;
      })
  -- the lock is taken: causes 5, 6, 11, 12, 8 and 9 do not hold
  locking : (L : ℕ) (f : List ℕ) → Known z m L → txn_by current max_long z.words f ≡ true → is_logged (lane_at m.state L).phase ≡ false
      → is_held m.state.lock ≡ false → slots_counted f ≤ z.slots - 17 → 0 < length (writes_on z f m) → Room z m L (slots_counted f)
      → Move z m (lock L f)
      (record {
        answer = answer.Locked (record { left = length (writes_on z f m); stamp = m.state.clock + 2 });
        machine = locked L (writes_on z f m) (drained z L m);
      })
  -- the lane that holds the lock logs its next part
  parting : (k : Locked) → Known z m k.lane → m.state.lock ≡ Some k → k.logged ≡ k.written
      → Move z m (proceed k.lane)
      (record {
        answer = answer.Locked (record { left = k.count - k.written; stamp = k.stamp });
        machine = part_logged z k (drained z k.lane m);
      })
  -- it writes the part that is logged
  writing : (k : Locked) → Known z m k.lane → m.state.lock ≡ Some k → (k.logged ≡ k.written → ⊥)
      → Move z m (proceed k.lane)
      (record {
        answer = answer.Locked (record { left = k.count - (k.written + part_length k); stamp = k.stamp });
        machine = part_written k (drained z k.lane m);
      })

-- ---- refusals
-- no cause holds: not the first, and none of the rest
pub none-holds : (b : Bool) (n : ℕ) (cs : List Cause) → first_cause (record { number = suc n; holds = b } ∷ cs) ≡ 0 → (b ≡ false) × (first_cause cs ≡ 0)
unfolding first_cause
none-holds true n cs e = absurd (omega arith)
none-holds false n cs e = (refl, e)

pub unless-by : (P : Step → Type 0) (n : ℕ) (m : Machine) (s : Step)
    → ((n ≡ 0 → ⊥) → P (record { answer = Refused n; machine = m })) → (n ≡ 0 → P s) → P (unless n m s)
unfolding unless
unless-by P n m s r f = split (eqb n 0) (λ e. rw e (f (eqb-true n 0 e))) (λ e. rw e (r (eqb-false n 0 e)))

pub cond-by : {A : Type 0} (P : A → Type 0) (b : Bool) (x y : A) → (b ≡ true → P x) → (b ≡ false → P y) → P (cond b x y)
cond-by P true x y f g = f refl
cond-by P false x y f g = g refl

rest : (a b : Bool) → a ≡ true → (a && b) ≡ false → b ≡ false
rest true b p q = q
rest false b p q = clash false p refl

pub positive : (n : ℕ) → (n ≡ 0 → ⊥) → 0 < n
positive n h = omega arith

-- ---- the lock
pub is-locked : (l : Lock) → is_held l ≡ true → l ≡ Some (locked_in l)
unfolding is_held locked_in
is-locked None e = absurd (let z : ◌≡◌ {A = ℕ} 0 1 = cc in omega arith)
is-locked (Some k) e = refl

pub is_free : (l : Lock) → is_held l ≡ false → l ≡ None
unfolding is_held
is_free None e = refl
is_free (Some k) e = absurd (let z : ◌≡◌ {A = ℕ} 0 1 = cc in omega arith)

-- ---- each call
module _ (z : Sizes) (m : Machine) (L : ℕ) where
  -- causes 1, 2 and 3, and what is left of the list
  first_three : (cs : List Cause)
      → first_cause (record {
        number = 1;
        holds = not (buffers_ok z (length m.cache) (length m.nvm) (length m.flags)
            && eqb (length m.pairs) lock_length);
      } ∷ record { number = 2; holds = not (record_ok z m.state m.pairs) }
      ∷ record { number = 3; holds = leb z.lanes L } ∷ cs) ≡ 0
      → Known z m L × (first_cause cs ≡ 0)
  first_three cs e =
      let c₁ = none-holds _ _ _ e in
      let c₂ = none-holds _ _ _ c₁.1 in
      let c₃ = none-holds _ _ _ c₂.1 in
      let b = not-false _ c₁.0 in (
        record {
          buffers = and_left _ (eqb (length m.pairs) lock_length) b;
          pairs = eqb-true (length m.pairs) lock_length (and_right (buffers_ok z (length m.cache) (length m.nvm) (length m.flags)) _ b);
          fields = not-false _ c₂.0;
          lane = leb-false z.lanes L c₃.0;
        },
        c₃.1,
      )

  pub drain-moves : Move z m (drain L) (drain_step z L m)
  unfolding drain_step drain_refusal bad_buffers bad_record bad_lane refusal_of lane_of
  drain-moves = unless-by (Move z m (drain L)) _ m _ (refusing _ refl) (λ e. draining (first_three _ e).0 (plain L))

  pub redo-moves : Move z m (redo L) (redo_step z L m)
  unfolding redo_step redo_refusal bad_buffers bad_record bad_lane not_logged lock_held clock_spent refusal_of lane_of
  redo-moves =
      unless-by (Move z m (redo L)) _ m _ (refusing _ refl)
      (λ e.
      let k = first_three _ e in
      let c₇ = none-holds _ _ _ k.1 in
      let c₁₁ = none-holds _ _ _ c₇.1 in
      let c₈ = none-holds _ _ _ c₁₁.1 in
      let r : Ready m L = record { held = not-false (is_logged (lane_at m.state L).phase) c₇.0; free = c₁₁.0; clock = c₈.0 } in
      cond-by (Move z m (redo L)) (is_stale L m) _ _ (λ t. draining k.0 (late L r t)) (λ t. redoing L k.0 r t))

  pub mark-moves : Move z m (mark L) (mark_step z L m)
  unfolding mark_step mark_refusal bad_buffers bad_record bad_lane lock_held clock_spent refusal_of
  mark-moves =
      unless-by (Move z m (mark L)) _ m _ (refusing _ refl)
      (λ e.
      let k = first_three _ e in
      let c₁₁ = none-holds _ _ _ k.1 in
      let c₈ = none-holds _ _ _ c₁₁.1 in
      let c₉ = none-holds _ _ _ c₈.1 in
      marking L k.0 c₁₁.0 (record { clock = c₈.0; slots = c₉.0 }))

  settle-moves : (q : Rule) → Move z m (log_by q L []) (settle_step z L m)
  unfolding settle_step settle_refusal log_refusal_by bad_buffers bad_record bad_lane already_logged lock_held clock_spent refusal_of
  settle-moves q =
      unless-by (Move z m (log_by q L [])) _ m _ (refusing _ refl)
      (λ e.
      let k = first_three _ e in
      let c₆ = none-holds _ _ _ k.1 in
      let c₁₁ = none-holds _ _ _ c₆.1 in
      let c₈ = none-holds _ _ _ c₁₁.1 in
      let c₁₅ = none-holds _ _ _ c₈.1 in
      let c₉ = none-holds _ _ _ c₁₅.1 in
      settling q L k.0 c₆.0 c₁₁.0 (record { clock = c₈.0; slots = c₉.0 }))

  module _ (q : Rule) (f : List ℕ) where
    txn-moves : (w : ℕ) → Move z m (log_by q L (w ∷ f)) (log_txn_step_by q z L (w ∷ f) m)
    unfolding log_txn_step_by log_txn_refusal_by log_refusal_by bad_buffers bad_record bad_lane bad_txn already_logged lock_held refusal_of lane_of
    txn-moves w =
        unless-by (Move z m (log_by q L (w ∷ f))) _ m _ (refusing _ refl)
        (λ e.
        let k = first_three _ e in
        let c₅ = none-holds _ _ _ k.1 in
        let c₆ = none-holds _ _ _ c₅.1 in
        let c₁₁ = none-holds _ _ _ c₆.1 in
        let c₈ = none-holds _ _ _ c₁₁.1 in
        let c₁₅ = none-holds _ _ _ c₈.1 in
        let c₉ = none-holds _ _ _ c₁₅.1 in
        let n = length (writes_on z (w ∷ f) m) in
        let ok = txn-former q max_writes z.words (w ∷ f) (not-false (txn_by q max_writes z.words (w ∷ f)) c₅.0) in
        cond-by (Move z m (log_by q L (w ∷ f))) (eqb n 0) _ _ (λ t. draining k.0 (quiet q L w f ok c₆.0 (eqb-true n 0 t)))
        (λ t.
        let p : 0 < n = positive n (eqb-false n 0 t) in
        logging q L w f k.0 ok c₆.0 c₁₁.0 p
        (record { clock = rest (leb 1 n) _ (le-leb 1 n p) c₈.0; slots = rest (leb 1 n) _ (le-leb 1 n p) c₉.0 })))

    pub validate-moves : Move z m (validate_by q L f) (validate_step_by q z L f m)
    unfolding validate_step_by validate_refusal_by bad_buffers bad_record bad_lane bad_txn not_logged lock_held clock_spent refusal_of
    validate-moves =
        unless-by (Move z m (validate_by q L f)) _ m _ (refusing _ refl)
        (λ e.
        let k = first_three _ e in
        let c₅ = none-holds _ _ _ k.1 in
        let c₇ = none-holds _ _ _ c₅.1 in
        let c₁₁ = none-holds _ _ _ c₇.1 in
        let c₈ = none-holds _ _ _ c₁₁.1 in
        let ok = txn-former q max_writes z.words f (not-false (txn_by q max_writes z.words f) c₅.0) in
        let r : Ready m L = record { held = not-false (is_logged (lane_at m.state L).phase) c₇.0; free = c₁₁.0; clock = c₈.0 } in
        cond-by (Move z m (validate_by q L f)) (matches z L (writes_on z f m) m) _ _ (λ t. validating q L f k.0 ok r t) (λ t. giving-up q L f k.0 ok r t))

  lock-moves : (f : List ℕ) → Move z m (lock L f) (lock_step z L f m)
  unfolding lock_step lock_refusal bad_buffers bad_record bad_lane bad_txn already_logged lock_held refusal_of lane_of
  lock-moves f =
      unless-by (Move z m (lock L f)) _ m _ (refusing _ refl)
      (λ e.
      let k = first_three _ e in
      let c₅ = none-holds _ _ _ k.1 in
      let c₆ = none-holds _ _ _ c₅.1 in
      let c₁₁ = none-holds _ _ _ c₆.1 in
      let c₁₂ = none-holds _ _ _ c₁₁.1 in
      let c₈ = none-holds _ _ _ c₁₂.1 in
      let c₁₅ = none-holds _ _ _ c₈.1 in
      let c₉ = none-holds _ _ _ c₁₅.1 in
      let n = length (writes_on z f m) in
      let ok = not-false (txn_by current max_long z.words f) c₅.0 in
      cond-by (Move z m (lock L f)) (eqb n 0) _ _ (λ t. draining k.0 (idling L f (eqb-true n 0 t)))
      (λ t.
      let p : 0 < n = positive n (eqb-false n 0 t) in
      locking L f k.0 ok c₆.0 c₁₁.0 (ltb-false (z.slots - 17) (slots_counted f) c₁₂.0) p
      (record { clock = rest (leb 1 n) _ (le-leb 1 n p) c₈.0; slots = rest (leb 1 n) _ (le-leb 1 n p) c₉.0 })))

  proceed-moves : Move z m (proceed L) (proceed_step z L m)
  unfolding proceed_step proceed_refusal next_step bad_buffers bad_record bad_lane refusal_of
  proceed-moves =
      unless-by (Move z m (proceed L)) _ m _ (refusing _ refl)
      (λ e.
      let k = first_three _ e in
      let c₇ = none-holds _ _ _ k.1 in
      let c₁₁ = none-holds _ _ _ c₇.1 in
      let x = locked_in m.state.lock in
      let same = eqb-true x.lane L (not-false (eqb x.lane L) c₁₁.0) in
      let h = is-locked m.state.lock (not-false (is_held m.state.lock) c₇.0) in
      subst (λ (M : ℕ). Known z m M → Move z m (proceed M) (next_step z x (drained z M m))) same
      (λ known. cond-by (Move z m (proceed x.lane)) (eqb x.logged x.written) _ _
      (λ t. parting x known h (eqb-true x.logged x.written t)) (λ t. writing x known h (eqb-false x.logged x.written t)))
      k.0)

log-moves : (z : Sizes) (m : Machine) (L : ℕ) (q : Rule) (f : List ℕ) → Move z m (log_by q L f) (log_step_by q z L f m)
unfolding log_step_by
log-moves z m L q [] = settle-moves z m L q
log-moves z m L q (w ∷ f) = txn-moves z m L q f w

pub call-moves : (z : Sizes) (m : Machine) (c : Call) → Move z m c (call_step z c m)
unfolding call_step
call-moves z m (log_by r L f) = log-moves z m L r f
call-moves z m (redo L) = redo-moves z m L
call-moves z m (validate_by r L f) = validate-moves z m L r f
call-moves z m (mark L) = mark-moves z m L
call-moves z m (drain L) = drain-moves z m L
call-moves z m (lock L f) = lock-moves z m L f
call-moves z m (proceed L) = proceed-moves z m L
