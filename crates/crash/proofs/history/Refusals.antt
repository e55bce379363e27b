-- A call's refusal is the one that the theorem gives: causes 1 and 2 do not hold, and the others are the same tests, of machine or history. Assumes nothing.
use Rattle.std.specs.Prelude.{Option, Some, None}
use mathlib.Core.Path.{◌≡◌, refl, ap, ◌∙◌, sym}
use mathlib.Core.Bool.{Bool, true, false, cond, not, ◌&&◌, and-false}
use mathlib.Core.List.{List, [], ◌∷◌, ◌++◌}
use Prim.Native.Nat.{ℕ, zero, suc, ◌+◌, ◌-◌, ◌^◌, ◌<◌}
use lib.Dec.{eqb, leb}
use lib.ListN.{length}
use native.Mathlib.Omega.{arith}
use borrow.Author.Tests.{leb-false, le-leb, le-ltb, eq-eqb, ne_eqb}
use Rattle.laws.specs.inner.Tests.{and_both}
use Rattle.txn.specs.Txn.{Rule, run}
use Rattle.image.specs.Image.{buffers_ok}
use Rattle.image.specs.declared.Sizes.{Sizes}
use Rattle.lane_log.specs.Log.{Complete, complete_in, back, ahead, overlaps, hits_from, hits}
use Rattle.record.specs.Record.{lane_at, is_logged, lock_length, is_held, locked_in, record_ok, spent, bound_of, lag_passed}
use Rattle.store.specs.Machine.{Machine, Step, Cause, first_cause, unless, said}
use Rattle.store.specs.Calls.{bad_buffers, bad_record, bad_lane, bad_txn, already_logged, not_logged, lock_held, clock_spent, drained}
use Rattle.store.specs.Calls.{would_hit, would_lag, writes_on, drain_refusal, drain_step}
use Rattle.store.specs.Calls.{log_txn_refusal_by, log_txn_step_by, settle_refusal, settle_step, log_refusal_by, log_step_by}
use Rattle.store.specs.Calls.{redo_refusal, redo_step, is_stale, validate_refusal_by, validate_step_by, matches, mark_refusal, mark_step}
use Rattle.store.specs.Locks.{slots_counted, lock_refusal, lock_step, proceed_refusal, next_step, proceed_step}
use Rattle.crash.specs.Events.{Call, log_by, redo, validate_by, mark, drain, lock, proceed, lane_of, call_step}
use Rattle.crash.specs.History as book
use Rattle.crash.specs.History.{Holder, History, is_some, held_elsewhere, after_drain, least_floor_of, writes_now, holds_one, causes_by, slots_by}
use Rattle.crash.specs.Theorem.{Progress, lock_state, holder_state, Live, is_full, refusal_by}
use Rattle.crash.proofs.induction.Moves.{refusal_of, unless-by}
use Rattle.record.specs.Record.{Lock}

-- causes 1 and 2 do not hold
pub record Fine (z : Sizes) (m : Machine) : Type 0 where
  pub buffers : buffers_ok z (length m.cache) (length m.nvm) (length m.flags) ≡ true
  pub pairs : length m.pairs ≡ lock_length
  pub fields : record_ok z m.state m.pairs ≡ true

-- the whole test of cause 1
fine-buffers : (z : Sizes) (m : Machine) → Fine z m
    → (buffers_ok z (length m.cache) (length m.nvm) (length m.flags) && eqb (length m.pairs) lock_length) ≡ true
fine-buffers z m ok = and_both _ _ ok.buffers (eq-eqb (length m.pairs) lock_length ok.pairs)

-- a last cause that does not hold
pub end-false : (cs : List Cause) (n : ℕ) → first_cause (cs ++ (record { number = n; holds = false } ∷ [])) ≡ first_cause cs
unfolding first_cause
end-false [] n = refl
end-false (c ∷ cs) n = ap (cond c.holds c.number) (end-false cs n)

-- no slots hit nothing
over_nothing : (N k j n : ℕ) → overlaps N k 0 j n ≡ false
unfolding overlaps
over_nothing N k j zero = le-ltb (ahead N k j) 0 (omega arith)
over_nothing N k j (suc n) = rw (le-ltb (ahead N k (back N j (suc n))) 0 (omega arith), over_nothing N k j n)

from_nothing : (N k b : ℕ) (qs : List Complete) → hits_from N k 0 b qs ≡ false
unfolding hits_from
from_nothing N k b [] = refl
from_nothing N k b (q ∷ qs) = rw (over_nothing N k q.slot (length q.entries), and-false (leb b q.stamp), from_nothing N k b qs)

hits-nothing : (N k : ℕ) (b : Option ℕ) (qs : List Complete) → hits N k 0 b qs ≡ false
unfolding hits
hits-nothing N k None qs = refl
hits-nothing N k (Some b) qs = from_nothing N k b qs

-- the first two causes of a list do not hold, and where the third does not, the rest are the same
pub past_two : (a b c : Bool) (n : ℕ) (cs ds : List Cause) → a ≡ true → b ≡ true → (c ≡ false → first_cause cs ≡ first_cause ds)
    → first_cause (record { number = 1; holds = not a } ∷ record { number = 2; holds = not b } ∷ record { number = n; holds = c } ∷ cs)
    ≡ first_cause (record { number = n; holds = c } ∷ ds)
unfolding first_cause
past_two a b true n cs ds p q f = rw (p, q)
past_two a b false n cs ds p q f = rw (p, q) (f refl)

-- ---- the lock
held_same : (l : Lock) (y : Option Holder) → lock_state l ≡ holder_state y → is_held l ≡ is_some y
unfolding lock_state holder_state is_held is_some
held_same None None e = refl
held_same None (Some k) e = absurd (let z : ◌≡◌ {A = ℕ} 0 1 = cc in omega arith)
held_same (Some k) None e = absurd (let z : ◌≡◌ {A = ℕ} 0 1 = cc in omega arith)
held_same (Some k) (Some y) e = refl

abbrev lane-in : Option Progress → ℕ
lane-in None = 0
lane-in (Some p) = p.lane

-- no lock, or another lane's
proceed-same : (l : Lock) (y : Option Holder) (L : ℕ) → lock_state l ≡ holder_state y
    → first_cause (record { number = 7; holds = not (is_held l) } ∷ record { number = 11; holds = not (eqb (locked_in l).lane L) } ∷ [])
    ≡ first_cause (record { number = 7; holds = not (is_some y) } ∷ record { number = 11; holds = held_elsewhere L y } ∷ [])
unfolding lock_state holder_state is_held is_some locked_in held_elsewhere first_cause
proceed-same None None L e = refl
proceed-same None (Some k) L e = absurd (let z : ◌≡◌ {A = ℕ} 0 1 = cc in omega arith)
proceed-same (Some k) None L e = absurd (let z : ◌≡◌ {A = ℕ} 0 1 = cc in omega arith)
proceed-same (Some k) (Some y) L e = let d : k.lane ≡ y.lane = ap lane-in e in rw d

-- ---- the tests that machine and history share
module _ (z : Sizes) (h : History) (m : Machine) (v : Live z h m) where
  pub same_writes : (f : List ℕ) → writes_on z f m ≡ writes_now z f h
  unfolding writes_on writes_now
  same_writes f = ap (run z.words f) v.words

  pub same-spent : spent m.state ≡ book.clock_spent h
  unfolding spent book.clock_spent
  same-spent = ap (leb (2 ^ 64 - 2)) v.clock

  pub same-held : (L : ℕ) → L < z.lanes → is_logged (lane_at m.state L).phase ≡ holds_one L h
  unfolding holds_one
  same-held L l = v.held L l

  pub same-lock : is_held m.state.lock ≡ is_some h.lock
  same-lock = held_same m.state.lock h.lock v.lock

  -- an append that would hit something, by the history's least floor
  module _ (bound : (L : ℕ) → L < z.lanes → bound_of z (drained z L m).state ≡ least_floor_of (after_drain L h).pages) where
    same-hit : (L n : ℕ) → L < z.lanes
        → would_hit z L n m ≡ hits z.slots (lane_at m.state L).next n (least_floor_of (after_drain L h).pages) (complete_in z m.cache L)
    unfolding would_hit
    same-hit L n l = ap (λ (b : Option ℕ). hits z.slots (lane_at m.state L).next n b (complete_in z m.cache L)) (bound L l)

    -- a timestamp further above that floor than the lag limit
    same-lag : (L : ℕ) → L < z.lanes → would_lag z L m ≡ book.would_lag L h
    unfolding would_lag book.would_lag
    same-lag L l = ap (lag_passed m.state.lag (m.state.clock + 2)) (bound L l) ∙ rw (v.lag, v.clock)

    log-full : (r : Rule) (L w : ℕ) (f : List ℕ) → L < z.lanes
        → (leb 1 (length (writes_now z (w ∷ f) h)) && would_hit z L (length (writes_now z (w ∷ f) h) + 1) m) ≡ is_full z (log_by r L (w ∷ f)) h m
    unfolding is_full slots_by lane_of
    log-full r L w f l = go (length (writes_now z (w ∷ f) h))
      where
        go : (n : ℕ) → (leb 1 n && would_hit z L (n + 1) m)
            ≡ hits z.slots (lane_at m.state L).next (cond (eqb n 0) 0 (n + 1)) (least_floor_of (after_drain L h).pages) (complete_in z m.cache L)
        go zero = sym (hits-nothing z.slots (lane_at m.state L).next (least_floor_of (after_drain L h).pages) (complete_in z m.cache L))
        go (suc n) = rw (le-leb 1 (suc n) (omega arith), ne_eqb (suc n) 0 (λ e. omega arith)) (same-hit L (suc n + 1) l)

    lock-full : (L : ℕ) (f : List ℕ) → L < z.lanes
        → (leb 1 (length (writes_now z f h)) && would_hit z L (slots_counted f) m) ≡ is_full z (lock L f) h m
    unfolding is_full slots_by lane_of
    lock-full L f l = go (length (writes_now z f h))
      where
        go : (n : ℕ) → (leb 1 n && would_hit z L (slots_counted f) m)
            ≡ hits z.slots (lane_at m.state L).next (cond (eqb n 0) 0 (slots_counted f)) (least_floor_of (after_drain L h).pages) (complete_in z m.cache L)
        go zero = sym (hits-nothing z.slots (lane_at m.state L).next (least_floor_of (after_drain L h).pages) (complete_in z m.cache L))
        go (suc n) = rw (le-leb 1 (suc n) (omega arith), ne_eqb (suc n) 0 (λ e. omega arith)) (same-hit L (slots_counted f) l)

    -- a call that appends a mark
    mark-full : (c : Call) → slots_by z c h ≡ 1 → lane_of c < z.lanes → would_hit z (lane_of c) 1 m ≡ is_full z c h m
    unfolding is_full
    mark-full c e l = rw e (same-hit (lane_of c) 1 l)

    -- a call that appends nothing
    none-full : (c : Call) → slots_by z c h ≡ 0 → refusal_by z c h m ≡ first_cause (causes_by z c h)
    unfolding refusal_by is_full
    none-full c e =
        rw (e, hits-nothing z.slots (lane_at m.state (lane_of c)).next (least_floor_of (after_drain (lane_of c) h).pages) (complete_in z m.cache (lane_of c)))
        (end-false (causes_by z c h) 9)

    module _ (ok : Fine z m) where
      log-refusal : (r : Rule) (L : ℕ) (f : List ℕ) → refusal_of z (log_by r L f) m ≡ refusal_by z (log_by r L f) h m
      unfolding refusal_of log_refusal_by log_txn_refusal_by settle_refusal refusal_by causes_by slots_by lane_of bad_buffers bad_record bad_lane bad_txn already_logged
          lock_held clock_spent book.lock_held
      log-refusal r L [] =
          past_two _ _ (leb z.lanes L) 3 _ _ (fine-buffers z m ok) ok.fields
          (λ e. let l = leb-false z.lanes L e in rw (same-spent, same-lock, same-held L l, same-lag L l, mark-full (log_by r L []) refl l))
      log-refusal r L (w ∷ f) =
          past_two _ _ (leb z.lanes L) 3 _ _ (fine-buffers z m ok) ok.fields
          (λ e. let l = leb-false z.lanes L e in rw (same_writes (w ∷ f), same-spent, same-lock, same-held L l, same-lag L l, log-full r L w f l))

      mark-refusal : (L : ℕ) → refusal_of z (mark L) m ≡ refusal_by z (mark L) h m
      unfolding refusal_of mark_refusal refusal_by causes_by slots_by lane_of bad_buffers bad_record bad_lane lock_held clock_spent book.lock_held
      mark-refusal L =
          past_two _ _ (leb z.lanes L) 3 _ _ (fine-buffers z m ok) ok.fields
          (λ e. rw (same-spent, same-lock, mark-full (mark L) refl (leb-false z.lanes L e)))

      redo-refusal : (L : ℕ) → refusal_of z (redo L) m ≡ first_cause (causes_by z (redo L) h)
      unfolding refusal_of redo_refusal causes_by bad_buffers bad_record bad_lane not_logged lock_held clock_spent book.not_held book.lock_held
      redo-refusal L =
          past_two _ _ (leb z.lanes L) 3 _ _ (fine-buffers z m ok) ok.fields (λ e. rw (same-spent, same-lock, same-held L (leb-false z.lanes L e)))

      validate-refusal : (r : Rule) (L : ℕ) (f : List ℕ) → refusal_of z (validate_by r L f) m ≡ first_cause (causes_by z (validate_by r L f) h)
      unfolding refusal_of validate_refusal_by causes_by bad_buffers bad_record bad_lane bad_txn not_logged lock_held clock_spent book.not_held book.lock_held
      validate-refusal r L f =
          past_two _ _ (leb z.lanes L) 3 _ _ (fine-buffers z m ok) ok.fields (λ e. rw (same-spent, same-lock, same-held L (leb-false z.lanes L e)))

      drain-refusal : (L : ℕ) → refusal_of z (drain L) m ≡ first_cause (causes_by z (drain L) h)
      unfolding refusal_of drain_refusal causes_by bad_buffers bad_record bad_lane
      drain-refusal L = past_two _ _ (leb z.lanes L) 3 _ _ (fine-buffers z m ok) ok.fields (λ e. refl)

      lock-refusal : (L : ℕ) (f : List ℕ) → refusal_of z (lock L f) m ≡ refusal_by z (lock L f) h m
      unfolding refusal_of lock_refusal refusal_by causes_by slots_by lane_of bad_buffers bad_record bad_lane bad_txn already_logged lock_held book.lock_held
      lock-refusal L f =
          past_two _ _ (leb z.lanes L) 3 _ _ (fine-buffers z m ok) ok.fields
          (λ e. let l = leb-false z.lanes L e in rw (same_writes f, same-spent, same-lock, same-held L l, same-lag L l, lock-full L f l))

      proceed-refusal : (L : ℕ) → refusal_of z (proceed L) m ≡ first_cause (causes_by z (proceed L) h)
      unfolding refusal_of proceed_refusal causes_by bad_buffers bad_record bad_lane
      proceed-refusal L =
          past_two _ _ (leb z.lanes L) 3 _ _ (fine-buffers z m ok) ok.fields (λ e. proceed-same m.state.lock h.lock L v.lock)

      pub refusal-by : (c : Call) → refusal_of z c m ≡ refusal_by z c h m
      unfolding slots_by
      refusal-by (log_by r L f) = log-refusal r L f
      refusal-by (redo L) = redo-refusal L ∙ sym (none-full (redo L) refl)
      refusal-by (validate_by r L f) = validate-refusal r L f ∙ sym (none-full (validate_by r L f) refl)
      refusal-by (mark L) = mark-refusal L
      refusal-by (drain L) = drain-refusal L ∙ sym (none-full (drain L) refl)
      refusal-by (lock L f) = lock-refusal L f
      refusal-by (proceed L) = proceed-refusal L ∙ sym (none-full (proceed L) refl)

-- ---- the number in the answer
number-unless : (n : ℕ) (m : Machine) (s : Step) → (said s.answer).number ≡ 0 → (said (unless n m s).answer).number ≡ n
unfolding said
number-unless n m s e = unless-by (λ (t : Step). (said t.answer).number ≡ n) n m s (λ d. refl) (λ p. e ∙ sym p)

number-cond : (b : Bool) (s t : Step) → (said s.answer).number ≡ 0 → (said t.answer).number ≡ 0 → (said (cond b s t).answer).number ≡ 0
number-cond true s t p q = p
number-cond false s t p q = q

-- a call answers the number of its refusal
pub number_is : (z : Sizes) (m : Machine) (c : Call) → (said (call_step z c m).answer).number ≡ refusal_of z c m
unfolding call_step refusal_of log_step_by log_refusal_by log_txn_step_by settle_step redo_step validate_step_by mark_step drain_step lock_step proceed_step next_step said
number_is z m (log_by r L []) = number-unless (settle_refusal z L m) m _ refl
number_is z m (log_by r L (w ∷ f)) =
    number-unless (log_txn_refusal_by r z L (w ∷ f) m) m _ (number-cond (eqb (length (writes_on z (w ∷ f) m)) 0) _ _ refl refl)
number_is z m (redo L) = number-unless (redo_refusal z L m) m _ (number-cond (is_stale L m) _ _ refl refl)
number_is z m (validate_by r L f) = number-unless (validate_refusal_by r z L f m) m _ (number-cond (matches z L (writes_on z f m) m) _ _ refl refl)
number_is z m (mark L) = number-unless (mark_refusal z L m) m _ refl
number_is z m (drain L) = number-unless (drain_refusal z L m) m _ refl
number_is z m (lock L f) = number-unless (lock_refusal z L f m) m _ (number-cond (eqb (length (writes_on z f m)) 0) _ _ refl refl)
number_is z m (proceed L) =
    number-unless (proceed_refusal z L m) m _
    (number-cond (eqb (locked_in m.state.lock).logged (locked_in m.state.lock).written) _ _ refl refl)
