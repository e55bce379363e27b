-- Inner: how the code goes, need not be believed. Laws of refusals and steps: the first cause that holds, what a call knows that is not refused 1, 2 or
-- 3, a refused and a taken step, a drain. Assumes nothing.
use Rattle.std.specs.Prelude.{ℕ, ◌<◌, ◌≡◌, Bool, List, [], ◌∷◌, length, ltb, eqb}
use Rattle.std.proofs.Math.Path.{refl}
use Rattle.std.proofs.Common.{sym, ◌∙◌, arith}
use Rattle.std.proofs.Math.Bool.{true, false, cond}
use Rattle.std.proofs.Math.Decide.{ℕ_discrete}
use Rattle.std.proofs.Math.Seq.{get_or-set_same, set_out}
use borrow.Author.Tests.{ne_eqb, eqb-true, leb-false, ltb-true, ltb-false, not-false}
use Rattle.laws.specs.inner.Tests.{split, and_left, and_right}
use Rattle.txn.specs.Txn.{current, txn_ok}
use Rattle.image.specs.Image.{max_lanes, sizes_ok, image_length, buffers_ok}
use Rattle.image.specs.inner.ImageLaws.{sizes-in, AllAre, format-in, Buffers, buffers-in}
use Rattle.image.specs.Flush.{drained_nvm, drained_flags}
use Rattle.image.specs.declared.Sizes.{Sizes}
use Rattle.lane_log.specs.Log.{latest_in}
use Rattle.record.specs.Record.{lock_length, no_lane, lane_at, lag_ok, with_lane, drained_lane}
use Rattle.record.specs.declared.Lane.{Lane}
use Rattle.record.specs.declared.Record.{Record}
use Rattle.store.specs.Answers.{Refused}
use Rattle.store.specs.Machine.{Machine, Step, Cause, first_cause, unless}
use Rattle.store.specs.Calls.{bad_buffers, bad_record, bad_lane, bad_txn, bad_lag, format_refusal, write_back_refusal, drain_refusal, drained}
use Rattle.store.specs.Interface.{machine_of}
use Rattle.store.specs.inner.Checked.{Checked, drained_state}

-- ---- the first cause
pub first_holds : (c : Cause) (cs : List Cause) → c.holds ≡ true → first_cause (c ∷ cs) ≡ c.number
unfolding first_cause
first_holds c cs e = rw e

pub first-fails : (c : Cause) (cs : List Cause) → c.holds ≡ false → first_cause (c ∷ cs) ≡ first_cause cs
unfolding first_cause
first-fails c cs e = rw e

pub first-end : first_cause [] ≡ 0
unfolding first_cause
first-end = refl

-- where no cause holds, the first does not, and none of the rest
pub first-none : (c : Cause) (cs : List Cause) → (c.number ≡ 0 → ⊥) → first_cause (c ∷ cs) ≡ 0 → (c.holds ≡ false) × (first_cause cs ≡ 0)
first-none c cs h e =
    split c.holds
    (λ t. absurd (h (sym (first_holds c cs t) ∙ e)))
    (λ f. (f, sym (first-fails c cs f) ∙ e))

-- ---- causes of several calls, before any others
module _ (cs : List Cause) where
  pub refuses-txn : (most : ℕ) (z : Sizes) (f : List ℕ) → txn_ok most z.words f ≡ false → first_cause (bad_txn current most z f ∷ cs) ≡ 5
  unfolding bad_txn
  refuses-txn most z f e = first_holds _ cs (rw e)

  pub passes-txn : (most : ℕ) (z : Sizes) (f : List ℕ) → txn_ok most z.words f ≡ true → first_cause (bad_txn current most z f ∷ cs) ≡ first_cause cs
  unfolding bad_txn
  passes-txn most z f e = first-fails _ cs (rw e)

-- ---- the causes that every call on a lane has first: Drain's
module _ (z : Sizes) (m : Machine) where
  pub good-buffers : (bad_buffers z m).holds ≡ false → Buffers z (length m.cache) (length m.nvm) (length m.flags)
  unfolding bad_buffers
  good-buffers e = buffers-in z _ _ _ (and_left _ (eqb (length m.pairs) lock_length) (not-false _ e))

  pub good-pairs : (bad_buffers z m).holds ≡ false → length m.pairs ≡ lock_length
  unfolding bad_buffers
  good-pairs e = eqb-true _ _ (and_right (buffers_ok z (length m.cache) (length m.nvm) (length m.flags)) _ (not-false _ e))

  pub lane-causes : (L : ℕ) → drain_refusal z L m ≡ 0 → ((bad_buffers z m).holds ≡ false) × ((bad_record z m).holds ≡ false) × ((bad_lane z L).holds ≡ false)
  unfolding drain_refusal bad_buffers bad_record bad_lane
  lane-causes L e =
      let a = first-none _ _ (λ q. omega arith) e in
      let b = first-none _ _ (λ q. omega arith) a.1 in
      let c = first-none _ _ (λ q. omega arith) b.1 in
      (a.0, b.0, c.0)

-- what a call on a lane knows where Drain is not refused
pub checked : (z : Sizes) (state : Record) (pairs cache nvm flags : List ℕ) (L : ℕ) → drain_refusal z L (machine_of state pairs cache nvm flags) ≡ 0
    → Checked z state pairs cache nvm flags L
unfolding bad_record bad_lane
checked z state pairs cache nvm flags L e =
    let h = lane-causes z (machine_of state pairs cache nvm flags) L e in
    let k = good-buffers z (machine_of state pairs cache nvm flags) h.0 in
    record {
      image = record { sizes-ok = k.sizes-ok; in_image = k.fits; small = k.small };
      same-nvm = k.same-nvm;
      same_flags = k.same_flags;
      in_pairs = good-pairs z (machine_of state pairs cache nvm flags) h.0;
      in-range = not-false _ h.1;
      lane_below = leb-false z.lanes L h.2;
    }

-- a lane is one of the most lanes that there may be
pub lane-small : (z : Sizes) (L : ℕ) → sizes_ok z ≡ true → L < z.lanes → L < max_lanes
lane-small z L ok h = omega (arith, (sizes-in z ok).lanes-high)

-- a call with further causes is refused by Drain's number where that is not 0, and else by the first of its own
module _ (z : Sizes) (L : ℕ) (m : Machine) (cs : List Cause) where
  pub at-lane : (drain_refusal z L m ≡ 0 → ⊥) → first_cause (bad_buffers z m ∷ bad_record z m ∷ bad_lane z L ∷ cs) ≡ drain_refusal z L m
  unfolding drain_refusal first_cause
  at-lane h = go (bad_buffers z m).holds (bad_record z m).holds (bad_lane z L).holds h
    where
      go : (p q r : Bool) → (cond p (bad_buffers z m).number (cond q (bad_record z m).number (cond r (bad_lane z L).number 0)) ≡ 0 → ⊥)
          → cond p (bad_buffers z m).number (cond q (bad_record z m).number (cond r (bad_lane z L).number (first_cause cs)))
          ≡ cond p (bad_buffers z m).number (cond q (bad_record z m).number (cond r (bad_lane z L).number 0))
      go true q r h = refl
      go false true r h = refl
      go false false true h = refl
      go false false false h = absurd (h refl)

  pub after-lane : drain_refusal z L m ≡ 0 → first_cause (bad_buffers z m ∷ bad_record z m ∷ bad_lane z L ∷ cs) ≡ first_cause cs
  after-lane e = let h = lane-causes z m L e in first-fails _ _ h.0 ∙ first-fails _ _ h.1 ∙ first-fails _ _ h.2

  -- where it is not refused, neither Drain's causes nor its own hold
  pub lane-passed : first_cause (bad_buffers z m ∷ bad_record z m ∷ bad_lane z L ∷ cs) ≡ 0 → (drain_refusal z L m ≡ 0) × (first_cause cs ≡ 0)
  lane-passed h =
      elim (ℕ_discrete (drain_refusal z L m) 0) [ yes e ↦ (e, sym (after-lane e) ∙ h) | no d ↦ absurd (d (sym (at-lane d) ∙ h)) ]

-- ---- what Format and write-back know where they are not refused
module _ (z : Sizes) (m : Machine) where
  pub format-checked : (lag : ℕ) (start : List ℕ) → format_refusal z lag start m ≡ 0
      → (sizes_ok z ≡ true) × AllAre (image_length z) (length m.cache) (length m.nvm) (length m.flags) × (length start ≡ z.words)
      × (lag_ok lag ≡ true)
  unfolding format_refusal bad_lag
  format-checked lag start e =
      let a = first-none _ _ (λ q. omega arith) e in
      let b = first-none _ _ (λ q. omega arith) a.1 in
      let c = first-none _ _ (λ q. omega arith) b.1 in
      let f = format-in z _ _ _ (not-false _ a.0) in
      (f.0, f.1, eqb-true (length start) z.words (not-false _ b.0), not-false _ c.0)

  pub write_back-checked : (i : ℕ) → write_back_refusal z i m ≡ 0
      → Buffers z (length m.cache) (length m.nvm) (length m.flags) × (i < length m.cache)
  unfolding write_back_refusal bad_buffers
  write_back-checked i e =
      let a = first-none _ _ (λ q. omega arith) e in
      let b = first-none _ _ (λ q. omega arith) a.1 in
      (good-buffers z m a.0, leb-false (length m.cache) i b.0)

-- ---- steps, where a call has found the number of its refusal
module _ (number refusal : ℕ) (m : Machine) (step : Step) (e : number ≡ refusal) where
  pub step-refused : (number ≡ 0 → ⊥) → record { answer = Refused number; machine = m } ≡ unless refusal m step
  unfolding unless
  step-refused h = rw (← e, ne_eqb number 0 h)

  pub step-taken : number ≡ 0 → step ≡ unless refusal m step
  unfolding unless
  step-taken h = rw (← e, h)

-- ---- a drain
module _ (z : Sizes) (L : ℕ) (state : Record) (pairs cache nvm flags : List ℕ) where
  pub drained-by : (state' : Record) (nvm' flags' : List ℕ) → state' ≡ drained_state z cache L state → nvm' ≡ drained_nvm L flags cache nvm
      → flags' ≡ drained_flags L flags → machine_of state' pairs cache nvm' flags' ≡ drained z L (machine_of state pairs cache nvm flags)
  unfolding drained drained_state
  drained-by state' nvm' flags' e f g = rw (e, f, g)

pub drained-state : (z : Sizes) (L : ℕ) (m : Machine) → (drained z L m).state ≡ drained_state z m.cache L m.state
unfolding drained drained_state
drained-state z L m = refl

-- lanes that differ in their floor alone
pub record SameButFloor (l k : Lane) : Type 0 where
  pub phase : l.phase ≡ k.phase
  pub next : l.next ≡ k.next
  pub wrap : l.wrap ≡ k.wrap
  pub redo : l.redo ≡ k.redo

-- a drain keeps all of the record but the lane's floor
module _ (z : Sizes) (cache : List ℕ) (L : ℕ) (r : Record) where
  pub drained-clock : (drained_state z cache L r).clock ≡ r.clock
  unfolding drained_state with_lane
  drained-clock = refl

  pub drained-last : (drained_state z cache L r).last ≡ r.last
  unfolding drained_state with_lane
  drained-last = refl

  pub drained-lane : L < length r.lanes → lane_at (drained_state z cache L r) L ≡ drained_lane (latest_in z cache L) (lane_at r L)
  unfolding drained_state with_lane lane_at
  drained-lane h = get_or-set_same r.lanes L _ _ h

  pub drained-keeps : SameButFloor (lane_at (drained_state z cache L r) L) (lane_at r L)
  unfolding drained_state with_lane drained_lane lane_at
  drained-keeps =
      split (ltb L (length r.lanes))
      (λ t. rw (get_or-set_same r.lanes L (drained_lane (latest_in z cache L) (lane_at r L)) no_lane (ltb-true _ _ t))
      (record { phase = refl; next = refl; wrap = refl; redo = refl }))
      (λ f. rw (set_out r.lanes L (drained_lane (latest_in z cache L) (lane_at r L)) (ltb-false _ _ f))
      (record { phase = refl; next = refl; wrap = refl; redo = refl }))
