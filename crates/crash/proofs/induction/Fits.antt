-- What a call that is taken tells of the lock, by the answers that the theorem gives: a step finds it free, and Continue finds it held by its own lane.
-- Assumes nothing.
use Rattle.std.specs.Prelude.{Option, Some, None}
use mathlib.Core.Path.{◌≡◌, refl, subst}
use mathlib.Core.Bool.{true, false, not}
use mathlib.Core.List.{List, [], ◌∷◌}
use Prim.Native.Nat.{ℕ}
use lib.Dec.{eqb}
use borrow.Author.Tests.{eqb-true, not-false}
use Rattle.laws.specs.inner.Tests.{clash}
use Rattle.image.specs.declared.Sizes.{Sizes}
use Rattle.store.specs.Machine.{Machine, said}
use Rattle.store.specs.Calls.{bad_lane, bad_txn}
use Rattle.store.specs.Answers.{Answer}
use Rattle.crash.specs.Events.{Call, log_by, redo, validate_by, mark, drain, lock, proceed, call, System, live, down}
use Rattle.crash.specs.Events.{Reply, answered, recovered, failed, ignored}
use Rattle.crash.specs.History.{Holder, History, is_some, not_held, lock_held, held_elsewhere, causes_by}
use Rattle.crash.specs.Theorem.{Replied, refusal_by, answer_by}
use Rattle.crash.specs.Corollaries.{is_done}
use Rattle.crash.proofs.induction.Moves.{none-holds, cond-by}

abbrev pub Fits : Call → History → Type 0
Fits (log_by r L f) h = h.lock ≡ None
Fits (redo L) h = h.lock ≡ None
Fits (validate_by r L f) h = h.lock ≡ None
Fits (mark L) h = h.lock ≡ None
Fits (drain L) h = Unit {0}
Fits (lock L f) h = h.lock ≡ None
Fits (proceed L) h = (k : Holder) → h.lock ≡ Some k → k.lane ≡ L

free : (x : Option Holder) → is_some x ≡ false → x ≡ None
unfolding is_some
free None e = refl
free (Some k) e = clash true refl e

own : (L : ℕ) (x : Option Holder) → held_elsewhere L x ≡ false → (k : Holder) → x ≡ Some k → k.lane ≡ L
unfolding held_elsewhere
own L x e k p = eqb-true k.lane L (not-false _ (subst (λ (y : Option Holder). held_elsewhere L y ≡ false) p e))

module _ (z : Sizes) (h : History) where
  pub refusal-fits : (c : Call) (m : Machine) → refusal_by z c h m ≡ 0 → Fits c h
  unfolding refusal_by causes_by bad_lane bad_txn not_held lock_held
  refusal-fits (log_by r L []) m e =
      let c₃ = none-holds _ _ _ e in
      let c₆ = none-holds _ _ _ c₃.1 in
      free h.lock (none-holds _ _ _ c₆.1).0
  refusal-fits (log_by r L (w ∷ f)) m e =
      let c₃ = none-holds _ _ _ e in
      let c₅ = none-holds _ _ _ c₃.1 in
      let c₆ = none-holds _ _ _ c₅.1 in
      free h.lock (none-holds _ _ _ c₆.1).0
  refusal-fits (redo L) m e =
      let c₃ = none-holds _ _ _ e in
      let c₇ = none-holds _ _ _ c₃.1 in
      free h.lock (none-holds _ _ _ c₇.1).0
  refusal-fits (validate_by r L f) m e =
      let c₃ = none-holds _ _ _ e in
      let c₅ = none-holds _ _ _ c₃.1 in
      let c₇ = none-holds _ _ _ c₅.1 in
      free h.lock (none-holds _ _ _ c₇.1).0
  refusal-fits (mark L) m e = let c₃ = none-holds _ _ _ e in free h.lock (none-holds _ _ _ c₃.1).0
  refusal-fits (drain L) m e = tt
  refusal-fits (lock L f) m e =
      let c₃ = none-holds _ _ _ e in
      let c₅ = none-holds _ _ _ c₃.1 in
      let c₆ = none-holds _ _ _ c₅.1 in
      free h.lock (none-holds _ _ _ c₆.1).0
  refusal-fits (proceed L) m e =
      let c₃ = none-holds _ _ _ e in
      let c₇ = none-holds _ _ _ c₃.1 in
      own L h.lock (none-holds _ _ _ c₇.1).0

  answer-fits : (c : Call) (m : Machine) → not (said (answer_by z c h m)).refused ≡ true → Fits c h
  unfolding answer_by said
  answer-fits c m e =
      cond-by (λ a. not (said a).refused ≡ true → Fits c h) (eqb (refusal_by z c h m) 0) _ _
      (λ t p. refusal-fits c m (eqb-true (refusal_by z c h m) 0 t)) (λ t p. clash false p refl) e

  pub replied-fits : (end : List ℕ) (c : Call) (was y : System) (found : List ℕ) (r : Reply) → Replied z end h (call c) was found y r → is_done r ≡ true
      → Fits c h
  unfolding is_done
  replied-fits end c (live m) y found (answered a) v e =
      answer-fits c m (subst (λ (x : Answer). not (said x).refused ≡ true) v.gives e)
  replied-fits end c (down nvm j f) y found (answered a) v e = absurd v
  replied-fits end c was y found (recovered r) v e = absurd v
  replied-fits end c was y found (failed d) v e = clash false e refl
  replied-fits end c was y found ignored v e = clash false e refl
