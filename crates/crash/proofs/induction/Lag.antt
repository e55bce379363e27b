-- A limit on lost work: a Log or a Lock that is taken finds the least floor at most the lag limit below its timestamp, and floors rise, end, or are set
-- at timestamps to come. Of every store of which the crash theorem holds. Assumes nothing.
use Rattle.std.specs.Prelude.{Option, Some, None}
use mathlib.Core.Path.{◌≡◌, refl, sym, subst, ◌∙◌}
use mathlib.Core.Logic.{inr}
use mathlib.Core.Bool.{true, false, cond, ◌&&◌}
use mathlib.Core.List.{List, [], ◌∷◌, ◌++◌}
use Prim.Native.Nat.{ℕ, zero, suc, ◌+◌, ◌-◌, ◌≤◌, ◌<◌}
use native.Mathlib.Omega.{arith}
use native.Mathlib.Nat.{le_refl}
use lib.Dec.{eqb, leb, ltb}
use lib.ListN.{length}
use borrow.Author.Tests.{ltb-true, ltb-false, lt-ltb, le-leb}
use Rattle.laws.specs.inner.Tests.{split, clash}
use Rattle.image.specs.Image.{trailer}
use Rattle.image.specs.declared.Sizes.{Sizes}
use Rattle.record.specs.Record.{lag_ok, lag_passed}
use Rattle.store.specs.Machine.{Machine, said}
use Rattle.store.specs.Calls.{bad_lane, bad_txn}
use Rattle.store.specs.Answers.{Answer}
use Rattle.store.specs.Answers as answer
use Rattle.recovery.specs.Recovery.{boundary, undo_stores, torn_in, recovery_stores, all_made}
use Rattle.recovery.specs.declared.Finished.{Finished as Done}
use Rattle.recovery.specs.Answers.{Recovered}
use Rattle.recovery.specs.Answers.{Refused, Cut, Finished}
use Rattle.crash.specs.Events.{Call, log_by, redo, validate_by, mark, drain, lock, proceed, lane_of}
use Rattle.crash.specs.Events.{Event, format, call, recover, System, live, down, nvm_of, Design, happens, after_recovery, found_or}
use Rattle.crash.specs.History.{History, is_below, after_drain}
use Rattle.crash.specs.History.{writes_now, lock_held, causes_by, taken_answer, would_lag, least_floor_of}
use Rattle.crash.specs.Theorem.{CrashTheorem, NotBelow, no_boundary, at_least, Finishes, recovery_answer, Holds, refusal_by}
use Rattle.crash.specs.Corollaries.{World, next_world, world_after, cut_cells, is_bound, LagTheorem}
use Rattle.crash.proofs.induction.Lists.{holds-next, holds_after}
use Rattle.crash.proofs.induction.Moves.{none-holds}
use Rattle.crash.proofs.induction.Pages.{after-keeps}
use Rattle.crash.proofs.induction.Fits.{Fits, refusal-fits}
use Rattle.crash.proofs.induction.Stamps.{one_more, Stamps, stamping, locking, parting, writing, reply-told}
use Rattle.crash.proofs.induction.Kept.{recovery-keeps}
use Rattle.crash.proofs.induction.Safe.{Rising, rising-keeping, rising-after, ahead-free, AllAbove, above-keeping, above_from, above-least, any_step}

-- ---- timestamps
-- a timestamp that does not pass the limit: the bound is above whatever is further below
not-passed : (lag s : ℕ) (b : Option ℕ) → lag_passed lag s b ≡ false → (u : ℕ) → u + lag < s → is_below b u ≡ true
unfolding lag_passed is_below
not-passed lag s None e u l = refl
not-passed lag s (Some f) e u l = lt-ltb u f (omega (arith, ltb-false (f + lag) s e))

-- and it does not pass it over a boundary that is not below such a bound
near-boundary : (lag s : ℕ) {f b : Option ℕ} → NotBelow f b → ((u : ℕ) → u + lag < s → is_below f u ≡ true) → lag_passed lag s b ≡ false
unfolding lag_passed is_below
near-boundary lag s no_boundary low = refl
near-boundary lag s (at_least {f = f} {b = b} l) low =
    split (ltb (b + lag) s) (λ e. absurd (omega (arith, ltb-true b f (low b (ltb-true (b + lag) s e))))) (λ e. e)

-- ---- a Log or a Lock that answers a timestamp: cause 15 is one of those that do not hold
module _ (z : Sizes) (h : History) (s : ℕ) where
  counted : (n : ℕ) (a : Answer) → (said (cond (eqb n 0) answer.NoWrites a)).stamp ≡ s ∷ [] → 1 ≤ n
  unfolding said
  counted zero a e = one_more e
  counted (suc n) a e = omega arith

  near : (x : Call) (m : Machine) → is_bound x ≡ true → refusal_by z x h m ≡ 0 → (said (taken_answer z x h)).stamp ≡ s ∷ [] → would_lag (lane_of x) h ≡ false
  unfolding refusal_by causes_by taken_answer bad_lane bad_txn lock_held is_bound lane_of
  near (log_by q L []) m b e t =
      let c₃ = none-holds _ _ _ e in
      let c₆ = none-holds _ _ _ c₃.1 in
      let c₁₁ = none-holds _ _ _ c₆.1 in
      let c₈ = none-holds _ _ _ c₁₁.1 in
      (none-holds _ _ _ c₈.1).0
  near (log_by q L (w ∷ f)) m b e t =
      let n = length (writes_now z (w ∷ f) h) in
      let c₃ = none-holds _ _ _ e in
      let c₅ = none-holds _ _ _ c₃.1 in
      let c₆ = none-holds _ _ _ c₅.1 in
      let c₁₁ = none-holds _ _ _ c₆.1 in
      let c₈ = none-holds _ _ _ c₁₁.1 in
      let c₁₅ : (leb 1 n && would_lag L h) ≡ false = (none-holds _ _ _ c₈.1).0 in
      rw (le-leb 1 n (counted n _ t)) at c₁₅
  near (lock L f) m b e t =
      let n = length (writes_now z f h) in
      let c₃ = none-holds _ _ _ e in
      let c₅ = none-holds _ _ _ c₃.1 in
      let c₆ = none-holds _ _ _ c₅.1 in
      let c₁₁ = none-holds _ _ _ c₆.1 in
      let c₁₂ = none-holds _ _ _ c₁₁.1 in
      let c₈ = none-holds _ _ _ c₁₂.1 in
      let c₁₅ : (leb 1 n && would_lag L h) ≡ false = (none-holds _ _ _ c₈.1).0 in
      rw (le-leb 1 n (counted n _ t)) at c₁₅
  near (redo L) m b e t = clash false b refl
  near (validate_by q L f) m b e t = clash false b refl
  near (mark L) m b e t = clash false b refl
  near (drain L) m b e t = clash false b refl
  near (proceed L) m b e t = clash false b refl

  bound-free : (x : Call) → is_bound x ≡ true → Fits x h → h.lock ≡ None
  unfolding is_bound
  bound-free (log_by q L f) b i = i
  bound-free (redo L) b i = i
  bound-free (validate_by q L f) b i = i
  bound-free (mark L) b i = i
  bound-free (drain L) b i = clash false b refl
  bound-free (lock L f) b i = i
  bound-free (proceed L) b i = clash false b refl

  -- the floors that it leaves are above whatever is further below its timestamp than the lag limit
  module _ (r : Rising h) (free : h.lock ≡ None) (L u : ℕ) (l : u + h.lag < h.clock + 2) (e : would_lag L h ≡ false) where
    above-drained : AllAbove u (after_drain L h)
    unfolding would_lag after_drain
    above-drained =
        above_from u (after_drain L h) (rising-keeping.drains L h r) (ahead-free u (after_drain L h) free (omega arith))
        (not-passed h.lag (h.clock + 2) (least_floor_of (after_drain L h).pages) e u l)

    drained-free : (after_drain L h).lock ≡ None
    unfolding after_drain
    drained-free = free

  above-bound : (x : Call) (g : History) → is_bound x ≡ true → Rising h → h.lock ≡ None → would_lag (lane_of x) h ≡ false → Stamps z h s x g
      → (u : ℕ) → u + h.lag < s → AllAbove u g
  above-bound x g b r free e (stamping t kind kinds held txns o q) u l =
      let i : u + h.lag < h.clock + 2 = omega arith in
      subst (AllAbove u) (sym q)
      ((above-keeping u).stamps (lane_of x) tt kind kinds held txns (after_drain (lane_of x) h) (drained-free r free (lane_of x) u i e)
      (above-drained r free (lane_of x) u i e))
  above-bound x g b r free e (locking t f n o q) u l =
      let i : u + h.lag < h.clock + 2 = omega arith in
      subst (AllAbove u) (sym q)
      ((above-keeping u).locks (lane_of x) tt f n (after_drain (lane_of x) h) (drained-free r free (lane_of x) u i e)
      (above-drained r free (lane_of x) u i e))
  above-bound x g b r free e (parting k p t y o own q) u l = clash (is_bound x) b o
  above-bound x g b r free e (writing k p t y o own q) u l = clash (is_bound x) b o

further : (lag s u : ℕ) → is_below (Some (s - lag)) u ≡ true → u + lag < s
unfolding is_below
further lag s u e = omega (arith, ltb-true u (s - lag) e)

-- ---- the boundary of a cut is not below the least floor: a recovery that were let finish now would say so
finishes-floors : (z : Sizes) (h : History) (found : List ℕ) (y : System) (r : Recovered) (x : Done) → Finishes z h found y r → r ≡ Finished x
    → NotBelow (least_floor_of h.pages) (boundary z found)
finishes-floors z h found y (Refused n) x v e = absurd (let q : ◌≡◌ {A = ℕ} 0 1 = cc in omega arith)
finishes-floors z h found y Cut x v e = absurd (let q : ◌≡◌ {A = ℕ} 0 1 = cc in omega arith)
finishes-floors z h found (live m) (Finished a) x v e = v.floors
finishes-floors z h found (down nvm j f) (Finished a) x v e = absurd v

-- with this lag limit, as many stores as are due, and this left in cache and flags
abbrev pub finishing : Sizes → System → Event
finishing z y = recover 2 (length (recovery_stores z (nvm_of y))) (record { cache = []; flags = [] })

finishing-answer : (z : Sizes) (nvm : List ℕ) → recovery_answer z 2 (length (recovery_stores z nvm)) nvm
    ≡ Finished (record { boundary = boundary z nvm; undone = length (undo_stores z nvm); torn = torn_in z nvm })
unfolding recovery_answer lag_ok all_made
finishing-answer z nvm = rw (le-leb (length (recovery_stores z nvm)) (length (recovery_stores z nvm)) (le_refl _))

pub cut-floors : (d : Design) (z : Sizes) (end : List ℕ) (y : System) (h : History) → Holds d z end y h (finishing z y ∷ [])
    → NotBelow (least_floor_of h.pages) (boundary z (cut_cells y))
unfolding happens after_recovery cut_cells nvm_of found_or
cut-floors d z end (live m) h v = finishes-floors z h m.nvm _ _ _ v.0.reply.leaves (v.0.reply.gives ∙ finishing-answer z m.nvm)
cut-floors d z end (down nvm j found) h v =
    finishes-floors z h (found_or nvm found) _ _ _ v.0.reply.leaves (v.0.reply.gives ∙ finishing-answer z nvm)

pub lag-from : (d : Design) → CrashTheorem d → LagTheorem d
unfolding CrashTheorem LagTheorem world_after next_world
lag-from d theorem z lag start m h ok es fs x s bound stamps goes =
    let w : World = record { system = live m; history = h } in
    let e : Event = call x in
    let i = next_world d z w (format lag start) in
    let a = world_after d z i es in
    let b = next_world d z a e in
    let c = world_after d z b fs in
    let v : (rest : List Event) → Holds d z (trailer z) a.system a.history (e ∷ rest) = λ rest.
    holds_after d z (trailer z) i es (e ∷ rest)
    (holds-next d z (trailer z) w (format lag start) (es ++ (e ∷ rest)) (theorem z lag start m h ok (es ++ (e ∷ rest)))) in
    let u : (y : Event) → Holds d z (trailer z) c.system c.history (y ∷ []) = λ y.
    holds_after d z (trailer z) b fs (y ∷ []) (holds-next d z (trailer z) a e (fs ++ (y ∷ [])) (v (fs ++ (y ∷ [])))) in
    let t = reply-told z a.history s (trailer z) x a.system b.system _ _ (v []).0.reply stamps in
    let n = near z a.history s x t.machine bound t.taken t.answers in
    let free = bound-free z a.history s x bound (refusal-fits z a.history x t.machine t.taken) in
    let r : Rising a.history = rising-after d theorem z lag start m h ok es in
    let low : (y : ℕ) → y + a.history.lag < s → is_below (least_floor_of c.history.pages) y ≡ true = λ y l.
    above-least y c.history
    (after-keeps (AllAbove y) (λ M. Unit {0}) (above-keeping y) d z (trailer z) b fs (v fs).1 (any_step fs) (inr goes)
    (above-bound z a.history s x b.history bound r free n t.leaves y l)) in (
      near-boundary a.history.lag s (cut-floors d z (trailer z) c.system c.history (u (finishing z c.system))) low,
      λ lag₁ limit j. recovery-keeps d z c (Some (s - a.history.lag)) (λ y p. low y (further a.history.lag s y p)) lag₁ limit j
          (u (recover lag₁ limit j)),
    )
