-- A call that answers a timestamp, behind a drain of its lane: it has taken a new one from the clock and has stamped its lane or taken the lock, or it is
-- a Continue, and the timestamp is the lock's. Of the answers that the theorem gives. Assumes nothing.
use Rattle.std.specs.Prelude.{Some, Option, None}
use mathlib.Core.Path.{◌≡◌, refl, ap, sym, subst}
use mathlib.Core.Bool.{true, false}
use mathlib.Core.List.{List, [], ◌∷◌}
use Prim.Native.Nat.{ℕ, ◌+◌}
use native.Mathlib.Omega.{arith}
use lib.Dec.{eqb}
use lib.ListN.{length}
use borrow.Author.Tests.{le-leb, eqb-true, eqb-false}
use Rattle.image.specs.declared.Sizes.{Sizes}
use Rattle.store.specs.Machine.{Machine, said}
use Rattle.store.specs.Answers.{Answer}
use Rattle.store.specs.Answers as answer
use Rattle.crash.specs.Events.{Call, log_by, redo, validate_by, mark, drain, lock, proceed, lane_of, call, System, live, down}
use Rattle.crash.specs.Events.{Reply, answered, recovered, failed, ignored}
use Rattle.crash.specs.History.{Newest, closing_at, mark_at, newest_stamp, History, page_at, after_drain, stamped, held_by, is_counted, taken, after_call}
use Rattle.crash.specs.History.{fed_answer, fed, writes_now, writes_logged, same_olds, commit_above, taken_answer}
use Rattle.crash.specs.Theorem.{Replied, refusal_by, answer_by}
use Rattle.crash.specs.History.{Holder, lock_taken, part_logged, part_written, next_part, progress}
use Rattle.crash.specs.Corollaries.{stamps_in, is_bound, is_lock}
use Rattle.laws.specs.inner.Tests.{split}
use Rattle.crash.proofs.induction.Moves.{cond-by, positive}
use Rattle.crash.proofs.induction.Fits.{Fits}
use Rattle.crash.proofs.induction.Pages.{closes, marks}

pub one_more : {A : Type 0} {s : ℕ} → ◌≡◌ {A = List ℕ} [] (s ∷ []) → A
one_more e = absurd (omega (arith, ap length e))

only : {a b : ℕ} → ◌≡◌ {A = List ℕ} (a ∷ []) (b ∷ []) → a ≡ b
only e = cc

module _ (z : Sizes) (h : History) (s : ℕ) where
  -- the history after a call that answers timestamp s
  pub data Stamps (c : Call) (g : History) : Type 0 where
    -- a new timestamp of the lane
    stamping : s ≡ h.clock + 2 → (kind : ℕ → Newest) → ((n : ℕ) → newest_stamp (kind n) ≡ Some n) → (held : Option (List ℕ)) (txns : List (List ℕ))
        → (Fits c h → h.lock ≡ None) → g ≡ stamped (lane_of c) kind held txns (after_drain (lane_of c) h) → Stamps c g
    -- the lock is taken
    locking : s ≡ h.clock + 2 → (f : List ℕ) (n : ℕ) → is_lock c ≡ true → g ≡ lock_taken (lane_of c) f n (after_drain (lane_of c) h) → Stamps c g
    -- a part is logged, or written
    parting : (k : Holder) → h.lock ≡ Some k → s ≡ k.stamp → k.ready ≡ false → is_bound c ≡ false → (Fits c h → k.lane ≡ lane_of c)
        → g ≡ part_logged k (after_drain (lane_of c) h) → Stamps c g
    writing : (k : Holder) → h.lock ≡ Some k → s ≡ k.stamp → k.ready ≡ true → is_bound c ≡ false → (Fits c h → k.lane ≡ lane_of c)
        → g ≡ part_written k (after_drain (lane_of c) h) → Stamps c g

  -- Continue, by who holds the lock
  part-stamps : (L : ℕ) (x : Option Holder) → h.lock ≡ x → (said (progress x)).stamp ≡ s ∷ []
      → Stamps (proceed L) (after_call (proceed L) (progress x) h)
  unfolding progress said after_call taken next_part is_bound lane_of
  part-stamps L None e p = one_more p
  part-stamps L (Some k) e p =
      split k.ready
      (λ t. writing k e (sym (only p)) t refl (λ i. i k e) (rw (e, t)))
      (λ t. parting k e (sym (only p)) t refl (λ i. i k e) (rw (e, t)))

  taken-stamps : (c : Call) → (said (taken_answer z c h)).stamp ≡ s ∷ [] → Stamps c (after_call c (taken_answer z c h) h)
  unfolding taken_answer said after_call taken is_counted lane_of is_lock
  taken-stamps (log_by r L []) e = stamping (sym (only e)) mark_at marks None [] (λ i. i) refl
  taken-stamps (log_by r L (w ∷ f)) e =
      let n = length (writes_now z (w ∷ f) h) in
      cond-by (λ a. (said a).stamp ≡ s ∷ [] → Stamps (log_by r L (w ∷ f)) (after_call (log_by r L (w ∷ f)) a h)) (eqb n 0) _ _ (λ t p. one_more p)
      (λ t p. stamping (sym (only p)) closing_at closes (Some (w ∷ f)) [] (λ i. i) (rw (le-leb 1 n (positive n (eqb-false n 0 t))))) e
  taken-stamps (redo L) e =
      cond-by (λ a. (said a).stamp ≡ s ∷ [] → Stamps (redo L) (after_call (redo L) a h)) (commit_above (newest_stamp (page_at h L).newest) h.commits) _ _
      (λ t p. one_more p) (λ t p. stamping (sym (only p)) closing_at closes None (held_by (page_at h L).held) (λ i. i) refl) e
  taken-stamps (validate_by r L f) e =
      cond-by (λ a. (said a).stamp ≡ s ∷ [] → Stamps (validate_by r L f) (after_call (validate_by r L f) a h))
      (same_olds (writes_now z f h) (writes_logged z L h)) _ _
      (λ t p. stamping (sym (only p)) closing_at closes None (f ∷ []) (λ i. i) refl) (λ t p. one_more p) e
  taken-stamps (mark L) e = stamping (sym (only e)) mark_at marks None [] (λ i. i) refl
  taken-stamps (drain L) e = one_more e
  taken-stamps (lock L f) e =
      let n = length (writes_now z f h) in
      cond-by (λ a. (said a).stamp ≡ s ∷ [] → Stamps (lock L f) (after_call (lock L f) a h)) (eqb n 0) _ _ (λ t p. one_more p)
      (λ t p. locking (sym (only p)) f n refl (rw (le-leb 1 n (positive n (eqb-false n 0 t))))) e
  taken-stamps (proceed L) e = part-stamps L h.lock refl e

  -- of a reply: the call was not refused, and its answer is the one of a call that is taken
  pub record Told (c : Call) (r : Reply) (found : List ℕ) : Type 0 where
    pub machine : Machine
    pub taken : refusal_by z c h machine ≡ 0
    pub answers : (said (taken_answer z c h)).stamp ≡ s ∷ []
    pub leaves : Stamps c (fed z (call c) r found h)

  answer-told : (c : Call) (m : Machine) (found : List ℕ) → (said (answer_by z c h m)).stamp ≡ s ∷ [] → Told c (answered (answer_by z c h m)) found
  unfolding answer_by fed fed_answer said
  answer-told c m found e =
      cond-by (λ a. (said a).stamp ≡ s ∷ [] → Told c (answered a) found) (eqb (refusal_by z c h m) 0) _ _
      (λ t p. record { machine = m; taken = eqb-true (refusal_by z c h m) 0 t; answers = p; leaves = taken-stamps c p }) (λ t p. one_more p) e

  pub reply-told : (end : List ℕ) (c : Call) (was y : System) (found : List ℕ) (r : Reply) → Replied z end h (call c) was found y r
      → stamps_in r ≡ s ∷ [] → Told c r found
  unfolding stamps_in
  reply-told end c (live m) y found (answered a) v e =
      subst (λ (x : Answer). Told c (answered x) found) (sym v.gives)
      (answer-told c m found (subst (λ (x : Answer). (said x).stamp ≡ s ∷ []) v.gives e))
  reply-told end c (down nvm j f) y found (answered a) v e = absurd v
  reply-told end c was y found (recovered r) v e = absurd v
  reply-told end c was y found (failed d) v e = one_more e
  reply-told end c was y found ignored v e = one_more e
