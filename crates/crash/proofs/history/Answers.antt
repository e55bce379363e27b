-- Each call answers what the theorem gives: by cases on the call's move. Assumes nothing.
use Rattle.std.specs.Prelude.{Option, Some, None}
use mathlib.Core.Path.{◌≡◌, refl, ap, ◌∙◌, sym}
use mathlib.Core.Logic.{◌⊎◌, inl, inr}
use mathlib.Core.Bool.{true, false, ◌&&◌}
use mathlib.Core.List.{List, [], ◌∷◌}
use Prim.Native.Nat.{ℕ, ◌+◌, ◌-◌, ◌<◌, min}
use native.Mathlib.Omega.{arith}
use native.Mathlib.Decide.{ℕ_discrete}
use native.Mathlib.Nat.{le_trans}
use lib.Dec.{eqb, ltb}
use lib.ListN.{length}
use borrow.Author.Tests.{eqb-true, eq-eqb, ne_eqb, le-ltb, lt-ltb}
use Rattle.laws.specs.inner.Tests.{clash, and_left, and_right}
use Rattle.txn.specs.declared.Write.{Write}
use Rattle.image.specs.Image.{log_of}
use Rattle.image.specs.declared.Sizes.{Sizes}
use Rattle.lane_log.specs.Log.{complete_in, latest_in, hits_from, hits}
use Rattle.lane_log.specs.inner.LatestLaws.{latest-none}
use Rattle.record.specs.Record.{lane_at, is_logged, logged_in, part_length, bound_of, drained_lane}
use Rattle.record.specs.declared.Locked.{Locked}
use Rattle.store.specs.Machine.{Machine, Step, said}
use Rattle.store.specs.Calls.{drained, writes_on, is_stale, entries_match, matches}
use Rattle.store.specs.Answers.{Answer}
use Rattle.store.specs.Answers.{Refused}
use Rattle.store.specs.Answers as answer
use Rattle.crash.specs.Events.{Call, log_by, redo, validate_by, mark, lock, proceed, lane_of, call_step}
use Rattle.crash.specs.History.{Newest, unset, newest_stamp, History, page_at, after_drain, least_floor_of}
use Rattle.crash.specs.History.{writes_logged, same_olds, commit_above, slots_by, left_after, progress, taken_answer}
use Rattle.crash.specs.History.{Holder}
use Rattle.crash.specs.Theorem.{is_full, refusal_by, answer_by, Answers}
use Rattle.crash.proofs.recovery.Data.{olds_of}
use Rattle.crash.proofs.induction.Moves.{Known, refusal_of, Drains, quiet, late, plain, idling}
use Rattle.crash.proofs.induction.Moves.{Move, refusing, draining, logging, settling, redoing, validating, giving-up, marking, locking, parting, writing}
use Rattle.crash.proofs.induction.Moves.{call-moves}
use Rattle.crash.proofs.history.Refusals.{same_writes, same-held, refusal-by, number_is}
use Rattle.crash.proofs.lane.Newest.{unset-nothing, drained-floor}
use Rattle.crash.proofs.history.Lanes.{lane-drained, page-drained, bound-agrees}
use Rattle.crash.proofs.history.Agree.{Holding, holder_of, Book, Logs, is-held, above-last, entries-match}
use Rattle.crash.proofs.history.Parts.{in-range}

same-olds : (vs ws : List Write) → same_olds vs ws ≡ true → olds_of vs ≡ olds_of ws
unfolding same_olds olds_of
same-olds [] [] t = refl
same-olds [] (w ∷ ws) t = clash false t refl
same-olds (v ∷ vs) [] t = clash false t refl
same-olds (v ∷ vs) (w ∷ ws) t =
    let a = and_left (eqb v.word w.word && eqb v.old w.old) _ t in
    let b = and_right (eqb v.word w.word && eqb v.old w.old) _ t in
    let c = eqb-true v.word w.word (and_left _ _ a) in
    let d = eqb-true v.old w.old (and_right (eqb v.word w.word) _ a) in
    rw (c, d, same-olds vs ws b)

-- nothing is hit where nothing is found
hits-none : (N k n : ℕ) (b : Option ℕ) → hits N k n b [] ≡ false
unfolding hits hits_from
hits-none N k n None = refl
hits-none N k n (Some b) = refl

number-drains : {z : Sizes} {m : Machine} {c : Call} {a : Answer} → Drains z m c a → (said a).number ≡ 0
unfolding said
number-drains (quiet q L w f ok i e) = refl
number-drains (late L r t) = refl
number-drains (plain L) = refl
number-drains (idling L f e) = refl

-- ---- what Continue answers
-- a part is logged already exactly where more is logged than written
pub part-logged : {z : Sizes} {base : ℕ} {h : History} {m : Machine} (b : Book z base h m) (k : Locked) → m.state.lock ≡ Some k
    → (k.logged ≡ k.written → ⊥) → k.logged ≡ k.written + part_length k
part-logged {z} {base} {h} {m} b k e d = go (in-range z base h m b k e).logged
  where
    go : (k.logged ≡ k.written) ⊎ (k.logged ≡ k.written + part_length k) → k.logged ≡ k.written + part_length k
    go (inl p) = absurd (d p)
    go (inr p) = p

progress-parts : (k : Locked) (f : List ℕ) (y : Option Holder) → y ≡ Some (holder_of k f) → k.logged ≡ k.written
    → answer.Locked (record { left = k.count - k.written; stamp = k.stamp }) ≡ progress y
unfolding progress holder_of
progress-parts k f y e t = rw (e, le-ltb k.written k.logged (omega arith))

progress-writes : (k : Locked) (f : List ℕ) (y : Option Holder) → y ≡ Some (holder_of k f) → k.written < k.count → k.logged ≡ k.written + part_length k
    → answer.Locked (record { left = k.count - (k.written + part_length k); stamp = k.stamp }) ≡ progress y
unfolding progress holder_of left_after part_length
progress-writes k f y e l t =
    rw (e, lt-ltb k.written k.logged (omega arith))
    (ap (λ (n : ℕ). answer.Locked (record { left = n; stamp = k.stamp }))
    (let d : k.count - (k.written + min 16 (k.count - k.written)) ≡ k.count - k.written - min 16 (k.count - k.written) = omega arith in d))

module _ (z : Sizes) (base : ℕ) (h : History) (m : Machine) (b : Book z base h m) (l : Logs z h m) where
  -- ---- the tests of a logged transaction
  module _ (L : ℕ) (lane : L < z.lanes) (held : is_logged (lane_at m.state L).phase ≡ true) where
    pub holds-it : Holding z base h m L (logged_in (lane_at m.state L).phase)
    holds-it = b.holding L (logged_in (lane_at m.state L).phase) lane (is-held (lane_at m.state L).phase held)

    pub same-stale : is_stale L m ≡ commit_above (newest_stamp (page_at h L).newest) h.commits
    unfolding is_stale newest_stamp
    same-stale =
        let g = logged_in (lane_at m.state L).phase in
        ap (ltb g.stamp) b.last
        ∙ sym (above-last base g.stamp holds-it.above b.rising)
        ∙ ap (λ (n : Newest). commit_above (newest_stamp n) h.commits) (sym holds-it.newest)

    pub same-matches : (ws : List Write) → matches z L ws m ≡ same_olds ws (writes_logged z L h)
    unfolding matches
    same-matches ws =
        let g = logged_in (lane_at m.state L).phase in
        ap (λ (n : ℕ). eqb (length ws) n && entries_match z.words z.slots (log_of z L m.cache) g.first ws) holds-it.count
        ∙ entries-match z.words z.slots (log_of z L m.cache) (l.entries L g lane (is-held (lane_at m.state L).phase held)) ws

    -- a Validate that matches: the same words and old values
    pub matched : (ws : List Write) → matches z L ws m ≡ true → olds_of ws ≡ olds_of (writes_logged z L h)
    matched ws t = same-olds ws (writes_logged z L h) (sym (same-matches ws) ∙ t)

  -- ---- floors after a drain
  pub floors-drained : (L : ℕ) → L < z.lanes → (M : ℕ) → M < z.lanes → (lane_at (drained z L m).state M).floor ≡ (page_at (after_drain L h) M).floor
  unfolding drained_lane
  floors-drained L lane M other =
      let a = lane-drained z L m (le_trans lane b.lanes) in
      let p = page-drained L h (rw b.pages lane) in
      elim (ℕ_discrete M L) [
        | yes e ↦ rw (e, a.here, p.here) (drained-floor (latest_in z m.cache L) _ ∙ rw (l.newest L lane, b.live.floors L lane))
        | no d ↦ rw (a.others M d, p.others M d) (b.live.floors M other)
      ]

  pub bound-drained : (L : ℕ) → L < z.lanes → bound_of z (drained z L m).state ≡ least_floor_of (after_drain L h).pages
  bound-drained L lane =
      let a = lane-drained z L m (le_trans lane b.lanes) in
      let p = page-drained L h (rw b.pages lane) in
      bound-agrees z (drained z L m).state (after_drain L h) (rw a.lanes b.lanes) (p.pages ∙ b.pages) (floors-drained L lane)

  -- a lane that has appended nothing has no sequence to hit
  full-appended : (c : Call) → lane_of c < z.lanes → is_full z c h m ≡ true → (page_at h (lane_of c)).newest ≡ unset → ⊥
  unfolding is_full latest_in
  full-appended c lane t e =
      let n = latest-none (complete_in z m.cache (lane_of c)) (unset-nothing _ (l.newest (lane_of c) lane ∙ e)) in
      clash _ (rw n at t) (hits-none z.slots (lane_at m.state (lane_of c)).next (slots_by z c h) (least_floor_of (after_drain (lane_of c) h).pages))

  -- ---- the answer
  taken : (c : Call) (a : Answer) → refusal_of z c m ≡ 0 → refusal_of z c m ≡ refusal_by z c h m → a ≡ taken_answer z c h → a ≡ answer_by z c h m
  unfolding answer_by
  taken c a p r e = rw (eq-eqb (refusal_by z c h m) 0 (sym r ∙ p)) e

  refused : (c : Call) (n : ℕ) → refusal_of z c m ≡ n → (n ≡ 0 → ⊥) → refusal_of z c m ≡ refusal_by z c h m → Refused n ≡ answer_by z c h m
  unfolding answer_by
  refused c n e d r = rw (sym r ∙ e, ne_eqb n 0 d)

  drains-answer : {c : Call} {a : Answer} → Known z m (lane_of c) → Drains z m c a → a ≡ taken_answer z c h
  unfolding taken_answer lane_of
  drains-answer k (quiet q L w f ok i e) = rw (sym (same_writes z h m b.live (w ∷ f)), eq-eqb (length (writes_on z (w ∷ f) m)) 0 e)
  drains-answer k (late L r t) = rw (sym (same-stale L k.lane r.held), t)
  drains-answer k (plain L) = refl
  drains-answer k (idling L f e) = rw (sym (same_writes z h m b.live f), eq-eqb (length (writes_on z f m)) 0 e)

  by_move : {c : Call} {s : Step} → Move z m c s → (said s.answer).number ≡ refusal_of z c m → refusal_of z c m ≡ refusal_by z c h m
      → s.answer ≡ answer_by z c h m
  unfolding said taken_answer
  by_move {c} (refusing n e d) p r = refused c n e d r
  by_move {c} (draining {a = a} k d) p r = taken c a (sym p ∙ number-drains d) r (drains-answer k d)
  by_move (logging u L w f k ok i fr q room) p r =
      taken (log_by u L (w ∷ f)) _ (sym p) r
      (rw (sym (same_writes z h m b.live (w ∷ f)), ne_eqb (length (writes_on z (w ∷ f) m)) 0 (λ e. omega arith), b.live.clock))
  by_move (settling u L k i fr room) p r = taken (log_by u L []) _ (sym p) r (rw b.live.clock)
  by_move (redoing L k y t) p r =
      taken (redo L) _ (sym p) r (rw (sym (same-stale L k.lane y.held), t, b.live.clock))
  by_move (validating u L f k ok y t) p r =
      taken (validate_by u L f) _ (sym p) r
      (rw (sym (same_writes z h m b.live f), sym (same-matches L k.lane y.held (writes_on z f m)), t, b.live.clock))
  by_move (giving-up u L f k ok y t) p r =
      taken (validate_by u L f) _ (sym p) r
      (rw (sym (same_writes z h m b.live f), sym (same-matches L k.lane y.held (writes_on z f m)), t))
  by_move (marking L k fr room) p r = taken (mark L) _ (sym p) r (rw (same-held z h m b.live L k.lane, b.live.clock))
  by_move (locking L f k ok i fr d q room) p r =
      taken (lock L f) _ (sym p) r
      (rw (sym (same_writes z h m b.live f), ne_eqb (length (writes_on z f m)) 0 (λ e. omega arith), b.live.clock))
  by_move (parting k known e t) p r =
      let v = b.locking k e in
      taken (proceed k.lane) _ (sym p) r (progress-parts k v.txn h.lock v.holder t)
  by_move (writing k known e t) p r =
      let v = b.locking k e in
      taken (proceed k.lane) _ (sym p) r
      (progress-writes k v.txn h.lock v.holder (in-range z base h m b k e).left (part-logged b k e t))

  pub answers : (c : Call) → Answers z h m c (call_step z c m).answer
  answers c =
      record {
        gives = by_move (call-moves z m c) (number_is z m c)
            (refusal-by z h m b.live bound-drained (record { buffers = b.buffers; pairs = b.in_pairs; fields = b.fields }) c);
        appended = full-appended c;
      }
