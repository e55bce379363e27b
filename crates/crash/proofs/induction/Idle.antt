-- A lane that is marked and drained and then stays idle has no floor, so the boundary is not below the least floor of the other lanes: of every store of
-- which the crash theorem holds. Assumes nothing.
use Rattle.std.specs.Prelude.{Option, Some, None}
use mathlib.Core.Path.{◌≡◌, refl, ap, subst, sym, ◌∙◌}
use mathlib.Core.Logic.{◌≢◌, inl}
use mathlib.Core.Bool.{Bool, true, false, cond, not, ◌||◌}
use mathlib.Core.List.{List, [], ◌∷◌, ◌++◌}
use Prim.Native.Nat.{ℕ, zero, suc, ◌+◌}
use native.Mathlib.Decide.{ℕ_discrete}
use lib.Dec.{eqb}
use lib.ListN.{get_or, set}
use lib.Seq.{get_or-set_other}
use borrow.Author.Tests.{eq-eqb, not-true}
use Rattle.laws.specs.inner.Tests.{clash, and_left, and_right}
use Rattle.laws.specs.inner.Lists.{All, none as nil, more}
use Rattle.image.specs.Image.{trailer}
use Rattle.image.specs.declared.Sizes.{Sizes}
use Rattle.record.specs.Record.{lesser}
use Rattle.store.specs.Machine.{Machine, Said, said}
use Rattle.crash.specs.Events.{Call, log_by, redo, validate_by, mark, drain, lock, proceed, lane_of, live, Design, happens}
use Rattle.crash.specs.Events.{Event, format, call, recover}
use Rattle.crash.specs.Events.{Reply, answered, recovered, failed, ignored}
use Rattle.crash.specs.History.{mark_at, Page, History, blank_page, page_at}
use Rattle.crash.specs.History.{floor_or, floor_on_drain, after_drain, stamped, released, lock_taken, part_logged, part_written, taken, after_call}
use Rattle.crash.specs.History.{fed_answer, fed, least_floor_of}
use Rattle.crash.specs.Theorem.{Holds, CrashTheorem}
use Rattle.crash.proofs.induction.Lists.{holds-next, holds_after}
use Rattle.crash.proofs.induction.Pages.{drained-twice, on_drain, page-set, opened-page, Keeping, MayStep, after-keeps}
use Rattle.crash.proofs.induction.Kept.{recovery-keeps}
use Rattle.crash.specs.Corollaries.{World, next_world, world_after, is_done, is_drain, is_idle, stays_idle, others_floor, is_mark, IdleTheorem}

-- ---- one page
-- a page that a drain leaves without floor
unfoldable Marked : Page → Type 0
Marked p = floor_on_drain p.newest p.floor ≡ None

-- and one that is without floor already
unfoldable Floorless : Page → Type 0
Floorless p = (p.floor ≡ None) × Marked p

-- ---- what idle events do to a page: a property that a blank page has and that a drain keeps is kept
module _ (P : Page → Type 0) (blank : P blank_page) (drains : (p : Page) → P p → P (on_drain p)) (L : ℕ) where
  page-keeping : Keeping (λ h. P (page_at h L)) (λ M. L ≢ M)
  unfolding after_drain stamped released lock_taken part_logged part_written page_at
  page-keeping =
      record {
        drains = λ M h i. elim (ℕ_discrete M L) [
          | yes e ↦ rw e (page-set P blank L h.pages (on_drain (get_or h.pages L blank_page)) (drains (get_or h.pages L blank_page) i))
          | no d ↦ subst P (sym (get_or-set_other h.pages M L (on_drain (get_or h.pages M blank_page)) blank_page (λ e. d (sym e)))) i
        ];
        stamps = λ M d kind ks held txns h e i. subst P (sym (get_or-set_other h.pages M L _ blank_page d)) i;
        releases = λ M d h e i. subst P (sym (get_or-set_other h.pages M L _ blank_page d)) i;
        locks = λ M d f n h e i. i;
        logs = λ k d h e r i. subst P (sym (get_or-set_other h.pages k.lane L _ blank_page d)) i;
        writes = λ k d h e r i. i;
      }

  -- a step of an idle event is another lane's
  other-lane : (c : Call) → (is_drain c || not (eqb (lane_of c) L)) ≡ true → is_drain c ≡ false → L ≢ lane_of c
  other-lane c t f e = clash (eqb (lane_of c) L) (eq-eqb (lane_of c) L (sym e)) (not-true (eqb (lane_of c) L) (rw f at t))

  idle-steps : (es : List Event) → stays_idle L es ≡ true → All (MayStep (λ M. L ≢ M)) es
  unfolding stays_idle is_idle
  idle-steps [] t = nil
  idle-steps (e ∷ es) t =
      more (λ c p f. other-lane c (ap (is_idle L) (sym p) ∙ and_left (is_idle L e) _ t) f) (idle-steps es (and_right (is_idle L e) _ t))

  idle-page : (d : Design) (z : Sizes) (end : List ℕ) (w : World) (es : List Event) → Holds d z end w.system w.history es → stays_idle L es ≡ true
      → P (page_at w.history L) → P (page_at (world_after d z w es).history L)
  idle-page d z end w es v t i =
      after-keeps (λ h. P (page_at h L)) (λ M. L ≢ M) page-keeping d z end w es v (idle-steps es t)
      (inl (λ lag start clock. opened-page P blank z lag start clock L)) i

-- ---- a mark, and a drain
blank-floorless : Floorless blank_page
unfolding Floorless Marked floor_on_drain
blank-floorless = (refl, refl)

blank-marked : Marked blank_page
unfolding Marked floor_on_drain
blank-marked = refl

drain-ends : (p : Page) → Marked p → Floorless (on_drain p)
unfolding Floorless Marked
drain-ends p e = (e, drained-twice p.newest p.floor ∙ e)

floorless-marked : (p : Page) → Floorless p → Marked p
unfolding Floorless
floorless-marked p e = e.1

drain-keeps : (p : Page) → Marked p → Marked (on_drain p)
drain-keeps p e = floorless-marked (on_drain p) (drain-ends p e)

-- a call that is done is fed as taken
done-call : (P : History → Type 0) (z : Sizes) (c : Call) (r : Reply) (found : List ℕ) (h : History) → is_done r ≡ true
    → ((t : Said) → P (taken c t h)) → P (fed z (call c) r found h)
unfolding is_done fed fed_answer after_call
done-call P z c (answered a) found h done i =
    subst (λ (b : Bool). P (cond b h (taken c (said a) h))) (sym (not-true (said a).refused done)) (i (said a))
done-call P z c (recovered r) found h done i = clash false done refl
done-call P z c (failed d) found h done i = clash false done refl
done-call P z c ignored found h done i = clash false done refl

marks : (held : Option (List ℕ)) (s : ℕ) (floor : Option ℕ) → Marked (record { held = held; newest = mark_at s; floor = floor })
unfolding Marked floor_on_drain
marks held s floor = refl

stamp-marks : (L : ℕ) (h : History) → Marked (page_at (stamped L mark_at None [] h) L)
unfolding stamped page_at
stamp-marks L h =
    let s : ℕ = h.clock + 2 in
    let p : Page = record { held = None; newest = mark_at s; floor = floor_or (page_at h L).floor (Some s) } in
    page-set Marked blank-marked L h.pages p (marks None s p.floor)

mark-marks : (x : Call) → is_mark x ≡ true → (t : Said) (h : History) → Marked (page_at (taken x t h) (lane_of x))
unfolding is_mark taken lane_of
mark-marks (log_by r L []) e t h = stamp-marks L (after_drain L h)
mark-marks (log_by r L (w ∷ f)) e t h = clash false e refl
mark-marks (redo L) e t h = clash false e refl
mark-marks (validate_by r L f) e t h = clash false e refl
mark-marks (mark L) e t h = stamp-marks L (after_drain L h)
mark-marks (drain L) e t h = clash false e refl
mark-marks (lock L f) e t h = clash false e refl
mark-marks (proceed L) e t h = clash false e refl

drain-drains : (L : ℕ) (t : Said) (h : History) → Marked (page_at h L) → Floorless (page_at (taken (drain L) t h) L)
unfolding taken after_drain page_at
drain-drains L t h i =
    page-set Floorless blank-floorless L h.pages (on_drain (get_or h.pages L blank_page))
    (drain-ends (get_or h.pages L blank_page) i)

-- ---- floors
-- a lane without floor counts for nothing
without-floor : (ps : List Page) (L : ℕ) → (get_or ps L blank_page).floor ≡ None → least_floor_of ps ≡ least_floor_of (set ps L blank_page)
unfolding least_floor_of
without-floor [] L e = refl
without-floor (p ∷ ps) zero e = rw e
without-floor (p ∷ ps) (suc L) e = ap (lesser p.floor) (without-floor ps L e)

others-floor : (L : ℕ) (h : History) → Floorless (page_at h L) → least_floor_of h.pages ≡ others_floor L h
unfolding Floorless others_floor page_at
others-floor L h e = without-floor h.pages L e.0

module _ (d : Design) (z : Sizes) (lag : ℕ) (start : List ℕ) (m : Machine) (h : History) (x : Call) (es fs gs : List Event) where
  abbrev L : ℕ
  L = lane_of x

  abbrev a : World
  a = world_after d z (record { system = live m; history = h }) (format lag start ∷ es)

  abbrev b : World
  b = world_after d z (next_world d z a (call x)) fs

  abbrev c : World
  c = world_after d z (next_world d z b (call (drain L))) gs

  -- what holds of every list from the Format on holds of every list from the mark on, and from the drain on
  module _ (v : (es : List Event) → Holds d z (trailer z) (live m) h (format lag start ∷ es)) where
    from-mark : (rest : List Event) → let w = next_world d z a (call x) in Holds d z (trailer z) w.system w.history rest
    from-mark rest =
        holds-next d z (trailer z) a (call x) rest
        (holds_after d z (trailer z) (record { system = live m; history = h }) (format lag start ∷ es) (call x ∷ rest) (v (es ++ (call x ∷ rest))))

    from-drain : (rest : List Event) → let w = next_world d z b (call (drain L)) in Holds d z (trailer z) w.system w.history rest
    from-drain rest =
        holds-next d z (trailer z) b (call (drain L)) rest
        (holds_after d z (trailer z) (next_world d z a (call x)) fs (call (drain L) ∷ rest) (from-mark (fs ++ (call (drain L) ∷ rest))))

    holds-last : (e : Event) → Holds d z (trailer z) c.system c.history (e ∷ [])
    holds-last e = holds_after d z (trailer z) (next_world d z b (call (drain L))) gs (e ∷ []) (from-drain (gs ++ (e ∷ [])))

  -- the lane's page from the mark on, and from the drain on
  page-marked : is_mark x ≡ true → is_done (happens d z a.system (call x)).reply ≡ true → Marked (page_at (next_world d z a (call x)).history L)
  unfolding next_world
  page-marked is done = done-call (λ k. Marked (page_at k L)) z x _ _ a.history done (λ t. mark-marks x is t a.history)

  page-floorless : is_done (happens d z b.system (call (drain L))).reply ≡ true → Marked (page_at b.history L)
      → Floorless (page_at (next_world d z b (call (drain L))).history L)
  unfolding next_world
  page-floorless done i = done-call (λ k. Floorless (page_at k L)) z (drain L) _ _ b.history done (λ t. drain-drains L t b.history i)

  page-rests : ((es : List Event) → Holds d z (trailer z) (live m) h (format lag start ∷ es)) → is_mark x ≡ true
      → is_done (happens d z a.system (call x)).reply ≡ true → stays_idle L fs ≡ true
      → is_done (happens d z b.system (call (drain L))).reply ≡ true → stays_idle L gs ≡ true → Floorless (page_at c.history L)
  page-rests v is marks idle drains stays =
      idle-page Floorless blank-floorless (λ p e. drain-ends p (floorless-marked p e)) L d z (trailer z) (next_world d z b (call (drain L))) gs
      (from-drain v gs) stays
      (page-floorless drains
      (idle-page Marked blank-marked drain-keeps L d z (trailer z) (next_world d z a (call x)) fs (from-mark v fs) idle (page-marked is marks)))

pub idle-from : (d : Design) → CrashTheorem d → IdleTheorem d
unfolding CrashTheorem IdleTheorem
idle-from d theorem z lag start m h ok x es fs gs is marks idle drains stays lag₁ limit j =
    let q = others-floor (lane_of x) _ (page-rests d z lag start m h x es fs gs (theorem z lag start m h ok) is marks idle drains stays) in
    recovery-keeps d z (c d z lag start m h x es fs gs) _ (λ s e. rw q e) lag₁ limit j
    (holds-last d z lag start m h x es fs gs (theorem z lag start m h ok) (recover lag₁ limit j))
