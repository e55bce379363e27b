-- A commit that can no longer be lost: floors rise, end, or are set at timestamps to come, so the least floor stays above one that it has passed. Of every
-- store of which the crash theorem holds. Assumes nothing.
use Rattle.std.specs.Prelude.{Option, Some, None}
use mathlib.Core.Path.{◌≡◌, refl, ap, sym, subst, ◌∙◌}
use mathlib.Core.Logic.{inl, inr}
use mathlib.Core.Bool.{true}
use mathlib.Core.List.{List, [], ◌∷◌, ◌++◌}
use Prim.Native.Nat.{ℕ, zero, suc, ◌+◌, ◌≤◌, ◌<◌, min}
use native.Mathlib.Omega.{arith}
use native.Mathlib.Nat.{le_trans}
use lib.Dec.{eqb}
use lib.ListN.{length, get_or}
use borrow.Author.Tests.{ltb-true, lt-ltb, not-false}
use Rattle.laws.specs.inner.Lists.{All, none as nil, more}
use Rattle.image.specs.Image.{trailer}
use Rattle.image.specs.declared.Sizes.{Sizes}
use Rattle.lane_log.specs.inner.LogLaws.{at_one}
use Rattle.record.specs.Record.{lesser, lag_ok}
use Rattle.store.specs.Machine.{Machine, said}
use Rattle.store.specs.Calls.{bad_lag, format_refusal}
use Rattle.crash.specs.Events.{Event, format, recover, live, Design, happens, after_format}
use Rattle.crash.specs.History.{Newest, unset, closing_at, mark_at, newest_stamp, Page, History, blank_page, page_at, opened, is_below}
use Rattle.crash.specs.History.{floor_or, floor_on_drain, after_drain, stamped, released, fed_answer, fed, least_floor_of}
use Rattle.crash.specs.History.{Holder, lock_taken, part_logged, part_written}
use Rattle.crash.specs.Theorem.{Replied, Holds, CrashTheorem}
use Rattle.crash.specs.Corollaries.{World, next_world, world_after, next_commit, SafeTheorem}
use Rattle.crash.proofs.induction.Lists.{holds-next, holds_after}
use Rattle.crash.proofs.induction.Moves.{none-holds}
use Rattle.crash.proofs.induction.Pages.{drained-twice, on_drain, page-set, page-at, page-all, opened-page, Keeping, MayStep, after-keeps}
use Rattle.crash.proofs.induction.Pages.{OfLock, free-lock, of-holder, passed_on, closes}
use Rattle.crash.proofs.induction.Kept.{recovery-keeps}

-- ---- timestamps
not_at : {A : Type 0} {a : ℕ} → None ≡ Some a → A
not_at p = absurd (let z : ◌≡◌ {A = ℕ} 0 1 = cc in omega arith)

below-lesser : (a b : Option ℕ) (s : ℕ) → is_below (lesser a b) s ≡ true → (is_below a s ≡ true) × (is_below b s ≡ true)
unfolding lesser is_below
below-lesser None b s e = (refl, e)
below-lesser (Some a) None s e = (e, refl)
below-lesser (Some a) (Some b) s e =
    let l = ltb-true s (min a b) e in
    (lt-ltb s a (omega arith), lt-ltb s b (omega arith))

lesser-below : (a b : Option ℕ) (s : ℕ) → is_below a s ≡ true → is_below b s ≡ true → is_below (lesser a b) s ≡ true
unfolding lesser is_below
lesser-below None b s e f = f
lesser-below (Some a) None s e f = e
lesser-below (Some a) (Some b) s e f = lt-ltb s (min a b) (omega (arith, ltb-true s a e, ltb-true s b f))

-- an earlier one is below too
pub below-earlier : (b : Option ℕ) (s t : ℕ) → t ≤ s → is_below b s ≡ true → is_below b t ≡ true
unfolding is_below
below-earlier None s t l e = refl
below-earlier (Some b) s t l e = lt-ltb t b (omega (arith, ltb-true s b e))

pub up_to : (s t : ℕ) → is_below (Some (s + 1)) t ≡ true → t ≤ s
unfolding is_below
up_to s t e = omega (arith, ltb-true t (s + 1) e)

-- the least floor is above s just where each floor is
pub each-above : (ps : List Page) (s : ℕ) → is_below (least_floor_of ps) s ≡ true → (L : ℕ) → is_below (get_or ps L blank_page).floor s ≡ true
unfolding least_floor_of is_below
each-above [] s e L = refl
each-above (p ∷ ps) s e zero = (below-lesser p.floor (least_floor_of ps) s e).0
each-above (p ∷ ps) s e (suc L) = each-above ps s (below-lesser p.floor (least_floor_of ps) s e).1 L

pub least_above : (ps : List Page) (s : ℕ) → ((L : ℕ) → is_below (get_or ps L blank_page).floor s ≡ true) → is_below (least_floor_of ps) s ≡ true
unfolding least_floor_of is_below
least_above [] s f = refl
least_above (p ∷ ps) s f = lesser-below p.floor (least_floor_of ps) s (f 0) (least_above ps s (λ L. f (suc L)))

-- ---- one page
-- what a drain makes of the floor under a new timestamp t, closing_at entries or a mark's, is not below t
new-drained : (n : Newest) (floor : Option ℕ) (s t : ℕ) → newest_stamp n ≡ Some t → s < t → is_below (floor_on_drain n floor) s ≡ true
unfolding newest_stamp floor_on_drain is_below
new-drained unset floor s t e l = not_at e
new-drained (closing_at u) floor s t e l = let q : u ≡ t = at_one e in lt-ltb s u (omega arith)
new-drained (mark_at u) floor s t e l = refl

-- a page's floor and newest timestamp are not above the clock, and a drain does not lower its floor
pub record Rises (clock : ℕ) (p : Page) : Type 0 where
  pub floor-low : (a : ℕ) → p.floor ≡ Some a → a ≤ clock
  pub newest-low : (t : ℕ) → p.newest ≡ closing_at t → t ≤ clock
  pub rises : (s : ℕ) → is_below p.floor s ≡ true → is_below (floor_on_drain p.newest p.floor) s ≡ true

rises-blank : (clock : ℕ) → Rises clock blank_page
unfolding floor_on_drain
rises-blank clock = record { floor-low = λ a e. not_at e; newest-low = λ t e. absurd (let z : ◌≡◌ {A = ℕ} 0 1 = cc in omega arith); rises = λ s e. e }

rises-later : (a b : ℕ) (p : Page) → a ≤ b → Rises a p → Rises b p
rises-later a b p l r =
    record { floor-low = λ x e. le_trans (r.floor-low x e) l; newest-low = λ t e. le_trans (r.newest-low t e) l; rises = r.rises }

drained-low : (n : Newest) (f : Option ℕ) (c a : ℕ) → ((x : ℕ) → f ≡ Some x → x ≤ c) → ((t : ℕ) → n ≡ closing_at t → t ≤ c) → floor_on_drain n f ≡ Some a → a ≤ c
unfolding floor_on_drain
drained-low unset f c a g h e = g a e
drained-low (closing_at t) f c a g h e = let q : t ≡ a = at_one e in let k = h t refl in omega arith
drained-low (mark_at t) f c a g h e = not_at e

rises-drain : (clock : ℕ) (p : Page) → Rises clock p → Rises clock (on_drain p)
rises-drain clock p r =
    record {
      floor-low = λ a e. drained-low p.newest p.floor clock a r.floor-low r.newest-low e;
      newest-low = r.newest-low;
      rises = λ s e. rw (drained-twice p.newest p.floor) e;
    }

or-low : (f : Option ℕ) (c t a : ℕ) → c ≤ t → ((x : ℕ) → f ≡ Some x → x ≤ c) → floor_or f (Some t) ≡ Some a → a ≤ t
unfolding floor_or
or-low None c t a l g e = let q : t ≡ a = at_one e in omega arith
or-low (Some b) c t a l g e = let q : b ≡ a = at_one e in let k = g b refl in omega arith

or-below : (f : Option ℕ) (c t s : ℕ) → c ≤ t → ((x : ℕ) → f ≡ Some x → x ≤ c) → is_below (floor_or f (Some t)) s ≡ true → s < t
unfolding floor_or is_below
or-below None c t s l g e = ltb-true s t e
or-below (Some b) c t s l g e = let k = g b refl in omega (arith, ltb-true s b e)

stamp-one : (n : Newest) (t u : ℕ) → newest_stamp n ≡ Some t → n ≡ closing_at u → u ≤ t
unfolding newest_stamp
stamp-one n t u e p = let q : Some u ≡ Some t = sym (ap newest_stamp p) ∙ e in let r : u ≡ t = at_one q in omega arith

rises-stamp : (c t : ℕ) (p q : Page) → c ≤ t → Rises c p → newest_stamp q.newest ≡ Some t → q.floor ≡ floor_or p.floor (Some t) → Rises t q
rises-stamp c t p q l r n f =
    record {
      floor-low = λ a e. or-low p.floor c t a l r.floor-low (sym f ∙ e);
      newest-low = λ u e. stamp-one q.newest t u n e;
      rises = λ s e. new-drained q.newest q.floor s t n (or-below p.floor c t s l r.floor-low (rw f at e));
    }

-- ---- all pages, from Format on; and the lock's timestamp is the clock, since nothing takes one while it is held
pub record Rising (h : History) : Type 0 where
  pub pages : (L : ℕ) → Rises h.clock (page_at h L)
  pub lock : OfLock (λ k. k.stamp ≡ h.clock) h.lock

-- a part logged with the clock's timestamp
rises-part : (c s : ℕ) (p : Page) → s ≡ c → Rises c p → Rises c (record { held = p.held; newest = closing_at s; floor = floor_or p.floor (Some s) })
rises-part c s p e r =
    rises-later s c _ (omega arith)
    (rises-stamp c s p (record { held = p.held; newest = closing_at s; floor = floor_or p.floor (Some s) }) (omega arith) r (closes s) refl)

pub rising-keeping : Keeping Rising (λ M. Unit {0})
unfolding after_drain stamped released lock_taken part_logged part_written page_at
rising-keeping =
    record {
      drains = λ M h f.
          record {
            pages = page-all (Rises h.clock) (rises-blank h.clock) h.pages M (on_drain (get_or h.pages M blank_page))
                (rises-drain h.clock _ (f.pages M)) f.pages;
            lock = f.lock;
          };
      stamps = λ M u kind ks held txns h e f.
          record {
            pages = page-all (Rises (h.clock + 2)) (rises-blank (h.clock + 2)) h.pages M _
                (rises-stamp h.clock (h.clock + 2) (get_or h.pages M blank_page)
                (record { held = held; newest = kind (h.clock + 2); floor = floor_or (get_or h.pages M blank_page).floor (Some (h.clock + 2)) })
                (omega arith) (f.pages M) (ks (h.clock + 2)) refl)
                (λ L. rises-later h.clock (h.clock + 2) _ (omega arith) (f.pages L));
            lock = free-lock (λ k. k.stamp ≡ h.clock + 2) h.lock e;
          };
      releases = λ M u h e f.
          record {
            pages = page-all (Rises h.clock) (rises-blank h.clock) h.pages M _
                (record { floor-low = (f.pages M).floor-low; newest-low = (f.pages M).newest-low; rises = (f.pages M).rises }) f.pages;
            lock = f.lock;
          };
      locks = λ M u t n h e f. record { pages = λ L. rises-later h.clock (h.clock + 2) _ (omega arith) (f.pages L); lock = refl };
      logs = λ k u h e r f.
          let s = of-holder (λ x. x.stamp ≡ h.clock) h.lock k e f.lock in
          record {
            pages = page-all (Rises h.clock) (rises-blank h.clock) h.pages k.lane _
                (rises-part h.clock k.stamp (get_or h.pages k.lane blank_page) s (f.pages k.lane)) f.pages;
            lock = s;
          };
      writes = λ k u h e r f.
          record { pages = f.pages; lock = passed_on (λ x. x.stamp ≡ h.clock) k (of-holder (λ x. x.stamp ≡ h.clock) h.lock k e f.lock) };
    }

pub rising-opened : (z : Sizes) (lag : ℕ) (start : List ℕ) (clock : ℕ) → Rising (opened z lag start clock)
unfolding opened
rising-opened z lag start clock = record { pages = opened-page (Rises clock) (rises-blank clock) z lag start clock; lock = tt }

-- ---- a page with its floor above s
pub record Above (s : ℕ) (p : Page) : Type 0 where
  pub floor : is_below p.floor s ≡ true
  pub drained : is_below (floor_on_drain p.newest p.floor) s ≡ true

above-blank : (s : ℕ) → Above s blank_page
unfolding floor_on_drain is_below
above-blank s = record { floor = refl; drained = refl }

or_above : (f : Option ℕ) (t s : ℕ) → s < t → is_below f s ≡ true → is_below (floor_or f (Some t)) s ≡ true
unfolding floor_or is_below
or_above None t s l e = lt-ltb s t l
or_above (Some b) t s l e = e

-- and one whose floor a drain leaves so
unfoldable pub Reaches : ℕ → Page → Type 0
Reaches s p = is_below (floor_on_drain p.newest p.floor) s ≡ true

pub reaches-blank : (s : ℕ) → Reaches s blank_page
unfolding Reaches
reaches-blank s = (above-blank s).drained

pub reaches-stamped : (n : Newest) (held : Option (List ℕ)) (floor : Option ℕ) (s t : ℕ) → newest_stamp n ≡ Some t → s < t
    → Reaches s (record { held = held; newest = n; floor = floor })
unfolding Reaches
reaches-stamped n held floor s t e l = new-drained n floor s t e l

pub reaches-drained : (s : ℕ) (p : Page) → Reaches s p → Above s (on_drain p)
unfolding Reaches
reaches-drained s p e = record { floor = e; drained = rw (drained-twice p.newest p.floor) e }

-- ---- every timestamp that is still to be given to a sequence or a commit is above s: the next one, and the lock's
unfoldable pub Ahead : ℕ → History → Type 0
Ahead s h = (s < h.clock + 2) × OfLock (λ k. s < k.stamp) h.lock

pub ahead-free : (s : ℕ) (h : History) → h.lock ≡ None → s < h.clock + 2 → Ahead s h
unfolding Ahead
ahead-free s h e l = (l, free-lock (λ k. s < k.stamp) h.lock e)

pub ahead-held : (s : ℕ) (h : History) (k : Holder) → h.lock ≡ Some k → k.stamp ≤ h.clock → s < k.stamp → Ahead s h
unfolding Ahead
ahead-held s h k e c l = (omega arith, subst (OfLock (λ x. s < x.stamp)) (sym e) l)

-- ---- lane L's page, with every timestamp to come above s: what drains, those timestamps and releases keep
unfoldable pub LaneHas : ℕ → (Page → Type 0) → ℕ → History → Type 0
LaneHas s P L h = Ahead s h × P (page_at h L)

module _ (s : ℕ) (P : Page → Type 0) (blank : P blank_page) (drains : (p : Page) → P p → P (on_drain p))
    (stamps : (p : Page) (n : Newest) (held : Option (List ℕ)) (t : ℕ) → newest_stamp n ≡ Some t → s < t → P p
    → P (record { held = held; newest = n; floor = floor_or p.floor (Some t) }))
    (releases : (p : Page) → P p → P (record { held = None; newest = p.newest; floor = p.floor })) (L : ℕ) where
  here : (h : History) (M : ℕ) → M ≡ L → P (get_or h.pages L blank_page) → P (get_or h.pages M blank_page)
  here h M e i = subst (λ x. P (get_or h.pages x blank_page)) (sym e) i

  lane-keeping : Keeping (LaneHas s P L) (λ M. Unit {0})
  unfolding LaneHas Ahead after_drain stamped released lock_taken part_logged part_written page_at
  lane-keeping =
      record {
        drains = λ M h i. (i.0, page-at P blank h.pages M _ L (λ e. drains (get_or h.pages M blank_page) (here h M e i.1)) i.1);
        stamps = λ M u kind ks held txns h e i. (
          (omega (arith, i.0.0), i.0.1),
          page-at P blank h.pages M _ L
              (λ q. stamps (get_or h.pages M blank_page) (kind (h.clock + 2)) held (h.clock + 2) (ks (h.clock + 2)) i.0.0 (here h M q i.1)) i.1,
        );
        releases = λ M u h e i. (i.0, page-at P blank h.pages M _ L (λ q. releases (get_or h.pages M blank_page) (here h M q i.1)) i.1);
        locks = λ M u f n h e i. ((omega (arith, i.0.0), i.0.0), i.1);
        logs = λ k u h e r i.
            let l = of-holder (λ x. s < x.stamp) h.lock k e i.0.1 in (
              (i.0.0, l),
              page-at P blank h.pages k.lane _ L
                  (λ q.
                  stamps (get_or h.pages k.lane blank_page) (closing_at k.stamp) _ k.stamp (closes k.stamp) l (here h k.lane q i.1)) i.1,
            );
        writes = λ k u h e r i.
            ((i.0.0, passed_on (λ x. s < x.stamp) k (of-holder (λ x. s < x.stamp) h.lock k e i.0.1)), i.1);
      }

pub reaches-keeping : (s L : ℕ) → Keeping (LaneHas s (Reaches s) L) (λ M. Unit {0})
unfolding Reaches
reaches-keeping s =
    lane-keeping s (Reaches s) (reaches-blank s) (λ p e. (reaches-drained s p e).drained)
    (λ p n held t e l i. reaches-stamped n held (floor_or p.floor (Some t)) s t e l) (λ p e. e)

pub floor-keeping : (s L : ℕ) → Keeping (LaneHas s (Above s) L) (λ M. Unit {0})
unfolding Reaches
floor-keeping s =
    lane-keeping s (Above s) (above-blank s) (λ p e. reaches-drained s p e.drained)
    (λ p n held t e l i. record { floor = or_above p.floor t s l i.floor; drained = new-drained n (floor_or p.floor (Some t)) s t e l })
    (λ p e. record { floor = e.floor; drained = e.drained })

-- the lane's drain makes the one the other
pub lane-drained : (s L : ℕ) (h : History) → LaneHas s (Reaches s) L h → LaneHas s (Above s) L (after_drain L h)
unfolding LaneHas Ahead Reaches after_drain page_at
lane-drained s L h i =
    (i.0, page-set (Above s) (above-blank s) L h.pages (on_drain (get_or h.pages L blank_page)) (reaches-drained s (get_or h.pages L blank_page) i.1))

-- a timestamp above s makes the lane reach s: a new one
pub lane-stamped : (s L : ℕ) (kind : ℕ → Newest) → ((n : ℕ) → newest_stamp (kind n) ≡ Some n) → (held : Option (List ℕ)) (txns : List (List ℕ)) (h : History)
    → Ahead s h → LaneHas s (Reaches s) L (stamped L kind held txns h)
unfolding LaneHas Ahead stamped page_at
lane-stamped s L kind kinds held txns h l = (
  (omega (arith, l.0), l.1),
  page-set (Reaches s) (reaches-blank s) L h.pages
      (record { held = held; newest = kind (h.clock + 2); floor = floor_or (page_at h L).floor (Some (h.clock + 2)) })
      (reaches-stamped (kind (h.clock + 2)) held _ s (h.clock + 2) (kinds (h.clock + 2)) l.0),
)

-- and a part's
pub lane-part : (s : ℕ) (k : Holder) (h : History) → s < h.clock + 2 → s < k.stamp → LaneHas s (Reaches s) k.lane (part_logged k h)
unfolding LaneHas Ahead part_logged page_at
lane-part s k h l m = (
  (l, m),
  page-set (Reaches s) (reaches-blank s) k.lane h.pages _ (reaches-stamped (closing_at k.stamp) _ _ s k.stamp (closes k.stamp) m),
)

-- ---- all pages
pub AllAbove : ℕ → History → Type 0
AllAbove s h = (L : ℕ) → LaneHas s (Above s) L h

pub above-keeping : (s : ℕ) → Keeping (AllAbove s) (λ M. Unit {0})
unfolding AllAbove
above-keeping s =
    record {
      drains = λ M h i L. (floor-keeping s L).drains M h (i L);
      stamps = λ M u kind ks held txns h e i L. (floor-keeping s L).stamps M u kind ks held txns h e (i L);
      releases = λ M u h e i L. (floor-keeping s L).releases M u h e (i L);
      locks = λ M u f n h e i L. (floor-keeping s L).locks M u f n h e (i L);
      logs = λ k u h e r i L. (floor-keeping s L).logs k u h e r (i L);
      writes = λ k u h e r i L. (floor-keeping s L).writes k u h e r (i L);
    }

-- floors above s stay so, since drains do not lower them
pub above_from : (s : ℕ) (h : History) → Rising h → Ahead s h → is_below (least_floor_of h.pages) s ≡ true → AllAbove s h
unfolding AllAbove LaneHas page_at
above_from s h r l e L = let f = each-above h.pages s e L in (l, record { floor = f; drained = (r.pages L).rises s f })

pub above-least : (s : ℕ) (h : History) → AllAbove s h → is_below (least_floor_of h.pages) s ≡ true
unfolding AllAbove LaneHas page_at
above-least s h i = least_above h.pages s (λ L. (i L).1.floor)

-- ---- lists
pub any_step : (es : List Event) → All (MayStep (λ M. Unit {0})) es
any_step [] = nil
any_step (e ∷ es) = more (λ c p f. tt) (any_step es)

-- Format is taken
format-words : (z : Sizes) (lag : ℕ) (start : List ℕ) (m : Machine) → format_refusal z lag start m ≡ 0
    → (eqb (length start) z.words ≡ true) × (lag_ok lag ≡ true)
unfolding format_refusal bad_lag
format-words z lag start m e =
    let a = none-holds _ _ _ (none-holds _ _ _ e).1 in
    (not-false _ a.0, not-false _ (none-holds _ _ _ a.1).0)

pub formatted : (d : Design) (z : Sizes) (lag : ℕ) (start : List ℕ) (m : Machine) (h : History) → format_refusal z lag start m ≡ 0
    → Replied z (trailer z) h (format lag start) (live m) (happens d z (live m) (format lag start)).found (happens d z (live m) (format lag start)).system
    (happens d z (live m) (format lag start)).reply
    → (next_world d z (record { system = live m; history = h }) (format lag start)).history ≡ opened z lag start 0
unfolding next_world happens after_format fed fed_answer trailer said
formatted d z lag start m h ok v = let t = format-words z lag start m ok in rw (v, t.0, t.1)

-- what is below every commit to come, where the lock's timestamp is the clock
ahead-by : (s : ℕ) (h : History) (x : Option Holder) → h.lock ≡ x → OfLock (λ k. k.stamp ≡ h.clock) x → s < next_commit x h.clock → Ahead s h
unfolding next_commit
ahead-by s h None e i l = ahead-free s h e l
ahead-by s h (Some k) e i l = ahead-held s h k e (omega arith) l

-- the floors rise from Format on
pub rising-after : (d : Design) → CrashTheorem d → (z : Sizes) (lag : ℕ) (start : List ℕ) (m : Machine) (h : History) → format_refusal z lag start m ≡ 0
    → (es : List Event) → Rising (world_after d z (record { system = live m; history = h }) (format lag start ∷ es)).history
unfolding CrashTheorem world_after next_world
rising-after d theorem z lag start m h ok es =
    let w : World = record { system = live m; history = h } in
    let v = theorem z lag start m h ok es in
    after-keeps Rising (λ M. Unit {0}) rising-keeping d z (trailer z) (next_world d z w (format lag start)) es v.1 (any_step es)
    (inl (rising-opened z)) (subst Rising (sym (formatted d z lag start m h ok v.0.reply)) (rising-opened z lag start 0))

pub safe-from : (d : Design) → CrashTheorem d → SafeTheorem d
unfolding CrashTheorem SafeTheorem world_after
safe-from d theorem z lag start m h ok es fs s low above goes lag₁ limit j =
    let w : World = record { system = live m; history = h } in
    let f = next_world d z w (format lag start) in
    let a = world_after d z f es in
    let b = world_after d z a fs in
    let v : (rest : List Event) → Holds d z (trailer z) a.system a.history rest = λ rest.
    holds_after d z (trailer z) f es rest
    (holds-next d z (trailer z) w (format lag start) (es ++ rest) (theorem z lag start m h ok (es ++ rest))) in
    let r : Rising a.history = rising-after d theorem z lag start m h ok es in
    let i : AllAbove s b.history = after-keeps (AllAbove s) (λ M. Unit {0}) (above-keeping s) d z (trailer z) a fs (v fs) (any_step fs)
    (inr goes) (above_from s a.history r (ahead-by s a.history a.history.lock refl r.lock low) above) in
    recovery-keeps d z b (Some (s + 1)) (λ t e. below-earlier _ s t (up_to s t e) (above-least s b.history i)) lag₁ limit j
    (holds_after d z (trailer z) a fs (recover lag₁ limit j ∷ []) (v (fs ++ (recover lag₁ limit j ∷ []))))
