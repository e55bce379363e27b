-- What an event does to the history is made of drains, timestamps, releases, starts, and what long transactions do: the lock taken, a part logged, a part
-- written. A property of histories that these keep is kept by every event that is replied to as the theorem says.
-- Assumes nothing.
use Rattle.std.specs.Prelude.{Option, Some, None}
use mathlib.Core.Path.{◌≡◌, refl, ap, sym, subst}
use mathlib.Core.Logic.{◌⊎◌, inl, inr}
use mathlib.Core.Bool.{Bool, true, false, cond, not, ◌||◌}
use mathlib.Core.List.{List, [], ◌∷◌}
use Prim.Native.Nat.{ℕ, ◌≤◌}
use native.Mathlib.Omega.{arith}
use native.Mathlib.Decide.{ℕ_discrete}
use lib.Dec.{eqb, ltb}
use lib.ListN.{length, get_or, set, replicate, length-set, length-replicate, get_or-replicate, get_or-eq_default}
use lib.Seq.{get_or-set_same, get_or-set_other}
use borrow.Author.Tests.{ltb-true, ltb-false, not-true}
use Rattle.laws.specs.inner.Tests.{split, clash, and_left, and_right}
use Rattle.laws.specs.inner.Lists.{All, none as nil, more}
use Rattle.image.specs.declared.Sizes.{Sizes}
use Rattle.store.specs.Machine.{Said, said}
use Rattle.store.specs.Answers.{Answer}
use Rattle.recovery.specs.Recovery.{boundary, new_base, told}
use Rattle.recovery.specs.Answers.{Recovered}
use Rattle.crash.specs.Events.{Call, log_by, redo, validate_by, mark, drain, lock, proceed, lane_of, System, Design, happens}
use Rattle.crash.specs.Events.{Event, format, write_back, call, recover, fails, fails_in_drain, fails_after_drain, fails_in_recovery}
use Rattle.crash.specs.Events.{Reply, answered, recovered, failed, ignored}
use Rattle.crash.specs.History.{Newest, unset, closing_at, mark_at, newest_stamp, Page, History, blank_page, page_at, opened, words_below}
use Rattle.crash.specs.History.{floor_on_drain, after_drain, stamped, released, is_counted, held_by}
use Rattle.crash.specs.History.{Holder, lock_taken, part_logged, left_after, part_written, next_part}
use Rattle.crash.specs.History.{taken, restarted, after_call, after_recovered, fed_answer, fed_recovery, fed_failure, fed}
use Rattle.crash.specs.Theorem.{Replied, Holds}
use Rattle.crash.specs.Corollaries.{World, next_world, world_after, is_done, is_format, starts_anew, goes_on, is_drain}
use Rattle.crash.proofs.induction.Fits.{Fits, replied-fits}

-- ---- pages
-- a second drain leaves the floor
pub drained-twice : (n : Newest) (f : Option ℕ) → floor_on_drain n (floor_on_drain n f) ≡ floor_on_drain n f
unfolding floor_on_drain
drained-twice unset f = refl
drained-twice (closing_at s) f = refl
drained-twice (mark_at s) f = refl

-- a page after a drain
abbrev pub on_drain : Page → Page
on_drain p = record { held = p.held; newest = p.newest; floor = floor_on_drain p.newest p.floor }

module _ (P : Page → Type 0) (blank : P blank_page) where
  -- a page is set, or there is none to set
  pub page-set : (L : ℕ) (ps : List Page) (p : Page) → P p → P (get_or (set ps L p) L blank_page)
  page-set L ps p i =
      split (ltb L (length ps))
      (λ t. rw (get_or-set_same ps L p blank_page (ltb-true L (length ps) t)) i)
      (λ t. rw (get_or-eq_default (set ps L p) blank_page
      (let l : length (set ps L p) ≤ L = omega (arith, length-set ps L p, ltb-false L (length ps) t) in l)) blank)

  -- what holds of page L, where page M is set
  pub page-at : (ps : List Page) (M : ℕ) (p : Page) (L : ℕ) → (M ≡ L → P p) → P (get_or ps L blank_page) → P (get_or (set ps M p) L blank_page)
  page-at ps M p L i f = elim (ℕ_discrete L M) [
    | yes e ↦ rw e (page-set M ps p (i (sym e)))
    | no d ↦ subst P (sym (get_or-set_other ps M L p blank_page d)) f
  ]

  -- and of each page
  pub page-all : (ps : List Page) (M : ℕ) (p : Page) → P p → ((L : ℕ) → P (get_or ps L blank_page)) → (L : ℕ) → P (get_or (set ps M p) L blank_page)
  page-all ps M p i f L = page-at ps M p L (λ e. i) (f L)

  pub opened-page : (z : Sizes) (lag : ℕ) (start : List ℕ) (clock L : ℕ) → P (page_at (opened z lag start clock) L)
  unfolding opened page_at
  opened-page z lag start clock L =
      split (ltb L z.lanes)
      (λ t. rw (get_or-replicate z.lanes L blank_page blank_page (ltb-true L z.lanes t)) blank)
      (λ t. rw (get_or-eq_default (replicate z.lanes blank_page) blank_page
      (let l : length (replicate z.lanes blank_page) ≤ L = omega (arith, length-replicate z.lanes blank_page, ltb-false L z.lanes t) in l)) blank)

-- ---- the lock: of a transaction that holds it
abbrev pub OfLock : (Holder → Type 0) → Option Holder → Type 0
OfLock P None = Unit {0}
OfLock P (Some k) = P k

-- once the part that is logged is written
abbrev pub onward : Holder → Holder
onward k = record { lane = k.lane; txn = k.txn; stamp = k.stamp; left = left_after k; ready = false }

module _ (P : Holder → Type 0) where
  pub free-lock : (x : Option Holder) → x ≡ None → OfLock P x
  free-lock x e = subst (OfLock P) (sym e) tt

  pub of-holder : (x : Option Holder) (k : Holder) → x ≡ Some k → OfLock P x → P k
  of-holder x k e i = subst (OfLock P) e i

  passed-by : (b : Bool) (k : Holder) → P k → OfLock P (cond b None (Some k))
  passed-by true k i = tt
  passed-by false k i = i

  -- freed by the last part, or handed on
  pub passed_on : (k : Holder) → P (onward k) → OfLock P (cond (eqb (left_after k) 0) None (Some (onward k)))
  passed_on k i = passed-by (eqb (left_after k) 0) (onward k) i

pub lock-map : (P Q : Holder → Type 0) (x : Option Holder) → ((k : Holder) → P k → Q k) → OfLock P x → OfLock Q x
lock-map P Q None f i = tt
lock-map P Q (Some k) f i = f k i

-- ---- histories
-- kept by a drain of any lane, and of the lanes that may step: by timestamps, releases and the lock taken, all of which find it free, and by a part logged
-- or written of the transaction that holds it
pub record Keeping (P : History → Type 0) (may : ℕ → Type 0) : Type 0 where
  pub drains : (M : ℕ) (h : History) → P h → P (after_drain M h)
  pub stamps : (M : ℕ) → may M → (kind : ℕ → Newest) → ((n : ℕ) → newest_stamp (kind n) ≡ Some n) → (held : Option (List ℕ)) (txns : List (List ℕ))
      → (h : History) → h.lock ≡ None → P h → P (stamped M kind held txns h)
  pub releases : (M : ℕ) → may M → (h : History) → h.lock ≡ None → P h → P (released M h)
  pub locks : (M : ℕ) → may M → (f : List ℕ) (n : ℕ) (h : History) → h.lock ≡ None → P h → P (lock_taken M f n h)
  pub logs : (k : Holder) → may k.lane → (h : History) → h.lock ≡ Some k → k.ready ≡ false → P h → P (part_logged k h)
  pub writes : (k : Holder) → may k.lane → (h : History) → h.lock ≡ Some k → k.ready ≡ true → P h → P (part_written k h)

-- of an event: a step that is called is of a lane that may, and a start has the property
abbrev pub MayStep : (ℕ → Type 0) → Event → Type 0
MayStep may e = (c : Call) → e ≡ call c → is_drain c ≡ false → may (lane_of c)

-- a call that is taken finds the lock as it has to
abbrev pub Fitting : Event → Reply → History → Type 0
Fitting e r h = (c : Call) → e ≡ call c → is_done r ≡ true → Fits c h

pub fitting : (z : Sizes) (end : List ℕ) (h : History) (e : Event) (was y : System) (found : List ℕ) (r : Reply) → Replied z end h e was found y r
    → Fitting e r h
fitting z end h e was y found r v c p =
    replied-fits z h end c was y found r (subst (λ (x : Event). Replied z end h x was found y r) p v)

abbrev Starts : (History → Type 0) → Sizes → Event → Reply → Type 0
Starts P z e r = starts_anew e r ≡ true → (lag : ℕ) (start : List ℕ) (clock : ℕ) → P (opened z lag start clock)

pub closes : (n : ℕ) → newest_stamp (closing_at n) ≡ Some n
unfolding newest_stamp
closes n = refl

pub marks : (n : ℕ) → newest_stamp (mark_at n) ≡ Some n
unfolding newest_stamp
marks n = refl

module _ (P : History → Type 0) (may : ℕ → Type 0) (k : Keeping P may) where
  one_of : (b : Bool) (h g : History) → P h → P g → P (cond b h g)
  one_of true h g i j = i
  one_of false h g i j = j

  -- the transaction that holds the lock goes on
  next-part : (M : ℕ) → may M → (x : Option Holder) (h : History) → h.lock ≡ x → ((k : Holder) → x ≡ Some k → k.lane ≡ M) → P h → P (next_part x h)
  unfolding next_part
  next-part M m None h e own d = d
  next-part M m (Some j) h e own d =
      let l : may j.lane = subst may (sym (own j refl)) m in
      split j.ready
      (λ t. subst (λ (b : Bool). P (cond b (part_written j h) (part_logged j h))) (sym t) (k.writes j l h e t d))
      (λ t. subst (λ (b : Bool). P (cond b (part_written j h) (part_logged j h))) (sym t) (k.logs j l h e t d))

  -- a call that drains, or whose lane may step: a property that its lane's drain leaves
  pub taken-from : (c : Call) → (is_drain c ≡ false → may (lane_of c)) → (t : Said) (h : History) → Fits c h → P (after_drain (lane_of c) h) → P (taken c t h)
  unfolding taken is_drain lane_of after_drain
  taken-from (log_by r M []) m t h e d = k.stamps M (m refl) mark_at marks None [] (after_drain M h) e d
  taken-from (log_by r M (w ∷ f)) m t h e d =
      one_of (is_counted t.count) _ _ (k.stamps M (m refl) closing_at closes (Some (w ∷ f)) [] (after_drain M h) e d) d
  taken-from (redo M) m t h e d = one_of t.stale _ _ d (k.stamps M (m refl) closing_at closes None (held_by (page_at h M).held) (after_drain M h) e d)
  taken-from (validate_by r M f) m t h e d =
      one_of t.changed _ _ (k.releases M (m refl) (after_drain M h) e d) (k.stamps M (m refl) closing_at closes None (f ∷ []) (after_drain M h) e d)
  taken-from (mark M) m t h e d = k.stamps M (m refl) mark_at marks None [] (after_drain M h) e d
  taken-from (drain M) m t h e d = d
  taken-from (lock M f) m t h e d = one_of (is_counted t.left) _ _ (k.locks M (m refl) f (get_or t.left 0 0) (after_drain M h) e d) d
  taken-from (proceed M) m t h e d = next-part M (m refl) h.lock (after_drain M h) refl e d

  -- or one that it had before
  taken-keeps : (c : Call) → (is_drain c ≡ false → may (lane_of c)) → (t : Said) (h : History) → Fits c h → P h → P (taken c t h)
  taken-keeps c m t h e i = taken-from c m t h e (k.drains (lane_of c) h i)

  -- an event that does not start anew, or whose start has the property
  module _ (z : Sizes) where
    answered-keeps : (e : Event) (a : Answer) → MayStep may e → Starts P z e (answered a) → (h : History) → Fitting e (answered a) h → P h
        → P (fed_answer z e a h)
    unfolding fed_answer after_call starts_anew is_format is_done
    answered-keeps (format lag start) a m s h v i =
        split (said a).refused
        (λ t. subst (λ (b : Bool). P (cond b h (opened z lag start 0))) (sym t) i)
        (λ t. subst (λ (b : Bool). P (cond b h (opened z lag start 0))) (sym t) (s (ap not t) lag start 0))
    answered-keeps (write_back w) a m s h v i = i
    answered-keeps (call c) a m s h v i =
        split (said a).refused
        (λ t. subst (λ (b : Bool). P (cond b h (taken c (said a) h))) (sym t) i)
        (λ t. subst (λ (b : Bool). P (cond b h (taken c (said a) h))) (sym t) (taken-keeps c (m c refl) (said a) h (v c refl (ap not t)) i))
    answered-keeps (recover lag limit j) a m s h v i = i
    answered-keeps (fails j) a m s h v i = i
    answered-keeps (fails_in_drain c ws j) a m s h v i = i
    answered-keeps (fails_after_drain c j) a m s h v i = i
    answered-keeps (fails_in_recovery n j) a m s h v i = i

    failed-keeps : (e : Event) (d : Bool) (h : History) → P h → P (fed_failure e d h)
    unfolding fed_failure
    failed-keeps (format lag start) d h i = i
    failed-keeps (write_back w) d h i = i
    failed-keeps (call c) d h i = i
    failed-keeps (recover lag limit j) d h i = i
    failed-keeps (fails j) d h i = i
    failed-keeps (fails_in_drain c ws j) d h i = i
    failed-keeps (fails_after_drain c j) d h i = one_of d _ _ (k.drains (lane_of c) h i) i
    failed-keeps (fails_in_recovery n j) d h i = i

    recovered-keeps : (e : Event) (r : Recovered) → Starts P z e (recovered r) → (found : List ℕ) (h : History) → P h → P (fed_recovery z e found r h)
    unfolding fed_recovery after_recovered restarted starts_anew
    recovered-keeps (format lag start) r s found h i = i
    recovered-keeps (write_back w) r s found h i = i
    recovered-keeps (call c) r s found h i = i
    recovered-keeps (recover lag limit j) r s found h i =
        let new : History = opened z lag (words_below z (boundary z found) h) (new_base z found) in
        split ((told r).refused || (told r).cut)
        (λ t. subst (λ (b : Bool). P (cond b h new)) (sym t) i)
        (λ t. subst (λ (b : Bool). P (cond b h new)) (sym t) (s (ap not t) lag (words_below z (boundary z found) h) (new_base z found)))
    recovered-keeps (fails j) r s found h i = i
    recovered-keeps (fails_in_drain c ws j) r s found h i = i
    recovered-keeps (fails_after_drain c j) r s found h i = i
    recovered-keeps (fails_in_recovery n j) r s found h i = i

    pub fed-keeps : (e : Event) (r : Reply) → MayStep may e → Starts P z e r → (found : List ℕ) (h : History) → Fitting e r h → P h → P (fed z e r found h)
    unfolding fed
    fed-keeps e (answered a) m s found h v i = answered-keeps e a m s h v i
    fed-keeps e (recovered x) m s found h v i = recovered-keeps e x s found h i
    fed-keeps e (failed d) m s found h v i = failed-keeps e d h i
    fed-keeps e ignored m s found h v i = i

-- ---- lists
module _ (P : History → Type 0) (may : ℕ → Type 0) (k : Keeping P may) (d : Design) (z : Sizes) (end : List ℕ) where
  -- of events that start anew where every start has the property, or that do not
  pub after-keeps : (w : World) (es : List Event) → Holds d z end w.system w.history es → All (MayStep may) es
      → ((lag : ℕ) (start : List ℕ) (clock : ℕ) → P (opened z lag start clock)) ⊎ (goes_on d z w es ≡ true) → P w.history → P (world_after d z w es).history
  unfolding world_after next_world goes_on
  after-keeps w [] v nil s i = i
  after-keeps w (e ∷ es) v (more m ms) (inl s) i =
      let f = fitting z end w.history e w.system _ _ _ v.0.reply in
      after-keeps (next_world d z w e) es v.1 ms (inl s) (fed-keeps P may k z e (happens d z w.system e).reply m (λ t. s) _ w.history f i)
  after-keeps w (e ∷ es) v (more m ms) (inr t) i =
      let x = (happens d z w.system e).reply in
      let f = fitting z end w.history e w.system _ _ _ v.0.reply in
      after-keeps (next_world d z w e) es v.1 ms (inr (and_right (not (starts_anew e x)) _ t))
      (fed-keeps P may k z e x m (λ y. clash (starts_anew e x) y (not-true (starts_anew e x) (and_left _ _ t))) _ w.history f i)
