-- A lane that is settled: a call has answered a timestamp that it has appended, and the lane is drained later, so that its floor is not below that
-- timestamp or there is none. Of every store of which the crash theorem holds. Assumes nothing.
use Rattle.std.specs.Prelude.{Some, Option, None}
use mathlib.Core.Path.{◌≡◌, refl, sym, subst}
use mathlib.Core.Logic.{inl, inr}
use mathlib.Core.Bool.{Bool, true, false, cond, not, ◌&&◌, ◌||◌}
use mathlib.Core.List.{List, [], ◌∷◌, ◌++◌, map}
use Prim.Native.Nat.{ℕ, ◌+◌, ◌≤◌, ◌<◌}
use native.Mathlib.Omega.{arith}
use native.Mathlib.Decide.{ℕ_discrete}
use native.Mathlib.Nat.{le_refl}
use lib.Dec.{eqb}
use lib.ListN.{get_or, set}
use lib.Seq.{get_or-set_other}
use borrow.Author.Tests.{lt-ltb, eqb-true, not-true}
use Rattle.laws.specs.inner.Tests.{split, clash, and_left, and_right}
use Rattle.laws.specs.inner.Lists.{All, none as nil, more, All-append, All-map}
use Rattle.image.specs.Image.{trailer}
use Rattle.image.specs.declared.Sizes.{Sizes}
use Rattle.store.specs.Machine.{said}
use Rattle.crash.specs.Events.{Call, lane_of, Junk, live, Design, happens}
use Rattle.crash.specs.Events.{Event, format, write_back, call, recover, fails, fails_in_drain, fails_after_drain, fails_in_recovery}
use Rattle.crash.specs.Events.{Reply, answered, recovered, failed, ignored}
use Rattle.crash.specs.History.{Newest, closing_at, newest_stamp, Page, Commit, Holder, History, blank_page, page_at, opened, is_below}
use Rattle.crash.specs.History.{after_drain, stamped, released, lock_taken, part_logged, left_after, part_written, taken, after_call}
use Rattle.crash.specs.History.{fed_answer, fed_failure, fed, least_floor_of}
use Rattle.crash.specs.Theorem.{CrashTheorem, Holds}
use Rattle.crash.specs.Corollaries.{World, next_world, world_after, is_done, has_drained, starts_anew, goes_on, others_floor}
use Rattle.crash.specs.Corollaries.{are_below, drains_lane, gets_drained, is_lock, SettledTheorem}
use Rattle.crash.proofs.induction.Lists.{holds-next, holds_after}
use Rattle.crash.proofs.induction.Pages.{on_drain, page-set, page-at, OfLock, free-lock, of-holder, lock-map, closes}
use Rattle.crash.proofs.induction.Pages.{Keeping, Fitting, fitting, taken-from, fed-keeps, after-keeps}
use Rattle.crash.proofs.induction.Kept.{not-below, recovery-keeps}
use Rattle.crash.proofs.induction.Safe.{Above, Reaches, LaneHas, reaches-keeping, floor-keeping, lane-drained, lane-stamped, each-above, least_above}
use Rattle.crash.proofs.induction.Safe.{reaches-blank, reaches-stamped, reaches-drained, ahead-free, ahead-held, lane-part}
use Rattle.crash.proofs.induction.Safe.{below-earlier, up_to, any_step, formatted}
use Rattle.crash.proofs.induction.Moves.{cond-by}
use Rattle.crash.proofs.induction.Fits.{Fits, refusal-fits}
use Rattle.crash.proofs.induction.Stamps.{Stamps, stamping, locking, parting, writing, reply-told}
use Rattle.crash.proofs.induction.Lag.{finishing, cut-floors}

-- ---- commits are not above the clock, and below the lock's timestamp, which is its lane's newest where a part is logged
record Going (clock : ℕ) (commits : List Commit) (pages : List Page) (k : Holder) : Type 0 where
  given : k.stamp ≤ clock
  below : All (λ c. c.stamp < k.stamp) commits
  newest : k.ready ≡ true → (j : ℕ) → j < k.stamp → Reaches j (get_or pages k.lane blank_page)

record Passed (h : History) : Type 0 where
  commits : All (λ c. c.stamp ≤ h.clock) h.commits
  lock : OfLock (Going h.clock h.commits h.pages) h.lock

all-at : (s : ℕ) (txns : List (List ℕ)) → All (λ (c : Commit). c.stamp ≤ s) (map (λ f. record { stamp = s; txn = f }) txns)
all-at s [] = nil
all-at s (f ∷ fs) = more (le_refl s) (all-at s fs)

going-drained : (clock : ℕ) (commits : List Commit) (pages : List Page) (M : ℕ) (k : Holder) → Going clock commits pages k
    → Going clock commits (set pages M (on_drain (get_or pages M blank_page))) k
unfolding Reaches
going-drained clock commits pages M k i =
    record {
      given = i.given;
      below = i.below;
      newest = λ r j l.
          page-at (Reaches j) (reaches-blank j) pages M _ k.lane
          (λ e. (reaches-drained j (get_or pages M blank_page) (subst (λ x. Reaches j (get_or pages x blank_page)) (sym e) (i.newest r j l))).drained)
          (i.newest r j l);
    }

-- the last part written, or another
going-written : (clock : ℕ) (commits : List Commit) (pages : List Page) (b : Bool) (k j : Holder) (c : Commit) → Going clock commits pages k
    → j.stamp ≡ k.stamp → j.ready ≡ false → OfLock (Going clock (cond b (commits ++ (c ∷ [])) commits) pages) (cond b None (Some j))
going-written clock commits pages true k j c i e r = tt
going-written clock commits pages false k j c i e r =
    record { given = rw e i.given; below = rw e i.below; newest = λ t. clash j.ready t r }

passed-keeping : Keeping Passed (λ M. Unit {0})
unfolding after_drain stamped released lock_taken part_logged part_written page_at
passed-keeping =
    record {
      drains = λ M h i. record { commits = i.commits; lock = lock-map _ _ h.lock (going-drained h.clock h.commits h.pages M) i.lock };
      stamps = λ M u kind ks held txns h e i.
          record { commits = All-append (All-map (λ c l. omega arith) i.commits) (all-at (h.clock + 2) txns); lock = free-lock _ h.lock e };
      releases = λ M u h e i. record { commits = i.commits; lock = free-lock _ h.lock e };
      locks = λ M u f n h e i.
          record {
            commits = All-map (λ c l. omega arith) i.commits;
            lock = record { given = le_refl _; below = All-map (λ c l. omega arith) i.commits; newest = λ t. clash false t refl };
          };
      logs = λ k u h e r i.
          let g = of-holder _ h.lock k e i.lock in
          record {
            commits = i.commits;
            lock = record {
              given = g.given;
              below = g.below;
              newest = λ t j l.
                  page-set (Reaches j) (reaches-blank j) k.lane h.pages _
                  (reaches-stamped (closing_at k.stamp) _ _ j k.stamp (closes k.stamp) l);
            };
          };
      writes = λ k u h e r i.
          let g = of-holder _ h.lock k e i.lock in
          record {
            commits = cond-by (All (λ c. c.stamp ≤ h.clock)) (eqb (left_after k) 0) _ _ (λ t. All-append i.commits (more g.given nil)) (λ t. i.commits);
            lock = going-written h.clock h.commits h.pages (eqb (left_after k) 0) k _ _ g refl refl;
          };
    }

passed-opened : (z : Sizes) (lag : ℕ) (start : List ℕ) (clock : ℕ) → Passed (opened z lag start clock)
unfolding opened
passed-opened z lag start clock = record { commits = nil; lock = tt }

all-below : (s : ℕ) (cs : List Commit) → All (λ (c : Commit). c.stamp < s) cs → are_below (Some s) cs ≡ true
unfolding are_below is_below
all-below s [] nil = refl
all-below s (c ∷ cs) (more l i) = rw (lt-ltb c.stamp s l, all-below s cs i)

-- ---- a call that answers a timestamp, of such a history
module _ (z : Sizes) (h : History) (s : ℕ) (p : Passed h) (x : Call) (g : History) where
  -- commits are below it
  new-below : s ≡ h.clock + 2 → are_below (Some s) h.commits ≡ true
  new-below e = all-below s h.commits (All-map (λ c l. omega arith) p.commits)

  lock-below : (k : Holder) → h.lock ≡ Some k → s ≡ k.stamp → are_below (Some s) h.commits ≡ true
  lock-below k e t = rw t (all-below k.stamp h.commits (of-holder _ h.lock k e p.lock).below)

  stamp-below : Stamps z h s x g → are_below (Some s) h.commits ≡ true
  stamp-below (stamping e kind kinds held txns free q) = new-below e
  stamp-below (locking e f n o q) = new-below e
  stamp-below (parting k e t r o own q) = lock-below k e t
  stamp-below (writing k e t r o own q) = lock-below k e t

  -- the lane reaches it, but for Lock
  module _ (j : ℕ) (l : j < s) where
    new-reaches : (kind : ℕ → Newest) → ((n : ℕ) → newest_stamp (kind n) ≡ Some n) → (held : Option (List ℕ)) (txns : List (List ℕ)) → s ≡ h.clock + 2
        → h.lock ≡ None → LaneHas j (Reaches j) (lane_of x) (stamped (lane_of x) kind held txns (after_drain (lane_of x) h))
    unfolding after_drain
    new-reaches kind kinds held txns e free =
        lane-stamped j (lane_of x) kind kinds held txns (after_drain (lane_of x) h) (ahead-free j (after_drain (lane_of x) h) free (omega arith))

    part-reaches : (k : Holder) → h.lock ≡ Some k → s ≡ k.stamp → LaneHas j (Reaches j) k.lane (part_logged k (after_drain (lane_of x) h))
    unfolding after_drain
    part-reaches k e t =
        let b = (of-holder _ h.lock k e p.lock).given in
        lane-part j k (after_drain (lane_of x) h) (omega arith) (omega arith)

    written-reaches : (k : Holder) → h.lock ≡ Some k → s ≡ k.stamp → k.ready ≡ true
        → LaneHas j (Reaches j) k.lane (part_written k (after_drain (lane_of x) h))
    unfolding after_drain LaneHas page_at
    written-reaches k e t r =
        let b = of-holder _ h.lock k e p.lock in
        (reaches-keeping j k.lane).writes k tt (after_drain (lane_of x) h) e r
        ((reaches-keeping j k.lane).drains (lane_of x) h (ahead-held j h k e b.given (omega arith), b.newest r j (omega arith)))

    stamp-reaches : is_lock x ≡ false → Fits x h → Stamps z h s x g → LaneHas j (Reaches j) (lane_of x) g
    stamp-reaches o fits (stamping e kind kinds held txns free q) =
        subst (LaneHas j (Reaches j) (lane_of x)) (sym q) (new-reaches kind kinds held txns e (free fits))
    stamp-reaches o fits (locking e f n is q) = clash (is_lock x) is o
    stamp-reaches o fits (parting k e t r bound own q) =
        subst (LaneHas j (Reaches j) (lane_of x)) (sym q)
        (subst (λ M. LaneHas j (Reaches j) M (part_logged k (after_drain (lane_of x) h))) (own fits) (part-reaches k e t))
    stamp-reaches o fits (writing k e t r bound own q) =
        subst (LaneHas j (Reaches j) (lane_of x)) (sym q)
        (subst (λ M. LaneHas j (Reaches j) M (part_written k (after_drain (lane_of x) h))) (own fits) (written-reaches k e t r))

-- ---- one lane, up to its drain and from it on
module _ (k L : ℕ) (z : Sizes) where
  -- an event that drains the lane
  module _ (h : History) (i : LaneHas k (Reaches k) L h) where
    same-lane : (M : ℕ) → eqb M L ≡ true → LaneHas k (Above k) L (after_drain M h)
    same-lane M e = rw (eqb-true M L e) (lane-drained k L h i)

    call-drains : (c : Call) (r : Reply) (found : List ℕ) → Fitting (call c) r h → (eqb (lane_of c) L && is_done r) ≡ true
        → LaneHas k (Above k) L (fed z (call c) r found h)
    unfolding is_done fed fed_answer after_call
    call-drains c (answered a) found v t =
        subst (λ (b : Bool). LaneHas k (Above k) L (cond b h (taken c (said a) h)))
        (sym (not-true (said a).refused (and_right (eqb (lane_of c) L) _ t)))
        (taken-from (LaneHas k (Above k) L) (λ M. Unit {0}) (floor-keeping k L) c (λ e. tt) (said a) h
        (v c refl (and_right (eqb (lane_of c) L) _ t)) (same-lane (lane_of c) (and_left _ _ t)))
    call-drains c (recovered r) found v t = clash false (and_right (eqb (lane_of c) L) _ t) refl
    call-drains c (failed d) found v t = clash false (and_right (eqb (lane_of c) L) _ t) refl
    call-drains c ignored found v t = clash false (and_right (eqb (lane_of c) L) _ t) refl

    cut-drains : (c : Call) (j : Junk) (r : Reply) (found : List ℕ) → (eqb (lane_of c) L && has_drained r) ≡ true
        → LaneHas k (Above k) L (fed z (fails_after_drain c j) r found h)
    unfolding has_drained fed fed_failure
    cut-drains c j (answered a) found t = clash false (and_right (eqb (lane_of c) L) _ t) refl
    cut-drains c j (recovered r) found t = clash false (and_right (eqb (lane_of c) L) _ t) refl
    cut-drains c j (failed d) found t =
        subst (λ (b : Bool). LaneHas k (Above k) L (cond b (after_drain (lane_of c) h) h)) (sym (and_right (eqb (lane_of c) L) _ t))
        (same-lane (lane_of c) (and_left _ _ t))
    cut-drains c j ignored found t = clash false (and_right (eqb (lane_of c) L) _ t) refl

    event-drains : (e : Event) (r : Reply) (found : List ℕ) → Fitting e r h → drains_lane L e r ≡ true → LaneHas k (Above k) L (fed z e r found h)
    unfolding drains_lane
    event-drains (format lag start) r found v t = clash false t refl
    event-drains (write_back w) r found v t = clash false t refl
    event-drains (call c) r found v t = call-drains c r found v t
    event-drains (recover lag limit j) r found v t = clash false t refl
    event-drains (fails j) r found v t = clash false t refl
    event-drains (fails_in_drain c is j) r found v t = clash false t refl
    event-drains (fails_after_drain c j) r found v t = cut-drains c j r found t
    event-drains (fails_in_recovery n j) r found v t = clash false t refl

  -- a list in which the lane is drained
  list-drains : (d : Design) (end : List ℕ) (w : World) (es : List Event) → Holds d z end w.system w.history es → goes_on d z w es ≡ true
      → gets_drained d z L w es ≡ true → LaneHas k (Reaches k) L w.history → LaneHas k (Above k) L (world_after d z w es).history
  unfolding goes_on gets_drained world_after next_world
  list-drains d end w [] v g t i = clash false t refl
  list-drains d end w (e ∷ es) v g t i =
      let x = happens d z w.system e in
      let n = next_world d z w e in
      let o = and_right (not (starts_anew e x.reply)) _ g in
      let f = fitting z end w.history e w.system _ _ _ v.0.reply in
      split (drains_lane L e x.reply)
      (λ p.
      after-keeps (LaneHas k (Above k) L) (λ M. Unit {0}) (floor-keeping k L) d z end n es v.1 (any_step es) (inr o)
      (event-drains w.history i e x.reply x.found f p))
      (λ p.
      list-drains d end n es v.1 o (subst (λ (b : Bool). (b || gets_drained d z L n es) ≡ true) p t)
      (fed-keeps (LaneHas k (Reaches k) L) (λ M. Unit {0}) (reaches-keeping k L) z e x.reply (λ c q f. tt)
      (λ y. clash (starts_anew e x.reply) y (not-true (starts_anew e x.reply) (and_left _ _ g))) x.found w.history f i))

  -- its floor and those of the others are above k, so the least floor is
  floors-above : (h : History) → LaneHas k (Above k) L h → is_below (others_floor L h) k ≡ true → is_below (least_floor_of h.pages) k ≡ true
  unfolding LaneHas others_floor page_at
  floors-above h i o =
      least_above h.pages k
      (λ M. elim (ℕ_discrete M L) [
        | yes e ↦ rw e i.1.floor
        | no n ↦ subst (λ (p : Page). is_below p.floor k ≡ true) (get_or-set_other h.pages L M blank_page blank_page n)
            (each-above (set h.pages L blank_page) k o M)
      ])

pub settled-from : (d : Design) → CrashTheorem d → SettledTheorem d
unfolding CrashTheorem SettledTheorem world_after next_world
settled-from d theorem z lag start m h ok es fs x s stamps =
    let w : World = record { system = live m; history = h } in
    let e : Event = call x in
    let i = next_world d z w (format lag start) in
    let a = world_after d z i es in
    let b = next_world d z a e in
    let c = world_after d z b fs in
    let v : (rest : List Event) → Holds d z (trailer z) a.system a.history rest = λ rest.
    holds_after d z (trailer z) i es rest
    (holds-next d z (trailer z) w (format lag start) (es ++ rest) (theorem z lag start m h ok (es ++ rest))) in
    let u : (y : Event) → Holds d z (trailer z) c.system c.history (y ∷ []) = λ y.
    holds_after d z (trailer z) b fs (y ∷ []) (holds-next d z (trailer z) a e (fs ++ (y ∷ [])) (v (e ∷ (fs ++ (y ∷ []))))) in
    let t = reply-told z a.history s (trailer z) x a.system b.system _ _ (v (e ∷ [])).0.reply stamps in
    let p : Passed a.history = after-keeps Passed (λ M. Unit {0}) passed-keeping d z (trailer z) i es (theorem z lag start m h ok es).1 (any_step es)
    (inl (passed-opened z))
    (subst Passed (sym (formatted d z lag start m h ok (theorem z lag start m h ok []).0.reply)) (passed-opened z lag start 0)) in (
      stamp-below z a.history s p x b.history t.leaves,
      λ other goes drains k l floors.
          let r = list-drains k (lane_of x) z d (trailer z) b fs (v (e ∷ fs)).1 goes drains
          (stamp-reaches z a.history s p x b.history k l other (refusal-fits z a.history x t.machine t.taken) t.leaves) in
          let low = floors-above k (lane_of x) z c.history r floors in (
            not-below (cut-floors d z (trailer z) c.system c.history (u (finishing z c.system))) k low,
            λ lag₁ limit j. recovery-keeps d z c (Some (k + 1)) (λ y q. below-earlier _ k y (up_to k y q) low) lag₁ limit j (u (recover lag₁ limit j)),
          ),
    )
