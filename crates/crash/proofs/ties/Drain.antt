-- The ties are kept by a drain and by a Validate that gives up: flushed data words reach non-volatile memory, the lane's floor rises to its newest
-- timestamp or ends, and no sequence changes. Assumes nothing.
use Rattle.std.specs.Prelude.{Option, Some, None}
use mathlib.Core.Path.{◌≡◌, refl, ap, ◌∙◌, sym, subst}
use mathlib.Core.Logic.{◌⊎◌, inl, inr}
use mathlib.Core.Bool.{true, false}
use mathlib.Core.List.{List, ◌∷◌}
use Prim.Native.Nat.{ℕ, ◌+◌, ◌<◌}
use native.Mathlib.Omega.{arith}
use native.Mathlib.Nat.{le_trans, le_refl}
use native.Mathlib.Decide.{ℕ_discrete}
use lib.ListN.{length, get_or}
use Rattle.laws.specs.inner.Tests.{clash}
use Rattle.txn.specs.Txn.{max_writes, former, txn_by}
use Rattle.txn.specs.declared.Write.{Write}
use Rattle.image.specs.declared.Sizes.{Sizes}
use Rattle.record.specs.Record.{lane_at, drained_lane, idle_lane, is_held, with_lane}
use Rattle.record.specs.declared.Locked.{Locked}
use Rattle.record.specs.declared.Lane.{Lane}
use Rattle.store.specs.Machine.{Machine}
use Rattle.store.specs.Calls.{drained, matches, writes_on}
use Rattle.store.specs.Calls as calls
use Rattle.crash.specs.History.{Page, History, page_at, floor_on_drain, after_drain, released, present, words_below}
use Rattle.crash.specs.Theorem.{NotBelow, no_boundary, at_least}
use Rattle.crash.proofs.recovery.Data.{olds_of}
use Rattle.crash.proofs.induction.Moves.{Known, Ready}
use Rattle.crash.proofs.history.Lanes.{lane-drained, lane-released, page-drained, page-released}
use Rattle.crash.proofs.history.Agree.{all_writes, holder_of, Book, not-locked}
use Rattle.crash.proofs.history.Onward.{earlier-clock, onward-drained, onward-released}
use Rattle.crash.proofs.history.Books.{book-drains, not-held}
use Rattle.crash.proofs.lane.Seqs.{Seq, Since}
use Rattle.crash.proofs.lane.Ghost.{Past}
use Rattle.crash.proofs.lane.Written.{Falls, newest_in}
use Rattle.crash.proofs.lane.Newest.{giving}
use Rattle.crash.proofs.lane.Log.{Track, floor_since, floor-drained, levelled}
use Rattle.crash.proofs.lane.Cut.{cut-floor}
use Rattle.crash.proofs.lane.Running.{Running, running-drains, running-releases, updated, updated-same, updated-other}
use Rattle.crash.proofs.ties.Ties.{Flushes, LockTies, Ties}
use Rattle.crash.proofs.ties.Logs.{ties-logs}
use Rattle.crash.proofs.ties.Laws.{AtMost, not_none, at_most, track-to, cells-drained, drained-mine, drained-others}
use Rattle.crash.proofs.ties.Laws.{all-onward, logged-onward, given-now, given-before, Moving, TiesOf, ties-moved}

-- ---- a lane's floor
not-below : {f b : Option ℕ} → NotBelow f b → (x : ℕ) → AtMost b x → AtMost f x
not-below no_boundary x a = not_none a
not-below (at_least {f = f} {b = b} l) x a = record { stamp = f; is = refl; low = let k = at_most b x a in omega arith }

-- a drain makes it what the newest timestamp gives, which is not below it
floor-rises : {prior hist : List Past} {priors gs : List Seq} (σ : Since prior hist priors gs) → Falls gs → (x : ℕ)
    → AtMost (giving (newest_in gs)) x → AtMost (floor_since σ) x
floor-rises {gs = gs} σ f x a = not-below (cut-floor σ f (newest_in gs) (inl refl)) x a

-- nothing is appended to a lane that has just drained
pub not-longer : {A : Type 0} (g : Seq) (gs : List Seq) → gs ≡ g ∷ gs → A
not-longer g gs e = absurd (omega (arith, ap length e))

-- ---- a drain
module _ (z : Sizes) (base : ℕ) (h : History) (m : Machine) (b : Book z base h m) (t : Ties z base m h) (L : ℕ) (lane : L < z.lanes) where
  abbrev after : ℕ → Track
  after = updated L (levelled z L m (t.ts L)) t.ts

  inside : L < length m.state.lanes
  inside = le_trans lane b.lanes

  paged : L < length h.pages
  paged = rw b.pages lane

  page-floor : (page_at h L).floor ≡ floor_since (t.running.lanes L lane).since
  page-floor = sym (b.live.floors L lane) ∙ (t.running.lanes L lane).floor

  -- a lock that is held stays: all that its lane has logged is drained then
  lock-level : (x : Locked) (ws : List Write) (N c : ℕ) → LockTies N (t.ts L) c x ws → LockTies N (levelled z L m (t.ts L)) c x ws
  lock-level x ws N c v =
      record {
        logged = v.logged;
        written = λ w e. let p = (v.written w e).0 in (p, p.among);
        newest = v.newest;
        slots = v.slots;
        few = v.few;
      }

  lock-drains : (x : Locked) → (drained z L m).state.lock ≡ Some x → (f : List ℕ) → (after_drain L h).lock ≡ Some (holder_of x f)
      → LockTies z.slots (after x.lane) (t.to_come x.lane) x (all_writes z f (after_drain L h))
  unfolding drained with_lane after_drain all_writes present words_below
  lock-drains x e f q =
      let v = t.lock x e f q in
      elim (ℕ_discrete x.lane L) [
        | yes d ↦ subst held (sym (ap after d ∙ updated-same L (levelled z L m (t.ts L)) t.ts))
            (lock-level x (all_writes z f h) z.slots (t.to_come x.lane) (subst (λ (M : ℕ). held (t.ts M)) d v))
        | no d ↦ subst held (sym (updated-other L (levelled z L m (t.ts L)) t.ts x.lane d)) v
      ]
    where
      held : Track → Type 0
      held u = LockTies z.slots u (t.to_come x.lane) x (all_writes z f h)

  moving : Moving z L h (after_drain L h) m (drained z L m) t.ts after t.to_come t.to_come
  unfolding drained drained_lane after_drain
  moving =
      let a = lane-drained z L m inside in
      let p = page-drained L h paged in
      record {
        track = levelled z L m (t.ts L);
        tracks = track-to L (levelled z L m (t.ts L)) t.ts;
        page = record { held = (page_at h L).held; newest = (page_at h L).newest; floor = floor_on_drain (page_at h L).newest (page_at h L).floor };
        pages = p;
        given = h.clock;
        onward = onward-drained L h;
        earlier = earlier-clock z base h m b L;
        running = running-drains z m t.ts t.running L lane;
        at_base = refl;
        phases = λ M d. ap (λ (l : Lane). l.phase) (a.others M d);
        newest = t.newest L lane;
        entries = λ x e g gs q.
            let f : (lane_at m.state L).phase ≡ Some x = ap (λ (l : Lane). l.phase) (sym a.here) ∙ e in
            t.entries L lane x f g gs q
            ∙ ap olds_of (sym (logged-onward z h (after_drain L h) (onward-drained L h) base m L x (b.holding L x lane f)
            (ap (λ (p : Page). p.held) p.here) (ap (λ (p : Page). p.newest) p.here)));
        now = all-onward z h (after_drain L h) (onward-drained L h) (given-now z base h m b t L lane) (t.now L lane);
        before = all-onward z h (after_drain L h) (onward-drained L h) (given-now z base h m b t L lane) (t.now L lane);
        open' = λ g e. not-longer g (t.ts L).gs e;
        cells = cells-drained z m t.running.shape t.cells L lane;
        own = λ w i e. clash _ e (drained-mine z m t.running.shape L (1 + w));
        others = λ M d w i. drained-others z m t.running.shape L M d (1 + w);
        floor = λ M i g j f.
            rw page-floor
            (floor-rises (t.running.lanes L lane).since (t.running.lanes L lane).now.falls g.stamp
            (rw (t.newest L lane, page-floor, floor-drained (t.running.lanes L lane).since) at f));
        coming = λ M d. le_refl (t.to_come M);
        stays = λ c i g j e. j;
        kept = λ g j. inl (j, λ a w. w);
        fresh = λ c i. inl i;
        lock = lock-drains;
      }

  -- what it leaves
  pub drained-ties : TiesOf z base (drained z L m) (after_drain L h) after t.to_come
  drained-ties = ties-moved z base L h (after_drain L h) m (drained z L m) b t after t.to_come moving

-- ---- a lane that gives up what it holds
module _ (z : Sizes) (base : ℕ) (h : History) (m : Machine) (b : Book z base h m) (t : Ties z base m h) (L : ℕ) (lane : L < z.lanes)
    (free : is_held m.state.lock ≡ false) (run : Running z (calls.released L m) t.ts) where
  releasing : Moving z L h (released L h) m (calls.released L m) t.ts t.ts t.to_come t.to_come
  unfolding calls.released released idle_lane with_lane
  releasing =
      let a = lane-released z L m (le_trans lane b.lanes) in
      let o = onward-released L h in
      record {
        track = t.ts L;
        tracks = record { here = refl; others = λ M d. refl };
        page = record { held = None; newest = (page_at h L).newest; floor = (page_at h L).floor };
        pages = page-released L h (rw b.pages lane);
        given = h.clock;
        onward = o;
        earlier = earlier-clock z base h m b L;
        running = run;
        at_base = refl;
        phases = λ M d. ap (λ (l : Lane). l.phase) (a.others M d);
        newest = t.newest L lane;
        entries = λ x e g gs q. not-held None x refl (ap (λ (l : Lane). l.phase) (sym a.here) ∙ e);
        now = all-onward z h (released L h) o (given-now z base h m b t L lane) (t.now L lane);
        before = all-onward z h (released L h) o (given-before z base h m b t L lane) (t.before L lane);
        open' = λ g e. t.open' L lane g e;
        cells = λ w i. same w (t.cells w i);
        own = λ w i e. t.flags L lane w i e;
        others = λ M d w i. refl;
        floor = λ M i g j f. f;
        coming = λ M d. le_refl (t.to_come M);
        stays = λ c i g j e. j;
        kept = λ g j. inl (j, λ a w. w);
        fresh = λ c i. inl i;
        lock = λ x e f q. not-locked m.state.lock x free e;
      }
    where
      same : (w : ℕ) → (get_or m.nvm (1 + w) 0 ≡ get_or m.cache (1 + w) 0) ⊎ Flushes z m w
          → (get_or m.nvm (1 + w) 0 ≡ get_or m.cache (1 + w) 0) ⊎ Flushes z (calls.released L m) w
      same w (inl e) = inl e
      same w (inr f) = inr (record { lane = f.lane; low = f.low; bit = f.bit })

  pub released-ties : TiesOf z base (calls.released L m) (released L h) t.ts t.to_come
  released-ties = ties-moved z base L h (released L h) m (calls.released L m) b t t.ts t.to_come releasing

-- a drain leaves the lock
pub free-drained : (z : Sizes) (L : ℕ) (m : Machine) → is_held m.state.lock ≡ false → is_held (drained z L m).state.lock ≡ false
unfolding drained with_lane
free-drained z L m e = e

-- ---- the calls
pub ties-drains : (z : Sizes) (base : ℕ) (m : Machine) (h : History) (L : ℕ) → Book z base h m → Ties z base m h → Known z m L
    → Ties z base (drained z L m) (after_drain L h)
ties-drains z base m h L b t k = (drained-ties z base h m b t L k.lane).ties

pub ties-gives-up : (z : Sizes) (base : ℕ) (m : Machine) (h : History) (L : ℕ) (f : List ℕ)
    → Book z base h m → Ties z base m h → Known z m L → txn_by former max_writes z.words f ≡ true
    → Ready m L → matches z L (writes_on z f m) m ≡ false → Ties z base (calls.released L (drained z L m)) (released L (after_drain L h))
ties-gives-up z base m h L f b t k ok y e =
    let d = drained-ties z base h m b t L k.lane in
    (released-ties z base (after_drain L h) (drained z L m) (book-drains z base h m b (ties-logs z base m h b t) L k) d.ties L k.lane
    (free-drained z L m y.free)
    (subst (Running z (calls.released L (drained z L m))) (sym d.tracks) (running-releases z m t.ts t.running L k.lane))
    ).ties
