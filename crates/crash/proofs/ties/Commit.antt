-- The ties are kept by a Redo and a Validate that commit: the lane's newest sequence takes the commit's timestamp and has the old values of its writes,
-- and the lane flushes just the words that the sequence names. Assumes nothing.
use Rattle.std.specs.Prelude.{Some, None}
use mathlib.Core.Path.{◌≡◌, refl, ap, ap₂, ◌∙◌, sym, subst}
use mathlib.Core.Logic.{◌≢◌, ◌⊎◌, inl, inr}
use mathlib.Core.Bool.{true, false, ◌||◌, or-false}
use mathlib.Core.List.{List, [], ◌∷◌, ◌++◌}
use Prim.Native.Nat.{ℕ, ◌+◌, ◌≤◌, ◌<◌}
use native.Mathlib.Omega.{arith}
use native.Mathlib.Nat.{le_trans, le_refl}
use lib.ListN.{length, get_or}
use borrow.Author.Tests.{ne_eqb, le-ltb}
use Rattle.laws.specs.inner.Tests.{eqb_same}
use Rattle.laws.specs.inner.Lists.{All, none as nil, more, All-map}
use Rattle.txn.specs.Txn.{max_writes, former, txn_by, run}
use Rattle.txn.specs.inner.TxnLaws.{run-low}
use Rattle.txn.specs.declared.Write.{Write}
use Rattle.image.specs.Image.{base_of, data_of, log_start}
use Rattle.image.specs.Flush.{flushed}
use Rattle.image.specs.Stores.{Store, places}
use Rattle.image.specs.inner.StoresLaws.{among, places-append, among-append}
use Rattle.image.specs.declared.Sizes.{Sizes}
use Rattle.lane_log.specs.Append.{restamp_store}
use Rattle.record.specs.Record.{lane_at, idle_lane, drained_lane, is_held, with_lane, with_clock, with_last, pairs_of}
use Rattle.record.specs.declared.Logged.{Logged}
use Rattle.record.specs.declared.Lane.{Lane}
use Rattle.store.specs.Machine.{Machine}
use Rattle.store.specs.Calls.{drained, changed, writes_on, pair_stores, commit_stores, committed, is_stale, redo_pairs, matches}
use Rattle.crash.specs.History.{closing_at, Commit, Page}
use Rattle.crash.specs.History.{History, page_at, is_below, words_below, present, floor_or, after_drain, stamped, held_by, writes_logged, least_floor_of}
use Rattle.laws.specs.inner.Members.{In, in-cases, here, there, In-append, In-All}
use Rattle.recovery.specs.inner.UndoneLaws.{writes, first_old}
use Rattle.crash.proofs.recovery.Data.{olds_of, txn_writes, run-first, replay-all, replay_snoc}
use Rattle.crash.proofs.induction.Moves.{Known, Ready}
use Rattle.crash.proofs.history.Lanes.{lane-drained, lane-committed, page-drained, page-stamped}
use Rattle.crash.proofs.history.Agree.{Book, is-held, not-locked}
use Rattle.crash.proofs.history.Answers.{holds-it, matched}
use Rattle.crash.proofs.history.Onward.{earlier-clock, onward-drained, onward-commit}
use Rattle.crash.proofs.history.Books.{words-free, book-drains, redo-now, redo-held, redo-pairs, not-held}
use Rattle.crash.proofs.lane.Seqs.{Seq, Hist, restamped}
use Rattle.crash.proofs.lane.Regions.{stored-base}
use Rattle.crash.proofs.lane.Newest.{closing-by}
use Rattle.crash.proofs.lane.Written.{Whole, RoomFor, whole_room, newest_in, newest-whole}
use Rattle.crash.proofs.lane.Shape.{commit-past}
use Rattle.crash.proofs.lane.Log.{Track, seal_gs, seal_hist, length-seal_gs, length-seal_hist, levelled, restamped_by}
use Rattle.crash.proofs.lane.Reads.{HeldSeq, lane-held}
use Rattle.crash.proofs.lane.Running.{Running, updated, updated-same, running-commits}
use Rattle.crash.proofs.ties.Ties.{TrueOf, Backed, Ties}
use Rattle.crash.proofs.ties.Logs.{ties-logs}
use Rattle.crash.proofs.ties.Laws.{AtMost, floor-first, TrackTo, track-to, track-on, Cells, cells-changed, drained-mine}
use Rattle.crash.proofs.ties.Laws.{changed-mine, changed-others, true-rest}
use Rattle.crash.proofs.ties.Laws.{all-onward, logged-onward, given-now, Moving, TiesOf, ties-moved}
use Rattle.crash.proofs.ties.Drain.{free-drained, drained-ties}

-- ---- what a commit stores and flushes
-- the pairs of some writes go to the words that the writes' entries name
pub pairs-named : (ws : List Write) (w : ℕ) → among (1 + w) (places (pair_stores (pairs_of (length ws) ws))) ≡ writes (olds_of ws) w
unfolding among places pair_stores pairs_of writes olds_of
pairs-named [] w = refl
pairs-named (v ∷ ws) w = ap₂ ◌||◌ (eqb_same (1 + v.word) (1 + w) v.word w (λ q. omega arith) (λ q. omega arith)) (pairs-named ws w)

-- pairs are of data words where the writes are
pub pairs-low : (W : ℕ) {ws : List Write} → All (λ w. w.word < W) ws → All (λ p. p.word < W) (pairs_of (length ws) ws)
unfolding pairs_of
pairs-low W nil = nil
pairs-low W (more l h) = more l (pairs-low W h)

-- and the new timestamp goes past the data words
among-last : (i : ℕ) (xs : List Store) (y : Store) → y.at ≢ i → among i (places (xs ++ (y ∷ []))) ≡ among i (places xs)
unfolding places among
among-last i xs y d =
    ap (among i) (places-append xs (y ∷ [])) ∙ among-append i (places xs) (y.at ∷ []) ∙ rw (ne_eqb y.at i d) (or-false (among i (places xs)))

pub commit-named : (z : Sizes) (L : ℕ) (ws : List Write) (m : Machine) (w : ℕ) → w < z.words
    → among (1 + w) (places (commit_stores z L (pairs_of (length ws) ws) m)) ≡ writes (olds_of ws) w
unfolding commit_stores restamp_store log_start
commit-named z L ws m w h = among-last (1 + w) (pair_stores (pairs_of (length ws) ws)) _ (λ e. omega arith) ∙ pairs-named ws w

-- ---- the words below a commit's timestamp are those before it
pub commit-below : (z : Sizes) (L : ℕ) (f : List ℕ) (h : History) → All (λ c. c.stamp ≤ h.clock) h.commits
    → words_below z (Some (h.clock + 2)) (stamped L closing_at None (f ∷ []) h) ≡ present z h
unfolding words_below present stamped is_below
commit-below z L f h u =
    replay_snoc z.words (Some (h.clock + 2)) h.commits (record { stamp = h.clock + 2; txn = f }) h.start
    ∙ rw (le-ltb (h.clock + 2) (h.clock + 2) (le_refl (h.clock + 2)))
    (replay-all z.words (h.clock + 2) h.start (All-map (λ c i. omega arith) u))

-- ---- the lane's ghosts
seal-one : (c : ℕ) (gs : List Seq) (g : Seq) (rest : List Seq) → gs ≡ g ∷ rest → seal_gs c gs ≡ restamped c g ∷ rest
unfolding seal_gs
seal-one c gs g rest e = rw e

not_first : {A : Type 0} (c : ℕ) (g : Seq) (gs : List Seq) → seal_gs c gs ≡ g ∷ gs → A
not_first c g gs e = absurd (omega (arith, ap length e, length-seal_gs c gs))

newest-one : (c : ℕ) (g : Seq) (rest : List Seq) → 0 < length g.entries → closing_at c ≡ newest_in (restamped c g ∷ rest)
unfolding newest_in
newest-one c g rest some = sym (closing-by (length g.entries) c some)

-- a sequence that is not the newest is still there
seal-in : (c s : ℕ) (g : Seq) {f : Seq} {rest : List Seq} → In g (f ∷ rest) → (f.stamp ≡ s → ⊥) → g.stamp ≡ s → In g (restamped c f ∷ rest)
seal-in c s g here d e = absurd (d e)
seal-in c s g (there i) d e = there i

-- ---- a commit of transaction f by a lane that has just drained: the sequence that it holds names what f writes now
module _ (z : Sizes) (base : ℕ) (h : History) (m : Machine) (b : Book z base h m) (t : Ties z base m h) (L : ℕ) (lane : L < z.lanes)
    (free : is_held m.state.lock ≡ false) (clear : (w : ℕ) → w < z.words → flushed L (get_or m.flags (1 + w) 0) ≡ false)
    (x : Logged) (held : (lane_at m.state L).phase ≡ Some x)
    (f : List ℕ) (ok : txn_by former max_writes z.words f ≡ true) (same : olds_of (writes_on z f m) ≡ olds_of (writes_logged z L h))
    (us : ℕ → Track) (to : TrackTo t.ts us L (restamped_by z L m (h.clock + 2) (t.ts L)))
    (runs : Running z (committed z L (pairs_of (length (writes_on z f m)) (writes_on z f m)) m) us) where
  abbrev ws : List Write
  ws = writes_on z f m

  abbrev k : History
  k = stamped L closing_at None (f ∷ []) h

  abbrev n : Machine
  n = committed z L (pairs_of (length ws) ws) m

  it : HeldSeq z.slots x (t.ts L).gs
  it = lane-held z L m (t.ts L) t.running.shape (t.running.lanes L lane) x held

  abbrev g : Seq
  g = it.seq

  its : g.entries ≡ olds_of ws
  its = t.entries L lane x held g it.rest it.newest ∙ sym same

  sealed : seal_gs (h.clock + 2) (t.ts L).gs ≡ restamped (h.clock + 2) g ∷ it.rest
  sealed = seal-one (h.clock + 2) (t.ts L).gs g it.rest it.newest

  low : All (λ w. w.word < z.words) ws
  unfolding writes_on
  low = run-low former max_writes z.words f (data_of z m.cache) ok

  words-at : words_below z (Some (h.clock + 2)) k ≡ data_of z m.cache
  words-at = commit-below z L f h b.upto ∙ sym (words-free z base L lane h m b free)

  -- the sequence is true at the commit's timestamp
  true-now : (gs : List Seq) → TrueOf z.words k gs (restamped (h.clock + 2) g)
  unfolding TrueOf words_below writes_on txn_writes
  true-now gs w l y n e =
      ap (λ es. first_old es w y) its
      ∙ run-first z.words w y f (data_of z m.cache) (ap (λ es. writes es w) (sym its) ∙ e)
      ∙ ap (λ (ws : List ℕ). get_or ws w 0) (sym words-at)

  hist-now : Hist z.words z.slots (t.ts L).hist (g ∷ it.rest)
  hist-now = subst (Hist z.words z.slots (t.ts L).hist) it.newest (t.running.lanes L lane).now.history

  all-now : All (TrueOf z.words k (seal_gs (h.clock + 2) (t.ts L).gs)) (seal_gs (h.clock + 2) (t.ts L).gs)
  all-now =
      subst (λ gs. All (TrueOf z.words k gs) gs) (sym sealed)
      (more (true-now (restamped (h.clock + 2) g ∷ it.rest))
      (true-rest z.words z.slots k (restamped (h.clock + 2) g) it.rest hist-now
      (subst (λ gs. All (TrueOf z.words k gs) gs) it.newest
      (all-onward z h k (onward-commit L f h) (given-now z base h m b t L lane) (t.now L lane)))))

  -- the words that the lane has flushed
  flushes : (w : ℕ) → w < z.words → flushed L (get_or n.flags (1 + w) 0) ≡ true → writes g.entries w ≡ true
  unfolding committed
  flushes w l e =
      ap (λ es. writes es w) its ∙ sym (commit-named z L ws m w l) ∙ sym (or-false _)
      ∙ ap (λ c. among (1 + w) (places (commit_stores z L (pairs_of (length ws) ws) m)) || c) (sym (clear w l))
      ∙ sym (changed-mine z m t.running.shape L (commit_stores z L (pairs_of (length ws) ws) m) _ w l) ∙ e

  base_same : base_of n.cache ≡ base_of m.cache
  unfolding committed changed
  base_same = stored-base m.cache (commit-past z m t.running.shape L lane (pairs_of (length ws) ws) (pairs-low z.words low))

  -- the commit is backed
  whole : Whole z.slots (seal_hist (h.clock + 2) (t.ts L).hist (t.ts L).gs) (restamped (h.clock + 2) g)
  whole =
      let w : Whole z.slots (t.ts L).hist g = newest-whole z t.running.shape.sizes hist-now in
      omega (arith, length-seal_hist (h.clock + 2) (t.ts L).hist (t.ts L).gs)

  backed : Backed z k us (record { stamp = h.clock + 2; txn = f })
  unfolding Backed words_below txn_writes writes_on
  backed w l e =
      record {
        lane = L;
        low = lane;
        by = restamped (h.clock + 2) g;
        among = rw (to.here, sealed) here;
        stamp = refl;
        named = ap (λ es. writes es w) its ∙ ap (λ (ws : List ℕ). writes (olds_of (run z.words f ws)) w) (sym words-at) ∙ e;
      }

  -- the newest is whole by its position, and the others stay
  kept : (s : Seq) → (s ≡ restamped (h.clock + 2) g) ⊎ In s it.rest
      → ((In s (t.ts L).gs) × (AtMost (least_floor_of h.pages) s.stamp → RoomFor z.slots (t.to_come L) (t.ts L).hist s
      → RoomFor z.slots 0 (seal_hist (h.clock + 2) (t.ts L).hist (t.ts L).gs) s))
      ⊎ (RoomFor z.slots 0 (seal_hist (h.clock + 2) (t.ts L).hist (t.ts L).gs) s)
  kept s (inl e) = inr (rw e (whole_room z.slots (seal_hist (h.clock + 2) (t.ts L).hist (t.ts L).gs) (restamped (h.clock + 2) g) whole))
  kept s (inr j) = inl (rw it.newest (there j), λ a w. omega (arith, length-seal_hist (h.clock + 2) (t.ts L).hist (t.ts L).gs))

  fresh : (c : Commit) → In c k.commits → (In c h.commits) ⊎ Backed z k us c
  unfolding stamped
  fresh c i = go c (In-append h.commits i)
    where
      go : (c : Commit) → (In c h.commits) ⊎ (In c (record { stamp = h.clock + 2; txn = f } ∷ [])) → (In c h.commits) ⊎ Backed z k us c
      go c (inl j) = inl j
      go c (inr here) = inr backed
      go c (inr (there j)) = elim j [ ]

  -- a commit's sequence is not the one that the lane holds
  stays : (c : Commit) → In c h.commits → (s : Seq) → In s (t.ts L).gs → s.stamp ≡ c.stamp → In s (seal_gs (h.clock + 2) (t.ts L).gs)
  stays c i s j e =
      subst (In s) (sym sealed)
      (seal-in (h.clock + 2) c.stamp s (subst (In s) it.newest j) (λ q. In-All (b.holding L x lane held).apart i (sym q ∙ sym it.stamp)) e)

  cells-now : Cells z n
  unfolding committed
  cells-now = cells-changed z m t.running.shape t.cells L lane (commit_stores z L (pairs_of (length ws) ws) m) _

  flushes-other : (M : ℕ) → M ≢ L → (w : ℕ) → w < z.words → flushed M (get_or n.flags (1 + w) 0) ≡ flushed M (get_or m.flags (1 + w) 0)
  unfolding committed
  flushes-other M d w l = changed-others z m t.running.shape L (commit_stores z L (pairs_of (length ws) ws) m) _ M d w l

  free-now : is_held n.state.lock ≡ false
  unfolding committed changed with_last with_lane with_clock
  free-now = free

  moving : Moving z L h k m n t.ts us t.to_come (λ M. 0)
  unfolding idle_lane
  moving =
      let a = lane-committed z L m (le_trans lane b.lanes) (pairs_of (length ws) ws) in
      record {
        track = restamped_by z L m (h.clock + 2) (t.ts L);
        tracks = to;
        page = record { held = None; newest = closing_at (h.clock + 2); floor = floor_or (page_at h L).floor (Some (h.clock + 2)) };
        pages = page-stamped L h (rw b.pages lane) closing_at None (f ∷ []);
        given = h.clock;
        onward = onward-commit L f h;
        earlier = earlier-clock z base h m b L;
        running = runs;
        at_base = base_same;
        phases = λ M d. ap (λ (l : Lane). l.phase) (a.others M d);
        newest = newest-one (h.clock + 2) g it.rest it.some ∙ ap newest_in (sym sealed);
        entries = λ y e s gs q. not-held None y refl (ap (λ (l : Lane). l.phase) (sym a.here) ∙ e);
        now = all-now;
        before = all-onward z h k (onward-commit L f h) (given-now z base h m b t L lane) (t.now L lane);
        open' = λ s e. not_first (h.clock + 2) s (t.ts L).gs e;
        cells = cells-now;
        own = λ w l e.
            record {
              by = restamped (h.clock + 2) g;
              rest = it.rest;
              newest = sealed;
              drained = sym (length-seal_gs (h.clock + 2) (t.ts L).gs);
              named = flushes w l e;
            };
        others = flushes-other;
        floor = λ M i s j e.
            floor-first (page_at h L).floor (h.clock + 2) s.stamp (omega (arith, In-All (given-now z base h m b t M i) j)) e;
        coming = λ M d. omega arith;
        stays = stays;
        kept = λ s j. kept s (in-cases (subst (In s) sealed j));
        fresh = fresh;
        lock = λ x e f q. not-locked n.state.lock x free-now e;
      }

  pub committed-ties : TiesOf z base n k us (λ M. 0)
  committed-ties = ties-moved z base L h k m n b t us (λ M. 0) moving

-- ---- a drain and then the commit
-- the ghosts of both together, from those that the drain left
restamped-to : (z : Sizes) (L : ℕ) (m : Machine) (ts vs : ℕ → Track) (c e : ℕ) → vs ≡ updated L (levelled z L m (ts L)) ts → c ≡ e
    → TrackTo vs (updated L (restamped_by z L m c (ts L)) ts) L (restamped_by z L (drained z L m) e (vs L))
unfolding drained
restamped-to z L m ts vs c e p q =
    subst (λ (s : ℕ). TrackTo vs (updated L (restamped_by z L m c (ts L)) ts) L (restamped_by z L (drained z L m) s (vs L))) q
    (subst (λ (us : ℕ → Track). TrackTo us (updated L (restamped_by z L m c (ts L)) ts) L (restamped_by z L (drained z L m) c (us L))) (sym p)
    (record {
      here = updated-same L (restamped_by z L m c (ts L)) ts ∙ ap (restamped_by z L (drained z L m) c) (sym (updated-same L (levelled z L m (ts L)) ts));
      others = both.others;
    }))
  where
    both : TrackTo (updated L (levelled z L m (ts L)) ts) (updated L (restamped_by z L m c (ts L)) ts) L (restamped_by z L m c (ts L))
    both = track-on (track-to L (levelled z L m (ts L)) ts) (track-to L (restamped_by z L m c (ts L)) ts)

module _ (z : Sizes) (base : ℕ) (m : Machine) (h : History) (L : ℕ) (b : Book z base h m) (t : Ties z base m h) (k : Known z m L) where
  pub ties-commits : is_held m.state.lock ≡ false → (x : Logged) → (lane_at m.state L).phase ≡ Some x → (f : List ℕ)
      → txn_by former max_writes z.words f ≡ true
      → olds_of (writes_on z f m) ≡ olds_of (writes_logged z L h)
      → Ties z base (committed z L (pairs_of (length (writes_on z f m)) (writes_on z f m)) (drained z L m)) (stamped L closing_at None (f ∷ []) (after_drain L h))
  unfolding drained drained_lane writes_on after_drain with_lane
  ties-commits free x held f ok same =
      let d = drained-ties z base h m b t L k.lane in
      let p = (page-drained L h (rw b.pages k.lane)).here in
      (committed-ties z base (after_drain L h) (drained z L m) (book-drains z base h m b (ties-logs z base m h b t) L k) d.ties L k.lane
      (free-drained z L m free) (λ w l. drained-mine z m t.running.shape L (1 + w)) x
      (ap (λ (l : Lane). l.phase) (lane-drained z L m (le_trans k.lane b.lanes)).here ∙ held) f ok
      (same ∙ ap olds_of (sym (logged-onward z h (after_drain L h) (onward-drained L h) base m L x
      (b.holding L x k.lane held) (ap (λ (p : Page). p.held) p) (ap (λ (p : Page). p.newest) p))))
      (updated L (restamped_by z L m (m.state.clock + 2) (t.ts L)) t.ts)
      (restamped-to z L m t.ts d.ties.ts (m.state.clock + 2) (h.clock + 2) d.tracks (ap (λ (c : ℕ). c + 2) b.live.clock))
      (running-commits z m t.ts t.running L k.lane (pairs_of (length (writes_on z f m)) (writes_on z f m))
      (pairs-low z.words (run-low former max_writes z.words f (data_of z m.cache) ok)) x held)
      ).ties

-- ---- Redo that is not stale, and Validate that matches
pub ties-redoes : (z : Sizes) (base : ℕ) (m : Machine) (h : History) (L : ℕ) → Book z base h m → Ties z base m h → Known z m L → Ready m L → is_stale L m ≡ false
    → Ties z base (committed z L (redo_pairs L m) (drained z L m)) (stamped L closing_at None (held_by (page_at h L).held) (after_drain L h))
ties-redoes z base m h L b t k y e =
    let l = ties-logs z base m h b t in
    let v = holds-it z base h m b l L k.lane y.held in
    rw (redo-pairs z base h m b l L k y e, redo-held z base h m b l L k y)
    (ties-commits z base m h L b t k y.free _ (is-held (lane_at m.state L).phase y.held) v.txn v.ok
    (ap olds_of (sym (redo-now z base h m b l L k y e))))

pub ties-validates : (z : Sizes) (base : ℕ) (m : Machine) (h : History) (L : ℕ) (f : List ℕ)
    → Book z base h m → Ties z base m h → Known z m L → txn_by former max_writes z.words f ≡ true
    → Ready m L → matches z L (writes_on z f m) m ≡ true
    → Ties z base (committed z L (pairs_of (length (writes_on z f m)) (writes_on z f m)) (drained z L m)) (stamped L closing_at None (f ∷ []) (after_drain L h))
ties-validates z base m h L f b t k ok y e =
    ties-commits z base m h L b t k y.free _ (is-held (lane_at m.state L).phase y.held) f ok
    (matched z base h m b (ties-logs z base m h b t) L k.lane y.held (writes_on z f m) e)
