-- One lane's log while the store runs: its ghost history and that of its last drain, its log in cache and non-volatile memory, its cursor, floor and
-- phase. What each call of the lane itself makes of it. Assumes nothing.
use Rattle.std.specs.Prelude.{Option, Some, None}
use mathlib.Core.Path.{◌≡◌, refl, ap, ◌∙◌, sym, subst}
use mathlib.Core.List.{List, [], ◌∷◌, ◌++◌}
use Prim.Native.Nat.{ℕ, ◌+◌, ◌-◌, ◌*◌, ◌%◌, ◌≤◌, ◌<◌}
use native.Mathlib.Omega.{arith}
use native.Mathlib.Nat.{le_trans, mod-lt}
use lib.ListN.{length, get_or, set, length-set}
use Rattle.laws.specs.inner.Lists.{All, more, All-map}
use Rattle.txn.specs.Txn.{max_writes}
use Rattle.txn.specs.declared.Write.{Write}
use Rattle.image.specs.Image.{former_length, base_of, log_start, log_of}
use Rattle.image.specs.inner.ImageLaws.{get_or-log}
use Rattle.image.specs.Stores.{Store, stored}
use Rattle.image.specs.inner.StoresLaws.{stored-append, length-stored}
use Rattle.image.specs.declared.Sizes.{Sizes}
use Rattle.lane_log.specs.Log.{complete_in, latest_in}
use Rattle.lane_log.specs.Append.{advance, append_stores, circular, restamp_store}
use Rattle.lane_log.specs.declared.Cursor.{Cursor}
use Rattle.record.specs.Record.{lane_at, cursor_of, logged_in, drained_lane, appended_lane, idle_lane, with_lane, with_clock, with_last, Phase}
use Rattle.record.specs.declared.Pair.{Pair}
use Rattle.record.specs.declared.Logged.{Logged}
use Rattle.record.specs.declared.Record.{Record}
use Rattle.store.specs.Machine.{Machine}
use Rattle.store.specs.Calls.{drained, changed, pair_stores, commit_stores, committed, released}
use Rattle.crash.specs.History.{floor_or, floor_on_drain}
use Rattle.laws.specs.inner.Members.{here}
use Rattle.crash.proofs.recovery.Data.{olds_of, length-olds}
use Rattle.crash.proofs.history.Lanes.{LaneTo, lane-drained, lane-committed, lane-released, appended-floor}
use Rattle.crash.proofs.lane.Absolute.{cursor_at, advance-cursor, circular-abs}
use Rattle.crash.proofs.lane.Ghost.{Past, sta}
use Rattle.crash.proofs.lane.Seqs.{Seq, Since, level, grown, sealed, next, restamped, past_of, length-new, stands}
use Rattle.crash.proofs.lane.Newest.{newest_of, giving, floor-by, drained-floor}
use Rattle.crash.proofs.lane.Memory.{Mem, drained-own, mem-drained-own, mem-stored-own}
use Rattle.crash.proofs.lane.Regions.{stored-base, stored-log, inside-late, data-apart}
use Rattle.crash.proofs.lane.Append.{append-inside}
use Rattle.crash.proofs.lane.Written.{Written, written-later, below_new, Stamping, written-append}
use Rattle.crash.proofs.lane.Written.{written-commit, written-latest, newest_in}
use Rattle.crash.proofs.lane.Shape.{Shape, shape-drained, pairs-data, commit-past}

-- the ghosts of a lane: its history with its sequences; those of its last drain, and its cached log at that time
pub record Track : Type 0 where
  pub hist : List Past
  pub gs : List Seq
  pub prior : List Past
  pub priors : List Seq
  pub was : List ℕ

-- a lane that holds a logged transaction holds its newest sequence
pub data PhaseOf (N : ℕ) : Phase → List Seq → Type 0 where
  idle : {gs : List Seq} → PhaseOf N None gs
  holds : {x : Logged} {g : Seq} {gs : List Seq} → x.first ≡ (g.end - length g.entries) % N → x.count ≡ length g.entries → x.stamp ≡ g.stamp
      → 0 < length g.entries → PhaseOf N (Some x) (g ∷ gs)

-- a lane's floor: what its newest sequence at the last drain gives; where that is nothing, a timestamp appended since
unfoldable pub floor_since : {prior hist : List Past} {priors gs : List Seq} → Since prior hist priors gs → Option ℕ
floor_since (level {gs = gs}) = giving (newest_in gs)
floor_since (grown {gs = gs} es s) = floor_or (giving (newest_in gs)) (Some s)
floor_since (sealed {gs = gs} g c up some) = giving (newest_in (g ∷ gs))

pub record LaneLog (z : Sizes) (L : ℕ) (m : Machine) (t : Track) : Type 0 where
  -- the cached log, and the cached log of the last drain
  pub now : Written z (base_of m.cache) m.state.clock (log_of z L m.cache) t.hist t.gs
  pub before : Written z (base_of m.cache) m.state.clock t.was t.prior t.priors
  pub since : Since t.prior t.hist t.priors t.gs
  -- each log word in non-volatile memory is of one of the two
  pub mem : Mem z L t.was m.cache m.flags m.nvm
  pub cursor : cursor_of (lane_at m.state L) ≡ cursor_at z.slots (length t.hist)
  pub floor : (lane_at m.state L).floor ≡ floor_since since
  pub holding : PhaseOf z.slots (lane_at m.state L).phase t.gs

-- ---- the tracks after a call of the lane
-- drained: the history of the last drain is the present one
abbrev pub levelled : Sizes → ℕ → Machine → Track → Track
levelled z L m t = record { hist = t.hist; gs = t.gs; prior = t.hist; priors = t.gs; was = log_of z L m.cache }

-- drained, and then one sequence more, stamped s
abbrev pub extended : Sizes → ℕ → Machine → List Write → ℕ → Track → Track
extended z L m ws s t =
    record {
      hist = t.hist ++ past_of (olds_of ws) s;
      gs = next t.hist (olds_of ws) s ∷ t.gs;
      prior = t.hist;
      priors = t.gs;
      was = log_of z L m.cache;
    }

-- the newest sequence with another timestamp
unfoldable pub seal_gs : ℕ → List Seq → List Seq
seal_gs c [] = []
seal_gs c (g ∷ gs) = restamped c g ∷ gs

unfoldable pub seal_hist : ℕ → List Past → List Seq → List Past
seal_hist c h [] = h
seal_hist c h (g ∷ gs) = set h g.end (sta (length g.entries) c)

pub length-seal_gs : (c : ℕ) (gs : List Seq) → length (seal_gs c gs) ≡ length gs
unfolding seal_gs
length-seal_gs c [] = refl
length-seal_gs c (g ∷ gs) = refl

pub length-seal_hist : (c : ℕ) (h : List Past) (gs : List Seq) → length (seal_hist c h gs) ≡ length h
unfolding seal_hist
length-seal_hist c h [] = refl
length-seal_hist c h (g ∷ gs) = length-set h g.end (sta (length g.entries) c)

-- drained, and then the newest sequence committed at c
abbrev pub restamped_by : Sizes → ℕ → Machine → ℕ → Track → Track
restamped_by z L m c t = record { hist = seal_hist c t.hist t.gs; gs = seal_gs c t.gs; prior = t.hist; priors = t.gs; was = log_of z L m.cache }

-- ---- a drain makes what the newest sequence gives the floor
pub floor-drained : {prior hist : List Past} {priors gs : List Seq} (σ : Since prior hist priors gs)
    → floor_on_drain (newest_in gs) (floor_since σ) ≡ giving (newest_in gs)
unfolding floor_since newest_in giving floor_on_drain
floor-drained (level {gs = []}) = refl
floor-drained (level {gs = g ∷ gs}) = floor-by (length g.entries) g.stamp _
floor-drained (grown es s) = floor-by (length es) s _
floor-drained (sealed g c up some) = floor-by (length g.entries) c _

-- ---- what is read of the cached log
module _ (z : Sizes) (L : ℕ) (m : Machine) (t : Track) (s : Shape z m) (l : LaneLog z L m t) where
  -- the lane's latest sequence has the timestamp and kind of its newest
  pub lane-latest : newest_of (latest_in z m.cache L) ≡ newest_in t.gs
  unfolding latest_in complete_in
  lane-latest = written-latest z s.sizes (base_of m.cache) m.state.clock (log_of z L m.cache) L l.now

  pub next-slot : (lane_at m.state L).next ≡ length t.hist % z.slots
  unfolding cursor_of cursor_at
  next-slot = ap (λ (c : Cursor). c.slot) l.cursor

  pub next_low : (lane_at m.state L).next < z.slots
  next_low = rw next-slot (mod-lt (length t.hist) (omega (arith, s.sizes.slots-low)))

  -- ---- a drain
  module _ (lane : L < z.lanes) where
    to : LaneTo m.state (drained z L m).state L (drained_lane (latest_in z m.cache L) (lane_at m.state L))
    to = lane-drained z L m (le_trans lane s.lanes)

    drains-floor : (lane_at (drained z L m).state L).floor ≡ giving (newest_in t.gs)
    unfolding drained_lane
    drains-floor =
        rw to.here
        (drained-floor (latest_in z m.cache L) (lane_at m.state L).floor ∙ rw (lane-latest, l.floor) (floor-drained l.since))

    pub lane-drains : LaneLog z L (drained z L m) (levelled z L m t)
    unfolding drained drained_lane cursor_of with_lane floor_since
    lane-drains =
        record {
          now = l.now;
          before = l.now;
          since = level;
          mem = mem-drained-own z L lane t.was m.cache m.flags m.nvm s.in-cache s.in-flags s.in-nvm l.mem;
          cursor = rw to.here l.cursor;
          floor = drains-floor;
          holding = rw to.here l.holding;
        }

    -- and non-volatile memory has the cached log
    pub lane-same : (j : ℕ) → j < 2 * z.slots → get_or (drained z L m).nvm (log_start z L + j) 0 ≡ get_or (drained z L m).cache (log_start z L + j) 0
    unfolding drained
    lane-same = drained-own z L lane t.was m.cache m.flags m.nvm s.in-cache s.in-flags s.in-nvm l.mem

    pub lane-gives-up : LaneLog z L (released L m) t
    unfolding released idle_lane cursor_of with_lane
    lane-gives-up =
        let a = lane-released z L m (le_trans lane s.lanes) in
        record {
          now = l.now;
          before = l.before;
          since = l.since;
          mem = l.mem;
          cursor = rw a.here l.cursor;
          floor = rw a.here l.floor;
          holding = rw a.here idle;
        }

-- ---- a lane that has just been drained
module _ (z : Sizes) (L : ℕ) (lane : L < z.lanes) (m : Machine) (t : Track) (s : Shape z m) (l : LaneLog z L m (levelled z L m t))
    (floor : (lane_at m.state L).floor ≡ giving (newest_in t.gs))
    (same : (j : ℕ) → j < 2 * z.slots → get_or m.nvm (log_start z L + j) 0 ≡ get_or m.cache (log_start z L + j) 0) where
  inside : L < length m.state.lanes
  inside = le_trans lane s.lanes

  -- one sequence more, stamped s, with the record r after it
  module _ (ws : List Write) (few : length ws ≤ max_writes) (low : All (λ w. w.word < z.words) ws) (phase : Phase) (redo : List Pair)
      (c : ℕ) (r : Record) (stamp : Stamping (base_of m.cache) m.state.clock t.gs (length (olds_of ws)) c r.clock)
      (a : LaneTo m.state r L (appended_lane c (advance z.slots (length ws + 1) (cursor_of (lane_at m.state L))) phase redo (lane_at m.state L))) where
    abbrev xs : List Store
    xs = append_stores (log_start z L) z.slots c (cursor_of (lane_at m.state L)) ws

    appended-base : base_of (stored xs m.cache) ≡ base_of m.cache
    unfolding cursor_of
    appended-base =
        stored-base m.cache
        (All-map (λ x i. le_trans (let e : 1 ≤ 1 + z.words = omega arith in e) (inside-late z L x.at i))
        (append-inside z L lane (omega (arith, s.sizes.slots-low)) c
        (cursor_of (lane_at m.state L)) ws (next_low z L m (levelled z L m t) s l)))

    append-cursor : advance z.slots (length ws + 1) (cursor_of (lane_at m.state L)) ≡ cursor_at z.slots (length (t.hist ++ past_of (olds_of ws) c))
    append-cursor =
        ap (advance z.slots (length ws + 1)) l.cursor ∙ advance-cursor z.slots (omega (arith, s.sizes.slots-low)) (length ws + 1) (length t.hist)
        ∙ ap (cursor_at z.slots)
        (let e : length t.hist + (length ws + 1) ≡ length (t.hist ++ past_of (olds_of ws) c) =
        omega (arith, length-new t.hist (olds_of ws) c, length-olds ws) in e)

    append-level : PhaseOf z.slots phase (next t.hist (olds_of ws) c ∷ t.gs) → LaneLog z L (changed L xs r m) (extended z L m ws c t)
    unfolding changed appended_lane cursor_of floor_since
    append-level held =
        record {
          now = rw (appended-base, l.cursor)
              (written-append z s.sizes L lane (base_of m.cache) m.state.clock s.low s.clock m.cache s.in-cache ws few low
              c r.clock stamp l.now);
          before = rw appended-base (written-later z (base_of m.cache) m.state.clock r.clock stamp.later l.now);
          since = grown (olds_of ws) c;
          mem = mem-stored-own z L lane (log_of z L m.cache) m.cache m.flags m.nvm s.in-cache s.in-flags s.in-nvm xs same;
          cursor = rw a.here append-cursor;
          floor = rw a.here (appended-floor c (lane_at m.state L).floor ∙ ap (λ f. floor_or f (Some c)) floor);
          holding = rw a.here held;
        }

  -- ---- the newest sequence committed
  -- where its timestamp stands
  commit-slot : (x : Logged) {h : List Past} {g : Seq} {gs : List Seq} → Written z (base_of m.cache) m.state.clock (log_of z L m.cache) h (g ∷ gs)
      → x.first ≡ (g.end - length g.entries) % z.slots → x.count ≡ length g.entries → circular z.slots (x.first + x.count) ≡ g.end % z.slots
  commit-slot x {g = g} w f c =
      let k = stands z.words z.slots w.history here in
      let n : ℕ = length g.entries in
      let e : g.end - n + n ≡ g.end = omega (arith, k.late) in
      rw (f, c) (circular-abs z.slots (omega (arith, s.sizes.slots-low)) (g.end - n) n (omega (arith, k.ok.few, s.sizes.slots-low)) ∙ ap (◌% z.slots) e)

  -- a store's value comes from the address word, which the data words' stores leave
  restamp-same : (j c : ℕ) (image : List ℕ) → j < z.slots → log_of z L image ≡ log_of z L m.cache
      → restamp_store (log_start z L) j c m.cache ≡ restamp_store (log_start z L) j c image
  unfolding restamp_store
  restamp-same j c image h e =
      let d : get_or m.cache (log_start z L + 2 * j) 0 ≡ get_or image (log_start z L + 2 * j) 0
      = sym (get_or-log z L m.cache (2 * j) (omega arith)) ∙ ap (λ (k : List ℕ). get_or k (2 * j) 0) (sym e) ∙ get_or-log z L image (2 * j) (omega arith) in
      rw d

  commit-now : (x : Logged) {h : List Past} {gs : List Seq} → PhaseOf z.slots (Some x) gs
      → Written z (base_of m.cache) m.state.clock (log_of z L m.cache) h gs
      → (image : List ℕ) → former_length z ≤ length image → log_of z L image ≡ log_of z L m.cache
      → Written z (base_of m.cache) (m.state.clock + 2)
      (log_of z L (set image (restamp_store (log_start z L) (circular z.slots (x.first + x.count)) (m.state.clock + 2) m.cache).at
      (restamp_store (log_start z L) (circular z.slots (x.first + x.count)) (m.state.clock + 2) m.cache).value))
      (seal_hist (m.state.clock + 2) h gs) (seal_gs (m.state.clock + 2) gs)
  unfolding seal_hist seal_gs
  commit-now x {h} (holds {g = g} {gs = gs} f c e some) w image len same =
      rw (commit-slot x w f c, restamp-same (g.end % z.slots) (m.state.clock + 2) image (mod-lt g.end (omega (arith, s.sizes.slots-low))) same)
      (written-commit z s.sizes L lane (base_of m.cache) m.state.clock s.low s.clock image len
      (subst (λ k. Written z (base_of m.cache) m.state.clock k h (g ∷ gs)) (sym same) w))

  unfoldable commit-since : (c : ℕ) (x : Logged) (h : List Past) {gs : List Seq} → All (λ g. g.stamp < c) gs → PhaseOf z.slots (Some x) gs
      → Since h (seal_hist c h gs) gs (seal_gs c gs)
  unfolding seal_hist seal_gs
  commit-since c x h Rattle.laws.specs.inner.Lists.none x4 = elim x4 [ ]
  commit-since c x h (more up a) (holds {g = g} f n e some) = sealed g c up some

  commit-floor : (c : ℕ) (x : Logged) (h : List Past) {gs : List Seq} (a : All (λ g. g.stamp < c) gs) (p : PhaseOf z.slots (Some x) gs)
      → floor_since (commit-since c x h a p) ≡ giving (newest_in gs)
  unfolding commit-since floor_since
  commit-floor c x h Rattle.laws.specs.inner.Lists.none p = elim p [ ]
  commit-floor c x h (more up a) (holds f n e some) = refl

  module _ (ps : List Pair) (low : All (λ p. p.word < z.words) ps) (x : Logged) (held : (lane_at m.state L).phase ≡ Some x) where
    committed-base : base_of (stored (commit_stores z L ps m) m.cache) ≡ base_of m.cache
    committed-base = stored-base m.cache (commit-past z m s L lane ps low)

    pairs-log : log_of z L (stored (pair_stores ps) m.cache) ≡ log_of z L m.cache
    pairs-log = stored-log z L m.cache (All-map (λ y h. data-apart z L y.at h.1) (pairs-data z.words low))

    its : PhaseOf z.slots (Some x) t.gs
    its = rw held at l.holding

    commit-level : LaneLog z L (committed z L ps m) (restamped_by z L m (m.state.clock + 2) t)
    unfolding committed changed commit_stores with_lane with_clock with_last idle_lane cursor_of logged_in stored
    commit-level =
        let a = lane-committed z L m inside ps in
        record {
          now = rw (committed-base, held, stored-append (pair_stores ps) _ m.cache)
              (commit-now x its l.now (stored (pair_stores ps) m.cache) (rw (length-stored (pair_stores ps) m.cache) s.in-cache) pairs-log);
          before = rw committed-base (written-later z (base_of m.cache) m.state.clock (m.state.clock + 2) (omega arith) l.now);
          since = commit-since (m.state.clock + 2) x t.hist (below_new m.state.clock l.now.upto) its;
          mem = mem-stored-own z L lane (log_of z L m.cache) m.cache m.flags
              m.nvm s.in-cache s.in-flags s.in-nvm (commit_stores z L ps m) same;
          cursor = rw (a.here, length-seal_hist (m.state.clock + 2) t.hist t.gs) l.cursor;
          floor = rw a.here (floor ∙ sym (commit-floor (m.state.clock + 2) x t.hist (below_new m.state.clock l.now.upto) its));
          holding = rw a.here idle;
        }

-- ---- the calls of the lane itself: each drains first
module _ (z : Sizes) (L : ℕ) (lane : L < z.lanes) (m : Machine) (t : Track) (s : Shape z m) (l : LaneLog z L m t) where
  -- a sequence stamped c, with the record r after it
  pub lane-extends : (ws : List Write) → length ws ≤ max_writes → All (λ w. w.word < z.words) ws → (phase : Phase) (redo : List Pair) (c : ℕ) (r : Record)
      → Stamping (base_of m.cache) m.state.clock t.gs (length (olds_of ws)) c r.clock
      → LaneTo (drained z L m).state r L
      (appended_lane c (advance z.slots (length ws + 1) (cursor_of (lane_at (drained z L m).state L))) phase redo (lane_at (drained z L m).state L))
      → PhaseOf z.slots phase (next t.hist (olds_of ws) c ∷ t.gs)
      → LaneLog z L (changed L (append_stores (log_start z L) z.slots c (cursor_of (lane_at (drained z L m).state L)) ws) r (drained z L m))
      (extended z L m ws c t)
  unfolding drained with_lane
  lane-extends ws few low phase redo c r stamp a held =
      append-level z L lane (drained z L m) t (shape-drained z m s L lane)
      (lane-drains z L m t s l lane) (drains-floor z L m t s l lane) (lane-same z L m t s l lane) ws few low phase redo c r stamp a held

  -- where a sequence of n entries that is appended now will start
  pub first_slot : (n : ℕ) → (lane_at (drained z L m).state L).next ≡ (length t.hist + n - n) % z.slots
  first_slot n =
      next-slot z L (drained z L m) (levelled z L m t) (shape-drained z m s L lane) (lane-drains z L m t s l lane)
      ∙ ap (◌% z.slots) (let e : length t.hist ≡ length t.hist + n - n = omega arith in e)

  -- Redo and Validate that commit
  pub lane-commits : (ps : List Pair) → All (λ p. p.word < z.words) ps → (x : Logged) → (lane_at m.state L).phase ≡ Some x
      → LaneLog z L (committed z L ps (drained z L m)) (restamped_by z L m (m.state.clock + 2) t)
  unfolding drained drained_lane with_lane
  lane-commits ps low x held =
      commit-level z L lane (drained z L m) t (shape-drained z m s L lane)
      (lane-drains z L m t s l lane) (drains-floor z L m t s l lane) (lane-same z L m t s l lane) ps low x
      (rw (lane-drained z L m (le_trans lane s.lanes)).here held)

  -- Validate that does not
  pub lane-releases : LaneLog z L (released L (drained z L m)) (levelled z L m t)
  lane-releases = lane-gives-up z L (drained z L m) (levelled z L m t) (shape-drained z m s L lane) (lane-drains z L m t s l lane) lane
