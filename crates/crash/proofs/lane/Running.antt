-- All lanes' logs of a running store, and its sizes and base: they hold at a start, and every call and write-back keeps them, with
-- the ghosts of the calling lane changed and the others' as they were. Assumes nothing.
use Rattle.std.specs.Prelude.{Some, None}
use mathlib.Core.Path.{◌≡◌, refl, sym, subst}
use mathlib.Core.Logic.{◌≢◌}
use mathlib.Core.Bool.{cond}
use mathlib.Core.List.{List, [], ◌∷◌}
use Prim.Native.Nat.{ℕ, ◌+◌, ◌*◌, ◌%◌, ◌≤◌, ◌<◌}
use native.Mathlib.Omega.{arith}
use native.Mathlib.Nat.{le_trans, le_refl, mod_self, div_self}
use native.Mathlib.Decide.{ℕ_discrete}
use lib.Dec.{eqb}
use lib.ListN.{length, replicate, length-replicate, get_or-replicate}
use borrow.Author.Tests.{eq-eqb, ne_eqb}
use Rattle.laws.specs.inner.Lists.{All, none, All-map}
use Rattle.txn.specs.Txn.{max_writes}
use Rattle.txn.specs.declared.Write.{Write}
use Rattle.image.specs.Image.{max_lanes, former_length, base_of, log_start, log_of}
use Rattle.image.specs.inner.ImageLaws.{InRange}
use Rattle.image.specs.Flush.{written_back}
use Rattle.image.specs.Stores.{Store}
use Rattle.image.specs.declared.Sizes.{Sizes}
use Rattle.lane_log.specs.Append.{advance, append_stores}
use Rattle.record.specs.Record.{start_lane, start_record, lane_at, cursor_of, drained_lane, appended_lane, pairs_of, with_lane, with_clock, Phase}
use Rattle.record.specs.declared.Pair.{Pair}
use Rattle.record.specs.declared.Logged.{Logged}
use Rattle.record.specs.declared.Record.{Record}
use Rattle.store.specs.Machine.{Machine}
use Rattle.store.specs.Calls.{started, drained, changed, appended, logged, committed, released}
use Rattle.crash.specs.Theorem.{end_of}
use Rattle.crash.proofs.recovery.Data.{olds_of, length-olds}
use Rattle.crash.proofs.lane.Ends.{Form, end-zeros}
use Rattle.crash.proofs.history.Lanes.{LaneTo, lane-drained, lane-appended, lane-start}
use Rattle.crash.proofs.lane.Absolute.{wrap_of, cursor_at}
use Rattle.crash.proofs.lane.Ghost.{blank}
use Rattle.crash.proofs.lane.Seqs.{next, level}
use Rattle.crash.proofs.lane.Memory.{mem-same}
use Rattle.crash.proofs.lane.Regions.{data-apart}
use Rattle.crash.proofs.lane.Newest.{giving}
use Rattle.crash.proofs.lane.Written.{Stamping, stamping-next, newest_in, written_start}
use Rattle.crash.proofs.lane.Shape.{Shape, with_nvm, shape-drained, shape-changed, shape-extends, shape-committed, shape-released, shape-written_back}
use Rattle.crash.proofs.lane.Log.{Track, PhaseOf, idle, holds, floor_since}
use Rattle.crash.proofs.lane.Log.{LaneLog, levelled, extended, restamped_by, next_low, lane-drains, lane-extends, first_slot, lane-commits, lane-releases}
use Rattle.crash.proofs.lane.Others.{commit-low, lane-written_back, lane-changed}
use Rattle.crash.proofs.lane.Others.{lane-drains-other, lane-extends-other, lane-commits-other, lane-releases-other}

pub record Running (z : Sizes) (m : Machine) (ts : ℕ → Track) : Type 0 where
  pub shape : Shape z m
  pub lanes : (L : ℕ) → L < z.lanes → LaneLog z L m (ts L)

-- the pairs beside the record matter to none of it
pub running-pairs : (z : Sizes) (m : Machine) (ts : ℕ → Track) → Running z m ts → (ps : List ℕ)
    → Running z (record { state = m.state; pairs = ps; cache = m.cache; nvm = m.nvm; flags = m.flags }) ts
running-pairs z m ts v ps =
    let s = v.shape in
    record {
      shape = record {
        sizes = s.sizes;
        in-cache = s.in-cache;
        in-nvm = s.in-nvm;
        in-flags = s.in-flags;
        tail = record { form = s.tail.form; cache = s.tail.cache; flags = s.tail.flags };
        lanes = s.lanes;
        clock = s.clock;
        even = s.even;
        low = s.low;
        base = s.base;
      };
      lanes = λ L h.
          let l = v.lanes L h in
          record { now = l.now; before = l.before; since = l.since; mem = l.mem; cursor = l.cursor; floor = l.floor; holding = l.holding };
    }

-- the ghosts with those of lane M changed
unfoldable pub updated : ℕ → Track → (ℕ → Track) → ℕ → Track
updated M t ts L = cond (eqb M L) t (ts L)

pub updated-same : (M : ℕ) (t : Track) (ts : ℕ → Track) → updated M t ts M ≡ t
unfolding updated
updated-same M t ts = rw (eq-eqb M M refl)

pub updated-other : (M : ℕ) (t : Track) (ts : ℕ → Track) (L : ℕ) → L ≢ M → updated M t ts L ≡ ts L
unfolding updated
updated-other M t ts L d = rw (ne_eqb M L (λ e. d (sym e)))

-- ---- a start
abbrev pub start_track : Sizes → List ℕ → ℕ → Track
start_track z image L = record { hist = replicate z.slots blank; gs = []; prior = replicate z.slots blank; priors = []; was = log_of z L image }

module _ (z : Sizes) (r : InRange z) (lag base : ℕ) (image : List ℕ) (even : base % 2 ≡ 0) (len : former_length z ≤ length image) (form : Form z (end_of z image))
    (at : base_of image ≡ base)
    (zero : (L : ℕ) → L < z.lanes → log_of z L image ≡ replicate (2 * z.slots) 0) where
  start-cursor : cursor_at z.slots (length (replicate z.slots blank)) ≡ cursor_of start_lane
  unfolding cursor_at cursor_of start_lane wrap_of
  start-cursor =
      let p : 0 < z.slots = omega (arith, r.slots-low) in
      rw (length-replicate z.slots blank, mod_self z.slots, div_self p)

  start-lane : (L : ℕ) → L < z.lanes → LaneLog z L (started lag base image) (start_track z image L)
  unfolding started start_record newest_in floor_since giving start_lane
  start-lane L h =
      let w = written_start z (base_of image) base (log_of z L image) r (λ j k. rw (zero L h) (get_or-replicate (2 * z.slots) j 0 0 k)) in
      record {
        now = w;
        before = w;
        since = level;
        mem = mem-same z L image (replicate (length image) 0) image (λ j k. refl);
        cursor = rw (lane-start z lag base r.lanes-high L h) (sym start-cursor);
        floor = rw (lane-start z lag base r.lanes-high L h);
        holding = rw (lane-start z lag base r.lanes-high L h) idle;
      }

  pub running-start : Running z (started lag base image) (start_track z image)
  unfolding started start_record
  running-start =
      record {
        shape = record {
          sizes = r;
          in-cache = len;
          in-nvm = len;
          in-flags = rw (length-replicate {A = ℕ} (length image) 0) len;
          tail = record { form = form; cache = refl; flags = end-zeros z image };
          lanes = rw (length-replicate max_lanes start_lane) r.lanes-high;
          clock = even;
          even = rw at even;
          low = rw at (le_refl base);
          base = refl;
        };
        lanes = start-lane;
      }

-- ---- the calls
data-within : (z : Sizes) (i : ℕ) → i < 1 + z.words → i < former_length z
unfolding former_length
data-within z i h = omega arith

module _ (z : Sizes) (m : Machine) (ts : ℕ → Track) (v : Running z m ts) where
  -- a machine in which lane M has new ghosts and the others have theirs
  each : (M : ℕ) (n : Machine) (t : Track) → Shape z n → LaneLog z M n t → ((L : ℕ) → L < z.lanes → L ≢ M → LaneLog z L n (ts L)) → Running z n (updated M t ts)
  each M n t s own others =
      record {
        shape = s;
        lanes = λ L h. elim (ℕ_discrete L M) [
          | yes e ↦ subst (λ K. LaneLog z K n (updated M t ts K)) (sym e) (subst (LaneLog z M n) (sym (updated-same M t ts)) own)
          | no d ↦ subst (LaneLog z L n) (sym (updated-other M t ts L d)) (others L h d)
        ];
      }

  pub running-written_back : (i : ℕ) → Running z (with_nvm m (written_back i m.cache m.nvm)) ts
  running-written_back i = record { shape = shape-written_back z m v.shape i; lanes = λ L h. lane-written_back z L h m (ts L) v.shape (v.lanes L h) i }

  -- stores to data words that lane M flushes; the clock may go on, and all lanes stay
  pub running-changed : (M : ℕ) → M < z.lanes → (xs : List Store) (r : Record) → All (λ x. (1 ≤ x.at) × (x.at < 1 + z.words)) xs
      → ((L : ℕ) → lane_at r L ≡ lane_at m.state L) → length r.lanes ≡ length m.state.lanes → m.state.clock ≤ r.clock → r.clock % 2 ≡ 0
      → Running z (changed M xs r m) ts
  running-changed M lane xs r words same many up even =
      let past = All-map (λ (x : Store) h. h.0) words in
      record {
        shape = shape-changed z m v.shape M lane xs r past (All-map (λ x h. data-within z x.at h.1) words) (rw many v.shape.lanes) up even;
        lanes = λ L h. lane-changed z L h m (ts L) v.shape (v.lanes L h) M xs r (All-map (λ x k. data-apart z L x.at k.1) words) past (same L) up;
      }

  module _ (M : ℕ) (lane : M < z.lanes) where
    mine : LaneLog z M m (ts M)
    mine = v.lanes M lane

    drained-shape : Shape z (drained z M m)
    drained-shape = shape-drained z m v.shape M lane

    drained-mine : LaneLog z M (drained z M m) (levelled z M m (ts M))
    drained-mine = lane-drains z M m (ts M) v.shape mine lane

    drained-other : (L : ℕ) → L < z.lanes → L ≢ M → LaneLog z L (drained z M m) (ts L)
    drained-other L h d = lane-drains-other z L h m (ts L) v.shape (v.lanes L h) M lane d

    next-there : (lane_at (drained z M m).state M).next < z.slots
    next-there = next_low z M (drained z M m) (levelled z M m (ts M)) drained-shape drained-mine

    pub running-drains : Running z (drained z M m) (updated M (levelled z M m (ts M)) ts)
    running-drains = each M (drained z M m) (levelled z M m (ts M)) drained-shape drained-mine drained-other

    -- a sequence stamped c, with the record r after it
    pub running-extends : (ws : List Write) → length ws ≤ max_writes → All (λ w. w.word < z.words) ws → (phase : Phase) (redo : List Pair) (c : ℕ) (r : Record)
        → Stamping (base_of m.cache) m.state.clock (ts M).gs (length (olds_of ws)) c r.clock → r.clock % 2 ≡ 0
        → LaneTo (drained z M m).state r M
        (appended_lane c (advance z.slots (length ws + 1) (cursor_of (lane_at (drained z M m).state M))) phase redo (lane_at (drained z M m).state M))
        → PhaseOf z.slots phase (next (ts M).hist (olds_of ws) c ∷ (ts M).gs)
        → Running z (changed M (append_stores (log_start z M) z.slots c (cursor_of (lane_at (drained z M m).state M)) ws) r (drained z M m))
        (updated M (extended z M m ws c (ts M)) ts)
    unfolding drained with_lane
    running-extends ws few low phase redo c r stamp even a held =
        each M (changed M (append_stores (log_start z M) z.slots c (cursor_of (lane_at (drained z M m).state M)) ws) r (drained z M m))
        (extended z M m ws c (ts M))
        (shape-extends z (drained z M m) drained-shape M lane ws c r next-there (rw a.lanes drained-shape.lanes) stamp.later even)
        (lane-extends z M lane m (ts M) v.shape mine ws few low phase redo c r stamp a held)
        (λ L h d. lane-extends-other z L h (drained z M m) (ts L) drained-shape (drained-other L h d) M lane d ws c r next-there (a.others L d) stamp.later)

    -- with the next timestamp
    running-appends : (ws : List Write) → length ws ≤ max_writes → All (λ w. w.word < z.words) ws → (phase : Phase) (redo : List Pair)
        → PhaseOf z.slots phase (next (ts M).hist (olds_of ws) (m.state.clock + 2) ∷ (ts M).gs)
        → Running z (appended z M ws phase redo (drained z M m)) (updated M (extended z M m ws (m.state.clock + 2) (ts M)) ts)
    unfolding appended with_lane with_clock drained changed
    running-appends ws few low phase redo held =
        running-extends ws few low phase redo (m.state.clock + 2) (appended z M ws phase redo (drained z M m)).state
        (stamping-next (base_of m.cache) m.state.clock (length (olds_of ws)) v.shape.low v.shape.clock mine.now.upto)
        (omega (arith, v.shape.clock)) (lane-appended z M (drained z M m) (le_trans lane drained-shape.lanes) ws phase redo) held

    pub running-logs : (ws : List Write) → 0 < length ws → length ws ≤ max_writes → All (λ w. w.word < z.words) ws
        → Running z (logged z M ws (drained z M m)) (updated M (extended z M m ws (m.state.clock + 2) (ts M)) ts)
    unfolding logged drained with_lane
    running-logs ws one few low =
        running-appends ws few low _ (pairs_of max_writes ws)
        (holds (first_slot z M lane m (ts M) v.shape mine (length (olds_of ws))) (sym (length-olds ws)) refl (omega (arith, length-olds ws)))

    pub running-marks : (redo : List Pair)
        → Running z (appended z M [] None redo (drained z M m)) (updated M (extended z M m [] (m.state.clock + 2) (ts M)) ts)
    running-marks redo = running-appends [] (omega arith) none None redo idle

    pub running-commits : (ps : List Pair) → All (λ p. p.word < z.words) ps → (x : Logged) → (lane_at m.state M).phase ≡ Some x
        → Running z (committed z M ps (drained z M m)) (updated M (restamped_by z M m (m.state.clock + 2) (ts M)) ts)
    unfolding drained_lane
    running-commits ps low x e =
        each M (committed z M ps (drained z M m)) (restamped_by z M m (m.state.clock + 2) (ts M))
        (shape-committed z (drained z M m) drained-shape M lane ps low x held (commit-low z M (drained z M m) drained-shape drained-mine x held))
        (lane-commits z M lane m (ts M) v.shape mine ps low x e)
        (λ L h d. lane-commits-other z L h (drained z M m) (ts L) drained-shape
        (drained-other L h d) M lane d ps low x held (commit-low z M (drained z M m) drained-shape drained-mine x held))
      where
        held : (lane_at (drained z M m).state M).phase ≡ Some x
        held = rw (lane-drained z M m (le_trans lane v.shape.lanes)).here e

    pub running-releases : Running z (released M (drained z M m)) (updated M (levelled z M m (ts M)) ts)
    running-releases =
        each M (released M (drained z M m)) (levelled z M m (ts M))
        (shape-released z (drained z M m) drained-shape M lane)
        (lane-releases z M lane m (ts M) v.shape mine)
        (λ L h d. lane-releases-other z L h (drained z M m) (ts L) drained-shape (drained-other L h d) M lane d)
