-- One lane's log through the calls of the other lanes, stores to data words and write-backs: its ghosts stay. Assumes nothing.
use Rattle.std.specs.Prelude.{Some}
use mathlib.Core.Path.{◌≡◌}
use mathlib.Core.Logic.{◌≢◌}
use mathlib.Core.List.{List}
use Prim.Native.Nat.{ℕ, ◌+◌, ◌-◌, ◌*◌, ◌≤◌, ◌<◌}
use native.Mathlib.Omega.{arith}
use native.Mathlib.Nat.{le_trans, mod-lt}
use lib.ListN.{length}
use Rattle.laws.specs.inner.Lists.{All, none, more, All-map, All-append}
use Rattle.txn.specs.declared.Write.{Write}
use Rattle.image.specs.Image.{base_of, log_start, log_of}
use Rattle.image.specs.Flush.{written_back}
use Rattle.image.specs.Stores.{Store}
use Rattle.image.specs.declared.Sizes.{Sizes}
use Rattle.lane_log.specs.Append.{append_stores, circular, restamp_store}
use Rattle.lane_log.proofs.SearchLaws.{circular-low}
use Rattle.record.specs.Record.{lane_at, cursor_of, logged_in, with_lane, with_clock, with_last}
use Rattle.record.specs.declared.Pair.{Pair}
use Rattle.record.specs.declared.Logged.{Logged}
use Rattle.record.specs.declared.Record.{Record}
use Rattle.store.specs.Machine.{Machine}
use Rattle.store.specs.Calls.{drained, changed, commit_stores, committed, released}
use Rattle.laws.specs.inner.Members.{here}
use Rattle.crash.proofs.history.Lanes.{lane-drained, lane-committed, lane-released}
use Rattle.crash.proofs.lane.Seqs.{Seq, stands}
use Rattle.crash.proofs.lane.Memory.{mem-written_back, mem-drained-other, mem-stored-other}
use Rattle.crash.proofs.lane.Regions.{Inside, Apart, inside-apart, inside-late, data-apart, stored-base, stored-log}
use Rattle.crash.proofs.lane.Append.{append-inside}
use Rattle.crash.proofs.lane.Written.{Written, written-later}
use Rattle.crash.proofs.lane.Shape.{Shape, with_nvm, pairs-data, commit-past}
use Rattle.crash.proofs.lane.Log.{Track, PhaseOf, holds, LaneLog}

-- where a lane's commit puts the new timestamp: inside its log
module _ (z : Sizes) (M : ℕ) (m : Machine) (s : Shape z m) where
  pub commit-low : {t : Track} → LaneLog z M m t → (x : Logged) → (lane_at m.state M).phase ≡ Some x → circular z.slots (x.first + x.count) < z.slots
  commit-low {t} l x e = circular-low z.slots (x.first + x.count) (go l.now (rw e at l.holding))
    where
      go : {gs : List Seq} → Written z (base_of m.cache) m.state.clock (log_of z M m.cache) t.hist gs → PhaseOf z.slots (Some x) gs
          → x.first + x.count < 2 * z.slots
      go w (holds {g = g} f c q some) =
          omega (
            arith,
            f,
            c,
            (stands z.words z.slots w.history here).ok.few,
            mod-lt (g.end - length g.entries) (let p : 0 < z.slots = omega (arith, s.sizes.slots-low) in p),
            s.sizes.slots-low,
          )

  slot-inside : (j : ℕ) → j < z.slots → Inside z M (log_start z M + 2 * j + 1)
  slot-inside j h = (omega arith, omega arith)

  commit-apart : (L : ℕ) → L ≢ M → (ps : List Pair) → All (λ p. p.word < z.words) ps → (x : Logged) → (lane_at m.state M).phase ≡ Some x
      → circular z.slots (x.first + x.count) < z.slots → All (λ y. Apart z L y.at) (commit_stores z M ps m)
  unfolding commit_stores restamp_store logged_in
  commit-apart L d ps low x e h =
      All-append (All-map (λ y k. data-apart z L y.at k.1) (pairs-data z.words low))
      (more (rw e (inside-apart z L M _ d (slot-inside (circular z.slots (x.first + x.count)) h))) none)

-- ---- lane L, while another lane M works
module _ (z : Sizes) (L : ℕ) (lane : L < z.lanes) (m : Machine) (t : Track) (s : Shape z m) (l : LaneLog z L m t) where
  pub lane-written_back : (i : ℕ) → LaneLog z L (with_nvm m (written_back i m.cache m.nvm)) t
  lane-written_back i =
      record {
        now = l.now;
        before = l.before;
        since = l.since;
        mem = mem-written_back z L lane t.was m.cache m.flags m.nvm s.in-cache s.in-flags s.in-nvm i l.mem;
        cursor = l.cursor;
        floor = l.floor;
        holding = l.holding;
      }

  -- stores of any lane that are apart from this log and past the base; the clock may go on
  pub lane-changed : (M : ℕ) (xs : List Store) (r : Record) → All (λ x. Apart z L x.at) xs → All (λ x. 1 ≤ x.at) xs
      → lane_at r L ≡ lane_at m.state L → m.state.clock ≤ r.clock → LaneLog z L (changed M xs r m) t
  unfolding changed
  lane-changed M xs r off past a up =
      let b = stored-base m.cache past in
      let k = stored-log z L m.cache off in
      record {
        now = rw (b, k) (written-later z (base_of m.cache) m.state.clock r.clock up l.now);
        before = rw b (written-later z (base_of m.cache) m.state.clock r.clock up l.before);
        since = l.since;
        mem = mem-stored-other z L lane t.was m.cache m.flags m.nvm s.in-cache s.in-flags s.in-nvm M xs off l.mem;
        cursor = rw a l.cursor;
        floor = rw a l.floor;
        holding = rw a l.holding;
      }

  module _ (M : ℕ) (other : M < z.lanes) (apart : L ≢ M) where
    there : M < length m.state.lanes
    there = le_trans other s.lanes

    pub lane-drains-other : LaneLog z L (drained z M m) t
    unfolding drained with_lane
    lane-drains-other =
        let a = (lane-drained z M m there).others L apart in
        record {
          now = l.now;
          before = l.before;
          since = l.since;
          mem = mem-drained-other z L lane t.was m.cache m.flags m.nvm s.in-cache s.in-flags s.in-nvm M apart l.mem;
          cursor = rw a l.cursor;
          floor = rw a l.floor;
          holding = rw a l.holding;
        }

    -- a sequence stamped c, with the record r after it
    pub lane-extends-other : (ws : List Write) (c : ℕ) (r : Record) → (lane_at m.state M).next < z.slots
        → lane_at r L ≡ lane_at m.state L → m.state.clock ≤ r.clock
        → LaneLog z L (changed M (append_stores (log_start z M) z.slots c (cursor_of (lane_at m.state M)) ws) r m) t
    unfolding cursor_of
    lane-extends-other ws c r next a up =
        let i = append-inside z M other (omega (arith, s.sizes.slots-low)) c (cursor_of (lane_at m.state M)) ws next in
        lane-changed M (append_stores (log_start z M) z.slots c (cursor_of (lane_at m.state M)) ws) r
        (All-map (λ x h. inside-apart z L M x.at apart h) i)
        (All-map (λ x h. le_trans (let e : 1 ≤ 1 + z.words = omega arith in e) (inside-late z M x.at h)) i) a up

    pub lane-commits-other : (ps : List Pair) → All (λ p. p.word < z.words) ps → (x : Logged) → (lane_at m.state M).phase ≡ Some x
        → circular z.slots (x.first + x.count) < z.slots → LaneLog z L (committed z M ps m) t
    unfolding committed changed with_lane with_clock with_last
    lane-commits-other ps low x e h =
        lane-changed M (commit_stores z M ps m) _ (commit-apart z M m s L apart ps low x e h) (commit-past z m s M other ps low)
        ((lane-committed z M m there ps).others L apart) (omega arith)

    pub lane-releases-other : LaneLog z L (released M m) t
    unfolding released with_lane
    lane-releases-other =
        let a = (lane-released z M m there).others L apart in
        record {
          now = l.now;
          before = l.before;
          since = l.since;
          mem = l.mem;
          cursor = rw a l.cursor;
          floor = rw a l.floor;
          holding = rw a l.holding;
        }
