-- The book's part is kept by every move, given what the logs say: cached words, clocks, floors, ranges, held transactions. Assumes nothing.
use Rattle.std.specs.Prelude.{Option, Some, None}
use mathlib.Core.Path.{◌≡◌, refl, ap, ◌∙◌, sym, subst}
use mathlib.Core.Logic.{◌≢◌}
use mathlib.Core.Bool.{true, false}
use mathlib.Core.List.{List, [], ◌∷◌, append-nil}
use Prim.Native.Nat.{ℕ, ◌+◌, ◌%◌, ◌≤◌, ◌<◌}
use native.Mathlib.Omega.{arith}
use native.Mathlib.Nat.{le_trans, le_refl}
use lib.Dec.{ltb}
use lib.ListN.{length, take}
use borrow.Author.Tests.{ltb-false}
use Rattle.laws.specs.inner.Tests.{or_left, or_right}
use Rattle.laws.specs.inner.Lists.{All, none as nil, more, All-map}
use Rattle.txn.specs.Txn.{max_writes, former, txn_by, run, after}
use Rattle.txn.specs.inner.TxnLaws.{few-writes, run-low, length-applied}
use Rattle.txn.specs.declared.Write.{Write}
use Rattle.image.specs.Image.{data_of}
use Rattle.image.specs.inner.ImageLaws.{buffers-in, length-data}
use Rattle.image.specs.inner.FlushLaws.{length-flush_all, length-drained_nvm, length-drained_flags}
use Rattle.image.specs.inner.StoresLaws.{length-stored}
use Rattle.image.specs.declared.Sizes.{Sizes}
use Rattle.lane_log.specs.Log.{latest_in}
use Rattle.lane_log.specs.Append.{advance}
use Rattle.lane_log.specs.inner.AppendLaws.{advance-within}
use Rattle.record.specs.Record.{lane_at, cursor_of, is_logged, logged_in, lock_length, is_held, stamp_ok, floor_ok, phase_ok, lock_ok, floor_after_append, Phase}
use Rattle.record.specs.Record.{with_lane, with_clock, with_last, drained_lane, appended_lane, idle_lane, pairs_of}
use Rattle.record.specs.inner.RecordLaws.{pairs-cut, LaneIn}
use Rattle.record.specs.declared.Logged.{Logged}
use Rattle.record.specs.declared.Pair.{Pair}
use Rattle.record.specs.declared.Lane.{Lane}
use Rattle.record.specs.declared.Locked.{Locked}
use Rattle.store.specs.Machine.{Machine}
use Rattle.store.specs.Calls.{drained, changed, writes_on, appended, marked, logged, committed, is_stale, redo_pairs}
use Rattle.store.specs.Calls as calls
use Rattle.crash.specs.History.{Newest, unset, closing_at, mark_at, newest_stamp, Commit, Page, History, page_at}
use Rattle.crash.specs.History.{Holder, is_below, replay, is_some, words_below, present, written, visible}
use Rattle.crash.specs.History.{floor_or, floor_on_drain, after_drain, stamped, released, held_by, is_above, commit_above, writes_logged}
use Rattle.crash.specs.Theorem.{lock_state, holder_state}
use Rattle.crash.proofs.recovery.Data.{length-replay, replay_snoc, replay-all}
use Rattle.crash.proofs.induction.Moves.{Known, Ready, is_free}
use Rattle.crash.proofs.history.Lanes.{LaneTo, lane-drained, lane-appended, lane-committed, lane-released}
use Rattle.crash.proofs.history.Lanes.{PageTo, page-drained, page-stamped, page-released, appended-floor, lane-cases}
use Rattle.crash.proofs.lane.Newest.{drained-floor}
use Rattle.crash.proofs.history.Ranges.{RecordRange, record-range, record-ranged, stamp-later, stamp-now, lane-later, phase-logged}
use Rattle.crash.proofs.history.Ranges.{free-ok, lock-stays}
use Rattle.crash.proofs.history.Words.{data-appended, data-committed}
use Rattle.crash.proofs.history.Agree.{last_of, Holding, Locking, Book, Logs, no-holder, not-locked, visible-free, locking-kept}
use Rattle.crash.proofs.history.Onward.{Onward, Earlier, earlier-clock, onward-drained, onward-released, onward-stamped, onward-commit}
use Rattle.crash.proofs.history.Onward.{last-append, rising-onward, above-onward, upto-onward, holding-onward, writes-held}
use Rattle.crash.proofs.history.Answers.{same-stale, holds-it}

-- ---- one lane and its page move, the clock and the commits go on
pub record Moved (z : Sizes) (base : ℕ) (L : ℕ) (h k : History) (m n : Machine) : Type 0 where
  pub lane : Lane
  pub page : Page
  pub lanes : LaneTo m.state n.state L lane
  pub pages : PageTo h k L page
  -- the base, the commits and the other lanes' newest timestamps are not above what was given
  pub given : ℕ
  pub onward : Onward given h k
  pub low : base ≤ given
  pub earlier : Earlier z L h given
  pub in-cache : length n.cache ≡ length m.cache
  pub in-nvm : length n.nvm ≡ length m.nvm
  pub in-flags : length n.flags ≡ length m.flags
  pub in_pairs : length n.pairs ≡ lock_length
  pub words : data_of z n.cache ≡ visible z k
  pub clock : n.state.clock ≡ k.clock
  pub lag : n.state.lag ≡ m.state.lag
  pub even : k.clock % 2 ≡ 0
  pub last : n.state.last ≡ last_of base k.commits
  pub last_ok : stamp_ok k.clock n.state.last ≡ true
  pub range : LaneIn z k.clock lane
  pub floor : lane.floor ≡ page.floor
  pub held : is_logged lane.phase ≡ is_some page.held
  pub newest : (s : ℕ) → newest_stamp page.newest ≡ Some s → stamp_ok k.clock s ≡ true
  pub holding : (g : Logged) → lane.phase ≡ Some g → Holding z base k n L g
  pub lock : lock_state n.state.lock ≡ holder_state k.lock
  pub lock-ok : lock_ok z n.state n.pairs n.state.lock ≡ true
  pub locking : (x : Locked) → n.state.lock ≡ Some x → Locking z base k n x

newest-closing : (n : Newest) (s : ℕ) → n ≡ closing_at s → newest_stamp n ≡ Some s
unfolding newest_stamp
newest-closing n s e = ap newest_stamp e

module _ (z : Sizes) (base : ℕ) (L : ℕ) (lane : L < z.lanes) (h k : History) (m n : Machine) (b : Book z base h m) (v : Moved z base L h k m n) where
  old-ranges : RecordRange z m.state m.pairs
  old-ranges = record-range z m.state m.pairs b.lanes b.fields

  later : m.state.clock ≤ n.state.clock
  later = rw (b.live.clock, v.clock) v.onward.clock

  ranges : RecordRange z n.state n.pairs
  ranges =
      record {
        even = rw v.clock v.even;
        last = rw v.clock v.last_ok;
        lag = rw v.lag old-ranges.lag;
        lanes = lane-cases (λ M. M < z.lanes → LaneIn z n.state.clock (lane_at n.state M)) L
            (λ i. rw (v.lanes.here, v.clock) v.range)
            (λ M d i. rw (v.lanes.others M d) (lane-later z m.state.clock n.state.clock (lane_at m.state M) later (old-ranges.lanes M i)));
        lock = v.lock-ok;
      }

  pub book-moved : Book z base k n
  book-moved =
      record {
        buffers = rw (v.in-cache, v.in-nvm, v.in-flags) b.buffers;
        in_pairs = v.in_pairs;
        fields = record-ranged z n.state n.pairs (rw v.lanes.lanes b.lanes) ranges;
        lanes = rw v.lanes.lanes b.lanes;
        pages = v.pages.pages ∙ b.pages;
        live = record {
          words = v.words;
          clock = v.clock;
          lag = v.lag ∙ b.live.lag ∙ sym v.onward.lag;
          floors = lane-cases (λ M. M < z.lanes → (lane_at n.state M).floor ≡ (page_at k M).floor) L
              (λ i. rw (v.lanes.here, v.pages.here) v.floor)
              (λ M d i. rw (v.lanes.others M d, v.pages.others M d) (b.live.floors M i));
          held = lane-cases (λ M. M < z.lanes → is_logged (lane_at n.state M).phase ≡ is_some (page_at k M).held) L
              (λ i. rw (v.lanes.here, v.pages.here) v.held)
              (λ M d i. rw (v.lanes.others M d, v.pages.others M d) (b.live.held M i));
          lock = v.lock;
        };
        rising = rising-onward z h k v.onward b.rising v.earlier.commits;
        above = above-onward z h k v.onward base v.low b.above;
        upto = upto-onward z h k v.onward b.upto;
        low = le_trans b.low v.onward.clock;
        last = v.last;
        stamps = λ M s i e. lane-cases (λ M. (s : ℕ) → M < z.lanes → newest_stamp (page_at k M).newest ≡ Some s → stamp_ok k.clock s ≡ true) L
            (λ s i e. v.newest s (ap (λ (p : Page). newest_stamp p.newest) (sym v.pages.here) ∙ e))
            (λ M d s i e. stamp-later h.clock k.clock s v.onward.clock
            (b.stamps M s i (ap (λ (p : Page). newest_stamp p.newest) (sym (v.pages.others M d)) ∙ e)))
            M s i e;
        holding = λ M g i e. lane-cases (λ M. (g : Logged) → M < z.lanes → (lane_at n.state M).phase ≡ Some g → Holding z base k n M g) L
            (λ g i e. v.holding g (ap (λ (l : Lane). l.phase) (sym v.lanes.here) ∙ e))
            (λ M d g i e.
            let o = v.lanes.others M d in
            let p = v.pages.others M d in
            let x = b.holding M g i (ap (λ (l : Lane). l.phase) (sym o) ∙ e) in
            holding-onward z h k v.onward base m n M g x (v.earlier.others M g.stamp i d (newest-closing _ g.stamp x.newest))
            (ap (λ (p : Page). p.held) p) (ap (λ (p : Page). p.newest) p) (ap (λ (l : Lane). l.redo) o))
            M g i e;
        locking = v.locking;
      }

-- ---- a drain
drain-ok : (c : ℕ) (n : Newest) (f : Option ℕ) → ((s : ℕ) → newest_stamp n ≡ Some s → stamp_ok c s ≡ true) → floor_ok c f ≡ true
    → floor_ok c (floor_on_drain n f) ≡ true
unfolding floor_on_drain floor_ok newest_stamp
drain-ok c unset f h e = e
drain-ok c (closing_at s) f h e = h s refl
drain-ok c (mark_at s) f h e = refl

newest-stamp : (c s : ℕ) (t : Option ℕ) → c % 2 ≡ 0 → t ≡ Some c → t ≡ Some s → stamp_ok c s ≡ true
newest-stamp c s t e p q = let d : c ≡ s = cc in rw (sym d) (stamp-now c e)

pub not-held : {A : Type 0} (p : Phase) (g : Logged) → p ≡ None → p ≡ Some g → A
not-held p g i e = absurd (let z : ◌≡◌ {A = ℕ} 0 1 = cc in omega arith)

floor-after : (c : ℕ) (f : Option ℕ) → c % 2 ≡ 0 → floor_ok c f ≡ true → floor_ok (c + 2) (floor_after_append (c + 2) f) ≡ true
unfolding floor_after_append floor_ok
floor-after c None e k = stamp-now (c + 2) (omega arith)
floor-after c (Some s) e k = stamp-later c (c + 2) s (omega arith) k

module _ (z : Sizes) (base : ℕ) (L : ℕ) (lane : L < z.lanes) (h : History) (m : Machine) (b : Book z base h m) where
  pub in-lanes : L < length m.state.lanes
  in-lanes = le_trans lane b.lanes

  pub in-pages : L < length h.pages
  in-pages = rw b.pages lane

  pub range-now : LaneIn z h.clock (lane_at m.state L)
  range-now = subst (λ (c : ℕ). LaneIn z c (lane_at m.state L)) b.live.clock ((record-range z m.state m.pairs b.lanes b.fields).lanes L lane)

  pub even-now : h.clock % 2 ≡ 0
  even-now = rw b.live.clock at (record-range z m.state m.pairs b.lanes b.fields).even

  pub last-now : stamp_ok h.clock m.state.last ≡ true
  last-now = rw b.live.clock at (record-range z m.state m.pairs b.lanes b.fields).last

  module _ (l : Logs z h m) where
    floor-now : floor_ok h.clock (drained_lane (latest_in z m.cache L) (lane_at m.state L)).floor ≡ true
    unfolding drained_lane
    floor-now =
        rw (drained-floor (latest_in z m.cache L) (lane_at m.state L).floor, l.newest L lane)
        (drain-ok h.clock (page_at h L).newest (lane_at m.state L).floor (λ s e. b.stamps L s lane e) range-now.floor)

    newest-drained : (M : ℕ) → (page_at (after_drain L h) M).newest ≡ (page_at h M).newest
    newest-drained =
        let p = page-drained L h in-pages in
        lane-cases (λ M. (page_at (after_drain L h) M).newest ≡ (page_at h M).newest) L (ap (λ (p : Page). p.newest) p.here)
        (λ M d. ap (λ (p : Page). p.newest) (p.others M d))

    pub phase-drained : (M : ℕ) → is_logged (lane_at (drained z L m).state M).phase ≡ is_logged (lane_at m.state M).phase
    unfolding drained_lane
    phase-drained =
        let a = lane-drained z L m in-lanes in
        lane-cases (λ M. is_logged (lane_at (drained z L m).state M).phase ≡ is_logged (lane_at m.state M).phase) L
        (ap (λ (l : Lane). is_logged l.phase) a.here) (λ M d. ap (λ (l : Lane). is_logged l.phase) (a.others M d))

    lock-drained : lock_ok z (drained z L m).state m.pairs m.state.lock ≡ true
    unfolding drained with_lane
    lock-drained =
        lock-stays z m.state (drained z L m).state m.pairs m.state.lock refl phase-drained
        (record-range z m.state m.pairs b.lanes b.fields).lock

    moved-drained : Moved z base L h (after_drain L h) m (drained z L m)
    unfolding after_drain drained drained_lane present words_below visible written with_lane
    moved-drained =
        record {
          lane = drained_lane (latest_in z m.cache L) (lane_at m.state L);
          page = record { held = (page_at h L).held; newest = (page_at h L).newest; floor = floor_on_drain (page_at h L).newest (page_at h L).floor };
          lanes = lane-drained z L m in-lanes;
          pages = page-drained L h in-pages;
          given = h.clock;
          onward = onward-drained L h;
          low = b.low;
          earlier = earlier-clock z base h m b L;
          in-cache = refl;
          in-nvm = length-drained_nvm L m.flags m.cache m.nvm;
          in-flags = length-drained_flags L m.flags;
          in_pairs = b.in_pairs;
          words = b.live.words;
          clock = b.live.clock;
          lag = refl;
          even = even-now;
          last = b.last;
          last_ok = last-now;
          range = record { next = range-now.next; wrap = range-now.wrap; floor = floor-now; phase = range-now.phase };
          floor = drained-floor (latest_in z m.cache L) (lane_at m.state L).floor ∙ rw (l.newest L lane, b.live.floors L lane);
          held = b.live.held L lane;
          newest = λ s e. b.stamps L s lane e;
          holding = λ g e.
              let p = page-drained L h in-pages in
              let a = lane-drained z L m in-lanes in
              holding-onward z h (after_drain L h) (onward-drained L h) base m (drained z L m) L g (b.holding L g lane e) (b.holding L g lane e).upto
              (ap (λ (p : Page). p.held) p.here) (ap (λ (p : Page). p.newest) p.here) (ap (λ (l : Lane). l.redo) a.here);
          lock = b.live.lock;
          lock-ok = lock-drained;
          locking = λ x e. locking-kept z base h (after_drain L h) m (drained z L m) refl refl refl refl newest-drained refl x (b.locking x e);
        }

    pub book-drained : Book z base (after_drain L h) (drained z L m)
    book-drained = book-moved z base L lane h (after_drain L h) m (drained z L m) b moved-drained

  -- ---- what follows needs the lock to be free
  module _ (free : is_held m.state.lock ≡ false) where
    pub no-lock : h.lock ≡ None
    no-lock = no-holder m.state.lock h.lock b.live.lock free

    pub words-free : data_of z m.cache ≡ present z h
    words-free = b.live.words ∙ visible-free z h no-lock

    -- ---- an append: the lane then has this phase and redo log, its page holds this
    appended-range : (s : ℕ) (ws : List Write) (phase : Phase) (redo : List Pair) → s ≡ h.clock → phase_ok z (h.clock + 2) redo phase ≡ true
        → LaneIn z (h.clock + 2) (appended_lane (s + 2) (advance z.slots (length ws + 1) (cursor_of (lane_at m.state L))) phase redo (lane_at m.state L))
    unfolding appended_lane cursor_of
    appended-range s ws phase redo e p =
        let c = advance-within z.slots (length ws + 1) (cursor_of (lane_at m.state L)) (record { slot = range-now.next; wrap = range-now.wrap }) in
        record {
          next = c.slot;
          wrap = c.wrap;
          floor = rw e (floor-after h.clock (lane_at m.state L).floor even-now range-now.floor);
          phase = p;
        }

    -- a timestamp without a commit leaves the words
    present-stamped : (kind : ℕ → Newest) (held : Option (List ℕ)) → present z (stamped L kind held [] h) ≡ present z h
    unfolding present words_below stamped
    present-stamped kind held = ap (λ (cs : List Commit). replay z.words None cs h.start) (append-nil h.commits)

    moved-appended : (ws : List Write) (phase : Phase) (redo : List Pair) (kind : ℕ → Newest) (held : Option (List ℕ))
        → ((s : ℕ) → newest_stamp (kind s) ≡ Some s) → phase_ok z (h.clock + 2) redo phase ≡ true → is_logged phase ≡ is_some held
        → ((g : Logged) → phase ≡ Some g → Holding z base (stamped L kind held [] h) (appended z L ws phase redo m) L g)
        → Moved z base L h (stamped L kind held [] h) m (appended z L ws phase redo m)
    unfolding stamped appended changed appended_lane with_lane with_clock
    moved-appended ws phase redo kind held stamps ranged both holds =
        record {
          lane = appended_lane (m.state.clock + 2) (advance z.slots (length ws + 1) (cursor_of (lane_at m.state L))) phase redo (lane_at m.state L);
          page = record { held = held; newest = kind (h.clock + 2); floor = floor_or (page_at h L).floor (Some (h.clock + 2)) };
          lanes = lane-appended z L m in-lanes ws phase redo;
          pages = page-stamped L h in-pages kind held [];
          given = h.clock;
          onward = onward-stamped L kind held h;
          low = b.low;
          earlier = earlier-clock z base h m b L;
          in-cache = length-stored _ m.cache;
          in-nvm = refl;
          in-flags = length-flush_all L _ m.flags;
          in_pairs = b.in_pairs;
          words = data-appended z L ws phase redo m ∙ words-free ∙ sym (present-stamped kind held) ∙ sym (visible-free z (stamped L kind held [] h) no-lock);
          clock = ap (λ (c : ℕ). c + 2) b.live.clock;
          lag = refl;
          even = let k = even-now in omega arith;
          last = b.last ∙ ap (last_of base) (sym (append-nil h.commits));
          last_ok = stamp-later h.clock (h.clock + 2) m.state.last (omega arith) last-now;
          range = appended-range m.state.clock ws phase redo b.live.clock ranged;
          floor = appended-floor (m.state.clock + 2) (lane_at m.state L).floor ∙ rw (b.live.floors L lane, b.live.clock);
          held = both;
          newest = λ s e. newest-stamp (h.clock + 2) s _ (let k = even-now in omega arith) (stamps (h.clock + 2)) e;
          holding = holds;
          lock = b.live.lock;
          lock-ok = free-ok z _ m.pairs m.state.lock (is_free m.state.lock free);
          locking = λ x e. not-locked m.state.lock x free e;
        }

    -- the commits are below the timestamp that is next
    stamped-upto : (kind : ℕ → Newest) (held : Option (List ℕ)) → All (λ c. c.stamp ≤ h.clock) (stamped L kind held [] h).commits
    unfolding stamped
    stamped-upto kind held = rw (append-nil h.commits) b.upto

    below_next : (kind : ℕ → Newest) (held : Option (List ℕ))
        → words_below z (Some (h.clock + 2)) (stamped L kind held [] h) ≡ present z (stamped L kind held [] h)
    unfolding words_below present
    below_next kind held =
        replay-all z.words (h.clock + 2) (stamped L kind held [] h).start (All-map (λ c i. omega (arith, i)) (stamped-upto kind held))

    pub book-appended : (ws : List Write) (phase : Phase) (redo : List Pair) (kind : ℕ → Newest) (held : Option (List ℕ))
        → ((s : ℕ) → newest_stamp (kind s) ≡ Some s) → phase_ok z (h.clock + 2) redo phase ≡ true → is_logged phase ≡ is_some held
        → ((g : Logged) → phase ≡ Some g → Holding z base (stamped L kind held [] h) (appended z L ws phase redo m) L g)
        → Book z base (stamped L kind held [] h) (appended z L ws phase redo m)
    book-appended ws phase redo kind held stamps ranged both holds =
        book-moved z base L lane h (stamped L kind held [] h) m (appended z L ws phase redo m) b
        (moved-appended ws phase redo kind held stamps ranged both holds)

    -- ---- Log
    module _ (f : List ℕ) (ok : txn_by former max_writes z.words f ≡ true) (some-write : 0 < length (writes_on z f m)) where
      abbrev held-now : Logged
      held-now = record { first = (lane_at m.state L).next; count = length (writes_on z f m); stamp = m.state.clock + 2 }

      writes-low : All (λ w. w.word < z.words) (writes_on z f m)
      unfolding writes_on
      writes-low = run-low former max_writes z.words f (data_of z m.cache) ok

      writes-few : length (writes_on z f m) ≤ max_writes
      unfolding writes_on
      writes-few = few-writes former max_writes z.words f (data_of z m.cache) ok

      logged-ranged : phase_ok z (h.clock + 2) (pairs_of max_writes (writes_on z f m)) (Some held-now) ≡ true
      logged-ranged =
          subst (λ (s : ℕ). phase_ok z (h.clock + 2) (pairs_of max_writes (writes_on z f m))
          (Some (record { first = (lane_at m.state L).next; count = length (writes_on z f m); stamp = s + 2 })) ≡ true)
          (sym b.live.clock)
          (phase-logged z (h.clock + 2) (lane_at m.state L).next (writes_on z f m) (buffers-in z _ _ _ b.buffers).sizes.words-low range-now.next
          some-write writes-few (let k = even-now in omega arith) writes-low (pairs-cut (length (writes_on z f m)) max_writes (writes_on z f m) writes-few))

      -- what is logged now is what the history's lane has logged
      logged-writes : writes_logged z L (stamped L closing_at (Some f) [] h) ≡ writes_on z f m
      unfolding writes_on
      logged-writes =
          let p = page-stamped L h in-pages closing_at (Some f) [] in
          writes-held z (stamped L closing_at (Some f) [] h) L f (h.clock + 2) (ap (λ (p : Page). p.held) p.here) (ap (λ (p : Page). p.newest) p.here)
          ∙ ap (run z.words f) (below_next closing_at (Some f) ∙ present-stamped closing_at (Some f) ∙ sym words-free)

      clock-stamped : m.state.clock ≡ h.clock → m.state.clock + 2 ≤ (stamped L closing_at (Some f) [] h).clock
      unfolding stamped
      clock-stamped c = omega arith

      logged-holding : Holding z base (stamped L closing_at (Some f) [] h) (logged z L (writes_on z f m) m) L held-now
      unfolding logged appended_lane
      logged-holding =
          let k = stamped L closing_at (Some f) [] h in
          let p = page-stamped L h in-pages closing_at (Some f) [] in
          let a = lane-appended z L m in-lanes (writes_on z f m) (Some held-now) (pairs_of max_writes (writes_on z f m)) in
          let c = b.live.clock in
          record {
            txn = f;
            held = ap (λ (p : Page). p.held) p.here;
            ok = ok;
            newest = ap (λ (p : Page). p.newest) p.here ∙ ap (λ (s : ℕ). closing_at (s + 2)) (sym c);
            above = omega (arith, b.low, c);
            upto = clock-stamped c;
            apart = All-map (λ d i e. omega (arith, c, i)) (stamped-upto closing_at (Some f));
            count = ap length (sym logged-writes);
            redo = ap (λ (l : Lane). take (length (writes_on z f m)) l.redo) a.here
                ∙ pairs-cut (length (writes_on z f m)) max_writes (writes_on z f m) writes-few ∙ ap (pairs_of (length (writes_on z f m))) (sym logged-writes);
          }

      pub book-logged : Book z base (stamped L closing_at (Some f) [] h) (logged z L (writes_on z f m) m)
      unfolding logged is_logged is_some newest_stamp
      book-logged =
          book-appended (writes_on z f m) (Some held-now) (pairs_of max_writes (writes_on z f m)) closing_at (Some f) (λ s. refl) logged-ranged refl
          (λ g e. let q : held-now ≡ g = cc in subst (Holding z base (stamped L closing_at (Some f) [] h) (logged z L (writes_on z f m) m) L) q logged-holding)

    -- ---- Mark
    pub book-marked : (redo : List Pair) → Book z base (stamped L mark_at None [] h) (appended z L [] None redo m)
    unfolding phase_ok is_logged is_some newest_stamp
    book-marked redo = book-appended [] None redo mark_at None (λ s. refl) refl refl (λ g e. not-held None g refl e)

    -- ---- a lane that is idle again
    idle-range : (c : ℕ) → h.clock ≤ c → LaneIn z c (idle_lane (lane_at m.state L))
    unfolding idle_lane phase_ok
    idle-range c i =
        let r = lane-later z h.clock c (lane_at m.state L) i range-now in
        record { next = r.next; wrap = r.wrap; floor = r.floor; phase = refl }

    moved-released : Moved z base L h (released L h) m (calls.released L m)
    unfolding released calls.released present words_below visible written with_lane idle_lane is_logged is_some
    moved-released =
        record {
          lane = idle_lane (lane_at m.state L);
          page = record { held = None; newest = (page_at h L).newest; floor = (page_at h L).floor };
          lanes = lane-released z L m in-lanes;
          pages = page-released L h in-pages;
          given = h.clock;
          onward = onward-released L h;
          low = b.low;
          earlier = earlier-clock z base h m b L;
          in-cache = refl;
          in-nvm = refl;
          in-flags = refl;
          in_pairs = b.in_pairs;
          words = b.live.words;
          clock = b.live.clock;
          lag = refl;
          even = even-now;
          last = b.last;
          last_ok = last-now;
          range = idle-range h.clock (le_refl h.clock);
          floor = b.live.floors L lane;
          held = refl;
          newest = λ s e. b.stamps L s lane e;
          holding = λ g e. not-held None g refl e;
          lock = b.live.lock;
          lock-ok = free-ok z _ m.pairs m.state.lock (is_free m.state.lock free);
          locking = λ x e. not-locked m.state.lock x free e;
        }

    pub book-released : Book z base (released L h) (calls.released L m)
    book-released = book-moved z base L lane h (released L h) m (calls.released L m) b moved-released

    -- ---- a commit of transaction f, whose lane has a floor
    module _ (f : List ℕ) (ok : txn_by former max_writes z.words f ≡ true) (s : ℕ) (floor : (page_at h L).floor ≡ Some s) where
      abbrev its : List Write
      its = run z.words f (data_of z m.cache)

      present-commit : present z (stamped L closing_at None (f ∷ []) h) ≡ after z.words f (present z h)
      unfolding present words_below stamped is_below
      present-commit = replay_snoc z.words None h.commits (record { stamp = h.clock + 2; txn = f }) h.start

      commit-free : (stamped L closing_at None (f ∷ []) h).lock ≡ None
      unfolding stamped
      commit-free = no-lock

      words-commit : data_of z (committed z L (pairs_of (length its) its) m).cache ≡ visible z (stamped L closing_at None (f ∷ []) h)
      unfolding after
      words-commit =
          data-committed z L its m (run-low former max_writes z.words f (data_of z m.cache) ok)
          ∙ ap (after z.words f) words-free ∙ sym present-commit ∙ sym (visible-free z (stamped L closing_at None (f ∷ []) h) commit-free)

      floor-stays : (t : Option ℕ) → t ≡ Some s → t ≡ floor_or t (Some (h.clock + 2))
      unfolding floor_or
      floor-stays t e = rw e

      moved-committed : Moved z base L h (stamped L closing_at None (f ∷ []) h) m (committed z L (pairs_of (length its) its) m)
      unfolding stamped committed changed with_lane with_clock with_last idle_lane is_logged is_some newest_stamp
      moved-committed =
          record {
            lane = idle_lane (lane_at m.state L);
            page = record { held = None; newest = closing_at (h.clock + 2); floor = floor_or (page_at h L).floor (Some (h.clock + 2)) };
            lanes = lane-committed z L m in-lanes (pairs_of (length its) its);
            pages = page-stamped L h in-pages closing_at None (f ∷ []);
            given = h.clock;
            onward = onward-commit L f h;
            low = b.low;
            earlier = earlier-clock z base h m b L;
            in-cache = length-stored _ m.cache;
            in-nvm = refl;
            in-flags = length-flush_all L _ m.flags;
            in_pairs = b.in_pairs;
            words = words-commit;
            clock = ap (λ (c : ℕ). c + 2) b.live.clock;
            lag = refl;
            even = let k = even-now in omega arith;
            last = ap (λ (c : ℕ). c + 2) b.live.clock ∙ sym (last-append base h.commits (record { stamp = h.clock + 2; txn = f }));
            last_ok = rw b.live.clock (stamp-now (h.clock + 2) (let k = even-now in omega arith));
            range = idle-range (h.clock + 2) (omega arith);
            floor = b.live.floors L lane ∙ floor-stays (page_at h L).floor floor;
            held = refl;
            newest = λ t e. newest-stamp (h.clock + 2) t _ (let k = even-now in omega arith) refl e;
            holding = λ g e. not-held None g refl e;
            lock = b.live.lock;
            lock-ok = free-ok z _ m.pairs m.state.lock (is_free m.state.lock free);
            locking = λ x e. not-locked m.state.lock x free e;
          }

      pub book-committed : Book z base (stamped L closing_at None (f ∷ []) h) (committed z L (pairs_of (length its) its) m)
      book-committed = book-moved z base L lane h (stamped L closing_at None (f ∷ []) h) m (committed z L (pairs_of (length its) its) m) b moved-committed

-- ---- the start words
length-written : (z : Sizes) (y : Option Holder) (ws : List ℕ) → length (written z y ws) ≡ length ws
unfolding written
length-written z None ws = refl
length-written z (Some k) ws = length-applied _ ws

pub start-long : (z : Sizes) (base : ℕ) (h : History) (m : Machine) → Book z base h m → length h.start ≡ z.words
unfolding present words_below visible
start-long z base h m b =
    sym (length-replay z.words None h.commits h.start) ∙ sym (length-written z h.lock _) ∙ ap length (sym b.live.words)
    ∙ length-data z m.cache (buffers-in z _ _ _ b.buffers).fits

-- ---- every move: a drain, and then what the call does
-- no commit above a timestamp that is no commit's: all are below it
all-below : (s : ℕ) {cs : List Commit} → commit_above (Some s) cs ≡ false → All (λ c. c.stamp ≢ s) cs → All (λ c. c.stamp < s) cs
unfolding commit_above is_above
all-below s e nil = nil
all-below s e (more {x = c} d ds) =
    more {x = c} (let k = ltb-false s c.stamp (or_left (ltb s c.stamp) _ e) in omega arith) (all-below s (or_right (ltb s c.stamp) _ e) ds)

module _ (z : Sizes) (base : ℕ) (h : History) (m : Machine) (b : Book z base h m) (l : Logs z h m) where
  module _ (L : ℕ) (k : Known z m L) where
    pub book-drains : Book z base (after_drain L h) (drained z L m)
    book-drains = book-drained z base L k.lane h m b l

    pub book-logs : is_held m.state.lock ≡ false → (f : List ℕ) → txn_by former max_writes z.words f ≡ true → 0 < length (writes_on z f m)
        → Book z base (stamped L closing_at (Some f) [] (after_drain L h)) (logged z L (writes_on z f m) (drained z L m))
    unfolding drained writes_on with_lane
    book-logs free f ok some-write = book-logged z base L k.lane (after_drain L h) (drained z L m) book-drains free f ok some-write

    pub book-marks : is_held m.state.lock ≡ false → Book z base (stamped L mark_at None [] (after_drain L h)) (marked z L m)
    unfolding drained with_lane
    book-marks free = book-marked z base L k.lane (after_drain L h) (drained z L m) book-drains free (lane_at m.state L).redo

    pub book-gives-up : is_held m.state.lock ≡ false → Book z base (released L (after_drain L h)) (calls.released L (drained z L m))
    unfolding drained with_lane
    book-gives-up free = book-released z base L k.lane (after_drain L h) (drained z L m) book-drains free

    -- a lane that holds a transaction has a floor after its drain
    module _ (y : Ready m L) where
      abbrev it : Logged
      it = logged_in (lane_at m.state L).phase

      pub floor-drained : (page_at (after_drain L h) L).floor ≡ Some it.stamp
      unfolding floor_on_drain
      floor-drained =
          let v = holds-it z base h m b l L k.lane y.held in
          ap (λ (p : Page). p.floor) (page-drained L h (rw b.pages k.lane)).here ∙ rw v.newest

      pub book-validates : (f : List ℕ) → txn_by former max_writes z.words f ≡ true
          → Book z base (stamped L closing_at None (f ∷ []) (after_drain L h))
          (committed z L (pairs_of (length (writes_on z f m)) (writes_on z f m)) (drained z L m))
      unfolding drained writes_on with_lane
      book-validates f ok = book-committed z base L k.lane (after_drain L h) (drained z L m) book-drains y.free f ok it.stamp floor-drained

      -- a Redo that is not stale writes what its transaction writes now
      pub redo-now : is_stale L m ≡ false → writes_logged z L h ≡ writes_on z (holds-it z base h m b l L k.lane y.held).txn m
      unfolding writes_on present words_below newest_stamp
      redo-now t =
          let v = holds-it z base h m b l L k.lane y.held in
          let e = sym (same-stale z base h m b l L k.lane y.held) ∙ t in
          writes-held z h L v.txn it.stamp v.held v.newest
          ∙ ap (run z.words v.txn)
          (replay-all z.words it.stamp h.start
          (all-below it.stamp (ap (λ (n : Newest). commit_above (newest_stamp n) h.commits) (sym v.newest) ∙ e) v.apart)
          ∙ sym (words-free z base L k.lane h m b y.free))

      pub redo-held : held_by (page_at h L).held ≡ (holds-it z base h m b l L k.lane y.held).txn ∷ []
      unfolding held_by
      redo-held = rw (holds-it z base h m b l L k.lane y.held).held

      pub redo-pairs : is_stale L m ≡ false
          → redo_pairs L m ≡ pairs_of (length (writes_on z (holds-it z base h m b l L k.lane y.held).txn m))
          (writes_on z (holds-it z base h m b l L k.lane y.held).txn m)
      unfolding redo_pairs
      redo-pairs t =
          let v = holds-it z base h m b l L k.lane y.held in
          v.redo ∙ ap (λ (n : ℕ). pairs_of n (writes_logged z L h)) v.count ∙ ap (λ (ws : List Write). pairs_of (length ws) ws) (redo-now t)

      pub book-redoes : is_stale L m ≡ false
          → Book z base (stamped L closing_at None (held_by (page_at h L).held) (after_drain L h)) (committed z L (redo_pairs L m) (drained z L m))
      book-redoes t =
          let v = holds-it z base h m b l L k.lane y.held in
          rw (redo-pairs t, redo-held) (book-validates v.txn v.ok)
