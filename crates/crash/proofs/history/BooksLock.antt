-- The book's part is kept by the three moves of the lock: it is taken, a part is logged, a part is written, the last one too. Assumes nothing.
use Rattle.std.specs.Prelude.{Option, Some, None}
use mathlib.Core.Path.{◌≡◌, refl, ap, ◌∙◌, sym, subst}
use mathlib.Core.Logic.{inl, inr}
use mathlib.Core.Bool.{Bool, true, false}
use mathlib.Core.List.{List, [], ◌∷◌, ◌++◌}
use Prim.Native.Nat.{ℕ, ◌+◌, ◌-◌, ◌*◌, ◌%◌, ◌≤◌, ◌<◌}
use native.Mathlib.Omega.{arith}
use native.Mathlib.Nat.{le_refl}
use lib.Dec.{eqb}
use lib.ListN.{length, take, length-set}
use lib.Seq.{take_all, get_or-set_same, get_or-set_other}
use borrow.Author.Tests.{eqb-true, eqb-false, eq-eqb, ne_eqb, lt-ltb, le-ltb}
use Rattle.laws.specs.inner.Tests.{split}
use Rattle.laws.specs.inner.Lists.{All, All-map}
use Rattle.txn.specs.Txn.{max_writes, max_long, current, txn_by, run, applied, after}
use Rattle.txn.specs.inner.TxnLaws.{few-writes, run-low}
use Rattle.txn.specs.declared.Write.{Write}
use Rattle.image.specs.Image.{data_of}
use Rattle.image.specs.inner.ImageLaws.{buffers-in}
use Rattle.image.specs.inner.FlushLaws.{length-flush_all}
use Rattle.image.specs.inner.StoresLaws.{length-stored}
use Rattle.image.specs.Stores.{stored}
use Rattle.image.specs.declared.Sizes.{Sizes}
use Rattle.lane_log.specs.Append.{advance}
use Rattle.lane_log.specs.inner.AppendLaws.{advance-within}
use Rattle.record.specs.Record.{lane_at, cursor_of, is_logged, pairs_from, is_held, part_length, stamp_ok, floor_ok, pairs_ok, phase_ok, lock_ok, floor_after_append, Phase, Lock}
use Rattle.record.specs.Record.{with_lane, with_clock, with_last, with_lock, appended_lane, pairs_of, words_of_pairs}
use Rattle.record.specs.inner.RecordLaws.{LaneIn, stamp-in}
use Rattle.record.specs.declared.Logged.{Logged}
use Rattle.record.specs.declared.Lane.{Lane}
use Rattle.record.specs.declared.Locked.{Locked}
use Rattle.record.specs.declared.Pair.{Pair}
use Rattle.record.specs.declared.Record.{Record}
use Rattle.store.specs.Machine.{Machine}
use Rattle.store.specs.Calls.{drained, changed, writes_on, pair_stores}
use Rattle.store.specs.Locks.{locked, part_of, pair_writes, part_written_state}
use Rattle.store.specs.Locks as store
use Rattle.crash.specs.History.{closing_at, newest_stamp, Commit, Page, Holder, History, blank_page, page_at, is_below, words_below, present}
use Rattle.crash.specs.History.{floor_or, after_drain, lock_taken, left_after, part_logged, part_written, next_part, visible}
use Rattle.crash.specs.Theorem.{lock_state, holder_state}
use Rattle.crash.proofs.recovery.Data.{replay_snoc}
use Rattle.crash.proofs.induction.Moves.{Known}
use Rattle.crash.proofs.history.Lanes.{LaneTo, lane-to, PageTo, appended-floor}
use Rattle.crash.proofs.history.Ranges.{HeldRange, held-ranged, held-ok, free-ok, stamp-later, stamp-now, lane-later, pairs-low}
use Rattle.crash.proofs.history.Words.{data-stored, data-pairs}
use Rattle.crash.proofs.history.Agree.{all_writes, holder_of, Locking, Book, Logs, visible-free, not-locked}
use Rattle.crash.proofs.history.Onward.{earlier-clock, last-append, onward-written, onward-same}
use Rattle.crash.proofs.history.Parts.{length_pairs, length-words, pairs-part, part-some, part-within, visible-held}
use Rattle.crash.proofs.history.Parts.{in-range, its_writes, part_count, part_low, part-pairs, words-held, part-writes, words-next}
use Rattle.crash.proofs.history.Books.{Moved, book-moved, range-now, even-now, last-now, words-free, in-pages, in-lanes, phase-drained, book-drains}

-- ---- the lock in record and history
state-held : (k : Locked) (f : List ℕ) (l : Lock) (y : Option Holder) → l ≡ Some k → y ≡ Some (holder_of k f) → lock_state l ≡ holder_state y
unfolding lock_state holder_state holder_of
state-held k f l y e d = rw (e, d)

pub not-logged : {A : Type 0} (p : Phase) (g : Logged) → is_logged p ≡ false → p ≡ Some g → A
unfolding is_logged
not-logged p g i e = absurd (let d = ap is_logged e in let z : ◌≡◌ {A = ℕ} 0 1 = cc in omega arith)

-- of a lock that is held as k says, what is claimed of k is claimed of any that it is
locking-of : (z : Sizes) (base : ℕ) (h : History) (m : Machine) (k : Locked) → m.state.lock ≡ Some k → Locking z base h m k
    → (x : Locked) → m.state.lock ≡ Some x → Locking z base h m x
locking-of z base h m k e v x d = let q : k ≡ x = cc in subst (Locking z base h m) q v

-- ---- what Continue leaves where it writes a part
-- where it is not the last one
abbrev pub more_written : Locked → Locked
more_written k = record { lane = k.lane; stamp = k.stamp; count = k.count; logged = k.logged; written = k.written + part_length k }

abbrev pub with_some : Locked → List ℕ → History → History
with_some k f h =
    record {
      start = h.start;
      clock = h.clock;
      commits = h.commits;
      pages = h.pages;
      lag = h.lag;
      lock = Some (record { lane = k.lane; txn = f; stamp = k.stamp; left = left_after (holder_of k f); ready = false });
    }

-- and where it is
abbrev pub with_all : Locked → List ℕ → History → History
with_all k f h =
    record {
      start = h.start;
      clock = h.clock;
      commits = h.commits ++ (record { stamp = k.stamp; txn = f } ∷ []);
      pages = h.pages;
      lag = h.lag;
      lock = None;
    }

module _ (k : Locked) where
  left-after : (f : List ℕ) → left_after (holder_of k f) ≡ k.count - (k.written + part_length k)
  unfolding left_after holder_of part_length
  left-after f = omega arith

  module _ (d : k.written + part_length k ≡ k.count → ⊥) where
    pub some-machine : (m : Machine)
        → store.part_written k m ≡ changed k.lane (pair_stores (part_of k m.pairs)) (with_lock m.state (Some (more_written k))) m
    unfolding store.part_written part_written_state
    some-machine m = rw (ne_eqb (k.written + part_length k) k.count d)

    pub some-history : k.written < k.count → (f : List ℕ) (h : History) → part_written (holder_of k f) h ≡ with_some k f h
    unfolding part_written holder_of
    some-history l f h =
        rw (ne_eqb (left_after (holder_of k f)) 0 (λ q. d (let a = left-after f in let w = part-within k l in omega arith)))

  module _ (d : k.written + part_length k ≡ k.count) where
    pub all-machine : (m : Machine)
        → store.part_written k m ≡ changed k.lane (pair_stores (part_of k m.pairs)) (with_lock (with_last m.state k.stamp) None) m
    unfolding store.part_written part_written_state
    all-machine m = rw (eq-eqb (k.written + part_length k) k.count d)

    pub all-history : (f : List ℕ) (h : History) → part_written (holder_of k f) h ≡ with_all k f h
    unfolding part_written holder_of
    all-history f h = rw (eq-eqb (left_after (holder_of k f)) 0 (let l = left-after f in omega arith))

-- the transaction is the one that the history tells
abbrev pub txn-in : Option Holder → List ℕ
txn-in None = []
txn-in (Some y) = y.txn

module _ (z : Sizes) (base : ℕ) (h : History) (m : Machine) (b : Book z base h m) where
  -- lane and page of a move that leaves them
  module _ (L : ℕ) (lane : L < z.lanes) (c : ℕ) (later : h.clock ≤ c) where
    range-later : LaneIn z c (lane_at m.state L)
    range-later = lane-later z h.clock c (lane_at m.state L) later (range-now z base L lane h m b)

    newest-later : (s : ℕ) → newest_stamp (page_at h L).newest ≡ Some s → stamp_ok c s ≡ true
    newest-later s e = stamp-later h.clock c s later (b.stamps L s lane e)

  -- ---- the lock is taken
  module _ (L : ℕ) (lane : L < z.lanes) (f : List ℕ) (ok : txn_by current max_long z.words f ≡ true) (idle : is_logged (lane_at m.state L).phase ≡ false)
      (free : is_held m.state.lock ≡ false) (some-write : 0 < length (writes_on z f m)) where
    abbrev held-now : Locked
    held-now = record { lane = L; stamp = m.state.clock + 2; count = length (writes_on z f m); logged = 0; written = 0 }

    abbrev taken : History
    taken = lock_taken L f (length (writes_on z f m)) h

    abbrev after-lock : Machine
    after-lock = locked L (writes_on z f m) m

    holder-now : taken.lock ≡ Some (holder_of held-now f)
    unfolding lock_taken holder_of
    holder-now =
        let n = length (writes_on z f m) in
        let e : n ≡ n - 0 = omega arith in
        ap (λ (s : ℕ). Some (record { lane = L; txn = f; stamp = s + 2; left = n; ready = false })) (sym b.live.clock)
        ∙ ap (λ (i : ℕ). Some (record { lane = L; txn = f; stamp = m.state.clock + 2; left = i; ready = false })) e

    present-taken : present z taken ≡ present z h
    unfolding present words_below lock_taken
    present-taken = refl

    same_writes : writes_on z f m ≡ all_writes z f taken
    unfolding writes_on all_writes
    same_writes = ap (run z.words f) (words-free z base L lane h m b free ∙ sym present-taken)

    writes-low : All (λ w. w.word < z.words) (writes_on z f m)
    unfolding writes_on
    writes-low = run-low current max_long z.words f (data_of z m.cache) ok

    writes-few : length (writes_on z f m) ≤ max_long
    unfolding writes_on
    writes-few = few-writes current max_long z.words f (data_of z m.cache) ok

    pairs-now : pairs_ok z.words (pairs_from (words_of_pairs (pairs_of max_long (writes_on z f m))) 0 (length (writes_on z f m))) ≡ true
    pairs-now =
        let ws = writes_on z f m in
        ap (pairs_ok z.words) (pairs-part max_long ws 0 (length ws) (let w : 0 + length ws ≤ max_long = omega (arith, writes-few) in w)
        ∙ ap (pairs_of (length ws)) (take_all (length ws) ws (le_refl (length ws))))
        ∙ pairs-low z.words (length ws) (buffers-in z _ _ _ b.buffers).sizes.words-low writes-low

    lock-ok-now : lock_ok z after-lock.state after-lock.pairs after-lock.state.lock ≡ true
    unfolding locked lock_ok with_lock with_clock lane_at
    lock-ok-now =
        held-ranged z after-lock.state after-lock.pairs held-now
        (record {
          lane = lane;
          idle = idle;
          stamp = stamp-now (m.state.clock + 2) (let k = even-now z base L lane h m b in let c = b.live.clock in omega arith);
          count = writes-few;
          pairs = pairs-now;
          whole = refl;
          left = some-write;
          logged = inl refl;
        })

    words-taken : data_of z after-lock.cache ≡ visible z taken
    unfolding locked applied
    words-taken =
        words-free z base L lane h m b free ∙ sym present-taken
        ∙ sym (visible-held z taken held-now f holder-now (ap length same_writes) (omega arith))

    locking-now : Locking z base taken after-lock held-now
    unfolding lock_taken locked with_lock with_clock page_at
    locking-now =
        let c = b.live.clock in
        record {
          txn = f;
          ok = ok;
          holder = holder-now;
          clock = omega arith;
          low = omega (arith, b.low);
          commits = All-map (λ d i. omega (arith, i)) b.upto;
          others = λ M s i d e. let k = (stamp-in h.clock s (b.stamps M s i e)).low in omega arith;
          mine = λ q s e. let k = (stamp-in h.clock s (b.stamps L s lane e)).low in omega arith;
          own = λ q. absurd (omega arith);
          count = ap length same_writes;
          pairs = ap (λ (ws : List Write). words_of_pairs (pairs_of max_long ws)) same_writes;
        }

    moved-locked : Moved z base L h taken m after-lock
    unfolding lock_taken locked with_lock with_clock lane_at page_at
    moved-locked =
        record {
          lane = lane_at m.state L;
          page = page_at h L;
          lanes = record { here = refl; others = λ M d. refl; lanes = refl };
          pages = record { here = refl; others = λ M d. refl; pages = refl };
          given = h.clock;
          onward = onward-same h taken refl refl (let l : h.clock ≤ h.clock + 2 = omega arith in l) refl;
          low = b.low;
          earlier = earlier-clock z base h m b L;
          in-cache = refl;
          in-nvm = refl;
          in-flags = refl;
          in_pairs = length-words (pairs_of max_long (writes_on z f m)) ∙ ap (λ (n : ℕ). 2 * n) (length_pairs max_long (writes_on z f m));
          words = words-taken;
          clock = ap (λ (c : ℕ). c + 2) b.live.clock;
          lag = refl;
          even = let k = even-now z base L lane h m b in omega arith;
          last = b.last;
          last_ok = stamp-later h.clock (h.clock + 2) m.state.last (omega arith) (last-now z base L lane h m b);
          range = range-later L lane (h.clock + 2) (omega arith);
          floor = b.live.floors L lane;
          held = b.live.held L lane;
          newest = newest-later L lane (h.clock + 2) (omega arith);
          holding = λ g e. not-logged (lane_at m.state L).phase g idle e;
          lock = state-held held-now f after-lock.state.lock taken.lock refl holder-now;
          lock-ok = lock-ok-now;
          locking = locking-of z base taken after-lock held-now refl locking-now;
        }

    pub book-locked : Book z base taken after-lock
    book-locked = book-moved z base L lane h taken m after-lock b moved-locked

  -- ---- the lock is held
  module _ (k : Locked) (e : m.state.lock ≡ Some k) where
    abbrev it : Locking z base h m k
    it = b.locking k e

    abbrev its : List Write
    its = its_writes z base h m b k e

    abbrev y : Holder
    y = holder_of k it.txn

    ranged : HeldRange z m.state m.pairs k
    ranged = in-range z base h m b k e

    stamp-ok : stamp_ok h.clock k.stamp ≡ true
    stamp-ok = rw b.live.clock at ranged.stamp

    -- ---- a part is logged
    module _ (t : k.logged ≡ k.written) where
      abbrev ws : List Write
      ws = pair_writes (part_of k m.pairs) (data_of z m.cache)

      ws-some : 0 < length ws
      ws-some = rw (part-writes z base h m b k e, part_count z base h m b k e) (part-some k ranged.left)

      abbrev more-logged : Locked
      more-logged = record { lane = k.lane; stamp = k.stamp; count = k.count; logged = k.logged + length ws; written = k.written }

      abbrev parted : History
      parted = part_logged y h

      abbrev after-part : Machine
      after-part = store.part_logged z k m

      abbrev its-lane : Lane
      its-lane =
          let l = lane_at m.state k.lane in
          appended_lane k.stamp (advance z.slots (length ws + 1) (cursor_of l)) None l.redo l

      lanes-parted : LaneTo m.state after-part.state k.lane its-lane
      unfolding store.part_logged changed with_lock lane_at
      lanes-parted =
          let a = lane-to (with_lock m.state (Some more-logged)) k.lane its-lane (in-lanes z base k.lane ranged.lane h m b) in
          record { here = a.here; others = a.others; lanes = a.lanes }

      abbrev its-page : Page
      its-page =
          let p = page_at h k.lane in
          record { held = p.held; newest = closing_at k.stamp; floor = floor_or p.floor (Some k.stamp) }

      pages-parted : PageTo h parted k.lane its-page
      unfolding part_logged holder_of page_at
      pages-parted =
          record {
            here = get_or-set_same h.pages k.lane _ blank_page (in-pages z base k.lane ranged.lane h m b);
            others = λ M d. get_or-set_other h.pages k.lane M _ blank_page d;
            pages = length-set h.pages k.lane _;
          }

      holder-parted : parted.lock ≡ Some (holder_of more-logged it.txn)
      unfolding part_logged holder_of
      holder-parted =
          ap (λ (r : Bool). Some (record { lane = k.lane; txn = it.txn; stamp = k.stamp; left = k.count - k.written; ready = r }))
          (sym (lt-ltb k.written (k.logged + length ws) (omega (arith, ws-some))))

      all-parted : (f : List ℕ) → all_writes z f h ≡ all_writes z f parted
      unfolding all_writes present words_below part_logged
      all-parted f = refl

      present-parted : present z h ≡ present z parted
      unfolding present words_below part_logged
      present-parted = refl

      words-parted : data_of z after-part.cache ≡ visible z parted
      unfolding store.part_logged changed
      words-parted =
          data-stored z k.lane k.stamp (cursor_of (lane_at m.state k.lane)) ws m.cache
          ∙ words-held z base h m b k e
          ∙ ap (applied (take k.written its)) present-parted
          ∙ ap (λ (l : List Write). applied (take k.written l) (present z parted)) (all-parted it.txn)
          ∙ sym (visible-held z parted more-logged it.txn holder-parted (it.count ∙ ap length (all-parted it.txn))
          (let l = ranged.left in omega arith))

      floor-part : (c s : ℕ) (t : Option ℕ) → stamp_ok c s ≡ true → floor_ok c t ≡ true → floor_ok c (floor_after_append s t) ≡ true
      unfolding floor_after_append floor_ok
      floor-part c s None p q = p
      floor-part c s (Some u) p q = q

      range-part : LaneIn z h.clock its-lane
      unfolding appended_lane cursor_of phase_ok
      range-part =
          let r = range-now z base k.lane ranged.lane h m b in
          let c = advance-within z.slots (length ws + 1) (cursor_of (lane_at m.state k.lane)) (record { slot = r.next; wrap = r.wrap }) in
          record {
            next = c.slot;
            wrap = c.wrap;
            floor = floor-part h.clock k.stamp (lane_at m.state k.lane).floor stamp-ok r.floor;
            phase = refl;
          }

      idle-part : is_logged (lane_at after-part.state k.lane).phase ≡ false
      unfolding appended_lane is_logged
      idle-part = ap (λ (l : Lane). is_logged l.phase) lanes-parted.here

      length_part : (x : Locked) → x.count ≡ k.count → x.written ≡ k.written → part_length x ≡ part_length k
      unfolding part_length
      length_part x p q = rw (p, q)

      lock-part : after-part.state.lock ≡ Some more-logged
      unfolding store.part_logged changed with_lane with_lock
      lock-part = refl

      lock-ok-part : lock_ok z after-part.state after-part.pairs after-part.state.lock ≡ true
      unfolding store.part_logged changed with_lane with_lock
      lock-ok-part =
          held-ok z after-part.state after-part.pairs after-part.state.lock more-logged lock-part
          ∙ held-ranged z after-part.state after-part.pairs more-logged
          (record {
            lane = ranged.lane;
            idle = idle-part;
            stamp = ranged.stamp;
            count = ranged.count;
            pairs = ranged.pairs;
            whole = ranged.whole;
            left = ranged.left;
            logged = inr (let n = ap length (part-writes z base h m b k e) ∙ part_count z base h m b k e in
                let d = length_part more-logged refl refl in omega arith);
          })

      newest-parted : (M : ℕ) → (M ≡ k.lane → ⊥) → (page_at parted M).newest ≡ (page_at h M).newest
      newest-parted M d = ap (λ (p : Page). p.newest) (pages-parted.others M d)

      locking-part : Locking z base parted after-part more-logged
      unfolding part_logged store.part_logged changed
      locking-part =
          record {
            txn = it.txn;
            ok = it.ok;
            holder = holder-parted;
            clock = it.clock;
            low = it.low;
            commits = it.commits;
            others = λ M s i d q. it.others M s i d (ap newest_stamp (sym (newest-parted M d)) ∙ q);
            mine = λ q s p. absurd (let l = ws-some in omega arith);
            own = λ q. ap (λ (p : Page). p.newest) pages-parted.here;
            count = it.count ∙ ap length (all-parted it.txn);
            pairs = it.pairs ∙ ap (λ (l : List Write). words_of_pairs (pairs_of max_long l)) (all-parted it.txn);
          }

      moved-parted : Moved z base k.lane h parted m after-part
      unfolding part_logged store.part_logged changed with_lane with_lock appended_lane newest_stamp is_logged
      moved-parted =
          record {
            lane = its-lane;
            page = its-page;
            lanes = lanes-parted;
            pages = pages-parted;
            given = h.clock;
            onward = onward-same h parted refl refl (le_refl h.clock) refl;
            low = b.low;
            earlier = earlier-clock z base h m b k.lane;
            in-cache = length-stored _ m.cache;
            in-nvm = refl;
            in-flags = length-flush_all k.lane _ m.flags;
            in_pairs = b.in_pairs;
            words = words-parted;
            clock = b.live.clock;
            lag = refl;
            even = even-now z base k.lane ranged.lane h m b;
            last = b.last;
            last_ok = last-now z base k.lane ranged.lane h m b;
            range = range-part;
            floor = appended-floor k.stamp (lane_at m.state k.lane).floor
                ∙ ap (λ (t : Option ℕ). floor_or t (Some k.stamp)) (b.live.floors k.lane ranged.lane);
            held = sym ranged.idle ∙ b.live.held k.lane ranged.lane;
            newest = λ s q. let d : k.stamp ≡ s = cc in subst (λ (s : ℕ). stamp_ok h.clock s ≡ true) d stamp-ok;
            holding = λ g q. absurd (let z : ◌≡◌ {A = ℕ} 0 1 = cc in omega arith);
            lock = state-held more-logged it.txn after-part.state.lock parted.lock lock-part holder-parted;
            lock-ok = lock-ok-part;
            locking = locking-of z base parted after-part more-logged lock-part locking-part;
          }

      pub book-parted : Book z base parted after-part
      book-parted = book-moved z base k.lane ranged.lane h parted m after-part b moved-parted

    -- ---- a part is written
    module _ (t : k.logged ≡ k.written + part_length k) where
      abbrev upto : ℕ
      upto = k.written + part_length k

      -- the words with it
      words-written : (r : Record) → data_of z (changed k.lane (pair_stores (part_of k m.pairs)) r m).cache ≡ applied (take upto its) (present z h)
      unfolding changed
      words-written r =
          ap (λ (ps : List Pair). data_of z (stored (pair_stores ps) m.cache)) (part-pairs z base h m b k e)
          ∙ data-pairs z m.cache (part_low z base h m b k e)
          ∙ words-next z base h m b k e

      -- ---- not the last one
      module _ (d : upto ≡ k.count → ⊥) where
        abbrev more-written : Locked
        more-written = more_written k

        abbrev after-some : Machine
        after-some = changed k.lane (pair_stores (part_of k m.pairs)) (with_lock m.state (Some more-written)) m

        abbrev with-some : History
        with-some = with_some k it.txn h

        holder-some : with-some.lock ≡ Some (holder_of more-written it.txn)
        unfolding holder_of
        holder-some =
            ap (λ (n : ℕ). Some (record { lane = k.lane; txn = it.txn; stamp = k.stamp; left = n; ready = false })) (left-after k it.txn)
            ∙ ap (λ (r : Bool). Some (record { lane = k.lane; txn = it.txn; stamp = k.stamp; left = k.count - upto; ready = r }))
            (sym (le-ltb upto k.logged (omega arith)))

        all-some : (f : List ℕ) → all_writes z f h ≡ all_writes z f with-some
        unfolding all_writes present words_below
        all-some f = refl

        present-some : present z h ≡ present z with-some
        unfolding present words_below
        present-some = refl

        words-some : data_of z after-some.cache ≡ visible z with-some
        words-some =
            words-written (with_lock m.state (Some more-written))
            ∙ ap (applied (take upto its)) present-some
            ∙ ap (λ (l : List Write). applied (take upto l) (present z with-some)) (all-some it.txn)
            ∙ sym (visible-held z with-some more-written it.txn holder-some (it.count ∙ ap length (all-some it.txn)) (part-within k ranged.left))

        sixteen : (upto ≡ k.count → ⊥) → k.written % max_writes ≡ 0 → upto % max_writes ≡ 0
        unfolding part_length
        sixteen d w = omega arith

        lock-some : after-some.state.lock ≡ Some more-written
        unfolding changed with_lock
        lock-some = refl

        lock-ok-some : lock_ok z after-some.state after-some.pairs after-some.state.lock ≡ true
        unfolding changed with_lock lane_at
        lock-ok-some =
            held-ok z after-some.state after-some.pairs after-some.state.lock more-written lock-some
            ∙ held-ranged z after-some.state after-some.pairs more-written
            (record {
              lane = ranged.lane;
              idle = ranged.idle;
              stamp = ranged.stamp;
              count = ranged.count;
              pairs = ranged.pairs;
              whole = sixteen d ranged.whole;
              left = let l = part-within k ranged.left in omega arith;
              logged = inl t;
            })

        locking-some : Locking z base with-some after-some more-written
        unfolding changed page_at
        locking-some =
            record {
              txn = it.txn;
              ok = it.ok;
              holder = holder-some;
              clock = it.clock;
              low = it.low;
              commits = it.commits;
              others = it.others;
              mine = it.mine;
              own = it.own;
              count = it.count ∙ ap length (all-some it.txn);
              pairs = it.pairs ∙ ap (λ (l : List Write). words_of_pairs (pairs_of max_long l)) (all-some it.txn);
            }

        moved-some : Moved z base k.lane h with-some m after-some
        unfolding changed with_lock lane_at page_at
        moved-some =
            record {
              lane = lane_at m.state k.lane;
              page = page_at h k.lane;
              lanes = record { here = refl; others = λ M d. refl; lanes = refl };
              pages = record { here = refl; others = λ M d. refl; pages = refl };
              given = h.clock;
              onward = onward-same h with-some refl refl (le_refl h.clock) refl;
              low = b.low;
              earlier = earlier-clock z base h m b k.lane;
              in-cache = length-stored _ m.cache;
              in-nvm = refl;
              in-flags = length-flush_all k.lane _ m.flags;
              in_pairs = b.in_pairs;
              words = words-some;
              clock = b.live.clock;
              lag = refl;
              even = even-now z base k.lane ranged.lane h m b;
              last = b.last;
              last_ok = last-now z base k.lane ranged.lane h m b;
              range = range-now z base k.lane ranged.lane h m b;
              floor = b.live.floors k.lane ranged.lane;
              held = b.live.held k.lane ranged.lane;
              newest = newest-later k.lane ranged.lane h.clock (le_refl h.clock);
              holding = λ g q. not-logged (lane_at m.state k.lane).phase g ranged.idle q;
              lock = state-held more-written it.txn after-some.state.lock with-some.lock lock-some holder-some;
              lock-ok = lock-ok-some;
              locking = locking-of z base with-some after-some more-written lock-some locking-some;
            }

        book-some : Book z base with-some after-some
        book-some = book-moved z base k.lane ranged.lane h with-some m after-some b moved-some

        book-some-written : Book z base (part_written y h) (store.part_written k m)
        book-some-written = rw (some-machine k d m, some-history k d ranged.left it.txn h) book-some

      -- ---- the last one
      module _ (d : upto ≡ k.count) where
        abbrev after-all : Machine
        after-all = changed k.lane (pair_stores (part_of k m.pairs)) (with_lock (with_last m.state k.stamp) None) m

        abbrev its-commit : Commit
        its-commit = record { stamp = k.stamp; txn = it.txn }

        abbrev with-all : History
        with-all = with_all k it.txn h

        present-all : present z with-all ≡ after z.words it.txn (present z h)
        unfolding present words_below is_below
        present-all = replay_snoc z.words None h.commits its-commit h.start

        words-all : data_of z after-all.cache ≡ visible z with-all
        unfolding after all_writes
        words-all =
            words-written (with_lock (with_last m.state k.stamp) None)
            ∙ ap (λ (l : List Write). applied l (present z h)) (take_all upto its (let c = it.count in omega arith))
            ∙ sym present-all
            ∙ sym (visible-free z with-all refl)

        moved_all : Moved z base k.lane h with-all m after-all
        unfolding changed with_lock with_last lane_at page_at lock_state holder_state is_held
        moved_all =
            record {
              lane = lane_at m.state k.lane;
              page = page_at h k.lane;
              lanes = record { here = refl; others = λ M d. refl; lanes = refl };
              pages = record { here = refl; others = λ M d. refl; pages = refl };
              given = k.stamp - 1;
              onward = onward-written k.stamp it.txn h with-all refl refl refl refl it.clock (let l = it.low in omega arith);
              low = let l = it.low in omega arith;
              earlier = record {
                commits = All-map (λ c i. omega (arith, i)) it.commits;
                others = λ M s i d q. let l = it.others M s i d q in omega arith;
              };
              in-cache = length-stored _ m.cache;
              in-nvm = refl;
              in-flags = length-flush_all k.lane _ m.flags;
              in_pairs = b.in_pairs;
              words = words-all;
              clock = b.live.clock;
              lag = refl;
              even = even-now z base k.lane ranged.lane h m b;
              last = sym (last-append base h.commits its-commit);
              last_ok = stamp-ok;
              range = range-now z base k.lane ranged.lane h m b;
              floor = b.live.floors k.lane ranged.lane;
              held = b.live.held k.lane ranged.lane;
              newest = newest-later k.lane ranged.lane h.clock (le_refl h.clock);
              holding = λ g q. not-logged (lane_at m.state k.lane).phase g ranged.idle q;
              lock = refl;
              lock-ok = free-ok z _ m.pairs None refl;
              locking = λ x q. not-locked None x refl q;
            }

        book-all : Book z base with-all after-all
        book-all = book-moved z base k.lane ranged.lane h with-all m after-all b moved_all

        book-all-written : Book z base (part_written y h) (store.part_written k m)
        book-all-written = rw (all-machine k d m, all-history k d it.txn h) book-all

      pub book-written : Book z base (part_written y h) (store.part_written k m)
      book-written = split (eqb upto k.count) (λ q. book-all-written (eqb-true upto k.count q)) (λ q. book-some-written (eqb-false upto k.count q))

-- ---- every move: a drain, and then what the call does
-- one transaction only
pub same-txn : (k : Locked) (f g : List ℕ) (y : Option Holder) → y ≡ Some (holder_of k f) → y ≡ Some (holder_of k g) → f ≡ g
unfolding holder_of
same-txn k f g y p q = ap txn-in (sym p ∙ q)

-- what Continue makes of the history: its next part is logged, or written
pub next-logs : (k : Locked) (f : List ℕ) (y : Option Holder) (h : History) → y ≡ Some (holder_of k f) → k.logged ≡ k.written
    → next_part y h ≡ part_logged (holder_of k f) h
unfolding next_part holder_of
next-logs k f y h e t = rw (e, le-ltb k.written k.logged (omega arith))

pub next-writes : (k : Locked) (f : List ℕ) (y : Option Holder) (h : History) → y ≡ Some (holder_of k f) → k.written < k.count
    → k.logged ≡ k.written + part_length k → next_part y h ≡ part_written (holder_of k f) h
unfolding next_part holder_of
next-writes k f y h e l t = rw (e, lt-ltb k.written k.logged (let p = part-some k l in omega arith))

module _ (z : Sizes) (base : ℕ) (h : History) (m : Machine) (b : Book z base h m) (l : Logs z h m) where
  module _ (L : ℕ) (known : Known z m L) (f : List ℕ) (ok : txn_by current max_long z.words f ≡ true) (idle : is_logged (lane_at m.state L).phase ≡ false)
      (free : is_held m.state.lock ≡ false) (some-write : 0 < length (writes_on z f m)) where
    idle-drained : is_logged (lane_at (drained z L m).state L).phase ≡ false
    idle-drained = phase-drained z base L known.lane h m b l L ∙ idle

    pub book-locks : Book z base (lock_taken L f (length (writes_on z f m)) (after_drain L h)) (locked L (writes_on z f m) (drained z L m))
    unfolding drained writes_on with_lane
    book-locks =
        book-locked z base (after_drain L h) (drained z L m) (book-drains z base h m b l L known) L known.lane f ok idle-drained free some-write

  module _ (k : Locked) (known : Known z m k.lane) (e : m.state.lock ≡ Some k) where
    abbrev pub then-book : Book z base (after_drain k.lane h) (drained z k.lane m)
    then-book = book-drains z base h m b l k.lane known

    pub lock-drained : (drained z k.lane m).state.lock ≡ Some k
    unfolding drained with_lane
    lock-drained = e

    pub txn-drained : (then-book.locking k lock-drained).txn ≡ (b.locking k e).txn
    unfolding after_drain
    txn-drained =
        same-txn k (then-book.locking k lock-drained).txn (b.locking k e).txn h.lock (then-book.locking k lock-drained).holder (b.locking k e).holder

    pub book-parts : k.logged ≡ k.written
        → Book z base (part_logged (holder_of k (b.locking k e).txn) (after_drain k.lane h)) (store.part_logged z k (drained z k.lane m))
    book-parts t =
        rw (sym txn-drained) (book-parted z base (after_drain k.lane h) (drained z k.lane m) then-book k lock-drained t)

    pub book-writes : k.logged ≡ k.written + part_length k
        → Book z base (part_written (holder_of k (b.locking k e).txn) (after_drain k.lane h)) (store.part_written k (drained z k.lane m))
    book-writes t =
        rw (sym txn-drained) (book-written z base (after_drain k.lane h) (drained z k.lane m) then-book k lock-drained t)
