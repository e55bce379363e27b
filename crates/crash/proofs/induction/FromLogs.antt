-- The crash theorem from an invariant of the logs: the book's part and the recovery half put in. What is left are the fields of `LogLaws`. Assumes nothing.
use Rattle.std.specs.Prelude.{Some, None}
use mathlib.Core.Path.{◌≡◌, refl, sym, subst}
use mathlib.Core.Logic.{inl, inr}
use mathlib.Core.Bool.{true, false}
use mathlib.Core.List.{List, [], ◌∷◌}
use Prim.Native.Nat.{ℕ, ◌+◌, ◌-◌, ◌*◌, ◌%◌, ◌≤◌, ◌<◌}
use native.Mathlib.Omega.{arith}
use lib.ListN.{length, replicate}
use Rattle.txn.specs.Txn.{max_writes, max_long, current, former, txn_by}
use Rattle.image.specs.Image.{sizes_ok, former_length, base_of, data_of, log_of}
use Rattle.image.specs.Flush.{written_back}
use Rattle.image.specs.inner.FlushLaws.{length-written_back}
use Rattle.image.specs.declared.Sizes.{Sizes}
use Rattle.record.specs.Record.{lane_at, is_logged, is_held, part_length, lag_ok, pairs_of}
use Rattle.record.specs.declared.Locked.{Locked}
use Rattle.store.specs.Machine.{Machine}
use Rattle.store.specs.Calls.{started, start_image, drained, writes_on, marked, logged, committed, is_stale, redo_pairs, matches}
use Rattle.store.specs.Calls as calls
use Rattle.store.specs.Locks.{slots_counted, locked}
use Rattle.store.specs.Locks as store
use Rattle.recovery.specs.Recovery.{boundary, new_base, Restarted}
use Rattle.crash.specs.Events.{live, vandzulge}
use Rattle.crash.specs.History.{closing_at, mark_at, History, opened, page_at, words_below, after_drain, stamped, released, held_by, restarted, least_floor_of}
use Rattle.crash.specs.History.{lock_taken, part_logged, part_written}
use Rattle.crash.specs.Theorem.{end_of, InStep, NotBelow, recovery_answer, Holds, CrashTheorem, FormerTheorem}
use Rattle.recovery.specs.inner.SequenceLaws.{new_base-even}
use Rattle.recovery.specs.inner.AgainLaws.{recovered_image}
use Rattle.recovery.specs.inner.FreshLaws.{recovered-length, recovered-base, recovered-log}
use Rattle.crash.proofs.recovery.Restart.{recovered-end, answer-finished, former-known, former-finished}
use Rattle.crash.proofs.recovery.Recovered.{Shows, recovered-right}
use Rattle.crash.proofs.induction.Moves.{Known, Room, Ready}
use Rattle.crash.proofs.induction.Fed.{Steps, call-by-steps}
use Rattle.crash.proofs.history.Agree.{holder_of, Book, Logs, locking-kept}
use Rattle.crash.proofs.history.Answers.{part-logged, answers}
use Rattle.crash.proofs.history.Parts.{in-range}
use Rattle.crash.proofs.history.Books.{book-drains, book-logs, book-marks, book-gives-up, book-validates, book-redoes}
use Rattle.crash.proofs.history.BooksLock.{next-logs, next-writes, book-locks, book-parts, book-writes}
use Rattle.crash.proofs.history.Start.{book-start, image-fits, image-end, image-data, image-base, image-log}
use Rattle.crash.proofs.lane.Ends.{Form, Tailed, no_end}
use Rattle.crash.proofs.induction.Skeleton.{Laws, starts_from, crash-theorem-from}

-- ---- the cells when power fails
pub record AtCut (z : Sizes) (cells : List ℕ) (h : History) : Type 0 where
  pub size : former_length z ≤ length cells
  pub form : Form z (end_of z cells)
  pub even : base_of cells % 2 ≡ 0
  pub shows : Shows z cells h.start h.commits
  pub floors : NotBelow (least_floor_of h.pages) (boundary z cells)

-- ---- what is left: an invariant G of base, machine and history
pub record LogLaws (z : Sizes) (G : ℕ → Machine → History → Type 0) : Type 0 where
  -- what it says of the cached logs, and of the cells
  pub logs : (base : ℕ) (m : Machine) (h : History) → Book z base h m → G base m h → Logs z h m
  pub cuts : (base : ℕ) (m : Machine) (h : History) → Book z base h m → G base m h → AtCut z m.nvm h
  -- and of the end of the image
  pub tails : (base : ℕ) (m : Machine) (h : History) → Book z base h m → G base m h → Tailed z m
  -- a start: logs of 0s
  pub starts : (lag base : ℕ) (image words : List ℕ) → base % 2 ≡ 0 → former_length z ≤ length image → Form z (end_of z image) → base_of image ≡ base
      → data_of z image ≡ words
      → ((L : ℕ) → L < z.lanes → log_of z L image ≡ replicate (2 * z.slots) 0)
      → G base (started lag base image) (opened z lag words base)
  -- it is kept by write-backs and by each move
  pub writes : (base : ℕ) (m : Machine) (h : History) (i : ℕ) → Book z base h m → G base m h
      → G base (record { state = m.state; pairs = m.pairs; cache = m.cache; nvm = written_back i m.cache m.nvm; flags = m.flags }) h
  pub drains : (base : ℕ) (m : Machine) (h : History) (L : ℕ) → Book z base h m → G base m h → Known z m L → G base (drained z L m) (after_drain L h)
  pub appends : (base : ℕ) (m : Machine) (h : History) (L : ℕ) (f : List ℕ) → Book z base h m → G base m h → Known z m L
      → txn_by former max_writes z.words f ≡ true
      → is_logged (lane_at m.state L).phase ≡ false → is_held m.state.lock ≡ false → 0 < length (writes_on z f m)
      → Room z m L (length (writes_on z f m) + 1)
      → G base (logged z L (writes_on z f m) (drained z L m)) (stamped L closing_at (Some f) [] (after_drain L h))
  pub redoes : (base : ℕ) (m : Machine) (h : History) (L : ℕ) → Book z base h m → G base m h → Known z m L → Ready m L → is_stale L m ≡ false
      → G base (committed z L (redo_pairs L m) (drained z L m)) (stamped L closing_at None (held_by (page_at h L).held) (after_drain L h))
  pub validates : (base : ℕ) (m : Machine) (h : History) (L : ℕ) (f : List ℕ) → Book z base h m → G base m h → Known z m L
      → txn_by former max_writes z.words f ≡ true
      → Ready m L → matches z L (writes_on z f m) m ≡ true
      → G base (committed z L (pairs_of (length (writes_on z f m)) (writes_on z f m)) (drained z L m)) (stamped L closing_at None (f ∷ []) (after_drain L h))
  pub gives_up : (base : ℕ) (m : Machine) (h : History) (L : ℕ) (f : List ℕ) → Book z base h m → G base m h → Known z m L
      → txn_by former max_writes z.words f ≡ true
      → Ready m L → matches z L (writes_on z f m) m ≡ false
      → G base (calls.released L (drained z L m)) (released L (after_drain L h))
  pub marks : (base : ℕ) (m : Machine) (h : History) (L : ℕ) → Book z base h m → G base m h → Known z m L → is_held m.state.lock ≡ false
      → Room z m L 1
      → G base (marked z L m) (stamped L mark_at None [] (after_drain L h))
  -- the lock is taken, the next part is logged, it is written
  pub locks : (base : ℕ) (m : Machine) (h : History) (L : ℕ) (f : List ℕ) → Book z base h m → G base m h → Known z m L
      → txn_by current max_long z.words f ≡ true → is_logged (lane_at m.state L).phase ≡ false → is_held m.state.lock ≡ false
      → slots_counted f ≤ z.slots - 17 → 0 < length (writes_on z f m) → Room z m L (slots_counted f)
      → G base (locked L (writes_on z f m) (drained z L m)) (lock_taken L f (length (writes_on z f m)) (after_drain L h))
  pub parts : (base : ℕ) (m : Machine) (h : History) (k : Locked) (b : Book z base h m) → G base m h → Known z m k.lane
      → (e : m.state.lock ≡ Some k) → k.logged ≡ k.written
      → G base (store.part_logged z k (drained z k.lane m)) (part_logged (holder_of k (b.locking k e).txn) (after_drain k.lane h))
  pub makes : (base : ℕ) (m : Machine) (h : History) (k : Locked) (b : Book z base h m) → G base m h → Known z m k.lane
      → (e : m.state.lock ≡ Some k) → k.logged ≡ k.written + part_length k
      → G base (store.part_written k (drained z k.lane m)) (part_written (holder_of k (b.locking k e).txn) (after_drain k.lane h))

-- ---- the whole invariant
pub record Inv (z : Sizes) (G : ℕ → Machine → History → Type 0) (m : Machine) (h : History) : Type 0 where
  pub base : ℕ
  pub book : Book z base h m
  pub rest : G base m h

module _ (z : Sizes) (ok : sizes_ok z ≡ true) (G : ℕ → Machine → History → Type 0) (laws : LogLaws z G) where
  says : (m : Machine) (h : History) (v : Inv z G m h) → Logs z h m
  says m h v = laws.logs v.base m h v.book v.rest

  steps : Steps z (Inv z G)
  steps =
      record {
        drains = λ m h L v k.
            record { base = v.base; book = book-drains z v.base h m v.book (says m h v) L k; rest = laws.drains v.base m h L v.book v.rest k };
        logs = λ m h L f v k t i e p r.
            record {
              base = v.base;
              book = book-logs z v.base h m v.book (says m h v) L k e f t p;
              rest = laws.appends v.base m h L f v.book v.rest k t i e p r;
            };
        redoes = λ m h L v k y t.
            record {
              base = v.base;
              book = book-redoes z v.base h m v.book (says m h v) L k y t;
              rest = laws.redoes v.base m h L v.book v.rest k y t;
            };
        validates = λ m h L f v k t y e.
            record {
              base = v.base;
              book = book-validates z v.base h m v.book (says m h v) L k y f t;
              rest = laws.validates v.base m h L f v.book v.rest k t y e;
            };
        gives_up = λ m h L f v k t y e.
            record {
              base = v.base;
              book = book-gives-up z v.base h m v.book (says m h v) L k y.free;
              rest = laws.gives_up v.base m h L f v.book v.rest k t y e;
            };
        marks = λ m h L v k e r.
            record {
              base = v.base;
              book = book-marks z v.base h m v.book (says m h v) L k e;
              rest = laws.marks v.base m h L v.book v.rest k e r;
            };
        locks = λ m h L f v k t i e d p r.
            record {
              base = v.base;
              book = book-locks z v.base h m v.book (says m h v) L k f t i e p;
              rest = laws.locks v.base m h L f v.book v.rest k t i e d p r;
            };
        parts = λ m h k v known e t.
            let x = v.book.locking k e in
            rw (next-logs k x.txn h.lock (after_drain k.lane h) x.holder t)
            (record {
              base = v.base;
              book = book-parts z v.base h m v.book (says m h v) k known e t;
              rest = laws.parts v.base m h k v.book v.rest known e t;
            });
        makes = λ m h k v known e d.
            let x = v.book.locking k e in
            let t = part-logged v.book k e d in
            rw (next-writes k x.txn h.lock (after_drain k.lane h) x.holder (in-range z v.base h m v.book k e).left t)
            (record {
              base = v.base;
              book = book-writes z v.base h m v.book (says m h v) k known e t;
              rest = laws.makes v.base m h k v.book v.rest known e t;
            });
      }

  -- a start is one of the book and of the logs
  pub fresh : (lag base : ℕ) (image words : List ℕ) → lag_ok lag ≡ true → base % 2 ≡ 0 → former_length z ≤ length image → Form z (end_of z image)
      → base_of image ≡ base → data_of z image ≡ words
      → ((L : ℕ) → L < z.lanes → log_of z L image ≡ replicate (2 * z.slots) 0) → Inv z G (started lag base image) (opened z lag words base)
  fresh lag base image words in-lag even long form at same blank =
      record {
        base = base;
        book = book-start z lag base image words ok in-lag even long form same;
        rest = laws.starts lag base image words even long form at same blank;
      }

  written : (m : Machine) (h : History) (i : ℕ) (v : Inv z G m h)
      → Book z v.base h (record { state = m.state; pairs = m.pairs; cache = m.cache; nvm = written_back i m.cache m.nvm; flags = m.flags })
  written m h i v =
      let b = v.book in
      record {
        buffers = rw (length-written_back i m.cache m.nvm) b.buffers;
        in_pairs = b.in_pairs;
        fields = b.fields;
        lanes = b.lanes;
        pages = b.pages;
        live = record {
          words = b.live.words;
          clock = b.live.clock;
          lag = b.live.lag;
          floors = b.live.floors;
          held = b.live.held;
          lock = b.live.lock;
        };
        rising = b.rising;
        above = b.above;
        upto = b.upto;
        low = b.low;
        last = b.last;
        stamps = b.stamps;
        holding = λ L g i e.
            let x = b.holding L g i e in
            record {
              txn = x.txn;
              held = x.held;
              ok = x.ok;
              newest = x.newest;
              above = x.above;
              upto = x.upto;
              apart = x.apart;
              count = x.count;
              redo = x.redo;
            };
        locking = λ k e. locking-kept z v.base h h m _ refl refl refl refl (λ M. refl) refl k (b.locking k e);
      }

  -- what a finished recovery leaves is one
  recovered-fresh : (lag : ℕ) (cells words : List ℕ) → lag_ok lag ≡ true → former_length z ≤ length cells → Form z (end_of z cells) → base_of cells % 2 ≡ 0
      → data_of z (recovered_image z cells) ≡ words → Inv z G (started lag (new_base z cells) (recovered_image z cells)) (opened z lag words (new_base z cells))
  recovered-fresh lag cells words in-lag size form even same =
      fresh lag (new_base z cells) (recovered_image z cells) words in-lag (new_base-even z cells even) (rw (recovered-length z cells) size)
      (rw (recovered-end z cells) form) (recovered-base z cells size) same (λ L i. recovered-log z cells size L i)

  restarted-so : (lag : ℕ) → lag_ok lag ≡ true → (cells : List ℕ) (h : History) → AtCut z cells h
      → Inv z G (started lag (new_base z cells) (recovered_image z cells)) (restarted z lag cells h)
  unfolding restarted words_below
  restarted-so lag in-lag cells h a =
      recovered-fresh lag cells (words_below z (boundary z cells) h) in-lag a.size a.form a.even
      (recovered-right z cells h.start h.commits a.shows)

  words-so : (cells : List ℕ) (h : History) → AtCut z cells h → data_of z (recovered_image z cells) ≡ words_below z (boundary z cells) h
  unfolding words_below
  words-so cells h a = recovered-right z cells h.start h.commits a.shows

  zero-even : ◌≡◌ {A = ℕ} (0 % 2) 0
  zero-even = refl

  pub all_laws : Laws z (Inv z G) (AtCut z)
  all_laws =
      record {
        formats = λ lag start in-lag e. fresh lag 0 (start_image z start) start in-lag zero-even (image-fits z start e) (inr (image-end z start e))
            (image-base z start e) (image-data z start e) (λ L i. image-log z start e L i);
        lives = λ m h v. v.book.live;
        buffers = λ m h v. v.book.buffers;
        pairs = λ m h v. v.book.in_pairs;
        calls = call-by-steps z (Inv z G) steps;
        answers = λ m h c v. answers z v.base h m v.book (says m h v) c;
        writes = λ m h i v. record { base = v.base; book = written m h i v; rest = laws.writes v.base m h i v.book v.rest };
        tails = λ m h v. laws.tails v.base m h v.book v.rest;
        cuts = λ m h v. laws.cuts v.base m h v.book v.rest;
        size = λ cells h a. a.size;
        form = λ cells h a. a.form;
        even = λ cells h a. a.even;
        words = words-so;
        floors = λ cells h a. a.floors;
        restarts = restarted-so;
      }

-- ---- the crash theorem, from the logs' laws
module _ (G : Sizes → ℕ → Machine → History → Type 0) (laws : (z : Sizes) → sizes_ok z ≡ true → LogLaws z (G z)) where
  its-laws : (z : Sizes) (ok : sizes_ok z ≡ true) → Laws z (Inv z (G z)) (AtCut z)
  its-laws z ok = all_laws z ok (G z) (laws z ok)

  pub crash-theorem-by-logs : CrashTheorem vandzulge
  crash-theorem-by-logs = crash-theorem-from (λ z. Inv z (G z)) AtCut its-laws

  -- what a finished recovery of an image of the former length leaves is a start too
  pub former-theorem-by-logs : FormerTheorem vandzulge
  unfolding FormerTheorem vandzulge started
  former-theorem-by-logs z lag limit m e all es =
      let a = former-known z lag m e in
      let size : former_length z ≤ length m.nvm = omega (arith, a.1) in
      let form = inl (no_end z m.nvm a.1) in
      let v = recovered-fresh z a.0 (G z) (laws z a.0) lag m.nvm (data_of z (recovered_image z m.nvm)) a.3 size form a.2 refl in
      let long : length (recovered_image z m.nvm) ≡ former_length z + 0 = omega (arith, recovered-length z m.nvm, a.1) in
      let g = starts_from (λ z. Inv z (G z)) AtCut its-laws z a.0 [] (inl refl) _ _ v long es in
      subst
      (λ (r : Restarted). (r.answer ≡ recovery_answer z lag limit m.nvm)
      × InStep z [] (opened z lag (data_of z r.machine.nvm) (new_base z m.nvm)) (live r.machine)
      × Holds vandzulge z [] (live r.machine) (opened z lag (data_of z r.machine.nvm) (new_base z m.nvm)) es)
      (sym (former-finished z lag limit m e all size))
      (answer-finished z lag limit m.nvm a.3 all, g.0, g.1)
