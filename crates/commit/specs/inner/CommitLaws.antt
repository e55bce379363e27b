-- Inner: how the code goes, need not be believed. Laws of Redo and Validate: their refusals, the stores of a commit, comparing writes with entries, and
-- each way in which a call ends. Assumes nothing.
use Rattle.std.specs.Prelude.{ℕ, ◌+◌, ◌*◌, ◌≤◌, ◌<◌, ◌≡◌, Bool, true, false, cond, ◌&&◌, length, get_or, set, drop, Option, None}
use Rattle.std.proofs.Math.Path.{refl, sym, ap}
use Rattle.std.proofs.Common.{◌∙◌, arith, add-one, drop-cons, get_or-set_other}
use mathlib.Core.List.{List, [], ◌∷◌, ◌++◌}
use Rattle.std.proofs.Math.Dec.{eqb, ltb}
use Rattle.std.proofs.Math.ListN.{take, length-set}
use Rattle.std.proofs.Math.Seq.{take-length, take-suc, drop-length}
use borrow.Author.Tests.{eq-eqb, ne_eqb, lt-ltb, le-ltb, ltb-true, not-false}
use Rattle.laws.specs.inner.Tests.{and_left, and_right}
use Rattle.laws.specs.inner.Lists.{none, more}
use Rattle.slot.specs.declared.Content.{Content}
use Rattle.txn.specs.Txn.{max_writes, txn_ok, run}
use Rattle.txn.specs.inner.Writes.{no_write}
use Rattle.txn.specs.declared.Write.{Write}
use Rattle.image.specs.Image.{max_lanes, former_length, data_of, log_start, log_of}
use Rattle.image.specs.inner.ImageLaws.{sizes-in, log-fits}
use Rattle.image.specs.Flush.{flush, flush_all, drained_nvm, drained_flags}
use Rattle.image.specs.inner.FlushLaws.{length-flush_all, flush_all-append, flush_all-snoc, length-drained_flags}
use Rattle.image.specs.Stores.{Store, stored, places}
use Rattle.image.specs.inner.StoresLaws.{length-stored, stored-append, stored-snoc, places-append}
use Rattle.image.specs.declared.Sizes.{Sizes}
use Rattle.lane_log.specs.Log.{slot_at, latest_in}
use Rattle.lane_log.specs.Append.{circular, restamp_store}
use Rattle.lane_log.specs.inner.AppendEntries.{WordsBelow}
use Rattle.lane_log.proofs.SearchLaws.{circular-low}
use Rattle.lane_log.specs.declared.Cursor.{Cursor}
use Rattle.record.specs.Record.{no_pair, lane_at, cursor_of, is_logged, logged_in, is_held, pairs_ok, spent, floor_after_drain, drained_lane, idle_lane, Phase}
use Rattle.record.specs.Record.{with_lane, with_clock, with_last, pairs_of}
use Rattle.record.specs.inner.RecordLaws.{record-in, lane-in, phase-in, clock-room, pair-below, pairs-cut, lane-twice}
use Rattle.record.specs.declared.Logged.{Logged}
use Rattle.record.specs.declared.Pair.{Pair}
use Rattle.record.specs.declared.Record.{Record}
use Rattle.codec.specs.Fields.{record_of, words_of}
use Rattle.codec.specs.inner.InPlace.{headed}
use Rattle.codec.specs.inner.ReadLaws.{lanes-read}
use Rattle.store.specs.Answers.{Refused, Committed, Stale, Changed}
use Rattle.store.specs.Machine.{Machine, first_cause, said}
use Rattle.store.specs.Calls.{bad_txn, not_logged, lock_held, clock_spent, drain_refusal, drained, changed, writes_on, pair_stores, commit_stores, committed}
use Rattle.store.specs.Calls.{redo_refusal, is_stale, redo_pairs, redo_step, entry_matches, entries_match, matches, released}
use Rattle.store.specs.Calls.{validate_refusal_by, validate_refusal, validate_step_by, validate_step}
use Rattle.store.specs.Interface.{machine_of, machine_in, kept_by, keeps}
use Rattle.store.specs.inner.Checked.{Checked, drained_state}
use Rattle.store.specs.inner.StoreLaws.{first_holds, first-fails, first-end, first-none, refuses-txn, passes-txn, checked, at-lane, after-lane, lane-passed}
use Rattle.store.specs.inner.StoreLaws.{step-taken}
use Rattle.store.specs.inner.StoreLaws.{drained-by, drained-state, drained-clock, drained-last, drained-lane, drained-keeps}
use Rattle.store.specs.inner.KeepsLaws.{keeps-taken, keeps-refused}
use Rattle.commit.specs.inner.Commit.{commit_refusal, released_state, committed_state, commit_words, matches_held, Restampable, Committable, redo_drained}
use Rattle.commit.specs.inner.Commit.{validate_drained}
use Rattle.record.specs.Record.{Lock}
use Rattle.lane_log.specs.declared.Sequence.{Sequence}

-- ---- refusals 7, 11 and 8
module _ (phase : Phase) (held spent b : Bool) (f : b ≡ is_logged phase) where
  pub commit-idle : b ≡ false → 7 ≡ commit_refusal phase held spent
  unfolding commit_refusal
  commit-idle k = sym (first_holds _ _ (rw (← f, k)))

  pub commit-held : b ≡ true → held ≡ true → 11 ≡ commit_refusal phase held spent
  unfolding commit_refusal
  commit-held k l = sym (first-fails _ _ (rw (← f, k)) ∙ first_holds _ _ l)

  pub commit-spent : b ≡ true → held ≡ false → spent ≡ true → 8 ≡ commit_refusal phase held spent
  unfolding commit_refusal
  commit-spent k l g = sym (first-fails _ _ (rw (← f, k)) ∙ first-fails _ _ l ∙ first_holds _ _ g)

  pub commit-free : b ≡ true → held ≡ false → spent ≡ false → 0 ≡ commit_refusal phase held spent
  unfolding commit_refusal
  commit-free k l g = sym (first-fails _ _ (rw (← f, k)) ∙ first-fails _ _ l ∙ first-fails _ _ g ∙ first-end)

-- the record alone decides them
commit-causes : (L : ℕ) (m : Machine) (phase : Phase) (lock : Lock) (held s : Bool) → phase ≡ (lane_at m.state L).phase → lock ≡ m.state.lock
    → held ≡ is_held lock → s ≡ spent m.state
    → commit_refusal phase held s ≡ first_cause (not_logged L m ∷ lock_held m ∷ clock_spent m ∷ [])
unfolding commit_refusal not_logged lock_held clock_spent
commit-causes L m phase lock held s a b e f = rw (a, e, b, f)

-- ---- the whole refusals, where a call has found Drain's number
module _ (z : Sizes) (L : ℕ) (m : Machine) (number : ℕ) (e : number ≡ drain_refusal z L m) where
  pub redo-refused : (number ≡ 0 → ⊥) → number ≡ redo_refusal z L m
  unfolding redo_refusal
  redo-refused h = e ∙ sym (at-lane z L m _ (λ k. h (e ∙ k)))

  pub redo-causes : (k : ℕ) (phase : Phase) (lock : Lock) (held s : Bool) → number ≡ 0 → phase ≡ (lane_at m.state L).phase → lock ≡ m.state.lock
      → held ≡ is_held lock → s ≡ spent m.state → k ≡ commit_refusal phase held s → k ≡ redo_refusal z L m
  unfolding redo_refusal
  redo-causes k phase lock held s h a b c d f = f ∙ commit-causes L m phase lock held s a b c d ∙ sym (after-lane z L m _ (sym e ∙ h))

  module _ (t : List ℕ) where
    pub validate-refused : (number ≡ 0 → ⊥) → number ≡ validate_refusal z L t m
    unfolding validate_refusal_by
    validate-refused h = e ∙ sym (at-lane z L m _ (λ k. h (e ∙ k)))

    pub validate-bad : number ≡ 0 → txn_ok max_writes z.words t ≡ false → 5 ≡ validate_refusal z L t m
    unfolding validate_refusal_by
    validate-bad h f = sym (after-lane z L m _ (sym e ∙ h) ∙ refuses-txn _ _ z t f)

    pub validate-causes : (k : ℕ) (phase : Phase) (lock : Lock) (held s : Bool) → number ≡ 0 → txn_ok max_writes z.words t ≡ true
        → phase ≡ (lane_at m.state L).phase → lock ≡ m.state.lock → held ≡ is_held lock → s ≡ spent m.state → k ≡ commit_refusal phase held s
        → k ≡ validate_refusal z L t m
    unfolding validate_refusal_by
    validate-causes k phase lock held s h g a b c d f =
        f ∙ commit-causes L m phase lock held s a b c d ∙ sym (after-lane z L m _ (sym e ∙ h) ∙ passes-txn _ _ z t g)

-- ---- what a call knows that is not refused
commit-none : (L : ℕ) (m : Machine) → first_cause (not_logged L m ∷ lock_held m ∷ clock_spent m ∷ []) ≡ 0
    → (is_logged (lane_at m.state L).phase ≡ true) × (spent m.state ≡ false)
unfolding not_logged lock_held clock_spent
commit-none L m e =
    let a = first-none _ _ (λ z. omega arith) e in
    let b = first-none _ _ (λ z. omega arith) a.1 in
    let c = first-none _ _ (λ z. omega arith) b.1 in
    (not-false _ a.0, c.0)

-- a call that may commit, before its drain
pub record Accepted (z : Sizes) (state : Record) (pairs cache nvm flags : List ℕ) (L : ℕ) : Type 0 where
  pub known : Checked z state pairs cache nvm flags L
  pub holds : is_logged (lane_at state L).phase ≡ true
  pub unspent : spent state ≡ false

module _ (z : Sizes) (state : Record) (pairs cache nvm flags : List ℕ) (L number : ℕ) where
  pub redo-accepted : number ≡ redo_refusal z L (machine_of state pairs cache nvm flags) → number ≡ 0 → Accepted z state pairs cache nvm flags L
  unfolding redo_refusal
  redo-accepted e h =
      let a = lane-passed z L (machine_of state pairs cache nvm flags) _ (sym e ∙ h) in
      let b = commit-none L (machine_of state pairs cache nvm flags) a.1 in
      record { known = checked z state pairs cache nvm flags L a.0; holds = b.0; unspent = b.1 }

  pub validate-accepted : (t : List ℕ) → number ≡ validate_refusal z L t (machine_of state pairs cache nvm flags) → number ≡ 0
      → Accepted z state pairs cache nvm flags L × (txn_ok max_writes z.words t ≡ true)
  unfolding validate_refusal_by bad_txn
  validate-accepted t e h =
      let a = lane-passed z L (machine_of state pairs cache nvm flags) _ (sym e ∙ h) in
      let c = first-none _ _ (λ z. omega arith) a.1 in
      let b = commit-none L (machine_of state pairs cache nvm flags) c.1 in
      (record { known = checked z state pairs cache nvm flags L a.0; holds = b.0; unspent = b.1 }, not-false _ c.0)

-- and after it, by the record before it
pub committable : (z : Sizes) (state : Record) (pairs cache nvm flags : List ℕ) (L : ℕ) (f : List ℕ) → Accepted z state pairs cache nvm flags L
    → length state.lanes ≡ max_lanes → f ≡ drained_flags L flags → Committable z state cache f L
committable z state pairs cache nvm flags L f a n e =
    let k = a.known in
    let q = record-in z state pairs k.in-range in
    let u : L < length state.lanes = omega (arith, (sizes-in z k.image.sizes-ok).lanes-high, k.lane_below) in
    let h = phase-in z state.clock (lane_at state L).redo (lane_at state L).phase a.holds
    (lane-in z state.clock (lane_at state L) (q.lanes L k.lane_below u)).phase in
    record {
      restampable = record {
        image = k.image;
        same_flags = rw e (length-drained_flags L flags ∙ k.same_flags);
        lane_below = k.lane_below;
        first = h.first;
        most = h.most;
        room = omega (arith, clock-room state a.unspent q.clock);
      };
      logged = h;
    }

-- ---- a record read from words has all lanes
pub lane-read : (ws : List ℕ) (L : ℕ) → L < max_lanes → L < length (record_of ws).lanes
lane-read ws L h = rw (lanes-read ws) h

-- ---- pairs written
pair-snoc : (ps : List Pair) (p : Pair) → pair_stores (ps ++ (p ∷ [])) ≡ pair_stores ps ++ (record { at = 1 + p.word; value = p.value } ∷ [])
unfolding pair_stores
pair-snoc [] p = refl
pair-snoc (q ∷ ps) p = ap (λ (l : List Store). record { at = 1 + q.word; value = q.value } ∷ l) (pair-snoc ps p)

-- i pairs written and flushed by lane L
pub record Written (L : ℕ) (pairs : List Pair) (cache₀ flags₀ : List ℕ) (i : ℕ) (cache flags : List ℕ) : Type 0 where
  pub long : length cache ≡ length cache₀
  pub broad : length flags ≡ length flags₀
  pub written : cache ≡ stored (pair_stores (take i pairs)) cache₀
  pub flushed : flags ≡ flush_all L (places (pair_stores (take i pairs))) flags₀

pub written_none : (L : ℕ) (pairs : List Pair) (cache flags : List ℕ) → Written L pairs cache flags 0 cache flags
unfolding pair_stores stored places flush_all
written_none L pairs cache flags = record { long = refl; broad = refl; written = refl; flushed = refl }

module _ (L : ℕ) (pairs : List Pair) (cache₀ flags₀ : List ℕ) (i : ℕ) (cache flags : List ℕ) (w : Written L pairs cache₀ flags₀ i cache flags)
    (h : i < length pairs) where
  last : Store
  last = record { at = 1 + (get_or pairs i no_pair).word; value = (get_or pairs i no_pair).value }

  stores : pair_stores (take (i + 1) pairs) ≡ pair_stores (take i pairs) ++ (last ∷ [])
  unfolding last
  stores = rw (add-one i, take-suc pairs i no_pair h) (pair-snoc (take i pairs) (get_or pairs i no_pair))

  pub written-more : (flags' : List ℕ) (p : Pair) → p ≡ get_or pairs i no_pair → flags' ≡ set flags (1 + p.word) (flush L (get_or flags (1 + p.word) 0))
      → Written L pairs cache₀ flags₀ (i + 1) (set cache (1 + p.word) p.value) flags'
  unfolding last places
  written-more flags' p e f =
      record {
        long = simp length-set w.long;
        broad = rw f (simp length-set w.broad);
        written = rw (stores, stored-snoc (pair_stores (take i pairs)) last cache₀, ← w.written, e);
        flushed = f ∙ rw (
          stores,
          places-append (pair_stores (take i pairs)) (last ∷ []),
          flush_all-snoc L (places (pair_stores (take i pairs))) last.at flags₀,
          ← w.flushed,
          e,
        );
      }

-- a pair is of a word inside the image
pub pair_inside : (z : Sizes) (pairs : List Pair) (n : ℕ) → pairs_ok z.words pairs ≡ true → former_length z ≤ n → (i : ℕ) → i < length pairs
    → 1 + (get_or pairs i no_pair).word < n
unfolding former_length
pair_inside z pairs n h e i l = omega (arith, pair-below z.words pairs (length pairs) i (rw take-length h) l (omega arith))

-- ---- a commit
-- a word past the data words keeps its value when pairs are written
past-data : (W : ℕ) (ps : List Pair) (image : List ℕ) (i : ℕ) → pairs_ok W ps ≡ true → W < i → get_or (stored (pair_stores ps) image) i 0 ≡ get_or image i 0
unfolding pairs_ok pair_stores stored
past-data W [] image i h k = refl
past-data W (p ∷ ps) image i h k =
    past-data W ps (set image (1 + p.word) p.value) i (and_right (ltb p.word W) _ h) k
    ∙ get_or-set_other image (1 + p.word) i p.value 0 (λ e. omega (arith, ltb-true p.word W (and_left _ (pairs_ok W ps) h)))

-- the slot of the timestamp is one of the log, and its words are inside the image, also when pairs have been written
module _ (z : Sizes) (cache flags : List ℕ) (L : ℕ) (g : Logged) (s start slot : ℕ) (k : Restampable z cache flags L g s) (at : start ≡ log_start z L)
    (in-slot : slot ≡ circular z.slots (g.first + g.count)) where
  slot-low : slot < z.slots
  slot-low = rw in-slot (circular-low z.slots _ (omega (arith, (sizes-in z k.image.sizes-ok).slots-low, k.first, k.most)))

  inside : start + 2 * slot + 1 < length cache
  inside = omega (arith, at, log-fits z L k.lane_below, k.image.in_image, slot-low)

  pub restamp-inside : (ps : List Pair) (cache₁ flags₁ : List ℕ) → cache₁ ≡ stored (pair_stores ps) cache → flags₁ ≡ flush_all L (places (pair_stores ps)) flags
      → (start + 2 * slot + 1 < length cache₁) × (start + 2 * slot + 1 < length flags₁)
  restamp-inside ps cache₁ flags₁ e f = (
    rw (e, length-stored (pair_stores ps) cache) inside,
    rw (f, length-flush_all L (places (pair_stores ps)) flags, k.same_flags) inside,
  )

-- the store of the timestamp reads an address word, which the pairs have left as it was
same-restamp : (z : Sizes) (L slot s : ℕ) (ps : List Pair) (cache : List ℕ) → pairs_ok z.words ps ≡ true
    → restamp_store (log_start z L) slot s (stored (pair_stores ps) cache) ≡ restamp_store (log_start z L) slot s cache
unfolding restamp_store log_start
same-restamp z L slot s ps cache h = rw (past-data z.words ps cache (1 + z.words + 2 * z.slots * L + 2 * slot) h (omega arith))

module _ (z : Sizes) (L : ℕ) (g : Logged) (s : ℕ) (ps : List Pair) (cache cache₁ : List ℕ) (start slot : ℕ) (ok : pairs_ok z.words ps ≡ true)
    (at : start ≡ log_start z L) (in-slot : slot ≡ circular z.slots (g.first + g.count)) (written : cache₁ ≡ stored (pair_stores ps) cache) where
  last-store : Store
  last-store = restamp_store (log_start z L) (circular z.slots (g.first + g.count)) s cache

  restamp : restamp_store start slot s cache₁ ≡ last-store
  unfolding last-store
  restamp = rw (at, in-slot, written) (same-restamp z L (circular z.slots (g.first + g.count)) s ps cache ok)

  pub commit-written : (cache₂ : List ℕ) → cache₂ ≡ stored (restamp_store start slot s cache₁ ∷ []) cache₁ → cache₂ ≡ stored (commit_words z L g s ps cache) cache
  unfolding commit_words last-store
  commit-written cache₂ e = e ∙ rw (restamp, written) (sym (stored-append (pair_stores ps) (last-store ∷ []) cache))

  pub commit-flushed : (flags flags₁ flags₂ : List ℕ) → flags₁ ≡ flush_all L (places (pair_stores ps)) flags
      → flags₂ ≡ flush_all L (places (restamp_store start slot s cache₁ ∷ [])) flags₁ → flags₂ ≡ flush_all L (places (commit_words z L g s ps cache)) flags
  unfolding commit_words last-store
  commit-flushed flags flags₁ flags₂ f e =
      e
      ∙ rw (restamp, f)
      (sym (ap (λ (l : List ℕ). flush_all L l flags) (places-append (pair_stores ps) (last-store ∷ []))
      ∙ flush_all-append L (places (pair_stores ps)) (places (last-store ∷ [])) flags))

-- ---- the record stored
-- the head of a lane that is drained and holds nothing
pub head-released : (r r₂ : Record) (L : ℕ) (q : Option Sequence) (c : Cursor) (before floor : Option ℕ) → c ≡ cursor_of (lane_at r L) → before ≡ (lane_at r L).floor
    → floor ≡ floor_after_drain q before → r₂ ≡ with_lane r L (headed None c floor (lane_at r L)) → r₂ ≡ released_state L q r
unfolding released_state headed idle_lane drained_lane cursor_of
head-released r r₂ L q c before floor f h g e = e ∙ rw (f, g, h)

pub after-commit : (r r₁ r₂ : Record) (L : ℕ) (q : Option Sequence) (s : ℕ) → r₁ ≡ with_clock r s → r₂ ≡ with_last r₁ s → released_state L q r₂ ≡ committed_state L q s r
unfolding committed_state
after-commit r r₁ r₂ L q s e f = rw (f, e)

-- ---- what a call does with the record before the drain is done with the drained one
module _ (z : Sizes) (cache : List ℕ) (L : ℕ) (r : Record) where
  held-drained : (g : Logged) → g ≡ logged_in (lane_at r L).phase → g ≡ logged_in (lane_at (drained_state z cache L r) L).phase
  held-drained g f = f ∙ ap logged_in (sym (drained-keeps z cache L r).phase)

  redo-kept : (redo : List Pair) → redo ≡ (lane_at r L).redo → redo ≡ (lane_at (drained_state z cache L r) L).redo
  redo-kept redo e = e ∙ sym (drained-keeps z cache L r).redo

  clock-kept : (clock : ℕ) → clock ≡ r.clock → clock ≡ (drained_state z cache L r).clock
  clock-kept clock c = c ∙ sym (drained-clock z cache L r)

  last-kept : (last : ℕ) → last ≡ r.last → last ≡ (drained_state z cache L r).last
  last-kept _ c = c ∙ sym (drained-last z cache L r)

module _ (z : Sizes) (cache : List ℕ) (L : ℕ) (r : Record) (q : Option Sequence) (found : q ≡ latest_in z cache L) where
  lane-drained : with_lane r L (drained_lane q (lane_at r L)) ≡ drained_state z cache L r
  unfolding drained_state
  lane-drained = rw found

  module _ (small : L < length r.lanes) where
    drained-released : released_state L q r ≡ with_lane (drained_state z cache L r) L (idle_lane (lane_at (drained_state z cache L r) L))
    unfolding released_state drained_state
    drained-released =
        rw (found, drained-lane z cache L r small)
        (sym (lane-twice r L (drained_lane (latest_in z cache L) (lane_at r L)) (idle_lane (drained_lane (latest_in z cache L) (lane_at r L)))))

    drained-committed : (s : ℕ) → committed_state L q s r
        ≡ with_last (with_lane (with_clock (drained_state z cache L r) s) L (idle_lane (lane_at (drained_state z cache L r) L))) s
    unfolding committed_state released_state with_lane with_clock with_last lane_at
    drained-committed s = ap (λ (d : Record). with_last (with_clock d s) s) drained-released

    -- the machine after a commit
    committed-by : (g : Logged) (clock : ℕ) (ps : List Pair) (pairs nvm flags cache₂ flags₂ : List ℕ) → g ≡ logged_in (lane_at r L).phase → clock ≡ r.clock
        → cache₂ ≡ stored (commit_words z L g (clock + 2) ps cache) cache → flags₂ ≡ flush_all L (places (commit_words z L g (clock + 2) ps cache)) flags
        → machine_of (committed_state L q (clock + 2) r) pairs cache₂ nvm flags₂ ≡ committed z L ps (machine_of (drained_state z cache L r) pairs cache nvm flags)
    unfolding committed changed commit_stores commit_words
    committed-by g clock ps pairs nvm flags cache₂ flags₂ h c e f =
        rw (
          e,
          f,
          drained-committed (clock + 2),
          held-drained z cache L r g h,
          clock-kept z cache L r clock c,
        )

-- ---- writes compared with entries
-- i writes compared, all matching: what is left to compare from this slot on decides
pub record Compared (W N : ℕ) (log : List ℕ) (first : ℕ) (ws : List Write) (i slot : ℕ) : Type 0 where
  pub within : slot < N
  pub rest : entries_match W N log first ws ≡ entries_match W N log slot (drop i ws)

pub compared-none : (W N : ℕ) (log : List ℕ) (first : ℕ) (ws : List Write) → first < N → Compared W N log first ws 0 first
compared-none W N log first ws h = record { within = h; rest = refl }

module _ (W N : ℕ) (log : List ℕ) (first : ℕ) (ws : List Write) (i slot : ℕ) (a : Compared W N log first ws i slot) (h : i < length ws) (w : Write)
    (c : Content) (b : Bool) (e : w ≡ get_or ws i no_write) (f : c ≡ slot_at W log slot) (g : b ≡ entry_matches w c) where
  next-match : entries_match W N log first ws ≡ (b && entries_match W N log (circular N (slot + 1)) (drop (i + 1) ws))
  unfolding entries_match
  next-match = a.rest ∙ rw (drop-cons ws i no_write h, ← e, ← f, ← g, add-one i)

  pub compared-fails : b ≡ false → false ≡ entries_match W N log first ws
  compared-fails d = sym (next-match ∙ rw d)

  pub compared-more : (next : ℕ) → b ≡ true → next ≡ circular N (slot + 1) → Compared W N log first ws (i + 1) next
  compared-more next d q =
      record {
        within = rw q (circular-low N (slot + 1) (let l = a.within in omega arith));
        rest = next-match ∙ rw (d, q);
      }

pub compared-all : (W N : ℕ) (log : List ℕ) (first : ℕ) (ws : List Write) (i slot : ℕ) → Compared W N log first ws i slot → i ≡ length ws
    → true ≡ entries_match W N log first ws
unfolding entries_match
compared-all W N log first ws i slot a e = sym (a.rest ∙ rw (e, drop-length ws))

-- the writes against what the lane holds
module _ (z : Sizes) (L : ℕ) (g : Logged) (ws : List Write) (cache : List ℕ) where
  pub matches-few : (length ws ≡ g.count → ⊥) → false ≡ matches_held z L g ws cache
  unfolding matches_held
  matches-few h = rw (ne_eqb (length ws) g.count h)

  pub matches-log : (part : List ℕ) (b : Bool) → length ws ≡ g.count → part ≡ log_of z L cache → b ≡ entries_match z.words z.slots part g.first ws
      → b ≡ matches_held z L g ws cache
  unfolding matches_held
  matches-log part b h p q = q ∙ rw (eq-eqb (length ws) g.count h, p)

held-matches : (z : Sizes) (L : ℕ) (g : Logged) (ws : List Write) (r : Record) (pairs cache nvm flags : List ℕ) → g ≡ logged_in (lane_at r L).phase
    → matches_held z L g ws cache ≡ matches z L ws (machine_of (drained_state z cache L r) pairs cache nvm flags)
unfolding matches_held matches
held-matches z L g ws r pairs cache nvm flags f = rw (held-drained z cache L r g f)

-- ---- how Redo ends, on a drained lane
pub commit-ready : (z : Sizes) (L : ℕ) (r : Record) (cache flags : List ℕ) (g : Logged) (clock : ℕ) (redo : List Pair) → Committable z r cache flags L
    → g ≡ logged_in (lane_at r L).phase → clock ≡ r.clock → redo ≡ (lane_at r L).redo
    → Restampable z cache flags L g (clock + 2) × ((g.count ≤ max_writes) × (pairs_ok z.words (take g.count redo) ≡ true))
commit-ready z L r cache flags g clock redo k f c e = (rw (f, c) k.restampable, (rw f k.logged.most, rw (f, e) k.logged.pairs))

module _ (z : Sizes) (L : ℕ) (r : Record) (q : Option Sequence) (cache flags : List ℕ) (g : Logged) (last : ℕ) (found : q ≡ latest_in z cache L)
    (f : g ≡ logged_in (lane_at r L).phase) (h : last ≡ r.last) (before pairs nvm ws : List ℕ) where
  stale-is : ltb g.stamp last ≡ is_stale L (machine_of (drained_state z cache L r) pairs cache nvm flags)
  unfolding is_stale
  stale-is = rw (held-drained z cache L r g f, last-kept z cache L r last h)

  pub redo-stale : g.stamp < last → ws ≡ words_of (with_lane r L (drained_lane q (lane_at r L)))
      → kept_by Stale (ws ++ pairs) cache nvm flags ≡ keeps before (redo_drained z L (machine_of (drained_state z cache L r) pairs cache nvm flags))
  unfolding redo_drained said
  redo-stale l e =
      keeps-taken before Stale (drained_state z cache L r) ws pairs cache nvm flags _
      (rw (← stale-is, lt-ltb g.stamp last l)) refl (e ∙ ap words_of (lane-drained z cache L r q found))

  pub redo-commits : L < length r.lanes → last ≤ g.stamp → (clock : ℕ) (redo : List Pair) (cache₂ flags₂ : List ℕ) → clock ≡ r.clock
      → redo ≡ (lane_at r L).redo
      → cache₂ ≡ stored (commit_words z L g (clock + 2) (take g.count redo) cache) cache
      → flags₂ ≡ flush_all L (places (commit_words z L g (clock + 2) (take g.count redo) cache)) flags
      → ws ≡ words_of (committed_state L q (clock + 2) r)
      → kept_by (Committed (clock + 2)) (ws ++ pairs) cache₂ nvm flags₂
      ≡ keeps before (redo_drained z L (machine_of (drained_state z cache L r) pairs cache nvm flags))
  unfolding redo_drained redo_pairs said
  redo-commits small l clock redo cache₂ flags₂ c d e₁ e₂ e =
      keeps-taken before (Committed (clock + 2)) (committed_state L q (clock + 2) r) ws pairs cache₂ nvm flags₂ _
      (ap (λ (m : Machine). record { answer = Committed (clock + 2); machine = m })
      (committed-by z cache L r q found small g clock (take g.count redo) pairs nvm flags cache₂ flags₂ f c e₁ e₂)
      ∙ rw (
        ← stale-is,
        le-ltb g.stamp last l,
        held-drained z cache L r g f,
        redo-kept z cache L r redo d,
        clock-kept z cache L r clock c,
      ))
      refl e

-- ---- how Validate ends, on a drained lane
pairs-low : (W : ℕ) {ws : List Write} → WordsBelow W ws → pairs_ok W (pairs_of (length ws) ws) ≡ true
unfolding pairs_ok pairs_of
pairs-low W none = refl
pairs-low W (more {x = w} h a) = rw (lt-ltb w.word W h) (pairs-low W a)

module _ (z : Sizes) (list : List Write) (k : length list ≤ max_writes) (redo : List Pair) (p : redo ≡ pairs_of max_writes list) where
  first-pairs : take (length list) redo ≡ pairs_of (length list) list
  first-pairs = rw p (pairs-cut (length list) max_writes list k)

  pub validate-pairs : WordsBelow z.words list → pairs_ok z.words (take (length list) redo) ≡ true
  validate-pairs a = rw first-pairs (pairs-low z.words a)

  pub validate-commits : (L : ℕ) (r : Record) (q : Option Sequence) (cache flags : List ℕ) (g : Logged) → q ≡ latest_in z cache L → g ≡ logged_in (lane_at r L).phase
      → (b : Bool) → b ≡ matches_held z L g list cache → (before pairs nvm ws : List ℕ) → L < length r.lanes → b ≡ true
      → (clock : ℕ) (cache₂ flags₂ : List ℕ) → clock ≡ r.clock
      → cache₂ ≡ stored (commit_words z L g (clock + 2) (take (length list) redo) cache) cache
      → flags₂ ≡ flush_all L (places (commit_words z L g (clock + 2) (take (length list) redo) cache)) flags
      → ws ≡ words_of (committed_state L q (clock + 2) r)
      → kept_by (Committed (clock + 2)) (ws ++ pairs) cache₂ nvm flags₂
      ≡ keeps before (validate_drained z L list (machine_of (drained_state z cache L r) pairs cache nvm flags))
  unfolding validate_drained said
  validate-commits L r q cache flags g found f b m before pairs nvm ws small t clock cache₂ flags₂ c e₁ e₂ e =
      keeps-taken before (Committed (clock + 2)) (committed_state L q (clock + 2) r) ws pairs cache₂ nvm flags₂ _
      (ap (λ (m : Machine). record { answer = Committed (clock + 2); machine = m })
      (committed-by z cache L r q found small g clock (take (length list) redo) pairs nvm flags cache₂ flags₂ f c e₁ e₂)
      ∙ rw (← held-matches z L g list r pairs cache nvm flags f, ← m, t, first-pairs, clock-kept z cache L r clock c))
      refl e

pub validate-changed : (z : Sizes) (L : ℕ) (r : Record) (q : Option Sequence) (cache flags : List ℕ) (g : Logged) (list : List Write) → q ≡ latest_in z cache L
    → g ≡ logged_in (lane_at r L).phase → (b : Bool) → b ≡ matches_held z L g list cache → (before pairs nvm ws : List ℕ) → L < length r.lanes → b ≡ false
    → ws ≡ words_of (released_state L q r)
    → kept_by Changed (ws ++ pairs) cache nvm flags ≡ keeps before (validate_drained z L list (machine_of (drained_state z cache L r) pairs cache nvm flags))
unfolding validate_drained released said
validate-changed z L r q cache flags g list found f b m before pairs nvm ws small t e =
    keeps-taken before Changed (released_state L q r) ws pairs cache nvm flags _
    (rw (← held-matches z L g list r pairs cache nvm flags f, ← m, t, drained-released z cache L r q found small)) refl e

-- ---- the drain before: it keeps all that Redo and Validate look at
module _ (z : Sizes) (L : ℕ) (m : Machine) where
  same-stale : is_stale L (drained z L m) ≡ is_stale L m
  unfolding is_stale
  same-stale =
      rw drained-state
      (ap (λ (p : Phase). ltb (logged_in p).stamp (drained_state z m.cache L m.state).last) (drained-keeps z m.cache L m.state).phase
      ∙ ap (ltb (logged_in (lane_at m.state L).phase).stamp) (drained-last z m.cache L m.state))

  same-pairs : redo_pairs L (drained z L m) ≡ redo_pairs L m
  unfolding redo_pairs
  same-pairs =
      rw drained-state
      (ap (λ (p : Phase). take (logged_in p).count (lane_at (drained_state z m.cache L m.state) L).redo) (drained-keeps z m.cache L m.state).phase
      ∙ ap (take (logged_in (lane_at m.state L).phase).count) (drained-keeps z m.cache L m.state).redo)

  same-clock : (drained z L m).state.clock ≡ m.state.clock
  same-clock = rw drained-state (drained-clock z m.cache L m.state)

  same-cache : (drained z L m).cache ≡ m.cache
  unfolding drained
  same-cache = refl

  same-matches : (ws : List Write) → matches z L ws (drained z L m) ≡ matches z L ws m
  unfolding matches
  same-matches ws =
      rw (drained-state, same-cache)
      (ap (λ (p : Phase). eqb (length ws) (logged_in p).count && entries_match z.words z.slots (log_of z L m.cache) (logged_in p).first ws)
      (drained-keeps z m.cache L m.state).phase)

  redo-drained : redo_drained z L (drained z L m)
      ≡ cond (is_stale L m) (record { answer = Stale; machine = drained z L m })
      (record { answer = Committed (m.state.clock + 2); machine = committed z L (redo_pairs L m) (drained z L m) })
  unfolding redo_drained
  redo-drained = rw (same-stale, same-pairs, same-clock)

  validate-drained : (ws : List Write) → validate_drained z L ws (drained z L m)
      ≡ cond (matches z L ws m) (record { answer = Committed (m.state.clock + 2); machine = committed z L (pairs_of (length ws) ws) (drained z L m) })
      (record { answer = Changed; machine = released L (drained z L m) })
  unfolding validate_drained
  validate-drained ws = rw (same-matches ws, same-clock)

-- ---- the calls, where they are refused
module _ (z : Sizes) (L : ℕ) (state cache nvm flags : List ℕ) (number : ℕ) (h : number ≡ 0 → ⊥) where
  pub redo-refuses : number ≡ redo_refusal z L (machine_in state cache nvm flags)
      → kept_by (Refused number) state cache nvm flags ≡ keeps state (redo_step z L (machine_in state cache nvm flags))
  unfolding redo_step
  redo-refuses e = rw (← e) (keeps-refused number state cache nvm flags _ h)

  pub validate-refuses : (t : List ℕ) → number ≡ validate_refusal z L t (machine_in state cache nvm flags)
      → kept_by (Refused number) state cache nvm flags ≡ keeps state (validate_step z L t (machine_in state cache nvm flags))
  unfolding validate_step_by
  validate-refuses t e = rw (← e) (keeps-refused number state cache nvm flags _ h)

-- ---- the calls, where they are not refused
module _ (z : Sizes) (L : ℕ) (r : Record) (pairs cache nvm flags nvm₁ flags₁ : List ℕ) (e : nvm₁ ≡ drained_nvm L flags cache nvm)
    (f : flags₁ ≡ drained_flags L flags) (number : ℕ) where
  pub redo-taken : number ≡ redo_refusal z L (machine_of r pairs cache nvm flags) → number ≡ 0
      → redo_drained z L (machine_of (drained_state z cache L r) pairs cache nvm₁ flags₁) ≡ redo_step z L (machine_of r pairs cache nvm flags)
  unfolding redo_step
  redo-taken n h =
      ap (redo_drained z L) (drained-by z L r pairs cache nvm flags _ nvm₁ flags₁ refl e f) ∙ redo-drained z L (machine_of r pairs cache nvm flags)
      ∙ step-taken number _ (machine_of r pairs cache nvm flags) _ n h

  pub validate-taken : (t : List ℕ) (ws : List Write) → number ≡ validate_refusal z L t (machine_of r pairs cache nvm flags) → number ≡ 0
      → ws ≡ run z.words t (data_of z cache)
      → validate_drained z L ws (machine_of (drained_state z cache L r) pairs cache nvm₁ flags₁) ≡ validate_step z L t (machine_of r pairs cache nvm flags)
  unfolding validate_step_by writes_on
  validate-taken t ws n h w =
      rw w (ap (validate_drained z L (run z.words t (data_of z cache))) (drained-by z L r pairs cache nvm flags _ nvm₁ flags₁ refl e f)
      ∙ validate-drained z L (machine_of r pairs cache nvm flags) (run z.words t (data_of z cache)))
      ∙ step-taken number _ (machine_of r pairs cache nvm flags) _ n h
