-- The ties are kept where a part of the transaction that holds the lock is logged: it has the lock's timestamp, and old values that are those below the
-- timestamp but for words that an earlier part names. Assumes nothing.
use Rattle.std.specs.Prelude.{Some, None}
use mathlib.Core.Path.{◌≡◌, refl, ap, ◌∙◌, sym, subst}
use mathlib.Core.Logic.{◌≢◌, ◌⊎◌, inl, inr}
use mathlib.Core.Bool.{Bool, true, false, ◌||◌}
use mathlib.Core.List.{List, [], ◌∷◌, ◌++◌}
use Prim.Native.Nat.{ℕ, zero, suc, ◌+◌, ◌-◌, ◌≤◌, ◌<◌}
use native.Mathlib.Omega.{arith}
use native.Mathlib.Nat.{le_trans, le_refl, zero-lt-suc}
use native.Mathlib.Decide.{ℕ_discrete}
use lib.Dec.{eqb}
use lib.ListN.{length, get_or, set, take, drop, length-set}
use lib.Seq.{take-add, get_or-set_same, get_or-set_other}
use Rattle.laws.specs.inner.Tests.{split, clash, or_cases}
use Rattle.laws.specs.inner.Lists.{All, none as nil, more, All-map}
use Rattle.txn.specs.Txn.{max_writes}
use Rattle.txn.specs.inner.TxnLaws.{Chain, chain-nil, chain-cons}
use Rattle.txn.specs.declared.Write.{Write}
use Rattle.image.specs.Image.{base_of, data_of}
use Rattle.image.specs.declared.Sizes.{Sizes}
use Rattle.lane_log.specs.Append.{advance}
use Rattle.record.specs.Record.{lane_at, cursor_of, part_length, appended_lane, with_lane, with_lock}
use Rattle.record.specs.declared.Pair.{Pair}
use Rattle.record.specs.declared.Lane.{Lane}
use Rattle.record.specs.declared.Locked.{Locked}
use Rattle.record.specs.declared.Record.{Record}
use Rattle.store.specs.Machine.{Machine}
use Rattle.store.specs.Calls.{drained, changed}
use Rattle.store.specs.Locks.{part_of, pair_writes}
use Rattle.store.specs.Locks as store
use Rattle.crash.specs.History.{closing_at, newest_stamp, Newest, Page, Commit, History, blank_page, page_at, replay, present, words_below}
use Rattle.crash.specs.History.{floor_or, floor_on_drain, after_drain, part_logged, least_floor_of}
use Rattle.laws.specs.inner.Members.{In, in-cases, here, there, In-All}
use Rattle.recovery.specs.inner.UndoneLaws.{writes}
use Rattle.crash.proofs.recovery.Data.{olds_of, length-olds, chain_first, applied-stays, replay-all}
use Rattle.crash.proofs.induction.Moves.{Known}
use Rattle.crash.proofs.history.Lanes.{LaneTo, lane-to, PageTo, page-drained}
use Rattle.crash.proofs.history.Agree.{all_writes, holder_of, Locking, Book}
use Rattle.crash.proofs.history.Onward.{Onward, earlier-clock, onward-same}
use Rattle.crash.proofs.history.Parts.{part_from, part-some, in-range, its_writes, part_count, part_low, words-held, part-writes}
use Rattle.crash.proofs.history.Books.{not-held}
use Rattle.crash.proofs.history.BooksLock.{txn-in}
use Rattle.crash.proofs.lane.Seqs.{Seq, next, past_of, length-new, stands}
use Rattle.crash.proofs.lane.Newest.{newest_by, closing-by}
use Rattle.crash.proofs.lane.Written.{Under, below, level, Falls, bottom, onto, Stamping, RoomFor, newest_in}
use Rattle.crash.proofs.lane.Log.{Track, idle, levelled, extended}
use Rattle.crash.proofs.lane.Running.{Running, updated, updated-same, running-extends}
use Rattle.crash.proofs.ties.Ties.{TrueOf, PartOf, slots_left, LockTies, Ties}
use Rattle.crash.proofs.ties.Laws.{AtMost, floor-first, TrackTo, track-to, track-on, true-more, all-onward, stamp-first, Moving, ties-moved}
use Rattle.crash.proofs.ties.Append.{was, from, book, drain, level-tracks, given-was, now-was, base-to, cells-to, own-to, others-to}
use Rattle.crash.proofs.ties.Append as append
use Rattle.crash.proofs.ties.Lock.{only, only_here, only-others, locked-as}

-- ---- a lane's sequences and the lock's timestamp
under_low : {n s : ℕ} (f : Seq) → Under n s f → f.stamp ≤ s
under_low f (below l) = omega arith
under_low f (level e p q) = omega arith

-- all are below it where the newest is
all-below : (s : ℕ) {gs : List Seq} → Falls gs → ((r : ℕ) → newest_stamp (newest_in gs) ≡ Some r → r < s) → All (λ g. g.stamp < s) gs
all-below s bottom f = nil
all-below s (onto {g = g} {gs = gs} a h) f =
    let l = f g.stamp (stamp-first g gs refl) in
    more l (All-map (λ d u. let k = under_low d u in omega arith) a)

closing-newest : (n r s : ℕ) → newest_by n r ≡ closing_at s → (r ≡ s) × (0 < n)
unfolding newest_by
closing-newest zero r s e = absurd (let z : ◌≡◌ {A = ℕ} 0 1 = cc in omega arith)
closing-newest (suc n) r s e = (cc, zero-lt-suc n)

-- else they are below it, or have it and close entries too
all_under : (n s : ℕ) {gs : List Seq} → 0 < n → Falls gs → newest_in gs ≡ closing_at s → All (Under n s) gs
unfolding newest_in
all_under n s p bottom e = nil
all_under n s p (onto {g = g} {gs = gs} a h) e =
    let c = closing-newest (length g.entries) g.stamp s e in
    more (level c.0 c.1 p) (All-map (λ d u. go c.0 d u) a)
  where
    go : g.stamp ≡ s → (d : Seq) → Under (length g.entries) g.stamp d → Under n s d
    go q d (below l) = below (omega arith)
    go q d (level e i j) = level (e ∙ q) i p

-- ---- writes
-- each old value that pairs find is the running one
pair-chain : (ps : List Pair) (ws : List ℕ) → Chain ws (pair_writes ps ws)
unfolding pair_writes
pair-chain [] ws = chain-nil
pair-chain (p ∷ ps) ws = chain-cons refl (pair-chain ps (set ws p.word p.value))

or-on : (a b c : Bool) → ((a || b) || c) ≡ (a || (b || c))
or-on true b c = refl
or-on false b c = refl

writes-append : (k l : List Write) (w : ℕ) → writes (olds_of (k ++ l)) w ≡ (writes (olds_of k) w || writes (olds_of l) w)
unfolding writes olds_of
writes-append [] l w = refl
writes-append (v ∷ k) l w = ap (λ b. eqb v.word w || b) (writes-append k l w) ∙ sym (or-on (eqb v.word w) (writes (olds_of k) w) (writes (olds_of l) w))

-- ---- slots to come
slots-part : (k x : Locked) (n : ℕ) → n ≡ part_length k → k.logged ≡ k.written → k.written < k.count → x.count ≡ k.count → x.logged ≡ k.logged + n
    → slots_left k ≡ slots_left x + (n + 1)
unfolding slots_left part_length
slots-part k x n e t l c d = omega arith

-- ---- after the drain of the lane that holds the lock
module _ (z : Sizes) (base : ℕ) (m : Machine) (h : History) (k : Locked) (b : Book z base h m) (t : Ties z base m h) (known : Known z m k.lane)
    (e : m.state.lock ≡ Some k) where
  pub lock-was : (from z base h m b t k.lane known).state.lock ≡ Some k
  unfolding drained with_lane
  lock-was = e

  pub ties-lock : LockTies z.slots (levelled z k.lane m (t.ts k.lane)) ((drain z base h m b t k.lane known).ties.to_come k.lane) k
      (its_writes z base h m b k e)
  unfolding after_drain all_writes present words_below
  ties-lock =
      let d = (drain z base h m b t k.lane known).ties in
      let v = b.locking k e in
      subst (λ (u : Track). LockTies z.slots u (d.to_come k.lane) k (its_writes z base h m b k e)) (level-tracks z base h m b t k.lane known).here
      (d.lock k lock-was v.txn v.holder)

-- ---- a part is logged
module _ (z : Sizes) (base : ℕ) (m : Machine) (h : History) (k : Locked) (b : Book z base h m) (t : Ties z base m h) (known : Known z m k.lane)
    (e : m.state.lock ≡ Some k) (all-written : k.logged ≡ k.written) where
  abbrev L : ℕ
  L = k.lane

  abbrev s : ℕ
  s = k.stamp

  abbrev it : Locking z base h m k
  it = b.locking k e

  abbrev its : List Write
  its = its_writes z base h m b k e

  abbrev h₁ : History
  h₁ = was z base h m b t L known

  abbrev m₁ : Machine
  m₁ = from z base h m b t L known

  abbrev b₁ : Book z base h₁ m₁
  b₁ = book z base h m b t L known

  abbrev t₁ : Ties z base m₁ h₁
  t₁ = (drain z base h m b t L known).ties

  abbrev lt : TrackTo t.ts t₁.ts L (levelled z L m (t.ts L))
  lt = level-tracks z base h m b t L known

  abbrev it₁ : Locking z base h₁ m₁ k
  it₁ = b₁.locking k (lock-was z base m h k b t known e)

  abbrev its-lock : LockTies z.slots (levelled z L m (t.ts L)) (t₁.to_come L) k its
  its-lock = ties-lock z base m h k b t known e

  -- ---- the part
  abbrev ws : List Write
  ws = pair_writes (part_of k m.pairs) (data_of z m.cache)

  same-part : ws ≡ part_from k its
  same-part = part-writes z base h m b k e

  count-part : length ws ≡ part_length k
  count-part = ap length same-part ∙ part_count z base h m b k e

  some-part : 0 < length ws
  some-part = rw count-part (part-some k (in-range z base h m b k e).left)

  few-part : length ws ≤ max_writes
  unfolding part_length
  few-part = let e = count-part in omega arith

  low_part : All (λ w. w.word < z.words) ws
  low_part = rw same-part (part_low z base h m b k e)

  abbrev held : Locked
  held = record { lane = L; stamp = s; count = k.count; logged = k.logged + length ws; written = k.written }

  abbrev its-lane : Lane
  its-lane =
      let l = lane_at m₁.state L in
      appended_lane s (advance z.slots (length ws + 1) (cursor_of l)) None l.redo l

  abbrev r : Record
  r = with_lane (with_lock m₁.state (Some held)) L its-lane

  lanes : LaneTo m₁.state r L its-lane
  unfolding with_lock lane_at
  lanes =
      let a = lane-to (with_lock m₁.state (Some held)) L its-lane (le_trans known.lane b₁.lanes) in
      record { here = a.here; others = a.others; lanes = a.lanes }

  abbrev to : Machine
  to = append.to z base h m b t L known ws s r

  abbrev new : History
  new = part_logged (holder_of k it.txn) h₁

  abbrev g : Seq
  g = next (t.ts L).hist (olds_of ws) s

  abbrev track : Track
  track = extended z L m ws s (t.ts L)

  abbrev us : ℕ → Track
  us = updated L track t.ts

  abbrev left : ℕ → ℕ
  left = only L (t₁.to_come L - (length ws + 1))

  -- ---- timestamps
  clock-s : m.state.clock ≡ s
  clock-s = b.live.clock ∙ it.clock

  under : All (Under (length (olds_of ws)) s) (t.ts L).gs
  under =
      elim (ℕ_discrete k.logged 0) [
        | yes q ↦ All-map (λ d l. below l)
            (all-below s (t.running.lanes L known.lane).now.falls (λ r p. it.mine q r (ap newest_stamp (t.newest L known.lane) ∙ p)))
        | no d ↦ all_under (length (olds_of ws)) s (omega (arith, length-olds ws, some-part)) (t.running.lanes L known.lane).now.falls
            (sym (t.newest L known.lane) ∙ it.own (omega arith))
      ]

  stamping : Stamping (base_of m.cache) m.state.clock (t.ts L).gs (length (olds_of ws)) s r.clock
  unfolding drained with_lane with_lock
  stamping =
      record {
        even = let c = t.running.shape.clock in let d = clock-s in omega arith;
        above = let c = t.at_base in let l = it.low in omega arith;
        upto = let d = clock-s in omega arith;
        later = le_refl m.state.clock;
        under = under;
      }

  running : Running z to us
  unfolding drained with_lane with_lock
  running =
      running-extends z m t.ts t.running L known.lane ws few-part low_part None (lane_at m₁.state L).redo s r stamping
      t.running.shape.clock lanes idle

  onward : Onward h₁.clock h₁ new
  unfolding part_logged
  onward = onward-same h₁ new refl refl (le_refl h₁.clock) refl

  -- the words below it are those of all commits
  words-at : (w : ℕ) → get_or (present z h) w 0 ≡ get_or (replay z.words (Some s) new.commits new.start) w 0
  unfolding present words_below part_logged after_drain
  words-at w = ap (λ (ws : List ℕ). get_or ws w 0) (sym (replay-all z.words s h.start it.commits))

  -- a word that no earlier part names is as it was before the transaction
  not_yet : (w : ℕ) → ((f : Seq) → In f (g ∷ (t.ts L).gs) → f.stamp ≡ s → f.end < g.end → writes f.entries w ≡ false)
      → writes (olds_of (take k.written its)) w ≡ false
  not_yet w n =
      split (writes (olds_of (take k.written its)) w)
      (λ y.
      let p = its-lock.logged w (ap (λ (i : ℕ). writes (olds_of (take i its)) w) all-written ∙ y) in
      clash (writes p.by.entries w) p.named
      (n p.by (there p.among) p.stamp
      (omega (arith, (stands z.words z.slots (t.running.lanes L known.lane).now.history p.among).below))))
      (λ y. y)

  true-part : TrueOf z.words new (g ∷ (t.ts L).gs) g
  unfolding TrueOf
  true-part w i x n y =
      chain_first w x (pair-chain (part_of k m.pairs) (data_of z m.cache)) y
      ∙ ap (λ (ws : List ℕ). get_or ws w 0) (words-held z base h m b k e)
      ∙ applied-stays w (present z h) (take k.written its) (not_yet w n)
      ∙ words-at w

  old-now : All (TrueOf z.words new (t.ts L).gs) (t.ts L).gs
  old-now = all-onward z h₁ new onward (given-was z base h m b t L known) (now-was z base h m b t L known)

  no-commit : (c : ℕ) → c ≡ s → All (λ d. d.stamp ≢ c) new.commits
  unfolding part_logged after_drain
  no-commit c q = All-map (λ d l f. omega arith) it.commits

  newest-to : closing_at s ≡ newest_in (g ∷ (t.ts L).gs)
  unfolding newest_in
  newest-to = sym (closing-by (length (olds_of ws)) s (omega (arith, length-olds ws, some-part)))

  -- ---- floors
  abbrev page : Page
  page = let p = page_at h₁ L in record { held = p.held; newest = closing_at s; floor = floor_or p.floor (Some s) }

  pages : PageTo h₁ new L page
  unfolding part_logged holder_of page_at
  pages =
      let i : L < length h₁.pages = rw b₁.pages known.lane in
      record {
        here = get_or-set_same h₁.pages L _ blank_page i;
        others = λ M d. get_or-set_other h₁.pages L M _ blank_page d;
        pages = length-set h₁.pages L _;
      }

  -- once a part is logged the lane has a floor
  floor-some : 0 < k.logged → (page_at h₁ L).floor ≡ Some s
  unfolding floor_on_drain
  floor-some l =
      ap (λ (p : Page). p.floor) (page-drained L h (rw b.pages known.lane)).here
      ∙ ap (λ (n : Newest). floor_on_drain n (page_at h L).floor) (it.own l)

  -- until then all sequences are below its timestamp
  all-earlier : k.logged ≡ 0 → (M : ℕ) → M < z.lanes → All (λ f. f.stamp < s) (t₁.ts M).gs
  all-earlier q M i =
      all-below s (t₁.running.lanes M i).now.falls
      (λ r p. elim (ℕ_discrete M L) [
        | yes d ↦ it₁.mine q r (ap (λ (N : ℕ). newest_stamp (page_at h₁ N).newest) (sym d) ∙ ap newest_stamp (t₁.newest M i) ∙ p)
        | no d ↦ it₁.others M r i d (ap newest_stamp (t₁.newest M i) ∙ p)
      ])

  floor-kept : (M : ℕ) → M < z.lanes → (f : Seq) → In f (t₁.ts M).gs → AtMost (floor_or (page_at h₁ L).floor (Some s)) f.stamp
      → AtMost (page_at h₁ L).floor f.stamp
  unfolding floor_or
  floor-kept M i f j a =
      elim (ℕ_discrete k.logged 0) [
        | yes q ↦ floor-first (page_at h₁ L).floor s f.stamp (In-All (all-earlier q M i) j) a
        | no d ↦ let c = floor-some (omega arith) in rw c (rw c at a)
      ]

  -- ---- room
  enough : length ws + 1 ≤ t₁.to_come L
  enough =
      let e = slots-part k held (length ws) count-part all-written (in-range z base h m b k e).left refl refl in
      let l = its-lock.slots in
      omega arith

  left_here : left L ≡ t₁.to_come L - (length ws + 1)
  left_here = only_here L (t₁.to_come L - (length ws + 1))

  kept : (f : Seq) → (f ≡ g) ⊎ In f (t.ts L).gs
      → ((In f (t₁.ts L).gs) × (AtMost (least_floor_of h₁.pages) f.stamp → RoomFor z.slots (t₁.to_come L) (t₁.ts L).hist f
      → RoomFor z.slots (left L) ((t.ts L).hist ++ past_of (olds_of ws) s) f))
      ⊎ (RoomFor z.slots (left L) ((t.ts L).hist ++ past_of (olds_of ws) s) f)
  kept f (inl q) =
      inr (rw (q, left_here)
      (let n = length-new (t.ts L).hist (olds_of ws) s in let o = length-olds ws in let l = enough in let i = its-lock.few in omega arith))
  kept f (inr j) =
      inl (rw (lt.here, left_here)
      (j, λ a w. let n = length-new (t.ts L).hist (olds_of ws) s in let o = length-olds ws in let l = enough in omega arith))

  -- ---- the lock
  more-logged : take (k.logged + length ws) its ≡ take k.written its ++ ws
  unfolding part_from
  more-logged =
      ap (λ (n : ℕ). take (n + length ws) its) all-written
      ∙ take-add k.written (length ws) its
      ∙ ap (λ (l : List Write). take k.written its ++ l) (ap (λ (n : ℕ). take n (drop k.written its)) count-part ∙ sym same-part)

  lock-part : LockTies z.slots track (left L) held its
  unfolding part_from part_length
  lock-part =
      record {
        logged = λ w y. logged w (or_cases (writes (olds_of (take k.written its)) w) (writes (olds_of ws) w)
            (sym (writes-append (take k.written its) ws w) ∙ ap (λ (l : List Write). writes (olds_of l) w) (sym more-logged) ∙ y));
        written = λ w y. let p = (its-lock.written w y).0 in
            (record { by = p.by; among = there p.among; stamp = p.stamp; named = p.named }, p.among);
        newest = λ l. record { by = g; rest = (t.ts L).gs; newest = refl; entries = ap olds_of same-part };
        slots = rw left_here
            (let e = slots-part k held (length ws) count-part all-written (in-range z base h m b k e).left refl refl in
            let l = its-lock.slots in omega arith);
        few = rw left_here (let l = its-lock.few in omega arith);
      }
    where
      logged : (w : ℕ) → (writes (olds_of (take k.written its)) w ≡ true) ⊎ (writes (olds_of ws) w ≡ true) → PartOf (g ∷ (t.ts L).gs) s w
      logged w (inl y) =
          let p = its-lock.logged w (ap (λ (i : ℕ). writes (olds_of (take i its)) w) all-written ∙ y) in
          record { by = p.by; among = there p.among; stamp = p.stamp; named = p.named }
      logged w (inr y) = record { by = g; among = here; stamp = refl; named = y }

  lock-to : to.state.lock ≡ Some held
  unfolding changed with_lane with_lock
  lock-to = refl

  same-txn : (f : List ℕ) → new.lock ≡ Some (holder_of held f) → f ≡ it.txn
  unfolding part_logged holder_of
  same-txn f q = sym (ap txn-in q)

  same-all : (f : List ℕ) → f ≡ it.txn → its ≡ all_writes z f new
  unfolding all_writes present words_below part_logged after_drain
  same-all f q = ap (λ (f : List ℕ). all_writes z f h) (sym q)

  lock_new : (x : Locked) → to.state.lock ≡ Some x → (f : List ℕ) → new.lock ≡ Some (holder_of x f)
      → LockTies z.slots (us x.lane) (left x.lane) x (all_writes z f new)
  lock_new x y =
      locked-as (λ (x : Locked). (f : List ℕ) → new.lock ≡ Some (holder_of x f) → LockTies z.slots (us x.lane) (left x.lane) x (all_writes z f new))
      (sym lock-to ∙ y)
      (λ f q. rw (sym (same-all f (same-txn f q)), updated-same L track t.ts) lock-part)

  same-commits : (c : Commit) → In c new.commits → In c h₁.commits
  unfolding part_logged
  same-commits c i = i

  moving : Moving z L h₁ new m₁ to t₁.ts us t₁.to_come left
  unfolding changed appended_lane
  moving =
      record {
        track = track;
        tracks = track-on lt (track-to L track t.ts);
        page = page;
        pages = pages;
        given = h₁.clock;
        onward = onward;
        earlier = earlier-clock z base h₁ m₁ b₁ L;
        running = running;
        at_base = base-to z base h m b t L known ws s r;
        phases = λ M d. ap (λ (l : Lane). l.phase) (lanes.others M d);
        newest = newest-to;
        entries = λ x y f gs q. not-held None x refl (ap (λ (l : Lane). l.phase) (sym lanes.here) ∙ y);
        now = more true-part (All-map (λ f i. true-more z.words new g (t.ts L).gs f i) old-now);
        before = old-now;
        open' = λ f q. no-commit f.stamp (let y : f.stamp ≡ s = cc in y);
        cells = cells-to z base h m b t L known ws s r;
        own = λ w i y. clash _ y (own-to z base h m b t L known ws s r w i);
        others = others-to z base h m b t L known ws s r;
        floor = floor-kept;
        coming = λ M d. rw (only-others L (t₁.to_come L - (length ws + 1)) M d) (omega arith);
        stays = λ c i f j y. there (rw lt.here at j);
        kept = λ f j. kept f (in-cases j);
        fresh = λ c i. inl (same-commits c i);
        lock = lock_new;
      }

  ties-parted : Ties z base to new
  ties-parted = (ties-moved z base L h₁ new m₁ to b₁ t₁ us left moving).ties

  pub ties-parts : Ties z base (store.part_logged z k (drained z k.lane m)) (part_logged (holder_of k (b.locking k e).txn) (after_drain k.lane h))
  unfolding store.part_logged drained
  ties-parts = ties-parted
