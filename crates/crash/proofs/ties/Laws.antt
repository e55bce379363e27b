-- Laws of the ties: the least floor as floors rise, sequences and commits as the history goes on, data words and their flags under each change of
-- memory; and what a call of one lane has to show so that they are kept, `Moving`. Assumes nothing.
use Rattle.std.specs.Prelude.{Option, Some, None}
use mathlib.Core.Path.{◌≡◌, refl, ap, ◌∙◌, sym, subst}
use mathlib.Core.Logic.{◌≢◌, ◌⊎◌, inl, inr}
use mathlib.Core.Bool.{Bool, true, false, cond, ◌||◌}
use mathlib.Core.List.{List, [], ◌∷◌}
use Prim.Native.Nat.{ℕ, zero, suc, ◌+◌, ◌≤◌, ◌<◌, min}
use native.Mathlib.Omega.{arith}
use native.Mathlib.Nat.{le_of_suc-le-suc, zero-lt-suc}
use native.Mathlib.Decide.{ℕ_discrete}
use lib.Dec.{leb, eqb}
use lib.ListN.{length, get_or}
use borrow.Author.Tests.{leb-true, leb-false}
use Rattle.laws.specs.inner.Tests.{split, clash}
use Rattle.laws.specs.inner.Lists.{All, none as nil, more, All-append, All-map}
use Rattle.txn.specs.Txn.{run}
use Rattle.image.specs.Image.{former_length, base_of}
use Rattle.image.specs.Flush.{flushed, written_back}
use Rattle.image.specs.inner.FlushLaws.{flushed-unflush, unflush-other, flushed-flush_all, flush_all-other}
use Rattle.image.specs.inner.FlushLaws.{flush_all-keeps, get_or-written_back, get_or-drained_nvm, get_or-drained_flags}
use Rattle.image.specs.Stores.{Store, stored, places}
use Rattle.image.specs.inner.StoresLaws.{among, last_at-none, get_or-stored}
use Rattle.image.specs.declared.Sizes.{Sizes}
use Rattle.record.specs.Record.{lane_at, lesser}
use Rattle.record.specs.declared.Locked.{Locked}
use Rattle.record.specs.declared.Logged.{Logged}
use Rattle.record.specs.declared.Record.{Record}
use Rattle.store.specs.Machine.{Machine}
use Rattle.store.specs.Calls.{drained, changed}
use Rattle.crash.specs.History.{newest_stamp, Commit, Page, History, blank_page, page_at, words_below, floor_or, least_floor_of, writes_logged}
use Rattle.laws.specs.inner.Members.{In, here, there, In-All, All-In}
use Rattle.crash.proofs.recovery.Data.{olds_of, txn_writes}
use Rattle.crash.proofs.history.Lanes.{PageTo, lane-cases}
use Rattle.crash.proofs.history.Agree.{Holding, Book, all_writes, holder_of}
use Rattle.crash.proofs.history.Onward.{Onward, Earlier, words-onward, writes-held}
use Rattle.recovery.specs.inner.UndoneLaws.{writes}
use Rattle.crash.proofs.lane.Ghost.{Past}
use Rattle.crash.proofs.lane.Seqs.{Seq, Hist, stands, newest-end}
use Rattle.crash.proofs.lane.Newest.{newest_by}
use Rattle.crash.proofs.lane.Written.{RoomFor, newest_in}
use Rattle.crash.proofs.lane.Shape.{Shape, with_nvm}
use Rattle.crash.proofs.lane.Log.{Track}
use Rattle.crash.proofs.lane.Running.{Running, updated, updated-same, updated-other}
use Rattle.crash.proofs.ties.Ties.{TrueOf, Names, Flushes, Backed, LockTies, Ties}

-- ---- floors
-- a timestamp that is one, and not above x
pub record AtMost (t : Option ℕ) (x : ℕ) : Type 0 where
  pub stamp : ℕ
  pub is : t ≡ Some stamp
  pub low : stamp ≤ x

pub not_none : {A : Type 0} {x : ℕ} → AtMost None x → A
not_none a = absurd (let e = a.is in let z : ◌≡◌ {A = ℕ} 0 1 = cc in omega arith)

pub at_most : (s x : ℕ) → AtMost (Some s) x → s ≤ x
at_most s x a = let e = a.is in let d : s ≡ a.stamp = cc in omega (arith, a.low)

pub lesser-cases : (s t : Option ℕ) (x : ℕ) → AtMost (lesser s t) x → (AtMost s x) ⊎ (AtMost t x)
unfolding lesser
lesser-cases None t x a = inr a
lesser-cases (Some s) None x a = inl a
lesser-cases (Some s) (Some t) x a =
    let l : min s t ≤ x = at_most (min s t) x a in
    split (leb s t)
    (λ e. inl (record { stamp = s; is = refl; low = omega (arith, leb-true s t e) }))
    (λ e. inr (record { stamp = t; is = refl; low = omega (arith, leb-false s t e) }))

pub lesser-left : (s t : Option ℕ) (x : ℕ) → AtMost s x → AtMost (lesser s t) x
unfolding lesser
lesser-left None t x a = not_none a
lesser-left (Some s) None x a = a
lesser-left (Some s) (Some t) x a = record { stamp = min s t; is = refl; low = omega (arith, at_most s x a) }

pub lesser-right : (s t : Option ℕ) (x : ℕ) → AtMost t x → AtMost (lesser s t) x
unfolding lesser
lesser-right None t x a = a
lesser-right (Some s) None x a = not_none a
lesser-right (Some s) (Some t) x a = record { stamp = min s t; is = refl; low = omega (arith, at_most t x a) }

-- some page's floor is not above x
pub record LowFloor (ps : List Page) (x : ℕ) : Type 0 where
  pub lane : ℕ
  pub below : lane < length ps
  pub floor : AtMost (get_or ps lane blank_page).floor x

-- then the least is not, and so the other way round
pub least-low : (ps : List Page) (x L : ℕ) → L < length ps → AtMost (get_or ps L blank_page).floor x → AtMost (least_floor_of ps) x
unfolding least_floor_of
least-low [] x L h a = absurd (omega arith)
least-low (p ∷ ps) x zero h a = lesser-left p.floor (least_floor_of ps) x a
least-low (p ∷ ps) x (suc L) h a = lesser-right p.floor (least_floor_of ps) x (least-low ps x L (le_of_suc-le-suc h) a)

pub low-least : (ps : List Page) (x : ℕ) → AtMost (least_floor_of ps) x → LowFloor ps x
unfolding least_floor_of
low-least [] x a = not_none a
low-least (p ∷ ps) x a = go (lesser-cases p.floor (least_floor_of ps) x a) (low-least ps x)
  where
    go : (AtMost p.floor x) ⊎ (AtMost (least_floor_of ps) x) → (AtMost (least_floor_of ps) x → LowFloor ps x) → LowFloor (p ∷ ps) x
    go (inl b) ih = record { lane = 0; below = zero-lt-suc (length ps); floor = b }
    go (inr b) ih =
        let f = ih b in
        record { lane = suc f.lane; below = let k : suc f.lane < suc (length ps) = omega (arith, f.below) in k; floor = f.floor }

-- where no floor comes down to x, the least does not either
pub least-rises : (h k : History) (x : ℕ) → length k.pages ≡ length h.pages → ((M : ℕ) → AtMost (page_at k M).floor x → AtMost (page_at h M).floor x)
    → AtMost (least_floor_of k.pages) x → AtMost (least_floor_of h.pages) x
unfolding page_at
least-rises h k x e f a =
    let l = low-least k.pages x a in
    least-low h.pages x l.lane (omega (arith, l.below)) (f l.lane l.floor)

-- a floor that a new timestamp leaves or sets: below that timestamp it is the old one
pub floor-first : (f : Option ℕ) (s x : ℕ) → x < s → AtMost (floor_or f (Some s)) x → AtMost f x
unfolding floor_or
floor-first None s x l a = absurd (let k = at_most s x a in omega arith)
floor-first (Some f) s x l a = a

-- ---- one lane's ghosts
pub record TrackTo (ts us : ℕ → Track) (L : ℕ) (t : Track) : Type 0 where
  pub here : us L ≡ t
  pub others : (M : ℕ) → M ≢ L → us M ≡ ts M

pub track-to : (L : ℕ) (t : Track) (ts : ℕ → Track) → TrackTo ts (updated L t ts) L t
track-to L t ts = record { here = updated-same L t ts; others = updated-other L t ts }

-- from a first change on
pub track-on : {ts us vs : ℕ → Track} {L : ℕ} {t u : Track} → TrackTo ts us L t → TrackTo ts vs L u → TrackTo us vs L u
track-on a b = record { here = b.here; others = λ M d. b.others M d ∙ sym (a.others M d) }

-- ---- data words in memory
abbrev pub Cells : Sizes → Machine → Type 0
Cells z m = (w : ℕ) → w < z.words → (get_or m.nvm (1 + w) 0 ≡ get_or m.cache (1 + w) 0) ⊎ Flushes z m w

pub word_in : (z : Sizes) (w n : ℕ) → w < z.words → former_length z ≤ n → 1 + w < n
unfolding former_length
word_in z w n h e = omega arith

module _ (z : Sizes) (m : Machine) (s : Shape z m) (c : Cells z m) where
  pub cells-written_back : (i : ℕ) → Cells z (with_nvm m (written_back i m.cache m.nvm))
  cells-written_back i w h =
      rw (get_or-written_back i m.cache m.nvm (1 + w) (word_in z w _ h s.in-nvm))
      (split (eqb i (1 + w)) (λ e. rw e (inl refl)) (λ e. rw e (same (c w h))))
    where
      same : (get_or m.nvm (1 + w) 0 ≡ get_or m.cache (1 + w) 0) ⊎ Flushes z m w
          → (get_or m.nvm (1 + w) 0 ≡ get_or m.cache (1 + w) 0) ⊎ Flushes z (with_nvm m (written_back i m.cache m.nvm)) w
      same (inl e) = inl e
      same (inr f) = inr (record { lane = f.lane; low = f.low; bit = f.bit })

  module _ (L : ℕ) (lane : L < z.lanes) where
    pub cells-drained : Cells z (drained z L m)
    unfolding drained
    cells-drained w h =
        rw (get_or-drained_nvm L m.flags m.cache m.nvm (1 + w) (word_in z w _ h s.in-flags)
        (word_in z w _ h s.in-cache) (word_in z w _ h s.in-nvm))
        (go (flushed L (get_or m.flags (1 + w) 0)) refl (c w h))
      where
        go : (b : Bool) → flushed L (get_or m.flags (1 + w) 0) ≡ b → (get_or m.nvm (1 + w) 0 ≡ get_or m.cache (1 + w) 0) ⊎ Flushes z m w
            → (cond b (get_or m.cache (1 + w) 0) (get_or m.nvm (1 + w) 0) ≡ get_or m.cache (1 + w) 0) ⊎ Flushes z (drained z L m) w
        go true t v = inl refl
        go false t (inl e) = inl e
        go false t (inr f) =
            elim (ℕ_discrete f.lane L) [
              | yes e ↦ clash (flushed L (get_or m.flags (1 + w) 0)) (ap (λ K. flushed K (get_or m.flags (1 + w) 0)) (sym e) ∙ f.bit) t
              | no d ↦ inr (record {
                lane = f.lane;
                low = f.low;
                bit = ap (flushed f.lane) (get_or-drained_flags L m.flags (1 + w)) ∙ unflush-other f.lane L (get_or m.flags (1 + w) 0) d ∙ f.bit;
              })
            ]

    -- cached stores that the lane flushes
    pub cells-changed : (xs : List Store) (r : Record) → Cells z (changed L xs r m)
    unfolding changed
    cells-changed xs r w h =
        split (among (1 + w) (places xs))
        (λ e. inr (record { lane = L; low = lane; bit = flushed-flush_all L (places xs) m.flags (1 + w) (word_in z w _ h s.in-flags) ∙ rw e }))
        (λ e. go (get_or-stored xs m.cache (1 + w) (word_in z w _ h s.in-cache) ∙ last_at-none xs (1 + w) (get_or m.cache (1 + w) 0) e) (c w h))
      where
        go : get_or (stored xs m.cache) (1 + w) 0 ≡ get_or m.cache (1 + w) 0 → (get_or m.nvm (1 + w) 0 ≡ get_or m.cache (1 + w) 0) ⊎ Flushes z m w
            → (get_or m.nvm (1 + w) 0 ≡ get_or (stored xs m.cache) (1 + w) 0) ⊎ Flushes z (changed L xs r m) w
        go e (inl p) = inl (p ∙ sym e)
        go e (inr f) =
            inr (record {
              lane = f.lane;
              low = f.low;
              bit = flush_all-keeps f.lane L (places xs) m.flags (1 + w) (word_in z w _ h s.in-flags) f.bit;
            })

-- ---- flags of data words
module _ (z : Sizes) (m : Machine) (s : Shape z m) (L : ℕ) where
  -- a drain clears the lane's own and leaves the others'
  pub drained-mine : (i : ℕ) → flushed L (get_or (drained z L m).flags i 0) ≡ false
  unfolding drained
  drained-mine i = ap (flushed L) (get_or-drained_flags L m.flags i) ∙ flushed-unflush L (get_or m.flags i 0)

  pub drained-others : (M : ℕ) → M ≢ L → (i : ℕ) → flushed M (get_or (drained z L m).flags i 0) ≡ flushed M (get_or m.flags i 0)
  unfolding drained
  drained-others M d i = ap (flushed M) (get_or-drained_flags L m.flags i) ∙ unflush-other M L (get_or m.flags i 0) d

  -- stores flush for their lane alone
  pub changed-mine : (xs : List Store) (r : Record) (w : ℕ) → w < z.words
      → flushed L (get_or (changed L xs r m).flags (1 + w) 0) ≡ (among (1 + w) (places xs) || flushed L (get_or m.flags (1 + w) 0))
  unfolding changed
  changed-mine xs r w h = flushed-flush_all L (places xs) m.flags (1 + w) (word_in z w _ h s.in-flags)

  pub changed-others : (xs : List Store) (r : Record) (M : ℕ) → M ≢ L → (w : ℕ) → w < z.words
      → flushed M (get_or (changed L xs r m).flags (1 + w) 0) ≡ flushed M (get_or m.flags (1 + w) 0)
  unfolding changed
  changed-others xs r M d w h = flush_all-other M L (places xs) m.flags (1 + w) d (word_in z w _ h s.in-flags)

-- ---- a lane's sequences
-- what is true stays so among more
pub true-more : (W : ℕ) (h : History) (f : Seq) (gs : List Seq) (g : Seq) → TrueOf W h gs g → TrueOf W h (f ∷ gs) g
unfolding TrueOf
true-more W h f gs g t w l x n e = t w l x (λ d i. n d (there i)) e

first-last : (W : ℕ) (h : History) (f g : Seq) (gs : List Seq) → (f.end < g.end → ⊥) → TrueOf W h (f ∷ gs) g → TrueOf W h gs g
unfolding TrueOf
first-last W h f g gs d t w l x n e = t w l x none e
  where
    none : (d' : Seq) → In d' (f ∷ gs) → d'.stamp ≡ g.stamp → d'.end < g.end → writes d'.entries w ≡ false
    none d' here p q = absurd (d q)
    none d' (there i) p q = n d' i p q

-- and where the newest, which is no earlier one, becomes another
pub true-rest : (W N : ℕ) (h : History) {l : List Past} {f : Seq} (c : Seq) (gs : List Seq) → Hist W N l (f ∷ gs)
    → All (TrueOf W h (f ∷ gs)) (f ∷ gs) → All (TrueOf W h (c ∷ gs)) gs
true-rest W N h {l} {f} c gs H a = All-In gs (λ g i. true-more W h c gs g (one g i (In-All a (there i))))
  where
    one : (g : Seq) → In g gs → TrueOf W h (f ∷ gs) g → TrueOf W h gs g
    one g i t = first-last W h f g gs (λ d. omega (arith, newest-end W N H, (stands W N H (there {y = f} i)).below)) t

-- ---- the history goes on
module _ (z : Sizes) (h k : History) {given : ℕ} (o : Onward given h k) where
  -- a sequence that was true stays so
  true-onward : (fs : List Seq) (g : Seq) → g.stamp ≤ h.clock → TrueOf z.words h fs g → TrueOf z.words k fs g
  unfolding TrueOf words_below
  true-onward fs g l f w i x n e = f w i x n e ∙ ap (λ (ws : List ℕ). get_or ws w 0) (sym (words-onward z h k o g.stamp l))

  pub all-onward : {gs : List Seq} → All (λ g. g.stamp ≤ h.clock) gs → All (TrueOf z.words h gs) gs → All (TrueOf z.words k gs) gs
  all-onward {gs} l t = each gs l t
    where
      each : (fs : List Seq) {gs : List Seq} → All (λ g. g.stamp ≤ h.clock) gs → All (TrueOf z.words h fs) gs → All (TrueOf z.words k fs) gs
      each fs nil nil = nil
      each fs (more {x = g} l ls) (more t ts) = more (true-onward fs g l t) (each fs ls ts)

  -- what a lane has logged stays so
  pub logged-onward : (base : ℕ) (m : Machine) (M : ℕ) (x : Logged) → Holding z base h m M x → (page_at k M).held ≡ (page_at h M).held
      → (page_at k M).newest ≡ (page_at h M).newest
      → writes_logged z M k ≡ writes_logged z M h
  logged-onward base m M x v p q =
      writes-held z k M v.txn x.stamp (p ∙ v.held) (q ∙ v.newest)
      ∙ ap (run z.words v.txn) (words-onward z h k o x.stamp v.upto)
      ∙ sym (writes-held z h M v.txn x.stamp v.held v.newest)

  -- no commit comes to a timestamp that was given
  pub apart-onward : (s : ℕ) → s ≤ given → All (λ c. c.stamp ≢ s) h.commits → All (λ c. c.stamp ≢ s) k.commits
  apart-onward s l a = rw o.commits (All-append a (All-map (λ c i e. omega arith) o.over))

  -- a commit that was backed stays so while its sequences stay
  pub backed-onward : (ts us : ℕ → Track) (c : Commit) → c.stamp ≤ h.clock → ((M : ℕ) (g : Seq) → In g (ts M).gs → g.stamp ≡ c.stamp → In g (us M).gs)
      → Backed z h ts c → Backed z k us c
  unfolding Backed words_below
  backed-onward ts us c l stays v w j e =
      let n = v w j (ap (txn_writes z.words w c.txn) (sym (words-onward z h k o c.stamp l)) ∙ e) in
      record { lane = n.lane; low = n.low; by = n.by; among = stays n.lane n.by n.among n.stamp; stamp = n.stamp; named = n.named }

-- the newest timestamp is that of the first
stamp-by : (n s : ℕ) → newest_stamp (newest_by n s) ≡ Some s
unfolding newest_stamp newest_by
stamp-by zero s = refl
stamp-by (suc n) s = refl

pub stamp-first : (g : Seq) {gs : List Seq} (rest : List Seq) → gs ≡ g ∷ rest → newest_stamp (newest_in gs) ≡ Some g.stamp
unfolding newest_in
stamp-first g rest e = rw e (stamp-by (length g.entries) g.stamp)

-- ---- a call of one lane
-- lane L takes machine m and history h to n and k, and the ghosts from ts to us: what it has to show, the other lanes' part is the same for every call
-- and `due` and `left` are the slots to come before and after it
pub record Moving (z : Sizes) (L : ℕ) (h k : History) (m n : Machine) (ts us : ℕ → Track) (due left : ℕ → ℕ) : Type 0 where
  pub track : Track
  pub tracks : TrackTo ts us L track
  pub page : Page
  pub pages : PageTo h k L page
  pub given : ℕ
  pub onward : Onward given h k
  pub earlier : Earlier z L h given
  pub running : Running z n us
  pub at_base : base_of n.cache ≡ base_of m.cache
  pub phases : (M : ℕ) → M ≢ L → (lane_at n.state M).phase ≡ (lane_at m.state M).phase
  pub newest : page.newest ≡ newest_in track.gs
  pub entries : (x : Logged) → (lane_at n.state L).phase ≡ Some x → (g : Seq) (gs : List Seq) → track.gs ≡ g ∷ gs → g.entries ≡ olds_of (writes_logged z L k)
  pub now : All (TrueOf z.words k track.gs) track.gs
  pub before : All (TrueOf z.words k track.priors) track.priors
  pub open' : (g : Seq) → track.gs ≡ g ∷ track.priors → All (λ c. c.stamp ≢ g.stamp) k.commits
  pub cells : Cells z n
  -- the data words that it has flushed, and that it flushes for no other
  pub own : (w : ℕ) → w < z.words → flushed L (get_or n.flags (1 + w) 0) ≡ true → Names track w
  pub others : (M : ℕ) → M ≢ L → (w : ℕ) → w < z.words → flushed M (get_or n.flags (1 + w) 0) ≡ flushed M (get_or m.flags (1 + w) 0)
  -- its floor comes down to no sequence that was there
  pub floor : (M : ℕ) → M < z.lanes → (g : Seq) → In g (ts M).gs → AtMost page.floor g.stamp → AtMost (page_at h L).floor g.stamp
  -- no other lane has more to come
  pub coming : (M : ℕ) → M ≢ L → left M ≤ due M
  -- the sequences of its commits stay; each sequence that was there keeps room for what is to come, and a new one has it; its new commits are backed
  pub stays : (c : Commit) → In c h.commits → (g : Seq) → In g (ts L).gs → g.stamp ≡ c.stamp → In g track.gs
  pub kept : (g : Seq) → In g track.gs
      → ((In g (ts L).gs) × (AtMost (least_floor_of h.pages) g.stamp → RoomFor z.slots (due L) (ts L).hist g
      → RoomFor z.slots (left L) track.hist g))
      ⊎ (RoomFor z.slots (left L) track.hist g)
  pub fresh : (c : Commit) → In c k.commits → (In c h.commits) ⊎ Backed z k us c
  pub lock : (x : Locked) → n.state.lock ≡ Some x → (f : List ℕ) → k.lock ≡ Some (holder_of x f)
      → LockTies z.slots (us x.lane) (left x.lane) x (all_writes z f k)

-- the timestamps of a lane's sequences were given
module _ (z : Sizes) (base : ℕ) (h : History) (m : Machine) (b : Book z base h m) (t : Ties z base m h) (M : ℕ) (i : M < z.lanes) where
  pub given-now : All (λ g. g.stamp ≤ h.clock) (t.ts M).gs
  given-now = subst (λ (c : ℕ). All (λ g. g.stamp ≤ c) (t.ts M).gs) b.live.clock (t.running.lanes M i).now.upto

  pub given-before : All (λ g. g.stamp ≤ h.clock) (t.ts M).priors
  given-before = subst (λ (c : ℕ). All (λ g. g.stamp ≤ c) (t.ts M).priors) b.live.clock (t.running.lanes M i).before.upto

-- ties with these ghosts and these slots to come
pub record TiesOf (z : Sizes) (base : ℕ) (m : Machine) (h : History) (us : ℕ → Track) (left : ℕ → ℕ) : Type 0 where
  pub ties : Ties z base m h
  pub tracks : ties.ts ≡ us
  pub coming : ties.to_come ≡ left

module _ (z : Sizes) (base L : ℕ) (h k : History) (m n : Machine) (b : Book z base h m)
    (t : Ties z base m h) (us : ℕ → Track) (left : ℕ → ℕ) (v : Moving z L h k m n t.ts us t.to_come left) where
  open-other : (M : ℕ) → M < z.lanes → M ≢ L → (g : Seq) → (t.ts M).gs ≡ g ∷ (t.ts M).priors → All (λ c. c.stamp ≢ g.stamp) k.commits
  open-other M i d g e =
      apart-onward z h k v.onward g.stamp
      (v.earlier.others M g.stamp i d (ap newest_stamp (t.newest M i) ∙ stamp-first g _ e)) (t.open' M i g e)

  floors : (M : ℕ) → M < z.lanes → (g : Seq) → In g (t.ts M).gs → AtMost (least_floor_of k.pages) g.stamp → AtMost (least_floor_of h.pages) g.stamp
  floors M i g j =
      least-rises h k g.stamp v.pages.pages
      (lane-cases (λ N. AtMost (page_at k N).floor g.stamp → AtMost (page_at h N).floor g.stamp) L
      (λ a. v.floor M i g j (rw v.pages.here at a))
      (λ N d a. rw (v.pages.others N d) at a))

  backed-new : (c : Commit) → In c k.commits → Backed z k us c
  backed-new c i = go (v.fresh c i)
    where
      go : (In c h.commits) ⊎ Backed z k us c → Backed z k us c
      go (inl j) =
          backed-onward z h k v.onward t.ts us c (In-All b.upto j)
          (lane-cases (λ M. (g : Seq) → In g (t.ts M).gs → g.stamp ≡ c.stamp → In g (us M).gs) L
          (λ g q e. rw v.tracks.here (v.stays c j g q e))
          (λ M d g q e. rw (v.tracks.others M d) q))
          (t.backed c j)
      go (inr w) = w

  room-old : (M : ℕ) → M < z.lanes → (g : Seq) → In g (t.ts M).gs → AtMost (least_floor_of k.pages) g.stamp
      → (AtMost (least_floor_of h.pages) g.stamp) × RoomFor z.slots (t.to_come M) (t.ts M).hist g
  room-old M i g j a =
      let c = floors M i g j a in
      (c, t.room M i c.stamp c.is g j c.low)

  abbrev Rooms : ℕ → Type 0
  Rooms M = M < z.lanes → (f : ℕ) → least_floor_of k.pages ≡ Some f → (g : Seq) → In g (us M).gs → f ≤ g.stamp → RoomFor z.slots (left M) (us M).hist g

  room-new : (M : ℕ) → Rooms M
  room-new =
      lane-cases Rooms L
      (λ i f e g j l. rw v.tracks.here (own i (record { stamp = f; is = e; low = l }) (v.kept g (rw v.tracks.here at j))))
      (λ M d i f e g j l.
      rw (v.tracks.others M d)
      (less M g (v.coming M d) (room-old M i g (rw (v.tracks.others M d) at j) (record { stamp = f; is = e; low = l })).1))
    where
      less : (M : ℕ) (g : Seq) → left M ≤ t.to_come M → RoomFor z.slots (t.to_come M) (t.ts M).hist g → RoomFor z.slots (left M) (t.ts M).hist g
      less M g l r = omega arith

      own : L < z.lanes → {g : Seq} → AtMost (least_floor_of k.pages) g.stamp
          → ((In g (t.ts L).gs) × (AtMost (least_floor_of h.pages) g.stamp → RoomFor z.slots (t.to_come L) (t.ts L).hist g
          → RoomFor z.slots (left L) v.track.hist g))
          ⊎ (RoomFor z.slots (left L) v.track.hist g)
          → RoomFor z.slots (left L) v.track.hist g
      own i {g} a (inl (j, f)) = let o = room-old L i g j a in f o.0 o.1
      own i a (inr w) = w

  ties-new : Ties z base n k
  ties-new =
      record {
        ts = us;
        running = v.running;
        at_base = v.at_base ∙ t.at_base;
        newest = lane-cases (λ M. M < z.lanes → (page_at k M).newest ≡ newest_in (us M).gs) L
            (λ i. rw (v.pages.here, v.tracks.here) v.newest)
            (λ M d i. rw (v.pages.others M d, v.tracks.others M d) (t.newest M i));
        entries = lane-cases
            (λ M. M < z.lanes → (x : Logged) → (lane_at n.state M).phase ≡ Some x → (g : Seq) (gs : List Seq) → (us M).gs ≡ g ∷ gs
            → g.entries ≡ olds_of (writes_logged z M k)) L
            (λ i x p g gs e. v.entries x p g gs (ap (λ (t : Track). t.gs) (sym v.tracks.here) ∙ e))
            (λ M d i x p g gs e.
            let q : (lane_at m.state M).phase ≡ Some x = sym (v.phases M d) ∙ p in
            let r = v.pages.others M d in
            t.entries M i x q g gs (ap (λ (t : Track). t.gs) (sym (v.tracks.others M d)) ∙ e)
            ∙ ap olds_of
            (sym (logged-onward z h k v.onward base m M x (b.holding M x i q) (ap (λ (p : Page). p.held) r) (ap (λ (p : Page). p.newest) r))));
        now = lane-cases (λ M. M < z.lanes → All (TrueOf z.words k (us M).gs) (us M).gs) L
            (λ i. rw v.tracks.here v.now)
            (λ M d i. rw (v.tracks.others M d) (all-onward z h k v.onward (given-now z base h m b t M i) (t.now M i)));
        before = lane-cases (λ M. M < z.lanes → All (TrueOf z.words k (us M).priors) (us M).priors) L
            (λ i. rw v.tracks.here v.before)
            (λ M d i. rw (v.tracks.others M d) (all-onward z h k v.onward (given-before z base h m b t M i) (t.before M i)));
        open' = lane-cases (λ M. M < z.lanes → (g : Seq) → (us M).gs ≡ g ∷ (us M).priors → All (λ c. c.stamp ≢ g.stamp) k.commits) L
            (λ i g e. v.open' g (rw v.tracks.here at e))
            (λ M d i g e. open-other M i d g (rw (v.tracks.others M d) at e));
        cells = v.cells;
        flags = lane-cases (λ M. M < z.lanes → (w : ℕ) → w < z.words → flushed M (get_or n.flags (1 + w) 0) ≡ true → Names (us M) w) L
            (λ i w l e. rw v.tracks.here (v.own w l e))
            (λ M d i w l e. rw (v.tracks.others M d) (t.flags M i w l (sym (v.others M d w l) ∙ e)));
        backed = backed-new;
        to_come = left;
        room = room-new;
        lock = v.lock;
      }

  pub ties-moved : TiesOf z base n k us left
  unfolding ties-new
  ties-moved = record { ties = ties-new; tracks = refl; coming = refl }
