-- One lane at a cut: its log in non-volatile memory shows the present history or that of the last drain. So all that is found there is of one of the
-- two, the newest that is found is of one of the two and gives nothing below the lane's floor, and the sequences that stand whole are found.
-- Assumes nothing.
use Rattle.std.specs.Prelude.{Option, Some, None}
use mathlib.Core.Path.{◌≡◌, refl, ap, ◌∙◌, sym, subst}
use mathlib.Core.Logic.{◌⊎◌, inl, inr}
use mathlib.Core.List.{List, [], ◌∷◌, ◌++◌}
use Prim.Native.Nat.{ℕ, zero, suc, ◌≤◌, ◌<◌}
use native.Mathlib.Omega.{arith}
use native.Mathlib.Nat.{le_refl}
use lib.ListN.{length, set, length-set}
use Rattle.laws.specs.inner.Lists.{All}
use Rattle.image.specs.Image.{base_of, log_of}
use Rattle.image.specs.inner.ImageLaws.{InRange}
use Rattle.image.specs.declared.Sizes.{Sizes}
use Rattle.lane_log.specs.Log.{Old, Complete, sequence_of, complete_below, complete_in, latest, latest_in, contribution}
use Rattle.lane_log.specs.inner.LatestLaws.{latest-greatest, latest-none}
use Rattle.lane_log.specs.declared.Sequence.{Sequence}
use Rattle.record.specs.Record.{lane_at}
use Rattle.store.specs.Machine.{Machine}
use Rattle.crash.specs.History.{Newest, unset, closing_at, mark_at, floor_or}
use Rattle.crash.specs.Theorem.{NotBelow, no_boundary, at_least}
use Rattle.laws.specs.inner.Members.{In, here, there, in-cases, In-All}
use Rattle.crash.proofs.lane.Ghost.{Past, sta}
use Rattle.crash.proofs.lane.Seqs.{Seq, Hist, Since, level, grown, sealed, next, restamped, past_of, length-new, stands, newest-end}
use Rattle.crash.proofs.lane.Memory.{mix-log}
use Rattle.crash.proofs.lane.View.{View, present, former, view}
use Rattle.crash.proofs.lane.Shown.{Shown, Listed, shown-found, shown-there}
use Rattle.crash.proofs.lane.Newest.{newest_by, newest_of, giving, closing-by, contribution-is}
use Rattle.crash.proofs.lane.Written.{Under, below, Falls, onto, falls-kind, Written, Whole, found_as}
use Rattle.crash.proofs.lane.Written as written
use Rattle.crash.proofs.lane.Written.{newest_in, newest-whole, latest-unset, shown-nothing, shown-latest}
use Rattle.crash.proofs.lane.Shape.{Shape}
use Rattle.crash.proofs.lane.Log.{Track, LaneLog, floor_since}

-- a log shows the present history or the former, both exact as far as the former goes
pub data CutLog (z : Sizes) (log : List ℕ) (prior hist : List Past) (priors gs : List Seq) : Type 0 where
  now : Shown z log hist gs (length prior) → CutLog z log prior hist priors gs
  before : Shown z log prior priors (length prior) → CutLog z log prior hist priors gs

-- a whole sequence of the present history at a cut: found; found with its logged timestamp, which then is what the lane gives; or just appended
pub data CutFound (N L : ℕ) (qs : List Complete) (priors gs : List Seq) (g : Seq) : Type 0 where
  itself : In (found_as N L g) qs → CutFound N L qs priors gs g
  logged : (s : ℕ) → s < g.stamp → contribution (latest qs) ≡ Some s → In (found_as N L (restamped s g)) qs → CutFound N L qs priors gs g
  unseen : gs ≡ g ∷ priors → CutFound N L qs priors gs g

-- what lane L's log shows at a cut: the history h of the sequences gs, the present one or that of the last drain
pub record CutShows (z : Sizes) (L : ℕ) (qs : List Complete) (t : Track) (h : List Past) (gs : List Seq) : Type 0 where
  pub history : Hist z.words z.slots h gs
  -- all that is found is of it
  pub known : All (Listed z.slots gs) qs
  -- each of its sequences is whole in it, or is of the present history and whole in it where it is whole there
  pub whole : {g : Seq} → In g gs → (Whole z.slots h g) ⊎ ((In g t.gs) × (Whole z.slots t.hist g → Whole z.slots h g))
  -- one that is whole in it is found, unless it is the newest
  pub found : {f g : Seq} → In f gs → In g gs → f.end < g.end → Whole z.slots h f → In (found_as z.slots L f) qs

-- the newest sequence, g, at a cut, where it is no mark, and drained or committed: found with its timestamp or its logged one, which is what the lane gives
pub record CutNewest (N L : ℕ) (qs : List Complete) (g : Seq) : Type 0 where
  pub stamp : ℕ
  pub upto : stamp ≤ g.stamp
  pub found : In (found_as N L (restamped stamp g)) qs
  pub latest : contribution (latest qs) ≡ Some stamp

-- none of falling timestamps is above the first
falls-top : {g : Seq} {gs : List Seq} (f : Seq) → Falls (g ∷ gs) → In f (g ∷ gs) → f.stamp ≤ g.stamp
falls-top f (onto a h) here = le_refl f.stamp
falls-top {g} f (onto a h) (there i) = go (In-All a i)
  where
    go : Under (length g.entries) g.stamp f → f.stamp ≤ g.stamp
    go (below b) = omega arith
    go (written.level e p q) = omega arith

-- a found sequence as one of a history
abbrev as_seq : Complete → ℕ → Seq
as_seq q e = record { entries = q.entries; stamp = q.stamp; end = e }

-- the latest has the timestamp and kind of the sequence that it reads as
reads_as : (qs : List Complete) (r : Sequence) (q : Complete) → latest qs ≡ Some r → sequence_of q ≡ r
    → newest_of (latest qs) ≡ newest_by (length q.entries) q.stamp
unfolding newest_of sequence_of
reads_as qs r q l p = ap newest_of (l ∙ ap Some (sym p))

kind-of : {f g : Seq} → f ≡ g → newest_by (length f.entries) f.stamp ≡ newest_by (length g.entries) g.stamp
kind-of e = ap (λ (x : Seq). newest_by (length x.entries) x.stamp) e

-- of one sequence, that or nothing is found
latest-one : (N : ℕ) (g : Seq) (qs : List Complete) → All (Listed N (g ∷ [])) qs
    → (newest_of (latest qs) ≡ newest_by (length g.entries) g.stamp) ⊎ (newest_of (latest qs) ≡ unset)
unfolding newest_of
latest-one N g qs k = go (latest qs) refl
  where
    fits : (q : Complete) (e : ℕ) → (as_seq q e ≡ g) ⊎ In (as_seq q e) [] → as_seq q e ≡ g
    fits q e (inl p) = p
    fits q e (inr i) = absurd (elim i [ ])

    go : (l : Option Sequence) → latest qs ≡ l → (newest_of (latest qs) ≡ newest_by (length g.entries) g.stamp) ⊎ (newest_of (latest qs) ≡ unset)
    go None e = inr (ap newest_of e)
    go (Some r) e =
        let b = latest-greatest qs r e in
        let n = In-All k b.found in
        inl (reads_as qs r b.by e b.is ∙ kind-of (fits b.by n.end (in-cases n.among)))

-- where the second newest is found, the latest has its timestamp and kind, or those of the newest
latest-two : (N L : ℕ) (g f : Seq) (gs : List Seq) (qs : List Complete) → All (Listed N (g ∷ f ∷ gs)) qs → Falls (f ∷ gs) → In (found_as N L f) qs
    → (newest_of (latest qs) ≡ newest_by (length g.entries) g.stamp) ⊎ (newest_of (latest qs) ≡ newest_by (length f.entries) f.stamp)
unfolding sequence_of
latest-two N L g f gs qs k fl i = go (latest qs) refl
  where
    which : (r : Sequence) → latest qs ≡ Some r → (q : Complete) (e : ℕ) → sequence_of q ≡ r → f.stamp ≤ q.stamp → (as_seq q e ≡ g) ⊎ In (as_seq q e) (f ∷ gs)
        → (newest_of (latest qs) ≡ newest_by (length g.entries) g.stamp) ⊎ (newest_of (latest qs) ≡ newest_by (length f.entries) f.stamp)
    which r l q e p h (inl s) = inl (reads_as qs r q l p ∙ kind-of s)
    which r l q e p h (inr j) = inr (reads_as qs r q l p ∙ falls-kind (as_seq q e) fl j h)

    go : (l : Option Sequence) → latest qs ≡ l
        → (newest_of (latest qs) ≡ newest_by (length g.entries) g.stamp) ⊎ (newest_of (latest qs) ≡ newest_by (length f.entries) f.stamp)
    go None e = absurd (let n : qs ≡ [] = latest-none qs e in elim (subst (In (found_as N L f)) n i) [ ])
    go (Some r) e =
        let b = latest-greatest qs r e in
        let n = In-All k b.found in
        which r e b.by n.end b.is
        (let h : f.stamp ≤ b.by.stamp = rw (sym (ap (λ (s : Sequence). s.stamp) b.is)) at (b.above i) in h) (in-cases n.among)

module _ (z : Sizes) (r : InRange z) (log : List ℕ) (base L : ℕ) where
  abbrev qs : List Complete
  qs = complete_below z.words z.slots base log L z.slots

  -- ---- a history that is shown whole
  shown-newest : (h : List Past) {gs : List Seq} {u : ℕ} → Shown z log h gs u → Falls gs → All (λ g. base < g.stamp) gs → length h ≤ u
      → newest_of (latest qs) ≡ newest_in gs
  unfolding newest_in
  shown-newest h {gs = []} s f a l = ap (λ q. newest_of (latest q)) (shown-nothing z r log h base L s) ∙ latest-unset
  shown-newest h {gs = g ∷ gs} s f a l =
      shown-latest z r log h base L s f (newest-whole z r s.history) (omega (arith, (stands z.words z.slots s.history here).below)) (In-All a here)

  -- where its newest is no mark, the lane gives its timestamp
  shown-gives : (h : List Past) {g : Seq} {gs : List Seq} {u : ℕ} → Shown z log h (g ∷ gs) u → Falls (g ∷ gs) → All (λ g. base < g.stamp) (g ∷ gs)
      → length h ≤ u → 0 < length g.entries → contribution (latest qs) ≡ Some g.stamp
  unfolding newest_in giving
  shown-gives h {g = g} s f a l i =
      contribution-is (latest qs) ∙ ap giving (shown-newest h s f a l ∙ closing-by (length g.entries) g.stamp i)

  newest-there : (h : List Past) {g : Seq} {gs : List Seq} {u : ℕ} → Shown z log h (g ∷ gs) u → base < g.stamp → length h ≤ u → In (found_as z.slots L g) qs
  newest-there h {g = g} s a l =
      shown-there z r.words-high r.slots-low s base L g here
      (newest-whole z r s.history) (omega (arith, (stands z.words z.slots s.history here).below)) a

  -- ---- one that has just grown: the new sequence, or the newest before
  module _ (h : List Past) (es : List Old) (t : ℕ) {gs : List Seq} (H : Hist z.words z.slots h gs)
      (s : Shown z log (h ++ past_of es t) (next h es t ∷ gs) (length h))
      (f : Falls (next h es t ∷ gs)) (a : All (λ g. base < g.stamp) (next h es t ∷ gs)) where
    known : All (Listed z.slots (next h es t ∷ gs)) qs
    known = shown-found z r.words-high r.slots-low s base L

    grown-there : (g : Seq) → In g gs → Whole z.slots (h ++ past_of es t) g → In (found_as z.slots L g) qs
    grown-there g i w =
        shown-there z r.words-high r.slots-low s base L g (there i) w (stands z.words z.slots H i).below (In-All a (there i))

  grown-latest : (h : List Past) (es : List Old) (t : ℕ) {gs : List Seq} → Hist z.words z.slots h gs
      → Shown z log (h ++ past_of es t) (next h es t ∷ gs) (length h) → Falls (next h es t ∷ gs) → All (λ g. base < g.stamp) (next h es t ∷ gs)
      → (newest_of (latest qs) ≡ newest_by (length es) t) ⊎ (newest_of (latest qs) ≡ newest_in gs)
  unfolding newest_in
  grown-latest h es t {gs = []} H s f a = latest-one z.slots (next h es t) qs (known h es t H s f a)
  grown-latest h es t {gs = g ∷ gs} H s (onto b f) a =
      let k = known h es t H s (onto b f) a in
      let n = stands z.words z.slots H here in
      let few = (stands z.words z.slots s.history here).ok.few in
      latest-two z.slots L (next h es t) g gs qs k f
      (grown-there h es t H s (onto b f) a g here (omega (arith, length-new h es t, newest-end z.words z.slots H, n.ok.few, few, r.slots-low)))

  -- ---- at a cut
  module _ (clock : ℕ) (cached was : List ℕ) where
    cut-latest : {prior hist : List Past} {priors gs : List Seq} → Since prior hist priors gs → Written z base clock cached hist gs
        → Written z base clock was prior priors
        → CutLog z log prior hist priors gs → (newest_of (latest qs) ≡ newest_in gs) ⊎ (newest_of (latest qs) ≡ newest_in priors)
    unfolding newest_in
    cut-latest {prior = prior} c n b (before s) = inr (shown-newest prior s b.falls b.above (le_refl (length prior)))
    cut-latest (level {h = h}) n b (now s) = inl (shown-newest h s n.falls n.above (le_refl (length h)))
    cut-latest (grown {h = h} es t) n b (now s) = grown-latest h es t b.history s n.falls n.above
    cut-latest (sealed {h = h} g c up some) n b (now s) =
        inl (shown-newest (set h g.end (sta (length g.entries) c)) s n.falls
        n.above (omega (arith, length-set h g.end (sta (length g.entries) c))))

    -- a whole sequence that is shown exactly
    exact-there : (h : List Past) {gs : List Seq} {u : ℕ}
        → Shown z log h gs u → All (λ g. base < g.stamp) gs → {g : Seq} → In g gs → Whole z.slots h g → g.end < u
        → In (found_as z.slots L g) qs
    exact-there h s a {g} i w l = shown-there z r.words-high r.slots-low s base L g i w l (In-All a i)

    cut-found : {prior hist : List Past} {priors gs : List Seq} → Since prior hist priors gs → Written z base clock cached hist gs
        → Written z base clock was prior priors
        → CutLog z log prior hist priors gs → {g : Seq} → In g gs → Whole z.slots hist g → CutFound z.slots L qs priors gs g
    unfolding newest_in
    cut-found (level {h = h}) n b (now s) {g} i w = itself (exact-there h s n.above i w (stands z.words z.slots n.history i).below)
    cut-found (level {h = h}) n b (before s) {g} i w = itself (exact-there h s n.above i w (stands z.words z.slots n.history i).below)
    cut-found (grown es t) n b v here w = unseen refl
    cut-found (grown {h = h} es t) n b (now s) {g} (there i) w =
        itself (exact-there (h ++ past_of es t) s n.above (there i) w (stands z.words z.slots b.history i).below)
    cut-found (grown {h = h} es t) n b (before s) {g} (there i) w =
        itself (exact-there h s b.above i (omega (arith, length-new h es t)) (stands z.words z.slots b.history i).below)
    cut-found (sealed {h = h} f c up some) n b (now s) {g} i w =
        itself
        (exact-there (set h f.end (sta (length f.entries) c)) s n.above i w
        (omega (arith, length-set h f.end (sta (length f.entries) c), (stands z.words z.slots n.history i).below)))
    cut-found (sealed {h = h} f c up some) n b (before s) here w =
        logged f.stamp up (shown-gives h s b.falls b.above (le_refl (length h)) some) (newest-there h s (In-All b.above here) (le_refl (length h)))
    cut-found (sealed {h = h} f c up some) n b (before s) {g} (there i) w =
        itself (exact-there h s b.above (there i) (omega (arith, length-set h f.end (sta (length f.entries) c)))
        (stands z.words z.slots b.history (there i)).below)

    -- a sequence that is not the newest was there at the last drain
    cut-end : {prior hist : List Past} {priors gs : List Seq} → Since prior hist priors gs → Hist z.words z.slots hist gs → Hist z.words z.slots prior priors
        → {f g : Seq} → In f gs → In g gs → f.end < g.end → f.end < length prior
    cut-end level n b i j l = (stands z.words z.slots n i).below
    cut-end (grown {h = h} es t) n b here j l = absurd (omega (arith, (stands z.words z.slots n j).below, length-new h es t))
    cut-end (grown es t) n b (there i) j l = (stands z.words z.slots b i).below
    cut-end (sealed {h = h} f c up some) n b i j l =
        omega (arith, (stands z.words z.slots n i).below, length-set h f.end (sta (length f.entries) c))

    -- what stood whole at the last drain
    cut-whole : {prior hist : List Past} {priors gs : List Seq} → Since prior hist priors gs → Hist z.words z.slots prior priors
        → {g : Seq} → In g priors → (Whole z.slots prior g) ⊎ ((In g gs) × (Whole z.slots hist g → Whole z.slots prior g))
    cut-whole level b i = inr (i, λ w. w)
    cut-whole (grown {h = h} es t) b i = inr (there i, λ w. omega (arith, length-new h es t))
    cut-whole (sealed {h = h} f c up some) b here = inl (newest-whole z r b)
    cut-whole (sealed {h = h} f c up some) b (there i) = inr (there i, λ w. omega (arith, length-set h f.end (sta (length f.entries) c)))

    cut-newest : {prior hist : List Past} {priors rest : List Seq} {g : Seq} → Since prior hist priors (g ∷ rest) → Written z base clock cached hist (g ∷ rest)
        → Written z base clock was prior priors → CutLog z log prior hist priors (g ∷ rest) → length priors ≡ suc (length rest) → 0 < length g.entries
        → CutNewest z.slots L qs g
    cut-newest {g = g} (level {h = h}) n b (now s) e i =
        record {
          stamp = g.stamp;
          upto = le_refl g.stamp;
          found = newest-there h s (In-All n.above here) (le_refl (length h));
          latest = shown-gives h s n.falls n.above (le_refl (length h)) i;
        }
    cut-newest {g = g} (level {h = h}) n b (before s) e i =
        record {
          stamp = g.stamp;
          upto = le_refl g.stamp;
          found = newest-there h s (In-All n.above here) (le_refl (length h));
          latest = shown-gives h s n.falls n.above (le_refl (length h)) i;
        }
    cut-newest (grown es t) n b v e i = absurd (omega arith)
    cut-newest (sealed {h = h} f c up some) n b (now s) e i =
        let k : length (set h f.end (sta (length f.entries) c)) ≤ length h = omega (arith, length-set h f.end (sta (length f.entries) c)) in
        record {
          stamp = c;
          upto = le_refl c;
          found = newest-there (set h f.end (sta (length f.entries) c)) s (In-All n.above here) k;
          latest = shown-gives (set h f.end (sta (length f.entries) c)) s n.falls n.above k i;
        }
    cut-newest (sealed {h = h} f c up some) n b (before s) e i =
        record {
          stamp = f.stamp;
          upto = omega arith;
          found = newest-there h s (In-All b.above here) (le_refl (length h));
          latest = shown-gives h s b.falls b.above (le_refl (length h)) i;
        }

-- ---- the floor
-- what a timestamp t gives is not below the floor that it was appended over, which an earlier s gave, or that it set
above_floor : (n k t s : ℕ) → s ≤ t → NotBelow (floor_or (giving (newest_by k s)) (Some t)) (giving (newest_by n t))
unfolding newest_by giving floor_or
above_floor zero k t s l = no_boundary
above_floor (suc n) zero t s l = at_least (le_refl t)
above_floor (suc n) (suc k) t s l = at_least l

-- a lane's newest gives nothing below a floor that it gives itself, or that was set over it
same-floor : (n : Newest) → NotBelow (giving n) (giving n)
unfolding giving
same-floor unset = no_boundary
same-floor (closing_at s) = at_least (le_refl s)
same-floor (mark_at s) = no_boundary

over-floor : (n : Newest) (t : ℕ) → NotBelow (floor_or (giving n) (Some t)) (giving n)
unfolding giving floor_or
over-floor unset t = no_boundary
over-floor (closing_at s) t = at_least (le_refl s)
over-floor (mark_at s) t = no_boundary

-- and a commit's timestamp is above the logged one
commit-floor : (n s c : ℕ) → s ≤ c → NotBelow (giving (newest_by n s)) (giving (newest_by n c))
unfolding newest_by giving
commit-floor zero s c l = no_boundary
commit-floor (suc n) s c l = at_least l

-- the newest of the present history and that of the last drain give nothing below the floor
pub cut-floor : {prior hist : List Past} {priors gs : List Seq} (σ : Since prior hist priors gs) → Falls gs → (c : Newest)
    → (c ≡ newest_in gs) ⊎ (c ≡ newest_in priors) → NotBelow (floor_since σ) (giving c)
unfolding newest_in floor_since giving floor_or newest_by
cut-floor (level {gs = gs}) f c (inl e) = rw e (same-floor (newest_in gs))
cut-floor (level {gs = gs}) f c (inr e) = rw e (same-floor (newest_in gs))
cut-floor (grown {gs = []} es t) f c (inl e) = rw e (above_floor (length es) zero t t (le_refl t))
cut-floor (grown {gs = []} es t) f c (inr e) = rw e (over-floor unset t)
cut-floor (grown {gs = g ∷ gs} es t) f c (inl e) =
    rw e (above_floor (length es) (length g.entries) t g.stamp (falls-top g f (there here)))
cut-floor (grown {gs = g ∷ gs} es t) f c (inr e) = rw e (over-floor (newest_in (g ∷ gs)) t)
cut-floor (sealed g d up some) f c (inl e) = rw e (commit-floor (length g.entries) g.stamp d (omega arith))
cut-floor (sealed {gs = gs} g d up some) f c (inr e) = rw e (same-floor (newest_in (g ∷ gs)))

-- ---- a lane of a running store
module _ (z : Sizes) (L : ℕ) (m : Machine) (t : Track) (s : Shape z m) (l : LaneLog z L m t) where
  r : InRange z
  r = s.sizes

  -- over the base in non-volatile memory, which is the cached one
  nvm-now : Written z (base_of m.nvm) m.state.clock (log_of z L m.cache) t.hist t.gs
  nvm-now = subst (λ b. Written z b m.state.clock (log_of z L m.cache) t.hist t.gs) (sym s.base) l.now

  nvm-before : Written z (base_of m.nvm) m.state.clock t.was t.prior t.priors
  nvm-before = subst (λ b. Written z b m.state.clock t.was t.prior t.priors) (sym s.base) l.before

  -- what its log shows
  pub lane-cut : CutLog z (log_of z L m.nvm) t.prior t.hist t.priors t.gs
  lane-cut =
      go (view z.slots s.sizes.slots-low (log_of z L m.cache) t.was (log_of z L m.nvm) (mix-log z L l.mem) z.words
      l.since l.before.history l.now.history l.now.window l.before.window)
    where
      go : View z.slots t.prior t.hist (log_of z L m.nvm) → CutLog z (log_of z L m.nvm) t.prior t.hist t.priors t.gs
      go (present v) = now (record { history = l.now.history; shows = v })
      go (former v) = before (record { history = l.before.history; shows = v })

  -- all that is found is of the present history, or all of it is of the former
  pub lane-cut-shows : (CutShows z L (complete_in z m.nvm L) t t.hist t.gs) ⊎ (CutShows z L (complete_in z m.nvm L) t t.prior t.priors)
  unfolding complete_in
  lane-cut-shows = go lane-cut
    where
      qs : List Complete
      qs = complete_below z.words z.slots (base_of m.nvm) (log_of z L m.nvm) L z.slots

      go : CutLog z (log_of z L m.nvm) t.prior t.hist t.priors t.gs
          → (CutShows z L qs t t.hist t.gs) ⊎ (CutShows z L qs t t.prior t.priors)
      go (now v) =
          inl (record {
            history = l.now.history;
            known = shown-found z r.words-high r.slots-low v (base_of m.nvm) L;
            whole = λ i. inr (i, λ w. w);
            found = λ {f} i j e w.
                shown-there z r.words-high r.slots-low v (base_of m.nvm) L f i w
                (cut-end z r (log_of z L m.nvm) (base_of m.nvm) L m.state.clock (log_of z L m.cache) t.was
                l.since l.now.history l.before.history i j e)
                (In-All nvm-now.above i);
          })
      go (before v) =
          inr (record {
            history = l.before.history;
            known = shown-found z r.words-high r.slots-low v (base_of m.nvm) L;
            whole = cut-whole z r (log_of z L m.nvm) (base_of m.nvm) L m.state.clock (log_of z L m.cache) t.was l.since l.before.history;
            found = λ {f} i j e w.
                shown-there z r.words-high r.slots-low v (base_of m.nvm) L f i w (stands z.words z.slots l.before.history i).below
                (In-All nvm-before.above i);
          })

  -- its latest sequence
  pub lane-cut-latest : (newest_of (latest_in z m.nvm L) ≡ newest_in t.gs) ⊎ (newest_of (latest_in z m.nvm L) ≡ newest_in t.priors)
  unfolding latest_in complete_in
  lane-cut-latest =
      cut-latest z r (log_of z L m.nvm) (base_of m.nvm) L m.state.clock (log_of z L m.cache) t.was l.since nvm-now nvm-before lane-cut

  -- what it gives is not below the floor
  pub lane-cut-floor : NotBelow (lane_at m.state L).floor (contribution (latest_in z m.nvm L))
  lane-cut-floor =
      rw (l.floor, contribution-is (latest_in z m.nvm L))
      (cut-floor l.since l.now.falls (newest_of (latest_in z m.nvm L)) lane-cut-latest)

  -- the sequences that are whole in the cached log
  pub lane-cut-found : {g : Seq} → In g t.gs → Whole z.slots t.hist g → CutFound z.slots L (complete_in z m.nvm L) t.priors t.gs g
  unfolding complete_in
  lane-cut-found i w =
      cut-found z r (log_of z L m.nvm) (base_of m.nvm) L m.state.clock (log_of z L m.cache) t.was l.since nvm-now nvm-before lane-cut i w

  -- the newest, unless it is a mark or just appended
  pub lane-cut-newest : {g : Seq} {rest : List Seq} → t.gs ≡ g ∷ rest → length t.priors ≡ length t.gs → 0 < length g.entries
      → CutNewest z.slots L (complete_in z m.nvm L) g
  unfolding complete_in
  lane-cut-newest e k some =
      cut-newest z r (log_of z L m.nvm) (base_of m.nvm) L m.state.clock (log_of z L m.cache)
      t.was (rw e at l.since) (rw e at nvm-now) nvm-before (rw e at lane-cut)
      (k ∙ ap length e) some
