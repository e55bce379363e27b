-- Inner: how the code goes, need not be believed. Laws of a lane's log: entries back from a timestamp, what a slot closes, what a sequence gives,
-- hits; nothing found depends on the lane. Assumes nothing.
use Prim.Native.Nat.{ℕ, zero, suc, ◌+◌, ◌-◌, ◌*◌, ◌≤◌, ◌<◌}
use Rattle.std.specs.Prelude.{◌≡◌, Bool, true, cond, ◌&&◌, ◌||◌, List, [], ◌∷◌, ◌++◌, map, leb, ltb, get_or, Option, Some, None}
use Rattle.std.proofs.Math.Path.{refl, sym, ap, ap₂}
use Rattle.std.proofs.Common.{◌∙◌, arith, eq-or-lt_of_le, ⊎_elim}
use Rattle.std.proofs.Math.Bool.{false, or_assoc, or-true}
use Rattle.std.proofs.lemmas.List.{map-append}
use Rattle.std.proofs.Math.Dec.{eqb}
use Rattle.std.proofs.Math.ListN.{length, length-append}
use borrow.Author.Tests.{leb-true, leb-false, ltb-true, ltb-false, eqb-true, eq-eqb, ne_eqb, lt-ltb, le-ltb, le-leb, lt-leb}
use Rattle.laws.specs.inner.Tests.{split, clash}
use Rattle.laws.specs.inner.Lists.{All, none, more, All-append, All-cond, All-map}
use Rattle.slot.proofs.SlotLaws.{StampFrom, EntryFrom, stamp-only, entry-only}
use Rattle.slot.specs.declared.Content.{Content}
use Rattle.slot.specs.declared.Content.TheVariants.{Empty, Torn, Entry, Stamp}
use Rattle.image.specs.Image.{base_of, log_of}
use Rattle.image.specs.declared.Sizes.{Sizes}
use Rattle.lane_log.specs.Log.{slot_at, Old, Complete, back, back_wrap, entry_in, entries_back, closes, complete_below, complete_in}
use Rattle.lane_log.specs.Log.{top_wrap, after_wrap, greater_or, undone_before, insert, ordered}
use Rattle.lane_log.specs.Log.{sequence_of, first_of, latest, latest_in, given, ahead, overlaps, hits_from, hits}
use Rattle.lane_log.specs.inner.OrderLaws.{greater-tied, All-ordered, below_at}
use Rattle.lane_log.specs.inner.Search.{is_entry, entry_back}

-- ---- timestamps, and what a sequence gives
pub at_one : {a b : ℕ} → Some a ≡ Some b → a ≡ b
at_one p = cc

-- a mark gives none, any other sequence its timestamp
pub given-none : (n s : ℕ) → n ≡ 0 → given n s ≡ None
unfolding given
given-none n s e = rw (eq-eqb n 0 e)

pub given-some : (n s : ℕ) → 0 < n → given n s ≡ Some s
unfolding given
given-some n s h = rw (ne_eqb n 0 (λ e. omega arith))

-- ---- slots
pub back_low : (N j i : ℕ) → j < N → i ≤ N → back N j i < N
unfolding back
back_low N j i h g = split (leb i j) (λ e. rw e (omega arith)) (λ e. rw e (omega (arith, leb-false i j e)))

-- what a whole timestamp in a slot has
pub stamp-in : (W : ℕ) (log : List ℕ) (j n s p : ℕ) → slot_at W log j ≡ Stamp n s p
    → StampFrom (get_or log (2 * j) 0) (get_or log (2 * j + 1) 0) n s p
unfolding slot_at
stamp-in W log j n s p e = stamp-only W (get_or log (2 * j) 0) (get_or log (2 * j + 1) 0) n s p e

pub entry-in : (W : ℕ) (log : List ℕ) (j i v p : ℕ) → slot_at W log j ≡ Entry i v p
    → EntryFrom W (get_or log (2 * j) 0) (get_or log (2 * j + 1) 0) i v p
unfolding slot_at
entry-in W log j i v p e = entry-only W (get_or log (2 * j) 0) (get_or log (2 * j + 1) 0) i v p e

-- a slot back: the same wrap bit in the same lap, the opposite one before the wrap
module _ (W N : ℕ) (log : List ℕ) (j p i x : ℕ) (c : Content) (r : Bool) (at : x ≡ back N j i) (reads : c ≡ slot_at W log x) where
  pub entry-same : i ≤ j → r ≡ is_entry p c → r ≡ entry_back W N log j p i
  unfolding entry_back back_wrap
  entry-same h e = e ∙ rw (reads, at, le-leb i j h)

  pub entry-wrapped : j < i → r ≡ is_entry (1 - p) c → r ≡ entry_back W N log j p i
  unfolding entry_back back_wrap
  entry-wrapped h e = e ∙ rw (reads, at, lt-leb i j h)

-- the entry there
pub record EntryBack (W N : ℕ) (log : List ℕ) (j p i : ℕ) : Type 0 where
  pub word : ℕ
  pub old : ℕ
  pub reads : slot_at W log (back N j i) ≡ Entry word old (back_wrap p j i)

pub entry-back : (W N : ℕ) (log : List ℕ) (j p i : ℕ) → entry_back W N log j p i ≡ true → EntryBack W N log j p i
unfolding entry_back is_entry
entry-back W N log j p i h = by (slot_at W log (back N j i)) refl h
  where
    by : (c : Content) → slot_at W log (back N j i) ≡ c → is_entry (back_wrap p j i) c ≡ true → EntryBack W N log j p i
    by Empty e h = clash true refl (sym h)
    by Torn e h = clash true refl (sym h)
    by (Entry w v q) e h = record { word = w; old = v; reads = e ∙ ap (Entry w v) (eqb-true q (back_wrap p j i) h) }
    by (Stamp n s q) e h = clash true refl (sym h)

-- ---- the entries before a timestamp
length-entry_in : (q : ℕ) (c : Content) → length (entry_in q c) ≡ cond (is_entry q c) 1 0
unfolding entry_in is_entry
length-entry_in q Empty = refl
length-entry_in q Torn = refl
length-entry_in q (Entry i v p) = split (eqb p q) (λ e. rw e) (λ e. rw e)
length-entry_in q (Stamp n s p) = refl

entry_in-words : (W : ℕ) (log : List ℕ) (j q : ℕ) (c : Content) → slot_at W log j ≡ c → All (λ (o : Old). o.word < W) (entry_in q c)
unfolding entry_in
entry_in-words W log j q Empty e = none
entry_in-words W log j q Torn e = none
entry_in-words W log j q (Entry i v p) e = All-cond (eqb p q) (more (entry-in W log j i v p e).word none) none
entry_in-words W log j q (Stamp n s p) e = none

module _ (W N : ℕ) (log : List ℕ) (j p : ℕ) where
  back-suc : (n : ℕ) → length (entries_back W N log j p (suc n)) ≡ cond (entry_back W N log j p (suc n)) 1 0 + length (entries_back W N log j p n)
  unfolding entries_back entry_back
  back-suc n =
      length-append (entry_in (back_wrap p j (suc n)) (slot_at W log (back N j (suc n)))) (entries_back W N log j p n)
      ∙ ap (λ (k : ℕ). k + length (entries_back W N log j p n)) (length-entry_in (back_wrap p j (suc n)) (slot_at W log (back N j (suc n))))

  pub back_none : length (entries_back W N log j p 0) ≡ 0
  unfolding entries_back
  back_none = refl

  pub back-le : (n : ℕ) → length (entries_back W N log j p n) ≤ n
  back-le zero = rw back_none (omega arith)
  back-le (suc n) =
      rw (back-suc n)
      (split (entry_back W N log j p (suc n)) (λ e. rw e (omega (arith, back-le n))) (λ e. rw e (omega (arith, back-le n))))

  -- one entry more
  pub back_more : (n : ℕ) → length (entries_back W N log j p n) ≡ n → entry_back W N log j p (n + 1) ≡ true → length (entries_back W N log j p (n + 1)) ≡ n + 1
  back_more n e h =
      let s : n + 1 ≡ suc n = omega arith in
      rw s (let g : entry_back W N log j p (suc n) ≡ true = rw s at h in back-suc n ∙ rw g (omega arith))

  -- one bad slot is enough
  pub back-bad : (i n : ℕ) → i < n → entry_back W N log j p (i + 1) ≡ false → length (entries_back W N log j p n) < n
  back-bad i zero h e = absurd (omega arith)
  back-bad i (suc n) h e =
      ⊎_elim
      (λ (d : i ≡ n).
      let s : i + 1 ≡ suc n = omega arith in
      let g : entry_back W N log j p (suc n) ≡ false = rw s at e in
      rw (back-suc n, g) (omega (arith, back-le n)))
      (λ (d : i < n).
      rw (back-suc n)
      (split (entry_back W N log j p (suc n)) (λ t. rw t (omega (arith, back-bad i n d e))) (λ t. rw t (omega (arith, back-bad i n d e)))))
      (eq-or-lt_of_le {n = i} {m = n} (omega arith))

  -- where all are whole, each is
  pub back_whole : (i n : ℕ) → length (entries_back W N log j p n) ≡ n → i < n → entry_back W N log j p (i + 1) ≡ true
  back_whole i n e h = split (entry_back W N log j p (i + 1)) (λ t. t) (λ t. absurd (omega (arith, back-bad i n h t)))

  -- and it stands before those after it
  pub back-cons : (n : ℕ) (b : EntryBack W N log j p (suc n))
      → entries_back W N log j p (suc n) ≡ record { word = b.word; old = b.old } ∷ entries_back W N log j p n
  unfolding entries_back entry_in
  back-cons n b = rw (b.reads, eq-eqb (back_wrap p j (suc n)) (back_wrap p j (suc n)) refl)

  -- every entry names a word of the image
  pub back-words : (n : ℕ) → All (λ (o : Old). o.word < W) (entries_back W N log j p n)
  unfolding entries_back
  back-words zero = none
  back-words (suc n) = All-append (entry_in-words W log (back N j (suc n)) (back_wrap p j (suc n)) (slot_at W log (back N j (suc n))) refl) (back-words n)

-- ---- the sequence that a slot closes
module _ (W N base : ℕ) (log : List ℕ) (L j : ℕ) {c : Content} {n s p : ℕ} (e : c ≡ Stamp n s p) where
  pub closes-low : s ≤ base → closes W N base log L j c ≡ []
  unfolding closes
  closes-low h = rw (e, le-ltb base s h)

  pub closes-short : length (entries_back W N log j p n) < n → closes W N base log L j c ≡ []
  unfolding closes
  closes-short h =
      let d : eqb (length (entries_back W N log j p n)) n ≡ false = ne_eqb (length (entries_back W N log j p n)) n (λ e. omega arith) in
      rw e (split (ltb base s) (λ t. rw (t, d)) (λ t. rw t))

  pub closes-all : base < s → length (entries_back W N log j p n) ≡ n
      → closes W N base log L j c ≡ record { stamp = s; lane = L; slot = j; wrap = p; entries = entries_back W N log j p n } ∷ []
  unfolding closes
  closes-all h g = rw (e, lt-ltb base s h, eq-eqb (length (entries_back W N log j p n)) n g)

-- ---- hits
pub hits-append : (N k m b : ℕ) (xs ys : List Complete) → hits_from N k m b (xs ++ ys) ≡ (hits_from N k m b xs || hits_from N k m b ys)
unfolding hits_from
hits-append N k m b [] ys = refl
hits-append N k m b (q ∷ xs) ys =
    ap (λ (t : Bool). (leb b q.stamp && overlaps N k m q.slot (length q.entries)) || t) (hits-append N k m b xs ys)
    ∙ sym (or_assoc (leb b q.stamp && overlaps N k m q.slot (length q.entries)) (hits_from N k m b xs) (hits_from N k m b ys))

-- i slots back from slot j, up to slot k
ahead-back : (N k j i : ℕ) → k < N → j < N → i ≤ ahead N k j → ahead N k (back N j i) ≡ ahead N k j - i
unfolding ahead back
ahead-back N k j i h g l = by (leb k j) refl (leb i j) refl l
  where
    by : (a : Bool) → leb k j ≡ a → (b : Bool) → leb i j ≡ b → i ≤ cond a (j - k) (j + N - k)
        → cond (leb k (cond b (j - i) (j + N - i))) (cond b (j - i) (j + N - i) - k) (cond b (j - i) (j + N - i) + N - k) ≡ cond a (j - k) (j + N - k) - i
    by true e true d l = rw (le-leb k (j - i) (omega (arith, leb-true k j e))) (omega (arith, leb-true k j e))
    by true e false d l = absurd (omega (arith, leb-true k j e, leb-false i j d))
    by false e true d l = rw (lt-leb k (j - i) (omega (arith, leb-false k j e))) (omega (arith, leb-false k j e, leb-true i j d))
    by false e false d l = rw (le-leb k (j + N - i) (omega (arith, leb-false k j e))) (omega (arith, leb-false k j e, leb-false i j d))

-- slot j and the n slots before it meet the m slots from slot k on exactly if slot j is fewer than m + n slots ahead of slot k
pub overlaps-ahead : (N k m j n : ℕ) → k < N → j < N → 1 ≤ m → overlaps N k m j n ≡ ltb (ahead N k j) (m + n)
unfolding overlaps
overlaps-ahead N k m j zero h g l = ap (ltb (ahead N k j)) (let e : m ≡ m + 0 = omega arith in e)
overlaps-ahead N k m j (suc n) h g l =
    rw (overlaps-ahead N k m j n h g l)
    (split (leb (suc n) (ahead N k j))
    (λ e. rw (ahead-back N k j (suc n) h g (leb-true (suc n) (ahead N k j) e)) (far (ahead N k j) (leb-true (suc n) (ahead N k j) e)))
    (λ e. near (ahead N k j) (ltb (ahead N k (back N j (suc n))) m) (leb-false (suc n) (ahead N k j) e)))
  where
    far : (a : ℕ) → suc n ≤ a → (ltb (a - suc n) m || ltb a (m + n)) ≡ ltb a (m + suc n)
    far a p =
        split (ltb (a - suc n) m)
        (λ e. rw (e, lt-ltb a (m + suc n) (omega (arith, ltb-true (a - suc n) m e))))
        (λ e. rw (e, le-ltb a (m + n) (omega (arith, ltb-false (a - suc n) m e)), le-ltb a (m + suc n) (omega (arith, ltb-false (a - suc n) m e))))

    near : (a : ℕ) (t : Bool) → a < suc n → (t || ltb a (m + n)) ≡ ltb a (m + suc n)
    near a t p = rw (lt-ltb a (m + n) (omega arith), lt-ltb a (m + suc n) (omega arith)) (or-true t)

-- ---- nothing found depends on the lane, but its name
unfoldable pub in_lane : ℕ → Complete → Complete
in_lane L q = record { stamp = q.stamp; lane = L; slot = q.slot; wrap = q.wrap; entries = q.entries }

pub closes-lane : (W N base : ℕ) (log : List ℕ) (L M j : ℕ) (c : Content) → closes W N base log L j c ≡ map (in_lane L) (closes W N base log M j c)
unfolding closes in_lane
closes-lane W N base log L M j Empty = refl
closes-lane W N base log L M j Torn = refl
closes-lane W N base log L M j (Entry i v p) = refl
closes-lane W N base log L M j (Stamp n s p) = split (ltb base s && eqb (length (entries_back W N log j p n)) n) (λ e. rw e) (λ e. rw e)

-- among sequences of one lane, the order does not see which lane it is
module _ (L M : ℕ) where
  top-map : (s p : ℕ) {qs : List Complete} → All (λ q. q.lane ≡ M) qs → top_wrap L s p (map (in_lane L) qs) ≡ top_wrap M s p qs
  unfolding top_wrap in_lane
  top-map s p none = refl
  top-map s p (more {x = q} {l = l} e h) =
      ap (λ b. top_wrap L s (cond (b && eqb q.stamp s) q.wrap p) (map (in_lane L) l)) (eq-eqb L L refl ∙ sym (eq-eqb q.lane M e))
      ∙ top-map s (cond (eqb q.lane M && eqb q.stamp s) q.wrap p) h

  after_map : (q : Complete) → q.lane ≡ M → {qs : List Complete} → All (λ q. q.lane ≡ M) qs
      → after_wrap (map (in_lane L) qs) (in_lane L q) ≡ after_wrap qs q
  unfolding after_wrap in_lane
  after_map q e h = rw (e, top-map q.stamp q.wrap h)

  before-map : {qs : List Complete} → All (λ q. q.lane ≡ M) qs → (q r : Complete) → q.lane ≡ M → r.lane ≡ M
      → undone_before (map (in_lane L) qs) (in_lane L q) (in_lane L r) ≡ undone_before qs q r
  unfolding undone_before in_lane
  before-map h q r e f =
      ap (greater_or q.stamp r.stamp)
      (greater-tied L L _ refl ∙ ap₂ (λ a b. greater_or a b (ltb r.slot q.slot)) (after_map q e h) (after_map r f h)
      ∙ sym (greater-tied q.lane r.lane _ (f ∙ sym e)))

  insert-map : {qs : List Complete} → All (λ q. q.lane ≡ M) qs → (q : Complete) → q.lane ≡ M → {rs : List Complete} → All (λ q. q.lane ≡ M) rs
      → insert (map (in_lane L) qs) (in_lane L q) (map (in_lane L) rs) ≡ map (in_lane L) (insert qs q rs)
  unfolding insert
  insert-map h q e none = refl
  insert-map {qs} h q e (more {x = r} f g) =
      split (undone_before qs q r)
      (λ t. rw (before-map h q r e f, t))
      (λ t. rw (before-map h q r e f, t) (ap (λ l. in_lane L r ∷ l) (insert-map h q e g)))

  ordered-map : {qs : List Complete} → All (λ q. q.lane ≡ M) qs → {rs : List Complete} → All (λ q. q.lane ≡ M) rs
      → ordered (map (in_lane L) qs) (map (in_lane L) rs) ≡ map (in_lane L) (ordered qs rs)
  unfolding ordered
  ordered-map h none = refl
  ordered-map {qs} h (more {x = q} e g) = ap (insert (map (in_lane L) qs) (in_lane L q)) (ordered-map h g) ∙ insert-map h q e (All-ordered qs g)

first-map : (L : ℕ) (qs : List Complete) → first_of (map (in_lane L) qs) ≡ first_of qs
unfolding first_of sequence_of in_lane
first-map L [] = refl
first-map L (q ∷ qs) = refl

latest-map : (L M : ℕ) {qs : List Complete} → All (λ q. q.lane ≡ M) qs → latest (map (in_lane L) qs) ≡ latest qs
unfolding latest
latest-map L M {qs} h = ap first_of (ordered-map L M h h) ∙ first-map L (ordered qs qs)

pub complete-lane : (W N base : ℕ) (log : List ℕ) (L M k : ℕ) → complete_below W N base log L k ≡ map (in_lane L) (complete_below W N base log M k)
unfolding complete_below
complete-lane W N base log L M zero = refl
complete-lane W N base log L M (suc k) =
    ap (λ (t : List Complete). t ++ closes W N base log L k (slot_at W log k)) (complete-lane W N base log L M k)
    ∙ ap (λ (t : List Complete). map (in_lane L) (complete_below W N base log M k) ++ t) (closes-lane W N base log L M k (slot_at W log k))
    ∙ sym (map-append (in_lane L) (complete_below W N base log M k) (closes W N base log M k (slot_at W log k)))

hits-map : (N k m b L : ℕ) (qs : List Complete) → hits_from N k m b (map (in_lane L) qs) ≡ hits_from N k m b qs
unfolding hits_from in_lane
hits-map N k m b L [] = refl
hits-map N k m b L (q ∷ qs) = ap (λ (t : Bool). (leb b q.stamp && overlaps N k m q.slot (length q.entries)) || t) (hits-map N k m b L qs)

pub latest-lane : (W N base : ℕ) (log : List ℕ) (L M k : ℕ) → latest (complete_below W N base log L k) ≡ latest (complete_below W N base log M k)
latest-lane W N base log L M k =
    ap latest (complete-lane W N base log L M k) ∙ latest-map L M (All-map (λ q h. h.0) (below_at W N base log M k))

pub hits-lane : (W N base : ℕ) (log : List ℕ) (L M n k m : ℕ) (bound : Option ℕ)
    → hits N k m bound (complete_below W N base log L n) ≡ hits N k m bound (complete_below W N base log M n)
unfolding hits
hits-lane W N base log L M n k m None = refl
hits-lane W N base log L M n k m (Some b) = ap (hits_from N k m b) (complete-lane W N base log L M n) ∙ hits-map N k m b L (complete_below W N base log M n)

-- the latest sequence of a lane, and hits in it, as the code finds them
pub latest-in : (z : Sizes) (image : List ℕ) (L : ℕ) → latest_in z image L ≡ latest (complete_below z.words z.slots (base_of image) (log_of z L image) 0 z.slots)
unfolding latest_in complete_in
latest-in z image L = latest-lane z.words z.slots (base_of image) (log_of z L image) L 0 z.slots

pub hits-in : (z : Sizes) (image : List ℕ) (L k m : ℕ) (bound : Option ℕ)
    → hits z.slots k m bound (complete_in z image L) ≡ hits z.slots k m bound (complete_below z.words z.slots (base_of image) (log_of z L image) 0 z.slots)
unfolding complete_in
hits-in z image L k m bound = hits-lane z.words z.slots (base_of image) (log_of z L image) L 0 z.slots k m bound
