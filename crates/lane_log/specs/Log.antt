-- One lane's log, two words a slot: its slots, its complete sequences, the latest of them. SPECIFICATION, "Logs". Assumes nothing.
use Rattle.std.specs.Prelude.{ℕ, zero, suc, ◌+◌, ◌-◌, ◌*◌, Bool, false, cond, ◌&&◌, ◌||◌, List, [], ◌∷◌, ◌++◌, leb, ltb, eqb, length, get_or, Option, Some, None}
use Rattle.slot.specs.Slot.{read_of}
use Rattle.slot.specs.declared.Content.{Content}
use Rattle.slot.specs.declared.Content.TheVariants.{Empty, Torn, Entry, Stamp}
use Rattle.image.specs.Image.{base_of, log_of}
use Rattle.image.specs.declared.Sizes.{Sizes}
use Rattle.lane_log.specs.declared.Sequence.{Sequence}

-- what slot j of a log says, of an image of W data words
unfoldable pub slot_at : (W : ℕ) → List ℕ → (j : ℕ) → Content
slot_at W log j = read_of W (get_or log (2 * j) 0) (get_or log (2 * j + 1) 0)

-- ---- sequences
-- an entry's word number and old value
pub record Old : Type 0 where
  pub word : ℕ
  pub old : ℕ

-- the slot i places before slot j of a log of N slots, circularly
unfoldable pub back : (N j i : ℕ) → ℕ
back N j i = cond (leb i j) (j - i) (j + N - i)

-- the wrap bit of that slot, where slot j has p: the opposite bit before the wrap
unfoldable pub back_wrap : (p j i : ℕ) → ℕ
back_wrap p j i = cond (leb i j) p (1 - p)

-- a whole entry with wrap bit q, as a list of one; anything else as none
unfoldable pub entry_in : (q : ℕ) → Content → List Old
entry_in q Empty = []
entry_in q Torn = []
entry_in q (Entry i v p) = cond (eqb p q) (record { word = i; old = v } ∷ []) []
entry_in q (Stamp n s p) = []

-- the whole entries among the n slots before slot j, which has wrap bit p, oldest first
unfoldable pub entries_back : (W N : ℕ) → List ℕ → (j p n : ℕ) → List Old
entries_back W N log j p zero = []
entries_back W N log j p (suc n) = entry_in (back_wrap p j (suc n)) (slot_at W log (back N j (suc n))) ++ entries_back W N log j p n

-- a complete sequence: a timestamp above the base, with its slot and wrap bit, and the entries that it closes, oldest first
pub record Complete : Type 0 where
  pub stamp : ℕ
  pub lane : ℕ
  pub slot : ℕ
  pub wrap : ℕ
  pub entries : List Old

-- the sequence that slot j closes, as a list of one; none where it closes no complete one
unfoldable pub closes : (W N base : ℕ) → List ℕ → (L j : ℕ) → Content → List Complete
closes W N base log L j Empty = []
closes W N base log L j Torn = []
closes W N base log L j (Entry i v p) = []
closes W N base log L j (Stamp n s p) =
    let es = entries_back W N log j p n in
    cond (ltb base s && eqb (length es) n) (record { stamp = s; lane = L; slot = j; wrap = p; entries = es } ∷ []) []

-- the complete sequences that the slots below k close, by rising slot
unfoldable pub complete_below : (W N base : ℕ) → List ℕ → (L k : ℕ) → List Complete
complete_below W N base log L zero = []
complete_below W N base log L (suc k) = complete_below W N base log L k ++ closes W N base log L k (slot_at W log k)

-- the complete sequences of lane L in an image, over the image's own base
unfoldable pub complete_in : Sizes → List ℕ → ℕ → List Complete
complete_in z image L = complete_below z.words z.slots (base_of image) (log_of z L image) L z.slots

-- ---- the order of undoing
-- the wrap bit of the highest slot among lane L's sequences stamped s, p where there is none. The list has a lane's sequences by rising slot
unfoldable pub top_wrap : (L s p : ℕ) → List Complete → ℕ
top_wrap L s p [] = p
top_wrap L s p (q ∷ qs) = top_wrap L s (cond (eqb q.lane L && eqb q.stamp s) q.wrap p) qs

-- 1 for a sequence whose wrap bit is not that of the highest slot among its lane's sequences of the same timestamp in qs: it was appended after the
-- wrap, so it is later than those that share that bit, for which it is 0
unfoldable pub after_wrap : (qs : List Complete) → Complete → ℕ
after_wrap qs q = cond (eqb q.wrap (top_wrap q.lane q.stamp q.wrap qs)) 0 1

-- is a greater than b; where they are equal, does t hold
unfoldable pub greater_or : (a b : ℕ) → (t : Bool) → Bool
greater_or a b t = ltb b a || (eqb b a && t)

-- the greater timestamp is undone first; of equal ones the higher lane; in a lane those appended after the wrap; then the higher slot
unfoldable pub undone_before : (qs : List Complete) → Complete → Complete → Bool
undone_before qs q r = greater_or q.stamp r.stamp (greater_or q.lane r.lane (greater_or (after_wrap qs q) (after_wrap qs r) (ltb r.slot q.slot)))

unfoldable pub insert : (qs : List Complete) → Complete → List Complete → List Complete
insert qs q [] = q ∷ []
insert qs q (r ∷ rs) = cond (undone_before qs q r) (q ∷ r ∷ rs) (r ∷ insert qs q rs)

-- some of the sequences qs, in this order
unfoldable pub ordered : (qs some : List Complete) → List Complete
ordered qs [] = []
ordered qs (r ∷ rs) = insert qs r (ordered qs rs)

-- ---- the latest sequence
unfoldable pub sequence_of : Complete → Sequence
sequence_of q = record { stamp = q.stamp; count = length q.entries; slot = q.slot }

unfoldable pub first_of : List Complete → Option Sequence
first_of [] = None
first_of (q ∷ qs) = Some (sequence_of q)

-- the one undone first: of the greatest timestamp the latest
unfoldable pub latest : List Complete → Option Sequence
latest qs = first_of (ordered qs qs)

-- lane L's latest sequence in an image
unfoldable pub latest_in : Sizes → List ℕ → ℕ → Option Sequence
latest_in z image L = latest (complete_in z image L)

-- what a sequence of n entries stamped s gives to the boundary, and to its lane's floor at a drain: its timestamp, but a mark, which closes no entries,
-- gives none
unfoldable pub given : (n s : ℕ) → Option ℕ
given n s = cond (eqb n 0) None (Some s)

-- what a lane gives to the boundary: what its latest sequence gives
unfoldable pub contribution : Option Sequence → Option ℕ
contribution None = None
contribution (Some q) = given q.count q.stamp

-- ---- overwriting
-- how many slots slot j comes after slot k, circularly
unfoldable pub ahead : (N k j : ℕ) → ℕ
ahead N k j = cond (leb k j) (j - k) (j + N - k)

-- is one of slot j and the n slots before it among the m slots from slot k on
unfoldable pub overlaps : (N k m j n : ℕ) → Bool
overlaps N k m j zero = ltb (ahead N k j) m
overlaps N k m j (suc n) = ltb (ahead N k (back N j (suc n))) m || overlaps N k m j n

-- would writing m slots from slot k on hit a slot of a sequence stamped at or above b
unfoldable pub hits_from : (N k m b : ℕ) → List Complete → Bool
hits_from N k m b [] = false
hits_from N k m b (q ∷ qs) = (leb b q.stamp && overlaps N k m q.slot (length q.entries)) || hits_from N k m b qs

-- no sequence is at or above a bound that is none
unfoldable pub hits : (N k m : ℕ) → Option ℕ → List Complete → Bool
hits N k m None qs = false
hits N k m (Some b) qs = hits_from N k m b qs
