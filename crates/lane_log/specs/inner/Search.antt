-- Inner: how the code goes, need not be believed. How the search for complete sequences goes: one slot, the slot of the greatest
-- timestamp, every slot, one slot's hit. Assumes nothing.
use Rattle.std.specs.Prelude.{ℕ, zero, suc, ◌+◌, ◌*◌, ◌/◌, Bool, false, cond, not, ◌&&◌, ◌||◌, List, ◌≡◌, ◌≢◌, leb, ltb, eqb, length, get_or, Option, Some, None}
use Rattle.slot.specs.Slot.{tag}
use Rattle.slot.specs.declared.Content.{Content}
use Rattle.slot.specs.declared.Content.TheVariants.{Empty, Torn, Entry, Stamp}
use Rattle.lane_log.specs.declared.Sequence.{Sequence}
use Rattle.lane_log.specs.declared.search.Candidate.{Candidate}
use Rattle.lane_log.specs.Log.{slot_at, back, back_wrap, entries_back, closes, first_of, hits_from}

-- ---- one slot
-- is the address word of slot j as high as a timestamp's
unfoldable pub stamp_high : List ℕ → (j : ℕ) → Bool
stamp_high log j = leb (8 * tag) (get_or log (2 * j) 0)

-- a whole entry with wrap bit q
unfoldable pub is_entry : (q : ℕ) → Content → Bool
is_entry q Empty = false
is_entry q Torn = false
is_entry q (Entry i v p) = eqb p q
is_entry q (Stamp n s p) = false

-- is the slot i places before slot j, which has wrap bit p, a whole entry with the wrap bit that it should have
unfoldable pub entry_back : (W N : ℕ) → List ℕ → (j p i : ℕ) → Bool
entry_back W N log j p i = is_entry (back_wrap p j i) (slot_at W log (back N j i))

-- are all n slots before slot j, which has wrap bit p, such entries
unfoldable pub whole_back : (W N : ℕ) → List ℕ → (j p n : ℕ) → Bool
whole_back W N log j p n = eqb (length (entries_back W N log j p n)) n

-- the sequence that slot j closes, if it is complete; the lane does not matter for it
unfoldable pub closed_at : (W N base : ℕ) → List ℕ → (j : ℕ) → Option Sequence
closed_at W N base log j = first_of (closes W N base log 0 j (slot_at W log j))

-- are the words of slot j as high as those of a timestamp at or above b
unfoldable pub stamp_from : List ℕ → (j b : ℕ) → Bool
stamp_from log j b = stamp_high log j && leb b (get_or log (2 * j + 1) 0)

-- would writing m slots from slot k on hit a slot of the sequence that slot j closes, if it is stamped at or above b
unfoldable pub hit_at : (W N base : ℕ) → List ℕ → (k m b j : ℕ) → Bool
hit_at W N base log k m b j = hits_from N k m b (closes W N base log 0 j (slot_at W log j))

-- ---- the slot of the greatest timestamp
-- half of the value word of slot j
unfoldable pub half_at : List ℕ → (j : ℕ) → ℕ
half_at log j = get_or log (2 * j + 1) 0 / 2

-- the higher of a candidate and slot j, if that can hold a timestamp; where they are equal, no slot
unfoldable pub higher : List ℕ → (j : ℕ) → Candidate → Candidate
higher log j a =
    cond (stamp_high log j && leb a.half (half_at log j)) (record { half = half_at log j; slot = cond (eqb (half_at log j) a.half) None (Some j) }) a

-- how many slots are passed over at once
abbrev pub group : ℕ
group = 4

-- is one of their address words as high as a timestamp's
unfoldable pub any_high : List ℕ → (j : ℕ) → Bool
any_high log j = (stamp_high log j || stamp_high log (j + 1)) || (stamp_high log (j + 2) || stamp_high log (j + 3))

-- does a step change nothing at a slot that can hold no timestamp
abbrev pub SkipsLow : {A : Type 0} → List ℕ → (A → ℕ → A) → Type 0
SkipsLow {A} log h = (a : A) (j : ℕ) → stamp_high log j ≡ false → h a j ≡ a

-- the highest candidate in the slots below i; where there is none, no slot at the base
unfoldable pub candidate_below : (base : ℕ) → List ℕ → (i : ℕ) → Candidate
candidate_below base log zero = record { half = base / 2; slot = None }
candidate_below base log (suc i) = higher log i (candidate_below base log i)

-- what a candidate's slot closes, if there is such a slot
unfoldable pub candidate_closed : (W N base : ℕ) → List ℕ → Option ℕ → Option Sequence
candidate_closed W N base log None = None
candidate_closed W N base log (Some j) = cond (leb N j) None (closed_at W N base log j)

-- can slot j, another than slot k, hold a timestamp at or above b
unfoldable pub rival : List ℕ → (k b j : ℕ) → Bool
rival log k b j = stamp_from log j b && not (eqb j k)

-- can one of the slots below n
unfoldable pub rival_below : List ℕ → (k b n : ℕ) → Bool
rival_below log k b zero = false
rival_below log k b (suc n) = rival_below log k b n || rival log k b n

-- ---- every slot
-- the sequence with the greater timestamp, of equal ones the second
unfoldable pub greater : Option Sequence → Option Sequence → Option Sequence
greater a None = a
greater None (Some r) = Some r
greater (Some q) (Some r) = cond (ltb r.stamp q.stamp) (Some q) (Some r)

-- the greatest of those that the slots below k close
unfoldable pub greatest_below : (W N base : ℕ) → List ℕ → (k : ℕ) → Option Sequence
greatest_below W N base log zero = None
greatest_below W N base log (suc k) = greater (greatest_below W N base log k) (closed_at W N base log k)

-- ---- the lap over the wrap
-- what slot k closes, if that is a complete sequence stamped s with another wrap bit than p; else `best`
unfoldable pub lap_over : (W N : ℕ) → List ℕ → (s p k : ℕ) → Content → Sequence → Sequence
lap_over W N log s p k Empty best = best
lap_over W N log s p k Torn best = best
lap_over W N log s p k (Entry i v q) best = best
lap_over W N log s p k (Stamp n t q) best =
    cond (eqb t s && (not (eqb q p) && whole_back W N log k q n)) (record { stamp = s; count = n; slot = k }) best

-- the highest of these below slot k
unfoldable pub lapped_below : (W N : ℕ) → List ℕ → (s p : ℕ) → Sequence → (k : ℕ) → Sequence
lapped_below W N log s p best zero = best
lapped_below W N log s p best (suc k) = lap_over W N log s p k (slot_at W log k) (lapped_below W N log s p best k)

-- slot i closes the complete sequence r, stamped s with another wrap bit than p
pub record Laps (W N : ℕ) (log : List ℕ) (s p i : ℕ) (r : Sequence) : Type 0 where
  pub stamp : r.stamp ≡ s
  pub slot : r.slot ≡ i
  pub wrap : ℕ
  pub other : wrap ≢ p
  pub reads : slot_at W log i ≡ Stamp r.count s wrap
  pub whole : length (entries_back W N log i wrap r.count) ≡ r.count

abbrev pub NoLap : (W N : ℕ) (log : List ℕ) (s p i : ℕ) → Type 0
NoLap W N log s p i = (r : Sequence) → Laps W N log s p i r → ⊥
