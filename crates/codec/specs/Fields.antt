-- The record as words: clock, last commit, for each of 8 lanes a head and 16 pairs, the lag limit, the lock; behind them stand the lock's pairs, which are
-- words already. SPECIFICATION, "The record as words". Assumes nothing.
use Rattle.std.specs.Prelude.{ℕ, zero, suc, ◌+◌, ◌*◌, Bool, true, false, cond, List, [], ◌∷◌, ◌++◌, eqb, get_or, take, drop, Option, Some, None}
use Rattle.txn.specs.Txn.{max_writes}
use Rattle.image.specs.Image.{max_lanes}
use Rattle.record.specs.Record.{is_logged, logged_in, lock_length, is_held, locked_in}
use Rattle.record.specs.declared.Pair.{Pair}
use Rattle.record.specs.declared.Lane.{Lane}
use Rattle.record.specs.declared.Record.{Record}
use Rattle.record.specs.Record.{Lock}
use Rattle.record.specs.Record.{Phase}

-- ---- how many words: of a lane before its pairs, of its pairs, of a lane
abbrev pub head_length : ℕ
head_length = 8

abbrev pub pairs_length : ℕ
pairs_length = 2 * max_writes

abbrev pub lane_length : ℕ
lane_length = head_length + pairs_length

-- of what stands before the lag limit, of the lock without its pairs, of a record without them (329), and with them (457)
abbrev pub lanes_end : ℕ
lanes_end = 2 + max_lanes * lane_length

abbrev pub holder_length : ℕ
holder_length = 6

abbrev pub record_length : ℕ
record_length = lanes_end + 1 + holder_length

abbrev pub state_length : ℕ
state_length = record_length + lock_length

-- ---- from words: each list begins at the field's own first word
-- n elements in a row, of `size` words each
unfoldable pub row_of : {A : Type 0} (size : ℕ) (of : List ℕ → A) (n : ℕ) → List ℕ → List A
row_of size of zero ws = []
row_of size of (suc n) ws = of ws ∷ row_of size of n (drop size ws)

unfoldable pub phase_of : List ℕ → Phase
phase_of ws = cond (eqb (get_or ws 0 0) 0) None (Some (record { first = get_or ws 1 0; count = get_or ws 2 0; stamp = get_or ws 3 0 }))

unfoldable pub floor_of : List ℕ → Option ℕ
floor_of ws = cond (eqb (get_or ws 0 0) 0) None (Some (get_or ws 1 0))

unfoldable pub pair_of : List ℕ → Pair
pair_of ws = record { word = get_or ws 0 0; value = get_or ws 1 0 }

-- phase 0 to 3, next slot 4, wrap bit 5, floor 6 and 7, then the pairs
unfoldable pub lane_of : List ℕ → Lane
lane_of ws =
    record {
      phase = phase_of ws;
      next = get_or ws 4 0;
      wrap = get_or ws 5 0;
      floor = floor_of (drop 6 ws);
      redo = row_of 2 pair_of max_writes (drop head_length ws);
    }

unfoldable pub lock_of : List ℕ → Lock
lock_of ws =
    cond (eqb (get_or ws 0 0) 0) None
    (Some (record { lane = get_or ws 1 0; stamp = get_or ws 2 0; count = get_or ws 3 0; logged = get_or ws 4 0; written = get_or ws 5 0 }))

unfoldable pub record_of : List ℕ → Record
record_of ws =
    record {
      clock = get_or ws 0 0;
      last = get_or ws 1 0;
      lanes = row_of lane_length lane_of max_lanes (drop 2 ws);
      lag = get_or ws lanes_end 0;
      lock = lock_of (drop (lanes_end + 1) ws);
    }

-- ---- to words
-- the words of elements in a row
unfoldable pub row_words : {A : Type 0} (to : A → List ℕ) → List A → List ℕ
row_words to [] = []
row_words to (x ∷ xs) = to x ++ row_words to xs

unfoldable pub bit_for : Bool → ℕ
bit_for true = 1
bit_for false = 0

unfoldable pub is_set : Option ℕ → Bool
is_set None = false
is_set (Some s) = true

-- the timestamp of a floor, 0 where there is none
unfoldable pub stamp_of : Option ℕ → ℕ
stamp_of None = 0
stamp_of (Some s) = s

-- a lane's words before its pairs: 0 for what an idle lane or one without floor does not have
unfoldable pub head_words : Lane → List ℕ
head_words l =
    bit_for (is_logged l.phase)
    ∷ (logged_in l.phase).first
    ∷ (logged_in l.phase).count
    ∷ (logged_in l.phase).stamp
    ∷ l.next
    ∷ l.wrap
    ∷ bit_for (is_set l.floor)
    ∷ stamp_of l.floor
    ∷ []

unfoldable pub pair_words : Pair → List ℕ
pair_words p = p.word ∷ p.value ∷ []

unfoldable pub lane_words : Lane → List ℕ
lane_words l = head_words l ++ row_words pair_words l.redo

-- 0 for what a free lock does not have
unfoldable pub lock_words : Lock → List ℕ
lock_words k =
    bit_for (is_held k) ∷ (locked_in k).lane ∷ (locked_in k).stamp ∷ (locked_in k).count ∷ (locked_in k).logged ∷ (locked_in k).written ∷ []

unfoldable pub words_of : Record → List ℕ
words_of r = r.clock ∷ r.last ∷ (row_words lane_words r.lanes ++ (r.lag ∷ lock_words r.lock))

-- ---- a record in words lent with the lock's pairs behind it: the words before the pairs, and the pairs
abbrev pub record_in : List ℕ → Record
record_in state = record_of (take record_length state)

abbrev pub pairs_in : List ℕ → List ℕ
pairs_in state = drop record_length state
