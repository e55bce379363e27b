-- What programs `inspect` and `inspect_read` print: the listing of an image, which says what stands in it and what recovery would undo, and then the report
-- of its recovery. SPECIFICATION, "Programs `inspect` and `inspect_read`". Assumes nothing.
use Rattle.std.specs.Prelude.{ℕ, zero, suc, ◌+◌, ◌*◌, ◌≤◌, cond, List, [], ◌∷◌, ◌++◌, ◌≡◌, leb, eqb, length, get_or, Option, Some, None}
use Rattle.slot.specs.declared.Content.{Content}
use Rattle.slot.specs.declared.Content.TheVariants.{Empty, Torn, Entry, Stamp}
use Rattle.image.specs.Image.{max_lanes, max_slots, base_of, log_of}
use Rattle.image.specs.declared.Sizes.{Sizes}
use Rattle.lane_log.specs.Log.{Complete, slot_at, complete_in, latest_in}
use Rattle.recovery.specs.Recovery.{undone, told}
use Rattle.report.specs.Report.{sizes_in, image_in, longest, input_refusal, recovered_from, report_of}
use Rattle.report.specs.Report.{max_digits, decimal, space, newline, none_text, room}
use Rattle.report.specs.declared.SizesAt.{SizesAt}
use Rattle.lane_log.specs.declared.Sequence.{Sequence}

-- ---- texts, in ASCII
-- `base`
abbrev pub base_text : List ℕ
base_text = 98 ∷ 97 ∷ 115 ∷ 101 ∷ []

-- `slot`
abbrev pub slot_text : List ℕ
slot_text = 115 ∷ 108 ∷ 111 ∷ 116 ∷ []

-- ` empty`
abbrev pub empty_text : List ℕ
empty_text = 32 ∷ 101 ∷ 109 ∷ 112 ∷ 116 ∷ 121 ∷ []

-- ` torn`
abbrev pub torn_text : List ℕ
torn_text = 32 ∷ 116 ∷ 111 ∷ 114 ∷ 110 ∷ []

-- ` entry`
abbrev pub entry_text : List ℕ
entry_text = 32 ∷ 101 ∷ 110 ∷ 116 ∷ 114 ∷ 121 ∷ []

-- ` timestamp`
abbrev pub timestamp_text : List ℕ
timestamp_text = 32 ∷ 116 ∷ 105 ∷ 109 ∷ 101 ∷ 115 ∷ 116 ∷ 97 ∷ 109 ∷ 112 ∷ []

-- `sequence`
abbrev pub sequence_text : List ℕ
sequence_text = 115 ∷ 101 ∷ 113 ∷ 117 ∷ 101 ∷ 110 ∷ 99 ∷ 101 ∷ []

-- `newest`
abbrev pub newest_text : List ℕ
newest_text = 110 ∷ 101 ∷ 119 ∷ 101 ∷ 115 ∷ 116 ∷ []

-- `undo`
abbrev pub undo_text : List ℕ
undo_text = 117 ∷ 110 ∷ 100 ∷ 111 ∷ []

-- the first n of some numbers, a space before each
unfoldable pub numbers_to : List ℕ → (n : ℕ) → List ℕ
numbers_to xs zero = []
numbers_to xs (suc n) = numbers_to xs n ++ (space ++ decimal (get_or xs n 0))

-- a name and numbers
unfoldable pub named : (name xs : List ℕ) → List ℕ
named name xs = name ++ numbers_to xs (length xs)

-- a whole line of them
unfoldable pub line_of : (name xs : List ℕ) → List ℕ
line_of name xs = named name xs ++ newline

-- ---- one lane
-- what a slot holds: of an entry the word's number, its old value and the wrap bit; of a timestamp how many entries it closes, itself and the wrap bit
unfoldable pub content_text : Content → List ℕ
content_text Empty = empty_text ++ newline
content_text Torn = torn_text ++ newline
content_text (Entry i v p) = line_of entry_text (i ∷ v ∷ p ∷ [])
content_text (Stamp n s p) = line_of timestamp_text (n ∷ s ∷ p ∷ [])

-- slot j of lane L
unfoldable pub slot_line : (L j : ℕ) → Content → List ℕ
slot_line L j c = named slot_text (L ∷ j ∷ []) ++ content_text c

-- the slots below k of lane L, whose log this is, in an image of W data words
unfoldable pub slot_lines : (W : ℕ) → List ℕ → (L k : ℕ) → List ℕ
slot_lines W log L zero = []
slot_lines W log L (suc k) = slot_lines W log L k ++ slot_line L k (slot_at W log k)

-- a complete sequence: its lane, the slot of its timestamp, how many entries that closes, and the timestamp
unfoldable pub sequence_line : (name : List ℕ) → Complete → List ℕ
sequence_line name q = line_of name (q.lane ∷ q.slot ∷ length q.entries ∷ q.stamp ∷ [])

unfoldable pub sequence_lines : (name : List ℕ) → List Complete → List ℕ
sequence_lines name [] = []
sequence_lines name (q ∷ qs) = sequence_line name q ++ sequence_lines name qs

-- the newest one of lane L, with the same numbers, or `none`
unfoldable pub newest_line : (L : ℕ) → Option Sequence → List ℕ
newest_line L None = named newest_text (L ∷ []) ++ (space ++ none_text ++ newline)
newest_line L (Some q) = line_of newest_text (L ∷ q.slot ∷ q.count ∷ q.stamp ∷ [])

-- all of lane L: its slots, its complete sequences by rising slot, its newest one
unfoldable pub lane_text : Sizes → (image : List ℕ) → (L : ℕ) → List ℕ
lane_text z image L =
    slot_lines z.words (log_of z L image) L z.slots ++ sequence_lines sequence_text (complete_in z image L) ++ newest_line L (latest_in z image L)

-- the lanes below k
unfoldable pub lanes_text : Sizes → (image : List ℕ) → (k : ℕ) → List ℕ
lanes_text z image zero = []
lanes_text z image (suc k) = lanes_text z image k ++ lane_text z image k

-- ---- the whole
-- the base timestamp, the lanes, and the sequences that recovery undoes, in its order
unfoldable pub listing : Sizes → (image : List ℕ) → List ℕ
listing z image = line_of base_text (base_of image ∷ []) ++ lanes_text z image z.lanes ++ sequence_lines undo_text (undone z image)

-- nothing is listed of an input that is refused, by itself or by recovery
unfoldable pub listed : SizesAt → (input : List ℕ) → List ℕ
listed p input =
    cond (eqb (input_refusal p input) 0)
    (cond (told (recovered_from p input).answer).refused [] (listing (sizes_in p input) (image_in p input)))
    []

-- the listing, and then what `recover` or `recover_read` prints of the same input: the boundary and the data words after recovery, or the refusal
unfoldable pub inspection_of : SizesAt → (input : List ℕ) → List ℕ
inspection_of p input = listed p input ++ report_of p input

-- ---- where it is printed
-- the most bytes of a number with its space; of what a slot holds; of a slot's line; of any other line, of which `sequence` has the longest name
abbrev pub number_room : ℕ
number_room = 1 + max_digits

abbrev pub content_room : ℕ
content_room = 10 + 3 * number_room + 1

abbrev pub slot_room : ℕ
slot_room = 4 + 2 * number_room + content_room

abbrev pub line_room : ℕ
line_room = 8 + 4 * number_room + 1

-- of a lane: two lines a slot, and one for the newest
abbrev pub lane_room : ℕ
lane_room = (slot_room + line_room) * max_slots + line_room

-- of a listing: the base, the lanes, a line for each sequence undone, of which there is at most one a slot
abbrev pub listing_room : ℕ
listing_room = line_room + lane_room * max_lanes + line_room * (max_lanes * max_slots)

abbrev pub inspection_room : ℕ
inspection_room = listing_room + room

-- what is printed into a buffer of a length: nothing where an inspection might not fit
unfoldable pub inspected_of : SizesAt → (size : ℕ) → (input : List ℕ) → List ℕ
inspected_of p size input = cond (leb inspection_room size) (inspection_of p input) []

-- ---- from standard input to standard output
-- r bytes are the inspection of an input: all that was read, and that is at most one byte more than the longest
pub record Inspected (p : SizesAt) (r : ℕ) : Type 0 where
  pub input : List ℕ
  pub read : length input ≤ longest p + 1
  pub printed : r ≡ length (inspection_of p input)
