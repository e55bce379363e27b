-- Sizes and the image: base timestamp, data words, each lane's log, trailer; and which buffers are as long as it. SPECIFICATION, "Sizes and image".
-- Assumes nothing.
use Rattle.std.specs.Prelude.{ℕ, ◌+◌, ◌-◌, ◌*◌, Bool, ◌&&◌, ◌||◌, List, [], ◌∷◌, leb, eqb, length, get_or, take, drop}
use Rattle.image.specs.declared.Sizes.{Sizes}

-- the most data words
abbrev pub max_words : ℕ
max_words = 1024

-- the most lanes, one a bit of a flag byte
abbrev pub max_lanes : ℕ
max_lanes = 8

-- the fewest log slots a lane: two of the longest sequences, which have 16 entries and a timestamp
abbrev pub min_slots : ℕ
min_slots = 34

-- the most log slots a lane
abbrev pub max_slots : ℕ
max_slots = 256

-- the words of the longest image, without its trailer and with it
abbrev pub max_former : ℕ
max_former = 1 + max_words + 2 * max_lanes * max_slots

abbrev pub max_image : ℕ
max_image = max_former + 4

-- at least one data word, one lane and min_slots log slots, and none of them more than the most
unfoldable pub sizes_ok : Sizes → Bool
sizes_ok z =
    leb 1 z.words
    && (leb z.words max_words && (leb 1 z.lanes && (leb z.lanes max_lanes && (leb min_slots z.slots && leb z.slots max_slots))))

-- the former length: the words of an image without a trailer, which are the base timestamp, the data words, two words a log slot
unfoldable pub former_length : Sizes → ℕ
former_length z = 1 + z.words + 2 * z.lanes * z.slots

-- the trailer, the last four words of an image: its sizes, and how many words stand before these four
unfoldable pub trailer : Sizes → List ℕ
trailer z = z.words ∷ z.lanes ∷ z.slots ∷ former_length z ∷ []

-- the new length: the words of an image with its trailer
unfoldable pub image_length : Sizes → ℕ
image_length z = former_length z + 4

-- ---- refusal 1: sizes out of range, or one of the three buffers not of a length that the call takes. Of the calls' definitions only these know of two
-- lengths
-- is each of the three buffers of n words
unfoldable pub all_are : (n cache nvm flags : ℕ) → Bool
all_are n cache nvm flags = eqb cache n && (eqb nvm n && eqb flags n)

-- Format takes the new length alone
unfoldable pub format_ok : Sizes → (cache nvm flags : ℕ) → Bool
format_ok z cache nvm flags = sizes_ok z && all_are (image_length z) cache nvm flags

-- recovery with sizes given takes the former length alone
unfoldable pub former_ok : Sizes → (cache nvm flags : ℕ) → Bool
former_ok z cache nvm flags = sizes_ok z && all_are (former_length z) cache nvm flags

-- every other call takes either, and no mixture
unfoldable pub buffers_ok : Sizes → (cache nvm flags : ℕ) → Bool
buffers_ok z cache nvm flags = sizes_ok z && (all_are (image_length z) cache nvm flags || all_are (former_length z) cache nvm flags)

-- ---- sizes read from an image
-- the sizes that its last four words tell
unfoldable pub sizes_at_end : List ℕ → Sizes
sizes_at_end image =
    let n = length image in
    record { words = get_or image (n - 4) 0; lanes = get_or image (n - 3) 0; slots = get_or image (n - 2) 0 }

-- refusal 14 is that this is false: four words or more, sizes in range, and a fourth word and a length that agree with them
unfoldable pub trailer_ok : List ℕ → Bool
trailer_ok image =
    let n = length image in
    let z = sizes_at_end image in
    leb 4 n && (sizes_ok z && (eqb (get_or image (n - 1) 0) (former_length z) && eqb n (image_length z)))

-- ---- the parts of an image

-- the base timestamp
unfoldable pub base_of : List ℕ → ℕ
base_of image = get_or image 0 0

-- the data words
unfoldable pub data_of : Sizes → List ℕ → List ℕ
data_of z image = take z.words (drop 1 image)

-- where the log of a lane starts
unfoldable pub log_start : Sizes → ℕ → ℕ
log_start z L = 1 + z.words + 2 * z.slots * L

-- the log of a lane, a list of its own
unfoldable pub log_of : Sizes → ℕ → List ℕ → List ℕ
log_of z L image = take (2 * z.slots) (drop (log_start z L) image)
