-- Inner: how the code goes, need not be believed. Words of an image by their places, numbers that wrap, and where what stands in an image: what the
-- functions over them return. The code's constants are numbers here. Assumes nothing.
use Rattle.std.specs.Prelude.{ℕ, ◌+◌, ◌*◌, ◌%◌, ◌^◌, cond, List, length, nat_le, slice_get, slice_set, unwrap_or}

-- word i of an image, 0 where it has none
abbrev pub word_in : List ℕ → (i : ℕ) → ℕ
word_in ws i = unwrap_or (slice_get ws i) 0

-- the image after a store there, which changes nothing where it has no such word
abbrev pub stored : List ℕ → (i word : ℕ) → List ℕ
stored ws i word = cond (nat_le (length ws) i) ws (slice_set ws i word)

-- a sum that wraps
abbrev pub sum : ℕ → ℕ → ℕ
sum a b = (a + b) % 2 ^ 64

-- a product of two numbers of 13 bits
abbrev pub product : ℕ → ℕ → ℕ
product a b = a % 8192 * (b % 8192)

-- the words of an image with these W, T and N: without its trailer, and with it
abbrev pub former_of : (words lanes slots : ℕ) → ℕ
former_of words lanes slots = sum (sum 1 words) ((product lanes slots * 2 ^ 1) % 2 ^ 64)

abbrev pub length_of : (words lanes slots : ℕ) → ℕ
length_of words lanes slots = sum (former_of words lanes slots) 4

-- the place in such an image of a slot's first word
abbrev pub place_of : (words slots lane slot : ℕ) → ℕ
place_of words slots lane slot = sum (sum 1 words) ((sum (product slots lane) slot * 2 ^ 1) % 2 ^ 64)

-- the image with the trailer of these sizes behind it, as far as it has room
abbrev pub with_trailer : List ℕ → (words lanes slots : ℕ) → List ℕ
with_trailer ws words lanes slots =
    let f = former_of words lanes slots in
    stored (stored (stored (stored ws f words) (sum f 1) lanes) (sum f 2) slots) (sum f 3) f
