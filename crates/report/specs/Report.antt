-- What programs `recover` and `recover_read` print: words out of bytes, the refusals of an input, and the lines of a report. SPECIFICATION, "Programs
-- `recover` and `recover_read`". Assumes nothing.
use Rattle.std.specs.Prelude.{ℕ, zero, suc, ◌+◌, ◌-◌, ◌*◌, ◌/◌, ◌%◌, ◌^◌, ◌≤◌, Bool, cond, ◌&&◌, List, [], ◌∷◌, ◌++◌, ◌≡◌, leb, ltb, eqb, length, get_or, take, drop, replicate, Option, Some, None}
use Rattle.image.specs.Image.{max_words, max_former, max_image, sizes_ok, former_length, sizes_at_end, data_of}
use Rattle.image.specs.declared.Sizes.{Sizes}
use Rattle.record.specs.Record.{max_lag}
use Rattle.store.specs.Interface.{blank_of}
use Rattle.store.specs.Machine.{Machine}
use Rattle.recovery.specs.Recovery.{Restarted, recover_step, recover_read_step, told}
use Rattle.recovery.specs.Answers.{Recovered}
use Rattle.report.specs.declared.SizesAt.{SizesAt}
use Rattle.report.specs.declared.SizesAt.TheVariants.{Start, End}

-- ---- reading
-- the number that bytes spell, the least significant byte first
unfoldable pub little_endian : List ℕ → ℕ
little_endian [] = 0
little_endian (b ∷ bs) = b + 256 * little_endian bs

-- word i of the input: eight bytes
unfoldable pub word_at : List ℕ → (i : ℕ) → ℕ
word_at input i = little_endian (take 8 (drop (8 * i) input))

-- the n words from word k on
unfoldable pub words_in : List ℕ → (k n : ℕ) → List ℕ
words_in input k zero = []
words_in input k (suc n) = words_in input k n ++ (word_at input (k + n) ∷ [])

-- all words
unfoldable pub all_words : List ℕ → List ℕ
all_words input = words_in input 0 (length input / 8)

-- the sizes: W, T and N are the first three words, or stand in the trailer of an image alone
unfoldable pub sizes_in : SizesAt → List ℕ → Sizes
sizes_in Start input = record { words = word_at input 0; lanes = word_at input 1; slots = word_at input 2 }
sizes_in End input = sizes_at_end (all_words input)

-- the image: of the former length after the three sizes, or all words
unfoldable pub image_in : SizesAt → List ℕ → List ℕ
image_in Start input = words_in input 3 (former_length (sizes_in Start input))
image_in End input = all_words input

-- with the sizes at the start: are they in range, and is the input as long as they say
unfoldable pub well_formed : List ℕ → Bool
well_formed input = sizes_ok (sizes_in Start input) && eqb (length input) (8 * (3 + former_length (sizes_in Start input)))

-- the bytes of the longest input that is not refused: three sizes and the longest image of the former length, or the longest image alone
abbrev pub longest : SizesAt → ℕ
longest Start = 8 * (3 + max_former)
longest End = 8 * max_image

-- the number that refuses an input before recovery, or 0. Of an image alone the length is tested first: more bytes than the longest has are 14, whether
-- or not they are whole words, since no sizes agree with that length; then bytes that are no whole words are 1
unfoldable pub input_refusal : SizesAt → List ℕ → ℕ
input_refusal Start input = cond (well_formed input) 0 1
input_refusal End input = cond (ltb (longest End) (length input)) 14 (cond (eqb (length input % 8) 0) 0 1)

-- ---- printing, in ASCII
-- the decimal digits of a number, the fewest that hold it and at most k
unfoldable pub digits_of : (k : ℕ) → ℕ → List ℕ
digits_of zero n = []
digits_of (suc k) n = cond (ltb n 10) ((48 + n) ∷ []) (digits_of k (n / 10) ++ ((48 + n % 10) ∷ []))

-- those of a word: 2 ^ 64 - 1 has the most
abbrev pub max_digits : ℕ
max_digits = 20

unfoldable pub decimal : ℕ → List ℕ
decimal n = digits_of max_digits n

abbrev pub space : List ℕ
space = 32 ∷ []

abbrev pub newline : List ℕ
newline = 10 ∷ []

-- `none`
abbrev pub none_text : List ℕ
none_text = 110 ∷ 111 ∷ 110 ∷ 101 ∷ []

-- `boundary `
abbrev pub boundary_text : List ℕ
boundary_text = 98 ∷ 111 ∷ 117 ∷ 110 ∷ 100 ∷ 97 ∷ 114 ∷ 121 ∷ 32 ∷ []

-- `refused `
abbrev pub refused_text : List ℕ
refused_text = 114 ∷ 101 ∷ 102 ∷ 117 ∷ 115 ∷ 101 ∷ 100 ∷ 32 ∷ []

unfoldable pub stamp_text : Option ℕ → List ℕ
stamp_text None = none_text
stamp_text (Some s) = decimal s

unfoldable pub boundary_line : Option ℕ → List ℕ
boundary_line b = boundary_text ++ stamp_text b ++ newline

unfoldable pub refused_line : ℕ → List ℕ
refused_line number = refused_text ++ decimal number ++ newline

-- a word's number and value
unfoldable pub word_line : (i v : ℕ) → List ℕ
word_line i v = decimal i ++ space ++ decimal v ++ newline

-- the lines of the first n words
unfoldable pub word_lines : List ℕ → (n : ℕ) → List ℕ
word_lines ws zero = []
word_lines ws (suc n) = word_lines ws n ++ word_line n (get_or ws n 0)

-- ---- the report
-- no limit: the greatest word
unfoldable pub no_limit : ℕ
no_limit = 2 ^ 64 - 1

-- a buffer of n zeros
unfoldable pub blank : (n : ℕ) → List ℕ
blank n = replicate n 0

-- a machine with an image in non-volatile memory, and nothing in cache and flags
unfoldable pub nvm_only : (image : List ℕ) → Machine
nvm_only image = blank_of (blank (length image)) image (blank (length image))

-- recovery of the image of an input, with the sizes given or without; the record is not printed, so that its lag limit does not matter
unfoldable pub recovered_from : SizesAt → (input : List ℕ) → Restarted
recovered_from Start input = recover_step (sizes_in Start input) max_lag no_limit (nvm_only (image_in Start input))
recovered_from End input = recover_read_step max_lag no_limit (nvm_only (image_in End input))

-- what is printed of a finished recovery that left this in non-volatile memory: the boundary, then the data words
unfoldable pub finished_text : Sizes → (nvm : List ℕ) → Option ℕ → List ℕ
finished_text z nvm b = boundary_line b ++ word_lines (data_of z nvm) z.words

-- what is printed of what its answer tells; without a limit it is never cut
unfoldable pub answer_text : Sizes → (nvm : List ℕ) → Recovered → List ℕ
answer_text z nvm a =
    cond (told a).refused (refused_line (told a).number) (cond (told a).cut [] (finished_text z nvm (told a).boundary))

unfoldable pub restart_text : Sizes → Restarted → List ℕ
restart_text z r = answer_text z r.machine.nvm r.answer

-- the whole report
unfoldable pub report_of : SizesAt → (input : List ℕ) → List ℕ
report_of p input =
    let number = input_refusal p input in
    cond (eqb number 0) (restart_text (sizes_in p input) (recovered_from p input)) (refused_line number)

-- ---- where it is printed
-- the most bytes of a line: `boundary ` or `refused ` and a number, or two numbers and a space, and the newline
abbrev pub boundary_room : ℕ
boundary_room = 9 + max_digits + 1

abbrev pub refused_room : ℕ
refused_room = 8 + max_digits + 1

abbrev pub word_room : ℕ
word_room = max_digits + 1 + max_digits + 1

-- a report has at most this many bytes: the line of the boundary, and one for each data word
abbrev pub room : ℕ
room = boundary_room + word_room * max_words

-- what is printed into a buffer of a length: nothing where a report might not fit
unfoldable pub printed_of : SizesAt → (size : ℕ) → (input : List ℕ) → List ℕ
printed_of p size input = cond (leb room size) (report_of p input) []

-- ---- from standard input to standard output
-- r bytes are the report of an input: all that was read, and that is at most one byte more than the longest
pub record Reported (p : SizesAt) (r : ℕ) : Type 0 where
  pub input : List ℕ
  pub read : length input ≤ longest p + 1
  pub printed : r ≡ length (report_of p input)
