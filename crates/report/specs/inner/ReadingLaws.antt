-- Inner: how the code goes, need not be believed. Laws of reading: a word is eight bytes; the image word by word, and how many words it has;
-- which inputs are well formed, and which are refused. Assumes nothing.
use Rattle.std.specs.Prelude.{◌≡◌, ◌≢◌, true, false, eqb, ltb, length, get_or, set, take, drop}
use Rattle.std.proofs.Math.Path.{refl, ap}
use Rattle.std.proofs.Common.{sym, ◌∙◌, add-one, drop-cons, take-suc-set, length-drop, length-take-le, take_all, w64}
use Rattle.std.proofs.lemmas.List.{take_rest}
use Rattle.std.specs.Int.{from_le_bytes}
use Rattle.std.proofs.Math.Bool.{and-false}
use mathlib.Core.List.{List, [], ◌∷◌, ◌++◌}
use Prim.Native.Nat.{ℕ, zero, suc, ◌+◌, ◌-◌, ◌*◌, ◌/◌, ◌%◌, ◌≤◌, ◌<◌}
use native.Mathlib.Omega.{arith}
use Rattle.std.proofs.Math.ListN.{length-append}
use Rattle.std.proofs.Math.Seq.{take-length}
use borrow.Author.Tests.{eq-eqb, ne_eqb, eqb-true, ltb-true, ltb-false, lt-ltb, le-ltb}
use Rattle.laws.specs.inner.Tests.{split, and_left, and_right}
use Rattle.image.specs.Image.{max_image, sizes_ok, former_length}
use Rattle.image.specs.inner.ImageLaws.{sizes-in, length-small}
use Rattle.image.specs.declared.Sizes.{Sizes}
use Rattle.report.specs.Report.{little_endian, word_at, sizes_in, words_in, well_formed, longest, input_refusal}
use Rattle.report.specs.inner.ReportFacts.{image_words}
use Rattle.report.specs.declared.SizesAt.{SizesAt}
use Rattle.report.specs.declared.SizesAt.TheVariants.{Start, End}

-- ---- bytes
-- one byte more
little-more : (input : List ℕ) (at next n : ℕ) → at < length input → next ≡ at + 1
    → little_endian (take (suc n) (drop at input)) ≡ get_or input at 0 + 256 * little_endian (take n (drop next input))
unfolding little_endian
little-more input at next n h e =
    ap (λ l. little_endian (take (suc n) l)) (drop-cons input at 0 h)
    ∙ ap (λ k. get_or input at 0 + 256 * little_endian (take n (drop k input))) (let q : suc at ≡ next = omega arith in q)

little-none : (l : List ℕ) → little_endian (take 0 l) ≡ 0
unfolding little_endian
little-none [] = refl
little-none (b ∷ bs) = refl

-- four bytes, and what follows them
module _ (input : List ℕ) (at n : ℕ) (h : at + 4 ≤ length input) where
  little-four : little_endian (take (suc (suc (suc (suc n)))) (drop at input))
      ≡ get_or input at 0 + 256 * (get_or input (at + 1) 0 + 256
      * (get_or input (at + 2) 0 + 256 * (get_or input (at + 3) 0 + 256 * little_endian (take n (drop (at + 4) input)))))
  little-four =
      let a = little-more input at (at + 1) (suc (suc (suc n))) (omega arith) (omega arith) in
      let b = little-more input (at + 1) (at + 2) (suc (suc n)) (omega arith) (omega arith) in
      let c = little-more input (at + 2) (at + 3) (suc n) (omega arith) (omega arith) in
      let d = little-more input (at + 3) (at + 4) n (omega arith) (omega arith) in
      omega (arith, a, b, c, d)

-- eight bytes, as the library spells them
word-spelt : (bytes : List ℕ) → length bytes ≡ 8 → from_le_bytes w64 bytes ≡ little_endian bytes
word-spelt bytes h =
    omega (
      arith,
      little-four bytes 0 4 (omega arith),
      little-four bytes 4 0 (omega arith),
      little-none (drop 8 bytes),
      ap little_endian (take_all 8 bytes (omega arith)),
    )

-- a word's bytes, as they are taken from the input
pub word_read : (input bytes : List ℕ) (i : ℕ) → 8 * (i + 1) ≤ length input → bytes ≡ take 8 (take (length input - 8 * i) (drop (8 * i) input))
    → from_le_bytes w64 bytes ≡ word_at input i
unfolding word_at
word_read input bytes i h e =
    let same : bytes ≡ take 8 (drop (8 * i) input) = e ∙ ap (take 8) (take_rest input (8 * i)) in
    word-spelt bytes (ap length same ∙ length-take-le 8 (drop (8 * i) input) (omega (arith, length-drop (8 * i) input))) ∙ ap little_endian same

-- ---- words from word k on, as a loop reads them
module _ (input : List ℕ) (k : ℕ) where
  pub decoded-none : (nvm : List ℕ) → take 0 nvm ≡ words_in input k 0
  unfolding words_in
  decoded-none [] = refl
  decoded-none (x ∷ nvm) = refl

  pub decoded-more : (nvm : List ℕ) (i v : ℕ) → i < length nvm → take i nvm ≡ words_in input k i → v ≡ word_at input (k + i)
      → take (i + 1) (set nvm i v) ≡ words_in input k (i + 1)
  unfolding words_in
  decoded-more nvm i v h e w = rw (add-one i) (take-suc-set nvm i v h ∙ ap (λ l. l ++ (v ∷ [])) e ∙ ap (λ x. words_in input k i ++ (x ∷ [])) w)

  pub decoded-all : (nvm : List ℕ) (i n : ℕ) → i ≡ length nvm → n ≡ i → take i nvm ≡ words_in input k i → nvm ≡ words_in input k n
  decoded-all nvm i n h q e = sym (take-length nvm) ∙ ap (λ j. take j nvm) (sym h) ∙ e ∙ ap (words_in input k) (sym q)

  pub length-words : (n : ℕ) → length (words_in input k n) ≡ n
  unfolding words_in
  length-words zero = refl
  length-words (suc n) = length-append (words_in input k n) _ ∙ rw (length-words n) (omega arith)

-- ---- well formed inputs
module _ (input : List ℕ) where
  -- too short for the sizes
  pub short-input : length input < 24 → false ≡ well_formed input
  unfolding well_formed
  short-input h =
      rw (ne_eqb (length input) (8 * (3 + former_length (sizes_in Start input))) (λ e. omega arith)) (sym (and-false (sizes_ok (sizes_in Start input))))

  pub bad-sizes : sizes_ok (sizes_in Start input) ≡ false → false ≡ well_formed input
  unfolding well_formed
  bad-sizes e = rw e

  pub length-tested : (n : ℕ) → sizes_ok (sizes_in Start input) ≡ true → n ≡ former_length (sizes_in Start input)
      → eqb (length input) (8 * (3 + n)) ≡ well_formed input
  unfolding well_formed
  length-tested n e h = rw (e, h)

  pub well-sized : well_formed input ≡ true → sizes_ok (sizes_in Start input) ≡ true
  unfolding well_formed
  well-sized e = and_left (sizes_ok (sizes_in Start input)) _ e

  well-long : well_formed input ≡ true → length input ≡ 8 * (3 + former_length (sizes_in Start input))
  unfolding well_formed
  well-long e = eqb-true _ _ (and_right (sizes_ok (sizes_in Start input)) _ e)

-- ---- inputs that are refused, and others
module _ (input : List ℕ) where
  pub refused-form : well_formed input ≡ false → 1 ≡ input_refusal Start input
  unfolding input_refusal
  refused-form e = rw e

  pub taken-form : well_formed input ≡ true → 0 ≡ input_refusal Start input
  unfolding input_refusal
  taken-form e = rw e

  pub refused-long : longest End < length input → 14 ≡ input_refusal End input
  unfolding input_refusal
  refused-long h = rw (lt-ltb (longest End) (length input) h)

  pub refused-bytes : length input ≤ longest End → length input % 8 ≢ 0 → 1 ≡ input_refusal End input
  unfolding input_refusal
  refused-bytes h n = rw (le-ltb (longest End) (length input) h, ne_eqb (length input % 8) 0 n)

  pub taken-words : length input ≤ longest End → length input % 8 ≡ 0 → 0 ≡ input_refusal End input
  unfolding input_refusal
  taken-words h e = rw (le-ltb (longest End) (length input) h, eq-eqb (length input % 8) 0 e)

  -- an input that is not refused, with the sizes at the start
  is-well : input_refusal Start input ≡ 0 → well_formed input ≡ true
  unfolding input_refusal
  is-well e = split (well_formed input) (λ w. w) (λ w. absurd (let z : 1 ≡ 0 = refused-form w ∙ e in omega arith))

  pub start-long : input_refusal Start input ≡ 0 → length input ≡ 8 * (3 + former_length (sizes_in Start input))
  start-long e = well-long input (is-well e)

  pub start-sized : input_refusal Start input ≡ 0 → sizes_ok (sizes_in Start input) ≡ true
  start-sized e = well-sized input (is-well e)

  -- and an image alone
  end_short : input_refusal End input ≡ 0 → length input ≤ longest End
  end_short e =
      split (ltb (longest End) (length input))
      (λ t. absurd (let z : 14 ≡ 0 = refused-long (ltb-true _ _ t) ∙ e in omega arith))
      (λ t. ltb-false _ _ t)

-- ---- the longest
pub longest-few : (p : SizesAt) → longest p ≤ longest End
longest-few Start = omega arith
longest-few End = omega arith

pub not-long : (p : SizesAt) (input : List ℕ) → input_refusal p input ≡ 0 → length input ≤ longest p
not-long Start input e = omega (arith, start-long input e, length-small _ (sizes-in _ (start-sized input e)))
not-long End input e = end_short input e

-- ---- how many words the image has
pub few_words : (p : SizesAt) (input : List ℕ) (n : ℕ) → input_refusal p input ≡ 0 → n ≡ image_words p input → (n ≡ image_words p input) × (n ≤ max_image)
unfolding image_words
few_words Start input n e h = (h, omega (arith, length-small _ (sizes-in _ (start-sized input e))))
few_words End input n e h = (h, omega (arith, end_short input e))

module _ (input : List ℕ) (n : ℕ) where
  pub start-words : (z : Sizes) → z ≡ sizes_in Start input → n ≡ former_length z → n ≡ image_words Start input
  unfolding image_words
  start-words z e h = h ∙ ap former_length e

  pub end-words : n ≡ length input / 8 → n ≡ image_words End input
  unfolding image_words
  end-words h = h

  -- and that the input has them
  pub start_fits : input_refusal Start input ≡ 0 → n ≡ image_words Start input → 8 * (3 + n) ≤ length input
  unfolding image_words
  start_fits e h = omega (arith, start-long input e)

  pub end_fits : n ≡ image_words End input → 8 * (0 + n) ≤ length input
  unfolding image_words
  end_fits h = omega arith
