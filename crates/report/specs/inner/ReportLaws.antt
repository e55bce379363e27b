-- Inner: how the code goes, need not be believed. Laws of the report: what is printed of a refused input and of one that recovery ran on, and what a
-- text at the start of a buffer says. Assumes nothing.
use Rattle.std.specs.Prelude.{◌≡◌, refl, ◌≢◌, true, false, List, [], ◌∷◌, ◌++◌, ℕ, zero, suc, ◌+◌, ◌-◌, ◌≤◌, ◌<◌, leb, take, drop, replicate, Option, Some, None, Result, Ok, Err}
use Rattle.std.proofs.Math.Path.{sym, ap}
use Rattle.std.proofs.Common.{◌∙◌, length-append, length-drop, length-take-le, take_all}
use native.Mathlib.Omega.{arith}
use Rattle.std.proofs.Math.ListN.{length}
use Rattle.std.proofs.lemmas.List.{length-replicate}
use borrow.Author.Tests.{ne_eqb, le-leb, lt-leb, leb-true, leb-false}
use Rattle.laws.specs.inner.Tests.{split}
use Rattle.image.specs.Image.{max_words, sizes_ok, former_length, all_are, sizes_at_end, trailer_ok, data_of}
use Rattle.image.specs.inner.Facts.{IsImage}
use Rattle.image.specs.inner.ImageLaws.{sizes-in, length-small, all-good, trailer-image}
use Rattle.image.specs.declared.Sizes.{Sizes}
use Rattle.record.specs.Record.{max_lag}
use Rattle.store.specs.Interface.{blank_of}
use Rattle.store.specs.declared.Refusal.{Refusal}
use Rattle.store.specs.inner.StoreLaws.{first_holds, first-fails}
use Rattle.recovery.specs.Recovery.{recovered_by, recover_refusal, recover_step, recover_read_refusal, recover_read_step, told}
use Rattle.recovery.specs.Interface.{restarted_of, recovered_of}
use Rattle.recovery.specs.declared.Restart.{Restart}
use Rattle.report.specs.Report.{words_in, all_words, sizes_in, image_in, well_formed, longest, input_refusal, boundary_line, refused_line, word_lines}
use Rattle.report.specs.Report.{finished_text, no_limit, blank, nvm_only, recovered_from, answer_text, restart_text, report_of, room, printed_of, Reported}
use Rattle.report.specs.declared.SizesAt.{SizesAt}
use Rattle.report.specs.declared.SizesAt.TheVariants.{Start, End}
use Rattle.report.specs.inner.ReportFacts.{image_words, Blanks}
use Rattle.report.specs.inner.ReadingLaws.{length-words, start-sized, not-long, refused-form, taken-form, refused-long}

-- ---- blank buffers
take-replicate : (n m : ℕ) → n ≤ m → take {A = ℕ} n (replicate m 0) ≡ replicate n 0
take-replicate zero zero h = refl
take-replicate zero (suc m) h = refl
take-replicate (suc n) zero h = absurd (omega arith)
take-replicate (suc n) (suc m) h = ap (λ (l : List ℕ). 0 ∷ l) (take-replicate n m (omega arith))

pub length-blank : (n : ℕ) → length (blank n) ≡ n
unfolding blank
length-blank n = length-replicate n 0

-- of an array of m zeros the first n are lent
module _ (n m : ℕ) (array : List ℕ) (h : n ≤ m) (e : array ≡ blank m) where
  pub blank_part : (k : ℕ) → n ≡ k → take n array ≡ blank k
  unfolding blank
  blank_part k q = ap (take n) e ∙ take-replicate n m h ∙ ap blank q

  pub blank-room : n ≤ length array
  blank-room = omega (arith, ap length e, length-blank m)

  pub blank-long : n ≡ length (take n array)
  blank-long = sym (length-take-le n array blank-room)

pub blanks-alike : (image : List ℕ) → all_are (length image) (length (blank (length image))) (length image) (length (blank (length image))) ≡ true
blanks-alike image = all-good _ _ _ _ (record { in-cache = length-blank (length image); in-nvm = refl; in-flags = length-blank (length image) })

-- the machine that recovery is given, with an image read into blank buffers
pub blank-nvm : (n : ℕ) (cache nvm flags image : List ℕ) → Blanks n cache nvm flags → length image ≡ n → blank_of cache image flags ≡ nvm_only image
unfolding nvm_only
blank-nvm n cache nvm flags image b l = rw (b.no-cache, l, b.no-flags)

-- ---- which text
module _ (p : SizesAt) (input : List ℕ) where
  pub report-refused : (number : ℕ) → number ≡ input_refusal p input → number ≢ 0 → refused_line number ≡ report_of p input
  unfolding report_of
  report-refused number e h = rw (← e, ne_eqb number 0 h)

  report-taken : input_refusal p input ≡ 0 → restart_text (sizes_in p input) (recovered_from p input) ≡ report_of p input
  unfolding report_of
  report-taken e = rw e

  pub printed-none : (size : ℕ) → size < room → [] ≡ printed_of p size input
  unfolding printed_of
  printed-none size h = rw (lt-leb room size h)

  pub printed-all : (size : ℕ) → room ≤ size → report_of p input ≡ printed_of p size input
  unfolding printed_of
  printed-all size h = rw (le-leb room size h)

-- ---- refusals by recovery
-- the number that refuses recovery of the image of an input, or 0
unfoldable pub recovery_refusal : SizesAt → List ℕ → ℕ
recovery_refusal Start input = recover_refusal (sizes_in Start input) max_lag (nvm_only (image_in Start input))
recovery_refusal End input = recover_read_refusal max_lag (nvm_only (image_in End input))

pub report-by : (p : SizesAt) (input : List ℕ) (number : ℕ) → input_refusal p input ≡ 0 → recovery_refusal p input ≡ number
    → report_of p input ≡ restart_text (sizes_in p input) (recovered_by (sizes_in p input) max_lag no_limit number (nvm_only (image_in p input)))
unfolding recovered_from recovery_refusal recover_step recover_read_step sizes_in image_in nvm_only
report-by Start input number t e =
    sym (report-taken Start input t)
    ∙ ap (λ k. restart_text (sizes_in Start input) (recovered_by (sizes_in Start input) max_lag no_limit k (nvm_only (image_in Start input)))) e
report-by End input number t e =
    sym (report-taken End input t)
    ∙ ap (λ k. restart_text (sizes_in End input) (recovered_by (sizes_in End input) max_lag no_limit k (nvm_only (image_in End input)))) e

pub report-stopped : (p : SizesAt) (input : List ℕ) (number : ℕ) → input_refusal p input ≡ 0 → recovery_refusal p input ≡ number → number ≢ 0
    → report_of p input ≡ refused_line number
unfolding restart_text answer_text told recovered_by
report-stopped p input number t e h = report-by p input number t e ∙ rw (ne_eqb number 0 h)

-- an image that tells no sizes
pub untold : (input : List ℕ) → trailer_ok (image_in End input) ≡ false → recovery_refusal End input ≡ 14
unfolding recovery_refusal recover_read_refusal nvm_only
untold input e = first-fails _ _ (rw (blanks-alike (image_in End input))) ∙ first_holds _ _ (rw e)

-- what is printed of what recovery returned
restart-text : (z : Sizes) (r : Result (Option Restart) Refusal) (cache nvm flags : List ℕ)
    → restart_text z (restarted_of r cache nvm flags) ≡ answer_text z nvm (recovered_of r)
unfolding restart_text restarted_of recovered_of
restart-text z (Err e) cache nvm flags = refl
restart-text z (Ok None) cache nvm flags = refl
restart-text z (Ok (Some r)) cache nvm flags = refl

-- ---- the image that was read, and what recovery made of it
module _ (input cache nvm flags image : List ℕ) where
  module _ (t : input_refusal Start input ≡ 0) (b : Blanks (image_words Start input) cache nvm flags) (m : image ≡ words_in input 3 (length nvm)) where
    pub start-read : image ≡ image_in Start input
    unfolding image_in image_words
    start-read = m ∙ ap (words_in input 3) b.in-nvm

    pub report-given : (z : Sizes) (r : Result (Option Restart) Refusal) (cache₁ nvm₁ flags₁ : List ℕ) → z ≡ sizes_in Start input
        → restarted_of r cache₁ nvm₁ flags₁ ≡ recover_step z max_lag no_limit (blank_of cache image flags)
        → answer_text z nvm₁ (recovered_of r) ≡ report_of Start input
    unfolding restart_text recovered_from
    report-given z r cache₁ nvm₁ flags₁ s e =
        let found = blank-nvm _ cache nvm flags image b (ap length m ∙ length-words input 3 (length nvm) ∙ b.in-nvm) in
        let same : restart_text z (recover_step z max_lag no_limit (nvm_only image)) ≡ restart_text (sizes_in Start input) (recovered_from Start input) =
        rw (s, start-read) in
        sym (restart-text z r cache₁ nvm₁ flags₁) ∙ ap (restart_text z) (e ∙ ap (recover_step z max_lag no_limit) found) ∙ same ∙ report-taken Start input t

  module _ (t : input_refusal End input ≡ 0) (b : Blanks (image_words End input) cache nvm flags) (m : image ≡ words_in input 0 (length nvm)) where
    pub end_read : image ≡ all_words input
    unfolding image_words all_words
    end_read = m ∙ ap (words_in input 0) b.in-nvm

    pub report-told : (z : Sizes) (r : Result (Option Restart) Refusal) (cache₁ nvm₁ flags₁ : List ℕ) → z ≡ sizes_at_end image
        → restarted_of r cache₁ nvm₁ flags₁ ≡ recover_read_step max_lag no_limit (blank_of cache image flags)
        → answer_text z nvm₁ (recovered_of r) ≡ report_of End input
    unfolding restart_text recovered_from sizes_in image_in
    report-told z r cache₁ nvm₁ flags₁ s e =
        let found = blank-nvm _ cache nvm flags image b (ap length m ∙ length-words input 0 (length nvm) ∙ b.in-nvm) in
        let same : restart_text z (recover_read_step max_lag no_limit (nvm_only image)) ≡ restart_text (sizes_in End input) (recovered_from End input) =
        rw (s, end_read) in
        sym (restart-text z r cache₁ nvm₁ flags₁) ∙ ap (restart_text z) (e ∙ ap (recover_read_step max_lag no_limit) found) ∙ same ∙ report-taken End input t

    pub report-untold : trailer_ok image ≡ false → refused_line 14 ≡ report_of End input
    unfolding image_in
    report-untold e = sym (report-stopped End input 14 t (untold input (ap trailer_ok (sym end_read) ∙ e)) (λ q. omega arith))

-- ---- the image is one, with its sizes, and stays one as long as its length stays
pub start-image : (input : List ℕ) (z : Sizes) (nvm : List ℕ) → input_refusal Start input ≡ 0 → z ≡ sizes_in Start input → length nvm ≡ image_words Start input
    → IsImage z nvm
unfolding image_words
start-image input z nvm t s l =
    let ok : sizes_ok z ≡ true = rw s (start-sized input t) in
    let e : length nvm ≡ former_length z = rw s l in
    record { sizes-ok = ok; in_image = omega arith; small = omega (arith, length-small z (sizes-in z ok)) }

pub end-image : (image : List ℕ) → trailer_ok image ≡ true → (z : Sizes) (nvm : List ℕ) → z ≡ sizes_at_end image → length nvm ≡ length image → IsImage z nvm
end-image image t z nvm s l =
    let i = trailer-image image t in
    rw s (record { sizes-ok = i.sizes-ok; in_image = rw l i.in_image; small = rw l i.small })

-- ---- an input of which the first bytes were read
-- the number that refuses one that is too long
too_long : SizesAt → ℕ
too_long Start = 1
too_long End = 14

long-refused : (p : SizesAt) (input : List ℕ) → longest p < length input → report_of p input ≡ refused_line (too_long p)
unfolding too_long
long-refused Start input h =
    split (well_formed input)
    (λ w. absurd (omega (arith, not-long Start input (sym (taken-form input w)))))
    (λ w. sym (report-refused Start input 1 (refused-form input w) (λ q. omega arith)))
long-refused End input h = sym (report-refused End input 14 (refused-long input h) (λ q. omega arith))

-- one byte more than the longest is enough: the report of these bytes is that of the whole input
pub taken-same : (p : SizesAt) (input : List ℕ) → report_of p (take (longest p + 1) input) ≡ report_of p input
taken-same p input =
    split (leb (length input) (longest p + 1))
    (λ e. ap (report_of p) (take_all (longest p + 1) input (leb-true _ _ e)))
    (λ e.
    let more : longest p + 1 < length input = leb-false _ _ e in
    long-refused p (take (longest p + 1) input) (omega (arith, length-take-le (longest p + 1) input (omega arith)))
    ∙ sym (long-refused p input (omega arith)))

-- the first n bytes of a part are those of the whole
pub within : (n : ℕ) (part rest : List ℕ) → n ≤ length part → n ≤ length (part ++ rest)
within n part rest h = rw (length-append part rest) (omega arith)

pub taken-few : (n k : ℕ) (l : List ℕ) → n ≤ k → length (take n l) ≤ k
taken-few zero k [] h = omega arith
taken-few zero k (x ∷ l) h = omega arith
taken-few (suc n) k [] h = omega arith
taken-few (suc n) zero (x ∷ l) h = absurd (omega arith)
taken-few (suc n) (suc k) (x ∷ l) h = omega (arith, taken-few n k l (omega arith))

-- the report of what was read, in a buffer with room for any report
pub reported : (p : SizesAt) (input : List ℕ) (size r : ℕ) (output : List ℕ) → length input ≤ longest p + 1 → room ≤ size → r ≡ length (take r output)
    → take r output ≡ printed_of p size input → Reported p r
reported p input size r output few big counts shown =
    record { input = input; read = few; printed = counts ∙ ap length (shown ∙ sym (printed-all p input size big)) }

-- ---- what a finished recovery prints
-- the data words are the part of the image that is printed
module _ (z : Sizes) (nvm : List ℕ) (i : IsImage z nvm) where
  pub words-few : z.words ≤ max_words
  words-few = (sizes-in z i.sizes-ok).words-high

  pub words-within : 1 + z.words ≤ length nvm
  unfolding former_length
  words-within = omega (arith, i.in_image)

  pub words_long : length (take (1 + z.words - 1) (drop 1 nvm)) ≡ z.words
  words_long = length-take-le (1 + z.words - 1) (drop 1 nvm) (omega (arith, words-within, length-drop 1 nvm))
      ∙ (let e : 1 + z.words - 1 ≡ z.words = omega arith in e)

  pub finished-text : (b : Option ℕ)
      → boundary_line b ++ word_lines (take (1 + z.words - 1) (drop 1 nvm)) (length (take (1 + z.words - 1) (drop 1 nvm))) ≡ finished_text z nvm b
  unfolding finished_text data_of
  finished-text b =
      ap (λ n. boundary_line b ++ word_lines (take (1 + z.words - 1) (drop 1 nvm)) n) words_long
      ∙ ap (λ n. boundary_line b ++ word_lines (take n (drop 1 nvm)) z.words) (let e : 1 + z.words - 1 ≡ z.words = omega arith in e)
