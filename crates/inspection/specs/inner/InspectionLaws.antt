-- Inner: how the code goes, need not be believed. Laws of the inspection: what is listed of an input, and the report after it. Assumes nothing.
use Rattle.std.specs.Prelude.{◌≡◌, ◌≢◌, true, not, List, [], ◌++◌, ℕ, ◌≤◌, ◌<◌, eqb, Result, Ok, Err, ⊤}
use Rattle.std.proofs.Math.Path.{refl, ap}
use Rattle.std.proofs.Common.{sym, ◌∙◌, arith}
use Rattle.std.proofs.Math.ListN.{length}
use borrow.Author.Tests.{ne_eqb, le-leb, lt-leb}
use Rattle.laws.specs.inner.Tests.{split}
use Rattle.image.specs.Image.{trailer_ok, sizes_at_end}
use Rattle.image.specs.declared.Sizes.{Sizes}
use Rattle.record.specs.Record.{max_lag}
use Rattle.store.specs.Interface.{blank_of, refusal_of}
use Rattle.store.specs.declared.Refusal.{Refusal}
use Rattle.store.specs.inner.ResultLaws.{not-zero}
use Rattle.store.specs.Machine.{Machine}
use Rattle.recovery.specs.Recovery.{all_made, recovered_by, recover_refusal, recover_step, recover_read_refusal, recover_read_step, told}
use Rattle.report.specs.Report.{words_in, sizes_in, image_in, input_refusal, no_limit, nvm_only, recovered_from, report_of}
use Rattle.report.specs.declared.SizesAt.{SizesAt}
use Rattle.report.specs.declared.SizesAt.TheVariants.{Start, End}
use Rattle.report.specs.inner.ReportFacts.{image_words, Blanks}
use Rattle.report.specs.inner.ReadingLaws.{length-words}
use Rattle.report.specs.inner.ReportLaws.{recovery_refusal, blank-nvm, start-read, end_read, untold}
use Rattle.inspection.specs.Inspection.{listing, listed, inspection_of, inspected_of, inspection_room}

-- ---- what is listed
-- a test that finds a cause: a number that is not 0
pub refused-for : (r : Result ⊤ Refusal) → ((t : ⊤) → r ≡ Ok t → ⊥) → refusal_of r ≢ 0
unfolding refusal_of
refused-for (Ok t) h e = h t refl
refused-for (Err x) h e = not-zero x e

-- recovery's answer is a refusal exactly where its number is not 0
answered : (z : Sizes) (lag limit number : ℕ) (m : Machine) → (told (recovered_by z lag limit number m).answer).refused ≡ not (eqb number 0)
unfolding recovered_by told
answered z lag limit number m =
    split (eqb number 0) (λ e. rw e (split (all_made z limit m.nvm) (λ f. rw f) (λ f. rw f))) (λ e. rw e)

refused-by : (p : SizesAt) (input : List ℕ) → (told (recovered_from p input).answer).refused ≡ not (eqb (recovery_refusal p input) 0)
unfolding recovered_from recover_step recover_read_step recovery_refusal sizes_in image_in nvm_only
refused-by Start input = answered _ max_lag no_limit _ _
refused-by End input = answered _ max_lag no_limit _ _

module _ (p : SizesAt) (input : List ℕ) where
  pub listed-refused : (number : ℕ) → number ≡ input_refusal p input → number ≢ 0 → [] ≡ listed p input
  unfolding listed
  listed-refused number e h = rw (← e, ne_eqb number 0 h)

  module _ (t : input_refusal p input ≡ 0) where
    pub listed-stopped : (number : ℕ) → number ≡ recovery_refusal p input → number ≢ 0 → [] ≡ listed p input
    unfolding listed
    listed-stopped number e h = rw (t, refused-by p input, ← e, ne_eqb number 0 h)

    pub listed-all : recovery_refusal p input ≡ 0 → listing (sizes_in p input) (image_in p input) ≡ listed p input
    unfolding listed
    listed-all e = rw (t, refused-by p input, e)

-- ---- the refusal of the image that was read
module _ (input cache nvm flags image : List ℕ) where
  module _ (t : input_refusal Start input ≡ 0) (b : Blanks (image_words Start input) cache nvm flags) (m : image ≡ words_in input 3 (length nvm)) where
    pub given-refusal : (z : Sizes) (number : ℕ) → z ≡ sizes_in Start input → number ≡ recover_refusal z max_lag (blank_of cache image flags)
        → number ≡ recovery_refusal Start input
    unfolding recovery_refusal
    given-refusal z number s e =
        let found = blank-nvm _ cache nvm flags image b (ap length m ∙ length-words input 3 (length nvm) ∙ b.in-nvm) in
        let same : recover_refusal z max_lag (nvm_only image) ≡ recover_refusal (sizes_in Start input) max_lag (nvm_only (image_in Start input)) =
        rw (s, start-read input cache nvm flags image t b m) in
        e ∙ ap (recover_refusal z max_lag) found ∙ same

    pub given-listed : (z : Sizes) (number : ℕ) → z ≡ sizes_in Start input → number ≡ recover_refusal z max_lag (blank_of cache image flags) → number ≡ 0
        → listing z image ≡ listed Start input
    given-listed z number s e h =
        ap (λ z. listing z image) s ∙ ap (listing (sizes_in Start input)) (start-read input cache nvm flags image t b m)
        ∙ listed-all Start input t (sym (given-refusal z number s e) ∙ h)

  module _ (t : input_refusal End input ≡ 0) (b : Blanks (image_words End input) cache nvm flags) (m : image ≡ words_in input 0 (length nvm)) where
    pub told-image : image ≡ image_in End input
    unfolding image_in
    told-image = end_read input cache nvm flags image t b m

    pub told-refusal : (number : ℕ) → number ≡ recover_read_refusal max_lag (blank_of cache image flags) → number ≡ recovery_refusal End input
    unfolding recovery_refusal
    told-refusal number e =
        let found = blank-nvm _ cache nvm flags image b (ap length m ∙ length-words input 0 (length nvm) ∙ b.in-nvm) in
        e ∙ ap (recover_read_refusal max_lag) found ∙ ap (λ i. recover_read_refusal max_lag (nvm_only i)) told-image

    -- an image that is not refused tells its sizes
    pub told-trailer : recovery_refusal End input ≡ 0 → trailer_ok image ≡ true
    told-trailer e =
        split (trailer_ok image) (λ f. f) (λ f. absurd (let z : 14 ≡ 0 = sym (untold input (ap trailer_ok (sym told-image) ∙ f)) ∙ e in omega arith))

    pub told-listed : (z : Sizes) (number : ℕ) → z ≡ sizes_at_end image → number ≡ recover_read_refusal max_lag (blank_of cache image flags) → number ≡ 0
        → listing z image ≡ listed End input
    unfolding sizes_in
    told-listed z number s e h =
        ap (λ z. listing z image) (s ∙ ap sizes_at_end (end_read input cache nvm flags image t b m)) ∙ ap (listing (sizes_in End input)) told-image
        ∙ listed-all End input t (sym (told-refusal number e) ∙ h)

-- ---- the rules for programs `inspect` and `inspect_read`
-- bad input gets the lines of `recover` and `recover_read`, and nothing else, whether it is refused by itself or by recovery; all other input the listing first
module _ (p : SizesAt) (input : List ℕ) where
  pub refused-alike : input_refusal p input ≢ 0 → inspection_of p input ≡ report_of p input
  unfolding inspection_of
  refused-alike h = ap (λ l. l ++ report_of p input) (sym (listed-refused p input (input_refusal p input) refl h))

  module _ (t : input_refusal p input ≡ 0) where
    pub stopped-alike : recovery_refusal p input ≢ 0 → inspection_of p input ≡ report_of p input
    unfolding inspection_of
    stopped-alike h = ap (λ l. l ++ report_of p input) (sym (listed-stopped p input t (recovery_refusal p input) refl h))

    pub taken-first : recovery_refusal p input ≡ 0 → inspection_of p input ≡ listing (sizes_in p input) (image_in p input) ++ report_of p input
    unfolding inspection_of
    taken-first e = ap (λ l. l ++ report_of p input) (sym (listed-all p input t e))

-- ---- the report after the listing
module _ (p : SizesAt) (input : List ℕ) where
  pub inspected-none : (size : ℕ) → size < inspection_room → [] ≡ inspected_of p size input
  unfolding inspected_of
  inspected-none size h = rw (lt-leb inspection_room size h)

  pub inspected-all : (size : ℕ) → inspection_room ≤ size → inspection_of p input ≡ inspected_of p size input
  unfolding inspected_of
  inspected-all size h = rw (le-leb inspection_room size h)
