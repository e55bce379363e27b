-- Inner: how the code goes, need not be believed. The rules for programs `recover` and `recover_read`, as theorems about their reports: refused with 1, 14
-- or 10, or the boundary and the data words after all of recovery's stores. So neither is ever cut. Assumes nothing.
use Rattle.std.specs.Prelude.{◌≡◌, refl, ◌≢◌, true, false, List, [], ◌∷◌, ℕ, ◌%◌, ◌≤◌, ◌<◌, length}
use Rattle.std.proofs.Common.{sym, ap, ◌∙◌, arith, take_all, eq-eqb, ne_eqb, le-leb}
use Rattle.image.specs.Image.{sizes_ok, former_length, trailer_ok, base_of}
use Rattle.image.specs.inner.ImageLaws.{sizes-in, former-good, trailer-in}
use Rattle.image.specs.Stores.{stored}
use Rattle.image.specs.declared.Sizes.{Sizes}
use Rattle.record.specs.Record.{max_lag, lag_ok}
use Rattle.store.specs.Calls.{bad_lag, started}
use Rattle.store.specs.Machine.{first_cause}
use Rattle.store.specs.inner.StoreLaws.{first_holds, first-fails, first-end}
use Rattle.recovery.specs.Recovery.{boundary, recovery_stores, recovered_nvm, all_made, recovered_by, odd_base, recover_refusal, recover_read_refusal, told}
use Rattle.report.specs.Report.{sizes_in, image_in, well_formed, longest, input_refusal, refused_line, finished_text, no_limit, nvm_only}
use Rattle.report.specs.Report.{answer_text, restart_text, report_of}
use Rattle.report.specs.declared.SizesAt.{SizesAt}
use Rattle.report.specs.declared.SizesAt.TheVariants.{Start, End}
use Rattle.report.specs.inner.ReadingLaws.{length-words, well-sized, refused-form, taken-form, refused-long, refused-bytes, taken-words}
use Rattle.report.specs.inner.ReportLaws.{length-blank, blanks-alike, report-refused, recovery_refusal, report-by, report-stopped, untold}
use Rattle.report.specs.inner.NoLimitLaws.{no-limit}

-- the report of a finished recovery: the words after all its stores
unfoldable pub all_stored : Sizes → List ℕ → List ℕ
all_stored z image = finished_text z (stored (recovery_stores z image) image) (boundary z image)

-- the lag limit that recovery is given is one
any-lag : (bad_lag max_lag).holds ≡ false
unfolding bad_lag lag_ok
any-lag = refl

-- an image with its sizes, where nothing but an odd base refuses recovery
module _ (p : SizesAt) (input : List ℕ) (t : input_refusal p input ≡ 0) (s : sizes_ok (sizes_in p input) ≡ true)
    (f : recovery_refusal p input ≡ first_cause (odd_base (nvm_only (image_in p input)) ∷ [])) where
  odd : base_of (image_in p input) % 2 ≡ 1 → report_of p input ≡ refused_line 10
  unfolding odd_base nvm_only
  odd h = report-stopped p input 10 t (f ∙ first_holds _ _ (eq-eqb (base_of (image_in p input) % 2) 1 h)) (λ q. omega arith)

  even : base_of (image_in p input) % 2 ≡ 0 → report_of p input ≡ all_stored (sizes_in p input) (image_in p input)
  unfolding odd_base nvm_only restart_text answer_text told recovered_by recovered_nvm all_made started all_stored
  even h =
      let z = sizes_in p input in
      let image = image_in p input in
      let few = no-limit z (sizes-in z s) image in
      report-by p input 0 t (f ∙ first-fails _ _ (ne_eqb (base_of image % 2) 1 (λ q. omega arith)) ∙ first-end)
      ∙ rw (le-leb (length (recovery_stores z image)) no_limit few)
      (ap (λ l. finished_text z (stored l image) (boundary z image)) (take_all no_limit (recovery_stores z image) few))

-- ---- sizes at the start
pub bad-input : (input : List ℕ) → well_formed input ≡ false → report_of Start input ≡ refused_line 1
bad-input input e = sym (report-refused Start input 1 (refused-form input e) (λ q. omega arith))

module _ (input : List ℕ) (w : well_formed input ≡ true) where
  fits : recovery_refusal Start input ≡ first_cause (odd_base (nvm_only (image_in Start input)) ∷ [])
  unfolding recovery_refusal recover_refusal nvm_only image_in
  fits =
      let n = former_length (sizes_in Start input) in
      let long = length-words input 3 n in
      let blank-long = length-blank (length (image_in Start input)) ∙ long in
      first-fails _ _
      (rw (former-good (sizes_in Start input) _ _ _ (well-sized input w) (record { in-cache = blank-long; in-nvm = long; in-flags = blank-long })))
      ∙ first-fails _ _ any-lag

  pub odd-base : base_of (image_in Start input) % 2 ≡ 1 → report_of Start input ≡ refused_line 10
  odd-base = odd Start input (sym (taken-form input w)) (well-sized input w) fits

  pub even_base : base_of (image_in Start input) % 2 ≡ 0 → report_of Start input ≡ all_stored (sizes_in Start input) (image_in Start input)
  even_base = even Start input (sym (taken-form input w)) (well-sized input w) fits

-- ---- an image alone
pub too-long : (input : List ℕ) → longest End < length input → report_of End input ≡ refused_line 14
too-long input h = sym (report-refused End input 14 (refused-long input h) (λ q. omega arith))

module _ (input : List ℕ) (l : length input ≤ longest End) where
  pub no_words : length input % 8 ≢ 0 → report_of End input ≡ refused_line 1
  no_words d = sym (report-refused End input 1 (refused-bytes input l d) (λ q. omega arith))

  module _ (w : length input % 8 ≡ 0) where
    pub bad-trailer : trailer_ok (image_in End input) ≡ false → report_of End input ≡ refused_line 14
    bad-trailer e = report-stopped End input 14 (sym (taken-words input l w)) (untold input e) (λ q. omega arith)

    module _ (t : trailer_ok (image_in End input) ≡ true) where
      told-fits : recovery_refusal End input ≡ first_cause (odd_base (nvm_only (image_in End input)) ∷ [])
      unfolding recovery_refusal recover_read_refusal nvm_only
      told-fits = first-fails _ _ (rw (blanks-alike (image_in End input))) ∙ first-fails _ _ (rw t) ∙ first-fails _ _ any-lag

      told-sized : sizes_ok (sizes_in End input) ≡ true
      unfolding sizes_in image_in
      told-sized = (trailer-in (image_in End input) t).0

      pub odd-image : base_of (image_in End input) % 2 ≡ 1 → report_of End input ≡ refused_line 10
      odd-image = odd End input (sym (taken-words input l w)) told-sized told-fits

      pub even-image : base_of (image_in End input) % 2 ≡ 0 → report_of End input ≡ all_stored (sizes_in End input) (image_in End input)
      even-image = even End input (sym (taken-words input l w)) told-sized told-fits
