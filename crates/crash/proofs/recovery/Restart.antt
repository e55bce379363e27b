-- Recovery, by the call that fits the image: on an even base refused for its lag limit alone, and, however often it is cut short, it leads to the image
-- of the cut cells. Assumes nothing.
use mathlib.Core.Path.{◌≡◌, refl, ap, ◌∙◌, sym}
use mathlib.Core.Logic.{◌⊎◌, inl, inr}
use mathlib.Core.Bool.{Bool, true, false, cond, not}
use mathlib.Core.List.{List, [], ◌++◌}
use Prim.Native.Nat.{ℕ, ◌%◌, ◌≤◌}
use native.Mathlib.Omega.{arith}
use lib.ListN.{length, take, replicate, length-append, length-replicate}
use lib.Seq.{take_all, length-take-le}
use borrow.Author.Tests.{eq-eqb, ne_eqb, eqb-false, leb-true, not-false}
use Rattle.laws.specs.inner.Tests.{split}
use Rattle.laws.specs.inner.Lists.{All-take}
use Rattle.image.specs.Image.{sizes_ok, former_length, trailer, image_length, base_of}
use Rattle.image.specs.inner.ImageLaws.{image-filled, all-good, former-in, former-good}
use Rattle.image.specs.Stores.{stored}
use Rattle.image.specs.inner.StoresLaws.{length-stored}
use Rattle.image.specs.declared.Sizes.{Sizes}
use Rattle.store.specs.Machine.{Machine, first_cause}
use Rattle.record.specs.Record.{lag_ok}
use Rattle.store.specs.Calls.{bad_lag, started}
use Rattle.store.specs.inner.StoreLaws.{first-none}
use Rattle.recovery.specs.Recovery.{boundary, undo_stores, new_base, torn_in, recovery_stores, recovered_nvm, all_made, Restarted, recovered_by}
use Rattle.recovery.specs.Recovery.{odd_base, recover_refusal, recover_step, recover_read_refusal, recover_read_step}
use Rattle.recovery.specs.declared.Finished.{Finished}
use Rattle.recovery.specs.Answers as Recovered
use Rattle.recovery.specs.Answers.{Refused, Cut}
use Rattle.crash.specs.Events.{vandzulge, is_former, recovery_of, cut_short_of, fitted}
use Rattle.crash.specs.Theorem.{end_of, recovery_answer}
use Rattle.recovery.specs.inner.SequenceLaws.{new_base-even}
use Rattle.recovery.specs.inner.AgainLaws.{recovered_image, cut-base, recovered-again}
use Rattle.recovery.specs.inner.FreshLaws.{stores-within, recovered-base}
use Rattle.crash.proofs.lane.Ends.{Form, end-stored, end_none, end-sized, end-sizes, end-ok}

-- an image with a trailer is not of the former length
pub not-former : (z : Sizes) (image : List ℕ) → former_length z ≤ length image → end_of z image ≡ trailer z → length image ≡ former_length z → ⊥
unfolding image_length
not-former z image size e n = omega (arith, end-sized z image size e)

lag-refusal : (b : Bool) → ◌≡◌ {A = ℕ} (cond (not b) 16 0) (cond b 0 16)
lag-refusal true = refl
lag-refusal false = refl

-- ---- not refused but for the lag limit, by the call that fits
module _ (z : Sizes) (ok : sizes_ok z ≡ true) (m : Machine) (size : former_length z ≤ length m.nvm)
    (cache : length m.cache ≡ length m.nvm) (flags : length m.flags ≡ length m.nvm) (even : base_of m.nvm % 2 ≡ 0) (lag : ℕ) where
  given-taken : end_of z m.nvm ≡ [] → recover_refusal z lag m ≡ cond (lag_ok lag) 0 16
  unfolding recover_refusal first_cause bad_lag odd_base
  given-taken e =
      let n = end_none z m.nvm size e in
      rw (former-good z _ _ _ ok (record { in-cache = cache ∙ n; in-nvm = n; in-flags = flags ∙ n }), ne_eqb (base_of m.nvm % 2) 1 (λ p. omega arith))
      (lag-refusal (lag_ok lag))

  told-taken : end_of z m.nvm ≡ trailer z → recover_read_refusal lag m ≡ cond (lag_ok lag) 0 16
  unfolding recover_read_refusal first_cause bad_lag odd_base
  told-taken e =
      rw (
        all-good _ _ _ _ (record { in-cache = cache; in-nvm = refl; in-flags = flags }),
        end-ok z m.nvm size e ok,
        ne_eqb (base_of m.nvm % 2) 1 (λ p. omega arith),
      )
      (lag-refusal (lag_ok lag))

  pub recovery-taken : (limit : ℕ) → Form z (end_of z m.nvm) → recovery_of vandzulge z lag limit m ≡ recovered_by z lag limit (cond (lag_ok lag) 0 16) m
  unfolding recovery_of is_former vandzulge recover_step recover_read_step
  recovery-taken limit (inl e) = rw (eq-eqb (length m.nvm) (former_length z) (end_none z m.nvm size e), given-taken e)
  recovery-taken limit (inr e) =
      rw (ne_eqb (length m.nvm) (former_length z) (not-former z m.nvm size e), end-sizes z m.nvm size e, told-taken e)

-- and what a recovery that power cuts short leaves is what the call would
pub cut-taken : (z : Sizes) (n : ℕ) (nvm : List ℕ) → former_length z ≤ length nvm → Form z (end_of z nvm) → cut_short_of vandzulge z n nvm ≡ recovered_nvm z n nvm
unfolding cut_short_of is_former vandzulge
cut-taken z n nvm size (inl e) = rw (eq-eqb (length nvm) (former_length z) (end_none z nvm size e))
cut-taken z n nvm size (inr e) = rw (ne_eqb (length nvm) (former_length z) (not-former z nvm size e), end-sizes z nvm size e)

pub length-fitted : (n : ℕ) (l : List ℕ) → length (fitted n l) ≡ n
unfolding fitted
length-fitted n l = length-take-le n (l ++ replicate n 0) (omega (arith, length-append l (replicate n 0), length-replicate {A = ℕ} n 0))

-- ---- the stores made
pub made_all : (z : Sizes) (limit : ℕ) (nvm : List ℕ) → all_made z limit nvm ≡ true → recovered_nvm z limit nvm ≡ recovered_image z nvm
unfolding all_made recovered_nvm
made_all z limit nvm e = ap (λ l. stored l nvm) (take_all limit (recovery_stores z nvm) (leb-true _ _ e))

pub length-recovered_nvm : (z : Sizes) (k : ℕ) (nvm : List ℕ) → length (recovered_nvm z k nvm) ≡ length nvm
unfolding recovered_nvm
length-recovered_nvm z k nvm = length-stored (take k (recovery_stores z nvm)) nvm

pub recovered_nvm-even : (z : Sizes) (k : ℕ) (nvm : List ℕ) → former_length z ≤ length nvm → base_of nvm % 2 ≡ 0 → base_of (recovered_nvm z k nvm) % 2 ≡ 0
recovered_nvm-even z k nvm s h = go (cut-base z nvm (image-filled z (length nvm) s) k)
  where
    go : (base_of (recovered_nvm z k nvm) ≡ base_of nvm) ⊎ (base_of (recovered_nvm z k nvm) ≡ new_base z nvm) → base_of (recovered_nvm z k nvm) % 2 ≡ 0
    go (inl e) = rw e h
    go (inr e) = rw e (new_base-even z nvm h)

-- the end stays
pub cut-end : (z : Sizes) (k : ℕ) (nvm : List ℕ) → end_of z (recovered_nvm z k nvm) ≡ end_of z nvm
unfolding recovered_nvm
cut-end z k nvm = end-stored z nvm (All-take k (stores-within z nvm))

pub recovered-end : (z : Sizes) (nvm : List ℕ) → end_of z (recovered_image z nvm) ≡ end_of z nvm
recovered-end z nvm = end-stored z nvm (stores-within z nvm)

-- ---- what the call leaves
pub finished-step : (z : Sizes) (lag limit : ℕ) (m : Machine) → all_made z limit m.nvm ≡ true
    → recovered_by z lag limit 0 m
    ≡ record {
      answer = Recovered.Finished (record { boundary = boundary z m.nvm; undone = length (undo_stores z m.nvm); torn = torn_in z m.nvm });
      machine = started lag (base_of (recovered_image z m.nvm)) (recovered_image z m.nvm);
    }
unfolding recovered_by
finished-step z lag limit m e = rw (e, made_all z limit m.nvm e)

pub cut_step : (z : Sizes) (lag limit : ℕ) (m : Machine) → all_made z limit m.nvm ≡ false
    → recovered_by z lag limit 0 m
    ≡ record { answer = Cut; machine = record { state = m.state; pairs = m.pairs; cache = m.cache; nvm = recovered_nvm z limit m.nvm; flags = m.flags } }
unfolding recovered_by
cut_step z lag limit m e = rw e

-- the answer is the one that the theorem gives
pub answer-finished : (z : Sizes) (lag limit : ℕ) (nvm : List ℕ) → lag_ok lag ≡ true → all_made z limit nvm ≡ true
    → Recovered.Finished (record { boundary = boundary z nvm; undone = length (undo_stores z nvm); torn = torn_in z nvm }) ≡ recovery_answer z lag limit nvm
unfolding recovery_answer
answer-finished z lag limit nvm t e = rw (t, e)

answer-cut : (z : Sizes) (lag limit : ℕ) (nvm : List ℕ) → lag_ok lag ≡ true → all_made z limit nvm ≡ false → Cut ≡ recovery_answer z lag limit nvm
unfolding recovery_answer
answer-cut z lag limit nvm t e = rw (t, e)

answer-refused : (z : Sizes) (lag limit : ℕ) (nvm : List ℕ) → lag_ok lag ≡ false → Refused 16 ≡ recovery_answer z lag limit nvm
unfolding recovery_answer
answer-refused z lag limit nvm t = rw t

-- ---- any number of recoveries cut short
-- these cells lead to the image that a recovery of the cut cells leaves
pub record Leads (z : Sizes) (nvm found : List ℕ) : Type 0 where
  pub size : former_length z ≤ length nvm
  pub even : base_of nvm % 2 ≡ 0
  pub same : recovered_image z nvm ≡ recovered_image z found

pub leads-self : (z : Sizes) (found : List ℕ) → former_length z ≤ length found → base_of found % 2 ≡ 0 → Leads z found found
leads-self z found s e = record { size = s; even = e; same = refl }

module _ (z : Sizes) {nvm found : List ℕ} (l : Leads z nvm found) where
  pub leads-cut : (k : ℕ) → Leads z (recovered_nvm z k nvm) found
  leads-cut k =
      record {
        size = rw (length-recovered_nvm z k nvm) l.size;
        even = recovered_nvm-even z k nvm l.size l.even;
        same = recovered-again z nvm (image-filled z (length nvm) l.size) k ∙ l.same;
      }

  pub leads-length : length found ≡ length nvm
  leads-length = sym (length-stored (recovery_stores z found) found) ∙ sym (ap length l.same) ∙ length-stored (recovery_stores z nvm) nvm

  pub leads-base : base_of (recovered_image z nvm) ≡ new_base z found
  leads-base = ap base_of l.same ∙ recovered-base z found (rw leads-length l.size)

-- the call on cells that lead there: refused for its lag limit, cut short, or the start from the image of the cut cells
pub data Restarts (z : Sizes) (lag limit : ℕ) (found : List ℕ) (m : Machine) : Restarted → Type 0 where
  unfit : Refused 16 ≡ recovery_answer z lag limit m.nvm → Restarts z lag limit found m (record { answer = Refused 16; machine = m })
  short : Cut ≡ recovery_answer z lag limit m.nvm → Leads z (recovered_nvm z limit m.nvm) found
      → Restarts z lag limit found m
      (record {
        answer = Cut;
        machine = record { state = m.state; pairs = m.pairs; cache = m.cache; nvm = recovered_nvm z limit m.nvm; flags = m.flags };
      })
  finished : {a : Finished} → lag_ok lag ≡ true → Recovered.Finished a ≡ recovery_answer z lag limit m.nvm
      → Restarts z lag limit found m (record { answer = Recovered.Finished a; machine = started lag (new_base z found) (recovered_image z found) })

refused-step : (z : Sizes) (lag limit : ℕ) (m : Machine) → recovered_by z lag limit 16 m ≡ record { answer = Refused 16; machine = m }
unfolding recovered_by
refused-step z lag limit m = refl

pub restarts : (z : Sizes) (lag limit : ℕ) {found : List ℕ} (m : Machine) → Leads z m.nvm found
    → Restarts z lag limit found m (recovered_by z lag limit (cond (lag_ok lag) 0 16) m)
restarts z lag limit {found} m l =
    split (lag_ok lag)
    (λ t. rw t
    (split (all_made z limit m.nvm)
    (λ e. rw (finished-step z lag limit m e, leads-base z l, l.same) (finished t (answer-finished z lag limit m.nvm t e)))
    (λ e. rw (cut_step z lag limit m e) (short (answer-cut z lag limit m.nvm t e) (leads-cut z l limit)))))
    (λ t. rw (t, refused-step z lag limit m) (unfit (answer-refused z lag limit m.nvm t)))

-- ---- a recovery of an image of the former length, whatever it holds
pub former-known : (z : Sizes) (lag : ℕ) (m : Machine) → recover_refusal z lag m ≡ 0
    → (sizes_ok z ≡ true) × (length m.nvm ≡ former_length z) × (base_of m.nvm % 2 ≡ 0) × (lag_ok lag ≡ true)
unfolding recover_refusal bad_lag odd_base
former-known z lag m e =
    let c₁ = first-none _ _ (λ q. omega arith) e in
    let c₁₆ = first-none _ _ (λ q. omega arith) c₁.1 in
    let c₁₀ = first-none _ _ (λ q. omega arith) c₁₆.1 in
    let f = former-in z _ _ _ (not-false _ c₁.0) in
    (f.0, f.1.in-nvm, omega (arith, eqb-false (base_of m.nvm % 2) 1 c₁₀.0), not-false _ c₁₆.0)

pub former-finished : (z : Sizes) (lag limit : ℕ) (m : Machine) → recover_refusal z lag m ≡ 0 → all_made z limit m.nvm ≡ true
    → former_length z ≤ length m.nvm
    → recover_step z lag limit m
    ≡ record {
      answer = Recovered.Finished (record { boundary = boundary z m.nvm; undone = length (undo_stores z m.nvm); torn = torn_in z m.nvm });
      machine = started lag (new_base z m.nvm) (recovered_image z m.nvm);
    }
unfolding recover_step
former-finished z lag limit m e all size = rw (e, finished-step z lag limit m all, recovered-base z m.nvm size)
