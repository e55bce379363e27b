-- Inner: how the code goes, need not be believed. Laws of recovery: all stores together, and the call's three outcomes. Assumes nothing.
use Rattle.std.specs.Prelude.{◌≡◌, List, [], ◌∷◌, ◌++◌, get_or, take, replicate, Option, Result, Ok, Err, IsErrAnd}
use Rattle.std.proofs.Math.Path.{sym, ap}
use Rattle.std.proofs.Common.{◌∙◌}
use Prim.Native.Nat.{ℕ, suc, ◌+◌, ◌-◌, ◌*◌, ◌≤◌, ◌<◌}
use native.Mathlib.Omega.{arith}
use Rattle.std.proofs.Math.ListN.{length, length-append}
use borrow.Author.Tests.{le-leb, lt-leb, ne_eqb, not-false}
use Rattle.image.specs.Image.{base_of, sizes_at_end}
use Rattle.image.specs.inner.Facts.{IsImage}
use Rattle.image.specs.inner.ImageLaws.{all_in, former-buffers, trailer-four, trailer-image}
use Rattle.image.specs.Stores.{Store, stored}
use Rattle.image.specs.inner.StoresLaws.{length-stored}
use Rattle.image.specs.declared.Sizes.{Sizes}
use Rattle.record.specs.Record.{start_record}
use Rattle.record.specs.declared.Record.{Record}
use Rattle.store.specs.Machine.{Machine}
use Rattle.record.specs.Record.{no_pairs}
use Rattle.store.specs.Calls.{started}
use Rattle.store.specs.inner.StoreLaws.{first-none}
use Rattle.store.specs.Interface.{refusal_of, machine_of, blank_of}
use Rattle.store.specs.declared.Refusal.{Refusal}
use Rattle.recovery.specs.Interface.{restarted_of}
use Rattle.recovery.specs.Recovery.{Restarted}
use Rattle.recovery.specs.declared.Restart.{Restart}
use Rattle.recovery.specs.Answers.{Refused, Cut, Finished}
use Rattle.recovery.specs.Recovery.{boundary, undo_stores, new_base, torn_in, zeros, recovery_stores, recovered_nvm, all_made, recovered_by}
use Rattle.recovery.specs.Recovery.{recover_refusal, recover_step, recover_read_refusal, recover_read_step}
use Rattle.recovery.specs.inner.Limit.{limited}
use Rattle.recovery.specs.inner.LimitLaws.{limited-append, length-zeros}

-- ---- all stores
whole : (limit : ℕ) (xs : List Store) (image : List ℕ) → limited limit 0 xs image ≡ stored (take limit xs) image
unfolding limited
whole limit xs image = ap (λ n. stored (take n xs) image) (let e : limit - 0 ≡ limit = omega arith in e)

module _ (z : Sizes) (image : List ℕ) (limit : ℕ) where
  pub stores-all : (first second third : List ℕ) (undone due all base : ℕ)
      → undone ≡ length (undo_stores z image) → first ≡ limited limit 0 (undo_stores z image) image
      → base ≡ new_base z image → due ≡ undone + 1 → second ≡ limited limit undone (record { at = 0; value = base } ∷ []) first
      → all ≡ due + 2 * z.lanes * z.slots → third ≡ limited limit due (zeros (1 + z.words) (2 * z.lanes * z.slots)) second
      → (all ≡ length (recovery_stores z image)) × (third ≡ recovered_nvm z limit image)
  unfolding recovery_stores recovered_nvm
  stores-all first second third undone due all base e₁ e₂ e₃ e₄ e₅ e₆ e₇ =
      let us = undo_stores z image in
      let b : Store = record { at = 0; value = new_base z image } in
      let zs = zeros (1 + z.words) (2 * z.lanes * z.slots) in (
        (let n : length (undo_stores z image ++ (b ∷ zs)) ≡ length (undo_stores z image) + (1 + 2 * z.lanes * z.slots) =
            length-append us (b ∷ zs) ∙ ap (λ k. length us + k)
            (ap suc (length-zeros (1 + z.words) (2 * z.lanes * z.slots))
            ∙ (let s : suc (2 * z.lanes * z.slots) ≡ 1 + 2 * z.lanes * z.slots = omega arith in s)) in
            omega arith),
        e₇
            ∙ ap (limited limit due zs) (e₅ ∙ ap (λ v. limited limit undone (record { at = 0; value = v } ∷ []) first) e₃)
            ∙ ap (λ d. limited limit d zs (limited limit undone (b ∷ []) first)) e₄
            ∙ sym (limited-append limit undone (b ∷ []) zs first)
            ∙ ap (limited limit undone (b ∷ zs)) e₂
            ∙ ap (λ d. limited limit d (b ∷ zs) (limited limit 0 us image)) (let s : undone ≡ 0 + length (undo_stores z image) = omega arith in s)
            ∙ sym (limited-append limit 0 us (b ∷ zs) image)
            ∙ whole limit (recovery_stores z image) image,
      )

pub recovered-long : (z : Sizes) (image : List ℕ) (limit : ℕ) (nvm : List ℕ) → nvm ≡ recovered_nvm z limit image → length nvm ≡ length image
unfolding recovered_nvm
recovered-long z image limit nvm e = ap length e ∙ length-stored (take limit (recovery_stores z image)) image

-- ---- what the calls know where they are not refused: an image, and two buffers of its length
pub record Recoverable (z : Sizes) (cache nvm flags : List ℕ) : Type 0 where
  pub image : IsImage z nvm
  pub same-cache : length cache ≡ length nvm
  pub same_flags : length flags ≡ length nvm

pub recover-checked : (z : Sizes) (lag : ℕ) (m : Machine) → recover_refusal z lag m ≡ 0 → Recoverable z m.cache m.nvm m.flags
unfolding recover_refusal
recover-checked z lag m e =
    let b = former-buffers z _ _ _ (not-false _ (first-none _ _ (λ t. omega arith) e).0) in
    record {
      image = record { sizes-ok = b.sizes-ok; in_image = rw b.same-nvm b.fits; small = rw b.same-nvm b.small };
      same-cache = sym b.same-nvm;
      same_flags = b.same_flags ∙ sym b.same-nvm;
    }

pub read-long : (lag : ℕ) (m : Machine) → recover_read_refusal lag m ≡ 0 → 4 ≤ length m.nvm
unfolding recover_read_refusal
read-long lag m e =
    let b = first-none _ _ (λ t. omega arith) (first-none _ _ (λ t. omega arith) e).1 in
    trailer-four _ (not-false _ b.0)

pub read-checked : (lag : ℕ) (m : Machine) → recover_read_refusal lag m ≡ 0 → Recoverable (sizes_at_end m.nvm) m.cache m.nvm m.flags
unfolding recover_read_refusal
read-checked lag m e =
    let a = first-none _ _ (λ t. omega arith) e in
    let b = first-none _ _ (λ t. omega arith) a.1 in
    let l = all_in _ _ _ _ (not-false _ a.0) in
    record { image = trailer-image _ (not-false _ b.0); same-cache = l.in-cache; same_flags = l.in-flags }

-- ---- the outcomes of both
-- refused, with a number that is not 0
by-refused : (z : Sizes) (lag limit number : ℕ) (m : Machine) → (number ≡ 0 → ⊥)
    → record { answer = Refused number; machine = m } ≡ recovered_by z lag limit number m
unfolding recovered_by
by-refused z lag limit number m h = rw (ne_eqb number 0 h)

module _ (z : Sizes) (lag limit : ℕ) (m : Machine) (all : ℕ) (a : all ≡ length (recovery_stores z m.nvm)) where
  pub by-cut : (nvm : List ℕ) → nvm ≡ recovered_nvm z limit m.nvm → limit < all
      → record { answer = Cut; machine = machine_of m.state m.pairs m.cache nvm m.flags } ≡ recovered_by z lag limit 0 m
  unfolding recovered_by all_made
  by-cut nvm n l = rw (n, ← a, lt-leb all limit l)

  pub by-finished : (state : Record) (cache nvm flags : List ℕ) (b : Option ℕ) (undone torn : ℕ)
      → b ≡ boundary z m.nvm → undone ≡ length (undo_stores z m.nvm) → torn ≡ torn_in z m.nvm → nvm ≡ recovered_nvm z limit m.nvm
      → state ≡ start_record lag (get_or nvm 0 0) → cache ≡ nvm → flags ≡ replicate (length nvm) 0 → all ≤ limit
      → record { answer = Finished (record { boundary = b; undone = undone; torn = torn }); machine = machine_of state no_pairs cache nvm flags }
      ≡ recovered_by z lag limit 0 m
  unfolding recovered_by all_made started base_of torn_in
  by-finished state cache nvm flags b undone torn e₁ e₂ e₀ e₃ e₄ e₅ e₆ l = rw (e₁, e₂, e₀, e₄, e₅, e₆, e₃, ← a, le-leb all limit l)

-- ---- as each call says it
pub recover-refused : (z : Sizes) (lag limit number : ℕ) (m : Machine) → number ≡ recover_refusal z lag m → (number ≡ 0 → ⊥)
    → record { answer = Refused number; machine = m } ≡ recover_step z lag limit m
unfolding recover_step
recover-refused z lag limit number m e h = rw (← e) (by-refused z lag limit number m h)

pub recover-taken : (z : Sizes) (lag limit : ℕ) (m : Machine) → recover_refusal z lag m ≡ 0 → recovered_by z lag limit 0 m ≡ recover_step z lag limit m
unfolding recover_step
recover-taken z lag limit m e = rw e

pub read-refused : (lag limit number : ℕ) (m : Machine) → number ≡ recover_read_refusal lag m → (number ≡ 0 → ⊥)
    → record { answer = Refused number; machine = m } ≡ recover_read_step lag limit m
unfolding recover_read_step
read-refused lag limit number m e h = rw (← e) (by-refused (sizes_at_end m.nvm) lag limit number m h)

pub read_taken : (z : Sizes) (lag limit : ℕ) (m : Machine) → z ≡ sizes_at_end m.nvm → recover_read_refusal lag m ≡ 0
    → recovered_by z lag limit 0 m ≡ recover_read_step lag limit m
unfolding recover_read_step
read_taken z lag limit m s e = rw (s, e)

-- a call that hands on a refusal leaves what it found
pub restarted-err : (cache nvm flags : List ℕ) (s : Restarted) (r : Result (Option Restart) Refusal) (e : Refusal) → IsErrAnd r (λ x. x ≡ e)
    → record { answer = Refused (refusal_of (Err e)); machine = blank_of cache nvm flags } ≡ s → restarted_of r cache nvm flags ≡ s
unfolding restarted_of refusal_of
restarted-err cache nvm flags s (Ok t) e p h = elim p [ ]
restarted-err cache nvm flags s (Err x) e p h = rw p h
