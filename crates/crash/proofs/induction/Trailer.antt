-- No event but Format and write-back stores to the trailer, whatever the cache holds in its place. Assumes nothing.
use mathlib.Core.Path.{◌≡◌, refl, sym, ap, ◌∙◌}
use mathlib.Core.Logic.{inr}
use mathlib.Core.Bool.{true}
use mathlib.Core.List.{List, [], ◌∷◌}
use Prim.Native.Nat.{ℕ, ◌≤◌}
use native.Mathlib.Omega.{arith}
use lib.Dec.{eqb}
use lib.ListN.{length, get_or, replicate}
use borrow.Author.Tests.{ne_eqb}
use Rattle.laws.specs.inner.Tests.{split, clash}
use Rattle.image.specs.Image.{former_length, trailer}
use Rattle.image.specs.inner.ImageLaws.{buffers-in}
use Rattle.image.specs.Flush.{flushed, written_back, drained_nvm}
use Rattle.image.specs.declared.Sizes.{Sizes}
use Rattle.store.specs.Machine.{Machine, Step}
use Rattle.store.specs.Calls.{drained, changed, appended, logged, committed}
use Rattle.store.specs.Calls as calls
use Rattle.store.specs.Locks.{locked, part_logged, part_written}
use Rattle.recovery.specs.Recovery.{all_made, recovered_by, recover_read_refusal, recover_read_step}
use Rattle.crash.specs.Events.{Call, Junk, format, write_back, call, recover, fails, fails_in_drain, fails_after_drain, fails_in_recovery}
use Rattle.crash.specs.Events.{System, live, down, nvm_of, vandzulge, happens, lane_of, is_taken, is_former, recovery_of, cut_short_of, partly_drained}
use Rattle.crash.specs.Events.{bare, after_step, recovered_system, after_recovery, after_failure, not_offered}
use Rattle.crash.specs.Theorem.{end_of, may_store, TrailerTheorem}
use Rattle.crash.proofs.lane.Ends.{length-end, end-drained, end-flagged, end-sizes}
use Rattle.crash.proofs.recovery.Restart.{not-former, cut-taken, cut-end}
use Rattle.crash.proofs.induction.Moves.{Known, Move, refusing, draining, logging, settling, redoing, validating, giving-up, marking}
use Rattle.crash.proofs.induction.Moves.{locking, parting, writing, call-moves}
use Rattle.crash.proofs.induction.Fed.{taken-known}

-- cells with a trailer are at least of the former length
sized : (z : Sizes) (nvm : List ℕ) → end_of z nvm ≡ trailer z → former_length z ≤ length nvm
unfolding trailer
sized z nvm its = omega (arith, length-end z nvm, ap length its)

-- ---- a recovery, by the call that fits
module _ (z : Sizes) (m : Machine) (its : end_of z m.nvm ≡ trailer z) where
  leaves : (lag limit number : ℕ) (y : System) (j : Junk) (found : List ℕ) → end_of z (nvm_of y) ≡ trailer z
      → let r = recovered_by z lag limit number m in end_of z (nvm_of (recovered_system y j found r r.answer)) ≡ trailer z
  unfolding recovered_by recovered_system nvm_of calls.started
  leaves lag limit number y j found e =
      split (eqb number 0)
      (λ t. rw t (split (all_made z limit m.nvm) (λ a. rw a (cut-end z limit m.nvm ∙ its)) (λ a. rw a (cut-end z limit m.nvm ∙ its))))
      (λ t. rw t e)

  recovers : (lag limit : ℕ) (y : System) (j : Junk) (found : List ℕ) → end_of z (nvm_of y) ≡ trailer z
      → let r = recovery_of vandzulge z lag limit m in end_of z (nvm_of (recovered_system y j found r r.answer)) ≡ trailer z
  unfolding recovery_of is_former vandzulge recover_read_step
  recovers lag limit y j found e =
      let size = sized z m.nvm its in
      rw (ne_eqb (length m.nvm) (former_length z) (not-former z m.nvm size its), end-sizes z m.nvm size its)
      (leaves lag limit (recover_read_refusal lag m) y j found e)

-- one that power cuts short
cuts : (z : Sizes) (n : ℕ) (nvm : List ℕ) → end_of z nvm ≡ trailer z → end_of z (cut_short_of vandzulge z n nvm) ≡ trailer z
cuts z n nvm its = rw (cut-taken z n nvm (sized z nvm its) (inr its)) (cut-end z n nvm ∙ its)

-- ---- a drain
module _ (z : Sizes) (m : Machine) (its : end_of z m.nvm ≡ trailer z) (none : end_of z m.flags ≡ replicate 4 0) where
  -- a whole one, by a call that has checked its buffers
  drains : (L : ℕ) → Known z m L → end_of z (drained_nvm L m.flags m.cache m.nvm) ≡ trailer z
  drains L k =
      let b = buffers-in z _ _ _ k.buffers in
      end-drained z L 4 m.flags m.cache m.nvm none (b.same_flags ∙ sym b.same-nvm) (sym b.same-nvm) ∙ its

  moves : {c : Call} {s : Step} → Move z m c s → end_of z s.machine.nvm ≡ trailer z
  unfolding drained logged appended committed changed calls.released locked part_logged part_written lane_of
  moves (refusing n e p) = its
  moves {c} (draining k d) = drains (lane_of c) k
  moves (logging q L w f k ok i e p r) = drains L k
  moves (settling q L k i e r) = drains L k
  moves (redoing L k r t) = drains L k
  moves (validating q L f k ok r t) = drains L k
  moves (giving-up q L f k ok r t) = drains L k
  moves (marking L k e r) = drains L k
  moves (locking L f k ok i e d p r) = drains L k
  moves (parting k known e t) = drains k.lane known
  moves (writing k known e t) = drains k.lane known

  -- some words of one: each is one that the lane has flushed
  partly : (L : ℕ) (is nvm : List ℕ) → end_of z nvm ≡ trailer z → end_of z (partly_drained L is m.flags m.cache nvm) ≡ trailer z
  unfolding partly_drained
  partly L [] nvm e = e
  partly L (i ∷ is) nvm e =
      split (flushed L (get_or m.flags i 0))
      (λ t. rw t (partly L is (written_back i m.cache nvm) (end-flagged z L 4 i m.flags m.cache nvm none t ∙ e)))
      (λ t. rw t (partly L is nvm e))

pub trailer-theorem : TrailerTheorem vandzulge
unfolding TrailerTheorem happens vandzulge may_store after_step after_recovery after_failure not_offered nvm_of bare
trailer-theorem z (live m) (format lag start) s its none = clash true refl s
trailer-theorem z (live m) (write_back i) s its none = clash true refl s
trailer-theorem z (live m) (call c) s its none = moves z m its none (call-moves z m c)
trailer-theorem z (live m) (recover lag limit j) s its none = recovers z m its lag limit (live m) _ m.nvm its
trailer-theorem z (live m) (fails j) s its none = its
trailer-theorem z (live m) (fails_in_drain c is j) s its none =
    split (is_taken vandzulge z c m) (λ t. rw t (partly z m its none (lane_of c) is m.nvm its)) (λ t. rw t its)
trailer-theorem z (live m) (fails_after_drain c j) s its none =
    split (is_taken vandzulge z c m) (λ t. rw t (drains z m its none (lane_of c) (taken-known z c m t))) (λ t. rw t its)
trailer-theorem z (live m) (fails_in_recovery n j) s its none = cuts z n m.nvm its
trailer-theorem z (down nvm j found) (format lag start) s its none = clash true refl s
trailer-theorem z (down nvm j found) (write_back i) s its none = clash true refl s
trailer-theorem z (down nvm j found) (call c) s its none = its
trailer-theorem z (down nvm j found) (recover lag limit k) s its none = recovers z (bare nvm j) its lag limit (down nvm j found) _ _ its
trailer-theorem z (down nvm j found) (fails k) s its none = its
trailer-theorem z (down nvm j found) (fails_in_drain c is k) s its none = its
trailer-theorem z (down nvm j found) (fails_after_drain c k) s its none = its
trailer-theorem z (down nvm j found) (fails_in_recovery n k) s its none = cuts z n nvm its
