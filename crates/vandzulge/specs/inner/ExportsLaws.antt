-- Inner: how the code goes, need not be believed. What a call leaves: by a refused length, and by what the call's own contract says. Assumes nothing.
use Rattle.std.specs.Prelude.{ℕ, ◌-◌, ◌≡◌, refl, Bool, true, false, eqb, List, ◌++◌, length, take, drop, replicate, Option, Some, None, Result, Ok, Err}
use Rattle.std.proofs.Common.{sym, ◌∙◌, append-nil, arith, length-drop, drop_of_length-le, take_all, length-take-le, take_at, drop_at, eq-eqb, ne_eqb, eqb-true}
use Rattle.std.proofs.Math.Path.{ap}
use Rattle.laws.specs.inner.Tests.{and_left, and_right}
use borrow.Rule.Slice.PartMut.{put_mid}
use Rattle.record.specs.Record.{lock_length, no_pairs}
use Rattle.record.specs.declared.Record.{Record}
use Rattle.store.specs.Answers.{Answer}
use Rattle.store.specs.Machine.{Machine, Step, said}
use Rattle.store.specs.declared.Refusal.{Refusal}
use Rattle.store.specs.Interface.{number, machine_of, step_of, blank_step_of, where_taken, Kept, kept_by, keeps}
use Rattle.recovery.specs.declared.Restart.{Restart}
use Rattle.recovery.specs.Recovery.{Restarted, told}
use Rattle.recovery.specs.Interface.{restarted_of, recovered_of}
use Rattle.codec.specs.Fields.{record_length, state_length, pairs_in, words_of}
use Rattle.store.specs.inner.ResultLaws.{not-zero}
use Rattle.vandzulge.specs.inner.Results.{started_number, started_words, restarted_words}
use Rattle.vandzulge.specs.Exports.{answer_length, record_fits, both_fit, said_words, left_by, leaves, replies}
use Rattle.vandzulge.specs.Exports.{where_finished, told_words, restarts, restart_replies}

-- ---- lengths: n is the one that the code asks for
pub fits_not : (state : List ℕ) (n : ℕ) → (length state ≡ n → ⊥) → n ≡ state_length → record_fits state ≡ false
unfolding record_fits
fits_not state n h e = ne_eqb (length state) state_length (λ z. h (z ∙ sym e))

pub fits : (state : List ℕ) → length state ≡ state_length → record_fits state ≡ true
unfolding record_fits
fits state h = eq-eqb (length state) state_length h

pub both-not-state : (state answer : List ℕ) (n : ℕ) → (length state ≡ n → ⊥) → n ≡ state_length → both_fit state answer ≡ false
unfolding both_fit
both-not-state state answer n h e = rw (fits_not state n h e)

pub both-not-answer : (state answer : List ℕ) → length state ≡ state_length → (length answer ≡ answer_length → ⊥) → both_fit state answer ≡ false
unfolding both_fit
both-not-answer state answer e h = rw (fits state e, ne_eqb (length answer) answer_length h)

pub both : (state answer : List ℕ) → length state ≡ state_length → length answer ≡ answer_length → both_fit state answer ≡ true
unfolding both_fit
both state answer e h = rw (fits state e, eq-eqb (length answer) answer_length h)

-- ---- slices of the lengths of a record, and of a record and an answer
pub fits-in : (state : List ℕ) → record_fits state ≡ true → length state ≡ state_length
unfolding record_fits
fits-in state e = eqb-true (length state) state_length e

pub both-in : (state answer : List ℕ) → both_fit state answer ≡ true → (length state ≡ state_length) × (length answer ≡ answer_length)
unfolding both_fit
both-in state answer e = (
  fits-in state (and_left (record_fits state) (eqb (length answer) answer_length) e),
  eqb-true (length answer) answer_length (and_right (record_fits state) (eqb (length answer) answer_length) e),
)

-- the lock's pairs, as a part of the slice
pub pairs-part : (state : List ℕ) → take (length state - record_length) (drop record_length state) ≡ pairs_in state
pairs-part state = take_all (length state - record_length) (drop record_length state) (omega (arith, length-drop record_length state))

-- ---- words that are written where the call is taken
pub taken : (k number : ℕ) (words new before : List ℕ) → k ≡ number → k ≡ 0 → words ≡ new → words ≡ where_taken number new before
unfolding where_taken
taken k number words new before e z w = rw (eq-eqb number 0 (sym e ∙ z), w)

pub not_taken : (k number : ℕ) (new before : List ℕ) → k ≡ number → (k ≡ 0 → ⊥) → before ≡ where_taken number new before
unfolding where_taken
not_taken k number new before e h = rw (ne_eqb number 0 (λ z. h (e ∙ z)))

-- a recovery that is not refused has no number
pub told-taken : (r : Option Restart) → (told (recovered_of (Ok r))).number ≡ 0
unfolding told recovered_of
told-taken (Some r) = refl
told-taken None = refl

-- ---- a start: the record's words in front, then pairs of 0
pub start-put : (r : Record) (ws state zs : List ℕ) → ws ≡ words_of r → length ws ≡ length (take record_length state) → length state ≡ state_length
    → (let xs = ws ++ drop record_length state in zs ≡ replicate (length (take (length xs - record_length) (drop record_length xs))) 0)
    → (let xs = ws ++ drop record_length state in put_mid record_length (length xs - record_length) xs zs ≡ words_of r ++ no_pairs)
start-put r ws state zs w t m z =
    let n : length ws ≡ record_length = t ∙ length-take-le record_length state (omega (arith, m)) in
    let xs = ws ++ drop record_length state in
    let k : length (take (length xs - record_length) (drop record_length xs)) ≡ lock_length =
    ap length (pairs-part xs ∙ drop_at ws (drop record_length state) record_length n) ∙ length-drop record_length state ∙ omega (arith, m) in
    ap (λ (t : List ℕ). t ++ (zs ++ drop (length xs - record_length) (drop record_length xs))) (take_at ws (drop record_length state) record_length n)
    ∙ ap (λ (t : List ℕ). ws ++ (zs ++ t))
    (drop_of_length-le (drop record_length xs) {i = length xs - record_length} (omega (arith, length-drop record_length xs)))
    ∙ ap (λ (t : List ℕ). ws ++ t) (append-nil zs ∙ z ∙ ap (λ i. replicate i 0) k)
    ∙ ap (λ (t : List ℕ). t ++ no_pairs) w

-- ---- a call
module _ (state : List ℕ) (call : Machine → Step) (r : Record) (ps cache nvm flags : List ℕ) where
  -- slices that do not fit
  pub left-unfit : (fits : Bool) → fits ≡ false → left_by 1 state cache nvm flags ≡ leaves fits state call (machine_of r ps cache nvm flags)
  unfolding leaves
  left-unfit fits e = rw e

  pub left-by : (fits : Bool) (a : Answer) (state' cache' nvm' flags' : List ℕ) (number : ℕ) → fits ≡ true
      → kept_by a state' cache' nvm' flags' ≡ keeps state (call (machine_of r ps cache nvm flags)) → number ≡ (said a).number
      → left_by number state' cache' nvm' flags' ≡ leaves fits state call (machine_of r ps cache nvm flags)
  unfolding leaves keeps
  left-by fits a state' cache' nvm' flags' number e k n =
      rw (e, n) (ap (λ (t : Kept). left_by (said t.answer).number t.state t.cache t.nvm t.flags) k)

  -- Format, which returns the record of its start
  pub left-start : (fits : Bool) (o : Result Record Refusal) (cache' nvm' flags' : List ℕ) (n : ℕ) (words : List ℕ) → fits ≡ true
      → step_of o no_pairs cache' nvm' flags' ≡ call (machine_of r ps cache nvm flags) → n ≡ started_number o → words ≡ started_words o state
      → left_by n words cache' nvm' flags' ≡ leaves fits state call (machine_of r ps cache nvm flags)
  unfolding leaves step_of said where_taken started_number started_words
  left-start fits (Ok o) cache' nvm' flags' n words e s h w = rw (e, ← s, h, w)
  left-start fits (Err x) cache' nvm' flags' n words e s h w = rw (e, ← s, h, w, ne_eqb (number x) 0 (not-zero x))

module _ (answer : List ℕ) (call : Machine → Step) (r : Record) (ps cache nvm flags : List ℕ) where
  pub reply-unfit : (fits : Bool) → fits ≡ false → answer ≡ replies fits answer call (machine_of r ps cache nvm flags)
  unfolding replies
  reply-unfit fits e = rw e

  pub reply-by : (fits : Bool) (a : Answer) (state state' cache' nvm' flags' : List ℕ) (words : List ℕ) → fits ≡ true
      → kept_by a state' cache' nvm' flags' ≡ keeps state (call (machine_of r ps cache nvm flags))
      → words ≡ where_taken (said a).number (said_words (said a)) answer
      → words ≡ replies fits answer call (machine_of r ps cache nvm flags)
  unfolding replies keeps
  reply-by fits a state state' cache' nvm' flags' words e k w =
      rw e (w ∙ ap (λ (t : Kept). where_taken (said t.answer).number (said_words (said t.answer)) answer) k)

-- ---- recovery
module _ (state : List ℕ) (call : Machine → Restarted) (r : Record) (ps cache nvm flags : List ℕ) where
  pub restart-unfit : (fits : Bool) → fits ≡ false → left_by 1 state cache nvm flags ≡ restarts fits state call (machine_of r ps cache nvm flags)
  unfolding restarts
  restart-unfit fits e = rw e

  pub restart-by : (fits : Bool) (o : Result (Option Restart) Refusal) (cache' nvm' flags' : List ℕ) (n : ℕ) (words : List ℕ) → fits ≡ true
      → restarted_of o cache' nvm' flags' ≡ call (machine_of r ps cache nvm flags) → n ≡ (told (recovered_of o)).number → words ≡ restarted_words o state
      → left_by n words cache' nvm' flags' ≡ restarts fits state call (machine_of r ps cache nvm flags)
  unfolding restarts restarted_of recovered_of restarted_words told where_finished
  restart-by fits (Ok (Some o)) cache' nvm' flags' n words e s h w = rw (e, ← s, h, w)
  restart-by fits (Ok None) cache' nvm' flags' n words e s h w = rw (e, ← s, h, w)
  restart-by fits (Err x) cache' nvm' flags' n words e s h w = rw (e, ← s, h, w)

module _ (answer : List ℕ) (call : Machine → Restarted) (r : Record) (ps cache nvm flags : List ℕ) where
  pub restart-reply-unfit : (fits : Bool) → fits ≡ false → answer ≡ restart_replies fits answer call (machine_of r ps cache nvm flags)
  unfolding restart_replies
  restart-reply-unfit fits e = rw e

  pub restart-reply-by : (fits : Bool) (o : Result (Option Restart) Refusal) (cache' nvm' flags' : List ℕ) (words : List ℕ) → fits ≡ true
      → restarted_of o cache' nvm' flags' ≡ call (machine_of r ps cache nvm flags)
      → words ≡ where_taken (told (recovered_of o)).number (told_words (told (recovered_of o))) answer
      → words ≡ restart_replies fits answer call (machine_of r ps cache nvm flags)
  unfolding restart_replies restarted_of recovered_of
  restart-reply-by fits (Ok (Some o)) cache' nvm' flags' words e s w = rw (e, ← s, w)
  restart-reply-by fits (Ok None) cache' nvm' flags' words e s w = rw (e, ← s, w)
  restart-reply-by fits (Err x) cache' nvm' flags' words e s w = rw (e, ← s, w)

-- ---- write-back, which lends no record
pub blank-by : (call : Machine → Step) (m : Machine) (a : Answer) (cache' nvm' flags' : List ℕ) (number : ℕ) → blank_step_of a cache' nvm' flags' ≡ call m
    → number ≡ (said a).number → (number ≡ (said (call m).answer).number) × (nvm' ≡ (call m).machine.nvm)
blank-by call m a cache' nvm' flags' number s n = rw (← s) (n, refl)
