-- Inner: how the code goes, need not be believed. What the code's results say: a refusal's number is not 0, results that answer the same are one, and a
-- call that hands on a refusal leaves what it found. Assumes nothing.
use Rattle.std.specs.Prelude.{ℕ, ◌≡◌, List, Result, Ok, Err, IsErrAnd, ⊤, cond, eqb}
use Rattle.std.proofs.Common.{refl, sym, arith, ap, ◌∙◌}
use Rattle.record.specs.Record.{no_pairs}
use Rattle.record.specs.declared.Record.{Record}
use Rattle.store.specs.declared.Answer.{Answer as Reply}
use Rattle.store.specs.declared.Refusal.{Refusal}
use Rattle.store.specs.declared.Refusal.TheVariants.{BadBuffers, BadRecord, BadLane, BadWord, BadTxn, AlreadyLogged, NotLogged, ClockSpent, WouldHit, OddBase, LockHeld, TooLong, BadTrailer, WouldLag, BadLag}
use Rattle.store.specs.Answers.{Answer, Refused, Done, NoWrites, Logged, Settled, Committed, Stale, Changed, Marked, Locked}
use Rattle.store.specs.declared.Answer.TheVariants as reply
use Rattle.store.specs.Machine.{Step, unless, said}
use Rattle.store.specs.Interface.{machine_in, kept_by, keeps, number, refusal_of, answer_of, step_of, blank_step_of, blank_of}
use Rattle.store.specs.inner.KeepsLaws.{keeps-refused}
use Rattle.store.specs.inner.StoreLaws.{step-refused}

pub not-zero : (e : Refusal) → number e ≡ 0 → ⊥
unfolding number
not-zero BadBuffers h = omega (arith, h)
not-zero BadRecord h = omega (arith, h)
not-zero BadLane h = omega (arith, h)
not-zero BadWord h = omega (arith, h)
not-zero BadTxn h = omega (arith, h)
not-zero AlreadyLogged h = omega (arith, h)
not-zero NotLogged h = omega (arith, h)
not-zero ClockSpent h = omega (arith, h)
not-zero WouldHit h = omega (arith, h)
not-zero OddBase h = omega (arith, h)
not-zero LockHeld h = omega (arith, h)
not-zero TooLong h = omega (arith, h)
not-zero BadTrailer h = omega (arith, h)
not-zero WouldLag h = omega (arith, h)
not-zero BadLag h = omega (arith, h)

-- ---- what tells results apart
-- the refusal with this number
unfoldable pub refusal_for : ℕ → Refusal
refusal_for n =
    cond (eqb n 1) BadBuffers
    (cond (eqb n 2) BadRecord
    (cond (eqb n 3) BadLane
    (cond (eqb n 4) BadWord
    (cond (eqb n 5) BadTxn
    (cond (eqb n 6) AlreadyLogged
    (cond (eqb n 7) NotLogged
    (cond (eqb n 8) ClockSpent
    (cond (eqb n 9) WouldHit
    (cond (eqb n 10) OddBase
    (cond (eqb n 11) LockHeld
    (cond (eqb n 12) TooLong
    (cond (eqb n 14) BadTrailer
    (cond (eqb n 15) WouldLag
    BadLag)))))))))))))

pub refusal-back : (e : Refusal) → refusal_for (number e) ≡ e
unfolding number refusal_for
refusal-back BadBuffers = refl
refusal-back BadRecord = refl
refusal-back BadLane = refl
refusal-back BadWord = refl
refusal-back BadTxn = refl
refusal-back AlreadyLogged = refl
refusal-back NotLogged = refl
refusal-back ClockSpent = refl
refusal-back WouldHit = refl
refusal-back OddBase = refl
refusal-back LockHeld = refl
refusal-back TooLong = refl
refusal-back BadTrailer = refl
refusal-back WouldLag = refl
refusal-back BadLag = refl

-- two refusals with one number are one
pub numbers-apart : (a b : Refusal) → number a ≡ number b → a ≡ b
numbers-apart a b e = sym (refusal-back a) ∙ ap refusal_for e ∙ refusal-back b

-- the result of a call that answers this
unfoldable pub result_for : Answer → Result Reply Refusal
result_for (Refused n) = Err (refusal_for n)
result_for Done = Ok reply.Done
result_for NoWrites = Ok reply.NoWrites
result_for (Logged a) = Ok (reply.Logged a)
result_for (Settled s) = Ok (reply.Settled s)
result_for (Committed s) = Ok (reply.Committed s)
result_for Stale = Ok reply.Stale
result_for Changed = Ok reply.Changed
result_for (Marked a) = Ok (reply.Marked a)
result_for (Locked a) = Ok (reply.Locked a)

pub result-back : (r : Result Reply Refusal) → result_for (answer_of r) ≡ r
unfolding answer_of result_for
result-back (Err e) = ap Err (refusal-back e)
result-back (Ok reply.Done) = refl
result-back (Ok reply.NoWrites) = refl
result-back (Ok (reply.Logged a)) = refl
result-back (Ok (reply.Settled s)) = refl
result-back (Ok (reply.Committed s)) = refl
result-back (Ok reply.Stale) = refl
result-back (Ok reply.Changed) = refl
result-back (Ok (reply.Marked a)) = refl
result-back (Ok (reply.Locked a)) = refl

-- two results that answer the same are one
pub results-apart : (a b : Result Reply Refusal) → answer_of a ≡ answer_of b → a ≡ b
results-apart a b e = sym (result-back a) ∙ ap result_for e ∙ result-back b

-- a test that finds no cause: no number
pub none-found : {t : ⊤} {n : ℕ} → refusal_of (Ok t) ≡ n → n ≡ 0
unfolding refusal_of
none-found h = sym h

-- the number of the refusal that a test finds
pub found : (e : Refusal) {n : ℕ} → refusal_of (Err e) ≡ n → number e ≡ n
unfolding refusal_of
found e h = h

-- ---- a refusal handed on
pub keeps-err : (n : ℕ) (state cache nvm flags : List ℕ) (s : Step) (r : Result Reply Refusal) (e : Refusal) → IsErrAnd r (λ x. x ≡ e)
    → refusal_of (Err e) ≡ n → kept_by (answer_of r) state cache nvm flags ≡ keeps state (unless n (machine_in state cache nvm flags) s)
unfolding answer_of
keeps-err n state cache nvm flags s (Ok t) e p h = elim p [ ]
keeps-err n state cache nvm flags s (Err x) e p h = rw (p, ← (found e h)) (keeps-refused (number e) state cache nvm flags s (not-zero e))

pub format-err : (n : ℕ) (cache nvm flags : List ℕ) (s : Step) (r : Result Record Refusal) (e : Refusal) → IsErrAnd r (λ x. x ≡ e)
    → refusal_of (Err e) ≡ n → step_of r no_pairs cache nvm flags ≡ unless n (blank_of cache nvm flags) s
unfolding step_of
format-err n cache nvm flags s (Ok t) e p h = elim p [ ]
format-err n cache nvm flags s (Err x) e p h = rw p (step-refused (number e) n (blank_of cache nvm flags) s (found e h) (not-zero e))

pub blank-err : (n : ℕ) (cache nvm flags : List ℕ) (s : Step) (r : Result Reply Refusal) (e : Refusal) → IsErrAnd r (λ x. x ≡ e)
    → refusal_of (Err e) ≡ n → blank_step_of (answer_of r) cache nvm flags ≡ unless n (blank_of cache nvm flags) s
unfolding answer_of
blank-err n cache nvm flags s (Ok t) e p h = elim p [ ]
blank-err n cache nvm flags s (Err x) e p h = rw p (step-refused (number e) n (blank_of cache nvm flags) s (found e h) (not-zero e))

-- a test that hands on the refusal of another
pub found-err : (n : ℕ) (r : Result ⊤ Refusal) (e : Refusal) → IsErrAnd r (λ x. x ≡ e) → refusal_of (Err e) ≡ n → refusal_of r ≡ n
found-err n (Ok t) e p h = elim p [ ]
found-err n (Err x) e p h = rw p h

pub err-nonzero : (e : Refusal) → refusal_of (Err e) ≡ 0 → ⊥
unfolding refusal_of
err-nonzero e = not-zero e

-- what a call answers that hands on a refusal
pub answered-err : (r : Result Reply Refusal) (e : Refusal) → IsErrAnd r (λ x. x ≡ e) → answer_of r ≡ Refused (refusal_of (Err e))
unfolding answer_of refusal_of
answered-err (Ok t) e p = elim p [ ]
answered-err (Err x) e p = rw p

-- an answer that is no refusal has no number
pub taken-number : (a : Reply) → (said (answer_of (Ok a))).number ≡ 0
unfolding said answer_of
taken-number reply.Done = refl
taken-number reply.NoWrites = refl
taken-number (reply.Logged a) = refl
taken-number (reply.Settled s) = refl
taken-number (reply.Committed s) = refl
taken-number reply.Stale = refl
taken-number reply.Changed = refl
taken-number (reply.Marked a) = refl
taken-number (reply.Locked a) = refl
