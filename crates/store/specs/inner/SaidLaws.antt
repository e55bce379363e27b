-- Inner: how the code goes, need not be believed. What an answer says is the whole answer: `said` tells the ten cases and their values apart, of all
-- answers that calls give. Assumes nothing.
use Rattle.std.specs.Prelude.{ℕ, ◌<◌, ◌≡◌, refl, Bool, cond, List, [], ◌∷◌, eqb, length}
use Rattle.std.proofs.Common.{arith, sym, ap, ◌∙◌, ne_eqb}
use Rattle.std.proofs.lemmas.Bool.{eqb-false}
use Rattle.laws.specs.inner.Tests.{split}
use Rattle.txn.specs.Txn.{Rule}
use Rattle.image.specs.declared.Sizes.{Sizes}
use Rattle.store.specs.Answers.{Answer}
use Rattle.store.specs.Answers.{Refused, Done, NoWrites, Logged, Settled, Committed, Stale, Changed, Marked, Locked}
use Rattle.store.specs.Machine.{Machine, unless, Said, said}
use Rattle.store.specs.Calls.{writes_on, log_txn_refusal_by, log_txn_step_by, settle_refusal, settle_step, log_step_by}

-- the answer with this count, writes left, timestamp and drop
unfoldable pub valued : (count left stamp : List ℕ) (dropped : List Bool) → Answer
valued [] [] [] ds = Done
valued [] (n ∷ ns) [] ds = Done
valued (n ∷ ns) ls [] ds = NoWrites
valued (n ∷ ns) ls (s ∷ ss) ds = cond (eqb n 0) (Settled s) (Logged (record { count = n; stamp = s }))
valued [] (n ∷ ns) (s ∷ ss) ds = Locked (record { left = n; stamp = s })
valued [] [] (s ∷ ss) [] = Committed s
valued [] [] (s ∷ ss) (d ∷ ds) = Marked (record { stamp = s; dropped = d })

-- the answer that says this
unfoldable pub answer_for : Said → Answer
answer_for s = cond s.refused (Refused s.number) (cond s.stale Stale (cond s.changed Changed (valued s.count s.left s.stamp s.dropped)))

-- an answer that a call gives: Log of a transaction that writes counts what it writes
abbrev pub Given : Answer → Type 0
Given (Refused n) = Unit {0}
Given Done = Unit {0}
Given NoWrites = Unit {0}
Given (Logged a) = 0 < a.count
Given (Settled s) = Unit {0}
Given (Committed s) = Unit {0}
Given Stale = Unit {0}
Given Changed = Unit {0}
Given (Marked a) = Unit {0}
Given (Locked a) = Unit {0}

pub said-back : (a : Answer) → Given a → answer_for (said a) ≡ a
unfolding said answer_for valued
said-back (Refused n) g = refl
said-back Done g = refl
said-back NoWrites g = refl
said-back (Logged a) g = rw (ne_eqb a.count 0 (λ e. omega arith))
said-back (Settled s) g = refl
said-back (Committed s) g = refl
said-back Stale g = refl
said-back Changed g = refl
said-back (Marked a) g = refl
said-back (Locked a) g = refl

-- two such answers that say the same are one
pub said-apart : (a b : Answer) → Given a → Given b → said a ≡ said b → a ≡ b
said-apart a b f g e = sym (said-back a f) ∙ ap answer_for e ∙ said-back b g

-- Log gives such answers; no other call answers Logged
pub log-gives : (r : Rule) (z : Sizes) (L : ℕ) (f : List ℕ) (m : Machine) → Given (log_step_by r z L f m).answer
unfolding log_step_by settle_step log_txn_step_by unless
log-gives r z L [] m = split (eqb (settle_refusal z L m) 0) (λ e. rw e tt) (λ e. rw e tt)
log-gives r z L (w ∷ f) m =
    let n = length (writes_on z (w ∷ f) m) in
    split (eqb (log_txn_refusal_by r z L (w ∷ f) m) 0)
    (λ e. split (eqb n 0) (λ d. rw (e, d) tt) (λ d. let p : 0 < n = (let h = eqb-false n 0 d in omega arith) in rw (e, d) p))
    (λ e. rw e tt)
