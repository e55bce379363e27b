-- Inner: how the code goes, need not be believed. What recovery's answer tells is the whole answer: `told` tells the three cases and their values apart.
-- Assumes nothing.
use Rattle.std.specs.Prelude.{ℕ, ◌≡◌, refl, cond, List, [], ◌∷◌, get_or, Option, Some, None, Result, Ok, Err}
use Rattle.std.proofs.Common.{sym, ap, ◌∙◌}
use Rattle.recovery.specs.Answers.{Recovered}
use Rattle.recovery.specs.Answers.{Refused, Cut, Finished}
use Rattle.recovery.specs.Recovery.{Told, told, Restarted}
use Rattle.recovery.specs.Interface.{restarted_of}
use Rattle.recovery.specs.declared.Restart.{Restart}
use Rattle.record.specs.declared.Record.{Record}
use Rattle.store.specs.declared.Refusal.{Refusal}
use Rattle.store.specs.inner.ResultLaws.{refusal_for, refusal-back}

-- the answer with this boundary, count of entries undone and count of torn slots
unfoldable pub counted : Option ℕ → (undone torn : List ℕ) → Recovered
counted b [] ts = Cut
counted b (u ∷ us) ts = Finished (record { boundary = b; undone = u; torn = get_or ts 0 0 })

-- the answer that tells this
unfoldable pub recovered_for : Told → Recovered
recovered_for t = cond t.refused (Refused t.number) (counted t.boundary t.undone t.torn)

pub told_back : (a : Recovered) → recovered_for (told a) ≡ a
unfolding told recovered_for counted
told_back (Refused n) = refl
told_back Cut = refl
told_back (Finished f) = refl

-- two answers that tell the same are one
pub told-apart : (a b : Recovered) → told a ≡ told b → a ≡ b
told-apart a b e = sym (told_back a) ∙ ap recovered_for e ∙ told_back b

-- the code's result with this answer and, where recovery finished, this record
unfoldable pub restart_with : Recovered → Record → Result (Option Restart) Refusal
restart_with (Refused n) r = Err (refusal_for n)
restart_with Cut r = Ok None
restart_with (Finished f) r = Ok (Some (record { finished = f; state = r }))

-- the one that is restarted so
abbrev pub restart_for : Restarted → Result (Option Restart) Refusal
restart_for s = restart_with s.answer s.machine.state

pub restart-back : (r : Result (Option Restart) Refusal) (cache nvm flags : List ℕ) → restart_for (restarted_of r cache nvm flags) ≡ r
unfolding restarted_of restart_with
restart-back (Err e) cache nvm flags = ap Err (refusal-back e)
restart-back (Ok None) cache nvm flags = refl
restart-back (Ok (Some r)) cache nvm flags = refl

-- two results of recovery that its contract compares as the same are one
pub restarts-apart : (a b : Result (Option Restart) Refusal) (cache nvm flags : List ℕ)
    → restarted_of a cache nvm flags ≡ restarted_of b cache nvm flags → a ≡ b
restarts-apart a b cache nvm flags e = sym (restart-back a cache nvm flags) ∙ ap restart_for e ∙ restart-back b cache nvm flags
