-- How recovery's result and buffers are a restarted machine: what its contract compares. SPECIFICATION, "Recovery". Assumes nothing.
use Rattle.std.specs.Prelude.{ℕ, List, Option, Some, None, Result, Ok, Err}
use Rattle.record.specs.Record.{no_pairs}
use Rattle.store.specs.Interface.{number, machine_of, blank_of}
use Rattle.store.specs.declared.Refusal.{Refusal}
use Rattle.recovery.specs.Answers.{Recovered, Refused, Cut, Finished}
use Rattle.recovery.specs.declared.Restart.{Restart}
use Rattle.recovery.specs.Recovery.{Restarted}

-- what it answers
unfoldable pub recovered_of : Result (Option Restart) Refusal → Recovered
recovered_of (Err e) = Refused (number e)
recovered_of (Ok None) = Cut
recovered_of (Ok (Some r)) = Finished r.finished

-- the result, with the three buffers as recovery leaves them; it knows no pairs, and those of a start are 0. Where there is no record a blank one stands
-- for it
unfoldable pub restarted_of : Result (Option Restart) Refusal → (cache nvm flags : List ℕ) → Restarted
restarted_of (Err e) cache nvm flags = record { answer = Refused (number e); machine = blank_of cache nvm flags }
restarted_of (Ok None) cache nvm flags = record { answer = Cut; machine = blank_of cache nvm flags }
restarted_of (Ok (Some r)) cache nvm flags = record { answer = Finished r.finished; machine = machine_of r.state no_pairs cache nvm flags }
