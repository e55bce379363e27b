-- What recovery answers, in the specification's words. SPECIFICATION, "Recovery". Assumes nothing.
use Rattle.std.specs.Prelude.{ℕ}
use Rattle.recovery.specs.declared.Finished.{Finished as Done}

pub data Recovered : Type 0 where
  -- the number of the refusal; nothing is altered
  Refused : ℕ → Recovered
  -- the limit left stores to be made
  Cut : Recovered
  Finished : Done → Recovered
