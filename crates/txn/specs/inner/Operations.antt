-- Inner: how the code goes, need not be believed. What an instruction does, and the four words that say it. Assumes nothing.
use Rattle.std.specs.Prelude.{◌≡◌, ℕ, false, List, Result, MatchResult}
use Rattle.txn.specs.Txn.{Instruction, instruction_ok}
use Rattle.txn.specs.inner.Chunks.{instruction_of}
use Rattle.txn.specs.declared.operation.Operation.{Operation}
use Rattle.txn.specs.declared.operation.Operation.TheVariants.{Set, Copy, Add, Skip}
use Rattle.txn.specs.declared.operation.Malformed.{Malformed}

-- the instruction of an operation
abbrev pub instruction_for : Operation → Instruction
instruction_for (Set word new) = record { code = 1; a = word; b = 0; k = new }
instruction_for (Copy word from) = record { code = 2; a = word; b = from; k = 0 }
instruction_for (Add word from by) = record { code = 3; a = word; b = from; k = by }
instruction_for (Skip test distance) = record { code = 5; a = 0; b = test; k = distance }

-- four words say this operation, or are an instruction that no new transaction may have
abbrev pub Decodes : List ℕ → Result Operation Malformed → Type 0
Decodes f r = MatchResult r (λ o. instruction_for o ≡ instruction_of f) (λ _. (W n : ℕ) → instruction_ok W n (instruction_of f) ≡ false)
