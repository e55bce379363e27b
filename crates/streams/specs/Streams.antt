-- What a stream that failed has given or taken: bytes from the start of a buffer. Assumes nothing.
use Rattle.std.specs.Prelude.{ℕ, List, take, Option}
use Rattle.std.specs.Io.KnownBytes.{Appends, Consumes}

-- a reader's known bytes began with the first bytes of bs, and lost these
abbrev pub ConsumesPart : Option (List ℕ) → Option (List ℕ) → List ℕ → Type 0
ConsumesPart old new bs = (k : ℕ) × Consumes old new (take k bs)

-- a writer's known bytes grew by the first bytes of bs
abbrev pub AppendsPart : Option (List ℕ) → Option (List ℕ) → List ℕ → Type 0
AppendsPart old new bs = (k : ℕ) × Appends old new (take k bs)
