-- Inner: how the code goes, need not be believed. Buffers that are lent alike. Assumes nothing.
use Rattle.std.specs.Prelude.{ℕ}
use Rattle.bench.specs.declared.session.Lengths.{Lengths}

-- so many words of each
abbrev pub all_long : (n : ℕ) → Lengths
all_long n = record { cache = n; nvm = n; flags = n }
