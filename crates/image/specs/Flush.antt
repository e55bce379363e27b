-- Flush masks: bit L of a word's flag byte says that lane L has flushed the word. Write-back and drain. SPECIFICATION, "Flags, write-back and drain".
-- Assumes nothing.
use Rattle.std.specs.Prelude.{ℕ, zero, suc, ◌+◌, ◌*◌, ◌/◌, ◌%◌, Bool, cond, List, [], ◌∷◌, map, eqb, get_or, set}

-- is bit L set: bit 0, or a bit of the half
unfoldable pub flushed : ℕ → ℕ → Bool
flushed zero f = eqb (f % 2) 1
flushed (suc L) f = flushed L (f / 2)

-- with bit L set
unfoldable pub flush : ℕ → ℕ → ℕ
flush zero f = f / 2 * 2 + 1
flush (suc L) f = flush L (f / 2) * 2 + f % 2

-- with bit L cleared
unfoldable pub unflush : ℕ → ℕ → ℕ
unflush zero f = f / 2 * 2
unflush (suc L) f = unflush L (f / 2) * 2 + f % 2

-- bit L set in the flag bytes of these words
unfoldable pub flush_all : ℕ → List ℕ → List ℕ → List ℕ
flush_all L [] flags = flags
flush_all L (i ∷ is) flags = flush_all L is (set flags i (flush L (get_or flags i 0)))

-- non-volatile memory after a write-back of word i
unfoldable pub written_back : ℕ → List ℕ → List ℕ → List ℕ
written_back i cache nvm = set nvm i (get_or cache i 0)

-- non-volatile memory after a drain of lane L: each word that the lane has flushed has its present cached value
unfoldable pub drained_nvm : ℕ → (flags cache nvm : List ℕ) → List ℕ
drained_nvm L [] cache nvm = nvm
drained_nvm L (f ∷ fs) [] nvm = nvm
drained_nvm L (f ∷ fs) (c ∷ cs) [] = []
drained_nvm L (f ∷ fs) (c ∷ cs) (x ∷ xs) = cond (flushed L f) c x ∷ drained_nvm L fs cs xs

-- and the flag bytes: the lane's bit cleared
unfoldable pub drained_flags : ℕ → List ℕ → List ℕ
drained_flags L flags = map (unflush L) flags
