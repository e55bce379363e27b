-- Inner: how the code goes, need not be believed. A transaction's words, taken four by four. Assumes nothing.
use Rattle.std.specs.Prelude.{◌≡◌, ℕ, zero, suc, ◌+◌, ◌*◌, ◌/◌, ◌<◌, List, [], drop, length, slice_index, slice_index_or}
use Rattle.std.specs.Simd.{first_chunks}
use Rattle.std.proofs.Common.{ap, ◌∙◌, arith, le_of_suc-le-suc, get_or-drop, get_or-take}
use Rattle.txn.specs.Txn.{Instruction, instruction_at}

-- the instruction that four words are
abbrev pub instruction_of : List ℕ → Instruction
instruction_of f = record { code = slice_index f 0; a = slice_index f 1; b = slice_index f 2; k = slice_index f 3 }

-- four words on
next-at : (f : List ℕ) (i : ℕ) → instruction_at (drop 4 f) i ≡ instruction_at f (suc i)
unfolding instruction_at
next-at f i =
    let at : (j k : ℕ) → 4 + j ≡ k → slice_index (drop 4 f) j ≡ slice_index f k = λ j k e. get_or-drop 4 f j 0 ∙ ap (slice_index f) e in
    rw (at (4 * i) (4 * suc i) (omega arith), at (4 * i + 1) (4 * suc i + 1) (omega arith), at (4 * i + 2) (4 * suc i + 2) (omega arith), at (4 * i + 3) (4 * suc i + 3) (omega arith))

chunk_at : (n : ℕ) (f : List ℕ) (i : ℕ) → i < n → instruction_of (slice_index_or (first_chunks 4 n f) i []) ≡ instruction_at f i
unfolding instruction_at
chunk_at zero f i h = absurd (omega arith)
chunk_at (suc n) f zero h =
    rw (get_or-take 4 f 0 0 (omega arith), get_or-take 4 f 1 0 (omega arith), get_or-take 4 f 2 0 (omega arith), get_or-take 4 f 3 0 (omega arith))
chunk_at (suc n) f (suc i) h = chunk_at n (drop 4 f) i (le_of_suc-le-suc h) ∙ next-at f i

-- chunk i of a transaction is instruction i
pub chunk-is : (f : List ℕ) (chunks : List (List ℕ)) (i : ℕ) → chunks ≡ first_chunks 4 (length f / 4) f → i < length f / 4
    → instruction_of (slice_index_or chunks i []) ≡ instruction_at f i
chunk-is f chunks i e h = rw e (chunk_at (length f / 4) f i h)
