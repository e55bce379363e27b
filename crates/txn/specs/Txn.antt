-- One transaction: its instructions, its static check, and its run, which gives the list of writes. SPECIFICATION, "Transactions". Assumes nothing.
use Rattle.std.specs.Prelude.{ℕ, zero, suc, ◌+◌, ◌-◌, ◌*◌, ◌/◌, ◌%◌, ◌^◌, Bool, true, cond, ◌&&◌, ◌||◌, List, [], ◌∷◌, ◌++◌, length, ◌==◌, nat_le, nat_lt, slice_index, slice_set}
use Rattle.txn.specs.declared.Write.{Write}

-- the most instructions of a transaction, and so the most writes: an instruction makes one or none
abbrev pub max_writes : ℕ
max_writes = 16

-- the most instructions of a long transaction, which runs under the lock
abbrev pub max_long : ℕ
max_long = 64

-- the greatest distance of SKIP
abbrev pub max_distance : ℕ
max_distance = 15

-- ---- instructions
pub record Instruction : Type 0 where
  pub code : ℕ
  pub a : ℕ
  pub b : ℕ
  pub k : ℕ

-- instruction i of a transaction's words
unfoldable pub instruction_at : List ℕ → ℕ → Instruction
instruction_at f i = record { code = slice_index f (4 * i); a = slice_index f (4 * i + 1); b = slice_index f (4 * i + 2); k = slice_index f (4 * i + 3) }

-- n instructions from instruction i on
unfoldable pub instructions_from : List ℕ → (i n : ℕ) → List Instruction
instructions_from f i zero = []
instructions_from f i (suc n) = instruction_at f i ∷ instructions_from f (suc i) n

-- the instructions of a transaction's words, four words each
unfoldable pub instructions : List ℕ → List Instruction
instructions f = instructions_from f 0 (length f / 4)

-- ---- the static check, of W data words
-- SET: word a becomes k
unfoldable pub set_ok : ℕ → Instruction → Bool
set_ok W x = x.code == 1 && (nat_lt x.a W && x.b == 0)

-- COPY: word a becomes word b
unfoldable pub copy_ok : ℕ → Instruction → Bool
copy_ok W x = x.code == 2 && (nat_lt x.a W && (nat_lt x.b W && x.k == 0))

-- ADD: word a becomes word b plus k
unfoldable pub add_ok : ℕ → Instruction → Bool
add_ok W x = x.code == 3 && (nat_lt x.a W && nat_lt x.b W)

-- POKE, which is withdrawn: the word whose number is word b modulo W becomes k
unfoldable pub poke_ok : ℕ → Instruction → Bool
poke_ok W x = x.code == 4 && (x.a == 0 && nat_lt x.b W)

-- SKIP: if word b is 0, the next k instructions are passed over; `after` follow it
unfoldable pub skip_ok : ℕ → ℕ → Instruction → Bool
skip_ok W after x = x.code == 5 && (x.a == 0 && (nat_lt x.b W && (nat_le 1 x.k && (nat_le x.k max_distance && nat_le x.k after))))

-- an instruction of a new transaction, where `after` follow it: a POKE is none
unfoldable pub instruction_ok : (W after : ℕ) → Instruction → Bool
instruction_ok W after x = set_ok W x || (copy_ok W x || (add_ok W x || skip_ok W after x))

-- the rule that a transaction is checked by: a new one by the current rule; by the former one, under which a lane may have logged what it still holds, a
-- transaction could have POKEs too
pub data Rule : Type 0 where
  current : Rule
  former : Rule

unfoldable pub instruction_by : Rule → (W after : ℕ) → Instruction → Bool
instruction_by current W after x = instruction_ok W after x
instruction_by former W after x = instruction_ok W after x || poke_ok W x

-- all instructions, those that a run may pass over too
unfoldable pub all_by : Rule → ℕ → List Instruction → Bool
all_by r W [] = true
all_by r W (x ∷ xs) = instruction_by r W (length xs) x && all_by r W xs

-- the words are 1 to `most` instructions, each well formed
unfoldable pub txn_by : Rule → (most W : ℕ) → List ℕ → Bool
txn_by r most W f = length f % 4 == 0 && (nat_le 1 (length f / 4) && (nat_le (length f / 4) most && all_by r W (instructions f)))

-- the check of a new transaction
abbrev pub txn_ok : (most W : ℕ) → List ℕ → Bool
txn_ok = txn_by current

-- ---- the run. It knows POKE: a lane may still hold one, and when it is committed the history runs it
-- the word that an instruction writes, where `ws` are the words so far
unfoldable pub target : ℕ → Instruction → List ℕ → ℕ
target W x ws = cond (x.code == 4) (slice_index ws x.b % W) x.a

-- what it writes there
unfoldable pub result : Instruction → List ℕ → ℕ
result x ws =
    cond (x.code == 2) (slice_index ws x.b)
    (cond (x.code == 3) ((slice_index ws x.b + x.k) % 2 ^ 64) x.k)

-- one instruction's write, as a list of one or none, where `n` instructions are still to be passed over
unfoldable pub emit : (W n : ℕ) → Instruction → List ℕ → List Write
emit W n x ws =
    cond (nat_le 1 n || x.code == 5) []
    (record { word = target W x ws; old = slice_index ws (target W x ws); new = result x ws } ∷ [])

-- how many instructions are to be passed over after it
unfoldable pub passed : (n : ℕ) → Instruction → List ℕ → ℕ
passed n x ws = cond (nat_le 1 n) (n - 1) (cond (x.code == 5 && slice_index ws x.b == 0) x.k 0)

-- the words after a list of writes
unfoldable pub applied : List Write → List ℕ → List ℕ
applied [] ws = ws
applied (w ∷ l) ws = applied l (slice_set ws w.word w.new)

-- the writes of a list of instructions, each seeing those before it
unfoldable pub run_from : (W n : ℕ) → List Instruction → List ℕ → List Write
run_from W n [] ws = []
run_from W n (x ∷ xs) ws = emit W n x ws ++ run_from W (passed n x ws) xs (applied (emit W n x ws) ws)

-- the writes of a transaction on W data words
unfoldable pub run : ℕ → List ℕ → List ℕ → List Write
run W f ws = run_from W 0 (instructions f) ws

-- the data words after a transaction
unfoldable pub after : ℕ → List ℕ → List ℕ → List ℕ
after W f ws = applied (run W f ws) ws
