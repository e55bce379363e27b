-- Inner: how the code goes, need not be believed. Laws of a transaction's run: at most one write an instruction, every write to a word below W, each old
-- value the running one, and the old values stored in reverse order restore the words. Assumes nothing.
use Rattle.std.specs.Prelude.{◌≡◌, ℕ, ◌/◌, ◌%◌, ◌<◌, ◌≤◌, true, ◌||◌, List, [], ◌∷◌, ◌++◌, length, set, ◌==◌, nat_le, slice_index, slice_set, refl}
use Rattle.std.proofs.Common.{ap, ◌∙◌, arith, mod-lt, length-append, length-set, set-set}
use Rattle.std.proofs.lemmas.List.{set-get_or}
use Rattle.laws.specs.inner.Tests.{split, and_left, and_right}
use Rattle.laws.specs.inner.Lists.{All, none, more, All-append}
use Rattle.txn.specs.declared.Write.{Write}
use Rattle.txn.specs.Txn.{Instruction, instructions_from, instructions, Rule, instruction_by, all_by, txn_by}
use Rattle.txn.specs.Txn.{target, result, emit, passed, applied, run_from, run, after}
use Rattle.txn.specs.inner.CheckLaws.{length_from, ok-few, ok-all, ok-low}

-- ---- the words after a list of writes
pub length-applied : (l : List Write) (ws : List ℕ) → length (applied l ws) ≡ length ws
unfolding applied
length-applied [] ws = refl
length-applied (w ∷ l) ws = length-applied l (slice_set ws w.word w.new) ∙ length-set ws w.word w.new

pub applied-append : (k l : List Write) (ws : List ℕ) → applied (k ++ l) ws ≡ applied l (applied k ws)
unfolding applied
applied-append [] l ws = refl
applied-append (w ∷ k) l ws = applied-append k l (slice_set ws w.word w.new)

-- ---- how many writes
pub length-emit : (W n : ℕ) (x : Instruction) (ws : List ℕ) → length (emit W n x ws) ≤ 1
unfolding emit
length-emit W n x ws = split (nat_le 1 n || x.code == 5) (λ e. rw e (omega arith)) (λ e. rw e (omega arith))

pub length-run_from : (W n : ℕ) (xs : List Instruction) (ws : List ℕ) → length (run_from W n xs ws) ≤ length xs
unfolding run_from
length-run_from W n [] ws = omega arith
length-run_from W n (x ∷ xs) ws =
    let e = emit W n x ws in
    let l = run_from W (passed n x ws) xs (applied e ws) in
    omega (arith, length-append e l, length-emit W n x ws, length-run_from W (passed n x ws) xs (applied e ws))

-- no words write nothing
pub run_none : (W : ℕ) (ws : List ℕ) → run W [] ws ≡ []
unfolding run instructions instructions_from run_from
run_none W ws = refl

-- at most one write an instruction
pub length_run : (W : ℕ) (f ws : List ℕ) → length (run W f ws) ≤ length f / 4
unfolding run instructions
length_run W f ws = omega (arith, length-run_from W 0 (instructions_from f 0 (length f / 4)) ws, length_from f 0 (length f / 4))

pub few-writes : (r : Rule) (most W : ℕ) (f ws : List ℕ) → txn_by r most W f ≡ true → length (run W f ws) ≤ most
few-writes r most W f ws ok = omega (arith, length_run W f ws, ok-few r most W f ok)

-- ---- POKE, which a lane may still hold, writes the word whose number is word b modulo W
pub poke-writes : (W : ℕ) (x : Instruction) (ws : List ℕ) → x.code ≡ 4
    → emit W 0 x ws ≡ record { word = slice_index ws x.b % W; old = slice_index ws (slice_index ws x.b % W); new = x.k } ∷ []
unfolding emit target result
poke-writes W x ws e = rw e

-- ---- every word written is below W
target-low : (W : ℕ) (x : Instruction) (ws : List ℕ) → x.a < W → target W x ws < W
unfolding target
target-low W x ws h = split (x.code == 4) (λ e. rw e (mod-lt _ (omega arith))) (λ e. rw e h)

emit-low : (W n : ℕ) (x : Instruction) (ws : List ℕ) → x.a < W → All (λ w. w.word < W) (emit W n x ws)
unfolding emit
emit-low W n x ws h = split (nat_le 1 n || x.code == 5) (λ e. rw e none) (λ e. rw e (more (target-low W x ws h) none))

pub run_from-low : (r : Rule) (W n : ℕ) (xs : List Instruction) (ws : List ℕ) → all_by r W xs ≡ true → All (λ w. w.word < W) (run_from W n xs ws)
unfolding run_from all_by
run_from-low r W n [] ws ok = none
run_from-low r W n (x ∷ xs) ws ok =
    All-append (emit-low W n x ws (ok-low W x r (length xs) (and_left _ _ ok)).0)
    (run_from-low r W (passed n x ws) xs (applied (emit W n x ws) ws) (and_right (instruction_by r W (length xs) x) _ ok))

pub run-low : (r : Rule) (most W : ℕ) (f ws : List ℕ) → txn_by r most W f ≡ true → All (λ w. w.word < W) (run W f ws)
unfolding run
run-low r most W f ws ok = run_from-low r W 0 (instructions f) ws (ok-all r most W f ok)

-- ---- each old value is the running one
pub data Chain : List ℕ → List Write → Type 0 where
  chain-nil : {ws : List ℕ} → Chain ws []
  chain-cons : {ws : List ℕ} {w : Write} {l : List Write} → w.old ≡ slice_index ws w.word → Chain (slice_set ws w.word w.new) l → Chain ws (w ∷ l)

pub chain-append : {ws : List ℕ} {k l : List Write} → Chain ws k → Chain (applied k ws) l → Chain ws (k ++ l)
unfolding applied
chain-append chain-nil d = d
chain-append (chain-cons e c) d = chain-cons e (chain-append c d)

emit-chain : (W n : ℕ) (x : Instruction) (ws : List ℕ) → Chain ws (emit W n x ws)
unfolding emit
emit-chain W n x ws = split (nat_le 1 n || x.code == 5) (λ e. rw e chain-nil) (λ e. rw e (chain-cons refl chain-nil))

pub run_from-chain : (W n : ℕ) (xs : List Instruction) (ws : List ℕ) → Chain ws (run_from W n xs ws)
unfolding run_from
run_from-chain W n [] ws = chain-nil
run_from-chain W n (x ∷ xs) ws = chain-append (emit-chain W n x ws) (run_from-chain W (passed n x ws) xs (applied (emit W n x ws) ws))

pub run-chain : (W : ℕ) (f ws : List ℕ) → Chain ws (run W f ws)
unfolding run
run-chain W f ws = run_from-chain W 0 (instructions f) ws

-- ---- the old values, stored in reverse order, restore the words
unfoldable pub undone : List Write → List ℕ → List ℕ
undone [] ws = ws
undone (w ∷ l) ws = slice_set (undone l ws) w.word w.old

pub undone-chain : {ws : List ℕ} {l : List Write} → Chain ws l → undone l (applied l ws) ≡ ws
unfolding undone applied
undone-chain chain-nil = refl
undone-chain (chain-cons {ws = ws} {w = w} e c) =
    ap (λ r. set r w.word w.old) (undone-chain c) ∙ set-set ws w.word w.new w.old ∙ ap (set ws w.word) e ∙ set-get_or ws w.word 0

pub undone-after : (W : ℕ) (f ws : List ℕ) → undone (run W f ws) (after W f ws) ≡ ws
unfolding after
undone-after W f ws = undone-chain (run-chain W f ws)
