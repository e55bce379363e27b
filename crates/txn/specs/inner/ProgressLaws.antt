-- Inner: how the code goes, need not be believed. Laws of a run in progress: before the first instruction, one instruction more, after the last one.
-- Assumes nothing.
use Rattle.std.specs.Prelude.{◌≡◌, ℕ, ◌+◌, ◌-◌, ◌/◌, ◌%◌, ◌^◌, ◌<◌, ◌≤◌, true, false, cond, ◌&&◌, List, [], ◌∷◌, ◌++◌, length, take, replicate, ◌==◌, slice_index, slice_set, refl}
use Rattle.std.proofs.Common.{sym, ap, ◌∙◌, arith, length-append, le-leb}
use mathlib.Core.List.{append_assoc, append-nil}
use Rattle.laws.specs.inner.Tests.{clash, and_left, and_right}
use Rattle.txn.specs.declared.Write.{Write}
use Rattle.txn.specs.declared.operation.Operation.TheVariants.{Set, Copy, Add, Skip}
use Rattle.txn.specs.Txn.{Instruction, instruction_at, instructions_from, instructions, instruction_ok, current, instruction_by, all_by, txn_ok}
use Rattle.txn.specs.Txn.{target, result, emit, passed, applied, run_from, run}
use Rattle.txn.specs.inner.CheckLaws.{ok-low, ok-all, from_next, all-next}
use Rattle.txn.specs.inner.Operations.{instruction_for}
use Rattle.txn.specs.inner.Lookup.{buckets}
use Rattle.txn.specs.inner.LookupLaws.{applied-more, seen-none, seen-more}
use Rattle.txn.specs.inner.Progress.{Reached, Stores}

-- before the first instruction
pub reached-none : (most : ℕ) (f ws : List ℕ) → txn_ok most (length ws) f ≡ true → Reached f ws (length f / 4) 0 0 [] (replicate buckets 0)
unfolding run instructions applied
reached-none most f ws ok =
    let z : length f / 4 - 0 ≡ length f / 4 = omega arith in
    record { seen = seen-none ws; few = omega arith; ok = rw z (ok-all current most (length ws) f ok); rest = rw z }

-- ---- what an instruction does, by its operation, where none is to be passed over
module _ (W : ℕ) (x : Instruction) (ws : List ℕ) where
  pub sets : (word new : ℕ) → instruction_for (Set word new) ≡ x → Stores W x ws word new
  unfolding emit passed target result
  sets word new e = rw (← e) (record { target-is = refl; emits = refl; goes-on = refl })

  pub copies : (word from v : ℕ) → instruction_for (Copy word from) ≡ x → v ≡ slice_index ws from → Stores W x ws word v
  unfolding emit passed target result
  copies word from v e s = rw (← e, s) (record { target-is = refl; emits = refl; goes-on = refl })

  pub adds : (word from by v : ℕ) → instruction_for (Add word from by) ≡ x → v ≡ slice_index ws from → Stores W x ws word ((v + by) % 2 ^ 64)
  unfolding emit passed target result
  adds word from by v e s = rw (← e, s) (record { target-is = refl; emits = refl; goes-on = refl })

module _ {f ws : List ℕ} {n i p : ℕ} {writes : List Write} {last : List ℕ} (h : Reached f ws n i p writes last) where
  -- after the last one
  pub reached-all : n ≤ i → writes ≡ run (length ws) f ws
  unfolding instructions_from run_from
  reached-all l =
      let z : n - i ≡ 0 = omega arith in
      sym (rw z at h.rest ∙ append-nil writes)

  module _ (l : i < n) where
    -- the next instruction, those after it, and the data words as it sees them
    abbrev next : Instruction
    next = instruction_at f i

    abbrev later : List Instruction
    later = instructions_from f (i + 1) (n - (i + 1))

    abbrev running : List ℕ
    running = applied writes ws

    all-ok : (instruction_ok (length ws) (n - i - 1) next && all_by current (length ws) later) ≡ true
    all-ok = sym (all-next (length ws) f n i l) ∙ h.ok

    next-ok : instruction_ok (length ws) (n - i - 1) next ≡ true
    next-ok = and_left _ _ all-ok

    later-ok : all_by current (length ws) later ≡ true
    later-ok = and_right (instruction_ok (length ws) (n - i - 1) next) _ all-ok

    left : run (length ws) f ws
        ≡ writes ++ (emit (length ws) p next running ++ run_from (length ws) (passed p next running) later (applied (emit (length ws) p next running) running))
    unfolding run_from
    left = h.rest ∙ ap (λ xs. writes ++ run_from (length ws) p xs running) (from_next f n i l)

    -- it writes nothing, and `d` are to be passed over after it
    silent : (d : ℕ) → emit (length ws) p next running ≡ [] → passed p next running ≡ d → Reached f ws n (i + 1) d writes last
    unfolding applied
    silent d e s = record { seen = h.seen; few = omega (arith, h.few); ok = later-ok; rest = rw (e, s) at left }

    -- it is passed over
    pub reached-over : 0 < p → Reached f ws n (i + 1) (p - 1) writes last
    unfolding emit passed
    reached-over m = silent (p - 1) (rw (le-leb 1 p m)) (rw (le-leb 1 p m))

    -- it is well formed, so that it can be read, and its words looked up
    pub reached-known : ((W k : ℕ) → instruction_ok W k next ≡ false) → ⊥
    reached-known never = clash (instruction_ok (length ws) (n - i - 1) next) next-ok (never _ _)

    pub reached-low : (x : Instruction) → x ≡ next → (x.a < length ws) × (x.b < length ws)
    unfolding instruction_by
    reached-low x e = rw e (ok-low (length ws) next current (n - i - 1) next-ok)

    pub reached-value : (before : List Write) → before ≡ writes → (w v : ℕ) → w < length ws
        → v ≡ slice_index (applied (take (slice_index last (w % buckets)) before) ws) w → v ≡ slice_index running w
    reached-value before b w v m e = rw b at e ∙ h.seen.enough w m

    module _ (z : p ≡ 0) where
      -- it is a SKIP
      pub reached-skip : (test distance v : ℕ) → instruction_for (Skip test distance) ≡ next → v ≡ slice_index running test
          → Reached f ws n (i + 1) (cond (v == 0) distance p) writes last
      unfolding emit passed
      reached-skip test distance v e s = silent (cond (v == 0) distance p) (rw (z, ← e)) (rw (z, ← e, s))

      -- it writes
      module _ (word new : ℕ) (s : Stores (length ws) next running word new) where
        pub stores-low : word < length ws
        stores-low = rw (← s.target-is) (reached-low next refl).0

        pub reached-write : (before : List Write) → before ≡ writes → (old k : ℕ) (writes' : List Write)
            → old ≡ slice_index (applied (take (slice_index last (word % buckets)) before) ws) word
            → writes' ≡ writes ++ (record { word = word; old = old; new = new } ∷ []) → k ≡ length writes'
            → Reached f ws n (i + 1) p writes' (slice_set last (word % buckets) k)
        unfolding applied
        reached-write before b old k writes' o m c =
            let w : Write = record { word = word; old = slice_index running word; new = new } in
            let m' : writes' ≡ writes ++ (w ∷ []) = rw (← reached-value before b word old stores-low o) m in
            rw m'
            (record {
              seen = seen-more ws writes last h.seen w k (c ∙ ap length m');
              few = omega (arith, h.few, length-append writes (w ∷ []));
              ok = later-ok;
              rest = rw (applied-more writes w ws, append_assoc writes (w ∷ []), z) (rw (z, s.emits, s.goes-on) at left);
            })
