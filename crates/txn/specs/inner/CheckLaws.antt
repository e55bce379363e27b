-- Inner: how the code goes, need not be believed. Laws of the static check: what it says of a transaction, and one instruction's check by its code.
-- Assumes nothing.
use Rattle.std.specs.Prelude.{◌≡◌, ℕ, zero, suc, ◌+◌, ◌-◌, ◌/◌, ◌%◌, ◌<◌, ◌≤◌, Bool, true, false, ◌&&◌, List, [], ◌∷◌, length, ◌==◌, ◌≢◌, nat_le, nat_lt, refl}
use Rattle.std.proofs.Math.Path.{sym}
use Rattle.std.proofs.Common.{ap, ◌∙◌, add-one, le_of_suc-le-suc}
use Rattle.std.proofs.Math.Logic.{⊎_elim}
use Rattle.std.proofs.Math.Bool.{or-false}
use native.Mathlib.Omega.{arith}
use borrow.Author.Tests.{eqb-true, ltb-true, leb-true, eq-eqb, ne_eqb, lt-ltb, le-leb}
use Rattle.laws.specs.inner.Tests.{split, clash, and_left, and_right, and_both, or_cases}
use Rattle.txn.specs.Txn.{max_distance, Instruction, instruction_at, instructions_from, instructions}
use Rattle.txn.specs.Txn.{set_ok, copy_ok, add_ok, poke_ok, skip_ok, instruction_ok, Rule, current, former, instruction_by, all_by, txn_by, txn_ok}

pub length_from : (f : List ℕ) (i n : ℕ) → length (instructions_from f i n) ≡ n
unfolding instructions_from
length_from f i zero = refl
length_from f i (suc n) = ap suc (length_from f (suc i) n)

-- ---- what the static check says, by either rule
module _ (r : Rule) (most W : ℕ) (f : List ℕ) (ok : txn_by r most W f ≡ true) where
  counted : (nat_le 1 (length f / 4) && (nat_le (length f / 4) most && all_by r W (instructions f))) ≡ true
  unfolding txn_by
  counted = and_right (length f % 4 == 0) _ ok

  pub ok-some : 1 ≤ length f / 4
  ok-some = leb-true 1 (length f / 4) (and_left _ _ counted)

  pub ok-few : length f / 4 ≤ most
  ok-few = leb-true (length f / 4) most (and_left _ _ (and_right (nat_le 1 (length f / 4)) _ counted))

  pub ok-all : all_by r W (instructions f) ≡ true
  ok-all = and_right (nat_le (length f / 4) most) _ (and_right (nat_le 1 (length f / 4)) _ counted)

module _ (W : ℕ) (x : Instruction) where
  -- POKE is withdrawn: no instruction of its code is ok, whatever its fields, and however many follow it. All of the check is opened, the former rule's
  -- too: what is refused here is a check that takes a POKE somewhere
  pub poke-refused : (n : ℕ) → x.code ≡ 4 → instruction_ok W n x ≡ false
  unfolding instruction_ok set_ok copy_ok add_ok poke_ok skip_ok
  poke-refused n e = rw e

  -- a and b of an instruction that is ok are words' numbers, unused ones too
  abbrev Low : Type 0
  Low = (x.a < W) × (x.b < W)

  low-set : set_ok W x ≡ true → Low
  unfolding set_ok
  low-set h =
      let h₁ = and_right (x.code == 1) _ h in
      let a = ltb-true x.a W (and_left _ _ h₁) in
      let b = eqb-true x.b 0 (and_right (nat_lt x.a W) _ h₁) in
      (a, omega arith)

  low-copy : copy_ok W x ≡ true → Low
  unfolding copy_ok
  low-copy h =
      let h₁ = and_right (x.code == 2) _ h in
      let h₂ = and_right (nat_lt x.a W) _ h₁ in
      (ltb-true x.a W (and_left _ _ h₁), ltb-true x.b W (and_left _ _ h₂))

  low-add : add_ok W x ≡ true → Low
  unfolding add_ok
  low-add h =
      let h₁ = and_right (x.code == 3) _ h in
      (ltb-true x.a W (and_left _ _ h₁), ltb-true x.b W (and_right (nat_lt x.a W) _ h₁))

  low-poke : poke_ok W x ≡ true → Low
  unfolding poke_ok
  low-poke h =
      let h₁ = and_right (x.code == 4) _ h in
      let a = eqb-true x.a 0 (and_left _ _ h₁) in
      let b = ltb-true x.b W (and_right (x.a == 0) _ h₁) in
      (omega arith, b)

  low-skip : (n : ℕ) → skip_ok W n x ≡ true → Low
  unfolding skip_ok
  low-skip n h =
      let h₁ = and_right (x.code == 5) _ h in
      let a = eqb-true x.a 0 (and_left _ _ h₁) in
      let b = ltb-true x.b W (and_left _ _ (and_right (x.a == 0) _ h₁)) in
      (omega arith, b)

  low-current : (n : ℕ) → instruction_ok W n x ≡ true → Low
  unfolding instruction_ok
  low-current n h =
      ⊎_elim low-set
      (λ h. ⊎_elim low-copy
      (λ h. ⊎_elim low-add (low-skip n) (or_cases (add_ok W x) _ h))
      (or_cases (copy_ok W x) _ h))
      (or_cases (set_ok W x) _ h)

  pub ok-low : (r : Rule) (n : ℕ) → instruction_by r W n x ≡ true → (x.a < W) × (x.b < W)
  unfolding instruction_by
  ok-low current n h = low-current n h
  ok-low former n h = ⊎_elim (low-current n) low-poke (or_cases (instruction_ok W n x) _ h)

  -- what is ok by either rule is so by the former one
  ok-former : (r : Rule) (n : ℕ) → instruction_by r W n x ≡ true → instruction_by former W n x ≡ true
  unfolding instruction_by
  ok-former current n h = rw h
  ok-former former n h = h

  -- a SKIP passes over none but those that follow it
  pub ok-skip : (n : ℕ) → instruction_ok W n x ≡ true → x.code ≡ 5 → x.k ≤ n
  unfolding instruction_ok set_ok copy_ok add_ok skip_ok
  ok-skip n h e =
      let h₁ = and_right (x.a == 0) _ (rw e at h) in
      let h₂ = and_right (nat_le 1 x.k) _ (and_right (nat_lt x.b W) _ h₁) in
      leb-true x.k n (and_right (nat_le x.k max_distance) _ h₂)

-- .. and so are all instructions, and the transaction
all-former : (r : Rule) (W : ℕ) (xs : List Instruction) → all_by r W xs ≡ true → all_by former W xs ≡ true
unfolding all_by
all-former r W [] h = h
all-former r W (x ∷ xs) h =
    and_both _ _ (ok-former W x r (length xs) (and_left _ _ h)) (all-former r W xs (and_right (instruction_by r W (length xs) x) _ h))

pub txn-former : (r : Rule) (most W : ℕ) (f : List ℕ) → txn_by r most W f ≡ true → txn_by former most W f ≡ true
unfolding txn_by
txn-former r most W f ok =
    let a = ok-all r most W f ok in
    let b = le-leb 1 (length f / 4) (ok-some r most W f ok) in
    let c = le-leb (length f / 4) most (ok-few r most W f ok) in
    rw (and_left (length f % 4 == 0) _ ok, b, c) (all-former r W (instructions f) a)

-- ---- a POKE refuses its transaction, wherever it stands: also where a run would pass over it
all-at : (W : ℕ) (f : List ℕ) (j n i : ℕ) → i < n → all_by current W (instructions_from f j n) ≡ true
    → instruction_ok W (n - i - 1) (instruction_at f (j + i)) ≡ true
unfolding all_by instruction_by instructions_from
all-at W f j zero i l h = absurd (omega arith)
all-at W f j (suc n) zero l h =
    let e : suc n - 0 - 1 ≡ n = omega arith in
    let z : j + 0 ≡ j = omega arith in
    let a : instruction_ok W (length (instructions_from f (suc j) n)) (instruction_at f j) ≡ true = and_left _ _ h in
    rw (e, z) (rw (length_from f (suc j) n) at a)
all-at W f j (suc n) (suc i) l h =
    let e : suc n - suc i - 1 ≡ n - i - 1 = omega arith in
    let z : j + suc i ≡ suc j + i = omega arith in
    rw (e, z) (all-at W f (suc j) n i (le_of_suc-le-suc l) (and_right (instruction_ok W (length (instructions_from f (suc j) n)) (instruction_at f j)) _ h))

pub poke-in : (most W : ℕ) (f : List ℕ) (i : ℕ) → i < length f / 4 → (instruction_at f i).code ≡ 4 → txn_ok most W f ≡ false
unfolding instructions
poke-in most W f i l e =
    let z : 0 + i ≡ i = omega arith in
    let n = length f / 4 - i - 1 in
    split (txn_ok most W f)
    (λ ok. clash (instruction_ok W n (instruction_at f i)) (rw z at (all-at W f 0 (length f / 4) i l (ok-all current most W f ok)))
    (poke-refused W (instruction_at f i) n e))
    (λ no. no)

-- ---- one instruction's check, by its code
module _ (W n code a b k : ℕ) where
  abbrev answer : Bool
  answer = instruction_ok W n (record { code = code; a = a; b = b; k = k })

  pub answer-a : W ≤ a → false ≡ answer
  answer-a h = split answer (λ e. let l = low-current W (record { code = code; a = a; b = b; k = k }) n e in absurd (omega arith)) sym

  pub answer-b : W ≤ b → false ≡ answer
  answer-b h = split answer (λ e. let l = low-current W (record { code = code; a = a; b = b; k = k }) n e in absurd (omega arith)) sym

  module _ (la : a < W) (lb : b < W) where
    pub answer-set : code ≡ 1 → (b == 0) ≡ answer
    unfolding instruction_ok set_ok copy_ok add_ok skip_ok
    answer-set e = rw (e, lt-ltb a W la, or-false (b == 0))

    pub answer-copy : code ≡ 2 → (k == 0) ≡ answer
    unfolding instruction_ok set_ok copy_ok add_ok skip_ok
    answer-copy e = rw (e, lt-ltb a W la, lt-ltb b W lb, or-false (k == 0))

    pub answer-add : code ≡ 3 → true ≡ answer
    unfolding instruction_ok set_ok copy_ok add_ok skip_ok
    answer-add e = rw (e, lt-ltb a W la, lt-ltb b W lb)

    pub answer-skip : code ≡ 5 → a ≡ 0 → (nat_le 1 k && (nat_le k max_distance && nat_le k n)) ≡ answer
    unfolding instruction_ok set_ok copy_ok add_ok skip_ok
    answer-skip e z = rw (e, eq-eqb a 0 z, lt-ltb b W lb)

    pub answer-no-skip : code ≡ 5 → (a ≢ 0) → (a == 0) ≡ answer
    unfolding instruction_ok set_ok copy_ok add_ok skip_ok
    answer-no-skip e z = rw (e, ne_eqb a 0 z)

  pub answer-none : (code ≢ 1) → (code ≢ 2) → (code ≢ 3) → (code ≢ 5) → false ≡ answer
  unfolding instruction_ok set_ok copy_ok add_ok skip_ok
  answer-none e₁ e₂ e₃ e₅ = rw (ne_eqb code 1 e₁, ne_eqb code 2 e₂, ne_eqb code 3 e₃, ne_eqb code 5 e₅)

-- ---- the check of all instructions, one after the other
module _ (most W : ℕ) (f : List ℕ) where
  -- the words are no 1 to `most` instructions
  pub checked-not : (length f % 4 ≡ 0 → 1 ≤ length f / 4 → length f / 4 ≤ most → ⊥) → false ≡ txn_ok most W f
  unfolding txn_by
  checked-not never = split (txn_ok most W f) (λ e. absurd (never (eqb-true _ _ (and_left _ _ e)) (ok-some current most W f e) (ok-few current most W f e))) sym

  pub checked-ragged : (length f % 4 ≢ 0) → false ≡ txn_ok most W f
  unfolding txn_by
  checked-ragged h = rw (ne_eqb (length f % 4) 0 h)

  pub checked-empty : length f / 4 < 1 → false ≡ txn_ok most W f
  checked-empty h = split (txn_ok most W f) (λ e. absurd (omega (arith, ok-some current most W f e))) sym

  pub checked-long : most < length f / 4 → false ≡ txn_ok most W f
  checked-long h = split (txn_ok most W f) (λ e. absurd (omega (arith, ok-few current most W f e))) sym

  -- none is looked at yet
  pub checked-none : length f % 4 ≡ 0 → 1 ≤ length f / 4 → length f / 4 ≤ most → txn_ok most W f ≡ all_by current W (instructions_from f 0 (length f / 4 - 0))
  unfolding txn_by instructions
  checked-none e l h =
      let z : length f / 4 - 0 ≡ length f / 4 = omega arith in
      rw (eq-eqb (length f % 4) 0 e, le-leb 1 (length f / 4) l, le-leb (length f / 4) most h, z)

pub from_next : (f : List ℕ) (n i : ℕ) → i < n → instructions_from f i (n - i) ≡ instruction_at f i ∷ instructions_from f (i + 1) (n - (i + 1))
unfolding instructions_from
from_next f n i h = let e : n - i ≡ suc (n - (i + 1)) = omega arith in rw (e, add-one)

module _ (W : ℕ) (f : List ℕ) (n i : ℕ) where
  pub all-next : i < n
      → all_by current W (instructions_from f i (n - i))
      ≡ (instruction_ok W (n - i - 1) (instruction_at f i) && all_by current W (instructions_from f (i + 1) (n - (i + 1))))
  unfolding all_by instruction_by
  all-next h = let e : n - (i + 1) ≡ n - i - 1 = omega arith in rw (from_next f n i h, length_from, e)

  -- instruction i is refused, or the rest decides
  module _ (t r : Bool) (h : i < n) (a : t ≡ all_by current W (instructions_from f i (n - i))) (e : r ≡ instruction_ok W (n - i - 1) (instruction_at f i))
    where
      pub checked_refused : r ≡ false → false ≡ t
      checked_refused z = sym (a ∙ all-next h ∙ rw (sym e ∙ z))

      pub checked-more : r ≡ true → t ≡ all_by current W (instructions_from f (i + 1) (n - (i + 1)))
      checked-more z = a ∙ all-next h ∙ rw (sym e ∙ z)

  pub checked-all : (t : Bool) → n ≤ i → t ≡ all_by current W (instructions_from f i (n - i)) → true ≡ t
  unfolding all_by instruction_by instructions_from
  checked-all t h a = let e : n - i ≡ 0 = omega arith in sym (rw e at a)
