-- Inner: how the code goes, need not be believed. What a run draws and picks: pseudo-random numbers, each from the seed, and the recovery that an image
-- is for. Assumes nothing.
use Rattle.std.specs.Prelude.{ℕ, ◌-◌, ◌*◌, ◌/◌, ◌%◌, ◌^◌, cond, eqb}
use Rattle.std.specs.Int.Bits.{bit_xor}
use Rattle.second.specs.declared.calls.Call.{Call}
use Rattle.second.specs.declared.calls.Call.TheVariants.{Recover, RecoverRead}

-- the recovery of an image that is lent so long, where it has so many words without its trailer
abbrev pub recovery_of : (lent former : ℕ) → Call
recovery_of lent former = cond (eqb lent former) Recover RecoverRead

-- xorshift: 13 left, 7 right, 17 left
abbrev pub left13 : ℕ → ℕ
left13 a = bit_xor a ((a * 2 ^ 13) % 2 ^ 64)

abbrev pub right7 : ℕ → ℕ
right7 a = bit_xor a (a / 2 ^ 7)

abbrev pub left17 : ℕ → ℕ
left17 a = bit_xor a ((a * 2 ^ 17) % 2 ^ 64)

-- the number that is drawn next, which is the new seed
unfoldable pub drawn : (seed : ℕ) → ℕ
drawn seed = left17 (right7 (left13 seed))

-- the same below n, 0 where n is 0
abbrev pub drawn_below : (seed n : ℕ) → ℕ
drawn_below seed n = cond (eqb n 0) 0 (drawn seed % n)

-- a value of a word: once in eight times any, once in eight times one of the three greatest, else below 4
abbrev pub value_drawn : (seed : ℕ) → ℕ
value_drawn seed =
    let next = drawn seed in
    let pick = drawn_below seed 8 in
    cond (eqb pick 0) (drawn next) (cond (eqb pick 1) (2 ^ 64 - 1 - drawn_below next 3) (drawn_below next 4))
