-- Inner: how the code goes, need not be believed. Laws of a run's writes as the code hands them on: a list of `most` that begins with them. Assumes
-- nothing.
use Rattle.std.specs.Prelude.{◌≡◌, ℕ, zero, suc, ◌+◌, ◌<◌, ◌≤◌, List, [], ◌∷◌, ◌++◌, length, take, replicate, slice_index_or, slice_set}
use Rattle.std.proofs.Math.Path.{refl, ap}
use Rattle.std.proofs.Common.{sym, arith, le_of_suc-le-suc, length-take-le}
use Rattle.std.proofs.lemmas.List.{take_more_set}
use Rattle.laws.specs.inner.Lists.{All, none, more}
use Rattle.txn.specs.declared.Write.{Write}
use Rattle.txn.specs.inner.Writes.{no_write, padded, Padded}

pub length-padded : (n : ℕ) (l : List Write) → length (padded n l) ≡ n
unfolding padded
length-padded zero l = refl
length-padded (suc n) [] = ap suc (length-padded n [])
length-padded (suc n) (w ∷ l) = ap suc (length-padded n l)

pub padded-none : (n : ℕ) → replicate n no_write ≡ padded n []
unfolding padded
padded-none zero = refl
padded-none (suc n) = ap {B = List Write} (λ r. no_write ∷ r) (padded-none n)

-- the first `count` of the list are the writes
pub take-padded : (n : ℕ) (l : List Write) → length l ≤ n → take (length l) (padded n l) ≡ l
unfolding padded
take-padded n [] h = refl
take-padded zero (w ∷ l) h = absurd (omega arith)
take-padded (suc n) (w ∷ l) h = ap {B = List Write} (λ r. w ∷ r) (take-padded n l (le_of_suc-le-suc h))

-- one write more
pub set-padded : (n : ℕ) (l : List Write) (w : Write) → length l < n → slice_set (padded n l) (length l) w ≡ padded n (l ++ (w ∷ []))
unfolding padded
set-padded zero l w h = absurd (omega arith)
set-padded (suc n) [] w h = refl
set-padded (suc n) (v ∷ l) w h = ap {B = List Write} (λ r. v ∷ r) (set-padded n l w (le_of_suc-le-suc h))

-- ---- the code's array
-- no writes
pub padded_new : (n : ℕ) → Padded n 0 (replicate n no_write)
padded_new n = record { few = omega arith; rest = padded-none n }

-- the writes give it back: how many they are, and the writes, padded
module _ (n count : ℕ) (list : List Write) (p : Padded n count list) where
  whole : length list ≡ n
  whole = rw p.rest (length-padded n (take count list))

  pub counted : length (take count list) ≡ count
  counted = length-take-le count list (omega (arith, whole, p.few))

  pub listed : padded n (take count list) ≡ list
  listed = sym p.rest

-- one write more
module _ (n count : ℕ) (list : List Write) (p : Padded n count list) (h : count < n) (w : Write) where
  pub view-more : take (count + 1) (slice_set list count w) ≡ take count list ++ (w ∷ [])
  view-more = take_more_set list count w (omega (arith, whole n count list p))

  padded_more : slice_set list count w ≡ padded n (take count list ++ (w ∷ []))
  padded_more =
      let s = set-padded n (take count list) w (omega (arith, counted n count list p)) in
      rw (counted n count list p, ← p.rest) at s

  pub pushed : Padded n (count + 1) (slice_set list count w)
  pushed = record { few = omega arith; rest = rw view-more padded_more }

-- what holds of every write holds of each of the list's first `count`
pub All-get_or : {P : Write → Type 0} {l : List Write} (i : ℕ) → All P l → i < length l → P (slice_index_or l i no_write)
All-get_or i none h = absurd (omega arith)
All-get_or zero (more p a) h = p
All-get_or (suc i) (more p a) h = All-get_or i a (le_of_suc-le-suc h)
