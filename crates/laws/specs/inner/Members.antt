-- Inner: how the code goes, need not be believed. Membership in a list, as a data type. Assumes nothing.
use Rattle.std.specs.Prelude.{◌≡◌, refl, ◌⊎◌, List, [], ◌∷◌, ◌++◌}
use Rattle.std.proofs.Common.{inl, inr}
use Rattle.laws.specs.inner.Lists.{All, none as nil, more}

pub data In {A : Type 0} (x : A) : List A → Type 0 where
  here : {l : List A} → In x (x ∷ l)
  there : {y : A} {l : List A} → In x l → In x (y ∷ l)

module _ {A : Type 0} where
  pub in-cases : {x y : A} {l : List A} → In x (y ∷ l) → (x ≡ y) ⊎ In x l
  in-cases here = inl refl
  in-cases (there i) = inr i

  pub In-left : {x : A} {k : List A} (l : List A) → In x k → In x (k ++ l)
  In-left l here = here
  In-left l (there i) = there (In-left l i)

  pub In-right : {x : A} (k : List A) {l : List A} → In x l → In x (k ++ l)
  In-right [] i = i
  In-right (y ∷ k) i = there (In-right k i)

  -- in which of two lists
  pub In-append : {x : A} (k : List A) {l : List A} → In x (k ++ l) → (In x k) ⊎ (In x l)
  In-append [] i = inr i
  In-append (y ∷ k) here = inl here
  In-append {x} (y ∷ k) {l} (there i) = go (In-append k i)
    where
      go : (In x k) ⊎ (In x l) → (In x (y ∷ k)) ⊎ (In x l)
      go (inl j) = inl (there j)
      go (inr j) = inr j

  -- what holds of every element, and of each
  pub In-All : {x : A} {P : A → Type 0} {l : List A} → All P l → In x l → P x
  In-All {P = P} nil x4 = elim x4 [ ]
  In-All (more p h) here = p
  In-All (more p h) (there i) = In-All h i

  pub All-In : {P : A → Type 0} (l : List A) → ((x : A) → In x l → P x) → All P l
  All-In [] f = nil
  All-In (x ∷ l) f = more (f x here) (All-In l (λ y i. f y (there i)))
