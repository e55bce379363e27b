-- Inner: how the code goes, need not be believed. Laws of lists: a fact of every element, a load after a store, a stretch of a list. Assumes nothing.
use Rattle.std.specs.Prelude.{◌≡◌, Bool, true, false, cond, List, [], ◌∷◌, ◌++◌, ℕ, zero, suc, ◌+◌, ◌-◌, ◌≤◌, ◌<◌, min, eqb, length, get_or, set, take, drop}
use Rattle.std.proofs.Common.{ap, ◌∙◌, sym, arith, le_of_suc-le-suc, length-take, length-drop, ext_get_or, get_or-take, get_or-drop, get_or-set_same, get_or-set_other, eqb-true}
use Rattle.std.proofs.lemmas.Bool.{eqb-false}
use Rattle.laws.specs.inner.Tests.{split}

-- P holds of every element; a data type, so that the list and P are found from a proof
pub data All {A : Type 0} (P : A → Type 0) : List A → Type 0 where
  none : All P []
  more : {x : A} {l : List A} → P x → All P l → All P (x ∷ l)

module _ {A : Type 0} where
  pub All-append : {P : A → Type 0} {k l : List A} → All P k → All P l → All P (k ++ l)
  All-append none q = q
  All-append (more x p) q = more x (All-append p q)

  pub All-cond : {P : A → Type 0} (b : Bool) {k l : List A} → All P k → All P l → All P (cond b k l)
  All-cond true p q = p
  All-cond false p q = q

  pub All-map : {P Q : A → Type 0} → ((x : A) → P x → Q x) → {l : List A} → All P l → All Q l
  All-map f none = none
  All-map f (more {x} p h) = more (f x p) (All-map f h)

  pub All-rest : {P : A → Type 0} {x : A} {l : List A} → All P (x ∷ l) → All P l
  All-rest (more p h) = h

  pub All-take : {P : A → Type 0} (n : ℕ) {l : List A} → All P l → All P (take n l)
  All-take zero none = none
  All-take zero (more p h) = none
  All-take (suc n) none = none
  All-take (suc n) (more p h) = more p (All-take n h)

  -- take of an append, past the first list
  pub take_past : (k l : List A) (n : ℕ) → length k ≤ n → take n (k ++ l) ≡ k ++ take (n - length k) l
  take_past [] l n h = ap (λ m. take m l) (let e : n ≡ n - 0 = omega arith in e)
  take_past (x ∷ k) l zero h = absurd (omega arith)
  take_past (x ∷ k) l (suc n) h =
      ap (λ r. x ∷ r)
      (take_past k l n (le_of_suc-le-suc h) ∙ ap (λ m. k ++ take m l) (let e : n - length k ≡ suc n - suc (length k) = omega arith in e))

-- a load after a store, as a test
pub get_d_set : (c : List ℕ) (j v i : ℕ) → i < length c → get_or (set c j v) i 0 ≡ cond (eqb j i) v (get_or c i 0)
get_d_set c j v i h = split (eqb j i) (λ e. rw e (hit (eqb-true j i e))) (λ e. rw e (get_or-set_other c j i v 0 (λ p. eqb-false j i e (sym p))))
  where
    hit : j ≡ i → get_or (set c j v) i 0 ≡ v
    hit p = rw p (get_or-set_same c i v 0 h)

-- two lists that agree on a stretch
pub stretch-same : (m n : ℕ) (a b : List ℕ) → length a ≡ length b → ((i : ℕ) → i < n → m + i < length a → get_or a (m + i) 0 ≡ get_or b (m + i) 0)
    → take n (drop m a) ≡ take n (drop m b)
stretch-same m n a b e f = ext_get_or 0 (take n (drop m a)) (take n (drop m b)) (len a ∙ ap (λ k. min n (k - m)) e ∙ sym (len b)) point
  where
    len : (a : List ℕ) → length (take n (drop m a)) ≡ min n (length a - m)
    len a = length-take n (drop m a) ∙ ap (min n) (length-drop m a)

    point : (i : ℕ) → i < length (take n (drop m a)) → get_or (take n (drop m a)) i 0 ≡ get_or (take n (drop m b)) i 0
    point i h =
        let h₁ : i < n = omega (arith, len a) in
        let h₂ : m + i < length a = omega (arith, len a) in
        get_or-take n (drop m a) i 0 h₁ ∙ get_or-drop m a i 0 ∙ f i h₁ h₂ ∙ sym (get_or-take n (drop m b) i 0 h₁ ∙ get_or-drop m b i 0)
