-- Inner: how the code goes, need not be believed. The latest sequence of a list: a member that none of the list is above, and none undone before.
-- Assumes nothing.
use Rattle.std.specs.Prelude.{◌≡◌, refl, ◌⊎◌, false, List, [], ◌∷◌, ℕ, ◌≤◌, Some, None}
use Rattle.std.proofs.Common.{ap, sym, ⊎_elim, arith}
use Rattle.laws.specs.inner.Tests.{split, clash}
use Rattle.laws.specs.inner.Lists.{All, more}
use Rattle.lane_log.specs.Log.{Complete, undone_before, ordered, sequence_of, first_of, latest}
use Rattle.lane_log.specs.declared.Sequence.{Sequence}
use Rattle.laws.specs.inner.Members.{In, here, there, In-All, All-In}
use Rattle.lane_log.specs.inner.OrderLaws.{Before, is-before, before-is, not-self, before-false, Sorted, first, All-ordered, ordered-sorted, ordered-in}

never : {A : Type 0} {q : Sequence} → None ≡ Some q → A
never e = absurd (let z : ◌≡◌ {A = ℕ} 0 1 = cc in omega arith)

-- a member of the list: none of the list is above it, and none is undone before it
pub record Greatest (qs : List Complete) (r : Sequence) : Type 0 where
  pub by : Complete
  pub found : In by qs
  pub is : sequence_of by ≡ r
  pub above : {q : Complete} → In q qs → q.stamp ≤ r.stamp
  pub first : {q : Complete} → In q qs → undone_before qs q by ≡ false

-- the first of a list in order
module _ (qs : List Complete) where
  self-false : (q : Complete) → undone_before qs q q ≡ false
  self-false q = split (undone_before qs q q) (λ t. not-self qs q (is-before qs q q t)) (λ t. t)

  head_first : {q : Complete} {rs : List Complete} → Sorted qs (q ∷ rs) → {p : Complete} → In p (q ∷ rs) → undone_before qs p q ≡ false
  head_first (first {r = q} h s) here = self-false q
  head_first (first h s) (there i) = In-All h i

first-none : (l : List Complete) → first_of l ≡ None → l ≡ []
unfolding first_of
first-none [] e = refl
first-none (q ∷ l) e = never (sym e)

none_in : (qs : List Complete) → latest qs ≡ None → {q : Complete} → In q qs → ⊥
unfolding latest
none_in qs e {q} i = let j : In q [] = rw (first-none (ordered qs qs) e) at (ordered-in qs qs i) in elim j [ ]

-- there is a latest one unless the list is empty
pub latest-none : (qs : List Complete) → latest qs ≡ None → qs ≡ []
latest-none [] e = refl
latest-none (q ∷ qs) e = absurd (none_in (q ∷ qs) e here)

pub is_one : {q r : Sequence} → Some q ≡ Some r → q ≡ r
is_one p = cc

member : (qs : List Complete) → All (λ q. In q qs) (ordered qs qs)
member qs = All-ordered qs (All-In qs (λ q i. i))

-- what it is
pub latest-greatest : (qs : List Complete) (r : Sequence) → latest qs ≡ Some r → Greatest qs r
unfolding latest first_of sequence_of
latest-greatest qs r e = by (ordered qs qs) (member qs) (ordered-sorted qs qs) (λ q i. ordered-in qs qs i) e
  where
    by : (l : List Complete) → All (λ q. In q qs) l → Sorted qs l → ((q : Complete) → In q qs → In q l) → first_of l ≡ Some r → Greatest qs r
    by [] m s f g = never g
    by (q ∷ l) (more i m) s f g =
        let k : sequence_of q ≡ r = is_one g in
        record {
          by = q;
          found = i;
          is = k;
          above = λ {q = p} j. let b = before-false qs p q (head_first qs s (f p j)) in omega (arith, ap (λ (s : Sequence). s.stamp) k);
          first = λ {q = p} j. head_first qs s (f p j);
        }

-- and that a member undone before all others is it
pub latest-first : (qs : List Complete) (q : Complete) → In q qs → ((r : Complete) → In r qs → (r ≡ q) ⊎ Before qs q r) → latest qs ≡ Some (sequence_of q)
unfolding latest first_of
latest-first qs q i h = by (ordered qs qs) (member qs) (ordered-sorted qs qs) (ordered-in qs qs i)
  where
    by : (l : List Complete) → All (λ q. In q qs) l → Sorted qs l → In q l → first_of l ≡ Some (sequence_of q)
    by [] m s j = elim j [ ]
    by (p ∷ l) (more k m) s j =
        ⊎_elim
        (λ (e : p ≡ q). ap (λ (p : Complete). Some (sequence_of p)) e)
        (λ (b : Before qs q p). clash _ (before-is qs q p b) (head_first qs s j))
        (h p k)
