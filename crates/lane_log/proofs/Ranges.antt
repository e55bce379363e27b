-- Inner: how the code goes, need not be believed. Folds and tests over the numbers of a range. Assumes nothing.
use Rattle.std.specs.Prelude.{ℕ, zero, suc, ◌+◌, ◌*◌, ◌<◌, ◌≡◌, Bool, true, false, ◌||◌, List, [], ◌∷◌, ◌++◌}
use Rattle.std.specs.List.{fold, list_all, list_any, range_with_len}
use Rattle.std.specs.declared.ops.Range.{Range}
use Rattle.std.specs.Fn.{Mut}
use Rattle.std.specs.Iterator.{ActsAsOnTwo, FoldsItems}
use Rattle.std.proofs.iter.Yields.{nat_range_steps}
use Rattle.std.proofs.lemmas.Fn.{fold_over}
use Rattle.std.proofs.lemmas.Iterator.{YieldsList-from_range}
use Rattle.std.proofs.Common.{refl, sym, ap, ap₂, ◌∙◌, arith}
use Rattle.std.proofs.Math.Bool.{and-false, or-false, or_assoc}
use Rattle.std.proofs.Math.Nat.{mul-suc}
use Rattle.laws.specs.inner.Tests.{split, clash, or_left, or_right}

-- a fold goes through what each front of the range gives
pub fold-range : {B : Type 0} (h : B → ℕ → B) (r : ℕ → B) → ((k : ℕ) → h (r k) k ≡ r (k + 1)) → (a n : ℕ) → fold h (r a) (range_with_len a n) ≡ r (a + n)
fold-range h r e a zero = ap r (let f : a ≡ a + 0 = omega arith in f)
fold-range h r e a (suc n) =
    ap (λ b. fold h b (range_with_len (a + 1) n)) (e a) ∙ fold-range h r e (a + 1) n ∙ ap r (let f : a + 1 + n ≡ a + suc n = omega arith in f)

pub fold-below : {B : Type 0} (h : B → ℕ → B) (r : ℕ → B) → ((k : ℕ) → h (r k) k ≡ r (k + 1)) → (n : ℕ) → fold h (r 0) (range_with_len 0 n) ≡ r n
fold-below h r e n = fold-range h r e 0 n ∙ ap r (let f : 0 + n ≡ n = omega arith in f)

-- a fold over one range and the next
pub fold-on : {B : Type 0} (h : B → ℕ → B) (b : B) (a m n : ℕ)
    → fold h (fold h b (range_with_len a m)) (range_with_len (a + m) n) ≡ fold h b (range_with_len a (m + n))
fold-on h b a zero n = ap₂ (λ i k. fold h b (range_with_len i k)) (let f : a + 0 ≡ a = omega arith in f) (let f : n ≡ 0 + n = omega arith in f)
fold-on h b a (suc m) n =
    ap (λ i. fold h (fold h (h b a) (range_with_len (a + 1) m)) (range_with_len i n)) (let f : a + suc m ≡ a + 1 + m = omega arith in f)
    ∙ fold-on h (h b a) (a + 1) m n
    ∙ ap (λ k. fold h b (range_with_len a k)) (let f : suc (m + n) ≡ suc m + n = omega arith in f)

pub fold-next : {B : Type 0} (h : B → ℕ → B) (b : B) (n : ℕ) → h (fold h b (range_with_len 0 n)) n ≡ fold h b (range_with_len 0 (n + 1))
fold-next h b n = ap (h (fold h b (range_with_len 0 n))) (let f : n ≡ 0 + n = omega arith in f) ∙ fold-on h b 0 n 1

module _ (p : ℕ → Bool) where
  -- none passes, where the test says so
  pub any-not : (a n : ℕ) → list_any p (range_with_len a n) ≡ false → (i : ℕ) → i < n → p (a + i) ≡ false
  any-not a zero h i l = absurd (omega arith)
  any-not a (suc n) h zero l = ap p (let f : a + 0 ≡ a = omega arith in f) ∙ or_left (p a) _ h
  any-not a (suc n) h (suc i) l =
      ap p (let f : a + suc i ≡ a + 1 + i = omega arith in f) ∙ any-not (a + 1) n (or_right (p a) _ h) i (omega arith)

  -- else one does
  pub any-which : (a n : ℕ) → list_any p (range_with_len a n) ≡ true → (i : ℕ) × (i < n) × (p (a + i) ≡ true)
  any-which a zero h = clash false h refl
  any-which a (suc n) h =
      split (p a)
      (λ t. (0, omega arith, ap p (let f : a + 0 ≡ a = omega arith in f) ∙ t))
      (λ t. let d = any-which (a + 1) n (rw t at h) in
      (suc d.0, omega (arith, d.1), ap p (let f : a + suc d.0 ≡ a + 1 + d.0 = omega arith in f) ∙ d.2))

  -- one range and the next
  pub any-on : (a m n : ℕ) → (list_any p (range_with_len a m) || list_any p (range_with_len (a + m) n)) ≡ list_any p (range_with_len a (m + n))
  any-on a zero n = ap₂ (λ i k. list_any p (range_with_len i k)) (let f : a + 0 ≡ a = omega arith in f) (let f : n ≡ 0 + n = omega arith in f)
  any-on a (suc m) n =
      or_assoc (p a) (list_any p (range_with_len (a + 1) m)) (list_any p (range_with_len (a + suc m) n))
      ∙ ap (λ i. p a || (list_any p (range_with_len (a + 1) m) || list_any p (range_with_len i n))) (let f : a + suc m ≡ a + 1 + m = omega arith in f)
      ∙ ap (λ b. p a || b) (any-on (a + 1) m n)
      ∙ ap (λ k. list_any p (range_with_len a k)) (let f : suc (m + n) ≡ suc m + n = omega arith in f)

  -- a range in groups of w
  pub any-groups : (w a m : ℕ) → list_any (λ k. list_any p (range_with_len (w * k) w)) (range_with_len a m) ≡ list_any p (range_with_len (w * a) (w * m))
  any-groups w a zero = ap (λ k. list_any p (range_with_len (w * a) k)) (let f : 0 ≡ w * 0 = omega arith in f)
  any-groups w a (suc m) =
      ap (λ b. list_any p (range_with_len (w * a) w) || b) (any-groups w (a + 1) m)
      ∙ ap (λ i. list_any p (range_with_len (w * a) w) || list_any p (range_with_len i (w * m))) (let f : w * (a + 1) ≡ w * a + w = omega (arith, mul-suc w a) in f)
      ∙ any-on (w * a) w (w * m)
      ∙ ap (λ k. list_any p (range_with_len (w * a) k)) (let f : w + w * m ≡ w * suc m = omega (arith, mul-suc w m) in f)

  -- as a fold
  pub any-folds : (b : Bool) (xs : List ℕ) → (b || list_any p xs) ≡ fold (λ found j. found || p j) b xs
  any-folds b [] = or-false b
  any-folds b (x ∷ xs) = sym (or_assoc b (p x) (list_any p xs)) ∙ any-folds (b || p x) xs

  -- each passes
  pub all-pass : (a n : ℕ) → ((i : ℕ) → i < n → p (a + i) ≡ true) → list_all p (range_with_len a n) ≡ true
  all-pass a zero h = refl
  all-pass a (suc n) h =
      let first : p a ≡ true = ap p (let f : a ≡ a + 0 = omega arith in f) ∙ h 0 (omega arith) in
      rw first (all-pass (a + 1) n (λ i l. ap p (let f : a + 1 + i ≡ a + suc i = omega arith in f) ∙ h (suc i) (omega arith)))

  -- one does not
  pub all-fails : (a n i : ℕ) → i < n → p (a + i) ≡ false → list_all p (range_with_len a n) ≡ false
  all-fails a zero i l h = absurd (omega arith)
  all-fails a (suc n) zero l h =
      let first : p a ≡ false = ap p (let f : a ≡ a + 0 = omega arith in f) ∙ h in rw first refl
  all-fails a (suc n) (suc i) l h =
      rw (all-fails (a + 1) n i (omega arith) (ap p (let f : a + 1 + i ≡ a + suc i = omega arith in f) ∙ h)) (and-false (p a))

-- ---- what `fold` over a range gives, of a closure that computes h
fold-last : {A B : Type 0} (h : B → A → B) (b : B) (xs : List A) (x : A) → fold h b (xs ++ (x ∷ [])) ≡ h (fold h b xs) x
fold-last h b [] x = refl
fold-last h b (y ∷ ys) x = fold-last h (h b y) ys x

pub range-folds : {F B : Type 0} {g : Mut F (B × (ℕ × Unit {0})) B} {f : F} {s : Range ℕ} (h : B → ℕ → B) (n : ℕ) {b r : B}
    → s ≡ record { start = 0; end = n } → ActsAsOnTwo g f h → FoldsItems nat_range_steps g s f b r → r ≡ fold h b (range_with_len 0 n)
range-folds {g = g} {f = f} {s = s} h n {b = b} {r = r} e acts ran =
    fold_over nat_range_steps (λ x. x) g (λ xs c. c ≡ fold h b xs) f
    (λ ys c x d q i k. let t = acts c x d q k in (t.1 ∙ ap (λ z. h z x) i ∙ sym (fold-last h b ys x), t.0))
    s (range_with_len 0 n) b r (YieldsList-from_range 0 n n e (omega arith)).runs refl ran
