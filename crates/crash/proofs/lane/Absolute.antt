-- Absolute slot numbers: number a stands in slot a % N with wrap bit a / N % 2. The cursor, the slots before a slot and the slots ahead of
-- it in these numbers; a window of N numbers has one for each slot. Assumes nothing.
use mathlib.Core.Path.{◌≡◌, refl, ap, ◌∙◌, sym}
use mathlib.Core.Logic.{◌≢◌, ◌⊎◌, inl, inr}
use Prim.Native.Nat.{ℕ, zero, suc, ◌+◌, ◌-◌, ◌*◌, ◌/◌, ◌%◌, ◌≤◌, ◌<◌}
use native.Mathlib.Omega.{arith}
use native.Mathlib.Nat.{div-add-mod', mod-lt, add-div_right, mul-le-mul_right}
use lib.Arith.{digits_div, digits_mod}
use lib.Dec.{eqb, leb, ltb}
use borrow.Author.Tests.{eqb-true, eqb-false, leb-true, leb-false, ltb-true, ltb-false}
use Rattle.laws.specs.inner.Tests.{split}
use Rattle.lane_log.specs.Log.{back, back_wrap, ahead}
use Rattle.lane_log.specs.Append.{onward, advance, circular}
use Rattle.lane_log.specs.declared.Cursor.{Cursor}

unfoldable pub wrap_of : (N a : ℕ) → ℕ
wrap_of N a = a / N % 2

unfoldable pub cursor_at : (N a : ℕ) → Cursor
cursor_at N a = record { slot = a % N; wrap = wrap_of N a }

pub wrap-bound : (N a : ℕ) → wrap_of N a ≤ 1
unfolding wrap_of
wrap-bound N a = omega arith

module _ (N : ℕ) (pos : 0 < N) where
  -- a lap earlier: the same slot, the other wrap bit
  pub wrap-flips : (a : ℕ) → wrap_of N (a + N) ≢ wrap_of N a
  unfolding wrap_of
  wrap-flips a e = let d : (a + N) / N ≡ a / N + 1 = add-div_right a pos in omega arith

  -- ---- the cursor
  inner : (a : ℕ) → a % N + 1 < N → (suc a % N ≡ a % N + 1) × (suc a / N ≡ a / N)
  inner a h =
      let e : a / N * N + (a % N + 1) ≡ suc a = omega (arith, div-add-mod' a N) in
      (rw e at (digits_mod (a / N) h), rw e at (digits_div (a / N) h))

  wraps : (a : ℕ) → a % N + 1 ≡ N → (suc a % N ≡ 0) × (suc a / N ≡ a / N + 1)
  wraps a h =
      let e : (a / N + 1) * N + 0 ≡ suc a = omega (arith, div-add-mod' a N) in
      (rw e at (digits_mod (a / N + 1) pos), rw e at (digits_div (a / N + 1) pos))

  pub onward-cursor : (a : ℕ) → onward N (cursor_at N a) ≡ cursor_at N (suc a)
  unfolding onward cursor_at wrap_of
  onward-cursor a = split (eqb (a % N + 1) N) (λ e. rw e (flip (eqb-true (a % N + 1) N e))) (λ e. rw e (plain (eqb-false (a % N + 1) N e)))
    where
      flip : a % N + 1 ≡ N → ◌≡◌ {A = Cursor} (record { slot = 0; wrap = 1 - a / N % 2 }) (record { slot = suc a % N; wrap = suc a / N % 2 })
      flip h = rw ((wraps a h).0, (wraps a h).1) (ap (λ p. record { slot = 0; wrap = p }) (omega arith))

      plain : a % N + 1 ≢ N → ◌≡◌ {A = Cursor} (record { slot = a % N + 1; wrap = a / N % 2 }) (record { slot = suc a % N; wrap = suc a / N % 2 })
      plain d = let h : a % N + 1 < N = omega (arith, mod-lt a pos) in rw ((inner a h).0, (inner a h).1)

  pub advance-cursor : (n a : ℕ) → advance N n (cursor_at N a) ≡ cursor_at N (a + n)
  unfolding advance
  advance-cursor zero a = ap (cursor_at N) (let e : a ≡ a + 0 = omega arith in e)
  advance-cursor (suc n) a =
      ap (advance N n) (onward-cursor a) ∙ advance-cursor n (suc a) ∙ ap (cursor_at N) (let e : suc a + n ≡ a + suc n = omega arith in e)

  -- k slots on, as the code counts them
  pub circular-abs : (a k : ℕ) → k ≤ N → circular N (a % N + k) ≡ (a + k) % N
  unfolding circular
  circular-abs a k h =
      split (ltb (a % N + k) N)
      (λ e. rw e (sym (plain (ltb-true (a % N + k) N e))))
      (λ e. rw e (sym (past (ltb-false (a % N + k) N e))))
    where
      plain : a % N + k < N → (a + k) % N ≡ a % N + k
      plain l = let e : a / N * N + (a % N + k) ≡ a + k = omega (arith, div-add-mod' a N) in rw e at (digits_mod (a / N) l)

      past : N ≤ a % N + k → (a + k) % N ≡ a % N + k - N
      past l =
          let r : a % N + k - N < N = omega (arith, mod-lt a pos) in
          let e : (a / N + 1) * N + (a % N + k - N) ≡ a + k = omega (arith, div-add-mod' a N) in
          rw e at (digits_mod (a / N + 1) r)

  -- ---- i slots before number b
  module _ (b i : ℕ) (hi : i ≤ N) (hb : N ≤ b) where
    before-plain : i ≤ b % N → ((b - i) % N ≡ b % N - i) × ((b - i) / N ≡ b / N)
    before-plain h =
        let r : b % N - i < N = omega (arith, mod-lt b pos) in
        let e : b / N * N + (b % N - i) ≡ b - i = omega (arith, div-add-mod' b N) in
        (rw e at (digits_mod (b / N) r), rw e at (digits_div (b / N) r))

    before-wrap : b % N < i → ((b - i) % N ≡ b % N + N - i) × ((b - i) / N + 1 ≡ b / N)
    before-wrap h = go (b / N) refl
      where
        go : (k : ℕ) → b / N ≡ k → ((b - i) % N ≡ b % N + N - i) × ((b - i) / N + 1 ≡ b / N)
        go zero e = absurd (omega (arith, rw e at (div-add-mod' b N), mod-lt b pos))
        go (suc q) e =
            let r : b % N + N - i < N = omega arith in
            let f : q * N + (b % N + N - i) ≡ b - i = omega (arith, rw e at (div-add-mod' b N), mod-lt b pos) in
            (rw f at (digits_mod q r), rw (e, rw f at (digits_div q r)) (omega arith))

    pub back-abs : back N (b % N) i ≡ (b - i) % N
    unfolding back
    back-abs = split (leb i (b % N)) (λ e. rw (e, (before-plain (leb-true i (b % N) e)).0)) (λ e. rw (e, (before-wrap (leb-false i (b % N) e)).0))

    pub back_wrap-abs : back_wrap (wrap_of N b) (b % N) i ≡ wrap_of N (b - i)
    unfolding back_wrap wrap_of
    back_wrap-abs =
        split (leb i (b % N)) (λ e. rw (e, (before-plain (leb-true i (b % N) e)).1)) (λ e. rw e (omega (arith, (before-wrap (leb-false i (b % N) e)).1)))

  -- ---- a window of N numbers
  -- each slot has one
  pub window : (a b : ℕ) → a % N ≡ b % N → a ≤ b → b < a + N → a ≡ b
  window a b e l u =
      split (ltb (a / N) (b / N))
      (λ t. absurd (omega (arith, e, div-add-mod' a N, div-add-mod' b N, mul-le-mul_right N (ltb-true (a / N) (b / N) t))))
      (λ t. omega (arith, e, div-add-mod' a N, div-add-mod' b N, mul-le-mul_right N (ltb-false (a / N) (b / N) t)))

  -- how far the slot of a, one of the N before n, comes after the slot of n
  pub ahead-abs : (n a : ℕ) → n ≤ a + N → a < n → ahead N (n % N) (a % N) ≡ a + N - n
  unfolding ahead
  ahead-abs n a lo hi = split (leb (n % N) (a % N)) (λ t. rw t (far (leb-true (n % N) (a % N) t))) (λ t. rw t (near (leb-false (n % N) (a % N) t)))
    where
      da : a / N * N + a % N ≡ a
      da = div-add-mod' a N

      dn : n / N * N + n % N ≡ n
      dn = div-add-mod' n N

      near : a % N < n % N → a % N + N - n % N ≡ a + N - n
      near l =
          split (ltb (a / N) (n / N))
          (λ t. absurd (omega (arith, da, dn, mul-le-mul_right N (ltb-true (a / N) (n / N) t), mod-lt a pos, mod-lt n pos)))
          (λ t. split (ltb (n / N) (a / N))
          (λ u. absurd (omega (arith, da, dn, mul-le-mul_right N (ltb-true (n / N) (a / N) u), mod-lt a pos, mod-lt n pos)))
          (λ u. let e : a / N ≡ n / N = omega (arith, ltb-false (a / N) (n / N) t, ltb-false (n / N) (a / N) u) in
          let f : a / N * N ≡ n / N * N = ap (◌* N) e in omega (arith, da, dn, mod-lt n pos)))

      far : n % N ≤ a % N → a % N - n % N ≡ a + N - n
      far l =
          split (ltb (a / N) (n / N))
          (λ t. split (ltb (a / N + 1) (n / N))
          (λ u. absurd (omega (arith, da, dn, mul-le-mul_right N (ltb-true (a / N + 1) (n / N) u), mod-lt a pos, mod-lt n pos)))
          (λ u. let e : a / N + 1 ≡ n / N = omega (arith, ltb-true (a / N) (n / N) t, ltb-false (a / N + 1) (n / N) u) in
          let f : (a / N + 1) * N ≡ n / N * N = ap (◌* N) e in omega (arith, da, dn, mod-lt a pos)))
          (λ t. absurd (omega (arith, da, dn, mul-le-mul_right N (ltb-false (a / N) (n / N) t), mod-lt a pos, mod-lt n pos)))

  -- ---- two words of one slot, each of this lap or of the lap before: equal low bits, one lap
  module _ (address value : ℕ → ℕ) (a : ℕ)
      (la : address (a + N) % 2 ≡ wrap_of N (a + N)) (la₀ : address a % 2 ≡ wrap_of N a)
      (lv : value (a + N) % 2 ≡ wrap_of N (a + N)) (lv₀ : value a % 2 ≡ wrap_of N a) where
    pub same-wrap : (x y : ℕ) → (x ≡ address (a + N)) ⊎ (x ≡ address a) → (y ≡ value (a + N)) ⊎ (y ≡ value a) → x % 2 ≡ y % 2
        → ((x ≡ address (a + N)) × (y ≡ value (a + N))) ⊎ ((x ≡ address a) × (y ≡ value a))
    same-wrap x y (inl p) (inl q) e = inl (p, q)
    same-wrap x y (inr p) (inr q) e = inr (p, q)
    same-wrap x y (inl p) (inr q) e = absurd (wrap-flips a (sym la ∙ ap (◌% 2) (sym p) ∙ e ∙ ap (◌% 2) q ∙ lv₀))
    same-wrap x y (inr p) (inl q) e = absurd (wrap-flips a (sym lv ∙ ap (◌% 2) (sym q) ∙ sym e ∙ ap (◌% 2) p ∙ la₀))
