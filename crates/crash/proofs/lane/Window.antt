-- A log that is the window of a ghost history: the last N numbers stand in its N slots. Kept when one more slot is written. Assumes nothing.
use mathlib.Core.Path.{◌≡◌, ap, ◌∙◌, sym}
use mathlib.Core.Logic.{◌≢◌}
use mathlib.Core.List.{List, [], ◌∷◌, ◌++◌}
use Prim.Native.Nat.{ℕ, ◌+◌, ◌*◌, ◌%◌, ◌≤◌, ◌<◌}
use native.Mathlib.Omega.{arith}
use native.Mathlib.Nat.{mod-lt}
use native.Mathlib.Decide.{ℕ_discrete}
use lib.ListN.{length, get_or, set, replicate, length-append, length-replicate, get_or-replicate, get_or-append}
use lib.Seq.{get_or-set_same, get_or-set_other, get_or-append_seam, lt-length-set}
use Rattle.crash.proofs.lane.Absolute.{wrap_of, window}
use Rattle.crash.proofs.lane.Ghost.{Past, blank, address_of, value_of}

-- number a of a history
abbrev pub at : List Past → ℕ → Past
at h a = get_or h a blank

-- the slot of number a has its two words
pub record Exact (N : ℕ) (h : List Past) (log : List ℕ) (a : ℕ) : Type 0 where
  pub address : get_or log (2 * (a % N)) 0 ≡ address_of (wrap_of N a) (at h a)
  pub value : get_or log (2 * (a % N) + 1) 0 ≡ value_of (wrap_of N a) (at h a)

unfoldable pub Window : ℕ → List Past → List ℕ → Type 0
Window N h log = (a : ℕ) → length h ≤ a + N → a < length h → Exact N h log a

-- a slot's two words stored
unfoldable pub put : List ℕ → (j x y : ℕ) → List ℕ
put log j x y = set (set log (2 * j) x) (2 * j + 1) y

-- a log of zeros is the window of N blanks
pub window-start : (N : ℕ) (log : List ℕ) → 0 < N → ((j : ℕ) → j < 2 * N → get_or log j 0 ≡ 0) → Window N (replicate N blank) log
unfolding Window address_of value_of
window-start N log pos zero a lo hi =
    let l : a < N = omega (arith, length-replicate N blank) in
    let e = get_or-replicate N a blank blank l in
    record {
      address = zero (2 * (a % N)) (omega (arith, mod-lt a pos)) ∙ sym (ap (address_of (wrap_of N a)) e);
      value = zero (2 * (a % N) + 1) (omega (arith, mod-lt a pos)) ∙ sym (ap (value_of (wrap_of N a)) e);
    }

module _ (N : ℕ) (pos : 0 < N) where
  put-here : (log : List ℕ) (j x y : ℕ) → 2 * j + 1 < length log → (get_or (put log j x y) (2 * j) 0 ≡ x) × (get_or (put log j x y) (2 * j + 1) 0 ≡ y)
  unfolding put
  put-here log j x y h = (
    get_or-set_other (set log (2 * j) x) (2 * j + 1) (2 * j) y 0 (λ e. omega arith) ∙ get_or-set_same log (2 * j) x 0 (omega arith),
    get_or-set_same (set log (2 * j) x) (2 * j + 1) y 0 (lt-length-set log (2 * j) x h),
  )

  put-there : (log : List ℕ) (j x y i : ℕ) → i ≢ 2 * j → i ≢ 2 * j + 1 → get_or (put log j x y) i 0 ≡ get_or log i 0
  unfolding put
  put-there log j x y i d e = get_or-set_other (set log (2 * j) x) (2 * j + 1) i y 0 e ∙ get_or-set_other log (2 * j) i x 0 d

  pub window-put : (h : List Past) (c : Past) (log : List ℕ) → length log ≡ 2 * N → Window N h log
      → Window N (h ++ c ∷ []) (put log (length h % N) (address_of (wrap_of N (length h)) c) (value_of (wrap_of N (length h)) c))
  unfolding Window
  window-put h c log len w a lo hi = elim (ℕ_discrete a (length h)) [ yes e ↦ rw e here | no d ↦ there d ]
    where
      n : ℕ
      n = length h

      new : List ℕ
      new = put log (n % N) (address_of (wrap_of N n) c) (value_of (wrap_of N n) c)

      size : length (h ++ c ∷ []) ≡ n + 1
      size = length-append h (c ∷ [])

      here : Exact N (h ++ c ∷ []) new n
      here =
          let p = put-here log (n % N) (address_of (wrap_of N n) c) (value_of (wrap_of N n) c) (omega (arith, mod-lt n pos)) in
          record {
            address = p.0 ∙ ap (address_of (wrap_of N n)) (sym (get_or-append_seam h c [] blank));
            value = p.1 ∙ ap (value_of (wrap_of N n)) (sym (get_or-append_seam h c [] blank));
          }

      there : a ≢ n → Exact N (h ++ c ∷ []) new a
      there d =
          let k : a < n = omega (arith, size) in
          let o = w a (omega (arith, size)) k in
          let apart : a % N ≢ n % N = λ e. d (window N pos a n e (omega arith) (omega (arith, size))) in
          record {
            address = put-there log (n % N) _ _ (2 * (a % N)) (λ e. apart (omega arith)) (λ e. omega arith) ∙ o.address
                ∙ ap (address_of (wrap_of N a)) (sym (get_or-append h (c ∷ []) blank a k));
            value = put-there log (n % N) _ _ (2 * (a % N) + 1) (λ e. omega arith) (λ e. apart (omega arith)) ∙ o.value
                ∙ ap (value_of (wrap_of N a)) (sym (get_or-append h (c ∷ []) blank a k));
          }
