-- Of the sequences of one lane and timestamp that are found within one window, the one with the later number is undone first. Assumes nothing.
use mathlib.Core.Path.{◌≡◌, sym, ◌∙◌}
use mathlib.Core.Bool.{true}
use mathlib.Core.List.{List}
use Prim.Native.Nat.{ℕ, ◌+◌, ◌%◌, ◌≤◌, ◌<◌}
use native.Mathlib.Omega.{arith}
use Rattle.laws.specs.inner.Members.{In}
use Rattle.lane_log.specs.Log.{Complete, top_wrap, undone_before}
use Rattle.lane_log.specs.inner.OrderLaws.{wrap, slot, before-is, Rising, Top, absent, is, top, same-side, side_before, side_after}
use Rattle.crash.proofs.lane.Absolute.{wrap_of}
use Rattle.crash.proofs.lane.Lap.{Sooner, wrapped, higher, sooner}

-- e, one of the last N numbers before n, is that of sequence q
pub record Numbered (N n : ℕ) (q : Complete) (e : ℕ) : Type 0 where
  pub slot : e % N ≡ q.slot
  pub wrap : wrap_of N e ≡ q.wrap
  pub new : n ≤ e + N
  pub old : e < n

module _ (N n : ℕ) (pos : 0 < N) (qs : List Complete) (rising : Rising qs) (L s : ℕ)
    (numbered : (q : Complete) → In q qs → q.lane ≡ L → q.stamp ≡ s → (e : ℕ) × Numbered N n q e) where
  pub later_first : {q r : Complete} → In q qs → In r qs → q.lane ≡ L → r.lane ≡ L → q.stamp ≡ s → r.stamp ≡ s
      → (e f : ℕ) → Numbered N n q e → Numbered N n r f → f < e → undone_before qs q r ≡ true
  later_first {q} {r} i j a b c d e f x y l = go (top L s rising)
    where
      above : (p t : Complete) (g h : ℕ) → Numbered N n p g → Numbered N n t h → p.slot ≤ t.slot → g % N ≤ h % N
      above p t g h u v k = omega (arith, u.slot, v.slot)

      tops : (t p : Complete) → p.lane ≡ L → p.stamp ≡ s → ((v : ℕ) → top_wrap L s v qs ≡ t.wrap) → (v : ℕ) → top_wrap p.lane p.stamp v qs ≡ t.wrap
      tops t p u v g w = rw (u, v) (g w)

      go : Top L s qs → undone_before qs q r ≡ true
      go (absent g none) = absurd (none q i a c)
      go (is t k u v g low) = by (sooner N pos m.0 f e (above r t f m.0 y m.1 (low r j b d)) (above q t e m.0 x m.1 (low q i a c))
          (omega (arith, m.1.old, y.new)) (omega (arith, m.1.new, y.old)) (omega (arith, m.1.old, x.new)) (omega (arith, m.1.new, x.old)) l)
        where
          m : (e : ℕ) × Numbered N n t e
          m = numbered t k u v

          by : Sooner N m.0 f e → undone_before qs q r ≡ true
          by (wrapped p o) =
              before-is qs q r (wrap (d ∙ sym c) (b ∙ sym a)
              (omega (
                arith,
                side_before qs r t.wrap (tops t r b d g) (sym y.wrap ∙ p ∙ m.1.wrap),
                side_after qs q t.wrap (tops t q a c g) (λ h. o (x.wrap ∙ h ∙ sym m.1.wrap)),
              )))
          by (higher p o) =
              before-is qs q r (slot (d ∙ sym c) (b ∙ sym a) (same-side qs r q (b ∙ sym a) (d ∙ sym c) (sym y.wrap ∙ p ∙ x.wrap))
              (omega (arith, x.slot, y.slot)))
