-- A recovery keeps every commit below the least floor: the boundary is not below that. Assumes nothing.
use Rattle.std.specs.Prelude.{Option}
use mathlib.Core.Path.{◌≡◌, refl}
use mathlib.Core.Bool.{true}
use mathlib.Core.List.{List, [], ◌∷◌}
use Prim.Native.Nat.{ℕ}
use native.Mathlib.Omega.{arith}
use borrow.Author.Tests.{ltb-true, lt-ltb}
use Rattle.image.specs.Image.{trailer}
use Rattle.image.specs.declared.Sizes.{Sizes}
use Rattle.recovery.specs.Recovery.{boundary}
use Rattle.recovery.specs.Answers.{Recovered}
use Rattle.recovery.specs.Answers.{Refused, Cut, Finished}
use Rattle.crash.specs.Events.{recover, Junk, System, live, down, Design, happens, Reply, answered, recovered, failed, ignored}
use Rattle.crash.specs.History.{History, is_below, least_floor_of}
use Rattle.crash.specs.Theorem.{NotBelow, no_boundary, at_least, Finishes, Replied, Holds}
use Rattle.crash.specs.Corollaries.{World, KeptBy, Kept}

-- what is below the floor is below the boundary
pub not-below : {f b : Option ℕ} → NotBelow f b → (s : ℕ) → is_below f s ≡ true → is_below b s ≡ true
unfolding is_below
not-below no_boundary s e = refl
not-below (at_least {f = f} {b = b} l) s e = lt-ltb s b (omega (arith, ltb-true s f e))

-- what is below `kept` is below the least floor
module _ (z : Sizes) (h : History) (kept : Option ℕ) (low : (s : ℕ) → is_below kept s ≡ true → is_below (least_floor_of h.pages) s ≡ true)
    (found : List ℕ) where
  kept-by : (y : System) (r : Recovered) → Finishes z h found y r → KeptBy z h kept y r
  kept-by y (Refused n) v = tt
  kept-by y Cut v = tt
  kept-by (live m) (Finished a) v =
      record { boundary = boundary z found; nvm = v.nvm; cache = v.cache; keeps = λ s e. not-below v.floors s (low s e) }
  kept-by (down nvm j f) (Finished a) v = v

  kept-reply : (lag limit : ℕ) (j : Junk) (was y : System) (r : Reply) → Replied z (trailer z) h (recover lag limit j) was found y r → Kept z h kept y r
  kept-reply lag limit j was y (answered a) v = tt
  kept-reply lag limit j was y (recovered r) v = kept-by y r v.leaves
  kept-reply lag limit j was y (failed d) v = tt
  kept-reply lag limit j was y ignored v = tt

pub recovery-keeps : (d : Design) (z : Sizes) (w : World) (kept : Option ℕ)
    → ((s : ℕ) → is_below kept s ≡ true → is_below (least_floor_of w.history.pages) s ≡ true)
    → (lag limit : ℕ) (j : Junk) → Holds d z (trailer z) w.system w.history (recover lag limit j ∷ [])
    → let r = happens d z w.system (recover lag limit j) in Kept z w.history kept r.system r.reply
recovery-keeps d z w kept low lag limit j v =
    let r = happens d z w.system (recover lag limit j) in
    kept-reply z w.history kept low r.found lag limit j w.system r.system r.reply v.0.reply
