-- What holds of every event of a list holds of those that come after its first ones. Assumes nothing.
use Prim.Native.Nat.{ℕ}
use mathlib.Core.List.{List, [], ◌∷◌, ◌++◌}
use Rattle.image.specs.declared.Sizes.{Sizes}
use Rattle.crash.specs.Events.{Event, Design}
use Rattle.crash.specs.Theorem.{Holds}
use Rattle.crash.specs.Corollaries.{World, next_world, world_after}

module _ (d : Design) (z : Sizes) (end : List ℕ) where
  pub holds-next : (w : World) (e : Event) (es : List Event) → Holds d z end w.system w.history (e ∷ es)
      → Holds d z end (next_world d z w e).system (next_world d z w e).history es
  unfolding next_world
  holds-next w e es v = v.1

  pub holds_after : (w : World) (es fs : List Event) → Holds d z end w.system w.history (es ++ fs)
      → Holds d z end (world_after d z w es).system (world_after d z w es).history fs
  unfolding world_after
  holds_after w [] fs v = v
  holds_after w (e ∷ es) fs v = holds_after (next_world d z w e) es fs (holds-next w e (es ++ fs) v)
