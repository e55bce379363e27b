-- Inner: how the code goes, need not be believed. Laws of stores: what a list of stores leaves at an index, and that stores it writes over, as a prefix
-- of it, change nothing before it. Assumes nothing.
use Rattle.std.specs.Prelude.{◌≡◌, refl, Bool, true, false, cond, ◌||◌, List, [], ◌∷◌, ◌++◌, ℕ, zero, suc, ◌<◌, eqb, length, get_or, set, take}
use Rattle.std.proofs.Common.{ap, ◌∙◌, sym, length-set, lt-length-set, ext_get_or}
use Rattle.std.proofs.Math.Bool.{or_assoc}
use Rattle.laws.specs.inner.Tests.{or_left, or_right}
use Rattle.laws.specs.inner.Lists.{get_d_set}
use Rattle.image.specs.Stores.{Store, stored, places}

-- is i among these places
unfoldable pub among : ℕ → List ℕ → Bool
among i [] = false
among i (j ∷ js) = eqb j i || among i js

-- what the last store at i leaves, x where there is none
unfoldable pub last_at : List Store → ℕ → ℕ → ℕ
last_at [] i x = x
last_at (s ∷ l) i x = last_at l i (cond (eqb s.at i) s.value x)

pub length-stored : (l : List Store) (image : List ℕ) → length (stored l image) ≡ length image
unfolding stored
length-stored [] image = refl
length-stored (s ∷ l) image = length-stored l (set image s.at s.value) ∙ length-set image s.at s.value

pub get_or-stored : (l : List Store) (image : List ℕ) (i : ℕ) → i < length image → get_or (stored l image) i 0 ≡ last_at l i (get_or image i 0)
unfolding stored last_at
get_or-stored [] image i h = refl
get_or-stored (s ∷ l) image i h =
    get_or-stored l (set image s.at s.value) i (lt-length-set image s.at s.value h) ∙ ap (last_at l i) (get_d_set image s.at s.value i h)

pub stored-append : (k l : List Store) (image : List ℕ) → stored (k ++ l) image ≡ stored l (stored k image)
unfolding stored
stored-append [] l image = refl
stored-append (s ∷ k) l image = stored-append k l (set image s.at s.value)

-- one store more
pub stored-snoc : (k : List Store) (s : Store) (image : List ℕ) → stored (k ++ (s ∷ [])) image ≡ set (stored k image) s.at s.value
unfolding stored
stored-snoc k s image = stored-append k (s ∷ []) image

pub last_at-append : (k l : List Store) (i x : ℕ) → last_at (k ++ l) i x ≡ last_at l i (last_at k i x)
unfolding last_at
last_at-append [] l i x = refl
last_at-append (s ∷ k) l i x = last_at-append k l i (cond (eqb s.at i) s.value x)

pub places-append : (k l : List Store) → places (k ++ l) ≡ places k ++ places l
unfolding places
places-append [] l = refl
places-append (s ∷ k) l = ap (λ (is : List ℕ). s.at ∷ is) (places-append k l)

pub among-append : (i : ℕ) (is js : List ℕ) → among i (is ++ js) ≡ (among i is || among i js)
unfolding among
among-append i [] js = refl
among-append i (j ∷ is) js = rw (among-append i is js) (sym (or_assoc (eqb j i) (among i is) (among i js)))

-- where nothing is stored, the value stays
pub last_at-none : (l : List Store) (i x : ℕ) → among i (places l) ≡ false → last_at l i x ≡ x
unfolding among places last_at
last_at-none [] i x h = refl
last_at-none (s ∷ l) i x h = rw (or_left (eqb s.at i) _ h) (last_at-none l i x (or_right (eqb s.at i) _ h))

again : (l : List Store) (k i x : ℕ) → last_at l i (last_at (take k l) i x) ≡ last_at l i x
unfolding last_at
again [] zero i x = refl
again [] (suc k) i x = refl
again (s ∷ l) zero i x = refl
again (s ∷ l) (suc k) i x = go (eqb s.at i) (again l k i x)
  where
    go : (b : Bool) → last_at l i (last_at (take k l) i x) ≡ last_at l i x
        → last_at l i (cond b s.value (last_at (take k l) i (cond b s.value x))) ≡ last_at l i (cond b s.value x)
    go true ih = refl
    go false ih = ih

-- where the stores l never show after the stores k, they change nothing
pub stored-over : (k l : List Store) (image : List ℕ) → ((i x : ℕ) → last_at k i (last_at l i x) ≡ last_at k i x) → stored k (stored l image) ≡ stored k image
stored-over k l image f =
    ext_get_or 0 _ _ (rw (length-stored k (stored l image), length-stored l image, length-stored k image))
    (λ i h. point i (rw (length-stored k (stored l image), length-stored l image) at h))
  where
    point : (i : ℕ) → i < length image → get_or (stored k (stored l image)) i 0 ≡ get_or (stored k image) i 0
    point i h =
        get_or-stored k (stored l image) i (rw length-stored h)
        ∙ ap (last_at k i) (get_or-stored l image i h) ∙ f i (get_or image i 0) ∙ sym (get_or-stored k image i h)

-- a prefix of the stores and then all of them is all of them
pub stored-again : (l : List Store) (k : ℕ) (image : List ℕ) → stored l (stored (take k l) image) ≡ stored l image
stored-again l k image = stored-over l (take k l) image (again l k)
