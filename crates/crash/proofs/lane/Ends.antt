-- The end of an image, past the former length: kept by stores before it, by drains, since it is not flushed, and by write-backs, since cache and
-- non-volatile memory have the same. Assumes nothing.
use mathlib.Core.Path.{◌≡◌, refl, sym, ap, ◌∙◌}
use mathlib.Core.Logic.{◌⊎◌, inl, inr}
use mathlib.Core.Bool.{true, cond}
use mathlib.Core.List.{List, []}
use Prim.Native.Nat.{ℕ, ◌+◌, ◌-◌, ◌≤◌, ◌<◌}
use native.Mathlib.Omega.{arith}
use lib.Dec.{eqb, ltb}
use lib.ListN.{length, get_or, set, replicate, length-drop, length-set, length-replicate, drop_of_length-le}
use lib.Seq.{ext_get_or, get_or-drop, get_or-set_other}
use borrow.Author.Tests.{eq-eqb, le-leb, ltb-true, ltb-false}
use Rattle.laws.specs.inner.Tests.{split, clash}
use Rattle.laws.specs.inner.Lists.{All, none, more}
use Rattle.image.specs.Image.{sizes_ok, former_length, trailer, image_length, buffers_ok, sizes_at_end, trailer_ok}
use Rattle.image.specs.inner.ImageLaws.{format-good, former-good, format-either, former-either}
use Rattle.image.specs.Flush.{flush, flushed, flush_all, written_back, drained_nvm, drained_flags}
use Rattle.image.specs.inner.FlushLaws.{flushed-zero, unflush-zero, length-written_back, get_or-written_back, length-drained_nvm, get_or-drained_nvm}
use Rattle.image.specs.inner.FlushLaws.{length-drained_flags, get_or-drained_flags}
use Rattle.image.specs.inner.BulkLaws.{get_or-zeros}
use Rattle.image.specs.Stores.{Store, stored, places}
use Rattle.image.specs.declared.Sizes.{Sizes}
use Rattle.record.specs.declared.Record.{Record}
use Rattle.store.specs.Machine.{Machine}
use Rattle.store.specs.Calls.{drained, changed}
use Rattle.crash.specs.Theorem.{end_of, Ends}

-- it is nothing, or the trailer
abbrev pub Form : Sizes → (end : List ℕ) → Type 0
Form z end = (end ≡ []) ⊎ (end ≡ trailer z)

-- of a machine, whichever it is
pub record Tailed (z : Sizes) (m : Machine) : Type 0 where
  pub form : Form z (end_of z m.nvm)
  pub cache : end_of z m.cache ≡ end_of z m.nvm
  pub flags : end_of z m.flags ≡ replicate (length (end_of z m.nvm)) 0

-- ends of one length are one
pub same_end : (z : Sizes) (a b : List ℕ) → Form z a → Form z b → length a ≡ length b → a ≡ b
unfolding trailer
same_end z a b (inl e) (inl f) l = e ∙ sym f
same_end z a b (inl e) (inr f) l = absurd (omega (arith, ap length e, ap length f))
same_end z a b (inr e) (inl f) l = absurd (omega (arith, ap length e, ap length f))
same_end z a b (inr e) (inr f) l = e ∙ sym f

module _ (z : Sizes) where
  -- ---- word by word
  pub length-end : (l : List ℕ) → length (end_of z l) ≡ length l - former_length z
  unfolding end_of
  length-end l = length-drop (former_length z) l

  -- buffers with ends of one length are of one length
  pub same_length : (a b : List ℕ) → former_length z ≤ length a → former_length z ≤ length b → length (end_of z a) ≡ length (end_of z b) → length a ≡ length b
  same_length a b h g e = omega (arith, length-end a, length-end b)

  end-at : (l : List ℕ) (i : ℕ) → get_or (end_of z l) i 0 ≡ get_or l (former_length z + i) 0
  unfolding end_of
  end-at l i = get_or-drop (former_length z) l i 0

  end_same : (a b : List ℕ) → length a ≡ length b
      → ((i : ℕ) → former_length z + i < length a → get_or a (former_length z + i) 0 ≡ get_or b (former_length z + i) 0) → end_of z a ≡ end_of z b
  end_same a b e f =
      ext_get_or 0 (end_of z a) (end_of z b) (length-end a ∙ ap (λ (n : ℕ). n - former_length z) e ∙ sym (length-end b))
      (λ i h. end-at a i ∙ f i (omega (arith, length-end a)) ∙ sym (end-at b i))

  zero-at : (flags : List ℕ) (n : ℕ) → end_of z flags ≡ replicate n 0 → (i : ℕ) → get_or flags (former_length z + i) 0 ≡ 0
  zero-at flags n e i = sym (end-at flags i) ∙ ap (λ (l : List ℕ). get_or l i 0) e ∙ get_or-zeros n i

  -- ---- stores before the end
  end-set : (l : List ℕ) (k v : ℕ) → k < former_length z → end_of z (set l k v) ≡ end_of z l
  end-set l k v h = end_same (set l k v) l (length-set l k v) (λ i g. get_or-set_other l k (former_length z + i) v 0 (λ e. omega arith))

  pub end-stored : {xs : List Store} (image : List ℕ) → All (λ x. x.at < former_length z) xs → end_of z (stored xs image) ≡ end_of z image
  unfolding stored
  end-stored image none = refl
  end-stored image (more {x = x} p h) = end-stored (set image x.at x.value) h ∙ end-set image x.at x.value p

  end-flushed : (L : ℕ) {xs : List Store} (flags : List ℕ) → All (λ x. x.at < former_length z) xs → end_of z (flush_all L (places xs) flags) ≡ end_of z flags
  unfolding flush_all places
  end-flushed L flags none = refl
  end-flushed L flags (more {x = x} p h) =
      end-flushed L (set flags x.at (flush L (get_or flags x.at 0))) h ∙ end-set flags x.at (flush L (get_or flags x.at 0)) p

  -- ---- a drain
  module _ (L n : ℕ) (flags cache nvm : List ℕ) (e : end_of z flags ≡ replicate n 0) (f : length flags ≡ length nvm) (c : length cache ≡ length nvm) where
    pub end-drained : end_of z (drained_nvm L flags cache nvm) ≡ end_of z nvm
    end-drained =
        end_same (drained_nvm L flags cache nvm) nvm (length-drained_nvm L flags cache nvm)
        (λ i h. let l = length-drained_nvm L flags cache nvm in
        get_or-drained_nvm L flags cache nvm (former_length z + i) (omega arith) (omega arith) (omega arith)
        ∙ rw (zero-at flags n e i, flushed-zero L))

  -- a word that a lane has flushed is none of the end
  pub end-flagged : (L n i : ℕ) (flags cache nvm : List ℕ) → end_of z flags ≡ replicate n 0 → flushed L (get_or flags i 0) ≡ true
      → end_of z (written_back i cache nvm) ≡ end_of z nvm
  unfolding written_back
  end-flagged L n i flags cache nvm e t =
      split (ltb i (former_length z))
      (λ h. end-set nvm i (get_or cache i 0) (ltb-true i (former_length z) h))
      (λ h. clash _ t
      (ap (λ (k : ℕ). flushed L (get_or flags k 0)) (let q : i ≡ former_length z + (i - former_length z) = omega (arith, ltb-false i (former_length z) h) in q)
      ∙ rw (zero-at flags n e (i - former_length z), flushed-zero L)))

  end-cleared : (L n : ℕ) (flags : List ℕ) → end_of z flags ≡ replicate n 0 → end_of z (drained_flags L flags) ≡ replicate n 0
  end-cleared L n flags e =
      end_same (drained_flags L flags) flags (length-drained_flags L flags)
      (λ i h. get_or-drained_flags L flags (former_length z + i) ∙ rw (zero-at flags n e i, unflush-zero L))
      ∙ e

  -- ---- a write-back
  pub end-written : (k : ℕ) (cache nvm : List ℕ) → end_of z cache ≡ end_of z nvm → end_of z (written_back k cache nvm) ≡ end_of z nvm
  end-written k cache nvm e =
      end_same (written_back k cache nvm) nvm (length-written_back k cache nvm)
      (λ i h. get_or-written_back k cache nvm (former_length z + i) (omega (arith, length-written_back k cache nvm))
      ∙ point (former_length z + i) (sym (end-at cache i) ∙ ap (λ (l : List ℕ). get_or l i 0) e ∙ end-at nvm i))
    where
      point : (i : ℕ) → get_or cache i 0 ≡ get_or nvm i 0 → cond (eqb k i) (get_or cache i 0) (get_or nvm i 0) ≡ get_or nvm i 0
      point i d = split (eqb k i) (λ t. rw t d) (λ t. rw t)

-- flags that are all 0
pub end-zeros : (z : Sizes) (image : List ℕ) → end_of z (replicate (length image) 0) ≡ replicate (length (end_of z image)) 0
end-zeros z image =
    ext_get_or 0 (end_of z (replicate (length image) 0)) (replicate (length (end_of z image)) 0)
    (length-end z (replicate (length image) 0) ∙ ap (λ (n : ℕ). n - former_length z) (length-replicate (length image) 0) ∙ sym (length-end z image)
    ∙ sym (length-replicate (length (end_of z image)) 0))
    (λ i h. end-at z (replicate (length image) 0) i ∙ get_or-zeros (length image) (former_length z + i) ∙ sym (get_or-zeros (length (end_of z image)) i))

-- ---- what lengths and sizes an image with such an end has
pub no_end : (z : Sizes) (image : List ℕ) → length image ≡ former_length z → end_of z image ≡ []
unfolding end_of
no_end z image e = drop_of_length-le image {i = former_length z} (omega arith)

module _ (z : Sizes) (image : List ℕ) (size : former_length z ≤ length image) where
  pub end_none : end_of z image ≡ [] → length image ≡ former_length z
  end_none e = omega (arith, length-end z image, ap length e)

  pub end-sized : end_of z image ≡ trailer z → length image ≡ image_length z
  unfolding trailer image_length
  end-sized e = omega (arith, length-end z image, ap length e)

  module _ (e : end_of z image ≡ trailer z) where
    word : (i : ℕ) → get_or image (former_length z + i) 0 ≡ get_or (trailer z) i 0
    word i = sym (end-at z image i) ∙ ap (λ (l : List ℕ). get_or l i 0) e

    -- word i of the trailer, counted from the end
    from_end : (i k : ℕ) → i + k ≡ 4 → get_or image (length image - k) 0 ≡ get_or (trailer z) i 0
    unfolding image_length
    from_end i k s =
        ap (λ (n : ℕ). get_or image n 0) (let q : length image - k ≡ former_length z + i = omega (arith, end-sized e) in q) ∙ word i

    pub end-sizes : sizes_at_end image ≡ z
    unfolding sizes_at_end trailer
    end-sizes = rw (from_end 0 4 refl, from_end 1 3 refl, from_end 2 2 refl)

    pub end-ok : sizes_ok z ≡ true → trailer_ok image ≡ true
    unfolding trailer_ok trailer image_length
    end-ok ok =
        rw (
          end-sizes,
          ok,
          from_end 3 1 refl,
          eq-eqb (former_length z) (former_length z) refl,
          le-leb 4 (length image) (omega (arith, end-sized e)),
          eq-eqb (length image) (former_length z + 4) (end-sized e),
        )

-- buffers of the length of such an image
pub form-buffers : (z : Sizes) (cache image flags : List ℕ) → sizes_ok z ≡ true → former_length z ≤ length image → Form z (end_of z image)
    → length cache ≡ length image → length flags ≡ length image → buffers_ok z (length cache) (length image) (length flags) ≡ true
form-buffers z cache image flags ok size (inl e) c f =
    let n = end_none z image size e in
    former-either z _ _ _ (former-good z _ _ _ ok (record { in-cache = c ∙ n; in-nvm = n; in-flags = f ∙ n }))
form-buffers z cache image flags ok size (inr e) c f =
    let n = end-sized z image size e in
    format-either z _ _ _ (format-good z _ _ _ ok (record { in-cache = c ∙ n; in-nvm = n; in-flags = f ∙ n }))

-- ---- of a machine
pub tail-nvm : (z : Sizes) (m : Machine) → Tailed z m → (nvm : List ℕ) → end_of z nvm ≡ end_of z m.nvm
    → Tailed z (record { state = m.state; pairs = m.pairs; cache = m.cache; nvm = nvm; flags = m.flags })
tail-nvm z m t nvm e = record { form = rw e t.form; cache = rw e t.cache; flags = rw e t.flags }

pub tail-changed : (z : Sizes) (m : Machine) → Tailed z m → (L : ℕ) {xs : List Store} (r : Record) → All (λ x. x.at < former_length z) xs
    → Tailed z (changed L xs r m)
unfolding changed
tail-changed z m t L r h =
    record { form = t.form; cache = end-stored z m.cache h ∙ t.cache; flags = end-flushed z L m.flags h ∙ t.flags }

pub tail-drained : (z : Sizes) (m : Machine) → former_length z ≤ length m.cache → former_length z ≤ length m.nvm → former_length z ≤ length m.flags
    → Tailed z m → (L : ℕ) → Tailed z (drained z L m)
unfolding drained
tail-drained z m cl nl fl t L =
    let n = length (end_of z m.nvm) in
    let c = same_length z m.cache m.nvm cl nl (ap length t.cache) in
    let f = same_length z m.flags m.nvm fl nl (ap length t.flags ∙ length-replicate {A = ℕ} n 0) in
    let e = end-drained z L n m.flags m.cache m.nvm t.flags f c in
    record { form = rw e t.form; cache = rw e t.cache; flags = rw e (end-cleared z L n m.flags t.flags) }

-- a machine whose end is known by its lengths
pub ends-known : (z : Sizes) (end : List ℕ) (m : Machine) → Form z end → length m.nvm ≡ former_length z + length end
    → length m.cache ≡ length m.nvm → length m.flags ≡ length m.nvm → Tailed z m → Ends z end m
ends-known z end m f n c g t =
    let k : length m.nvm - former_length z ≡ length end = omega arith in
    let e = same_end z (end_of z m.nvm) end t.form f (length-end z m.nvm ∙ k) in
    record {
      nvm = record { long = n; ends = e };
      cache = record { long = c ∙ n; ends = t.cache ∙ e };
      unflushed = record {
        long = g ∙ n ∙ ap (λ (i : ℕ). former_length z + i) (sym (length-replicate {A = ℕ} (length end) 0));
        ends = t.flags ∙ ap (λ (l : List ℕ). replicate (length l) 0) e;
      };
    }
