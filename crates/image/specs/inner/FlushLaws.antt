-- Inner: how the code goes, need not be believed. Laws of the flush masks, once for all lanes and all numbers: a lane's bit after set and clear, flag
-- bytes of many words, write-back and drain word by word. Assumes nothing.
use Rattle.std.specs.Prelude.{◌≡◌, refl, ◌≢◌, Bool, true, false, cond, ◌||◌, List, [], ◌∷◌, ◌++◌, map, ℕ, zero, suc, ◌+◌, ◌*◌, ◌/◌, ◌%◌, ◌<◌, eqb, length, get_or, set}
use Rattle.std.proofs.Common.{ap, ◌∙◌, sym, arith, le_of_suc-le-suc, not-suc-le-zero, length-set, lt-length-set, eq-eqb, ne_eqb, eqb-true}
use Rattle.std.proofs.Math.Bool.{or-true}
use Rattle.std.proofs.Math.Decide.{ℕ_discrete}
use Rattle.std.proofs.lemmas.List.{length-map}
use Rattle.std.proofs.Math.ListN.{get_or-map}
use Rattle.std.proofs.lemmas.Bool.{eqb-false}
use Rattle.laws.specs.inner.Tests.{split}
use Rattle.laws.specs.inner.Lists.{get_d_set}
use Rattle.image.specs.Flush.{flushed, flush, unflush, flush_all, written_back, drained_nvm, drained_flags}
use Rattle.image.specs.inner.StoresLaws.{among}

half : (x b : ℕ) → b < 2 → (x * 2 + b) / 2 ≡ x
half x b h = omega arith

low : (x b : ℕ) → b < 2 → (x * 2 + b) % 2 ≡ b
low x b h = omega arith

bit : (f : ℕ) → f % 2 < 2
bit f = omega arith

-- ---- set, clear and test of a lane's bit
pub flushed-flush : (L f : ℕ) → flushed L (flush L f) ≡ true
unfolding flushed flush
flushed-flush zero f = eq-eqb ((f / 2 * 2 + 1) % 2) 1 (omega arith)
flushed-flush (suc L) f = rw (half (flush L (f / 2)) (f % 2) (bit f)) (flushed-flush L (f / 2))

pub flushed-unflush : (L f : ℕ) → flushed L (unflush L f) ≡ false
unfolding flushed unflush
flushed-unflush zero f = ne_eqb (f / 2 * 2 % 2) 1 (λ e. omega arith)
flushed-unflush (suc L) f = rw (half (unflush L (f / 2)) (f % 2) (bit f)) (flushed-unflush L (f / 2))

-- the bits of the other lanes stay
pub flush-other : (M L f : ℕ) → M ≢ L → flushed M (flush L f) ≡ flushed M f
unfolding flushed flush
flush-other zero zero f h = absurd (h refl)
flush-other zero (suc L) f h = rw (low (flush L (f / 2)) (f % 2) (bit f))
flush-other (suc M) zero f h = ap (flushed M) (omega arith)
flush-other (suc M) (suc L) f h = rw (half (flush L (f / 2)) (f % 2) (bit f)) (flush-other M L (f / 2) (λ e. h (ap suc e)))

pub unflush-other : (M L f : ℕ) → M ≢ L → flushed M (unflush L f) ≡ flushed M f
unfolding flushed unflush
unflush-other zero zero f h = absurd (h refl)
unflush-other zero (suc L) f h = rw (low (unflush L (f / 2)) (f % 2) (bit f))
unflush-other (suc M) zero f h = ap (flushed M) (omega arith)
unflush-other (suc M) (suc L) f h = rw (half (unflush L (f / 2)) (f % 2) (bit f)) (unflush-other M L (f / 2) (λ e. h (ap suc e)))

-- clearing a bit that is not set changes nothing
pub unflush-none : (L f : ℕ) → flushed L f ≡ false → unflush L f ≡ f
unfolding flushed unflush
unflush-none zero f h = omega (arith, eqb-false (f % 2) 1 h)
unflush-none (suc L) f h = rw (unflush-none L (f / 2) h) (omega arith)

pub flushed-zero : (L : ℕ) → flushed L 0 ≡ false
unfolding flushed
flushed-zero zero = refl
flushed-zero (suc L) = flushed-zero L

pub unflush-zero : (L : ℕ) → unflush L 0 ≡ 0
unflush-zero L = unflush-none L 0 (flushed-zero L)

-- ---- flag bytes of many words
pub length-flush_all : (L : ℕ) (is flags : List ℕ) → length (flush_all L is flags) ≡ length flags
unfolding flush_all
length-flush_all L [] flags = refl
length-flush_all L (i ∷ is) flags = length-flush_all L is (set flags i (flush L (get_or flags i 0))) ∙ length-set flags i (flush L (get_or flags i 0))

pub flush_all-append : (L : ℕ) (is js flags : List ℕ) → flush_all L (is ++ js) flags ≡ flush_all L js (flush_all L is flags)
unfolding flush_all
flush_all-append L [] js flags = refl
flush_all-append L (i ∷ is) js flags = flush_all-append L is js (set flags i (flush L (get_or flags i 0)))

-- one word more
pub flush_all-snoc : (L : ℕ) (is : List ℕ) (i : ℕ) (flags : List ℕ)
    → flush_all L (is ++ (i ∷ [])) flags ≡ set (flush_all L is flags) i (flush L (get_or (flush_all L is flags) i 0))
unfolding flush_all
flush_all-snoc L is i flags = flush_all-append L is (i ∷ []) flags

-- one word flushed, seen at i
flush-at : (M L : ℕ) (flags : List ℕ) (j i : ℕ) → i < length flags
    → flushed M (get_or (set flags j (flush L (get_or flags j 0))) i 0) ≡ cond (eqb j i) (flushed M (flush L (get_or flags i 0))) (flushed M (get_or flags i 0))
flush-at M L flags j i h =
    rw (get_d_set flags j (flush L (get_or flags j 0)) i h)
    (split (eqb j i) (λ e. rw (e, eqb-true j i e)) (λ e. rw e))

-- the lane's own bit is set at these words
pub flushed-flush_all : (L : ℕ) (is flags : List ℕ) (i : ℕ) → i < length flags
    → flushed L (get_or (flush_all L is flags) i 0) ≡ (among i is || flushed L (get_or flags i 0))
unfolding flush_all among
flushed-flush_all L [] flags i h = refl
flushed-flush_all L (j ∷ is) flags i h =
    flushed-flush_all L is (set flags j (flush L (get_or flags j 0))) i (lt-length-set flags j _ h)
    ∙ rw (flush-at L L flags j i h, flushed-flush L (get_or flags i 0)) (go (eqb j i) (among i is))
  where
    go : (a b : Bool) → (b || cond a true (flushed L (get_or flags i 0))) ≡ ((a || b) || flushed L (get_or flags i 0))
    go true true = refl
    go true false = refl
    go false b = refl

-- the bits of the other lanes stay
pub flush_all-other : (M L : ℕ) (is flags : List ℕ) (i : ℕ) → M ≢ L → i < length flags
    → flushed M (get_or (flush_all L is flags) i 0) ≡ flushed M (get_or flags i 0)
unfolding flush_all
flush_all-other M L [] flags i d h = refl
flush_all-other M L (j ∷ is) flags i d h =
    flush_all-other M L is (set flags j (flush L (get_or flags j 0))) i d (lt-length-set flags j _ h)
    ∙ rw (flush-at M L flags j i h, flush-other M L (get_or flags i 0) d) (go (eqb j i))
  where
    go : (a : Bool) → cond a (flushed M (get_or flags i 0)) (flushed M (get_or flags i 0)) ≡ flushed M (get_or flags i 0)
    go true = refl
    go false = refl

-- a bit once set stays set
pub flush_all-keeps : (M L : ℕ) (is flags : List ℕ) (i : ℕ) → i < length flags → flushed M (get_or flags i 0) ≡ true
    → flushed M (get_or (flush_all L is flags) i 0) ≡ true
flush_all-keeps M L is flags i h k =
    elim (ℕ_discrete M L) [ yes e ↦ rw e (flushed-flush_all L is flags i h ∙ rw (← e, k) (or-true (among i is))) | no d ↦ flush_all-other M L is flags i d h ∙ k ]

-- ---- write-back
pub length-written_back : (w : ℕ) (cache nvm : List ℕ) → length (written_back w cache nvm) ≡ length nvm
unfolding written_back
length-written_back w cache nvm = length-set nvm w (get_or cache w 0)

pub get_or-written_back : (w : ℕ) (cache nvm : List ℕ) (i : ℕ) → i < length nvm
    → get_or (written_back w cache nvm) i 0 ≡ cond (eqb w i) (get_or cache i 0) (get_or nvm i 0)
unfolding written_back
get_or-written_back w cache nvm i h =
    get_d_set nvm w (get_or cache w 0) i h ∙ split (eqb w i) (λ e. rw (e, eqb-true w i e)) (λ e. rw e)

-- ---- drain
pub length-drained_nvm : (L : ℕ) (flags cache nvm : List ℕ) → length (drained_nvm L flags cache nvm) ≡ length nvm
unfolding drained_nvm
length-drained_nvm L [] cache nvm = refl
length-drained_nvm L (f ∷ fs) [] nvm = refl
length-drained_nvm L (f ∷ fs) (c ∷ cs) [] = refl
length-drained_nvm L (f ∷ fs) (c ∷ cs) (x ∷ xs) = ap suc (length-drained_nvm L fs cs xs)

pub get_or-drained_nvm : (L : ℕ) (flags cache nvm : List ℕ) (i : ℕ) → i < length flags → i < length cache → i < length nvm
    → get_or (drained_nvm L flags cache nvm) i 0 ≡ cond (flushed L (get_or flags i 0)) (get_or cache i 0) (get_or nvm i 0)
unfolding drained_nvm
get_or-drained_nvm L [] cache nvm i hf hc hn = absurd (not-suc-le-zero hf)
get_or-drained_nvm L (f ∷ fs) [] nvm i hf hc hn = absurd (not-suc-le-zero hc)
get_or-drained_nvm L (f ∷ fs) (c ∷ cs) [] i hf hc hn = absurd (not-suc-le-zero hn)
get_or-drained_nvm L (f ∷ fs) (c ∷ cs) (x ∷ xs) zero hf hc hn = refl
get_or-drained_nvm L (f ∷ fs) (c ∷ cs) (x ∷ xs) (suc i) hf hc hn =
    get_or-drained_nvm L fs cs xs i (le_of_suc-le-suc hf) (le_of_suc-le-suc hc) (le_of_suc-le-suc hn)

pub length-drained_flags : (L : ℕ) (flags : List ℕ) → length (drained_flags L flags) ≡ length flags
unfolding drained_flags
length-drained_flags L flags = length-map flags (unflush L)

pub get_or-drained_flags : (L : ℕ) (flags : List ℕ) (i : ℕ) → get_or (drained_flags L flags) i 0 ≡ unflush L (get_or flags i 0)
unfolding drained_flags
get_or-drained_flags L flags i = ap (get_or (map (unflush L) flags) i) (sym (unflush-zero L)) ∙ get_or-map (unflush L) flags i 0
