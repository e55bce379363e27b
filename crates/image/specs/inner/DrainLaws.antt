-- Inner: how the code goes, need not be believed. A drain in progress: what stands in non-volatile memory and in the flag bytes once the words below i
-- are done, how it goes on, and that the end is the drain. Assumes nothing.
use Prim.Native.Nat.{ℕ, zero, suc, ◌+◌, ◌^◌, ◌<◌, ◌≤◌}
use Rattle.std.specs.Prelude.{◌≡◌, Bool, true, false, cond, List, [], ◌∷◌, ◌++◌, length, get_or, set, take, drop}
use Rattle.std.proofs.Math.Path.{refl}
use Rattle.std.proofs.Common.{sym, ◌∙◌, ap, zero-add, suc-add, le_of_suc-le-suc, not-suc-le-zero, add-one, length-set, take_all}
use native.Mathlib.Omega.{arith}
use borrow.Rule.Slice.PartMut.{mid_of, put_mid, same_len_mid}
use Rattle.std.specs.Int.Bits.{bit_or}
use Rattle.std.specs.List.{fold}
use Rattle.std.proofs.Math.ListN.{length-drop}
use Rattle.std.proofs.Math.Seq.{take-suc, get_or-drop}
use Rattle.std.proofs.lemmas.List.Sums.{fold-append}
use Rattle.std.proofs.lemmas.List.{set-get_or}
use Rattle.image.specs.Flush.{flushed, unflush, written_back, drained_nvm, drained_flags}
use Rattle.image.specs.inner.FlushLaws.{unflush-none, length-written_back, length-drained_nvm, length-drained_flags}
use Rattle.image.specs.inner.MaskLaws.{flushed-or}

-- the flag bytes with the lane's bit cleared in the first i
unfoldable pub cleared_below : ℕ → ℕ → List ℕ → List ℕ
cleared_below L zero flags = flags
cleared_below L (suc i) [] = []
cleared_below L (suc i) (f ∷ fs) = unflush L f ∷ cleared_below L i fs

cleared_at : (L i : ℕ) (flags : List ℕ) → get_or (cleared_below L i flags) i 0 ≡ get_or flags i 0
unfolding cleared_below
cleared_at L zero flags = refl
cleared_at L (suc i) [] = refl
cleared_at L (suc i) (f ∷ fs) = cleared_at L i fs

cleared_more : (L i : ℕ) (flags : List ℕ) → set (cleared_below L i flags) i (unflush L (get_or flags i 0)) ≡ cleared_below L (suc i) flags
unfolding cleared_below
cleared_more L zero [] = refl
cleared_more L zero (f ∷ fs) = refl
cleared_more L (suc i) [] = refl
cleared_more L (suc i) (f ∷ fs) = ap (λ (l : List ℕ). unflush L f ∷ l) (cleared_more L i fs)

cleared-all : (L i : ℕ) (flags : List ℕ) → length flags ≤ i → cleared_below L i flags ≡ drained_flags L flags
unfolding cleared_below drained_flags
cleared-all L zero [] h = refl
cleared-all L zero (f ∷ fs) h = absurd (not-suc-le-zero h)
cleared-all L (suc i) [] h = refl
cleared-all L (suc i) (f ∷ fs) h = ap (λ (l : List ℕ). unflush L f ∷ l) (cleared-all L i fs (le_of_suc-le-suc h))

cond_same : (b : Bool) (l : List ℕ) → l ≡ cond b l l
cond_same true l = refl
cond_same false l = refl

cond-out : {A : Type 0} (g : A → List ℕ) (b : Bool) (x y : A) → g (cond b x y) ≡ cond b (g x) (g y)
cond-out g true x y = refl
cond-out g false x y = refl

-- one more word drained
nvm-more : (L i : ℕ) (flags cache nvm : List ℕ) → i < length flags → i < length cache
    → drained_nvm L (take (suc i) flags) cache nvm
    ≡ cond (flushed L (get_or flags i 0)) (written_back i cache (drained_nvm L (take i flags) cache nvm)) (drained_nvm L (take i flags) cache nvm)
unfolding drained_nvm written_back
nvm-more L i [] cache nvm hf hc = absurd (not-suc-le-zero hf)
nvm-more L i (f ∷ fs) [] nvm hf hc = absurd (not-suc-le-zero hc)
nvm-more L zero (f ∷ fs) (c ∷ cs) [] hf hc = cond_same (flushed L f) []
nvm-more L zero (f ∷ fs) (c ∷ cs) (x ∷ xs) hf hc = cond-out (λ (y : ℕ). y ∷ xs) (flushed L f) c x
nvm-more L (suc i) (f ∷ fs) (c ∷ cs) [] hf hc = cond_same (flushed L (get_or fs i 0)) []
nvm-more L (suc i) (f ∷ fs) (c ∷ cs) (x ∷ xs) hf hc =
    ap first (nvm-more L i fs cs xs (le_of_suc-le-suc hf) (le_of_suc-le-suc hc))
    ∙ cond-out first (flushed L (get_or fs i 0)) (written_back i cs (drained_nvm L (take i fs) cs xs)) (drained_nvm L (take i fs) cs xs)
  where
    first : List ℕ → List ℕ
    first l = cond (flushed L f) c x ∷ l

-- the flag bytes of the n words from i on, or-ed together
unfoldable pub or_of : List ℕ → ℕ → ℕ → ℕ
or_of flags i zero = 0
or_of flags i (suc n) = bit_or (or_of flags i n) (get_or flags (i + n) 0)

pub or-more : (flags : List ℕ) (i n : ℕ) → bit_or (or_of flags i n) (get_or flags (i + n) 0) ≡ or_of flags i (n + 1)
unfolding or_of
or-more flags i n = rw (add-one n)

-- non-volatile memory and flag bytes after the first i words, from nvm₀ and flags₀
pub record Drained (L : ℕ) (cache nvm₀ flags₀ : List ℕ) (i : ℕ) (nvm flags : List ℕ) : Type 0 where
  pub in-nvm : length nvm ≡ length nvm₀
  pub in-flags : length flags ≡ length flags₀
  pub copied : nvm ≡ drained_nvm L (take i flags₀) cache nvm₀
  pub cleared : flags ≡ cleared_below L i flags₀

module _ (L : ℕ) (cache nvm₀ flags₀ : List ℕ) where
  drained-none : Drained L cache nvm₀ flags₀ 0 nvm₀ flags₀
  unfolding drained_nvm cleared_below
  drained-none = record { in-nvm = refl; in-flags = refl; copied = refl; cleared = refl }

  module _ (i : ℕ) (nvm flags : List ℕ) (d : Drained L cache nvm₀ flags₀ i nvm flags) (hn : i < length flags) (hc : i < length cache) where
    hf : i < length flags₀
    hf = rw (← d.in-flags) hn

    flag-now : get_or flags i 0 ≡ get_or flags₀ i 0
    flag-now = rw d.cleared (cleared_at L i flags₀)

    drained-copy : flushed L (get_or flags i 0) ≡ true
        → Drained L cache nvm₀ flags₀ (i + 1) (written_back i cache nvm) (set flags i (unflush L (get_or flags i 0)))
    drained-copy t =
        record {
          in-nvm = length-written_back i cache nvm ∙ d.in-nvm;
          in-flags = length-set flags i (unflush L (get_or flags i 0)) ∙ d.in-flags;
          copied = rw (add-one i, nvm-more L i flags₀ cache nvm₀ hf hc, ← flag-now, t, d.copied);
          cleared = rw (add-one i, flag-now, d.cleared) (cleared_more L i flags₀);
        }

    drained-skip : flushed L (get_or flags i 0) ≡ false → Drained L cache nvm₀ flags₀ (i + 1) nvm flags
    drained-skip t =
        record {
          in-nvm = d.in-nvm;
          in-flags = d.in-flags;
          copied = d.copied ∙ rw (add-one i, nvm-more L i flags₀ cache nvm₀ hf hc, ← flag-now, t);
          cleared =
              d.cleared ∙ sym (set-get_or (cleared_below L i flags₀) i 0)
              ∙ rw (add-one i, ← cleared_more L i flags₀, cleared_at L i flags₀, unflush-none L (get_or flags₀ i 0) (rw flag-now at t));
        }

  -- the next n words at once, where the lane's bit is clear in the or of their flag bytes
  drained-pass : (i n : ℕ) (nvm flags : List ℕ) → Drained L cache nvm₀ flags₀ i nvm flags → i + n ≤ length flags → i + n ≤ length cache
      → flushed L (or_of flags i n) ≡ false → Drained L cache nvm₀ flags₀ (i + n) nvm flags
  unfolding or_of
  drained-pass i zero nvm flags d hf hc t = let e : i + 0 ≡ i = omega arith in rw e d
  drained-pass i (suc n) nvm flags d hf hc t =
      let none = flushed-or L (or_of flags i n) (get_or flags (i + n) 0) t in
      let before : Drained L cache nvm₀ flags₀ (i + n) nvm flags = drained-pass i n nvm flags d (omega arith) (omega arith) none.0 in
      let e : i + suc n ≡ i + n + 1 = omega arith in
      rw e (drained-skip (i + n) nvm flags before (omega arith) (omega arith) none.1)

  drained-all : (i : ℕ) (nvm flags : List ℕ) → length flags₀ ≤ i → Drained L cache nvm₀ flags₀ i nvm flags
      → (nvm ≡ drained_nvm L flags₀ cache nvm₀) × (flags ≡ drained_flags L flags₀)
  drained-all i nvm flags h d =
      (d.copied ∙ ap (λ (l : List ℕ). drained_nvm L l cache nvm₀) (take_all i flags₀ h), d.cleared ∙ cleared-all L i flags₀ h)

-- a drain by the mask's lane goes on from i, where nvm and flags stand, to j, where nvm' and flags' stand, whatever it began with
pub record DrainedOn (mask : ℕ) (cache : List ℕ) (i : ℕ) (nvm flags : List ℕ) (j : ℕ) (nvm' flags' : List ℕ) : Type 0 where
  pub same-nvm : length nvm' ≡ length nvm
  pub same_flags : length flags' ≡ length flags
  pub on : (L : ℕ) → mask ≡ 2 ^ L → (nvm₀ flags₀ : List ℕ) → Drained L cache nvm₀ flags₀ i nvm flags → Drained L cache nvm₀ flags₀ j nvm' flags'

module _ (mask : ℕ) (cache : List ℕ) (i : ℕ) (nvm flags : List ℕ) where
  pub on_none : DrainedOn mask cache i nvm flags i nvm flags
  on_none = record { same-nvm = refl; same_flags = refl; on = λ L m nvm₀ flags₀ d. d }

  module _ (j : ℕ) (nvm' flags' : List ℕ) (o : DrainedOn mask cache i nvm flags j nvm' flags') where
    -- one word more, flushed or not
    module _ (hf : j < length flags') (hc : j < length cache) (b : Bool) (is : (L : ℕ) → mask ≡ 2 ^ L → b ≡ flushed L (get_or flags' j 0)) where
      pub on-copy : (f : ℕ) → ((L : ℕ) → mask ≡ 2 ^ L → f ≡ unflush L (get_or flags' j 0)) → b ≡ true
          → DrainedOn mask cache i nvm flags (j + 1) (written_back j cache nvm') (set flags' j f)
      on-copy f clear t =
          record {
            same-nvm = length-written_back j cache nvm' ∙ o.same-nvm;
            same_flags = length-set flags' j f ∙ o.same_flags;
            on = λ L m nvm₀ flags₀ d.
                rw (clear L m) (drained-copy L cache nvm₀ flags₀ j nvm' flags' (o.on L m nvm₀ flags₀ d) hf hc (sym (is L m) ∙ t));
          }

      pub on-skip : b ≡ false → DrainedOn mask cache i nvm flags (j + 1) nvm' flags'
      on-skip t =
          record {
            same-nvm = o.same-nvm;
            same_flags = o.same_flags;
            on = λ L m nvm₀ flags₀ d. drained-skip L cache nvm₀ flags₀ j nvm' flags' (o.on L m nvm₀ flags₀ d) hf hc (sym (is L m) ∙ t);
          }

    -- n words more, none of them flushed
    pub on-pass : (n : ℕ) → j + n ≤ length flags' → j + n ≤ length cache → (any : ℕ) → any ≡ or_of flags' j n
        → (b : Bool) → ((L : ℕ) → mask ≡ 2 ^ L → b ≡ flushed L any) → b ≡ false → DrainedOn mask cache i nvm flags (j + n) nvm' flags'
    on-pass n hf hc any e b is t =
        record {
          same-nvm = o.same-nvm;
          same_flags = o.same_flags;
          on = λ L m nvm₀ flags₀ d.
              drained-pass L cache nvm₀ flags₀ j n nvm' flags' (o.on L m nvm₀ flags₀ d) hf hc (rw (← e) (sym (is L m) ∙ t));
        }

    -- and on from there
    pub on_then : (k : ℕ) (nvm'' flags'' : List ℕ) → DrainedOn mask cache j nvm' flags' k nvm'' flags'' → DrainedOn mask cache i nvm flags k nvm'' flags''
    on_then k nvm'' flags'' p =
        record {
          same-nvm = p.same-nvm ∙ o.same-nvm;
          same_flags = p.same_flags ∙ o.same_flags;
          on = λ L m nvm₀ flags₀ d. p.on L m nvm₀ flags₀ (o.on L m nvm₀ flags₀ d);
        }

-- from the first word to the last
pub on-all : (L mask : ℕ) (cache nvm₀ flags₀ : List ℕ) (i : ℕ) (nvm flags : List ℕ) → mask ≡ 2 ^ L → length flags₀ ≤ i
    → DrainedOn mask cache 0 nvm₀ flags₀ i nvm flags → (nvm ≡ drained_nvm L flags₀ cache nvm₀) × (flags ≡ drained_flags L flags₀)
on-all L mask cache nvm₀ flags₀ i nvm flags m h o =
    drained-all L cache nvm₀ flags₀ i nvm flags h (o.on L m nvm₀ flags₀ (drained-none L cache nvm₀ flags₀))

-- words drained by the mask's lane, from the first to the last
pub record IsDrained (mask : ℕ) (cache nvm flags nvm' flags' : List ℕ) : Type 0 where
  pub copied : (L : ℕ) → mask ≡ 2 ^ L → nvm' ≡ drained_nvm L flags cache nvm
  pub cleared : (L : ℕ) → mask ≡ 2 ^ L → flags' ≡ drained_flags L flags

pub on-whole : (mask : ℕ) (cache nvm flags : List ℕ) (i : ℕ) (nvm' flags' : List ℕ) → length flags ≤ i → DrainedOn mask cache 0 nvm flags i nvm' flags'
    → IsDrained mask cache nvm flags nvm' flags'
on-whole mask cache nvm flags i nvm' flags' h o =
    record {
      copied = λ L m. (on-all L mask cache nvm flags i nvm' flags' m h o).0;
      cleared = λ L m. (on-all L mask cache nvm flags i nvm' flags' m h o).1;
    }

-- ---- words drained as a part of more
-- the first n words drained stand before the rest
drained-front : (L n : ℕ) (flags cache nvm : List ℕ) → n ≤ length flags → n ≤ length cache → n ≤ length nvm
    → drained_nvm L (take n flags) (take n cache) (take n nvm) ++ drop n nvm ≡ drained_nvm L (take n flags) cache nvm
unfolding drained_nvm
drained-front L zero flags cache nvm f c n = refl
drained-front L (suc k) [] cache nvm f c n = absurd (not-suc-le-zero f)
drained-front L (suc k) (a ∷ fs) [] nvm f c n = absurd (not-suc-le-zero c)
drained-front L (suc k) (a ∷ fs) (b ∷ cs) [] f c n = absurd (not-suc-le-zero n)
drained-front L (suc k) (a ∷ fs) (b ∷ cs) (x ∷ xs) f c n =
    ap (λ (l : List ℕ). cond (flushed L a) b x ∷ l) (drained-front L k fs cs xs (le_of_suc-le-suc f) (le_of_suc-le-suc c) (le_of_suc-le-suc n))

cleared-front : (L n : ℕ) (flags : List ℕ) → drained_flags L (take n flags) ++ drop n flags ≡ cleared_below L n flags
unfolding cleared_below drained_flags
cleared-front L zero flags = refl
cleared-front L (suc k) [] = refl
cleared-front L (suc k) (f ∷ fs) = ap (λ (l : List ℕ). unflush L f ∷ l) (cleared-front L k fs)

-- the flag bytes from i on are not yet cleared
cleared-rest : (L i : ℕ) (flags : List ℕ) → drop i (cleared_below L i flags) ≡ drop i flags
unfolding cleared_below
cleared-rest L zero flags = refl
cleared-rest L (suc i) [] = refl
cleared-rest L (suc i) (f ∷ fs) = cleared-rest L i fs

-- the first i words drained, and then the next n
part-nvm : (L i n : ℕ) (flags cache nvm : List ℕ) → i + n ≤ length flags → i + n ≤ length cache → i + n ≤ length nvm
    → put_mid i n (drained_nvm L (take i flags) cache nvm)
    (drained_nvm L (mid_of i n flags) (mid_of i n cache) (mid_of i n (drained_nvm L (take i flags) cache nvm)))
    ≡ drained_nvm L (take (i + n) flags) cache nvm
unfolding drained_nvm
part-nvm L zero n flags cache nvm f c m = rw zero-add (drained-front L n flags cache nvm (omega arith) (omega arith) (omega arith))
part-nvm L (suc i) n [] cache nvm f c m = absurd (omega arith)
part-nvm L (suc i) n (a ∷ fs) [] nvm f c m = absurd (omega arith)
part-nvm L (suc i) n (a ∷ fs) (b ∷ cs) [] f c m = absurd (omega arith)
part-nvm L (suc i) n (a ∷ fs) (b ∷ cs) (x ∷ xs) f c m =
    rw suc-add (ap (λ (l : List ℕ). cond (flushed L a) b x ∷ l) (part-nvm L i n fs cs xs (omega arith) (omega arith) (omega arith)))

part-flags : (L i n : ℕ) (flags : List ℕ) → i + n ≤ length flags
    → put_mid i n (cleared_below L i flags) (drained_flags L (mid_of i n flags)) ≡ cleared_below L (i + n) flags
unfolding cleared_below drained_flags
part-flags L zero n flags f = rw zero-add (cleared-front L n flags)
part-flags L (suc i) n [] f = absurd (omega arith)
part-flags L (suc i) n (a ∷ fs) f = rw suc-add (ap (λ (l : List ℕ). unflush L a ∷ l) (part-flags L i n fs (omega arith)))

module _ (L : ℕ) (cache nvm₀ flags₀ : List ℕ) (i n : ℕ) (nvm flags : List ℕ) (d : Drained L cache nvm₀ flags₀ i nvm flags) where
  module _ (f : i + n ≤ length flags) (c : i + n ≤ length cache) (m : i + n ≤ length nvm) where
    same-part : mid_of i n flags ≡ mid_of i n flags₀
    same-part = rw d.cleared (ap (take n) (cleared-rest L i flags₀))

    drained-part : Drained L cache nvm₀ flags₀ (i + n)
        (put_mid i n nvm (drained_nvm L (mid_of i n flags) (mid_of i n cache) (mid_of i n nvm)))
        (put_mid i n flags (drained_flags L (mid_of i n flags)))
    drained-part =
        record {
          in-nvm = same_len_mid i n nvm _ (length-drained_nvm L (mid_of i n flags) (mid_of i n cache) (mid_of i n nvm)) ∙ d.in-nvm;
          in-flags = same_len_mid i n flags _ (length-drained_flags L (mid_of i n flags)) ∙ d.in-flags;
          copied = rw (same-part, d.copied) (part-nvm L i n flags₀ cache nvm₀ (rw d.in-flags at f) c (rw d.in-nvm at m));
          cleared = rw (same-part, d.cleared) (part-flags L i n flags₀ (rw d.in-flags at f));
        }

-- the or of the flag bytes of n words, as a fold over them
or-fold : (flags : List ℕ) (i n : ℕ) → i + n ≤ length flags → or_of flags i n ≡ fold bit_or 0 (mid_of i n flags)
unfolding or_of
or-fold flags i zero h = refl
or-fold flags i (suc n) h =
    let inside : n < length (drop i flags) = omega (arith, length-drop i flags) in
    rw (take-suc (drop i flags) n 0 inside, fold-append bit_or 0 (take n (drop i flags)), get_or-drop i flags n 0, or-fold flags i n (omega arith))

-- a drain of all words that has come to j goes on to k
module _ (mask : ℕ) (cache nvm flags : List ℕ) (en : length nvm ≡ length cache) (ef : length flags ≡ length cache) where
  module _ (j k n : ℕ) (to : j + n ≡ k) (h : k ≤ length cache) (nvm' flags' : List ℕ) (o : DrainedOn mask cache 0 nvm flags j nvm' flags') where
    -- by the words between, drained as a stretch of their own
    pub on-part : (a b c : ℕ) → a ≡ n → b ≡ n → c ≡ n → (xs ys : List ℕ) → length xs ≡ length (mid_of j a nvm') → length ys ≡ length (mid_of j b flags')
        → IsDrained mask (mid_of j c cache) (mid_of j a nvm') (mid_of j b flags') xs ys
        → DrainedOn mask cache 0 nvm flags k (put_mid j a nvm' xs) (put_mid j b flags' ys)
    on-part a b c ea eb ec xs ys lx ly p =
        record {
          same-nvm = same_len_mid j a nvm' xs lx ∙ o.same-nvm;
          same_flags = same_len_mid j b flags' ys ly ∙ o.same_flags;
          on = λ L q nvm₀ flags₀ d.
              rw (p.copied L q, p.cleared L q, ea, eb, ec, ← to)
              (drained-part L cache nvm₀ flags₀ j n nvm' flags' (o.on L q nvm₀ flags₀ d)
              (omega (arith, o.same_flags)) (omega arith) (omega (arith, o.same-nvm)));
        }

    -- by the words between, where the lane has flushed none of them
    pub on-skipped : (c : ℕ) → c ≡ n → (any : ℕ) → any ≡ fold bit_or 0 (mid_of j c flags') → (b : Bool) → ((L : ℕ) → mask ≡ 2 ^ L → b ≡ flushed L any) → b ≡ false
        → DrainedOn mask cache 0 nvm flags k nvm' flags'
    on-skipped c ec any e b is t =
        rw (← to)
        (on-pass mask cache 0 nvm flags j nvm' flags' o n (omega (arith, o.same_flags)) (omega arith) any
        (e ∙ ap (λ q. fold bit_or 0 (mid_of j q flags')) ec ∙ sym (or-fold flags' j n (omega (arith, o.same_flags)))) b is t)
