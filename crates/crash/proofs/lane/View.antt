-- What a lane's log shows at a cut, where each word is the cached one or that of the lane's last drain: the present history, its last slots mixed
-- with the lap before, or exactly the history before the last commit. Assumes nothing.
use mathlib.Core.Path.{◌≡◌, refl, ap, ◌∙◌, sym}
use mathlib.Core.Logic.{◌≢◌, ◌⊎◌, inl, inr}
use mathlib.Core.List.{List, ◌++◌}
use Prim.Native.Nat.{ℕ, ◌+◌, ◌-◌, ◌*◌, ◌%◌, ◌≤◌, ◌<◌}
use native.Mathlib.Omega.{arith}
use native.Mathlib.Nat.{mod-lt, add-mod_right}
use native.Mathlib.Decide.{ℕ_discrete}
use lib.Dec.{ltb}
use lib.ListN.{length, get_or, set, length-set, length-append, get_or-append}
use lib.Seq.{get_or-set_same, get_or-set_other}
use borrow.Author.Tests.{ltb-true, ltb-false}
use Rattle.laws.specs.inner.Tests.{split}
use Rattle.slot.specs.Slot.{max_entries, stamp_of}
use Rattle.image.specs.Image.{min_slots}
use Rattle.crash.proofs.lane.Absolute.{wrap_of}
use Rattle.crash.proofs.lane.Ghost.{Past, blank, sta, address_of, value_of, address_at, value_at, Held, exact, mixed}
use Rattle.crash.proofs.lane.Window.{Window, Exact, at}
use Rattle.laws.specs.inner.Members.{here}
use Rattle.crash.proofs.lane.Seqs.{Seq, Hist, Since, level, grown, sealed, past_of, length-past, hist-big, stands, newest-end}

-- a log shows a history, and the numbers below u word for word
pub record Visible (N : ℕ) (h : List Past) (u : ℕ) (log : List ℕ) : Type 0 where
  pub held : (a : ℕ) → length h ≤ a + N → a < length h → Held N (at h) (length h) log a
  pub settled : (a : ℕ) → length h ≤ a + N → a < length h → a < u → Exact N h log a

-- the present history or the former, word for word as far as the former went
pub data View (N : ℕ) (prior hist : List Past) (log : List ℕ) : Type 0 where
  present : Visible N hist (length prior) log → View N prior hist log
  former : Visible N prior (length prior) log → View N prior hist log

exact-held : (N : ℕ) (h : List Past) (n : ℕ) (log : List ℕ) (a : ℕ) → Exact N h log a → Held N (at h) n log a
unfolding address_at value_at
exact-held N h n log a x = exact x.address x.value

-- a log that is exact shows its history
pub visible-exact : (N : ℕ) (h : List Past) (u : ℕ) (log : List ℕ) → ((a : ℕ) → length h ≤ a + N → a < length h → Exact N h log a) → Visible N h u log
visible-exact N h u log f = record { held = λ a lo hi. exact-held N h (length h) log a (f a lo hi); settled = λ a lo hi l. f a lo hi }

one_of : {x p q t : ℕ} → (x ≡ p) ⊎ (x ≡ q) → p ≡ t → q ≡ t → x ≡ t
one_of (inl e) a b = e ∙ a
one_of (inr e) a b = e ∙ b

each_of : {x p q s t : ℕ} → (x ≡ p) ⊎ (x ≡ q) → p ≡ s → q ≡ t → (x ≡ s) ⊎ (x ≡ t)
each_of (inl e) a b = inl (e ∙ a)
each_of (inr e) a b = inr (e ∙ b)

module _ (N : ℕ) (large : min_slots ≤ N) (cached was cells : List ℕ)
    (mix : (j : ℕ) → j < 2 * N → (get_or cells j 0 ≡ get_or cached j 0) ⊎ (get_or cells j 0 ≡ get_or was j 0)) where
  pos : 0 < N
  pos = omega arith

  first : (a : ℕ) → 2 * (a % N) < 2 * N
  first a = omega (arith, mod-lt a pos)

  second : (a : ℕ) → 2 * (a % N) + 1 < 2 * N
  second a = omega (arith, mod-lt a pos)

  -- both sources have the same at number a
  both : (h p : List Past) (a : ℕ) → Exact N h cached a → Exact N p was a → at p a ≡ at h a → Exact N h cells a
  both h p a x y e =
      record {
        address = one_of (mix (2 * (a % N)) (first a)) x.address (y.address ∙ ap (address_of (wrap_of N a)) e);
        value = one_of (mix (2 * (a % N) + 1) (second a)) x.value (y.value ∙ ap (value_of (wrap_of N a)) e);
      }

  level-view : (h : List Past) → Window N h cached → Window N h was → View N h h cells
  unfolding Window
  level-view h w v = present (visible-exact N h (length h) cells (λ a lo hi. both h h a (w a lo hi) (v a lo hi) refl))

  module _ (h cs : List Past) (small : length cs ≤ 17) (big : N ≤ length h) (w : Window N (h ++ cs) cached) (v : Window N h was) where
    grown-old : (a : ℕ) → length (h ++ cs) ≤ a + N → a < length (h ++ cs) → a < length h → Exact N (h ++ cs) cells a
    unfolding Window
    grown-old a lo hi l = both (h ++ cs) h a (w a lo hi) (v a (omega (arith, length-append h cs)) l) (sym (get_or-append h cs blank a l))

    grown-new : (a b : ℕ) → length (h ++ cs) ≤ a + N → a < length (h ++ cs) → a ≡ b + N → length h ≤ a → b < length h → length (h ++ cs) + max_entries ≤ a + N
        → Held N (at (h ++ cs)) (length (h ++ cs)) cells a
    unfolding Window address_at value_at
    grown-new a b lo hi e past l room =
        let x = w a lo hi in
        let y = v b (omega (arith, length-append h cs)) l in
        let s : b % N ≡ a % N = sym (add-mod_right b N) ∙ ap (◌% N) (sym e) in
        mixed b e room
        (record {
          first = each_of (mix (2 * (b % N)) (first b)) (ap (λ i. get_or cached (2 * i) 0) s ∙ x.address ∙ ap (λ i. address_of (wrap_of N i) (at (h ++ cs) i)) e)
              (y.address ∙ ap (address_of (wrap_of N b)) (sym (get_or-append h cs blank b l)));
          second =
              each_of (mix (2 * (b % N) + 1) (second b)) (ap (λ i. get_or cached (2 * i + 1) 0) s ∙ x.value ∙ ap (λ i. value_of (wrap_of N i) (at (h ++ cs) i)) e)
              (y.value ∙ ap (value_of (wrap_of N b)) (sym (get_or-append h cs blank b l)));
        })

    grown-view : View N h (h ++ cs) cells
    grown-view =
        present
        (record {
          held = λ a lo hi.
              split (ltb a (length h))
              (λ t. exact-held N (h ++ cs) (length (h ++ cs)) cells a (grown-old a lo hi (ltb-true a (length h) t)))
              (λ t. let l = ltb-false a (length h) t in
              grown-new a (a - N) lo hi (omega arith) l (omega (arith, length-append h cs)) (omega (arith, length-append h cs)));
          settled = grown-old;
        })

  module _ (h : List Past) (e m s c : ℕ) (is : at h e ≡ sta m s) (old : e < length h) (recent : length h ≤ e + N)
      (w : Window N (set h e (sta m c)) cached) (v : Window N h was) where
    abbrev after : List Past
    after = set h e (sta m c)

    size : length after ≡ length h
    size = length-set h e (sta m c)

    there : at after e ≡ sta m c
    there = get_or-set_same h e (sta m c) blank old

    others : (a : ℕ) → a ≢ e → at after a ≡ at h a
    others a q = get_or-set_other h e a (sta m c) blank q

    x : Exact N after cached e
    unfolding Window
    x = w e (omega (arith, size)) (omega (arith, size))

    y : Exact N h was e
    unfolding Window
    y = v e recent old

    -- the address word says the count alone, and that stays
    address : get_or cells (2 * (e % N)) 0 ≡ address_of (wrap_of N e) (sta m s)
    unfolding address_of stamp_of
    address =
        one_of (mix (2 * (e % N)) (first e)) (x.address ∙ ap (address_of (wrap_of N e)) there) (y.address ∙ ap (address_of (wrap_of N e)) is)

    sealed-now : get_or cells (2 * (e % N) + 1) 0 ≡ get_or cached (2 * (e % N) + 1) 0
        → (a : ℕ) → length after ≤ a + N → a < length after → Exact N after cells a
    unfolding Window address_of stamp_of
    sealed-now q a lo hi = elim (ℕ_discrete a e) [
      | yes r ↦ rw r (record { address = address ∙ ap (address_of (wrap_of N e)) (sym there); value = q ∙ x.value })
      | no r ↦ both after h a (w a lo hi) (v a (omega (arith, size)) (omega (arith, size))) (sym (others a r))
    ]

    sealed-before : get_or cells (2 * (e % N) + 1) 0 ≡ get_or was (2 * (e % N) + 1) 0
        → (a : ℕ) → length h ≤ a + N → a < length h → Exact N h cells a
    unfolding Window
    sealed-before q a lo hi = elim (ℕ_discrete a e) [
      | yes r ↦ rw r (record { address = address ∙ ap (address_of (wrap_of N e)) (sym is); value = q ∙ y.value })
      | no r ↦ swap (w a (omega (arith, size)) (omega (arith, size))) (v a lo hi) (others a r)
    ]
      where
        swap : Exact N after cached a → Exact N h was a → at after a ≡ at h a → Exact N h cells a
        swap x y r =
            record {
              address = one_of (mix (2 * (a % N)) (first a)) (x.address ∙ ap (address_of (wrap_of N a)) r) y.address;
              value = one_of (mix (2 * (a % N) + 1) (second a)) (x.value ∙ ap (value_of (wrap_of N a)) r) y.value;
            }

    sealed-view : View N h after cells
    sealed-view = go (mix (2 * (e % N) + 1) (second e))
      where
        go : (get_or cells (2 * (e % N) + 1) 0 ≡ get_or cached (2 * (e % N) + 1) 0)
            ⊎ (get_or cells (2 * (e % N) + 1) 0 ≡ get_or was (2 * (e % N) + 1) 0) → View N h after cells
        go (inl q) = present (visible-exact N after (length h) cells (sealed-now q))
        go (inr q) = former (visible-exact N h (length h) cells (sealed-before q))

  pub view : (W : ℕ) {prior hist : List Past} {priors gs : List Seq} → Since prior hist priors gs → Hist W N prior priors → Hist W N hist gs
      → Window N hist cached → Window N prior was → View N prior hist cells
  view W (level {h = h}) p H w v = level-view h w v
  view W (grown {h = h} es s) p H w v =
      grown-view h (past_of es s) (omega (arith, length-past es s, (stands W N H here).ok.few)) (hist-big W N p) w v
  view W (sealed {h = h} g c up some) p H w v =
      let r = stands W N p here in
      sealed-view h g.end (length g.entries) g.stamp c r.closes r.below (omega (arith, newest-end W N p)) w v
