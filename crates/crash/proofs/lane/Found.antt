-- What recovery finds in a lane's log is of the lane's ghost history: each complete sequence closes at a number of the history, with the entries
-- that the history has before it. Assumes nothing.
use mathlib.Core.Path.{◌≡◌, refl, ap, ◌∙◌, sym, subst}
use mathlib.Core.Bool.{◌&&◌}
use mathlib.Core.List.{List}
use Prim.Native.Nat.{ℕ, zero, suc, ◌+◌, ◌*◌, ◌/◌, ◌%◌, ◌≤◌, ◌<◌}
use native.Mathlib.Omega.{arith}
use native.Mathlib.Nat.{div-add-mod', mod-lt, add-mod_right}
use lib.Arith.{digits_mod}
use lib.Dec.{eqb, ltb}
use lib.ListN.{length}
use borrow.Author.Tests.{eqb-true, ltb-true, ltb-false}
use Rattle.laws.specs.inner.Tests.{split, and_right}
use Rattle.laws.specs.inner.Lists.{All, none, more, All-append}
use Rattle.slot.specs.Slot.{max_entries}
use Rattle.slot.specs.declared.Content.{Content}
use Rattle.slot.specs.declared.Content.TheVariants.{Empty, Torn, Entry, Stamp}
use Rattle.image.specs.Image.{max_words, min_slots}
use Rattle.lane_log.specs.Log.{Complete, slot_at, entries_back, closes, complete_below}
use Rattle.crash.proofs.lane.Absolute.{wrap_of}
use Rattle.crash.proofs.lane.Ghost.{Past, blank, ent, sta, content_of, Fits, Held, exact, mixed}
use Rattle.crash.proofs.lane.Ghost.{Reads, now, before, neither, reads, exact-reads, entries_before, genuine}

-- the number, of the last N before n, that stands in slot j
pub record Standing (N n j : ℕ) : Type 0 where
  pub number : ℕ
  pub new : n ≤ number + N
  pub old : number < n
  pub slot : number % N ≡ j

pub standing : (N n : ℕ) → 0 < N → N ≤ n → (j : ℕ) → j < N → Standing N n j
standing N n pos big j h = go (n / N) refl
  where
    go : (q : ℕ) → n / N ≡ q → Standing N n j
    go zero e = absurd (omega (arith, rw e at (div-add-mod' n N), mod-lt n pos))
    go (suc q) e =
        let d : suc q * N + n % N ≡ n = rw e at (div-add-mod' n N) in
        split (ltb j (n % N))
        (λ t. let l = ltb-true j (n % N) t in
        record { number = suc q * N + j; new = omega (arith, mod-lt n pos); old = omega arith; slot = digits_mod (suc q) h })
        (λ t. let l = ltb-false j (n % N) t in record { number = q * N + j; new = omega arith; old = omega (arith, mod-lt n pos); slot = digits_mod q h })

-- a sequence of the history
pub record Genuine (N : ℕ) (con : ℕ → Past) (n : ℕ) (q : Complete) : Type 0 where
  pub end : ℕ
  pub count : ℕ
  pub below : end < n
  pub slot : end % N ≡ q.slot
  pub wrap : wrap_of N end ≡ q.wrap
  pub stamp : con end ≡ sta count q.stamp
  pub entries : q.entries ≡ entries_before N con end count

-- whose is a timestamp that is read
stamp-past : (k s p p' : ℕ) (c : Past) → content_of p' c ≡ Stamp k s p → (c ≡ sta k s) × (p' ≡ p)
unfolding content_of
stamp-past k s p p' blank e = (cc, cc)
stamp-past k s p p' (ent i v) e = (cc, cc)
stamp-past k s p p' (sta k' s') e = (cc, cc)

module _ (W N : ℕ) (hw : W ≤ max_words) (large : min_slots ≤ N) (con : ℕ → Past) (n : ℕ) (big : N ≤ n)
    (fits : (a : ℕ) → a < n → Fits W (wrap_of N a) (con a)) (early : (a : ℕ) → a < N → con a ≡ blank) (log : List ℕ)
    (holds : (a : ℕ) → n ≤ a + N → a < n → Held N con n log a) (base L : ℕ) where
  pos : 0 < N
  pos = omega arith

  -- which number a timestamp that is read at slot j has
  record Closing (j k s p : ℕ) : Type 0 where
    number : ℕ
    below : number < n
    room : n + max_entries ≤ number + N + N
    slot : number % N ≡ j
    content : con number ≡ sta k s
    wrap : wrap_of N number ≡ p

  closing-at : (a k s p : ℕ) → n ≤ a + N → a < n → Held N con n log a → slot_at W log (a % N) ≡ Stamp k s p → Closing (a % N) k s p
  closing-at a k s p lo hi (exact x y) e =
      let c = stamp-past k s p (wrap_of N a) (con a) (sym (exact-reads W N hw pos con n fits log a hi x y) ∙ e) in
      record { number = a; below = hi; room = omega arith; slot = refl; content = c.0; wrap = c.1 }
  closing-at a k s p lo hi (mixed b f r m) e = go (reads W N hw pos con n fits log b (omega arith) m)
    where
      slots : b % N ≡ a % N
      slots = sym (add-mod_right b N) ∙ ap (◌% N) (sym f)

      go : Reads W N con log b → Closing (a % N) k s p
      go (now g) =
          let c = stamp-past k s p (wrap_of N (b + N)) (con (b + N)) (sym (rw slots at g) ∙ e) in
          record { number = b + N; below = omega arith; room = omega arith; slot = ap (◌% N) (sym f); content = c.0; wrap = c.1 }
      go (before g) =
          let c = stamp-past k s p (wrap_of N b) (con b) (sym (rw slots at g) ∙ e) in
          record { number = b; below = omega arith; room = omega arith; slot = slots; content = c.0; wrap = c.1 }
      go (neither g) = absurd (let t : Torn ≡ Stamp k s p = sym (rw slots at g) ∙ e in let z : ◌≡◌ {A = ℕ} 0 1 = cc in omega arith)

  closing : (j k s p : ℕ) → j < N → slot_at W log j ≡ Stamp k s p → Closing j k s p
  closing j k s p h e =
      let d = standing N n pos big j h in
      subst (λ i. Closing i k s p) d.slot (closing-at d.number k s p d.new d.old (holds d.number d.new d.old) (rw d.slot e))

  past : (b : ℕ) {k s : ℕ} → con b ≡ sta k s → N ≤ b
  past b {k} {s} g =
      split (ltb b N) (λ t. absurd (let h = early b (ltb-true b N t) in let z : ◌≡◌ {A = ℕ} 0 1 = cc in omega arith)) (λ t. ltb-false b N t)

  found-slot : (j : ℕ) → j < N → (s : Content) → slot_at W log j ≡ s → All (Genuine N con n) (closes W N base log L j s)
  unfolding closes
  found-slot j h Empty e = none
  found-slot j h Torn e = none
  found-slot j h (Entry i v p) e = none
  found-slot j h (Stamp k s p) e =
      split (ltb base s && eqb (length (entries_back W N log j p k)) k)
      (λ t. rw t (more (one (closing j k s p h e) (eqb-true (length (entries_back W N log j p k)) k (and_right (ltb base s) _ t))) none))
      (λ t. rw t none)
    where
      from : (b : ℕ) → b % N ≡ j → wrap_of N b ≡ p → b < n → n + max_entries ≤ b + N + N → con b ≡ sta k s → length (entries_back W N log j p k) ≡ k
          → entries_back W N log j p k ≡ entries_before N con b k
      from b u v lt room g l =
          let small : (k ≤ max_entries) × (s % 2 ≡ 0) = rw g at (fits b lt) in
          let l' : length (entries_back W N log (b % N) (wrap_of N b) k) ≡ k = rw (u, v) l in
          rw (← u, ← v) (genuine W N hw pos con n fits log holds b (past b g) lt k (omega arith) (omega arith) l')

      one : Closing j k s p → length (entries_back W N log j p k) ≡ k
          → Genuine N con n (record { stamp = s; lane = L; slot = j; wrap = p; entries = entries_back W N log j p k })
      one c l =
          record {
            end = c.number;
            count = k;
            below = c.below;
            slot = c.slot;
            wrap = c.wrap;
            stamp = c.content;
            entries = from c.number c.slot c.wrap c.below c.room c.content l;
          }

  pub found : (k : ℕ) → k ≤ N → All (Genuine N con n) (complete_below W N base log L k)
  unfolding complete_below
  found zero h = none
  found (suc k) h = All-append (found k (omega arith)) (found-slot k h (slot_at W log k) refl)
