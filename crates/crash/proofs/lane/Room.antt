-- Refusal 9 in absolute numbers: a sequence that an append does not hit stays whole in the window. And a sequence of the history whose slots all
-- stand in the log is found. Assumes nothing.
use mathlib.Core.Path.{◌≡◌, refl, subst}
use mathlib.Core.Bool.{Bool, true, false, ◌&&◌}
use mathlib.Core.List.{List, [], ◌∷◌}
use Prim.Native.Nat.{ℕ, zero, suc, ◌+◌, ◌-◌, ◌%◌, ◌≤◌, ◌<◌}
use native.Mathlib.Omega.{arith}
use native.Mathlib.Nat.{le_refl}
use native.Mathlib.Decide.{ℕ_discrete}
use lib.Dec.{leb, ltb}
use lib.ListN.{length}
use borrow.Author.Tests.{ltb-false, le-leb, lt-ltb, eq-eqb}
use Rattle.laws.specs.inner.Tests.{clash, or_left, or_right}
use Rattle.laws.specs.inner.Lists.{All, none, more}
use Rattle.lane_log.specs.Log.{Complete, slot_at, back, entries_back, closes, complete_below, ahead, overlaps, hits_from}
use Rattle.laws.specs.inner.Members.{In, here, In-left, In-right}
use Rattle.crash.proofs.lane.Absolute.{wrap_of, back-abs, back_wrap-abs, ahead-abs}
use Rattle.crash.proofs.lane.Ghost.{Past, sta, content_of, entries_before}

-- a sequence that ends at number b, its k entries in the window: if it is not hit by m slots from n on, each of its slots stays in the window of n + m
module _ (N n b m : ℕ) (pos : 0 < N) (hb : N ≤ b) (top : b < n) where
  pub not-hit : (k : ℕ) → k ≤ N → n ≤ b - k + N → overlaps N (n % N) m (b % N) k ≡ false → (i : ℕ) → i ≤ k → n + m ≤ b - i + N
  unfolding overlaps
  not-hit zero hk lo e i h =
      let z : i ≡ 0 = omega arith in
      let d = ltb-false (ahead N (n % N) (b % N)) m e in
      omega (arith, ahead-abs N pos n b (omega arith) top)
  not-hit (suc k) hk lo e i h =
      elim (ℕ_discrete i (suc k)) [
        | yes p ↦ rw p last
        | no d ↦ not-hit k (omega arith) (omega arith) (or_right (ltb (ahead N (n % N) (back N (b % N) (suc k))) m) _ e) i (omega arith)
      ]
    where
      last : n + m ≤ b - suc k + N
      last =
          let t : ltb (ahead N (n % N) ((b - suc k) % N)) m ≡ false
          = rw (back-abs N pos b (suc k) hk hb) at (or_left (ltb (ahead N (n % N) (back N (b % N) (suc k))) m) (overlaps N (n % N) m (b % N) k) e) in
          let d = ltb-false (ahead N (n % N) ((b - suc k) % N)) m t in
          omega (arith, ahead-abs N pos n (b - suc k) lo (omega arith))

-- no sequence at or above f is hit
pub none-hit : (N next m f : ℕ) (qs : List Complete) → hits_from N next m f qs ≡ false
    → All (λ q. f ≤ q.stamp → overlaps N next m q.slot (length q.entries) ≡ false) qs
unfolding hits_from
none-hit N next m f [] e = none
none-hit N next m f (q ∷ qs) e =
    more (λ l. go (leb f q.stamp) _ (le-leb f q.stamp l) (or_left _ _ e))
    (none-hit N next m f qs (or_right (leb f q.stamp && overlaps N next m q.slot (length q.entries)) _ e))
  where
    go : (a b : Bool) → a ≡ true → (a && b) ≡ false → b ≡ false
    go true b h k = k
    go false b h k = clash false h refl

-- ---- a sequence whose slots all stand in the log is found
module _ (W N : ℕ) (pos : 0 < N) (con : ℕ → Past) (log : List ℕ) (b : ℕ) (hb : N ≤ b) where
  pub entries-all : (k : ℕ) → k ≤ N → ((c : ℕ) → b ≤ c + k → c < b → slot_at W log (c % N) ≡ content_of (wrap_of N c) (con c))
      → entries_back W N log (b % N) (wrap_of N b) k ≡ entries_before N con b k
  unfolding entries_back entries_before
  entries-all zero h r = refl
  entries-all (suc k) h r =
      rw (
        back-abs N pos b (suc k) h hb,
        back_wrap-abs N pos b (suc k) h hb,
        r (b - suc k) (omega arith) (omega arith),
        entries-all k (omega arith) (λ c l m. r c (omega arith) m),
      )

  module _ (base L k s : ℕ) (small : k ≤ N) (reads : (c : ℕ) → b ≤ c + k → c ≤ b → slot_at W log (c % N) ≡ content_of (wrap_of N c) (con c))
      (ends : con b ≡ sta k s) (whole : length (entries_before N con b k) ≡ k) (new : base < s) where
    abbrev mine : Complete
    mine = record { stamp = s; lane = L; slot = b % N; wrap = wrap_of N b; entries = entries_before N con b k }

    closes-mine : In mine (closes W N base log L (b % N) (slot_at W log (b % N)))
    unfolding closes content_of
    closes-mine =
        rw (
          reads b (omega arith) (le_refl b),
          ends,
          entries-all k small (λ c l m. reads c l (omega arith)),
          lt-ltb base s new,
          eq-eqb (length (entries_before N con b k)) k whole,
        ) here

    pub is_found : (m : ℕ) → b % N < m → In mine (complete_below W N base log L m)
    unfolding complete_below
    is_found zero h = absurd (omega arith)
    is_found (suc m) h =
        elim (ℕ_discrete (b % N) m) [
          | yes e ↦ In-right (complete_below W N base log L m) (subst (λ j. In mine (closes W N base log L j (slot_at W log j))) e closes-mine)
          | no d ↦ In-left _ (is_found m (omega arith))
        ]
