-- A lane's log against its ghost history, the list of all that was ever written to its slots, by absolute number: a complete sequence in a log
-- whose slots may each mix the words of two laps is a sequence of the history, because a slot of mixed words is torn. Assumes nothing.
use mathlib.Core.Path.{◌≡◌, refl, ap, ◌∙◌, sym, subst}
use mathlib.Core.Logic.{◌≢◌, ◌⊎◌, inl, inr}
use mathlib.Core.List.{List, [], ◌++◌}
use Prim.Native.Nat.{ℕ, zero, suc, ◌+◌, ◌-◌, ◌*◌, ◌%◌, ◌≤◌, ◌<◌}
use native.Mathlib.Omega.{arith}
use native.Mathlib.Nat.{add-mod_right}
use lib.Dec.{eqb, ltb}
use lib.ListN.{get_or, length, length-append}
use borrow.Author.Tests.{ne_eqb, eqb-true, eqb-false, ltb-true, ltb-false}
use Rattle.laws.specs.inner.Tests.{split}
use Rattle.slot.specs.Slot.{max_entries, entry_of, stamp_of, read_of}
use Rattle.slot.proofs.SlotLaws.{empty-read, torn-read, entry-bits, stamp-bits}
use Rattle.slot.proofs.SlotReads.{entry_read, stamp-read}
use Rattle.slot.specs.declared.Content.{Content}
use Rattle.slot.specs.declared.Content.TheVariants.{Empty, Torn, Entry, Stamp}
use Rattle.image.specs.Image.{max_words}
use Rattle.lane_log.specs.Log.{Old, slot_at, back, back_wrap, entry_in, entries_back}
use Rattle.crash.proofs.lane.Absolute.{wrap_of, wrap-bound, wrap-flips, back-abs, back_wrap-abs, same-wrap}

-- what was written to a slot, without its wrap bit: nothing yet, an entry, a timestamp
pub data Past : Type 0 where
  blank : Past
  ent : (word old : ℕ) → Past
  sta : (count stamp : ℕ) → Past

-- its two words with wrap bit p
unfoldable pub address_of : ℕ → Past → ℕ
address_of p blank = 0
address_of p (ent i v) = (entry_of i v p).address
address_of p (sta n s) = (stamp_of n s p).address

unfoldable pub value_of : ℕ → Past → ℕ
value_of p blank = 0
value_of p (ent i v) = (entry_of i v p).value
value_of p (sta n s) = (stamp_of n s p).value

-- and what they say
unfoldable pub content_of : ℕ → Past → Content
content_of p blank = Empty
content_of p (ent i v) = Entry i v p
content_of p (sta n s) = Stamp n s p

-- what may stand in a log at wrap bit p: the unwritten lap has wrap bit 0
abbrev pub Fits : (W p : ℕ) → Past → Type 0
Fits W p blank = p ≡ 0
Fits W p (ent i v) = i < W
Fits W p (sta n s) = (n ≤ max_entries) × (s % 2 ≡ 0)

module _ (W : ℕ) (hw : W ≤ max_words) (p : ℕ) (hp : p ≤ 1) where
  pub read_past : (c : Past) → Fits W p c → read_of W (address_of p c) (value_of p c) ≡ content_of p c
  unfolding address_of value_of content_of
  read_past blank f = empty-read W 0 0 refl refl
  read_past (ent i v) f = entry_read W i v p f hp
  read_past (sta n s) f = stamp-read W n s p (omega arith) f.0 f.1 hp

  pub low-address : (c : Past) → Fits W p c → address_of p c % 2 ≡ p
  unfolding address_of
  low-address blank f = sym f
  low-address (ent i v) f = (entry-bits i v p hp).0
  low-address (sta n s) f = (stamp-bits n s p f.1 hp).0

  pub low_value : (c : Past) → Fits W p c → value_of p c % 2 ≡ p
  unfolding value_of
  low_value blank f = sym f
  low_value (ent i v) f = (entry-bits i v p hp).1
  low_value (sta n s) f = (stamp-bits n s p f.1 hp).1

-- ---- a history as a function of the absolute number
unfoldable pub address_at : ℕ → (ℕ → Past) → ℕ → ℕ
address_at N con a = address_of (wrap_of N a) (con a)

unfoldable pub value_at : ℕ → (ℕ → Past) → ℕ → ℕ
value_at N con a = value_of (wrap_of N a) (con a)

-- the words of the slot of a + N are each of a + N or of a
pub record Mixed (N : ℕ) (con : ℕ → Past) (log : List ℕ) (a : ℕ) : Type 0 where
  pub first : (get_or log (2 * (a % N)) 0 ≡ address_at N con (a + N)) ⊎ (get_or log (2 * (a % N)) 0 ≡ address_at N con a)
  pub second : (get_or log (2 * (a % N) + 1) 0 ≡ value_at N con (a + N)) ⊎ (get_or log (2 * (a % N) + 1) 0 ≡ value_at N con a)

-- what such a slot says
pub data Reads (W N : ℕ) (con : ℕ → Past) (log : List ℕ) (a : ℕ) : Type 0 where
  now : slot_at W log (a % N) ≡ content_of (wrap_of N (a + N)) (con (a + N)) → Reads W N con log a
  before : slot_at W log (a % N) ≡ content_of (wrap_of N a) (con a) → Reads W N con log a
  neither : slot_at W log (a % N) ≡ Torn → Reads W N con log a

-- the entries that the history has in the k numbers before b, oldest first
unfoldable pub entries_before : ℕ → (ℕ → Past) → (b k : ℕ) → List Old
entries_before N con b zero = []
entries_before N con b (suc k) = entry_in (wrap_of N (b - suc k)) (content_of (wrap_of N (b - suc k)) (con (b - suc k))) ++ entries_before N con b k

-- a log holds number a of a history whose next number is n: its own words; or, in the last slots, words mixed with those of the lap before
pub data Held (N : ℕ) (con : ℕ → Past) (n : ℕ) (log : List ℕ) (a : ℕ) : Type 0 where
  exact : get_or log (2 * (a % N)) 0 ≡ address_at N con a → get_or log (2 * (a % N) + 1) 0 ≡ value_at N con a → Held N con n log a
  mixed : (b : ℕ) → a ≡ b + N → n + max_entries ≤ a + N → Mixed N con log b → Held N con n log a

-- an entry is found only with its own wrap bit
entry_other : (p q : ℕ) (c : Past) → p ≢ q → entry_in q (content_of p c) ≡ []
unfolding entry_in content_of
entry_other p q blank d = refl
entry_other p q (ent i v) d = rw (ne_eqb p q d)
entry_other p q (sta n s) d = refl

entry-one : (q : ℕ) (c : Content) → length (entry_in q c) ≤ 1
unfolding entry_in
entry-one q Empty = omega arith
entry-one q Torn = omega arith
entry-one q (Entry i v p) = split (eqb p q) (λ e. rw e (omega arith)) (λ e. rw e (omega arith))
entry-one q (Stamp n s p) = omega arith

module _ (W N : ℕ) (hw : W ≤ max_words) (pos : 0 < N) (con : ℕ → Past) (n : ℕ) (fits : (a : ℕ) → a < n → Fits W (wrap_of N a) (con a)) (log : List ℕ) where
  pub reads : (a : ℕ) → a + N < n → Mixed N con log a → Reads W N con log a
  unfolding slot_at address_at value_at
  reads a less m =
      split (eqb (x % 2) (y % 2))
      (λ e. go (same-wrap N pos (address_at N con) (value_at N con) a (la (a + N) less) (la a lt)
      (lv (a + N) less) (lv a lt) x y m.first m.second (eqb-true (x % 2) (y % 2) e)))
      (λ e. neither (torn-read W x y (eqb-false (x % 2) (y % 2) e)))
    where
      x : ℕ
      x = get_or log (2 * (a % N)) 0

      y : ℕ
      y = get_or log (2 * (a % N) + 1) 0

      lt : a < n
      lt = omega arith

      la : (a : ℕ) → a < n → address_at N con a % 2 ≡ wrap_of N a
      la a h = low-address W hw (wrap_of N a) (wrap-bound N a) (con a) (fits a h)

      lv : (a : ℕ) → a < n → value_at N con a % 2 ≡ wrap_of N a
      lv a h = low_value W hw (wrap_of N a) (wrap-bound N a) (con a) (fits a h)

      go : ((x ≡ address_at N con (a + N)) × (y ≡ value_at N con (a + N))) ⊎ ((x ≡ address_at N con a) × (y ≡ value_at N con a)) → Reads W N con log a
      go (inl (p, q)) = now (rw (p, q) (read_past W hw (wrap_of N (a + N)) (wrap-bound N (a + N)) (con (a + N)) (fits (a + N) less)))
      go (inr (p, q)) = before (rw (p, q) (read_past W hw (wrap_of N a) (wrap-bound N a) (con a) (fits a lt)))

  -- a slot with its own words says what was written
  pub exact-reads : (a : ℕ) → a < n → get_or log (2 * (a % N)) 0 ≡ address_at N con a → get_or log (2 * (a % N) + 1) 0 ≡ value_at N con a
      → slot_at W log (a % N) ≡ content_of (wrap_of N a) (con a)
  unfolding slot_at address_at value_at
  exact-reads a h p q = rw (p, q) (read_past W hw (wrap_of N a) (wrap-bound N a) (con a) (fits a h))

  module _ (holds : (a : ℕ) → n ≤ a + N → a < n → Held N con n log a) where
    -- the check for an entry of number c finds nothing, or what the history has at c
    abbrev Found : ℕ → Type 0
    Found c =
        (entry_in (wrap_of N c) (slot_at W log (c % N)) ≡ [])
        ⊎ (entry_in (wrap_of N c) (slot_at W log (c % N)) ≡ entry_in (wrap_of N c) (content_of (wrap_of N c) (con c)))

    lap-of-reads : (c : ℕ) → Reads W N con log c → Found c
    unfolding entry_in
    lap-of-reads c (now e) = inl (rw e (entry_other (wrap_of N (c + N)) (wrap_of N c) (con (c + N)) (wrap-flips N pos c)))
    lap-of-reads c (before e) = inr (rw e)
    lap-of-reads c (neither e) = inl (rw e)

    lap-on-reads : (b : ℕ) → Reads W N con log b → Found (b + N)
    unfolding entry_in
    lap-on-reads b (now e) = inr (rw (add-mod_right b N, e))
    lap-on-reads b (before e) = inl (rw (add-mod_right b N, e) (entry_other (wrap_of N b) (wrap_of N (b + N)) (con b) (λ h. wrap-flips N pos b (sym h))))
    lap-on-reads b (neither e) = inl (rw (add-mod_right b N, e))

    older : (c a : ℕ) → a ≡ c + N → a < n → Held N con n log a → Found c
    older c a e less (exact p q) =
        inl (rw (sym (add-mod_right c N) ∙ ap (◌% N) (sym e), exact-reads a less p q, e)
        (entry_other (wrap_of N (c + N)) (wrap_of N c) (con (c + N)) (wrap-flips N pos c)))
    older c a e less (mixed b f r m) = lap-of-reads c (reads c (omega arith) (subst (Mixed N con log) (let h : b ≡ c = omega arith in h) m))

    newer : (c : ℕ) → c < n → Held N con n log c → Found c
    newer c less (exact p q) = inr (rw (exact-reads c less p q))
    newer c less (mixed b f r m) = subst Found (sym f) (lap-on-reads b (reads b (omega arith) m))

    found_at : (c : ℕ) → n ≤ c + N + N → c < n → Found c
    found_at c lo hi =
        split (ltb (c + N) n)
        (λ e. let l = ltb-true (c + N) n e in older c (c + N) refl l (holds (c + N) lo l))
        (λ e. newer c hi (holds c (ltb-false (c + N) n e) hi))

    module _ (b : ℕ) (hb : N ≤ b) (top : b < n) where
      short : (k : ℕ) → length (entries_back W N log (b % N) (wrap_of N b) k) ≤ k
      unfolding entries_back
      short zero = omega arith
      short (suc k) =
          rw (length-append (entry_in (back_wrap (wrap_of N b) (b % N) (suc k)) (slot_at W log (back N (b % N) (suc k))))
          (entries_back W N log (b % N) (wrap_of N b) k))
          (omega (arith, entry-one (back_wrap (wrap_of N b) (b % N) (suc k)) (slot_at W log (back N (b % N) (suc k))), short k))

      -- complete, so of the history
      pub genuine : (k : ℕ) → k ≤ N → n + k ≤ b + N + N → length (entries_back W N log (b % N) (wrap_of N b) k) ≡ k
          → entries_back W N log (b % N) (wrap_of N b) k ≡ entries_before N con b k
      unfolding entries_back entries_before
      genuine zero hk hn e = refl
      genuine (suc k) hk hn e = go (found_at (b - suc k) (omega arith) (omega arith)) sum (genuine k (omega arith) (omega arith))
        where
          c : ℕ
          c = b - suc k

          rest : List Old
          rest = entries_back W N log (b % N) (wrap_of N b) k

          here : entry_in (back_wrap (wrap_of N b) (b % N) (suc k)) (slot_at W log (back N (b % N) (suc k))) ≡ entry_in (wrap_of N c) (slot_at W log (c % N))
          here = rw (back-abs N pos b (suc k) hk hb, back_wrap-abs N pos b (suc k) hk hb)

          sum : length (entry_in (wrap_of N c) (slot_at W log (c % N))) + length rest ≡ suc k
          sum = rw (here, length-append (entry_in (wrap_of N c) (slot_at W log (c % N))) rest) at e

          go : Found c → length (entry_in (wrap_of N c) (slot_at W log (c % N))) + length rest ≡ suc k → (length rest ≡ k → rest ≡ entries_before N con b k)
              → entry_in (back_wrap (wrap_of N b) (b % N) (suc k)) (slot_at W log (back N (b % N) (suc k))) ++ rest
              ≡ entry_in (wrap_of N c) (content_of (wrap_of N c) (con c)) ++ entries_before N con b k
          go (inl f) l ih = absurd (let z : 0 + length rest ≡ suc k = rw f at l in omega (arith, short k))
          go (inr f) l ih = rw (here, f, ih (omega (arith, short k, entry-one (wrap_of N c) (slot_at W log (c % N)))))
