-- Inner: how the code goes, need not be believed. Laws of undoing one sequence: what a slot closes, and its entries undone one by one, the last one
-- first. Assumes nothing.
use Rattle.std.specs.Prelude.{◌≡◌, refl, ℕ, suc, ◌+◌, ◌≤◌, ◌<◌, length, Option, Some, None}
use Rattle.std.proofs.Math.Path.{sym, ap, ap₂}
use Rattle.std.proofs.Common.{◌∙◌, add-one, length-append}
use mathlib.Core.List.{List, [], ◌∷◌, ◌++◌, append-nil}
use native.Mathlib.Omega.{arith}
use Rattle.laws.specs.inner.Lists.{All, none, more}
use Rattle.slot.specs.declared.Content.{Content}
use Rattle.slot.specs.declared.Content.TheVariants.{Empty, Torn, Entry, Stamp}
use Rattle.slot.specs.Slot.{max_entries}
use Rattle.image.specs.Image.{base_of, log_of}
use Rattle.image.specs.Stores.{Store}
use Rattle.image.specs.declared.Sizes.{Sizes}
use Rattle.lane_log.specs.Log.{Old, Complete, slot_at, back, back_wrap, entries_back}
use Rattle.lane_log.specs.inner.LogLaws.{entry-in, EntryBack, entry-back, back_whole, back-cons, back-words}
use Rattle.lane_log.specs.inner.Search.{closed_at}
use Rattle.lane_log.proofs.SearchLaws.{Closed, closed_as, closed-from, closes-none, closes-one}
use Rattle.lane_log.specs.declared.Sequence.{Sequence}
use Rattle.recovery.specs.Recovery.{undo_entries, undo_sequences}
use Rattle.recovery.specs.inner.UndoStoreLaws.{data-entries}
use Rattle.recovery.specs.inner.Limit.{limited}
use Rattle.recovery.specs.inner.LimitLaws.{limited-none, limited-append, length-limited, length-undo, limited-alike}
use Rattle.recovery.specs.inner.Picking.{wrap_of, closes_in}

-- ---- the sequence that a slot closes
module _ (z : Sizes) (image : List ℕ) (L j : ℕ) where
  pub nothing-closed : closed_at z.words z.slots (base_of image) (log_of z L image) j ≡ None → closes_in z image L j ≡ []
  unfolding closes_in
  nothing-closed e = closes-none z.words z.slots (base_of image) (log_of z L image) L j e

  module _ (q : Sequence) (c : Closed z.words z.slots (base_of image) (log_of z L image) j q) where
    pub one-closed : closes_in z image L j ≡ closed_as z.words z.slots (base_of image) (log_of z L image) L j q c ∷ []
    unfolding closes_in
    one-closed = closes-one z.words z.slots (base_of image) (log_of z L image) L j q c

  -- what holds of it where there is one
  pub closed_all : {P : Complete → Type 0} → ((q : Sequence) (c : Closed z.words z.slots (base_of image) (log_of z L image) j q)
      → P (closed_as z.words z.slots (base_of image) (log_of z L image) L j q c))
      → All P (closes_in z image L j)
  closed_all {P} f = by (closed_at z.words z.slots (base_of image) (log_of z L image) j) refl
    where
      by : (x : Option Sequence) → closed_at z.words z.slots (base_of image) (log_of z L image) j ≡ x → All P (closes_in z image L j)
      by None e = rw (nothing-closed e) none
      by (Some q) e = let c = closed-from z.words z.slots (base_of image) (log_of z L image) j q e in rw (one-closed q c) (more (f q c) none)

  pub closed-one : length (closes_in z image L j) ≤ 1
  closed-one = by (closed_at z.words z.slots (base_of image) (log_of z L image) j) refl
    where
      by : (x : Option Sequence) → closed_at z.words z.slots (base_of image) (log_of z L image) j ≡ x → length (closes_in z image L j) ≤ 1
      by None e = rw (nothing-closed e) (omega arith)
      by (Some q) e = let c = closed-from z.words z.slots (base_of image) (log_of z L image) j q e in rw (one-closed q c) (omega arith)

  pub closed-words : All (λ q. All (λ (o : Old). o.word < z.words) q.entries) (closes_in z image L j)
  closed-words = closed_all (λ q c. back-words z.words z.slots (log_of z L image) j c.wrap q.count)

-- ---- one entry
word_in : Content → ℕ
word_in Empty = 0
word_in Torn = 0
word_in (Entry i v p) = i
word_in (Stamp n s p) = 0

old_in : Content → ℕ
old_in Empty = 0
old_in Torn = 0
old_in (Entry i v p) = v
old_in (Stamp n s p) = 0

-- ---- one sequence
undo-one : (q : Complete) → undo_sequences (q ∷ []) ≡ undo_entries q.entries
unfolding undo_sequences
undo-one q = append-nil (undo_entries q.entries)

-- the stores for the last i entries before slot j
unfoldable pub entry_stores : Sizes → List ℕ → (L j i : ℕ) → List Store
entry_stores z image L j i = undo_entries (entries_back z.words z.slots (log_of z L image) j (wrap_of (slot_at z.words (log_of z L image) j)) i)

-- they are undone
pub record UndoneTo (z : Sizes) (image : List ℕ) (L j limit due i : ℕ) (nvm : List ℕ) (total : ℕ) : Type 0 where
  pub memory : nvm ≡ limited limit due (entry_stores z image L j i) image
  pub counted : total ≡ due + length (entry_stores z image L j i)
  pub small : total ≤ due + i

module _ (z : Sizes) (image : List ℕ) (some : 0 < length image) (L j limit due : ℕ) where
  -- there is none
  pub undone-nothing : closed_at z.words z.slots (base_of image) (log_of z L image) j ≡ None
      → (due ≡ due + length (undo_sequences (closes_in z image L j))) × (image ≡ limited limit due (undo_sequences (closes_in z image L j)) image)
  unfolding undo_sequences
  undone-nothing e = rw (nothing-closed z image L j e) (omega arith, sym (limited-none limit due image))

  module _ (q : Sequence) (s : Closed z.words z.slots (base_of image) (log_of z L image) j q) where
    stores-are : (i : ℕ) → entry_stores z image L j i ≡ undo_entries (entries_back z.words z.slots (log_of z L image) j s.wrap i)
    unfolding entry_stores wrap_of
    stores-are i = rw s.reads

    pub undone-start : UndoneTo z image L j limit due 0 image due
    unfolding entry_stores entries_back undo_entries
    undone-start = record { memory = sym (limited-none limit due image); counted = omega arith; small = omega arith }

    -- all of them are the sequence's
    pub undone-all : (i : ℕ) (nvm : List ℕ) (total : ℕ) → UndoneTo z image L j limit due i nvm total → i ≡ q.count
        → (total ≡ due + length (undo_sequences (closes_in z image L j))) × (nvm ≡ limited limit due (undo_sequences (closes_in z image L j)) image)
    undone-all i nvm total u e =
        rw (one-closed z image L j q s, undo-one, ← e, ← stores-are i) (u.counted, u.memory)

    module _ (i : ℕ) (nvm : List ℕ) (total : ℕ) (u : UndoneTo z image L j limit due i nvm total) where
      pub undone-long : length nvm ≡ length image
      undone-long = ap length u.memory ∙ length-limited limit due (entry_stores z image L j i) image

      undone-log : log_of z L nvm ≡ log_of z L image
      unfolding entry_stores
      undone-log =
          ap (log_of z L) u.memory
          ∙ (limited-alike z limit due image some
          (data-entries z.words (back-words z.words z.slots (log_of z L image) j (wrap_of (slot_at z.words (log_of z L image) j)) i))).logs L

      module _ (h : i < q.count) (b : ℕ) (c : Content) (e : b ≡ back z.slots j (i + 1)) (r : c ≡ slot_at z.words (log_of z L nvm) b) where
        pub entry : EntryBack z.words z.slots (log_of z L image) j s.wrap (suc i)
        entry =
            entry-back z.words z.slots (log_of z L image) j s.wrap (suc i)
            (rw (← add-one i) (back_whole z.words z.slots (log_of z L image) j s.wrap i q.count s.whole h))

        -- the slot is an entry
        pub undone-entry : c ≡ Entry entry.word entry.old (back_wrap s.wrap j (suc i))
        undone-entry = r ∙ ap (λ (l : List ℕ). slot_at z.words l b) undone-log
            ∙ ap (slot_at z.words (log_of z L image)) (e ∙ ap (back z.slots j) (add-one i)) ∙ entry.reads

        module _ (word old p : ℕ) (d : c ≡ Entry word old p) where
          words : word ≡ entry.word
          unfolding word_in
          words = ap word_in (sym d ∙ undone-entry)

          olds : old ≡ entry.old
          unfolding old_in
          olds = ap old_in (sym d ∙ undone-entry)

          -- which names a data word
          pub undone-word : word < z.words
          undone-word = rw words (entry-in z.words (log_of z L image) (back z.slots j (suc i)) entry.word entry.old _ entry.reads).word

          more-stores : entry_stores z image L j (i + 1) ≡ entry_stores z image L j i ++ (record { at = 1 + word; value = old } ∷ [])
          unfolding undo_entries
          more-stores =
              stores-are (i + 1)
              ∙ ap undo_entries
              (ap (entries_back z.words z.slots (log_of z L image) j s.wrap) (add-one i)
              ∙ back-cons z.words z.slots (log_of z L image) j s.wrap i entry)
              ∙ ap₂ (λ w v. undo_entries (entries_back z.words z.slots (log_of z L image) j s.wrap i) ++ (record { at = 1 + w; value = v } ∷ []))
              (sym words) (sym olds)
              ∙ ap (λ l. l ++ (record { at = 1 + word; value = old } ∷ [])) (sym (stores-are i))

          -- with it
          pub undone-more : (nvm' : List ℕ) (total' : ℕ) → nvm' ≡ limited limit total (record { at = 1 + word; value = old } ∷ []) nvm → total' ≡ total + 1
              → UndoneTo z image L j limit due (i + 1) nvm' total'
          undone-more nvm' total' m t =
              let x : Store = record { at = 1 + word; value = old } in
              let xs = entry_stores z image L j i in
              record {
                memory =
                    m ∙ ap (limited limit total (x ∷ [])) u.memory
                    ∙ ap (λ n. limited limit n (x ∷ []) (limited limit due xs image)) u.counted
                    ∙ sym (limited-append limit due xs (x ∷ []) image)
                    ∙ ap (λ l. limited limit due l image) (sym more-stores);
                counted = t ∙ ap (λ n. n + 1) u.counted ∙ rw (more-stores, length-append xs (x ∷ [])) (omega arith);
                small = omega (arith, u.small);
              }

pub closed-few : (z : Sizes) (image : List ℕ) (L j : ℕ) → length (undo_sequences (closes_in z image L j)) ≤ max_entries
unfolding undo_sequences
closed-few z image L j = by (closed_at z.words z.slots (base_of image) (log_of z L image) j) refl
  where
    by : (x : Option Sequence) → closed_at z.words z.slots (base_of image) (log_of z L image) j ≡ x → length (undo_sequences (closes_in z image L j)) ≤ max_entries
    by None e = rw (nothing-closed z image L j e) (omega arith)
    by (Some q) e =
        let c = closed-from z.words z.slots (base_of image) (log_of z L image) j q e in
        rw (one-closed z image L j q c, undo-one, length-undo, c.whole) c.few
