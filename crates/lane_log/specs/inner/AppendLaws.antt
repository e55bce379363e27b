-- Inner: how the code goes, need not be believed. Laws of append: the place after n slots, its stores one slot after the other, and the code's loop over
-- them. Assumes nothing.
use Rattle.std.specs.Prelude.{ℕ, zero, suc, ◌+◌, ◌*◌, ◌%◌, ◌≤◌, ◌<◌, ◌≡◌, refl, List, [], ◌∷◌, ◌++◌, eqb, length, get_or, set, take}
use Rattle.std.proofs.Common.{sym, ap, ◌∙◌, arith, add-one, take-suc, length-take-le, get_or-take}
use Rattle.std.proofs.lemmas.Bool.{eqb-false}
use Rattle.laws.specs.inner.Tests.{split}
use Rattle.slot.specs.Slot.{entry_of, stamp_of}
use Rattle.slot.specs.declared.Slot.{Slot}
use Rattle.txn.specs.inner.Writes.{no_write}
use Rattle.txn.specs.inner.WritesLaws.{All-get_or}
use Rattle.txn.specs.declared.Write.{Write}
use Rattle.image.specs.Stores.{Store, stored, places}
use Rattle.image.specs.inner.StoresLaws.{length-stored, stored-append, places-append}
use Rattle.image.specs.Flush.{flush, flush_all}
use Rattle.image.specs.inner.FlushLaws.{length-flush_all, flush_all-append}
use Rattle.lane_log.specs.declared.Cursor.{Cursor}
use Rattle.lane_log.specs.Append.{onward, advance, slot_stores, append_from, append_stores, restamp_store}
use Rattle.lane_log.specs.inner.AppendEntries.{WordsBelow, Within, entry_stores}

-- ---- the place after n slots
pub onward-within : (N : ℕ) (c : Cursor) → Within N c → Within N (onward N c)
unfolding onward
onward-within N c h =
    split (eqb (c.slot + 1) N)
    (λ e. rw e (record { slot = omega arith; wrap = omega arith }))
    (λ e. rw e (record { slot = omega (arith, eqb-false (c.slot + 1) N e); wrap = omega arith }))

pub advance-within : (N n : ℕ) (c : Cursor) → Within N c → Within N (advance N n c)
unfolding advance
advance-within N zero c h = h
advance-within N (suc n) c h = advance-within N n (onward N c) (onward-within N c h)

pub end-within : (N n : ℕ) (c d : Cursor) → d ≡ advance N n c → Within N c → Within N d
end-within N n c d e h = rw e (advance-within N n c h)

-- one slot more
pub advance-suc : (N n : ℕ) (c : Cursor) → advance N (suc n) c ≡ onward N (advance N n c)
unfolding advance
advance-suc N zero c = refl
advance-suc N (suc n) c = advance-suc N n (onward N c)

-- ---- the stores
-- the entries, and then the timestamp
append-from : (start N n s : ℕ) (c : Cursor) (ws : List Write)
    → append_from start N n s c ws
    ≡ entry_stores start N c ws ++ slot_stores start (advance N (length ws) c).slot (stamp_of n s (advance N (length ws) c).wrap) []
unfolding append_from entry_stores advance slot_stores
append-from start N n s c [] = refl
append-from start N n s c (w ∷ ws) =
    ap (λ (l : List Store). slot_stores start c.slot (entry_of w.word w.old c.wrap) l) (append-from start N n s (onward N c) ws)

pub append-split : (start N s : ℕ) (c : Cursor) (ws : List Write)
    → append_stores start N s c ws
    ≡ entry_stores start N c ws ++ slot_stores start (advance N (length ws) c).slot (stamp_of (length ws) s (advance N (length ws) c).wrap) []
unfolding append_stores
append-split start N s c ws = append-from start N (length ws) s c ws

-- one entry more
pub entries-snoc : (start N : ℕ) (c : Cursor) (ws : List Write) (w : Write)
    → entry_stores start N c (ws ++ (w ∷ []))
    ≡ entry_stores start N c ws ++ slot_stores start (advance N (length ws) c).slot (entry_of w.word w.old (advance N (length ws) c).wrap) []
unfolding entry_stores advance slot_stores
entries-snoc start N c [] w = refl
entries-snoc start N c (v ∷ ws) w =
    ap (λ (l : List Store). slot_stores start c.slot (entry_of v.word v.old c.wrap) l) (entries-snoc start N (onward N c) ws w)

-- ---- what the code does
-- a slot's two words stored and flushed
pub slot-stored : (start j : ℕ) (s : Slot) (cache : List ℕ)
    → set (set cache (start + 2 * j) s.address) (start + 2 * j + 1) s.value ≡ stored (slot_stores start j s []) cache
unfolding stored slot_stores
slot-stored start j s cache = refl

pub slot-flushed : (L start j : ℕ) (s : Slot) (flags f g : List ℕ) → f ≡ set flags (start + 2 * j) (flush L (get_or flags (start + 2 * j) 0))
    → g ≡ set f (start + 2 * j + 1) (flush L (get_or f (start + 2 * j + 1) 0)) → g ≡ flush_all L (places (slot_stores start j s [])) flags
unfolding flush_all places slot_stores
slot-flushed L start j s flags f g d e = e ∙ rw d

-- stores after stores
stored-then : (k l : List Store) (x y z : List ℕ) → y ≡ stored k x → z ≡ stored l y → z ≡ stored (k ++ l) x
stored-then k l x y z e f = f ∙ ap (stored l) e ∙ sym (stored-append k l x)

flushed-then : (L : ℕ) (k l : List Store) (x y z : List ℕ) → y ≡ flush_all L (places k) x → z ≡ flush_all L (places l) y → z ≡ flush_all L (places (k ++ l)) x
flushed-then L k l x y z e f =
    f ∙ ap (flush_all L (places l)) e
    ∙ sym (ap (λ (is : List ℕ). flush_all L is x) (places-append k l) ∙ flush_all-append L (places k) (places l) x)

-- the word of a write among those to be appended
pub word_below : (W n i : ℕ) (ws : List Write) → WordsBelow W (take n ws) → i < n → n ≤ length ws → (get_or ws i no_write).word < W
word_below W n i ws a h l =
    rw (← get_or-take n ws i no_write h) (All-get_or i a (rw (length-take-le n ws l) h))

-- i entries appended
pub record Appended (start N L : ℕ) (ws : List Write) (c₀ : Cursor) (cache₀ flags₀ : List ℕ) (i : ℕ) (c : Cursor) (cache flags : List ℕ) : Type 0 where
  pub within : Within N c
  pub long : length cache ≡ length cache₀
  pub broad : length flags ≡ length flags₀
  pub place : c ≡ advance N i c₀
  pub written : cache ≡ stored (entry_stores start N c₀ (take i ws)) cache₀
  pub flushed : flags ≡ flush_all L (places (entry_stores start N c₀ (take i ws))) flags₀

pub appended-none : (start N L : ℕ) (ws : List Write) (c : Cursor) (cache flags : List ℕ) → Within N c → Appended start N L ws c cache flags 0 c cache flags
unfolding advance entry_stores stored places flush_all
appended-none start N L ws c cache flags h = record { within = h; long = refl; broad = refl; place = refl; written = refl; flushed = refl }

module _ (start N L : ℕ) (ws : List Write) (c₀ : Cursor) (cache₀ flags₀ : List ℕ) (i : ℕ) (c : Cursor) (cache flags : List ℕ) where
  pub appended-more : (d : Cursor) (s : Slot) (cache' flags' : List ℕ) → Appended start N L ws c₀ cache₀ flags₀ i c cache flags → i < length ws
      → s ≡ entry_of (get_or ws i no_write).word (get_or ws i no_write).old c.wrap → d ≡ onward N c
      → cache' ≡ stored (slot_stores start c.slot s []) cache → flags' ≡ flush_all L (places (slot_stores start c.slot s [])) flags
      → Appended start N L ws c₀ cache₀ flags₀ (i + 1) d cache' flags'
  appended-more d s cache' flags' a h e f g k =
      record {
        within = rw f (onward-within N c a.within);
        long = rw g (length-stored (slot_stores start c.slot s []) cache ∙ a.long);
        broad = rw k (length-flush_all L (places (slot_stores start c.slot s [])) flags ∙ a.broad);
        place = f ∙ ap (onward N) a.place ∙ sym (rw (add-one i) (advance-suc N i c₀));
        written = rw stores (stored-then (entry_stores start N c₀ (take i ws)) (slot_stores start c.slot s []) cache₀ cache cache' a.written g);
        flushed = rw stores (flushed-then L (entry_stores start N c₀ (take i ws)) (slot_stores start c.slot s []) flags₀ flags flags' a.flushed k);
      }
    where
      stores : entry_stores start N c₀ (take (i + 1) ws) ≡ entry_stores start N c₀ (take i ws) ++ slot_stores start c.slot s []
      stores =
          rw (add-one i, take-suc ws i no_write h, entries-snoc start N c₀ (take i ws) (get_or ws i no_write), length-take-le i ws (omega arith), ← a.place, ← e)

-- and the timestamp that closes them
module _ (start N stamp : ℕ) (ws : List Write) (c₀ c : Cursor) (s : Slot) (e : c ≡ advance N (length ws) c₀) (f : s ≡ stamp_of (length ws) stamp c.wrap) where
  stores : append_stores start N stamp c₀ ws ≡ entry_stores start N c₀ ws ++ slot_stores start c.slot s []
  stores = rw (append-split start N stamp c₀ ws, ← e, ← f)

  pub append-stored : (x y z : List ℕ) → y ≡ stored (entry_stores start N c₀ ws) x → z ≡ stored (slot_stores start c.slot s []) y
      → z ≡ stored (append_stores start N stamp c₀ ws) x
  append-stored x y z g k = rw stores (stored-then (entry_stores start N c₀ ws) (slot_stores start c.slot s []) x y z g k)

  pub append-flushed : (L : ℕ) (x y z : List ℕ) → y ≡ flush_all L (places (entry_stores start N c₀ ws)) x
      → z ≡ flush_all L (places (slot_stores start c.slot s [])) y → z ≡ flush_all L (places (append_stores start N stamp c₀ ws)) x
  append-flushed L x y z g k = rw stores (flushed-then L (entry_stores start N c₀ ws) (slot_stores start c.slot s []) x y z g k)

-- the place after it
pub append-ends : (N n : ℕ) (c₀ c d : Cursor) → c ≡ advance N n c₀ → d ≡ onward N c → d ≡ advance N (n + 1) c₀
append-ends N n c₀ c d e g = g ∙ rw (e, add-one n) (sym (advance-suc N n c₀))

-- a timestamp replaced
pub restamped : (start j stamp v : ℕ) (cache : List ℕ) → v ≡ get_or cache (start + 2 * j) 0 % 2
    → set cache (start + 2 * j + 1) (stamp + v) ≡ stored (restamp_store start j stamp cache ∷ []) cache
unfolding stored restamp_store
restamped start j stamp v cache e = rw e

pub restamp-flushed : (L start j stamp : ℕ) (cache flags g : List ℕ) → g ≡ set flags (start + 2 * j + 1) (flush L (get_or flags (start + 2 * j + 1) 0))
    → g ≡ flush_all L (places (restamp_store start j stamp cache ∷ [])) flags
unfolding flush_all places restamp_store
restamp-flushed L start j stamp cache flags g e = e
