-- The data words of the cached image: an append leaves them, a commit makes its writes. Assumes nothing.
use mathlib.Core.Path.{◌≡◌, refl, ap, ◌∙◌}
use mathlib.Core.List.{List, [], ◌∷◌}
use Prim.Native.Nat.{ℕ, ◌+◌, ◌*◌, ◌<◌}
use native.Mathlib.Nat.{add_assoc}
use lib.ListN.{length, set}
use Rattle.laws.specs.inner.Lists.{All, none as nil, more}
use Rattle.txn.specs.Txn.{applied}
use Rattle.txn.specs.declared.Write.{Write}
use Rattle.image.specs.Image.{data_of, log_start}
use Rattle.image.specs.inner.ImageLaws.{data_of-set, data_of-set-log}
use Rattle.image.specs.Stores.{Store, stored}
use Rattle.image.specs.inner.StoresLaws.{stored-append}
use Rattle.image.specs.declared.Sizes.{Sizes}
use Rattle.lane_log.specs.Append.{onward, slot_stores, append_from, append_stores, circular, restamp_store}
use Rattle.lane_log.specs.declared.Cursor.{Cursor}
use Rattle.slot.specs.Slot.{entry_of, stamp_of}
use Rattle.slot.specs.declared.Slot.{Slot}
use Rattle.record.specs.Record.{pairs_of, lane_at, logged_in}
use Rattle.record.specs.declared.Pair.{Pair}
use Rattle.store.specs.Machine.{Machine}
use Rattle.store.specs.Calls.{changed, appended, pair_stores, commit_stores, committed}
use Rattle.record.specs.Record.{Phase}

module _ (z : Sizes) (L : ℕ) where
  data-slot : (j : ℕ) (s : Slot) (rest : List Store) (image : List ℕ) → ((i : List ℕ) → data_of z (stored rest i) ≡ data_of z i)
      → data_of z (stored (slot_stores (log_start z L) j s rest) image) ≡ data_of z image
  unfolding slot_stores stored
  data-slot j s rest image f =
      f _
      ∙ rw (add_assoc (log_start z L) (2 * j) 1) (data_of-set-log z L (set image (log_start z L + 2 * j) s.address) (2 * j + 1) s.value)
      ∙ data_of-set-log z L image (2 * j) s.address

  data-append : (n s : ℕ) (c : Cursor) (ws : List Write) (image : List ℕ)
      → data_of z (stored (append_from (log_start z L) z.slots n s c ws) image) ≡ data_of z image
  unfolding append_from stored
  data-append n s c [] image = data-slot c.slot (stamp_of n s c.wrap) [] image (λ i. refl)
  data-append n s c (w ∷ ws) image =
      data-slot c.slot (entry_of w.word w.old c.wrap) (append_from (log_start z L) z.slots n s (onward z.slots c) ws) image
      (λ i. data-append n s (onward z.slots c) ws i)

  pub data-stored : (s : ℕ) (c : Cursor) (ws : List Write) (image : List ℕ)
      → data_of z (stored (append_stores (log_start z L) z.slots s c ws) image) ≡ data_of z image
  unfolding append_stores
  data-stored s c ws image = data-append (length ws) s c ws image

  pub data-appended : (ws : List Write) (phase : Phase) (redo : List Pair) (m : Machine) → data_of z (appended z L ws phase redo m).cache ≡ data_of z m.cache
  unfolding appended changed append_stores
  data-appended ws phase redo m = data-append (length ws) (m.state.clock + 2) _ ws m.cache

-- ---- a commit
pub data-pairs : (z : Sizes) {ws : List Write} (image : List ℕ) → All (λ w. w.word < z.words) ws
    → data_of z (stored (pair_stores (pairs_of (length ws) ws)) image) ≡ applied ws (data_of z image)
unfolding pair_stores pairs_of stored applied
data-pairs z image nil = refl
data-pairs z image (more {x = w} {l = ws} h hs) =
    data-pairs z (set image (1 + w.word) w.new) hs ∙ ap (applied ws) (data_of-set z image w.word w.new h)

pub data-committed : (z : Sizes) (L : ℕ) (ws : List Write) (m : Machine) → All (λ w. w.word < z.words) ws
    → data_of z (committed z L (pairs_of (length ws) ws) m).cache ≡ applied ws (data_of z m.cache)
unfolding committed changed commit_stores restamp_store stored
data-committed z L ws m low =
    let g = logged_in (lane_at m.state L).phase in
    let j = 2 * circular z.slots (g.first + g.count) in
    ap (data_of z) (stored-append (pair_stores (pairs_of (length ws) ws)) _ m.cache)
    ∙ rw (add_assoc (log_start z L) j 1) (data_of-set-log z L (stored (pair_stores (pairs_of (length ws) ws)) m.cache) (j + 1) _)
    ∙ data-pairs z m.cache low
