-- The stores of an append: the lane's log becomes the window of the longer history, and all of them are inside that log, so that the other logs,
-- the data words and the base stay. Assumes nothing.
use mathlib.Core.Path.{◌≡◌, ap, ◌∙◌, sym}
use mathlib.Core.List.{List, [], ◌∷◌, ◌++◌}
use Prim.Native.Nat.{ℕ, suc, ◌+◌, ◌*◌, ◌%◌, ◌≤◌, ◌<◌}
use native.Mathlib.Omega.{arith}
use native.Mathlib.Nat.{mod-lt, add_assoc}
use lib.Dec.{eqb}
use lib.ListN.{length, set, length-append, length-set}
use lib.Seq.{append_snoc}
use borrow.Author.Tests.{eqb-false}
use Rattle.laws.specs.inner.Tests.{split}
use Rattle.laws.specs.inner.Lists.{All, none, more}
use Rattle.slot.specs.Slot.{entry_of}
use Rattle.txn.specs.declared.Write.{Write}
use Rattle.image.specs.Image.{former_length, log_start, log_of}
use Rattle.image.specs.inner.ImageLaws.{length-log, log_of-set}
use Rattle.image.specs.Stores.{stored}
use Rattle.image.specs.declared.Sizes.{Sizes}
use Rattle.lane_log.specs.Append.{onward, slot_stores, append_from, append_stores}
use Rattle.lane_log.specs.declared.Cursor.{Cursor}
use Rattle.crash.proofs.lane.Absolute.{wrap_of, cursor_at, onward-cursor}
use Rattle.crash.proofs.lane.Ghost.{Past, ent, sta, address_of, value_of}
use Rattle.crash.proofs.lane.Window.{Window, put, window-put}
use Rattle.crash.proofs.recovery.Data.{olds_of, length-olds}
use Rattle.crash.proofs.lane.Seqs.{entries_as, past_of}
use Rattle.crash.proofs.lane.Regions.{Inside}

module _ (z : Sizes) (L : ℕ) (lane : L < z.lanes) (pos : 0 < z.slots) where
  put-image : (image : List ℕ) (j x y : ℕ) → j < z.slots
      → log_of z L (set (set image (log_start z L + 2 * j) x) (log_start z L + 2 * j + 1) y) ≡ put (log_of z L image) j x y
  unfolding put
  put-image image j x y h =
      rw (
        add_assoc (log_start z L) (2 * j) 1,
        log_of-set z L (set image (log_start z L + 2 * j) x) (2 * j + 1) y (omega arith),
        log_of-set z L image (2 * j) x (omega arith),
      )

  -- one slot more
  slot-window : (image : List ℕ) (h : List Past) (c : Past) → former_length z ≤ length image → Window z.slots h (log_of z L image)
      → Window z.slots (h ++ c ∷ [])
      (log_of z L (set (set image (log_start z L + 2 * (length h % z.slots)) (address_of (wrap_of z.slots (length h)) c))
      (log_start z L + 2 * (length h % z.slots) + 1) (value_of (wrap_of z.slots (length h)) c)))
  slot-window image h c e w =
      rw (put-image image (length h % z.slots) (address_of (wrap_of z.slots (length h)) c) (value_of (wrap_of z.slots (length h)) c) (mod-lt (length h) pos))
      (window-put z.slots pos h c (log_of z L image) (length-log z L image e lane) w)

  next-cursor : (h : List Past) (c : Past) → onward z.slots (cursor_at z.slots (length h)) ≡ cursor_at z.slots (length (h ++ c ∷ []))
  next-cursor h c =
      onward-cursor z.slots pos (length h)
      ∙ ap (cursor_at z.slots) (let e : suc (length h) ≡ length (h ++ c ∷ []) = omega (arith, length-append h (c ∷ [])) in e)

  window-from : (n s : ℕ) (ws : List Write) (h : List Past) (image : List ℕ) → former_length z ≤ length image → Window z.slots h (log_of z L image)
      → Window z.slots (h ++ (entries_as (olds_of ws) ++ (sta n s ∷ [])))
      (log_of z L (stored (append_from (log_start z L) z.slots n s (cursor_at z.slots (length h)) ws) image))
  unfolding append_from slot_stores stored address_of value_of cursor_at entries_as olds_of
  window-from n s [] h image e w = slot-window image h (sta n s) e w
  window-from n s (x ∷ ws) h image e w =
      let c = ent x.word x.old in
      let p = wrap_of z.slots (length h) in
      let one = set image (log_start z L + 2 * (length h % z.slots)) (entry_of x.word x.old p).address in
      let two = set one (log_start z L + 2 * (length h % z.slots) + 1) (entry_of x.word x.old p).value in
      let len : former_length z ≤ length two = omega (
        arith,
        length-set one (log_start z L + 2 * (length h % z.slots) + 1) (entry_of x.word x.old p).value,
        length-set image (log_start z L + 2 * (length h % z.slots)) (entry_of x.word x.old p).address,
        e,
      ) in
      let ih = window-from n s ws (h ++ c ∷ []) two len (slot-window image h c e w) in
      rw (next-cursor h c, sym (append_snoc h c (entries_as (olds_of ws) ++ (sta n s ∷ [])))) ih

  pub window-append : (s : ℕ) (ws : List Write) (h : List Past) (image : List ℕ) → former_length z ≤ length image → Window z.slots h (log_of z L image)
      → Window z.slots (h ++ past_of (olds_of ws) s) (log_of z L (stored (append_stores (log_start z L) z.slots s (cursor_at z.slots (length h)) ws) image))
  unfolding append_stores past_of
  window-append s ws h image e w = rw (length-olds ws) (window-from (length ws) s ws h image e w)

  onward-slot : (c : Cursor) → c.slot < z.slots → (onward z.slots c).slot < z.slots
  unfolding onward
  onward-slot c h = split (eqb (c.slot + 1) z.slots) (λ e. rw e pos) (λ e. rw e (let d = eqb-false (c.slot + 1) z.slots e in omega arith))

  slot-inside : (j : ℕ) → j < z.slots → Inside z L (log_start z L + 2 * j) × Inside z L (log_start z L + 2 * j + 1)
  slot-inside j h = ((omega arith, omega arith), (omega arith, omega arith))

  inside-from : (n s : ℕ) (c : Cursor) (ws : List Write) → c.slot < z.slots → All (λ x. Inside z L x.at) (append_from (log_start z L) z.slots n s c ws)
  unfolding append_from slot_stores
  inside-from n s c [] h = let p = slot-inside c.slot h in more p.0 (more p.1 none)
  inside-from n s c (x ∷ ws) h = let p = slot-inside c.slot h in more p.0 (more p.1 (inside-from n s (onward z.slots c) ws (onward-slot c h)))

  pub append-inside : (s : ℕ) (c : Cursor) (ws : List Write) → c.slot < z.slots → All (λ x. Inside z L x.at) (append_stores (log_start z L) z.slots s c ws)
  unfolding append_stores
  append-inside s c ws h = inside-from (length ws) s c ws h
