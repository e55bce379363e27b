-- What the calls read of a lane's cached log, in the ghosts' terms: the sequence that the lane holds and its entries, slot by slot, and refusal 9.
-- Assumes nothing.
use Rattle.std.specs.Prelude.{Some}
use mathlib.Core.Path.{◌≡◌, refl, ap, ◌∙◌}
use mathlib.Core.Bool.{false}
use mathlib.Core.List.{List, [], ◌∷◌, ◌++◌}
use Prim.Native.Nat.{ℕ, zero, suc, ◌+◌, ◌-◌, ◌%◌, ◌≤◌, ◌<◌}
use native.Mathlib.Omega.{arith}
use native.Mathlib.Nat.{le_of_suc-le-suc, mod-lt}
use lib.ListN.{length, get_or}
use Rattle.slot.specs.declared.Content.TheVariants.{Entry}
use Rattle.txn.specs.inner.Writes.{no_write}
use Rattle.txn.specs.declared.Write.{Write}
use Rattle.image.specs.Image.{base_of, log_of}
use Rattle.image.specs.declared.Sizes.{Sizes}
use Rattle.lane_log.specs.Log.{slot_at, complete_in, hits}
use Rattle.lane_log.specs.Append.{circular}
use Rattle.record.specs.Record.{lane_at, bound_of}
use Rattle.record.specs.declared.Logged.{Logged}
use Rattle.store.specs.Machine.{Machine}
use Rattle.store.specs.Calls.{drained, would_hit}
use Rattle.laws.specs.inner.Members.{In, here}
use Rattle.crash.proofs.recovery.Data.{olds_of, length-olds}
use Rattle.crash.proofs.history.Agree.{Entries, entries_from}
use Rattle.crash.proofs.lane.Absolute.{wrap_of, circular-abs}
use Rattle.crash.proofs.lane.Ghost.{Past, ent, content_of, address_at, value_at, exact-reads}
use Rattle.crash.proofs.lane.Window.{Window, at}
use Rattle.crash.proofs.lane.Seqs.{Seq, Hist, add, past_of, no_old, at_entry, length-new, hist-fits, stands, newest-end}
use Rattle.crash.proofs.lane.Written.{Written, Whole, RoomFor, written-room}
use Rattle.crash.proofs.lane.Shape.{Shape}
use Rattle.crash.proofs.lane.Log.{Track, PhaseOf, holds, LaneLog, next-slot}

-- ---- the entries of the newest sequence
newest-entry : (W N : ℕ) {h : List Past} {g : Seq} {gs : List Seq} → Hist W N h (g ∷ gs) → (i : ℕ) → i < length g.entries
    → at h (g.end - length g.entries + i) ≡ ent (get_or g.entries i no_old).word (get_or g.entries i no_old).old
newest-entry W N (add {h = h} H es s ok) i l =
    ap (at (h ++ past_of es s)) (let e : length h + length es - length es + i ≡ length h + i = omega arith in e) ∙ at_entry h es s i l

olds-at : (ws : List Write) (i : ℕ) → i < length ws
    → ((get_or (olds_of ws) i no_old).word ≡ (get_or ws i no_write).word) × ((get_or (olds_of ws) i no_old).old ≡ (get_or ws i no_write).old)
unfolding olds_of
olds-at [] i l = absurd (omega arith)
olds-at (w ∷ ws) zero l = (refl, refl)
olds-at (w ∷ ws) (suc i) l = olds-at ws i (le_of_suc-le-suc l)

-- ---- the sequence that a lane holds
pub record HeldSeq (N : ℕ) (x : Logged) (gs : List Seq) : Type 0 where
  pub seq : Seq
  pub rest : List Seq
  pub newest : gs ≡ seq ∷ rest
  pub first : x.first ≡ (seq.end - length seq.entries) % N
  pub count : x.count ≡ length seq.entries
  pub stamp : x.stamp ≡ seq.stamp
  pub some : 0 < length seq.entries

held_of : (N : ℕ) (x : Logged) {gs : List Seq} → PhaseOf N (Some x) gs → HeldSeq N x gs
held_of N x (holds {g = g} {gs = gs} f c s i) = record { seq = g; rest = gs; newest = refl; first = f; count = c; stamp = s; some = i }

module _ (z : Sizes) (L : ℕ) (m : Machine) (t : Track) (s : Shape z m) (l : LaneLog z L m t) where
  pub lane-held : (x : Logged) → (lane_at m.state L).phase ≡ Some x → HeldSeq z.slots x t.gs
  lane-held x e = held_of z.slots x (rw e at l.holding)

  -- its entries stand in the log
  entry-there : (g : Seq) (rest : List Seq)
      → Written z (base_of m.cache) m.state.clock (log_of z L m.cache) t.hist (g ∷ rest) → (i : ℕ) → i < length g.entries
      → slot_at z.words (log_of z L m.cache) (circular z.slots ((g.end - length g.entries) % z.slots + i))
      ≡ Entry (get_or g.entries i no_old).word (get_or g.entries i no_old).old (wrap_of z.slots (g.end - length g.entries + i))
  unfolding Window content_of address_at value_at
  entry-there g rest w i h =
      let n : ℕ = length g.entries in
      let k = stands z.words z.slots w.history here in
      let a : ℕ = g.end - n + i in
      let pos : 0 < z.slots = omega (arith, s.sizes.slots-low) in
      let below : a < length t.hist = omega (arith, k.below, k.late) in
      let x = w.window a (omega (arith, newest-end z.words z.slots w.history, k.ok.few, k.late, s.sizes.slots-low)) below in
      ap (slot_at z.words (log_of z L m.cache)) (circular-abs z.slots pos (g.end - n) i (omega (arith, k.ok.few, s.sizes.slots-low)))
      ∙ exact-reads z.words z.slots s.sizes.words-high pos (at t.hist) (length t.hist)
      (hist-fits z.words z.slots w.history) (log_of z L m.cache) a below x.address x.value
      ∙ ap (content_of (wrap_of z.slots a)) (newest-entry z.words z.slots w.history i h)

  -- so, where they are the old values of some writes, these are what Validate compares with
  pub lane-entries : (x : Logged) (h : HeldSeq z.slots x t.gs) (ws : List Write) → h.seq.entries ≡ olds_of ws
      → Entries z.words z.slots (log_of z L m.cache) x.first ws
  lane-entries x h ws e =
      let g = h.seq in
      let w : Written z (base_of m.cache) m.state.clock (log_of z L m.cache) t.hist (g ∷ h.rest) = rw h.newest at l.now in
      let pos : 0 < z.slots = omega (arith, s.sizes.slots-low) in
      let n : length g.entries ≡ length ws = ap length e ∙ length-olds ws in
      let few = (stands z.words z.slots w.history here).ok.few in
      rw h.first
      (entries_from z.words z.slots (log_of z L m.cache) ((g.end - length g.entries) % z.slots) ws
      (mod-lt (g.end - length g.entries) pos) (omega (arith, few, n, s.sizes.slots-low))
      (λ i k.
      let o = olds-at ws i k in
      let f = entry-there g h.rest w i (omega (arith, n)) in (
        wrap_of z.slots (g.end - length g.entries + i),
        f ∙ ap (λ es. Entry (get_or es i no_old).word (get_or es i no_old).old (wrap_of z.slots (g.end - length g.entries + i))) e ∙ rw (o.0, o.1),
      )))

  -- ---- refusal 9
  -- a whole sequence at or above the lower bound has room for n slots more, and stays whole while writes and their timestamp take them
  pub lane-room : (n b : ℕ) → would_hit z L n m ≡ false → bound_of z (drained z L m).state ≡ Some b
      → {g : Seq} → In g t.gs → Whole z.slots t.hist g → b ≤ g.stamp → RoomFor z.slots n t.hist g
  unfolding would_hit hits complete_in
  lane-room n b e f i w k =
      written-room z s.sizes (base_of m.cache) m.state.clock (log_of z L m.cache) L l.now n b (rw (f, next-slot z L m t s l) at e) i w k

  pub lane-stays-whole : (ws : List Write) (b c : ℕ)
      → would_hit z L (length ws + 1) m ≡ false → bound_of z (drained z L m).state ≡ Some b → {g : Seq} → In g t.gs
      → Whole z.slots t.hist g → b ≤ g.stamp → Whole z.slots (t.hist ++ past_of (olds_of ws) c) g
  lane-stays-whole ws b c e f i w k =
      omega (arith, lane-room (length ws + 1) b e f i w k, length-new t.hist (olds_of ws) c, length-olds ws)
