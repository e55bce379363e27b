-- What a log that shows a history gives recovery: all that is found is of the history's sequences, and a sequence that stands whole in the window and
-- settled is found. Assumes nothing.
use mathlib.Core.Path.{◌≡◌, ap, subst}
use mathlib.Core.List.{List}
use Prim.Native.Nat.{ℕ, ◌+◌, ◌%◌, ◌≤◌, ◌<◌}
use native.Mathlib.Omega.{arith}
use native.Mathlib.Nat.{mod-lt}
use lib.Dec.{ltb}
use lib.ListN.{length}
use borrow.Author.Tests.{ltb-true, ltb-false}
use Rattle.laws.specs.inner.Tests.{split}
use Rattle.laws.specs.inner.Lists.{All, All-map}
use Rattle.slot.specs.Slot.{max_entries}
use Rattle.image.specs.Image.{max_words, min_slots}
use Rattle.image.specs.declared.Sizes.{Sizes}
use Rattle.lane_log.specs.Log.{Complete, slot_at, complete_below}
use Rattle.laws.specs.inner.Members.{In}
use Rattle.crash.proofs.lane.Absolute.{wrap_of}
use Rattle.crash.proofs.lane.Ghost.{Past, sta, content_of, exact-reads, address_at, value_at}
use Rattle.crash.proofs.lane.Found.{Genuine, found}
use Rattle.crash.proofs.lane.Room.{is_found}
use Rattle.crash.proofs.lane.Window.{Window, at}
use Rattle.crash.proofs.lane.Seqs.{Seq, Hist, hist-big, early, hist-fits, lookup, stands}
use Rattle.crash.proofs.lane.View.{Visible, visible-exact}

-- a log shows a history h of the sequences gs, and below number u word for word
pub record Shown (z : Sizes) (log : List ℕ) (h : List Past) (gs : List Seq) (u : ℕ) : Type 0 where
  pub history : Hist z.words z.slots h gs
  pub shows : Visible z.slots h u log

-- a window shows its history, and all of it word for word
pub shown-window : (z : Sizes) {log : List ℕ} {h : List Past} {gs : List Seq} → Hist z.words z.slots h gs → Window z.slots h log → Shown z log h gs (length h)
unfolding Window
shown-window z {log} {h} H w = record { history = H; shows = visible-exact z.slots h (length h) log w }

-- a found sequence is one of the history
pub record Listed (N : ℕ) (gs : List Seq) (q : Complete) : Type 0 where
  pub end : ℕ
  pub among : In (record { entries = q.entries; stamp = q.stamp; end = end }) gs
  pub slot : end % N ≡ q.slot
  pub wrap : wrap_of N end ≡ q.wrap

module _ (z : Sizes) (low : z.words ≤ max_words) (large : min_slots ≤ z.slots)
    {log : List ℕ} {h : List Past} {gs : List Seq} {u : ℕ} (s : Shown z log h gs u) where
  count : (b k t : ℕ) → b < length h → at h b ≡ sta k t → k ≤ b
  count b k t l e =
      let f : (k ≤ max_entries) × (t % 2 ≡ 0) = rw e at (hist-fits z.words z.slots s.history b l) in
      split (ltb b z.slots)
      (λ q. absurd (let p = early z.words z.slots s.history b (ltb-true b z.slots q) in let c : ◌≡◌ {A = ℕ} 0 1 = cc in omega arith))
      (λ q. omega (arith, ltb-false b z.slots q))

  module _ (base L : ℕ) where
    pub shown-found : All (Listed z.slots gs) (complete_below z.words z.slots base log L z.slots)
    shown-found =
        All-map one
        (found z.words z.slots low large (at h) (length h) (hist-big z.words z.slots s.history)
        (hist-fits z.words z.slots s.history) (early z.words z.slots s.history) log
        s.shows.held base L z.slots (omega arith))
      where
        one : (q : Complete) → Genuine z.slots (at h) (length h) q → Listed z.slots gs q
        one q g =
            record {
              end = g.end;
              among = rw g.entries
                  (lookup z.words z.slots s.history g.end g.count q.stamp (count g.end g.count q.stamp g.below g.stamp) g.stamp);
              slot = g.slot;
              wrap = g.wrap;
            }

    -- whole in the window, and settled
    pub shown-there : (g : Seq) → In g gs → length h + length g.entries ≤ g.end + z.slots → g.end < u → base < g.stamp
        → In (record { stamp = g.stamp; lane = L; slot = g.end % z.slots; wrap = wrap_of z.slots g.end; entries = g.entries })
        (complete_below z.words z.slots base log L z.slots)
    unfolding address_at value_at
    shown-there g i whole set new =
        let r = stands z.words z.slots s.history i in
        let k : ℕ = length g.entries in
        let reads : (c : ℕ) → g.end ≤ c + k → c ≤ g.end → slot_at z.words log (c % z.slots) ≡ content_of (wrap_of z.slots c) (at h c)
        = λ c lo hi. let x = s.shows.settled c (omega arith) (omega (arith, r.below)) (omega arith) in
        exact-reads z.words z.slots low (omega arith) (at h) (length h)
        (hist-fits z.words z.slots s.history) log c (omega (arith, r.below)) x.address x.value in
        subst (λ es. In (record { stamp = g.stamp; lane = L; slot = g.end % z.slots; wrap = wrap_of z.slots g.end; entries = es })
        (complete_below z.words z.slots base log L z.slots))
        r.entries
        (is_found z.words z.slots (omega arith) (at h) log g.end (omega (arith, r.late)) base L k
        g.stamp (omega (arith, r.ok.few)) reads r.closes (ap length r.entries) new
        z.slots (mod-lt g.end (omega arith)))
