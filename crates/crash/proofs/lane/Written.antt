-- A log as a history of sequences wrote it: its window, timestamps that do not rise from the newest on, above the base and not above the clock. Kept by
-- an append and by a commit; the newest sequence is whole in the window by its position, so the latest that is found has its timestamp and kind.
-- Assumes nothing.
use Rattle.std.specs.Prelude.{Option, Some, None}
use mathlib.Core.Path.{◌≡◌, refl, ap, ◌∙◌, sym, subst}
use mathlib.Core.Bool.{false}
use mathlib.Core.List.{List, [], ◌∷◌, ◌++◌}
use Prim.Native.Nat.{ℕ, ◌+◌, ◌*◌, ◌%◌, ◌≤◌, ◌<◌}
use native.Mathlib.Omega.{arith}
use native.Mathlib.Nat.{le_trans, le_refl}
use lib.ListN.{length, get_or, set, replicate}
use Rattle.laws.specs.inner.Lists.{All, none, more, All-map, All-rest}
use Rattle.txn.specs.Txn.{max_writes}
use Rattle.txn.specs.declared.Write.{Write}
use Rattle.image.specs.Image.{former_length, log_start, log_of}
use Rattle.image.specs.inner.ImageLaws.{InRange}
use Rattle.image.specs.Stores.{stored}
use Rattle.image.specs.declared.Sizes.{Sizes}
use Rattle.lane_log.specs.Log.{Complete, sequence_of, complete_below, ordered, first_of, latest, hits_from}
use Rattle.lane_log.specs.inner.LatestLaws.{latest-greatest, latest-none}
use Rattle.lane_log.specs.Append.{append_stores, restamp_store}
use Rattle.lane_log.specs.declared.Sequence.{Sequence}
use Rattle.crash.specs.History.{Newest, unset, closing_at}
use Rattle.laws.specs.inner.Members.{In, here, there, In-All}
use Rattle.crash.proofs.recovery.Data.{olds_of, length-olds}
use Rattle.crash.proofs.lane.Absolute.{wrap_of, cursor_at}
use Rattle.crash.proofs.lane.Ghost.{Past, blank, sta}
use Rattle.crash.proofs.lane.Window.{Window, window-start}
use Rattle.crash.proofs.lane.Seqs.{Seq, Hist, start, add, next, restamped, past_of, stands, newest-end, seal}
use Rattle.crash.proofs.lane.Append.{window-append}
use Rattle.crash.proofs.lane.Restamp.{window-restamp}
use Rattle.crash.proofs.lane.Room.{not-hit, none-hit}
use Rattle.crash.proofs.lane.Shown.{Shown, shown-window, Listed, shown-found, shown-there}
use Rattle.crash.proofs.lane.Newest.{newest_by, newest_of, closing-by}

-- an earlier sequence f and a timestamp s over n entries: f is below it, or has it too and both close entries
pub data Under (n s : ℕ) (f : Seq) : Type 0 where
  below : f.stamp < s → Under n s f
  level : f.stamp ≡ s → 0 < length f.entries → 0 < n → Under n s f

-- by falling timestamp, where the sequences that close entries may share one
pub data Falls : List Seq → Type 0 where
  bottom : Falls []
  onto : {g : Seq} {gs : List Seq} → All (Under (length g.entries) g.stamp) gs → Falls gs → Falls (g ∷ gs)

-- one that is not below the first has its timestamp and kind
pub falls-kind : {g : Seq} {gs : List Seq} (f : Seq) → Falls (g ∷ gs) → In f (g ∷ gs) → g.stamp ≤ f.stamp
    → newest_by (length f.entries) f.stamp ≡ newest_by (length g.entries) g.stamp
falls-kind f h here l = refl
falls-kind {g} f (onto a h) (there i) l = go (In-All a i)
  where
    go : Under (length g.entries) g.stamp f → newest_by (length f.entries) f.stamp ≡ newest_by (length g.entries) g.stamp
    go (below b) = absurd (omega arith)
    go (level e p q) =
        closing-by (length f.entries) f.stamp p ∙ ap closing_at e ∙ sym (closing-by (length g.entries) g.stamp q)

-- the timestamp of the newest sequence
unfoldable pub newest_in : List Seq → Newest
newest_in [] = unset
newest_in (g ∷ gs) = newest_by (length g.entries) g.stamp

-- a sequence whose slots are all in the window of a history
abbrev pub Whole : ℕ → List Past → Seq → Type 0
Whole N h g = length h + length g.entries ≤ g.end + N

-- and that stay there while n slots more are written
abbrev pub RoomFor : (N n : ℕ) → List Past → Seq → Type 0
RoomFor N n h g = length h + n + length g.entries ≤ g.end + N

pub room_whole : (N n : ℕ) (h : List Past) (g : Seq) → RoomFor N n h g → Whole N h g
room_whole N n h g r = omega arith

pub whole_room : (N : ℕ) (h : List Past) (g : Seq) → Whole N h g → RoomFor N 0 h g
whole_room N h g w = omega arith

-- a sequence as it is found in lane L
abbrev pub found_as : (N L : ℕ) → Seq → Complete
found_as N L g = record { stamp = g.stamp; lane = L; slot = g.end % N; wrap = wrap_of N g.end; entries = g.entries }

pub record Written (z : Sizes) (base clock : ℕ) (log : List ℕ) (h : List Past) (gs : List Seq) : Type 0 where
  pub history : Hist z.words z.slots h gs
  pub window : Window z.slots h log
  pub falls : Falls gs
  pub above : All (λ g. base < g.stamp) gs
  pub upto : All (λ g. g.stamp ≤ clock) gs

-- ---- a start: a log of zeros
pub written_start : (z : Sizes) (base clock : ℕ) (log : List ℕ) → InRange z → ((j : ℕ) → j < 2 * z.slots → get_or log j 0 ≡ 0)
    → Written z base clock log (replicate z.slots blank) []
written_start z base clock log r zero =
    record { history = start; window = window-start z.slots log (omega arith) zero; falls = bottom; above = none; upto = none }

-- ---- the clock goes on
later-stamps : (a b : ℕ) {gs : List Seq} → a ≤ b → All (λ g. g.stamp ≤ a) gs → All (λ g. g.stamp ≤ b) gs
later-stamps a b l h = All-map (λ g k. le_trans k l) h

pub written-later : (z : Sizes) (base a b : ℕ) {log : List ℕ} {h : List Past} {gs : List Seq} → a ≤ b → Written z base a log h gs → Written z base b log h gs
written-later z base a b l w =
    record { history = w.history; window = w.window; falls = w.falls; above = w.above; upto = later-stamps a b l w.upto }

-- and the next timestamp is above all
pub below_new : (a : ℕ) {gs : List Seq} → All (λ g. g.stamp ≤ a) gs → All (λ g. g.stamp < a + 2) gs
below_new a h = All-map (λ g k. omega arith) h

under-new : (n a : ℕ) {gs : List Seq} → All (λ g. g.stamp ≤ a) gs → All (Under n (a + 2)) gs
under-new n a h = All-map (λ g k. below (omega arith)) h

-- a timestamp s that a lane of these sequences can give n entries, while the clock goes on to c
pub record Stamping (base clock : ℕ) (gs : List Seq) (n s c : ℕ) : Type 0 where
  pub even : s % 2 ≡ 0
  pub above : base < s
  pub upto : s ≤ c
  pub later : clock ≤ c
  pub under : All (Under n s) gs

-- the next one
pub stamping-next : (base clock n : ℕ) {gs : List Seq} → base ≤ clock → clock % 2 ≡ 0 → All (λ g. g.stamp ≤ clock) gs
    → Stamping base clock gs n (clock + 2) (clock + 2)
stamping-next base clock n low even h =
    record { even = omega arith; above = omega arith; upto = le_refl (clock + 2); later = omega arith; under = under-new n clock h }

rest-falls : {g : Seq} {gs : List Seq} → Falls (g ∷ gs) → Falls gs
rest-falls (onto a f) = f

-- ---- an append and a commit, in an image
module _ (z : Sizes) (r : InRange z) (L : ℕ) (lane : L < z.lanes) (base clock : ℕ) (low : base ≤ clock)
    (even : clock % 2 ≡ 0) (image : List ℕ) (len : former_length z ≤ length image) where
  low-olds : (ws : List Write) → All (λ w. w.word < z.words) ws → All (λ e. e.word < z.words) (olds_of ws)
  unfolding olds_of
  low-olds [] none = none
  low-olds (w ∷ ws) (more p h) = more p (low-olds ws h)

  pub written-append : (ws : List Write) → length ws ≤ max_writes → All (λ w. w.word < z.words) ws → (s c : ℕ) → {h : List Past} {gs : List Seq}
      → Stamping base clock gs (length (olds_of ws)) s c → Written z base clock (log_of z L image) h gs
      → Written z base c (log_of z L (stored (append_stores (log_start z L) z.slots s (cursor_at z.slots (length h)) ws) image))
      (h ++ past_of (olds_of ws) s) (next h (olds_of ws) s ∷ gs)
  written-append ws few small s c {h} {gs} t w =
      record {
        history = add w.history (olds_of ws) s (record { few = omega (arith, length-olds ws); low = low-olds ws small; even = t.even });
        window = window-append z L lane (omega arith) s ws h image len w.window;
        falls = onto t.under w.falls;
        above = more t.above w.above;
        upto = more t.upto (later-stamps clock c t.later w.upto);
      }

  pub written-commit : {h : List Past} {g : Seq} {gs : List Seq} → Written z base clock (log_of z L image) h (g ∷ gs)
      → Written z base (clock + 2)
      (log_of z L (set image (restamp_store (log_start z L) (g.end % z.slots) (clock + 2) image).at
      (restamp_store (log_start z L) (g.end % z.slots) (clock + 2) image).value))
      (set h g.end (sta (length g.entries) (clock + 2))) (restamped (clock + 2) g ∷ gs)
  written-commit {h} {g} {gs} w =
      let s = stands z.words z.slots w.history here in
      record {
        history = seal z.words z.slots (clock + 2) (omega arith) w.history;
        window = window-restamp z L lane (omega arith) h g.end (length g.entries) g.stamp (clock + 2) s.closes s.ok.even s.below
            (omega (arith, newest-end z.words z.slots w.history)) image len w.window;
        falls = onto (under-new (length g.entries) clock (All-rest w.upto)) (rest-falls w.falls);
        above = more (let b : base < clock + 2 = omega arith in b) (All-rest w.above);
        upto = more (let b : clock + 2 ≤ clock + 2 = omega arith in b) (later-stamps clock (clock + 2) (omega arith) (All-rest w.upto));
      }

-- ---- what is found
-- of nothing there is no latest
pub latest-unset : newest_of (latest []) ≡ unset
unfolding newest_of latest first_of ordered
latest-unset = refl

module _ (z : Sizes) (r : InRange z) (log : List ℕ) (h : List Past) (base L : ℕ) where
  abbrev qs : List Complete
  qs = complete_below z.words z.slots base log L z.slots

  -- without sequences nothing is found
  pub shown-nothing : {u : ℕ} → Shown z log h [] u → qs ≡ []
  shown-nothing s = go qs (shown-found z r.words-high r.slots-low s base L)
    where
      go : (qs : List Complete) → All (Listed z.slots []) qs → qs ≡ []
      go [] none = refl
      go (q ∷ qs) (more k h) = absurd (elim k.among [ ])

  -- where the newest sequence stands settled and whole, the latest has its timestamp and kind
  pub shown-latest : {g : Seq} {gs : List Seq} {u : ℕ} → Shown z log h (g ∷ gs) u → Falls (g ∷ gs) → Whole z.slots h g → g.end < u → base < g.stamp
      → newest_of (latest qs) ≡ newest_in (g ∷ gs)
  unfolding newest_in newest_of sequence_of
  shown-latest {g} {gs} s f whole set new = go (latest qs) refl (shown-there z r.words-high r.slots-low s base L g here whole set new)
    where
      known : All (Listed z.slots (g ∷ gs)) qs
      known = shown-found z r.words-high r.slots-low s base L

      go : (l : Option Sequence) → latest qs ≡ l → In (found_as z.slots L g) qs → newest_of (latest qs) ≡ newest_by (length g.entries) g.stamp
      go None e i = absurd (let n : qs ≡ [] = latest-none qs e in elim (subst (In (found_as z.slots L g)) n i) [ ])
      go (Some q) e i =
          let t = latest-greatest qs q e in
          let k = In-All known t.found in
          ap newest_of (e ∙ ap Some (sym t.is))
          ∙ falls-kind (record { entries = t.by.entries; stamp = t.by.stamp; end = k.end }) f k.among
          (let b : g.stamp ≤ t.by.stamp = rw (sym (ap (λ (s : Sequence). s.stamp) t.is)) at (t.above i) in b)

-- by its position: it ends the history, and the window is longer than a sequence
pub newest-whole : (z : Sizes) → InRange z → {h : List Past} {g : Seq} {gs : List Seq} → Hist z.words z.slots h (g ∷ gs) → Whole z.slots h g
newest-whole z r H = omega (arith, newest-end z.words z.slots H, (stands z.words z.slots H here).ok.few)

module _ (z : Sizes) (r : InRange z) (base clock : ℕ) (log : List ℕ) (L : ℕ) where
  pub written-there : {h : List Past} {g : Seq} {gs : List Seq} → Written z base clock log h gs → In g gs → Whole z.slots h g
      → In (found_as z.slots L g) (complete_below z.words z.slots base log L z.slots)
  written-there {g = g} w i whole =
      shown-there z r.words-high r.slots-low (shown-window z w.history w.window) base L g i whole
      (stands z.words z.slots w.history i).below (In-All w.above i)

  pub written-latest : {h : List Past} {gs : List Seq} → Written z base clock log h gs
      → newest_of (latest (complete_below z.words z.slots base log L z.slots)) ≡ newest_in gs
  unfolding newest_in
  written-latest {h = h} {gs = []} w = ap (λ q. newest_of (latest q)) (shown-nothing z r log h base L (shown-window z w.history w.window)) ∙ latest-unset
  written-latest {h = h} {gs = g ∷ gs} w =
      shown-latest z r log h base L (shown-window z w.history w.window) w.falls (newest-whole z r w.history)
      (stands z.words z.slots w.history here).below (In-All w.above here)

  -- refusal 9: a whole sequence at or above b that n slots more do not hit stays whole
  pub written-room : {h : List Past} {g : Seq} {gs : List Seq} → Written z base clock log h gs → (n b : ℕ)
      → hits_from z.slots (length h % z.slots) n b (complete_below z.words z.slots base log L z.slots) ≡ false
      → In g gs → Whole z.slots h g → b ≤ g.stamp → RoomFor z.slots n h g
  written-room {h} {g} w n b e i whole l =
      let s = stands z.words z.slots w.history i in
      let k : ℕ = length g.entries in
      let o = In-All (none-hit z.slots (length h % z.slots) n b _ e) (written-there w i whole) l in
      let t = not-hit z.slots (length h) g.end n (omega arith) (omega (arith, s.late))
      s.below k (omega (arith, s.ok.few)) (omega (arith, s.late)) o k (omega arith) in
      omega (arith, s.late)
