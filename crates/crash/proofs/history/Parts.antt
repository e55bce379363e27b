-- The parts of a long transaction: the pairs beside the record are those of its writes, a part's pairs make a part's writes, and the cached words are
-- those after the parts that are written. Assumes nothing.
use Rattle.std.specs.Prelude.{Some, Option}
use mathlib.Core.Path.{◌≡◌, refl, ap, ◌∙◌, sym}
use mathlib.Core.List.{List, [], ◌∷◌}
use Prim.Native.Nat.{ℕ, zero, suc, ◌+◌, ◌-◌, ◌*◌, ◌≤◌, ◌<◌, min}
use native.Mathlib.Omega.{arith}
use lib.ListN.{length, set, take, drop, length-take, length-drop}
use lib.Seq.{take-add}
use Rattle.laws.specs.inner.Lists.{All, none as nil, more, All-take}
use Rattle.txn.specs.Txn.{max_writes, max_long, current, run, applied}
use Rattle.txn.specs.inner.TxnLaws.{Chain, chain-nil, chain-cons, run-chain, run-low, applied-append}
use Rattle.txn.specs.declared.Write.{Write}
use Rattle.image.specs.Image.{data_of}
use Rattle.image.specs.declared.Sizes.{Sizes}
use Rattle.record.specs.Record.{pair_at, pairs_from, part_length, pairs_of, words_of_pairs}
use Rattle.record.specs.inner.RecordLaws.{record-in, pairs-cut}
use Rattle.record.specs.declared.Pair.{Pair}
use Rattle.record.specs.declared.Locked.{Locked}
use Rattle.store.specs.Machine.{Machine}
use Rattle.store.specs.Locks.{part_of, pair_writes}
use Rattle.crash.specs.History.{Holder, History, present, written, visible}
use Rattle.crash.proofs.history.Ranges.{HeldRange, held-range, held-ok}
use Rattle.crash.proofs.history.Agree.{all_writes, holder_of, Book}

-- ---- pairs as words
pair-on : (a b : ℕ) (l : List ℕ) (i : ℕ) → pair_at (a ∷ b ∷ l) (suc i) ≡ pair_at l i
unfolding pair_at
pair-on a b l i =
    let e : 2 * suc i ≡ suc (suc (2 * i)) = omega arith in
    let f : suc (suc (2 * i)) + 1 ≡ suc (suc (2 * i + 1)) = omega arith in
    rw (e, f)

from_on : (a b : ℕ) (l : List ℕ) (i n : ℕ) → pairs_from (a ∷ b ∷ l) (suc i) n ≡ pairs_from l i n
unfolding pairs_from
from_on a b l i zero = refl
from_on a b l i (suc n) = rw (pair-on a b l i, from_on a b l (suc i) n)

pub pairs-from : (ps : List Pair) (i n : ℕ) → i + n ≤ length ps → pairs_from (words_of_pairs ps) i n ≡ take n (drop i ps)
unfolding pairs_from words_of_pairs pair_at
pairs-from ps i zero h = refl
pairs-from [] i (suc n) h = absurd (omega arith)
pairs-from (p ∷ ps) zero (suc n) h =
    ap (λ (l : List Pair). p ∷ l) (from_on p.word p.value (words_of_pairs ps) 0 n ∙ pairs-from ps 0 n (omega arith))
pairs-from (p ∷ ps) (suc i) (suc n) h =
    from_on p.word p.value (words_of_pairs ps) i (suc n) ∙ pairs-from ps i (suc n) (let k : i + suc n ≤ length ps = omega arith in k)

pub length_pairs : (n : ℕ) (ws : List Write) → length (pairs_of n ws) ≡ n
unfolding pairs_of
length_pairs zero ws = refl
length_pairs (suc n) [] = ap suc (length_pairs n [])
length_pairs (suc n) (w ∷ ws) = ap suc (length_pairs n ws)

pub length-words : (ps : List Pair) → length (words_of_pairs ps) ≡ 2 * length ps
unfolding words_of_pairs
length-words [] = refl
length-words (p ∷ ps) = let e = length-words ps in omega arith

pairs-drop : (i n : ℕ) (ws : List Write) → drop i (pairs_of (i + n) ws) ≡ pairs_of n (drop i ws)
unfolding pairs_of
pairs-drop zero n ws = ap (λ (k : ℕ). pairs_of k ws) (let e : 0 + n ≡ n = omega arith in e)
pairs-drop (suc i) n [] =
    let e : suc i + n ≡ suc (i + n) = omega arith in
    ap (λ (k : ℕ). drop (suc i) (pairs_of k [])) e ∙ pairs-drop i n [] ∙ ap (pairs_of n) (drop-none i)
  where
    drop-none : (i : ℕ) → ◌≡◌ {A = List Write} (drop i []) []
    drop-none zero = refl
    drop-none (suc i) = refl
pairs-drop (suc i) n (w ∷ ws) =
    let e : suc i + n ≡ suc (i + n) = omega arith in
    ap (λ (k : ℕ). drop (suc i) (pairs_of k (w ∷ ws))) e ∙ pairs-drop i n ws

pairs_first : (n : ℕ) (ws : List Write) → pairs_of n (take n ws) ≡ pairs_of n ws
unfolding pairs_of
pairs_first zero ws = refl
pairs_first (suc n) [] = refl
pairs_first (suc n) (w ∷ ws) = ap (λ (l : List Pair). record { word = w.word; value = w.new } ∷ l) (pairs_first n ws)

-- n pairs from pair i on, of those of a list of writes
pub pairs-part : (most : ℕ) (ws : List Write) (i n : ℕ) → i + n ≤ most
    → pairs_from (words_of_pairs (pairs_of most ws)) i n ≡ pairs_of n (take n (drop i ws))
pairs-part most ws i n h =
    let e : most ≡ i + (most - i) = omega arith in
    pairs-from (pairs_of most ws) i n (omega (arith, length_pairs most ws))
    ∙ ap (λ (k : ℕ). take n (drop i (pairs_of k ws))) e
    ∙ ap (take n) (pairs-drop i (most - i) ws)
    ∙ pairs-cut n (most - i) (drop i ws) (omega arith)
    ∙ sym (pairs_first n (drop i ws))

-- ---- writes
chain-take : (n : ℕ) {ws : List ℕ} {l : List Write} → Chain ws l → Chain ws (take n l)
chain-take zero c = chain-nil
chain-take (suc n) chain-nil = chain-nil
chain-take (suc n) (chain-cons e c) = chain-cons e (chain-take n c)

chain-drop : (i : ℕ) {ws : List ℕ} {l : List Write} → Chain ws l → Chain (applied (take i l) ws) (drop i l)
unfolding applied
chain-drop zero c = c
chain-drop (suc i) chain-nil = chain-nil
chain-drop (suc i) (chain-cons e c) = chain-drop i c

All-drop : {P : Write → Type 0} (i : ℕ) {l : List Write} → All P l → All P (drop i l)
All-drop zero a = a
All-drop (suc i) nil = nil
All-drop (suc i) (more h hs) = All-drop i hs

-- the pairs of writes make these writes
pub pair-writes : {ws : List ℕ} {l : List Write} → Chain ws l → pair_writes (pairs_of (length l) l) ws ≡ l
unfolding pair_writes pairs_of
pair-writes chain-nil = refl
pair-writes (chain-cons {ws = ws} {w = w} {l = l} e c) =
    ap (λ (v : ℕ). record { word = w.word; old = v; new = w.new } ∷ pair_writes (pairs_of (length l) l) (set ws w.word w.new)) (sym e)
    ∙ ap (λ (t : List Write). w ∷ t) (pair-writes c)

-- ---- the present part of a list of writes
unfoldable pub part_from : Locked → List Write → List Write
part_from k ws = take (part_length k) (drop k.written ws)

pub part-length : (k : Locked) (ws : List Write) → k.count ≡ length ws → length (part_from k ws) ≡ part_length k
unfolding part_from part_length
part-length k ws e = length-take (min max_writes (k.count - k.written)) (drop k.written ws) ∙ omega (arith, length-drop k.written ws)

pub part-some : (k : Locked) → k.written < k.count → 0 < part_length k
unfolding part_length
part-some k h = omega arith

pub part-within : (k : Locked) → k.written < k.count → k.written + part_length k ≤ k.count
unfolding part_length
part-within k h = omega arith

pub visible-held : (z : Sizes) (h : History) (k : Locked) (f : List ℕ) → h.lock ≡ Some (holder_of k f) → k.count ≡ length (all_writes z f h)
    → k.written ≤ k.count → visible z h ≡ applied (take k.written (all_writes z f h)) (present z h)
unfolding visible written holder_of all_writes
visible-held z h k f e c l =
    ap (λ (y : Option Holder). written z y (present z h)) e
    ∙ ap (λ (n : ℕ). applied (take n (run z.words f (present z h))) (present z h))
    (let d : length (run z.words f (present z h)) - (k.count - k.written) ≡ k.written = omega arith in d)

-- ---- of a store whose lock is held
module _ (z : Sizes) (base : ℕ) (h : History) (m : Machine) (b : Book z base h m) (k : Locked) (e : m.state.lock ≡ Some k) where
  pub in-range : HeldRange z m.state m.pairs k
  in-range =
      held-range z m.state m.pairs k
      (sym (held-ok z m.state m.pairs m.state.lock k e) ∙ (record-in z m.state m.pairs b.fields).lock)

  abbrev pub its_writes : List Write
  its_writes = all_writes z (b.locking k e).txn h

  pub writes-low : All (λ w. w.word < z.words) its_writes
  unfolding all_writes
  writes-low = run-low current max_long z.words (b.locking k e).txn (present z h) (b.locking k e).ok

  pub writes-chain : Chain (present z h) its_writes
  unfolding all_writes
  writes-chain = run-chain z.words (b.locking k e).txn (present z h)

  pub part_count : length (part_from k its_writes) ≡ part_length k
  part_count = part-length k its_writes (b.locking k e).count

  pub part_low : All (λ w. w.word < z.words) (part_from k its_writes)
  unfolding part_from
  part_low = All-take (part_length k) (All-drop k.written writes-low)

  -- the pairs of the present part
  pub part-pairs : part_of k m.pairs ≡ pairs_of (length (part_from k its_writes)) (part_from k its_writes)
  unfolding part_of part_from
  part-pairs =
      ap (λ (ps : List ℕ). pairs_from ps k.written (part_length k)) (b.locking k e).pairs
      ∙ pairs-part max_long its_writes k.written (part_length k) (omega (arith, part-within k in-range.left, in-range.count))
      ∙ ap (λ (n : ℕ). pairs_of n (take (part_length k) (drop k.written its_writes))) (sym part_count)

  -- the cached words have the parts that are written
  pub words-held : data_of z m.cache ≡ applied (take k.written its_writes) (present z h)
  words-held =
      let v = b.locking k e in
      b.live.words ∙ visible-held z h k v.txn v.holder v.count (let l = in-range.left in omega arith)

  -- the present part is what its pairs write now
  pub part-writes : pair_writes (part_of k m.pairs) (data_of z m.cache) ≡ part_from k its_writes
  unfolding part_from
  part-writes =
      ap (λ (ps : List Pair). pair_writes ps (data_of z m.cache)) part-pairs
      ∙ ap (pair_writes (pairs_of (length (part_from k its_writes)) (part_from k its_writes))) words-held
      ∙ pair-writes (chain-take (part_length k) (chain-drop k.written writes-chain))

  -- and the words with it
  pub words-next : applied (part_from k its_writes) (data_of z m.cache) ≡ applied (take (k.written + part_length k) its_writes) (present z h)
  unfolding part_from
  words-next =
      ap (applied (take (part_length k) (drop k.written its_writes))) words-held
      ∙ sym (applied-append (take k.written its_writes) (take (part_length k) (drop k.written its_writes)) (present z h))
      ∙ ap (λ (l : List Write). applied l (present z h)) (sym (take-add k.written (part_length k) its_writes))
