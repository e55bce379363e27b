-- Inner: how the code goes, need not be believed. Laws of a locked transaction's pairs: a law for each turn of the loops that put them, look back over
-- them and copy a part; a part's writes. Assumes nothing.
use Prim.Native.Nat.{ℕ, zero, suc, ◌+◌, ◌-◌, ◌*◌, ◌≤◌, ◌<◌}
use Rattle.std.specs.Prelude.{◌≡◌, refl, true, cond, eqb, ltb, take, drop, reverse, replicate, Option, MatchOption}
use Rattle.std.specs.List.{find}
use Rattle.std.specs.Simd.{first_chunks}
use Rattle.std.proofs.Common.{sym, ◌∙◌, add-one, le_of_suc-le-suc, length-set, take-suc-set, get_or-take, get_or-drop, length-take-le, eq-eqb, ne_eqb, lt-ltb, ltb-true}
use Rattle.std.proofs.Math.Path.{ap}
use mathlib.Core.List.{List, [], ◌∷◌, ◌++◌}
use native.Mathlib.Omega.{arith}
use Rattle.std.proofs.Math.ListN.{length, get_or, set}
use Rattle.std.proofs.lemmas.List.{reverse-reverse}
use Rattle.std.proofs.lemmas.Grind.{reverse_onto}
use Rattle.std.proofs.Math.Seq.{take-suc}
use Rattle.laws.specs.inner.Tests.{split, and_left, and_right, and_both}
use Rattle.laws.specs.inner.Lists.{none, more, get_d_set}
use Rattle.txn.specs.Txn.{max_writes, max_long}
use Rattle.txn.specs.inner.Writes.{no_write, padded}
use Rattle.txn.specs.declared.Write.{Write}
use Rattle.lane_log.specs.inner.AppendEntries.{WordsBelow}
use Rattle.record.specs.Record.{no_pair, lock_length, pair_at, pairs_from, part_length, pairs_ok, pairs_of, words_of_pairs}
use Rattle.record.specs.inner.RecordLaws.{part-most}
use Rattle.record.proofs.Loops.{redo-more}
use Rattle.record.specs.declared.Locked.{Locked}
use Rattle.record.specs.declared.Pair.{Pair}
use Rattle.store.specs.Locks.{pair_writes}
use Rattle.lock.specs.inner.Parts.{pairs_written, value_before, PairsHeld}

-- ---- writes put as pairs
-- the pair of a write
abbrev pub pair_for : Write → Pair
pair_for w = record { word = w.word; value = w.new }

pairs-snoc : (n : ℕ) (l : List Write) → pairs_of (suc n) l ≡ pairs_of n l ++ (pair_for (get_or l n no_write) ∷ [])
unfolding pairs_of
pairs-snoc zero [] = refl
pairs-snoc zero (w ∷ l) = refl
pairs-snoc (suc n) [] = ap (λ (r : List Pair). no_pair ∷ r) (pairs-snoc n [])
pairs-snoc (suc n) (w ∷ l) = ap (λ (r : List Pair). pair_for w ∷ r) (pairs-snoc n l)

words_snoc : (l : List Pair) (p : Pair) → words_of_pairs (l ++ (p ∷ [])) ≡ words_of_pairs l ++ (p.word ∷ []) ++ (p.value ∷ [])
unfolding words_of_pairs
words_snoc [] p = refl
words_snoc (q ∷ l) p = ap (λ (r : List ℕ). q.word ∷ q.value ∷ r) (words_snoc l p)

-- what stands past the writes gives pairs of 0
pub pairs-padded : (n : ℕ) (l : List Write) → pairs_of n (padded n l) ≡ pairs_of n l
unfolding pairs_of padded
pairs-padded zero l = refl
pairs-padded (suc n) [] = ap (λ (r : List Pair). no_pair ∷ r) (pairs-padded n [])
pairs-padded (suc n) (w ∷ l) = ap (λ (r : List Pair). pair_for w ∷ r) (pairs-padded n l)

-- a pair put among pairs' words
words-put : (l : List Pair) (i a b : ℕ) (p : Pair) → a ≡ 2 * i → b ≡ 2 * i + 1 → i < length l
    → set (set (words_of_pairs l) a p.word) b p.value ≡ words_of_pairs (set l i p)
unfolding words_of_pairs
words-put [] i a b p d e h = absurd (omega arith)
words-put (q ∷ l) zero a b p d e h = rw (d, e)
words-put (q ∷ l) (suc i) a b p d e h =
    let d' : a ≡ suc (suc (2 * i)) = omega arith in
    let e' : b ≡ suc (suc (2 * i + 1)) = omega arith in
    rw (d', e') (ap (λ (r : List ℕ). q.word ∷ q.value ∷ r) (words-put l i (2 * i) (2 * i + 1) p refl refl (le_of_suc-le-suc h)))

length_pairs_of : (n : ℕ) (l : List Write) → length (pairs_of n l) ≡ n
unfolding pairs_of
length_pairs_of zero l = refl
length_pairs_of (suc n) [] = ap suc (length_pairs_of n [])
length_pairs_of (suc n) (w ∷ l) = ap suc (length_pairs_of n l)

-- i writes put
abbrev pub Put : List Write → (i : ℕ) → (pairs : List ℕ) → Type 0
Put l i pairs = pairs ≡ words_of_pairs (pairs_of max_long (take i l))

pub put-none : (l : List Write) (pairs : List ℕ) → pairs ≡ replicate lock_length 0 → Put l 0 pairs
unfolding pairs_of words_of_pairs
put-none l pairs e = e

pub put-more : (l : List Write) (i : ℕ) (pairs : List ℕ) → Put l i pairs → i < max_long
    → Put l (i + 1) (set (set pairs (2 * i) (get_or l i no_write).word) (2 * i + 1) (get_or l i no_write).new)
put-more l i pairs e h =
    let w = get_or l i no_write in
    let p : Pair = record { word = w.word; value = w.new } in
    rw e
    (words-put (pairs_of max_long (take i l)) i (2 * i) (2 * i + 1) p refl refl (rw (length_pairs_of max_long (take i l)) h)
    ∙ ap words_of_pairs (redo-more max_long l i))

-- ---- pairs from pair j on
from-snoc : (ps : List ℕ) (j n : ℕ) → pairs_from ps j (suc n) ≡ pairs_from ps j n ++ (pair_at ps (j + n) ∷ [])
unfolding pairs_from
from-snoc ps j zero = let e : j ≡ j + 0 = omega arith in ap (λ (i : ℕ). pair_at ps i ∷ []) e
from-snoc ps j (suc n) =
    let e : suc j + n ≡ j + suc n = omega arith in
    ap (λ (l : List Pair). pair_at ps j ∷ l) (from-snoc ps (suc j) n ∙ ap (λ (i : ℕ). pairs_from ps (suc j) n ++ (pair_at ps i ∷ [])) e)

pub length_pairs : (ps : List ℕ) (j n : ℕ) → length (pairs_from ps j n) ≡ n
unfolding pairs_from
length_pairs ps j zero = refl
length_pairs ps j (suc n) = ap suc (length_pairs ps (suc j) n)

pairs-at : (ps : List ℕ) (j n i : ℕ) → i < n → get_or (pairs_from ps j n) i no_pair ≡ pair_at ps (j + i)
unfolding pairs_from
pairs-at ps j zero i l = absurd (omega arith)
pairs-at ps j (suc n) zero l = let e : j ≡ j + 0 = omega arith in ap (pair_at ps) e
pairs-at ps j (suc n) (suc i) l = let e : suc j + i ≡ j + suc i = omega arith in pairs-at ps (suc j) n i (le_of_suc-le-suc l) ∙ ap (pair_at ps) e

-- they are of words below W just if each is
pub pairs-word : (W : ℕ) (ps : List ℕ) (j n i : ℕ) → pairs_ok W (pairs_from ps j n) ≡ true → i < n → (pair_at ps (j + i)).word < W
unfolding pairs_ok pairs_from
pairs-word W ps j zero i h l = absurd (omega arith)
pairs-word W ps j (suc n) zero h l =
    let e : j + 0 ≡ j = omega arith in
    rw e (ltb-true _ W (and_left (ltb (pair_at ps j).word W) (pairs_ok W (pairs_from ps (suc j) n)) h))
pairs-word W ps j (suc n) (suc i) h l =
    let e : j + suc i ≡ suc j + i = omega arith in
    rw e (pairs-word W ps (suc j) n i (and_right (ltb (pair_at ps j).word W) (pairs_ok W (pairs_from ps (suc j) n)) h) (le_of_suc-le-suc l))

pairs-all : (W : ℕ) (ps : List ℕ) (j n : ℕ) → ((i : ℕ) → i < n → (pair_at ps (j + i)).word < W) → pairs_ok W (pairs_from ps j n) ≡ true
unfolding pairs_ok pairs_from
pairs-all W ps j zero h = refl
pairs-all W ps j (suc n) h =
    let e : j + 0 ≡ j = omega arith in
    and_both (ltb (pair_at ps j).word W) (pairs_ok W (pairs_from ps (suc j) n)) (lt-ltb _ W (rw e at (h 0 (omega arith))))
    (pairs-all W ps (suc j) n (λ i l. let d : j + suc i ≡ suc j + i = omega arith in rw d at (h (suc i) (omega arith))))

-- the present part of a transaction
module _ (W : ℕ) (ps : List ℕ) (k : Locked) (h : PairsHeld W ps k) where
  pub part-inside : k.written + part_length k ≤ max_long
  part-inside = omega (arith, part-most k h.left, h.most)

  pub part-ok : pairs_ok W (pairs_from ps k.written (part_length k)) ≡ true
  part-ok = pairs-all W ps k.written (part_length k)
      (λ i l. let e : 0 + (k.written + i) ≡ k.written + i = omega arith in
      rw e at (pairs-word W ps 0 k.count (k.written + i) h.pairs (omega (arith, part-most k h.left))))

-- ---- a word looked up among n pairs from pair j on
module _ (ps : List ℕ) (j : ℕ) (ws : List ℕ) (word : ℕ) where
  pub value_none : (n : ℕ) → n ≡ 0 → value_before ps j n ws word ≡ get_or ws word 0
  unfolding value_before
  value_none n e = rw e

  module _ (n : ℕ) (h : 0 < n) where
    back : value_before ps j n ws word
        ≡ cond (eqb (get_or ps (2 * (j + (n - 1))) 0) word) (get_or ps (2 * (j + (n - 1)) + 1) 0) (value_before ps j (n - 1) ws word)
    unfolding value_before pair_at
    back = let e : n ≡ suc (n - 1) = omega arith in ap (λ (m : ℕ). value_before ps j m ws word) e

    pub value_found : get_or ps (2 * (j + (n - 1))) 0 ≡ word → value_before ps j n ws word ≡ get_or ps (2 * (j + (n - 1)) + 1) 0
    value_found e = back ∙ rw (eq-eqb _ _ e)

    pub value-other : (get_or ps (2 * (j + (n - 1))) 0 ≡ word → ⊥) → value_before ps j n ws word ≡ value_before ps j (n - 1) ws word
    value-other e = back ∙ rw (ne_eqb _ _ e)

-- ---- pairs written
written-snoc : (l : List Pair) (p : Pair) (ws : List ℕ) → pairs_written (l ++ (p ∷ [])) ws ≡ set (pairs_written l ws) p.word p.value
unfolding pairs_written
written-snoc [] p ws = refl
written-snoc (q ∷ l) p ws = written-snoc l p (set ws q.word q.value)

length-written : (l : List Pair) (ws : List ℕ) → length (pairs_written l ws) ≡ length ws
unfolding pairs_written
length-written [] ws = refl
length-written (q ∷ l) ws = length-written l (set ws q.word q.value) ∙ length-set ws q.word q.value

-- looking back gives the words' values then
value_written : (ps : List ℕ) (j n : ℕ) (ws : List ℕ) (word : ℕ) → word < length ws
    → value_before ps j n ws word ≡ get_or (pairs_written (pairs_from ps j n) ws) word 0
unfolding value_before pairs_from pairs_written
value_written ps j zero ws word h = refl
value_written ps j (suc n) ws word h =
    ap (λ (x : ℕ). cond (eqb (pair_at ps (j + n)).word word) (pair_at ps (j + n)).value x) (value_written ps j n ws word h)
    ∙ sym (ap (λ (l : List Pair). get_or (pairs_written l ws) word 0) (from-snoc ps j n)
    ∙ ap (λ (l : List ℕ). get_or l word 0) (written-snoc (pairs_from ps j n) (pair_at ps (j + n)) ws)
    ∙ get_d_set (pairs_written (pairs_from ps j n) ws) (pair_at ps (j + n)).word (pair_at ps (j + n)).value word
    (omega (arith, length-written (pairs_from ps j n) ws)))

-- ---- a part's writes
writes-snoc : (l : List Pair) (p : Pair) (ws : List ℕ)
    → pair_writes (l ++ (p ∷ [])) ws ≡ pair_writes l ws ++ (record { word = p.word; old = get_or (pairs_written l ws) p.word 0; new = p.value } ∷ [])
unfolding pair_writes pairs_written
writes-snoc [] p ws = refl
writes-snoc (q ∷ l) p ws =
    ap (λ (r : List Write). record { word = q.word; old = get_or ws q.word 0; new = q.value } ∷ r) (writes-snoc l p (set ws q.word q.value))

pub length-writes : (l : List Pair) (ws : List ℕ) → length (pair_writes l ws) ≡ length l
unfolding pair_writes
length-writes [] ws = refl
length-writes (q ∷ l) ws = ap suc (length-writes l (set ws q.word q.value))

pub writes-low : (W X : ℕ) (l : List Pair) (ws : List ℕ) → pairs_ok W l ≡ true → W ≤ X → WordsBelow X (pair_writes l ws)
unfolding pair_writes pairs_ok
writes-low W X [] ws h g = none
writes-low W X (q ∷ l) ws h g =
    let e = ltb-true q.word W (and_left (ltb q.word W) (pairs_ok W l) h) in
    more {x = record { word = q.word; old = get_or ws q.word 0; new = q.value }} (omega arith)
    (writes-low W X l (set ws q.word q.value) (and_right (ltb q.word W) (pairs_ok W l) h) g)

-- the list of the first i of them
module _ (ps : List Pair) (ws : List ℕ) where
  pub made_none : [] ≡ pair_writes (take 0 ps) ws
  unfolding pair_writes
  made_none = refl

  pub made_more : (i : ℕ) (l : List Write) (old : ℕ) → l ≡ pair_writes (take i ps) ws → i < length ps
      → old ≡ get_or (pairs_written (take i ps) ws) (get_or ps i no_pair).word 0
      → l ++ (record { word = (get_or ps i no_pair).word; old = old; new = (get_or ps i no_pair).value } ∷ []) ≡ pair_writes (take (i + 1) ps) ws
  made_more i l old e h o =
      rw (o, e) (sym (rw (add-one i, take-suc ps i no_pair h, writes-snoc (take i ps) (get_or ps i no_pair) ws)))

  pub made-few : (i : ℕ) (l : List Write) → l ≡ pair_writes (take i ps) ws → i ≤ length ps → length l ≡ i
  made-few i l e h = ap length e ∙ length-writes (take i ps) ws ∙ length-take-le i ps h

-- each of them is to a word below W
pub word-low : (W : ℕ) (l : List Pair) (i : ℕ) → pairs_ok W l ≡ true → i < length l → (get_or l i no_pair).word < W
unfolding pairs_ok
word-low W [] i h b = absurd (omega arith)
word-low W (q ∷ l) zero h b = ltb-true q.word W (and_left (ltb q.word W) (pairs_ok W l) h)
word-low W (q ∷ l) (suc i) h b = word-low W l i (and_right (ltb q.word W) (pairs_ok W l) h) (le_of_suc-le-suc b)

-- ---- looking back: the word's value after the pairs is that of the last one to it, or the one before them
module _ (ws : List ℕ) (word : ℕ) (h : word < length ws) where
  -- what a search from the last pair on answers
  abbrev Told : List Pair → Option Pair → Type 0
  Told l r = MatchOption r (get_or (pairs_written l ws) word 0 ≡ get_or ws word 0) (λ p. get_or (pairs_written l ws) word 0 ≡ p.value)

  told-put : (l : List Pair) (p : Pair) → get_or (pairs_written (l ++ (p ∷ [])) ws) word 0 ≡ cond (eqb p.word word) p.value (get_or (pairs_written l ws) word 0)
  told-put l p = rw (written-snoc l p ws) (get_d_set (pairs_written l ws) p.word p.value word (rw (length-written l ws) h))

  told-back : (r : List Pair) → Told (reverse r) (find (λ (p : Pair). eqb p.word word) r)
  unfolding pairs_written
  told-back [] = refl
  told-back (p ∷ r) =
      let s = told-put (reverse r) p in
      let ih = told-back r in
      split (eqb p.word word) (λ e. rw (reverse_onto r p [], e) (s ∙ rw e)) (λ e. rw (reverse_onto r p [], e, s, e) ih)

  pub told : (l : List Pair) → Told l (find (λ (p : Pair). eqb p.word word) (reverse l))
  told l = let t = told-back (reverse l) in rw (reverse-reverse l) at t

-- ---- a pair's words as a chunk
chunk_at : (m : ℕ) (ps : List ℕ) (i : ℕ) → i < m → record { word = get_or (get_or (first_chunks 2 m ps) i []) 0 0; value = get_or (get_or (first_chunks 2 m ps) i []) 1 0 } ≡ pair_at ps i
unfolding pair_at
chunk_at zero ps i h = absurd (omega arith)
chunk_at (suc m) ps zero h = rw (get_or-take 2 ps 0 0 (omega arith), get_or-take 2 ps 1 0 (omega arith))
chunk_at (suc m) ps (suc i) h =
    let e : 2 + 2 * i ≡ 2 * suc i = omega arith in
    let f : 2 + (2 * i + 1) ≡ 2 * suc i + 1 = omega arith in
    chunk_at m (drop 2 ps) i (le_of_suc-le-suc h) ∙ rw (get_or-drop 2 ps (2 * i) 0, get_or-drop 2 ps (2 * i + 1) 0, e, f)

pub chunk-is : (m : ℕ) (ps : List ℕ) (chunks : List (List ℕ)) (j n i : ℕ) → chunks ≡ first_chunks 2 m ps → i < n → j + i < m
    → record { word = get_or (get_or (take n (drop j chunks)) i []) 0 0; value = get_or (get_or (take n (drop j chunks)) i []) 1 0 } ≡ pair_at ps (j + i)
chunk-is m ps chunks j n i e h b =
    rw (get_or-take n (drop j chunks) i [] h, get_or-drop j chunks i [], e) (chunk_at m ps (j + i) b)

-- ---- a part as an array: i of its pairs
pub record Copied (ps : List ℕ) (j i : ℕ) (part : List Pair) : Type 0 where
  pub whole : length part ≡ max_writes
  pub first : take i part ≡ pairs_from ps j i

pub copied_none : (ps : List ℕ) (j : ℕ) (part : List Pair) → length part ≡ max_writes → Copied ps j 0 part
unfolding pairs_from
copied_none ps j part h = record { whole = h; first = refl }

pub copied_more : (ps : List ℕ) (j i : ℕ) (part : List Pair) (p : Pair) → Copied ps j i part → i < max_writes → p ≡ pair_at ps (j + i)
    → Copied ps j (i + 1) (set part i p)
copied_more ps j i part p c h e =
    rw e
    (record {
      whole = length-set part i (pair_at ps (j + i)) ∙ c.whole;
      first = rw (add-one i, from-snoc ps j i, ← c.first) (take-suc-set part i (pair_at ps (j + i)) (omega (arith, c.whole)));
    })

-- its pairs are of words inside an image of more than W words
pub part-words : (W : ℕ) (ps : List ℕ) (j n size : ℕ) (part : List Pair) → part ≡ pairs_from ps j n → pairs_ok W (pairs_from ps j n) ≡ true → 1 + W ≤ size
    → (i : ℕ) → i < length part → 1 + (get_or part i no_pair).word < size
part-words W ps j n size part e ok h i l =
    let m : i < n = omega (arith, ap length e, length_pairs ps j n) in
    let f : get_or part i no_pair ≡ pair_at ps (j + i) = ap (λ (r : List Pair). get_or r i no_pair) e ∙ pairs-at ps j n i m in
    let g : (get_or part i no_pair).word < W = rw f (pairs-word W ps j n i ok m) in
    omega arith
