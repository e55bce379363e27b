-- Inner: how the code goes, need not be believed. Reading and writing the record's words are each other's inverse: for every record, and for words in
-- normal form. Assumes nothing.
use Rattle.std.specs.Prelude.{ℕ, zero, suc, ◌+◌, ◌*◌, ◌≤◌, ◌≡◌, Bool, true, false, cond, ◌&&◌, eqb, length, get_or, take, drop, Option, Some, None}
use Rattle.std.proofs.Math.Path.{refl}
use Rattle.std.proofs.Common.{sym, ◌∙◌, ap, arith, mul-suc, add-one, length-append, length-drop, drop-drop, take-add, eq-eqb, eqb-true}
use mathlib.Core.List.{List, [], ◌∷◌, ◌++◌, append_assoc}
use Rattle.std.proofs.Math.Seq.{drop_at, split_at}
use Rattle.std.proofs.lemmas.List.{get_or_at}
use Rattle.laws.specs.inner.Tests.{clash, and_left, and_right, and_both}
use Rattle.laws.specs.inner.Lists.{All, none, more, All-map}
use Rattle.txn.specs.Txn.{max_writes}
use Rattle.image.specs.Image.{max_lanes}
use Rattle.record.specs.Record.{is_logged, logged_in, is_held, locked_in}
use Rattle.record.specs.declared.Pair.{Pair}
use Rattle.record.specs.declared.Lane.{Lane}
use Rattle.record.specs.declared.Record.{Record}
use Rattle.codec.specs.Fields.{lane_length, holder_length, record_length}
use Rattle.codec.specs.Fields.{row_of, phase_of, floor_of, pair_of, lane_of, lock_of, record_of}
use Rattle.codec.specs.Fields.{row_words, bit_for, is_set, stamp_of, head_words, pair_words, lane_words, lock_words, words_of}
use Rattle.codec.specs.inner.FieldsLaws.{holder-six}
use Rattle.codec.specs.inner.Normal.{phase_normal, floor_normal, lanes_normal, lock_normal, normal}
use Rattle.record.specs.Record.{Lock}
use Rattle.record.specs.Record.{Phase}

-- ---- lengths
row-length : {A : Type 0} (size : ℕ) (to : A → List ℕ) (xs : List A) → All (λ x. length (to x) ≡ size) xs → length (row_words to xs) ≡ size * length xs
unfolding row_words
row-length size to [] none = omega arith
row-length size to (x ∷ xs) (more e es) = length-append (to x) (row_words to xs) ∙ omega (arith, e, row-length size to xs es, mul-suc size (length xs))

-- a pair has two words, and comes back whatever words follow them
pairs-back : (ps : List Pair) → All (λ p. (length (pair_words p) ≡ 2) × ((ws : List ℕ) → pair_of (pair_words p ++ ws) ≡ p)) ps
unfolding pair_words pair_of
pairs-back [] = none
pairs-back (p ∷ ps) = more (refl, λ ws. refl) (pairs-back ps)

pub lane-length : (l : Lane) → length l.redo ≡ max_writes → length (lane_words l) ≡ lane_length
unfolding lane_words head_words
lane-length l e = omega (arith, row-length 2 pair_words l.redo (All-map (λ p h. h.0) (pairs-back l.redo)), e)

-- ---- decoding what was encoded
-- elements that come back, whatever words follow their own
module _ {A : Type 0} (size : ℕ) (of : List ℕ → A) (to : A → List ℕ) where
  row_back : (xs : List A) (rest : List ℕ) → All (λ x. (length (to x) ≡ size) × ((ws : List ℕ) → of (to x ++ ws) ≡ x)) xs
      → row_of size of (length xs) (row_words to xs ++ rest) ≡ xs
  unfolding row_of row_words
  row_back [] rest none = refl
  row_back (x ∷ xs) rest (more e es) =
      rw (append_assoc (to x) (row_words to xs) rest, e.1 (row_words to xs ++ rest), drop_at (to x) (row_words to xs ++ rest) size e.0, row_back xs rest es)

pub phase-back : (p : Phase) (rest : List ℕ) → phase_of (bit_for (is_logged p) ∷ (logged_in p).first ∷ (logged_in p).count ∷ (logged_in p).stamp ∷ rest) ≡ p
unfolding phase_of bit_for is_logged logged_in
phase-back None rest = refl
phase-back (Some g) rest = refl

pub floor-back : (f : Option ℕ) (rest : List ℕ) → floor_of (bit_for (is_set f) ∷ stamp_of f ∷ rest) ≡ f
unfolding floor_of bit_for is_set stamp_of
floor-back None rest = refl
floor-back (Some s) rest = refl

pub lane-same : (next wrap : ℕ) {p q : Phase} {f g : Option ℕ} {ps qs : List Pair} → p ≡ q → f ≡ g → ps ≡ qs
    → ◌≡◌ {A = Lane} (record { phase = p; next = next; wrap = wrap; floor = f; redo = ps })
    (record { phase = q; next = next; wrap = wrap; floor = g; redo = qs })
lane-same next wrap a b c = rw (a, b, c)

pub redo-back : (ps : List Pair) (rest : List ℕ) → length ps ≡ max_writes → row_of 2 pair_of max_writes (row_words pair_words ps ++ rest) ≡ ps
redo-back ps rest e = ap (λ n. row_of 2 pair_of n (row_words pair_words ps ++ rest)) (sym e) ∙ row_back 2 pair_of pair_words ps rest (pairs-back ps)

-- a lane of 16 pairs comes back, whatever words follow its own
pub lane-back : (l : Lane) (rest : List ℕ) → length l.redo ≡ max_writes → lane_of (lane_words l ++ rest) ≡ l
unfolding lane_of lane_words head_words
lane-back l rest e =
    lane-same l.next l.wrap (phase-back l.phase _) (floor-back l.floor _) (redo-back l.redo rest e)

lock-back : (k : Lock) → lock_of (lock_words k) ≡ k
unfolding lock_of lock_words bit_for is_held locked_in
lock-back None = refl
lock-back (Some k) = refl

-- what stands behind n words and one more
after_one : (ws : List ℕ) (a : ℕ) (rest : List ℕ) (n : ℕ) → length ws ≡ n → drop (suc n) (ws ++ (a ∷ rest)) ≡ rest
after_one ws a rest n e = rw (← add-one n) (sym (drop-drop 1 n (ws ++ (a ∷ rest))) ∙ ap (drop 1) (drop_at ws (a ∷ rest) n e))

-- the record's words are its own: 8 lanes of 16 pairs are what every record has
pub record-back : (r : Record) → length r.lanes ≡ max_lanes → All (λ l. length l.redo ≡ max_writes) r.lanes → record_of (words_of r) ≡ r
unfolding record_of words_of
record-back r e es =
    let ws = row_words lane_words r.lanes in
    let rest = r.lag ∷ lock_words r.lock in
    let n : length ws ≡ max_lanes * lane_length = omega (arith, row-length lane_length lane_words r.lanes (All-map lane-length es), e) in
    rw (
      ap (λ n. row_of lane_length lane_of n (ws ++ rest)) (sym e)
          ∙ row_back lane_length lane_of lane_words r.lanes rest (All-map (λ l n. (lane-length l n, λ ws. lane-back l ws n)) es),
      get_or_at ws r.lag (lock_words r.lock) 0 (max_lanes * lane_length) n,
      after_one ws r.lag (lock_words r.lock) (max_lanes * lane_length) n,
      lock-back r.lock,
    )

-- ---- encoding what was decoded
pub pairs-forth : (n : ℕ) (ws : List ℕ) → n * 2 ≤ length ws → row_words pair_words (row_of 2 pair_of n ws) ≡ take (n * 2) ws
unfolding row_words pair_words row_of pair_of
pairs-forth zero ws h = refl
pairs-forth (suc n) [] h = absurd (omega arith)
pairs-forth (suc n) (a ∷ []) h = absurd (omega arith)
pairs-forth (suc n) (a ∷ b ∷ ws) h =
    ap (λ (l : List ℕ). a ∷ b ∷ l) (pairs-forth n ws (omega arith))
    ∙ ap (λ k. take k (a ∷ b ∷ ws)) (let e : suc (suc (n * 2)) ≡ suc n * 2 = omega arith in e)

-- the fields of a phase and of a floor are the words that they were read from
phase-pick : (t : Bool) (a b c d : ℕ) → eqb a 0 ≡ t → cond t (eqb b 0 && (eqb c 0 && eqb d 0)) (eqb a 1) ≡ true
    → let p : Phase = cond t None (Some (record { first = b; count = c; stamp = d })) in
    (bit_for (is_logged p) ≡ a) × (((logged_in p).first ≡ b) × (((logged_in p).count ≡ c) × ((logged_in p).stamp ≡ d)))
unfolding bit_for is_logged logged_in
phase-pick true a b c d e h =
    let l = and_right (eqb b 0) (eqb c 0 && eqb d 0) h in (
      sym (eqb-true a 0 e),
      (
        sym (eqb-true b 0 (and_left (eqb b 0) (eqb c 0 && eqb d 0) h)),
        (sym (eqb-true c 0 (and_left (eqb c 0) (eqb d 0) l)), sym (eqb-true d 0 (and_right (eqb c 0) (eqb d 0) l))),
      ),
    )
phase-pick false a b c d e h = (sym (eqb-true a 1 h), (refl, (refl, refl)))

phase-forth : (ws : List ℕ) → phase_normal ws ≡ true
    → (bit_for (is_logged (phase_of ws)) ≡ get_or ws 0 0) × (((logged_in (phase_of ws)).first ≡ get_or ws 1 0)
    × (((logged_in (phase_of ws)).count ≡ get_or ws 2 0) × ((logged_in (phase_of ws)).stamp ≡ get_or ws 3 0)))
unfolding phase_normal phase_of
phase-forth ws h = phase-pick (eqb (get_or ws 0 0) 0) (get_or ws 0 0) (get_or ws 1 0) (get_or ws 2 0) (get_or ws 3 0) refl h

floor-pick : (t : Bool) (a b : ℕ) → eqb a 0 ≡ t → cond t (eqb b 0) (eqb a 1) ≡ true
    → (bit_for (is_set (cond t None (Some b))) ≡ a) × (stamp_of (cond t None (Some b)) ≡ b)
unfolding bit_for is_set stamp_of
floor-pick true a b e h = (sym (eqb-true a 0 e), sym (eqb-true b 0 h))
floor-pick false a b e h = (sym (eqb-true a 1 h), refl)

floor-forth : (ws : List ℕ) → floor_normal ws ≡ true → (bit_for (is_set (floor_of ws)) ≡ get_or ws 0 0) × (stamp_of (floor_of ws) ≡ get_or ws 1 0)
unfolding floor_normal floor_of
floor-forth ws h = floor-pick (eqb (get_or ws 0 0) 0) (get_or ws 0 0) (get_or ws 1 0) refl h

pub eight-same : {a b c d g h a' b' c' d' g' h' : ℕ} (e f : ℕ) {xs ys : List ℕ} → a ≡ a' → b ≡ b' → c ≡ c' → d ≡ d' → g ≡ g' → h ≡ h' → xs ≡ ys
    → ◌≡◌ {A = List ℕ} (a ∷ b ∷ c ∷ d ∷ e ∷ f ∷ g ∷ h ∷ xs) (a' ∷ b' ∷ c' ∷ d' ∷ e ∷ f ∷ g' ∷ h' ∷ ys)
eight-same e f p q r s t u v = rw (p, q, r, s, t, u, v)

-- words in normal form are their lane's
pub lane-forth : (ws : List ℕ) → lane_length ≤ length ws → phase_normal ws ≡ true → floor_normal (drop 6 ws) ≡ true → lane_words (lane_of ws) ≡ take lane_length ws
unfolding lane_words head_words lane_of
lane-forth [] n p q = absurd (omega arith)
lane-forth (a ∷ []) n p q = absurd (omega arith)
lane-forth (a ∷ b ∷ []) n p q = absurd (omega arith)
lane-forth (a ∷ b ∷ c ∷ []) n p q = absurd (omega arith)
lane-forth (a ∷ b ∷ c ∷ d ∷ []) n p q = absurd (omega arith)
lane-forth (a ∷ b ∷ c ∷ d ∷ e ∷ []) n p q = absurd (omega arith)
lane-forth (a ∷ b ∷ c ∷ d ∷ e ∷ f ∷ []) n p q = absurd (omega arith)
lane-forth (a ∷ b ∷ c ∷ d ∷ e ∷ f ∷ g ∷ []) n p q = absurd (omega arith)
lane-forth (a ∷ b ∷ c ∷ d ∷ e ∷ f ∷ g ∷ h ∷ ws) n p q =
    let x = phase-forth (a ∷ b ∷ c ∷ d ∷ e ∷ f ∷ g ∷ h ∷ ws) p in
    let y = floor-forth (g ∷ h ∷ ws) q in
    eight-same e f x.0 x.1.0 x.1.1.0 x.1.1.1 y.0 y.1 (pairs-forth max_writes ws (omega arith))

pub lanes-forth : (n : ℕ) (ws : List ℕ) → n * lane_length ≤ length ws → lanes_normal n ws ≡ true
    → row_words lane_words (row_of lane_length lane_of n ws) ≡ take (n * lane_length) ws
unfolding lanes_normal row_words row_of
lanes-forth zero ws h t = refl
lanes-forth (suc n) ws h t =
    let u = and_right (phase_normal ws) (floor_normal (drop 6 ws) && lanes_normal n (drop lane_length ws)) t in
    let a = lane-forth ws (omega arith) (and_left (phase_normal ws) (floor_normal (drop 6 ws) && lanes_normal n (drop lane_length ws)) t)
    (and_left (floor_normal (drop 6 ws)) (lanes_normal n (drop lane_length ws)) u) in
    let b = lanes-forth n (drop lane_length ws) (omega (arith, length-drop lane_length ws))
    (and_right (floor_normal (drop 6 ws)) (lanes_normal n (drop lane_length ws)) u) in
    ap (λ (l : List ℕ). l ++ row_words lane_words (row_of lane_length lane_of n (drop lane_length ws))) a
    ∙ ap (λ (l : List ℕ). take lane_length ws ++ l) b
    ∙ sym (take-add lane_length (n * lane_length) ws)
    ∙ ap (λ k. take k ws) (let e : lane_length + n * lane_length ≡ suc n * lane_length = omega arith in e)

-- the fields of a lock are the words that it was read from
lock-pick : (t : Bool) (a b c d e f : ℕ) → eqb a 0 ≡ t
    → cond t (eqb b 0 && (eqb c 0 && (eqb d 0 && (eqb e 0 && eqb f 0)))) (eqb a 1) ≡ true
    → lock_words (cond t None (Some (record { lane = b; stamp = c; count = d; logged = e; written = f }))) ≡ a ∷ b ∷ c ∷ d ∷ e ∷ f ∷ []
unfolding lock_words bit_for is_held locked_in
lock-pick true a b c d e f g h =
    let i = and_right (eqb b 0) (eqb c 0 && (eqb d 0 && (eqb e 0 && eqb f 0))) h in
    let j = and_right (eqb c 0) (eqb d 0 && (eqb e 0 && eqb f 0)) i in
    let k = and_right (eqb d 0) (eqb e 0 && eqb f 0) j in
    rw (
      eqb-true a 0 g,
      eqb-true b 0 (and_left (eqb b 0) (eqb c 0 && (eqb d 0 && (eqb e 0 && eqb f 0))) h),
      eqb-true c 0 (and_left (eqb c 0) (eqb d 0 && (eqb e 0 && eqb f 0)) i),
      eqb-true d 0 (and_left (eqb d 0) (eqb e 0 && eqb f 0) j),
      eqb-true e 0 (and_left (eqb e 0) (eqb f 0) k),
      eqb-true f 0 (and_right (eqb e 0) (eqb f 0) k),
    )
lock-pick false a b c d e f g h = rw (eqb-true a 1 h)

lock-forth : (ws : List ℕ) → length ws ≡ holder_length → lock_normal ws ≡ true → lock_words (lock_of ws) ≡ ws
unfolding lock_normal lock_of
lock-forth [] n t = absurd (omega (arith, n))
lock-forth (a ∷ []) n t = absurd (omega (arith, n))
lock-forth (a ∷ b ∷ []) n t = absurd (omega (arith, n))
lock-forth (a ∷ b ∷ c ∷ []) n t = absurd (omega (arith, n))
lock-forth (a ∷ b ∷ c ∷ d ∷ []) n t = absurd (omega (arith, n))
lock-forth (a ∷ b ∷ c ∷ d ∷ e ∷ []) n t = absurd (omega (arith, n))
lock-forth (a ∷ b ∷ c ∷ d ∷ e ∷ f ∷ []) n t = lock-pick (eqb a 0) a b c d e f refl t
lock-forth (a ∷ b ∷ c ∷ d ∷ e ∷ f ∷ g ∷ ws) n t = absurd (omega (arith, n))

-- words in normal form are their record's
pub record-forth : (ws : List ℕ) → normal ws ≡ true → words_of (record_of ws) ≡ ws
unfolding normal words_of record_of
record-forth [] t = clash false t refl
record-forth (a ∷ []) t = clash false t refl
record-forth (a ∷ b ∷ ws) t =
    let rest = drop (suc (max_lanes * lane_length)) ws in
    let n = eqb-true (length (a ∷ b ∷ ws)) record_length
    (and_left (eqb (length (a ∷ b ∷ ws)) record_length) (lanes_normal max_lanes ws && lock_normal rest) t) in
    let u = and_right (eqb (length (a ∷ b ∷ ws)) record_length) (lanes_normal max_lanes ws && lock_normal rest) t in
    ap (λ (l : List ℕ). a ∷ b ∷ l)
    (ap (λ (l : List ℕ). l ++ (get_or ws (max_lanes * lane_length) 0 ∷ lock_words (lock_of rest)))
    (lanes-forth max_lanes ws (omega (arith, n)) (and_left (lanes_normal max_lanes ws) (lock_normal rest) u))
    ∙ ap (λ (l : List ℕ). take (max_lanes * lane_length) ws ++ (get_or ws (max_lanes * lane_length) 0 ∷ l))
    (lock-forth rest (omega (arith, n, length-drop (suc (max_lanes * lane_length)) ws)) (and_right (lanes_normal max_lanes ws) (lock_normal rest) u))
    ∙ sym (split_at ws (max_lanes * lane_length) 0 (omega (arith, n))))

-- ---- a record's words are in normal form
phase-normal : (p : Phase) (rest : List ℕ) → phase_normal (bit_for (is_logged p) ∷ (logged_in p).first ∷ (logged_in p).count ∷ (logged_in p).stamp ∷ rest) ≡ true
unfolding phase_normal bit_for is_logged logged_in
phase-normal None rest = refl
phase-normal (Some g) rest = refl

floor-normal : (f : Option ℕ) (rest : List ℕ) → floor_normal (bit_for (is_set f) ∷ stamp_of f ∷ rest) ≡ true
unfolding floor_normal bit_for is_set stamp_of
floor-normal None rest = refl
floor-normal (Some s) rest = refl

lane-normal : (l : Lane) (rest : List ℕ) → (phase_normal (lane_words l ++ rest) ≡ true) × (floor_normal (drop 6 (lane_words l ++ rest)) ≡ true)
unfolding lane_words head_words
lane-normal l rest = (phase-normal l.phase _, floor-normal l.floor _)

lanes-normal : (ls : List Lane) (rest : List ℕ) → All (λ l. length l.redo ≡ max_writes) ls
    → lanes_normal (length ls) (row_words lane_words ls ++ rest) ≡ true
unfolding lanes_normal row_words
lanes-normal [] rest none = refl
lanes-normal (l ∷ ls) rest (more e es) =
    let ws = row_words lane_words ls ++ rest in
    let k = lane-normal l ws in
    rw (append_assoc (lane_words l) (row_words lane_words ls) rest, k.0, k.1, drop_at (lane_words l) ws lane_length (lane-length l e)) (lanes-normal ls rest es)

lock-normal : (k : Lock) → lock_normal (lock_words k) ≡ true
unfolding lock_normal lock_words bit_for is_held locked_in
lock-normal None = refl
lock-normal (Some k) = refl

pub words-normal : (r : Record) → length r.lanes ≡ max_lanes → All (λ l. length l.redo ≡ max_writes) r.lanes → normal (words_of r) ≡ true
unfolding normal words_of
words-normal r e es =
    let ls = row_words lane_words r.lanes in
    let ws = ls ++ (r.lag ∷ lock_words r.lock) in
    let rest = drop (suc (max_lanes * lane_length)) ws in
    let n : length ls ≡ max_lanes * lane_length = omega (arith, row-length lane_length lane_words r.lanes (All-map lane-length es), e) in
    and_both (eqb (length (r.clock ∷ r.last ∷ ws)) record_length) (lanes_normal max_lanes ws && lock_normal rest)
    (eq-eqb (length (r.clock ∷ r.last ∷ ws)) record_length (omega (arith, length-append ls (r.lag ∷ lock_words r.lock), n, holder-six r.lock)))
    (and_both (lanes_normal max_lanes ws) (lock_normal rest)
    (ap (λ n. lanes_normal n ws) (sym e) ∙ lanes-normal r.lanes (r.lag ∷ lock_words r.lock) es)
    (ap lock_normal (after_one ls r.lag (lock_words r.lock) (max_lanes * lane_length) n) ∙ lock-normal r.lock))
