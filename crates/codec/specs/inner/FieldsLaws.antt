-- Inner: how the code goes, need not be believed. Laws of the loops that read and write the record's words. Assumes nothing.
use Rattle.std.specs.Prelude.{ℕ, zero, suc, ◌+◌, ◌-◌, ◌*◌, ◌≤◌, ◌<◌, ◌≡◌, refl, List, [], ◌∷◌, ◌++◌, length, get_or, set, take, drop, Option}
use Rattle.std.proofs.Common.{sym, ◌∙◌, ap, append_assoc, append-nil, arith, mul-suc, add-one, length-append, length-set, length-drop, drop_of_length-le, take_at, take-suc-set, take-suc, take_all, length-take-le, drop-drop, get_or-drop}
use borrow.Rule.Slice.PartMut.{post_of, put_mid, same_len_mid, mid_len}
use Rattle.txn.specs.Txn.{max_writes}
use Rattle.image.specs.Image.{max_lanes}
use Rattle.record.specs.Record.{no_pair, no_lane}
use Rattle.record.specs.declared.Pair.{Pair}
use Rattle.record.specs.declared.Lane.{Lane}
use Rattle.record.specs.declared.Record.{Record}
use Rattle.codec.specs.Fields.{head_length, pairs_length, lane_length, lanes_end, holder_length, record_length}
use Rattle.codec.specs.Fields.{row_of, phase_of, floor_of, pair_of, lane_of, lock_of, record_of}
use Rattle.codec.specs.Fields.{row_words, pair_words, head_words, lane_words, lock_words, words_of}
use Rattle.record.specs.Record.{Lock}
use Rattle.record.specs.Record.{Phase}

-- the words from k on, as a part of a slice
pub tail-is : (k : ℕ) (ws : List ℕ) → take (length ws - k) (drop k ws) ≡ drop k ws
tail-is k ws = take_all (length ws - k) (drop k ws) (omega (arith, length-drop k ws))

-- the first i of n elements are done
pub record Begun {A : Type 0} (n : ℕ) (done : List A) (i : ℕ) (xs : List A) : Type 0 where
  pub in_all : length xs ≡ n
  pub so_far : take i xs ≡ done

pub begun_all : {A : Type 0} (n : ℕ) (done : List A) (i : ℕ) (xs : List A) → Begun n done i xs → i ≡ n → xs ≡ done
begun_all n done i xs b e = sym (take_all i xs (omega (arith, b.in_all))) ∙ b.so_far

-- ---- reading a row
row_snoc : {A : Type 0} (size : ℕ) (of : List ℕ → A) (n : ℕ) (ws : List ℕ) → row_of size of (suc n) ws ≡ row_of size of n ws ++ (of (drop (size * n) ws) ∷ [])
unfolding row_of
row_snoc size of zero ws = let e : size * 0 ≡ 0 = omega arith in rw e
row_snoc size of (suc n) ws =
    ap (λ l. of ws ∷ l)
    (row_snoc size of n (drop size ws) ∙ ap (λ (l : List ℕ). row_of size of n (drop size ws) ++ (of l ∷ []))
    (drop-drop (size * n) size ws ∙ ap (λ k. drop k ws) (let e : size + size * n ≡ size * suc n = omega (arith, mul-suc size n) in e)))

pub row-begun : {A : Type 0} (size : ℕ) (of : List ℕ → A) (ws : List ℕ) (n : ℕ) (xs : List A) → length xs ≡ n → Begun n (row_of size of 0 ws) 0 xs
unfolding row_of
row-begun size of ws n xs e = record { in_all = e; so_far = refl }

pub row_on : {A : Type 0} (size : ℕ) (of : List ℕ → A) (ws : List ℕ) (n i : ℕ) (xs : List A) (x : A) → Begun n (row_of size of i ws) i xs → i < n
    → x ≡ of (drop (size * i) ws) → Begun n (row_of size of (i + 1) ws) (i + 1) (set xs i x)
row_on size of ws n i xs x b h e =
    record {
      in_all = length-set xs i x ∙ b.in_all;
      so_far = rw (add-one i, e) (take-suc-set xs i _ (omega (arith, b.in_all)) ∙ rw b.so_far (sym (row_snoc size of i ws)));
    }

pub pair_read : (ws : List ℕ) (i : ℕ) → record { word = get_or ws (2 * i) 0; value = get_or ws (2 * i + 1) 0 } ≡ pair_of (drop (2 * i) ws)
unfolding pair_of
pair_read ws i = let e : 2 * i + 0 ≡ 2 * i = omega arith in rw (get_or-drop (2 * i) ws 0 0, get_or-drop (2 * i) ws 1 0, e)

-- a lane's fields, the floor and the pairs each from a part of the slice
pub lane-fields : (ws : List ℕ) (p : Phase) (f : Option ℕ) (redo : List Pair) → p ≡ phase_of ws → f ≡ floor_of (take (length ws - 6) (drop 6 ws))
    → redo ≡ row_of 2 pair_of max_writes (take (length ws - head_length) (drop head_length ws))
    → record { phase = p; next = get_or ws 4 0; wrap = get_or ws 5 0; floor = f; redo = redo } ≡ lane_of ws
unfolding lane_of
lane-fields ws p f redo a b c = rw (a, b, c, tail-is 6 ws, tail-is head_length ws)

pub lane-read : (ws : List ℕ) (k : ℕ) (l : Lane) → l ≡ lane_of (take (length ws - (2 + k)) (drop (2 + k) ws)) → l ≡ lane_of (drop k (drop 2 ws))
lane-read ws k l e = e ∙ ap lane_of (tail-is (2 + k) ws ∙ sym (drop-drop k 2 ws))

-- ---- writing a row
row-words-snoc : {A : Type 0} (to : A → List ℕ) (xs : List A) (x : A) → row_words to (xs ++ (x ∷ [])) ≡ row_words to xs ++ to x
unfolding row_words
row-words-snoc to [] x = append-nil (to x)
row-words-snoc to (y ∷ xs) x = ap (λ (l : List ℕ). to y ++ l) (row-words-snoc to xs x) ∙ sym (append_assoc (to y) (row_words to xs) (to x))

row-words-on : {A : Type 0} (to : A → List ℕ) (xs : List A) (i : ℕ) (d : A) → i < length xs
    → row_words to (take (i + 1) xs) ≡ row_words to (take i xs) ++ to (get_or xs i d)
row-words-on to xs i d h = rw (add-one i) (ap (row_words to) (take-suc xs i d h) ∙ row-words-snoc to (take i xs) (get_or xs i d))

pub pairs-none : (ps : List Pair) (ws : List ℕ) → length ws ≡ pairs_length → Begun pairs_length (row_words pair_words (take 0 ps)) 0 ws
unfolding row_words
pairs-none ps ws e = record { in_all = e; so_far = refl }

two-stored : (ws : List ℕ) (k n : ℕ) (p : Pair) → n ≡ suc (suc k) → k + 1 < length ws
    → take n (set (set ws k p.word) (k + 1) p.value) ≡ take k ws ++ pair_words p
unfolding pair_words
two-stored ws k n p e h =
    rw (e, add-one k)
    (take-suc-set (set ws k p.word) (suc k) p.value (omega (arith, length-set ws k p.word))
    ∙ ap (λ (l : List ℕ). l ++ (p.value ∷ [])) (take-suc-set ws k p.word (omega arith))
    ∙ append_assoc (take k ws) (p.word ∷ []) (p.value ∷ []))

pub pairs-on : (ps : List Pair) (i : ℕ) (ws : List ℕ) → Begun pairs_length (row_words pair_words (take i ps)) (2 * i) ws → i < max_writes → length ps ≡ max_writes
    → Begun pairs_length (row_words pair_words (take (i + 1) ps)) (2 * (i + 1))
    (set (set ws (2 * i) (get_or ps i no_pair).word) (2 * i + 1) (get_or ps i no_pair).value)
pairs-on ps i ws b h n =
    record {
      in_all = length-set (set ws (2 * i) _) (2 * i + 1) _ ∙ length-set ws (2 * i) _ ∙ b.in_all;
      so_far = two ∙ ap (λ (l : List ℕ). l ++ pair_words (get_or ps i no_pair)) b.so_far ∙ sym (row-words-on pair_words ps i no_pair (omega (arith, n)));
    }
  where
    two : take (2 * (i + 1)) (set (set ws (2 * i) (get_or ps i no_pair).word) (2 * i + 1) (get_or ps i no_pair).value)
        ≡ take (2 * i) ws ++ pair_words (get_or ps i no_pair)
    two = two-stored ws (2 * i) (2 * (i + 1)) (get_or ps i no_pair) (omega arith) (omega (arith, b.in_all))

-- a part stored behind what is done
part-on : (n : ℕ) (done : List ℕ) (a e : ℕ) (ws ys : List ℕ) → Begun n done a ws → length ys ≡ e - a → a ≤ e → e ≤ n
    → Begun n (done ++ ys) e (put_mid a (e - a) ws ys)
part-on n done a e ws ys d f g h =
    record {
      in_all = same_len_mid a (e - a) ws ys (f ∙ sym (mid_len a e ws (omega (arith, d.in_all)))) ∙ d.in_all;
      so_far = ap (take e) (sym (append_assoc (take a ws) ys (post_of a (e - a) ws)))
          ∙ take_at (take a ws ++ ys) (post_of a (e - a) ws) e (length-append (take a ws) ys ∙ omega (arith, f, length-take-le a ws (omega (arith, d.in_all))))
          ∙ ap (λ (l : List ℕ). l ++ ys) d.so_far;
    }

pub head-eight : (l : Lane) → length (head_words l) ≡ head_length
unfolding head_words
head-eight l = refl

-- the words before the pairs, then the pairs to the end
pub lane-put : (l : Lane) (first hs ws ps : List ℕ) → first ≡ head_words l → hs ≡ first → ps ≡ row_words pair_words l.redo
    → put_mid head_length (length (hs ++ drop head_length ws) - head_length) (hs ++ drop head_length ws) ps ≡ lane_words l
unfolding lane_words
lane-put l first hs ws ps f h p =
    let xs = hs ++ drop head_length ws in
    ap (λ (t : List ℕ). t ++ (ps ++ drop (length xs - head_length) (drop head_length xs)))
    (take_at hs (drop head_length ws) head_length (ap length (h ∙ f) ∙ head-eight l))
    ∙ ap (λ (t : List ℕ). hs ++ (ps ++ t)) (drop_of_length-le (drop head_length xs) {i = length xs - head_length} (omega (arith, length-drop head_length xs)))
    ∙ ap (λ (t : List ℕ). hs ++ t) (append-nil ps)
    ∙ rw (p, h, f) refl

-- the words before the lanes and those of the first i lanes
unfoldable pub up_to : Record → (i : ℕ) → List ℕ
up_to r i = r.clock ∷ r.last ∷ row_words lane_words (take i r.lanes)

pub lanes-none : (r : Record) (ws : List ℕ) → length ws ≡ record_length
    → Begun record_length (up_to r 0) (2 + lane_length * 0) (set (set ws 0 r.clock) 1 r.last)
unfolding up_to row_words
lanes-none r [] e = absurd (omega (arith, e))
lanes-none r (a ∷ []) e = absurd (omega (arith, e))
lanes-none r (a ∷ b ∷ ws) e = record { in_all = e; so_far = refl }

lanes_next : (r : Record) (i : ℕ) → i < max_lanes → length r.lanes ≡ max_lanes → up_to r i ++ lane_words (get_or r.lanes i no_lane) ≡ up_to r (i + 1)
unfolding up_to
lanes_next r i h e = ap (λ (l : List ℕ). r.clock ∷ r.last ∷ l) (sym (row-words-on lane_words r.lanes i no_lane (omega (arith, e))))

pub lanes_on : (r : Record) (i at : ℕ) (ws ys : List ℕ) → Begun record_length (up_to r i) at ws → at ≡ 2 + lane_length * i → i < max_lanes
    → length r.lanes ≡ max_lanes
    → length ys ≡ lane_length → ys ≡ lane_words (get_or r.lanes i no_lane)
    → Begun record_length (up_to r (i + 1)) (2 + lane_length * (i + 1)) (put_mid at (at + lane_length - at) ws ys)
lanes_on r i at ws ys b a h e n y =
    let next : 2 + lane_length * (i + 1) ≡ at + lane_length = omega arith in
    rw (next, ← lanes_next r i h e, ← y) (part-on record_length (up_to r i) at (at + lane_length) ws ys b (omega (arith, n)) (omega arith) (omega arith))

-- the lag limit behind the lanes
lag-on : (r : Record) (i : ℕ) (ws : List ℕ) → Begun record_length (up_to r i) (2 + lane_length * i) ws → i ≡ max_lanes
    → Begun record_length (up_to r i ++ (r.lag ∷ [])) (lanes_end + 1) (set ws lanes_end r.lag)
lag-on r i ws b h =
    let n : 2 + lane_length * i ≡ lanes_end = omega arith in
    record {
      in_all = length-set ws lanes_end r.lag ∙ b.in_all;
      so_far = take-suc-set ws lanes_end r.lag (omega (arith, b.in_all))
          ∙ ap (λ (l : List ℕ). l ++ (r.lag ∷ [])) (ap (λ k. take k ws) (sym n) ∙ b.so_far);
    }

pub holder-six : (k : Lock) → length (lock_words k) ≡ holder_length
unfolding lock_words
holder-six k = refl

all_of : (r : Record) (i : ℕ) → i ≡ max_lanes → length r.lanes ≡ max_lanes → (up_to r i ++ (r.lag ∷ [])) ++ lock_words r.lock ≡ words_of r
unfolding up_to words_of
all_of r i h e =
    ap (λ (l : List Lane). r.clock ∷ r.last ∷ ((row_words lane_words l ++ (r.lag ∷ [])) ++ lock_words r.lock)) (take_all i r.lanes (omega (arith, e)))
    ∙ ap (λ (l : List ℕ). r.clock ∷ r.last ∷ l) (append_assoc (row_words lane_words r.lanes) (r.lag ∷ []) (lock_words r.lock))

-- the lock behind the lag limit, to the end
pub record-put : (r : Record) (i : ℕ) (ws ks ys : List ℕ)
    → Begun record_length (up_to r i) (2 + lane_length * i) ws → i ≡ max_lanes → length r.lanes ≡ max_lanes → ks ≡ lock_words r.lock → ys ≡ ks
    → let xs = set ws lanes_end r.lag in Begun record_length (words_of r) record_length (put_mid (lanes_end + 1) (length xs - (lanes_end + 1)) xs ys)
record-put r i ws ks ys b h e f g =
    let xs = set ws lanes_end r.lag in
    let a = lag-on r i ws b h in
    let p = part-on record_length (up_to r i ++ (r.lag ∷ [])) (lanes_end + 1) record_length xs ys a (ap length (g ∙ f) ∙ holder-six r.lock)
    (omega arith) (omega arith) in
    rw a.in_all (record { in_all = p.in_all; so_far = p.so_far ∙ ap (λ (l : List ℕ). (up_to r i ++ (r.lag ∷ [])) ++ l) (g ∙ f) ∙ all_of r i h e })

-- a record's fields, the lock from the part behind the lag limit
pub record-fields : (ws : List ℕ) (ls : List Lane) (k : Lock) → ls ≡ row_of lane_length lane_of max_lanes (drop 2 ws)
    → k ≡ lock_of (take (length ws - (lanes_end + 1)) (drop (lanes_end + 1) ws))
    → record { clock = get_or ws 0 0; last = get_or ws 1 0; lanes = ls; lag = get_or ws lanes_end 0; lock = k } ≡ record_of ws
unfolding record_of
record-fields ws ls k a b = rw (a, b, tail-is (lanes_end + 1) ws)
