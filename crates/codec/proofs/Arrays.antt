-- Inner: how the code goes, need not be believed. Laws of arrays made and read whole, by closures and by chunks. Assumes nothing.
use Rattle.std.specs.Prelude.{ℕ, zero, suc, ◌+◌, ◌-◌, ◌*◌, ◌≤◌, ◌<◌, ◌≡◌, refl, Bool, true, false, not, ◌&&◌, List, [], ◌∷◌, ◌++◌, eqb, ltb, length, get_or, set, take, drop, replicate, Option, Some}
use Rattle.std.proofs.Common.{sym, ◌∙◌, ap, arith, le_of_suc-le-suc, eqb-true, get_or-drop, take_all, length-drop}
use Rattle.std.proofs.lemmas.Bool.{eqb-false}
use Rattle.std.specs.Array.{IsFromFnResultFrom, IsFromFnResult, IsMapOf, IsFirstChunk, IsWholeChunk}
use Rattle.std.specs.Fn.{Called}
use Rattle.std.specs.List.{flat_map, list_all, range_with_len}
use Rattle.std.specs.Option.{MatchOption}
use Rattle.std.specs.Simd.{first_chunks}
use Rattle.std.proofs.lemmas.List.{same_lists, drop_more}
use borrow.Rule.Slice.PartMut.{put_mid, mid_of}
use denote.Param.Members.{Mut}
use denote.Ref.{Bor, MutBor}
use Rattle.laws.specs.inner.Tests.{split}
use Rattle.txn.specs.Txn.{max_writes}
use Rattle.image.specs.Image.{max_lanes}
use Rattle.record.specs.Record.{no_lane, lane_at, pair_at, pairs_from, pairs_ok, lane_ok, lanes_ok}
use Rattle.image.specs.declared.Sizes.{Sizes}
use Rattle.record.specs.declared.Pair.{Pair}
use Rattle.record.specs.declared.Record.{Record}
use Rattle.record.specs.declared.Lane.{Lane}
use Rattle.codec.specs.Fields.{head_length, pairs_length, lane_length, row_of, pair_of, lane_of, record_of, row_words, pair_words}
use Rattle.codec.specs.inner.CheckLaws.{pairs-on, pairs_first}
use Rattle.codec.specs.inner.FieldsLaws.{pair_read}
use Rattle.codec.specs.inner.ReadLaws.{row_at, row-all}

-- ---- an array that a closure makes element by element, and which the calls leave as it is
made_at : {F B : Type 0} (g : Mut F (ℕ × Unit {0}) B) (h : ℕ → B) (f : F) (N : ℕ)
    → ((i : ℕ) (y : B) (q : F) → i < N → Called g f (i, tt) y q → (q ≡ f) × (y ≡ h i))
    → (ys : List B) (i n : ℕ) → i + n ≤ N → IsFromFnResultFrom g f ys i n → (k : ℕ) (d : B) → i ≤ k → k < i + n → get_or ys k d ≡ h k
made_at g h f N e ys i zero m r k d a b = absurd (omega arith)
made_at g h f N e ys i (suc n) m r k d a b =
    let t = e i r.1 r.0 (omega arith) r.3 in
    split (eqb i k) (λ s. ap (λ j. get_or ys j d) (sym (eqb-true i k s)) ∙ r.2.1 d ∙ t.1 ∙ ap h (eqb-true i k s))
    (λ s. made_at g h f N e ys (i + 1) n (omega arith) (rw t.0 at r.4) k d (omega (arith, eqb-false i k s)) (omega arith))

pub from_fn_at : {F B : Type 0} {g : Mut F (ℕ × Unit {0}) B} {f : F} {ys : List B} {n : ℕ} (h : ℕ → B) → IsFromFnResult g f ys n
    → ((i : ℕ) (y : B) (q : F) → i < n → Called g f (i, tt) y q → (q ≡ f) × (y ≡ h i)) → (k : ℕ) (d : B) → k < n → get_or ys k d ≡ h k
from_fn_at {g = g} {f = f} {ys = ys} {n = n} h r e k d b = made_at g h f n e ys 0 n (omega arith) r.each k d (omega arith) (omega arith)

-- one that a closure makes of each element of another
pub map_at : {F A B : Type 0} {g : Mut F (A × Unit {0}) B} {f : F} {xs : List A} {ys : List B} {n : ℕ} (h : A → B) → IsMapOf g f xs ys n
    → ((x : A) (y : B) (p q : F) → Called g p (x, tt) y q → y ≡ h x) → (k : ℕ) (d : A) (e : B) → k < n → get_or ys k e ≡ h (get_or xs k d)
map_at {xs = xs} {ys = ys} h r t k d e b = let m = r.at k d e b in t (get_or xs k d) (get_or ys k e) m.0 m.1 m.2

-- rows of elements
pub row_is : {A : Type 0} (size : ℕ) (of : List ℕ → A) (n : ℕ) (ws : List ℕ) (ys : List A) → length ys ≡ n
    → ((k : ℕ) (d : A) → k < n → get_or ys k d ≡ of (drop (size * k) ws)) → ys ≡ row_of size of n ws
row_is size of n ws ys l e =
    same_lists ys (row_of size of n ws) (l ∙ sym (row-all size of n ws))
    (λ k d h. e k d (rw l at h) ∙ sym (row_at size of n ws k d (rw l at h)))

pub lanes_are : (ws : List ℕ) (ls : List Lane) → length ls ≡ max_lanes
    → ((k : ℕ) (d : Lane) → k < max_lanes → get_or ls k d ≡ lane_at (record_of ws) k) → ls ≡ (record_of ws).lanes
unfolding lane_at record_of
lanes_are ws ls n e =
    row_is lane_length lane_of max_lanes (drop 2 ws) ls n
    (λ k d h. e k d h ∙ row_at lane_length lane_of max_lanes (drop 2 ws) k no_lane h)

-- ---- the words of a redo log
pub words_each : (ps : List Pair) (ys : List (List ℕ)) → length ys ≡ length ps
    → ((k : ℕ) (d : Pair) (e : List ℕ) → k < length ps → get_or ys k e ≡ pair_words (get_or ps k d)) → flat_map (λ y. y) ys ≡ row_words pair_words ps
unfolding row_words
words_each [] [] l e = refl
words_each (p ∷ ps) (y ∷ ys) l e =
    rw (e 0 p y (omega arith)) (ap (λ (t : List ℕ). pair_words p ++ t) (words_each ps ys (omega (arith, l)) (λ k d f h. e (suc k) d f (omega (arith, h)))))
words_each [] (y ∷ ys) l e = absurd (omega (arith, l))
words_each (p ∷ ps) [] l e = absurd (omega (arith, l))

-- ---- the first and the last elements as an array
pub chunk_read : {A : Type 0} (n : ℕ) (xs : List A) (o : Option (Bor (List A))) (r : Bor (List A)) → o ≡ Some r
    → MatchOption o (length xs < n) (λ y. IsFirstChunk xs y.now n) → r.now ≡ take n xs
chunk_read n xs o r e m = (rw e at m).same

pub chunk_lent : {A : Type 0} (n : ℕ) (xs : List A) (o : Option (MutBor (List A))) (r : MutBor (List A)) → o ≡ Some r
    → MatchOption o (length xs < n) (λ y. IsFirstChunk xs y.now n) → r.now ≡ take n xs
chunk_lent n xs o r e m = (rw e at m).same

pub last_read : {A : Type 0} (n k : ℕ) (xs : List A) (o : Option (Bor (List A))) (r : Bor (List A)) → length xs ≡ k → o ≡ Some r
    → MatchOption o (length xs < n) (λ y. (n ≤ length xs) × IsWholeChunk (drop (length xs - n) xs) y.now n) → r.now ≡ drop (k - n) xs
last_read n k xs o r l e m = (rw e at m).1.same ∙ ap (λ j. drop (j - n) xs) l

-- ---- the first pairs
front : (ps : List ℕ) → get_or (take 2 ps) 0 0 ≡ get_or ps 0 0
front [] = refl
front (a ∷ []) = refl
front (a ∷ b ∷ ps) = refl

pub pairs_all : (W n m : ℕ) (ps : List ℕ) → n ≤ m
    → list_all (λ x. ltb (get_or x 0 0) W) (take n (first_chunks 2 m ps)) ≡ pairs_ok W (pairs_from ps 0 n)
unfolding pairs_ok pairs_from pair_at
pairs_all W zero m ps h = refl
pairs_all W (suc n) zero ps h = absurd (omega arith)
pairs_all W (suc n) (suc m) ps h =
    ap (λ a. ltb a W && list_all (λ x. ltb (get_or x 0 0) W) (take n (first_chunks 2 m (drop 2 ps)))) (front ps)
    ∙ ap (λ b. ltb (get_or ps 0 0) W && b) (pairs_all W n m (drop 2 ps) (le_of_suc-le-suc h) ∙ ap (pairs_ok W) (pairs-on ps 0 n))

-- ---- a pair of a lane's words
pub redo_read : (ws : List ℕ) (i : ℕ) → record { word = get_or ws (head_length + 2 * i) 0; value = get_or ws (head_length + 2 * i + 1) 0 }
    ≡ pair_of (drop (2 * i) (drop head_length ws))
redo_read ws i =
    let e : head_length + (2 * i + 1) ≡ head_length + 2 * i + 1 = omega arith in
    rw (← get_or-drop head_length ws (2 * i) 0, ← e, ← get_or-drop head_length ws (2 * i + 1) 0) (pair_read (drop head_length ws) i)

-- ---- words set to 0 in one go
pub three_cleared : (ws zs : List ℕ) → 4 ≤ length ws → zs ≡ replicate 3 0 → put_mid 1 3 ws zs ≡ set (set (set ws 1 0) 2 0) 3 0
three_cleared [] zs n z = absurd (omega arith)
three_cleared (a ∷ []) zs n z = absurd (omega arith)
three_cleared (a ∷ b ∷ []) zs n z = absurd (omega arith)
three_cleared (a ∷ b ∷ c ∷ []) zs n z = absurd (omega arith)
three_cleared (a ∷ b ∷ c ∷ d ∷ ws) zs n z = rw z

pub five_cleared : (ws zs : List ℕ) → length ws ≡ 6 → zs ≡ replicate 5 0
    → put_mid 1 5 ws zs ≡ set (set (set (set (set ws 1 0) 2 0) 3 0) 4 0) 5 0
five_cleared [] zs n z = absurd (omega (arith, n))
five_cleared (a ∷ []) zs n z = absurd (omega (arith, n))
five_cleared (a ∷ b ∷ []) zs n z = absurd (omega (arith, n))
five_cleared (a ∷ b ∷ c ∷ []) zs n z = absurd (omega (arith, n))
five_cleared (a ∷ b ∷ c ∷ d ∷ []) zs n z = absurd (omega (arith, n))
five_cleared (a ∷ b ∷ c ∷ d ∷ e ∷ []) zs n z = absurd (omega (arith, n))
five_cleared (a ∷ b ∷ c ∷ d ∷ e ∷ f ∷ []) zs n z = rw z
five_cleared (a ∷ b ∷ c ∷ d ∷ e ∷ f ∷ g ∷ ws) zs n z = absurd (omega (arith, n))

-- a lane's pairs below its count, from the part of its words that they begin
pub pairs_part : (ws : List ℕ) (W count : ℕ) → length ws ≡ lane_length → count ≤ max_writes
    → pairs_ok W (pairs_from (mid_of head_length pairs_length ws) 0 count) ≡ pairs_ok W (take count (row_of 2 pair_of max_writes (drop head_length ws)))
pairs_part ws W count n h =
    ap (λ (l : List ℕ). pairs_ok W (pairs_from l 0 count)) (take_all pairs_length (drop head_length ws) (omega (arith, n, length-drop head_length ws)))
    ∙ ap (pairs_ok W) (sym (pairs_first (drop head_length ws) max_writes count h))

-- ---- tests
pub none_is : (a r : Bool) → a ≡ not r → not a ≡ r
none_is a true h = rw h
none_is a false h = rw h

-- the lanes from one on
lanes_all : (z : Sizes) (clock : ℕ) (ls : List Lane) (i n : ℕ) → i + n ≤ length ls
    → list_all (λ l. lane_ok z clock (get_or ls l no_lane)) (range_with_len i n) ≡ lanes_ok z clock (take n (drop i ls))
unfolding lanes_ok
lanes_all z clock ls i zero h = refl
lanes_all z clock ls i (suc n) h =
    ap (λ b. lane_ok z clock (get_or ls i no_lane) && b) (lanes_all z clock ls (i + 1) n (omega arith))
    ∙ ap (λ (l : List Lane). lanes_ok z clock (take (suc n) l)) (sym (drop_more ls i no_lane (omega arith)))

pub lanes_tested : (z : Sizes) (r : Record) → z.lanes ≤ length r.lanes
    → list_all (λ l. lane_ok z r.clock (lane_at r l)) (range_with_len 0 z.lanes) ≡ lanes_ok z r.clock (take z.lanes r.lanes)
unfolding lane_at
lanes_tested z r h = lanes_all z r.clock r.lanes 0 z.lanes (omega arith)
