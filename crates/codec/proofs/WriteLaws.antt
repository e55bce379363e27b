-- Inner: how the code goes, need not be believed. Laws of fields stored where they stand, and of words brought to normal form. Assumes nothing.
use Prim.Native.Nat.{ℕ, zero, suc, ◌+◌, ◌-◌, ◌*◌, ◌≤◌, ◌<◌}
use Rattle.std.specs.Prelude.{◌≡◌, ◌≢◌, Bool, true, false, cond, eqb, length, get_or, Option, Some, None}
use Rattle.std.proofs.Math.Path.{refl, sym, ap}
use Rattle.std.proofs.Common.{◌∙◌, length-set, length-drop, take_all, take-take, drop_at, get_or-take, get_or-drop, length-take-le, eqb-true, eq-eqb, ne_eqb}
use mathlib.Core.List.{List, [], ◌∷◌, ◌++◌}
use native.Mathlib.Omega.{arith}
use Rattle.std.proofs.Math.Nat.{mul-suc}
use Rattle.std.proofs.Math.ListN.{set, take, drop}
use Rattle.std.proofs.Math.Seq.{take-nil, drop-drop}
use Rattle.std.proofs.lemmas.List.{drop-append-le, set-get_or}
use borrow.Rule.Slice.PartMut.{put_mid, post_of, take_put, drop_put}
use Rattle.txn.specs.Txn.{max_writes}
use Rattle.image.specs.Image.{max_lanes}
use Rattle.lane_log.specs.declared.Cursor.{Cursor}
use Rattle.record.specs.Record.{cursor_of, is_logged, logged_in, is_held, locked_in, no_lane, lane_at, with_lane, with_clock, with_last, with_lock}
use Rattle.record.specs.declared.Pair.{Pair}
use Rattle.record.specs.declared.Lane.{Lane}
use Rattle.record.specs.declared.Record.{Record}
use Rattle.codec.specs.Fields.{head_length, pairs_length, lane_length, lanes_end, holder_length, record_length}
use Rattle.codec.specs.Fields.{row_of, phase_of, floor_of, pair_of, lane_of, lock_of, record_of}
use Rattle.codec.specs.Fields.{row_words, bit_for, is_set, stamp_of, head_words, pair_words, lane_words, lock_words, words_of}
use Rattle.codec.specs.inner.FieldsLaws.{Begun, up_to, lanes_on, record-put, tail-is, head-eight}
use Rattle.codec.specs.inner.InPlace.{headed, redone}
use Rattle.codec.specs.inner.ReadLaws.{row_at, lanes-read}
use Rattle.std.specs.Option.{unwrap_or, UnwrapsOrElse}
use Rattle.record.specs.declared.Logged.{Logged}
use Rattle.record.specs.declared.Locked.{Locked}
use mir.Val.{bool_byte}
use Rattle.codec.proofs.RoundTrip.{phase-back, floor-back, redo-back, lane-same, pairs-forth, eight-same}
use Rattle.record.specs.Record.{Lock}
use Rattle.record.specs.Record.{Phase}

-- ---- clock and last commit
pub clock-set : (ws : List ℕ) (v : ℕ) → length ws ≡ record_length → record_of (set ws 0 v) ≡ with_clock (record_of ws) v
unfolding record_of with_clock
clock-set [] v e = absurd (omega (arith, e))
clock-set (a ∷ ws) v e = refl

pub last_set : (ws : List ℕ) (v : ℕ) → length ws ≡ record_length → record_of (set ws 1 v) ≡ with_last (record_of ws) v
unfolding record_of with_last
last_set [] v e = absurd (omega (arith, e))
last_set (a ∷ []) v e = absurd (omega (arith, e))
last_set (a ∷ b ∷ ws) v e = refl

-- ---- an element of a row depends on its own words alone
take-of-drop : (n m : ℕ) (ws : List ℕ) → take m (drop n ws) ≡ drop n (take (n + m) ws)
take-of-drop zero m ws = ap (λ k. take k ws) (let e : m ≡ 0 + m = omega arith in e)
take-of-drop (suc n) m [] = take-nil m ∙ ap (drop (suc n)) (sym (take-nil (suc n + m)))
take-of-drop (suc n) m (a ∷ ws) =
    take-of-drop n m ws ∙ ap (λ k. drop (suc n) (take k (a ∷ ws))) (let e : suc (n + m) ≡ suc n + m = omega arith in e)

-- lists whose first k words are the same, and lists that are the same behind k words
front_at : (i k : ℕ) (xs ys : List ℕ) → i < k → take k xs ≡ take k ys → get_or xs i 0 ≡ get_or ys i 0
front_at i k xs ys h e = sym (get_or-take k xs i 0 h) ∙ ap (λ (l : List ℕ). get_or l i 0) e ∙ get_or-take k ys i 0 h

front_less : (i k : ℕ) (xs ys : List ℕ) → i ≤ k → take k xs ≡ take k ys → take i xs ≡ take i ys
front_less i k xs ys h e = sym (take-take i k xs h) ∙ ap (take i) e ∙ take-take i k ys h

front-from : (n m : ℕ) (xs ys : List ℕ) → take (n + m) xs ≡ take (n + m) ys → take m (drop n xs) ≡ take m (drop n ys)
front-from n m xs ys e = take-of-drop n m xs ∙ ap (drop n) e ∙ sym (take-of-drop n m ys)

back_from : (k i : ℕ) (xs ys : List ℕ) → k ≤ i → drop k xs ≡ drop k ys → drop i xs ≡ drop i ys
back_from k i xs ys h e =
    let n : k + (i - k) ≡ i = omega arith in
    ap (λ j. drop j xs) (sym n) ∙ sym (drop-drop (i - k) k xs) ∙ ap (drop (i - k)) e ∙ drop-drop (i - k) k ys ∙ ap (λ j. drop j ys) n

back_at : (k i : ℕ) (xs ys : List ℕ) → k ≤ i → drop k xs ≡ drop k ys → get_or xs i 0 ≡ get_or ys i 0
back_at k i xs ys h e =
    let n : k + (i - k) ≡ i = omega arith in
    ap (λ j. get_or xs j 0) (sym n)
    ∙ sym (get_or-drop k xs (i - k) 0)
    ∙ ap (λ (l : List ℕ). get_or l (i - k) 0) e
    ∙ get_or-drop k ys (i - k) 0
    ∙ ap (λ j. get_or ys j 0) n

cons_same : {A : Type 0} {x y : A} {xs ys : List A} → x ≡ y → xs ≡ ys → ◌≡◌ {A = List A} (x ∷ xs) (y ∷ ys)
cons_same e f = rw (e, f)

-- ---- rows of elements that depend on their own words alone
module _ {A : Type 0} (size : ℕ) (of : List ℕ → A) (own : (ws : List ℕ) → of ws ≡ of (take size ws)) where
  first-same : (k : ℕ) (xs ys : List ℕ) → size ≤ k → take k xs ≡ take k ys → of xs ≡ of ys
  first-same k xs ys h e = own xs ∙ ap of (front_less size k xs ys h e) ∙ sym (own ys)

  row_same : (n : ℕ) (xs ys : List ℕ) → take (size * n) xs ≡ take (size * n) ys → row_of size of n xs ≡ row_of size of n ys
  unfolding row_of
  row_same zero xs ys e = refl
  row_same (suc n) xs ys e =
      let m : size * suc n ≡ size + size * n = omega (arith, mul-suc size n) in
      let f : take (size + size * n) xs ≡ take (size + size * n) ys = ap (λ k. take k xs) (sym m) ∙ e ∙ ap (λ k. take k ys) m in
      cons_same (first-same (size + size * n) xs ys (omega arith) f) (row_same n (drop size xs) (drop size ys) (front-from size (size * n) xs ys f))

  -- words that differ in those of element L alone
  row-change : (L n : ℕ) (xs ys : List ℕ) → take (size * L) xs ≡ take (size * L) ys → drop (size * suc L) xs ≡ drop (size * suc L) ys
      → row_of size of n ys ≡ set (row_of size of n xs) L (of (drop (size * L) ys))
  unfolding row_of
  row-change L zero xs ys f b = refl
  row-change zero (suc n) xs ys f b =
      let m : size * 1 ≡ size = omega arith in
      cons_same (ap (λ k. of (drop k ys)) (let e : 0 ≡ size * 0 = omega arith in e))
      (ap (row_of size of n) (ap (λ k. drop k ys) (sym m) ∙ sym b ∙ ap (λ k. drop k xs) m))
  row-change (suc L) (suc n) xs ys f b =
      let m : size * suc L ≡ size + size * L = omega (arith, mul-suc size L) in
      let o : size * suc (suc L) ≡ size + size * suc L = omega (arith, mul-suc size (suc L)) in
      let g : take (size + size * L) xs ≡ take (size + size * L) ys = ap (λ k. take k xs) (sym m) ∙ f ∙ ap (λ k. take k ys) m in
      let d : drop (size * suc L) (drop size xs) ≡ drop (size * suc L) (drop size ys) =
      drop-drop (size * suc L) size xs ∙ ap (λ k. drop k xs) (sym o) ∙ b ∙ ap (λ k. drop k ys) o ∙ sym (drop-drop (size * suc L) size ys) in
      cons_same (sym (first-same (size + size * L) xs ys (omega arith) g))
      (row-change L n (drop size xs) (drop size ys) (front-from size (size * L) xs ys g) d
      ∙ ap (λ (l : List ℕ). set (row_of size of n (drop size xs)) L (of l)) (drop-drop (size * L) size ys ∙ ap (λ k. drop k ys) (sym m)))

-- ---- a pair and a lane do
pair-own : (ws : List ℕ) → pair_of ws ≡ pair_of (take 2 ws)
unfolding pair_of
pair-own [] = refl
pair-own (a ∷ []) = refl
pair-own (a ∷ b ∷ ws) = refl

pub lane-own : (ws : List ℕ) → lane_of ws ≡ lane_of (take lane_length ws)
unfolding lane_of phase_of floor_of
lane-own [] = refl
lane-own (a ∷ []) = refl
lane-own (a ∷ b ∷ []) = refl
lane-own (a ∷ b ∷ c ∷ []) = refl
lane-own (a ∷ b ∷ c ∷ d ∷ []) = refl
lane-own (a ∷ b ∷ c ∷ d ∷ e ∷ []) = refl
lane-own (a ∷ b ∷ c ∷ d ∷ e ∷ f ∷ []) = refl
lane-own (a ∷ b ∷ c ∷ d ∷ e ∷ f ∷ g ∷ []) = refl
lane-own (a ∷ b ∷ c ∷ d ∷ e ∷ f ∷ g ∷ h ∷ ws) =
    lane-same e f refl refl (row_same 2 pair_of pair-own max_writes ws (take pairs_length ws) (sym (take-take pairs_length pairs_length ws (omega arith))))

-- ---- a lane changed
record_same : {c c' l l' g g' : ℕ} {ls ms : List Lane} {k k' : Lock} → c ≡ c' → l ≡ l' → ls ≡ ms → g ≡ g' → k ≡ k'
    → ◌≡◌ {A = Record} (record { clock = c; last = l; lanes = ls; lag = g; lock = k })
    (record { clock = c'; last = l'; lanes = ms; lag = g'; lock = k' })
record_same p q r s t = rw (p, q, r, s, t)

lane-in : (ws : List ℕ) (L : ℕ) → L < max_lanes → get_or (record_of ws).lanes L no_lane ≡ lane_of (drop (2 + lane_length * L) ws)
unfolding record_of
lane-in ws L h = row_at lane_length lane_of max_lanes (drop 2 ws) L no_lane h ∙ ap lane_of (drop-drop (lane_length * L) 2 ws)

lane-is : (ws : List ℕ) (L : ℕ) → L < max_lanes → lane_at (record_of ws) L ≡ lane_of (drop (2 + lane_length * L) ws)
unfolding lane_at
lane-is ws L h = lane-in ws L h

-- words that differ in those of lane L alone
lane-changed : (L : ℕ) (xs ys : List ℕ) → L < max_lanes → take (2 + lane_length * L) xs ≡ take (2 + lane_length * L) ys
    → drop (2 + lane_length * suc L) xs ≡ drop (2 + lane_length * suc L) ys
    → record_of ys ≡ with_lane (record_of xs) L (lane_of (drop (2 + lane_length * L) ys))
unfolding record_of with_lane
lane-changed L xs ys h f b =
    let k = 2 + lane_length * L in
    let m = 2 + lane_length * suc L in
    record_same (front_at 0 k ys xs (omega arith) (sym f)) (front_at 1 k ys xs (omega arith) (sym f))
    (row-change lane_length lane_of lane-own L max_lanes (drop 2 xs) (drop 2 ys) (front-from 2 (lane_length * L) xs ys f)
    (drop-drop (lane_length * suc L) 2 xs ∙ b ∙ sym (drop-drop (lane_length * suc L) 2 ys))
    ∙ ap (λ (l : List ℕ). set (row_of lane_length lane_of max_lanes (drop 2 xs)) L (lane_of l)) (drop-drop (lane_length * L) 2 ys))
    (back_at m lanes_end ys xs (omega arith) (sym b))
    (ap lock_of (back_from m (lanes_end + 1) ys xs (omega arith) (sym b)))

-- a lane's own head
pub headed-own : (l : Lane) (c : Cursor) → c ≡ cursor_of l → headed l.phase c l.floor l ≡ l
unfolding headed cursor_of
headed-own l c e = rw e

-- a head before the pairs that stand there
head_read : (p : Phase) (c : Cursor) (f : Option ℕ) (l : Lane) (ws : List ℕ)
    → lane_of (head_words (headed p c f l) ++ drop head_length ws) ≡ headed p c f (lane_of ws)
unfolding lane_of head_words headed
head_read p c f l ws = lane-same c.slot c.wrap (phase-back p _) (floor-back f _) refl

pub head-put : (ws hs : List ℕ) (L : ℕ) (p : Phase) (c : Cursor) (f : Option ℕ) → L < max_lanes → length ws ≡ record_length
    → hs ≡ head_words (headed p c f no_lane)
    → let at = 2 + lane_length * L in record_of (put_mid at (at + head_length - at) ws hs)
    ≡ with_lane (record_of ws) L (headed p c f (lane_at (record_of ws) L))
head-put ws hs L p c f h n e =
    let at = 2 + lane_length * L in
    let ys = put_mid at (at + head_length - at) ws hs in
    let len : length hs ≡ at + head_length - at = ap length e ∙ omega (arith, head-eight (headed p c f no_lane)) in
    let len8 : at + head_length - at ≡ head_length = omega arith in
    lane-changed L ws ys h (sym (take_put at (at + head_length - at) ws hs (omega (arith, n))))
    (back_from (at + head_length) (2 + lane_length * suc L) ws ys (omega arith)
    (sym (drop_put at (at + head_length) ws hs (omega arith) (omega (arith, n)) len)))
    ∙ ap (with_lane (record_of ws) L)
    (ap lane_of
    (drop_at (take at ws) (hs ++ post_of at (at + head_length - at) ws) at (length-take-le at ws (omega (arith, n)))
    ∙ ap (λ (l : List ℕ). l ++ post_of at (at + head_length - at) ws) e
    ∙ ap (λ k. head_words (headed p c f no_lane) ++ drop k (drop at ws)) len8)
    ∙ head_read p c f no_lane (drop at ws)
    ∙ ap (headed p c f) (sym (lane-is ws L h)))

-- pairs behind the head that stands there
redo-read : (ws rest : List ℕ) (redo : List Pair) → head_length ≤ length ws → length redo ≡ max_writes
    → lane_of (take head_length ws ++ (row_words pair_words redo ++ rest)) ≡ redone redo (lane_of ws)
unfolding lane_of redone phase_of floor_of
redo-read [] rest redo n e = absurd (omega arith)
redo-read (a ∷ []) rest redo n e = absurd (omega arith)
redo-read (a ∷ b ∷ []) rest redo n e = absurd (omega arith)
redo-read (a ∷ b ∷ c ∷ []) rest redo n e = absurd (omega arith)
redo-read (a ∷ b ∷ c ∷ d ∷ []) rest redo n e = absurd (omega arith)
redo-read (a ∷ b ∷ c ∷ d ∷ g ∷ []) rest redo n e = absurd (omega arith)
redo-read (a ∷ b ∷ c ∷ d ∷ g ∷ h ∷ []) rest redo n e = absurd (omega arith)
redo-read (a ∷ b ∷ c ∷ d ∷ g ∷ h ∷ i ∷ []) rest redo n e = absurd (omega arith)
redo-read (a ∷ b ∷ c ∷ d ∷ g ∷ h ∷ i ∷ j ∷ ws) rest redo n e = lane-same g h refl refl (redo-back redo rest e)

pub redo-put : (ws ps : List ℕ) (L : ℕ) (redo : List Pair) → L < max_lanes → length ws ≡ record_length → length redo ≡ max_writes
    → length ps ≡ pairs_length → ps ≡ row_words pair_words redo
    → let at = 2 + lane_length * L + head_length in record_of (put_mid at (at + pairs_length - at) ws ps)
    ≡ with_lane (record_of ws) L (redone redo (lane_at (record_of ws) L))
redo-put ws ps L redo h n r m e =
    let lane = 2 + lane_length * L in
    let at = lane + head_length in
    let k = at + pairs_length - at in
    let ys = put_mid at k ws ps in
    let len : length ps ≡ k = omega (arith, m) in
    lane-changed L ws ys h (front_less lane at ws ys (omega arith) (sym (take_put at k ws ps (omega (arith, n)))))
    (back_from (at + pairs_length) (2 + lane_length * suc L) ws ys (omega arith)
    (sym (drop_put at (at + pairs_length) ws ps (omega arith) (omega (arith, n)) len)))
    ∙ ap (with_lane (record_of ws) L)
    (ap lane_of
    (drop-append-le lane (take at ws) (ps ++ post_of at k ws) (omega (arith, length-take-le at ws (omega (arith, n))))
    ∙ ap (λ (l : List ℕ). l ++ (ps ++ post_of at k ws)) (sym (take-of-drop lane head_length ws))
    ∙ ap (λ (l : List ℕ). take head_length (drop lane ws) ++ (l ++ post_of at k ws)) e)
    ∙ redo-read (drop lane ws) (post_of at k ws) redo (omega (arith, length-drop lane ws, n)) r
    ∙ ap (redone redo) (sym (lane-is ws L h)))

-- ---- the lock
lock-read : (k : Lock) (rest : List ℕ) → lock_of (lock_words k ++ rest) ≡ k
unfolding lock_of lock_words bit_for is_held locked_in
lock-read None rest = refl
lock-read (Some k) rest = refl

pub lock-put : (ws ks : List ℕ) (k : Lock) → length ws ≡ record_length → ks ≡ lock_words k
    → record_of (put_mid (lanes_end + 1) (length ws - (lanes_end + 1)) ws ks) ≡ with_lock (record_of ws) k
unfolding record_of with_lock
lock-put ws ks k e f =
    let n = length ws - (lanes_end + 1) in
    let ys = put_mid (lanes_end + 1) n ws ks in
    let g : take (lanes_end + 1) ys ≡ take (lanes_end + 1) ws = take_put (lanes_end + 1) n ws ks (omega (arith, e)) in
    record_same (front_at 0 (lanes_end + 1) ys ws (omega arith) g) (front_at 1 (lanes_end + 1) ys ws (omega arith) g)
    (row_same lane_length lane_of lane-own max_lanes (drop 2 ys) (drop 2 ws)
    (front-from 2 (lane_length * max_lanes) ys ws (front_less (2 + lane_length * max_lanes) (lanes_end + 1) ys ws (omega arith) g)))
    (front_at lanes_end (lanes_end + 1) ys ws (omega arith) g)
    (ap lock_of
    (drop_at (take (lanes_end + 1) ws) (ks ++ post_of (lanes_end + 1) n ws) (lanes_end + 1) (length-take-le (lanes_end + 1) ws (omega (arith, e)))
    ∙ ap (λ (l : List ℕ). l ++ post_of (lanes_end + 1) n ws) f)
    ∙ lock-read k (post_of (lanes_end + 1) n ws))

-- ---- normal form
-- a lane's words once its phase is normal, and then its floor
unfoldable pub phased : List ℕ → List ℕ
phased ws = cond (eqb (get_or ws 0 0) 0) (set (set (set ws 1 0) 2 0) 3 0) (set ws 0 1)

unfoldable pub floored : List ℕ → List ℕ
floored ws = cond (eqb (get_or ws 6 0) 0) (set ws 7 0) (set ws 6 1)

pub phase-unset : (ws : List ℕ) → get_or ws 0 0 ≡ 0 → set (set (set ws 1 0) 2 0) 3 0 ≡ phased ws
unfolding phased
phase-unset ws e = rw (eq-eqb (get_or ws 0 0) 0 e)

pub phase-set : (ws : List ℕ) → get_or ws 0 0 ≢ 0 → set ws 0 1 ≡ phased ws
unfolding phased
phase-set ws n = rw (ne_eqb (get_or ws 0 0) 0 n)

pub floor-unset : (ws : List ℕ) → get_or ws 6 0 ≡ 0 → set ws 7 0 ≡ floored ws
unfolding floored
floor-unset ws e = rw (eq-eqb (get_or ws 6 0) 0 e)

pub floor-set : (ws : List ℕ) → get_or ws 6 0 ≢ 0 → set ws 6 1 ≡ floored ws
unfolding floored
floor-set ws n = rw (ne_eqb (get_or ws 6 0) 0 n)

pub phased-length : (ws : List ℕ) → length (phased ws) ≡ length ws
unfolding phased
phased-length ws = by (eqb (get_or ws 0 0) 0)
  where
    by : (t : Bool) → length (cond t (set (set (set ws 1 0) 2 0) 3 0) (set ws 0 1)) ≡ length ws
    by true = length-set (set (set ws 1 0) 2 0) 3 0 ∙ length-set (set ws 1 0) 2 0 ∙ length-set ws 1 0
    by false = length-set ws 0 1

lane_pick : (t u : Bool) (a b c d e f g h : ℕ) {ws ys : List ℕ} → eqb a 0 ≡ t → eqb g 0 ≡ u → ws ≡ ys
    → let p : Phase = cond t None (Some (record { first = b; count = c; stamp = d })) in
    let q : Option ℕ = cond u None (Some h) in
    floored (cond t (a ∷ 0 ∷ 0 ∷ 0 ∷ e ∷ f ∷ g ∷ h ∷ ws) (1 ∷ b ∷ c ∷ d ∷ e ∷ f ∷ g ∷ h ∷ ws))
    ≡ bit_for (is_logged p) ∷ (logged_in p).first ∷ (logged_in p).count ∷ (logged_in p).stamp ∷ e ∷ f ∷ bit_for (is_set q) ∷ stamp_of q ∷ ys
unfolding floored bit_for is_logged logged_in is_set stamp_of
lane_pick true true a b c d e f g h p q w = rw q (eight-same e f (eqb-true a 0 p) refl refl refl (eqb-true g 0 q) refl w)
lane_pick true false a b c d e f g h p q w = rw q (eight-same e f (eqb-true a 0 p) refl refl refl refl refl w)
lane_pick false true a b c d e f g h p q w = rw q (eight-same e f refl refl refl refl (eqb-true g 0 q) refl w)
lane_pick false false a b c d e f g h p q w = rw q (eight-same e f refl refl refl refl refl refl w)

pub lane-normalised : (ws : List ℕ) → length ws ≡ lane_length → floored (phased ws) ≡ lane_words (lane_of ws)
unfolding phased lane_words head_words lane_of phase_of floor_of
lane-normalised [] n = absurd (omega (arith, n))
lane-normalised (a ∷ []) n = absurd (omega (arith, n))
lane-normalised (a ∷ b ∷ []) n = absurd (omega (arith, n))
lane-normalised (a ∷ b ∷ c ∷ []) n = absurd (omega (arith, n))
lane-normalised (a ∷ b ∷ c ∷ d ∷ []) n = absurd (omega (arith, n))
lane-normalised (a ∷ b ∷ c ∷ d ∷ e ∷ []) n = absurd (omega (arith, n))
lane-normalised (a ∷ b ∷ c ∷ d ∷ e ∷ f ∷ []) n = absurd (omega (arith, n))
lane-normalised (a ∷ b ∷ c ∷ d ∷ e ∷ f ∷ g ∷ []) n = absurd (omega (arith, n))
lane-normalised (a ∷ b ∷ c ∷ d ∷ e ∷ f ∷ g ∷ h ∷ ws) n =
    lane_pick (eqb a 0) (eqb g 0) a b c d e f g h refl refl
    (sym (pairs-forth max_writes ws (omega (arith, n)) ∙ take_all (max_writes * 2) ws (omega (arith, n))))

-- the first l lanes of words₀ are normal
pub record Normalised (words₀ : List ℕ) (l : ℕ) (words : List ℕ) : Type 0 where
  pub begun : Begun record_length (up_to (record_of words₀) l) (2 + lane_length * l) words
  pub behind : drop (2 + lane_length * l) words ≡ drop (2 + lane_length * l) words₀

pub normalised-none : (ws : List ℕ) → length ws ≡ record_length → Normalised ws 0 ws
unfolding up_to record_of row_words
normalised-none [] e = absurd (omega (arith, e))
normalised-none (a ∷ []) e = absurd (omega (arith, e))
normalised-none (a ∷ b ∷ ws) e = record { begun = record { in_all = e; so_far = refl }; behind = refl }

pub normalised-on : (words₀ : List ℕ) (l at : ℕ) (ws ys : List ℕ) → Normalised words₀ l ws → at ≡ 2 + lane_length * l → l < max_lanes
    → length ys ≡ lane_length → ys ≡ lane_words (lane_of (take (at + lane_length - at) (drop at ws)))
    → Normalised words₀ (l + 1) (put_mid at (at + lane_length - at) ws ys)
normalised-on words₀ l at ws ys b a h n y =
    let next : at + lane_length ≡ 2 + lane_length * (l + 1) = omega arith in
    let len : at + lane_length - at ≡ lane_length = omega arith in
    let same : drop at ws ≡ drop at words₀ = ap (λ k. drop k ws) a ∙ b.behind ∙ ap (λ k. drop k words₀) (sym a) in
    let lane : lane_of (take (at + lane_length - at) (drop at ws)) ≡ get_or (record_of words₀).lanes l no_lane =
    ap (λ k. lane_of (take k (drop at ws))) len ∙ sym (lane-own (drop at ws)) ∙ ap lane_of (same ∙ ap (λ k. drop k words₀) a) ∙ sym (lane-in words₀ l h) in
    let full = b.begun.in_all in
    record {
      begun = lanes_on (record_of words₀) l at ws ys (rw a b.begun) a h (lanes-read words₀) n (y ∙ ap lane_words lane);
      behind = ap (λ k. drop k (put_mid at (at + lane_length - at) ws ys)) (sym next)
          ∙ drop_put at (at + lane_length) ws ys (omega arith) (omega (arith, full)) (omega (arith, n))
          ∙ back_from at (at + lane_length) ws words₀ (omega arith) same
          ∙ ap (λ k. drop k words₀) next;
    }

lag-of : (ws : List ℕ) → (record_of ws).lag ≡ get_or ws lanes_end 0
unfolding record_of
lag-of ws = refl

lock-of : (ws : List ℕ) → (record_of ws).lock ≡ lock_of (drop (lanes_end + 1) ws)
unfolding record_of
lock-of ws = refl

pub normalised-all : (words₀ : List ℕ) (l : ℕ) (ws ys : List ℕ) → Normalised words₀ l ws → l ≡ max_lanes
    → ys ≡ lock_words (lock_of (take (length ws - (lanes_end + 1)) (drop (lanes_end + 1) ws)))
    → Begun record_length (words_of (record_of words₀)) record_length (put_mid (lanes_end + 1) (length ws - (lanes_end + 1)) ws ys)
normalised-all words₀ l ws ys b h y =
    let r = record_of words₀ in
    let lag : set ws lanes_end r.lag ≡ ws =
    ap (set ws lanes_end) (lag-of words₀ ∙ back_at (2 + lane_length * l) lanes_end words₀ ws (omega arith) (sym b.behind)) ∙ set-get_or ws lanes_end 0 in
    let lock : ys ≡ lock_words r.lock =
    y
    ∙ ap (λ (l : List ℕ). lock_words (lock_of l))
    (tail-is (lanes_end + 1) ws ∙ back_from (2 + lane_length * l) (lanes_end + 1) ws words₀ (omega arith) b.behind)
    ∙ ap lock_words (sym (lock-of words₀)) in
    rw lag at (record-put r l ws (lock_words r.lock) ys b.begun h (lanes-read words₀) refl lock)

-- ---- normal form of the lock
pub lock-unset : (ws : List ℕ) → length ws ≡ holder_length → get_or ws 0 0 ≡ 0
    → set (set (set (set (set ws 1 0) 2 0) 3 0) 4 0) 5 0 ≡ lock_words (lock_of ws)
unfolding lock_words lock_of bit_for is_held locked_in
lock-unset [] n h = absurd (omega (arith, n))
lock-unset (a ∷ []) n h = absurd (omega (arith, n))
lock-unset (a ∷ b ∷ []) n h = absurd (omega (arith, n))
lock-unset (a ∷ b ∷ c ∷ []) n h = absurd (omega (arith, n))
lock-unset (a ∷ b ∷ c ∷ d ∷ []) n h = absurd (omega (arith, n))
lock-unset (a ∷ b ∷ c ∷ d ∷ e ∷ []) n h = absurd (omega (arith, n))
lock-unset (a ∷ b ∷ c ∷ d ∷ e ∷ f ∷ []) n h = rw h
lock-unset (a ∷ b ∷ c ∷ d ∷ e ∷ f ∷ g ∷ ws) n h = absurd (omega (arith, n))

pub lock-set : (ws : List ℕ) → length ws ≡ holder_length → get_or ws 0 0 ≢ 0 → set ws 0 1 ≡ lock_words (lock_of ws)
unfolding lock_words lock_of bit_for is_held locked_in
lock-set [] n h = absurd (omega (arith, n))
lock-set (a ∷ []) n h = absurd (omega (arith, n))
lock-set (a ∷ b ∷ []) n h = absurd (omega (arith, n))
lock-set (a ∷ b ∷ c ∷ []) n h = absurd (omega (arith, n))
lock-set (a ∷ b ∷ c ∷ d ∷ []) n h = absurd (omega (arith, n))
lock-set (a ∷ b ∷ c ∷ d ∷ e ∷ []) n h = absurd (omega (arith, n))
lock-set (a ∷ b ∷ c ∷ d ∷ e ∷ f ∷ []) n h = rw (ne_eqb a 0 h)
lock-set (a ∷ b ∷ c ∷ d ∷ e ∷ f ∷ g ∷ ws) n h = absurd (omega (arith, n))

-- ---- what stands where a field has no value
pub bit-byte : (b : Bool) → bool_byte b ≡ bit_for b
unfolding bit_for
bit-byte true = refl
bit-byte false = refl

pub logged-default : (p : Phase) (g : Logged) → UnwrapsOrElse p (λ r. (r.first ≡ 0) × ((r.count ≡ 0) × (r.stamp ≡ 0))) g → g ≡ logged_in p
unfolding logged_in
logged-default None g h = rw (h.0, h.1.0, h.1.1)
logged-default (Some g) k h = h

pub locked-default : (l : Lock) (k : Locked)
    → UnwrapsOrElse l (λ r. (r.lane ≡ 0) × ((r.stamp ≡ 0) × ((r.count ≡ 0) × ((r.logged ≡ 0) × (r.written ≡ 0))))) k → k ≡ locked_in l
unfolding locked_in
locked-default None k h = rw (h.0, h.1.0, h.1.1.0, h.1.1.1.0, h.1.1.1.1)
locked-default (Some k) j h = h

pub stamp-default : (f : Option ℕ) → unwrap_or f 0 ≡ stamp_of f
unfolding stamp_of
stamp-default None = refl
stamp-default (Some s) = refl
