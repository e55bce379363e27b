-- Inner: how the code goes, need not be believed. Format's image, made in parts: the base timestamp, the start words, the logs, the trailer. Assumes
-- nothing.
use Rattle.std.specs.Prelude.{ℕ, ◌+◌, ◌-◌, ◌*◌, ◌≤◌, ◌≡◌, set, take, drop}
use Rattle.std.proofs.Common.{sym, ◌∙◌, le_refl, drop_of_length-le, take_at, take-suc-set, length-take-le}
use Rattle.std.proofs.Math.Path.{ap}
use mathlib.Core.List.{List, [], ◌∷◌, ◌++◌, append_assoc, append-nil}
use native.Mathlib.Omega.{arith}
use Rattle.std.proofs.Math.ListN.{length, replicate, length-set, length-append, length-drop}
use Rattle.std.proofs.lemmas.List.{length-replicate}
use borrow.Rule.Slice.PartMut.{mid_of, put_mid, same_len_mid, mid_len, Post-is}
use Rattle.image.specs.Image.{former_length, trailer, image_length}
use Rattle.image.specs.declared.Sizes.{Sizes}
use Rattle.store.specs.Calls.{start_image}
use Rattle.store.specs.inner.Checked.{body_of}

pub length-body : (z : Sizes) (start : List ℕ) → length start ≡ z.words → length (body_of z start) ≡ former_length z
unfolding body_of former_length
length-body z start e =
    rw (length-append start (replicate (2 * z.lanes * z.slots) 0), length-replicate {A = ℕ} (2 * z.lanes * z.slots) 0, e) (omega arith)

-- the trailer stands after it
pub body-trailer : (z : Sizes) (start : List ℕ) → start_image z start ≡ body_of z start ++ trailer z
unfolding start_image body_of
body-trailer z start = ap (λ (l : List ℕ). 0 ∷ l) (sym (append_assoc start (replicate (2 * z.lanes * z.slots) 0) (trailer z)))

pub length-start_image : (z : Sizes) (start : List ℕ) → length start ≡ z.words → length (start_image z start) ≡ image_length z
unfolding image_length trailer
length-start_image z start e = ap length (body-trailer z start) ∙ length-append (body_of z start) (trailer z) ∙ ap (λ (k : ℕ). k + 4) (length-body z start e)

-- what base timestamp and start words leave is the logs
logs-left : (z : Sizes) (start words : ℕ) → start ≡ z.words → words ≡ former_length z → words - (1 + start) ≡ 2 * z.lanes * z.slots
unfolding former_length
logs-left z start words e n = omega arith

-- a part that reaches to the end, put back
put_last : (at : ℕ) (xs ys : List ℕ) → at ≤ length xs → put_mid at (length xs - at) xs ys ≡ take at xs ++ ys
put_last at xs ys h =
    ap (λ (l : List ℕ). take at xs ++ (ys ++ l)) (Post-is at (length xs) xs h ∙ drop_of_length-le xs {i = length xs} (omega arith))
    ∙ ap (λ (l : List ℕ). take at xs ++ l) (append-nil ys)

module _ (z : Sizes) (start words : List ℕ) (e : length start ≡ z.words) (n : length words ≡ former_length z) where
  -- the part for the start words lies in the buffer
  pub start-inside : 1 + length start ≤ length (set words 0 0)
  unfolding former_length
  start-inside = omega (arith, length-set words 0 0)

  -- base timestamp and start words stored
  module _ (ys : List ℕ) (c : ys ≡ start) where
    abbrev begun : List ℕ
    begun = put_mid 1 (1 + length start - 1) (set words 0 0) ys

    length-begun : length begun ≡ length words
    length-begun =
        same_len_mid 1 (1 + length start - 1) (set words 0 0) ys
        (ap length c ∙ (let q : length start ≡ 1 + length start - 1 = omega arith in q) ∙ sym (mid_len 1 (1 + length start) (set words 0 0) start-inside))
        ∙ length-set words 0 0

    -- the part for the logs lies in the buffer
    pub logs-inside : 1 + length start ≤ length begun
    logs-inside = omega (arith, start-inside, length-set words 0 0, length-begun)

    take-begun : take (1 + length start) begun ≡ 0 ∷ start
    take-begun =
        let rest : List ℕ = drop (1 + length start - 1) (drop 1 (set words 0 0)) in
        ap (take (1 + length start)) (sym (append_assoc (take 1 (set words 0 0)) ys rest) ∙ ap (λ (l : List ℕ). l ++ rest) front)
        ∙ take_at (0 ∷ start) rest (1 + length start) (omega arith)
      where
        front : take 1 (set words 0 0) ++ ys ≡ 0 ∷ start
        front = ap (λ (l : List ℕ). l ++ ys) (take-suc-set words 0 0 (omega (arith, start-inside, length-set words 0 0))) ∙ ap (λ (l : List ℕ). 0 ∷ l) c

    -- and the logs cleared
    pub begun-cleared : (zs : List ℕ) → zs ≡ replicate (length (mid_of (1 + length start) (length begun - (1 + length start)) begun)) 0
        → put_mid (1 + length start) (length begun - (1 + length start)) begun zs ≡ body_of z start
    unfolding body_of
    begun-cleared zs d =
        put_last (1 + length start) begun zs logs-inside
        ∙ ap (λ (l : List ℕ). l ++ zs) take-begun
        ∙ ap (λ (l : List ℕ). 0 ∷ (start ++ l))
        (d ∙ ap (λ (k : ℕ). replicate k 0)
        (mid_len (1 + length start) (length begun) begun (omega arith) ∙ logs-left z (length start) (length begun) e (length-begun ∙ n)))

-- four words stored are the trailer
pub trailer-stored : (z : Sizes) (last : List ℕ) (k : ℕ) → length last ≡ 4 → k ≡ former_length z
    → set (set (set (set last 0 z.words) 1 z.lanes) 2 z.slots) 3 k ≡ trailer z
unfolding trailer
trailer-stored z [] k n e = absurd (omega arith)
trailer-stored z (a ∷ []) k n e = absurd (omega arith)
trailer-stored z (a ∷ b ∷ []) k n e = absurd (omega arith)
trailer-stored z (a ∷ b ∷ c ∷ []) k n e = absurd (omega arith)
trailer-stored z (a ∷ b ∷ c ∷ d ∷ f ∷ l) k n e = absurd (omega arith)
trailer-stored z (a ∷ b ∷ c ∷ d ∷ []) k n e = ap (λ (l : ℕ). z.words ∷ z.lanes ∷ z.slots ∷ l ∷ []) e

-- the part for the body
module _ (z : Sizes) (old : List ℕ) (end : ℕ) (n : length old ≡ image_length z) (e : end ≡ former_length z) where
  pub body-inside : end ≤ length old
  unfolding image_length
  body-inside = omega arith

  pub body-room : length (take end old) ≡ end
  body-room = length-take-le end old body-inside

-- the body made, and then the trailer after it
module _ (z : Sizes) (start old body : List ℕ) (end : ℕ) (s : length start ≡ z.words) (n : length old ≡ image_length z) (e : end ≡ former_length z)
    (b : body ≡ body_of z start) where
  abbrev half : List ℕ
  half = body ++ drop end old

  length-half : length half ≡ image_length z
  unfolding image_length
  length-half = omega (arith, length-append body (drop end old), ap length b ∙ length-body z start s, length-drop end old)

  -- the part for the trailer
  pub trailer-inside : end ≤ length half
  unfolding image_length
  trailer-inside = omega (arith, length-half)

  pub trailer-room : length (take (length half - end) (drop end half)) ≡ 4
  unfolding image_length
  trailer-room = mid_len end (length half) half (le_refl (length half)) ∙ (let q : length half - end ≡ 4 = omega (arith, length-half) in q)

  pub trailer-put : (ys : List ℕ) → ys ≡ trailer z → put_mid end (length half - end) half ys ≡ start_image z start
  trailer-put ys t =
      put_last end half ys trailer-inside
      ∙ ap (λ (l : List ℕ). l ++ ys) (take_at body (drop end old) end (ap length b ∙ length-body z start s ∙ sym e) ∙ b)
      ∙ ap (λ (l : List ℕ). body_of z start ++ l) t
      ∙ sym (body-trailer z start)
