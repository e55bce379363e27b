-- Inner: how the code goes, need not be believed. Laws of printing: one text put after another, the digits that `io` spells, and how long the lines are.
-- Assumes nothing.
use Rattle.std.specs.Prelude.{◌≡◌, refl, List, [], ◌∷◌, ◌++◌, ℕ, zero, suc, ◌+◌, ◌-◌, ◌*◌, ◌/◌, ◌%◌, ◌^◌, ◌≤◌, ◌<◌, leb, ltb, get_or, Option, Some, None}
use Rattle.std.proofs.Math.Path.{sym, ap}
use Rattle.std.proofs.Common.{◌∙◌, append-nil, append_assoc, arith, add-one, lt-ltb, le-ltb, leb-true, leb-false}
use Rattle.std.proofs.Math.Nat.{pow-succ', one-le-pow, pow-le-pow_right}
use Rattle.std.proofs.Math.ListN.{length, length-append}
use Rattle.laws.specs.inner.Tests.{split}
use Rattle.io.specs.Digits.{last_digits, hex_digit_ascii, IsDigitCount}
use Rattle.report.specs.Report.{max_digits, boundary_room, word_room, digits_of, decimal, stamp_text, boundary_line, word_line, word_lines}
use Rattle.report.specs.inner.ReportFacts.{Put}

-- ---- one text after another
-- nothing
pub put-none : (old : List ℕ) → Put old [] old
put-none old = record { grown = sym (append-nil old) }

-- one text and then another
pub put_then : {old s mid t new : List ℕ} → Put old s mid → Put mid t new → Put old (s ++ t) new
put_then {old} {s} {mid} {t} p q = record { grown = q.grown ∙ ap (λ l. l ++ t) p.grown ∙ append_assoc old s t }

-- the same text in other words
pub put_same : {old s t new : List ℕ} → s ≡ t → Put old s new → Put old t new
put_same {old} e p = record { grown = p.grown ∙ ap (λ l. old ++ l) e }

-- on a new page
pub put-first : {old s new : List ℕ} → old ≡ [] → Put old s new → new ≡ s
put-first {old} {s} e p = p.grown ∙ ap (λ l. l ++ s) e

pub put-long : {old s new : List ℕ} → Put old s new → length new ≡ length old + length s
put-long {old} {s} p = ap length p.grown ∙ length-append old s

-- room: what a text of at most k bytes leaves of k + m
pub put-room : {old s new : List ℕ} {size : ℕ} (k m : ℕ) → Put old s new → length s ≤ k → length old + (k + m) ≤ size → length new + m ≤ size
put-room k m p h r = omega (arith, put-long p)

-- ---- digits
-- the digits that `io::decimal` spells are the fewest that hold the number
glyph-digit : (d : ℕ) → d < 10 → hex_digit_ascii d ≡ 48 + d
glyph-digit d h = rw (lt-ltb d 10 h)

above : (k n : ℕ) → IsDigitCount 10 1 n (suc (suc k)) → 10 ^ suc k ≤ n
above k n f = rw (let e : suc (suc k) - 1 ≡ suc k = omega arith in e) at (f.2 (omega arith))

pub digits_are : (most k n : ℕ) → IsDigitCount 10 1 n k → k ≤ most → last_digits 10 k n ≡ digits_of most n
unfolding digits_of
digits_are most zero n f h = absurd (omega arith)
digits_are zero (suc k) n f h = absurd (omega arith)
digits_are (suc most) (suc zero) n f h =
    rw (lt-ltb n 10 (omega arith)) (ap (λ d. d ∷ []) (glyph-digit (n % 10) (omega arith) ∙ (let e : 48 + n % 10 ≡ 48 + n = omega arith in e)))
digits_are (suc most) (suc (suc k)) n f h =
    let low : 10 ^ suc k ≤ n = above k n f in
    let p : 10 ^ suc k ≡ 10 * 10 ^ k = pow-succ' 10 k in
    let q : 10 ^ suc (suc k) ≡ 10 * 10 ^ suc k = pow-succ' 10 (suc k) in
    let o : 1 ≤ 10 ^ k = one-le-pow k 10 (omega arith) in
    let fewer : IsDigitCount 10 1 (n / 10) (suc k) = (omega arith, omega (arith, f.1), λ _. rw (let e : suc k - 1 ≡ k = omega arith in e) (omega arith)) in
    rw (le-ltb n 10 (omega arith), glyph-digit (n % 10) (omega arith))
    (ap (λ l. l ++ ((48 + n % 10) ∷ [])) (digits_are most (suc k) (n / 10) fewer (omega arith)))

pub decimal-are : (k n : ℕ) → IsDigitCount 10 1 n k → k ≤ max_digits → last_digits 10 k n ≡ decimal n
unfolding decimal
decimal-are k n f h = digits_are max_digits k n f h

-- a word has at most max_digits of them
pub fewest-few : (n k : ℕ) → n < 2 ^ 64 → IsDigitCount 10 1 n k → k ≤ max_digits
fewest-few n k h f =
    split (leb k max_digits)
    (λ e. leb-true k max_digits e)
    (λ e.
    let more : max_digits < k = leb-false k max_digits e in
    let p : 10 ^ max_digits ≤ 10 ^ (k - 1) = pow-le-pow_right {n = 10} (omega arith) {i = max_digits} {j = k - 1} (omega arith) in
    absurd (omega (arith, f.2 (omega arith))))

digits-few : (most n : ℕ) → length (digits_of most n) ≤ most
unfolding digits_of
digits-few zero n = omega arith
digits-few (suc most) n =
    split (ltb n 10)
    (λ e. rw e (omega arith))
    (λ e. rw (e, length-append (digits_of most (n / 10)) ((48 + n % 10) ∷ [])) (omega (arith, digits-few most (n / 10))))

pub decimal-few : (n : ℕ) → length (decimal n) ≤ max_digits
unfolding decimal
decimal-few n = digits-few max_digits n

-- ---- lines
pub line-short : (i v : ℕ) → length (word_line i v) ≤ word_room
unfolding word_line
line-short i v =
    simp length-append (omega (arith, decimal-few i, decimal-few v))

pub lines_none : (ws : List ℕ) → word_lines ws 0 ≡ []
unfolding word_lines
lines_none ws = refl

pub lines_more : (ws : List ℕ) (n : ℕ) → word_lines ws (n + 1) ≡ word_lines ws n ++ word_line n (get_or ws n 0)
unfolding word_lines
lines_more ws n = rw (add-one n)

pub lines-short : (ws : List ℕ) (n : ℕ) → length (word_lines ws n) ≤ word_room * n
unfolding word_lines
lines-short ws zero = omega arith
lines-short ws (suc n) = rw length-append (omega (arith, lines-short ws n, line-short n (get_or ws n 0)))

-- ---- a timestamp, and the line of the boundary
pub stamp-few : (s : Option ℕ) → length (stamp_text s) ≤ max_digits
unfolding stamp_text
stamp-few None = omega arith
stamp-few (Some s) = decimal-few s

pub boundary-short : (b : Option ℕ) → length (boundary_line b) ≤ boundary_room
unfolding boundary_line
boundary-short b = simp length-append (omega (arith, stamp-few b))
