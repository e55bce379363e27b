-- What was read of a reader whose bytes are known. Assumes nothing.
use Rattle.std.proofs.Common.{◌≡◌, ℕ, ◌<◌, ◌≤◌, List, [], ◌++◌, length, take, Option, None, Some, IfSome, sym, ap, ◌∙◌, subst, arith, inl, inr, length-take-le}
use Rattle.std.proofs.lemmas.Bool.{cases_lt}
use Rattle.std.proofs.lemmas.List.{append-nil, take_all, take-append-le}
use Rattle.std.specs.Io.KnownBytes.{Consumes, IsAtEnd}

first-of : (n : ℕ) (input rest : List ℕ) → length input ≤ n → (length input < n → rest ≡ []) → input ≡ take n (input ++ rest)
first-of n input rest few end = elim (cases_lt (length input) n) [
  | inl h ↦ sym (ap (λ l. take n (input ++ l)) (end h) ∙ ap (take n) (append-nil input) ∙ take_all n input few)
  | inr h ↦ sym (take-append-le n input rest h ∙ take_all n input few)
]

-- up to n bytes, and fewer only where no more are left, are the first n of them
pub taken : (a b : Option (List ℕ)) (n : ℕ) (input : List ℕ) (P : List ℕ → Type 0) → Consumes a b input → length input ≤ n → (length input < n → IsAtEnd b)
    → ((xs : List ℕ) → input ≡ take n xs → P xs) → IfSome a P
taken None b n input P gave few end holds = tt
taken (Some xs) None n input P gave few end holds = absurd gave
taken (Some xs) (Some ys) n input P gave few end holds = holds xs (first-of n input ys few end ∙ ap (take n) (sym gave))

-- a text that the first n bytes of an input determine: what holds of the text of what was read, up to n bytes at the start of a buffer, holds of the text
-- of all that the reader had
pub of-all : (text : List ℕ → List ℕ) (n : ℕ) → ((xs : List ℕ) → text (take n xs) ≡ text xs) → (a b : Option (List ℕ)) (buf rest : List ℕ) (count : ℕ) (P : List ℕ → Type 0)
    → length buf ≡ n → count ≤ length buf → Consumes a b (take count buf) → (count < length buf → IsAtEnd b) → P (text (take count (buf ++ rest)))
    → IfSome a (λ xs. P (text xs))
of-all text n same a b buf rest count P full within gave end holds =
    let long = length-take-le count buf within in
    taken a b n (take count buf) (λ xs. P (text xs)) gave (omega (arith, long, full, within)) (λ h. end (omega (arith, long, full, h)))
    (λ xs e. subst P (ap text (take-append-le count buf rest within ∙ e) ∙ same xs) holds)
