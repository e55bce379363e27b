-- Inner: how the code goes, need not be believed. The value that undoing leaves at a data word: the first old value of the last sequence, in the order
-- of undoing, that names it. Assumes nothing.
use Rattle.std.specs.Prelude.{◌≡◌, Bool, cond, ◌||◌, List, [], ◌∷◌, ℕ, ◌+◌, eqb}
use Rattle.std.proofs.Math.Path.{refl}
use Rattle.std.proofs.Common.{ap₂, ◌∙◌, arith, eqb-true, eq-eqb, ne_eqb}
use Rattle.std.proofs.Math.Bool.{true, false}
use Rattle.std.proofs.lemmas.Bool.{eqb-false}
use Rattle.laws.specs.inner.Tests.{split, clash, or_left, or_right}
use Rattle.image.specs.inner.StoresLaws.{last_at, last_at-append}
use Rattle.lane_log.specs.Log.{Old, Complete, undone_before}
use Rattle.recovery.specs.Recovery.{undo_entries, undo_sequences}
use Rattle.laws.specs.inner.Members.{In, here, there}

-- ---- entries
-- the old value of the first entry that names word w, x where there is none
unfoldable pub first_old : List Old → (w x : ℕ) → ℕ
first_old [] w x = x
first_old (e ∷ es) w x = cond (eqb e.word w) e.old (first_old es w x)

-- does an entry name word w
unfoldable pub writes : List Old → (w : ℕ) → Bool
writes [] w = false
writes (e ∷ es) w = eqb e.word w || writes es w

eqb-suc : (a b : ℕ) → eqb (1 + a) (1 + b) ≡ eqb a b
eqb-suc a b =
    split (eqb a b)
    (λ e. rw e (eq-eqb (1 + a) (1 + b) (omega (arith, eqb-true a b e))))
    (λ e. rw e (ne_eqb (1 + a) (1 + b) (λ p. eqb-false a b e (omega arith))))

pub undo_entries-at : (es : List Old) (w x : ℕ) → last_at (undo_entries es) (1 + w) x ≡ first_old es w x
unfolding undo_entries first_old last_at
undo_entries-at [] w x = refl
undo_entries-at (e ∷ es) w x =
    last_at-append (undo_entries es) (record { at = 1 + e.word; value = e.old } ∷ []) (1 + w) x
    ∙ ap₂ (λ b y. cond b e.old y) (eqb-suc e.word w) (undo_entries-at es w x)

pub first_old-none : (es : List Old) (w x : ℕ) → writes es w ≡ false → first_old es w x ≡ x
unfolding first_old writes
first_old-none [] w x h = refl
first_old-none (e ∷ es) w x h = rw (or_left (eqb e.word w) _ h) (first_old-none es w x (or_right (eqb e.word w) _ h))

-- ---- sequences
unfoldable pub firsts_of : List Complete → (w x : ℕ) → ℕ
firsts_of [] w x = x
firsts_of (q ∷ qs) w x = firsts_of qs w (first_old q.entries w x)

pub undo_sequences-at : (qs : List Complete) (w x : ℕ) → last_at (undo_sequences qs) (1 + w) x ≡ firsts_of qs w x
unfolding undo_sequences firsts_of last_at
undo_sequences-at [] w x = refl
undo_sequences-at (q ∷ qs) w x =
    last_at-append (undo_entries q.entries) (undo_sequences qs) (1 + w) x
    ∙ rw (undo_entries-at q.entries w x) (undo_sequences-at qs w (first_old q.entries w x))

-- does a sequence name word w
unfoldable pub any_writes : List Complete → (w : ℕ) → Bool
any_writes [] w = false
any_writes (q ∷ qs) w = writes q.entries w || any_writes qs w

pub any_writes-in : (w : ℕ) {q : Complete} {qs : List Complete} → In q qs → writes q.entries w ≡ true → any_writes qs w ≡ true
unfolding any_writes
any_writes-in w here e = rw e
any_writes-in w {q} (there {y = r} i) e = split (writes r.entries w) (λ t. rw t) (λ t. rw t (any_writes-in w i e))

pub firsts_of-none : (qs : List Complete) (w x : ℕ) → any_writes qs w ≡ false → firsts_of qs w x ≡ x
unfolding firsts_of any_writes
firsts_of-none [] w x h = refl
firsts_of-none (q ∷ qs) w x h =
    firsts_of-none qs w (first_old q.entries w x) (or_right (writes q.entries w) _ h)
    ∙ first_old-none q.entries w x (or_left (writes q.entries w) _ h)

-- ---- what undoing leaves at word w: the first old value of the last sequence that names it
module _ (w y : ℕ) where
  pub data Ends : List Complete → Type 0 where
    done : Ends []
    ends : {q : Complete} {qs : List Complete} → (any_writes qs w ≡ false → writes q.entries w ≡ true → (x : ℕ) → first_old q.entries w x ≡ y) → Ends qs
        → Ends (q ∷ qs)

  pub firsts_of-ends : {qs : List Complete} (x : ℕ) → Ends qs → any_writes qs w ≡ true → firsts_of qs w x ≡ y
  unfolding firsts_of any_writes
  firsts_of-ends x done h = clash false h refl
  firsts_of-ends x (ends {q = q} {qs = qs} f es) h =
      split (any_writes qs w)
      (λ e. firsts_of-ends (first_old q.entries w x) es e)
      (λ e. firsts_of-none qs w (first_old q.entries w x) e ∙ f e (only (writes q.entries w) (rw e at h)) x)
    where
      only : (b : Bool) → (b || false) ≡ true → b ≡ true
      only true h = refl
      only false h = h

-- a sequence of qs has the value below its timestamp at a word, unless one of the same timestamp that is undone after it names the word too
unfoldable pub OldIn : (w : ℕ) (f : ℕ → ℕ) → List Complete → Complete → Type 0
OldIn w f qs q =
    ((r : Complete) → In r qs → r.stamp ≡ q.stamp → undone_before qs q r ≡ true → writes r.entries w ≡ false)
    → writes q.entries w ≡ true → (x : ℕ) → first_old q.entries w x ≡ f q.stamp
