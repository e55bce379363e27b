-- Inner: how the code goes, need not be believed. Laws of looking up a word among a run's writes: looking back from the last one, and one write more.
-- Assumes nothing.
use Rattle.std.specs.Prelude.{◌≡◌, ℕ, ◌+◌, ◌%◌, ◌<◌, ◌≤◌, Bool, cond, List, [], ◌∷◌, ◌++◌, length, take, reverse, replicate, ◌==◌, Option, MatchOption, slice_index, slice_set, refl}
use Rattle.std.specs.List.{find}
use Rattle.std.proofs.Common.{sym, ap, ◌∙◌, arith, length-set, length-append, take_all, get_or-set_other}
use Rattle.std.proofs.lemmas.Bool.{eqb-false}
use Rattle.std.proofs.lemmas.List.{length-replicate, get_or-replicate, reverse-reverse, take-append-le}
use Rattle.std.proofs.lemmas.Grind.{reverse_onto}
use Rattle.laws.specs.inner.Tests.{split}
use Rattle.laws.specs.inner.Lists.{get_d_set}
use Rattle.txn.specs.declared.Write.{Write}
use Rattle.txn.specs.Txn.{applied}
use Rattle.txn.specs.inner.TxnLaws.{length-applied, applied-append}
use Rattle.txn.specs.inner.Lookup.{buckets, Seen}

-- the words after one write more
pub applied-more : (l : List Write) (w : Write) (ws : List ℕ) → applied (l ++ (w ∷ [])) ws ≡ slice_set (applied l ws) w.word w.new
unfolding applied
applied-more l w ws = applied-append l (w ∷ []) ws

-- ---- looking back: the word's value after the writes is that of the last one to it, or the one before them
module _ (ws : List ℕ) (word : ℕ) (h : word < length ws) where
  abbrev to_word : Write → Bool
  to_word w = w.word == word

  -- what a search from the last write on answers
  abbrev Told : List Write → Option Write → Type 0
  Told l r = MatchOption r (slice_index (applied l ws) word ≡ slice_index ws word) (λ w. slice_index (applied l ws) word ≡ w.new)

  stored : (l : List Write) (w : Write) → slice_index (applied (l ++ (w ∷ [])) ws) word ≡ cond (w.word == word) w.new (slice_index (applied l ws) word)
  stored l w = rw (applied-more l w ws) (get_d_set (applied l ws) w.word w.new word (rw (length-applied l ws) h))

  told-back : (r : List Write) → Told (reverse r) (find to_word r)
  unfolding applied
  told-back [] = refl
  told-back (w ∷ r) =
      let s = stored (reverse r) w in
      let ih = told-back r in
      split (w.word == word) (λ e. rw (reverse_onto r w [], e) (s ∙ rw e)) (λ e. rw (reverse_onto r w [], e, s, e) ih)

  pub told : (l : List Write) → Told l (find to_word (reverse l))
  told l = let t = told-back (reverse l) in rw (reverse-reverse l) at t

-- ---- what is noted of each bucket
pub seen-none : (ws : List ℕ) → Seen ws [] (replicate buckets 0)
seen-none ws =
    record {
      whole = length-replicate {A = ℕ} buckets 0;
      within = λ w. omega (arith, zero-at w);
      enough = λ w h. rw (zero-at w);
    }
  where
    zero-at : (w : ℕ) → slice_index (replicate {A = ℕ} buckets 0) (w % buckets) ≡ 0
    zero-at w = get_or-replicate buckets (w % buckets) 0 0 (omega arith)

-- one write more
module _ (ws : List ℕ) (l : List Write) (last : List ℕ) (h : Seen ws l last) (w : Write) (n : ℕ) (e : n ≡ length (l ++ (w ∷ []))) where
  abbrev last' : List ℕ
  last' = slice_set last (w.word % buckets) n

  one-more : n ≡ length l + 1
  one-more = omega (arith, length-append l (w ∷ []))

  bucket : (v : ℕ) → slice_index last' (v % buckets) ≡ cond (w.word % buckets == v % buckets) n (slice_index last (v % buckets))
  bucket v = get_d_set last (w.word % buckets) n (v % buckets) (omega (arith, h.whole))

  within' : (v : ℕ) → slice_index last' (v % buckets) ≤ length (l ++ (w ∷ []))
  within' v = split (w.word % buckets == v % buckets) (λ t. rw (bucket v, t) (omega arith)) (λ t. rw (bucket v, t) (omega (arith, one-more, h.within v)))

  enough' : (v : ℕ) → v < length ws
      → slice_index (applied (take (slice_index last' (v % buckets)) (l ++ (w ∷ []))) ws) v ≡ slice_index (applied (l ++ (w ∷ [])) ws) v
  enough' v b =
      split (w.word % buckets == v % buckets)
      (λ t. rw (bucket v, t, take_all n (l ++ (w ∷ [])) (omega arith)))
      (λ t. rw (
        bucket v,
        t,
        take-append-le (slice_index last (v % buckets)) l (w ∷ []) (h.within v),
        applied-more l w ws,
        get_or-set_other (applied l ws) w.word v w.new 0
            (λ d. eqb-false (w.word % buckets) (v % buckets) t (ap (λ m. m % buckets) (sym d))),
      )
      (h.enough v b))

  pub seen-more : Seen ws (l ++ (w ∷ [])) last'
  seen-more = record { whole = length-set last (w.word % buckets) n ∙ h.whole; within = within'; enough = enough' }
