-- The bytes of one more write follow those that were written before.
use Rattle.std.proofs.Common.{◌≡◌, ℕ, ◌-◌, List, ◌++◌, length, take, drop, Option, Result, Ok, Err, OnErr, refl, sym, ap, ◌∙◌, subst, append_assoc}
use Rattle.std.specs.Io.KnownBytes.{Appends}
use Rattle.std.proofs.KnownBytes.{Appends-trans, Appends-kept}
use Rattle.std.proofs.lemmas.List.{take_rest, take-append-drop, take_at}
use Rattle.streams.specs.Streams.{AppendsPart}
use Rattle.streams.proofs.write_all.Goals as goal

-- what was written is the first part of the buffer
part : (a b : Option (List ℕ)) (done rest buf : List ℕ) → done ++ rest ≡ buf → Appends a b done → AppendsPart a b buf
part a b done rest buf e h = (length done, subst (Appends a b) (sym (take_at done rest (length done) refl) ∙ ap (take (length done)) e) h)

-- the rest, as a slice of it has it
more : (done rest buf : List ℕ) (n : ℕ) → done ++ rest ≡ buf → (done ++ take n rest) ++ take (length rest - n) (drop n rest) ≡ buf
more done rest buf n e =
    ap (λ l. (done ++ take n rest) ++ l) (take_rest rest n) ∙ append_assoc done (take n rest) (drop n rest) ∙ ap (λ l. done ++ l) (take-append-drop n rest) ∙ e

-- what holds anyway holds on an error
on-err : {T E : Type 0} (r : Result T E) (X : Type 0) → X → OnErr r X
on-err (Ok t) X x = tt
on-err (Err e) X x = x

pub returns-in_err-count-clause-failed : goal.returns-in_err-count-clause-failed
returns-in_err-count-clause-failed g c =
    let i = c.loop-rest.invariant in
    on-err c.from_residual.result _ (part _ _ i.0 _ _ i.1 (Appends-kept _ _ _ _ i.2 c.in_err-count.ensures.bytes))

pub returns-in-0-clause-failed : goal.returns-in-0-clause-failed
returns-in-0-clause-failed g c =
    let i = c.loop-rest.invariant in
    let n = c.in_ok-count.count in
    part _ _ (i.0 ++ take n c.loop-rest.rest.now) _ _ (more i.0 _ _ n i.1) (Appends-trans _ _ _ _ _ i.2 c.in_ok-count.ensures.bytes)

pub loop-rest-preserved : goal.loop-rest-preserved
loop-rest-preserved g c =
    let i = c.loop-rest.invariant in
    let n = c.in_ok-count.count in
    (i.0 ++ take n c.loop-rest.rest.now, more i.0 _ _ n i.1, Appends-trans _ _ _ _ _ i.2 c.in_ok-count.ensures.bytes)
