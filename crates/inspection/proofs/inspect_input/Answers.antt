-- `inspection::inspect_input` meets its contract: what is printed is the inspection of the bytes that were read; and these are all bytes, or one more than the longest input has, of which the inspection is the same. Assumes nothing.
use Rattle.std.proofs.Common.{rules, ◌≡◌, ℕ, ◌+◌, ◌<◌, ◌≤◌, List, ◌++◌, length, take, Option, Result, Ok, Err, OnErr, IfSome, sym, ap, ◌∙◌, subst, arith, length-take-le, inl, inr}
use Rattle.std.proofs.lemmas.Bool.{cases_lt}
use Rattle.std.proofs.lemmas.List.{take_all}
use Rattle.std.specs.Io.KnownBytes.{Appends, Consumes, IsAtEnd}
use Rattle.streams.specs.Streams.{AppendsPart}
use Rattle.streams.proofs.Taken.{of-all}
use Rattle.report.specs.Report.{longest}
use Rattle.report.specs.declared.SizesAt.{SizesAt}
use Rattle.report.specs.declared.SizesAt.TheVariants.{End}
use Rattle.report.specs.inner.ReadingLaws.{longest-few, not-long}
use Rattle.report.specs.inner.ReportLaws.{taken-few, taken-same}
use Rattle.inspection.specs.Inspection.{inspection_of, Inspected}
use Rattle.inspection.specs.inner.InspectionLaws.{refused-alike}
use Rattle.inspection.proofs.inspect_input.Goals as goal

-- one byte more than the longest is enough: the inspection of these bytes is that of the whole input
same : (p : SizesAt) (xs : List ℕ) → inspection_of p (take (longest p + 1) xs) ≡ inspection_of p xs
same p xs = elim (cases_lt (longest p + 1) (length xs)) [
  | inl h ↦
      let part = take (longest p + 1) xs in
      let long = length-take-le (longest p + 1) xs (omega (arith, h)) in
      refused-alike p part (λ e. omega (arith, not-long p part e, long)) ∙ taken-same p xs ∙ sym (refused-alike p xs (λ e. omega (arith, not-long p xs e, h)))
  | inr h ↦ ap (inspection_of p) (take_all (longest p + 1) xs h)
]

-- a buffer, of which the first `most` bytes were lent and `count` of these were read, and what was printed
module _ (p : SizesAt) (a b : Option (List ℕ)) (most count : ℕ) (blank buf rest text : List ℕ) (asked : most ≡ longest p + 1)
    (long : longest End + 1 ≡ length blank) (lent : length buf ≡ length (take most blank)) (within : count ≤ length buf)
    (shown : text ≡ inspection_of p (take count (buf ++ rest))) where
  full : length buf ≡ longest p + 1
  full = lent ∙ length-take-le most blank (omega (arith, asked, long, longest-few p)) ∙ asked

  was-inspected : (r : ℕ) → r ≡ length text → Inspected p r
  was-inspected r counts = record {
    input = take count (buf ++ rest);
    read = taken-few count (longest p + 1) (buf ++ rest) (omega (arith, full, within));
    printed = counts ∙ ap length shown;
  }

  of-input : (P : List ℕ → Type 0) → Consumes a b (take count buf) → (count < length buf → IsAtEnd b) → P text → IfSome a (λ xs. P (inspection_of p xs))
  of-input P gave end holds = of-all (inspection_of p) (longest p + 1) (same p) a b buf rest count P full within gave end (subst P shown holds)

-- what holds anyway holds on an error
on-err : {T E : Type 0} (r : Result T E) (X : Type 0) → X → OnErr r X
on-err (Ok t) X x = tt
on-err (Err e) X x = x

pub returns-clause-inspected : goal.returns-clause-inspected
returns-clause-inspected g c =
    was-inspected _ (g.R.Read.remaining c.args.reader.now) (g.R.Read.remaining c.read_full.new.reader) _ _ _ _ _ _ c.taken-most.ensures
    c.input_buffer-input.ensures c.read_full.auto.buf c.in_ok-count.ensures.count.0 (c.as_bytes-text.ensures.text ∙ c.put_inspection.ensures) _ (search rules)

pub returns-clause-counted : goal.returns-clause-counted
returns-clause-counted g c =
    of-input _ _ _ _ _ _ _ _ _ c.taken-most.ensures c.input_buffer-input.ensures c.read_full.auto.buf c.in_ok-count.ensures.count.0
    (c.as_bytes-text.ensures.text ∙ c.put_inspection.ensures) (λ text. length c.as_bytes-text.result.now ≡ length text) c.in_ok-count.ensures.bytes
    c.in_ok-count.ensures.end (search rules)

pub returns-clause-printed : goal.returns-clause-printed
returns-clause-printed g c =
    of-input _ _ _ _ _ _ _ _ _ c.taken-most.ensures c.input_buffer-input.ensures c.read_full.auto.buf c.in_ok-count.ensures.count.0
    (c.as_bytes-text.ensures.text ∙ c.put_inspection.ensures) (Appends (g.W.Write.contents c.args.writer.now) (g.W.Write.contents c.write_all.new.writer))
    c.in_ok-count.ensures.bytes c.in_ok-count.ensures.end c.in_ok-write_all.ensures.written

pub returns-in_err-write_all-clause-failed : goal.returns-in_err-write_all-clause-failed
returns-in_err-write_all-clause-failed g c =
    on-err c.from_residual-in_err-write_all.result _
    (of-input _ _ _ _ _ _ _ _ _ c.taken-most.ensures c.input_buffer-input.ensures c.read_full.auto.buf c.in_ok-count.ensures.count.0
    (c.as_bytes-text.ensures.text ∙ c.put_inspection.ensures) (AppendsPart (g.W.Write.contents c.args.writer.now) (g.W.Write.contents c.write_all.new.writer))
    c.in_ok-count.ensures.bytes c.in_ok-count.ensures.end c.in_err-write_all.ensures.failed)
