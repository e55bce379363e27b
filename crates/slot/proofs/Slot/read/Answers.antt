-- `Slot::read` meets its contract: at each `return` the tests that led there pick the case of `read_of`.
use Rattle.std.proofs.Common.{◌≡◌, false, sym, rules}
use Rattle.slot.specs.Slot.{entry_shape, stamp_shape}
use Rattle.slot.proofs.SlotLaws.{empty-read, torn-blank}
use Rattle.slot.proofs.SlotBits.{entry-in, entry-out, stamp-in, stamp-out, found-torn, found-entry, found-stamp, found-neither}
use Rattle.slot.proofs.Slot.read.Goals as goal
use Rattle.slot.proofs.Slot.read.Goals.{Joined-else-contains, Joined-else-contains-2}
use Rattle.slot.proofs.Slot.read.Goals.{else-contains-via-then-contains+else-low-lt2, else-contains-via-else-contains}
use Rattle.slot.proofs.Slot.read.Goals.{else-contains-2-via-then-contains-2+else-low-eq0, else-contains-2-via-else-contains-2}

pub returns-then-value-eq0 : goal.returns-then-value-eq0
returns-then-value-eq0 c = sym (empty-read _ _ _ c.if-address-eq0.true c.if-value-eq0.true)

pub returns-then-address-eq0 : goal.returns-then-address-eq0
returns-then-address-eq0 c = sym (torn-blank _ _ _ c.if-address-eq0.true c.if-value-eq0.false)

pub returns-then-wrap-value : goal.returns-then-wrap-value
returns-then-wrap-value c = sym (found-torn _ _ _ c.if-wrap-value.true)

pub returns-then-low-lt2 : goal.returns-then-low-lt2
returns-then-low-lt2 c =
    found-entry _ _ _ c.if-address-eq0.false c.if-wrap-value.false (entry-in _ _ (search rules) (search rules) c.if-low-lt2.true) c.if-low-lt2.true

-- on each way past the first shape's tests one of them fails
no-entry : (c : Joined-else-contains) → entry_shape c.args.words c.args.self.address ≡ false
no-entry c = entry-out _ _ (λ h k l. elim c.else-contains.branch [
  | else-contains-via-then-contains+else-low-lt2 w ↦ search rules
  | else-contains-via-else-contains w ↦ search rules
])

-- and past the second's
no-stamp : (c : Joined-else-contains-2) → stamp_shape c.args.self.address ≡ false
no-stamp c = stamp-out _ (λ h k l. elim c.else-contains-2.branch [
  | else-contains-2-via-then-contains-2+else-low-eq0 w ↦ search rules
  | else-contains-2-via-else-contains-2 w ↦ search rules
])

pub returns-then-low-eq0 : goal.returns-then-low-eq0
returns-then-low-eq0 c =
    found-stamp _ _ _ c.if-address-eq0.false c.if-wrap-value.false (no-entry (goal.at.returns-then-low-eq0 c).Joined-else-contains)
    (stamp-in _ (search rules) (search rules) c.if-low-eq0.true)

pub returns : goal.returns
returns c =
    sym
    (found-neither _ _ _ c.if-address-eq0.false c.if-wrap-value.false (no-entry (goal.at.returns c).Joined-else-contains)
    (no-stamp (goal.at.returns c).Joined-else-contains-2))
