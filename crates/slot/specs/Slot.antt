-- The slot format: the two words of an entry and of a timestamp, and what two words say. SPECIFICATION, "Slots". Assumes nothing.
use Rattle.std.specs.Prelude.{ℕ, ◌+◌, ◌-◌, ◌*◌, ◌/◌, ◌%◌, Bool, cond, ◌&&◌, leb, ltb, eqb}
use Rattle.slot.specs.declared.Slot.{Slot}
use Rattle.slot.specs.declared.Content.{Content}
use Rattle.slot.specs.declared.Content.TheVariants.{Empty, Torn, Entry, Stamp}

-- the least number of a timestamp, which is this and its count; an entry's number is its word and 1, which is below
abbrev pub tag : ℕ
tag = 4096

-- the most entries that a timestamp closes
abbrev pub max_entries : ℕ
max_entries = 16

-- the two words of an entry: word number i, old value v, wrap bit p
unfoldable pub entry_of : (i v p : ℕ) → Slot
entry_of i v p = record { address = 8 * (i + 1) + 2 * (v % 2) + p; value = 2 * (v / 2) + p }

-- the two words of a timestamp s that closes n entries, wrap bit p
unfoldable pub stamp_of : (n s p : ℕ) → Slot
stamp_of n s p = record { address = 8 * (tag + n) + p; value = s + p }

-- an address word of an entry's shape: its number is 1 to W, and bit 2 is 0
unfoldable pub entry_shape : (W a : ℕ) → Bool
entry_shape W a = leb 1 (a / 8) && leb (a / 8) W && ltb (a % 8) 4

-- an address word of a timestamp's shape: its number is tag to tag + max_entries, and bits 1 and 2 are 0
unfoldable pub stamp_shape : (a : ℕ) → Bool
stamp_shape a = leb tag (a / 8) && leb (a / 8) (tag + max_entries) && ltb (a % 8) 2

-- what an address word a and a value word v say whose bit 0 agrees
unfoldable pub whole_of : (W a v : ℕ) → Content
whole_of W a v =
    cond (entry_shape W a) (Entry (a / 8 - 1) (2 * (v / 2) + a / 2 % 2) (a % 2))
    (cond (stamp_shape a) (Stamp (a / 8 - tag) (2 * (v / 2)) (a % 2)) Torn)

-- what two words say, of an image of W data words
unfoldable pub read_of : (W a v : ℕ) → Content
read_of W a v =
    cond (eqb a 0) (cond (eqb v 0) Empty Torn)
    (cond (eqb (a % 2) (v % 2)) (whole_of W a v) Torn)
