-- Inner: how the code goes, need not be believed. Stores up to a limit: as many of a list as the limit lets through, where other stores came before.
-- Assumes nothing.
use Rattle.std.specs.Prelude.{ℕ, ◌-◌, ◌*◌, List, take}
use Rattle.slot.specs.Slot.{max_entries}
use Rattle.image.specs.Image.{max_lanes, max_slots}
use Rattle.image.specs.Stores.{Store, stored}

-- the most entries that can be undone: as many as a timestamp closes, for every slot of every lane
abbrev pub max_undone : ℕ
max_undone = max_entries * (max_lanes * max_slots)

-- the image after those stores of a list that the limit lets through, where `due` stores were due before them
unfoldable pub limited : (limit due : ℕ) → List Store → List ℕ → List ℕ
limited limit due xs image = stored (take (limit - due) xs) image
