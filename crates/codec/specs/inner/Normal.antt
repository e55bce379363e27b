-- Inner: how the code goes, need not be believed. Words in normal form: those that a record is written as. Assumes nothing.
use Rattle.std.specs.Prelude.{ℕ, zero, suc, ◌+◌, Bool, true, cond, ◌&&◌, List, eqb, length, get_or, drop}
use Rattle.image.specs.Image.{max_lanes}
use Rattle.codec.specs.Fields.{lane_length, lanes_end, record_length}

-- a phase word of 0 with 0s behind it, or 1
unfoldable pub phase_normal : List ℕ → Bool
phase_normal ws = cond (eqb (get_or ws 0 0) 0) (eqb (get_or ws 1 0) 0 && (eqb (get_or ws 2 0) 0 && eqb (get_or ws 3 0) 0)) (eqb (get_or ws 0 0) 1)

-- a floor's word of 0 with 0 behind it, or 1
unfoldable pub floor_normal : List ℕ → Bool
floor_normal ws = cond (eqb (get_or ws 0 0) 0) (eqb (get_or ws 1 0) 0) (eqb (get_or ws 0 0) 1)

unfoldable pub lanes_normal : (n : ℕ) → List ℕ → Bool
lanes_normal zero ws = true
lanes_normal (suc n) ws = phase_normal ws && (floor_normal (drop 6 ws) && lanes_normal n (drop lane_length ws))

-- a lock's word of 0 with 0s behind it, or 1
unfoldable pub lock_normal : List ℕ → Bool
lock_normal ws =
    cond (eqb (get_or ws 0 0) 0)
    (eqb (get_or ws 1 0) 0 && (eqb (get_or ws 2 0) 0 && (eqb (get_or ws 3 0) 0 && (eqb (get_or ws 4 0) 0 && eqb (get_or ws 5 0) 0))))
    (eqb (get_or ws 0 0) 1)

unfoldable pub normal : List ℕ → Bool
normal ws = eqb (length ws) record_length && (lanes_normal max_lanes (drop 2 ws) && lock_normal (drop (lanes_end + 1) ws))
