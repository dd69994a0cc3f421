-- The ladder on plain numbers: what a written value asks for, and the status after it (01, The ladder of status).
use Rattle.std.specs.Prelude.{Bool, ℕ, eqb}
use Rattle.words.specs.Pick.{pick}
use Rattle.mmio_hot.specs.Polled.{failed}
use Rattle.mmio_ladder.specs.declared.Move.{Move}
use Rattle.mmio_ladder.specs.declared.Move.TheVariants.{Take, Start, Reset, Stay, Fail}

-- "taken only from .. exactly. Else FAILED is set"
abbrev pub from : (below status : ℕ) → Move → Move
from b status m = pick (eqb status b) m Fail

-- "0: at status 0, nothing. If active: ask device reset; .. Otherwise FAILED"
abbrev pub down_move : (status : ℕ) (active : Bool) → Move
down_move status active = pick (eqb status 0x0) Stay (pick active Reset Fail)

-- "other v equal to the status: nothing. All other v: FAILED"
abbrev pub other_move : (v status : ℕ) → Move
other_move v status = pick (eqb v status) Stay Fail

-- "Written value v, tested in order"
abbrev pub move_of : (v status : ℕ) (active : Bool) → Move
move_of v status active =
    pick (eqb v 0x1) (from 0x0 status (Take 0x1))
    (pick (eqb v 0x3) (from 0x1 status (Take 0x3))
    (pick (eqb v 0xb) (from 0x3 status (Take 0xb))
    (pick (eqb v 0xf) (from 0xb status Start)
    (pick (eqb v 0x0) (down_move status active)
    (other_move v status)))))

-- The status after a move, where `ok` says whether what it asked was accepted: "If that fails, .. status 0x8f"; "refused:
-- FAILED ..; accepted: .. status 0 if it was 0xf, else it stays 0x8f", which is FAILED set.
abbrev pub status_after : Move → (status : ℕ) (ok : Bool) → ℕ
status_after (Take v) status ok = v
status_after Start status ok = pick ok 0xf 0x8f
status_after Reset status ok = pick ok (pick (eqb status 0xf) 0x0 (failed status)) (failed status)
status_after Stay status ok = status
status_after Fail status ok = failed status
