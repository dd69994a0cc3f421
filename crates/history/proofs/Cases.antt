-- THE CLAIM on the tables: each row finds what it says, by computing. Beside them the whole case of 01, and a log that lays
-- out and starts sixteen queues.
use mathlib.Core.Path.{◌≡◌, refl}
use mathlib.Core.List.{List, [], ◌∷◌, ◌++◌}
use Rattle.words.specs.Bytes.{read_le}
use Rattle.virtq.specs.Valid.{scanned}
use Rattle.virtq.specs.declared.Field.TheVariants.{AvailLow}
use Rattle.tape.specs.Actions.{act}
use Rattle.tape.specs.Held.{held_one}
use Rattle.mmio_tables.specs.Tables.{valid_all}
use Rattle.mmio_state.specs.Activation.{starting, starts_at, stopping}
use Rattle.mmio_v2.specs.Operation.{Operation}
use Rattle.mmio_v2.specs.Step.{step}
use Rattle.history.specs.Log.{known_from, field_from}
use Rattle.history.specs.Run.{run}
use Rattle.history.specs.Cases.{all_find, all_found, P, shared, two, sixteen, put, climb, lay_out, onto}

pub p-cases : all_find P ≡ all_found P
unfolding P read_le scanned valid_all starting starts_at stopping held_one
p-cases = refl

pub shared-cases : all_find shared ≡ all_found shared
unfolding shared read_le scanned valid_all starting starts_at stopping held_one
shared-cases = refl

-- "two valid queues, base 0xd0000000, doorbell, k = 3, write 0xf at 0xb"
pub whole-case : (step 320 (run two (onto (climb ++ lay_out 0 ++ lay_out 1) [])) (put 3 0x070 0xf)).actions
    ≡ act 1 0 0xd0001000 0 0 ∷ act 1 0 0xd0000050 4 0 ∷ act 1 1 0xd0001004 0 0 ∷ act 1 1 0xd0000050 4 1
    ∷ act 2 0 0xd0001000 0 0 ∷ act 2 1 0xd0001004 0 0 ∷ act 2 0 0xd0000050 8 1 ∷ act 6 0 0 0 0 ∷ []
unfolding read_le scanned valid_all starting starts_at stopping held_one
whole-case = refl

abbrev all : List Operation
all =
    climb ++ lay_out 0 ++ lay_out 1 ++ lay_out 2 ++ lay_out 3 ++ lay_out 4 ++ lay_out 5 ++ lay_out 6 ++ lay_out 7 ++ lay_out 8
    ++ lay_out 9 ++ lay_out 10 ++ lay_out 11 ++ lay_out 12 ++ lay_out 13 ++ lay_out 14 ++ lay_out 15 ++ (put 34 0x070 0xf ∷ [])

pub sixteen-run : (run sixteen (onto all [])).hot.status ≡ 0xf
unfolding read_le scanned valid_all starting starts_at stopping held_one
sixteen-run = refl

pub sixteen-read : (known_from sixteen (onto all [])).status ≡ 0xf
unfolding read_le scanned
sixteen-read = refl

pub sixteen-field : field_from sixteen (onto all []) 15 AvailLow ≡ 0x3000
unfolding read_le scanned
sixteen-field = refl
