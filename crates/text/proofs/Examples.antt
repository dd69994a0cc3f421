-- Lines computed: those of 01's worked example (01, The trace), an action of 01's whole case (01, Actions), a queue's fields,
-- and numerals at the ends of their range.
use mathlib.Core.Path.{◌≡◌, refl}
use mathlib.Core.List.{[], ◌∷◌}
use Rattle.text.specs.Numerals.{digits, numeral, decimal, hex}
use Rattle.text.specs.Lines.{bad_line, end_line, record_line, reply_text}
use Rattle.text.specs.Details.{action_line, field_line}

-- 1 01 - 0
pub first-line :
    record_line 1 1 [] 0
    ≡ 49 ∷ 32 ∷ 48 ∷ 49 ∷ 32 ∷ 45 ∷ 32 ∷ 48 ∷ 10 ∷ []
unfolding record_line reply_text numeral digits
first-line = refl

-- 2 01 01000000 0
pub second-line :
    record_line 2 1 (1 ∷ 0 ∷ 0 ∷ 0 ∷ []) 0
    ≡ 50 ∷ 32 ∷ 48 ∷ 49 ∷ 32 ∷ 48 ∷ 49 ∷ 48 ∷ 48 ∷ 48 ∷ 48 ∷ 48 ∷ 48 ∷ 32 ∷ 48 ∷ 10 ∷ []
unfolding record_line reply_text numeral digits
second-line = refl

-- 3 81 - 0
pub third-line :
    record_line 3 0x81 [] 0
    ≡ 51 ∷ 32 ∷ 56 ∷ 49 ∷ 32 ∷ 45 ∷ 32 ∷ 48 ∷ 10 ∷ []
unfolding record_line reply_text numeral digits
third-line = refl

-- 4 81 - 0
pub fourth-line :
    record_line 4 0x81 [] 0
    ≡ 52 ∷ 32 ∷ 56 ∷ 49 ∷ 32 ∷ 45 ∷ 32 ∷ 48 ∷ 10 ∷ []
unfolding record_line reply_text numeral digits
fourth-line = refl

-- end 4
pub last_line :
    end_line 4
    ≡ 101 ∷ 110 ∷ 100 ∷ 32 ∷ 52 ∷ 10 ∷ []
unfolding end_line numeral digits
last_line = refl

-- bad 10
pub refused-line :
    bad_line 10
    ≡ 98 ∷ 97 ∷ 100 ∷ 32 ∷ 49 ∷ 48 ∷ 10 ∷ []
unfolding bad_line numeral digits
refused-line = refl

-- a two-byte reply of 0x8000 is in address order: 0080
pub two_bytes :
    reply_text (0 ∷ 0x80 ∷ [])
    ≡ 48 ∷ 48 ∷ 56 ∷ 48 ∷ []
unfolding reply_text
two_bytes = refl

--   1 0 d0001000 0 0
pub first-action :
    action_line (record { kind = 1; a = 0; b = 0xd0001000; c = 0; d = 0 })
    ≡ 32 ∷ 32 ∷ 49 ∷ 32 ∷ 48 ∷ 32 ∷ 100 ∷ 48 ∷ 48 ∷ 48 ∷ 49 ∷ 48 ∷ 48 ∷ 48 ∷ 32 ∷ 48 ∷ 32 ∷ 48 ∷ 10 ∷ []
unfolding action_line numeral digits
first-action = refl

--   q 0 100 1 1000 2000 3000
pub first-queue :
    field_line 0 0x100 1 0x1000 0x2000 0x3000
    ≡ 32 ∷ 32 ∷ 113 ∷ 32 ∷ 48 ∷ 32 ∷ 49 ∷ 48 ∷ 48 ∷ 32 ∷ 49 ∷ 32 ∷ 49 ∷ 48 ∷ 48 ∷ 48 ∷ 32 ∷ 50 ∷ 48 ∷ 48 ∷ 48 ∷ 32 ∷ 51 ∷ 48
    ∷ 48 ∷ 48 ∷ 10 ∷ []
unfolding field_line numeral digits
first-queue = refl

-- 0
pub nought :
    decimal 0
    ≡ 48 ∷ []
unfolding numeral digits
nought = refl

-- 18446744073709551615, the largest u64 in decimal
pub largest-decimal :
    decimal 18446744073709551615
    ≡ 49 ∷ 56 ∷ 52 ∷ 52 ∷ 54 ∷ 55 ∷ 52 ∷ 52 ∷ 48 ∷ 55 ∷ 51 ∷ 55 ∷ 48 ∷ 57 ∷ 53 ∷ 53 ∷ 49 ∷ 54 ∷ 49 ∷ 53 ∷ []
unfolding numeral digits
largest-decimal = refl

-- ffffffffffffffff, the largest in hex
pub largest-hex :
    hex 18446744073709551615
    ≡ 102 ∷ 102 ∷ 102 ∷ 102 ∷ 102 ∷ 102 ∷ 102 ∷ 102 ∷ 102 ∷ 102 ∷ 102 ∷ 102 ∷ 102 ∷ 102 ∷ 102 ∷ 102 ∷ []
unfolding numeral digits
largest-hex = refl
