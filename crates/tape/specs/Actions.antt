-- The kinds of action and their operands, unused ones 0 (01, Actions).
use Rattle.std.specs.Prelude.{ℕ, Bool, true, ◌==◌}
use Rattle.words.specs.Pick.{pick}
use Rattle.words.specs.declared.Action.{Action}

abbrev pub act : (kind a b c d : ℕ) → Action
act k x y z w = record { kind = k; a = x; b = y; c = z; d = w }

abbrev pub enable_interrupts : Action
enable_interrupts = act 3 0 0 0 0

abbrev pub activate_device : Action
activate_device = act 4 0 0 0 0

abbrev pub reset_device : Action
reset_device = act 5 0 0 0 0

abbrev pub reset_interrupts : Action
reset_interrupts = act 6 0 0 0 0

-- "7 mode (1 MSI, 0 legacy)"
abbrev pub set_mode : (msi : Bool) → Action
set_mode msi = act 7 (pick msi 1 0) 0 0 0

abbrev pub update_vector : (v : ℕ) → Action
update_vector v = act 8 v 0 0 0

abbrev pub mask_vector : (v : ℕ) → Action
mask_vector v = act 9 v 0 0 0

abbrev pub unmask_vector : (v : ℕ) → Action
unmask_vector v = act 10 v 0 0 0

abbrev pub ack_features : (page value : ℕ) → Action
ack_features p v = act 11 p v 0 0

abbrev pub read_config : (offset length : ℕ) → Action
read_config o l = act 12 o l 0 0

abbrev pub write_config : (offset length : ℕ) → Action
write_config o l = act 13 o l 0 0

-- "Answered: 1, 3, 4, 5, 7, 8, 9, 10"
abbrev pub answered : (kind : ℕ) → Bool
answered k =
    pick (k == 1) true
    (pick (k == 3) true
    (pick (k == 4) true
    (pick (k == 5) true
    (pick (k == 7) true
    (pick (k == 8) true
    (pick (k == 9) true
    (k == 10)))))))
