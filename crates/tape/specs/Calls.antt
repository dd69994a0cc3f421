-- The number and the operands of each kind of action (01, Actions).
use Rattle.words.specs.declared.Action.{Action}
use Rattle.tape.specs.Actions.{enable_interrupts, activate_device, reset_device, reset_interrupts, set_mode, update_vector, mask_vector, unmask_vector, ack_features, read_config, write_config}
use Rattle.tape.specs.Held.{register, unregister}
use Rattle.tape.specs.declared.Call.{Call}
use Rattle.tape.specs.declared.Call.TheVariants.{Register, Unregister, EnableInterrupts, Activate, ResetDevice, ResetInterrupts, Mode, Update, Mask, Unmask, AckedFeatures, ReadConfig, WriteConfig}

abbrev pub action_of : Call → Action
action_of (Register e) = register e
action_of (Unregister e) = unregister e
action_of EnableInterrupts = enable_interrupts
action_of Activate = activate_device
action_of ResetDevice = reset_device
action_of ResetInterrupts = reset_interrupts
action_of (Mode msi) = set_mode msi
action_of (Update v) = update_vector v.0
action_of (Mask v) = mask_vector v.0
action_of (Unmask v) = unmask_vector v.0
action_of (AckedFeatures p v) = ack_features p v
action_of (ReadConfig o n) = read_config o n
action_of (WriteConfig o n) = write_config o n
