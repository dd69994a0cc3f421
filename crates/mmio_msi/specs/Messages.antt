-- Messages (01, Messages).
use Rattle.std.specs.Prelude.{Bool, true, false, not, ◌&&◌, [], ◌∷◌, ℕ, eqb, get_or}
use Rattle.words.specs.Pick.{pick}
use Rattle.words.specs.declared.Action.{Action}
use Rattle.msi.specs.Stage.{no_message, with_index_select}
use Rattle.msi.specs.declared.Msi.{Msi}
use Rattle.tape.specs.Actions.{set_mode, update_vector, mask_vector, unmask_vector}
use Rattle.mmio_hot.specs.Polled.{with_mode}
use Rattle.mmio_config.specs.Fresh.{no_vector}
use Rattle.mmio_tables.specs.Tables.{updatable, vector_at, stored_at, masked_at}
use Rattle.mmio_hot.specs.Commands.{csr_of, command_at}
use Rattle.mmio_hot.specs.declared.Csr.{Csr}
use Rattle.mmio_hot.specs.declared.Csr.TheVariants.{Locked, Stay, Turn}
use Rattle.mmio_hot.specs.declared.Command.{Command}
use Rattle.mmio_hot.specs.declared.Command.TheVariants.{Update, Mask, Unmask, Other}
use Rattle.mmio_state.specs.State.{State, failed_state, with_stage, with_vectors}
use Rattle.mmio_state.specs.Effect.{Effect, quiet}

-- "0c4, 0c8, 0cc staged message, kept only while MSI is on"
abbrev pub staged : State → Msi → State
staged s m = with_stage s s.hot (pick s.hot.msi m s.stage)

-- ---- 0c0

-- a mode set: the stage is zeroed with it
abbrev pub turned : State → (msi : Bool) → State
turned s m = with_stage s (with_mode s.hot m) no_message

-- "with DRIVER_OK set, FAILED and no more .. refused: FAILED, mode kept"
abbrev pub controlled : State → (k : ℕ) → Csr → Effect
controlled s k Locked = quiet (failed_state s) false
controlled s k Stay = quiet s true
controlled s k (Turn m) =
    record { state = pick (eqb k 0) (failed_state s) (turned s m); ok = not (eqb k 0); actions = set_mode m ∷ [] }

abbrev pub enabling : State → (v k : ℕ) → Effect
enabling s v k = controlled s k (csr_of s.hot.status v s.hot.msi)

-- ---- 0c2

-- "0x1000: ignored above the data queue count (control not counted) or with MSI off"
abbrev pub heeded : State → (v : ℕ) → Bool
heeded s v = updatable s.config.dataqueues v && s.hot.msi

-- "else index kept, then, if the vector exists, low, high and data stored"
abbrev pub updated_state : State → (v : ℕ) → State
updated_state s v =
    with_vectors s
    (pick (heeded s v) (with_index_select s.stage v) s.stage)
    (pick (heeded s v && vector_at v s.config.vectors) (stored_at s.vectors v (with_index_select s.stage v)) s.vectors)

-- ".. and action 8 if enabled; a refusal keeps them"
abbrev pub asks_update : State → (v : ℕ) → Bool
asks_update s v = (heeded s v && vector_at v s.config.vectors) && s.flags.enabled

-- two Bools differ
abbrev pub differs : Bool → Bool → Bool
differs a b = pick a (not b) b

-- "0x2000, 0x3000: if enabled and the vector exists and its mask differs, action 9 or 10, the mask changing if accepted"
abbrev pub asks_mask : State → (v : ℕ) → (mask : Bool) → Bool
asks_mask s v m = (s.flags.enabled && vector_at v s.config.vectors) && differs (get_or s.vectors v no_vector).masked m

-- at most one request: asked or not, and accepted or not
abbrev pub asking : (asks : Bool) → Action → (k : ℕ) → (state : State) → Effect
asking a x k s = record { state = s; ok = pick a (not (eqb k 0)) true; actions = pick a (x ∷ []) [] }

abbrev pub masking : State → (v : ℕ) → (mask : Bool) → Action → (k : ℕ) → Effect
masking s v m x k =
    asking (asks_mask s v m) x k
    (with_vectors s s.stage (pick (asks_mask s v m && not (eqb k 0)) (masked_at s.vectors v m) s.vectors))

-- "Other codes: FAILED"
abbrev pub commanded : State → (k : ℕ) → Command → Effect
commanded s k (Update v) = asking (asks_update s v.0) (update_vector v.0) k (updated_state s v.0)
commanded s k (Mask v) = masking s v.0 true (mask_vector v.0) k
commanded s k (Unmask v) = masking s v.0 false (unmask_vector v.0) k
commanded s k Other = quiet (failed_state s) false

abbrev pub commanding : State → (v k : ℕ) → Effect
commanding s v k = commanded s k (command_at v)
