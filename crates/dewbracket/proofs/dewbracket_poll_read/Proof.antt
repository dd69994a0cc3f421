-- `mmio_lent`'s walk of a polled read.
use mathlib.Core.Path.{refl}
use Rattle.mmio_fast.specs.Quick.{quick_read}
use Rattle.mmio_fast.proofs.quick_read.Symbol as short
use Rattle.mmio_fast.proofs.quick_read.Met as short-thm
use Rattle.dewbracket.proofs.Device as dev
use Rattle.mmio_lent.proofs.PollRead as walk
use Rattle.dewbracket.specs.contracts.dewbracket_poll_read.Key.{name as key}
use Rattle.dewbracket.proofs.dewbracket_poll_read.Statement as stated
use Rattle.dewbracket.proofs.dewbracket_poll_read.Code as code

pub dewbracket_poll_read_spec : {M : Type 1} → stated.statement M
dewbracket_poll_read_spec 𝓤 𝓛 𝓜 𝓡 wired =
    walk.spec dev.lent dev.laws quick_read key short.name 𝓡.env (𝓡.env short.name) refl 𝓛 𝓜 𝓡 (code.unfolded 𝓤 𝓛.H 𝓜 𝓡 wired) (short-thm.met 𝓤 𝓛 𝓜 𝓡 (code.calls-mmio_fast::quick_read 𝓡.env wired))
