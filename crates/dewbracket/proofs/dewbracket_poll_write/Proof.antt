-- `mmio_lent`'s walk of a polled write.
use mathlib.Core.Path.{refl}
use Rattle.mmio_fast.specs.Quick.{quick_write}
use Rattle.mmio_fast.proofs.quick_write.Symbol as short
use Rattle.mmio_fast.proofs.quick_write.Met as short-thm
use Rattle.dewbracket.proofs.Device as dev
use Rattle.mmio_lent.proofs.PollWrite as walk
use Rattle.dewbracket.specs.contracts.dewbracket_poll_write.Key.{name as key}
use Rattle.dewbracket.proofs.dewbracket_poll_write.Statement as stated
use Rattle.dewbracket.proofs.dewbracket_poll_write.Code as code

pub dewbracket_poll_write_spec : {M : Type 1} → stated.statement M
dewbracket_poll_write_spec 𝓤 𝓛 𝓜 𝓡 wired =
    walk.spec dev.lent dev.laws quick_write key short.name 𝓡.env (𝓡.env short.name) refl 𝓛 𝓜 𝓡 (code.unfolded 𝓤 𝓛.H 𝓜 𝓡 wired) (short-thm.met 𝓤 𝓛 𝓜 𝓡 (code.calls-mmio_fast::quick_write 𝓡.env wired))
