use mathlib.Core.Path.{refl}
use base.Logic.{emp}
use contract.Monad.{fact_i}
use Rattle.msi.specs.Stage.{with_address_high}
use Rattle.msi.proofs.Lent.{spec}
use Rattle.msi.proofs.Msi.with_address_high.Symbol as callee
use Rattle.msi.proofs.Msi.with_address_high.Met as callee_theorem
use Rattle.msi.specs.contracts.Msi.set_address_high as own
use Rattle.msi.specs.contracts.Msi.set_address_high.Key.{name as key}
use Rattle.msi.proofs.Msi.set_address_high.Statement.{statement}
use Rattle.msi.proofs.Msi.set_address_high.Code as code

pub set_address_high_spec : {M : Type 1} → statement M
set_address_high_spec 𝓤 𝓛 𝓜 𝓡 wired =
    spec with_address_high key callee.name 𝓡.env (𝓡.env callee.name) refl 𝓛 𝓜 𝓡
    (λ κs a r e. (own.clauses 𝓛 𝓜.mem 𝓡.returns κs a).ensures tt r e) (λ κs a r e it. fact_i 𝓤 _ (emp 𝓤) it)
    (code.unfolded 𝓤 𝓛.H 𝓜 𝓡 wired) (callee_theorem.met 𝓤 𝓛 𝓜 𝓡 (code.calls-msi::Msi::with_address_high 𝓡.env wired))
