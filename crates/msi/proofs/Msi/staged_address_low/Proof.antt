use mathlib.Core.Path.{refl}
use base.Logic.{emp}
use contract.Monad.{fact_i}
use Rattle.msi.specs.Stage.{with_address_low}
use Rattle.msi.proofs.OnLocal.{spec}
use Rattle.msi.proofs.Msi.set_address_low.Symbol as callee
use Rattle.msi.proofs.Msi.set_address_low.Met as callee_theorem
use Rattle.msi.specs.contracts.Msi.staged_address_low as own
use Rattle.msi.specs.contracts.Msi.staged_address_low.Key.{name as key}
use Rattle.msi.proofs.Msi.staged_address_low.Statement.{statement}
use Rattle.msi.proofs.Msi.staged_address_low.Code as code

pub staged_address_low_spec : {M : Type 1} → statement M
staged_address_low_spec 𝓤 𝓛 𝓜 𝓡 wired =
    spec with_address_low key callee.name 𝓡.env (𝓡.env callee.name) refl 𝓛 𝓜 𝓡
    (λ κs a r e. (own.clauses 𝓛 𝓜.mem 𝓡.returns κs a).ensures tt r e) (λ κs a r e it. fact_i 𝓤 _ (emp 𝓤) it)
    (code.unfolded 𝓤 𝓛.H 𝓜 𝓡 wired) (callee_theorem.met 𝓤 𝓛 𝓜 𝓡 (code.calls-msi::Msi::set_address_low 𝓡.env wired))
