use mathlib.Core.Path.{refl}
use base.Logic.{emp}
use contract.Monad.{fact_i}
use Rattle.msi.specs.Stage.{with_data}
use Rattle.msi.proofs.Lent.{spec}
use Rattle.msi.proofs.Msi.with_data.Symbol as callee
use Rattle.msi.proofs.Msi.with_data.Met as callee_theorem
use Rattle.msi.specs.contracts.Msi.set_data as own
use Rattle.msi.specs.contracts.Msi.set_data.Key.{name as key}
use Rattle.msi.proofs.Msi.set_data.Statement.{statement}
use Rattle.msi.proofs.Msi.set_data.Code as code

pub set_data_spec : {M : Type 1} → statement M
set_data_spec 𝓤 𝓛 𝓜 𝓡 wired =
    spec with_data key callee.name 𝓡.env (𝓡.env callee.name) refl 𝓛 𝓜 𝓡
    (λ κs a r e. (own.clauses 𝓛 𝓜.mem 𝓡.returns κs a).ensures tt r e) (λ κs a r e it. fact_i 𝓤 _ (emp 𝓤) it)
    (code.unfolded 𝓤 𝓛.H 𝓜 𝓡 wired) (callee_theorem.met 𝓤 𝓛 𝓜 𝓡 (code.calls-msi::Msi::with_data 𝓡.env wired))
