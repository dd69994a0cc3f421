use mathlib.Core.Path.{refl}
use base.Logic.{emp}
use contract.Monad.{fact_i}
use Rattle.msi.specs.Stage.{with_index_select}
use Rattle.msi.proofs.Lent.{spec}
use Rattle.msi.proofs.Msi.with_index_select.Symbol as callee
use Rattle.msi.proofs.Msi.with_index_select.Met as callee_theorem
use Rattle.msi.specs.contracts.Msi.set_index_select as own
use Rattle.msi.specs.contracts.Msi.set_index_select.Key.{name as key}
use Rattle.msi.proofs.Msi.set_index_select.Statement.{statement}
use Rattle.msi.proofs.Msi.set_index_select.Code as code

pub set_index_select_spec : {M : Type 1} → statement M
set_index_select_spec 𝓤 𝓛 𝓜 𝓡 wired =
    spec with_index_select key callee.name 𝓡.env (𝓡.env callee.name) refl 𝓛 𝓜 𝓡
    (λ κs a r e. (own.clauses 𝓛 𝓜.mem 𝓡.returns κs a).ensures tt r e) (λ κs a r e it. fact_i 𝓤 _ (emp 𝓤) it)
    (code.unfolded 𝓤 𝓛.H 𝓜 𝓡 wired) (callee_theorem.met 𝓤 𝓛 𝓜 𝓡 (code.calls-msi::Msi::with_index_select 𝓡.env wired))
