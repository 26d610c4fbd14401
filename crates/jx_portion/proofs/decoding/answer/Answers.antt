use Rattle.std.proofs.Common.{◌≡◌, Result, Ok, Err, sym, subst}
use Rattle.std.proofs.lemmas.Result.{err_from_is_err_and}
use Rattle.std.specs.Prelude.{IfErr}
use Rattle.jx_portion.specs.declared.fault.DecodeFault.{DecodeFault}
use Rattle.jx_portion.specs.declared.fault.DecodeFault.TheVariants.{Memory}
use Rattle.jx_portion.specs.Fields.{run_fields}
use Rattle.jx_portion.specs.Portion.{IsAnswer}
use Rattle.jx_portion.specs.Reading.{record_at}
use Rattle.jx_portion.proofs.RecordLaws.{read_sealed}
use Rattle.jx_portion.proofs.Said.{answered, refused_is}
use Rattle.jx_portion.proofs.decoding.answer.Goals as goal

-- what holds anyway
so_too : {A : Type 0} (r : Result A DecodeFault) (Q : Type 0) → Q → IfErr r (λ fault. fault ≡ Memory → Q)
so_too (Ok x) Q q = tt
so_too (Err fault) Q q = λ e. q

pub returns-in_err-depth-clause-exact : goal.returns-in_err-depth-clause-exact
returns-in_err-depth-clause-exact c =
    let p = err_from_is_err_and c.from_residual.result c.from_residual.ensures.1 in
    rw (p.1, p.2) (refused_is c.in_err-depth.field-0.0 (record_at c.args.bytes.now) c.in_err-depth.ensures.reads)

pub returns-clause-exact : goal.returns-clause-exact
returns-clause-exact c =
    subst (IsAnswer c.portion_of.result) (sym c.in_ok-depth.ensures.reads) (answered c.portion_of.result (c.in_ok-depth.depth, run_fields c.in_ok-depth.parts) c.portion_of.ensures.made c.portion_of.ensures.fault)

pub returns-clause-sealed : goal.returns-clause-sealed
returns-clause-sealed c = so_too c.portion_of.result _ (read_sealed c.args.bytes.now _ c.in_ok-depth.ensures.reads)
