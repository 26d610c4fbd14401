use Rattle.std.proofs.Common.{◌≡◌, ◌<◌, ℕ, Some, arith, inl, inr, length, subst, sym}
use Rattle.std.specs.Prelude.{slice_get}
use Rattle.std.proofs.lemmas.Bool.{cases_lt}
use Rattle.std.proofs.lemmas.Option.{slice_get_within}
use Rattle.jx_file_query.specs.inside.Members.{WantsNone}
use Rattle.jx_file_query.proofs.members.any_wants.Goals as goal

pub edges-preserved : goal.edges-preserved
edges-preserved c = λ i e low is p.
    elim (cases_lt i c.edges.at) [
      | inl lt ↦ c.edges.invariant i e lt is p
      | inr ge ↦ let same : c.edges.at ≡ i = omega (arith, low, ge) in
          subst (λ (k : ℕ). WantsNone c.args.names.now k c.args.chunk) same
          (c.wants_at.ensures c.if-wants_at.false e (subst (λ (k : ℕ). slice_get c.args.edges.now k ≡ Some e) (sym same) is) p)
    ]

pub returns : goal.returns
returns c = λ none i e is p.
    let within : i < length c.args.edges.now = slice_get_within c.args.edges.now i e is in
    c.edges.invariant i e (omega (arith, within)) is p
