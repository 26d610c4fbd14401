use Rattle.std.proofs.Common.{◌≡◌, ◌<◌, ℕ, ap, arith, inl, inr, length, ◌∙◌}
use Rattle.std.proofs.lemmas.Bool.{cases_lt}
use Rattle.std.proofs.lemmas.Option.{slice_get_within}
use Rattle.jx_index.specs.inside.Trie.{place_from}
use Rattle.jx_file_query.proofs.Overs.{place_named}
use Rattle.jx_file_query.proofs.walk_passing.next_place.Goals as goal

pub edges-preserved : goal.edges-preserved
edges-preserved c = λ i e low is p l.
    let most = c.nearer-next.ensures.most in
    elim (cases_lt i c.edges.at) [
      | inl lt ↦ c.edges.invariant i e lt is p (omega (arith, l, most))
      | inr ge ↦ let same : c.edges.at ≡ i = omega (arith, low, ge) in
          let here : c.place_from.result ≡ e.place = c.place_from.ensures ∙ ap (λ (k : ℕ). place_from c.args.edges.now k c.args.node) same ∙ place_named c.args.edges.now i c.args.node e is p in
          let f = c.nearer-next.ensures.low (omega (arith, here, l)) in
          omega (arith, here, f)
    ]

pub returns : goal.returns
returns c = λ known i e is p l.
    let within : i < length c.args.edges.now = slice_get_within c.args.edges.now i e is in
    c.edges.invariant i e (omega (arith, within)) is p l
