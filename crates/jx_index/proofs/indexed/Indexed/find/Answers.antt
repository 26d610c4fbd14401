use Rattle.std.proofs.Common.{◌≡◌, ◌<◌, ◌≤◌, length, drop, refl, sym, ap, subst, ◌∙◌, arith}
use Rattle.std.proofs.lemmas.Bool.Decides.{nat_tests}
use Rattle.std.proofs.lemmas.List.{length-drop}
use Rattle.std.proofs.lemmas.Result.{err_from_is_err_and}
use Rattle.jx_index.specs.declared.units.Spelling.TheVariants.{InToken}
use Rattle.jx_index.specs.Pointers.{HasSlash, tokens}
use Rattle.jx_index.specs.RowsLead.{rows_lead}
use Rattle.jx_index.specs.Units.{chars_units}
use Rattle.jx_index.proofs.FindSteps.{step_on, step_off, no_token, leads_to_row}
use Rattle.jx_index.proofs.Indexes.{tree_leads}
use Rattle.jx_index.proofs.indexed.Indexed.find.Goals as goal

pub loop-rows-preserved : goal.loop-rows-preserved
loop-rows-preserved c =
    let here : 0 < length c.loop-rows.rest.now = grind (arith, nat_tests, c.is_empty.ensures, c.loop-rows-test.true) in
    let i = c.loop-rows.invariant in
    let later : length c.skip-rest.result.now ≡ length (drop c.token_len-len.result c.skip-bytes.result.now) = ap length c.skip-rest.ensures in
    let bytes : length c.skip-bytes.result.now ≡ length (drop 1 c.loop-rows.rest.now) = ap length c.skip-bytes.ensures in
    record {
      same =
          step_on c.args.self.now.text c.args.self.now.rows c.loop-rows.rest.now c.skip-bytes.result.now c.keep-name.result.now c.skip-rest.result.now c.token_len-len.result c.loop-rows.node c.loop-rows.token
          here i.slash c.skip-bytes.ensures c.token_len-len.ensures.slashless c.token_len-len.ensures.next c.keep-name.ensures c.skip-rest.ensures (chars_units InToken 0 c.keep-name.result.now) refl
          c.in_ok-node.node c.in_ok-node.ensures
          ∙ i.same;
      slash = subst HasSlash (sym c.skip-rest.ensures) c.token_len-len.ensures.next;
      is_row = leads_to_row c.args.self.now.text c.args.self.now.rows (chars_units InToken 0 c.keep-name.result.now) c.loop-rows.node c.loop-rows.token c.in_ok-node.node c.in_ok-node.ensures;
      count = omega (arith, i.count, later, bytes, length-drop c.token_len-len.result c.skip-bytes.result.now, length-drop 1 c.loop-rows.rest.now);
    }

pub returns-in_err-node-clause-leads : goal.returns-in_err-node-clause-leads
returns-in_err-node-clause-leads c = λ limit tree t.
    let here : 0 < length c.loop-rows.rest.now = grind (arith, nat_tests, c.is_empty.ensures, c.loop-rows-test.true) in
    let i = c.loop-rows.invariant in
    let p = err_from_is_err_and c.from_residual.result c.from_residual.ensures.1 in
    let off =
    step_off c.args.self.now.text c.args.self.now.rows c.loop-rows.rest.now c.skip-bytes.result.now c.keep-name.result.now (drop c.token_len-len.result c.skip-bytes.result.now) c.token_len-len.result c.loop-rows.node c.loop-rows.token
    here i.slash c.skip-bytes.ensures c.token_len-len.ensures.slashless c.token_len-len.ensures.next c.keep-name.ensures refl (chars_units InToken 0 c.keep-name.result.now) refl
    c.in_err-node.field-0.0 c.in_err-node.ensures
    ∙ i.same
    ∙ ap (λ n. rows_lead c.args.self.now.text c.args.self.now.rows (tokens c.bytes-rest.result.now) n 0) c.root-node.ensures.first
    ∙ ap (λ x. rows_lead c.args.self.now.text c.args.self.now.rows (tokens x) 0 0) c.bytes-rest.ensures.spelt
    ∙ tree_leads c.args.self.now.text c.args.self.now.rows c.args.self.now.span.start c.args.self.now.span.end limit tree t (sym c.rows-rows.ensures.same ∙ c.rows-rows.ensures.tree limit tree t) (tokens c.args.pointer.now) in
    rw (p.1, p.2) off

pub returns-clause-leads : goal.returns-clause-leads
returns-clause-leads c = λ limit tree t.
    let none : length c.loop-rows.rest.now ≤ 0 = grind (arith, nat_tests, c.is_empty.ensures, c.loop-rows-test.false) in
    sym (no_token c.args.self.now.text c.args.self.now.rows c.loop-rows.rest.now c.loop-rows.node c.loop-rows.token none)
    ∙ c.loop-rows.invariant.same
    ∙ ap (λ n. rows_lead c.args.self.now.text c.args.self.now.rows (tokens c.bytes-rest.result.now) n 0) c.root-node.ensures.first
    ∙ ap (λ x. rows_lead c.args.self.now.text c.args.self.now.rows (tokens x) 0 0) c.bytes-rest.ensures.spelt
    ∙ tree_leads c.args.self.now.text c.args.self.now.rows c.args.self.now.span.start c.args.self.now.span.end limit tree t (sym c.rows-rows.ensures.same ∙ c.rows-rows.ensures.tree limit tree t) (tokens c.args.pointer.now)
