use Rattle.std.proofs.Common.{ℕ, Option, None, Some, sym, subst}
use Rattle.jx_run.specs.declared.texts.settings.NameRule.{NameRule}
use Rattle.jx_index.specs.Indexed.{IndexedValue}
use Rattle.jx_index.specs.declared.text_answer.TextAnswer.{TextAnswer}
use Rattle.jx_index.specs.declared.text_answer.TextAnswer.TheVariants as answer
use Rattle.jx_index.specs.ByNames.{RefusesName, a_text, repeated_name, no_text}
use Rattle.jx_index.specs.Settled.{IsReadBy}
use Rattle.jx_index.proofs.text_answer.TextAnswer.by_names.Goals as goal

pub returns-in-Refused : goal.returns-in-Refused
returns-in-Refused c = record {
  answer = λ settings text is h.
      let k : IsReadBy settings text (answer.Refused c.in-Refused.refusal) = subst (λ (a : TextAnswer). IsReadBy settings text a) c.in-Refused.is h in
      no_text k;
}

pub returns-in-None : goal.returns-in-None
returns-in-None c = record {
  answer = λ settings text is h.
      let index : IndexedValue = c.in-Accepted.index in
      let k : IsReadBy settings text (answer.Accepted index) = subst (λ (a : TextAnswer). IsReadBy settings text a) c.in-Accepted.is h in
      let refused : RefusesName settings.names index.text index.rows None =
      subst (λ (rule : NameRule). RefusesName rule index.text index.rows None) (sym is)
      (subst (λ (name : Option ℕ). RefusesName c.args.rule index.text index.rows name) c.in-None.is c.refused_name.ensures.name) in
      (a_text k.1.is_text (c.repeated_name_by_rows.ensures.name settings text index None k.1 refused), k.1);
}

pub returns : goal.returns
returns c = record {
  answer = λ settings text is h.
      let index : IndexedValue = c.in-Accepted.index in
      let k : IsReadBy settings text (answer.Accepted index) = subst (λ (a : TextAnswer). IsReadBy settings text a) c.in-Accepted.is h in
      let at = c.in-Some.at in
      let refused : RefusesName settings.names index.text index.rows (Some at) =
      subst (λ (rule : NameRule). RefusesName rule index.text index.rows (Some at)) (sym is)
      (subst (λ (name : Option ℕ). RefusesName c.args.rule index.text index.rows name) c.in-Some.is c.refused_name.ensures.name) in
      repeated_name k.1.is_text (c.repeated_name_by_rows.ensures.name settings text index (Some at) k.1 refused);
}
