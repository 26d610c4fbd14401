-- What the rule on names makes of texts.
use Rattle.std.proofs.Common.{◌≡◌, ℕ, List, Option, None, Some, refl, sym, subst}
use Rattle.jx_run.specs.declared.texts.settings.NameRule.{NameRule}
use Rattle.jx_run.specs.declared.texts.settings.NameRule.TheVariants.{Any}
use Rattle.jx_run.specs.declared.texts.settings.Settings.{Settings}
use Rattle.jx_run.specs.declared.texts.verdict.Verdict.{Verdict}
use Rattle.jx_run.specs.declared.texts.verdict.Verdict.TheVariants.{Accepted, Refused}
use Rattle.jx_run.specs.Settings.{JudgedBy, a_text as judged_text}
use Rattle.jx_index.specs.declared.row.Row.{Row}
use Rattle.jx_index.specs.ByNames.{RefusesName, IsVerdictBy, a_text, repeated_name, no_text}
use Rattle.jx_index.specs.Indexed.{IndexedValue}
use Rattle.jx_index.specs.Rows.{rows}
use Rattle.jx_index.specs.Settled.{IsIndexBy}

module _ (settings : Settings) (text : List ℕ) where
  pub refused_in_tree : (index : IndexedValue) (name : Option ℕ) (x : IsIndexBy settings text index) → RefusesName settings.names index.text index.rows name
      → RefusesName settings.names text (rows x.tree) name
  refused_in_tree index name x h =
      subst (λ (t : List ℕ). RefusesName settings.names t (rows x.tree) name) x.text
      (subst (λ (table : List Row). RefusesName settings.names index.text table name) x.rows_are h)

  -- where any names are allowed
  pub any_names : (v : Verdict) → settings.names ≡ Any → JudgedBy settings 0 text v → IsVerdictBy settings text v
  any_names Accepted is (judged_text {tree = tree} document) = a_text document (subst (λ (rule : NameRule). RefusesName rule text (rows tree) None) (sym is) refl)
  any_names (Refused r) is h = no_text h

  none_refused : {A : Type 0} (table : List Row) (at : ℕ) → settings.names ≡ Any → RefusesName settings.names text table (Some at) → A
  none_refused table at is h = let none : Some at ≡ None = subst (λ (rule : NameRule). RefusesName rule text table (Some at)) is h in absurd (cc)

  pub judged_anyhow : (v : Verdict) → settings.names ≡ Any → IsVerdictBy settings text v → JudgedBy settings 0 text v
  judged_anyhow _ is (a_text document h) = judged_text document
  judged_anyhow _ is (repeated_name {tree = tree} {at = at} document h) = none_refused (rows tree) at is h
  judged_anyhow _ is (no_text h) = h
