-- The rows of a text alone are those of its tree, also behind a front.
use Rattle.std.proofs.Common.{◌≡◌, ℕ, List, Option, None, Some, length, refl, sym, subst}
use Rattle.jx_run.specs.declared.texts.settings.NameRule.{NameRule}
use Rattle.jx_run.specs.declared.texts.settings.NameRule.TheVariants.{Any, Unique}
use Rattle.jx_run.specs.declared.texts.settings.Settings.{Settings}
use Rattle.jx_run.specs.declared.texts.verdict.Verdict.{Verdict}
use Rattle.jx_run.specs.declared.texts.verdict.Verdict.TheVariants.{Accepted}
use Rattle.jx_run.specs.Text.{IsText}
use Rattle.jx_run.specs.Tree.{Tree, span}
use Rattle.jx_run.specs.Verdict.{Judged}
use Rattle.jx_index.specs.declared.row.Row.{Row}
use Rattle.jx_index.specs.ByNames.{RefusesName, IsVerdictBy, a_text, repeated_name}
use Rattle.jx_index.specs.Indexed.{IndexedValue}
use Rattle.jx_index.specs.Repeats.{IsLeast, IsRepeat}
use Rattle.jx_index.specs.Rows.{rows}
use Rattle.jx_index.specs.RowsAlone.{AreRowsBy, AreRowsFrom, AreRowsRead}
use Rattle.jx_index.specs.Settled.{IsIndexBy, IsIndexFrom, rest_from}
use Rattle.jx_index.specs.inside.NameLists.{accepted_unless}
use Rattle.jx_index.proofs.Readings.{tree_of}

pub rows_of_text : (text : List ℕ) (start limit : ℕ) (table : List Row) → Judged start (rest_from start text) limit Accepted
    → ((d : ℕ) (tree : Tree) → IsText text start (length text) d tree → table ≡ rows tree) → AreRowsFrom start text limit table
rows_of_text text start limit table judged are = let t = tree_of Accepted judged refl in record { tree = t.tree; is_text = t.is; rows_are = are limit t.tree t.is }

module _ (settings : Settings) (text : List ℕ) (n : ℕ) (indexes : (i : IndexedValue) → IsIndexFrom n text settings.depth i → IsIndexBy settings text i) where
  pub rows_behind : (table : List Row) → AreRowsFrom n text settings.depth table → AreRowsRead settings text table
  rows_behind table h =
      let x =
      indexes (record { text = text; span = span n (length text); rows = table })
      (record { text = refl; span = refl; tree = h.tree; is_text = h.is_text; rows_are = h.rows_are }) in
      record { tree = x.tree; is_text = x.is_text; rows_are = x.rows_are }

  -- by the first name that an object repeats, where names have to be unique
  module _ (unique : settings.names ≡ Unique) (name : Option ℕ) (judged : Judged n (rest_from n text) settings.depth Accepted)
      (least : (d : ℕ) (tree : Tree) → IsText text n (length text) d tree → IsLeast (IsRepeat text (rows tree)) name) where
    refused_behind : AreRowsRead settings text (rows (tree_of Accepted judged refl).tree)
    refused_behind =
        let t = tree_of Accepted judged refl in
        rows_behind (rows t.tree) (record { tree = t.tree; is_text = t.is; rows_are = refl })

    name_behind : RefusesName settings.names text (rows refused_behind.tree) name
    name_behind =
        let t = tree_of Accepted judged refl in
        subst (λ (rule : NameRule). RefusesName rule text (rows refused_behind.tree) name) (sym unique)
        (subst (λ (table : List Row). IsLeast (IsRepeat text table) name) refused_behind.rows_are (least settings.depth t.tree t.is))

    by_name : (n : Option ℕ) → RefusesName settings.names text (rows refused_behind.tree) n → IsVerdictBy settings text (accepted_unless n)
    by_name None h = a_text refused_behind.is_text h
    by_name (Some at) h = repeated_name refused_behind.is_text h

    pub unless_repeated : (v : Verdict) → v ≡ accepted_unless name → IsVerdictBy settings text v
    unless_repeated v e = subst (IsVerdictBy settings text) (sym e) (by_name name name_behind)

-- where objects may have any names, what is read is what is accepted
pub rows_by_any : (settings : Settings) (text : List ℕ) (table : List Row) → settings.names ≡ Any → AreRowsRead settings text table → AreRowsBy settings text table
rows_by_any settings text table any h = (a_text h.is_text (subst (λ (rule : NameRule). RefusesName rule text (rows h.tree) None) (sym any) refl), h)
