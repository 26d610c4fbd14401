-- What the rule on names makes of judged elements.
use Rattle.std.proofs.Common.{◌≡◌, ℕ, ◌≤◌, List, [], ◌∷◌, length, Option, None, refl, sym, subst, arith}
use Rattle.std.specs.Prelude.{All}
use Rattle.std.specs.List.{AllZip}
use Rattle.std.proofs.lemmas.List.Elements.{All-head, All-tail}
use Rattle.jx_summary.specs.declared.span.Span.{Span}
use Rattle.jx_run.specs.declared.sequences.element_verdict.ElementVerdict.{ElementVerdict}
use Rattle.jx_run.specs.declared.sequences.element_verdict.ElementVerdict.TheVariants as verdict
use Rattle.jx_run.specs.declared.sequences.element_verdict.JudgedElement.{JudgedElement}
use Rattle.jx_run.specs.declared.texts.settings.FrontMark.{FrontMark}
use Rattle.jx_run.specs.declared.texts.settings.NameRule.{NameRule}
use Rattle.jx_run.specs.declared.texts.settings.NameRule.TheVariants.{Any, Unique}
use Rattle.jx_run.specs.declared.texts.settings.Settings.{Settings}
use Rattle.jx_run.specs.Elements.{Part, part_span}
use Rattle.jx_run.specs.ElementVerdict.{IsClosedText, IsVerdictOn, IsJudgedElement}
use Rattle.jx_run.specs.Text.{IsDocument, IsText}
use Rattle.jx_run.specs.Tree.{Tree}
use Rattle.jx_run.specs.MarkAlone.{elements_by}
use Rattle.jx_run.proofs.ElementsLie.{LiesIn, lie_in}
use Rattle.jx_index.specs.ByNames.{RefusesName, IsRefusedName, IsJudgedBy, judged_unless}
use Rattle.jx_index.specs.Repeats.{IsLeast, IsRepeat}
use Rattle.jx_index.specs.Rows.{rows}
use Rattle.jx_index.specs.inside.JudgedIn.{IsJudgedIn}

-- ---- with where each element lies

placed : (input : List ℕ) (limit : ℕ) (ps : List Part) (js : List JudgedElement) → AllZip (IsJudgedElement limit) ps js → All (LiesIn input) ps → AllZip (IsJudgedIn input limit) ps js
placed input limit [] [] z l = tt
placed input limit [] (j ∷ js) z l = absurd z
placed input limit (p ∷ ps) [] z l = absurd z
placed input limit (p ∷ ps) (j ∷ js) z l =
    let lies = All-head (LiesIn input) p ps l in
    (record { judged = z.0; bytes = lies.bytes; within = lies.within }, placed input limit ps js z.1 (All-tail (LiesIn input) p ps l))

pub judged_in : (mark : FrontMark) (input : List ℕ) (limit : ℕ) (js : List JudgedElement) → AllZip (IsJudgedElement limit) (elements_by mark input) js
    → AllZip (IsJudgedIn input limit) (elements_by mark input) js
judged_in mark input limit js h = placed input limit (elements_by mark input) js h (lie_in mark input)

-- ---- by the rule on names

-- the rule refuses nothing in what is not accepted, and nothing at all where any names are allowed
module _ (settings : Settings) (input : List ℕ) (p : Part) (j : JudgedElement) (h : IsJudgedElement settings.depth p j) where
  -- what is accepted is a text whose end shows
  accepted_text : j.verdict ≡ verdict.Accepted → IsClosedText p settings.depth
  accepted_text e = let k = subst (IsVerdictOn p settings.depth) e h.verdict_is in k.1

  none_in : (v : ElementVerdict) → (v ≡ verdict.Accepted → (text : IsClosedText p settings.depth) × RefusesName settings.names input (rows text.tree) None) → IsRefusedName settings input p v None
  none_in verdict.Accepted f = f refl
  none_in (verdict.Refused r) f = refl
  none_in verdict.MayBeCut f = refl
  none_in verdict.Unmarked f = refl

  pub left_so : ((settings.names ≡ Unique) × (j.verdict ≡ verdict.Accepted) → ⊥) → IsJudgedBy settings input p j
  left_so other = record { told = j; judged = h; name = None; refused = none_in j.verdict (λ e. pick settings.names refl e); by_names = refl }
    where
      pick : (rule : NameRule) → settings.names ≡ rule → j.verdict ≡ verdict.Accepted → (text : IsClosedText p settings.depth) × RefusesName settings.names input (rows text.tree) None
      pick Any is e = let t = accepted_text e in (t, subst (λ (rule : NameRule). RefusesName rule input (rows t.tree) None) (sym is) refl)
      pick Unique is e = absurd (other (is, e))

-- ---- where names have to be unique

module _ (settings : Settings) (input : List ℕ) (p : Part) (j : JudgedElement) (h : IsJudgedIn input settings.depth p j) where
  span_here : j.span ≡ part_span p
  span_here = h.judged.span_is

  pub span_ordered : j.span.start ≤ j.span.end
  span_ordered = subst (λ (s : Span). s.start ≤ s.end) (sym span_here) (omega arith)

  pub span_within : j.span.end ≤ length input
  span_within = subst (λ (s : Span). s.end ≤ length input) (sym span_here) h.within

  there : (text : IsClosedText p settings.depth) → IsText input j.span.start j.span.end settings.depth text.tree
  there text =
      subst (λ (s : Span). IsText input s.start s.end settings.depth text.tree) (sym span_here)
      (subst (λ (b : List ℕ). IsDocument p.at b settings.depth text.tree) (sym h.bytes) text.accepted.is_text)

  pub has_text : j.verdict ≡ verdict.Accepted → (tree : Tree) × IsText input j.span.start j.span.end settings.depth tree
  has_text e = let t = accepted_text settings input p j h.judged e in (t.tree, there t)

  pub judged_unless_named : j.verdict ≡ verdict.Accepted → settings.names ≡ Unique → (name : Option ℕ)
      → ((tree : Tree) → IsText input j.span.start j.span.end settings.depth tree → IsLeast (IsRepeat input (rows tree)) name)
      → (after : JudgedElement) → after ≡ judged_unless name j → IsJudgedBy settings input p after
  judged_unless_named accepted is name least after same =
      let t = accepted_text settings input p j h.judged accepted in
      let refused : RefusesName settings.names input (rows t.tree) name = subst (λ (rule : NameRule). RefusesName rule input (rows t.tree) name) (sym is) (least t.tree (there t)) in
      let all : IsRefusedName settings input p verdict.Accepted name = (t, refused) in
      record {
        told = j;
        judged = h.judged;
        name = name;
        refused = subst (λ (v : ElementVerdict). IsRefusedName settings input p v name) (sym accepted) all;
        by_names = same;
      }
