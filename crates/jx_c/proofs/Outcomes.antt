-- What is told of the pointer to a container.
use Rattle.std.specs.Prelude.{Some, Result, slice_get}
use Rattle.std.proofs.Common.{◌≡◌, ℕ, List, [], ◌∷◌, length, Bool, refl, sym, ap, ◌∙◌}
use Rattle.std.proofs.lemmas.Option.{same_Some}
use Rattle.jx_lex.specs.declared.kind.Kind.TheVariants as kind
use Rattle.jx_run.specs.declared.texts.settings.Settings.{Settings}
use Rattle.jx_run.specs.declared.texts.verdict.Verdict.TheVariants.{Accepted}
use Rattle.jx_run.specs.Settings.{IsDocumentBy, JudgedBy, a_text}
use Rattle.jx_run.specs.Tree.{Tree, node}
use Rattle.jx_index.specs.declared.find_fault.FindFault.{FindFault}
use Rattle.jx_index.specs.declared.finder.Found.{Found}
use Rattle.jx_index.specs.Found.{AreFoundIn, found_of}
use Rattle.jx_index.specs.Leads.{led, led_from}
use Rattle.jx_index.specs.Pointers.{parted, tokens}
use Rattle.jx_each.specs.Due.{is_container}
use Rattle.jx_c.specs.Values.{LeadsTo, outcome_of_found, outcome_of_root}
use Rattle.jx_c.specs.declared.streams.stream.JxOutcome.{JxOutcome}

-- of a pointer that was looked up alone
pub found_first : (settings : Settings) (text pointer : List ℕ) (items : List (Result Found FindFault)) (one : Result Found FindFault) (n : ℕ) (told : JxOutcome) → AreFoundIn settings text (pointer ∷ []) items
    → slice_get items 0 ≡ Some one → told ≡ outcome_of_found one n → LeadsTo settings pointer text n told
found_first settings text pointer [] one n told h is e = absurd (h.found_are)
found_first settings text pointer (first ∷ items) one n told h is e =
    (h.tree, h.is_text, e ∙ ap (λ (r : Result Found FindFault). outcome_of_found r n) (sym (same_Some first one is) ∙ h.found_are.0))

-- of the root
root_told : (text : List ℕ) (tree : Tree) → outcome_of_root (is_container tree) ≡ outcome_of_found (found_of (led text tree (tokens []))) (length (tokens []))
unfolding parted led_from
root_told text (node kind.Array s below) = refl
root_told text (node kind.Object s below) = refl
root_told text (node kind.String s below) = refl
root_told text (node kind.Number s below) = refl
root_told text (node kind.True s below) = refl
root_told text (node kind.False s below) = refl
root_told text (node kind.Null s below) = refl

pub root_leads : (settings : Settings) (pointer text : List ℕ) (told : JxOutcome) (is : Bool) → pointer ≡ [] → JudgedBy settings 0 text Accepted → ((tree : Tree) → IsDocumentBy settings 0 text tree → is ≡ is_container tree)
    → told ≡ outcome_of_root is → LeadsTo settings pointer text (length (tokens pointer)) told
root_leads settings pointer text told is none (a_text {tree = tree} d) container e =
    (tree, d, e ∙ ap outcome_of_root (container tree d) ∙ root_told text tree ∙ ap (λ (p : List ℕ). outcome_of_found (found_of (led text tree (tokens p))) (length (tokens p))) (sym none))
