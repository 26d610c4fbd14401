-- What is told of the pointer to a container.
use Rattle.std.specs.Prelude.{Some, None, Option, Result, slice_get}
use Rattle.std.proofs.Common.{◌≡◌, ℕ, List, [], ◌∷◌, length, Bool, refl, sym, ap, subst, ◌∙◌}
use Rattle.jx_lex.specs.declared.kind.Kind.TheVariants as kind
use Rattle.jx_run.specs.declared.texts.settings.Settings.{Settings}
use Rattle.jx_run.specs.declared.texts.verdict.Verdict.TheVariants.{Accepted}
use Rattle.jx_run.specs.Settings.{IsDocumentBy, JudgedBy, a_text}
use Rattle.jx_run.specs.Tree.{Tree, node}
use Rattle.jx_index.specs.declared.find_fault.FindFault.{FindFault}
use Rattle.jx_index.specs.declared.finder.Found.{Found}
use Rattle.jx_index.specs.Found.{AreFoundIn, found_of}
use Rattle.jx_index.specs.Leads.{led, led_from}
use Rattle.jx_index.specs.Pointers.{parted, tokens}
use Rattle.jx_each.specs.declared.content.LineContent.{LineContent}
use Rattle.jx_each.specs.declared.content.LineContent.TheVariants.{Alone}
use Rattle.jx_each.specs.Due.{is_container}
use Rattle.jx_each.specs.Each.{EachValue, HasTaken, HasTakenBy}
use Rattle.jx_values.specs.Elements.{TellsByVerdict, told_of_found}
use Rattle.jx_values.specs.inside.Sought.{TellsFound, any_names, sought_at_root, sought_of, told_of_root}

-- ---- of a pointer that was looked up

pub found_first : (content : LineContent) (settings : Settings) (text pointer : List ℕ) (items : List (Result Found FindFault)) (one : Result Found FindFault) (n : ℕ) (told : List ℕ) → AreFoundIn settings text (pointer ∷ []) items
    → slice_get items 0 ≡ Some one → told ≡ told_of_found content pointer one n → TellsFound content settings pointer text n told
found_first content settings text pointer [] one n told h is e = absurd (h.found_are)
found_first content settings text pointer (first ∷ items) one n told h is e =
    (h.tree, h.is_text, e ∙ ap (λ (r : Result Found FindFault). told_of_found content pointer r n) (sym (some_is first one is) ∙ h.found_are.0))
  where
    or_first : Option (Result Found FindFault) → Result Found FindFault → Result Found FindFault
    or_first (Some x) d = x
    or_first None d = d

    some_is : (x y : Result Found FindFault) → Some x ≡ Some y → x ≡ y
    some_is x y h = ap (λ (o : Option (Result Found FindFault)). or_first o x) h

-- names are of no account
any_document : (settings : Settings) (text : List ℕ) (tree : Tree) → IsDocumentBy (any_names settings) 0 text tree → IsDocumentBy settings 0 text tree
any_document settings text tree d = record { front = d.front; rest = d.rest; is_front = d.is_front; whole = d.whole; text = d.text }

pub tells_found : (content : LineContent) (settings : Settings) (pointer text told : List ℕ) (n : ℕ) → n ≡ length (tokens pointer) → TellsFound content (any_names settings) pointer text n told → TellsByVerdict content settings pointer text Accepted told
tells_found content settings pointer text told n e h =
    (h.0, any_document settings text h.0 h.1, h.2 ∙ ap (told_of_found content pointer (found_of (led text h.0 (tokens pointer)))) e)

-- ---- of the root

root_told : (text : List ℕ) (tree : Tree) → told_of_root (is_container tree) ≡ told_of_found Alone [] (found_of (led text tree (tokens []))) (length (tokens []))
unfolding parted led_from
root_told text (node kind.Array s below) = refl
root_told text (node kind.Object s below) = refl
root_told text (node kind.String s below) = refl
root_told text (node kind.Number s below) = refl
root_told text (node kind.True s below) = refl
root_told text (node kind.False s below) = refl
root_told text (node kind.Null s below) = refl

pub sought_always : (content : LineContent) (pointer : List ℕ) → sought_at_root content ≡ [] ∷ [] → sought_of content pointer ≡ pointer ∷ []
sought_always content [] at_root = at_root
sought_always content (b ∷ bytes) at_root = refl

-- where the root is not looked up, values alone are written
pub taken_alone : (content : LineContent) (settings : Settings) (pointer text given : List ℕ) (each : EachValue) → (pointer ≡ []) × (content ≡ Alone) → HasTakenBy content pointer text given each → HasTaken pointer text given each
taken_alone content settings pointer text given each none h = subst (λ (c : LineContent). HasTakenBy c pointer text given each) none.1 h

pub tells_root : (content : LineContent) (settings : Settings) (pointer text told : List ℕ) (is : Bool) → (pointer ≡ []) × (content ≡ Alone) → JudgedBy settings 0 text Accepted
    → ((tree : Tree) → IsDocumentBy settings 0 text tree → is ≡ is_container tree) → told ≡ told_of_root is → TellsByVerdict content settings pointer text Accepted told
tells_root content settings pointer text told is none (a_text {tree = tree} d) container e = (
  tree,
  d,
  e ∙ ap told_of_root (container tree d) ∙ root_told text tree
      ∙ ap (λ (p : List ℕ). told_of_found Alone p (found_of (led text tree (tokens p))) (length (tokens p))) (sym none.0)
      ∙ ap (λ (c : LineContent). told_of_found c pointer (found_of (led text tree (tokens pointer))) (length (tokens pointer))) (sym none.1),
)
