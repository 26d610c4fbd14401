-- What is written and told of parts that were found, or of why there are none.
use Rattle.std.specs.Prelude.{Option, None, Some, Result, Ok, Err, Vec, slice_get}
use Rattle.std.proofs.Common.{◌≡◌, ℕ, List, [], ◌∷◌, length, refl, sym, ap, subst, ◌∙◌}
use Rattle.std.specs.declared.alloc.Global.{Global}
use Rattle.jx_run.specs.declared.texts.settings.Settings.{Settings}
use Rattle.jx_run.specs.declared.texts.verdict.Verdict.{Verdict}
use Rattle.jx_run.specs.declared.texts.verdict.Verdict.TheVariants.{Accepted}
use Rattle.jx_run.specs.Laws.{span_of}
use Rattle.jx_run.specs.Settings.{IsDocumentBy, JudgedBy, a_text, cut_short, stopped, too_deep}
use Rattle.jx_run.specs.Tree.{Tree}
use Rattle.jx_index.specs.declared.find_fault.FindFault.{FindFault}
use Rattle.jx_index.specs.declared.find_fault.FindFault.TheVariants.{NotAContainer}
use Rattle.jx_index.specs.declared.finder.Found.{Found}
use Rattle.jx_index.specs.declared.pointer.PointerFault.{PointerFault}
use Rattle.jx_index.specs.Found.{AreFoundIn, IsFoundIn, found_of, value_of}
use Rattle.jx_index.specs.Leads.{Numbered, kind_of, led}
use Rattle.jx_index.specs.Pointers.{tokens}
use Rattle.jx_ends.specs.declared.exit.Exit.{Exit}
use Rattle.jx_ends.specs.declared.exit.Exit.TheVariants.{Good, Bad}
use Rattle.jx_words.specs.declared.pointer_answer.PointerAnswer.{PointerAnswer}
use Rattle.jx_words.specs.declared.pointer_answer.PointerAnswer.TheVariants.{Lost, Unread}
use Rattle.jx_words.specs.inside.ReadPointers.{IsReadPointer}
use Rattle.jx_file_index.specs.declared.saved_text.SavedText.{SavedText}
use Rattle.jx_file_query.specs.declared.part.ContainerPart.{ContainerPart}
use Rattle.jx_file_query.specs.Parts.{IsContainer, IsIn, parts_of}
use Rattle.jx_cmd_index.specs.PartReports.{AreParts, SplitOutput, Splits, container, lost, part_lines, scalar, told_words, unread}
use Rattle.jx_cmd_index.specs.SavedBytes.{IsKeptOf, TellsApart}
use Rattle.jx_cmd_index.specs.inside.Splitting.{AreSplit, ComesToParts, HasNoParts}
use Rattle.jx_cmd_index.specs.inside.Splitting as inside
use Rattle.jx_cmd_index.proofs.PlaceReports.{Reads, read_is}

abbrev pub Split : Type 0
Split = Result (Vec ContainerPart Global) PointerAnswer

abbrev pub output_of : Split → List ℕ
output_of (Ok found) = part_lines found.items
output_of (Err answer) = []

abbrev pub tells_of : List ℕ → Split → List ℕ
tells_of pointer (Ok found) = []
tells_of pointer (Err answer) = told_words pointer answer

abbrev pub exit_of : Split → Exit
exit_of (Ok found) = Good
exit_of (Err answer) = Bad

no_parts : (parts : ℕ) (pointer text : List ℕ) (tree : Tree) (answer : PointerAnswer) → HasNoParts pointer text tree answer → Splits parts pointer text tree [] (told_words pointer answer) Bad
no_parts parts pointer text tree _ (inside.unread fault h) = unread fault h
no_parts parts pointer text tree _ (inside.lost fault p e) = lost fault p e
no_parts parts pointer text tree _ (inside.scalar p x) = scalar x.there p x.led_there x.no_container

splits_by : (parts : ℕ) (pointer text : List ℕ) (tree : Tree) (answer : Split) → ComesToParts parts pointer text tree answer → Splits parts pointer text tree (output_of answer) (tells_of pointer answer) (exit_of answer)
splits_by parts pointer text tree (Ok found) h =
    subst (λ (ps : List ContainerPart). Splits parts pointer text tree (part_lines ps) [] Good) (sym h.parts_are) (container h.there h.is_pointer h.led_there h.is_container)
splits_by parts pointer text tree (Err answer) h = no_parts parts pointer text tree answer h

abbrev pub Answers : ℕ → List ℕ → Option (List ℕ) → SavedText → Split → Type 0
Answers parts pointer content read answer = (settings : Settings) (chunk : ℕ) (text all : List ℕ) → IsKeptOf settings chunk text read → content ≡ Some all → TellsApart chunk text all → AreSplit settings parts pointer text answer

pub are_parts : (parts : ℕ) (pointer : List ℕ) (saved content : Option (List ℕ)) (read : SavedText) (r answer : Split) → Reads saved read → Answers parts pointer content read r → r ≡ answer
    → AreParts parts pointer saved content (output_of answer) (tells_of pointer answer) (exit_of answer)
are_parts parts pointer saved content read r answer reads answered e = λ settings chunk text bytes file s of is tells.
    let h = answered settings chunk text file (read_is saved read reads settings chunk text bytes s of) is tells in
    subst (λ (x : Split). SplitOutput settings parts pointer text (output_of x) (tells_of pointer x) (exit_of x)) e
    (record { tree = h.tree; is_text = h.is_text; splits = splits_by parts pointer text h.tree r h.comes })

-- ---- what a pointer leads to

pub found_alone : (settings : Settings) (text pointer : List ℕ) (found : List (Result Found FindFault)) (one : Result Found FindFault) → AreFoundIn settings text (pointer ∷ []) found → slice_get found 0 ≡ Some one
    → IsFoundIn settings text pointer one
found_alone settings text pointer [] one h e = absurd h.found_are
found_alone settings text pointer (x ∷ []) one h e = let same : one ≡ x = cc in record { tree = h.tree; is_text = h.is_text; found_is = same ∙ h.found_are.0 }
found_alone settings text pointer (x ∷ y ∷ more) one h e = absurd h.found_are.1

record HasTree (settings : Settings) (text : List ℕ) : Type 0 where
  tree : Tree
  is_text : IsDocumentBy settings 0 text tree

tree_of : (settings : Settings) (text : List ℕ) (v : Verdict) → v ≡ Accepted → JudgedBy settings 0 text v → HasTree settings text
tree_of settings text v e (a_text {tree = tree} h) = record { tree = tree; is_text = h }
tree_of settings text v e (cut_short none longest) = absurd cc
tree_of settings text v e (too_deep none longest less begins) = absurd cc
tree_of settings text v e (stopped none longest less begins) = absurd cc

module _ (settings : Settings) (parts : ℕ) (spelt text pointer : List ℕ) where
  pub split_unread : (fault : PointerFault) → IsReadPointer spelt pointer (Some fault) → JudgedBy settings 0 text Accepted → AreSplit settings parts spelt text (Err (Unread fault))
  split_unread fault h judged = let t = tree_of settings text Accepted refl judged in record { tree = t.tree; is_text = t.is_text; comes = inside.unread fault h }

  pub record Leads (f : Found) : Type 0 where
    pub tree : Tree
    pub is_text : IsDocumentBy settings 0 text tree
    pub there : Numbered
    pub led_there : led text tree (tokens spelt) ≡ Ok there
    pub kind_is : kind_of there.tree ≡ f.kind
    pub span_is : span_of there.tree ≡ f.span

  fault_led : (fault : FindFault) (r : Result Numbered FindFault) → Err fault ≡ found_of r → r ≡ Err fault
  fault_led fault (Ok c) e = absurd cc
  fault_led fault (Err other) e = cc

  record IsLed (f : Found) (r : Result Numbered FindFault) : Type 0 where
    there : Numbered
    is : r ≡ Ok there
    same : f ≡ value_of there.tree

  value_led : (f : Found) (r : Result Numbered FindFault) → Ok f ≡ found_of r → IsLed f r
  value_led f (Ok c) e = record { there = c; is = refl; same = (cc) }
  value_led f (Err fault) e = absurd cc

  module _ (read : IsReadPointer spelt pointer None) where
    pub split_lost : (fault : FindFault) → IsFoundIn settings text pointer (Err fault) → AreSplit settings parts spelt text (Err (Lost fault))
    split_lost fault h =
        let e : Err fault ≡ found_of (led text h.tree (tokens spelt)) = h.found_is ∙ ap (λ (p : List ℕ). found_of (led text h.tree (tokens p))) read.1 in
        record { tree = h.tree; is_text = h.is_text; comes = inside.lost fault read.0 (fault_led fault (led text h.tree (tokens spelt)) e) }

    pub leads : (f : Found) → IsFoundIn settings text pointer (Ok f) → Leads f
    leads f h =
        let e : Ok f ≡ found_of (led text h.tree (tokens spelt)) = h.found_is ∙ ap (λ (p : List ℕ). found_of (led text h.tree (tokens p))) read.1 in
        let l = value_led f (led text h.tree (tokens spelt)) e in
        record { tree = h.tree; is_text = h.is_text; there = l.there; led_there = l.is; kind_is = ap (λ (x : Found). x.kind) (sym l.same); span_is = ap (λ (x : Found). x.span) (sym l.same) }

    pub split_scalar : (f : Found) (token : ℕ) → IsFoundIn settings text pointer (Ok f) → (IsContainer f.kind → ⊥) → token ≡ length (tokens spelt) → AreSplit settings parts spelt text (Err (Lost (NotAContainer token)))
    split_scalar f token h none e =
        let l = leads f h in
        subst (λ (n : ℕ). AreSplit settings parts spelt text (Err (Lost (NotAContainer n)))) (sym e)
        (record { tree = l.tree; is_text = l.is_text; comes = inside.scalar read.0 (record { there = l.there; led_there = l.led_there; no_container = λ c. none (subst IsContainer l.kind_is c) }) })

    pub is_in : (f : Found) (h : IsFoundIn settings text pointer (Ok f)) → IsContainer f.kind → IsIn settings text (leads f h).there.tree
    is_in f h c =
        let l = leads f h in
        record { tree = l.tree; is_text = l.is_text; tokens = tokens spelt; there = l.there; led_there = l.led_there; is_there = refl; is_container = subst IsContainer (sym l.kind_is) c }

    pub split_found : (f : Found) (h : IsFoundIn settings text pointer (Ok f)) → IsContainer f.kind → (found : Vec ContainerPart Global) → found.items ≡ parts_of parts text (leads f h).there.tree → AreSplit settings parts spelt text (Ok found)
    split_found f h c found e =
        let l = leads f h in
        record {
          tree = l.tree;
          is_text = l.is_text;
          comes = record { is_pointer = read.0; there = l.there; led_there = l.led_there; is_container = subst IsContainer (sym l.kind_is) c; parts_are = e };
        }
