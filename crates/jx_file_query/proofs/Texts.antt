-- Containers of a text by settings, and the marks of the text.
use Rattle.std.proofs.Common.{◌≡◌, ℕ, ◌+◌, ◌-◌, ◌≤◌, List, length, take, drop, refl, sym, ap, subst, ◌∙◌, arith}
use Rattle.std.specs.Prelude.{Ok, slice_range}
use Rattle.std.proofs.lemmas.List.{length-drop, take_all}
use Rattle.jx_lex.specs.declared.alphabet.mark.Mark.{Mark}
use Rattle.jx_lex.specs.Lex.{Track}
use Rattle.jx_run.specs.declared.texts.settings.Settings.{Settings}
use Rattle.jx_run.specs.declared.texts.settings.Front.TheVariants.{Skip}
use Rattle.jx_run.specs.declared.texts.verdict.Verdict.TheVariants.{Accepted}
use Rattle.jx_run.specs.Front.{front_of}
use Rattle.jx_run.specs.Settings.{IsDocumentBy}
use Rattle.jx_run.specs.Telling.{IsAcceptedFrom, tokens_by}
use Rattle.jx_run.specs.Text.{Document, IsDocument, IsText}
use Rattle.jx_run.specs.Tree.{Tree, span}
use Rattle.jx_index.specs.Indexed.{IndexedValue}
use Rattle.jx_index.specs.Rows.{rows}
use Rattle.jx_index.specs.Settled.{IsIndexBy, IsIndexFrom, rest_from}
use Rattle.jx_index.proofs.Readings.{tree_of}
use Rattle.jx_index.proofs.Tokens.{TokensAreRead}
use Rattle.jx_file_query.specs.Parts.{IsIn}
use Rattle.jx_file_query.proofs.Ways.{Inside, led_there}

-- what is known of texts
pub record Laws : Type 0 where
  pub tokens : TokensAreRead
  pub index : (settings : Settings) (text : List ℕ) (count : ℕ) (index : IndexedValue) → front_of settings.mark text ≡ Skip count → IsIndexFrom count text settings.depth index → IsIndexBy settings text index
  pub text : (settings : Settings) (text : List ℕ) (index : IndexedValue) (x : IsIndexBy settings text index) → IsText index.text index.span.start index.span.end settings.depth x.tree
  pub one_tree : (settings : Settings) (at : ℕ) (bytes : List ℕ) (x y : Tree) → IsDocumentBy settings at bytes x → IsDocumentBy settings at bytes y → x ≡ y

module _ (laws : Laws) (settings : Settings) (text : List ℕ) (a : IsAcceptedFrom settings text) where
  rest_is : rest_from a.count text ≡ drop a.count text
  rest_is = take_all (length text - a.count) (drop a.count text) (let l : length (drop a.count text) ≡ length text - a.count = length-drop a.count text in omega (arith, l))

  -- it is a document behind its front, with the same tree
  document_there : (tree : Tree) → IsDocumentBy settings 0 text tree → Document a.count (drop a.count text) tree
  document_there tree h =
      let t = tree_of Accepted a.judged refl in
      let index : IndexedValue = record { text = text; span = span a.count (length text); rows = rows t.tree } in
      let here : IsText text a.count (length text) settings.depth t.tree = subst (λ (xs : List ℕ). IsDocument a.count xs settings.depth t.tree) (sym rest_is) t.is in
      let from : IsIndexFrom a.count text settings.depth index = record { text = refl; span = refl; tree = t.tree; is_text = here; rows_are = refl } in
      let by : IsIndexBy settings text index = laws.index settings text a.count index a.front from in
      let same : by.tree ≡ tree = laws.one_tree settings 0 text by.tree tree by.is_text h in
      let all : IsText text a.count (length text) settings.depth by.tree = laws.text settings text index by in
      subst (λ (xs : List ℕ). Document a.count xs tree) rest_is (subst (λ (x : Tree). Document a.count (rest_from a.count text) x) same all.reads)

  pub container_inside : (container : Tree) → IsIn settings text container → Inside laws.tokens (length text) text (tokens_by settings.mark text).marks container
  container_inside container x =
      let within = a.within in
      let l : length (drop a.count text) ≡ length text - a.count = length-drop a.count text in
      subst (Inside laws.tokens (length text) text (tokens_by settings.mark text).marks) x.is_there
      (led_there laws.tokens (length text) text (tokens_by settings.mark text).marks a.count (drop a.count text) x.tree (document_there x.tree x.is_text) refl (omega (arith, within, l))
      (ap (λ (t : Track). t.marks) a.tokens) x.tokens x.there x.led_there)
