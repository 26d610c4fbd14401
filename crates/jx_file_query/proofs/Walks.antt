-- How far a walk has come.
use Rattle.std.proofs.Common.{◌≡◌, ℕ, ◌+◌, ◌*◌, ◌≤◌, List, [], length, refl, sym, ap, subst, arith, None, Result, ◌∙◌}
use Rattle.std.specs.Prelude.{is_some}
use Rattle.std.proofs.lemmas.List.{take_all}
use Rattle.jx_lex.specs.Lex.{Track}
use Rattle.jx_run.specs.declared.texts.settings.FrontMark.{FrontMark}
use Rattle.jx_run.specs.declared.texts.settings.NameRule.TheVariants.{Any}
use Rattle.jx_run.specs.declared.texts.settings.Settings.{Settings}
use Rattle.jx_run.specs.declared.texts.verdict.Verdict.{Verdict}
use Rattle.jx_run.specs.declared.texts.verdict.Verdict.TheVariants.{Accepted}
use Rattle.jx_run.specs.Laws.{verdict_on}
use Rattle.jx_run.specs.Reader.{read_by}
use Rattle.jx_run.specs.Settings.{IsDocumentBy, IsFront, JudgedBy, a_text, cut_short, stopped, too_deep}
use Rattle.jx_run.specs.Telling.{tokens_by}
use Rattle.jx_run.specs.Text.{IsDocument}
use Rattle.jx_run.specs.Tree.{Tree}
use Rattle.jx_run.proofs.InTurn.{no_tokens_yet}
use Rattle.jx_index.specs.declared.find_fault.FindFault.{FindFault}
use Rattle.jx_index.specs.declared.finder.Found.{Found}
use Rattle.jx_index.specs.declared.trie.Edge.{Edge}
use Rattle.jx_index.specs.Found.{AreFoundIn}
use Rattle.jx_find.specs.declared.held.Sought.{Sought}
use Rattle.jx_find.specs.Held.{IsHeld}
use Rattle.jx_find.proofs.Finders.{verdict_goes}
use Rattle.jx_file_index.specs.declared.index.Index.{Index}
use Rattle.jx_file_index.specs.Index.{IsIndexOf}
use Rattle.jx_file_query.specs.Chunks.{chunk_at}
use Rattle.jx_file_query.specs.HeldAt.{IsHeldAt, IsHeldTo}
use Rattle.jx_file_query.specs.Known.{IsKnown}
use Rattle.jx_file_query.proofs.Chunkings.{past_all}
use Rattle.jx_file_query.proofs.Standing.{between_first}

-- ---- the names of objects are of no account

abbrev pub any_names : Settings → Settings
any_names settings = record settings { names = Any }

named_text : (one other : Settings) (start : ℕ) (bytes : List ℕ) (tree : Tree) → one.mark ≡ other.mark → one.depth ≡ other.depth → IsDocumentBy one start bytes tree → IsDocumentBy other start bytes tree
named_text one other start bytes tree mark depth h = record {
  front = h.front;
  rest = h.rest;
  is_front = subst (λ (m : FrontMark). IsFront m h.front) mark h.is_front;
  whole = h.whole;
  text = subst (λ (d : ℕ). IsDocument (start + length h.front) h.rest d tree) depth h.text;
}

pub found_named : (settings : Settings) (bytes : List ℕ) (pointers : List (List ℕ)) (found : List (Result Found FindFault)) → AreFoundIn (any_names settings) bytes pointers found → AreFoundIn settings bytes pointers found
found_named settings bytes pointers found h = record { tree = h.tree; is_text = named_text (any_names settings) settings 0 bytes h.tree refl refl h.is_text; found_are = h.found_are }

judged_named_as : (settings : Settings) (bytes : List ℕ) (v : Verdict) → v ≡ Accepted → JudgedBy settings 0 bytes v → JudgedBy (any_names settings) 0 bytes Accepted
judged_named_as settings bytes v e (a_text {tree = tree} h) = a_text (named_text settings (any_names settings) 0 bytes tree refl refl h)
judged_named_as settings bytes v e (cut_short none longest) = absurd cc
judged_named_as settings bytes v e (too_deep none longest less begins) = absurd cc
judged_named_as settings bytes v e (stopped none longest less begins) = absurd cc

pub judged_named : (settings : Settings) (bytes : List ℕ) → JudgedBy settings 0 bytes Accepted → JudgedBy (any_names settings) 0 bytes Accepted
judged_named settings bytes h = judged_named_as settings bytes Accepted refl h

-- ---- a text of which an index is known

abbrev pub BySettings : Type 0
BySettings = (settings : Settings) (start : ℕ) (bytes : List ℕ) → JudgedBy settings start bytes (verdict_on (read_by settings.mark settings.depth start bytes))

abbrev pub OneVerdict : Type 0
OneVerdict = (settings : Settings) (start : ℕ) (bytes : List ℕ) (v w : Verdict) → JudgedBy settings start bytes v → JudgedBy settings start bytes w → v ≡ w

pub known_of : BySettings → OneVerdict → (settings : Settings) (chunk : ℕ) (text : List ℕ) (index : Index) → 64 ≤ index.chunk → IsIndexOf settings chunk text index → IsKnown settings chunk text index
known_of judged one settings chunk text index long h = record {
  indexed = h;
  goes =
      verdict_goes (read_by settings.mark settings.depth 0 text)
      (one settings 0 text (verdict_on (read_by settings.mark settings.depth 0 text)) Accepted (judged settings 0 text) h.accepted);
  size = subst (λ (n : ℕ). 64 ≤ n) h.chunk_is long;
}

-- ---- what is held of no byte, and of all

pub held_first : (settings : Settings) (chunk : ℕ) (text : List ℕ) (edges : List Edge) (h : Sought) → IsHeld [] edges [] [] h.state h.next h.begun h.name.items → h.begun ≡ None → IsHeldAt settings chunk text edges 0 h
held_first settings chunk text edges h held none =
    subst (λ (n : ℕ). IsHeldTo settings text edges n h) (let e : 0 ≡ 0 * chunk = omega arith in e)
    (record {
      held = subst (λ (t : Track). IsHeld [] edges t.marks t.ends h.state h.next h.begun h.name.items) (sym (no_tokens_yet settings.mark)) held;
      turn = ap is_some none ∙ sym (between_first settings.mark settings.depth);
    })

pub held_last : (settings : Settings) (chunk : ℕ) (text : List ℕ) (index : Index) (edges : List Edge) (at : ℕ) (h : Sought) → IsKnown settings chunk text index → chunk_at index at ≡ None → IsHeldAt settings chunk text edges at h
    → IsHeld text edges (tokens_by settings.mark text).marks (tokens_by settings.mark text).ends h.state h.next h.begun h.name.items
held_last settings chunk text index edges at h known none held =
    let past : index.size ≤ at * index.chunk = past_all index at none in
    let c : at * index.chunk ≡ at * chunk = ap (λ (n : ℕ). at * n) known.indexed.chunk_is in
    let z = known.indexed.size_is in
    subst (λ (xs : List ℕ). IsHeld xs edges (tokens_by settings.mark xs).marks (tokens_by settings.mark xs).ends h.state h.next h.begun h.name.items) (take_all (at * chunk) text (omega (arith, past, c, z))) held.held
