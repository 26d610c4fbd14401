-- What is built in one pass over a text is its tree's.
use Rattle.std.proofs.Common.{◌≡◌, ℕ, ◌≤◌, ◌<◌, ◌-◌, ◌^◌, List, refl, ap, sym, subst, ◌∙◌, arith}
use Rattle.std.specs.Prelude.{slice_range, length}
use Rattle.jx_lex.specs.declared.alphabet.mark.Mark.{Mark}
use Rattle.jx_summary.specs.declared.span.Span.{Span}
use Rattle.jx_lex.specs.declared.alphabet.state.LexState.TheVariants as state
use Rattle.jx_lex.specs.Lex.{lex, Track}
use Rattle.jx_maps.specs.Map.{track}
use Rattle.jx_run.specs.declared.texts.verdict.Verdict.{Verdict}
use Rattle.jx_run.specs.declared.texts.verdict.Verdict.TheVariants.{Accepted}
use Rattle.jx_run.specs.Text.{IsText}
use Rattle.jx_run.specs.TextRun.{TextRunValue, IsTextRun, text_span}
use Rattle.jx_run.specs.Tree.{Tree}
use Rattle.jx_run.specs.Verdict.{Judged}
use Rattle.jx_index.specs.declared.row.Row.{Row}
use Rattle.jx_index.specs.inside.Building.{Building, built_of}
use Rattle.jx_index.specs.Indexed.{HasNodes}
use Rattle.jx_index.specs.inside.Low.{AllLow}
use Rattle.jx_index.specs.Rows.{rows}
use Rattle.jx_index.proofs.Builds.{IsBuilt, built_is}
use Rattle.jx_index.proofs.Readings.{tree_of}
use Rattle.jx_index.proofs.Tokens.{TokensAreRead}
use Rattle.jx_index.proofs.Within.{marks_within, slice_end}

-- what is built of a run's marks and ends
pub record RunNodes (run : TextRunValue) (span : Span) (marks : List Mark) (ends : List ℕ) (told : List Row) (after : List ℕ) : Type 0 where
  pub span_is : span ≡ text_span run
  pub marks_are : marks ≡ (track run.map state.Gap).marks
  pub ends_are : ends ≡ (track run.map state.Gap).ends
  pub rows_are : AllLow marks → told ≡ (built_of span.end marks ends).rows
  pub after_are : AllLow marks → after ≡ (built_of span.end marks ends).after

module _ (text : List ℕ) (span : Span) (ordered : span.start ≤ span.end) (within : span.end ≤ length text) where
  pub all_low : length text < 2 ^ 64 → AllLow (lex state.Gap span.start (slice_range text span.start span.end)).marks
  all_low fits =
      let end = slice_end text span.start span.end ordered within in
      marks_within state.Gap span.start (slice_range text span.start span.end) (2 ^ 64 - 1) (omega (arith, end))

  pub is_built : TokensAreRead → (limit : ℕ) (tree : Tree) → IsText text span.start span.end limit tree
      → IsBuilt tree (built_of span.end (lex state.Gap span.start (slice_range text span.start span.end)).marks (lex state.Gap span.start (slice_range text span.start span.end)).ends)
  is_built law limit tree t =
      let bytes = slice_range text span.start span.end in
      subst (λ (n : ℕ). IsBuilt tree (built_of n (lex state.Gap span.start bytes).marks (lex state.Gap span.start bytes).ends)) (slice_end text span.start span.end ordered within)
      (built_is law span.start limit bytes tree t)

  pub rows_told : TokensAreRead → (limit : ℕ) (tree : Tree) (told : List Row) → length text < 2 ^ 64
      → (AllLow (lex state.Gap span.start (slice_range text span.start span.end)).marks
      → told ≡ (built_of span.end (lex state.Gap span.start (slice_range text span.start span.end)).marks (lex state.Gap span.start (slice_range text span.start span.end)).ends).rows)
      → IsText text span.start span.end limit tree → told ≡ rows tree
  rows_told law limit tree told fits h t = h (all_low fits) ∙ (is_built law limit tree t).rows_are

  pub nodes_told : TokensAreRead → (limit : ℕ) (v : Verdict) (told : List Row) (after : List ℕ) → length text < 2 ^ 64
      → Judged span.start (slice_range text span.start span.end) limit v → v ≡ Accepted
      → (AllLow (lex state.Gap span.start (slice_range text span.start span.end)).marks
      → told ≡ (built_of span.end (lex state.Gap span.start (slice_range text span.start span.end)).marks (lex state.Gap span.start (slice_range text span.start span.end)).ends).rows)
      → (AllLow (lex state.Gap span.start (slice_range text span.start span.end)).marks
      → after ≡ (built_of span.end (lex state.Gap span.start (slice_range text span.start span.end)).marks (lex state.Gap span.start (slice_range text span.start span.end)).ends).after)
      → HasNodes text span told after
  nodes_told law limit v told after fits judged e h k =
      let t = tree_of v judged e in
      record {
        limit = limit;
        tree = t.tree;
        is_text = t.is;
        rows_are = h (all_low fits) ∙ (is_built law limit t.tree t.is).rows_are;
        after_are = k (all_low fits) ∙ (is_built law limit t.tree t.is).after_are;
      }

module _ (text : List ℕ) (run : TextRunValue) (ordered : run.map.start ≤ run.map.end) (within : run.map.end ≤ length text) (fits : length text < 2 ^ 64)
    (of : IsTextRun (slice_range text run.map.start run.map.end) run) where
  module _ (span : Span) (marks : List Mark) (ends : List ℕ) (told : List Row) (after : List ℕ) (nodes : RunNodes run span marks ends told after) where
    same_track : track run.map state.Gap ≡ lex state.Gap run.map.start (slice_range text run.map.start run.map.end)
    same_track = of.tracks state.Gap

    same_building : built_of span.end marks ends
        ≡ built_of run.map.end (lex state.Gap run.map.start (slice_range text run.map.start run.map.end)).marks (lex state.Gap run.map.start (slice_range text run.map.start run.map.end)).ends
    same_building =
        ap (λ (s : Span). built_of s.end marks ends) nodes.span_is
        ∙ ap (λ (x : List Mark). built_of run.map.end x ends) nodes.marks_are
        ∙ ap (λ (x : List ℕ). built_of run.map.end (track run.map state.Gap).marks x) nodes.ends_are
        ∙ ap (λ (t : Track). built_of run.map.end t.marks t.ends) same_track

    low_too : AllLow (lex state.Gap run.map.start (slice_range text run.map.start run.map.end)).marks → AllLow marks
    low_too h = subst AllLow (sym (nodes.marks_are ∙ ap (λ (t : Track). t.marks) same_track)) h

    pub run_rows : TokensAreRead → (limit : ℕ) (tree : Tree) → IsText text run.map.start run.map.end limit tree → told ≡ rows tree
    run_rows law limit tree t =
        rows_told text (text_span run) ordered within law limit tree told fits (λ low. nodes.rows_are (low_too low) ∙ ap (λ (b : Building). b.rows) same_building) t

    pub run_nodes : TokensAreRead → Judged run.map.start (slice_range text run.map.start run.map.end) run.depth Accepted → HasNodes text span told after
    run_nodes law judged =
        subst (λ (s : Span). HasNodes text s told after) (sym nodes.span_is)
        (nodes_told text (text_span run) ordered within law run.depth Accepted told after fits judged refl
        (λ low. nodes.rows_are (low_too low) ∙ ap (λ (b : Building). b.rows) same_building)
        (λ low. nodes.after_are (low_too low) ∙ ap (λ (b : Building). b.after) same_building))
