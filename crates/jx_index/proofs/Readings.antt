-- What is built of an accepted reading is the tree's.
use Rattle.std.proofs.Common.{◌≡◌, ℕ, ◌<◌, ◌≤◌, List, sym, ap, subst, ◌∙◌, arith}
use Rattle.std.specs.Prelude.{All, slice_range}
use Rattle.jx_lex.specs.declared.alphabet.mark.Mark.{Mark}
use Rattle.jx_lex.specs.declared.alphabet.state.LexState.TheVariants as state
use Rattle.jx_lex.specs.Lex.{lex}
use Rattle.jx_run.specs.declared.texts.verdict.Verdict.{Verdict}
use Rattle.jx_run.specs.declared.texts.verdict.Verdict.TheVariants.{Accepted}
use Rattle.jx_run.specs.Started.{StartedValue, IsStarted}
use Rattle.jx_run.specs.Text.{IsDocument, IsText}
use Rattle.jx_run.specs.Tree.{Tree}
use Rattle.jx_run.specs.Verdict.{Judged, a_text, cut_short, too_deep, stopped}
use Rattle.jx_index.specs.inside.Building.{built_of}
use Rattle.jx_index.proofs.Builds.{IsBuilt, built_is}
use Rattle.jx_index.proofs.Tokens.{TokensAreRead}
use Rattle.jx_index.proofs.Within.{marks_within}

pub record HasTree (start : ℕ) (bytes : List ℕ) (limit : ℕ) : Type 0 where
  pub tree : Tree
  pub is : IsDocument start bytes limit tree

pub tree_of : {start : ℕ} {bytes : List ℕ} {limit : ℕ} (v : Verdict) → Judged start bytes limit v → v ≡ Accepted → HasTree start bytes limit
tree_of v (a_text {tree = tree} d) e = record { tree = tree; is = d }
tree_of v (cut_short n l) e = absurd (cc)
tree_of v (too_deep n l h b) e = absurd (cc)
tree_of v (stopped n l h b) e = absurd (cc)

module _ (text : List ℕ) (s : StartedValue) (reading : IsStarted (slice_range text s.span.start s.span.end) s) where
  pub accepted_tree : s.verdict ≡ Accepted → HasTree s.span.start (slice_range text s.span.start s.span.end) s.depth
  accepted_tree e = tree_of s.verdict reading.judged e

  pub built_here : TokensAreRead → (marks : List Mark) (ends : List ℕ) (last limit : ℕ) (tree : Tree) → marks ≡ s.marks → ends ≡ s.ends → last ≡ s.span.end
      → IsText text s.span.start s.span.end limit tree → IsBuilt tree (built_of last marks ends)
  built_here law marks ends last limit tree em ee el t =
      let bytes = slice_range text s.span.start s.span.end in
      subst (IsBuilt tree)
      (ap (λ n. built_of n (lex state.Gap s.span.start bytes).marks (lex state.Gap s.span.start bytes).ends) (sym reading.long ∙ sym el)
      ∙ ap (λ x. built_of last x (lex state.Gap s.span.start bytes).ends) (sym (em ∙ reading.marks))
      ∙ ap (λ x. built_of last marks x) (sym (ee ∙ reading.ends)))
      (built_is law s.span.start limit bytes tree t)

  pub marks_small : (marks : List Mark) (limit : ℕ) → marks ≡ s.marks → s.span.end ≤ limit → All (λ (m : Mark). m.at < limit) marks
  marks_small marks limit em h =
      subst (All (λ (m : Mark). m.at < limit)) (sym (em ∙ reading.marks))
      (marks_within state.Gap s.span.start (slice_range text s.span.start s.span.end) limit (omega (arith, reading.long)))
