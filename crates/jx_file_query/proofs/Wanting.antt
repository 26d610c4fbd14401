-- What is sought up to some marks is not what is sought with one bracket more: a seeker always wants more.
use Rattle.std.proofs.Common.{◌≡◌, ℕ, zero, suc, ◌+◌, List, [], ◌∷◌, ◌++◌, length, refl, sym, ap, subst, ◌∙◌, append-nil, arith, false, Option, None, Some}
use Rattle.jx_lex.specs.declared.alphabet.mark.Mark.{Mark}
use Rattle.jx_lex.specs.declared.alphabet.mark.MarkKind.TheVariants.{OpenArray}
use Rattle.jx_lex.specs.declared.kind.Kind.TheVariants.{Array}
use Rattle.jx_lex.specs.Seen.{WantsNoMore}
use Rattle.jx_run.specs.Telling.{moved_ends, moved_mark, moved_marks}
use Rattle.jx_index.specs.declared.finder.Cursor.{Cursor}
use Rattle.jx_index.specs.declared.seeker.Seeker.{Seeker}
use Rattle.jx_index.specs.declared.trie.Edge.{Edge}
use Rattle.jx_index.specs.inside.Building.{ends_after, next_end}
use Rattle.jx_index.specs.inside.Finding.{Finding, begin_at, counted, nothing_met}
use Rattle.jx_index.specs.inside.Found.{finding}
use Rattle.jx_index.specs.inside.InOrder.{behind}
use Rattle.jx_index.specs.inside.Trie.{seek_all, sought, sought_in, target_node}
use Rattle.jx_index.proofs.CutNames.{marks_more}
use Rattle.jx_find.specs.Held.{Comes}
use Rattle.jx_find.specs.OnSlice.{HasSought, Holds}

module _ (text : List ℕ) (edges : List Edge) where
  counted_long : (os : List Cursor) → length (counted os) ≡ length os
  counted_long [] = refl
  counted_long (c ∷ os) = refl

  begins_deeper : (x : Option ℕ) (at : ℕ) (f : Finding) → f.skipped ≡ 0 → begin_at x Array false at f ≡ f → ⊥
  begins_deeper None at f low is = let e : 1 ≡ f.skipped = ap (λ (g : Finding). g.skipped) is in omega (arith, e, low)
  begins_deeper (Some level) at f low is =
      let e : suc (length (counted f.opened)) ≡ length f.opened = ap (λ (g : Finding). length g.opened) is in
      let l = counted_long f.opened in
      omega (arith, e, l)

  -- a bracket opens a container more
  deeper : (at end n : ℕ) (f : Finding) → f.skipped ≡ n → sought_in n text edges OpenArray at end f ≡ f → ⊥
  deeper at end zero f low is = begins_deeper (target_node edges f) at f low is
  deeper at end (suc k) f low is = let e : suc (suc k) ≡ f.skipped = ap (λ (g : Finding). g.skipped) is in omega (arith, e, low)

  apart : (at : ℕ) (begun : Option Mark) (f : Finding) → seek_all text edges 0 (behind begun (record { kind = OpenArray; at = at } ∷ [])) [] f ≡ seek_all text edges 0 (behind begun []) [] f → ⊥
  unfolding seek_all
  apart at None f is = deeper at (next_end 0 []) f.skipped f refl is
  apart at (Some m) f is =
      let g = sought text edges m.kind m.at (next_end 0 []) f in
      deeper at (next_end 0 (ends_after m.kind [])) g.skipped g refl is

  one_bracket : (at : ℕ) (marks : List Mark) (ends : List ℕ) (begun : Option Mark) (f : Finding) → Comes text edges marks ends f begun → Comes text edges (marks ++ record { kind = OpenArray; at = at } ∷ []) ends f begun → ⊥
  one_bracket at marks ends begun f one other =
      let bracket : Mark = record { kind = OpenArray; at = at } in
      apart at begun f
      (sym (one 0 (bracket ∷ []) [])
      ∙ ap (λ (xs : List Mark). seek_all text edges 0 xs (ends ++ []) (nothing_met (length edges))) (sym (append-nil (marks ++ bracket ∷ [])))
      ∙ other 0 [] [])

-- whatever was held at the slice's start
pub wants_more : (held : Holds) (slice : List ℕ) (edges : List Edge) (marks : List Mark) (ends : List ℕ) (own : List ℕ) (base : ℕ) (own_edges : List Edge) (k : Seeker) (begun : Option Mark) (name : List ℕ)
    → WantsNoMore (λ ms es. HasSought held slice edges ms es own base own_edges k begun name) → HasSought held slice edges marks ends own base own_edges k begun name
    → (before : List ℕ) (ms : List Mark) (es : List ℕ) → held before ms es → ⊥
wants_more held slice edges marks ends own base own_edges k begun name done seen before ms es was =
    let text = (before ++ slice) ++ [] in
    let bracket : Mark = record { kind = OpenArray; at = 0 } in
    let f = finding k.state in
    let all = (seen.sought before ms es was).comes [] in
    let more = ((done marks (bracket ∷ []) ends [] seen).sought before ms es was).comes [] in
    let same_marks = subst (λ (xs : List Mark). Comes text edges xs (es ++ moved_ends base (ends ++ [])) f begun) (marks_more base ms marks bracket) more in
    one_bracket text edges (base + 0) (ms ++ moved_marks base marks) (es ++ moved_ends base ends) begun f all
    (subst (λ (xs : List ℕ). Comes text edges ((ms ++ moved_marks base marks) ++ moved_mark base bracket ∷ []) (es ++ moved_ends base xs) f begun) (append-nil ends) same_marks)
