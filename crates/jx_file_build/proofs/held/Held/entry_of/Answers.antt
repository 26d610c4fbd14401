use Rattle.std.proofs.Common.{◌≡◌, List, ℕ, Option, ap, false, subst, sym, true, ◌∙◌}
use Rattle.std.specs.Prelude.{IfSome}
use Rattle.jx_lex.specs.Lex.{lex}
use Rattle.jx_run.specs.declared.texts.settings.Settings.{Settings}
use Rattle.jx_run.specs.Reader.{HasRead, IsInFront, ReaderValue, is_fault}
use Rattle.jx_file_build.specs.declared.chunk_sum.ChunkSum.{ChunkSum}
use Rattle.jx_file_build.specs.Held.{HeldValue}
use Rattle.jx_file_build.specs.LoneChunk.{IsReadAlone}
use Rattle.jx_file_build.specs.inside.Tallied.{Tells}
use Rattle.jx_file_build.proofs.Lone.{lone_entry}
use Rattle.jx_file_build.proofs.held.Held.entry_of.Goals as goal

pub returns-clause-entry : goal.returns-clause-entry
returns-clause-entry c = λ bytes more depth before read alone is.
    let a = c.self.inside in
    let chunk = c.args.chunk.now in
    let same : a.reader ≡ c.args.self.now.reader = ap (λ (h : HeldValue). h.reader) c.self.view_is in
    let here : HasRead bytes a.reader = subst (λ (r : ReaderValue). HasRead bytes r) (sym same) read in
    let came = ap (λ (r : ReaderValue). r.outcome) same ∙ is in
    let no = c.if-is_in_front.false in
    let behind : IsInFront a.reader → ⊥ = λ f. let t : c.is_in_front.result ≡ true = c.is_in_front.ensures.1 f in absurd cc in
    let going : is_fault a.reader.outcome ≡ false = sym c.is_done.ensures ∙ c.if-is_done.false in
    let stands = c.standing-state.ensures before came in
    let sums =
    subst (λ (o : Option ChunkSum). IfSome o (λ sum. (depth : ℕ) (bytes : List ℕ) → IsReadAlone depth bytes chunk → Tells (lex c.standing-state.result.0 0 bytes).marks (lex c.standing-state.result.0 0 bytes).ends sum.sum sum.begins sum.ends))
    c.in-Some.is c.sum_from.ensures in
    lone_entry a.reader bytes more before here behind going came c.standing-state.result.0 c.standing-state.result.1 c.in-Some.sum c.digest.result stands.0 stands.1 (sums depth more alone)
    (c.digest.ensures ∙ alone.digest)

pub returns-clause-behind : goal.returns-clause-behind
returns-clause-behind c = λ f.
    let same : c.self.inside.reader ≡ c.args.self.now.reader = ap (λ (h : HeldValue). h.reader) c.self.view_is in
    let no = c.if-is_in_front.false in
    let t : c.is_in_front.result ≡ true = c.is_in_front.ensures.1 (subst IsInFront (sym same) f) in
    absurd cc

pub returns-clause-unnamed : goal.returns-clause-unnamed
returns-clause-unnamed c = sym (ap (λ (h : HeldValue). h.names) c.self.view_is) ∙ c.are_none.ensures c.if-not-are_none.false

pub returns-clause-depth : goal.returns-clause-depth
returns-clause-depth c =
    c.is_depth.ensures c.if-not-is_depth.false ∙ ap (λ (s : Settings). s.depth) c.settings.ensures ∙ ap (λ (h : HeldValue). h.reader.settings.depth) c.self.view_is
