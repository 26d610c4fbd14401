-- What is kept of a block of which an index tells, and how far it is passed over.
use Rattle.std.proofs.Common.{◌≡◌, ℕ, suc, ◌+◌, ◌*◌, ◌<◌, ◌≤◌, List, length, take, sym, ap, subst, ◌∙◌, arith, Option, None, Some, inl, inr, ◌⊎◌}
use Rattle.std.specs.Prelude.{IfSome, slice_get}
use Rattle.std.proofs.lemmas.Bool.{cases_lt}
use Rattle.std.proofs.Math.Nat.{add-mul, mul_assoc, mul-le-mul_right, suc-mul}
use Rattle.jx_lex.specs.TokenStates.{in_token}
use Rattle.jx_summary.specs.declared.span.Span.{Span}
use Rattle.jx_run.specs.declared.texts.settings.Settings.{Settings}
use Rattle.jx_run.specs.Telling.{tokens_by}
use Rattle.jx_run.proofs.InTurn.{InPieces}
use Rattle.jx_index.specs.declared.trie.Edge.{Edge}
use Rattle.jx_index.specs.inside.Found.{finding}
use Rattle.jx_find.specs.declared.held.Sought.{Sought}
use Rattle.jx_file_index.specs.declared.entry.Entry.{Entry}
use Rattle.jx_file_index.specs.declared.index.Index.{Index}
use Rattle.jx_run.specs.Reader.{state_behind}
use Rattle.jx_file_index.specs.Chunks.{before, entry_behind, part}
use Rattle.jx_file_query.specs.declared.blocks.Block.{Block}
use Rattle.jx_file_query.specs.declared.walk_passing.Over.{Over}
use Rattle.jx_file_query.specs.Chunks.{chunk_at}
use Rattle.jx_file_query.specs.HeldAt.{IsHeldAt, IsHeldTo}
use Rattle.jx_file_query.specs.Known.{IsKnown}
use Rattle.jx_file_query.specs.inside.Blocks.{IsBlockAt, TellsOfBlock}
use Rattle.jx_file_query.specs.inside.Over.{IsOver, KeepsTurn, finding_over}
use Rattle.jx_file_query.proofs.BlockLevels.{entry_in}
use Rattle.jx_file_query.proofs.WalkComings.{inside}
use Rattle.jx_file_query.proofs.TextParts.{over_held}
use Rattle.jx_file_query.proofs.Pieces.{piece_at}

-- fewer parts than all
pub fewer : (size long n k : ℕ) → long ≤ n * size → k * size < long → k < n
fewer size long n k enough low = pick (cases_lt k n)
  where
    pick : ((k < n) ⊎ (n ≤ k)) → k < n
    pick (inl lt) = lt
    pick (inr ge) = let m : n * size ≤ k * size = mul-le-mul_right size ge in absurd (omega (arith, enough, low, m))

pub entry_told : (index : Index) (block : Block) (o : Option Entry) → o ≡ slice_get index.entries.items (block.start + block.place) → IfSome o (TellsOfBlock index block)
entry_told index block None is = tt
entry_told index block (Some e) is = λ at b settings chunk text known low.
    let o = b.of settings chunk text known in
    let size = block.chunks * chunk in
    let more : block.place + 1 < length o.level = fewer size (length text) (length o.level) (block.place + 1) o.tells.counted.enough low in
    o.tells.each block.place e
    (entry_in o.level index.entries.items index.top e block.start block.place o.levels (omega (arith, more)) (sym is))

module _ (settings : Settings) (chunk : ℕ) (text : List ℕ) (index : Index) (known : IsKnown settings chunk text index) (two : InPieces) where
  pub block_over : (edges : List Edge) (at end : ℕ) (block : Block) (span : Span) (here later : Entry) (held : Sought) (over : Over) → (at ≡ 0 → ⊥) → IsBlockAt index at block → end ≡ at + block.chunks → chunk_at index end ≡ Some span
      → TellsOfBlock index block here
      → later ≡ entry_behind (before settings text (end * chunk)) (part chunk text end)
      → IsOver held edges here later over → KeepsTurn held here later over → IsHeldAt settings chunk text edges at held
      → (next : Sought) → finding next.state ≡ finding_over over (finding held.state) → next.next ≡ over.next → next.begun ≡ over.begun → IsHeldAt settings chunk text edges end next
  block_over edges at end block span here later held over other b end_is stands told later_is is_over keeps was next found next_is begun_is =
      let o = b.of settings chunk text known in
      let n = block.place in
      let size = block.chunks * chunk in
      let from : n * size ≡ at * chunk = sym (mul_assoc n block.chunks chunk) ∙ ap (λ (k : ℕ). k * chunk) o.begins in
      let to : suc n * size ≡ end * chunk = suc-mul n size ∙ ap (λ (k : ℕ). k + size) from ∙ sym (add-mul at block.chunks chunk) ∙ ap (λ (k : ℕ). k * chunk) (sym end_is) in
      let far = inside settings chunk text index known end span stands in
      let step : (n + 1) * size ≡ suc n * size = ap (λ (k : ℕ). k * size) (let e : n + 1 ≡ suc n = omega arith in e) in
      let tells = told at b settings chunk text known (omega (arith, to, far, step)) in
      let grown = suc-mul n size in
      let within : n * size ≤ length text = omega (arith, grown, to, far) in
      let some = b.some in
      let long = known.size in
      let up : 1 * chunk ≤ block.chunks * chunk = mul-le-mul_right chunk some in
      let wide : 64 ≤ size = (let one : 1 * chunk ≡ chunk = omega arith in omega (arith, one, up, long)) in
      let second : n ≡ 0 → ⊥ = λ e. other (sym o.begins ∙ ap (λ (k : ℕ). k * block.chunks) e ∙ (let z : 0 * block.chunks ≡ 0 = omega arith in z)) in
      let piece = piece_at settings size text known.goes two n here later (part chunk text end) wide second within tells (later_is ∙ ap (λ (k : ℕ). entry_behind (before settings text k) (part chunk text end)) (sym to)) in
      let bytes = take (n * size) text in
      let marks = (tokens_by settings.mark bytes).marks in
      let h = subst (λ (k : ℕ). IsHeldTo settings text edges k held) (sym from) was in
      let leads = is_over settings.depth bytes (part size text n) marks (tokens_by settings.mark bytes).ends h.held piece in
      let turn = keeps settings.depth bytes (part size text n) marks piece (h.turn ∙ ap in_token (sym tells.state)) in
      let state : later.state ≡ state_behind (before settings text (suc n * size)) = ap (λ (e : Entry). e.state) later_is ∙ ap (λ (k : ℕ). state_behind (before settings text k)) (sym to) in
      subst (λ (k : ℕ). IsHeldTo settings text edges k next) to
      (over_held settings size text known.goes two n edges here held over next wide second within tells.state leads (turn ∙ ap in_token state) found next_is begun_is)
