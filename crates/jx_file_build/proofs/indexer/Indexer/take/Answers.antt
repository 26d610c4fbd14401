use Rattle.std.proofs.Common.{◌≡◌, List, Option, Some, ℕ, ap, arith, refl, subst, sym, ◌∙◌}
use Rattle.std.specs.Prelude.{IfSome}
use Rattle.jx_run.specs.Reader.{HasRead, Outcome}
use Rattle.jx_file_index.specs.declared.entry.Entry.{Entry}
use Rattle.jx_file_index.specs.Chunks.{entry_behind}
use Rattle.jx_file_build.specs.Held.{AreHeld, HeldValue}
use Rattle.jx_file_build.specs.LoneChunk.{IsReadAlone}
use Rattle.jx_file_build.proofs.Feedings.{chunk_taken}
use Rattle.jx_file_build.proofs.indexer.Indexer.take.Goals as goal

pub returns-clause-taken : goal.returns-clause-taken
returns-clause-taken c = λ is has_names settings size bytes more h alone.
    let i = c.args.self.now in
    let old = c.in-Some-take.held in
    let seen = c.in-Some.held in
    let next = c.in_ok-next.next in
    let chunk = c.args.chunk.now in
    let same : h.kept ≡ old = let e : Some h.kept ≡ Some old = sym h.kept_is ∙ sym c.take.ensures.value ∙ c.in-Some-take.is in cc in
    let eq : seen ≡ old = let e : Some seen ≡ Some old = sym c.in-Some.is ∙ sym c.take.ensures.value ∙ c.in-Some-take.is in cc in
    let was : AreHeld has_names settings size bytes old i.part.items = subst (λ (k : HeldValue). AreHeld has_names settings size bytes k i.part.items) same h.held in
    let whole = c.is_next.ensures.whole c.if-not-is_next.false in
    let len = c.len.ensures in
    let bytes_are = c.bytes.ensures.value ∙ h.chunk_is in
    let start = alone.start in
    let end = alone.run.long in
    let entered =
    subst (λ (o : Option Entry). IfSome o (λ entry. (bytes more : List ℕ) (depth : ℕ) (before : Outcome) → HasRead bytes seen.reader → IsReadAlone depth more chunk
    → seen.reader.outcome ≡ Some before → entry ≡ entry_behind before more)) c.in-Some-entry_of.is c.entry_of.ensures.entry in
    record {
      names = h.names;
      settings_are = h.settings_are;
      chunk_is = h.chunk_is;
      kept = next;
      kept_is = refl;
      held =
          chunk_taken has_names settings size bytes more old next i.part.items was (sym c.deref.ensures.value ∙ c.is_next.ensures.empty c.if-not-is_next.false) (omega (arith, whole, len, bytes_are, start, end))
          c.in_ok-next.ensures.entries
          (λ before all fits. c.in_ok-next.ensures.entered has_names settings size before more all fits alone (λ came came_is. entered before more settings.depth came (subst (λ (k : HeldValue). HasRead before k.reader) (sym eq) all.entered.read.read) alone
          (ap (λ (k : HeldValue). k.reader.outcome) eq ∙ came_is)));
    }
