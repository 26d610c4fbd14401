use Rattle.std.proofs.Common.{◌≡◌, ◌++◌, Some, ℕ, refl, subst, sym, ◌∙◌}
use Rattle.jx_file_build.specs.Held.{AreHeld, HeldValue}
use Rattle.jx_file_build.proofs.indexer.Indexer.feed.Goals as goal

pub returns-clause-fed : goal.returns-clause-fed
returns-clause-fed c = λ has_names settings chunk bytes h.
    let i = c.args.self.now in
    let old = c.in-Some.held in
    let next = c.in_ok-next.next in
    let all = bytes ++ c.args.slice.now in
    let same : h.kept ≡ old = let e : Some h.kept ≡ Some old = sym h.kept_is ∙ sym c.take.ensures.value ∙ c.in-Some.is in cc in
    let size : c.bytes.result ≡ chunk = c.bytes.ensures.value ∙ h.chunk_is in
    let was : AreHeld has_names settings c.bytes.result bytes old i.part.items =
    subst (λ (n : ℕ). AreHeld has_names settings n bytes old i.part.items) (sym size) (subst (λ (k : HeldValue). AreHeld has_names settings chunk bytes k i.part.items) same h.held) in
    let now : AreHeld has_names settings c.bytes.result all next c.feed_held.new.part.items = c.in_ok-next.ensures has_names settings bytes was in
    record {
      names = h.names;
      settings_are = h.settings_are;
      chunk_is = h.chunk_is;
      kept = next;
      kept_is = refl;
      held = subst (λ (n : ℕ). AreHeld has_names settings n all next c.feed_held.new.part.items) size now;
    }
