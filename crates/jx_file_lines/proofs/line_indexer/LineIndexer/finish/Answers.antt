use Rattle.std.proofs.Common.{◌≡◌, ◌*◌, rules, ◌++◌, ◌∷◌, [], ◌∙◌, ap, arith, length, subst, sym, ℕ, List, Global, Vec}
use Rattle.jx_file_lines.specs.declared.line_index.LineEntry.{LineEntry}
use Rattle.jx_file_lines.proofs.Entries.{AreAll, all_none, all_last, list_none, list_some, next_entry}
use Rattle.jx_file_index.specs.Chunks.{IsChunkSize}
use Rattle.jx_file_lines.proofs.Fitting.{fits}
use Rattle.jx_file_lines.proofs.line_indexer.LineIndexer.finish.Goals as goal
use Rattle.jx_file_lines.proofs.line_indexer.LineIndexer.finish.Goals.{then-not-is_empty+in_ok-push_entry, else-not-is_empty}

pub returns-clause-index : goal.returns-clause-index
returns-clause-index c = λ chunk bytes h.
    let part = c.args.self.part.items in
    let entries = c.args.self.entries.items in
    let size_is = c.in-Some.ensures in
    let n_is = c.len.ensures in
    let p_is = c.len-2.ensures in
    let e_ok = c.args.self.entries.ok.0 in
    let p_ok = c.args.self.part.ok.0 in
    let b_is = c.bytes.ensures.value ∙ h.chunk_is in
    let prod : c.len.result * c.bytes.result ≡ length entries * chunk = ap (λ (k : ℕ). k * c.bytes.result) (let e : c.len.result ≡ length entries = omega (arith, n_is, e_ok) in e) ∙ ap (λ (k : ℕ). length entries * k) b_is in
    let w = h.entered.long in
    let all : AreAll chunk bytes c.if-not-is_empty.entries.items =
    elim c.if-not-is_empty.branch [
      | then-not-is_empty+in_ok-push_entry w ↦
          all_last chunk bytes entries part h.entered c.if-not-is_empty.entries.items (list_some part c.args.self.part.len c.is_empty.result p_ok c.is_empty.ensures w.if-not-is_empty.true)
          (ap (λ (v : Vec LineEntry Global). v.items) w.entries-is ∙ w.in_ok-push_entry.ensures ∙ ap (λ (xs : List ℕ). entries ++ next_entry entries xs ∷ []) w.deref.ensures.value)
      | else-not-is_empty w ↦
          subst (AreAll chunk bytes) (sym (ap (λ (v : Vec LineEntry Global). v.items) w.entries-is))
          (all_none chunk bytes entries part h.entered (list_none part c.args.self.part.len c.is_empty.result p_ok c.is_empty.ensures w.if-not-is_empty.false))
    ] in
    record {
      chunk_is = h.chunk_is;
      size_is = omega (arith, size_is, prod, p_is, p_ok, w);
      counted = all.counted;
      entries_are = all.entries_are;
    }

pub returns-clause-savable : goal.returns-clause-savable
returns-clause-savable c = λ chunk bytes h.
    let valid : IsChunkSize c.args.self.chunk = search rules in
    fits chunk bytes _ (subst IsChunkSize h.chunk_is valid) (search rules) (returns-clause-index c chunk bytes h)
