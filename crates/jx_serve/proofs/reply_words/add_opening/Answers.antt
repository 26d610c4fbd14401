use Rattle.std.proofs.Common.{◌≡◌, ℕ, List, [], ◌∷◌, ◌++◌, ap, ◌∙◌, sym, append-nil, codes, Some, refl}
use Rattle.std.specs.List.{concat}
use Rattle.jx_serve.specs.Words.{version_member}
use Rattle.jx_serve.proofs.Grown.{grown, grown_last}
use Rattle.jx_serve.proofs.reply_words.add_opening.Goals.{in-Some+in_ok-add_all-2, in_default}
use Rattle.jx_serve.proofs.reply_words.add_opening.Goals as goal

pub returns : goal.returns
returns c =
    let o : List ℕ = c.args.out.now.items in
    let n1 : List ℕ = c.add_all.new.out.items in
    let n2 : List ℕ = c.match-version.out.items in
    let n3 : List ℕ = c.extend_from_slice.new.self.items in
    let a : List ℕ = concat (codes "{\"jsonrpc\":\"2.0\",\"method\":\"textDocument/publishDiagnostics\",\"params\":{\"uri\":" ∷ c.args.uri.now ∷ []) in
    let b : List ℕ = version_member c.args.version.now in
    let d : List ℕ = codes ",\"diagnostics\":[" in
    let one : n1 ≡ o ++ a = c.in_ok-add_all.ensures in
    let two : n2 ≡ o ++ (a ++ b) = elim c.match-version.branch [
      | in-Some+in_ok-add_all-2 w ↦
          let said : List ℕ → List ℕ = λ l. concat (codes ",\"version\":" ∷ l ∷ []) in
          ap (λ v. v.items) w.out-is
          ∙ grown o n1 w.add_all-in-Some.new.out.items a (said w.deref.result.now) (version_member (Some w.in-Some.version)) one w.in_ok-add_all-2.ensures (ap said w.deref.ensures.value)
          ∙ ap (λ v. o ++ (a ++ version_member v)) (sym w.in-Some.is)
      | in_default w ↦ ap (λ v. v.items) w.out-is ∙ one ∙ ap (λ l. o ++ l) (sym (append-nil a)) ∙ ap (λ v. o ++ (a ++ version_member v)) (sym w.in_default.is)
    ] in
    grown_last c.extend_from_slice.result o n2 n3 (a ++ b) d d two c.extend_from_slice.ensures.items refl
