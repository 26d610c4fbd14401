use Rattle.std.proofs.Common.{◌≡◌, ℕ, List, ◌++◌, ap, ◌∙◌, sym, append-nil, codes, refl}
use Rattle.jx_serve.specs.Words.{diagnostic, diagnostics, opening}
use Rattle.jx_serve.proofs.Grown.{grown, grown_last}
use Rattle.jx_serve.proofs.reply_words.add_published.Goals.{in-Some+in_ok-add_mark, in_default}
use Rattle.jx_serve.proofs.reply_words.add_published.Goals as goal

pub returns : goal.returns
returns c =
    let o : List ℕ = c.args.out.now.items in
    let n1 : List ℕ = c.add_opening.new.out.items in
    let n2 : List ℕ = c.match-mark.out.items in
    let n3 : List ℕ = c.extend_from_slice.new.self.items in
    let a : List ℕ = opening c.args.uri.now c.args.version.now in
    let b : List ℕ = diagnostics c.args.mark.now in
    let d : List ℕ = codes "]}}" in
    let one : n1 ≡ o ++ a = c.in_ok-add_opening.ensures in
    let two : n2 ≡ o ++ (a ++ b) = elim c.match-mark.branch [
      | in-Some+in_ok-add_mark w ↦
          ap (λ v. v.items) w.out-is
          ∙ grown o n1 w.add_mark.new.out.items a (diagnostic w.in-Some.mark) (diagnostic w.in-Some.mark) one w.in_ok-add_mark.ensures refl
          ∙ ap (λ v. o ++ (a ++ diagnostics v)) (sym w.in-Some.is)
      | in_default w ↦ ap (λ v. v.items) w.out-is ∙ one ∙ ap (λ l. o ++ l) (sym (append-nil a)) ∙ ap (λ v. o ++ (a ++ diagnostics v)) (sym w.in_default.is)
    ] in
    grown_last c.extend_from_slice.result o n2 n3 (a ++ b) d d two c.extend_from_slice.ensures.items refl
