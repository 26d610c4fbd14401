use Rattle.std.proofs.Common.{◌≡◌, ℕ, List, [], ◌∷◌, ◌++◌, ap, ◌∙◌, sym, append-nil, codes, Some, refl}
use Rattle.std.specs.List.{concat}
use Rattle.jx_serve.specs.Words.{data_member, number_of_code, words_of_code, words_of_id, words_of_refusal}
use Rattle.jx_serve.proofs.Grown.{grown, grown_last}
use Rattle.jx_serve.proofs.reply_words.add_refused.Goals.{in-Some+in_ok-words+in_ok-add_all-2, in_default}
use Rattle.jx_serve.proofs.reply_words.add_refused.Goals as goal

pub returns : goal.returns
returns c =
    let o : List ℕ = c.args.out.now.items in
    let n1 : List ℕ = c.extend_from_slice.new.self.items in
    let n2 : List ℕ = c.extend_from_slice-2.new.self.items in
    let n3 : List ℕ = c.add_all.new.out.items in
    let n4 : List ℕ = c.match-refusal.out.items in
    let n5 : List ℕ = c.extend_from_slice-3.new.self.items in
    let a : List ℕ = codes "{\"jsonrpc\":\"2.0\",\"id\":" in
    let b : List ℕ = words_of_id c.args.id.now in
    let error : List ℕ → List ℕ → List ℕ = λ number words. concat (codes ",\"error\":{\"code\":" ∷ number ∷ codes ",\"message\":\"" ∷ words ∷ codes "\"" ∷ []) in
    let number : List ℕ = c.as_bytes.result.now in
    let words : List ℕ = c.as_bytes-2.result.now in
    let d : List ℕ = error (number_of_code c.args.code) (words_of_code c.args.code) in
    let e : List ℕ = data_member c.args.refusal in
    let one : n1 ≡ o ++ a = c.in_ok-extend_from_slice.ensures.items in
    let two : n2 ≡ o ++ (a ++ b) = grown o n1 n2 a c.words_of_id.result.now b one c.in_ok-extend_from_slice-2.ensures.items c.words_of_id.ensures in
    let number_is : number ≡ number_of_code c.args.code = c.as_bytes.ensures.value ∙ c.number_of_code.ensures in
    let words_are : words ≡ words_of_code c.args.code = c.as_bytes-2.ensures.value ∙ c.words_of_code.ensures in
    let three : n3 ≡ o ++ ((a ++ b) ++ d) = grown o n2 n3 (a ++ b) (error number words) d two c.in_ok-add_all.ensures
    (ap (λ l. error l words) number_is ∙ ap (λ l. error (number_of_code c.args.code) l) words_are) in
    let four : n4 ≡ o ++ (((a ++ b) ++ d) ++ e) = elim c.match-refusal.branch [
      | in-Some+in_ok-words+in_ok-add_all-2 w ↦
          let said : List ℕ = w.as_bytes-in-Some.result.now in
          let said_is : said ≡ words_of_refusal w.in-Some.refusal = w.as_bytes-in-Some.ensures.value ∙ w.in_ok-words.ensures in
          let spelt : List ℕ → List ℕ = λ l. concat (codes ",\"data\":\"" ∷ l ∷ codes "\"" ∷ []) in
          ap (λ v. v.items) w.out-is
          ∙ grown o n3 w.add_all-in-Some.new.out.items ((a ++ b) ++ d) (spelt said) (data_member (Some w.in-Some.refusal)) three w.in_ok-add_all-2.ensures (ap spelt said_is)
          ∙ ap (λ r. o ++ (((a ++ b) ++ d) ++ data_member r)) (sym w.in-Some.is)
      | in_default w ↦
          ap (λ v. v.items) w.out-is ∙ three ∙ ap (λ l. o ++ l) (sym (append-nil ((a ++ b) ++ d))) ∙ ap (λ r. o ++ (((a ++ b) ++ d) ++ data_member r)) (sym w.in_default.is)
    ] in
    grown_last c.extend_from_slice-3.result o n4 n5 (((a ++ b) ++ d) ++ e) (codes "}}") (codes "}}") four c.extend_from_slice-3.ensures.items refl
