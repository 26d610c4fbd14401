use Rattle.std.proofs.Common.{◌≡◌, ℕ, List, [], ◌∷◌, ◌++◌, ap, codes, refl}
use Rattle.std.specs.List.{concat}
use Rattle.jx_serve.specs.Words.{range}
use Rattle.jx_serve.proofs.Grown.{grown, grown_last}
use Rattle.jx_serve.proofs.reply_words.add_told.Goals as goal

pub returns : goal.returns
returns c =
    let o : List ℕ = c.args.out.now.items in
    let n1 : List ℕ = c.extend_from_slice.new.self.items in
    let n2 : List ℕ = c.add_range.new.out.items in
    let n3 : List ℕ = c.add_all.new.out.items in
    let n4 : List ℕ = c.extend_from_slice-2.new.self.items in
    let n5 : List ℕ = c.extend_from_slice-3.new.self.items in
    let n6 : List ℕ = c.extend_from_slice-4.new.self.items in
    let a : List ℕ = codes "{" in
    let b : List ℕ = range c.args.extent.start c.args.extent.end in
    let words : List ℕ → List ℕ = λ word. concat (codes ",\"severity\":1,\"code\":\"" ∷ word ∷ codes "\",\"source\":\"jx\",\"message\":\"" ∷ []) in
    let word : List ℕ = c.as_bytes.result.now in
    let d : List ℕ = words c.args.word.now in
    let e : List ℕ = c.args.sentence.now in
    let f : List ℕ = c.args.place.now in
    let g : List ℕ = codes "\"}" in
    let one : n1 ≡ o ++ a = c.in_ok-extend_from_slice.ensures.items in
    let two : n2 ≡ o ++ (a ++ b) = grown o n1 n2 a b b one c.in_ok-add_range.ensures.words refl in
    let word_is : word ≡ c.args.word.now = c.as_bytes.ensures.value in
    let three : n3 ≡ o ++ ((a ++ b) ++ d) = grown o n2 n3 (a ++ b) (words word) d two c.in_ok-add_all.ensures (ap words word_is) in
    let four : n4 ≡ o ++ (((a ++ b) ++ d) ++ e) = grown o n3 n4 ((a ++ b) ++ d) e e three c.in_ok-extend_from_slice-2.ensures.items refl in
    let five : n5 ≡ o ++ ((((a ++ b) ++ d) ++ e) ++ f) =
    grown o n4 n5 (((a ++ b) ++ d) ++ e) c.as_bytes-2.result.now f four c.in_ok-extend_from_slice-3.ensures.items c.as_bytes-2.ensures.value in
    grown_last c.extend_from_slice-4.result o n5 n6 ((((a ++ b) ++ d) ++ e) ++ f) g g five c.extend_from_slice-4.ensures.items refl
