use Rattle.std.proofs.Common.{◌≡◌, ℕ, suc, ◌+◌, ◌*◌, ◌<◌, List, [], ◌∷◌, ◌++◌, ap, arith, length, take, ◌∙◌}
use Rattle.std.specs.Prelude.{slice_range}
use Rattle.std.specs.Int.{w32, to_le_bytes}
use Rattle.std.specs.List.{flat_map}
use Rattle.std.proofs.lemmas.List.{length-append, take_all}
use Rattle.jx_file_index.proofs.TextDecodings.{keys_long, one_key}
use Rattle.jx_file_index.proofs.text_decoding.keys_of.Goals as goal

pub returns : goal.returns
returns c = λ ks fits is.
    let l : length c.args.bytes.now ≡ length (flat_map (to_le_bytes w32) ks) = ap length is in
    let h = keys_long ks in
    let r = c.requires in
    c.loop-n.invariant.reads ks fits is ∙ take_all c.loop-n.n ks (omega (arith, l, h, r))

pub loop-n-preserved : goal.loop-n-preserved
loop-n-preserved c =
    let old = c.loop-n.keys.items in
    let key = c.key_of.result in
    let n = c.loop-n.n in
    let items = c.in_ok-push.ensures.items in
    let long : length c.push.new.self.items ≡ length (old ++ key ∷ []) = ap length items in
    let more : length (old ++ key ∷ []) ≡ length old + 1 = length-append old (key ∷ []) in
    let was = c.loop-n.invariant.count in
    record {
      count = omega (arith, long, more, was);
      reads = λ ks fits is.
          let l : length c.args.bytes.now ≡ length (flat_map (to_le_bytes w32) ks) = ap length is in
          let h = keys_long ks in
          let r = c.requires in
          let test = c.loop-n-test.true in
          let low : n < length ks = omega (arith, l, h, r, test) in
          items
          ∙ ap (λ (xs : List ℕ). xs ++ key ∷ []) (c.loop-n.invariant.reads ks fits is)
          ∙ one_key ks n key fits low (λ x f q. c.key_of.ensures x f (ap (λ (xs : List ℕ). slice_range xs (4 * n) (4 * n + 4)) is ∙ q))
          ∙ ap (λ (k : ℕ). take k ks) (let e : suc n ≡ n + 1 = omega arith in e);
    }
