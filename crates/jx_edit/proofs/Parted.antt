-- The chunks of parts, one behind another.
use Rattle.std.proofs.Common.{◌≡◌, ℕ, ◌+◌, ◌-◌, ◌≤◌, List, ◌++◌, All, Option, Some, Ok, Result, take, sym, ap, subst, ◌∙◌, arith}
use Rattle.std.specs.Option.{option_to_list}
use Rattle.std.specs.Prelude.{IfOk, IfSome}
use Rattle.std.specs.declared.alloc.AllocError.{AllocError}
use Rattle.std.proofs.lemmas.List.Elements.{All-append, All-pop, All-same}
use Rattle.std.specs.List.{slice_range}
use Rattle.std.proofs.lemmas.List.Concat.{flat_map-append}
use Rattle.std.proofs.Math.Seq.{take-add}
use Rattle.jx_edit.specs.declared.chunking.making.MadePart.{MadePart}
use Rattle.jx_edit.specs.inside.Chunks.{ChunkValue, bytes_of, text_of, AreFresh, IsFresh}
use Rattle.jx_edit.specs.inside.Parts.{IsMadePart}

take_to : (bytes : List ℕ) (i j : ℕ) → i ≤ j → take j bytes ≡ take i bytes ++ slice_range bytes i j
take_to bytes i j h =
    let e : j ≡ i + (j - i) = omega (arith, h) in
    ap (λ (n : ℕ). take n bytes) e ∙ take-add i (j - i) bytes

-- one part more
pub text_joined : (cs ds es : List ChunkValue) (bytes : List ℕ) (i j : ℕ) → i ≤ j → es ≡ cs ++ ds → text_of cs ≡ take i bytes → text_of ds ≡ slice_range bytes i j → text_of es ≡ take j bytes
text_joined cs ds es bytes i j h is e f =
    ap text_of is ∙ flat_map-append bytes_of cs ds ∙ ap (λ (t : List ℕ). t ++ text_of ds) e ∙ ap (λ (t : List ℕ). take i bytes ++ t) f ∙ sym (take_to bytes i j h)

pub fresh_joined : (depth : ℕ) (cs ds es : List ChunkValue) → es ≡ cs ++ ds → AreFresh depth cs → AreFresh depth ds → AreFresh depth es
fresh_joined depth cs ds es is h k = All-same (IsFresh depth) es (cs ++ ds) is (All-append (IsFresh depth) cs ds h k)

-- the part that is taken next, and those that are left
pub popped : (bytes : List ℕ) (depth : ℕ) (old new : List (Result MadePart AllocError)) (next : Option (Result MadePart AllocError)) (part : Result MadePart AllocError) (made : MadePart)
    → old ≡ new ++ option_to_list next → All (λ r. IfOk r (IsMadePart bytes depth)) old → next ≡ Some part → part ≡ Ok made
    → IsMadePart bytes depth made × All (λ r. IfOk r (IsMadePart bytes depth)) new
popped bytes depth old new next part made is h e f =
    let both = All-pop (λ (r : Result MadePart AllocError). IfOk r (IsMadePart bytes depth)) old new next is h in
    let there : IfOk part (IsMadePart bytes depth) = subst (λ (o : Option (Result MadePart AllocError)). IfSome o (λ r. IfOk r (IsMadePart bytes depth))) e both.1 in
    (subst (λ (r : Result MadePart AllocError). IfOk r (IsMadePart bytes depth)) f there, both.0)
