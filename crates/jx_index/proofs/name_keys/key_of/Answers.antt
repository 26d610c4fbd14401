use Rattle.std.proofs.Common.{ℕ, ◌+◌, List, drop, sym, ap, ◌∙◌}
use Rattle.std.proofs.lemmas.List.{drop-drop}
use Rattle.std.proofs.Math.ListN.{drop_of_length-le}
use Rattle.jx_index.specs.declared.units.Spelling.TheVariants.{InText}
use Rattle.jx_index.specs.Units.{chars_units}
use Rattle.jx_index.specs.inside.NameKeys.{key_behind, next_key}
use Rattle.jx_index.proofs.NameKeys.{none_left}
use Rattle.jx_index.proofs.name_keys.key_of.Goals as goal

pub loop-at-init : goal.loop-at-init
loop-at-init c = ap (key_behind 0) c.string_bytes-bytes.ensures

pub loop-at-preserved : goal.loop-at-preserved
loop-at-preserved c =
    let bytes : List ℕ = c.string_bytes-bytes.result.now in
    let at : ℕ = c.loop-at.at in
    let key : ℕ = c.loop-at.key in
    let same = c.skip-rest.ensures in
    ap (λ (k : ℕ). key_behind k (chars_units InText 0 (drop (at + 1) bytes))) (c.next_key-key.ensures ∙ ap (next_key key) c.from.ensures)
    ∙ ap (λ (xs : List ℕ). key_behind (next_key key c.in-Some.byte) (chars_units InText 0 xs)) (sym (ap (drop 1) same ∙ drop-drop 1 at bytes))
    ∙ sym (ap (key_behind key) c.in-Some.ensures)
    ∙ ap (λ (xs : List ℕ). key_behind key (chars_units InText 0 xs)) same
    ∙ c.loop-at.invariant

pub returns-in-None : goal.returns-in-None
returns-in-None c = c.key_of_rest.ensures ∙ ap (λ (xs : List ℕ). key_behind c.loop-at.key (chars_units InText 0 xs)) c.skip-rest.ensures ∙ c.loop-at.invariant

pub returns : goal.returns
returns c =
    none_left c.loop-at.key
    ∙ ap (λ (xs : List ℕ). key_behind c.loop-at.key (chars_units InText 0 xs)) (sym (drop_of_length-le c.string_bytes-bytes.result.now c.loop-at-test.false))
    ∙ c.loop-at.invariant
