-- A value is made compact chunk by chunk.
use Rattle.std.proofs.Common.{◌≡◌, ℕ, ◌+◌, ◌-◌, ◌≤◌, List, ◌++◌, arith, take, drop, sym, ap, ◌∙◌, take-append-drop}
use Rattle.std.specs.Prelude.{slice_range}
use Rattle.std.proofs.lemmas.List.{drop-drop}
use Rattle.jx_compact.specs.declared.place.Place.{Place}
use Rattle.jx_compact.specs.Compact.{compact_from, place_behind}
use Rattle.jx_compact.proofs.Compacts.{goes_on}

pub next_chunk : (place next : Place) (bytes chunk : List ℕ) (start end : ℕ) → start ≤ end → chunk ≡ slice_range bytes start end
    → next ≡ place_behind place chunk → compact_from place chunk ++ compact_from next (drop end bytes) ≡ compact_from place (drop start bytes)
next_chunk place next bytes chunk start end h is moved =
    let rest : List ℕ = drop start bytes in
    let there : start + (end - start) ≡ end = omega arith in
    let back : drop (end - start) rest ≡ drop end bytes = drop-drop (end - start) start bytes ∙ ap (λ (n : ℕ). drop n bytes) there in
    ap (λ (p : Place). compact_from place chunk ++ compact_from p (drop end bytes)) moved
    ∙ sym (goes_on place chunk (drop end bytes))
    ∙ ap (λ (c : List ℕ). compact_from place (c ++ drop end bytes)) is
    ∙ ap (λ (b : List ℕ). compact_from place (take (end - start) rest ++ b)) (sym back)
    ∙ ap (λ (x : List ℕ). compact_from place x) (take-append-drop (end - start) rest)
