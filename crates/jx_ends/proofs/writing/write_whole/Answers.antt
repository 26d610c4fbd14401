use Rattle.std.proofs.Common.{◌≡◌, ◌+◌, ◌-◌, ◌++◌, length, take, drop, sym, subst, ap, ◌∙◌, rules, arith, take_all, length-drop}
use lib.Seq.{take-add}
use Rattle.std.specs.Io.KnownBytes.{Appends}
use Rattle.std.proofs.KnownBytes.{Appends-trans}
use Rattle.std.proofs.lemmas.List.{places}
use Rattle.jx_ends.proofs.writing.write_whole.Goals as goal

pub loop-written-preserved : goal.loop-written-preserved
loop-written-preserved g c =
    let bytes = c.args.bytes.now in
    let written = c.loop-written.written in
    let count = c.in-Ok.count in
    let rest : take (length bytes - written) (drop written bytes) ≡ drop written bytes = take_all _ _ (omega (arith, length-drop written bytes)) in
    let seam : take written bytes ++ take count (take (length bytes - written) (drop written bytes)) ≡ take (written + count) bytes =
    ap (λ l. take written bytes ++ take count l) rest ∙ sym (take-add written count bytes) in
    let more = Appends-trans _ _ _ _ _ c.loop-written.invariant.2 c.in-Ok.ensures.bytes in
    (search (rules, places), search rules, subst (Appends _ _) seam more)
