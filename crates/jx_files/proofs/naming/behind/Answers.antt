use Rattle.std.proofs.Common.{◌≡◌, ℕ, suc, ◌+◌, ◌<◌, List, ◌∷◌, ◌++◌, Bool, length, drop, get_or, sym, ◌∙◌, ap, arith, add-one}
use Rattle.std.specs.Prelude.{◌==◌}
use Rattle.std.proofs.Math.Seq.{drop-cons}
use Rattle.jx_files.specs.Naming.{named_from}
use Rattle.jx_files.proofs.NamedLines.{one_more}
use Rattle.jx_files.proofs.naming.behind.Goals as goal

pub loop-byte-preserved : goal.loop-byte-preserved
loop-byte-preserved c =
    let xs : List ℕ = c.args.lines.now in
    let front : List ℕ = c.args.front.now in
    let i : ℕ = c.loop-byte.byte-index in
    let b : ℕ = get_or xs i 0 in
    let starts : Bool = c.loop-byte.starts in
    let all : List ℕ = c.loop-byte.all.items in
    let within : i < length xs = omega arith in
    let next : i + 1 ≡ suc i = add-one i in
    ap (λ (x : List ℕ). x ++ named_from (b == 10) front (drop (i + 1) xs)) c.in_ok-push_behind.ensures
    ∙ one_more starts front all (drop (i + 1) xs) b
    ∙ ap (λ (k : ℕ). all ++ named_from starts front (b ∷ drop k xs)) next
    ∙ ap (λ (r : List ℕ). all ++ named_from starts front r) (sym (drop-cons xs i 0 within))
    ∙ c.loop-byte.invariant
