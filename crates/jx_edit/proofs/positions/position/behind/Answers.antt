use Rattle.std.proofs.Common.{ap, ◌∙◌, ◌+◌, ◌-◌, length, drop, arith, ℕ}
use Rattle.std.specs.Prelude.{sum_by}
use Rattle.std.proofs.lemmas.List.{take_all, length-drop}
use Rattle.jx_edit.specs.Positions.{units}
use Rattle.jx_edit.proofs.Counting.{behind_last, behind_none, position}
use Rattle.jx_edit.proofs.positions.position.behind.Goals as goal

pub returns-in-None : goal.returns-in-None
returns-in-None c = ap (position 0) c.width.ensures ∙ behind_none c.args.encoding c.args.bytes.now c.in-None.ensures

pub returns-in-Some : goal.returns-in-Some
returns-in-Some c =
    let bytes = c.args.bytes.now in
    let last = c.in-Some.last in
    let more = drop (last + 1) bytes in
    ap (position c.feeds.result) (c.width-in-Some.ensures ∙ ap (sum_by (units c.args.encoding)) (take_all (length bytes - (last + 1)) more (omega (arith, length-drop (last + 1) bytes))))
    ∙ ap (λ (n : ℕ). position n (sum_by (units c.args.encoding) more)) c.feeds.ensures
    ∙ behind_last c.args.encoding bytes last c.in-Some.ensures.0 c.in-Some.ensures.1
