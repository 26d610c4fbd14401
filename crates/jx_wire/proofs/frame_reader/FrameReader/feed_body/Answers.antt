use Rattle.std.proofs.Common.{◌≡◌, ◌-◌, ◌++◌, ◌∷◌, [], take, ap, sym, ◌∙◌, arith}
use Rattle.jx_wire.specs.Frames.{Reading, start}
use Rattle.jx_wire.proofs.FrameSteps.{fed_part, fed_whole, in_the_body}
use Rattle.jx_wire.proofs.frame_reader.FrameReader.feed_body.Goals as goal

pub returns-then-taken-missing-clause-read : goal.returns-then-taken-missing-clause-read
returns-then-taken-missing-clause-read c =
    let fed = fed_part c.args.self.now c.args.missing c.min-taken.result c.args.bytes.now c.requires.part c.min-taken.ensures (omega arith) in
    let items : c.extend_from_slice.new.self.items ≡ c.args.self.now.held ++ take c.min-taken.result c.args.bytes.now =
    cc (c.in_ok-extend_from_slice.ensures.items, ap (λ (r : Reading). r.held) c.self.view_is) in
    ap (λ l. in_the_body (c.args.missing - c.min-taken.result) l) items ∙ sym fed.reads

pub returns-then-taken-missing-clause-body : goal.returns-then-taken-missing-clause-body
returns-then-taken-missing-clause-body c =
    (fed_part c.args.self.now c.args.missing c.min-taken.result c.args.bytes.now c.requires.part c.min-taken.ensures (omega arith)).ends

pub returns-clause-read : goal.returns-clause-read
returns-clause-read c =
    let fed = fed_whole c.args.self.now c.args.missing c.min-taken.result c.args.bytes.now c.requires.part c.min-taken.ensures c.requires.missing (omega arith) in
    let none : c.replace-body.new.dest.items ≡ c.new.result.items = ap (λ v. v.items) c.replace-body.ensures.after in
    ap (λ l. let x : Reading = record { part = start.part; held = l } in x) (none ∙ c.new.ensures.items) ∙ sym fed.reads

pub returns-clause-body : goal.returns-clause-body
returns-clause-body c =
    let fed = fed_whole c.args.self.now c.args.missing c.min-taken.result c.args.bytes.now c.requires.part c.min-taken.ensures c.requires.missing (omega arith) in
    let items : c.replace-body.result.items ≡ c.args.self.now.held ++ take c.min-taken.result c.args.bytes.now =
    cc (c.in_ok-extend_from_slice.ensures.items, ap (λ (r : Reading). r.held) c.self.view_is, c.replace-body.ensures.value) in
    fed.ends ∙ ap (λ l. l ∷ []) (sym items)
