use Rattle.std.proofs.Common.{◌≡◌, length, take, ap, sym, ◌∙◌, arith}
use Rattle.jx_wire.specs.Frames.{Reading}
use Rattle.jx_wire.specs.declared.frame_reader.Part.TheVariants.{Broken}
use Rattle.jx_wire.proofs.FrameSteps.{nowhere, fed_broken, fed_one}
use Rattle.jx_wire.proofs.frame_reader.FrameReader.feed.Goals as goal

pub returns-in-Broken-clause-read : goal.returns-in-Broken-clause-read
returns-in-Broken-clause-read c =
    let part : c.args.self.now.part ≡ Broken c.in-Broken.fault = cc (ap (λ (r : Reading). r.part) c.self.view_is, c.in-Broken.is) in
    sym (fed_broken c.args.self.now c.in-Broken.fault (take (length c.args.bytes.now) c.args.bytes.now) part).reads

pub returns-in-Broken-clause-body : goal.returns-in-Broken-clause-body
returns-in-Broken-clause-body c =
    let part : c.args.self.now.part ≡ Broken c.in-Broken.fault = cc (ap (λ (r : Reading). r.part) c.self.view_is, c.in-Broken.is) in
    (fed_broken c.args.self.now c.in-Broken.fault (take (length c.args.bytes.now) c.args.bytes.now) part).ends

pub returns-in-empty-clause-read : goal.returns-in-empty-clause-read
returns-in-empty-clause-read c = sym (nowhere c.args.self.now).reads

pub returns-in-empty-clause-body : goal.returns-in-empty-clause-body
returns-in-empty-clause-body c = (nowhere c.args.self.now).ends

pub returns-in_ok-body-in-len1-up-clause-read : goal.returns-in_ok-body-in-len1-up-clause-read
returns-in_ok-body-in-len1-up-clause-read c =
    c.in_ok-body-in-len1-up.ensures.read ∙ sym (fed_one c.args.self.now c.args.bytes.now (omega (arith, c.in-len1-up.len_at_least))).reads

pub returns-in_ok-body-in-len1-up-clause-body : goal.returns-in_ok-body-in-len1-up-clause-body
returns-in_ok-body-in-len1-up-clause-body c =
    (fed_one c.args.self.now c.args.bytes.now (omega (arith, c.in-len1-up.len_at_least))).ends ∙ c.in_ok-body-in-len1-up.ensures.body
