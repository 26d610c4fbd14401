use Rattle.std.proofs.Common.{◌≡◌, ◌+◌, ℕ, List, length, take, ◌∙◌, ap, sym, subst}
use Rattle.std.specs.Prelude.{All, IfSome}
use Rattle.jx_each.specs.Each.{EachValue, HasTakenBy}
use Rattle.jx_each.specs.Machine.{aimed, run}
use Rattle.jx_each.specs.Sections.{IsSection}
use Rattle.jx_each.specs.inside.Fronts.{sound, sound_part}
use Rattle.jx_each.specs.inside.Paths.{aim_of, path_of}
use Rattle.jx_each.proofs.Joins.{all_fronted, sound_fronts}
use Rattle.jx_each.proofs.Taking.{Fed, takes_slice}
use Rattle.jx_each.proofs.each.Each.follow.Goals as goal

pub make_by_sections-requires-clause-sections : goal.make_by_sections-requires-clause-sections
make_by_sections-requires-clause-sections c =
    let slice = c.args.slice.now in
    all_fronted (aim_of c.self.inside.target) slice c.sound_part-part.result.now c.args.sections.items
    (subst (λ (p : List ℕ). p ≡ take (length p) slice) (sym c.sound_part-part.ensures) (sound_fronts slice c.sound-before.result c.end-count.result c.sound-after.result))
    (subst (λ (v : EachValue). All (λ s. IfSome s (IsSection (aimed v.content v.path) slice)) c.args.sections.items) (sym c.self.view_is) c.requires.sections)

pub returns-clause-taken_by : goal.returns-clause-taken_by
returns-clause-taken_by c = λ content pointer bytes given h.
    let slice = c.args.slice.now in
    let old = c.self.inside.reader in
    let new = c.follow.new.self in
    let fed : Fed old new slice c.verdict.result c.verdict-2.result = record {
      settings = c.follow.ensures.settings;
      start = c.follow.ensures.start;
      reads = λ before h. c.in_ok-follow.ensures.reads before slice h c.requires.of;
      judged = c.verdict.ensures.verdict;
      judged_again = c.verdict-2.ensures.verdict;
    } in
    let v = c.verdict.result in
    let w = c.verdict-2.result in
    let n : ℕ = old.start + old.count in
    let count : c.end-count.result ≡ n = c.end-count.ensures in
    let before : c.sound-before.result ≡ sound v n = c.sound-before.ensures ∙ ap (sound v) count in
    let after : c.sound-after.result ≡ sound w (new.start + new.count) = c.sound-after.ensures ∙ ap (sound w) c.end.ensures in
    let part : c.sound_part-part.result.now ≡ sound_part slice (sound v n) n (sound w (new.start + new.count)) =
    c.sound_part-part.ensures
    ∙ ap (λ (k : ℕ). sound_part slice k c.end-count.result c.sound-after.result) before
    ∙ ap (λ (k : ℕ). sound_part slice (sound v n) k c.sound-after.result) count
    ∙ ap (sound_part slice (sound v n) n) after in
    takes_slice {content = content} old new (path_of c.self.inside.target.path.items) c.self.inside.target.content c.self.inside.stand c.in-Some.stand c.in_ok-next.next c.self.inside.ready.items c.self.inside.part.items c.make_by_sections.new.lines.items c.make_by_sections.new.part.items slice pointer bytes given
    c.verdict.result c.verdict-2.result fed c.in-Some.is
    (c.in_ok-next.ensures.made
    ∙ ap (run (aim_of c.self.inside.target) (record { stand = c.in-Some.stand; lines = c.self.inside.ready.items; part = c.self.inside.part.items })) part)
    (subst (λ (v : EachValue). HasTakenBy content pointer bytes given v) (sym c.self.view_is) h)
