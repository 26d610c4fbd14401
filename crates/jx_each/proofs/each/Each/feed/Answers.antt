use Rattle.std.proofs.Common.{◌≡◌, ◌+◌, ℕ, ◌∙◌, ap, sym, subst}
use Rattle.jx_each.specs.Each.{EachValue, HasTakenBy}
use Rattle.jx_each.specs.declared.content.LineContent.TheVariants.{Alone}
use Rattle.jx_each.specs.Machine.{run}
use Rattle.jx_each.specs.inside.Fronts.{sound, sound_part}
use Rattle.jx_each.specs.inside.Paths.{aim_of, path_of}
use Rattle.jx_each.proofs.Taking.{Fed, takes_slice}
use Rattle.jx_each.proofs.each.Each.feed.Goals as goal

pub returns-clause-taken : goal.returns-clause-taken
returns-clause-taken c = λ pointer bytes given h.
    let slice = c.args.slice.now in
    let old = c.self.inside.reader in
    let new = c.feed.new.self in
    let fed : Fed old new slice c.verdict.result c.verdict-2.result = record {
      settings = c.feed.ensures.settings;
      start = c.feed.ensures.start;
      reads = c.in_ok-feed.ensures.reads;
      judged = c.verdict.ensures.verdict;
      judged_again = c.verdict-2.ensures.verdict;
    } in
    let v = c.verdict.result in
    let w = c.verdict-2.result in
    let n : ℕ = old.start + old.count in
    let count : c.end-count.result ≡ n = c.end-count.ensures in
    let before : c.sound-before.result ≡ sound v n = c.sound-before.ensures ∙ ap (sound v) count in
    let after : c.sound-after.result ≡ sound w (new.start + new.count) = c.sound-after.ensures ∙ ap (sound w) c.end.ensures in
    let part : c.sound_part-part.result.now ≡ sound_part slice (sound v n) n (sound w (new.start + new.count)) =
    c.sound_part-part.ensures
    ∙ ap (λ (k : ℕ). sound_part slice k c.end-count.result c.sound-after.result) before
    ∙ ap (λ (k : ℕ). sound_part slice (sound v n) k c.sound-after.result) count
    ∙ ap (sound_part slice (sound v n) n) after in
    takes_slice {content = Alone} old new (path_of c.self.inside.target.path.items) c.self.inside.target.content c.self.inside.stand c.in-Some.stand c.in_ok-next.next c.self.inside.ready.items c.self.inside.part.items c.make_all.new.lines.items c.make_all.new.part.items slice pointer bytes given
    c.verdict.result c.verdict-2.result fed c.in-Some.is
    (c.in_ok-next.ensures.made
    ∙ ap (run (aim_of c.self.inside.target) (record { stand = c.in-Some.stand; lines = c.self.inside.ready.items; part = c.self.inside.part.items })) part)
    (subst (λ (v : EachValue). HasTakenBy Alone pointer bytes given v) (sym c.self.view_is) h)

pub returns-clause-taken_by : goal.returns-clause-taken_by
returns-clause-taken_by c = λ content pointer bytes given h.
    let slice = c.args.slice.now in
    let old = c.self.inside.reader in
    let new = c.feed.new.self in
    let fed : Fed old new slice c.verdict.result c.verdict-2.result = record {
      settings = c.feed.ensures.settings;
      start = c.feed.ensures.start;
      reads = c.in_ok-feed.ensures.reads;
      judged = c.verdict.ensures.verdict;
      judged_again = c.verdict-2.ensures.verdict;
    } in
    let v = c.verdict.result in
    let w = c.verdict-2.result in
    let n : ℕ = old.start + old.count in
    let count : c.end-count.result ≡ n = c.end-count.ensures in
    let before : c.sound-before.result ≡ sound v n = c.sound-before.ensures ∙ ap (sound v) count in
    let after : c.sound-after.result ≡ sound w (new.start + new.count) = c.sound-after.ensures ∙ ap (sound w) c.end.ensures in
    let part : c.sound_part-part.result.now ≡ sound_part slice (sound v n) n (sound w (new.start + new.count)) =
    c.sound_part-part.ensures
    ∙ ap (λ (k : ℕ). sound_part slice k c.end-count.result c.sound-after.result) before
    ∙ ap (λ (k : ℕ). sound_part slice (sound v n) k c.sound-after.result) count
    ∙ ap (sound_part slice (sound v n) n) after in
    takes_slice {content = content} old new (path_of c.self.inside.target.path.items) c.self.inside.target.content c.self.inside.stand c.in-Some.stand c.in_ok-next.next c.self.inside.ready.items c.self.inside.part.items c.make_all.new.lines.items c.make_all.new.part.items slice pointer bytes given
    c.verdict.result c.verdict-2.result fed c.in-Some.is
    (c.in_ok-next.ensures.made
    ∙ ap (run (aim_of c.self.inside.target) (record { stand = c.in-Some.stand; lines = c.self.inside.ready.items; part = c.self.inside.part.items })) part)
    (subst (λ (v : EachValue). HasTakenBy content pointer bytes given v) (sym c.self.view_is) h)
