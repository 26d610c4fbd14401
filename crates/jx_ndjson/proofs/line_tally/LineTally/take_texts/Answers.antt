use Rattle.std.proofs.Common.{◌≡◌, ◌+◌, ℕ, List, ◌++◌, append-nil, refl, sym, ap, subst, ◌∙◌, take}
use Rattle.jx_run.specs.declared.texts.settings.Settings.{Settings}
use Rattle.jx_ndjson.specs.declared.line_tally.LineCounts.{LineCounts}
use Rattle.jx_ndjson.specs.Tally.{HasTaken, TallyValue}
use Rattle.jx_ndjson.specs.WholeLines.{AreWhole, WholeLinesValue}
use Rattle.jx_ndjson.proofs.Tallies.{takes_texts}
use Rattle.jx_ndjson.proofs.line_tally.LineTally.take_texts.Goals as goal

pub returns-then-not-is_between-clause-taken : goal.returns-then-not-is_between-clause-taken
returns-then-not-is_between-clause-taken c = λ settings input given h. subst (λ (xs : List ℕ). HasTaken settings xs given c.args.self.now) (sym (append-nil input)) h

pub returns-clause-taken : goal.returns-clause-taken
returns-clause-taken c = λ settings input given h.
    let i = c.self.inside in
    let slice : List ℕ = c.args.slice.now in
    let whole : WholeLinesValue = c.in_ok-texts.texts in
    let old : TallyValue = record { lines = i.lines; counts = i.counts; waiting = i.waiting.items } in
    let counts : ℕ → LineCounts = λ n. record { accepted = i.counts.accepted + n; refused = i.counts.refused; blank = i.counts.blank } in
    let new : TallyValue = record { lines = c.pass.new.self; counts = counts c.count.result; waiting = i.waiting.items } in
    let taken : HasTaken settings input given old = subst (λ (v : TallyValue). HasTaken settings input given v) (sym c.self.view_is) h in
    let depth : c.depth.result ≡ settings.depth = c.depth.ensures ∙ ap (λ (s : Settings). s.depth) taken.told.reads.goes_on.reads_by in
    let are : AreWhole settings.depth (take whole.len slice) c.in_ok-texts.ensures.whole.0 whole =
    subst (λ (d : ℕ). AreWhole d (take whole.len slice) c.in_ok-texts.ensures.whole.0 whole) depth c.in_ok-texts.ensures.whole.1 in
    subst (λ (n : ℕ). HasTaken settings (input ++ take n slice) given new) (sym c.len.ensures)
    (takes_texts settings input (take whole.len slice) given c.in_ok-texts.ensures.whole.0 whole i.lines.ended i.lines.reader.start old new taken are c.in_ok-texts.ensures.texts
    (ap counts c.count.ensures.count) refl
    (λ told o. c.pass.ensures.told settings input (take whole.len slice) told c.in_ok-texts.ensures.whole.0 o are))
