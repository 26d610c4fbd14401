use Rattle.std.proofs.Common.{◌≡◌, ◌+◌, ◌*◌, ◌≤◌, ℕ, suc, List, ap, arith, subst, sym, ◌∙◌, take, length, true, Some}
use Rattle.std.proofs.lemmas.Result.{IfOk-weaker}
use Rattle.jx_lex.specs.Lex.{lex}
use Rattle.jx_run.specs.declared.texts.settings.Settings.{Settings}
use Rattle.jx_run.specs.Reader.{is_fault, read_by}
use Rattle.jx_run.specs.Telling.{tokens_by}
use Rattle.jx_file_query.proofs.Chunkings.{entry_is, kept_some}
use Rattle.jx_file_index.specs.declared.entry.Entry.{Entry}
use Rattle.jx_file_query.proofs.WalkComings.{base_is, inside, later_exit, none_weaker, piece_is, some_weaker}
use Rattle.jx_file_query.proofs.TextParts.{first_goes, first_track, later_track, none_before}
use Rattle.jx_file_query.specs.Cuts.{cuts_of}
use Rattle.jx_file_query.specs.Split.{IsCutAt}
use Rattle.jx_file_query.proofs.SplitComings.{cut_next}
use Rattle.jx_file_query.proofs.split_reading.read_chunk.Goals as goal

pub returns-then-at-eq0-clause-none : goal.returns-then-at-eq0-clause-none
returns-then-at-eq0-clause-none c = IfOk-weaker c.read_first.result _ _
    (λ read h. none_weaker read _ _
    (λ fault settings chunk text known are.
    let index = c.args.index.now in
    let two = c.lex_of_two_parts.ensures.two in
    first_goes settings chunk text known.goes two c.args.at c.args.bytes.now c.if-at-eq0.true (piece_is settings chunk text index known c.args.at c.args.span c.args.bytes.now c.requires.here are)
    (ap (λ (s : Settings). is_fault (Some (read_by s.mark s.depth 0 c.args.bytes.now))) (sym known.indexed.settings_are) ∙ fault)) h)
    c.read_first.ensures.none

pub returns-then-at-eq0-clause-cut : goal.returns-then-at-eq0-clause-cut
returns-then-at-eq0-clause-cut c = IfOk-weaker c.read_first.result _ _
    (λ read h. some_weaker read _ _
    (λ next got settings chunk text known are was.
    let index = c.args.index.now in
    let at = c.args.at in
    let two = c.lex_of_two_parts.ensures.two in
    let here = piece_is settings chunk text index known at c.args.span c.args.bytes.now c.requires.here are in
    let none : 0 ≡ length (take (at * chunk) text) = sym (ap (λ (xs : List ℕ). length xs) (none_before settings chunk text known.goes two at c.if-at-eq0.true)) in
    subst (λ (n : ℕ). IsCutAt settings chunk text c.args.aim n (cuts_of next)) (let e : suc at ≡ at + 1 = omega arith in e)
    (cut_next settings chunk text c.args.aim index known two at 0 (tokens_by index.settings.mark c.args.bytes.now) (cuts_of c.args.held) (cuts_of next) none
    (ap (λ (s : Settings). tokens_by s.mark c.args.bytes.now) known.indexed.settings_are ∙ first_track settings chunk text known.goes two at c.args.bytes.now c.if-at-eq0.true here)
    got was)) h)
    c.read_first.ensures.cut

pub returns-in_default-clause-none : goal.returns-in_default-clause-none
returns-in_default-clause-none c = λ settings chunk text known are.
    kept_some settings chunk text c.args.index.now known.indexed c.args.at c.args.span c.requires.here (λ xs levels low. sym c.in_default.is ∙ c.entry_at.ensures xs levels low)

pub returns-clause-none : goal.returns-clause-none
returns-clause-none c = IfOk-weaker c.read_later.result _ _
    (λ read h. none_weaker read _ _
    (λ fault settings chunk text known are.
    let index = c.args.index.now in
    let two = c.lex_of_two_parts.ensures.two in
    let entry = c.in-Some.entry in
    let same = entry_is settings chunk text index known.indexed c.args.at c.args.span entry c.requires.here c.in-Some.ensures in
    fault _
    (later_exit settings chunk text index known two c.args.at c.args.span entry c.args.bytes.now c.if-at-eq0.false c.requires.here same
    (piece_is settings chunk text index known c.args.at c.args.span c.args.bytes.now c.requires.here are))) h)
    c.read_later.ensures.none

pub returns-clause-cut : goal.returns-clause-cut
returns-clause-cut c = IfOk-weaker c.read_later.result _ _
    (λ read h. some_weaker read _ _
    (λ next got settings chunk text known are was.
    let index = c.args.index.now in
    let at = c.args.at in
    let two = c.lex_of_two_parts.ensures.two in
    let entry = c.in-Some.entry in
    let same = entry_is settings chunk text index known.indexed at c.args.span entry c.requires.here c.in-Some.ensures in
    let here = piece_is settings chunk text index known at c.args.span c.args.bytes.now c.requires.here are in
    let within : at * chunk ≤ length text = (let i = inside settings chunk text index known at c.args.span c.requires.here in omega (arith, i)) in
    subst (λ (n : ℕ). IsCutAt settings chunk text c.args.aim n (cuts_of next)) (let e : suc at ≡ at + 1 = omega arith in e)
    (cut_next settings chunk text c.args.aim index known two at c.args.span.start (lex entry.state 0 c.args.bytes.now) (cuts_of c.args.held) (cuts_of next)
    (base_is settings chunk text index known at c.args.span c.requires.here)
    (later_track settings chunk text known.goes two at entry.state c.args.bytes.now known.size c.if-at-eq0.false within (ap (λ (x : Entry). x.state) same) here)
    got was)) h)
    c.read_later.ensures.cut
