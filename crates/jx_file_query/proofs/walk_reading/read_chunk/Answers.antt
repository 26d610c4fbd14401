use Rattle.std.proofs.Common.{◌≡◌, ◌+◌, ◌*◌, ◌≤◌, ℕ, suc, List, ap, arith, subst, sym, ◌∙◌, take, length, true, false, Some}
use Rattle.jx_lex.specs.Lex.{lex}
use Rattle.jx_lex.specs.TokenStates.{in_token}
use Rattle.jx_run.specs.declared.texts.settings.Settings.{Settings}
use Rattle.jx_run.specs.Reader.{is_fault, read_by, state_behind}
use Rattle.jx_run.specs.Telling.{tokens_by}
use Rattle.jx_file_index.specs.declared.entry.Entry.{Entry}
use Rattle.jx_file_index.specs.Chunks.{before}
use Rattle.jx_file_query.specs.HeldAt.{IsHeldAt}
use Rattle.jx_file_query.proofs.Chunkings.{entry_is, kept_some}
use Rattle.jx_file_query.proofs.WalkComings.{base_is, inside, later_exit, none_weaker, piece_is, some_both}
use Rattle.jx_file_query.proofs.TextParts.{first_goes, first_track, first_whole, goes_at, later_track, none_before, track_held}
use Rattle.jx_file_query.proofs.Standing.{between_first, turn_at}
use Rattle.jx_file_query.proofs.walk_reading.read_chunk.Goals as goal

pub returns-then-is_some-clause-none : goal.returns-then-is_some-clause-none
returns-then-is_some-clause-none c = λ settings chunk text known are was.
    let none = none_before settings chunk text known.goes c.lex_of_two_parts.ensures.two c.args.at c.if-at-eq0.true in
    let gap : in_token (state_behind (before settings text (c.args.at * chunk))) ≡ false =
    ap (λ (xs : List ℕ). in_token (state_behind (read_by settings.mark settings.depth 0 xs))) none ∙ between_first settings.mark settings.depth in
    let clash : true ≡ false = sym c.if-is_some.true ∙ c.is_some.ensures ∙ was.turn ∙ gap in
    cc

pub returns-then-at-eq0-clause-none : goal.returns-then-at-eq0-clause-none
returns-then-at-eq0-clause-none c = none_weaker c.in_ok-first.first _ _
    (λ fault settings chunk text known are was.
    let index = c.args.index.now in
    let two = c.lex_of_two_parts.ensures.two in
    first_goes settings chunk text known.goes two c.args.at c.args.bytes.now c.if-at-eq0.true (piece_is settings chunk text index known c.args.at c.args.span c.args.bytes.now c.requires.here are)
    (ap (λ (s : Settings). is_fault (Some (read_by s.mark s.depth 0 c.args.bytes.now))) (sym known.indexed.settings_are) ∙ fault))
    c.in_ok-first.ensures.none

pub returns-then-at-eq0-clause-held : goal.returns-then-at-eq0-clause-held
returns-then-at-eq0-clause-held c = some_both c.in_ok-first.first _ _ _
    (λ next got turned settings chunk text known are was.
    let index = c.args.index.now in
    let at = c.args.at in
    let two = c.lex_of_two_parts.ensures.two in
    let here = piece_is settings chunk text index known at c.args.span c.args.bytes.now c.requires.here are in
    let front = take (at * chunk) text in
    let none : 0 ≡ length front = sym (ap (λ (xs : List ℕ). length xs) (none_before settings chunk text known.goes two at c.if-at-eq0.true)) in
    let came : Some (read_by index.settings.mark index.settings.depth 0 c.args.bytes.now) ≡ Some (before settings text (suc at * chunk)) =
    ap (λ (s : Settings). Some (read_by s.mark s.depth 0 c.args.bytes.now)) known.indexed.settings_are
    ∙ ap (λ (xs : List ℕ). Some (read_by settings.mark settings.depth 0 xs)) (first_whole settings chunk text known.goes two at c.args.bytes.now c.if-at-eq0.true here) in
    subst (λ (n : ℕ). IsHeldAt settings chunk text c.args.edges.now n next) (let e : suc at ≡ at + 1 = omega arith in e)
    (track_held settings chunk text known.goes two at c.args.edges.now c.args.bytes.now (tokens_by index.settings.mark c.args.bytes.now) next here
    (ap (λ (s : Settings). tokens_by s.mark c.args.bytes.now) known.indexed.settings_are ∙ first_track settings chunk text known.goes two at c.args.bytes.now c.if-at-eq0.true here)
    (got front (tokens_by settings.mark front).marks (tokens_by settings.mark front).ends (none, was.held))
    (turn_at next.begun (before settings text (suc at * chunk)) (goes_at settings chunk text known.goes two (suc at)) (turned (before settings text (suc at * chunk)) came))))
    c.in_ok-first.ensures.held c.in_ok-first.ensures.turn

pub returns-in_default-clause-none : goal.returns-in_default-clause-none
returns-in_default-clause-none c = λ settings chunk text known are was.
    kept_some settings chunk text c.args.index.now known.indexed c.args.at c.args.span c.requires.here (λ xs levels low. sym c.in_default.is ∙ c.entry_at.ensures xs levels low)

pub returns-then-not-agrees-clause-none : goal.returns-then-not-agrees-clause-none
returns-then-not-agrees-clause-none c = λ settings chunk text known are was.
    let same = entry_is settings chunk text c.args.index.now known.indexed c.args.at c.args.span c.in-Some.entry c.requires.here c.in-Some.ensures in
    c.agrees.ensures.other c.if-not-agrees.true (ap (λ (e : Entry). in_token e.state) same ∙ sym was.turn)

pub returns-clause-none : goal.returns-clause-none
returns-clause-none c = none_weaker c.in_ok-later.later _ _
    (λ fault settings chunk text known are was.
    let index = c.args.index.now in
    let at = c.args.at in
    let two = c.lex_of_two_parts.ensures.two in
    let front = take (at * chunk) text in
    let same = entry_is settings chunk text index known.indexed at c.args.span c.in-Some.entry c.requires.here c.in-Some.ensures in
    fault front (tokens_by settings.mark front).marks (tokens_by settings.mark front).ends (base_is settings chunk text index known at c.args.span c.requires.here, was.held) (state_behind (before settings text (suc at * chunk)))
    (later_exit settings chunk text index known two at c.args.span c.in-Some.entry c.args.bytes.now c.if-at-eq0.false c.requires.here same
    (piece_is settings chunk text index known at c.args.span c.args.bytes.now c.requires.here are)))
    c.in_ok-later.ensures.none

pub returns-clause-held : goal.returns-clause-held
returns-clause-held c = some_both c.in_ok-later.later _ _ _
    (λ next got turned settings chunk text known are was.
    let index = c.args.index.now in
    let at = c.args.at in
    let two = c.lex_of_two_parts.ensures.two in
    let entry = c.in-Some.entry in
    let same = entry_is settings chunk text index known.indexed at c.args.span entry c.requires.here c.in-Some.ensures in
    let here = piece_is settings chunk text index known at c.args.span c.args.bytes.now c.requires.here are in
    let front = take (at * chunk) text in
    let within : at * chunk ≤ length text = (let i = inside settings chunk text index known at c.args.span c.requires.here in omega (arith, i)) in
    subst (λ (n : ℕ). IsHeldAt settings chunk text c.args.edges.now n next) (let e : suc at ≡ at + 1 = omega arith in e)
    (track_held settings chunk text known.goes two at c.args.edges.now c.args.bytes.now (lex entry.state 0 c.args.bytes.now) next here
    (later_track settings chunk text known.goes two at entry.state c.args.bytes.now known.size c.if-at-eq0.false within (ap (λ (x : Entry). x.state) same) here)
    (got front (tokens_by settings.mark front).marks (tokens_by settings.mark front).ends (base_is settings chunk text index known at c.args.span c.requires.here, was.held))
    (turned (state_behind (before settings text (suc at * chunk))) (later_exit settings chunk text index known two at c.args.span entry c.args.bytes.now c.if-at-eq0.false c.requires.here same here))))
    c.in_ok-later.ensures.held c.in_ok-later.ensures.turn
