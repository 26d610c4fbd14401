use Rattle.std.proofs.Common.{ℕ, List, subst, ◌∙◌}
use Rattle.std.specs.Prelude.{slice_range}
use Rattle.jx_lex.specs.declared.alphabet.state.LexState.TheVariants.{Gap}
use Rattle.jx_lex.specs.Lex.{lex}
use Rattle.jx_reduce.specs.declared.table.whole.Whole.{Whole}
use Rattle.jx_run.proofs.ReaderSteps.{slice_first}
use Rattle.jx_ndjson.specs.inside.Texts.{IsEnd, IsTextWithin}
use Rattle.jx_ndjson.proofs.Texts.{scanned, text_within}
use Rattle.jx_ndjson.proofs.text_lines.is_text.Goals as goal

pub returns-clause-depth : goal.returns-clause-depth
returns-clause-depth c = λ is.
    let bytes : List ℕ = slice_range c.args.slice.now 0 c.args.to in
    (scanned c.reset.new.self c.read_between.new.stack (lex Gap 0 bytes) c.reset.ensures.reads c.in_ok-exit.ensures.seen).0 ∙ c.reset.ensures.depth

pub returns-clause-text : goal.returns-clause-text
returns-clause-text c = λ is.
    let bytes : List ℕ = slice_range c.args.slice.now 0 c.args.to in
    let seen = scanned c.reset.new.self c.read_between.new.stack (lex Gap 0 bytes) c.reset.ensures.reads c.in_ok-exit.ensures.seen in
    subst (λ (xs : List ℕ). IsTextWithin c.args.stack.now.depth xs) (slice_first c.args.to c.args.slice.now)
    (text_within c.reader_and_grammar.ensures.verdict c.args.stack.now.depth bytes c.in_ok-exit.exit c.read_between.new.stack (seen.0 ∙ c.reset.ensures.depth) c.in_ok-exit.ensures.exit seen.1
    (subst (λ (w : Whole). IsEnd c.in_ok-exit.exit w) c.whole.ensures (c.is_end.ensures is)))
