use Rattle.std.proofs.Common.{ℕ, List, ◌∷◌, ◌++◌, ap, sym, ◌∙◌}
use Rattle.std.specs.Prelude.{slice_range}
use Rattle.jx_lex.specs.declared.alphabet.state.LexState.TheVariants.{Gap}
use Rattle.jx_lex.specs.Lex.{lex}
use Rattle.jx_reduce.proofs.stack.known_sink.KnownStackTokenSink.pass.Goals as goal

pub returns-clause-read : goal.returns-clause-read
returns-clause-read c =
    let p = c.pass.ensures in
    let others = (lex Gap c.args.from (slice_range c.args.text.now c.args.from c.pass.result)).ends in
    record {
      seen = λ marks ends h.
          record {
            read = p.marks marks h.read;
            rest = h.rest ++ others;
            depth = ap (λ (es : List ℕ). es ++ others) h.depth ∙ ap (λ (d : ℕ). d ∷ (h.rest ++ others)) (sym p.depth);
          };
      exit = p.exit;
    }
