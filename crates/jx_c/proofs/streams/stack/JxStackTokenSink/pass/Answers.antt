use Rattle.std.proofs.Common.{◌≡◌, ◌++◌, ℕ, List, ap, arith, refl}
use Rattle.std.specs.Prelude.{slice_range}
use Rattle.jx_lex.specs.declared.alphabet.state.LexState.TheVariants.{Gap}
use Rattle.jx_lex.specs.Lex.{lex}
use Rattle.jx_lex.proofs.Keeping.{goes-none}
use Rattle.jx_reduce.specs.KnownStack.{HasSeen, Known}
use Rattle.jx_c.specs.Stack.{holders_of, known_of, reading_at, stage_in}
use Rattle.jx_c.specs.declared.streams.stack.Stage.TheVariants.{Going}
use Rattle.jx_c.proofs.Moves.{has_read-then, passed}
use Rattle.jx_c.proofs.streams.stack.JxStackTokenSink.pass.Goals as goal

pub returns-in_default : goal.returns-in_default
returns-in_default c =
    record {
      bounds = (omega arith, c.requires.bounds.0);
      read = goes-none c.args.text.now c.args.from Gap (λ marks ends. HasSeen marks ends (known_of c.args.self.now));
      turn = tt;
    }

pub returns-then-open_count-depth-clause-read : goal.returns-then-open_count-depth-clause-read
returns-then-open_count-depth-clause-read c = goes-none c.args.text.now c.args.from Gap (λ marks ends. HasSeen marks ends (known_of c.args.self.now))

pub returns-clause-read : goal.returns-clause-read
returns-clause-read c =
    let s = c.args.self.now in
    let p = c.pass_tokens-at in
    let n = p.new.holders in
    let track = lex Gap c.args.from (slice_range c.args.text.now c.args.from p.result.0) in
    let new : Known = record { depth = s.depth; reading = reading_at (stage_in c.code_of-self.result) n.at (holders_of n) } in
    let is : stage_in s.stage ≡ Going c.in-Going.expect = cc in
    record {
      seen = λ marks ends h.
          record {
            read = has_read-then (known_of s) new marks track.marks refl
                (passed c.code_of-self.result s.depth s.at n.at c.in-Going.expect p.result.1 (stage_in s.stage) track.marks (holders_of s) (holders_of n) c.code_of-self.ensures is p.ensures.reads)
                h.read;
            rest = h.rest ++ track.ends;
            depth = ap (λ (es : List ℕ). es ++ track.ends) h.depth;
          };
      exit = p.ensures.exit;
    }
