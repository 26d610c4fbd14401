use Rattle.std.proofs.Common.{◌≡◌, [], ◌∙◌, length, ap, refl, subst, sym}
use Rattle.std.specs.Prelude.{IfSome, IsNone, Option, slice_range}
use Rattle.jx_lex.specs.declared.alphabet.lex_exit.LexExit.{LexExit}
use Rattle.jx_lex.specs.Lex.{lex}
use Rattle.jx_lex.specs.Seen.{TokenLists}
use Rattle.jx_lex.specs.Exit.{exit_of}
use Rattle.jx_reduce.specs.Outcome.{reading_of}
use Rattle.jx_edit.specs.inside.Places.{PlaceValue}
use Rattle.jx_edit.proofs.Scans.{scan_leads, wants_more}
use Rattle.jx_edit.proofs.reading.led.follow_bytes.Goals as goal

pub unreachable-requires : goal.unreachable-requires
unreachable-requires c =
    wants_more c.scan.new.sink _ _ (c.in_ok-exit.ensures.seen [] [] c.new-tokens.ensures) (c.in_ok-exit.ensures.done (subst (λ (o : Option LexExit). IsNone o) (sym c.in_default.is) refl))

pub returns : goal.returns
returns c =
    let is = scan_leads c.args.depth c.args.from.now c.from.inside.state c.args.bytes.now c.marks.result.now c.in-Some.exit (reading_of c.in_ok-outcome.outcome) c.arrived.result
    (record {
      state = ap (λ (p : PlaceValue). p.state) c.from.view_is;
      marks_are = c.marks.ensures ∙ ap (λ (t : TokenLists). t.marks) (c.in_ok-exit.ensures.seen [] [] c.new-tokens.ensures);
      exit = subst (λ (x : Option LexExit). IfSome x (λ e. exit_of e ≡ (lex c.from.inside.state 0 (slice_range c.args.bytes.now 0 (length c.args.bytes.now))).exit)) c.in-Some.is c.in_ok-exit.ensures.exit;
      reading = c.in_ok-outcome.ensures;
    })
    c.requires.within c.arrived.ensures in
    record { reads = is.0; within = is.1 }
