use Rattle.std.proofs.Common.{◌≡◌, subst, sym, ap, ◌∙◌}
use Rattle.std.specs.Prelude.{slice_range}
use Rattle.jx_maps.specs.declared.link.Link.TheVariants.{State}
use Rattle.jx_lex.specs.declared.alphabet.state.LexState.TheVariants as state
use Rattle.jx_maps.specs.inside.Passing.{KeptBy}
use Rattle.jx_maps.proofs.ReadingOn.{reads-first, reads-second}
use Rattle.jx_maps.proofs.two_tracks.read_plain.Goals as goal

pub returns-in-State-Str-clause-read : goal.returns-in-State-Str-clause-read
returns-in-State-Str-clause-read c =
    let w = slice_range c.args.text.now c.args.from c.plain_end-end.result in
    let stands : c.args.first.now.next ≡ State state.Str = sym c.next.ensures ∙ c.in-State-Str.is ∙ ap State c.in-State-Str.field-0-is in
    let kept : KeptBy c.args.first.now.next w = subst (λ g. KeptBy g w) (sym stands) c.plain_end-end.ensures.kept in
    rw c.in_ok-read_span.ensures (reads-second c.args.from w c.args.first.now c.args.second.now kept)

pub returns-in-State-Str-next-clause-read : goal.returns-in-State-Str-next-clause-read
returns-in-State-Str-next-clause-read c =
    let w = slice_range c.args.text.now c.args.from c.plain_end-end-in-State-Str-next.result in
    let stands : c.args.second.now.next ≡ State state.Str = sym c.next-2.ensures ∙ c.in-State-Str-next.is ∙ ap State c.in-State-Str-next.field-0-is in
    let kept : KeptBy c.args.second.now.next w = subst (λ g. KeptBy g w) (sym stands) c.plain_end-end-in-State-Str-next.ensures.kept in
    rw c.in_ok-read_span-2.ensures (reads-first c.args.from w c.args.first.now c.args.second.now kept)
