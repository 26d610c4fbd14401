use Rattle.std.proofs.Common.{Bool, [], ℕ, subst, true}
use Rattle.jx_run.specs.declared.texts.settings.Settings.{Settings}
use Rattle.jx_cmd_index.specs.inside.Saving.{ComesToSaved}
use Rattle.jx_cmd_index.proofs.index_at.read_index.Goals as goal

pub returns-clause-ok : goal.returns-clause-ok
returns-clause-ok g c =
    let all = c.in_ok-read_by_parts.ensures.read [] c.new-reader.ensures in
    let read = c.in_ok-read.read in
    let comes = c.in_ok-read.ensures (record { depth = c.args.settings.now.depth; is_quiet = true }) all.text all.read in (
      all.text,
      all.whole,
      subst (λ (b : Bool). ComesToSaved b c.args.settings.now c.args.chunk all.text read) c.requires.names
          (subst (λ (s : Settings). ComesToSaved g.K.Asked.has_names s c.args.chunk all.text read) c.requires.settings
          (subst (λ (n : ℕ). ComesToSaved g.K.Asked.has_names g.K.Asked.settings n all.text read) c.requires.chunk comes)),
    )
