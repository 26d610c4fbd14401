use Rattle.std.proofs.Common.{Bool, [], ℕ, ap, refl, subst, sym, ◌∙◌}
use Rattle.jx_run.specs.declared.texts.settings.Settings.{Settings}
use Rattle.jx_cmd_index.specs.inside.Saving.{IsSavingOf}
use Rattle.jx_cmd_index.proofs.index_reader.IndexReader.new.Goals as goal

pub returns : goal.returns
returns g c =
    let k = g.K.Asked.settings in
    let saving = c.new.result in
    record {
      depth = c.requires.depth ∙ sym (ap (λ (s : Settings). s.depth) c.requires.settings);
      saving_is =
          subst (λ (b : Bool). IsSavingOf b k g.K.Asked.chunk [] saving) (sym c.requires.names)
          (subst (λ (s : Settings). IsSavingOf c.args.has_names s g.K.Asked.chunk [] saving) (sym c.requires.settings)
          (subst (λ (n : ℕ). IsSavingOf c.args.has_names c.args.settings.now n [] saving) (sym c.requires.chunk) c.new.ensures));
      count_is = refl;
    }
