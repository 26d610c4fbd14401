use Rattle.std.proofs.Common.{ℕ, List, [], ◌∷◌, ◌++◌, append_assoc, sym, ap, ◌∙◌}
use Rattle.std.proofs.lemmas.Result.{IfOk-weaker}
use Rattle.jx_index.specs.declared.units.Spelling.TheVariants.{InText}
use Rattle.jx_index.specs.Units.{chars_units}
use Rattle.jx_names.specs.inside.NameBytes.{by_two}
use Rattle.jx_names.proofs.Spellings.{ascii_bytes, other_bytes}
use Rattle.jx_names.proofs.name_bytes.add_units.Goals as goal

pub returns-then-is_ascii : goal.returns-then-is_ascii
returns-then-is_ascii c =
    let units = chars_units InText 0 c.args.bytes.now in
    IfOk-weaker c.add_ascii.result _ _ (λ _ e. e ∙ ap (λ (bs : List ℕ). c.args.kept.now.items ++ bs) (sym (ascii_bytes units (sym c.is_ascii.ensures ∙ c.if-is_ascii.true)))) c.add_ascii.ensures

pub returns : goal.returns
returns c =
    let units = chars_units InText 0 c.args.bytes.now in
    IfOk-weaker c.add_by_two.result _ _
    (λ _ e.
    e
    ∙ ap (λ (bs : List ℕ). bs ++ by_two units) c.in_ok-push.ensures.items
    ∙ append_assoc c.args.kept.now.items (0xff ∷ []) (by_two units)
    ∙ ap (λ (bs : List ℕ). c.args.kept.now.items ++ bs) (sym (other_bytes units (sym c.is_ascii.ensures ∙ c.if-is_ascii.false))))
    c.add_by_two.ensures
