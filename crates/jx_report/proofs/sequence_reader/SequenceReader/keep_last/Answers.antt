use Rattle.std.proofs.Common.{◌≡◌, List, ℕ, ◌++◌, ap, sym, ◌∙◌, append_assoc}
use Rattle.jx_run.specs.declared.texts.settings.NameRule.TheVariants.{Any, Unique}
use Rattle.jx_report.proofs.sequence_reader.SequenceReader.keep_last.Goals as goal

pub returns-in-Any-clause-held : goal.returns-in-Any-clause-held
returns-in-Any-clause-held c = λ text h unique. (let both : Any ≡ Unique = sym c.in-Any.is ∙ unique in absurd (cc))

pub returns-in_ok-extend_from_slice-in-Unique-clause-held : goal.returns-in_ok-extend_from_slice-in-Unique-clause-held
returns-in_ok-extend_from_slice-in-Unique-clause-held c = λ text h unique.
    let f = h unique in
    let bytes = c.args.bytes.now in (
      f.0,
      ap (λ (xs : List ℕ). xs ++ bytes) f.1 ∙ append_assoc f.0 c.args.self.now.last.items bytes ∙ ap (λ (xs : List ℕ). f.0 ++ xs) (sym c.in_ok-extend_from_slice-in-Unique.ensures.items),
      f.2,
    )
