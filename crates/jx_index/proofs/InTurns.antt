-- A reader that has read nothing stands between tokens.
use Rattle.std.proofs.Common.{◌≡◌, ℕ, [], sym, ap, subst, ◌∙◌, false, Option, None, Some}
use Rattle.std.specs.Prelude.{is_some}
use Rattle.jx_lex.specs.declared.alphabet.mark.Mark.{Mark}
use Rattle.jx_lex.specs.Lex.{lex}
use Rattle.jx_run.specs.declared.texts.settings.FrontMark.{FrontMark}
use Rattle.jx_run.specs.declared.texts.settings.FrontMark.TheVariants as on_mark
use Rattle.jx_run.specs.Reader.{HasRead, ReaderValue, read_by}
use Rattle.jx_run.specs.Reading.{read}
use Rattle.jx_run.specs.Telling.{AwaitsBehind}
use Rattle.jx_index.specs.inside.InTurn.{AreInTurn, IsInTurn}

awaits_first : (m : FrontMark) (limit start : ℕ) (begun : Option Mark) → is_some begun ≡ false → AwaitsBehind (λ inside. is_some begun ≡ inside) (read_by m limit start [])
unfolding read lex
awaits_first on_mark.Refused limit start begun none = none
awaits_first on_mark.Ignored limit start begun none = none

pub first_turn : (r : ReaderValue) (begun : Option Mark) → HasRead [] r → is_some begun ≡ false → IsInTurn r.outcome begun
first_turn r begun h none = λ came is.
    let both : Some (read_by r.settings.mark r.settings.depth r.start []) ≡ Some came = sym h.outcome ∙ is in
    let same : read_by r.settings.mark r.settings.depth r.start [] ≡ came = cc in
    subst (AwaitsBehind (λ inside. is_some begun ≡ inside)) same (awaits_first r.settings.mark r.settings.depth r.start begun none)

pub all_first : {H : Type 0} (begun : H → Option Mark) (r : ReaderValue) (held : H) → HasRead [] r → begun held ≡ None → AreInTurn begun r.outcome (Some held)
all_first {H} begun r held h none = λ x is.
    let same : held ≡ x = cc in
    first_turn r (begun x) h (ap (λ (y : H). is_some (begun y)) (sym same) ∙ ap is_some none)
