-- Where a reading stands behind the front of a text, by settings.
use Rattle.std.proofs.Common.{◌≡◌, ◌≤◌, ℕ, List, Option, None, Some, length, refl, rules, subst}
use Rattle.std.specs.Prelude.{IfOk, IfSome, Result, Ok, Err, slice_range}
use Rattle.jx_lex.specs.Lex.{lex}
use Rattle.jx_lex.specs.declared.alphabet.state.LexState.TheVariants.{Gap}
use Rattle.jx_run.specs.Front.{front_of}
use Rattle.jx_run.specs.declared.texts.settings.Front.TheVariants.{Skip}
use Rattle.jx_run.specs.declared.texts.settings.Settings.{Settings}
use Rattle.jx_sentence.specs.Sentences.{IsStanding}
use Rattle.jx_sentence.specs.Standing.{StandsBehind, last_at}
use Rattle.jx_sentence.specs.declared.standing.Standing.{Standing}

pub standing_from : {E : Type 0} (settings : Settings) (text : List ℕ) (from at : ℕ) (r : Result (Option Standing) E) → front_of settings.mark text ≡ Skip from → from ≤ at
    → at ≤ length text → IfOk r (λ found. IfSome found (λ s. StandsBehind settings.depth from (slice_range text from at) s))
    → IfOk r (λ found. IfSome found (λ s. s.token ≡ last_at from (lex Gap from (slice_range text from at)).marks))
    → IfOk r (λ found. found ≡ None → (s : Standing) → StandsBehind settings.depth from (slice_range text from at) s → ⊥) → IfOk r (IsStanding settings text at)
standing_from settings text from at (Ok (Some s)) front low high stands token none =
    record { from = from; front = front; within = (low, high); stands = stands; token = token }
standing_from settings text from at (Ok None) front low high stands token none = λ s is.
    let same : is.from ≡ from = cc in
    none refl s (subst (λ (f : ℕ). StandsBehind settings.depth f (slice_range text f at) s) same is.stands)
standing_from settings text from at (Err e) front low high stands token none = search rules
