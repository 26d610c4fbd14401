-- What a look-up that was fed comes to.
use Rattle.std.proofs.Common.{List, ℕ, Ok, Err, inr}
use Rattle.std.specs.Prelude.{IfErr, IfOk, MatchResult}
use Rattle.jx_run.specs.declared.texts.settings.Settings.{Settings}
use Rattle.jx_run.specs.declared.texts.verdict.Verdict.TheVariants.{Accepted, Refused}
use Rattle.jx_index.specs.ByNames.{IsVerdictBy}
use Rattle.jx_index.specs.Found.{AreFoundIn}
use Rattle.jx_find.specs.Finder.{HasFed}
use Rattle.jx_find.specs.declared.finder.Finder.{Finder}
use Rattle.jx_c.specs.LookUps.{AreFoundBy}
use Rattle.jx_c.proofs.Alls.{ReadOf}
use Rattle.jx_c.proofs.AnyNames.{each_found}

pub is_read : (settings : Settings) (pointers : List (List ℕ)) (text : List ℕ) (f : Finder) → HasFed settings pointers text f → (r : ReadOf)
    → IfOk r (λ _. (s : Settings) (ps : List (List ℕ)) (t : List ℕ) → HasFed s ps t f → IsVerdictBy s t Accepted)
    → IfErr r (λ refusal. (s : Settings) (ps : List (List ℕ)) (t : List ℕ) → HasFed s ps t f → IsVerdictBy s t (Refused refusal))
    → IfOk r (λ found. (s : Settings) (ps : List (List ℕ)) (t : List ℕ) → HasFed s ps t f → AreFoundIn s t ps found.items)
    → MatchResult r (λ found. AreFoundBy settings text pointers found.items) (λ refusal. IsVerdictBy settings text (Refused refusal))
is_read settings pointers text f h (Ok found) accepted refused there =
    let a = accepted settings pointers text h in
    let all = there settings pointers text h in
    each_found settings text (inr a) all.tree all.is_text a pointers found.items all.found_are
is_read settings pointers text f h (Err refusal) accepted refused there = refused settings pointers text h
