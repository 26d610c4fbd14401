-- Reports on words, one after another.
use Rattle.std.proofs.Common.{◌≡◌, ℕ, ◌+◌, ◌<◌, ◌≤◌, List, [], ◌∷◌, ◌++◌, Bool, true, false, Option, Some, length, map, take, drop, refl, sym, subst, ap, ◌∙◌, add-one}
use Rattle.std.specs.Borrow.{Bor}
use Rattle.std.specs.Prelude.{slice_get}
use Rattle.std.proofs.Math.Seq.{take-suc}
use Rattle.std.proofs.lemmas.List.{map-append, take-append-drop, take_all}
use Rattle.std.proofs.lemmas.Option.{get_or_from_slice_get}
use Rattle.std.specs.Io.KnownBytes.{Appends}
use Rattle.std.proofs.KnownBytes.{Appends-trans}
use Rattle.jx_task.specs.declared.command.Command.{Command}
use Rattle.jx_words.proofs.PutSteps.{put_in_part}
use Rattle.jx_files.specs.declared.status.Status.{Status}
use Rattle.jx_files.specs.Files.{Ways, AreReported, one_more, ReportsEach, ReportsFirst}
use Rattle.jx_files.specs.Status.{greatest}
use Rattle.jx_files.specs.inside.Parts.{ReportsOne, ReportsPart}

-- ---- words in turn

abbrev pub texts : List (Bor (List ℕ)) → List (List ℕ)
texts words = map (λ word. word.now) words

module _ (words : List (Bor (List ℕ))) (i : ℕ) (word : Bor (List ℕ)) (there : slice_get words i ≡ Some word) (within : i < length words) where
  -- the first words, and one more
  pub texts_more : texts (take (i + 1) words) ≡ texts (take i words) ++ word.now ∷ []
  texts_more =
      ap (λ (n : ℕ). texts (take n words)) (add-one i)
      ∙ ap texts (take-suc words i word within)
      ∙ ap (λ (w : Bor (List ℕ)). texts (take i words ++ w ∷ [])) (get_or_from_slice_get words i word word there)
      ∙ map-append (λ (w : Bor (List ℕ)). w.now) (take i words) (word ∷ [])

  -- and the rest
  pub texts_apart : texts words ≡ (texts (take i words) ++ word.now ∷ []) ++ texts (drop (i + 1) words)
  texts_apart =
      ap texts (sym (take-append-drop (i + 1) words))
      ∙ map-append (λ (w : Bor (List ℕ)). w.now) (take (i + 1) words) (drop (i + 1) words)
      ∙ ap (λ (front : List (List ℕ)). front ++ texts (drop (i + 1) words)) texts_more

pub texts_all : (words : List (Bor (List ℕ))) (i : ℕ) → length words ≤ i → texts (take i words) ≡ texts words
texts_all words i past = ap texts (take_all i words past)

-- ---- their reports

-- what is told of one word more
tells_more : (was_lost is_lost : Bool) (told then retold : Option (List ℕ)) (before more : List ℕ) → (was_lost ≡ true → is_lost ≡ true)
    → (was_lost ≡ false → Appends told then before) → (is_lost ≡ false → Appends then retold more) → is_lost ≡ false → Appends told retold (before ++ more)
tells_more true is_lost told then retold before more stays first second going = let lost : is_lost ≡ true = stays refl in cc
tells_more false is_lost told then retold before more stays first second going = Appends-trans told then retold before more (first refl) (second going)

module _ (ways : Ways) (command : Command) (words : List (List ℕ)) (word : List ℕ) where
  -- one word more
  pub word_more : (written then grown : Option (List ℕ)) (was_lost is_lost : Bool) (told between retold : Option (List ℕ)) (status next : Status)
      → ReportsEach ways command words written then was_lost told between status → ReportsOne ways command word then grown is_lost between retold next
      → (was_lost ≡ true → is_lost ≡ true) → (all : List (List ℕ)) → all ≡ words ++ word ∷ []
      → ReportsEach ways command all written grown is_lost told retold (greatest status next)
  word_more written then grown was_lost is_lost told between retold status next before one stays all is = record {
    output = before.output ++ one.output;
    tells = before.tells ++ one.tells;
    reported = subst (λ (ws : List (List ℕ)). AreReported ways command ws (before.output ++ one.output) (before.tells ++ one.tells) (greatest status next)) (sym is)
        (one_more before.reported word one.output one.tells next one.reported);
    wrote = Appends-trans written then grown before.output one.output before.wrote one.wrote;
    says = tells_more was_lost is_lost told between retold before.tells one.tells stays before.says one.says;
  }

  -- a part of one word more, of those that stand in front
  pub word_in_part : (written then grown : Option (List ℕ)) (was_lost : Bool) (told between : Option (List ℕ)) (status : Status)
      → ReportsEach ways command words written then was_lost told between status → ReportsPart ways command word then grown
      → (all rest : List (List ℕ)) → all ≡ (words ++ word ∷ []) ++ rest → ReportsFirst ways command all written grown
  word_in_part written then grown was_lost told between status before part all rest is = record {
    first = words ++ word ∷ [];
    rest = rest;
    are_first = is;
    output = before.output ++ part.output;
    tells = before.tells ++ part.tells;
    status = greatest status part.status;
    reported = one_more before.reported word part.output part.tells part.status part.reported;
    wrote = put_in_part written then part.output (before.output ++ part.output) (record { front = before.output; wrote = before.wrote; whole = refl }) grown part.wrote;
  }
