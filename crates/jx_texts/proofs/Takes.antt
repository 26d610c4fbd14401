-- A teller of texts takes bytes, and tells the end.
use Rattle.std.proofs.Common.{◌≡◌, ℕ, List, [], ◌∷◌, ◌++◌, Bool, true, false, refl, sym, ap, subst, ◌∙◌, append_assoc, append-nil}
use Rattle.std.specs.Prelude.{flat_map}
use Rattle.std.proofs.lemmas.Grind.{flat_map-append}
use Rattle.jx_ends.specs.declared.exit.Exit.{Exit}
use Rattle.jx_ends.specs.declared.exit.Exit.TheVariants.{Good}
use Rattle.jx_words.specs.Verdicts.{shown_output}
use Rattle.jx_texts.specs.declared.judged_text.JudgedText.{JudgedText}
use Rattle.jx_texts.specs.declared.task.TextsTask.{TextsTask}
use Rattle.jx_texts.specs.Output.{IsDue, TextsOutput, exit_past, exit_past_verdict, lines_of, text_line}
use Rattle.jx_texts.specs.Reading.{HasTold, TextReaderValue}
use Rattle.jx_texts.specs.Texts.{AreSettled, AreTexts}
use Rattle.jx_texts.specs.inside.TextTeller.{HasTaken, TextTellerValue}

-- ---- more texts

more_lines : (task : TextsTask) (a b : List JudgedText) → lines_of task (a ++ b) ≡ lines_of task a ++ lines_of task b
more_lines task a b = pick task.is_quiet
  where
    front : List ℕ
    front = task.front.items

    pick : (q : Bool) → shown_output q (flat_map (text_line front) (a ++ b)) ≡ shown_output q (flat_map (text_line front) a) ++ shown_output q (flat_map (text_line front) b)
    pick true = refl
    pick false = flat_map-append (text_line front) a b

more_exit : (exit : Exit) (a b : List JudgedText) → exit_past exit (a ++ b) ≡ exit_past (exit_past exit a) b
more_exit exit [] b = refl
more_exit exit (t ∷ a) b = more_exit (exit_past_verdict exit t.verdict) a b

pub no_lines : (task : TextsTask) → lines_of task [] ≡ []
no_lines task = pick task.is_quiet
  where
    pick : (q : Bool) → shown_output q [] ≡ []
    pick true = refl
    pick false = refl

pub one_line : (task : TextsTask) (t : JudgedText) → task.is_quiet ≡ false → lines_of task (t ∷ []) ≡ text_line task.front.items t
one_line task t loud = ap (λ (q : Bool). shown_output q (flat_map (text_line task.front.items) (t ∷ []))) loud ∙ append-nil (text_line task.front.items t)

pub quiet_line : (task : TextsTask) (told : List JudgedText) → task.is_quiet ≡ true → lines_of task told ≡ []
quiet_line task told quiet = ap (λ (q : Bool). shown_output q (flat_map (text_line task.front.items) told)) quiet

-- ---- a teller takes bytes

pub taken_none : (task : TextsTask) (t : TextTellerValue) → HasTold task.depth 0 [] [] t.texts → t.exit ≡ Good → t.ready ≡ [] → HasTaken task [] [] t
taken_none task t told good none = record { told = []; has_told = told; ends = good; written = none ∙ sym (no_lines task) }

pub takes : (task : TextsTask) (bytes more given : List ℕ) (a b : List JudgedText) (old new : TextTellerValue) → HasTaken task bytes given old
    → ((told : List JudgedText) → HasTold task.depth 0 bytes told old.texts → HasTold task.depth 0 (bytes ++ more) (told ++ (a ++ b)) new.texts)
    → new.ready ≡ (old.ready ++ lines_of task a) ++ lines_of task b → new.exit ≡ exit_past (exit_past old.exit a) b → HasTaken task (bytes ++ more) given new
takes task bytes more given a b old new h reads ready exit =
    record {
      told = h.told ++ (a ++ b);
      has_told = reads h.told h.has_told;
      ends =
          exit
          ∙ sym (more_exit old.exit a b)
          ∙ ap (λ (x : Exit). exit_past x (a ++ b)) h.ends
          ∙ sym (more_exit Good h.told (a ++ b));
      written =
          ap (λ (xs : List ℕ). given ++ xs) (ready ∙ append_assoc old.ready (lines_of task a) (lines_of task b) ∙ ap (λ (xs : List ℕ). old.ready ++ xs) (sym (more_lines task a b)))
          ∙ sym (append_assoc given old.ready (lines_of task (a ++ b)))
          ∙ ap (λ (xs : List ℕ). xs ++ lines_of task (a ++ b)) h.written
          ∙ sym (more_lines task h.told (a ++ b));
    }

-- what waits was written
pub gives : (task : TextsTask) (bytes given : List ℕ) (old new : TextTellerValue) → HasTaken task bytes given old → new.texts ≡ old.texts → new.exit ≡ old.exit → new.ready ≡ [] → HasTaken task bytes (given ++ old.ready) new
gives task bytes given old new h same exit none =
    record {
      told = h.told;
      has_told = subst (λ (r : TextReaderValue). HasTold task.depth 0 bytes h.told r) (sym same) h.has_told;
      ends = exit ∙ h.ends;
      written = ap (λ (xs : List ℕ). (given ++ old.ready) ++ xs) none ∙ append-nil (given ++ old.ready) ∙ h.written;
    }

pub due : ((limit at : ℕ) (bytes : List ℕ) (told : List JudgedText) (r : TextReaderValue) → HasTold limit at bytes told r → AreSettled limit at bytes told)
    → (task : TextsTask) (bytes given : List ℕ) (t : TextTellerValue) → HasTaken task bytes given t → IsDue task bytes (given ++ t.ready)
due law task bytes given t h = record { told = h.told; are_settled = law task.depth 0 bytes h.told t.texts h.has_told; written = h.written }

-- ---- the end

pub ends_with : (task : TextsTask) (bytes given ready : List ℕ) (last : List JudgedText) (old : TextTellerValue) (exit : Exit) → HasTaken task bytes given old
    → ((told : List JudgedText) → HasTold task.depth 0 bytes told old.texts → AreTexts task.depth 0 bytes (told ++ last))
    → ready ≡ old.ready ++ lines_of task last → exit ≡ exit_past old.exit last → TextsOutput task bytes (given ++ ready) exit
ends_with task bytes given ready last old exit h texts same e =
    record {
      told = h.told ++ last;
      are_texts = texts h.told h.has_told;
      written =
          ap (λ (xs : List ℕ). given ++ xs) same
          ∙ sym (append_assoc given old.ready (lines_of task last))
          ∙ ap (λ (xs : List ℕ). xs ++ lines_of task last) h.written
          ∙ sym (more_lines task h.told last);
      ends = e ∙ ap (λ (x : Exit). exit_past x last) h.ends ∙ sym (more_exit Good h.told last);
    }
