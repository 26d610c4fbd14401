-- What was written and told is what `get` writes and tells of the text that was indexed.
use Rattle.std.specs.Prelude.{◌≢◌, Option}
use Rattle.std.specs.List.{AllZip}
use Rattle.std.proofs.Common.{◌≡◌, ℕ, zero, suc, ◌≤◌, List, [], ◌∷◌, length, take, min, refl, sym, ap, subst, ◌∙◌, arith, Bool, false}
use Rattle.std.proofs.lemmas.List.{take_all}
use Rattle.std.specs.Io.KnownBytes.{Appends}
use Rattle.jx_run.specs.declared.texts.verdict.Verdict.TheVariants.{Accepted}
use Rattle.jx_file_index.specs.declared.index.Index.{Index}
use Rattle.jx_ends.specs.declared.exit.Exit.{Exit}
use Rattle.jx_words.specs.declared.pointer_answer.PointerAnswer.{PointerAnswer}
use Rattle.jx_words.specs.Pointers.{IsAnswerTo}
use Rattle.jx_values.specs.declared.form.Form.{Form}
use Rattle.jx_values.specs.Values.{exit_by, told_lines}
use Rattle.jx_cmd_index.specs.declared.look_fault.LookFault.{LookFault}
use Rattle.jx_cmd_index.specs.declared.look_fault.LookFault.TheVariants.{Changed, Memory, NoText, OtherSize, Saved, SavedRead, TextRead, Write}
use Rattle.jx_cmd_index.specs.inside.Looked.{AreAnswersBySaved, IsReadOf}
use Rattle.jx_cmd_index.specs.PlaceReports.{FailsFor, IsOfText}
use Rattle.jx_cmd_index.specs.inside.ValueLines.{AreLinesOf, BeganSome, WroteAll, WroteSome}
use Rattle.jx_cmd_index.specs.inside.Texts.{IsChangeIn}
use Rattle.jx_cmd_index.specs.ValueReports.{AreValues, WritesFirst, WritesFirstInPart, WritesValues}

zip_take : {A B : Type 0} (R : A → B → Type 0) (n : ℕ) (xs : List A) (ys : List B) → AllZip R xs ys → AllZip R (take n xs) (take n ys)
zip_take R zero xs ys h = tt
zip_take R (suc n) [] [] h = tt
zip_take R (suc n) [] (y ∷ ys) h = absurd h
zip_take R (suc n) (x ∷ xs) [] h = absurd h
zip_take R (suc n) (x ∷ xs) (y ∷ ys) h = (h.0, zip_take R n xs ys h.1)

zip_long : {A B : Type 0} (R : A → B → Type 0) (xs : List A) (ys : List B) → AllZip R xs ys → length xs ≡ length ys
zip_long R [] [] h = refl
zip_long R [] (y ∷ ys) h = absurd h
zip_long R (x ∷ xs) [] h = absurd h
zip_long R (x ∷ xs) (y ∷ ys) h = ap suc (zip_long R xs ys h.1)

module _ (form : Form) (pointers : List (List ℕ)) (saved content : Option (List ℕ)) (index : Index) (answers : List PointerAnswer) (read : IsReadOf saved index) (answered : AreAnswersBySaved pointers saved content answers) where
  -- of the first of the pointers, so many
  pub values : (n : ℕ) (lines told : List ℕ) → AreLinesOf content index form pointers answers n lines told → AreValues form (take n pointers) saved content lines told (exit_by told)
  values n lines told are = λ task chunk text bytes file spelt s of is tells.
      let a = answered task.settings chunk text bytes file s of is tells in
      let i = read task.settings chunk text bytes s of in
      record {
        verdict = Accepted;
        is_verdict = s.accepted;
        gives = record {
          tree = a.tree;
          is_text = a.is_text;
          answers = take n answers;
          are_answers = subst (λ (ps : List (List ℕ)). AllZip (IsAnswerTo text a.tree) ps (take n answers)) (sym spelt) (zip_take (IsAnswerTo text a.tree) n pointers answers a.are_answers);
          written = are.lines_are task.settings chunk text file i is tells;
          told = are.told_is task.settings chunk text file i is tells ∙ ap (λ (ps : List (List ℕ)). told_lines form text ps (take n answers)) (sym spelt);
        };
        ends = refl;
      }

  -- of all of them, since each has an answer
  all_values : (n : ℕ) (lines told : List ℕ) → min (length pointers) (length answers) ≤ n → AreLinesOf content index form pointers answers n lines told → AreValues form pointers saved content lines told (exit_by told)
  all_values n lines told enough are = λ task chunk text bytes file spelt s of is tells.
      let a = answered task.settings chunk text bytes file s of is tells in
      let long : length pointers ≡ length answers = zip_long (IsAnswerTo text a.tree) pointers answers a.are_answers in
      let all : take n pointers ≡ pointers = take_all n pointers (omega (arith, long, enough)) in
      values n lines told are task chunk text bytes file (spelt ∙ sym all) s of is tells

  pub writes : (told : List ℕ) (exit : Exit) (old new : Option (List ℕ)) (is_lost : Bool) (before after : Option (List ℕ)) → WroteAll content index form pointers answers told old new
      → exit ≡ exit_by told → (is_lost ≡ false → Appends before after told) → WritesValues form pointers saved content old new is_lost before after exit
  writes told exit old new is_lost before after h e says = record {
    output = h.wrote.lines;
    tells = told;
    are_values = subst (λ (x : Exit). AreValues form pointers saved content h.wrote.lines told x) (sym e) (all_values h.count h.wrote.lines told h.all h.wrote.are);
    wrote = h.wrote.wrote;
    says = says;
  }

  pub writes_first : (old new : Option (List ℕ)) → WroteSome content index form pointers answers old new → WritesFirst form pointers saved content old new
  writes_first old new h = record {
    count = h.count;
    output = h.wrote.lines;
    tells = h.told;
    exit = exit_by h.told;
    are_values = values h.count h.wrote.lines h.told h.wrote.are;
    wrote = h.wrote.wrote;
  }

  pub begins : (old new : Option (List ℕ)) → BeganSome content index form pointers answers old new → WritesFirstInPart form pointers saved content old new
  begins old new h = record {
    count = h.count;
    output = h.lines;
    tells = h.told;
    exit = exit_by h.told;
    are_values = values h.count h.lines h.told h.are;
    wrote = h.wrote;
  }

-- ---- faults

pub fails : (saved content : Option (List ℕ)) (index : Index) (fault : LookFault) → IsReadOf saved index → (fault ≢ Write → IsOfText fault) → IsChangeIn content index fault → FailsFor saved content fault
fails saved content index SavedRead read of change = tt
fails saved content index TextRead read of change = tt
fails saved content index Write read of change = tt
fails saved content index Memory read of change = tt
fails saved content index (Saved fault) read of change = tt
fails saved content index (OtherSize size indexed) read of change = absurd (of (λ e. absurd cc))
fails saved content index (Changed span) read of change = λ settings chunk text bytes file s e is tells. change settings chunk text file (read settings chunk text bytes s e) is tells
fails saved content index NoText read of change = λ settings chunk text bytes file s e is tells. change settings chunk text file (read settings chunk text bytes s e) is tells
