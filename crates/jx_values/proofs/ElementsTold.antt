-- What a reporter on elements has taken, and what is due then.
use Rattle.std.specs.Prelude.{Bool, true, false, if◌then◌else◌}
use Rattle.std.proofs.Common.{◌≡◌, ℕ, List, [], ◌++◌, refl, sym, ap, subst, ◌∙◌}
use Rattle.jx_run.specs.declared.texts.settings.Settings.{Settings}
use Rattle.jx_run.specs.declared.texts.verdict.Verdict.{Verdict}
use Rattle.jx_run.specs.Settings.{JudgedBy}
use Rattle.jx_each.specs.declared.content.LineContent.{LineContent}
use Rattle.jx_each.specs.Due.{IsDueBy}
use Rattle.jx_each.specs.Each.{EachValue, HasTakenBy}
use Rattle.jx_ends.specs.declared.exit.Exit.{Exit}
use Rattle.jx_values.specs.declared.elements_teller.ElementsTeller.{ElementsTeller}
use Rattle.jx_values.specs.Elements.{IsDue, TellsByVerdict}
use Rattle.jx_values.specs.NameTexts.{Texts, no_texts, shown_as, text_run, told_of_lone}
use Rattle.jx_values.specs.Values.{exit_by}
use Rattle.jx_values.specs.inside.ElementsTeller.{HasEnded, HasMade, HasTaken, waiting}
use Rattle.jx_values.specs.inside.Showing.{ShowsAs, texts_of}
use Rattle.jx_values.specs.inside.Sought.{HasSought, any_names}
use Rattle.jx_values.proofs.NameTexts.{lone_all, shown_all, shows_after, shows_on}

-- what is taken is due
abbrev pub TakenIsDue : LineContent → Type 0
TakenIsDue content = (pointer bytes given : List ℕ) (each : EachValue) → HasTakenBy content pointer bytes given each → IsDueBy content each.reader.settings pointer bytes (given ++ each.ready)

module _ (by_texts : Bool) (content : LineContent) (settings : Settings) (pointer : List ℕ) where
  starts_as : (b : Bool) (t : Texts) → t ≡ no_texts → ShowsAs b t [] []
  starts_as true t none = none
  starts_as false t none = (refl, none)

  pub starts : (t : ElementsTeller) → HasTakenBy content pointer [] [] t.each → t.each.reader.settings ≡ settings → HasSought content (any_names settings) pointer [] t.sought
      → t.showing.by_texts ≡ by_texts → texts_of t.showing ≡ no_texts → t.told.items ≡ [] → t.each.ready ≡ [] → HasTaken by_texts content settings pointer [] [] t
  starts t taken by looked is none quiet ready = record {
    made = record { lines = []; taken = taken; by = by; looked = looked; shown = record { is = is; shows = starts_as by_texts (texts_of t.showing) none }; none_told = quiet };
    none_wait = λ _. ready;
  }

  module _ (bytes given : List ℕ) where
    -- bytes were read, and their lines made
    pub makes : (more : List ℕ) (old new : ElementsTeller) → HasMade by_texts content settings pointer bytes given old → new.showing ≡ old.showing → new.told.items ≡ old.told.items
        → new.each.reader.settings ≡ old.each.reader.settings
        → ((lines : List ℕ) → HasTakenBy content pointer bytes lines old.each → HasTakenBy content pointer (bytes ++ more) lines new.each)
        → (HasSought content (any_names settings) pointer bytes old.sought → HasSought content (any_names settings) pointer (bytes ++ more) new.sought)
        → HasMade by_texts content settings pointer (bytes ++ more) given new
    makes more old new h showing told same takes seeks = record {
      lines = h.lines;
      taken = takes h.lines h.taken;
      by = same ∙ h.by;
      looked = seeks h.looked;
      shown = record { is = ap (λ s. s.by_texts) showing ∙ h.shown.is; shows = subst (λ s. ShowsAs by_texts (texts_of s) h.lines given) (sym showing) h.shown.shows };
      none_told = told ∙ h.none_told;
    }

    -- the lines stay as they were made
    pub as_made : (t : ElementsTeller) → t.showing.by_texts ≡ false → HasMade by_texts content settings pointer bytes given t → HasTaken by_texts content settings pointer bytes given t
    as_made t lines h = record { made = h; none_wait = λ texts. let e : true ≡ false = sym (h.shown.is ∙ texts) ∙ lines in absurd cc }

    -- their texts were taken in
    pub as_texts : (old new : ElementsTeller) → old.showing.by_texts ≡ true → HasMade by_texts content settings pointer bytes given old
        → new.showing.by_texts ≡ old.showing.by_texts → texts_of new.showing ≡ text_run (texts_of old.showing) old.each.ready → new.told.items ≡ old.told.items → new.sought ≡ old.sought
        → new.each.reader ≡ old.each.reader → new.each.ready ≡ []
        → ((lines : List ℕ) → HasTakenBy content pointer bytes lines old.each → HasTakenBy content pointer bytes (lines ++ old.each.ready) new.each)
        → HasTaken by_texts content settings pointer bytes given new
    as_texts old new texts h same run told sought reader ready gives = record {
      made = record {
        lines = h.lines ++ old.each.ready;
        taken = gives h.lines h.taken;
        by = ap (λ r. r.settings) reader ∙ h.by;
        looked = subst (λ f. HasSought content (any_names settings) pointer bytes f) (sym sought) h.looked;
        shown = record { is = same ∙ h.shown.is; shows = shows_on by_texts (texts_of old.showing) (texts_of new.showing) h.lines given old.each.ready (sym h.shown.is ∙ texts) run h.shown.shows };
        none_told = told ∙ h.none_told;
      };
      none_wait = λ _. ready;
    }

    -- ---- what waits

    module _ (t : ElementsTeller) (h : HasTaken by_texts content settings pointer bytes given t) where
      written : given ++ waiting t ≡ shown_as by_texts (h.made.lines ++ t.each.ready)
      written = subst (λ (b : Bool). given ++ (if b then t.showing.ready.items else t.each.ready) ≡ shown_as by_texts (h.made.lines ++ t.each.ready)) (sym h.made.shown.is)
          (shown_all (texts_of t.showing) h.made.lines given t.each.ready by_texts h.none_wait h.made.shown.shows)

      due_lines : TakenIsDue content → IsDueBy content settings pointer bytes (h.made.lines ++ t.each.ready)
      due_lines law = subst (λ (s : Settings). IsDueBy content s pointer bytes (h.made.lines ++ t.each.ready)) h.made.by (law pointer bytes h.made.lines t.each h.made.taken)

      pub due : TakenIsDue content → IsDue by_texts content settings pointer bytes (given ++ waiting t)
      due law = record { lines = h.made.lines ++ t.each.ready; due = due_lines law; written = written }

      -- it was written
      pub clears : (new : ElementsTeller) → new.showing.by_texts ≡ t.showing.by_texts → texts_of new.showing ≡ record { part = t.showing.part.items; lines = []; lone = t.showing.has_lone }
          → new.told.items ≡ [] → new.sought ≡ t.sought → new.each.reader ≡ t.each.reader → new.each.ready ≡ []
          → ((lines : List ℕ) → HasTakenBy content pointer bytes lines t.each → HasTakenBy content pointer bytes (lines ++ t.each.ready) new.each)
          → HasTaken by_texts content settings pointer bytes (given ++ waiting t) new
      clears new same texts told sought reader ready gives = record {
        made = record {
          lines = h.made.lines ++ t.each.ready;
          taken = gives h.made.lines h.made.taken;
          by = ap (λ r. r.settings) reader ∙ h.made.by;
          looked = subst (λ f. HasSought content (any_names settings) pointer bytes f) (sym sought) h.made.looked;
          shown = record {
            is = same ∙ h.made.shown.is;
            shows =
                subst (λ (u : Texts). ShowsAs by_texts u (h.made.lines ++ t.each.ready) (given ++ waiting t)) (sym texts)
                (subst (λ (b : Bool). ShowsAs by_texts (record { part = t.showing.part.items; lines = []; lone = t.showing.has_lone }) (h.made.lines ++ t.each.ready) (given ++ (if b then t.showing.ready.items else t.each.ready))) (sym h.made.shown.is)
                (shows_after (texts_of t.showing) h.made.lines given t.each.ready by_texts h.none_wait h.made.shown.shows));
          };
          none_told = told;
        };
        none_wait = λ _. ready;
      }

      -- the whole input was taken
      pub ends : TakenIsDue content → (new : ElementsTeller) (verdict : Verdict) (said : List ℕ) (exit : Exit) → new.showing ≡ t.showing → new.each ≡ t.each
          → ((pointer bytes given : List ℕ) → HasTakenBy content pointer bytes given t.each → JudgedBy t.each.reader.settings 0 bytes verdict)
          → ((text given : List ℕ) → HasTakenBy content pointer text given t.each → HasSought content (any_names t.each.reader.settings) pointer text t.sought → JudgedBy t.each.reader.settings 0 text verdict
          → TellsByVerdict content t.each.reader.settings pointer text verdict said)
          → new.told.items ≡ told_of_lone pointer t.showing.has_lone ++ said
          → exit ≡ exit_by new.told.items
          → HasEnded by_texts content settings pointer bytes given exit new
      ends law new verdict said exit showing each judged tells all is =
          let m = h.made in
          let verdict_is : JudgedBy t.each.reader.settings 0 bytes verdict = judged pointer bytes m.lines m.taken in
          let told : TellsByVerdict content t.each.reader.settings pointer bytes verdict said =
          tells bytes m.lines m.taken (subst (λ (s : Settings). HasSought content (any_names s) pointer bytes t.sought) (sym m.by) m.looked) verdict_is in
          record {
            lines = m.lines ++ t.each.ready;
            answer = record {
              due = due_lines law;
              verdict = verdict;
              is_verdict = subst (λ (s : Settings). JudgedBy s 0 bytes verdict) m.by verdict_is;
              said = said;
              told = subst (λ (s : Settings). TellsByVerdict content s pointer bytes verdict said) m.by told;
              all_told = all ∙ ap (λ (is : Bool). told_of_lone pointer is ++ said) (lone_all (texts_of t.showing) m.lines given t.each.ready by_texts h.none_wait m.shown.shows);
              ends = is;
            };
            written = subst (λ s. given ++ (if s.by_texts then s.ready.items else new.each.ready) ≡ shown_as by_texts (m.lines ++ t.each.ready)) (sym showing)
                (subst (λ (e : EachValue). given ++ (if t.showing.by_texts then t.showing.ready.items else e.ready) ≡ shown_as by_texts (m.lines ++ t.each.ready)) (sym each) written);
          }
