-- Names that are told by their bytes, and what was met when all tokens of a text had been told.
use Rattle.std.proofs.Common.{◌≡◌, ℕ, zero, suc, ◌-◌, ◌≤◌, List, length, drop, map, refl, sym, ap, subst, ◌∙◌, arith, Bool, true, false, Option, None, Some}
use Rattle.std.specs.Prelude.{◌==◌, All, Result, slice_range}
use Rattle.std.specs.List.{AllZip}
use Rattle.std.proofs.lemmas.Bool.Decides.{nat_tests}
use Rattle.std.proofs.lemmas.List.{length-drop, take_all}
use Rattle.jx_lex.specs.declared.alphabet.mark.MarkKind.{MarkKind}
use Rattle.jx_lex.specs.declared.alphabet.mark.MarkKind.TheVariants as mark
use Rattle.jx_lex.specs.declared.alphabet.state.LexState.TheVariants as state
use Rattle.jx_lex.specs.Lex.{lex, Track}
use Rattle.jx_run.specs.declared.texts.settings.Front.TheVariants.{Skip}
use Rattle.jx_run.specs.declared.texts.settings.Settings.{Settings}
use Rattle.jx_run.specs.declared.texts.verdict.Verdict.TheVariants.{Accepted}
use Rattle.jx_run.specs.Front.{front_of}
use Rattle.jx_run.specs.Telling.{IsAcceptedFrom, tokens_by}
use Rattle.jx_run.specs.Text.{IsText}
use Rattle.jx_run.specs.Tree.{span}
use Rattle.jx_run.specs.Verdict.{Judged}
use Rattle.jx_index.specs.declared.find_fault.FindFault.{FindFault}
use Rattle.jx_index.specs.declared.finder.Found.{Found}
use Rattle.jx_index.specs.declared.finder.Met.{Met}
use Rattle.jx_index.specs.declared.trie.Edge.{Edge}
use Rattle.jx_index.specs.declared.units.Spelling.TheVariants.{InText}
use Rattle.jx_index.specs.Found.{AreFoundIn}
use Rattle.jx_index.specs.Indexed.{IndexedValue}
use Rattle.jx_index.specs.Rows.{rows}
use Rattle.jx_index.specs.Settled.{IsIndexBy, IsIndexFrom, rest_from}
use Rattle.jx_index.specs.Units.{between_marks, chars_units, units_at}
use Rattle.jx_index.specs.inside.Finding.{Finding, met_at, naming, nothing_met}
use Rattle.jx_index.specs.inside.Seeking.{IsReadOf}
use Rattle.jx_index.specs.inside.Trie.{HasWay, IsTrie, child_at, is_name_next, member_at, seek_all, sought, sought_in, string_among}
use Rattle.jx_index.proofs.ReadMet.{HaveMetAll, each_found}
use Rattle.jx_index.proofs.Readings.{tree_of}
use Rattle.jx_index.proofs.Showing.{shows_all, shows_nothing}
use Rattle.jx_index.proofs.Tokens.{TokensAreRead}

-- ---- names by their bytes

whole : (w : List ℕ) → slice_range w 0 (length w) ≡ w
whole w = take_all _ w (omega arith)

same_units : (text name : List ℕ) (at end : ℕ) → slice_range text at end ≡ name → units_at name (span 0 (length name)) ≡ units_at text (span at end)
unfolding units_at
same_units text name at end e = ap (λ (w : List ℕ). chars_units InText 0 (between_marks w)) (whole name ∙ sym e)

at_name : (text : List ℕ) (edges : List Edge) (f : Finding) (node at end : ℕ) (n : ℕ) → f.skipped ≡ n → n ≡ 0 → naming f.opened f.name ≡ Some node
    → record f { name = Some (member_at text edges node (Some (span at end))) } ≡ sought_in n text edges mark.String at end f
at_name text edges f node at end zero s z e = ap (λ (o : Option ℕ). string_among o text edges (span at end) f) (sym e)
at_name text edges f node at end (suc n) s z e = absurd (omega (arith, z))

pub name_told : (text name : List ℕ) (edges : List Edge) (f : Finding) (node at end : ℕ) (found : Option ℕ) → f.skipped ≡ 0 → naming f.opened f.name ≡ Some node → slice_range text at end ≡ name
    → found ≡ member_at name edges node (Some (span 0 (length name))) → record f { name = Some found } ≡ sought text edges mark.String at end f
name_told text name edges f node at end found skips e is found_is =
    ap (λ (o : Option ℕ). record f { name = Some o }) (found_is ∙ ap (λ (us : List ℕ). child_at edges node us) (same_units text name at end is))
    ∙ at_name text edges f node at end f.skipped refl skips e

-- a string is a name only where nothing is skipped
pub none_skipped : (f : Finding) → is_name_next mark.String f ≡ true → f.skipped ≡ 0
none_skipped f h = pick (f.skipped == 0) refl h
  where
    pick : (x : Bool) → (f.skipped == 0) ≡ x → is_name_next mark.String f ≡ true → f.skipped ≡ 0
    pick true e g = grind (arith, nat_tests)
    pick false e g = absurd cc

-- where no name comes next, no text matters
no_name : (one other : List ℕ) (edges : List Edge) (at end : ℕ) (f : Finding) (n : ℕ) (o : Option ℕ) → f.skipped ≡ n → naming f.opened f.name ≡ o → is_name_next mark.String f ≡ false
    → sought_in n one edges mark.String at end f ≡ sought_in n other edges mark.String at end f
no_name one other edges at end f (suc n) o s e h = refl
no_name one other edges at end f zero None s e h =
    ap (λ (x : Option ℕ). string_among x one edges (span at end) f) e ∙ sym (ap (λ (x : Option ℕ). string_among x other edges (span at end) f) e)
no_name one other edges at end f zero (Some node) s e h = absurd (names (f.skipped == 0) refl (naming f.opened f.name) refl h)
  where
    names : (x : Bool) → (f.skipped == 0) ≡ x → (y : Option ℕ) → naming f.opened f.name ≡ y → is_name_next mark.String f ≡ false → ⊥
    names false q y r g = grind (arith, nat_tests)
    names true q None r g = cc
    names true q (Some m) r g = cc

in_state : (one other : List ℕ) (edges : List Edge) (k : MarkKind) (at end : ℕ) (f : Finding) (n : ℕ) → f.skipped ≡ n → is_name_next k f ≡ false
    → sought_in n one edges k at end f ≡ sought_in n other edges k at end f
in_state one other edges k at end f (suc n) s h = refl
in_state one other edges mark.String at end f zero s h = no_name one other edges at end f zero (naming f.opened f.name) s refl h
in_state one other edges mark.OpenArray at end f zero s h = refl
in_state one other edges mark.OpenObject at end f zero s h = refl
in_state one other edges mark.CloseArray at end f zero s h = refl
in_state one other edges mark.CloseObject at end f zero s h = refl
in_state one other edges mark.Colon at end f zero s h = refl
in_state one other edges mark.Comma at end f zero s h = refl
in_state one other edges mark.Number at end f zero s h = refl
in_state one other edges mark.True at end f zero s h = refl
in_state one other edges mark.False at end f zero s h = refl
in_state one other edges mark.Null at end f zero s h = refl

pub no_text : (one other : List ℕ) (edges : List Edge) (k : MarkKind) (at end : ℕ) (f : Finding) → is_name_next k f ≡ false → sought one edges k at end f ≡ sought other edges k at end f
no_text one other edges k at end f h = in_state one other edges k at end f f.skipped refl h

-- ---- all tokens

rest_is : (xs : List ℕ) (k : ℕ) → k ≤ length xs → drop k xs ≡ rest_from k xs
rest_is xs k le = sym (take_all (length xs - k) (drop k xs) (let e : length (drop k xs) ≡ length xs - k = length-drop k xs in omega (arith, e)))

module _ (settings : Settings) (bytes : List ℕ) (edges : List Edge) (trie : IsTrie edges) (met : List Met) (a : IsAcceptedFrom settings bytes)
    (met_is : met ≡ (seek_all bytes edges (length bytes) (tokens_by settings.mark bytes).marks (tokens_by settings.mark bytes).ends (nothing_met (length edges))).met) where
  abbrev track : Track
  track = lex state.Gap a.count (rest_from a.count bytes)

  tokens_are : tokens_by settings.mark bytes ≡ track
  tokens_are = a.tokens ∙ ap (lex state.Gap a.count) (rest_is bytes a.count a.within)

  have_met : HaveMetAll bytes edges (length bytes) track.marks track.ends met
  have_met = λ ts path way.
      let s = shows_all bytes edges trie ts path way (length bytes) track.marks track.ends 0 (nothing_met (length edges)) (nothing_met (length ts)) (shows_nothing bytes edges trie ts path way) in
      ap (λ (ms : List Met). map (met_at ms) path)
      (met_is ∙ ap (λ (t : Track). (seek_all bytes edges (length bytes) t.marks t.ends (nothing_met (length edges))).met) tokens_are)
      ∙ sym s.shows.met

  pub are_found : TokensAreRead → (pointers : List (List ℕ)) (found : List (Result Found FindFault)) → All (HasWay edges) pointers → AllZip (IsReadOf edges met) pointers found
      → ((i : IndexedValue) → front_of settings.mark bytes ≡ Skip a.count → IsIndexFrom a.count bytes settings.depth i → IsIndexBy settings bytes i)
      → ((i : IndexedValue) (x : IsIndexBy settings bytes i) → IsText i.text i.span.start i.span.end settings.depth x.tree) → AreFoundIn settings bytes pointers found
  are_found law pointers found ways reads indexes texts =
      let t = tree_of Accepted (subst (λ (xs : List ℕ). Judged a.count xs settings.depth Accepted) (rest_is bytes a.count a.within) a.judged) refl in
      let index : IndexedValue = record { text = bytes; span = span a.count (length bytes); rows = rows t.tree } in
      let by : IsIndexBy settings bytes index = indexes index a.front (record { text = refl; span = refl; tree = t.tree; is_text = t.is; rows_are = refl }) in
      record {
        tree = by.tree;
        is_text = by.is_text;
        found_are = each_found bytes (span a.count (length bytes)) a.within (omega arith) law settings.depth by.tree (texts index by) edges trie met have_met pointers found ways reads;
      }
