-- The number of line feeds is that of elements.
use Rattle.std.specs.Prelude.{◌==◌, IfSome, Option, Some, SomeIff, None, decimal, flat_map}
use Rattle.std.specs.Io.KnownBytes.{Appends}
use Rattle.std.proofs.Common.{◌≡◌, ℕ, zero, suc, ◌+◌, List, [], ◌∷◌, ◌++◌, length, Bool, true, false, ◌<◌, refl, sym, ap, subst, ◌∙◌, arith}
use Rattle.std.proofs.lemmas.Bool.{and_parts, eqb-true}
use Rattle.std.proofs.lemmas.List.{append-nil}
use Rattle.jx_run.specs.declared.texts.settings.Settings.{Settings}
use Rattle.jx_run.specs.declared.texts.verdict.Verdict.{Verdict}
use Rattle.jx_run.specs.declared.texts.verdict.Verdict.TheVariants.{Accepted, Refused}
use Rattle.jx_run.specs.Settings.{IsDocumentBy}
use Rattle.jx_run.specs.Tree.{Tree}
use Rattle.jx_index.specs.Pointers.{tokens}
use Rattle.jx_ends.specs.declared.exit.Exit.{Exit}
use Rattle.jx_ends.specs.declared.exit.Exit.TheVariants.{Good, Bad}
use Rattle.jx_ends.specs.Ends.{AppendsBeginning}
use Rattle.jx_words.specs.Words.{line, refusal_words}
use Rattle.jx_each.specs.declared.content.LineContent.TheVariants.{Empty}
use Rattle.jx_each.specs.Due.{Element, IsDueBy, all_lines_by, element_line, elements_at}
use Rattle.jx_drive.specs.Reports.{ReportsAll}
use Rattle.jx_values.specs.Counts.{IsCounted, ToldCount, WroteCountInPart, count_line}
use Rattle.jx_values.specs.Elements.{TellsByVerdict, ToldOutput}
use Rattle.jx_values.specs.Values.{exit_by}
use Rattle.jx_values.specs.inside.Tally.{all_line_feeds, line_feeds, number_by}

-- ---- line feeds

pub line_feeds_more : (m : ℕ) (xs : List ℕ) → all_line_feeds xs ≡ true → line_feeds (m + length xs) ≡ line_feeds m ++ xs
line_feeds_more m [] all = ap line_feeds (let e : m + 0 ≡ m = omega arith in e) ∙ sym (append-nil (line_feeds m))
line_feeds_more zero (x ∷ xs) all =
    let parts = and_parts (x == 0x0a) (all_line_feeds xs) all in
    ap line_feeds (let e : 0 + suc (length xs) ≡ suc (0 + length xs) = omega arith in e)
    ∙ ap (λ (l : List ℕ). 0x0a ∷ l) (line_feeds_more zero xs parts.1)
    ∙ ap (λ (b : ℕ). b ∷ xs) (sym (eqb-true x 0x0a parts.0))
line_feeds_more (suc m) (x ∷ xs) all =
    ap line_feeds (let e : suc m + suc (length xs) ≡ suc (m + suc (length xs)) = omega arith in e)
    ∙ ap (λ (l : List ℕ). 0x0a ∷ l) (line_feeds_more m (x ∷ xs) all)

pub counted_with : (o : Option ℕ) (P : Type 0) (m : ℕ) (xs : List ℕ) → all_line_feeds xs ≡ true → SomeIff o P (m + length xs) → IfSome o (λ (more : ℕ). line_feeds more ≡ line_feeds m ++ xs)
counted_with None P m xs all s = tt
counted_with (Some n) P m xs all s = ap line_feeds s.1 ∙ line_feeds_more m xs all

length_of_line_feeds : (n : ℕ) → length (line_feeds n) ≡ n
length_of_line_feeds zero = refl
length_of_line_feeds (suc n) = ap suc (length_of_line_feeds n)

empty_lines : (text : List ℕ) (es : List Element) → flat_map (element_line Empty text) es ≡ line_feeds (length es)
empty_lines text [] = refl
empty_lines text (e ∷ es) = ap (λ (l : List ℕ). 0x0a ∷ l) (empty_lines text es)

-- ---- where nothing is reported

-- a refused input is reported
line_is_some : (words : List ℕ) → line words ≡ [] → ⊥
line_is_some [] h = absurd (cc)
line_is_some (b ∷ words) h = absurd (cc)

good_tells : (tells : List ℕ) → Good ≡ exit_by tells → tells ≡ []
good_tells [] h = refl
good_tells (b ∷ tells) h = absurd (cc)

a_text : (settings : Settings) (pointer text tells : List ℕ) (verdict : Verdict) → TellsByVerdict Empty settings pointer text verdict tells → tells ≡ [] → (tree : Tree) × IsDocumentBy settings 0 text tree
a_text settings pointer text tells Accepted told none = (told.0, told.1)
a_text settings pointer text tells (Refused refusal) told none = absurd (line_is_some (refusal_words refusal) (sym told ∙ none))

abbrev pub AllDue : Settings → Type 0
AllDue settings = (pointer text output : List ℕ) (tree : Tree) → IsDocumentBy settings 0 text tree → IsDueBy Empty settings pointer text output → output ≡ all_lines_by Empty text pointer tree

module _ (settings : Settings) (pointer : List ℕ) (u l : Option (List ℕ)) (n : ℕ) (lost : Bool) (told retold : Option (List ℕ)) (law : AllDue settings) where
  abbrev Reports : Exit → Type 0
  Reports exit = ReportsAll (ToldOutput false Empty settings pointer lost told retold) u l (Some []) (Some (line_feeds n)) exit

  good_text : (r : Reports Good) → (tree : Tree) × IsDocumentBy settings 0 r.text tree
  good_text r =
      let a = r.answer.answer in
      a_text settings pointer r.text a.said a.verdict a.told (sym a.all_told ∙ good_tells r.answer.tells a.ends)

  good_count : (r : Reports Good) (tree : Tree) → IsDocumentBy settings 0 r.text tree → line (decimal n) ≡ count_line r.text pointer tree
  good_count r tree is_text =
      let es : List Element = elements_at Empty r.text (tokens pointer) tree in
      let made : line_feeds n ≡ line_feeds (length es) = r.wrote ∙ r.answer.written ∙ law pointer r.text r.answer.lines tree is_text r.answer.answer.due ∙ empty_lines r.text es in
      ap (λ (k : ℕ). line (decimal k)) (sym (length_of_line_feeds n) ∙ ap length made ∙ length_of_line_feeds (length es))

  counted : (exit : Exit) (r : Reports exit) → IsCounted settings pointer r.text exit (number_by exit n)
  counted Good r = let t = good_text r in (t.0, t.1, good_count r t.0 t.1)
  counted Bad r = refl

  pub reports_count : (w g : Option (List ℕ)) (exit : Exit) → Reports exit → Appends w g (number_by exit n) → ReportsAll (ToldCount settings pointer lost told retold) u l w g exit
  reports_count w g exit r wrote =
      let a = r.answer.answer in
      record {
        text = r.text;
        output = number_by exit n;
        read = r.read;
        answer = record {
          tells = r.answer.tells;
          answer = record { verdict = a.verdict; is_verdict = a.is_verdict; told = subst (λ (x : List ℕ). TellsByVerdict Empty settings pointer r.text a.verdict x) (sym a.all_told) a.told; ends = a.ends; counted = counted exit r };
          says = r.answer.says;
        };
        wrote = wrote;
      }

  pub count_in_part : (w g : Option (List ℕ)) (exit : Exit) → Reports exit → AppendsBeginning w g (number_by exit n) → WroteCountInPart settings pointer u l w g
  count_in_part w g Good r part =
      let t = good_text r in
      record { text = r.text; tree = t.0; read = r.read; is_text = t.1; wrote = subst (λ (x : List ℕ). AppendsBeginning w g x) (good_count r t.0 t.1) part }
  count_in_part w g Bad r part = absurd (let lt : part.0 < 0 = part.1 in omega (arith, lt))

  pub none_told : (exit : Exit) → Reports exit → exit ≡ Good → lost ≡ false → Appends told retold []
  none_told exit r good not_lost = subst (λ (x : List ℕ). Appends told retold x) (good_tells r.answer.tells (sym good ∙ r.answer.answer.ends)) (r.answer.says not_lost)

pub appends_none : (known : Option (List ℕ)) → Appends known known []
appends_none None = tt
appends_none (Some xs) = sym (append-nil xs)
