-- What a reader of texts has told.
use Rattle.std.proofs.Common.{◌≡◌, ℕ, ◌+◌, List, [], ◌∷◌, ◌++◌, filter, length, Bool, true, false, cond, Option, Some, append_assoc, append-nil, refl, sym, ap, subst, ◌∙◌, inl, inr, ◌⊎◌, arith}
use Rattle.std.specs.Prelude.{◌&&◌, ◌||◌, not}
use Rattle.std.specs.List.{list_all}
use Rattle.std.proofs.lemmas.List.{length-append}
use Rattle.std.proofs.lemmas.List.Folds.{list_all-append}
use Rattle.jx_lex.specs.Uneventful.{is_blank}
use Rattle.jx_run.specs.declared.texts.verdict.Verdict.TheVariants.{Accepted}
use Rattle.jx_run.specs.Reader.{HasRead, ReaderValue}
use Rattle.jx_run.specs.Reader as reader
use Rattle.jx_run.specs.Text.{IsDocument}
use Rattle.jx_run.specs.Tree.{Tree}
use Rattle.jx_run.proofs.LawProofs.{Verdicts}
use Rattle.jx_texts.specs.declared.judged_text.JudgedText.{JudgedText}
use Rattle.jx_texts.specs.declared.text_reader.Stage.{Stage}
use Rattle.jx_texts.specs.declared.text_reader.Stage.TheVariants.{Between, Closed, Bare, Lost}
use Rattle.jx_texts.specs.Texts.{AreBlanks, AreSettled, AreTexts, Divided, Ended, HasEnded, IsBare, Last, NextHasEnded, NoneHasEnded, a_text, has_fault, is_border, is_fault, judged, no_text, none, opens, shows_end}
use Rattle.jx_texts.specs.Reading.{EndsNowhere, GoesOn, HasTold, Stands, TextReaderValue, between, closing, have_no_border, inside, listed, lost, plain, text_now, verdict_now}
use Rattle.jx_texts.specs.inside.Steps.{FeedsOn, HasFed, IsBegun, IsFed, IsUpTo}
use Rattle.jx_texts.proofs.Chains.{chain_more, chain_one}
use Rattle.jx_texts.proofs.Faults.{accepted_is_text, none_faulty, one_faulty, read_fault, same_text}
use Rattle.jx_texts.proofs.Lists.{and_left, and_right, clash, no_other, one_gap}
use Rattle.jx_texts.proofs.Steps.{bare_has_none, fed_bare, fed_closed, fed_one, goes_on, no_end, nowhere, nowhere_behind, shows_by_itself}

abbrev value : ReaderValue → Stage → TextReaderValue
value r s = record { reader = r; stage = s }

-- the reader has read more bytes behind those
abbrev pub ReadsOn : ReaderValue → List ℕ → ReaderValue → Type 0
ReadsOn old more new = (bytes : List ℕ) → HasRead bytes old → HasRead (bytes ++ more) new

-- ---- before the first byte

pub told_none : (limit at : ℕ) (r : TextReaderValue) → r.reader.settings ≡ plain limit → r.reader.start ≡ at → HasRead [] r.reader → r.stage ≡ Between → HasTold limit at [] [] r
told_none limit at r by start read stage =
    record {
      by = by;
      ended = [];
      left = at;
      rest = [];
      are_ended = none;
      stands = subst (λ (s : Stage). Stands limit at [] [] [] r.reader s) (sym stage) (between refl (omega (arith, start)) read);
    }

-- ---- what was read is judged

module _ (law : Verdicts) (limit at : ℕ) (bytes : List ℕ) (told : List JudgedText) (may_end : Bool) (old : TextReaderValue) (h : HasFed limit at bytes told may_end old) where
  abbrev from : ℕ
  from = h.left + length h.gap

  -- a fault
  pub judged_lost : (new : TextReaderValue) (refused : Option JudgedText) → new.reader ≡ old.reader → new.stage ≡ Lost → reader.is_fault old.reader.outcome ≡ true
      → listed refused ≡ filter has_fault (text_now limit old.reader.start (h.b ∷ h.rest) ∷ []) → HasTold limit at bytes (told ++ ([] ++ listed refused)) new
  judged_lost new refused same stage fault is =
      let faulty : is_fault (verdict_now limit old.reader.start (h.b ∷ h.rest)) ≡ true = read_fault limit (h.b ∷ h.rest) old.reader h.by h.read ∙ fault in
      let ends : EndsNowhere limit from (h.b ∷ h.rest) =
      nowhere law limit from h.b h.rest may_end old.stage h.fed (subst (λ (n : ℕ). is_fault (verdict_now limit n (h.b ∷ h.rest)) ≡ true) h.start faulty) in
      let list : listed refused ≡ filter has_fault (text_now limit from (h.b ∷ h.rest) ∷ []) = is ∙ ap (λ (n : ℕ). filter has_fault (text_now limit n (h.b ∷ h.rest) ∷ [])) h.start in
      record {
        by = ap (λ (r : ReaderValue). r.settings) same ∙ h.by;
        ended = told;
        left = h.left;
        rest = h.gap ++ (h.b ∷ h.rest);
        are_ended = h.are_ended;
        stands =
            subst (λ (r : ReaderValue). Stands limit h.left told (h.gap ++ (h.b ∷ h.rest)) (told ++ listed refused) r new.stage) (sym same)
            (subst (λ (s : Stage). Stands limit h.left told (h.gap ++ (h.b ∷ h.rest)) (told ++ listed refused) old.reader s) (sym stage)
            (subst (λ (ts : List JudgedText). Stands limit h.left told (h.gap ++ (h.b ∷ h.rest)) (told ++ ts) old.reader Lost) (sym list)
            (lost h.gap h.rest h.b refl h.blanks h.no_blank h.start h.read ends)));
      }

  -- none, and no end
  pub judged_on : (new : TextReaderValue) → new.reader ≡ old.reader → new.stage ≡ old.stage → reader.is_fault old.reader.outcome ≡ false
      → (may_end ≡ true → verdict_now limit old.reader.start (h.b ∷ h.rest) ≡ Accepted → ⊥) → HasTold limit at bytes (told ++ ([] ++ [])) new
  judged_on new same stage fault away =
      let well : is_fault (verdict_now limit old.reader.start (h.b ∷ h.rest)) ≡ false = read_fault limit (h.b ∷ h.rest) old.reader h.by h.read ∙ fault in
      let on : GoesOn limit from h.b h.rest old.stage = goes_on law limit from h.b h.rest may_end old.stage h.fed (λ m v. away m (subst (λ (n : ℕ). verdict_now limit n (h.b ∷ h.rest) ≡ Accepted) (sym h.start) v)) in
      record {
        by = ap (λ (r : ReaderValue). r.settings) same ∙ h.by;
        ended = told;
        left = h.left;
        rest = h.gap ++ (h.b ∷ h.rest);
        are_ended = h.are_ended;
        stands =
            subst (λ (ts : List JudgedText). Stands limit h.left told (h.gap ++ (h.b ∷ h.rest)) ts new.reader new.stage) (sym (append-nil told))
            (subst (λ (r : ReaderValue). Stands limit h.left told (h.gap ++ (h.b ∷ h.rest)) told r new.stage) (sym same)
            (subst (λ (s : Stage). Stands limit h.left told (h.gap ++ (h.b ∷ h.rest)) told old.reader s) (sym stage)
            (inside h.gap h.rest h.b refl h.blanks h.no_blank h.start h.read on (subst (λ (n : ℕ). is_fault (verdict_now limit n (h.b ∷ h.rest)) ≡ false) h.start well))));
      }

  bare_closed : (b : ℕ) (rest w : List ℕ) → is_blank b ≡ false → opens b ≡ true → rest ≡ w ++ closing b ∷ [] → IsBare (b ∷ rest)
  bare_closed b rest w blank o e =
      record {
        front = λ c more is. let same : b ≡ c = cc in subst (λ (x : ℕ). is_blank x ≡ false) same blank;
        behind = λ more c is.
            let same : closing b ≡ c = last (b ∷ w) more c (sym (ap (λ (xs : List ℕ). b ∷ xs) e) ∙ is) in
            subst (λ (x : ℕ). is_blank x ≡ false) same (no_blank b);
      }
    where
      last : (x y : List ℕ) (c : ℕ) → x ++ closing b ∷ [] ≡ y ++ c ∷ [] → closing b ≡ c
      last [] [] c k = cc
      last [] (d ∷ y) c k = absurd (nothing y (let t : [] ≡ y ++ c ∷ [] = cc in t))
        where
          nothing : (z : List ℕ) → [] ≡ z ++ c ∷ [] → ⊥
          nothing [] t = absurd (cc)
          nothing (u ∷ z) t = absurd (cc)
      last (d ∷ x) [] c k = absurd (nothing x (let t : x ++ closing b ∷ [] ≡ [] = cc in t))
        where
          nothing : (z : List ℕ) → z ++ closing b ∷ [] ≡ [] → ⊥
          nothing [] t = absurd (cc)
          nothing (u ∷ z) t = absurd (cc)
      last (d ∷ x) (f ∷ y) c k = last x y c (let t : x ++ closing b ∷ [] ≡ y ++ c ∷ [] = cc in t)

      no_blank : (x : ℕ) → is_blank (closing x) ≡ false
      no_blank x = grind arith

  -- the end of an array, an object or a string
  pub judged_end : (new : TextReaderValue) (text : JudgedText) → may_end ≡ true → verdict_now limit old.reader.start (h.b ∷ h.rest) ≡ Accepted
      → text ≡ judged old.reader.start (old.reader.start + old.reader.count) Accepted → new.stage ≡ Between → new.reader.settings ≡ old.reader.settings
      → new.reader.start ≡ old.reader.start + old.reader.count → HasRead [] new.reader → HasTold limit at bytes (told ++ (listed (Some text) ++ [])) new
  judged_end new text may v is stage settings start read =
      let d = accepted_is_text law limit from (h.b ∷ h.rest) (subst (λ (n : ℕ). verdict_now limit n (h.b ∷ h.rest) ≡ Accepted) h.start v) in
      let count : old.reader.count ≡ length (h.b ∷ h.rest) = h.read.count in
      let begins : old.reader.start ≡ from = h.start in
      let end : new.reader.start ≡ from + length (h.b ∷ h.rest) = omega (arith, start, begins, count) in
      let same : old.reader.start + old.reader.count ≡ new.reader.start = sym start in
      let next : NextHasEnded limit h.left (h.gap ++ (h.b ∷ h.rest)) text new.reader.start [] =
      record {
        gap = h.gap;
        tail = h.b ∷ h.rest;
        text = h.b ∷ h.rest;
        whole = refl;
        blanks = h.blanks;
        ended = ended (fed old.stage h.fed) d.0 d.1;
        end_is = end;
        told_is = is ∙ ap (λ (n : ℕ). judged n (old.reader.start + old.reader.count) Accepted) begins ∙ ap (λ (n : ℕ). judged from n Accepted) same;
      } in
      record {
        by = settings ∙ h.by;
        ended = told ++ text ∷ [];
        left = new.reader.start;
        rest = [];
        are_ended = chain_one h.are_ended next;
        stands = subst (λ (s : Stage). Stands limit new.reader.start (told ++ text ∷ []) [] (told ++ text ∷ []) new.reader s) (sym stage) (between refl (omega arith) read);
      }
    where
      fed : (s : Stage) → IsFed limit from h.b h.rest may_end s → (opens h.b ≡ true) × ((w : List ℕ) × (h.rest ≡ w ++ closing h.b ∷ []))
      fed Between f = absurd f
      fed (Closed byte) f = (f.0, f.3 may)
      fed Bare f = clash may f.0
      fed Lost f = absurd f

      ended : (opens h.b ≡ true) × ((w : List ℕ) × (h.rest ≡ w ++ closing h.b ∷ [])) → (tree : Tree) → IsDocument from (h.b ∷ h.rest) limit tree → HasEnded limit from (h.b ∷ h.rest) (h.b ∷ h.rest) []
      ended f tree doc =
          record {
            whole = sym (append-nil (h.b ∷ h.rest));
            bare = bare_closed h.b h.rest f.1.0 h.no_blank f.0 f.1.1;
            tree = tree;
            is_text = doc;
            shows = shows_by_itself h.b h.rest [] f.0;
          }

-- ---- a text begins

pub begun_feeds : Verdicts → (limit at : ℕ) (bytes : List ℕ) (told : List JudgedText) (byte : ℕ) (old new : ReaderValue) (stage : Stage) → IsBegun limit at bytes told byte old
    → new.settings ≡ old.settings → new.start ≡ old.start → ReadsOn old (byte ∷ []) new → stage ≡ cond (opens byte) (Closed (closing byte)) Bare
    → HasFed limit at bytes told false (value new stage)
begun_feeds law limit at bytes told byte old new stage h settings start reads is =
    record {
      by = settings ∙ h.by;
      left = h.left;
      gap = h.gap;
      b = byte;
      rest = [];
      are_ended = h.are_ended;
      blanks = h.blanks;
      no_blank = h.no_blank;
      start = start ∙ h.start;
      read = reads [] h.read;
      fed = subst (λ (s : Stage). IsFed limit (h.left + length h.gap) byte [] false s) (sym is) (fed_by (opens byte) refl);
    }
  where
    fed_by : (o : Bool) → opens byte ≡ o → IsFed limit (h.left + length h.gap) byte [] false (cond o (Closed (closing byte)) Bare)
    fed_by o e = fed_one law limit (h.left + length h.gap) byte h.no_blank o e

-- ---- between two texts

-- white space is passed
pub blanks_pass : (limit at : ℕ) (bytes more : List ℕ) (told : List JudgedText) (old new : TextReaderValue) → HasTold limit at bytes told old → old.stage ≡ Between → AreBlanks more
    → new.stage ≡ Between → new.reader.settings ≡ old.reader.settings → new.reader.start ≡ old.reader.start + old.reader.count + length more → HasRead [] new.reader
    → HasTold limit at (bytes ++ more) (told ++ ([] ++ [])) new
blanks_pass limit at bytes more told old new h is blanks stage settings start read = pick h.stands
  where
    made : told ≡ h.ended → AreBlanks h.rest → old.reader.start ≡ h.left + length h.rest → HasRead [] old.reader → HasTold limit at (bytes ++ more) (told ++ ([] ++ [])) new
    made same before at_end none_read =
        let count : old.reader.count ≡ 0 = none_read.count in
        let long : length (h.rest ++ more) ≡ length h.rest + length more = length-append h.rest more in
        let all : AreBlanks (h.rest ++ more) = list_all-append is_blank h.rest more ∙ ap (λ (x : Bool). x && list_all is_blank more) before ∙ blanks in
        let end : new.reader.start ≡ h.left + length (h.rest ++ more) = omega (arith, start, at_end, count, long) in
        record {
          by = settings ∙ h.by;
          ended = h.ended;
          left = h.left;
          rest = h.rest ++ more;
          are_ended = chain_more more h.are_ended;
          stands =
              subst (λ (ts : List JudgedText). Stands limit h.left h.ended (h.rest ++ more) ts new.reader new.stage) (sym (append-nil told ∙ same))
              (subst (λ (s : Stage). Stands limit h.left h.ended (h.rest ++ more) h.ended new.reader s) (sym stage) (between all end read));
        }

    by_stage : {ts : List JudgedText} {s : Stage} {u : ReaderValue} → Stands limit h.left h.ended h.rest ts u s → s ≡ Between → ts ≡ told → u ≡ old.reader → HasTold limit at (bytes ++ more) (told ++ ([] ++ [])) new
    by_stage (between b start read) e t u =
        made (sym t) b (subst (λ (v : ReaderValue). v.start ≡ h.left + length h.rest) u start) (subst (λ (v : ReaderValue). HasRead [] v) u read)
    by_stage (inside gap rest b w bs nb st rd g f) e t u = absurd (subst (λ (s : Stage). GoesOn limit (h.left + length gap) b rest s) e g)
    by_stage (lost gap rest b w bs nb st rd n) e t u = absurd (cc)

    pick : Stands limit h.left h.ended h.rest told old.reader old.stage → HasTold limit at (bytes ++ more) (told ++ ([] ++ [])) new
    pick x = by_stage x is refl refl

-- a text begins behind it
pub begins_behind : (limit at : ℕ) (bytes : List ℕ) (byte : ℕ) (told : List JudgedText) (old : TextReaderValue) → HasTold limit at bytes told old → old.stage ≡ Between → is_blank byte ≡ false
    → IsBegun limit at (bytes ++ byte ∷ []) told byte old.reader
begins_behind limit at bytes byte told old h is blank = by_stage h.stands is refl refl
  where
    by_stage : {ts : List JudgedText} {s : Stage} {u : ReaderValue} → Stands limit h.left h.ended h.rest ts u s → s ≡ Between → ts ≡ told → u ≡ old.reader → IsBegun limit at (bytes ++ byte ∷ []) told byte old.reader
    by_stage (between b start read) e t u =
        record {
          by = h.by;
          left = h.left;
          gap = h.rest;
          are_ended = subst (λ (ts : List JudgedText). Ended limit at (bytes ++ byte ∷ []) ts h.left (h.rest ++ byte ∷ [])) t (chain_more (byte ∷ []) h.are_ended);
          blanks = b;
          no_blank = blank;
          start = subst (λ (v : ReaderValue). v.start ≡ h.left + length h.rest) u start;
          read = subst (λ (v : ReaderValue). HasRead [] v) u read;
        }
    by_stage (inside gap rest b w bs nb st rd g f) e t u = absurd (subst (λ (s : Stage). GoesOn limit (h.left + length gap) b rest s) e g)
    by_stage (lost gap rest b w bs nb st rd n) e t u = absurd (cc)

-- ---- in a text

-- the bytes of the text that goes on
pub record IsInside (limit at : ℕ) (bytes : List ℕ) (told : List JudgedText) (r : ReaderValue) (stage : Stage) : Type 0 where
  pub left : ℕ
  pub gap : List ℕ
  pub b : ℕ
  pub rest : List ℕ
  pub are_ended : Ended limit at bytes told left (gap ++ (b ∷ rest))
  pub blanks : AreBlanks gap
  pub no_blank : is_blank b ≡ false
  pub start : r.start ≡ left + length gap
  pub read : HasRead (b ∷ rest) r
  pub goes : GoesOn limit (left + length gap) b rest stage
  pub well : has_fault (text_now limit (left + length gap) (b ∷ rest)) ≡ false

pub is_inside : (limit at : ℕ) (bytes : List ℕ) (told : List JudgedText) (r : TextReaderValue) → HasTold limit at bytes told r → (r.stage ≡ Between → ⊥) → (r.stage ≡ Lost → ⊥) → IsInside limit at bytes told r.reader r.stage
is_inside limit at bytes told r h some going = by_stage h.stands refl some going
  where
    by_stage : {ts : List JudgedText} {s : Stage} {u : ReaderValue} → Stands limit h.left h.ended h.rest ts u s → ts ≡ told → (s ≡ Between → ⊥) → (s ≡ Lost → ⊥) → IsInside limit at bytes told u s
    by_stage (between b start read) t n m = absurd (n refl)
    by_stage (inside gap rest b w bs nb st rd g f) t n m =
        record {
          left = h.left;
          gap = gap;
          b = b;
          rest = rest;
          are_ended = subst (λ (ts : List JudgedText). Ended limit at bytes ts h.left (gap ++ (b ∷ rest))) t (subst (λ (xs : List ℕ). Ended limit at bytes h.ended h.left xs) w h.are_ended);
          blanks = bs;
          no_blank = nb;
          start = st;
          read = rd;
          goes = g;
          well = f;
        }
    by_stage (lost gap rest b w bs nb st rd x) t n m = absurd (m refl)

-- it goes on
pub inside_feeds : (limit at : ℕ) (bytes more : List ℕ) (told : List JudgedText) (may_end : Bool) (old new : TextReaderValue) (h : HasTold limit at bytes told old) (i : IsInside limit at bytes told old.reader old.stage)
    → new.reader.settings ≡ old.reader.settings → new.reader.start ≡ old.reader.start → ReadsOn old.reader more new.reader
    → IsFed limit (i.left + length i.gap) i.b (i.rest ++ more) may_end new.stage → HasFed limit at (bytes ++ more) told may_end new
inside_feeds limit at bytes more told may_end old new h i settings start reads fed =
    record {
      by = settings ∙ h.by;
      left = i.left;
      gap = i.gap;
      b = i.b;
      rest = i.rest ++ more;
      are_ended = subst (λ (xs : List ℕ). Ended limit at (bytes ++ more) told i.left xs) (append_assoc i.gap (i.b ∷ i.rest) more) (chain_more more i.are_ended);
      blanks = i.blanks;
      no_blank = i.no_blank;
      start = start ∙ i.start;
      read = reads (i.b ∷ i.rest) i.read;
      fed = fed;
    }

pub closed_feeds : Verdicts → (limit at : ℕ) (bytes more : List ℕ) (told : List JudgedText) (byte : ℕ) (may_end : Bool) (old new : TextReaderValue) → HasTold limit at bytes told old
    → old.stage ≡ Closed byte → new.stage ≡ Closed byte → new.reader.settings ≡ old.reader.settings → new.reader.start ≡ old.reader.start → ReadsOn old.reader more new.reader
    → IsUpTo byte more may_end → HasFed limit at (bytes ++ more) told may_end new
closed_feeds law limit at bytes more told byte may_end old new h is stage settings start reads up =
    let i = is_inside limit at bytes told old h (λ e. let x : Closed byte ≡ Between = sym is ∙ e in absurd (cc)) (λ e. let x : Closed byte ≡ Lost = sym is ∙ e in absurd (cc)) in
    let from : ℕ = i.left + length i.gap in
    let g : GoesOn limit from i.b i.rest (Closed byte) = subst (λ (s : Stage). GoesOn limit from i.b i.rest s) is i.goes in
    inside_feeds limit at bytes more told may_end old new h i settings start reads
    (subst (λ (s : Stage). IsFed limit from i.b (i.rest ++ more) may_end s) (sym stage) (fed_closed law limit from i.b byte i.rest more may_end g up))

pub bare_feeds : Verdicts → (limit at : ℕ) (bytes more : List ℕ) (told : List JudgedText) (old new : TextReaderValue) → HasTold limit at bytes told old
    → old.stage ≡ Bare → new.stage ≡ Bare → new.reader.settings ≡ old.reader.settings → new.reader.start ≡ old.reader.start → ReadsOn old.reader more new.reader
    → have_no_border more ≡ true → HasFed limit at (bytes ++ more) told false new
bare_feeds law limit at bytes more told old new h is stage settings start reads clear =
    let i = is_inside limit at bytes told old h (λ e. let x : Bare ≡ Between = sym is ∙ e in absurd (cc)) (λ e. let x : Bare ≡ Lost = sym is ∙ e in absurd (cc)) in
    let from : ℕ = i.left + length i.gap in
    let g : GoesOn limit from i.b i.rest Bare = subst (λ (s : Stage). GoesOn limit from i.b i.rest s) is i.goes in
    inside_feeds limit at bytes more told false old new h i settings start reads
    (subst (λ (s : Stage). IsFed limit from i.b (i.rest ++ more) false s) (sym stage) (fed_bare law limit from i.b i.rest more g clear))

pub feeds : Verdicts → (limit at : ℕ) (bytes more : List ℕ) (told : List JudgedText) (may_end : Bool) (old new : TextReaderValue) → HasTold limit at bytes told old
    → FeedsOn more may_end old.stage → new.stage ≡ old.stage → new.reader.settings ≡ old.reader.settings → new.reader.start ≡ old.reader.start → ReadsOn old.reader more new.reader
    → HasFed limit at (bytes ++ more) told may_end new
feeds law limit at bytes more told may_end old new h f same settings start reads = by_stage old.stage refl f
  where
    by_stage : (s : Stage) → old.stage ≡ s → FeedsOn more may_end s → HasFed limit at (bytes ++ more) told may_end new
    by_stage Between e x = absurd x
    by_stage (Closed byte) e x = closed_feeds law limit at bytes more told byte may_end old new h e (same ∙ e) settings start reads x
    by_stage Bare e x = subst (λ (b : Bool). HasFed limit at (bytes ++ more) told b new) (sym x.0) (bare_feeds law limit at bytes more told old new h e (same ∙ e) settings start reads x.1)
    by_stage Lost e x = absurd x

-- ---- a number or a literal ends

bare_of : (b : ℕ) (rest : List ℕ) → have_no_border (b ∷ rest) ≡ true → IsBare (b ∷ rest)
bare_of b rest n =
    record {
      front = λ c more is. let same : b ≡ c = cc in subst (λ (x : ℕ). is_blank x ≡ false) same (no_blank b (and_left (not (is_border b)) (have_no_border rest) n));
      behind = λ more c is. no_blank c (last_of (b ∷ rest) more c is n);
    }
  where
    no_blank : (c : ℕ) → not (is_border c) ≡ true → is_blank c ≡ false
    no_blank c h = pick (is_blank c) (opens c) h
      where
        pick : (x y : Bool) → not (x || y) ≡ true → x ≡ false
        pick false y e = refl
        pick true y e = absurd (cc)

    last_of : (xs more : List ℕ) (c : ℕ) → xs ≡ more ++ c ∷ [] → have_no_border xs ≡ true → not (is_border c) ≡ true
    last_of xs more c e h =
        let both : (have_no_border more && have_no_border (c ∷ [])) ≡ true = sym (list_all-append (λ (x : ℕ). not (is_border x)) more (c ∷ [])) ∙ ap have_no_border (sym e) ∙ h in
        and_left (not (is_border c)) true (and_right (have_no_border more) (have_no_border (c ∷ [])) both)

module _ (law : Verdicts) (limit at : ℕ) (bytes : List ℕ) (c : ℕ) (told : List JudgedText) (old : TextReaderValue) (h : HasTold limit at bytes told old) (is : old.stage ≡ Bare) (border : is_border c ≡ true) where
  bare_inside : IsInside limit at bytes told old.reader Bare
  bare_inside = subst (λ (s : Stage). IsInside limit at bytes told old.reader s) is (is_inside limit at bytes told old h (λ e. let x : Bare ≡ Between = sym is ∙ e in absurd (cc)) (λ e. let x : Bare ≡ Lost = sym is ∙ e in absurd (cc)))

  ends_bare : (i : IsInside limit at bytes told old.reader Bare) → verdict_now limit old.reader.start (i.b ∷ i.rest) ≡ Accepted
      → Ended limit at (bytes ++ c ∷ []) (told ++ judged old.reader.start (old.reader.start + old.reader.count) Accepted ∷ []) (old.reader.start + old.reader.count) (c ∷ [])
  ends_bare i v =
      let from : ℕ = i.left + length i.gap in
      let d = accepted_is_text law limit from (i.b ∷ i.rest) (subst (λ (n : ℕ). verdict_now limit n (i.b ∷ i.rest) ≡ Accepted) i.start v) in
      let count : old.reader.count ≡ length (i.b ∷ i.rest) = i.read.count in
      let begins : old.reader.start ≡ i.left + length i.gap = i.start in
      let end : old.reader.start + old.reader.count ≡ i.left + length i.gap + length (i.b ∷ i.rest) = omega (arith, begins, count) in
      chain_one (chain_more (c ∷ []) i.are_ended)
      (record {
        gap = i.gap;
        tail = (i.b ∷ i.rest) ++ c ∷ [];
        text = i.b ∷ i.rest;
        whole = append_assoc i.gap (i.b ∷ i.rest) (c ∷ []);
        blanks = i.blanks;
        ended =
            record {
              whole = refl;
              bare = bare_of i.b i.rest i.goes.1;
              tree = d.0;
              is_text = d.1;
              shows = ap (λ (x : Bool). cond x true (is_border c)) i.goes.0 ∙ border;
            };
        end_is = end;
        told_is = ap (λ (n : ℕ). judged n (old.reader.start + old.reader.count) Accepted) begins;
      })

  -- before white space
  pub bare_ends_blank : (new : TextReaderValue) (text : JudgedText) → ((xs : List ℕ) → HasRead xs old.reader → verdict_now limit old.reader.start xs ≡ Accepted)
      → text ≡ judged old.reader.start (old.reader.start + old.reader.count) Accepted → is_blank c ≡ true → new.stage ≡ Between → new.reader.settings ≡ old.reader.settings
      → new.reader.start ≡ old.reader.start + old.reader.count + 1 → HasRead [] new.reader → HasTold limit at (bytes ++ c ∷ []) (told ++ (listed (Some text) ++ [])) new
  bare_ends_blank new text v same blank stage settings start read =
      record {
        by = settings ∙ h.by;
        ended = told ++ text ∷ [];
        left = old.reader.start + old.reader.count;
        rest = c ∷ [];
        are_ended =
            subst (λ (t : JudgedText). Ended limit at (bytes ++ c ∷ []) (told ++ t ∷ []) (old.reader.start + old.reader.count) (c ∷ [])) (sym same) (ends_bare bare_inside (v (bare_inside.b ∷ bare_inside.rest) bare_inside.read));
        stands =
            subst (λ (s : Stage). Stands limit (old.reader.start + old.reader.count) (told ++ text ∷ []) (c ∷ []) (told ++ text ∷ []) new.reader s) (sym stage)
            (between (ap (λ (x : Bool). x && true) blank) start read);
      }

  -- before another text
  pub bare_ends_begun : (new : ReaderValue) (text : JudgedText) → ((xs : List ℕ) → HasRead xs old.reader → verdict_now limit old.reader.start xs ≡ Accepted)
      → text ≡ judged old.reader.start (old.reader.start + old.reader.count) Accepted → is_blank c ≡ false → new.settings ≡ old.reader.settings
      → new.start ≡ old.reader.start + old.reader.count → HasRead [] new → IsBegun limit at (bytes ++ c ∷ []) (told ++ text ∷ []) c new
  bare_ends_begun new text v same blank settings start read =
      record {
        by = settings ∙ h.by;
        left = old.reader.start + old.reader.count;
        gap = [];
        are_ended =
            subst (λ (t : JudgedText). Ended limit at (bytes ++ c ∷ []) (told ++ t ∷ []) (old.reader.start + old.reader.count) (c ∷ [])) (sym same) (ends_bare bare_inside (v (bare_inside.b ∷ bare_inside.rest) bare_inside.read));
        blanks = refl;
        no_blank = blank;
        start = omega (arith, start);
        read = read;
      }

  -- what is none
  pub bare_lost : (new : TextReaderValue) (refused : Option JudgedText) → ((xs : List ℕ) → HasRead xs old.reader → verdict_now limit old.reader.start xs ≡ Accepted → ⊥) → new.stage ≡ Lost
      → new.reader.settings ≡ old.reader.settings → new.reader.start ≡ old.reader.start → ReadsOn old.reader (c ∷ []) new.reader
      → ((xs : List ℕ) → HasRead xs new.reader → listed refused ≡ filter has_fault (text_now limit new.reader.start xs ∷ []))
      → HasTold limit at (bytes ++ c ∷ []) (told ++ ([] ++ listed refused)) new
  bare_lost new refused away stage settings start reads list =
      let i = bare_inside in
      let from : ℕ = i.left + length i.gap in
      let read : HasRead (i.b ∷ (i.rest ++ c ∷ [])) new.reader = reads (i.b ∷ i.rest) i.read in
      let begins : new.reader.start ≡ from = start ∙ i.start in
      let ends : EndsNowhere limit from (i.b ∷ (i.rest ++ c ∷ [])) =
      nowhere_behind law limit from i.b i.rest c i.goes.0 i.goes.1 border (λ v. away (i.b ∷ i.rest) i.read (subst (λ (n : ℕ). verdict_now limit n (i.b ∷ i.rest) ≡ Accepted) (sym i.start) v)) in
      let list_is : listed refused ≡ filter has_fault (text_now limit from (i.b ∷ (i.rest ++ c ∷ [])) ∷ []) =
      list (i.b ∷ (i.rest ++ c ∷ [])) read ∙ ap (λ (n : ℕ). filter has_fault (text_now limit n (i.b ∷ (i.rest ++ c ∷ [])) ∷ [])) begins in
      record {
        by = settings ∙ h.by;
        ended = told;
        left = i.left;
        rest = (i.gap ++ (i.b ∷ i.rest)) ++ c ∷ [];
        are_ended = chain_more (c ∷ []) i.are_ended;
        stands =
            subst (λ (s : Stage). Stands limit i.left told ((i.gap ++ (i.b ∷ i.rest)) ++ c ∷ []) (told ++ listed refused) new.reader s) (sym stage)
            (subst (λ (ts : List JudgedText). Stands limit i.left told ((i.gap ++ (i.b ∷ i.rest)) ++ c ∷ []) (told ++ ts) new.reader Lost) (sym list_is)
            (lost i.gap (i.rest ++ c ∷ []) i.b (append_assoc i.gap (i.b ∷ i.rest) (c ∷ [])) i.blanks i.no_blank begins read ends));
      }

-- ---- in what is no text

module _ (limit at : ℕ) (bytes more : List ℕ) (told : List JudgedText) (old new : TextReaderValue) (h : HasTold limit at bytes told old) (is : old.stage ≡ Lost) (stage : new.stage ≡ Lost)
    (settings : new.reader.settings ≡ old.reader.settings) (start : new.reader.start ≡ old.reader.start) (reads : ReadsOn old.reader more new.reader) where
  longer : (gap rest : List ℕ) (b : ℕ) → h.rest ≡ gap ++ (b ∷ rest) → h.rest ++ more ≡ gap ++ (b ∷ (rest ++ more))
  longer gap rest b w = ap (λ (xs : List ℕ). xs ++ more) w ∙ append_assoc gap (b ∷ rest) more

  nowhere_more : (from b : ℕ) (rest : List ℕ) → EndsNowhere limit from (b ∷ rest) → EndsNowhere limit from (b ∷ (rest ++ more))
  nowhere_more from b rest x = λ last text behind e. x (more ++ last) text behind (subst (λ (xs : List ℕ). HasEnded limit from xs text behind) (append_assoc (b ∷ rest) more last) e)

  -- what it told of the bytes so far and of those behind them
  goes_lost : (list : List JudgedText)
      → ((xs : List ℕ) → HasRead xs old.reader → filter has_fault (text_now limit old.reader.start (xs ++ more) ∷ []) ≡ filter has_fault (text_now limit old.reader.start xs ∷ []) ++ list)
      → HasTold limit at (bytes ++ more) (told ++ list) new
  goes_lost list more_told = by_stage h.stands is refl refl
    where
      by_stage : {ts : List JudgedText} {s : Stage} {u : ReaderValue} → Stands limit h.left h.ended h.rest ts u s → s ≡ Lost → ts ≡ told → u ≡ old.reader → HasTold limit at (bytes ++ more) (told ++ list) new
      by_stage (between b st rd) e t u = absurd (cc)
      by_stage (inside gap rest b w bs nb st rd g f) e t u = absurd (subst (λ (s : Stage). GoesOn limit (h.left + length gap) b rest s) e g)
      by_stage (lost gap rest b w bs nb st rd x) e t u =
          let from : ℕ = h.left + length gap in
          let begins : old.reader.start ≡ from = subst (λ (v : ReaderValue). v.start ≡ from) u st in
          let read : HasRead (b ∷ rest) old.reader = subst (λ (v : ReaderValue). HasRead (b ∷ rest) v) u rd in
          let list_is : filter has_fault (text_now limit from (b ∷ (rest ++ more)) ∷ []) ≡ filter has_fault (text_now limit from (b ∷ rest) ∷ []) ++ list =
          subst (λ (n : ℕ). filter has_fault (text_now limit n (b ∷ (rest ++ more)) ∷ []) ≡ filter has_fault (text_now limit n (b ∷ rest) ∷ []) ++ list) begins (more_told (b ∷ rest) read) in
          let all : h.ended ++ filter has_fault (text_now limit from (b ∷ (rest ++ more)) ∷ []) ≡ told ++ list =
          ap (λ (ts : List JudgedText). h.ended ++ ts) list_is ∙ sym (append_assoc h.ended (filter has_fault (text_now limit from (b ∷ rest) ∷ [])) list) ∙ ap (λ (ts : List JudgedText). ts ++ list) t in
          record {
            by = settings ∙ h.by;
            ended = h.ended;
            left = h.left;
            rest = h.rest ++ more;
            are_ended = chain_more more h.are_ended;
            stands =
                subst (λ (s : Stage). Stands limit h.left h.ended (h.rest ++ more) (told ++ list) new.reader s) (sym stage)
                (subst (λ (ts : List JudgedText). Stands limit h.left h.ended (h.rest ++ more) ts new.reader Lost) all
                (lost gap (rest ++ more) b (longer gap rest b w) bs nb (start ∙ begins) (reads (b ∷ rest) read) (nowhere_more from b rest x)));
          }

  -- its fault was told
  pub lost_told : reader.is_fault old.reader.outcome ≡ true → HasTold limit at (bytes ++ more) (told ++ ([] ++ [])) new
  lost_told fault =
      goes_lost []
      (λ xs read.
      let faulty : is_fault (verdict_now limit old.reader.start xs) ≡ true = read_fault limit xs old.reader h.by read ∙ fault in
      ap (λ (t : JudgedText). filter has_fault (t ∷ [])) (same_text limit old.reader.start xs more faulty) ∙ sym (append-nil (filter has_fault (text_now limit old.reader.start xs ∷ []))))

  -- its fault was not met before
  pub lost_now : (refused : Option JudgedText) → reader.is_fault old.reader.outcome ≡ false
      → ((xs : List ℕ) → HasRead xs new.reader → listed refused ≡ filter has_fault (text_now limit new.reader.start xs ∷ []))
      → HasTold limit at (bytes ++ more) (told ++ ([] ++ listed refused)) new
  lost_now refused fault list =
      goes_lost (listed refused)
      (λ xs read.
      let well : is_fault (verdict_now limit old.reader.start xs) ≡ false = read_fault limit xs old.reader h.by read ∙ fault in
      ap (λ (n : ℕ). filter has_fault (text_now limit n (xs ++ more) ∷ [])) (sym start)
      ∙ sym (list (xs ++ more) (reads xs read))
      ∙ ap (λ (ts : List JudgedText). ts ++ listed refused) (sym (none_faulty (text_now limit old.reader.start xs) well)))

-- ---- what is told in the end

-- the last text, and what was told of it
record IsDivided (limit at : ℕ) (bytes : List ℕ) (told : List JudgedText) (r : ReaderValue) (stage : Stage) : Type 0 where
  ended : List JudgedText
  last : List JudgedText
  divided : Divided limit at bytes ended last
  told_is : told ≡ ended ++ filter has_fault last
  last_is : ((stage ≡ Between) × (last ≡ [])) ⊎ ((stage ≡ Between → ⊥) × ((xs : List ℕ) × HasRead xs r × (last ≡ text_now limit r.start xs ∷ [])))

module _ (law : Verdicts) (limit at : ℕ) (bytes : List ℕ) (told : List JudgedText) (r : TextReaderValue) (h : HasTold limit at bytes told r) where
  none_in_blanks : (left : ℕ) (rest : List ℕ) → AreBlanks rest → NoneHasEnded limit left rest
  none_in_blanks left rest blanks gap tail text behind e bs x = first text x.whole x.bare x.shows
    where
      first : (t : List ℕ) → tail ≡ t ++ behind → IsBare t → shows_end t behind ≡ true → ⊥
      first [] w b s = no_end behind s
      first (a ∷ t) w b s = no_other rest gap a (t ++ behind) blanks (b.front a t refl) (e ∙ ap (λ (xs : List ℕ). gap ++ xs) w)

  none_inside : (left : ℕ) (gap rest : List ℕ) (b : ℕ) → AreBlanks gap → is_blank b ≡ false → ((text behind : List ℕ) → HasEnded limit (left + length gap) (b ∷ rest) text behind → ⊥)
      → NoneHasEnded limit left (gap ++ (b ∷ rest))
  none_inside left gap rest b blanks blank away gap' tail text behind e bs x = first text x.whole x.bare x.shows
    where
      first : (t : List ℕ) → tail ≡ t ++ behind → IsBare t → shows_end t behind ≡ true → ⊥
      first [] w bare s = no_end behind s
      first (a ∷ t) w bare s =
          let o = one_gap gap' gap a b (t ++ behind) rest bs blanks (bare.front a t refl) blank (sym (e ∙ ap (λ (xs : List ℕ). gap' ++ xs) w)) in
          away text behind
          (subst (λ (xs : List ℕ). HasEnded limit (left + length gap) xs text behind) (w ∙ o.1)
          (subst (λ (g : List ℕ). HasEnded limit (left + length g) tail text behind) o.0 x))

  no_text_in : (from b : ℕ) (rest : List ℕ) (s : Stage) → GoesOn limit from b rest s → (text behind : List ℕ) → HasEnded limit from (b ∷ rest) text behind → ⊥
  no_text_in at b rest Between g text behind x = g
  no_text_in at b rest (Closed byte) g text behind x = g.2 text behind x
  no_text_in at b rest Bare g text behind x = bare_has_none law limit at b rest text behind g.0 g.1 x
  no_text_in at b rest Lost g text behind x = g

  some_stage : (from b : ℕ) (rest : List ℕ) (s : Stage) → GoesOn limit from b rest s → s ≡ Between → ⊥
  some_stage from b rest s g e = subst (λ (x : Stage). GoesOn limit from b rest x) e g

  is_divided : IsDivided limit at bytes told r.reader r.stage
  is_divided = by_stage h.stands
    where
      last_at : (gap rest : List ℕ) (b : ℕ) → h.rest ≡ gap ++ (b ∷ rest) → AreBlanks gap → is_blank b ≡ false → Last limit h.left h.rest (text_now limit (h.left + length gap) (b ∷ rest) ∷ [])
      last_at gap rest b w bs nb = a_text gap rest b (verdict_now limit (h.left + length gap) (b ∷ rest)) w bs nb (law limit (h.left + length gap) (b ∷ rest))

      by_stage : {ts : List JudgedText} {s : Stage} {u : ReaderValue} → Stands limit h.left h.ended h.rest ts u s → IsDivided limit at bytes ts u s
      by_stage (between b st rd) =
          record {
            ended = h.ended;
            last = [];
            divided = record { left = h.left; rest = h.rest; are_ended = h.are_ended; no_more = none_in_blanks h.left h.rest b; is_last = no_text b };
            told_is = sym (append-nil h.ended);
            last_is = inl (refl, refl);
          }
      by_stage (inside {reader = u} {stage = s} gap rest b w bs nb st rd g f) =
          let from : ℕ = h.left + length gap in
          record {
            ended = h.ended;
            last = text_now limit from (b ∷ rest) ∷ [];
            divided =
                record {
                  left = h.left;
                  rest = h.rest;
                  are_ended = h.are_ended;
                  no_more = subst (λ (xs : List ℕ). NoneHasEnded limit h.left xs) (sym w) (none_inside h.left gap rest b bs nb (no_text_in from b rest s g));
                  is_last = last_at gap rest b w bs nb;
                };
            told_is = sym (append-nil h.ended) ∙ ap (λ (ts : List JudgedText). h.ended ++ ts) (sym (none_faulty (text_now limit from (b ∷ rest)) f));
            last_is = inr (some_stage from b rest s g, (b ∷ rest, rd, ap (λ (n : ℕ). text_now limit n (b ∷ rest) ∷ []) (sym st)));
          }
      by_stage (lost {reader = u} gap rest b w bs nb st rd x) =
          let from : ℕ = h.left + length gap in
          record {
            ended = h.ended;
            last = text_now limit from (b ∷ rest) ∷ [];
            divided =
                record {
                  left = h.left;
                  rest = h.rest;
                  are_ended = h.are_ended;
                  no_more =
                      subst (λ (xs : List ℕ). NoneHasEnded limit h.left xs) (sym w)
                      (none_inside h.left gap rest b bs nb (λ text behind y. x [] text behind (subst (λ (xs : List ℕ). HasEnded limit from xs text behind) (sym (append-nil (b ∷ rest))) y)));
                  is_last = last_at gap rest b w bs nb;
                };
            told_is = refl;
            last_is = inr ((λ e. let y : Lost ≡ Between = e in absurd (cc)), (b ∷ rest, rd, ap (λ (n : ℕ). text_now limit n (b ∷ rest) ∷ []) (sym st)));
          }

  pub settled : AreSettled limit at bytes told
  settled = let d = is_divided in record { ended = d.ended; last = d.last; divided = d.divided; told_are = d.told_is }

  pub ends_between : r.stage ≡ Between → AreTexts limit at bytes (told ++ [])
  ends_between e = pick is_divided.last_is
    where
      d : IsDivided limit at bytes told r.reader r.stage
      d = is_divided

      pick : ((r.stage ≡ Between) × (d.last ≡ [])) ⊎ ((r.stage ≡ Between → ⊥) × ((xs : List ℕ) × HasRead xs r.reader × (d.last ≡ text_now limit r.reader.start xs ∷ []))) → AreTexts limit at bytes (told ++ [])
      pick (inl x) = record { ended = d.ended; last = d.last; divided = d.divided; told_are = append-nil told ∙ d.told_is ∙ ap (λ (ts : List JudgedText). d.ended ++ filter has_fault ts) x.1 ∙ ap (λ (ts : List JudgedText). d.ended ++ ts) (sym x.1) }
      pick (inr x) = absurd (x.0 e)

  module _ (some : r.stage ≡ Between → ⊥) where
    open_last : (list : List JudgedText) → ((xs : List ℕ) → HasRead xs r.reader → filter has_fault (text_now limit r.reader.start xs ∷ []) ++ list ≡ text_now limit r.reader.start xs ∷ []) → AreTexts limit at bytes (told ++ list)
    open_last list all = pick is_divided.last_is
      where
        d : IsDivided limit at bytes told r.reader r.stage
        d = is_divided

        pick : ((r.stage ≡ Between) × (d.last ≡ [])) ⊎ ((r.stage ≡ Between → ⊥) × ((xs : List ℕ) × HasRead xs r.reader × (d.last ≡ text_now limit r.reader.start xs ∷ []))) → AreTexts limit at bytes (told ++ list)
        pick (inl x) = absurd (some x.0)
        pick (inr x) =
            record {
              ended = d.ended;
              last = d.last;
              divided = d.divided;
              told_are =
                  ap (λ (ts : List JudgedText). ts ++ list) d.told_is
                  ∙ append_assoc d.ended (filter has_fault d.last) list
                  ∙ ap (λ (ts : List JudgedText). d.ended ++ ts) (ap (λ (ts : List JudgedText). filter has_fault ts ++ list) x.1.2 ∙ all x.1.0 x.1.1 ∙ sym x.1.2);
            }

    pub ends_told : reader.is_fault r.reader.outcome ≡ true → AreTexts limit at bytes (told ++ [])
    ends_told fault =
        open_last []
        (λ xs read.
        let faulty : is_fault (verdict_now limit r.reader.start xs) ≡ true = read_fault limit xs r.reader h.by read ∙ fault in
        append-nil (filter has_fault (text_now limit r.reader.start xs ∷ [])) ∙ one_faulty (text_now limit r.reader.start xs) faulty)

    pub ends_open : reader.is_fault r.reader.outcome ≡ false → (t : JudgedText) → ((xs : List ℕ) → HasRead xs r.reader → t ≡ text_now limit r.reader.start xs) → AreTexts limit at bytes (told ++ t ∷ [])
    ends_open fault t is =
        open_last (t ∷ [])
        (λ xs read.
        let well : is_fault (verdict_now limit r.reader.start xs) ≡ false = read_fault limit xs r.reader h.by read ∙ fault in
        ap (λ (ts : List JudgedText). ts ++ t ∷ []) (none_faulty (text_now limit r.reader.start xs) well) ∙ ap (λ (u : JudgedText). u ∷ []) (is xs read))
