-- What a line comes to, by what its reader says.
use Rattle.std.proofs.Common.{◌≡◌, ℕ, ◌+◌, ◌<◌, List, [], ◌∷◌, length, Bool, true, false, refl, sym, ap, subst, ◌∙◌, arith}
use Rattle.std.specs.Prelude.{◌&&◌, not}
use Rattle.std.proofs.lemmas.List.{length-append}
use Rattle.jx_lex.specs.Lex.{lex}
use Rattle.jx_run.specs.declared.texts.settings.Settings.{Settings}
use Rattle.jx_run.specs.declared.texts.verdict.Refusal.{Refusal}
use Rattle.jx_run.specs.declared.texts.verdict.Refusal.TheVariants as refusal
use Rattle.jx_run.specs.declared.texts.verdict.Verdict.{Verdict}
use Rattle.jx_run.specs.declared.texts.verdict.Verdict.TheVariants as verdict
use Rattle.jx_run.specs.Elements.{Part, part}
use Rattle.jx_run.specs.Laws.{verdict_of}
use Rattle.jx_run.specs.Reader.{HasRead}
use Rattle.jx_run.specs.Reading.{read, read_text}
use Rattle.jx_run.specs.Settings.{IsDocumentBy, JudgedBy, a_text}
use Rattle.jx_run.specs.Text.{IsDocument}
use Rattle.jx_run.specs.Tree.{Tree, span}
use Rattle.jx_run.specs.Unclosed.{end_of, ends_open}
use Rattle.jx_run.specs.Verdict as text
use Rattle.jx_run.proofs.ElementSteps.{ends-right}
use Rattle.jx_run.proofs.LawProofs.{Verdicts}
use Rattle.jx_run.proofs.OpenEnds.{Shows, element_shows}
use Rattle.jx_run.proofs.VerdictLaws.{one_verdict}
use Rattle.jx_ndjson.specs.declared.judged_line.JudgedLine.{JudgedLine}
use Rattle.jx_ndjson.specs.declared.judged_line.LineVerdict.{LineVerdict}
use Rattle.jx_ndjson.specs.Answers.{IsAnswer, IsCut, IsVerdictOn, are_blanks, settings_at}
use Rattle.jx_ndjson.specs.Lines.{line}
use Rattle.jx_ndjson.specs.Reading.{IsOpen, LineReaderValue}
use Rattle.jx_ndjson.specs.inside.Steps.{told}

-- ---- the verdict on a line

not_true : {A : Type 0} → false ≡ true → A
not_true h = absurd (cc)

-- no bytes are no text
no_text : Verdicts → (limit at : ℕ) (tree : Tree) → IsDocument at [] limit tree → ⊥
unfolding read lex
no_text law limit at tree d =
    let e : verdict.Refused refusal.Truncated ≡ verdict.Accepted = one_verdict at [] limit (verdict_of (read_text limit at [])) verdict.Accepted (law limit at []) (text.a_text d) in
    absurd (cc)

-- the last byte shows whether the end shows, whatever stands in front of the text
pub shows_by : Verdicts → (s : Settings) (p : Part) (tree : Tree) → IsDocumentBy s p.at p.bytes tree → Shows tree (end_of p) (ends_open p.bytes)
shows_by law s p tree d =
    let q : Part = part (p.at + length d.front) d.rest in
    let long : length p.bytes ≡ length d.front + length d.rest = ap length d.whole ∙ length-append d.front d.rest in
    let end : end_of q ≡ end_of p = omega (arith, long) in
    let opens : ends_open q.bytes ≡ ends_open p.bytes = sym (ap ends_open d.whole ∙ ends-right d.front d.rest (some d.rest d.text)) in
    subst (λ (b : Bool). Shows tree (end_of p) b) opens (subst (λ (n : ℕ). Shows tree n (ends_open q.bytes)) end (element_shows q s.depth tree d.text))
  where
    some : (rest : List ℕ) → IsDocument (p.at + length d.front) rest s.depth tree → 0 < length rest
    some [] t = absurd (no_text law s.depth (p.at + length d.front) tree t)
    some (b ∷ rest) t = omega arith

-- a text without a line feed, whose last byte is open
is_cut : Verdicts → (s : Settings) (p : Part) (number : ℕ) → JudgedBy s p.at p.bytes verdict.Accepted → ends_open p.bytes ≡ true → IsCut (line number p false) s
is_cut law s p number (a_text {tree = tree} d) ends = record { tree = tree; not_ended = refl; is_text = d; unclosed = (shows_by law s p tree d).1 ends }

is_open_cut : Verdicts → (s : Settings) (p : Part) (number : ℕ) (is_ended : Bool) → IsCut (line number p is_ended) s → ends_open p.bytes ≡ true
is_open_cut law s p number is_ended u = (shows_by law s p u.tree u.is_text).0 u.unclosed

module _ (law : Verdicts) (s : Settings) (p : Part) (number : ℕ) where
  accepted : (blank is_ended opens : Bool) → JudgedBy s p.at p.bytes verdict.Accepted → blank ≡ are_blanks p.bytes → opens ≡ ends_open p.bytes
      → IsVerdictOn (line number p is_ended) s (told blank (opens && not is_ended) verdict.Accepted)
  accepted true is_ended opens j b o = sym b
  accepted false true true j b o = (sym b, j, λ c. not_true (sym c.not_ended))
  accepted false true false j b o = (sym b, j, λ c. not_true (sym c.not_ended))
  accepted false false true j b o = (sym b, is_cut law s p number j (sym o))
  accepted false false false j b o = (sym b, j, λ c. not_true (o ∙ is_open_cut law s p number false c))

  refused : (blank is_ended opens : Bool) (r : Refusal) → JudgedBy s p.at p.bytes (verdict.Refused r) → blank ≡ are_blanks p.bytes
      → IsVerdictOn (line number p is_ended) s (told blank (opens && not is_ended) (verdict.Refused r))
  refused true is_ended opens r j b = sym b
  refused false true true r j b = (sym b, j)
  refused false true false r j b = (sym b, j)
  refused false false true r j b = (sym b, j)
  refused false false false r j b = (sym b, j)

  on_line : (blank is_ended opens : Bool) (v : Verdict) → JudgedBy s p.at p.bytes v → blank ≡ are_blanks p.bytes → opens ≡ ends_open p.bytes
      → IsVerdictOn (line number p is_ended) s (told blank (opens && not is_ended) v)
  on_line blank is_ended opens verdict.Accepted j b o = accepted blank is_ended opens j b o
  on_line blank is_ended opens (verdict.Refused r) j b o = refused blank is_ended opens r j b

-- what is answered on the line that goes on, if it ends
pub answer : Verdicts → (settings : Settings) (p : Part) (r : LineReaderValue) (number : ℕ) (is_ended : Bool) (v : Verdict) (j : JudgedLine) → IsOpen settings p r
    → (HasRead p.bytes r.reader → JudgedBy r.reader.settings r.reader.start p.bytes v)
    → j ≡ record { number = number; span = span r.reader.start (r.reader.start + r.reader.count); verdict = told r.is_blank (r.open_ended && not is_ended) v }
    → IsAnswer settings (line number p is_ended) j
answer law settings p r number is_ended v j h judged is =
    let long : r.reader.count ≡ length p.bytes = h.read.count in
    let here : JudgedBy (settings_at settings p.at) p.at p.bytes v =
    subst (λ (n : ℕ). JudgedBy (settings_at settings p.at) n p.bytes v) h.start (subst (λ (s : Settings). JudgedBy s r.reader.start p.bytes v) h.reads_by (judged h.read)) in
    let on = on_line law (settings_at settings p.at) p number r.is_blank is_ended r.open_ended v here h.blank h.opens in
    record {
      number_is = ap (λ (x : JudgedLine). x.number) is;
      span_is =
          ap (λ (x : JudgedLine). x.span) is
          ∙ ap (λ (n : ℕ). span n (n + r.reader.count)) h.start
          ∙ ap (λ (n : ℕ). span p.at (p.at + n)) long;
      verdict_is = subst (λ (x : LineVerdict). IsVerdictOn (line number p is_ended) (settings_at settings p.at) x) (sym (ap (λ (x : JudgedLine). x.verdict) is)) on;
    }

-- by the parts that it is made of
pub same_line : (number a b m n : ℕ) (v w : LineVerdict) → a ≡ m → b ≡ n → v ≡ w
    → let x : JudgedLine = record { number = number; span = span a b; verdict = v } in let y : JudgedLine = record { number = number; span = span m n; verdict = w } in x ≡ y
same_line number a b m n v w e f g =
    ap (λ (k : ℕ). let j : JudgedLine = record { number = number; span = span k b; verdict = v } in j) e
    ∙ ap (λ (k : ℕ). let j : JudgedLine = record { number = number; span = span m k; verdict = v } in j) f
    ∙ ap (λ (u : LineVerdict). let j : JudgedLine = record { number = number; span = span m n; verdict = u } in j) g
