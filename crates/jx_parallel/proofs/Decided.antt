-- The verdict on a beginning of a text where a fault was met, or that is all of it, is that on the text.
use Rattle.std.proofs.Common.{◌≡◌, ℕ, ◌+◌, ◌-◌, ◌≤◌, List, ◌++◌, length, take, drop, refl, sym, ap, ◌∙◌, subst, arith, true}
use Rattle.std.specs.Prelude.{Option, None, Some}
use Rattle.std.proofs.lemmas.List.{take-append-drop}
use Rattle.jx_run.specs.declared.texts.settings.Settings.{Settings}
use Rattle.jx_run.specs.declared.texts.verdict.Verdict.{Verdict}
use Rattle.jx_run.specs.Laws.{verdict_on}
use Rattle.jx_run.specs.Reader.{Outcome, ReaderValue, HasRead, read_by, is_fault}
use Rattle.jx_run.specs.Settings.{JudgedBy}
use Rattle.jx_run.proofs.ReaderFeeds.{passed}
use Rattle.jx_parallel.specs.Offsets.{EndsBefore, StandThere}
use Rattle.jx_parallel.specs.Verdict.{IsVerdictOn}
use Rattle.jx_parallel.specs.inside.Lead.{IsLead, IsVerdictOnFirst}
use Rattle.jx_parallel.proofs.There.{all_there}

-- a known text goes on behind what stands in front of it
goes_on : (text xs : List ℕ) → StandThere (Some text) 0 xs → xs ++ drop (length xs) text ≡ text
goes_on text xs there =
    let n : (0 + length xs) - 0 ≡ length xs = omega arith in
    let front : take (length xs) text ≡ xs = ap (λ k. take k text) (sym n) ∙ there in
    ap (λ l. l ++ drop (length xs) text) (sym front) ∙ take-append-drop (length xs) text

module _ (judged : (settings : Settings) (at : ℕ) (bytes : List ℕ) → JudgedBy settings at bytes (verdict_on (read_by settings.mark settings.depth at bytes)))
    (one : (settings : Settings) (at : ℕ) (bytes : List ℕ) (x y : Verdict) → JudgedBy settings at bytes x → JudgedBy settings at bytes y → x ≡ y) where
  stays : (settings : Settings) (at : ℕ) (bytes more : List ℕ) (z : Option Outcome) (v : Verdict) → is_fault z ≡ true → z ≡ Some (read_by settings.mark settings.depth at bytes)
      → JudgedBy settings at bytes v → JudgedBy settings at (bytes ++ more) v
  stays settings at bytes more z v fault is here =
      let there : z ≡ Some (read_by settings.mark settings.depth at (bytes ++ more)) = passed settings at bytes more z fault is in
      let both : Some (read_by settings.mark settings.depth at bytes) ≡ Some (read_by settings.mark settings.depth at (bytes ++ more)) = sym is ∙ there in
      let same : read_by settings.mark settings.depth at bytes ≡ read_by settings.mark settings.depth at (bytes ++ more) = cc in
      let v_is : v ≡ verdict_on (read_by settings.mark settings.depth at bytes) = one settings at bytes v _ here (judged settings at bytes) in
      subst (λ (w : Verdict). JudgedBy settings at (bytes ++ more) w) (sym (v_is ∙ ap verdict_on same)) (judged settings at (bytes ++ more))

  pub decides : (known : Option (List ℕ)) (settings : Settings) (reader : ReaderValue) (v : Verdict) → IsLead known settings reader → is_fault reader.outcome ≡ true
      → ((bytes : List ℕ) → HasRead bytes reader → JudgedBy reader.settings reader.start bytes v) → IsVerdictOn known settings v
  decides None settings reader v lead fault says =
      let here : JudgedBy reader.settings reader.start lead.bytes v = says lead.bytes lead.read in
      record {
        text = lead.bytes;
        whole = tt;
        judged = subst (λ (s : Settings). JudgedBy s 0 lead.bytes v) lead.by (subst (λ (n : ℕ). JudgedBy reader.settings n lead.bytes v) lead.start here);
      }
  decides (Some text) settings reader v lead fault says =
      let all : JudgedBy reader.settings reader.start (lead.bytes ++ drop (length lead.bytes) text) v =
      stays reader.settings reader.start lead.bytes (drop (length lead.bytes) text) reader.outcome v fault lead.read.outcome (says lead.bytes lead.read) in
      let whole : JudgedBy reader.settings reader.start text v = subst (λ l. JudgedBy reader.settings reader.start l v) (goes_on text lead.bytes lead.there) all in
      record {
        text = text;
        whole = refl;
        judged = subst (λ (s : Settings). JudgedBy s 0 text v) lead.by (subst (λ (n : ℕ). JudgedBy reader.settings n text v) lead.start whole);
      }

-- where the text ends behind the bytes that were read, these are all of it
pub at_end : (known : Option (List ℕ)) (settings : Settings) (count : ℕ) (v : Verdict) → IsVerdictOnFirst known settings count v → EndsBefore known count → IsVerdictOn known settings v
at_end None settings count v first end = record { text = first.bytes; whole = tt; judged = first.judged }
at_end (Some text) settings count v first end =
    let long : length text ≤ length first.bytes = omega (arith, end, first.long) in
    record { text = first.bytes; whole = all_there text first.bytes first.there long; judged = first.judged }
