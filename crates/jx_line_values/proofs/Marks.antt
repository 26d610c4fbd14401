-- How many bytes a byte order mark takes, by what stands in front of a text.
use Rattle.std.proofs.Common.{◌≡◌, ℕ, ◌<◌, ◌==◌, List, drop, length, Bool, true, false, cond, refl, sym, ap, arith}
use Rattle.std.specs.Prelude.{if◌then◌else◌}
use Rattle.std.proofs.lemmas.Bool.Decides.{nat_tests}
use Rattle.jx_run.specs.declared.texts.settings.Front.TheVariants as seen
use Rattle.jx_run.specs.declared.texts.settings.FrontMark.{FrontMark}
use Rattle.jx_run.specs.declared.texts.settings.FrontMark.TheVariants.{Refused, Ignored}
use Rattle.jx_run.specs.declared.texts.verdict.Refusal.{Refusal}
use Rattle.jx_run.specs.declared.texts.verdict.Refusal.TheVariants.{Stopped, Truncated}
use Rattle.jx_run.specs.Front.{agreed, front_of}
use Rattle.jx_run.specs.Settings.{byte_order_mark}
use Rattle.jx_ndjson.specs.Answers.{mark_at}
use Rattle.jx_ndjson.specs.Lines.{mark_length}
use Rattle.jx_line_values.specs.inside.Cutting.{line_bytes, line_mark}

not_both : (k : ℕ) → (k == 0) ≡ true → (k == 3) ≡ false
not_both k h = let is : k ≡ 0 = grind (arith, nat_tests) in ap (λ (x : ℕ). x == 3) is

abbrev taken : Bool → ℕ
taken t = cond t 3 0

module _ (k count : ℕ) where
  skip_by : (z t u : Bool) (n : ℕ) → (z ≡ true → t ≡ false) → cond z (seen.Skip 0) (cond t (seen.Skip 3) (cond u (seen.Refused Truncated) (seen.Refused (Stopped k)))) ≡ seen.Skip n → taken t ≡ n
  skip_by true true u n apart h = absurd (let e : true ≡ false = apart refl in cc)
  skip_by true false u n apart h = cc
  skip_by false true u n apart h = cc
  skip_by false false true n apart h = absurd (cc)
  skip_by false false false n apart h = absurd (cc)

  none_by : (z t u : Bool) (refusal : Refusal) → cond z (seen.Skip 0) (cond t (seen.Skip 3) (cond u (seen.Refused Truncated) (seen.Refused (Stopped k)))) ≡ seen.Refused refusal → taken t ≡ taken false
  none_by true t u refusal h = absurd (cc)
  none_by false true u refusal h = absurd (cc)
  none_by false false u refusal h = refl

pub skipped : (mark : FrontMark) (text : List ℕ) (n : ℕ) → front_of mark text ≡ seen.Skip n → n ≡ mark_length mark text
skipped Refused text n h = cc
skipped Ignored text n h =
    let k : ℕ = agreed text byte_order_mark in
    let e : taken (k == 3) ≡ n = skip_by k (length text) (k == 0) (k == 3) (k == length text) n (not_both k) h in
    sym e

pub none_skipped : (mark : FrontMark) (text : List ℕ) (refusal : Refusal) → front_of mark text ≡ seen.Refused refusal → 0 ≡ mark_length mark text
none_skipped Refused text refusal h = absurd (cc)
none_skipped Ignored text refusal h =
    let k : ℕ = agreed text byte_order_mark in
    let e : taken (k == 3) ≡ taken false = none_by k (length text) (k == 0) (k == 3) (k == length text) refusal h in
    sym e

-- ---- what may stand in front of a line

-- where a mark was taken off, none may
pub bare_mark : (mark : FrontMark) (text : List ℕ) → (if mark_length mark text == 0 then mark else Refused) ≡ mark_at mark (mark_length mark text)
bare_mark Refused text = refl
bare_mark Ignored text = pick (agreed text byte_order_mark == 3)
  where
    pick : (t : Bool) → (if taken t == 0 then Ignored else Refused) ≡ mark_at Ignored (taken t)
    pick true = refl
    pick false = refl

-- none stands there
pub none_left : (mark : FrontMark) (ended : ℕ) (kept : List ℕ) → mark_length (line_mark mark ended kept) (line_bytes mark ended kept) ≡ 0
none_left mark ended kept = pick mark (ended == 0)
  where
    first : (t : Bool) → (agreed kept byte_order_mark == 3) ≡ t → mark_length (if taken t == 0 then Ignored else Refused) (drop (taken t) kept) ≡ 0
    first true e = refl
    first false e = ap taken e

    pick : (m : FrontMark) (z : Bool) → mark_length (if z then (if mark_length m kept == 0 then m else Refused) else Refused) (if z then drop (mark_length m kept) kept else kept) ≡ 0
    pick Refused true = refl
    pick Refused false = refl
    pick Ignored true = first (agreed kept byte_order_mark == 3) refl
    pick Ignored false = refl

pub later_mark : (mark : FrontMark) (ended : ℕ) (kept : List ℕ) → 0 < ended → line_mark mark ended kept ≡ Refused
later_mark mark ended kept h =
    let e : (ended == 0) ≡ false = grind (arith, nat_tests) in
    ap (λ (b : Bool). if b then (if mark_length mark kept == 0 then mark else Refused) else Refused) e
