-- The bytes in front of a text, and what they decide of the verdict.
use Rattle.std.specs.Prelude.{◌≡◌, ◌==◌, ℕ, suc, ◌≤◌, List, [], ◌∷◌, length, drop, if◌then◌else◌}
use Rattle.jx_run.specs.declared.texts.settings.Front.{Front}
use Rattle.jx_run.specs.declared.texts.settings.Front.TheVariants as seen
use Rattle.jx_run.specs.declared.texts.settings.FrontMark.{FrontMark}
use Rattle.jx_run.specs.declared.texts.settings.FrontMark.TheVariants as on_mark
use Rattle.jx_run.specs.declared.texts.settings.Settings.{Settings}
use Rattle.jx_run.specs.declared.texts.verdict.Verdict.{Verdict}
use Rattle.jx_run.specs.declared.texts.verdict.Verdict.TheVariants.{Refused}
use Rattle.jx_run.specs.declared.texts.verdict.Refusal.TheVariants.{Stopped, Truncated}
use Rattle.jx_run.specs.Settings.{byte_order_mark, JudgedBy}
use Rattle.jx_run.specs.Verdict.{Judged}

-- how many bytes agree before the first that differs
abbrev pub agreed : List ℕ → List ℕ → ℕ
agreed [] others = 0
agreed (b ∷ bytes) [] = 0
agreed (b ∷ bytes) (o ∷ others) = if b == o then suc (agreed bytes others) else 0

-- where so many bytes agree: nothing is skipped, the byte order mark is skipped, or a byte order mark that was begun
-- and not ended is refused
abbrev pub front_by : ℕ → ℕ → Front
front_by n count =
    if n == 0 then seen.Skip 0 else (if n == 3 then seen.Skip 3 else (if n == count then seen.Refused Truncated else seen.Refused (Stopped n)))

abbrev pub front_of : FrontMark → List ℕ → Front
front_of on_mark.Refused text = seen.Skip 0
front_of on_mark.Ignored text = front_by (agreed text byte_order_mark) (length text)

-- the verdict is that on the bytes after the front, at their offsets, or the refusal
abbrev pub IsTold : FrontMark → List ℕ → Front → Type 0
IsTold m text (seen.Skip n) =
    (n ≤ length text) × ((settings : Settings) (verdict : Verdict) → settings.mark ≡ m → Judged n (drop n text) settings.depth verdict → JudgedBy settings 0 text verdict)
IsTold m text (seen.Refused refusal) = (settings : Settings) → settings.mark ≡ m → JudgedBy settings 0 text (Refused refusal)
