-- What a stack's fields come to at a mark.
use Rattle.std.proofs.Common.{◌≡◌, ℕ, ◌<◌, ◌≤◌, List, ◌∷◌, ◌++◌, length, refl, sym, ◌∙◌, ap, arith, true, false, Bool}
use Rattle.std.specs.Prelude.{nat_lt, if◌then◌else◌}
use Rattle.std.proofs.lemmas.Bool.Decides.{nat_tests}
use Rattle.std.proofs.lemmas.List.Sums.{fold-append}
use Rattle.jx_lex.specs.declared.alphabet.mark.Mark.{Mark}
use Rattle.jx_reduce.specs.KnownStack.{Known, start, HasRead}
use Rattle.jx_reduce.specs.Read.{went, too_deep, changed, read, step}
use Rattle.jx_reduce.specs.Table.{added}
use Rattle.jx_reduce.specs.Whole.{whole_of}
use Rattle.jx_reduce.specs.declared.table.expect.Expect.{Expect}
use Rattle.jx_reduce.specs.declared.table.expect.Expect.TheVariants.{Value, ArrayFirst, ObjectFirst, Name, Colon, After}
use Rattle.jx_reduce.specs.declared.table.holder.Holder.{Holder}
use Rattle.jx_reduce.specs.declared.table.whole.Whole.TheVariants.{Went}
use Rattle.jx_c.specs.Stack.{code_of, stage_in, reading_at}
use Rattle.jx_c.specs.declared.streams.stack.Stage.{Stage}
use Rattle.jx_c.specs.declared.streams.stack.Stage.TheVariants.{Going}

pub stage-code : (e : Expect) → stage_in (code_of e) ≡ Going e
stage-code Value = refl
stage-code ArrayFirst = refl
stage-code ObjectFirst = refl
stage-code Name = refl
stage-code Colon = refl
stage-code After = refl

pub whole_going : (t : Stage) (e : Expect) (at n : ℕ) (s : List Holder) → t ≡ Going e → n ≡ length s → Went e n ≡ whole_of (reading_at t at s)
whole_going t e at n s is long = ap (λ (k : ℕ). Went e k) long ∙ ap (λ (u : Stage). whole_of (reading_at u at s)) (sym is)

-- a container more, within the depth
pub entered : (code d at later : ℕ) (e : Expect) (h : Holder) (s t : List Holder) → code ≡ code_of e → t ≡ h ∷ s → length s < d
    → reading_at (stage_in code) later t ≡ changed d at (added h) e s
entered code d at later e h s t is all within =
    let test : nat_lt (length s) d ≡ true = grind (arith, nat_tests) in
    ap (λ (k : ℕ). reading_at (stage_in k) later t) is
    ∙ ap (λ (u : Stage). reading_at u later t) (stage-code e)
    ∙ ap (went e) all
    ∙ ap (λ (b : Bool). if b then went e (h ∷ s) else too_deep at) (sym test)

pub entered_none : (d at : ℕ) (e : Expect) (h : Holder) (s : List Holder) → d ≤ length s → too_deep at ≡ changed d at (added h) e s
entered_none d at e h s over =
    let test : nat_lt (length s) d ≡ false = grind (arith, nat_tests) in
    ap (λ (b : Bool). if b then went e (h ∷ s) else too_deep at) (sym test)

-- all marks since the start
pub has_read-then : (old new : Known) (before ms : List Mark) → new.depth ≡ old.depth → new.reading ≡ read old.depth ms old.reading → HasRead before old → HasRead (before ++ ms) new
has_read-then old new before ms d e h =
    e ∙ ap (read old.depth ms) h ∙ sym (fold-append (λ reading mark. step old.depth mark reading) start before ms) ∙ ap (λ (k : ℕ). read k (before ++ ms) start) (sym d)

-- whole tokens
pub passed : (code d at later : ℕ) (e f : Expect) (t : Stage) (ms : List Mark) (s u : List Holder) → code ≡ code_of f → t ≡ Going e → went f u ≡ read d ms (went e s)
    → reading_at (stage_in code) later u ≡ read d ms (reading_at t at s)
passed code d at later e f t ms s u is from reads =
    ap (λ (k : ℕ). reading_at (stage_in k) later u) is
    ∙ ap (λ (g : Stage). reading_at g later u) (stage-code f)
    ∙ reads
    ∙ ap (λ (g : Stage). read d ms (reading_at g at s)) (sym from)
