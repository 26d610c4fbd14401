-- What is known of open containers follows a reading, token start by token start.
use Rattle.std.proofs.Common.{◌≡◌, ℕ, suc, ◌+◌, ◌-◌, ◌≤◌, List, [], ◌∷◌, ◌++◌, length, drop, take, reverse, Bool, true, false, refl, sym, ap, subst, ◌∙◌, arith, Option, None, Some}
use Rattle.std.specs.List.{AllByRecursion}
use Rattle.std.specs.Prelude.{◌==◌, nat_lt, if◌then◌else◌}
use Rattle.std.proofs.lemmas.Bool.Decides.{nat_tests}
use Rattle.std.proofs.lemmas.List.{length-append, length-drop, nil_from_length, reverse-append, reverse-reverse}
use Rattle.std.proofs.Math.Seq.{take-append_seam}
use Rattle.jx_lex.specs.declared.alphabet.mark.Mark.{Mark}
use Rattle.jx_lex.specs.declared.alphabet.mark.MarkKind.{MarkKind}
use Rattle.jx_lex.specs.declared.alphabet.mark.MarkKind.TheVariants as mark
use Rattle.jx_lex.specs.declared.alphabet.state.LexState.{LexState}
use Rattle.jx_lex.specs.declared.alphabet.state.LexState.TheVariants.{Gap}
use Rattle.jx_lex.specs.declared.alphabet.state.TokenEnd.{TokenEnd}
use Rattle.jx_lex.specs.declared.alphabet.state.TokenEnd.TheVariants.{Before, After as Behind}
use Rattle.jx_lex.specs.Lex.{LexExit, lex, on_next, with_end}
use Rattle.jx_lex.specs.Lex as lexical
use Rattle.jx_lex.specs.Moves.{move}
use Rattle.jx_reduce.specs.declared.table.expect.Expect.{Expect}
use Rattle.jx_reduce.specs.declared.table.expect.Expect.TheVariants.{Value, ArrayFirst, ObjectFirst, Name, Colon, After}
use Rattle.jx_reduce.specs.declared.table.holder.Holder.{Holder}
use Rattle.jx_reduce.specs.declared.table.holder.Holder.TheVariants.{Array, Object, Bottom}
use Rattle.jx_reduce.specs.KnownStack.{IsFault, start}
use Rattle.jx_reduce.specs.Read.{Reading, changed, moved, read, step, top, went, stopped, too_deep}
use Rattle.jx_reduce.specs.Table.{added, change_of, next_of, same, where_value}
use Rattle.jx_run.specs.declared.texts.settings.FrontMark.{FrontMark}
use Rattle.jx_run.specs.declared.texts.settings.FrontMark.TheVariants as on_mark
use Rattle.jx_run.specs.Front.{agreed}
use Rattle.jx_run.specs.Reader.{Outcome, in_front, is_fault, read_behind, read_by, reads}
use Rattle.jx_run.specs.Reading as text
use Rattle.jx_run.specs.Reading.{at_exit, read_text}
use Rattle.jx_run.specs.Settings.{byte_order_mark}
use Rattle.jx_run.specs.Telling.{no_tokens, tokens_by, track_in_front, track_of}
use Rattle.jx_file_index.specs.Names.{is_behind_name, is_colon}
use Rattle.jx_file_build.specs.inside.OpenKinds.{Kinds, Mirrors, after, is_last, kinds_of, place_of, without_first}

-- ---- one container less

fewer_reversed : (xs : List Bool) → reverse (take (length (reverse xs) - 1) (reverse xs)) ≡ without_first (reverse (reverse xs))
fewer_reversed [] = refl
fewer_reversed (x ∷ xs) =
    let e : reverse (x ∷ xs) ≡ reverse xs ++ x ∷ [] = reverse-append (x ∷ []) xs in
    let long = length-append (reverse xs) (x ∷ []) in
    let n : length (reverse xs ++ x ∷ []) - 1 ≡ length (reverse xs) = omega (arith, long) in
    ap (λ (ys : List Bool). reverse (take (length ys - 1) ys)) e
    ∙ ap (λ (i : ℕ). reverse (take i (reverse xs ++ x ∷ []))) n
    ∙ ap reverse (take-append_seam (reverse xs) (x ∷ []))
    ∙ reverse-reverse xs
    ∙ sym (ap without_first (reverse-reverse (x ∷ xs)))

-- the last of the outermost is the first of the innermost
pub one_fewer : (xs ys : List Bool) → ys ≡ take (length xs - 1) xs → reverse ys ≡ without_first (reverse xs)
one_fewer xs ys is =
    ap reverse is
    ∙ subst (λ (zs : List Bool). reverse (take (length zs - 1) zs) ≡ without_first (reverse zs)) (reverse-reverse xs) (fewer_reversed (reverse xs))

-- ---- one token start

opened_by : (d at : ℕ) (h : Holder) (e : Expect) (hs : List Holder) → Mirrors (changed d at (added h) e hs) (kinds_of e (h ∷ hs))
opened_by d at h e hs = by_depth (nat_lt (length hs) d)
  where
    by_depth : (b : Bool) → Mirrors (if b then went e (h ∷ hs) else too_deep at) (kinds_of e (h ∷ hs))
    by_depth true = refl
    by_depth false = tt

array_mirrored : (d at : ℕ) (e : Expect) (hs : List Holder) → Mirrors (moved d at (added Array) (where_value ArrayFirst e) hs) (kinds_of ArrayFirst (Array ∷ hs))
array_mirrored d at Value hs = opened_by d at Array ArrayFirst hs
array_mirrored d at ArrayFirst hs = opened_by d at Array ArrayFirst hs
array_mirrored d at ObjectFirst hs = tt
array_mirrored d at Name hs = tt
array_mirrored d at Colon hs = tt
array_mirrored d at After hs = tt

object_mirrored : (d at : ℕ) (e : Expect) (hs : List Holder) → Mirrors (moved d at (added Object) (where_value ObjectFirst e) hs) (kinds_of ObjectFirst (Object ∷ hs))
object_mirrored d at Value hs = opened_by d at Object ObjectFirst hs
object_mirrored d at ArrayFirst hs = opened_by d at Object ObjectFirst hs
object_mirrored d at ObjectFirst hs = tt
object_mirrored d at Name hs = tt
object_mirrored d at Colon hs = tt
object_mirrored d at After hs = tt

scalar_mirrored : (d at : ℕ) (e : Expect) (hs : List Holder) → Mirrors (moved d at same (where_value After e) hs) (kinds_of After hs)
scalar_mirrored d at Value hs = refl
scalar_mirrored d at ArrayFirst hs = refl
scalar_mirrored d at ObjectFirst hs = tt
scalar_mirrored d at Name hs = tt
scalar_mirrored d at Colon hs = tt
scalar_mirrored d at After hs = tt

-- from what is known of it
abbrev StepMirrored : MarkKind → Type 0
StepMirrored k = (d at : ℕ) (e : Expect) (hs : List Holder) → Mirrors (moved d at (change_of k) (next_of k e (top hs)) hs) (after k (kinds_of e hs))

string_mirrored : StepMirrored mark.String
string_mirrored d at Value hs = refl
string_mirrored d at ArrayFirst hs = refl
string_mirrored d at ObjectFirst hs = refl
string_mirrored d at Name hs = refl
string_mirrored d at Colon hs = tt
string_mirrored d at After hs = tt

colon_mirrored : StepMirrored mark.Colon
colon_mirrored d at Value hs = tt
colon_mirrored d at ArrayFirst hs = tt
colon_mirrored d at ObjectFirst hs = tt
colon_mirrored d at Name hs = tt
colon_mirrored d at Colon hs = refl
colon_mirrored d at After hs = tt

comma_mirrored : StepMirrored mark.Comma
comma_mirrored d at After [] = tt
comma_mirrored d at After (Array ∷ hs) = refl
comma_mirrored d at After (Object ∷ hs) = refl
comma_mirrored d at After (Bottom ∷ hs) = tt
comma_mirrored d at Value hs = tt
comma_mirrored d at ArrayFirst hs = tt
comma_mirrored d at ObjectFirst hs = tt
comma_mirrored d at Name hs = tt
comma_mirrored d at Colon hs = tt

close_array_mirrored : StepMirrored mark.CloseArray
close_array_mirrored d at ArrayFirst [] = tt
close_array_mirrored d at ArrayFirst (Array ∷ hs) = refl
close_array_mirrored d at ArrayFirst (Object ∷ hs) = tt
close_array_mirrored d at ArrayFirst (Bottom ∷ hs) = tt
close_array_mirrored d at After [] = tt
close_array_mirrored d at After (Array ∷ hs) = refl
close_array_mirrored d at After (Object ∷ hs) = tt
close_array_mirrored d at After (Bottom ∷ hs) = tt
close_array_mirrored d at Value hs = tt
close_array_mirrored d at ObjectFirst hs = tt
close_array_mirrored d at Name hs = tt
close_array_mirrored d at Colon hs = tt

close_object_mirrored : StepMirrored mark.CloseObject
close_object_mirrored d at ObjectFirst [] = tt
close_object_mirrored d at ObjectFirst (Array ∷ hs) = tt
close_object_mirrored d at ObjectFirst (Object ∷ hs) = refl
close_object_mirrored d at ObjectFirst (Bottom ∷ hs) = tt
close_object_mirrored d at After [] = tt
close_object_mirrored d at After (Array ∷ hs) = tt
close_object_mirrored d at After (Object ∷ hs) = refl
close_object_mirrored d at After (Bottom ∷ hs) = tt
close_object_mirrored d at Value hs = tt
close_object_mirrored d at ArrayFirst hs = tt
close_object_mirrored d at Name hs = tt
close_object_mirrored d at Colon hs = tt

step_mirrored : (k : MarkKind) → StepMirrored k
step_mirrored mark.OpenArray d at e hs = array_mirrored d at e hs
step_mirrored mark.OpenObject d at e hs = object_mirrored d at e hs
step_mirrored mark.CloseArray d at e hs = close_array_mirrored d at e hs
step_mirrored mark.CloseObject d at e hs = close_object_mirrored d at e hs
step_mirrored mark.Colon d at e hs = colon_mirrored d at e hs
step_mirrored mark.Comma d at e hs = comma_mirrored d at e hs
step_mirrored mark.String d at e hs = string_mirrored d at e hs
step_mirrored mark.Number d at e hs = scalar_mirrored d at e hs
step_mirrored mark.True d at e hs = scalar_mirrored d at e hs
step_mirrored mark.False d at e hs = scalar_mirrored d at e hs
step_mirrored mark.Null d at e hs = scalar_mirrored d at e hs

pub mirrors_on : (d : ℕ) (m : Mark) (r : Reading) (k : Kinds) → Mirrors r k → Mirrors (step d m r) (after m.kind k)
mirrors_on d m (went e hs) k is = subst (λ (x : Kinds). Mirrors (step d m (went e hs)) (after m.kind x)) (sym is) (step_mirrored m.kind d m.at e hs)
mirrors_on d m (stopped at) k is = tt
mirrors_on d m (too_deep at) k is = tt

-- a reading that goes past a token start went past those before it
pub goes_back : (d : ℕ) (m : Mark) (r : Reading) → (IsFault (step d m r) → ⊥) → IsFault r → ⊥
goes_back d m (went e hs) going = λ f. f
goes_back d m (stopped at) going = λ f. going tt
goes_back d m (too_deep at) going = λ f. going tt

-- ---- names

last_at : (e : Expect) → is_colon e ≡ is_last (place_of e)
last_at Value = refl
last_at ArrayFirst = refl
last_at ObjectFirst = refl
last_at Name = refl
last_at Colon = refl
last_at After = refl

pub same_last : (r : Reading) (k : Kinds) → Mirrors r k → (IsFault r → ⊥) → is_behind_name r ≡ is_last k.name
same_last (went e hs) k is going = last_at e ∙ ap (λ (x : Kinds). is_last x.name) (sym is)
same_last (stopped at) k is going = absurd (going tt)
same_last (too_deep at) k is going = absurd (going tt)

-- ---- readings of texts that meet no fault

text_goes : (x : LexExit) (r : Reading) → is_fault (Some (reads (at_exit x r))) ≡ false → IsFault r → ⊥
text_goes x (went e hs) going = λ f. f
text_goes (lexical.state s) (stopped at) going = absurd cc
text_goes (lexical.fault i) (stopped at) going = absurd cc
text_goes (lexical.state s) (too_deep at) going = absurd cc
text_goes (lexical.fault i) (too_deep at) going = absurd cc

bytes_go : (limit at : ℕ) (bytes : List ℕ) → is_fault (Some (reads (read_text limit at bytes))) ≡ false → IsFault (read limit (lex Gap at bytes).marks start) → ⊥
unfolding text.read
bytes_go limit at bytes going = text_goes (lex Gap at bytes).exit _ going

pub tokens_go : (m : FrontMark) (limit : ℕ) (bytes : List ℕ) → is_fault (Some (read_by m limit 0 bytes)) ≡ false → IsFault (read limit (tokens_by m bytes).marks start) → ⊥
unfolding lex
tokens_go on_mark.Refused limit bytes going = bytes_go limit 0 bytes going
tokens_go on_mark.Ignored limit bytes going = by_count (agreed bytes byte_order_mark) going
  where
    none_go : IsFault (read limit (lex Gap 0 []).marks start) → ⊥
    none_go = λ f. f

    bare : (whole : Bool) (n : ℕ) → (n == 0) ≡ true → (n == length bytes) ≡ whole
        → is_fault (Some (if whole then in_front n else (if n == 0 then reads (read_text limit 0 bytes) else reads (text.stopped (0 + n))))) ≡ false
        → IsFault (read limit (lex Gap 0 bytes).marks start) → ⊥
    bare true n zero long going =
        let none : length bytes ≡ 0 = grind (arith, nat_tests) in
        subst (λ (xs : List ℕ). IsFault (read limit (lex Gap 0 xs).marks start) → ⊥) (sym (nil_from_length bytes none)) none_go
    bare false n zero long going =
        bytes_go limit 0 bytes (subst (λ (b : Bool). is_fault (Some (if b then reads (read_text limit 0 bytes) else reads (text.stopped (0 + n)))) ≡ false) zero going)

    by_tests : (n : ℕ) (three none : Bool) → (n == 3) ≡ three → (n == 0) ≡ none
        → is_fault (Some (if three then reads (read_text limit (0 + 3) (drop 3 bytes)) else (if n == length bytes then in_front n else (if n == 0 then reads (read_text limit 0 bytes) else reads (text.stopped (0 + n)))))) ≡ false
        → IsFault (read limit (if three then lex Gap 3 (drop 3 bytes) else (if none then lex Gap 0 bytes else no_tokens)).marks start) → ⊥
    by_tests n true none is_three is_none going = bytes_go limit 3 (drop 3 bytes) going
    by_tests n false true is_three is_none going = bare (n == length bytes) n is_none refl going
    by_tests n false false is_three is_none going = λ f. f

    by_count : (n : ℕ) → is_fault (Some (read_behind n limit 0 bytes)) ≡ false → IsFault (read limit (track_in_front 0 (0 + n) bytes).marks start) → ⊥
    by_count n going =
        let e : n ≡ 0 + n = omega arith in
        subst (λ (i : ℕ). IsFault (read limit (track_in_front 0 i bytes).marks start) → ⊥) e (by_tests n (n == 3) (n == 0) refl refl going)

-- ---- the ends of tokens lie within the bytes that are read

abbrev AreWithin : ℕ → List ℕ → Type 0
AreWithin n ends = AllByRecursion (λ end. end ≤ n) ends

one_within : (n at : ℕ) (end : Option TokenEnd) (ends : List ℕ) → at + 1 ≤ n → AreWithin n ends → AreWithin n (with_end end at ends)
one_within n at None ends fits all = all
one_within n at (Some Before) ends fits all = (omega (arith, fits), all)
one_within n at (Some Behind) ends fits all = (omega (arith, fits), all)

next_within : (n at : ℕ) (bytes : List ℕ) → ((t : LexState) → AreWithin n (lex t (suc at) bytes).ends) → (next : Option LexState) → AreWithin n (on_next next at (λ t. lex t (suc at) bytes)).ends
next_within n at bytes rest None = tt
next_within n at bytes rest (Some t) = rest t

ends_within : (n : ℕ) (s : LexState) (at : ℕ) (bytes : List ℕ) → at + length bytes ≤ n → AreWithin n (lex s at bytes).ends
unfolding lex
ends_within n s at [] fits = tt
ends_within n s at (b ∷ bytes) fits =
    one_within n at (move s b).end (on_next (move s b).next at (λ t. lex t (suc at) bytes)).ends (omega (arith, fits))
    (next_within n at bytes (λ t. ends_within n t (suc at) bytes (omega (arith, fits))) (move s b).next)

rest_within : (slice : List ℕ) (k : ℕ) → AreWithin (length slice) (lex Gap k (drop k slice)).ends
unfolding lex
rest_within slice k = by_rest (drop k slice) (length-drop k slice)
  where
    by_rest : (rest : List ℕ) → length rest ≡ length slice - k → AreWithin (length slice) (lex Gap k rest).ends
    by_rest [] long = tt
    by_rest (b ∷ bytes) long = ends_within (length slice) Gap k (b ∷ bytes) (omega (arith, long))

pub slice_within : (came : Outcome) (slice : List ℕ) → AreWithin (length slice) (track_of came slice).ends
slice_within (in_front n) slice = by_tests (n + agreed slice (drop n byte_order_mark) == 3) (n + agreed slice (drop n byte_order_mark) == 0)
  where
    by_tests : (three none : Bool) → AreWithin (length slice) (if three then lex Gap (3 - n) (drop (3 - n) slice) else (if none then lex Gap 0 slice else no_tokens)).ends
    by_tests true none = rest_within slice (3 - n)
    by_tests false true = ends_within (length slice) Gap 0 slice (omega arith)
    by_tests false false = tt
slice_within (reads (text.went s e o)) slice = ends_within (length slice) s 0 slice (omega arith)
slice_within (reads (text.stopped at)) slice = tt
slice_within (reads (text.too_deep at)) slice = tt
