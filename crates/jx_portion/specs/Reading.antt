-- Reading a run file from left to right, with the first fault that is met.
use Rattle.std.specs.Prelude.{◌≡◌, ℕ, zero, suc, List, [], ◌∷◌, length, take, drop, Bool, ◌/◌, ◌-◌, ◌||◌, Option, Some, None, Result, Ok, Err, bytes_eq, nat_lt, ◌==◌, if◌then◌else◌, slice_get}
use Rattle.std.specs.Int.{w64, from_be_bytes}
use Rattle.jx_portion.specs.declared.fault.DecodeFault.{DecodeFault}
use Rattle.jx_portion.specs.declared.fault.DecodeFault.TheVariants as refused
use Rattle.jx_portion.specs.declared.fault.Field.{Field}
use Rattle.jx_portion.specs.declared.fault.Field.TheVariants as field
use Rattle.jx_portion.specs.declared.fault.RunFault.{RunFault}
use Rattle.jx_portion.specs.declared.fault.RunFault.TheVariants.{CutShort, Damaged, Malformed, NotARun, OtherVersion}
use Rattle.jx_reduce.specs.declared.forms.ended_level.EndedLevel.{EndedLevel}
use Rattle.jx_reduce.specs.declared.forms.entry.Entry.{Entry}
use Rattle.jx_run.specs.declared.runs.transition.Transition.{Transition}
use Rattle.jx_portion.specs.Choices.{entries, flags, holders, kinds}
use Rattle.sha2.specs.Sha256.{sha256}
use Rattle.jx_portion.specs.Spelling.{tag}
use Rattle.jx_portion.specs.declared.record.Head.{Head}
use Rattle.jx_portion.specs.Fields.{FormFields, RestFields, StructureFields, RunFields}
use Rattle.jx_lex.specs.Ordinal.{all_states}
use Rattle.jx_lex.specs.declared.alphabet.lex_exit.LexExit.{LexExit}
use Rattle.jx_lex.specs.declared.alphabet.lex_exit.LexExit.TheVariants as exits
use Rattle.jx_lex.specs.declared.alphabet.state.LexState.{LexState}
use Rattle.jx_lex.specs.declared.alphabet.mark.Mark.{Mark}
use Rattle.jx_lex.specs.declared.alphabet.mark.MarkKind.{MarkKind}
use Rattle.jx_reduce.specs.declared.table.holder.Holder.{Holder}
use Rattle.jx_reduce.specs.declared.forms.level.Level.{Level}

infixl 10 ◌>>=◌
abbrev pub ◌>>=◌ : {A B : Type 0} → Result A RunFault → (A → Result B RunFault) → Result B RunFault
(Ok x) >>= f = f x
(Err e) >>= f = Err e

-- the result of a call, seen by view, is that of reading, unless memory ran out
abbrev pub Fails : {Y : Type 0} → DecodeFault → Result Y RunFault → Type 0
Fails refused.Memory reading = Unit {0}
Fails (refused.Fault f) reading = reading ≡ Err f

abbrev pub Gives : {X Y : Type 0} → (X → Y) → Result X DecodeFault → Result Y RunFault → Type 0
Gives view (Ok x) reading = reading ≡ Ok (view x)
Gives view (Err e) reading = Fails e reading

-- a field is what it says, and the bytes after it
unfoldable pub number_at : List ℕ → Result (ℕ × List ℕ) RunFault
number_at bytes = if nat_lt (length bytes) 8 then Err CutShort else Ok (from_be_bytes w64 (take 8 bytes), drop 8 bytes)

abbrev pub chosen : {A : Type 0} → Field → List ℕ → Option A → Result (A × List ℕ) RunFault
chosen fault rest None = Err (Malformed fault)
chosen fault rest (Some x) = Ok (x, rest)

-- a byte that is the number of one of these
abbrev pub choice_at : {A : Type 0} → List A → Field → List ℕ → Result (A × List ℕ) RunFault
choice_at all fault [] = Err CutShort
choice_at all fault (b ∷ rest) = chosen fault rest (slice_get all b)

abbrev pub flag_at : List ℕ → Result (Bool × List ℕ) RunFault
flag_at bytes = choice_at flags field.Flag bytes

-- after a flag
unfoldable pub optional_at : {A : Type 0} → (List ℕ → Result (A × List ℕ) RunFault) → List ℕ → Result (Option A × List ℕ) RunFault
optional_at reading bytes = do
  flag ← flag_at bytes
  if flag.0 then (do
    x ← reading flag.1
    Ok (Some x.0, x.1)) else Ok (None, flag.1)

-- so many of them
unfoldable pub many_at : {A : Type 0} → (List ℕ → Result (A × List ℕ) RunFault) → ℕ → List ℕ → Result (List A × List ℕ) RunFault
many_at reading zero bytes = Ok ([], bytes)
many_at reading (suc n) bytes = do
  first ← reading bytes
  others ← many_at reading n first.1
  Ok (first.0 ∷ others.0, others.1)

unfoldable pub several_at : {A : Type 0} → (List ℕ → Result (A × List ℕ) RunFault) → List ℕ → Result (List A × List ℕ) RunFault
several_at reading bytes = do
  count ← number_at bytes
  many_at reading count.0 count.1

abbrev pub entry_at : List ℕ → Result (Entry × List ℕ) RunFault
entry_at bytes = choice_at entries field.Entry bytes

abbrev pub holder_at : List ℕ → Result (Holder × List ℕ) RunFault
holder_at bytes = choice_at holders field.Container bytes

abbrev pub kind_at : List ℕ → Result (MarkKind × List ℕ) RunFault
kind_at bytes = choice_at kinds field.Mark bytes

abbrev pub state_at : List ℕ → Result (LexState × List ℕ) RunFault
state_at bytes = choice_at all_states field.State bytes

unfoldable pub level_at : List ℕ → Result (Level × List ℕ) RunFault
level_at bytes = do
  array ← optional_at number_at bytes
  object ← optional_at number_at array.1
  bottom ← optional_at number_at object.1
  Ok (record { array = array.0; object = object.0; bottom = bottom.0 }, bottom.1)

unfoldable pub ended_at : List ℕ → Result (EndedLevel × List ℕ) RunFault
ended_at bytes = do
  array ← optional_at number_at bytes
  object ← optional_at number_at array.1
  bottom ← number_at object.1
  Ok (record { array = array.0; object = object.0; bottom = bottom.0 }, bottom.1)

unfoldable pub mark_at : List ℕ → Result (Mark × List ℕ) RunFault
mark_at bytes = do
  kind ← kind_at bytes
  at ← number_at kind.1
  Ok (record { kind = kind.0; at = at.0 }, at.1)

unfoldable pub exit_at : List ℕ → Result (LexExit × List ℕ) RunFault
exit_at bytes = do
  flag ← flag_at bytes
  if flag.0 then (do
    at ← number_at flag.1
    Ok (exits.Fault at.0, at.1)) else (do
      state ← state_at flag.1
      Ok (exits.State state.0, state.1))

unfoldable pub transition_at : List ℕ → Result (Transition × List ℕ) RunFault
transition_at bytes = do
  exit ← exit_at bytes
  structure ← number_at exit.1
  Ok (record { exit = exit.0; structure = structure.0 }, structure.1)

unfoldable pub form_at : List ℕ → Result (FormFields × List ℕ) RunFault
form_at bytes = do
  ended ← several_at ended_at bytes
  last ← level_at ended.1
  opens ← several_at holder_at last.1
  exit ← optional_at entry_at opens.1
  heights ← several_at number_at exit.1
  Ok (record { ended = ended.0; last = last.0; opens = opens.0; exit = exit.0; heights = heights.0 }, heights.1)

unfoldable pub rest_at : List ℕ → Result (RestFields × List ℕ) RunFault
rest_at bytes = do
  mark ← mark_at bytes
  tail ← form_at mark.1
  Ok (record { mark = mark.0; tail = tail.0 }, tail.1)

unfoldable pub structure_at : List ℕ → Result (StructureFields × List ℕ) RunFault
structure_at bytes = do
  string ← optional_at number_at bytes
  rest ← optional_at rest_at string.1
  Ok (record { string = string.0; rest = rest.0 }, rest.1)

-- no more structures than a run may have
unfoldable pub structures_at : List ℕ → Result (List StructureFields × List ℕ) RunFault
structures_at bytes = do
  count ← number_at bytes
  if nat_lt 32 count.0 then Err (Malformed field.Parts) else many_at structure_at count.0 count.1

-- between the head and the digest
unfoldable pub run_at : List ℕ → Result RunFields RunFault
run_at bytes = do
  from ← optional_at number_at bytes
  end ← number_at from.1
  transitions ← several_at transition_at end.1
  structures ← structures_at transitions.1
  if length structures.1 == 0 then Ok (record { from = from.0; end = end.0; transitions = transitions.0; structures = structures.0 }) else Err (Malformed field.Rest)

-- ---- a record as a whole

-- the bytes after the first eight
unfoldable pub tag_at : List ℕ → Result (List ℕ) RunFault
tag_at bytes = if nat_lt (length bytes) 8 then Err NotARun else (do
  first ← number_at bytes
  if first.0 == tag then Ok first.1 else if first.0 / 256 == tag / 256 then Err OtherVersion else Err NotARun)

unfoldable pub depth_at : List ℕ → Result (ℕ × List ℕ) RunFault
depth_at bytes = do
  depth ← number_at bytes
  if nat_lt 65535 depth.0 then Err (Malformed field.Depth) else Ok depth

unfoldable pub head_at : List ℕ → Result (Head × List ℕ) RunFault
head_at bytes = do
  first ← tag_at bytes
  size ← number_at first
  depth ← depth_at size.1
  Ok (record { size = size.0; depth = depth.0 }, depth.1)

-- the bytes up to the digest, which is that of all bytes of the run file before it
unfoldable pub sealed_at : List ℕ → List ℕ → Result (List ℕ) RunFault
sealed_at bytes rest =
    if nat_lt (length bytes) 32 || nat_lt (length rest) 32 then Err (Malformed field.Size)
    else if bytes_eq (sha256 (take (length bytes - 32) bytes)) (drop (length bytes - 32) bytes) then Ok (take (length rest - 32) rest) else Err Damaged

-- the depth, and the bytes between the head and the digest
unfoldable pub body_at : List ℕ → Result (ℕ × List ℕ) RunFault
body_at bytes = do
  head ← head_at bytes
  if nat_lt (length bytes) head.0.size then Err CutShort else if nat_lt head.0.size (length bytes) then Err (Malformed field.Rest) else (do
    body ← sealed_at bytes head.1
    Ok (head.0.depth, body))

-- their head and their digest are those of a run file
abbrev pub IsSealed : List ℕ → Type 0
IsSealed bytes = (x : ℕ × List ℕ) × (body_at bytes ≡ Ok x)

-- the run that a run file has
unfoldable pub record_at : List ℕ → Result (ℕ × RunFields) RunFault
record_at bytes = do
  body ← body_at bytes
  run ← run_at body.1
  Ok (body.0, run)
