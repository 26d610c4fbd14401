-- The contents of a run file, and their one encoding.
use Rattle.std.specs.Prelude.{ℕ, ◌+◌, ◌<◌, ◌^◌, List, [], ◌∷◌, ◌++◌, length, Option, Some, None}
use Rattle.std.specs.List.{flat_map, AllByRecursion}
use Rattle.std.specs.Int.{w64, to_be_bytes}
use Rattle.sha2.specs.Sha256.{sha256}
use Rattle.jx_lex.specs.Ordinal.{ordinal}
use Rattle.jx_lex.specs.declared.alphabet.lex_exit.LexExit.{LexExit}
use Rattle.jx_lex.specs.declared.alphabet.lex_exit.LexExit.TheVariants.{State, Fault}
use Rattle.jx_lex.specs.declared.alphabet.mark.Mark.{Mark}
use Rattle.jx_reduce.specs.declared.forms.level.Level.{Level}
use Rattle.jx_reduce.specs.declared.forms.ended_level.EndedLevel.{EndedLevel}
use Rattle.jx_reduce.specs.declared.forms.entry.Entry.{Entry}
use Rattle.jx_run.specs.declared.runs.transition.Transition.{Transition}
use Rattle.jx_portion.specs.Fields.{FormFields, RestFields, StructureFields, RunFields}
use Rattle.jx_reduce.specs.declared.table.holder.Holder.{Holder}
use Rattle.jx_portion.specs.Choices.{holder_number, kind_number}
use Rattle.jx_reduce.specs.Entries.{place}

-- a number is eight bytes, high byte first
unfoldable pub number : ℕ → List ℕ
number n = to_be_bytes w64 n

-- a value that may be absent begins with a flag
abbrev pub optional : {A : Type 0} → (A → List ℕ) → Option A → List ℕ
optional spell None = 0 ∷ []
optional spell (Some x) = 1 ∷ spell x

-- how many there are, and each of them
abbrev pub several : {A : Type 0} → (A → List ℕ) → List A → List ℕ
several spell xs = number (length xs) ++ flat_map spell xs

abbrev pub level : Level → List ℕ
level l = optional number l.array ++ optional number l.object ++ optional number l.bottom

abbrev pub ended : EndedLevel → List ℕ
ended e = optional number e.array ++ optional number e.object ++ number e.bottom

abbrev pub entry : Entry → List ℕ
entry e = place e ∷ []

abbrev pub holder : Holder → List ℕ
holder h = holder_number h ∷ []

abbrev pub mark : Mark → List ℕ
mark m = (kind_number m.kind ∷ []) ++ number m.at

-- a state, or the offset of a fault
abbrev pub exit : LexExit → List ℕ
exit (State s) = 0 ∷ ordinal s ∷ []
exit (Fault at) = 1 ∷ number at

abbrev pub transition : Transition → List ℕ
transition w = exit w.exit ++ number w.structure

abbrev pub form : FormFields → List ℕ
form f = several ended f.ended ++ level f.last ++ several holder f.opens ++ optional entry f.exit ++ several number f.heights

abbrev pub rest : RestFields → List ℕ
rest r = mark r.mark ++ form r.tail

abbrev pub structure : StructureFields → List ℕ
structure s = optional number s.string ++ optional rest s.rest

-- between the head and the digest
abbrev pub run : RunFields → List ℕ
run r = optional number r.from ++ number r.end ++ several transition r.transitions ++ several structure r.structures

-- ---- a record as a whole

-- 89, "jxrun", a line feed and the version 1
abbrev pub tag : ℕ
tag = 0x896A7872756E0A01

abbrev pub head : ℕ → ℕ → List ℕ
head size depth = number tag ++ number size ++ number depth

abbrev pub sealed : List ℕ → List ℕ
sealed bytes = bytes ++ sha256 bytes

-- the head has 24 bytes, the digest 32
abbrev pub spelling : ℕ → RunFields → List ℕ
spelling depth r = sealed (head (56 + length (run r)) depth ++ run r)

-- ---- what is not too large to be encoded

abbrev pub IfThere : {A : Type 0} → (A → Type 0) → Option A → Type 0
IfThere P None = Unit {0}
IfThere P (Some x) = P x

-- a list that is not too long, of items that are not too large
abbrev pub AreSpelt : {A : Type 0} → (A → Type 0) → List A → Type 0
AreSpelt fits xs = (length xs < 2 ^ 64) × AllByRecursion fits xs

abbrev pub IsNumber : ℕ → Type 0
IsNumber n = n < 2 ^ 64

abbrev pub LevelFits : Level → Type 0
LevelFits l = IfThere IsNumber l.array × IfThere IsNumber l.object × IfThere IsNumber l.bottom

abbrev pub EndedFits : EndedLevel → Type 0
EndedFits e = IfThere IsNumber e.array × IfThere IsNumber e.object × IsNumber e.bottom

abbrev pub MarkFits : Mark → Type 0
MarkFits m = Unit {0} × IsNumber m.at

abbrev pub ExitFits : LexExit → Type 0
ExitFits (State s) = Unit {0}
ExitFits (Fault at) = IsNumber at

abbrev pub TransitionFits : Transition → Type 0
TransitionFits w = ExitFits w.exit × IsNumber w.structure

-- a choice that one byte encodes
abbrev pub Any : {A : Type 0} → A → Type 0
Any _ = Unit {0}

abbrev pub FormFits : FormFields → Type 0
FormFits f = AreSpelt EndedFits f.ended × LevelFits f.last × AreSpelt Any f.opens × IfThere Any f.exit × AreSpelt IsNumber f.heights

abbrev pub RestFits : RestFields → Type 0
RestFits r = MarkFits r.mark × FormFits r.tail

abbrev pub StructureFits : StructureFields → Type 0
StructureFits s = IfThere IsNumber s.string × IfThere RestFits s.rest

abbrev pub RunFits : RunFields → Type 0
RunFits r = IfThere IsNumber r.from × IsNumber r.end × AreSpelt TransitionFits r.transitions × AreSpelt StructureFits r.structures
