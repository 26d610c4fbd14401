-- The structure that a value of the program is, and how it grows.
use Rattle.std.specs.Prelude.{◌⊎◌, ◌≡◌, ℕ, ◌<◌, List, [], ◌∷◌, ◌++◌, Option, None, Some}
pub use Rattle.jx_reduce.specs.Parts.{string_at, string_head}
pub use Rattle.jx_reduce.specs.Sound.{end_of, IsTail, IsTailOf, IsSound}
use Rattle.jx_reduce.specs.Form.{Form}
use Rattle.jx_reduce.specs.Join.{joined}
use Rattle.jx_reduce.specs.Entries.{leads_to}
use Rattle.jx_reduce.specs.Marks.{of_marks, of_nothing}
use Rattle.jx_reduce.specs.Offsets.{RisingFrom}
use Rattle.jx_reduce.specs.Reduced.{depth_of, form_in}
use Rattle.jx_reduce.specs.Structure.{StructureValue, AreIn}
use Rattle.jx_reduce.specs.inside.Shifted.{shifted_form, shifted_offset}
use Rattle.jx_reduce.specs.declared.forms.entry.Entry.{Entry}
use Rattle.jx_reduce.specs.declared.forms.entry.Entry.TheVariants.{Value as AnyValue, After as AnyAfter}
use Rattle.jx_reduce.specs.Levels.{form_of}
use Rattle.jx_reduce.specs.declared.forms.levels.Levels.{Levels}
use Rattle.jx_reduce.specs.declared.forms.structure.Making.{Making}
use Rattle.jx_reduce.specs.declared.forms.structure.Rest.{Rest}
use Rattle.jx_reduce.specs.declared.forms.structure.Structure.TheInside.{Inside}
use Rattle.jx_lex.specs.declared.alphabet.mark.Mark.{Mark}
use Rattle.jx_lex.specs.declared.alphabet.mark.MarkKind.TheVariants.{String}

abbrev pub rest_head : Option Rest → List Mark
rest_head None = []
rest_head (Some r) = r.mark ∷ []

abbrev pub rest_tail : Option Rest → Option Form
rest_tail None = None
rest_tail (Some r) = Some (form_in r.tail)

abbrev pub first_head : Option Mark → List Mark
first_head None = []
first_head (Some m) = m ∷ []

abbrev pub form_behind : Option Mark → Levels → Option Form
form_behind None v = None
form_behind (Some m) v = Some (form_of v)

-- the structure that is made so far
abbrev pub of_making : ℕ → Making → StructureValue
of_making d p = record { depth = d; head = string_head p.string ++ first_head p.first; tail = form_behind p.first p.levels }

-- before the first token nothing is read
abbrev pub Waits : Making → Type 0
Waits p = p.first ≡ None → p.levels.exit ≡ None

abbrev pub structure_of : Inside → StructureValue
structure_of a = record { depth = a.depth; head = string_head a.string ++ rest_head a.rest; tail = rest_tail a.rest }

-- the form knows the depth
abbrev pub KnowsDepth : ℕ → Option Rest → Type 0
KnowsDepth d None = Unit {0}
KnowsDepth d (Some r) = depth_of r.tail ≡ d

-- a form, and one after it where something goes on
abbrev pub tail_behind : ℕ → Form → Form → Option Entry → Form
tail_behind d l t None = l
tail_behind d l t (Some x) = joined d l t

abbrev pub then_tail : ℕ → Form → Option Form → Form
then_tail d l None = l
then_tail d l (Some t) = tail_behind d l t l.exit

-- a form that goes on with a structure
abbrev pub followed_by : Form → StructureValue → Form
followed_by t f = then_tail f.depth (of_marks f.depth t f.head) f.tail

-- tokens that may be read after those of a structure
pub record MayFollow (f : StructureValue) (ms : List Mark) : Type 0 where
  pub between : ℕ
  pub left : AreIn (λ p. p < between) f
  pub right : RisingFrom between ms

-- the rest that follows the head, where these tokens were read after it: the first is kept, and leads to where the
-- others are read
abbrev pub IsBegun : ℕ → List Mark → Option Rest → Type 0
IsBegun d [] r = r ≡ None
IsBegun d (m ∷ ms) None = ⊥
IsBegun d (m ∷ ms) (Some r) = (r.mark ≡ m) × (depth_of r.tail ≡ d) × (form_in r.tail ≡ of_marks d (of_nothing (leads_to m.kind AnyValue)) ms)

abbrev pub BeginsWithNoString : List Mark → Type 0
BeginsWithNoString [] = Unit {0}
BeginsWithNoString (m ∷ _) = m.kind ≡ String → ⊥

-- after this string, if there is one, stands all of the right
pub record IsWhole (d : ℕ) (string : Option ℕ) (r : StructureValue) (s : Option ℕ) (rest : Option Rest) : Type 0 where
  pub head : string_head s ++ rest_head rest ≡ string_head string ++ r.head
  pub tail : rest_tail rest ≡ r.tail
  pub depth : KnowsDepth d rest

-- after this string the right begins with a second one, after which nothing goes on
pub record AreTwo (d : ℕ) (string : Option ℕ) (r : StructureValue) (s : Option ℕ) (rest : Option Rest) : Type 0 where
  pub first : ℕ
  pub second : ℕ
  pub more : List Mark
  pub string_is : string ≡ Some first
  pub right_is : r.head ≡ string_at second ∷ more
  pub same : s ≡ Some first
  pub head : rest_head rest ≡ string_at second ∷ []
  pub tail : rest_tail rest ≡ Some (of_nothing AnyAfter)
  pub depth : KnowsDepth d rest

abbrev pub AreBehind : ℕ → Option ℕ → StructureValue → Option ℕ → Option Rest → Type 0
AreBehind d string r s rest = IsWhole d string r s rest ⊎ AreTwo d string r s rest

abbrev pub moved_mark : ℕ → Mark → Mark
moved_mark by m = record { kind = m.kind; at = shifted_offset by m.at }

abbrev pub moved_tail : ℕ → Option Form → Option Form
moved_tail by None = None
moved_tail by (Some t) = Some (shifted_form by t)
