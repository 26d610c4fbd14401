-- The names of the members of open objects, and what they have to do with the rows that are built so far.
use Rattle.std.specs.Prelude.{◌≡◌, ℕ, ◌<◌, ◌≤◌, List, [], ◌∷◌, ◌++◌, length, take, drop, reverse, Option, None, option_to_list, Bool, true, false, cond}
use Rattle.jx_lex.specs.declared.kind.Kind.{Kind}
use Rattle.jx_lex.specs.declared.kind.Kind.TheVariants as kind
use Rattle.jx_summary.specs.declared.span.Span.{Span}
use Rattle.jx_index.specs.declared.builder.Opened.{Opened}
use Rattle.jx_index.specs.declared.open_names.Holder.{Holder}
use Rattle.jx_index.specs.declared.open_names.OpenNames.{OpenNames}
use Rattle.jx_index.specs.declared.row.Row.{Row}
use Rattle.jx_index.specs.Nodes.{is_parent, kind_at}
use Rattle.jx_index.specs.Repeats.{IsLeast}
use Rattle.jx_index.specs.inside.Building.{Building}
use Rattle.jx_index.specs.inside.NameLists.{IsRepeatedName}
use Rattle.jx_index.specs.inside.Ties.{earlier_of}

-- ---- what is kept

-- open containers, innermost first, the names of all of them, a name whose value is still to come, and the first name that
-- an ended object repeats
pub record Held : Type 0 where
  pub text : List ℕ
  pub opened : List Holder
  pub names : List Span
  pub name : Option Span
  pub first : Option ℕ

abbrev pub held : OpenNames → Held
held names = record { text = names.text.now; opened = reverse names.opened.items; names = names.names.items; name = names.name; first = names.first }

abbrev pub with_value : Held → Held
with_value h = record h { names = h.names ++ option_to_list h.name; name = None }

abbrev pub with_container : Bool → Held → Held
with_container is_object h =
    record h {
      opened = record { is_object = is_object; before = length (h.names ++ option_to_list h.name) } ∷ h.opened;
      names = h.names ++ option_to_list h.name;
      name = None;
    }

-- the name that is repeated in a container that ends, whose names are those after so many
pub record EndsIn (old : Held) (top : Holder) (outer : List Holder) (new : Held) : Type 0 where
  pub repeated : Option ℕ
  pub in_object : top.is_object ≡ true → IsLeast (IsRepeatedName old.text (drop top.before old.names)) repeated
  pub in_array : top.is_object ≡ false → repeated ≡ None
  pub is : new ≡ record old { opened = outer; names = take top.before old.names; first = earlier_of old.first repeated }

abbrev pub Ends : List Holder → Held → Held → Type 0
Ends [] old new = new ≡ old
Ends (top ∷ outer) old new = EndsIn old top outer new

abbrev pub is_name_next : List Holder → Option Span → Bool
is_name_next (top ∷ outer) None = top.is_object
is_name_next _ _ = false

-- ---- what it has to do with rows

-- the names of the rows that have a parent
abbrev pub names_below : List Row → ℕ → List Span
names_below [] n = []
names_below (row ∷ rows) n = cond (is_parent n row.parent) (option_to_list row.name) [] ++ names_below rows n

abbrev pub is_object : Kind → Bool
is_object kind.Object = true
is_object _ = false

-- the names of each open container are those of the rows below it, and after those of the containers around it
pub data Holds (below : ℕ → List Span) (kinds : ℕ → Kind) : ℕ → List Holder → List Opened → List Span → Type 0 where
  none_open : {n : ℕ} {names : List Span} → Holds below kinds n [] [] names
  one_open : {n : ℕ} {h : Holder} {holders : List Holder} {o : Opened} {outer : List Opened} {names before : List Span}
      → o.row < n → h.before ≡ length before → h.is_object ≡ o.is_object → o.is_object ≡ is_object (kinds o.row) → names ≡ before ++ below o.row
      → Holds below kinds o.row holders outer before → Holds below kinds n (h ∷ holders) (o ∷ outer) names

abbrev pub IsNotOpen : ℕ → List Opened → Type 0
IsNotOpen n [] = Unit {0}
IsNotOpen n (top ∷ outer) = (top.row ≡ n → ⊥) × IsNotOpen n outer

-- at this offset begins a name that an object which is not open repeats
pub record IsEndedRepeat (text : List ℕ) (below : ℕ → List Span) (kinds : ℕ → Kind) (opened : List Opened) (at : ℕ) : Type 0 where
  pub object : ℕ
  pub is_object : kinds object ≡ kind.Object
  pub ended : IsNotOpen object opened
  pub repeats : IsRepeatedName text (below object) at

-- the names that are kept of a text from which this is built
pub record IsHeldOf (text : List ℕ) (b : Building) (h : Held) : Type 0 where
  pub text_is : h.text ≡ text
  pub name_is : h.name ≡ b.name
  pub holds : Holds (names_below b.rows) (kind_at b.rows) (length b.rows) h.opened b.opened h.names
  pub none_later : (n : ℕ) → length b.rows ≤ n → names_below b.rows n ≡ []
  pub least : IsLeast (IsEndedRepeat text (names_below b.rows) (kind_at b.rows) b.opened) h.first
