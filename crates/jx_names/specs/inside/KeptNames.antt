-- The names of the members of open objects by their bytes, and what they have to do with the names that stand in a text.
use Rattle.std.specs.Prelude.{◌≡◌, ℕ, ◌≤◌, List, [], ◌∷◌, ◌++◌, length, take, drop, map, reverse, Option, None, Some, option_to_list, Bool, true, false, not, slice_range}
use Rattle.std.specs.List.Sorted.{IsSortedBy, IsStableBy}
use Rattle.std.specs.Ordering.{nat_cmp, is_lt}
use Rattle.std.specs.Cmp.Lexicographic.{slice_cmp}
use Rattle.jx_lex.specs.declared.alphabet.mark.MarkKind.{MarkKind}
use Rattle.jx_lex.specs.declared.alphabet.mark.MarkKind.TheVariants as mark
use Rattle.jx_summary.specs.declared.span.Span.{Span}
use Rattle.jx_index.specs.declared.open_names.Holder.{Holder}
use Rattle.jx_index.specs.Repeats.{IsLeast, IsRepeated}
use Rattle.jx_index.specs.Units.{units_at}
use Rattle.jx_index.specs.inside.Building.{Building}
use Rattle.jx_index.specs.inside.OpenNames.{Held, IsHeldOf}
use Rattle.jx_index.specs.inside.Ties.{earlier_of}
use Rattle.jx_names.specs.declared.name_bytes.Name.{Name}
use Rattle.jx_names.specs.declared.open_names.Container.{Container}
use Rattle.jx_names.specs.declared.open_names.OpenNames.{OpenNames}
use Rattle.jx_names.specs.inside.NameBytes.{key_of_bytes, name_bytes}

-- ---- names in a list of bytes

abbrev pub bytes_in : List ℕ → Name → List ℕ
bytes_in bytes name = slice_range bytes name.from name.to

abbrev pub start_of : Name → Option ℕ
start_of name = Some name.at

-- the key of a name, and its bytes
abbrev pub keyed_in : List ℕ → Name → List ℕ
keyed_in bytes name = name.key ∷ bytes_in bytes name

-- those of units
abbrev pub keyed : List ℕ → List ℕ
keyed units = key_of_bytes (name_bytes units) ∷ name_bytes units

-- at this offset begins one of the names that is not the first, by place, among those of its key and bytes
abbrev pub IsRepeatedKept : List ℕ → List Name → ℕ → Type 0
IsRepeatedKept bytes names at = IsRepeated (keyed_in bytes) start_of names at

-- by rising keys, then bytes; equal names by place
pub record IsInKeyOrder (bytes : List ℕ) (names sorted : List Name) : Type 0 where
  pub rising : IsSortedBy (λ a b. is_lt (slice_cmp nat_cmp (keyed_in bytes a) (keyed_in bytes b))) sorted
  pub stable : IsStableBy (λ a b. is_lt (slice_cmp nat_cmp (keyed_in bytes a) (keyed_in bytes b))) names sorted

-- ---- what is kept

-- open containers, innermost first, the names of all of them, the bytes of these and of a name whose value is still to come,
-- that name, and the first name that an ended object repeats
pub record Kept : Type 0 where
  pub opened : List Container
  pub names : List Name
  pub bytes : List ℕ
  pub name : Option Name
  pub first : Option ℕ

abbrev pub kept : OpenNames → Kept
kept names = record { opened = reverse names.opened.items; names = names.names.items; bytes = names.bytes.items; name = names.name; first = names.first }

abbrev pub with_value : Kept → Kept
with_value k = record k { names = k.names ++ option_to_list k.name; name = None }

abbrev pub with_container : Bool → Kept → Kept
with_container is_object k =
    record k {
      opened = record { is_object = is_object; before = length (k.names ++ option_to_list k.name) } ∷ k.opened;
      names = k.names ++ option_to_list k.name;
      name = None;
    }

-- a name that begins at an offset and has these units
abbrev pub with_name : ℕ → List ℕ → Kept → Kept
with_name at units k =
    record k {
      bytes = k.bytes ++ name_bytes units;
      name = Some (record { at = at; from = length k.bytes; to = length (k.bytes ++ name_bytes units); key = key_of_bytes (name_bytes units) });
    }

-- where the bytes of the last name end
abbrev pub end_from : ℕ → List Name → ℕ
end_from low [] = low
end_from low (name ∷ names) = end_from name.to names

-- the bytes that belong to names, where none waits
abbrev pub cut_back : List ℕ → List Name → Option Name → List ℕ
cut_back bytes names None = take (end_from 0 names) bytes
cut_back bytes names (Some name) = bytes

-- the name that is repeated in a container that ends, whose names are those after so many
pub record EndsIn (old : Kept) (top : Container) (outer : List Container) (new : Kept) : Type 0 where
  pub repeated : Option ℕ
  pub in_object : top.is_object ≡ true → IsLeast (IsRepeatedKept old.bytes (drop top.before old.names)) repeated
  pub in_array : top.is_object ≡ false → repeated ≡ None
  pub is : new
      ≡ record old { opened = outer; names = take top.before old.names; bytes = cut_back old.bytes (take top.before old.names) old.name; first = earlier_of old.first repeated }

abbrev pub Ends : List Container → Kept → Kept → Type 0
Ends [] old new = new ≡ old
Ends (top ∷ outer) old new = EndsIn old top outer new

abbrev pub names_next : List Container → Option Name → Bool
names_next (top ∷ outer) None = top.is_object
names_next _ _ = false

-- a value that comes next is a child of an array
abbrev pub is_child_next : List Container → Option Name → Bool
is_child_next (top ∷ outer) None = not top.is_object
is_child_next _ _ = false

-- a token start of this kind, if it comes next, begins a name
abbrev pub is_name_next : MarkKind → Kept → Bool
is_name_next mark.String k = names_next k.opened k.name
is_name_next _ k = false

-- ---- what it has to do with a text

-- a name with the key and the bytes of the one at a span of the text; the bytes of the names before it end at `low`
pub record IsKeptName (text bytes : List ℕ) (low : ℕ) (s : Span) (name : Name) : Type 0 where
  pub at : name.at ≡ s.start
  pub above : low ≤ name.to
  pub order : name.from ≤ name.to
  pub within : name.to ≤ length bytes
  pub is_keyed : keyed_in bytes name ≡ keyed (units_at text s)

-- one after another
abbrev pub AreKept : List ℕ → List ℕ → ℕ → List Span → List Name → Type 0
AreKept text bytes low [] [] = Unit {0}
AreKept text bytes low (s ∷ spans) (name ∷ names) = IsKeptName text bytes low s name × AreKept text bytes name.to spans names
AreKept text bytes low [] (name ∷ names) = ⊥
AreKept text bytes low (s ∷ spans) [] = ⊥

abbrev pub IsKeptToo : List ℕ → List ℕ → ℕ → Option Span → Option Name → Type 0
IsKeptToo text bytes low None None = Unit {0}
IsKeptToo text bytes low (Some s) (Some name) = IsKeptName text bytes low s name
IsKeptToo text bytes low None (Some name) = ⊥
IsKeptToo text bytes low (Some s) None = ⊥

abbrev pub holder : Container → Holder
holder c = record { is_object = c.is_object; before = c.before }

-- the names that are kept of a text by spans are kept by bytes
pub record IsKept (text : List ℕ) (h : Held) (k : Kept) : Type 0 where
  pub opened : h.opened ≡ map holder k.opened
  pub names : AreKept text k.bytes 0 h.names k.names
  pub name : IsKeptToo text k.bytes (end_from 0 k.names) h.name k.name
  pub first : h.first ≡ k.first

-- the names that are kept of a text from which this is built
pub record Stands (text : List ℕ) (b : Building) (k : Kept) : Type 0 where
  pub held : Held
  pub holds : IsHeldOf text b held
  pub kept : IsKept text held k
