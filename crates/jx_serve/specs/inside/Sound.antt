-- Values whose objects repeat no name, as they stand in a text.
use Rattle.std.specs.Prelude.{◌≡◌, ◌⊎◌, ◌≤◌, ℕ, zero, suc, ◌+◌, ◌*◌, true, false, List, [], ◌∷◌, ◌++◌, Bool, codes, drop, length, ◌==◌, ◌&&◌, nat_le, not, if◌then◌else◌}
use Rattle.jx_lex.specs.declared.kind.Kind.{Kind}
use Rattle.jx_lex.specs.declared.kind.Kind.TheVariants as kind
use Rattle.std.specs.List.{list_all}
use Rattle.jx_lex.specs.Token.{IsNumber, IsString}
use Rattle.jx_run.specs.Grammar.{Value, Items, Members}
use Rattle.jx_run.specs.Tree.{Tree, node, Children, no_children, child, depth, deepest}
use Rattle.jx_index.specs.Names.{units_of_name}
use Rattle.jx_index.specs.Repeats.{IsAmong}

-- ---- trees

-- the units of the names of children, in order
abbrev pub names_of : List ℕ → Children → List (List ℕ)
names_of text no_children = []
names_of text (child name tree more) = units_of_name text name ∷ names_of text more

-- no two are the same
abbrev pub AreDistinct : List (List ℕ) → Type 0
AreDistinct [] = Unit {0}
AreDistinct (x ∷ xs) = (IsAmong x xs → ⊥) × AreDistinct xs

abbrev pub DistinctFor : Kind → List (List ℕ) → Type 0
DistinctFor kind.Object names = AreDistinct names
DistinctFor _ names = Unit {0}

-- no object repeats a name
abbrev mutual
  pub IsUnique : List ℕ → Tree → Type 0
  IsUnique text (node kind span children) = DistinctFor kind (names_of text children) × AreUnique text children

  pub AreUnique : List ℕ → Children → Type 0
  AreUnique text no_children = Unit {0}
  AreUnique text (child name tree more) = IsUnique text tree × AreUnique text more

-- ---- bytes

-- bytes of a text from an offset on begin with such a value, nested no deeper than the limit, and the others are left
pub record HasValue (text : List ℕ) (limit i : ℕ) (bytes rest : List ℕ) : Type 0 where
  pub end : ℕ
  pub tree : Tree
  pub reads : Value i bytes end rest tree
  pub left : drop end text ≡ rest
  pub within : depth tree ≤ limit
  pub unique : IsUnique text tree

pub record HasItems (text : List ℕ) (limit i : ℕ) (bytes rest : List ℕ) : Type 0 where
  pub end : ℕ
  pub children : Children
  pub reads : Items i bytes end rest children
  pub left : drop end text ≡ rest
  pub within : deepest children ≤ limit
  pub unique : AreUnique text children

pub record HasMembers (text : List ℕ) (limit : ℕ) (names : List (List ℕ)) (i : ℕ) (bytes rest : List ℕ) : Type 0 where
  pub end : ℕ
  pub children : Children
  pub reads : Members i bytes end rest children
  pub left : drop end text ≡ rest
  pub within : deepest children ≤ limit
  pub named : names_of text children ≡ names
  pub unique : AreUnique text children

-- wherever these bytes stand in a text, they are such a value
abbrev pub IsValue : ℕ → List ℕ → List ℕ → Type 0
IsValue limit bytes rest = (text : List ℕ) (i : ℕ) → drop i text ≡ bytes → HasValue text limit i bytes rest

-- or such elements of an array, with commas between them
abbrev pub AreItems : ℕ → List ℕ → List ℕ → Type 0
AreItems limit bytes rest = (text : List ℕ) (i : ℕ) → drop i text ≡ bytes → HasItems text limit i bytes rest

-- or such members of an object
abbrev pub AreMembers : ℕ → List (List ℕ) → List ℕ → List ℕ → Type 0
AreMembers limit names bytes rest = (text : List ℕ) (i : ℕ) → drop i text ≡ bytes → HasMembers text limit names i bytes rest

-- ---- strings that are known by their bytes

-- ASCII that stands for itself in a string
abbrev pub is_plain : ℕ → Bool
is_plain byte = nat_le 0x20 byte && nat_le byte 0x7e && not (byte == 0x22) && not (byte == 0x5c)

abbrev pub are_plain : List ℕ → Bool
are_plain bytes = list_all is_plain bytes

-- a string of nothing else
abbrev pub IsPlain : List ℕ → Type 0
IsPlain bytes = (inside : List ℕ) × ((are_plain inside ≡ true) × (bytes ≡ 0x22 ∷ (inside ++ (0x22 ∷ []))))

-- a byte that may stand for itself in a string, alone or in a character
abbrev pub is_ordinary : ℕ → Bool
is_ordinary byte = nat_le 0x20 byte && not (byte == 0x22) && not (byte == 0x5c)

abbrev pub are_ordinary : List ℕ → Bool
are_ordinary bytes = list_all is_ordinary bytes

-- a string
abbrev pub IsAString : List ℕ → Type 0
IsAString bytes = (units : List ℕ) × IsString bytes units

abbrev pub is_digit : ℕ → Bool
is_digit byte = nat_le 0x30 byte && nat_le byte 0x39

abbrev pub are_digits : List ℕ → Bool
are_digits bytes = list_all is_digit bytes

-- a number without a sign, a fraction and an exponent
abbrev pub is_natural : List ℕ → Bool
is_natural [] = false
is_natural (first ∷ others) = if first == 0x30 then length others == 0 else (nat_le 0x31 first && nat_le first 0x39 && are_digits others)

abbrev pub IsPlainValue : List ℕ → Type 0
IsPlainValue bytes = IsNumber bytes ⊎ IsPlain bytes

-- ---- lists that grow

-- the bytes after the elements of an array so far: the rest, or a comma and others
abbrev pub GoesOn : ℕ → List ℕ → List ℕ → Type 0
GoesOn limit more rest = (more ≡ rest) ⊎ ((bytes : List ℕ) × ((more ≡ 0x2c ∷ bytes) × AreItems limit bytes rest))

-- elements of an array, which may go on
abbrev pub IsList : ℕ → List ℕ → Type 0
IsList limit bytes = (more rest : List ℕ) → GoesOn limit more rest → AreItems limit (bytes ++ more) rest

-- a value, wherever it stands
abbrev pub IsWhole : ℕ → List ℕ → Type 0
IsWhole limit bytes = (rest : List ℕ) → IsValue limit (bytes ++ rest) rest

-- how an element begins that has a list at its end: it ends after the list's bracket and its own
abbrev pub IsHead : ℕ → List ℕ → Type 0
IsHead limit bytes = (items rest : List ℕ) → (items ≡ 0x5d ∷ 0x7d ∷ rest) ⊎ AreItems limit items (0x5d ∷ 0x7d ∷ rest) → IsValue (suc (suc limit)) (bytes ++ items) rest

abbrev pub closing : List ℕ
closing = 0x5d ∷ 0x7d ∷ []

abbrev pub comma : Bool → List ℕ
comma true = []
comma false = 0x2c ∷ []

-- bytes with a head: a list that is empty so far, or has elements
abbrev pub IsBegun : List ℕ → ℕ → Bool → List ℕ → Type 0
IsBegun head limit true bytes = bytes ≡ head
IsBegun head limit false bytes = (list : List ℕ) × ((bytes ≡ head ++ list) × IsList limit list)

-- the same, where so many elements are open, each in the one before it; the innermost list is empty so far or not
abbrev pub IsOpen : List ℕ → ℕ → ℕ → Bool → List ℕ → Type 0
IsOpen head zero limit none bytes = IsBegun head limit none bytes
IsOpen head (suc n) limit none bytes =
    ((list : List ℕ) → IsList limit list → IsOpen head n (suc (suc limit)) false (((bytes ++ comma none) ++ list) ++ closing)) × IsOpen head n (suc (suc limit)) false (bytes ++ closing)

-- ---- what is added to a message

-- how an answer begins that is a list
abbrev pub list_head : List ℕ → List ℕ
list_head id = (codes "{\"jsonrpc\":\"2.0\",\"id\":" ++ id) ++ codes ",\"result\":["

-- a string
pub record AddsString (before after : List ℕ) : Type 0 where
  pub name : List ℕ
  pub units : List ℕ
  pub is_string : IsString name units
  pub whole : after ≡ before ++ name

-- the number of a kind (Language Server Protocol 3.17, "SymbolKind")
abbrev pub symbol_kind : Kind → List ℕ
symbol_kind kind.String = codes "15"
symbol_kind kind.Number = codes "16"
symbol_kind kind.True = codes "17"
symbol_kind kind.False = codes "17"
symbol_kind kind.Array = codes "18"
symbol_kind kind.Object = codes "19"
symbol_kind kind.Null = codes "21"

-- its member, with the commas around it
abbrev pub kind_member : Kind → List ℕ
kind_member kind = (codes ",\"kind\":" ++ symbol_kind kind) ++ codes ","

-- the name and the kind of a value
pub record AddsNamed (before after : List ℕ) : Type 0 where
  pub name : List ℕ
  pub units : List ℕ
  pub kind : List ℕ
  pub is_string : IsString name units
  pub is_kind : IsNumber kind
  pub whole : after ≡ before ++ ((((codes "{\"name\":" ++ name) ++ codes ",\"kind\":") ++ kind) ++ codes ",")

-- a value up to those in it
pub record AddsHead (before after : List ℕ) : Type 0 where
  pub head : List ℕ
  pub is_head : (limit : ℕ) → IsHead (suc limit) head
  pub whole : after ≡ before ++ head

-- so many lists and their elements end
abbrev pub closings : ℕ → List ℕ
closings zero = []
closings (suc n) = closing ++ closings n

-- and a comma follows, where any does
abbrev pub back : ℕ → List ℕ
back zero = []
back (suc n) = closings (suc n) ++ (0x2c ∷ [])

-- so many elements are open, of 100 at most, each two deeper than the one before it
pub record AreOpen (head : List ℕ) (n : ℕ) (none : Bool) (bytes : List ℕ) : Type 0 where
  pub limit : ℕ
  pub deep : limit + 2 * n ≡ 201
  pub is_open : IsOpen head n limit none bytes

-- ---- values in a list, one after another

-- a value
pub record AddsValue (limit : ℕ) (before after : List ℕ) : Type 0 where
  pub value : List ℕ
  pub is_value : IsWhole limit value
  pub whole : after ≡ before ++ value

-- ---- ranges in each other

-- nothing, or a range that another one is in
abbrev pub IsParent : ℕ → List ℕ → Type 0
IsParent limit bytes = (bytes ≡ []) ⊎ ((value : List ℕ) × (IsWhole limit value × (bytes ≡ codes ",\"parent\":" ++ value)))

-- so many objects end
abbrev pub braces : ℕ → List ℕ
braces zero = []
braces (suc n) = 0x7d ∷ braces n

-- so many ranges are open, each in front of the one that it is in: with such a one, or none, and their ends they are a value
abbrev pub AreRanges : ℕ → List ℕ → List ℕ → Type 0
AreRanges n before bytes = (limit : ℕ) (parent : List ℕ) → 2 ≤ limit → IsParent limit parent → AddsValue (limit + n) before ((bytes ++ parent) ++ braces n)
