-- Which elements of an input are due, and the line of each. An element is due once the comma or the bracket after it
-- was read, before the first fault: of what begins a text, whatever goes on with it.
use Rattle.std.specs.Prelude.{◌≡◌, ℕ, suc, List, [], ◌∷◌, ◌++◌, ◌==◌, ◌&&◌, codes, drop, take, filter, flat_map, if◌then◌else◌, nat_lt, slice_range, Bool, true, false, Option, Some, None}
use Rattle.jx_compact.specs.Compact.{compact, is_no_blank}
use Rattle.jx_lex.specs.declared.kind.Kind.{Kind}
use Rattle.jx_lex.specs.declared.kind.Kind.TheVariants as kind
use Rattle.jx_summary.specs.declared.span.Span.{Span}
use Rattle.jx_run.specs.declared.texts.settings.Settings.{Settings}
use Rattle.jx_run.specs.Laws.{span_of}
use Rattle.jx_run.specs.Settings.{IsDocumentBy, IsLongestBeginningBy}
use Rattle.jx_run.specs.Tree.{Tree, node, Children, no_children, child}
use Rattle.jx_index.specs.ArrayTokens.{is_index, value_after}
use Rattle.jx_index.specs.Names.{is_name}
use Rattle.jx_index.specs.Pointers.{tokens}
use Rattle.jx_each.specs.declared.content.LineContent.{LineContent}
use Rattle.jx_each.specs.declared.content.LineContent.TheVariants.{Alone, Named, NameAlone, Empty}

-- ---- what a pointer leads to, by the first member of each name (RFC 6901, section 4)

-- the first child that passes a test of its name and of the number of children before it
abbrev pub first_by : (Option Span → ℕ → Bool) → ℕ → Children → Option Tree
first_by test n no_children = None
first_by test n (child name tree more) = if test name n then Some tree else first_by test (suc n) more

-- a token names the element after so many others
abbrev pub is_number : List ℕ → ℕ → Bool
is_number token n = is_index token && (value_after 0 token == n)

-- the element that a token names, or the first member of that name; a scalar has neither
abbrev pub first_child : List ℕ → List ℕ → Tree → Option Tree
first_child text token (node kind.Array span below) = first_by (λ name n. is_number token n) 0 below
first_child text token (node kind.Object span below) = first_by (λ name n. is_name text token name) 0 below
first_child text token (node kind.String span below) = None
first_child text token (node kind.Number span below) = None
first_child text token (node kind.True span below) = None
first_child text token (node kind.False span below) = None
first_child text token (node kind.Null span below) = None

abbrev pub then_to : Option Tree → (Tree → Option Tree) → Option Tree
then_to None on = None
then_to (Some tree) on = on tree

-- the value that tokens lead to
abbrev pub reached : List ℕ → List (List ℕ) → Tree → Option Tree
reached text [] tree = Some tree
reached text (token ∷ more) tree = then_to (first_child text token tree) (reached text more)

-- ---- elements

-- the value of an element or of a member, and the span of the member's name
pub record Element : Type 0 where
  pub name : Option Span
  pub tree : Tree

abbrev pub all_in : Children → List Element
all_in no_children = []
all_in (child name tree more) = record { name = name; tree = tree } ∷ all_in more

-- the members of an object, in order; no other value has names
abbrev pub members_in : Kind → Children → List Element
members_in kind.Object below = all_in below
members_in kind.Array below = []
members_in kind.String below = []
members_in kind.Number below = []
members_in kind.True below = []
members_in kind.False below = []
members_in kind.Null below = []

-- the elements that have a line: those of an array or the members of an object, or where names are written the latter
-- alone
abbrev pub elements : LineContent → Tree → List Element
elements Alone (node kind span below) = all_in below
elements Named (node kind span below) = members_in kind below
elements NameAlone (node kind span below) = members_in kind below
elements Empty (node kind span below) = all_in below

-- those of the value that tokens lead to, if there is one
abbrev pub elements_of : LineContent → Option Tree → List Element
elements_of content None = []
elements_of content (Some tree) = elements content tree

abbrev pub elements_at : LineContent → List ℕ → List (List ℕ) → Tree → List Element
elements_at content text path tree = elements_of content (reached text path tree)

-- whether it is an array or an object
abbrev pub is_container : Tree → Bool
is_container (node kind.Array span below) = true
is_container (node kind.Object span below) = true
is_container (node kind.String span below) = false
is_container (node kind.Number span below) = false
is_container (node kind.True span below) = false
is_container (node kind.False span below) = false
is_container (node kind.Null span below) = false

-- ---- one element

-- the compact form of its bytes
abbrev pub value_of : List ℕ → Tree → List ℕ
value_of text tree = compact (slice_range text (span_of tree).start (span_of tree).end)

-- a name as it is written
abbrev pub name_of : List ℕ → Option Span → List ℕ
name_of text None = []
name_of text (Some span) = slice_range text span.start span.end

-- its value alone, a JSON text of its name and its value, its name alone, or no byte; and a line feed
abbrev pub element_line : LineContent → List ℕ → Element → List ℕ
element_line Alone text element = value_of text element.tree ++ 0x0a ∷ []
element_line Named text element = codes "{\"name\":" ++ name_of text element.name ++ codes ",\"value\":" ++ value_of text element.tree ++ codes "}\n"
element_line NameAlone text element = name_of text element.name ++ 0x0a ∷ []
element_line Empty text element = 0x0a ∷ []

-- the offset of the first byte that is no white space, of those from an offset on
abbrev pub past_blanks : ℕ → List ℕ → ℕ
past_blanks at [] = at
past_blanks at (byte ∷ bytes) = if is_no_blank byte then at else past_blanks (suc at) bytes

-- the offset of the comma or the bracket after it
abbrev pub behind : List ℕ → Element → ℕ
behind text element = past_blanks (span_of element.tree).end (drop (span_of element.tree).end text)

-- ---- all

-- the lines of those whose comma or bracket is before an offset
abbrev pub lines_before : LineContent → List ℕ → ℕ → List Element → List ℕ
lines_before content text k elements = flat_map (element_line content text) (filter (λ (element : Element). nat_lt (behind text element) k) elements)

-- the lines of all elements that a pointer leads to
abbrev pub all_lines_by : LineContent → List ℕ → List ℕ → Tree → List ℕ
all_lines_by content text pointer tree = flat_map (element_line content text) (elements_at content text (tokens pointer) tree)

-- the lines that are due of an input, by a pointer to the container
pub record IsDueBy (content : LineContent) (settings : Settings) (pointer input output : List ℕ) : Type 0 where
  -- its first fault, if it has one, stands here
  pub k : ℕ
  pub longest : IsLongestBeginningBy settings input k
  -- some text begins with the bytes before it
  pub more : List ℕ
  pub tree : Tree
  pub text : IsDocumentBy settings 0 (take k input ++ more) tree
  pub written : output ≡ lines_before content (take k input ++ more) k (elements_at content (take k input ++ more) (tokens pointer) tree)

-- where values alone are written
abbrev pub all_lines : List ℕ → List ℕ → Tree → List ℕ
all_lines text pointer tree = all_lines_by Alone text pointer tree

abbrev pub IsDue : Settings → List ℕ → List ℕ → List ℕ → Type 0
IsDue settings pointer input output = IsDueBy Alone settings pointer input output
