-- The value to which a pointer's tokens lead, noted in one pass through the token starts and ends of a text.
use Rattle.std.specs.Prelude.{ℕ, zero, suc, ◌==◌, ◌&&◌, List, [], ◌∷◌, Option, None, Some, Bool, true, false, cond, slice_get, replicate, Result, Ok, Err}
use Rattle.jx_lex.specs.declared.kind.Kind.{Kind}
use Rattle.jx_lex.specs.declared.kind.Kind.TheVariants as kind
use Rattle.jx_lex.specs.declared.alphabet.mark.Mark.{Mark}
use Rattle.jx_lex.specs.declared.alphabet.mark.MarkKind.{MarkKind}
use Rattle.jx_lex.specs.declared.alphabet.mark.MarkKind.TheVariants as mark
use Rattle.jx_summary.specs.declared.span.Span.{Span}
use Rattle.jx_run.specs.Tree.{span}
use Rattle.jx_index.specs.ArrayTokens.{is_index, value_after, place_in}
use Rattle.jx_index.specs.Names.{is_name}
use Rattle.jx_index.specs.declared.array_token.Place.{Place}
use Rattle.jx_index.specs.declared.array_token.Place.TheVariants as place
use Rattle.jx_index.specs.declared.find_fault.FindFault.{FindFault}
use Rattle.jx_index.specs.declared.find_fault.FindFault.TheVariants.{NoSuchMember, NameRepeated, NotAnIndex, PastEnd, AfterLast, NotAContainer}
use Rattle.jx_index.specs.declared.finder.Cursor.{Cursor}
use Rattle.jx_index.specs.declared.finder.Found.{Found}
use Rattle.jx_index.specs.declared.finder.Met.{Met}
use Rattle.jx_index.specs.declared.finder.Met.TheVariants as met
use Rattle.jx_index.specs.inside.Building.{next_end, ends_after}

-- ---- the tokens

-- the token names the element at this place
abbrev pub is_place : List ℕ → ℕ → Bool
is_place token place = is_index token && (value_after 0 token == place)

abbrev pub names_place : Option (List ℕ) → ℕ → Bool
names_place None place = false
names_place (Some token) place = is_place token place

abbrev pub names_member : List ℕ → Option (List ℕ) → Option Span → Bool
names_member text None name = false
names_member text (Some token) name = is_name text token name

-- the token after so many that have led on
abbrev pub is_element : List (List ℕ) → ℕ → ℕ → Bool
is_element tokens level place = names_place (slice_get tokens level) place

abbrev pub is_member : List ℕ → List (List ℕ) → ℕ → Option Span → Bool
is_member text tokens level name = names_member text (slice_get tokens level) name

abbrev pub one_deeper : Bool → ℕ → Option ℕ
one_deeper hit level = cond hit (Some (suc level)) None

-- ---- what was met

abbrev pub met_more : Found → Met → Met
met_more found met.Never = met.Once found
met_more found (met.Once _) = met.Again
met_more found met.Again = met.Again

abbrev pub met_ended : ℕ → Met → Met
met_ended end met.Never = met.Never
met_ended end (met.Once found) = met.Once (record found { span = span found.span.start end })
met_ended end met.Again = met.Again

abbrev pub change : (Met → Met) → ℕ → List Met → List Met
change f level [] = []
change f zero (m ∷ ms) = f m ∷ ms
change f (suc level) (m ∷ ms) = m ∷ change f level ms

abbrev pub meet : Kind → Span → ℕ → List Met → List Met
meet kind span level all = change (met_more (record { kind = kind; span = span })) level all

abbrev pub shut : ℕ → ℕ → List Met → List Met
shut end level all = change (met_ended end) level all

-- ---- the state

-- the tokens that were met after so many; the open containers to which tokens lead, innermost first; how many are open
-- below them to which none leads; and of a name whose value is still to come, where that leads
pub record Finding : Type 0 where
  pub met : List Met
  pub opened : List Cursor
  pub skipped : ℕ
  pub name : Option (Option ℕ)

abbrev pub counted : List Cursor → List Cursor
counted [] = []
counted (top ∷ outer) = record top { count = suc top.count } ∷ outer

abbrev pub behind_name : Option (Option ℕ) → Option ℕ
behind_name None = None
behind_name (Some target) = target

-- how many tokens lead to the next value, where they do
abbrev pub target_in : List (List ℕ) → List Cursor → Option (Option ℕ) → Option ℕ
target_in tokens [] name = Some 0
target_in tokens (top ∷ outer) name = cond top.is_object (behind_name name) (one_deeper (is_element tokens top.level top.count) top.level)

abbrev pub target : List (List ℕ) → Finding → Option ℕ
target tokens f = target_in tokens f.opened f.name

abbrev pub leaf_at : Option ℕ → Kind → Span → Finding → Finding
leaf_at None kind span f = record { met = f.met; opened = counted f.opened; skipped = f.skipped; name = None }
leaf_at (Some level) kind span f = record { met = meet kind span level f.met; opened = counted f.opened; skipped = f.skipped; name = None }

abbrev pub begin_at : Option ℕ → Kind → Bool → ℕ → Finding → Finding
begin_at None kind is_object at f = record { met = f.met; opened = counted f.opened; skipped = 1; name = None }
begin_at (Some level) kind is_object at f =
    record {
      met = meet kind (span at (suc at)) level f.met;
      opened = record { level = level; is_object = is_object; count = 0 } ∷ counted f.opened;
      skipped = f.skipped;
      name = None;
    }

abbrev pub end_in : ℕ → List Cursor → Finding → Finding
end_in end [] f = f
end_in end (top ∷ outer) f = record { met = shut end top.level f.met; opened = outer; skipped = f.skipped; name = None }

-- a string is a name where a member of an object begins: how many tokens lead to that object
abbrev pub naming : List Cursor → Option (Option ℕ) → Option ℕ
naming [] name = None
naming (top ∷ outer) None = cond top.is_object (Some top.level) None
naming (top ∷ outer) (Some waiting) = None

abbrev pub string_at : Option ℕ → List ℕ → List (List ℕ) → Span → Finding → Finding
string_at None text tokens span f = leaf_at (target tokens f) kind.String span f
string_at (Some level) text tokens span f = record f { name = Some (one_deeper (is_member text tokens level (Some span)) level) }

-- a token start at an offset where nothing is skipped, and its end where it has one
abbrev pub on_path : List ℕ → List (List ℕ) → MarkKind → ℕ → ℕ → Finding → Finding
on_path text tokens mark.OpenArray at end f = begin_at (target tokens f) kind.Array false at f
on_path text tokens mark.OpenObject at end f = begin_at (target tokens f) kind.Object true at f
on_path text tokens mark.CloseArray at end f = end_in (suc at) f.opened f
on_path text tokens mark.CloseObject at end f = end_in (suc at) f.opened f
on_path text tokens mark.Colon at end f = f
on_path text tokens mark.Comma at end f = f
on_path text tokens mark.String at end f = string_at (naming f.opened f.name) text tokens (span at end) f
on_path text tokens mark.Number at end f = leaf_at (target tokens f) kind.Number (span at end) f
on_path text tokens mark.True at end f = leaf_at (target tokens f) kind.True (span at end) f
on_path text tokens mark.False at end f = leaf_at (target tokens f) kind.False (span at end) f
on_path text tokens mark.Null at end f = leaf_at (target tokens f) kind.Null (span at end) f

-- how many containers are skipped after a token start
abbrev pub skip_over : MarkKind → ℕ → ℕ
skip_over mark.OpenArray skipped = suc (suc skipped)
skip_over mark.OpenObject skipped = suc (suc skipped)
skip_over mark.CloseArray skipped = skipped
skip_over mark.CloseObject skipped = skipped
skip_over _ skipped = suc skipped

abbrev pub noted_in : ℕ → List ℕ → List (List ℕ) → MarkKind → ℕ → ℕ → Finding → Finding
noted_in zero text tokens kind at end f = on_path text tokens kind at end f
noted_in (suc skipped) text tokens kind at end f = record f { skipped = skip_over kind skipped }

abbrev pub noted : List ℕ → List (List ℕ) → MarkKind → ℕ → ℕ → Finding → Finding
noted text tokens kind at end f = noted_in f.skipped text tokens kind at end f

-- `last` is the end of the text
unfoldable pub seek : List ℕ → List (List ℕ) → ℕ → List Mark → List ℕ → Finding → Finding
seek text tokens last [] ends f = f
seek text tokens last (mark ∷ marks) ends f =
    seek text tokens last marks (ends_after mark.kind ends) (noted text tokens mark.kind mark.at (next_end last ends) f)

-- nothing was met yet where so many tokens lead, or fewer
abbrev pub never : ℕ → List Met
never n = replicate (suc n) met.Never

abbrev pub nothing_met : ℕ → Finding
nothing_met n = record { met = never n; opened = []; skipped = 0; name = None }

-- ---- the answer

abbrev pub met_in : Option Met → Met
met_in None = met.Again
met_in (Some m) = m

-- the tokens that were met after so many
abbrev pub met_at : List Met → ℕ → Met
met_at all level = met_in (slice_get all level)

abbrev pub missing_place : Place → ℕ → FindFault
missing_place place.AfterLast level = AfterLast level
missing_place place.NotAnIndex level = NotAnIndex level
missing_place place.PastEnd level = PastEnd level
missing_place (place.Element i) level = PastEnd level

-- why a token leads nowhere from a value of this kind
abbrev pub missing : Kind → List ℕ → ℕ → FindFault
missing kind.Object token level = NoSuchMember level
missing kind.Array token level = missing_place (place_in token 0) level
missing _ token level = NotAContainer level

abbrev pub read_met : Met → Kind → List ℕ → ℕ → (Found → Result Found FindFault) → Result Found FindFault
read_met met.Never kind token level on = Err (missing kind token level)
read_met (met.Once next) kind token level on = on next
read_met met.Again kind token level on = Err (NameRepeated level)

-- from what was met once after so many tokens, by the others
abbrev pub read_from : List Met → List (List ℕ) → ℕ → Found → Result Found FindFault
read_from all [] level here = Ok here
read_from all (token ∷ tokens) level here = read_met (met_at all (suc level)) here.kind token level (λ next. read_from all tokens (suc level) next)

-- from the root, which is met once in a text
abbrev pub read_root : Met → List Met → List (List ℕ) → Result Found FindFault
read_root met.Never all tokens = Err (NotAContainer 0)
read_root (met.Once root) all tokens = read_from all tokens 0 root
read_root met.Again all tokens = Err (NotAContainer 0)
