-- The parts of an array or an object for so many loaders: whole children, each in the part in which the comma before it stands
-- (RFC 8259, sections 4 and 5).
use Rattle.std.specs.Prelude.{◌≡◌, ℕ, suc, ◌-◌, ◌*◌, ◌/◌, ◌==◌, List, [], ◌∷◌, Ok, if◌then◌else◌}
use Rattle.jx_lex.specs.declared.kind.Kind.{Kind}
use Rattle.jx_lex.specs.declared.kind.Kind.TheVariants as kind
use Rattle.jx_summary.specs.declared.span.Span.{Span}
use Rattle.jx_run.specs.declared.texts.settings.Settings.{Settings}
use Rattle.jx_run.specs.Laws.{span_of}
use Rattle.jx_run.specs.Settings.{IsDocumentBy}
use Rattle.jx_run.specs.Tree.{Tree, node, Children, no_children, child, span}
use Rattle.jx_index.specs.Leads.{Numbered, kind_of, led}
use Rattle.jx_each.specs.Due.{behind}
use Rattle.jx_file_query.specs.declared.part.ContainerPart.{ContainerPart}

-- ---- children

-- where the comma before a child stands, or the container's bracket before the first; and the comma or the bracket
-- after it
pub record Place : Type 0 where
  pub before : ℕ
  pub behind : ℕ

-- those of children in order; the comma or the bracket before the first one stands at an offset
abbrev pub places : List ℕ → ℕ → Children → List Place
places text at no_children = []
places text at (child name tree more) =
    record { before = at; behind = behind text (record { name = name; tree = tree }) } ∷ places text (behind text (record { name = name; tree = tree })) more

abbrev pub places_in : List ℕ → Tree → List Place
places_in text (node kind span below) = places text span.start below

-- ---- parts

-- in which part of so many an offset of a container stands
abbrev pub part_of : ℕ → Span → ℕ → ℕ
part_of parts whole at = ((at - whole.start) * parts) / (whole.end - whole.start)

-- a part with one child, which has a number among all
abbrev pub alone : ℕ → ℕ → Place → ContainerPart
alone number first c = record { number = number; span = span (suc c.before) c.behind; first = first; end = suc first }

-- a child in front of others: it stands in the first of their parts, if that is its own
abbrev pub put : ℕ → ℕ → Place → List ContainerPart → List ContainerPart
put number first c [] = alone number first c ∷ []
put number first c (p ∷ ps) =
    if p.number == number then record p { span = span (suc c.before) p.span.end; first = first } ∷ ps else alone number first c ∷ (p ∷ ps)

-- the parts of children, of which the first has a number among all
abbrev pub parted : ℕ → Span → ℕ → List Place → List ContainerPart
parted parts whole first [] = []
parted parts whole first (c ∷ cs) = put (part_of parts whole c.before) first c (parted parts whole (suc first) cs)

-- those that have a child, of so many into which a container's bytes are cut
abbrev pub parts_of : ℕ → List ℕ → Tree → List ContainerPart
parts_of parts text tree = parted parts (span_of tree) 0 (places_in text tree)

-- ---- containers

abbrev pub IsContainer : Kind → Type 0
IsContainer kind.Array = Unit {0}
IsContainer kind.Object = Unit {0}
IsContainer kind.String = ⊥
IsContainer kind.Number = ⊥
IsContainer kind.True = ⊥
IsContainer kind.False = ⊥
IsContainer kind.Null = ⊥

-- a container of a text, to which tokens lead in its tree
pub record IsIn (settings : Settings) (text : List ℕ) (container : Tree) : Type 0 where
  pub tree : Tree
  pub is_text : IsDocumentBy settings 0 text tree
  pub tokens : List (List ℕ)
  pub there : Numbered
  pub led_there : led text tree tokens ≡ Ok there
  pub is_there : there.tree ≡ container
  pub is_container : IsContainer (kind_of container)
