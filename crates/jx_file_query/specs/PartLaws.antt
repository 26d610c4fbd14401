-- The parts of a container, and its bytes and children.
use Rattle.std.specs.Prelude.{◌≡◌, ◌-◌, ◌<◌, ℕ, suc, List, [], ◌∷◌, length}
use Rattle.jx_run.specs.declared.texts.settings.Settings.{Settings}
use Rattle.jx_run.specs.Laws.{span_of}
use Rattle.jx_run.specs.Tree.{Tree}
use Rattle.jx_file_query.specs.declared.part.ContainerPart.{ContainerPart}
use Rattle.jx_file_query.specs.Parts.{IsIn, parts_of, places_in}

-- they follow one another, from after a comma or a bracket on, and from a child's number on, up to another of both:
-- between two of them one comma stands, and each has a child
pub data Follow : ℕ → ℕ → ℕ → ℕ → List ContainerPart → Type 0 where
  none : {at n : ℕ} → Follow at n at n []
  more : {at n last count : ℕ} {p : ContainerPart} {ps : List ContainerPart} → p.span.start ≡ suc at → p.first ≡ n → n < p.end → Follow p.span.end p.end last count ps → Follow at n last count (p ∷ ps)

-- the parts of a container with a child have all of its children, in order, each once, from its opening bracket up to its
-- closing one
abbrev pub HaveEach : Type 0
HaveEach = (settings : Settings) (text : List ℕ) (container : Tree) (parts : ℕ) → IsIn settings text container → 0 < length (places_in text container)
    → Follow (span_of container).start 0 ((span_of container).end - 1) (length (places_in text container)) (parts_of parts text container)
