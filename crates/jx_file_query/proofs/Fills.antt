-- The parts of a container have all of its children.
use Rattle.std.proofs.Common.{◌≡◌, ℕ, suc, ◌+◌, ◌-◌, ◌<◌, List, [], ◌∷◌, length, drop, refl, sym, subst, arith}
use Rattle.jx_summary.specs.declared.span.Span.{Span}
use Rattle.jx_run.specs.declared.texts.settings.Settings.{Settings}
use Rattle.jx_run.specs.Laws.{span_of}
use Rattle.jx_run.specs.Telling.{IsAcceptedFrom}
use Rattle.jx_run.specs.Tree.{Tree, Children, span}
use Rattle.jx_run.specs.Grammar.{Value, leaf, empty_array, array, empty_object, object}
use Rattle.jx_file_query.proofs.Behinds.{left_byte}
use Rattle.jx_file_query.specs.declared.part.ContainerPart.{ContainerPart}
use Rattle.jx_file_query.specs.PartLaws.{Follow}
use Rattle.jx_file_query.specs.Parts.{IsIn, Place, parted, parts_of, places, places_in}
use Rattle.jx_file_query.proofs.Children.{items_chained, members_chained}
use Rattle.jx_file_query.proofs.Lists.{Chained, follows}
use Rattle.jx_file_query.proofs.Texts.{Laws, container_inside}

module _ (parts : ℕ) where
  filled : (i j : ℕ) (cs : List Place) → Chained i j cs → Follow i 0 (suc j - 1) (length cs) (parted parts (span i (suc j)) 0 cs)
  filled i j cs chain =
      subst (λ (n : ℕ). Follow i 0 n (length cs) (parted parts (span i (suc j)) 0 cs)) (let e : j ≡ suc j - 1 = omega arith in e)
      (subst (λ (n : ℕ). Follow i 0 j n (parted parts (span i (suc j)) 0 cs)) (let e : 0 + length cs ≡ length cs = omega arith in e) (follows parts (span i (suc j)) 0 i j cs chain))

  value_filled : (text : List ℕ) {i j : ℕ} {t rest : List ℕ} {tree : Tree} → Value i t j rest tree → drop i text ≡ t → 0 < length (places_in text tree)
      → Follow (span_of tree).start 0 ((span_of tree).end - 1) (length (places_in text tree)) (parts_of parts text tree)
  value_filled text (leaf x) there some = absurd (omega (arith, some))
  value_filled text (empty_array bs) there some = absurd (omega (arith, some))
  value_filled text (array {i = i} {j = j} {bytes = t} {children = children} xs) there some = filled i j (places text i children) (items_chained text xs (left_byte text 0x5b t i there) i)
  value_filled text (empty_object bs) there some = absurd (omega (arith, some))
  value_filled text (object {i = i} {j = j} {bytes = t} {children = children} xs) there some = filled i j (places text i children) (members_chained text xs (left_byte text 0x7b t i there) i)

  pub container_filled : (laws : Laws) (settings : Settings) (text : List ℕ) (container : Tree) → IsAcceptedFrom settings text → IsIn settings text container → 0 < length (places_in text container)
      → Follow (span_of container).start 0 ((span_of container).end - 1) (length (places_in text container)) (parts_of parts text container)
  container_filled laws settings text container a x some = let in_text = container_inside laws settings text a container x in value_filled text in_text.value in_text.there some
