-- A structure whose forms each went on with the right.
use Rattle.std.proofs.Common.{◌≡◌, List, map, sym, ◌∙◌, ap, subst}
use Rattle.std.proofs.lemmas.List.{length-map}
use Rattle.jx_reduce.specs.Form.{Form}
use Rattle.jx_reduce.specs.Reduced.{form_in}
use Rattle.jx_reduce.specs.Reductions.{Forms, IsSound, IsBefore, IsJoin}
use Rattle.jx_reduce.specs.inside.Follow.{followed}
use Rattle.jx_reduce.specs.inside.View.{forms_of, AreOfDepth}
use Rattle.jx_reduce.specs.declared.reducing.reduced.Reduced.{Reduced}
use Rattle.jx_reduce.specs.declared.reducing.reductions.Reductions.TheInside.{Inside}
use Rattle.jx_reduce.proofs.Places.{count_of, each_changed}
use Rattle.jx_reduce.proofs.Sound.{Follows, is_join}

-- room was made for each form, and then it went on
pub extended : (self right : Forms) (l : Inside) (ms js : List Reduced) → forms_of l ≡ self → self.depth ≡ right.depth → AreOfDepth l
    → map form_in ms ≡ map form_in l.forms
    → map form_in js ≡ map (λ (f : Form). followed right.depth f right) (map form_in ms)
    → Follows (forms_of l) right (forms_of (record { depth = l.depth; forms = js }))
extended self right l ms js view depth eight same on =
    let depths : l.depth ≡ right.depth = ap (λ (f : Forms). f.depth) view ∙ depth in
    record {
      depths = depths;
      depth = depths;
      each = each_changed l.depth l.depth (λ (f : Form). followed right.depth f right) (map form_in l.forms) (map form_in js)
          (length-map l.forms form_in ∙ count_of l.depth l.forms eight) (on ∙ ap (map (λ (f : Form). followed right.depth f right)) same);
    }

pub join_of : (l self r j : Forms) → l ≡ self → Follows l r j → IsBefore self r → IsSound l → IsSound r → IsJoin self r j
join_of l self r j view f b x y = subst (λ v. IsJoin v r j) view (is_join l r j f (subst (λ v. IsBefore v r) (sym view) b) x y)
