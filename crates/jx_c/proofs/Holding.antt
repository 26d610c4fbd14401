-- A value that C holds behind a handle, by value: its pointer as one machine value, and what it owns. Assumes `Logic`.
use Rattle.std.proofs.Common.{◌≡◌, List, [], ◌∷◌, ◌++◌, refl, ap, ◌∙◌, lit<, subst, ℕ}
use mir.Raw.{raw as bare}
use mir.Syntax.{Sym}
use mir.Val.{Val, of_list, vcons, vnil, vstruct}
use seplogic.Ra.Ura.{Ura}
use base.Fml.{Fml, fsep}
use base.Fraction.{full_share}
use base.Logic.{ent, fst∗, guard, guard_i, never, snd∗, via}
use contract.Monad.{fact_use}
use types.Kit.{Goal, Item, Seq, Step, drop, feq_i, feq_l, fjoin, fpack, fpick, fsplit, given, learn, step, use1, ‵, ◌$◌}
use types.Logic.{Logic, sem}
use denote.Builtin.{RawPtr}
use denote.Memory.{lone}
use denote.Param.{layout}
use denote.RattleType.{RattleType, Valss}
use denote.RawPtr.{Ptr, Testable, block_ptr, in_a_block, lies_at, null_ptr, ptr_val}
use denote.Steps.{nothing}
use denote.Struct.Struct.{Shape, Struct, within}
use Rattle.core.proofs.cell.Inside.{Good}
use Rattle.std.proofs.GlobalToken.{dealloc_token-Testable}
use Rattle.std.specs.contracts.impls.GlobalAllocator.TheImpl.{ghosts}
use Rattle.std.specs.declared.option.Option.{Option}
use Rattle.std.specs.declared.option.Option.TheVariants.{None, Some}
use Rattle.std_alloc.specs.Box.Ownership.{box_owns}
use Rattle.jx_c.specs.Held.{heap, held_at}

abbrev pub word : Ptr → Val
word p = vstruct (vcons (ptr_val p) vnil)

told : {us ps : List Val} {p q : Ptr} → us ≡ vstruct (of_list (ps ++ [])) ∷ [] → ps ≡ ptr_val p ∷ [] → p ≡ q → us ≡ word q ∷ []
told whole pointer e = whole ∙ (λ i. vstruct (of_list ((pointer ∙ ap (λ (r : Ptr). ptr_val r ∷ []) e) i ++ [])) ∷ [])

pub pointed : (p : Ptr) → Good (layout RawPtr) (ptr_val p)
pointed (block_ptr b o) = (tt, tt)
pointed null_ptr = (tt, record { fits = lit< tt })

-- a struct of one pointer, by its name and the types that it is of; behind the pointer a value of this type
module _ (name : Sym) (types : List RattleType) (R : RattleType) where
  abbrev pub shape : Shape
  shape = record { name = name; args = []; types = types; fields = RawPtr ∷ [] }

  pub typed : (p : Ptr) → Good (layout (Struct shape)) (word p)
  typed (block_ptr b o) = (tt, (tt, tt))
  typed null_ptr = (tt, (record { fits = lit< tt }, tt))

  abbrev pub own : Ptr → Option R.Denot → List Val → Fml
  own p h us = fsep ((Struct shape).own_val (p, tt) us) (held_at R p h)

  module _ {M : Type 1} {𝓤 : Ura M} (𝓛 : Logic 𝓤) (p : Ptr) (x : R.Denot) where
    tested : ent 𝓤 (sem 𝓛 (box_owns (ghosts.dealloc_token heap) R p x)) (guard 𝓤 (Testable p) (sem 𝓛 (box_owns (ghosts.dealloc_token heap) R p x)))
    tested = fact_use 𝓤 (Testable p) (via 𝓤 _ (snd∗ 𝓤 (sem 𝓛 (lies_at R full_share p x)) (sem 𝓛 (ghosts.dealloc_token heap (bare (lone R.mir)) p))) (dealloc_token-Testable 𝓛 heap (bare (lone R.mir)) p))
        (guard_i 𝓤 (Testable p) (sem 𝓛 (box_owns (ghosts.dealloc_token heap) R p x)))

  module _ {M : Type 1} {𝓤 : Ura M} {𝓛 : Logic 𝓤} {K : Type 0} {Γ : List (Item 𝓤)} {G : Goal 𝓤 𝓛.H} where
    by_pointer : K → (p : Ptr) (h : Option R.Denot) → (p ≡ null_ptr → h ≡ None → Seq K 𝓛 Γ G)
        → ((b o : ℕ) (x : R.Denot) → p ≡ block_ptr b o → h ≡ Some x → Testable (block_ptr b o) → Seq K 𝓛 (‵ (box_owns (ghosts.dealloc_token heap) R (block_ptr b o) x) ∷ Γ) G)
        → Seq K 𝓛 (‵ (held_at R p h) ∷ Γ) G
    by_pointer t p None none one = feq_l t (λ e. none e refl)
    by_pointer t p (Some x) none one = use1 𝓛 (given (Testable p) (‵ (box_owns (ghosts.dealloc_token heap) R p x))) (tested 𝓛 p x) $ learn t (λ may.
        in_a_block t p (λ q. box_owns (ghosts.dealloc_token heap) R q x) (fst∗ 𝓤 (never 𝓤) (sem 𝓛 (ghosts.dealloc_token heap (bare (lone R.mir)) null_ptr))) (λ b o e. one b o x e refl (subst Testable e may)))

    -- the pointer, and what it leads to
    pub opened : K → (p : Ptr) (h : Option R.Denot) (us : List Val) → (us ≡ word p ∷ [] → Seq K 𝓛 (‵ (held_at R p h) ∷ Γ) G) → Seq K 𝓛 (‵ (own p h us) ∷ Γ) G
    opened t p h us k = fsplit t $ fpick t (λ vss. fsplit t $ feq_l t (λ whole. fsplit t $ feq_l t (λ pointer. drop t $ k (told whole pointer refl))))

    -- by what it holds: the pointer is null, or leads to the value's block
    pub taken_apart : K → (p : Ptr) (h : Option R.Denot) (us : List Val) → (us ≡ word null_ptr ∷ [] → h ≡ None → Seq K 𝓛 Γ G)
        → ((b o : ℕ) (x : R.Denot) → us ≡ word (block_ptr b o) ∷ [] → h ≡ Some x → Testable (block_ptr b o) → Seq K 𝓛 (‵ (box_owns (ghosts.dealloc_token heap) R (block_ptr b o) x) ∷ Γ) G)
        → Seq K 𝓛 (‵ (own p h us) ∷ Γ) G
    taken_apart t p h us none one = fsplit t $ fpick t (λ vss. fsplit t $ feq_l t (λ whole. fsplit t $ feq_l t (λ pointer. drop t $
        by_pointer t p h (λ e is. none (told whole pointer e) is) (λ b o x e is may. one b o x (told whole pointer e) is may))))

    pub put_together : K → (p : Ptr) (h : Option R.Denot) → Step K 𝓛 (‵ (own p h (word p ∷ [])) ∷ Γ) G (‵ (held_at R p h) ∷ Γ) G
    put_together t p h = step (λ s. nothing t $ feq_i t (List Val) (ptr_val p ∷ []) (ptr_val p ∷ []) refl $ fjoin t $ feq_i t (List Val) (word p ∷ []) (word p ∷ []) refl $ fjoin t $
        fpack t (Valss (RawPtr ∷ [])) (within shape (p, tt) (word p ∷ [])) (ptr_val p ∷ [], tt) $ fjoin t $ s)
