-- An unboxed value by value: the pointer and the handle as one machine value, and what it owns. Assumes `Logic`.
use Rattle.std.proofs.Common.{◌&&◌, true, ◌≡◌, List, [], ◌∷◌, ◌++◌, refl, ap, ◌∙◌, ℕ}
use lib.Dec.{T}
use mir.Raw.{raw as bare}
use mir.Syntax.{dnil, impl, tnil}
use mir.Val.{Val, WT, has_ty, of_list, vcons, vnil, vptr, vstruct}
use seplogic.Ra.Ura.{Ura}
use base.Logic.{fst∗, never}
use types.Kit.{Goal, Item, Seq, Step, drop, feq_i, feq_l, fjoin, fpack, fpick, fsplit, move, step, ‵, ◌$◌}
use types.Logic.{Logic, sem}
use denote.Builtin.{RawPtr}
use denote.Memory.{lone}
use denote.Param.{layout}
use denote.Param.Laws.{Laws}
use denote.RattleType.{RattleType, Valss}
use denote.RawPtr.{Ptr, block_ptr, in_a_block, null_ptr, ptr_val}
use denote.Steps.{nothing}
use denote.Struct.Owning.{shape}
use denote.Struct.Struct.{within}
use Rattle.core.proofs.alloc.Calls.{Al, handle_tells}
use Rattle.core.proofs.cell.Inside.{Good}
use Rattle.core.specs.declared.alloc.Allocator.{Ghosts}
use Rattle.std_alloc.proofs.ResultValues.{and_tt}
use Rattle.std_alloc.specs.Box.Ownership.{box_owns}
use Rattle.jx_c.specs.contracts.shapes.unboxed.Unboxed as unboxed

-- at this place of this block, with this handle
abbrev pub word : ℕ → ℕ → Val → Val
word b o h = vstruct (vcons (vptr b o) (vcons h vnil))

module _ (R Z : RattleType) (L : Laws Z) (g : Ghosts Z.Denot) where
  abbrev pub Row : RattleType
  Row = unboxed.the_row R Z g

  abbrev al : Al
  al = record { row = Z; laws = L; g = g; d = impl [] tnil dnil; drops = impl [] tnil dnil }

  pub typed : (b o : ℕ) (h : Val) → Good (layout Z) h → T (has_ty (layout Z) h && true) × WT (word b o h)
  typed b o h fits = (and_tt (has_ty (layout Z) h) fits.0, (tt, (fits.1, tt)))

  module _ {M : Type 1} {𝓤 : Ura M} {𝓛 : Logic 𝓤} {K : Type 0} {Γ : List (Item 𝓤)} {G : Goal 𝓤 𝓛.H} where
    pub taken_apart : K → (u : Row.Denot) (vs : List Val)
        → ((b o : ℕ) (h : Val) → u.at ≡ block_ptr b o → vs ≡ word b o h ∷ [] → Good (layout Z) h
        → Seq K 𝓛 (‵ (box_owns (g.dealloc_token u.alloc) R (block_ptr b o) u.value) ∷ ‵ (Z.own_val u.alloc (h ∷ [])) ∷ Γ) G)
        → Seq K 𝓛 (‵ (Row.own_val u vs) ∷ Γ) G
    taken_apart t u vs k =
        fsplit t $ fpick t (λ vss. fsplit t $ feq_l t (λ whole. fsplit t $ feq_l t (λ pointer. fsplit t $
        -- [the handle; nothing; the memory]
        handle_tells al t u.alloc vss.1.0 (λ h handle fits. move t (1 ∷ []) $ drop t $ move t (1 ∷ []) $
        in_a_block t u.at (λ p. box_owns (g.dealloc_token u.alloc) R p u.value) (fst∗ 𝓤 (never 𝓤) (sem 𝓛 (g.dealloc_token u.alloc (bare (lone R.mir)) null_ptr))) (λ b o e.
        k b o h e (whole ∙ (λ i. vstruct (of_list ((pointer ∙ ap (λ (p : Ptr). ptr_val p ∷ []) e) i ++ (handle i ++ []))) ∷ [])) fits)))))

    pub put_together : K → (b o : ℕ) (h : Val) (a : Z.Denot) (x : R.Denot)
        → Step K 𝓛 (‵ (Row.own_val (record { at = block_ptr b o; alloc = a; value = x }) (word b o h ∷ [])) ∷ Γ) G (‵ (box_owns (g.dealloc_token a) R (block_ptr b o) x) ∷ ‵ (Z.own_val a (h ∷ [])) ∷ Γ) G
    put_together t b o h a x = step (λ s. let w : Val = word b o h in
        nothing t $ move t (2 ∷ 0 ∷ []) $ fjoin t $ feq_i t (List Val) (vptr b o ∷ []) (vptr b o ∷ []) refl $ fjoin t $ feq_i t (List Val) (w ∷ []) (w ∷ []) refl $ fjoin t $
        fpack t (Valss (RawPtr ∷ Z ∷ [])) (within (shape (unboxed.the_type R Z g)) (block_ptr b o, (a, tt)) (w ∷ [])) (vptr b o ∷ [], (h ∷ [], tt)) $ fjoin t $ s)
