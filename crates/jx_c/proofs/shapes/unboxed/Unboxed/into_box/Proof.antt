-- `into_box` gives `from_raw` what it asks for. Assumes `Logic`.
use Rattle.std.proofs.Common.{List, [], ◌∷◌, ◌++◌, ◌≡◌, ap, refl, subst, sym}
use mir.MapTy.{inst_fn}
use mir.Syntax.{Args, Fn, a_type, dcons, dnil}
use mir.Val.{Val, vptr}
use base.Fml.{flft, ftrue}
use base.Logic.{SProp, id⊢}
use contract.BorrowLft.{◌⊑◌}
use contract.Monad.{fact}
use contract.Running.{tables}
use prog.Wp.{WpFn}
use types.ByLocal.{alloc_all, env, free_all, get, get_in, lands_last, look_at, pass_all, sets}
use types.Kit.{ !, at_ret, await, by, drop, feq_i, fjoin, fsplit, join, keep, later, move, pick, prop, qed, raw, regoal, rewrite, some, split, split3, use1, ‵, ◌$◌, ◌∵◌, ◌⊛◌}
use types.Part.{sub, whole}
use types.Run.{and_then, blocks, enter, exec, first, fld, no_more, of_opd, returns, stop}
use denote.Exit.{no}
use denote.Param.Laws.{param_laws}
use denote.Param.{bounded, layout, param}
use denote.RattleType.{RattleType, owns}
use denote.RawPtr.{block_ptr}
use denote.Signature.{plain, types_at}
use denote.Steps.{nothing, only}
use denote.Triple.Call.{calls_at_last}
use denote.Triple.Clauses.{Lasts, lasts}
use denote.Triple.Spec.{triple_of}
use denote.Triple.Table.{framed}
use denote.Triple.Walked.{Stays, stay_dropped, walk_of}
use Rattle.core.proofs.alloc.Calls.{Goes-blank}
use Rattle.core.proofs.alloc.Shapes.{after}
use Rattle.core.proofs.cell.Inside.{Good}
use Rattle.std.proofs.raw_atomic.Walks.{leaves, proved_at}
use Rattle.std_alloc.proofs.BoxSteps.Form as box
use Rattle.std_alloc.proofs.BoxSteps.Steps.{box_in, box_out}
use Rattle.std_alloc.proofs.boxed.Box.from_raw.Met.{met}
use Rattle.std_alloc.specs.contracts.boxed.Box.from_raw as callee
use Rattle.jx_c.proofs.Unboxing as unboxing
use Rattle.jx_c.proofs.shapes.unboxed.Unboxed.into_box.Code as code
use Rattle.jx_c.proofs.shapes.unboxed.Unboxed.into_box.Statement.{statement}
use Rattle.jx_c.specs.contracts.shapes.unboxed.Unboxed.into_box.{clauses, ended}
use Rattle.jx_c.specs.contracts.shapes.unboxed.Unboxed.into_box.Key.{name as #self}

pub into_box_spec : {M : Type 1} → statement M
into_box_spec 𝓤 𝓛 𝓜 𝓡 wired T A L LA g d dx dd allocator glue glued =
    let 𝓣 = tables 𝓤 𝓛.H 𝓜 𝓡 𝓡.env in let R : RattleType = param 0 T in let Z : RattleType = param 1 A in let LZ = param_laws 1 A LA in
    let E : box.Bx = record { row = T; laws = L; al = record { row = A; laws = LA; g = g; d = d; drops = dd } } in let B : RattleType = box.B E in let From : RattleType = unboxing.Row R Z LZ g in
    let args : Args = bounded (a_type ∷ a_type ∷ []) (T, (A, tt)) (dcons d (dcons dx (dcons dd dnil))) in let fn : Fn = inst_fn args code.function in
    let En = ended T A g d dx dd in let c = clauses T A g d dx dd 𝓛 𝓜.mem 𝓡.returns in let stayed : Stays En.signature.params En.kept = (stay_dropped (plain (λ _. From)) no, tt) in
    let k = triple_of 𝓛 (callee.signature T A g d dd) (callee.spec T A g d dd 𝓛 𝓜.mem 𝓡.returns) in
    proved_at 𝓛 En stayed c 𝓜 𝓡 (Goes-blank 𝓛 2 (plain (λ _. From)) no (λ κs x f. tt), tt) (#self args) fn (code.unfolded 𝓤 𝓛.H 𝓜 𝓡 wired (T, (A, tt)) d dx dd) (λ z are.
    let κs = z.0.0 in let qs = z.0.1 in let v = z.0.3.0 in let a = v.alloc in let Post : Val → SProp 𝓤 = (walk_of 𝓛 En stayed c).post z in
    let tokens = ‵ (flft κs.0 qs.0) ⊛ ‵ (flft κs.1.0 qs.1.0) ⊛ ‵ ftrue in
    qed 𝓛 ((tokens ⊛ ‵ (owns (types_at En.signature.params κs) z.0.3 z.0.4)) ∷ raw ((c κs z.0.3).requires z.1) ∷ []) ∵ split ! $ move ! (1 ∷ []) $ fsplit ! $
    unboxing.taken_apart R Z LZ g ! v z.0.4.0 (λ b o h e ws fits.
    let w : Val = unboxing.word b o h in let y : k.Ghost = ((κs, qs, tt, (a, (block_ptr b o, tt)), (h ∷ [], (vptr b o ∷ [], tt))), v.value) in
    -- [the memory; the handle; nothing; the tokens; what is required]
    move ! (4 ∷ []) $ use1 𝓛 (raw (fact 𝓤 (κs.0 ⊑ T.lives)) ⊛ raw (fact 𝓤 (κs.1.0 ⊑ A.lives)) ⊛ ‵ ftrue) (id⊢ 𝓤 _) $ split3 ! $ move ! (2 ∷ []) $ drop ! $ move ! (1 ∷ 2 ∷ []) $ join ! $ move ! (1 ∷ 0 ∷ []) $ join ! $
    move ! (2 ∷ []) $ feq_i ! (List Val) (vptr b o ∷ []) (vptr b o ∷ []) refl $ fjoin ! $ move ! (2 ∷ 0 ∷ []) $ fjoin ! $ move ! (2 ∷ 0 ∷ []) $ join ! $ join ! $ use1 𝓛 (raw (k.pre y)) (id⊢ 𝓤 _) $
    regoal ! (λ (us : List Val). prop (WpFn 𝓤 𝓛.H 𝓣.C 𝓣.Λ fn us Post)) (λ i. ws i ++ []) refl $
    enter ! 𝓣.C 𝓣.Λ fn (w ∷ []) Post $ alloc_all ! (λ l. pass_all ! refl (unboxing.typed R Z LZ g b o h fits, tt) $ let Ev = env fn.locals l in
    sets ! (of_opd ! (get_in ! (fld ! refl (stop !)) (sub ! 0 refl (whole !)))) refl (tt, tt) $ sets ! (of_opd ! (get_in ! (fld ! refl (stop !)) (sub ! 1 refl (whole !)))) refl fits $
    first ! $ blocks ! $ sets ! (of_opd ! (get ! refl)) refl fits $
    calls_at_last ! (framed 𝓤 𝓛.H 𝓜 𝓣) k (met 𝓤 𝓛 𝓜 𝓡 (code.calls-std_alloc::boxed::Box::from_raw 𝓡.env wired) T A L LA g d dd allocator glued) y (and_then ! (get ! refl) (and_then ! (get ! refl) (no_more !))) (λ u.
    use1 𝓛 (later (some (λ (r : B.Denot). (tokens ⊛ ‵ (B.own_val r (u ∷ []))) ⊛ some (λ (ls : Lasts (callee.ended T A g d dd) κs y.0.3). ‵ (lasts (callee.ended T A g d dd) κs y.0.3 ls) ⊛
    (raw (fact 𝓤 (r.value ≡ v.value)) ⊛ raw (fact 𝓤 (r.alloc ≡ a))))))) (id⊢ 𝓤 (k.post y u)) $
    await ! tt $ pick ! (λ r. split ! $ move ! (1 ∷ []) $ pick ! (λ ls. split3 ! $ drop ! $ move ! (2 ∷ []) $ split ! $ move ! (1 ∷ []) $
    -- [the box; the tokens; its value; its handle]
    box_out E ! r (u ∷ []) (λ b' o' h' e' us fits'. box_in E ! r b' o' r.value e' refl $ rewrite ! 0 (λ (xs : List Val). ‵ (B.own_val r xs)) (sym us) refl $
    let good : Good (layout B) u = subst (Good (layout B)) (sym (ap only us)) (unboxing.typed R Z LZ g b' o' h' fits') in
    lands_last ! refl good $ exec ! 𝓣.C 𝓣.Λ Ev (after 3 fn.body) (at_ret Ev Post) $ sets ! (of_opd ! (get ! refl)) refl good $ nothing ! $ nothing ! $ fjoin ! $
    returns ! (look_at ! 0 refl) $ free_all ! refl $ keep ! (2 ∷ 0 ∷ 1 ∷ 3 ∷ []) $ by ! (leaves 𝓛 En stayed c z u r ((tt, (tt, tt)), tt) (tt, tt)))))))))
