-- `of_unboxed` keeps what was unboxed behind its pointer. Assumes `Logic`.
use Rattle.std.proofs.Common.{List, [], ◌∷◌, ◌++◌, ◌≡◌, refl}
use mir.MapTy.{inst_fn}
use mir.Syntax.{Args, Fn, a_type, dcons, dnil}
use mir.Val.{Val}
use base.Logic.{SProp, emp}
use contract.Monad.{fact, fact_i}
use contract.Running.{tables}
use prog.Wp.{WpFn}
use types.ByLocal.{alloc_all, free_all, get, get_in, look_at, pass_all, sets}
use types.Kit.{ !, by, fjoin, fsplit, keep, move, prop, qed, raw, regoal, split, use0, ‵, ◌$◌, ◌∵◌, ◌⊛◌}
use types.Part.{agg, sub, whole}
use types.Run.{and_then, enter, fld, no_more, of_opd, returns, stop}
use denote.Exit.{no}
use denote.Param.{bounded, param}
use denote.RattleType.{RattleType, owns}
use denote.RawPtr.{block_ptr}
use denote.Signature.{plain, types_at}
use denote.Steps.{nothing}
use denote.Triple.Entry.{alive}
use denote.Triple.Walked.{Stays, stay_dropped, walk_of}
use Rattle.core.proofs.alloc.Calls.{Goes-blank}
use Rattle.std.proofs.alloc.Global.TheLaws as heap_laws
use Rattle.std.proofs.raw_atomic.Walks.{leaves, proved_at}
use Rattle.std.specs.contracts.alloc.Global as heap
use Rattle.std.specs.contracts.impls.GlobalAllocator.TheImpl.{ghosts}
use Rattle.std.specs.declared.option.Option.TheVariants.{Some}
use Rattle.jx_c.proofs.Holding as holding
use Rattle.jx_c.proofs.Unboxing as unboxing
use Rattle.jx_c.specs.contracts.shapes.handle.Handle as handles
use Rattle.jx_c.proofs.shapes.handle.Handle.of_unboxed.Code as code
use Rattle.jx_c.proofs.shapes.handle.Handle.of_unboxed.Statement.{statement}
use Rattle.jx_c.specs.contracts.shapes.handle.Handle.of_unboxed.{clauses, ended}
use Rattle.jx_c.specs.contracts.shapes.handle.Handle.of_unboxed.Key.{name as #self}

pub of_unboxed_spec : {M : Type 1} → statement M
of_unboxed_spec 𝓤 𝓛 𝓜 𝓡 wired T L d glued =
    let 𝓣 = tables 𝓤 𝓛.H 𝓜 𝓡 𝓡.env in let R : RattleType = param 0 T in let Z : RattleType = heap.the_row in let LZ = heap_laws.the_row_laws in let From : RattleType = unboxing.Row R Z LZ ghosts in
    let args : Args = bounded (a_type ∷ []) (T, tt) (dcons d dnil) in let fn : Fn = inst_fn args code.function in let name = (handles.the_type R).name in
    let En = ended T d in let c = clauses T d 𝓛 𝓜.mem 𝓡.returns in let stayed : Stays En.signature.params En.kept = (stay_dropped (plain (λ _. From)) no, tt) in
    proved_at 𝓛 En stayed c 𝓜 𝓡 (Goes-blank 𝓛 1 (plain (λ _. From)) no (λ κs x f. tt), tt) (#self args) fn (code.unfolded 𝓤 𝓛.H 𝓜 𝓡 wired (T, tt) d) (λ z are.
    let Post : Val → SProp 𝓤 = (walk_of 𝓛 En stayed c).post z in let u = z.0.3.0 in
    qed 𝓛 ((raw (alive 𝓛 En.signature z.0.0 z.0.1) ⊛ ‵ (owns (types_at En.signature.params z.0.0) z.0.3 z.0.4)) ∷ raw ((c z.0.0 z.0.3).requires z.1) ∷ []) ∵ split ! $ move ! (1 ∷ []) $ fsplit ! $
    unboxing.taken_apart R Z LZ ghosts ! u z.0.4.0 (λ b o h e vs fits.
    let p = block_ptr b o in let made : (handles.the_row R).Denot = record { at = p; held = Some u.value } in
    -- [the memory; the handle; nothing; the tokens; what is required]
    regoal ! (λ (us : List Val). prop (WpFn 𝓤 𝓛.H 𝓣.C 𝓣.Λ fn us Post)) (λ i. vs i ++ []) refl $
    enter ! 𝓣.C 𝓣.Λ fn (unboxing.word b o h ∷ []) Post $ alloc_all ! (λ l. pass_all ! refl (unboxing.typed R Z LZ ghosts b o h fits, tt) $
    sets ! (of_opd ! (get_in ! (fld ! refl (stop !)) (sub ! 0 refl (whole !)))) refl (tt, tt) $
    sets ! (agg ! (and_then ! (get ! refl) (no_more !))) refl (holding.typed name (R ∷ []) R p) $
    returns ! (look_at ! 0 refl) $ free_all ! refl $
    holding.put_together name (R ∷ []) R ! p (Some u.value) $
    use0 𝓛 (raw (fact 𝓤 (made.held ≡ Some u.value))) (fact_i 𝓤 (made.held ≡ Some u.value) (emp 𝓤) refl) $ nothing ! $ nothing ! $ fjoin ! $
    -- [nothing of the parameter; what is promised; the result; the handle; nothing; the tokens; what is required]
    keep ! (5 ∷ 0 ∷ 2 ∷ 1 ∷ []) $ by ! (leaves 𝓛 En stayed c z (holding.word p) made (tt, tt) (tt, tt)))))
