-- `none` has a null pointer. Assumes `Logic`.
use Rattle.std.proofs.Common.{[], ◌∷◌, ◌≡◌, refl}
use mir.MapTy.{inst_fn}
use mir.Syntax.{Args, Fn, a_type, dcons, dnil}
use mir.Val.{Val}
use base.Logic.{SProp, emp}
use contract.Monad.{fact, fact_i}
use contract.Running.{tables}
use types.ByLocal.{alloc_all, free_all, look_at, pass_all, sets}
use types.Kit.{ !, by, feq_i, keep, move, qed, raw, split, use0, ‵, ◌$◌, ◌∵◌, ◌⊛◌}
use types.Part.{agg}
use types.Run.{and_then, enter, lit, no_more, returns}
use denote.Param.{bounded, param}
use denote.RattleType.{RattleType, owns}
use denote.RawPtr.{Ptr, null_ptr}
use denote.Signature.{types_at}
use denote.Steps.{nothing}
use denote.Triple.Entry.{alive}
use denote.Triple.Walked.{walk_of}
use Rattle.std.proofs.raw_atomic.Walks.{leaves, proved_at}
use Rattle.std.specs.declared.option.Option.TheVariants.{None}
use Rattle.jx_c.proofs.Holding as holding
use Rattle.jx_c.specs.contracts.shapes.handle.Handle as handles
use Rattle.jx_c.proofs.shapes.handle.Handle.none.Code as code
use Rattle.jx_c.proofs.shapes.handle.Handle.none.Statement.{statement}
use Rattle.jx_c.specs.contracts.shapes.handle.Handle.none.{clauses, ended}
use Rattle.jx_c.specs.contracts.shapes.handle.Handle.none.Key.{name as #self}

pub none_spec : {M : Type 1} → statement M
none_spec 𝓤 𝓛 𝓜 𝓡 wired T L d glued =
    let 𝓣 = tables 𝓤 𝓛.H 𝓜 𝓡 𝓡.env in let R : RattleType = param 0 T in let args : Args = bounded (a_type ∷ []) (T, tt) (dcons d dnil) in let fn : Fn = inst_fn args code.function in
    let En = ended T d in let c = clauses T d 𝓛 𝓜.mem 𝓡.returns in let name = (handles.the_type R).name in let made : (handles.the_row R).Denot = record { at = null_ptr; held = None } in
    proved_at 𝓛 En tt c 𝓜 𝓡 tt (#self args) fn (code.unfolded 𝓤 𝓛.H 𝓜 𝓡 wired (T, tt) d) (λ z are.
    let Post : Val → SProp 𝓤 = (walk_of 𝓛 En tt c).post z in
    qed 𝓛 ((raw (alive 𝓛 En.signature z.0.0 z.0.1) ⊛ ‵ (owns (types_at En.signature.params z.0.0) z.0.3 z.0.4)) ∷ raw ((c z.0.0 z.0.3).requires z.1) ∷ []) ∵
    enter ! 𝓣.C 𝓣.Λ fn [] Post $ alloc_all ! (λ l. pass_all ! refl tt $
    sets ! (agg ! (and_then ! (lit ! tt) (no_more !))) refl (holding.typed name (R ∷ []) R null_ptr) $
    returns ! (look_at ! 0 refl) $ free_all ! refl $
    feq_i ! Ptr null_ptr null_ptr refl $ holding.put_together name (R ∷ []) R ! null_ptr None $
    use0 𝓛 (raw (fact 𝓤 (made.held ≡ None))) (fact_i 𝓤 (made.held ≡ None) (emp 𝓤) refl) $ nothing ! $
    -- [nothing of the parameters; what is promised; the result; the tokens and the parameters; what is required]
    move ! (3 ∷ []) $ split ! $ keep ! (0 ∷ 2 ∷ 4 ∷ 3 ∷ []) $ by ! (leaves 𝓛 En tt c z (holding.word null_ptr) made tt tt)))
