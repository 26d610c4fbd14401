-- `into_unboxed` looks whether the pointer is null, and hands over what it owns. Assumes `Logic`.
use Rattle.std.proofs.Common.{List, [], ◌∷◌, ◌++◌, ◌≡◌, refl, lit<}
use mir.MapTy.{inst_fn}
use mir.Syntax.{Args, Fn, a_type, dcons, dnil}
use mir.Val.{Val, vcons, vnil}
use base.Logic.{SProp, emp}
use contract.Monad.{fact, fact_i}
use contract.Running.{tables}
use prog.Wp.{WpFn}
use types.ByLocal.{alloc_all, env, free_all, get, get_in, look_at, pass_all, sets, sets_last}
use types.Kit.{ !, at_ret, by, fjoin, fsplit, keep, move, prop, qed, raw, regoal, split, use0, use1, ‵, ◌$◌, ◌∵◌, ◌⊛◌}
use types.Match.{live}
use types.Part.{agg, sub, whole}
use types.Run.{and_then, bin, branches, enter, exec, first, fld, lit, no_more, of_opd, returns, stop}
use denote.Exit.{no}
use denote.Param.{bounded, layout, param}
use denote.RattleType.{RattleType, owns}
use denote.RawPtr.{block_ptr, null_ptr, tests_null}
use denote.Signature.{plain, types_at}
use denote.Steps.{nothing}
use denote.Triple.Entry.{alive}
use denote.Triple.Walked.{Goes-dropped, Stays, stay_dropped, walk_of}
use Rattle.core.proofs.alloc.Calls.{Goes-blank, handle_tells}
use Rattle.core.proofs.alloc.Shapes.{after}
use Rattle.core.proofs.cell.Inside.{Good}
use Rattle.core.proofs.option.Made.{Some-of, none_of}
use Rattle.core.specs.contracts.option.Option as option
use Rattle.std.proofs.alloc.Global.TheLaws as heap_laws
use Rattle.std.proofs.raw_atomic.Walks.{leaves, proved_at}
use Rattle.std.specs.contracts.alloc.Global as heap
use Rattle.std.specs.contracts.impls.GlobalAllocator.TheImpl.{ghosts}
use Rattle.std.specs.declared.option.Option.TheVariants.{None, Some}
use Rattle.std_alloc.proofs.ResultValues.{and_tt}
use Rattle.jx_c.proofs.Holding as holding
use Rattle.jx_c.proofs.Unboxing as unboxing
use Rattle.jx_c.specs.contracts.shapes.handle.Handle as handles
use Rattle.jx_c.proofs.shapes.handle.Handle.into_unboxed.Code as code
use Rattle.jx_c.proofs.shapes.handle.Handle.into_unboxed.Statement.{statement}
use Rattle.jx_c.specs.contracts.shapes.handle.Handle.into_unboxed.{clauses, ended}
use Rattle.jx_c.specs.contracts.shapes.handle.Handle.into_unboxed.Key.{name as #self}

abbrev Z : RattleType
Z = heap.the_row

pub into_unboxed_spec : {M : Type 1} → statement M
into_unboxed_spec 𝓤 𝓛 𝓜 𝓡 wired T L g glued =
    let 𝓣 = tables 𝓤 𝓛.H 𝓜 𝓡 𝓡.env in let R : RattleType = param 0 T in let From : RattleType = handles.the_row R in let name = (handles.the_type R).name in
    let To : RattleType = unboxing.Row R Z heap_laws.the_row_laws ghosts in let Out : RattleType = option.the_row To in
    let args : Args = bounded (a_type ∷ []) (T, tt) (dcons g dnil) in let fn : Fn = inst_fn args code.function in
    let En = ended T g in let c = clauses T g 𝓛 𝓜.mem 𝓡.returns in
    let stayed : Stays En.signature.params En.kept = (stay_dropped (plain (λ _. From)) no, (stay_dropped (plain (λ _. Z)) En.kept.1.0, tt)) in
    proved_at 𝓛 En stayed c 𝓜 𝓡 (Goes-blank 𝓛 1 (plain (λ _. From)) no (λ κs x f. tt), (Goes-dropped 𝓛 1 (plain (λ _. Z)) En.kept.1.0 (λ κs x f. refl), tt))
    (#self args) fn (code.unfolded 𝓤 𝓛.H 𝓜 𝓡 wired (T, tt) g) (λ z are.
    let Post : Val → SProp 𝓤 = (walk_of 𝓛 En stayed c).post z in let d = z.0.3.0 in let a = z.0.3.1.0 in
    qed 𝓛 ((raw (alive 𝓛 En.signature z.0.0 z.0.1) ⊛ ‵ (owns (types_at En.signature.params z.0.0) z.0.3 z.0.4)) ∷ raw ((c z.0.0 z.0.3).requires z.1) ∷ []) ∵ split ! $ move ! (1 ∷ []) $ fsplit ! $ move ! (1 ∷ []) $ fsplit ! $
    -- [the handle; nothing; the value; the tokens; what is required]
    handle_tells (record { row = Z; laws = heap_laws.the_row_laws; g = ghosts; d = mir.Syntax.impl [] mir.Syntax.tnil mir.Syntax.dnil; drops = mir.Syntax.impl [] mir.Syntax.tnil mir.Syntax.dnil }) ! a z.0.4.1.0 (λ h handle fits. move ! (2 ∷ []) $
    holding.taken_apart name (R ∷ []) R ! d.at d.held z.0.4.0
    (λ us none.
    -- [the handle; nothing; the tokens; what is required]
    regoal ! (λ (ws : List Val). prop (WpFn 𝓤 𝓛.H 𝓣.C 𝓣.Λ fn ws Post)) (λ i. us i ++ (handle i ++ [])) refl $
    enter ! 𝓣.C 𝓣.Λ fn (holding.word null_ptr ∷ h ∷ []) Post $ alloc_all ! (λ l. pass_all ! refl (holding.typed name (R ∷ []) R null_ptr, (fits, tt)) $ let Ev = env fn.locals l in
    sets ! (of_opd ! (get_in ! (fld ! refl (stop !)) (sub ! 0 refl (whole !)))) refl (tt, record { fits = lit< tt }) $
    sets ! (bin ! (get ! refl) (lit ! tt) tt) refl (tt, tt) $ first ! $ branches ! (get ! refl)
    (λ _. sets_last ! (agg ! (and_then ! (lit ! tt) (no_more !))) refl (tt, (record { fits = lit< tt }, tt)) $
    exec ! 𝓣.C 𝓣.Λ Ev (after 3 fn.body) (at_ret Ev Post) $ sets ! (of_opd ! (get ! refl)) refl (tt, (record { fits = lit< tt }, tt)) $
    returns ! (look_at ! 0 refl) $ free_all ! refl $
    use0 𝓛 (‵ (Out.own_val None (live 0 vnil ∷ []))) (none_of 𝓛 To) $
    use0 𝓛 (raw (fact 𝓤 (d.held ≡ None))) (fact_i 𝓤 (d.held ≡ None) (emp 𝓤) none) $ nothing ! $ nothing ! $ fjoin ! $ nothing ! $ fjoin ! $
    -- [nothing of the parameters; what is promised; the result; the handle; nothing; the tokens; ..]
    keep ! (5 ∷ 0 ∷ 2 ∷ 1 ∷ []) $ by ! (leaves 𝓛 En stayed c z (live 0 vnil) None (tt, (tt, tt)) (tt, (tt, tt)))) (λ wrong. absurd wrong)))
    (λ b o x us is may. let p = block_ptr b o in let w : Val = unboxing.word b o h in let v : Val = live 1 (vcons w vnil) in let made : To.Denot = record { at = p; alloc = a; value = x } in
    let fine = unboxing.typed R Z heap_laws.the_row_laws ghosts b o h fits in let good : Good (layout Out) v = (and_tt _ fine.0, (record { fits = lit< tt }, (fine.1, tt))) in
    -- [the memory; the handle; nothing; the tokens; what is required]
    regoal ! (λ (ws : List Val). prop (WpFn 𝓤 𝓛.H 𝓣.C 𝓣.Λ fn ws Post)) (λ i. us i ++ (handle i ++ [])) refl $
    enter ! 𝓣.C 𝓣.Λ fn (holding.word p ∷ h ∷ []) Post $ alloc_all ! (λ l. pass_all ! refl (holding.typed name (R ∷ []) R p, (fits, tt)) $ let Ev = env fn.locals l in
    sets ! (of_opd ! (get_in ! (fld ! refl (stop !)) (sub ! 0 refl (whole !)))) refl (tt, tt) $
    sets ! (bin ! (get ! refl) (lit ! tt) (tests_null p may)) refl (tt, tt) $ first ! $ branches ! (get ! refl) (λ wrong. absurd wrong)
    (λ _. sets ! (agg ! (and_then ! (get ! refl) (and_then ! (get ! refl) (no_more !)))) refl fine $
    sets_last ! (agg ! (and_then ! (lit ! tt) (and_then ! (get ! refl) (no_more !)))) refl good $
    exec ! 𝓣.C 𝓣.Λ Ev (after 3 fn.body) (at_ret Ev Post) $ sets ! (of_opd ! (get ! refl)) refl good $
    returns ! (look_at ! 0 refl) $ free_all ! refl $
    unboxing.put_together R Z heap_laws.the_row_laws ghosts ! b o h a x $
    use1 𝓛 (‵ (Out.own_val (Some made) (v ∷ []))) (Some-of 𝓛 To made w) $
    use0 𝓛 (raw (fact 𝓤 (d.held ≡ Some x))) (fact_i 𝓤 (d.held ≡ Some x) (emp 𝓤) is) $ nothing ! $ nothing ! $ fjoin ! $ nothing ! $ fjoin ! $
    -- [nothing of the parameters; what is promised; the result; nothing; the tokens; ..]
    keep ! (4 ∷ 0 ∷ 2 ∷ 1 ∷ []) $ by ! (leaves 𝓛 En stayed c z v (Some made) (tt, (tt, tt)) (tt, (tt, tt))))))))
