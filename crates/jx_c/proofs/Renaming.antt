-- A struct of one pointer under another name: the pointer is copied, and what it leads to goes with it. Assumes `Logic`.
use Rattle.std.proofs.Common.{List, [], ◌∷◌, ◌++◌, ◌≡◌, refl, sym}
use mir.Syntax.{Callee, Fn, Sym, Ty, aggregate, assign, copy, field, local, place, return, rv_opd, seq, tcons, tnil, ty_ptr, ty_struct, value_local}
use mir.Val.{Val}
use seplogic.Ra.Ura.{Ura}
use base.Logic.{SProp, emp}
use base.Fml.{ftrue}
use contract.Monad.{fact, fact_i}
use contract.Running.{Running, tables}
use prog.Model.{Model}
use prog.Wp.{Closed, WpFn}
use types.ByLocal.{alloc_all, free_all, get, get_in, look_at, pass_all, sets}
use types.Kit.{ !, by, fjoin, fsplit, keep, move, prop, qed, raw, regoal, rewrite, split, use0, ‵, ◌$◌, ◌∵◌, ◌⊛◌}
use types.Logic.{Logic}
use types.Part.{agg, sub, whole}
use types.Run.{and_then, enter, fld, no_more, of_opd, returns, stop}
use denote.Builtin.{RawPtr}
use denote.Exit.{hidden, under, yes}
use denote.RattleType.{RattleType, owns}
use denote.RawPtr.{Ptr}
use denote.Signature.{plain, types_at}
use denote.Steps.{nothing}
use denote.Struct.Field.{RawPtr-field}
use denote.Struct.Owning.{Owning, row}
use denote.Struct.Struct.{exits_of}
use denote.Triple.Clauses.{Clauses, Ended, closing}
use denote.Triple.Entry.{alive}
use denote.Triple.Spec.{Meets}
use denote.Triple.Walked.{Stays, stay_dropped, walk_of}
use Rattle.core.proofs.alloc.Calls.{Goes-blank}
use Rattle.std.proofs.raw_atomic.Walks.{leaves, proved_at}
use Rattle.std.specs.declared.option.Option.{Option}
use Rattle.jx_c.proofs.Holding as holding
use Rattle.jx_c.specs.Held.{held_at}
use Rattle.jx_c.specs.contracts.shapes.handle.Handle as handles

abbrev of_pointer : Sym → Ty
of_pointer name = ty_struct name (tcons ty_ptr tnil)

-- the code of each such function
abbrev pub renames : Sym → Sym → Fn
renames from to = record {
  lifetimes = 0;
  outlives = [];
  ty_params = [];
  givens = 0;
  params = 1;
  locals = local (of_pointer to) value_local ∷ local (of_pointer from) value_local ∷ local ty_ptr value_local ∷ local ty_ptr value_local ∷ [];
  body = seq (assign (place 2 []) (rv_opd (copy (place 1 (field 0 ∷ []))))) (seq (assign (place 3 []) (rv_opd (copy (place 2 []))))
      (seq (assign (place 0 []) (aggregate (copy (place 3 []) ∷ []))) return));
}

-- a struct of one pointer, behind which a value of this type stands, or none
pub record Pointed (R : RattleType) : Type 2 where
  pub type : Owning
  pub at : type.D → Ptr
  pub held : type.D → Option R.Denot
  pub made : Ptr → Option R.Denot → type.D
  pub at_made : (p : Ptr) (h : Option R.Denot) → at (made p h) ≡ p
  pub held_made : (p : Ptr) (h : Option R.Denot) → held (made p h) ≡ h

abbrev pub handle : (R : RattleType) → Pointed R
handle R = record { type = handles.the_type R; at = λ h. h.at; held = λ h. h.held; made = λ p h. record { at = p; held = h }; at_made = λ p h. refl; held_made = λ p h. refl }

module _ {R : RattleType} where
  abbrev pub the_row : Pointed R → RattleType
  the_row P = let T = P.type in row (record {
    name = T.name;
    args = [];
    types = T.types;
    parts = RawPtr-field ∷ [];
    D = T.D;
    as_values = λ d. (P.at d, tt);
    coded = T.coded;
    heap = λ d. held_at R (P.at d) (P.held d);
    exit = λ k. hidden (under (λ (d : T.D). (P.at d, tt)) (exits_of k (RawPtr ∷ [])));
    shr_at = T.shr_at;
  })

  module _ (From To : Pointed R) where
    abbrev pub ended : Ended
    ended = record { signature = record { lifetimes = 0; outlives = []; params = plain (λ _. the_row From) ∷ []; result = plain (λ _. the_row To) }; kept = (yes, tt) }

    abbrev stayed : Stays ended.signature.params ended.kept
    stayed = (stay_dropped (plain (λ _. the_row From)) yes, tt)

    module _ {M : Type 1} (𝓤 : Ura M) (𝓛 : Logic 𝓤) where
      abbrev pub clauses : Clauses 𝓤 ended
      clauses κs a = record { ghost = Unit {0}; requires = λ _. emp 𝓤; ensures = λ _ r _. fact 𝓤 (To.held r ≡ From.held a.0) }

      module _ (𝓜 : Model 𝓤 𝓛.H) (𝓡 : Running 𝓤 𝓛.H 𝓜) where
        pub renamed : (k : Callee) → Closed 𝓤 𝓛.H (tables 𝓤 𝓛.H 𝓜 𝓡 𝓡.env).C (tables 𝓤 𝓛.H 𝓜 𝓡 𝓡.env).Λ k (renames From.type.name To.type.name)
            → Meets 𝓛 ended.signature ((tables 𝓤 𝓛.H 𝓜 𝓡 𝓡.env).C k) (closing 𝓛 ended clauses)
        renamed k closed =
            let 𝓣 = tables 𝓤 𝓛.H 𝓜 𝓡 𝓡.env in let fn = renames From.type.name To.type.name in
            proved_at 𝓛 ended stayed clauses 𝓜 𝓡 (Goes-blank 𝓛 0 (plain (λ _. the_row From)) yes (λ κs x f. tt), tt) k fn closed (λ z are.
            let Post : Val → SProp 𝓤 = (walk_of 𝓛 ended stayed clauses).post z in let p = From.at z.0.3.0 in let h = From.held z.0.3.0 in let made = To.made p h in
            qed 𝓛 ((raw (alive 𝓛 ended.signature z.0.0 z.0.1) ⊛ ‵ (owns (types_at ended.signature.params z.0.0) z.0.3 z.0.4)) ∷ ‵ ftrue ∷ []) ∵ split ! $ move ! (1 ∷ []) $ fsplit ! $
            holding.opened From.type.name From.type.types R ! p h z.0.4.0 (λ vs.
            -- [what the pointer leads to; nothing; the tokens; what is required]
            regoal ! (λ (us : List Val). prop (WpFn 𝓤 𝓛.H 𝓣.C 𝓣.Λ fn us Post)) (λ i. vs i ++ []) refl $
            enter ! 𝓣.C 𝓣.Λ fn (holding.word p ∷ []) Post $ alloc_all ! (λ l. pass_all ! refl (holding.typed From.type.name From.type.types R p, tt) $
            sets ! (of_opd ! (get_in ! (fld ! refl (stop !)) (sub ! 0 refl (whole !)))) refl (holding.pointed p) $
            sets ! (of_opd ! (get ! refl)) refl (holding.pointed p) $
            sets ! (agg ! (and_then ! (get ! refl) (no_more !))) refl (holding.typed To.type.name To.type.types R p) $
            returns ! (look_at ! 0 refl) $ free_all ! refl $
            holding.put_together To.type.name To.type.types R ! p h $
            rewrite ! 0 (λ (q : Ptr). ‵ (holding.own To.type.name To.type.types R q h (holding.word p ∷ []))) (sym (To.at_made p h)) refl $
            rewrite ! 0 (λ (o : Option R.Denot). ‵ (holding.own To.type.name To.type.types R (To.at made) o (holding.word p ∷ []))) (sym (To.held_made p h)) refl $
            use0 𝓛 (raw (fact 𝓤 (To.held made ≡ h))) (fact_i 𝓤 (To.held made ≡ h) (emp 𝓤) (To.held_made p h)) $ nothing ! $ nothing ! $ fjoin ! $
            -- [nothing of the parameter; what is promised; the result; nothing; the tokens; what is required]
            keep ! (4 ∷ 0 ∷ 2 ∷ 1 ∷ []) $ by ! (leaves 𝓛 ended stayed clauses z (holding.word p) made (tt, tt) (tt, tt)))))
