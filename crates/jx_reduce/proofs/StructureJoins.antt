-- Structures of the marks of two sides.
use Rattle.std.proofs.Common.{◌≡◌, ℕ, ◌≤◌, List, [], ◌∷◌, ◌++◌, length, refl, sym, ◌∙◌, ap, subst, Option, None, inl, inr}
use Rattle.jx_reduce.specs.Marks.{of_nothing}
use Rattle.jx_reduce.specs.Read.{went, then_by, read}
use Rattle.jx_reduce.specs.Structure.{StructureValue, answer, AreIn, IsBefore, IsJoin, IsOf}
use Rattle.jx_reduce.specs.inside.Structures.{rest_head, string_at, string_head, AreBehind, AreTwo, IsSound, IsWhole, KnowsDepth}
use Rattle.jx_reduce.specs.declared.forms.entry.Entry.TheVariants.{After as AnyAfter}
use Rattle.jx_reduce.specs.declared.forms.structure.Rest.{Rest}
use Rattle.jx_lex.specs.declared.alphabet.mark.Mark.{Mark}
use Rattle.jx_reduce.proofs.Readings.{read-append, read_then}
use Rattle.jx_reduce.proofs.Runs.{read_within, then_by_within}
use Rattle.jx_reduce.proofs.StructureReads.{bare, begun, few_begun}
use Rattle.jx_reduce.proofs.Structures.{in_put, in_two, join_put, join_two, put, sound_put, sound_two, two}

-- joined structures are of the marks of both sides
pub of_both : (ms ns : List Mark) (l r j : StructureValue) → l.depth ≡ r.depth → j.depth ≡ l.depth → IsOf ms l → IsOf ns r → IsJoin l r j → IsOf (ms ++ ns) j
of_both ms ns l r j lr jl a b c e s h =
    let short : length s ≤ l.depth = subst (λ d. length s ≤ d) jl h in
    let there : answer l e s ≡ read r.depth ms (went e s) = a e s short ∙ ap (λ d. read d ms (went e s)) lr in
    c e s short ∙ ap (then_by (answer r)) there
    ∙ then_by_within r.depth (answer r) (λ e s. read r.depth ns (went e s)) (read r.depth ms (went e s)) (read_within r.depth ms (went e s) (subst (λ d. length s ≤ d) lr short)) b
    ∙ sym (read_then r.depth ns (read r.depth ms (went e s)))
    ∙ sym (read-append r.depth ms ns (went e s))
    ∙ ap (λ d. read d (ms ++ ns) (went e s)) (sym (jl ∙ lr))

-- the left has at most a string

whole_is : (d : ℕ) (string s : Option ℕ) (rest : Option Rest) (r : StructureValue) → IsWhole r.depth string r s rest → begun d s rest ≡ put (begun d string None) r
whole_is d string s rest r w =
    let h : string_head s ++ rest_head rest ≡ (string_head string ++ []) ++ r.head = w.head ∙ ap (λ ms. ms ++ r.head) (sym (bare string)) in
    λ i. record { depth = d; head = h i; tail = w.tail i }

two_are : (d : ℕ) (string s : Option ℕ) (rest : Option Rest) (r : StructureValue) → (w : AreTwo r.depth string r s rest) → begun d s rest ≡ two d w.first w.second (of_nothing AnyAfter)
two_are d string s rest r w = λ i. record { depth = d; head = string_head (w.same i) ++ w.head i; tail = w.tail i }

pub record IsJoined (d : ℕ) (string s : Option ℕ) (rest : Option Rest) (r : StructureValue) : Type 0 where
  pub joined : IsJoin (begun d string None) r (begun d s rest)
  pub sound : IsSound (begun d s rest)
  pub knows : KnowsDepth d rest

pub none_join : (d : ℕ) (string s : Option ℕ) (rest : Option Rest) (r : StructureValue) → d ≡ r.depth → AreBehind r.depth string r s rest → IsBefore (begun d string None) r
    → IsSound (begun d string None) → IsSound r → IsJoined d string s rest r
none_join d string s rest r same (inl w) before left right =
    let e = whole_is d string s rest r w in
    record {
      joined = subst (IsJoin (begun d string None) r) (sym e) (join_put (begun d string None) r same refl);
      sound = subst IsSound (sym e)
          (sound_put (begun d string None) r same before left right (subst (λ (f : StructureValue). length f.head ≤ 2) e (few_begun s rest)));
      knows = subst (λ d. KnowsDepth d rest) (sym same) w.depth;
    }
none_join d string s rest r same (inr w) before left right =
    let e = two_are d string s rest r w in
    let head : string_head string ++ [] ≡ string_at w.first ∷ [] = ap (λ s. string_head s ++ []) w.string_is in
    record {
      joined = subst (IsJoin (begun d string None) r) (sym e) (join_two (begun d string None) r w.first w.second w.more (of_nothing AnyAfter) same head refl w.right_is);
      sound = subst IsSound (sym e) (sound_two (begun d string None) r w.first w.second w.more AnyAfter head w.right_is before);
      knows = subst (λ d. KnowsDepth d rest) (sym same) w.depth;
    }

pub none_in : (Q : ℕ → Type 0) (d : ℕ) (string s : Option ℕ) (rest : Option Rest) (r : StructureValue) → AreBehind r.depth string r s rest → AreIn Q (begun d string None) → AreIn Q r → AreIn Q (begun d s rest)
none_in Q d string s rest r (inl w) a b = subst (AreIn Q) (sym (whole_is d string s rest r w)) (in_put Q (begun d string None) r a b)
none_in Q d string s rest r (inr w) a b =
    subst (AreIn Q) (sym (two_are d string s rest r w))
    (in_two Q (begun d string None) r w.first w.second w.more AnyAfter (ap (λ s. string_head s ++ []) w.string_is) w.right_is a b)
