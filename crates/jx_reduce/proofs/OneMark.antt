-- The reduced form of one mark.
use Rattle.std.proofs.Common.{◌≡◌, ℕ, zero, suc, ◌-◌, ◌<◌, ◌≤◌, List, [], ◌∷◌, length, refl, sym, ap, arith, Option, Some, None, nat_lt, if◌then◌else◌, Bool, true, false}
use Rattle.std.proofs.lemmas.Bool.{ltb-true, ltb-false, le-ltb}
use Rattle.std.specs.Prelude.{slice_get}
use Rattle.std.proofs.lemmas.Option.{slice_get_past}
use Rattle.jx_reduce.proofs.Along.{fault_of-no_faults}
use Rattle.jx_reduce.specs.Entries.{expect_at, leads_to, value_or_name}
use Rattle.jx_reduce.specs.Table.{next_of, change_of, Change, same, added, removed, where_value, where_string, where_close_array, where_close_object, where_colon, where_comma}
use Rattle.jx_reduce.specs.Read.{went, stopped, too_deep, top, without_top, step, moved}
use Rattle.jx_reduce.specs.Form.{halt, go, fault_of, end_fault_of, decide, acts}
use Rattle.jx_reduce.specs.Marks.{fault_unless, fault_at, faults_at, end_at, of_change, of_mark}
use Rattle.jx_reduce.specs.declared.table.holder.Holder.{Holder}
use Rattle.jx_reduce.specs.declared.table.holder.Holder.TheVariants.{Array, Object, Bottom}
use Rattle.jx_reduce.specs.declared.table.expect.Expect.{Expect}
use Rattle.jx_reduce.specs.declared.table.expect.Expect.TheVariants.{Value, ArrayFirst, ObjectFirst, Name, Colon, After}
use Rattle.jx_lex.specs.declared.alphabet.mark.MarkKind.{MarkKind}
use Rattle.jx_lex.specs.declared.alphabet.mark.MarkKind.TheVariants.{OpenArray, CloseArray, OpenObject, CloseObject, Comma, String, Number, True, False, Null, Colon as ColonMark}
use Rattle.jx_reduce.specs.declared.forms.entry.Entry.{Entry}
use Rattle.jx_reduce.specs.declared.forms.entry.Entry.TheVariants.{ValueOrName, AfterOrColon, Value as AnyValue, ArrayFirst as AnyArrayFirst, ObjectFirst as AnyObjectFirst, Name as AnyName, Colon as AnyColon, After as AnyAfter}
use Rattle.jx_lex.specs.declared.alphabet.mark.Mark.{Mark}

value_leads : (x e f : Expect) → where_value x e ≡ Some f → f ≡ x
value_leads x Value f h = cc
value_leads x ArrayFirst f h = cc
value_leads x ObjectFirst f h = cc
value_leads x Name f h = cc
value_leads x Colon f h = cc
value_leads x After f h = cc

close_array_leads : (e f : Expect) (h : Holder) → where_close_array e h ≡ Some f → f ≡ After
close_array_leads Value f h e = cc
close_array_leads ArrayFirst f Array e = cc
close_array_leads ArrayFirst f Object e = cc
close_array_leads ArrayFirst f Bottom e = cc
close_array_leads ObjectFirst f h e = cc
close_array_leads Name f h e = cc
close_array_leads Colon f h e = cc
close_array_leads After f Array e = cc
close_array_leads After f Object e = cc
close_array_leads After f Bottom e = cc

close_object_leads : (e f : Expect) (h : Holder) → where_close_object e h ≡ Some f → f ≡ After
close_object_leads Value f h e = cc
close_object_leads ArrayFirst f h e = cc
close_object_leads ObjectFirst f Array e = cc
close_object_leads ObjectFirst f Object e = cc
close_object_leads ObjectFirst f Bottom e = cc
close_object_leads Name f h e = cc
close_object_leads Colon f h e = cc
close_object_leads After f Array e = cc
close_object_leads After f Object e = cc
close_object_leads After f Bottom e = cc

colon_leads : (e f : Expect) → where_colon e ≡ Some f → f ≡ Value
colon_leads Value f h = cc
colon_leads ArrayFirst f h = cc
colon_leads ObjectFirst f h = cc
colon_leads Name f h = cc
colon_leads Colon f h = cc
colon_leads After f h = cc

comma_leads : (e f : Expect) (h : Holder) → where_comma e h ≡ Some f → f ≡ value_or_name h
comma_leads Value f h e = cc
comma_leads ArrayFirst f h e = cc
comma_leads ObjectFirst f h e = cc
comma_leads Name f h e = cc
comma_leads Colon f h e = cc
comma_leads After f Array e = cc
comma_leads After f Object e = cc
comma_leads After f Bottom e = cc

string_leads_to : (x : Entry) (f : Expect) (h : Holder) → where_string (expect_at x h) ≡ Some f → f ≡ expect_at (leads_to String x) h
string_leads_to AnyValue f h e = cc
string_leads_to AnyArrayFirst f h e = cc
string_leads_to AnyObjectFirst f h e = cc
string_leads_to AnyName f h e = cc
string_leads_to AnyColon f h e = cc
string_leads_to AnyAfter f h e = cc
string_leads_to ValueOrName f Array e = cc
string_leads_to ValueOrName f Object e = cc
string_leads_to ValueOrName f Bottom e = cc
string_leads_to AfterOrColon f Array e = cc
string_leads_to AfterOrColon f Object e = cc
string_leads_to AfterOrColon f Bottom e = cc

-- where a mark is no fault, its entry leads to the new expectation
pub leads : (k : MarkKind) (x : Entry) (f : Expect) (h : Holder) (g : Holder) → next_of k (expect_at x h) h ≡ Some f
    → f ≡ expect_at (leads_to k x) (elim (change_of k) [ same ↦ h | added a ↦ a | removed ↦ g ])
leads OpenArray x f h g e = value_leads ArrayFirst (expect_at x h) f e
leads CloseArray x f h g e = close_array_leads (expect_at x h) f h e
leads OpenObject x f h g e = value_leads ObjectFirst (expect_at x h) f e
leads CloseObject x f h g e = close_object_leads (expect_at x h) f h e
leads ColonMark x f h g e = colon_leads (expect_at x h) f e
leads Comma x f h g e = comma_leads (expect_at x h) f h e
leads String x f h g e = string_leads_to x f h e
leads Number x f h g e = value_leads After (expect_at x h) f e
leads True x f h g e = value_leads After (expect_at x h) f e
leads False x f h g e = value_leads After (expect_at x h) f e
leads Null x f h g e = value_leads After (expect_at x h) f e

-- a close is a fault at the bottom
no_close_below : (k : MarkKind) (e : Expect) → change_of k ≡ removed → next_of k e Bottom ≡ None
no_close_below OpenArray e h = cc
no_close_below CloseArray Value h = refl
no_close_below CloseArray ArrayFirst h = refl
no_close_below CloseArray ObjectFirst h = refl
no_close_below CloseArray Name h = refl
no_close_below CloseArray Colon h = refl
no_close_below CloseArray After h = refl
no_close_below OpenObject e h = cc
no_close_below CloseObject Value h = refl
no_close_below CloseObject ArrayFirst h = refl
no_close_below CloseObject ObjectFirst h = refl
no_close_below CloseObject Name h = refl
no_close_below CloseObject Colon h = refl
no_close_below CloseObject After h = refl
no_close_below ColonMark e h = cc
no_close_below Comma e h = cc
no_close_below String e h = cc
no_close_below Number e h = cc
no_close_below True e h = cc
no_close_below False e h = cc
no_close_below Null e h = cc

pub fault_of-faults_at : (x : Entry) (m : Mark) (h : Holder) → fault_of (faults_at x m) h ≡ fault_at x m h
fault_of-faults_at x m Array = refl
fault_of-faults_at x m Object = refl
fault_of-faults_at x m Bottom = refl

pub end_fault_of-end_at : (x : Entry) (m : Mark) (h : Holder) → change_of m.kind ≡ removed → end_fault_of (end_at x m) h ≡ fault_at x m h
end_fault_of-end_at x m Array e = refl
end_fault_of-end_at x m Object e = refl
end_fault_of-end_at x m Bottom e = sym (ap (λ o. fault_unless o m.at) (no_close_below m.kind (expect_at x Bottom) e))

decide_halt : (at : ℕ) (o : Option ℕ) → ((q : ℕ) → o ≡ Some q → at ≤ q) → decide (halt at) o ≡ stopped at
decide_halt at None h = refl
decide_halt at (Some q) h = ap (λ b. if b then too_deep q else stopped at) (le-ltb q at (h q refl))

one_height : (at i q : ℕ) → slice_get (at ∷ []) i ≡ Some q → at ≤ q
one_height at zero q h = let e : at ≡ q = cc in omega arith
one_height at (suc i) q h = cc

-- one container more is too deep exactly at the depth
deep_at : (d n at : ℕ) (f : Expect) (t : List Holder) (b : Bool) → nat_lt n d ≡ b → decide (go f t) (slice_get (at ∷ []) (d - n)) ≡ (if b then went f t else too_deep at)
deep_at d n at f t true e = ap (decide (go f t)) (let h : n < d = ltb-true n d e in slice_get_past (at ∷ []) (d - n) (omega arith))
deep_at d n at f t false e = let z : d - n ≡ 0 = (let h : d ≤ n = ltb-false n d e in omega arith) in rw z

-- the outcome of one mark, by the change and the new expectation
one : (d : ℕ) (x : Entry) (m : Mark) (s : List Holder) (c : Change) (o : Option Expect)
    → change_of m.kind ≡ c → next_of m.kind (expect_at x (top s)) (top s) ≡ o → length s ≤ d
    → acts d (of_change c x m) s ≡ moved d m.at c o s
one d x m s same None ec eo short = rw (fault_of-faults_at x m (top s), eo)
one d x m s (added h) None ec eo short = rw (fault_of-faults_at x m (top s), eo) (decide_halt m.at _ (λ q. one_height m.at (d - length s) q))
one d x m s removed None ec eo short = rw (end_fault_of-end_at x m (top s) ec, eo)
one d x m s same (Some f) ec eo short =
    let e : f ≡ expect_at (leads_to m.kind x) (top s) = rw ec at (leads m.kind x f (top s) (top s) eo)
    in rw (fault_of-faults_at x m (top s), eo, e)
one d x m s removed (Some f) ec eo short =
    let e : f ≡ expect_at (leads_to m.kind x) (top (without_top s)) = rw ec at (leads m.kind x f (top s) (top (without_top s)) eo)
    in rw (end_fault_of-end_at x m (top s) ec, eo, fault_of-no_faults (top (without_top s)), e)
one d x m s (added h) (Some f) ec eo short =
    let e : f ≡ expect_at (leads_to m.kind x) h = rw ec at (leads m.kind x f (top s) (top s) eo)
    in rw (fault_of-faults_at x m (top s), eo, e) (deep_at d (length s) m.at (expect_at (leads_to m.kind x) h) (h ∷ s) (nat_lt (length s) d) refl)

pub acts-of_mark : (d : ℕ) (x : Entry) (m : Mark) (s : List Holder) → length s ≤ d → acts d (of_mark x m) s ≡ step d m (went (expect_at x (top s)) s)
acts-of_mark d x m s short = one d x m s (change_of m.kind) (next_of m.kind (expect_at x (top s)) (top s)) refl refl short
