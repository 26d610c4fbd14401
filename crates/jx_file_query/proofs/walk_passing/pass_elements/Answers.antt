use Rattle.std.proofs.Common.{◌≡◌, ◌+◌, ◌<◌, ◌≤◌, ◌^◌, ℕ, List, arith, ap, false, reverse, subst, sym, ◌∙◌, Bool, Option, Some}
use Rattle.jx_lex.specs.declared.alphabet.mark.Mark.{Mark}
use Rattle.jx_lex.specs.TokenStates.{in_token}
use Rattle.jx_index.specs.declared.finder.Cursor.{Cursor}
use Rattle.jx_index.specs.inside.Trie.{IsNextIn, first_open}
use Rattle.jx_file_query.specs.Passed.{waiting}
use Rattle.jx_file_query.specs.Passing.{slot}
use Rattle.jx_file_query.specs.inside.Over.{LeadsOver}
use Rattle.jx_file_query.proofs.Overs.{elements_over, top_of}
use Rattle.jx_file_query.proofs.walk_passing.pass_elements.Goals as goal

pub returns-clause-over : goal.returns-clause-over
returns-clause-over c = λ limit bytes piece marks ends h p.
    let held = c.args.held.now in
    let entry = c.args.here.now in
    let later = c.args.behind.now in
    let edges = c.args.edges.now in
    let top = c.in_ok-top.top in
    let n = c.in_ok-count.count in
    let next = c.next_place-next.result in
    let end = c.in_ok-end.end in
    let t = top_of (reverse held.state.opened.items) top (c.in_ok-top.ensures ∙ ap (λ (xs : List Cursor). first_open (reverse xs)) c.deref.ensures.value) in
    let array : top.is_object ≡ false = cc in
    let lowest : entry.sum.closed ≡ held.state.skipped = omega arith in
    let stands = c.may_stand.ensures c.if-not-may_stand.false in
    let least = c.next_place-next.ensures (subst (λ (xs : List Cursor). IsNextIn edges xs held.next) t.is h.ready) in
    let before : c.slot-before.result ≡ slot held.state.skipped (in_token entry.state) entry.expect = c.slot-before.ensures ∙ ap (λ (b : Bool). slot held.state.skipped b entry.expect) c.is_in_token-begun.ensures in
    let after : c.slot-after.result ≡ slot entry.sum.opened (in_token later.state) later.expect = c.slot-after.ensures ∙ ap (λ (b : Bool). slot entry.sum.opened b later.expect) c.is_in_token-waits.ensures in
    let below : end ≤ next = omega arith in
    let fits : end < 2 ^ 64 = omega arith in
    let counted : c.in_ok-counted.counted ≡ top.count + entry.sum.commas = omega (arith, c.in_ok-counted.ensures) in
    let ended : end ≡ c.in_ok-counted.counted + c.slot-before.result = omega (arith, c.in_ok-end.ensures) in
    let whole : n + c.slot-after.result ≡ end = omega (arith, c.in_ok-count.ensures) in
    let grows : top.count ≤ n = omega arith in
    subst (λ (o : Option Mark). LeadsOver bytes piece edges marks ends held entry (record { count = Some n; next = next; skipped = entry.sum.opened; begun = o })) (sym (c.waiting-token.ensures ∙ ap waiting c.is_in_token-waits.ensures))
    (elements_over bytes piece edges marks ends held entry h c.skipped_parts.ensures.elements c.skipped_parts.ensures.held limit n next end c.slot-after.result later top t.outer p t.is array
    (c.is_unnamed.ensures c.if-not-is_unnamed.false) lowest (c.agrees.ensures.same c.if-not-agrees.false) (λ z. (stands z).0) (λ b z. (stands z).1 b) least
    (ended ∙ ap (λ (k : ℕ). k + c.slot-before.result) counted ∙ ap (λ (k : ℕ). (top.count + entry.sum.commas) + k) before) below fits after whole grows)
