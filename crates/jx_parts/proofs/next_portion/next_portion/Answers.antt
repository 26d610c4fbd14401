use Rattle.std.proofs.Common.{◌≡◌, ◌≢◌, ◌≤◌, List, [], ℕ, length, take, ap, ◌∙◌, sym, subst, arith, length-append}
use lib.Seq.{take-append_seam}
use Rattle.std.proofs.lemmas.List.{take-append-le}
use Rattle.std.proofs.lemmas.Result.{err_from_is_err_and}
use Rattle.jx_parts.specs.Refusals.{by_record, IsHead, IsNoRecord, IsNoRun}
use Rattle.jx_parts.proofs.Refused.{fault_for, left_over}
use Rattle.jx_portion.specs.Portion.{IsRecord, IsSaidBy}
use Rattle.jx_parts.specs.inside.Reading.{IsCut, IsNextRecord}
use Rattle.jx_parts.proofs.next_portion.next_portion.Goals as goal

pub returns-in_ok-portion-in-Some-clause-ok : goal.returns-in_ok-portion-in-Some-clause-ok
returns-in_ok-portion-in-Some-clause-ok g c =
    let old = g.S.Source.remaining c.args.reader.now in
    let new = g.S.Source.remaining c.next_record.new.reader in
    record {
      bytes = c.in-Some.bytes.items;
      cut = subst (IsNextRecord c.args.depth old new) c.in-Some.is c.in_ok-next_record.ensures.ok;
      said = subst (λ (l : List ℕ). IsSaidBy l c.in_ok-portion-in-Some.portion) c.deref.ensures.value c.in_ok-portion-in-Some.ensures.found;
      reads = λ part from depth are. c.in_ok-portion-in-Some.ensures.reads part from depth (subst (IsRecord part from depth) (sym c.deref.ensures.value) are);
    }

pub returns-in_err-portion-in-Some-clause-refused : goal.returns-in_err-portion-in-Some-clause-refused
returns-in_err-portion-in-Some-clause-refused g c = λ stream known.
    let old = g.S.Source.remaining c.args.reader.now in
    let new = g.S.Source.remaining c.next_record.new.reader in
    let bytes = c.in-Some.bytes.items in
    let cut : IsCut c.args.depth old new bytes = subst (IsNextRecord c.args.depth old new) c.in-Some.is c.in_ok-next_record.ensures.ok in
    let over = left_over old stream bytes new known cut.read in
    let long : 24 ≤ length bytes = cut.long.1 in
    let some : stream ≢ [] = λ e. absurd (omega (arith, ap length e, ap length over.2, length-append bytes over.0, long)) in
    let front : take 24 stream ≡ take 24 bytes = ap (take 24) over.2 ∙ take-append-le 24 bytes over.0 long in
    let whole : take (length bytes) stream ≡ bytes = ap (take (length bytes)) over.2 ∙ take-append_seam bytes over.0 in
    let head : IsHead c.args.depth (length bytes) (take 24 stream) = subst (IsHead c.args.depth (length bytes)) (sym front) cut.head in
    let within : length bytes ≤ length stream = omega (arith, ap length over.2, length-append bytes over.0) in
    let is = fault_for c.args.number (IsNoRun c.deref.result.now) (λ why. (stream ≢ []) × IsNoRecord c.args.depth stream why) c.in_err-portion-in-Some.field-0.0
    (λ why no. (some, by_record (length bytes) head within (subst (λ (l : List ℕ). IsNoRun l why) (c.deref.ensures.value ∙ sym whole) no))) c.in_err-portion-in-Some.ensures.refused in
    let p = err_from_is_err_and c.from_residual-in_err-portion-in-Some.result c.from_residual-in_err-portion-in-Some.ensures.1 in
    rw (p.1, p.2) is
