use Rattle.std.proofs.Common.{◌≡◌, ◌≢◌, ◌+◌, ◌<◌, ◌≤◌, List, [], ℕ, length, take, sym, ap, ◌∙◌, subst, arith, length-append}
use Rattle.std.proofs.lemmas.Result.{err_from_is_err_and}
use Rattle.std.proofs.lemmas.Bool.{eqb-false}
use Rattle.std.proofs.lemmas.List.{length-take, take_at}
use Rattle.std.proofs.KnownBytes.{Consumes-trans}
use Rattle.std.specs.Io.KnownBytes.{Consumes}
use Rattle.jx_parts.specs.declared.parts_fault.RunRefusal.TheVariants.{CutShort}
use Rattle.jx_parts.specs.Refusals.{by_end, by_head, IsHead, IsNoHead, IsNoRecord}
use Rattle.jx_parts.specs.inside.Reading.{told_depth, told_size}
use Rattle.jx_parts.proofs.RecordSteps.{depth_kept, head_kept}
use Rattle.jx_parts.proofs.Refused.{fault_for, left_over, taken_up_to}
use Rattle.jx_parts.proofs.record_reading.next_record.Goals as goal

pub returns-clause-ok : goal.returns-clause-ok
returns-clause-ok g c =
    let remaining = g.S.Source.remaining in
    let old = remaining c.args.reader.now in
    let mid = remaining c.read_up_to.new.reader in
    let new = remaining c.read_behind.new.reader in
    let head = c.in_ok-head.head.items in
    let bytes = c.in_ok-bytes.bytes in
    let rest = c.in_ok-bytes.ensures.ok in
    let whole : 24 ≤ length head = subst (λ (l : List ℕ). 24 ≤ length l) c.deref.ensures.value c.in_ok-size.ensures.whole in
    let long : c.in_ok-size.size ≡ length bytes.items = sym c.in_ok-bytes.ensures.long ∙ bytes.ok.0 in
    let told : told_size bytes.items ≡ c.in_ok-size.size =
    ap told_size rest.1.1 ∙ head_kept head rest.0 whole ∙ ap told_size (sym c.deref.ensures.value) ∙ sym c.in_ok-size.ensures.size in
    let least : 24 ≤ c.in_ok-size.size = c.in_ok-size.ensures.least in
    let front : take 24 bytes.items ≡ head = ap (take 24) rest.1.1 ∙ take_at head rest.0 24 (omega (arith, whole, c.in_ok-head.ensures.within)) in
    let told_head = subst (λ (n : ℕ). IsHead c.args.depth n c.deref.result.now) long c.in_ok-size.ensures.head in
    record {
      read = subst (Consumes old new) (sym rest.1.1) (Consumes-trans old mid new head rest.0 c.in_ok-head.ensures.ok rest.1.0);
      long = (told ∙ long, subst (λ n. 24 ≤ n) long least);
      deep = ap told_depth rest.1.1 ∙ depth_kept head rest.0 whole ∙ ap told_depth (sym c.deref.ensures.value) ∙ c.in_ok-size.ensures.depth;
      head = subst (IsHead c.args.depth (length bytes.items)) (c.deref.ensures.value ∙ sym front) told_head;
    }

pub returns-in_err-size-clause-refused : goal.returns-in_err-size-clause-refused
returns-in_err-size-clause-refused g c = λ stream known.
    let old = g.S.Source.remaining c.args.reader.now in
    let mid = g.S.Source.remaining c.read_up_to.new.reader in
    let head = c.in_ok-head.head.items in
    let front : head ≡ take 24 stream = taken_up_to 24 old stream head mid known c.in_ok-head.ensures.ok (omega (arith, c.in_ok-head.ensures.within, c.in_ok-head.head.ok.0))
    (λ less. c.in_ok-head.ensures.end (omega (arith, less, c.in_ok-head.head.ok.0))) in
    let none : stream ≡ [] → c.in_ok-head.head.len ≡ 0 = λ e. omega (arith, ap length front, length-take 24 stream, ap length e, c.in_ok-head.head.ok.0) in
    let some : stream ≢ [] = λ e. eqb-false c.in_ok-head.head.len 0 (sym c.is_empty.ensures ∙ c.if-is_empty.false) (none e) in
    let is = fault_for c.args.number (IsNoHead c.args.depth c.deref.result.now) (λ why. (stream ≢ []) × IsNoRecord c.args.depth stream why) c.in_err-size.field-0.0
    (λ why no. (some, by_head (subst (λ (l : List ℕ). IsNoHead c.args.depth l why) (c.deref.ensures.value ∙ front) no))) c.in_err-size.ensures.refused in
    let p = err_from_is_err_and c.from_residual-in_err-size.result c.from_residual-in_err-size.ensures.1 in
    rw (p.1, p.2) is

pub returns-in_err-bytes-clause-refused : goal.returns-in_err-bytes-clause-refused
returns-in_err-bytes-clause-refused g c = λ stream known.
    let old = g.S.Source.remaining c.args.reader.now in
    let mid = g.S.Source.remaining c.read_up_to.new.reader in
    let head = c.in_ok-head.head.items in
    let over = left_over old stream head mid known c.in_ok-head.ensures.ok in
    let whole : 24 ≤ length head = subst (λ (l : List ℕ). 24 ≤ length l) c.deref.ensures.value c.in_ok-size.ensures.whole in
    let front : head ≡ take 24 stream = taken_up_to 24 old stream head mid known c.in_ok-head.ensures.ok (omega (arith, c.in_ok-head.ensures.within, c.in_ok-head.head.ok.0))
    (λ less. c.in_ok-head.ensures.end (omega (arith, less, c.in_ok-head.head.ok.0))) in
    let told : IsHead c.args.depth c.in_ok-size.size (take 24 stream) = subst (IsHead c.args.depth c.in_ok-size.size) (c.deref.ensures.value ∙ front) c.in_ok-size.ensures.head in
    let some : stream ≢ [] = λ e. absurd (omega (arith, ap length e, ap length over.2, length-append head over.0, whole)) in
    let is = fault_for c.args.number (λ why. (c.in_ok-head.head.len + length over.0 < c.in_ok-size.size) × (why ≡ CutShort)) (λ why. (stream ≢ []) × IsNoRecord c.args.depth stream why) c.in_err-bytes.field-0.0
    (λ why no. (some, by_end c.in_ok-size.size told (omega (arith, no.0, ap length over.2, length-append head over.0, c.in_ok-head.head.ok.0)) no.1)) (c.in_err-bytes.ensures.refused over.0 over.1) in
    let p = err_from_is_err_and c.from_residual-in_err-bytes.result c.from_residual-in_err-bytes.ensures.1 in
    rw (p.1, p.2) is
