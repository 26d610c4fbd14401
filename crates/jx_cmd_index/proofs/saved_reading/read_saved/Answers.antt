use Rattle.std.proofs.Common.{◌≡◌, ◌++◌, ap, ◌∙◌, arith}
use Rattle.jx_cmd_index.proofs.SavedReadings.{says}
use Rattle.jx_cmd_index.proofs.saved_reading.read_saved.Goals as goal

pub returns-then-len-most-clause-reads : goal.returns-then-len-most-clause-reads
returns-then-len-most-clause-reads g c =
    let head = c.in_ok-bytes.bytes.items in
    let rest = c.in_ok-rest.rest.items in
    let bytes = c.deref-3.result.now in
    let joined : bytes ≡ head ++ rest = c.deref-3.ensures.value ∙ c.in_ok-extend_from_slice.ensures.items ∙ ap (λ l. head ++ l) c.deref-2.ensures.value in
    says (g.S.Source.remaining c.args.saved.now) (g.S.Source.remaining c.fill_saved.new.saved) (g.S.Source.remaining c.fill_saved-2.new.saved) head rest bytes
    c.in_ok-bytes.ensures.ok c.in_ok-rest.ensures.ok joined (c.in_ok-rest.ensures.end (let less = c.if-len-most.true in let long = c.len.ensures in omega (arith, less, long))) c.in_ok-read.read c.in_ok-read.ensures.found c.in_ok-read.ensures.reads
