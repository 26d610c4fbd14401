use Rattle.std.proofs.Common.{◌≡◌, ◌+◌, ◌<◌, ◌∙◌, ap, arith, length, take, List, ℕ}
use Rattle.jx_ndjson.specs.WholeLines.{WholeLinesValue}
use Rattle.jx_serve.specs.inside.LineTables.{len_of}
use Rattle.jx_serve.proofs.LineTables.{is_next, IsNext}
use Rattle.jx_serve.proofs.line_table.LineTable.set_aside.Goals as goal

pub returns-then-len-self-clause-table : goal.returns-then-len-self-clause-table
returns-then-len-self-clause-table c = λ limit bytes long h. c.forget_back.ensures.table limit bytes h

pub returns-then-start-len-clause-table : goal.returns-then-start-len-clause-table
returns-then-start-len-clause-table c = λ limit bytes long h.
    let old = c.args.self.now in
    let front : List WholeLinesValue = old.front.items in
    let block : WholeLinesValue = c.index.result.now in
    let count : ℕ = c.blocks_before-count.result.count in
    let first : c.blocks_before-count.result.bytes ≡ len_of (take count front) =
    c.blocks_before-count.ensures.bytes ∙ ap (λ (l : List WholeLinesValue). len_of (take count l)) c.deref.ensures.value in
    let all = old.front.ok.0 in
    let many = c.len.ensures in
    let more = c.if-count-len.true in
    let low : count < length front = omega (arith, all, many, more) in
    let next : IsNext bytes front count block = is_next limit bytes front old.back.items old.behind count block h.laid low c.index.ensures in
    let sum = next.sum in
    let within = next.within in
    let here = c.len-then-count-len.ensures in
    let added = c.saturating_add-start.ensures in
    let fits = c.ranges.len.fits in
    let there : c.saturating_add-start.result ≡ len_of (take (count + 1) front) = omega (arith, added, sum, within, here, first, long, fits) in
    c.put_back.ensures.table limit bytes long there h
