use Rattle.std.proofs.Common.{◌≡◌, ◌+◌, ◌<◌, ◌++◌, ◌∙◌, arith, ap, sym, length, take, get_or, subst, List, ℕ}
use Rattle.jx_ndjson.specs.WholeLines.{WholeLinesValue}
use Rattle.jx_serve.specs.inside.LineTables.{HasBad, len_of}
use Rattle.jx_serve.proofs.LineTables.{is_next, stands_at, IsNext, StandsAt}
use Rattle.jx_serve.proofs.bad_lines.read_blocks.Goals as goal

pub take-requires : goal.take-requires
take-requires c =
    let table = c.args.table.now in
    let bytes : List ℕ = c.args.document.now.bytes in
    let front : List WholeLinesValue = table.front.items in
    let i : ℕ = c.loop-block.block-index in
    let block : WholeLinesValue = c.block-item.result in
    let same : c.deref-block-items.result.now ≡ front = c.deref-block-items.ensures.value in
    let test = c.loop-block-test.true in
    let low : i < length front = omega (arith, test, ap length same) in
    let is : block ≡ get_or front i block = c.block-item.is ∙ ap (λ (l : List WholeLinesValue). get_or l i block) same in
    let here : StandsAt c.args.settings.now.depth bytes front i block = stands_at c.args.settings.now.depth bytes front table.back.items table.behind i block c.requires.laid low is in
    let within = here.within in
    let end = c.loop-block.invariant.end in
    omega (arith, within, end)

pub loop-block-preserved : goal.loop-block-preserved
loop-block-preserved c =
    let table = c.args.table.now in
    let settings = c.args.settings.now in
    let bytes : List ℕ = c.args.document.now.bytes in
    let front : List WholeLinesValue = table.front.items in
    let i : ℕ = c.loop-block.block-index in
    let block : WholeLinesValue = c.block-item.result in
    let same : c.deref-block-items.result.now ≡ front = c.deref-block-items.ensures.value in
    let test = c.loop-block-test.true in
    let low : i < length front = omega (arith, test, ap length same) in
    let is : block ≡ get_or front i block = c.block-item.is ∙ ap (λ (l : List WholeLinesValue). get_or l i block) same in
    let here : StandsAt settings.depth bytes front i block = stands_at settings.depth bytes front table.back.items table.behind i block c.requires.laid low is in
    let next : IsNext bytes front i block = is_next settings.depth bytes front table.back.items table.behind i block c.requires.laid low is in
    let old = c.loop-block.lines in
    let at : ℕ = old.reader.reader.start + old.reader.reader.count in
    let end : at ≡ len_of (take i front) = c.loop-block.invariant.end in
    let more : at + block.len ≡ len_of (take (i + 1) front) = ap (λ (n : ℕ). n + block.len) end ∙ sym next.sum in
    let bad : HasBad settings (take at bytes) old.bad.items old.reader = subst (λ (n : ℕ). HasBad settings (take n bytes) old.bad.items old.reader) (sym end) c.loop-block.invariant.bad in
    let taken : take (at + block.len) bytes ≡ take at bytes ++ here.lines = subst (λ (n : ℕ). take (n + block.len) bytes ≡ take n bytes ++ here.lines) (sym end) here.taken in
    record {
      bad =
          subst (λ (n : ℕ). HasBad settings (take n bytes) c.take.new.self.bad.items c.take.new.self.reader) more
          (c.in_ok-take.ensures.bad settings here.lines here.are_lines bad taken);
      end = c.in_ok-take.ensures.end ∙ more;
    }
