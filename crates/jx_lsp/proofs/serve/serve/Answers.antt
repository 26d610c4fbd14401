use Rattle.std.proofs.Common.{◌≡◌, ◌<◌, List, ◌++◌, ℕ, Option, length, take, drop, ap, ◌∙◌, sym, subst, arith}
use Rattle.std.proofs.lemmas.List.{take_at}
use Rattle.std.specs.Io.KnownBytes.{Consumes}
use Rattle.jx_lsp.proofs.Sessions.{served_so_far, served_to, so_far_more, so_far_none}
use Rattle.jx_lsp.proofs.serve.serve.Goals as goal

pub loop-init : goal.loop-init
loop-init g c =
    (c.in_ok-resize.ensures.len, so_far_none (g.R.Read.remaining c.args.reader.now) (g.W.Write.contents c.args.writer.now) c.new-frames.result c.new-server.result c.new-frames.ensures c.new-server.ensures)

pub returns-then-count-eq0 : goal.returns-then-count-eq0
returns-then-count-eq0 g c =
    let remaining = g.R.Read.remaining in
    let contents = g.W.Write.contents in
    let buffer : List ℕ = c.read.new.buf in
    let none : c.in_ok-count.count ≡ 0 = c.if-count-eq0.true in
    let long : length buffer ≡ 65536 = omega (arith, c.read.auto.buf, c.deref_mut.ensures.len, c.loop.invariant.0) in
    let some : 0 < length buffer = omega (arith, long) in
    served_so_far (remaining c.args.reader.now) (remaining c.loop.reader) (remaining c.read.new.self) (contents c.args.writer.now) (contents c.loop.writer) c.loop.frames c.loop.server
    (take c.in_ok-count.count buffer) c.loop.invariant.1 c.in_ok-count.ensures.bytes.0 (ap (λ n. take n buffer) none) (c.in_ok-count.ensures.bytes.1 none some)

-- what was read of a buffer, as it stands in the batch
consumed_of : (v w : Option (List ℕ)) (buffer behind batch : List ℕ) (count len : ℕ) → length buffer ≡ len → batch ≡ take len (buffer ++ behind) → Consumes v w (take count buffer)
    → Consumes v w (take count batch)
consumed_of v w buffer behind batch count len long is consumed = subst (λ (l : List ℕ). Consumes v w (take count l)) (sym (is ∙ take_at buffer behind len long)) consumed

pub returns-in-Some : goal.returns-in-Some
returns-in-Some g c =
    let remaining = g.R.Read.remaining in
    let contents = g.W.Write.contents in
    let v = remaining c.loop.reader in
    let w = remaining c.read.new.self in
    let bytes : List ℕ = take c.in_ok-count.count c.deref.result.now in
    let long : length c.read.new.buf ≡ c.loop.batch.len = omega (arith, c.read.auto.buf, c.deref_mut.ensures.len) in
    let consumed = consumed_of v w c.read.new.buf (drop (length c.read.new.buf) c.loop.batch.items) c.deref.result.now c.in_ok-count.count c.loop.batch.len long c.deref.ensures.value c.in_ok-count.ensures.bytes.0 in
    served_to (remaining c.args.reader.now) v w (contents c.args.writer.now) (contents c.loop.writer) (contents c.answer_all.new.writer) c.loop.frames c.answer_all.new.frames c.loop.server
    c.answer_all.new.server bytes c.in_ok-end.end c.in-Some.end c.loop.invariant.1 consumed c.in_ok-end.ensures c.in-Some.is

pub loop-preserved : goal.loop-preserved
loop-preserved g c =
    let remaining = g.R.Read.remaining in
    let contents = g.W.Write.contents in
    let v = remaining c.loop.reader in
    let w = remaining c.read.new.self in
    let bytes : List ℕ = take c.in_ok-count.count c.deref.result.now in
    let long : length c.read.new.buf ≡ c.loop.batch.len = omega (arith, c.read.auto.buf, c.deref_mut.ensures.len) in
    let consumed = consumed_of v w c.read.new.buf (drop (length c.read.new.buf) c.loop.batch.items) c.deref.result.now c.in_ok-count.count c.loop.batch.len long c.deref.ensures.value c.in_ok-count.ensures.bytes.0 in (
      c.loop.invariant.0,
      so_far_more (remaining c.args.reader.now) v w (contents c.args.writer.now) (contents c.loop.writer) (contents c.answer_all.new.writer) c.loop.frames c.answer_all.new.frames c.loop.server
          c.answer_all.new.server bytes c.in_ok-end.end c.loop.invariant.1 consumed c.in_ok-end.ensures c.in_default.is,
    )
