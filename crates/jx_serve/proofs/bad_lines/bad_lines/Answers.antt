use Rattle.std.proofs.Common.{◌≡◌, ◌+◌, arith, sym, take, subst, List, ℕ}
use Rattle.std.proofs.lemmas.List.{take_all}
use Rattle.jx_serve.specs.inside.LineTables.{HasBad}
use Rattle.jx_serve.proofs.LineTables.{table_len}
use Rattle.jx_serve.proofs.bad_lines.bad_lines.Goals as goal

pub take_bytes-requires-clause-before : goal.take_bytes-requires-clause-before
take_bytes-requires-clause-before c =
    let within = table_len c.args.settings.now.depth c.args.document.now.bytes c.args.table.now c.requires in
    let end = c.in_ok-lines.ensures.end in
    let len = c.len.ensures in
    omega (arith, within, end, len)

pub returns : goal.returns
returns c =
    let settings = c.args.settings.now in
    let bytes : List ℕ = c.args.document.now.bytes in
    let lines = c.in_ok-lines.lines in
    let read : HasBad settings (take (lines.reader.reader.start + lines.reader.reader.count) bytes) lines.bad.items lines.reader =
    subst (λ (n : ℕ). HasBad settings (take n bytes) lines.bad.items lines.reader) (sym c.in_ok-lines.ensures.end) c.in_ok-lines.ensures.bad in
    let len = c.len.ensures in
    let all : take c.len.result bytes ≡ bytes = take_all c.len.result bytes (omega (arith, len)) in
    c.in_ok-bad.ensures settings bytes
    (subst (λ (l : List ℕ). HasBad settings l c.take_bytes.new.self.bad.items c.take_bytes.new.self.reader) all (c.in_ok-take_bytes.ensures.bad settings read))
