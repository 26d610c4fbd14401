use Rattle.std.proofs.Common.{◌≡◌, ℕ, ◌+◌, List, [], ◌∷◌, ◌++◌, Bool, drop, get_or, sym, ap, ◌∙◌, add-one}
use Rattle.std.specs.Prelude.{if◌then◌else◌, ◌==◌}
use Rattle.jx_files.specs.Naming.{named_from}
use Rattle.jx_files.proofs.NamedLines.{named_more}
use Rattle.jx_words.proofs.Shown.{written_more}
use Rattle.jx_files.proofs.naming.write_named.Goals as goal

pub loop-byte-preserved : goal.loop-byte-preserved
loop-byte-preserved g c =
    let xs : List ℕ = c.args.lines.now in
    let front : List ℕ = c.args.front.now in
    let i : ℕ = c.loop-byte.byte-index in
    let b : ℕ = get_or xs i 0 in
    let starts : Bool = c.loop-byte.is_first in
    record {
      going = c.in_ok-write_behind.ensures.failed;
      written = written_more (g.E.Sink.contents c.args.sink.now) (g.E.Sink.contents c.loop-byte.sink) (g.E.Sink.contents c.write_behind.new.sink)
          (named_from starts front (drop i xs)) ((if starts then front else []) ++ b ∷ []) (named_from (b == 10) front (drop (i + 1) xs)) (named_from c.args.starts front xs) c.loop-byte.invariant.written
          (named_more starts front xs i c.loop-byte-test.true) c.in_ok-write_behind.ensures.ok;
    }
