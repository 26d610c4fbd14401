use Rattle.std.proofs.Common.{arith}
use Rattle.jx_lex.proofs.Lanes.{marks_of}
use Rattle.jx_ndjson.specs.Lines.{is_line_feed}
use Rattle.jx_ndjson.proofs.line_end.feeds_at.Goals as goal

pub returns : goal.returns
returns c = marks_of 64 (omega arith) (omega arith) is_line_feed c.args.text.now c.args.i c.requires c.line_feeds.result c.line_feeds.ensures
