-- The slashes so far, and those that are left, are all.
use Rattle.std.proofs.Common.{◌≡◌, ◌+◌, ◌≤◌, drop}
use Rattle.jx_cmd_index.proofs.Tokens.{slashes}
use Rattle.jx_cmd_index.proofs.splitting.token_count.Given as goal

abbrev pub invariant-bytes : goal.invariant-bytes
invariant-bytes l = record {
  low : l.count ≤ l.at;
  counted : l.count + slashes (drop l.at l.bytes) ≡ slashes l.bytes;
}
