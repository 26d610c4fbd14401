use Rattle.std.proofs.Common.{◌≡◌, ℕ, suc, ◌+◌, List, length, drop, get_or, ap, ◌∙◌, arith, subst}
use Rattle.std.specs.Prelude.{◌==◌}
use Rattle.jx_index.specs.Pointers.{tokens}
use Rattle.jx_cmd_index.proofs.Tokens.{count_begins, count_ends, count_goes, one_low, slashes}
use Rattle.jx_cmd_index.proofs.splitting.token_count.Goals as goal

pub bytes-init : goal.bytes-init
bytes-init c = record { low = omega arith; counted = count_begins c.as_bytes-bytes.result.now }

pub bytes-preserved : goal.bytes-preserved
bytes-preserved c =
    let bytes = c.as_bytes-bytes.result.now in
    let at = c.bytes.at in
    let more = c.slash_count-count.result in
    let is = c.slash_count-count.ensures in
    let few = one_low (get_or bytes at 0 == 0x2f) in
    let low = c.bytes.invariant.low in
    record {
      low = omega (arith, low, is, few);
      counted = subst (λ (n : ℕ). (c.bytes.count + more) + slashes (drop n bytes) ≡ slashes bytes) (let e : suc at ≡ at + 1 = omega arith in e)
          (count_goes bytes at c.bytes.count more c.bytes-test.true is c.bytes.invariant.counted);
    }

pub returns : goal.returns
returns c =
    count_ends c.as_bytes-bytes.result.now c.bytes.at c.bytes.count c.bytes-test.false c.bytes.invariant.counted ∙ ap (λ (xs : List ℕ). length (tokens xs)) c.as_bytes-bytes.ensures.value
