use Rattle.std.proofs.Common.{◌≡◌, ◌*◌, ◌≤◌, arith, false, true, length, refl, sym, ◌∙◌}
use Rattle.std.specs.Prelude.{slice_range}
use Rattle.jx_run.proofs.Tellings.{rest_of}
use Rattle.jx_file_index.proofs.TextDecodings.{are_words, count_of, keys_front, long_enough, read_none, read_some, rest_behind}
use Rattle.jx_file_index.proofs.text_decoding.table_from.Goals as goal

pub returns-then-count-clause-reads : goal.returns-then-count-clause-reads
returns-then-count-clause-reads c = λ t more fits is.
    let bytes = c.args.bytes.now in
    let count = count_of bytes t more c.key_of-count.result fits is c.key_of-count.ensures in
    let low : 4 ≤ length bytes = let b = c.if-bytes-lt-KEY.false in omega (arith, b) in
    read_none bytes (slice_range bytes 4 (length bytes)) t more (record { is_kept = false; keys = c.new.result }) fits is (sym count ∙ c.if-count.true) refl c.new.ensures.items (rest_of bytes 4 low)

pub returns-then-behind-len-clause-only : goal.returns-then-behind-len-clause-only
returns-then-behind-len-clause-only c = λ t more fits is.
    let bytes = c.args.bytes.now in
    let count = count_of bytes t more c.key_of-count.result fits is c.key_of-count.ensures in
    let low : 4 ≤ length bytes = let b = c.if-bytes-lt-KEY.false in omega (arith, b) in
    let enough = long_enough bytes (slice_range bytes 4 (length bytes)) t more c.key_of-count.result fits is count c.if-count.false (rest_of bytes 4 low) in
    let short = c.if-behind-len.true in
    absurd (omega (arith, enough, short))

pub returns-clause-reads : goal.returns-clause-reads
returns-clause-reads c = λ t more fits is.
    let bytes = c.args.bytes.now in
    let count = count_of bytes t more c.key_of-count.result fits is c.key_of-count.ensures in
    let low : 4 ≤ length bytes = let b = c.if-bytes-lt-KEY.false in omega (arith, b) in
    let behind = slice_range bytes 4 (length bytes) in
    let len = c.key_of-count.result * 4 in
    let len_is : len ≡ 4 * c.key_of-count.result = omega arith in
    let other = c.if-count.false in
    let at = rest_of bytes 4 low in
    let fit : len ≤ length behind = let b = c.if-behind-len.false in omega (arith, b) in
    let keys = c.in_ok-keys.ensures t.keys.items (are_words bytes behind t more c.key_of-count.result fits is count other at) (keys_front bytes behind t more c.key_of-count.result fits is count other at len len_is) in
    (read_some bytes behind t more c.key_of-count.result fits is count other at (record { is_kept = true; keys = c.in_ok-keys.keys }) refl keys, rest_of behind len fit ∙ rest_behind bytes behind t more c.key_of-count.result fits is count other at len len_is)
