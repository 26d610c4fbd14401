use Rattle.std.proofs.Common.{◌≡◌, ◌∙◌, ◌+◌, ◌++◌, ℕ, List, length, sym, ap, arith}
use Rattle.std.specs.Prelude.{slice_range}
use Rattle.std.proofs.lemmas.List.{length-append}
use Rattle.jx_lex.specs.inside.Bits.{bit}
use Rattle.jx_block.specs.Listed.{marks_of}
use Rattle.jx_reduce.specs.Bits.{in_word}
use Rattle.jx_reduce.specs.Containers.{outer}
use Rattle.jx_reduce.specs.Read.{read, went}
use Rattle.jx_reduce.specs.declared.table.holder.Holder.{Holder}
use Rattle.jx_reduce.proofs.BlockMarks.{block-followed, no_bracket_behind}
use Rattle.jx_reduce.proofs.KnownWords.{length-in_word}
use Rattle.jx_reduce.proofs.stack.blocks.follow.Goals as goal

-- how many containers stand around those of the innermost word
around : (n b : ℕ) (s r : List Holder) → s ≡ in_word n b ++ r → length s ≡ n + length r
around n b s r is = ap length is ∙ length-append (in_word n b) r ∙ ap (λ (k : ℕ). k + length r) (length-in_word n b)

pub overflow_sub-around : goal.overflow_sub-around
overflow_sub-around g c =
    let i = c.in_ok-inner.inner in
    let s = g.H.Containers.list c.args.holders.now in
    omega (arith, around i.count i.bits s (outer s) c.in_ok-inner.ensures.list)

pub overflow_sub-most : goal.overflow_sub-most
overflow_sub-most g c = omega (arith, c.requires.within)

pub returns-then-put_inner-clause-reads : goal.returns-then-put_inner-clause-reads
unfolding bit
returns-then-put_inner-clause-reads g c = λ text at fits kinds.
    let i = c.in_ok-inner.inner in
    let w = c.in_ok-walked.walked in
    let s = g.H.Containers.list c.args.holders.now in
    let rest = outer s in
    let few = c.requires.few in
    ap (λ (t : List Holder). read c.args.most (marks_of c.args.starts 0 at (slice_range text at (at + c.args.len))) (went c.args.expect t)) c.in_ok-inner.ensures.list
    ∙ block-followed c.args.most text at c.args.starts c.args.len c.args.expect c.in_ok-then.then c.args.kinds.now (bit w.objects) (in_word i.count i.bits ++ rest) (in_word w.inner.count w.inner.bits ++ rest) kinds fits (omega (arith, few.0))
    c.in_ok-then.ensures.leads
    (c.in_ok-walked.ensures.walks rest c.args.most c.args.len (omega (arith, around i.count i.bits s rest c.in_ok-inner.ensures.list, c.requires.within)) (omega (arith, few.0))
    (no_bracket_behind text at c.args.starts c.args.len c.args.kinds.now kinds few.1))
    ∙ ap (λ (t : List Holder). went c.in_ok-then.then t) (sym (c.put_inner.ensures.put c.if-put_inner.true))
