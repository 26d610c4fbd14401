use Rattle.std.proofs.Common.{◌≡◌, ◌+◌, ◌<◌, ◌++◌, ◌∷◌, [], suc, List, ℕ, ap, arith, drop, length, subst, sym, take, ◌∙◌}
use Rattle.std.specs.List.{flat_map}
use Rattle.std.proofs.lemmas.Result.{err_from_is_err_and}
use Rattle.jx_file_index.specs.declared.name_tables.NameTable.{NameTable}
use Rattle.jx_file_index.specs.SavedTexts.{SayTables}
use Rattle.jx_file_index.specs.TextSpelling.{spelt_table}
use Rattle.jx_file_index.proofs.TextDecodings.{next_bytes, next_of, say_more}
use Rattle.jx_file_index.proofs.text_decoding.tables_from.Goals as goal

pub returns-in_err-read-clause-only : goal.returns-in_err-read-clause-only
returns-in_err-read-clause-only c =
    let p = err_from_is_err_and c.from_residual.result c.from_residual.ensures.1 in
    rw (p.1, p.2)
    (λ ts more fits count is.
    let n = c.loop.counter in
    let test = c.loop-test.true in
    let low : n < length ts = omega (arith, test, count) in
    let next = next_of ts n low in
    c.in_err-read.ensures.only next.table (flat_map spelt_table (drop (suc n) ts) ++ more) (next.fits fits) (next_bytes ts n low more c.loop.rest.now (c.loop.invariant ts more fits count is).1))

pub returns-in_err-read-clause-said : goal.returns-in_err-read-clause-said
returns-in_err-read-clause-said c =
    let p = err_from_is_err_and c.from_residual.result c.from_residual.ensures.1 in
    rw (p.1, p.2) (λ all tagged. c.in_err-read.ensures.said all tagged)

pub loop-preserved : goal.loop-preserved
loop-preserved c = λ ts more fits count is.
    let n = c.loop.counter in
    let test = c.loop-test.true in
    let low : n < length ts = omega (arith, test, count) in
    let next = next_of ts n low in
    let was = c.loop.invariant ts more fits count is in
    let read = c.in_ok-read.read in
    let r = c.in_ok-read.ensures.reads next.table (flat_map spelt_table (drop (suc n) ts) ++ more) (next.fits fits) (next_bytes ts n low more c.loop.rest.now was.1) in
    let e : suc n ≡ n + 1 = omega arith in
    let tables = c.loop.tables.items ++ read.table ∷ [] in
    let says : SayTables tables (take (suc n) ts) = subst (λ (ys : List NameTable). SayTables tables ys) (sym next.front_is) (say_more c.loop.tables.items (take n ts) read.table next.table was.0 r.0) in (
      subst (λ (xs : List NameTable). SayTables xs (take (n + 1) ts)) (sym c.in_ok-push.ensures.items) (subst (λ (k : ℕ). SayTables tables (take k ts)) e says),
      r.1 ∙ ap (λ (k : ℕ). flat_map spelt_table (drop k ts) ++ more) e,
    )
