use Rattle.std.proofs.Common.{◌≡◌, ◌*◌, ◌/◌, ◌≤◌, ℕ, Bool, true, None, Some, ap, arith, refl, subst, sym, ◌∙◌}
use Rattle.std.specs.Prelude.{◌==◌, if◌then◌else◌}
use Rattle.jx_file_query.specs.Chunks.{chunk_at}
use Rattle.jx_file_query.proofs.Walks.{known_of}
use Rattle.jx_file_query.specs.Cuts.{Cuts}
use Rattle.jx_file_query.specs.Split.{IsCutAt, is_going}
use Rattle.jx_file_query.proofs.SplitComings.{come_first, quotient_low}
use Rattle.jx_file_query.proofs.split.Split.new.Goals as goal

pub returns-clause-come : goal.returns-clause-come
returns-clause-come c = λ settings chunk text h.
    let index = c.args.index.now in
    let aim = c.args.aim in
    let value = c.bytes.ensures.value in
    let within = c.bytes.ensures.within.0 in
    let size : 64 ≤ index.chunk = omega (arith, value, within) in
    record {
      known = known_of c.reader_and_grammar.ensures.by_settings c.unique_verdict_by_settings.ensures.one_verdict settings chunk text index size h;
      kept = c.new.result;
      kept_is = refl;
      cut =
          subst (λ (x : Cuts). IsCutAt settings chunk text aim (aim.whole.start / c.bytes.result) x) (sym c.new.ensures)
          (come_first settings chunk text aim (aim.whole.start / c.bytes.result) (quotient_low aim.whole.start c.bytes.result chunk (let e = h.chunk_is in let n : chunk ≡ c.bytes.result = omega (arith, value, e) in n)));
    }

pub returns-clause-first : goal.returns-clause-first
returns-clause-first c =
    let index = c.args.index.now in
    let start = c.args.aim.whole.start in
    let long : c.bytes.result ≡ index.chunk = c.bytes.ensures.value in
    let going : is_going (Some c.new.result) ≡ true = ap (λ (x : Cuts). x.sum.closed == 0) c.new.ensures in
    ap (λ (b : Bool). if b then chunk_at index (start / c.bytes.result) else None) going ∙ ap (λ (n : ℕ). chunk_at index (start / n)) long
