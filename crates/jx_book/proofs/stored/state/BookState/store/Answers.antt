use Rattle.std.proofs.Common.{rules, ◌≡◌, ◌+◌, ◌-◌, sym, ap, ◌∙◌, subst, arith}
use Rattle.std.specs.Prelude.{insert, sum_by}
use Rattle.std.proofs.lemmas.List.Sums.{sum_by-insert}
use Rattle.jx_summary.specs.declared.span.Span.{Span}
use Rattle.jx_book.specs.Runs.{StateValue, IsApart, run_len, state, spans_of}
use Rattle.jx_book.specs.HandOver.{Stores}
use Rattle.jx_book.specs.Puts.{IsFree}
use Rattle.jx_book.proofs.Aparts.{inserted}
use Rattle.jx_book.proofs.SpanEdits.{stores}
use Rattle.jx_book.proofs.stored.state.BookState.store.Goals as goal

pub invariant_of-self : goal.invariant_of-self
invariant_of-self g c =
    let i = c.self.invariant in
    let s = c.self.inside in
    let items : c.insert.new.self.items ≡ insert s.runs.items c.args.at c.args.run = search rules in
    let free : IsFree s.runs.items c.args.run.span c.args.at = subst (λ (v : StateValue g.row.S.Denot). IsFree v.runs c.args.run.span c.args.at) (sym c.self.view_is) c.requires.free in
    let len : run_len c.args.run ≡ c.span-span.result.end - c.span-span.result.start = ap (λ (p : Span). p.end - p.start) (sym c.span-span.ensures.span) in
    let put : c.in-Some.put ≡ s.put + (c.span-span.result.end - c.span-span.result.start) = search rules in
    record {
      runs = rw items (inserted s.runs.items c.args.at c.args.run i.runs c.requires.filled free);
      covered = omega (arith, i.covered, ap (sum_by run_len) items, sum_by-insert run_len s.runs.items c.args.at c.args.run, len, put);
    }

pub returns-in-Ok : goal.returns-in-Ok
returns-in-Ok g c =
    let s = c.self.inside in
    let xs = c.args.self.now.runs in
    let apart : IsApart xs = subst (λ (v : StateValue g.row.S.Denot). IsApart v.runs) c.self.view_is c.self.invariant.runs in
    let items : c.insert.new.self.items ≡ insert s.runs.items c.args.at c.args.run = search rules in
    let sum : c.in-Some.put ≡ s.put + (c.span-span.result.end - c.span-span.result.start) = search rules in
    let put : c.in-Some.put ≡ s.put + run_len c.args.run = sum ∙ ap (λ (p : Span). s.put + (p.end - p.start)) c.span-span.ensures.span in
    let view = (λ i. state (items i) (put i) s.taken) ∙ ap (λ (v : StateValue g.row.S.Denot). state (insert v.runs c.args.at c.args.run) (v.put + run_len c.args.run) v.taken) c.self.view_is in
    let stores_it : Stores (spans_of xs) c.args.run.span (spans_of (insert xs c.args.at c.args.run)) = stores xs c.args.at c.args.run apart.filled c.requires.filled c.requires.free in
    record {
      stores = subst (λ (v : StateValue g.row.S.Denot). Stores (spans_of xs) c.args.run.span (spans_of v.runs)) (sym view) stores_it;
      inserted = (c.args.at, c.requires.free, view);
    }
