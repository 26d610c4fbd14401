use Rattle.std.proofs.Common.{rules, ◌≡◌, ◌+◌, ◌≤◌, ℕ, List, ◌++◌, length, take, ap, subst, ◌∙◌, arith, true, false}
use Rattle.std.proofs.lemmas.List.{take_all}
use Rattle.std.proofs.lemmas.Result.{on_ok_weaker}
use Rattle.jx_run.specs.Reader.{HasRead}
use Rattle.jx_answer.proofs.Pieces.{gone_on, up_to}
use Rattle.jx_answer.proofs.batches.asking.read_pieces.Goals as goal

pub loop-done-preserved : goal.loop-done-preserved
loop-done-preserved g c =
    let text = c.args.text.now in
    let i = c.loop-done.invariant in
    let done = c.loop-done.done in
    let stop = c.next_stop-stop.result in
    let mid = c.loop-done.reader in
    let new = c.feed-in-loop-done.new.self in
    let fed = c.in_ok-feed.ensures in
    let ordered : done ≤ stop = search rules in
    let within : stop ≤ length text = search rules in
    let count : new.count + done ≡ mid.count + stop = search rules in
    record {
      on = gone_on text done stop c.args.reader.now mid new i.on ordered within fed.settings fed.start count fed.reads;
      failed = λ f. let no : false ≡ true = fed.failed (i.failed f) in absurd (cc);
    }

pub returns-then-stop-done-clause-reads : goal.returns-then-stop-done-clause-reads
returns-then-stop-done-clause-reads g c =
    let text = c.args.text.now in
    let done = c.loop-done.done in
    let on = c.loop-done.invariant.on in
    on_ok_weaker c.feed.result
    (λ reads bytes h.
    subst (λ (xs : List ℕ). HasRead xs c.feed.new.self)
    (up_to bytes text done (length text) on.within ∙ ap (λ xs. bytes ++ xs) (take_all (length text) text (omega arith)))
    (reads (bytes ++ take done text) (on.reads bytes h)))
    c.feed.ensures.reads
