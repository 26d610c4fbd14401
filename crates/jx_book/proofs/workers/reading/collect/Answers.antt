use Rattle.std.proofs.Common.{rules, ◌≡◌, ℕ, List, [], ◌∷◌, ◌++◌, true, sym, ap, subst, arith}
use Rattle.std.specs.Prelude.{sum_by, All}
use Rattle.std.specs.declared.result.Result.{Result}
use Rattle.std.proofs.lemmas.List.Sums.{sum_by_push}
use Rattle.std.proofs.lemmas.List.Elements.{All-push}
use Rattle.jx_claim.specs.Claimed.{SeatValue}
use Rattle.jx_claim.specs.Cut.{drawn_len}
use Rattle.jx_book.specs.declared.workers.worker.WorkerEnd.{WorkerEnd}
use Rattle.jx_book.specs.declared.workers.worker.WorkerStop.{WorkerStop}
use Rattle.jx_book.specs.Shares.{ShareValue}
use Rattle.jx_book.specs.inside.Balance.{Balances, IsHandedBack}
use Rattle.jx_book.proofs.Alls.{front_of, last_of}
use Rattle.jx_book.proofs.workers.reading.collect.Goals as goal

pub loop-end-preserved-then-ended : goal.loop-end-preserved-then-ended
loop-end-preserved-then-ended g c =
    let i = c.loop-end.invariant in
    let ps = c.args.cutting.now.pieces in
    let id = c.args.claims.now.id in
    let E = Result (WorkerEnd g.row.P.Denot g.row.T.Denot) (WorkerStop g.row.S.Denot g.row.P.Denot g.row.T.Denot) in
    let fair : E → Type 0 = Balances ps id in
    let was : List E = c.loop-end.ends.items in
    let front : List E = c.pop.new.self.items in
    let items : was ≡ front ++ c.in-Some.end ∷ [] = c.in-Some.ensures.items in
    let last : fair c.in-Some.end = last_of fair was front c.in-Some.end items i.rest in
    let seat : SeatValue = c.handed_back-seat.result.0 in
    let sh : ShareValue = c.handed_back-seat.result.1 in
    let back : IsHandedBack ps id seat sh c.handed_back-seat.result.2 = c.handed_back-seat.ensures ps id last in
    let seats = c.in_ok-push.ensures.items in
    let shares = c.in_ok-push-2.ensures.items in
    let of_id : SeatValue → Type 0 = λ s. s.id ≡ id in
    let is_spent : SeatValue → Type 0 = λ s. s.spent ≡ true in
    let f : SeatValue → ℕ = λ s. drawn_len ps s.got in
    let p : ShareValue → ℕ = λ s. s.put in
    let t : ShareValue → ℕ = λ s. s.taken in
    record {
      seats_len = search rules;
      shares_len = search rules;
      rest = front_of fair was front c.in-Some.end items i.rest;
      seats_of = subst (All of_id) (sym seats) (All-push of_id c.loop-end.seats.items seat i.seats_of back.0);
      spent = λ e. subst (All is_spent) (sym seats) (All-push is_spent c.loop-end.seats.items seat (i.spent c.if-ended.true) (back.1 e).0);
      bytes = λ e. omega (
        arith,
        i.bytes c.if-ended.true,
        (back.1 e).1,
        ap (sum_by f) seats,
        ap (sum_by p) shares,
        ap (sum_by t) shares,
        sum_by_push f c.loop-end.seats.items seat,
        sum_by_push p c.loop-end.shares.items sh,
        sum_by_push t c.loop-end.shares.items sh,
      );
    }

-- where a worker before this one had stopped
pub loop-end-preserved : goal.loop-end-preserved
loop-end-preserved g c =
    let i = c.loop-end.invariant in
    let ps = c.args.cutting.now.pieces in
    let id = c.args.claims.now.id in
    let E = Result (WorkerEnd g.row.P.Denot g.row.T.Denot) (WorkerStop g.row.S.Denot g.row.P.Denot g.row.T.Denot) in
    let fair : E → Type 0 = Balances ps id in
    let was : List E = c.loop-end.ends.items in
    let front : List E = c.pop.new.self.items in
    let items : was ≡ front ++ c.in-Some.end ∷ [] = c.in-Some.ensures.items in
    let last : fair c.in-Some.end = last_of fair was front c.in-Some.end items i.rest in
    let seat : SeatValue = c.handed_back-seat.result.0 in
    let of_id : SeatValue → Type 0 = λ s. s.id ≡ id in
    record {
      seats_len = search rules;
      shares_len = search rules;
      rest = front_of fair was front c.in-Some.end items i.rest;
      seats_of = subst (All of_id) (sym c.in_ok-push.ensures.items) (All-push of_id c.loop-end.seats.items seat i.seats_of (c.handed_back-seat.ensures ps id last).0);
      spent = λ e. absurd (cc (e, c.if-ended.false));
      bytes = λ e. absurd (cc (e, c.if-ended.false));
    }
