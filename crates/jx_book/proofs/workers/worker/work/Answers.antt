use Rattle.std.proofs.Common.{◌≡◌, sym, subst}
use Rattle.jx_claim.specs.Claimed.{SeatValue}
use Rattle.jx_book.specs.declared.workers.worker.Hand.{Hand}
use Rattle.jx_book.specs.Runs.{run_len}
use Rattle.jx_book.specs.Shares.{ShareValue}
use Rattle.jx_book.specs.Worked.{hand_len, HandedOver, IsLeft, Worked}
use Rattle.jx_book.proofs.Works.{read_piece, read_len, is_left, worked_more}
use Rattle.jx_book.proofs.workers.worker.work.Goals as goal

pub returns-in-Err-clause-stop : goal.returns-in-Err-clause-stop
returns-in-Err-clause-stop g c =
    let ps = c.args.cutting.now.pieces in
    let l = c.loop in
    let len = read_len ps c.in-Some-draw.piece.0 c.piece-span.result c.in-Ok.run'.span c.piece-span.ensures.piece c.in-Ok.ensures.span in
    let hand : c.new-in-Err.result.hand ≡ c.in-Err.field-0.hand = c.new-in-Err.ensures.hand in
    let over : HandedOver (run_len c.in-Ok.run') l.share c.hand_over.new.share (hand_len ps c.new-in-Err.result.hand) =
    subst (λ (h : Hand g.row.S.Denot). HandedOver (run_len c.in-Ok.run') l.share c.hand_over.new.share (hand_len ps h)) (sym hand) (c.in-Err.ensures.err ps) in
    let w = worked_more ps c.args.seat c.args.share l.seat l.share c.draw.new.seat c.hand_over.new.share c.in-Some-draw.piece.0 (run_len c.in-Ok.run') (hand_len ps c.new-in-Err.result.hand)
    l.invariant.worked c.draw.ensures.seat c.in-Some-draw.ensures.drew.0 len over in
    subst (λ (x : SeatValue × ShareValue). Worked ps c.args.seat c.args.share x.0 x.1 (hand_len ps c.new-in-Err.result.hand)) (λ i. (sym c.new-in-Err.ensures.seat i, sym c.new-in-Err.ensures.share i)) w

pub returns-in-Err-clause-left : goal.returns-in-Err-clause-left
returns-in-Err-clause-left g c =
    let ps = c.args.cutting.now.pieces in
    let p = c.in-Some-draw.piece.0 in
    let piece = read_piece ps p c.piece-span.result c.in-Ok.run'.span c.piece-span.ensures.piece c.in-Ok.ensures.span in
    let left = is_left ps c.loop.seat.got c.draw.new.seat.got p c.in-Ok.run'.span c.in-Err.field-0.hand c.in-Some-draw.ensures.drew.0 piece c.in-Err.ensures.hand in
    subst (λ (x : SeatValue × Hand g.row.S.Denot). IsLeft ps x.0.got x.1) (λ i. (sym c.new-in-Err.ensures.seat i, sym c.new-in-Err.ensures.hand i)) left

pub loop-preserved : goal.loop-preserved
loop-preserved g c =
    let ps = c.args.cutting.now.pieces in
    let l = c.loop in
    let len = read_len ps c.in-Some-draw.piece.0 c.piece-span.result c.in-Ok.run'.span c.piece-span.ensures.piece c.in-Ok.ensures.span in
    record {
      worked = worked_more ps c.args.seat c.args.share l.seat l.share c.draw.new.seat c.hand_over.new.share c.in-Some-draw.piece.0 (run_len c.in-Ok.run') 0
          l.invariant.worked c.draw.ensures.seat c.in-Some-draw.ensures.drew.0 len c.in_default-hand_over.ensures.ok;
      unspent = c.in-Some-draw.ensures.drew.1;
    }
