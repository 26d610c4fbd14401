use Rattle.std.proofs.Common.{arith, ap, sym, set, ◌≡◌, ◌∙◌, ◌+◌, ◌/◌, refl}
use Rattle.std.proofs.Math.ListN.{length-set}
use Rattle.jx_edit.specs.inside.Chunks.{open_ended, ChunkValue}
use Rattle.jx_edit.specs.inside.Places.{origin}
use Rattle.jx_edit.proofs.Groups.{no_sum, sums_linked, sums_loosened}
use Rattle.jx_edit.proofs.Links.{bytes_linked, bytes_loosened, link_of, linked_to, relinked_same, relinked_last, relinked_next}
use Rattle.jx_edit.proofs.reading.walk.link_at.Goals as goal

pub link-requires : goal.link-requires
link-requires c = record {
  within =
      omega (arith, c.requires.within, (link_of c.args.depth origin c.args.chunks.now c.args.number c.index-chunks-number.result c.requires.number c.requires.linked).depth);
}

pub returns-then-link-clause-linked : goal.returns-then-link-clause-linked
returns-then-link-clause-linked c =
    (relinked_same c.args.depth c.args.chunks.now c.args.number c.index-chunks-number.result c.link.new.self c.args.to c.requires.number c.index-chunks-number.is c.requires.linked c.requires.leads
    (c.link.ensures.linked ∙ ap (λ (y : ChunkValue). linked_to y c.args.to) (sym c.index-chunks-number.is))
    (c.link.ensures.same c.if-link.true ∙ ap (λ (y : ChunkValue). y.to) (sym c.index-chunks-number.is))).linked

pub returns-then-link-clause-bytes : goal.returns-then-link-clause-bytes
returns-then-link-clause-bytes c =
    (relinked_same c.args.depth c.args.chunks.now c.args.number c.index-chunks-number.result c.link.new.self c.args.to c.requires.number c.index-chunks-number.is c.requires.linked c.requires.leads
    (c.link.ensures.linked ∙ ap (λ (y : ChunkValue). linked_to y c.args.to) (sym c.index-chunks-number.is))
    (c.link.ensures.same c.if-link.true ∙ ap (λ (y : ChunkValue). y.to) (sym c.index-chunks-number.is))).bytes

pub returns-then-link-clause-place : goal.returns-then-link-clause-place
returns-then-link-clause-place c =
    (relinked_same c.args.depth c.args.chunks.now c.args.number c.index-chunks-number.result c.link.new.self c.args.to c.requires.number c.index-chunks-number.is c.requires.linked c.requires.leads
    (c.link.ensures.linked ∙ ap (λ (y : ChunkValue). linked_to y c.args.to) (sym c.index-chunks-number.is))
    (c.link.ensures.same c.if-link.true ∙ ap (λ (y : ChunkValue). y.to) (sym c.index-chunks-number.is))).place

pub returns-else-next-chunks-clause-linked : goal.returns-else-next-chunks-clause-linked
returns-else-next-chunks-clause-linked c =
    (relinked_last c.args.depth c.args.chunks.now c.args.number c.index-chunks-number.result c.link.new.self c.args.to c.requires.number (omega (arith, length-set c.args.chunks.now c.args.number c.link.new.self)) c.index-chunks-number.is c.requires.linked c.requires.leads
    (c.link.ensures.linked ∙ ap (λ (y : ChunkValue). linked_to y c.args.to) (sym c.index-chunks-number.is))).linked

pub returns-else-next-chunks-clause-bytes : goal.returns-else-next-chunks-clause-bytes
returns-else-next-chunks-clause-bytes c =
    (relinked_last c.args.depth c.args.chunks.now c.args.number c.index-chunks-number.result c.link.new.self c.args.to c.requires.number (omega (arith, length-set c.args.chunks.now c.args.number c.link.new.self)) c.index-chunks-number.is c.requires.linked c.requires.leads
    (c.link.ensures.linked ∙ ap (λ (y : ChunkValue). linked_to y c.args.to) (sym c.index-chunks-number.is))).bytes

pub returns-else-next-chunks-clause-place : goal.returns-else-next-chunks-clause-place
returns-else-next-chunks-clause-place c =
    (relinked_last c.args.depth c.args.chunks.now c.args.number c.index-chunks-number.result c.link.new.self c.args.to c.requires.number (omega (arith, length-set c.args.chunks.now c.args.number c.link.new.self)) c.index-chunks-number.is c.requires.linked c.requires.leads
    (c.link.ensures.linked ∙ ap (λ (y : ChunkValue). linked_to y c.args.to) (sym c.index-chunks-number.is))).place

pub returns-then-next-chunks-clause-linked : goal.returns-then-next-chunks-clause-linked
returns-then-next-chunks-clause-linked c =
    (relinked_next c.args.depth c.args.chunks.now c.args.number (c.args.number + 1) c.index-chunks-number.result c.link.new.self c.index-chunks-next.result c.unlink.new.self c.args.to
    c.requires.number refl (omega (arith, length-set c.args.chunks.now c.args.number c.link.new.self)) c.index-chunks-number.is c.requires.linked c.requires.leads
    (c.link.ensures.linked ∙ ap (λ (y : ChunkValue). linked_to y c.args.to) (sym c.index-chunks-number.is)) c.index-chunks-next.is (c.unlink.ensures ∙ ap open_ended (sym c.index-chunks-next.is))).linked

pub returns-then-next-chunks-clause-bytes : goal.returns-then-next-chunks-clause-bytes
returns-then-next-chunks-clause-bytes c =
    (relinked_next c.args.depth c.args.chunks.now c.args.number (c.args.number + 1) c.index-chunks-number.result c.link.new.self c.index-chunks-next.result c.unlink.new.self c.args.to
    c.requires.number refl (omega (arith, length-set c.args.chunks.now c.args.number c.link.new.self)) c.index-chunks-number.is c.requires.linked c.requires.leads
    (c.link.ensures.linked ∙ ap (λ (y : ChunkValue). linked_to y c.args.to) (sym c.index-chunks-number.is)) c.index-chunks-next.is (c.unlink.ensures ∙ ap open_ended (sym c.index-chunks-next.is))).bytes

pub returns-then-next-chunks-clause-place : goal.returns-then-next-chunks-clause-place
returns-then-next-chunks-clause-place c =
    (relinked_next c.args.depth c.args.chunks.now c.args.number (c.args.number + 1) c.index-chunks-number.result c.link.new.self c.index-chunks-next.result c.unlink.new.self c.args.to
    c.requires.number refl (omega (arith, length-set c.args.chunks.now c.args.number c.link.new.self)) c.index-chunks-number.is c.requires.linked c.requires.leads
    (c.link.ensures.linked ∙ ap (λ (y : ChunkValue). linked_to y c.args.to) (sym c.index-chunks-number.is)) c.index-chunks-next.is (c.unlink.ensures ∙ ap open_ended (sym c.index-chunks-next.is))).place

pub returns-then-link-clause-on : goal.returns-then-link-clause-on
returns-then-link-clause-on c =
    (relinked_same c.args.depth c.args.chunks.now c.args.number c.index-chunks-number.result c.link.new.self c.args.to c.requires.number c.index-chunks-number.is c.requires.linked c.requires.leads
    (c.link.ensures.linked ∙ ap (λ (y : ChunkValue). linked_to y c.args.to) (sym c.index-chunks-number.is))
    (c.link.ensures.same c.if-link.true ∙ ap (λ (y : ChunkValue). y.to) (sym c.index-chunks-number.is))).on

pub returns-else-next-chunks-clause-on : goal.returns-else-next-chunks-clause-on
returns-else-next-chunks-clause-on c =
    (relinked_last c.args.depth c.args.chunks.now c.args.number c.index-chunks-number.result c.link.new.self c.args.to c.requires.number (omega (arith, length-set c.args.chunks.now c.args.number c.link.new.self)) c.index-chunks-number.is c.requires.linked c.requires.leads
    (c.link.ensures.linked ∙ ap (λ (y : ChunkValue). linked_to y c.args.to) (sym c.index-chunks-number.is))).on

pub returns-then-next-chunks-clause-on : goal.returns-then-next-chunks-clause-on
returns-then-next-chunks-clause-on c =
    (relinked_next c.args.depth c.args.chunks.now c.args.number (c.args.number + 1) c.index-chunks-number.result c.link.new.self c.index-chunks-next.result c.unlink.new.self c.args.to
    c.requires.number refl (omega (arith, length-set c.args.chunks.now c.args.number c.link.new.self)) c.index-chunks-number.is c.requires.linked c.requires.leads
    (c.link.ensures.linked ∙ ap (λ (y : ChunkValue). linked_to y c.args.to) (sym c.index-chunks-number.is)) c.index-chunks-next.is (c.unlink.ensures ∙ ap open_ended (sym c.index-chunks-next.is))).on

pub returns-then-link-clause-sums : goal.returns-then-link-clause-sums
returns-then-link-clause-sums c =
    sums_linked c.args.chunks.now c.args.sums.now c.args.number c.link.new.self c.requires.number
    (bytes_linked c.args.chunks.now c.args.number c.index-chunks-number.result c.link.new.self c.args.to c.requires.number c.index-chunks-number.is (c.link.ensures.linked ∙ ap (λ (y : ChunkValue). linked_to y c.args.to) (sym c.index-chunks-number.is)))
    (ap (λ (y : ChunkValue). y.linked) (c.link.ensures.linked ∙ ap (λ (y : ChunkValue). linked_to y c.args.to) (sym c.index-chunks-number.is))) c.requires.sums

pub returns-else-next-chunks-clause-sums : goal.returns-else-next-chunks-clause-sums
returns-else-next-chunks-clause-sums c =
    sums_linked c.args.chunks.now c.args.sums.now c.args.number c.link.new.self c.requires.number
    (bytes_linked c.args.chunks.now c.args.number c.index-chunks-number.result c.link.new.self c.args.to c.requires.number c.index-chunks-number.is (c.link.ensures.linked ∙ ap (λ (y : ChunkValue). linked_to y c.args.to) (sym c.index-chunks-number.is)))
    (ap (λ (y : ChunkValue). y.linked) (c.link.ensures.linked ∙ ap (λ (y : ChunkValue). linked_to y c.args.to) (sym c.index-chunks-number.is))) c.requires.sums

pub returns-then-next-chunks-clause-sums : goal.returns-then-next-chunks-clause-sums
returns-then-next-chunks-clause-sums c =
    let cs = set c.args.chunks.now c.args.number c.link.new.self in
    let next = c.args.number + 1 in
    let group = next / 64 in
    let linked : c.link.new.self ≡ linked_to c.index-chunks-number.result c.args.to = c.link.ensures.linked ∙ ap (λ (y : ChunkValue). linked_to y c.args.to) (sym c.index-chunks-number.is) in
    sums_loosened cs c.args.sums.now next group c.unlink.new.self no_sum (omega arith) (omega arith)
    (omega (arith, c.if-next-chunks.true, length-set c.args.chunks.now c.args.number c.link.new.self, c.requires.sums.covers))
    (bytes_loosened cs next c.index-chunks-next.result c.unlink.new.self c.if-next-chunks.true c.index-chunks-next.is (c.unlink.ensures ∙ ap open_ended (sym c.index-chunks-next.is)))
    (sums_linked c.args.chunks.now c.args.sums.now c.args.number c.link.new.self c.requires.number
    (bytes_linked c.args.chunks.now c.args.number c.index-chunks-number.result c.link.new.self c.args.to c.requires.number c.index-chunks-number.is linked)
    (ap (λ (y : ChunkValue). y.linked) linked) c.requires.sums)
