use Rattle.std.proofs.Common.{refl, subst}
use Rattle.jx_file_index.specs.declared.index.Index.{Index}
use Rattle.jx_file_query.specs.PausedWalks.{HasPaused}
use Rattle.jx_c.proofs.saving.opened.begun.Goals as goal

pub returns : goal.returns
returns c = λ settings chunk text kept.
    let read = c.in_ok-spelt.spelt.items in
    let come = c.pause.ensures.come settings chunk text read (c.in_ok-walk.ensures.come settings chunk text kept.index) in
    record {
      given_are = refl;
      read = read;
      spelt = c.in_ok-spelt.ensures;
      come = record { names = kept.names; come = subst (λ (i : Index). HasPaused settings chunk text read i c.pause.result) c.in_ok-walk.ensures.index come };
    }
