use Rattle.std.proofs.Common.{◌∙◌, subst, sym}
use Rattle.std.proofs.lemmas.Result.{on_ok_weaker}
use Rattle.jx_c.specs.Values.{HasStreamed, StreamValue}
use Rattle.jx_c.proofs.streams.stream.ValueStream.feed.Goals as goal

pub returns : goal.returns
returns c =
    record {
      streamed = on_ok_weaker c.feed.result
          (λ on. λ settings pointer input given whole.
          let h = subst (λ (s : StreamValue). HasStreamed settings pointer input given s) (sym c.self.view_is) whole in
          record { settings_are = c.feed.ensures.settings ∙ h.settings_are; taken = on pointer input given h.taken; sought = c.in_ok-seek.ensures settings pointer input h.sought }) c.feed.ensures.taken;
    }
