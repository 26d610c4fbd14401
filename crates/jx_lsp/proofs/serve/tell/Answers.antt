use Rattle.std.proofs.Common.{◌≡◌, ◌≢◌, ℕ, Option, Vec, ap, subst, ◌∙◌}
use Rattle.std.specs.Global.{Global}
use Rattle.std.specs.Prelude.{IfSome}
use Rattle.jx_index.specs.ByNames.{IsVerdictBy}
use Rattle.jx_run.specs.declared.texts.verdict.Verdict.TheVariants.{Accepted}
use Rattle.jx_wire.specs.Frames.{frame}
use Rattle.jx_serve.specs.Messages.{message_settings}
use Rattle.jx_serve.specs.Words.{IsMessageOf}
use Rattle.jx_serve.specs.declared.reply.Reply.TheVariants.{Nothing}
use Rattle.jx_lsp.proofs.Sessions.{nothing_written, on_ok, one_written}
use Rattle.jx_lsp.proofs.serve.tell.Goals.{in-Nothing, in_default}
use Rattle.jx_lsp.proofs.serve.tell.Goals as goal

pub returns-then-matches : goal.returns-then-matches
returns-then-matches g c =
    let nothing : c.args.reply.now ≡ Nothing = elim c.match-matches.branch [ in-Nothing w ↦ w.in-Nothing.is | in_default w ↦ absurd (cc (w.matches-is, c.if-matches.true)) ] in
    nothing_written (g.W.Write.contents c.args.writer.now) c.args.reply.now nothing

pub returns : goal.returns
returns g c =
    let contents = g.W.Write.contents in
    let some : c.args.reply.now ≢ Nothing = λ e. elim c.match-matches.branch [ in-Nothing w ↦ absurd (cc (w.matches-is, c.if-matches.false)) | in_default w ↦ w.in_default.not-Nothing e ] in
    let spelt = subst (λ (o : Option (Vec ℕ Global)). IfSome o (λ m. IsMessageOf c.args.reply.now m.items)) c.in-Some.is c.in_ok-message.ensures.spelt in
    let text = subst (λ (o : Option (Vec ℕ Global)). IfSome o (λ m. IsVerdictBy message_settings m.items Accepted)) c.in-Some.is c.in_ok-message.ensures.text in
    let same : c.deref-2.result.now ≡ frame c.in-Some.message.items = c.deref-2.ensures.value ∙ c.in_ok-frame.ensures ∙ ap frame c.deref.ensures.value in
    on_ok c.flush.result (one_written (contents c.args.writer.now) (contents c.write_all.new.self) (contents c.flush.new.self) c.args.reply.now c.in-Some.message.items c.deref-2.result.now
    some spelt text same c.in_ok-write_all.ensures.bytes c.flush.ensures.bytes)
