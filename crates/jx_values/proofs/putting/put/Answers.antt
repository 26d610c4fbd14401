use Rattle.std.proofs.Common.{◌≡◌, List, ℕ, [], ◌++◌, subst, sym}
use Rattle.std.proofs.lemmas.Result.{on_err_weaker, on_ok_weaker}
use Rattle.std.specs.Io.KnownBytes.{Appends}
use Rattle.jx_words.specs.inside.Room.{IsPut}
use Rattle.jx_values.proofs.Lines.{put_part, put_through}
use Rattle.jx_values.proofs.putting.put.Goals as goal

pub returns-clause-ok : goal.returns-clause-ok
returns-clause-ok g c =
    let contents = g.W.Sink.contents in
    let out : List ℕ = c.args.out.now.items in
    let old = contents c.args.writer.now in
    let mid = contents c.write_whole.new.writer in
    let new = contents c.write_whole-2.new.writer in
    let waited : Appends old mid out = subst (Appends old mid) c.deref.ensures.value c.in_ok-write_whole.ensures.ok in
    let emptied : c.clear.new.self.items ≡ [] = c.clear.ensures.items in
    on_ok_weaker c.write_whole-2.result
    (λ h. subst (λ (x : List ℕ). IsPut old new x (out ++ c.args.bytes.now)) (sym emptied) (put_through old mid new out c.args.bytes.now waited h)) c.write_whole-2.ensures.ok

pub returns-clause-err : goal.returns-clause-err
returns-clause-err g c =
    let contents = g.W.Sink.contents in
    let out : List ℕ = c.args.out.now.items in
    let old = contents c.args.writer.now in
    let mid = contents c.write_whole.new.writer in
    let waited : Appends old mid out = subst (Appends old mid) c.deref.ensures.value c.in_ok-write_whole.ensures.ok in
    on_err_weaker c.write_whole-2.result (put_part old mid (contents c.write_whole-2.new.writer) out c.args.bytes.now waited) c.write_whole-2.ensures.err
