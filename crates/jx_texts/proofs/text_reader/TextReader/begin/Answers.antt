use Rattle.std.proofs.Common.{◌≡◌, List, ℕ, ◌∷◌, [], ◌++◌, length, take, false, get_or, sym, subst, ap, ◌∙◌, arith}
use Rattle.std.specs.Prelude.{slice_index}
use Rattle.std.proofs.lemmas.List.{length-take-le}
use Rattle.jx_lex.specs.Uneventful.{is_blank}
use Rattle.jx_texts.specs.Reading.{HasTold, TextReaderValue, listed}
use Rattle.jx_texts.proofs.Lists.{take_first}
use Rattle.jx_texts.proofs.Told.{begins_behind, blanks_pass}
use Rattle.jx_texts.proofs.text_reader.TextReader.begin.Goals as goal

pub returns-then-count-eq0-clause-told : goal.returns-then-count-eq0-clause-told
returns-then-count-eq0-clause-told c = λ limit at bytes told h.
    let slice : List ℕ = c.args.slice.now in
    let first = take_first slice c.requires.some in
    let byte : ℕ = get_or slice 0 0 in
    subst (λ (n : ℕ). HasTold limit at (bytes ++ take n slice) (told ++ (listed c.in_ok-step.step.ended ++ listed c.in_ok-step.step.refused)) c.begin_text.new.self) (sym c.in_ok-step.ensures.taken)
    (subst (λ (xs : List ℕ). HasTold limit at (bytes ++ xs) (told ++ (listed c.in_ok-step.step.ended ++ listed c.in_ok-step.step.refused)) c.begin_text.new.self) (sym first)
    (c.in_ok-step.ensures.told limit at (bytes ++ byte ∷ []) told (begins_behind limit at bytes byte told c.args.self.now h c.requires.stage
    (subst (λ (n : ℕ). is_blank (slice_index slice n) ≡ false) c.if-count-eq0.true (c.blanks_in_front-count.ensures.other (omega arith))))))

pub returns-clause-told : goal.returns-clause-told
returns-clause-told c = λ limit at bytes told h.
    let i = c.self.inside in
    let r : TextReaderValue = record { reader = i.reader; stage = i.stage } in
    let new : TextReaderValue = record { reader = c.reset.new.self; stage = i.stage } in
    let slice : List ℕ = c.args.slice.now in
    let count : ℕ = c.blanks_in_front-count.result in
    let k : HasTold limit at bytes told r = subst (λ (v : TextReaderValue). HasTold limit at bytes told v) (sym c.self.view_is) h in
    let stage = ap (λ (v : TextReaderValue). v.stage) c.self.view_is ∙ c.requires.stage in
    let long : length (take count slice) ≡ count = length-take-le count slice c.blanks_in_front-count.ensures.within in
    let end = c.end-end.ensures in
    let start = c.reset.ensures.start in
    blanks_pass limit at bytes (take count slice) told r new k stage c.blanks_in_front-count.ensures.blanks stage c.reset.ensures.settings (omega (arith, end, start, long)) c.reset.ensures.reads
