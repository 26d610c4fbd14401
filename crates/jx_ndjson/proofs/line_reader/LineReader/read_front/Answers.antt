use Rattle.std.proofs.Common.{◌≡◌, ℕ, ◌+◌, ◌++◌, List, take, false, sym, subst, ap, refl, ◌∙◌}
use Rattle.jx_ndjson.specs.declared.judged_line.JudgedLine.{JudgedLine}
use Rattle.jx_ndjson.specs.Reading.{HasReadLines, HasTold, LineReaderValue, listed}
use Rattle.jx_ndjson.specs.inside.Steps.{is_next_of_mark}
use Rattle.std.proofs.lemmas.List.{append-nil}
use Rattle.jx_ndjson.proofs.Fronts.{leaves_front}
use Rattle.jx_ndjson.proofs.Steps.{both_ok, first_alone, first_of, long_by, same_lines}
use Rattle.jx_ndjson.proofs.line_reader.LineReader.read_front.Goals as goal

pub returns-then-is_next_of_mark-clause-told : goal.returns-then-is_next_of_mark-clause-told
returns-then-is_next_of_mark-clause-told c = λ settings input told h.
    subst (λ (js : List JudgedLine). HasTold settings (input ++ take 1 c.args.slice.now) js c.pass_mark.new.self) (sym (append-nil told))
    (subst (λ (xs : List ℕ). HasTold settings (input ++ xs) told c.pass_mark.new.self) (sym (first_alone c.args.slice.now c.in-Some.byte.now (sym c.in-Some.ensures.value)))
    (c.in_ok-pass_mark.ensures.told settings input told h))

pub returns-clause-told : goal.returns-clause-told
returns-clause-told c =
    both_ok c.read_line.result
    (λ step some told_by settings input told h.
    let i = c.self.inside in
    let r : LineReaderValue = record { reader = i.reader; is_blank = i.is_blank; open_ended = i.open_ended; ended = i.ended; in_front = i.in_front } in
    let slice : List ℕ = c.args.slice.now in
    let b : ℕ = c.in-Some.byte.now in
    let first = first_of slice b step.taken (sym c.in-Some.ensures.value) (some (long_by slice b (sym c.in-Some.ensures.value))) in
    let there = ap (λ (v : LineReaderValue). v.reader.start + v.reader.count) c.self.view_is in
    let differs : is_next_of_mark (c.args.self.now.reader.start + c.args.self.now.reader.count) b ≡ false =
    sym (ap (λ (n : ℕ). is_next_of_mark n b) (c.end.ensures ∙ there)) ∙ sym c.is_next_of_mark.ensures ∙ c.if-is_next_of_mark.false in
    subst (λ (xs : List ℕ). HasTold settings (input ++ xs) (told ++ listed step.line) c.read_line.new.self) (sym first.1)
    (leaves_front settings input b first.0 told (told ++ listed step.line) c.args.self.now c.read_line.new.self h c.requires.in_front c.read_line.ensures.in_front differs
    (λ at before o.
    subst (λ (xs : List ℕ). HasReadLines settings at (before ++ xs) (told ++ listed step.line) c.read_line.new.self) first.1
    (told_by settings at before told (same_lines settings at before told r _ refl refl refl refl (subst (λ (v : LineReaderValue). HasReadLines settings at before told v) (sym c.self.view_is) o))))))
    c.read_line.ensures.goes_on c.read_line.ensures.told
