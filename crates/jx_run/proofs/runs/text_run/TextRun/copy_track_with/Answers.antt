use Rattle.std.proofs.Common.{◌≡◌, ◌++◌, List, ℕ, ap, sym, ◌∙◌}
use Rattle.std.proofs.lemmas.List.{append-nil}
use Rattle.jx_lex.specs.declared.alphabet.mark.Mark.{Mark}
use Rattle.jx_lex.specs.declared.alphabet.state.LexState.TheVariants.{Gap}
use Rattle.jx_lex.specs.Lex.{LexExit, Track}
use Rattle.jx_maps.specs.Map.{track}
use Rattle.jx_run.specs.TextRun.{TextRunValue}
use Rattle.jx_run.proofs.Across.{marks_through, ends_through}
use Rattle.jx_run.proofs.runs.text_run.TextRun.copy_track_with.Goals as goal

ends_in : (inside now : TextRunValue) (t : Track) (e : LexExit) → inside ≡ now → t ≡ track inside.map Gap → e ≡ t.exit → (track now.map Gap).exit ≡ e
ends_in inside now t e same is exit =
    sym (ap (λ (r : TextRunValue). (track r.map Gap).exit) same) ∙ sym (ap (λ (x : Track). x.exit) is) ∙ sym exit

pub returns-in-Fault-clause-marks : goal.returns-in-Fault-clause-marks
returns-in-Fault-clause-marks c xs ys h k =
    c.in_ok-marks.ensures.marks
    ∙ sym (marks_through c.lex_of_two_parts.ensures.two c.args.self.now c.args.right.now _ (ends_in _ c.args.self.now _ _ c.self.view_is c.entry.ensures.track c.in-Fault.ensures.value) c.requires.neighbours xs ys h k ∙ append-nil _)

pub returns-in-Fault-clause-ends : goal.returns-in-Fault-clause-ends
returns-in-Fault-clause-ends c xs ys h k =
    c.in_ok-marks.ensures.ends
    ∙ sym (ends_through c.lex_of_two_parts.ensures.two c.args.self.now c.args.right.now _ (ends_in _ c.args.self.now _ _ c.self.view_is c.entry.ensures.track c.in-Fault.ensures.value) c.requires.neighbours xs ys h k ∙ append-nil _)

pub returns-in_ok-extend_from_slice-in-State-2-clause-marks :
    goal.returns-in_ok-extend_from_slice-in-State-2-clause-marks
returns-in_ok-extend_from_slice-in-State-2-clause-marks c xs ys h k =
    let own : List Mark = (track c.args.self.now.map Gap).marks in
    c.in_ok-extend_from_slice-in-State.ensures.items
    ∙ ap (λ ms. ms ++ c.deref.result.now) c.in_ok-marks.ensures.marks
    ∙ ap (λ ms. own ++ ms) (c.deref.ensures.value ∙ c.in_ok-more_marks-in-State.ensures.marks)
    ∙ sym (marks_through c.lex_of_two_parts.ensures.two c.args.self.now c.args.right.now _ (ends_in _ c.args.self.now _ _ c.self.view_is c.entry.ensures.track c.in-State.ensures.value) c.requires.neighbours xs ys h k)

pub returns-in_ok-extend_from_slice-in-State-2-clause-ends :
    goal.returns-in_ok-extend_from_slice-in-State-2-clause-ends
returns-in_ok-extend_from_slice-in-State-2-clause-ends c xs ys h k =
    let own : List ℕ = (track c.args.self.now.map Gap).ends in
    c.in_ok-extend_from_slice-in-State-2.ensures.items
    ∙ ap (λ es. es ++ c.deref-in-State.result.now) c.in_ok-marks.ensures.ends
    ∙ ap (λ es. own ++ es) (c.deref-in-State.ensures.value ∙ c.in_ok-more_marks-in-State.ensures.ends)
    ∙ sym (ends_through c.lex_of_two_parts.ensures.two c.args.self.now c.args.right.now _ (ends_in _ c.args.self.now _ _ c.self.view_is c.entry.ensures.track c.in-State.ensures.value) c.requires.neighbours xs ys h k)
