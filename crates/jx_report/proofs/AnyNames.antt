-- In a text that is accepted by settings, what pointers come to whatever names its objects have is what they come to by settings.
use Rattle.std.proofs.Common.{◌≡◌, ℕ, List, refl, sym, subst}
use Rattle.std.specs.Prelude.{None, Result, Ok, Err, Vec}
use Rattle.std.specs.declared.alloc.Global.{Global}
use Rattle.jx_run.specs.declared.texts.settings.NameRule.{NameRule}
use Rattle.jx_run.specs.declared.texts.settings.NameRule.TheVariants.{Any, Unique}
use Rattle.jx_run.specs.declared.texts.settings.Settings.{Settings}
use Rattle.jx_run.specs.declared.texts.verdict.Refusal.{Refusal}
use Rattle.jx_run.specs.declared.texts.verdict.Verdict.{Verdict}
use Rattle.jx_run.specs.declared.texts.verdict.Verdict.TheVariants.{Accepted, Refused}
use Rattle.jx_run.specs.Settings.{IsDocumentBy}
use Rattle.jx_run.specs.Tree.{Tree}
use Rattle.jx_index.specs.ByNames.{IsVerdictBy, a_text}
use Rattle.jx_words.specs.declared.pointer_answer.PointerAnswer.{PointerAnswer}
use Rattle.jx_words.specs.Answers.{AreAnswersBy}
use Rattle.jx_report.specs.inside.PointerReads.{IsRefusalByNames, any_names}

-- bytes have one verdict by settings
abbrev pub VerdictsAreOne : Type 0
VerdictsAreOne = (settings : Settings) (bytes : List ℕ) (x y : Verdict) → IsVerdictBy settings bytes x → IsVerdictBy settings bytes y → x ≡ y

module _ (settings : Settings) (text : List ℕ) where
  pub with_names : (tree : Tree) → IsDocumentBy (any_names settings) 0 text tree → IsDocumentBy settings 0 text tree
  with_names tree d = record { front = d.front; rest = d.rest; is_front = d.is_front; whole = d.whole; text = d.text }

  without_names : (tree : Tree) → IsDocumentBy settings 0 text tree → IsDocumentBy (any_names settings) 0 text tree
  without_names tree d = record { front = d.front; rest = d.rest; is_front = d.is_front; whole = d.whole; text = d.text }

  pub accepted_by_any : IsVerdictBy settings text Accepted → IsVerdictBy (any_names settings) text Accepted
  accepted_by_any (a_text {tree = tree} d h) = a_text (without_names tree d) refl

-- in a text that is accepted by settings, pointers come to the same whatever names its objects have
pub answers_by_names : VerdictsAreOne → (settings : Settings) (text : List ℕ) (spelt : List (List ℕ)) → IsVerdictBy settings text Accepted
    → (r : Result (Vec PointerAnswer Global) Refusal) → AreAnswersBy (any_names settings) text spelt r → AreAnswersBy settings text spelt r
answers_by_names one settings text spelt accepted (Ok answers) h =
    (accepted, record { tree = h.1.tree; is_text = with_names settings text h.1.tree h.1.is_text; are_answers = h.1.are_answers })
answers_by_names one settings text spelt accepted (Err refusal) h =
    let same : Accepted ≡ Refused refusal = one (any_names settings) text Accepted (Refused refusal) (accepted_by_any settings text accepted) h in absurd (cc)

module _ (settings : Settings) (text : List ℕ) (spelt : List (List ℕ)) (r : Result (Vec PointerAnswer Global) Refusal) where
  by_rule : VerdictsAreOne → IsRefusalByNames settings text None → (rule : NameRule) → settings.names ≡ rule → AreAnswersBy (any_names settings) text spelt r → AreAnswersBy settings text spelt r
  by_rule one unrefused Any is h = subst (λ (n : NameRule). AreAnswersBy (record { depth = settings.depth; mark = settings.mark; names = n }) text spelt r) (sym is) h
  by_rule one unrefused Unique is h = answers_by_names one settings text spelt (unrefused is) r h

  -- what is not refused by the rule on names is answered as where objects may have any
  pub answers_unrefused : VerdictsAreOne → IsRefusalByNames settings text None → AreAnswersBy (any_names settings) text spelt r → AreAnswersBy settings text spelt r
  answers_unrefused one unrefused h = by_rule one unrefused settings.names refl h
