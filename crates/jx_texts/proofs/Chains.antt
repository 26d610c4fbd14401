-- Texts that have ended, one behind another, and more bytes behind them.
use Rattle.std.proofs.Common.{◌≡◌, ℕ, ◌+◌, List, [], ◌∷◌, ◌++◌, length, Bool, true, false, append_assoc, refl, ap, ◌∙◌, arith}
use Rattle.jx_texts.specs.declared.judged_text.JudgedText.{JudgedText}
use Rattle.jx_texts.specs.Texts.{Ended, none, one, HasEnded, NextHasEnded, opens, shows_end}

-- what has ended stays so
shows_more : (text behind more : List ℕ) → shows_end text behind ≡ true → shows_end text (behind ++ more) ≡ true
shows_more [] behind more h = absurd (cc)
shows_more (b ∷ text) (c ∷ behind) more h = h
shows_more (b ∷ text) [] more h = pick (opens b) refl h
  where
    pick : (o : Bool) → opens b ≡ o → shows_end (b ∷ text) [] ≡ true → shows_end (b ∷ text) ([] ++ more) ≡ true
    pick true e h = grind arith
    pick false e h = grind arith

pub ended_more : (limit from : ℕ) (bytes text behind more : List ℕ) → HasEnded limit from bytes text behind → HasEnded limit from (bytes ++ more) text (behind ++ more)
ended_more limit from bytes text behind more h =
    record {
      whole = ap (λ (xs : List ℕ). xs ++ more) h.whole ∙ append_assoc text behind more;
      bare = h.bare;
      tree = h.tree;
      is_text = h.is_text;
      shows = shows_more text behind more h.shows;
    }

next_more : (limit at : ℕ) (bytes more : List ℕ) (told : JudgedText) (end : ℕ) (behind : List ℕ) → NextHasEnded limit at bytes told end behind → NextHasEnded limit at (bytes ++ more) told end (behind ++ more)
next_more limit at bytes more told end behind h =
    record {
      gap = h.gap;
      tail = h.tail ++ more;
      text = h.text;
      whole = ap (λ (xs : List ℕ). xs ++ more) h.whole ∙ append_assoc h.gap h.tail more;
      blanks = h.blanks;
      ended = ended_more limit (at + length h.gap) h.tail h.text behind more h.ended;
      end_is = h.end_is;
      told_is = h.told_is;
    }

pub chain_more : {limit at left : ℕ} {bytes rest : List ℕ} {texts : List JudgedText} (more : List ℕ) → Ended limit at bytes texts left rest → Ended limit at (bytes ++ more) texts left (rest ++ more)
chain_more more none = none
chain_more {limit = limit} {at = at} {bytes = bytes} more (one {end = end} {behind = behind} {told = told} n e) =
    one (next_more limit at bytes more told end behind n) (chain_more more e)

pub chain_one : {limit at left end : ℕ} {bytes rest behind : List ℕ} {texts : List JudgedText} {told : JudgedText} → Ended limit at bytes texts left rest → NextHasEnded limit left rest told end behind
    → Ended limit at bytes (texts ++ told ∷ []) end behind
chain_one none n = one n none
chain_one (one m e) n = one m (chain_one e n)
