-- What is written so far, piece by piece.
use Rattle.std.proofs.Common.{◌≡◌, ℕ, ◌+◌, ◌<◌, List, [], ◌∷◌, ◌++◌, Bool, Option, length, get_or, drop, sym, subst, ap, ◌∙◌, add-one, append_assoc, append-nil}
use Rattle.std.specs.Prelude.{◌==◌}
use Rattle.std.specs.Io.KnownBytes.{Appends}
use Rattle.std.proofs.KnownBytes.{Appends-trans}
use Rattle.std.proofs.Math.Seq.{drop-cons}
use Rattle.jx_words.specs.Showing.{escaped, shown_byte, shown_character, shown_from}

-- what was written, and what is left to be written, are all
pub record IsWrittenUpTo (old new : Option (List ℕ)) (left all : List ℕ) : Type 0 where
  pub done : List ℕ
  pub wrote : Appends old new done
  pub whole : done ++ left ≡ all

pub written_more : (old new newer : Option (List ℕ)) (left more rest all : List ℕ) → IsWrittenUpTo old new left all → left ≡ more ++ rest → Appends new newer more
    → IsWrittenUpTo old newer rest all
written_more old new newer left more rest all before is next = record {
  done = before.done ++ more;
  wrote = Appends-trans old new newer before.done more before.wrote next;
  whole = append_assoc before.done more rest ∙ ap (λ (x : List ℕ). before.done ++ x) (sym is) ∙ before.whole;
}

pub written_all : (old new : Option (List ℕ)) (left all : List ℕ) → IsWrittenUpTo old new left all → left ≡ [] → Appends old new all
written_all old new left all before none =
    subst (λ (x : List ℕ). Appends old new x) (sym (append-nil before.done) ∙ ap (λ (x : List ℕ). before.done ++ x) (sym none) ∙ before.whole) before.wrote

-- one byte more is escaped
pub escaped_more : (bytes : List ℕ) (i : ℕ) → i < length bytes → escaped (drop i bytes) ≡ shown_byte (get_or bytes i 0) ++ escaped (drop (i + 1) bytes)
escaped_more bytes i within =
    ap escaped (drop-cons bytes i 0 within) ∙ ap (λ (k : ℕ). shown_byte (get_or bytes i 0) ++ escaped (drop k bytes)) (sym (add-one i))

-- one character more is shown
pub shown_more : (is_behind_colon : Bool) (cs : List ℕ) (i c : ℕ) → (i < length cs) × (c ≡ get_or cs i c)
    → shown_from is_behind_colon (drop i cs) ≡ shown_character is_behind_colon c ++ shown_from (c == 58) (drop (i + 1) cs)
shown_more is_behind_colon cs i c at =
    ap (shown_from is_behind_colon) (drop-cons cs i c at.0)
    ∙ ap (λ (k : ℕ). shown_from is_behind_colon (get_or cs i c ∷ drop k cs)) (sym (add-one i))
    ∙ ap (λ (x : ℕ). shown_from is_behind_colon (x ∷ drop (i + 1) cs)) (sym at.1)
