-- What names that are told the tokens of a slice are held of.
use Rattle.std.proofs.Common.{◌≡◌, ℕ, ◌+◌, ◌-◌, ◌<◌, ◌≤◌, List, [], ◌∷◌, ◌++◌, length, drop, take, refl, sym, ap, subst, ◌∙◌, append-nil, append_assoc, arith, true, false, Option, None, Some}
use Rattle.std.specs.Prelude.{slice_range}
use Rattle.std.proofs.lemmas.List.{drop-append-le, drop-drop, length-drop, take-append-le}
use Rattle.std.proofs.Math.Seq.{drop-append_seam}
use Rattle.jx_lex.specs.declared.alphabet.mark.Mark.{Mark}
use Rattle.jx_lex.specs.declared.alphabet.mark.MarkKind.{MarkKind}
use Rattle.jx_lex.specs.declared.alphabet.mark.MarkKind.TheVariants as mark
use Rattle.jx_run.specs.Telling.{moved_ends, moved_mark, moved_marks}
use Rattle.jx_index.specs.inside.Building.{Building, built_of, is_token, nothing_built, on_mark}
use Rattle.jx_index.proofs.CutNames.{ends_more, marks_more, rest}
use Rattle.jx_index.proofs.InOrders.{comes_all, comes_end, comes_last, comes_plain, comes_token, none_begun, one_begun}
use Rattle.jx_names.specs.declared.open_names.OpenNames.{OpenNames}
use Rattle.jx_names.specs.inside.HeldNames.{IsHeld}
use Rattle.jx_names.specs.inside.KeptNames.{Kept, Stands, is_name_next, kept}
use Rattle.jx_names.specs.inside.SliceNames.{HasTold, Holds, IsToldOf}

-- ---- names that are told a mark

-- what stands of a text does so with one mark more, whatever text it is
abbrev pub Tells : MarkKind → ℕ → List ℕ → Kept → Kept → Type 0
Tells kind at name old new = (text : List ℕ) (b : Building) (end : ℕ) → (is_name_next kind old ≡ true → slice_range text at end ≡ name)
    → Stands text b old → Stands text (on_mark kind at end b) new

plain_no_name : (k : MarkKind) (names : Kept) → is_token k ≡ false → is_name_next k names ≡ true → ⊥
plain_no_name mark.String names h n = cc
plain_no_name mark.OpenArray names h n = cc
plain_no_name mark.OpenObject names h n = cc
plain_no_name mark.CloseArray names h n = cc
plain_no_name mark.CloseObject names h n = cc
plain_no_name mark.Colon names h n = cc
plain_no_name mark.Comma names h n = cc
plain_no_name mark.Number names h n = cc
plain_no_name mark.True names h n = cc
plain_no_name mark.False names h n = cc
plain_no_name mark.Null names h n = cc

module _ (before slice : List ℕ) (marks : List Mark) (ends : List ℕ) (names : Kept) where
  told_token : (m : Mark) (name : List ℕ) → is_token m.kind ≡ true → length before ≤ m.at → IsToldOf before slice marks ends names None name
      → IsToldOf before slice (marks ++ m ∷ []) ends names (Some m) name
  told_token m name token late h = record {
    building = h.building;
    comes = comes_token marks ends h.building m h.comes;
    stands = h.stands;
    token = one_begun m token;
    name_is = λ n e next low. let same : m ≡ n = cc in absurd (omega (arith, late, low, ap (λ (x : Mark). x.at) same));
  }

  told_plain : (m : Mark) (next : Kept) (name : List ℕ) → is_token m.kind ≡ false → Tells m.kind m.at [] names next → IsToldOf before slice marks ends names None name
      → IsToldOf before slice (marks ++ m ∷ []) ends next None name
  told_plain m next name plain tells h = record {
    building = on_mark m.kind m.at 0 h.building;
    comes = comes_plain marks ends h.building m plain h.comes;
    stands = λ future. tells ((before ++ slice) ++ future) h.building 0 (λ e. absurd (plain_no_name m.kind names plain e)) (h.stands future);
    token = none_begun;
    name_is = λ n e f low. absurd cc;
  }

  told_end : (m : Mark) (at : ℕ) (next : Kept) (name after told : List ℕ) → Tells m.kind m.at told names next
      → ((future : List ℕ) → is_name_next m.kind names ≡ true → slice_range ((before ++ slice) ++ future) m.at at ≡ told)
      → IsToldOf before slice marks ends names (Some m) name → IsToldOf before slice marks (ends ++ at ∷ []) next None after
  told_end m at next name after told tells named h = record {
    building = on_mark m.kind m.at at h.building;
    comes = comes_end marks ends h.building m at (h.token m refl) h.comes;
    stands = λ future. tells ((before ++ slice) ++ future) h.building at (named future) (h.stands future);
    token = none_begun;
    name_is = λ n e f low. absurd cc;
  }

-- ---- whatever was held at the slice's start

module _ (held : Holds) (slice : List ℕ) (marks : List Mark) (ends : List ℕ) (own : List ℕ) (base : ℕ) (names : Kept) where
  pub has_token : (m : Mark) (at : ℕ) (begun : Option Mark) (name : List ℕ) → at ≡ base + m.at → is_token m.kind ≡ true → begun ≡ None
      → HasTold held slice marks ends own base names begun name → HasTold held slice (marks ++ m ∷ []) ends own base names (Some (record { kind = m.kind; at = at })) name
  has_token m at begun name moved token none h = record {
    slice_is = h.slice_is;
    base_is = h.base_is;
    told = λ before ms es was.
        let b = h.base_is before ms es was in
        let n : Mark = moved_mark base m in
        let same : n ≡ record { kind = m.kind; at = at } = ap (λ (i : ℕ). record { kind = m.kind; at = i }) (sym moved) in
        let s = subst (λ (o : Option Mark). IsToldOf before slice (ms ++ moved_marks base marks) (es ++ moved_ends base ends) names o name) none (h.told before ms es was) in
        subst (λ (xs : List Mark). IsToldOf before slice xs (es ++ moved_ends base ends) names (Some (record { kind = m.kind; at = at })) name) (sym (marks_more base ms marks m))
        (subst (λ (x : Mark). IsToldOf before slice ((ms ++ moved_marks base marks) ++ n ∷ []) (es ++ moved_ends base ends) names (Some x) name) same
        (told_token before slice (ms ++ moved_marks base marks) (es ++ moved_ends base ends) names n name token (omega (arith, b)) s));
  }

  pub has_plain : (m : Mark) (at : ℕ) (next : Kept) (begun : Option Mark) (name : List ℕ) → at ≡ base + m.at → is_token m.kind ≡ false → begun ≡ None → Tells m.kind at [] names next
      → HasTold held slice marks ends own base names begun name → HasTold held slice (marks ++ m ∷ []) ends own base next begun name
  has_plain m at next begun name moved plain none tells h = record {
    slice_is = h.slice_is;
    base_is = h.base_is;
    told = λ before ms es was.
        let n : Mark = moved_mark base m in
        let s = subst (λ (o : Option Mark). IsToldOf before slice (ms ++ moved_marks base marks) (es ++ moved_ends base ends) names o name) none (h.told before ms es was) in
        let t : Tells m.kind (base + m.at) [] names next = subst (λ (i : ℕ). Tells m.kind i [] names next) moved tells in
        subst (λ (o : Option Mark). IsToldOf before slice (ms ++ moved_marks base (marks ++ m ∷ [])) (es ++ moved_ends base ends) next o name) (sym none)
        (subst (λ (xs : List Mark). IsToldOf before slice xs (es ++ moved_ends base ends) next None name) (sym (marks_more base ms marks m))
        (told_plain before slice (ms ++ moved_marks base marks) (es ++ moved_ends base ends) names n next name plain t s));
  }

  pub has_end : (m : Mark) (at : ℕ) (next : Kept) (begun : Option Mark) (name after told : List ℕ) → begun ≡ Some m → Tells m.kind m.at told names next
      → (is_name_next m.kind names ≡ true → (before future : List ℕ) → base ≡ length before → (m.at < base → name ≡ drop m.at before) → told ≡ slice_range ((before ++ own) ++ future) m.at (base + at))
      → HasTold held slice marks ends own base names begun name → HasTold held slice marks (ends ++ at ∷ []) own base next None after
  has_end m at next begun name after told some tells named h = record {
    slice_is = h.slice_is;
    base_is = h.base_is;
    told = λ before ms es was.
        let b = h.base_is before ms es was in
        let s = subst (λ (o : Option Mark). IsToldOf before slice (ms ++ moved_marks base marks) (es ++ moved_ends base ends) names o name) some (h.told before ms es was) in
        subst (λ (xs : List ℕ). IsToldOf before slice (ms ++ moved_marks base marks) xs next None after) (sym (ends_more base es ends at))
        (told_end before slice (ms ++ moved_marks base marks) (es ++ moved_ends base ends) names m (base + at) next name after told tells
        (λ future e.
        ap (λ (xs : List ℕ). slice_range ((before ++ xs) ++ future) m.at (base + at)) (sym h.slice_is)
        ∙ sym (named e before future b (λ low. s.name_is m refl e (subst (λ (i : ℕ). m.at < i) b low)))) s);
  }

module _ (held : Holds) (slice : List ℕ) (marks : List Mark) (ends : List ℕ) (own : List ℕ) (base : ℕ) (names : Kept) where
  -- a mark, and at once the end that belongs to it
  pub has_whole : (m : Mark) (at to : ℕ) (next : Kept) (begun : Option Mark) (name after told : List ℕ) → at ≡ base + m.at → is_token m.kind ≡ true → begun ≡ None
      → Tells m.kind at told names next
      → (is_name_next m.kind names ≡ true → (before future : List ℕ) → base ≡ length before → (at < base → name ≡ drop at before) → told ≡ slice_range ((before ++ own) ++ future) at (base + to))
      → HasTold held slice marks ends own base names begun name → HasTold held slice (marks ++ m ∷ []) (ends ++ to ∷ []) own base next begun after
  has_whole m at to next begun name after told moved token none tells named h =
      subst (λ (o : Option Mark). HasTold held slice (marks ++ m ∷ []) (ends ++ to ∷ []) own base next o after) (sym none)
      (has_end held slice (marks ++ m ∷ []) ends own base names (record { kind = m.kind; at = at }) to next (Some (record { kind = m.kind; at = at })) name after told refl tells named
      (has_token held slice marks ends own base names m at begun name moved token none h))

-- ---- a whole name in a slice

-- the bytes of a slice where it stands in the text
pub part_there : (before own future : List ℕ) (base from to : ℕ) → base ≡ length before → from ≤ to → to ≤ length own → slice_range own from to ≡ slice_range ((before ++ own) ++ future) (base + from) (base + to)
part_there before own future base from to is order within =
    let count : base + to - (base + from) ≡ to - from = omega (arith, order) in
    let rest : length (drop from own) ≡ length own - from = length-drop from own in
    sym (
    ap (λ (n : ℕ). take n (drop (base + from) ((before ++ own) ++ future))) count
    ∙ ap (λ (xs : List ℕ). take (to - from) (drop (base + from) xs)) (append_assoc before own future)
    ∙ ap (take (to - from)) (sym (drop-drop from base (before ++ (own ++ future))))
    ∙ ap (λ (n : ℕ). take (to - from) (drop from (drop n (before ++ (own ++ future))))) is
    ∙ ap (λ (xs : List ℕ). take (to - from) (drop from xs)) (drop-append_seam before (own ++ future))
    ∙ ap (take (to - from)) (drop-append-le from own future (omega (arith, order, within)))
    ∙ take-append-le (to - from) (drop from own) future (omega (arith, rest, order, within)))

-- ---- the first byte and the last

pub held_first : (names : OpenNames) → ((text : List ℕ) → Stands text nothing_built (kept names)) → (name : List ℕ) → IsHeld [] [] [] names None name
held_first names stands name = record {
  building = nothing_built;
  comes = λ last more others. refl;
  stands = λ future. stands future;
  token = none_begun;
  name_is = λ m e q. absurd cc;
}

module _ (bytes : List ℕ) (marks : List Mark) (ends : List ℕ) (names : OpenNames) (name : List ℕ) where
  pub stands_all : IsHeld bytes marks ends names None name → Stands bytes (built_of (length bytes) marks ends) (kept names)
  stands_all h =
      subst (λ (b : Building). Stands bytes b (kept names)) (sym (comes_all marks ends h.building (length bytes) h.comes))
      (subst (λ (t : List ℕ). Stands t h.building (kept names)) (append-nil bytes) (h.stands []))

  pub stands_last : (m : Mark) (after : OpenNames) → Tells m.kind m.at name (kept names) (kept after) → IsHeld bytes marks ends names (Some m) name → Stands bytes (built_of (length bytes) marks ends) (kept after)
  stands_last m after tells h =
      subst (λ (b : Building). Stands bytes b (kept after)) (sym (comes_last marks ends h.building m (length bytes) h.comes))
      (tells bytes h.building (length bytes) (λ e. rest bytes m.at ∙ sym (h.name_is m refl e)) (subst (λ (t : List ℕ). Stands t h.building (kept names)) (append-nil bytes) (h.stands [])))
