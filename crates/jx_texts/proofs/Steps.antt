-- A reader of texts takes bytes.
use Rattle.std.proofs.Common.{◌≡◌, ℕ, List, [], ◌∷◌, ◌++◌, Bool, true, false, cond, append_assoc, append-nil, refl, sym, ap, subst, ◌∙◌, inl, inr, ◌⊎◌}
use Rattle.std.specs.Prelude.{◌&&◌, ◌||◌, not}
use Rattle.std.proofs.lemmas.List.Folds.{list_all-append}
use Rattle.jx_lex.specs.Uneventful.{is_blank}
use Rattle.jx_run.specs.declared.texts.verdict.Verdict.TheVariants.{Accepted}
use Rattle.jx_run.specs.Text.{IsDocument}
use Rattle.jx_run.specs.Tree.{Tree}
use Rattle.jx_run.proofs.LawProofs.{Verdicts}
use Rattle.jx_texts.specs.declared.text_reader.Stage.{Stage}
use Rattle.jx_texts.specs.declared.text_reader.Stage.TheVariants.{Between, Closed, Bare, Lost}
use Rattle.jx_texts.specs.Texts.{HasEnded, IsBare, has_border, is_border, is_fault, opens, shows_end}
use Rattle.jx_texts.specs.Reading.{EndsNowhere, GoesOn, closing, have_no_border, verdict_now}
use Rattle.jx_texts.specs.inside.Steps.{IsFed, IsUpTo, absent, present}
use Rattle.jx_texts.proofs.Ends.{bare_end, closed_end}
use Rattle.jx_texts.proofs.Faults.{fault_stays, no_fault_of, text_is_accepted}
use Rattle.jx_texts.proofs.Lists.{IsLonger, IsShorter, and_left, and_right, clash, either, ends_there, lacks_no, last_part}

-- ---- what ends in the bytes of a text

pub no_end : {A : Type 0} (behind : List ℕ) → shows_end [] behind ≡ true → A
no_end behind h = absurd (cc)

-- a number or a literal before a border
no_border_behind : (text behind : List ℕ) (b : ℕ) (rest : List ℕ) → opens b ≡ false → have_no_border (b ∷ rest) ≡ true → b ∷ rest ≡ text ++ behind → shows_end text behind ≡ true → ⊥
no_border_behind [] behind b rest o n e h = no_end behind h
no_border_behind (a ∷ text) behind b rest o n e h =
    let head : b ≡ a = cc in
    let shut : opens a ≡ false = subst (λ (z : ℕ). opens z ≡ false) head o in
    let all : have_no_border ((a ∷ text) ++ behind) ≡ true = subst (λ (xs : List ℕ). have_no_border xs ≡ true) e n in
    let both : (have_no_border (a ∷ text) && have_no_border behind) ≡ true = sym (list_all-append (λ (z : ℕ). not (is_border z)) (a ∷ text) behind) ∙ all in
    first behind (by_border (opens a) shut h) (and_right (have_no_border (a ∷ text)) (have_no_border behind) both)
  where
    by_border : (x : Bool) → x ≡ false → cond x true (has_border behind) ≡ true → has_border behind ≡ true
    by_border true p q = absurd (cc)
    by_border false p q = q

    first : (xs : List ℕ) → has_border xs ≡ true → have_no_border xs ≡ true → ⊥
    first [] p q = absurd (cc)
    first (c ∷ xs) p q = clash (and_left (not (is_border c)) (have_no_border xs) q) (ap not p)

shows_alike : (text : List ℕ) (c : ℕ) (x y : List ℕ) → shows_end text (c ∷ x) ≡ true → shows_end text (c ∷ y) ≡ true
shows_alike [] c x y h = h
shows_alike (b ∷ text) c x y h = h

pub shows_by_itself : (b : ℕ) (text behind : List ℕ) → opens b ≡ true → shows_end (b ∷ text) behind ≡ true
shows_by_itself b text behind o = ap (λ (x : Bool). cond x true (has_border behind)) o

module _ (law : Verdicts) (limit from : ℕ) where
  pub bare_has_none : (b : ℕ) (rest text behind : List ℕ) → opens b ≡ false → have_no_border (b ∷ rest) ≡ true → HasEnded limit from (b ∷ rest) text behind → ⊥
  bare_has_none b rest text behind o n h = no_border_behind text behind b rest o n h.whole h.shows

  -- what was read has no text that ends before its end
  none_before : (b : ℕ) (rest : List ℕ) (may_end : Bool) (stage : Stage) → IsFed limit from b rest may_end stage → (text : List ℕ) (c : ℕ) (z : List ℕ) → HasEnded limit from (b ∷ rest) text (c ∷ z) → ⊥
  none_before b rest may_end Between f text c z h = f
  none_before b rest may_end (Closed byte) f text c z h = let e : c ∷ z ≡ [] = (f.2 text (c ∷ z) h).0 in absurd (cc)
  none_before b rest may_end Bare f text c z h = bare_has_none b rest text (c ∷ z) f.1 f.2 h
  none_before b rest may_end Lost f text c z h = f

  -- bytes with a fault are no text
  no_longer : (bytes more text : List ℕ) (tree : Tree) → is_fault (verdict_now limit from bytes) ≡ true → text ≡ bytes ++ more → IsDocument from text limit tree → ⊥
  no_longer bytes more text tree fault e d =
      no_fault_of (verdict_now limit from bytes)
      (sym (fault_stays limit from bytes more fault) ∙ text_is_accepted law limit from (bytes ++ more) tree (subst (λ (xs : List ℕ). IsDocument from xs limit tree) e d))
      fault

  shorter : (bytes more text behind : List ℕ) (h : HasEnded limit from (bytes ++ more) text behind) (s : IsShorter text bytes behind more) → HasEnded limit from bytes text (s.next ∷ s.more)
  shorter bytes more text behind h s =
      record {
        whole = s.first;
        bare = h.bare;
        tree = h.tree;
        is_text = h.is_text;
        shows = shows_alike text s.next (s.more ++ more) s.more (subst (λ (xs : List ℕ). shows_end text xs ≡ true) s.rest h.shows);
      }

  pub nowhere : (b : ℕ) (rest : List ℕ) (may_end : Bool) (stage : Stage) → IsFed limit from b rest may_end stage → is_fault (verdict_now limit from (b ∷ rest)) ≡ true → EndsNowhere limit from (b ∷ rest)
  nowhere b rest may_end stage f fault more text behind h = pick (either text (b ∷ rest) behind more (sym h.whole))
    where
      pick : IsLonger text (b ∷ rest) behind more ⊎ IsShorter text (b ∷ rest) behind more → ⊥
      pick (inl l) = no_longer (b ∷ rest) l.more text h.tree fault l.first h.is_text
      pick (inr s) = none_before b rest may_end stage f text s.next s.more (shorter (b ∷ rest) more text behind h s)

  -- a number or a literal that is none ends nowhere
  pub nowhere_behind : (b : ℕ) (rest : List ℕ) (c : ℕ) → opens b ≡ false → have_no_border (b ∷ rest) ≡ true → is_border c ≡ true → (verdict_now limit from (b ∷ rest) ≡ Accepted → ⊥) → EndsNowhere limit from ((b ∷ rest) ++ c ∷ [])
  nowhere_behind b rest c o n border away more text behind h =
      pick (either text (b ∷ rest) behind (c ∷ more) (sym h.whole ∙ append_assoc (b ∷ rest) (c ∷ []) more))
    where
      longer : (z : List ℕ) → text ≡ (b ∷ rest) ++ z → c ∷ more ≡ z ++ behind → ⊥
      longer [] e f = away (text_is_accepted law limit from (b ∷ rest) h.tree (subst (λ (xs : List ℕ). IsDocument from xs limit h.tree) (e ∙ append-nil (b ∷ rest)) h.is_text))
      longer (d ∷ z) e f =
          let same : c ≡ d = cc in
          let bare : IsBare (b ∷ (rest ++ (d ∷ z))) = subst IsBare e h.bare in
          let doc : IsDocument from (b ∷ (rest ++ (d ∷ z))) limit h.tree = subst (λ (xs : List ℕ). IsDocument from xs limit h.tree) e h.is_text in
          let none : have_no_border ((b ∷ rest) ++ (d ∷ z)) ≡ true = bare_end from limit b (rest ++ (d ∷ z)) h.tree o bare doc in
          let both : (have_no_border (b ∷ rest) && have_no_border (d ∷ z)) ≡ true = sym (list_all-append (λ (x : ℕ). not (is_border x)) (b ∷ rest) (d ∷ z)) ∙ none in
          let last : not (is_border d) ≡ true = and_left (not (is_border d)) (have_no_border z) (and_right (have_no_border (b ∷ rest)) (have_no_border (d ∷ z)) both) in
          clash last (ap not (subst (λ (x : ℕ). is_border x ≡ true) same border))

      pick : IsLonger text (b ∷ rest) behind (c ∷ more) ⊎ IsShorter text (b ∷ rest) behind (c ∷ more) → ⊥
      pick (inl l) = longer l.more l.first l.rest
      pick (inr s) =
          bare_has_none b rest text (s.next ∷ s.more) o n
          (shorter (b ∷ rest) (c ∷ more) text behind (subst (λ (xs : List ℕ). HasEnded limit from xs text behind) (append_assoc (b ∷ rest) (c ∷ []) more) h) s)

  -- what goes on, and its closing byte or not, is judged
  pub goes_on : (b : ℕ) (rest : List ℕ) (may_end : Bool) (stage : Stage) → IsFed limit from b rest may_end stage → (may_end ≡ true → verdict_now limit from (b ∷ rest) ≡ Accepted → ⊥) → GoesOn limit from b rest stage
  goes_on b rest may_end Between f away = f
  goes_on b rest may_end (Closed byte) f away = (
    f.0,
    f.1,
    λ text behind h.
        let e = f.2 text behind h in
        let same : text ≡ b ∷ rest = sym (h.whole ∙ ap (λ (xs : List ℕ). text ++ xs) e.0 ∙ append-nil text) in
        away e.1 (text_is_accepted law limit from (b ∷ rest) h.tree (subst (λ (xs : List ℕ). IsDocument from xs limit h.tree) same h.is_text)),
  )
  goes_on b rest may_end Bare f away = (f.1, f.2)
  goes_on b rest may_end Lost f away = f

  -- ---- bytes are read on

  at_closing : (byte : ℕ) (p w behind : List ℕ) (may_end : Bool) → IsUpTo byte p may_end → p ≡ (w ++ byte ∷ []) ++ behind → (behind ≡ []) × (may_end ≡ true)
  at_closing byte p w behind _ (absent h) e = absurd (lacks_no byte p w behind h (e ∙ append_assoc w (byte ∷ []) behind))
  at_closing byte p w behind _ (present q is h) e = (ends_there byte q w behind h (sym is ∙ e), refl)

  pub fed_closed : (b byte : ℕ) (rest p : List ℕ) (may_end : Bool) → GoesOn limit from b rest (Closed byte) → IsUpTo byte p may_end → IsFed limit from b (rest ++ p) may_end (Closed byte)
  fed_closed b byte rest p may_end g up = (g.0, g.1, ends, last may_end up)
    where
      ends : (text behind : List ℕ) → HasEnded limit from (b ∷ (rest ++ p)) text behind → (behind ≡ []) × (may_end ≡ true)
      ends text behind h = pick (either text (b ∷ rest) behind p (sym h.whole))
        where
          longer : (z : List ℕ) → text ≡ (b ∷ rest) ++ z → p ≡ z ++ behind → (behind ≡ []) × (may_end ≡ true)
          longer [] e f =
              let same : text ≡ b ∷ rest = e ∙ append-nil (b ∷ rest) in
              absurd (g.2 (b ∷ rest) []
              (record {
                whole = sym (append-nil (b ∷ rest));
                bare = subst IsBare same h.bare;
                tree = h.tree;
                is_text = subst (λ (xs : List ℕ). IsDocument from xs limit h.tree) same h.is_text;
                shows = shows_by_itself b rest [] g.0;
              }))
          longer (k ∷ z) e f =
              let bare : IsBare (b ∷ (rest ++ (k ∷ z))) = subst IsBare e h.bare in
              let doc : IsDocument from (b ∷ (rest ++ (k ∷ z))) limit h.tree = subst (λ (xs : List ℕ). IsDocument from xs limit h.tree) e h.is_text in
              let c = closed_end from limit b (rest ++ (k ∷ z)) h.tree g.0 bare doc in
              let w = last_part rest k z c.0 (closing b) c.1 in
              let there : p ≡ (w.0 ++ byte ∷ []) ++ behind = f ∙ ap (λ (xs : List ℕ). xs ++ behind) w.1 ∙ ap (λ (x : ℕ). (w.0 ++ x ∷ []) ++ behind) (sym g.1) in
              at_closing byte p w.0 behind may_end up there

          pick : IsLonger text (b ∷ rest) behind p ⊎ IsShorter text (b ∷ rest) behind p → (behind ≡ []) × (may_end ≡ true)
          pick (inl l) = longer l.more l.first l.rest
          pick (inr s) = absurd (g.2 text (s.next ∷ s.more) (shorter (b ∷ rest) p text behind h s))

      last : (m : Bool) → IsUpTo byte p m → m ≡ true → (w : List ℕ) × (rest ++ p ≡ w ++ closing b ∷ [])
      last _ (absent h) m = absurd (cc)
      last _ (present q is h) m =
          (rest ++ q, ap (λ (xs : List ℕ). rest ++ xs) is ∙ sym (append_assoc rest q (byte ∷ [])) ∙ ap (λ (x : ℕ). (rest ++ q) ++ x ∷ []) g.1)

  pub fed_bare : (b : ℕ) (rest p : List ℕ) → GoesOn limit from b rest Bare → have_no_border p ≡ true → IsFed limit from b (rest ++ p) false Bare
  fed_bare b rest p g none = (
    refl,
    g.0,
    list_all-append (λ (x : ℕ). not (is_border x)) (b ∷ rest) p ∙ ap (λ (x : Bool). x && have_no_border p) g.1 ∙ none,
  )

  -- the first byte of a text
  pub fed_one : (b : ℕ) → is_blank b ≡ false → (o : Bool) → opens b ≡ o → IsFed limit from b [] false (cond o (Closed (closing b)) Bare)
  fed_one b blank true o = (o, refl, ends, λ away. absurd (cc))
    where
      ends : (text behind : List ℕ) → HasEnded limit from (b ∷ []) text behind → (behind ≡ []) × (false ≡ true)
      ends [] behind h = no_end behind h.shows
      ends (a ∷ text) behind h = two (h.whole) h.bare h.is_text
        where
          two : b ∷ [] ≡ (a ∷ text) ++ behind → IsBare (a ∷ text) → IsDocument from (a ∷ text) limit h.tree → (behind ≡ []) × (false ≡ true)
          two e bare doc =
              let same : b ≡ a = cc in
              let tail : [] ≡ text ++ behind = cc in
              let c = closed_end from limit a text h.tree (subst (λ (x : ℕ). opens x ≡ true) same o) bare doc in
              absurd (none text c.0 tail c.1)
            where
              none : (t v : List ℕ) → [] ≡ t ++ behind → t ≡ v ++ closing a ∷ [] → ⊥
              none [] [] e f = absurd (cc)
              none [] (x ∷ v) e f = absurd (cc)
              none (x ∷ t) v e f = absurd (cc)
  fed_one b blank false o = (refl, o, ap (λ (x : Bool). not (x || opens b) && true) blank ∙ ap (λ (x : Bool). not x && true) o)
