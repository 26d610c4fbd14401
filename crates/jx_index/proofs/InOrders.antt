-- What is built of the marks and ends that a sink was told.
use Rattle.std.proofs.Common.{◌≡◌, ℕ, ◌<◌, ◌-◌, ◌^◌, List, [], ◌∷◌, ◌++◌, drop, refl, sym, ap, subst, ◌∙◌, cond, Bool, true, false, Option, None, Some, append_assoc, append-nil}
use Rattle.std.specs.Prelude.{is_some}
use Rattle.std.proofs.lemmas.List.Elements.{All-nil, All-cons, All-head, All-tail}
use Rattle.jx_lex.specs.declared.alphabet.mark.Mark.{Mark}
use Rattle.jx_lex.specs.declared.alphabet.mark.MarkKind.{MarkKind}
use Rattle.jx_lex.specs.declared.alphabet.mark.MarkKind.TheVariants as mark
use Rattle.jx_index.specs.inside.Building.{Building, nothing_built, is_token, next_end, ends_after, on_mark, make, built_of}
use Rattle.jx_index.specs.inside.Built.{Fits}
use Rattle.jx_index.specs.inside.Low.{AllLow}
use Rattle.jx_index.specs.inside.InOrder.{Comes, HasSeen, IsToken, SeenAs}
use Rattle.jx_index.proofs.Fitting.{mark_fits}

abbrev pub IsLow : Mark → Type 0
IsLow m = m.at < 2 ^ 64 - 1

front_low : (xs ys : List Mark) → AllLow (xs ++ ys) → AllLow xs
front_low [] ys h = All-nil IsLow
front_low (x ∷ xs) ys h = All-cons IsLow x xs (All-head IsLow x (xs ++ ys) h) (front_low xs ys (All-tail IsLow x (xs ++ ys) h))

last_low : (xs : List Mark) (m : Mark) → AllLow (xs ++ m ∷ []) → IsLow m
last_low [] m h = All-head IsLow m [] h
last_low (x ∷ xs) m h = last_low xs m (All-tail IsLow x (xs ++ m ∷ []) h)

-- ---- one mark more

pub make_one : (last : ℕ) (m : Mark) (more : List Mark) (ends : List ℕ) (b : Building)
    → make last (m ∷ more) ends b ≡ make last more (ends_after m.kind ends) (on_mark m.kind m.at (next_end last ends) b)
unfolding make
make_one last m more ends b = refl

make_none : (last : ℕ) (ends : List ℕ) (b : Building) → make last [] ends b ≡ b
unfolding make
make_none last ends b = refl

pub ends_kept : (k : MarkKind) (t : Bool) (ends : List ℕ) → is_token k ≡ t → ends_after k ends ≡ cond t (drop 1 ends) ends
ends_kept k t ends h = ap (λ (c : Bool). cond c (drop 1 ends) ends) h

-- only a token's end matters
pub same_end : (k : MarkKind) (at end other : ℕ) (b : Building) → (is_token k ≡ true → end ≡ other) → on_mark k at end b ≡ on_mark k at other b
same_end mark.OpenArray at end other b h = refl
same_end mark.OpenObject at end other b h = refl
same_end mark.CloseArray at end other b h = refl
same_end mark.CloseObject at end other b h = refl
same_end mark.Colon at end other b h = refl
same_end mark.Comma at end other b h = refl
same_end mark.String at end other b h = ap (λ (e : ℕ). on_mark mark.String at e b) (h refl)
same_end mark.Number at end other b h = ap (λ (e : ℕ). on_mark mark.Number at e b) (h refl)
same_end mark.True at end other b h = ap (λ (e : ℕ). on_mark mark.True at e b) (h refl)
same_end mark.False at end other b h = ap (λ (e : ℕ). on_mark mark.False at e b) (h refl)
same_end mark.Null at end other b h = ap (λ (e : ℕ). on_mark mark.Null at e b) (h refl)

-- ---- what marks and ends come to

module _ (marks : List Mark) (ends : List ℕ) (b : Building) where
  pub comes_token : (m : Mark) → Comes marks ends b None → Comes (marks ++ m ∷ []) ends b (Some m)
  comes_token m h = λ last more others. ap (λ (xs : List Mark). make last xs (ends ++ others) nothing_built) (append_assoc marks (m ∷ []) more) ∙ h last (m ∷ more) others

  pub comes_plain : (m : Mark) → is_token m.kind ≡ false → Comes marks ends b None → Comes (marks ++ m ∷ []) ends (on_mark m.kind m.at 0 b) None
  comes_plain m plain h = λ last more others.
      comes_token m h last more others
      ∙ make_one last m more others b
      ∙ ap (λ (es : List ℕ). make last more es (on_mark m.kind m.at (next_end last others) b)) (ends_kept m.kind false others plain)
      ∙ ap (make last more others) (same_end m.kind m.at (next_end last others) 0 b (λ token. absurd cc))

  pub comes_end : (m : Mark) (at : ℕ) → is_token m.kind ≡ true → Comes marks ends b (Some m) → Comes marks (ends ++ at ∷ []) (on_mark m.kind m.at at b) None
  comes_end m at token h = λ last more others.
      ap (λ (es : List ℕ). make last (marks ++ more) es nothing_built) (append_assoc ends (at ∷ []) others)
      ∙ h last more (at ∷ others)
      ∙ make_one last m more (at ∷ others) b
      ∙ ap (λ (es : List ℕ). make last more es (on_mark m.kind m.at at b)) (ends_kept m.kind true (at ∷ others) token)

  -- the whole text
  pub comes_all : (last : ℕ) → Comes marks ends b None → built_of last marks ends ≡ b
  comes_all last h =
      ap (λ (xs : List Mark). make last xs ends nothing_built) (sym (append-nil marks))
      ∙ ap (λ (es : List ℕ). make last (marks ++ []) es nothing_built) (sym (append-nil ends))
      ∙ h last [] []
      ∙ make_none last [] b

  pub comes_last : (m : Mark) (last : ℕ) → Comes marks ends b (Some m) → built_of last marks ends ≡ on_mark m.kind m.at last b
  comes_last m last h =
      ap (λ (xs : List Mark). make last xs ends nothing_built) (sym (append-nil marks))
      ∙ ap (λ (es : List ℕ). make last (marks ++ []) es nothing_built) (sym (append-nil ends))
      ∙ h last [] []
      ∙ make_one last m [] [] b
      ∙ make_none last (ends_after m.kind []) (on_mark m.kind m.at last b)

-- ---- a token that has begun

pub none_of : {A : Type 0} (o : Option A) → is_some o ≡ false → o ≡ None
none_of None h = refl
none_of (Some x) h = absurd cc

pub none_begun : IsToken None
none_begun m e = absurd cc

pub one_begun : (m : Mark) → is_token m.kind ≡ true → IsToken (Some m)
one_begun m token x e = let same : m ≡ x = cc in subst (λ (y : Mark). is_token y.kind ≡ true) same token

-- ---- what a sink has seen

pub nothing_seen : (Holds : Building → Type 0) → Holds nothing_built → HasSeen Holds [] [] None
nothing_seen Holds holds = λ low. record {
  building = nothing_built;
  fits = tt;
  low = λ m e. absurd cc;
  token = none_begun;
  comes = λ last more others. refl;
  holds = holds;
}

module _ (Holds : Building → Type 0) (marks : List Mark) (ends : List ℕ) (begun : Option Mark) (seen : HasSeen Holds marks ends begun) where
  pub begins : (m : Mark) → is_token m.kind ≡ true → begun ≡ None → HasSeen Holds (marks ++ m ∷ []) ends (Some m)
  begins m token free = λ low.
      let s = subst (SeenAs Holds marks ends) free (seen (front_low marks (m ∷ []) low)) in
      record {
        building = s.building;
        fits = s.fits;
        low = λ x e. let same : m ≡ x = cc in subst IsLow same (last_low marks m low);
        token = one_begun m token;
        comes = comes_token marks ends s.building m s.comes;
        holds = s.holds;
      }

  module _ (After : Building → Type 0) where
    pub takes : (m : Mark) → is_token m.kind ≡ false → begun ≡ None → ((b : Building) → Fits b → IsLow m → Holds b → After (on_mark m.kind m.at 0 b)) → HasSeen After (marks ++ m ∷ []) ends begun
    takes m plain free taken = λ low.
        let s = subst (SeenAs Holds marks ends) free (seen (front_low marks (m ∷ []) low)) in
        subst (SeenAs After (marks ++ m ∷ []) ends) (sym free)
        (record {
          building = on_mark m.kind m.at 0 s.building;
          fits = mark_fits m.kind m.at 0 s.building s.fits;
          low = λ x e. absurd cc;
          token = none_begun;
          comes = comes_plain marks ends s.building m plain s.comes;
          holds = taken s.building s.fits (last_low marks m low) s.holds;
        })

    pub ends_token : (m : Mark) (at : ℕ) → begun ≡ Some m → ((b : Building) → Fits b → IsLow m → Holds b → After (on_mark m.kind m.at at b)) → HasSeen After marks (ends ++ at ∷ []) None
    ends_token m at is taken = λ low.
        let s = seen low in
        record {
          building = on_mark m.kind m.at at s.building;
          fits = mark_fits m.kind m.at at s.building s.fits;
          low = λ x e. absurd cc;
          token = none_begun;
          comes = comes_end marks ends s.building m at (s.token m is) (subst (Comes marks ends s.building) is s.comes);
          holds = taken s.building s.fits (s.low m is) s.holds;
        }

    -- the whole text
    pub last_made : (m : Mark) (last : ℕ) → begun ≡ Some m → ((b : Building) → Fits b → IsLow m → Holds b → After (on_mark m.kind m.at last b)) → AllLow marks → After (built_of last marks ends)
    last_made m last is taken low =
        let s = seen low in
        subst After (sym (comes_last marks ends s.building m last (subst (Comes marks ends s.building) is s.comes))) (taken s.building s.fits (s.low m is) s.holds)

  pub all_made : (last : ℕ) → begun ≡ None → AllLow marks → Holds (built_of last marks ends)
  all_made last free low =
      let s = seen low in
      subst Holds (sym (comes_all marks ends s.building last (subst (Comes marks ends s.building) free s.comes))) s.holds

-- ---- one mark after another

-- so far these nodes are built, and some marks and ends are left
pub record Halfway (last : ℕ) (marks all : List Mark) (ends all_ends : List ℕ) (b : Building) : Type 0 where
  pub fits : Fits b
  pub low : AllLow marks
  pub same : make last marks ends b ≡ built_of last all all_ends

pub one_further : (last : ℕ) (marks more all : List Mark) (ends left all_ends : List ℕ) (b next : Building) (m : Mark) (end : ℕ) → marks ≡ m ∷ more → left ≡ ends_after m.kind ends
    → (is_token m.kind ≡ true → end ≡ next_end last ends) → (Fits b → IsLow m → next ≡ on_mark m.kind m.at end b)
    → Halfway last marks all ends all_ends b → Halfway last more all left all_ends next
one_further last marks more all ends left all_ends b next m end e rest ended made h =
    let low : AllLow (m ∷ more) = subst AllLow e h.low in
    let n = made h.fits (All-head IsLow m more low) in
    record {
      fits = subst Fits (sym n) (mark_fits m.kind m.at end b h.fits);
      low = All-tail IsLow m more low;
      same =
          ap (λ (x : List ℕ). make last more x next) rest
          ∙ ap (make last more (ends_after m.kind ends)) (n ∙ same_end m.kind m.at end (next_end last ends) b ended)
          ∙ sym (make_one last m more ends b)
          ∙ ap (λ (x : List Mark). make last x ends b) (sym e)
          ∙ h.same;
    }

pub all_further : (last : ℕ) (marks all : List Mark) (ends all_ends : List ℕ) (b : Building) → marks ≡ [] → Halfway last marks all ends all_ends b → b ≡ built_of last all all_ends
unfolding make
all_further last marks all ends all_ends b e h = sym (ap (λ (x : List Mark). make last x ends b) e) ∙ h.same
