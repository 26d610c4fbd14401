-- Parts that are made from left to right are those of the children, and have each of them.
use Rattle.std.proofs.Common.{◌≡◌, ℕ, suc, ◌+◌, ◌<◌, List, [], ◌∷◌, length, refl, sym, ap, subst, ◌∙◌, arith, Bool, true, false}
use Rattle.std.specs.Prelude.{◌==◌, if◌then◌else◌}
use Rattle.std.proofs.lemmas.Bool.Decides.{nat_tests}
use Rattle.jx_summary.specs.declared.span.Span.{Span}
use Rattle.jx_run.specs.Tree.{span}
use Rattle.jx_file_query.specs.declared.part.ContainerPart.{ContainerPart}
use Rattle.jx_file_query.specs.Parts.{Place, alone, part_of, parted, put}
use Rattle.jx_file_query.specs.PartLaws.{Follow, none, more}

-- children that follow one another, from behind a comma or a bracket up to another
pub data Chained : ℕ → ℕ → List Place → Type 0 where
  no_place : {at : ℕ} → Chained at at []
  one_place : {at last : ℕ} {c : Place} {cs : List Place} → c.before ≡ at → Chained c.behind last cs → Chained at last (c ∷ cs)

-- ---- they follow one another

put_if : (number first : ℕ) (c : Place) (at : ℕ) → c.before ≡ at → (b : Bool) (p : ContainerPart) (ps : List ContainerPart) (x y last count : ℕ) → Follow x y last count (p ∷ ps) → x ≡ c.behind → y ≡ suc first
    → Follow at first last count (if b then record p { span = span (suc c.before) p.span.end; first = first } ∷ ps else alone number first c ∷ (p ∷ ps))
put_if number first c at begins true p ps x y last count (more start is low rest) e f = more (ap suc begins) refl (omega (arith, low, f)) rest
put_if number first c at begins false p ps x y last count h e f =
    more (ap suc begins) refl (omega arith) (subst (λ (k : ℕ). Follow k (suc first) last count (p ∷ ps)) e (subst (λ (k : ℕ). Follow x k last count (p ∷ ps)) f h))

put_follows : (number first : ℕ) (c : Place) (at : ℕ) → c.before ≡ at → (ps : List ContainerPart) (x y last count : ℕ) → Follow x y last count ps → x ≡ c.behind → y ≡ suc first → Follow at first last count (put number first c ps)
put_follows number first c at begins [] x y last count none e f =
    more (ap suc begins) refl (omega arith) (subst (λ (k : ℕ). Follow k (suc first) last count []) e (subst (λ (k : ℕ). Follow x k last count []) f none))
put_follows number first c at begins (p ∷ ps) x y last count h e f = put_if number first c at begins (p.number == number) p ps x y last count h e f

pub follows : (parts : ℕ) (whole : Span) (first at last : ℕ) (cs : List Place) → Chained at last cs → Follow at first last (first + length cs) (parted parts whole first cs)
follows parts whole first at last [] no_place = subst (λ (n : ℕ). Follow at first at n []) (let e : first ≡ first + 0 = omega arith in e) none
follows parts whole first at last (c ∷ cs) (one_place begins rest) =
    put_follows (part_of parts whole c.before) first c at begins (parted parts whole (suc first) cs) c.behind (suc first) last (first + suc (length cs))
    (subst (λ (n : ℕ). Follow c.behind (suc first) last n (parted parts whole (suc first) cs)) (let e : suc first + length cs ≡ first + suc (length cs) = omega arith in e)
    (follows parts whole (suc first) c.behind last cs rest)) refl refl

-- ---- from left to right

abbrev part : ℕ → ℕ → ℕ → ℕ → ℕ → ContainerPart
part n s at f end = record { number = n; span = span (suc s) at; first = f; end = end }

module _ (parts : ℕ) (whole : Span) where
  abbrev of : Place → ℕ
  of c = part_of parts whole c.before

  -- of an open part, so many children that ended, and the one that stands in it and those behind it
  abbrev pub rest_of : ℕ → ℕ → ℕ → ℕ → Place → List Place → List ContainerPart
  rest_of n s f m c [] = part n s c.behind f (suc m) ∷ []
  rest_of n s f m c (d ∷ ds) = if of d == n then rest_of n s f (suc m) d ds else part n s d.before f (suc m) ∷ rest_of (of d) d.before (suc m) (suc m) d ds

  record Head (n s f : ℕ) (ps : List ContainerPart) : Type 0 where
    end : ℕ
    at : ℕ
    others : List ContainerPart
    is : ps ≡ part n s at f end ∷ others

  put_head_if : (n first : ℕ) (c : Place) (p : ContainerPart) (ps : List ContainerPart) (b : Bool) → (p.number == n) ≡ b
      → Head n c.before first (if b then record p { span = span (suc c.before) p.span.end; first = first } ∷ ps else alone n first c ∷ (p ∷ ps))
  put_head_if n first c p ps true e =
      let same : p.number ≡ n = grind (arith, nat_tests) in
      record { end = p.end; at = p.span.end; others = ps; is = ap (λ (k : ℕ). part k c.before p.span.end first p.end ∷ ps) same }
  put_head_if n first c p ps false e = record { end = suc first; at = c.behind; others = p ∷ ps; is = refl }

  put_head : (n first : ℕ) (c : Place) (ps : List ContainerPart) → Head n c.before first (put n first c ps)
  put_head n first c [] = record { end = suc first; at = c.behind; others = []; is = refl }
  put_head n first c (p ∷ ps) = put_head_if n first c p ps (p.number == n) refl

  -- the first part begins earlier
  abbrev longer : ℕ → ℕ → List ContainerPart → List ContainerPart
  longer s f [] = []
  longer s f (p ∷ ps) = record p { span = span (suc s) p.span.end; first = f } ∷ ps

  abbrev all : ℕ → List Place → List ContainerPart
  all first cs = parted parts whole first cs

  chosen : (b : Bool) (n m s f : ℕ) (c d : Place) (ds : List Place) → (of d == n) ≡ b → c.behind ≡ d.before
      → (b ≡ true → rest_of n s f (suc m) d ds ≡ longer s f (all (suc m) (d ∷ ds))) → rest_of (of d) d.before (suc m) (suc m) d ds ≡ longer d.before (suc m) (all (suc m) (d ∷ ds))
      → (if b then rest_of n s f (suc m) d ds else part n s d.before f (suc m) ∷ rest_of (of d) d.before (suc m) (suc m) d ds) ≡ longer s f (put n m c (all (suc m) (d ∷ ds)))
  chosen true n m s f c d ds e meets same_part other_part =
      let h = put_head (of d) (suc m) d (all (suc (suc m)) ds) in
      same_part refl ∙ ap (longer s f) h.is
      ∙ sym (ap (λ (ps : List ContainerPart). longer s f (put n m c ps)) h.is ∙ ap (λ (x : Bool). longer s f (if x then part (of d) c.before h.at m h.end ∷ h.others else alone n m c ∷ (part (of d) d.before h.at (suc m) h.end ∷ h.others))) e)
  chosen false n m s f c d ds e meets same_part other_part =
      let h = put_head (of d) (suc m) d (all (suc (suc m)) ds) in
      ap (λ (ps : List ContainerPart). part n s d.before f (suc m) ∷ ps) (other_part ∙ ap (longer d.before (suc m)) h.is)
      ∙ ap (λ (k : ℕ). part n s k f (suc m) ∷ (part (of d) d.before h.at (suc m) h.end ∷ h.others)) (sym meets)
      ∙ sym (ap (λ (ps : List ContainerPart). longer s f (put n m c ps)) h.is ∙ ap (λ (x : Bool). longer s f (if x then part (of d) c.before h.at m h.end ∷ h.others else alone n m c ∷ (part (of d) d.before h.at (suc m) h.end ∷ h.others))) e)

  rest_is : (n s f m : ℕ) (c : Place) (cs : List Place) (last : ℕ) → Chained c.before last (c ∷ cs) → of c ≡ n → rest_of n s f m c cs ≡ longer s f (put n m c (all (suc m) cs))
  rest_is n s f m c [] last h e = refl
  rest_is n s f m c (d ∷ ds) last (one_place begins (one_place meets rest)) e =
      let chain : Chained d.before last (d ∷ ds) = one_place refl rest in
      chosen (of d == n) n m s f c d ds refl (sym meets)
      (λ t. let same : of d ≡ n = grind (arith, nat_tests) in
      rest_is n s f (suc m) d ds last chain same ∙ ap (λ (k : ℕ). longer s f (put k (suc m) d (all (suc (suc m)) ds))) (sym same))
      (rest_is (of d) d.before (suc m) (suc m) d ds last chain refl)

  -- where the open part begins with the child, they are the children's
  pub rest_all : (first : ℕ) (c : Place) (cs : List Place) (last : ℕ) → Chained c.before last (c ∷ cs) → rest_of (of c) c.before first first c cs ≡ parted parts whole first (c ∷ cs)
  rest_all first c cs last h =
      let head = put_head (of c) first c (all (suc first) cs) in
      rest_is (of c) c.before first first c cs last h refl ∙ ap (longer c.before first) head.is ∙ sym head.is
