-- What is gathered of the names of a chunk, token by token.
use Rattle.std.proofs.Common.{◌≡◌, ℕ, ◌+◌, ◌<◌, ◌≤◌, List, [], ◌∷◌, ◌++◌, length, drop, map, refl, sym, ap, subst, ◌∙◌, append-nil, arith, Bool, true, false, Option, None, Some}
use Rattle.std.specs.List.{AllByRecursion}
use Rattle.std.specs.Prelude.{◌==◌, ◌&&◌, if◌then◌else◌, slice_range}
use Rattle.std.proofs.lemmas.List.{length-append, map-append}
use Rattle.std.proofs.lemmas.List.Sums.{fold-append}
use Rattle.jx_lex.specs.declared.alphabet.mark.Mark.{Mark}
use Rattle.jx_reduce.specs.KnownStack.{IsFault}
use Rattle.jx_reduce.specs.Read.{Reading, step, read}
use Rattle.jx_run.specs.Telling.{moved_ends, moved_mark, moved_marks}
use Rattle.jx_run.specs.Tree.{span}
use Rattle.jx_index.specs.Units.{units_at}
use Rattle.jx_index.specs.inside.Building.{is_token}
use Rattle.jx_string.specs.Texts.{string_units}
use Rattle.jx_file_index.specs.declared.sum.Sum.{Sum}
use Rattle.jx_file_index.specs.Sums.{noted, nothing, sum_of}
use Rattle.jx_file_build.proofs.Mirroring.{goes_back, mirrors_on, same_last}
use Rattle.jx_file_build.proofs.Tallies.{token_stays}
use Rattle.jx_file_index.specs.NameHash.{name_hash}
use Rattle.jx_file_index.specs.Names.{NamesOf, none, plain, token, ended, kept, with_string}
use Rattle.jx_file_build.specs.declared.standing.ToldChunk.{ToldChunk}
use Rattle.jx_file_build.specs.inside.ChunkNames.{GoesPast, HasGathered, HoldsName, IsGatheredOf, IsTold, Start}
use Rattle.jx_file_build.specs.inside.OpenKinds.{Kinds, Mirrors, after, is_last, kinds}

-- ---- one mark more

kept_hashes : (b : Bool) (names : List (List ℕ)) (hashes : List ℕ) → hashes ≡ map name_hash names → (if b then hashes else []) ≡ map name_hash (if b then names else [])
kept_hashes true names hashes h = h
kept_hashes false names hashes h = refl

-- ---- names

-- the hash of a name, by its bytes
pub name_at : (before chunk bytes : List ℕ) (from to : ℕ) → bytes ≡ slice_range ((before ++ chunk) ++ []) from to → name_hash (string_units bytes) ≡ name_hash (units_at (before ++ chunk) (span from to))
unfolding units_at
name_at before chunk bytes from to is = ap (λ (xs : List ℕ). name_hash (string_units xs)) (is ∙ ap (λ (xs : List ℕ). slice_range xs from to) (append-nil (before ++ chunk)))

-- ---- ends

abbrev AreWithin : ℕ → List ℕ → Type 0
AreWithin n ends = AllByRecursion (λ end. end ≤ n) ends

first_within : (n : ℕ) (xs ys : List ℕ) → AreWithin n (xs ++ ys) → AreWithin n xs
first_within n [] ys all = tt
first_within n (x ∷ xs) ys all = (all.0, first_within n xs ys all.1)

last_within : (n : ℕ) (xs : List ℕ) (x : ℕ) → AreWithin n (xs ++ x ∷ []) → x ≤ n
last_within n [] x all = all.0
last_within n (y ∷ xs) x all = last_within n xs x all.1

-- ---- tokens

module _ (start : Start) (marks : List Mark) (ends : List ℕ) (own : List ℕ) (base : ℕ) (kinds : Kinds) (sum : Sum) (begun : Option Mark) (name hashes : List ℕ)
    (h : HasGathered start marks ends own base kinds sum begun name hashes) where
  abbrev all : List Mark
  all = moved_marks base marks

  module _ (m : Mark) (at : ℕ) (next : Kinds) (grown : Sum) (there : at ≡ base + m.at) (free : begun ≡ None) (steps : next ≡ after m.kind kinds) (grows : grown ≡ noted m.kind sum) where
    abbrev n : Mark
    n = record { kind = m.kind; at = at }

    more : moved_marks base (marks ++ m ∷ []) ≡ all ++ n ∷ []
    more = map-append (moved_mark base) marks (m ∷ []) ∙ ap (λ (i : ℕ). all ++ record { kind = m.kind; at = i } ∷ []) (sym there)

    sum_on : grown ≡ sum_of (moved_marks base (marks ++ m ∷ []))
    sum_on =
        grows ∙ ap (noted m.kind) h.sum_is
        ∙ sym (fold-append (λ s mark. noted mark.kind s) nothing all (n ∷ []))
        ∙ ap sum_of (sym more)

    module _ (depth : ℕ) (reading : Reading) (x : Mirrors reading start.kinds) where
      reading_on : step depth n (read depth all reading) ≡ read depth (moved_marks base (marks ++ m ∷ [])) reading
      reading_on =
          sym (fold-append (λ reading mark. step depth mark reading) reading all (n ∷ []))
          ∙ ap (λ (xs : List Mark). read depth xs reading) (sym more)

      mirrored : Mirrors (read depth (moved_marks base (marks ++ m ∷ [])) reading) next
      mirrored =
          subst (λ (r : Reading). Mirrors r next) reading_on
          (subst (Mirrors (step depth n (read depth all reading))) (sym steps) (mirrors_on depth n (read depth all reading) kinds (h.mirrors depth reading x)))

      module _ (past : GoesPast depth reading (moved_marks base (marks ++ m ∷ [])) ends (length own)) (before : List ℕ) (long : length before ≡ start.base) (holds : HoldsName before start.kinds start.begun start.name) where
        was : IsGatheredOf before start depth reading all (moved_ends base ends) kinds begun name hashes
        was =
            h.gathered depth reading x
            (record { going = goes_back depth n (read depth all reading) (λ f. past.going (subst IsFault reading_on f)); within = past.within }) before long holds

        names_free : NamesOf (before ++ start.chunk) depth reading start.begun all (moved_ends base ends) None was.names
        names_free = subst (λ (o : Option Mark). NamesOf (before ++ start.chunk) depth reading start.begun all (moved_ends base ends) o was.names) free was.are

        token_of : is_token m.kind ≡ true → IsGatheredOf before start depth reading (moved_marks base (marks ++ m ∷ [])) (moved_ends base ends) next (Some n) name hashes
        token_of is = record {
          names = was.names;
          are = subst (λ (xs : List Mark). NamesOf (before ++ start.chunk) depth reading start.begun xs (moved_ends base ends) (Some n) was.names) (sym more) (token n is names_free);
          hashes_are = was.hashes_are;
          name_is = λ y e behind low. let same : n ≡ y = cc in let b = h.base_is in let late : at ≡ y.at = ap (λ (z : Mark). z.at) same in absurd (omega (arith, there, b, long, low, late));
        }

        plain_of : (left : List ℕ) → is_token m.kind ≡ false → left ≡ (if grown.closed == sum.closed then hashes else [])
            → IsGatheredOf before start depth reading (moved_marks base (marks ++ m ∷ [])) (moved_ends base ends) next begun name left
        plain_of left is keeps =
            let names = kept m.kind (sum_of all) was.names in
            record {
              names = names;
              are =
                  subst (λ (o : Option Mark). NamesOf (before ++ start.chunk) depth reading start.begun (moved_marks base (marks ++ m ∷ [])) (moved_ends base ends) o names) (sym free)
                  (subst (λ (xs : List Mark). NamesOf (before ++ start.chunk) depth reading start.begun xs (moved_ends base ends) None names) (sym more) (plain n is names_free));
              hashes_are =
                  keeps
                  ∙ ap (λ (s : Sum). if s.closed == sum.closed then hashes else []) grows
                  ∙ ap (λ (s : Sum). if (noted m.kind s).closed == s.closed then hashes else []) h.sum_is
                  ∙ kept_hashes ((noted m.kind (sum_of all)).closed == (sum_of all).closed) was.names hashes was.hashes_are;
              name_is = λ y e behind low. let none_is : None ≡ Some y = sym free ∙ e in absurd cc;
            }

    pub has_token : is_token m.kind ≡ true → HasGathered start (marks ++ m ∷ []) ends own base next grown (Some (record { kind = m.kind; at = at })) name hashes
    has_token is = record {
      chunk_is = h.chunk_is;
      base_is = h.base_is;
      sum_is = sum_on;
      mirrors = λ depth reading x. mirrored depth reading x;
      gathered = λ depth reading x past before long holds. token_of depth reading x past before long holds is;
    }

    pub has_plain : (left : List ℕ) → is_token m.kind ≡ false → left ≡ (if grown.closed == sum.closed then hashes else []) → HasGathered start (marks ++ m ∷ []) ends own base next grown begun name left
    has_plain left is keeps = record {
      chunk_is = h.chunk_is;
      base_is = h.base_is;
      sum_is = sum_on;
      mirrors = λ depth reading x. mirrored depth reading x;
      gathered = λ depth reading x past before long holds. plain_of depth reading x past before long holds left is keeps;
    }

  module _ (m : Mark) (at : ℕ) (is_open : begun ≡ Some m) where
    ends_more : moved_ends base (ends ++ at ∷ []) ≡ moved_ends base ends ++ (base + at) ∷ []
    ends_more = map-append (λ (end : ℕ). base + end) ends (at ∷ [])

    module _ (depth : ℕ) (reading : Reading) (x : Mirrors reading start.kinds) (past : GoesPast depth reading all (ends ++ at ∷ []) (length own)) (before : List ℕ) (long : length before ≡ start.base)
        (holds : HoldsName before start.kinds start.begun start.name) where
      earlier : IsGatheredOf before start depth reading all (moved_ends base ends) kinds begun name hashes
      earlier = h.gathered depth reading x (record { going = past.going; within = first_within (length own) ends (at ∷ []) past.within }) before long holds

      abbrev ended_names : List (List ℕ)
      ended_names = with_string (read depth all reading) (sum_of all) (units_at (before ++ start.chunk) (span m.at (base + at))) earlier.names

      inside : base + at ≤ length (before ++ start.chunk)
      inside =
          let l : length (before ++ start.chunk) ≡ length before + length start.chunk = length-append before start.chunk in
          let o : length own ≡ length start.chunk = ap (λ (xs : List ℕ). length xs) h.chunk_is in
          let b = h.base_is in
          let within = last_within (length own) ends at past.within in
          omega (arith, l, o, b, long, within)

      are_ended : NamesOf (before ++ start.chunk) depth reading start.begun all (moved_ends base (ends ++ at ∷ [])) None ended_names
      are_ended =
          subst (λ (xs : List ℕ). NamesOf (before ++ start.chunk) depth reading start.begun all xs None ended_names) (sym ends_more)
          (ended m (base + at) inside (subst (λ (o : Option Mark). NamesOf (before ++ start.chunk) depth reading start.begun all (moved_ends base ends) o earlier.names) is_open earlier.are))

      names_are : (b : Bool) → (is_last kinds.name && (sum.opened == 0)) ≡ b → ended_names ≡ (if b then earlier.names ++ units_at (before ++ start.chunk) (span m.at (base + at)) ∷ [] else earlier.names)
      names_are b is =
          let units = units_at (before ++ start.chunk) (span m.at (base + at)) in
          ap (λ (s : Sum). with_string (read depth all reading) s units earlier.names) (sym h.sum_is)
          ∙ ap (λ (l : Bool). if l && (sum.opened == 0) then earlier.names ++ units ∷ [] else earlier.names) (same_last (read depth all reading) kinds (h.mirrors depth reading x) past.going)
          ∙ ap (λ (c : Bool). if c then earlier.names ++ units ∷ [] else earlier.names) is

      other_of : (left : List ℕ) → (is_last kinds.name && (sum.opened == 0)) ≡ false → IsGatheredOf before start depth reading all (moved_ends base (ends ++ at ∷ [])) kinds None left hashes
      other_of left is = record {
        names = ended_names;
        are = are_ended;
        hashes_are = earlier.hashes_are ∙ ap (map name_hash) (sym (names_are false is));
        name_is = λ y e behind low. absurd cc;
      }

      name_of : (hash : ℕ) (left : List ℕ) → (is_last kinds.name && (sum.opened == 0)) ≡ true
          → hash ≡ name_hash (units_at (before ++ own) (span m.at (base + at)))
          → IsGatheredOf before start depth reading all (moved_ends base (ends ++ at ∷ [])) kinds None left (hashes ++ hash ∷ [])
      name_of hash left is hash_is =
          let units = units_at (before ++ start.chunk) (span m.at (base + at)) in
          record {
            names = ended_names;
            are = are_ended;
            hashes_are =
                ap (λ (xs : List ℕ). xs ++ hash ∷ []) earlier.hashes_are
                ∙ ap (λ (z : ℕ). map name_hash earlier.names ++ z ∷ []) (hash_is ∙ ap (λ (xs : List ℕ). name_hash (units_at (before ++ xs) (span m.at (base + at)))) h.chunk_is)
                ∙ sym (map-append name_hash earlier.names (units ∷ []))
                ∙ ap (map name_hash) (sym (names_are true is));
            name_is = λ y e behind low. absurd cc;
          }

    pub has_other : (left : List ℕ) → (is_last kinds.name && (sum.opened == 0)) ≡ false → HasGathered start marks (ends ++ at ∷ []) own base kinds sum None left hashes
    has_other left is = record {
      chunk_is = h.chunk_is;
      base_is = h.base_is;
      sum_is = h.sum_is;
      mirrors = h.mirrors;
      gathered = λ depth reading x past before long holds. other_of depth reading x past before long holds left is;
    }

    pub has_name : (hash : ℕ) (left everything : List ℕ) → everything ≡ hashes ++ hash ∷ [] → (is_last kinds.name && (sum.opened == 0)) ≡ true
        → ((before : List ℕ) → base ≡ length before → (m.at < base → name ≡ drop m.at before) → hash ≡ name_hash (units_at (before ++ own) (span m.at (base + at))))
        → HasGathered start marks (ends ++ at ∷ []) own base kinds sum None left everything
    has_name hash left everything all_are is hash_is = record {
      chunk_is = h.chunk_is;
      base_is = h.base_is;
      sum_is = h.sum_is;
      mirrors = h.mirrors;
      gathered = λ depth reading x past before long holds.
          subst (IsGatheredOf before start depth reading all (moved_ends base (ends ++ at ∷ [])) kinds None left) (sym all_are)
          (name_of depth reading x past before long holds hash left is
          (let b : base ≡ length before = h.base_is ∙ sym long in
          hash_is before b (λ low. (earlier depth reading x past before long holds).name_is m is_open (behind_of (is_last kinds.name) (sum.opened == 0) is) (subst (λ (i : ℕ). m.at < i) b low))));
    }
      where
        behind_of : (a b : Bool) → (a && b) ≡ true → a ≡ true
        behind_of true b q = refl
        behind_of false b q = absurd cc

-- a mark, and at once the end that belongs to it
module _ (start : Start) (marks : List Mark) (ends : List ℕ) (own : List ℕ) (base : ℕ) (kinds : Kinds) (sum : Sum) (begun : Option Mark) (name hashes : List ℕ)
    (h : HasGathered start marks ends own base kinds sum begun name hashes) (m : Mark) (at to : ℕ) (next : Kinds) (there : at ≡ base + m.at) (free : begun ≡ None)
    (steps : next ≡ after m.kind kinds) (token : is_token m.kind ≡ true) where
  begins : HasGathered start (marks ++ m ∷ []) ends own base next sum (Some (record { kind = m.kind; at = at })) name hashes
  begins = has_token start marks ends own base kinds sum begun name hashes h m at next sum there free steps (token_stays m.kind sum token) token

  pub whole_other : (left : List ℕ) → (is_last next.name && (sum.opened == 0)) ≡ false → HasGathered start (marks ++ m ∷ []) (ends ++ to ∷ []) own base next sum begun left hashes
  whole_other left is =
      subst (λ (o : Option Mark). HasGathered start (marks ++ m ∷ []) (ends ++ to ∷ []) own base next sum o left hashes) (sym free)
      (has_other start (marks ++ m ∷ []) ends own base next sum (Some (record { kind = m.kind; at = at })) name hashes begins (record { kind = m.kind; at = at }) to refl left is)

  pub whole_name : (hash : ℕ) (left all : List ℕ) → all ≡ hashes ++ hash ∷ [] → (is_last next.name && (sum.opened == 0)) ≡ true
      → ((before : List ℕ) → base ≡ length before → (at < base → name ≡ drop at before) → hash ≡ name_hash (units_at (before ++ own) (span at (base + to))))
      → HasGathered start (marks ++ m ∷ []) (ends ++ to ∷ []) own base next sum begun left all
  whole_name hash left all all_are is hash_is =
      subst (λ (o : Option Mark). HasGathered start (marks ++ m ∷ []) (ends ++ to ∷ []) own base next sum o left all) (sym free)
      (has_name start (marks ++ m ∷ []) ends own base next sum (Some (record { kind = m.kind; at = at })) name hashes begins (record { kind = m.kind; at = at }) to refl hash left all all_are is hash_is)

-- the whole chunk
pub has_told : (start : Start) (marks : List Mark) (ends : List ℕ) (own : List ℕ) (base : ℕ) (sum : Sum) (name : List ℕ) (told : ToldChunk)
    → HasGathered start marks ends own base (kinds told.standing.kinds) sum told.standing.begun name told.hashes.items
    → (is_last told.standing.kinds.name ≡ true → (m : Mark) → told.standing.begun ≡ Some m → (before : List ℕ) → base ≡ length before → (m.at < base → name ≡ drop m.at before)
    → told.standing.name.items ≡ drop m.at (before ++ own))
    → IsTold start marks ends told
has_told start marks ends own base sum name told h held = record {
  mirrors = λ depth reading x. subst (λ (i : ℕ). Mirrors (read depth (moved_marks i marks) reading) (kinds told.standing.kinds)) h.base_is (h.mirrors depth reading x);
  told_of = λ depth reading x past before long holds.
      let b : base ≡ length before = h.base_is ∙ sym long in
      let same : length start.chunk ≡ length own = ap (λ (xs : List ℕ). length xs) (sym h.chunk_is) in
      let was =
      h.gathered depth reading x
      (subst (λ (i : ℕ). GoesPast depth reading (moved_marks i marks) ends (length own)) (sym h.base_is)
      (subst (λ (n : ℕ). GoesPast depth reading (moved_marks start.base marks) ends n) same past)) before long holds in
      record {
        names = was.names;
        are = subst (λ (i : ℕ). NamesOf (before ++ start.chunk) depth reading start.begun (moved_marks i marks) (moved_ends i ends) told.standing.begun was.names) h.base_is was.are;
        hashes_are = was.hashes_are;
        name_is = λ m e behind.
            held behind m e before b (λ low. was.name_is m e behind (subst (λ (i : ℕ). m.at < i) b low)) ∙ ap (λ (xs : List ℕ). drop m.at (before ++ xs)) h.chunk_is;
      };
}

-- no token yet
pub has_none : (start : Start) (own : List ℕ) (base : ℕ) (kinds : Kinds) (sum : Sum) (begun : Option Mark) (name hashes : List ℕ)
    → own ≡ start.chunk → base ≡ start.base → kinds ≡ start.kinds → sum ≡ nothing → begun ≡ start.begun → name ≡ start.name → hashes ≡ []
    → HasGathered start [] [] own base kinds sum begun name hashes
has_none start own base kinds sum begun name hashes own_is base_is kinds_are sum_is begun_is name_is hashes_is = record {
  chunk_is = own_is;
  base_is = base_is;
  sum_is = sum_is;
  mirrors = λ depth reading x. subst (Mirrors reading) (sym kinds_are) x;
  gathered = λ depth reading x past before long holds. record {
    names = [];
    are = subst (λ (o : Option Mark). NamesOf (before ++ start.chunk) depth reading start.begun [] [] o []) (sym begun_is) none;
    hashes_are = hashes_is;
    name_is = λ m e behind low.
        name_is ∙ holds m (sym begun_is ∙ e) (ap (λ (k : Kinds). is_last k.name) (sym kinds_are) ∙ behind);
  };
}
