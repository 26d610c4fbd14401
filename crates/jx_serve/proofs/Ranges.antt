-- Lists of values, and ranges in each other.
use Rattle.std.proofs.Common.{◌≡◌, ℕ, suc, zero, ◌+◌, ◌≤◌, Bool, true, false, not, List, [], ◌∷◌, ◌++◌, append_assoc, append-nil, codes, refl, sym, ap, subst, ◌∙◌, inl, inr, arith}
use Rattle.jx_lex.specs.Token.{IsString, IsNumber}
use Rattle.jx_serve.specs.inside.Sound.{braces, comma, list_head, AddsNamed, AddsValue, AreRanges, IsAString, IsBegun, IsParent, IsPlainValue, IsValue, IsWhole}
use Rattle.jx_serve.proofs.Sounds.{a_number, a_string, an_object, distinct_by, members_end, members_on, plain_string}
use Rattle.jx_serve.proofs.Opens.{one_more}
use Rattle.jx_serve.proofs.Texts.{list_answer}

-- ---- lists

pub one_element : (head : List ℕ) (limit : ℕ) (none : Bool) (bytes mid after : List ℕ) → IsBegun head limit none bytes → mid ≡ bytes ++ comma none → AddsValue limit mid after → IsBegun head limit false after
one_element head limit none bytes mid after b e a =
    subst (λ (x : List ℕ). IsBegun head limit false x) (sym (a.whole ∙ ap (λ (x : List ℕ). x ++ a.value) e)) (one_more head 0 limit none bytes a.value b a.is_value)

pub none_by : (none some : Bool) → some ≡ not none → none ≡ not some
none_by true some e = sym (ap not e)
none_by false some e = sym (ap not e)

pub listed : (id bytes after : List ℕ) (none : Bool) → IsPlainValue id → IsBegun (list_head id) 510 none bytes → after ≡ bytes ++ codes "]}" → IsWhole 512 after
listed id bytes after none p b e = subst (λ (x : List ℕ). IsWhole 512 x) (sym e) (list_answer id bytes 510 none (omega arith) p b)

-- ---- a symbol

symbol_value : (name units kind uri uri_units extent : List ℕ) → IsString name units → IsNumber kind → IsString uri uri_units → ((limit : ℕ) → IsWhole (suc (suc limit)) extent)
    → IsWhole 510 (codes "{\"name\":" ++ (name ++ (codes ",\"kind\":" ++ (kind ++ (codes ",\"location\":{\"uri\":" ++ (uri ++ (codes ",\"range\":" ++ (extent ++ codes "}}"))))))))
symbol_value name units kind uri uri_units extent s k u x rest =
    subst (λ (b : List ℕ). IsValue 510 b rest) (simp append_assoc refl)
    (an_object 509 (codes "name" ∷ codes "kind" ∷ codes "location" ∷ []) _ rest (distinct_by (codes "name" ∷ codes "kind" ∷ codes "location" ∷ []) refl)
    (members_on 509 _ (codes "\"name\"") (codes "name") (name ++ (codes ",\"kind\":" ++ (kind ++ (codes ",\"location\":" ++ place)))) _ _ (plain_string (codes "name") refl) (a_string 509 name units _ s)
    (members_on 509 _ (codes "\"kind\"") (codes "kind") (kind ++ (codes ",\"location\":" ++ place)) _ _ (plain_string (codes "kind") refl) (a_number 509 kind _ k)
    (members_end 509 (codes "\"location\"") (codes "location") place _ (plain_string (codes "location") refl) place_is))))
  where
    place : List ℕ
    place = codes "{\"uri\":" ++ (uri ++ (codes ",\"range\":" ++ (extent ++ (codes "}}" ++ rest))))

    place_is : IsValue 509 place (0x7d ∷ rest)
    place_is =
        an_object 508 (codes "uri" ∷ codes "range" ∷ []) _ (0x7d ∷ rest) (distinct_by (codes "uri" ∷ codes "range" ∷ []) refl)
        (members_on 508 (codes "range" ∷ []) (codes "\"uri\"") (codes "uri") (uri ++ (codes ",\"range\":" ++ (extent ++ (codes "}}" ++ rest)))) _ _ (plain_string (codes "uri") refl) (a_string 508 uri uri_units _ u)
        (members_end 508 (codes "\"range\"") (codes "range") (extent ++ (codes "}}" ++ rest)) _ (plain_string (codes "range") refl) (x 506 _)))

pub added_symbol : (before named one two three four after uri extent : List ℕ) → AddsNamed before named → one ≡ named ++ codes "\"location\":{\"uri\":" → two ≡ one ++ uri → three ≡ two ++ codes ",\"range\":"
    → four ≡ three ++ extent → ((limit : ℕ) → IsWhole (suc (suc limit)) extent) → after ≡ four ++ codes "}}" → IsAString uri → AddsValue 510 before after
added_symbol before named one two three four after uri extent n a b c d x e u = record {
  value = codes "{\"name\":" ++ (n.name ++ (codes ",\"kind\":" ++ (n.kind ++ (codes ",\"location\":{\"uri\":" ++ (uri ++ (codes ",\"range\":" ++ (extent ++ codes "}}")))))));
  is_value = symbol_value n.name n.units n.kind uri u.0 extent n.is_string n.is_kind u.1 x;
  whole =
      e ∙ ap (λ b. b ++ codes "}}") (d ∙ ap (λ b. b ++ extent) (c ∙ ap (λ b. b ++ codes ",\"range\":") (b ∙ ap (λ b. b ++ uri) (a ∙ ap (λ b. b ++ codes "\"location\":{\"uri\":") n.whole))))
      ∙ simp append_assoc refl;
}

-- ---- lines that can be folded

lines_value : (limit : ℕ) (first last : List ℕ) → IsNumber first → IsNumber last
    → IsWhole (suc limit) (codes "{\"startLine\":" ++ (first ++ (codes ",\"endLine\":" ++ (last ++ codes "}"))))
lines_value limit first last f l rest =
    subst (λ (b : List ℕ). IsValue (suc limit) b rest) (simp append_assoc refl)
    (an_object limit (codes "startLine" ∷ codes "endLine" ∷ []) _ rest (distinct_by (codes "startLine" ∷ codes "endLine" ∷ []) refl)
    (members_on limit (codes "endLine" ∷ []) (codes "\"startLine\"") (codes "startLine") (first ++ (codes ",\"endLine\":" ++ (last ++ (codes "}" ++ rest)))) _ _ (plain_string (codes "startLine") refl) (a_number limit first _ f)
    (members_end limit (codes "\"endLine\"") (codes "endLine") (last ++ (codes "}" ++ rest)) _ (plain_string (codes "endLine") refl) (a_number limit last _ l))))

pub added_lines : (before one two three four after first last : List ℕ) → one ≡ before ++ codes "{\"startLine\":" → two ≡ one ++ first → IsNumber first → three ≡ two ++ codes ",\"endLine\":" → four ≡ three ++ last
    → IsNumber last → after ≡ four ++ codes "}" → AddsValue 510 before after
added_lines before one two three four after first last a b f c d l e = record {
  value = codes "{\"startLine\":" ++ (first ++ (codes ",\"endLine\":" ++ (last ++ codes "}")));
  is_value = lines_value 509 first last f l;
  whole = e ∙ ap (λ x. x ++ codes "}") (d ∙ ap (λ x. x ++ last) (c ∙ ap (λ x. x ++ codes ",\"endLine\":") (b ∙ ap (λ x. x ++ first) a))) ∙ simp append_assoc refl;
}

-- ---- ranges

raised : (low high : ℕ) (value : List ℕ) → low ≤ high → IsWhole low value → IsWhole high value
raised low high value h w rest text i at =
    let x = w rest text i at in
    record { end = x.end; tree = x.tree; reads = x.reads; left = x.left; within = omega (arith, x.within, h); unique = x.unique }

abbrev spelt : List ℕ → List ℕ → List ℕ
spelt extent parent = ((codes "{\"range\":" ++ extent) ++ parent) ++ codes "}"

range_value : (limit : ℕ) (extent parent : List ℕ) → IsWhole limit extent → IsParent limit parent → IsWhole (suc limit) (spelt extent parent)
range_value limit extent parent x (inl e) rest =
    let parts : codes "{\"range\":" ++ (extent ++ (codes "}" ++ rest)) ≡ spelt extent parent ++ rest =
    sym (ap (λ (p : List ℕ). spelt extent p ++ rest) e ∙ simp append_assoc refl) in
    subst (λ (b : List ℕ). IsValue (suc limit) b rest) parts
    (an_object limit (codes "range" ∷ []) _ rest (distinct_by (codes "range" ∷ []) refl)
    (members_end limit (codes "\"range\"") (codes "range") (extent ++ (codes "}" ++ rest)) _ (plain_string (codes "range") refl) (x _)))
range_value limit extent parent x (inr v) rest =
    let parts : codes "{\"range\":" ++ (extent ++ (codes ",\"parent\":" ++ (v.0 ++ (codes "}" ++ rest)))) ≡ spelt extent parent ++ rest =
    sym (ap (λ (p : List ℕ). spelt extent p ++ rest) v.1.1 ∙ simp append_assoc refl) in
    subst (λ (b : List ℕ). IsValue (suc limit) b rest) parts
    (an_object limit (codes "range" ∷ codes "parent" ∷ []) _ rest (distinct_by (codes "range" ∷ codes "parent" ∷ []) refl)
    (members_on limit (codes "parent" ∷ []) (codes "\"range\"") (codes "range") (extent ++ (codes ",\"parent\":" ++ (v.0 ++ (codes "}" ++ rest)))) _ _ (plain_string (codes "range") refl) (x _)
    (members_end limit (codes "\"parent\"") (codes "parent") (v.0 ++ (codes "}" ++ rest)) _ (plain_string (codes "parent") refl) (v.1.0 _))))

deep : (limit : ℕ) (extent : List ℕ) → 2 ≤ limit → ((less : ℕ) → IsWhole (suc (suc less)) extent) → IsWhole limit extent
deep zero extent h x = absurd (omega (arith, h))
deep (suc zero) extent h x = absurd (omega (arith, h))
deep (suc (suc less)) extent h x = x less

pub innermost_range : (before after extent : List ℕ) → after ≡ (before ++ codes "{") ++ (codes "\"range\":" ++ extent) → ((less : ℕ) → IsWhole (suc (suc less)) extent) → AreRanges 1 before after
innermost_range before after extent e x limit parent h p =
    let more : suc limit ≡ limit + 1 = omega arith in
    record {
      value = spelt extent parent;
      is_value = subst (λ (l : ℕ). IsWhole l (spelt extent parent)) more (range_value limit extent parent (deep limit extent h x) p);
      whole = ap (λ (b : List ℕ). (b ++ parent) ++ braces 1) e ∙ simp append_assoc refl;
    }

pub outer_range : (n : ℕ) (before bytes mid after extent : List ℕ) → AreRanges n before bytes → mid ≡ bytes ++ codes ",\"parent\":" → after ≡ (mid ++ codes "{") ++ (codes "\"range\":" ++ extent)
    → ((less : ℕ) → IsWhole (suc (suc less)) extent) → AreRanges (suc n) before after
outer_range n before bytes mid after extent t m e x limit parent h p =
    let a = t (suc limit) (codes ",\"parent\":" ++ spelt extent parent) (omega (arith, h)) (inr (spelt extent parent, (range_value limit extent parent (deep limit extent h x) p, refl))) in
    let more : suc limit + n ≡ limit + suc n = omega arith in
    record {
      value = a.value;
      is_value = subst (λ (l : ℕ). IsWhole l a.value) more a.is_value;
      whole = ap (λ (b : List ℕ). (b ++ parent) ++ braces (suc n)) (e ∙ ap (λ (b : List ℕ). (b ++ codes "{") ++ (codes "\"range\":" ++ extent)) m) ∙ simp append_assoc refl ∙ a.whole;
    }

pub braces_more : (o : List ℕ) (n : ℕ) → (o ++ braces n) ++ (0x7d ∷ []) ≡ o ++ braces (n + 1)
braces_more o n =
    let e : suc n ≡ n + 1 = omega arith in
    append_assoc o (braces n) (0x7d ∷ []) ∙ ap (λ (b : List ℕ). o ++ b) (last n) ∙ ap (λ (k : ℕ). o ++ braces k) e
  where
    last : (k : ℕ) → braces k ++ (0x7d ∷ []) ≡ braces (suc k)
    last zero = refl
    last (suc k) = ap (λ (b : List ℕ). 0x7d ∷ b) (last k)

pub ended_ranges : (n : ℕ) (before bytes after : List ℕ) → AreRanges n before bytes → n ≤ 200 → after ≡ bytes ++ braces n → AddsValue 510 before after
ended_ranges n before bytes after t few e =
    let a = t 2 [] (omega arith) (inl refl) in
    record {
      value = a.value;
      is_value = raised (2 + n) 510 a.value (omega (arith, few)) a.is_value;
      whole = e ∙ ap (λ (b : List ℕ). b ++ braces n) (sym (append-nil bytes)) ∙ a.whole;
    }
