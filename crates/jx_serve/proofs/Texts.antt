-- The words of messages are such values.
use Rattle.std.proofs.Common.{◌≡◌, ℕ, suc, ◌-◌, Bool, true, false, List, [], ◌∷◌, ◌++◌, append_assoc, append-nil, decimal, codes, refl, sym, ap, subst, ◌∙◌, inl, inr, ◌⊎◌, ◌^◌, ◌<◌, ◌≤◌, arith}
use Rattle.std.specs.Prelude.{OnOk, Result, Ok, Err}
use Rattle.jx_lex.specs.Token.{IsString, IsNumber}
use Rattle.jx_lex.specs.declared.kind.Kind.{Kind}
use Rattle.jx_lex.specs.declared.kind.Kind.TheVariants as kind
use Rattle.jx_run.specs.Text.{document}
use Rattle.jx_run.specs.Grammar.{no_blanks}
use Rattle.jx_run.specs.declared.texts.verdict.Verdict.TheVariants.{Accepted}
use Rattle.jx_index.specs.ByNames.{IsVerdictBy, a_text}
use Rattle.jx_edit.specs.declared.positions.position.Position.{Position}
use Rattle.jx_serve.specs.Messages.{message_settings}
use Rattle.jx_serve.specs.Words.{ends}
use Rattle.jx_serve.specs.inside.Sound.{AreItems, IsValue, IsWhole, IsHead, IsBegun, IsAString, IsPlain, IsPlainValue, AreDistinct, AddsHead, AddsNamed, AddsString, AreOpen, closings, kind_member, list_head, symbol_kind}
use Rattle.jx_serve.proofs.Sounds.{a_string, a_number, members_end, members_on, an_object, an_array, decimal_plain, distinct_by, natural_number, no_items, plain_string}
use Rattle.jx_serve.proofs.Opens.{all_closed}
use Rattle.jx_serve.proofs.Uniques.{never_repeated}

five : (a b c d e rest : List ℕ) → a ++ (b ++ (c ++ (d ++ (e ++ rest)))) ≡ ((((a ++ b) ++ c) ++ d) ++ e) ++ rest
five a b c d e rest =
    sym (append_assoc (((a ++ b) ++ c) ++ d) e rest ∙ append_assoc ((a ++ b) ++ c) d (e ++ rest) ∙ append_assoc (a ++ b) c (d ++ (e ++ rest)) ∙ append_assoc a b (c ++ (d ++ (e ++ rest))))

pub position_value : (limit : ℕ) (line character : List ℕ) → IsNumber line → IsNumber character
    → IsWhole (suc limit) ((((codes "{\"line\":" ++ line) ++ codes ",\"character\":") ++ character) ++ codes "}")
position_value limit line character l h rest =
    subst (λ b. IsValue (suc limit) b rest) (five (codes "{\"line\":") line (codes ",\"character\":") character (codes "}") rest)
    (an_object limit (codes "line" ∷ codes "character" ∷ []) _ rest (distinct_by (codes "line" ∷ codes "character" ∷ []) refl)
    (members_on limit (codes "character" ∷ []) (codes "\"line\"") (codes "line") (line ++ (codes ",\"character\":" ++ (character ++ (codes "}" ++ rest)))) _ _ (plain_string (codes "line") refl) (a_number limit line _ l)
    (members_end limit (codes "\"character\"") (codes "character") (character ++ (codes "}" ++ rest)) _ (plain_string (codes "character") refl) (a_number limit character _ h))))

pub ends_value : (limit : ℕ) (start end : List ℕ) → IsWhole limit start → IsWhole limit end
    → IsWhole (suc limit) ((((codes "{\"start\":" ++ start) ++ codes ",\"end\":") ++ end) ++ codes "}")
ends_value limit start end s e rest =
    subst (λ b. IsValue (suc limit) b rest) (five (codes "{\"start\":") start (codes ",\"end\":") end (codes "}") rest)
    (an_object limit (codes "start" ∷ codes "end" ∷ []) _ rest (distinct_by (codes "start" ∷ codes "end" ∷ []) refl)
    (members_on limit (codes "end" ∷ []) (codes "\"start\"") (codes "start") (start ++ (codes ",\"end\":" ++ (end ++ (codes "}" ++ rest)))) _ _ (plain_string (codes "start") refl) (s _)
    (members_end limit (codes "\"end\"") (codes "end") (end ++ (codes "}" ++ rest)) _ (plain_string (codes "end") refl) (e _))))

parted : (o s l sl c sc t e el ec : List ℕ)
    → ((((((((o ++ (s ++ l)) ++ sl) ++ c) ++ sc) ++ (t ++ (e ++ l))) ++ el) ++ c) ++ ec) ++ (t ++ t) ≡ o ++ ((((s ++ ((((l ++ sl) ++ c) ++ sc) ++ t)) ++ e) ++ ((((l ++ el) ++ c) ++ ec) ++ t)) ++ t)
parted o s l sl c sc t e el ec = simp append_assoc refl

pub ends_words : (o a b c d e f g h i : List ℕ) (start end : Position) → a ≡ o ++ codes "{\"start\":{\"line\":" → b ≡ a ++ decimal start.line → c ≡ b ++ codes ",\"character\":" → d ≡ c ++ decimal start.character
    → e ≡ d ++ codes "},\"end\":{\"line\":" → f ≡ e ++ decimal end.line → g ≡ f ++ codes ",\"character\":" → h ≡ g ++ decimal end.character → i ≡ h ++ codes "}}" → i ≡ o ++ ends start end
ends_words o a b c d e f g h i start end p q r s t u v w x =
    x ∙ ap (λ l. l ++ codes "}}")
    (w ∙ ap (λ l. l ++ decimal end.character)
    (v ∙ ap (λ l. l ++ codes ",\"character\":")
    (u ∙ ap (λ l. l ++ decimal end.line)
    (t ∙ ap (λ l. l ++ codes "},\"end\":{\"line\":")
    (s ∙ ap (λ l. l ++ decimal start.character) (r ∙ ap (λ l. l ++ codes ",\"character\":") (q ∙ ap (λ l. l ++ decimal start.line) p)))))))
    ∙ parted o (codes "{\"start\":") (codes "{\"line\":") (decimal start.line) (codes ",\"character\":") (decimal start.character) (codes "}") (codes ",\"end\":") (decimal end.line) (decimal end.character)

-- ---- an answer

pub accepted : (w : List ℕ) → IsWhole 512 w → IsVerdictBy message_settings w Accepted
accepted w v =
    let x = v [] (w ++ []) 0 refl in
    subst (λ (t : List ℕ). IsVerdictBy message_settings t Accepted) (append-nil w)
    (a_text {tree = x.tree}
    (record { front = []; rest = w ++ []; is_front = refl; whole = refl; text = record { reads = document no_blanks x.reads no_blanks; within = x.within } })
    (never_repeated (w ++ []) x.tree x.unique))

answer_five : (a id b list e rest : List ℕ) → a ++ (id ++ (b ++ (list ++ (e ++ rest)))) ≡ ((((a ++ id) ++ b) ++ list) ++ e) ++ rest
answer_five a id b list e rest = five a id b list e rest

-- ---- a symbol

pub symbol_head : (limit : ℕ) (name units kind range label : List ℕ) → IsString name units → IsNumber kind → IsWhole (suc (suc limit)) range → IsWhole (suc (suc limit)) label
    → IsHead (suc limit) (codes "{\"name\":" ++ (name ++ (codes ",\"kind\":" ++ (kind ++ (codes ",\"range\":" ++ (range ++ (codes ",\"selectionRange\":" ++ (label ++ codes ",\"children\":["))))))))
symbol_head limit name units kind range label s k r l items rest last =
    subst (λ b. IsValue (suc (suc (suc limit))) b rest) nine
    (an_object (suc (suc limit)) (codes "name" ∷ codes "kind" ∷ codes "range" ∷ codes "selectionRange" ∷ codes "children" ∷ []) _ rest distinct
    (members_on (suc (suc limit)) _ (codes "\"name\"") (codes "name") (name ++ (codes ",\"kind\":" ++ (kind ++ (codes ",\"range\":" ++ (range ++ (codes ",\"selectionRange\":" ++ (label ++ (codes ",\"children\":[" ++ items)))))))) _ _ (plain_string (codes "name") refl) (a_string (suc (suc limit)) name units _ s)
    (members_on (suc (suc limit)) _ (codes "\"kind\"") (codes "kind") (kind ++ (codes ",\"range\":" ++ (range ++ (codes ",\"selectionRange\":" ++ (label ++ (codes ",\"children\":[" ++ items)))))) _ _ (plain_string (codes "kind") refl) (a_number (suc (suc limit)) kind _ k)
    (members_on (suc (suc limit)) _ (codes "\"range\"") (codes "range") (range ++ (codes ",\"selectionRange\":" ++ (label ++ (codes ",\"children\":[" ++ items)))) _ _ (plain_string (codes "range") refl) (r _)
    (members_on (suc (suc limit)) _ (codes "\"selectionRange\"") (codes "selectionRange") (label ++ (codes ",\"children\":[" ++ items)) _ _ (plain_string (codes "selectionRange") refl) (l _)
    (members_end (suc (suc limit)) (codes "\"children\"") (codes "children") (codes "[" ++ items) _ (plain_string (codes "children") refl) (children last)))))))
  where
    children : (items ≡ 0x5d ∷ 0x7d ∷ rest) ⊎ AreItems (suc limit) items (0x5d ∷ 0x7d ∷ rest) → IsValue (suc (suc limit)) (0x5b ∷ items) (0x7d ∷ rest)
    children (inl e) = subst (λ (x : List ℕ). IsValue (suc (suc limit)) (0x5b ∷ x) (0x7d ∷ rest)) (sym e) (no_items (suc limit) (0x7d ∷ rest))
    children (inr a) = an_array (suc limit) items (0x7d ∷ rest) a

    nine : codes "{\"name\":" ++ (name ++ (codes ",\"kind\":" ++ (kind ++ (codes ",\"range\":" ++ (range ++ (codes ",\"selectionRange\":" ++ (label ++ (codes ",\"children\":[" ++ items))))))))
        ≡ (codes "{\"name\":" ++ (name ++ (codes ",\"kind\":" ++ (kind ++ (codes ",\"range\":" ++ (range ++ (codes ",\"selectionRange\":" ++ (label ++ codes ",\"children\":[")))))))) ++ items
    nine = sym (simp append_assoc refl)

    distinct : AreDistinct (codes "name" ∷ codes "kind" ∷ codes "range" ∷ codes "selectionRange" ∷ codes "children" ∷ [])
    distinct = distinct_by (codes "name" ∷ codes "kind" ∷ codes "range" ∷ codes "selectionRange" ∷ codes "children" ∷ []) refl

-- ---- an answer that is a list

raised : (low high : ℕ) (bytes rest : List ℕ) → low ≤ high → AreItems low bytes rest → AreItems high bytes rest
raised low high bytes rest h v text i at =
    let x = v text i at in
    record { end = x.end; children = x.children; reads = x.reads; left = x.left; within = omega (arith, x.within, h); unique = x.unique }

a_plain_value : (limit : ℕ) (id rest : List ℕ) → IsPlainValue id → IsValue limit (id ++ rest) rest
a_plain_value limit id rest (inl n) = a_number limit id rest n
a_plain_value limit id rest (inr p) = a_string limit id p.0 rest (subst (λ (w : List ℕ). IsString w p.0) (sym p.1.1) (plain_string p.0 p.1.0))

with_list : (id list rest : List ℕ) → IsPlainValue id → IsValue 511 (0x5b ∷ list) (0x7d ∷ rest)
    → IsValue 512 (codes "{\"jsonrpc\":\"2.0\",\"id\":" ++ (id ++ (codes ",\"result\":[" ++ list))) rest
with_list id list rest p v =
    an_object 511 (codes "jsonrpc" ∷ codes "id" ∷ codes "result" ∷ []) _ rest (distinct_by (codes "jsonrpc" ∷ codes "id" ∷ codes "result" ∷ []) refl)
    (members_on 511 (codes "id" ∷ codes "result" ∷ []) (codes "\"jsonrpc\"") (codes "jsonrpc") (codes "\"2.0\",\"id\":" ++ (id ++ (codes ",\"result\":[" ++ list))) (codes "\"id\":" ++ (id ++ (codes ",\"result\":[" ++ list))) _ (plain_string (codes "jsonrpc") refl)
    (a_string 511 (codes "\"2.0\"") (codes "2.0") _ (plain_string (codes "2.0") refl))
    (members_on 511 (codes "result" ∷ []) (codes "\"id\"") (codes "id") (id ++ (codes ",\"result\":[" ++ list)) (codes "\"result\":[" ++ list) _ (plain_string (codes "id") refl) (a_plain_value 511 id _ p)
    (members_end 511 (codes "\"result\"") (codes "result") (codes "[" ++ list) _ (plain_string (codes "result") refl) v)))

pub list_answer : (id bytes : List ℕ) (limit : ℕ) (none : Bool) → limit ≤ 510 → IsPlainValue id → IsBegun ((codes "{\"jsonrpc\":\"2.0\",\"id\":" ++ id) ++ codes ",\"result\":[") limit none bytes
    → IsWhole 512 (bytes ++ codes "]}")
list_answer id bytes limit true low p e rest =
    let head : List ℕ = (codes "{\"jsonrpc\":\"2.0\",\"id\":" ++ id) ++ codes ",\"result\":[" in
    let parts : codes "{\"jsonrpc\":\"2.0\",\"id\":" ++ (id ++ (codes ",\"result\":[" ++ (codes "]}" ++ rest))) ≡ (bytes ++ codes "]}") ++ rest =
    sym (ap (λ (b : List ℕ). (b ++ codes "]}") ++ rest) e ∙ simp append_assoc refl) in
    subst (λ (b : List ℕ). IsValue 512 b rest) parts (with_list id (codes "]}" ++ rest) rest p (no_items 510 (0x7d ∷ rest)))
list_answer id bytes limit false low p b rest =
    let parts : codes "{\"jsonrpc\":\"2.0\",\"id\":" ++ (id ++ (codes ",\"result\":[" ++ (b.0 ++ (codes "]}" ++ rest)))) ≡ (bytes ++ codes "]}") ++ rest =
    sym (ap (λ (x : List ℕ). (x ++ codes "]}") ++ rest) b.1.0 ∙ simp append_assoc refl) in
    subst (λ (x : List ℕ). IsValue 512 x rest) parts
    (with_list id (b.0 ++ (codes "]}" ++ rest)) rest p (an_array 510 (b.0 ++ (codes "]}" ++ rest)) (0x7d ∷ rest) (raised limit 510 _ _ low (b.1.1 (codes "]}" ++ rest) (codes "]}" ++ rest) (inl refl)))))

-- ---- what is added

pub on_ok : {T E P : Type 0} (result : Result T E) → P → OnOk result P
on_ok (Ok v) p = p
on_ok (Err e) p = tt

pub added_plain : (before after spelt : List ℕ) → IsPlain spelt → after ≡ before ++ spelt → AddsString before after
added_plain before after spelt p e = record { name = spelt; units = p.0; is_string = subst (λ (w : List ℕ). IsString w p.0) (sym p.1.1) (plain_string p.0 p.1.0); whole = e }

pub added_string : (before after spelt : List ℕ) → IsAString spelt → after ≡ before ++ spelt → AddsString before after
added_string before after spelt s e = record { name = spelt; units = s.0; is_string = s.1; whole = e }

pub added_root : (before after : List ℕ) → after ≡ before ++ codes "\"root\"" → AddsString before after
added_root before after e = record { name = codes "\"root\""; units = codes "root"; is_string = plain_string (codes "root") refl; whole = e }

pub added_place : (before one two after : List ℕ) (place : ℕ) → place < 2 ^ 64 → one ≡ before ++ codes "\"" → two ≡ one ++ decimal place → after ≡ two ++ codes "\"" → AddsString before after
added_place before one two after place fits e f g = record {
  name = 0x22 ∷ (decimal place ++ (0x22 ∷ []));
  units = decimal place;
  is_string = plain_string (decimal place) (decimal_plain place fits);
  whole = g ∙ ap (λ b. b ++ codes "\"") (f ∙ ap (λ b. b ++ decimal place) e) ∙ simp append_assoc refl;
}

kind_number : (k : Kind) → IsNumber (symbol_kind k)
kind_number kind.String = natural_number (codes "15") refl
kind_number kind.Number = natural_number (codes "16") refl
kind_number kind.True = natural_number (codes "17") refl
kind_number kind.False = natural_number (codes "17") refl
kind_number kind.Array = natural_number (codes "18") refl
kind_number kind.Object = natural_number (codes "19") refl
kind_number kind.Null = natural_number (codes "21") refl

grouped : (o a b c d e : List ℕ) → ((o ++ a) ++ b) ++ ((c ++ d) ++ e) ≡ o ++ ((((a ++ b) ++ c) ++ d) ++ e)
grouped o a b c d e = simp append_assoc refl

pub added_named : (before one two after : List ℕ) (k : Kind) → one ≡ before ++ codes "{\"name\":" → AddsString one two → after ≡ two ++ kind_member k → AddsNamed before after
added_named before one two after k e s f = record {
  name = s.name;
  units = s.units;
  kind = symbol_kind k;
  is_string = s.is_string;
  is_kind = kind_number k;
  whole =
      f ∙ ap (λ b. b ++ kind_member k) (s.whole ∙ ap (λ b. b ++ s.name) e) ∙ grouped before (codes "{\"name\":") s.name (codes ",\"kind\":") (symbol_kind k) (codes ",");
}

-- a symbol's beginning, of which the ranges are values
pub added_head : (before named mid ranged labelled ended after extent label : List ℕ) → AddsNamed before named → mid ≡ named ++ codes "\"range\":" → ranged ≡ mid ++ extent → ((limit : ℕ) → IsWhole (suc (suc limit)) extent)
    → labelled ≡ ranged ++ codes ",\"selectionRange\":" → ended ≡ labelled ++ label → ((limit : ℕ) → IsWhole (suc (suc limit)) label) → after ≡ ended ++ codes ",\"children\":[" → AddsHead before after
added_head before named mid ranged labelled ended after extent label n m r x l d y c = record {
  head = codes "{\"name\":" ++ (n.name ++ (codes ",\"kind\":" ++ (n.kind ++ (codes ",\"range\":" ++ (extent ++ (codes ",\"selectionRange\":" ++ (label ++ codes ",\"children\":[")))))));
  is_head = λ limit. symbol_head limit n.name n.units n.kind extent label n.is_string n.is_kind (x limit) (y limit);
  whole =
      c ∙ ap (λ b. b ++ codes ",\"children\":[") (d ∙ ap (λ b. b ++ label) (l ∙ ap (λ b. b ++ codes ",\"selectionRange\":") (r ∙ ap (λ b. b ++ extent) (m ∙ ap (λ b. b ++ codes "\"range\":") n.whole))))
      ∙ simp append_assoc refl;
}

pub answered : (id bytes ended after : List ℕ) (n : ℕ) → IsPlainValue id → AreOpen (list_head id) n true bytes → ended ≡ bytes ++ closings (n - 0) → after ≡ ended ++ codes "]}" → IsWhole 512 after
answered id bytes ended after n p o e a =
    let x = all_closed (list_head id) n bytes o in
    let whole : n - 0 ≡ n = omega arith in
    subst (λ (b : List ℕ). IsWhole 512 b) (sym (a ∙ ap (λ (b : List ℕ). b ++ codes "]}") (e ∙ ap (λ (k : ℕ). bytes ++ closings k) whole))) (list_answer id (bytes ++ closings n) 201 x.0 (omega arith) p x.1)

pub headed : (o one two three id : List ℕ) → one ≡ o ++ codes "{\"jsonrpc\":\"2.0\",\"id\":" → two ≡ one ++ id → three ≡ two ++ codes ",\"result\":[" → three ≡ o ++ list_head id
headed o one two three id a b c = c ∙ ap (λ l. l ++ codes ",\"result\":[") (b ∙ ap (λ l. l ++ id) a) ∙ simp append_assoc refl
