-- The lines that a container gives: those of its elements.
use Rattle.std.specs.Prelude.{if◌then◌else◌, codes, slice_range, Option, None, Some}
use Rattle.std.proofs.Common.{◌≡◌, ℕ, suc, ◌+◌, ◌-◌, List, [], ◌∷◌, ◌++◌, length, take, drop, Bool, true, false, refl, sym, ap, subst, ◌∙◌, arith, lit≤}
use Rattle.std.proofs.lemmas.List.{append-nil, drop_at, drop-drop, take_at}
use Rattle.jx_compact.specs.declared.place.Place.TheVariants.{Between}
use Rattle.jx_compact.specs.Compact.{compact, compact_from, is_no_blank, next}
use Rattle.jx_lex.specs.declared.kind.Kind.TheVariants as kind
use Rattle.jx_lex.specs.Token.{space, tab, line_feed, carriage_return}
use Rattle.jx_summary.specs.declared.span.Span.{Span}
use Rattle.jx_run.specs.Tree.{Tree, Children, span}
use Rattle.jx_run.specs.Grammar.{Blanks, no_blanks, blank, Scalar, Value, Items, last_item, item, Members, last_member, member}
use Rattle.jx_run.proofs.LawProofs.{value_span}
use Rattle.jx_each.specs.declared.content.LineContent.TheVariants.{Alone, Named, NameAlone, Empty}
use Rattle.jx_each.specs.declared.stand.Stage.{Stage}
use Rattle.jx_each.specs.declared.stand.Stage.TheVariants.{Array, Object, Name, Pair, Names, Empties, Over}
use Rattle.jx_each.specs.Machine.{Aim, Made, aimed, empty_line_of, line_of, lines_with, part_at, step}
use Rattle.jx_each.specs.Due.{Element, all_in, behind, element_line, name_of, past_blanks, value_of}
use Rattle.jx_each.proofs.Bytes.{token_sits}
use Rattle.jx_each.proofs.Stays.{token_stays}
use Rattle.jx_each.proofs.Pieces.{Piece, Solid, blanks_gap, scalar_piece, token_solid, value_piece}
use Rattle.jx_each.proofs.Gives.{Gives, gives_cut, gives_over, gives_step, made, over_gap, over_name, over_piece, taken}

-- ---- where an element stands

-- what stands in a text behind a stretch
left : (text w u : List ℕ) (i j : ℕ) → drop i text ≡ w ++ u → j ≡ i + length w → drop j text ≡ u
left text w u i j h e =
    ap (λ (n : ℕ). drop n text) e ∙ sym (drop-drop (length w) i text) ∙ ap (drop (length w)) h ∙ drop_at w u (length w) refl

pub left_piece : (text : List ℕ) {low i j : ℕ} {t u : List ℕ} → drop i text ≡ t → (p : Piece low i t j u) → drop j text ≡ u
left_piece text {i = i} {j = j} {u = u} h p = left text p.w u i j (h ∙ p.whole) p.end

-- behind a byte
pub left_byte : (text : List ℕ) (b : ℕ) (t : List ℕ) (i : ℕ) → drop i text ≡ b ∷ t → drop (suc i) text ≡ t
left_byte text b t i h = left text (b ∷ []) t i (suc i) h (omega arith)

-- blanks are skipped up to a byte that is none
pub blanks_past : {i j b : ℕ} {t u : List ℕ} → is_no_blank b ≡ true → Blanks i t j (b ∷ u) → past_blanks i t ≡ j
blanks_past {i = i} h no_blanks = rw h refl
blanks_past h (blank space bs) = blanks_past h bs
blanks_past h (blank tab bs) = blanks_past h bs
blanks_past h (blank line_feed bs) = blanks_past h bs
blanks_past h (blank carriage_return bs) = blanks_past h bs

solid_line : (w : List ℕ) → Solid w → line_of (compact w) ≡ compact w ++ 0x0a ∷ []
solid_line w s =
    subst (λ (x : List ℕ). line_of (compact x) ≡ compact x ++ 0x0a ∷ []) (sym s.is)
    (ap (λ (m : Bool). line_of ((if m then s.first ∷ [] else []) ++ compact_from (next Between s.first) s.rest)) s.no_blank
    ∙ sym (ap (λ (m : Bool). ((if m then s.first ∷ [] else []) ++ compact_from (next Between s.first) s.rest) ++ 0x0a ∷ []) s.no_blank))

-- the stretch of a span
pub stretch_is : (text w u : List ℕ) (i j : ℕ) → drop i text ≡ w ++ u → j ≡ i + length w → slice_range text i j ≡ w
stretch_is text w u i j h e =
    ap (λ (n : ℕ). take n (drop i text)) (let x : j - i ≡ length w = omega (arith, e) in x)
    ∙ ap (take (length w)) h
    ∙ take_at w u (length w) refl

-- what is kept of a value
pub value_is : (text : List ℕ) {i j : ℕ} {t u : List ℕ} {tree : Tree} → drop i text ≡ t → (v : Value i t j u tree) → compact (value_piece v).piece.w ≡ value_of text tree
value_is text {i = i} {j = j} {u = u} h v =
    let p = value_piece v in
    ap compact (sym (stretch_is text p.piece.w u i j (h ∙ p.piece.whole) p.piece.end))
    ∙ sym (ap (λ (s : _). compact (slice_range text s.start s.end)) (value_span v))

-- the line of a value
value_line : (text : List ℕ) {i j : ℕ} {t u : List ℕ} {tree : Tree} → drop i text ≡ t → (v : Value i t j u tree) → line_of (compact (value_piece v).piece.w) ≡ value_of text tree ++ 0x0a ∷ []
value_line text h v =
    solid_line (value_piece v).piece.w (value_piece v).solid
    ∙ ap (λ (x : List ℕ). x ++ 0x0a ∷ []) (value_is text h v)

abbrev pub an_element : Option Span → Tree → Element
an_element name tree = record { name = name; tree = tree }

-- the comma or the bracket behind it
pub value_behind : (text : List ℕ) {i j k b : ℕ} {t u v : List ℕ} {tree : Tree} → drop j text ≡ u → Value i t j u tree → is_no_blank b ≡ true → Blanks j u k (b ∷ v) → (name : Option Span) → behind text (an_element name tree) ≡ k
value_behind text {j = j} h x is bs name =
    ap (λ (s : _). past_blanks s.end (drop s.end text)) (value_span x)
    ∙ ap (past_blanks j) h
    ∙ blanks_past is bs

-- ---- in the container

-- an element, where one may stand, and the blanks around it
over_element : (text : List ℕ) (aim : Aim) (r to : Stage) (takes : Bool) (lines front : List ℕ) (ts : List Element) {i j k l : ℕ} {t0 t1 t2 t3 : List ℕ} {tree : Tree} → Blanks i t0 j t1 → (v : Value j t1 k t2 tree) → Blanks k t2 l t3
    → Gives text aim (made 1 r takes lines (front ++ taken takes Between (value_piece v).piece.w)) l t3 ts to
    → Gives text aim (made 1 r takes lines front) i t0 ts to
over_element text aim r to takes lines front ts bs v cs g =
    over_gap text aim 1 r takes lines front ts to (blanks_gap bs)
    (over_piece text aim 1 r takes lines front ts to (value_piece v).piece (lit≤ tt)
    (over_gap text aim 1 r takes lines (front ++ taken takes Between (value_piece v).piece.w) ts to (blanks_gap cs) g))

-- the last element, and the bracket behind it
last_gives : (text : List ℕ) (aim : Aim) (r : Stage) (takes : Bool) (b : ℕ) → is_no_blank b ≡ true
    → ((lines part : List ℕ) → step aim (made 1 r takes lines part) b ≡ made 0 Over false (lines_with r lines part) [])
    → (lines front : List ℕ) (name : Option Span) {i j k l : ℕ} {t0 t1 t2 t3 : List ℕ} {tree : Tree} → drop i text ≡ t0 → Blanks i t0 j t1 → (v : Value j t1 k t2 tree) → Blanks k t2 l (b ∷ t3)
    → (drop j text ≡ t1 → lines_with r lines (front ++ taken takes Between (value_piece v).piece.w) ≡ lines ++ element_line aim.content text (an_element name tree))
    → Gives text aim (made 1 r takes lines front) i t0 (an_element name tree ∷ []) Over
last_gives text aim r takes b is closes lines front name {l = l} {t3 = t3} {tree = tree} h bs v cs line =
    let part : List ℕ = front ++ taken takes Between (value_piece v).piece.w in
    let h1 : _ ≡ _ = left_piece text h (blanks_gap bs).piece in
    let h2 : _ ≡ _ = left_piece text h1 (value_piece v).piece in
    over_element text aim r Over takes lines front (an_element name tree ∷ []) bs v cs
    (gives_cut text aim (made 1 r takes lines part) b l t3 (an_element name tree) [] Over
    (ap (λ (m : Made). m.lines) (closes lines part) ∙ line h1)
    (value_behind text h2 v is cs name)
    (subst (λ (m : Made). Gives text aim m (suc l) t3 [] Over) (sym (closes lines part)) (gives_over text aim 0 false (lines_with r lines part) [] (suc l) t3)))

-- another element, and the comma behind it
next_gives : (text : List ℕ) (aim : Aim) (r back : Stage) (takes next : Bool)
    → ((lines part : List ℕ) → step aim (made 1 r takes lines part) 0x2c ≡ made 1 back next (lines_with r lines part) (part_at back))
    → (lines front : List ℕ) (name : Option Span) (ts : List Element) {i j k l : ℕ} {t0 t1 t2 t3 : List ℕ} {tree : Tree} → drop i text ≡ t0 → Blanks i t0 j t1 → (v : Value j t1 k t2 tree) → Blanks k t2 l (0x2c ∷ t3)
    → (drop j text ≡ t1 → lines_with r lines (front ++ taken takes Between (value_piece v).piece.w) ≡ lines ++ element_line aim.content text (an_element name tree))
    → ((more : List ℕ) → drop (suc l) text ≡ t3 → Gives text aim (made 1 back next more (part_at back)) (suc l) t3 ts Over)
    → Gives text aim (made 1 r takes lines front) i t0 (an_element name tree ∷ ts) Over
next_gives text aim r back takes next goes lines front name ts {l = l} {t3 = t3} {tree = tree} h bs v cs line rest =
    let part : List ℕ = front ++ taken takes Between (value_piece v).piece.w in
    let h1 : _ ≡ _ = left_piece text h (blanks_gap bs).piece in
    let h2 : _ ≡ _ = left_piece text h1 (value_piece v).piece in
    let h3 : _ ≡ _ = left_piece text h2 (blanks_gap cs).piece in
    over_element text aim r Over takes lines front (an_element name tree ∷ ts) bs v cs
    (gives_cut text aim (made 1 r takes lines part) 0x2c l t3 (an_element name tree) ts Over
    (ap (λ (m : Made). m.lines) (goes lines part) ∙ line h1)
    (value_behind text h2 v refl cs name)
    (subst (λ (m : Made). Gives text aim m (suc l) t3 ts Over) (sym (goes lines part)) (rest (lines_with r lines part) (left_byte text 0x2c t3 l h3))))

pub items_give : (text : List ℕ) (path : List (List ℕ)) (lines : List ℕ) {i j : ℕ} {t u : List ℕ} {c : Children} → drop i text ≡ t → Items i t j (0x5d ∷ u) c
    → Gives text (aimed Alone path) (made 1 Array true lines []) i t (all_in c) Over
items_give text path lines h (last_item bs v cs) =
    last_gives text (aimed Alone path) Array true 0x5d refl (λ lines part. refl) lines [] None h bs v cs (λ h1. ap (λ (x : List ℕ). lines ++ x) (value_line text h1 v))
items_give text path lines h (item {more = more} bs v cs xs) =
    next_gives text (aimed Alone path) Array Array true true (λ lines part. refl) lines [] None (all_in more) h bs v cs (λ h1. ap (λ (x : List ℕ). lines ++ x) (value_line text h1 v))
    (λ next g. items_give text path next g xs)

-- a name and the colon behind it
over_member : (text : List ℕ) (aim : Aim) (lines : List ℕ) (ts : List Element) {i j k l : ℕ} {t0 t1 t2 t3 : List ℕ} → drop i text ≡ t0 → Blanks i t0 j t1 → Scalar kind.String j t1 k t2 → Blanks k t2 l (0x3a ∷ t3)
    → (drop (suc l) text ≡ t3 → Gives text aim (made 1 Object true lines []) (suc l) t3 ts Over)
    → Gives text aim (made 1 Object false lines []) i t0 ts Over
over_member text aim lines ts {l = l} {t3 = t3} h bs n cs g =
    let h1 : _ ≡ _ = left_piece text h (blanks_gap bs).piece in
    let h2 : _ ≡ _ = left_piece text h1 (scalar_piece n) in
    let h3 : _ ≡ _ = left_piece text h2 (blanks_gap cs).piece in
    over_gap text aim 1 Object false lines [] ts Over (blanks_gap bs)
    (over_name text aim 1 Object lines [] ts Over (scalar_piece n) (lit≤ tt)
    (over_gap text aim 1 Object false lines [] ts Over (blanks_gap cs)
    (gives_step text aim (made 1 Object false lines []) 0x3a l t3 ts Over refl (g (left_byte text 0x3a t3 l h3)))))

pub members_give : (text : List ℕ) (path : List (List ℕ)) (lines : List ℕ) {i j : ℕ} {t u : List ℕ} {c : Children} → drop i text ≡ t → Members i t j (0x7d ∷ u) c
    → Gives text (aimed Alone path) (made 1 Object false lines []) i t (all_in c) Over
members_give text path lines h (last_member {j = j} {k = k} {tree = tree} bs n cs ds v es) =
    over_member text (aimed Alone path) lines (an_element (Some (span j k)) tree ∷ []) h bs n cs
    (λ g. last_gives text (aimed Alone path) Object true 0x7d refl (λ lines part. refl) lines [] (Some (span j k)) g ds v es (λ h1. ap (λ (x : List ℕ). lines ++ x) (value_line text h1 v)))
members_give text path lines h (member {j = j} {k = k} {tree = tree} {more = more} bs n cs ds v es xs) =
    over_member text (aimed Alone path) lines (an_element (Some (span j k)) tree ∷ all_in more) h bs n cs
    (λ g. next_gives text (aimed Alone path) Object Object true false (λ lines part. refl) lines [] (Some (span j k)) (all_in more) g ds v es (λ h1. ap (λ (x : List ℕ). lines ++ x) (value_line text h1 v))
    (λ next q. members_give text path next q xs))

-- ---- in the container, where names are written

-- what is kept in front of a value
abbrev front_of : List ℕ → List ℕ
front_of w = (part_at Name ++ compact w) ++ codes ",\"value\":"

-- a name
abbrev pub name_piece : {i j : ℕ} {t u : List ℕ} → Scalar kind.String i t j u → Piece 0 i t j u
name_piece x = record { w = x.token; whole = x.whole; end = x.end; sits = token_sits kind.String x.token x.is_token }

name_as_spelt : (text : List ℕ) {j k : ℕ} {t u : List ℕ} → drop j text ≡ t → (n : Scalar kind.String j t k u) → compact n.token ≡ name_of text (Some (span j k))
name_as_spelt text {j = j} {k = k} {u = u} h n =
    (token_stays kind.String n.token n.is_token).form
    ∙ sym (stretch_is text n.token u j k (h ∙ n.whole) n.end)

joined : (lines p n m v e name value : List ℕ) → n ≡ name → v ≡ value → lines ++ ((((p ++ n) ++ m) ++ v) ++ e) ≡ lines ++ ((((p ++ name) ++ m) ++ value) ++ e)
joined lines p n m v e name value a b =
    ap (λ (l : List ℕ). lines ++ ((((p ++ l) ++ m) ++ v) ++ e)) a
    ∙ ap (λ (l : List ℕ). lines ++ ((((p ++ name) ++ m) ++ l) ++ e)) b

pair_line : (text lines : List ℕ) {j k p q : ℕ} {t u v w : List ℕ} {tree : Tree} → drop j text ≡ t → (n : Scalar kind.String j t k u) → drop p text ≡ v → (x : Value p v q w tree)
    → lines_with Pair lines (front_of n.token ++ compact (value_piece x).piece.w) ≡ lines ++ element_line Named text (an_element (Some (span j k)) tree)
pair_line text lines {j = j} {k = k} {tree = tree} h n g x =
    joined lines (codes "{\"name\":") (compact n.token) (codes ",\"value\":") (compact (value_piece x).piece.w) (codes "}\n")
    (name_of text (Some (span j k))) (value_of text tree) (name_as_spelt text h n) (value_is text g x)

-- a name that is kept, and the colon behind it
over_named : (text : List ℕ) (aim : Aim) (r to : Stage) (takes : Bool) (lines front part : List ℕ) (ts : List Element) {i j k l : ℕ} {t0 t1 t2 t3 : List ℕ} → drop i text ≡ t0 → Blanks i t0 j t1 → (n : Scalar kind.String j t1 k t2) → Blanks k t2 l (0x3a ∷ t3)
    → step aim (made 1 r true lines (front ++ compact n.token)) 0x3a ≡ made 1 to takes lines part
    → (drop (suc l) text ≡ t3 → Gives text aim (made 1 to takes lines part) (suc l) t3 ts Over)
    → Gives text aim (made 1 r true lines front) i t0 ts Over
over_named text aim r to takes lines front part ts {l = l} {t3 = t3} h bs n cs goes g =
    let h1 : _ ≡ _ = left_piece text h (blanks_gap bs).piece in
    let h2 : _ ≡ _ = left_piece text h1 (name_piece n) in
    let h3 : _ ≡ _ = left_piece text h2 (blanks_gap cs).piece in
    let kept : List ℕ = front ++ compact n.token in
    over_gap text aim 1 r true lines front ts Over (blanks_gap bs)
    (over_piece text aim 1 r true lines front ts Over (name_piece n) (lit≤ tt)
    (over_gap text aim 1 r true lines kept ts Over (blanks_gap cs)
    (gives_step text aim (made 1 r true lines kept) 0x3a l t3 ts Over (ap (λ (m : Made). m.lines) goes)
    (subst (λ (m : Made). Gives text aim m (suc l) t3 ts Over) (sym goes) (g (left_byte text 0x3a t3 l h3))))))

pub pairs_give : (text : List ℕ) (path : List (List ℕ)) (lines : List ℕ) {i j : ℕ} {t u : List ℕ} {c : Children} → drop i text ≡ t → Members i t j (0x7d ∷ u) c
    → Gives text (aimed Named path) (made 1 Name true lines (part_at Name)) i t (all_in c) Over
pairs_give text path lines h (last_member {j = j} {k = k} {tree = tree} bs n cs ds v es) =
    let h1 : _ ≡ _ = left_piece text h (blanks_gap bs).piece in
    over_named text (aimed Named path) Name Pair true lines (part_at Name) (front_of n.token) (an_element (Some (span j k)) tree ∷ []) h bs n cs refl
    (λ g. last_gives text (aimed Named path) Pair true 0x7d refl (λ lines part. refl) lines (front_of n.token) (Some (span j k)) g ds v es (λ h4. pair_line text lines h1 n h4 v))
pairs_give text path lines h (member {j = j} {k = k} {tree = tree} {more = more} bs n cs ds v es xs) =
    let h1 : _ ≡ _ = left_piece text h (blanks_gap bs).piece in
    over_named text (aimed Named path) Name Pair true lines (part_at Name) (front_of n.token) (an_element (Some (span j k)) tree ∷ all_in more) h bs n cs refl
    (λ g. next_gives text (aimed Named path) Pair Name true true (λ lines part. refl) lines (front_of n.token) (Some (span j k)) (all_in more) g ds v es (λ h4. pair_line text lines h1 n h4 v)
    (λ next q. pairs_give text path next q xs))

-- ---- in the container, where names alone are written

name_solid : {i j : ℕ} {t u : List ℕ} → (n : Scalar kind.String i t j u) → Solid n.token
name_solid n = token_solid kind.String n.token n.is_token

-- what is kept of a member, of whose value nothing is
name_line : (text lines : List ℕ) {j k : ℕ} {t u : List ℕ} (tree : Tree) → drop j text ≡ t → (n : Scalar kind.String j t k u)
    → lines_with Names lines (compact n.token ++ []) ≡ lines ++ element_line NameAlone text (an_element (Some (span j k)) tree)
name_line text lines tree h n =
    ap (λ (x : List ℕ). lines ++ line_of x) (append-nil (compact n.token))
    ∙ ap (λ (x : List ℕ). lines ++ x) (solid_line n.token (name_solid n))
    ∙ ap (λ (x : List ℕ). lines ++ (x ++ 0x0a ∷ [])) (name_as_spelt text h n)

pub names_give : (text : List ℕ) (path : List (List ℕ)) (lines : List ℕ) {i j : ℕ} {t u : List ℕ} {c : Children} → drop i text ≡ t → Members i t j (0x7d ∷ u) c
    → Gives text (aimed NameAlone path) (made 1 Names true lines []) i t (all_in c) Over
names_give text path lines h (last_member {j = j} {k = k} {tree = tree} bs n cs ds v es) =
    let h1 : _ ≡ _ = left_piece text h (blanks_gap bs).piece in
    over_named text (aimed NameAlone path) Names Names false lines [] (compact n.token) (an_element (Some (span j k)) tree ∷ []) h bs n cs refl
    (λ g. last_gives text (aimed NameAlone path) Names false 0x7d refl (λ lines part. refl) lines (compact n.token) (Some (span j k)) g ds v es (λ h4. name_line text lines tree h1 n))
names_give text path lines h (member {j = j} {k = k} {tree = tree} {more = more} bs n cs ds v es xs) =
    let h1 : _ ≡ _ = left_piece text h (blanks_gap bs).piece in
    over_named text (aimed NameAlone path) Names Names false lines [] (compact n.token) (an_element (Some (span j k)) tree ∷ all_in more) h bs n cs refl
    (λ g. next_gives text (aimed NameAlone path) Names Names false true (λ lines part. refl) lines (compact n.token) (Some (span j k)) (all_in more) g ds v es (λ h4. name_line text lines tree h1 n)
    (λ next q. names_give text path next q xs))

-- ---- in the container, where lines are empty

solid_empty_line : (w : List ℕ) → Solid w → empty_line_of (compact w) ≡ 0x0a ∷ []
solid_empty_line w s =
    subst (λ (x : List ℕ). empty_line_of (compact x) ≡ 0x0a ∷ []) (sym s.is)
    (ap (λ (m : Bool). empty_line_of ((if m then s.first ∷ [] else []) ++ compact_from (next Between s.first) s.rest)) s.no_blank)

pub empty_items_give : (text : List ℕ) (path : List (List ℕ)) (lines : List ℕ) {i j : ℕ} {t u : List ℕ} {c : Children} → drop i text ≡ t → Items i t j (0x5d ∷ u) c
    → Gives text (aimed Empty path) (made 1 Empties true lines []) i t (all_in c) Over
empty_items_give text path lines h (last_item bs v cs) =
    last_gives text (aimed Empty path) Empties true 0x5d refl (λ lines part. refl) lines [] None h bs v cs
    (λ h1. ap (λ (x : List ℕ). lines ++ x) (solid_empty_line (value_piece v).piece.w (value_piece v).solid))
empty_items_give text path lines h (item {more = more} bs v cs xs) =
    next_gives text (aimed Empty path) Empties Empties true true (λ lines part. refl) lines [] None (all_in more) h bs v cs
    (λ h1. ap (λ (x : List ℕ). lines ++ x) (solid_empty_line (value_piece v).piece.w (value_piece v).solid))
    (λ next g. empty_items_give text path next g xs)

-- of a member its name is kept
member_line : (lines : List ℕ) {j k : ℕ} {t u : List ℕ} → (n : Scalar kind.String j t k u) → lines_with Empties lines (compact n.token ++ []) ≡ lines ++ 0x0a ∷ []
member_line lines n =
    ap (λ (x : List ℕ). lines ++ empty_line_of x) (append-nil (compact n.token))
    ∙ ap (λ (x : List ℕ). lines ++ x) (solid_empty_line n.token (name_solid n))

pub empty_members_give : (text : List ℕ) (path : List (List ℕ)) (lines : List ℕ) {i j : ℕ} {t u : List ℕ} {c : Children} → drop i text ≡ t → Members i t j (0x7d ∷ u) c
    → Gives text (aimed Empty path) (made 1 Empties true lines []) i t (all_in c) Over
empty_members_give text path lines h (last_member {j = j} {k = k} {tree = tree} bs n cs ds v es) =
    over_named text (aimed Empty path) Empties Empties false lines [] (compact n.token) (an_element (Some (span j k)) tree ∷ []) h bs n cs refl
    (λ g. last_gives text (aimed Empty path) Empties false 0x7d refl (λ lines part. refl) lines (compact n.token) (Some (span j k)) g ds v es (λ h4. member_line lines n))
empty_members_give text path lines h (member {j = j} {k = k} {tree = tree} {more = more} bs n cs ds v es xs) =
    over_named text (aimed Empty path) Empties Empties false lines [] (compact n.token) (an_element (Some (span j k)) tree ∷ all_in more) h bs n cs refl
    (λ g. next_gives text (aimed Empty path) Empties Empties false true (λ lines part. refl) lines (compact n.token) (Some (span j k)) (all_in more) g ds v es (λ h4. member_line lines n)
    (λ next q. empty_members_give text path next q xs))
