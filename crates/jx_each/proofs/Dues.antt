-- What is due is what the lines of the bytes before the first fault are.
use Rattle.std.specs.Prelude.{if◌then◌else◌, codes, flat_map}
use Rattle.std.proofs.Common.{◌≡◌, ◌⊎◌, inl, inr, ℕ, zero, suc, ◌+◌, ◌-◌, ◌<◌, ◌≤◌, List, [], ◌∷◌, ◌++◌, length, take, drop, append_assoc, Bool, refl, sym, ap, subst, ◌∙◌, arith, zero-add, lit≤}
use Rattle.std.proofs.lemmas.Bool.{cases_order, cases_lt, lt-ltb, le-ltb}
use Rattle.std.proofs.lemmas.List.{append-nil, drop_at, take_at, take_all, take-append-le, length-append, length-take-le}
use Rattle.jx_run.specs.declared.texts.settings.FrontMark.{FrontMark}
use Rattle.jx_run.specs.declared.texts.settings.FrontMark.TheVariants as on_mark
use Rattle.jx_run.specs.declared.texts.settings.Settings.{Settings}
use Rattle.jx_run.specs.declared.texts.verdict.Verdict.{Verdict}
use Rattle.jx_run.specs.Settings.{IsFront, IsDocumentBy, BeginsBy, IsLongestBeginningBy, JudgedBy, a_text, cut_short, too_deep, stopped, byte_order_mark}
use Rattle.jx_run.specs.Text.{Document}
use Rattle.jx_run.specs.Tree.{Tree}
use Rattle.jx_each.specs.declared.content.LineContent.{LineContent}
use Rattle.jx_each.specs.declared.stand.Stage.{Stage}
use Rattle.jx_each.specs.declared.stand.Stage.TheVariants.{Ahead, Elements, Members, Array, Object, Name, Pair, Names, Empties, Over}
use Rattle.jx_each.specs.Machine.{Aim, Made, aimed, begun, empty_line_of, line_of, lines_next, lines_with, run, step}
use Rattle.jx_each.specs.Turns.{turn_at}
use Rattle.jx_each.specs.declared.sign.Turn.{Turn}
use Rattle.jx_each.specs.declared.sign.Turn.TheVariants as turns
use Rattle.jx_each.specs.Due.{Element, IsDueBy, all_lines_by, behind, element_line, elements_at, lines_before}
use Rattle.jx_index.specs.Pointers.{tokens}
use Rattle.jx_each.specs.inside.Fronts.{sound, sound_part}
use Rattle.jx_each.proofs.Bytes.{plain_list}
use Rattle.jx_each.proofs.Pieces.{Piece}
use Rattle.jx_each.proofs.Gives.{Gives, first_before, over_name}
use Rattle.jx_each.proofs.Seeks.{document_gives, stage_by}

-- ---- the lines of a text

mark_piece : (rest : List ℕ) → Piece 0 0 (byte_order_mark ++ rest) 3 rest
mark_piece rest = record { w = byte_order_mark; whole = refl; end = refl; sits = plain_list byte_order_mark ((refl, refl, (refl, refl, (refl, refl, tt)))) }

none_piece : (rest : List ℕ) → Piece 0 0 rest 0 rest
none_piece rest = record { w = []; whole = refl; end = refl; sits = plain_list [] tt }

-- what a text gives
abbrev Given : LineContent → List (List ℕ) → List ℕ → Tree → Type 0
Given content path text tree = Gives text (aimed content path) begun 0 text (elements_at content text path tree) (stage_by (Ahead 0) tree)

front_gives : (content : LineContent) (path : List (List ℕ)) (text rest : List ℕ) (tree : Tree) (front : List ℕ) → text ≡ front ++ rest → Document (0 + length front) rest tree
    → Piece 0 0 (front ++ rest) (0 + length front) rest → Given content path text tree
front_gives content path text rest tree front whole doc p =
    let at : drop (0 + length front) text ≡ rest =
    ap (λ (n : ℕ). drop n text) (zero-add (length front)) ∙ ap (drop (length front)) whole ∙ drop_at front rest (length front) refl in
    subst (λ (x : List ℕ). Gives text (aimed content path) begun 0 x (elements_at content text path tree) (stage_by (Ahead 0) tree)) (sym whole)
    (over_name text (aimed content path) 0 (Ahead 0) [] [] (elements_at content text path tree) (stage_by (Ahead 0) tree) p (lit≤ tt) (document_gives content text path at doc))

text_gives_by : (content : LineContent) (path : List (List ℕ)) (mark : FrontMark) (text rest : List ℕ) (tree : Tree) (front : List ℕ) → IsFront mark front → text ≡ front ++ rest → Document (0 + length front) rest tree
    → Given content path text tree
text_gives_by content path on_mark.Refused text rest tree front none whole doc = no_front front none whole doc
  where
    no_front : (front : List ℕ) → front ≡ [] → text ≡ front ++ rest → Document (0 + length front) rest tree → Given content path text tree
    no_front front e =
        subst (λ (x : List ℕ). text ≡ x ++ rest → Document (0 + length x) rest tree → Given content path text tree) (sym e)
        (λ w d. front_gives content path text rest tree [] w d (none_piece rest))
text_gives_by content path on_mark.Ignored text rest tree front is whole doc = some_front front is whole doc
  where
    some_front : (front : List ℕ) → (front ≡ []) ⊎ (front ≡ byte_order_mark) → text ≡ front ++ rest → Document (0 + length front) rest tree → Given content path text tree
    some_front front h = elim h [
      | inl e ↦ subst (λ (x : List ℕ). text ≡ x ++ rest → Document (0 + length x) rest tree → Given content path text tree) (sym e)
          (λ w d. front_gives content path text rest tree [] w d (none_piece rest))
      | inr e ↦ subst (λ (x : List ℕ). text ≡ x ++ rest → Document (0 + length x) rest tree → Given content path text tree) (sym e)
          (λ w d. front_gives content path text rest tree byte_order_mark w d (mark_piece rest))
    ]

pub text_gives : (content : LineContent) (path : List (List ℕ)) (settings : Settings) (text : List ℕ) (tree : Tree) → IsDocumentBy settings 0 text tree → Given content path text tree
text_gives content path settings text tree d = text_gives_by content path settings.mark text d.rest tree d.front d.is_front d.whole d.text.reads

-- ---- longest beginnings

begins_before : (settings : Settings) (xs ys : List ℕ) → BeginsBy settings (xs ++ ys) → BeginsBy settings xs
begins_before settings xs ys b = record {
  more = ys ++ b.more;
  tree = b.tree;
  text = subst (λ (x : List ℕ). IsDocumentBy settings 0 x b.tree) (append_assoc xs ys b.more) b.text;
}

begins_same : (settings : Settings) (xs ys : List ℕ) → xs ≡ ys → BeginsBy settings xs → BeginsBy settings ys
begins_same settings xs ys e b = subst (λ (x : List ℕ). BeginsBy settings x) e b

pub longest_is_one : (settings : Settings) (bytes : List ℕ) (j k : ℕ) → IsLongestBeginningBy settings bytes j → IsLongestBeginningBy settings bytes k → j ≡ k
longest_is_one settings bytes j k x y = elim (cases_order j k) [
  | inl e ↦ e
  | inr o ↦ absurd (elim o [ inl lt ↦ x.greatest k lt y.within y.begins | inr gt ↦ y.greatest j gt x.within x.begins ])
]

longest_grows : (settings : Settings) (bytes more : List ℕ) (j k : ℕ) → IsLongestBeginningBy settings bytes j → IsLongestBeginningBy settings (bytes ++ more) k → j ≤ k
longest_grows settings bytes more j k x y = elim (cases_lt k j) [
  | inl lt ↦ absurd (y.greatest j lt (let e : _ ≡ _ = length-append bytes more in omega (arith, e, x.within)) (begins_same settings (take j bytes) (take j (bytes ++ more)) (sym (take-append-le j bytes more x.within)) x.begins))
  | inr le ↦ le
]

-- what is taken behind a list
take_behind : (xs ys : List ℕ) (n : ℕ) → length xs ≤ n → take n (xs ++ ys) ≡ xs ++ take (n - length xs) ys
take_behind [] ys n le = ap (λ (k : ℕ). take k ys) (let e : n ≡ n - 0 = omega arith in e)
take_behind (x ∷ xs) ys zero le = absurd (omega (arith, le))
take_behind (x ∷ xs) ys (suc n) le =
    ap (λ (l : List ℕ). x ∷ l) (take_behind xs ys n (omega (arith, le)) ∙ ap (λ (k : ℕ). xs ++ take k ys) (let e : n - length xs ≡ suc n - suc (length xs) = omega arith in e))

longest_stays : (settings : Settings) (bytes more : List ℕ) (j k : ℕ) → IsLongestBeginningBy settings bytes j → IsLongestBeginningBy settings (bytes ++ more) k → j < length bytes → k ≡ j
longest_stays settings bytes more j k x y lt = elim (cases_order j k) [
  | inl e ↦ sym e
  | inr o ↦ absurd (elim o [
    | inr gt ↦ (let le : j ≤ k = longest_grows settings bytes more j k x y in omega (arith, le, gt))
    | inl far ↦ elim (cases_lt (length bytes) k) [
      | inr le ↦ x.greatest k far le (begins_same settings (take k (bytes ++ more)) (take k bytes) (take-append-le k bytes more le) y.begins)
      | inl over ↦ x.greatest (length bytes) lt (omega arith)
          (begins_same settings bytes (take (length bytes) bytes) (sym (take_all (length bytes) bytes (omega arith)))
          (begins_before settings bytes (take (k - length bytes) more) (begins_same settings (take k (bytes ++ more)) (bytes ++ take (k - length bytes) more) (take_behind bytes more k (omega (arith, over))) y.begins)))
    ]
  ])
]

-- the sound bytes of a slice go on with those before it
pub sound_goes_on : (settings : Settings) (bytes slice : List ℕ) (j k : ℕ) → IsLongestBeginningBy settings bytes j → IsLongestBeginningBy settings (bytes ++ slice) k
    → take k (bytes ++ slice) ≡ take j bytes ++ sound_part slice j (length bytes) k
sound_goes_on settings bytes slice j k x y = elim (cases_lt j (length bytes)) [
  | inl lt ↦
      ap (λ (n : ℕ). take n (bytes ++ slice)) (longest_stays settings bytes slice j k x y lt)
      ∙ take-append-le j bytes slice x.within
      ∙ sym (append-nil (take j bytes))
      ∙ ap (λ (m : Bool). take j bytes ++ (if m then [] else take (k - length bytes) slice)) (sym (lt-ltb j (length bytes) lt))
  | inr le ↦
      (let grown : j ≤ k = longest_grows settings bytes slice j k x y in
      take_behind bytes slice k (omega (arith, le, grown))
      ∙ ap (λ (z : List ℕ). z ++ take (k - length bytes) slice) (sym (take_all j bytes le))
      ∙ ap (λ (m : Bool). take j bytes ++ (if m then [] else take (k - length bytes) slice)) (sym (le-ltb j (length bytes) le)))
]

pub whole_begins : (settings : Settings) (bytes : List ℕ) (tree : Tree) → IsDocumentBy settings 0 bytes tree → IsLongestBeginningBy settings bytes (length bytes)
whole_begins settings bytes tree d = record {
  within = omega arith;
  begins = record { more = []; tree = tree; text = subst (λ (x : List ℕ). IsDocumentBy settings 0 x tree) (sym (append-nil (take (length bytes) bytes) ∙ take_all (length bytes) bytes (omega arith))) d };
  greatest = λ n lt le b. omega (arith, lt, le);
}

-- by the verdict
pub sound_is_longest : (settings : Settings) (bytes : List ℕ) (verdict : Verdict) → JudgedBy settings 0 bytes verdict → IsLongestBeginningBy settings bytes (sound verdict (length bytes))
sound_is_longest settings bytes verdict (a_text {tree = tree} d) = whole_begins settings bytes tree d
sound_is_longest settings bytes verdict (cut_short none longest) = longest
sound_is_longest settings bytes verdict (too_deep {k = k} none longest lt more) = subst (λ (n : ℕ). IsLongestBeginningBy settings bytes n) (sym (zero-add k)) longest
sound_is_longest settings bytes verdict (stopped {k = k} none longest lt more) = subst (λ (n : ℕ). IsLongestBeginningBy settings bytes n) (sym (zero-add k)) longest

-- ---- what is due

pub run_append : (aim : Aim) (s : Made) (xs ys : List ℕ) → run aim s (xs ++ ys) ≡ run aim (run aim s xs) ys
run_append aim s [] ys = refl
run_append aim s (x ∷ xs) ys = run_append aim (step aim s x) xs ys

-- the lines of the bytes before the first fault
pub is_due : {content : LineContent} (settings : Settings) (pointer bytes : List ℕ) (k : ℕ) → IsLongestBeginningBy settings bytes k → IsDueBy content settings pointer bytes (run (aimed content (tokens pointer)) begun (take k bytes)).lines
is_due {content} settings pointer bytes k x = record {
  k = k;
  longest = x;
  more = x.begins.more;
  tree = x.begins.tree;
  text = x.begins.text;
  written =
      ap (λ (l : List ℕ). (run (aimed content (tokens pointer)) begun l).lines) (sym (take_at (take k bytes) x.begins.more k (length-take-le k bytes x.within)))
      ∙ (text_gives content (tokens pointer) settings (take k bytes ++ x.begins.more) x.begins.tree x.begins.text).gives k
      ∙ ap (λ (n : ℕ). lines_before content (take k bytes ++ x.begins.more) n (elements_at content (take k bytes ++ x.begins.more) (tokens pointer) x.begins.tree)) (zero-add k);
}

pub due_is : {content : LineContent} (settings : Settings) (pointer bytes output : List ℕ) → (d : IsDueBy content settings pointer bytes output) → output ≡ (run (aimed content (tokens pointer)) begun (take d.k bytes)).lines
due_is {content} settings pointer bytes output d =
    d.written
    ∙ sym (ap (λ (n : ℕ). lines_before content (take d.k bytes ++ d.more) n (elements_at content (take d.k bytes ++ d.more) (tokens pointer) d.tree)) (zero-add d.k))
    ∙ sym ((text_gives content (tokens pointer) settings (take d.k bytes ++ d.more) d.tree d.text).gives d.k)
    ∙ ap (λ (l : List ℕ). (run (aimed content (tokens pointer)) begun l).lines) (take_at (take d.k bytes) d.more d.k (length-take-le d.k bytes d.longest.within))

pub one_due : {content : LineContent} (settings : Settings) (pointer input x y : List ℕ) → IsDueBy content settings pointer input x → IsDueBy content settings pointer input y → x ≡ y
one_due {content} settings pointer input x y a b =
    due_is settings pointer input x a
    ∙ ap (λ (k : ℕ). (run (aimed content (tokens pointer)) begun (take k input)).lines) (longest_is_one settings input a.k b.k a.longest b.longest)
    ∙ sym (due_is settings pointer input y b)

-- lines are never taken back
more_with : (stage : Stage) (lines part : List ℕ) → (rest : List ℕ) × (lines_with stage lines part ≡ lines ++ rest)
more_with Array lines part = (line_of part, refl)
more_with Object lines part = (line_of part, refl)
more_with Pair lines part = (part ++ codes "}\n", refl)
more_with Names lines part = (line_of part, refl)
more_with Empties lines part = (empty_line_of part, refl)
more_with Name lines part = ([], sym (append-nil lines))
more_with (Members level) lines part = ([], sym (append-nil lines))
more_with (Ahead level) lines part = ([], sym (append-nil lines))
more_with (Elements level n) lines part = ([], sym (append-nil lines))
more_with Over lines part = ([], sym (append-nil lines))

more_lines : (stage : Stage) (turn : Turn) (lines part : List ℕ) → (rest : List ℕ) × (lines_next stage turn lines part ≡ lines ++ rest)
more_lines stage turns.EnterArray lines part = ([], sym (append-nil lines))
more_lines stage turns.EnterObject lines part = ([], sym (append-nil lines))
more_lines stage turns.Next lines part = more_with stage lines part
more_lines stage turns.Value lines part = ([], sym (append-nil lines))
more_lines stage turns.Leave lines part = more_with stage lines part
more_lines stage turns.Past lines part = ([], sym (append-nil lines))
more_lines stage turns.Stay lines part = ([], sym (append-nil lines))

run_grows : (aim : Aim) (s : Made) (xs : List ℕ) → (rest : List ℕ) × ((run aim s xs).lines ≡ s.lines ++ rest)
run_grows aim s [] = ([], sym (append-nil s.lines))
run_grows aim s (x ∷ xs) =
    let here = more_lines s.stand.stage (turn_at s.stand.place s.stand.height x) s.lines s.part in
    let there = run_grows aim (step aim s x) xs in
    (here.0 ++ there.0, there.1 ∙ ap (λ (l : List ℕ). l ++ there.0) here.1 ∙ append_assoc s.lines here.0 there.0)

pub more_due : {content : LineContent} (settings : Settings) (pointer input more x y : List ℕ) → IsDueBy content settings pointer input x → IsDueBy content settings pointer (input ++ more) y → (rest : List ℕ) × (y ≡ x ++ rest)
more_due {content} settings pointer input more x y a b =
    let aim : Aim = aimed content (tokens pointer) in
    let front : List ℕ = take a.k input in
    let behind : List ℕ = sound_part more a.k (length input) b.k in
    let grown = run_grows aim (run aim begun front) behind in (
      grown.0,
      due_is settings pointer (input ++ more) y b
          ∙ ap (λ (l : List ℕ). (run aim begun l).lines) (sound_goes_on settings input more a.k b.k a.longest b.longest)
          ∙ ap (λ (s : Made). s.lines) (run_append aim begun front behind)
          ∙ grown.1
          ∙ ap (λ (l : List ℕ). l ++ grown.0) (sym (due_is settings pointer input x a)),
    )

-- past all of them
past_all : List ℕ → List Element → ℕ
past_all text [] = 0
past_all text (t ∷ ts) = suc (behind text t) + past_all text ts

lines_past : (content : LineContent) (text : List ℕ) (ts : List Element) (n : ℕ) → past_all text ts ≤ n → lines_before content text n ts ≡ flat_map (element_line content text) ts
unfolding past_all
lines_past content text [] n le = refl
lines_past content text (t ∷ ts) n le =
    let h : suc (behind text t) + past_all text ts ≤ n = le in
    first_before content text n t ts (omega (arith, h)) ∙ ap (λ (l : List ℕ). element_line content text t ++ l) (lines_past content text ts n (omega (arith, h)))

pub all_due : {content : LineContent} (settings : Settings) (pointer text output : List ℕ) (tree : Tree) → IsDocumentBy settings 0 text tree → IsDueBy content settings pointer text output → output ≡ all_lines_by content text pointer tree
all_due {content} settings pointer text output tree d x =
    let path : List (List ℕ) = tokens pointer in
    let ts : List Element = elements_at content text path tree in
    let n : ℕ = past_all text ts + length text in
    let same : x.k ≡ length text = longest_is_one settings text x.k (length text) x.longest (whole_begins settings text tree d) in
    let all : take n text ≡ text = take_all n text (omega arith) in
    due_is settings pointer text output x
    ∙ ap (λ (l : List ℕ). (run (aimed content path) begun l).lines) (take_all x.k text (omega (arith, same)) ∙ sym all)
    ∙ (text_gives content path settings text tree d).gives n
    ∙ lines_past content text ts (0 + n) (omega arith)
