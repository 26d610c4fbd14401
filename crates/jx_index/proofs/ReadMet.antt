-- What was met for each pointer in an accepted text is read as what its tokens lead to in the tree of the text.
use Rattle.std.proofs.Common.{◌≡◌, ℕ, zero, suc, ◌+◌, ◌<◌, ◌≤◌, List, [], ◌∷◌, ◌++◌, length, drop, map, take, refl, sym, ap, subst, ◌∙◌, arith, get_or, Ok, Err}
use Rattle.std.specs.Prelude.{All, Result, slice_get, slice_range, Some}
use Rattle.std.specs.List.{AllZip}
use Rattle.std.proofs.lemmas.List.{take_all, take_more}
use Rattle.std.proofs.lemmas.List.Elements.{All-head, All-tail}
use Rattle.std.proofs.lemmas.Slice.Zip.{all_zipped_more}
use Rattle.jx_lex.specs.declared.alphabet.mark.Mark.{Mark}
use Rattle.jx_lex.specs.declared.alphabet.state.LexState.TheVariants as state
use Rattle.jx_lex.specs.Lex.{lex}
use Rattle.jx_summary.specs.declared.span.Span.{Span}
use Rattle.jx_run.specs.Text.{IsText}
use Rattle.jx_run.specs.Tree.{Tree}
use Rattle.jx_index.specs.declared.find_fault.FindFault.{FindFault}
use Rattle.jx_index.specs.declared.find_fault.FindFault.TheVariants.{NameRepeated}
use Rattle.jx_index.specs.declared.finder.Found.{Found}
use Rattle.jx_index.specs.declared.finder.Met.{Met}
use Rattle.jx_index.specs.declared.finder.Met.TheVariants as met
use Rattle.jx_index.specs.declared.trie.Edge.{Edge}
use Rattle.jx_index.specs.declared.wanted.Wanted.{Wanted}
use Rattle.jx_index.specs.Found.{found_of}
use Rattle.jx_index.specs.Leads.{led}
use Rattle.jx_index.specs.Pointers.{tokens}
use Rattle.jx_index.specs.inside.Finding.{met_at, missing, never, nothing_met, read_from, read_met, read_root, seek}
use Rattle.jx_index.specs.inside.Found.{tokens_of, units_of}
use Rattle.jx_index.specs.inside.Seeking.{IsReadOf}
use Rattle.jx_index.specs.inside.Trie.{HasWay, IsTrie, IsWay}
use Rattle.jx_index.proofs.Reaches.{HaveMet, have_met, root_met, leads_from_root}
use Rattle.jx_index.proofs.Tokens.{TokensAreRead}
use Rattle.jx_index.proofs.Visits.{visit, met_in}
use Rattle.jx_index.proofs.Within.{slice_end}

-- what was met along each path when these marks and ends were told
abbrev pub HaveMetAll : List ℕ → List Edge → ℕ → List Mark → List ℕ → List Met → Type 0
HaveMetAll text edges last marks ends met = (ts : List (List ℕ)) (path : List ℕ) → IsWay edges 0 ts path
    → map (met_at met) path ≡ (seek text ts last marks ends (nothing_met (length ts))).met

module _ (text : List ℕ) (span : Span) (ordered : span.start ≤ span.end) (within : span.end ≤ length text) (law : TokensAreRead) (limit : ℕ) (tree : Tree) (t : IsText text span.start span.end limit tree) where
  module _ (tokens : List (List ℕ)) (all : List Met)
      (ended : all ≡ (seek text tokens span.end (lex state.Gap span.start (slice_range text span.start span.end)).marks (lex state.Gap span.start (slice_range text span.start span.end)).ends (nothing_met (length tokens))).met) where
    met_is : all ≡ visit text tokens tree 0 (never (length tokens))
    met_is =
        let bytes = slice_range text span.start span.end in
        ended
        ∙ ap (λ (n : ℕ). (seek text tokens n (lex state.Gap span.start bytes).marks (lex state.Gap span.start bytes).ends (nothing_met (length tokens))).met)
        (sym (slice_end text span.start span.end ordered within))
        ∙ met_in text tokens law span.start limit bytes tree t (length tokens)

    found_is : read_root (met_at all 0) all tokens ≡ found_of (led text tree tokens)
    found_is =
        let have : HaveMet text tokens tree all = subst (HaveMet text tokens tree) (sym met_is) (have_met text tokens tree) in
        ap (λ (m : Met). read_root m all tokens) (root_met text tokens tree all have) ∙ leads_from_root text tokens tree all have

  -- ---- each of several pointers

  module _ (edges : List Edge) (trie : IsTrie edges) (met : List Met)
      (have : HaveMetAll text edges span.end (lex state.Gap span.start (slice_range text span.start span.end)).marks (lex state.Gap span.start (slice_range text span.start span.end)).ends met) where
    one_found : (p : List ℕ) (r : Result Found FindFault) → HasWay edges p → IsReadOf edges met p r → r ≡ found_of (led text tree (tokens p))
    one_found p r h f = f trie h.path h.way ∙ found_is (tokens p) (map (met_at met) h.path) (have (tokens p) h.path h.way)

    pub each_found : (ps : List (List ℕ)) (rs : List (Result Found FindFault)) → All (HasWay edges) ps → AllZip (IsReadOf edges met) ps rs
        → AllZip (λ (p : List ℕ) (r : Result Found FindFault). r ≡ found_of (led text tree (tokens p))) ps rs
    each_found [] [] h f = tt
    each_found [] (r ∷ rs) h f = absurd f
    each_found (p ∷ ps) [] h f = absurd f
    each_found (p ∷ ps) (r ∷ rs) h f = (one_found p r (All-head (HasWay edges) p ps h) f.0, each_found ps rs (All-tail (HasWay edges) p ps h) f.1)

-- ---- one pointer after another

pub zip_more : {A B : Type 0} (R : A → B → Type 0) (xs : List A) (ys : List B) (i : ℕ) (d : A) (y : B) → i < length xs → AllZip R (take i xs) ys → R (get_or xs i d) y
    → AllZip R (take (i + 1) xs) (ys ++ y ∷ [])
zip_more {A} {B} R xs ys i d y low h r = subst (λ (zs : List A). AllZip R zs (ys ++ y ∷ [])) (sym (take_more xs i d low)) (all_zipped_more R (take i xs) ys (get_or xs i d) y h r)

pub zip_whole : {A B : Type 0} (R : A → B → Type 0) (xs : List A) (ys : List B) (i : ℕ) → length xs ≤ i → AllZip R (take i xs) ys → AllZip R xs ys
zip_whole {A} {B} R xs ys i past h = subst (λ (zs : List A). AllZip R zs ys) (take_all i xs past) h

-- ---- one token after another

record Next (wanted : List Wanted) (i : ℕ) : Type 0 where
  token : List ℕ
  is : drop i (tokens_of wanted) ≡ token ∷ drop (suc i) (tokens_of wanted)

next_token : (wanted : List Wanted) (i : ℕ) → i < length wanted → Next wanted i
next_token [] i h = absurd (omega arith)
next_token (w ∷ wanted) zero h = record { token = units_of w; is = refl }
next_token (w ∷ wanted) (suc i) h = let n = next_token wanted i (omega arith) in record { token = n.token; is = n.is }

this_token : (wanted : List Wanted) (i : ℕ) (w : Wanted) → slice_get wanted i ≡ Some w → drop i (tokens_of wanted) ≡ units_of w ∷ drop (suc i) (tokens_of wanted)
this_token [] i w h = absurd (cc)
this_token (x ∷ wanted) zero w h = let e : x ≡ w = cc in ap (λ (y : Wanted). units_of y ∷ tokens_of wanted) e
this_token (x ∷ wanted) (suc i) w h = this_token wanted i w h

no_tokens : (wanted : List Wanted) (i : ℕ) → length wanted ≤ i → drop i (tokens_of wanted) ≡ []
no_tokens [] zero h = refl
no_tokens [] (suc i) h = refl
no_tokens (w ∷ wanted) zero h = absurd (omega arith)
no_tokens (w ∷ wanted) (suc i) h = no_tokens wanted i (omega arith)

pub read_end : (all : List Met) (wanted : List Wanted) (i : ℕ) (here : Found) → length wanted ≤ i → read_from all (drop i (tokens_of wanted)) i here ≡ Ok here
read_end all wanted i here h = ap (λ (ts : List (List ℕ)). read_from all ts i here) (no_tokens wanted i h)

module _ (all : List Met) (wanted : List Wanted) (i j : ℕ) (here : Found) (m : Met) (low : i < length wanted) (more : j ≡ suc i) (met_is : m ≡ met_at all j) where
  one_step : (token : List ℕ) → drop i (tokens_of wanted) ≡ token ∷ drop (suc i) (tokens_of wanted)
      → read_from all (drop i (tokens_of wanted)) i here ≡ read_met m here.kind token i (read_from all (drop (suc i) (tokens_of wanted)) (suc i))
  one_step token e =
      ap (λ (ts : List (List ℕ)). read_from all ts i here) e
      ∙ ap (λ (x : Met). read_met x here.kind token i (read_from all (drop (suc i) (tokens_of wanted)) (suc i))) (sym (met_is ∙ ap (met_at all) more))

  pub reads_on : (next : Found) → m ≡ met.Once next → read_from all (drop j (tokens_of wanted)) j next ≡ read_from all (drop i (tokens_of wanted)) i here
  reads_on next h =
      let n = next_token wanted i low in
      ap (λ (k : ℕ). read_from all (drop k (tokens_of wanted)) k next) more
      ∙ sym (one_step n.token n.is ∙ ap (λ (x : Met). read_met x here.kind n.token i (read_from all (drop (suc i) (tokens_of wanted)) (suc i))) h)

  pub reads_off : (w : Wanted) → slice_get wanted i ≡ Some w → m ≡ met.Never → Err (missing here.kind (units_of w) i) ≡ read_from all (drop i (tokens_of wanted)) i here
  reads_off w e h =
      sym (one_step (units_of w) (this_token wanted i w e) ∙ ap (λ (x : Met). read_met x here.kind (units_of w) i (read_from all (drop (suc i) (tokens_of wanted)) (suc i))) h)

  pub reads_again : m ≡ met.Again → Err (NameRepeated i) ≡ read_from all (drop i (tokens_of wanted)) i here
  reads_again h =
      let n = next_token wanted i low in
      sym (one_step n.token n.is ∙ ap (λ (x : Met). read_met x here.kind n.token i (read_from all (drop (suc i) (tokens_of wanted)) (suc i))) h)
