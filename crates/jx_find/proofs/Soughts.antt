-- What a seeker that is told the tokens of a slice has sought.
use Rattle.std.proofs.Common.{◌≡◌, ℕ, zero, suc, ◌+◌, ◌-◌, ◌<◌, ◌≤◌, List, [], ◌∷◌, ◌++◌, length, drop, refl, sym, ap, subst, ◌∙◌, append_assoc, append-nil, arith, true, false, inl, inr, Option, None, Some}
use Rattle.std.specs.Prelude.{◌==◌, ◌⊎◌, is_some, slice_range}
use Rattle.jx_lex.specs.declared.alphabet.mark.Mark.{Mark}
use Rattle.jx_lex.specs.declared.alphabet.mark.MarkKind.{MarkKind}
use Rattle.jx_lex.specs.declared.alphabet.mark.MarkKind.TheVariants as mark
use Rattle.jx_run.specs.Telling.{moved_ends, moved_mark, moved_marks}
use Rattle.jx_index.specs.declared.seeker.Seeker.{Seeker}
use Rattle.jx_index.specs.declared.trie.Edge.{Edge}
use Rattle.jx_index.specs.inside.Building.{is_token, next_end, ends_after}
use Rattle.jx_index.specs.inside.Finding.{Finding, naming, nothing_met, skip_over}
use Rattle.jx_index.specs.inside.Found.{finding}
use Rattle.jx_index.specs.inside.Seeking.{IsReady}
use Rattle.jx_index.specs.inside.Trie.{IsTrie, among, is_name_next, seek_all, sought, sought_in}
use Rattle.jx_index.proofs.CutNames.{ends_more, marks_more}
use Rattle.jx_index.proofs.InOrders.{ends_kept, none_begun, one_begun}
use Rattle.jx_index.proofs.Tests.{first_true, same}
use Rattle.jx_find.specs.Held.{Comes}
use Rattle.jx_find.specs.OnSlice.{HasSought, Holds, IsSought}

-- ---- one mark more

pub seek_one : (text : List ℕ) (edges : List Edge) (last : ℕ) (m : Mark) (more : List Mark) (ends : List ℕ) (f : Finding)
    → seek_all text edges last (m ∷ more) ends f ≡ seek_all text edges last more (ends_after m.kind ends) (sought text edges m.kind m.at (next_end last ends) f)
unfolding seek_all
seek_one text edges last m more ends f = refl

seek_none : (text : List ℕ) (edges : List Edge) (last : ℕ) (ends : List ℕ) (f : Finding) → seek_all text edges last [] ends f ≡ f
unfolding seek_all
seek_none text edges last ends f = refl

-- the end of what is no token does not matter
plain_in : (text : List ℕ) (edges : List Edge) (k : MarkKind) (at e e' : ℕ) (f : Finding) (n : ℕ) → is_token k ≡ false → sought_in n text edges k at e f ≡ sought_in n text edges k at e' f
plain_in text edges k at e e' f (suc n) h = refl
plain_in text edges mark.OpenArray at e e' f zero h = refl
plain_in text edges mark.OpenObject at e e' f zero h = refl
plain_in text edges mark.CloseArray at e e' f zero h = refl
plain_in text edges mark.CloseObject at e e' f zero h = refl
plain_in text edges mark.Colon at e e' f zero h = refl
plain_in text edges mark.Comma at e e' f zero h = refl
plain_in text edges mark.String at e e' f zero h = absurd cc
plain_in text edges mark.Number at e e' f zero h = absurd cc
plain_in text edges mark.True at e e' f zero h = absurd cc
plain_in text edges mark.False at e e' f zero h = absurd cc
plain_in text edges mark.Null at e e' f zero h = absurd cc

module _ (text : List ℕ) (edges : List Edge) (marks : List Mark) (ends : List ℕ) (f : Finding) where
  comes_token : (m : Mark) → Comes text edges marks ends f None → Comes text edges (marks ++ m ∷ []) ends f (Some m)
  comes_token m h = λ last more others.
      ap (λ (xs : List Mark). seek_all text edges last xs (ends ++ others) (nothing_met (length edges))) (append_assoc marks (m ∷ []) more)
      ∙ h last (m ∷ more) others

  comes_plain : (m : Mark) (g : Finding) → is_token m.kind ≡ false → g ≡ sought text edges m.kind m.at 0 f → Comes text edges marks ends f None → Comes text edges (marks ++ m ∷ []) ends g None
  comes_plain m g plain is h = λ last more others.
      comes_token m h last more others
      ∙ seek_one text edges last m more others f
      ∙ ap (λ (es : List ℕ). seek_all text edges last more es (sought text edges m.kind m.at (next_end last others) f)) (ends_kept m.kind false others plain)
      ∙ ap (seek_all text edges last more others) (plain_in text edges m.kind m.at (next_end last others) 0 f f.skipped plain ∙ sym is)

  comes_end : (m : Mark) (at : ℕ) (g : Finding) → is_token m.kind ≡ true → g ≡ sought text edges m.kind m.at at f → Comes text edges marks ends f (Some m) → Comes text edges marks (ends ++ at ∷ []) g None
  comes_end m at g token is h = λ last more others.
      ap (λ (es : List ℕ). seek_all text edges last (marks ++ more) es (nothing_met (length edges))) (append_assoc ends (at ∷ []) others)
      ∙ h last more (at ∷ others)
      ∙ seek_one text edges last m more (at ∷ others) f
      ∙ ap (λ (es : List ℕ). seek_all text edges last more es (sought text edges m.kind m.at at f)) (ends_kept m.kind true (at ∷ others) token)
      ∙ ap (seek_all text edges last more others) (sym is)

  -- the whole text
  pub comes_all : (last : ℕ) → Comes text edges marks ends f None → (seek_all text edges last marks ends (nothing_met (length edges))) ≡ f
  comes_all last h =
      ap (λ (xs : List Mark). seek_all text edges last xs ends (nothing_met (length edges))) (sym (append-nil marks))
      ∙ ap (λ (es : List ℕ). seek_all text edges last (marks ++ []) es (nothing_met (length edges))) (sym (append-nil ends))
      ∙ h last [] []
      ∙ seek_none text edges last [] f

  pub comes_last : (m : Mark) (last : ℕ) → Comes text edges marks ends f (Some m) → (seek_all text edges last marks ends (nothing_met (length edges))) ≡ sought text edges m.kind m.at last f
  comes_last m last h =
      ap (λ (xs : List Mark). seek_all text edges last xs ends (nothing_met (length edges))) (sym (append-nil marks))
      ∙ ap (λ (es : List ℕ). seek_all text edges last (marks ++ []) es (nothing_met (length edges))) (sym (append-nil ends))
      ∙ h last [] []
      ∙ seek_one text edges last m [] [] f
      ∙ seek_none text edges last (ends_after m.kind []) (sought text edges m.kind m.at last f)

-- ---- what is sought of a slice

module _ (before slice : List ℕ) (edges : List Edge) (marks : List Mark) (ends : List ℕ) (k : Seeker) where
  sought_token : (m : Mark) (name : List ℕ) → is_token m.kind ≡ true → length before ≤ m.at → IsSought before slice edges marks ends k None name
      → IsSought before slice edges (marks ++ m ∷ []) ends k (Some m) name
  sought_token m name token late h = record {
    trie = h.trie;
    ready = h.ready;
    comes = λ future. comes_token ((before ++ slice) ++ future) edges marks ends (finding k.state) m (h.comes future);
    token = one_begun m token;
    name_is = λ n e next low. let same : m ≡ n = cc in absurd (omega (arith, late, low, ap (λ (x : Mark). x.at) same));
  }

  pub sought_plain : (m : Mark) (next : Seeker) (name : List ℕ) → is_token m.kind ≡ false
      → ((text : List ℕ) → finding next.state ≡ sought text edges m.kind m.at 0 (finding k.state)) → IsReady edges next → IsSought before slice edges marks ends k None name
      → IsSought before slice edges (marks ++ m ∷ []) ends next None name
  sought_plain m next name plain is ready h = record {
    trie = h.trie;
    ready = ready;
    comes = λ future. comes_plain ((before ++ slice) ++ future) edges marks ends (finding k.state) m (finding next.state) plain (is ((before ++ slice) ++ future)) (h.comes future);
    token = none_begun;
    name_is = λ n e f low. absurd cc;
  }

  pub sought_end : (m : Mark) (at : ℕ) (next : Seeker) (name after : List ℕ)
      → ((future : List ℕ) → finding next.state ≡ sought ((before ++ slice) ++ future) edges m.kind m.at at (finding k.state)) → IsReady edges next
      → IsSought before slice edges marks ends k (Some m) name → IsSought before slice edges marks (ends ++ at ∷ []) next None after
  sought_end m at next name after is ready h = record {
    trie = h.trie;
    ready = ready;
    comes = λ future. comes_end ((before ++ slice) ++ future) edges marks ends (finding k.state) m at (finding next.state) (h.token m refl) (is future) (h.comes future);
    token = none_begun;
    name_is = λ n e f low. absurd cc;
  }

-- ---- whatever was held at the slice's start

-- what a seeker that is told a mark has sought
pub record Tells (edges : List Edge) (kind : MarkKind) (at end : ℕ) (name : List ℕ) (k next : Seeker) : Type 0 where
  pub noted : IsTrie edges → IsReady edges k → (text : List ℕ) → (is_name_next kind (finding k.state) ≡ true → slice_range text at end ≡ name)
      → finding next.state ≡ sought text edges kind at end (finding k.state)
  pub ready : IsTrie edges → IsReady edges k → IsReady edges next

plain_no_name : (k : MarkKind) (f : Finding) → is_token k ≡ false → is_name_next k f ≡ true → ⊥
plain_no_name mark.String f h n = cc
plain_no_name mark.OpenArray f h n = cc
plain_no_name mark.OpenObject f h n = cc
plain_no_name mark.CloseArray f h n = cc
plain_no_name mark.CloseObject f h n = cc
plain_no_name mark.Colon f h n = cc
plain_no_name mark.Comma f h n = cc
plain_no_name mark.Number f h n = cc
plain_no_name mark.True f h n = cc
plain_no_name mark.False f h n = cc
plain_no_name mark.Null f h n = cc

module _ (held : Holds) (slice : List ℕ) (edges : List Edge) (marks : List Mark) (ends : List ℕ) (own : List ℕ) (base : ℕ) (own_edges : List Edge) (k : Seeker) where
  pub has_token : (m : Mark) (at : ℕ) (begun : Option Mark) (name : List ℕ) → at ≡ base + m.at → is_token m.kind ≡ true → begun ≡ None
      → HasSought held slice edges marks ends own base own_edges k begun name
      → HasSought held slice edges (marks ++ m ∷ []) ends own base own_edges k (Some (record { kind = m.kind; at = at })) name
  has_token m at begun name moved token none h = record {
    slice_is = h.slice_is;
    edges_are = h.edges_are;
    base_is = h.base_is;
    sought = λ before ms es was.
        let b = h.base_is before ms es was in
        let n : Mark = moved_mark base m in
        let same : n ≡ record { kind = m.kind; at = at } = ap (λ (i : ℕ). record { kind = m.kind; at = i }) (sym moved) in
        let s = subst (λ (o : Option Mark). IsSought before slice edges (ms ++ moved_marks base marks) (es ++ moved_ends base ends) k o name) none (h.sought before ms es was) in
        subst (λ (xs : List Mark). IsSought before slice edges xs (es ++ moved_ends base ends) k (Some (record { kind = m.kind; at = at })) name) (sym (marks_more base ms marks m))
        (subst (λ (x : Mark). IsSought before slice edges ((ms ++ moved_marks base marks) ++ n ∷ []) (es ++ moved_ends base ends) k (Some x) name) same
        (sought_token before slice edges (ms ++ moved_marks base marks) (es ++ moved_ends base ends) k n name token (omega (arith, b)) s));
  }

  pub has_plain : (m : Mark) (at : ℕ) (next : Seeker) (begun : Option Mark) (name : List ℕ) → at ≡ base + m.at → is_token m.kind ≡ false → begun ≡ None → Tells own_edges m.kind at 0 [] k next
      → HasSought held slice edges marks ends own base own_edges k begun name
      → HasSought held slice edges (marks ++ m ∷ []) ends own base own_edges next begun name
  has_plain m at next begun name moved plain none tells h = record {
    slice_is = h.slice_is;
    edges_are = h.edges_are;
    base_is = h.base_is;
    sought = λ before ms es was.
        let n : Mark = moved_mark base m in
        let s = subst (λ (o : Option Mark). IsSought before slice edges (ms ++ moved_marks base marks) (es ++ moved_ends base ends) k o name) none (h.sought before ms es was) in
        let t : Tells edges m.kind (base + m.at) 0 [] k next = subst (λ (i : ℕ). Tells edges m.kind i 0 [] k next) moved (subst (λ (xs : List Edge). Tells xs m.kind at 0 [] k next) h.edges_are tells) in
        subst (λ (o : Option Mark). IsSought before slice edges (ms ++ moved_marks base (marks ++ m ∷ [])) (es ++ moved_ends base ends) next o name) (sym none)
        (subst (λ (xs : List Mark). IsSought before slice edges xs (es ++ moved_ends base ends) next None name) (sym (marks_more base ms marks m))
        (sought_plain before slice edges (ms ++ moved_marks base marks) (es ++ moved_ends base ends) k n next name plain
        (λ text. t.noted s.trie s.ready text (λ e. absurd (plain_no_name m.kind (finding k.state) plain e))) (t.ready s.trie s.ready) s));
  }

  pub has_end : (m : Mark) (at end : ℕ) (next : Seeker) (begun : Option Mark) (name after told : List ℕ) → end ≡ base + at → begun ≡ Some m → Tells own_edges m.kind m.at end told k next
      → (is_name_next m.kind (finding k.state) ≡ true → (before future : List ℕ) → base ≡ length before → (m.at < base → name ≡ drop m.at before) → told ≡ slice_range ((before ++ own) ++ future) m.at (base + at))
      → HasSought held slice edges marks ends own base own_edges k begun name
      → HasSought held slice edges marks (ends ++ at ∷ []) own base own_edges next None after
  has_end m at end next begun name after told moved some tells named h = record {
    slice_is = h.slice_is;
    edges_are = h.edges_are;
    base_is = h.base_is;
    sought = λ before ms es was.
        let b = h.base_is before ms es was in
        let s = subst (λ (o : Option Mark). IsSought before slice edges (ms ++ moved_marks base marks) (es ++ moved_ends base ends) k o name) some (h.sought before ms es was) in
        let t : Tells edges m.kind m.at end told k next = subst (λ (xs : List Edge). Tells xs m.kind m.at end told k next) h.edges_are tells in
        subst (λ (xs : List ℕ). IsSought before slice edges (ms ++ moved_marks base marks) xs next None after) (sym (ends_more base es ends at))
        (subst (λ (i : ℕ). IsSought before slice edges (ms ++ moved_marks base marks) ((es ++ moved_ends base ends) ++ i ∷ []) next None after) moved
        (sought_end before slice edges (ms ++ moved_marks base marks) (es ++ moved_ends base ends) k m end next name after
        (λ future. t.noted s.trie s.ready ((before ++ slice) ++ future)
        (λ e.
        ap (slice_range ((before ++ slice) ++ future) m.at) moved
        ∙ ap (λ (xs : List ℕ). slice_range ((before ++ xs) ++ future) m.at (base + at)) (sym h.slice_is)
        ∙ sym (named e before future b (λ low. s.name_is m refl e (subst (λ (i : ℕ). m.at < i) b low)))))
        (t.ready s.trie s.ready) s));
  }

-- ---- whole tokens, and marks that change little

module _ (held : Holds) (slice : List ℕ) (edges : List Edge) (marks : List Mark) (ends : List ℕ) (own : List ℕ) (base : ℕ) (own_edges : List Edge) (k : Seeker) where
  -- a mark, and at once the end that belongs to it
  pub has_whole : (m : Mark) (at end to : ℕ) (next : Seeker) (begun : Option Mark) (name after told : List ℕ) → at ≡ base + m.at → end ≡ base + to → is_token m.kind ≡ true → begun ≡ None
      → Tells own_edges m.kind at end told k next
      → (is_name_next m.kind (finding k.state) ≡ true → (before future : List ℕ) → base ≡ length before → (at < base → name ≡ drop at before) → told ≡ slice_range ((before ++ own) ++ future) at (base + to))
      → HasSought held slice edges marks ends own base own_edges k begun name
      → HasSought held slice edges (marks ++ m ∷ []) (ends ++ to ∷ []) own base own_edges next begun after
  has_whole m at end to next begun name after told moved far token none tells named h =
      subst (λ (o : Option Mark). HasSought held slice edges (marks ++ m ∷ []) (ends ++ to ∷ []) own base own_edges next o after) (sym none)
      (has_end held slice edges (marks ++ m ∷ []) ends own base own_edges k (record { kind = m.kind; at = at }) to end next (Some (record { kind = m.kind; at = at })) name after told far refl tells named
      (has_token held slice edges marks ends own base own_edges k m at begun name moved token none h))

-- a comma or a colon
abbrev pub Separates : MarkKind → Type 0
Separates k = (k ≡ mark.Comma) ⊎ (k ≡ mark.Colon)

pub separator_plain : (k : MarkKind) → Separates k → is_token k ≡ false
separator_plain k (inl h) = ap is_token h
separator_plain k (inr h) = ap is_token h

-- where something is skipped, no token changes how much is
skips_as_many : (k : MarkKind) (n : ℕ) → is_token k ≡ true → skip_over k n ≡ suc n
skips_as_many mark.String n h = refl
skips_as_many mark.Number n h = refl
skips_as_many mark.True n h = refl
skips_as_many mark.False n h = refl
skips_as_many mark.Null n h = refl
skips_as_many mark.OpenArray n h = absurd cc
skips_as_many mark.OpenObject n h = absurd cc
skips_as_many mark.CloseArray n h = absurd cc
skips_as_many mark.CloseObject n h = absurd cc
skips_as_many mark.Colon n h = absurd cc
skips_as_many mark.Comma n h = absurd cc

module _ (text : List ℕ) (edges : List Edge) (k : MarkKind) (at end : ℕ) (f : Finding) where
  pub skipped_in : (n : ℕ) → f.skipped ≡ suc n → sought text edges k at end f ≡ record f { skipped = skip_over k n }
  skipped_in n e = ap (λ (i : ℕ). sought_in i text edges k at end f) e

  -- a mark that changes nothing, whether something is skipped or not
  stays : ((n : ℕ) → skip_over k n ≡ suc n) → (f.skipped ≡ 0 → f ≡ among text edges k at end f) → f ≡ sought text edges k at end f
  stays as_many here = pick f.skipped refl
    where
      pick : (n : ℕ) → f.skipped ≡ n → f ≡ sought text edges k at end f
      pick zero e = here e ∙ sym (ap (λ (i : ℕ). sought_in i text edges k at end f) e)
      pick (suc n) e = ap (λ (i : ℕ). record f { skipped = i }) (e ∙ sym (as_many n)) ∙ sym (skipped_in n e)

  separator_stays : Separates k → f ≡ sought text edges k at end f
  separator_stays (inl h) = stays (λ n. ap (λ (x : MarkKind). skip_over x n) h) (λ e. sym (ap (λ (x : MarkKind). among text edges x at end f) h))
  separator_stays (inr h) = stays (λ n. ap (λ (x : MarkKind). skip_over x n) h) (λ e. sym (ap (λ (x : MarkKind). among text edges x at end f) h))

  -- a string, a number or a literal where something is skipped
  token_stays : is_token k ≡ true → 0 < f.skipped → f ≡ sought text edges k at end f
  token_stays token some = stays (λ n. skips_as_many k n token) (λ e. absurd (omega (arith, some, e)))

pub separator_tells : (edges : List Edge) (kind : MarkKind) (at end : ℕ) (name : List ℕ) (k : Seeker) → Separates kind → Tells edges kind at end name k k
separator_tells edges kind at end name k h = record {
  noted = λ trie ready text named. separator_stays text edges kind at end (finding k.state) h;
  ready = λ trie ready. ready;
}

pub token_tells : (edges : List Edge) (kind : MarkKind) (at end : ℕ) (name : List ℕ) (k : Seeker) → is_token kind ≡ true → 0 < k.state.skipped → Tells edges kind at end name k k
token_tells edges kind at end name k token some = record {
  noted = λ trie ready text named. token_stays text edges kind at end (finding k.state) token some;
  ready = λ trie ready. ready;
}

-- a name, where one comes next
pub name_tells : (edges : List Edge) (kind : MarkKind) (at end : ℕ) (name : List ℕ) (k next : Seeker) → is_name_next kind (finding k.state) ≡ true
    → (IsTrie edges → (text : List ℕ) (from to : ℕ) → slice_range text from to ≡ name → finding next.state ≡ sought text edges mark.String from to (finding k.state))
    → (IsReady edges k → IsReady edges next) → Tells edges kind at end name k next
name_tells edges mark.String at end name k next is noted ready = record {
  noted = λ trie was text named. noted trie text at end (named is);
  ready = λ trie was. ready was;
}
name_tells edges mark.OpenArray at end name k next is noted ready = absurd cc
name_tells edges mark.OpenObject at end name k next is noted ready = absurd cc
name_tells edges mark.CloseArray at end name k next is noted ready = absurd cc
name_tells edges mark.CloseObject at end name k next is noted ready = absurd cc
name_tells edges mark.Colon at end name k next is noted ready = absurd cc
name_tells edges mark.Comma at end name k next is noted ready = absurd cc
name_tells edges mark.Number at end name k next is noted ready = absurd cc
name_tells edges mark.True at end name k next is noted ready = absurd cc
name_tells edges mark.False at end name k next is noted ready = absurd cc
name_tells edges mark.Null at end name k next is noted ready = absurd cc

-- a mark where something is skipped
pub skip_tells : (edges : List Edge) (kind : MarkKind) (at end : ℕ) (name : List ℕ) (k : Seeker) (more : ℕ) → 0 < k.state.skipped → more ≡ skip_over kind (k.state.skipped - 1)
    → Tells edges kind at end name k (record k { state = record k.state { skipped = more } })
skip_tells edges kind at end name k more some is = record {
  noted = λ trie ready text named. skipped_more text (finding k.state).skipped refl;
  ready = λ trie ready. ready;
}
  where
    skipped_more : (text : List ℕ) (n : ℕ) → k.state.skipped ≡ n → finding (record k.state { skipped = more }) ≡ sought text edges kind at end (finding k.state)
    skipped_more text zero e = absurd (omega (arith, some, e))
    skipped_more text (suc n) e =
        ap (λ (i : ℕ). record (finding k.state) { skipped = i }) (is ∙ ap (skip_over kind) (let one : k.state.skipped - 1 ≡ n = omega (arith, e) in one))
        ∙ sym (skipped_in text edges kind at end (finding k.state) n e)

-- no token that is skipped is a name
pub skipped_no_name : (kind : MarkKind) (f : Finding) → 0 < f.skipped → is_name_next kind f ≡ true → ⊥
skipped_no_name mark.String f some h = let none : f.skipped ≡ 0 = same f.skipped 0 (first_true (f.skipped == 0) (is_some (naming f.opened f.name)) h) in absurd (omega (arith, some, none))
skipped_no_name mark.OpenArray f some h = cc
skipped_no_name mark.OpenObject f some h = cc
skipped_no_name mark.CloseArray f some h = cc
skipped_no_name mark.CloseObject f some h = cc
skipped_no_name mark.Colon f some h = cc
skipped_no_name mark.Comma f some h = cc
skipped_no_name mark.Number f some h = cc
skipped_no_name mark.True f some h = cc
skipped_no_name mark.False f some h = cc
skipped_no_name mark.Null f some h = cc
