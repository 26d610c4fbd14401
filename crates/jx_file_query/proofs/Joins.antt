-- Parts of a text that stand one behind the other: what is told of both is joined of what is told of each.
use Rattle.std.proofs.Common.{◌≡◌, ℕ, List, [], ◌∷◌, ◌++◌, length, refl, sym, ap, ◌∙◌, append_assoc, append-nil, Bool, false}
use Rattle.std.specs.Prelude.{◌||◌}
use Rattle.std.proofs.lemmas.List.{append_cancel_left}
use Rattle.jx_lex.specs.declared.alphabet.mark.Mark.{Mark}
use Rattle.jx_lex.specs.Lex.{Track}
use Rattle.jx_run.specs.declared.texts.settings.FrontMark.{FrontMark}
use Rattle.jx_run.specs.Reader.{read_by}
use Rattle.jx_run.specs.Telling.{moved_ends, moved_marks, tokens_by, track_of}
use Rattle.jx_run.proofs.InTurn.{InPieces, in_turn}
use Rattle.jx_file_index.specs.declared.sum.Sum.{Sum}
use Rattle.jx_file_index.specs.Chunks.{has_some}
use Rattle.jx_file_index.specs.Sums.{joined, nothing, sum_of}
use Rattle.jx_file_index.proofs.Sums.{sums_join}
use Rattle.jx_file_query.proofs.Moved.{same_sum, some_ends_moved, some_moved}
use Rattle.jx_file_query.proofs.Standing.{Goes}

-- ---- marks and ends that are moved

some_either : {A : Type 0} (xs ys : List A) → has_some (xs ++ ys) ≡ (has_some xs || has_some ys)
some_either [] ys = refl
some_either (x ∷ xs) ys = refl

sums_moved : (a b c : ℕ) (all first rest : List Mark) → moved_marks a all ≡ moved_marks b first ++ moved_marks c rest → sum_of all ≡ joined (sum_of first) (sum_of rest)
sums_moved a b c all first rest e =
    sym (same_sum a all nothing) ∙ ap sum_of e ∙ sums_join (moved_marks b first) (moved_marks c rest)
    ∙ ap (λ (s : Sum). joined s (sum_of (moved_marks c rest))) (same_sum b first nothing)
    ∙ ap (joined (sum_of first)) (same_sum c rest nothing)

begins_moved : (a b c : ℕ) (all first rest : List Mark) → moved_marks a all ≡ moved_marks b first ++ moved_marks c rest → has_some all ≡ (has_some first || has_some rest)
begins_moved a b c all first rest e =
    sym (some_moved a all) ∙ ap has_some e ∙ some_either (moved_marks b first) (moved_marks c rest)
    ∙ ap (λ (x : Bool). x || has_some (moved_marks c rest)) (some_moved b first)
    ∙ ap (λ (x : Bool). has_some first || x) (some_moved c rest)

ends_moved : (a b c : ℕ) (all first rest : List ℕ) → moved_ends a all ≡ moved_ends b first ++ moved_ends c rest → has_some all ≡ (has_some first || has_some rest)
ends_moved a b c all first rest e =
    sym (some_ends_moved a all) ∙ ap has_some e ∙ some_either (moved_ends b first) (moved_ends c rest)
    ∙ ap (λ (x : Bool). x || has_some (moved_ends c rest)) (some_ends_moved b first)
    ∙ ap (λ (x : Bool). has_some first || x) (some_ends_moved c rest)

-- ---- parts behind bytes without a fault

-- the tokens of a part behind bytes
abbrev pub behind_bytes : FrontMark → ℕ → List ℕ → List ℕ → Track
behind_bytes m limit xs part = track_of (read_by m limit 0 xs) part

module _ (m : FrontMark) (limit : ℕ) where
  abbrev behind : List ℕ → List ℕ → Track
  behind = behind_bytes m limit

  pub record Join (xs first rest : List ℕ) : Type 0 where
    pub sum : sum_of (behind xs (first ++ rest)).marks ≡ joined (sum_of (behind xs first).marks) (sum_of (behind (xs ++ first) rest).marks)
    pub begins : has_some (behind xs (first ++ rest)).marks ≡ (has_some (behind xs first).marks || has_some (behind (xs ++ first) rest).marks)
    pub ends : has_some (behind xs (first ++ rest)).ends ≡ (has_some (behind xs first).ends || has_some (behind (xs ++ first) rest).ends)

  pub join : InPieces → (xs first rest : List ℕ) → Goes m limit xs → Goes m limit (xs ++ first) → Join xs first rest
  join two xs first rest goes on =
      let a = length xs in
      let b = length (xs ++ first) in
      let all = in_turn two m limit xs (first ++ rest) goes in
      let one = in_turn two m limit xs first goes in
      let next = in_turn two m limit (xs ++ first) rest on in
      let marks : moved_marks a (behind xs (first ++ rest)).marks ≡ moved_marks a (behind xs first).marks ++ moved_marks b (behind (xs ++ first) rest).marks =
      append_cancel_left (tokens_by m xs).marks _ _
      (sym all.marks ∙ ap (λ (ys : List ℕ). (tokens_by m ys).marks) (sym (append_assoc xs first rest)) ∙ next.marks
      ∙ ap (λ (ms : List Mark). ms ++ moved_marks b (behind (xs ++ first) rest).marks) one.marks
      ∙ append_assoc (tokens_by m xs).marks (moved_marks a (behind xs first).marks) (moved_marks b (behind (xs ++ first) rest).marks)) in
      let ends : moved_ends a (behind xs (first ++ rest)).ends ≡ moved_ends a (behind xs first).ends ++ moved_ends b (behind (xs ++ first) rest).ends =
      append_cancel_left (tokens_by m xs).ends _ _
      (sym all.ends ∙ ap (λ (ys : List ℕ). (tokens_by m ys).ends) (sym (append_assoc xs first rest)) ∙ next.ends
      ∙ ap (λ (es : List ℕ). es ++ moved_ends b (behind (xs ++ first) rest).ends) one.ends
      ∙ append_assoc (tokens_by m xs).ends (moved_ends a (behind xs first).ends) (moved_ends b (behind (xs ++ first) rest).ends)) in
      record {
        sum = sums_moved a a b (behind xs (first ++ rest)).marks (behind xs first).marks (behind (xs ++ first) rest).marks marks;
        begins = begins_moved a a b (behind xs (first ++ rest)).marks (behind xs first).marks (behind (xs ++ first) rest).marks marks;
        ends = ends_moved a a b (behind xs (first ++ rest)).ends (behind xs first).ends (behind (xs ++ first) rest).ends ends;
      }

  -- no byte
  pub record Empty (xs : List ℕ) : Type 0 where
    pub sum : sum_of (behind xs []).marks ≡ nothing
    pub begins : has_some (behind xs []).marks ≡ false
    pub ends : has_some (behind xs []).ends ≡ false

  pub empty : InPieces → (xs : List ℕ) → Goes m limit xs → Empty xs
  empty two xs goes =
      let a = length xs in
      let one = in_turn two m limit xs [] goes in
      let marks : moved_marks a (behind xs []).marks ≡ [] =
      append_cancel_left (tokens_by m xs).marks _ _
      (sym one.marks ∙ ap (λ (ys : List ℕ). (tokens_by m ys).marks) (append-nil xs) ∙ sym (append-nil (tokens_by m xs).marks)) in
      let ends : moved_ends a (behind xs []).ends ≡ [] =
      append_cancel_left (tokens_by m xs).ends _ _
      (sym one.ends ∙ ap (λ (ys : List ℕ). (tokens_by m ys).ends) (append-nil xs) ∙ sym (append-nil (tokens_by m xs).ends)) in
      record {
        sum = sym (same_sum a (behind xs []).marks nothing) ∙ ap sum_of marks;
        begins = sym (some_moved a (behind xs []).marks) ∙ ap has_some marks;
        ends = sym (some_ends_moved a (behind xs []).ends) ∙ ap has_some ends;
      }
