-- Parts that are made line by line, and taken turn by turn.
use Rattle.std.proofs.Common.{◌≡◌, ℕ, suc, ◌+◌, ◌<◌, ◌≤◌, List, [], ◌∷◌, ◌++◌, length, drop, get_or, refl, sym, ap, subst, ◌∙◌, append_assoc, append-nil, arith}
use Rattle.std.proofs.lemmas.List.{drop_more}
use Rattle.std.proofs.Math.ListN.{drop_of_length-le}
use Rattle.jx_ndjson.specs.inside.Steps.{HasNoLineFeed}
use Rattle.jx_line_values.specs.declared.rows_part.RowsPart.{RowsPart}
use Rattle.jx_line_values.specs.declared.rows_part.Turn.{Turn}
use Rattle.jx_line_values.specs.declared.task.LineValuesTask.{LineValuesTask}
use Rattle.jx_line_values.specs.inside.Cutting.{CutterValue, HasTaken}
use Rattle.jx_line_values.specs.inside.RowsPart.{ArePlain, AreTurns, IsPlainLine, IsRowsPart, IsTakenTo, IsTurn, nothing, one_more}

module _ (task : LineValuesTask) where
  -- ---- a part is made

  plain_by : (bytes : List ℕ) (m n : ℕ) (rows more : List ℕ) → m ≡ n → rows ≡ more → ArePlain task bytes n more → ArePlain task bytes m rows
  plain_by bytes m n rows more e f h = subst (λ (k : ℕ). ArePlain task bytes k rows) (sym e) (subst (λ (l : List ℕ). ArePlain task bytes n l) (sym f) h)

  pub none_made : (p : RowsPart) → p.turns.items ≡ [] → p.count ≡ 0 → p.rows.items ≡ [] → IsRowsPart task [] p
  none_made p turns count rows = record {
    front = [];
    plain = [];
    turns = subst (λ (ts : List Turn). AreTurns task [] ts) (sym turns) refl;
    are_plain = plain_by [] p.count 0 p.rows.items [] count rows nothing;
    bytes_are = refl;
  }

  pub row_made : (bytes bare row : List ℕ) (old new : RowsPart) → IsRowsPart task bytes old → HasNoLineFeed bare → IsPlainLine task bare row → new.turns.items ≡ old.turns.items
      → new.count ≡ suc old.count → new.rows.items ≡ old.rows.items ++ row → IsRowsPart task ((bytes ++ bare) ++ 0x0a ∷ []) new
  row_made bytes bare row old new h unfed plain turns count rows = record {
    front = h.front;
    plain = (h.plain ++ bare) ++ 0x0a ∷ [];
    turns = subst (λ (ts : List Turn). AreTurns task h.front ts) (sym turns) h.turns;
    are_plain = plain_by ((h.plain ++ bare) ++ 0x0a ∷ []) new.count (suc old.count) new.rows.items (old.rows.items ++ row) count rows (one_more h.plain bare old.rows.items row old.count h.are_plain unfed plain);
    bytes_are =
        ap (λ (l : List ℕ). (l ++ bare) ++ 0x0a ∷ []) h.bytes_are
        ∙ ap (λ (l : List ℕ). l ++ 0x0a ∷ []) (append_assoc h.front h.plain bare)
        ∙ append_assoc h.front (h.plain ++ bare) (0x0a ∷ []);
  }

  turn_behind : (front mine : List ℕ) (turns : List Turn) (turn : Turn) → AreTurns task front turns → IsTurn task mine turn → AreTurns task (front ++ mine) (turns ++ turn ∷ [])
  turn_behind front mine [] turn h t = (mine, [], ap (λ (l : List ℕ). l ++ mine) h ∙ sym (append-nil mine), t, refl)
  turn_behind front mine (u ∷ turns) turn h t = (h.0, h.1 ++ mine, ap (λ (l : List ℕ). l ++ mine) h.2 ∙ append_assoc h.0 h.1 mine, h.3, turn_behind h.1 mine turns turn h.4 t)

  pub turn_made : (before bytes : List ℕ) (old new : RowsPart) (turn : Turn) → IsRowsPart task before old → turn.count ≡ old.count → turn.rows.items ≡ old.rows.items → turn.line.items ≡ bytes
      → new.turns.items ≡ old.turns.items ++ turn ∷ [] → new.count ≡ 0 → new.rows.items ≡ [] → IsRowsPart task (before ++ bytes) new
  turn_made before bytes old new turn h count rows line turns none_count none_rows =
      let mine : List ℕ = h.plain ++ bytes in
      let t : IsTurn task mine turn = record { plain = h.plain; are_plain = plain_by h.plain turn.count old.count turn.rows.items old.rows.items count rows h.are_plain; bytes_are = ap (λ (l : List ℕ). h.plain ++ l) (sym line) } in
      record {
        front = h.front ++ mine;
        plain = [];
        turns = subst (λ (ts : List Turn). AreTurns task (h.front ++ mine) ts) (sym turns) (turn_behind h.front mine old.turns.items turn h.turns t);
        are_plain = plain_by [] new.count 0 new.rows.items [] none_count none_rows nothing;
        bytes_are = ap (λ (l : List ℕ). l ++ bytes) h.bytes_are ∙ append_assoc h.front h.plain bytes ∙ sym (append-nil (h.front ++ mine));
      }

  -- ---- a part is taken

  pub none_taken : (bytes front given said : List ℕ) (turns : List Turn) (t : CutterValue) → HasTaken task bytes given said t → AreTurns task front turns → IsTakenTo task bytes front given said turns t
  none_taken bytes front given said turns t h ts =
      record { done = []; rest = front; both = refl; taken = subst (λ (l : List ℕ). HasTaken task l given said t) (sym (append-nil bytes)) h; left = ts }

  pub one_taken : (bytes front given said : List ℕ) (turns : List Turn) (i : ℕ) (turn d : Turn) (old new : CutterValue) → i < length turns → turn ≡ get_or turns i d
      → IsTakenTo task bytes front given said (drop i turns) old
      → ((before mine : List ℕ) → IsTurn task mine turn → HasTaken task before given said old → HasTaken task (before ++ mine) given said new)
      → IsTakenTo task bytes front given said (drop (i + 1) turns) new
  one_taken bytes front given said turns i turn d old new low is h takes =
      let left : AreTurns task h.rest (turn ∷ drop (i + 1) turns) =
      subst (λ (u : Turn). AreTurns task h.rest (u ∷ drop (i + 1) turns)) (sym is) (subst (λ (ts : List Turn). AreTurns task h.rest ts) (drop_more turns i d low) h.left) in
      record {
        done = h.done ++ left.0;
        rest = left.1;
        both = h.both ∙ ap (λ (l : List ℕ). h.done ++ l) left.2 ∙ sym (append_assoc h.done left.0 left.1);
        taken = subst (λ (l : List ℕ). HasTaken task l given said new) (append_assoc bytes h.done left.0) (takes (bytes ++ h.done) left.0 left.3 h.taken);
        left = left.4;
      }

  pub all_taken : (bytes front given said : List ℕ) (turns : List Turn) (i : ℕ) (t : CutterValue) → length turns ≤ i → IsTakenTo task bytes front given said (drop i turns) t
      → HasTaken task (bytes ++ front) given said t
  all_taken bytes front given said turns i t high h =
      let none : h.rest ≡ [] = subst (λ (ts : List Turn). AreTurns task h.rest ts) (drop_of_length-le turns high) h.left in
      subst (λ (l : List ℕ). HasTaken task (bytes ++ l) given said t) (sym (h.both ∙ ap (λ (l : List ℕ). h.done ++ l) none ∙ append-nil h.done)) h.taken
