-- One token of the look-up over rows.
use Rattle.std.proofs.Common.{◌≡◌, ℕ, suc, ◌+◌, ◌<◌, ◌≤◌, List, ◌∷◌, length, take, drop, refl, sym, ap, ◌∙◌, arith, Result, Ok, Err}
use Rattle.jx_index.specs.declared.find_fault.FindFault.{FindFault}
use Rattle.jx_index.specs.declared.row.Row.{Row}
use Rattle.jx_index.specs.declared.units.Spelling.TheVariants.{InToken}
use Rattle.jx_index.specs.Leads.{and_then}
use Rattle.jx_index.specs.Nodes.{kind_at, child_numbers}
use Rattle.jx_index.specs.Pointers.{HasSlash, HasNoSlash, tokens}
use Rattle.jx_index.specs.RowsLead.{is_equal, row_token, rows_lead}
use Rattle.jx_index.specs.Units.{chars_units}
use Rattle.jx_index.proofs.Bridge.{children_within}
use Rattle.jx_index.proofs.Each.{AtOk, each_more, token_each}
use Rattle.jx_index.proofs.TokenSteps.{tokens_next, tokens_end}

module _ (text : List ℕ) (rows : List Row) where
  pub first_token : (token : List ℕ) (later : List (List ℕ)) (node k : ℕ) → rows_lead text rows (token ∷ later) node k ≡ and_then (row_token text rows token node k) (λ n. rows_lead text rows later n (suc k))
  unfolding rows_lead
  first_token token later node k = refl

  pub no_token : (rest : List ℕ) (node k : ℕ) → length rest ≤ 0 → rows_lead text rows (tokens rest) node k ≡ Ok node
  unfolding rows_lead
  no_token rest node k h = ap (λ x. rows_lead text rows x node k) (tokens_end rest h)

  module _ (rest bytes token later : List ℕ) (n node k : ℕ) (here : 0 < length rest) (slash : HasSlash rest) (from : bytes ≡ drop 1 rest)
      (slashless : HasNoSlash (take n bytes)) (next : HasSlash (drop n bytes)) (token_is : token ≡ take n bytes) (later_is : later ≡ drop n bytes) (units : List ℕ) (units_are : units ≡ chars_units InToken 0 token) where
    one_token_more : rows_lead text rows (tokens rest) node k ≡ and_then (row_token text rows units node k) (λ m. rows_lead text rows (tokens later) m (suc k))
    one_token_more =
        ap (λ x. rows_lead text rows x node k) (tokens_next rest bytes n here slash from slashless next)
        ∙ first_token (chars_units InToken 0 (take n bytes)) (tokens (drop n bytes)) node k
        ∙ ap (λ x. and_then (row_token text rows (chars_units InToken 0 x) node k) (λ m. rows_lead text rows (tokens (drop n bytes)) m (suc k))) (sym token_is)
        ∙ ap (λ x. and_then (row_token text rows x node k) (λ m. rows_lead text rows (tokens (drop n bytes)) m (suc k))) (sym units_are)
        ∙ ap (λ x. and_then (row_token text rows units node k) (λ m. rows_lead text rows (tokens x) m (suc k))) (sym later_is)

    -- the token leads on
    pub step_on : (m : ℕ) → Ok m ≡ row_token text rows units node k → rows_lead text rows (tokens later) m (k + 1) ≡ rows_lead text rows (tokens rest) node k
    step_on m e =
        ap (rows_lead text rows (tokens later) m) (let s : k + 1 ≡ suc k = omega arith in s)
        ∙ ap (λ r. and_then r (λ x. rows_lead text rows (tokens later) x (suc k))) e
        ∙ sym one_token_more

    -- the token leads nowhere
    pub step_off : (fault : FindFault) → Err fault ≡ row_token text rows units node k → Err fault ≡ rows_lead text rows (tokens rest) node k
    step_off fault e =
        ap (λ r. and_then r (λ x. rows_lead text rows (tokens later) x (suc k))) e ∙ sym one_token_more

  -- it leads to a row
  row_of_ok : (r : Result ℕ FindFault) → AtOk (λ m. m < length rows) r → (m : ℕ) → Ok m ≡ r → m < length rows
  row_of_ok (Ok x) h m e = let same : m ≡ x = cc in omega arith
  row_of_ok (Err fault) h m e = absurd (cc)

  pub leads_to_row : (units : List ℕ) (node k m : ℕ) → Ok m ≡ row_token text rows units node k → m < length rows
  leads_to_row units node k m e =
      row_of_ok (row_token text rows units node k)
      (token_each (λ x. x < length rows) (is_equal text rows units) units (kind_at rows node) (child_numbers rows node) k
      (each_more (λ x h. omega arith) (child_numbers rows node) (children_within node 0 rows))) m e
