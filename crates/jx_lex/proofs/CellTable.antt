-- The table of cells is the lexical machine: the cell of a class and a state says what the machine does there.
use Rattle.std.proofs.Common.{◌≡◌, ℕ, List, map, get_or, refl, sym, ap, ◌∙◌}
use Rattle.std.proofs.Math.ListN.{get_or-map}
use denote.Enum.Declared.{tag_of}
use Rattle.jx_lex.specs.contracts.alphabet.class.Class as class_type
use Rattle.jx_lex.specs.contracts.alphabet.state.LexState as state_type
use Rattle.jx_lex.specs.declared.alphabet.class.Class.{Class}
use Rattle.jx_lex.specs.declared.alphabet.class.Class.TheVariants as class
use Rattle.jx_lex.specs.declared.alphabet.state.LexState.{LexState}
use Rattle.jx_lex.specs.declared.alphabet.state.LexState.TheVariants as state
use Rattle.jx_lex.specs.declared.alphabet.cell.Cell.{Cell}
use Rattle.jx_lex.specs.declared.alphabet.cells.TheConstants.{CELLS}
use Rattle.jx_lex.specs.inside.Cells.{step_of}
use Rattle.jx_lex.specs.Classes.{all_classes, class_at}
use Rattle.jx_lex.specs.Moves.{row, move, as_gap}
use Rattle.jx_lex.specs.Ordinal.{all_states}

-- the machine as a table: a row for each class, with a step for each state
table_is : map (map step_of) CELLS ≡ map (λ c. map (λ s. row s c) all_states) all_classes
unfolding as_gap
table_is = refl

at_class : {X : Type 0} (f : Class → X) (c : Class) (d : X) → get_or (map f all_classes) (tag_of class_type.the_type c) d ≡ f c
at_class f c d = elim c as (λ c. get_or (map f all_classes) (tag_of class_type.the_type c) d ≡ f c) [ class.Ctl ↦ refl | class.Blank ↦ refl | class.Space ↦ refl | class.Quote ↦ refl | class.Plus ↦ refl | class.Comma ↦ refl | class.Minus ↦ refl | class.Dot ↦ refl | class.Slash ↦ refl | class.Zero ↦ refl | class.Digit ↦ refl | class.Colon ↦ refl | class.UpHex ↦ refl | class.UpE ↦ refl | class.OpenArray ↦ refl | class.Backslash ↦ refl | class.CloseArray ↦ refl | class.LowA ↦ refl | class.LowB ↦ refl | class.LowCD ↦ refl | class.LowE ↦ refl | class.LowF ↦ refl | class.LowL ↦ refl | class.LowN ↦ refl | class.LowR ↦ refl | class.LowS ↦ refl | class.LowT ↦ refl | class.LowU ↦ refl | class.OpenObject ↦ refl | class.CloseObject ↦ refl | class.TailA ↦ refl | class.TailB ↦ refl | class.TailC ↦ refl | class.Lead2 ↦ refl | class.LeadE0 ↦ refl | class.Lead3 ↦ refl | class.LeadEd ↦ refl | class.LeadF0 ↦ refl | class.Lead4 ↦ refl | class.LeadF4 ↦ refl | class.Bad ↦ refl | class.Plain ↦ refl ]

at_state : {X : Type 0} (f : LexState → X) (s : LexState) (d : X) → get_or (map f all_states) (tag_of state_type.the_type s) d ≡ f s
at_state f s d = elim s as (λ s. get_or (map f all_states) (tag_of state_type.the_type s) d ≡ f s) [ state.Gap ↦ refl | state.Str ↦ refl | state.Esc ↦ refl | state.Hex4 ↦ refl | state.Hex3 ↦ refl | state.Hex2 ↦ refl | state.Hex1 ↦ refl | state.Tail1 ↦ refl | state.Tail2 ↦ refl | state.Tail3 ↦ refl | state.AfterE0 ↦ refl | state.AfterEd ↦ refl | state.AfterF0 ↦ refl | state.AfterF4 ↦ refl | state.Minus ↦ refl | state.Zero ↦ refl | state.Int ↦ refl | state.Dot ↦ refl | state.Frac ↦ refl | state.E ↦ refl | state.ESign ↦ refl | state.Exp ↦ refl | state.T ↦ refl | state.Tr ↦ refl | state.Tru ↦ refl | state.F ↦ refl | state.Fa ↦ refl | state.Fal ↦ refl | state.Fals ↦ refl | state.N ↦ refl | state.Nu ↦ refl | state.Nul ↦ refl ]

-- the cell of a class and a state
pub cell_is : (s : LexState) (c : Class) (e : List Cell) (d : Cell)
    → step_of (get_or (get_or CELLS (tag_of class_type.the_type c) e) (tag_of state_type.the_type s) d) ≡ row s c
cell_is s c e d =
    let i : ℕ = tag_of class_type.the_type c in
    let j : ℕ = tag_of state_type.the_type s in
    sym (get_or-map step_of (get_or CELLS i e) j d)
    ∙ ap (λ r. get_or r j (step_of d)) (sym (get_or-map (map step_of) CELLS i e))
    ∙ ap (λ t. get_or (get_or t i (map step_of e)) j (step_of d)) table_is
    ∙ ap (λ r. get_or r j (step_of d)) (at_class (λ c. map (λ s. row s c) all_states) c (map step_of e))
    ∙ at_state (λ s. row s c) s (step_of d)

pub cell_moves : (s : LexState) (byte : ℕ) (c : Class) (e : List Cell) (d : Cell) → c ≡ class_at byte
    → step_of (get_or (get_or CELLS (tag_of class_type.the_type c) e) (tag_of state_type.the_type s) d) ≡ move s byte
cell_moves s byte c e d is = cell_is s c e d ∙ ap (row s) is
