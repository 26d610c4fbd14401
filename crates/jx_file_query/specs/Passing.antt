-- When a part of a text can be skipped by a look-up, and the state then.
use Rattle.std.specs.Prelude.{◌≡◌, ℕ, suc, zero, ◌+◌, ◌-◌, ◌<◌, ◌≤◌, List, ◌∷◌, ◌++◌, Bool, true, false, Option, None}
use Rattle.jx_lex.specs.declared.alphabet.mark.Mark.{Mark}
use Rattle.jx_lex.specs.declared.alphabet.state.LexState.{LexState}
use Rattle.jx_lex.specs.Lex.{LexExit, Track}
use Rattle.jx_lex.specs.Lex as lexical
use Rattle.jx_lex.specs.TokenStates.{in_token}
use Rattle.jx_reduce.specs.declared.table.expect.Expect.{Expect}
use Rattle.jx_reduce.specs.declared.table.expect.Expect.TheVariants.{Value, ArrayFirst, After}
use Rattle.jx_reduce.specs.declared.table.holder.Holder.{Holder}
use Rattle.jx_reduce.specs.Read.{went}
use Rattle.jx_reduce.specs.Read as marks
use Rattle.jx_index.specs.declared.finder.Cursor.{Cursor}
use Rattle.jx_index.specs.declared.trie.Edge.{Edge}
use Rattle.jx_index.specs.inside.Finding.{Finding}
use Rattle.jx_index.specs.inside.InOrder.{behind}
use Rattle.jx_index.specs.inside.Trie.{element_at, seek_all}
use Rattle.jx_file_index.specs.declared.sum.Sum.{Sum}
use Rattle.jx_file_index.specs.Sums.{sum_of}
use Rattle.jx_file_query.specs.Holding.{Holds}
use Rattle.jx_file_query.specs.Passed.{Waits, waiting}

-- ---- elements

-- whether an element may begin where this may stand next
abbrev pub room : Expect → ℕ
room Value = 1
room ArrayFirst = 1
room _ = 0

-- the same in an array in which so many containers are open that are skipped; an element that has begun and not ended is not
-- counted yet
abbrev pub slot : ℕ → Bool → Expect → ℕ
slot (suc skipped) begun e = 0
slot zero true e = 1
slot zero false e = room e

-- the tokens that may stand next in an array
abbrev pub InArray : Expect → Type 0
InArray Value = Unit {0}
InArray ArrayFirst = Unit {0}
InArray After = Unit {0}
InArray _ = ⊥

-- ---- a part

-- seeking by the token starts and ends of a part, and by whatever follows, is seeking by what follows from another
-- finding on
abbrev pub ComesOver : List ℕ → List Edge → ℕ → Track → Bool → Option Mark → Finding → Finding → Type 0
ComesOver text edges last part after begun f g = (more : List Mark) (others : List ℕ)
    → seek_all text edges last (behind begun (part.marks ++ more)) (part.ends ++ others) f ≡ seek_all text edges last (behind (waiting after) more) others g

-- a part closes fewer containers than are skipped before it: it is passed by its sum alone
abbrev pub IsPassedInside : Type 0
IsPassedInside = (text : List ℕ) (edges : List Edge) (last at : ℕ) (part : List ℕ) (from to : LexState) (begun : Option Mark) (f : Finding)
    → (lexical.lex from at part).exit ≡ LexExit.state to → Waits (in_token from) begun → (sum_of (lexical.lex from at part).marks).closed < f.skipped
    → ComesOver text edges last (lexical.lex from at part) (in_token to) begun f
    (record f { skipped = (f.skipped + (sum_of (lexical.lex from at part).marks).opened) - (sum_of (lexical.lex from at part).marks).closed })

-- it closes as many, and none of the elements that begin in it is wanted in the array on the way: so many more are counted
pub record IsPassedOver (text : List ℕ) (edges : List Edge) (last : ℕ) (part : Track) (s : Sum) (before after : Bool) (begun : Option Mark) (e x : Expect) (f : Finding) (c : Cursor) (outer : List Cursor) : Type 0 where
  pub count : ℕ
  pub counted : count + slot s.opened after x ≡ c.count + s.commas + slot f.skipped before e
  pub comes : ComesOver text edges last part after begun f (record f { opened = record c { count = count } ∷ outer; skipped = s.opened })

abbrev pub IsPassedInArray : Type 0
IsPassedInArray = (text : List ℕ) (edges : List Edge) (last at depth : ℕ) (part : List ℕ) (from to : LexState) (begun : Option Mark) (e x : Expect) (hs gs : List Holder) (f : Finding) (c : Cursor) (outer : List Cursor)
    → (lexical.lex from at part).exit ≡ LexExit.state to → marks.read depth (lexical.lex from at part).marks (went e hs) ≡ went x gs
    → Waits (in_token from) begun → Holds f.skipped f.opened hs → f.opened ≡ c ∷ outer → c.is_object ≡ false → f.name ≡ None
    → (sum_of (lexical.lex from at part).marks).closed ≡ f.skipped
    → (f.skipped ≡ 0 → InArray e) → (in_token from ≡ true → f.skipped ≡ 0 → e ≡ After)
    → ((place : ℕ) → c.count ≤ place → place < c.count + (sum_of (lexical.lex from at part).marks).commas + slot f.skipped (in_token from) e → element_at edges c.level place ≡ None)
    → IsPassedOver text edges last (lexical.lex from at part) (sum_of (lexical.lex from at part).marks) (in_token from) (in_token to) begun e x f c outer

-- the record that is kept of the open containers follows them
abbrev pub IsHeldOn : Type 0
IsHeldOn = (text : List ℕ) (edges : List Edge) (last depth : ℕ) (ms : List Mark) (ends : List ℕ) (f : Finding) (e x : Expect) (hs gs : List Holder)
    → marks.read depth ms (went e hs) ≡ went x gs → Holds f.skipped f.opened hs → Holds (seek_all text edges last ms ends f).skipped (seek_all text edges last ms ends f).opened gs
