-- A structure as contracts see it, and when it is the structure of a list of tokens.
use Rattle.std.specs.Prelude.{◌≡◌, ℕ, ◌<◌, ◌≤◌, List, Option, None, Some, length}
use Rattle.jx_reduce.specs.Fits.{IsOfSize}
use Rattle.jx_reduce.specs.Form.{Form, acts}
use Rattle.jx_reduce.specs.Offsets.{EachIn, OffsetsIn}
use Rattle.jx_reduce.specs.Read.{Reading, went, then_by, read}
use Rattle.jx_reduce.specs.declared.table.holder.Holder.{Holder}
use Rattle.jx_reduce.specs.declared.table.expect.Expect.{Expect}
use Rattle.jx_lex.specs.declared.alphabet.mark.Mark.{Mark}

-- the first tokens, and the form of those after them, where there is one
pub record StructureValue : Type 0 where
  pub depth : ℕ
  pub head : List Mark
  pub tail : Option Form

-- the reading by the form, for any expectation; where there is none the reading stays where it led to
abbrev pub behind : ℕ → Option Form → Expect → List Holder → Reading
behind d None e s = went e s
behind d (Some t) e s = acts d t s

-- the reading of the tokens from this expectation, over these open containers, innermost first: those of the head by
-- the table of moves, and those after it by the form
abbrev pub answer : StructureValue → Expect → List Holder → Reading
answer f e s = then_by (behind f.depth f.tail) (read f.depth f.head (went e s))

abbrev pub IsOf : List Mark → StructureValue → Type 0
IsOf ms f = (e : Expect) (s : List Holder) → length s ≤ f.depth → answer f e s ≡ read f.depth ms (went e s)

-- the moves over both lists of tokens are the right's from where the left went
abbrev pub IsJoin : StructureValue → StructureValue → StructureValue → Type 0
IsJoin l r j = (e : Expect) (s : List Holder) → length s ≤ l.depth → answer j e s ≡ then_by (answer r) (answer l e s)

abbrev pub TailIn : (ℕ → Type 0) → Option Form → Type 0
TailIn Q None = Unit {0}
TailIn Q (Some t) = OffsetsIn Q t

-- each offset that is kept is one of these
pub record AreIn (Q : ℕ → Type 0) (f : StructureValue) : Type 0 where
  pub head : EachIn (λ m. Q m.at) f.head
  pub tail : TailIn Q f.tail

-- every offset on the left is below every offset on the right
pub record IsBefore (l r : StructureValue) : Type 0 where
  pub between : ℕ
  pub left : AreIn (λ p. p < between) l
  pub right : AreIn (λ p. between ≤ p) r

-- each offset that is kept lies here
abbrev pub SpansIn : ℕ → ℕ → StructureValue → Type 0
SpansIn low high f = AreIn (λ p. (low ≤ p) × (p < high)) f

abbrev pub IsTailOfSize : ℕ → Option Form → Type 0
IsTailOfSize d None = Unit {0}
IsTailOfSize d (Some t) = IsOfSize d t

-- how much is kept: two tokens at most, and a form within the depth
pub record IsSmall (d : ℕ) (f : StructureValue) : Type 0 where
  pub head : length f.head ≤ 2
  pub tail : IsTailOfSize d f.tail

-- a structure, and the expectation from which it is looked at
pub record EntryValue : Type 0 where
  pub structure : StructureValue
  pub expect : Expect

abbrev pub answer_from : EntryValue → List Holder → Reading
answer_from v s = answer v.structure v.expect s
