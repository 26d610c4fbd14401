-- The reduced forms of one list of tokens, from each entry.
use Rattle.std.specs.Prelude.{◌≡◌, ℕ, ◌<◌, ◌≤◌, List, length}
use Rattle.jx_reduce.specs.Entries.{expect_at}
use Rattle.jx_reduce.specs.Read.{Reading, top, then_by, read, went}
use Rattle.jx_reduce.specs.Form.{Form, acts}
use Rattle.jx_reduce.specs.Fits.{Fits}
use Rattle.jx_reduce.specs.Offsets.{OffsetsIn}
use Rattle.jx_reduce.specs.declared.table.holder.Holder.{Holder}
use Rattle.jx_lex.specs.declared.alphabet.mark.Mark.{Mark}
use Rattle.jx_reduce.specs.declared.table.expect.Expect.{Expect}
use Rattle.jx_reduce.specs.declared.table.expect.Expect.TheVariants.{Value, ArrayFirst, ObjectFirst, Name, Colon, After}
use Rattle.jx_reduce.specs.declared.forms.entry.Entry.{Entry}
use Rattle.jx_reduce.specs.declared.forms.entry.Entry.TheVariants.{ValueOrName, AfterOrColon, Value as AnyValue, ArrayFirst as AnyArrayFirst, ObjectFirst as AnyObjectFirst, Name as AnyName, Colon as AnyColon, After as AnyAfter}

pub record Forms : Type 0 where
  pub depth : ℕ
  pub value : Form
  pub array_first : Form
  pub object_first : Form
  pub name : Form
  pub colon : Form
  pub after : Form
  pub value_or_name : Form
  pub after_or_colon : Form

abbrev pub form_at : Forms → Entry → Form
form_at f AnyValue = f.value
form_at f AnyArrayFirst = f.array_first
form_at f AnyObjectFirst = f.object_first
form_at f AnyName = f.name
form_at f AnyColon = f.colon
form_at f AnyAfter = f.after
form_at f ValueOrName = f.value_or_name
form_at f AfterOrColon = f.after_or_colon

abbrev pub entry_of : Expect → Entry
entry_of Value = AnyValue
entry_of ArrayFirst = AnyArrayFirst
entry_of ObjectFirst = AnyObjectFirst
entry_of Name = AnyName
entry_of Colon = AnyColon
entry_of After = AnyAfter

-- the reading of the tokens from this expectation, over these open containers, innermost first
abbrev pub answer : Forms → Expect → List Holder → Reading
answer f e s = acts f.depth (form_at f (entry_of e)) s

-- each form is within the depth, and an entry that depends on the innermost container answers as the expectation that it is there
pub record IsSound (f : Forms) : Type 0 where
  pub fits : (x : Entry) → Fits f.depth (form_at f x)
  pub agree : (x : Entry) (s : List Holder) → length s ≤ f.depth → acts f.depth (form_at f x) s ≡ answer f (expect_at x (top s)) s

-- every offset on the left is below every offset on the right
pub record IsBefore (l r : Forms) : Type 0 where
  pub between : ℕ
  pub left : (x : Entry) → OffsetsIn (λ p. p < between) (form_at l x)
  pub right : (x : Entry) → OffsetsIn (λ p. between ≤ p) (form_at r x)

-- the moves over both lists of tokens are the right's from where the left went
abbrev pub IsJoin : Forms → Forms → Forms → Type 0
IsJoin l r j = (e : Expect) (s : List Holder) → length s ≤ l.depth → answer j e s ≡ then_by (answer r) (answer l e s)

abbrev pub IsOf : List Mark → Forms → Type 0
IsOf ms f = (e : Expect) (s : List Holder) → length s ≤ f.depth → answer f e s ≡ read f.depth ms (went e s)

-- each offset that is kept lies here
abbrev pub SpansIn : ℕ → ℕ → Forms → Type 0
SpansIn low high f = (x : Entry) → OffsetsIn (λ p. (low ≤ p) × (p < high)) (form_at f x)
