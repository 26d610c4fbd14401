-- When a part of a text can be skipped in an object on the way, and the state then.
use Rattle.std.specs.Prelude.{◌≡◌, ℕ, suc, zero, ◌+◌, ◌<◌, ◌≤◌, All, List, ◌∷◌, ◌++◌, Bool, true, false, Option, None, Some, is_some}
use Rattle.jx_lex.specs.declared.alphabet.mark.Mark.{Mark}
use Rattle.jx_lex.specs.declared.alphabet.mark.MarkKind.TheVariants as mark
use Rattle.jx_reduce.specs.declared.table.expect.Expect.{Expect}
use Rattle.jx_reduce.specs.declared.table.expect.Expect.TheVariants.{Value, ArrayFirst, Colon, After}
use Rattle.jx_reduce.specs.declared.table.holder.Holder.{Holder}
use Rattle.jx_reduce.specs.Read.{went}
use Rattle.jx_reduce.specs.Read as marks
use Rattle.jx_index.specs.declared.finder.Cursor.{Cursor}
use Rattle.jx_index.specs.declared.trie.Edge.{Edge}
use Rattle.jx_index.specs.inside.Building.{is_token}
use Rattle.jx_index.specs.inside.Finding.{Finding}
use Rattle.jx_index.specs.inside.InOrder.{behind}
use Rattle.jx_index.specs.inside.Trie.{child_at, seek_all}
use Rattle.jx_file_index.specs.declared.sum.Sum.{Sum}
use Rattle.jx_file_index.specs.Sums.{sum_of}
use Rattle.jx_file_index.specs.Names.{NamesOf}
use Rattle.jx_file_query.specs.Holding.{Holds}

-- ---- where a reading stands in an object in which so many containers are open that are skipped; a token may have begun

-- the value of the last member was not counted yet
abbrev pub lacks_behind : Expect → ℕ
lacks_behind After = 0
lacks_behind _ = 1

abbrev pub lacks : ℕ → Bool → Expect → ℕ
lacks (suc skipped) begun e = 0
lacks zero true e = 1
lacks zero false e = lacks_behind e

-- of a name that leads nowhere, whose value is still to come
abbrev pub in_value : Expect → Option (Option ℕ)
in_value After = Some None
in_value _ = None

abbrev pub in_front : Expect → Option (Option ℕ)
in_front Colon = Some None
in_front Value = Some None
in_front _ = None

abbrev pub unwanted_name : ℕ → Bool → Expect → Option (Option ℕ)
unwanted_name (suc skipped) begun e = None
unwanted_name zero true e = in_value e
unwanted_name zero false e = in_front e

-- the tokens that may stand next in an object
abbrev pub begun_in_object : Expect → Type 0
begun_in_object Colon = Unit {0}
begun_in_object After = Unit {0}
begun_in_object _ = ⊥

abbrev pub between_in_object : Expect → Type 0
between_in_object ArrayFirst = ⊥
between_in_object _ = Unit {0}

abbrev pub InObject : ℕ → Bool → Expect → Type 0
InObject (suc skipped) begun e = Unit {0}
InObject zero true e = begun_in_object e
InObject zero false e = between_in_object e

-- a token that has begun, and where a colon is expected after it, a string
pub record IsBegun (skipped : ℕ) (e : Expect) (begun : Option Mark) : Type 0 where
  pub token : (m : Mark) → begun ≡ Some m → is_token m.kind ≡ true
  pub string : (m : Mark) → begun ≡ Some m → skipped ≡ 0 → e ≡ Colon → m.kind ≡ mark.String

-- in an object on the way, of which no member is wanted whose value was not told yet
pub record IsAmong (c : Cursor) (outer : List Cursor) (begun : Option Mark) (e : Expect) (hs : List Holder) (f : Finding) : Type 0 where
  pub opened : f.opened ≡ c ∷ outer
  pub object : c.is_object ≡ true
  pub holds : Holds f.skipped f.opened hs
  pub stands : InObject f.skipped (is_some begun) e
  pub named : f.name ≡ unwanted_name f.skipped (is_some begun) e
  pub token : IsBegun f.skipped e begun

-- ---- a part

-- it closes no more containers than are skipped, and of the names of members of the object none is wanted
pub record HasNoWanted (edges : List Edge) (node skipped : ℕ) (s : Sum) (names : List (List ℕ)) : Type 0 where
  pub low : s.closed ≤ skipped
  pub unwanted : s.closed ≡ skipped → All (λ (units : List ℕ). child_at edges node units ≡ None) names

-- seeking by its token starts and ends, and by whatever follows, is seeking by what follows
pub record IsPassedAmong (text : List ℕ) (edges : List Edge) (last : ℕ) (ms : List Mark) (ends : List ℕ) (s : Sum) (before after : Option Mark) (e x : Expect) (gs : List Holder) (f : Finding) (c : Cursor) (outer : List Cursor) : Type 0 where
  pub count : ℕ
  pub skipped : ℕ
  pub skipped_is : skipped + s.closed ≡ f.skipped + s.opened
  pub grows : c.count ≤ count
  pub same : s.closed < f.skipped → count ≡ c.count
  pub counted : s.closed ≡ f.skipped → count + lacks skipped (is_some after) x ≡ c.count + s.commas + lacks f.skipped (is_some before) e
  pub among : IsAmong (record c { count = count }) outer after x gs (record { met = f.met; opened = record c { count = count } ∷ outer; skipped = skipped; name = unwanted_name skipped (is_some after) x })
  pub comes : (more : List Mark) (others : List ℕ) → seek_all text edges last (behind before (ms ++ more)) (ends ++ others) f
      ≡ seek_all text edges last (behind after more) others (record { met = f.met; opened = record c { count = count } ∷ outer; skipped = skipped; name = unwanted_name skipped (is_some after) x })

abbrev pub IsPassedInObject : Type 0
IsPassedInObject = (known future : List ℕ) (edges : List Edge) (last depth : ℕ) (ms : List Mark) (ends : List ℕ) (before after : Option Mark) (names : List (List ℕ)) (e x : Expect) (hs gs : List Holder) (f : Finding) (c : Cursor) (outer : List Cursor)
    → NamesOf known depth (went e hs) before ms ends after names → marks.read depth ms (went e hs) ≡ went x gs
    → IsAmong c outer before e hs f → HasNoWanted edges c.level f.skipped (sum_of ms) names
    → IsPassedAmong (known ++ future) edges last ms ends (sum_of ms) before after e x gs f c outer
