-- How far chunks of an object on the way are skipped.
use Rattle.std.specs.Prelude.{◌≡◌, ◌==◌, ◌+◌, ◌*◌, ◌<◌, ◌≤◌, ◌++◌, ℕ, suc, List, ◌∷◌, true, cond, length, Option, None, Some, is_some, slice_get, take}
use Rattle.jx_lex.specs.declared.alphabet.mark.Mark.{Mark}
use Rattle.jx_lex.specs.TokenStates.{in_token}
use Rattle.jx_reduce.specs.declared.table.expect.Expect.{Expect}
use Rattle.jx_reduce.specs.declared.table.expect.Expect.TheVariants.{Colon}
use Rattle.jx_reduce.specs.declared.table.holder.Holder.{Holder}
use Rattle.jx_reduce.specs.Read.{went}
use Rattle.jx_run.specs.declared.texts.settings.Settings.{Settings}
use Rattle.jx_run.specs.Telling.{tokens_by}
use Rattle.jx_index.specs.declared.finder.Cursor.{Cursor}
use Rattle.jx_index.specs.declared.finder.Met.{Met}
use Rattle.jx_index.specs.declared.trie.Edge.{Edge}
use Rattle.jx_index.specs.inside.Finding.{Finding}
use Rattle.jx_index.specs.inside.Found.{finding}
use Rattle.jx_find.specs.declared.held.Sought.{Sought}
use Rattle.jx_find.specs.Held.{Comes}
use Rattle.jx_file_index.specs.declared.entry.Entry.{Entry}
use Rattle.jx_file_index.specs.declared.index.Index.{Index}
use Rattle.jx_file_index.specs.Chunks.{before, entry_behind, part}
use Rattle.jx_file_index.specs.Named.{AreNamed, none, more, reading_before}
use Rattle.jx_file_index.specs.NameTables.{AreTablesOf, HasNot}
use Rattle.jx_file_query.specs.declared.members.Among.{Among}
use Rattle.jx_file_query.specs.HeldAt.{IsHeldAt}
use Rattle.jx_file_query.specs.Known.{IsKnown}
use Rattle.jx_file_query.specs.Passed.{waiting}
use Rattle.jx_file_query.specs.declared.members.TextNames.{TextNames}
use Rattle.jx_file_query.specs.Hashes.{HaveHashes}
use Rattle.jx_file_query.specs.Members.{InObject, IsAmong, lacks, unwanted_name}

-- a chunk has no name with the hash of an edge's
pub record WantsNone (names : TextNames) (edge chunk : ℕ) : Type 0 where
  pub hash : ℕ
  pub is : slice_get names.hashes.items edge ≡ Some hash
  pub none : HasNot names.tables.now chunk hash

abbrev pub NoneWants : TextNames → List Edge → ℕ → ℕ → Type 0
NoneWants names edges node chunk = (i : ℕ) (e : Edge) → slice_get edges i ≡ Some e → e.parent ≡ node → WantsNone names i chunk

-- ---- the names of a text

-- which token has begun after so many chunks
abbrev pub begun_at : {settings : Settings} {size : ℕ} {text : List ℕ} {count : ℕ} {last : Option Mark} {names : List (List (List ℕ))} → AreNamed settings size text count last names → ℕ → Option Mark
begun_at none n = None
begun_at (more {n = k} {later = later} h own) n = cond (n == suc k) later (begun_at h n)

-- ---- what is found in an object where some of its members were skipped

abbrev pub found_among : List Met → Cursor → List Cursor → ℕ → ℕ → Option (Option ℕ) → Finding
found_among met c outer count skipped name = record { met = met; opened = record c { count = count } ∷ outer; skipped = skipped; name = name }

-- a name was cut by the end of a chunk
pub record IsCut (skipped : ℕ) (e : Entry) : Type 0 where
  pub none : skipped ≡ 0
  pub begun : in_token e.state ≡ true
  pub name : e.expect ≡ Colon

-- the state that is kept stands in the object before a chunk, where no name was cut, and no wanted value waits
pub record IsStarted (held : Sought) (e : Entry) : Type 0 where
  pub agrees : in_token e.state ≡ is_some held.begun
  pub named : held.state.name ≡ unwanted_name held.state.skipped (in_token e.state) e.expect
  pub stands : InObject held.state.skipped (in_token e.state) e.expect
  pub uncut : IsCut held.state.skipped e → ⊥

-- so many chunks lead to this, after a token that has begun
pub record IsLedTo (settings : Settings) (size : ℕ) (text : List ℕ) (edges : List Edge) (held : Sought) (c : Cursor) (begun : Option Mark) (n count skipped : ℕ) : Type 0 where
  pub outer : List Cursor
  pub opened : (finding held.state).opened ≡ c ∷ outer
  pub grows : c.count ≤ count
  pub expect : Expect
  pub holders : List Holder
  pub stands : reading_before settings text (n * size) ≡ went expect holders
  pub among : IsAmong (record c { count = count }) outer begun expect holders (found_among held.state.met.items c outer count skipped (unwanted_name skipped (is_some begun) expect))
  pub comes : (future : List ℕ) → Comes (take (n * size) text ++ future) edges (tokens_by settings.mark (take (n * size) text)).marks (tokens_by settings.mark (take (n * size) text)).ends
      (found_among held.state.met.items c outer count skipped (unwanted_name skipped (is_some begun) expect)) begun

-- a chunk in which as many members begin as its entry and that of the next one say
pub record IsCounted (here behind : Entry) (count skipped later deeper : ℕ) : Type 0 where
  pub low : here.sum.closed ≤ skipped
  pub deeper_is : deeper + here.sum.closed ≡ skipped + here.sum.opened
  pub same : here.sum.closed < skipped → later ≡ count
  pub counted : here.sum.closed ≡ skipped → later + lacks deeper (in_token behind.state) behind.expect ≡ count + here.sum.commas + lacks skipped (in_token here.state) here.expect

-- ---- by the tables of a text's names

abbrev pub IsLed : (settings : Settings) (size : ℕ) (text : List ℕ) → List Edge → (names : TextNames) → AreTablesOf settings size text names.tables.now → Sought → Cursor → ℕ → Among → Type 0
IsLed settings size text edges names t held c n among = IsLedTo settings size text edges held c (begun_at t.named n) n among.count among.skipped

-- the state that is kept of the chunks before a place leads to this before another
abbrev pub LeadsTo : Index → TextNames → List Edge → Sought → ℕ → Cursor → ℕ → Among → Type 0
LeadsTo index names edges held at c n among = (settings : Settings) (chunk : ℕ) (text : List ℕ) → IsKnown settings chunk text index → (t : AreTablesOf settings chunk text names.tables.now) → HaveHashes edges names.hashes.items
    → IsHeldAt settings chunk text edges at held → IsLed settings chunk text edges names t held c n among

-- an entry is that of the chunk at a place, where the text has one
abbrev pub TellsAt : Index → ℕ → Entry → Type 0
TellsAt index n e = (settings : Settings) (chunk : ℕ) (text : List ℕ) → IsKnown settings chunk text index → (e ≡ entry_behind (before settings text (n * chunk)) (part chunk text n)) × (n * chunk < length text)

-- and this before the next one
abbrev pub LeadsOn : Index → TextNames → List Edge → Sought → Cursor → ℕ → Among → Among → Type 0
LeadsOn index names edges held c n one other = (settings : Settings) (chunk : ℕ) (text : List ℕ) → IsKnown settings chunk text index → (t : AreTablesOf settings chunk text names.tables.now) → HaveHashes edges names.hashes.items
    → IsLed settings chunk text edges names t held c n one → IsLed settings chunk text edges names t held c (suc n) other

-- the state that is kept in the object after the last of them
pub record IsHeldAmong (held : Sought) (among : Among) (entry : Entry) (next : Sought) : Type 0 where
  pub found : (c : Cursor) (outer : List Cursor) → (finding held.state).opened ≡ c ∷ outer
      → finding next.state ≡ found_among held.state.met.items c outer among.count among.skipped (unwanted_name among.skipped (in_token entry.state) entry.expect)
  pub next_is : next.next ≡ held.next
  pub begun_is : next.begun ≡ waiting (in_token entry.state)

-- chunks from a place on are skipped: what is kept of those before it and changes so is kept after them
pub record IsPast (index : Index) (names : TextNames) (edges : List Edge) (held : Sought) (at : ℕ) (among : Among) (entry : Entry) (end : ℕ) : Type 0 where
  pub later : at < end
  pub leads : (settings : Settings) (chunk : ℕ) (text : List ℕ) → IsKnown settings chunk text index → (t : AreTablesOf settings chunk text names.tables.now) → HaveHashes edges names.hashes.items
      → IsHeldAt settings chunk text edges at held → (next : Sought) → IsHeldAmong held among entry next → IsHeldAt settings chunk text edges end next

-- by the names of a text, if they are known
abbrev pub LeadsPast : Index → Option TextNames → List Edge → Sought → ℕ → Among → Entry → ℕ → Type 0
LeadsPast index None edges held at among entry end = ⊥
LeadsPast index (Some names) edges held at among entry end = IsPast index names edges held at among entry end
