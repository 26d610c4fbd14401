-- The names of chunks that are read one behind another.
use Rattle.std.proofs.Common.{◌≡◌, ℕ, suc, ◌+◌, ◌*◌, ◌≤◌, List, [], ◌∷◌, ◌++◌, length, take, drop, map, sym, ◌∙◌, ap, subst, arith, Bool, true, false, Option, None, Some}
use Rattle.std.specs.Prelude.{is_some}
use Rattle.std.proofs.lemmas.List.{length-append, take-append-le, take_all}
use Rattle.std.proofs.lemmas.List.Sums.{fold-append}
use Rattle.std.proofs.Math.Nat.{suc-mul}
use Rattle.std.proofs.Math.Seq.{drop-append_seam, take-append_seam}
use Rattle.jx_lex.specs.declared.alphabet.mark.Mark.{Mark}
use Rattle.jx_lex.specs.Lex.{Track}
use Rattle.jx_reduce.specs.KnownStack.{IsFault, start}
use Rattle.jx_reduce.specs.Read.{Reading, step, read}
use Rattle.jx_run.specs.Reader.{HasRead, Outcome, ReaderValue, is_fault, read_by}
use Rattle.jx_run.specs.Telling.{moved_ends, moved_marks, no_tokens, tokens_by, track_of}
use Rattle.jx_run.specs.declared.texts.settings.Settings.{Settings}
use Rattle.jx_index.specs.inside.InTurn.{IsInTurn}
use Rattle.jx_index.proofs.InTurns.{first_turn}
use Rattle.jx_file_index.specs.Chunks.{IsCount, before, part}
use Rattle.jx_file_index.specs.declared.name_tables.NameTables.{NameTables}
use Rattle.jx_file_index.specs.NameHash.{name_hash}
use Rattle.jx_file_index.specs.Named.{AreNamed, more, none, reading_before, track_at}
use Rattle.jx_file_index.specs.Names.{NamesOf}
use Rattle.jx_file_build.specs.declared.named_chunks.NamedChunks.{NamedChunks}
use Rattle.jx_file_build.specs.declared.standing.Standing.{Standing}
use Rattle.jx_file_build.specs.declared.standing.ToldChunk.{ToldChunk}
use Rattle.jx_file_build.specs.Held.{HasReadBy}
use Rattle.jx_file_build.specs.TextTables.{HasNames, HasTables}
use Rattle.jx_file_build.specs.inside.NameBlocks.{AreBlocksOf, AreBlockTables}
use Rattle.jx_file_build.specs.declared.open_kinds.NamePlace.TheVariants.{Elsewhere}
use Rattle.jx_file_build.specs.inside.ChunkNames.{GoesPast, HoldsName, IsTold, Start}
use Rattle.jx_file_build.specs.inside.OpenKinds.{Mirrors, kinds}
use Rattle.jx_file_build.specs.inside.NamedChunks.{AreBegun, AreNames, AreNamesAt, AreTold}
use Rattle.jx_file_build.proofs.Mirroring.{slice_within, tokens_go}
use Rattle.jx_file_build.proofs.Readings.{came_to, part_stays}

-- ---- the names of a text that grows

abbrev NamesAt : Settings → List ℕ → Reading → ℕ → Track → Option Mark → Option Mark → List (List ℕ) → Type 0
NamesAt settings known reading base track begun later own = NamesOf known settings.depth reading begun (moved_marks base track.marks) (moved_ends base track.ends) later own

-- whole chunks keep their names
named_stays : (settings : Settings) (size : ℕ) (xs rest : List ℕ) {n : ℕ} {begun : Option Mark} {names : List (List (List ℕ))} → AreNamed settings size xs n begun names → n * size ≤ length xs
    → AreNamed settings size (xs ++ rest) n begun names
named_stays settings size xs rest none fits = none
named_stays settings size xs rest (more {n = n} {begun = begun} {later = later} {names = names} {own = own} h of) fits =
    let e : suc n * size ≡ n * size + size = suc-mul n size in
    let within : n * size + size ≤ length xs = omega (arith, e, fits) in
    let known : take (suc n * size) (xs ++ rest) ≡ take (suc n * size) xs = take-append-le (suc n * size) xs rest fits in
    let front : take (n * size) (xs ++ rest) ≡ take (n * size) xs = take-append-le (n * size) xs rest (omega (arith, within)) in
    let reading : reading_before settings (xs ++ rest) (n * size) ≡ reading_before settings xs (n * size) = ap (λ (ys : List ℕ). read settings.depth (tokens_by settings.mark ys).marks start) front in
    let track : track_at settings size (xs ++ rest) n ≡ track_at settings size xs n =
    ap (λ (ys : List ℕ). track_of (read_by settings.mark settings.depth 0 ys) (part size (xs ++ rest) n)) front
    ∙ ap (λ (ys : List ℕ). track_of (before settings xs (n * size)) ys) (part_stays size xs rest n within) in
    more (named_stays settings size xs rest h (omega (arith, within)))
    (subst (λ (ys : List ℕ). NamesAt settings ys (reading_before settings (xs ++ rest) (n * size)) (n * size) (track_at settings size (xs ++ rest) n) begun later own) (sym known)
    (subst (λ (r : Reading). NamesAt settings (take (suc n * size) xs) r (n * size) (track_at settings size (xs ++ rest) n) begun later own) (sym reading)
    (subst (λ (t : Track). NamesAt settings (take (suc n * size) xs) (reading_before settings xs (n * size)) (n * size) t begun later own) (sym track) of)))

-- one chunk more, behind whole ones
named_more : (settings : Settings) (size : ℕ) (xs chunk : List ℕ) (n : ℕ) (begun later : Option Mark) (names : List (List (List ℕ))) (own : List (List ℕ)) → length xs ≡ n * size → length chunk ≤ size
    → AreNamed settings size xs n begun names
    → NamesAt settings (xs ++ chunk) (read settings.depth (tokens_by settings.mark xs).marks start) (length xs) (track_of (read_by settings.mark settings.depth 0 xs) chunk) begun later own
    → AreNamed settings size (xs ++ chunk) (suc n) later (names ++ own ∷ [])
named_more settings size xs chunk n begun later names own whole fits h of =
    let e : suc n * size ≡ n * size + size = suc-mul n size in
    let l : length (xs ++ chunk) ≡ length xs + length chunk = length-append xs chunk in
    let known : take (suc n * size) (xs ++ chunk) ≡ xs ++ chunk = take_all (suc n * size) (xs ++ chunk) (omega (arith, e, l, whole, fits)) in
    let front : take (n * size) (xs ++ chunk) ≡ xs = ap (λ (k : ℕ). take k (xs ++ chunk)) (sym whole) ∙ take-append_seam xs chunk in
    let here : part size (xs ++ chunk) n ≡ chunk =
    ap (λ (k : ℕ). take size (drop k (xs ++ chunk))) (sym whole) ∙ ap (take size) (drop-append_seam xs chunk) ∙ take_all size chunk fits in
    let reading : reading_before settings (xs ++ chunk) (n * size) ≡ read settings.depth (tokens_by settings.mark xs).marks start = ap (λ (ys : List ℕ). read settings.depth (tokens_by settings.mark ys).marks start) front in
    let track : track_at settings size (xs ++ chunk) n ≡ track_of (read_by settings.mark settings.depth 0 xs) chunk =
    ap (λ (ys : List ℕ). track_of (read_by settings.mark settings.depth 0 ys) (part size (xs ++ chunk) n)) front
    ∙ ap (λ (ys : List ℕ). track_of (read_by settings.mark settings.depth 0 xs) ys) here in
    more (named_stays settings size xs chunk h (omega (arith, whole)))
    (subst (λ (ys : List ℕ). NamesAt settings ys (reading_before settings (xs ++ chunk) (n * size)) (n * size) (track_at settings size (xs ++ chunk) n) begun later own) (sym known)
    (subst (λ (r : Reading). NamesAt settings (xs ++ chunk) r (n * size) (track_at settings size (xs ++ chunk) n) begun later own) (sym reading)
    (subst (λ (t : Track). NamesAt settings (xs ++ chunk) (read settings.depth (tokens_by settings.mark xs).marks start) (n * size) t begun later own) (sym track)
    (subst (λ (i : ℕ). NamesAt settings (xs ++ chunk) (read settings.depth (tokens_by settings.mark xs).marks start) i (track_of (read_by settings.mark settings.depth 0 xs) chunk) begun later own) whole of))))

-- ---- chunk by chunk

-- no byte was read
pub none_told : (settings : Settings) (size : ℕ) (c : NamedChunks) → kinds c.standing.kinds ≡ record { opened = []; name = Elsewhere } → c.standing.begun ≡ None → AreBlocksOf [] c.blocks
    → tokens_by settings.mark [] ≡ no_tokens → AreTold settings size [] 0 c
none_told settings size c kinds_are free blocks no_token = record {
  mirrors = subst (λ (t : Track). Mirrors (read settings.depth t.marks start) (kinds c.standing.kinds)) (sym no_token) kinds_are;
  names = [];
  named = subst (λ (o : Option Mark). AreNamed settings size [] 0 o []) (sym free) none;
  name_is = λ m e behind. let no : None ≡ Some m = sym free ∙ e in absurd cc;
  blocks = blocks;
  counted = blocks.chunks;
}

-- where a reading begins, no token has begun
pub none_begun : (reader : ReaderValue) (names : Option NamedChunks) → HasRead [] reader → ((c : NamedChunks) → names ≡ Some c → c.standing.begun ≡ None) → AreBegun reader.outcome names
none_begun reader names read free = λ c is. first_turn reader c.standing.begun read (ap is_some (free c is))

pub some_begun : (outcome : Option Outcome) (c : NamedChunks) → IsInTurn outcome c.standing.begun → AreBegun outcome (Some c)
some_begun outcome c turn = λ h is. let same : c ≡ h = cc in subst (λ (x : NamedChunks). IsInTurn outcome x.standing.begun) same turn

-- what stands before the next chunk
abbrev pub before_chunk : NamedChunks → ℕ → List ℕ → Start
before_chunk c base chunk = record {
  kinds = kinds c.standing.kinds;
  begun = c.standing.begun;
  name = c.standing.name.items;
  base = base;
  chunk = chunk;
}

-- one chunk more
module _ (settings : Settings) (size : ℕ) (bytes chunk : List ℕ) (n : ℕ) (whole : length bytes ≡ n * size) (fits : length chunk ≤ size)
    (r q : ReaderValue) (was : HasReadBy settings bytes r) (now : HasReadBy settings (bytes ++ chunk) q)
    (faults : is_fault (Some (read_by settings.mark settings.depth 0 (bytes ++ chunk))) ≡ false → is_fault (Some (read_by settings.mark settings.depth 0 bytes)) ≡ false) where
  -- no slice undoes a fault
  pub goes_before : is_fault q.outcome ≡ false → is_fault r.outcome ≡ false
  goes_before going =
      subst (λ (o : Option Outcome). is_fault o ≡ false) (sym (came_to settings bytes r was))
      (faults (subst (λ (o : Option Outcome). is_fault o ≡ false) (came_to settings (bytes ++ chunk) q now) going))

  -- where no names are asked for
  pub none_on : (has_names : Bool) → AreNamesAt has_names settings size bytes n r.outcome None → AreNamesAt has_names settings size (bytes ++ chunk) (suc n) q.outcome None
  none_on true told = λ going. told (goes_before going)
  none_on false told = λ going. tt

  module _ (base : ℕ) (at : base ≡ length bytes) (c new : NamedChunks) (told : ToldChunk) (same_open : new.standing ≡ told.standing) (counted : new.blocks.chunks ≡ suc c.blocks.chunks)
      (marks : is_fault (Some (read_by settings.mark settings.depth 0 bytes)) ≡ false
      → (tokens_by settings.mark (bytes ++ chunk)).marks ≡ (tokens_by settings.mark bytes).marks ++ moved_marks (length bytes) (track_of (read_by settings.mark settings.depth 0 bytes) chunk).marks)
      (tells : is_fault q.outcome ≡ false → (came : Outcome) → r.outcome ≡ Some came
      → IsTold (before_chunk c base chunk) (track_of came chunk).marks (track_of came chunk).ends told)
      (fills : (names : List (List (List ℕ))) (own : List (List ℕ)) → AreBlocksOf names c.blocks → told.hashes.items ≡ map name_hash own → AreBlocksOf (names ++ own ∷ []) new.blocks) where
    told_on : AreTold settings size bytes n c → is_fault q.outcome ≡ false → AreTold settings size (bytes ++ chunk) (suc n) new
    told_on t going =
        let goes : is_fault (Some (read_by settings.mark settings.depth 0 bytes)) ≡ false = subst (λ (o : Option Outcome). is_fault o ≡ false) (came_to settings bytes r was) (goes_before going) in
        let track = track_of (read_by settings.mark settings.depth 0 bytes) chunk in
        let made = tells going (read_by settings.mark settings.depth 0 bytes) (came_to settings bytes r was) in
        let all = (tokens_by settings.mark bytes).marks in
        let grown : (tokens_by settings.mark (bytes ++ chunk)).marks ≡ all ++ moved_marks (length bytes) track.marks = marks goes in
        let whole_reading : read settings.depth (moved_marks base track.marks) (read settings.depth all start) ≡ read settings.depth (tokens_by settings.mark (bytes ++ chunk)).marks start =
        ap (λ (i : ℕ). read settings.depth (moved_marks i track.marks) (read settings.depth all start)) at
        ∙ sym (fold-append (λ reading mark. step settings.depth mark reading) start all (moved_marks (length bytes) track.marks))
        ∙ ap (λ (ms : List Mark). read settings.depth ms start) (sym grown) in
        let going_text : is_fault (Some (read_by settings.mark settings.depth 0 (bytes ++ chunk))) ≡ false = subst (λ (o : Option Outcome). is_fault o ≡ false) (came_to settings (bytes ++ chunk) q now) going in
        let past : GoesPast settings.depth (read settings.depth all start) (moved_marks base track.marks) track.ends (length chunk) =
        record { going = λ f. tokens_go settings.mark settings.depth (bytes ++ chunk) going_text (subst IsFault whole_reading f); within = slice_within (read_by settings.mark settings.depth 0 bytes) chunk } in
        let of = made.told_of settings.depth (read settings.depth all start) t.mirrors past bytes (sym at) t.name_is in
        let own : NamesAt settings (bytes ++ chunk) (read settings.depth all start) (length bytes) track c.standing.begun told.standing.begun of.names =
        subst (λ (i : ℕ). NamesAt settings (bytes ++ chunk) (read settings.depth all start) i track c.standing.begun told.standing.begun of.names) at of.are in
        let named = named_more settings size bytes chunk n c.standing.begun told.standing.begun t.names of.names whole fits t.named own in
        let o = sym same_open in
        record {
          mirrors =
              subst (λ (s : Standing). Mirrors (read settings.depth (tokens_by settings.mark (bytes ++ chunk)).marks start) (kinds s.kinds)) o
              (subst (λ (r : Reading). Mirrors r (kinds told.standing.kinds)) whole_reading (made.mirrors settings.depth (read settings.depth all start) t.mirrors));
          names = t.names ++ of.names ∷ [];
          named = subst (λ (s : Standing). AreNamed settings size (bytes ++ chunk) (suc n) s.begun (t.names ++ of.names ∷ [])) o named;
          name_is = subst (λ (s : Standing). HoldsName (bytes ++ chunk) (kinds s.kinds) s.begun s.name.items) o of.name_is;
          blocks = fills t.names of.names t.blocks of.hashes_are;
          counted = counted ∙ ap suc t.counted;
        }

    pub names_on : (has_names : Bool) → AreNamesAt has_names settings size bytes n r.outcome (Some c) → AreNamesAt has_names settings size (bytes ++ chunk) (suc n) q.outcome (Some new)
    names_on true was_told = λ going. told_on (was_told (goes_before going)) going
    names_on false was_told = λ going. was_told (goes_before going)

-- ---- the tables

pub tables_made : (settings : Settings) (size : ℕ) (bytes : List ℕ) (n : ℕ) (c : NamedChunks) (tables : NameTables) → AreTold settings size bytes n c → IsCount size (length bytes) n
    → ((names : List (List (List ℕ))) → AreBlocksOf names c.blocks → AreBlockTables names tables) → HasTables settings size bytes tables
tables_made settings size bytes n c tables t counted made =
    let m = made t.names t.blocks in
    let long : length t.names ≡ n = sym t.blocks.chunks ∙ t.counted in
    record {
      are = record { count = n; counted = counted; begun = c.standing.begun; names = t.names; named = t.named; each = m.each };
      blocks = subst (λ (i : ℕ). IsCount 64 i (length tables.tables.items)) long m.counted;
    }

pub names_made : (has_names : Bool) (settings : Settings) (size : ℕ) (bytes : List ℕ) (n : ℕ) (held : Option NamedChunks) (c : NamedChunks) (tables : NameTables) → held ≡ Some c
    → AreNames has_names settings size bytes n held → IsCount size (length bytes) n → ((names : List (List (List ℕ))) → AreBlocksOf names c.blocks → AreBlockTables names tables)
    → HasNames has_names settings size bytes (Some tables)
names_made true settings size bytes n held c tables is told counted made = tables_made settings size bytes n c tables (subst (λ (o : Option NamedChunks). AreNames true settings size bytes n o) is told) counted made
names_made false settings size bytes n held c tables is told counted made = subst (λ (o : Option NamedChunks). AreNames false settings size bytes n o) is told

pub none_made : (has_names : Bool) (settings : Settings) (size : ℕ) (bytes : List ℕ) (n : ℕ) (held : Option NamedChunks) → held ≡ None
    → AreNames has_names settings size bytes n held → HasNames has_names settings size bytes None
none_made true settings size bytes n held is told = subst (λ (o : Option NamedChunks). AreNames true settings size bytes n o) is told
none_made false settings size bytes n held is told = tt
