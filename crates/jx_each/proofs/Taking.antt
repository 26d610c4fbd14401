-- How a maker of lines takes a slice.
use Rattle.std.specs.Prelude.{codes, Some, None, Option}
use Rattle.std.proofs.Common.{◌≡◌, ℕ, ◌+◌, ◌≤◌, List, [], ◌∷◌, ◌++◌, length, take, append_assoc, refl, sym, ap, subst, ◌∙◌, arith, zero-add}
use Rattle.std.proofs.lemmas.List.{take_all}
use Rattle.jx_run.specs.declared.texts.settings.Settings.{Settings}
use Rattle.jx_run.specs.declared.texts.verdict.Verdict.{Verdict}
use Rattle.jx_run.specs.Reader.{HasRead, ReaderValue}
use Rattle.jx_run.specs.Settings.{IsDocumentBy, IsLongestBeginningBy, JudgedBy}
use Rattle.jx_run.specs.Tree.{Tree, node}
use Rattle.jx_lex.specs.declared.kind.Kind.TheVariants as kind
use Rattle.jx_each.specs.declared.stand.Stage.TheVariants.{Ahead, Elements, Members, Array, Object, Name, Pair, Names, Empties, Over}
use Rattle.jx_each.proofs.Seeks.{stage_by}
use Rattle.jx_each.specs.declared.content.LineContent.{LineContent}
use Rattle.jx_each.specs.declared.stand.Stage.{Stage}
use Rattle.jx_each.specs.declared.sign.Turn.{Turn}
use Rattle.jx_each.specs.declared.sign.Turn.TheVariants as turns
use Rattle.jx_each.specs.declared.stand.LineStand.{LineStand}
use Rattle.jx_each.specs.Due.{IsDueBy, is_container}
use Rattle.jx_index.specs.Pointers.{tokens}
use Rattle.jx_each.specs.Each.{EachValue, HasTakenBy}
use Rattle.jx_each.specs.Machine.{Aim, Made, aimed, begun, empty_line_of, line_of, lines_next, lines_with, run, step}
use Rattle.jx_each.specs.Turns.{turn_at}
use Rattle.jx_each.specs.inside.Fronts.{has_begun, sound, sound_part}
use Rattle.jx_each.proofs.Dues.{is_due, longest_is_one, run_append, sound_goes_on, sound_is_longest, text_gives, whole_begins}

-- ---- lines behind others

abbrev pub with_given : List ℕ → Made → Made
with_given g m = record { stand = m.stand; lines = g ++ m.lines; part = m.part }

given_with : (stage : Stage) (g lines part : List ℕ) → lines_with stage (g ++ lines) part ≡ g ++ lines_with stage lines part
given_with Array g lines part = append_assoc g lines (line_of part)
given_with Object g lines part = append_assoc g lines (line_of part)
given_with Pair g lines part = append_assoc g lines (part ++ codes "}\n")
given_with Names g lines part = append_assoc g lines (line_of part)
given_with Empties g lines part = append_assoc g lines (empty_line_of part)
given_with Name g lines part = refl
given_with (Members level) g lines part = refl
given_with (Ahead level) g lines part = refl
given_with (Elements level n) g lines part = refl
given_with Over g lines part = refl

lines_given : (stage : Stage) (turn : Turn) (g lines part : List ℕ) → lines_next stage turn (g ++ lines) part ≡ g ++ lines_next stage turn lines part
lines_given stage turns.EnterArray g lines part = refl
lines_given stage turns.EnterObject g lines part = refl
lines_given stage turns.Next g lines part = given_with stage g lines part
lines_given stage turns.Value g lines part = refl
lines_given stage turns.Leave g lines part = given_with stage g lines part
lines_given stage turns.Past g lines part = refl
lines_given stage turns.Stay g lines part = refl

step_given : (aim : Aim) (g : List ℕ) (m : Made) (b : ℕ) → step aim (with_given g m) b ≡ with_given g (step aim m b)
step_given aim g m b =
    ap (λ (l : List ℕ). let done : Made = record { stand = (step aim m b).stand; lines = l; part = (step aim m b).part } in done)
    (lines_given m.stand.stage (turn_at m.stand.place m.stand.height b) g m.lines m.part)

pub run_given : (aim : Aim) (g : List ℕ) (m : Made) (w : List ℕ) → run aim (with_given g m) w ≡ with_given g (run aim m w)
run_given aim g m [] = refl
run_given aim g m (b ∷ w) = ap (λ (x : Made). run aim x w) (step_given aim g m b) ∙ run_given aim g (step aim m b) w

-- ---- the stand

abbrev stand_in : Option LineStand → LineStand
stand_in (Some s) = s
stand_in None = begun.stand

same_stand : (o : Option LineStand) (s t : LineStand) → o ≡ Some s → o ≡ Some t → s ≡ t
same_stand o s t a b = ap stand_in (sym a ∙ b)

-- ---- a slice

-- what a maker is behind a slice, by what its reader says
pub record Fed (old new : ReaderValue) (slice : List ℕ) (first second : Verdict) : Type 0 where
  pub settings : new.settings ≡ old.settings
  pub start : new.start ≡ old.start
  pub reads : (bytes : List ℕ) → HasRead bytes old → HasRead (bytes ++ slice) new
  pub judged : (bytes : List ℕ) → HasRead bytes old → JudgedBy old.settings old.start bytes first
  pub judged_again : (bytes : List ℕ) → HasRead bytes new → JudgedBy new.settings new.start bytes second

longest_of : (reader : ReaderValue) (bytes : List ℕ) (verdict : Verdict) → reader.start ≡ 0 → JudgedBy reader.settings reader.start bytes verdict → IsLongestBeginningBy reader.settings bytes (sound verdict (length bytes))
longest_of reader bytes verdict at judged =
    sound_is_longest reader.settings bytes verdict (subst (λ (n : ℕ). JudgedBy reader.settings n bytes verdict) at judged)

pub takes_slice : {content : LineContent} (old new : ReaderValue) (path : List (List ℕ)) (has : LineContent) (was : Option LineStand) (stand next : LineStand) (ready part lines left slice pointer bytes given : List ℕ) (first second : Verdict)
    → Fed old new slice first second
    → was ≡ Some stand
    → record { stand = next; lines = lines; part = left } ≡ run (aimed has path) (record { stand = stand; lines = ready; part = part })
    (sound_part slice (sound first (old.start + old.count)) (old.start + old.count) (sound second (new.start + new.count)))
    → HasTakenBy content pointer bytes given (record { reader = old; path = path; content = has; stand = was; ready = ready; part = part })
    → HasTakenBy content pointer (bytes ++ slice) given (record { reader = new; path = path; content = has; stand = Some next; ready = lines; part = left })
takes_slice {content} old new path has was stand next ready part lines left slice pointer bytes given first second fed is made h =
    let all : List ℕ = bytes ++ slice in
    let read : HasRead all new = fed.reads bytes h.read in
    let new_start : new.start ≡ 0 = fed.start ∙ h.at_start in
    let count : old.start + old.count ≡ length bytes = ap (λ (n : ℕ). n + old.count) h.at_start ∙ zero-add old.count ∙ h.read.count in
    let count_all : new.start + new.count ≡ length all = ap (λ (n : ℕ). n + new.count) new_start ∙ zero-add new.count ∙ read.count in
    let before : ℕ = sound first (length bytes) in
    let after : ℕ = sound second (length all) in
    let x : IsLongestBeginningBy old.settings bytes before = longest_of old bytes first h.at_start (fed.judged bytes h.read) in
    let y : IsLongestBeginningBy new.settings all after = longest_of new all second new_start (fed.judged_again all read) in
    let y_old : IsLongestBeginningBy old.settings all after = subst (λ (s : Settings). IsLongestBeginningBy s all after) fed.settings y in
    let same : h.k ≡ before = longest_is_one old.settings bytes h.k before h.longest x in
    let more : List ℕ = sound_part slice before (length bytes) after in
    record {
      read = read;
      at_start = new_start;
      path_is = h.path_is;
      content_is = h.content_is;
      k = after;
      longest = y;
      stand = next;
      stands = refl;
      made =
          ap (with_given given) (made
          ∙ ap (λ (n : ℕ). run (aimed has path) (record { stand = stand; lines = ready; part = part }) (sound_part slice (sound first n) n (sound second (new.start + new.count)))) count
          ∙ ap (λ (n : ℕ). run (aimed has path) (record { stand = stand; lines = ready; part = part }) (sound_part slice before (length bytes) (sound second n))) count_all)
          ∙ sym (run_given (aimed has path) given (record { stand = stand; lines = ready; part = part }) more)
          ∙ ap (λ (p : List (List ℕ)). run (aimed has p) (record { stand = stand; lines = given ++ ready; part = part }) more) h.path_is
          ∙ ap (λ (c : LineContent). run (aimed c (tokens pointer)) (record { stand = stand; lines = given ++ ready; part = part }) more) h.content_is
          ∙ ap (λ (s : LineStand). run (aimed content (tokens pointer)) (record { stand = s; lines = given ++ ready; part = part }) more) (same_stand was stand h.stand is h.stands)
          ∙ ap (λ (m : Made). run (aimed content (tokens pointer)) m more) h.made
          ∙ ap (λ (n : ℕ). run (aimed content (tokens pointer)) (run (aimed content (tokens pointer)) begun (take n bytes)) more) same
          ∙ sym (run_append (aimed content (tokens pointer)) begun (take before bytes) more)
          ∙ ap (run (aimed content (tokens pointer)) begun) (sym (sound_goes_on old.settings bytes slice before after x y_old));
    }

-- ---- what was taken

pub taken_is_due : {content : LineContent} (pointer bytes given : List ℕ) (each : EachValue) → HasTakenBy content pointer bytes given each → IsDueBy content each.reader.settings pointer bytes (given ++ each.ready)
taken_is_due {content} pointer bytes given each h =
    subst (λ (l : List ℕ). IsDueBy content each.reader.settings pointer bytes l) (sym (ap (λ (m : Made). m.lines) h.made)) (is_due each.reader.settings pointer bytes h.k h.longest)

-- what the stage behind a text tells
has_begun_by : (tree : Tree) → has_begun (stage_by (Ahead 0) tree) ≡ is_container tree
has_begun_by (node kind.Array s below) = refl
has_begun_by (node kind.Object s below) = refl
has_begun_by (node kind.String s below) = refl
has_begun_by (node kind.Number s below) = refl
has_begun_by (node kind.True s below) = refl
has_begun_by (node kind.False s below) = refl
has_begun_by (node kind.Null s below) = refl

pub root_is : {content : LineContent} (each : EachValue) (stand : LineStand) (pointer bytes given : List ℕ) (tree : Tree) → each.stand ≡ Some stand → HasTakenBy content pointer bytes given each → IsDocumentBy each.reader.settings 0 bytes tree
    → has_begun stand.stage ≡ is_container tree
root_is {content} each stand pointer bytes given tree is h d =
    let same : h.k ≡ length bytes = longest_is_one each.reader.settings bytes h.k (length bytes) h.longest (whole_begins each.reader.settings bytes tree d) in
    ap (λ (s : LineStand). has_begun s.stage) (same_stand each.stand stand h.stand is h.stands)
    ∙ ap (λ (m : Made). has_begun m.stand.stage) h.made
    ∙ ap (λ (l : List ℕ). has_begun (run (aimed content (tokens pointer)) begun l).stand.stage) (take_all h.k bytes (omega (arith, same)))
    ∙ ap has_begun (text_gives content (tokens pointer) each.reader.settings bytes tree d).stage
    ∙ has_begun_by tree

-- ---- before the first byte

none_begins : (settings : Settings) (verdict : Verdict) → JudgedBy settings 0 [] verdict → IsLongestBeginningBy settings [] 0
none_begins settings verdict judged =
    let longest : IsLongestBeginningBy settings [] (sound verdict 0) = sound_is_longest settings [] verdict judged in
    subst (λ (k : ℕ). IsLongestBeginningBy settings [] k) (let within : sound verdict 0 ≤ 0 = longest.within in let e : sound verdict 0 ≡ 0 = omega (arith, within) in e) longest

pub starts : (content : LineContent) (reader : ReaderValue) (path : List (List ℕ)) (pointer : List ℕ) (stand : LineStand) (verdict : Verdict) → HasRead [] reader → reader.start ≡ 0 → path ≡ tokens pointer → stand ≡ begun.stand → JudgedBy reader.settings 0 [] verdict
    → HasTakenBy content pointer [] [] (record { reader = reader; path = path; content = content; stand = Some stand; ready = []; part = [] })
starts content reader path pointer stand verdict read at is stands judged = record {
  read = read;
  at_start = at;
  path_is = is;
  content_is = refl;
  k = 0;
  longest = none_begins reader.settings verdict judged;
  stand = stand;
  stands = refl;
  made = ap (λ (s : LineStand). let m : Made = record { stand = s; lines = []; part = [] } in m) stands;
}

pub none_due : {content : LineContent} (settings : Settings) (pointer : List ℕ) (verdict : Verdict) → JudgedBy settings 0 [] verdict → IsDueBy content settings pointer [] []
none_due settings pointer verdict judged = is_due settings pointer [] 0 (none_begins settings verdict judged)
