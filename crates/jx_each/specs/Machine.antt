-- How lines are made of a text's bytes, one byte after another, by the tokens of a pointer to the container.
use Rattle.std.specs.Prelude.{ℕ, suc, List, [], ◌∷◌, ◌++◌, codes, if◌then◌else◌, Bool, true, false, Option, Some, None, slice_get}
use Rattle.std.specs.Ordering.{nat_cmp, is_eq}
use Rattle.std.specs.Cmp.Lexicographic.{slice_cmp}
use Rattle.jx_compact.specs.declared.place.Place.TheVariants.{Between}
use Rattle.jx_compact.specs.Compact.{kept, next}
use Rattle.jx_index.specs.declared.units.Spelling.TheVariants.{InText}
use Rattle.jx_index.specs.Units.{between_marks, chars_units}
use Rattle.jx_each.specs.declared.content.LineContent.{LineContent}
use Rattle.jx_each.specs.declared.content.LineContent.TheVariants.{Alone, Named, NameAlone, Empty}
use Rattle.jx_each.specs.declared.sign.Turn.{Turn}
use Rattle.jx_each.specs.declared.sign.Turn.TheVariants.{EnterArray, EnterObject, Next, Value, Leave, Past, Stay}
use Rattle.jx_each.specs.declared.stand.Stage.{Stage}
use Rattle.jx_each.specs.declared.stand.Stage.TheVariants.{Ahead, Elements, Members, Array, Object, Name, Pair, Names, Empties, Over}
use Rattle.jx_each.specs.declared.stand.LineStand.{LineStand}
use Rattle.jx_each.specs.Due.{is_number}
use Rattle.jx_each.specs.Turns.{turn_at, height_next}

-- the tokens that lead to the container, and what a line has
pub record Aim : Type 0 where
  pub path : List (List ℕ)
  pub content : LineContent

abbrev pub aimed : LineContent → List (List ℕ) → Aim
aimed content path = record { path = path; content = content }

-- where the next byte stands, the whole lines so far, and what is kept of the element or the name after them
pub record Made : Type 0 where
  pub stand : LineStand
  pub lines : List ℕ
  pub part : List ℕ

-- of no byte
abbrev pub begun : Made
begun = record { stand = record { place = Between; height = 0; stage = Ahead 0; takes = false }; lines = []; part = [] }

-- ---- where the next byte stands

-- a name's string encodes a token
abbrev pub is_spelt : List ℕ → List ℕ → Bool
is_spelt string token = is_eq (slice_cmp nat_cmp (chars_units InText 0 (between_marks string)) token)

-- in the container: an array has no names
abbrev pub in_array : LineContent → Stage
in_array Alone = Array
in_array Named = Over
in_array NameAlone = Over
in_array Empty = Empties

abbrev pub in_object : LineContent → Stage
in_object Alone = Object
in_object Named = Name
in_object NameAlone = Names
in_object Empty = Empties

-- in front of an element, by the token that leads on, if there is one
abbrev pub at_element : LineContent → Option (List ℕ) → ℕ → ℕ → Stage
at_element content None level n = in_array content
at_element content (Some token) level n = if is_number token n then Ahead (suc level) else Elements level n

-- in front of a member
abbrev pub at_member : LineContent → Option (List ℕ) → ℕ → Stage
at_member content None level = in_object content
at_member content (Some token) level = Members level

-- after a name and its colon
abbrev pub at_value : Option (List ℕ) → ℕ → List ℕ → Stage
at_value None level name = Members level
at_value (Some token) level name = if is_spelt name token then Ahead (suc level) else Members level

abbrev pub ahead_next : Aim → ℕ → Turn → Stage
ahead_next aim level EnterArray = at_element aim.content (slice_get aim.path level) level 0
ahead_next aim level EnterObject = at_member aim.content (slice_get aim.path level) level
ahead_next aim level Past = Over
ahead_next aim level Next = Ahead level
ahead_next aim level Value = Ahead level
ahead_next aim level Leave = Ahead level
ahead_next aim level Stay = Ahead level

abbrev pub elements_next : Aim → ℕ → ℕ → Turn → Stage
elements_next aim level n Next = at_element aim.content (slice_get aim.path level) level (suc n)
elements_next aim level n Leave = Over
elements_next aim level n EnterArray = Elements level n
elements_next aim level n EnterObject = Elements level n
elements_next aim level n Past = Elements level n
elements_next aim level n Value = Elements level n
elements_next aim level n Stay = Elements level n

abbrev pub members_next : Aim → ℕ → List ℕ → Turn → Stage
members_next aim level name Value = at_value (slice_get aim.path level) level name
members_next aim level name Leave = Over
members_next aim level name EnterArray = Members level
members_next aim level name EnterObject = Members level
members_next aim level name Past = Members level
members_next aim level name Next = Members level
members_next aim level name Stay = Members level

-- in the container itself
abbrev pub open_next : Stage → Turn → Stage
open_next stage Leave = Over
open_next stage EnterArray = stage
open_next stage EnterObject = stage
open_next stage Past = stage
open_next stage Next = stage
open_next stage Value = stage
open_next stage Stay = stage

-- in front of the colon of a member whose name is written
abbrev pub name_next : Turn → Stage
name_next Value = Pair
name_next Leave = Over
name_next EnterArray = Name
name_next EnterObject = Name
name_next Past = Name
name_next Next = Name
name_next Stay = Name

-- and after it
abbrev pub pair_next : Turn → Stage
pair_next Next = Name
pair_next Leave = Over
pair_next EnterArray = Pair
pair_next EnterObject = Pair
pair_next Past = Pair
pair_next Value = Pair
pair_next Stay = Pair

abbrev pub stage_next : Aim → Stage → List ℕ → Turn → Stage
stage_next aim (Ahead level) name turn = ahead_next aim level turn
stage_next aim (Elements level n) name turn = elements_next aim level n turn
stage_next aim (Members level) name turn = members_next aim level name turn
stage_next aim Array name turn = open_next Array turn
stage_next aim Object name turn = open_next Object turn
stage_next aim Name name turn = name_next turn
stage_next aim Pair name turn = pair_next turn
stage_next aim Names name turn = open_next Names turn
stage_next aim Empties name turn = open_next Empties turn
stage_next aim Over name turn = Over

-- whether an element or a name begins where a container or a comma was read
abbrev pub begins_part : Stage → Bool
begins_part Array = true
begins_part (Members level) = true
begins_part Name = true
begins_part Names = true
begins_part Empties = true
begins_part Object = false
begins_part Pair = false
begins_part (Ahead level) = false
begins_part (Elements level n) = false
begins_part Over = false

-- whether a value that is written begins after a colon
abbrev pub begins_value : Stage → Bool
begins_value Object = true
begins_value Pair = true
begins_value Name = false
begins_value Names = false
begins_value Empties = false
begins_value Array = false
begins_value (Members level) = false
begins_value (Ahead level) = false
begins_value (Elements level n) = false
begins_value Over = false

-- by the stage after the byte
abbrev pub takes_next : Stage → Bool → Turn → Bool
takes_next stage takes EnterArray = begins_part stage
takes_next stage takes EnterObject = begins_part stage
takes_next stage takes Next = begins_part stage
takes_next stage takes Value = begins_value stage
takes_next stage takes Leave = false
takes_next stage takes Past = false
takes_next stage takes Stay = takes

-- heights count from the value that is ahead
abbrev pub height_in : Stage → ℕ → ℕ
height_in (Ahead level) height = 0
height_in (Elements level n) height = height
height_in (Members level) height = height
height_in Array height = height
height_in Object height = height
height_in Name height = height
height_in Pair height = height
height_in Names height = height
height_in Empties height = height
height_in Over height = height

abbrev pub height_by : Turn → Stage → ℕ → ℕ
height_by EnterArray stage height = height_in stage height
height_by EnterObject stage height = height_in stage height
height_by Next stage height = height_in stage height
height_by Value stage height = height_in stage height
height_by Leave stage height = height
height_by Past stage height = height
height_by Stay stage height = height

abbrev pub stand_by : Aim → Turn → LineStand → List ℕ → ℕ → LineStand
stand_by aim turn stand part byte =
    let stage : Stage = stage_next aim stand.stage part turn in
    record {
      place = next stand.place byte;
      height = height_by turn stage (height_next stand.place stand.height byte);
      stage = stage;
      takes = takes_next stage stand.takes turn;
    }

-- ---- what is made

-- an element ends with a line feed; where there is none, there is no line
abbrev pub line_of : List ℕ → List ℕ
line_of [] = []
line_of (byte ∷ bytes) = (byte ∷ bytes) ++ 0x0a ∷ []

-- the same where lines are empty
abbrev pub empty_line_of : List ℕ → List ℕ
empty_line_of [] = []
empty_line_of (byte ∷ bytes) = 0x0a ∷ []

-- the line of what is kept, where that is an element or the name of a member
abbrev pub lines_with : Stage → List ℕ → List ℕ → List ℕ
lines_with Array lines part = lines ++ line_of part
lines_with Object lines part = lines ++ line_of part
lines_with Pair lines part = lines ++ (part ++ codes "}\n")
lines_with Names lines part = lines ++ line_of part
lines_with Empties lines part = lines ++ empty_line_of part
lines_with Name lines part = lines
lines_with (Members level) lines part = lines
lines_with (Ahead level) lines part = lines
lines_with (Elements level n) lines part = lines
lines_with Over lines part = lines

abbrev pub lines_next : Stage → Turn → List ℕ → List ℕ → List ℕ
lines_next stage Next lines part = lines_with stage lines part
lines_next stage Leave lines part = lines_with stage lines part
lines_next stage EnterArray lines part = lines
lines_next stage EnterObject lines part = lines
lines_next stage Value lines part = lines
lines_next stage Past lines part = lines
lines_next stage Stay lines part = lines

-- the bytes that are kept in front of an element or of a name, by the stage there
abbrev pub part_at : Stage → List ℕ
part_at Name = codes "{\"name\":"
part_at Array = []
part_at Object = []
part_at Pair = []
part_at Names = []
part_at Empties = []
part_at (Members level) = []
part_at (Ahead level) = []
part_at (Elements level n) = []
part_at Over = []

-- after the colon, by the stage in front of it
abbrev pub part_of_value : Stage → List ℕ → List ℕ
part_of_value Name part = part ++ codes ",\"value\":"
part_of_value Names part = part
part_of_value Empties part = part
part_of_value Array part = []
part_of_value Object part = []
part_of_value Pair part = []
part_of_value (Members level) part = []
part_of_value (Ahead level) part = []
part_of_value (Elements level n) part = []
part_of_value Over part = []

-- after a byte that leads from one stage to another
abbrev pub part_next : Turn → LineStand → Stage → List ℕ → ℕ → List ℕ
part_next Stay stand stage part byte = part ++ (if stand.takes then kept stand.place byte else [])
part_next EnterArray stand stage part byte = part_at stage
part_next EnterObject stand stage part byte = part_at stage
part_next Next stand stage part byte = part_at stage
part_next Value stand stage part byte = part_of_value stand.stage part
part_next Leave stand stage part byte = []
part_next Past stand stage part byte = []

abbrev pub step : Aim → Made → ℕ → Made
step aim made byte =
    let turn : Turn = turn_at made.stand.place made.stand.height byte in
    let stand : LineStand = stand_by aim turn made.stand made.part byte in
    record {
      stand = stand;
      lines = lines_next made.stand.stage turn made.lines made.part;
      part = part_next turn made.stand stand.stage made.part byte;
    }

-- the lines and parts that are made after some bytes
abbrev pub run : Aim → Made → List ℕ → Made
run aim made [] = made
run aim made (byte ∷ bytes) = run aim (step aim made byte) bytes
