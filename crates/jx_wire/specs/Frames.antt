-- Frames: a header, and a body of as many bytes as the header says. A header is a list of fields, each ended by CR LF, and an
-- empty line. The field that gives the length of the body is named Content-Length, in capital letters or not.
use Rattle.std.specs.Prelude.{ℕ, ◌-◌, ◌==◌, ◌||◌, nat_lt, not, if◌then◌else◌, List, [], ◌∷◌, ◌++◌, length, map, take, drop, slice_index, codes, decimal, Option, Some, None, Result, Ok, Err, Bool, position, unwrap_or, Vec}
use Rattle.std.specs.Char.{to_ascii_lowercase}
use Rattle.std.specs.List.{list_all, list_any, flat_map}
use Rattle.std.specs.Str.{bytes_eq}
use Rattle.std.specs.Global.{Global}
use Rattle.jx_wire.specs.declared.frame_fault.FrameFault.{FrameFault}
use Rattle.jx_wire.specs.declared.frame_fault.FrameFault.TheVariants.{BareLineFeed, LongLine, NoColon, NoLength, TwoLengths, NoNumber, LongFrame}
use Rattle.jx_wire.specs.declared.frame_reader.Part.{Part}
use Rattle.jx_wire.specs.declared.frame_reader.Part.TheVariants.{Head, Body, Broken}
use Rattle.jx_wire.specs.Numbers.{number_of}

-- ---- a field

-- optional white space round a value (RFC 9110, section 5.6.3): a space or a tab
abbrev pub is_blank : ℕ → Bool
is_blank byte = byte == 0x20 || byte == 0x09

-- the offset of the first byte that is not white space
abbrev pub first_ink : List ℕ → Option ℕ
first_ink bytes = position (λ b. not (is_blank b)) bytes

abbrev pub ink_from : Option ℕ → List ℕ → List ℕ
ink_from None bytes = []
ink_from (Some start) bytes = drop start bytes

abbrev pub without_blanks : List ℕ → List ℕ
without_blanks bytes = ink_from (first_ink bytes) bytes

-- at most 2 to the 30
abbrev pub length_from : Option ℕ → Result ℕ FrameFault
length_from None = Err NoNumber
length_from (Some n) = if nat_lt 1073741824 n then Err LongFrame else Ok n

-- the offset of the first white space, or the end
abbrev pub word_end : List ℕ → ℕ
word_end bytes = unwrap_or (position is_blank bytes) (length bytes)

-- a word, with nothing but white space after it
abbrev pub length_by_word : ℕ → List ℕ → Result ℕ FrameFault
length_by_word end bytes = if list_all is_blank (drop end bytes) then length_from (number_of (take end bytes)) else Err NoNumber

-- decimal digits with white space around them
abbrev pub length_in : List ℕ → Result ℕ FrameFault
length_in value = length_by_word (word_end (without_blanks value)) (without_blanks value)

abbrev pub names_length : List ℕ → Bool
names_length line = bytes_eq (map to_ascii_lowercase (take 15 line)) (codes "content-length:")

abbrev pub if_given : Result ℕ FrameFault → Result (Option ℕ) FrameFault
if_given (Ok n) = Ok (Some n)
if_given (Err fault) = Err fault

-- the length that a field gives, if it gives one
abbrev pub field_of : List ℕ → Result (Option ℕ) FrameFault
field_of line =
    if not (list_any (λ b. b == 0x3a) line) then Err NoColon else
    if not (names_length line) then Ok None else
    if_given (length_in (drop 15 line))

-- ---- a header

-- after lines that give a length or none, by a field that gives one
abbrev pub head_with : Option ℕ → ℕ → Part
head_with None n = Head (Some n)
head_with (Some before) n = if before == n then Head (Some before) else Broken TwoLengths

abbrev pub end_of_head : Option ℕ → Part
end_of_head None = Broken NoLength
end_of_head (Some n) = Body n

abbrev pub behind_field : Option ℕ → Result (Option ℕ) FrameFault → Part
behind_field given (Err fault) = Broken fault
behind_field given (Ok None) = Head given
behind_field given (Ok (Some n)) = head_with given n

-- after a line that is not empty
abbrev pub behind_line : Option ℕ → List ℕ → Part
behind_line given line = if length line == 0 then end_of_head given else behind_field given (field_of line)

-- after a line that a line feed ended: a carriage return stands last in it
abbrev pub part_behind : Option ℕ → List ℕ → Part
part_behind given line = if slice_index line (length line - 1) == 0x0d then behind_line given (take (length line - 1) line) else Broken BareLineFeed

-- ---- a stream of frames, byte by byte

-- in which part of a frame a byte stands, and what was read of the line or of the body
pub record Reading : Type 0 where
  pub part : Part
  pub held : List ℕ

-- the reading that follows a byte, and the body that it ends, if it ends one
pub record Step : Type 0 where
  pub to : Reading
  pub ended : List (List ℕ)

abbrev pub at : Part → Reading
at part = record { part = part; held = [] }

abbrev pub start : Reading
start = at (Head None)

abbrev pub going : Reading → Step
going r = record { to = r; ended = [] }

-- at the start of a part; a body of no byte is whole at once
abbrev pub entered : Part → Step
entered (Body n) = if n == 0 then record { to = start; ended = [] ∷ [] } else going (at (Body n))
entered (Head given) = going (at (Head given))
entered (Broken fault) = going (at (Broken fault))

-- a byte of a header: a line has at most 1024 of them
abbrev pub in_head : Option ℕ → List ℕ → ℕ → Step
in_head given held byte =
    if byte == 0x0a then entered (part_behind given held) else
    if nat_lt (length held) 1024 then going (record { part = Head given; held = held ++ (byte ∷ []) }) else
    going (at (Broken LongLine))

-- a byte of a body of which so many are missing
abbrev pub in_body : ℕ → List ℕ → ℕ → Step
in_body missing held byte =
    if nat_lt 1 missing then going (record { part = Body (missing - 1); held = held ++ (byte ∷ []) }) else
    record { to = start; ended = (held ++ (byte ∷ [])) ∷ [] }

abbrev pub step_in : Part → List ℕ → ℕ → Step
step_in (Head given) held byte = in_head given held byte
step_in (Body missing) held byte = in_body missing held byte
step_in (Broken fault) held byte = going (record { part = Broken fault; held = held })

abbrev pub step : Reading → ℕ → Step
step r byte = step_in r.part r.held byte

-- where bytes lead
unfoldable pub read_on : Reading → List ℕ → Reading
read_on r [] = r
read_on r (byte ∷ bytes) = read_on (step r byte).to bytes

-- the bodies that end in them
unfoldable pub bodies : Reading → List ℕ → List (List ℕ)
bodies r [] = []
bodies r (byte ∷ bytes) = (step r byte).ended ++ bodies (step r byte).to bytes

abbrev pub fault_in : Part → Option FrameFault
fault_in (Head given) = None
fault_in (Body missing) = None
fault_in (Broken fault) = Some fault

abbrev pub fault_of : Reading → Option FrameFault
fault_of r = fault_in r.part

-- the body that was handed out, if one was
abbrev pub ended_in : Option (Vec ℕ Global) → List (List ℕ)
ended_in None = []
ended_in (Some body) = body.items ∷ []

-- ---- what is written

-- a frame of a body
abbrev pub frame : List ℕ → List ℕ
frame body = codes "Content-Length: " ++ decimal (length body) ++ codes "\r\n\r\n" ++ body

abbrev pub frames : List (List ℕ) → List ℕ
frames bodies = flat_map frame bodies
