-- The messages of faults.
use Rattle.std.specs.Prelude.{ℕ, List, [], ◌∷◌, ◌++◌, ◌==◌, codes, if◌then◌else◌}
use Rattle.jx_files.specs.declared.file_fault.FileFault.{FileFault}
use Rattle.jx_files.specs.declared.file_fault.FileFault.TheVariants.{Folder, Open, Read, Memory, Pieces, NoPointer, PointerOrFile}
use Rattle.jx_files.specs.declared.reason.Reason.{Reason}
use Rattle.jx_files.specs.declared.reason.Reason.TheVariants as reason
use Rattle.jx_words.specs.Showing.{shown}

-- the error numbers of Linux whose reason has a message
abbrev pub reasons : List (ℕ × Reason)
reasons =
    (1, reason.NotPermitted) ∷ (2, reason.NoFile) ∷ (5, reason.InputOutput) ∷ (6, reason.NoDevice) ∷ (13, reason.Denied) ∷ (16, reason.Busy)
    ∷ (20, reason.NoFolder) ∷ (21, reason.Folder) ∷ (22, reason.Invalid) ∷ (24, reason.TooManyOpen) ∷ (36, reason.NameTooLong)
    ∷ (40, reason.Loop) ∷ (116, reason.Stale) ∷ []

abbrev pub reason_in : List (ℕ × Reason) → ℕ → Reason
reason_in [] number = reason.Other
reason_in (row ∷ rows) number = if number == row.0 then row.1 else reason_in rows number

abbrev pub reason_at : ℕ → Reason
reason_at number = reason_in reasons number

abbrev pub fault_head : FileFault → List ℕ
fault_head Folder = codes "is a directory"
fault_head (Open why) = codes "cannot open"
fault_head (Read why) = codes "read failed"
fault_head Memory = codes "out of memory"
fault_head Pieces = codes "too many pieces"
fault_head NoPointer = codes "no slash: a FILE stands behind --file"
fault_head PointerOrFile = codes "names a file: write '' FILE, or POINTER FILE"

-- the system's reason
abbrev pub fault_reason : FileFault → Reason
fault_reason (Open why) = why
fault_reason (Read why) = why
fault_reason _ = reason.Other

-- the rest of its message
abbrev pub fault_tail : Reason → List ℕ
fault_tail reason.NotPermitted = codes ": Operation not permitted"
fault_tail reason.NoFile = codes ": No such file or directory"
fault_tail reason.InputOutput = codes ": Input/output error"
fault_tail reason.NoDevice = codes ": No such device or address"
fault_tail reason.Denied = codes ": Permission denied"
fault_tail reason.Busy = codes ": Device or resource busy"
fault_tail reason.NoFolder = codes ": Not a directory"
fault_tail reason.Folder = codes ": Is a directory"
fault_tail reason.Invalid = codes ": Invalid argument"
fault_tail reason.TooManyOpen = codes ": Too many open files"
fault_tail reason.NameTooLong = codes ": File name too long"
fault_tail reason.Loop = codes ": Too many levels of symbolic links"
fault_tail reason.Stale = codes ": Stale file handle"
fault_tail reason.Other = []

-- jx: NAME: FAULT
abbrev pub fault_line : List ℕ → FileFault → List ℕ
fault_line word fault = codes "jx: " ++ shown word ++ codes ": " ++ fault_head fault ++ fault_tail (fault_reason fault) ++ 10 ∷ []
