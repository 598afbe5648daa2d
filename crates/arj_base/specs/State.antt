-- Packed object states.
use Rattle.std.specs.Prelude.{ℕ, ◌+◌, ◌-◌, ◌*◌, ◌<◌, ◌==◌, nat_eq, nat_lt, List, [], ◌++◌, ◌∷◌, codes, length, slice_index, if◌then◌else◌}
use Rattle.std.specs.Prelude.{Bool, true, false, Option, Some, None, Result, Ok, Err}
use Rattle.std.specs.List.{starts_with}
use Rattle.byteorder.specs.Endian.{big_bytes}
use Rattle.arj_base.specs.declared.state.Class.{Class}
use Rattle.arj_base.specs.declared.state.Class.TheVariants.{Entry, Counter, Register, Account, Queue, Table, Gone}
use Rattle.arj_base.specs.declared.state.Format.{Format}
use Rattle.arj_base.specs.declared.state.Format.TheVariants.{One, Two}
use Rattle.arj_base.specs.declared.state.ObjectState.{ObjectState}
use Rattle.arj_base.specs.declared.state.StateFault.{StateFault}
use Rattle.arj_base.specs.declared.state.StateFault.TheVariants as fault
use Rattle.arj_base.specs.declared.limits.TheConstants.{MOST_BYTES, LAST_VERSION}
use Rattle.arj_base.specs.Uid.{uid_bytes, UidFits}

-- the code of a class in a packed state
abbrev pub class_code_of : Class → ℕ
class_code_of Entry = 0
class_code_of Counter = 1
class_code_of Register = 2
class_code_of Account = 3
class_code_of Queue = 4
class_code_of Table = 5
class_code_of Gone = 6

-- objects have this class: it is neither that of naming entries nor that of what is gone
abbrev pub is_object_class : Class → Bool
is_object_class Entry = false
is_object_class Gone = false
is_object_class _ = true

-- a packed state begins with its format
abbrev pub format_mark : Format → List ℕ
format_mark One = codes "ARJ1"
format_mark Two = codes "ARJ2"

-- the class version of the class with this code: what registers hold grew once
abbrev pub version_of_code : ℕ → ℕ
version_of_code code = if code == 2 then 2 else 1

-- the class, and in format two its class version
abbrev pub class_bytes : Format → Class → List ℕ
class_bytes One c = class_code_of c ∷ []
class_bytes Two c = class_code_of c ∷ version_of_code (class_code_of c) ∷ []

-- format two says the class version that the class has
abbrev pub version_fits : Format → List ℕ → Bool
version_fits One bytes = true
version_fits Two bytes = slice_index bytes 21 == version_of_code (slice_index bytes 20)

-- where the class ends
abbrev pub behind_class : Format → ℕ
behind_class One = 21
behind_class Two = 22

-- how many bytes stand before the payload
abbrev pub head_of : Format → ℕ
head_of format = behind_class format + 26

-- the format, then each field high byte first, the payload behind its length
abbrev pub state_bytes : ObjectState → List ℕ
state_bytes s =
    format_mark s.format ++ (uid_bytes s.uid ++ (class_bytes s.format s.class ++ (big_bytes 8 s.version ++ (uid_bytes s.writer ++ (big_bytes 2 (length s.payload) ++ s.payload)))))

-- A state is in form: each number fits its bytes, and so does the length of the payload.
abbrev pub StateInForm : ObjectState → Type 0
StateInForm s = UidFits s.uid × (s.version < 18446744073709551616) × UidFits s.writer × (length s.payload < MOST_BYTES + 1)

-- The version after this one, of the state that the next commit writes. The last version stands still.
abbrev pub version_after : ℕ → ℕ
version_after version = if nat_lt version LAST_VERSION then version + 1 else LAST_VERSION

-- the format that bytes begin with
abbrev pub format_in : List ℕ → Option Format
format_in bytes =
    if starts_with nat_eq bytes (format_mark One) then Some One
    else (if starts_with nat_eq bytes (format_mark Two) then Some Two else None)

-- the two bytes from a place on are the number of those behind them
abbrev pub length_fits : ℕ → List ℕ → Bool
length_fits at bytes = slice_index bytes at * 256 + slice_index bytes (at + 1) == length bytes - (at + 2)

-- why bytes of a format are no packed state
abbrev pub head_fault : Format → List ℕ → Option StateFault
head_fault format bytes =
    if nat_lt (length bytes) (head_of format) then Some fault.Short
    else (if nat_lt 6 (slice_index bytes 20) then Some fault.Class
    else (if version_fits format bytes then (if length_fits (behind_class format + 24) bytes then None else Some fault.Length)
    else Some fault.ClassVersion))

-- Why bytes are no packed state, tested in this order. Byte 20 of the head is the class, byte 21 of format two its class version,
-- and the last two bytes of the head give the length of the payload.
abbrev pub state_fault : List ℕ → Option StateFault
state_fault bytes = if nat_lt (length bytes) 4 then Some fault.Short else behind_mark (format_in bytes) bytes
  where
    behind_mark : Option Format → List ℕ → Option StateFault
    behind_mark None bytes = Some fault.Magic
    behind_mark (Some format) bytes = head_fault format bytes

-- the fault that an answer names, other than want of memory
abbrev pub named_fault : Result ObjectState StateFault → Option StateFault
named_fault (Ok s) = None
named_fault (Err fault.Memory) = None
named_fault (Err e) = Some e
