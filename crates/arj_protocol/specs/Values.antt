-- Payloads of packed states as values, and as naming entries: what `payload_of` and `entry_payload` spell, read back.
use Rattle.std.specs.Int.{w64, from_be_bytes}
use Rattle.std.specs.Prelude.{ℕ, List, [], ◌∷◌, take, drop, ◌==◌, if◌then◌else◌}
use Rattle.arj_protocol.specs.Words.{Class, Value, Entry, ObjectState}
use Rattle.arj_protocol.specs.Words.class
use Rattle.arj_protocol.specs.Words.value

-- a number of eight bytes, high byte first
abbrev pub number_in : List ℕ → ℕ
number_in bytes = from_be_bytes w64 bytes

-- numbers of eight bytes, one behind the other
abbrev pub numbers_in : List ℕ → List ℕ
numbers_in (a ∷ b ∷ c ∷ d ∷ e ∷ f ∷ g ∷ h ∷ rest) = number_in (a ∷ b ∷ c ∷ d ∷ e ∷ f ∷ g ∷ h ∷ []) ∷ numbers_in rest
numbers_in _ = []

-- a list of numbers, two by two
abbrev pub in_pairs : List ℕ → List (ℕ × ℕ)
in_pairs (k ∷ v ∷ rest) = (k, v) ∷ in_pairs rest
in_pairs _ = []

-- the class of an object that is gone, by the payload of its state
abbrev pub gone_class : List ℕ → Class
gone_class [] = class.Table
gone_class (code ∷ rest) =
    if code == 1 then class.Counter else (if code == 2 then class.Register else (if code == 3 then class.Account else (if code == 4 then class.Queue else class.Table)))

-- The value of a class with this payload. What no value of the class is spelled as gives some value.
abbrev pub value_in : Class → List ℕ → Value
value_in class.Entry bytes = value.Counter 0
value_in class.Counter bytes = value.Counter (number_in bytes)
value_in class.Register bytes = value.Register bytes
value_in class.Account bytes = value.Account (number_in bytes)
value_in class.Queue bytes = value.Queue (numbers_in bytes)
value_in class.Table bytes = value.Table (in_pairs (numbers_in bytes))
value_in class.Gone bytes = value.Gone (gone_class bytes)

-- the value of a state
abbrev pub state_value : ObjectState → Value
state_value s = value_in s.class s.payload

-- the stores of an entry's payload, which stand behind their number
abbrev pub stores_in : List ℕ → List ℕ
stores_in [] = []
stores_in (n ∷ bytes) = take n bytes

-- the entry that a payload spells
abbrev pub entry_in : List ℕ → Entry
entry_in [] = record { servers = []; stores = [] }
entry_in (n ∷ bytes) = record { servers = take n bytes; stores = stores_in (drop n bytes) }

-- the entry of a state
abbrev pub state_entry : ObjectState → Entry
state_entry s = entry_in s.payload
