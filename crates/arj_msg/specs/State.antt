-- Object states in messages.
use Rattle.std.specs.Prelude.{◌≡◌, ℕ, ◌<◌, ◌/◌, List, [], ◌∷◌, ◌++◌, length, take, drop, ◌==◌, Bool, true, false, ◌&&◌}
use Rattle.std.specs.Prelude.{nat_le, nat_lt, Option, Some, None, is_some, Result, Ok, Err, if◌then◌else◌}
use Rattle.std.specs.Option.{option_map}
use Rattle.std.specs.Int.{w16, from_be_bytes}
use Rattle.byteorder.specs.Endian.{big_bytes}
use Rattle.arj_base.specs.declared.state.Class.{Class}
use Rattle.arj_base.specs.declared.state.Class.TheVariants as class
use Rattle.arj_base.specs.declared.state.ObjectState.{ObjectState}
use Rattle.arj_base.specs.declared.state.Format.{Format as StateFormat}
use Rattle.arj_base.specs.declared.state.Format.TheVariants.{One, Two}
use Rattle.arj_base.specs.State.{state_bytes, class_code_of, format_in, format_mark, version_of_code, StateInForm}
use Rattle.arj_class.specs.declared.value.Value.{Value}
use Rattle.arj_class.specs.declared.value.Value.TheVariants as value
use Rattle.arj_class.specs.Table.{class_of}
use Rattle.arj_class.specs.Forms.{FormatHolds, ValueInForm, payload_of, register_bytes_of}
use Rattle.arj_msg.specs.Format.{Format, one_field, byte, both, chain, many, shaped}
use Rattle.arj_msg.specs.Fields.{number8, uid}

-- The value whose bytes these are, all of them.
abbrev pub all_read : {A : Type 0} → Result (A × List ℕ) ℕ → Option A
all_read (Ok (a, [])) = Some a
all_read (Ok (a, b ∷ bytes)) = None
all_read (Err left) = None

-- the value that the format reads from these bytes, where it leaves none
abbrev pub in_all : {A : Type 0} → Format A → List ℕ → Option A
in_all f bytes = all_read (f.read bytes)

-- keys rise from one on
abbrev pub rises_from : ℕ → List (ℕ × ℕ) → Bool
rises_from k [] = true
rises_from k (p ∷ ps) = nat_lt k p.0 && rises_from p.0 ps

-- the keys of pairs are strictly increasing
abbrev pub rises : List (ℕ × ℕ) → Bool
rises [] = true
rises (p ∷ ps) = rises_from p.0 ps

-- the table of these pairs, if there are any whose keys are strictly increasing
abbrev pub table_from : Option (List (ℕ × ℕ)) → Option Value
table_from None = None
table_from (Some ps) = if rises ps then Some (value.Table ps) else None

-- the class with this code: 6 is that of objects that are gone
abbrev pub class_from : ℕ → Class
class_from code =
    if code == 1 then class.Counter else (if code == 2 then class.Register else (if code == 3 then class.Account else (if code == 4 then class.Queue else (if code == 5 then class.Table else class.Gone))))

-- the class of an object: one byte, 1 to 5
unfoldable pub object_class : Format Class
object_class = shaped class_from class_code_of (byte 1 5)

-- the value of the class that is saved to this payload and that the format holds, if there is one
abbrev pub value_from : StateFormat → Class → List ℕ → Option Value
value_from f class.Entry payload = None
value_from f class.Counter payload = option_map value.Counter (in_all number8 payload)
value_from f class.Register payload = if nat_le (length payload) (register_bytes_of f) then Some (value.Register payload) else None
value_from f class.Account payload = option_map value.Account (in_all number8 payload)
value_from f class.Queue payload = if nat_le (length payload) 256 then option_map value.Queue (in_all (many number8 (length payload / 8)) payload) else None
value_from f class.Table payload = if nat_le (length payload) 256 then table_from (in_all (many (both number8 number8) (length payload / 16)) payload) else None
value_from f class.Gone payload = option_map value.Gone (in_all object_class payload)

-- whether a value of the class that the format holds is saved to this payload
abbrev pub restores : StateFormat → Class → List ℕ → Bool
restores f c payload = is_some (value_from f c payload)

-- some value of the class that the format holds is saved to this payload
abbrev pub Restores : StateFormat → Class → List ℕ → Type 0
Restores f c payload = (v : Value) × (class_of v ≡ c) × ValueInForm v × FormatHolds f v × (payload_of v ≡ payload)

-- ---- packed states

-- the value, if there is one, and the bytes behind it
abbrev pub with_rest : {A : Type 0} → List ℕ → Option A → Option (A × List ℕ)
with_rest rest None = None
with_rest rest (Some a) = Some (a, rest)

-- the four bytes with which each packed state begins: its format
unfoldable pub mark : Format StateFormat
mark = one_field format_mark (λ _. Unit {0}) (λ bytes. with_rest (drop 4 bytes) (format_in bytes))

-- the class of an object's state: one byte, 1 to 6
unfoldable pub state_class : Format Class
state_class = shaped class_from class_code_of (byte 1 6)

-- the class version of the class: one byte
unfoldable pub class_version : Class → Format ℕ
class_version c = byte (version_of_code (class_code_of c)) (version_of_code (class_code_of c))

-- the class, and in format two its class version
abbrev pub class_in : StateFormat → Format Class
class_in One = state_class
class_in Two = shaped (λ p. p.0) (λ c. (c, version_of_code (class_code_of c))) (chain state_class class_version)

-- bytes behind their length
abbrev pub bytes_behind_length : ℕ → List ℕ → Option (List ℕ × List ℕ)
bytes_behind_length n rest = if nat_le n (length rest) then Some (take n rest, drop n rest) else None

-- bytes behind their length of two bytes, cut from the front of bytes that hold all of them
abbrev pub cut_long : List ℕ → Option (List ℕ × List ℕ)
cut_long bytes = if nat_lt (length bytes) 2 then None else bytes_behind_length (from_be_bytes w16 (take 2 bytes)) (drop 2 bytes)

-- fewer than 65,536 bytes behind their length of two bytes are one field
unfoldable pub long_bytes : Format (List ℕ)
long_bytes = one_field (λ bytes. big_bytes 2 (length bytes) ++ bytes) (λ bytes. length bytes < 65536) cut_long

-- the packed states of objects
unfoldable pub packed : Format ObjectState
packed = shaped (λ p. record {
  uid = p.1.0;
  class = p.1.1.0;
  version = p.1.1.1.0;
  writer = p.1.1.1.1.0;
  payload = p.1.1.1.1.1;
  format =
      p.0;
}) (λ s. (s.format, (s.uid, (s.class, (s.version, (s.writer, s.payload))))))
    (chain mark (λ f. both uid (both (class_in f) (both number8 (both uid long_bytes)))))

-- the state, if there is one and its payload restores in its class and format
abbrev pub restored : Option ObjectState → Option ObjectState
restored None = None
restored (Some s) = if restores s.format s.class s.payload then Some s else None

-- the state that these bytes pack, all of them, where its payload restores
unfoldable pub state_from : List ℕ → Option ObjectState
state_from bytes = restored (in_all packed bytes)

-- the state that the first bytes of a pair pack, if they pack one, and the second ones behind it
abbrev pub state_in : Option (List ℕ × List ℕ) → Option (ObjectState × List ℕ)
state_in None = None
state_in (Some p) = with_rest p.1 (state_from p.0)

-- A packed state behind its length is one field: a state of class 1 to 6 whose payload restores.
unfoldable pub state : Format ObjectState
state = one_field (λ s. big_bytes 2 (length (state_bytes s)) ++ state_bytes s) (λ s. StateInForm s × Restores s.format s.class s.payload) (λ bytes. state_in (cut_long bytes))

-- ---- values

-- the value of the class that is saved to the first bytes of a pair, if there is one, and the second ones behind it
abbrev pub value_taken : Class → Option (List ℕ × List ℕ) → Option (Value × List ℕ)
value_taken c None = None
value_taken c (Some p) = with_rest p.1 (value_from Two c p.0)

-- the payload of a value of the class behind its length of two bytes is one field
unfoldable pub payload_in : Class → Format Value
payload_in c = one_field (λ v. big_bytes 2 (length (payload_of v)) ++ payload_of v) (λ v. (class_of v ≡ c) × ValueInForm v) (λ bytes. value_taken c (cut_long bytes))

-- the value of an object that is there: its class in one byte, 1 to 5, and its payload
unfoldable pub value_there : Format Value
value_there = shaped (λ p. p.1) (λ v. (class_of v, v)) (chain object_class payload_in)
