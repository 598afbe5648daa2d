-- Values as payloads of packed states, and which values and operations are in form.
use Rattle.std.specs.Prelude.{ℕ, ◌≡◌, ◌≤◌, ◌<◌, nat_le, not, Bool, true, List, [], ◌∷◌, length, ⊤}
use Rattle.std.specs.List.{flat_map}
use Rattle.byteorder.specs.Endian.{big_bytes}
use Rattle.arj_base.specs.State.{class_code_of, is_object_class}
use Rattle.arj_base.specs.declared.state.Format.{Format}
use Rattle.arj_base.specs.declared.state.Format.TheVariants.{One, Two}
use Rattle.arj_class.specs.Keys.{KeysRise, pair_bytes}
use Rattle.arj_class.specs.Table.{class_of, is_gone, is_value_of}
use Rattle.arj_class.specs.declared.limits.TheConstants.{QUEUE_NUMBERS, REGISTER_BYTES, REGISTER_BYTES_ONE, TABLE_PAIRS}
use Rattle.arj_class.specs.declared.op.Op.{Op}
use Rattle.arj_class.specs.declared.op.Op.TheVariants.{Put, Create}
use Rattle.arj_class.specs.declared.value.Value.{Value}
use Rattle.arj_class.specs.declared.value.Value.TheVariants.{Counter, Register, Account, Queue, Table, Gone}

-- the payload of a value's packed state: of an object that is gone, its class
abbrev pub payload_of : Value → List ℕ
payload_of (Counter n) = big_bytes 8 n
payload_of (Register bytes) = bytes
payload_of (Account n) = big_bytes 8 n
payload_of (Queue ns) = flat_map (big_bytes 8) ns
payload_of (Table ps) = flat_map pair_bytes ps
payload_of (Gone c) = class_code_of c ∷ []

-- each number fits 64 bits
abbrev pub NumbersFit : List ℕ → Type 0
NumbersFit [] = ⊤
NumbersFit (n ∷ ns) = (n < 18446744073709551616) × NumbersFit ns

-- each key and each value fits 64 bits
abbrev pub PairsFit : List (ℕ × ℕ) → Type 0
PairsFit [] = ⊤
PairsFit (p ∷ ps) = (p.0 < 18446744073709551616) × (p.1 < 18446744073709551616) × PairsFit ps

-- a value is in form: numbers of 64 bits, and no more of anything than its class holds; what is gone has a class of objects
abbrev pub ValueInForm : Value → Type 0
ValueInForm (Counter n) = n < 18446744073709551616
ValueInForm (Register bytes) = length bytes ≤ REGISTER_BYTES
ValueInForm (Account n) = n < 18446744073709551616
ValueInForm (Queue ns) = (length ns ≤ QUEUE_NUMBERS) × NumbersFit ns
ValueInForm (Table ps) = (length ps ≤ TABLE_PAIRS) × KeysRise ps × PairsFit ps
ValueInForm (Gone c) = is_object_class c ≡ true

-- how many bytes a register holds at most in a format
abbrev pub register_bytes_of : Format → ℕ
register_bytes_of One = REGISTER_BYTES_ONE
register_bytes_of Two = REGISTER_BYTES

-- the format holds the value: only what a register holds has grown
abbrev pub FormatHolds : Format → Value → Type 0
FormatHolds format (Register bytes) = length bytes ≤ register_bytes_of format
FormatHolds _ _ = ⊤

-- the same as a test
abbrev pub format_holds : Format → Value → Bool
format_holds format (Register bytes) = nat_le (length bytes) (register_bytes_of format)
format_holds _ _ = true

-- an operation is in form: the bytes of a put are limited, and what an object comes with is a value in form that isn't gone
abbrev pub OpInForm : Op → Type 0
OpInForm (Put bytes) = length bytes ≤ REGISTER_BYTES
OpInForm (Create v) = ValueInForm v × (is_value_of (class_of v) v ≡ true)
OpInForm _ = ⊤

-- the same as a test, of an operation whose value is in form
abbrev pub is_op_in_form : Op → Bool
is_op_in_form (Put bytes) = nat_le (length bytes) REGISTER_BYTES
is_op_in_form (Create v) = not (is_gone v)
is_op_in_form _ = true
