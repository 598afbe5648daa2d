-- The fields of messages.
use Rattle.std.specs.Prelude.{ℕ, ◌<◌, ◌≡◌, ◌==◌, List, ◌++◌, take, drop, length, nat_lt, Bool, true, Option, Some, None, if◌then◌else◌}
use Rattle.std.specs.Int.{w16, w32, w64, from_be_bytes}
use Rattle.byteorder.specs.Endian.{big_bytes}
use Rattle.arj_base.specs.declared.uid.Uid.{Uid}
use Rattle.arj_base.specs.declared.binding.Binding.{Binding}
use Rattle.arj_base.specs.declared.mode.Mode.{Mode}
use Rattle.arj_base.specs.declared.mode.Mode.TheVariants.{Read, Exclude, Write}
use Rattle.arj_base.specs.declared.mode.End.{End}
use Rattle.arj_base.specs.declared.mode.End.TheVariants.{Abort, Commit}
use Rattle.arj_base.specs.Mode.{mode_code}
use Rattle.arj_base.specs.Uid.{uid_bytes, UidFits}
use Rattle.arj_msg.specs.Format.{Format, one_field, byte, between, shaped, both, chain, many, list}

-- A value of a fixed number of bytes, where the value in them is allowed.
abbrev pub cut_fixed : {A : Type 0} → ℕ → (List ℕ → A) → (A → Bool) → List ℕ → Option (A × List ℕ)
cut_fixed n value allowed bytes =
    if nat_lt (length bytes) n then None else (if allowed (value (take n bytes)) then Some (value (take n bytes), drop n bytes) else None)

-- a node
unfoldable pub node : Format ℕ
node = byte 1 16

-- an object
unfoldable pub object : Format ℕ
object = one_field (big_bytes 2) (λ x. between 1 256 x ≡ true) (cut_fixed 2 (from_be_bytes w16) (between 1 256))

-- the count of a long list
unfoldable pub number2 : Format ℕ
number2 = one_field (big_bytes 2) (λ n. n < 65536) (cut_fixed 2 (from_be_bytes w16) (λ _. true))

-- an incarnation or a request number
unfoldable pub number4 : Format ℕ
number4 = one_field (big_bytes 4) (λ n. n < 4294967296) (cut_fixed 4 (from_be_bytes w32) (λ _. true))

-- a number of an operation or an answer, or a version
unfoldable pub number8 : Format ℕ
number8 = one_field (big_bytes 8) (λ n. n < 18446744073709551616) (cut_fixed 8 (from_be_bytes w64) (λ _. true))

-- the incarnation and the count of a binding are one field
abbrev pub binding_bytes : Binding → List ℕ
binding_bytes b = big_bytes 4 b.inc ++ big_bytes 4 b.count

-- the binding in eight bytes: four of its incarnation, four of its count
abbrev pub binding_from : List ℕ → Binding
binding_from bytes = record { inc = from_be_bytes w32 (take 4 bytes); count = from_be_bytes w32 (drop 4 bytes) }

-- the incarnation and the count of a binding fit four bytes each
abbrev pub BindingFits : Binding → Type 0
BindingFits b = (b.inc < 4294967296) × (b.count < 4294967296)

-- a binding: eight bytes, any of them allowed
unfoldable pub binding : Format Binding
binding = one_field binding_bytes BindingFits (cut_fixed 8 binding_from (λ _. true))

-- the Uid in sixteen bytes: four of its node, four of its incarnation, eight of its number
abbrev pub uid_from : List ℕ → Uid
uid_from bytes =
    record {
      node = from_be_bytes w32 (take 4 bytes);
      inc = from_be_bytes w32 (take 4 (drop 4 bytes));
      num =
          from_be_bytes w64 (drop 8 bytes);
    }

-- a Uid: sixteen bytes, any of them allowed
unfoldable pub uid : Format Uid
uid = one_field uid_bytes UidFits (cut_fixed 16 uid_from (λ _. true))

-- yes or no
abbrev pub flag_code : Bool → ℕ
flag_code b = if b then 1 else 0

-- a yes or no: one byte, 1 or 0
unfoldable pub flag : Format Bool
flag = shaped (λ code. code == 1) flag_code (byte 0 1)

-- the mode of a code: 0 read, 1 exclude, else write
abbrev pub mode_from : ℕ → Mode
mode_from code = if code == 0 then Read else (if code == 1 then Exclude else Write)

-- a mode of a lock: one byte, 0 to 2
unfoldable pub mode : Format Mode
mode = shaped mode_from mode_code (byte 0 2)

-- the end of a code: 0 abort, else commit
abbrev pub end_from : ℕ → End
end_from code = if code == 0 then Abort else Commit

-- the code of an end: 0 for abort, 1 for commit
abbrev pub end_code : End → ℕ
end_code Abort = 0
end_code Commit = 1

-- how an action ended: one byte, 0 or 1
unfoldable pub outcome : Format End
outcome = shaped end_from end_code (byte 0 1)

-- actions with how they ended
abbrev pub ends : Format (List (Uid × End))
ends = list (both uid outcome)

-- a list whose count has two bytes
abbrev pub long_list : {A : Type 0} → Format A → Format (List A)
long_list f = shaped (λ p. p.1) (λ items. (length items, items)) (chain number2 (many f))
