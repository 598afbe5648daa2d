-- Uids: their bytes, their text, and the names of objects and entries.
use Rattle.std.specs.Prelude.{ℕ, List, ◌++◌, codes, Bool, ◌==◌, ◌&&◌, ◌<◌}
use Rattle.std.specs.Fmt.{decimal}
use Rattle.byteorder.specs.Endian.{big_bytes}
use Rattle.arj_base.specs.declared.uid.Uid.{Uid}
use Rattle.arj_base.specs.declared.binding.Binding.{Binding}

-- node, incarnation and number, high byte first
abbrev pub uid_bytes : Uid → List ℕ
uid_bytes u = big_bytes 4 u.node ++ (big_bytes 4 u.inc ++ big_bytes 8 u.num)

-- each part of a Uid fits its bytes
abbrev pub UidFits : Uid → Type 0
UidFits u = (u.node < 4294967296) × (u.inc < 4294967296) × (u.num < 18446744073709551616)

-- three decimals with points between them
abbrev pub uid_text : Uid → List ℕ
uid_text u = decimal u.node ++ (codes "." ++ (decimal u.inc ++ (codes "." ++ decimal u.num)))

-- two decimals with a point between them
abbrev pub binding_text : Binding → List ℕ
binding_text b = decimal b.inc ++ (codes "." ++ decimal b.count)

-- they are one and the same, part by part
abbrev pub uid_eq : Uid → Uid → Bool
uid_eq u w = (u.node == w.node) && ((u.inc == w.inc) && (u.num == w.num))

-- the Uid of object x, and that of its naming entry
abbrev pub object : ℕ → Uid
object x = record { node = 0; inc = 0; num = x }

-- the Uid of the naming entry of object x
abbrev pub entry : ℕ → Uid
entry x = record { node = 0; inc = 1; num = x }

-- the writer of a state that no commit wrote
abbrev pub nobody : Uid
nobody = record { node = 0; inc = 0; num = 0 }
