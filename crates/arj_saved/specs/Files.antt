-- What the files of an image are.
use Rattle.std.specs.Prelude.{ℕ, Bool, true, false, ◌&&◌, ◌==◌, not, nat_le, if◌then◌else◌, List, [], ◌∷◌, codes, length, take, drop, Option, Some, None}
use Rattle.std.specs.Int.{w32, from_be_bytes}
use Rattle.std.specs.List.{list_all, list_any}
use Rattle.std.specs.Str.{bytes_eq}
use Rattle.arj_disk.specs.declared.slot.Role.{Role}
use Rattle.arj_disk.specs.declared.slot.Role.TheVariants.{Names, Store}
use Rattle.arj_disk.specs.declared.slot.Slot.{Slot}
use Rattle.arj_disk.specs.declared.slot.Slot.TheVariants as slot
use Rattle.arj_image.specs.declared.image.NodeFile.{NodeFile}
use Rattle.arj_saved.specs.Rows.{is_segment}
use Rattle.arj_saved.specs.declared.files.TheConstants.{MOST_COUNT}

-- it is the name of what is prepared, or of a record
abbrev pub is_unfinished : Slot → Bool
is_unfinished (slot.Pending r a) = true
is_unfinished (slot.Intent a) = true
is_unfinished _ = false

-- nothing is prepared, and no record is there
abbrev pub is_quiet : List NodeFile → Bool
is_quiet files = not (list_any (λ f. is_unfinished f.slot) files)

-- it is the name of the incarnation's file
abbrev pub is_inc_slot : Slot → Bool
is_inc_slot slot.Incarnation = true
is_inc_slot _ = false

-- the number in an incarnation's file, where it is in its grammar: `ARJI` and four bytes
abbrev pub inc_in : List ℕ → Option ℕ
inc_in bytes =
    if (length bytes == 8) && bytes_eq (take 4 bytes) (codes "ARJI") then Some (from_be_bytes w32 (drop 4 bytes)) else None

-- the incarnation of a node, where its file is there in the grammar
abbrev pub inc_at : List NodeFile → ℕ → Option ℕ
inc_at [] n = None
inc_at (f ∷ fs) n = if (f.node == n) && is_inc_slot f.slot then inc_in f.bytes else inc_at fs n

-- an incarnation that a node may be in: not 0, and not too great
abbrev pub is_inc : Option ℕ → Bool
is_inc None = false
is_inc (Some n) = nat_le 1 n && nat_le n MOST_COUNT

-- a segment of this number may be there: not too great, and of naming's on node 1 alone
abbrev pub is_place : ℕ → Role → ℕ → Bool
is_place n Store k = nat_le k MOST_COUNT
is_place n Names k = (n == 1) && nat_le k MOST_COUNT

-- a file may be there: an incarnation or a segment in its grammar, or what is written before it gets its name
abbrev pub is_in_place : ℕ → Slot → List ℕ → Bool
is_in_place n slot.Incarnation bytes = is_inc (inc_in bytes)
is_in_place n slot.Tmp bytes = true
is_in_place n (slot.Segment r k) bytes = is_place n r k && is_segment bytes
is_in_place n _ bytes = false

-- each file may be there
abbrev pub are_in_place : List NodeFile → Bool
are_in_place files = list_all (λ f. is_in_place f.node f.slot f.bytes) files
