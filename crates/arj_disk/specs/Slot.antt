-- The orders of roles and of the names of files. `orders` says that these are what the types' comparisons answer.
use Rattle.std.specs.Prelude.{ℕ}
use Rattle.std.specs.Ordering.{nat_cmp, ordering_then}
use Rattle.std.specs.declared.cmp.Ordering.{Ordering}
use Rattle.std.specs.declared.cmp.Ordering.TheVariants.{Equal}
pub use Rattle.arj_base.specs.Order.{uid_order}
use Rattle.arj_disk.specs.declared.slot.Role.{Role}
use Rattle.arj_disk.specs.declared.slot.Role.TheVariants.{Store, Names}
use Rattle.arj_disk.specs.declared.slot.Slot.{Slot}
use Rattle.arj_disk.specs.declared.slot.Slot.TheVariants.{Incarnation, Tmp, Committed, Shadow, Prepared, Intent, Pending, Segment}

-- the store's first, then the naming service's
abbrev pub role_place : Role → ℕ
role_place Store = 0
role_place Names = 1

-- which of two roles comes first
abbrev pub role_order : Role → Role → Ordering
role_order r s = nat_cmp (role_place r) (role_place s)

-- the kinds of names in their order
abbrev pub kind_place : Slot → ℕ
kind_place Incarnation = 0
kind_place Tmp = 1
kind_place (Committed u) = 2
kind_place (Shadow u) = 3
kind_place (Prepared role a) = 4
kind_place (Intent a) = 5
kind_place (Pending role a) = 6
kind_place (Segment role k) = 7

-- two names of one kind: by what they hold
abbrev pub kin_order : Slot → Slot → Ordering
kin_order (Committed u) (Committed w) = uid_order u w
kin_order (Shadow u) (Shadow w) = uid_order u w
kin_order (Prepared r a) (Prepared s b) = ordering_then (role_order r s) (uid_order a b)
kin_order (Intent a) (Intent b) = uid_order a b
kin_order (Pending r a) (Pending s b) = ordering_then (role_order r s) (uid_order a b)
kin_order (Segment r j) (Segment s k) = ordering_then (role_order r s) (nat_cmp j k)
kin_order _ _ = Equal

-- by their kinds, and then by what they hold
abbrev pub slot_order : Slot → Slot → Ordering
slot_order p q = ordering_then (nat_cmp (kind_place p) (kind_place q)) (kin_order p q)
