-- Locks that are looked for together.
use Rattle.std.specs.Prelude.{ℕ, Bool, true, ◌&&◌, nat_lt, Option, Some, None}
use Rattle.std.specs.Ordering.{is_eq}
use Rattle.std.specs.declared.cmp.Ordering.{Ordering}
use Rattle.std.specs.declared.ops.Bound.{Bound}
use Rattle.std.specs.declared.ops.Bound.TheVariants.{Included, Excluded}
use Rattle.arj_base.specs.Mode.{conflicting}
use Rattle.arj_base.specs.Rows.{Row, is_held_by, is_on, is_row_of}
use Rattle.arj_base.specs.Uid.{uid_eq}
use Rattle.arj_lock.specs.Locks.{shown}
use Rattle.arj_lock.specs.contracts.group.GroupOrd.TheImpl as group_ord
use Rattle.arj_lock.specs.contracts.group.MemberOrd.TheImpl as member_ord
use Rattle.arj_lock.specs.declared.group.Group.{Group}
use Rattle.arj_lock.specs.declared.group.Group.TheVariants.{Own, Held, Below, Against}
use Rattle.arj_lock.specs.declared.group.Member.{Member}
use Rattle.arj_lock.specs.declared.lock.Lock.{Lock}

-- the row is in the group
abbrev pub has : Group → Row → Bool
has (Own object holder) row = is_row_of object holder row
has (Held holder) row = is_held_by holder row
has (Below action) row = is_on row.holder action
has (Against object mode) row = uid_eq row.object object && conflicting row.mode mode

-- the orders in which an index keeps them, those of `cmp`

-- the order of groups
abbrev pub group_order : Group → Group → Ordering
group_order = (group_ord.ghosts).cmp

-- the order of members within a group
abbrev pub member_order : Member → Member → Ordering
member_order = (member_ord.ghosts).cmp

-- it is the same group
abbrev pub same : Group → Group → Bool
same g h = is_eq (group_order g h)

-- the grant is a later one than this, if one is given
abbrev pub is_after : Option ℕ → ℕ → Bool
is_after None n = true
is_after (Some grant) n = nat_lt grant n

-- the lock under this grant is in the group, and a later one than this, if one is given
abbrev pub is_next : Group → Option ℕ → ℕ × Lock → Bool
is_next group after e = is_after after e.0 && has group (shown e.1)

-- the members of a group from its first on, or behind a grant
abbrev pub start : Group → Option ℕ → Bound Member
start g None = Included (record { group = g; grant = 0 })
start g (Some grant) = Excluded (record { group = g; grant = grant })
