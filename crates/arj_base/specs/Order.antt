-- The orders of Uids, bindings and modes. Wherever something is sorted, least or increasing, it is by these.
use Rattle.std.specs.Ordering.{nat_cmp, ordering_then}
use Rattle.std.specs.declared.cmp.Ordering.{Ordering}
use Rattle.arj_base.specs.declared.binding.Binding.{Binding}
use Rattle.arj_base.specs.declared.mode.Mode.{Mode}
use Rattle.arj_base.specs.declared.uid.Uid.{Uid}
use Rattle.arj_base.specs.Mode.{mode_code}

-- by node, then by incarnation, then by number
abbrev pub uid_order : Uid → Uid → Ordering
uid_order u w = ordering_then (nat_cmp u.node w.node) (ordering_then (nat_cmp u.inc w.inc) (nat_cmp u.num w.num))

-- by incarnation, then by count
abbrev pub binding_order : Binding → Binding → Ordering
binding_order b c = ordering_then (nat_cmp b.inc c.inc) (nat_cmp b.count c.count)

-- read, exclude, write
abbrev pub mode_order : Mode → Mode → Ordering
mode_order m n = nat_cmp (mode_code m) (mode_code n)
