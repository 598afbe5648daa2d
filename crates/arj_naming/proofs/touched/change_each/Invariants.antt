use Rattle.std.proofs.Common.{◌≡◌, ℕ}
use Rattle.std.specs.List.Sorted.{IsStrictlySortedBy}
use Rattle.std.specs.Map.{keys_of}
use Rattle.std.specs.Ordering.{nat_cmp}
use Rattle.arj_naming.specs.Objects.{changed_by}
use Rattle.arj_naming.specs.Touched.{changed_at, is_in}
use Rattle.arj_protocol.specs.Order.{at_number}
use Rattle.arj_naming.proofs.touched.change_each.Given as goal

-- with the objects that are left all are changed
abbrev pub invariant-loop-x : goal.invariant-loop-x
invariant-loop-x l = record {
  at : (q : ℕ) →
      changed_at (changed_by l.change) (is_in l.x-iterator q) (at_number q l.objects.entries) ≡ changed_at (changed_by l.change) (is_in l.xs.keys q) (at_number q l.fn.objects.entries);
  keys : keys_of l.objects.entries ≡ keys_of l.fn.objects.entries;
  sorted : IsStrictlySortedBy nat_cmp l.x-iterator;
}
