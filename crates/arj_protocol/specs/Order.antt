-- How Uids, bindings and versions compare, and finite maps and sets: sorted lists, as an ordered map or set has its
-- entries.
use Rattle.std.specs.Prelude.{ℕ, zero, suc, ◌+◌, ◌*◌, Bool, true, false, ◌==◌, nat_lt, if◌then◌else◌, List, [], ◌∷◌, filter, map, Option}
use Rattle.std.specs.Prelude.{Some, None, not, min}
use Rattle.std.specs.List.{list_any}
use Rattle.std.specs.Ordering.{nat_cmp}
use Rattle.std.specs.Map.{lookup, remove_entry}
use Rattle.std.specs.BTreeMap.{insert_entry, is_at}
use Rattle.std.specs.BTreeSet.{insert_key}
use Rattle.arj_protocol.specs.Words.{Uid, Binding, uid_eq, uid_order}

-- Two numbers as one, from which both can be told: the first counts the factors 2, the second gives the odd rest.
abbrev pub as_one : ℕ → ℕ → ℕ
as_one zero n = 2 * n + 1
as_one (suc m) n = 2 * as_one m n

-- A Uid as one number, whatever its parts are.
abbrev pub uid_number : Uid → ℕ
uid_number u = as_one u.node (as_one u.inc u.num)

-- A binding as a number: naming incarnations and counts have 32 bits.
abbrev pub binding_number : Binding → ℕ
binding_number b = b.inc * 4294967296 + b.count

-- the same binding
abbrev pub binding_eq : Binding → Binding → Bool
binding_eq b c = binding_number b == binding_number c

-- the binding was made earlier
abbrev pub binding_less : Binding → Binding → Bool
binding_less b c = nat_lt (binding_number b) (binding_number c)

-- no binding
abbrev pub unbound : Binding
unbound = record { inc = 0; count = 0 }

-- the lesser and the greater of two bindings
abbrev pub lesser_binding : Binding → Binding → Binding
lesser_binding b c = if binding_less c b then c else b

-- of two bindings the later one
abbrev pub greater_binding : Binding → Binding → Binding
greater_binding b c = if binding_less c b then b else c

-- the version after this one; the last one of 64 bits stands still
abbrev pub next_version : ℕ → ℕ
next_version v = min (v + 1) 18446744073709551615

-- ---- maps by number

-- what the map has under a number
abbrev pub at_number : {X : Type 0} → ℕ → List (ℕ × X) → Option X
at_number k m = lookup (is_at (nat_cmp k)) m

-- the map has this under a number
abbrev pub put_number : {X : Type 0} → ℕ → X → List (ℕ × X) → List (ℕ × X)
put_number k v m = insert_entry nat_cmp m k v

-- each value changed by its key
abbrev pub each : {X : Type 0} → (ℕ → X → X) → List (ℕ × X) → List (ℕ × X)
each {X} f m = map {A = ℕ × X} {B = ℕ × X} (λ e. (e.0, f e.0 e.1)) m

-- ---- maps and sets by Uid

-- what the map has under a Uid
abbrev pub at_uid : {X : Type 0} → Uid → List (Uid × X) → Option X
at_uid u m = lookup (is_at (uid_order u)) m

-- the map has this under a Uid
abbrev pub put_uid : {X : Type 0} → Uid → X → List (Uid × X) → List (Uid × X)
put_uid u v m = insert_entry uid_order m u v

-- the map has nothing under the Uid
abbrev pub without_uid : {X : Type 0} → Uid → List (Uid × X) → List (Uid × X)
without_uid u m = remove_entry (is_at (uid_order u)) m

-- the Uid is in the set, in its order
abbrev pub with_uid : Uid → List Uid → List Uid
with_uid u us = insert_key uid_order us u

-- the Uid isn't in the set
abbrev pub drop_uid : Uid → List Uid → List Uid
drop_uid u us = filter (λ w. not (uid_eq w u)) us

-- these Uids in increasing order, each once
abbrev pub uid_set : List Uid → List Uid
uid_set [] = []
uid_set (u ∷ us) = with_uid u (uid_set us)

-- ---- sets of numbers, as of nodes

-- the number is in the list
abbrev pub has : List ℕ → ℕ → Bool
has ns n = list_any (λ m. m == n) ns

-- the number is in the set, in its order
abbrev pub with_number : ℕ → List ℕ → List ℕ
with_number n ns = insert_key nat_cmp ns n

-- these numbers in increasing order, each once
abbrev pub number_set : List ℕ → List ℕ
number_set [] = []
number_set (n ∷ ns) = with_number n (number_set ns)

-- the number isn't in the list
abbrev pub without_number : ℕ → List ℕ → List ℕ
without_number n ns = filter (λ m. not (m == n)) ns

-- it is this binding
abbrev pub is_binding : Binding → Option Binding → Bool
is_binding b None = false
is_binding b (Some c) = binding_eq b c

-- a list without items
abbrev pub is_empty : {A : Type 0} → List A → Bool
is_empty [] = true
is_empty (a ∷ rest) = false
