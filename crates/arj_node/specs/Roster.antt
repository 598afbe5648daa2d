-- What a node keeps of its run's header.
use Rattle.std.specs.Prelude.{◌≡◌, ◌==◌, ℕ, List, Option, Some, None, find, if◌then◌else◌}
use Rattle.std.specs.BTreeMap.{BTreeMap, get}
use Rattle.std.specs.Ordering.{nat_cmp}
use Rattle.arj_node.specs.declared.roster.Roster.{Roster}
use Rattle.arj_protocol.specs.Step.{class_at, class_in}
use Rattle.arj_protocol.specs.Words.{Class, Header, ObjectLine, own_class}

-- the class that is kept of an object
abbrev pub class_kept : BTreeMap ℕ Class → ℕ → Option Class
class_kept classes x = get nat_cmp classes x

-- the class of an object, if it has this number
abbrev pub one_class : ℕ → ObjectLine → Option Class
one_class x o = if o.x == x then Some (own_class o.value) else None

-- the classes of these objects are kept
abbrev pub AreClasses : List ObjectLine → BTreeMap ℕ Class → Type 0
AreClasses objects classes = (x : ℕ) → class_kept classes x ≡ class_in (find (λ (o : ObjectLine). o.x == x) objects)

-- this is of the header
pub record IsOf (header : Header) (roster : Roster) : Type 0 where
  pub nodes : roster.nodes ≡ header.nodes
  pub classes : (x : ℕ) → class_kept roster.classes x ≡ class_at x header
