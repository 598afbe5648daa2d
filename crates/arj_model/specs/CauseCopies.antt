-- The copies of objects at servers, the bindings that naming made, and the tops that entered a naming entry, as the
-- lines tell of them.
use Rattle.std.specs.Prelude.{ℕ, List, [], ◌∷◌, take, Bool, false, ◌==◌, ◌&&◌, ◌||◌, nat_lt, if◌then◌else◌, Option, Some, None}
use Rattle.std.specs.List.{list_any}
use Rattle.arj_base.specs.declared.binding.Binding.{Binding}
use Rattle.arj_journal.specs.declared.body.Body.{Body}
use Rattle.arj_journal.specs.declared.body.Body.TheVariants as body
use Rattle.arj_journal.specs.declared.body.Line.{Line}
use Rattle.arj_model.specs.Actions.{Act, Placed, read, root_in}
use Rattle.arj_model.specs.Refusals.{incarnation, is_root}
use Rattle.arj_start.specs.Start.{Start}
use Rattle.arj_model.specs.Table.{is_entry, path_by}

-- a copy of an object became active at a node, under a binding
pub record Activation : Type 0 where
  pub node : ℕ
  pub x : ℕ
  pub binding : Binding

-- naming bound an object to a server
pub record Naming : Type 0 where
  pub x : ℕ
  pub binding : Binding
  pub server : ℕ

-- naming granted a lock on the object's entry to a top of this root
pub record Entering : Type 0 where
  pub x : ℕ
  pub root : Option ℕ

-- what a line tells of a copy
abbrev pub activation_of : List Act → Body → Option Activation
activation_of acts (body.Active n x b) = Some (record { node = n; x = x; binding = b })
activation_of acts _ = None

-- what it tells of a binding
abbrev pub naming_of : List Act → Body → Option Naming
naming_of acts (body.Bound x b n) = Some (record { x = x; binding = b; server = n })
naming_of acts _ = None

-- what it tells of a lock on an entry
abbrev pub entering_of : List Act → Body → Option Entering
entering_of acts (body.Granted n u o m) =
    if (n == 1) && is_entry o then Some (record { x = o.num; root = root_in (path_by acts u) }) else None
entering_of acts _ = None

-- the copies that became active, each with its place
abbrev pub activations : List Line → List (Placed Activation)
activations lines = read activation_of [] 0 lines

-- the bindings that were made
abbrev pub namings : List Line → List (Placed Naming)
namings lines = read naming_of [] 0 lines

-- the grants of locks on entries
abbrev pub enterings : List Line → List (Placed Entering)
enterings lines = read entering_of [] 0 lines

-- the line says that this node is up
abbrev pub is_up : ℕ → Body → Bool
is_up n (body.Up m i) = m == n
is_up n _ = false

-- the lines behind the last of these that says so, or what was found before
abbrev pub since_from : ℕ → List Line → List Line → List Line
since_from n found [] = found
since_from n found (line ∷ rest) = since_from n (if is_up n line.body then rest else found) rest

-- the lines of the node's present life: those since its last `up`
abbrev pub since_up : ℕ → List Line → List Line
since_up n lines = since_from n lines lines

-- the bindings are the same
abbrev pub same_binding : Binding → Binding → Bool
same_binding b c = (b.inc == c.inc) && (b.count == c.count)

-- the first is older: of a lower incarnation of naming, or of the same one and lower in count
abbrev pub is_older : Binding → Binding → Bool
is_older b c = nat_lt b.inc c.inc || ((b.inc == c.inc) && nat_lt b.count c.count)

-- it is a copy of this object at this node
abbrev pub is_at : ℕ → ℕ → Activation → Bool
is_at n x a = (a.node == n) && (a.x == x)

-- a copy of the object was active at the node in this incarnation of it
abbrev pub was_active_in : Start → List Line → ℕ → ℕ → ℕ → Bool
was_active_in st lines n x i = list_any (λ a. is_at n x a.it && (incarnation st (take a.at lines) n == i)) (activations lines)

-- a top of this root got a lock on the object's entry in this incarnation of naming's node
abbrev pub has_entered_in : Start → List Line → ℕ → Option ℕ → ℕ → Bool
has_entered_in st lines x root i =
    list_any (λ e. (e.it.x == x) && (is_root e.it.root root && (incarnation st (take e.at lines) 1 == i))) (enterings lines)

-- An action of this root may have met the node in this incarnation when it used the object: a copy was active there, or the
-- node is naming's and the root has entered.
abbrev pub may_have_met : Start → List Line → ℕ → ℕ → Option ℕ → ℕ → Bool
may_have_met st lines n x root i = was_active_in st lines n x i || ((n == 1) && has_entered_in st lines x root i)

-- it is a copy of the object at the node under this binding
abbrev pub is_under : ℕ → ℕ → Binding → Placed Activation → Bool
is_under n x b a = is_at n x a.it && same_binding a.it.binding b

-- of these copies one was active under the first binding, and a later one under the second
abbrev pub one_then : ℕ → ℕ → Binding → Binding → List (Placed Activation) → Bool
one_then n x b c copies = list_any (λ a. is_under n x b a && list_any (λ z. is_under n x c z && nat_lt a.at z.at) copies) copies

-- so it was at the node in its present life
abbrev pub had_both : ℕ → ℕ → Binding → Binding → List Line → Bool
had_both n x b c lines = one_then n x b c (activations (since_up n lines))

-- naming bound the object so
abbrev pub was_bound : List Line → ℕ → Binding → Bool
was_bound lines x b = list_any (λ m. (m.it.x == x) && same_binding m.it.binding b) (namings lines)
