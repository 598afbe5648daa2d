-- What the calls of a server mean.
use Rattle.std.specs.Prelude.{◌≡◌, Bool, true, false, ℕ, List, is_some, IsSomeAnd}
use Rattle.std.specs.List.{AllByRecursion}
use Rattle.arj_base.specs.declared.binding.Binding.{Binding}
use Rattle.arj_protocol.specs.Effect.{Served, void}
use Rattle.arj_protocol.specs.Order.{at_number, binding_eq}
use Rattle.arj_protocol.specs.Server.{Server}

-- a message is void where the test holds, and answered elsewhere
pub record VoidWhere {R : Type 0} (test : Bool) (s : Server) (r : Served Server R) : Type 0 where
  pub nothing : test ≡ true → r ≡ void s
  pub answered : test ≡ false → is_some r.reply ≡ true

-- the object is active by this binding
abbrev pub IsBound : Server → ℕ × Binding → Type 0
IsBound s t = IsSomeAnd (at_number t.0 s.objects) (λ c. binding_eq t.1 c.binding ≡ true)

-- and so for all of these
abbrev pub AreBound : Server → List (ℕ × Binding) → Type 0
AreBound s ties = AllByRecursion (IsBound s) ties
