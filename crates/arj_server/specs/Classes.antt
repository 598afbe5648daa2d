-- What a server's copies are whatever calls come: in increasing order of their objects, and each of one class.
use Rattle.std.specs.Prelude.{◌≡◌, ℕ, true, List, IfSome}
use Rattle.std.specs.List.{AllByRecursion}
use Rattle.std.specs.List.Sorted.{IsStrictlySortedBy}
use Rattle.std.specs.Map.{keys_of}
use Rattle.std.specs.Ordering.{nat_cmp}
use Rattle.arj_base.specs.declared.state.Class.{Class}
use Rattle.arj_class.specs.declared.op.Op.{Op}
use Rattle.arj_class.specs.Table.{own_class, has_op}
use Rattle.arj_protocol.specs.Copy.{Copy, Over, current}
use Rattle.arj_protocol.specs.Order.{at_number}
use Rattle.arj_protocol.specs.Server.{Server}

-- Each overlay has a value of the class of the state; a value that is gone has the class of its object.
abbrev pub IsOfOneClass : Copy → Type 0
IsOfOneClass c = AllByRecursion (λ (o : Over). own_class o.value ≡ own_class c.base.value) c.stack

-- and so for all copies
abbrev pub AreOfOneClass : List (ℕ × Copy) → Type 0
AreOfOneClass m = AllByRecursion (λ (e : ℕ × Copy). IsOfOneClass e.1) m

-- these are copies by their objects, increasing, each of one class
abbrev pub AreCopies : List (ℕ × Copy) → Type 0
AreCopies m = AreOfOneClass m × IsStrictlySortedBy nat_cmp (keys_of m)

-- where the object is active, its class is such, also while it is gone
abbrev pub ClassIs : ℕ → (Class → Type 0) → List (ℕ × Copy) → Type 0
ClassIs x P m = IfSome (at_number x m) (λ c. P (own_class c.base.value))

-- where the object is active, its class has the operation
abbrev pub HasOp : ℕ → Op → List (ℕ × Copy) → Type 0
HasOp x op m = ClassIs x (λ k. has_op k op ≡ true) m

-- at the server the object is of this class, if it is active, and each overlay is of its object's class
pub record IsOfClass (x : ℕ) (k : Class) (s : Server) : Type 0 where
  pub all : AreOfOneClass s.objects
  pub here : ClassIs x (λ j. j ≡ k) s.objects

-- where the object is active, the class by the value in place has the operation
abbrev pub MayDo : ℕ → Op → List (ℕ × Copy) → Type 0
MayDo x op m = IfSome (at_number x m) (λ c. has_op (own_class (current c.base c.stack)) op ≡ true)
