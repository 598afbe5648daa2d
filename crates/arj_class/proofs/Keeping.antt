-- What operations leave as it is.
use Rattle.std.proofs.Common.{◌≡◌, ◌≢◌, ◌↔◌, IsTrue, not, subst, ◌+◌, ◌-◌, refl, Bool, true, false, nat_lt, [], ◌∷◌, ◌++◌, length, if◌then◌else◌}
use Rattle.arj_base.specs.declared.mode.Mode.TheVariants.{Read}
use Rattle.arj_base.specs.declared.state.Class.{Class}
use Rattle.arj_base.specs.declared.state.Class.TheVariants as class
use Rattle.arj_class.specs.Table.{class_of, own_class, is_value_of, is_gone, op_mode, class_mode_of, mode_of, put_pair, value_after, is_full_for}
use Rattle.arj_class.specs.Forms.{ValueInForm, OpInForm}
use Rattle.arj_class.specs.declared.op.Op.{Op}
use Rattle.arj_class.specs.declared.op.Op.TheVariants.{Get, Add, Put, Deposit, Withdraw, Len, Push, GetKey, PutPair, Create, Destroy}
use Rattle.arj_class.specs.declared.value.Value.{Value}
use Rattle.arj_class.specs.declared.value.Value.TheVariants.{Counter, Register, Account, Queue, Table, Gone}

-- a read operation changes nothing
pub read_keeps : (op : Op) (v : Value) → op_mode op ≡ Read → value_after op v ≡ v
read_keeps Get v read = refl
read_keeps Len v read = refl
read_keeps (GetKey k) v read = refl
read_keeps _ v read = cc

-- a choice between two values of objects of a class is of it
one_class : (b : Bool) (v w : Value) → own_class w ≡ own_class v → own_class (if b then v else w) ≡ own_class v
one_class true v w same = refl
one_class false v w same = same

-- a value of a class is of objects of it
pub own_class_is : (c : Class) (v : Value) → is_value_of c v ≡ true → own_class v ≡ c
own_class_is class.Counter (Counter n) is = refl
own_class_is class.Register (Register bytes) is = refl
own_class_is class.Account (Account n) is = refl
own_class_is class.Queue (Queue ns) is = refl
own_class_is class.Table (Table ps) is = refl
own_class_is _ _ is = cc

-- an object comes with a value of its own class
comes : (c : Class) (v : Value) → own_class (value_after (Create v) (Gone c)) ≡ c
comes c v = if_so (is_value_of c v) (own_class_is c v)
  where
    if_so : (b : Bool) → (b ≡ true → own_class v ≡ c) → own_class (if b then v else Gone c) ≡ c
    if_so true is = is refl
    if_so false is = refl

-- what isn't gone is of its class
of_there : (v : Value) → not (is_gone v) ≡ is_value_of (class_of v) v
of_there (Counter n) = refl
of_there (Register bytes) = refl
of_there (Account n) = refl
of_there (Queue ns) = refl
of_there (Table ps) = refl
of_there (Gone c) = refl

-- an object comes in form with each value in form that isn't gone
pub come_form : (v : Value) → ValueInForm v → IsTrue (not (is_gone v)) ↔ OpInForm (Create v)
come_form v form = subst (λ b. IsTrue (not (is_gone v)) ↔ (ValueInForm v × (b ≡ true))) (of_there v) (by (not (is_gone v)))
  where
    by : (b : Bool) → IsTrue b ↔ (ValueInForm v × (b ≡ true))
    by true = (λ so. (form, refl), λ so. refl)
    by false = (λ so. absurd (cc so), λ so. absurd (cc so.1))

-- operations by which objects neither come nor go have the mode that their class gives
pub class_mode_is : (c : Class) (op : Op) → ((v : Value) → op ≢ Create v) → op ≢ Destroy → class_mode_of c op ≡ mode_of c op
class_mode_is c (Create v) comes goes = absurd (comes v refl)
class_mode_is c Destroy comes goes = absurd (goes refl)
class_mode_is c _ comes goes = refl

-- an operation keeps the class of the object
pub class_kept : (op : Op) (v : Value) → own_class (value_after op v) ≡ own_class v
class_kept (Add n) (Counter m) = one_class (nat_lt (m + n) 18446744073709551616) (Counter (m + n)) (Counter m) refl
class_kept _ (Counter m) = refl
class_kept (Put new) (Register bytes) = refl
class_kept _ (Register bytes) = refl
class_kept (Deposit n) (Account m) = one_class (nat_lt (m + n) 18446744073709551616) (Account (m + n)) (Account m) refl
class_kept (Withdraw n) (Account m) = one_class (nat_lt m n) (Account m) (Account (m - n)) refl
class_kept _ (Account m) = refl
class_kept (Push n) (Queue ns) = one_class (nat_lt (length ns) 32) (Queue (ns ++ n ∷ [])) (Queue ns) refl
class_kept _ (Queue ns) = refl
class_kept (PutPair k x) (Table ps) = one_class (is_full_for k ps) (Table ps) (Table (put_pair k x ps)) refl
class_kept _ (Table ps) = refl
class_kept (Create v) (Gone c) = comes c v
class_kept _ (Gone c) = refl
