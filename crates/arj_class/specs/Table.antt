-- The class table: the mode of each operation, what it answers at a value, and the value after it.
use Rattle.std.specs.Prelude.{ℕ, ◌+◌, ◌-◌, List, [], ◌∷◌, ◌++◌, length, Bool, true, false, ◌==◌, nat_lt, nat_le, if◌then◌else◌, Option}
use Rattle.std.specs.Prelude.{Some, None, is_some}
use Rattle.arj_base.specs.declared.mode.Mode.{Mode}
use Rattle.arj_base.specs.declared.mode.Mode.TheVariants.{Read, Write}
use Rattle.arj_base.specs.State.{is_object_class}
use Rattle.arj_base.specs.declared.state.Class.{Class}
use Rattle.arj_base.specs.declared.state.Class.TheVariants as class
use Rattle.arj_class.specs.declared.limits.TheConstants.{QUEUE_NUMBERS, TABLE_PAIRS}
use Rattle.arj_class.specs.declared.op.Op.{Op}
use Rattle.arj_class.specs.declared.op.Op.TheVariants.{Get, Add, Set, Put, Deposit, Withdraw, Len, Push, Pop, GetKey, PutPair, Remove, Create, Destroy}
use Rattle.arj_class.specs.declared.op.Answer.{Answer}
use Rattle.arj_class.specs.declared.op.Answer.TheVariants.{Done, Number, Text, Over, Short, Full, Nothing, There}
use Rattle.arj_class.specs.declared.op.Answer.TheVariants as answer
use Rattle.arj_class.specs.declared.value.Value.{Value}
use Rattle.arj_class.specs.declared.value.Value.TheVariants.{Counter, Register, Account, Queue, Table}
use Rattle.arj_class.specs.declared.value.Value.TheVariants as value

-- the class of a value, as its packed state says it: that of a gone object says that it is gone
abbrev pub class_of : Value → Class
class_of (Counter n) = class.Counter
class_of (Register bytes) = class.Register
class_of (Account n) = class.Account
class_of (Queue ns) = class.Queue
class_of (Table ps) = class.Table
class_of (value.Gone c) = class.Gone

-- the class of the object with this value, which it has while it is gone too
abbrev pub own_class : Value → Class
own_class (value.Gone c) = c
own_class v = class_of v

-- the object is gone
abbrev pub is_gone : Value → Bool
is_gone (value.Gone c) = true
is_gone _ = false

-- the value is of this class, and not gone
abbrev pub is_value_of : Class → Value → Bool
is_value_of class.Counter (Counter n) = true
is_value_of class.Register (Register bytes) = true
is_value_of class.Account (Account n) = true
is_value_of class.Queue (Queue ns) = true
is_value_of class.Table (Table ps) = true
is_value_of _ _ = false

-- whether the class has the operation of its own: no class has those by which its objects come and go
abbrev pub class_has_op : Class → Op → Bool
class_has_op class.Counter Get = true
class_has_op class.Counter (Add n) = true
class_has_op class.Counter (Set n) = true
class_has_op class.Register Get = true
class_has_op class.Register (Put bytes) = true
class_has_op class.Account Get = true
class_has_op class.Account (Deposit n) = true
class_has_op class.Account (Withdraw n) = true
class_has_op class.Queue Len = true
class_has_op class.Queue (Push n) = true
class_has_op class.Queue Pop = true
class_has_op class.Table (GetKey k) = true
class_has_op class.Table (PutPair k v) = true
class_has_op class.Table (Remove k) = true
class_has_op _ _ = false

-- whether objects of the class have the operation: it comes with a value of its class
abbrev pub has_op : Class → Op → Bool
has_op c (Create v) = is_value_of c v
has_op c Destroy = is_object_class c
has_op c op = class_has_op c op

-- Reading takes a read lock; everything else a write lock, also where it changes nothing.
abbrev pub op_mode : Op → Mode
op_mode Get = Read
op_mode Len = Read
op_mode (GetKey k) = Read
op_mode _ = Write

-- the lock mode of an operation of the class itself, none where the class lacks it
abbrev pub class_mode_of : Class → Op → Option Mode
class_mode_of c op = if class_has_op c op then Some (op_mode op) else None

-- the lock mode of an operation on objects of the class, none where they lack it
abbrev pub mode_of : Class → Op → Option Mode
mode_of c op = if has_op c op then Some (op_mode op) else None

-- the value of a key in a table
abbrev pub value_at : ℕ → List (ℕ × ℕ) → Option ℕ
value_at k [] = None
value_at k (p ∷ ps) = if p.0 == k then Some p.1 else value_at k ps

-- A table with this value of the key: in the place of the old one, or where the key belongs in increasing order.
abbrev pub put_pair : ℕ → ℕ → List (ℕ × ℕ) → List (ℕ × ℕ)
put_pair k v [] = (k, v) ∷ []
put_pair k v (p ∷ ps) = if nat_lt k p.0 then (k, v) ∷ p ∷ ps else (if p.0 == k then (k, v) ∷ ps else p ∷ put_pair k v ps)

-- a table without the key
abbrev pub remove_pair : ℕ → List (ℕ × ℕ) → List (ℕ × ℕ)
remove_pair k [] = []
remove_pair k (p ∷ ps) = if p.0 == k then ps else p ∷ remove_pair k ps

-- a number, or that there is none
abbrev pub number_or_nothing : Option ℕ → Answer
number_or_nothing None = Nothing
number_or_nothing (Some n) = Number n

-- a new key finds no room
abbrev pub is_full_for : ℕ → List (ℕ × ℕ) → Bool
is_full_for k ps = if is_some (value_at k ps) then false else nat_le TABLE_PAIRS (length ps)

-- the number at the front of a queue
abbrev pub front_of : List ℕ → Answer
front_of [] = Nothing
front_of (n ∷ ns) = Number n

-- a queue without its front
abbrev pub behind_front : List ℕ → List ℕ
behind_front [] = []
behind_front (n ∷ ns) = ns

-- What the operation answers: at an object that is gone only that it is, but where it comes; at one that is there `create`
-- answers so. At a value of a class that lacks the operation the definition says nothing of use.
abbrev pub answer_of : Op → Value → Answer
answer_of (Create w) (value.Gone c) = Done
answer_of op (value.Gone c) = answer.Gone
answer_of (Create w) v = There
answer_of Destroy v = Done
answer_of Get (Counter m) = Number m
answer_of (Add n) (Counter m) = if nat_lt (m + n) 18446744073709551616 then Done else Over
answer_of (Set n) (Counter m) = Done
answer_of Get (Register bytes) = Text bytes
answer_of (Put new) (Register bytes) = Done
answer_of Get (Account m) = Number m
answer_of (Deposit n) (Account m) = if nat_lt (m + n) 18446744073709551616 then Done else Over
answer_of (Withdraw n) (Account m) = if nat_lt m n then Short else Done
answer_of Len (Queue ns) = Number (length ns)
answer_of (Push n) (Queue ns) = if nat_lt (length ns) QUEUE_NUMBERS then Done else Full
answer_of Pop (Queue ns) = front_of ns
answer_of (GetKey k) (Table ps) = number_or_nothing (value_at k ps)
answer_of (PutPair k v) (Table ps) = if is_full_for k ps then Full else Done
answer_of (Remove k) (Table ps) = number_or_nothing (value_at k ps)
answer_of _ _ = Nothing

-- The value after the operation. An object comes with a value of its own class alone.
abbrev pub value_after : Op → Value → Value
value_after (Create w) (value.Gone c) = if is_value_of c w then w else value.Gone c
value_after Destroy v = value.Gone (own_class v)
value_after (Add n) (Counter m) = if nat_lt (m + n) 18446744073709551616 then Counter (m + n) else Counter m
value_after (Set n) (Counter m) = Counter n
value_after (Put new) (Register bytes) = Register new
value_after (Deposit n) (Account m) = if nat_lt (m + n) 18446744073709551616 then Account (m + n) else Account m
value_after (Withdraw n) (Account m) = if nat_lt m n then Account m else Account (m - n)
value_after (Push n) (Queue ns) = if nat_lt (length ns) QUEUE_NUMBERS then Queue (ns ++ n ∷ []) else Queue ns
value_after Pop (Queue ns) = Queue (behind_front ns)
value_after (PutPair k v) (Table ps) = if is_full_for k ps then Table ps else Table (put_pair k v ps)
value_after (Remove k) (Table ps) = Table (remove_pair k ps)
value_after _ value = value

-- whether the mode is write
abbrev pub is_write : Mode → Bool
is_write Write = true
is_write _ = false

-- whether the operation takes a write lock
abbrev pub writes : Op → Bool
writes op = is_write (op_mode op)
