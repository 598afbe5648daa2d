-- What reading a field of a line means, and which values are in form: within their widths and limits.
use Rattle.std.specs.Prelude.{◌≡◌, ◌≢◌, ◌≤◌, ◌<◌, ◌^◌, ℕ, List, [], ◌∷◌, ◌++◌, length, map, ⊤, Bool, true, false, ◌==◌, ◌&&◌, nat_lt}
use Rattle.std.specs.Prelude.{nat_le, not, Option, Some, None}
use Rattle.std.specs.List.{list_any, list_all, AllByRecursion}
use Rattle.std.specs.Fmt.{decimal}
use Rattle.arj_base.specs.declared.binding.Binding.{Binding}
use Rattle.arj_class.specs.declared.limits.TheConstants.{QUEUE_NUMBERS, REGISTER_BYTES, TABLE_PAIRS}
use Rattle.arj_base.specs.State.{is_object_class}
use Rattle.arj_base.specs.declared.state.Class.{Class}
use Rattle.arj_class.specs.Table.{is_gone}
use Rattle.arj_class.specs.declared.op.Op.{Op}
use Rattle.arj_class.specs.declared.op.Op.TheVariants as op
use Rattle.arj_class.specs.declared.op.Answer.{Answer}
use Rattle.arj_class.specs.declared.op.Answer.TheVariants as answer
use Rattle.arj_class.specs.declared.value.Value.{Value}
use Rattle.arj_class.specs.declared.value.Value.TheVariants as value
use Rattle.arj_text.specs.Words.{answer_text, commas}

-- None: nothing in form has this text. Some: this is in form, and has it.
abbrev pub IsRead : {A : Type 0} → (A → Type 0) → (A → List ℕ) → List ℕ → Option A → Type 0
IsRead {A = A} InForm text bytes None = (a : A) → InForm a → bytes ≢ text a
IsRead {A = A} InForm text bytes (Some a) = InForm a × (bytes ≡ text a)

-- Nothing in form stands before a separator at the front of the bytes.
abbrev pub HasNoFirst : {A : Type 0} → ℕ → (A → Type 0) → (A → List ℕ) → List ℕ → Type 0
HasNoFirst {A = A} separator InForm text bytes = (a : A) (rest : List ℕ) → InForm a → bytes ≢ text a ++ separator ∷ rest

-- This is in form and stands before a separator at the front of the bytes, this rest stands behind that, and the bytes
-- can be taken apart in no other way.
pub record IsFirst {A : Type 0} (separator : ℕ) (InForm : A → Type 0) (text : A →
    List ℕ) (bytes : List ℕ) (a : A) (rest : List ℕ) : Type 0 where
  pub in_form : InForm a
  pub parts : bytes ≡ text a ++ separator ∷ rest
  pub only : (b : A) (r : List ℕ) → InForm b → bytes ≡ text b ++ separator ∷ r → (text a ≡ text b) × (rest ≡ r)

-- whether the byte stands among the bytes
abbrev pub has_byte : ℕ → List ℕ → Bool
has_byte k bytes = list_any (λ b. b == k) bytes

-- whether a space stands among them
abbrev pub has_space : List ℕ → Bool
has_space bytes = has_byte 32 bytes

-- a number within these limits
abbrev pub IsWithin : ℕ → ℕ → ℕ → Type 0
IsWithin low high n = (low ≤ n) × (n ≤ high)

-- a number of 64 bits
abbrev pub NumberInForm : ℕ → Type 0
NumberInForm n = n < 2 ^ 64

-- a number of 32 bits
abbrev pub WordInForm : ℕ → Type 0
WordInForm n = n < 2 ^ 32

-- a number of 16 bits
abbrev pub ShortInForm : ℕ → Type 0
ShortInForm x = x < 2 ^ 16

-- both parts of a binding have 32 bits
abbrev pub BindingInForm : Binding → Type 0
BindingInForm b = WordInForm b.inc × WordInForm b.count

-- each is a byte
abbrev pub AreBytes : List ℕ → Type 0
AreBytes bytes = AllByRecursion (λ b. b < 256) bytes

-- at most so many bytes
abbrev pub AreBytesUpTo : ℕ → List ℕ → Type 0
AreBytesUpTo most bytes = (length bytes ≤ most) × AreBytes bytes

-- items in form, at least one and at most so many
abbrev pub ItemsInForm : {A : Type 0} → (A → Type 0) → ℕ → List A → Type 0
ItemsInForm InForm most items = (1 ≤ length items) × (length items ≤ most) × AllByRecursion InForm items

-- the texts of items, joined by commas
abbrev pub items_text : {A : Type 0} → (A → List ℕ) → List A → List ℕ
items_text text items = commas (map text items)

-- whether none stands twice
abbrev pub is_distinct : List ℕ → Bool
is_distinct [] = true
is_distinct (n ∷ ns) = not (list_any (λ m. m == n) ns) && is_distinct ns

-- whether the list is one of distinct nodes from 1 to n, with one to most of them
abbrev pub are_nodes : ℕ → ℕ → List ℕ → Bool
are_nodes n most ns =
    (nat_le 1 (length ns) && nat_le (length ns) most) && (list_all (λ m. nat_le 1 m && nat_le m n) ns && is_distinct ns)

-- distinct nodes from 1 to n, one to most of them
abbrev pub NodesInForm : ℕ → ℕ → List ℕ → Type 0
NodesInForm n most ns = are_nodes n most ns ≡ true

-- a key and a value
abbrev pub PairInForm : ℕ × ℕ → Type 0
PairInForm p = NumberInForm p.0 × NumberInForm p.1

-- whether the key is below that of the first pair
abbrev pub is_below_first : ℕ → List (ℕ × ℕ) → Bool
is_below_first key [] = true
is_below_first key (p ∷ ps) = nat_lt key p.0

-- whether the keys of pairs strictly increase
abbrev pub is_rising : List (ℕ × ℕ) → Bool
is_rising [] = true
is_rising (p ∷ ps) = is_below_first p.0 ps && is_rising ps

-- at most so many numbers
abbrev pub NumbersInForm : ℕ → List ℕ → Type 0
NumbersInForm most ns = (length ns ≤ most) × AllByRecursion NumberInForm ns

-- at most so many pairs, whose keys rise
abbrev pub PairsInForm : ℕ → List (ℕ × ℕ) → Type 0
PairsInForm most ps = (length ps ≤ most) × AllByRecursion PairInForm ps × (is_rising ps ≡ true)

-- a class of objects
abbrev pub IsObjectClass : Class → Type 0
IsObjectClass c = is_object_class c ≡ true

-- A value that a text can say: as `ValueInForm` of arj_class, and what a register holds are bytes.
abbrev pub ValueTextInForm : Value → Type 0
ValueTextInForm (value.Counter n) = NumberInForm n
ValueTextInForm (value.Register bytes) = AreBytesUpTo REGISTER_BYTES bytes
ValueTextInForm (value.Account n) = NumberInForm n
ValueTextInForm (value.Queue ns) = NumbersInForm QUEUE_NUMBERS ns
ValueTextInForm (value.Table ps) = PairsInForm TABLE_PAIRS ps
ValueTextInForm (value.Gone c) = IsObjectClass c

-- a value that a text can say, of an object that is there
abbrev pub IsThere : Value → Type 0
IsThere v = ValueTextInForm v × (is_gone v ≡ false)

-- An operation that a text can say. Beyond `OpInForm` of arj_class, the class table's own limit, this has the widths that
-- the program's types give: numbers have 64 bits, and what is put are bytes.
abbrev pub OpTextInForm : Op → Type 0
OpTextInForm (op.Add n) = NumberInForm n
OpTextInForm (op.Set n) = NumberInForm n
OpTextInForm (op.Put bytes) = AreBytesUpTo REGISTER_BYTES bytes
OpTextInForm (op.Deposit n) = NumberInForm n
OpTextInForm (op.Withdraw n) = NumberInForm n
OpTextInForm (op.Push n) = NumberInForm n
OpTextInForm (op.GetKey k) = NumberInForm k
OpTextInForm (op.PutPair k v) = NumberInForm k × NumberInForm v
OpTextInForm (op.Remove k) = NumberInForm k
OpTextInForm (op.Create v) = IsThere v
OpTextInForm _ = ⊤

-- a `get` without a key: the bytes of a register are answered to it alone
abbrev pub is_get : Op → Bool
is_get op.Get = true
is_get _ = false

-- an answer that a text can say to that operation
abbrev pub AnswerTextInForm : Op → Answer → Type 0
AnswerTextInForm asked (answer.Number n) = NumberInForm n
AnswerTextInForm asked (answer.Text bytes) = (is_get asked ≡ true) × AreBytesUpTo REGISTER_BYTES bytes
AnswerTextInForm asked _ = ⊤

-- a pair, its key before a colon
abbrev pub pair_text : ℕ × ℕ → List ℕ
pair_text p = decimal p.0 ++ 58 ∷ decimal p.1

-- the text behind a front
abbrev pub behind : {A : Type 0} → List ℕ → (A → List ℕ) → A → List ℕ
behind front text a = front ++ text a

-- two numbers with a space between them
abbrev pub two_text : ℕ × ℕ → List ℕ
two_text p = decimal p.0 ++ 32 ∷ decimal p.1

-- whether the operation has no argument
abbrev pub is_word_op : Op → Bool
is_word_op op.Get = true
is_word_op op.Len = true
is_word_op op.Pop = true
is_word_op op.Destroy = true
is_word_op _ = false

-- whether the operation is a put
abbrev pub is_put_op : Op → Bool
is_put_op (op.Put bytes) = true
is_put_op (op.PutPair k v) = true
is_put_op _ = false

-- whether an object comes by the operation
abbrev pub is_create_op : Op → Bool
is_create_op (op.Create v) = true
is_create_op _ = false

-- an operation of one word
abbrev pub IsWordOp : Op → Type 0
IsWordOp op = OpTextInForm op × (is_word_op op ≡ true)

-- a put
abbrev pub IsPutOp : Op → Type 0
IsPutOp op = OpTextInForm op × (is_put_op op ≡ true)

-- an operation by which an object comes
abbrev pub IsCreateOp : Op → Type 0
IsCreateOp op = OpTextInForm op × (is_create_op op ≡ true)

-- an operation with one number
abbrev pub IsNumberOp : Op → Type 0
IsNumberOp op = OpTextInForm op × ((is_word_op op ≡ false) × ((is_put_op op ≡ false) × (is_create_op op ≡ false)))

-- some answer to that operation in form has the text
abbrev pub IsAnswer : Op → List ℕ → Type 0
IsAnswer asked bytes = (a : Answer) × AnswerTextInForm asked a × (bytes ≡ answer_text a)
