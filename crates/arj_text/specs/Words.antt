-- The words that scripts and journals share: numbers, bytes, lists of nodes, operations, answers and values.
use Rattle.std.specs.Prelude.{ℕ, ◌+◌, ◌/◌, ◌%◌, List, [], ◌∷◌, ◌++◌, codes, nat_lt, if◌then◌else◌}
use Rattle.std.specs.List.{flat_map}
use Rattle.std.specs.Fmt.{decimal}
use Rattle.arj_base.specs.declared.state.Class.{Class}
use Rattle.arj_base.specs.declared.state.Class.TheVariants as class
use Rattle.arj_base.specs.declared.mode.Mode.{Mode}
use Rattle.arj_base.specs.declared.mode.Mode.TheVariants as mode
use Rattle.arj_base.specs.declared.mode.End.{End}
use Rattle.arj_base.specs.declared.mode.End.TheVariants as ending
use Rattle.arj_class.specs.declared.op.Op.{Op}
use Rattle.arj_class.specs.declared.op.Op.TheVariants.{Get, Add, Set, Put, Deposit, Withdraw, Len, Push, Pop, GetKey, PutPair, Remove, Create}
use Rattle.arj_class.specs.declared.op.Op.TheVariants.{Destroy}
use Rattle.arj_class.specs.declared.op.Answer.{Answer}
use Rattle.arj_class.specs.declared.op.Answer.TheVariants.{Done, Number, Text, Over, Short, Full, Nothing, There}
use Rattle.arj_class.specs.declared.op.Answer.TheVariants as answer
use Rattle.arj_class.specs.declared.value.Value.{Value}
use Rattle.arj_class.specs.declared.value.Value.TheVariants.{Counter, Register, Account, Queue, Table}
use Rattle.arj_class.specs.declared.value.Value.TheVariants as value

-- a space
abbrev pub space : List ℕ
space = codes " "

-- a space and a number
abbrev pub number_word : ℕ → List ℕ
number_word n = space ++ decimal n

-- a hexadecimal digit, in lower case
abbrev pub hex_digit : ℕ → ℕ
hex_digit n = if nat_lt n 10 then 48 + n else 87 + n

-- the two digits of a byte
abbrev pub hex_pair : ℕ → List ℕ
hex_pair n = hex_digit (n / 16) ∷ hex_digit (n % 16) ∷ []

-- two digits a byte, or `-` for no bytes
abbrev pub hex : List ℕ → List ℕ
hex [] = codes "-"
hex (b ∷ bs) = hex_pair b ++ flat_map hex_pair bs

-- a piece with a comma before it
abbrev pub behind_comma : List ℕ → List ℕ
behind_comma piece = codes "," ++ piece

-- pieces with commas between them
abbrev pub commas : List (List ℕ) → List ℕ
commas [] = []
commas (piece ∷ pieces) = piece ++ flat_map behind_comma pieces

-- each number in decimal
abbrev pub decimals : List ℕ → List (List ℕ)
decimals [] = []
decimals (n ∷ ns) = decimal n ∷ decimals ns

-- numbers joined by commas
abbrev pub list_text : List ℕ → List ℕ
list_text ns = commas (decimals ns)

-- numbers joined by commas, or `-` for none
abbrev pub numbers_text : List ℕ → List ℕ
numbers_text [] = codes "-"
numbers_text (n ∷ ns) = list_text (n ∷ ns)

-- each pair, its key before a colon
abbrev pub pair_texts : List (ℕ × ℕ) → List (List ℕ)
pair_texts [] = []
pair_texts (p ∷ ps) = (decimal p.0 ++ (codes ":" ++ decimal p.1)) ∷ pair_texts ps

-- pairs joined by commas, or `-` for none
abbrev pub pairs_text : List (ℕ × ℕ) → List ℕ
pairs_text [] = codes "-"
pairs_text (p ∷ ps) = commas (pair_texts (p ∷ ps))

-- the modes of locks
abbrev pub mode_text : Mode → List ℕ
mode_text mode.Read = codes "read"
mode_text mode.Exclude = codes "exclude"
mode_text mode.Write = codes "write"

-- the ends of actions
abbrev pub end_text : End → List ℕ
end_text ending.Abort = codes "abort"
end_text ending.Commit = codes "commit"

-- the classes of objects; the other two have no word
abbrev pub class_text : Class → List ℕ
class_text class.Counter = codes "counter"
class_text class.Register = codes "register"
class_text class.Account = codes "account"
class_text class.Queue = codes "queue"
class_text class.Table = codes "table"
class_text _ = []

-- the class of an object that is gone
abbrev pub gone_text : Class → List ℕ
gone_text c = class_text c ++ codes " gone"

-- the class and the value of an object line
abbrev pub value_text : Value → List ℕ
value_text (Counter n) = codes "counter" ++ number_word n
value_text (Register bytes) = codes "register " ++ hex bytes
value_text (Account n) = codes "account" ++ number_word n
value_text (Queue ns) = codes "queue " ++ numbers_text ns
value_text (Table ps) = codes "table " ++ pairs_text ps
value_text (value.Gone c) = gone_text c

-- an operation with its arguments
abbrev pub op_text : Op → List ℕ
op_text Get = codes "get"
op_text (Add n) = codes "add" ++ number_word n
op_text (Set n) = codes "set" ++ number_word n
op_text (Put bytes) = codes "put " ++ hex bytes
op_text (Deposit n) = codes "deposit" ++ number_word n
op_text (Withdraw n) = codes "withdraw" ++ number_word n
op_text Len = codes "len"
op_text (Push n) = codes "push" ++ number_word n
op_text Pop = codes "pop"
op_text (GetKey k) = codes "get" ++ number_word k
op_text (PutPair k v) = codes "put" ++ (number_word k ++ number_word v)
op_text (Remove k) = codes "remove" ++ number_word k
op_text (Create v) = codes "create " ++ value_text v
op_text Destroy = codes "destroy"

-- an answer
abbrev pub answer_text : Answer → List ℕ
answer_text Done = codes "done"
answer_text (Number n) = decimal n
answer_text (Text bytes) = hex bytes
answer_text Over = codes "over"
answer_text Short = codes "short"
answer_text Full = codes "full"
answer_text Nothing = codes "none"
answer_text There = codes "there"
answer_text answer.Gone = codes "gone"
