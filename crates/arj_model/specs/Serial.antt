-- The serial order of surviving calls, and what it means that a journal is serial.
use Rattle.std.specs.Prelude.{◌≡◌, ℕ, List, [], ◌∷◌, Bool, true, false, ◌==◌, ◌&&◌, nat_lt, max, if◌then◌else◌, ⊤}
use Rattle.arj_class.specs.declared.value.Value.{Value}
use Rattle.arj_class.specs.Table.{answer_of, value_after, writes}
use Rattle.arj_journal.specs.declared.body.Line.{Line}
use Rattle.arj_text.specs.Words.{answer_text}
use Rattle.arj_model.specs.Calls.{Call, Top, tops, committed_calls}

-- a value of each object
abbrev pub Values : Type 0
Values = ℕ → Value

-- the values after one of object x is replaced
abbrev pub with_value : Values → ℕ → Value → Values
with_value values x v = λ y. if y == x then v else values y

-- the values after a call
abbrev pub after : Values → Call → Values
after values c = with_value values c.x (value_after c.op (values c.x))

-- the calls, run one after another from these values, give the answers that the journal has
abbrev pub Answers : Values → List Call → Type 0
Answers values [] = ⊤
Answers values (c ∷ cs) = (answer_text (answer_of c.op (values c.x)) ≡ c.answer) × Answers (after values c) cs

-- the values after these calls
abbrev pub run : Values → List Call → Values
run values [] = values
run values (c ∷ cs) = run (after values c) cs

-- A sort that keeps the order of what doesn't differ. An item goes behind those at the front that are less than it, and
-- before the first that isn't.
abbrev pub insert : {A : Type 0} → (A → A → Bool) → A → List A → List A
insert less a [] = a ∷ []
insert less a (b ∷ bs) = if less b a then b ∷ insert less a bs else a ∷ b ∷ bs

-- the list in order: each item is put into the arranged rest
abbrev pub arrange : {A : Type 0} → (A → A → Bool) → List A → List A
arrange less [] = []
arrange less (a ∷ rest) = insert less a (arrange less rest)

-- the order of two keys: the first difference decides
abbrev pub lex : List ℕ → List ℕ → Bool
lex [] [] = false
lex [] (n ∷ ns) = true
lex (m ∷ ms) [] = false
lex (m ∷ ms) (n ∷ ns) = if nat_lt m n then true else ((m == n) && lex ms ns)

-- A unit is a committed top, or all committed constituents of one serializing action: the committed tops of one
-- root. It stands at the place of its last member.
abbrev pub unit_place : List Top → ℕ → ℕ
unit_place [] root = 0
unit_place (t ∷ ts) root = if t.root == root then max t.at (unit_place ts root) else unit_place ts root

-- the root of a committed top, by its number
abbrev pub root_of : List Top → ℕ → ℕ
root_of [] id = id
root_of (t ∷ ts) id = if t.id == id then t.root else root_of ts id

-- the place of a committed top, by its number
abbrev pub top_place : List Top → ℕ → ℕ
top_place [] id = 0
top_place (t ∷ ts) id = if t.id == id then t.at else top_place ts id

-- units by place, the members of a unit by place
abbrev pub serial_key : List Top → ℕ → List ℕ
serial_key ts id = unit_place ts (root_of ts id) ∷ top_place ts id ∷ []

-- the order of two calls, by their tops alone
abbrev pub serial_less : List Top → Call → Call → Bool
serial_less ts c d = lex (serial_key ts c.top) (serial_key ts d.top)

-- the surviving calls of committed tops in serial order
abbrev pub serial_calls : List Line → List Call
serial_calls lines = arrange (serial_less (tops lines)) (committed_calls lines)

-- The committed tops got the replies of running them alone, one after another, in the order in which their commits
-- were called, each serializing action's constituents together.
abbrev pub Serial : Values → List Line → Type 0
Serial values lines = Answers values (serial_calls lines)

-- a call of object x
abbrev pub touches : ℕ → Call → Bool
touches x c = c.x == x

-- a call that writes object x
abbrev pub writes_on : ℕ → Call → Bool
writes_on x c = (c.x == x) && writes c.op
