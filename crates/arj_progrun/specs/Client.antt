-- A program under the schedule: what it asks next, and how what is answered moves it.
use Rattle.std.specs.Prelude.{ℕ, ◌+◌, ◌-◌, List, [], ◌∷◌, ◌++◌, Bool, true, false, ◌==◌, ◌&&◌, ◌||◌, not, if◌then◌else◌, Option, Some, None}
use Rattle.std.specs.Prelude.{codes}
use Rattle.std.specs.Fmt.{decimal}
use Rattle.std.specs.Str.{bytes_eq}
use Rattle.arj_class.specs.declared.op.Op.{Op}
use Rattle.arj_class.specs.declared.op.Op.TheVariants.{Get}
use Rattle.arj_journal.specs.declared.body.Body.{Body}
use Rattle.arj_journal.specs.declared.body.Body.TheVariants as body
use Rattle.arj_prog.specs.declared.plan.Program.{Program}
use Rattle.arj_prog.specs.declared.statements.Statement.{Statement}
use Rattle.arj_prog.specs.declared.statements.Statement.TheVariants as statement
use Rattle.arj_prog.specs.Listing.{Listing, End, Do, Print, If, Block, Fail, joined}
use Rattle.arj_progrun.specs.declared.client.TheConstants.{PATIENCE}
use Rattle.arj_progrun.specs.declared.phase.Phase.{Phase}
use Rattle.arj_progrun.specs.declared.phase.Phase.TheVariants as phase
use Rattle.arj_text.specs.Label.{name}
use Rattle.arj_text.specs.declared.label.Label.{Label}
use Rattle.arj_text.specs.Words.{answer_text}

-- A call that was answered: its object, its operation, whether its answer is printed, and the answer's text.
pub record Said : Type 0 where
  pub x : ℕ
  pub op : Op
  pub printed : Bool
  pub answer : List ℕ

-- An action of a program: its label, its statements, those left, how many tries are left, and its calls that count so far.
pub record Level : Type 0 where
  pub label : List ℕ
  pub body : Listing
  pub rest : Listing
  pub left : ℕ
  pub said : List Said

-- A program: its name, its number, its node, how often it may be tried again, its top, its open nested actions, the innermost first, how
-- many nested actions this try has begun, where it stands, the statement whose call it waits for, and how many turns its wait has had.
pub record Client : Type 0 where
  pub name : Label
  pub number : ℕ
  pub node : ℕ
  pub retry : ℕ
  pub top : Level
  pub blocks : List Level
  pub begun : ℕ
  pub phase : Phase
  pub asked : Option Statement
  pub waited : ℕ

-- What is asked of the nodes.
pub data Ask : Type 0 where
  Begins : (label : List ℕ) (node : ℕ) → Ask
  BeginsIn : (label parent : List ℕ) → Ask
  Calls : (label : List ℕ) (x : ℕ) (op : Op) → Ask
  Commits : (label : List ℕ) → Ask
  Aborts : (label : List ℕ) → Ask
  GivesUp : (label : List ℕ) → Ask
  Ticks : (node : ℕ) → Ask
  Settles : Ask
  LosesLast : Ask
  Quiesces : Ask
  Other : Ask

-- ---- where a program stands

-- it is answered later what was asked
abbrev pub is_waiting : Phase → Bool
is_waiting phase.Beginning = true
is_waiting phase.Calling = true
is_waiting phase.Committing = true
is_waiting phase.Aborting = true
is_waiting phase.Failing = true
is_waiting _ = false

-- it gives no event more
abbrev pub is_over : Phase → Bool
is_over phase.Committed = true
is_over phase.Failed = true
is_over phase.GaveUp = true
is_over _ = false

-- two phases are one
abbrev pub is_phase : Phase → Phase → Bool
is_phase phase.Beginning phase.Beginning = true
is_phase phase.Calling phase.Calling = true
is_phase phase.Committing phase.Committing = true
is_phase phase.Aborting phase.Aborting = true
is_phase phase.Failing phase.Failing = true
is_phase phase.Committed phase.Committed = true
is_phase _ _ = false

-- ---- labels

-- the label of a program's try
abbrev pub try_label : ℕ → ℕ → List ℕ
try_label i j = codes "P" ++ (decimal i ++ (codes "t" ++ decimal j))

-- the label of the nested action that a try began as its one of this number
abbrev pub block_label : ℕ → ℕ → ℕ → List ℕ
block_label i j k = codes "P" ++ (decimal i ++ (codes "t" ++ (decimal j ++ (codes "b" ++ decimal k))))

-- the number of its try, from 0
abbrev pub attempt : Client → ℕ
attempt c = c.retry - (let t = c.top in t.left)

-- the label of the nested action that it begins next
abbrev pub next_label : Client → List ℕ
next_label c = block_label c.number (attempt c) (c.begun + 1)

-- ---- actions

-- an action that is to begin
abbrev pub level : List ℕ → Listing → ℕ → Level
level label body left = record { label = label; body = body; rest = body; left = left; said = [] }

-- the same action, to be tried again
abbrev pub again : Level → Level
again l = level l.label l.body (l.left - 1)

-- the action with this label
abbrev pub labelled : List ℕ → Level → Level
labelled label l = record l { label = label }

-- the first statement, and those behind it
abbrev pub cut : Listing → Option (Statement × Listing)
cut End = None
cut (Do x op rest) = Some (statement.Do x op, rest)
cut (Print x op rest) = Some (statement.Print x op, rest)
cut (If x op wanted first second rest) = Some (statement.If x op wanted first second, rest)
cut (Block retry body rest) = Some (statement.Block retry body, rest)
cut (Fail rest) = Some (statement.Fail, rest)

-- the action with these statements left
abbrev pub leaves : Listing → Level → Level
leaves rest l = record l { rest = rest }

-- an answered call
abbrev pub heard : ℕ → Op → Bool → List ℕ → Said
heard x op printed answer = record { x = x; op = op; printed = printed; answer = answer }

-- the answered call of a statement
abbrev pub said_by : Statement → List ℕ → Said
said_by (statement.Do x op) answer = heard x op false answer
said_by (statement.Print x op) answer = heard x op true answer
said_by (statement.If x op wanted first second) answer = heard x op false answer
said_by _ answer = heard 0 Get false answer

-- the statements with which an answered call goes on: a list of an `if`
abbrev pub branch : Statement → List ℕ → Listing
branch (statement.If x op wanted first second) answer = if bytes_eq answer (answer_text wanted) then first else second
branch _ answer = End

-- the action behind the answer of a call
abbrev pub taken : Statement → List ℕ → Level → Level
taken s answer l = record l { rest = joined (branch s answer) l.rest; said = l.said ++ said_by s answer ∷ [] }

-- the action behind a nested one that committed
abbrev pub joins : Level → Level → Level
joins nested l = record l { said = l.said ++ nested.said }

-- ---- a program's actions

-- the innermost of them
abbrev pub inner_of : Level → List Level → Level
inner_of top [] = top
inner_of top (b ∷ bs) = b

-- a program's innermost action
abbrev pub inner : Client → Level
inner c = inner_of c.top c.blocks

-- the program with its innermost action changed so
abbrev pub inside_at : List Level → (Level → Level) → Client → Client
inside_at [] f c = record c { top = f c.top }
inside_at (b ∷ bs) f c = record c { blocks = f b ∷ bs }

-- the same, by its open nested actions
abbrev pub inside : (Level → Level) → Client → Client
inside f c = inside_at c.blocks f c

-- the program stands so
abbrev pub stands : Phase → Client → Client
stands p c = record c { phase = p }

-- a program that has given no event
abbrev pub first_client : ℕ → Program → Client
first_client number p = record {
  name = p.name;
  number = number;
  node = p.node;
  retry = p.retry;
  top = level (try_label number 0) p.body p.retry;
  blocks = [];
  begun = 0;
  phase = phase.Entering;
  asked = None;
  waited = 0;
}

-- ---- what it asks

-- What is asked, and the program behind it.
pub record Asking : Type 0 where
  pub ask : Option Ask
  pub client : Client

-- what is asked, of these
abbrev pub asking : Option Ask → Client → Asking
asking ask c = record { ask = ask; client = c }

-- something is asked
abbrev pub asks : Ask → Client → Asking
asks a c = asking (Some a) c

-- Its innermost action is to begin: a top by its label, a nested one by the next label.
abbrev pub begins : List Level → Client → Asking
begins [] c = asks (Begins (let t = c.top in t.label) c.node) (stands phase.Beginning c)
begins (b ∷ bs) c =
    asks (BeginsIn (next_label c) (let o = inner_of c.top bs in o.label))
    (record c { blocks = labelled (next_label c) b ∷ bs; begun = c.begun + 1; phase = phase.Beginning })

-- it asks for the call of a statement
abbrev pub calls : Statement → ℕ → Op → Client → Asking
calls s x op c = asks (Calls (let l = inner c in l.label) x op) (record c { phase = phase.Calling; asked = Some s })

-- it opens a nested action, which is to begin
abbrev pub enters : ℕ → Listing → Client → Client
enters retry body c = record c { blocks = level (let l = inner c in l.label) body retry ∷ c.blocks }

-- what a statement asks
abbrev pub asks_for : Statement → Client → Asking
asks_for (statement.Do x op) c = calls (statement.Do x op) x op c
asks_for (statement.Print x op) c = calls (statement.Print x op) x op c
asks_for (statement.If x op wanted first second) c = calls (statement.If x op wanted first second) x op c
asks_for (statement.Block retry body) c = let d = enters retry body c in begins d.blocks d
asks_for statement.Fail c = asks (Aborts (let t = c.top in t.label)) (stands phase.Failing c)

-- what the first statement asks, which is left behind, or the commit where none is left
abbrev pub asks_next : Option (Statement × Listing) → Client → Asking
asks_next None c = asks (Commits (let l = inner c in l.label)) (stands phase.Committing c)
asks_next (Some p) c = asks_for p.0 (inside (leaves p.1) c)

-- what it asks where it doesn't wait
abbrev pub asks_by : Phase → Client → Asking
asks_by phase.Entering c = begins c.blocks c
asks_by phase.Backing c = asks (Aborts (let l = inner c in l.label)) (stands phase.Aborting c)
asks_by _ c = asks_next (cut (let l = inner c in l.rest)) c

-- its wait has had one turn more: it is given up in the eighth
abbrev pub waits_on : Client → Asking
waits_on c = record {
  ask = (if c.waited + 1 == PATIENCE then Some (GivesUp (let l = inner c in l.label)) else None);
  client = record c { waited = c.waited + 1 };
}

-- what it asks in its turn
abbrev pub turned : Client → Asking
turned c =
    if is_over c.phase then record { ask = None; client = c }
    else if is_waiting c.phase then waits_on c
    else asks_by c.phase (record c { waited = 0 })

-- ---- what it hears

-- it waits so, and its innermost action has that label
abbrev pub waits : Phase → List ℕ → Client → Bool
waits p label c = is_phase p c.phase && bytes_eq (let l = inner c in l.label) label

-- its top is to be tried again where a try is left
abbrev pub loses_top : Client → Client
loses_top c =
    let t = c.top in
    if t.left == 0 then stands phase.GaveUp c
    else record c { top = labelled (try_label c.number (c.retry - (t.left - 1))) (again t); begun = 0; phase = phase.Entering }

-- so is its innermost action; where no try of a nested one is left, the next outer one is to be aborted
abbrev pub loses_at : List Level → Client → Client
loses_at [] c = loses_top c
loses_at (b ∷ bs) c =
    if b.left == 0 then record c { blocks = bs; phase = phase.Backing }
    else record c { blocks = again b ∷ bs; phase = phase.Entering }

-- its innermost action aborted
abbrev pub loses : Client → Client
loses c = loses_at c.blocks c

-- its innermost action committed
abbrev pub commits_at : List Level → Client → Client
commits_at [] c = stands phase.Committed c
commits_at (b ∷ bs) c = inside (joins b) (record c { blocks = bs; phase = phase.Ready })

-- the action that it waits to begin isn't there
abbrev pub unbegun : List Level → Client → Client
unbegun [] c = stands phase.GaveUp c
unbegun (b ∷ bs) c = record c { blocks = bs; phase = phase.Backing }

-- what it asked was refused
abbrev pub refused_at : Phase → Client → Client
refused_at phase.Beginning c = unbegun c.blocks c
refused_at phase.Calling c = stands phase.Backing c
refused_at phase.Committing c = stands phase.Backing c
refused_at phase.Aborting c = stands phase.GaveUp c
refused_at phase.Failing c = stands phase.Failed c
refused_at _ c = c

-- an action aborted
abbrev pub aborted : List ℕ → Client → Client
aborted label c =
    if is_phase phase.Failing c.phase && bytes_eq (let t = c.top in t.label) label then stands phase.Failed c
    else if waits phase.Aborting label c || waits phase.Committing label c then loses c
    else c

-- there is none
abbrev pub is_none : {A : Type 0} → List A → Bool
is_none [] = true
is_none _ = false

-- the top has begun and not ended, by where the program stands and its open nested actions
abbrev pub is_open_at : Phase → List Level → Bool
is_open_at phase.Entering blocks = not (is_none blocks)
is_open_at phase.Beginning blocks = not (is_none blocks)
is_open_at p blocks = not (is_over p)

-- its top has begun and not ended
abbrev pub is_open : Client → Bool
is_open c = is_open_at c.phase c.blocks

-- a node halted
abbrev pub halted : ℕ → Client → Client
halted node c =
    if (node == c.node) && is_open c then stands (if is_phase phase.Failing c.phase then phase.Failed else phase.GaveUp) c else c

-- a call of it was answered
abbrev pub answered : List ℕ → Option Statement → Client → Client
answered answer None c = stands phase.Ready c
answered answer (Some s) c = inside (taken s answer) (stands phase.Ready c)

-- it hears what a line says; `own` tells that the line is of an event by which it asked
abbrev pub hears : Body → Bool → Client → Client
hears (body.Refused cause) own c = if own then refused_at c.phase c else c
hears (body.Began l k u p) own c = if waits phase.Beginning (name l) c then stands phase.Ready c else c
hears (body.Ok l x op answer) own c = if waits phase.Calling (name l) c then answered answer c.asked c else c
hears (body.Conflict l h m n) own c = if waits phase.Calling (name l) c then stands phase.Backing c else c
hears (body.Lost l n) own c = if waits phase.Calling (name l) c then stands phase.Backing c else c
hears (body.Changed l n d) own c = if waits phase.Calling (name l) c then stands phase.Backing c else c
hears (body.Committed l) own c = if waits phase.Committing (name l) c then commits_at c.blocks c else c
hears (body.Aborted l cause) own c = aborted (name l) c
hears (body.Halted n) own c = halted n c
hears _ own c = c
