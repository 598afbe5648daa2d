-- The calls that were answered, and those of them that survive: made by a committed top, or below it by actions
-- whose nested ends up to the top are all commits.
use Rattle.std.specs.Prelude.{ℕ, List, [], map, filter, ◌&&◌, ◌==◌, Option, Some, None, if◌then◌else◌}
use Rattle.std.specs.List.{list_all, filter_map}
use Rattle.arj_base.specs.declared.uid.Uid.{Uid}
use Rattle.arj_class.specs.declared.op.Op.{Op}
use Rattle.arj_journal.specs.declared.body.Body.{Body}
use Rattle.arj_journal.specs.declared.body.Body.TheVariants as body
use Rattle.arj_journal.specs.declared.body.Line.{Line}
use Rattle.arj_text.specs.Label.{name}
use Rattle.arj_model.specs.Actions.{Act, Placed, read, path, top_in, chain_in, root_in, has_end, is_committed, committed, recovered}

-- what an `ok` line says, with the path of its action
pub record Said : Type 0 where
  pub path : List Act
  pub x : ℕ
  pub op : Op
  pub answer : List ℕ

-- an answered call of a top or below it: `chain` has the numbers of the actions below the top
pub record Call : Type 0 where
  pub at : ℕ
  pub x : ℕ
  pub op : Op
  pub answer : List ℕ
  pub top : ℕ
  pub writer : Uid
  pub chain : List ℕ

-- a top whose commit was called, with its root, at that place
pub record Top : Type 0 where
  pub id : ℕ
  pub root : ℕ
  pub at : ℕ

-- what an `ok` line says
abbrev pub said_of : List Act → Body → Option Said
said_of acts (body.Ok l x op answer) = Some (record { path = path acts (name l); x = x; op = op; answer = answer })
said_of acts _ = None

-- the path of the top whose commit is called in a line
abbrev pub committing_of : List Act → Body → Option (List Act)
committing_of acts (body.Committing l) = Some (path acts (name l))
committing_of acts _ = None

-- the answered calls of a journal, each with its place
abbrev pub said : List Line → List (Placed Said)
said lines = read said_of [] 0 lines

-- the paths of the tops whose commits were called, each with the place of the call
abbrev pub committings : List Line → List (Placed (List Act))
committings lines = read committing_of [] 0 lines

-- the numbers of the actions of a path
abbrev pub ids : List Act → List ℕ
ids path = map (λ a. a.id) path

-- an answered call, with its top
abbrev pub call_of : Placed Said → Act → Call
call_of s top =
    record { at = s.at; x = s.it.x; op = s.it.op; answer = s.it.answer; top = top.id; writer = top.uid; chain = ids (chain_in s.it.path) }

-- A call survives where the actions below its top, up to the one that made it, are all committed. Of a committed top it
-- is kept.
abbrev pub kept_in : List (Placed ℕ) → List (Placed Uid) → Placed Said → Option Act → Option Call
kept_in ends found s None = None
kept_in ends found s (Some top) =
    if list_all (λ a. has_end ends a.id) (chain_in s.it.path) && is_committed ends found top then Some (call_of s top) else None

-- the call of an `ok` line, where it survives and its top is committed
abbrev pub kept : List (Placed ℕ) → List (Placed Uid) → Placed Said → Option Call
kept ends found s = kept_in ends found s (top_in s.it.path)

-- the surviving calls of committed tops, in the order of their lines
abbrev pub committed_calls : List Line → List Call
committed_calls lines = filter_map (kept (committed lines) (recovered lines)) (said lines)

-- an answered call of any top, also where an action below the top is open or aborted
abbrev pub made_in : Placed Said → Option Act → Option Call
made_in s None = None
made_in s (Some top) = Some (call_of s top)

-- all answered calls of tops and below them
abbrev pub made : List Line → List Call
made lines = filter_map (λ s. made_in s (top_in s.it.path)) (said lines)

-- those of one top
abbrev pub made_by : List Line → ℕ → List Call
made_by lines id = filter (λ c. c.top == id) (made lines)

-- the surviving ones among these calls, by the commits: each action below the top is committed
abbrev pub survivors : List (Placed ℕ) → List Call → List Call
survivors ends cs = filter (λ c. list_all (has_end ends) c.chain) cs

-- the surviving calls of one top, committed or not
abbrev pub surviving : List Line → ℕ → List Call
surviving lines id = survivors (committed lines) (made_by lines id)

-- the number of the root of a path that isn't empty
abbrev pub root_or : ℕ → Option ℕ → ℕ
root_or id None = id
root_or id (Some root) = root

-- the top whose commit was called, where it is committed
abbrev pub top_by : List (Placed ℕ) → List (Placed Uid) → Placed (List Act) → Option Act → Option Top
top_by ends found m None = None
top_by ends found m (Some top) =
    if is_committed ends found top then Some (record { id = top.id; root = root_or top.id (root_in m.it); at = m.at }) else None

-- the same, of the path that a `committing` line names
abbrev pub top_of : List (Placed ℕ) → List (Placed Uid) → Placed (List Act) → Option Top
top_of ends found m = top_by ends found m (top_in m.it)

-- the committed tops, in the order in which their commits were called
abbrev pub tops : List Line → List Top
tops lines = filter_map (top_of (committed lines) (recovered lines)) (committings lines)
