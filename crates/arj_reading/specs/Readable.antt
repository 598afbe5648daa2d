-- Which lines may stand in a journal that is to be read as a run, and the first one that breaks a rule.
use Rattle.std.specs.Prelude.{◌≡◌, ℕ, ◌+◌, List, [], ◌∷◌, ◌++◌, length, find, Bool, true, false, ◌==◌, ◌&&◌, not, nat_lt, nat_le}
use Rattle.std.specs.Prelude.{if◌then◌else◌, Option, Some, None, is_some}
use Rattle.std.specs.Option.{option_map}
use Rattle.std.specs.List.{list_any}
use Rattle.arj_base.specs.declared.uid.Uid.{Uid}
use Rattle.arj_base.specs.Uid.{uid_eq}
use Rattle.arj_class.specs.declared.op.Op.{Op}
use Rattle.arj_class.specs.Forms.{is_op_in_form}
use Rattle.arj_class.specs.Table.{has_op, own_class}
use Rattle.arj_journal.specs.declared.body.Body.{Body}
use Rattle.arj_journal.specs.declared.body.Body.TheVariants as body
use Rattle.arj_journal.specs.declared.body.Kind.{Kind}
use Rattle.arj_journal.specs.declared.body.Kind.TheVariants as kind
use Rattle.arj_journal.specs.declared.body.Line.{Line}
use Rattle.arj_journal.specs.declared.header.Header.{Header}
use Rattle.arj_journal.specs.declared.header.ObjectLine.{ObjectLine}
use Rattle.arj_text.specs.Label.{name}
use Rattle.arj_model.specs.Actions.{Act, Begun, Placed, acts, act_in, id_in, path, upwards, read, ended, has_end}
use Rattle.arj_start.specs.Kinds.{is_constituent, is_serial}
use Rattle.arj_model.specs.Last.{object_line}
use Rattle.arj_reading.specs.declared.limits.TheConstants.{PATH_ACTIONS}
use Rattle.arj_reading.specs.declared.named.Named.{Named}
use Rattle.arj_reading.specs.declared.rule.Rule.{Rule}
use Rattle.arj_reading.specs.declared.rule.Rule.TheVariants as rule
use Rattle.arj_reading.specs.declared.rule.Broken.{Broken}

-- the number of the action whose commit is called in a line
abbrev pub called_of : List Act → Body → Option ℕ
called_of acts (body.Committing l) = id_in acts (name l)
called_of acts _ = None

-- the commits that were called, each with its place
abbrev pub called : List Line → List (Placed ℕ)
called lines = read called_of [] 0 lines

-- the action with this Uid
abbrev pub act_by : List Act → Uid → Option Act
act_by acts u = find (λ a. uid_eq a.uid u) acts

-- what the rules ask of an action
abbrev pub named_as : Act → Named
named_as a = record { number = a.id; kind = a.kind }

-- the action with this label
abbrev pub named : List Act → List ℕ → Option Named
named acts l = option_map named_as (act_in acts l)

-- the action with this Uid
abbrev pub known : List Act → Uid → Option Named
known acts u = option_map named_as (act_by acts u)

-- the rule, where the test fails
abbrev pub unless : Bool → Rule → Option Rule
unless true r = None
unless false r = Some r

-- the first of two rules that is broken
abbrev pub or_else : Option Rule → Option Rule → Option Rule
or_else (Some r) other = Some r
or_else None other = other

-- the kinds that have no parent
abbrev pub is_alone : Kind → Bool
is_alone kind.Top = true
is_alone kind.Serial = true
is_alone _ = false

-- both tests hold or both fail
abbrev pub is_same : Bool → Bool → Bool
is_same true b = b
is_same false b = not b

-- an action of this kind may have this parent: serializing exactly for a constituent
abbrev pub is_parent_of : Kind → Option Named → Bool
is_parent_of k None = false
is_parent_of k (Some a) = is_same (is_constituent k) (is_serial a.kind)

-- an action of this kind may name this parent: none exactly for the kinds that have none
abbrev pub has_parent : List Act → Kind → Option (List ℕ) → Bool
has_parent acts k None = is_alone k
has_parent acts k (Some p) = not (is_alone k) && is_parent_of k (named acts p)

-- An action begins: its label and its Uid are new, its parent is there, and its path isn't too long.
abbrev pub begin_rule : List Act → Begun → Option Rule
begin_rule acts b =
    or_else (unless (not (is_some (named acts b.label))) rule.NewLabel)
    (or_else (unless (not (is_some (known acts b.uid))) rule.NewUid)
    (or_else (unless (has_parent acts b.kind b.parent) rule.Parent) (unless (nat_lt (length (upwards b.parent b.kind (path acts))) PATH_ACTIONS) rule.Depth)))

-- the object is there, and has the operation
abbrev pub object_rule : Option ObjectLine → Op → Option Rule
object_rule None op = Some rule.Object
object_rule (Some o) op = unless (has_op (own_class o.value) op && is_op_in_form op) rule.Operation

-- A call is answered.
abbrev pub answer_rule : Header → Named → ℕ → Op → Option Rule
answer_rule header a x op = or_else (object_rule (object_line header x) op) (unless (not (is_serial a.kind)) rule.SerialCalls)

-- the kinds that are tops: their commits are called
abbrev pub is_top : Kind → Bool
is_top kind.Top = true
is_top kind.Independent = true
is_top kind.Constituent = true
is_top _ = false

-- The commit of an action is called: it is a top, and this is the first call.
abbrev pub call_rule : List (Placed ℕ) → Named → Option Rule
call_rule calls a = or_else (unless (is_top a.kind) rule.CommitOfTop) (unless (not (has_end calls a.number)) rule.OneCommit)

-- An action ends for the first time.
abbrev pub end_rule : List (Placed ℕ) → Named → Option Rule
end_rule ends a = unless (not (has_end ends a.number)) rule.OneEnd

-- the commit was called, where the action is a top
abbrev pub was_called : List (Placed ℕ) → Named → Bool
was_called calls a = if is_top a.kind then has_end calls a.number else true

-- An action is committed: it isn't serializing, this is its first end, and the commit of a top was called.
abbrev pub committed_rule : List (Placed ℕ) → List (Placed ℕ) → Named → Option Rule
committed_rule calls ends a =
    or_else (unless (not (is_serial a.kind)) rule.EndOfKind) (or_else (end_rule ends a) (unless (was_called calls a) rule.Called))

-- A serializing action ends, and no other.
abbrev pub ended_rule : List (Placed ℕ) → Named → Option Rule
ended_rule ends a = or_else (unless (is_serial a.kind) rule.EndOfKind) (end_rule ends a)

-- The record of an action whose commit was called is found.
abbrev pub recovered_rule : List (Placed ℕ) → Option Named → Option Rule
recovered_rule calls None = Some rule.Called
recovered_rule calls (Some a) = unless (has_end calls a.number) rule.Called

-- the rule of an action that began earlier
abbrev pub of_begun : Option Named → (Named → Option Rule) → Option Rule
of_begun None f = Some rule.Begun
of_begun (Some a) f = f a

-- What a line meets: the actions begun before it, the commits called before it, and the ends.
pub record Met : Type 0 where
  pub acts : List Act
  pub called : List (Placed ℕ)
  pub ended : List (Placed ℕ)

-- what a line behind these lines meets
abbrev pub met : List Line → Met
met lines = record { acts = acts lines; called = called lines; ended = ended lines }

-- the label of the action that a line names, if it names one that is to have begun earlier
abbrev pub label_of : Body → Option (List ℕ)
label_of (body.Ok l x op answer) = Some (name l)
label_of (body.Includes l x n) = Some (name l)
label_of (body.Conflict l h mode n) = Some (name l)
label_of (body.Lost l n) = Some (name l)
label_of (body.Changed l n d) = Some (name l)
label_of (body.Committing l) = Some (name l)
label_of (body.Committed l) = Some (name l)
label_of (body.Ended l) = Some (name l)
label_of (body.Aborted l c) = Some (name l)
label_of (body.GaveUp l n) = Some (name l)
label_of (body.Excluded l x n) = Some (name l)
label_of _ = None

-- the first rule that what a line says of an action breaks
abbrev pub named_rule : Header → Met → Body → Named → Option Rule
named_rule header m (body.Ok l x op answer) a = answer_rule header a x op
named_rule header m (body.Committing l) a = call_rule m.called a
named_rule header m (body.Committed l) a = committed_rule m.called m.ended a
named_rule header m (body.Ended l) a = ended_rule m.ended a
named_rule header m (body.Aborted l c) a = end_rule m.ended a
named_rule header m _ a = None

-- the first rule that a line breaks that names no action begun earlier
abbrev pub other_rule : Met → Body → Option Rule
other_rule m (body.Began l k u p) = begin_rule m.acts (record { label = name l; kind = k; uid = u; parent = option_map name p })
other_rule m (body.Recovered n u) = recovered_rule m.called (known m.acts u)
other_rule m _ = None

-- the first rule that what a line says breaks, by the action that it names
abbrev pub body_rule_by : Header → Met → Body → Option (List ℕ) → Option Rule
body_rule_by header m b None = other_rule m b
body_rule_by header m b (Some l) = of_begun (named m.acts l) (named_rule header m b)

-- the first rule that what a line says breaks
abbrev pub body_rule : Header → Met → Body → Option Rule
body_rule header m b = body_rule_by header m b (label_of b)

-- the first rule that a line breaks; `last` is the number of the line before it
abbrev pub line_rule : Header → Met → ℕ → Line → Option Rule
line_rule header m last line = or_else (unless (nat_le last line.event) rule.Order) (body_rule header m line.body)

-- this line breaks the rule, or what is found behind it does
abbrev pub broken_or : ℕ → Option Rule → Option Broken → Option Broken
broken_or at None behind = behind
broken_or at (Some r) behind = Some (record { line = at + 1; rule = r })

-- the first of these lines that breaks a rule, behind those before them
abbrev pub broken_from : Header → List Line → ℕ → List Line → Option Broken
broken_from header before last [] = None
broken_from header before last (line ∷ lines) =
    broken_or (length before) (line_rule header (met before) last line) (broken_from header (before ++ line ∷ []) line.event lines)

-- the first line of a journal that breaks a rule, and the rule
abbrev pub broken : Header → List Line → Option Broken
broken header lines = broken_from header [] 0 lines

-- Each line of the journal keeps the rules.
abbrev pub Readable : Header → List Line → Type 0
Readable header lines = broken header lines ≡ None
