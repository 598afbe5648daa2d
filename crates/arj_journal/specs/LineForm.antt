-- Which journal lines are in form: each number within its range, each label a letter and letters or digits behind it.
use Rattle.std.specs.Prelude.{◌≡◌, ℕ, ⊤, Bool, true, false, ◌==◌, Option, Some, None}
use Rattle.arj_base.specs.Uid.{UidFits}
use Rattle.arj_journal.specs.declared.body.Body.{Body}
use Rattle.arj_journal.specs.declared.body.Body.TheVariants as body
use Rattle.arj_journal.specs.declared.body.Line.{Line}
use Rattle.arj_journal.specs.declared.body.Difference.{Difference}
use Rattle.arj_journal.specs.declared.body.Difference.TheVariants as difference
use Rattle.arj_journal.specs.declared.body.Cause.{Cause}
use Rattle.arj_journal.specs.declared.body.Cause.TheVariants as cause
use Rattle.arj_journal.specs.declared.body.FrameKind.{FrameKind}
use Rattle.arj_journal.specs.declared.body.FrameKind.TheVariants as frame
use Rattle.arj_text.specs.declared.label.Label.{Label}
use Rattle.arj_journal.specs.declared.limits.TheConstants.{NODES, OBJECTS, REFUSALS, STORES}
use Rattle.arj_text.specs.Fields.{AreBytes, BindingInForm, IsAnswer, IsWithin, NodesInForm, NumberInForm, OpTextInForm, WordInForm}
use Rattle.arj_text.specs.Label.{LabelInForm}

-- the number of a node
abbrev pub NodeInForm : ℕ → Type 0
NodeInForm n = IsWithin 1 NODES n

-- the number of an object
abbrev pub ObjectInForm : ℕ → Type 0
ObjectInForm x = IsWithin 1 OBJECTS x

-- the parent of an action, or none
abbrev pub ParentInForm : Option Label → Type 0
ParentInForm None = ⊤
ParentInForm (Some l) = LabelInForm l

-- what was had and what is there now
abbrev pub DifferenceInForm : Difference → Type 0
DifferenceInForm (difference.Inc had now) = WordInForm had × WordInForm now
DifferenceInForm (difference.Bind had now) = BindingInForm had × BindingInForm now

-- why an action aborted
abbrev pub CauseInForm : Cause → Type 0
CauseInForm cause.Asked = ⊤
CauseInForm cause.Doomed = ⊤
CauseInForm (cause.Lost n) = NodeInForm n
CauseInForm (cause.Conflict holder mode n) = UidFits holder × NodeInForm n
CauseInForm (cause.Changed n d) = NodeInForm n × DifferenceInForm d
CauseInForm (cause.Old n x version) = NodeInForm n × ObjectInForm x × NumberInForm version
CauseInForm (cause.NoStores x) = ObjectInForm x
CauseInForm (cause.Listed x n) = ObjectInForm x × NodeInForm n

-- a frame of junk is from nobody, any other from a node
abbrev pub is_junk : FrameKind → Bool
is_junk frame.Junk = true
is_junk _ = false

-- where a frame is from: nobody for junk, else a node
abbrev pub SenderInForm : ℕ → FrameKind → Type 0
SenderInForm from kind = IsWithin 0 NODES from × ((from == 0) ≡ is_junk kind)

-- The answer of an `ok` line is kept as its text: `done`, `over`, `short`, `full`, `none` or a number, and after a `get`
-- without a key also the bytes of a register.
abbrev pub BodyInForm : Body → Type 0
BodyInForm (body.Began l kind u p) = LabelInForm l × UidFits u × ParentInForm p
BodyInForm (body.Ok l x op answer) = LabelInForm l × ObjectInForm x × OpTextInForm op × IsAnswer op answer
BodyInForm (body.Includes l x n) = LabelInForm l × ObjectInForm x × NodeInForm n
BodyInForm (body.Conflict l holder mode n) = LabelInForm l × UidFits holder × NodeInForm n
BodyInForm (body.Lost l n) = LabelInForm l × NodeInForm n
BodyInForm (body.Changed l n d) = LabelInForm l × NodeInForm n × DifferenceInForm d
BodyInForm (body.Committing l) = LabelInForm l
BodyInForm (body.Committed l) = LabelInForm l
BodyInForm (body.Ended l) = LabelInForm l
BodyInForm (body.Aborted l c) = LabelInForm l × CauseInForm c
BodyInForm (body.GaveUp l n) = LabelInForm l × NodeInForm n
BodyInForm (body.Excluded l x n) = LabelInForm l × ObjectInForm x × NodeInForm n
BodyInForm (body.Granted n u o mode) = NodeInForm n × UidFits u × UidFits o
BodyInForm (body.Lowered n u o) = NodeInForm n × UidFits u × UidFits o
BodyInForm (body.Bound x b n) = ObjectInForm x × BindingInForm b × NodeInForm n
BodyInForm (body.Active n x b) = NodeInForm n × ObjectInForm x × BindingInForm b
BodyInForm (body.Told n u e part) = NodeInForm n × UidFits u
BodyInForm (body.Prepared n u role) = NodeInForm n × UidFits u
BodyInForm (body.Done n u role e) = NodeInForm n × UidFits u
BodyInForm (body.Sent k from to kind) = WordInForm k × SenderInForm from kind × NodeInForm to
BodyInForm (body.Got k) = WordInForm k
BodyInForm (body.Void k) = WordInForm k
BodyInForm (body.Dropped k) = WordInForm k
BodyInForm (body.Halted n) = NodeInForm n
BodyInForm (body.Up n i) = NodeInForm n × WordInForm i
BodyInForm (body.Armed n) = NodeInForm n
BodyInForm (body.Recovered n u) = NodeInForm n × UidFits u
BodyInForm (body.Refused c) = IsWithin 1 REFUSALS c
BodyInForm (body.Entry x v servers stores) =
    ObjectInForm x × NumberInForm v × NodesInForm NODES STORES servers × NodesInForm NODES STORES stores
BodyInForm (body.Copy n x v u payload) = NodeInForm n × ObjectInForm x × NumberInForm v × UidFits u × AreBytes payload
BodyInForm (body.Quiet b) = ⊤
BodyInForm (body.Bad n) = WordInForm n
BodyInForm (body.Limit w) = ⊤

-- a line in form
abbrev pub LineInForm : Line → Type 0
LineInForm l = WordInForm l.event × BodyInForm l.body
