-- What is told of prepared states, as lines of text.
use Rattle.std.specs.Prelude.{ℕ, List, [], ◌∷◌, ◌++◌, codes, length, Bool, true, false, if◌then◌else◌}
use Rattle.std.specs.List.{flat_map}
use Rattle.arj_journal.specs.LineText.{uid_word}
use Rattle.arj_journal.specs.declared.body.Body.{Body}
use Rattle.arj_journal.specs.declared.body.Body.TheVariants as body
use Rattle.arj_journal.specs.declared.body.Line.{Line}
use Rattle.arj_journal.specs.declared.body.Role.TheVariants as role
use Rattle.arj_journal.specs.declared.header.Header.{Header}
use Rattle.arj_journal.specs.declared.header.ObjectLine.{ObjectLine}
use Rattle.arj_seen.specs.declared.seen.ScriptLine.{ScriptLine}
use Rattle.arj_text.specs.Words.{number_word, space}
use Rattle.arj_pending.specs.Crashes.{crash_flags}
use Rattle.arj_pending.specs.Holds.{may_hold}
use Rattle.arj_pending.specs.Pends.{behind}
use Rattle.arj_pending.specs.declared.kept.Pend.{Pend}

-- whether a line said so
abbrev pub said_text : Bool → List ℕ
said_text true = codes "prepared"
said_text false = codes "perhaps"

-- a state of object x that a node may hold for an action
abbrev pub state_text : ℕ → Pend → List ℕ
state_text x d = number_word x ++ (number_word d.node ++ (uid_word d.action ++ (space ++ said_text d.said)))

-- that of an object of the header, where the node may hold one
abbrev pub object_text : Header → List Line → Pend → ObjectLine → List ℕ
object_text header lines d o = if may_hold header lines d.node d.action o.x then state_text o.x d else []

-- those of all objects
abbrev pub objects_text : Header → List Line → Pend → List ℕ
objects_text header lines d = flat_map (object_text header lines d) header.objects

-- all that nodes may hold behind these lines
abbrev pub pending_text : Header → List Line → List Pend → List ℕ
pending_text header lines ds = codes "pending" ++ (number_word (length lines) ++ (flat_map (objects_text header lines) ds ++ 10 ∷ []))

-- a line may change what nodes hold
abbrev pub may_move : Body → Bool
may_move (body.Prepared n u role.Store) = true
may_move (body.Done n u role.Store e) = true
may_move (body.Halted n) = true
may_move (body.Quiet idle) = idle
may_move _ = false

-- all that they may hold behind these lines, of which this is the last, where it may change that
abbrev pub pending_behind : List Bool → Header → List Line → Body → List ℕ
pending_behind flags header lines b =
    if may_move b then pending_text header lines (let m = behind flags lines in m.pends) else []

-- the same behind each of these lines, behind those before them
abbrev pub pendings_from : List Bool → Header → List Line → List Line → List ℕ
pendings_from flags header before [] = []
pendings_from flags header before (line ∷ rest) =
    pending_behind flags header (before ++ line ∷ []) line.body ++ pendings_from flags header (before ++ line ∷ []) rest

-- What nodes may hold, behind each line that may change it.
abbrev pub told_pendings : List ScriptLine → Header → List Line → List ℕ
told_pendings script header lines = pendings_from (crash_flags script) header [] lines
