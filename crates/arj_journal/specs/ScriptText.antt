-- The spelling of script lines, without their ends.
use Rattle.std.specs.Prelude.{ℕ, List, ◌++◌, codes}
use Rattle.std.specs.Fmt.{decimal}
use Rattle.arj_journal.specs.declared.event.Event.{Event}
use Rattle.arj_journal.specs.declared.event.Event.TheVariants as event
use Rattle.arj_journal.specs.declared.event.FrameNo.{FrameNo}
use Rattle.arj_journal.specs.declared.event.FrameNo.TheVariants as frame_no
use Rattle.arj_journal.specs.declared.event.StopKind.{StopKind}
use Rattle.arj_journal.specs.declared.event.StopKind.TheVariants as stop_kind
use Rattle.arj_journal.specs.declared.header.ObjectLine.{ObjectLine}
use Rattle.arj_text.specs.declared.label.Label.{Label}
use Rattle.arj_text.specs.Label.{name}
use Rattle.arj_text.specs.Words.{number_word, space, hex, list_text, op_text, value_text}

-- a frame, by its number or as the last
abbrev pub frame_no_text : FrameNo → List ℕ
frame_no_text (frame_no.Number k) = decimal k
frame_no_text frame_no.Last = codes "last"

-- what a stopped disk call leaves
abbrev pub stop_kind_text : StopKind → List ℕ
stop_kind_text stop_kind.Undone = codes "none"
stop_kind_text stop_kind.Done = codes "done"
stop_kind_text (stop_kind.Torn bytes) = codes "torn " ++ hex bytes

-- a word, a space and a label
abbrev pub labelled : List ℕ → Label → List ℕ
labelled word l = word ++ (space ++ name l)

-- an event
abbrev pub event_text : Event → List ℕ
event_text (event.Begin l n) = labelled (codes "begin") l ++ (codes " at" ++ number_word n)
event_text (event.BeginIn l p) = labelled (codes "begin") l ++ labelled (codes " in") p
event_text (event.Top l p) = labelled (codes "top") l ++ labelled (codes " in") p
event_text (event.Serial l n) = labelled (codes "serial") l ++ (codes " at" ++ number_word n)
event_text (event.Call l x op) = labelled (codes "call") l ++ (number_word x ++ (space ++ op_text op))
event_text (event.Include l x n) = labelled (codes "include") l ++ (number_word x ++ number_word n)
event_text (event.Commit l) = labelled (codes "commit") l
event_text (event.Abort l) = labelled (codes "abort") l
event_text (event.GiveUp l) = labelled (codes "giveup") l
event_text (event.Deliver k) = codes "deliver " ++ frame_no_text k
event_text (event.Lose k) = codes "lose " ++ frame_no_text k
event_text (event.Tick n) = codes "tick" ++ number_word n
event_text event.Settle = codes "settle"
event_text event.Quiesce = codes "quiesce"
event_text (event.Crash n) = codes "crash" ++ number_word n
event_text (event.Restart n) = codes "restart" ++ number_word n
event_text (event.Stop n c kind) = codes "stop" ++ (number_word n ++ (number_word c ++ (space ++ stop_kind_text kind)))
event_text (event.Junk n bytes) = codes "junk" ++ (number_word n ++ (space ++ hex bytes))
event_text (event.Show x) = codes "show" ++ number_word x

-- how many nodes there are
abbrev pub nodes_text : ℕ → List ℕ
nodes_text n = codes "nodes" ++ number_word n

-- that first states have format one
abbrev pub format_text : List ℕ
format_text = codes "format 1"

-- an object with its first value, its servers and its stores
abbrev pub object_text : ObjectLine → List ℕ
object_text o =
    codes "object" ++ (number_word o.x ++ (space ++ (value_text o.value ++ (codes " servers " ++ (list_text o.servers ++ (codes " stores " ++ list_text o.stores))))))
