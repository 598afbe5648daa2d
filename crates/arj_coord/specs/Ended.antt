-- Decisions and acknowledgements, by the record that is put or left.
use Rattle.std.specs.Prelude.{ℕ, Bool, not, ◌&&◌, if◌then◌else◌, List, [], ◌∷◌, Option, Some, None}
use Rattle.std.specs.List.{list_any}
use Rattle.arj_protocol.specs.Commit.{Plan, participants, has_record}
use Rattle.arj_protocol.specs.Coord.{Coord}
use Rattle.arj_protocol.specs.Effect.{Intent, Did, Do, RemoveIntent}
use Rattle.arj_protocol.specs.Ending.{tolds_let_go, is_member_of}
use Rattle.arj_protocol.specs.Order.{has, at_uid, put_uid, without_uid, without_number}
use Rattle.arj_protocol.specs.Tree.{root_of}
use Rattle.arj_protocol.specs.Words.{Uid, uid_eq}

-- what the record of a decided commit says, if it has one
abbrev pub record_in : Plan → Option Intent
record_in p = if has_record p then Some (record { root = root_of p.path; nodes = participants p }) else None

-- the nodes of a record, if there is one, are awaited
abbrev pub awaiting : Uid → Option Intent → Coord → Coord
awaiting u None c = c
awaiting u (Some i) c = record c { telling = put_uid u i c.telling }

-- what is awaited without a node, nothing where the node isn't awaited
abbrev pub without_node : ℕ → Option Intent → Option Intent
without_node from None = None
without_node from (Some i) = if has i.nodes from then Some (record i { nodes = without_number from i.nodes }) else None

-- these nodes are awaited from now on; where there are none the record is removed
abbrev pub left_in : Uid → Intent → List (Uid × Intent) → Coord → List ℕ → Did Coord
left_in u i intents c [] = record {
  part = record c { telling = without_uid u c.telling };
  outs = Do (RemoveIntent u) ∷ tolds_let_go u (without_uid u intents) c (at_uid u intents);
}
left_in u i intents c (n ∷ ns) = record { part = record c { telling = put_uid u i c.telling }; outs = [] }

-- the nodes of the record are awaited
abbrev pub left_by : Uid → Intent → List (Uid × Intent) → Coord → Did Coord
left_by u i intents c = left_in u i intents c i.nodes

-- another record than that of a top is of the root, and lists the node
abbrev pub is_other_member : Uid → Uid → ℕ → Uid × Intent → Bool
is_other_member without root n e = not (uid_eq e.0 without) && is_member_of root n e

-- some such record lists the node
abbrev pub deferred_but : Uid → Uid → ℕ → List (Uid × Intent) → Bool
deferred_but without root n es = list_any (is_other_member without root n) es
