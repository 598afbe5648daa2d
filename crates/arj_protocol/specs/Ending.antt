-- How actions end at their coordinator, who is told, and how tolds are acknowledged and asked for.
use Rattle.std.specs.Prelude.{ℕ, Bool, true, false, not, ◌&&◌, ◌||◌, if◌then◌else◌, List, [], ◌∷◌, ◌++◌, map, filter, Option, Some, None}
use Rattle.std.specs.Prelude.{is_some}
use Rattle.std.specs.List.{flat_map, list_any}
use Rattle.arj_protocol.specs.Words.{Uid, Path, End, Cause, Body, Label, Kind, ObjectState, uid_eq}
use Rattle.arj_protocol.specs.Words.ending
use Rattle.arj_protocol.specs.Words.body
use Rattle.arj_protocol.specs.Words.cause
use Rattle.arj_protocol.specs.Words.kind
use Rattle.arj_protocol.specs.Words.message
use Rattle.arj_protocol.specs.Order.{has, without_number, at_uid, put_uid, without_uid, put_number, each}
use Rattle.arj_protocol.specs.Effect.{Effect, Say, Send, Do, PutIntent, RemoveIntent, Intent, Served, Did}
use Rattle.arj_protocol.specs.Ask.{actor}
use Rattle.arj_protocol.specs.Confirm.{with_stores, without_stores, marked}
use Rattle.arj_protocol.specs.Tree.{Branch, branch_of, is_open, ended_at, open_below, root_of, ends_of}
use Rattle.arj_protocol.specs.Call.{Known}
use Rattle.arj_protocol.specs.Commit.{Plan, participants, has_record, included_of}
use Rattle.arj_protocol.specs.Coord.{Coord, Doing, Idle, Root, Keeping, doing_of, on_doing, root_at, on_root, nodes_sent, servers_told}
use Rattle.arj_protocol.specs.Coord.{is_kept_top}

-- ---- lines and tolds

-- a line about an action, by its label
abbrev pub say_for : (Label → Body) → Option Doing → List Effect
say_for f None = []
say_for f (Some d) = Say (f d.label) ∷ []

-- a line about an action by its label, where the action is known
abbrev pub says : Uid → (Label → Body) → Coord → List Effect
says u f c = say_for f (doing_of u c)

-- the message that tells a node of ends, and whether it is to acknowledge them
abbrev pub tell : Uid → Bool → List (Uid × End) → ℕ → Effect
tell root ack ends n = Send n (message.Told (record { root = root; ack = ack; ends = ends }))

-- so each of these nodes is told
abbrev pub tell_all : Uid → Bool → List (Uid × End) → List ℕ → List Effect
tell_all root ack ends nodes = map (tell root ack ends) nodes

-- the ends up to and with that of the action
abbrev pub up_to : Uid → List (Uid × End) → List (Uid × End)
up_to u [] = []
up_to u (e ∷ es) = if uid_eq e.0 u then e ∷ [] else e ∷ up_to u es

-- a record of one of the serializing action's constituents lists the node
abbrev pub is_member_of : Uid → ℕ → Uid × Intent → Bool
is_member_of root n e = uid_eq e.1.root root && (not (uid_eq e.0 root) && has e.1.nodes n)

-- a node isn't told of the root's end while such a record lists it
abbrev pub is_deferred : Uid → List (Uid × Intent) → ℕ → Bool
is_deferred root intents n = list_any (is_member_of root n) intents

-- A nested end is told to the servers that were sent an Invoke of the action or of one merged into it, with the root's list of
-- ends. The end of a serializing action is told as an abort of it, and not to nodes that a record of a constituent lists.
-- An aborted top is told to every node that was sent a message of it.
abbrev pub tolds_by : Uid → Kind → Path → List (Uid × Intent) → Coord → List Effect
tolds_by u kind.Nested p intents c =
    tell_all (root_of p) false (up_to u (ends_of (root_of p) c.tree)) (servers_told u (root_at (root_of p) c) c)
tolds_by u kind.Serial p intents c =
    tell_all u false ((u, ending.Abort) ∷ []) (filter (λ n. not (is_deferred u intents n)) (nodes_sent u (root_at u c)))
tolds_by u _ p intents c = tell_all (root_of p) false ((u, ending.Abort) ∷ []) (nodes_sent u (root_at (root_of p) c))

-- the messages that tell of the end of an action that is there
abbrev pub tolds_of_branch : Uid → List (Uid × Intent) → Coord → Option Branch → List Effect
tolds_of_branch u intents c None = []
tolds_of_branch u intents c (Some b) = tolds_by u b.kind b.path intents c

-- the messages that tell of an action's end
abbrev pub tolds_of : List (Uid × Intent) → Coord → Uid → List Effect
tolds_of intents c u = tolds_of_branch u intents c (branch_of u c.tree)

-- ---- ends without a commit machine

-- the action has ended so, and waits for nothing
abbrev pub ended : Uid → End → Coord → Coord
ended u e c = on_doing u (λ (d : Doing). record d { now = Idle }) (record c { tree = ended_at u e c.tree })

-- one end with its line, and then the tolds
abbrev pub ends_with : Uid → End → (Label → Body) → List (Uid × Intent) → Coord → Did Coord
ends_with u e f intents c = let t = ended u e c in record { part = t; outs = says u f c ++ tolds_of intents t u }

-- the action is aborted, with the cause in its line
abbrev pub aborts_with : Uid → Cause → List (Uid × Intent) → Coord → Did Coord
aborts_with u why intents c = ends_with u ending.Abort (λ l. body.Aborted l why) intents c

-- these actions are aborted, each with its line
abbrev pub all_aborted : List Uid → Coord → Did Coord
all_aborted [] c = record { part = c; outs = [] }
all_aborted (u ∷ us) c =
    let t = all_aborted us (ended u ending.Abort c) in
    record { part = t.part; outs = says u (λ l. body.Aborted l cause.Asked) c ++ t.outs }

-- An abort ends the open descendants too, the one begun last first, and then the action; the tolds follow after all lines.
abbrev pub abort_action : Uid → List (Uid × Intent) → Coord → Did Coord
abort_action u intents c =
    let us = open_below u c.tree ++ u ∷ [] in
    let t = all_aborted us c in
    record { part = t.part; outs = t.outs ++ flat_map (tolds_of intents t.part) us }

-- ---- the decision

-- participants are told commit, to be acknowledged where there is a record, and all others abort
abbrev pub decided_told : Uid → Uid → Plan → ℕ → Effect
decided_told root u p n =
    if has (participants p) n then tell root (has_record p) ((u, ending.Commit) ∷ []) n else tell root false ((u, ending.Abort) ∷ []) n

-- the record of a decision, where it has one
abbrev pub record_work : Uid → Plan → List Effect
record_work u p = if has_record p then Do (PutIntent u (record { root = root_of p.path; nodes = participants p })) ∷ [] else []

-- the acknowledgements of a decision with a record are awaited
abbrev pub awaits : Uid → Plan → Coord → Coord
awaits u p c =
    if has_record p then record c { telling = put_uid u (record { root = root_of p.path; nodes = participants p }) c.telling } else c

-- the commit's exclusions go out of a list that the root keeps, and its inclusions come last
abbrev pub list_after : Plan → ℕ → Known → Known
list_after p x k = record k { stores = with_stores (marked x (included_of p)) (without_stores (marked x p.excluded) k.stores) }

-- so it is of what is known of a binding, where one is kept
abbrev pub kept_after : Plan → ℕ → Option Known → Option Known
kept_after p x None = None
kept_after p x (Some k) = Some (list_after p x k)

-- so it is of what the root keeps of an object
abbrev pub keeping_after : Plan → ℕ → Keeping → Keeping
keeping_after p x k = record k { kept = kept_after p x k.kept }

-- the states that the commit prepared
abbrev pub states_after : List ObjectState → List (ℕ × ObjectState) → List (ℕ × ObjectState)
states_after [] states = states
states_after (s ∷ ss) states = states_after ss (put_number s.uid.num s states)

-- what the root keeps after the decision: its lists of stores, and the states that were prepared
abbrev pub root_after : Plan → Root → Root
root_after p r = record r { keeping = each (keeping_after p) r.keeping; states = states_after p.changed r.states }

-- the coordinator after the decision
abbrev pub decided : Uid → Plan → Coord → Coord
decided u p c =
    awaits u p (on_root (root_of p.path) (root_after p) (on_doing u (λ (d : Doing). record d {
      took =
          participants p;
    }) (ended u ending.Commit c)))

-- The record, which is the decision; then the answer; then the tolds, in increasing node order.
abbrev pub decide : Plan → Coord → Did Coord
decide p c = record {
  part = decided (actor p.path) p c;
  outs = record_work (actor p.path) p ++ says (actor p.path) body.Committed c ++ map (decided_told (root_of p.path) (actor p.path) p) p.sent;
}

-- ---- acknowledgements

-- an action that is there has ended
abbrev pub is_over : Option Branch → Bool
is_over None = false
is_over (Some b) = is_some b.ended

-- the nodes that a removed record let go: no other record of its root lists them, and the root sent them something
abbrev pub let_go : Uid → List (Uid × Intent) → Coord → List ℕ → List ℕ
let_go root intents c nodes = filter (λ n. not (is_deferred root intents n) && has (nodes_sent root (root_at root c)) n) nodes

-- Where a serializing action has ended here, they are told so now.
abbrev pub tolds_let_go : Uid → List (Uid × Intent) → Coord → Option Intent → List Effect
tolds_let_go u intents c None = []
tolds_let_go u intents c (Some i) =
    if not (uid_eq i.root u) && is_over (branch_of i.root c.tree) then tell_all i.root false ((i.root, ending.Abort) ∷ []) (let_go i.root intents c i.nodes) else []

-- the last acknowledgement removes the record
abbrev pub acked_left : Uid → Intent → List (Uid × Intent) → Coord → List ℕ → Served Coord (Unit {0})
acked_left u i intents c [] = record {
  part = record c { telling = without_uid u c.telling };
  outs = Do (RemoveIntent u) ∷ tolds_let_go u (without_uid u intents) c (at_uid u intents);
  reply = Some tt;
}
acked_left u i intents c (n ∷ ns) =
    record { part = record c { telling = put_uid u (record i { nodes = n ∷ ns }) c.telling }; outs = []; reply = Some tt }

-- a node that the record lists acknowledged; of any other the message is void
abbrev pub acked_by : ℕ → Uid → List (Uid × Intent) → Coord → Option Intent → Served Coord (Unit {0})
acked_by from u intents c None = record { part = c; outs = []; reply = None }
acked_by from u intents c (Some i) =
    if has i.nodes from then acked_left u i intents c (without_number from i.nodes) else record { part = c; outs = []; reply = None }

-- void where no told to this node about the action is awaited
abbrev pub acked : ℕ → Uid → List (Uid × Intent) → Coord → Served Coord (Unit {0})
acked from u intents c = acked_by from u intents c (at_uid u c.telling)

-- ---- queries

-- the root of an action that is known; else itself
abbrev pub root_or_self : Uid → Option Branch → Uid
root_or_self u None = u
root_or_self u (Some b) = root_of b.path

-- the node took part in the action's commit
abbrev pub took_part : ℕ → Option Doing → Bool
took_part n None = false
took_part n (Some d) = has d.took n

-- a committed constituent of an open serializing action, in which the node took part
abbrev pub is_kept_commit : ℕ → Uid → Coord → Bool
is_kept_commit from u c = is_kept_top u c && (is_open (root_or_self u (branch_of u c.tree)) c.tree && took_part from (doing_of u c))

-- a kept constituent's commit is told, and else an abort
abbrev pub answer_decided : ℕ → Uid → Coord → List Effect
answer_decided from u c =
    if is_kept_commit from u c then tell (root_or_self u (branch_of u c.tree)) false ((u, ending.Commit) ∷ []) from ∷ []
    else tell (root_or_self u (branch_of u c.tree)) false ((u, ending.Abort) ∷ []) from ∷ []

-- with a record that lists the node the answer is commit, to be acknowledged
abbrev pub answer_recorded : ℕ → Uid → Coord → Option Intent → List Effect
answer_recorded from u c None = answer_decided from u c
answer_recorded from u c (Some i) =
    if has i.nodes from then tell i.root true ((u, ending.Commit) ∷ []) from ∷ [] else answer_decided from u c

-- Nothing while the action is open, and nothing of a serializing action while a record of a constituent lists the node;
-- then by the record; then a kept constituent's commit; otherwise abort.
abbrev pub answer_query : ℕ → Uid → List (Uid × Intent) → Coord → List Effect
answer_query from u intents c =
    if is_open u c.tree || is_deferred u intents from then [] else answer_recorded from u c (at_uid u intents)
