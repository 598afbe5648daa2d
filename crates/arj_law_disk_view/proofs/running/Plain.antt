-- Effects that leave the records of a disk as they are.
use Rattle.arj_law_parts.proofs.Words
use Words.{ℕ, ◌&&◌, ◌||◌, List, [], ◌∷◌, ◌++◌, Bool, true, false, Option, Some, None, refl, map, filter, if◌then◌else◌, not, flat_map}
use Words.{list_all, and_parts, Uid, Path, Kind, End, Label, Body, Ask, uid_eq, actor, asks_all, asks_node, end_line, gaveup_lines}
use Words.{mark_lines, step_call, Steps, CallStep, On, Ended, Plan, participants, has_record, Coord, Doing, doing_of, nodes_sent, root_at}
use Words.{servers_told, Effect, Say, Send, Do, Look, PutInc, Prepare, Commit, Abort, PutIntent, RemoveIntent, Intent, all_aborted}
use Words.{answer_decided, answer_query, answer_recorded, decided_told, ended, is_deferred, is_kept_commit, let_go, root_or_self, say_for}
use Words.{says, tell, tell_all, tolds_by, tolds_let_go, tolds_of, tolds_of_branch, up_to, at_uid, AreAll, is_naming_effect}
use Words.{is_server_effect, tolds_again, Branch, branch_of, ends_of, is_open, root_of, all_both, all_if}
use Words.body
use Words.cause
use Words.ending
use Words.kind
use Words.order
use Rattle.arj_law_disk_view.proofs.Terms.{is_over, Action, LeavesRecords}

-- no work on records
abbrev pub is_plain : Effect → Bool
is_plain (Do (PutIntent u i)) = false
is_plain (Do (RemoveIntent u)) = false
is_plain _ = true

abbrev pub Plain : List Effect → Type 0
Plain es = AreAll is_plain es

pub plain_both : (es fs : List Effect) → Plain es → Plain fs → Plain (es ++ fs)
plain_both es fs a b = all_both is_plain es fs a b

-- such effects before others, and alone
pub leaves_behind : (acts : List Action) (telling : List (Uid × Intent)) (es fs : List Effect) (intents : List (Uid × Intent)) → Plain es →
    LeavesRecords acts telling fs intents → LeavesRecords acts telling (es ++ fs) intents
leaves_behind acts telling [] fs intents plain rest = rest
leaves_behind acts telling (Say b ∷ es) fs intents plain rest = (tt, leaves_behind acts telling es fs intents plain rest)
leaves_behind acts telling (Send to m ∷ es) fs intents plain rest = (tt, leaves_behind acts telling es fs intents plain rest)
leaves_behind acts telling (Do Look ∷ es) fs intents plain rest = (tt, leaves_behind acts telling es fs intents plain rest)
leaves_behind acts telling (Do (PutInc i) ∷ es) fs intents plain rest = (tt, leaves_behind acts telling es fs intents plain rest)
leaves_behind acts telling (Do (Prepare r u states) ∷ es) fs intents plain rest = (tt, leaves_behind acts telling es fs intents plain rest)
leaves_behind acts telling (Do (Commit r u) ∷ es) fs intents plain rest = (tt, leaves_behind acts telling es fs intents plain rest)
leaves_behind acts telling (Do (Abort r u) ∷ es) fs intents plain rest = (tt, leaves_behind acts telling es fs intents plain rest)
leaves_behind acts telling (Do (PutIntent u i) ∷ es) fs intents plain rest = absurd (cc plain)
leaves_behind acts telling (Do (RemoveIntent u) ∷ es) fs intents plain rest = absurd (cc plain)

-- ---- lines

pub plain_says : (u : Uid) (f : Label → Body) (c : Coord) → Plain (says u f c)
plain_says u f c = by (doing_of u c)
  where
    by : (o : Option Doing) → Plain (say_for f o)
    by None = refl
    by (Some d) = refl

pub plain_marks : (u : Uid) (marks : List (ℕ × ℕ)) (c : Coord) → Plain (mark_lines u marks c)
plain_marks u [] c = refl
plain_marks u (m ∷ ms) c = plain_both (says u (λ l. body.Excluded l m.0 m.1) c) (mark_lines u ms c)
    (plain_says u (λ l. body.Excluded l m.0 m.1) c) (plain_marks u ms c)

pub plain_gaveup : (u : Uid) (nodes : List ℕ) (c : Coord) → Plain (gaveup_lines u nodes c)
plain_gaveup u [] c = refl
plain_gaveup u (n ∷ ns) c =
    plain_both (says u (λ l. body.GaveUp l n) c) (gaveup_lines u ns c) (plain_says u (λ l. body.GaveUp l n) c) (plain_gaveup u ns c)

-- ---- tolds

pub plain_tolds : (root : Uid) (ack : Bool) (ends : List (Uid × End)) (ns : List ℕ) → Plain (tell_all root ack ends ns)
plain_tolds root ack ends [] = refl
plain_tolds root ack ends (n ∷ ns) = plain_tolds root ack ends ns

plain_by : (u : Uid) (k : Kind) (p : Path) (intents : List (Uid × Intent)) (c : Coord) → Plain (tolds_by u k p intents c)
plain_by u kind.Nested p intents c =
    plain_tolds (root_of p) false (up_to u (ends_of (root_of p) c.tree)) (servers_told u (root_at (root_of p) c) c)
plain_by u kind.Serial p intents c =
    plain_tolds u false ((u, ending.Abort) ∷ []) (filter (λ n. not (is_deferred u intents n)) (nodes_sent u (root_at u c)))
plain_by u kind.Top p intents c = plain_tolds (root_of p) false ((u, ending.Abort) ∷ []) (nodes_sent u (root_at (root_of p) c))
plain_by u kind.Independent p intents c = plain_tolds (root_of p) false ((u, ending.Abort) ∷ []) (nodes_sent u (root_at (root_of p) c))
plain_by u kind.Constituent p intents c = plain_tolds (root_of p) false ((u, ending.Abort) ∷ []) (nodes_sent u (root_at (root_of p) c))

pub plain_tolds_of : (intents : List (Uid × Intent)) (c : Coord) (u : Uid) → Plain (tolds_of intents c u)
plain_tolds_of intents c u = by (branch_of u c.tree)
  where
    by : (o : Option Branch) → Plain (tolds_of_branch u intents c o)
    by None = refl
    by (Some b) = plain_by u b.kind b.path intents c

pub plain_tolds_all : (intents : List (Uid × Intent)) (c : Coord) (us : List Uid) → Plain (flat_map (tolds_of intents c) us)
plain_tolds_all intents c [] = refl
plain_tolds_all intents c (u ∷ us) =
    plain_both (tolds_of intents c u) (flat_map (tolds_of intents c) us) (plain_tolds_of intents c u) (plain_tolds_all intents c us)

pub plain_aborted : (us : List Uid) (c : Coord) → Plain (all_aborted us c).outs
plain_aborted [] c = refl
plain_aborted (u ∷ us) c = plain_both (says u (λ l. body.Aborted l cause.Asked) c) (all_aborted us (ended u ending.Abort c)).outs
    (plain_says u (λ l. body.Aborted l cause.Asked) c) (plain_aborted us (ended u ending.Abort c))

pub plain_decided : (root u : Uid) (p : Plan) (ns : List ℕ) → Plain (map (decided_told root u p) ns)
plain_decided root u p [] = refl
plain_decided root u p (n ∷ ns) = by (order.has (participants p) n) (plain_decided root u p ns)
  where
    by : (b : Bool) → Plain (map (decided_told root u p) ns) → Plain ((if b then tell root (has_record p) ((u, ending.Commit) ∷ []) n else
        tell root false ((u, ending.Abort) ∷ []) n) ∷ map (decided_told root u p) ns)
    by true rest = rest
    by false rest = rest

pub plain_let_go : (u : Uid) (intents : List (Uid × Intent)) (c : Coord) (o : Option Intent) → Plain (tolds_let_go u intents c o)
plain_let_go u intents c None = refl
plain_let_go u intents c (Some i) =
    all_if is_plain (not (uid_eq i.root u) && is_over (branch_of i.root c.tree)) (tell_all i.root false ((i.root, ending.Abort) ∷ [])
    (let_go i.root intents c i.nodes)) [] (plain_tolds i.root false ((i.root, ending.Abort) ∷ []) (let_go i.root intents c i.nodes)) refl

pub plain_again : (telling : List (Uid × Intent)) → Plain (tolds_again telling)
plain_again [] = refl
plain_again (e ∷ es) = plain_both (tell_all (let i = e.1 in i.root) true ((e.0, ending.Commit) ∷ []) (let i = e.1 in i.nodes))
    (tolds_again es) (plain_tolds (let i = e.1 in i.root) true ((e.0, ending.Commit) ∷ []) (let i = e.1 in i.nodes)) (plain_again es)

pub plain_query : (from : ℕ) (u : Uid) (intents : List (Uid × Intent)) (c : Coord) → Plain (answer_query from u intents c)
plain_query from u intents c = by (is_open u c.tree || is_deferred u intents from) (at_uid u intents)
  where
    decided : (b : Bool) (r : Uid) →
        Plain (if b then tell r false ((u, ending.Commit) ∷ []) from ∷ [] else tell r false ((u, ending.Abort) ∷ []) from ∷ [])
    decided true r = refl
    decided false r = refl

    recorded : (i : Intent) (b : Bool) → Plain (if b then tell i.root true ((u, ending.Commit) ∷ []) from ∷ [] else answer_decided from u c)
    recorded i true = refl
    recorded i false = decided (is_kept_commit from u c) (root_or_self u (branch_of u c.tree))

    by : (b : Bool) (o : Option Intent) → Plain (if b then [] else answer_recorded from u c o)
    by true o = refl
    by false None = decided (is_kept_commit from u c) (root_or_self u (branch_of u c.tree))
    by false (Some i) = recorded i (order.has i.nodes from)

-- ---- requests

pub plain_asks : (p : Path) (req : ℕ) (asked : List (ℕ × Ask)) (c : Coord) → Plain (asks_all p req asked c).outs
plain_asks p req [] c = refl
plain_asks p req (a ∷ rest) c = plain_asks p req rest (asks_node p req a c).part

pub plain_step : (s : Steps) (t : CallStep) (c : Coord) → Plain (step_call s t c).outs
plain_step s (On at) c = refl
plain_step s (Ended e) c = plain_says (actor s.path) (end_line s.x s.goal e) c

-- ---- other parts

pub plain_server : (n : ℕ) (es : List Effect) → AreAll (is_server_effect n) es → Plain es
plain_server n [] own = refl
plain_server n (Say b ∷ es) own = plain_server n es (and_parts (is_server_effect n (Say b)) (list_all (is_server_effect n) es) own).1
plain_server n (Send to m ∷ es) own = absurd (cc own)
plain_server n (Do w ∷ es) own = absurd (cc own)

pub plain_naming : (es : List Effect) → AreAll is_naming_effect es → Plain es
plain_naming [] own = refl
plain_naming (Say b ∷ es) own = plain_naming es (and_parts (is_naming_effect (Say b)) (list_all is_naming_effect es) own).1
plain_naming (Send to m ∷ es) own = absurd (cc own)
plain_naming (Do Look ∷ es) own = plain_naming es own
plain_naming (Do (PutInc i) ∷ es) own = absurd (cc own)
plain_naming (Do (Prepare r u states) ∷ es) own =
    plain_naming es (and_parts (is_naming_effect (Do (Prepare r u states))) (list_all is_naming_effect es) own).1
plain_naming (Do (Commit r u) ∷ es) own =
    plain_naming es (and_parts (is_naming_effect (Do (Commit r u))) (list_all is_naming_effect es) own).1
plain_naming (Do (Abort r u) ∷ es) own =
    plain_naming es (and_parts (is_naming_effect (Do (Abort r u))) (list_all is_naming_effect es) own).1
plain_naming (Do (PutIntent u i) ∷ es) own = absurd (cc own)
plain_naming (Do (RemoveIntent u) ∷ es) own = absurd (cc own)
