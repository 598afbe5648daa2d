-- In a run in form, whatever stops fall in it, the operations that its journal answers are in form: they are those of its calls.
use Rattle.arj_law_parts.proofs.Words
use Words.{parts_in}
use Words.{if◌then◌else◌}
use Words.{Start, node_by, world_from}
use Words.{◌≡◌, ◌++◌, ◌+◌, ◌-◌, ◌||◌, ℕ, zero, suc, Bool, true, false, cond, not, List, [], ◌∷◌, length, map, Option, Some, None, refl, ⊤}
use Words.{nat_le, nat_lt, AllByRecursion, Body, Event, Header, Line, frame_kind, Goal, Include, Run, Disk, Do, Effect, Say, Send, Stop}
use Words.{worked, at_number, Input, Node, Step, first_reason, numbers_to, step, at_place, Arm, Frame, Giving, World, armed}
use Words.{as_delivered, as_lost, begins, begins_any, bodies, change_frame, count_works, counted, cut, deliver, deliver_frame, disarmed}
use Words.{done_step, frame_number, giving, halted_at, halted_outs, happens, is_quiet, is_up_at, junk_fits, labels_unless}
use Words.{lacks_labels, limited, lose_frame, lowest, new_frame, no_labels, node_numbers, node_of, numbered, put, quiesce}
use Words.{reasons, refused_at, run_event, run_unless, set_node, settle, settle_for, show_all, show_up, step_node, step_with, steps}
use Words.{tick_all, tick_up, Move, all_moved, as_moves, journal_by, moved, world_by, AreEventsInForm, AreMovesInForm, IsInForm}
use Words.{most_frames}
use Words.body
use Words.event
use Words.frame
use Words.input
use Rattle.arj_law_serial.proofs.Terms
use Terms.{disk_by}
use Terms.{OpTextInForm, Asked, says, IsReached, all_append, all_placed, moves_reached, LinesOf, SaysOf, OpFits, OpsFit}
use Terms.which
use Rattle.arj_journal.specs.ScriptForm.{EventInForm}
use Rattle.arj_law_runs.proofs.addresses.Lists.{all_set}
use Rattle.arj_law_serial.proofs.joint
use joint.{FitCoords.AsksFor}
use joint.FitSteps.{Fine, LiveOf, StepOf, step_so}
use Rattle.arj_promise.specs.Runs.{Run as RunOf}
use Rattle.arj_law_serial.specs.joint.FitRuns.{RunsFit}

module _ (P : ℕ → Goal → Type 0) (free : (x n : ℕ) → P x (Include n)) where
  abbrev NodeOf : Node → Type 0
  NodeOf n = LiveOf P free n.live

  abbrev AllFine : List Effect → Type 0
  AllFine outs = Fine P free outs

  abbrev pub NodesOf : List Node → Type 0
  NodesOf ns = AllByRecursion NodeOf ns

  abbrev pub WorldOf : World → Type 0
  WorldOf w = NodesOf w.nodes × LinesOf P w.lines

  -- the event asks for such a call
  abbrev pub EventOf : Event → Type 0
  EventOf (event.Call l x o) = P x (Run o)
  EventOf e = ⊤

  -- ---- a step of a node in its world

  more_lines : (ls ms : List Line) → LinesOf P ls → LinesOf P ms → LinesOf P (ls ++ ms)
  more_lines ls ms old new = all_append (λ (l : Line). SaysOf P l.body) ls ms old new

  bodies_so : (e k j : ℕ) (outs : List Effect) → AllFine outs → LinesOf P (numbered e (bodies k j outs))
  bodies_so e k j [] fine = tt
  bodies_so e k j (Say b ∷ es) fine = (fine.0, bodies_so e k j es fine.1)
  bodies_so e k j (Do w ∷ es) fine = bodies_so e k j es fine.1
  bodies_so e k j (Send to m ∷ es) fine = by (nat_le (j + 1) most_frames) (bodies_so e k (j + 1) es fine.1)
    where
      by : (b : Bool) → LinesOf P (numbered e (bodies k (j + 1) es)) →
          LinesOf P (numbered e (cond b (body.Sent (j + 1) k to (frame_kind m) ∷ []) [] ++ bodies k (j + 1) es))
      by true rest = (tt, rest)
      by false rest = rest

  cut_fine : (k : ℕ) (how : Stop) (outs : List Effect) (d : Disk) → AllFine outs → AllFine (cut k how outs d).outs
  cut_fine k how [] d fine = tt
  cut_fine zero how (Do w ∷ es) d fine = tt
  cut_fine (suc k) how (Do w ∷ es) d fine = (tt, cut_fine k how es (worked w d) fine.1)
  cut_fine k how (Say b ∷ es) d fine = (fine.0, cut_fine k how es d fine.1)
  cut_fine k how (Send to m ∷ es) d fine = (tt, cut_fine k how es d fine.1)

  put_so : (k : ℕ) (outs : List Effect) (w : World) → AllFine outs → WorldOf w → WorldOf (put k outs w)
  put_so k outs w fine its = (
    its.0,
    more_lines w.lines (numbered w.event (bodies k (length w.frames) outs)) its.1 (bodies_so w.event k (length w.frames) outs fine),
  )

  node_so : (k : ℕ) (n : Node) (w : World) → NodeOf n → WorldOf w → WorldOf (set_node k n w)
  node_so k n w live its = (all_set NodeOf k n w.nodes live its.0, its.1)

  done_so : (k : ℕ) (s : Step) (w : World) → StepOf P free s → WorldOf w → WorldOf (done_step k s w)
  done_so k s w fine its = put_so k s.outs (set_node k s.after w) fine.0 (node_so k s.after w fine.2 its)

  halted_so : (k : ℕ) (n : Node) (s : Step) (c : ℕ) (how : Stop) (w : World) → StepOf P free s → WorldOf w →
      WorldOf (halted_at k n (cut c how s.halting n.disk) w)
  halted_so k n s c how w fine its =
      let q = cut c how s.halting n.disk in
      let stopped : Node = record n { disk = q.disk; live = None } in
      put_so k (halted_outs k q) (set_node k stopped w)
      (all_append _ q.outs (Say (body.Halted k) ∷ []) (cut_fine c how s.halting n.disk fine.1) (tt, tt)) (node_so k stopped w tt its)

  armed_so : (k : ℕ) (n : Node) (s : Step) (w : World) (o : Option Arm) → StepOf P free s → WorldOf w → WorldOf (step_with k n s w o)
  armed_so k n s w None fine its = done_so k s w fine its
  armed_so k n s w (Some a) fine its = by (nat_lt (count_works s.halting) a.works)
    where
      by : (b : Bool) → WorldOf (cond b (done_step k s (armed k (record a { works = a.works - count_works s.halting }) w))
          (halted_at k n (cut (a.works - 1) a.how s.halting n.disk) (disarmed k w)))
      by true = done_so k s (armed k (record a { works = a.works - count_works s.halting }) w) fine its
      by false = halted_so k n s (a.works - 1) a.how (disarmed k w) fine its

  -- the world may have a new label by then
  stepped_so : (k : ℕ) (i : Input) (w v : World) (o : Option Node) → AsksFor P i → ((n : Node) → o ≡ Some n → NodeOf n) → WorldOf v →
      WorldOf (step_node k i v o)
  stepped_so k i w v None asks live its = its
  stepped_so k i w v (Some n) asks live its =
      armed_so k n (step v.header n i) v (at_number k v.arms) (step_so P free v.header n i asks (live n refl)) its

  steps_so : (k : ℕ) (i : Input) (w : World) → AsksFor P i → WorldOf w → WorldOf (steps k i w)
  steps_so k i w asks its = stepped_so k i w w (at_place k w.nodes) asks (λ n is. all_placed NodeOf k w.nodes n its.0 is) its

  -- ---- frames, and lines of the world's own

  says_so : (b : Body) (w : World) → SaysOf P b → WorldOf w → WorldOf (says (b ∷ []) w)
  says_so b w own its = (its.0, more_lines w.lines (numbered w.event (b ∷ [])) its.1 (own, tt))

  deliver_so : (k : ℕ) (w : World) → WorldOf w → WorldOf (deliver k w)
  deliver_so k w its = by (at_place k w.frames)
    where
      by : (o : Option Frame) → WorldOf (deliver_frame k w o)
      by None = its
      by (Some f) = steps_so f.to (input.Frame k f.from f.message) (change_frame k as_delivered f w) tt its

  lose_so : (k : ℕ) (w : World) (o : Option Frame) → WorldOf w → WorldOf (lose_frame k w o)
  lose_so k w None its = its
  lose_so k w (Some f) its = says_so (body.Dropped k) (change_frame k as_lost f w) tt its

  settle_so : (fuel : ℕ) (w : World) → WorldOf w → WorldOf (settle_for fuel w)
  settle_so zero w its = its
  settle_so (suc fuel) w its = by (lowest w) (λ k. settle_so fuel (deliver k w) (deliver_so k w its))
    where
      by : (o : Option ℕ) → ((k : ℕ) → WorldOf (settle_for fuel (deliver k w))) →
          WorldOf (elim o [ None ↦ w | Some k ↦ settle_for fuel (deliver k w) ])
      by None rest = its
      by (Some k) rest = rest k

  either_so : (b : Bool) (v u : World) → WorldOf v → WorldOf u → WorldOf (cond b v u)
  either_so true v u one other = one
  either_so false v u one other = other

  ticks_so : (ns : List ℕ) (w : World) → WorldOf w → WorldOf (tick_all ns w)
  ticks_so [] w its = its
  ticks_so (n ∷ ns) w its =
      ticks_so ns (tick_up n w) (either_so (w.full || not (is_up_at n w)) w (steps n input.Tick w) its (steps_so n input.Tick w tt its))

  quiesce_so : (w : World) → WorldOf w → WorldOf (quiesce w)
  quiesce_so w its =
      let a = settle w in
      let b = tick_all (node_numbers w) a in
      let c = settle b in
      let all : WorldOf c = settle_so most_frames b (ticks_so (node_numbers w) a (settle_so most_frames w its)) in
      either_so c.full c (says (body.Quiet (is_quiet c) ∷ []) c) all (says_so (body.Quiet (is_quiet c)) c tt all)

  shows_so : (x : ℕ) (ns : List ℕ) (w : World) → WorldOf w → WorldOf (show_all x ns w)
  shows_so x [] w its = its
  shows_so x (n ∷ ns) w its =
      shows_so x ns (show_up x n w) (either_so (is_up_at n w) (steps n (input.Show x) w) w (steps_so n (input.Show x) w tt its) its)

  junk_so : (n : ℕ) (w : World) (b : Bool) → WorldOf w → WorldOf (junk_fits n w b)
  junk_so n w true its =
      says_so (body.Sent (length w.frames + 1) 0 n frame.Junk) (record w { frames = w.frames ++ new_frame 0 n None ∷ [] }) tt its
  junk_so n w false its = its

  begins_so : (g : Giving) (w : World) → WorldOf w → WorldOf (begins g w)
  begins_so g w its = by (refused_at (input.Begin g.label g.kind g.parent) w (at_place g.node w.nodes))
    where
      by : (r : Option ℕ) → WorldOf (steps g.node (input.Begin g.label g.kind g.parent) (labels_unless g w r))
      by None = steps_so g.node (input.Begin g.label g.kind g.parent) (labels_unless g w None) tt its
      by (Some c) = steps_so g.node (input.Begin g.label g.kind g.parent) w tt its

  any_so : (e : Event) (w : World) (o : Option Giving) → WorldOf w → WorldOf (begins_any e w o)
  any_so e w None its = its
  any_so e w (Some g) its = begins_so g w its

  -- ---- events

  happens_so : (e : Event) (a : Arm) (w : World) → EventOf e → WorldOf w → WorldOf (happens e a w)
  happens_so (event.Begin l n) a w own its = any_so (event.Begin l n) w (giving (event.Begin l n) w) its
  happens_so (event.Serial l n) a w own its = any_so (event.Serial l n) w (giving (event.Serial l n) w) its
  happens_so (event.BeginIn l p) a w own its = any_so (event.BeginIn l p) w (giving (event.BeginIn l p) w) its
  happens_so (event.Top l p) a w own its = any_so (event.Top l p) w (giving (event.Top l p) w) its
  happens_so (event.Call l x o) a w own its = steps_so (node_of l w) (input.Call l x o) w own its
  happens_so (event.Include l x n) a w own its = steps_so (node_of l w) (input.Include l x n) w (free x n) its
  happens_so (event.Commit l) a w own its = steps_so (node_of l w) (input.Commit l) w tt its
  happens_so (event.Abort l) a w own its = steps_so (node_of l w) (input.Abort l) w tt its
  happens_so (event.GiveUp l) a w own its = steps_so (node_of l w) (input.GiveUp l) w tt its
  happens_so (event.Deliver k) a w own its = deliver_so (frame_number k w) w its
  happens_so (event.Lose k) a w own its = lose_so (frame_number k w) w (at_place (frame_number k w) w.frames) its
  happens_so (event.Tick n) a w own its = steps_so n input.Tick w tt its
  happens_so event.Settle a w own its = settle_so most_frames w its
  happens_so event.Quiesce a w own its = quiesce_so w its
  happens_so (event.Crash n) a w own its = steps_so n input.Crash w tt its
  happens_so (event.Restart n) a w own its = steps_so n input.Restart w tt its
  happens_so (event.Stop n c how) a w own its = says_so (body.Armed n) (armed n a w) tt its
  happens_so (event.Junk n bytes) a w own its = junk_so n w (nat_lt (length w.frames) most_frames) its
  happens_so (event.Show x) a w own its = shows_so x (node_numbers w) w its

  limited_so : (w : World) → WorldOf w → WorldOf (limited w)
  limited_so w its = either_so w.full (says (body.Limit which.Frames ∷ []) (record w { over = true })) w
      (says_so (body.Limit which.Frames) (record w { over = true }) tt its) its

  unless_so : (e : Event) (a : Arm) (w : World) (r : Option ℕ) → EventOf e → WorldOf w → WorldOf (run_unless e a w r)
  unless_so e a w (Some c) own its = says_so (body.Refused c) (counted w) tt its
  unless_so e a w None own its =
      either_so (lacks_labels (giving e w) w) (no_labels w) (limited (happens e a (counted w)))
      (says_so (body.Limit which.Labels) (record w { over = true }) tt its)
      (limited_so (happens e a (counted w)) (happens_so e a (counted w) own its))

  event_so : (e : Asked) (w : World) → EventOf e.event → WorldOf w → WorldOf (run_event e w)
  event_so e w own its = either_so w.over w (run_unless e.event e.arm w (first_reason (reasons e.event w))) its
      (unless_so e.event e.arm w (first_reason (reasons e.event w)) own its)

  -- stops that fall are nothing to it
  moves_so : (ms : List Move) (w : World) → AllByRecursion (λ (m : Move). let e = m.asked in EventOf e.event) ms → WorldOf w →
      WorldOf (all_moved ms w)
  moves_so [] w all its = its
  moves_so (m ∷ ms) w all its = moves_so ms (moved m w) all.1 (event_so m.asked (record w { arms = m.falls }) all.0 its)

  -- nothing waits as a run begins
  first_so : (hd : Header) (st : Start) → WorldOf (world_from hd st)
  first_so hd st = (by (numbers_to hd.nodes), tt)
    where
      by : (ns : List ℕ) → NodesOf (map (node_by hd st) ns)
      by [] = tt
      by (n ∷ ns) = (one (st.up n), by ns)
        where
          one : (b : Bool) → NodeOf (record {
            number = n;
            disk = disk_by hd st n;
            live = if b then Some (parts_in n (st.incs n + 1) (disk_by hd st n)) else None;
          })
          one true = tt
          one false = tt

-- ---- operations in form

-- a call's operation is in form
abbrev GoalFits : ℕ → Goal → Type 0
GoalFits x (Run o) = OpTextInForm o
GoalFits x (Include n) = ⊤

event_fits : (e : Event) → EventInForm e → EventOf GoalFits (λ x n. tt) e
event_fits (event.Begin l n) form = tt
event_fits (event.BeginIn l p) form = tt
event_fits (event.Top l p) form = tt
event_fits (event.Serial l n) form = tt
event_fits (event.Call l x o) form = form.2
event_fits (event.Include l x n) form = tt
event_fits (event.Commit l) form = tt
event_fits (event.Abort l) form = tt
event_fits (event.GiveUp l) form = tt
event_fits (event.Deliver k) form = tt
event_fits (event.Lose k) form = tt
event_fits (event.Tick n) form = tt
event_fits event.Settle form = tt
event_fits event.Quiesce form = tt
event_fits (event.Crash n) form = tt
event_fits (event.Restart n) form = tt
event_fits (event.Stop n c how) form = tt
event_fits (event.Junk n bytes) form = tt
event_fits (event.Show x) form = tt

events_fit : (ms : List Move) → AreMovesInForm ms →
    AllByRecursion (λ (m : Move). let e = m.asked in EventOf GoalFits (λ x n. tt) e.event) ms
events_fit [] all = tt
events_fit (m ∷ ms) all = (let e = m.asked in event_fits e.event all.0, events_fit ms all.1)

lines_fit : (x : ℕ) (ls : List Line) → LinesOf GoalFits ls → OpsFit x ls
lines_fit x [] all = tt
lines_fit x (l ∷ ls) all = (by l.body all.0, lines_fit x ls all.1)
  where
    by : (b : Body) → SaysOf GoalFits b → OpFits x b
    by (body.Ok m y o a) its = λ same. its
    by b its = tt

pub moves_fit : RunsFit
moves_fit hd x r form =
    let w = world_by hd r in
    lines_fit x w.lines (moves_so GoalFits (λ y n. tt) r.moves (world_from hd r.start) (events_fit r.moves form)
    (first_so GoalFits (λ y n. tt) hd r.start)).1

-- a run in form comes to a world that is reached, and answers operations in form
pub runs_in_form : (hd : Header) (r : RunOf hd) → IsInForm hd r → IsReached hd (world_by hd r) × ((x : ℕ) → OpsFit x (journal_by hd r))
runs_in_form hd r form = (moves_reached hd r form.few, λ x. moves_fit hd x r form.events)

-- ---- scripts

-- the moves of a script in form are in form
pub scripts_in_form : (es : List Asked) (w : World) → AreEventsInForm es → AreMovesInForm (as_moves es w)
scripts_in_form [] w all = tt
scripts_in_form (e ∷ es) w all = (all.0.0, scripts_in_form es (run_event e w) all.1)
