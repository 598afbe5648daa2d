-- Who is answered by settles at a node that has asked again, by the header, the events and the lines alone.
use Rattle.std.specs.Prelude.{◌≡◌, ℕ, List, [], ◌∷◌, ◌++◌, Bool, true, false, ◌==◌, None}
use Rattle.std.specs.List.{list_all, list_any}
use Rattle.arj_base.specs.declared.uid.Uid.{Uid}
use Rattle.arj_journal.specs.declared.body.Line.{Line}
use Rattle.arj_journal.specs.declared.event.Event.{Event}
use Rattle.arj_journal.specs.declared.event.Event.TheVariants as event
use Rattle.arj_journal.specs.declared.header.Header.{Header}
use Rattle.arj_law_runs.specs.follow.Frames.{run_events}
use Rattle.arj_model.specs.Actions.{Act, act_in, acts}
use Rattle.arj_model.specs.Disks.{Disks}
use Rattle.arj_model.specs.Past.{Past, at_start}
use Rattle.arj_model.specs.Refusals.{holds_of, is_node, is_waiting, waits_for}
use Rattle.arj_promise.specs.Promise.{HasDisks}
use Rattle.arj_promise.specs.Runs.{IsInForm, Run, journal_by}
use Rattle.arj_start.specs.Start.{Start}
use Rattle.arj_law_cause.specs.rounds.Quiesces.{are_up, cuts_short, is_overtaken}
use Rattle.arj_law_cause.specs.rounds.Rounds.{Did, WasWritten, behind}

-- the event is a tick of this node
abbrev pub is_tick_of : ℕ → Event → Bool
is_tick_of n (event.Tick m) = m == n
is_tick_of n _ = false

-- the event is a settle
abbrev pub is_settle : Event → Bool
is_settle event.Settle = true
is_settle _ = false

-- The event loses nothing that is under way: it asks something of an action, has a node ask again, or delivers all that is open.
abbrev pub loses_nothing : Event → Bool
loses_nothing (event.Call l x op) = true
loses_nothing (event.Include l x n) = true
loses_nothing (event.Commit l) = true
loses_nothing (event.Tick n) = true
loses_nothing event.Settle = true
loses_nothing _ = false

-- These events, from a run so far: a tick of the node, such as lose nothing, and a settle. As they begin every node is up, by the lines
-- before them, and no line of theirs says that a node halted or that a limit was met.
pub record IsSettled (hd : Header) (past : Past) (n : ℕ) (first : Did) (between : List Did) (last : Did) : Type 0 where
  pub node : is_node hd n ≡ true
  pub ticks : is_tick_of n first.event ≡ true
  pub only : list_all (λ (d : Did). loses_nothing d.event) between ≡ true
  pub settles : is_settle last.event ≡ true
  pub up : are_up hd past.start past.lines ≡ true
  pub whole : list_any (λ (d : Did). list_any cuts_short d.bodies) (first ∷ (between ++ (last ∷ []))) ≡ false

-- each action that began at the node and waits, waits for a call that is overtaken
abbrev pub OnlyOvertaken : ℕ → Past → Type 0
OnlyOvertaken n past = (l : List ℕ) → holds_of (λ (a : Act). a.uid.node == n) (act_in (acts past.lines) l) ≡ true →
    is_waiting past l ≡ true → is_overtaken past.lines (waits_for past.accepted past.lines l) ≡ true

-- so it is behind such events
abbrev pub SettlesSo : Header → Past → ℕ → Did → List Did → Did → Type 0
SettlesSo hd past n first between last =
    IsSettled hd past n first between last → OnlyOvertaken n (behind past (first ∷ (between ++ (last ∷ []))))

-- Wherever the run has them.
pub record SettlesAnswer (hd : Header) (st : Start) (es : List Event) (journal : List Line) : Type 0 where
  pub did : List Did
  pub written : WasWritten st es journal did
  pub leaves : (before : List Did) (n : ℕ) (first : Did) (between : List Did) (last : Did) (rest : List Did) →
      did ≡ before ++ (first ∷ (between ++ (last ∷ rest))) → SettlesSo hd (behind (at_start st) before) n first between last

-- Where such events end the run the node's disk has no record.
pub record LeavesNoRecord (hd : Header) (r : Run hd) : Type 0 where
  pub did : List Did
  pub written : WasWritten r.start (run_events hd r) (journal_by hd r) did
  pub last : (before : List Did) (n : ℕ) (first : Did) (between : List Did) (settle : Did) →
      did ≡ before ++ (first ∷ (between ++ (settle ∷ []))) → IsSettled hd (behind (at_start r.start) before) n first between settle →
      (let w = written in w.ending) ≡ [] → (disks : Disks) → HasDisks hd r disks → (top : Uid) → (let d = disks n in d.records top) ≡ None

-- so it is in every run in form
abbrev pub RunsLeaveNoRecord : Type 0
RunsLeaveNoRecord = (hd : Header) (r : Run hd) → IsInForm hd r → LeavesNoRecord hd r

-- so it is in every run in form
abbrev pub RunsSettle : Type 0
RunsSettle = (hd : Header) (r : Run hd) → IsInForm hd r → SettlesAnswer hd r.start (run_events hd r) (journal_by hd r)
