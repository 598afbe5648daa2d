-- At each moment of an event the journal's tables have the locks that nodes have, so the first lock that stands against anything is the
-- same.
use Rattle.std.specs.Prelude.{◌≡◌, ℕ, ◌+◌, ◌==◌, true, false, List, ◌++◌, length, Some}
use Rattle.std.specs.List.{list_all}
use Rattle.arj_base.specs.Rows.{first_conflict}
use Rattle.arj_base.specs.Uid.{entry, object}
use Rattle.arj_model.specs.Table.{table}
use Rattle.arj_protocol.specs.Laws.{naming_rows, server_rows}
use Rattle.arj_protocol.specs.Naming.{Naming}
use Rattle.arj_protocol.specs.Node.{Parts}
use Rattle.arj_protocol.specs.Step.{Node}
use Rattle.arj_protocol.specs.Words.{Body, Event, Header, Line, Mode, Uid}
use Rattle.arj_protocol.specs.World.{counted, numbered}
use Rattle.arj_law_parts.proofs.moves.Happens.{Wide}
use Rattle.arj_law_parts.specs.moves.Moments.{Moment, come, is_restart}
use Rattle.arj_law_parts.specs.moves.With.{HoldsAt, KeepsSteps, past_of}
use Rattle.arj_law_lock_view.proofs.moments.Answers.{Known}
use Rattle.arj_law_serial.proofs.holding.{Running.Showing, Sorts.is_no_start}
use Rattle.arj_law_serial.specs.tables.Tables.{up_of}
use Rattle.arj_promise.specs.Runs.{Run, world_by}

-- ---- what agrees

-- The first lock against what is asked, in whatever mode, is the same in the journal's table of a node and at its server, and on an entry
-- the same in the table and at naming.
pub record TableAgrees (k : ℕ) (lines : List Line) (t : Parts) : Type 0 where
  pub server : (path : List Uid) (x : ℕ) (asked : Mode) →
      first_conflict path (object x) asked (table k lines) ≡ first_conflict path (object x) asked (server_rows x t.server)
  pub naming : (o : Naming) → t.naming ≡ Some o → (path : List Uid) (x : ℕ) (asked : Mode) →
      first_conflict path (entry x) asked (table k lines) ≡ first_conflict path (entry x) asked (naming_rows x o)

-- so it is at each node that is up, unless it came up in the event under way
abbrev pub TablesAgree : Moment → Type 0
TablesAgree M = (k : ℕ) (n : Node) (t : Parts) → M.seen.nodes k ≡ Some n → n.live ≡ Some t →
    (M.past.number == up_of k M.seen.lines) ≡ false → TableAgrees k M.seen.lines t

-- ---- inside of an event

-- by none of these lines a node comes up
abbrev pub NoStarts : List Body → Type 0
NoStarts bs = (j : ℕ) → list_all (is_no_start j) bs ≡ true

-- behind these lines all are of this event, and by none a node comes up, unless it restarts one
pub record Inside (before : List Line) (event : ℕ) (M : Moment) : Type 0 where
  pub number : M.past.number ≡ event
  pub wrote : List Body
  pub lines : M.seen.lines ≡ before ++ numbered event wrote
  pub starts : is_restart M.past.event ≡ false → NoStarts wrote

-- so much is known of requests and of actions, and tables show locks, in this event behind these lines
abbrev pub Tables : Header → List Line → ℕ → Moment → Type 0
Tables hd before event M = (Wide Known M × Wide (Showing hd (length before) event) M) × Inside before event M

-- ---- in every run

-- as an event comes to the world behind a run, where it goes on
abbrev pub EventsBegin : Type 0
EventsBegin = (hd : Header) (r : Run hd) (e : Event) → (let w = world_by hd r in w.over) ≡ false →
    HoldsAt hd (Tables hd (let w = world_by hd r in w.lines) (let w = world_by hd r in w.event + 1)) (come e (past_of hd r))
    (counted (world_by hd r))

-- each step of each node keeps it in the event, wherever a stop falls
abbrev pub EventsKeep : Type 0
EventsKeep = (hd : Header) (r : Run hd) →
    KeepsSteps hd (Tables hd (let w = world_by hd r in w.lines) (let w = world_by hd r in w.event + 1))

-- and where it holds the first conflicts are the same
abbrev pub EventsAgree : Type 0
EventsAgree = (hd : Header) (before : List Line) (event : ℕ) (M : Moment) → Tables hd before event M → TablesAgree M
