-- Whose lines an event wrote: node by node, in words of the journal.
use Rattle.std.specs.Prelude.{◌≡◌, ◌≤◌, ◌+◌, ℕ, List, [], ◌∷◌, ◌++◌, Bool, true, false, ◌==◌, ◌&&◌}
use Rattle.std.specs.List.{list_all, list_any}
use Rattle.std.specs.Str.{bytes_eq}
use Rattle.arj_journal.specs.declared.body.Body.{Body}
use Rattle.arj_journal.specs.declared.body.Body.TheVariants as body
use Rattle.arj_journal.specs.declared.body.Line.{Line}
use Rattle.arj_journal.specs.declared.event.Event.{Event}
use Rattle.arj_journal.specs.declared.event.Event.TheVariants as event
use Rattle.arj_journal.specs.declared.header.Header.{Header}
use Rattle.arj_text.specs.Label.{name}
use Rattle.arj_model.specs.CausePends.{frame_is}
use Rattle.arj_model.specs.Past.{Past, block}

-- an action with this label begins at the node
abbrev pub begins_at : List ℕ → ℕ → Body → Bool
begins_at l n (body.Began m k u p) = bytes_eq (name m) l && (u.node == n)
begins_at l n _ = false

-- by these lines one did
abbrev pub began_at : List Line → List ℕ → ℕ → Bool
began_at lines l n = list_any (λ line. begins_at l n line.body) lines

-- By these lines the line is the node's: it names the node, it answers an action that began there, or speaks of its end, or it is of a
-- frame that the node sent. Node 1 binds objects, and shows entries.
abbrev pub is_own_line : List Line → ℕ → Body → Bool
is_own_line lines n (body.Began l k u p) = u.node == n
is_own_line lines n (body.Ok l x op answer) = began_at lines (name l) n
is_own_line lines n (body.Includes l x m) = began_at lines (name l) n
is_own_line lines n (body.Conflict l u mode m) = began_at lines (name l) n
is_own_line lines n (body.Lost l m) = began_at lines (name l) n
is_own_line lines n (body.Changed l m d) = began_at lines (name l) n
is_own_line lines n (body.Committing l) = began_at lines (name l) n
is_own_line lines n (body.Committed l) = began_at lines (name l) n
is_own_line lines n (body.Ended l) = began_at lines (name l) n
is_own_line lines n (body.Aborted l c) = began_at lines (name l) n
is_own_line lines n (body.GaveUp l m) = began_at lines (name l) n
is_own_line lines n (body.Excluded l x m) = began_at lines (name l) n
is_own_line lines n (body.Granted m u o mode) = m == n
is_own_line lines n (body.Lowered m u o) = m == n
is_own_line lines n (body.Bound x b m) = n == 1
is_own_line lines n (body.Active m x b) = m == n
is_own_line lines n (body.Told m u e p) = m == n
is_own_line lines n (body.Prepared m u r) = m == n
is_own_line lines n (body.Done m u r e) = m == n
is_own_line lines n (body.Sent k from to carried) = from == n
is_own_line lines n (body.Halted m) = m == n
is_own_line lines n (body.Up m i) = m == n
is_own_line lines n (body.Recovered m u) = m == n
is_own_line lines n (body.Entry x v servers stores) = n == 1
is_own_line lines n (body.Copy m x v u payload) = m == n
is_own_line lines n _ = false

-- the line is no node's: a refusal, what the script does to frames and disks, whether all is quiet, and what ends a run
abbrev pub is_of_none : Body → Bool
is_of_none (body.Sent k from to carried) = from == 0
is_of_none (body.Dropped k) = true
is_of_none (body.Armed n) = true
is_of_none (body.Refused c) = true
is_of_none (body.Quiet still) = true
is_of_none (body.Bad n) = true
is_of_none (body.Limit which) = true
is_of_none _ = false

-- By these lines the event has the node do something else than take a frame: it names the node, or an action that began there; a quiesce
-- ticks every node, and a show asks every one.
abbrev pub moves_node : List Line → Event → ℕ → Bool
moves_node lines (event.Begin l m) n = m == n
moves_node lines (event.Serial l m) n = m == n
moves_node lines (event.BeginIn l p) n = began_at lines (name p) n
moves_node lines (event.Top l p) n = began_at lines (name p) n
moves_node lines (event.Call l x op) n = began_at lines (name l) n
moves_node lines (event.Include l x m) n = began_at lines (name l) n
moves_node lines (event.Commit l) n = began_at lines (name l) n
moves_node lines (event.Abort l) n = began_at lines (name l) n
moves_node lines (event.GiveUp l) n = began_at lines (name l) n
moves_node lines (event.Tick m) n = m == n
moves_node lines (event.Crash m) n = m == n
moves_node lines (event.Restart m) n = m == n
moves_node lines event.Quiesce n = true
moves_node lines (event.Show x) n = true
moves_node lines _ n = false

-- the frame of this number is for the node
abbrev pub is_for : List Line → ℕ → ℕ → Bool
is_for lines k n = frame_is (λ from to carried. to == n) lines k

-- The lines come from steps of nodes: a node takes a frame, and then its own lines stand behind the one that says so; a frame is void; or a
-- node does what the event has it do, nodes in increasing order, and its own lines stand together. What is no node's stands between.
pub data AreSteps (lines : List Line) (e : Event) : ℕ → List Body → Type 0 where
  NoStep : (from : ℕ) → AreSteps lines e from []
  Takes : (from k n : ℕ) (own rest : List Body) → is_for lines k n ≡ true → list_all (is_own_line lines n) own ≡ true →
      AreSteps lines e from rest → AreSteps lines e from (body.Got k ∷ (own ++ rest))
  LeavesVoid : (from k : ℕ) (rest : List Body) → AreSteps lines e from rest → AreSteps lines e from (body.Void k ∷ rest)
  Moves : (from n : ℕ) (own rest : List Body) → from ≤ n → moves_node lines e n ≡ true → list_all (is_own_line lines n) own ≡ true →
      AreSteps lines e (n + 1) rest → AreSteps lines e from (own ++ rest)
  NoNodes : (from : ℕ) (b : Body) (rest : List Body) → is_of_none b ≡ true → AreSteps lines e from rest →
      AreSteps lines e from (b ∷ rest)

-- so they do, by the lines up to the event's last
abbrev pub LocalStep : Header → Past → Event → List Body → Type 0
LocalStep hd past e bodies = AreSteps (past.lines ++ block (past.count + 1) bodies) e 0 bodies

-- the event isn't one in which frame after frame is delivered
abbrev pub settles_none : Event → Bool
settles_none event.Settle = false
settles_none event.Quiesce = false
settles_none e = true

-- so it is of each event but those
abbrev pub LocalBesideSettles : Header → Past → Event → List Body → Type 0
LocalBesideSettles hd past e bodies = settles_none e ≡ true → LocalStep hd past e bodies
