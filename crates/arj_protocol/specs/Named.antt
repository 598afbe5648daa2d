-- One object at the naming service: who was bound to which server, what is live, and the locks on its entry. A call on it
-- reads the object's committed entry; the locks on an entry are held by tops.
use Rattle.std.specs.Prelude.{ℕ, ◌+◌, Bool, true, false, not, ◌&&◌, ◌==◌, nat_le, if◌then◌else◌, List, [], ◌∷◌, ◌++◌, Option, Some, None}
use Rattle.std.specs.List.{list_any}
use Rattle.arj_protocol.specs.Words.{Uid, Binding, Path, Mode, Entry, Row, BoundReply, RecordedReply, entry, tops_of, last_uid, is_on}
use Rattle.arj_protocol.specs.Words.{is_row_of, lower_row, mode_code, drop_rows, pass_rows, first_conflict, End}
use Rattle.arj_protocol.specs.Words.mode
use Rattle.arj_protocol.specs.Words.ending
use Rattle.arj_protocol.specs.Words.body
use Rattle.arj_protocol.specs.Words.bound
use Rattle.arj_protocol.specs.Words.recorded
use Rattle.arj_protocol.specs.Order.{at_uid, put_uid, without_uid, with_uid, drop_uid, binding_eq, binding_less, is_binding}
use Rattle.arj_protocol.specs.Effect.{Effect, Say, Served, void, reply}
use Rattle.arj_protocol.specs.Ask.{top_path, top_of}
use Rattle.arj_protocol.specs.Copy.{row_for, rows_asked, grant_lines}

-- a binding that is in use: the server, and its incarnation
pub record Live : Type 0 where
  pub binding : Binding
  pub server : ℕ
  pub inc : ℕ

-- a binding that was made for a top
pub record Made : Type 0 where
  pub binding : Binding
  pub server : ℕ
  pub recorded : Bool

-- `turn` is the server that was bound last, `recorded` the binding that was recorded last, `made` the last binding that was
-- made for each top, and `asked` are the tops that asked the entry's lock by an include.
pub record Named : Type 0 where
  pub live : Option Live
  pub recorded : Option Binding
  pub made : List (Uid × Made)
  pub asked : List Uid
  pub turn : Option ℕ
  pub rows : List Row

-- an object of which naming knows its entry alone
abbrev pub unnamed : List Row → Named
unnamed rows = record { live = None; recorded = None; made = []; asked = []; turn = None; rows = rows }

-- The object with the count of bindings that naming has made in this incarnation.
pub record Counted : Type 0 where
  pub named : Named
  pub count : ℕ

-- ---- the lock on the entry

-- the row of a lock on the entry: naming's paths have the root and the top alone
abbrev pub entry_row : ℕ → Path → Mode → Row
entry_row x p m = row_for (entry x) (top_path p) (tops_of p) m

-- the first row on the entry that conflicts with this mode
abbrev pub conflict_on : ℕ → Path → Mode → Named → Option Row
conflict_on x p m o = first_conflict (top_path p) (entry x) m o.rows

-- the lock on the entry is granted
abbrev pub locked : ℕ → Path → Mode → Named → Named
locked x p m o = record o { rows = rows_asked (entry_row x p m) o.rows }

-- the line of a lock that is granted, where it is new or stronger
abbrev pub lock_lines : ℕ → Path → Mode → Named → List Effect
lock_lines x p m o = grant_lines 1 (entry_row x p m) o.rows

-- ---- bind

-- the live binding, where it is greater than the one to avoid
abbrev pub live_above : Binding → Option Live → Option Live
live_above avoid None = None
live_above avoid (Some l) = if binding_less avoid l.binding then Some l else None

-- the binding made for this top, where it isn't recorded yet and is greater than the one to avoid
abbrev pub made_above : Binding → Option Made → Option Made
made_above avoid None = None
made_above avoid (Some m) = if not m.recorded && binding_less avoid m.binding then Some m else None

-- the first of a list of servers
abbrev pub first_server : List ℕ → ℕ
first_server [] = 0
first_server (s ∷ ss) = s

-- the server after the last one that was bound, where the first follows the last
abbrev pub server_behind : ℕ → List ℕ → List ℕ → ℕ
server_behind last all [] = first_server all
server_behind last all (s ∷ []) = first_server all
server_behind last all (s ∷ t ∷ ss) = if s == last then t else server_behind last all (t ∷ ss)

-- servers are bound in turn
abbrev pub next_server : Option ℕ → List ℕ → ℕ
next_server None servers = first_server servers
next_server (Some last) servers = server_behind last servers servers

-- the live binding is named, under a read lock
abbrev pub bound_live : ℕ → ℕ → Path → Entry → Counted → Live → Served Counted BoundReply
bound_live inc x p e c l = record {
  part = record c { named = locked x p mode.Read c.named };
  outs = lock_lines x p mode.Read c.named;
  reply = Some (bound.Live l.binding l.server l.inc inc e.stores);
}

-- the binding that was made for this top is named again, under the write lock
abbrev pub bound_again : ℕ → ℕ → Path → Entry → Counted → Made → Served Counted BoundReply
bound_again inc x p e c m = record {
  part = record c { named = locked x p mode.Write c.named };
  outs = lock_lines x p mode.Write c.named;
  reply = Some (bound.Make m.binding m.server inc e.stores);
}

-- the binding is made for the top, at this server
abbrev pub make : Binding → ℕ → Path → Named → Named
make b server p o =
    record o { made = put_uid (top_of p) (record { binding = b; server = server; recorded = false }) o.made; turn = Some server }

-- the next binding, to this server
abbrev pub bound_new : ℕ → ℕ → Path → Entry → Counted → ℕ → Served Counted BoundReply
bound_new inc x p e c server = record {
  part = record { named = make (record { inc = inc; count = c.count + 1 }) server p (locked x p mode.Write c.named); count = c.count + 1 };
  outs = lock_lines x p mode.Write c.named ++ Say (body.Bound x (record { inc = inc; count = c.count + 1 }) server) ∷ [];
  reply = Some (bound.Make (record { inc = inc; count = c.count + 1 }) server inc e.stores);
}

-- the binding made for this top, or else the next one
abbrev pub bind_made : ℕ → ℕ → Path → Entry → Counted → Option Made → Served Counted BoundReply
bind_made inc x p e c (Some m) = bound_again inc x p e c m
bind_made inc x p e c None = bound_new inc x p e c (next_server c.named.turn e.servers)

-- another action's lock stands against the request
abbrev pub refused_lock : Counted → Row → Served Counted BoundReply
refused_lock c r = reply c (bound.Conflict (last_uid r.holder) r.mode)

-- the live binding is named, where no lock stands against it
abbrev pub live_asked : ℕ → ℕ → Path → Entry → Counted → Live → Option Row → Served Counted BoundReply
live_asked inc x p e c l (Some r) = refused_lock c r
live_asked inc x p e c l None = bound_live inc x p e c l

-- a binding is made, where no lock stands against it
abbrev pub make_asked : ℕ → ℕ → Path → Binding → Entry → Counted → Option Row → Served Counted BoundReply
make_asked inc x p avoid e c (Some r) = refused_lock c r
make_asked inc x p avoid e c None = bind_made inc x p e c (made_above avoid (at_uid (top_of p) c.named.made))

-- A live binding above the one to avoid wants a read lock; otherwise a binding is made under the write lock.
abbrev pub bind_call : ℕ → ℕ → Path → Binding → Entry → Counted → Option Live → Served Counted BoundReply
bind_call inc x p avoid e c (Some l) = live_asked inc x p e c l (conflict_on x p mode.Read c.named)
bind_call inc x p avoid e c None = make_asked inc x p avoid e c (conflict_on x p mode.Write c.named)

-- an include asks the write lock alone
abbrev pub bound_write : ℕ → ℕ → Path → Entry → Counted → Served Counted BoundReply
bound_write inc x p e c = record {
  part = record c { named = (let o = locked x p mode.Write c.named in record o { asked = with_uid (top_of p) o.asked }) };
  outs = lock_lines x p mode.Write c.named;
  reply = Some (bound.Write inc e.stores);
}

-- an include is granted, where no lock stands against it
abbrev pub include_asked : ℕ → ℕ → Path → Entry → Counted → Option Row → Served Counted BoundReply
include_asked inc x p e c (Some r) = refused_lock c r
include_asked inc x p e c None = bound_write inc x p e c

-- an include asks the write lock
abbrev pub bind_include : ℕ → ℕ → Path → Entry → Counted → Served Counted BoundReply
bind_include inc x p e c = include_asked inc x p e c (conflict_on x p mode.Write c.named)

-- a Bind of a call or of an include
abbrev pub bind_named : ℕ → ℕ → Path → Bool → Binding → Entry → Counted → Served Counted BoundReply
bind_named inc x p true avoid e c = bind_include inc x p e c
bind_named inc x p false avoid e c = bind_call inc x p avoid e c (live_above avoid c.named.live)

-- ---- record

-- the action's row on it is the write lock
abbrev pub is_write_row : Uid → Uid → Row → Bool
is_write_row x act r = is_row_of x act r && nat_le 2 (mode_code r.mode)

-- the top has the write lock, and didn't ask it by an include
abbrev pub is_lowered : ℕ → Uid → Named → Bool
is_lowered x top o = list_any (is_write_row (entry x) top) o.rows && not (is_on o.asked top)

-- its lock on the entry is lowered to read
abbrev pub lowered : ℕ → Uid → Named → Named
lowered x top o = if is_lowered x top o then record o { rows = lower_row top (entry x) o.rows } else o

-- the line of a lock that is lowered
abbrev pub lower_lines : ℕ → Uid → Named → List Effect
lower_lines x top o = if is_lowered x top o then Say (body.Lowered 1 top (entry x)) ∷ [] else []

-- the binding is live and recorded
abbrev pub in_use : Uid → Made → ℕ → Named → Named
in_use top m i o = record o {
  live = Some (record { binding = m.binding; server = m.server; inc = i });
  recorded = Some m.binding;
  made = put_uid top (record m { recorded = true }) o.made;
}

-- the binding that was made for this top: it is live from now on, and the entry's lock is lowered to read
abbrev pub note_made : ℕ → Uid → ℕ → Named → Made → Served Named RecordedReply
note_made x top i o m =
    if m.recorded then reply o recorded.Yes
    else record { part = lowered x top (in_use top m i o); outs = lower_lines x top o; reply = Some recorded.Yes }

-- of another binding nothing is known
abbrev pub note_other : ℕ → Uid → Binding → ℕ → Named → Option Made → Served Named RecordedReply
note_other x top b i o None = void o
note_other x top b i o (Some m) = if binding_eq b m.binding then note_made x top i o m else void o

-- the binding that was recorded last is recorded already
abbrev pub note_named : ℕ → Uid → Binding → ℕ → Named → Served Named RecordedReply
note_named x top b i o = if is_binding b o.recorded then reply o recorded.Yes else note_other x top b i o (at_uid top o.made)

-- ---- ends, and a server that comes back

-- the end of an action: its lock passes to the action above it, or goes; the bindings made for it are forgotten
abbrev pub end_named : Uid → End → Named → Named
end_named u ending.Commit o = record o { made = without_uid u o.made; asked = drop_uid u o.asked; rows = pass_rows u o.rows }
end_named u ending.Abort o = record o { made = without_uid u o.made; asked = drop_uid u o.asked; rows = drop_rows u o.rows }

-- a live binding to the node is dropped where its server incarnation is lower
abbrev pub live_after : ℕ → ℕ → Option Live → Option Live
live_after node inc None = None
live_after node inc (Some l) = if (l.server == node) && not (nat_le inc l.inc) then None else Some l

-- a node is up again in this incarnation
abbrev pub hello_named : ℕ → ℕ → Named → Named
hello_named node inc o = record o { live = live_after node inc o.live }
