-- The naming part of node 1: its objects, the tops that it confirmed, and the actions whose end it was told. Each call
-- also reads the pair of entries on the disk.
use Rattle.std.specs.Prelude.{ℕ, Bool, not, ◌&&◌, ◌||◌, ◌==◌, if◌then◌else◌, List, [], ◌∷◌, ◌++◌, map, filter, Option, Some, None, is_some}
use Rattle.std.specs.List.{flat_map, list_any}
use Rattle.arj_protocol.specs.Words.{Uid, Binding, Path, Entry, ObjectState, Row, End, BoundReply, RecordedReply, uid_eq, entry, is_on}
use Rattle.arj_protocol.specs.Words.{is_held_by}
use Rattle.arj_protocol.specs.Words.ending
use Rattle.arj_protocol.specs.Words.body
use Rattle.arj_protocol.specs.Words.part
use Rattle.arj_protocol.specs.Words.role
use Rattle.arj_protocol.specs.Words.what
use Rattle.arj_protocol.specs.Words.recorded
use Rattle.arj_protocol.specs.Order.{at_number, put_number, each, with_uid, drop_uid}
use Rattle.arj_protocol.specs.Effect.{Effect, Say, Do, Commit, Abort, Served, Did, Pair, held_at, is_prepared, void, reply, did_nothing}
use Rattle.arj_protocol.specs.Values.{state_entry}
use Rattle.arj_protocol.specs.Ask.{top_path, top_of}
use Rattle.arj_protocol.specs.Copy.{holds}
use Rattle.arj_protocol.specs.Named.{Named, Counted, bind_named, note_named, end_named, hello_named}
use Rattle.arj_protocol.specs.Server.{row_top}

-- Naming's memory: its incarnation, the count of bindings that it made, its objects, the tops that it confirmed, and the ends that it was told.
pub record Naming : Type 0 where
  pub inc : ℕ
  pub count : ℕ
  pub objects : List (ℕ × Named)
  pub confirmed : List Uid
  pub told : List Uid

-- the committed entry of an object
abbrev pub entry_of : Option ObjectState → Entry
entry_of None = record { servers = []; stores = [] }
entry_of (Some s) = state_entry s

-- the committed entry of an object, which lists nobody where there is none
abbrev pub listed_entry : ℕ → Pair → Entry
listed_entry x d = entry_of (held_at (entry x) d)

-- naming was told of the end of the path's root or top
abbrev pub is_over : Path → Naming → Bool
is_over p n = list_any (λ u. is_on n.told u) (top_path p)

-- a call on one object, put back
abbrev pub on_counted : {R : Type 0} → ℕ → (Counted → Served Counted R) → Naming → Option Named → Served Naming R
on_counted x f n None = void n
on_counted x f n (Some o) =
    let r = f (record { named = o; count = n.count }) in
    record { part = record n { count = r.part.count; objects = put_number x r.part.named n.objects }; outs = r.outs; reply = r.reply }

-- a call on one object that makes no binding, put back
abbrev pub on_named : {R : Type 0} → ℕ → (Named → Served Named R) → Naming → Option Named → Served Naming R
on_named x f n None = void n
on_named x f n (Some o) =
    let r = f o in
    record { part = record n { objects = put_number x r.part n.objects }; outs = r.outs; reply = r.reply }

-- a Bind is void where the path has ended, or naming hasn't the object
abbrev pub bind : Path → ℕ → Bool → Binding → Pair → Naming → Served Naming BoundReply
bind p x include avoid d n =
    if is_over p n then void n
    else on_counted x (bind_named n.inc x p include avoid (listed_entry x d)) n (at_number x n.objects)

-- A Record that speaks of another incarnation of naming is answered so, where it isn't void.
abbrev pub note : Path → ℕ → Binding → ℕ → ℕ → Naming → Served Naming RecordedReply
note p x b i g n =
    if is_over p n || not (is_some (at_number x n.objects)) then void n
    else (if g == n.inc then on_named x (note_named x (top_of p) b i) n (at_number x n.objects)
    else reply n (recorded.Changed (what.Inc g n.inc)))

-- ---- told

-- the action, or one below it, holds a lock on an entry
abbrev pub has_locks : Uid → Naming → Bool
has_locks u n = list_any (λ (e : ℕ × Named). holds u e.1.rows) n.objects

-- what naming takes an end for: a commit only where it confirmed the action
abbrev pub taken_end : Uid → End → Naming → End
taken_end u ending.Abort n = ending.Abort
taken_end u ending.Commit n = if is_on n.confirmed u then ending.Commit else ending.Abort

-- what is prepared of an action ends on the disk
abbrev pub end_entries : Uid → End → List Effect
end_entries u ending.Commit = Do (Commit role.Names u) ∷ Say (body.Done 1 u role.Names ending.Commit) ∷ []
end_entries u ending.Abort = Do (Abort role.Names u) ∷ Say (body.Done 1 u role.Names ending.Abort) ∷ []

-- a row that the end of the action drops is held by the other one
abbrev pub loses : Uid → Uid → Row → Bool
loses u act r = is_held_by act r && is_on r.holder u

-- the other one holds a row that the end of the action drops
abbrev pub loses_row : Uid → Uid → Naming → Bool
loses_row u act n = list_any (λ (e : ℕ × Named). list_any (loses u act) e.1.rows) n.objects

-- the other prepared actions that hold a row which an abort of the action drops, increasing
abbrev pub orphans : Uid → Pair → Naming → List Uid
orphans u d n = filter (λ act. not (uid_eq act u) && loses_row u act n) (map (λ (p : Uid × List ObjectState). p.0) d.pend)

-- what such others have prepared is aborted with the action
abbrev pub end_orphans : Uid → End → Pair → Naming → List Effect
end_orphans u ending.Commit d n = []
end_orphans u ending.Abort d n = flat_map (λ act. end_entries act ending.Abort) (orphans u d n)

-- the line that naming was told of an end, where it drops or passes a lock
abbrev pub end_lines : Uid → End → Naming → List Effect
end_lines u e n = if has_locks u n then Say (body.Told 1 u e part.Naming) ∷ [] else []

-- locks pass on or go, and the end is known from now on
abbrev pub end_locks : Uid → End → Naming → Naming
end_locks u e n = record n { objects = each (λ x. end_named u e) n.objects; confirmed = drop_uid u n.confirmed; told = with_uid u n.told }

-- the entries that the action has prepared end
abbrev pub own_entries : Uid → End → Pair → List Effect
own_entries u e d = if is_prepared u d then end_entries u e else []

-- an end that is new
abbrev pub told_new : Uid → End → Pair → Naming → Did Naming
told_new u e d n = record { part = end_locks u e n; outs = end_orphans u e d n ++ end_lines u e n }

-- The action's own entries; then the entries of holders whose rows go; then the locks.
abbrev pub told : Uid → End → Pair → Naming → Did Naming
told u e d n =
    let t = if is_on n.told u then did_nothing n else told_new u (taken_end u e n) d n in
    record { part = t.part; outs = own_entries u e d ++ t.outs }

-- ---- hello

-- a node is up again: its live bindings of earlier incarnations are dropped
abbrev pub hello : ℕ → ℕ → Naming → Naming
hello node inc n = record n { objects = each (λ x. hello_named node inc) n.objects }

-- the tops that have locks on entries
abbrev pub naming_holders : Naming → List Uid
naming_holders n = flat_map (λ (e : ℕ × Named). map row_top e.1.rows) n.objects
