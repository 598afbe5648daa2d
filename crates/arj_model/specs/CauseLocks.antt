-- Why locks are granted, lowered and let go, and why bindings and copies come: the causes of the lines `granted`, `lowered`,
-- `bound`, `active` and `told`.
use Rattle.std.specs.Prelude.{ℕ, ◌+◌, List, [], ◌∷◌, length, Bool, true, false, ◌==◌, ◌&&◌, ◌||◌, not, if◌then◌else◌, Option, Some, None}
use Rattle.std.specs.Prelude.{is_none}
use Rattle.std.specs.List.{list_any, list_all}
use Rattle.arj_base.specs.declared.binding.Binding.{Binding}
use Rattle.arj_base.specs.declared.mode.Mode.{Mode}
use Rattle.arj_base.specs.declared.mode.Mode.TheVariants.{Exclude, Write}
use Rattle.arj_base.specs.declared.mode.End.{End}
use Rattle.arj_base.specs.declared.mode.End.TheVariants.{Abort, Commit}
use Rattle.arj_base.specs.declared.uid.Uid.{Uid}
use Rattle.arj_base.specs.Uid.{entry, uid_eq}
use Rattle.arj_base.specs.Rows.{first_conflict, is_on}
use Rattle.arj_journal.specs.declared.body.Part.{Part}
use Rattle.arj_journal.specs.declared.body.Line.{Line}
use Rattle.arj_journal.specs.declared.event.Event.{Event}
use Rattle.arj_journal.specs.declared.event.Event.TheVariants as event
use Rattle.arj_model.specs.Actions.{Act, Placed, acts, committed, recovered, is_committed, is_over, path, top_in, uids}
use Rattle.arj_model.specs.Last.{leaves_of, object_line, servers_of_line}
use Rattle.arj_model.specs.Past.{Asked}
use Rattle.arj_model.specs.Refusals.{holds_of, incarnation, object_used}
use Rattle.arj_model.specs.Table.{is_entry, is_in_part, table}
use Rattle.arj_model.specs.CauseSpans.{Here, act_by, holds_in, is_top_in, same_mode, top_uids}
use Rattle.arj_model.specs.CauseCopies.{Naming, activations, is_at, is_older, namings, same_binding, since_up}
use Rattle.arj_model.specs.CausePends.{has_some}
use Rattle.arj_model.specs.CauseAnswers.{has_lock, mode_of_call}

-- `granted`.

-- the event is a restart
abbrev pub is_restart : Event → Bool
is_restart (event.Restart n) = true
is_restart _ = false

-- the last action of the path has this Uid
abbrev pub is_last : Uid → List Act → Bool
is_last u [] = false
is_last u (a ∷ []) = uid_eq a.uid u
is_last u (a ∷ b ∷ rest) = is_last u (b ∷ rest)

-- an accepted call of the action on the object, by an operation of this mode
abbrev pub calls_in : Uid → ℕ → Mode → Asked → Bool
calls_in u x mode k = is_last u k.path && (holds_in (λ y. y == x) (object_used k.event) && holds_in (same_mode mode) (mode_of_call k.event))

-- an accepted call or include on the object, of the top or below it
abbrev pub uses_below : Uid → ℕ → Asked → Bool
uses_below u x k = holds_of (λ top. uid_eq top.uid u) (top_in k.path) && holds_in (λ y. y == x) (object_used k.event)

-- the path that a lock is asked for by: a restart knows the action alone, and an entry's lock is its top's
abbrev pub asking_path : Here → Act → Uid → List Uid
asking_path h a o =
    if is_restart h.event then a.uid ∷ [] else (if is_entry o then top_uids (path (acts h.lines) a.label) else uids (path (acts h.lines) a.label))

-- a lock on an object is for a call
abbrev pub object_asked : Here → Uid → ℕ → Mode → Bool
object_asked h u x mode = not (is_restart h.event) && list_any (calls_in u x mode) h.accepted

-- The lock on an entry is naming's, and a top's: for a call or include, or for an exclusion; a restart gives it back. One in
-- mode exclude is for an exclusion, or was.
abbrev pub entry_asked : Here → ℕ → Act → ℕ → Mode → Bool
entry_asked h n a x mode =
    let again = is_restart h.event in let leaves = has_some (leaves_of h.lines a.id x) in
    (n == 1) && (is_top_in a (path (acts h.lines) a.label) && (if same_mode mode Exclude then leaves || again && list_any (uses_below a.uid x) h.accepted
    else list_any (uses_below a.uid x) h.accepted || again && leaves))

-- The lock raises what the action itself has, meets no other, and was asked for.
abbrev pub granted_caused : Here → ℕ → Uid → Uid → Mode → Bool
granted_caused h n u o mode =
    holds_in (λ a. not (has_lock n u o mode h.lines) && (is_none (first_conflict (asking_path h a o) o mode (table n h.lines))
    && (if is_entry o then entry_asked h n a o.num mode else object_asked h u o.num mode))) (act_by h.lines u)

-- `lowered`. The top has the entry's write lock, and a copy became active under a binding of naming's present incarnation.
abbrev pub lowered_caused : Here → ℕ → Uid → Uid → Bool
lowered_caused h n u o =
    (n == 1) && (is_entry o && (has_lock 1 u o Write h.lines
    && list_any (λ a. (a.it.x == o.num) && (a.it.binding.inc == incarnation h.start h.lines 1)) (activations h.lines)))

-- `bound`.

-- the server behind this one in the list, in turn, where the list begins with `first`
abbrev pub next_of : ℕ → ℕ → List ℕ → ℕ
next_of first n [] = first
next_of first n (m ∷ []) = first
next_of first n (m ∷ k ∷ rest) = if m == n then k else next_of first n (k ∷ rest)

-- the first of a list
abbrev pub first_of : List ℕ → ℕ
first_of [] = 0
first_of (n ∷ rest) = n

-- the server of the object's last binding among these, or this one
abbrev pub bound_last : ℕ → Option ℕ → List (Placed Naming) → Option ℕ
bound_last x found [] = found
bound_last x found (m ∷ rest) = bound_last x (if m.it.x == x then Some m.it.server else found) rest

-- the server whose turn it is
abbrev pub in_turn : List ℕ → Option ℕ → ℕ
in_turn servers None = first_of servers
in_turn servers (Some n) = next_of (first_of servers) n servers

-- The binding is the next one of naming's present life, for the server whose turn it is; some top has the entry's write lock.
abbrev pub bound_caused : Here → ℕ → Binding → ℕ → Bool
bound_caused h x b n =
    let made = namings (since_up 1 h.lines) in
    same_binding b (record { inc = incarnation h.start h.lines 1; count = length made + 1 })
    && ((n == in_turn (servers_of_line (object_line h.header x)) (bound_last x None made))
    && list_any (λ row. uid_eq row.object (entry x) && same_mode row.mode Write) (table 1 h.lines))

-- `active`. The binding was made for this node, and is newer than those of the object's copies of its present life.
abbrev pub active_caused : Here → ℕ → ℕ → Binding → Bool
active_caused h n x b =
    list_any (λ m. (m.it.x == x) && (same_binding m.it.binding b && (m.it.server == n))) (namings h.lines)
    && list_all (λ a. not (is_at n x a.it) || is_older a.it.binding b) (activations (since_up n h.lines))

-- `told`.

-- the action ended so
abbrev pub has_end_of : List Line → Act → End → Bool
has_end_of lines a Commit = is_committed (committed lines) (recovered lines) a
has_end_of lines a Abort = is_over lines a

-- In this part of the node the action or a descendant of it has a lock, and it ended so.
abbrev pub told_caused : Here → ℕ → Uid → End → Part → Bool
told_caused h n u end p =
    list_any (λ row. is_in_part p row && is_on row.holder u) (table n h.lines) && holds_in (λ a. has_end_of h.lines a end) (act_by h.lines u)
