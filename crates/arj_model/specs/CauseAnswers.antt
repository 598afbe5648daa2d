-- Why a call or include is answered as it is: the causes of the lines `ok`, `includes`, `conflict`, `lost` and `changed`.
use Rattle.std.specs.Prelude.{ℕ, List, [], ◌∷◌, Bool, true, false, ◌==◌, ◌&&◌, ◌||◌, not, nat_lt, nat_le, Option, Some, None}
use Rattle.std.specs.List.{list_any}
use Rattle.std.specs.Str.{bytes_eq}
use Rattle.arj_base.specs.declared.binding.Binding.{Binding}
use Rattle.arj_base.specs.declared.mode.Mode.{Mode}
use Rattle.arj_base.specs.declared.mode.Mode.TheVariants.{Read, Write}
use Rattle.arj_base.specs.declared.uid.Uid.{Uid}
use Rattle.arj_base.specs.Mode.{mode_code}
use Rattle.arj_base.specs.Uid.{object, entry, uid_eq}
use Rattle.arj_base.specs.Rows.{Row, first_conflict, is_on, is_row_of, last_uid}
use Rattle.arj_class.specs.declared.op.Op.{Op}
use Rattle.arj_class.specs.Table.{op_mode}
use Rattle.arj_journal.specs.declared.body.Body.{Body}
use Rattle.arj_journal.specs.declared.body.Body.TheVariants as body
use Rattle.arj_journal.specs.declared.body.Difference.{Difference}
use Rattle.arj_journal.specs.declared.body.Difference.TheVariants as difference
use Rattle.arj_journal.specs.declared.body.FrameKind.TheVariants as frame
use Rattle.arj_journal.specs.declared.body.Line.{Line}
use Rattle.arj_journal.specs.declared.event.Event.{Event}
use Rattle.arj_journal.specs.declared.event.Event.TheVariants as event
use Rattle.arj_text.specs.Label.{name}
use Rattle.arj_model.specs.Actions.{Act, path, root_in, top_in, uids}
use Rattle.arj_model.specs.Past.{Asked}
use Rattle.arj_model.specs.Refusals.{holds_of, incarnation, is_root, object_used}
use Rattle.arj_model.specs.Table.{table}
use Rattle.arj_model.specs.CauseSpans.{Here, answered, asks_so, act_by, from_place, holds_in, is_call, is_call_of, is_include_of, nodes_of}
use Rattle.arj_model.specs.CauseSpans.{of_event, same_mode, top_uids, was_sent}
use Rattle.arj_model.specs.CauseCopies.{had_both, is_older, may_have_met, was_bound}
use Rattle.arj_model.specs.CausePends.{is_pending}

-- Locks that are held, and met.

-- at the node the action itself has a row of the object or entry, of this mode or a stronger one
abbrev pub has_lock : ℕ → Uid → Uid → Mode → List Line → Bool
has_lock n u o mode lines = list_any (λ row. is_row_of o u row && nat_le (mode_code mode) (mode_code row.mode)) (table n lines)

-- the row has this holder and this mode
abbrev pub is_held : Uid → Mode → Row → Bool
is_held u mode row = uid_eq (last_uid row.holder) u && same_mode row.mode mode

-- what an action asks for meets, as the first row against it at the node, that of this holder in this mode
abbrev pub meets : ℕ → List Uid → Uid → Mode → Uid → Mode → List Line → Bool
meets n path o asked u held lines = holds_in (is_held u held) (first_conflict path o asked (table n lines))

-- `ok`. The call was of this object by this operation, and where a node answered it, the action had its lock there.
abbrev pub ok_caused : Here → List ℕ → ℕ → Op → Bool
ok_caused h l x op =
    asks_so h l (λ a k. is_call_of x op k.event
    && list_any (λ n. answered h k.at a.uid.node n (frame.Invoked ∷ []) (has_lock n a.uid (object x) (op_mode op))) (nodes_of h.header))

-- `includes`. The include was of this store for this object, and its top had the entry's write lock at naming since it asked.
abbrev pub includes_caused : Here → List ℕ → ℕ → ℕ → Bool
includes_caused h l x n =
    asks_so h l (λ a k. is_include_of x n k.event && holds_of (λ top. from_place h k.at (has_lock 1 top.uid (entry x) Write)) (top_in k.path))

-- `conflict`.

-- the lock that a call takes
abbrev pub mode_of_call : Event → Option Mode
mode_of_call (event.Call l x op) = Some (op_mode op)
mode_of_call _ = None

-- those that may be asked for on the entry
abbrev pub modes_on_entry : Event → List Mode
modes_on_entry (event.Call l x op) = Read ∷ Write ∷ []
modes_on_entry (event.Include l x n) = Write ∷ []
modes_on_entry _ = []

-- a server answered that the call meets this row
abbrev pub meets_at_server : Here → Act → Asked → ℕ → Uid → Mode → ℕ → Bool
meets_at_server h a k x u held n =
    holds_in (λ asked. answered h k.at a.uid.node n (frame.Invoked ∷ []) (meets n (uids k.path) (object x) asked u held)) (mode_of_call k.event)

-- naming answered that the top meets this row on the entry
abbrev pub meets_at_naming : Here → Act → Asked → ℕ → Uid → Mode → ℕ → Bool
meets_at_naming h a k x u held n =
    (n == 1)
    && list_any (λ asked. answered h k.at a.uid.node 1 (frame.Bound ∷ []) (meets 1 (top_uids k.path) (entry x) asked u held)) (modes_on_entry k.event)

-- a store answered that a state of this top is in doubt there
abbrev pub meets_at_store : Here → Act → Asked → ℕ → Uid → Mode → ℕ → Bool
meets_at_store h a k x u held n =
    same_mode held Write && answered h k.at a.uid.node n (frame.Loaded ∷ []) (is_pending h.header h.accepted n u x)

-- one of these answers, of an action that isn't on the path of the one that asked
abbrev pub conflict_caused : Here → List ℕ → Uid → Mode → ℕ → Bool
conflict_caused h l u held n =
    holds_in (λ holder. true) (act_by h.lines u)
    && asks_so h l (λ a k. not (is_on (uids k.path) u)
    && holds_in (λ x. meets_at_server h a k x u held n || (meets_at_naming h a k x u held n || meets_at_store h a k x u held n)) (object_used k.event))

-- `lost`.

-- the event gives up the action with this label
abbrev pub gives_up : List ℕ → Event → Bool
gives_up l (event.GiveUp m) = bytes_eq (name m) l
gives_up l _ = false

-- the line says that the action gave up the node
abbrev pub is_giveup : List ℕ → ℕ → Body → Bool
is_giveup l n (body.GaveUp m k) = bytes_eq (name m) l && (k == n)
is_giveup l n _ = false

-- the last of these lines passes the test
abbrev pub ends_with : (Body → Bool) → List Line → Bool
ends_with test [] = false
ends_with test (line ∷ []) = test line.body
ends_with test (line ∷ next ∷ rest) = ends_with test (next ∷ rest)

-- The script gave up what was asked in this event, as the line before says.
abbrev pub lost_caused : Here → List ℕ → ℕ → Bool
lost_caused h l n = gives_up l h.event && (ends_with (is_giveup l n) (of_event h) && asks_so h l (λ a k. true))

-- `changed`: of a call alone.

-- the difference was found at the action's node or by naming there, or in an answer to what it asked
abbrev pub was_told : Here → ℕ → Act → Asked → Bool
was_told h n a k =
    (a.uid.node == 1) || ((a.uid.node == n)
    || (was_sent h k.at n a.uid.node (frame.Activated ∷ frame.Invoked ∷ []) || was_sent h k.at 1 a.uid.node (frame.Bound ∷ frame.Recorded ∷ [])))

-- The node was in the new incarnation since the call, and in the old one when the root used the object there.
abbrev pub incs_differ : Here → Asked → ℕ → ℕ → ℕ → ℕ → Bool
incs_differ h k n x had now =
    nat_lt had now && (from_place h k.at (λ before. incarnation h.start before n == now) && may_have_met h.start h.lines n x (root_in k.path) had)

-- another accepted call of the same root on the object
abbrev pub is_other_call : Asked → ℕ → Asked → Bool
is_other_call k x j =
    not (j.number == k.number)
    && (is_call j.event && (holds_in (λ y. y == x) (object_used j.event) && is_root (root_in j.path) (root_in k.path)))

-- At the node first one copy was active and then the other, as it showed since the call. Or naming made both bindings, and the
-- root had one of them from another call.
abbrev pub binds_differ : Here → Asked → ℕ → ℕ → Binding → Binding → Bool
binds_differ h k n x had now =
    is_older had now && (from_place h k.at (had_both n x had now)
    || ((n == 1) && (was_bound h.lines x had && (was_bound h.lines x now && list_any (is_other_call k x) h.accepted))))

-- either difference
abbrev pub differs : Here → Asked → ℕ → ℕ → Difference → Bool
differs h k n x (difference.Inc had now) = incs_differ h k n x had now
differs h k n x (difference.Bind had now) = binds_differ h k n x had now

-- A call met one.
abbrev pub changed_caused : Here → List ℕ → ℕ → Difference → Bool
changed_caused h l n d =
    asks_so h l (λ a k. is_call k.event && (was_told h n a k && holds_in (λ x. differs h k n x d) (object_used k.event)))
