-- What a top changes, and at which nodes a state of it may be prepared.
use Rattle.std.specs.Prelude.{ℕ, ◌+◌, List, [], ◌∷◌, drop, take, find, Bool, true, false, ◌==◌, ◌&&◌, ◌||◌, not, Option, Some, None}
use Rattle.std.specs.List.{list_any}
use Rattle.arj_base.specs.declared.uid.Uid.{Uid}
use Rattle.arj_base.specs.Uid.{uid_eq}
use Rattle.arj_class.specs.Table.{writes}
use Rattle.arj_journal.specs.declared.body.Body.{Body}
use Rattle.arj_journal.specs.declared.body.Body.TheVariants as body
use Rattle.arj_journal.specs.declared.body.FrameKind.{FrameKind}
use Rattle.arj_journal.specs.declared.body.FrameKind.TheVariants as frame
use Rattle.arj_journal.specs.declared.body.Line.{Line}
use Rattle.arj_journal.specs.declared.body.Role.TheVariants as role
use Rattle.arj_journal.specs.declared.event.Event.{Event}
use Rattle.arj_journal.specs.declared.event.Event.TheVariants as event
use Rattle.arj_journal.specs.declared.header.Header.{Header}
use Rattle.arj_model.specs.Actions.{Act, Placed, top_in, root_in, path, acts}
use Rattle.arj_model.specs.Calls.{surviving, committings, tops}
use Rattle.arj_model.specs.Serial.{touches, writes_on}
use Rattle.arj_model.specs.Last.{included, joins_of, is_among, object_line, stores_of_line}
use Rattle.arj_model.specs.Past.{Asked}
use Rattle.arj_model.specs.Refusals.{is_root}
use Rattle.arj_model.specs.CauseSpans.{act_by, holds_in, same_frame}

-- What a top changes and uses, by what survives of its calls and includes.

-- there is something in the list
abbrev pub has_some : {A : Type 0} → List A → Bool
has_some [] = false
has_some (a ∷ rest) = true

-- a surviving write of the top with this number on the object
abbrev pub has_written : List Line → ℕ → ℕ → Bool
has_written lines id x = list_any (writes_on x) (surviving lines id)

-- a surviving write or include of it
abbrev pub changes : List Line → ℕ → ℕ → Bool
changes lines id x = has_written lines id x || has_some (joins_of lines id x)

-- a surviving call of any mode, or include
abbrev pub uses : List Line → ℕ → ℕ → Bool
uses lines id x = list_any (touches x) (surviving lines id) || has_some (joins_of lines id x)

-- The top uses the object, or a committed top of the same root does: what a root keeps for its later tops. Only constituents have
-- such.
abbrev pub unit_uses : List Line → Act → ℕ → Bool
unit_uses lines a x =
    uses lines a.id x || list_any (λ t. is_root (Some t.root) (root_in (path (acts lines) a.label)) && uses lines t.id x) (tops lines)

-- a surviving write or include of the top, of any object
abbrev pub changes_any : List Line → ℕ → Bool
changes_any lines id =
    list_any (λ c. writes c.op) (surviving lines id) || list_any (λ i. has_some (joins_of lines id i.it.x)) (included lines)

-- the node may be a store of the object: the header lists it, or an include named it
abbrev pub may_store : Header → List Line → ℕ → ℕ → Bool
may_store header lines n x =
    is_among (stores_of_line (object_line header x)) n || list_any (λ i. (i.it.x == x) && (i.it.node == n)) (included lines)

-- Prepared states.

-- the event is a crash of this node
abbrev pub is_crash : ℕ → Event → Bool
is_crash n (event.Crash m) = m == n
is_crash n _ = false

-- the frame that this line delivers, where it stands in this event, or what was found before
abbrev pub got_step : ℕ → Line → Option ℕ → Option ℕ
got_step number line found = got_in (line.event == number) line.body found
  where
    got_in : Bool → Body → Option ℕ → Option ℕ
    got_in true (body.Got k) found = Some k
    got_in here b found = found

-- the last frame that was delivered in this event
abbrev pub last_got : ℕ → Option ℕ → List Line → Option ℕ
last_got number found [] = found
last_got number found (line ∷ lines) = last_got number (got_step number line found) lines

-- the line sends this frame, and of its sender, receiver and kind this holds
abbrev pub sends : (ℕ → ℕ → FrameKind → Bool) → ℕ → Body → Bool
sends test k (body.Sent j from to carried) = (j == k) && test from to carried
sends test k _ = false

-- of the sender, receiver and kind of the frame with this number this holds
abbrev pub frame_is : (ℕ → ℕ → FrameKind → Bool) → List Line → ℕ → Bool
frame_is test lines k = list_any (λ line. sends test k line.body) lines

-- a Prepare from one node to another
abbrev pub is_prepare : ℕ → ℕ → ℕ → ℕ → FrameKind → Bool
is_prepare home n from to carried = (from == home) && ((to == n) && same_frame carried frame.Prepare)

-- the event with this number is one
abbrev pub is_crash_at : List Asked → ℕ → ℕ → Bool
is_crash_at accepted n number = list_any (λ k. (k.number == number) && is_crash n k.event) accepted

-- In an event with this number that isn't its crash, behind these lines, the node stops while it takes a Prepare from home: the
-- last frame delivered in the event is one, or the node is home itself.
abbrev pub halts_preparing : List Asked → ℕ → ℕ → List Line → ℕ → Bool
halts_preparing accepted home n before number =
    not (is_crash_at accepted n number) && ((n == home) || holds_in (frame_is (is_prepare home n) before) (last_got number None before))

-- whether a state of the action may be prepared at the node after a line, by whether it may before
abbrev pub pends_step : Bool → ℕ → Uid → Body → Bool → Bool
pends_step preparing n u (body.Prepared m v role.Store) on = on || ((m == n) && uid_eq v u)
pends_step preparing n u (body.Halted m) on = on || ((m == n) && preparing)
pends_step preparing n u (body.Done m v role.Store e) on = on && not ((m == n) && uid_eq v u)
pends_step preparing n u _ on = on

-- the same over the lines from a place on
abbrev pub pends_from : List Asked → ℕ → Uid → List Line → ℕ → Bool → List Line → Bool
pends_from accepted n u lines p on [] = on
pends_from accepted n u lines p on (line ∷ rest) =
    pends_from accepted n u lines (p + 1) (pends_step (halts_preparing accepted u.node n (take p lines) line.event) n u line.body on) rest

-- the place of the line that calls the commit of the action with this Uid
abbrev pub called_at : List Line → Uid → Option (Placed (List Act))
called_at lines u = find (λ m. holds_in (λ top. uid_eq top.uid u) (top_in m.it)) (committings lines)

-- a state of the action may be prepared at the node: since its commit was called, one was, or the node stopped at it, and none is
-- done since
abbrev pub pends : List Asked → ℕ → Uid → List Line → Bool
pends accepted n u lines = holds_in (λ m. pends_from accepted n u lines m.at false (drop m.at lines)) (called_at lines u)

-- A pending top: the node may hold a state of the object that the top with this Uid changed.
abbrev pub is_pending : Header → List Asked → ℕ → Uid → ℕ → List Line → Bool
is_pending header accepted n u x lines =
    holds_in (λ a. changes lines a.id x) (act_by lines u) && (may_store header lines n x && pends accepted n u lines)
