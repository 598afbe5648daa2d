-- Why an action ends, or is given up: the causes of the lines `committed`, `ended`, `gaveup` and `excluded`, and of `aborted`
-- where the commit wasn't refused.
use Rattle.std.specs.Prelude.{ℕ, List, [], ◌∷◌, ◌++◌, drop, take, Bool, true, false, ◌==◌, ◌&&◌, ◌||◌, not, nat_lt}
use Rattle.std.specs.List.{list_any, list_all}
use Rattle.std.specs.Str.{bytes_eq}
use Rattle.arj_base.specs.Uid.{uid_eq}
use Rattle.arj_class.specs.Table.{writes}
use Rattle.arj_journal.specs.declared.body.Body.{Body}
use Rattle.arj_journal.specs.declared.body.Body.TheVariants as body
use Rattle.arj_journal.specs.declared.body.FrameKind.TheVariants as frame
use Rattle.arj_journal.specs.declared.body.Kind.{Kind}
use Rattle.arj_journal.specs.declared.body.Kind.TheVariants as kind
use Rattle.arj_journal.specs.declared.body.Line.{Line}
use Rattle.arj_journal.specs.declared.body.Role.TheVariants as role
use Rattle.arj_journal.specs.declared.event.Event.{Event}
use Rattle.arj_journal.specs.declared.event.Event.TheVariants as event
use Rattle.arj_journal.specs.declared.header.ObjectLine.{ObjectLine}
use Rattle.arj_text.specs.Label.{name}
use Rattle.arj_model.specs.Actions.{Act, acts, act_in, path}
use Rattle.arj_model.specs.Calls.{surviving}
use Rattle.arj_model.specs.Last.{is_among, joins_of, listed}
use Rattle.arj_model.specs.Past.{Asked}
use Rattle.arj_model.specs.Refusals.{has_ended, holds_of}
use Rattle.arj_model.specs.CauseSpans.{Here, answered, asking, commit_here, commits_so, holds_in, is_doomed, of_event, was_sent}
use Rattle.arj_model.specs.CausePends.{changes, halts_preparing, has_written, is_pending}
use Rattle.arj_model.specs.CauseAnswers.{gives_up, is_giveup}
use Rattle.arj_start.specs.Kinds.{is_serial}

-- Ends that the script asks for.

-- the event is the commit of the action with this label
abbrev pub is_commit_of : List ℕ → Event → Bool
is_commit_of l (event.Commit m) = bytes_eq (name m) l
is_commit_of l _ = false

-- the event is the abort of an action of this path
abbrev pub aborts_on : List Act → Event → Bool
aborts_on path (event.Abort m) = list_any (λ a. bytes_eq a.label (name m)) path
aborts_on path _ = false

-- `ended`. The script commits a serializing action.
abbrev pub ended_caused : Here → List ℕ → Bool
ended_caused h l = is_commit_of l h.event && holds_of (λ a. is_serial a.kind) (act_in (acts h.lines) l)

-- `aborted asked`. The action is open, and the script aborts it or one above it.
abbrev pub asked_caused : Here → List ℕ → Bool
asked_caused h l = not (has_ended h.lines l) && aborts_on (path (acts h.lines) l) h.event

-- `aborted doomed`. The script commits an action that is doomed.
abbrev pub doomed_caused : Here → List ℕ → Bool
doomed_caused h l =
    is_commit_of l h.event && (holds_of (λ a. not (is_serial a.kind)) (act_in (acts h.lines) l) && is_doomed h.accepted h.lines l)

-- Giveups.

-- the node was sent a request of what the action waits for: of its call or include, or of its commit
abbrev pub was_asked : Here → List ℕ → ℕ → Act → Bool
was_asked h l n a =
    holds_in (λ k. was_sent h k.at a.uid.node n (frame.Bind ∷ frame.Load ∷ frame.Activate ∷ frame.Record ∷ frame.Invoke ∷ [])) (asking h l)
    || holds_in (λ c. was_sent h c a.uid.node n (frame.Vote ∷ frame.Prepare ∷ frame.Confirm ∷ [])) (commit_here h l)

-- the line gives up a node of a lower number, if it gives up any
abbrev pub is_below : ℕ → Body → Bool
is_below n (body.GaveUp m k) = nat_lt k n
is_below n _ = true

-- The action may wait for the node: it asked it, or is its own node, at which a call waits that another call of the object has overtaken.
abbrev pub may_wait_for : Here → List ℕ → ℕ → Act → Bool
may_wait_for h l n a = (n == a.uid.node) || was_asked h l n a

-- `gaveup`. The script gives up the action, which waits for that node; the nodes rise.
abbrev pub gaveup_caused : Here → List ℕ → ℕ → Bool
gaveup_caused h l n =
    gives_up l h.event && (holds_of (may_wait_for h l n) (act_in (acts h.lines) l) && list_all (λ line. is_below n line.body) (of_event h))

-- `aborted lost`. The script gives up the action while its commit is under way, as a line of this event says.
abbrev pub lost_commit_caused : Here → List ℕ → ℕ → Bool
lost_commit_caused h l n =
    gives_up l h.event && (list_any (λ line. is_giveup l n line.body) (of_event h) && commits_so h l (λ a c. true))

-- `committed`.

-- A store was asked to prepare the top: it has, or it stopped at it.
abbrev pub is_prepared : List Asked → Act → ℕ → List Line → ℕ → Body → Bool
is_prepared accepted a s before number (body.Prepared n u role.Store) = (n == s) && uid_eq u a.uid
is_prepared accepted a s before number (body.Halted n) = (n == s) && halts_preparing accepted a.uid.node s before number
is_prepared accepted a s before number _ = false

-- so some line says, of these behind those
abbrev pub prepared_in : List Asked → Act → ℕ → List Line → List Line → Bool
prepared_in accepted a s before [] = false
prepared_in accepted a s before (line ∷ rest) =
    is_prepared accepted a s before line.event line.body || prepared_in accepted a s (before ++ line ∷ []) rest

-- each store that is listed behind these lines, of each object that the top wrote, has prepared or stopped at it
abbrev pub stores_have : Here → Act → ℕ → List Line → Bool
stores_have h a c after =
    list_all (λ call. not (writes call.op)
    || list_all (λ s. prepared_in h.accepted a s (take c h.lines) (drop c h.lines)) (listed h.header after call.x)) (surviving h.lines a.id)

-- A nested action commits where the script says so. (The lines alone can't tell that it isn't doomed: one whose lost call was never taken by
-- the node may be doomed by them.) A top commits where its commit was called, and its stores have prepared.
abbrev pub commit_caused : Here → List ℕ → Kind → Act → List Line → Bool
commit_caused h l kind.Nested a after = is_commit_of l h.event
commit_caused h l _ a after = holds_in (λ c. stores_have h a c after) (commit_here h l)

-- A line says so behind these.
abbrev pub committed_caused : Here → List ℕ → List Line → Bool
committed_caused h l after = holds_of (λ a. commit_caused h l a.kind a after) (act_in (acts h.lines) l)

-- `excluded`.

-- the store was sent a Prepare since the commit was called, and given up
abbrev pub is_given_up : Here → List ℕ → ℕ → Act → ℕ → Bool
is_given_up h l s a c = list_any (λ line. is_giveup l s line.body) (drop c h.lines) && was_sent h c a.uid.node s (frame.Prepare ∷ [])

-- another top than this one has a state of what this one changes in doubt at the store
abbrev pub is_in_doubt : Here → ℕ → Act → List Line → Bool
is_in_doubt h s a before =
    list_any (λ (o : ObjectLine). changes before a.id o.x
    && list_any (λ other. not (other.id == a.id) && is_pending h.header h.accepted s other.uid o.x before) (acts before)) h.header.objects

-- The top has written the object, or included this store for it, and the store was given up or answered its Prepare with such a doubt.
abbrev pub excluded_caused : Here → List ℕ → ℕ → ℕ → Bool
excluded_caused h l x s =
    commits_so h l (λ a c. (has_written h.lines a.id x || is_among (joins_of h.lines a.id x) s)
    && (is_given_up h l s a c || answered h c a.uid.node s (frame.Prepared ∷ []) (is_in_doubt h s a)))
