-- What an answer says of the lines before the place where it was made.
use Rattle.std.specs.Prelude.{⊤, ◌≡◌, ℕ, Bool, true, false, List, [], ◌∷◌, ◌&&◌, not, is_none}
use Rattle.std.specs.List.{list_any}
use Rattle.arj_base.specs.Rows.{first_conflict}
use Rattle.arj_base.specs.Uid.{entry, object, uid_eq}
use Rattle.arj_class.specs.Table.{op_mode}
use Rattle.arj_promise.specs.Runs.{HeaderFits}
use Rattle.arj_model.specs.Actions.{Act, acts}
use Rattle.arj_model.specs.CauseAnswers.{has_lock, meets}
use Rattle.arj_model.specs.CausePends.{changes, may_store, pends}
use Rattle.arj_model.specs.CauseSpans.{act_by, holds_in}
use Rattle.arj_model.specs.Past.{Asked as Accepted}
use Rattle.arj_model.specs.Table.{table}
use Rattle.arj_protocol.specs.Ask.{Reply, actor, top_of, top_path}
use Rattle.arj_protocol.specs.Tree.{is_nested}
use Rattle.arj_protocol.specs.Words.{Ask, Head, Header, Line, Mode, Uid, uids_of}
use Rattle.arj_protocol.specs.Words.ask
use Rattle.arj_protocol.specs.Words.bound
use Rattle.arj_protocol.specs.Words.invoked
use Rattle.arj_protocol.specs.Words.loaded
use Rattle.arj_protocol.specs.Words.mode
use Rattle.arj_protocol.specs.Words.prepared
use Rattle.arj_law_lock_view.specs.moments.Made.{Saying}
use Rattle.arj_law_runs.specs.journal.Right.{has_act}
use Rattle.arj_law_cause.specs.rows.Early.{IsEarly}

-- no lock of the node's table stands against what an action with this path asks for
abbrev pub meets_none : ℕ → List Uid → Uid → Mode → List Line → Bool
meets_none n path o asked lines = is_none (first_conflict path o asked (table n lines))

-- the modes that a call, or an include, may ask for on an entry
abbrev pub entry_modes : Bool → List Mode
entry_modes true = mode.Write ∷ []
entry_modes false = mode.Read ∷ mode.Write ∷ []

-- an action with this Uid began, and no nested one
abbrev pub has_upper : List Act → Uid → Bool
has_upper acts u = list_any (λ (a : Act). uid_eq a.uid u && not (is_nested a.kind)) acts

-- the action changed the object: it has a surviving write or include of it
abbrev pub has_changed : List Line → Uid → ℕ → Bool
has_changed lines u x = holds_in (λ a. changes lines a.id x) (act_by lines u)

-- A conflict: at a server the call, and at naming its top, meets the row of this holder in this mode, an action that began, at naming no
-- nested one. Any other answer is given where no lock stands against what was asked: where a server answers with what the operation gives,
-- the action has its lock, and its call meets none; naming names a live binding, to no include, where its top meets none in reading the
-- entry; and where it lets an include go on, or makes a binding, the top has the entry's write lock, and meets none in writing. Where a
-- store is in doubt, a state of whom it names may be prepared there, where these events were accepted; and if the header is in form, the
-- node may be a store of the object, and if the journal is so too, that one changed it.
-- Where a store refuses a Prepare for such a state, it is of another action, and then both have changed the object.
abbrev pub says_of : List Accepted → Header → ℕ → Head → Ask → Reply → List Line → Type 0
says_of accepted hd n h (ask.Invoke x b i ends o) (Reply.Invoked (invoked.Conflict u m)) before =
    (meets n (uids_of h.path) (object x) (op_mode o) u m before ≡ true) × (has_act (acts before) u ≡ true)
says_of accepted hd n h (ask.Invoke x b i ends o) (Reply.Invoked (invoked.Answered a)) before =
    (has_lock n (actor h.path) (object x) (op_mode o) before ≡ true) × (meets_none n (uids_of h.path) (object x) (op_mode o) before ≡ true)
says_of accepted hd n h (ask.Bind x include avoid) (Reply.Bound (bound.Conflict u m)) before =
    (n ≡ 1) × (list_any (λ asked. meets 1 (top_path h.path) (entry x) asked u m before) (entry_modes include) ≡ true)
    × (has_upper (acts before) u ≡ true)
says_of accepted hd n h (ask.Bind x include avoid) (Reply.Bound (bound.Live b server i g stores)) before =
    (include ≡ false) × (meets_none 1 (top_path h.path) (entry x) mode.Read before ≡ true)
says_of accepted hd n h (ask.Bind x include avoid) (Reply.Bound (bound.Make b server g stores)) before =
    (include ≡ false) × (has_lock 1 (top_of h.path) (entry x) mode.Write before ≡ true)
    × (meets_none 1 (top_path h.path) (entry x) mode.Write before ≡ true)
says_of accepted hd n h (ask.Bind x include avoid) (Reply.Bound (bound.Write g stores)) before =
    (has_lock 1 (top_of h.path) (entry x) mode.Write before ≡ true) × (meets_none 1 (top_path h.path) (entry x) mode.Write before ≡ true)
says_of accepted hd n h (ask.Load x) (Reply.Loaded (loaded.InDoubt u)) before =
    (pends accepted n u before ≡ true) × (HeaderFits hd → may_store hd before n x ≡ true)
    × (HeaderFits hd → IsEarly before → has_changed before u x ≡ true)
says_of accepted hd n h (ask.Prepare states) (Reply.Prepared (prepared.InDoubt y u)) before =
    (uid_eq u (actor h.path) ≡ false) × (pends accepted n u before ≡ true)
    × (HeaderFits hd → IsEarly before → (has_changed before (actor h.path) y && has_changed before u y) ≡ true)
says_of accepted hd n h a r before = ⊤

-- so it is of an answer
abbrev pub says_so : List Accepted → Header → Saying
says_so accepted hd a before =
    says_of accepted hd (let z = a in z.from) (let z = a in z.head) (let z = a in z.ask) (let z = a in z.reply) before
