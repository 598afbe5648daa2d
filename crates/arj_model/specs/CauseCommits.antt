-- Why a commit that was called is refused: the causes of the lines `aborted` with `conflict`, `changed`, `old`, `nostores`
-- and `listed`.
use Rattle.std.specs.Prelude.{ℕ, ◌+◌, List, [], ◌∷◌, drop, find, Bool, ◌==◌, ◌&&◌, not, nat_lt, nat_le, Option}
use Rattle.std.specs.List.{list_any, list_all}
use Rattle.arj_base.specs.declared.mode.Mode.{Mode}
use Rattle.arj_base.specs.declared.mode.Mode.TheVariants.{Exclude}
use Rattle.arj_base.specs.declared.uid.Uid.{Uid}
use Rattle.arj_base.specs.Uid.{entry}
use Rattle.arj_journal.specs.declared.body.Cause.{Cause}
use Rattle.arj_journal.specs.declared.body.Cause.TheVariants as cause
use Rattle.arj_journal.specs.declared.body.Difference.{Difference}
use Rattle.arj_journal.specs.declared.body.Difference.TheVariants as difference
use Rattle.arj_journal.specs.declared.body.FrameKind.TheVariants as frame
use Rattle.arj_journal.specs.declared.body.Line.{Line}
use Rattle.arj_journal.specs.declared.header.Header.{Header}
use Rattle.arj_journal.specs.declared.header.ObjectLine.{ObjectLine}
use Rattle.arj_model.specs.Actions.{Act, acts, path, root_in}
use Rattle.arj_model.specs.Last.{count_tops, excluded, is_among, joins_of, leaves_of, listed, writes_of}
use Rattle.arj_model.specs.Refusals.{incarnation, is_root}
use Rattle.arj_model.specs.CauseSpans.{Here, answered, commits_so, holds_in, top_uids}
use Rattle.arj_model.specs.CauseCopies.{enterings, had_both, is_older, is_up, may_have_met}
use Rattle.arj_model.specs.CausePends.{changes, has_some, unit_uses}
use Rattle.arj_model.specs.CauseAnswers.{meets}
use Rattle.arj_model.specs.CauseEnds.{asked_caused, doomed_caused, lost_commit_caused}

-- the path of an action of the journal
abbrev pub path_of : Here → Act → List Act
path_of h a = path (acts h.lines) a.label

-- `conflict`. Naming answered that the top meets this row on the entry of an object from which it excludes.
abbrev pub confirm_meets : Here → List ℕ → Uid → Mode → ℕ → Bool
confirm_meets h l u held n =
    (n == 1) && commits_so h l (λ a c. list_any (λ e. (e.it.top == a.id)
    && answered h c a.uid.node 1 (frame.Confirmed ∷ []) (meets 1 (top_uids (path_of h a)) (entry e.it.x) Exclude u held)) (excluded h.lines))

-- `changed`.

-- Where the node answered it was in the new incarnation, and it had been in the old one when the root used the object. Where it
-- voted, first one copy had been active there and then the other.
abbrev pub commit_differs_on : Here → Act → ℕ → ℕ → ℕ → Difference → Bool
commit_differs_on h a c n x (difference.Inc had now) =
    nat_lt had now && (may_have_met h.start h.lines n x (root_in (path_of h a)) had
    && answered h c a.uid.node n (frame.Voted ∷ frame.Confirmed ∷ []) (λ before. incarnation h.start before n == now))
commit_differs_on h a c n x (difference.Bind had now) =
    is_older had now && answered h c a.uid.node n (frame.Voted ∷ []) (had_both n x had now)

-- so it is of an object that the unit uses
abbrev pub commit_differs : Here → List ℕ → ℕ → Difference → Bool
commit_differs h l n d =
    commits_so h l (λ a c. list_any (λ (o : ObjectLine). unit_uses h.lines a o.x && commit_differs_on h a c n o.x d) h.header.objects)

-- `old`.

-- so many tops had written the object and were committed
abbrev pub writers : List Line → ℕ → ℕ
writers lines x = count_tops (writes_of lines x)

-- naming came up again since this root first got a lock on the object's entry
abbrev pub has_restarted : List Line → ℕ → Option ℕ → Bool
has_restarted lines x root =
    holds_in (λ e. list_any (λ line. is_up 1 line.body) (drop e.at lines)) (find (λ e. (e.it.x == x) && is_root e.it.root root) (enterings lines))

-- The store answered the Prepare of what the top changes; by then the object had this version or a later one, which counts the committed
-- tops that wrote it from where the run began, and naming had lost the top's lock.
abbrev pub is_old : Here → List ℕ → ℕ → ℕ → ℕ → Bool
is_old h l n x v =
    nat_le 1 v && commits_so h l (λ a c. changes h.lines a.id x
    && answered h c a.uid.node n (frame.Prepared ∷ []) (λ before. nat_le v ((h.start.marks.states x).version + writers before x) && has_restarted before x (root_in (path_of h a))))

-- `nostores`.

-- the stores that were listed are there, and the top excludes each of them
abbrev pub leaves_all : Header → List ℕ → ℕ → List Line → Bool
leaves_all header gone x before = has_some (listed header before x) && list_all (is_among gone) (listed header before x)

-- So it was where naming answered, and the top includes no store that it doesn't exclude.
abbrev pub leaves_none : Here → List ℕ → ℕ → Bool
leaves_none h l x =
    commits_so h l (λ a c. list_all (is_among (leaves_of h.lines a.id x)) (joins_of h.lines a.id x)
    && answered h c a.uid.node 1 (frame.Confirmed ∷ []) (leaves_all h.header (leaves_of h.lines a.id x) x))

-- `listed`. The top includes the store and doesn't exclude it, and it was listed where naming answered.
abbrev pub is_listed_before : Here → List ℕ → ℕ → ℕ → Bool
is_listed_before h l x s =
    commits_so h l (λ a c. is_among (joins_of h.lines a.id x) s && (not (is_among (leaves_of h.lines a.id x) s)
    && answered h c a.uid.node 1 (frame.Confirmed ∷ []) (λ before. is_among (listed h.header before x) s)))

-- Why an action is aborted.
abbrev pub aborted_caused : Here → List ℕ → Cause → Bool
aborted_caused h l cause.Asked = asked_caused h l
aborted_caused h l cause.Doomed = doomed_caused h l
aborted_caused h l (cause.Lost n) = lost_commit_caused h l n
aborted_caused h l (cause.Conflict u held n) = confirm_meets h l u held n
aborted_caused h l (cause.Changed n d) = commit_differs h l n d
aborted_caused h l (cause.Old n x v) = is_old h l n x v
aborted_caused h l (cause.NoStores x) = leaves_none h l x
aborted_caused h l (cause.Listed x s) = is_listed_before h l x s
