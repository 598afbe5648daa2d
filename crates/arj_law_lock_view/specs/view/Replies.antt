-- What a server's answers show for ever, and to those who wait for them, in the machine of one object.
use Rattle.std.specs.Prelude.{◌≡◌, ℕ, List}
use Rattle.arj_protocol.specs.Words.{Ask, End, Head, InvokedReply, ObjectState, Op, Uid, VotedReply}
use Rattle.arj_protocol.specs.Words.ask
use Rattle.arj_protocol.specs.Ask.{Reply, actor}
use Rattle.arj_protocol.specs.Call.{AtActivate, AtInvoke, Known, Steps}
use Rattle.arj_protocol.specs.Commit.{Plan, Voting, vote_ask}
use Rattle.arj_law_lock.specs.machine.Machine.{Run}
use Rattle.arj_law_lock.specs.machine.State.{State}
use Rattle.arj_law_lock_view.specs.view.Calling.{IsReached, ShowsAnswer}
use Rattle.arj_law_lock_view.specs.view.Handling.{ShowsReply}
use Rattle.arj_law_lock_view.specs.view.Plans.{ShowsToCommit}
use Rattle.arj_law_lock_view.specs.view.Telling.{View}

-- What an answer shows it shows in every later state of the machine.
abbrev pub RepliesStayShown : Type 0
RepliesStayShown = (v : View) (h : Head) (a : Ask) (r : Reply) (S T : State) → IsReached S → Run S T → ShowsReply v h a S r →
    ShowsReply v h a T r

-- the head of a call's requests
abbrev pub head_of : Steps → Head
head_of s = record { path = s.path; req = s.req }

-- A call on the object that waits for its activation is shown what it wants by the answer,
abbrev pub ActivatesAreAnswered : Type 0
ActivatesAreAnswered = (v : View) (s : Steps) (o : Op) (k : Known) (st : ObjectState) (i : ℕ) (T : State)
    → (let u = st.uid in u.num) ≡ v.x → ShowsReply v (head_of s) (ask.Activate k.binding st) T (Reply.Activated i) →
    ShowsAnswer v.family.act v.code s o T (AtActivate k st) (Reply.Activated i)

-- so is one that waits for its operation,
abbrev pub InvokesAreAnswered : Type 0
InvokesAreAnswered = (v : View) (s : Steps) (o : Op) (k : Known) (i : ℕ) (ends : List (Uid × End)) (r : InvokedReply) (T : State)
    → s.x ≡ v.x → ShowsReply v (head_of s) (ask.Invoke s.x k.binding i ends o) T (Reply.Invoked r) →
    ShowsAnswer v.family.act v.code s o T (AtInvoke k i) (Reply.Invoked r)

-- and a commit that waits for votes.
abbrev pub VotesAreAnswered : Type 0
VotesAreAnswered = (v : View) (p : Plan) (left : List ℕ) (h : Head) (from : ℕ) (r : VotedReply) (T : State)
    → ShowsReply v h (vote_ask p from) T (Reply.Voted r) →
    ShowsToCommit v.x (v.family.act (actor h.path)) (Voting p left) from (Reply.Voted r) T
