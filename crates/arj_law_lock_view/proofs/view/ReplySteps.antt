-- What a server's answers show stays, and reaches those who wait for it.
use Rattle.arj_law_parts.proofs.Words
use Words.{◌≡◌, ◌∙◌, ◌==◌, ◌&&◌, ℕ, List, [], ◌∷◌, Bool, true, false, cond, filter, map, sym, ap, subst, inl, inr, arith, in_from, in_to}
use Words.{Ask, Binding, Head, ObjectState, Uid, Reply, actor, Used, is_at_server, binding_number}
use Words.list
use Words.ask
use Words.invoked
use Words.voted
use Rattle.arj_law_lock_view.proofs.Terms
use Terms.{State, number_self, ShowsReply, View, Run, go_on, IsVotedBy}
use Terms.machine
use Rattle.arj_law_lock_view.proofs.view.{EverSteps.Ever, EverSteps.ever, LeftSteps.shows_later}
use Rattle.arj_law_lock_view.specs.view.Replies.{ActivatesAreAnswered, InvokesAreAnswered, RepliesStayShown, VotesAreAnswered}

-- ---- for ever

-- what a vote gave
voted_later : (v : View) (u : Uid) (b : Binding) (states : List ObjectState) (S T : State) → Run S T → IsVotedBy v u b states S →
    IsVotedBy v u b states T
voted_later v u b states S T run h = let o = h.vote in record {
  copy = h.copy;
  vote = record { before = o.before; node = o.node; inc = o.inc; reached = o.reached; may = o.may; run = go_on o.run run; gives = o.gives };
  state = h.state;
  sees = h.sees;
}

replies_later : (v : View) (h : Head) (a : Ask) (r : Reply) (S T : State) → Run S T → Ever S T → ShowsReply v h a S r → ShowsReply v h a T r
replies_later v h (ask.Activate b st) (Reply.Activated i) S T run later shows =
    λ about. later.sent (machine.Activated (binding_number b) i) (shows about)
replies_later v h (ask.Invoke y b i ends o) (Reply.Invoked r) S T run later shows =
    λ about. shows_later v.family.act v.code (actor h.path) h.req (record { binding = b; op = o }) S T later.sent r (shows about)
replies_later v h (ask.Vote i ties ends) (Reply.Voted (voted.Yes states)) S T run later shows = λ b tied. (
  let given = (shows b tied).0 in let more = later.yes (v.family.act (actor h.path)) in omega (arith, given, more),
  voted_later v (actor h.path) b states S T run (shows b tied).1,
  (shows b tied).2,
)
replies_later v h (ask.Vote i ties ends) (Reply.Voted (voted.Changed w)) S T run later shows = tt
replies_later v h (ask.Vote i ties ends) (Reply.Bound r) S T run later shows = tt
replies_later v h (ask.Vote i ties ends) (Reply.Loaded r) S T run later shows = tt
replies_later v h (ask.Vote i ties ends) (Reply.Activated r) S T run later shows = tt
replies_later v h (ask.Vote i ties ends) (Reply.Noted r) S T run later shows = tt
replies_later v h (ask.Vote i ties ends) (Reply.Invoked r) S T run later shows = tt
replies_later v h (ask.Vote i ties ends) (Reply.Prepared r) S T run later shows = tt
replies_later v h (ask.Vote i ties ends) (Reply.Confirmed r) S T run later shows = tt
replies_later v h (ask.Activate b st) (Reply.Bound r) S T run later shows = tt
replies_later v h (ask.Activate b st) (Reply.Loaded r) S T run later shows = tt
replies_later v h (ask.Activate b st) (Reply.Noted r) S T run later shows = tt
replies_later v h (ask.Activate b st) (Reply.Invoked r) S T run later shows = tt
replies_later v h (ask.Activate b st) (Reply.Voted r) S T run later shows = tt
replies_later v h (ask.Activate b st) (Reply.Prepared r) S T run later shows = tt
replies_later v h (ask.Activate b st) (Reply.Confirmed r) S T run later shows = tt
replies_later v h (ask.Invoke y b i ends o) (Reply.Bound r) S T run later shows = tt
replies_later v h (ask.Invoke y b i ends o) (Reply.Loaded r) S T run later shows = tt
replies_later v h (ask.Invoke y b i ends o) (Reply.Activated r) S T run later shows = tt
replies_later v h (ask.Invoke y b i ends o) (Reply.Noted r) S T run later shows = tt
replies_later v h (ask.Invoke y b i ends o) (Reply.Voted r) S T run later shows = tt
replies_later v h (ask.Invoke y b i ends o) (Reply.Prepared r) S T run later shows = tt
replies_later v h (ask.Invoke y b i ends o) (Reply.Confirmed r) S T run later shows = tt
replies_later v h (ask.Bind y include avoid) r S T run later shows = tt
replies_later v h (ask.Load y) r S T run later shows = tt
replies_later v h (ask.Record y b i g) r S T run later shows = tt
replies_later v h (ask.Prepare states) r S T run later shows = tt
replies_later v h (ask.Confirm grants excluded included) r S T run later shows = tt

pub replies_stay_shown : RepliesStayShown
replies_stay_shown v h a r S T reached run shows = replies_later v h a r S T run (ever reached run) shows

-- ---- to whom waits

pub activates_are_answered : ActivatesAreAnswered
activates_are_answered v s o k st i T about shows = shows about

pub invokes_are_answered : InvokesAreAnswered
invokes_are_answered v s o k i ends (invoked.Answered a) T about shows = shows about
invokes_are_answered v s o k i ends (invoked.Conflict h m) T about shows = shows about
invokes_are_answered v s o k i ends (invoked.Changed w) T about shows = shows about

-- an object that was called at the server is tied
pub tied_in : (from : ℕ) (q : Used) (us : List Used) → list.In q us → is_at_server from q ≡ true →
    list.In {X = ℕ × Binding} (q.x, q.binding) (map {A = Used} {B = ℕ × Binding} (λ u. (u.x, u.binding)) (filter (is_at_server from) us))
tied_in from q [] i at = absurd i
tied_in from q (u ∷ us) (inl same) at = subst (λ (b : Bool). list.In {X = ℕ × Binding} (q.x, q.binding)
    (map {A = Used} {B = ℕ × Binding} (λ w. (w.x, w.binding)) (cond b (u ∷ filter (is_at_server from) us) (filter (is_at_server from) us))))
    (sym (ap (is_at_server from) same ∙ at)) (inl (ap {B = ℕ × Binding} (λ (w : Used). (w.x, w.binding)) same))
tied_in from q (u ∷ us) (inr i) at = by (is_at_server from u) (tied_in from q us i at)
  where
    by : (b : Bool) → list.In {X = ℕ × Binding} (q.x, q.binding) (map {A = Used} {B = ℕ × Binding} (λ w. (w.x, w.binding))
        (filter (is_at_server from) us)) → list.In {X = ℕ × Binding} (q.x, q.binding) (map {A = Used} {B = ℕ × Binding}
        (λ w. (w.x, w.binding)) (cond b (u ∷ filter (is_at_server from) us) (filter (is_at_server from) us)))
    by true j = inr j
    by false j = j

pub votes_are_answered : VotesAreAnswered
votes_are_answered v p left h from (voted.Changed w) T shows = tt
votes_are_answered v p left h from (voted.Yes states) T shows = λ q there about called server.
    let at : is_at_server from q ≡ true = (λ i. called i && (server i == from)) ∙ number_self from in
    let i = tied_in from q p.used (in_from q p.used there) at in
    let tie = subst (λ (y : ℕ). list.In {X = ℕ × Binding} (y, q.binding)
    (map {A = Used} {B = ℕ × Binding} (λ u. (u.x, u.binding)) (filter (is_at_server from) p.used))) about i in
    (shows q.binding (in_to {X = ℕ × Binding} (v.x, q.binding)
    (map {A = Used} {B = ℕ × Binding} (λ u. (u.x, u.binding)) (filter (is_at_server from) p.used)) tie)).0
