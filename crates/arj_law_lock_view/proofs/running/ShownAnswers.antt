-- What an answer that was sent shows to the step, or to the commit, that waits for it.
use Rattle.arj_law_parts.proofs.Words
use Words.{◌∙◌, [], ◌∷◌, map, inl, inr, ◌≡◌, ◌==◌, ℕ, List, true, refl, sym, ap, subst, in_from, in_to, Asked, Binding, BoundReply, End}
use Words.{Head, LoadedReply, ObjectState, Op, Uid, Reply, actor, ask_kind, reply_kind, response, top_of, At, AtActivate, AtBind, AtInvoke}
use Words.{AtLoad, AtNote, Include, Known, Run, Steps, ask_at, Confirming, Machine, Preparing, Used, Voting, ask_of, binding_number, Post}
use Words.bound
use Words.confirmed
use Words.loaded
use Words.list
use Rattle.arj_law_lock_view.proofs.Terms
use Terms.{AnswersAt, State, IsCurrent, LoadsTheLast, Action, ShowsAnswer, state_code, ShowsReply, ShowsNamingReply, ShowsInclude}
use Terms.{binding_at, ShowsToCommit, head_of, View, Fixed, view_of, IsAnswerSeen, IsPostSeen}
use Rattle.arj_law_lock_view.proofs.view.ReplySteps.{activates_are_answered, invokes_are_answered, votes_are_answered}
use Rattle.arj_law_lock_view.specs.view.Calling.{IsToCall}
use Rattle.arj_law_runs.specs.addresses.Binds.{Answers}

-- an answer that was sent is seen as one
pub answer_shown : (f : Fixed) (x : ℕ) (begun : List Action) (sent : List Post) (from to : ℕ) (a : Asked) (r : Reply) (S : State) →
    IsPostSeen f x begun sent S (record { from = from; to = to; message = response a r }) →
    IsAnswerSeen (view_of f x begun to) sent (record { from = from; to = to; message = response a r }) (a, r) S
answer_shown f x begun sent from to a (Reply.Bound r) S h = h
answer_shown f x begun sent from to a (Reply.Loaded r) S h = h
answer_shown f x begun sent from to a (Reply.Activated r) S h = h
answer_shown f x begun sent from to a (Reply.Noted r) S h = h
answer_shown f x begun sent from to a (Reply.Invoked r) S h = h
answer_shown f x begun sent from to a (Reply.Voted r) S h = h
answer_shown f x begun sent from to a (Reply.Prepared r) S h = h
answer_shown f x begun sent from to a (Reply.Confirmed r) S h = h

-- ---- to a call or an include

to_call : (o : Op) (r : BoundReply) → Answers (Run o) r → IsToCall r
to_call o (bound.Live b server i g stores) fits = tt
to_call o (bound.Make b server g stores) fits = tt
to_call o (bound.Write g stores) fits = absurd fits
to_call o (bound.Conflict holder m) fits = tt

module _ (v : View) (w : Steps) (T : State) (about : w.x ≡ v.x) (ends : List (Uid × End)) where
  loads_shown : (o : Op) (k : Known) (n : ℕ) (rest : List ℕ) (r : LoadedReply) → ((st : ObjectState) → Reply.Loaded r
      ≡ Reply.Loaded (loaded.State st) → IsCurrent T.naming (let b = binding_at T k.binding in b.maker) (binding_number k.binding) →
      LoadsTheLast T (state_code v.family.act v.code st)) → ShowsAnswer v.family.act v.code w o T (AtLoad k n rest) (Reply.Loaded r)
  loads_shown o k n rest (loaded.State st) last = last st refl
  loads_shown o k n rest (loaded.InDoubt q) last = tt

  pub call_shown : (o : Op) (at : At) (r : Reply) → (reply_kind r == ask_kind (ask_at w.x (Run o) ends at)) ≡ true → ShowsReply v (head_of
      w) (ask_at w.x (Run o) ends at) T r → ShowsNamingReply v (head_of w) (ask_at w.x (Run o) ends at) T r → AnswersAt (Run o) at r
      → ((k : Known) (st : ObjectState) → at ≡ AtActivate k st → st.uid.num ≡ v.x)
      → ((k : Known) (n : ℕ) (rest : List ℕ) (st : ObjectState) → at ≡ AtLoad k n rest → r ≡ Reply.Loaded (loaded.State st) →
      IsCurrent T.naming (let b = binding_at T k.binding in b.maker) (binding_number k.binding) →
      LoadsTheLast T (state_code v.family.act v.code st))
      → ShowsAnswer v.family.act v.code w o T at r
  call_shown o (AtBind avoid) (Reply.Bound r) kinds server naming fits states last = (to_call o r fits, naming about)
  call_shown o (AtBind avoid) (Reply.Loaded r) kinds server naming fits states last = absurd (cc kinds)
  call_shown o (AtBind avoid) (Reply.Activated r) kinds server naming fits states last = absurd (cc kinds)
  call_shown o (AtBind avoid) (Reply.Noted r) kinds server naming fits states last = absurd (cc kinds)
  call_shown o (AtBind avoid) (Reply.Invoked r) kinds server naming fits states last = absurd (cc kinds)
  call_shown o (AtBind avoid) (Reply.Voted r) kinds server naming fits states last = absurd (cc kinds)
  call_shown o (AtBind avoid) (Reply.Prepared r) kinds server naming fits states last = absurd (cc kinds)
  call_shown o (AtBind avoid) (Reply.Confirmed r) kinds server naming fits states last = absurd (cc kinds)
  call_shown o (AtLoad k n rest) (Reply.Loaded r) kinds server naming fits states last =
      loads_shown o k n rest r (λ st is. last k n rest st refl is)
  call_shown o (AtLoad k n rest) (Reply.Bound r) kinds server naming fits states last = absurd (cc kinds)
  call_shown o (AtLoad k n rest) (Reply.Activated r) kinds server naming fits states last = absurd (cc kinds)
  call_shown o (AtLoad k n rest) (Reply.Noted r) kinds server naming fits states last = absurd (cc kinds)
  call_shown o (AtLoad k n rest) (Reply.Invoked r) kinds server naming fits states last = absurd (cc kinds)
  call_shown o (AtLoad k n rest) (Reply.Voted r) kinds server naming fits states last = absurd (cc kinds)
  call_shown o (AtLoad k n rest) (Reply.Prepared r) kinds server naming fits states last = absurd (cc kinds)
  call_shown o (AtLoad k n rest) (Reply.Confirmed r) kinds server naming fits states last = absurd (cc kinds)
  call_shown o (AtActivate k st) (Reply.Activated i) kinds server naming fits states last =
      activates_are_answered v w o k st i T (states k st refl) server
  call_shown o (AtActivate k st) (Reply.Bound r) kinds server naming fits states last = absurd (cc kinds)
  call_shown o (AtActivate k st) (Reply.Loaded r) kinds server naming fits states last = absurd (cc kinds)
  call_shown o (AtActivate k st) (Reply.Noted r) kinds server naming fits states last = absurd (cc kinds)
  call_shown o (AtActivate k st) (Reply.Invoked r) kinds server naming fits states last = absurd (cc kinds)
  call_shown o (AtActivate k st) (Reply.Voted r) kinds server naming fits states last = absurd (cc kinds)
  call_shown o (AtActivate k st) (Reply.Prepared r) kinds server naming fits states last = absurd (cc kinds)
  call_shown o (AtActivate k st) (Reply.Confirmed r) kinds server naming fits states last = absurd (cc kinds)
  call_shown o (AtNote k i) (Reply.Noted r) kinds server naming fits states last = naming about
  call_shown o (AtNote k i) (Reply.Bound r) kinds server naming fits states last = absurd (cc kinds)
  call_shown o (AtNote k i) (Reply.Loaded r) kinds server naming fits states last = absurd (cc kinds)
  call_shown o (AtNote k i) (Reply.Activated r) kinds server naming fits states last = absurd (cc kinds)
  call_shown o (AtNote k i) (Reply.Invoked r) kinds server naming fits states last = absurd (cc kinds)
  call_shown o (AtNote k i) (Reply.Voted r) kinds server naming fits states last = absurd (cc kinds)
  call_shown o (AtNote k i) (Reply.Prepared r) kinds server naming fits states last = absurd (cc kinds)
  call_shown o (AtNote k i) (Reply.Confirmed r) kinds server naming fits states last = absurd (cc kinds)
  call_shown o (AtInvoke k i) (Reply.Invoked r) kinds server naming fits states last = invokes_are_answered v w o k i ends r T about server
  call_shown o (AtInvoke k i) (Reply.Bound r) kinds server naming fits states last = absurd (cc kinds)
  call_shown o (AtInvoke k i) (Reply.Loaded r) kinds server naming fits states last = absurd (cc kinds)
  call_shown o (AtInvoke k i) (Reply.Activated r) kinds server naming fits states last = absurd (cc kinds)
  call_shown o (AtInvoke k i) (Reply.Noted r) kinds server naming fits states last = absurd (cc kinds)
  call_shown o (AtInvoke k i) (Reply.Voted r) kinds server naming fits states last = absurd (cc kinds)
  call_shown o (AtInvoke k i) (Reply.Prepared r) kinds server naming fits states last = absurd (cc kinds)
  call_shown o (AtInvoke k i) (Reply.Confirmed r) kinds server naming fits states last = absurd (cc kinds)

  -- naming answers a Bind of an include
  bound_shown : (store : ℕ) (avoid : Binding) (r : BoundReply) → Answers (Include store) r → ShowsNamingReply v (head_of w)
      (ask_at w.x (Include store) ends (AtBind avoid)) T (Reply.Bound r) → ShowsInclude v.family.act (top_of w.path) T (Reply.Bound r)
  bound_shown store avoid (bound.Live b server i g stores) fits naming = absurd fits
  bound_shown store avoid (bound.Make b server g stores) fits naming = absurd fits
  bound_shown store avoid (bound.Write g stores) fits naming = naming about
  bound_shown store avoid (bound.Conflict holder m) fits naming = tt

  pub include_shown : (store : ℕ) (at : At) (r : Reply) → (reply_kind r == ask_kind (ask_at w.x (Include store) ends at)) ≡ true →
      ShowsNamingReply v (head_of w) (ask_at w.x (Include store) ends at) T r → AnswersAt (Include store) at r →
      ShowsInclude v.family.act (top_of w.path) T r
  include_shown store (AtBind avoid) (Reply.Bound r) kinds naming fits = bound_shown store avoid r fits naming
  include_shown store (AtLoad k n rest) (Reply.Bound r) kinds naming fits = absurd (cc kinds)
  include_shown store (AtActivate k st) (Reply.Bound r) kinds naming fits = absurd (cc kinds)
  include_shown store (AtNote k i) (Reply.Bound r) kinds naming fits = absurd (cc kinds)
  include_shown store (AtInvoke k i) (Reply.Bound r) kinds naming fits = absurd (cc kinds)
  include_shown store at (Reply.Loaded r) kinds naming fits = tt
  include_shown store at (Reply.Activated r) kinds naming fits = tt
  include_shown store at (Reply.Noted r) kinds naming fits = tt
  include_shown store at (Reply.Invoked r) kinds naming fits = tt
  include_shown store at (Reply.Voted r) kinds naming fits = tt
  include_shown store at (Reply.Prepared r) kinds naming fits = tt
  include_shown store at (Reply.Confirmed r) kinds naming fits = tt

-- ---- to a commit

grant_in : (q : Used) (us : List Used) → list.In q us →
    list.In {X = ℕ × ℕ} (q.x, q.grant) (map {A = Used} {B = ℕ × ℕ} (λ u. (u.x, u.grant)) us)
grant_in q [] i = absurd i
grant_in q (u ∷ us) (inl same) = inl (ap {B = ℕ × ℕ} (λ (y : Used). (y.x, y.grant)) same)
grant_in q (u ∷ us) (inr i) = inr (grant_in q us i)

pub commit_shown : (v : View) (h : Head) (m : Machine) (from : ℕ) (r : Reply) (T : State) →
    v.family.act (top_of h.path) ≡ v.family.act (actor h.path) → ShowsReply v h (ask_of m from) T r →
    ShowsNamingReply v h (ask_of m from) T r → ShowsToCommit v.x (v.family.act (actor h.path)) m from r T
commit_shown v h (Voting p left) from (Reply.Voted r) T top server naming = votes_are_answered v p left h from r T server
commit_shown v h (Voting p left) from (Reply.Bound r) T top server naming = tt
commit_shown v h (Voting p left) from (Reply.Loaded r) T top server naming = tt
commit_shown v h (Voting p left) from (Reply.Activated r) T top server naming = tt
commit_shown v h (Voting p left) from (Reply.Noted r) T top server naming = tt
commit_shown v h (Voting p left) from (Reply.Invoked r) T top server naming = tt
commit_shown v h (Voting p left) from (Reply.Prepared r) T top server naming = tt
commit_shown v h (Voting p left) from (Reply.Confirmed r) T top server naming = tt
commit_shown v h (Preparing p left) from r T top server naming = tt
commit_shown v h (Confirming p) from (Reply.Confirmed confirmed.Yes) T top server naming = λ q there about. (λ i. T.confirmed (sym top i)) ∙
    naming q.grant (in_to {X = ℕ × ℕ} (v.x, q.grant) (map {A = Used} {B = ℕ × ℕ} (λ u. (u.x, u.grant)) p.used)
    (subst (λ (y : ℕ). list.In {X = ℕ × ℕ} (y, q.grant) (map {A = Used} {B = ℕ × ℕ} (λ u. (u.x, u.grant)) p.used)) about
    (grant_in q p.used (in_from q p.used there))))
commit_shown v h (Confirming p) from (Reply.Confirmed (confirmed.Conflict holder k)) T top server naming = tt
commit_shown v h (Confirming p) from (Reply.Confirmed (confirmed.Changed k)) T top server naming = tt
commit_shown v h (Confirming p) from (Reply.Confirmed (confirmed.NoStores k)) T top server naming = tt
commit_shown v h (Confirming p) from (Reply.Confirmed (confirmed.Listed y k)) T top server naming = tt
commit_shown v h (Confirming p) from (Reply.Bound r) T top server naming = tt
commit_shown v h (Confirming p) from (Reply.Loaded r) T top server naming = tt
commit_shown v h (Confirming p) from (Reply.Activated r) T top server naming = tt
commit_shown v h (Confirming p) from (Reply.Noted r) T top server naming = tt
commit_shown v h (Confirming p) from (Reply.Invoked r) T top server naming = tt
commit_shown v h (Confirming p) from (Reply.Voted r) T top server naming = tt
commit_shown v h (Confirming p) from (Reply.Prepared r) T top server naming = tt
