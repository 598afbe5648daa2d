-- What a message shows it shows for ever.
use Rattle.arj_law_parts.proofs.Words
use Words.{◌≡◌, ◌<◌, ◌∙◌, ◌*◌, ℕ, List, Option, Some, None, inl, inr, arith, Contains, Ask, Asked, BoundReply, Binding, ConfirmedReply, End}
use Words.{Head, Message, RecordedReply, Uid, asks, Reply, answers, top_of, binding_number, Post}
use Words.ask
use Words.bound
use Words.confirmed
use Words.ending
use Words.message
use Words.recorded
use Words.voted
use Rattle.arj_law_lock_view.proofs.Terms
use Terms.{Act, Root, root, Run, State, Holds, Action, Within, IsReached, ShowsBound, ShowsNoted, ShowsReply, ShowsNamingReply}
use Terms.{ShowsConfirmed, post_to, HasEnded, View, Fixed, view_of, IsAnswerSeen, IsAnsweredSeen, IsAskedSeen, IsOtherSeen, IsRequestSeen}
use Terms.{IsToldSo, SaysToNaming}
use Terms.machine as machine_state
use Rattle.arj_law_lock_view.proofs.view
use view.{ReplySteps.replies_stay_shown, ShownSteps.ended_stay}
use view.AskSteps.{named_stays, requests_stay_shown, server_stays}
use view.EverSteps.{Ever, ever, on_run, reached_kept}
use Rattle.arj_law_lock_view.specs.running.World.{PostsStay}

-- ---- in a later state of the machine

module _ (S T : State) (reached : IsReached S) (run : Run S T) where
  later : Ever S T
  later = ever reached run

  holds : Holds S
  holds = let k = reached_kept S reached in k.holds

  -- a committed action, or a unit that is over, stays so
  pub over_stays : (a : Act) → (S.action a).stage ≡ 3 → (T.action a).stage ≡ 3
  over_stays a is = (on_run (λ s. (s.action a).stage ≡ 3) (λ s t k l v three. (l.ends a three).0) run (reached_kept S reached) is).2

  maker_stays : (b : ℕ) (m : Act) → b < S.naming.bound → (S.binding b).maker ≡ m → (T.binding b).maker ≡ m
  maker_stays b m below is = ((on_run (λ s. (b < s.naming.bound) × ((s.binding b).maker ≡ m)) (λ s t k l v p.
      (let u = l.bound in let q = p.0 in omega (arith, u, q), (l.made b p.0).1 ∙ p.1)) run (reached_kept S reached) (below, is)).2).1

  bound_later : (v : View) (t : Uid) (avoid : Binding) (r : BoundReply) → ShowsBound v.family.act t avoid S (Some r) →
      ShowsBound v.family.act t avoid T (Some r)
  bound_later v t avoid (bound.Live b server i g stores) h = (
    later.sent (machine_state.Live (v.family.act t) (binding_number b)) h.0,
    server_stays S T reached run b server (let q = holds.bindings (binding_number b) h.2.0 in q.below) h.1,
    named_stays S T reached run b i h.2,
    h.3,
  )
  bound_later v t avoid (bound.Make b server g stores) h = (
    later.sent (machine_state.Made (v.family.act t) (binding_number b)) h.0,
    server_stays S T reached run b server (holds.mail (machine_state.Made (v.family.act t) (binding_number b)) h.0).3 h.1,
    maker_stays (binding_number b) (v.family.act t) (holds.mail (machine_state.Made (v.family.act t) (binding_number b)) h.0).3 h.2,
    h.3,
  )
  bound_later v t avoid (bound.Write g stores) h = later.sent (machine_state.Granted (v.family.act t) (g * 4294967296)) h
  bound_later v t avoid (bound.Conflict holder m) h = tt

  noted_later : (b : Binding) (r : RecordedReply) → ShowsNoted b S (Some r) → ShowsNoted b T (Some r)
  noted_later b recorded.Yes h = later.sent (machine_state.Recorded (binding_number b)) h
  noted_later b (recorded.Changed w) h = tt

  confirmed_later : (v : View) (t : Uid) (grants : List (ℕ × ℕ)) (r : ConfirmedReply) → ShowsConfirmed v t grants S (Some r) →
      ShowsConfirmed v t grants T (Some r)
  confirmed_later v t grants confirmed.Yes h = λ g there. later.confirmed (v.family.act t) (h g there)
  confirmed_later v t grants _ h = tt

  naming_replies_stay : (v : View) (h : Head) (a : Ask) (r : Reply) → ShowsNamingReply v h a S r → ShowsNamingReply v h a T r
  naming_replies_stay v h (ask.Bind y include avoid) (Reply.Bound r) shows = λ about. bound_later v (top_of h.path) avoid r (shows about)
  naming_replies_stay v h (ask.Record y b i g) (Reply.Noted r) shows = λ about. noted_later b r (shows about)
  naming_replies_stay v h (ask.Confirm grants excluded included) (Reply.Confirmed r) shows =
      confirmed_later v (top_of h.path) grants r shows
  naming_replies_stay v h _ _ shows = tt

  -- what a request says to naming
  says_later : (v : View) (h : Head) (a : Ask) → SaysToNaming v h a S → SaysToNaming v h a T
  says_later v h (ask.Bind y include avoid) says = λ about. (let l = later.bound in let k = says about in omega (arith, l, k))
  says_later v h (ask.Record y b i g) says =
      λ about. requests_stay_shown v.family.act v.code (post_to v h) (ask.Record y b i g) S T reached run (says about)
  says_later v h (ask.Confirm grants excluded included) says =
      λ g there. later.sent (machine_state.Confirm (v.family.act (top_of h.path)) (g * 4294967296)) (says g there)
  says_later v h _ says = tt

-- ---- as more actions begin, and more is sent

module _ (f : Fixed) (x : ℕ) (begun more : List Action) (grows : (a : Action) → Contains begun a →
    Contains more a) (S T : State) (reached : IsReached S) (run : Run S T) where
  one_stays : (k : ℕ) (u : Uid) (e : End) → HasEnded (view_of f x begun k) S u e → HasEnded (view_of f x more k) T u e
  one_stays k u ending.Abort h = ended_stay (view_of f x begun k) u ending.Abort S T reached run h
  one_stays k u ending.Commit h =
      let so = ended_stay (view_of f x begun k) u ending.Commit S T reached run h in
      record {
        action = so.action;
        begun = grows so.action so.begun;
        of = so.of;
        unserial = so.unserial;
        committed = so.committed;
        over = so.over;
      }

  told_stays : (k : ℕ) (u : Uid) (e : End) → IsToldSo (view_of f x begun k) S u e → IsToldSo (view_of f x more k) T u e
  told_stays k u ending.Commit h = one_stays k u ending.Commit h
  told_stays k u ending.Abort (inl h) = inl (one_stays k u ending.Abort h)
  told_stays k u ending.Abort (inr (inl h)) = inr (inl (over_stays S T reached run (Root (root (f.act u))) h.0, h.1))
  told_stays k u ending.Abort (inr (inr h)) = inr (inr (h.0, over_stays S T reached run (f.act u) h.1))

  other_stays : (k : ℕ) (m : Message) → IsOtherSeen (view_of f x begun k) S m → IsOtherSeen (view_of f x more k) T m
  other_stays k (message.Told m) h = λ u e there. told_stays k u e (h u e there)
  other_stays k _ h = tt

  request_stays : (k : ℕ) (h : Head) (a : Ask) → IsRequestSeen (view_of f x begun k) h a S → IsRequestSeen (view_of f x more k) h a T
  request_stays k h a r = record {
    says = λ mine. requests_stay_shown f.act f.code (post_to (view_of f x begun k) h) a S T reached run (r.says mine);
    names = more_says a (says_later S T reached run (view_of f x begun k) h a r.names);
    ended = λ u e there. one_stays k u e (r.ended u e there);
  }
    where
      more_says : (a : Ask) → SaysToNaming (view_of f x begun k) h a T → SaysToNaming (view_of f x more k) h a T
      more_says (ask.Bind y include avoid) says = says
      more_says (ask.Record y b i g) says = says
      more_says (ask.Confirm grants excluded included) says = says
      more_says _ says = tt

  module _ (sent wide : List Post) (within : Within sent wide) where
    answer_stays : (p : Post) (r : Asked × Reply) → IsAnswerSeen (view_of f x begun p.to) sent p r S →
        IsAnswerSeen (view_of f x more p.to) wide p r T
    answer_stays p r s = record {
      request = s.request;
      asked = within (record { from = p.to; to = p.from; message = s.request }) s.asked;
      head = s.head;
      ask = s.ask;
      is = s.is;
      of = s.of;
      server = server_more s.head s.ask r.1 (replies_stay_shown (view_of f x begun p.to) s.head s.ask r.1 S T reached run s.server);
      naming = naming_more s.head s.ask r.1 (naming_replies_stay S T reached run (view_of f x begun p.to) s.head s.ask r.1 s.naming);
    }
      where
        server_more : (h : Head) (a : Ask) (r : Reply) → ShowsReply (view_of f x begun p.to) h a T r →
            ShowsReply (view_of f x more p.to) h a T r
        server_more h (ask.Activate b st) (Reply.Activated i) k = k
        server_more h (ask.Invoke y b i ends o) (Reply.Invoked r) k = k
        server_more h (ask.Vote i ties ends) (Reply.Voted (voted.Yes states)) k = k
        server_more h _ _ k = tt

        naming_more : (h : Head) (a : Ask) (r : Reply) → ShowsNamingReply (view_of f x begun p.to) h a T r →
            ShowsNamingReply (view_of f x more p.to) h a T r
        naming_more h (ask.Bind y include avoid) (Reply.Bound r) k = k
        naming_more h (ask.Record y b i g) (Reply.Noted r) k = k
        naming_more h (ask.Confirm grants excluded included) (Reply.Confirmed confirmed.Yes) k = k
        naming_more h _ _ k = tt

    answered_stays : (p : Post) (o : Option (Asked × Reply)) → IsAnsweredSeen (view_of f x begun p.to) sent p S o →
        IsAnsweredSeen (view_of f x more p.to) wide p T o
    answered_stays p None h = other_stays p.to p.message h
    answered_stays p (Some r) h = answer_stays p r h

    asked_stays : (p : Post) (o : Option (Head × Ask)) → IsAskedSeen (view_of f x begun p.to) sent p S o →
        IsAskedSeen (view_of f x more p.to) wide p T o
    asked_stays p None h = answered_stays p (answers p.message) h
    asked_stays p (Some q) h = request_stays p.to q.0 q.1 h

pub posts_stay : PostsStay
posts_stay f x begun later sent more p S T grows within reached run h =
    asked_stays f x begun later grows S T reached run sent more within p (asks p.message) h
