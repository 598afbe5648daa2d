-- A node takes a message that isn't for its coordinator: the machine goes along, and the object is seen in the whole world.
use Rattle.arj_law_parts.proofs.Words
use Words.{◌≡◌, ◌⊎◌, ◌∙◌, ◌==◌, ℕ, List, [], ◌∷◌, Bool, true, cond, eqb-true, length, Option, Some, None, refl, sym, ap, subst, inl, inr}
use Words.{⊎_elim, Contains, arith, ⊤, is_some, in_from, in_to, Ask, Asked, End, Head, Message, ObjectState, Uid, asks, is_on, Reply}
use Words.{answers, asked_by, last_end, response, top_of, Coord, Disk, Do, Effect, Prepare, Say, Send, is_prepared, Named, Naming, Handled}
use Words.{Parts, Took, Void, handle, handle_ask, is_meant, taken, Branch, branch_of, Post, Seen}
use Words.list
use Words.ask
use Words.ending
use Words.message
use Words.role
use Words.voted
use Words.confirmed
use Rattle.arj_law_lock_view.proofs.Terms
use Terms.{Act, In, is_top, Run, Ballot, State, go_on, action_of, owners_of, outs_of, Within, Up, Walks, IsSteady, IsReached, Goes}
use Terms.{NobodyConfirmed, OnlyNaming, AreAnswersShown, OnlyServing, ShowsReply, server_after, AreConfirmsAnswered, AreRepliesShown}
use Terms.{IsAskedShown, IsEndShown, IsOtherShown, IsRequestShown, IsShownBy, SeesNamingIn, ShowsNamingReply, Site, naming_after, SeesWhole}
use Terms.{ShowsEndAt, Sees, View, Case, HoldsNamingIn, IsSeenIn, KnowsSpot, Spot, told_in, view_in, world_at, IsAnswerSeen, IsPostSeen}
use Terms.{Fixed, AreHome, ArePast, HasConfirm, HaveConfirms, IsConfirmedAt, IsOverIn, SeesUp, IsSeenSo, is_for_parts}
use Terms.machine as state
use Terms.seen
use Rattle.arj_law_lock_view.proofs.running
use running.{EndedSteps.ended_over, HaltSteps.halt_up, NameSteps.confirm_later}
use running.ConfirmSteps.{IsLast, IsNew, IsNoted, IsSentLast, Notes, ended_by, message_noted, named_by, named_grant, yes_alone}
use running.GoodSteps.{good_node, its, server_level, steady}
use running.LeftSteps.{AreSentTo, IsLeft, IsPlain, IsSentTo, Leaves, message_left, void_without}
use running.MoveSteps.{action_is, action_named, coord_named, coord_serving, memory_named, memory_serving, naming_serving, sees_named}
use running.OtherSteps.{SeesOthers, confirms_of, fresh_named, fresh_on, now_named, others_go, others_of, past_on, records_on}
use running.ShownSteps.{shown_to_naming, shown_to_server, up_here}
use running.TieSteps.{IsMoved, IsTiedNow, moved_named, moved_serving, moved_then, tied_moved, tied_now}
use running.WalkSteps.{AreSendsSeen, HasSame, KeepsWho, StopsWell, up_same, walked}
use running.WhoSteps.{IsAnew, IsKept, keeps_who}
use Rattle.arj_law_lock_view.proofs.view.{HandledSteps.messages_are_taken, HearingSteps.messages_are_heard, ReplySteps.replies_stay_shown}
use Rattle.arj_law_lock_view.specs.running.World.{MessagesGo}

-- ---- what naming counts on is left by a server

-- as the machine's servers and votes change, and more is sent
module _ (S : State) (servers : ℕ → state.Server) (yes : Act → ℕ) (vote : Act →
    Ballot) (net : List state.Message) (sent : (z : state.Message) → In z S.net → In z net) (a : Site) (n : Naming) where
  abbrev T : State
  T = record S { server = servers; yes = yes; vote = vote; net = net }

  v : View
  v = a.view

  end_beside : (o : Named) (u : Uid) (e : End) → ShowsEndAt a.view n o S u e → ShowsEndAt a.view n o T u e
  end_beside o u ending.Abort h = h
  end_beside o u ending.Commit (inl h) = inl h
  end_beside o u ending.Commit (inr (inl h)) = inr (inl (
    h.0,
    (let p = h.1 in
        record { unit = p.unit; number = p.number; serial = p.serial; below = p.below; committed = p.committed; heirs = p.heirs }),
  ))
  end_beside o u ending.Commit (inr (inr h)) = inr (inr h)

  last_beside : (e : Option (Uid × End)) → IsEndShown a n S e → IsEndShown a n T e
  last_beside None h = tt
  last_beside (Some (u, e)) h =
      record { one = h.one; owned = h.owned; good = h.good; shown = λ o at fresh. end_beside o u e (h.shown o at fresh) }

  other_beside : (m : Message) → IsOtherShown a n S m → IsOtherShown a n T m
  other_beside (message.Told m) h = last_beside (last_end m.ends) h
  other_beside _ h = tt

  request_beside : (h : Head) (q : Ask) → IsRequestShown a n S h q → IsRequestShown a n T h q
  request_beside h (ask.Bind y include avoid) shown = shown
  request_beside h (ask.Record y b i g) shown = (shown.0, λ about. (let k = shown.1 about in (sent _ k.0, k.1)))
  request_beside h (ask.Confirm grants excluded included) shown =
      (shown.0, (let k = shown.1 in record { sent = λ g given. sent _ (k.sent g given); again = k.again }))
  request_beside h _ shown = tt

  asked_beside : (m : Message) (q : Option (Head × Ask)) → IsAskedShown a n S m q → IsAskedShown a n T m q
  asked_beside m None h = other_beside m h
  asked_beside m (Some q) h = request_beside q.0 q.1 h

naming_counts : (a : Site) (v : View) (m : Message) (S T : State) → OnlyServing v m S T → (o : Option Naming) → IsShownBy a S m (asks m) o →
    IsShownBy a T m (asks m) o
naming_counts a v m S T only None h = tt
naming_counts a v m S T only (Some n) h = subst (λ (z : State). IsAskedShown a n z m (asks m)) (sym only.rest)
    (asked_beside S T.server T.yes T.vote T.net only.sent a n m (asks m) h)

-- ---- a message

module _ (c : Case) (s : Spot) (from : ℕ) (m : Message) (p : Parts) (outs : List Effect) (is_seen : IsSeenIn c (world_at s))
    (knows : KnowsSpot c s) (there : seen.In (record { from = from; to = s.node; message = m }) (let M = s.seen in M.sent))
    (mine : is_for_parts m ≡ true) (meant : is_meant s.parts m ≡ true) (is : handle s.node s.disk s.parts from m ≡ Took p outs) where
  abbrev f : Fixed
  f = c.fixed

  abbrev k : ℕ
  k = s.node

  abbrev t : Parts
  t = s.parts

  abbrev d : Disk
  d = s.disk

  abbrev M : Seen
  M = s.seen

  abbrev S : State
  S = c.state

  abbrev V : View
  V = view_in c k

  abbrev site : Site
  site = record { view = V; owner = owners_of c.begun; disk = d }

  taken_is : taken k d t from m ≡ Took p outs
  taken_is = (λ i. cond (meant i) (handle k d t from m) (Void [])) ∙ is

  left : IsLeft t p outs × AreSentTo from (asks m) outs
  left = subst (Leaves t from (asks m)) is (message_left k d t from m mine)

  others_S : SeesOthers f c.x c.begun k S M
  others_S = others_of f c.x c.begun k d (Some t) S M is_seen.sees

  here : SeesUp V S d t
  here = up_here c s from m is_seen knows there

  -- ---- its server

  first : Goes S (λ T. Sees V p.server T × OnlyServing V m S T × AreAnswersShown V T outs (asks m))
  first = subst
      (λ (r : Handled). Goes S (λ T. Sees V (server_after t r) T × OnlyServing V m S T × AreAnswersShown V T (outs_of r) (asks m))) taken_is
      (messages_are_taken V d t from m S (f.first, (let w = is_seen.sees in w.run)) (let q = knows.server in
      q.listed) (shown_to_server c s from m is_seen knows there) here.server)

  abbrev behind_server : State
  behind_server = first.state

  only_serving : OnlyServing V m S behind_server
  only_serving = first.holds.1

  reached_behind : IsReached behind_server
  reached_behind = (f.first, go_on others_S.run first.run)

  nobody_behind : NobodyConfirmed S behind_server
  nobody_behind = ap (λ (z : State). z.confirmed) only_serving.rest

  others_behind : SeesOthers f c.x c.begun k behind_server M
  others_behind = others_go f c.x c.begun k S behind_server M others_S first.run (λ elsewhere. nobody_behind)
      (λ j disk live other seen_there. memory_serving V m S behind_server only_serving (view_in c j) disk live other seen_there)
      (fresh_on f c.begun S behind_server (action_is V m S behind_server only_serving) (ap (λ (z : State). z.kept) only_serving.rest)
      (ap (λ (z : State). z.calls) only_serving.rest) (ap (λ (z : State). z.includes) only_serving.rest) others_S.fresh)
      (let o = others_S.now in let e : behind_server.now ≡ S.now = ap (λ (z : State). z.now) only_serving.rest in omega (arith, o, e))

  naming_behind : SeesNamingIn V behind_server t.naming
  naming_behind = naming_serving V m S behind_server only_serving V t.naming here.naming

  coord_behind : SeesWhole f.act f.code c.x t.coord behind_server
  coord_behind = coord_serving V m S behind_server only_serving V t.coord here.coord

  -- ---- all of it

  -- where the machine is after it
  record HasGone (T : State) : Type 0 where
    moved : IsMoved S T
    run : Run S T
    others : SeesOthers f c.x c.begun k T M
    up : SeesUp V T d p
    answers : AreAnswersShown V T outs (asks m)
    replies : AreRepliesShown V T outs (asks m)
    anew : AreConfirmsAnswered V from S T outs (asks m)

  up_with : (T : State) → T.action ≡ S.action → Sees V p.server T → SeesWhole f.act f.code c.x t.coord T → SeesNamingIn V T p.naming →
      SeesUp V T d p
  up_with T same server coord naming =
      let l = left.0 in
      record {
        server = server;
        coord = subst (λ (q : Coord). SeesWhole f.act f.code c.x q T) (sym l.coord) coord;
        naming = naming;
        inc = λ n at. (let q = l.inc n at in q.2 ∙ here.inc q.0 q.1);
        place = l.place ∙ here.place;
        home = subst (λ (q : Coord). AreHome V q.tree) (sym l.coord) here.home;
        past = subst (λ (q : Coord). ArePast V q.tree T) (sym l.coord)
            (past_on S T (λ a ended. ap (λ (g : Act → state.Action). g a) same) V t.coord.tree here.past);
        records = records_on S T (λ a ended. ap (λ (g : Act → state.Action). g a) same) V None d.intents here.records;
      }

  at_one : k ≡ 1 → (T : State) × HasGone T
  at_one one =
      let g : Goes behind_server (λ T. SeesNamingIn V T p.naming × OnlyNaming behind_server T × AreRepliesShown V T outs (asks m) ×
      AreConfirmsAnswered V from behind_server T outs (asks m)) =
      subst (λ (r : Handled). Goes behind_server (λ T. SeesNamingIn V T (naming_after t r) × OnlyNaming behind_server T
      × AreRepliesShown V T (outs_of r) (asks m) × AreConfirmsAnswered V from behind_server T (outs_of r) (asks m))) taken_is
      (messages_are_heard site t from m behind_server
      (naming_counts site V m S behind_server only_serving t.naming (shown_to_naming c s from m is_seen knows there)) naming_behind) in
      let behind_naming = g.state in
      let only = g.holds.1 in (
        behind_naming,
        record {
          moved = moved_then S behind_server behind_naming (moved_serving V m S behind_server only_serving)
              (moved_named behind_server behind_naming only);
          run = go_on first.run g.run;
          others = others_go f c.x c.begun k behind_server behind_naming M others_behind g.run (λ elsewhere. absurd (elsewhere one))
              (λ j disk live other seen_there. memory_named behind_server behind_naming reached_behind g.run only (view_in c j) disk live
              (λ its. other (its ∙ sym one)) seen_there)
              (fresh_named f c.begun behind_server behind_naming only others_behind.fresh)
              (now_named behind_server behind_naming (length M.lines) only others_behind.now);
          up = up_with behind_naming (action_named behind_server behind_naming reached_behind g.run only ∙ action_is V m S behind_server
              only_serving) (sees_named behind_server behind_naming reached_behind g.run only V p first.holds.0)
              (coord_named behind_server behind_naming reached_behind g.run only V t.coord coord_behind) g.holds.0;
          answers = later_answers behind_naming g.run (asks m) first.holds.2;
          replies = g.holds.2;
          anew = λ a on. ⊎_elim (λ was. inl (sym (ap (λ (h : Act → Bool). h a) nobody_behind) ∙ was)) (λ new. inr new) (g.holds.3 a on);
        },
      )
    where
      later_answers : (behind_naming : State) → Run behind_server behind_naming → (q : Option (Head × Ask)) →
          AreAnswersShown V behind_server outs q → AreAnswersShown V behind_naming outs q
      later_answers behind_naming run None shown = tt
      later_answers behind_naming run (Some q) shown = λ its to z i. (let r = shown its to z i in
          (r.0, r.1, replies_stay_shown V q.0 q.1 r.0 behind_server behind_naming reached_behind run r.2))

  elsewhere : (k ≡ 1 → ⊥) → (T : State) × HasGone T
  elsewhere other = (
    behind_server,
    record {
      moved = moved_serving V m S behind_server only_serving;
      run = first.run;
      others = others_behind;
      up = up_with behind_server (action_is V m S behind_server only_serving) first.holds.0 coord_behind
          (none_there p.naming (let l = left.0 in l.place ∙ here.place));
      answers = first.holds.2;
      replies = no_replies (asks m) refl;
      anew = λ a on. inl (sym (ap (λ (h : Act → Bool). h a) nobody_behind) ∙ on);
    },
  )
    where
      not_one : (j : ℕ) → (j ≡ 1 → ⊥) → (j == 1) ≡ true → ⊥
      not_one j never its = never (eqb-true j 1 its)

      none_there : (o : Option Naming) → is_some o ≡ (k == 1) → SeesNamingIn V behind_server o
      none_there None place = tt
      none_there (Some n) place = absurd (not_one k other (sym place))

      none_here : (o : Option Naming) → is_some o ≡ (k == 1) → o ≡ None
      none_here None place = refl
      none_here (Some n) place = absurd (not_one k other (sym place))

      no_replies : (q : Option (Head × Ask)) → asks m ≡ q → AreRepliesShown V behind_server outs q
      no_replies None its = tt
      no_replies (Some q) its = λ for_it to z i. absurd (let bad : Void [] ≡ Took p outs = sym
          (void_without k d t from q.0 q.1 for_it (none_here t.naming here.place)) ∙ sym (ap (handle_ask k d t from m) its) ∙ is in cc bad)

  gone : (T : State) × HasGone T
  gone = ⊎_elim at_one elsewhere (one_or k)
    where
      one_or : (j : ℕ) → (j ≡ 1) ⊎ (j ≡ 1 → ⊥)
      one_or j = grind arith

  -- ---- what is sent

  module _ (T : State) (has : HasGone T) where
    -- what an answer shows isn't about the node
    server_at_node : (j : ℕ) (h : Head) (a : Ask) (r : Reply) → ShowsReply V h a T r → ShowsReply (view_in c j) h a T r
    server_at_node j h (ask.Activate b st) (Reply.Activated i) shows = shows
    server_at_node j h (ask.Invoke y b i ends o) (Reply.Invoked r) shows = shows
    server_at_node j h (ask.Vote i ties ends) (Reply.Voted (voted.Yes states)) shows = shows
    server_at_node j h _ _ shows = tt

    naming_at_node : (j : ℕ) (h : Head) (a : Ask) (r : Reply) → ShowsNamingReply V h a T r → ShowsNamingReply (view_in c j) h a T r
    naming_at_node j h (ask.Bind y include avoid) (Reply.Bound r) shows = shows
    naming_at_node j h (ask.Record y b i g) (Reply.Noted r) shows = shows
    naming_at_node j h (ask.Confirm grants excluded included) (Reply.Confirmed confirmed.Yes) shows = shows
    naming_at_node j h _ _ shows = tt

    -- a request's answer shows what it asked for
    shown_by : (h : Head) (a : Ask) → asks m ≡ Some (h, a) → (to : ℕ) (z : Message) → list.In (Send to z) outs →
        (r : Reply) × (z ≡ response (asked_by h) r) × ShowsReply V h a T r × ShowsNamingReply V h a T r
    shown_by h a its to z i = by a (subst (AreAnswersShown V T outs) its has.answers) (subst (AreRepliesShown V T outs) its has.replies)
        (subst (λ (q : Option (Head × Ask)). AreSentTo from q outs) its left.1 to z i)
      where
        in_outs : Contains outs (Send to z)
        in_outs = in_to (Send to z) outs i

        by : (b : Ask) → AreAnswersShown V T outs (Some (h, b)) → AreRepliesShown V T outs (Some (h, b)) → IsSentTo from (Some (h, b)) to z
            → (r : Reply) × (z ≡ response (asked_by h) r) × ShowsReply V h b T r × ShowsNamingReply V h b T r
        by (ask.Activate b st) answers replies sent = let r = answers refl to z in_outs in (r.0, r.1, r.2, tt)
        by (ask.Invoke y b i ends o) answers replies sent = let r = answers refl to z in_outs in (r.0, r.1, r.2, tt)
        by (ask.Vote i ties ends) answers replies sent = let r = answers refl to z in_outs in (r.0, r.1, r.2, tt)
        by (ask.Bind y include avoid) answers replies sent = let r = replies refl to z in_outs in (r.0, r.1, tt, r.2)
        by (ask.Record y b i g) answers replies sent = let r = replies refl to z in_outs in (r.0, r.1, tt, r.2)
        by (ask.Confirm grants excluded included) answers replies sent = let r = replies refl to z in_outs in (r.0, r.1, tt, r.2)
        by (ask.Load y) answers replies sent = (sent.1.0, sent.1.1, tt, tt)
        by (ask.Prepare states) answers replies sent = (sent.1.0, sent.1.1, tt, tt)

    -- an answer that goes out
    answer_seen : (to : ℕ) (q : Asked) (r : Reply) (wide : List Post) →
        IsAnswerSeen (view_in c to) wide (record { from = k; to = to; message = response q r }) (q, r) T →
        IsPostSeen f c.x c.begun wide T (record { from = k; to = to; message = response q r })
    answer_seen to q (Reply.Bound r) wide h = h
    answer_seen to q (Reply.Loaded r) wide h = h
    answer_seen to q (Reply.Activated r) wide h = h
    answer_seen to q (Reply.Noted r) wide h = h
    answer_seen to q (Reply.Invoked r) wide h = h
    answer_seen to q (Reply.Voted r) wide h = h
    answer_seen to q (Reply.Prepared r) wide h = h
    answer_seen to q (Reply.Confirmed r) wide h = h

    plain_seen : (to : ℕ) (z : Message) (wide : List Post) → IsPlain z →
        IsPostSeen f c.x c.begun wide T (record { from = k; to = to; message = z })
    plain_seen to (message.Acked z) wide plain = tt
    plain_seen to (message.Query z) wide plain = tt
    plain_seen to _ wide plain = absurd plain

    sent_seen : (to : ℕ) (z : Message) → list.In (Send to z) outs → (wide : List Post) → Within M.sent wide →
        IsPostSeen f c.x c.begun wide T (record { from = k; to = to; message = z })
    sent_seen to z i wide within = by (asks m) refl
      where
        by : (q : Option (Head × Ask)) → asks m ≡ q → IsPostSeen f c.x c.begun wide T (record { from = k; to = to; message = z })
        by None its = plain_seen to z wide (subst (λ (q : Option (Head × Ask)). IsSentTo from q to z) its (left.1 to z i))
        by (Some (h, a)) its =
            let r = shown_by h a its to z i in
            let back : to ≡ from = (subst (λ (q : Option (Head × Ask)). IsSentTo from q to z) its (left.1 to z i)).0 in
            subst (λ (w : Message). IsPostSeen f c.x c.begun wide T (record { from = k; to = to; message = w })) (sym r.1)
            (answer_seen to (asked_by h) r.0 wide (record {
              request = m;
              asked = within (record { from = to; to = k; message = m })
                  (subst (λ (j : ℕ). seen.In (record { from = j; to = k; message = m }) M.sent) (sym back) there);
              head = h;
              ask = a;
              is = its;
              of = refl;
              server = server_at_node to h a r.0 r.2;
              naming = naming_at_node to h a r.0 r.3;
            }))

    sends_by : (es : List Effect) → ((to : ℕ) (z : Message) → list.In (Send to z) es → list.In (Send to z) outs) →
        AreSendsSeen f c.x c.begun k T M.sent es
    sends_by [] each = tt
    sends_by (Say b ∷ es) each = (tt, sends_by es (λ to z i. each to z (inr i)))
    sends_by (Do w ∷ es) each = (tt, sends_by es (λ to z i. each to z (inr i)))
    sends_by (Send to z ∷ es) each =
        ((λ wide within. sent_seen to z (each to z (inl refl)) wide within), sends_by es (λ j w i. each j w (inr i)))

  -- ---- the walk

  -- whom it confirmed, as far as it is known now
  before : (u : Uid) → IsConfirmedAt u d (Some t) → HasConfirm f c.x S M.sent u
  before = (confirms_of f c.x c.begun k d (Some t) S M is_seen.sees).0

  had : (T : State) → HasGone T → (u : Uid) → IsConfirmedAt u d (Some t) → HasConfirm f c.x T M.sent u
  had T has u at = confirm_later f c.x S T (f.first, others_S.run) has.run M.sent M.sent (λ r i. i) u (before u at)

  -- who is confirmed anew: the Confirm is there, and it is answered Yes
  anew : (T : State) → HasGone T → (u : Uid) → IsNew from (asks m) outs u → HasConfirm f c.x T M.sent u
  anew T has u new = record {
    post = record { from = from; to = k; message = m };
    head = new.head;
    grants = new.grants;
    excluded = new.excluded;
    included = new.included;
    there = there;
    is = new.is;
    top = new.top;
    confirmed = λ names. (let h = new.head in let g = named_grant c.x new.grants names in
        let r = subst (AreRepliesShown V T outs) new.is has.replies refl from (response (asked_by h) (Reply.Confirmed confirmed.Yes))
        (in_to (Send from (response (asked_by h) (Reply.Confirmed confirmed.Yes))) outs new.yes) in
        let shows = subst (ShowsNamingReply V h (ask.Confirm new.grants new.excluded new.included) T) (yes_alone (asked_by h) r.0 r.1)
        r.2 in
        subst (λ (w : Uid). T.confirmed (f.act w) ≡ true) new.top (shows g.0 g.1));
  }

  abbrev last : Option (Uid × End)
  last = last_end (told_in m)

  noted : IsNoted t from (asks m) last p outs
  noted = subst (Notes t from (asks m) last) is (message_noted k d t from last m mine refl)

  -- so it is of all whom naming confirmed now
  confirmed_now : (T : State) → HasGone T → (n : Naming) (u : Uid) → p.naming ≡ Some n → is_on n.confirmed u ≡ true →
      HasConfirm f c.x T M.sent u
  confirmed_now T has n u at on =
      ⊎_elim (λ old. had T has u (inr (t, old.0, refl, old.1, old.2))) (λ new. anew T has u new) (noted.who n u at on)

  -- and of those whose entries are prepared, before and after
  ready_now : (T : State) → HasGone T → (u : Uid) → ((is_prepared u d.names ≡ true)
      ⊎ ((states : List ObjectState) × list.In (Do (Prepare role.Names u states)) outs)) → HasConfirm f c.x T M.sent u
  ready_now T has u (inl prepared) = had T has u (inl prepared)
  ready_now T has u (inr (states, i)) = anew T has u (noted.readied u states i)

  -- ---- a stop

  known : (u : Uid) (b : Branch) → branch_of u t.coord.tree ≡ Some b → Contains c.begun (action_of b)
  known u b found = (let g = good_node c s is_seen in let h = g.coord in h.known) u b found

  module _ (e : ℕ) (after : HoldsNamingIn c s.node p.naming) (T : State) (has : HasGone T) where
    abbrev Stop : Disk → Seen → Type 0
    Stop h N = StopsWell f c.x c.begun k e S h N

    -- once the machine went along
    halt : (h : Disk) (N : Seen) → HasSame d.inc d.intents h → SeesOthers f c.x c.begun k T N → HaveConfirms f c.x k T N.sent h None →
        IsTiedNow f c.x c.begun T N.lines → Stop h N
    halt h N same others confirms now =
        let u = halt_up f c.x c.begun k e S T h p N (subst (λ (q : Coord). IsSteady f.act f.paths q) (sym (let l = left.0 in l.coord))
        (steady c s is_seen)) known_then (server_level c s is_seen from m p outs is ∙ sym same.0)
        (ap (λ (q : Coord). (let t = q.tree in t.node)) (let l = left.0 in l.coord) ∙ (let i = its c s is_seen in i.node)) after others
        (up_same f c.x c.begun k T d h p same.0 same.1 has.up) confirms now in
        (u.0, u.1, u.2, go_on has.run u.3)
      where
        known_then : (u : Uid) (b : Branch) → branch_of u p.coord.tree ≡ Some b → Contains c.begun (action_of b)
        known_then u b found = known u b (subst (λ (q : Coord). branch_of u q.tree ≡ Some b) (let l = left.0 in l.coord) found)

    -- or where it is left as it was
    halt_back : (h : Disk) (N : Seen) → HasSame d.inc d.intents h → SeesOthers f c.x c.begun k S N → HaveConfirms f c.x k S N.sent h None →
        IsTiedNow f c.x c.begun S N.lines → Stop h N
    halt_back h N same others confirms now =
        halt_up f c.x c.begun k e S S h t N (steady c s is_seen) known ((let i = its c s is_seen in i.server) ∙ sym same.0)
        (let i = its c s is_seen in i.node) holds_before others (up_same f c.x c.begun k S d h t same.0 same.1 here) confirms now
      where
        holds_before : HoldsNamingIn c s.node t.naming
        holds_before n at = (let z = knows.naming n at in z.holds)

    -- ---- the walk

    abbrev Goes_on : Type 0
    Goes_on = Walks (IsSeenSo c) e k outs (Up (IsSeenSo c) k p) d M

    goes_with : (I : List Effect → Disk → Seen → Type 0) → KeepsWho f c.x c.begun k S T e (HasSame d.inc d.intents) I → I outs d M → Goes_on
    goes_with I keeps begin = walked f c.x c.begun k S T e p d.inc d.intents M.sent I keeps halt has.run
        (λ h same. up_same f c.x c.begun k T d h p same.0 same.1 has.up) (confirmed_now T has)
        outs d M begin (sends_by T has outs (λ to z i. i)) (let l = left.0 in l.plain) (λ r i. i) (ready_now T has) (refl, refl) has.others
        (tied_moved f c.x c.begun S T M.lines has.moved (tied_now c (world_at s) is_seen))

    -- elsewhere nobody is confirmed
    goes_elsewhere : (k ≡ 1 → ⊥) → Goes_on
    goes_elsewhere other = goes_with (λ es h N. ⊤) (record {
      works = λ w es h N i. tt;
      says = λ b es h N plain i. tt;
      sends = λ to z es h N more quiet i. tt;
      stops = λ how w es h N same i. inl (λ at. absurd (other at));
      ends = λ h N i at. absurd (other at);
    }) tt

    module _ (one : k ≡ 1) where
      over : (u : Uid) → ended_by t.naming last u ≡ true → is_top (f.act u) ≡ true → S.confirmed (f.act u) ≡ true → IsOverIn (f.act u) S
      over u ends top on = ended_over c s from m is_seen there t.naming knows.naming u ends top

      abbrev Anew : Uid → Type 0
      Anew u = IsAnew f c.x c.begun k S T e from m (HasSame d.inc d.intents) one (f.first, others_S.run) has.run M.sent there
          (ended_by t.naming last) over halt_back u

      abbrev Kept : List Effect → Disk → Seen → Type 0
      Kept = IsKept f c.x c.begun k S T e from m (HasSame d.inc d.intents) one (f.first, others_S.run) has.run M.sent there
          (ended_by t.naming last) over halt_back

      -- who is confirmed anew, and of whom entries are prepared
      as_anew : (u : Uid) → IsNew from (asks m) outs u → Anew u
      as_anew u new =
          record { head = new.head; grants = new.grants; excluded = new.excluded; included = new.included; is = new.is; top = new.top }

      begins : Kept outs d M
      begins = record {
        within = λ q i. i;
        old = (confirms_of f c.x c.begun k d (Some t) S M is_seen.sees).1 one;
        new = λ u top on. ⊎_elim (λ was. inl was) (λ a. inr (
          record {
            head = a.head;
            grants = a.grants;
            excluded = a.excluded;
            included = a.included;
            is = a.is;
            top = sym (its_one u (top_of (let h = a.head in h.path)) a.top);
          },
          named_by c.x a.grant a.grants a.given,
          inl (in_from (Send from (response (asked_by a.head) (Reply.Confirmed confirmed.Yes))) outs a.yes),
        )) (has.anew (f.act u) on);
        ends = noted.ends;
        had = λ u prepared. inl (before u (inl prepared));
        readied = λ u states i. as_anew u (noted.readied u states i);
        back = λ h grants excluded included at.
            (last_one h grants excluded included at (asks m) at noted.sends, inl (others_S, tied_now c (world_at s) is_seen));
      }
        where
          its_one : (u w : Uid) → f.act u ≡ f.act w → u ≡ w
          its_one u w same = (let a = is_seen.agrees in let h = a.whole in let l = h.alike in l.one u w same)

          last_one : (h : Head) (grants excluded included : List (ℕ × ℕ)) → asks m ≡ Some (h, ask.Confirm grants excluded included) →
              (q : Option (Head × Ask)) → q ≡ Some (h, ask.Confirm grants excluded included) → IsSentLast q outs → IsLast outs
          last_one h grants excluded included at q its sends = subst (λ (z : Option (Head × Ask)). IsSentLast z outs) its sends

      goes_here : Goes_on
      goes_here = goes_with Kept (keeps_who f c.x c.begun k S T e from m (HasSame d.inc d.intents) one (f.first, others_S.run) has.run
          M.sent there (ended_by t.naming last) over halt_back) begins

  pub message_goes : (e : ℕ) → HoldsNamingIn c s.node p.naming → Walks (IsSeenSo c) e k outs (Up (IsSeenSo c) k p) d M
  message_goes e after = ⊎_elim (goes_here e after gone.0 gone.1) (goes_elsewhere e after gone.0 gone.1) (one_or k)
    where
      one_or : (j : ℕ) → (j ≡ 1) ⊎ (j ≡ 1 → ⊥)
      one_or j = grind arith

pub messages_go : MessagesGo
messages_go c s e from m p outs is_seen knows after there mine meant is =
    message_goes c s from m p outs is_seen knows there mine meant is e after
