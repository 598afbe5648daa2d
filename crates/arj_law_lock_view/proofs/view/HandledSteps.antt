-- A whole message goes, as far as the node's server does.
use Rattle.arj_law_parts.proofs.Words
use Words.{◌≡◌, ◌≤◌, ◌⊎◌, ◌∙◌, ◌&&◌, ◌||◌, ◌++◌, ◌==◌, ℕ, List, [], ◌∷◌, Bool, true, false, cond, Option, Some, None, refl, sym, ap, subst}
use Words.{inl, inr, ⊎_elim, Contains, arith, ⊤, option_map, list_all, in_from, Ask, Asked, Binding, End, Head, InvokedReply, Message}
use Words.{ObjectState, Op, Row, Uid, VotedReply, What, asks, first_conflict, object, op_mode, uids_of, Reply, actor, answers, asked_by}
use Words.{last_end, response, heard, confirm, Coord, Copy, ask_copy, invoke_copy, Already, Disk, Do, Effect, InDoubt, Old, Prep, Ready}
use Words.{Say, Send, Served, either, held_at, holder_of, is_prepared, prepare_answer, reply, void, acked, Naming, Handled, Parts, Void}
use Words.{by_reply, coord_heard, handle, handle_answer, handle_ask, handle_ends, handle_other, if_naming, is_meant, load_by, load_held}
use Words.{prepare_by, sends_answer, serve, served, taken, with_coord, with_naming, with_server, at_number, at_uid, binding_eq}
use Words.{binding_less, binding_number, AreAll, is_server_effect, Kept, Server, active_binding, apply_ends, changed_by, first_unbound}
use Words.{has_ended, invoke_kept, invoke_new, invoke_now, is_below, on_copy, other_inc, took_copy, vote_now, activate_own, invoke_own}
use Words.{vote_own}
use Words.list
use Words.ask
use Words.message
use Words.prepared
use Words.voted
use Words.naming
use Words.server
use Rattle.arj_law_lock_view.proofs.Terms
use Terms.{kept_after, Act, In, same, stay, State, same_is, outs_of, OnlyVote, OnlyServer, Goes, AreAnswersShown, IsAskingShown}
use Terms.{IsMessageShown, IsTellingShown, OnlyServing, ShowsReply, server_after, ShowsIfInvoked, IsShown, IsVotedBy, ListsEach}
use Terms.{ShowsActivated, HaveOne, AreBrought, Sees, View, IsReached}
use Terms.machine
use Rattle.arj_law_lock_view.proofs.view
use view.{GivenSteps.votes_are_taken, LeftSteps.only_server, RunSteps.goes_to, ToldSteps.ends_are_taken}
use view.ServerSteps.{activates_are_seen, invokes_are_seen}
use Rattle.arj_law_lock_view.specs.view.Handling.{MessagesAreTaken, is_for_server, is_vote_for}
use Rattle.arj_protocol.specs.Server.{after_outs}

-- ---- what else stays

module _ (v : View) (m : Message) where
  serving_itself : (S : State) → OnlyServing v m S S
  serving_itself S =
      record { rest = refl; others = λ k other. refl; sent = λ z i. i; tops = λ a none. (refl, refl); raised = λ a. omega arith }

  serving_server : (S T : State) → OnlyServer v.node S T → OnlyServing v m S T
  serving_server S T only = record {
    rest = only.rest ∙ (λ i. record S { server = T.server; yes = sym yes_is i; vote = sym vote_is i; net = T.net });
    others = only.others;
    sent = only.sent;
    tops = λ a none. (ap (λ (f : Act → ℕ). f a) yes_is, ap (λ (f : Act → machine.Ballot). f a) vote_is);
    raised = λ a. (let same_yes = ap (λ (f : Act → ℕ). f a) yes_is in omega (arith, same_yes));
  }
    where
      yes_is : T.yes ≡ S.yes
      yes_is = ap (λ (z : State). z.yes) only.rest

      vote_is : T.vote ≡ S.vote
      vote_is = ap (λ (z : State). z.vote) only.rest

  serving_vote : (u : Uid) (S T : State) → ((a : Act) → is_vote_for v a (asks m) ≡ same a (v.family.act u)) →
      OnlyVote v.node (v.family.act u) S T → OnlyServing v m S T
  serving_vote u S T asked only = record {
    rest = only.rest ∙ (λ i. record S { server = T.server; yes = T.yes; vote = T.vote; net = sym net_is i });
    others = only.others;
    sent = λ z i. subst (λ (net : List machine.Message). In z net) (sym net_is) i;
    tops = λ a none. only.tops a (sym (asked a) ∙ none);
    raised = λ a. by a (same a (v.family.act u)) refl;
  }
    where
      net_is : T.net ≡ S.net
      net_is = ap (λ (z : State). z.net) only.rest

      by : (a : Act) (b : Bool) → same a (v.family.act u) ≡ b → S.yes a ≤ T.yes a
      by a true is = subst (λ (z : Act). S.yes z ≤ T.yes z) (sym (same_is a (v.family.act u) is)) only.raised
      by a false is = let k = only.tops a is in let e = k.0 in omega (arith, e)

-- ---- what is sent

-- of the effects of a call of the server none is sent
none_sent : (n : ℕ) (outs : List Effect) → AreAll (is_server_effect n) outs → (to : ℕ) (z : Message) → list.In (Send to z) outs → ⊥
none_sent n [] all to z i = i
none_sent n (e ∷ es) all to z i = by e (none_sent n es) all i
  where
    by : (f : Effect) → (AreAll (is_server_effect n) es → (k : ℕ) (w : Message) → list.In (Send k w) es → ⊥) →
        (is_server_effect n f && list_all (is_server_effect n) es) ≡ true → (f ≡ Send to z) ⊎ list.In (Send to z) es → ⊥
    by (Say b) rest own (inl is) = cc is
    by (Say b) rest own (inr j) = rest (second (is_server_effect n (Say b)) own) to z j
      where
        second : (p : Bool) → (p && list_all (is_server_effect n) es) ≡ true → list_all (is_server_effect n) es ≡ true
        second true h = h
        second false h = absurd (cc h)
    by (Send k w) rest own i = cc own
    by (Do w) rest own i = cc own

pub sent_last : (outs : List Effect) (from : ℕ) (w : Message) (to : ℕ) (z : Message) → list.In (Send to z) (outs ++ Send from w ∷ []) →
    list.In (Send to z) outs ⊎ (z ≡ w)
sent_last [] from w to z (inl is) = inr (message_of is)
  where
    message_of : Send from w ≡ Send to z → z ≡ w
    message_of e = cc e
sent_last [] from w to z (inr i) = absurd i
sent_last (e ∷ es) from w to z (inl is) = inl (inl is)
sent_last (e ∷ es) from w to z (inr i) = elim (sent_last es from w to z i) [ inl j ↦ inl (inr j) | inr is ↦ inr is ]

-- ---- a call without an answer changes nothing

-- the part is as it was where there is no answer
abbrev IsVoid : {R : Type 0} → Server → Served Server R → Type 0
IsVoid s r = r.reply ≡ None → r.part ≡ s

void_activate : (n : ℕ) (h : Head) (b : Binding) (st : ObjectState) (s : Server) → IsVoid s (server.activate n h.path b st s)
void_activate n h b st s =
    by (has_ended h.path s || binding_less b (active_binding st.uid.num s)) (binding_eq b (active_binding st.uid.num s))
  where
    by : (e q : Bool) →
        IsVoid s (cond {A = Served Server ℕ} e (void s) (cond {A = Served Server ℕ} q (reply s s.inc) (took_copy n st.uid.num b st s)))
    by true q none = refl
    by false true none = absurd (cc none)
    by false false none = absurd (cc none)

void_invoke : (n : ℕ) (h : Head) (y : ℕ) (b : Binding) (i : ℕ) (ends : List (Uid × End)) (o : Op) (s : Server) →
    IsVoid s (server.invoke n h y b i ends o s)
void_invoke n h y b i ends o s = by (has_ended h.path s || is_below h.req (at_uid (actor h.path) s.kept)) (changed_by i y b s)
  where
    new : IsVoid s (invoke_new n h y ends o s)
    new = copied (at_number y (let d = apply_ends n ends s in let t = d.part in t.objects))
      where
        copied : (f : Option Copy) → IsVoid s (after_outs (let d = apply_ends n ends s in
            d.outs) (kept_after h (on_copy y (invoke_copy n h.path y o) (let d = apply_ends n ends s in d.part) f)))
        copied None none = absurd (cc none)
        copied (Some c) none = asked (first_conflict (uids_of h.path) (object y) (op_mode o) c.rows) none
          where
            asked : (r : Option Row) → (let k = ask_copy n h.path y o c r in k.reply) ≡ None →
                (let k = after_outs (let d = apply_ends n ends s in d.outs)
                (kept_after h (on_copy y (invoke_copy n h.path y o) (let d = apply_ends n ends s in d.part) (Some c))) in k.part) ≡ s
            asked None e = absurd (cc e)
            asked (Some r) e = absurd (cc e)

    kept : (k : Option Kept) → IsVoid s (invoke_kept n h y ends o s k)
    kept None = new
    kept (Some k) = at (k.req == h.req)
      where
        at : (e : Bool) → IsVoid s (cond {A = Served Server InvokedReply} e (reply s k.answer) (invoke_new n h y ends o s))
        at true = λ none. absurd (cc none)
        at false = new

    now : (w : Option What) → IsVoid s (invoke_now n h y ends o s w)
    now (Some w) none = absurd (cc none)
    now None none = kept (at_uid (actor h.path) s.kept) none

    by : (e : Bool) (w : Option What) → IsVoid s (cond {A = Served Server InvokedReply} e (void s) (invoke_now n h y ends o s w))
    by true w none = refl
    by false w none = now w none

void_vote : (n : ℕ) (h : Head) (i : ℕ) (ties : List (ℕ × Binding)) (ends : List (Uid × End)) (s : Server) →
    IsVoid s (server.vote n h.path i ties ends s)
void_vote n h i ties ends s = by (has_ended h.path s) (either (other_inc i s.inc) (first_unbound ties s))
  where
    by : (e : Bool) (w : Option What) → IsVoid s (cond {A = Served Server VotedReply} e (void s) (vote_now n (actor h.path) ends s w))
    by true w none = refl
    by false (Some w) none = absurd (cc none)
    by false None none = absurd (cc none)

-- of an answer that was put in a message
no_reply : {R : Type 0} (say : R → Reply) (o : Option R) → option_map say o ≡ None → o ≡ None
no_reply say None none = refl
no_reply say (Some r) none = absurd (cc none)

some_reply : {R : Type 0} (say : R → Reply) (o : Option R) (a : Reply) → option_map say o ≡ Some a → (r : R) × (o ≡ Some r) × (say r ≡ a)
some_reply say None a is = absurd (cc is)
some_reply say (Some r) a is = (r, refl, said (say r) is)
  where
    said : (b : Reply) → ◌≡◌ {A = Option Reply} (Some b) (Some a) → b ≡ a
    said b e = cc e

module _ (v : View) (d : Disk) (t : Parts) (from : ℕ) (m : Message) (S : State) (reached : IsReached S) (lists : ListsEach t.server)
    (sees : Sees v t.server S) where
  abbrev n : ℕ
  n = v.node

  -- the server's part of what was handled
  abbrev Takes : Option (Head × Ask) → Handled → Type 0
  Takes q r = Goes S (λ T. Sees v (server_after t r) T × OnlyServing v m S T × AreAnswersShown v T (outs_of r) q)

  -- what leaves the server as it was, where the request isn't for it
  abbrev Leaves : Option (Head × Ask) → Type 0
  Leaves None = ⊤
  Leaves (Some q) = is_for_server q.1 ≡ false

  no_answer : (q : Option (Head × Ask)) → Leaves q → (T : State) (outs : List Effect) → AreAnswersShown v T outs q
  no_answer None other T outs = tt
  no_answer (Some q) other T outs = λ mine. absurd (cc (sym mine ∙ other))

  left : (q : Option (Head × Ask)) → Leaves q → (r : Handled) → server_after t r ≡ t.server → Takes q r
  left q other r same_one = record {
    state = S;
    run = stay;
    holds = (subst (λ (z : Server). Sees v z S) (sym same_one) sees, serving_itself v m S, no_answer q other S (outs_of r));
  }

  answered_same : (to : ℕ) (h : Head) (w : Parts) (outs : List Effect) (o : Option Reply) → w.server ≡ t.server →
      server_after t (sends_answer to h w outs o) ≡ t.server
  answered_same to h w outs None is = refl
  answered_same to h w outs (Some r) is = is

  -- ---- requests to the server

  -- its answer, and nothing else, goes out
  answers_go : (h : Head) (a : Ask) (T : State) (w : Parts) (outs : List Effect) (o : Option Reply) → AreAll (is_server_effect n) outs →
      ((r : Reply) → o ≡ Some r → ShowsReply v h a T r) → AreAnswersShown v T (outs_of (sends_answer from h w outs o)) (Some (h, a))
  answers_go h a T w outs None own shows mine to z k = absurd (in_from (Send to z) [] k)
  answers_go h a T w outs (Some r) own shows mine to z k = ⊎_elim
      (λ (i : list.In (Send to z) outs). absurd (none_sent n outs own to z i))
      (λ (is : z ≡ response (asked_by h) r). (r, is, shows r refl))
      (sent_last outs from (response (asked_by h) r) to z (in_from (Send to z) (outs ++ Send from (response (asked_by h) r) ∷ []) k))

  seen_after : (h : Head) (w : Server) (outs : List Effect) (o : Option Reply) (T : State) → (o ≡ None → w ≡ t.server) → Sees v w T →
      Sees v (server_after t (sends_answer from h (with_server t w) outs o)) T
  seen_after h w outs None T void_same k = subst (λ (z : Server). Sees v z T) (void_same refl) k
  seen_after h w outs (Some r) T void_same k = k

  module _ (h : Head) where
    -- an Activate
    abbrev activated : Binding → ObjectState → Served Server ℕ
    activated b st = server.activate n h.path b st t.server

    activate_goes : (b : Binding) (st : ObjectState) → IsShown v h (ask.Activate b st) t.server S →
        Takes (Some (h, ask.Activate b st)) (serve n d t from h (ask.Activate b st))
    activate_goes b st shown = goes_to (activates_are_seen v h b st t.server S shown sees) (λ T g. (
      seen_after h (activated b st).part (activated b st).outs (option_map Reply.Activated (activated b st).reply) T
          (λ none. void_activate n h b st t.server (no_reply Reply.Activated (activated b st).reply none)) g.0,
      serving_server v m S T g.1,
      answers_go h (ask.Activate b st) T (with_server t (activated b st).part) (activated b st).outs
          (option_map Reply.Activated (activated b st).reply) (activate_own n h.path b st t.server) (λ a is.
          (let f = some_reply Reply.Activated (activated b st).reply a is in
          subst (ShowsReply v h (ask.Activate b st) T) f.2 (λ about. subst (ShowsActivated b T) f.1 (g.2 about)))),
    ))

    -- an Invoke
    abbrev invoked_by : ℕ → Binding → ℕ → List (Uid × End) → Op → Served Server InvokedReply
    invoked_by y b i ends o = server.invoke n h y b i ends o t.server

    invoke_goes : (y : ℕ) (b : Binding) (i : ℕ) (ends : List (Uid × End)) (o : Op) → IsShown v h (ask.Invoke y b i ends o) t.server S →
        Takes (Some (h, ask.Invoke y b i ends o)) (serve n d t from h (ask.Invoke y b i ends o))
    invoke_goes y b i ends o shown = goes_to (invokes_are_seen v h y b i ends o t.server S shown sees) (λ T g. (
      seen_after h (invoked_by y b i ends o).part (invoked_by y b i ends o).outs (option_map Reply.Invoked (invoked_by y b i ends o).reply)
          T (λ none. void_invoke n h y b i ends o t.server (no_reply Reply.Invoked (invoked_by y b i ends o).reply none)) g.0,
      serving_server v m S T g.1,
      answers_go h (ask.Invoke y b i ends o) T (with_server t (invoked_by y b i ends o).part) (invoked_by y b i ends o).outs
          (option_map Reply.Invoked (invoked_by y b i ends o).reply) (invoke_own n h y b i ends o t.server) (λ a is.
          (let f = some_reply Reply.Invoked (invoked_by y b i ends o).reply a is in
          subst (ShowsReply v h (ask.Invoke y b i ends o) T) f.2 (λ about.
          subst (ShowsIfInvoked v.family.act v.code (actor h.path) h.req (record { binding = b; op = o }) T) f.1 (g.2 about)))),
    ))

    -- a Vote
    abbrev voted_by : ℕ → List (ℕ × Binding) → List (Uid × End) → Served Server VotedReply
    voted_by i ties ends = server.vote n h.path i ties ends t.server

    vote_goes : (i : ℕ) (ties : List (ℕ × Binding)) (ends : List (Uid × End)) →
        ((a : Act) → is_vote_for v a (asks m) ≡ same a (v.family.act (actor h.path))) → IsShown v h (ask.Vote i ties ends) t.server S →
        Takes (Some (h, ask.Vote i ties ends)) (serve n d t from h (ask.Vote i ties ends))
    vote_goes i ties ends its shown = goes_to (votes_are_taken v h i ties ends t.server S reached lists shown sees) (λ T g. (
      seen_after h (voted_by i ties ends).part (voted_by i ties ends).outs (option_map Reply.Voted (voted_by i ties ends).reply) T
          (λ none. void_vote n h i ties ends t.server (no_reply Reply.Voted (voted_by i ties ends).reply none)) g.0,
      serving_vote v m (actor h.path) S T its g.1,
      answers_go h (ask.Vote i ties ends) T (with_server t (voted_by i ties ends).part) (voted_by i ties ends).outs
          (option_map Reply.Voted (voted_by i ties ends).reply) (vote_own n h.path i ties ends t.server) (λ a is.
          (let f = some_reply Reply.Voted (voted_by i ties ends).reply a is in
          subst (ShowsReply v h (ask.Vote i ties ends) T) f.2 (vote_shown T f.0
          (λ b states tied yes. (let k = g.2 b states tied (f.1 ∙ yes) in let k0 = k.0 in let w = k0.voted in (w.yes, k.1, k.2)))))),
    ))
      where
        vote_shown : (T : State) (r : VotedReply) → ((b : Binding) (states : List ObjectState) → Contains {X = ℕ × Binding} ties (v.x, b) →
            Some r ≡ Some (voted.Yes states) → (binding_number b ≤ T.yes (v.family.act (actor h.path)))
            × IsVotedBy v (actor h.path) b states T × HaveOne v.x states) → ShowsReply v h (ask.Vote i ties ends) T (Reply.Voted r)
        vote_shown T (voted.Yes states) shows = λ b tied. shows b states tied refl
        vote_shown T (voted.Changed w) shows = tt

    -- any request
    asked_goes : (a : Ask) → asks m ≡ Some (h, a) → IsShown v h a t.server S → Takes (Some (h, a)) (serve n d t from h a)
    asked_goes (ask.Activate b st) is shown = activate_goes b st shown
    asked_goes (ask.Invoke y b i ends o) is shown = invoke_goes y b i ends o shown
    asked_goes (ask.Vote i ties ends) is shown = vote_goes i ties ends (λ a. ap (is_vote_for v a) is) shown
    asked_goes (ask.Bind x include avoid) is shown =
        left (Some (h, ask.Bind x include avoid)) refl (serve n d t from h (ask.Bind x include avoid)) (by t.naming)
      where
        by : (o : Option Naming) → server_after t
            (if_naming (λ q. served from h (with_naming t) Reply.Bound (naming.bind h.path x include avoid d.names q)) o) ≡ t.server
        by None = refl
        by (Some q) = let r = naming.bind h.path x include avoid d.names q in
            answered_same from h (with_naming t r.part) r.outs (option_map Reply.Bound r.reply) refl
    asked_goes (ask.Load x) is shown =
        left (Some (h, ask.Load x)) refl (serve n d t from h (ask.Load x)) (load (holder_of (object x) d.store))
      where
        held : (o : Option ObjectState) → server_after t (load_held from h t o) ≡ t.server
        held None = refl
        held (Some o) = refl

        load : (o : Option Uid) → server_after t (load_by x d.store from h t o) ≡ t.server
        load (Some u) = refl
        load None = held (held_at (object x) d.store)
    asked_goes (ask.Record x b i g) is shown =
        left (Some (h, ask.Record x b i g)) refl (serve n d t from h (ask.Record x b i g)) (by t.naming)
      where
        by : (o : Option Naming) →
            server_after t (if_naming (λ q. served from h (with_naming t) Reply.Noted (naming.note h.path x b i g q)) o) ≡ t.server
        by None = refl
        by (Some q) = let r = naming.note h.path x b i g q in
            answered_same from h (with_naming t r.part) r.outs (option_map Reply.Noted r.reply) refl
    asked_goes (ask.Prepare states) is shown =
        left (Some (h, ask.Prepare states)) refl (serve n d t from h (ask.Prepare states)) (by (is_prepared (actor h.path) d.store))
      where
        new : (a : Prep) → server_after t (prepare_by n states from h t a) ≡ t.server
        new Ready = refl
        new (Already u) = refl
        new (Old u w) = refl
        new (InDoubt u holder) = refl

        by : (b : Bool) → server_after t (cond b (sends_answer from h t [] (Some (Reply.Prepared prepared.Yes)))
            (prepare_by n states from h t (prepare_answer (actor h.path) states d.store))) ≡ t.server
        by true = refl
        by false = new (prepare_answer (actor h.path) states d.store)
    asked_goes (ask.Confirm grants excluded included) is shown =
        left (Some (h, ask.Confirm grants excluded included)) refl (serve n d t from h (ask.Confirm grants excluded included)) (by t.naming)
      where
        by : (o : Option Naming) → server_after t (if_naming
            (λ q. served from h (with_naming t) Reply.Confirmed (confirm h.path grants excluded included d.names q)) o) ≡ t.server
        by None = refl
        by (Some q) = let r = confirm h.path grants excluded included d.names q in
            answered_same from h (with_naming t r.part) r.outs (option_map Reply.Confirmed r.reply) refl

  -- ---- other messages

  coord_same : (r : Served Coord (Unit {0})) → server_after t (coord_heard t r) ≡ t.server
  coord_same r = by r.reply
    where
      by : (o : Option (Unit {0})) → server_after t (by_reply (with_coord t r.part) r.outs o) ≡ t.server
      by None = refl
      by (Some u) = refl

  told_goes : (ack : Bool) (ends : List (Uid × End)) → AreBrought v ends t.server S →
      Takes None (handle_ends n d t from ack ends (last_end ends))
  told_goes ack ends brought = by (last_end ends)
    where
      by : (o : Option (Uid × End)) → Takes None (handle_ends n d t from ack ends o)
      by None = left None tt (handle_ends n d t from ack ends None) refl
      by (Some e) = goes_to (ends_are_taken v ends t.server S brought sees) (λ T g. (g.0, serving_server v m S T (only_server g.1), tt))

  other_goes : (q : Message) → IsTellingShown v t.server S q → Takes None (handle_other n d t from q)
  other_goes (message.Told q) shown = told_goes q.ack q.ends shown
  other_goes (message.Acked q) shown =
      left None tt (handle_other n d t from (message.Acked q)) (coord_same (acked from q.act d.intents t.coord))
  other_goes (message.Query q) shown = left None tt (handle_other n d t from (message.Query q)) refl
  other_goes (message.Hello q) shown = left None tt (handle_other n d t from (message.Hello q)) refl
  other_goes (message.Bind q) shown = left None tt (Void []) refl
  other_goes (message.Bound q) shown = left None tt (Void []) refl
  other_goes (message.Load q) shown = left None tt (Void []) refl
  other_goes (message.Loaded q) shown = left None tt (Void []) refl
  other_goes (message.Activate q) shown = left None tt (Void []) refl
  other_goes (message.Activated q) shown = left None tt (Void []) refl
  other_goes (message.RecordMsg q) shown = left None tt (Void []) refl
  other_goes (message.Recorded q) shown = left None tt (Void []) refl
  other_goes (message.Invoke q) shown = left None tt (Void []) refl
  other_goes (message.Invoked q) shown = left None tt (Void []) refl
  other_goes (message.Vote q) shown = left None tt (Void []) refl
  other_goes (message.Voted q) shown = left None tt (Void []) refl
  other_goes (message.Prepare q) shown = left None tt (Void []) refl
  other_goes (message.Prepared q) shown = left None tt (Void []) refl
  other_goes (message.Confirm q) shown = left None tt (Void []) refl
  other_goes (message.Confirmed q) shown = left None tt (Void []) refl

  handled : IsMessageShown v t.server S m → Takes (asks m) (handle n d t from m)
  handled shown = by (asks m) refl shown
    where
      answer : (o : Option (Asked × Reply)) → IsTellingShown v t.server S m → Takes None (handle_answer n d t from m o)
      answer None telling = other_goes m telling
      answer (Some a) telling = left None tt (handle_answer n d t from m (Some a)) (coord_same (heard from a.0 a.1 d.intents t.coord))

      by : (o : Option (Head × Ask)) → asks m ≡ o → IsAskingShown v t.server S m o → Takes o (handle_ask n d t from m o)
      by None is told = answer (answers m) told
      by (Some q) is asked = asked_goes q.0 q.1 is asked

  pub message_goes : IsMessageShown v t.server S m → Takes (asks m) (taken n d t from m)
  message_goes shown = by (is_meant t m)
    where
      nothing : (o : Option (Head × Ask)) → AreAnswersShown v S [] o
      nothing None = tt
      nothing (Some q) = λ mine to z k. absurd (in_from (Send to z) [] k)

      by : (b : Bool) → Takes (asks m) (cond b (handle n d t from m) (Void []))
      by true = handled shown
      by false = record { state = S; run = stay; holds = (sees, serving_itself v m S, nothing (asks m)) }

pub messages_are_taken : MessagesAreTaken
messages_are_taken v d t from m S reached lists shown sees = message_goes v d t from m S reached lists sees shown
