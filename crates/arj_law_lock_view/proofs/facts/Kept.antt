-- What coordinators keep beside good nodes and known Binds, with what naming keeps and what its answers to a Bind say, holds in every run.
use Rattle.arj_law_parts.proofs.Words
use Words.{◌≡◌, ◌≢◌, ◌∙◌, ◌+◌, ◌==◌, ℕ, Bool, true, false, cond, List, [], ◌∷◌, ◌++◌, map, filter, length, refl, sym, ap, subst}
use Words.{⊎_elim, Option, Some, None, ⊤, IfSome, option_map, AllByRecursion, list_all, and_parts, Ask, Asked, Binding, Body}
use Words.{BoundReply, End, Head, Header, Kind, Label, Message, ObjectState, Path, PreparedReply, Uid, asks, object, Reply, actor, answers}
use Words.{asked_by, last_end, response, again_all, begin_action, heard, Grants, Marks, back_lines, confirm, recovered_naming, Coord}
use Words.{new_coord, Already, Disk, Do, Effect, InDoubt, Intent, Look, Old, Pair, Prep, Prepare, PutInc, Ready, Say, Send, Served, held_at}
use Words.{holder_of, is_prepared, prepare_answer, stopped, worked, acked, answer_query, tell, tell_all, tick_outs, Named, Naming, Handled}
use Words.{Parts, Took, Void, ack_told, by_reply, coord_heard, end_states, handle, handle_answer, handle_ask, handle_ends, handle_other}
use Words.{holders, if_naming, is_earlier, load_by, load_held, naming_hello, naming_told, prepare_by, prepared_actions, query_about}
use Words.{sends_answer, serve, store_told, with_coord, with_naming, with_server, uid_set, without_number, AreAll, is_naming_effect}
use Words.{is_server_effect, Input, Node, acts, begin_refusal, hello_to, naming_at, naming_back, numbers_to}
use Words.{parent_of, parts_in, recovered_records, refusal_up, restart_outs, tolds_again, Labelled}
use Words.{activate_own, bind_own, confirm_own, ends_own, invoke_own, note_own, told_own, vote_own, Post, Seen, is_serial}
use Words.ask
use Words.body
use Words.ending
use Words.loaded
use Words.message
use Words.prepared
use Words.role
use Words.naming
use Words.server
use Words.input
use Rattle.arj_law_lock_view.proofs.Terms
use Terms.{IsAtStarts, disk_by, first_up, Action, AreBegun, MayBegin, paths_of, AreTrue, IsGoodCoord, IsTree, Paths, AreNumbered}
use Terms.{begun_tree, path_found, all_flat}
use Terms.{all_map, true_query, true_records, well_acked, well_acts, well_again, well_heard, IsGoodOf, IsUp, own_of_disk, tops_of_disk}
use Terms.{other_number, same_number, Keeps, is_act, at, down, given, posted, said, up, Up, Walks, halted, walks_both, acked_so, acts_so}
use Terms.{again_so, heard_so, query_so, tolds_so, AllSo, IsSentBy, no_answer, no_request, reads_back, AnswersWaiting, BindsAreKnown}
use Terms.{KnowsBinds, answers_fit, binds_keep, Said}
use Rattle.arj_law_lock_view.specs.facts.Worlds.{Everywhere}
use Rattle.arj_law_parts.specs.{moves.Seen.In, parts.Claims.IsFaithful}
use Rattle.arj_law_runs.proofs.kept.Begins.{may as may_begin}
use Rattle.arj_law_runs.specs.kept.Worlds.{IsGood}

-- what is known of a coordinator: it is good, for actions that were begun, requests are numbered, each action has its work, and its Binds
pub record Place (sent : List Post) (k : ℕ) (c : Coord) : Type 0 where
  pub actions : List Action
  pub begun : AreBegun actions
  pub good : IsGoodCoord actions (paths_of actions) c
  pub numbered : AreNumbered c
  pub faithful : IsFaithful c
  pub binds : KnowsBinds sent k c

-- of answers to Binds this is said, and of requests nothing
abbrev pub answers_so : (BoundReply → Type 0) → Said
answers_so R = record { request = λ h a. ⊤; answer = R }

-- What holds of a coordinator as it begins, and is kept by what it hears, does and begins; an answer to a Bind is as naming gives it.
pub record IsKept (S : Said) (Q : Coord → Type 0) : Type 0 where
  pub says : (c : Coord) → Q c → (to : ℕ) (h : Head) (a : Ask) → IsSentBy c to h a → S.request h a
  pub new : (node inc : ℕ) (telling : List (Uid × Intent)) → Q (record (new_coord node inc) { telling = telling })
  pub hears : (sent : List Post) (k : ℕ) (c : Coord) → Place sent k c → (from : ℕ) (a : Asked) (r : Reply) (intents : List (Uid × Intent)) →
      AnswersWaiting from a r c → ((b : BoundReply) → r ≡ Reply.Bound b → S.answer b) → Q c → Q (heard from a r intents c).part
  pub acks : (sent : List Post) (k : ℕ) (c : Coord) → Place sent k c → (from : ℕ) (u : Uid) (intents : List (Uid × Intent)) → Q c →
      Q (acked from u intents c).part
  pub does : (sent : List Post) (k : ℕ) (c : Coord) → Place sent k c → (intents : List (Uid × Intent)) (hd : Header) (i : Input) →
      refusal_up hd i c ≡ None → ((l : Label) (k : Kind) (parent : Option Label) → i ≢ input.Begin l k parent) → Q c →
      Q (acts i intents c).part
  pub begins : (sent : List Post) (k : ℕ) (c : Coord) (p : Place sent k c) (l : Label) (how : Kind) (parent : Option Label) →
      MayBegin p.actions how (parent_of parent c) → begin_refusal how c parent ≡ None → Q c →
      Q (begin_action l how parent (parent_of parent c) c).part
  pub asks : (sent : List Post) (k : ℕ) (c : Coord) → Place sent k c → Q c → Q (again_all c.doings c).part

-- What holds of naming as it starts, and is kept by each call; and what it answers to a Bind.
pub record IsGiven (S : Said) (N : Naming → Type 0) : Type 0 where
  pub starts : (inc : ℕ) (d : Pair) → N (recovered_naming inc d)
  pub binds : (p : Path) (x : ℕ) (include : Bool) (avoid : Binding) (d : Pair) (n : Naming) → N n →
      (let s = naming.bind p x include avoid d n in N s.part × IfSome s.reply S.answer)
  pub notes : (p : Path) (x : ℕ) (b : Binding) (i g : ℕ) (n : Naming) → N n → N (naming.note p x b i g n).part
  pub tells : (u : Uid) (e : End) (d : Pair) (n : Naming) → N n → N (naming.told u e d n).part
  pub hellos : (node inc : ℕ) (n : Naming) → N n → N (naming.hello node inc n)
  pub confirms : (p : Path) (grants : Grants) (excluded included : Marks) (d : Pair) (n : Naming) → N n →
      N (confirm p grants excluded included d n).part

some_is : {A : Type 0} {a b : A} → Some a ≡ Some b → a ≡ b
some_is {A} {a} {b} is = let k : ◌≡◌ {A = Option A} (Some a) (Some b) = is in cc

none_at : {A P : Type 0} {o : Option A} {x : A} → o ≡ None → o ≡ Some x → P
none_at {A} {P} {o} {x} none is = let no_way : ◌≡◌ {A = Option A} None (Some x) = sym none ∙ is in absurd (cc no_way)

module _ (S : Said) (Q : Coord → Type 0) (N : Naming → Type 0) (kept : IsKept S Q) (is_given : IsGiven S N) where
  -- what the message says is so
  record Claims (m : Message) : Type 0 where
    request : (h : Head) (a : Ask) → asks m ≡ Some (h, a) → S.request h a
    answer : (a : Asked) (r : BoundReply) → answers m ≡ Some (a, Reply.Bound r) → S.answer r

  abbrev HasParts : Parts → Type 0
  HasParts t = Q t.coord × ((n : Naming) → t.naming ≡ Some n → N n)

  abbrev AreSo : Seen → Type 0
  AreSo M = Everywhere S Q N M

  -- ---- effects

  abbrev FineEffect : Effect → Type 0
  FineEffect (Send to m) = Claims m
  FineEffect (Say b) = ⊤
  FineEffect (Do w) = ⊤

  abbrev Fine : List Effect → Type 0
  Fine outs = AllByRecursion FineEffect outs

  both : (es fs : List Effect) → Fine es → Fine fs → Fine (es ++ fs)
  both [] fs a b = b
  both (e ∷ es) fs a b = (a.0, both es fs a.1 b)

  quiet : (m : Message) → asks m ≡ None → answers m ≡ None → Claims m
  quiet m nothing none = record { request = λ h a is. none_at nothing is; answer = λ a r is. none_at none is }

  sent_fine : (c : Coord) (outs : List Effect) → Q c → AreTrue c outs → AllSo c outs → Fine outs
  sent_fine c [] q true_all so = tt
  sent_fine c (Send to m ∷ es) q true_all so = (
    record {
      request = λ h a is. kept.says c q to h a (so.0 h a is);
      answer = λ a r is. none_at (no_answer m (let f = true_all.0 in f.plain)) is;
    },
    sent_fine c es q true_all.1 so.1,
  )
  sent_fine c (Say b ∷ es) q true_all so = (tt, sent_fine c es q true_all.1 so.1)
  sent_fine c (Do w ∷ es) q true_all so = (tt, sent_fine c es q true_all.1 so.1)

  server_fine : (n : ℕ) (es : List Effect) → AreAll (is_server_effect n) es → Fine es
  server_fine n [] own = tt
  server_fine n (Say b ∷ es) own = (tt, server_fine n es (and_parts (is_server_effect n (Say b)) (list_all (is_server_effect n) es) own).1)
  server_fine n (Send to m ∷ es) own = absurd (cc own)
  server_fine n (Do w ∷ es) own = absurd (cc own)

  naming_fine : (es : List Effect) → AreAll is_naming_effect es → Fine es
  naming_fine [] own = tt
  naming_fine (Say b ∷ es) own = (tt, naming_fine es (and_parts (is_naming_effect (Say b)) (list_all is_naming_effect es) own).1)
  naming_fine (Send to m ∷ es) own = absurd (cc own)
  naming_fine (Do w ∷ es) own = (tt, naming_fine es (and_parts (is_naming_effect (Do w)) (list_all is_naming_effect es) own).1)

  queries : (us : List Uid) → Fine (map query_about us)
  queries [] = tt
  queries (u ∷ us) = (quiet (message.Query (record { act = u })) refl refl, queries us)

  -- ---- one message

  module _ (k : ℕ) (d : Disk) (t : Parts) (from : ℕ) (m : Message) (its : HasParts t) where
    abbrev By : Handled → Type 0
    By (Void outs) = ⊤
    By (Took v outs) = HasParts v × Fine outs

    abbrev IsOther : Reply → Type 0
    IsOther r = (q : BoundReply) → r ≡ Reply.Bound q → ⊥

    answered : (h : Head) (v : Parts) (outs : List Effect) (o : Option Reply) → HasParts v → Fine outs →
        ((r : Reply) → o ≡ Some r → (q : BoundReply) → r ≡ Reply.Bound q → S.answer q) → By (sends_answer from h v outs o)
    answered h v outs None so fine each = tt
    answered h v outs (Some r) so fine each = (
      so,
      both outs (Send from (response (asked_by h) r) ∷ []) fine (
        record {
          request = λ g a is. none_at (no_request (asked_by h) r) is;
          answer = λ a q is. each r refl q (ap (λ (z : Asked × Reply). z.1) (some_is (sym (reads_back (asked_by h) r) ∙ is)));
        },
        tt,
      ),
    )

    plain : {Z : Type 0} (say : Z → Reply) → ((q : Z) → IsOther (say q)) → (o : Option Z) (r : Reply) → option_map say o ≡ Some r →
        (q : BoundReply) → r ≡ Reply.Bound q → S.answer q
    plain say other None r is q same = none_at refl is
    plain say other (Some z) r is q same = absurd (other z q (some_is is ∙ same))

    with_it : (f : Naming → Handled) (o : Option Naming) → ((n : Naming) → o ≡ Some n → By (f n)) → By (if_naming f o)
    with_it f None each = tt
    with_it f (Some n) each = each n refl

    -- naming alone changes
    named_so : (n : Naming) → N n → HasParts (with_naming t n)
    named_so n so = (its.0, λ o is. subst N (some_is is) so)

    asked : (h : Head) (a : Ask) → By (serve k d t from h a)
    asked h (ask.Bind x include avoid) = with_it _ t.naming (λ n at. let s = naming.bind h.path x include avoid d.names n in
        let g = is_given.binds h.path x include avoid d.names n (its.1 n at) in
        answered h (with_naming t s.part) s.outs (option_map Reply.Bound s.reply) (named_so s.part g.0)
        (naming_fine s.outs (bind_own h.path x include avoid d.names n)) (λ r is q same. bounds s.reply g.1 r is q same))
      where
        bound_is : (b r : BoundReply) → Reply.Bound b ≡ Reply.Bound r → b ≡ r
        bound_is b r e = let same : ◌≡◌ {A = Reply} (Reply.Bound b) (Reply.Bound r) = e in cc

        bounds : (o : Option BoundReply) → IfSome o S.answer → (r : Reply) → option_map Reply.Bound o ≡ Some r → (q : BoundReply) →
            r ≡ Reply.Bound q → S.answer q
        bounds None so r is q same = none_at refl is
        bounds (Some b) so r is q same = subst S.answer (bound_is b q (some_is is ∙ same)) so
    asked h (ask.Load x) = load (holder_of (object x) d.store)
      where
        other : (r : Reply) → IsOther r → (z : Reply) → Some r ≡ Some z → (q : BoundReply) → z ≡ Reply.Bound q → S.answer q
        other r apart z is q same = absurd (apart q (some_is is ∙ same))

        held : (s : Option ObjectState) → By (load_held from h t s)
        held None = tt
        held (Some s) = answered h t (Do Look ∷ []) (Some (Reply.Loaded (loaded.State s))) its (tt, tt)
            (other (Reply.Loaded (loaded.State s)) (λ q e. cc e))

        load : (o : Option Uid) → By (load_by x d.store from h t o)
        load (Some u) =
            answered h t [] (Some (Reply.Loaded (loaded.InDoubt u))) its tt (other (Reply.Loaded (loaded.InDoubt u)) (λ q e. cc e))
        load None = held (held_at (object x) d.store)
    asked h (ask.Activate b st) = let r = server.activate k h.path b st t.server in
        answered h (with_server t r.part) r.outs (option_map Reply.Activated r.reply) its
        (server_fine k r.outs (activate_own k h.path b st t.server)) (plain Reply.Activated (λ i q e. cc e) r.reply)
    asked h (ask.Record x b i g) = with_it _ t.naming (λ n at. let r = naming.note h.path x b i g n in answered h (with_naming t r.part)
        r.outs (option_map Reply.Noted r.reply) (named_so r.part (is_given.notes h.path x b i g n (its.1 n at)))
        (naming_fine r.outs (note_own h.path x b i g n)) (plain Reply.Noted (λ i q e. cc e) r.reply))
    asked h (ask.Invoke x b i ends o) = let r = server.invoke k h x b i ends o t.server in
        answered h (with_server t r.part) r.outs (option_map Reply.Invoked r.reply) its
        (server_fine k r.outs (invoke_own k h x b i ends o t.server)) (plain Reply.Invoked (λ i q e. cc e) r.reply)
    asked h (ask.Vote i ties ends) = let r = server.vote k h.path i ties ends t.server in
        answered h (with_server t r.part) r.outs (option_map Reply.Voted r.reply) its
        (server_fine k r.outs (vote_own k h.path i ties ends t.server)) (plain Reply.Voted (λ i q e. cc e) r.reply)
    asked h (ask.Prepare states) = each (is_prepared (actor h.path) d.store)
      where
        one : (outs : List Effect) (p : PreparedReply) → Fine outs → By (sends_answer from h t outs (Some (Reply.Prepared p)))
        one outs p fine = answered h t outs (Some (Reply.Prepared p)) its fine (λ r is q same. absurd (other p q (some_is is ∙ same)))
          where
            other : (p : PreparedReply) (q : BoundReply) → Reply.Prepared p ≡ Reply.Bound q → ⊥
            other p q e = cc e

        new : (a : Prep) → By (prepare_by k states from h t a)
        new Ready = one (Do Look ∷ Do (Prepare role.Store (actor h.path) states) ∷ Say (body.Prepared k (actor h.path) role.Store) ∷ [])
            prepared.Yes (tt, (tt, (tt, tt)))
        new (Already u) = tt
        new (Old u v) = one (Do Look ∷ []) (prepared.Old u.num v) (tt, tt)
        new (InDoubt u holder) = one (Do Look ∷ []) (prepared.InDoubt u.num holder) (tt, tt)

        each : (b : Bool) → By (cond b (sends_answer from h t [] (Some (Reply.Prepared prepared.Yes)))
            (prepare_by k states from h t (prepare_answer (actor h.path) states d.store)))
        each true = one [] prepared.Yes tt
        each false = new (prepare_answer (actor h.path) states d.store)
    asked h (ask.Confirm grants excluded included) =
        with_it _ t.naming (λ n at. let r = confirm h.path grants excluded included d.names n in answered h (with_naming t r.part) r.outs
        (option_map Reply.Confirmed r.reply) (named_so r.part (is_given.confirms h.path grants excluded included d.names n (its.1 n at)))
        (naming_fine r.outs (confirm_own h.path grants excluded included d.names n)) (plain Reply.Confirmed (λ i q e. cc e) r.reply))

    coord_left : (r : Served Coord (Unit {0})) → Q r.part → Fine r.outs → By (coord_heard t r)
    coord_left r so fine = by r.reply
      where
        by : (o : Option (Unit {0})) → By (by_reply (with_coord t r.part) r.outs o)
        by None = tt
        by (Some u) = ((so, its.1), fine)

    ends_left : (ack : Bool) (ends : List (Uid × End)) (o : Option (Uid × End)) → By (handle_ends k d t from ack ends o)
    ends_left ack ends None = (its, tt)
    ends_left ack ends (Some e) =
        let s = server.told k ends t.server in
        let o = naming_told e.0 e.1 d.names t.naming in (
          (its.0, told_so t.naming its.1),
          both (store_told k e.0 e.1 d.store ++ o.outs ++ s.outs) (ack_told from e.0 ack) (both (store_told k e.0 e.1 d.store ++ o.outs)
              s.outs (both (store_told k e.0 e.1 d.store) o.outs (stored (is_prepared e.0 d.store) e.1) (named t.naming))
              (server_fine k s.outs (ends_own k ends t.server))) (acked_told ack),
        )
      where
        told_so : (o : Option Naming) → ((n : Naming) → o ≡ Some n → N n) → (n : Naming) → (naming_told e.0 e.1 d.names o).part ≡ Some n →
            N n
        told_so None so n is = none_at refl is
        told_so (Some q) so n is = subst N (some_is is) (is_given.tells e.0 e.1 d.names q (so q refl))

        stored : (b : Bool) (how : End) → Fine (cond b (end_states k e.0 how) [])
        stored false how = tt
        stored true ending.Commit = (tt, (tt, tt))
        stored true ending.Abort = (tt, (tt, tt))

        named : (o : Option Naming) → Fine (let r = naming_told e.0 e.1 d.names o in r.outs)
        named None = tt
        named (Some n) = naming_fine (naming.told e.0 e.1 d.names n).outs (told_own e.0 e.1 d.names n)

        acked_told : (b : Bool) → Fine (ack_told from e.0 b)
        acked_told true = (quiet (message.Acked (record { act = e.0 })) refl refl, tt)
        acked_told false = tt

    module _ (hears : (a : Asked) (r : Reply) → answers m ≡ Some (a, r) →
        (let q = heard from a r d.intents t.coord in Q q.part × Fine q.outs)) (acks : (u : Uid) → (let q = acked from u d.intents t.coord in
        Q q.part × Fine q.outs)) (asks_query : (u : Uid) → Fine (answer_query from u d.intents t.coord)) where
      other : (m : Message) → By (handle_other k d t from m)
      other (message.Told m) = ends_left m.ack m.ends (last_end m.ends)
      other (message.Acked m) = let f = acks m.act in coord_left (acked from m.act d.intents t.coord) f.0 f.1
      other (message.Query m) = (its, asks_query m.act)
      other (message.Hello m) = ((its.0, hello_so t.naming its.1), queries (filter (is_earlier m.node m.inc) (holders d t)))
        where
          hello_so : (o : Option Naming) → ((n : Naming) → o ≡ Some n → N n) → (n : Naming) → naming_hello m.node m.inc o ≡ Some n → N n
          hello_so None so n is = none_at refl is
          hello_so (Some q) so n is = subst N (some_is is) (is_given.hellos m.node m.inc q (so q refl))
      other (message.Bind m) = tt
      other (message.Bound m) = tt
      other (message.Load m) = tt
      other (message.Loaded m) = tt
      other (message.Activate m) = tt
      other (message.Activated m) = tt
      other (message.RecordMsg m) = tt
      other (message.Recorded m) = tt
      other (message.Invoke m) = tt
      other (message.Invoked m) = tt
      other (message.Vote m) = tt
      other (message.Voted m) = tt
      other (message.Prepare m) = tt
      other (message.Prepared m) = tt
      other (message.Confirm m) = tt
      other (message.Confirmed m) = tt

      handled : (v : Parts) (outs : List Effect) → handle k d t from m ≡ Took v outs → HasParts v × Fine outs
      handled v outs is = subst By is (by (asks m) refl)
        where
          answer : (o : Option (Asked × Reply)) → answers m ≡ o → By (handle_answer k d t from m o)
          answer None none = other m
          answer (Some a) at = let f = hears a.0 a.1 at in coord_left (heard from a.0 a.1 d.intents t.coord) f.0 f.1

          by : (o : Option (Head × Ask)) → asks m ≡ o → By (handle_ask k d t from m o)
          by None none = answer (answers m) refl
          by (Some a) at = asked a.0 a.1

  -- ---- one node apart from the others

  record Around (k : ℕ) (M : Seen) : Type 0 where
    nodes : (j : ℕ) (n : Node) (t : Parts) → (j ≡ k → ⊥) → M.nodes j ≡ Some n → n.live ≡ Some t →
        Q t.coord × ((o : Naming) → t.naming ≡ Some o → N o)
    sent : (p : Post) → In p M.sent → Claims p.message

  stands_at : (k : ℕ) (d : Disk) (live : Option Parts) (M : Seen) →
      (let S = at k d live M in S.nodes k) ≡ Some (record { number = k; disk = d; live = live })
  stands_at k d live M = λ i. cond (same_number k i) (Some (record { number = k; disk = d; live = live })) (M.nodes k)

  around : (k : ℕ) (d : Disk) (live : Option Parts) (M : Seen) → AreSo (at k d live M) → Around k M
  around k d live M all = record {
    nodes = λ j n t apart is up_it. all.nodes j n t
        ((λ i. cond (other_number j k apart i) (Some (record { number = k; disk = d; live = live })) (M.nodes j)) ∙ is) up_it;
    sent = λ p i. record { request = all.requests p i; answer = all.answered p i };
  }

  own : (k : ℕ) (d : Disk) (t : Parts) (M : Seen) → AreSo (up k d t M) → HasParts t
  own k d t M all = all.nodes k (record { number = k; disk = d; live = Some t }) t (stands_at k d (Some t) M) refl

  back : (k : ℕ) (d : Disk) (live : Option Parts) (M : Seen) → ((t : Parts) → live ≡ Some t → HasParts t) → Around k M →
      AreSo (at k d live M)
  back k d live M its o = record {
    nodes = λ j n t is up_it. by j n t (j == k) refl is up_it;
    requests = λ p i. let f = o.sent p i in f.request;
    answered = λ p i. let f = o.sent p i in f.answer;
  }
    where
      x : Node
      x = record { number = k; disk = d; live = live }

      by : (j : ℕ) (n : Node) (t : Parts) (b : Bool) → (j == k) ≡ b → cond b (Some x) (M.nodes j) ≡ Some n → n.live ≡ Some t → HasParts t
      by j n t true same is live_is = let here : x ≡ n = some_is is in its t (ap (λ (z : Node). z.live) here ∙ live_is)
      by j n t false apart is live_is =
          o.nodes j n t (λ same. let no_way : true ≡ false = sym (ap (λ z. z == k) same ∙ same_number k) ∙ apart in cc no_way) is live_is

  quietly : (e : ℕ) (bs : List Body) (M : Seen) → AreSo M → AreSo (said e bs M)
  quietly e bs M all = record { nodes = all.nodes; requests = all.requests; answered = all.answered }

  down_so : (e k : ℕ) (d : Disk) (M : Seen) → Around k M → AreSo (halted e k d M)
  down_so e k d M o = quietly e (body.Halted k ∷ []) (down k d M) (back k d None M (λ t is. none_at refl is) o)

  walk : (e k : ℕ) (v : Parts) (outs : List Effect) (d : Disk) (M : Seen) → Fine outs → Around k M → HasParts v →
      Walks AreSo e k outs (Up AreSo k v) d M
  walk e k v [] d M fine o its = back k d (Some v) M (λ t is. subst HasParts (some_is is) its) o
  walk e k v (Do w ∷ es) d M fine o its = (λ how. down_so e k (stopped how w d) M o, walk e k v es (worked w d) M fine.1 o its)
  walk e k v (Say b ∷ es) d M fine o its = walk e k v es d (said e (b ∷ []) M) fine.1 (record { nodes = o.nodes; sent = o.sent }) its
  walk e k v (Send to m ∷ es) d M fine o its =
      λ more quiet_lines. walk e k v es d (said e more (posted (record { from = k; to = to; message = m }) M)) fine.1
      (record {
        nodes = o.nodes;
        sent = λ p i. ⊎_elim (λ same. subst (λ (z : Post). Claims z.message) same fine.0) (λ old. o.sent p old) i;
      }) its

  -- ---- a node of a good world

  module _ (begun : List Action) (e k : ℕ) (d : Disk) (t : Parts) (M : Seen) (good : IsGoodOf begun (up k d t M))
      (bound_all : BindsAreKnown (up k d t M)) (all : AreSo (up k d t M)) where
    abbrev paths : Paths
    paths = paths_of begun

    tree : IsTree paths
    tree = begun_tree begun good.begun

    its_up : IsUp begun M.sent M.labels k d.inc t
    its_up = let p = good.places k (record { number = k; disk = d; live = Some t }) (stands_at k d (Some t) M) in p.memory

    its_coord : IsGoodCoord begun paths t.coord
    its_coord = let u = its_up in let g = u.good paths tree (path_found begun good.begun) in g.coord

    abbrev its_place : Place M.sent k t.coord
    its_place = let u = its_up in record {
      actions = begun;
      begun = good.begun;
      good = its_coord;
      numbered = u.numbered;
      faithful = u.faithful;
      binds = bound_all.nodes k (record { number = k; disk = d; live = Some t }) t (stands_at k d (Some t) M) refl;
    }

    o : Around k M
    o = around k d (Some t) M all

    its : HasParts t
    its = own k d t M all

    message_walk : (from : ℕ) (m : Message) (v : Parts) (outs : List Effect) → In (record { from = from; to = k; message = m }) M.sent →
        handle k d t from m ≡ Took v outs → Walks AreSo e k outs (Up AreSo k v) d M
    message_walk from m v outs there is = walk e k v outs d M h.1 o h.0
      where
        u : IsUp begun M.sent M.labels k d.inc t
        u = its_up

        works : length t.coord.doings ≡ length t.coord.tree.branches
        works = let f = u.faithful in f.works

        h : HasParts v × Fine outs
        h = handled k d t from m its
            (λ a r at_r. let w = well_heard begun paths tree from a r d.intents t.coord its_coord in let q = kept.hears M.sent k t.coord
            its_place from a r d.intents (answers_fit begun e k d t M good bound_all from m there a r at_r) (λ b same.
            all.answered (record { from = from; to = k; message = m }) there a b (at_r ∙ ap (λ z. Some (a, z)) same)) its.0 in (
              q,
              sent_fine (heard from a r d.intents t.coord).part (heard from a r d.intents t.coord).outs q w.1
                  (heard_so begun paths tree t.coord its_coord u.numbered works from a r d.intents),
            ))
            (λ w. let g = well_acked begun paths tree from w d.intents t.coord in
            let q = kept.acks M.sent k t.coord its_place from w d.intents its.0 in (
              q,
              sent_fine (acked from w d.intents t.coord).part (acked from w d.intents t.coord).outs q g.1
                  (acked_so from w d.intents t.coord),
            ))
            (λ w. sent_fine t.coord (answer_query from w d.intents t.coord) its.0 (true_query begun paths tree from w d.intents t.coord
            (tops_of_disk e k d t M (begun, good)) (own_of_disk e k d t M (begun, good)) its_coord)
            (query_so t.coord from w d.intents t.coord)) v outs is

    act_walk : (hd : Header) (i : Input) → is_act i ≡ true → refusal_up hd i t.coord ≡ None →
        Walks AreSo e k (let r = acts i d.intents t.coord in r.outs) (Up AreSo k (with_coord t (acts i d.intents t.coord).part)) d M
    act_walk hd i is free =
        let r = acts i d.intents t.coord in
        let u = its_up in
        let works = (let f = u.faithful in f.works) in
        let w = well_acts begun paths tree d.intents t.coord its_coord works hd i free other in
        let q = kept.does M.sent k t.coord its_place d.intents hd i free other its.0 in
        walk e k (with_coord t r.part) r.outs d M
        (sent_fine r.part r.outs q w.1 (acts_so begun paths tree t.coord its_coord u.numbered works i d.intents other)) o (q, its.1)
      where
        other : (l : Label) (how : Kind) (parent : Option Label) → i ≢ input.Begin l how parent
        other l how parent same = let no_way : false ≡ true = sym (ap is_act same) ∙ is in cc no_way

    tick_walk : Walks AreSo e k (tick_outs (record { number = k; disk = d; live = Some t }) t)
        (Up AreSo k (with_coord t (again_all t.coord.doings t.coord).part)) d M
    tick_walk =
        let r = again_all t.coord.doings t.coord in
        let u = its_up in
        let w = well_again begun paths tree t.coord its_coord in
        let tolds = tolds_again t.coord.telling in
        let works = (let f = u.faithful in f.works) in
        let q = kept.asks M.sent k t.coord its_place its.0 in
        walk e k (with_coord t r.part) (tick_outs (record { number = k; disk = d; live = Some t }) t) d M
        (both (r.outs ++ tolds) (map query_about (holders d t))
        (both r.outs tolds (sent_fine r.part r.outs q w.1 (again_so begun paths tree t.coord its_coord u.numbered works))
        (sent_fine t.coord tolds its.0 (true_records t.coord u.faithful) (tolds_so t.coord t.coord.telling))) (queries (holders d t)))
        o (q, its.1)

    begin_walk : (l : Label) (how : Kind) (parent : Option Label) → MayBegin begun how (parent_of parent t.coord) → begin_refusal how
        t.coord parent ≡ None → (g : Labelled) → Walks AreSo e k (let r = begin_action l how parent (parent_of parent t.coord) t.coord in
        r.outs) (Up AreSo k (with_coord t (begin_action l how parent (parent_of parent t.coord) t.coord).part)) d (given l g M)
    begin_walk l how parent may none g =
        let r = begin_action l how parent (parent_of parent t.coord) t.coord in
        walk e k (with_coord t r.part) r.outs d (given l g M) (tt, tt) (let z = o in
        record { nodes = z.nodes; sent = z.sent }) (kept.begins M.sent k t.coord its_place l how parent may none its.0, its.1)

  -- ---- restarts, and at first

  new_parts : (k inc : ℕ) (d : Disk) → HasParts (parts_in k inc d)
  new_parts k inc d = (kept.new k inc d.intents, λ n is. by (k == 1) n is)
    where
      by : (b : Bool) (n : Naming) → cond b (Some (recovered_naming inc d.names)) None ≡ Some n → N n
      by true n is = subst N (some_is is) (is_given.starts inc d.names)
      by false n is = none_at refl is

  restart_fine : (hd : Header) (k inc : ℕ) (d : Disk) → Fine (restart_outs hd k inc d)
  restart_fine hd k inc d =
      both four hellos (both three asking (both two tolds (both one records (tt, (tt, (tt, (tt, back_so (naming_at k inc d.names)))))
      (tt, all_map FineEffect (λ (e : Uid × Intent). Say (body.Recovered k e.0)) d.intents (λ e. tt))) (all_flat FineEffect (λ (e : Uid ×
      Intent). tell_all e.1.root true ((e.0, ending.Commit) ∷ []) e.1.nodes) d.intents (λ e. all_map FineEffect (tell e.1.root true
      ((e.0, ending.Commit) ∷ [])) e.1.nodes (λ n. record { request = λ h a is. none_at refl is; answer = λ a r is. none_at refl is }))))
      (queries (uid_set (prepared_actions d.store ++ prepared_actions d.names))))
      (all_map FineEffect (hello_to k inc) (without_number k (numbers_to hd.nodes))
      (λ w. record { request = λ h a is. none_at refl is; answer = λ a r is. none_at refl is }))
    where
      back_so : (o : Option Naming) → Fine (naming_back o)
      back_so None = tt
      back_so (Some o) = all_flat FineEffect (λ (e : ℕ × Named). back_lines e.1) o.objects (λ e. all_map FineEffect _ e.1.rows (λ r. tt))

      one : List Effect
      one = Do Look ∷ Do (PutInc inc) ∷ Say (body.Up k inc) ∷ Do Look ∷ naming_back (naming_at k inc d.names)

      records : List Effect
      records = Do Look ∷ recovered_records k d.intents

      two : List Effect
      two = one ++ records

      tolds : List Effect
      tolds = tolds_again d.intents

      three : List Effect
      three = two ++ tolds

      asking : List Effect
      asking = map query_about (uid_set (prepared_actions d.store ++ prepared_actions d.names))

      four : List Effect
      four = three ++ asking

      hellos : List Effect
      hellos = map (hello_to k inc) (without_number k (numbers_to hd.nodes))

  first_so : (hd : Header) → IsAtStarts hd AreSo
  first_so hd st formed = record {
    nodes = λ j n t is live. subst HasParts (first_up hd st j n t is live) (new_parts j (st.incs j + 1) (disk_by hd st j));
    requests = λ p there. absurd there;
    answered = λ p there. absurd there;
  }

  -- ---- all runs

  abbrev pub IsSo : Seen → Type 0
  IsSo M = (IsGood M × BindsAreKnown M) × AreSo M

  pub keeps_so : (hd : Header) → Keeps hd IsSo
  keeps_so hd = record {
    quiet = λ e bs M quiet_lines p. (bound_too.quiet e bs M quiet_lines p.0, quietly e bs M p.1);
    stop = λ e k d live M p. (bound_too.stop e k d live M p.0, down_so e k d M (around k d live M p.1));
    message = λ e k d t v from m outs M p there meant is. together e k outs v d M (bound_too.message e k d t v from m outs M p.0 there meant
        is) (let h = p.0 in message_walk h.0.0 e k d t M h.0.1 h.1 p.1 from m v outs there is);
    act = λ e k d t i M is free p. let did = acts i d.intents t.coord in together e k did.outs (with_coord t did.part) d M
        (bound_too.act e k d t i M is free p.0) (let h = p.0 in act_walk h.0.0 e k d t M h.0.1 h.1 p.1 hd i is free);
    begin = λ e k d t l how parent M new may free p. let did = begin_action l how parent (parent_of parent t.coord) t.coord in
        let g : Labelled = record { node = k; serial = is_serial how } in
        together e k did.outs (with_coord t did.part) d (given l g M) (bound_too.begin e k d t l how parent M new may free p.0)
        (let h = p.0 in begin_walk h.0.0 e k d t M h.0.1 h.1 p.1 l how parent (may_begin e k d t l how parent M new may free h.0) free g);
    tick = λ e k d t M p. together e k (tick_outs (record { number = k; disk = d; live = Some t }) t) (with_coord t (again_all
        t.coord.doings t.coord).part) d M (bound_too.tick e k d t M p.0) (let h = p.0 in tick_walk h.0.0 e k d t M h.0.1 h.1 p.1);
    restart = λ e k d M p. together e k (restart_outs hd k (d.inc + 1) d) (parts_in k (d.inc + 1) d) d M (bound_too.restart e k d M p.0)
        (walk e k (parts_in k (d.inc + 1) d) (restart_outs hd k (d.inc + 1) d) d M (restart_fine hd k (d.inc + 1) d) (around k d None M p.1)
        (new_parts k (d.inc + 1) d));
    first = λ st formed. (bound_too.first st formed, first_so hd st formed);
  }
    where
      bound_too : Keeps hd (λ M. IsGood M × BindsAreKnown M)
      bound_too = binds_keep hd

      together : (e k : ℕ) (outs : List Effect) (v : Parts) (d : Disk) (M : Seen) → Walks (λ M. IsGood M × BindsAreKnown M) e k outs
          (Up (λ M. IsGood M × BindsAreKnown M) k v) d M → Walks AreSo e k outs (Up AreSo k v) d M → Walks IsSo e k outs (Up IsSo k v) d M
      together e k outs v d M a b =
          walks_both (λ M. IsGood M × BindsAreKnown M) AreSo e k outs (Up (λ M. IsGood M × BindsAreKnown M) k v) (Up AreSo k v) d M a b
