-- Who takes part in commits is known, in every run.
use Rattle.arj_law_parts.proofs.Words
use Words.{node_by, ◌≡◌, ◌≢◌, ◌⊎◌, ◌<◌, ◌∙◌, ◌+◌, ◌==◌, ◌||◌, arith, ℕ, zero, suc, Bool, true, false, cond, List, [], ◌∷◌, ◌++◌, map}
use Words.{filter, length}
use Words.{refl, sym, ap, subst, inl, inr, ⊎_elim, Option, Some, None, ⊤, is_some, option_map, AllByRecursion, list_all}
use Words.{and_parts, eqb-true, or_cases, Ask, Asked, Body, End, Head, Header, Kind, Label, Message, ObjectState, Uid, asks, is_on, object}
use Words.{uids_of, Reply, actor, answers, asked_by, last_end, response, again_all, begin_action, heard, Confirming, Machine, Preparing}
use Words.{Voting, ask_of, left_of, plan_of, back_lines, confirm, Committing, Coord, Doing, doing_of, new_coord, Already, Disk, Do, Effect}
use Words.{InDoubt, Intent, Look, Old, Prep, Prepare, PutInc, Ready, Say, Send, Served, held_at, holder_of, is_prepared, prepare_answer}
use Words.{stopped, worked, acked, tick_outs, Named, Naming, Handled, Parts, Took, Void, ack_told, by_reply, coord_heard, end_states}
use Words.{handle, handle_answer, handle_ask, handle_ends, handle_other, holders, if_naming, is_earlier, load_by, load_held, naming_told}
use Words.{prepare_by, prepared_actions, query_about, sends_answer, serve, store_told, with_coord, with_naming, with_server, has, uid_set}
use Words.{without_number, AreAll, is_naming_effect, is_server_effect, Input, Node, acts, hello_to, naming_at}
use Words.{naming_back, numbers_to, parent_of, parts_in, recovered_records, refusal_up, restart_outs, tolds_again, Branch, at_place}
use Words.{branch_of, is_own, activate_own, bind_own, confirm_own, ends_own, invoke_own, note_own, told_own}
use Words.{vote_own, Post, Seen, is_serial}
use Words.ask
use Words.body
use Words.ending
use Words.loaded
use Words.message
use Words.prepared
use Words.role
use Words.naming
use Words.server
use Words.input
use Rattle.arj_law_lock_view.proofs.Terms
use Terms.{IsAtStarts, disk_by, first_up, Action, action_of, paths_of, GoesOn, IsBusy, IsGoodCoord, IsVoting, IsTree, Paths, begun_tree}
use Terms.{on_own, path_found, good_acts}
use Terms.{doing_by, good_acked, good_again, good_heard, all_flat, all_map, well_acked, well_acts, well_again, well_heard, IsGoodOf, IsUp}
use Terms.{other_number, same_number, is_act, at, down, given, posted, said, up, Up, Walks, halted, AllQuiet, no_request, begins_in}
use Terms.{AreLeft, IsAskedNow, IsLeft, IsPart, IsSought, KnowsParted, asks_part, IsTopOf}
use Rattle.arj_law_lock_view.proofs.facts
use facts.{PartSteps.StaysPart, UpperWalks.top_more}
use facts.LeftCoords.{left_acked, left_acts, left_again, left_begins, left_heard}
use facts.PartCoords.{part_acked, part_acts, part_again, part_begins, part_heard}
use facts.PartSends.{AllSeek, acked_seeks, acts_seeks, again_seeks, heard_seeks, query_seeks, seek_both, seek_quiet}
use Rattle.arj_law_lock_view.specs.facts.Parted.{AreOneConfirm, HandlersKeepParted, KnowsParts, is_confirm}
use Rattle.arj_law_parts.proofs.parts.Settled.{node_on}
use Rattle.arj_law_parts.specs.moves.Seen.{In}
use Rattle.arj_law_runs.proofs.calls.{CoordOuts.quiet_again, CoordSends.IsQuiet}
use Rattle.arj_law_runs.specs.kept.Worlds.{IsMemory}

some_is : {A : Type 0} {a b : A} → Some a ≡ Some b → a ≡ b
some_is {A} {a} {b} is = let k : ◌≡◌ {A = Option A} (Some a) (Some b) = is in cc

none_at : {A P : Type 0} {o : Option A} {x : A} → o ≡ None → o ≡ Some x → P
none_at {A} {P} {o} {x} none is = let no_way : ◌≡◌ {A = Option A} None (Some x) = sym none ∙ is in absurd (cc no_way)

never : {A : Type 0} {b : Bool} → b ≡ true → b ≡ false → A
never holds fails = let no_way : true ≡ false = sym holds ∙ fails in absurd (cc no_way)

machine_is : {m k : Machine} → Committing m ≡ Committing k → m ≡ k
machine_is is = cc is

-- ---- one message more

-- a coordinator of this node, from which the message goes: it is good, and waits for servers of its plans
pub record IsSender (begun : List Action) (k : ℕ) (e : Coord) : Type 0 where
  pub paths : Paths
  pub good : IsGoodCoord begun paths e
  pub node : e.tree.node ≡ k
  pub left : AreLeft e

module _ (begun : List Action) (k : ℕ) (e : Coord) (its : IsSender begun k e) where
  voting : (u : Uid) (d : Doing) (m : Machine) → doing_of u e ≡ Some d → d.now ≡ Committing m → IsVoting e.tree u (plan_of m)
  voting u d m found now = subst (IsBusy e.tree u) now (its.good.busy u d found)

  -- it is by a top of this node
  sender_is : (u : Uid) (d : Doing) → doing_of u e ≡ Some d → u.node ≡ k
  sender_is u d found =
      eqb-true u.node e.tree.node (and_parts (u.node == e.tree.node) (u.inc == e.tree.inc) (doing_by u e d found).0).0 ∙ its.node

  top_is : (u : Uid) (d : Doing) (m : Machine) → doing_of u e ≡ Some d → d.now ≡ Committing m → IsTopOf begun u
  top_is u d m found now =
      let v = voting u d m found now in
      let b = v.asking.branch in (
        action_of b,
        its.good.known u b v.asking.found,
        its.good.tree.lists.places u b v.asking.found,
        v.top b v.asking.found,
        v.asking.unserial,
      )

  -- and part of the commit that asks
  part_is : (to : ℕ) (h : Head) (a : Ask) → asks_part a ≡ true → IsAskedNow e to h a → IsPart e (actor h.path) to a
  part_is to h a part q = inl (record {
    doing = q.doing;
    machine = q.machine;
    works = q.works;
    now = q.now;
    sought = subst (IsSought q.machine to) (sym q.same) (by q.machine q.now (ap asks_part (sym q.same) ∙ part) q.left);
  })
    where
      one : (m : ℕ) → ((1 == m) || false) ≡ true → m ≡ 1
      one m is = sym (eqb-true 1 m (⊎_elim (λ yes. yes) (λ no. absurd (cc no)) (or_cases (1 == m) false is)))

      by : (m : Machine) → q.doing.now ≡ Committing m → asks_part (ask_of m to) ≡ true → has (left_of m) to ≡ true →
          IsSought m to (ask_of m to)
      by (Voting p ns) now is left = subst IsLeft now (its.left (actor h.path) q.doing q.works) to left
      by (Preparing p ns) now is left = absurd (cc is)
      by (Confirming p) now is left = (one to left, refl)

  -- all Confirms of its top are one
  same_confirm : (sent : List Post) → KnowsParts sent e → (to : ℕ) (h : Head) (a : Ask) → IsAskedNow e to h a → is_confirm a ≡ true
      → (q : Post) (j : Head) (b : Ask) → In q sent → asks q.message ≡ Some (j, b) → is_confirm b ≡ true → actor h.path ≡ actor j.path →
      a ≡ b
  same_confirm sent knows to h a f confirms q j b there is too same = by (knows q j b there is (part_of b too) own)
    where
      part_of : (a : Ask) → is_confirm a ≡ true → asks_part a ≡ true
      part_of (ask.Confirm grants excluded included) it = refl
      part_of (ask.Vote i ties ends) it = refl
      part_of (ask.Bind x include avoid) it = absurd (cc it)
      part_of (ask.Load x) it = absurd (cc it)
      part_of (ask.Activate c st) it = absurd (cc it)
      part_of (ask.Record x c i g) it = absurd (cc it)
      part_of (ask.Invoke x c i ends op) it = absurd (cc it)
      part_of (ask.Prepare states) it = absurd (cc it)

      own : is_own (actor j.path) e.tree ≡ true
      own = ap (λ u. is_own u e.tree) (sym same) ∙ (doing_by (actor h.path) e f.doing f.works).0

      v : IsVoting e.tree (actor h.path) (plan_of f.machine)
      v = voting (actor h.path) f.doing f.machine f.works f.now

      confirmed : (m : Machine) (c : Ask) → is_confirm c ≡ true → IsSought m q.to c → is_confirm (ask_of m to) ≡ true → ask_of m to ≡ c
      confirmed (Confirming p) (ask.Confirm grants excluded included) it sought asked = sym sought.1
      confirmed (Voting p ns) c it sought asked = absurd (cc asked)
      confirmed (Preparing p ns) c it sought asked = absurd (cc asked)
      confirmed (Confirming p) (ask.Vote i ties ends) it sought asked = absurd (cc it)
      confirmed (Confirming p) (ask.Bind x include avoid) it sought asked = absurd (cc it)
      confirmed (Confirming p) (ask.Load x) it sought asked = absurd (cc it)
      confirmed (Confirming p) (ask.Activate c st) it sought asked = absurd (cc it)
      confirmed (Confirming p) (ask.Record x c i g) it sought asked = absurd (cc it)
      confirmed (Confirming p) (ask.Invoke x c i ends op) it sought asked = absurd (cc it)
      confirmed (Confirming p) (ask.Prepare states) it sought asked = absurd (cc it)

      by : IsPart e (actor j.path) q.to b → a ≡ b
      by (inr h2) = never h2.ended (ap (λ (x : Branch). is_some x.ended)
          (some_is (sym h2.found ∙ ap (λ u. branch_of u e.tree) (sym same) ∙ v.asking.found)) ∙ v.asking.opened)
      by (inl s) =
          let one : s.machine ≡ f.machine = machine_is
          (sym s.now ∙ ap (λ (x : Doing). x.now) (some_is (sym s.works ∙ ap (λ u. doing_of u e) (sym same) ∙ f.works)) ∙ f.now) in
          f.same ∙ confirmed f.machine b too (subst (λ (m : Machine). IsSought m q.to b) one s.sought)
          (ap is_confirm (sym f.same) ∙ confirms)

-- ---- what a message makes of the coordinator

module _ (Q : Coord → Type 0) (k : ℕ) (d : Disk) (t : Parts) (from : ℕ) (m : Message) (its : Q t.coord) where
  abbrev By : Handled → Type 0
  By (Void outs) = ⊤
  By (Took v outs) = Q v.coord × AllSeek v.coord outs

  quiet_both : (xs ys : List Effect) → AllQuiet xs → AllQuiet ys → AllQuiet (xs ++ ys)
  quiet_both [] ys a b = b
  quiet_both (x ∷ xs) ys a b = (a.0, quiet_both xs ys a.1 b)

  server_quiet : (n : ℕ) (es : List Effect) → AreAll (is_server_effect n) es → AllQuiet es
  server_quiet n [] own = tt
  server_quiet n (Say b ∷ es) own =
      (tt, server_quiet n es (and_parts (is_server_effect n (Say b)) (list_all (is_server_effect n) es) own).1)
  server_quiet n (Send to z ∷ es) own = absurd (cc own)
  server_quiet n (Do w ∷ es) own = absurd (cc own)

  naming_quiet : (es : List Effect) → AreAll is_naming_effect es → AllQuiet es
  naming_quiet [] own = tt
  naming_quiet (Say b ∷ es) own = (tt, naming_quiet es (and_parts (is_naming_effect (Say b)) (list_all is_naming_effect es) own).1)
  naming_quiet (Send to z ∷ es) own = absurd (cc own)
  naming_quiet (Do w ∷ es) own = (tt, naming_quiet es (and_parts (is_naming_effect (Do w)) (list_all is_naming_effect es) own).1)

  pub queries_quiet : (us : List Uid) → AllQuiet (map query_about us)
  queries_quiet [] = tt
  queries_quiet (u ∷ us) = (refl, queries_quiet us)

  -- an answer is no request, and the coordinator stays
  answered : (h : Head) (v : Parts) (outs : List Effect) (o : Option Reply) → v.coord ≡ t.coord → AllQuiet outs →
      By (sends_answer from h v outs o)
  answered h v outs None same quiet = tt
  answered h v outs (Some r) same quiet = (
    subst Q (sym same) its,
    seek_quiet v.coord (outs ++ Send from (response (asked_by h) r) ∷ [])
        (quiet_both outs (Send from (response (asked_by h) r) ∷ []) quiet (no_request (asked_by h) r, tt)),
  )

  with_it : (f : Naming → Handled) (o : Option Naming) → ((n : Naming) → By (f n)) → By (if_naming f o)
  with_it f None each = tt
  with_it f (Some n) each = each n

  asked : (h : Head) (a : Ask) → By (serve k d t from h a)
  asked h (ask.Bind x include avoid) = with_it _ t.naming (λ n. let r = naming.bind h.path x include avoid d.names n in answered h
      (with_naming t r.part) r.outs (option_map Reply.Bound r.reply) refl (naming_quiet r.outs (bind_own h.path x include avoid d.names n)))
  asked h (ask.Load x) = load (holder_of (object x) d.store)
    where
      held : (s : Option ObjectState) → By (load_held from h t s)
      held None = tt
      held (Some s) = answered h t (Do Look ∷ []) (Some (Reply.Loaded (loaded.State s))) refl (tt, tt)

      load : (o : Option Uid) → By (load_by x d.store from h t o)
      load (Some u) = answered h t [] (Some (Reply.Loaded (loaded.InDoubt u))) refl tt
      load None = held (held_at (object x) d.store)
  asked h (ask.Activate b st) = let r = server.activate k h.path b st t.server in answered h (with_server t r.part) r.outs
      (option_map Reply.Activated r.reply) refl (server_quiet k r.outs (activate_own k h.path b st t.server))
  asked h (ask.Record x b i g) = with_it _ t.naming (λ n. let r = naming.note h.path x b i g n in
      answered h (with_naming t r.part) r.outs (option_map Reply.Noted r.reply) refl (naming_quiet r.outs (note_own h.path x b i g n)))
  asked h (ask.Invoke x b i ends o) = let r = server.invoke k h x b i ends o t.server in answered h (with_server t r.part) r.outs
      (option_map Reply.Invoked r.reply) refl (server_quiet k r.outs (invoke_own k h x b i ends o t.server))
  asked h (ask.Vote i ties ends) = let r = server.vote k h.path i ties ends t.server in answered h (with_server t r.part) r.outs
      (option_map Reply.Voted r.reply) refl (server_quiet k r.outs (vote_own k h.path i ties ends t.server))
  asked h (ask.Prepare states) = each (is_prepared (actor h.path) d.store)
    where
      new : (a : Prep) → By (prepare_by k states from h t a)
      new Ready = answered h t (Do Look ∷ Do (Prepare role.Store (actor h.path) states) ∷ Say (body.Prepared k (actor h.path) role.Store)
          ∷ []) (Some (Reply.Prepared prepared.Yes)) refl (tt, (tt, (tt, tt)))
      new (Already u) = tt
      new (Old u v) = answered h t (Do Look ∷ []) (Some (Reply.Prepared (prepared.Old u.num v))) refl (tt, tt)
      new (InDoubt u holder) = answered h t (Do Look ∷ []) (Some (Reply.Prepared (prepared.InDoubt u.num holder))) refl (tt, tt)

      each : (b : Bool) → By (cond b (sends_answer from h t [] (Some (Reply.Prepared prepared.Yes)))
          (prepare_by k states from h t (prepare_answer (actor h.path) states d.store)))
      each true = answered h t [] (Some (Reply.Prepared prepared.Yes)) refl tt
      each false = new (prepare_answer (actor h.path) states d.store)
  asked h (ask.Confirm grants excluded included) =
      with_it _ t.naming (λ n. let r = confirm h.path grants excluded included d.names n in answered h (with_naming t r.part) r.outs
      (option_map Reply.Confirmed r.reply) refl (naming_quiet r.outs (confirm_own h.path grants excluded included d.names n)))

  coord_left : (r : Served Coord (Unit {0})) → Q r.part → AllSeek r.part r.outs → By (coord_heard t r)
  coord_left r so seeks = by r.reply
    where
      by : (o : Option (Unit {0})) → By (by_reply (with_coord t r.part) r.outs o)
      by None = tt
      by (Some u) = (so, seeks)

  ends_left : (ack : Bool) (ends : List (Uid × End)) (o : Option (Uid × End)) → By (handle_ends k d t from ack ends o)
  ends_left ack ends None = (its, tt)
  ends_left ack ends (Some e) =
      let s = server.told k ends t.server in
      let o = naming_told e.0 e.1 d.names t.naming in (
        its,
        seek_quiet t.coord (store_told k e.0 e.1 d.store ++ o.outs ++ s.outs ++ ack_told from e.0 ack)
            (quiet_both (store_told k e.0 e.1 d.store ++ o.outs ++ s.outs) (ack_told from e.0 ack)
            (quiet_both (store_told k e.0 e.1 d.store ++ o.outs) s.outs (quiet_both (store_told k e.0 e.1 d.store) o.outs
            (stored (is_prepared e.0 d.store) e.1) (named t.naming)) (server_quiet k s.outs (ends_own k ends t.server))) (acked_told ack)),
      )
    where
      stored : (b : Bool) (how : End) → AllQuiet (cond b (end_states k e.0 how) [])
      stored false how = tt
      stored true ending.Commit = (tt, (tt, tt))
      stored true ending.Abort = (tt, (tt, tt))

      named : (o : Option Naming) → AllQuiet (let r = naming_told e.0 e.1 d.names o in r.outs)
      named None = tt
      named (Some n) = naming_quiet (naming.told e.0 e.1 d.names n).outs (told_own e.0 e.1 d.names n)

      acked_told : (b : Bool) → AllQuiet (ack_told from e.0 b)
      acked_told true = (refl, tt)
      acked_told false = tt

  module _ (hears : (a : Asked) (r : Reply) → answers m ≡ Some (a, r) → (let q = heard from a r d.intents t.coord in Q q.part
      × AllSeek q.part q.outs)) (acks : (u : Uid) → (let q = acked from u d.intents t.coord in Q q.part × AllSeek q.part q.outs)) where
    other : (m : Message) → By (handle_other k d t from m)
    other (message.Told m) = ends_left m.ack m.ends (last_end m.ends)
    other (message.Acked m) = let f = acks m.act in coord_left (acked from m.act d.intents t.coord) f.0 f.1
    other (message.Query m) = (its, query_seeks t.coord from m.act d.intents t.coord)
    other (message.Hello m) = (
      its,
      seek_quiet t.coord (map query_about (filter (is_earlier m.node m.inc) (holders d t)))
          (queries_quiet (filter (is_earlier m.node m.inc) (holders d t))),
    )
    other (message.Bind m) = tt
    other (message.Bound m) = tt
    other (message.Load m) = tt
    other (message.Loaded m) = tt
    other (message.Activate m) = tt
    other (message.Activated m) = tt
    other (message.RecordMsg m) = tt
    other (message.Recorded m) = tt
    other (message.Invoke m) = tt
    other (message.Invoked m) = tt
    other (message.Vote m) = tt
    other (message.Voted m) = tt
    other (message.Prepare m) = tt
    other (message.Prepared m) = tt
    other (message.Confirm m) = tt
    other (message.Confirmed m) = tt

    pub handled : (v : Parts) (outs : List Effect) → handle k d t from m ≡ Took v outs → Q v.coord × AllSeek v.coord outs
    handled v outs is = subst By is (by (asks m) refl)
      where
        answer : (o : Option (Asked × Reply)) → answers m ≡ o → By (handle_answer k d t from m o)
        answer None none = other m
        answer (Some a) at = let f = hears a.0 a.1 at in coord_left (heard from a.0 a.1 d.intents t.coord) f.0 f.1

        by : (o : Option (Head × Ask)) → asks m ≡ o → By (handle_ask k d t from m o)
        by None none = answer (answers m) refl
        by (Some a) at = asked a.0 a.1

-- ---- one node apart from the others

module _ (begun : List Action) where
  record Around (k : ℕ) (M : Seen) : Type 0 where
    senders : (p : Post) (h : Head) (a : Ask) → In p M.sent → asks p.message ≡ Some (h, a) → asks_part a ≡ true →
        (let u = actor h.path in u.node) ≡ p.from
    tops : (p : Post) (h : Head) (a : Ask) → In p M.sent → asks p.message ≡ Some (h, a) → asks_part a ≡ true → IsTopOf begun (actor h.path)
    one : AreOneConfirm M.sent
    coords : (j : ℕ) (n : Node) (t : Parts) → (j ≡ k → ⊥) → M.nodes j ≡ Some n → n.live ≡ Some t →
        KnowsParts M.sent t.coord × AreLeft t.coord
    homes : (j : ℕ) (n : Node) (t : Parts) → (j ≡ k → ⊥) → M.nodes j ≡ Some n → n.live ≡ Some t → t.coord.tree.node ≡ j

  stands_at : (k : ℕ) (d : Disk) (live : Option Parts) (M : Seen) →
      (let S = at k d live M in S.nodes k) ≡ Some (record { number = k; disk = d; live = live })
  stands_at k d live M = λ i. cond (same_number k i) (Some (record { number = k; disk = d; live = live })) (M.nodes k)

  around : (k : ℕ) (d : Disk) (live : Option Parts) (M : Seen) → IsGoodOf begun (at k d live M) → KnowsParted begun (at k d live M) →
      Around k M
  around k d live M good all = record {
    senders = all.senders;
    tops = all.tops;
    one = all.one;
    coords = λ j n t apart is up_it. all.coords j n t (elsewhere j apart ∙ is) up_it;
    homes = λ j n t apart is up_it. let p = good.places j n (elsewhere j apart ∙ is) in
        let u = subst (IsMemory begun M.sent M.labels j n.disk.inc) up_it p.memory in u.node;
  }
    where
      elsewhere : (j : ℕ) → (j ≡ k → ⊥) → (let S = at k d live M in S.nodes j) ≡ M.nodes j
      elsewhere j apart = λ i. cond (other_number j k apart i) (Some (record { number = k; disk = d; live = live })) (M.nodes j)

  back : (k : ℕ) (d : Disk) (live : Option Parts) (M : Seen) → ((t : Parts) → live ≡ Some t → KnowsParts M.sent t.coord × AreLeft t.coord) →
      Around k M → KnowsParted begun (at k d live M)
  back k d live M its o =
      record { senders = o.senders; tops = o.tops; one = o.one; coords = λ j n t is up_it. by j n t (j == k) refl is up_it }
    where
      x : Node
      x = record { number = k; disk = d; live = live }

      by : (j : ℕ) (n : Node) (t : Parts) (b : Bool) → (j == k) ≡ b → cond b (Some x) (M.nodes j) ≡ Some n → n.live ≡ Some t →
          KnowsParts M.sent t.coord × AreLeft t.coord
      by j n t true same is live_is = let here : x ≡ n = some_is is in its t (ap (λ (z : Node). z.live) here ∙ live_is)
      by j n t false apart is live_is =
          o.coords j n t (λ same. let no_way : true ≡ false = sym (ap (λ z. z == k) same ∙ same_number k) ∙ apart in cc no_way) is live_is

  quietly : (e : ℕ) (bs : List Body) (M : Seen) → KnowsParted begun M → KnowsParted begun (said e bs M)
  quietly e bs M all = record { senders = all.senders; tops = all.tops; one = all.one; coords = all.coords }

  down_so : (e k : ℕ) (d : Disk) (M : Seen) → Around k M → KnowsParted begun (halted e k d M)
  down_so e k d M o = quietly e (body.Halted k ∷ []) (down k d M) (back k d None M (λ t is. none_at refl is) o)

  -- ---- one message more, all around

  -- a Vote or a Confirm is what a commit of a good coordinator asks
  abbrev IsFine : ℕ → Coord → Effect → Type 0
  IsFine k e (Send to m) = (h : Head) (a : Ask) → asks m ≡ Some (h, a) → asks_part a ≡ true → IsAskedNow e to h a × IsSender begun k e
  IsFine k e (Say b) = ⊤
  IsFine k e (Do w) = ⊤

  abbrev AreFine : ℕ → Coord → List Effect → Type 0
  AreFine k e outs = AllByRecursion (IsFine k e) outs

  fine_seeks : (k : ℕ) (e : Coord) (outs : List Effect) → IsSender begun k e → AllSeek e outs → AreFine k e outs
  fine_seeks k e [] sender fine = tt
  fine_seeks k e (Send to m ∷ es) sender fine = ((λ h a is part. (fine.0 h a is part, sender)), fine_seeks k e es sender fine.1)
  fine_seeks k e (Say b ∷ es) sender fine = (tt, fine_seeks k e es sender fine.1)
  fine_seeks k e (Do w ∷ es) sender fine = (tt, fine_seeks k e es sender fine.1)

  fine_quiet : (k : ℕ) (e : Coord) (outs : List Effect) → AllQuiet outs → AreFine k e outs
  fine_quiet k e [] quiet = tt
  fine_quiet k e (Send to m ∷ es) quiet = ((λ h a is part. none_at quiet.0 is), fine_quiet k e es quiet.1)
  fine_quiet k e (Say b ∷ es) quiet = (tt, fine_quiet k e es quiet.1)
  fine_quiet k e (Do w ∷ es) quiet = (tt, fine_quiet k e es quiet.1)

  module _ (k to : ℕ) (m : Message) (v : Parts) (M : Seen) (fine : IsFine k v.coord (Send to m)) where
    p : Post
    p = record { from = k; to = to; message = m }

    pair_is : {h j : Head} {a b : Ask} → ◌≡◌ {A = Option (Head × Ask)} (Some (h, a)) (Some (j, b)) → a ≡ b
    pair_is {h} {j} {a} {b} is = let one : ◌≡◌ {A = Head × Ask} (h, a) (j, b) = some_is is in ap (λ (q : Head × Ask). q.1) one

    own_more : KnowsParts M.sent v.coord → KnowsParts (record { from = k; to = to; message = m } ∷ M.sent) v.coord
    own_more knows q h a (inr old) is part own = knows q h a old is part own
    own_more knows q h a (inl same) is part own =
        let f = fine h a (ap (λ (z : Post). asks z.message) same ∙ is) part in
        subst (λ n. IsPart v.coord (actor h.path) n a) (ap (λ (z : Post). z.to) same) (part_is begun k v.coord f.1 to h a part f.0)

    around_more : Around k M → KnowsParts M.sent v.coord → Around k (posted (record { from = k; to = to; message = m }) M)
    around_more o knows = record { senders = senders; tops = tops; one = one; coords = coords; homes = o.homes }
      where
        senders : (q : Post) (h : Head) (a : Ask) → In q (record { from = k; to = to; message = m } ∷ M.sent) →
            asks q.message ≡ Some (h, a) → asks_part a ≡ true → (let u = actor h.path in u.node) ≡ q.from
        senders q h a (inr old) is part = o.senders q h a old is part
        senders q h a (inl same) is part = let f = fine h a (ap (λ (z : Post). asks z.message) same ∙ is) part in
            sender_is begun k v.coord f.1 (actor h.path) (let q = f.0 in q.doing) (let q = f.0 in q.works) ∙ ap (λ (z : Post). z.from) same

        tops : (q : Post) (h : Head) (a : Ask) → In q (record { from = k; to = to; message = m } ∷ M.sent) → asks q.message ≡ Some (h, a) →
            asks_part a ≡ true → IsTopOf begun (actor h.path)
        tops q h a (inr old) is part = o.tops q h a old is part
        tops q h a (inl same) is part = let f = fine h a (ap (λ (z : Post). asks z.message) same ∙ is) part in top_is begun k v.coord f.1
            (actor h.path) (let q = f.0 in q.doing) (let q = f.0 in q.machine) (let q = f.0 in q.works) (let q = f.0 in q.now)

        asks_one : (a : Ask) → is_confirm a ≡ true → asks_part a ≡ true
        asks_one (ask.Confirm grants excluded included) it = refl
        asks_one (ask.Vote i ties ends) it = refl
        asks_one (ask.Bind x include avoid) it = absurd (cc it)
        asks_one (ask.Load x) it = absurd (cc it)
        asks_one (ask.Activate c st) it = absurd (cc it)
        asks_one (ask.Record x c i g) it = absurd (cc it)
        asks_one (ask.Invoke x c i ends op) it = absurd (cc it)
        asks_one (ask.Prepare states) it = absurd (cc it)

        new_one : (q : Post) (h j : Head) (a b : Ask) → asks m ≡ Some (h, a) → In q M.sent → asks q.message ≡ Some (j, b) →
            is_confirm a ≡ true → is_confirm b ≡ true → actor h.path ≡ actor j.path → a ≡ b
        new_one q h j a b is there at one_a one_b same = let f = fine h a is (asks_one a one_a) in
            same_confirm begun k v.coord f.1 M.sent knows to h a f.0 one_a q j b there at one_b same

        one : AreOneConfirm (record { from = k; to = to; message = m } ∷ M.sent)
        one q r h j a b (inr old) (inr older) is at one_a one_b same = o.one q r h j a b old older is at one_a one_b same
        one q r h j a b (inl new) (inr old) is at one_a one_b same =
            new_one r h j a b (ap (λ (z : Post). asks z.message) new ∙ is) old at one_a one_b same
        one q r h j a b (inr old) (inl new) is at one_a one_b same =
            sym (new_one q j h b a (ap (λ (z : Post). asks z.message) new ∙ at) old is one_b one_a (sym same))
        one q r h j a b (inl new) (inl newer) is at one_a one_b same =
            pair_is (sym is ∙ ap (λ (z : Post). asks z.message) (sym new ∙ newer) ∙ at)

        coords : (j : ℕ) (n : Node) (t : Parts) → (j ≡ k → ⊥) → M.nodes j ≡ Some n → n.live ≡ Some t →
            KnowsParts (record { from = k; to = to; message = m } ∷ M.sent) t.coord × AreLeft t.coord
        coords j n t apart is up_it = (λ q h a i at part own. more q h a i at part own, (o.coords j n t apart is up_it).1)
          where
            more : KnowsParts (record { from = k; to = to; message = m } ∷ M.sent) t.coord
            more q h a (inr old) at part own = (o.coords j n t apart is up_it).0 q h a old at part own
            more q h a (inl same) at part own =
                let f = fine h a (ap (λ (z : Post). asks z.message) same ∙ at) part in
                let here = eqb-true (actor h.path).node t.coord.tree.node
                (and_parts ((actor h.path).node == t.coord.tree.node) ((actor h.path).inc == t.coord.tree.inc) own).0 in
                absurd (apart (sym (o.homes j n t apart is up_it) ∙ sym here
                ∙ sender_is begun k v.coord f.1 (actor h.path) (let q = f.0 in q.doing) (let q = f.0 in q.works)))

  walk : (e k : ℕ) (v : Parts) (outs : List Effect) (d : Disk) (M : Seen) → AreFine k v.coord outs → Around k M →
      KnowsParts M.sent v.coord → AreLeft v.coord → Walks (KnowsParted begun) e k outs (Up (KnowsParted begun) k v) d M
  walk e k v [] d M fine o own left =
      back k d (Some v) M (λ t is. subst (λ (z : Parts). KnowsParts M.sent z.coord × AreLeft z.coord) (some_is is) (own, left)) o
  walk e k v (Do w ∷ es) d M fine o own left = (λ how. down_so e k (stopped how w d) M o, walk e k v es (worked w d) M fine.1 o own left)
  walk e k v (Say b ∷ es) d M fine o own left = walk e k v es d (said e (b ∷ []) M) fine.1
      (record { senders = o.senders; tops = o.tops; one = o.one; coords = o.coords; homes = o.homes }) own left
  walk e k v (Send to m ∷ es) d M fine o own left = λ more quiet_lines.
      let q = around_more k to m v M fine.0 o own in
      walk e k v es d (said e more (posted (record { from = k; to = to; message = m }) M)) fine.1
      (record { senders = q.senders; tops = q.tops; one = q.one; coords = q.coords; homes = q.homes }) (own_more k to m v M fine.0 own)
      left

  -- ---- a node of a good world

  knows_on : (sent : List Post) (c e : Coord) → StaysPart c e → GoesOn c e → KnowsParts sent c → KnowsParts sent e
  knows_on sent c e stays on knows p h a there is part own =
      stays (actor h.path) p.to a (knows p h a there is part (sym (on.own (actor h.path)) ∙ own))

  module _ (e k : ℕ) (d : Disk) (t : Parts) (M : Seen) (good : IsGoodOf begun (up k d t M)) (all : KnowsParted begun (up k d t M)) where
    abbrev paths : Paths
    paths = paths_of begun

    tree : IsTree paths
    tree = begun_tree begun good.begun

    its_up : IsUp begun M.sent M.labels k d.inc t
    its_up = let p = good.places k (record { number = k; disk = d; live = Some t }) (stands_at k d (Some t) M) in p.memory

    its_coord : IsGoodCoord begun paths t.coord
    its_coord = let u = its_up in let g = u.good paths tree (path_found begun good.begun) in g.coord

    works : length t.coord.doings ≡ length t.coord.tree.branches
    works = let u = its_up in let f = u.faithful in f.works

    o : Around k M
    o = around k d (Some t) M good all

    mine : KnowsParts M.sent t.coord × AreLeft t.coord
    mine = all.coords k (record { number = k; disk = d; live = Some t }) t (stands_at k d (Some t) M) refl

    abbrev IsHere : Coord → Type 0
    IsHere c = KnowsParts M.sent c × IsSender begun k c

    sends : (c : Coord) → IsGoodCoord begun paths c → c.tree.node ≡ k → AreLeft c → IsSender begun k c
    sends c its node left = record { paths = paths; good = its; node = node; left = left }

    after : (c : Coord) → StaysPart t.coord c → GoesOn t.coord c → IsGoodCoord begun paths c → AreLeft c → IsHere c
    after c stays on its left =
        (knows_on M.sent t.coord c stays on mine.0, sends c its (sym (node_on t.coord c on) ∙ (let u = its_up in u.node)) left)

    here : IsHere t.coord
    here = (mine.0, sends t.coord its_coord (let u = its_up in u.node) mine.1)

    message_walk : (from : ℕ) (m : Message) (v : Parts) (outs : List Effect) → handle k d t from m ≡ Took v outs →
        Walks (KnowsParted begun) e k outs (Up (KnowsParted begun) k v) d M
    message_walk from m v outs is = walk e k v outs d M (fine_seeks k v.coord outs (let f = h.0 in f.1) h.1) o (let f = h.0 in
        f.0) (let f = h.0 in let s = f.1 in s.left)
      where
        h : IsHere v.coord × AllSeek v.coord outs
        h = handled IsHere k d t from m here
            (λ a r at_r. let q = heard from a r d.intents t.coord in (
              after q.part (part_heard begun paths tree t.coord its_coord from a r d.intents)
                  (well_heard begun paths tree from a r d.intents t.coord its_coord).0
                  (good_heard begun paths tree from a r d.intents t.coord its_coord) (left_heard t.coord mine.1 from a r d.intents),
              heard_seeks begun paths tree t.coord its_coord works from a r d.intents,
            ))
            (λ w. let q = acked from w d.intents t.coord in (
              after q.part (part_acked from w d.intents t.coord) (well_acked begun paths tree from w d.intents t.coord).0
                  (good_acked begun paths tree from w d.intents t.coord its_coord) (left_acked t.coord mine.1 from w d.intents),
              acked_seeks from w d.intents t.coord,
            )) v outs is

    act_walk : (hd : Header) (i : Input) → is_act i ≡ true → refusal_up hd i t.coord ≡ None → Walks (KnowsParted begun) e k
        (let r = acts i d.intents t.coord in r.outs) (Up (KnowsParted begun) k (with_coord t (acts i d.intents t.coord).part)) d M
    act_walk hd i is free =
        let r = acts i d.intents t.coord in
        let q = after r.part (part_acts begun paths tree t.coord its_coord hd i d.intents free other)
        (well_acts begun paths tree d.intents t.coord its_coord works hd i free other).0
        (good_acts begun paths tree d.intents t.coord its_coord hd i free other) (left_acts t.coord mine.1 i d.intents other) in
        walk e k (with_coord t r.part) r.outs d M (fine_seeks k r.part r.outs q.1
        (acts_seeks begun paths tree t.coord its_coord works i d.intents other)) o q.0 (let s = q.1 in s.left)
      where
        other : (l : Label) (how : Kind) (parent : Option Label) → i ≢ input.Begin l how parent
        other l how parent same = let no_way : false ≡ true = sym (ap is_act same) ∙ is in absurd (cc no_way)

    tick_walk : Walks (KnowsParted begun) e k (tick_outs (record { number = k; disk = d; live = Some t }) t)
        (Up (KnowsParted begun) k (with_coord t (again_all t.coord.doings t.coord).part)) d M
    tick_walk =
        let r = again_all t.coord.doings t.coord in
        let tolds = tolds_again t.coord.telling in
        let q = after r.part (part_again t.coord.doings t.coord) (well_again begun paths tree t.coord its_coord).0
        (good_again begun paths tree t.coord.doings t.coord its_coord) (left_again t.coord.doings t.coord mine.1) in
        walk e k (with_coord t r.part) (tick_outs (record { number = k; disk = d; live = Some t }) t) d M
        (fine_seeks k r.part (r.outs ++ tolds ++ map query_about (holders d t)) q.1 (seek_both r.part (r.outs ++ tolds) (map query_about
        (holders d t)) (seek_both r.part r.outs tolds (again_seeks begun paths tree t.coord its_coord works (let u = its_up in
        u.numbered)) (seek_quiet r.part tolds (quiet_again t.coord.telling))) (seek_quiet r.part (map query_about (holders d t))
        (queries_quiet IsHere k d t k (message.Query (record { act = record { node = k; inc = 0; num = 0 } })) here (holders d t)))))
        o q.0 (let s = q.1 in s.left)

  -- ---- restarts

  restart_quiet : (hd : Header) (k inc : ℕ) (d : Disk) → AllQuiet (restart_outs hd k inc d)
  restart_quiet hd k inc d =
      both four hellos (both three asking (both two tolds (both one records (tt, (tt, (tt, (tt, back_so (naming_at k inc d.names)))))
      (tt, all_map IsQuiet (λ (e : Uid × Intent). Say (body.Recovered k e.0)) d.intents (λ e. tt))) (quiet_again d.intents))
      (queries (uid_set (prepared_actions d.store ++ prepared_actions d.names))))
      (all_map IsQuiet (hello_to k inc) (without_number k (numbers_to hd.nodes)) (λ w. refl))
    where
      both : (xs ys : List Effect) → AllQuiet xs → AllQuiet ys → AllQuiet (xs ++ ys)
      both [] ys a b = b
      both (x ∷ xs) ys a b = (a.0, both xs ys a.1 b)

      queries : (us : List Uid) → AllQuiet (map query_about us)
      queries [] = tt
      queries (u ∷ us) = (refl, queries us)

      back_so : (o : Option Naming) → AllQuiet (naming_back o)
      back_so None = tt
      back_so (Some o) = all_flat IsQuiet (λ (e : ℕ × Named). back_lines e.1) o.objects (λ e. all_map IsQuiet _ e.1.rows (λ r. tt))

      one : List Effect
      one = Do Look ∷ Do (PutInc inc) ∷ Say (body.Up k inc) ∷ Do Look ∷ naming_back (naming_at k inc d.names)

      records : List Effect
      records = Do Look ∷ recovered_records k d.intents

      two : List Effect
      two = one ++ records

      tolds : List Effect
      tolds = tolds_again d.intents

      three : List Effect
      three = two ++ tolds

      asking : List Effect
      asking = map query_about (uid_set (prepared_actions d.store ++ prepared_actions d.names))

      four : List Effect
      four = three ++ asking

      hellos : List Effect
      hellos = map (hello_to k inc) (without_number k (numbers_to hd.nodes))

  -- nobody of a later incarnation was begun
  restart_walk : (hd : Header) (e k : ℕ) (d : Disk) (M : Seen) → IsGoodOf begun (down k d M) → KnowsParted begun (down k d M) →
      Walks (KnowsParted begun) e k (restart_outs hd k (d.inc + 1) d) (Up (KnowsParted begun) k (parts_in k (d.inc + 1) d)) d M
  restart_walk hd e k d M good all = walk e k (parts_in k (d.inc + 1) d) (restart_outs hd k (d.inc + 1) d) d M
      (fine_quiet k (parts_in k (d.inc + 1) d).coord (restart_outs hd k (d.inc + 1) d) (restart_quiet hd k (d.inc + 1) d))
      (around k d None M good all) nobody (λ u w is. none_at (nothing u) is)
    where
      nothing : (u : Uid) → doing_of u (record (new_coord k (d.inc + 1)) { telling = d.intents }) ≡ None
      nothing u = by (is_own u (record { node = k; inc = d.inc + 1; branches = []; families = [] }))
        where
          place : (n : ℕ) → at_place {A = Doing} n [] ≡ None
          place zero = refl
          place (suc n) = refl

          by : (b : Bool) → cond b (at_place {A = Doing} u.num []) None ≡ None
          by true = place u.num
          by false = refl

      late : (n i j : ℕ) → (i < n) ⊎ ((i ≡ n) × (j ≡ j)) → i ≡ n + 1 → ⊥
      late n i j (inl less) is = omega (arith, less, is)
      late n i j (inr same) is = let q = same.0 in omega (arith, q, is)

      nobody : KnowsParts M.sent (record (new_coord k (d.inc + 1)) { telling = d.intents })
      nobody p h a there is part own =
          let u = actor h.path in
          let t = all.tops p h a there is part in
          let counted = (good.places k (record { number = k; disk = d; live = None }) (stands_at k d None M)).memory in
          let q = and_parts (u.node == k) (u.inc == d.inc + 1) own in
          let on = subst (λ w. is_on (uids_of (let x = t.0 in x.path)) w ≡ true) t.2 (on_own (let x = t.0 in x.path)) in
          absurd (⊎_elim
          (λ less. late d.inc u.inc 0 (inl less) (eqb-true u.inc (d.inc + 1) q.1))
          (λ same. late d.inc u.inc 0 (inr (same.0, refl)) (eqb-true u.inc (d.inc + 1) q.1))
          (counted.1 t.0 u t.1 on (eqb-true u.node k q.0)))

-- ---- one action begins

module _ (begun : List Action) (a : Action) where
  around_begun : (k : ℕ) (M : Seen) → Around begun k M → Around (a ∷ begun) k M
  around_begun k M o = record {
    senders = o.senders;
    tops = λ p h x there is part. top_more a begun (actor h.path) (o.tops p h x there is part);
    one = o.one;
    coords = o.coords;
    homes = o.homes;
  }

-- ---- all runs

parted_first : (hd : Header) → IsAtStarts hd (KnowsParted [])
parted_first hd st formed = record {
  senders = λ p h a there. absurd there;
  tops = λ p h a there. absurd there;
  one = λ p q h j a b there. absurd there;
  coords = coords;
}
  where
    new_left : (k inc : ℕ) (d : Disk) → AreLeft (parts_in k inc d).coord
    new_left k inc d u w is = none_at (by (is_own u (record { node = k; inc = inc; branches = []; families = [] }))) is
      where
        place : (n : ℕ) → at_place {A = Doing} n [] ≡ None
        place zero = refl
        place (suc n) = refl

        by : (b : Bool) → cond b (at_place {A = Doing} u.num []) None ≡ None
        by true = place u.num
        by false = refl

    coords : (j : ℕ) (n : Node) (t : Parts) → at_place j (map (node_by hd st) (numbers_to hd.nodes)) ≡ Some n → n.live ≡ Some t →
        KnowsParts [] t.coord × AreLeft t.coord
    coords j n t is live = (
      λ p h a there. absurd there,
      subst (λ (z : Parts). AreLeft z.coord) (first_up hd st j n t is live) (new_left j (st.incs j + 1) (disk_by hd st j)),
    )

pub parted_keep : HandlersKeepParted
parted_keep hd = record {
  quiet = λ begun e bs M quiet_lines g good all. quietly begun e bs M all;
  stop = λ begun e k d live M g good all. down_so begun e k d M (around begun k d live M good all);
  message = λ begun e k d t v from m outs M g good all there meant is. message_walk begun e k d t M good all from m v outs is;
  act = λ begun e k d t i M is free g good all. act_walk begun e k d t M good all hd i is free;
  begin = λ begun e k d t l how parent M new may free g good all.
      let did = begin_action l how parent (parent_of parent t.coord) t.coord in
      let a = begins_in how parent t in
      let mine = all.coords k (record { number = k; disk = d; live = Some t }) t (stands_at begun k d (Some t) M) refl in
      walk (a ∷ begun) e k (with_coord t did.part) did.outs d (given l (record { node = k; serial = is_serial how }) M) (tt, tt)
      (let o = around_begun begun a k M (around begun k d (Some t) M good all) in
      record { senders = o.senders; tops = o.tops; one = o.one; coords = o.coords; homes = o.homes })
      (λ p h x there at part own. part_begins l how parent t.coord (actor h.path) p.to x (mine.0 p h x there at part own))
      (left_begins t.coord mine.1 l how parent);
  tick = λ begun e k d t M g good all. tick_walk begun e k d t M good all;
  restart = λ begun e k d M g good all. restart_walk begun hd e k d M good all;
  first = parted_first hd;
}
