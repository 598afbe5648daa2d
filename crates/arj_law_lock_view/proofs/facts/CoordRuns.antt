-- What each coordinator keeps, of itself and of what its node sent, holds in every run, and what is kept of all that was sent.
use Rattle.arj_law_parts.proofs.Words
use Words.{◌≡◌, ◌≢◌, ◌⊎◌, ◌≤◌, ◌<◌, ◌+◌, ◌==◌, ◌∙◌, arith, ℕ, List, [], ◌∷◌, ◌++◌, Bool, true, false, cond, filter, map, length}
use Words.{Option, Some, None, refl, sym, ap, subst, inl, inr, eqb-true, ⊤, option_map, and_parts, Ask, Asked, End, Head, Header, Kind}
use Words.{Label, Message, ObjectState, Uid, asks, is_on, object, uids_of, Reply, actor, answers, asked_by, last_end, response, again_all}
use Words.{begin_action, heard, back_lines, confirm, Coord, new_coord, Already, Disk, Do, Effect, InDoubt, Intent, Look, Old, Prep, Prepare}
use Words.{PutInc, Ready, Say, Send, Served, held_at, holder_of, is_prepared, prepare_answer, stopped, worked, acked, tick_outs, Named}
use Words.{Naming, Handled, Parts, Took, Void, ack_told, answer_is_meant, asked_is_meant, is_meant, reply_is_meant, by_reply, coord_heard}
use Words.{end_states, handle, handle_answer, handle_ask, handle_ends, handle_other, holders, if_naming, is_earlier, load_by, load_held}
use Words.{naming_told, prepare_by, prepared_actions, query_about, sends_answer, serve, store_told, with_coord, with_naming, with_server}
use Words.{uid_set, without_number, AreAll, is_naming_effect, is_server_effect, Input, Node, acts, hello_to}
use Words.{naming_at, naming_back, numbers_to, parent_of, parts_in, recovered_records, refusal_up, restart_outs, tolds_again}
use Words.{is_own, new_tree, Labelled, activate_own, bind_own, confirm_own, ends_own, invoke_own, note_own}
use Words.{told_own, vote_own, Post, Seen, is_serial}
use Words.ask
use Words.body
use Words.ending
use Words.loaded
use Words.message
use Words.prepared
use Words.role
use Words.naming
use Words.server
use Words.input
use Rattle.arj_law_lock_view.proofs.Terms
use Terms.{IsAtStarts, first_up, Action, AreBegun, paths_of, IsGoodCoord, IsTree, Paths, FitsAsk, IsAsker, begun_tree, path_found}
use Terms.{good_acts, good_acked}
use Terms.{good_again, good_heard, all_flat, all_map, IsGoodOf, IsUp, other_number, same_number, Keeps, is_act, at, down, given}
use Terms.{posted, said, up, Up, Walks, walks_to, acked_so, acts_so, again_so, heard_so, query_so, tolds_so, AllSo, SendsSo, KeepsGiven}
use Terms.{kept_both, no_request, AnswersWaiting, BindsAreKnown, answers_fit, binds_keep}
use Rattle.arj_law_lock_view.proofs.facts.Kept.{Place}
use Rattle.arj_law_parts.proofs.parts.{GoodCoords.good_fresh, SaidIncs.all_quiet}
use Rattle.arj_law_parts.specs.moves.Seen.{In}
use Rattle.arj_law_runs.proofs.{calls.CoordSends.so_both, calls.WorldVotes.fits_asked, kept.Handled.counted_of}
use Rattle.arj_law_runs.specs.kept.Worlds.{IsGood}

some_is : {A : Type 0} {a b : A} → Some a ≡ Some b → a ≡ b
some_is {A} {a} {b} is = let k : ◌≡◌ {A = Option A} (Some a) (Some b) = is in cc

never : {A : Type 0} {b : Bool} → b ≡ true → b ≡ false → A
never holds fails = let no_way : true ≡ false = sym holds ∙ fails in absurd (cc no_way)

-- a node, by its number, with all that was sent
pub record Sender : Type 0 where
  pub node : ℕ
  pub sent : List Post

abbrev pub and_sent : Post → Sender → Sender
and_sent p s = record s { sent = p ∷ s.sent }

abbrev pub PlaceAt : Sender → Coord → Type 0
PlaceAt s c = Place s.sent s.node c

-- it is good, for actions that were begun
abbrev pub IsStanding : Coord → Type 0
IsStanding c = (acts : List Action) × AreBegun acts × IsGoodCoord acts (paths_of acts) c

-- the answer was sent to this node
abbrev pub IsSentTo : Sender → ℕ → Asked → Reply → Type 0
IsSentTo s from a r = (m : Message) × In (record { from = from; to = s.node; message = m }) s.sent × (answers m ≡ Some (a, r))

-- What holds of a coordinator as it begins, of which nothing was sent, and is kept by what it hears that can be meant, does and begins, and
-- by what is sent: by others, and by itself, of what its actions wait for. With it goes what holds of all that was sent.
pub record IsKeptBy (P : List Post → Type 0) (Q : Sender → Coord → Type 0) : Type 0 where
  pub none : P []
  pub new : (s : Sender) (inc : ℕ) (telling : List (Uid × Intent)) → ((p : Post) (h : Head) (a : Ask) → In p s.sent →
      asks p.message ≡ Some (h, a) → (u : Uid) → is_on (uids_of h.path) u ≡ true → is_own u (new_tree s.node inc) ≡ true → ⊥) →
      Q s (record (new_coord s.node inc) { telling = telling })
  pub apart : (s : Sender) (c : Coord) (p : Post) → (p.from ≡ s.node → ⊥) → Q s c → Q (and_sent p s) c
  pub sends : (s : Sender) (c : Coord) (to : ℕ) (m : Message) → IsStanding c → SendsSo c (Send to m) → P s.sent → Q s c →
      (let t = and_sent (record { from = s.node; to = to; message = m }) s in P t.sent × Q t c)
  pub hears : (s : Sender) (c : Coord) → PlaceAt s c → (from : ℕ) (a : Asked) (r : Reply) (intents : List (Uid × Intent)) →
      IsSentTo s from a r → AnswersWaiting from a r c → reply_is_meant c a r ≡ true → Q s c → Q s (heard from a r intents c).part
  pub acks : (s : Sender) (c : Coord) → PlaceAt s c → (from : ℕ) (u : Uid) (intents : List (Uid × Intent)) → Q s c →
      Q s (acked from u intents c).part
  pub does : (s : Sender) (c : Coord) → PlaceAt s c → (intents : List (Uid × Intent)) (hd : Header) (i : Input) → refusal_up hd i c ≡ None →
      ((l : Label) (how : Kind) (parent : Option Label) → i ≢ input.Begin l how parent) → Q s c → Q s (acts i intents c).part
  pub begins : (s : Sender) (c : Coord) → PlaceAt s c → (l : Label) (how : Kind) (parent : Option Label) → Q s c →
      Q s (begin_action l how parent (parent_of parent c) c).part
  pub asks : (s : Sender) (c : Coord) → PlaceAt s c → Q s c → Q s (again_all c.doings c).part

-- ---- one message

module _ (Q : Coord → Type 0) (k : ℕ) (d : Disk) (t : Parts) (from : ℕ) (its : Q t.coord) where
  -- the coordinator is so, and what is sent is of what it waits for
  abbrev By : Handled → Type 0
  By (Void outs) = ⊤
  By (Took v outs) = Q v.coord × AllSo v.coord outs

  reply_so : (e : Coord) (to : ℕ) (a : Asked) (r : Reply) → SendsSo e (Send to (response a r))
  reply_so e to a r =
      λ h q is. absurd (let no_way : ◌≡◌ {A = Option (Head × Ask)} None (Some (h, q)) = sym (no_request a r) ∙ is in cc no_way)

  answered : (h : Head) (v : Parts) (outs : List Effect) (o : Option Reply) → Q v.coord → AllSo v.coord outs →
      By (sends_answer from h v outs o)
  answered h v outs None q so = tt
  answered h v outs (Some r) q so =
      (q, so_both v.coord outs (Send from (response (asked_by h) r) ∷ []) so (reply_so v.coord from (asked_by h) r, tt))

  -- servers and naming send nothing
  server_so : (e : Coord) (n : ℕ) (es : List Effect) → AreAll (is_server_effect n) es → AllSo e es
  server_so e n es own = all_quiet (SendsSo e) (is_server_effect n) (λ to m. refl) one es own
    where
      one : (f : Effect) → is_server_effect n f ≡ true → SendsSo e f
      one (Say b) is = tt
      one (Send to m) is = absurd (cc is)
      one (Do w) is = tt

  naming_so : (e : Coord) (es : List Effect) → AreAll is_naming_effect es → AllSo e es
  naming_so e es own = all_quiet (SendsSo e) is_naming_effect (λ to m. refl) one es own
    where
      one : (f : Effect) → is_naming_effect f ≡ true → SendsSo e f
      one (Say b) is = tt
      one (Send to m) is = absurd (cc is)
      one (Do w) is = tt

  queries : (e : Coord) (us : List Uid) → AllSo e (map query_about us)
  queries e us = all_map (SendsSo e) query_about us (λ u h a is. absurd (cc is))

  with_it : (f : Naming → Handled) (o : Option Naming) → ((n : Naming) → By (f n)) → By (if_naming f o)
  with_it f None each = tt
  with_it f (Some n) each = each n

  asked : (h : Head) (a : Ask) → By (serve k d t from h a)
  asked h (ask.Bind x include avoid) =
      with_it _ t.naming (λ n. let r = naming.bind h.path x include avoid d.names n in answered h (with_naming t r.part) r.outs
      (option_map Reply.Bound r.reply) its (naming_so t.coord r.outs (bind_own h.path x include avoid d.names n)))
  asked h (ask.Load x) = load (holder_of (object x) d.store)
    where
      held : (s : Option ObjectState) → By (load_held from h t s)
      held None = tt
      held (Some s) = answered h t (Do Look ∷ []) (Some (Reply.Loaded (loaded.State s))) its (tt, tt)

      load : (o : Option Uid) → By (load_by x d.store from h t o)
      load (Some u) = answered h t [] (Some (Reply.Loaded (loaded.InDoubt u))) its tt
      load None = held (held_at (object x) d.store)
  asked h (ask.Activate b st) = let r = server.activate k h.path b st t.server in answered h (with_server t r.part) r.outs
      (option_map Reply.Activated r.reply) its (server_so t.coord k r.outs (activate_own k h.path b st t.server))
  asked h (ask.Record x b i g) = with_it _ t.naming (λ n. let r = naming.note h.path x b i g n in
      answered h (with_naming t r.part) r.outs (option_map Reply.Noted r.reply) its (naming_so t.coord r.outs (note_own h.path x b i g n)))
  asked h (ask.Invoke x b i ends o) = let r = server.invoke k h x b i ends o t.server in answered h (with_server t r.part) r.outs
      (option_map Reply.Invoked r.reply) its (server_so t.coord k r.outs (invoke_own k h x b i ends o t.server))
  asked h (ask.Vote i ties ends) = let r = server.vote k h.path i ties ends t.server in answered h (with_server t r.part) r.outs
      (option_map Reply.Voted r.reply) its (server_so t.coord k r.outs (vote_own k h.path i ties ends t.server))
  asked h (ask.Prepare states) = each (is_prepared (actor h.path) d.store)
    where
      new : (a : Prep) → By (prepare_by k states from h t a)
      new Ready = answered h t (Do Look ∷ Do (Prepare role.Store (actor h.path) states) ∷ Say (body.Prepared k (actor h.path) role.Store)
          ∷ []) (Some (Reply.Prepared prepared.Yes)) its (tt, (tt, (tt, tt)))
      new (Already u) = tt
      new (Old u v) = answered h t (Do Look ∷ []) (Some (Reply.Prepared (prepared.Old u.num v))) its (tt, tt)
      new (InDoubt u holder) = answered h t (Do Look ∷ []) (Some (Reply.Prepared (prepared.InDoubt u.num holder))) its (tt, tt)

      each : (b : Bool) → By (cond b (sends_answer from h t [] (Some (Reply.Prepared prepared.Yes)))
          (prepare_by k states from h t (prepare_answer (actor h.path) states d.store)))
      each true = answered h t [] (Some (Reply.Prepared prepared.Yes)) its tt
      each false = new (prepare_answer (actor h.path) states d.store)
  asked h (ask.Confirm grants excluded included) =
      with_it _ t.naming (λ n. let r = confirm h.path grants excluded included d.names n in answered h (with_naming t r.part) r.outs
      (option_map Reply.Confirmed r.reply) its (naming_so t.coord r.outs (confirm_own h.path grants excluded included d.names n)))

  coord_left : (r : Served Coord (Unit {0})) → Q r.part × AllSo r.part r.outs → By (coord_heard t r)
  coord_left r so = by r.reply
    where
      by : (o : Option (Unit {0})) → By (by_reply (with_coord t r.part) r.outs o)
      by None = tt
      by (Some u) = so

  ends_left : (ack : Bool) (ends : List (Uid × End)) (o : Option (Uid × End)) → By (handle_ends k d t from ack ends o)
  ends_left ack ends None = (its, tt)
  ends_left ack ends (Some e) =
      let s = server.told k ends t.server in
      let o = naming_told e.0 e.1 d.names t.naming in
      let both : (es fs : List Effect) → AllSo t.coord es → AllSo t.coord fs → AllSo t.coord (es ++ fs) = so_both t.coord in (
        its,
        both (store_told k e.0 e.1 d.store ++ o.outs ++ s.outs) (ack_told from e.0 ack) (both (store_told k e.0 e.1 d.store ++ o.outs)
            s.outs (both (store_told k e.0 e.1 d.store) o.outs (stored (is_prepared e.0 d.store) e.1) (named t.naming))
            (server_so t.coord k s.outs (ends_own k ends t.server))) (acked_told ack),
      )
    where
      stored : (b : Bool) (how : End) → AllSo t.coord (cond b (end_states k e.0 how) [])
      stored false how = tt
      stored true ending.Commit = (tt, (tt, tt))
      stored true ending.Abort = (tt, (tt, tt))

      named : (o : Option Naming) → AllSo t.coord (let r = naming_told e.0 e.1 d.names o in r.outs)
      named None = tt
      named (Some n) = naming_so t.coord (naming.told e.0 e.1 d.names n).outs (told_own e.0 e.1 d.names n)

      acked_told : (b : Bool) → AllSo t.coord (ack_told from e.0 b)
      acked_told true = ((λ h a is. absurd (cc is)), tt)
      acked_told false = tt

  module _ (n : Message) (hears : (a : Asked) (r : Reply) → answers n ≡ Some (a, r) → let q = heard from a r d.intents t.coord in
      Q q.part × AllSo q.part q.outs) (acks : (u : Uid) → let q = acked from u d.intents t.coord in Q q.part × AllSo q.part q.outs) where
    other : (m : Message) → By (handle_other k d t from m)
    other (message.Told m) = ends_left m.ack m.ends (last_end m.ends)
    other (message.Acked m) = coord_left (acked from m.act d.intents t.coord) (acks m.act)
    other (message.Query m) = (its, query_so t.coord from m.act d.intents t.coord)
    other (message.Hello m) = (its, queries t.coord (filter (is_earlier m.node m.inc) (holders d t)))
    other (message.Bind m) = tt
    other (message.Bound m) = tt
    other (message.Load m) = tt
    other (message.Loaded m) = tt
    other (message.Activate m) = tt
    other (message.Activated m) = tt
    other (message.RecordMsg m) = tt
    other (message.Recorded m) = tt
    other (message.Invoke m) = tt
    other (message.Invoked m) = tt
    other (message.Vote m) = tt
    other (message.Voted m) = tt
    other (message.Prepare m) = tt
    other (message.Prepared m) = tt
    other (message.Confirm m) = tt
    other (message.Confirmed m) = tt

    handled_so : By (handle k d t from n)
    handled_so = by (asks n)
      where
        answer : (o : Option (Asked × Reply)) → answers n ≡ o → By (handle_answer k d t from n o)
        answer None none = other n
        answer (Some a) is = coord_left (heard from a.0 a.1 d.intents t.coord) (hears a.0 a.1 is)

        by : (o : Option (Head × Ask)) → By (handle_ask k d t from n o)
        by None = answer (answers n) refl
        by (Some a) = asked a.0 a.1

-- ---- all nodes

-- at each node that is up
abbrev pub AtCoords : (Sender → Coord → Type 0) → Seen → Type 0
AtCoords Q M = (j : ℕ) (n : Node) (t : Parts) → M.nodes j ≡ Some n → n.live ≡ Some t → Q (record { node = j; sent = M.sent }) t.coord

module _ (P : List Post → Type 0) (Q : Sender → Coord → Type 0) (kept : IsKeptBy P Q) where
  abbrev QAt : ℕ → List Post → Coord → Type 0
  QAt j sent c = Q (record { node = j; sent = sent }) c

  -- so it is of all that was sent, and at each node that is up
  abbrev pub AreSo : Seen → Type 0
  AreSo M = P M.sent × AtCoords Q M

  -- at the others
  abbrev Others : ℕ → Seen → Type 0
  Others k M = (j : ℕ) (n : Node) (t : Parts) → (j ≡ k → ⊥) → M.nodes j ≡ Some n → n.live ≡ Some t → QAt j M.sent t.coord

  stands_at : (k : ℕ) (d : Disk) (live : Option Parts) (M : Seen) →
      (let S = at k d live M in S.nodes k) ≡ Some (record { number = k; disk = d; live = live })
  stands_at k d live M = λ i. cond (same_number k i) (Some (record { number = k; disk = d; live = live })) (M.nodes k)

  others_at : (k : ℕ) (d : Disk) (live : Option Parts) (M : Seen) → AreSo (at k d live M) → Others k M
  others_at k d live M all j n t apart is up_it =
      all.1 j n t ((λ i. cond (other_number j k apart i) (Some (record { number = k; disk = d; live = live })) (M.nodes j)) ∙ is) up_it

  own_at : (k : ℕ) (d : Disk) (t : Parts) (M : Seen) → AreSo (up k d t M) → QAt k M.sent t.coord
  own_at k d t M all = all.1 k (record { number = k; disk = d; live = Some t }) t (stands_at k d (Some t) M) refl

  backs : (k : ℕ) (d : Disk) (live : Option Parts) (M : Seen) → ((t : Parts) → live ≡ Some t → QAt k M.sent t.coord) → Others k M →
      (j : ℕ) (n : Node) (t : Parts) → (let S = at k d live M in S.nodes j) ≡ Some n → n.live ≡ Some t → QAt j M.sent t.coord
  backs k d live M own o j n t is up_it = by (j == k) refl is
    where
      x : Node
      x = record { number = k; disk = d; live = live }

      by : (b : Bool) → (j == k) ≡ b → cond b (Some x) (M.nodes j) ≡ Some n → QAt j M.sent t.coord
      by true same is = let here : x ≡ n = some_is is in
          subst (λ z. QAt z M.sent t.coord) (sym (eqb-true j k same)) (own t (ap (λ (z : Node). z.live) here ∙ up_it))
      by false apart is = o j n t (λ same. never (ap (λ z. z == k) same ∙ same_number k) apart) is up_it

  back : (k : ℕ) (d : Disk) (live : Option Parts) (M : Seen) → P M.sent → ((t : Parts) → live ≡ Some t → QAt k M.sent t.coord) →
      Others k M → AreSo (at k d live M)
  back k d live M all own o = (all, λ j n t is up_it. backs k d live M own o j n t is up_it)

  -- whatever a node does
  walk : (e k : ℕ) (v : Parts) (outs : List Effect) (d : Disk) (M : Seen) → IsStanding v.coord → AllSo v.coord outs → P M.sent →
      Others k M → QAt k M.sent v.coord → Walks AreSo e k outs (Up AreSo k v) d M
  walk e k v [] d M stands so all o own = back k d (Some v) M all (λ t is. subst (λ (z : Parts). QAt k M.sent z.coord) (some_is is) own) o
  walk e k v (Do w ∷ es) d M stands so all o own =
      ((λ how. back k (stopped how w d) None M all (λ t is. absurd (cc is)) o), walk e k v es (worked w d) M stands so.1 all o own)
  walk e k v (Say b ∷ es) d M stands so all o own = walk e k v es d (said e (b ∷ []) M) stands so.1 all o own
  walk e k v (Send to m ∷ es) d M stands so all o own = λ more quiet.
      let next = kept.sends (record { node = k; sent = M.sent }) v.coord to m stands so.0 all own in
      walk e k v es d (said e more (posted (record { from = k; to = to; message = m }) M)) stands so.1 next.0
      (λ j n t apart is up_it. kept.apart (record { node = j; sent = M.sent }) t.coord (record { from = k; to = to; message = m })
      (λ same. apart (sym same)) (o j n t apart is up_it))
      next.1

  -- ---- a node of a good world

  module _ (begun : List Action) (e k : ℕ) (d : Disk) (t : Parts) (M : Seen) (good : IsGoodOf begun (up k d t M))
      (binds : BindsAreKnown (up k d t M)) (all : AreSo (up k d t M)) where
    abbrev paths : Paths
    paths = paths_of begun

    tree : IsTree paths
    tree = begun_tree begun good.begun

    its_up : IsUp begun M.sent M.labels k d.inc t
    its_up = let p = good.places k (record { number = k; disk = d; live = Some t }) (stands_at k d (Some t) M) in p.memory

    its_coord : IsGoodCoord begun paths t.coord
    its_coord = let u = its_up in let g = u.good paths tree (path_found begun good.begun) in g.coord

    works : length t.coord.doings ≡ length t.coord.tree.branches
    works = let u = its_up in let f = u.faithful in f.works

    abbrev s : Sender
    s = record { node = k; sent = M.sent }

    place : PlaceAt s t.coord
    place = let u = its_up in record {
      actions = begun;
      begun = good.begun;
      good = its_coord;
      numbered = u.numbered;
      faithful = u.faithful;
      binds = binds.nodes k (record { number = k; disk = d; live = Some t }) t (stands_at k d (Some t) M) refl;
    }

    its : QAt k M.sent t.coord
    its = own_at k d t M all

    others : Others k M
    others = others_at k d (Some t) M all

    abbrev Stands : Coord → Type 0
    Stands c = IsGoodCoord begun paths c

    abbrev IsSo : Coord → Type 0
    IsSo c = QAt k M.sent c × Stands c

    standing : (c : Coord) → Stands c → IsStanding c
    standing c so = (begun, good.begun, so)

    message_walk : (from : ℕ) (m : Message) (v : Parts) (outs : List Effect) → In (record { from = from; to = k; message = m }) M.sent →
        is_meant t m ≡ true → handle k d t from m ≡ Took v outs → Walks AreSo e k outs (Up AreSo k v) d M
    message_walk from m v outs there meant is = walk e k v outs d M (standing v.coord h.0.1) h.1 all.0 others h.0.0
      where
        u : IsUp begun M.sent M.labels k d.inc t
        u = its_up

        reply_meant : (a : Asked) (r : Reply) → answers m ≡ Some (a, r) → reply_is_meant t.coord a r ≡ true
        reply_meant a r of = ap (answer_is_meant t.coord) (sym of)
            ∙ (and_parts (asked_is_meant t.server (asks m)) (answer_is_meant t.coord (answers m)) meant).1

        h : IsSo v.coord × AllSo v.coord outs
        h = subst (By IsSo k d t from (its, its_coord)) is (handled_so IsSo k d t from (its, its_coord) m
            (λ a r of. (
              (
                kept.hears s t.coord place from a r d.intents (m, there, of) (answers_fit begun e k d t M good binds from m there a r of)
                    (reply_meant a r of) its,
                good_heard begun paths tree from a r d.intents t.coord its_coord,
              ),
              heard_so begun paths tree t.coord its_coord u.numbered works from a r d.intents,
            ))
            (λ w. (
              (kept.acks s t.coord place from w d.intents its, good_acked begun paths tree from w d.intents t.coord its_coord),
              acked_so from w d.intents t.coord,
            )))

    act_walk : (hd : Header) (i : Input) → is_act i ≡ true → refusal_up hd i t.coord ≡ None →
        Walks AreSo e k (let r = acts i d.intents t.coord in r.outs) (Up AreSo k (with_coord t (acts i d.intents t.coord).part)) d M
    act_walk hd i is free =
        let r = acts i d.intents t.coord in
        let u = its_up in
        walk e k (with_coord t r.part) r.outs d M (standing r.part (good_acts begun paths tree d.intents t.coord its_coord hd i free other))
        (acts_so begun paths tree t.coord its_coord u.numbered works i d.intents other) all.0 others
        (kept.does s t.coord place d.intents hd i free other its)
      where
        other : (l : Label) (how : Kind) (parent : Option Label) → i ≢ input.Begin l how parent
        other l how parent same = let no_way : false ≡ true = sym (ap is_act same) ∙ is in cc no_way

    tick_walk : Walks AreSo e k (tick_outs (record { number = k; disk = d; live = Some t }) t)
        (Up AreSo k (with_coord t (again_all t.coord.doings t.coord).part)) d M
    tick_walk =
        let r = again_all t.coord.doings t.coord in
        let u = its_up in
        let tolds = tolds_again t.coord.telling in
        walk e k (with_coord t r.part) (tick_outs (record { number = k; disk = d; live = Some t }) t) d M
        (standing r.part (good_again begun paths tree t.coord.doings t.coord its_coord))
        (so_both r.part (r.outs ++ tolds) (map query_about (holders d t))
        (so_both r.part r.outs tolds (again_so begun paths tree t.coord its_coord u.numbered works) (tolds_so r.part t.coord.telling))
        (all_map (SendsSo r.part) query_about (holders d t) (λ w h a is. absurd (cc is))))
        all.0 others (kept.asks s t.coord place its)

    begin_walk : (l : Label) (how : Kind) (parent : Option Label) (g : Labelled) →
        Walks AreSo e k (let r = begin_action l how parent (parent_of parent t.coord) t.coord in
        r.outs) (Up AreSo k (with_coord t (begin_action l how parent (parent_of parent t.coord) t.coord).part)) d (given l g M)
    begin_walk l how parent g =
        let r = begin_action l how parent (parent_of parent t.coord) t.coord in
        back k d (Some (with_coord t r.part)) (given l g M) all.0
        (λ v is. subst (λ (z : Parts). QAt k M.sent z.coord) (some_is is) (kept.begins s t.coord place l how parent its)) others

  -- ---- restarts, and at first

  module _ (begun : List Action) (hd : Header) (e k : ℕ) (d : Disk) (M : Seen) (good : IsGoodOf begun (down k d M))
      (all : AreSo (down k d M)) where
    abbrev v : Parts
    v = parts_in k (d.inc + 1) d

    fresh : (p : Post) (h : Head) (a : Ask) → In p M.sent → asks p.message ≡ Some (h, a) → (u : Uid) → is_on (uids_of h.path) u ≡ true →
        is_own u (new_tree k (d.inc + 1)) ≡ true → ⊥
    fresh p h a there is u on own =
        let asker = asker_of a (fits_asked begun p.message h a is (good.fits p there)) in
        let f = counted_of k d None M (begun, good) in
        let o = and_parts (u.node == k) (u.inc == d.inc + 1) own in
        late (f.1 asker.0 u asker.1 (ap (λ q. is_on (uids_of q) u) asker.2 ∙ on) (eqb-true u.node k o.0)) (eqb-true u.inc (d.inc + 1) o.1)
      where
        late : {n : ℕ} → (u.inc < d.inc) ⊎ ((u.inc ≡ d.inc) × (u.num ≤ n)) → u.inc ≡ d.inc + 1 → ⊥
        late (inl less) same = omega (arith, less, same)
        late (inr q) same = omega (arith, q.0, same)

        asker_of : (b : Ask) → FitsAsk begun h b → IsAsker begun h.path
        asker_of (ask.Bind x include avoid) f = f
        asker_of (ask.Load x) f = f
        asker_of (ask.Activate b st) f = f
        asker_of (ask.Record x b i g) f = f
        asker_of (ask.Invoke x b i ends op) f = f.0
        asker_of (ask.Vote i ties ends) f = f.0
        asker_of (ask.Prepare states) f = f
        asker_of (ask.Confirm grants excluded included) f = f

    new_so : AllSo v.coord (restart_outs hd k (d.inc + 1) d)
    new_so = both four hellos
        (both three asking (both two tolds (both one records (tt, (tt, (tt, (tt, back_so (naming_at k (d.inc + 1) d.names)))))
        (tt, all_map So (λ (e : Uid × Intent). Say (body.Recovered k e.0)) d.intents (λ e. tt))) (tolds_so v.coord d.intents))
        (all_map So query_about (uid_set (prepared_actions d.store ++ prepared_actions d.names)) (λ u h a is. absurd (cc is))))
        (all_map So (hello_to k (d.inc + 1)) (without_number k (numbers_to hd.nodes)) (λ w h a is. absurd (cc is)))
      where
        So : Effect → Type 0
        So = SendsSo v.coord

        both : (es fs : List Effect) → AllSo v.coord es → AllSo v.coord fs → AllSo v.coord (es ++ fs)
        both es fs a b = so_both v.coord es fs a b

        back_so : (o : Option Naming) → AllSo v.coord (naming_back o)
        back_so None = tt
        back_so (Some o) = all_flat So (λ (e : ℕ × Named). back_lines e.1) o.objects (λ e. all_map So _ e.1.rows (λ r. tt))

        one : List Effect
        one = Do Look ∷ Do (PutInc (d.inc + 1)) ∷ Say (body.Up k (d.inc + 1)) ∷ Do Look ∷ naming_back (naming_at k (d.inc + 1) d.names)

        records : List Effect
        records = Do Look ∷ recovered_records k d.intents

        two : List Effect
        two = one ++ records

        tolds : List Effect
        tolds = tolds_again d.intents

        three : List Effect
        three = two ++ tolds

        asking : List Effect
        asking = map query_about (uid_set (prepared_actions d.store ++ prepared_actions d.names))

        four : List Effect
        four = three ++ asking

        hellos : List Effect
        hellos = map (hello_to k (d.inc + 1)) (without_number k (numbers_to hd.nodes))

    started : IsGoodCoord begun (paths_of begun) v.coord
    started = let g = good_fresh begun (paths_of begun) k d.inc (d.inc + 1) (counted_of k d None M (begun, good)).0
        (counted_of k d None M (begun, good)).1 (omega arith) in record { tree = g.tree; home = g.home; known = g.known; busy = g.busy }

    restart_walk : Walks AreSo e k (restart_outs hd k (d.inc + 1) d) (Up AreSo k (parts_in k (d.inc + 1) d)) d M
    restart_walk = walk e k v (restart_outs hd k (d.inc + 1) d) d M (begun, good.begun, started) new_so all.0 (others_at k d None M all)
        (kept.new (record { node = k; sent = M.sent }) (d.inc + 1) d.intents fresh)

  first_so : (hd : Header) → IsAtStarts hd AreSo
  first_so hd st formed = (
    kept.none,
    λ j n t is live. subst (λ (z : Parts). QAt j [] z.coord) (first_up hd st j n t is live)
        (kept.new (record { node = j; sent = [] }) (st.incs j + 1) [] (λ p h q there. absurd there)),
  )

  -- ---- all runs

  pub coords_given : (hd : Header) → KeepsGiven hd (λ M. IsGood M × BindsAreKnown M) AreSo
  coords_given hd = record {
    quiet = λ e bs M quiet_lines g p. p;
    stop = λ e k d live M g p. back k d None M p.0 (λ t is. absurd (cc is)) (others_at k d live M p);
    message =
        λ e k d t v from m outs M g p there meant is. (let h = g.0 in message_walk h.0 e k d t M h.1 g.1 p from m v outs there meant is);
    act = λ e k d t i M is free g p. (let h = g.0 in act_walk h.0 e k d t M h.1 g.1 p hd i is free);
    begin = λ e k d t l how parent M new may free g p. (let h = g.0 in
        begin_walk h.0 e k d t M h.1 g.1 p l how parent (record { node = k; serial = is_serial how }));
    tick = λ e k d t M g p. (let h = g.0 in tick_walk h.0 e k d t M h.1 g.1 p);
    restart = λ e k d M g p. (let h = g.0 in restart_walk h.0 hd e k d M h.1 p);
    first = first_so hd;
  }

  pub coords_keep : (hd : Header) → Keeps hd (λ M. (IsGood M × BindsAreKnown M) × AreSo M)
  coords_keep hd = kept_both hd (λ M. IsGood M × BindsAreKnown M) AreSo (binds_keep hd) (coords_given hd)

-- where nothing is kept of all that was sent
module _ (Q : Sender → Coord → Type 0) (kept : IsKeptBy (λ sent. ⊤) Q) where
  abbrev Base : Seen → Type 0
  Base M = IsGood M × BindsAreKnown M

  abbrev Both : Seen → Type 0
  Both M = AreSo (λ sent. ⊤) Q kept M

  plain : (e k : ℕ) (outs : List Effect) (v : Parts) (d : Disk) (M : Seen) → Walks Both e k outs (Up Both k v) d M →
      Walks (AtCoords Q) e k outs (Up (AtCoords Q) k v) d M
  plain e k outs v d M w = walks_to Both (AtCoords Q) e k outs (Up Both k v) (Up (AtCoords Q) k v) d M (λ N p. p.1) (λ c N p. p.1) w

  plain_given : (hd : Header) → KeepsGiven hd Base Both → KeepsGiven hd Base (AtCoords Q)
  plain_given hd g = record {
    quiet = λ e bs M quiet_lines b p. (g.quiet e bs M quiet_lines b (tt, p)).1;
    stop = λ e k d live M b p. (g.stop e k d live M b (tt, p)).1;
    message =
        λ e k d t v from m outs M b p there meant is. plain e k outs v d M (g.message e k d t v from m outs M b (tt, p) there meant is);
    act = λ e k d t i M is free b p. let did = acts i d.intents t.coord in
        plain e k did.outs (with_coord t did.part) d M (g.act e k d t i M is free b (tt, p));
    begin = λ e k d t l how parent M new may free b p. let did = begin_action l how parent (parent_of parent t.coord) t.coord in
        plain e k did.outs (with_coord t did.part) d (given l (record { node = k; serial = is_serial how }) M)
        (g.begin e k d t l how parent M new may free b (tt, p));
    tick = λ e k d t M b p. plain e k (tick_outs (record { number = k; disk = d; live = Some t }) t)
        (with_coord t (again_all t.coord.doings t.coord).part) d M (g.tick e k d t M b (tt, p));
    restart = λ e k d M b p. plain e k (restart_outs hd k (d.inc + 1) d) (parts_in k (d.inc + 1) d) d M (g.restart e k d M b (tt, p));
    first = λ st formed. (g.first st formed).1;
  }

  pub coords_plain : (hd : Header) → Keeps hd (λ M. (IsGood M × BindsAreKnown M) × AtCoords Q M)
  coords_plain hd = kept_both hd Base (AtCoords Q) (binds_keep hd) (plain_given hd (coords_given (λ sent. ⊤) Q kept hd))
