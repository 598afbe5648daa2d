-- A quiesce that begins where nobody waits leaves nothing to be done.
use Rattle.arj_law_parts.proofs.Words
use Words.{◌≤◌, Bool, List, None, Option, Some, [], ap, append_assoc, arith, eqb-true, false, inl, inr, length, map, refl, subst, sym, true}
use Words.{ℕ, ⊎_elim, ◌++◌, ◌∙◌, ◌∷◌, ◌≡◌, ◌≢◌, ◌⊎◌, ◌&&◌, ◌||◌, ◌==◌, not, is_some, filter, if◌then◌else◌, nat_le, AllByRecursion}
use Words.{list_any, or_right, nat_tests, uid_cases, uid_is, uid_same, in_left, in_right, Body, End, Header, Message, ObjectState, Uid}
use Words.{asks, is_on, uid_eq, answers, last_end, again_all, again_now, Committing, Coord, Doing, Idle, Did, Disk, Do, Effect, Intent}
use Words.{is_prepared, RemoveIntent, Send, Served, acked, acked_by, acked_left, answer_decided, answer_query, answer_recorded, is_deferred}
use Words.{is_kept_commit, let_go, root_or_self, tell, tell_all, tolds_let_go, tick_outs, Handled, Parts, Took, Void, ack_told, by_reply}
use Words.{handle_ends, holders, is_earlier, locks_of, naming_hello, naming_told, prepared_actions, query_about, store_told, taken}
use Words.{with_coord, at_uid, has, uid_set, without_number, without_uid, server_holders, Node, is_idle, is_waiting_now}
use Words.{tolds_again, at_place, branch_of, is_open, World, lowest_from, run_event, Move, moved, Post, Seen, see, AreIdle}
use Words.{AreQuiet, NobodyWaits, AreUp, IsSaid, coord_in, most_frames, is_empty}
use Words.list as members
use Words.event
use Words.ending
use Words.message
use Words.server
use Words.world
use Rattle.arj_law_runs.proofs.Terms.{at_in, without_cases, IsGood, Holds, KeepsAsked, In, up, arms_hold, SettlesAll}
use Rattle.arj_law_parts.proofs.parts.Keys.{at_here, at_there, put_cases, with_on}
use Rattle.arj_law_parts.specs.parts.Coords.{IsCommitting}
use Rattle.arj_law_runs.proofs.coordinators.CoordUses.{some_is}
use Rattle.arj_law_runs.proofs.resting
use resting.{Effects.works, Hearing.has_left, Quiesces.doing_there, Quiesces.keeps_good, Ways.AllBut, Ways.Then, Ways.post_of}
use resting.Endings.{AreInOrder, Fewer, HasTold, OnlyEnd, ack_ends, ends_fewer, naming_ends, only_on, sent_plain, server_ends, store_ends}
use resting.Endings.{told_leaves}
use resting.Flights.{Left, SameWay, with_here}
use resting.Settles.{Also, Nobody, quiesce_leaves}
use resting.Worlds.{Flown, IsLive, Of, TicksGive, Under, Ups, live_at, none_under, seen_up, there_here}
use Rattle.arj_law_runs.specs.resting.Quiet.{Acking, AreKept, AreSettling, BringsAck, BringsEnd, Ending, IsPrepared, Querying}
use Rattle.arj_law_runs.specs.resting.Quiet.{QuiescesSettle, Telling, TellsCommit, TellsLast}
use Rattle.arj_protocol.specs.Ending.{is_over}

-- ---- a message that ends, acknowledges, asks about or greets

abbrev pub acked_of : Uid → Message
acked_of u = message.Acked (record { act = u })

abbrev pub query_of : Uid → Message
query_of u = message.Query (record { act = u })

-- the action of a question or an acknowledgement
abbrev act_in : Uid → Message → Uid
act_in u (message.Acked m) = m.act
act_in u (message.Query m) = m.act
act_in u m = u

-- What a node leaves of such a message: the same work, effects that prepare nothing, of what is told no more than before without what was
-- acknowledged, of what is prepared no more than before without what was told; an acknowledgement, and an answer to a question.
pub record Leaves (n from : ℕ) (m : Message) (d : Disk) (t v : Parts) (outs : List Effect) (asked : Uid → Type 0) : Type 0 where
  pub idle : v.coord.doings ≡ t.coord.doings
  pub only : OnlyEnd outs
  pub telling : (u : Uid) (i : Intent) (j : ℕ) → at_uid u v.coord.telling ≡ Some i → has i.nodes j ≡ true →
      (q : Intent) × (at_uid u t.coord.telling ≡ Some q) × (has q.nodes j ≡ true) × (from ≡ j → m ≡ acked_of u → ⊥)
  pub prepared : (u : Uid) → IsPrepared u (works outs d) → IsPrepared u d × (TellsLast u m → ⊥)
  pub acked : (u : Uid) → TellsCommit u m → members.In (Send from (acked_of u)) outs
  pub answered : (u : Uid) → asked u → m ≡ query_of u → (x : Message) × members.In (Send from x) outs × TellsLast u x

module _ (of nodes : ℕ → Type 0) (n from : ℕ) (m : Message) (d : Disk) (t : Parts) (M : Seen) (F G : Post → Type 0)
    (less : AllBut (post_of from n m) F G) (back : (q : Post) → G q → F q) (settling : AreSettling of nodes (up n d t M).nodes F) where
  -- the action is prepared where the message comes from, and of this node
  abbrev Asked : Uid → Type 0
  Asked u = (a : Node) × ((up n d t M).nodes from ≡ Some a) × IsPrepared u a.disk × (u.node ≡ n)

  settled_by : (v : Parts) (outs : List Effect) → Leaves n from m d t v outs Asked →
      AreSettling of nodes (with_here n (record { disk = works outs d; parts = v }) M.nodes) (Then G n outs)
  settled_by v outs l = record {
    idle = λ k a x ofs found live. idles k a x ofs (k == n) refl found live;
    plain = λ p. ⊎_elim (λ g. settling.plain p (back p g)) (λ s. sent_plain outs p.to p.message l.only s.1);
    acks = λ k a x u i j there found live at on. acks k a x u i j there (k == n) refl found live at on;
    ends = λ k a u there found p. ends k a u there (k == n) refl found p;
  }
    where
      here : (k : ℕ) → (k == n) ≡ true → (up n d t M).nodes k ≡ Some (record { number = n; disk = d; live = Some t })
      here k is = λ i. if is i then Some (record { number = n; disk = d; live = Some t }) else M.nodes k

      other : (k : ℕ) (a : Node) → (k == n) ≡ false → M.nodes k ≡ Some a → (up n d t M).nodes k ≡ Some a
      other k a is found = (λ i. if is i then Some (record { number = n; disk = d; live = Some t }) else M.nodes k) ∙ found

      idles : (k : ℕ) (a : Node) (x : Parts) → of k → (b : Bool) → (k == n) ≡ b → (if b then Some
          (record { number = n; disk = works outs d; live = Some v }) else M.nodes k) ≡ Some a → a.live ≡ Some x → AreIdle x.coord
      idles k a x ofs false apart found live = settling.idle k a x ofs (other k a apart found) live
      idles k a x ofs true is found live =
          let node : record { number = n; disk = works outs d; live = Some v } ≡ a = some_is _ a found in
          let parts : v ≡ x = some_is v x (ap (λ (z : Node). z.live) node ∙ live) in
          subst (λ (z : Parts). AreIdle z.coord) parts (subst (AllByRecursion (λ (q : Doing). q.now ≡ Idle)) (sym l.idle)
          (settling.idle k (record { number = n; disk = d; live = Some t }) t ofs (here k is) refl))

      -- what brings an acknowledgement goes on
      ack_on : (k j : ℕ) (u : Uid) → (k ≡ n → from ≡ j → m ≡ acked_of u → ⊥) → (p : Post) × F p × BringsAck k j u p →
          (p : Post) × Then G n outs p × BringsAck k j u p
      ack_on k j u never way = ⊎_elim (λ same. by (subst (BringsAck k j u) same way.2)) (λ g. (way.0, inl g, way.2)) (less way.0 way.1)
        where
          by : BringsAck k j u (post_of from n m) → (p : Post) × Then G n outs p × BringsAck k j u p
          by (Telling f to tells) = (post_of n from (acked_of u), inr (refl, l.acked u tells), Acking to f refl)
          by (Acking f to is) = absurd (never (sym to) f is)

      acks : (k : ℕ) (a : Node) (x : Parts) (u : Uid) (i : Intent) (j : ℕ) → nodes k → (b : Bool) → (k == n) ≡ b →
          (if b then Some (record { number = n; disk = works outs d; live = Some v }) else M.nodes k) ≡ Some a → a.live ≡ Some x →
          at_uid u x.coord.telling ≡ Some i → has i.nodes j ≡ true
          → (p : Post) × Then G n outs p × BringsAck k j u p
      acks k a x u i j there false apart found live at on =
          ack_on k j u (λ is f z. apart_numbers k n apart is) (settling.acks k a x u i j there (other k a apart found) live at on)
        where
          apart_numbers : (k n : ℕ) → (k == n) ≡ false → k ≡ n → ⊥
          apart_numbers k n apart is = grind (arith, nat_tests)
      acks k a x u i j there true is found live at on =
          let node : record { number = n; disk = works outs d; live = Some v } ≡ a = some_is _ a found in
          let parts : v ≡ x = some_is v x (ap (λ (z : Node). z.live) node ∙ live) in
          let old = l.telling u i j (ap (λ (z : Parts). at_uid u z.coord.telling) parts ∙ at) on in
          ack_on k j u (λ same f z. old.3 f z)
          (settling.acks k (record { number = n; disk = d; live = Some t }) t u old.0 j there (here k is) refl old.1 old.2)

      -- what brings an end goes on
      end_on : (k : ℕ) (u : Uid) → (k ≡ n → TellsLast u m → ⊥) → ((a : Node) × ((up n d t M).nodes k ≡ Some a) × IsPrepared u a.disk) →
          (p : Post) × F p × BringsEnd k u p → (p : Post) × Then G n outs p × BringsEnd k u p
      end_on k u never there way = ⊎_elim (λ same. by (subst (BringsEnd k u) same way.2)) (λ g. (way.0, inl g, way.2)) (less way.0 way.1)
        where
          by : BringsEnd k u (post_of from n m) → (p : Post) × Then G n outs p × BringsEnd k u p
          by (Querying f to is) = let a = l.answered u (there.0, ap (up n d t M).nodes f ∙ there.1, there.2, sym to) is in
              (post_of n from a.0, inr (refl, a.1), Ending f a.2)
          by (Ending to tells) = absurd (never (sym to) tells)

      ends : (k : ℕ) (a : Node) (u : Uid) → nodes k → (b : Bool) → (k == n) ≡ b →
          (if b then Some (record { number = n; disk = works outs d; live = Some v }) else M.nodes k) ≡ Some a → IsPrepared u a.disk →
          (p : Post) × Then G n outs p × BringsEnd k u p
      ends k a u there false apart found p = end_on k u (λ is tells. apart_numbers k n apart is) (a, other k a apart found, p)
          (settling.ends k a u there (other k a apart found) p)
        where
          apart_numbers : (k n : ℕ) → (k == n) ≡ false → k ≡ n → ⊥
          apart_numbers k n apart is = grind (arith, nat_tests)
      ends k a u there true is found p =
          let node : record { number = n; disk = works outs d; live = Some v } ≡ a = some_is _ a found in
          let old = l.prepared u (subst (λ (z : Node). IsPrepared u z.disk) (sym node) p) in
          let mine : Node = record { number = n; disk = d; live = Some t } in
          end_on k u (λ same tells. old.1 tells) (mine, here k is, old.0) (settling.ends k mine u there (here k is) old.0)

-- ---- each message

module _ (n from : ℕ) (d : Disk) (t : Parts) (order : AreKept d t) (home : (u : Uid) → is_prepared u d.names ≡ true →
    is_some t.naming ≡ true) (asked : Uid → Type 0) where
  in_order : AreInOrder d
  in_order = record { store = order.store; names = order.names }

  -- nothing is prepared behind effects that prepare nothing which wasn't before
  fewer_prepared : (c : Disk) → Fewer d c → (u : Uid) → IsPrepared u c → IsPrepared u d
  fewer_prepared c f u (inl s) = inl (f.store u s)
  fewer_prepared c f u (inr s) = inr (f.names u s)

  told_of : (u w : Uid) (e f : End) → ◌≡◌ {A = Option (Uid × End)} (Some (u, e)) (Some (w, f)) → u ≡ w
  told_of u w e f is = let same : ◌≡◌ {A = Uid × End} (u, e) (w, f) = some_is (u, e) (w, f) is in ap (λ (x : Uid × End). x.0) same

  -- no end is told
  nothing_told : (root : Uid) (ack : Bool) (ends : List (Uid × End)) → last_end ends ≡ None →
      Leaves n from (message.Told (record { root = root; ack = ack; ends = ends })) d t t [] asked
  nothing_told root ack ends none = record {
    idle = refl;
    only = tt;
    telling = λ u i j at on. (i, at, on, λ f is. absurd (cc is));
    prepared =
        λ u p. (p, λ tells. let no_way : ◌≡◌ {A = Option (Uid × End)} None (Some (u, tells.0)) = sym none ∙ tells.1 in absurd (cc no_way));
    acked = λ u tells. let no_way : ◌≡◌ {A = Option (Uid × End)} None (Some (u, ending.Commit)) = sym none ∙ tells.1 in absurd (cc no_way);
    answered = λ u a is. absurd (cc is);
  }

  end_told : (root : Uid) (ack : Bool) (ends : List (Uid × End)) (u : Uid) (e : End) → last_end ends ≡ Some (u, e)
      → let o = naming_told u e d.names t.naming in let s = server.told n ends t.server in
      Leaves n from (message.Told (record { root = root; ack = ack; ends = ends })) d t
      (record { server = s.part; naming = o.part; coord = t.coord })
      (store_told n u e d.store ++ o.outs ++ s.outs ++ ack_told from u ack) asked
  end_told root ack ends u e last = record {
    idle = refl;
    only = only_on (store_told n u e d.store ++ (naming_told u e d.names t.naming).outs ++ (server.told n ends t.server).outs)
        (ack_told from u ack) (only_on (store_told n u e d.store ++ (naming_told u e d.names t.naming).outs)
        (server.told n ends t.server).outs (only_on (store_told n u e d.store) (naming_told u e d.names t.naming).outs
        (store_ends n u e d.store) (naming_ends u e d.names t.naming)) (server_ends n ends t.server)) (ack_ends from u ack);
    telling = λ w i j at on. (i, at, on, λ f is. absurd (cc is));
    prepared =
        λ w p. (fewer_prepared (works all d) (let f = left.fewer in f) w p, λ tells. over w (told_of u w e tells.0 (sym last ∙ tells.1)) p);
    acked = λ w tells. in_right (Send from (acked_of w)) (store_told n u e d.store ++ (naming_told u e d.names t.naming).outs
        ++ (server.told n ends t.server).outs) (ack_told from u ack) (acks w tells);
    answered = λ w a is. absurd (cc is);
  }
    where
      all : List Effect
      all = store_told n u e d.store ++ (naming_told u e d.names t.naming).outs ++ (server.told n ends t.server).outs ++ ack_told from u ack

      left : HasTold u d (works all d)
      left = subst (λ es. HasTold u d (works es d)) (sym (append_assoc (store_told n u e d.store ++ (naming_told u e d.names t.naming).outs)
          (server.told n ends t.server).outs (ack_told from u ack)))
          (told_leaves n u e d t.naming ((server.told n ends t.server).outs ++ ack_told from u ack) in_order (home u)
          (only_on (server.told n ends t.server).outs (ack_told from u ack) (server_ends n ends t.server) (ack_ends from u ack)))

      over : (w : Uid) → u ≡ w → IsPrepared w (works all d) → ⊥
      over w same (inl p) = let no_way : false ≡ true = sym left.store ∙ ap (λ v. is_prepared v (works all d).store) same ∙ p in
          absurd (cc no_way)
      over w same (inr p) = let no_way : false ≡ true = sym left.names ∙ ap (λ v. is_prepared v (works all d).names) same ∙ p in
          absurd (cc no_way)

      acks : (w : Uid) → TellsCommit w (message.Told (record { root = root; ack = ack; ends = ends })) →
          members.In (Send from (acked_of w)) (ack_told from u ack)
      acks w tells =
          let same : u ≡ w = told_of u w e ending.Commit (sym last ∙ tells.1) in
          subst (λ b. members.In (Send from (acked_of w)) (if b then Send from (acked_of u) ∷ [] else [])) (sym tells.0)
          (inl (λ i. Send from (acked_of (same i))))

  -- the node that asks is told an end
  abbrev AnswersSo : Uid → List Effect → Type 0
  AnswersSo u outs = (x : Message) × members.In (Send from x) outs × TellsLast u x

  decided_only : (act : Uid) (c : Coord) → OnlyEnd (answer_decided from act c)
  decided_only act c = by (is_kept_commit from act c)
    where
      by : (b : Bool) → OnlyEnd (if b then tell (root_or_self act (branch_of act c.tree)) false ((act, ending.Commit) ∷ []) from
          ∷ [] else tell (root_or_self act (branch_of act c.tree)) false ((act, ending.Abort) ∷ []) from ∷ [])
      by true = (refl, tt)
      by false = (refl, tt)

  decided_so : (act : Uid) (c : Coord) → AnswersSo act (answer_decided from act c)
  decided_so act c = by (is_kept_commit from act c)
    where
      by : (b : Bool) → AnswersSo act (if b then tell (root_or_self act (branch_of act c.tree)) false ((act, ending.Commit) ∷ []) from
          ∷ [] else tell (root_or_self act (branch_of act c.tree)) false ((act, ending.Abort) ∷ []) from ∷ [])
      by true = (
        message.Told (record { root = root_or_self act (branch_of act c.tree); ack = false; ends = (act, ending.Commit) ∷ [] }),
        inl refl,
        (ending.Commit, refl),
      )
      by false = (
        message.Told (record { root = root_or_self act (branch_of act c.tree); ack = false; ends = (act, ending.Abort) ∷ [] }),
        inl refl,
        (ending.Abort, refl),
      )

  recorded_only : (act : Uid) (c : Coord) (o : Option Intent) → OnlyEnd (answer_recorded from act c o)
  recorded_only act c None = decided_only act c
  recorded_only act c (Some i) = by (has i.nodes from)
    where
      by : (b : Bool) → OnlyEnd (if b then tell i.root true ((act, ending.Commit) ∷ []) from ∷ [] else answer_decided from act c)
      by true = (refl, tt)
      by false = decided_only act c

  recorded_so : (act : Uid) (c : Coord) (o : Option Intent) → AnswersSo act (answer_recorded from act c o)
  recorded_so act c None = decided_so act c
  recorded_so act c (Some i) = by (has i.nodes from)
    where
      by : (b : Bool) → AnswersSo act (if b then tell i.root true ((act, ending.Commit) ∷ []) from ∷ [] else answer_decided from act c)
      by true = (message.Told (record { root = i.root; ack = true; ends = (act, ending.Commit) ∷ [] }), inl refl, (ending.Commit, refl))
      by false = decided_so act c

  query_only : (act : Uid) (c : Coord) → OnlyEnd (answer_query from act d.intents c)
  query_only act c = by (is_open act c.tree || is_deferred act d.intents from)
    where
      by : (b : Bool) → OnlyEnd (if b then [] else answer_recorded from act c (at_uid act d.intents))
      by true = tt
      by false = recorded_only act c (at_uid act d.intents)

  query_so : (act : Uid) (c : Coord) → is_open act c.tree ≡ false → is_deferred act d.intents from ≡ false →
      AnswersSo act (answer_query from act d.intents c)
  query_so act c ended plain = subst (λ b. AnswersSo act (if b then [] else answer_recorded from act c (at_uid act d.intents)))
      (λ i. sym ended i || sym plain i) (recorded_so act c (at_uid act d.intents))

  query_is : (u w : Uid) → query_of u ≡ query_of w → u ≡ w
  query_is u w is = ap (act_in u) is

  -- a question is answered, unless the action is open
  end_asked : (act : Uid) → (asked act → (is_open act t.coord.tree ≡ false) × (is_deferred act d.intents from ≡ false)) →
      Leaves n from (query_of act) d t t (answer_query from act d.intents t.coord) asked
  end_asked act over = record {
    idle = refl;
    only = query_only act t.coord;
    telling = λ u i j at on. (i, at, on, λ f is. absurd (cc is));
    prepared = λ u p. (
      fewer_prepared (works (answer_query from act d.intents t.coord) d)
          (ends_fewer (answer_query from act d.intents t.coord) d (query_only act t.coord) in_order) u p,
      λ tells. tells,
    );
    acked = λ u tells. absurd tells;
    answered = λ u a is. let same : act ≡ u = query_is act u is in subst (λ v. AnswersSo v (answer_query from act d.intents t.coord)) same
        (let o = over (subst asked (sym same) a) in query_so act t.coord o.0 o.1);
  }

  queries_only : (us : List Uid) → OnlyEnd (map query_about us)
  queries_only [] = tt
  queries_only (u ∷ us) = (refl, queries_only us)

  -- a node that is up again is answered by questions
  hello_heard : (node inc : ℕ) → Leaves n from (message.Hello (record { node = node; inc = inc })) d t
      (record t { naming = naming_hello node inc t.naming }) (map query_about (filter (is_earlier node inc) (holders d t))) asked
  hello_heard node inc = record {
    idle = refl;
    only = queries_only (filter (is_earlier node inc) (holders d t));
    telling = λ u i j at on. (i, at, on, λ f is. absurd (cc is));
    prepared = λ u p. (
      fewer_prepared (works (map query_about (filter (is_earlier node inc) (holders d t))) d) (ends_fewer (map query_about
          (filter (is_earlier node inc) (holders d t))) d (queries_only (filter (is_earlier node inc) (holders d t))) in_order) u p,
      λ tells. tells,
    );
    acked = λ u tells. absurd tells;
    answered = λ u a is. absurd (cc is);
  }

  -- ---- acknowledgements

  tells_only : (root : Uid) (ends : List (Uid × End)) (ns : List ℕ) → OnlyEnd (tell_all root false ends ns)
  tells_only root ends [] = tt
  tells_only root ends (k ∷ ks) = (refl, tells_only root ends ks)

  let_go_only : (u : Uid) (intents : List (Uid × Intent)) (c : Coord) (o : Option Intent) → OnlyEnd (tolds_let_go u intents c o)
  let_go_only u intents c None = tt
  let_go_only u intents c (Some i) = by (not (uid_eq i.root u) && is_over (branch_of i.root c.tree))
    where
      by : (b : Bool) → OnlyEnd (if b then tell_all i.root false ((i.root, ending.Abort) ∷ []) (let_go i.root intents c i.nodes) else [])
      by true = tells_only i.root ((i.root, ending.Abort) ∷ []) (let_go i.root intents c i.nodes)
      by false = tt

  acked_is : (u w : Uid) → acked_of u ≡ acked_of w → u ≡ w
  acked_is u w is = ap (act_in u) is

  -- an acknowledgement that is awaited
  ack_left : (act : Uid) (i : Intent) (ns : List ℕ) → at_uid act t.coord.telling ≡ Some i → without_number from i.nodes ≡ ns
      → let r = acked_left act i d.intents t.coord ns in Leaves n from (acked_of act) d t (with_coord t r.part) r.outs asked
  ack_left act i [] at none = record {
    idle = refl;
    only = (refl, let_go_only act (without_uid act d.intents) t.coord (at_uid act d.intents));
    telling = λ u q j there on. let c = without_cases u act q t.coord.telling order.telling there in
        (q, c.1, on, λ f is. c.0 (sym (acked_is act u is)));
    prepared = λ u p. (
      fewer_prepared _ (ends_fewer (Do (RemoveIntent act) ∷ tolds_let_go act (without_uid act d.intents) t.coord (at_uid act d.intents)) d
          (refl, let_go_only act (without_uid act d.intents) t.coord (at_uid act d.intents)) in_order) u p,
      λ tells. tells,
    );
    acked = λ u tells. absurd tells;
    answered = λ u a is. absurd (cc is);
  }
  ack_left act i (k ∷ ks) at some = record {
    idle = refl;
    only = tt;
    telling = λ u q j there on. ⊎_elim
        (λ same. let left = has_left from j i.nodes (ap (λ ns. has ns j) some ∙ ap (λ (x : Intent). has x.nodes j) same.1 ∙ on) in
        (i, ap (λ v. at_uid v t.coord.telling) same.0 ∙ at, left.0, λ f is. left.1 (sym f)))
        (λ old. (q, old.1, on, λ f is. old.0 (sym (acked_is act u is))))
        (put_cases u act (record i { nodes = k ∷ ks }) q t.coord.telling there);
    prepared = λ u p. (p, λ tells. tells);
    acked = λ u tells. absurd tells;
    answered = λ u a is. absurd (cc is);
  }

  -- ---- all of them

  -- What a node makes of a message that neither asks nor answers: it takes it, or it is void and acknowledges nothing that is awaited.
  pub data IsHandled (m : Message) : Handled → Type 0 where
    IsTaken : (v : Parts) (outs : List Effect) → Leaves n from m d t v outs asked → IsHandled m (Took v outs)
    IsNothing : (outs : List Effect) → Leaves n from m d t t [] asked → IsHandled m (Void outs)

  unawaited : (act : Uid) → ((i : Intent) → at_uid act t.coord.telling ≡ Some i → has i.nodes from ≡ true → ⊥) →
      Leaves n from (acked_of act) d t t [] asked
  unawaited act none = record {
    idle = refl;
    only = tt;
    telling = λ u i j at on. (
      i,
      at,
      on,
      λ f is. let same : act ≡ u = acked_is act u is in none i (ap (λ v. at_uid v t.coord.telling) same ∙ at) (ap (has i.nodes) f ∙ on),
    );
    prepared = λ u p. (p, λ tells. tells);
    acked = λ u tells. absurd tells;
    answered = λ u a is. absurd (cc is);
  }

  acked_handled : (act : Uid) →
      IsHandled (acked_of act) (let r = acked from act d.intents t.coord in by_reply (with_coord t r.part) r.outs r.reply)
  acked_handled act = by (at_uid act t.coord.telling) refl
    where
      left : (i : Intent) → at_uid act t.coord.telling ≡ Some i → (ns : List ℕ) → without_number from i.nodes ≡ ns →
          IsHandled (acked_of act) (let r = acked_left act i d.intents t.coord ns in by_reply (with_coord t r.part) r.outs r.reply)
      left i at [] is = let r = acked_left act i d.intents t.coord [] in IsTaken (with_coord t r.part) r.outs (ack_left act i [] at is)
      left i at (k ∷ ks) is = let r = acked_left act i d.intents t.coord (k ∷ ks) in
          IsTaken (with_coord t r.part) r.outs (ack_left act i (k ∷ ks) at is)

      one : (i : Intent) → at_uid act t.coord.telling ≡ Some i → (b : Bool) → has i.nodes from ≡ b
          → IsHandled (acked_of act) (let r : Served Coord (Unit {0}) = if b then acked_left act i d.intents t.coord (without_number from
          i.nodes) else record { part = t.coord; outs = []; reply = None } in by_reply (with_coord t r.part) r.outs r.reply)
      one i at true on = left i at (without_number from i.nodes) refl
      one i at false off = IsNothing [] (unawaited act (λ j there on. let same : i ≡ j = some_is i j (sym at ∙ there) in
          let no_way : false ≡ true = sym off ∙ ap (λ (x : Intent). has x.nodes from) same ∙ on in absurd (cc no_way)))

      by : (o : Option Intent) → at_uid act t.coord.telling ≡ o →
          IsHandled (acked_of act) (let r = acked_by from act d.intents t.coord o in by_reply (with_coord t r.part) r.outs r.reply)
      by None none = IsNothing []
          (unawaited act (λ i there on. let no_way : ◌≡◌ {A = Option Intent} None (Some i) = sym none ∙ there in absurd (cc no_way)))
      by (Some i) at = one i at (has i.nodes from) refl

  pub handled : (m : Message) → asks m ≡ None → answers m ≡ None → ((act : Uid) → m ≡ query_of act → asked act →
      (is_open act t.coord.tree ≡ false) × (is_deferred act d.intents from ≡ false)) → IsHandled m (taken n d t from m)
  handled (message.Told x) silent mute over = by (last_end x.ends) refl
    where
      by : (o : Option (Uid × End)) → last_end x.ends ≡ o → IsHandled (message.Told x) (handle_ends n d t from x.ack x.ends o)
      by None none = IsTaken t [] (nothing_told x.root x.ack x.ends none)
      by (Some e) is = let o = naming_told e.0 e.1 d.names t.naming in let s = server.told n x.ends t.server in
          IsTaken (record { server = s.part; naming = o.part; coord = t.coord })
          (store_told n e.0 e.1 d.store ++ o.outs ++ s.outs ++ ack_told from e.0 x.ack) (end_told x.root x.ack x.ends e.0 e.1 is)
  handled (message.Acked x) silent mute over = acked_handled x.act
  handled (message.Query x) silent mute over =
      IsTaken t (answer_query from x.act d.intents t.coord) (end_asked x.act (λ a. over x.act refl a))
  handled (message.Hello x) silent mute over = IsTaken (record t { naming = naming_hello x.node x.inc t.naming })
      (map query_about (filter (is_earlier x.node x.inc) (holders d t))) (hello_heard x.node x.inc)
  handled (message.Bind m) silent mute over = absurd (cc silent)
  handled (message.Load m) silent mute over = absurd (cc silent)
  handled (message.Activate m) silent mute over = absurd (cc silent)
  handled (message.RecordMsg m) silent mute over = absurd (cc silent)
  handled (message.Invoke m) silent mute over = absurd (cc silent)
  handled (message.Vote m) silent mute over = absurd (cc silent)
  handled (message.Prepare m) silent mute over = absurd (cc silent)
  handled (message.Confirm m) silent mute over = absurd (cc silent)
  handled (message.Bound m) silent mute over = absurd (cc mute)
  handled (message.Loaded m) silent mute over = absurd (cc mute)
  handled (message.Activated m) silent mute over = absurd (cc mute)
  handled (message.Recorded m) silent mute over = absurd (cc mute)
  handled (message.Invoked m) silent mute over = absurd (cc mute)
  handled (message.Voted m) silent mute over = absurd (cc mute)
  handled (message.Prepared m) silent mute over = absurd (cc mute)
  handled (message.Confirmed m) silent mute over = absurd (cc mute)

-- ---- in the world

-- what is settling at these nodes, whatever is said
abbrev Settling : (ℕ → Type 0) → (ℕ → Type 0) → (ℕ → Option Node) → (Post → Type 0) → (Body → Type 0) → Type 0
Settling of nodes found F B = AreSettling of nodes found F

settling_more : (of nodes : ℕ → Type 0) (found : ℕ → Option Node) (F U : Post → Type 0) (B D : Body → Type 0) → SameWay F U →
    ((b : Body) → B b → D b) → Settling of nodes found F B → Settling of nodes found U D
settling_more of nodes found F U B D on said s = record {
  idle = s.idle;
  plain = λ p u. s.plain p (on.1 p u);
  acks = λ k a t u i j there is live at has_it. let w = s.acks k a t u i j there is live at has_it in (w.0, on.0 w.0 w.1, w.2);
  ends = λ k a u there is p. let w = s.ends k a u there is p in (w.0, on.0 w.0 w.1, w.2);
}

settling_fewer : (of nodes other : ℕ → Type 0) (found : ℕ → Option Node) (F : Post → Type 0) (B : Body → Type 0) →
    ((k : ℕ) → other k → nodes k) → Settling of nodes found F B → Settling of other found F B
settling_fewer of nodes other found F B less s = record {
  idle = s.idle;
  plain = s.plain;
  acks = λ k a t u i j there. s.acks k a t u i j (less k there);
  ends = λ k a u there. s.ends k a u (less k there);
}

-- an action whose coordinator has nobody at work isn't at its commit
not_committing : (c : Coord) (u : Uid) → AreIdle c → IsCommitting u c → ⊥
not_committing c u idle at = by c.doings idle (doing_there u c at.0 at.2)
  where
    by : (ds : List Doing) → AllByRecursion (λ (q : Doing). q.now ≡ Idle) ds → members.In at.0 ds → ⊥
    by [] all i = i
    by (d ∷ ds) all (inl is) = let no_way : Idle ≡ Committing at.1 = sym all.0 ∙ ap (λ (q : Doing). q.now) is ∙ at.3 in absurd (cc no_way)
    by (d ∷ ds) all (inr i) = by ds all.1 i

module _ (hd : Header) (P : Seen → Type 0) (gives : SettlesAll hd P) where
  number_same : (j : ℕ) → (j == j) ≡ true
  number_same j = grind (arith, nat_tests)

  settling_message : (nodes : ℕ → Type 0) (n : ℕ) (d : Disk) (t : Parts) (from : ℕ) (m : Message) (M : Seen) → P (up n d t M) →
      In (post_of from n m) M.sent → (F G : Post → Type 0) (B : Body → Type 0) → F (post_of from n m) → AllBut (post_of from n m) F G →
      ((q : Post) → G q → F q)
      → ((b : Body) → IsSaid M.lines b → B b) → Settling (Of hd) nodes (up n d t M).nodes F B →
      Left (Settling (Of hd) nodes) n (record { disk = d; parts = t }) M.nodes G B (taken n d t from m)
  settling_message nodes n d t from m M holds sent F G B under less back lines s = by (taken n d t from m)
      (handled n from d t (gives.sorted n d t M holds) (λ u. gives.naming n d t M u holds) asked m silent.0 silent.1 over)
    where
      asked : Uid → Type 0
      asked = Asked (Of hd) nodes n from m d t M F G less back s

      silent : (asks m ≡ None) × (answers m ≡ None)
      silent = s.plain (post_of from n m) under

      here : (up n d t M).nodes n ≡ Some (record { number = n; disk = d; live = Some t })
      here = λ i. if number_same n i then Some (record { number = n; disk = d; live = Some t }) else M.nodes n

      idle : AreIdle t.coord
      idle = s.idle n (record { number = n; disk = d; live = Some t }) t (gives.within (up n d t M) (post_of from n m) holds sent) here refl

      over : (act : Uid) → m ≡ query_of act → asked act → (is_open act t.coord.tree ≡ false) × (is_deferred act d.intents from ≡ false)
      over act is a = let p = gives.prepared n d t M from a.0 act holds a.1 a.2 a.3 in
          (closed (is_open act t.coord.tree) (λ opens. not_committing t.coord act idle (p.0 opens)), p.1)
        where
          closed : (b : Bool) → (b ≡ true → ⊥) → b ≡ false
          closed true never = absurd (never refl)
          closed false never = refl

      by : (r : Handled) → IsHandled n from d t (gives.sorted n d t M holds) (λ u. gives.naming n d t M u holds) asked m r →
          Left (Settling (Of hd) nodes) n (record { disk = d; parts = t }) M.nodes G B r
      by (Void outs) (IsNothing _ l) =
          settling_more (Of hd) nodes (with_here n (record { disk = d; parts = t }) M.nodes) (Then G n []) G B B
          (λ q. ⊎_elim (λ g. g) (λ x. absurd x.1), λ q g. inl g) (λ b l. l)
          (settled_by (Of hd) nodes n from m d t M F G less back s t [] l)
      by (Took v outs) (IsTaken _ _ l) = settled_by (Of hd) nodes n from m d t M F G less back s v outs l

  -- ---- ticks

  idle_again : (ds : List Doing) (c : Coord) → AllByRecursion (λ (q : Doing). q.now ≡ Idle) ds →
      again_all ds c ≡ record { part = c; outs = [] }
  idle_again [] c idle = refl
  idle_again (q ∷ ds) c idle =
      let first : again_now c q.now ≡ record { part = c; outs = [] } = ap (again_now c) idle.0 in
      (λ i. let x : Did Coord = first i in record { part = (again_all ds x.part).part; outs = x.outs ++ (again_all ds x.part).outs })
      ∙ (let rest = idle_again ds c idle.1 in λ i. let y : Did Coord = rest i in record { part = y.part; outs = y.outs })

  -- what is told again
  pub told_again : (u : Uid) (i : Intent) (j : ℕ) (telling : List (Uid × Intent)) → members.In (u, i) telling → has i.nodes j ≡ true →
      members.In (Send j (message.Told (record { root = i.root; ack = true; ends = (u, ending.Commit) ∷ [] }))) (tolds_again telling)
  told_again u i j [] there on = absurd there
  told_again u i j (e ∷ es) (inl is) on = in_left _ (tell_all e.1.root true ((e.0, ending.Commit) ∷ []) e.1.nodes) (tolds_again es) (subst
      (λ (x : Uid × Intent). members.In (Send j (message.Told (record { root = i.root; ack = true; ends = (u, ending.Commit) ∷ [] })))
      (tell_all x.1.root true ((x.0, ending.Commit) ∷ []) x.1.nodes)) (sym is) (told_each i.nodes on))
    where
      told_each : (ns : List ℕ) → has ns j ≡ true → members.In (Send j (message.Told
          (record { root = i.root; ack = true; ends = (u, ending.Commit) ∷ [] }))) (tell_all i.root true ((u, ending.Commit) ∷ []) ns)
      told_each [] on = absurd (cc on)
      told_each (k ∷ ks) on = one (k == j) refl on (told_each ks)
        where
          one : (b : Bool) → (k == j) ≡ b → (b || has ks j) ≡ true → (has ks j ≡ true → members.In (Send j (message.Told
              (record { root = i.root; ack = true; ends = (u, ending.Commit) ∷ [] }))) (tell_all i.root true ((u, ending.Commit) ∷ []) ks))
              → members.In (Send j (message.Told (record { root = i.root; ack = true; ends = (u, ending.Commit) ∷ [] })))
              (tell_all i.root true ((u, ending.Commit) ∷ []) (k ∷ ks))
          one true same on rest =
              inl (λ z. Send (eqb-true k j same z) (message.Told (record { root = i.root; ack = true; ends = (u, ending.Commit) ∷ [] })))
          one false apart on rest = inr (rest on)
  told_again u i j (e ∷ es) (inr there) on =
      in_right _ (tell_all e.1.root true ((e.0, ending.Commit) ∷ []) e.1.nodes) (tolds_again es) (told_again u i j es there on)

  tolds_only : (telling : List (Uid × Intent)) → OnlyEnd (tolds_again telling)
  tolds_only [] = tt
  tolds_only (e ∷ es) =
      only_on (tell_all e.1.root true ((e.0, ending.Commit) ∷ []) e.1.nodes) (tolds_again es) (each e.1.nodes) (tolds_only es)
    where
      each : (ns : List ℕ) → OnlyEnd (tell_all e.1.root true ((e.0, ending.Commit) ∷ []) ns)
      each [] = tt
      each (k ∷ ks) = (refl, each ks)

  asked_each : (u : Uid) (us : List Uid) → is_on us u ≡ true → members.In (Send u.node (query_of u)) (map query_about us)
  asked_each u [] on = absurd (cc on)
  asked_each u (w ∷ ws) on = by (uid_eq w u) refl on (asked_each u ws)
    where
      by : (b : Bool) → uid_eq w u ≡ b → (b || is_on ws u) ≡ true → (is_on ws u ≡ true →
          members.In (Send u.node (query_of u)) (map query_about ws)) → members.In (Send u.node (query_of u)) (map query_about (w ∷ ws))
      by true same on rest = inl (let is = uid_is w u same in λ z. Send (is z).node (query_of (is z)))
      by false apart on rest = inr (rest on)

  asked_only : (us : List Uid) → OnlyEnd (map query_about us)
  asked_only [] = tt
  asked_only (u ∷ us) = (refl, asked_only us)

  -- who is prepared is among the holders
  prepared_holds : (u : Uid) (d : Disk) (t : Parts) → IsPrepared u d → is_on (holders d t) u ≡ true
  prepared_holds u d t p =
      in_set (server_holders t.server ++ locks_of t.naming ++ prepared_actions d.store ++ prepared_actions d.names) (among p)
    where
      there : (pend : List (Uid × List ObjectState)) → is_some (at_uid u pend) ≡ true →
          is_on (map (λ (x : Uid × List ObjectState). x.0) pend) u ≡ true
      there [] is = absurd (cc is)
      there (e ∷ es) is = by (uid_cases u e.0) (there es)
        where
          by : (u ≡ e.0) ⊎ (u ≢ e.0) → (is_some (at_uid u es) ≡ true → is_on (map (λ (x : Uid × List ObjectState). x.0) es) u ≡ true) →
              (uid_eq e.0 u || is_on (map (λ (x : Uid × List ObjectState). x.0) es) u) ≡ true
          by (inl same) rest = (λ z. uid_eq (sym same z) u || is_on (map (λ (x : Uid × List ObjectState). x.0) es) u)
              ∙ (λ z. uid_same u z || is_on (map (λ (x : Uid × List ObjectState). x.0) es) u)
          by (inr other) rest = or_right (uid_eq e.0 u) (is_on (map (λ (x : Uid × List ObjectState). x.0) es) u)
              (rest (ap (λ o. is_some o) (sym (at_there u e.0 e.1 es other)) ∙ is))

      in_set : (us : List Uid) → is_on us u ≡ true → is_on (uid_set us) u ≡ true
      in_set [] on = on
      in_set (w ∷ ws) on = by (uid_eq w u) refl on (in_set ws)
        where
          by : (b : Bool) → uid_eq w u ≡ b → (b || is_on ws u) ≡ true → (is_on ws u ≡ true → is_on (uid_set ws) u ≡ true) →
              is_on (uid_set (w ∷ ws)) u ≡ true
          by true same on rest = with_on u w (uid_set ws) (inl (sym (uid_is w u same)))
          by false apart on rest = with_on u w (uid_set ws) (inr (rest on))

      on_left : (xs ys : List Uid) → is_on xs u ≡ true → is_on (xs ++ ys) u ≡ true
      on_left [] ys on = absurd (cc on)
      on_left (x ∷ xs) ys on = by (uid_eq x u) on (on_left xs ys)
        where
          by : (b : Bool) → (b || is_on xs u) ≡ true → (is_on xs u ≡ true → is_on (xs ++ ys) u ≡ true) → (b || is_on (xs ++ ys) u) ≡ true
          by true on rest = refl
          by false on rest = rest on

      on_right : (xs ys : List Uid) → is_on ys u ≡ true → is_on (xs ++ ys) u ≡ true
      on_right [] ys on = on
      on_right (x ∷ xs) ys on = or_right (uid_eq x u) (is_on (xs ++ ys) u) (on_right xs ys on)

      among : IsPrepared u d →
          is_on (server_holders t.server ++ locks_of t.naming ++ prepared_actions d.store ++ prepared_actions d.names) u ≡ true
      among (inl p) = on_left (server_holders t.server ++ locks_of t.naming ++ prepared_actions d.store) (prepared_actions d.names)
          (on_right (server_holders t.server ++ locks_of t.naming) (prepared_actions d.store) (there d.store.pend p))
      among (inr p) = on_right (server_holders t.server ++ locks_of t.naming ++ prepared_actions d.store) (prepared_actions d.names)
          (there d.names.pend p)

  -- after its tick what a node awaits and what is prepared there is under way too
  settling_ticked : (nodes : ℕ → Type 0) (n : ℕ) → Of hd n → TicksGive P n (Settling (Of hd) nodes) (Settling (Of hd) (Also nodes n))
  settling_ticked nodes n ofs d t M holds F B s = record {
    idle = λ k a x of found live. idles k a x of (k == n) refl found live;
    plain = λ p. ⊎_elim (λ f. s.plain p f) (λ i. sent_plain outs p.to p.message only i.1);
    acks = λ k a x u i j there found live at on. acks k a x u i j there (k == n) refl found live at on;
    ends = λ k a u there found p. ends k a u there (k == n) refl found p;
  }
    where
      again : Did Coord
      again = again_all t.coord.doings t.coord

      outs : List Effect
      outs = tick_outs (record { number = n; disk = d; live = Some t }) t

      mine : Node
      mine = record { number = n; disk = d; live = Some t }

      left : Node
      left = record { number = n; disk = works outs d; live = Some (with_coord t again.part) }

      at_n : (up n d t M).nodes n ≡ Some mine
      at_n = λ i. if number_same n i then Some (record { number = n; disk = d; live = Some t }) else M.nodes n

      idle : AreIdle t.coord
      idle = s.idle n mine t ofs at_n refl

      nothing : again ≡ record { part = t.coord; outs = [] }
      nothing = idle_again t.coord.doings t.coord idle

      only : OnlyEnd outs
      only = only_on (again.outs ++ tolds_again t.coord.telling) (map query_about (holders d t)) (only_on again.outs
          (tolds_again t.coord.telling) (subst (λ (x : Did Coord). OnlyEnd x.outs) (sym nothing) tt) (tolds_only t.coord.telling))
          (asked_only (holders d t))

      order : AreKept d t
      order = gives.sorted n d t M holds

      same_coord : again.part ≡ t.coord
      same_coord = ap (λ (x : Did Coord). x.part) nothing

      other : (k : ℕ) (a : Node) → (k == n) ≡ false → M.nodes k ≡ Some a → (up n d t M).nodes k ≡ Some a
      other k a is found = (λ i. if is i then Some (record { number = n; disk = d; live = Some t }) else M.nodes k) ∙ found

      before : (k : ℕ) → Also nodes n k → (k == n) ≡ false → nodes k
      before k (inl there) apart = there
      before k (inr is) apart = absurd (cc (sym (ap (λ j. j == n) is ∙ number_same n) ∙ apart))

      idles : (k : ℕ) (a : Node) (x : Parts) → Of hd k → (b : Bool) → (k == n) ≡ b → (if b then Some left else M.nodes k) ≡ Some a →
          a.live ≡ Some x → AreIdle x.coord
      idles k a x of false apart found live = s.idle k a x of (other k a apart found) live
      idles k a x of true is found live =
          let node : left ≡ a = some_is left a found in
          let parts : with_coord t again.part ≡ x = some_is (with_coord t again.part) x (ap (λ (z : Node). z.live) node ∙ live) in
          subst (λ (z : Parts). AreIdle z.coord) parts (subst AreIdle (sym same_coord) idle)

      acks : (k : ℕ) (a : Node) (x : Parts) (u : Uid) (i : Intent) (j : ℕ) → Also nodes n k → (b : Bool) → (k == n) ≡ b →
          (if b then Some left else M.nodes k) ≡ Some a → a.live ≡ Some x → at_uid u x.coord.telling ≡ Some i → has i.nodes j ≡ true →
          (p : Post) × Then F n outs p × BringsAck k j u p
      acks k a x u i j there false apart found live at on =
          let w = s.acks k a x u i j (before k there apart) (other k a apart found) live at on in (w.0, inl w.1, w.2)
      acks k a x u i j there true is found live at on =
          let node : left ≡ a = some_is left a found in
          let parts : with_coord t again.part ≡ x = some_is (with_coord t again.part) x (ap (λ (z : Node). z.live) node ∙ live) in
          let here : at_uid u t.coord.telling ≡ Some i = ap (λ (c : Coord). at_uid u c.telling) (sym same_coord)
          ∙ ap (λ (z : Parts). at_uid u z.coord.telling) parts ∙ at in
          let told = message.Told (record { root = i.root; ack = true; ends = (u, ending.Commit) ∷ [] }) in (
            post_of n j told,
            inr (
              refl,
              in_left (Send j told) (again.outs ++ tolds_again t.coord.telling) (map query_about (holders d t)) (in_right (Send j told)
                  again.outs (tolds_again t.coord.telling) (told_again u i j t.coord.telling (at_in u i t.coord.telling here) on)),
            ),
            Telling (sym (eqb-true k n is)) refl (refl, refl),
          )

      ends : (k : ℕ) (a : Node) (u : Uid) → Also nodes n k → (b : Bool) → (k == n) ≡ b → (if b then Some left else M.nodes k) ≡ Some a →
          IsPrepared u a.disk → (p : Post) × Then F n outs p × BringsEnd k u p
      ends k a u there false apart found p = let w = s.ends k a u (before k there apart) (other k a apart found) p in (w.0, inl w.1, w.2)
      ends k a u there true is found p =
          let node : left ≡ a = some_is left a found in
          let was : IsPrepared u d = fewer_prepared n n d t order (λ v. gives.naming n d t M v holds) (λ v. ⊥) (works outs d)
          (ends_fewer outs d only (record { store = order.store; names = order.names })) u
          (subst (λ (z : Node). IsPrepared u z.disk) (sym node) p) in (
            post_of n u.node (query_of u),
            inr (
              refl,
              in_right (Send u.node (query_of u)) (again.outs ++ tolds_again t.coord.telling) (map query_about (holders d t))
                  (asked_each u (holders d t) (prepared_holds u d t was)),
            ),
            Querying (sym (eqb-true k n is)) refl refl,
          )

  -- ---- what is left

  -- nothing is under way: the node is idle
  node_idle : (k : ℕ) (d : Disk) (t : Parts) (M : Seen) → P (up k d t M) → (F : Post → Type 0) → ((p : Post) → F p → ⊥) → Of hd k →
      AreSettling (Of hd) (Of hd) (up k d t M).nodes F → is_idle (record { number = k; disk = d; live = Some t }) ≡ true
  node_idle k d t M holds F none of s = rw (nobody t.coord.doings idle)
      (rw (nothing d.store.pend (λ u p. never u (inl p))) (rw (nothing d.names.pend (λ u p. never u (inr p))) (nothing d.intents recorded)))
    where
      mine : Node
      mine = record { number = k; disk = d; live = Some t }

      here : (up k d t M).nodes k ≡ Some mine
      here = λ i. if number_same k i then Some (record { number = k; disk = d; live = Some t }) else M.nodes k

      idle : AreIdle t.coord
      idle = s.idle k mine t of here refl

      nobody : (ds : List Doing) → AllByRecursion (λ (q : Doing). q.now ≡ Idle) ds →
          not (list_any (λ (q : Doing). is_waiting_now q.now) ds) ≡ true
      nobody [] all = refl
      nobody (q ∷ ds) all = (λ i. not (is_waiting_now (all.0 i) || list_any (λ (q : Doing). is_waiting_now q.now) ds)) ∙ nobody ds all.1

      nothing : {X : Type 0} (m : List (Uid × X)) → ((u : Uid) → is_some (at_uid u m) ≡ true → ⊥) → is_empty m ≡ true
      nothing [] never = refl
      nothing (e ∷ es) never = absurd (never e.0 (ap (λ o. is_some o) (at_here e.0 e.1 es)))

      never : (u : Uid) → IsPrepared u d → ⊥
      never u p = let w = s.ends k mine u of here p in none w.0 w.1

      awaited : (u : Uid) (i : Intent) → at_uid u t.coord.telling ≡ Some i → (ns : List ℕ) → i.nodes ≡ ns → ⊥
      awaited u i at [] is = gives.awaited k d t M u i holds at is
      awaited u i at (n ∷ ns) is =
          let w = s.acks k mine t u i n of here refl at (ap (λ xs. has xs n) is ∙ (λ z. number_same n z || has ns n)) in none w.0 w.1

      recorded : (u : Uid) → is_some (at_uid u d.intents) ≡ true → ⊥
      recorded u is = by (at_uid u t.coord.telling) refl (gives.records k d t M u holds is)
        where
          by : (o : Option Intent) → at_uid u t.coord.telling ≡ o → is_some o ≡ true → ⊥
          by None at some = absurd (cc some)
          by (Some i) at some = awaited u i at i.nodes refl

  world_quiet : (w : World) → Holds hd P w → w.header ≡ hd → lowest_from 1 w.frames ≡ None → Ups hd w →
      Flown (Settling (Of hd) (Of hd)) (settling_more (Of hd) (Of hd)) w → AreQuiet w
  world_quiet w h header none ups flown k a node at = by (live_at k w (ups k of))
    where
      of : Of hd k
      of = subst (λ (x : Header). (nat_le 1 k && nat_le k x.nodes) ≡ true) header node

      by : IsLive k w → is_idle a ≡ true
      by x =
          let same : x.node ≡ a = some_is x.node a (sym x.there ∙ at) in
          let num : x.node.number ≡ k = h.stands.numbers k x.node x.there in
          let mine_is : x.node ≡ record { number = k; disk = x.node.disk; live = Some x.parts } = λ i.
          record { number = num i; disk = x.node.disk; live = x.live i } in
          let here = there_here k (record { disk = x.node.disk; parts = x.parts }) w.nodes (x.there ∙ ap Some mine_is) in
          subst (λ z. is_idle z ≡ true) (sym mine_is ∙ same)
          (node_idle k x.node.disk x.parts (see h.sent w) (seen_up P k x.node x.parts h.sent w x.there num x.live h.holds) (Under w.frames)
          (λ p u. none_under 1 w.frames none u.frame u.there u.opened) of
          (subst (λ f. AreSettling (Of hd) (Of hd) f (Under w.frames)) here flown))

-- ---- a quiesce

-- for any relation that is kept
module _ (hd : Header) (R : Seen → Type 0) (keeps : KeepsAsked hd R) (gives : SettlesAll hd (λ M. R M × IsGood M)) where
  abbrev P : Seen → Type 0
  P M = R M × IsGood M

  pub quiesce_settles : (e : world.Asked) (w : World) → Holds hd P w → length w.frames ≤ most_frames → lowest_from 1 w.frames ≡ None →
      NobodyWaits w → e.event ≡ event.Quiesce → w.over ≡ false → (run_event e w).over ≡ false → AreUp (run_event e w) →
      AreQuiet (run_event e w)
  quiesce_settles e w h few none nobody is over last ups =
      quiesce_leaves hd P (keeps_good hd R keeps) gives.within (Settling (Of hd)) (settling_more (Of hd)) (settling_message hd P gives)
      (settling_fewer (Of hd)) (settling_ticked hd P gives)
      AreQuiet (λ c b quiet k a node at. quiet k a node at) (world_quiet hd P gives) e w h few first is over last ups
    where
      first : AreSettling (Of hd) Nobody (λ k. at_place k w.nodes) (Under w.frames)
      first = record {
        idle = λ k a t of found live. nobody k t.coord (subst (λ (x : Header). (nat_le 1 k && nat_le k x.nodes) ≡ true)
            (sym h.stands.header) of) (ap coord_in found ∙ (λ i. coord_in (Some (record a { live = live i }))));
        plain = λ p u. absurd (none_under 1 w.frames none u.frame u.there u.opened);
        acks = λ k a t u i j there. absurd there;
        ends = λ k a u there. absurd there;
      }

  -- whatever stops fall in it
  pub move_settles : (m : Move) (w : World) → Holds hd P w → length w.frames ≤ most_frames → lowest_from 1 w.frames ≡ None → NobodyWaits w →
      m.asked.event ≡ event.Quiesce → w.over ≡ false → (moved m w).over ≡ false → AreUp (moved m w) → AreQuiet (moved m w)
  move_settles m w h few none nobody is over last ups =
      quiesce_settles m.asked (record w { arms = m.falls }) (arms_hold hd P m.falls w h) few none nobody is over last ups

pub quiesces_settle : QuiescesSettle
quiesces_settle hd test keeps gives e w h few none nobody is over last ups =
    quiesce_settles hd (λ M. test M ≡ true) keeps gives e w h few none nobody is over last ups
