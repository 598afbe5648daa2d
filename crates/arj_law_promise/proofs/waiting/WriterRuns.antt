-- Who wrote the states that stores have, at all nodes and in all messages: kept by each handler.
use Rattle.arj_law_parts.proofs.Words
use Words.{Start}
use Words.{◌≡◌, ◌≢◌, ◌⊎◌, ◌+◌, ◌==◌, ◌∙◌, ◌++◌, ℕ, zero, suc, Bool, true, false, cond, filter, List, [], ◌∷◌, length, map, Option, Some}
use Words.{None, refl, sym, ap, subst, inl, inr, ⊎_elim, IfSome, AllByRecursion, Ask, Asked, Head, Header, Kind, Label, Message, ObjectLine}
use Words.{ObjectState, Uid, asks, Reply, answers, again_all, begin_action, heard, Used, plan_of, Calling, Committing, Coord, Doing, Idle}
use Words.{Now, Abort, Commit, Disk, Do, Effect, Look, Pair, Prepare, PutInc, PutIntent, RemoveIntent, Say, Send, stopped, worked, After}
use Words.{acked, answer_query, tick_outs, Parts, Took, handle, holders, query_about, with_coord, has, Input, Node, acts}
use Words.{parent_of, parts_in, put_states, refusal_up, restart_outs, tolds_again, at_place, is_own}
use Words.{acked_own, acts_own, again_own, heard_own, query_own, Post, Seen, is_serial}
use Words.ask
use Words.loaded
use Words.role
use Words.voted
use Words.input
use Rattle.arj_law_promise.proofs.Terms
use Terms.{IsAtStarts, IsOlder, all_append, disk_by, live_first, older_at, state_by, states_from}
use Terms.{Action, paths_of, IsTree, Paths, IsGoodCoord, begun_tree, path_found, true_query, well_acked, well_acts, well_again, well_heard}
use Terms.{IsGood, IsGoodOf, IsUp, it, own_of_disk, tops_of_disk, is_act, In, at, given, posted, said, up, Up, Walks, halted, acked_so}
use Terms.{acts_so, again_so, heard_so, query_so, KeepsGiven, first_at, node_here, all_each, AnsweredIsBy, ArePastWriters, AskIsBy}
use Terms.{AskedIsBy, CoordIsBy, EffectIsBy, IsBy, IsOwnOrBy, IsPastWriter, NowIsBy, PairIsBy, ReplyIsBy, some_is}
use Rattle.arj_law_disk_view.proofs.view.Frames.{node_cases}
use Rattle.arj_law_promise.proofs.waiting
use waiting.{WriterHandled.handled_by}
use waiting.WriterCommits.{IsTold, TellsIn, hears_so, plainly}
use waiting.WriterCoords.{So, begins_so}
use waiting.WriterNodes.{Fine, Held, coord_fine, fine_both, put_so, queries, restart_fine, stopped_so, tells_fine}
use Rattle.arj_law_promise.specs.waiting.Writers.{MessageIsBy, NodeIsBy}
use Rattle.arj_law_promise.proofs.waiting.WriterCommits as commits
use Rattle.arj_law_promise.proofs.waiting.WriterCoords as coords

-- ---- more writers

module _ (P Q : Uid → Type 0) (more : (w : Uid) → P w → Q w) where
  own_wider : (u : Uid) (st : ObjectState) → IsOwnOrBy P u st → IsOwnOrBy Q u st
  own_wider u st = ⊎_elim (λ same. inl same) (λ old. inr (more st.writer old))

  pair_wider : (d : Pair) → PairIsBy P d → PairIsBy Q d
  pair_wider d its = record {
    held = all_each (λ (e : Uid × ObjectState). IsBy P e.1) (λ (e : Uid × ObjectState). IsBy Q e.1) d.held (λ e. more e.1.writer) its.held;
    pend = all_each (λ (e : Uid × List ObjectState). AllByRecursion (IsOwnOrBy P e.0) e.1) (λ (e : Uid × List ObjectState).
        AllByRecursion (IsOwnOrBy Q e.0) e.1) d.pend (λ e. all_each (IsOwnOrBy P e.0) (IsOwnOrBy Q e.0) e.1 (own_wider e.0)) its.pend;
  }

  message_wider : (m : Message) → MessageIsBy P m → MessageIsBy Q m
  message_wider m its = (asked (asks m) its.0, answered (answers m) its.1)
    where
      ask_wider : (h : Head) (a : Ask) → AskIsBy P h a → AskIsBy Q h a
      ask_wider h (ask.Prepare states) so = all_each (IsOwnOrBy P _) (IsOwnOrBy Q _) states (own_wider _) so
      ask_wider h (ask.Bind x include avoid) so = tt
      ask_wider h (ask.Load x) so = tt
      ask_wider h (ask.Activate b st) so = tt
      ask_wider h (ask.Record x b i g) so = tt
      ask_wider h (ask.Invoke x b i ends op) so = tt
      ask_wider h (ask.Vote i ties ends) so = tt
      ask_wider h (ask.Confirm grants excluded included) so = tt

      reply_wider : (a : Asked) (r : Reply) → ReplyIsBy P a r → ReplyIsBy Q a r
      reply_wider a (Reply.Loaded (loaded.State st)) so = more st.writer so
      reply_wider a (Reply.Loaded (loaded.InDoubt holder)) so = tt
      reply_wider a (Reply.Voted (voted.Yes states)) so = so
      reply_wider a (Reply.Voted (voted.Changed w)) so = tt
      reply_wider a (Reply.Bound r) so = tt
      reply_wider a (Reply.Activated i) so = tt
      reply_wider a (Reply.Noted r) so = tt
      reply_wider a (Reply.Invoked r) so = tt
      reply_wider a (Reply.Prepared r) so = tt
      reply_wider a (Reply.Confirmed r) so = tt

      asked : (o : Option (Head × Ask)) → AskedIsBy P o → AskedIsBy Q o
      asked None so = tt
      asked (Some q) so = ask_wider q.0 q.1 so

      answered : (o : Option (Asked × Reply)) → AnsweredIsBy P o → AnsweredIsBy Q o
      answered None so = tt
      answered (Some q) so = reply_wider q.0 q.1 so

  works_wider : (u : Uid) (n : Now) → NowIsBy P u n → NowIsBy Q u n
  works_wider u Idle its = tt
  works_wider u (Calling s) its = tt
  works_wider u (Committing m) its = let p = its.0 in (
    record {
      top = p.top;
      loaded = all_each (λ (v : Used). IfSome v.loaded (IsBy P)) (λ (v : Used). IfSome v.loaded (IsBy Q)) (plan_of m).used
          (λ v. by v.loaded) p.loaded;
      changed = p.changed;
    },
    its.1,
  )
    where
      by : (o : Option ObjectState) → IfSome o (IsBy P) → IfSome o (IsBy Q)
      by None so = tt
      by (Some st) so = more st.writer so

  effect_wider : (f : Effect) → EffectIsBy P f → EffectIsBy Q f
  effect_wider (Send to m) its = message_wider m its
  effect_wider (Say b) its = tt
  effect_wider (Do (Prepare role.Store u states)) its = all_each (IsOwnOrBy P u) (IsOwnOrBy Q u) states (own_wider u) its
  effect_wider (Do (Prepare role.Names u states)) its = tt
  effect_wider (Do (Commit role.Store u)) its = more u its
  effect_wider (Do (Commit role.Names u)) its = tt
  effect_wider (Do (Abort r u)) its = tt
  effect_wider (Do Look) its = tt
  effect_wider (Do (PutInc i)) its = tt
  effect_wider (Do (PutIntent u i)) its = tt
  effect_wider (Do (RemoveIntent u)) its = tt

  fine_wider : (es : List Effect) → Fine P es → Fine Q es
  fine_wider es its = all_each (EffectIsBy P) (EffectIsBy Q) es effect_wider its

  coord_wider : (X Y : Uid → Type 0) → ((w : Uid) → X w → Y w) → (c : Coord) → CoordIsBy P X c → CoordIsBy Q Y c
  coord_wider X Y to c so = let w = commits.wider P X Y to c so in
      record { works = λ u d does. works_wider u d.now (so.works u d does); roots = w.roots }

  node_wider : (n : Node) → NodeIsBy P n → NodeIsBy Q n
  node_wider n its = record { store = pair_wider n.disk.store its.store; live = λ t is. coord_wider P Q more t.coord (its.live t is) }

-- ---- one more message

past_more : (st : Start) (p : Post) (sent : List Post) (w : Uid) → IsPastWriter st sent w → IsPastWriter st (p ∷ sent) w
past_more st p sent w (inl none) = inl none
past_more st p sent w (inr t) = inr (t.0, inr t.1, t.2, t.3)

-- ---- one node apart from the others

abbrev Others : ℕ → Seen → Type 0
Others k M = (j : ℕ) (n : Node) → (j == k) ≡ false → M.nodes j ≡ Some n → NodeIsBy (IsPastWriter M.start M.sent) n

abbrev Posts : Seen → Type 0
Posts M = (p : Post) → In p M.sent → MessageIsBy (IsPastWriter M.start M.sent) p.message

mine : (k : ℕ) (d : Disk) (live : Option Parts) (M : Seen) → ArePastWriters (at k d live M) →
    NodeIsBy (IsPastWriter M.start M.sent) (record { number = k; disk = d; live = live })
mine k d live M all =
    all.nodes k (record { number = k; disk = d; live = live }) (node_here M k (record { number = k; disk = d; live = live }))

others : (k : ℕ) (d : Disk) (live : Option Parts) (M : Seen) → ArePastWriters (at k d live M) → Others k M
others k d live M all j n apart is =
    all.nodes j n ((λ i. cond (apart i) (Some (record { number = k; disk = d; live = live })) (M.nodes j)) ∙ is)

back : (k : ℕ) (d : Disk) (live : Option Parts) (M : Seen) → NodeIsBy (IsPastWriter M.start M.sent)
    (record { number = k; disk = d; live = live }) →
    Others k M → Posts M → ArePastWriters (at k d live M)
back k d live M its o posts = record {
  nodes = λ j n there. ⊎_elim (λ (z : (j ≡ k) × (record { number = k; disk = d; live = live } ≡ n)).
      subst (NodeIsBy (IsPastWriter M.start M.sent)) z.1 its) (λ (z : ((j == k) ≡ false) × (M.nodes j ≡ Some n)). o j n z.0 z.1)
      (node_cases M k (record { number = k; disk = d; live = live }) j n there);
  posts = posts;
}

down_by : (e k : ℕ) (d : Disk) (M : Seen) → PairIsBy (IsPastWriter M.start M.sent) d.store → Others k M → Posts M →
    ArePastWriters (halted e k d M)
down_by e k d M its o posts = let b = back k d None M (record { store = its; live = λ t is. absurd (cc is) }) o posts in
    record { nodes = b.nodes; posts = b.posts }

-- whatever a node does
walk : (e k : ℕ) (v : Parts) (outs : List Effect) (d : Disk) (M : Seen) → PairIsBy (IsPastWriter M.start M.sent) d.store →
    IsTold (IsPastWriter M.start M.sent) (record { part = v.coord; outs = outs }) → Fine (IsPastWriter M.start M.sent) outs →
    Others k M → Posts M →
    Walks ArePastWriters e k outs (Up ArePastWriters k v) d M
walk e k v [] d M its told fine o posts = back k d (Some v) M (record {
  store = its;
  live = λ t is. subst (λ (z : Parts). So (IsPastWriter M.start M.sent) z.coord) (some_is is)
      (coord_wider (IsPastWriter M.start M.sent) (IsPastWriter M.start M.sent) (λ w z. z)
      (λ w. IsPastWriter M.start M.sent w ⊎ TellsIn [] w) (IsPastWriter M.start M.sent)
      (λ w. ⊎_elim (λ z. z) (λ none. absurd none)) v.coord told);
}) o posts
walk e k v (Do w ∷ es) d M its told fine o posts = (
  (λ how. down_by e k (stopped how w d) M (stopped_so (IsPastWriter M.start M.sent) how w d fine.0 its) o posts),
  walk e k v es (worked w d) M (stopped_so (IsPastWriter M.start M.sent) After w d fine.0 its) told fine.1 o posts,
)
walk e k v (Say b ∷ es) d M its told fine o posts = walk e k v es d (said e (b ∷ []) M) its told fine.1 o posts
walk e k v (Send to m ∷ es) d M its told fine o posts =
    λ many quiet. walk e k v es d (said e many (posted (record { from = k; to = to; message = m }) M))
    (pair_wider P Q more d.store its) (coord_wider P Q more (λ w. P w ⊎ TellsIn (Send to m ∷ es) w) (λ w. Q w ⊎ TellsIn es w) tells v.coord
    told) (fine_wider P Q more es fine.1)
    (λ j n apart is. node_wider P Q more n (o j n apart is))
    (λ p. ⊎_elim (λ same. subst (λ (z : Post). MessageIsBy Q z.message) same (message_wider P Q more m fine.0))
    (λ old. message_wider P Q more p.message (posts p old)))
  where
    P : Uid → Type 0
    P = IsPastWriter M.start M.sent

    Q : Uid → Type 0
    Q = IsPastWriter M.start (record { from = k; to = to; message = m } ∷ M.sent)

    more : (w : Uid) → IsPastWriter M.start M.sent w → IsPastWriter M.start (record { from = k; to = to; message = m } ∷ M.sent) w
    more w = past_more M.start (record { from = k; to = to; message = m }) M.sent w

    tells : (w : Uid) → IsPastWriter M.start M.sent w ⊎ TellsIn (Send to m ∷ es) w →
        IsPastWriter M.start (record { from = k; to = to; message = m } ∷ M.sent) w ⊎ TellsIn es w
    tells w (inl old) = inl (more w old)
    tells w (inr (inl t)) = inl (inr (record { from = k; to = to; message = m }, inl refl, t.0, t.1))
    tells w (inr (inr late)) = inr late

-- ---- a node of a good world

module _ (begun : List Action) (e k : ℕ) (d : Disk) (t : Parts) (M : Seen) (good : IsGoodOf begun (up k d t M))
    (all : ArePastWriters (up k d t M)) where
  abbrev paths : Paths
  paths = paths_of begun

  tree : IsTree paths
  tree = begun_tree begun good.begun

  its_up : IsUp begun M.sent M.labels k d.inc t
  its_up = it e k d t M (begun, good)

  coord : IsGoodCoord begun paths t.coord
  coord = let u = its_up in let g = u.good paths tree (path_found begun good.begun) in g.coord

  works : length t.coord.doings ≡ length t.coord.tree.branches
  works = let u = its_up in let f = u.faithful in f.works

  abbrev P : Uid → Type 0
  P = IsPastWriter M.start M.sent

  its : So (IsPastWriter M.start M.sent) t.coord
  its = let n = mine k d (Some t) M all in n.live t refl

  disk : PairIsBy (IsPastWriter M.start M.sent) d.store
  disk = let n = mine k d (Some t) M all in n.store

  go : (v : Parts) (outs : List Effect) → IsTold (IsPastWriter M.start M.sent) (record { part = v.coord; outs = outs }) →
      Fine (IsPastWriter M.start M.sent) outs → Walks ArePastWriters e k outs (Up ArePastWriters k v) d M
  go v outs told fine = walk e k v outs d M disk told fine (others k d (Some t) M all) all.posts

  message_walk : (from : ℕ) (m : Message) (v : Parts) (outs : List Effect) → In (record { from = from; to = k; message = m }) M.sent →
      handle k d t from m ≡ Took v outs → Walks ArePastWriters e k outs (Up ArePastWriters k v) d M
  message_walk from m v outs there is = go v outs f.1 f.0
    where
      u : IsUp begun M.sent M.labels k d.inc t
      u = its_up

      says : MessageIsBy (IsPastWriter M.start M.sent) m
      says = all.posts (record { from = from; to = k; message = m }) there

      hears : (a : Asked) (r : Reply) → answers m ≡ Some (a, r) → Fine (IsPastWriter M.start M.sent) (heard from a r d.intents t.coord).outs
          × IsTold (IsPastWriter M.start M.sent) (let q = heard from a r d.intents t.coord in record { part = q.part; outs = q.outs })
      hears a r of =
          let q = heard from a r d.intents t.coord in (
            coord_fine P (λ w. IsPastWriter M.start M.sent w ⊎ TellsIn q.outs w) q.part so q.outs
                (heard_so begun paths tree t.coord coord u.numbered works from a r d.intents)
                (well_heard begun paths tree from a r d.intents t.coord coord).1 (heard_own from a r d.intents t.coord),
            so,
          )
        where
          by : ReplyIsBy (IsPastWriter M.start M.sent) a r
          by = subst (AnsweredIsBy (IsPastWriter M.start M.sent)) of says.1

          so : IsTold (IsPastWriter M.start M.sent) (let q = heard from a r d.intents t.coord in record { part = q.part; outs = q.outs })
          so = hears_so P from a r d.intents t.coord its (λ st same. subst (ReplyIsBy (IsPastWriter M.start M.sent) a) same by)
              (λ states same. subst (ReplyIsBy (IsPastWriter M.start M.sent) a) same by)

      acks : (w : Uid) →
          Fine (IsPastWriter M.start M.sent) (acked from w d.intents t.coord).outs × So (IsPastWriter M.start M.sent)
          (acked from w d.intents t.coord).part
      acks w = let q = acked from w d.intents t.coord in let so = coords.acked_so P from w d.intents t.coord its in (
        coord_fine P P q.part so q.outs (acked_so from w d.intents t.coord) (well_acked begun paths tree from w d.intents t.coord).1
            (acked_own from w d.intents t.coord),
        so,
      )

      answers_it : (w : Uid) → Fine (IsPastWriter M.start M.sent) (answer_query from w d.intents t.coord)
      answers_it w = coord_fine P P t.coord its (answer_query from w d.intents t.coord) (query_so t.coord from w d.intents t.coord)
          (true_query begun paths tree from w d.intents t.coord (tops_of_disk e k d t M (begun, good)) (own_of_disk e k d t M (begun, good))
          coord) (query_own from w d.intents t.coord)

      f : Fine (IsPastWriter M.start M.sent) outs × IsTold (IsPastWriter M.start M.sent) (record { part = v.coord; outs = outs })
      f = handled_by M.start M.sent k d t from disk its m (λ w how i. (
        record { from = from; to = k; message = m },
        there,
        how,
        i,
      )) hears acks
          answers_it says.0 v outs is

  act_walk : (hd : Header) (i : Input) → is_act i ≡ true → refusal_up hd i t.coord ≡ None → Walks ArePastWriters e k
      (let r = acts i d.intents t.coord in r.outs) (Up ArePastWriters k (with_coord t (acts i d.intents t.coord).part)) d M
  act_walk hd i is free =
      let r = acts i d.intents t.coord in
      let u = its_up in
      let so = commits.acts_so P i d.intents t.coord its in
      go (with_coord t r.part) r.outs so (coord_fine P (λ w. IsPastWriter M.start M.sent w ⊎ TellsIn r.outs w) r.part so r.outs
      (acts_so begun paths tree t.coord coord u.numbered works i d.intents other)
      (well_acts begun paths tree d.intents t.coord coord works hd i free other).1 (acts_own i d.intents t.coord))
    where
      other : (l : Label) (how : Kind) (parent : Option Label) → i ≢ input.Begin l how parent
      other l how parent same = let no_way : false ≡ true = sym (ap is_act same) ∙ is in cc no_way

  tick_walk : Walks ArePastWriters e k (tick_outs (record { number = k; disk = d; live = Some t }) t)
      (Up ArePastWriters k (with_coord t (again_all t.coord.doings t.coord).part)) d M
  tick_walk =
      let r = again_all t.coord.doings t.coord in
      let u = its_up in
      let so = coords.again_so P t.coord.doings t.coord its in
      let outs = tick_outs (record { number = k; disk = d; live = Some t }) t in
      go (with_coord t r.part) outs (plainly P (record { part = r.part; outs = outs }) so)
      (fine_both P (r.outs ++ tolds_again t.coord.telling) (map query_about (holders d t)) (fine_both P r.outs (tolds_again t.coord.telling)
      (coord_fine P P r.part so r.outs (again_so begun paths tree t.coord coord u.numbered works)
      (well_again begun paths tree t.coord coord).1 (again_own t.coord.doings t.coord))
      (tells_fine P t.coord.telling)) (queries P (holders d t)))

-- ---- at first

-- a coordinator that has begun nothing
fresh_by : (P : Uid → Type 0) (k inc : ℕ) (d : Disk) → So P (parts_in k inc d).coord
fresh_by P k inc d = record { works = λ u q does. absurd (nothing u (is_own u (parts_in k inc d).coord.tree) u.num q does); roots = tt }
  where
    nothing : (u : Uid) (b : Bool) (j : ℕ) (q : Doing) → cond b (at_place {A = Doing} j []) None ≡ Some q → ⊥
    nothing u true zero q is = cc is
    nothing u true (suc j) q is = cc is
    nothing u false j q is = cc is

first_by : (hd : Header) → IsAtStarts hd ArePastWriters
first_by hd st formed = record {
  nodes = λ k n is. subst (NodeIsBy P) (first_at hd st k n is) (record {
    store = record { held = states k; pend = tt };
    live = λ t its. subst (λ (z : Parts). So P z.coord) (live_first hd st k t its) (fresh_by P k (st.incs k + 1) (disk_by hd st k));
  });
  posts = λ p none. absurd none;
}
  where
    P : Uid → Type 0
    P = IsPastWriter st []

    puts : (ss : List ObjectState) (held : List (Uid × ObjectState)) → AllByRecursion (IsBy P) ss → Held P held →
        Held P (put_states ss held)
    puts [] held by so = so
    puts (s ∷ ss) held by so = puts ss _ by.1 (put_so P s held by.0 so)

    lines : (os : List ObjectLine) → AllByRecursion (IsBy P) (map (λ (o : ObjectLine). state_by hd.format (st.marks.states o.x) o) os)
    lines [] = tt
    lines (o ∷ os) = (inl (formed.states o.x), lines os)

    older : (k : ℕ) (more : List (ℕ × ObjectState)) → AllByRecursion (IsOlder hd st) more → AllByRecursion (IsBy P) (older_at k more)
    older k [] all = tt
    older k (a ∷ more) all = by (a.0 == k) (older k more all.1)
      where
        by : (b : Bool) → AllByRecursion (IsBy P) (older_at k more) → AllByRecursion (IsBy P) (cond b (a.1 ∷ older_at k more)
            (older_at k more))
        by true rest = (inl (let o = all.0 in o.past), rest)
        by false rest = rest

    states : (k : ℕ) → Held P (let d = disk_by hd st k in let p = d.store in p.held)
    states k = puts (states_from k hd st) [] (all_append (IsBy P) (older_at k st.older)
        (map (λ (o : ObjectLine). state_by hd.format (st.marks.states o.x) o) (filter (λ (o : ObjectLine). has o.stores k) hd.objects))
        (older k st.older formed.older) (lines (filter (λ (o : ObjectLine). has o.stores k) hd.objects))) tt

pub writers_given : (hd : Header) → KeepsGiven hd IsGood ArePastWriters
writers_given hd = record {
  quiet = λ e bs M quiet g p. record { nodes = p.nodes; posts = p.posts };
  stop = λ e k d live M g p. let m = mine k d live M p in down_by e k d M m.store (others k d live M p) p.posts;
  message = λ e k d t v from m outs M g p there meant is. message_walk g.0 e k d t M g.1 p from m v outs there is;
  act = λ e k d t i M is free g p. act_walk g.0 e k d t M g.1 p hd i is free;
  begin = λ e k d t l how parent M new may free g p.
      let did = begin_action l how parent (parent_of parent t.coord) t.coord in
      let m = mine k d (Some t) M p in
      walk e k (with_coord t did.part) did.outs d (given l (record { node = k; serial = is_serial how }) M) m.store (plainly
      (IsPastWriter M.start M.sent) did (begins_so (IsPastWriter M.start M.sent) l how parent (parent_of parent t.coord) t.coord
      (m.live t refl)))
      (tt, tt) (others k d (Some t) M p) p.posts;
  tick = λ e k d t M g p. tick_walk g.0 e k d t M g.1 p;
  restart = λ e k d M g p. let m = mine k d None M p in
      walk e k (parts_in k (d.inc + 1) d) (restart_outs hd k (d.inc + 1) d) d M m.store (plainly (IsPastWriter M.start M.sent)
      (record { part = (parts_in k (d.inc + 1) d).coord; outs = restart_outs hd k (d.inc + 1) d }) (fresh_by (IsPastWriter M.start M.sent) k
      (d.inc + 1) d)) (restart_fine (IsPastWriter M.start M.sent) hd k (d.inc + 1) d) (others k d None M p) p.posts;
  first = first_by hd;
}
