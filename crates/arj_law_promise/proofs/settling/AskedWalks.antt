-- Each handler keeps that whoever has something prepared was asked for it by a request of its own.
use Rattle.arj_law_parts.proofs.Words
use Words.{◌≡◌, ◌≢◌, ◌+◌, ◌==◌, ◌∙◌, ◌++◌, ℕ, Bool, true, false, cond, List, [], ◌∷◌, length, Option, Some, None, refl, sym, ap, subst, inl}
use Words.{inr, map, eqb-true, ⊤, is_some, AllByRecursion, Ask, Head, Header, Kind, Label, Message, ObjectState, Uid, asks, again_all}
use Words.{begin_action, heard, Coord, Abort, After, Before, Commit, Disk, Do, Effect, InPart, Look, Pair, Prepare, PutInc, PutIntent}
use Words.{RemoveIntent, Say, Send, Stop, Work, in_part, stopped, worked, acked, answer_query, tick_outs, recovered_naming, Parts, Took}
use Words.{handle, holders, query_about, with_coord, Input, Node, acts as acts_of, parent_of, parts_in, refusal_up}
use Words.{restart_outs, tolds_again, put_uid, without_uid, acked_own, acts_own, again_own, heard_own, query_own}
use Words.{tolds_again_own, Post, Seen, is_serial}
use Words.role
use Words.input
use Rattle.arj_law_promise.proofs.Terms
use Terms.{IsAtStarts, disk_by, live_first}
use Terms.{Action, paths_of, IsTree, Paths, IsGoodCoord, begun_tree, path_found, all_both, node_on, well_acked, well_acts, well_again}
use Terms.{well_heard, IsGoodOf, IsUp, it, other_number, same_number, is_act, In, at, given, posted, said, up, Up, Walks, halted, acked_so}
use Terms.{acts_so, again_so, heard_so, query_so, tolds_so, first_at, HasNaming, all_each, KeepsOf, AsksForItself, HasPrepared, IsAskedNode}
use Terms.{MeansAsked, PreparedWereAsked, WasAsked, some_is}
use Terms.keys
use Rattle.arj_law_disk_view.proofs.running.Lists.{all_put, all_without}
use Rattle.arj_law_disk_view.specs.view.Pairs.{AreSorted}
use Rattle.arj_law_lock_view.proofs.facts.UpperWalks.{top_more}
use Rattle.arj_law_lock_view.specs.facts.Acts.{begins_in}
use Rattle.arj_law_parts.proofs.parts
use parts.{CoordInputs.good_acts}
use parts.GoodCoords.{good_acked, good_again, good_heard}
use Rattle.arj_law_promise.proofs.settling.Asked.{coord_asks, handled, queries, restart_fine}

-- ---- more that was sent

pub asked_more : (p : Post) (sent : List Post) (u : Uid) → WasAsked sent u → WasAsked (p ∷ sent) u
asked_more p sent u w = (w.0, inr w.1, w.2)

pub prepared_on : (P Q : Uid → Type 0) (d : Pair) → ((u : Uid) → P u → Q u) → HasPrepared P d → HasPrepared Q d
prepared_on P Q d on h = record {
  sorted = h.sorted;
  each = all_each (λ (e : Uid × List ObjectState). P e.0) (λ (e : Uid × List ObjectState). Q e.0) d.pend (λ e its. on e.0 its) h.each;
}

-- ---- one work

pub put_prepared : (Q : Uid → Type 0) (u : Uid) (states : List ObjectState) (d : Pair) → Q u → HasPrepared Q d →
    HasPrepared Q (record d { pend = put_uid u states d.pend })
put_prepared Q u states d its h = record { sorted = keys.sorted_put u states d.pend h.sorted; each = all_put Q u states d.pend its h.each }

-- what stays prepared when an action's entry goes, whatever is held
pub drop_prepared : (Q : Uid → Type 0) (u : Uid) (d e : Pair) → e.pend ≡ without_uid u d.pend → HasPrepared Q d → HasPrepared Q e
drop_prepared Q u d e same h = record {
  sorted = subst AreSorted (sym same) (keys.sorted_without u d.pend h.sorted);
  each = subst (AllByRecursion (λ (z : Uid × List ObjectState). Q z.0)) (sym same) (all_without Q u d.pend h.each);
}

abbrev OnDisk : List Post → ℕ → Disk → Type 0
OnDisk sent k d = HasPrepared (λ u. WasAsked sent u) d.store × HasPrepared (λ u. WasAsked sent u × (k ≡ 1)) d.names

-- in part, nothing more is prepared or less
pub same_prepared : (Q : Uid → Type 0) (d e : Pair) → e.pend ≡ d.pend → HasPrepared Q d → HasPrepared Q e
same_prepared Q d e same h = record {
  sorted = subst AreSorted (sym same) h.sorted;
  each = subst (AllByRecursion (λ (z : Uid × List ObjectState). Q z.0)) (sym same) h.each;
}

module _ (acts : List Action) (sent : List Post) (k : ℕ) where
  abbrev Stored : Uid → Type 0
  Stored u = WasAsked sent u

  abbrev Named : Uid → Type 0
  Named u = WasAsked sent u × (k ≡ 1)

  abbrev Disks : Disk → Type 0
  Disks d = OnDisk sent k d

  disk_worked : (w : Work) (d : Disk) → MeansAsked acts sent k (Do w) → Disks d → Disks (worked w d)
  disk_worked Look d its h = h
  disk_worked (PutInc i) d its h = h
  disk_worked (Prepare role.Store u states) d its h = (put_prepared Stored u states d.store its h.0, h.1)
  disk_worked (Prepare role.Names u states) d its h = (h.0, put_prepared Named u states d.names its h.1)
  disk_worked (Commit role.Store u) d its h =
      (drop_prepared Stored u d.store (let c = worked (Commit role.Store u) d in c.store) refl h.0, h.1)
  disk_worked (Commit role.Names u) d its h =
      (h.0, drop_prepared Named u d.names (let c = worked (Commit role.Names u) d in c.names) refl h.1)
  disk_worked (Abort role.Store u) d its h =
      (drop_prepared Stored u d.store (let c = worked (Abort role.Store u) d in c.store) refl h.0, h.1)
  disk_worked (Abort role.Names u) d its h =
      (h.0, drop_prepared Named u d.names (let c = worked (Abort role.Names u) d in c.names) refl h.1)
  disk_worked (PutIntent u i) d its h = h
  disk_worked (RemoveIntent u) d its h = h

  disk_part : (which : Uid → Bool) (w : Work) (d : Disk) → Disks d → Disks (in_part which w d)
  disk_part which Look d h = h
  disk_part which (PutInc i) d h = h
  disk_part which (Prepare role u states) d h = h
  disk_part which (Commit role.Store u) d h =
      (same_prepared Stored d.store (let c = in_part which (Commit role.Store u) d in c.store) refl h.0, h.1)
  disk_part which (Commit role.Names u) d h =
      (h.0, same_prepared Named d.names (let c = in_part which (Commit role.Names u) d in c.names) refl h.1)
  disk_part which (Abort role u) d h = h
  disk_part which (PutIntent u i) d h = h
  disk_part which (RemoveIntent u) d h = h

  pub disk_stopped : (how : Stop) (w : Work) (d : Disk) → MeansAsked acts sent k (Do w) → Disks d → Disks (stopped how w d)
  disk_stopped Before w d its h = h
  disk_stopped After w d its h = disk_worked w d its h
  disk_stopped (InPart which) w d its h = disk_part which w d h

disk_more : (p : Post) (sent : List Post) (k : ℕ) (d : Disk) → OnDisk sent k d → OnDisk (p ∷ sent) k d
disk_more p sent k d h = (
  prepared_on (λ u. WasAsked sent u) (λ u. WasAsked (p ∷ sent) u) d.store (asked_more p sent) h.0,
  prepared_on (λ u. WasAsked sent u × (k ≡ 1)) (λ u. WasAsked (p ∷ sent) u × (k ≡ 1)) d.names (λ u its. (asked_more p sent u its.0, its.1))
      h.1,
)

node_more : (p : Post) (sent : List Post) (k : ℕ) (n : Node) → IsAskedNode sent k n → IsAskedNode (p ∷ sent) k n
node_more p sent k n h = let d = disk_more p sent k n.disk (h.store, h.names) in record { store = d.0; names = d.1; live = h.live }

module _ (acts : List Action) where
  means_more : (p : Post) (sent : List Post) (k : ℕ) (f : Effect) → MeansAsked acts sent k f → MeansAsked acts (p ∷ sent) k f
  means_more p sent k (Do (Prepare role.Store u states)) its = asked_more p sent u its
  means_more p sent k (Do (Prepare role.Names u states)) its = (asked_more p sent u its.0, its.1)
  means_more p sent k (Do Look) its = tt
  means_more p sent k (Do (PutInc i)) its = tt
  means_more p sent k (Do (Commit r u)) its = tt
  means_more p sent k (Do (Abort r u)) its = tt
  means_more p sent k (Do (PutIntent u i)) its = tt
  means_more p sent k (Do (RemoveIntent u)) its = tt
  means_more p sent k (Say b) its = tt
  means_more p sent k (Send to m) its = its

  all_more : (p : Post) (sent : List Post) (k : ℕ) (es : List Effect) → AllByRecursion (MeansAsked acts sent k) es →
      AllByRecursion (MeansAsked acts (p ∷ sent) k) es
  all_more p sent k es all = all_each (MeansAsked acts sent k) (MeansAsked acts (p ∷ sent) k) es (means_more p sent k) all

  -- ---- one node apart from the others

  record Around (k : ℕ) (M : Seen) : Type 0 where
    nodes : (j : ℕ) (n : Node) → (j ≡ k → ⊥) → M.nodes j ≡ Some n → IsAskedNode M.sent j n
    sent : (p : Post) → In p M.sent → AsksForItself acts p.from (asks p.message)

  around : (k : ℕ) (d : Disk) (live : Option Parts) (M : Seen) → PreparedWereAsked acts (at k d live M) → Around k M
  around k d live M all = record {
    nodes = λ j n apart is.
        all.nodes j n ((λ i. cond (other_number j k apart i) (Some (record { number = k; disk = d; live = live })) (M.nodes j)) ∙ is);
    sent = all.sent;
  }

  own : (k : ℕ) (d : Disk) (live : Option Parts) (M : Seen) → PreparedWereAsked acts (at k d live M) →
      IsAskedNode M.sent k (record { number = k; disk = d; live = live })
  own k d live M all = all.nodes k (record { number = k; disk = d; live = live })
      (λ i. cond (same_number k i) (Some (record { number = k; disk = d; live = live })) (M.nodes k))

  back : (k : ℕ) (d : Disk) (live : Option Parts) (M : Seen) → OnDisk M.sent k d → ((t : Parts) → live ≡ Some t → HasNaming k t) →
      Around k M → PreparedWereAsked acts (at k d live M)
  back k d live M its up_it o = record { nodes = λ j n is. by j n (j == k) refl is; sent = o.sent }
    where
      x : Node
      x = record { number = k; disk = d; live = live }

      mine : IsAskedNode M.sent k x
      mine = record { store = its.0; names = its.1; live = up_it }

      by : (j : ℕ) (n : Node) (b : Bool) → (j == k) ≡ b → cond b (Some x) (M.nodes j) ≡ Some n → IsAskedNode M.sent j n
      by j n true same e =
          subst (λ z. IsAskedNode M.sent z n) (sym (eqb-true j k same)) (subst (λ (z : Node). IsAskedNode M.sent k z) (some_is e) mine)
      by j n false apart e =
          o.nodes j n (λ same. let no_way : true ≡ false = sym (ap (λ z. z == k) same ∙ same_number k) ∙ apart in cc no_way) e

  down_so : (e k : ℕ) (d : Disk) (M : Seen) → OnDisk M.sent k d → Around k M → PreparedWereAsked acts (halted e k d M)
  down_so e k d M its o = let b = back k d None M its (λ t is. absurd (cc is)) o in record { nodes = b.nodes; sent = b.sent }

  walk : (e k : ℕ) (v : Parts) (outs : List Effect) (d : Disk) (M : Seen) → HasNaming k v → AllByRecursion (MeansAsked acts M.sent k) outs →
      OnDisk M.sent k d → Around k M → Walks (PreparedWereAsked acts) e k outs (Up (PreparedWereAsked acts) k v) d M
  walk e k v [] d M has fine its o = back k d (Some v) M its (λ t is. subst (HasNaming k) (some_is is) has) o
  walk e k v (Do w ∷ es) d M has fine its o = (
    λ how. down_so e k (stopped how w d) M (disk_stopped acts M.sent k how w d fine.0 its) o,
    walk e k v es (worked w d) M has fine.1 (disk_stopped acts M.sent k After w d fine.0 its) o,
  )
  walk e k v (Say b ∷ es) d M has fine its o =
      walk e k v es d (said e (b ∷ []) M) has fine.1 its (record { nodes = o.nodes; sent = o.sent })
  walk e k v (Send to m ∷ es) d M has fine its o = λ more quiet. walk e k v es d (said e more (posted p M)) has (all_more p M.sent k es
      fine.1) (disk_more p M.sent k d its) (record { nodes = λ j n apart is. node_more p M.sent j n (o.nodes j n apart is); sent = asked })
    where
      p : Post
      p = record { from = k; to = to; message = m }

      asked : (q : Post) → In q (p ∷ M.sent) → AsksForItself acts q.from (asks q.message)
      asked q (inl same) = subst (λ (z : Post). AsksForItself acts z.from (asks z.message)) same fine.0
      asked q (inr old) = o.sent q old

  -- ---- a node of a good world

  module _ (e k : ℕ) (d : Disk) (t : Parts) (M : Seen) (good : IsGoodOf acts (up k d t M)) (all : PreparedWereAsked acts (up k d t M)) where
    abbrev paths : Paths
    paths = paths_of acts

    tree : IsTree paths
    tree = begun_tree acts good.begun

    its_up : IsUp acts M.sent M.labels k d.inc t
    its_up = it e k d t M (acts, good)

    coord : IsGoodCoord acts paths t.coord
    coord = let u = its_up in let g = u.good paths tree (path_found acts good.begun) in g.coord

    works : length t.coord.doings ≡ length t.coord.tree.branches
    works = let u = its_up in let f = u.faithful in f.works

    mine : IsAskedNode M.sent k (record { number = k; disk = d; live = Some t })
    mine = own k d (Some t) M all

    has : HasNaming k t
    has = let m = mine in m.live t refl

    disk : OnDisk M.sent k d
    disk = let m = mine in (m.store, m.names)

    abbrev Fine : List Effect → Type 0
    Fine outs = AllByRecursion (MeansAsked acts M.sent k) outs

    -- a coordinator of this node
    of_coord : (c : Coord) → (let r = c.tree in r.node) ≡ k → (es : List Effect) →
        AllByRecursion (MeansAsked acts M.sent (let r = c.tree in r.node)) es → Fine es
    of_coord c node es its = subst (λ j. AllByRecursion (MeansAsked acts M.sent j) es) node its

    pub message_walk : (from : ℕ) (m : Message) (v : Parts) (outs : List Effect) → In (record { from = from; to = k; message = m }) M.sent →
        handle k d t from m ≡ Took v outs → Walks (PreparedWereAsked acts) e k outs (Up (PreparedWereAsked acts) k v) d M
    message_walk from m v outs there is = walk e k v outs d M f.1 f.0 disk (around k d (Some t) M all)
      where
        u : IsUp acts M.sent M.labels k d.inc t
        u = its_up

        f : Fine outs × HasNaming k v
        f = handled acts good.begun M.sent k d t from m there has
            (λ a r. let q = heard from a r d.intents t.coord in
            of_coord q.part (sym (node_on t.coord q.part (well_heard acts paths tree from a r d.intents t.coord coord).0) ∙ u.node)
            q.outs (coord_asks acts good.begun paths q.part (good_heard acts paths tree from a r d.intents t.coord coord) M.sent q.outs
            (heard_so acts paths tree t.coord coord u.numbered works from a r d.intents) (heard_own from a r d.intents t.coord)))
            (λ w. let q = acked from w d.intents t.coord in of_coord q.part (sym (node_on t.coord q.part (well_acked acts paths tree from w
            d.intents t.coord).0) ∙ u.node) q.outs (coord_asks acts good.begun paths q.part (good_acked acts paths tree from w d.intents
            t.coord coord) M.sent q.outs (acked_so from w d.intents t.coord) (acked_own from w d.intents t.coord)))
            (λ w. of_coord t.coord u.node (answer_query from w d.intents t.coord) (coord_asks acts good.begun paths t.coord coord M.sent
            (answer_query from w d.intents t.coord) (query_so t.coord from w d.intents t.coord) (query_own from w d.intents t.coord)))
            v outs is

    pub act_walk : (hd : Header) (i : Input) → is_act i ≡ true → refusal_up hd i t.coord ≡ None → Walks (PreparedWereAsked acts) e k (let r
        = acts_of i d.intents t.coord in r.outs) (Up (PreparedWereAsked acts) k (with_coord t (acts_of i d.intents t.coord).part)) d M
    act_walk hd i is free =
        let r = acts_of i d.intents t.coord in
        let u = its_up in
        walk e k (with_coord t r.part) r.outs d M has
        (of_coord r.part (sym (node_on t.coord r.part (well_acts acts paths tree d.intents t.coord coord works hd i free other).0) ∙ u.node)
        r.outs (coord_asks acts good.begun paths r.part (good_acts acts paths tree d.intents t.coord coord hd i free other) M.sent
        r.outs (acts_so acts paths tree t.coord coord u.numbered works i d.intents other) (acts_own i d.intents t.coord)))
        disk (around k d (Some t) M all)
      where
        other : (l : Label) (how : Kind) (parent : Option Label) → i ≢ input.Begin l how parent
        other l how parent same = let no_way : false ≡ true = sym (ap is_act same) ∙ is in cc no_way

    pub tick_walk : Walks (PreparedWereAsked acts) e k (tick_outs (record { number = k; disk = d; live = Some t }) t)
        (Up (PreparedWereAsked acts) k (with_coord t (again_all t.coord.doings t.coord).part)) d M
    tick_walk =
        let r = again_all t.coord.doings t.coord in
        let u = its_up in
        let tolds = tolds_again t.coord.telling in
        walk e k (with_coord t r.part) (tick_outs (record { number = k; disk = d; live = Some t }) t) d M has
        (all_both (MeansAsked acts M.sent k) (r.outs ++ tolds) (map query_about (holders d t))
        (all_both (MeansAsked acts M.sent k) r.outs tolds
        (of_coord r.part (sym (node_on t.coord r.part (well_again acts paths tree t.coord coord).0) ∙ u.node) r.outs
        (coord_asks acts good.begun paths r.part (good_again acts paths tree t.coord.doings t.coord coord) M.sent r.outs
        (again_so acts paths tree t.coord coord u.numbered works) (again_own t.coord.doings t.coord)))
        (of_coord t.coord u.node tolds (coord_asks acts good.begun paths t.coord coord M.sent tolds (tolds_so t.coord t.coord.telling)
        (tolds_again_own t.coord.telling)))) (queries acts good.begun M.sent k (holders d t)))
        disk (around k d (Some t) M all)

-- ---- one more action

itself_more : (a : Action) (acts : List Action) (k : ℕ) (o : Option (Head × Ask)) → AsksForItself acts k o → AsksForItself (a ∷ acts) k o
itself_more a acts k None its = tt
itself_more a acts k (Some q) its = λ u is. let f = its u is in record { top = top_more a acts u f.top; home = f.home; same = f.same }

around_more : (a : Action) (acts : List Action) (k : ℕ) (M : Seen) → Around acts k M → Around (a ∷ acts) k M
around_more a acts k M o = record { nodes = o.nodes; sent = λ p i. itself_more a acts p.from (asks p.message) (o.sent p i) }

-- ---- at first

starts : (k inc : ℕ) (d : Disk) → HasNaming k (parts_in k inc d)
starts k inc d = by (k == 1)
  where
    by : (c : Bool) → is_some (cond c (Some (recovered_naming inc d.names)) None) ≡ c
    by true = refl
    by false = refl

first_asked : (hd : Header) → IsAtStarts hd (PreparedWereAsked [])
first_asked hd st formed = record {
  nodes = λ k n is. subst (IsAskedNode [] k) (first_at hd st k n is) (record {
    store = record { sorted = tt; each = tt };
    names = record { sorted = tt; each = tt };
    live = λ t its. subst (HasNaming k) (live_first hd st k t its) (starts k (st.incs k + 1) (disk_by hd st k));
  });
  sent = λ p none. absurd none;
}

pub asked_of : (hd : Header) → KeepsOf hd (λ acts M. ⊤) PreparedWereAsked
asked_of hd = record {
  quiet = λ acts e bs M quiet more g p. record { nodes = p.nodes; sent = p.sent };
  stop = λ acts e k d live M more g p. let m = own acts k d live M p in down_so acts e k d M (m.store, m.names) (around acts k d live M p);
  message = λ acts e k d t v from m outs M more g p there meant is. message_walk acts e k d t M g p from m v outs there is;
  act = λ acts e k d t i M is free more g p. act_walk acts e k d t M g p hd i is free;
  begin = λ acts e k d t l how parent M new may free more g p.
      let did = begin_action l how parent (parent_of parent t.coord) t.coord in
      let a : Action = begins_in how parent t in
      let m = own acts k d (Some t) M p in
      walk (a ∷ acts) e k (with_coord t did.part) did.outs d (given l (record { node = k; serial = is_serial how }) M) (m.live t refl)
      (tt, tt) (m.store, m.names)
      (let o = around_more a acts k M (around acts k d (Some t) M p) in record { nodes = o.nodes; sent = o.sent });
  tick = λ acts e k d t M more g p. tick_walk acts e k d t M g p;
  restart = λ acts e k d M more g p. let m = own acts k d None M p in
      walk acts e k (parts_in k (d.inc + 1) d) (restart_outs hd k (d.inc + 1) d) d M (starts k (d.inc + 1) d)
      (restart_fine acts g.begun M.sent k hd (d.inc + 1) d) (m.store, m.names) (around acts k d None M p);
  first = first_asked hd;
}
