-- Each handler keeps who is asked about, and who has something prepared at a store.
use Rattle.arj_law_parts.proofs.Words
use Words.{◌≡◌, ◌≢◌, ◌+◌, ◌==◌, ◌∙◌, ◌++◌, ℕ, Bool, true, false, cond, List, [], ◌∷◌, length, Option, Some, None, refl, sym, ap}
use Words.{subst, inl, inr, map, Contains, AllByRecursion, flat_map, End, Header, Kind, Label, Message, ObjectState, Uid, asks}
use Words.{again_all, begin_action, heard, back_lines, Copy, Abort, After, Before, Commit, Disk, Do, Effect, InPart, Intent, Look, Prepare}
use Words.{PutInc, PutIntent, RemoveIntent, Say, Send, Stop, Work, stopped, worked, acked, answer_query, tell_all, tick_outs, Named, Naming}
use Words.{Parts, Took, handle, holders, prepared_actions, query_about, with_coord, at_number, uid_set, without_number, Input, Node}
use Words.{acts as acts_of, hello_to, naming_at, naming_back, numbers_to, parent_of, parts_in, recovered_records, refusal_up}
use Words.{restart_outs, tolds_again, acked_own, acts_own, again_own, heard_own, query_own}
use Words.{tolds_again_own, Post, Seen, is_serial}
use Words.body
use Words.ending
use Words.role
use Words.input
use Rattle.arj_law_serial.proofs.Terms
use Terms.{IsAtStarts, first_at}
use Terms.{Action, AreBegun, paths_of, IsTree, Paths, IsGoodCoord, IsTopAction, IsGoodNode, begun_tree, path_found, good_heard, all_map}
use Terms.{true_query, well_acked, well_acts, well_again, well_heard, IsGoodOf, IsUp, it, own_of_disk, tops_of_disk, other_number}
use Terms.{same_number, is_act, In, at, given, posted, said, up, Up, Walks, halted, KnowsFew, asked_about, all_each, all_put, all_without}
use Terms.{KeepsOf, begins_in, AreOfEntries, AreUppersOf, IsTopOf, copies_listed, HaveTops, HoldsNames, IsAboutTop, MeansTop, PreparesTop}
use Terms.{TopsAreKnown}
use Rattle.arj_law_parts.proofs.parts.{CoordInputs.good_acts, GoodCoords.good_acked, GoodCoords.good_again, TrueSteps.true_records}
use Rattle.arj_law_runs.proofs.calls.CoordOuts.{acked_so, acts_so, again_so, heard_so, query_so, tolds_so}
use Rattle.arj_law_serial.proofs.whole.Tops.{about_more, asks_more, both, coord_fine, handled, holders_in, prepared_in, queries, top_more}

some_is : {A : Type 0} {a b : A} → Some a ≡ Some b → a ≡ b
some_is {A} {a} {b} is = let k : ◌≡◌ {A = Option A} (Some a) (Some b) = is in cc

none_at : {A P : Type 0} {o : Option A} {x : A} → o ≡ None → o ≡ Some x → P
none_at {A} {P} {o} {x} none is = let no_way : ◌≡◌ {A = Option A} None (Some x) = sym none ∙ is in absurd (cc no_way)

module _ (acts : List Action) where
  -- ---- one work

  store_worked : (w : Work) (d : Disk) → MeansTop acts (Do w) → HaveTops acts d.store → HaveTops acts (let c = worked w d in c.store)
  store_worked Look d its all = all
  store_worked (PutInc i) d its all = all
  store_worked (Prepare role.Store u states) d its all = all_put (IsTopAction acts) u states d.store.pend its all
  store_worked (Prepare role.Names u states) d its all = all
  store_worked (Commit role.Store u) d its all = all_without (IsTopAction acts) u d.store.pend all
  store_worked (Commit role.Names u) d its all = all
  store_worked (Abort role.Store u) d its all = all_without (IsTopAction acts) u d.store.pend all
  store_worked (Abort role.Names u) d its all = all
  store_worked (PutIntent u i) d its all = all
  store_worked (RemoveIntent u) d its all = all

  store_part : (which : Uid → Bool) (w : Work) (d : Disk) → HaveTops acts d.store →
      HaveTops acts (let c = stopped (InPart which) w d in c.store)
  store_part which Look d all = all
  store_part which (PutInc i) d all = all
  store_part which (Prepare role u states) d all = all
  store_part which (Commit role.Store u) d all = all
  store_part which (Commit role.Names u) d all = all
  store_part which (Abort role u) d all = all
  store_part which (PutIntent u i) d all = all
  store_part which (RemoveIntent u) d all = all

  store_stopped : (how : Stop) (w : Work) (d : Disk) → MeansTop acts (Do w) → HaveTops acts d.store →
      HaveTops acts (let c = stopped how w d in c.store)
  store_stopped Before w d its all = all
  store_stopped After w d its all = store_worked w d its all
  store_stopped (InPart which) w d its all = store_part which w d all

  -- ---- one node apart from the others

  record Around (k : ℕ) (M : Seen) : Type 0 where
    stores : (j : ℕ) (n : Node) → (j ≡ k → ⊥) → M.nodes j ≡ Some n → HaveTops acts (let d = n.disk in d.store)
    sent : (p : Post) → In p M.sent → IsAboutTop acts p.to (asked_about p.message) × PreparesTop acts (asks p.message)

  around : (k : ℕ) (d : Disk) (live : Option Parts) (M : Seen) → TopsAreKnown acts (at k d live M) → Around k M
  around k d live M all = record {
    stores = λ j n apart is.
        all.stores j n ((λ i. cond (other_number j k apart i) (Some (record { number = k; disk = d; live = live })) (M.nodes j)) ∙ is);
    sent = all.sent;
  }

  own : (k : ℕ) (d : Disk) (live : Option Parts) (M : Seen) → TopsAreKnown acts (at k d live M) → HaveTops acts d.store
  own k d live M all = all.stores k (record { number = k; disk = d; live = live })
      (λ i. cond (same_number k i) (Some (record { number = k; disk = d; live = live })) (M.nodes k))

  back : (k : ℕ) (d : Disk) (live : Option Parts) (M : Seen) → HaveTops acts d.store → Around k M → TopsAreKnown acts (at k d live M)
  back k d live M its o = record { stores = λ j n is. by j n (j == k) refl is; sent = o.sent }
    where
      by : (j : ℕ) (n : Node) (b : Bool) → (j == k) ≡ b →
          cond b (Some (record { number = k; disk = d; live = live })) (M.nodes j) ≡ Some n → HaveTops acts (let c = n.disk in c.store)
      by j n true same e = let here : record { number = k; disk = d; live = live } ≡ n = some_is e in
          subst (λ (z : Node). HaveTops acts (let c = z.disk in c.store)) here its
      by j n false apart e =
          o.stores j n (λ same. let no_way : true ≡ false = sym (ap (λ z. z == k) same ∙ same_number k) ∙ apart in cc no_way) e

  down_so : (e k : ℕ) (d : Disk) (M : Seen) → HaveTops acts d.store → Around k M → TopsAreKnown acts (halted e k d M)
  down_so e k d M its o = let b = back k d None M its o in record { stores = b.stores; sent = b.sent }

  walk : (e k : ℕ) (v : Parts) (outs : List Effect) (d : Disk) (M : Seen) → AllByRecursion (MeansTop acts) outs → HaveTops acts d.store →
      Around k M → Walks (TopsAreKnown acts) e k outs (Up (TopsAreKnown acts) k v) d M
  walk e k v [] d M fine its o = back k d (Some v) M its o
  walk e k v (Do w ∷ es) d M fine its o = (
    λ how. down_so e k (stopped how w d) M (store_stopped how w d fine.0 its) o,
    walk e k v es (worked w d) M fine.1 (store_worked w d fine.0 its) o,
  )
  walk e k v (Say b ∷ es) d M fine its o = walk e k v es d (said e (b ∷ []) M) fine.1 its (record { stores = o.stores; sent = o.sent })
  walk e k v (Send to m ∷ es) d M fine its o = λ more quiet. walk e k v es d
      (said e more (posted (record { from = k; to = to; message = m }) M)) fine.1 its (record { stores = o.stores; sent = asked })
    where
      asked : (p : Post) → In p (record { from = k; to = to; message = m } ∷ M.sent) →
          IsAboutTop acts p.to (asked_about p.message) × PreparesTop acts (asks p.message)
      asked p (inl same) =
          subst (λ (q : Post). IsAboutTop acts q.to (asked_about q.message) × PreparesTop acts (asks q.message)) same fine.0
      asked p (inr old) = o.sent p old

  -- ---- what is known of a node

  abbrev Names : Disk → Type 0
  Names d = AllByRecursion (λ (e : Uid × List ObjectState). IsTopOf acts e.0 × AreOfEntries e.1) (let p = d.names in p.pend)

  names_of : (k : ℕ) (d : Disk) (live : Option Parts) (M : Seen) → AreUppersOf HoldsNames acts (at k d live M) →
      Names d × ((t : Parts) (n : Naming) → live ≡ Some t → t.naming ≡ Some n → HoldsNames acts n)
  names_of k d live M uppers = let u = uppers k (record { number = k; disk = d; live = live }) (λ i.
      cond (same_number k i) (Some (record { number = k; disk = d; live = live })) (M.nodes k)) in ((let h = u.names in h.pend), u.live)

  module _ (e k : ℕ) (d : Disk) (t : Parts) (M : Seen) (few : KnowsFew (up k d t M)) (uppers : AreUppersOf HoldsNames acts (up k d t M))
      (good : IsGoodOf acts (up k d t M)) (tops : TopsAreKnown acts (up k d t M)) where
    abbrev paths : Paths
    paths = paths_of acts

    tree : IsTree paths
    tree = begun_tree acts good.begun

    its_up : IsUp acts M.sent M.labels k d.inc t
    its_up = it e k d t M (acts, good)

    its_good : IsGoodNode acts paths t
    its_good = let u = its_up in u.good paths tree (path_found acts good.begun)

    coord : IsGoodCoord acts paths t.coord
    coord = let g = its_good in g.coord

    its_node : (let S = up k d t M in S.nodes k) ≡ Some (record { number = k; disk = d; live = Some t })
    its_node = λ i. cond (same_number k i) (Some (record { number = k; disk = d; live = Some t })) (M.nodes k)

    listed : (y : ℕ) (o : Copy) → Contains {X = ℕ × Copy} (let s = t.server in s.objects) (y, o) →
        at_number y (let s = t.server in s.objects) ≡ Some o
    listed y o i = let r = few.1.1 in
        let a = r.2 ((paths_of r.0), begun_tree r.0 (let g = r.1 in g.begun), path_found r.0 (let g = r.1 in g.begun)) in
        copies_listed (paths_of r.0) M.sent k (record { number = k; disk = d; live = Some t }) t
        (a.nodes k (record { number = k; disk = d; live = Some t }) its_node) refl y o i

    names : Names d × ((s : Parts) (n : Naming) → Some t ≡ Some s → s.naming ≡ Some n → HoldsNames acts n)
    names = names_of k d (Some t) M uppers

    hold : AllByRecursion (IsTopAction acts) (holders d t)
    hold = holders_in acts good.begun d (own k d (Some t) M tops) names.0 t paths its_good listed (λ n is. names.1 t n refl is)

    works : length t.coord.doings ≡ length t.coord.tree.branches
    works = let u = its_up in let f = u.faithful in f.works

    pub message_walk : (from : ℕ) (m : Message) (v : Parts) (outs : List Effect) → In (record { from = from; to = k; message = m }) M.sent →
        handle k d t from m ≡ Took v outs → Walks (TopsAreKnown acts) e k outs (Up (TopsAreKnown acts) k v) d M
    message_walk from m v outs there is = let u = its_up in walk e k v outs d M
        (handled acts good.begun k d t from hold m
        (λ a r. let q = heard from a r d.intents t.coord in coord_fine acts good.begun paths q.part q.part tree (good_heard acts paths tree
        from a r d.intents t.coord coord) q.outs (let w = well_heard acts paths tree from a r d.intents t.coord coord in
        w.1) (heard_so acts paths tree t.coord coord u.numbered works from a r d.intents) (heard_own from a r d.intents t.coord))
        (λ w. let q = acked from w d.intents t.coord in coord_fine acts good.begun paths q.part q.part tree (good_acked acts paths tree from
        w d.intents t.coord coord) q.outs (let z = well_acked acts paths tree from w d.intents t.coord in
        z.1) (acked_so from w d.intents t.coord) (acked_own from w d.intents t.coord))
        (λ w. coord_fine acts good.begun paths t.coord t.coord tree coord (answer_query from w d.intents t.coord) (true_query acts paths
        tree from w d.intents t.coord (tops_of_disk e k d t M (acts, good)) (own_of_disk e k d t M (acts, good)) coord)
        (query_so t.coord from w d.intents t.coord) (query_own from w d.intents t.coord))
        (tops.sent (record { from = from; to = k; message = m }) there).1 v outs is)
        (own k d (Some t) M tops) (around k d (Some t) M tops)

    pub act_walk : (hd : Header) (i : Input) → is_act i ≡ true → refusal_up hd i t.coord ≡ None → Walks (TopsAreKnown acts) e k
        (let r = acts_of i d.intents t.coord in r.outs) (Up (TopsAreKnown acts) k (with_coord t (acts_of i d.intents t.coord).part)) d M
    act_walk hd i is free =
        let r = acts_of i d.intents t.coord in
        let u = its_up in
        walk e k (with_coord t r.part) r.outs d M
        (coord_fine acts good.begun paths r.part r.part tree (good_acts acts paths tree d.intents t.coord coord hd i free other) r.outs
        (let w = well_acts acts paths tree d.intents t.coord coord works hd i free other in
        w.1) (acts_so acts paths tree t.coord coord u.numbered works i d.intents other) (acts_own i d.intents t.coord))
        (own k d (Some t) M tops) (around k d (Some t) M tops)
      where
        other : (l : Label) (how : Kind) (parent : Option Label) → i ≢ input.Begin l how parent
        other l how parent same = let no_way : false ≡ true = sym (ap is_act same) ∙ is in cc no_way

    pub tick_walk : Walks (TopsAreKnown acts) e k (tick_outs (record { number = k; disk = d; live = Some t }) t)
        (Up (TopsAreKnown acts) k (with_coord t (again_all t.coord.doings t.coord).part)) d M
    tick_walk =
        let r = again_all t.coord.doings t.coord in
        let u = its_up in
        let tolds = tolds_again t.coord.telling in
        walk e k (with_coord t r.part) (tick_outs (record { number = k; disk = d; live = Some t }) t) d M
        (both acts good.begun (r.outs ++ tolds) (map query_about (holders d t)) (both acts good.begun r.outs tolds
        (coord_fine acts good.begun paths r.part r.part tree (good_again acts paths tree t.coord.doings t.coord coord) r.outs
        (let w = well_again acts paths tree t.coord coord in
        w.1) (again_so acts paths tree t.coord coord u.numbered works) (again_own t.coord.doings t.coord))
        (coord_fine acts good.begun paths t.coord t.coord tree coord tolds (true_records t.coord u.faithful)
        (tolds_so t.coord t.coord.telling) (tolds_again_own t.coord.telling))) (queries acts good.begun (holders d t) hold))
        (own k d (Some t) M tops) (around k d (Some t) M tops)

  -- ---- restarts

  module _ (begun : AreBegun acts) (hd : Header) (k inc : ℕ) (d : Disk) (stored : HaveTops acts d.store) (named : Names d) where
    abbrev Fine : List Effect → Type 0
    Fine outs = AllByRecursion (MeansTop acts) outs

    -- what is told again
    tells_fine : (root : Uid) (ends : List (Uid × End)) (ns : List ℕ) → Fine (tell_all root true ends ns)
    tells_fine root ends [] = tt
    tells_fine root ends (n ∷ ns) = ((tt, tt), tells_fine root ends ns)

    tolds_fine : (telling : List (Uid × Intent)) → Fine (tolds_again telling)
    tolds_fine [] = tt
    tolds_fine (e ∷ es) = let i = e.1 in both acts begun (tell_all i.root true ((e.0, ending.Commit) ∷ []) i.nodes) (tolds_again es)
        (tells_fine i.root ((e.0, ending.Commit) ∷ []) i.nodes) (tolds_fine es)

    pub restart_fine : Fine (restart_outs hd k inc d)
    restart_fine = both acts begun four hellos (both acts begun three asking
        (both acts begun two (tolds_again d.intents) (both acts begun one records (tt, (tt, (tt, (tt, back_so (naming_at k inc d.names)))))
        (tt, all_map (MeansTop acts) (λ (e : Uid × Intent). Say (body.Recovered k e.0)) d.intents (λ e. tt))) (tolds_fine d.intents))
        (queries acts begun (uid_set (prepared_actions d.store ++ prepared_actions d.names)) (prepared_in acts begun d stored named)))
        (all_map (MeansTop acts) (hello_to k inc) (without_number k (numbers_to hd.nodes)) (λ w. (tt, tt)))
      where
        back_so : (o : Option Naming) → Fine (naming_back o)
        back_so None = tt
        back_so (Some o) = by o.objects
          where
            by : (es : List (ℕ × Named)) → Fine (flat_map (λ (e : ℕ × Named). back_lines e.1) es)
            by [] = tt
            by (e ∷ es) = both acts begun (back_lines e.1) (flat_map (λ (z : ℕ × Named). back_lines z.1) es)
                (all_map (MeansTop acts) _ (let o = e.1 in o.rows) (λ r. tt)) (by es)

        one : List Effect
        one = Do Look ∷ Do (PutInc inc) ∷ Say (body.Up k inc) ∷ Do Look ∷ naming_back (naming_at k inc d.names)

        records : List Effect
        records = Do Look ∷ recovered_records k d.intents

        two : List Effect
        two = one ++ records

        three : List Effect
        three = two ++ tolds_again d.intents

        asking : List Effect
        asking = map query_about (uid_set (prepared_actions d.store ++ prepared_actions d.names))

        four : List Effect
        four = three ++ asking

        hellos : List Effect
        hellos = map (hello_to k inc) (without_number k (numbers_to hd.nodes))

-- ---- one more action

stores_more : (a : Action) (acts : List Action) (k : ℕ) (M : Seen) → Around acts k M → Around (a ∷ acts) k M
stores_more a acts k M o = record {
  stores = λ j n apart is. all_each (λ (e : Uid × List ObjectState). IsTopAction acts e.0) (λ (e : Uid × List ObjectState).
      IsTopAction (a ∷ acts) e.0) (let d = n.disk in let p = d.store in p.pend) (λ e its. top_more a acts e.0 its) (o.stores j n apart is);
  sent = λ p i. let z = o.sent p i in (about_more a acts p.to (asked_about p.message) z.0, asks_more a acts (asks p.message) z.1);
}

-- ---- at first

first_tops : (hd : Header) → IsAtStarts hd (TopsAreKnown [])
first_tops hd st formed = record {
  stores = λ k n is. subst (λ (z : Node). HaveTops [] (let d = z.disk in d.store)) (first_at hd st k n is) tt;
  sent = λ p none. absurd none;
}

pub tops_of : (hd : Header) → KeepsOf hd (λ acts M. KnowsFew M × AreUppersOf HoldsNames acts M) TopsAreKnown
tops_of hd = record {
  quiet = λ acts e bs M quiet more g p. record { stores = p.stores; sent = p.sent };
  stop = λ acts e k d live M more g p. down_so acts e k d M (own acts k d live M p) (around acts k d live M p);
  message = λ acts e k d t v from m outs M more g p there meant is. message_walk acts e k d t M more.0 more.1 g p from m v outs there is;
  act = λ acts e k d t i M is free more g p. act_walk acts e k d t M more.0 more.1 g p hd i is free;
  begin = λ acts e k d t l how parent M new may free more g p.
      let did = begin_action l how parent (parent_of parent t.coord) t.coord in
      let a : Action = begins_in how parent t in
      walk (a ∷ acts) e k (with_coord t did.part) did.outs d (given l (record { node = k; serial = is_serial how }) M) (tt, tt)
      (all_each (λ (z : Uid × List ObjectState). IsTopAction acts z.0) (λ (z : Uid × List ObjectState). IsTopAction (a ∷ acts) z.0)
      (let c = d.store in c.pend) (λ z its. top_more a acts z.0 its) (own acts k d (Some t) M p))
      (let o = stores_more a acts k M (around acts k d (Some t) M p) in record { stores = o.stores; sent = o.sent });
  tick = λ acts e k d t M more g p. tick_walk acts e k d t M more.0 more.1 g p;
  restart = λ acts e k d M more g p. let n = names_of acts k d None M more.1 in
      walk acts e k (parts_in k (d.inc + 1) d) (restart_outs hd k (d.inc + 1) d) d M
      (restart_fine acts g.begun hd k (d.inc + 1) d (own acts k d None M p) n.0) (own acts k d None M p) (around acts k d None M p);
  first = first_tops hd;
}
