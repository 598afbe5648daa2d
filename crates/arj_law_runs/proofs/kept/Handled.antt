-- Messages, inputs and ticks leave all that holds of nodes and messages.
use Rattle.arj_law_parts.proofs.Words
use Words.{lookup, is_at, AllByRecursion, ◌≡◌, ◌≢◌, ◌≤◌, ◌+◌, ◌==◌, arith, ℕ, List, ◌++◌, length, map, true, false, cond, ◌&&◌, Option}
use Words.{Some, None, refl, sym, ◌∙◌, ap, subst, ⊎_elim, eqb-true, Contains, inl, inr, [], ◌∷◌, Bool, ◌||◌, and_parts, uid_same, in_from}
use Words.{Uid, Label, label_cmp, Kind, Message, Header, is_on, End, uid_eq, again_all, Coord, Disk, Effect, Did, tick_outs, Parts, Took}
use Words.{handle, with_coord, holders, query_about, Node, Input, acts, parts_in, refusal_up, tolds_again, at_place, is_own}
use Words.{Labelled, Post, Seen, is_serial}
use Words.list as Listed
use Words.message
use Words.ending
use Words.input
use Rattle.arj_law_runs.proofs.Terms
use Terms.{AreNumbered, AllSayEnds, AreOfCommits, IsSure, SaysEndsIn, told_by, Agree, AreBegun, AreCounted, paths_of, GoesOn, AreOfNode}
use Terms.{IsGoodCoord, Paths, IsTree, AreOfInc, IsClaimsOf, IsOfInc, IsTrulyHandled, SaysInc, AllFit, AreOfTops, Seals, has_commit_of}
use Terms.{is_commit, IsGoodNode, IsWellHandled, says_queries, none_in, said_on, sure_records, begun_tree, path_found, message_well}
use Terms.{input_well, tick_well, found_by, truly_handled, true_inc, all_both, all_map, node_on, inc_on, true_on, true_records, well_acts}
use Terms.{well_again, IsUp, IsMemory, IsGoodPlace, IsSo, IsGoodWorld, IsGood, IsGoodOf, KnowsLabels, DidKeeps, is_act, In, at, up, Walks}
use Terms.{Up, halted}
use Rattle.arj_law_parts.proofs.parts
use parts.{Decided.stand_acts, Decided.stand_again, EndsHandled.surely_handled, EndsSaid.sure_acts, EndsSaid.sure_again, SaidIncs.later_inc}
use parts.{TrueSteps.faithful_on, Voted.votes_only}
use parts.Numbered.{num_acked, num_acts, num_again, num_heard}
use parts.ObjectsAsked.{obj_acked, obj_acts, obj_again, obj_heard}
use Rattle.arj_law_parts.specs.parts.{AskedObjects.KnowsObjects, Ends.Decides, Ends.IsSurelyHandled, Nodes.VotesOnly, Nodes.VotesOnlyAfter}
use Rattle.arj_law_runs.proofs.kept
use kept.{Parted.IsLeft, Parted.coord_kept}
use kept.Walked.{same_number, other_number, IsMine, Others, are_kept, walked, down_good}

-- a commit that is told is among what the message says committed
commit_seals : (m : Message) (u : Uid) → Contains (told_by m) (u, ending.Commit) → Seals m u
commit_seals (message.Told m) u c = has (m.ends) (in_from (u, ending.Commit) m.ends c)
  where
    has : (es : List (Uid × End)) → Listed.In {X = Uid × End} (u, ending.Commit) es → has_commit_of u es ≡ true
    has [] i = absurd i
    has (e ∷ es) (inl same) =
        subst (λ (x : Uid × End). has_commit_of u (x ∷ es) ≡ true) (sym same) (λ i. (uid_same u i && true) || has_commit_of u es)
    has (e ∷ es) (inr i) = later (uid_eq e.0 u && is_commit e.1) (has es i)
      where
        later : (b : Bool) → has_commit_of u es ≡ true → (b || has_commit_of u es) ≡ true
        later true h = refl
        later false h = h
commit_seals (message.Acked m) u c = none_in u ending.Commit c
commit_seals (message.Query m) u c = none_in u ending.Commit c
commit_seals (message.Hello m) u c = none_in u ending.Commit c
commit_seals (message.Bind m) u c = none_in u ending.Commit c
commit_seals (message.Bound m) u c = none_in u ending.Commit c
commit_seals (message.Load m) u c = none_in u ending.Commit c
commit_seals (message.Loaded m) u c = none_in u ending.Commit c
commit_seals (message.Activate m) u c = none_in u ending.Commit c
commit_seals (message.Activated m) u c = none_in u ending.Commit c
commit_seals (message.RecordMsg m) u c = none_in u ending.Commit c
commit_seals (message.Recorded m) u c = none_in u ending.Commit c
commit_seals (message.Invoke m) u c = none_in u ending.Commit c
commit_seals (message.Invoked m) u c = none_in u ending.Commit c
commit_seals (message.Vote m) u c = none_in u ending.Commit c
commit_seals (message.Voted m) u c = none_in u ending.Commit c
commit_seals (message.Prepare m) u c = none_in u ending.Commit c
commit_seals (message.Prepared m) u c = none_in u ending.Commit c
commit_seals (message.Confirm m) u c = none_in u ending.Commit c
commit_seals (message.Confirmed m) u c = none_in u ending.Commit c

-- ---- what holds of one node

module _ (k : ℕ) (d : Disk) (live : Option Parts) (M : Seen) (good : IsGood (at k d live M)) where
  abbrev its : IsGoodWorld good.0 M.sent M.labels (let S = at k d live M in S.nodes)
  its = good.1

  here : (let S = at k d live M in S.nodes k) ≡ Some (record { number = k; disk = d; live = live })
  here = λ i. cond (same_number k i) (Some (record { number = k; disk = d; live = live })) (M.nodes k)

  elsewhere : (j : ℕ) → (j ≡ k → ⊥) → (let S = at k d live M in S.nodes j) ≡ M.nodes j
  elsewhere j other = λ i. cond (other_number j k other i) (Some (record { number = k; disk = d; live = live })) (M.nodes j)

  pub place_of : IsGoodPlace good.0 M.sent M.labels k (record { number = k; disk = d; live = live })
  place_of = its.places k (record { number = k; disk = d; live = live }) here

  pub so_of : (p : Post) → In p M.sent → p.from ≡ k → IsSo p (record { number = k; disk = d; live = live })
  so_of p there from =
      its.so p (record { number = k; disk = d; live = live }) there (ap (λ j. (let S = at k d live M in S.nodes j)) from ∙ here)

  -- all but this node, as its messages are so of these parts
  pub others_of : (i : ℕ) (v : Parts) → ((p : Post) → In p M.sent → p.from ≡ k → IsMine k i v p.message) → Others good.0 k i v M
  others_of i v mine = record {
    begun = its.begun;
    places = λ j n other is. its.places j n (elsewhere j other ∙ is);
    fits = its.fits;
    senders = its.senders;
    so = λ p n there other is. its.so p n there (elsewhere p.from other ∙ is);
    mine = mine;
  }

  -- what the node's messages say is of this incarnation or an earlier one, and so empty for the next
  pub mine_anew : (i : ℕ) → d.inc ≤ i → (p : Post) → In p M.sent → p.from ≡ k → IsMine k i (parts_in k (d.inc + 1) d) p.message
  mine_anew i up p there from =
      let h = so_of p there from in
      record {
        inc = later_inc k d.inc i p.message up (subst (λ f. SaysInc f d.inc p.message) from h.inc);
        node = λ u s. its.senders p u there s ∙ from;
        seals = λ u s. let q = h.seals u s in (
          omega (arith, q.0, up),
          λ own. absurd (late u.inc q.0 (eqb-true u.inc (d.inc + 1) (and_parts (u.node == k) (u.inc == (d.inc + 1)) own).1)),
        );
        past = λ u x c. omega (arith, h.past u x c, up);
        said = record {
          brings = λ u x c own.
              absurd (late u.inc (h.past u x c) (eqb-true u.inc (d.inc + 1) (and_parts (u.node == k) (u.inc == (d.inc + 1)) own).1));
          commits = λ u c own. absurd (late u.inc (h.seals u (commit_seals p.message u c)).0
              (eqb-true u.inc (d.inc + 1) (and_parts (u.node == k) (u.inc == (d.inc + 1)) own).1));
        };
      }
    where
      late : (j : ℕ) → j ≤ d.inc → j ≡ d.inc + 1 → ⊥
      late j le same = omega (arith, le, same)

  -- however many actions the node has, its actions are counted
  pub counted_of : (count : ℕ) × AreCounted k d.inc count good.0
  counted_of = by live place_of.memory
    where
      by : (o : Option Parts) → IsMemory good.0 M.sent M.labels k d.inc o → (count : ℕ) × AreCounted k d.inc count good.0
      by None m = m
      by (Some t) m = (length t.coord.tree.branches, m.counted)

  -- a stop
  pub stopped_good : (e : ℕ) → IsGoodOf good.0 (halted e k d M)
  stopped_good e = down_good good.0 k d.inc (parts_in k (d.inc + 1) d) counted_of.0 counted_of.1 e d M
      (others_of d.inc (parts_in k (d.inc + 1) d) (mine_anew d.inc (omega arith))) place_of.disk refl

-- ---- a node that goes on

known_on : (given : List (Label × Labelled)) (c e : Coord) → GoesOn c e → KnowsLabels given c → KnowsLabels given e
known_on given c e g known l j is =
    let q = known l j (ap (λ m. lookup (is_at (label_cmp l)) m) (sym g.labels) ∙ is) in
    let u : Uid = record { node = c.tree.node; inc = c.tree.inc; num = j } in
    let own : is_own u c.tree ≡ true = λ n. same_number c.tree.node n && same_number c.tree.inc n in
    let now = g.kinds u q.1 ((λ n. cond (own n) (at_place j c.tree.branches) None) ∙ q.3) in
    (q.0, now.0, q.2, (found_by u e.tree now.0 now.1).1, ap is_serial now.2 ∙ q.4)

module _ (e k : ℕ) (d : Disk) (t : Parts) (M : Seen) (good : IsGood (up k d t M)) where
  abbrev pub it : IsUp good.0 M.sent M.labels k d.inc t
  it = let p = place_of k d (Some t) M good in p.memory

  abbrev pub begun_of : AreBegun good.0
  begun_of = let w = good.1 in w.begun

  -- a tree that has the actions begun so far
  abbrev pub one_tree : IsTree (paths_of good.0)
  one_tree = begun_tree good.0 begun_of

  abbrev pub one_agrees : Agree good.0 (paths_of good.0)
  one_agrees = path_found good.0 begun_of

  abbrev pub good_coord : IsGoodCoord good.0 (paths_of good.0) t.coord
  good_coord = let n = it.good (paths_of good.0) one_tree one_agrees in n.coord

  pub tops_of_disk : AreOfTops good.0 d.intents
  tops_of_disk = let p = place_of k d (Some t) M good in let x = p.disk in x.tops

  pub own_of_disk : AreOfNode t.coord.tree.node t.coord.tree.inc d.intents
  own_of_disk = let p = place_of k d (Some t) M good in let x = p.disk in
      subst (λ i. AreOfNode t.coord.tree.node i d.intents) (sym it.inc) (subst (λ n. AreOfNode n d.inc d.intents) (sym it.node) x.own)

  pub records_of_disk : AreOfCommits d.intents t.coord.tree
  records_of_disk = let p = place_of k d (Some t) M good in p.records

  pub mine_on : (v : Parts) → GoesOn t.coord v.coord → Decides t.coord.tree v.coord.tree → (p : Post) → In p M.sent → p.from ≡ k →
      IsMine k d.inc v p.message
  mine_on v g stands p there from =
      let h = so_of k d (Some t) M good p there from in
      record {
        inc = subst (λ f. SaysInc f d.inc p.message) from h.inc;
        node = λ u s. (let w = good.1 in w.senders p u there s) ∙ from;
        seals = λ u s. let q = h.seals u s in (q.0, λ own. g.settled u (q.1 (sym (g.own u) ∙ own)));
        past = h.past;
        said = said_on t.coord v.coord p.message g.own stands h.said;
      }

  -- the node goes on with these parts and effects
  pub goes : (v : Parts) (outs : List Effect) → ((paths : Paths) → IsTree paths → Agree good.0 paths → IsGoodNode good.0 paths v) →
      AllFit good.0 outs → GoesOn t.coord v.coord → IsSure v.coord × Decides t.coord.tree v.coord.tree × AllSayEnds v.coord.tree outs →
      AreNumbered v.coord × KnowsObjects v.coord → v.server.inc ≡ t.server.inc
      → AllByRecursion (IsClaimsOf v.coord) outs → AreOfInc k d.inc outs → ((w : Uid) → is_on v.server.voted w ≡ true →
      (p : Post) × In p M.sent × Seals p.message w) → Walks (IsGoodOf good.0) e k outs (Up (IsGoodOf good.0) k v) d M
  goes v outs goods fit g sure numbered inc claims incs voted =
      let node : v.coord.tree.node ≡ k = sym (node_on t.coord v.coord g) ∙ it.node in
      let same_inc : v.coord.tree.inc ≡ d.inc = sym (inc_on t.coord v.coord g) ∙ it.inc in
      walked good.0 k d.inc v (length t.coord.tree.branches) it.counted e outs d M (are_kept good.0 k d.inc v node same_inc outs fit claims
      incs sure.2) (others_of k d (Some t) M good d.inc v (mine_on v g sure.1)) (let p = place_of k d (Some t) M good in p.disk) refl
      (record {
        good = goods;
        node = node;
        inc = same_inc;
        server = inc ∙ it.server;
        faithful = faithful_on t.coord v.coord g it.faithful;
        counted = subst (λ n. AreCounted k d.inc n good.0) (sym g.branches) it.counted;
        known = known_on M.labels t.coord v.coord g it.known;
        voted = voted;
        sure = sure.0;
        numbered = numbered.0;
        objects = numbered.1;
      })
      (λ u i c own. sure.1 u ending.Commit (records_of_disk u i c (sym (g.own u) ∙ own)))

  -- a message that was sent
  pub message_good : (v : Parts) (from : ℕ) (m : Message) (outs : List Effect) → In (record { from = from; to = k; message = m }) M.sent →
      handle k d t from m ≡ Took v outs → Walks (IsGoodOf good.0) e k outs (Up (IsGoodOf good.0) k v) d M
  message_good v from m outs there is = goes v outs (λ paths tree agree. (well paths tree agree).0) (well (paths_of good.0) one_tree
      one_agrees).1 truly.0 surely (numbered, objects) truly.1 truly.2 (subst (λ i. AreOfInc k i outs) it.server truly.3) voted
    where
      q : Post
      q = record { from = from; to = k; message = m }

      well : (paths : Paths) → IsTree paths → Agree good.0 paths → IsGoodNode good.0 paths v × AllFit good.0 outs
      well paths tree agree = subst (IsWellHandled good.0 paths) is (message_well good.0 begun_of paths tree agree k d t from m
          (let w = good.1 in w.fits q there) tops_of_disk (it.good paths tree agree))

      truly : IsTrulyHandled k t (Took v outs)
      truly =
          subst (IsTrulyHandled k t) is (truly_handled k t good.0 (paths_of good.0) one_tree good_coord d own_of_disk from m tops_of_disk)

      numbered : AreNumbered v.coord
      numbered = subst (IsLeft AreNumbered) is (coord_kept AreNumbered k d t from it.numbered
          (λ a r. num_heard from a r d.intents t.coord it.numbered) (λ u. num_acked from u d.intents t.coord it.numbered) m)

      objects : KnowsObjects v.coord
      objects = subst (IsLeft KnowsObjects) is (coord_kept KnowsObjects k d t from it.objects
          (λ a r. (obj_heard from a r d.intents t.coord it.objects).0) (λ u. (obj_acked from u d.intents t.coord it.objects).0) m)

      surely : IsSure v.coord × Decides t.coord.tree v.coord.tree × AllSayEnds v.coord.tree outs
      surely =
          subst (IsSurelyHandled t) is (surely_handled k t good.0 (paths_of good.0) one_tree good_coord it.sure d records_of_disk from m)

      only : VotesOnly m t v
      only = subst (VotesOnlyAfter m t) is (votes_only k d t from m)

      voted : (w : Uid) → is_on v.server.voted w ≡ true → (p : Post) × In p M.sent × Seals p.message w
      voted w on = ⊎_elim (λ old. it.voted w old) (λ new. (q, there, new)) (only w on)

  -- what the coordinator does
  with_did : (did : Did Coord) (outs : List Effect) → ((paths : Paths) → IsTree paths → Agree good.0 paths → IsGoodNode good.0 paths
      (with_coord t did.part) × AllFit good.0 outs) → GoesOn t.coord did.part → IsSure did.part × Decides t.coord.tree (let c = did.part in
      c.tree) × AllSayEnds (let c = did.part in c.tree) outs → AreNumbered did.part × KnowsObjects did.part → AllByRecursion (IsClaimsOf
      did.part) outs → AreOfInc k d.inc outs → Walks (IsGoodOf good.0) e k outs (Up (IsGoodOf good.0) k (with_coord t did.part)) d M
  with_did did outs well g sure numbered claims incs = goes (with_coord t did.part) outs (λ paths tree agree. (well paths tree agree).0)
      (well (paths_of good.0) one_tree one_agrees).1 g sure numbered refl claims incs it.voted

  pub act_good : (hd : Header) (i : Input) → is_act i ≡ true → refusal_up hd i t.coord ≡ None →
      DidKeeps (IsGoodOf good.0) e k d t (acts i d.intents t.coord) M
  act_good hd i is none =
      let r = acts i d.intents t.coord in
      let g = well_acts good.0 (paths_of good.0) one_tree d.intents t.coord good_coord it.faithful.works hd i none other in
      let q = true_inc k d.inc r.part r.outs g.1 in
      let s = sure_acts good.0 (paths_of good.0) one_tree d.intents t.coord good_coord it.sure hd i none other in
      with_did r r.outs (λ paths tree agree. input_well good.0 begun_of paths tree agree d t hd i none other (it.good paths tree agree)) g.0
      (s.0, (stand_acts good.0 (paths_of good.0) one_tree d.intents t.coord good_coord hd i none).ends, s.1)
      (num_acts i d.intents t.coord it.numbered, (obj_acts i d.intents t.coord it.objects).0) q.0 q.1
    where
      other : (l : Label) (how : Kind) (parent : Option Label) → i ≢ input.Begin l how parent
      other l how parent same = let no_way : false ≡ true = sym (ap is_act same) ∙ is in cc

  pub tick_good : Walks (IsGoodOf good.0) e k (tick_outs (record { number = k; disk = d; live = Some t }) t)
      (Up (IsGoodOf good.0) k (with_coord t (again_all t.coord.doings t.coord).part)) d M
  tick_good =
      let r = again_all t.coord.doings t.coord in
      let g = well_again good.0 (paths_of good.0) one_tree t.coord good_coord in
      let a = true_inc k d.inc r.part r.outs g.1 in
      let b = true_inc k d.inc r.part (tolds_again t.coord.telling)
      (true_on t.coord r.part g.0 (tolds_again t.coord.telling) (true_records t.coord it.faithful)) in
      let n : Node = record { number = k; disk = d; live = Some t } in
      let queries : List Effect = map query_about (holders d t) in
      let s = sure_again good.0 (paths_of good.0) one_tree t.coord it.sure in
      let stands = (stand_again good.0 (paths_of good.0) one_tree t.coord.doings t.coord).ends in
      let own : AreOfCommits t.coord.telling r.part.tree = λ u i c its_own.
      stands u ending.Commit (it.sure.records u i c (sym (g.0.own u) ∙ its_own)) in
      let says = all_both (SaysEndsIn r.part.tree) (r.outs ++ tolds_again t.coord.telling) queries (all_both (SaysEndsIn r.part.tree) r.outs
      (tolds_again t.coord.telling) s.1 (sure_records r.part.tree t.coord.telling own)) (says_queries r.part.tree (holders d t)) in
      with_did r (tick_outs n t) (λ paths tree agree. tick_well good.0 begun_of paths tree agree n t (it.good paths tree agree)) g.0
      (s.0, stands, says) (num_again t.coord.doings t.coord it.numbered, (obj_again t.coord it.objects).0)
      (all_both (IsClaimsOf r.part) (r.outs ++ tolds_again t.coord.telling) queries (all_both (IsClaimsOf r.part) r.outs
      (tolds_again t.coord.telling) a.0 b.0) (all_map (IsClaimsOf r.part) query_about (holders d t) (λ w u s. absurd s)))
      (all_both (IsOfInc k d.inc) (r.outs ++ tolds_again t.coord.telling) queries (all_both (IsOfInc k d.inc) r.outs
      (tolds_again t.coord.telling) a.1 b.1) (all_map (IsOfInc k d.inc) query_about (holders d t) (λ w. tt)))
