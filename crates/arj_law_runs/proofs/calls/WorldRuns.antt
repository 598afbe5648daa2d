-- What is known of calls and votes is kept in each run.
use Rattle.arj_law_parts.proofs.Words
use Words.{zero, suc, ◌≡◌, ◌≢◌, ◌⊎◌, ◌≤◌, ◌<◌, ◌==◌, ◌+◌, ℕ, List, [], ◌∷◌, ◌++◌, Bool, true, false, cond, Option, Some, None, refl, sym}
use Words.{◌∙◌, ap, subst, inl, inr, arith, map, eqb-true, and_parts, in_to, Uid, Ask, Asked, Body, Head, Header, Kind, Label, Message}
use Words.{ObjectState, asks, is_on, uids_of, Reply, actor, answers, again_all, began_line, begin_action, heard, Machine, plan_of}
use Words.{Committing, Coord, Doing, doing_of, After, Before, Did, Disk, Do, Effect, InPart, Intent, Look, PutInc, Say, Stop, stopped}
use Words.{Named, Naming, back_lines, acked, answer_query, tell, tell_all, tick_outs, Handled, Parts, Took, handle, holders}
use Words.{prepared_actions, query_about, with_coord, uid_set, without_number, Server, changed_states, Input, Node, acts, node_by}
use Words.{hello_to, naming_at, naming_back, numbers_to, parent_of, parts_in, recovered_records, refusal_up, restart_outs}
use Words.{tolds_again, Branch, at_place, branch_of, is_own, new_tree, next_uid, path_below, Labelled}
use Words.{Post, Seen, is_serial}
use Words.list
use Words.body
use Words.voted
use Words.ending
use Words.input
use Rattle.arj_law_runs.proofs.Terms
use Terms.{IsAtStarts, disk_by, Action, Agree, AreCounted, paths_of, AreTrue, GoesOn, IsSettled, IsGoodCoord, IsTree, Paths, IsSaidSo}
use Terms.{AreOfTops, IsGoodNode}
use Terms.{IsWellHandled, agree_less, begun_tree, on_own, path_found, input_well, message_well, restart_well, tick_well, IsTrulyHandled}
use Terms.{AllFit, all_flat, all_map, truly_handled, inc_on, node_on, true_on, true_query, true_records, well_acked, well_acts, well_again}
use Terms.{well_heard, IsGoodOf, IsMemory, IsSaidIn, IsSettledIn, IsUp, DidKeeps, is_act, In, at, down, given, said, up, Up, Walks, halted}
use Terms.{walks_both, walks_to, Call, IsOwn, IsVotedIn, KnowsCalls, HasHomes, AllVotesAreUsed, KnowsRun, Trees, AreFromCalls, IsPast}
use Terms.{Since, AreKeyed, CallsReach, KnowsNode, KnowsWorld, vote_by}
use Rattle.arj_law_parts.proofs.moves.Together.{walks_each}
use Rattle.arj_law_runs.proofs.calls.{CoordInputs.known_acked, CoordInputs.known_acts, CoordInputs.known_begins, CoordInputs.known_heard}
use Rattle.arj_law_runs.proofs.calls.{CoordSends.AllSo, CoordSends.asked_call, CoordStarts.again_known, Given.KeepsGiven, ServerCalls.never}
use Rattle.arj_law_runs.proofs.calls.{ServerCalls.some_is, WorldVotes.asker_of, WorldVotes.fits_asked, WorldVotes.vote_fits}
use Rattle.arj_law_runs.proofs.calls.CoordOuts.{acked_so, acts_so, again_so, heard_so, tolds_so}
use Rattle.arj_law_runs.proofs.calls.WorldMessages.{By, HaveOvers, IsCoordAt, message_known}
use Rattle.arj_law_runs.proofs.calls.WorldSteps.{ArePlain, IsPlain, coord_plain, plain_both, plain_fine}
use Rattle.arj_law_runs.proofs.calls.WorldWalks.{AllFine, GoodAround, around_of, down_from, own_of, whole_of, world_walk}
use Rattle.arj_law_runs.proofs.kept.{Begins.begin_good, Starts.first_at, Starts.first_of, Starts.live_first, Starts.restart_good}
use Rattle.arj_law_runs.proofs.kept.{Walked.other_number, Walked.same_number}
use Rattle.arj_law_runs.proofs.kept.Handled.{act_good, counted_of, message_good, own_of_disk, stopped_good, tick_good, tops_of_disk}
use Rattle.arj_law_runs.specs.calls.Runs.{AreKnown, Grounds, VotesAreUsed}

-- ---- helpers

none_is : {A : Type 0} {x : A} → None ≡ Some x → ⊥
none_is {A} {x} is = let no_way : ◌≡◌ {A = Option A} None (Some x) = is in cc

abbrev rest : List Effect → List Effect
rest [] = []
rest (e ∷ es) = es

-- ---- one world

module _ (acts_begun : List Action) (paths : Paths) (tree : IsTree paths) (agree : Agree acts_begun paths) (W : Seen)
    (good : IsGoodOf acts_begun W) (knows : KnowsWorld paths W) where
  up_at : (j : ℕ) (n : Node) (u : Parts) → W.nodes j ≡ Some n → n.live ≡ Some u → IsUp acts_begun W.sent W.labels j n.disk.inc u
  up_at j n u is live = let p = good.places j n is in subst (IsMemory acts_begun W.sent W.labels j n.disk.inc) live p.memory

  pub coord_at : (j : ℕ) (n : Node) (u : Parts) → W.nodes j ≡ Some n → n.live ≡ Some u → IsGoodCoord acts_begun paths u.coord
  coord_at j n u is live = let m = up_at j n u is live in let g = m.good paths tree agree in g.coord

  pub says_at : (j : ℕ) (n : Node) (u : Parts) → W.nodes j ≡ Some n → n.live ≡ Some u → (p : Post) → In p W.sent →
      p.from ≡ u.coord.tree.node → IsSaidSo u.coord.tree p.message
  says_at j n u is live p i from = let m = up_at j n u is live in let s = good.so p n i (ap W.nodes (from ∙ m.node) ∙ is) in
      subst (IsSaidIn p.message) live s.said

  votes_at : (j : ℕ) (n : Node) (u : Parts) → W.nodes j ≡ Some n → n.live ≡ Some u → (k : ℕ) (s : Server) → (k ≡ 0 → ⊥) → AreFromCalls
      W.sent k s → AreKeyed s.objects → HaveOvers paths s → (top : Uid) (q : Doing) (m : Machine) → doing_of top u.coord ≡ Some q →
      q.now ≡ Committing m → (st : ObjectState) → list.In st (changed_states top s) → IsVotedIn W.sent u.coord (plan_of m) st.uid.num k
  votes_at j n u is live k s some_node = vote_fits acts_begun paths tree W.sent knows.senders good.fits u.coord (coord_at j n u is live)
      (let w = knows.nodes j n is in w.coord u live) good.senders (says_at j n u is live) k s some_node

  -- a call of its own finds its branch
  here_at : (j : ℕ) (n : Node) (u : Parts) → W.nodes j ≡ Some n → n.live ≡ Some u → (to : ℕ) (c : Call) → IsOwn W.sent u.coord to c →
      (q : Branch) × (branch_of (actor (let h = c.head in h.path)) u.coord.tree ≡ Some q) × (q.path ≡ (let h = c.head in h.path))
  here_at j n u is live to c own =
      let a = own.asked in
      let q = asked_call a.message c a.call in
      let asker = asker_of acts_begun (let z = c in z.head) q.0 (fits_asked acts_begun a.message (let z = c in
      z.head) q.0 q.1 (good.fits (record { from = u.coord.tree.node; to = to; message = a.message }) a.posted)) in
      let g = coord_at j n u is live in
      let f = g.home asker.0 (actor (let h = (let z = c in z.head) in h.path)) asker.1 (ap (λ p. is_on (uids_of p)
      (actor (let h = (let z = c in z.head) in h.path))) asker.2 ∙ on_own (let h = (let z = c in z.head) in h.path)) own.own in
      (f.0, ap (λ p. branch_of (actor p) u.coord.tree) (sym asker.2) ∙ f.1, f.2 ∙ asker.2)

  -- who voted was asked to by a top at its commit
  settled_at : (j : ℕ) (n : Node) (u : Parts) → W.nodes j ≡ Some n → n.live ≡ Some u → (from : ℕ) (m : Message) (a : Asked)
      (states : List ObjectState) → In (record { from = from; to = u.coord.tree.node; message = m }) W.sent →
      answers m ≡ Some (a, Reply.Voted (voted.Yes states)) → is_own a.act u.coord.tree ≡ true → IsSettled a.act u.coord
  settled_at j n u is live from m a states i at own =
      let v = knows.votes (record { from = from; to = u.coord.tree.node; message = m }) a states i (ap vote_by at) in
      let w = up_at j n u is live in
      let s = good.so v.0 n v.1 (ap W.nodes (v.2 ∙ w.node) ∙ is) in
      let q = s.seals a.act v.3 in
      subst (IsSettledIn a.act) live q.1 own

-- ---- one node of it

module _ (acts_begun : List Action) (paths : Paths) (tree : IsTree paths) (agree : Agree acts_begun paths) (e k : ℕ) (d : Disk) (t : Parts)
    (M : Seen) (good : IsGoodOf acts_begun (up k d t M)) (knows : KnowsWorld paths (up k d t M)) where
  abbrev its_node : Node
  its_node = record { number = k; disk = d; live = Some t }

  stands_here : (let S = up k d t M in S.nodes k) ≡ Some (record { number = k; disk = d; live = Some t })
  stands_here = λ i. cond (same_number k i) (Some (record { number = k; disk = d; live = Some t })) (M.nodes k)

  elsewhere : (j : ℕ) → (j ≡ k → ⊥) → (let S = up k d t M in S.nodes j) ≡ M.nodes j
  elsewhere j other = λ i. cond (other_number j k other i) (Some (record { number = k; disk = d; live = Some t })) (M.nodes j)

  it_is : IsUp acts_begun M.sent M.labels k d.inc t
  it_is = up_at acts_begun paths tree agree (up k d t M) good knows k its_node t stands_here refl

  its_good : IsGoodNode acts_begun paths t
  its_good = let u = it_is in u.good paths tree agree

  its_coord : IsGoodCoord acts_begun paths t.coord
  its_coord = let g = its_good in g.coord

  its_calls : KnowsCalls paths M.sent t.coord
  its_calls = let o = own_of acts_begun paths k d (Some t) M knows in o.coord t refl

  goods : GoodAround acts_begun paths k M
  goods j n other is w live = (
    coord_at acts_begun paths tree agree (up k d t M) good knows j n w (elsewhere j other ∙ is) live,
    (let u = up_at acts_begun paths tree agree (up k d t M) good knows j n w (elsewhere j other ∙ is) live in u.node),
  )

  some_node : k ≡ 0 → ⊥
  some_node zero_is = let a = around_of acts_begun paths k d (Some t) M knows in
      never (ap (λ z. z == k) (sym zero_is) ∙ same_number k) a.apart

  -- the node goes on with these parts
  goes_on_with : (v : Parts) (outs : List Effect) → IsGoodCoord acts_begun paths v.coord → v.coord.tree.node ≡ k →
      v.coord.tree.inc ≡ d.inc → KnowsNode paths M.sent k (record { number = k; disk = d; live = Some v }) →
      AllFine acts_begun paths k (record { number = k; disk = d; live = Some v }) v M.nodes outs M.sent d →
      Walks (KnowsWorld paths) e k outs (Up (KnowsWorld paths) k v) d M
  goes_on_with v outs g node inc own fine = world_walk acts_begun paths k e (record { number = k; disk = d; live = Some v }) v refl g node
      inc outs d M goods (around_of acts_begun paths k d (Some t) M knows) own
      (down_from acts_begun paths k M.sent (record { number = k; disk = d; live = Some v }) (record { number = k; disk = d; live = None })
      refl (least d.inc) own) fine
    where
      least : (n : ℕ) → n ≤ n
      least n = omega arith

  -- with another coordinator
  coord_with : (c : Coord) → KnowsCalls paths M.sent c →
      KnowsNode paths M.sent k (record { number = k; disk = d; live = Some (with_coord t c) })
  coord_with c calls = let o = own_of acts_begun paths k d (Some t) M knows in record {
    coord = λ w is. subst (λ (z : Parts). KnowsCalls paths M.sent z.coord) (some_is is) calls;
    server = λ w is. subst (λ (z : Parts). AreFromCalls M.sent k z.server) (some_is is) (o.server t refl);
    keys = λ w is. subst (λ (z : Parts). AreKeyed z.server.objects) (some_is is) (o.keys t refl);
    refusals = λ a r. let f = o.refusals a r in record { call = f.call; from = f.from; asked = f.asked; same = f.same; past = f.past };
    past = o.past;
  }

  -- ---- messages

  settled_here : (from : ℕ) (m : Message) (a : Asked) (states : List ObjectState) →
      In (record { from = from; to = t.coord.tree.node; message = m }) M.sent → answers m ≡ Some (a, Reply.Voted (voted.Yes states)) →
      is_own a.act t.coord.tree ≡ true → IsSettled a.act t.coord
  settled_here = settled_at acts_begun paths tree agree (up k d t M) good knows k its_node t stands_here refl

  calls_here : (to : ℕ) (c : Call) → IsOwn M.sent t.coord to c →
      (q : Branch) × (branch_of (actor (let h = c.head in h.path)) t.coord.tree ≡ Some q) × (q.path ≡ (let h = c.head in h.path))
  calls_here = here_at acts_begun paths tree agree (up k d t M) good knows k its_node t stands_here refl

  module _ (from : ℕ) (m : Message) (sent_here : In (record { from = from; to = k; message = m }) M.sent)
      (reached : CallsReach (up k d t M)) (homes : HasHomes k t (up k d t M)) where
    votable : (c : Coord) → IsCoordAt M.nodes k t.coord from c → (s : Server) → AreFromCalls M.sent k s → AreKeyed s.objects →
        HaveOvers paths s → (top : Uid) (q : Doing) (x : Machine) → doing_of top c ≡ Some q → q.now ≡ Committing x → (st : ObjectState) →
        list.In st (changed_states top s) → IsVotedIn M.sent c (plan_of x) st.uid.num k
    votable c (inl own) s sources keyed overs top q x found now st i =
        subst (λ z. IsVotedIn M.sent z (plan_of x) st.uid.num k) (sym own.1) (votes_at acts_begun paths tree agree (up k d t M) good knows k
        its_node t stands_here refl k s some_node sources keyed overs top q x (ap (doing_of top) (sym own.1) ∙ found) now st i)
    votable c (inr o) s sources keyed overs top q x found now st i = subst (λ z. IsVotedIn M.sent z (plan_of x) st.uid.num k) (sym o.5)
        (votes_at acts_begun paths tree agree (up k d t M) good knows from o.0 o.1 (elsewhere from o.2 ∙ o.3) o.4 k s some_node sources
        keyed overs top q x (ap (doing_of top) (sym o.5) ∙ found) now st i)

    sent_at : In (record { from = from; to = t.coord.tree.node; message = m }) M.sent
    sent_at = let u = it_is in subst (λ n. In (record { from = from; to = n; message = m }) M.sent) (sym u.node) sent_here

    hears : (a : Asked) (r : Reply) → answers m ≡ Some (a, r) → (let q = heard from a r d.intents t.coord in
        KnowsCalls paths M.sent q.part × (let c = q.part in c.tree.inc ≡ d.inc) × AreTrue q.part q.outs × AllSo q.part q.outs)
    hears a r is =
        let u = it_is in
        let f = u.faithful in
        let w = well_heard acts_begun paths tree from a r d.intents t.coord its_coord in (
          known_heard acts_begun paths tree M.sent t.coord its_coord u.numbered f.works its_calls calls_here settled_here from a r d.intents
              m sent_at is (homes from m a r sent_here is),
          sym (inc_on t.coord (heard from a r d.intents t.coord).part w.0) ∙ u.inc,
          w.1,
          heard_so acts_begun paths tree t.coord its_coord u.numbered f.works from a r d.intents,
        )

    acks : (w : Uid) → (let q = acked from w d.intents t.coord in
        KnowsCalls paths M.sent q.part × (let c = q.part in c.tree.inc ≡ d.inc) × AreTrue q.part q.outs × AllSo q.part q.outs)
    acks w =
        let u = it_is in
        let f = u.faithful in
        let g = well_acked acts_begun paths tree from w d.intents t.coord in (
          known_acked acts_begun paths tree M.sent t.coord its_coord u.numbered f.works its_calls calls_here settled_here from w d.intents,
          sym (inc_on t.coord (acked from w d.intents t.coord).part g.0) ∙ u.inc,
          g.1,
          acked_so from w d.intents t.coord,
        )

    queries : (w : Uid) → AreTrue t.coord (answer_query from w d.intents t.coord)
    queries w = true_query acts_begun paths tree from w d.intents t.coord (tops_of_disk e k d t M (acts_begun, good))
        (own_of_disk e k d t M (acts_begun, good)) its_coord

    pub message_walk : (v : Parts) (outs : List Effect) → handle k d t from m ≡ Took v outs →
        Walks (KnowsWorld paths) e k outs (Up (KnowsWorld paths) k v) d M
    message_walk v outs is = goes_on_with v outs (let g = well.0 in g.coord) (sym (node_on t.coord v.coord truly.0)
        ∙ (let u = it_is in u.node)) (sym (inc_on t.coord v.coord truly.0) ∙ (let u = it_is in u.inc)) kept.0 kept.1
      where
        well : IsGoodNode acts_begun paths v × AllFit acts_begun outs
        well = subst (IsWellHandled acts_begun paths) is (message_well acts_begun good.begun paths tree agree k d t from m
            (good.fits (record { from = from; to = k; message = m }) sent_here) (tops_of_disk e k d t M (acts_begun, good)) its_good)

        truly : IsTrulyHandled k t (Took v outs)
        truly = subst (IsTrulyHandled k t) is (truly_handled k t acts_begun paths tree its_coord d
            (own_of_disk e k d t M (acts_begun, good)) from m (tops_of_disk e k d t M (acts_begun, good)))

        overs : HaveOvers paths v.server
        overs x c o there i = let g = well.0 in let s = g.server in let q = s.copies x c there in q.overs o (in_to o c.stack i)

        its_by : Handled → Type 0
        its_by = By acts_begun paths tree k d t from M.sent M.nodes (own_of acts_begun paths k d (Some t) M knows) (let u = it_is in
            u.server) (let u = it_is in u.inc) (let u = it_is in u.node) knows.one (reached k its_node stands_here) votable

        kept : KnowsNode paths M.sent k (record { number = k; disk = d; live = Some v })
            × AllFine acts_begun paths k (record { number = k; disk = d; live = Some v }) v M.nodes outs M.sent d
        kept = subst its_by is (message_known acts_begun paths tree k d t from M.sent M.nodes (own_of acts_begun paths k d (Some t) M knows)
            (let u = it_is in u.server) (let u = it_is in u.inc) (let u = it_is in u.node) knows.one (reached k its_node stands_here)
            votable m sent_here hears acks queries (good.fits (record { from = from; to = k; message = m }) sent_here)) overs

  -- ---- inputs and ticks

  asks_about : (c : Coord) (us : List Uid) → ArePlain d.inc c (map query_about us)
  asks_about c us = all_map (IsPlain d.inc c) query_about us (λ w. ((λ h a is. absurd (none_is is)), refl, refl))

  module _ (r : Did Coord) (outs : List Effect) (w : GoesOn t.coord r.part) (its_own : IsGoodCoord acts_begun paths (let c = r.part in c))
      (calls : KnowsCalls paths M.sent r.part) (plain : (let c = r.part in c.tree.inc) ≡ d.inc → ArePlain d.inc r.part outs) where
    did_walk : Walks (KnowsWorld paths) e k outs (Up (KnowsWorld paths) k (with_coord t r.part)) d M
    did_walk = goes_on_with (with_coord t r.part) outs its_own (sym (node_on t.coord r.part w) ∙ (let u = it_is in u.node)) inc
        (coord_with r.part calls) (plain_fine acts_begun paths k (record { number = k; disk = d; live = Some (with_coord t r.part) })
        (with_coord t r.part) inc M.nodes outs d M.sent refl (plain inc))
      where
        inc : (let c = r.part in c.tree.inc) ≡ d.inc
        inc = sym (inc_on t.coord r.part w) ∙ (let u = it_is in u.inc)

  pub act_walk : (hd : Header) (i : Input) → is_act i ≡ true → refusal_up hd i t.coord ≡ None →
      DidKeeps (KnowsWorld paths) e k d t (acts i d.intents t.coord) M
  act_walk hd i is none =
      let r = acts i d.intents t.coord in
      let u = it_is in
      let works = (let f = u.faithful in f.works) in
      let w = well_acts acts_begun paths tree d.intents t.coord its_coord works hd i none other in
      did_walk r r.outs w.0 (let z = input_well acts_begun good.begun paths tree agree d t hd i none other its_good in let g = z.0 in
      g.coord) (known_acts acts_begun paths tree M.sent t.coord its_coord u.numbered works its_calls calls_here settled_here hd i
      d.intents none other)
      (λ inc. subst (λ z. ArePlain z r.part r.outs) inc
      (coord_plain r.part r.outs w.1 (acts_so acts_begun paths tree t.coord its_coord u.numbered works i d.intents other)))
    where
      other : (l : Label) (how : Kind) (parent : Option Label) → i ≢ input.Begin l how parent
      other l how parent same = let no_way : false ≡ true = sym (ap is_act same) ∙ is in cc

  pub tick_walk : Walks (KnowsWorld paths) e k (tick_outs (record { number = k; disk = d; live = Some t }) t)
      (Up (KnowsWorld paths) k (with_coord t (again_all t.coord.doings t.coord).part)) d M
  tick_walk =
      let r = again_all t.coord.doings t.coord in
      let u = it_is in
      let works = (let f = u.faithful in f.works) in
      let w = well_again acts_begun paths tree t.coord its_coord in
      let tolds = tolds_again t.coord.telling in
      did_walk r (tick_outs (record { number = k; disk = d; live = Some t }) t) w.0
      (let z = tick_well acts_begun good.begun paths tree agree (record { number = k; disk = d; live = Some t }) t its_good in
      let g = z.0 in g.coord) (again_known paths M.sent t.coord.doings t.coord its_calls)
      (λ inc. plain_both d.inc r.part (r.outs ++ tolds) (map query_about (holders d t))
      (subst (λ z. ArePlain z r.part (r.outs ++ tolds)) inc (plain_both r.part.tree.inc r.part r.outs tolds (coord_plain r.part r.outs
      w.1 (again_so acts_begun paths tree t.coord its_coord u.numbered works)) (coord_plain r.part tolds (true_on t.coord r.part w.0
      tolds (true_records t.coord u.faithful)) (tolds_so r.part t.coord.telling)))) (asks_about r.part (holders d t)))

  -- an action begins
  pub begin_walk : (l : Label) (how : Kind) (parent : Option Label) (g : Labelled) →
      DidKeeps (KnowsWorld paths) e k d t (begin_action l how parent (parent_of parent t.coord) t.coord) (given l g M)
  begin_walk l how parent g =
      let u = it_is in
      let r = begin_action l how parent (parent_of parent t.coord) t.coord in
      let o = around_of acts_begun paths k d (Some t) M knows in
      whole_of acts_begun paths k d (Some (with_coord t r.part)) (said e (began_line l how (next_uid t.coord.tree) parent ∷ [])
      (given l g M)) (record { apart = o.apart; none = o.none; one = o.one; senders = o.senders; votes = o.votes; nodes = o.nodes })
      (coord_with r.part (known_begins paths M.sent l how parent t.coord (let f = u.faithful in f.works) its_calls))

-- ---- restarts, and at first

no_doing : (b : Bool) (j : ℕ) (x : Doing) → cond b (at_place j []) None ≡ Some x → ⊥
no_doing true zero x is = none_is is
no_doing true (suc j) x is = none_is is
no_doing false j x is = none_is is

-- a coordinator at its beginning
new_knows : (paths : Paths) (sent : List Post) (k i : ℕ) (d : Disk) → ((p : Post) (h : Head) (a : Ask) → In p sent → p.from ≡ k →
    asks p.message ≡ Some (h, a) → (let u = actor h.path in u.inc) ≡ i → ⊥) → KnowsCalls paths sent (let t = parts_in k i d in t.coord)
new_knows paths sent k i d fresh = record {
  counted = λ p h a there from is own. absurd (fresh p h a there from is (inc_of (actor h.path) own));
  calls = λ to c own. let a = own.asked in let q = asked_call a.message c a.call in
      absurd (fresh (record { from = k; to = to; message = a.message }) (let z = c in
      z.head) q.0 a.posted refl q.1 (inc_of (actor (let h = (let z = c in z.head) in h.path)) own.own));
  ties = λ u x s found now. absurd (no_doing (is_own u (new_tree k i)) u.num x found);
  plans = λ u x m found now. absurd (no_doing (is_own u (new_tree k i)) u.num x found);
  said = λ root s there. absurd there;
}
  where
    inc_of : (u : Uid) → is_own u (new_tree k i) ≡ true → u.inc ≡ i
    inc_of u own = eqb-true u.inc i (and_parts (u.node == k) (u.inc == i) own).1

module _ (acts_begun : List Action) (paths : Paths) (tree : IsTree paths) (agree : Agree acts_begun paths) (hd : Header) (e k : ℕ)
    (d : Disk) (M : Seen) (good : IsGoodOf acts_begun (down k d M)) (knows : KnowsWorld paths (down k d M)) where
  elsewhere_down : (j : ℕ) → (j ≡ k → ⊥) → (let S = down k d M in S.nodes j) ≡ M.nodes j
  elsewhere_down j other = λ i. cond (other_number j k other i) (Some (record { number = k; disk = d; live = None })) (M.nodes j)

  stands_down : (let S = down k d M in S.nodes k) ≡ Some (record { number = k; disk = d; live = None })
  stands_down = λ i. cond (same_number k i) (Some (record { number = k; disk = d; live = None })) (M.nodes k)

  goods_down : GoodAround acts_begun paths k M
  goods_down j n other is w live = (
    coord_at acts_begun paths tree agree (down k d M) good knows j n w (elsewhere_down j other ∙ is) live,
    (let u = up_at acts_begun paths tree agree (down k d M) good knows j n w (elsewhere_down j other ∙ is) live in u.node),
  )

  abbrev v : Parts
  v = parts_in k (d.inc + 1) d

  abbrev raised : Disk
  raised = record d { inc = d.inc + 1 }

  own_down : KnowsNode paths M.sent k (record { number = k; disk = d; live = None })
  own_down = own_of acts_begun paths k d None M knows

  number_up : (i j : ℕ) → i ≤ j → i ≤ j + 1
  number_up i j le = omega (arith, le)

  none_equal : (i j : ℕ) → i ≤ j → i ≡ j + 1 → ⊥
  none_equal i j le same = omega (arith, le, same)

  own_new : KnowsNode paths M.sent k (record { number = k; disk = raised; live = Some v })
  own_new = record {
    coord = λ t is. subst (λ (z : Parts). KnowsCalls paths M.sent z.coord) (some_is is) (new_knows paths M.sent k (d.inc + 1) d
        (λ p h a there from is_it same. none_equal (actor h.path).inc d.inc (own_down.past p h a there from is_it) same));
    server = λ t is. subst (λ (z : Parts). AreFromCalls M.sent k z.server) (some_is is) (λ x c o there. absurd (none_is there));
    keys = λ t is. subst (λ (z : Parts). AreKeyed z.server.objects) (some_is is) tt;
    refusals = λ a r. let f = own_down.refusals a r in
        record { call = f.call; from = f.from; asked = f.asked; same = f.same; past = inl (earlier f.call f.past) };
    past = λ p h a there from is. number_up (actor h.path).inc d.inc (own_down.past p h a there from is);
  }
    where
      less : (i j : ℕ) → (i < j) ⊎ (i ≡ j) → i < j + 1
      less i j (inl l) = omega (arith, l)
      less i j (inr s) = omega (arith, s)

      earlier : (c : Call) → Since c.inc (IsPast c) (record { number = k; disk = d; live = None }) → c.inc < d.inc + 1
      earlier c (inl l) = less c.inc d.inc (inl l)
      earlier c (inr q) = less c.inc d.inc (inr q.0)

  count : (n : ℕ) × AreCounted k d.inc n acts_begun
  count = counted_of k d None M (acts_begun, good)

  tops : AreOfTops acts_begun d.intents
  tops = let p = good.places k (record { number = k; disk = d; live = None }) stands_down in let x = p.disk in x.tops

  well_new : IsGoodNode acts_begun paths v
  well_new = (restart_well acts_begun good.begun paths tree agree hd k count.0 d count.1 tops).0

  plain_new : ArePlain (d.inc + 1) v.coord (rest (rest (restart_outs hd k (d.inc + 1) d)))
  plain_new = plain_both i c four hellos
      (plain_both i c three queries (plain_both i c two tolds (plain_both i c one records (tt, (tt, back (naming_at k (d.inc + 1) d.names)))
      (tt, all_map (IsPlain i c) (λ (e : Uid × Intent). Say (body.Recovered k e.0)) d.intents (λ e. tt))) (all_flat (IsPlain i c) (λ (e :
      Uid × Intent). tell_all e.1.root true ((e.0, ending.Commit) ∷ []) e.1.nodes) d.intents (λ e. all_map (IsPlain i c) (tell e.1.root true
      ((e.0, ending.Commit) ∷ [])) e.1.nodes (λ n. ((λ h a is. absurd (none_is is)), refl, refl))))) (all_map (IsPlain i c) query_about
      (uid_set (prepared_actions d.store ++ prepared_actions d.names)) (λ w. ((λ h a is. absurd (none_is is)), refl, refl)))) (all_map
      (IsPlain i c) (hello_to k (d.inc + 1)) (without_number k (numbers_to hd.nodes)) (λ w. ((λ h a is. absurd (none_is is)), refl, refl)))
    where
      i : ℕ
      i = d.inc + 1

      c : Coord
      c = v.coord

      back : (o : Option Naming) → ArePlain (d.inc + 1) v.coord (naming_back o)
      back None = tt
      back (Some o) = all_flat (IsPlain (d.inc + 1) v.coord) (λ (e : ℕ × Named). back_lines e.1) o.objects
          (λ e. all_map (IsPlain (d.inc + 1) v.coord) _ e.1.rows (λ r. tt))

      one : List Effect
      one = Say (body.Up k (d.inc + 1)) ∷ Do Look ∷ naming_back (naming_at k (d.inc + 1) d.names)

      records : List Effect
      records = Do Look ∷ recovered_records k d.intents

      two : List Effect
      two = one ++ records

      tolds : List Effect
      tolds = tolds_again d.intents

      three : List Effect
      three = two ++ tolds

      queries : List Effect
      queries = map query_about (uid_set (prepared_actions d.store ++ prepared_actions d.names))

      four : List Effect
      four = three ++ queries

      hellos : List Effect
      hellos = map (hello_to k (d.inc + 1)) (without_number k (numbers_to hd.nodes))

  pub restart_walk : Walks (KnowsWorld paths) e k (restart_outs hd k (d.inc + 1) d) (Up (KnowsWorld paths) k (parts_in k (d.inc + 1) d)) d M
  restart_walk = world_walk acts_begun paths k e (record { number = k; disk = raised; live = Some v }) v refl well_new.coord refl refl
      (restart_outs hd k (d.inc + 1) d) d M goods_down (around_of acts_begun paths k d None M knows) own_new own_down (
        looks,
        (
          raises,
          plain_fine acts_begun paths k (record { number = k; disk = raised; live = Some v }) v refl M.nodes
              (rest (rest (restart_outs hd k (d.inc + 1) d))) raised M.sent refl plain_new,
        ),
      )
    where
      looks : (how : Stop) → d.inc ≤ (stopped how Look d).inc
      looks Before = omega arith
      looks After = omega arith
      looks (InPart which) = omega arith

      raises : (how : Stop) → d.inc ≤ (stopped how (PutInc (d.inc + 1)) d).inc
      raises Before = omega arith
      raises After = omega arith
      raises (InPart which) = omega arith

-- at first nothing was sent
first_known : (hd : Header) (paths : Paths) → IsAtStarts hd (KnowsWorld paths)
first_known hd paths st formed = record {
  none = refl;
  one = λ from from2 to to2 c g a b same. absurd a.posted;
  senders = λ p h a there is. absurd there;
  votes = λ p a states there is. absurd there;
  nodes = λ j n is. subst (KnowsNode paths [] j) (first_at hd st j n is) (here j);
}
  where
    here : (j : ℕ) → KnowsNode paths [] j (node_by hd st j)
    here j = record {
      coord = λ t is. subst (λ (z : Parts). KnowsCalls paths [] z.coord) (live_first hd st j t is)
          (new_knows paths [] j (st.incs j + 1) (disk_by hd st j) (λ p h a there. absurd there));
      server = λ t is. subst (λ (z : Parts). AreFromCalls [] j z.server) (live_first hd st j t is) (λ x c o there. absurd (none_is there));
      keys = λ t is. subst (λ (z : Parts). AreKeyed z.server.objects) (live_first hd st j t is) tt;
      refusals = λ a r. absurd r.posted;
      past = λ p h a there. absurd there;
    }

-- ---- all runs

module _ (acts_begun : List Action) (e k : ℕ) (outs : List Effect) (v : Parts) (d : Disk) (M : Seen) where
  run_walk : Walks (IsGoodOf acts_begun) e k outs (Up (IsGoodOf acts_begun) k v) d M → ((p : Trees acts_begun) →
      Walks (KnowsWorld p.0) e k outs (Up (KnowsWorld p.0) k v) d M) → Walks KnowsRun e k outs (Up KnowsRun k v) d M
  run_walk good each = walks_to (λ N. IsGoodOf acts_begun N × AreKnown acts_begun N) KnowsRun e k outs (λ c N. Up (IsGoodOf acts_begun) k v
      c N × Up (AreKnown acts_begun) k v c N) (Up KnowsRun k v) d M (λ N h. (acts_begun, h.0, h.1)) (λ c N h. (acts_begun, h.0, h.1))
      (walks_both (IsGoodOf acts_begun) (AreKnown acts_begun) e k outs (Up (IsGoodOf acts_begun) k v) (Up (AreKnown acts_begun) k v) d M
      good (walks_each {A = Trees acts_begun} (λ p N. KnowsWorld p.0 N) e k outs (λ p. Up (KnowsWorld p.0) k v) d M each))

-- where calls name what their servers reached, and bindings have one server
module _ (hd : Header) (G : Seen → Type 0) (grounds : Grounds G) where
  quietly : (paths : Paths) (e : ℕ) (bs : List Body) (M : Seen) → KnowsWorld paths M → KnowsWorld paths (said e bs M)
  quietly paths e bs M w = record { none = w.none; one = w.one; senders = w.senders; votes = w.votes; nodes = w.nodes }

  stop_known : (acts_begun : List Action) (paths : Paths) (e k : ℕ) (d : Disk) (live : Option Parts) (M : Seen) →
      KnowsWorld paths (at k d live M) → KnowsWorld paths (halted e k d M)
  stop_known acts_begun paths e k d live M w = quietly paths e (body.Halted k ∷ []) (down k d M) (whole_of acts_begun paths k d None M
      (around_of acts_begun paths k d live M w) (down_from acts_begun paths k M.sent (record { number = k; disk = d; live = live })
      (record { number = k; disk = d; live = None }) refl (least d.inc) (own_of acts_begun paths k d live M w)))
    where
      least : (n : ℕ) → n ≤ n
      least n = omega arith

  pub calls_given : KeepsGiven hd G KnowsRun
  calls_given = record {
    quiet = λ e bs M quiet g h. (h.0, h.1, λ q. quietly q.0 e bs M (h.2 q));
    stop = λ e k d live M g h. (h.0, stopped_good k d live M (h.0, h.1) e, λ q. stop_known h.0 q.0 e k d live M (h.2 q));
    message = λ e k d t v from m outs M g h there meant is.
        run_walk h.0 e k outs v d M (message_good e k d t M (h.0, h.1) v from m outs there is) (λ q. message_walk h.0 q.0 q.1 q.2 e k d t M
        h.1 (h.2 q) from m there (grounds.reached (up k d t M) g) (grounds.homes k d t M g) v outs is);
    act = λ e k d t i M is none g h. let did = acts i d.intents t.coord in run_walk h.0 e k did.outs (with_coord t did.part) d M
        (act_good e k d t M (h.0, h.1) hd i is none) (λ q. act_walk h.0 q.0 q.1 q.2 e k d t M h.1 (h.2 q) hd i is none);
    begin = λ e k d t l how parent M new may none g h.
        let did = begin_action l how parent (parent_of parent t.coord) t.coord in
        let a : Action = record { path = path_below how (parent_of parent t.coord) (next_uid t.coord.tree); kind = how } in
        let N = given l (record { node = k; serial = is_serial how }) M in
        run_walk (a ∷ h.0) e k did.outs (with_coord t did.part) d N (begin_good e k d t l how parent M new may none (h.0, h.1))
        (λ q. let less = agree_less a h.0 q.0 q.2 in begin_walk h.0 q.0 q.1 less e k d t M h.1 (h.2 (q.0, q.1, less)) l how parent
        (record { node = k; serial = is_serial how }));
    tick = λ e k d t M g h. let outs = tick_outs (record { number = k; disk = d; live = Some t }) t in
        let v = with_coord t (again_all t.coord.doings t.coord).part in
        run_walk h.0 e k outs v d M (tick_good e k d t M (h.0, h.1)) (λ q. tick_walk h.0 q.0 q.1 q.2 e k d t M h.1 (h.2 q));
    restart = λ e k d M g h. let outs = restart_outs hd k (d.inc + 1) d in let v = parts_in k (d.inc + 1) d in
        run_walk h.0 e k outs v d M (restart_good hd e k d M (h.0, h.1)) (λ q. restart_walk h.0 q.0 q.1 q.2 hd e k d M h.1 (h.2 q));
    first = λ st formed. ([], first_of hd st formed, λ q. first_known hd q.0 st formed);
  }

-- what was voted fits the plan that waits
pub votes_in : (M : Seen) → KnowsRun M → AllVotesAreUsed M
votes_in M (acts_begun, good, known) k n t at live from m a states there is q x found now s i =
    let p : Trees acts_begun = (paths_of acts_begun, begun_tree acts_begun good.begun, path_found acts_begun good.begun) in
    let u = up_at acts_begun p.0 p.1 p.2 M good (known p) k n t at live in
    let w = known p in
    let j = w.nodes k n at in
    let c = j.coord t live in
    let z = c.plans a.act q x found now in
    (z.votes from m a states (subst (λ n. In (record { from = from; to = n; message = m }) M.sent) (sym u.node) there) is refl s i).0

pub votes_used : (k : ℕ) (d : Disk) (t : Parts) (M : Seen) → KnowsRun (up k d t M) → VotesAreUsed k t M
votes_used k d t M knows = votes_in (up k d t M) knows k (record { number = k; disk = d; live = Some t }) t
    (λ i. cond (same_number k i) (Some (record { number = k; disk = d; live = Some t })) (M.nodes k)) refl
