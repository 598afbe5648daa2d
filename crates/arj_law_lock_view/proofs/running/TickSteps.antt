-- A coordinator asks again, is acknowledged, and answers questions: the machine waits, and the object is seen in the whole world.
use Rattle.arj_law_parts.proofs.Words
use Words.{◌≡◌, ◌≢◌, ◌⊎◌, ◌∙◌, ◌<◌, ℕ, List, [], ◌∷◌, ◌++◌, length, map, true, false, Option, Some, None, refl, sym, ap, subst, inl, inr}
use Words.{⊎_elim, Contains, is_some, AllByRecursion, append-nil, append_assoc, in_from, in_to, Ask, Binding, End, Head, ObjectState, Path}
use Words.{Uid, asks, request, actor, again_all, again_now, asks_all, asks_node, AtActivate, AtBind, Known, Steps, next_ask, Confirming}
use Words.{Machine, Preparing, Voting, ask_of, plan_of, waiting, Calling, Committing, Coord, Doing, Idle, Now, doing_of, Do, Effect, Intent}
use Words.{Say, Send, binding_number, holders, query_about, with_coord, AreAll, tolds_again, Branch, Tree, branch_of, ends_of, root_of}
use Words.{request_reads_back, Post}
use Words.list
use Words.ending
use Words.kind
use Rattle.arj_law_lock_view.proofs.Terms
use Terms.{stay, State, Action, GoesOn, IsGoodCoord, well_again, IsUp, Up, Walks, again_so, again_work, AllSo, IsSentBy, AreInner, ends_in}
use Terms.{KnowsEnds, SeesWhole, IsReached, AreOneTree, HasEnded, View, Case, IsSeenIn, Spot, view_in, world_at, KnowsAsks, coord_at, Fixed}
use Terms.{family_of, view_of, IsAskedSeen, IsPostSeen, AreHome, ArePast, SeesUp, IsSeenSo}
use Rattle.arj_law_lock_view.proofs.facts.Given.{brought_unserial, listed_unserial}
use Rattle.arj_law_lock_view.proofs.running
use running.{AskedSteps.request_seen, GoodSteps.good_node, GoodSteps.its, NameSteps.confirms_more, NameSteps.confirms_same}
use running.{TieSteps.tied_now, WalkSteps.AreSendsSeen}
use running.OtherSteps.{confirms_of, SeesOthers, here_of, others_of, reached_of, with_here}
use running.RestartWalks.{is_no_work, queries_quiet, queries_seen, quiet_walk, tolds_quiet, tolds_seen}
use Rattle.arj_law_lock_view.proofs.view.CallInputSteps.{ticks_are_taken}
use Rattle.arj_law_lock_view.specs.{facts.Given.IsPlaced, running.Asking.TellsRecords, running.Asking.TicksGo}
use Rattle.arj_law_parts.proofs.parts.{EndsSaid.sure_again, GoodNodes.tick_well}
use Rattle.arj_law_parts.specs.parts.Ends.{AllSayEnds, brought_by}
use Rattle.arj_law_runs.proofs.calls.CoordOuts.{again_all_tree}

-- ---- effects that are requests

abbrev pub IsRequest : Effect → Type 0
IsRequest (Send to m) = is_some (asks m) ≡ true
IsRequest (Say b) = ⊥
IsRequest (Do w) = ⊥

abbrev pub AreRequests : List Effect → Type 0
AreRequests outs = AllByRecursion IsRequest outs

pub requests_both : (xs ys : List Effect) → AreRequests xs → AreRequests ys → AreRequests (xs ++ ys)
requests_both [] ys a b = b
requests_both (x ∷ xs) ys a b = (a.0, requests_both xs ys a.1 b)

pub one_request : (h : Head) (a : Ask) → is_some (asks (request h a)) ≡ true
one_request h a = ap (λ (o : Option (Head × Ask)). is_some o) (request_reads_back h a)

asked_requests : (p : Path) (req : ℕ) (as_asked : List (ℕ × Ask)) (c : Coord) → AreRequests (let d = asks_all p req as_asked c in d.outs)
asked_requests p req [] c = tt
asked_requests p req (a ∷ rest) c =
    (one_request (record { path = p; req = req }) a.1, asked_requests p req rest (let d = asks_node p req a c in d.part))

again_requests : (ds : List Doing) (c : Coord) → AreRequests (let d = again_all ds c in d.outs)
again_requests [] c = tt
again_requests (d ∷ ds) c = requests_both (let t = again_now c d.now in t.outs) (let t = again_now c d.now in let q = again_all ds t.part in
    q.outs) (now d.now) (again_requests ds (let t = again_now c d.now in t.part))
  where
    now : (n : Now) → AreRequests (let t = again_now c n in t.outs)
    now Idle = tt
    now (Calling s) = (one_request (record { path = s.path; req = s.req }) (next_ask (ends_of (root_of s.path) c.tree) s), tt)
    now (Committing m) = asked_requests (plan_of m).path (plan_of m).req (waiting m) c

-- ---- requests of a coordinator that is seen whole

module _ (f : Fixed) (x : ℕ) (begun : List Action) (k : ℕ) (T : State) (e : Coord) (whole : AreOneTree (family_of f begun))
    (good : IsGoodCoord begun f.paths e) (works : length e.doings ≡ length e.tree.branches) (sees : SeesWhole f.act f.code x e T)
    (binds_made : (u : Uid) (d : Doing) (s : Steps) (avoid : Binding) → doing_of u e ≡ Some d → d.now ≡ Calling s → s.x ≡ x →
    s.at ≡ AtBind avoid → binding_number avoid < T.naming.bound)
    (stated : (u : Uid) (d : Doing) (s : Steps) (q : Known) (st : ObjectState) → doing_of u e ≡ Some d → d.now ≡ Calling s →
    s.at ≡ AtActivate q st → st.uid.num ≡ s.x) (ends : KnowsEnds e) where
  placed : IsPlaced (family_of f begun) e
  placed = record { whole = whole; good = good }

  -- what it brings is of no serializing action
  brings_unserial : (to : ℕ) (h : Head) (a : Ask) → IsSentBy e to h a → (u : Uid) (g : End) (b : Branch) →
      Contains {X = Uid × End} (ends_in a) (u, g) → branch_of u e.tree ≡ Some b → b.kind ≢ kind.Serial
  brings_unserial to h a sent u g b there found = by sent.doing.now refl
    where
      none : ends_in a ≡ [] → b.kind ≢ kind.Serial
      none empty = absurd (in_from {X = Uid × End} (u, g) [] (subst (λ es. Contains {X = Uid × End} es (u, g)) empty there))

      commit_ends : (m : Machine) → (ends_in (ask_of m to) ≡ []) ⊎ (ends_in (ask_of m to) ≡ (plan_of m).ends)
      commit_ends (Voting p left) = inr refl
      commit_ends (Preparing p left) = inl refl
      commit_ends (Confirming p) = inl refl

      by : (n : Now) → sent.doing.now ≡ n → b.kind ≢ kind.Serial
      by Idle is = absurd (sent.busy is)
      by (Calling s) is = ⊎_elim none (λ all. listed_unserial (family_of f begun) e (root_of s.path) placed ends u g b
          (subst (λ es. Contains {X = Uid × End} es (u, g)) all there) found) (sent.brings s is)
      by (Committing m) is = let same = ap ends_in (let o = sent.commit m is in o.same) in
          ⊎_elim (λ empty. none (same ∙ empty)) (λ all. brought_unserial (family_of f begun) e (actor h.path) sent.doing m placed ends
          sent.found is u g b (subst (λ es. Contains {X = Uid × End} es (u, g)) (same ∙ all) there) found) (commit_ends m)

  pub asked_seen : (sent : List Post) (outs : List Effect) → AllSo e outs → AllSayEnds e.tree outs → AreRequests outs →
      AreSendsSeen f x begun k T sent outs
  asked_seen sent [] so says requests = tt
  asked_seen sent (Say b ∷ es) so says requests = absurd requests.0
  asked_seen sent (Do w ∷ es) so says requests = absurd requests.0
  asked_seen sent (Send to m ∷ es) so says requests = ((λ wide within. by (asks m) refl wide), asked_seen sent es so.1 says.1 requests.1)
    where
      by : (o : Option (Head × Ask)) → asks m ≡ o → (wide : List Post) →
          IsPostSeen f x begun wide T (record { from = k; to = to; message = m })
      by None is wide = absurd (let bad : true ≡ false = sym requests.0 ∙ ap (λ (o : Option (Head × Ask)). is_some o) is in cc bad)
      by (Some (h, a)) is wide = subst
          (λ (o : Option (Head × Ask)). IsAskedSeen (view_of f x begun to) wide (record { from = k; to = to; message = m }) T o) (sym is)
          (request_seen f x begun k T e whole good works sees binds_made stated to h a (so.0 h a is) (λ u g there. (let z = says.0 in
          z.brings u g (subst (λ (o : Option (Head × Ask)). Contains {X = Uid × End} (brought_by o) (u, g)) (sym is) there)))
          (brings_unserial to h a (so.0 h a is)))

-- ---- a tick

-- requests are no work
pub requests_quiet : (outs : List Effect) → AreRequests outs → AreAll is_no_work outs
requests_quiet [] all = refl
requests_quiet (Say b ∷ es) all = absurd all.0
requests_quiet (Send to m ∷ es) all = requests_quiet es all.1
requests_quiet (Do w ∷ es) all = absurd all.0

module _ (c : Case) (s : Spot) (is_seen : IsSeenIn c (world_at s)) (asks_so : KnowsAsks c (coord_at s)) (listed : KnowsEnds (coord_at s))
    (tells : TellsRecords s) where
  abbrev f : Fixed
  f = c.fixed

  abbrev k : ℕ
  k = s.node

  abbrev S : State
  S = c.state

  abbrev C : Coord
  C = coord_at s

  abbrev E : Coord
  E = let d = again_all C.doings C in d.part

  abbrev outs : List Effect
  outs = let d = again_all C.doings C in d.outs

  abbrev v : View
  v = view_in c k

  whole : AreOneTree (family_of f c.begun)
  whole = let a = is_seen.agrees in a.whole

  here : SeesUp v S s.disk s.parts
  here = here_of f c.x c.begun k s.disk (Some s.parts) S s.seen is_seen.sees

  others : SeesOthers f c.x c.begun k S s.seen
  others = others_of f c.x c.begun k s.disk (Some s.parts) S s.seen is_seen.sees

  reached : IsReached S
  reached = reached_of f c.x c.begun k S s.seen others

  good : IsGoodCoord c.begun f.paths C
  good = let n = good_node c s is_seen in n.coord

  up_now : IsUp c.begun (let M = s.seen in M.sent) (let M = s.seen in M.labels) k (let d = s.disk in d.inc) s.parts
  up_now = its c s is_seen

  works_now : length C.doings ≡ length (let t = C.tree in t.branches)
  works_now = let q = up_now.faithful in q.works

  good_after : IsGoodCoord c.begun f.paths E
  good_after = let w = tick_well c.begun whole.begun f.paths whole.tree whole.agree
      (record { number = k; disk = s.disk; live = Some s.parts }) s.parts (good_node c s is_seen) in let n = w.0 in n.coord

  on : GoesOn C E
  on = (well_again c.begun f.paths whole.tree C good).0

  same_tree : E.tree ≡ C.tree
  same_tree = again_all_tree c.begun f.paths whole.tree C good up_now.numbered works_now C.doings C

  same_works : (u : Uid) → doing_of u E ≡ doing_of u C
  same_works u = again_work c.begun f.paths whole.tree C good up_now.numbered works_now C.doings C u

  ends_after : KnowsEnds E
  ends_after = (let k = listed in record {
    lists = λ r. subst (λ (t : Tree). AreInner t (ends_of r t)) (sym same_tree) (k.lists r);
    plans = λ u d m works is.
        subst (λ (t : Tree). AreInner t (let p = plan_of m in p.ends)) (sym same_tree) (k.plans u d m (sym (same_works u) ∙ works) is);
  })

  asked : AreSendsSeen f c.x c.begun k S (let M = s.seen in M.sent) outs
  asked = asked_seen f c.x c.begun k S E whole good_after (on.works ∙ works_now ∙ sym on.branches)
      (ticks_are_taken f.act f.code c.x C.doings C S reached here.coord)
      (λ u d st avoid works is about at. asks_so.avoids u d st avoid (sym (same_works u) ∙ works) is at about)
      (λ u d st q o works is at. asks_so.states u d st q o (sym (same_works u) ∙ works) is at)
      ends_after (let M = s.seen in M.sent) outs (again_so c.begun f.paths whole.tree C good up_now.numbered works_now)
      (sure_again c.begun f.paths whole.tree C up_now.sure).1 (again_requests C.doings C)

  told_so : (u : Uid) (i : Intent) → list.In {X = Uid × Intent} (u, i) C.telling → HasEnded v S u ending.Commit
  told_so u i there = let r = tells u i (in_to {X = Uid × Intent} (u, i) C.telling there) in
      ⊎_elim (λ none. absurd (cc none)) (λ so. so) (here.records u r.0 r.1)

  up_after : SeesUp v S s.disk (with_coord s.parts E)
  up_after = record {
    server = here.server;
    coord = ticks_are_taken f.act f.code c.x C.doings C S reached here.coord;
    naming = here.naming;
    inc = here.inc;
    place = here.place;
    home = subst (λ (t : Tree). AreHome v t) (sym same_tree) here.home;
    past = subst (λ (t : Tree). ArePast v t S) (sym same_tree) here.past;
    records = here.records;
  }

  pub tick_goes : (e : ℕ) → Walks (IsSeenSo c) e k (outs ++ tolds_again C.telling ++ map query_about (holders s.disk s.parts))
      (Up (IsSeenSo c) k (with_coord s.parts E)) s.disk s.seen
  tick_goes e =
      let P = IsSeenSo c in
      let End = Up P k (with_coord s.parts E) in
      let sent = (let M = s.seen in M.sent) in
      let tolds = tolds_again C.telling in
      let queries = map query_about (holders s.disk s.parts) in
      subst (λ es. Walks P e k es End s.disk s.seen) (sym (append_assoc outs tolds queries))
      (quiet_walk f c.x c.begun k e P End S sent s.disk outs (tolds ++ queries) (requests_quiet outs (again_requests C.doings C)) asked
      (λ N w o n. quiet_walk f c.x c.begun k e P End S sent s.disk tolds queries (tolds_quiet C.telling)
      (tolds_seen f c.x c.begun k S sent C.telling told_so)
      (λ L y q m. subst (λ es. Walks P e k es End s.disk L) (append-nil queries) (quiet_walk f c.x c.begun k e P End S sent s.disk queries
      [] (queries_quiet (holders s.disk s.parts)) (queries_seen f c.x c.begun k S sent (holders s.disk s.parts))
      (λ K z p now agrees. (
        S,
        with_here f c.x c.begun k s.disk (Some (with_coord s.parts E)) S K p up_after
            (confirms_more f c.x k S sent K.sent z s.disk (Some (with_coord s.parts E)) (confirms_same f c.x k S sent s.disk s.disk s.parts
            (with_coord s.parts E) refl refl (confirms_of f c.x c.begun k s.disk (Some s.parts) S s.seen is_seen.sees))),
        now.tied,
        stay,
      )) L y q m)) N w o n)
      s.seen (λ r i. i) others (tied_now c (world_at s) is_seen))

pub ticks_go : TicksGo
ticks_go c s e is_seen asks_so listed tells = tick_goes c s is_seen asks_so listed tells e
