-- Who was told to have ended has ended where it began: at all nodes, and by every message that was sent.
use Rattle.arj_law_parts.proofs.Words
use Words.{node_by}
use Words.{◌≡◌, ◌≢◌, ◌+◌, ◌==◌, arith, ℕ, zero, suc, List, [], ◌∷◌, ◌++◌, length, map, Bool, true, false, cond, Option, Some, None}
use Words.{Contains, refl, sym, ◌∙◌, ap, subst, inl, inr, ⊎_elim, eqb-true, ⊤, is_some, slice_get, AllByRecursion, flat_map, and_parts}
use Words.{in_from, in_to, Asked, Body, End, Header, Kind, Label, Message, ObjectState, Row, Uid, is_on, uids_of, Reply, again_all}
use Words.{began_line, begin_action, heard, back_lines, recovered_naming, Coord, Copy, Abort, Commit, Disk, Do, Effect, InPart, After}
use Words.{Before, Intent, Look, Prepare, PutInc, PutIntent, RemoveIntent, Say, Send, Stop, Work, stopped, worked, acked, answer_query}
use Words.{tick_outs, Named, Naming, Parts, Took, handle, holders, prepared_actions, query_about, with_coord, uid_set, without_number}
use Words.{Input, Node, acts as acts_of, hello_to, naming_at, naming_back, numbers_to, parent_of, parts_in}
use Words.{recovered_records, refusal_up, restart_outs, tolds_again, Branch, at_place, branch_of, is_own, new_tree, next_uid, path_below}
use Words.{Labelled, acked_own, acts_own, again_own, heard_own, query_own, Post, Seen, is_serial}
use Words.list
use Words.body
use Words.ending
use Words.message
use Words.role
use Words.input
use Rattle.arj_law_serial.proofs.Terms
use Terms.{IsAtStarts, disk_by, live_first}
use Terms.{Action, AreBegun, IsNew, action_of, act_of, paths_of, IsGoodCoord, IsTree, AllSayEnds, AreOfCommits, Decides, IsSure}
use Terms.{IsSurelyHandled, IsTrulyHandled, AreOfTops, IsDecided, begun_tree, on_own, path_found, stand_acts, stand_again, surely_handled}
use Terms.{none_in, good_heard, found_by, get_more, all_both, all_map, truly_handled, true_query, well_acked, well_acts, well_again}
use Terms.{well_heard, IsGoodOf, IsUp, begin_good, its_uid, act_good, good_coord, it, message_good, own_of_disk, records_of_disk, tick_good}
use Terms.{tops_of_disk, is_act, In, at, down, given, posted, said, up, Up, Walks, halted, first_at, node_here, AreBegunIn, AreNamesRows}
use Terms.{AsksBegun, IsBegun, IsCallRow, IsEntryRow, asked_about, rows_recovered, path_more, all_each, all_keys, all_put, all_set}
use Terms.{all_without, All, queries_mean, KeepsOf, begins_in, kept_of, ArePastIn, IsClosedAt, IsNamedBy, SaysPast, live_in}
use Rattle.arj_law_disk_view.proofs.running.{Holders.begun_more, Holders.call_more, Lists.all_append, Means.again_means, Means.coord_means}
use Rattle.arj_law_disk_view.specs.running.Places.{IsAboutBegun, MeansBegun}
use Rattle.arj_law_parts.proofs.parts
use parts.{EndsHandled.says_queries, Settled.node_on, TrueSteps.top_in}
use parts.EndsSaid.{sure_acts, sure_again, sure_heard, sure_records}
use Rattle.arj_law_parts.specs.parts.{Claims.AreOfNode, Claims.GoesOn, Ends.IsToldSo, Ends.SaysEnds}
use Rattle.arj_law_runs.proofs.{addresses.Lists.some_is, kept.Starts.restart_good}
use Rattle.arj_law_runs.specs.kept.Worlds.{IsGoodDisk}
use Rattle.arj_law_serial.proofs.past
use past.Handling.{By, HasEnd, HoldsBegun, IsOwnNamed, LeavesPast, holders_begun, message_left, tell_queries}
use past.Tellers.{AllTell, Knows, TellsOf, tell_acked, tell_acts, tell_again, tell_heard, tell_query, tell_records}
use Rattle.arj_law_serial.specs.past.Told.{ArePast, HandlersKeepPast, IsPast, IsPastNode, ToldPast}

-- ---- who is up

abbrev live_put : ℕ → Option Parts → (ℕ → Option Node) → ℕ → Option Parts
live_put k live found j = cond (j == k) live (live_in (found j))

same_lives : (k : ℕ) (d : Disk) (live : Option Parts) (M : Seen) → (λ j. live_in ((at k d live M).nodes j)) ≡ live_put k live M.nodes
same_lives k d live M = λ i j. by j (j == k) i
  where
    by : (j : ℕ) (b : Bool) →
        live_in (cond b (Some (record { number = k; disk = d; live = live })) (M.nodes j)) ≡ cond b live (live_in (M.nodes j))
    by j true = refl
    by j false = refl

test_same : (k : ℕ) → (k == k) ≡ true
test_same k = grind arith

closed_here : (k : ℕ) (live : Option Parts) (found : ℕ → Option Node) (u : Uid) → u.node ≡ k → IsClosedAt u live →
    IsClosedAt u (live_put k live found u.node)
closed_here k live found u same closed =
    subst (λ b. IsClosedAt u (cond b live (live_in (found u.node)))) (sym (ap (λ j. j == k) same ∙ test_same k)) closed

closed_put : (k : ℕ) (a b : Option Parts) (found : ℕ → Option Node) (u : Uid) → (IsClosedAt u a → IsClosedAt u b) →
    IsClosedAt u (live_put k a found u.node) → IsClosedAt u (live_put k b found u.node)
closed_put k a b found u to = by (u.node == k)
  where
    by : (c : Bool) → IsClosedAt u (cond c a (live_in (found u.node))) → IsClosedAt u (cond c b (live_in (found u.node)))
    by true = to
    by false = λ c. c

-- ---- others that are past

module _ (acts : List Action) (L N : ℕ → Option Parts) (to : (u : Uid) → IsPast acts L u → IsPast acts N u) where
  says_to : (p : Post) → SaysPast acts L p → SaysPast acts N p
  says_to p s = record { told = λ u e i. to u (s.told u e i); brings = λ u e i. to u (s.brings u e i); asks = s.asks }

  told_to : (k : ℕ) (t : Parts) → ToldPast acts L k t → ToldPast acts N k t
  told_to k t h = record {
    place = h.place;
    calls = h.calls;
    keys = h.keys;
    entries = h.entries;
    server = λ u is. to u (h.server u is);
    naming = λ o u is on. to u (h.naming o u is on);
  }

  node_to : (k : ℕ) (n : Node) → IsPastNode acts L k n → IsPastNode acts N k n
  node_to k n h = record { store = h.store; names = h.names; live = λ t is. told_to k t (h.live t is) }

-- ---- one work

abbrev Both : List Action → Disk → Type 0
Both acts d = AreBegunIn acts d.store × AreBegunIn acts d.names

module _ (acts : List Action) where
  both_worked : (w : Work) (d : Disk) → MeansBegun acts (Do w) → Both acts d → Both acts (worked w d)
  both_worked Look d its b = b
  both_worked (PutInc i) d its b = b
  both_worked (Prepare role.Store u states) d its b = (all_put (IsBegun acts) u states d.store.pend its b.0, b.1)
  both_worked (Prepare role.Names u states) d its b = (b.0, all_put (IsBegun acts) u states d.names.pend its b.1)
  both_worked (Commit role.Store u) d its b = (all_without (IsBegun acts) u d.store.pend b.0, b.1)
  both_worked (Commit role.Names u) d its b = (b.0, all_without (IsBegun acts) u d.names.pend b.1)
  both_worked (Abort role.Store u) d its b = (all_without (IsBegun acts) u d.store.pend b.0, b.1)
  both_worked (Abort role.Names u) d its b = (b.0, all_without (IsBegun acts) u d.names.pend b.1)
  both_worked (PutIntent u i) d its b = b
  both_worked (RemoveIntent u) d its b = b

  both_part : (which : Uid → Bool) (w : Work) (d : Disk) → Both acts d → Both acts (stopped (InPart which) w d)
  both_part which Look d b = b
  both_part which (PutInc i) d b = b
  both_part which (Prepare r u states) d b = b
  both_part which (Commit role.Store u) d b = b
  both_part which (Commit role.Names u) d b = b
  both_part which (Abort r u) d b = b
  both_part which (PutIntent u i) d b = b
  both_part which (RemoveIntent u) d b = b

  both_stopped : (how : Stop) (w : Work) (d : Disk) → MeansBegun acts (Do w) → Both acts d → Both acts (stopped how w d)
  both_stopped Before w d its b = b
  both_stopped After w d its b = both_worked w d its b
  both_stopped (InPart which) w d its b = both_part which w d b

  -- ---- one node apart from the others

  abbrev Others : (ℕ → Option Parts) → ℕ → Seen → Type 0
  Others L k M = (j : ℕ) (n : Node) → (j == k) ≡ false → M.nodes j ≡ Some n → IsPastNode acts L j n

  -- what is known of the world, with this node so
  abbrev AtNode : ℕ → Disk → Option Parts → Seen → Type 0
  AtNode k d live M = Others (live_put k live M.nodes) k M × ((p : Post) → In p M.sent → SaysPast acts (live_put k live M.nodes) p)
      × IsPastNode acts (live_put k live M.nodes) k (record { number = k; disk = d; live = live })

  at_node : (k : ℕ) (d : Disk) (live : Option Parts) (M : Seen) → ArePastIn acts (at k d live M) → AtNode k d live M
  at_node k d live M all = (
    (λ j n off is. a.nodes j n (ap (λ b. cond b (Some (record { number = k; disk = d; live = live })) (M.nodes j)) off ∙ is)),
    a.posts,
    a.nodes k (record { number = k; disk = d; live = live }) (node_here M k (record { number = k; disk = d; live = live })),
  )
    where
      a : ArePast acts (live_put k live M.nodes) M.sent (at k d live M).nodes
      a = subst (λ L. ArePast acts L M.sent (at k d live M).nodes) (same_lives k d live M) all

  of_node : (k : ℕ) (d : Disk) (live : Option Parts) (M : Seen) → AtNode k d live M → ArePastIn acts (at k d live M)
  of_node k d live M w =
      subst (λ L. ArePast acts L M.sent (at k d live M).nodes) (sym (same_lives k d live M)) (record { posts = w.1; nodes = nodes })
    where
      nodes : (j : ℕ) (n : Node) → (at k d live M).nodes j ≡ Some n → IsPastNode acts (live_put k live M.nodes) j n
      nodes j n is = by (j == k) refl is
        where
          by : (b : Bool) → (j == k) ≡ b → cond b (Some (record { number = k; disk = d; live = live })) (M.nodes j) ≡ Some n →
              IsPastNode acts (live_put k live M.nodes) j n
          by true same e = subst (λ i. IsPastNode acts (live_put k live M.nodes) i n) (sym (eqb-true j k same))
              (subst (IsPastNode acts (live_put k live M.nodes) k) (some_is e) w.2)
          by false off e = w.0 j n off e

  -- with another memory there
  put_on : (k : ℕ) (a b : Option Parts) (found : ℕ → Option Node) → ((u : Uid) → IsNamedBy acts u → IsClosedAt u a → IsClosedAt u b) →
      (u : Uid) → IsPast acts (live_put k a found) u → IsPast acts (live_put k b found) u
  put_on k a b found to u p = (p.0, closed_put k a b found u (to u p.0) p.1)

  down_past : (e k : ℕ) (d : Disk) (live : Option Parts) (M : Seen) → Others (live_put k live M.nodes) k M →
      ((p : Post) → In p M.sent → SaysPast acts (live_put k live M.nodes) p) → Both acts d → ArePastIn acts (halted e k d M)
  down_past e k d live M o posts b = of_node k d None M (
    (λ j n off is. node_to acts (live_put k live M.nodes) (live_put k None M.nodes) to j n (o j n off is)),
    (λ p i. says_to acts (live_put k live M.nodes) (live_put k None M.nodes) to p (posts p i)),
    record { store = b.0; names = b.1; live = λ t is. absurd (cc is) },
  )
    where
      to : (u : Uid) → IsPast acts (live_put k live M.nodes) u → IsPast acts (live_put k None M.nodes) u
      to = put_on k live None M.nodes (λ u n c. tt)

  -- ---- walked through

  -- what an effect prepares, asks about and says is so
  abbrev EffectPast : (ℕ → Option Parts) → ℕ → Effect → Type 0
  EffectPast L k (Say b) = ⊤
  EffectPast L k (Send to m) = SaysPast acts L (record { from = k; to = to; message = m })
  EffectPast L k (Do w) = MeansBegun acts (Do w)

  walk : (e k : ℕ) (v : Parts) (outs : List Effect) (d : Disk) (M : Seen) → ToldPast acts (live_put k (Some v) M.nodes) k v →
      Others (live_put k (Some v) M.nodes) k M → ((p : Post) → In p M.sent → SaysPast acts (live_put k (Some v) M.nodes) p) → Both acts d
      → AllByRecursion (EffectPast (live_put k (Some v) M.nodes) k) outs → Walks (ArePastIn acts) e k outs (Up (ArePastIn acts) k v) d M
  walk e k v [] d M its o posts b fine = of_node k d (Some v) M
      (o, posts, record { store = b.0; names = b.1; live = λ t is. subst (ToldPast acts (live_put k (Some v) M.nodes) k) (some_is is) its })
  walk e k v (Do w ∷ es) d M its o posts b fine = (
    (λ how. down_past e k (stopped how w d) (Some v) M o posts (both_stopped how w d fine.0 b)),
    walk e k v es (worked w d) M its o posts (both_worked w d fine.0 b) fine.1,
  )
  walk e k v (Say l ∷ es) d M its o posts b fine = walk e k v es d (said e (l ∷ []) M) its o posts b fine.1
  walk e k v (Send to m ∷ es) d M its o posts b fine =
      λ more quiet. walk e k v es d (said e more (posted (record { from = k; to = to; message = m }) M)) its o
      (λ p i. ⊎_elim (λ same. subst (SaysPast acts (live_put k (Some v) M.nodes)) same fine.0) (λ old. posts p old) i) b fine.1

-- ---- a coordinator goes on

place_there : {A : Type 0} (k : ℕ) (xs ys : List A) (x : A) → length xs ≡ length ys → at_place k xs ≡ Some x →
    (y : A) × (at_place k ys ≡ Some y)
place_there zero xs ys x same is = absurd (cc is)
place_there (suc k) xs ys x same is = by k xs ys same is
  where
    by : {A : Type 0} {x : A} (k : ℕ) (xs ys : List A) → length xs ≡ length ys → slice_get xs k ≡ Some x →
        (y : A) × (slice_get ys k ≡ Some y)
    by k [] ys same is = absurd (cc is)
    by k (x ∷ xs) [] same is = absurd (omega (arith, same))
    by zero (x ∷ xs) (y ∷ ys) same is = (y, refl)
    by (suc k) (x ∷ xs) (y ∷ ys) same is = by k xs ys (omega (arith, same)) is

closed_on : (c e : Coord) → GoesOn c e → Decides c.tree e.tree → (u : Uid) → ((b : Branch) → branch_of u c.tree ≡ Some b →
    is_some b.ended ≡ true) → (b : Branch) → branch_of u e.tree ≡ Some b → is_some b.ended ≡ true
closed_on c e g stands u closed b found =
    let f = found_by u e.tree b found in
    let x = place_there u.num e.tree.branches c.tree.branches b g.branches f.1 in
    let there : branch_of u c.tree ≡ Some x.0 = (λ i. cond ((sym (g.own u) ∙ f.0) i) (at_place u.num c.tree.branches) None) ∙ x.1 in
    by (let y = x.0 in y.ended) refl (closed x.0 there) there
  where
    by : {x : Branch} (o : Option End) → x.ended ≡ o → is_some x.ended ≡ true → branch_of u c.tree ≡ Some x → is_some b.ended ≡ true
    by None is ended there = let no_way : false ≡ true = ap is_some (sym is) ∙ ended in absurd (cc no_way)
    by {x} (Some how) is ended there = let d = stands u how (x, there, is) in
        ap (λ (y : Branch). is_some y.ended) (some_is (sym found ∙ d.1)) ∙ ap is_some d.2

-- ---- what a coordinator knows

walk_end : (P : Seen → Type 0) (e k : ℕ) (end : Disk → Seen → Type 0) (outs : List Effect) (d : Disk) (M : Seen) →
    Walks P e k outs end d M → (c : Disk) × (N : Seen) × end c N
walk_end P e k end [] d M w = (d, M, w)
walk_end P e k end (Do w ∷ es) d M walk = walk_end P e k end es (worked w d) M walk.1
walk_end P e k end (Say b ∷ es) d M walk = walk_end P e k end es d (said e (b ∷ []) M) walk
walk_end P e k end (Send to m ∷ es) d M walk =
    walk_end P e k end es d (said e [] (posted (record { from = k; to = to; message = m }) M)) (walk [] refl)

-- a coordinator that is good and sure at this node
record IsFine (acts : List Action) (k : ℕ) (c : Coord) : Type 0 where
  begun : AreBegun acts
  good : IsGoodCoord acts (paths_of acts) c
  sure : IsSure c
  node : (let t = c.tree in t.node) ≡ k

fine_at : (acts : List Action) (k : ℕ) (d : Disk) (t : Parts) (M : Seen) → IsGoodOf acts (up k d t M) → IsFine acts k t.coord
fine_at acts k d t M good = let x = it 0 k d t M (acts, good) in
    record { begun = good.begun; good = good_coord 0 k d t M (acts, good); sure = x.sure; node = x.node }

fine_end : (acts : List Action) (e k : ℕ) (v : Parts) (outs : List Effect) (d : Disk) (M : Seen) →
    Walks (IsGoodOf acts) e k outs (Up (IsGoodOf acts) k v) d M → IsFine acts k v.coord
fine_end acts e k v outs d M w = let x = walk_end (IsGoodOf acts) e k (Up (IsGoodOf acts) k v) outs d M w in fine_at acts k x.0 v x.1 x.2

module _ (acts : List Action) (k : ℕ) where
  abbrev K : Uid → Type 0
  K = IsOwnNamed acts k

  branch_named : (c : Coord) → IsFine acts k c → (u : Uid) (b : Branch) → branch_of u c.tree ≡ Some b → K u
  branch_named c f u b is = (
    (action_of b, f.good.known u b is, subst (λ w. is_on (uids_of b.path) w ≡ true) (f.good.tree.lists.places u b is) (on_own b.path)),
    eqb-true u.node c.tree.node (and_parts (u.node == c.tree.node) (u.inc == c.tree.inc) (found_by u c.tree b is).0).0 ∙ f.node,
  )

  decided_named : (c : Coord) → IsFine acts k c → (u : Uid) (e : End) → IsDecided u e c.tree → K u
  decided_named c f u e d = branch_named c f u d.0 d.1

  knows : (c : Coord) → IsFine acts k c → Knows K c
  knows c f = record { branches = branch_named c f; ends = λ r u e i. decided_named c f u e (f.sure.lists r u e (in_to (u, e) _ i)) }

  records_named : (records : List (Uid × Intent)) → AreOfTops acts records → ((u : Uid) (j : Intent) →
      list.In {X = Uid × Intent} (u, j) records → u.node ≡ k) → (u : Uid) (j : Intent) → list.In {X = Uid × Intent} (u, j) records → K u
  records_named records tops own u j there = let t = top_in acts u j records tops there in
      ((t.0, t.1, subst (λ w. is_on (uids_of (let a = t.0 in a.path)) w ≡ true) t.2 (on_own (let a = t.0 in a.path))), own u j there)

  -- ---- effects together

  module _ (v : Parts) (found : ℕ → Option Node) (f : IsFine acts k v.coord) where
    abbrev L : ℕ → Option Parts
    L = live_put k (Some v) found

    closed_decided : (u : Uid) (e : End) → IsDecided u e v.coord.tree → IsClosedAt u (Some v)
    closed_decided u e d b is = ap (λ (y : Branch). is_some y.ended) (some_is (sym is ∙ d.1)) ∙ ap is_some d.2

    closed_told : (u : Uid) (e : End) → IsToldSo u e v.coord.tree → IsClosedAt u (Some v)
    closed_told u ending.Commit so b is = closed_decided u ending.Commit (so (found_by u v.coord.tree b is).0) b is
    closed_told u ending.Abort so b is = so b is

    says_past : (to : ℕ) (m : Message) → SaysEnds v.coord.tree m → TellsOf K (Send to m) → AsksBegun acts to m →
        SaysPast acts L (record { from = k; to = to; message = m })
    says_past to m says tells asks = record {
      told = λ u e i. let x = tells u e i in (x.0, closed_here k (Some v) found u x.1 (closed_told u e (says.tells u e i)));
      brings = λ u e i. let d = says.brings u e i in let x = decided_named v.coord f u e d in
          (x.0, closed_here k (Some v) found u x.1 (closed_decided u e d));
      asks = asks;
    }

    effects : (outs : List Effect) → AllSayEnds v.coord.tree outs → AllTell K outs → All acts outs →
        AllByRecursion (EffectPast acts L k) outs
    effects [] says tells means = tt
    effects (Say b ∷ es) says tells means = (tt, effects es says.1 tells.1 means.1)
    effects (Send to m ∷ es) says tells means = (says_past to m says.0 tells.0 means.0.0, effects es says.1 tells.1 means.1)
    effects (Do w ∷ es) says tells means = (means.0, effects es says.1 tells.1 means.1)

-- ---- a node that goes on

module _ (acts : List Action) (e k : ℕ) (d : Disk) (t : Parts) (M : Seen) (good : IsGoodOf acts (up k d t M))
    (all : ArePastIn acts (up k d t M)) where
  abbrev begun : AreBegun acts
  begun = good.begun

  tree : IsTree (paths_of acts)
  tree = begun_tree acts begun

  abbrev here : AtNode acts k d (Some t) M
  here = at_node acts k d (Some t) M all

  mine : ToldPast acts (live_put k (Some t) M.nodes) k t
  mine = let n = here.2 in n.live t refl

  disk : Both acts d
  disk = let n = here.2 in (n.store, n.names)

  held : HoldsBegun acts t
  held = record { calls = mine.calls; keys = mine.keys; entries = mine.entries }

  was : IsFine acts k t.coord
  was = fine_at acts k d t M good

  abbrev x : IsUp acts M.sent M.labels k d.inc t
  x = it e k d t M (acts, good)

  -- whoever was past is so with these parts
  on : (v : Parts) → GoesOn t.coord v.coord → Decides t.coord.tree v.coord.tree → (u : Uid) → IsPast acts (live_put k (Some t) M.nodes) u →
      IsPast acts (live_put k (Some v) M.nodes) u
  on v g stands = put_on acts k (Some t) (Some v) M.nodes (λ u n c. closed_on t.coord v.coord g stands u c)

  goes : (v : Parts) (outs : List Effect) → (to : (u : Uid) → IsPast acts (live_put k (Some t) M.nodes) u →
      IsPast acts (live_put k (Some v) M.nodes) u) → ToldPast acts (live_put k (Some v) M.nodes) k v →
      AllByRecursion (EffectPast acts (live_put k (Some v) M.nodes) k) outs → Walks (ArePastIn acts) e k outs (Up (ArePastIn acts) k v) d M
  goes v outs to its fine =
      walk acts e k v outs d M its (λ j n off is. node_to acts (live_put k (Some t) M.nodes) (live_put k (Some v) M.nodes) to j n
      (here.0 j n off is)) (λ p i. says_to acts (live_put k (Some t) M.nodes) (live_put k (Some v) M.nodes) to p (here.1 p i)) disk fine

  -- with another coordinator
  coord_told : (c : Coord) → ((u : Uid) → IsPast acts (live_put k (Some t) M.nodes) u → IsPast acts
      (live_put k (Some (with_coord t c)) M.nodes) u) → ToldPast acts (live_put k (Some (with_coord t c)) M.nodes) k (with_coord t c)
  coord_told c to = let w = told_to acts (live_put k (Some t) M.nodes) (live_put k (Some (with_coord t c)) M.nodes) to k t mine in
      record { place = w.place; calls = w.calls; keys = w.keys; entries = w.entries; server = w.server; naming = w.naming }

  abbrev Ok : List Effect → Type 0
  Ok outs = All acts outs × AllTell (IsOwnNamed acts k) outs

  message_past : (v : Parts) (from : ℕ) (m : Message) (outs : List Effect) → In (record { from = from; to = k; message = m }) M.sent →
      handle k d t from m ≡ Took v outs → Walks (ArePastIn acts) e k outs (Up (ArePastIn acts) k v) d M
  message_past v from m outs there is = goes v outs (on v g surely.1) its (effects acts k v M.nodes now outs surely.2 left.tells left.means)
    where
      now : IsFine acts k v.coord
      now = fine_end acts e k v outs d M (message_good e k d t M (acts, good) v from m outs there is)

      truly : IsTrulyHandled k t (Took v outs)
      truly = subst (IsTrulyHandled k t) is (truly_handled k t acts (paths_of acts) tree was.good d (own_of_disk e k d t M (acts, good))
          from m (tops_of_disk e k d t M (acts, good)))

      g : GoesOn t.coord v.coord
      g = truly.0

      surely : IsSure v.coord × Decides t.coord.tree v.coord.tree × AllSayEnds v.coord.tree outs
      surely = subst (IsSurelyHandled t) is
          (surely_handled k t acts (paths_of acts) tree was.good x.sure d (records_of_disk e k d t M (acts, good)) from m)

      p : Post
      p = record { from = from; to = k; message = m }

      says : SaysPast acts (live_put k (Some t) M.nodes) p
      says = here.1 p there

      fine_heard : (a : Asked) (r : Reply) → IsFine acts k (heard from a r d.intents t.coord).part
      fine_heard a r = record {
        begun = begun;
        good = good_heard acts (paths_of acts) tree from a r d.intents t.coord was.good;
        sure = (sure_heard acts (paths_of acts) tree from a r d.intents t.coord was.good x.sure).0;
        node = sym (node_on t.coord (heard from a r d.intents t.coord).part
            (well_heard acts (paths_of acts) tree from a r d.intents t.coord was.good).0) ∙ was.node;
      }

      hears : (a : Asked) (r : Reply) → Ok (heard from a r d.intents t.coord).outs
      hears a r = let q = heard from a r d.intents t.coord in (
        coord_means acts q.part q.outs (well_heard acts (paths_of acts) tree from a r d.intents t.coord was.good).1
            (heard_own from a r d.intents t.coord),
        tell_heard (IsOwnNamed acts k) acts (paths_of acts) tree from a r d.intents t.coord was.good (knows acts k t.coord was)
            (knows acts k q.part (fine_heard a r)),
      )

      acks : (u : Uid) → Ok (acked from u d.intents t.coord).outs
      acks u = let q = acked from u d.intents t.coord in (
        coord_means acts q.part q.outs (well_acked acts (paths_of acts) tree from u d.intents t.coord).1
            (acked_own from u d.intents t.coord),
        tell_acked (IsOwnNamed acts k) from u d.intents t.coord (knows acts k t.coord was),
      )

      queries : (q : Uid) → m ≡ message.Query (record { act = q }) → Ok (answer_query from q d.intents t.coord)
      queries q same = (
        coord_means acts t.coord (answer_query from q d.intents t.coord) (true_query acts (paths_of acts) tree from q d.intents t.coord
            (tops_of_disk e k d t M (acts, good)) (own_of_disk e k d t M (acts, good)) was.good) (query_own from q d.intents t.coord),
        tell_query (IsOwnNamed acts k) from q d.intents t.coord
            (let a = subst (λ (z : Message). IsAboutBegun acts k (asked_about z)) same says.asks in (named q a.1, sym a.0)),
      )
        where
          named : (q : Uid) → IsBegun acts q → IsNamedBy acts q
          named q b = (b.0, b.1, subst (λ w. is_on (uids_of (let a = b.0 in a.path)) w ≡ true) b.2 (on_own (let a = b.0 in a.path)))

      left : LeavesPast acts k t (HasEnd m) v outs
      left = subst (By acts begun k d t from disk.0 disk.1 held (HasEnd m)) is
          (message_left acts begun k d t from disk.0 disk.1 held m (good.fits p there) hears acks queries)

      ends : (u : Uid) → HasEnd m u → IsPast acts (live_put k (Some v) M.nodes) u
      ends u h = on v g surely.1 u (⊎_elim (λ i. says.told u h.0 i) (λ i. says.brings u h.0 i) h.1)

      its : ToldPast acts (live_put k (Some v) M.nodes) k v
      its = record {
        place = left.place ∙ mine.place;
        calls = left.holds.calls;
        keys = left.holds.keys;
        entries = left.holds.entries;
        server = λ u is. ⊎_elim (λ old. on v g surely.1 u (mine.server u old)) (λ new. ends u new) (left.server u is);
        naming = λ o u is its_on.
            ⊎_elim (λ old. on v g surely.1 u (mine.naming old.0 u old.1 old.2)) (λ new. ends u new) (left.naming o u is its_on);
      }

  act_past : (hd : Header) (i : Input) → is_act i ≡ true → refusal_up hd i t.coord ≡ None →
      (let did = acts_of i d.intents t.coord in Walks (ArePastIn acts) e k did.outs (Up (ArePastIn acts) k (with_coord t did.part)) d M)
  act_past hd i is free =
      let did = acts_of i d.intents t.coord in
      let w = well_acts acts (paths_of acts) tree d.intents t.coord was.good x.faithful.works hd i free other in
      let s = sure_acts acts (paths_of acts) tree d.intents t.coord was.good x.sure hd i free other in
      let now = fine_end acts e k (with_coord t did.part) did.outs d M (act_good e k d t M (acts, good) hd i is free) in
      let to = on (with_coord t did.part) w.0 (stand_acts acts (paths_of acts) tree d.intents t.coord was.good hd i free).ends in
      goes (with_coord t did.part) did.outs to (coord_told did.part to) (effects acts k (with_coord t did.part) M.nodes now did.outs s.1
      (tell_acts (IsOwnNamed acts k) acts (paths_of acts) tree d.intents t.coord was.good hd i free (knows acts k t.coord was)
      (knows acts k did.part now)) (coord_means acts did.part did.outs w.1 (acts_own i d.intents t.coord)))
    where
      other : (l : Label) (how : Kind) (parent : Option Label) → i ≢ input.Begin l how parent
      other l how parent same = let no_way : false ≡ true = sym (ap is_act same) ∙ is in cc

  tick_past : Walks (ArePastIn acts) e k (tick_outs (record { number = k; disk = d; live = Some t }) t)
      (Up (ArePastIn acts) k (with_coord t (again_all t.coord.doings t.coord).part)) d M
  tick_past =
      let r = again_all t.coord.doings t.coord in
      let v = with_coord t r.part in
      let w = well_again acts (paths_of acts) tree t.coord was.good in
      let s = sure_again acts (paths_of acts) tree t.coord x.sure in
      let stands = (stand_again acts (paths_of acts) tree t.coord.doings t.coord).ends in
      let now = fine_end acts e k v (tick_outs (record { number = k; disk = d; live = Some t }) t) d M (tick_good e k d t M (acts, good)) in
      let to = on v w.0 stands in
      let tolds = tolds_again t.coord.telling in
      let us = holders d t in
      let its_own : AreOfCommits t.coord.telling r.part.tree = λ u i c own.
      stands u ending.Commit (x.sure.records u i c (sym (w.0.own u) ∙ own)) in
      goes v (tick_outs (record { number = k; disk = d; live = Some t }) t) to (coord_told r.part to)
      (all_append (EffectPast acts (live_put k (Some v) M.nodes) k) (r.outs ++ tolds) (map query_about us)
      (all_append (EffectPast acts (live_put k (Some v) M.nodes) k) r.outs tolds
      (effects acts k v M.nodes now r.outs s.1 (tell_again (IsOwnNamed acts k) t.coord.doings t.coord)
      (coord_means acts r.part r.outs w.1 (again_own t.coord.doings t.coord)))
      (effects acts k v M.nodes now tolds (sure_records r.part.tree t.coord.telling its_own) (tell_records (IsOwnNamed acts k)
      t.coord.telling (records_named acts k t.coord.telling (let n = x.good (paths_of acts) tree (path_found acts begun) in
      n.telling) (λ u j i. (x.faithful.told u j (in_to (u, j) t.coord.telling i)).0 ∙ was.node))) (again_means acts t.coord.telling)))
      (effects acts k v M.nodes now (map query_about us) (says_queries r.part.tree us) (tell_queries (IsOwnNamed acts k) us)
      (queries_mean acts us (holders_begun acts begun d t disk.0 disk.1 held))))

-- ---- an action begins

named_more : (a : Action) (acts : List Action) (u : Uid) → IsNamedBy acts u → IsNamedBy (a ∷ acts) u
named_more a acts u n = (n.0, in_to n.0 (a ∷ acts) (inr (in_from n.0 acts n.1)), n.2)

about_more : (a : Action) (acts : List Action) (to : ℕ) (o : Option Uid) → IsAboutBegun acts to o → IsAboutBegun (a ∷ acts) to o
about_more a acts to None its = tt
about_more a acts to (Some u) its = (its.0, begun_more a acts u its.1)

rows_more : (a : Action) (acts : List Action) (o : Option Naming) → AreNamesRows acts o → AreNamesRows (a ∷ acts) o
rows_more a acts None its = tt
rows_more a acts (Some n) its =
    all_each (λ (e : ℕ × Named). (r : Row) → Contains (let o = e.1 in o.rows) r → IsEntryRow acts r) (λ (e : ℕ × Named). (r : Row) →
    Contains (let o = e.1 in o.rows) r → IsEntryRow (a ∷ acts) r) n.objects (λ e each r c. path_more a acts r.holder r.tops (each r c)) its

module _ (a : Action) (acts : List Action) (L N : ℕ → Option Parts) (to : (u : Uid) → IsPast acts L u → IsPast (a ∷ acts) N u) where
  says_more : (p : Post) → SaysPast acts L p → SaysPast (a ∷ acts) N p
  says_more p s = record {
    told = λ u e i. to u (s.told u e i);
    brings = λ u e i. to u (s.brings u e i);
    asks = about_more a acts p.to (asked_about p.message) s.asks;
  }

  told_more : (k : ℕ) (t : Parts) → ToldPast acts L k t → ToldPast (a ∷ acts) N k t
  told_more k t h = record {
    place = h.place;
    calls = all_each (λ (e : ℕ × Copy). (r : Row) → Contains (let c = e.1 in c.rows) r → IsCallRow acts r) (λ (e : ℕ × Copy). (r : Row) →
        Contains (let c = e.1 in c.rows) r → IsCallRow (a ∷ acts) r) (let s = t.server in
        s.objects) (λ e each r c. call_more a acts r (each r c)) h.calls;
    keys = h.keys;
    entries = rows_more a acts t.naming h.entries;
    server = λ u is. to u (h.server u is);
    naming = λ o u is on. to u (h.naming o u is on);
  }

  both_more : (d : Disk) → Both acts d → Both (a ∷ acts) d
  both_more d b = (each d.store.pend b.0, each d.names.pend b.1)
    where
      each : (ps : List (Uid × List ObjectState)) → AllByRecursion (λ (e : Uid × List ObjectState). IsBegun acts e.0) ps →
          AllByRecursion (λ (e : Uid × List ObjectState). IsBegun (a ∷ acts) e.0) ps
      each ps all = all_each (λ (e : Uid × List ObjectState). IsBegun acts e.0) (λ (e : Uid × List ObjectState). IsBegun (a ∷ acts) e.0) ps
          (λ e b. begun_more a acts e.0 b) all

  node_more : (k : ℕ) (n : Node) → IsPastNode acts L k n → IsPastNode (a ∷ acts) N k n
  node_more k n h = let b = both_more n.disk (h.store, h.names) in
      record { store = b.0; names = b.1; live = λ t is. told_more k t (h.live t is) }

-- the branch that begins is of a new action
closed_begins : (how : Kind) (parent : Option Label) (l : Label) (c : Coord) (acts : List Action) (u : Uid) → IsNew (next_uid c.tree) acts →
    IsNamedBy acts u → ((b : Branch) → branch_of u c.tree ≡ Some b → is_some b.ended ≡ true)
    → (b : Branch) → branch_of u (let d = begin_action l how parent (parent_of parent c) c in let e = d.part in e.tree) ≡ Some b →
    is_some b.ended ≡ true
closed_begins how parent l c acts u new named closed b found =
    by u.num refl (found_by u (let d = begin_action l how parent (parent_of parent c) c in let e = d.part in e.tree) b found)
  where
    again : Branch
    again = record { path = path_below how (parent_of parent c) (next_uid c.tree); kind = how; ended = None; doomed = false }

    never : u ≡ next_uid c.tree → ⊥
    never same = let no_way : true ≡ false = sym named.2 ∙ ap (λ w. is_on (uids_of (let a = named.0 in a.path)) w) same
        ∙ new named.0 named.1 in cc no_way

    by : (n : ℕ) → u.num ≡ n → (is_own u c.tree ≡ true) × (at_place n (c.tree.branches ++ again ∷ []) ≡ Some b) → is_some b.ended ≡ true
    by zero num f = absurd (cc f.1)
    by (suc n) num f = ⊎_elim (λ old. closed b ((λ i. cond (f.0 i) (at_place (num i) c.tree.branches) None) ∙ old))
        (λ last. absurd (never (its last.0))) (get_more n again b c.tree.branches f.1)
      where
        its : n ≡ length c.tree.branches → u ≡ next_uid c.tree
        its last =
            let o = and_parts (u.node == c.tree.node) (u.inc == c.tree.inc) f.0 in
            let node : u.node ≡ c.tree.node = eqb-true u.node c.tree.node o.0 in
            let inc : u.inc ≡ c.tree.inc = eqb-true u.inc c.tree.inc o.1 in
            let number : u.num ≡ length c.tree.branches + 1 = omega (arith, num, last) in
            λ i. record { node = node i; inc = inc i; num = number i }

module _ (acts : List Action) (e k : ℕ) (d : Disk) (t : Parts) (l : Label) (how : Kind) (parent : Option Label) (M : Seen)
    (good : IsGoodOf acts (up k d t M)) (all : ArePastIn acts (up k d t M)) (later : AreBegun (begins_in how parent t ∷ acts))
    (same : act_of (begins_in how parent t) ≡ next_uid t.coord.tree) where
  abbrev behind : Parts
  behind = with_coord t (begin_action l how parent (parent_of parent t.coord) t.coord).part

  abbrev A : Action
  A = begins_in how parent t

  abbrev from : ℕ → Option Parts
  from = live_put k (Some t) M.nodes

  abbrev onto : ℕ → Option Parts
  onto = live_put k (Some behind) M.nodes

  to_more : (u : Uid) → IsPast acts from u → IsPast (A ∷ acts) onto u
  to_more u p = (
    named_more A acts u p.0,
    closed_put k (Some t) (Some behind) M.nodes u
        (closed_begins how parent l t.coord acts u (subst (λ w. IsNew w acts) same (let b = later.0 in b.new)) p.0) p.1,
  )

  begin_past : (g : Labelled) → (let did = begin_action l how parent (parent_of parent t.coord) t.coord in
      Walks (ArePastIn (A ∷ acts)) e k did.outs (Up (ArePastIn (A ∷ acts)) k (with_coord t did.part)) d (given l g M))
  begin_past g = of_node (A ∷ acts) k d (Some behind) (said e (began_line l how (next_uid t.coord.tree) parent ∷ []) (given l g M)) (
    (λ j n off is. node_more A acts from onto to_more j n (h.0 j n off is)),
    (λ p i. says_more A acts from onto to_more p (h.1 p i)),
    record {
      store = b.0;
      names = b.1;
      live = λ v is. subst (ToldPast (A ∷ acts) onto k) (some_is is)
          (record { place = w.place; calls = w.calls; keys = w.keys; entries = w.entries; server = w.server; naming = w.naming });
    },
  )
    where
      h : AtNode acts k d (Some t) M
      h = at_node acts k d (Some t) M all

      b : Both (A ∷ acts) d
      b = let n = h.2 in both_more A acts from onto to_more d (n.store, n.names)

      w : ToldPast (A ∷ acts) onto k t
      w = told_more A acts from onto to_more k t (let n = h.2 in n.live t refl)

-- ---- restarts, and at first

-- all lines are so
back_all : (P : Effect → Type 0) → ((b : Body) → P (Say b)) → (o : Option Naming) → AllByRecursion P (naming_back o)
back_all P each None = tt
back_all P each (Some o) = by o.objects
  where
    by : (es : List (ℕ × Named)) → AllByRecursion P (flat_map (λ (e : ℕ × Named). back_lines e.1) es)
    by [] = tt
    by (e ∷ es) = all_both P (back_lines e.1) (flat_map (λ (z : ℕ × Named). back_lines z.1) es)
        (all_map P _ (let o = e.1 in o.rows) (λ r. each _)) (by es)

-- a server and naming that start were told nothing
starts_told : (acts : List Action) → AreBegun acts → (L : ℕ → Option Parts) (k inc : ℕ) (d : Disk) → Both acts d →
    ToldPast acts L k (parts_in k inc d)
starts_told acts begun L k inc d b = record {
  place = there (k == 1);
  calls = tt;
  keys = tt;
  entries = rows (k == 1);
  server = λ u is. let no_way : false ≡ true = is in absurd (cc no_way);
  naming = λ o u is on. absurd (none (k == 1) o u is on);
}
  where
    there : (c : Bool) → is_some (cond c (Some (recovered_naming inc d.names)) None) ≡ c
    there true = refl
    there false = refl

    rows : (c : Bool) → AreNamesRows acts (cond c (Some (recovered_naming inc d.names)) None)
    rows true = rows_recovered acts begun inc d.names b.1
    rows false = tt

    none : (c : Bool) (o : Naming) (u : Uid) → cond c (Some (recovered_naming inc d.names)) None ≡ Some o → is_on o.told u ≡ true → ⊥
    none true o u is on = let no_way : false ≡ true = ap (λ (q : Naming). is_on q.told u) (some_is is) ∙ on in cc no_way
    none false o u is on = cc is

module _ (acts : List Action) (hd : Header) (e k : ℕ) (d : Disk) (M : Seen) (good : IsGoodOf acts (down k d M))
    (all : ArePastIn acts (down k d M)) where
  abbrev anew : Parts
  anew = parts_in k (d.inc + 1) d

  abbrev I : ℕ → Option Parts
  I = live_put k (Some anew) M.nodes

  restart_past : Walks (ArePastIn acts) e k (restart_outs hd k (d.inc + 1) d) (Up (ArePastIn acts) k anew) d M
  restart_past = (
    λ how. down_past acts e k (stopped how Look d) (Some anew) M others posts (both_stopped acts how Look d tt b),
    (
      λ how. down_past acts e k (stopped how (PutInc (d.inc + 1)) d) (Some anew) M others posts (rises how),
      walk acts e k anew (four ++ hellos) (record d { inc = d.inc + 1 }) M (starts_told acts good.begun I k (d.inc + 1) d b) others posts b
          (all_both P four hellos (all_both P three queries
          (all_both P two tolds (all_both P one records (tt, (tt, back_all P (λ b. tt) (naming_at k (d.inc + 1) d.names)))
          (tt, all_map P (λ (e : Uid × Intent). Say (body.Recovered k e.0)) d.intents (λ e. tt)))
          (effects acts k anew M.nodes now tolds (sure_records (new_tree k (d.inc + 1)) d.intents now.sure.records)
          (tell_records (IsOwnNamed acts k) d.intents (records_named acts k d.intents disk.tops owned)) (again_means acts d.intents)))
          (effects acts k anew M.nodes now queries (says_queries (new_tree k (d.inc + 1)) us) (tell_queries (IsOwnNamed acts k) us)
          (queries_mean acts us prepared)))
          (all_map P (hello_to k (d.inc + 1)) (without_number k (numbers_to hd.nodes))
          (λ w. record { told = λ u e i. none_in u e i; brings = λ u e i. none_in u e i; asks = tt }))),
    ),
  )
    where
      P : Effect → Type 0
      P = EffectPast acts I k

      h : AtNode acts k d None M
      h = at_node acts k d None M all

      b : Both acts d
      b = let n = h.2 in (n.store, n.names)

      none : (u : Uid) (x : Branch) → (c : Bool) (n : ℕ) → cond c (at_place n []) None ≡ Some x → is_some x.ended ≡ true
      none u x true zero is = absurd (cc is)
      none u x true (suc n) is = absurd (cc is)
      none u x false n is = absurd (cc is)

      to : (u : Uid) → IsPast acts (live_put k None M.nodes) u → IsPast acts I u
      to = put_on acts k None (Some anew) M.nodes (λ u n c x is. none u x (is_own u (new_tree k (d.inc + 1))) u.num is)

      rises : (how : Stop) → Both acts (stopped how (PutInc (d.inc + 1)) d)
      rises Before = b
      rises After = b
      rises (InPart which) = b

      others : Others acts I k M
      others j n off is = node_to acts (live_put k None M.nodes) I to j n (h.0 j n off is)

      posts : (p : Post) → In p M.sent → SaysPast acts I p
      posts p i = says_to acts (live_put k None M.nodes) I to p (h.1 p i)

      now : IsFine acts k anew.coord
      now = fine_end acts e k anew (restart_outs hd k (d.inc + 1) d) d M (restart_good hd e k d M (acts, good))

      disk : IsGoodDisk acts k d
      disk = let p = good.places k (record { number = k; disk = d; live = None })
          (node_here M k (record { number = k; disk = d; live = None })) in p.disk

      owned : (u : Uid) (j : Intent) → list.In {X = Uid × Intent} (u, j) d.intents → u.node ≡ k
      owned u j i = by d.intents disk.own i
        where
          by : (ms : List (Uid × Intent)) → AreOfNode k d.inc ms → list.In {X = Uid × Intent} (u, j) ms → u.node ≡ k
          by [] own none = absurd none
          by (m ∷ ms) own (inl same) = ap (λ (x : Uid × Intent). let w = x.0 in w.node) (sym same) ∙ own.0.0
          by (m ∷ ms) own (inr there) = by ms own.1 there

      us : List Uid
      us = uid_set (prepared_actions d.store ++ prepared_actions d.names)

      prepared : AllByRecursion (IsBegun acts) us
      prepared = all_set (IsBegun acts) (prepared_actions d.store ++ prepared_actions d.names) (all_append (IsBegun acts) (prepared_actions
          d.store) (prepared_actions d.names) (all_keys (IsBegun acts) d.store.pend b.0) (all_keys (IsBegun acts) d.names.pend b.1))

      one : List Effect
      one = Say (body.Up k (d.inc + 1)) ∷ Do Look ∷ naming_back (naming_at k (d.inc + 1) d.names)

      records : List Effect
      records = Do Look ∷ recovered_records k d.intents

      two : List Effect
      two = one ++ records

      tolds : List Effect
      tolds = tolds_again d.intents

      three : List Effect
      three = two ++ tolds

      queries : List Effect
      queries = map query_about us

      four : List Effect
      four = three ++ queries

      hellos : List Effect
      hellos = map (hello_to k (d.inc + 1)) (without_number k (numbers_to hd.nodes))

first_past : (hd : Header) → IsAtStarts hd (ArePastIn [])
first_past hd st formed = record {
  posts = λ p i. absurd i;
  nodes = λ k n is. subst (IsPastNode [] L k) (first_at hd st k n is) (record {
    store = tt;
    names = tt;
    live = λ t up_it.
        subst (ToldPast [] L k) (live_first hd st k t up_it) (starts_told [] tt L k (st.incs k + 1) (disk_by hd st k) (tt, tt));
  });
}
  where
    L : ℕ → Option Parts
    L j = live_in (at_place j (map (node_by hd st) (numbers_to hd.nodes)))

-- ---- in every run

pub past_of : (hd : Header) → KeepsOf hd (λ acts M. ⊤) ArePastIn
past_of hd = record {
  quiet = λ acts e bs M quiet more g p. record { posts = p.posts; nodes = p.nodes };
  stop = λ acts e k d live M more g p. let h = at_node acts k d live M p in
      down_past acts e k d live M h.0 h.1 (let n = h.2 in (n.store, n.names));
  message = λ acts e k d t v from m outs M more g p there meant is. message_past acts e k d t M g p v from m outs there is;
  act = λ acts e k d t i M is free more g p. act_past acts e k d t M g p hd i is free;
  begin = λ acts e k d t l how parent M new may free more g p.
      let good = begin_good e k d t l how parent M new may free (acts, g) in
      begin_past acts e k d t l how parent M g p (begins_so e k d t l how parent M acts good)
      (its_uid e k d t l how parent M new may free (acts, g)) (record { node = k; serial = is_serial how });
  tick = λ acts e k d t M more g p. tick_past acts e k d t M g p;
  restart = λ acts e k d M more g p. restart_past acts hd e k d M g p;
  first = first_past hd;
}
  where
    -- the walk of a beginning is one line, behind which the actions were begun
    begins_so : (e k : ℕ) (d : Disk) (t : Parts) (l : Label) (how : Kind) (parent : Option Label) (M : Seen) (acts : List Action)
        → (let did = begin_action l how parent (parent_of parent t.coord) t.coord in Walks (IsGoodOf (begins_in how parent t ∷ acts)) e k
        did.outs (Up (IsGoodOf (begins_in how parent t ∷ acts)) k (with_coord t did.part)) d
        (given l (record { node = k; serial = is_serial how }) M)) → AreBegun (begins_in how parent t ∷ acts)
    begins_so e k d t l how parent M acts walked = walked.begun

pub past_keep : HandlersKeepPast
past_keep hd = kept_of hd ArePastIn (past_of hd)
