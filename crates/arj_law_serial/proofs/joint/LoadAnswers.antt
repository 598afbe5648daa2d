-- A store that answers a Load for a binding that is current by the lock machine has the last state by the disk machine: naming made the
-- binding last for the call's top, which so has the write lock of the entry, and the entry lists the store.
use Rattle.arj_law_parts.proofs.Words
use Words.{◌≡◌, ◌||◌, ◌∙◌, ℕ, List, [], ◌∷◌, Bool, true, false, cond, Option, Some, None, is_some, refl, sym, ap, subst, inl, inr, arith}
use Words.{Ask, Asked, Head, Header, Message, ObjectState, Uid, asks, object, Reply, actor, answers, asked_by, response, top_of, heard}
use Words.{Known, ask_at, is_include, Coord, Doing, doing_of, Disk, Do, Effect, Intent, Look, Send, held_at, holder_of, acked, answer_query}
use Words.{answer_decided, answer_recorded, is_deferred, is_kept_commit, root_or_self, tell, Made, Named, Naming, Parts, Took, handle_ask}
use Words.{load_by, load_held, serve, at_number, at_uid, binding_number, has, uid_number, Node, branch_of, is_open, is_own, Seen}
use Words.list
use Words.ask
use Words.ending
use Words.loaded
use Words.message
use Rattle.arj_law_serial.proofs.Terms
use Terms.{Action, AreBegun, paths_of, IsGoodCoord, IsNumbered, begun_tree, path_found, doing_by, well_acked, well_heard, IsUp, reads_back}
use Terms.{Office, is_gone, is_idle, last, undecided, some_is, test_same, packed, node_here, SeesHeard, IsAskedBy, State, Holds, run_keeps}
use Terms.{start_holds, SeesNothing, SeesNamingIn, binding_at, SeesNaming, Case, IsSeenIn, Spot, world_at, Fixed, view_of, HasCome, case_of}
use Terms.{SeesDown, SeesLocks, SeesMemory, its, IsSentTo, AwaitsLoad}
use Terms.disk
use Terms.state as machine
use Rattle.arj_law_disk.proofs.machine.Loading.{loads_the_last}
use Rattle.arj_law_disk_view.proofs.running.{ListedRuns.loads_listed, LoadTops.top_rooted, LoadTops.top_works}
use Rattle.arj_law_disk_view.proofs.view.StoreSteps.{stores_load}
use Rattle.arj_law_disk_view.specs.running.{Heard.SeesCall, Heard.is_bound, Listed.AnswersList, Listed.IsLoading, Listed.LoadsListed}
use Rattle.arj_law_lock.specs.machine.{Actions.Act, Actions.is_top, Steps.IsCurrent}
use Rattle.arj_law_lock_view.proofs.running.LeftSteps.{IsPlain}
use Rattle.arj_law_lock_view.specs.facts.Requests.{AreAsked}
use Rattle.arj_law_runs.specs.calls.Coords.{bare}
use Rattle.arj_law_serial.proofs.joint
use joint.{Given.AreBeside, Given.IsLastThere, Mute.AllSilent, Mute.silent_in, Mute.true_silent}
use joint.LoadGuards.{as_it_is, maker_there}
use Rattle.arj_law_serial.proofs.whole.CoordCases.{CoordCase, coord_case}
use Rattle.arj_law_serial.proofs.whole.CoordCases as cases

-- ---- naming made the binding last

-- Naming, at node 1, has this binding as the last one that it made for this top of the object, and it isn't recorded yet.
pub record HasMade (x : ℕ) (M : Seen) (t : Uid) (b : ℕ) : Type 0 where
  pub first : Node
  pub names : Parts
  pub naming : Naming
  pub there : M.nodes 1 ≡ Some first
  pub first_live : first.live ≡ Some names
  pub named : names.naming ≡ Some naming
  pub object : Named
  pub made : Made
  pub found : at_number x naming.objects ≡ Some object
  pub newest : at_uid t object.made ≡ Some made
  pub unrecorded : made.recorded ≡ false
  pub same : binding_number made.binding ≡ b

module _ (f : Fixed) (x : ℕ) (begun : List Action) (S : State) (M : Seen) (seen : SeesLocks f x begun S M) (b : ℕ) (t : Uid) (maker : Act)
    (is_it : maker ≡ f.act t) (top : is_top (f.act t) ≡ true) (current : IsCurrent S.naming maker b) where
  holds : Holds S
  holds = run_keeps seen.run (start_holds f.first)

  none_made : (inc : ℕ) → SeesNothing inc S → ⊥
  none_made inc none = let m = none.made maker in omega (arith, m, current.present, current.last)

  last_is : S.naming.made (f.act t) ≡ b
  last_is = ap S.naming.made (sym is_it) ∙ current.last

  made_at : (n : Node) (p : Parts) (m : Naming) → M.nodes 1 ≡ Some n → n.live ≡ Some p → p.naming ≡ Some m →
      SeesNaming (view_of f x begun 1) m S → HasMade x M t b
  made_at n p m here live named z = record {
    first = n;
    names = p;
    naming = m;
    there = here;
    first_live = live;
    named = named;
    object = z.named;
    made = newest.0;
    found = z.there;
    newest = newest.1;
    unrecorded = fresh (let y = newest.0 in y.recorded) refl;
    same = newest.2 ∙ last_is;
  }
    where
      newest : (r : Made) × (at_uid t (let o = z.named in o.made) ≡ Some r) × (binding_number r.binding ≡ S.naming.made (f.act t))
      newest = let q = z.seen in q.making t top (omega (arith, last_is, current.present)) (ap S.naming.told (sym is_it) ∙ current.untold)

      fresh : (r : Bool) → (let y = newest.0 in y.recorded) ≡ r → r ≡ false
      fresh false is = refl
      fresh true is =
          let q = z.seen in
          let note = (q.made t newest.0 newest.1).noted is in
          let low = (holds.mail (machine.Recorded (binding_number (let y = newest.0 in y.binding))) note).1 in
          absurd (omega (arith, low, newest.2, last_is, current.unrecorded))

  pub has_made : HasMade x M t b
  has_made = by_node (M.nodes 1) refl
    where
      down_not : (d : Disk) → SeesDown (view_of f x begun 1) S d → ⊥
      down_not d down = none_made d.inc (down.naming refl)

      by_naming : (n : Node) (p : Parts) → M.nodes 1 ≡ Some n → n.live ≡ Some p → (o : Option Naming) → p.naming ≡ o → is_some o ≡ true →
          SeesNamingIn (view_of f x begun 1) S o → HasMade x M t b
      by_naming n p here live None named some sees = absurd (cc some)
      by_naming n p here live (Some m) named some sees = made_at n p m here live named sees

      by_live : (n : Node) → M.nodes 1 ≡ Some n → (o : Option Parts) → n.live ≡ o → SeesMemory (view_of f x begun 1) S n.disk o →
          HasMade x M t b
      by_live n here None live down = absurd (down_not n.disk down)
      by_live n here (Some p) live sees = by_naming n p here live p.naming refl sees.place sees.naming

      by_node : (o : Option Node) → M.nodes 1 ≡ o → HasMade x M t b
      by_node None none = let a = seen.absent 1 none in absurd (down_not a.0 a.1)
      by_node (Some n) here = by_live n here n.live refl (seen.nodes 1 n here)

-- ---- a Load is answered

plain_none : (z : Message) → IsPlain z → answers z ≡ None
plain_none (message.Acked z) is = refl
plain_none (message.Query z) is = refl
plain_none _ is = absurd is

-- what is answered to a question answers no request
query_silent : (from : ℕ) (u : Uid) (intents : List (Uid × Intent)) (c : Coord) → AllSilent (answer_query from u intents c)
query_silent from u intents c = by (is_open u c.tree || is_deferred u intents from)
  where
    decided : (b : Bool) → AllSilent (cond b (tell (root_or_self u (branch_of u c.tree)) false ((u, ending.Commit) ∷ []) from ∷ [])
        (tell (root_or_self u (branch_of u c.tree)) false ((u, ending.Abort) ∷ []) from ∷ []))
    decided true = (refl, tt)
    decided false = (refl, tt)

    recorded : (o : Option Intent) → AllSilent (answer_recorded from u c o)
    recorded None = decided (is_kept_commit from u c)
    recorded (Some i) = one (has i.nodes from)
      where
        one : (b : Bool) → AllSilent (cond b (tell i.root true ((u, ending.Commit) ∷ []) from ∷ []) (answer_decided from u c))
        one true = (refl, tt)
        one false = decided (is_kept_commit from u c)

    by : (b : Bool) → AllSilent (cond b [] (answer_recorded from u c (at_uid u intents)))
    by true = tt
    by false = recorded (at_uid u intents)

load_bare : (a : Ask) (y : ℕ) → bare a ≡ ask.Load y → a ≡ ask.Load y
load_bare (ask.Invoke x b i ends o) y is = absurd (cc is)
load_bare a y is = is

module _ (c : Case) (s : Spot) (is_seen : IsSeenIn c (world_at s)) (asked : AreAsked (world_at s)) (from : ℕ) (m : Message) (v : Parts)
    (outs : List Effect) (come : HasCome s from m v outs) (to : ℕ) (z : Message) (a : Asked) (st : ObjectState) (k : Known) (out : list.In
    (Send to z) outs) (is : answers z ≡ Some (a, Reply.Loaded (loaded.State st))) (w : AwaitsLoad c.x (world_at s) a to s.node k) where
  begun : AreBegun c.begun
  begun = let g = is_seen.good in g.begun

  coord : IsGoodCoord c.begun (paths_of c.begun) (let t = s.parts in t.coord)
  coord = let i = its c s is_seen in let n = i.good (paths_of c.begun) (begun_tree c.begun begun) (path_found c.begun begun) in n.coord

  not_silent : AllSilent outs → ⊥
  not_silent all = let no_way : ◌≡◌ {A = Option (Asked × Reply)} None (Some (a, Reply.Loaded (loaded.State st))) = sym
      (silent_in outs all to z out) ∙ is in cc no_way

  -- the request, to whose asker the answer goes
  abbrev IsRequest : Type 0
  IsRequest = (q : Head × Ask) × (asks m ≡ Some q) × (to ≡ from) × (asked_by q.0 ≡ a)

  request : IsRequest
  request = by (coord_case s.node s.disk s.parts v from m outs come.takes)
    where
      sent_so : (o : Option (Head × Ask)) → asks m ≡ o → IsSentTo from o to z → IsRequest
      sent_so None none plain = let no_way : ◌≡◌ {A = Option (Asked × Reply)} None (Some (a, Reply.Loaded (loaded.State st))) = sym
          (plain_none z plain) ∙ is in absurd (cc no_way)
      sent_so (Some q) asking (back, (r, same)) =
          (q, asking, back, ap (λ (y : Asked × Reply). y.0) (some_is (ap answers same ∙ reads_back (asked_by q.0) r) is))

      by : CoordCase s.disk s.parts from m v outs → IsRequest
      by (cases.OfParts mine same plain sent) = sent_so (asks m) refl (sent to z out)
      by (cases.Asks u which same outs_are) =
          absurd (not_silent (subst AllSilent outs_are (query_silent from u (let d = s.disk in d.intents) (let t = s.parts in t.coord))))
      by (cases.Heard b r which same outs_are) =
          let intents = (let d = s.disk in d.intents) in
          let C = (let t = s.parts in t.coord) in
          let D = heard from b r intents C in
          absurd (not_silent (subst AllSilent outs_are
          (true_silent D.part D.outs (well_heard c.begun (paths_of c.begun) (begun_tree c.begun begun) from b r intents C coord).1)))
      by (cases.Acks u which same outs_are) =
          let intents = (let d = s.disk in d.intents) in
          let C = (let t = s.parts in t.coord) in
          let D = acked from u intents C in
          absurd (not_silent (subst AllSilent outs_are
          (true_silent D.part D.outs (well_acked c.begun (paths_of c.begun) (begun_tree c.begun begun) from u intents C).1)))

  abbrev h : Head
  h = request.0.0

  -- who waits
  abbrev spot : Spot
  spot = record { node = to; disk = (let n = w.node in n.disk); parts = w.parts; seen = world_at s }

  pub seen_there : IsSeenIn c (world_at (record { node = to; disk = (let n = w.node in n.disk); parts = w.parts; seen = world_at s }))
  seen_there = subst (IsSeenIn c) (sym (as_it_is to w.node w.parts (world_at s) w.here w.number w.live)) is_seen

  asker : actor h.path ≡ (let b = a in b.act)
  asker = ap (λ (y : Asked). y.act) request.3

  abbrev waits_at : Coord
  waits_at = let p = w.parts in p.coord

  by_it : IsAskedBy waits_at s.node h request.0.1
  by_it = asked to w.node w.parts w.here w.live (record { from = from; to = s.node; message = m }) h request.0.1 come.sent (sym request.2)
      request.1 (ap (λ (u : Uid). is_own u (let k = waits_at in k.tree)) asker ∙ (doing_by (let b = a in b.act) waits_at w.doing w.found).0)

  same_doing : (let b = by_it in b.doing) ≡ w.doing
  same_doing = some_is (let b = by_it in b.found) (ap (λ (u : Uid). doing_of u waits_at) asker ∙ w.found)

  number : h.req ≡ (let b = by_it in let d = b.doing in d.req)
  number =
      let i = its c spot seen_there in
      ap (λ (y : Asked). y.req) request.3 ∙ sym w.request ∙ subst (IsNumbered (let d = w.doing in d.req)) w.now
      (i.numbered (let b = a in b.act) w.doing w.found) ∙ ap (λ (d : Doing). d.req) (sym same_doing)

  loads : request.0.1 ≡ ask.Load c.x
  loads =
      let q = (let b = by_it in b.step) w.steps (ap (λ (d : Doing). d.now) same_doing ∙ w.now) number in
      load_bare request.0.1 c.x (q.same ∙ ap (ask_at (let y = w.steps in y.x) (let y = w.steps in y.goal) []) w.waits ∙ ap ask.Load w.about)

  -- the store has it, and nobody has the object prepared there
  abbrev IsThere : Type 0
  IsThere = (holder_of (object c.x) (let d = s.disk in d.store) ≡ None) × (held_at (object c.x) (let d = s.disk in d.store) ≡ Some st)

  served : load_by c.x (let d = s.disk in d.store) from h s.parts (holder_of (object c.x) (let d = s.disk in d.store)) ≡ Took v outs
  served = ap (serve s.node s.disk s.parts from h) (sym loads) ∙ sym (ap (handle_ask s.node s.disk s.parts from m) request.1) ∙ come.takes

  sent_state : (r : Reply) → z ≡ response (asked_by h) r → r ≡ Reply.Loaded (loaded.State st)
  sent_state r same = ap (λ (y : Asked × Reply). y.1) (some_is (ap answers same ∙ reads_back (asked_by h) r) is)

  pub store_has : IsThere
  store_has = by (holder_of (object c.x) (let d = s.disk in d.store)) refl served
    where
      outs_of : {t : Parts} {es : List Effect} → Took t es ≡ Took v outs → es ≡ outs
      outs_of e = cc e

      message_of : {b : ℕ} {y : Message} → Send b y ≡ Send to z → z ≡ y
      message_of e = cc e

      other_kind : (u : Uid) → Reply.Loaded (loaded.InDoubt u) ≡ Reply.Loaded (loaded.State st) → ⊥
      other_kind u e = cc e

      state_of : (q : ObjectState) → Reply.Loaded (loaded.State q) ≡ Reply.Loaded (loaded.State st) → q ≡ st
      state_of q e = cc e

      held : holder_of (object c.x) (let d = s.disk in d.store) ≡ None → (o : Option ObjectState) →
          held_at (object c.x) (let d = s.disk in d.store) ≡ o → load_held from h s.parts o ≡ Took v outs → IsThere
      held free None there e = absurd (cc e)
      held free (Some q) there e = last (subst (list.In (Send to z)) (sym (outs_of e)) out)
        where
          last : list.In (Send to z) (Do Look ∷ Send from (response (asked_by h) (Reply.Loaded (loaded.State q))) ∷ []) → IsThere
          last (inl look) = absurd (cc look)
          last (inr (inl same)) = (free, there ∙ ap Some (state_of q (sent_state (Reply.Loaded (loaded.State q)) (message_of same))))
          last (inr (inr none)) = absurd none

      by : (o : Option Uid) → holder_of (object c.x) (let d = s.disk in d.store) ≡ o →
          load_by c.x (let d = s.disk in d.store) from h s.parts o ≡ Took v outs → IsThere
      by None free e = held free (held_at (object c.x) (let d = s.disk in d.store)) refl e
      by (Some u) holder e = last (subst (list.In (Send to z)) (sym (outs_of e)) out)
        where
          last : list.In (Send to z) (Send from (response (asked_by h) (Reply.Loaded (loaded.InDoubt u))) ∷ []) → IsThere
          last (inl same) = absurd (other_kind u (sent_state (Reply.Loaded (loaded.InDoubt u)) (message_of same)))
          last (inr none) = absurd none

-- ---- so it is the last one

module _ (hd : Header) (f : Fixed) (x : ℕ) (begun : List Action) (S : State) (s : Spot) (b : AreBeside hd f x begun S (world_at s))
    (lists : AnswersList x (let y = b in y.tops) (let y = b in y.office) (world_at s)) (from : ℕ) (m : Message) (v : Parts)
    (outs : List Effect) (come : HasCome s from m v outs) (to : ℕ) (z : Message) (a : Asked) (st : ObjectState) (k : Known)
    (out : list.In (Send to z) outs) (is : answers z ≡ Some (a, Reply.Loaded (loaded.State st))) (w : AwaitsLoad x (world_at s) a to s.node
    k) (current : IsCurrent S.naming (let y = binding_at S k.binding in y.maker) (binding_number k.binding)) where
  abbrev M : Seen
  M = world_at s

  abbrev A : Office
  A = b.office

  abbrev its_top : Uid
  its_top = top_of (let y = w.steps in y.path)

  abbrev its_coord : Coord
  its_coord = let p = w.parts in p.coord

  here : M.nodes s.node ≡ Some (record { number = s.node; disk = s.disk; live = Some s.parts })
  here = node_here s.seen s.node (record { number = s.node; disk = s.disk; live = Some s.parts })

  made : HasMade x M its_top (binding_number k.binding)
  made =
      let waits = (let g = b.whole in let y = g.works in let e = y.1 in (e.nodes to w.node w.parts w.here w.live).0).waits in
      let q = maker_there (case_of f x begun S) M b.seen a to s.node k w waits in
      has_made f x begun S M (let y = b.seen in y.sees) (binding_number k.binding) its_top (let y = binding_at S k.binding in
      y.maker) q.1 q.0 current

  abbrev loading : IsLoading x M
  loading = record {
    place = to;
    node = w.node;
    parts = w.parts;
    up = w.here;
    live = w.live;
    actor = a.act;
    doing = w.doing;
    steps = w.steps;
    does = w.found;
    now = w.now;
    of = w.about;
    op = w.op;
    goal = w.goal;
    known = k;
    store = s.node;
    rest = w.rest;
    waits = w.waits;
    first = made.first;
    names = made.names;
    naming = made.naming;
    there = made.there;
    first_live = made.first_live;
    named = made.named;
    object = made.object;
    made = made.made;
    found = made.found;
    last = made.newest;
    unrecorded = made.unrecorded;
    same = made.same;
  }

  -- the asker's coordinator
  its_up : IsUp begun (world_at s).sent (world_at s).labels to (let n = w.node in let d = n.disk in d.inc) w.parts
  its_up = its (case_of f x begun S) (record { node = to; disk = (let n = w.node in n.disk); parts = w.parts; seen = M })
      (subst (IsSeenIn (case_of f x begun S)) (sym (as_it_is to w.node w.parts M w.here w.number w.live)) b.seen)

  acts_begun : AreBegun begun
  acts_begun = let y = b.seen in let g = y.good in g.begun

  good_coord : IsGoodCoord begun (paths_of begun) its_coord
  good_coord = let n = its_up.good (paths_of begun) (begun_tree begun acts_begun) (path_found begun acts_begun) in n.coord

  heard_so : SeesHeard x b.tops A M
  heard_so = b.carried.0.0.0

  call : SeesCall x b.tops its_coord w.steps A.names
  call = let y = heard_so.coords to w.node w.parts w.here w.live in
      y.calls a.act w.doing w.steps w.found w.now w.about (ap is_include w.goal) (ap is_bound w.waits)

  idle : A.world.disk.stage (uid_number its_top) ≡ disk.Idle
  idle = top_works begun acts_begun its_coord good_coord (let i = its_up in let g = i.faithful in
      g.works) a.act w.doing w.steps w.found w.now call.own x to (let n = w.node in let d = n.disk in
      d.inc) b.tops A.world.disk (let e = (let y = b.both in y.disks) in e.coords to w.node w.parts w.here w.live)

  rooted : is_gone (A.world.disk.stage (A.world.disk.root (uid_number its_top))) ≡ false
  rooted =
      let e = (let y = b.both in y.disks) in
      top_rooted begun acts_begun its_coord good_coord (let i = its_up in let g = i.faithful in
      g.works) a.act w.doing w.steps w.found w.now call.own x to (let n = w.node in let d = n.disk in
      d.inc) b.tops A.world.disk (e.coords to w.node w.parts w.here w.live) e.fixed call.top

  listed : LoadsListed x A M loading
  listed =
      let good = b.known.0.0 in
      let records = good.0.1 in
      let few = b.known.1.0 in
      loads_listed x b.tops heard_so.kinds A M b.both lists (records.1 few.0).1 loading (let t = call.top in t.top) (ap is_idle idle) rooted

  first_asked : has (s.node ∷ w.rest) s.node ≡ true
  first_asked = λ i. test_same s.node i || has w.rest s.node

  stored : (holder_of (object x) (let d = s.disk in d.store) ≡ None) × (held_at (object x) (let d = s.disk in d.store) ≡ Some st)
  stored = store_has (case_of f x begun S) s b.seen (let g = b.whole in let r = g.requests in r.1) from m v outs come to z a st k out is w

  is_last : (packed st ≡ last A.world.disk) × ((y : ℕ) → A.world.disk.conf y ≡ true → undecided A.world.disk y ≡ true → ⊥)
  is_last =
      let e = (let y = b.both in y.disks) in
      let q = stores_load x s.node (let d = s.disk in d.store) A.world.disk st
      (e.stores s.node (record { number = s.node; disk = s.disk; live = Some s.parts }) here) stored.0 stored.1 in
      loads_the_last A (let y = b.both in
      y.named) (uid_number its_top) s.node (packed st) listed.holds (listed.listed s.node first_asked) q.0 q.1

  pub last_there : IsLastThere x b.office (world_at s) st
  last_there = record {
    store = s.node;
    node = record { number = s.node; disk = s.disk; live = Some s.parts };
    there = here;
    held = stored.1;
    last_one = is_last.0;
    settled = is_last.1;
    first = made.first;
    first_there = made.there;
  }
