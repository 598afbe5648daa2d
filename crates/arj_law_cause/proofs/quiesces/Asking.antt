-- What a node that is asked something leaves waiting, when it has handled all that it sent to itself.
use Rattle.arj_law_parts.proofs.Words
use Words.{◌≡◌, ◌∙◌, ◌+◌, ◌==◌, ℕ, zero, suc, Bool, true, false, cond, List, [], ◌∷◌, ◌++◌, refl, sym, ap, subst, arith, nat_tests}
use Words.{Option, Some, None, ◌⊎◌, inl, inr, ⊎_elim, in_right, Body, Header, Message, Uid, Ask, Asked, Head}
use Words.{Path, actor, asks, asked_by, request, Reply, End, Steps, next_ask, next_node, Machine, ask_of, left_of, plan_of, Calling}
use Words.{Committing, Idle, Coord}
use Words.{Doing, Now, doing_of, has, Did, Disk, Do, Effect, Say, Send, worked, Here, Parts, Ran, Handled, Took, Void, taken, with_coord}
use Words.{first_done, first_queued}
use Words.{handle_all, most_rounds, next_round, ran, ran_handled, rounds, whole, Node, is_waiting_now, at_place, World, Post, Seen, see}
use Words.{IsOvertaken, IsSaid, coord_in, coord_of, option_map, response}
use Words.{Branch, Include, Intent, Kind, Op, Plan, Used, ended, ended_at, goes_on}
use Words.list as members
use Words.body
use Words.calls
use Words.cause
use Words.commit
use Words.ending
use Words.kind
use Rattle.arj_law_runs.proofs.coordinators.CoordUses.{on_cases}
use Rattle.arj_protocol.specs.Asking as asking_of
use Rattle.arj_protocol.specs.Coord.{is_free, keeping_of, on_root, plan_for, root_at, with_keeping}
use Rattle.arj_protocol.specs.Ending.{aborts_with, ends_with, says}
use Rattle.arj_protocol.specs.Order.{unbound}
use Rattle.arj_protocol.specs.Tree.{root_of, uses_object}
use Rattle.arj_promise.specs.Runs.{HeaderFits}
use Rattle.arj_law_promise.proofs.Terms.{Holds, KeepsAsked, IsGood}
use Rattle.arj_law_promise.proofs.waiting.Gives.{at_of}
use Rattle.arj_law_promise.proofs.settling.Waiting.{AllKnown, all_answer, all_kept}
use Rattle.arj_law_runs.proofs.Terms.{AnswersWaits, AreBrought, Asking, HasWay, Walks, Up, up, want_of_call, want_of_commit}
use Rattle.arj_law_runs.proofs.resting
use resting.Quiesces as quiesces
use resting.{Effects.works, Flights.MayGrow, Flights.MessagesKeep, Flights.whole_keeps, Flights.with_here}
use resting.{Hearing.IsHome, Hearing.AsksIn, Hearing.Fits, Hearing.Goes, Hearing.Moves, Hearing.asks_for, Hearing.call_steps}
use resting.{Hearing.commit_moves, Hearing.end_work, Passing.coords}
use resting.{Quiesces.good_home, Quiesces.keeps_good, Serving.asks_no_answer, Ways.Then, Ways.brought_of}
use resting.{Ways.heard_stays, Ways.post_of}
use resting.{Ways.put, Worlds.Of, Worlds.nodes_in, Worlds.seen_up}
use Rattle.arj_law_runs.specs.resting.Waits.{Brings, Answering, AsksFor, Want}

-- ---- a whole step leaves nothing that a node sends to itself

own_ran : (n : ℕ) (t : Parts) (es : List Effect) (d : Disk) (m : Message) → members.In (Send n m) (ran n t es d).outs → ⊥
own_ran n t [] d m i = absurd i
own_ran n t (Say b ∷ es) d m (inl is) = absurd (cc is)
own_ran n t (Say b ∷ es) d m (inr i) = own_ran n t es d m i
own_ran n t (Do w ∷ es) d m (inl is) = absurd (cc is)
own_ran n t (Do w ∷ es) d m (inr i) = own_ran n t es (worked w d) m i
own_ran n t (Send to x ∷ es) d m i = by (to == n) refl i (own_ran n t es d m)
  where
    same : (j : ℕ) → (j == j) ≡ true
    same j = grind (arith, nat_tests)

    to_is : Send to x ≡ Send n m → to ≡ n
    to_is is = cc is

    by : (b : Bool) → (to == n) ≡ b → members.In (Send n m) (cond b (first_queued x (ran n t es d)) (first_done (Send to x)
        (ran n t es d))).outs →
        (members.In (Send n m) (ran n t es d).outs → ⊥) → ⊥
    by true own there rest = rest there
    by false apart (inl is) rest = let no_way : true ≡ false = sym (same n) ∙ ap (λ j. j == n) (sym (to_is is))
        ∙ apart in absurd (cc no_way)
    by false apart (inr there) rest = rest there

own_handled : (n : ℕ) (h : Here) (r : Handled) (m : Message) → members.In (Send n m) (ran_handled n h r).outs → ⊥
own_handled n h (Void outs) m i = own_ran n h.parts outs h.disk m i
own_handled n h (Took t outs) m i = own_ran n t outs h.disk m i

either_in : {A : Type 0} (xs ys : List A) (a : A) → members.In a (xs ++ ys) → members.In a xs ⊎ members.In a ys
either_in [] ys a i = inr i
either_in (x ∷ xs) ys a (inl is) = inl (inl is)
either_in (x ∷ xs) ys a (inr i) = ⊎_elim (λ l. inl (inr l)) (λ r. inr r) (either_in xs ys a i)

own_all : (n : ℕ) (ms : List Message) (h : Here) (m : Message) → members.In (Send n m) (handle_all n ms h).outs → ⊥
own_all n [] h m i = absurd i
own_all n (x ∷ ms) h m i =
    let r = ran_handled n h (taken n h.disk h.parts n x) in
    ⊎_elim (λ a. own_handled n h (taken n h.disk h.parts n x) m a) (λ b. own_all n ms r.here m b)
    (either_in r.outs (handle_all n ms r.here).outs (Send n m) i)

own_rounds : (n j : ℕ) (r : Ran) (m : Message) → (members.In (Send n m) r.outs → ⊥) → members.In (Send n m) (rounds n j r).outs → ⊥
own_rounds n zero r m none i = none i
own_rounds n (suc j) r m none i = by r.queue (own_rounds n j (next_round n r) m next) i
  where
    next : members.In (Send n m) (next_round n r).outs → ⊥
    next i = ⊎_elim none (λ b. own_all n r.queue r.here m b) (either_in r.outs (handle_all n r.queue r.here).outs (Send n m) i)

    one : List Message → Ran
    one q = elim q [ [] ↦ r | x ∷ ms ↦ rounds n j (next_round n r) ]

    by : (q : List Message) → (members.In (Send n m) (rounds n j (next_round n r)).outs → ⊥) → members.In (Send n m) (one q).outs → ⊥
    by [] rest i = none i
    by (x ∷ ms) rest i = rest i

pub own_whole : (n : ℕ) (t : Parts) (outs : List Effect) (d : Disk) (m : Message) → members.In (Send n m) (whole n t outs d).outs → ⊥
own_whole n t outs d m = own_rounds n most_rounds (ran n t outs d) m (own_ran n t outs d m)

-- ---- what is under way

-- a request of an action that waits at these coordinators: it stands for one that isn't answered in this event
record IsOld (cs : ℕ → Option Coord) (q : Post) : Type 0 where
  pub coord : Coord
  pub act : Uid
  pub doing : Doing
  pub found : cs q.from ≡ Some coord
  pub does : doing_of act coord ≡ Some doing
  pub waits : is_waiting_now doing.now ≡ true
  pub head : Head
  pub ask : Ask
  pub is : asks q.message ≡ Some (head, ask)
  pub by : (asked_by head).act ≡ act

module _ (hd : Header) (form : HeaderFits hd) where
  abbrev pub P : Seen → Type 0
  P M = AllKnown hd M × IsGood M

  pub keeps : KeepsAsked hd P
  keeps = keeps_good hd (AllKnown hd) (all_kept hd form)

  pub gives : AnswersWaits hd P
  gives = all_answer hd form P (λ M p. p.0)

  pub homes : (k : ℕ) (d : Disk) (t : Parts) (M : Seen) → P (up k d t M) → IsHome t.coord
  homes k d t M p = good_home k d t M p.1

  abbrev pub Ways : (ℕ → Option Node) → (Post → Type 0) → (Body → Type 0) → Type 0
  Ways found F B = AreBrought (Of hd) (coords found) F B

  ways_more : MayGrow Ways
  ways_more = quiesces.ways_more hd P gives homes (Of hd)

  put_up : (n : ℕ) (d : Disk) (v : Parts) (outs : List Effect) (found : ℕ → Option Node) (base : ℕ → Option Coord) →
      ((k : ℕ) → (k == n) ≡ false → coords found k ≡ base k) → (k : ℕ) →
      coords (with_here n (record { disk = works outs d; parts = v }) found) k ≡ put n v.coord base k
  put_up n d v outs found base other k = one (k == n) refl
    where
      one : (b : Bool) → (k == n) ≡ b → coord_in (cond b (Some (record { number = n; disk = works outs d; live = Some v })) (found k))
          ≡ cond b (Some v.coord) (base k)
      one true is = refl
      one false is = other k is

  ways_message : MessagesKeep P Ways
  ways_message = quiesces.ways_message hd P gives homes (Of hd)

  -- who waits has such a request
  old_ways : (found : ℕ → Option Node) (B : Body → Type 0) → ((k : ℕ) (c : Coord) → coords found k ≡ Some c → IsHome c) →
      Ways found (IsOld (coords found)) B
  old_ways found B home = record {
    calls = λ k c u q s there is does now. inr (record {
      post = post_of k (next_node s) (request (record { path = s.path; req = s.req }) (next_ask [] s));
      under_way = record {
        coord = c;
        act = u;
        doing = q;
        found = is;
        does = does;
        waits = ap is_waiting_now now;
        head = record { path = s.path; req = s.req };
        ask = next_ask [] s;
        is = Words.request_reads_back (record { path = s.path; req = s.req }) (next_ask [] s);
        by = (let h = home k c is in h.calls u q s does now);
      };
      brings = Asking refl refl (asks_for (want_of_call u s) s.path (next_ask [] s) (let h = home k c is in h.calls u q s does now) refl);
    });
    commits = λ k c u q m n there is does now left. record {
      post = post_of k n (request (record { path = (plan_of m).path; req = (plan_of m).req }) (ask_of m n));
      under_way = record {
        coord = c;
        act = u;
        doing = q;
        found = is;
        does = does;
        waits = ap is_waiting_now now;
        head = record { path = (plan_of m).path; req = (plan_of m).req };
        ask = ask_of m n;
        is = Words.request_reads_back (record { path = (plan_of m).path; req = (plan_of m).req }) (ask_of m n);
        by = (let h = home k c is in h.commits u q m does now);
      };
      brings = Asking refl refl (asks_for (want_of_commit u m n) (plan_of m).path (ask_of m n)
          (let h = home k c is in h.commits u q m does now) refl);
    };
  }

  -- ---- a node that is asked something

  module _ (w : World) (h : Holds hd P w) (n : ℕ) (a : Node) (t : Parts) (there : at_place n w.nodes ≡ Some a) (live : a.live
      ≡ Some t) where
    abbrev Cs : ℕ → Option Coord
    Cs = coords (nodes_in w)

    pub here : P (up n a.disk t (see h.sent w))
    here = seen_up P n a t h.sent w there (h.stands.numbers n a there) live h.holds

    home_in : (k : ℕ) (c : Coord) → coords (nodes_in w) k ≡ Some c → IsHome c
    home_in k c is =
        let x = at_of (see h.sent w) k c is in
        subst IsHome x.same (homes k (let y = x.node in y.disk) x.parts (see h.sent w)
        (seen_up P k x.node x.parts h.sent w x.found (h.stands.numbers k x.node x.found) x.live h.holds))

    mine_is : coords (nodes_in w) n ≡ Some t.coord
    mine_is = ap coord_in there ∙ ap (option_map coord_of) live

    module _ (did : Did Coord) (u : Uid) (b : Doing) (found : doing_of u t.coord ≡ Some b)
        (moves : Moves 0 b.now u t.coord did.part did.outs) (e : ℕ)
        (walks : Walks P e n did.outs (Up P n (with_coord t did.part)) a.disk (see h.sent w)) (alone : (k : ℕ) → Of hd k →
        k ≡ n) (of : Of hd n) where
      asked : Asked
      asked = record { act = u; req = 0 }

      acted : Ways (with_here n (record { disk = works did.outs a.disk; parts = with_coord t did.part }) (nodes_in w))
          (Then (IsOld (coords (nodes_in w))) n did.outs) (IsSaid w.lines)
      acted = brought_of (Of hd) (put n did.part (coords (nodes_in w)))
          (coords (with_here n (record { disk = works did.outs a.disk; parts = with_coord t did.part }) (nodes_in w)))
          (Then (IsOld (coords (nodes_in w))) n did.outs) (IsSaid w.lines)
          (put_up n a.disk (with_coord t did.part) did.outs (nodes_in w) (coords (nodes_in w)) (λ k apart. refl))
          (heard_stays (Of hd) (coords (nodes_in w)) n 0 (response (record { act = u; req = 0 }) (Reply.Activated 0))
          (IsOld (coords (nodes_in w))) (IsOld (coords (nodes_in w))) (IsSaid w.lines) (λ q f. inr f) (record { act = u; req = 0 })
          (Reply.Activated 0) refl refl t.coord did.part b did.outs mine_is found moves
          (old_ways (nodes_in w) (IsSaid w.lines) home_in))

      abbrev q : Ran
      q = whole n (with_coord t did.part) did.outs a.disk

      abbrev Said : Body → Type 0
      Said x = IsSaid w.lines x ⊎ members.In (Say x) (whole n (with_coord t did.part) did.outs a.disk).outs

      left_so : Ways (with_here n q.here (nodes_in w)) (Then (IsOld (coords (nodes_in w))) n q.outs) Said
      left_so = whole_keeps hd P keeps Ways ways_more ways_message n e (nodes_in w) a.disk (with_coord t did.part) did.outs (see h.sent w)
          (IsOld (coords (nodes_in w))) (IsSaid w.lines) refl walks (λ x l. l) acted

      same_number : (n == n) ≡ true
      same_number = grind (arith, nat_tests)

      its_coord : coords (with_here n q.here (nodes_in w)) n ≡ Some (let p = q.here in let y = p.parts in y.coord)
      its_coord = ap (λ x. coord_in (cond x (Some (record {
        number = n;
        disk = (let p = q.here in p.disk);
        live = Some
            (let p = q.here in p.parts);
      }))
          (at_place n w.nodes))) same_number

      -- the action waited before
      abbrev Waited : Uid → Type 0
      Waited v = (x : Doing) × (doing_of v t.coord ≡ Some x) × (is_waiting_now x.now ≡ true)

      way_back : (v : Uid) (want : Want) → want.act ≡ v → want.node ≡ n → HasWay (Then (IsOld (coords (nodes_in w))) n q.outs) n want →
          Waited v
      way_back v want act node way = by way.under_way way.brings
        where
          post : Post
          post = way.post

          never : {A : Type 0} → (way.post).to ≡ n → members.In (Send (way.post).to (way.post).message) q.outs → A
          never to sent = absurd (own_whole n (with_coord t did.part) did.outs a.disk (way.post).message
              (subst (λ k. members.In (Send k (way.post).message) q.outs) to sent))

          from_old : (o : IsOld (coords (nodes_in w)) way.post) → (way.post).from ≡ n → AsksFor want (way.post).message → Waited v
          from_old o from x =
              let same : ◌≡◌ {A = Option (Head × Ask)} (Some (o.head, o.ask)) (Some (x.head, x.ask)) = sym o.is ∙ x.is in
              let pair : ◌≡◌ {A = Head × Ask} (o.head, o.ask) (x.head, x.ask) = cc same in
              let who : o.act ≡ v = sym o.by ∙ ap (λ (z : Head × Ask). (asked_by z.0).act) pair ∙ ap (λ (z : Asked). z.act) x.by ∙ act in
              let coord : o.coord ≡ t.coord = some_is (sym o.found ∙ ap (coords (nodes_in w)) from ∙ mine_is) in
              (o.doing, ap (λ z. doing_of z t.coord) (sym who) ∙ ap (doing_of o.act) (sym coord) ∙ o.does, o.waits)
            where
              some_is : ◌≡◌ {A = Option Coord} (Some o.coord) (Some t.coord) → o.coord ≡ t.coord
              some_is is = cc is

          by : Then (IsOld (coords (nodes_in w))) n q.outs way.post → Brings n want way.post → Waited v
          by (inl o) (Asking from to x) = from_old o from x
          by (inl o) (Answering from to x) =
              let no_way : ◌≡◌ {A = Option (Asked × Reply)} (Some (_, x.reply)) None = sym x.is
              ∙ asks_no_answer (way.post).message o.head o.ask o.is in
              absurd (cc no_way)
          by (inr sent) (Asking from to x) = never (to ∙ node) sent.1
          by (inr sent) (Answering from to x) = never to sent.1

      -- whoever waits at the end is overtaken, or waited before
      pub calls_left : (v : Uid) (x : Doing) (s : Steps) → doing_of v (let p = q.here in let y = p.parts in y.coord) ≡ Some x →
          x.now ≡ Calling s →
          Of hd (next_node s) → IsOvertaken Said s ⊎ Waited v
      calls_left v x s does now to = ⊎_elim (λ o. inl o) (λ way. inr (way_back v (want_of_call v s) refl (alone (next_node s) to) way))
          (left_so.calls n (let p = q.here in let y = p.parts in y.coord) v x s of its_coord does now)

      pub commits_left : (v : Uid) (x : Doing) (m : Machine) (j : ℕ) → doing_of v (let p = q.here in let y = p.parts in y.coord) ≡ Some x →
          x.now ≡ Committing m → has (left_of m) j ≡ true → Of hd j → Waited v
      commits_left v x m j does now left to = way_back v (want_of_commit v m j) refl (alone j to)
          (left_so.commits n (let p = q.here in let y = p.parts in y.coord) v x m j of its_coord does now left)

-- ---- a call and an include

-- nobody has begun to wait but this action, for what is asked
abbrev pub Acts : Uid → Doing → Coord → Did Coord → Type 0
Acts u b c did = Moves 0 b.now u c did.part did.outs

going : (u : Uid) (b : Doing) (c e : Coord) (s : Steps) (last : ℕ) → s.req ≡ last + 1 → actor s.path ≡ u →
    ((w : Uid) → doing_of w e ≡ doing_of w c) → Acts u b c (goes_on s e)
going u b c e s last is who same =
    let m : Moves 0 b.now u e (goes_on (record s { req = last + 1 }) e).part (goes_on (record s { req = last + 1 }) e).outs =
    call_steps 0 b.now u (record s { req = last }) (calls.On s.at) e who in
    let n : Moves 0 b.now u e (goes_on s e).part (goes_on s e).outs =
    subst (λ r. Moves 0 b.now u e (goes_on (record s { req = r }) e).part (goes_on (record s { req = r }) e).outs) (sym is) m in
    record { others = λ w q other does. sym (same w) ∙ n.others w q other does; own = n.own }

pub called : (br : Branch) (x : ℕ) (o : Op) (b : Doing) (c : Coord) → Acts (actor br.path) b c (asking_of.call br.path x o c)
called br x o b c = going (actor br.path) b c
    (on_root (root_of br.path) (with_keeping x (asking_of.renewed (is_free (root_of br.path) (actor br.path) x c)
    (keeping_of x (root_at (root_of br.path) c)) (let k = keeping_of x (root_at (root_of br.path) c) in k.kept)))
    (record c { tree = uses_object br.path x c.tree }))
    (asking_of.call_steps br.path x o (asking_of.next_req (actor br.path) c) (root_at (root_of br.path) c) c
    (asking_of.renewed (is_free (root_of br.path) (actor br.path) x c) (keeping_of x (root_at (root_of br.path) c))
    (let k = keeping_of x (root_at (root_of br.path) c) in k.kept)))
    (asking_of.last_req (doing_of (actor br.path) c)) refl refl (λ w. refl)

pub included : (br : Branch) (x s : ℕ) (b : Doing) (c : Coord) → Acts (actor br.path) b c (asking_of.include br.path x s c)
included br x s b c = going (actor br.path) b c (record c { tree = uses_object br.path x c.tree })
    (calls.start br.path x (Include s) None unbound (asking_of.next_req (actor br.path) c))
    (asking_of.last_req (doing_of (actor br.path) c)) refl refl (λ w. refl)

-- ---- a commit

-- an action that ends
ends : (u : Uid) (e : End) (b : Doing) (c : Coord) (outs : List Effect) → Moves 0 b.now u c (ended u e c) outs
ends u e b c outs = record {
  others = λ w q other is. sym (end_work u e c w) ∙ ⊎_elim (λ same. absurd (other same.0)) (λ old. old.1)
      (on_cases u f (record c { tree = ended_at u e c.tree }) w q is);
  own = λ q is. ⊎_elim (λ same. subst (Goes 0 b.now outs u) (ap (λ (d : Doing). d.now) same.3) tt) (λ old. absurd (old.0 refl))
      (on_cases u f (record c { tree = ended_at u e c.tree }) u q is);
}
  where
    f : Doing → Doing
    f d = record d { now = Idle }

-- lines before it
behind : (u : Uid) (b : Doing) (c : Coord) (lines : List Effect) (did : Did Coord) → Acts u b c did →
    Acts u b c (record { part = did.part; outs = lines ++ did.outs })
behind u b c lines did m = record { others = m.others; own = λ q is. by q.now (m.own q is) }
  where
    more : (w : Want) → AsksIn did.outs w → AsksIn (lines ++ did.outs) w
    more w a = record { message = a.message; sent = in_right (Send w.node a.message) lines did.outs a.sent; asks = a.asks }

    by : (n : Now) → Goes 0 b.now did.outs u n → Goes 0 b.now (lines ++ did.outs) u n
    by Idle g = tt
    by (Calling s) g = more (want_of_call u s) g
    by (Committing k) g = λ n left. ⊎_elim (λ a. inl (more (want_of_commit u k n) a)) (λ was. inr was) (g n left)

confirms : (now : Now) (u : Uid) (used : List Used) (p : Plan) → actor p.path ≡ u → Fits 0 now u (commit.begin_confirm used p)
confirms now u [] p who = who
confirms now u (x ∷ xs) p who = who

prepares : (now : Now) (u : Uid) (targets : List ℕ) (p : Plan) → actor p.path ≡ u → Fits 0 now u (commit.begin_prepare targets p)
prepares now u [] p who = confirms now u p.used p who
prepares now u (n ∷ ns) p who = who

votes : (now : Now) (u : Uid) (servers : List ℕ) (p : Plan) → actor p.path ≡ u → Fits 0 now u (commit.begin_vote servers p)
votes now u [] p who = prepares now u (commit.targets_of p) p who
votes now u (n ∷ ns) p who = who

top_commits : (path : Path) (intents : List (Uid × Intent)) (b : Doing) (c : Coord) → Acts (actor path) b c
    (asking_of.commit_top path intents c)
top_commits path intents b c = behind (actor path) b c (says (actor path) body.Committing c)
    (asking_of.moved_commit (actor path) (commit.start (plan_for path (asking_of.last_req (doing_of (actor path) c)) (root_at
    (root_of path) c) c)) intents c)
    (commit_moves 0 b.now (actor path)
    (commit.start (plan_for path (asking_of.last_req (doing_of (actor path) c)) (root_at (root_of path) c) c)) intents c
    (votes b.now (actor path) (commit.servers_of (plan_for path (asking_of.last_req (doing_of (actor path) c)) (root_at
    (root_of path) c) c))
    (plan_for path (asking_of.last_req (doing_of (actor path) c)) (root_at (root_of path) c) c) refl))

pub committed : (br : Branch) (intents : List (Uid × Intent)) (b : Doing) (c : Coord) → Acts (actor br.path) b c
    (asking_of.commit_action br intents c)
committed br intents b c = by br.doomed br.kind
  where
    open_one : (k : Kind) → Acts (actor br.path) b c (asking_of.commit_open br intents c k)
    open_one kind.Nested = ends (actor br.path) ending.Commit b c (ends_with (actor br.path) ending.Commit body.Committed intents c).outs
    open_one kind.Serial = ends (actor br.path) ending.Commit b c (ends_with (actor br.path) ending.Commit body.Ended intents c).outs
    open_one kind.Top = top_commits br.path intents b c
    open_one kind.Constituent = top_commits br.path intents b c
    open_one kind.Independent = top_commits br.path intents b c

    by : (d : Bool) (k : Kind) →
        Acts (actor br.path) b c (cond d (aborts_with (actor br.path) cause.Doomed intents c) (asking_of.commit_open br intents c k))
    by true k = ends (actor br.path) ending.Abort b c (aborts_with (actor br.path) cause.Doomed intents c).outs
    by false k = open_one k
