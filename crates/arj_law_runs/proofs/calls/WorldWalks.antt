-- A node's effects, walked through one by one, leave what holds of calls and votes.
use Rattle.arj_law_parts.proofs.Words
use Words.{◌≡◌, ◌⊎◌, ◌≤◌, ◌<◌, ◌==◌, ℕ, List, [], ◌∷◌, Bool, true, false, cond, Option, Some, None, refl, sym, ◌∙◌, ap, subst, inl, inr}
use Words.{⊎_elim, arith, nat_lt, and_parts, eqb-true, Uid, Ask, Asked, Head, Message, ObjectState, asks, uids_of, Reply, actor, answers}
use Words.{asked_by, Steps, next_ask, Machine, plan_of, Committing, Coord, Doing, doing_of, Copy, Over, After, Disk, Do, Effect, Say, Send}
use Words.{Stop, stopped, worked, Parts, at_number, Server, Node, Branch, branch_of, is_own, Post, Seen}
use Words.list
use Words.body
use Words.voted
use Rattle.arj_law_runs.proofs.Terms
use Terms.{Action, IsAsking, IsBusy, IsGoodCoord, Paths, Seals, doing_by, In, at, posted, said, up, Up, Walks, Call, IsAsked, IsRefused}
use Terms.{IsSaidToCommit, call_in, call_of, refusal_of, IsOfStep, IsVotedIn, IsWaiting, KnowsCalls, head_of, AreOneCall, IsPast, IsRefusal}
use Terms.{IsSource, IsSoUp, Since, KnowsNode, KnowsWorld, vote_by, vote_of}
use Rattle.arj_law_runs.proofs.calls
use calls.CoordSends.{SendsSo, asked_call, call_bare, call_head, more_known}
use calls.ServerCalls.{never, some_is}
use Rattle.arj_law_runs.proofs.kept.Walked.{other_number, same_number}

-- ---- one message more

asked_more : (p : Post) (sent : List Post) (from to : ℕ) (k : Call) → IsAsked sent from to k → IsAsked (p ∷ sent) from to k
asked_more p sent from to k a = record { message = a.message; posted = inr a.posted; call = a.call }

commit_more : (p : Post) (sent : List Post) (u : Uid) → IsSaidToCommit sent u → IsSaidToCommit (p ∷ sent) u
commit_more p sent u s = record { post = s.post; posted = inr s.posted; said = s.said }

refusal_more : (p : Post) (sent : List Post) (n : ℕ) (m : Node) (a : Asked) → IsRefusal sent n m a → IsRefusal (p ∷ sent) n m a
refusal_more p sent n m a r =
    record { call = r.call; from = r.from; asked = asked_more p sent r.from n r.call r.asked; same = r.same; past = r.past }

-- a source, where the message doesn't refuse its call
source_more : (p : Post) (sent : List Post) (n : ℕ) (s : Server) (x : ℕ) (c : Copy) (us : List Uid) (o : IsSource sent n s x c.binding us) →
    (p.from ≡ n → refusal_of p.message ≡ Some (asked_by (let k = o.call in k.head)) → ⊥) → IsSource (p ∷ sent) n s x c.binding us
source_more p sent n s x c us o clear = record {
  call = o.call;
  from = o.from;
  asked = asked_more p sent o.from n o.call o.asked;
  object = o.object;
  bound = o.bound;
  inc = o.inc;
  writing = o.writing;
  rest = o.rest;
  path = o.path;
  committed = λ w on. commit_more p sent w (o.committed w on);
  done = o.done;
  unrefused = λ r. by r r.posted;
}
  where
    by : (r : IsRefused (p ∷ sent) n (asked_by (let k = o.call in k.head))) →
        In (record { from = n; to = r.to; message = r.message }) (p ∷ sent) → ⊥
    by r (inr old) = o.unrefused (record { to = r.to; message = r.message; posted = old; refusal = r.refusal })
    by r (inl same) = clear (ap (λ (z : Post). z.from) same) (ap (λ (z : Post). refusal_of z.message) same ∙ r.refusal)

-- what is refused is so, or is by this message
refused_cases : (p : Post) (sent : List Post) (n : ℕ) (a : Asked) → IsRefused (p ∷ sent) n a →
    IsRefused sent n a ⊎ ((p.from ≡ n) × (refusal_of p.message ≡ Some a))
refused_cases p sent n a r = by r.posted
  where
    by : In (record { from = n; to = r.to; message = r.message }) (p ∷ sent) →
        IsRefused sent n a ⊎ ((p.from ≡ n) × (refusal_of p.message ≡ Some a))
    by (inr old) = inl (record { to = r.to; message = r.message; posted = old; refusal = r.refusal })
    by (inl same) = inr (ap (λ (z : Post). z.from) same, ap (λ (z : Post). refusal_of z.message) same ∙ r.refusal)

-- what a Yes votes fits the plan that waits at a coordinator
abbrev pub VoteFits : List Post → ℕ → Message → Coord → Type 0
VoteFits sent from m c = (a : Asked) (states : List ObjectState) → vote_of m ≡ Some (a, states) → (d : Doing) (q : Machine) →
    doing_of a.act c ≡ Some d → d.now ≡ Committing q → (s : ObjectState) → list.In s states → IsVotedIn sent c (plan_of q) s.uid.num from

voted_is : (m : Message) (a : Asked) (states : List ObjectState) → answers m ≡ Some (a, Reply.Voted (voted.Yes states)) →
    vote_of m ≡ Some (a, states)
voted_is m a states is = ap vote_by is

-- who waits for a call asks by its action's path
waiting_path : (acts : List Action) (paths : Paths) (e : Coord) → IsGoodCoord acts paths e → (to : ℕ) (k : Call) → IsWaiting e to k →
    (b : Branch) → branch_of (actor (let h = k.head in h.path)) e.tree ≡ Some b → uids_of b.path ≡ uids_of (let h = k.head in h.path)
waiting_path acts paths e good to k w b found =
    let A = actor (let h = k.head in h.path) in
    let a : IsAsking e.tree A (let s = w.step in s.path) = subst (IsBusy e.tree A) w.now (good.busy A w.doing w.found) in
    ap (λ (z : Branch). uids_of z.path) (some_is (sym found ∙ a.found)) ∙ ap uids_of a.path
    ∙ ap (λ (h : Head). uids_of h.path) (sym (call_head (head_of w.step) _ k w.call))

-- ---- another node

module _ (acts : List Action) (paths : Paths) where
  other_more : (p : Post) (sent : List Post) (j : ℕ) (n : Node) → (p.from ≡ j → ⊥) →
      ((t : Parts) → n.live ≡ Some t → IsGoodCoord acts paths t.coord × (t.coord.tree.node ≡ j)) → (p.to ≡ j → (t : Parts) →
      n.live ≡ Some t → VoteFits sent p.from p.message t.coord) → KnowsNode paths sent j n → KnowsNode paths (p ∷ sent) j n
  other_more p sent j n other good fits k = record {
    coord = λ t up. let g = good t up in more_known acts paths sent t.coord g.0 (k.coord t up) p
        (λ h a from is own. absurd (other (from ∙ g.1))) (λ to a states is d m found now s i.
        fits (to ∙ g.1) t up a states (voted_is p.message a states is) d m found now s i) (waiting_path acts paths t.coord g.0);
    server = λ t up x c e at i. source_more p sent j t.server x c e.holder (k.server t up x c e at i) (λ from is. absurd (other from));
    keys = k.keys;
    refusals =
        λ a r. ⊎_elim (λ old. refusal_more p sent j n a (k.refusals a old)) (λ new. absurd (other new.0)) (refused_cases p sent j a r);
    past = λ q h a i from is. ⊎_elim (λ same. absurd (other (ap (λ (z : Post). z.from) same ∙ from))) (λ old. k.past q h a old from is) i;
  }

  -- ---- the node itself

  -- what it sends: requests of what waits; refusals of calls that won't be run, and of none that it wrote by; votes that fit
  pub record IsFine (sent : List Post) (k : ℕ) (n : Node) (v : Parts) (to : ℕ) (m : Message) : Type 0 where
    pub so : SendsSo v.coord (Send to m)
    pub refusal : (a : Asked) → refusal_of m ≡ Some a → IsRefusal sent k n a
    pub clear : (a : Asked) → refusal_of m ≡ Some a → (x : ℕ) (c : Copy) (e : Over) → at_number x v.server.objects ≡ Some c →
        list.In e c.stack → (o : IsSource sent k v.server x c.binding e.holder) → asked_by (let z = o.call in z.head) ≡ a → ⊥
    pub vote : (a : Asked) (states : List ObjectState) → vote_of m ≡ Some (a, states) →
        (p : Post) × In p sent × (p.from ≡ to) × Seals p.message a.act
    pub fits : to ≡ k → VoteFits sent k m v.coord

  own_more : (to : ℕ) (m : Message) (sent : List Post) (k : ℕ) (n : Node) (v : Parts) → n.live ≡ Some v → IsGoodCoord acts paths v.coord →
      v.coord.tree.node ≡ k → v.coord.tree.inc ≡ n.disk.inc → IsFine sent k n v to m → KnowsNode paths sent k n →
      KnowsNode paths (record { from = k; to = to; message = m } ∷ sent) k n
  own_more to m sent k n v up good node inc fine knows = record {
    coord = λ t is. let same : v ≡ t = some_is (sym up ∙ is) in subst (λ (z : Parts). KnowsCalls paths (p ∷ sent) z.coord) same (more_known
        acts paths sent v.coord good (knows.coord v up) p (λ h a from is own. fine.so h a is) (λ at a states is d q found now s i.
        fine.fits (at ∙ node) a states (voted_is m a states is) d q found now s i) (waiting_path acts paths v.coord good));
    server = λ t is x c e at i. let same : v ≡ t = some_is (sym up ∙ is) in
        let at_v : at_number x v.server.objects ≡ Some c = ap (λ (z : Parts). at_number x z.server.objects) same ∙ at in subst
        (λ (z : Parts). IsSource (p ∷ sent) k z.server x c.binding e.holder) same (let o = knows.server v up x c e at_v i in source_more p
        sent k v.server x c e.holder o (λ from its. fine.clear (asked_by (let z = o.call in z.head)) its x c e at_v i o refl));
    keys = knows.keys;
    refusals = λ a r. ⊎_elim (λ old. refusal_more p sent k n a (knows.refusals a old))
        (λ new. refusal_more p sent k n a (fine.refusal a new.1)) (refused_cases p sent k a r);
    past = λ q h a i from is. ⊎_elim (λ same. by h a (ap (λ (z : Post). asks z.message) same ∙ is)) (λ old. knows.past q h a old from is) i;
  }
    where
      p : Post
      p = record { from = k; to = to; message = m }

      number : (i j : ℕ) → i ≡ j → i ≤ j
      number i j is = omega (arith, is)

      by : (h : Head) (a : Ask) → asks m ≡ Some (h, a) → (let u = actor h.path in u.inc) ≤ n.disk.inc
      by h a is = let s = fine.so h a is in let o = doing_by (actor h.path) v.coord s.doing s.found in
          number (actor h.path).inc n.disk.inc (eqb-true (actor h.path).inc v.coord.tree.inc
          (and_parts ((actor h.path).node == v.coord.tree.node) ((actor h.path).inc == v.coord.tree.inc) o.0).1 ∙ inc)

  -- a request is by an action of the node
  its_node : (k : ℕ) (v : Parts) (to : ℕ) (m : Message) → v.coord.tree.node ≡ k → SendsSo v.coord (Send to m) → (h : Head) (a : Ask) →
      asks m ≡ Some (h, a) → (actor h.path).node ≡ k
  its_node k v to m node so h a is = let s = so h a is in let o = doing_by (actor h.path) v.coord s.doing s.found in
      eqb-true (actor h.path).node v.coord.tree.node
      (and_parts ((actor h.path).node == v.coord.tree.node) ((actor h.path).inc == v.coord.tree.inc) o.0).0 ∙ node

  -- ---- a call once more

  same_call : (k e : Call) → k ≡ e → (k.x ≡ e.x) × (k.binding ≡ e.binding) × (k.inc ≡ e.inc) × (k.op ≡ e.op)
  same_call k e is = (ap (λ (z : Call). z.x) is, ap (λ (z : Call). z.binding) is, ap (λ (z : Call). z.inc) is, ap (λ (z : Call). z.op) is)

  -- a call that is sent is that of the step that waits, and so is every one by its request
  module _ (sent : List Post) (k : ℕ) (v : Parts) (knows : KnowsCalls paths sent v.coord) (node : v.coord.tree.node ≡ k) (senders :
      (p : Post) (h : Head) (a : Ask) → In p sent → asks p.message ≡ Some (h, a) → (let u = actor h.path in u.node) ≡ p.from) where
    of_step : (to : ℕ) (m : Message) (from2 to2 : ℕ) (c e : Call) → SendsSo v.coord (Send to m) → call_of m ≡ Some c →
        IsAsked sent from2 to2 e → asked_by c.head ≡ asked_by e.head → c ≡ e
    of_step to m from2 to2 c e so is asked same =
        let q = asked_call m c is in
        let s = so (let z = c in z.head) q.0 q.1 in
        let z = s.call c q.2 in
        let one = s.step z.0 z.1 in
        let r = asked_call asked.message e asked.call in
        let A = actor (let h = c.head in h.path) in
        let who : A ≡ actor (let h = e.head in h.path) = ap (λ (y : Asked). y.act) same in
        let own = (doing_by A v.coord s.doing s.found).0 in
        let from_is : from2 ≡ v.coord.tree.node = sym (senders (record { from = from2; to = to2; message = asked.message }) (let y = e in
        y.head) r.0 asked.posted r.1) ∙ ap (λ (y : Uid). y.node) (sym who)
        ∙ eqb-true A.node v.coord.tree.node (and_parts (A.node == v.coord.tree.node) (A.inc == v.coord.tree.inc) own).0 in
        let f = knows.counted (record { from = from2; to = to2; message = asked.message }) (let y = e in
        y.head) r.0 asked.posted from_is r.1 (ap (λ y. is_own y v.coord.tree) (sym who) ∙ own) in
        let works : s.doing ≡ f.doing = some_is (sym s.found ∙ ap (λ y. doing_of y v.coord) who ∙ f.found) in
        let two = f.last z.0 (ap (λ (y : Doing). y.now) (sym works) ∙ z.1)
        (ap (λ (y : Asked). y.req) (sym same) ∙ s.last ∙ ap (λ (y : Doing). y.req) works) in
        some_is (sym (call_at c q.0 z.0 one q.2) ∙ call_at e r.0 z.0 two r.2)
      where
        call_at : (g : Call) (b : Ask) (s : Steps) {t : ℕ} → IsOfStep s t g.head b → call_in g.head b ≡ Some g →
            call_in (head_of s) (next_ask [] s) ≡ Some g
        call_at g b s f is = (λ i. call_in (sym f.head i) (sym f.same i)) ∙ call_bare (let y = g in y.head) b ∙ is

  -- with one message more, calls by one request are one
  one_more : (sent : List Post) (k : ℕ) (v : Parts) (to : ℕ) (m : Message) → KnowsCalls paths
      (record { from = k; to = to; message = m } ∷ sent) v.coord → v.coord.tree.node ≡ k → ((p : Post) (h : Head) (a : Ask) →
      In p (record { from = k; to = to; message = m } ∷ sent) → asks p.message ≡ Some (h, a) → (let u = actor h.path in u.node) ≡ p.from) →
      SendsSo v.coord (Send to m) → AreOneCall sent → AreOneCall (record { from = k; to = to; message = m } ∷ sent)
  one_more sent k v to m knows node senders so one from from2 to1 to2 c e a b same = by a.posted b.posted
    where
      p : Post
      p = record { from = k; to = to; message = m }

      by : In (record { from = from; to = to1; message = a.message }) (p ∷ sent) →
          In (record { from = from2; to = to2; message = b.message }) (p ∷ sent) →
          (c.x ≡ e.x) × (c.binding ≡ e.binding) × (c.inc ≡ e.inc) × (c.op ≡ e.op)
      by (inr old) (inr older) = one from from2 to1 to2 c e (record { message = a.message; posted = old; call = a.call })
          (record { message = b.message; posted = older; call = b.call }) same
      by (inl new) r = same_call c e
          (of_step (p ∷ sent) k v knows node senders to m from2 to2 c e so (ap (λ (z : Post). call_of z.message) new ∙ a.call) b same)
      by (inr old) (inl new) = let f = same_call e c (of_step (p ∷ sent) k v knows node senders to m from to1 e c so
          (ap (λ (z : Post). call_of z.message) new ∙ b.call) a (sym same)) in (sym f.0, sym f.1, sym f.2, sym f.3)

-- ---- a walk

-- what holds of all nodes but one, and of the messages
pub record Around (paths : Paths) (k : ℕ) (M : Seen) : Type 0 where
  pub apart : (0 == k) ≡ false
  pub none : M.nodes 0 ≡ None
  pub one : AreOneCall M.sent
  pub senders : (p : Post) (h : Head) (a : Ask) → In p M.sent → asks p.message ≡ Some (h, a) → (let u = actor h.path in u.node) ≡ p.from
  pub votes : (p : Post) (a : Asked) (states : List ObjectState) → In p M.sent → vote_of p.message ≡ Some (a, states) →
      (v : Post) × In v M.sent × (v.from ≡ p.to) × Seals v.message a.act
  pub nodes : (j : ℕ) (n : Node) → (j ≡ k → ⊥) → M.nodes j ≡ Some n → KnowsNode paths M.sent j n

-- the coordinators of the others
abbrev pub GoodAround : List Action → Paths → ℕ → Seen → Type 0
GoodAround acts paths k M = (j : ℕ) (n : Node) → (j ≡ k → ⊥) → M.nodes j ≡ Some n → (t : Parts) → n.live ≡ Some t →
    IsGoodCoord acts paths t.coord × (t.coord.tree.node ≡ j)

module _ (acts : List Action) (paths : Paths) (k : ℕ) where
  pub around_of : (d : Disk) (live : Option Parts) (M : Seen) → KnowsWorld paths (at k d live M) → Around paths k M
  around_of d live M w = record {
    apart = off;
    none = zero_is w.none;
    one = w.one;
    senders = w.senders;
    votes = w.votes;
    nodes = λ j n other is.
        w.nodes j n ((λ i. cond (other_number j k other i) (Some (record { number = k; disk = d; live = live })) (M.nodes j)) ∙ is);
  }
    where
      off : (0 == k) ≡ false
      off = by (0 == k) refl w.none
        where
          by : (b : Bool) → (0 == k) ≡ b → cond b (Some (record { number = k; disk = d; live = live })) (M.nodes 0) ≡ None → b ≡ false
          by true e h = let no_way : ◌≡◌ {A = Option Node} (Some (record { number = k; disk = d; live = live })) None = h in cc
          by false e h = refl

      zero_is : cond (0 == k) (Some (record { number = k; disk = d; live = live })) (M.nodes 0) ≡ None → M.nodes 0 ≡ None
      zero_is h = sym (λ i. cond (off i) (Some (record { number = k; disk = d; live = live })) (M.nodes 0)) ∙ h

  pub own_of : (d : Disk) (live : Option Parts) (M : Seen) → KnowsWorld paths (at k d live M) →
      KnowsNode paths M.sent k (record { number = k; disk = d; live = live })
  own_of d live M w = w.nodes k (record { number = k; disk = d; live = live })
      (λ i. cond (same_number k i) (Some (record { number = k; disk = d; live = live })) (M.nodes k))

  pub whole_of : (d : Disk) (live : Option Parts) (M : Seen) → Around paths k M →
      KnowsNode paths M.sent k (record { number = k; disk = d; live = live }) → KnowsWorld paths (at k d live M)
  whole_of d live M o mine = record {
    none = (λ i. cond (o.apart i) (Some (record { number = k; disk = d; live = live })) (M.nodes 0)) ∙ o.none;
    one = o.one;
    senders = o.senders;
    votes = o.votes;
    nodes = λ j n is. by j n (j == k) refl is;
  }
    where
      by : (j : ℕ) (n : Node) (b : Bool) → (j == k) ≡ b →
          cond b (Some (record { number = k; disk = d; live = live })) (M.nodes j) ≡ Some n → KnowsNode paths M.sent j n
      by j n true at_k is =
          subst (λ z. KnowsNode paths M.sent z n) (sym (eqb-true j k at_k)) (subst (KnowsNode paths M.sent k) (some_is is) mine)
      by j n false off is = o.nodes j n (λ same. never (ap (λ z. z == k) same ∙ same_number k) off) is

  -- the node down, in this incarnation or a later one
  pub down_from : (sent : List Post) (n m : Node) → m.live ≡ None → n.disk.inc ≤ m.disk.inc → KnowsNode paths sent k n →
      KnowsNode paths sent k m
  down_from sent n m off le knows = record {
    coord = λ t up. absurd (cc (sym off ∙ up));
    server = λ t up. absurd (cc (sym off ∙ up));
    keys = λ t up. absurd (cc (sym off ∙ up));
    refusals = λ a r. let f = knows.refusals a r in
        record { call = f.call; from = f.from; asked = f.asked; same = f.same; past = since f.call f.past };
    past = λ p h a i from is. number (actor h.path).inc n.disk.inc m.disk.inc (knows.past p h a i from is) le;
  }
    where
      number : (i j l : ℕ) → i ≤ j → j ≤ l → i ≤ l
      number i j l a b = omega (arith, a, b)

      less : (i j l : ℕ) → i < j → j ≤ l → i < l
      less i j l a b = omega (arith, a, b)

      either_way : (i j : ℕ) → i ≤ j → (i < j) ⊎ (i ≡ j)
      either_way i j le = by (nat_lt i j) refl
        where
          by : (b : Bool) → nat_lt i j ≡ b → (i < j) ⊎ (i ≡ j)
          by true e = inl (grind (arith, e))
          by false e = inr (grind (arith, e, le))

      here : (c : Call) → IsSoUp (IsPast c) m.live
      here c = subst (IsSoUp (IsPast c)) (sym off) tt

      since : (c : Call) → Since c.inc (IsPast c) n → Since c.inc (IsPast c) m
      since c (inl later) = inl (less c.inc n.disk.inc m.disk.inc later le)
      since c (inr f) = ⊎_elim (λ (l : n.disk.inc < m.disk.inc). inl (subst (λ z. z < m.disk.inc) (sym f.0) l))
          (λ same. inr (f.0 ∙ same, here c)) (either_way n.disk.inc m.disk.inc le)

  -- a node that is down, with one message more that it sent
  low_more : (to : ℕ) (m : Message) (sent : List Post) (n low : Node) (v : Parts) → low.live ≡ None → n.live ≡ Some v →
      v.coord.tree.inc ≡ n.disk.inc → IsFine acts paths sent k n v to m → (refusal_of m ≡ None) ⊎ (low.disk.inc ≡ n.disk.inc) →
      ((h : Head) (a : Ask) → asks m ≡ Some (h, a) → (actor h.path).inc ≤ low.disk.inc) → KnowsNode paths sent k low →
      KnowsNode paths (record { from = k; to = to; message = m } ∷ sent) k low
  low_more to m sent n low v off up inc fine level past knows = record {
    coord = λ t is. absurd (cc (sym off ∙ is));
    server = λ t is. absurd (cc (sym off ∙ is));
    keys = λ t is. absurd (cc (sym off ∙ is));
    refusals = λ a r. ⊎_elim (λ old. refusal_more p sent k low a (knows.refusals a old))
        (λ new. refusal_more p sent k low a (refused a new.1 level)) (refused_cases p sent k a r);
    past =
        λ q h a i from is. ⊎_elim (λ same. past h a (ap (λ (z : Post). asks z.message) same ∙ is)) (λ old. knows.past q h a old from is) i;
  }
    where
      p : Post
      p = record { from = k; to = to; message = m }

      here : (c : Call) → IsSoUp (IsPast c) low.live
      here c = subst (IsSoUp (IsPast c)) (sym off) tt

      since : low.disk.inc ≡ n.disk.inc → (c : Call) → Since c.inc (IsPast c) n → Since c.inc (IsPast c) low
      since same c (inl later) = inl (subst (λ z. c.inc < z) (sym same) later)
      since same c (inr f) = inr (f.0 ∙ sym same, here c)

      refused : (a : Asked) → refusal_of m ≡ Some a → (refusal_of m ≡ None) ⊎ (low.disk.inc ≡ n.disk.inc) → IsRefusal sent k low a
      refused a is (inl none) = absurd (cc (sym none ∙ is))
      refused a is (inr same) = let f = fine.refusal a is in
          record { call = f.call; from = f.from; asked = f.asked; same = f.same; past = since same f.call f.past }

  -- ---- effects, one by one

  abbrev pub AllFine : Node → Parts → (ℕ → Option Node) → List Effect → List Post → Disk → Type 0
  AllFine n v nodes [] sent d = d.inc ≡ n.disk.inc
  AllFine n v nodes (Say b ∷ es) sent d = AllFine n v nodes es sent d
  AllFine n v nodes (Do w ∷ es) sent d = ((how : Stop) → d.inc ≤ (stopped how w d).inc) × AllFine n v nodes es sent (worked w d)
  AllFine n v nodes (Send to m ∷ es) sent d = (IsFine acts paths sent k n v to m × ((refusal_of m ≡ None) ⊎ (d.inc ≡ n.disk.inc))
      × ((h : Head) (a : Ask) → asks m ≡ Some (h, a) → (actor h.path).inc ≤ d.inc) × ((j : Node) → (to ≡ k → ⊥) → nodes to ≡ Some j → (t :
      Parts) → j.live ≡ Some t → VoteFits sent k m t.coord)) × AllFine n v nodes es (record { from = k; to = to; message = m } ∷ sent) d

  module _ (e : ℕ) (n : Node) (v : Parts) (up : n.live ≡ Some v) (good : IsGoodCoord acts paths v.coord) (node : v.coord.tree.node ≡ k)
      (inc : v.coord.tree.inc ≡ n.disk.inc) where
    -- one message more, all around
    around_more : (to : ℕ) (m : Message) (M : Seen) → GoodAround acts paths k M → IsFine acts paths M.sent k n v to m →
        ((j : Node) → (to ≡ k → ⊥) → M.nodes to ≡ Some j → (t : Parts) → j.live ≡ Some t → VoteFits M.sent k m t.coord) →
        KnowsNode paths (record { from = k; to = to; message = m } ∷ M.sent) k n → Around paths k M →
        Around paths k (posted (record { from = k; to = to; message = m }) M)
    around_more to m M goods fine fits own o = record {
      apart = o.apart;
      none = o.none;
      one = one_more acts paths M.sent k v to m (own.coord v up) node senders fine.so o.one;
      senders = senders;
      votes = λ q a states i is. ⊎_elim (λ same. let f = fine.vote a states (ap (λ (z : Post). vote_of z.message) same ∙ is) in
          (f.0, inr f.1, f.2 ∙ ap (λ (z : Post). z.to) same, f.3)) (λ old. let f = o.votes q a states old is in (f.0, inr f.1, f.2, f.3)) i;
      nodes = λ j x other is. other_more acts paths p M.sent j x (λ same. other (sym same)) (λ t at. goods j x other is t at)
          (λ to_j t at. fits x (λ to_k. other (sym to_j ∙ to_k)) (ap M.nodes to_j ∙ is) t at) (o.nodes j x other is);
    }
      where
        p : Post
        p = record { from = k; to = to; message = m }

        senders : (q : Post) (h : Head) (a : Ask) → In q (record { from = k; to = to; message = m } ∷ M.sent) →
            asks q.message ≡ Some (h, a) → (let u = actor h.path in u.node) ≡ q.from
        senders q h a (inl same) is =
            its_node acts paths k v to m node fine.so h a (ap (λ (z : Post). asks z.message) same ∙ is) ∙ ap (λ (z : Post). z.from) same
        senders q h a (inr old) is = o.senders q h a old is

    pub world_walk : (es : List Effect) (d : Disk) (M : Seen) → GoodAround acts paths k M → Around paths k M → KnowsNode paths M.sent k n →
        KnowsNode paths M.sent k (record { number = k; disk = d; live = None }) → AllFine n v M.nodes es M.sent d →
        Walks (KnowsWorld paths) e k es (Up (KnowsWorld paths) k v) d M
    world_walk [] d M goods o own low fine = whole_of d (Some v) M o (same_node own)
      where
        same_node : KnowsNode paths M.sent k n → KnowsNode paths M.sent k (record { number = k; disk = d; live = Some v })
        same_node w = record {
          coord = λ t is. w.coord t (up ∙ is);
          server = λ t is. w.server t (up ∙ is);
          keys = λ t is. w.keys t (up ∙ is);
          refusals = λ a r. let f = w.refusals a r in
              record { call = f.call; from = f.from; asked = f.asked; same = f.same; past = since f.call f.past };
          past = λ p h a i from is. subst (λ z. (actor h.path).inc ≤ z) (sym fine) (w.past p h a i from is);
        }
          where
            since : (c : Call) → Since c.inc (IsPast c) n → Since c.inc (IsPast c) (record { number = k; disk = d; live = Some v })
            since c (inl later) = inl (subst (λ z. c.inc < z) (sym fine) later)
            since c (inr f) = inr (f.0 ∙ sym fine, subst (IsSoUp (IsPast c)) up f.1)
    world_walk (Do w ∷ es) d M goods o own low fine = (
      λ how. quietly (whole_of (stopped how w d) None M o (down_from M.sent (record { number = k; disk = d; live = None })
          (record { number = k; disk = stopped how w d; live = None }) refl (fine.0 how) low)),
      world_walk es (worked w d) M goods o own (down_from M.sent (record { number = k; disk = d; live = None })
          (record { number = k; disk = worked w d; live = None }) refl (fine.0 After) low) fine.1,
    )
      where
        quietly : {N : Seen} → KnowsWorld paths N → KnowsWorld paths (said e (body.Halted k ∷ []) N)
        quietly w = record { none = w.none; one = w.one; senders = w.senders; votes = w.votes; nodes = w.nodes }
    world_walk (Say b ∷ es) d M goods o own low fine = world_walk es d (said e (b ∷ []) M) goods
        (record { apart = o.apart; none = o.none; one = o.one; senders = o.senders; votes = o.votes; nodes = o.nodes }) own low fine
    world_walk (Send to m ∷ es) d M goods o own low fine = λ more quiet.
        let f = fine.0 in
        let mine = own_more acts paths to m M.sent k n v up good node inc f.0 own in
        let all = around_more to m M goods f.0 f.3 mine o in
        world_walk es d (said e more (posted (record { from = k; to = to; message = m }) M)) goods
        (record { apart = all.apart; none = all.none; one = all.one; senders = all.senders; votes = all.votes; nodes = all.nodes }) mine
        (low_more to m M.sent n (record { number = k; disk = d; live = None }) v refl up inc f.0 f.1 f.2 low) fine.1
