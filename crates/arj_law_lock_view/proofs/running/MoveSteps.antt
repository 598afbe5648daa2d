-- What is seen of a node stays where a server or naming does something, and where another node stops.
use Rattle.arj_law_parts.proofs.Words
use Words.{◌≡◌, ◌≤◌, ◌∙◌, ◌==◌, ◌+◌, ◌*◌, ◌<◌, eqb-true, ℕ, true, false, Option, Some, None, sym, ap, subst, is_some, Message, Uid}
use Words.{first_uid, top_of, Coord, Disk, Naming, Parts, Tree}
use Rattle.arj_law_lock_view.proofs.Terms
use Terms.{Act, root, Run, State, OnlyActed, AreAlike, IsReached, SeesNothing, OnlyNaming, OnlyServing, SeesNamingIn, OnlyEnded, SeesWhole}
use Terms.{HaveFirsts, place_of, HasStopped, IsUnitOf, OnlyStopped, Sees, View, AreHome, SeesDown, SeesMemory, SeesUp}
use Terms.machine as state
use Rattle.arj_law_lock_view.proofs.running.OtherSteps.{past_on, records_on}
use Rattle.arj_law_lock_view.proofs.view
use view.{EverSteps.ever, StopSteps.stops_stay}
use view.BesideSteps.{named_stays_seen, other_servers_stay_seen, servers_stay_seen, wholes_stay_seen}
use view.OutsideSteps.{ends_elsewhere, naming_elsewhere, stops_elsewhere}

-- a function of actions that is as it was
ends_same : (S T : State) → T.action ≡ S.action → (a : Act) → 3 ≤ (S.action a).stage → T.action a ≡ S.action a
ends_same S T same a ended = ap (λ (g : Act → state.Action). g a) same

pub nothing_on : (inc : ℕ) (S T : State) → T.naming ≡ S.naming → SeesNothing inc S → SeesNothing inc T
nothing_on inc S T same s = record {
  bound = subst (λ (n : state.Naming). n.bound ≤ (inc + 1) * 4294967296) (sym same) s.bound;
  first = subst (λ (n : state.Naming). n.first ≤ (inc + 1) * 4294967296) (sym same) s.first;
  recorded = subst (λ (n : state.Naming). n.recorded < (inc + 1) * 4294967296) (sym same) s.recorded;
  empty = subst (λ (n : state.Naming). (a : Act) → (n.rows a ≡ 0) × (n.asked a ≡ false)) (sym same) s.empty;
  nobody = subst (λ (n : state.Naming). (a : Act) → (n.told a ≡ false) × (n.confirmed a ≡ false)) (sym same) s.nobody;
  made = subst (λ (n : state.Naming). (m : Act) → n.made m < n.first) (sym same) s.made;
}

-- ---- where only memory and machine are at stake

-- a node that is up is seen, where its parts are
pub up_on : (v : View) (S T : State) (d : Disk) (t : Parts) → ((a : Act) → 3 ≤ (S.action a).stage → T.action a ≡ S.action a) →
    Sees v t.server T → SeesWhole v.family.act v.code v.x t.coord T → SeesNamingIn v T t.naming → SeesUp v S d t → SeesUp v T d t
up_on v S T d t ends server coord naming s = record {
  server = server;
  coord = coord;
  naming = naming;
  inc = s.inc;
  place = s.place;
  home = s.home;
  past = past_on S T ends v t.coord.tree s.past;
  records = records_on S T ends v None d.intents s.records;
}

pub down_on : (v : View) (S T : State) (d : Disk) → ((a : Act) → 3 ≤ (S.action a).stage → T.action a ≡ S.action a) →
    T.server v.node ≡ S.server v.node → (v.node ≡ 1 → SeesNothing d.inc T) →
    ((s : SeesDown v S d) → HasStopped v.family.act s.tree s.last T) → SeesDown v S d → SeesDown v T d
down_on v S T d ends server naming stopped s = record {
  server = (let o = s.server in record { last = o.last; low = o.low; empty = server ∙ o.empty });
  naming = naming;
  tree = s.tree;
  last = s.last;
  stopped = stopped s;
  decided = s.decided;
  home = s.home;
  past = past_on S T ends v s.tree s.past;
  records = records_on S T ends v s.last d.intents s.records;
}

-- ---- a server takes a message

module _ (v : View) (m : Message) (S T : State) (only : OnlyServing v m S T) where
  pub action_is : T.action ≡ S.action
  action_is = ap (λ (s : State). s.action) only.rest

  pub naming_is : T.naming ≡ S.naming
  naming_is = ap (λ (s : State). s.naming) only.rest

  pub naming_serving : (w : View) (o : Option Naming) → SeesNamingIn w S o → SeesNamingIn w T o
  naming_serving w None s = tt
  naming_serving w (Some n) s = record {
    named = s.named;
    there = s.there;
    seen = named_stays_seen v m w.family.act w.x (place_of n) s.named S T only s.seen;
    told = λ p topped free. subst (λ (k : state.Naming). k.told (w.family.act (top_of p)) ≡ false) (sym naming_is) (s.told p topped free);
    confirmed = λ u is. s.confirmed u (subst (λ (k : state.Naming). k.confirmed (w.family.act u) ≡ true) naming_is is);
    firsts =
        subst (λ (k : state.Naming). HaveFirsts w.family.act n.confirmed k.confirmed (let q = s.named in q.rows)) (sym naming_is) s.firsts;
  }

  pub coord_serving : (w : View) (c : Coord) → SeesWhole w.family.act w.code w.x c S → SeesWhole w.family.act w.code w.x c T
  coord_serving w c s = wholes_stay_seen v m w.family.act w.code w.x c S T only s

  pub memory_serving : (w : View) (d : Disk) (live : Option Parts) → (w.node ≡ v.node → ⊥) → SeesMemory w S d live → SeesMemory w T d live
  memory_serving w d None other s =
      down_on w S T d (ends_same S T action_is) (only.others w.node other) (λ one. nothing_on d.inc S T naming_is (s.naming one))
      (λ z. stops_stay w.family.act z.tree z.last S T (λ a its. ap (λ (g : Act → state.Action). g a) action_is) z.stopped) s
  memory_serving w d (Some t) other s = up_on w S T d t (ends_same S T action_is) (other_servers_stay_seen v w m t.server S T other only
      s.server) (coord_serving w t.coord s.coord) (naming_serving w t.naming s.naming) s

-- ---- naming does something

module _ (S T : State) (reached : IsReached S) (run : Run S T) (only : OnlyNaming S T) where
  pub action_named : T.action ≡ S.action
  action_named = ap (λ (s : State). s.action) only.rest

  pub server_named : T.server ≡ S.server
  server_named = ap (λ (s : State). s.server) only.rest

  pub sees_named : (w : View) (t : Parts) → Sees w t.server S → Sees w t.server T
  sees_named w t s = servers_stay_seen w t.server S T (ap (λ (g : ℕ → state.Server). g w.node) server_named) only.sent s

  pub coord_named : (w : View) (c : Coord) → SeesWhole w.family.act w.code w.x c S → SeesWhole w.family.act w.code w.x c T
  coord_named w c s = naming_elsewhere w.family.act w.code w.x c S T reached run only s

  -- naming stands at node 1 alone
  no_naming : (w : View) (o : Option Naming) → (w.node ≡ 1 → ⊥) → is_some o ≡ (w.node == 1) → SeesNamingIn w T o
  no_naming w None other place = tt
  no_naming w (Some n) other place = absurd (not_one w.node other (sym place))
    where
      not_one : (k : ℕ) → (k ≡ 1 → ⊥) → (k == 1) ≡ true → ⊥
      not_one k never is = never (eqb-true k 1 is)

  pub memory_named : (w : View) (d : Disk) (live : Option Parts) → (w.node ≡ 1 → ⊥) → SeesMemory w S d live → SeesMemory w T d live
  memory_named w d None other s =
      down_on w S T d (ends_same S T action_named) (ap (λ (g : ℕ → state.Server). g w.node) server_named) (λ one. absurd (other one))
      (λ z. stops_stay w.family.act z.tree z.last S T (λ a its. ap (λ (g : Act → state.Action). g a) action_named) z.stopped) s
  memory_named w d (Some t) other s = up_on w S T d t (ends_same S T action_named) (sees_named w t s.server) (coord_named w t.coord s.coord)
      (no_naming w t.naming other s.place) s

-- ---- another node stops

-- the object at naming where only actions change
module _ (S : State) (A : Act → state.Action) (line : ℕ) where
  abbrev After : State
  After = record S { action = A; now = line }

  naming_after : (w : View) (o : Option Naming) → SeesNamingIn w S o → SeesNamingIn w After o
  naming_after w None s = tt
  naming_after w (Some n) s = (let o = s.seen in record {
    named = s.named;
    there = s.there;
    seen = record {
      rows = o.rows;
      bound = o.bound;
      first = o.first;
      recorded = o.recorded;
      unrecorded = o.unrecorded;
      known = o.known;
      live = λ l is. (let k = o.live l is in record { server = k.server; named = k.named; incarnation = k.incarnation });
      made =
          λ t m is. (let k = o.made t m is in record { last = k.last; server = k.server; maker = k.maker; sent = k.sent; noted = k.noted });
      asked = o.asked;
      making = o.making;
    };
    told = s.told;
    confirmed = s.confirmed;
    firsts = s.firsts;
  })

module _ (S T : State) (reached : IsReached S) (run : Run S T) (v : View) (t : Tree) (alike : AreAlike v.family.act v.family.paths)
    (home : AreHome v t) (only : OnlyStopped v.family.act t S T) where
  naming_stopped : T.naming ≡ S.naming
  naming_stopped = ap (λ (s : State). s.naming) only.rest

  server_stopped : T.server ≡ S.server
  server_stopped = ap (λ (s : State). s.server) only.rest

  -- no unit of the tree is one of another node's
  apart : (k : ℕ) → (k ≡ v.node → ⊥) → (u : Uid) → (let r = first_uid (v.family.paths u) in r.node) ≡ k →
      IsUnitOf v.family.act t (root (v.family.act u)) → ⊥
  apart k other u there (w, b, found, same) = other (sym there ∙ ap (λ (r : Uid). r.node) (alike.units u w same) ∙ home w b found)

  pub memory_stopped : (k : ℕ) (d : Disk) (live : Option Parts) → (k ≡ v.node → ⊥) → SeesMemory (record v { node = k }) S d live →
      SeesMemory (record v { node = k }) T d live
  memory_stopped k d None other s = down_on (record v { node = k }) S T d only.ended (ap (λ (g : ℕ → state.Server). g k) server_stopped)
      (λ one. nothing_on d.inc S T naming_stopped (s.naming one))
      (λ z. stops_stay v.family.act z.tree z.last S T (λ a (u, b, found, same).
      only.others a (λ its. apart k other u (z.home u b found) (subst (IsUnitOf v.family.act t) same its))) z.stopped) s
  memory_stopped k d (Some p) other s = up_on (record v { node = k }) S T d p only.ended
      (servers_stay_seen (record v { node = k }) p.server S T (ap (λ (g : ℕ → state.Server). g k) server_stopped)
      (let e = ever reached run in e.sent) s.server)
      (stops_elsewhere v.family.act v.code v.x t p.coord S T reached run (λ u b found. apart k other u (s.home u b found)) only s.coord)
      (subst (λ (z : State). SeesNamingIn (record v { node = k }) z p.naming) (sym only.rest)
      (naming_after S T.action S.now (record v { node = k }) p.naming s.naming)) s

-- of the node itself, server and naming are seen as they were
module _ (S T : State) (reached : IsReached S) (run : Run S T) (v : View) (t : Tree) (only : OnlyStopped v.family.act t S T) where
  pub up_stopped : (d : Disk) (p : Parts) → SeesUp v S d p → Sees v p.server T × SeesNamingIn v T p.naming
  up_stopped d p s = (
    servers_stay_seen v p.server S T (ap (λ (z : State). z.server v.node) only.rest) (let e = ever reached run in e.sent) s.server,
    subst (λ (z : State). SeesNamingIn v z p.naming) (sym only.rest) (naming_after S T.action S.now v p.naming s.naming),
  )

-- ---- a top of another node has its line

module _ (S T : State) (reached : IsReached S) (run : Run S T) (v : View) (w : Uid) (alike : AreAlike v.family.act v.family.paths)
    (home : (let r = first_uid (v.family.paths w) in r.node) ≡ v.node) (only : OnlyActed (root (v.family.act w)) S T) where
  away : (k : ℕ) → (k ≡ v.node → ⊥) → (u : Uid) → (let r = first_uid (v.family.paths u) in r.node) ≡ k →
      root (v.family.act u) ≡ root (v.family.act w) → ⊥
  away k other u there same = other (sym there ∙ ap (λ (r : Uid). r.node) (alike.units u w same) ∙ home)

  only_ended : OnlyEnded (root (v.family.act w)) S T
  only_ended = record {
    rest = only.rest ∙ (λ i. record S { action = T.action; now = T.now; net = sym (ap (λ (s : State). s.net) only.rest) i });
    others = only.others;
    ended = only.ended;
  }

  pub memory_acted : (k : ℕ) (d : Disk) (live : Option Parts) → (k ≡ v.node → ⊥) → SeesMemory (record v { node = k }) S d live →
      SeesMemory (record v { node = k }) T d live
  memory_acted k d None other s = down_on (record v { node = k }) S T d only.ended (ap (λ (z : State). z.server k) only.rest)
      (λ one. nothing_on d.inc S T (ap (λ (z : State). z.naming) only.rest) (s.naming one))
      (λ z. stops_stay v.family.act z.tree z.last S T
      (λ a (u, b, found, same). only.others a (λ its. away k other u (z.home u b found) (sym same ∙ its))) z.stopped) s
  memory_acted k d (Some p) other s = up_on (record v { node = k }) S T d p only.ended
      (servers_stay_seen (record v { node = k }) p.server S T (ap (λ (z : State). z.server k) only.rest) (let e = ever reached run in
      e.sent) s.server)
      (ends_elsewhere v.family.act v.code v.x (root (v.family.act w)) p.coord S T reached run
      (λ u b found. away k other u (s.home u b found)) only_ended s.coord)
      (subst (λ (z : State). SeesNamingIn (record v { node = k }) z p.naming) (sym only.rest)
      (naming_after S T.action T.now (record v { node = k }) p.naming s.naming)) s
