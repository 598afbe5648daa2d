-- In every run the last request of each action at work is of what it waits for.
use Rattle.arj_law_parts.proofs.Words
use Words.{◌≡◌, ◌≤◌, ◌∙◌, arith, ℕ, List, Some, refl, sym, ap, subst, ⊎_elim, ⊤, Ask, Head, Message, Uid, asks, actor, again_all}
use Words.{begin_action, heard, Machine, ask_of, plan_of, Calling, Committing, Coord, Doing, Steps, Send, acked, acts, parent_of, is_own}
use Words.{Post}
use Rattle.arj_law_lock_view.proofs.Terms
use Terms.{paths_of, begun_tree, on_own, well_acked, well_acts, well_again, well_heard, IsOfStep, IsSentBy, SendsSo, IsAskedBy}
use Terms.{KnowsRequests}
use Rattle.arj_law_lock_view.proofs.facts
use facts.CoordRuns.{IsKeptBy, Sender, coords_plain}
use facts.Onward.{AsksSame, IsFurther, IsLater, further_acked, further_acts, further_again, further_begins, further_heard}
use Rattle.arj_law_lock_view.specs.facts.Requests.{HandlersKeepRequests}

-- ---- requests that were sent

-- a request that goes out is of what its action waits for
sent_is : (c : Coord) (to : ℕ) (h : Head) (a : Ask) → IsSentBy c to h a → IsAskedBy c to h a
sent_is c to h a s = record {
  doing = s.doing;
  found = s.found;
  low = number h.req (let d = s.doing in d.req) s.last;
  step = λ w now same. s.step w now;
  commit = λ m now same. (let q = s.commit m now in (q.path, q.same));
}
  where
    number : (i j : ℕ) → i ≡ j → i ≤ j
    number i j is = omega (arith, is)

-- as a coordinator goes on
requests_on : (sent : List Post) (k : ℕ) (c e : Coord) → ((u : Uid) → is_own u e.tree ≡ is_own u c.tree) → IsFurther c e →
    KnowsRequests sent k c → KnowsRequests sent k e
requests_on sent k c e own further knows p h a there from is its =
    let q = knows p h a there from is (sym (own (actor h.path)) ∙ its) in
    let g = further (actor h.path) q.doing q.found in
    record {
      doing = g.0;
      found = g.1;
      low = low h.req (let d = q.doing in d.req) (let d = g.0 in d.req) q.low (let l = g.2 in l.low);
      step = λ s now number. step q g.0 g.2 s now number;
      commit = λ m now number. commit q g.0 g.2 m now number;
    }
  where
    low : (i j l : ℕ) → i ≤ j → j ≤ l → i ≤ l
    low i j l a b = omega (arith, a, b)

    -- by the same number
    level : (i j l : ℕ) → i ≤ j → j ≤ l → i ≡ l → (i ≡ j) × (j ≡ l)
    level i j l a b is = (omega (arith, a, b, is), omega (arith, a, b, is))

    step : (q : IsAskedBy c p.to h a) (x : Doing) (later : IsLater q.doing x.req x.now) (s : Steps) → x.now ≡ Calling s → h.req ≡ x.req →
        IsOfStep s p.to h a
    step q x later s now number =
        let n = level h.req (let d = q.doing in d.req) x.req q.low later.low number in
        q.step s (subst (AsksSame (let d = q.doing in d.now)) now (later.same n.1)) n.0

    commit : (q : IsAskedBy c p.to h a) (x : Doing) (later : IsLater q.doing x.req x.now) (m : Machine) → x.now ≡ Committing m →
        h.req ≡ x.req → (h.path ≡ (let y = plan_of m in y.path)) × (a ≡ ask_of m p.to)
    commit q x later m now number =
        let n = level h.req (let d = q.doing in d.req) x.req q.low later.low number in
        let o : AsksSame (let d = q.doing in d.now) (Committing m) = subst (AsksSame (let d = q.doing in d.now)) now (later.same n.1) in
        let w = q.commit o.0 o.1 n.0 in
        (w.0 ∙ sym o.2, w.1 ∙ sym (o.3 p.to))

-- ---- in every run

pub requests_kept : IsKeptBy (λ sent. ⊤) (λ s c. KnowsRequests s.sent s.node c)
requests_kept = record {
  none = tt;
  new = λ s inc telling fresh p h a there from is own. absurd (fresh p h a there is (actor h.path) (on_own h.path) own);
  apart = λ s c p other knows q h a there from is own.
      ⊎_elim (λ same. absurd (other (ap (λ (z : Post). z.from) same ∙ from))) (λ old. knows q h a old from is own) there;
  sends = λ s c to m stands so all knows.
      (tt, λ q h a there from is own. ⊎_elim (λ same. mine s c to m so q h a same is) (λ old. knows q h a old from is own) there);
  hears = λ s c place from a r intents posted fits meant knows. requests_on s.sent s.node c (heard from a r intents c).part (well_heard
      place.actions (paths_of place.actions) (begun_tree place.actions place.begun) from a r intents c place.good).0.own (further_heard c
      place.actions (paths_of place.actions) (begun_tree place.actions place.begun) place.good place.numbered from a r intents) knows;
  acks = λ s c place from u intents knows. requests_on s.sent s.node c (acked from u intents c).part (well_acked place.actions
      (paths_of place.actions) (begun_tree place.actions place.begun) from u intents c).0.own (further_acked c from u intents) knows;
  does = λ s c place intents hd i free other knows.
      requests_on s.sent s.node c (acts i intents c).part (well_acts place.actions (paths_of place.actions)
      (begun_tree place.actions place.begun) intents c place.good (let f = place.faithful in f.works) hd i free other).0.own (further_acts c
      place.actions (paths_of place.actions) (begun_tree place.actions place.begun) place.good place.numbered i intents other) knows;
  begins = λ s c place l how parent knows.
      requests_on s.sent s.node c (begin_action l how parent (parent_of parent c) c).part (λ u. refl) (further_begins c l how parent) knows;
  asks = λ s c place knows. requests_on s.sent s.node c (again_all c.doings c).part (well_again place.actions (paths_of place.actions)
      (begun_tree place.actions place.begun) c place.good).0.own (further_again c c.doings) knows;
}
  where
    mine : (s : Sender) (c : Coord) (to : ℕ) (m : Message) → SendsSo c (Send to m) → (q : Post) (h : Head) (a : Ask) →
        record { from = s.node; to = to; message = m } ≡ q → asks q.message ≡ Some (h, a) → IsAskedBy c q.to h a
    mine s c to m so q h a same asking = subst (λ n. IsAskedBy c n h a) (ap (λ (z : Post). z.to) same)
        (sent_is c to h a (so h a (ap (λ (z : Post). asks z.message) same ∙ asking)))

pub requests_keep : HandlersKeepRequests
requests_keep hd = coords_plain (λ s c. KnowsRequests s.sent s.node c) requests_kept hd
