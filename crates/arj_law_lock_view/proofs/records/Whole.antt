-- What a coordinator knows of Records stays so in whatever it hears and does.
use Rattle.arj_law_parts.proofs.Words
use Words.{◌≡◌, ◌≢◌, ◌∙◌, ◌==◌, ◌&&◌, ◌++◌, ℕ, zero, suc, Bool, true, false, cond, slice_get, List, [], ◌∷◌, Option, Some, None, refl, sym}
use Words.{ap, subst, inl, inr, eqb-true, arith, and_parts, uid_is, Ask, Asked, Header, Head, Kind, Label, Message, Uid, first_uid, object}
use Words.{Reply, actor, answers, ask_kind, reply_kind, top_of, again_all, begin_action, heard, waits_for_call, Steps, next_ask, next_node}
use Words.{Coord, Doing, Idle, doing_of, Intent, acked, is_loaded_for, is_loaded_in, reply_is_meant, Input, acts, parent_of, refusal_up}
use Words.{at_place, is_own, next_uid, path_below, Post}
use Words.ask
use Words.loaded
use Words.input
use Rattle.arj_law_lock_view.proofs.Terms
use Terms.{Action, paths_of, IsGoodCoord, Paths, GoesOn, IsSettled, IsNumbered, begun_tree, Stand, stand_acked, stand_acts, stand_again}
use Terms.{stand_heard, doing_by, grown_still, well_acked, well_acts, well_again, well_heard, IsOfStep, bare, AnswersWaiting, some_is}
use Terms.{IsAskedBy, KnowsRequests, AreAnswered, AreFitting, IsAnswer, SaysReply, KnowsRecords, KnowsSent, Tests}
use Rattle.arj_law_lock_view.proofs.facts
use facts.{Kept.Place}
use facts.Pieces.{IsStep, acked_so, acts_so, again_so, heard_so}
use Rattle.arj_law_lock_view.proofs.records
use records.{Kept.Goes, Kept.pieces}
use records.Begins.{begin_kept, call_goes, include_goes, over_kept}
use records.Steps.{IsOf, heard_goes, lost_goes, start}
use records.Works.{AllPlans, plan_begin, plan_call, plan_heard, plan_include, plan_lost, plan_pieces}
use Rattle.arj_law_parts.specs.moves.Seen.{In}

-- trees of one coordinator are of one node
pub node_same : (c e : Coord) → ((w : Uid) → is_own w e.tree ≡ is_own w c.tree) → e.tree.node ≡ c.tree.node
node_same c e own = sym (eqb-true c.tree.node e.tree.node (and_parts (c.tree.node == e.tree.node) (c.tree.inc == e.tree.inc)
    (own (record { node = c.tree.node; inc = c.tree.inc; num = 0 }) ∙ (λ i. same c.tree.node i && same c.tree.inc i))).0)
  where
    same : (n : ℕ) → (n == n) ≡ true
    same n = grind arith

get_on : {A : Type 0} (k : ℕ) (a x : A) (items : List A) → slice_get items k ≡ Some x → slice_get (items ++ a ∷ []) k ≡ Some x
get_on k a x [] is = absurd (cc is)
get_on zero a x (b ∷ items) is = is
get_on (suc k) a x (b ∷ items) is = get_on k a x items is

-- an action begins
pub records_begin : (T : Tests) (sent : List Post) (k : ℕ) (l : Label) (how : Kind) (parent : Option Label) (c : Coord) →
    KnowsRecords T sent k c → KnowsRecords T sent k (begin_action l how parent (parent_of parent c) c).part
records_begin T sent k l how parent c knows =
    record { kept = begin_kept T sent l how parent c knows.kept; plans = plan_begin T sent k l how parent c knows.plans }

pub sent_begin : (sent : List Post) (k : ℕ) (l : Label) (how : Kind) (parent : Option Label) (c : Coord) → KnowsSent sent k c →
    KnowsSent sent k (begin_action l how parent (parent_of parent c) c).part
sent_begin sent k l how parent c knows = record {
  node = knows.node;
  rooted = λ p h x b i g there from is own. let q = knows.rooted p h x b i g there from is own in
      (q.0, grown_still how (path_below how (parent_of parent c) (next_uid c.tree)) c.tree (top_of h.path) q.0 q.1, q.2);
  settled =
      λ p h grants excluded included there from is own. still (actor h.path) (knows.settled p h grants excluded included there from is own);
}
  where
    fresh : Doing
    fresh = record { label = l; req = 0; now = Idle; took = [] }

    place : (b : Bool) (j : ℕ) (d : Doing) → cond b (at_place j c.doings) None ≡ Some d →
        cond b (at_place j (c.doings ++ fresh ∷ [])) None ≡ Some d
    place true zero d at = absurd (cc at)
    place true (suc j) d at = get_on j fresh d c.doings at
    place false j d at = absurd (cc at)

    still : (u : Uid) → IsSettled u c → IsSettled u (begin_action l how parent (parent_of parent c) c).part
    still u (inl o) = inl (o.0, grown_still how (path_below how (parent_of parent c) (next_uid c.tree)) c.tree u o.0 o.1, o.2)
    still u (inr w) = inr (w.0, w.1, place (is_own u c.tree) u.num w.0 w.2, w.3)

-- an answer that was sent was asked for
pub answer_in : (T : Tests) (sent : List Post) → AreAnswered T sent → (p : Post) (a : Asked) (r : Reply) → In p sent →
    answers p.message ≡ Some (a, r) → IsAnswer T sent p a r
answer_in T [] all p a r there is = absurd there
answer_in T (q ∷ sent) all p a r (inl same) is =
    more (subst (λ z. IsAnswer T sent z a r) same (all.0 a r (ap (λ (z : Post). answers z.message) same ∙ is)))
  where
    more : IsAnswer T sent p a r → IsAnswer T (q ∷ sent) p a r
    more z = record {
      post = z.post;
      head = z.head;
      ask = z.ask;
      posted = inr z.posted;
      from = z.from;
      asking = z.asking;
      asker = z.asker;
      so = z.so;
    }
answer_in T (q ∷ sent) all p a r (inr old) is = let z = answer_in T sent all.1 p a r old is in record {
  post = z.post;
  head = z.head;
  ask = z.ask;
  posted = inr z.posted;
  from = z.from;
  asking = z.asking;
  asker = z.asker;
  so = z.so;
}

-- ends and branches stay
pub sent_on : (acts : List Action) (paths : Paths) (sent : List Post) (k : ℕ) (c e : Coord) → IsGoodCoord acts paths c →
    IsGoodCoord acts paths e → GoesOn c e → KnowsSent sent k c → KnowsSent sent k e
sent_on acts paths sent k c e good fine on knows = record {
  node = node_same c e on.own ∙ knows.node;
  rooted = λ p h x b i g there from is own. let q = knows.rooted p h x b i g there from is (sym (on.own (top_of h.path)) ∙ own) in
      let f = on.kinds (top_of h.path) q.0 q.1 in (
        f.0,
        f.1,
        ap first_uid (fine.tree.lists.paths_are (top_of h.path) f.0 f.1 ∙ sym (good.tree.lists.paths_are (top_of h.path) q.0 q.1)) ∙ q.2,
      );
  settled = λ p h grants excluded included there from is own.
      on.settled (actor h.path) (knows.settled p h grants excluded included there from is (sym (on.own (actor h.path)) ∙ own));
}

module _ (T : Tests) (sent : List Post) (k : ℕ) (c : Coord) (place : Place sent k c) (fit : AreFitting T sent)
    (its_sent : KnowsSent sent k c) (knows : KnowsRecords T sent k c) where
  first : Goes c T sent c
  first = start T fit.zero sent k c place knows.kept

  to_known : (e : Coord) → Stand c.tree e.tree → GoesOn c e → Goes c T sent e → AllPlans T sent k e → KnowsRecords T sent k e
  to_known e stand on g plans = record {
    kept = over_kept c e T sent stand.ends (node_same c e on.own) g.stays g.knows;
    plans = plans;
  }

  -- what is said to the step that waits
  module _ (requests : KnowsRequests sent k c) (from : ℕ) (a : Asked) (r : Reply) (message : Message)
      (there : In (record { from = from; to = k; message = message }) sent) (is : answers message ≡ Some (a, r)) (s : Steps)
      (step : IsStep c s) (waits : waits_for_call from a r s ≡ true) (who : actor s.path ≡ a.act) where
    abbrev z : IsAnswer T sent (record { from = from; to = k; message = message }) a r
    z = answer_in T sent fit.answered (record { from = from; to = k; message = message }) a r there is

    act : actor (let h = z.head in h.path) ≡ a.act
    act = ap (λ (q : Asked). q.act) z.asker

    abbrev d : Doing
    d = step.doing

    found : doing_of a.act c ≡ Some d
    found = ap (λ u. doing_of u c) (sym who) ∙ step.found

    by : IsAskedBy c (let q = z.post in q.to) z.head z.ask
    by = requests z.post z.head z.ask z.posted z.from z.asking (ap (λ u. is_own u c.tree) act ∙ (doing_by a.act c d found).0)

    same : d ≡ by.doing
    same = some_is (sym found ∙ ap (λ u. doing_of u c) (sym act) ∙ by.found)

    numbered : s.req ≡ d.req
    numbered = subst (IsNumbered d.req) step.now (place.numbered a.act d found)

    number : (let h = z.head in h.req) ≡ (let w = by.doing in w.req)
    number = ap (λ (q : Asked). q.req) z.asker ∙ sym (eqb-true s.req a.req (and_parts (s.req == a.req)
        ((reply_kind r == ask_kind (next_ask [] s)) && (next_node s == from)) waits).0) ∙ numbered ∙ ap (λ (w : Doing). w.req) same

    of_step : IsOfStep s (let q = z.post in q.to) z.head z.ask
    of_step = by.step s (ap (λ (w : Doing). w.now) (sym same) ∙ step.now) number

    bare_so : (top : Uid) (q : Ask) → SaysReply T top q r → SaysReply T top (bare q) r
    bare_so top (ask.Bind x i avoid) so = so
    bare_so top (ask.Load x) so = so
    bare_so top (ask.Activate b st) so = so
    bare_so top (ask.Record x b i g) so = so
    bare_so top (ask.Invoke x b i ends op) so = so
    bare_so top (ask.Vote i ties ends) so = so
    bare_so top (ask.Prepare states) so = so
    bare_so top (ask.Confirm grants ex inc) so = so

    says : SaysReply T (top_of s.path) (next_ask [] s) r
    says = subst (λ q. SaysReply T (top_of s.path) q r) of_step.same
        (bare_so (top_of s.path) z.ask (subst (λ (h : Head). SaysReply T (top_of h.path) z.ask r) of_step.head z.so))

    of_object : reply_is_meant c a r ≡ true → (q : Reply) → r ≡ q → IsOf s.x q
    of_object meant (Reply.Loaded (loaded.State st)) same_r = ap (λ (u : Uid). u.num) (uid_is st.uid (object s.x)
        (sym (ap (is_loaded_for st) found ∙ ap (is_loaded_in st) step.now) ∙ ap (reply_is_meant c a) (sym same_r) ∙ meant))
    of_object meant (Reply.Loaded (loaded.InDoubt h)) same_r = tt
    of_object meant (Reply.Bound q) same_r = tt
    of_object meant (Reply.Activated q) same_r = tt
    of_object meant (Reply.Noted q) same_r = tt
    of_object meant (Reply.Invoked q) same_r = tt
    of_object meant (Reply.Voted q) same_r = tt
    of_object meant (Reply.Prepared q) same_r = tt
    of_object meant (Reply.Confirmed q) same_r = tt

  pub records_heard : KnowsRequests sent k c → (from : ℕ) (a : Asked) (r : Reply) (intents : List (Uid × Intent)) (m : Message) →
      In (record { from = from; to = k; message = m }) sent → answers m ≡ Some (a, r) → AnswersWaiting from a r c →
      reply_is_meant c a r ≡ true → KnowsRecords T sent k (heard from a r intents c).part
  records_heard requests from a r intents m there is fits meant =
      let e = (heard from a r intents c).part in
      to_known e (stand_heard place.actions (paths_of place.actions) (begun_tree place.actions place.begun) from a r intents c place.good)
      (well_heard place.actions (paths_of place.actions) (begun_tree place.actions place.begun) from a r intents c place.good).0
      (heard_so sent k c place (Goes c T sent) (pieces c T sent first) from a r intents fits
      (λ s step on who. heard_goes T fit.zero sent k c place knows.kept s step.doing step.found step.now step.asking r
      (fits step.doing s (ap (λ v. doing_of v c) (sym who) ∙ step.found) step.now on) (says requests from a r m there is s step on who)
      (of_object requests from a r m there is s step on who meant r refl)))
      (heard_so sent k c place (AllPlans T sent k) (plan_pieces T sent k c place fit.down its_sent knows.kept knows.plans) from a r intents
      fits (λ s step on who. plan_heard T sent k c place fit.down its_sent knows.kept knows.plans s r))

  pub records_acked : (from : ℕ) (u : Uid) (intents : List (Uid × Intent)) → KnowsRecords T sent k (acked from u intents c).part
  records_acked from u intents =
      to_known (acked from u intents c).part (stand_acked place.actions (paths_of place.actions) (begun_tree place.actions place.begun) from
      u intents c) (well_acked place.actions (paths_of place.actions) (begun_tree place.actions place.begun) from u intents c).0
      (acked_so sent k c place (Goes c T sent) (pieces c T sent first) from u intents) (acked_so sent k c place (AllPlans T sent k)
      (plan_pieces T sent k c place fit.down its_sent knows.kept knows.plans) from u intents)

  pub records_acts : (intents : List (Uid × Intent)) (hd : Header) (i : Input) → refusal_up hd i c ≡ None →
      ((l : Label) (how : Kind) (parent : Option Label) → i ≢ input.Begin l how parent) → KnowsRecords T sent k (acts i intents c).part
  records_acts intents hd i none other = to_known (acts i intents c).part (stand_acts place.actions (paths_of place.actions)
      (begun_tree place.actions place.begun) intents c place.good hd i none) (well_acts place.actions (paths_of place.actions)
      (begun_tree place.actions place.begun) intents c place.good (let f = place.faithful in f.works) hd i none other).0
      (acts_so sent k c place (Goes c T sent) (pieces c T sent first) hd i intents none other (λ b x o found free. call_goes T fit.zero sent
      k c place knows.kept hd b x o found free) (λ b x n found free. include_goes T fit.zero sent k c place knows.kept b x n)
      (λ s step. lost_goes T fit.zero sent k c place knows.kept s step.doing step.found step.now step.asking))
      (acts_so sent k c place (AllPlans T sent k) (plan_pieces T sent k c place fit.down its_sent knows.kept knows.plans) hd i intents none
      other (λ b x o found free. plan_call T sent k c place fit.down its_sent knows.kept knows.plans b x o)
      (λ b x n found free. plan_include T sent k c place fit.down its_sent knows.kept knows.plans b x n)
      (λ s step. plan_lost T sent k c place fit.down its_sent knows.kept knows.plans s))

  pub records_again : KnowsRecords T sent k (again_all c.doings c).part
  records_again = to_known (again_all c.doings c).part (stand_again place.actions (paths_of place.actions) (begun_tree place.actions
      place.begun) c.doings c) (well_again place.actions (paths_of place.actions) (begun_tree place.actions place.begun) c place.good).0
      (again_so sent k c place (Goes c T sent) (pieces c T sent first))
      (again_so sent k c place (AllPlans T sent k) (plan_pieces T sent k c place fit.down its_sent knows.kept knows.plans))
