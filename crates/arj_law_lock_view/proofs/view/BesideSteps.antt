-- What is seen beside a server stays so, and a server beside the rest.
use Rattle.arj_law_parts.proofs.Words
use Words.{◌≤◌, ◌∙◌, ◌*◌, ℕ, List, [], Option, Some, None, sym, ap, subst, inl, inr, arith, Binding, Op, Uid, top_of, At, AtActivate}
use Words.{AtBind, AtInvoke, AtLoad, AtNote, Known, Steps, Confirming, Machine, Plan, Preparing, Voting, Coord, Keeping, Root, keeping_of}
use Words.{kept_of, root_at, Named, at_number, at_uid, binding_number, Tree, root_of}
use Rattle.arj_law_lock_view.proofs.Terms
use Terms.{Act, In, root, Ballot, Call, Include, State, Acts, Codes, state_code, SeesWhole, Place, SeesNamed, IsCounted, SeesMachine}
use Terms.{SeesPlan, SeesVotes, least_inc, HasHeard, SeesCoord, SeesKeeping, SeesRoot, SeesStep, invoke_of, SeesObject, last_of}
use Terms.machine
use Rattle.arj_law_lock_view.proofs.view.{LeftSteps.object_sent, LeftSteps.shows_later, RootSteps.knows_later}
use Rattle.arj_law_lock_view.specs.view
use view.{Plans.IsIncluded}
use view.Beside.{NamedStaysSeen, OtherServersStaySeen, ServersStaySeen, WholesStaySeen}

-- ---- servers and votes change, and more is sent

module _ (S : State) (servers : ℕ → machine.Server) (yes : Act → ℕ) (vote : Act →
    Ballot) (net : List machine.Message) (sent : (z : machine.Message) → In z S.net → In z net) where
  abbrev T : State
  T = record S { server = servers; yes = yes; vote = vote; net = net }

  keeping_beside : (unit : ℕ) (o : Option Known) (avoid : Binding) → SeesKeeping unit o avoid S → SeesKeeping unit o avoid T
  keeping_beside unit None avoid s = s
  keeping_beside unit (Some k) avoid s = record {
    kept = s.kept;
    server = s.server;
    named = s.named;
    unnamed = s.unnamed;
    recorded = λ is. (let r = s.recorded is in (knows_later S T (binding_number k.binding) sent r.0, r.1));
  }

  heard_beside : (m : Act) (b : ℕ) → HasHeard m b S → HasHeard m b T
  heard_beside m b (inl i) = inl (sent (machine.Live m b) i)
  heard_beside m b (inr i) = inr (sent (machine.Made m b) i)

  root_beside : (act : Acts) (x : ℕ) (u : Uid) (r : Root) (t : Tree) → SeesRoot act x u r t S → SeesRoot act x u r t T
  root_beside act x u r t s = record {
    keeping = keeping_beside (root (act u)) (kept_of x r) (let k = keeping_of x r in k.avoid) s.keeping;
    spent = s.spent;
    said = λ z there of. (let q = s.said z there of in
        record { branch = q.branch; there = q.there; path = q.path; of = q.of; call = q.call; called = q.called; by = q.by });
    calls = s.calls;
    heard = λ g b there of named. heard_beside (act g.top) (binding_number b) (s.heard g b there of named);
  }

  step_beside : (act : Acts) (code : Codes) (s : Steps) (o : Op) (kp : Keeping) (a : At) → SeesStep act code s o kp S a →
      SeesStep act code s o kp T a
  step_beside act code s o kp (AtBind avoid) h = h
  step_beside act code s o kp (AtLoad k n rest) h =
      (h.0, (sent (machine.Made (act (top_of s.path)) (binding_number k.binding)) h.1.0, h.1.1))
  step_beside act code s o kp (AtActivate k st) h = (
    h.0,
    (sent (machine.Made (act (top_of s.path)) (binding_number k.binding)) h.1.0, h.1.1),
    sent (machine.Activate (binding_number k.binding) (state_code act code st)) h.2,
  )
  step_beside act code s o kp (AtNote k i) h =
      (h.0, (sent (machine.Made (act (top_of s.path)) (binding_number k.binding)) h.1.0, h.1.1), h.2)
  step_beside act code s o kp (AtInvoke k i) h = (h.0, h.1, h.2, sent (machine.Invoke (invoke_of act s o k)) h.3)

  coord_beside : (act : Acts) (code : Codes) (x : ℕ) (c : Coord) → SeesCoord act code x c S → SeesCoord act code x c T
  coord_beside act code x c s = record {
    actions = s.actions;
    roots = λ u b found own. root_beside act x u (root_at u c) c.tree (s.roots u b found own);
    calls = λ u d st o works calling about goal.
        step_beside act code st o (keeping_of x (root_at (root_of st.path) c)) st.at (s.calls u d st o works calling about goal);
    plain = s.plain;
  }

  -- ---- a commit under way, and includes

  counted_back : (m : Act) (k : Call) → IsCounted m k T → IsCounted m k S
  counted_back m k h = record { there = h.there; alive = h.alive; covered = h.covered }

  included_back : (m : Act) (k : Include) → IsIncluded m k T → IsIncluded m k S
  included_back m k h = record { there = h.there; alive = h.alive; covered = h.covered }

  plan_beside : (x : ℕ) (m : Act) (p : Plan) → SeesPlan x m p S → SeesPlan x m p T
  plan_beside x m p s = record {
    top = s.top;
    begun = s.begun;
    calls = λ k h. s.calls k (counted_back m k h);
    includes = λ k h. s.includes k (included_back m k h);
    below = λ q k there of h. s.below q k there of (counted_back m k h);
    granted = λ q k there of h. s.granted q k there of (included_back m k h);
  }

  module _ (raised : (a : Act) → S.yes a ≤ yes a) where
    votes_beside : (x : ℕ) (m : Act) (p : Plan) (left : List ℕ) → SeesVotes x m p left S → SeesVotes x m p left T
    votes_beside x m p left s = record {
      asked = λ q there of called. (let h = s.asked q there of called in
          (h.0, sent (machine.Vote m (binding_number q.binding) (least_inc p q.server)) h.1));
      given = λ q there of called off. (let h = s.given q there of called off in let r = raised m in omega (arith, h, r));
    }

    machine_beside : (x : ℕ) (m : Act) (k : Machine) → SeesMachine x m k S → SeesMachine x m k T
    machine_beside x m (Voting p left) s = (plan_beside x m p s.0, votes_beside x m p left s.1)
    machine_beside x m (Preparing p left) s = (plan_beside x m p s.0, votes_beside x m p [] s.1)
    machine_beside x m (Confirming p) s =
        (plan_beside x m p s.0, λ q there of. sent (machine.Confirm m (q.grant * 4294967296)) (s.1 q there of))

    whole_beside : (act : Acts) (code : Codes) (x : ℕ) (c : Coord) → SeesWhole act code x c S → SeesWhole act code x c T
    whole_beside act code x c s = record {
      coord = coord_beside act code x c s.coord;
      includes = (let i = s.includes in record {
        lines = i.lines;
        joins = i.joins;
        waits = λ u d st k works calling loads. (let g = i.waits u d st k works calling loads in
            record { sent = sent (machine.Granted (act (top_of st.path)) (k.grant * 4294967296)) g.sent; noted = g.noted });
      });
      commits = λ u d k works committing. machine_beside x (act u) k (s.commits u d k works committing);
      units = s.units;
    }

  named_beside : (act : Acts) (x : ℕ) (n : Place) (o : Named) → SeesNamed act x n o S → SeesNamed act x n o T
  named_beside act x n o s = record {
    rows = s.rows;
    bound = s.bound;
    first = s.first;
    recorded = s.recorded;
    unrecorded = s.unrecorded;
    known = λ b is. sent (machine.Recorded (binding_number b)) (s.known b is);
    live = λ l is. (let k = s.live l is in record { server = k.server; named = k.named; incarnation = k.incarnation });
    made = λ t m is. (let k = s.made t m is in record {
      last = k.last;
      server = k.server;
      maker = k.maker;
      sent = sent (machine.Made (act t) (binding_number m.binding)) k.sent;
      noted = λ yes_noted. sent (machine.Recorded (binding_number m.binding)) (k.noted yes_noted);
    });
    asked = s.asked;
    making = s.making;
  }

pub wholes_stay_seen : WholesStaySeen
wholes_stay_seen v m act code x c S T only sees =
    subst (SeesWhole act code x c) (sym only.rest) (whole_beside S T.server T.yes T.vote T.net only.sent only.raised act code x c sees)

pub named_stays_seen : NamedStaysSeen
named_stays_seen v m act x n o S T only sees =
    subst (SeesNamed act x n o) (sym only.rest) (named_beside S T.server T.yes T.vote T.net only.sent act x n o sees)

-- ---- a server beside the rest

pub servers_stay_seen : ServersStaySeen
servers_stay_seen v s S T same sent sees = record {
  incarnation = ap (λ (m : machine.Server). m.incarnation) same ∙ sees.incarnation;
  object = subst (λ (m : machine.Server). SeesObject v.family.act v.code v.x s.inc (at_number v.x s.objects) m T) (sym same)
      (object_sent v.family.act v.code v.x s.inc (at_number v.x s.objects) (S.server v.node) S T sent sees.object);
  latest =
      λ u fresh. subst (λ (m : machine.Server). m.request (v.family.act u) ≤ last_of (at_uid u s.kept)) (sym same) (sees.latest u fresh);
  kept = λ u k w found wanted. shows_later v.family.act v.code u k.req w S T sent k.answer (sees.kept u k w found wanted);
  voted = λ u fresh off. ap (λ (m : machine.Server). m.voted (v.family.act u)) same ∙ sees.voted u fresh off;
}

pub other_servers_stay_seen : OtherServersStaySeen
other_servers_stay_seen v w m s S T other only sees = servers_stay_seen w s S T (only.others w.node other) only.sent sees
