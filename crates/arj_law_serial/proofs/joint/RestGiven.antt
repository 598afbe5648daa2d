-- Where both machines stand in one run, the commit of a top with a surviving write was recorded.
use Rattle.arj_law_parts.proofs.Words
use Words.{◌≡◌, ◌==◌, ◌&&◌, eqb-true, ℕ, true, List, [], Some, refl, sym, ◌∙◌, ap, and_parts, Asked, Message, Reply, answers, ask_kind}
use Words.{reply_kind, AtLoad, next_ask, next_node, node_at, Seen}
use Rattle.arj_law_serial.proofs.Terms
use Terms.{Values, Action, In, Office, Kinds, node_here, State, Spot, world_at, StandsFor, Fixed, case_of, KnowsFew, KnowsWhole, GivesRest}
use Terms.{IsPaired, SeesRecorded, AreLoadsLast, AwaitsLoad}
use Rattle.arj_law_lock_view.specs.running.Answers.{GivesLast}
use Rattle.arj_law_serial.proofs.joint.DecidedTops.{machine_decided}

-- what a store gave to a call that waits for it is the last committed state
module _ (f : Fixed) (x : ℕ) (begun : List Action) (S : State) (s : Spot) (last : AreLoadsLast f x S (world_at s)) (from : ℕ) (m : Message)
    (a : Asked) (r : Reply) (there : In (record { from = from; to = s.node; message = m }) (let M = s.seen in M.sent))
    (is : answers m ≡ Some (a, r)) where
  pub last_beside : GivesLast (case_of f x begun S) s from a r
  last_beside d w k n rest o st found now about goal at reply waits =
      (last (record { from = from; to = s.node; message = m }) a st k there (is ∙ ap (λ (z : Reply). Some (a, z)) reply) awaits).2
    where
      parts : ((w.req == a.req) ≡ true) × (((reply_kind r == ask_kind (next_ask [] w)) && (next_node w == from)) ≡ true)
      parts = and_parts (w.req == a.req) ((reply_kind r == ask_kind (next_ask [] w)) && (next_node w == from)) waits

      store : n ≡ from
      store = ap node_at (sym at)
          ∙ eqb-true (next_node w) from (and_parts (reply_kind r == ask_kind (next_ask [] w)) (next_node w == from) parts.1).1

      awaits : AwaitsLoad x (world_at s) a s.node from k
      awaits = record {
        node = record { number = s.node; disk = s.disk; live = Some s.parts };
        parts = s.parts;
        doing = d;
        steps = w;
        rest = rest;
        op = o;
        here = node_here s.seen s.node (record { number = s.node; disk = s.disk; live = Some s.parts });
        number = refl;
        live = refl;
        found = found;
        now = now;
        about = about;
        goal = goal;
        waits = at ∙ ap (λ (z : ℕ). AtLoad k z rest) store;
        request = eqb-true w.req a.req parts.0;
      }

-- what is known of the protocol alone, with what is kept beside it
abbrev Known : ℕ → (List Action → Seen → Type 0) → List Action → Seen → Type 0
Known x E begun M = KnowsFew M × (KnowsWhole x begun M × E begun M)

-- so nothing is left to take, beside what is carried with the disk machine's state
pub rest_beside : (values : Values) (x : ℕ) (E : List Action → Seen → Type 0) (P : Kinds → Office → Seen → Type 0) →
    ((tops : Kinds) (A : Office) (M : Seen) → P tops A M → SeesRecorded x tops A M) → (f : Fixed) → StandsFor f (values x) →
    GivesRest f x (λ begun S M. Known x E begun M × IsPaired x P f begun S M)
rest_beside values x E P carries f begins = record {
  recorded = λ begun S M t k n j i q seen here voter three there write survives of.
      let p = q.1 in
      let kept = carries p.0 p.2 M p.4 in
      kept.1 t n here
      (machine_decided f x begun S M seen values begins (let A = p.2 in A.world) kept.0.1.1 p.6 t three k there write of survives);
  loads = record { last = λ begun S s from m a q seen there is. (let p = q.1 in last_beside f x begun S s p.7 from m a.0 a.1 there is) };
}
