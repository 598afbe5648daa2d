-- Whoever had something prepared by a request has ended at its coordinator, or is at its commit: in every run.
use Rattle.arj_law_parts.proofs.Words
use Words.{◌≡◌, ◌≤◌, ◌==◌, ◌∙◌, arith, ℕ, true, false, List, Option, Some, None, refl, sym, ap, inr, ⊎_elim, eqb-true, ⊤, is_some}
use Words.{and_parts, Ask, Head, Kind, Label, Message, Uid, asks, actor, again_all, begin_action, heard, Steps, Calling, Committing, Coord}
use Words.{Idle, Now, Send, acked, acts, parent_of, is_own, Post}
use Rattle.arj_law_promise.proofs.Terms
use Terms.{paths_of, GoesOn, IsSettled, begun_tree, on_own, well_acked, well_acts, well_again, well_heard, IsSentBy, SendsSo, IsKeptBy}
use Terms.{Sender, Place, AskersAreSettled, preparer}
use Rattle.arj_law_parts.proofs.parts.TrueSteps.{claim_begins}
use Rattle.arj_law_promise.proofs.settling.Asked.{bare_same, step_plain}

none_is : {P : Type 0} {o : Option Uid} → o ≡ None → is_some o ≡ true → P
none_is none is = let no_way : false ≡ true = sym (ap (λ (q : Option Uid). is_some q) none) ∙ is in absurd (cc no_way)

-- who sends such a request is at its commit
sent_settled : (c : Coord) (to : ℕ) (h : Head) (a : Ask) → IsSentBy c to h a → is_some (preparer h a) ≡ true → IsSettled (actor h.path) c
sent_settled c to h a s is = by s.doing.now refl
  where
    step : (z : Steps) → s.doing.now ≡ Calling z → IsSettled (actor h.path) c
    step z now = let f = s.step z now in none_is (bare_same h a ∙ ap (preparer h) f.same ∙ step_plain z.x z.goal h z.at) is

    by : (n : Now) → s.doing.now ≡ n → IsSettled (actor h.path) c
    by Idle now = absurd (s.busy now)
    by (Calling z) now = step z now
    by (Committing m) now = inr (s.doing, m, s.found, now)

settled_on : (sent : List Post) (k : ℕ) (c e : Coord) → GoesOn c e → AskersAreSettled sent k c → AskersAreSettled sent k e
settled_on sent k c e on so p h a there from is for own =
    on.settled (actor h.path) (so p h a there from is for (sym (on.own (actor h.path)) ∙ own))

pub askers_kept : IsKeptBy (λ sent. ⊤) (λ s c. AskersAreSettled s.sent s.node c)
askers_kept = record {
  none = tt;
  new = λ s inc telling fresh p h a there from is for own. absurd (fresh p h a there is (actor h.path) (on_own h.path) own);
  apart = λ s c p other so q h a there from is for own.
      ⊎_elim (λ same. absurd (other (ap (λ (z : Post). z.from) same ∙ from))) (λ old. so q h a old from is for own) there;
  sends = λ s c to m stands sends all so. (
    tt,
    λ q h a there from is for own. ⊎_elim (λ same. mine s c to m sends q h a same is for) (λ old. so q h a old from is for own) there,
  );
  hears = λ s c place from a r intents posted fits meant so. settled_on s.sent s.node c (heard from a r intents c).part
      (well_heard place.actions (paths_of place.actions) (begun_tree place.actions place.begun) from a r intents c place.good).0 so;
  acks = λ s c place from u intents so. settled_on s.sent s.node c (acked from u intents c).part
      (well_acked place.actions (paths_of place.actions) (begun_tree place.actions place.begun) from u intents c).0 so;
  does = λ s c place intents hd i free other so. settled_on s.sent s.node c (acts i intents c).part (well_acts place.actions (paths_of
      place.actions) (begun_tree place.actions place.begun) intents c place.good (let f = place.faithful in f.works) hd i free other).0 so;
  begins = λ s c place l how parent so p h a there from is for own.
      begun_settled s c place l how parent (actor h.path) (so p h a there from is for) own;
  asks = λ s c place so. settled_on s.sent s.node c (again_all c.doings c).part
      (well_again place.actions (paths_of place.actions) (begun_tree place.actions place.begun) c place.good).0 so;
}
  where
    begun_settled : (s : Sender) (c : Coord) → Place s.sent s.node c → (l : Label) (how : Kind) (parent : Option Label) (u : Uid) → (is_own
        u c.tree ≡ true → IsSettled u c) → is_own u c.tree ≡ true → IsSettled u (begin_action l how parent (parent_of parent c) c).part
    begun_settled s c place l how parent u so own = (claim_begins l how parent c u
        (eqb-true u.node (let t = c.tree in t.node) (parts own).0, so, late (eqb-true u.inc (let t = c.tree in t.inc) (parts own).1))).1 own
      where
        parts : is_own u c.tree ≡ true → ((u.node == (let t = c.tree in t.node)) ≡ true) × ((u.inc == (let t = c.tree in t.inc)) ≡ true)
        parts own = and_parts (u.node == (let t = c.tree in t.node)) (u.inc == (let t = c.tree in t.inc)) own

        late : {i j : ℕ} → i ≡ j → i ≤ j
        late same = omega (arith, same)

    mine : (s : Sender) (c : Coord) (to : ℕ) (m : Message) → SendsSo c (Send to m) → (q : Post) (h : Head) (a : Ask) →
        record { from = s.node; to = to; message = m } ≡ q → asks q.message ≡ Some (h, a) → is_some (preparer h a) ≡ true →
        IsSettled (actor h.path) c
    mine s c to m sends q h a same asking for = sent_settled c to h a (sends h a (ap (λ (z : Post). asks z.message) same ∙ asking)) for
