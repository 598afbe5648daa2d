-- Who waits, that new roots are empty, and whose ends are listed, at all coordinators in every run.
use Rattle.arj_law_parts.proofs.Words
use Words.{◌≤◌, ℕ, None, Option, Some, refl, subst, sym, ⊤, IfSome, Ask, BoundReply, Head, actor, Coord, Naming, bind}
use Words.ask
use Rattle.arj_law_lock_view.proofs.Terms.{paths_of, begun_tree, HasNoRoots, KnowsEnds, KnowsWaits, IsFromOne, Said, IsSentBy}
use Rattle.arj_law_lock_view.proofs.facts
use facts.{Fresh.roots_kept, Inner.ends_kept, Waits.waits_kept}
use facts.Kept.{IsGiven, IsKept, answers_so, keeps_so}
use Rattle.arj_law_lock_view.specs.facts.Worlds.{HandlersKeepWorks, KnowsWorks, says_works}
use Rattle.arj_law_runs.proofs.coordinators.RunCoords as coords

-- what is kept without known Binds is kept with them
pub kept_with : (S : Said) (Q : Coord → Type 0) → ((c : Coord) → Q c → (to : ℕ) (h : Head) (a : Ask) → IsSentBy c to h a → S.request h a) →
    coords.IsKept Q → IsKept S Q
kept_with S Q says kept = record {
  says = says;
  new = kept.new;
  hears = λ sent k c place from a r intents fits given q.
      kept.hears place.actions (paths_of place.actions) (begun_tree place.actions place.begun) from a r intents c place.good q;
  acks = λ sent k c place from u intents q. kept.acks from u intents c q;
  does = λ sent k c place intents hd i none other q.
      kept.does place.actions (paths_of place.actions) (begun_tree place.actions place.begun) intents c place.good q hd i none other;
  begins = λ sent k c place l how parent may none q. kept.begins place.actions place.begun (paths_of place.actions)
      (begun_tree place.actions place.begun) l how parent c place.good may none q;
  asks = λ sent k c place q. kept.asks c.doings c q;
}

-- an Invoke that is sent is that of a call which waits
from_one : (c : Coord) → KnowsWaits c → (to : ℕ) (h : Head) (a : Ask) → IsSentBy c to h a → IsFromOne h a
from_one c knows to h (ask.Invoke x b i ends op) sent =
    let s = sent.call (record { head = h; x = x; binding = b; inc = i; op = op }) refl in
    let f = sent.step s.0 s.1 in
    subst (λ (z : Head). 1 ≤ z.req) (sym f.head) (knows.asks (actor h.path) sent.doing s.0 sent.found s.1)
from_one c knows to h (ask.Bind x include avoid) sent = tt
from_one c knows to h (ask.Load x) sent = tt
from_one c knows to h (ask.Activate b st) sent = tt
from_one c knows to h (ask.Record x b i g) sent = tt
from_one c knows to h (ask.Vote i ties ends) sent = tt
from_one c knows to h (ask.Prepare states) sent = tt
from_one c knows to h (ask.Confirm grants excluded included) sent = tt

pub works_kept : (R : BoundReply → Type 0) → IsKept (record { request = IsFromOne; answer = R }) KnowsWorks
works_kept R = record {
  says = λ c q to h a sent. from_one c q.waits to h a sent;
  new = λ node inc telling. record { waits = w.new node inc telling; roots = r.new node inc telling; ends = e.new node inc telling };
  hears = λ sent k c place from a x intents fits given q. record {
    waits = w.hears sent k c place from a x intents fits given q.waits;
    roots = r.hears sent k c place from a x intents fits given q.roots;
    ends = e.hears sent k c place from a x intents fits given q.ends;
  };
  acks = λ sent k c place from u intents q. record {
    waits = w.acks sent k c place from u intents q.waits;
    roots = r.acks sent k c place from u intents q.roots;
    ends = e.acks sent k c place from u intents q.ends;
  };
  does = λ sent k c place intents hd i none other q. record {
    waits = w.does sent k c place intents hd i none other q.waits;
    roots = r.does sent k c place intents hd i none other q.roots;
    ends = e.does sent k c place intents hd i none other q.ends;
  };
  begins = λ sent k c place l how parent may none q. record {
    waits = w.begins sent k c place l how parent may none q.waits;
    roots = r.begins sent k c place l how parent may none q.roots;
    ends = e.begins sent k c place l how parent may none q.ends;
  };
  asks = λ sent k c place q.
      record { waits = w.asks sent k c place q.waits; roots = r.asks sent k c place q.roots; ends = e.asks sent k c place q.ends };
}
  where
    w : IsKept (answers_so R) KnowsWaits
    w = kept_with (answers_so R) KnowsWaits (λ c q to h a sent. tt) waits_kept

    r : IsKept (answers_so R) HasNoRoots
    r = roots_kept R

    e : IsKept (answers_so R) KnowsEnds
    e = ends_kept R

nothing_given : IsGiven says_works (λ (n : Naming). ⊤)
nothing_given = record {
  starts = λ inc d. tt;
  binds = λ p x include avoid d n so. (tt, any (let s = bind p x include avoid d n in s.reply));
  notes = λ p x b i g n so. tt;
  tells = λ u e d n so. tt;
  hellos = λ node inc n so. tt;
  confirms = λ p grants excluded included d n so. tt;
}
  where
    any : (o : Option BoundReply) → IfSome o (λ r. ⊤)
    any None = tt
    any (Some r) = tt

pub works_keep : HandlersKeepWorks
works_keep hd = keeps_so says_works KnowsWorks (λ (n : Naming). ⊤) (works_kept (λ r. ⊤)) nothing_given hd
