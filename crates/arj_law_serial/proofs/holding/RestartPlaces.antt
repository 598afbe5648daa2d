-- Where a node was to restart, the object's machine was seen at each of the event's lines.
use Rattle.arj_law_parts.proofs.Words
use Words.{◌≡◌, ◌⊎◌, ◌≤◌, ◌∙◌, ◌==◌, ◌++◌, ◌+◌, ◌&&◌, ℕ, suc, List, [], ◌∷◌, Bool, true, false, length, take, Option, Some, None, refl, sym}
use Words.{ap, subst, append-nil, eqb-true, inl, inr, if◌then◌else◌, AllByRecursion, list_all, list_any, and_parts, Row, Body, Event}
use Words.{Header, Node, first_reason, at_place, Arm, World, counted, limited, numbered, reasons, run_event, run_unless, steps, Post, see}
use Words.body
use Words.event
use Words.input
use Rattle.arj_law_serial.proofs.Terms
use Terms.{begun_of, table, Asked, says, Action, IsGoodOf, AreQuiet, is_quiet_line, State, Agrees, Fixed, SeesLocks, AreTied, BeginNone}
use Terms.{locks_in, memory_of, AreShown}
use Rattle.arj_law_serial.proofs.holding
use holding.{Calling.answers_call, Events.IsShown, Events.its_restart, Marks.all_taken, Marks.take_behind, Names.IsNamed, Places.IsPlaced}
use holding.{Sorts.is_of, Writes.node_event}
use holding.Lines.{next_off, other_tables, quiet_of, quiet_table}
use holding.Points.{from_behind, never_row, other_shown, quiet_answers, quiet_commits}
use holding.Restarts.{IsMute, Restarts, limited_restarts}
use Rattle.arj_law_serial.proofs.whole.CalledSays.{calls_commit}

-- What an event by which this node was to restart leaves: lines of the node alone, in which no commit is called, no call answered and no
-- action begins; what locks on objects it has then are rows of its table from before the first of them on; the other nodes are as they
-- were; and so is the table of node 1, or this node was down.
pub record Lately (n e : ℕ) (w v : World) : Type 0 where
  pub said : List Body
  pub lines : v.lines ≡ w.lines ++ numbered e said
  pub mute : AllByRecursion (IsMute n) said
  pub own : (x p : ℕ) → length w.lines ≤ p → (test : Row → Bool) → list_any test (locks_in x (memory_of (at_place n v.nodes))) ≡ true →
      list_any test (table n (take p v.lines)) ≡ true
  pub others : (k : ℕ) → (k == n) ≡ false → at_place k v.nodes ≡ at_place k w.nodes
  pub first : ((p : ℕ) → length w.lines ≤ p → table 1 (take p v.lines) ≡ table 1 w.lines) ⊎ (memory_of (at_place 1 w.nodes) ≡ None)

pub all_own : (n : ℕ) (bs : List Body) → AllByRecursion (IsMute n) bs → list_all (is_of n) bs ≡ true
all_own n [] all = refl
all_own n (b ∷ bs) all = λ i. all.0.0 i && all_own n bs all.1 i

of_restart : (n : ℕ) (w v : World) → Restarts n w v → Lately n w.event w v
of_restart n w v r = record {
  said = r.said;
  lines = r.lines;
  mute = r.mute;
  own = λ x p le test any. never_row test (subst (λ (rows : List Row). list_any test rows ≡ true) (r.gone x) any);
  others = r.others;
  first = by (1 == n) refl;
}
  where
    by : (b : Bool) → (1 == n) ≡ b →
        ((p : ℕ) → length w.lines ≤ p → table 1 (take p v.lines) ≡ table 1 w.lines) ⊎ (memory_of (at_place 1 w.nodes) ≡ None)
    by true is = inr (ap (λ k. memory_of (at_place k w.nodes)) (eqb-true 1 n is) ∙ r.down)
    by false off = inl (λ p le. let t = take_behind w.lines w.event r.said p le in ap (table 1) (ap (take p) r.lines ∙ t.1)
        ∙ other_tables 1 n w.event off (take t.0 r.said) (all_taken (is_of n) t.0 r.said (all_own n r.said r.mute)) w.lines)

none_called : (n : ℕ) (bs : List Body) → AllByRecursion (IsMute n) bs → AllByRecursion (λ (b : Body). calls_commit b ≡ false) bs
none_called n [] all = tt
none_called n (b ∷ bs) all = (all.0.1, none_called n bs all.1)

pub none_answered : (n : ℕ) (bs : List Body) → AllByRecursion (IsMute n) bs → AllByRecursion (λ (b : Body). answers_call b ≡ false) bs
none_answered n [] all = tt
none_answered n (b ∷ bs) all = (all.0.2, none_answered n bs all.1)

pub none_begun : (n : ℕ) (bs : List Body) → AllByRecursion (IsMute n) bs → BeginNone bs
none_begun n [] all = tt
none_begun n (b ∷ bs) all = (all.0.3, none_begun n bs all.1)

quiet_begins : (b : Body) → is_quiet_line b ≡ true → begun_of b ≡ None
quiet_begins (body.Began l k u q) is = absurd (cc is)
quiet_begins b is = refl

quiet_mute : (n : ℕ) (bs : List Body) → list_all (is_of n) bs ≡ true → AreQuiet bs → AllByRecursion (IsMute n) bs
quiet_mute n [] of quiet = tt
quiet_mute n (b ∷ bs) of quiet =
    let q = and_parts (is_of n b) (list_all (is_of n) bs) of in
    let r = and_parts (is_quiet_line b) (list_all is_quiet_line bs) quiet in
    ((q.0, quiet_commits b r.0, quiet_answers b r.0, quiet_begins b r.0), quiet_mute n bs q.1 r.1)

-- where nobody looks
quiet_lately : (n e : ℕ) (w v : World) → AreShown w → (bs : List Body) → AreQuiet bs → v.lines ≡ w.lines ++ numbered e bs →
    v.nodes ≡ w.nodes → Lately n e w v
quiet_lately n e w v shown bs quiet lines nodes = record {
  said = bs;
  lines = lines;
  mute = quiet_mute n bs (quiet_of n bs quiet) quiet;
  own = λ x p le test any.
      other_shown x e (suc n) w.lines (λ k. at_place k w.nodes) v.lines bs lines (quiet_of (suc n) bs quiet) n (next_off n) (shown n) p le
      test (subst (λ (ns : List Node). list_any test (locks_in x (memory_of (at_place n ns))) ≡ true) nodes any);
  others = λ k off. ap (at_place k) nodes;
  first = inl (λ p le. let t = take_behind w.lines e bs p le in
      ap (table 1) (ap (take p) lines ∙ t.1) ∙ quiet_table 1 e (take t.0 bs) (all_taken is_quiet_line t.0 bs quiet) w.lines);
}

module _ (hd : Header) (w : World) (h : IsShown hd w) (n : ℕ) where
  abbrev E : ℕ
  E = w.event + 1

  unless_lately : (a : Arm) (r : Option ℕ) → first_reason (reasons (event.Restart n) w) ≡ r →
      Lately n E w (run_unless (event.Restart n) a w r)
  unless_lately a (Some c) is = quiet_lately n E w (says (body.Refused c ∷ []) (counted w)) h.shown (body.Refused c ∷ []) refl refl refl
  unless_lately a None is =
      let v = steps n input.Restart (counted w) in
      let z = of_restart n (counted w) (limited v)
      (limited_restarts n (counted w) v (node_event n n input.Restart (counted w) (at_place n w.nodes)) (its_restart hd w h n is)) in
      record { said = z.said; lines = z.lines; mute = z.mute; own = z.own; others = z.others; first = z.first }

  pub event_lately : (e : Asked) → e.event ≡ event.Restart n → Lately n E w (run_event e w)
  event_lately e is = by w.over
    where
      by : (b : Bool) → Lately n E w (if b then w else run_unless e.event e.arm w (first_reason (reasons e.event w)))
      by true = quiet_lately n E w w h.shown [] refl (sym (append-nil w.lines)) refl
      by false = subst (λ (z : Event). Lately n E w (run_unless z e.arm w (first_reason (reasons z w)))) (sym is)
          (unless_lately e.arm (first_reason (reasons (event.Restart n) w)) refl)

-- In the state behind, at each place among the event's lines.
pub placed_lately : (n e : ℕ) (w v : World) → AreShown w → Lately n e w v → (sent : List Post) (f : Fixed) (x : ℕ) (begun : List Action)
    (S : State) → SeesLocks f x begun S (see sent v) → IsGoodOf begun (see sent v) → Agrees f x begun sent → AreTied f x v.lines S
    → (p : ℕ) → length w.lines ≤ p → p ≤ length v.lines → IsNamed f x begun S v.lines p → IsPlaced f x begun S v.lines p
placed_lately n e w v shown l sent f x begun S sees good agrees tied p le within named = from_behind x e w.lines (see sent v) l.said l.lines
    (none_called n l.said l.mute) f begun S sees good agrees tied p le within (λ k test any. by k test any (k == n) refl) named
  where
    by : (k : ℕ) (test : Row → Bool) → list_any test (locks_in x (memory_of (at_place k v.nodes))) ≡ true → (b : Bool) → (k == n) ≡ b →
        list_any test (table k (take p v.lines)) ≡ true
    by k test any true is =
        let same : k ≡ n = eqb-true k n is in
        subst (λ (j : ℕ). list_any test (table j (take p v.lines)) ≡ true) (sym same)
        (l.own x p le test (subst (λ (j : ℕ). list_any test (locks_in x (memory_of (at_place j v.nodes))) ≡ true) same any))
    by k test any false off = other_shown x e n w.lines (λ j. at_place j w.nodes) v.lines l.said l.lines (all_own n l.said l.mute) k off
        (shown k) p le test (subst (λ (o : Option Node). list_any test (locks_in x (memory_of o)) ≡ true) (l.others k off) any)
