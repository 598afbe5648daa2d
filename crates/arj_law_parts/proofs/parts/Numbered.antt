-- Request numbers, the objects that plans use, and whom commits wait for, through all that a coordinator does.
use Rattle.arj_law_parts.proofs.Words
use Words.{◌≡◌, ◌<◌, arith, ℕ, List, [], ◌∷◌, ◌++◌, map, refl, subst, ⊤, AllByRecursion, match_ordering, nat_cmp, Ordering, Less, Equal}
use Words.{Greater, Uid, Path, Asked, Reply, actor, last_req, heard, again_all, Used, Plan, Coord, new_coord, Doing, Root, doing_of}
use Words.{root_at, objects_in, plan_for, used_of, said_in, joined_in, Effect, Intent, acked, number_set, with_number, Input, acts, root_of}
use Words.{Kind, Label, Option, begin_action, parent_of}
use Rattle.arj_law_parts.proofs.coordinator
use coordinator.{Works.KeepsWorks, Works.works_begun, Works.works_move, Works.works_new}
use coordinator.Trace.{Came, PlanFrom, NewPlan, OldPlan, PlanMove, Marks, Plans, plan_keeps, Trace, trace_keeps}
use coordinator.Walks.{acts_trace, heard_trace, acked_trace, again_keeps}
use Rattle.arj_law_parts.specs.parts.Requests.{AreNumbered, AreOnce, IsNumbered}

-- ---- sets of numbers

-- each number once, in increasing order
abbrev pub AreUp : List ℕ → Type 0
AreUp [] = ⊤
AreUp (n ∷ ns) = AllByRecursion (λ (m : ℕ). n < m) ns × AreUp ns

above_put : (k n : ℕ) (ns : List ℕ) → k < n → AllByRecursion (λ (m : ℕ). k < m) ns → AllByRecursion (λ (m : ℕ). k < m) (with_number n ns)
above_put k n [] less all = (less, tt)
above_put k n (m ∷ ms) less all = by (nat_cmp n m) (above_put k n ms less all.1)
  where
    by : (r : Ordering) → AllByRecursion (λ (j : ℕ). k < j) (with_number n ms) →
        AllByRecursion (λ (j : ℕ). k < j) (match_ordering r (n ∷ m ∷ ms) (m ∷ ms) (m ∷ with_number n ms))
    by Less ih = (less, all)
    by Equal ih = all
    by Greater ih = (all.0, ih)

above_on : (k n : ℕ) (ns : List ℕ) → k < n → AllByRecursion (λ (m : ℕ). n < m) ns → AllByRecursion (λ (m : ℕ). k < m) ns
above_on k n [] less all = tt
above_on k n (m ∷ ms) less all = (omega (arith, less, all.0), above_on k n ms less all.1)

up_put : (n : ℕ) (ns : List ℕ) → AreUp ns → AreUp (with_number n ns)
up_put n [] up = (tt, tt)
up_put n (m ∷ ms) up = by (nat_cmp n m) refl (up_put n ms up.1)
  where
    less : nat_cmp n m ≡ Less → n < m
    less is = grind (arith, is)

    more : nat_cmp n m ≡ Greater → m < n
    more is = grind (arith, is)

    by : (r : Ordering) → nat_cmp n m ≡ r → AreUp (with_number n ms) → AreUp (match_ordering r (n ∷ m ∷ ms) (m ∷ ms) (m ∷ with_number n ms))
    by Less is ih = ((less is, above_on n m ms (less is) up.0), up)
    by Equal is ih = up
    by Greater is ih = (above_put m n ms (more is) up.0, ih)

pub set_up : (ns : List ℕ) → AreUp (number_set ns)
set_up [] = tt
set_up (n ∷ ns) = up_put n (number_set ns) (set_up ns)

-- ---- plans

abbrev Once : Plan → Type 0
Once p = AreOnce p.used

pub plan_once : (p : Path) (req : ℕ) (r : Root) (c : Coord) → Once (plan_for p req r c)
plan_once p req r c =
    by (objects_in (actor p) r c) (set_up (map (λ s. s.x) (said_in (actor p) r c) ++ map (λ j. j.x) (joined_in (actor p) r c)))
  where
    above : (x : ℕ) (xs : List ℕ) → AllByRecursion (λ (m : ℕ). x < m) xs →
        AllByRecursion (λ (v : Used). x < v.x) (map (used_of (actor p) r c) xs)
    above x [] all = tt
    above x (y ∷ ys) all = (all.0, above x ys all.1)

    by : (xs : List ℕ) → AreUp xs → AreOnce (map (used_of (actor p) r c) xs)
    by [] up = tt
    by (x ∷ xs) up = (above x xs up.0, by xs up.1)

-- ---- small steps

-- so it is of an action at work
abbrev Its : Uid → Doing → Type 0
Its u d = IsNumbered d.req d.now

plan_so : {c : Coord} {came : Came} {u : Uid} {p q : Plan} {left : List ℕ} → AreNumbered c → PlanFrom c came u p left → Plans came p q →
    Once q
plan_so {c} n from plans = plan_keeps Once move plans (before from)
  where
    before : {came : Came} {u : Uid} {p : Plan} {left : List ℕ} → PlanFrom c came u p left → Once p
    before (NewPlan l b intents named) = plan_once b.path (last_req (doing_of (actor b.path) c)) (root_at (root_of b.path) c) c
    before (OldPlan u d m found is) = (subst (IsNumbered d.req) is (n u d found)).1.0

    move : {came : Came} (p q : Plan) → PlanMove came p q → Once p → Once q
    move _ _ (Marks k p) once = once
    move _ _ _ once = once

numbered : {c : Coord} {came : Came} {e : Coord} {outs : List Effect} → AreNumbered c → Trace c came c outs e → AreNumbered e
numbered {c} {came} n t = trace_keeps AreNumbered (works_move Its keeps) t n
  where
    keeps : KeepsWorks Its c came
    keeps = record {
      fresh = λ u l. tt;
      rests = λ u d h. tt;
      takes = λ u d ns h. h;
      calls = λ s d e is h. refl;
      commits = λ u m d on h. (refl, (plan_so n on.from on.plans, on.left));
    }

pub num_begins : (l : Label) (q : Kind) (parent : Option Label) (c : Coord) → AreNumbered c
    → AreNumbered (begin_action l q parent (parent_of parent c) c).part
num_begins l q parent c = works_begun Its l q parent (parent_of parent c) c (λ u. tt)

pub num_acts : (i : Input) (intents : List (Uid × Intent)) (c : Coord) → AreNumbered c → AreNumbered (acts i intents c).part
num_acts i intents c n = numbered n (acts_trace c i intents)

pub num_heard : (from : ℕ) (a : Asked) (r : Reply) (intents : List (Uid × Intent)) (c : Coord) → AreNumbered c →
    AreNumbered (heard from a r intents c).part
num_heard from a r intents c n = numbered n (heard_trace c from a r intents)

pub num_again : (ds : List Doing) (c : Coord) → AreNumbered c → AreNumbered (again_all ds c).part
num_again = again_keeps AreNumbered (λ root w c n. n)

pub num_acked : (from : ℕ) (u : Uid) (intents : List (Uid × Intent)) (c : Coord) → AreNumbered c → AreNumbered (acked from u intents c).part
num_acked from u intents c n = numbered n (acked_trace c from u intents)

pub num_new : (node inc : ℕ) (records : List (Uid × Intent)) → AreNumbered (record (new_coord node inc) { telling = records })
num_new = works_new Its
