-- A commit waits for nodes in increasing order, and for some.
use Rattle.arj_law_parts.proofs.Words
use Words.{◌≡◌, ◌∙◌, ◌+◌, ◌<◌, ◌==◌, not, ℕ, zero, suc, Bool, true, false, cond, List, [], ◌∷◌, filter, refl, sym, ap, subst, ⊤, Used}
use Words.{flat_map, map, AllByRecursion, Option, Some, None, Uid, Header, again_all, begin_action, acts, tick_outs, with_coord, Coord}
use Words.{Doing, Now, Idle, Calling, Committing, Plan, doing_of, is_empty, left_of, without_number, Disk, Do, Effect, Say, Send, worked}
use Words.{stopped, Parts, Node, parent_of, parts_in, restart_outs, at_place, Seen, is_serial}
use Rattle.arj_law_runs.proofs.Terms
use Terms.{Keeps, at, given, posted, said, up, Up, Walks, halted, walks_both, IsKept, disk_by}
use Rattle.arj_law_parts.proofs.coordinator
use coordinator.{Works.KeepsWorks, Works.works_begun, Works.works_move}
use coordinator.Trace.{AsksThem, ButOne, Came, IsAsked, NewPlan, NoneLeft, OfNaming, OfServers, OfStores, OldPlan, PlanFrom, StillAll}
use coordinator.Trace.{Trace, Whom, trace_keeps}
use coordinator.Walks.{acts_trace, heard_trace, acked_trace, again_keeps}
use Rattle.arj_law_parts.proofs.parts.Numbered.{AreUp, set_up}
use Rattle.arj_law_runs.proofs.journal.Runs.{lines_keep}
use Rattle.arj_law_runs.proofs.kept.{Parted.IsLeft, Parted.coord_kept, Starts.first_up, Walked.other_number, Walked.same_number}

-- ---- one coordinator

-- a commit that waits does so for nodes in increasing order, and for some
abbrev pub IsRising : Now → Type 0
IsRising Idle = ⊤
IsRising (Calling s) = ⊤
IsRising (Committing m) = AreUp (left_of m) × (is_empty (left_of m) ≡ false)

-- so it is of each action at work
abbrev pub AreRising : Coord → Type 0
AreRising c = (u : Uid) (d : Doing) → doing_of u c ≡ Some d → IsRising d.now

abbrev Its : Uid → Doing → Type 0
Its u d = IsRising d.now

pub without_up : (n : ℕ) (ns : List ℕ) → AreUp ns → AreUp (without_number n ns)
without_up n [] up = tt
without_up n (m ∷ ms) up = by (m == n) (without_up n ms up.1)
  where
    above : (k : ℕ) (js : List ℕ) → AllByRecursion (λ (j : ℕ). k < j) js → AllByRecursion (λ (j : ℕ). k < j) (without_number n js)
    above k [] all = tt
    above k (j ∷ js) all = one (j == n) (above k js all.1)
      where
        one : (b : Bool) → AllByRecursion (λ (i : ℕ). k < i) (without_number n js) →
            AllByRecursion (λ (i : ℕ). k < i) (cond (not b) (j ∷ without_number n js) (without_number n js))
        one true rest = rest
        one false rest = (all.0, rest)

    by : (b : Bool) → AreUp (without_number n ms) → AreUp (cond (not b) (m ∷ without_number n ms) (without_number n ms))
    by true rest = rest
    by false rest = (above m ms up.0, rest)

asked_up : (p : Plan) (ns : List ℕ) → IsAsked p ns → AreUp ns
asked_up p _ (OfServers ns is) = subst AreUp (sym is) (set_up (map (λ (u : Used). u.server) (filter (λ (u : Used). u.called) p.used)))
asked_up p _ (OfStores ns is) =
    subst AreUp (sym is) (set_up (flat_map (λ (u : Used). Words.stores_by u (Words.changed_of u.x p)) p.used))
asked_up p _ OfNaming = (tt, tt)

whom_up : {came : Came} {p : Plan} {left ns : List ℕ} → AreUp left → Whom came p left ns → AreUp ns
whom_up up (AsksThem q ns plans asked) = asked_up q ns asked
whom_up {came} {p} {left} up (ButOne from) = without_up from left up
whom_up up StillAll = up
whom_up up NoneLeft = tt

left_up : {c : Coord} {came : Came} {u : Uid} {p : Plan} {left : List ℕ} → AreRising c → PlanFrom c came u p left → AreUp left
left_up n (NewPlan l b intents named) = tt
left_up n (OldPlan u d m found is) = (subst IsRising is (n u d found)).0

pub rises : {c : Coord} {came : Came} {e : Coord} {outs : List Effect} → AreRising c → Trace c came c outs e → AreRising e
rises {c} {came} n t = trace_keeps AreRising (works_move Its keeps) t n
  where
    keeps : KeepsWorks Its c came
    keeps = record {
      fresh = λ u l. tt;
      rests = λ u d h. tt;
      takes = λ u d ns h. h;
      calls = λ s d e is h. tt;
      commits = λ u m d on h. (whom_up (left_up n on.from) on.whom, on.left);
    }

rises_none : (c : Coord) → c.doings ≡ [] → AreRising c
rises_none c none u d at =
    absurd (by (is_own_of c) u.num (sym (λ i. cond (is_own_of c) (at_place u.num (none i)) None) ∙ at))
  where
    is_own_of : Coord → Bool
    is_own_of e = Words.is_own u e.tree

    by : (b : Bool) (j : ℕ) → cond b (at_place j []) None ≡ Some d → ⊥
    by true zero is = let no_way : ◌≡◌ {A = Option Doing} None (Some d) = is in cc
    by true (suc j) is = let no_way : ◌≡◌ {A = Option Doing} None (Some d) = is in cc
    by false j is = let no_way : ◌≡◌ {A = Option Doing} None (Some d) = is in cc

-- ---- all of them

abbrev pub AllRise : Seen → Type 0
AllRise M = (j : ℕ) (n : Node) (t : Parts) → M.nodes j ≡ Some n → n.live ≡ Some t → AreRising t.coord

abbrev Others : ℕ → Seen → Type 0
Others k M = (j : ℕ) (n : Node) (t : Parts) → (j ≡ k → ⊥) → M.nodes j ≡ Some n → n.live ≡ Some t → AreRising t.coord

others : (k : ℕ) (d : Disk) (live : Option Parts) (M : Seen) → AllRise (at k d live M) → Others k M
others k d live M all j n t other is live_is =
    all j n t ((λ i. cond (other_number j k other i) (Some (record { number = k; disk = d; live = live })) (M.nodes j)) ∙ is) live_is

own : (k : ℕ) (d : Disk) (t : Parts) (M : Seen) → AllRise (up k d t M) → AreRising t.coord
own k d t M all = all k (record { number = k; disk = d; live = Some t }) t
    (λ i. cond (same_number k i) (Some (record { number = k; disk = d; live = Some t })) (M.nodes k)) refl

back : (k : ℕ) (d : Disk) (live : Option Parts) (M : Seen) → ((t : Parts) → live ≡ Some t → AreRising t.coord) → Others k M →
    AllRise (at k d live M)
back k d live M its rest j n t is live_is = by (j == k) refl is
  where
    x : Node
    x = record { number = k; disk = d; live = live }

    by : (b : Bool) → (j == k) ≡ b → cond b (Some x) (M.nodes j) ≡ Some n → AreRising t.coord
    by true same there = let here : x ≡ n = cc in its t (ap (λ (m : Node). m.live) here ∙ live_is)
    by false apart there =
        rest j n t (λ same. let no_way : true ≡ false = sym (same_number k) ∙ ap (λ h. h == k) (sym same) ∙ apart in cc) there live_is

down_so : (e k : ℕ) (d : Disk) (M : Seen) → Others k M → AllRise (halted e k d M)
down_so e k d M rest = back k d None M (λ t is. absurd (cc is)) rest

walk : (e k : ℕ) (outs : List Effect) (v : Parts) (d : Disk) (M : Seen) → AreRising v.coord → Others k M →
    Walks AllRise e k outs (Up AllRise k v) d M
walk e k [] v d M its rest = back k d (Some v) M (λ t is. let same : v ≡ t = cc in subst (λ (x : Parts). AreRising x.coord) same its) rest
walk e k (Do w ∷ es) v d M its rest = (λ how. down_so e k (stopped how w d) M rest, walk e k es v (worked w d) M its rest)
walk e k (Say b ∷ es) v d M its rest = walk e k es v d (said e (b ∷ []) M) its rest
walk e k (Send to m ∷ es) v d M its rest =
    λ more quiet. walk e k es v d (said e more (posted (record { from = k; to = to; message = m }) M)) its rest

abbrev pub KnowsRising : Seen → Type 0
KnowsRising M = IsKept M × AllRise M

both : (e k : ℕ) (outs : List Effect) (v : Parts) (d : Disk) (M : Seen) → Walks IsKept e k outs (Up IsKept k v) d M →
    Walks AllRise e k outs (Up AllRise k v) d M → Walks KnowsRising e k outs (Up KnowsRising k v) d M
both e k outs v d M a b = walks_both IsKept AllRise e k outs (Up IsKept k v) (Up AllRise k v) d M a b

pub rising_keep : (hd : Header) → Keeps hd KnowsRising
rising_keep hd = record {
  quiet = λ e bs M quiet all. (keep.quiet e bs M quiet all.0, all.1);
  stop = λ e k d live M all. (keep.stop e k d live M all.0, down_so e k d M (others k d live M all.1));
  message = λ e k d t v from m outs M all there meant is.
      let its = own k d t M all.1 in
      both e k outs v d M (keep.message e k d t v from m outs M all.0 there meant is)
      (walk e k outs v d M (subst (IsLeft AreRising) is (coord_kept AreRising k d t from its
      (λ a r. rises its (heard_trace t.coord from a r d.intents)) (λ u. rises its (acked_trace t.coord from u d.intents)) m))
      (others k d (Some t) M all.1));
  act = λ e k d t i M is none all.
      let did = acts i d.intents t.coord in
      both e k did.outs (with_coord t did.part) d M (keep.act e k d t i M is none all.0)
      (walk e k did.outs (with_coord t did.part) d M (rises (own k d t M all.1) (acts_trace t.coord i d.intents))
      (others k d (Some t) M all.1));
  begin = λ e k d t l how parent M new may none all.
      let did = begin_action l how parent (parent_of parent t.coord) t.coord in
      let N = given l (record { node = k; serial = is_serial how }) M in
      both e k did.outs (with_coord t did.part) d N (keep.begin e k d t l how parent M new may none all.0)
      (walk e k did.outs (with_coord t did.part) d N
      (works_begun Its l how parent (parent_of parent t.coord) t.coord (λ u. tt) (own k d t M all.1)) (others k d (Some t) M all.1));
  tick = λ e k d t M all.
      let outs = tick_outs (record { number = k; disk = d; live = Some t }) t in
      let r = again_all t.coord.doings t.coord in
      both e k outs (with_coord t r.part) d M (keep.tick e k d t M all.0)
      (walk e k outs (with_coord t r.part) d M (again_keeps AreRising (λ root w c n. n) t.coord.doings t.coord (own k d t M all.1))
      (others k d (Some t) M all.1));
  restart = λ e k d M all. both e k (restart_outs hd k (d.inc + 1) d) (parts_in k (d.inc + 1) d) d M (keep.restart e k d M all.0)
      (walk e k (restart_outs hd k (d.inc + 1) d) (parts_in k (d.inc + 1) d) d M
      (rises_none (let p = parts_in k (d.inc + 1) d in p.coord) refl) (others k d None M all.1));
  first = λ st formed. (
    keep.first st formed,
    λ j n t is live.
        subst (λ (x : Parts). AreRising x.coord) (first_up hd st j n t is live) (rises_none (let p = parts_in j (st.incs j + 1)
        (disk_by hd st j) in p.coord) refl),
  );
}
  where
    keep : Keeps hd IsKept
    keep = lines_keep hd
