-- Commits under way use few objects, name few ends and mark few stores, in every run.
use Rattle.arj_law_parts.proofs.Words
use Words.{◌≡◌, ◌≢◌, ◌≤◌, ◌<◌, ◌+◌, ◌∙◌, ◌&&◌, ◌==◌, arith, ℕ, zero, suc, Bool, true, false, cond, List, [], ◌∷◌, length, map, refl, ap}
use Words.{sym}
use Words.{subst, ⊎_elim, AllByRecursion, IfSome, Option, Some, None, nat_le, and_parts, leb-true, length-map, has, Asked, Effect, Header}
use Words.{Kind}
use Words.{Label, Message, ObjectState, Path, Uid, actor, object, again_all, begin_action, is_serial, last_req, tick_outs, Reply}
use Words.{waits_for_commit, Machine, Plan, Used, left_of, plan_of, Committing, Coord, Doing, Root, doing_of, new_coord, objects_in}
use Words.{plan_for}
use Words.{root_at, used_of, number_set, joins_on, Joined, Disk, Intent, Parts, Took, handle, with_coord, Input, Node, acts, parent_of}
use Words.{parts_in}
use Words.{restart_outs, Branch, at_place, is_own, root_of, Seen, uid_eq, ask_kind, reply_kind, ask_of}
use Words.input
use Rattle.arj_law_promise.proofs.Terms
use Terms.{AreAt, HasObject, HeaderFits, IsUp, IsUsedIn, KeepsAsked, NowIsSo, OwnOf, UsesOf, Up, Walks, WaitsAreKnown, all_each}
use Terms.{asked_both, at_again, at_begins, at_heard, came_acts, given, halted, is_act, it, keeps_asked, kind_of, node_here, stored}
use Terms.{up, walks_both, AreOnce, IsNumbered}
use Rattle.arj_law_lock_view.proofs.facts.CommitCoords.{at_acked}
use Rattle.arj_law_parts.proofs.parts.Numbered.{set_up}
use Rattle.arj_law_parts.specs.parts.AskedObjects.{IsNowOf}
use Rattle.arj_law_promise.proofs.{meant.Requests.meant_keep, waiting.Known.object_is, waiting.Known.used_is}
use Rattle.arj_law_promise.specs.meant.Meant.{MeantAreKnown}
use Rattle.arj_law_runs.proofs.addresses.Lists.{all_map}
use Rattle.arj_law_runs.proofs.coordinators.CoordRooms.{Room, room_acked, room_acts, room_again, room_begin, room_heard}
use Rattle.arj_law_runs.proofs.coordinators.RunCoords.{IsKept, IsSo, all_keep_so, few_ends}
use Rattle.arj_law_runs.proofs.coordinators.TreeRooms.{room_new}
use Rattle.arj_law_runs.proofs.kept.Starts.{first_up}
use Rattle.arj_law_runs.specs.addresses.Addresses.{AreOf, IsNode, MachineOf, NowOf}
use Rattle.arj_law_runs.specs.coordinators.Rooms.{AreRising, objects_at}
use Rattle.arj_law_serial.proofs.joint.JoinStep.{EachUp, others_up, ups_at, ups_walk}
use Rattle.arj_law_serial.proofs.whole.CoordCases.{CoordCase, coord_case}
use Rattle.arj_law_serial.proofs.whole.CoordCases as cases
use Rattle.arj_law_serial.specs.joint.Forms.{so_of}
use Rattle.arj_law_cause.proofs.spelled.Lists.{few_among, few_between}
use Rattle.arj_law_cause.proofs.spelled.Plans.{IsFew, IsOfFew, JoinOnce, answered_few, given_few, rising, start_few}
use Rattle.arj_msg.specs.InForm.{IsObject}

-- ---- room of trees

pub rooms : IsKept Room
rooms = record {
  new = λ node inc telling. room_new node inc;
  hears = λ actions paths tree from a r intents c good room. room_heard actions paths tree from a r intents c good room;
  acks = room_acked;
  does = λ actions paths tree intents c good room hd i none other. room_acts actions paths tree intents c good room hd i none other;
  begins = λ actions begun paths tree l k parent c good may none room. room_begin actions begun paths tree l k parent c good may none room;
  asks = room_again;
}

-- what is known of requests that were sent, and that trees have room
abbrev pub Base : Header → Seen → Type 0
Base hd M = MeantAreKnown hd M × IsSo Room rooms M

-- ---- numbers of the header

module _ (hd : Header) (form : HeaderFits hd) where
  pub object_number : (x : ℕ) → HasObject hd x → IsObject x
  object_number x has =
      let all = and_parts (uid_eq (object x) (object x)) (nat_le 1 x && nat_le x 256) (object_is hd form x has (object x) refl) in
      let both = and_parts (nat_le 1 x) (nat_le x 256) all.1 in
      (leb-true 1 x both.0, leb-true x 256 both.1)

  pub node_number : (n : ℕ) → IsNode hd n → (1 ≤ n) × (n ≤ 16)
  node_number n is =
      let both = and_parts (nat_le 1 n) (nat_le n hd.nodes) is in
      let most = (let f = form.nodes in f.1) in
      let low = leb-true 1 n both.0 in
      let high = leb-true n hd.nodes both.1 in
      (low, omega (arith, high, most))

  -- increasing numbers of nodes are few
  pub few_nodes : (ns : List ℕ) → AreRising ns → AreOf (IsNode hd) ns → length ns ≤ 16
  few_nodes ns up all =
      let low_high = all_each (IsNode hd) (λ n. (1 ≤ n) × (n < 17)) ns
      (λ n is. (let b = node_number n is in let high = b.1 in (b.0, omega (arith, high)))) all in
      let most = few_between 1 17 ns (omega arith) up low_high in
      omega (arith, most)

-- ---- what is known of a commit under way

once_rising : (us : List Used) → AreOnce us → AreRising (map (λ (w : Used). w.x) us)
once_rising [] once = tt
once_rising (u ∷ us) once =
    (all_map (λ (v : Used). u.x < v.x) (λ (m : ℕ). u.x < m) (λ (w : Used). w.x) us (λ v less. less) once.0, once_rising us once.1)

module _ (hd : Header) (form : HeaderFits hd) (k : ℕ) (d : Disk) (t : Parts) (M : Seen) (base : Base hd (up k d t M)) where
  abbrev here : Node
  here = record { number = k; disk = d; live = Some t }

  found : (let N = up k d t M in N.nodes k) ≡ Some here
  found = node_here M k here

  known : WaitsAreKnown hd (up k d t M)
  known = let b = base.0 in b.0

  its_up : IsUp (let e = known.0.0.0.0 in e.0) M.sent M.labels k d.inc t
  its_up = let e = known.0.0.0.0 in it 0 k d t M (e.0, e.1)

  pub room : Room t.coord
  room = let r = base.1 in r.1 k here t found refl

  module _ (u : Uid) (q : Doing) (does : doing_of u t.coord ≡ Some q) (m : Machine) (now : q.now ≡ Committing m) where
    abbrev root : ℕ
    root = (root_of (plan_of m).path).num

    used : AllByRecursion (λ (w : Used). IsUsedIn t.coord.tree root w.x) (plan_of m).used
    used = subst (IsNowOf t.coord.tree) now (let o = its_up.objects in o.works u q does)

    uses : UsesOf (HasObject hd) t.coord.tree
    uses = let w = known.0.1.0.1 in (w.works k here t found refl).1

    once : AreOnce (plan_of m).used
    once = (subst (IsNumbered q.req) now (its_up.numbered u q does)).1.0

    few : length (plan_of m).used ≤ 16
    few =
        let r = room.objects root in
        let rising_ones = once_rising (plan_of m).used once in
        let among = few_among (objects_at root t.coord.tree) (map (λ (w : Used). w.x) (plan_of m).used) r.1 rising_ones
        (all_map (λ (w : Used). IsUsedIn t.coord.tree root w.x) (λ x. has (objects_at root t.coord.tree) x ≡ true) (λ (w : Used). w.x)
        (plan_of m).used (λ w s. s) used) in
        let same = length-map {A = Used} {B = ℕ} (plan_of m).used (λ (w : Used). w.x) in
        let most = r.0 in
        omega (arith, among, same, most)

    loaded : AllByRecursion (λ (w : Used). IfSome w.loaded (λ st. st.uid ≡ object w.x)) (plan_of m).used
    loaded = all_each (λ (w : Used). IfSome w.loaded (OwnOf (stored (kind_of hd 0)) w.x))
        (λ (w : Used). IfSome w.loaded (λ st. st.uid ≡ object w.x)) (plan_of m).used (λ w its. plain w w.loaded its)
        (let p = subst (NowIsSo (so_of (kind_of hd 0))) now states in p.used)
      where
        states : NowIsSo (so_of (kind_of hd 0)) q.now
        states = let f = (known.1.0.0.0.1 0).0 k here found in let p = f.1 in let e = p.coord in e.works u q does

        plain : (w : Used) (o : Option ObjectState) → IfSome o (OwnOf (stored (kind_of hd 0)) w.x) → IfSome o (λ st. st.uid ≡ object w.x)
        plain w None own = tt
        plain w (Some st) own = (own.0).0 ∙ ap object own.1

    pub nodes : MachineOf (IsNode hd) m
    nodes = let a = known.0.0.1 in let so = a.1 in let n = so.0 k here found in let p = n.2 in let c = p.coord in
        subst (NowOf (IsNode hd)) now (c.works u q does)

    pub of_few : IsOfFew m
    of_few = record {
      few = few;
      objects = all_each (λ (w : Used). HasObject hd w.x) (λ (w : Used). IsObject w.x) (plan_of m).used
          (λ w has. object_number hd form w.x has)
          (all_each (λ (w : Used). IsUsedIn t.coord.tree root w.x) (λ (w : Used). HasObject hd w.x) (plan_of m).used
          (λ w its. used_is (HasObject hd) t.coord.tree uses root w.x its) used);
      loaded = loaded;
      left = λ up_now. few_nodes hd form (left_of m) up_now (let n = nodes in n.1);
    }

-- ---- what handlers keep

-- each commit of a node is so
abbrev pub Few : Parts → Type 0
Few t = AreAt IsFew t.coord

none_new : (node inc : ℕ) (telling : List (Uid × Intent)) → AreAt IsFew (record (new_coord node inc) { telling = telling })
none_new node inc telling u d m is now = absurd (by (is_own u (let c = new_coord node inc in c.tree)) u.num is)
  where
    by : (x : Bool) (j : ℕ) → cond x (at_place j []) None ≡ Some d → ⊥
    by true zero e = cc e
    by true (suc j) e = cc e
    by false j e = cc e

waits_on : (from : ℕ) (a : Asked) (r : Reply) (m : Machine) → waits_for_commit from a r m ≡ true → has (left_of m) from ≡ true
waits_on from a r m waits = (and_parts (reply_kind r == ask_kind (ask_of m from)) (has (left_of m) from)
    (and_parts ((plan_of m).req == a.req) ((reply_kind r == ask_kind (ask_of m from)) && has (left_of m) from) waits).1).1

joins_once : (p : Path) (r : Root) (c : Coord) → JoinOnce (let q = plan_for p 0 r c in q.used)
joins_once p r c = by (objects_in (actor p) r c)
  where
    by : (xs : List ℕ) → JoinOnce (map (used_of (actor p) r c) xs)
    by [] = tt
    by (x ∷ xs) = (
      rising (number_set (map (λ (j : Joined). j.store) (joins_on x (actor p) r c)))
          (set_up (map (λ (j : Joined). j.store) (joins_on x (actor p) r c))),
      by xs,
    )

module _ (hd : Header) (form : HeaderFits hd) where
  base_keep : KeepsAsked hd (Base hd)
  base_keep = asked_both hd (MeantAreKnown hd) (IsSo Room rooms) (meant_keep hd form)
      (keeps_asked hd (IsSo Room rooms) (all_keep_so Room rooms hd))

  module _ (k : ℕ) (d : Disk) (t : Parts) (M : Seen) (base : Base hd (up k d t M)) (own : AreAt IsFew t.coord) where
    message_few : (from : ℕ) (m : Message) (v : Parts) (outs : List Effect) → handle k d t from m ≡ Took v outs → AreAt IsFew v.coord
    message_few from m v outs is = by (coord_case k d t v from m outs is)
      where
        by : CoordCase d t from m v outs → AreAt IsFew v.coord
        by (cases.OfParts mine same plain sent_to) = subst (AreAt IsFew) (sym same) own
        by (cases.Asks u query same outs_are) = subst (AreAt IsFew) (sym same) own
        by (cases.Heard a r some same outs_are) = subst (AreAt IsFew) same (at_heard IsFew t.coord own from a r d.intents
            (λ q n does is waits its. answered_few a.act from n r (of_few hd form k d t M base a.act q does n is) (waits_on from a r n
            waits)
            its))
        by (cases.Acks u which same outs_are) = subst (AreAt IsFew) same (at_acked IsFew t.coord own from u d.intents)

    acts_few : (i : Input) → ((l : Label) (how : Kind) (parent : Option Label) → i ≢ input.Begin l how parent) →
        AreAt IsFew (let did = acts i d.intents t.coord in did.part)
    acts_few i other u q m is now = ⊎_elim (λ old. own u old.0 m old.1 old.2) (λ new. new)
        (came_acts IsFew t.coord i d.intents other
        (λ l b z n same named at was. given_few (actor b.path) n (of_few hd form k d t M base (actor b.path) z at n was)
        (own (actor b.path) z n at was))
        (λ l b same named. start_few (actor b.path) (plan b) (few_ends t.coord.tree (room hd form k d t M base) (root_of b.path))
        (joins_once b.path (root_at (root_of b.path) t.coord) t.coord) refl) u m (q, is, now))
      where
        plan : Branch → Plan
        plan b = plan_for b.path (last_req (doing_of (actor b.path) t.coord)) (root_at (root_of b.path) t.coord) t.coord

  others_here : (k : ℕ) (d : Disk) (t : Parts) (M : Seen) → EachUp Few (up k d t M) → Few t
  others_here k d t M each = each k (record { number = k; disk = d; live = Some t }) t
      (node_here M k (record { number = k; disk = d; live = Some t })) refl

  other : (i : Input) → is_act i ≡ true → (l : Label) (how : Kind) (parent : Option Label) → i ≢ input.Begin l how parent
  other i is l how parent same = let no_way : false ≡ true = sym (ap is_act same) ∙ is in cc no_way

  both : (e k : ℕ) (outs : List Effect) (v : Parts) (d : Disk) (M : Seen) → Walks (Base hd) e k outs (Up (Base hd) k v) d M →
      Walks (EachUp Few) e k outs (Up (EachUp Few) k v) d M →
      Walks (λ N. Base hd N × EachUp Few N) e k outs (Up (λ N. Base hd N × EachUp Few N) k v) d M
  both e k outs v d M a b = walks_both (Base hd) (EachUp Few) e k outs (Up (Base hd) k v) (Up (EachUp Few) k v) d M a b

  pub few_keep : KeepsAsked hd (λ M. Base hd M × EachUp Few M)
  few_keep = let keeps = base_keep in record {
    quiet = λ e bs M quiet g. (keeps.quiet e bs M quiet g.0, g.1);
    stop = λ e k d live M g. (
      keeps.stop e k d live M g.0,
      ups_at Few k d None M (halted e k d M) (λ j. refl) (others_up Few k d live M g.1) (λ t is. absurd (cc is)),
    );
    message = λ e k d t v from m outs M g there meant is. both e k outs v d M (keeps.message e k d t v from m outs M g.0 there meant is)
        (ups_walk Few k e v (message_few k d t M g.0 (others_here k d t M g.1) from m v outs is) outs d M (others_up Few k d (Some t) M
        g.1));
    act = λ e k d t i M is asks free g. let did = acts i d.intents t.coord in both e k did.outs (with_coord t did.part) d M
        (keeps.act e k d t i M is asks free g.0)
        (ups_walk Few k e (with_coord t did.part) (acts_few k d t M g.0 (others_here k d t M g.1) i (other i is)) did.outs d M
        (others_up Few k d (Some t) M g.1));
    begin = λ e k d t l how parent M new may free g. let did = begin_action l how parent (parent_of parent t.coord) t.coord in
        let N = given l (record { node = k; serial = is_serial how }) M in
        both e k did.outs (with_coord t did.part) d N (keeps.begin e k d t l how parent M new may free g.0)
        (ups_walk Few k e (with_coord t did.part) (at_begins IsFew t.coord (others_here k d t M g.1) l how parent) did.outs d N
        (others_up Few k d (Some t) M g.1));
    tick = λ e k d t M g. let outs = tick_outs (record { number = k; disk = d; live = Some t }) t in
        let v = with_coord t (again_all t.coord.doings t.coord).part in both e k outs v d M (keeps.tick e k d t M g.0)
        (ups_walk Few k e v (at_again IsFew t.coord.doings t.coord (others_here k d t M g.1)) outs d M (others_up Few k d (Some t) M g.1));
    restart = λ e k d M g. let outs = restart_outs hd k (d.inc + 1) d in let v = parts_in k (d.inc + 1) d in
        both e k outs v d M (keeps.restart e k d M g.0)
        (ups_walk Few k e v (none_new k (d.inc + 1) d.intents) outs d M (others_up Few k d None M g.1));
    first = λ st formed. (keeps.first st formed, λ j n t is live. subst Few (first_up hd st j n t is live) (none_new j (st.incs j + 1) []));
  }
