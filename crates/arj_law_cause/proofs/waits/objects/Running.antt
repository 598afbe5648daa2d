-- Event by event: calls and includes are refused for too many objects exactly where the journal counts as many.
use Rattle.arj_law_parts.proofs.Words
use Words.{◌≡◌, ◌⊎◌, ◌∙◌, ◌+◌, ◌++◌, ◌≤◌, ◌==◌, ◌&&◌, ◌||◌, not, ℕ, Bool, true, false, cond, if◌then◌else◌, List, [], ◌∷◌, length, filter, Option, Some, None, refl, sym}
use Words.{ap, subst, inl, inr, arith, nat_tests, nat_le, nat_lt, is_some, AllByRecursion, filter-append, length-append, append-nil, bytes_eq, bytes_eq-Decides}
use Words.{first_uid, uid_eq, uid_same, uids_of, has, Arm, Body, Event, Header, Label, Uid, name, at_place, Node, Parts, Branch, branch_of, branch_named}
use Words.{counted, first_reason, giving, lacks_labels, node_of, reasons, refused_at, run_event, is_given, Coord, Input, World, Move, moved}
use Words.{waits_above, waits_below, is_serial, class_at, lacks_op, has_many_objects, refusal_up, Op, Start, world_from, root_of, see, Seen, is_own}
use Words.{doing_of, In, Tree}
use Words.body
use Words.event
use Words.input
use Rattle.arj_law_runs.proofs.Terms.{Act, acts, act_in, path, uids, own_is, paths_of}
use Rattle.arj_law_runs.proofs.calls.CoordKnown.{root_own}
use Rattle.arj_law_runs.proofs.follow.Along.{Ended, Outcome, Went, event_of, runs_along}
use Rattle.arj_law_runs.proofs.follow.Reasons.{refused_by_any}
use Rattle.arj_law_runs.proofs.follow.Refusing as refusing
use Rattle.arj_law_runs.proofs.follow.Refusing.{Came, IsRefused, IsRun}
use Rattle.arj_law_runs.proofs.journal.{Beginning.IsNamed, Beginning.named_at, Models.apart_acts}
use Rattle.arj_law_runs.specs.coordinators.Rooms.{objects_at}
use Rattle.arj_law_cause.proofs.follow.causes.Reasons.{Agrees, Finds, IsSame, all_same, both, left, node_agrees, right, world_agrees}
use Rattle.arj_law_cause.proofs.follow.causes.Roots.{root_there}
use Rattle.arj_law_cause.specs.follow.causes.Refusals.{asks_object, is_met, too_many}
use Rattle.arj_law_lock_view.proofs.Terms.{same_number}
use Rattle.arj_law_lock_view.specs.asking.Asked.{accepted_of}
use Rattle.arj_law_parts.proofs.moves.Events.{move_with}
use Rattle.arj_law_parts.proofs.moves.Firsts.{first_stands as first_places}
use Rattle.arj_law_parts.specs.moves.Moments.{Asking, History, Moment, come, gone, no_history}
use Rattle.arj_law_parts.specs.moves.Seen as seen
use Rattle.arj_law_parts.specs.moves.With.{HoldsWith, asked_of_node, look, past_event, past_unless, written}
use Rattle.arj_law_parts.specs.steps.Named.{HasNames}
use Rattle.arj_law_parts.specs.steps.Writes.{asks}
use Rattle.arj_model.specs.Actions.{root_in}
use Rattle.arj_model.specs.Past.{Asked as AskedOf, Past, asked_of, at_start, is_refused}
use Rattle.arj_model.specs.Refusals as model
use Rattle.arj_model.specs.Refusals.{asks_by, is_ask_by, is_root, object_used, objects_from, with_object}
use Rattle.arj_promise.specs.Runs.{HeaderFits, IsStoppedInForm}
use Rattle.arj_promise.specs.Starts.{IsFormed}
use Rattle.arj_protocol.specs.World as world
use Rattle.arj_start.specs.Limits.{most_objects}
use Rattle.arj_law_cause.proofs.waits.waiting.Acting as acting
use Rattle.arj_law_cause.proofs.waits.waiting.Asked.{Grown, grown}
use Rattle.arj_law_cause.proofs.waits.waiting.Running as running
use Rattle.arj_law_cause.proofs.waits.waiting.Running.{IsSame as IsSameRun, Leaves, Ran, Stopped}
use Rattle.arj_law_cause.proofs.waits.objects.Keeping.{All, IsRooted, all_keep, ask_uses, is_ask, root_at_number}
use Rattle.arj_law_cause.proofs.waits.objects.Used.{is_rooted, used_from, used_in}
use Rattle.arj_law_cause.specs.waits.objects.Refusals.{ObjectRefusalsFollow, ObjectRefusalsStep}

-- ---- what was asked

-- the calls and includes of these
abbrev asks_in : List AskedOf → List AskedOf
asks_in acc = filter (λ (a : AskedOf). is_ask a.event) acc

-- a call or an include is one of its action
ask_label : (e : Event) → is_ask e ≡ true → (l : List ℕ) × (is_ask_by l e ≡ true)
ask_label (event.Call m x o) is = (name m, (bytes_eq-Decides (name m) (name m)).1 refl)
ask_label (event.Include m x n) is = (name m, (bytes_eq-Decides (name m) (name m)).1 refl)
ask_label e is = absurd (cc is)

longer : {A : Type 0} (xs : List A) (a : A) → xs ≡ xs ++ a ∷ [] → ⊥
longer xs a is = by (length xs) (ap length is ∙ length-append xs (a ∷ []))
  where
    by : (n : ℕ) → n ≡ n + 1 → ⊥
    by n same = omega (arith, same)

-- with one more
by_more : (acc : List AskedOf) (a : AskedOf) (l : List ℕ) → is_ask_by l a.event ≡ true → asks_by (acc ++ a ∷ []) l ≡ asks_by acc l ++ a ∷ []
by_more acc a l is = filter-append (λ (x : AskedOf). is_ask_by l x.event) acc (a ∷ [])
    ∙ (λ i. asks_by acc l ++ cond (is i) (a ∷ []) [])

in_more : (acc : List AskedOf) (a : AskedOf) → asks_in (acc ++ a ∷ []) ≡ asks_in acc ++ cond (is_ask a.event) (a ∷ []) []
in_more acc a = filter-append (λ (x : AskedOf). is_ask x.event) acc (a ∷ [])

in_same : (acc : List AskedOf) (a : AskedOf) → is_ask a.event ≡ false → asks_in (acc ++ a ∷ []) ≡ asks_in acc
in_same acc a is = in_more acc a ∙ (λ i. asks_in acc ++ cond (is i) (a ∷ []) []) ∙ append-nil (asks_in acc)

-- behind an event, by what each action was asked
module _ (P : List AskedOf) (A B : List Asking) (a : AskedOf) (before : (l : List ℕ) → asks_by P l ≡ asks_by (accepted_of A) l)
    (same : asks_in P ≡ asks_in (accepted_of A)) where
  both_more : (q : Asking) → q.asked ≡ a → asks_in (P ++ a ∷ []) ≡ asks_in (accepted_of A ++ q.asked ∷ [])
  both_more q is = in_more P a ∙ (λ i. same i ++ cond (is_ask a.event) (a ∷ []) []) ∙ sym (in_more (accepted_of A) a)
      ∙ (λ i. asks_in (accepted_of A ++ sym is i ∷ []))

  grown_asks : Grown a A B → (b : Bool) → ((l : List ℕ) → asks_by (if b then P else P ++ a ∷ []) l ≡ asks_by (accepted_of B) l) →
      asks_in (if b then P else P ++ a ∷ []) ≡ asks_in (accepted_of B)
  grown_asks (inl none) true after = same ∙ (λ i. asks_in (accepted_of (sym none i)))
  grown_asks (inl none) false after = by (is_ask a.event) refl ∙ (λ i. asks_in (accepted_of (sym none i)))
    where
      by : (z : Bool) → is_ask a.event ≡ z → asks_in (P ++ a ∷ []) ≡ asks_in (accepted_of A)
      by false is = in_same P a is ∙ same
      by true is =
          let l = ask_label a.event is in
          absurd (longer (asks_by P l.0) a (before l.0 ∙ (λ i. asks_by (accepted_of (sym none i)) l.0) ∙ sym (after l.0) ∙ by_more P a l.0 l.1))
  grown_asks (inr q) false after = both_more q.0 q.2 ∙ (λ i. asks_in (accepted_of (sym q.1 i)))
  grown_asks (inr q) true after = by (is_ask a.event) refl ∙ (λ i. asks_in (accepted_of (sym q.1 i)))
    where
      its : q.0.asked ≡ a
      its = q.2

      by : (z : Bool) → is_ask a.event ≡ z → asks_in P ≡ asks_in (accepted_of A ++ (let x = q.0 in x.asked) ∷ [])
      by false is = same ∙ sym (in_same (accepted_of A) a is) ∙ (λ i. asks_in (accepted_of A ++ sym q.2 i ∷ []))
      by true is =
          let l = ask_label a.event is in
          absurd (longer (asks_by P l.0) a (after l.0 ∙ (λ i. asks_by (accepted_of (q.1 i)) l.0)
          ∙ (λ i. asks_by (accepted_of A ++ q.2 i ∷ []) l.0) ∙ by_more (accepted_of A) a l.0 l.1
          ∙ (λ i. sym (before l.0) i ++ a ∷ [])))

-- ---- what was used

from_asks : (root : Option ℕ) (used : List ℕ) (acc : List AskedOf) → objects_from root used acc ≡ objects_from root used (asks_in acc)
from_asks root used [] = refl
from_asks root used (a ∷ acc) = by (is_ask a.event) refl (λ us. from_asks root us acc)
  where
    either : (b : Bool) → cond b used used ≡ used
    either true = refl
    either false = refl

    by : (z : Bool) → is_ask a.event ≡ z → ((us : List ℕ) → objects_from root us acc ≡ objects_from root us (asks_in acc)) →
        objects_from root (cond (is_root (root_in a.path) root) (with_object used (object_used a.event)) used) acc
        ≡ objects_from root used (cond z (a ∷ asks_in acc) (asks_in acc))
    by true is rest = rest (cond (is_root (root_in a.path) root) (with_object used (object_used a.event)) used)
    by false is rest = (λ i. objects_from root (cond (is_root (root_in a.path) root) (with_object used (ask_uses a.event is i)) used) acc)
        ∙ ap (λ us. objects_from root us acc) (either (is_root (root_in a.path) root)) ∙ rest used

used_asks : (r : Uid) (used : List ℕ) (acc : List AskedOf) → used_from r used acc ≡ used_from r used (asks_in acc)
used_asks r used [] = refl
used_asks r used (a ∷ acc) = by (is_ask a.event) refl (λ us. used_asks r us acc)
  where
    either : (b : Bool) → cond b used used ≡ used
    either true = refl
    either false = refl

    by : (z : Bool) → is_ask a.event ≡ z → ((us : List ℕ) → used_from r us acc ≡ used_from r us (asks_in acc)) →
        used_from r (cond (is_rooted r a) (with_object used (object_used a.event)) used) acc
        ≡ used_from r used (cond z (a ∷ asks_in acc) (asks_in acc))
    by true is rest = rest (cond (is_rooted r a) (with_object used (object_used a.event)) used)
    by false is rest = (λ i. used_from r (cond (is_rooted r a) (with_object used (ask_uses a.event is i)) used) acc)
        ∙ ap (λ us. used_from r us acc) (either (is_rooted r a)) ∙ rest used

-- where each was asked of an action whose root is one of the journal's
module _ (S : Seen) (R : Act) (root : In R (acts S.lines)) (distinct : (x : Act) → In x (acts S.lines) → (x.id == R.id) ≡ uid_eq x.uid R.uid) where
  same_used : (used : List ℕ) (acc : List AskedOf) → AllByRecursion (IsRooted S.lines) acc →
      objects_from (Some R.id) used (asks_in acc) ≡ used_from R.uid used (asks_in acc)
  same_used used [] all = refl
  same_used used (a ∷ acc) all = by (is_ask a.event) refl (λ us. same_used us acc all.1)
    where
      its : is_ask a.event ≡ true → is_root (root_in a.path) (Some R.id) ≡ is_rooted R.uid a
      its is = let r = all.0 is in
          (λ i. is_root (root_in (r.3 i)) (Some R.id)) ∙ distinct r.0 r.1 ∙ sym (λ i. uid_eq (first_uid (uids (r.3 i))) R.uid)

      by : (z : Bool) → is_ask a.event ≡ z →
          ((us : List ℕ) → objects_from (Some R.id) us (asks_in acc) ≡ used_from R.uid us (asks_in acc)) →
          objects_from (Some R.id) used (cond z (a ∷ asks_in acc) (asks_in acc))
          ≡ used_from R.uid used (cond z (a ∷ asks_in acc) (asks_in acc))
      by true is rest = (λ i. objects_from (Some R.id) (cond (its is i) (with_object used (object_used a.event)) used) (asks_in acc))
          ∙ rest (cond (is_rooted R.uid a) (with_object used (object_used a.event)) used)
      by false is rest = rest used

-- ---- what nodes find

abbrev finds_call : (l : Label) (x : ℕ) (o : Op) → Finds (input.Call l x o) l
finds_call l x o = record {
  reasons = λ h b c. (7, waits_above b c || waits_below b c) ∷ (11, is_serial b.kind) ∷ (12, b.doomed)
      ∷ (13, not (is_some (class_at x h))) ∷ (14, lacks_op o (class_at x h)) ∷ (16, has_many_objects b x c.tree) ∷ [];
  finds = λ h c. refl;
  rising = λ h b c. (refl, (refl, (refl, (refl, (refl, (refl, (refl, tt)))))));
  down = λ h. refl;
}

abbrev finds_include : (l : Label) (x s : ℕ) → Finds (input.Include l x s) l
finds_include l x s = record {
  reasons = λ h b c. (7, waits_above b c || waits_below b c) ∷ (11, is_serial b.kind) ∷ (12, b.doomed)
      ∷ (13, not (is_some (class_at x h))) ∷ (16, has_many_objects b x c.tree) ∷ [];
  finds = λ h c. refl;
  rising = λ h b c. (refl, (refl, (refl, (refl, (refl, (refl, tt))))));
  down = λ h. refl;
}

-- ---- runs

module _ (hd : Header) (form : HeaderFits hd) where
  -- a run up to an event, its history, and the world there
  pub record Stands (g : History) (p : Past) (w : World) : Type 0 where
    pub base : running.Stands hd form g p w
    pub all : HoldsWith hd All g w
    pub asks : asks_in p.accepted ≡ asks_in (accepted_of g.askings)

  module _ (m : Move) (g : History) (p : Past) (w : World) (stops : IsStoppedInForm m) (s : Stands g p w) (on : w.over ≡ false) where
    abbrev e : Event
    e = event_of m

    abbrev arm : Arm
    arm = let a = m.asked in a.arm

    abbrev u : World
    u = record w { arms = m.falls }

    abbrev t : World
    t = counted (record w { arms = m.falls })

    -- ---- at the node of a label

    module _ (l : Label) (n : Node) (v : Parts) (b : Branch) (at : at_place (node_of l t) t.nodes ≡ Some n) (live : n.live ≡ Some v)
        (named : branch_named l v.coord ≡ Some b) where
      abbrev M : Moment
      M = look g (let z = s.all.now in z.sent) w

      held : All (look g (let z = s.all.now in z.sent) w)
      held = s.all.now.holds

      abbrev S : Seen
      S = seen.with_sent held.0.0.0 (see (let z = s.all.now in z.sent) w)

      known : IsNamed v.coord l b
      known = named_at v.coord (let names : HasNames v.coord = held.0.0.2.0.0.1 (node_of l t) n v at live in names) l b named

      stands : acting.Stands S held.0.0.2.1 (node_of l t) n v at live (let z = known in z.act) (let z = known in z.doing)
      stands = acting.stands S held.0.0.2.1 (node_of l t) n v at live known.act known.doing known.does

      some_is : {A : Type 0} {x y : A} → Some x ≡ Some y → x ≡ y
      some_is {A} {x} {y} is = let k : ◌≡◌ {A = Option A} (Some x) (Some y) = is in cc

      branch_is : stands.branch ≡ b
      branch_is = some_is (sym stands.found ∙ known.found)

      r : (a : Act) × In a (acts w.lines) × (rest : List Act) × (path (acts w.lines) (name l) ≡ a ∷ rest)
      r = let q = root_there (acts w.lines) (name l) stands.act
          (ap (λ z. act_in (acts w.lines) z) (sym known.name_is) ∙ stands.named) in q

      root_uid : (let a = r.0 in a.uid) ≡ root_of b.path
      root_uid = sym (λ i. first_uid (uids (r.3 i)))
          ∙ ap first_uid ((λ i. uids (path (acts w.lines) (sym known.name_is i))) ∙ stands.path
          ∙ ap (λ (z : Branch). uids_of z.path) branch_is)

      own : is_own (root_of b.path) v.coord.tree ≡ true
      own = root_own held.0.0.2.1.0.0.0 (paths_of held.0.0.2.1.0.0.0) (acting.tree S held.0.0.2.1 (node_of l t) n v at live) v.coord
          (acting.coord S held.0.0.2.1 (node_of l t) n v at live) known.act b known.found

      its_root : root_at_number v.coord.tree (root_of b.path).num ≡ root_of b.path
      its_root = own_is (root_at_number v.coord.tree (root_of b.path).num) (root_of b.path) v.coord.tree
          (λ i. same_number v.coord.tree.node i && same_number v.coord.tree.inc i) own refl

      lines : p.lines ≡ w.lines
      lines = let z = s.base in z.base.base.lines

      -- the journal has of its root what the tree has
      objects_are : model.objects_of p (root_in (path (acts p.lines) (name l))) ≡ objects_at (root_of b.path).num v.coord.tree
      objects_are =
          let acc : List AskedOf = accepted_of g.askings in
          (λ i. objects_from (root_in (path (acts (lines i)) (name l))) [] p.accepted)
          ∙ (λ i. objects_from (root_in (r.3 i)) [] p.accepted)
          ∙ from_asks (Some (let a = r.0 in a.id)) [] p.accepted
          ∙ ap (objects_from (Some (let a = r.0 in a.id)) []) s.asks
          ∙ same_used S r.0 r.1 (λ x i. apart_acts (acts w.lines) (acting.distinct S held.0.0.2.1 (node_of l t) n v at live) x r.0 i r.1)
          [] acc held.1.paths
          ∙ sym (used_asks (let a = r.0 in a.uid) [] acc)
          ∙ ap (λ z. used_in z acc) (root_uid ∙ sym its_root)
          ∙ sym (held.1.used (node_of l t) n v at live (root_of b.path).num)

      pub many : (x : ℕ) → model.is_too_many p (name l) x ≡ has_many_objects b x v.coord.tree
      many x = λ i. not (has (objects_are i) x) && nat_le most_objects (length (objects_are i))

    -- ---- events

    there : (l : Label) → is_given l t ≡ true → (n : Node) × (at_place (node_of l t) t.nodes ≡ Some n)
    there l given = let q = refusing.labelled_so hd form m p w stops (let z = s.base in z.base) on l given in
        (q.1, ap (λ (o : Option Words.Labelled). at_place (Words.node_in o) t.nodes) q.2 ∙ q.3)

    asked : (l : Label) (i : Input) (f : Finds i l) (cs : List (ℕ × Bool)) → is_given l t ≡ true →
        ((n : Node) (v : Parts) (b : Branch) → at_place (node_of l t) t.nodes ≡ Some n → n.live ≡ Some v → branch_named l v.coord ≡ Some b →
        IsSame too_many cs (f.reasons t.header b v.coord)) → Agrees too_many (is_met too_many cs) (refused_at i t (at_place (node_of l t) t.nodes))
    asked l i f cs given tells =
        let n = there l given in
        subst (λ o. Agrees too_many (is_met too_many cs) (refused_at i t o)) (sym n.1)
        (node_agrees too_many refl t.header i l f (is_met too_many cs) (let x = n.0 in x.live)
        (λ v b live named. (tells n.0 v b n.1 live named).is))

    is_there : (l : Label) → first_reason ((5, not (world.is_known l t)) ∷ (6, world.was_given l t) ∷ []) ≡ None → is_given l t ≡ true
    is_there l free = by (world.was_given l t) (is_given l t) free
      where
        by : (g d : Bool) → first_reason ((5, not (g || d)) ∷ (6, g) ∷ []) ≡ None → d ≡ true
        by true d is = let no_way : ◌≡◌ {A = Option ℕ} (Some 6) None = is in absurd (cc no_way)
        by false true is = refl
        by false false is = let no_way : ◌≡◌ {A = Option ℕ} (Some 5) None = is in absurd (cc no_way)

    behind : (j : ℕ) (x : Bool) (rs : List (ℕ × Bool)) → first_reason ((j, x) ∷ rs) ≡ None → first_reason rs ≡ None
    behind j true rs is = let no_way : ◌≡◌ {A = Option ℕ} (Some j) None = is in absurd (cc no_way)
    behind j false rs is = is

    agrees : (ev : Event) → asks_object ev ≡ true → Agrees too_many (is_met too_many (model.causes hd p ev)) (refused_by_any ev t)
    agrees (event.Call l x o) asks =
        let ev = event.Call l x o in
        let i = input.Call l x o in
        world_agrees too_many refl (is_met too_many (model.causes hd p ev)) (reasons ev t) (refused_at i t (at_place (node_of l t) t.nodes)) refl
        (λ free. asked l i (finds_call l x o) (model.causes hd p ev) (is_there l free) (λ n v b at live named.
        left refl (left refl (left refl (left refl (left refl (left refl (right refl (right refl (right refl (right refl (right refl
        (both (many l n v b at live named x) all_same)))))))))))))
    agrees (event.Include l x j) asks =
        let ev = event.Include l x j in
        let i = input.Include l x j in
        world_agrees too_many refl (is_met too_many (model.causes hd p ev)) (reasons ev t) (refused_at i t (at_place (node_of l t) t.nodes)) refl
        (λ free. asked l i (finds_include l x j) (model.causes hd p ev)
        (is_there l (behind 1 (not (world.is_node j t)) ((5, not (world.is_known l t)) ∷ (6, world.was_given l t) ∷ []) free))
        (λ n v b at live named.
        left refl (left refl (left refl (left refl (left refl (left refl (right refl (right refl (right refl (right refl
        (both (many l n v b at live named x) all_same))))))))))))
    agrees ev asks = absurd (cc asks)

    follows : (bodies : List Body) → Came (event_of m) arm t bodies → ObjectRefusalsStep hd p (event_of m) bodies
    follows bodies came asks = by came
      where
        so : Agrees too_many (is_met too_many (model.causes hd p (event_of m))) (refused_by_any (event_of m) t)
        so = agrees (event_of m) asks

        same_line : (d : ℕ) → ◌≡◌ {A = List Body} (body.Refused d ∷ []) (body.Refused too_many ∷ []) → d ≡ too_many
        same_line d is = let k : d ≡ too_many = cc is in k

        one : (a d : ℕ) → Some a ≡ Some d → a ≡ d
        one a d is = let k : ◌≡◌ {A = Option ℕ} (Some a) (Some d) = is in cc

        by : Came (event_of m) arm t bodies →
            (bodies ≡ body.Refused too_many ∷ [] → is_met too_many (model.causes hd p (event_of m)) ≡ true)
            × (is_met too_many (model.causes hd p (event_of m)) ≡ true → (d : ℕ) × (d ≤ too_many) × (bodies ≡ body.Refused d ∷ []))
        by (IsRefused d refused is) = (
          λ line. so.0 (refused ∙ ap Some (same_line d (sym is ∙ line))),
          λ met. let q = so.1 met in (q.0, q.1, is ∙ ap (λ k. body.Refused k ∷ []) (one d q.0 (sym refused ∙ q.2))),
        )
        by (IsRun none isnt wrote) = (
          λ line. let no_way : true ≡ false = sym (ap is_refused line) ∙ isnt in absurd (cc no_way),
          λ met. let q = so.1 met in let no_way : ◌≡◌ {A = Option ℕ} None (Some q.0) = sym none ∙ q.2 in absurd (cc no_way),
        )

    -- ---- what was asked behind it

    same_asked : asked_of g.run (event_of m) ≡ asked_of p (event_of m)
    same_asked = let z = s.base in let q = z.same in
        λ i. asked_of (record { start = p.start; count = q.count i; accepted = p.accepted; lines = q.lines i }) (event_of m)

    its_growth : Grown (asked_of p (event_of m)) g.askings (past_event m.asked (record w { arms = m.falls }) g).askings
    its_growth = subst (λ a. Grown a g.askings (past_event m.asked (record w { arms = m.falls }) g).askings) same_asked
        (over_it w.over on)
      where
        free : (z : Bool) → Grown (asked_of g.run (event_of m)) g.askings (if z then g else
            gone (written u (run_event m.asked u)) (asked_of_node (asks (event_of m) u) u (come (event_of m) g))).askings
        free true = inl refl
        free false = grown (event_of m) u g

        by : (o : Option ℕ) → Grown (asked_of g.run (event_of m)) g.askings
            (past_unless (event_of m) u (run_event m.asked u) g o).askings
        by (Some c) = inl refl
        by None = free (lacks_labels (giving (event_of m) u) u)

        over_it : (z : Bool) → z ≡ false → Grown (asked_of g.run (event_of m)) g.askings
            (if z then g else past_unless (event_of m) u (run_event m.asked u) g (first_reason (reasons (event_of m) u))).askings
        over_it true is = absurd (cc is)
        over_it false is = by (first_reason (reasons (event_of m) u))

  abbrev pub Inv : Past → World → Type 0
  Inv p w = (g : History) × Stands g p w

  pub goes : (m : Move) (p : Past) (w : World) → IsStoppedInForm m → Inv p w → w.over ≡ false → Outcome (ObjectRefusalsStep hd) Inv m p w
  goes m p w stops s on = by (running.leaves hd form m s.0 p w stops (let z = s.1 in z.base) on)
    where
      by : Leaves hd form m s.0 p w stops (let z = s.1 in z.base) on → Outcome (ObjectRefusalsStep hd) Inv m p w
      by (Ran bodies came after stands) =
          let z = s.1 in
          let b = z.base in
          Went bodies (follows m s.0 p w stops s.1 on bodies came) (
            past_event m.asked (record w { arms = m.falls }) s.0,
            record {
              base = stands;
              all = move_with hd All (all_keep hd) m s.0 w z.all;
              asks = grown_asks p.accepted (let g = s.0 in g.askings) (past_event m.asked (record w { arms = m.falls }) s.0).askings
                  (asked_of p (event_of m)) b.asked z.asks (its_growth m s.0 p w stops s.1 on) (is_refused bodies) stands.asked;
            },
          )
      by (Stopped over event lines past nodes) = Ended over event lines

  pub first_stands : (st : Start) → IsFormed hd st → Stands (no_history st) (at_start st) (world_from hd st)
  first_stands st formed = record {
    base = running.first_stands hd form st formed;
    all = record {
      now = record {
        sent = [];
        stands = first_places hd st;
        number = refl;
        wrote = ([], refl);
        holds = (let k = all_keep hd in k.first st formed);
      };
      count = refl;
      lines = λ over. refl;
    };
    asks = refl;
  }

pub objects_follow : ObjectRefusalsFollow
objects_follow hd r form =
    runs_along (ObjectRefusalsStep hd) (Inv hd form.header) IsStoppedInForm
    (λ p w s. let z = s.1 in let b = z.base in b.base.base.lines) (λ p w s. let z = s.1 in let b = z.base in b.base.base.count)
    (goes hd form.header) r.start r.moves (world_from hd r.start) form.stops (no_history r.start, first_stands hd form.header r.start r.formed)
