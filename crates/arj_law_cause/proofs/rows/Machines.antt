-- By the lock machine of a call's object no two incarnations of a binding's server are named: an Invoke names the one that its root keeps,
-- and naming answers with that one.
use Rattle.arj_law_parts.proofs.Words
use Words.{◌≡◌, ◌∙◌, ℕ, List, [], ◌∷◌, Option, Some, None, Bool, true, false, refl, sym, ap, subst, is_some, first_uid, eqb-true}
use Words.{Ask, Asked, Head, Message, Post, Reply, Uid, Header, Seen, Disk, Parts, Node, Binding, asks, answers, asked_by}
use Words.{Branch, branch_of, root_of, doing_of, Doing, Steps, Calling, Known, Run, AtInvoke, kept_at, kept_of, keeping_of, root_at}
use Words.{binding_eq, binding_number, cond, Op, top_of, ⊤, AllByRecursion, Committing, Machine, Root, Said, Used, inl, inr, no_root, plan_of}
use Words.list
use Words.ask
use Words.bound
use Words.message
use Rattle.arj_promise.specs.Runs.{HeaderFits}
use Rattle.arj_law_serial.proofs.Terms
use Terms.{Action, AgreesApart, AgreesAs, AreApart, AreTied, Fixed, IsSeenIn, KnowsFew, SeesLocks, State, case_of, code_of, first_values}
use Terms.{view_of}
use Terms.{object_line, OpsFit, RequestsAreOne, World as Disks}
use Rattle.arj_law_lock.specs.machine.Actions.{root}
use Rattle.arj_law_lock_view.proofs.Terms.{IsSteady, IsNamedSo, SeesCoord, SeesKept, SeesRoot, SeesStep, SeesUp, on_root}
use Rattle.arj_law_lock_view.proofs.running.GoodSteps as good_steps
use Rattle.arj_law_lock_view.proofs.view.TreeSteps.{root_there}
use Rattle.arj_law_lock_view.specs.facts.Entries.{HasObject}
use Rattle.arj_law_lock_view.specs.facts.Requests.{RequestsAreKnown}
use Rattle.arj_law_lock_view.specs.running.Posts.{IsAnswerSeen, IsAnsweredSeen, IsAskedSeen}
use Rattle.arj_law_lock_view.specs.view.Going.{ShowsBound}
use Rattle.arj_law_lock_view.specs.view.Hearing.{ShowsNamingReply}
use Rattle.arj_law_lock_view.specs.view.Roots.{SeesKeeping}
use Rattle.arj_law_parts.specs.moves.Keeps.{Holds}
use Rattle.arj_law_parts.specs.moves.Seen.{In, Within, up, with_sent}
use Rattle.arj_law_parts.proofs.parts.LivesNamed.{keyed_at}
use Rattle.arj_law_parts.specs.parts.{AskedObjects.IsNowOf, AskedObjects.IsRootOf}
use Rattle.arj_law_promise.proofs.Terms as promise
use promise.{IsUp, IsUsedIn, UsesOf, WaitsAreKnown}
use Rattle.arj_law_promise.proofs.waiting.{Keeping.waits_keep, Known.used_is}
use Rattle.arj_law_runs.proofs.kept.Handled.{it}
use Rattle.arj_law_runs.proofs.kept.Walked.{same_number}
use Rattle.arj_law_serial.proofs.joint
use joint.{Clean.object_some, JoinKeeps.WithTurns, JoinedParts.Base, JoinedParts.Carried, JoinedParts.Whole, Joining.HasLocks}
use joint.{Joining.WithLocks, LightKeeps.WithLights, NextGiven.one_requests, OrderedRuns.IsOrderedBeside}
use Rattle.arj_law_serial.proofs.order.{Codes.codes_are_apart, Seeing.agrees_at, Seeing.fixed_at}
use Rattle.arj_law_cause.specs.rows.Early.{IsEarly}
use Rattle.arj_law_cause.proofs.confirm.{Joined.beside, Labels.reached_world, Labels.world_of}
use Rattle.arj_law_cause.proofs.confirm.Reached.{IsOfWorld, Reached, reached_has, sees_at, within_of, world_at}

none_is : {A P : Type 0} {x : A} → None ≡ Some x → P
none_is {A} {P} {x} is = let no_way : ◌≡◌ {A = Option A} None (Some x) = is in absurd (cc no_way)

some_is : {A : Type 0} {a b : A} → Some a ≡ Some b → a ≡ b
some_is {A} {a} {b} is = let k : ◌≡◌ {A = Option A} (Some a) (Some b) = is in cc

-- no request is an answer
not_both : {P : Type 0} (m : Message) (q : Head × Ask) (z : Asked × Reply) → asks m ≡ Some q → answers m ≡ Some z → P
not_both (message.Bind m) q z a b = none_is b
not_both (message.Load m) q z a b = none_is b
not_both (message.Activate m) q z a b = none_is b
not_both (message.RecordMsg m) q z a b = none_is b
not_both (message.Invoke m) q z a b = none_is b
not_both (message.Vote m) q z a b = none_is b
not_both (message.Prepare m) q z a b = none_is b
not_both (message.Confirm m) q z a b = none_is b
not_both m q z a b = none_is a

all_in : {A : Type 0} (P : A → Type 0) (a : A) (xs : List A) → AllByRecursion P xs → list.In a xs → P a
all_in P a [] every i = absurd i
all_in {A} P a (x ∷ xs) every (inl same) = subst P same every.0
all_in P a (x ∷ xs) every (inr i) = all_in P a xs every.1 i

-- what is seen at a node that is up, of a run that reached it
module _ (hd : Header) (form : HeaderFits hd) (k : ℕ) (d : Disk) (t : Parts) (M : Seen) (sent : List Post)
    (reached : Reached hd (with_sent sent (up k d t M))) (early : IsEarly M.lines) where
  abbrev mine : Node
  mine = record { number = k; disk = d; live = Some t }

  abbrev U : List Post → Seen
  U more = up k d t (with_sent more M)

  here : (more : List Post) → (U more).nodes k ≡ Some mine
  here more = λ i. cond (same_number k i) (Some mine) (M.nodes k)

  -- ---- its objects

  known : WaitsAreKnown hd (U sent)
  known = reached_has hd (WaitsAreKnown hd) (waits_keep hd form) (with_sent sent (up k d t M)) reached

  its_up : IsUp (let e = known.0.0.0.0 in e.0) sent M.labels k d.inc t
  its_up = let e = known.0.0.0.0 in it 0 k d t (with_sent sent M) (e.0, e.1)

  uses : UsesOf (HasObject hd) t.coord.tree
  uses = let w = known.0.1.0.1 in (w.works k mine t (here sent) refl).1

  pub its_object : (u : Uid) (w : Doing) (s : Steps) → doing_of u t.coord ≡ Some w → w.now ≡ Calling s → is_some (object_line hd s.x) ≡ true
  its_object u w s does now =
      let used : IsUsedIn t.coord.tree (let r = root_of s.path in r.num) s.x =
      subst (IsNowOf t.coord.tree) now (let o = its_up.objects in o.works u w does) in
      object_some hd s.x (used_is (HasObject hd) t.coord.tree uses (let r = root_of s.path in r.num) s.x used)

  -- and those of calls that roots were answered, and of plans of commits
  pub said_object : (root : Uid) (s : Said) → list.In s (let r = root_at root t.coord in r.said) → is_some (object_line hd s.x) ≡ true
  said_object root s i =
      let o = its_up.objects in
      let all : IsRootOf t.coord.tree root.num (root_at root t.coord) =
      keyed_at (λ y (r : Root). IsRootOf t.coord.tree y r) no_root root.num (tt, tt) t.coord.roots o.roots in
      object_some hd s.x (used_is (HasObject hd) t.coord.tree uses root.num s.x
      (all_in (λ (z : Said). IsUsedIn t.coord.tree root.num z.x) s (let r = root_at root t.coord in r.said) all.0 i))

  pub plan_object : (u : Uid) (w : Doing) (m : Machine) → doing_of u t.coord ≡ Some w → w.now ≡ Committing m → (v : Used) →
      list.In v (let p = plan_of m in p.used) → HasObject hd v.x
  plan_object u w m does now v i =
      let p = plan_of m in
      let used : IsUsedIn t.coord.tree (let r = root_of p.path in r.num) v.x =
      all_in (λ (z : Used). IsUsedIn t.coord.tree (let r = root_of p.path in r.num) z.x) v p.used
      (subst (IsNowOf t.coord.tree) now (let o = its_up.objects in o.works u w does)) i in
      used_is (HasObject hd) t.coord.tree uses (let r = root_of p.path in r.num) v.x used

  -- ---- the lock machine of one

  -- the object is seen by its lock machine
  pub record IsLocked (x : ℕ) : Type 0 where
    pub more : List Post
    pub within : Within sent more
    pub world : Disks
    pub locks : HasLocks (first_values hd) x (Whole x) (λ f S N. ⊤) world (U more)
    pub few : KnowsFew (U more)

  pub is_locked : (x : ℕ) → is_some (object_line hd x) ≡ true → IsLocked x
  is_locked x there = record {
    more = more;
    within = within_of hd (U sent) h more holds.stands;
    world = (let A = holds.holds.2 in A.world);
    locks = subst (λ (Z : Seen). HasLocks (first_values hd) x (Whole x) (λ f S N. ⊤) (let A = holds.holds.2 in A.world) Z)
        (sees_at hd (U sent) h more) (let p = holds.holds.4 in p.0.0.1);
    few = subst KnowsFew (sees_at hd (U sent) h more) holds.holds.5;
  }
    where
      h : IsOfWorld hd (U sent)
      h = world_of hd (U sent) reached

      lines : (world_at hd (U sent) (world_of hd (U sent) reached)).lines ≡ M.lines
      lines = ap (λ (Z : Seen). Z.lines) (sees_at hd (U sent) (world_of hd (U sent) reached) sent)

      holds : Holds hd (IsOrderedBeside (Base hd x) (λ tops A N.
          WithLights x (WithTurns x (WithLocks (first_values hd) x (Whole x) (λ f S L. ⊤) (Carried hd x))) tops A N) hd x)
          (world_at hd (U sent) (world_of hd (U sent) reached))
      holds = beside hd x form there (world_at hd (U sent) (world_of hd (U sent) reached))
          (reached_world hd (U sent) reached early.few early.short) (subst (OpsFit x) (sym lines) (early.fit x))

      more : List Post
      more = holds.sent

  module _ (x : ℕ) (m : IsLocked x) where
    abbrev N : Seen
    N = U m.more

    abbrev begun : List Action
    begun = m.locks.0

    pub requests : RequestsAreOne N
    requests = one_requests x begun N m.few m.locks.2.0

    -- the requests of all messages that it sees are known
    pub asked_known : RequestsAreKnown N
    asked_known = (let q = m.locks.2.0 in q.requests)

    pub seen : (f : Fixed) → AreApart f.code → AgreesAs (first_values hd) N.start.marks f x begun m.more →
        (S : State) × SeesLocks f x begun S N × AreTied f x M.lines S
    seen f apart a = let g = m.locks.3 f (a.0, (a.1, apart)) in (g.0, g.1, g.2)

    abbrev f : Fixed
    f = fixed_at (first_values hd) x N begun m.locks.1 seen requests code_of

    pub agrees : AgreesApart (first_values hd) N.start.marks f x begun m.more
    agrees = let a = agrees_at (first_values hd) x N begun m.locks.1 seen requests code_of in (a.0, (a.1, codes_are_apart))

    abbrev S : State
    S = (m.locks.3 f agrees).0

    sees : SeesLocks f x begun S N
    sees = (m.locks.3 f agrees).1

    is_seen : IsSeenIn (case_of f x begun S) N
    is_seen = record {
      good = m.locks.1.0;
      alike = m.locks.1.1;
      written = m.locks.1.2;
      agrees = agrees.0;
      sees = sees;
      tied = (m.locks.3 f agrees).2;
    }

    steady : IsSteady f.act f.paths t.coord
    steady = good_steps.steady (case_of f x begun S) (record { node = k; disk = d; parts = t; seen = with_sent m.more M }) is_seen

    memory : SeesUp (view_of f x begun k) S d t
    memory = sees.nodes k mine (here m.more)

    coord : SeesCoord f.act f.code x t.coord S
    coord = let w = memory.coord in w.coord

    -- what a root keeps
    module _ (u : Uid) (b : Branch) (found : branch_of u t.coord.tree ≡ Some b) where
      root_seen : SeesRoot f.act x (root_of b.path) (root_at (root_of b.path) t.coord) t.coord.tree S
      root_seen =
          let g = steady.good in
          let z = g.tree in
          let r = root_there f.act f.paths x t.coord S.action steady coord.actions u b found in
          coord.roots (root_of b.path) r.0 r.1 (ap first_uid (z.lists.paths_are (root_of b.path) r.0 r.1)
          ∙ steady.alike.units (root_of b.path) u (sym (on_root (f.act u) (f.act (root_of b.path))
          (steady.alike.above u (root_of b.path) ∙ r.2)))
          ∙ ap first_uid (sym (z.lists.paths_are u b found)))

      pub keeps : (old : Known) → kept_of x (root_at (root_of b.path) t.coord) ≡ Some old →
          SeesKept (root (f.act (root_of b.path))) old S
      keeps old is = subst (λ o. SeesKeeping (root (f.act (root_of b.path))) o
          (let q = keeping_of x (root_at (root_of b.path) t.coord) in q.avoid) S) is root_seen.keeping

    module _ (u : Uid) (w : Doing) (s : Steps) (o : Op) (b : Branch) (does : doing_of u t.coord ≡ Some w) (now : w.now ≡ Calling s)
        (of : s.x ≡ x) (goal : s.goal ≡ Run o) (found : branch_of u t.coord.tree ≡ Some b) (path : b.path ≡ s.path) where
      its_keeps : (old : Known) → kept_at s t.coord ≡ Some old → SeesKept (root (f.act (root_of b.path))) old S
      its_keeps old is = keeps u b found old ((λ i. kept_of (sym of i) (root_at (root_of (path i)) t.coord)) ∙ is)

      step : SeesStep f.act f.code s o (keeping_of x (root_at (root_of s.path) t.coord)) S s.at
      step = coord.calls u w s o does now of goal

      -- an Invoke names the incarnation that the root keeps
      pub invoke_named : (y : Known) (i : ℕ) → s.at ≡ AtInvoke y i →
          (old : Known) × (kept_at s t.coord ≡ Some old) × (binding_number old.binding ≡ binding_number y.binding) × (old.inc ≡ Some i)
      invoke_named y i at = (z.0.old, keeps_it, z.0.same, by (let q = z.0.old in q.inc) refl)
        where
          z : SeesStep f.act f.code s o (keeping_of x (root_at (root_of s.path) t.coord)) S (AtInvoke y i)
          z = subst (SeesStep f.act f.code s o (keeping_of x (root_at (root_of s.path) t.coord)) S) at step

          keeps_it : kept_at s t.coord ≡ Some z.0.old
          keeps_it = (λ j. kept_of (of j) (root_at (root_of s.path) t.coord)) ∙ z.0.is

          so : SeesKept (root (f.act (root_of b.path))) z.0.old S
          so = its_keeps z.0.old keeps_it

          named_old : IsNamedSo S (let q = z.0.old in q.binding) i
          named_old = (
            ap (λ j. (let c = S.binding j in c.named)) z.0.same ∙ z.2.0,
            ap (λ j. (let c = S.binding j in c.incarnation))
                z.0.same ∙ z.2.1,
          )

          by : (j : Option ℕ) → (let q = z.0.old in q.inc) ≡ j → (let q = z.0.old in q.inc) ≡ Some i
          by None none = let no_way : false ≡ true = sym (so.unnamed none).0 ∙ named_old.0 in absurd (cc no_way)
          by (Some j) some = some ∙ ap Some (sym (so.named j some).1 ∙ named_old.1)

      -- a message that was sent to the node is an answer to what was sent, and shows what that asked for
      answer_seen : (from : ℕ) (p : Message) (a : Asked) (r : Reply) → In (record { from = from; to = k; message = p }) m.more →
          answers p ≡ Some (a, r) → IsAnswerSeen (view_of f x begun k) m.more (record { from = from; to = k; message = p }) (a, r) S
      answer_seen from p a r there is = by (asks p) refl (sees.posts (record { from = from; to = k; message = p }) there)
        where
          by : (q : Option (Head × Ask)) → asks p ≡ q →
              IsAskedSeen (view_of f x begun k) m.more (record { from = from; to = k; message = p }) S q →
              IsAnswerSeen (view_of f x begun k) m.more (record { from = from; to = k; message = p }) (a, r) S
          by (Some q) e shown = not_both p q (a, r) e is
          by None e shown = subst (IsAnsweredSeen (view_of f x begun k) m.more (record { from = from; to = k; message = p }) S) is shown

      -- What naming answers with a live binding is to a request of the node; and if that was a Bind of the object, the incarnation that
      -- the root keeps is the one that is answered.
      pub live_named : (from : ℕ) (p : Message) (a : Asked) (c : Binding) (server i g : ℕ) (stores : List ℕ) →
          In (record { from = from; to = k; message = p }) m.more → answers p ≡ Some (a, Reply.Bound (bound.Live c server i g stores)) →
          (head : Head) × (asked : Ask) × (request : Message) × In (record { from = k; to = from; message = request }) m.more
          × (asks request ≡ Some (head, asked)) × (asked_by head ≡ a) × ((include : Bool) (avoid : Binding) →
          asked ≡ ask.Bind x include avoid → (old : Known) (first : ℕ) → kept_at s t.coord ≡ Some old → old.inc ≡ Some first →
          binding_eq old.binding c ≡ true → first ≡ i)
      live_named from p a c server i g stores there is = (
        z.head,
        z.ask,
        z.request,
        z.asked,
        z.is,
        z.of,
        λ include avoid asked. same_inc
            include
            avoid asked,
      )
        where
          z : IsAnswerSeen (view_of f x begun k) m.more (record { from = from; to = k; message = p })
              (a, Reply.Bound (bound.Live c server i g stores)) S
          z = answer_seen from p a (Reply.Bound (bound.Live c server i g stores)) there is

          same_inc : (include : Bool) (avoid : Binding) → z.ask ≡ ask.Bind x include avoid → (old : Known) (first : ℕ) →
              kept_at s t.coord ≡ Some old → old.inc ≡ Some first → binding_eq old.binding c ≡ true → first ≡ i
          same_inc include avoid asked old first keeps_it has same =
              sym (so.named first has).1 ∙ ap (λ j. (let q = S.binding j in q.incarnation))
              (eqb-true (binding_number old.binding) (binding_number c) same) ∙ shown.2.1
            where
              so : SeesKept (root (f.act (root_of b.path))) old S
              so = its_keeps old keeps_it

              shown : ShowsBound f.act (top_of (let q = z.head in q.path)) avoid S (Some (bound.Live c server i g stores))
              shown = (subst (λ y. ShowsNamingReply (view_of f x begun k) z.head y S (Reply.Bound (bound.Live c server i g stores))) asked
                  z.naming) refl

-- a binding that is kept of a call that was answered, and is known to be recorded, has its server's incarnation
module _ (hd : Header) (form : HeaderFits hd) (k : ℕ) (d : Disk) (t : Parts) (M : Seen) (sent : List Post)
    (reached : Reached hd (with_sent sent (up k d t M))) (early : IsEarly M.lines) where
  pub kept_inc : (u : Uid) (b : Branch) → branch_of u t.coord.tree ≡ Some b → (s : Said) →
      list.In s (let r = root_at (root_of b.path) t.coord in r.said) → (old : Known) →
      kept_of s.x (root_at (root_of b.path) t.coord) ≡ Some old → old.recorded ≡ true → (i : ℕ) × (old.inc ≡ Some i)
  kept_inc u b found s there old is recorded =
      let m = is_locked hd form k d t M sent reached early s.x (said_object hd form k d t M sent reached early (root_of b.path) s there) in
      let z = keeps hd form k d t M sent reached early s.x m u b found old is in (z.recorded recorded).1
