-- Each request that was sent is about objects of the header, and can be meant by what it says.
use Rattle.arj_law_parts.proofs.Words
use Words.{◌≡◌, ◌∙◌, ℕ, List, [], ◌∷◌, true, false, Option, Some, None, IfSome, refl, sym, ap, subst, map, filter, AllByRecursion}
use Words.{Ask, Binding, Head, Header, ObjectState, Uid, object, At, AtActivate, AtBind, AtInvoke, AtLoad, AtNote, Goal, Include, Run}
use Words.{Steps, ask_at, next_ask, Confirming, Machine, Preparing, Used, Voting, ask_of, Plan, plan_of, states_for, state_for}
use Words.{is_at_server}
use Words.{Calling, Committing, Doing, Idle, Now, doing_of, kept_of, root_at, Disk, Parts, are_of_objects, stand_once, Node, root_of, Seen}
use Words.{class_at, cons_option, filter_map, lacks_op}
use Words.ask
use Rattle.arj_law_promise.proofs.Terms
use Terms.{IsNumbered, AreOnce, IsUp, up, it, node_here, HasObject, WaitsAreKnown, UsesOf, kind_of, stored, NowIsSo, OwnOf, HeaderFits}
use Terms.{IsUsedIn, IsSentBy, all_each, all_filter}
use Rattle.arj_law_disk_view.specs.running.{States.AtIsSo}
use Rattle.arj_law_parts.specs.parts.{AskedObjects.IsNowOf}
use Rattle.arj_law_promise.proofs.meant.Posts.{posts_keep}
use Rattle.arj_law_promise.proofs.waiting
use waiting.Gives.{stand_in_order}
use waiting.Keeping.{waits_keep}
use waiting.Known.{all_send, are_objects, object_is, used_is}
use Rattle.arj_law_promise.specs.meant.Meant.{AskFits, HandlersKeepMeant}
use Rattle.arj_law_runs.specs.addresses.Binds.{StandsOn}
use Rattle.arj_law_runs.specs.calls.Coords.{bare}
use Rattle.arj_protocol.specs.Call.{invoked_op}
use Rattle.arj_law_serial.specs.{joint.Forms.so_of, whole.Called.FitsGoal, whole.Called.IsOfHeader}

-- the ends that a call brings are nothing to it
fits_bare : (hd : Header) (a : Ask) → AskFits hd (bare a) → AskFits hd a
fits_bare hd (ask.Bind x include avoid) f = f
fits_bare hd (ask.Load x) f = f
fits_bare hd (ask.Activate b st) f = f
fits_bare hd (ask.Record x b i g) f = f
fits_bare hd (ask.Invoke x b i ends op) f = f
fits_bare hd (ask.Vote i ties ends) f = f
fits_bare hd (ask.Prepare states) f = f
fits_bare hd (ask.Confirm grants ex inc) f = f

-- ---- what a coordinator sends

module _ (hd : Header) (form : HeaderFits hd) (k : ℕ) (c : Disk) (v : Parts) (N : Seen) (known : WaitsAreKnown hd (up k c v N)) where
  abbrev here : Node
  here = record { number = k; disk = c; live = Some v }

  found : (let M = up k c v N in M.nodes k) ≡ Some here
  found = node_here N k here

  -- what waits there
  module _ (u : Uid) (q : Doing) (does : doing_of u v.coord ≡ Some q) where
    its_up : IsUp (let e = known.0.0.0.0 in e.0) N.sent N.labels k c.inc v
    its_up = let e = known.0.0.0.0 in it 0 k c v N (e.0, e.1)

    state_now : (x : ℕ) → NowIsSo (so_of (kind_of hd x)) q.now
    state_now x = let f = (known.1.0.0.0.1 x).0 k here found in let p = f.1 in let e = p.coord in e.works u q does

    -- a call
    module _ (s : Steps) (now : q.now ≡ Calling s) where
      its_goal : IsOfHeader hd s.x s.goal
      its_goal = let w = known.0.1.0.1 in (w.works k here v found refl).0 u q s does now

      stands : StandsOn s.goal (kept_of s.x (root_at (root_of s.path) v.coord)) s.at
      stands = let b = known.0.1.0.0.1 in let n = b.nodes k here v found refl in n.steps u q s does now

      call_fits : AskFits hd (next_ask [] s)
      call_fits = by s.at refl
        where
          by : (at : At) → s.at ≡ at → AskFits hd (ask_at s.x s.goal [] at)
          by (AtBind avoid) is = its_goal.0
          by (AtLoad z n rest) is = its_goal.0
          by (AtActivate z st) is = (subst (HasObject hd) (sym o.1) its_goal.0, (o.0).0)
            where
              o : OwnOf (stored (kind_of hd s.x)) s.x st
              o = subst (AtIsSo (so_of (kind_of hd s.x)) s.x) is (subst (NowIsSo (so_of (kind_of hd s.x))) now (state_now s.x))
          by (AtNote z i) is = its_goal.0
          by (AtInvoke z i) is = (its_goal.0, fits s.goal refl its_goal.2)
            where
              fits : (g : Goal) → s.goal ≡ g → FitsGoal hd s.x g → lacks_op (invoked_op g) (class_at s.x hd) ≡ false
              fits (Run o) goal ok = ok
              fits (Include n) goal ok = absurd (subst (λ z. StandsOn (Include n) (kept_of s.x (root_at (root_of s.path) v.coord)) z) is
                  (subst (λ z. StandsOn z (kept_of s.x (root_at (root_of s.path) v.coord)) s.at) goal stands))

    -- a commit
    module _ (m : Machine) (now : q.now ≡ Committing m) where
      objects : AllByRecursion (λ (w : Used). HasObject hd w.x) (plan_of m).used
      objects = all_each (λ (w : Used). IsUsedIn v.coord.tree (root_of (plan_of m).path).num w.x) (λ (w : Used). HasObject hd w.x)
          (plan_of m).used (λ w used. used_is (HasObject hd) v.coord.tree uses (root_of (plan_of m).path).num w.x used)
          (subst (IsNowOf v.coord.tree) now (let o = its_up.objects in o.works u q does))
        where
          uses : UsesOf (HasObject hd) v.coord.tree
          uses = let w = known.0.1.0.1 in (w.works k here v found refl).1

      once : AreOnce (plan_of m).used
      once = (subst (IsNumbered q.req) now (its_up.numbered u q does)).1.0

      loaded : AllByRecursion (λ (w : Used). IfSome w.loaded (λ st. st.uid ≡ object w.x)) (plan_of m).used
      loaded = all_each (λ (w : Used). IfSome w.loaded (OwnOf (stored (kind_of hd 0)) w.x)) (λ (w : Used). IfSome w.loaded (λ st. st.uid
          ≡ object w.x)) (plan_of m).used (λ w its. plain w w.loaded its) (let p = subst (NowIsSo (so_of (kind_of hd 0))) now (state_now 0)
          in p.used)
        where
          plain : (w : Used) (o : Option ObjectState) → IfSome o (OwnOf (stored (kind_of hd 0)) w.x) → IfSome o (λ st. st.uid ≡ object w.x)
          plain w None own = tt
          plain w (Some st) own = (own.0).0 ∙ ap object own.1

      -- states for stores are of objects that the plan uses
      sent_objects : (n : ℕ) (p : Plan) (us : List Used) → AllByRecursion (λ (w : Used). HasObject hd w.x) us →
          AllByRecursion (λ (w : Used). (st : ObjectState) → state_for n p w ≡ Some st → st.uid ≡ object w.x) us →
          AllByRecursion (λ (s : ObjectState). HasObject hd s.uid.num) (filter_map (state_for n p) us)
      sent_objects n p [] all sends = tt
      sent_objects n p (w ∷ us) all sends = by (state_for n p w) refl (sent_objects n p us all.1 sends.1)
        where
          by : (o : Option ObjectState) → state_for n p w ≡ o → AllByRecursion (λ (s : ObjectState). HasObject hd s.uid.num)
              (filter_map (state_for n p) us) → AllByRecursion (λ (s : ObjectState). HasObject hd s.uid.num)
              (cons_option o (filter_map (state_for n p) us))
          by None is ih = ih
          by (Some st) is ih = (subst (HasObject hd) (sym (ap (λ (z : Uid). z.num) (sends.0 st is))) all.0, ih)

      commit_fits : (to : ℕ) → AskFits hd (ask_of m to)
      commit_fits to = by m refl
        where
          ties : (us : List Used) → AllByRecursion (λ (w : Used). HasObject hd w.x) us →
              AllByRecursion (λ (e : ℕ × Binding). HasObject hd e.0) (map {A = Used} {B = ℕ × Binding} (λ w. (w.x, w.binding)) us)
          ties [] all = tt
          ties (w ∷ us) all = (all.0, ties us all.1)

          grants : (us : List Used) → AllByRecursion (λ (w : Used). HasObject hd w.x) us →
              AllByRecursion (λ (g : ℕ × ℕ). HasObject hd g.0) (map {A = Used} {B = ℕ × ℕ} (λ w. (w.x, w.grant)) us)
          grants [] all = tt
          grants (w ∷ us) all = (all.0, grants us all.1)

          by : (n : Machine) → m ≡ n → AskFits hd (ask_of n to)
          by (Voting p nodes) is = subst (λ z. AllByRecursion (λ (e : ℕ × Binding). HasObject hd e.0)
              (map {A = Used} {B = ℕ × Binding} (λ w. (w.x, w.binding)) (filter (is_at_server to) (plan_of z).used))) is
              (ties (filter (is_at_server to) (plan_of m).used) (all_filter (λ (w : Used). HasObject hd w.x) (is_at_server to)
              (plan_of m).used objects))
          by (Preparing p nodes) is = subst (λ z. (are_of_objects (states_for to (plan_of z)) ≡ true)
              × AllByRecursion (λ (s : ObjectState). HasObject hd s.uid.num) (states_for to (plan_of z))) is (
                are_objects to (plan_of m) (HasObject hd) (object_is hd form) (plan_of m).used
                    (all_send to (plan_of m) (plan_of m).used loaded) objects once,
                sent_objects to (plan_of m) (plan_of m).used objects (all_send to (plan_of m) (plan_of m).used loaded),
              )
          by (Confirming p) is = subst (λ z. (stand_once (map (λ (g : ℕ × ℕ). g.0)
              (map {A = Used} {B = ℕ × ℕ} (λ w. (w.x, w.grant)) (plan_of z).used)) ≡ true) × AllByRecursion
              (λ (g : ℕ × ℕ). HasObject hd g.0)
              (map {A = Used} {B = ℕ × ℕ} (λ w. (w.x, w.grant)) (plan_of z).used)) is
              (stand_in_order (plan_of m).used once, grants (plan_of m).used objects)

  sent_fits : (to : ℕ) (h : Head) (a : Ask) → IsSentBy v.coord to h a → AskFits hd a
  sent_fits to h a s = by (let q = s.doing in q.now) refl
    where
      by : (n : Now) → (let q = s.doing in q.now) ≡ n → AskFits hd a
      by Idle is = absurd (s.busy is)
      by (Calling w) is = let o = s.step w is in
          fits_bare hd a (subst (AskFits hd) (sym o.same) (call_fits _ s.doing s.found w is))
      by (Committing m) is = let o = s.commit m is in subst (AskFits hd) (sym o.same) (commit_fits _ s.doing s.found m is to)

pub meant_keep : HandlersKeepMeant
meant_keep hd form = posts_keep hd (WaitsAreKnown hd) (waits_keep hd form) (λ M known. let e = known.0.0.0.0 in (e.0, e.1))
    (λ h a. AskFits hd a)
    (λ k c v N known to h a by. sent_fits hd form k c v N known to h a by)
