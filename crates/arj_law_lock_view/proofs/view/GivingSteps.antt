-- A call on the object is given up in the machine too.
use Rattle.arj_law_parts.proofs.Words
use Words.{◌≡◌, ◌≢◌, ◌∙◌, ◌&&◌, ◌||◌, ℕ, List, [], ◌∷◌, Bool, true, false, cond, Option, Some, None, refl, sym, ap, subst, inl, arith}
use Words.{Contains, unwrap_or, Binding, Op, Uid, actor, doomed_by, ends_call, give_up_call, is_ended, keeps_after, root_heard, root_lost}
use Words.{same_kept, step_call, At, AtActivate, AtBind, AtInvoke, AtLoad, AtNote, CallEnd, CallStep, Ended, Known, Lost, On, Run, Steps}
use Words.{given_up, is_invoke, spoils, Calling, Coord, Doing, Grant, Idle, Keeping, Root, keeping_of, no_keeping, on_root, root_at}
use Words.{set_doing, change_doing, binding_number, Branch, Tree, at_place, branch_of, doomed_at, doomed_branch, is_own, root_of, set_place}
use Words.{place_other, put_same}
use Rattle.arj_law_lock_view.proofs.Terms
use Terms.{Root as Unit, at_act, root, act_here, act_other, next, stay, step, State, Paths, doomed_same, found_by, own_is, place_same}
use Terms.{doing_other, doing_put, Acts, SeesAction, IsAtWork, IsReached, OnlyCalled, WritesNone, Codes, Goes, HasHeard, IsTied, SeesCoord}
use Terms.{SeesStep}
use Terms.event
use Rattle.arj_law_lock.specs.machine.State.{Action}
use Rattle.arj_law_lock_view.proofs.view
use view.{ActingSteps.unit_other, TreeSteps.one_changed}
use view.CallingSteps.{Becomes, its, of, open_now, open_stage, over_seen, own_root, r0, root_found, root_seen}
use view.Looked.{Looks, called_one}
use view.CallingSteps.{root_stays, silent_seen, stays_rebound, step_seen, waits_is, was}
use view.EndingSteps.{keeps_one, same_end}
use view.RootSteps.{assemble, root_else, root_here}
use Rattle.arj_law_lock_view.specs.view.Calling.{CallsAreGivenUp}

module _ (act : Acts) (code : Codes) (paths : Paths) (c : Coord) (b : Branch) (d : Doing) (s : Steps) (o : Op) (S : State)
    (reached : IsReached S) (work : IsAtWork act paths c (actor s.path) b d) (calling : d.now ≡ Calling s) (goal : s.goal ≡ Run o)
    (path : s.path ≡ b.path) (last : s.req ≡ d.req) (sees : SeesCoord act code s.x c S) where
  abbrev u : Uid
  u = actor s.path

  abbrev x : ℕ
  x = s.x

  abbrev rt : Uid
  rt = root_of s.path

  abbrev unit : ℕ
  unit = root (act u)

  abbrev kp : Keeping
  kp = keeping_of x (root_at rt c)

  abbrev grants_now : List Grant
  grants_now = let z = root_at rt c in z.grants

  -- what a lost step makes of the root
  spoilt_by : CallStep → Bool
  spoilt_by step_now = (same_kept kp.kept kp.kept && kp.spoiled) || (is_ended step_now && spoils s.at)

  looks_lost : (step_now : CallStep) → Looks x (root_lost s step_now (root_at rt c))
      (record kp { kept = kp.kept; spoiled = spoilt_by step_now }) (let z = root_at rt c in z.said) grants_now
  unfolding spoilt_by
  looks_lost step_now = record {
    keeps = ap (λ (v : Option Keeping). unwrap_or v no_keeping) (put_same x (keeps_after s.goal (is_ended step_now && spoils s.at) kp.kept
        kp) (let z = root_at rt c in z.keeping)) ∙ (λ i. keeps_after (goal i) (is_ended step_now && spoils s.at) kp.kept kp);
    said_is = refl;
    grants_are = refl;
  }

  grants_heard : (gr : Grant) (n : Binding) → Contains grants_now gr → gr.x ≡ x → gr.named ≡ Some n →
      HasHeard (act gr.top) (binding_number n) S
  grants_heard gr n there about named =
      (root_seen act code paths c b d s o S reached work calling goal path last sees).heard gr n there about named

  abbrev Given : CallStep → Type 0
  Given step_now = Goes S (λ T. SeesCoord act code x (let e = step_call s step_now (on_root rt (root_lost s step_now) c) in e.part) T
      × OnlyCalled unit S T × WritesNone S T)

  -- the call ends, before an Invoke
  lost_goes : (n : ℕ) → is_invoke s.at ≡ false → Given (Ended (Lost n false))
  lost_goes n quiet = record {
    state = S;
    run = stay;
    holds = (
      over_seen act code paths c b d s o S reached work calling goal path last sees (root_lost s (Ended (Lost n false))) (Lost n false)
          (λ j. refl) kp.kept (spoilt_by (Ended (Lost n false))) grants_now S (stays_rebound act code paths c b d s o S reached work calling
          goal path last sees) (looks_lost (Ended (Lost n false))) (λ e. e) quiet grants_heard,
      (let r = stays_rebound act code paths c b d s o S reached work calling goal path last sees in r.only),
      (refl, refl, λ q. same_end (S.action q)),
    );
  }

  -- a Load goes to the next store
  next_goes : (k : Known) (n t : ℕ) (rest : List ℕ) → s.at ≡ AtLoad k n (t ∷ rest) → Given (On (AtLoad k t rest))
  next_goes k n t rest is = record {
    state = S;
    run = stay;
    holds = (
      silent_seen act code paths c b d s o S reached work calling goal path last sees (root_lost s (On (AtLoad k t rest))) (AtLoad k t rest)
          kp.kept (spoilt_by (On (AtLoad k t rest))) grants_now S (stays_rebound act code paths c b d s o S reached work calling goal path
          last sees) (looks_lost (On (AtLoad k t rest))) (λ e. e) (ap is_invoke is) refl grants_heard
          (subst (SeesStep act code s o kp S) is (step_seen act code paths c b d s o S reached work calling goal path last sees)),
      (let r = stays_rebound act code paths c b d s o S reached work calling goal path last sees in r.only),
      (refl, refl, λ q. same_end (S.action q)),
    );
  }

  -- after an Invoke the action is doomed
  module _ (n : ℕ) (invoking : is_invoke s.at ≡ true) where
    abbrev end : CallEnd
    end = Lost n true

    abbrev g : Root → Root
    g = root_lost s (Ended end)

    abbrev rests : Doing
    rests = record d { now = Idle }

    abbrev doomed_b : Branch
    doomed_b = record b { doomed = true }

    abbrev q : Root
    q = g (root_at rt c)

    abbrev mid : Coord
    mid = on_root rt (root_heard s end) (set_doing u rests (on_root rt g c))

    abbrev e : Coord
    e = let k = ends_call s end (on_root rt g c) in k.part

    e_is : record mid { tree = doomed_at u c.tree } ≡ e
    e_is = λ i. doomed_by u end
        (on_root rt (root_heard s end) (change_doing (λ (y : Doing). record y { now = Idle }) u (on_root rt g c) (sym work.works i)))

    doomed_tree : Tree
    doomed_tree = record c.tree { branches = set_place u.num doomed_b (let t = c.tree in t.branches) }

    tree_is : doomed_at u c.tree ≡ doomed_tree
    unfolding doomed_tree
    tree_is = λ i. doomed_branch u c.tree (work.there i)

    becomes : (V : State) → Becomes act code paths c b d s o S reached work calling goal path last sees e doomed_b rests q V
    unfolding doomed_tree
    becomes V = subst (λ (k : Coord). Becomes act code paths c b d s o S reached work calling goal path last sees k doomed_b rests q V) e_is
        (record {
          same = doomed_same u c.tree;
          one = record {
            branch = ap (branch_of u) tree_is ∙ (λ i.
                cond ((found_by u c.tree b work.there).0 i) (at_place u.num (set_place u.num doomed_b (let t = c.tree in t.branches))) None)
                ∙ place_same u.num doomed_b b (let t = c.tree in t.branches) (found_by u c.tree b work.there).1;
            doing = (λ i. cond (own_same u i) (at_place u.num (set_place u.num rests c.doings)) None) ∙ doing_put u rests d c work.works;
            branches = λ w other. ap (branch_of w) tree_is ∙ there w other (is_own w c.tree) refl;
            doings = λ w other. (λ i. cond (own_same w i) (at_place w.num (set_place u.num rests c.doings)) None)
                ∙ doing_other u w rests d c work.works other;
          };
          root_is = root_here rt (root_heard s end) (set_doing u rests (on_root rt g c)) ∙ ap (root_heard s end) (root_here rt g c);
          elsewhere = λ w other. root_else rt (root_heard s end) (set_doing u rests (on_root rt g c)) w other ∙ root_else rt g c w other;
        })
      where
        own_same : (w : Uid) → is_own w (doomed_at u c.tree) ≡ is_own w c.tree
        own_same w = ap (is_own w) tree_is

        there : (w : Uid) → w ≢ u → (t : Bool) → is_own w c.tree ≡ t → cond t (at_place w.num
            (set_place u.num doomed_b (let t = c.tree in t.branches))) None ≡ cond t (at_place w.num (let t = c.tree in t.branches)) None
        there w other true own = place_other u.num w.num doomed_b (let t = c.tree in
            t.branches) (λ same. other (own_is w u c.tree own (found_by u c.tree b work.there).0 same))
        there w other false own = refl

    abbrev dooms : Action
    dooms = record (S.action (act u)) { waits = false; doomed = true }

    abbrev V : State
    V = next (event.GiveUp (act u)) S

    dooms_goes : Given (Ended end)
    dooms_goes = record {
      state = V;
      run = step (event.GiveUp (act u)) (waits_is act code paths c b d s o S reached work calling goal path last sees ∙ invoking) stay;
      holds = (
        assemble act code paths x c e S V work.steady sees u rt b work.there (of act code paths c b d s o S reached work calling goal path
            last sees) (r0 act code paths c b d s o S reached work calling goal path last sees)
            (root_found act code paths c b d s o S reached work calling goal path last sees)
            (own_root act code paths c b d s o S reached work calling goal path last sees) doomed_b rests q moved only
            (one_changed act paths x c S.action work.steady sees.actions u b doomed_b rests e (at_act S.action (act u) dooms) work.there
            moved.one refl (λ un. un)
            (λ h. subst (SeesAction x doomed_b rests) (sym (act_here S.action (act u) dooms)) its_new)
            (λ w other h. act_other S.action (act u) dooms w other)
            (λ w r z there root_is_there un. act_other S.action (act u) dooms (Unit (root (act w)))
            (unit_other (root (act w)) (act u) (its act code paths c b d s o S reached work calling goal path last sees)))
            (λ n. ap (λ (w : Action). w.waits) (act_other S.action (act u) dooms (Unit n)
            (unit_other n (act u) (its act code paths c b d s o S reached work calling goal path last sees)))))
            (root_stays act code paths c b d s o S reached work calling goal path last sees S V kp.kept (spoilt_by (Ended end)) q grants_now
            (let k = e in k.tree) (stays_rebound act code paths c b d s o S reached work calling goal path last sees) refl (λ n. refl)
            only (λ y j. j) refl moved.same (looks_lost (Ended end)) grants_heard (λ h. h))
            (inl (
              (λ y t. subst (λ (z : Keeping). IsTied z.kept y) (sym looks.keeps) t),
              (λ none. (ap (λ (z : Keeping). z.kept) (sym looks.keeps) ∙ none, ap (λ (z : Keeping). z.avoid) looks.keeps)),
            ))
            (λ y z now_is. absurd (cc now_is))
            (λ y now_is. absurd (cc now_is)),
        only,
        (
          refl,
          refl,
          λ q. keeps_one S (act u) dooms (record { stage = refl; place = refl; done = refl })
              (inl (waits_is act code paths c b d s o S reached work calling goal path last sees ∙ invoking)) q,
        ),
      );
    }
      where
        moved : Becomes act code paths c b d s o S reached work calling goal path last sees e doomed_b rests q V
        moved = becomes V

        looks : Looks x q (record kp { kept = kp.kept; spoiled = spoilt_by (Ended end) }) (let z = root_at rt c in z.said) grants_now
        looks = looks_lost (Ended end)

        only : OnlyCalled unit S V
        only = called_one S (act u) dooms S.now S.calls S.net (let z = open_stage act code paths c b d s o S reached work calling goal path
            last sees in omega (arith, z)) (λ y j. j) (λ y j. inl j) (λ y j. j)

        its_new : SeesAction x doomed_b rests dooms
        its_new = let w = was act code paths c b d s o S reached work calling goal path last sees in record {
          stage = open_stage act code paths c b d s o S reached work calling goal path last sees
              ∙ sym (open_now act code paths c b d s o S reached work calling goal path last sees Idle refl);
          request = w.request;
          waits = λ h. refl;
          last = λ h. absurd (cc h);
          doomed = λ h. absurd (cc h);
        }

  give_up_goes : Given (given_up s.at)
  give_up_goes = by s.at refl
    where
      by : (a : At) → s.at ≡ a → Given (given_up a)
      by (AtBind avoid) is = lost_goes 1 (ap is_invoke is)
      by (AtLoad k n []) is = lost_goes n (ap is_invoke is)
      by (AtLoad k n (t ∷ rest)) is = next_goes k n t rest is
      by (AtActivate k st) is = lost_goes k.server (ap is_invoke is)
      by (AtNote k i) is = lost_goes 1 (ap is_invoke is)
      by (AtInvoke k i) is = dooms_goes k.server (ap is_invoke is)

pub calls_are_given_up : CallsAreGivenUp
calls_are_given_up act code paths x c u b d s o S reached work on sees =
    subst (λ (v : Uid). Goes S
    (λ T. SeesCoord act code x (let e = give_up_call s c in e.part) T × OnlyCalled (root (act v)) S T × WritesNone S T)) its_actor
    (subst (λ (y : ℕ). Goes S (λ T. SeesCoord act code y (let e = give_up_call s c in e.part) T × OnlyCalled (root (act (actor s.path))) S T
    × WritesNone S T)) on.about
    (give_up_goes act code paths c b d s o S reached (subst (λ (v : Uid). IsAtWork act paths c v b d) (sym its_actor) work) on.calling
    on.goal on.path on.last (subst (λ (y : ℕ). SeesCoord act code y c S) (sym on.about) sees)))
  where
    its_actor : actor s.path ≡ u
    its_actor = ap actor on.path ∙ work.steady.good.tree.lists.places u b work.there
