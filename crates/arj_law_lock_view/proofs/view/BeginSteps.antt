-- A call on the object begins in the machine too.
use Rattle.arj_law_parts.proofs.Words
use Words.{◌≡◌, ◌≢◌, ◌≤◌, ◌+◌, ◌⊎◌, ◌∙◌, ◌==◌, ◌&&◌, ◌||◌, not, ℕ, List, [], ◌∷◌, Bool, true, false, cond, Option, Some, None, refl, sym}
use Words.{ap, subst, inl, inr, ⊎_elim, arith, eqb-true, Contains, unwrap_or, list_any, and_parts, uid_cases, uid_is, uid_same, in_to}
use Words.{Binding, End, Kind, Op, Uid, first_uid, is_on, last_uid, uid_eq, uids_of, writes, actor, top_of, asks_step, call, call_steps}
use Words.{given_away, goes_on, is_invoke_ask, known_at_start, last_req, renewed, was_named, At, AtBind, AtInvoke, Known, Run}
use Words.{Steps, next_ask, next_node, start_at, Calling, Committing, Coord, Doing, Grant, Idle, Keeping, Now, Root, Said, Went}
use Words.{change_doing, doing_of, is_constituent_branch, is_free, is_grant_of, is_kept_top, is_retained, keeping_of, no_keeping, no_root}
use Words.{on_root, retained_in, retains, root_at, second_uid, set_doing, survives, with_keeping, with_went, at_number, binding_number}
use Words.{Branch, Tree, behind, branch_of, ends_of, ended_so, has_end, is_committed, is_merged, is_spent, root_of}
use Words.{uses_object, put_same, is_constituent, is_binding}
use Words.list
use Words.ending
use Words.kind
use Rattle.arj_law_lock_view.proofs.Terms
use Terms.{Act, In, Root as Unit, is_action, is_top, on, root, top, next, stay, step, Alive, Call, State, MayUse, by_cases, differ}
use Terms.{number_self, on_root as same_unit, root_is, top_action, Paths, IsGoodCoord, path_some, good_on, uses_same, doing_other}
use Terms.{doing_put, place_length, Acts, IsPlaced, IsSteady, SeesAction, invokes, stage_of, IsAtWork, IsReached, OnlyCalled, WritesNone}
use Terms.{Codes, Goes, IsNamedSo, HasHeard, IsSaid, IsTied, SeesCoord, SeesKeeping, SeesKept, SeesRoot, SeesStep, is_early}
use Terms.event
use Rattle.arj_law_lock.proofs.machine.Paths.{top_of as its_top}
use Rattle.arj_law_lock_view.proofs.view
use view.{ActingSteps.unended_none}
use view.CallingSteps.{Becomes, goes_becomes, goes_coord, invoke_only, invoke_seen, kept_seen, root_seen, sends}
use view.Looked.{Looks, called_none}
use view.CallingSteps.{silent_seen, stays_rebound, top_unit}
use view.EndingSteps.{keeps_one, same_end}
use view.FreeSteps.{free_only, free_spent}
use view.RootSteps.{IsMoved, assemble, root_else, root_here}
use view.TreeSteps.{action_kind, first_on, one_changed, open_above, root_there, seen_at}
use Rattle.arj_law_lock_view.specs.view.Calling.{CallsBegin}
use Rattle.arj_law_parts.proofs.parts.GoodCoords.{good_same, good_uses}

-- What looks the same is seen the same.
pub same_coord : (act : Acts) (code : Codes) (x : ℕ) (c e : Coord) (S : State) → e.tree ≡ c.tree → ((w : Uid) → doing_of w e ≡ doing_of w c)
    → ((w : Uid) → root_at w e ≡ root_at w c) → SeesCoord act code x c S → SeesCoord act code x e S
same_coord act code x c e S tree doings roots s = record {
  actions = let a = s.actions in record {
    each = λ u b d found works. a.each u b d (ap (branch_of u) (sym tree) ∙ found) (sym (doings u) ∙ works);
    opened = λ u b r found there. a.opened u b r (ap (branch_of u) (sym tree) ∙ found) (ap (branch_of (root_of b.path)) (sym tree) ∙ there);
    quiet = λ u b found. a.quiet u b (ap (branch_of u) (sym tree) ∙ found);
    others = λ u b q found home action. ⊎_elim (λ h. inl (h.0, h.1, ap (branch_of h.0) tree ∙ h.2, h.3)) (λ idle. inr idle)
        (a.others u b q (ap (branch_of u) (sym tree) ∙ found) home action);
  };
  roots = λ u b found own. subst (λ (t : Tree). SeesRoot act x u (root_at u e) t S) (sym tree)
      (subst (λ (q : Root). SeesRoot act x u q c.tree S) (sym (roots u)) (s.roots u b (ap (branch_of u) (sym tree) ∙ found) own));
  calls = λ u d z o works calling about goal. subst (λ (q : Root). SeesStep act code z o (keeping_of x q) S z.at)
      (sym (roots (root_of z.path))) (s.calls u d z o (sym (doings u) ∙ works) calling about goal);
  plain = λ u d z works. s.plain u d z (sym (doings u) ∙ works);
}

module _ (act : Acts) (code : Codes) (paths : Paths) (x : ℕ) (c : Coord) (b : Branch) (d : Doing) (o : Op) (S : State)
    (reached : IsReached S) (work : IsAtWork act paths c (actor b.path) b d) (idle : d.now ≡ Idle) (plain : b.kind ≢ kind.Serial)
    (sees : SeesCoord act code x c S) where
  abbrev u : Uid
  u = actor b.path

  abbrev rt : Uid
  rt = root_of b.path

  abbrev unit : ℕ
  unit = root (act u)

  abbrev before : Root
  before = root_at rt c

  abbrev kp : Keeping
  kp = keeping_of x before

  abbrev free : Bool
  free = is_free rt u x c

  abbrev k : Keeping
  k = renewed free kp kp.kept

  -- the call as if it waited for a Bind
  abbrev s0 : Steps
  s0 = record { path = b.path; x = x; goal = Run o; req = d.req; at = AtBind k.avoid }

  abbrev d0 : Doing
  d0 = record d { now = Calling s0 }

  abbrev c1 : Coord
  c1 = record c { tree = uses_object b.path x c.tree }

  abbrev q : Root
  q = with_keeping x k before

  abbrev C : Coord
  C = on_root rt (with_keeping x k) (set_doing u d0 c1)

  steady : IsSteady act paths c
  steady = work.steady

  r0 : Branch
  r0 = (root_there act paths x c S.action work.steady sees.actions u b work.there).0

  root_found : branch_of rt c.tree ≡ Some r0
  unfolding r0
  root_found = (root_there act paths x c S.action work.steady sees.actions u b work.there).1

  root_on : is_on (paths u) rt ≡ true
  root_on = (root_there act paths x c S.action work.steady sees.actions u b work.there).2

  unit_is : root (act rt) ≡ unit
  unit_is = sym (same_unit (act u) (act rt) (work.steady.alike.above u rt ∙ root_on))

  own_root : root_of r0.path ≡ rt
  own_root = ap first_uid (work.steady.good.tree.lists.paths_are rt r0 root_found) ∙ work.steady.alike.units rt u unit_is
      ∙ ap first_uid (sym (work.steady.good.tree.lists.paths_are u b work.there))

  seen : SeesRoot act x rt before c.tree S
  seen = sees.roots rt r0 root_found own_root

  its : is_action (act u) ≡ true
  its = action_kind (act u) b.kind plain (work.steady.placed u b work.there)

  was : SeesAction x b d (S.action (act u))
  was = sees.actions.each u b d work.there work.works its

  -- ---- the coordinator as if it waited

  -- what is kept then: as it was, or nothing where the root is free
  kept_cases : (k ≡ kp) ⊎ ((old : Known) × (kp.kept ≡ Some old) × (free ≡ true) × (k ≡ given_away kp old))
  kept_cases = by kp.kept refl
    where
      by : (v : Option Known) → kp.kept ≡ v →
          (renewed free kp v ≡ kp) ⊎ ((old : Known) × (v ≡ Some old) × (free ≡ true) × (renewed free kp v ≡ given_away kp old))
      by None none = inl refl
      by (Some old) is = test free kp.spoiled refl
        where
          test : (v w : Bool) → free ≡ v → (cond (v && w) (given_away kp old) kp ≡ kp)
              ⊎ ((old' : Known) × (Some old ≡ Some old') × (free ≡ true) × (cond (v && w) (given_away kp old) kp ≡ given_away kp old'))
          test true true f = inr (old, refl, f, refl)
          test true false f = inl refl
          test false w f = inl refl

  keeping_is : keeping_of x q ≡ k
  keeping_is = ap (λ (v : Option Keeping). unwrap_or v no_keeping) (put_same x k before.keeping)

  root_then : SeesRoot act x rt q c.tree S
  root_then = record {
    keeping = subst (λ (v : Keeping). SeesKeeping (root (act rt)) v.kept v.avoid S) (sym keeping_is) keeps;
    spent = λ none. spends (ap (λ (v : Keeping). v.kept) (sym keeping_is) ∙ none);
    said = seen.said;
    calls = seen.calls;
    heard = seen.heard;
  }
    where
      keeps : SeesKeeping (root (act rt)) k.kept k.avoid S
      keeps = ⊎_elim
          (λ same_one. subst (λ (v : Keeping). SeesKeeping (root (act rt)) v.kept v.avoid S) (sym same_one) seen.keeping)
          (λ away. subst (λ (v : Keeping). SeesKeeping (root (act rt)) v.kept v.avoid S) (sym away.3)
          (let z : SeesKept (root (act rt)) away.0 S = subst (λ (v : Option Known). SeesKeeping (root (act rt)) v kp.avoid S) away.1
          seen.keeping in let e = z.kept in omega (arith, e)))
          kept_cases

      spends : k.kept ≡ None → (z : Said) → Contains before.said z → z.x ≡ x → is_spent z.path c.tree ≡ true
      spends none = ⊎_elim
          (λ same_one. seen.spent (ap (λ (v : Keeping). v.kept) (sym same_one) ∙ none))
          (λ away z there about. free_spent act paths c work.steady rt u x away.2 z there about)
          kept_cases

  idle_waits : (S.action (act u)).waits ≡ false
  idle_waits = was.waits (ap (has_end ending.Abort) (unended_none b.ended work.unended)) ∙ ap (λ (n : Now). invokes x n) idle

  moved : IsMoved act code paths x c C S S work.steady sees u rt b work.there refl r0 root_found own_root b d0 q
  moved = record {
    same = uses_same b.path x c.tree;
    one = record {
      branch = work.there;
      doing = doing_put u d0 d c work.works;
      branches = λ w other. refl;
      doings = λ w other. doing_other u w d0 d c work.works other;
    };
    root_is = root_here rt (with_keeping x k) (set_doing u d0 c1);
    elsewhere = λ w other. root_else rt (with_keeping x k) (set_doing u d0 c1) w other;
  }

  sees_C : SeesCoord act code x C S
  sees_C =
      assemble act code paths x c C S S work.steady sees u rt b work.there refl r0 root_found own_root b d0 q moved (called_none unit S)
      (one_changed act paths x c S.action work.steady sees.actions u b b d0 C S.action work.there moved.one refl (λ un. un)
      (λ h. record {
        stage = was.stage ∙ (λ i. stage_of (unended_none b.ended work.unended i) (idle i))
            ∙ (λ i. stage_of (sym (unended_none b.ended work.unended) i) (Calling s0));
        request = was.request;
        waits = λ e. idle_waits ∙ sym (ap (λ (t : Bool). t && false) (number_self x));
        last = λ e. differ e (ap (λ (t : Bool). t && false) (number_self x));
        doomed = was.doomed;
      })
      (λ w other h. refl) (λ w r z there root_is_there un. refl) (λ n. refl))
      (same_tree root_then) ties
      (λ y p now_is about goal. (let one : s0 ≡ y = cc now_is in (
        ap (λ (v : Steps). root_of v.path) (sym one),
        subst (λ (v : Steps). SeesStep act code v p (keeping_of x q) S v.at) one (λ none. ap (λ (v : Keeping). v.avoid) (sym keeping_is)),
      )))
      (λ y now_is about invoke. (let one : s0 ≡ y = cc now_is in
      absurd (let e = ap (λ (v : Steps). is_early v.at) (sym one) in differ e invoke)))
    where
      same_tree : SeesRoot act x rt q c.tree S → SeesRoot act x rt q (uses_object b.path x c.tree) S
      same_tree z = record {
        keeping = z.keeping;
        spent = z.spent;
        said = λ y there about. (let v = z.said y there about in
            record { branch = v.branch; there = v.there; path = v.path; of = v.of; call = v.call; called = v.called; by = v.by });
        calls = z.calls;
        heard = z.heard;
      }

      ties : (((v : Known) → IsTied kp.kept v → IsTied (let z = keeping_of x q in z.kept) v)
          × ((let z = keeping_of x q in z.kept) ≡ None → (kp.kept ≡ None) × ((let z = keeping_of x q in z.avoid) ≡ kp.avoid)))
          ⊎ ((w : Uid) (e : Doing) (y : Steps) (p : Op) → doing_of w c ≡ Some e → e.now ≡ Calling y → y.x ≡ x → y.goal ≡ Run p →
          root_of y.path ≡ rt → w ≡ u)
      ties = ⊎_elim
          (λ same_one. let both = keeping_is ∙ same_one in inl (
            (λ v t. subst (λ (z : Keeping). IsTied z.kept v) (sym both) t),
            (λ none. (ap (λ (z : Keeping). z.kept) (sym both) ∙ none, ap (λ (z : Keeping). z.avoid) both)),
          ))
          (λ away. inr (free_only act paths c work.steady rt u x away.2))
          kept_cases

  -- ---- and goes on

  good_C : IsGoodCoord work.steady.actions paths C
  good_C = good_same work.steady.actions paths (set_doing u d0 c1) C refl refl
      (subst (IsGoodCoord work.steady.actions paths) (λ i. change_doing (λ (y : Doing). d0) u c1 (work.works i))
      (good_on work.steady.actions paths u (λ (y : Doing). d0) c1
      (λ y. record { branch = b; found = work.there; path = refl; unserial = plain; opened = work.unended })
      (good_uses work.steady.actions paths b.path x c work.steady.good)))

  work_C : IsAtWork act paths C u b d0
  work_C = record {
    steady = record {
      actions = work.steady.actions;
      good = good_C;
      alike = work.steady.alike;
      whole = work.steady.whole;
      works = place_length u.num d0 c.doings ∙ work.steady.works;
      placed = work.steady.placed;
    };
    there = work.there;
    unended = work.unended;
    works = doing_put u d0 d c work.works;
    lone = λ w e works' waits other. work.lone w e (sym (doing_other u w d0 d c work.works other) ∙ works') waits other;
    topped = work.topped;
  }

  abbrev kc : Keeping
  kc = keeping_of x (root_at rt C)

  kc_is : kc ≡ k
  kc_is = ap (keeping_of x) (root_here rt (with_keeping x k) (set_doing u d0 c1)) ∙ keeping_is

  abbrev stays : Root → Root
  stays r = r

  looks : Looks x (root_at rt C) (record kc { kept = kc.kept; spoiled = kc.spoiled }) (let z = root_at rt C in
      z.said) (let z = root_at rt C in z.grants)
  looks = record { keeps = refl; said_is = refl; grants_are = refl }

  grants_heard : (gr : Grant) (n : Binding) → Contains (let z = root_at rt C in z.grants) gr → gr.x ≡ x → gr.named ≡ Some n →
      HasHeard (act gr.top) (binding_number n) S
  grants_heard gr n there about named =
      (root_seen act code paths C b d0 s0 o S reached work_C refl refl refl refl sees_C).heard gr n there about named

  -- the coordinator that is meant
  module _ (a : At) where
    abbrev z : Steps
    z = record { path = b.path; x = x; goal = Run o; req = d.req + 1; at = a }

    abbrev target : Coord
    target = let e = goes_on z (on_root rt (with_keeping x k) c1) in e.part

    abbrev busy : Doing
    busy = record d { req = d.req + 1; now = Calling z }

    abbrev note : Went
    note =
        record { path = uids_of b.path; node = next_node z; invoke = is_invoke_ask (next_ask (ends_of rt (uses_object b.path x c.tree)) z) }

    abbrev plain_target : Coord
    plain_target = on_root rt (with_went note) (set_doing u busy (on_root rt (with_keeping x k) c1))

    target_is : target ≡ plain_target
    target_is = λ i. (let e = asks_step z (change_doing (λ (y : Doing). record y { req = d.req + 1; now = Calling z }) u
        (on_root rt (with_keeping x k) c1) (work.works i)) in e.part)

    lands : (T : State) → SeesCoord act code x (goes_coord act code paths C b d0 s0 o S reached work_C refl refl refl refl sees_C stays a S)
        T → SeesCoord act code x target T
    lands T there = subst (λ (e : Coord). SeesCoord act code x e T) (sym target_is) (same_coord act code x (goes_coord act code paths C b d0
        s0 o S reached work_C refl refl refl refl sees_C stays a S) plain_target T tree doings roots there)
      where
        gone : Becomes act code paths C b d0 s0 o S reached work_C refl refl refl refl sees_C (goes_coord act code paths C b d0 s0 o S
            reached work_C refl refl refl refl sees_C stays a S) b busy (with_went note (root_at rt C)) S
        gone = goes_becomes act code paths C b d0 s0 o S reached work_C refl refl refl refl sees_C stays a S

        tree : plain_target.tree
            ≡ (let e = goes_coord act code paths C b d0 s0 o S reached work_C refl refl refl refl sees_C stays a S in e.tree)
        tree = sym (λ i. (let e = asks_step z (change_doing (λ (y : Doing). record y { req = d.req + 1; now = Calling z }) u
            (on_root rt stays C) (work_C.works i)) in e.part.tree))

        doings : (w : Uid) → doing_of w plain_target
            ≡ doing_of w (goes_coord act code paths C b d0 s0 o S reached work_C refl refl refl refl sees_C stays a S)
        doings w = ⊎_elim
            (λ (same_one : w ≡ u). ap (λ (v : Uid). doing_of v plain_target) same_one ∙ doing_put u busy d c work.works ∙ sym gone.one.doing
            ∙ ap (λ (v : Uid). doing_of v (goes_coord act code paths C b d0 s0 o S reached work_C refl refl refl refl sees_C stays a S))
            (sym same_one))
            (λ (other : w ≢ u). doing_other u w busy d c work.works other ∙ sym (doing_other u w d0 d c work.works other)
            ∙ sym (gone.one.doings w other))
            (uid_cases w u)

        number_cases : (m n : ℕ) → (m ≡ n) ⊎ (m ≢ n)
        number_cases m n = grind arith

        roots : (w : Uid) →
            root_at w plain_target ≡ root_at w (goes_coord act code paths C b d0 s0 o S reached work_C refl refl refl refl sees_C stays a S)
        roots w = ⊎_elim
            (λ (same_one : w.num ≡ rt.num). by_num plain_target same_one
            ∙ root_here rt (with_went note) (set_doing u busy (on_root rt (with_keeping x k) c1)) ∙ ap (with_went note)
            (root_here rt (with_keeping x k) c1 ∙ sym (root_here rt (with_keeping x k) (set_doing u d0 c1))) ∙ sym gone.root_is
            ∙ sym (by_num (goes_coord act code paths C b d0 s0 o S reached work_C refl refl refl refl sees_C stays a S) same_one))
            (λ (other : w.num ≢ rt.num). root_else rt (with_went note) (set_doing u busy (on_root rt (with_keeping x k) c1)) w other
            ∙ root_else rt (with_keeping x k) c1 w other ∙ sym (root_else rt (with_keeping x k) (set_doing u d0 c1) w other)
            ∙ sym (gone.elsewhere w other))
            (number_cases w.num rt.num)
          where
            by_num : (e : Coord) → w.num ≡ rt.num → root_at w e ≡ root_at rt e
            by_num e is = ap (λ (n : ℕ). unwrap_or (at_number n e.roots) no_root) is

  abbrev Begun : At → Type 0
  Begun a = Goes S (λ T. SeesCoord act code x (target a) T × OnlyCalled unit S T × WritesNone S T)

  bind_goes : Begun (AtBind k.avoid)
  bind_goes = record {
    state = S;
    run = stay;
    holds = (
      lands (AtBind k.avoid) S (silent_seen act code paths C b d0 s0 o S reached work_C refl refl refl refl sees_C stays (AtBind k.avoid)
          kc.kept kc.spoiled (let z = root_at rt C in z.grants) S (stays_rebound act code paths C b d0 s0 o S reached work_C refl refl refl
          refl sees_C) looks (λ e. e) refl refl grants_heard (λ none. ap (λ (v : Keeping). v.avoid) (sym kc_is))),
      called_none unit S,
      (refl, refl, λ q. same_end (S.action q)),
    );
  }

  invoke_goes : (w : Known) → k.kept ≡ Some w → w.recorded ≡ true → MayUse S (act (top_of b.path)) (binding_number w.binding) →
      Begun (AtInvoke w (unwrap_or w.inc 0))
  invoke_goes w is known may = record {
    state = V;
    run = step (event.SendInvoke (act u) (d.req + 1) (writes o)) (sends act code paths C b d0 s0 o S reached work_C refl refl refl refl
        sees_C stays at_w kc.kept kc.spoiled grants S (stays_rebound act code paths C b d0 s0 o S reached work_C refl refl refl refl sees_C)
        looks (λ e. e) refl w i refl tied kept.server named (kept.recorded known).0 may) stay;
    holds = (
      lands at_w V (invoke_seen act code paths C b d0 s0 o S reached work_C refl refl refl refl sees_C stays at_w kc.kept kc.spoiled grants
          S (stays_rebound act code paths C b d0 s0 o S reached work_C refl refl refl refl sees_C) looks (λ e. e) refl w i refl tied
          kept.server named (kept.recorded known).0 may grants_heard),
      invoke_only act code paths C b d0 s0 o S reached work_C refl refl refl refl sees_C stays at_w kc.kept kc.spoiled grants S
          (stays_rebound act code paths C b d0 s0 o S reached work_C refl refl refl refl sees_C) looks (λ e. e) refl w i refl tied
          kept.server named (kept.recorded known).0 may,
      (
        refl,
        refl,
        λ q. keeps_one S (act u) (let z = S.action (act u) in record z { request = d.req + 1; waits = true; since = S.now })
            (record { stage = refl; place = refl; done = refl }) (inr refl) q,
      ),
    );
  }
    where
      i : ℕ
      i = unwrap_or w.inc 0

      at_w : At
      at_w = AtInvoke w i

      grants : List Grant
      grants = let z = root_at rt C in z.grants

      V : State
      V = next (event.SendInvoke (act u) (d.req + 1) (writes o)) S

      is_C : kc.kept ≡ Some w
      is_C = ap (λ (v : Keeping). v.kept) kc_is ∙ is

      tied : IsTied kc.kept w
      tied = record { old = w; is = is_C; same = refl }

      kept : SeesKept unit w S
      kept = kept_seen act code paths C b d0 s0 o S reached work_C refl refl refl refl sees_C w is_C

      named : IsNamedSo S w.binding i
      named = let r = kept.recorded known in kept.named i (has_it w.inc r.1.0 r.1.1)
        where
          has_it : (v : Option ℕ) (j : ℕ) → v ≡ Some j → v ≡ Some (unwrap_or v 0)
          has_it None j h = absurd (cc h)
          has_it (Some n) j h = refl

  -- ---- who may use what is kept

  -- the top's last answer named it
  named_may : (w : Known) → was_named (top_of b.path) x w.binding before ≡ true → MayUse S (act (top_of b.path)) (binding_number w.binding)
  named_may w h = by (found before.grants h)
    where
      found : (gs : List Grant) → list_any (λ (g : Grant). is_grant_of (top_of b.path) x g && is_binding w.binding g.named) gs ≡ true →
          (g : Grant) × list.In g gs × ((is_grant_of (top_of b.path) x g && is_binding w.binding g.named) ≡ true)
      found [] e = absurd (cc e)
      found (g ∷ gs) e = here (is_grant_of (top_of b.path) x g && is_binding w.binding g.named) refl e (found gs)
        where
          here : (t : Bool) → (is_grant_of (top_of b.path) x g && is_binding w.binding g.named) ≡ t →
              (t || list_any (λ (h : Grant). is_grant_of (top_of b.path) x h && is_binding w.binding h.named) gs) ≡ true →
              (list_any (λ (h : Grant). is_grant_of (top_of b.path) x h && is_binding w.binding h.named) gs ≡ true →
              (h : Grant) × list.In h gs × ((is_grant_of (top_of b.path) x h && is_binding w.binding h.named) ≡ true)) →
              (h : Grant) × list.In h (g ∷ gs) × ((is_grant_of (top_of b.path) x h && is_binding w.binding h.named) ≡ true)
          here true it rest ih = (g, inl refl, it)
          here false it rest ih = let r = ih rest in (r.0, inr r.1, r.2)

      named_is : (v : Option Binding) → is_binding w.binding v ≡ true →
          (n : Binding) × (v ≡ Some n) × (binding_number w.binding ≡ binding_number n)
      named_is None e = absurd (cc e)
      named_is (Some n) e = (n, refl, eqb-true (binding_number w.binding) (binding_number n) e)

      by : (g : Grant) × list.In g before.grants × ((is_grant_of (top_of b.path) x g && is_binding w.binding g.named) ≡ true) →
          MayUse S (act (top_of b.path)) (binding_number w.binding)
      by (g, there, both) =
          let parts = and_parts (is_grant_of (top_of b.path) x g) (is_binding w.binding g.named) both in
          let mine = and_parts (uid_eq g.top (top_of b.path)) (g.x == x) parts.0 in
          let n = named_is g.named parts.1 in
          let told : HasHeard (act (top_of b.path)) (binding_number w.binding) S = subst
          (λ (v : Uid). HasHeard (act v) (binding_number w.binding) S) (uid_is g.top (top_of b.path) mine.0) (subst (λ (m : ℕ).
          HasHeard (act g.top) m S) (sym n.2) (seen.heard g n.0 (in_to g before.grants there) (eqb-true g.x x mine.1) n.1)) in
          ⊎_elim (λ live. inl live) (λ made. inr (inl made)) told

  -- or the unit retains a call
  retained_may : (w : Known) → retains x before c ≡ true → MayUse S (act (top_of b.path)) (binding_number w.binding)
  retained_may w h = inr (inr (by (found before.said h)))
    where
      found : (zs : List Said) → list_any (λ (z : Said). (z.x == x) && is_retained z.path c) zs ≡ true →
          (z : Said) × list.In z zs × (((z.x == x) && is_retained z.path c) ≡ true)
      found [] e = absurd (cc e)
      found (z ∷ zs) e = here ((z.x == x) && is_retained z.path c) refl e (found zs)
        where
          here : (t : Bool) → ((z.x == x) && is_retained z.path c) ≡ t → (t || list_any (λ (y : Said). (y.x == x) && is_retained y.path c)
              zs) ≡ true → (list_any (λ (y : Said). (y.x == x) && is_retained y.path c) zs ≡ true → (y : Said) × list.In y zs × (((y.x == x)
              && is_retained y.path c) ≡ true)) → (y : Said) × list.In y (z ∷ zs) × (((y.x == x) && is_retained y.path c) ≡ true)
          here true it rest ih = (z, inl refl, it)
          here false it rest ih = let r = ih rest in (r.0, inr r.1, r.2)

      -- the second Uid of a path that retains, and how the others stand to it
      second : (us : List Uid) (v : Option Uid) → second_uid us ≡ v → retained_in us c v ≡ true → (t : Uid) × (is_kept_top t c ≡ true)
          × (is_on us t ≡ true) × ((y : Uid) → is_on us y ≡ true → (first_uid us ≡ y) ⊎ ((y ≡ t) ⊎ (is_committed y c.tree ≡ true)))
      second us None is e = absurd (cc e)
      second [] (Some t) is e = absurd (cc is)
      second (r ∷ []) (Some t) is e = absurd (cc is)
      second (r ∷ t' ∷ rest) (Some t) is e =
          let one : t' ≡ t = cc is in
          let parts = and_parts (is_kept_top t c) (survives t (r ∷ t' ∷ rest) c) e in
          let both = and_parts (is_on (r ∷ t' ∷ rest) t) (is_merged t (r ∷ t' ∷ rest) c.tree) parts.1 in
          (t, parts.0, both.0, λ y on_it. where_is y on_it one both.1)
        where
          all_committed : (us : List Uid) → not (list_any (λ (y : Uid). not (is_committed y c.tree)) us) ≡ true → (y : Uid) →
              is_on us y ≡ true → is_committed y c.tree ≡ true
          all_committed [] all y on_it = absurd (cc on_it)
          all_committed (v ∷ vs) all y on_it = of (is_committed v c.tree) refl all (uid_eq v y) refl on_it (all_committed vs)
            where
              of : (t : Bool) → is_committed v c.tree ≡ t → not (not t || list_any (λ (z : Uid). not (is_committed z c.tree)) vs) ≡ true →
                  (h : Bool) → uid_eq v y ≡ h → (h || is_on vs y) ≡ true → (not (list_any (λ (z : Uid). not (is_committed z c.tree)) vs)
                  ≡ true → (z : Uid) → is_on vs z ≡ true → is_committed z c.tree ≡ true) → is_committed y c.tree ≡ true
              of false ended_it all h eq on_it ih = absurd (cc all)
              of true ended_it all true eq on_it ih = ap (λ (z : Uid). is_committed z c.tree) (sym (uid_is v y eq)) ∙ ended_it
              of true ended_it all false eq on_it ih = ih all y on_it

          behind_two : t' ≡ t → not (list_any (λ (y : Uid). not (is_committed y c.tree)) (behind t (r ∷ t' ∷ rest))) ≡ true →
              (uid_eq r t ≡ true) ⊎ (not (list_any (λ (y : Uid). not (is_committed y c.tree)) rest) ≡ true)
          behind_two one all = at_first (uid_eq r t) refl all
            where
              at_first : (h : Bool) → uid_eq r t ≡ h →
                  not (list_any (λ (y : Uid). not (is_committed y c.tree)) (cond h (t' ∷ rest) (cond (uid_eq t' t) rest (behind t rest))))
                  ≡ true → (uid_eq r t ≡ true) ⊎ (not (list_any (λ (y : Uid). not (is_committed y c.tree)) rest) ≡ true)
              at_first true eq all = inl eq
              at_first false eq all = inr (subst (λ (h : Bool). not (list_any (λ (y : Uid). not (is_committed y c.tree))
                  (cond h rest (behind t rest))) ≡ true) (ap (λ (z : Uid). uid_eq z t) one ∙ uid_same t) all)

          where_is : (y : Uid) → is_on (r ∷ t' ∷ rest) y ≡ true → t' ≡ t → is_merged t (r ∷ t' ∷ rest) c.tree ≡ true →
              (r ≡ y) ⊎ ((y ≡ t) ⊎ (is_committed y c.tree ≡ true))
          where_is y on_it one merged = of (uid_eq r y) (uid_eq t' y) refl refl on_it
            where
              of : (h g : Bool) → uid_eq r y ≡ h → uid_eq t' y ≡ g → (h || (g || is_on rest y)) ≡ true →
                  (r ≡ y) ⊎ ((y ≡ t) ⊎ (is_committed y c.tree ≡ true))
              of true g eq eq' e' = inl (uid_is r y eq)
              of false true eq eq' e' = inr (inl (sym (uid_is t' y eq') ∙ one))
              of false false eq eq' e' = ⊎_elim
                  (λ (first_is : uid_eq r t ≡ true). inr (inr (all_committed rest (rest_of first_is merged) y e')))
                  (λ all. inr (inr (all_committed rest all y e')))
                  (behind_two one merged)
                where
                  rest_of : uid_eq r t ≡ true → is_merged t (r ∷ t' ∷ rest) c.tree ≡ true →
                      not (list_any (λ (z : Uid). not (is_committed z c.tree)) rest) ≡ true
                  rest_of first_is m = drop (is_committed t' c.tree) (subst (λ (h : Bool). not (list_any (λ (z : Uid).
                      not (is_committed z c.tree)) (cond h (t' ∷ rest) (cond (uid_eq t' t) rest (behind t rest)))) ≡ true) first_is m)
                    where
                      drop : (h : Bool) → not (not h || list_any (λ (z : Uid). not (is_committed z c.tree)) rest) ≡ true →
                          not (list_any (λ (z : Uid). not (is_committed z c.tree)) rest) ≡ true
                      drop true e'' = e''
                      drop false e'' = absurd (cc e'')

      committed_stage : (y : Uid) → is_committed y c.tree ≡ true → is_action (act y) ≡ true → (S.action (act y)).stage ≡ 3
      committed_stage y is action = of (branch_of y c.tree) refl is
        where
          ended_is : (v : Option End) → has_end ending.Commit v ≡ true → v ≡ Some ending.Commit
          ended_is None e = absurd (cc e)
          ended_is (Some ending.Commit) e = refl
          ended_is (Some ending.Abort) e = absurd (cc e)

          of : (v : Option Branch) → branch_of y c.tree ≡ v → ended_so ending.Commit v ≡ true → (S.action (act y)).stage ≡ 3
          of None there e = absurd (cc e)
          of (Some z) there e = let v = seen_at act paths x c S.action work.steady sees.actions y z there action in
              v.2.stage ∙ (λ i. stage_of (ended_is z.ended e i) (let n = v.0 in n.now))

      by : (z : Said) × list.In z before.said × (((z.x == x) && is_retained z.path c) ≡ true) →
          (e : Call) × In e S.calls × Alive S e.act × ((root e.act ≡ root (act (top_of b.path))) × ((S.action (top e.act)).stage ≡ 3))
      by (z, there, both) =
          let parts = and_parts (z.x == x) (is_retained z.path c) both in
          let y = seen.said z (in_to z before.said there) (eqb-true z.x x parts.0) in
          let t = second z.path (second_uid z.path) refl parts.1 in
          let path_is : paths (last_uid z.path) ≡ z.path = sym (work.steady.good.tree.lists.paths_are (last_uid z.path) y.branch y.there)
          ∙ y.path in
          let home : root (act (last_uid z.path)) ≡ unit = same_unit (act (last_uid z.path)) (act rt)
          (work.steady.alike.above (last_uid z.path) rt ∙ ap (λ us. is_on us rt) path_is ∙ on_first z y) ∙ unit_is in
          let its_top_is = kept_is t.0 t.1 in
          let top_is : top y.call.act ≡ act t.0 = ap top y.by ∙ its_top (act (last_uid z.path)) (act t.0) its_top_is.0
          (work.steady.alike.above (last_uid z.path) t.0 ∙ ap (λ us. is_on us t.0) path_is ∙ t.2) in (
            y.call,
            y.called,
            (λ a on_it. alive z y t.0 its_top_is.0 its_top_is.1 t.3 path_is home a (ap (λ (v : Act). on v a) (sym y.by) ∙ on_it)),
            (
              ap root y.by ∙ home ∙ sym (top_unit act code paths C b d0 s0 o S reached work_C refl refl refl refl sees_C),
              ap (λ (v : Act). (S.action v).stage) top_is ∙ its_top_is.1,
            ),
          )
        where
          on_first : (z : Said) → IsSaid act rt z c.tree S → is_on z.path rt ≡ true
          on_first z y = ap (is_on z.path) (sym y.of) ∙ ap (λ us. is_on us (root_of y.branch.path)) (sym y.path)
              ∙ first_on (uids_of y.branch.path) (path_some y.branch.path)

          kept_is : (t : Uid) → is_kept_top t c ≡ true → (is_top (act t) ≡ true) × ((S.action (act t)).stage ≡ 3)
          kept_is t kept =
              let parts = and_parts (is_constituent_branch (branch_of t c.tree)) (is_committed t c.tree) kept in
              let top_one = constituent (branch_of t c.tree) refl parts.0 in
              (top_one, committed_stage t parts.1 (top_action (act t) top_one))
            where
              constituent : (v : Option Branch) → branch_of t c.tree ≡ v → is_constituent_branch v ≡ true → is_top (act t) ≡ true
              constituent None found' e = absurd (cc e)
              constituent (Some z) found' e = of_kind z.kind (work.steady.placed t z found') e
                where
                  of_kind : (n : Kind) → IsPlaced (act t) n → is_constituent n ≡ true → is_top (act t) ≡ true
                  of_kind kind.Constituent place e' = place
                  of_kind kind.Top place e' = absurd (cc e')
                  of_kind kind.Nested place e' = absurd (cc e')
                  of_kind kind.Serial place e' = absurd (cc e')
                  of_kind kind.Independent place e' = absurd (cc e')

          alive : (z : Said) → IsSaid act rt z c.tree S → (t : Uid) → is_top (act t) ≡ true → (S.action (act t)).stage ≡ 3 → ((y : Uid) →
              is_on z.path y ≡ true → (first_uid z.path ≡ y) ⊎ ((y ≡ t) ⊎ (is_committed y c.tree ≡ true))) → paths (last_uid z.path)
              ≡ z.path → root (act (last_uid z.path)) ≡ unit → (a : Act) → on (act (last_uid z.path)) a ≡ true → (S.action a).stage ≤ 3
          alive z said t top_one three stands path_is home a on_it = ⊎_elim action unit_one (by_cases (is_action a))
            where
              unit_zero : (S.action (Unit unit)).stage ≡ 0
              unit_zero = sees.actions.opened u b r0 work.there root_found
                  (open_above act paths x c S.action work.steady sees.actions u rt b r0 work.there work.unended root_found root_on)

              unit_one : is_action a ≡ false → (S.action a).stage ≤ 3
              unit_one none =
                  let e : a ≡ Unit unit = root_is a none ∙ ap Unit (sym (same_unit (act (last_uid z.path)) a on_it) ∙ home) in
                  let v : (S.action a).stage ≡ 0 = ap (λ (w : Act). (S.action w).stage) e ∙ unit_zero in
                  omega (arith, v)

              action : is_action a ≡ true → (S.action a).stage ≤ 3
              action acts =
                  let y = work.steady.alike.filled (last_uid z.path) a on_it acts in
                  let on_path : is_on z.path y.0 ≡ true = ap (λ us. is_on us y.0) (sym path_is)
                  ∙ sym (work.steady.alike.above (last_uid z.path) y.0) ∙ ap (on (act (last_uid z.path))) (sym y.1) ∙ on_it in
                  of y.0 y.1 (stands y.0 on_path)
                where
                  of : (y : Uid) → a ≡ act y → (first_uid z.path ≡ y) ⊎ ((y ≡ t) ⊎ (is_committed y c.tree ≡ true)) → (S.action a).stage ≤ 3
                  of y is (inl first_is) =
                      let v = seen_at act paths x c S.action work.steady sees.actions rt r0 root_found
                      (ap is_action (sym (is ∙ ap act (sym first_is ∙ ap first_uid (sym said.path) ∙ said.of))) ∙ acts) in
                      let open_root = open_above act paths x c S.action work.steady sees.actions u rt b r0 work.there work.unended
                      root_found root_on in
                      let st : (S.action a).stage ≡ stage_of None (let n = v.0 in n.now) = ap (λ (w : Act). (S.action w).stage)
                      (is ∙ ap act (sym first_is ∙ ap first_uid (sym said.path) ∙ said.of)) ∙ v.2.stage
                      ∙ (λ i. stage_of (unended_none r0.ended open_root i) (let n = v.0 in n.now)) in
                      let m = low_stage (let n = v.0 in n.now) in omega (arith, st, m)
                    where
                      low_stage : (n : Now) → stage_of None n ≤ 1
                      low_stage Idle = omega arith
                      low_stage (Calling w) = omega arith
                      low_stage (Committing w) = omega arith
                  of y is (inr (inl top_is)) =
                      let e : (S.action a).stage ≡ 3 = ap (λ (w : Act). (S.action w).stage) (is ∙ ap act top_is) ∙ three in omega (arith, e)
                  of y is (inr (inr ended_it)) = let e : (S.action a).stage ≡ 3 = ap (λ (w : Act). (S.action w).stage) is
                      ∙ committed_stage y ended_it (ap is_action (sym is) ∙ acts) in omega (arith, e)

  -- ---- whichever it is

  begin_goes : Begun (start_at (known_at_start (top_of b.path) x before c k.kept) k.avoid)
  begin_goes = by k.kept refl
    where
      by : (v : Option Known) → k.kept ≡ v → Begun (start_at (known_at_start (top_of b.path) x before c v) k.avoid)
      by None none = bind_goes
      by (Some w) is = test w.recorded (was_named (top_of b.path) x w.binding before) (retains x before c) refl refl refl
        where
          test : (r n t : Bool) → w.recorded ≡ r → was_named (top_of b.path) x w.binding before ≡ n → retains x before c ≡ t →
              Begun (start_at (cond (r && (n || t)) (Some w) None) k.avoid)
          test false n t r_is n_is t_is = bind_goes
          test true true t r_is n_is t_is = invoke_goes w is r_is (named_may w n_is)
          test true false true r_is n_is t_is = invoke_goes w is r_is (retained_may w t_is)
          test true false false r_is n_is t_is = bind_goes

  call_goes : Goes S (λ T. SeesCoord act code x (let e = call b.path x o c in e.part) T × OnlyCalled unit S T × WritesNone S T)
  call_goes = subst (λ (e : Coord). Goes S (λ T. SeesCoord act code x e T × OnlyCalled unit S T × WritesNone S T)) (λ i. (let e = goes_on
      (call_steps b.path x o (last_req (sym work.works i) + 1) before c k) (on_root rt (with_keeping x k) c1) in e.part)) begin_goes

pub calls_begin : CallsBegin
calls_begin act code paths x c u b d o S reached work idle plain sees =
    subst (λ (v : Uid). Goes S
    (λ T. SeesCoord act code x (let e = call b.path x o c in e.part) T × OnlyCalled (root (act v)) S T × WritesNone S T)) its_actor
    (call_goes act code paths x c b d o S reached (subst (λ (v : Uid). IsAtWork act paths c v b d) (sym its_actor) work) idle plain sees)
  where
    its_actor : actor b.path ≡ u
    its_actor = work.steady.good.tree.lists.places u b work.there
