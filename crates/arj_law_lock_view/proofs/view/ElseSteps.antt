-- Calls on other objects, and includes, are nothing to the machine.
use Rattle.arj_law_parts.proofs.Words
use Words.{◌≡◌, ◌≢◌, ◌≤◌, ◌+◌, ◌⊎◌, ◌∙◌, ◌==◌, ◌&&◌, ◌++◌, ℕ, List, [], ◌∷◌, Bool, true, false, cond, Option, Some, None, refl, sym, ap}
use Words.{subst, inl, inr, ⊎_elim, arith, is_some, eqb-true, Contains, unwrap_or, list_any, in_from, in_to, Answer, Binding, Op, Path, Uid}
use Words.{first_uid, is_on, last_uid, uids_of, Reply, actor, top_of, asks_step, call, call_steps, doomed_by, ends_call, give_up_call}
use Words.{goes_on, granted_by, heard_call, include, is_ended, kept_at, is_invoke_ask, keeps_after, last_req, notes_grant, renewed}
use Words.{root_heard, root_lost, root_moved, step_call, At, AtActivate, AtBind, AtInvoke, AtLoad, AtNote, CallEnd, CallStep, Ended, Goal}
use Words.{Include, Known, Moved, On, Run, Steps, answered, given_up, has_changed, is_invoke, load_from, or_lost, write_known, next_ask}
use Words.{next_node, spoils, Calling, Committing, Coord, Doing, Grant, Idle, Keeping, Now, Root, Said, Went, change_doing, doing_of}
use Words.{granted_with, is_call, is_free, keeping_of, named_last, no_keeping, no_root, on_root, root_at, same_said, same_went, set_doing}
use Words.{with_keeping, with_said, with_went, at_number, binding_number, unbound, is_committing_now, Branch, Tree, at_place, branch_of}
use Words.{doomed_at, doomed_branch, ends_of, has_end, is_own, root_of, set_place, uses_object, place_other, put_other, put_same}
use Words.{one_or_two}
use Words.list
use Words.ending
use Words.bound
use Words.kind
use Words.loaded
use Words.calls as protocol
use Rattle.arj_law_lock_view.proofs.Terms
use Terms.{on, root, State, differ, on_root as same_unit, Paths, IsAsking, IsBusy, IsSameTree, doomed_same, uses_same, found_by, own_is}
use Terms.{place_same, doing_other, doing_put, Acts, SeesAction, invokes, stage_of, IsAtWork, IsToInclude, IsWaiting, Codes, HasHeard}
use Terms.{IsTied, SeesCoord, SeesKeeping, SeesRoot, is_early}
use Rattle.arj_law_lock_view.proofs.view
use view.{ActingSteps.unended_none, AnswerSteps.grants_from, BeginSteps.same_coord, Looked.called_none}
use view.InvokedSteps.{noted_more, noted_old}
use view.RootSteps.{IsMoved, assemble, root_else, root_here, same_refl, same_spent}
use view.TreeSteps.{action_kind, one_changed, root_there}
use Rattle.arj_law_lock_view.specs.view.Calling.{IncludesBegin, IsElsewhere, OtherAnswersAreTaken, OtherCallsAreGivenUp, OtherCallsBegin}

-- ---- what is looked at of a root for one object

-- For the object the root after is as before: what it keeps, its answered calls, and what its grants name was heard.
record LooksSame (act : Acts) (x : ℕ) (r q : Root) (S : State) : Type 0 where
  pub keeps : keeping_of x q ≡ keeping_of x r
  pub fewer : (z : Said) → z.x ≡ x → Contains q.said z → Contains r.said z
  pub more : (z : Said) → z.x ≡ x → Contains r.said z → Contains q.said z
  pub heard : (g : Grant) (n : Binding) → Contains q.grants g → g.x ≡ x → g.named ≡ Some n → HasHeard (act g.top) (binding_number n) S

looks_went : (act : Acts) (x : ℕ) (w : Went) (r q : Root) (S : State) → LooksSame act x r q S → LooksSame act x r (with_went w q) S
looks_went act x w r q S l = by (list_any (same_went w) q.went)
  where
    by : (t : Bool) → LooksSame act x r (cond t q (record q { went = q.went ++ w ∷ [] })) S
    by true = l
    by false = record { keeps = l.keeps; fewer = l.fewer; more = l.more; heard = l.heard }

-- what is kept of another object
keeps_other : (x y : ℕ) (k : Keeping) (r : Root) → y ≢ x → keeping_of x (with_keeping y k r) ≡ keeping_of x r
keeps_other x y k r other = ⊎_elim (λ same. absurd (other same))
    (λ apart. ap (λ (v : Option Keeping). unwrap_or v no_keeping) (put_other y x k r.keeping apart.0)) (one_or_two y x)

looks_kept : (act : Acts) (x y : ℕ) (k : Keeping) (r q : Root) (S : State) → (y ≢ x) ⊎ (k ≡ keeping_of y q) → LooksSame act x r q S →
    LooksSame act x r (with_keeping y k q) S
looks_kept act x y k r q S away l = record {
  keeps = ⊎_elim (λ other. keeps_other x y k q other ∙ l.keeps) (λ same.
      ⊎_elim (λ (is : y ≡ x). again is same ∙ l.keeps) (λ (other : y ≢ x). keeps_other x y k q other ∙ l.keeps) (number_cases y x)) away;
  fewer = l.fewer;
  more = l.more;
  heard = l.heard;
}
  where
    number_cases : (m n : ℕ) → (m ≡ n) ⊎ (m ≢ n)
    number_cases m n = grind arith

    again : y ≡ x → k ≡ keeping_of y q → keeping_of x (with_keeping y k q) ≡ keeping_of x q
    again is same = subst (λ (n : ℕ). keeping_of n (with_keeping y k q) ≡ keeping_of n q) is
        (ap (λ (v : Option Keeping). unwrap_or v no_keeping) (put_same y k q.keeping) ∙ same)

-- ---- an action of a coordinator

module _ (act : Acts) (code : Codes) (paths : Paths) (x : ℕ) (c : Coord) (pt : Path) (b : Branch) (d : Doing) (S : State)
    (work : IsAtWork act paths c (actor pt) b d) (path : pt ≡ b.path) (unserial : b.kind ≢ kind.Serial) (sees : SeesCoord act code x c S)
    (calm : invokes x d.now ≡ false) (uncommitting : is_committing_now d.now ≡ false) where
  abbrev u : Uid
  u = actor pt

  abbrev rt : Uid
  rt = root_of pt

  abbrev before : Root
  before = root_at rt c

  of : root_of b.path ≡ rt
  of = ap (λ p. root_of p) (sym path)

  r0 : Branch
  r0 = (root_there act paths x c S.action work.steady sees.actions u b work.there).0

  root_found : branch_of rt c.tree ≡ Some r0
  unfolding r0
  root_found = ap (λ (v : Uid). branch_of v c.tree) (sym of) ∙ (root_there act paths x c S.action work.steady sees.actions u b work.there).1

  unit_is : root (act rt) ≡ root (act u)
  unit_is = sym (same_unit (act u) (act rt) (work.steady.alike.above u rt ∙ ap (is_on (paths u)) (sym of)
      ∙ (root_there act paths x c S.action work.steady sees.actions u b work.there).2))

  own_root : root_of r0.path ≡ rt
  own_root = ap first_uid (work.steady.good.tree.lists.paths_are rt r0 root_found) ∙ work.steady.alike.units rt u unit_is
      ∙ ap first_uid (sym (work.steady.good.tree.lists.paths_are u b work.there)) ∙ of

  seen : SeesRoot act x rt before c.tree S
  seen = sees.roots rt r0 root_found own_root

  abbrev Becomes : Coord → Branch → Doing → Root → Type 0
  Becomes e b' d' q = IsMoved act code paths x c e S S work.steady sees u rt b work.there of r0 root_found own_root b' d' q

  -- another work of the action, at which the machine doesn't look
  record IsQuiet (d' : Doing) : Type 0 where
    pub calm_then : invokes x d'.now ≡ false
    pub rests : is_committing_now d'.now ≡ false
    pub later : d.req ≤ d'.req
    pub elsewhere : (z : Steps) (o : Op) → d'.now ≡ Calling z → z.x ≡ x → z.goal ≡ Run o → ⊥
    pub plain : (z : Steps) → d'.now ≡ Calling z → z.x ≡ x → is_early z.at ≡ false → is_call z.goal ≡ true

  quiet_seen : (e : Coord) (b' : Branch) (d' : Doing) (q : Root) → Becomes e b' d' q → b'.path ≡ b.path → b'.ended ≡ b.ended →
      (b'.doomed ≡ false → b.doomed ≡ false) → IsQuiet d' → LooksSame act x before q S → SeesCoord act code x e S
  quiet_seen e b' d' q moved same_path same_end doomed quiet looks =
      assemble act code paths x c e S S work.steady sees u rt b work.there of r0 root_found own_root b' d' q moved
      (called_none (root (act u)) S)
      (one_changed act paths x c S.action work.steady sees.actions u b b' d' e S.action work.there moved.one same_path
      (λ un. ap is_some (sym same_end) ∙ un) (λ h. its_new) (λ w other h. refl) (λ w r z there root_is_there un. refl) (λ n. refl))
      root_then
      (inl (
        (λ v t. subst (λ (k : Keeping). IsTied k.kept v) (sym looks.keeps) t),
        (λ none. (ap (λ (k : Keeping). k.kept) (sym looks.keeps) ∙ none, ap (λ (k : Keeping). k.avoid) looks.keeps)),
      ))
      (λ z o is about goal. absurd (quiet.elsewhere z o is about goal))
      quiet.plain
    where
      its_new : SeesAction x b' d' (S.action (act u))
      its_new =
          let was = sees.actions.each u b d work.there work.works
          (action_kind (act u) b.kind unserial (work.steady.placed u b work.there)) in
          let none = unended_none b.ended work.unended in
          record {
            stage = was.stage ∙ (λ i. stage_of (none i) d.now) ∙ zero_stage d.now uncommitting ∙ sym (zero_stage d'.now quiet.rests)
                ∙ (λ i. stage_of (sym (same_end ∙ none) i) d'.now);
            request = (let r = was.request in let l = quiet.later in omega (arith, r, l));
            waits = λ h. was.waits (ap (has_end ending.Abort) none) ∙ calm ∙ sym quiet.calm_then;
            last = λ h. differ h quiet.calm_then;
            doomed = λ h. was.doomed (doomed h);
          }
        where
          zero_stage : (n : Now) → is_committing_now n ≡ false → stage_of None n ≡ 0
          zero_stage Idle h = refl
          zero_stage (Calling z) h = refl
          zero_stage (Committing m) h = absurd (cc h)

      root_then : SeesRoot act x rt q e.tree S
      root_then = record {
        keeping = subst (λ (k : Keeping). SeesKeeping (root (act rt)) k.kept k.avoid S) (sym looks.keeps) seen.keeping;
        spent = λ none z there about. same_spent c.tree e.tree moved.same z.path
            ∙ seen.spent (ap (λ (k : Keeping). k.kept) (sym looks.keeps) ∙ none) z (looks.fewer z about there) about;
        said = λ z there about. (let y = seen.said z (looks.fewer z about there) about in
            let g = moved.same.forth (last_uid z.path) y.branch y.there in record {
              branch = g.0;
              there = g.1;
              path = ap uids_of (sym g.2) ∙ y.path;
              of = ap (λ p. root_of p) (sym g.2) ∙ y.of;
              call = y.call;
              called = y.called;
              by = y.by;
            });
        calls = λ k i home. (let f = seen.calls k i home in (f.0, looks.more f.0 f.2 f.1, f.2, f.3));
        heard = looks.heard;
      }

  looks_here : LooksSame act x before before S
  looks_here = record { keeps = refl; fewer = λ z about there. there; more = λ z about there. there; heard = seen.heard }

  -- ---- the coordinator, with a tree in which the action stands as it did

  module _ (tr : Tree) (same : IsSameTree c.tree tr) (own : (w : Uid) → is_own w tr ≡ is_own w c.tree) (br : (w : Uid) →
      branch_of w tr ≡ branch_of w c.tree) where
    abbrev base : Coord
    base = record c { tree = tr }

    own_same : (w : Uid) → doing_of w base ≡ doing_of w c
    own_same w = λ i. cond (own w i) (at_place w.num c.doings) None

    base_works : doing_of u base ≡ Some d
    base_works = own_same u ∙ work.works

    -- its call goes on
    module _ (z : Steps) (on_path : z.path ≡ pt) (g : Root → Root) where
      abbrev busy : Doing
      busy = record d { req = z.req; now = Calling z }

      abbrev goes : Coord
      goes = let e = goes_on z (on_root rt g base) in e.part

      abbrev note : Went
      note = record { path = uids_of z.path; node = next_node z; invoke = is_invoke_ask (next_ask (ends_of (root_of z.path) tr) z) }

      goes_becomes : Becomes goes b busy (with_went note (g before))
      goes_becomes = subst (λ (e : Coord). Becomes e b busy (with_went note (g before))) (sym goes_is) (record {
        same = same;
        one = record {
          branch = br u ∙ work.there;
          doing = doing_put u busy d base base_works;
          branches = λ w other. br w;
          doings = λ w other. doing_other u w busy d base base_works other ∙ own_same w;
        };
        root_is = root_here rt (with_went note) (set_doing u busy (on_root rt g base)) ∙ ap (with_went note) (root_here rt g base);
        elsewhere = λ w other. root_else rt (with_went note) (set_doing u busy (on_root rt g base)) w other ∙ root_else rt g base w other;
      })
        where
          goes_is : goes ≡ on_root rt (with_went note) (set_doing u busy (on_root rt g base))
          goes_is = (λ i. (let e = asks_step z (change_doing (λ (q : Doing). record q { req = z.req; now = Calling z }) (actor (on_path i))
              (on_root rt g base) (doing_of (actor (on_path i)) base)) in e.part))
              ∙ (λ i. (let e = asks_step z
              (change_doing (λ (q : Doing). record q { req = z.req; now = Calling z }) u (on_root rt g base) (base_works i)) in e.part))
              ∙ (λ i. on_root (root_of (on_path i)) (with_went note) (set_doing u busy (on_root rt g base)))

  -- or ends
  module _ (s : Steps) (on_path : s.path ≡ pt) (end : CallEnd) (g : Root → Root) where
    abbrev rests : Doing
    rests = record d { now = Idle }

    abbrev over : Coord
    over = let k = ends_call s end (on_root rt g c) in k.part

    abbrev plain_over : Coord
    plain_over = on_root rt (root_heard s end) (set_doing u rests (on_root rt g c))

    over_is : over ≡ doomed_by u end plain_over
    over_is = (λ i. doomed_by (actor (on_path i)) end (on_root (root_of (on_path i)) (root_heard s end)
        (change_doing (λ (q : Doing). record q { now = Idle }) (actor (on_path i)) (on_root rt g c) (doing_of (actor (on_path i)) c))))
        ∙ (λ i. doomed_by u end
        (on_root rt (root_heard s end) (change_doing (λ (q : Doing). record q { now = Idle }) u (on_root rt g c) (work.works i))))

    over_becomes : Becomes plain_over b rests (root_heard s end (g before))
    over_becomes = record {
      same = same_refl c.tree;
      one = record {
        branch = work.there;
        doing = doing_put u rests d c work.works;
        branches = λ w other. refl;
        doings = λ w other. doing_other u w rests d c work.works other;
      };
      root_is = root_here rt (root_heard s end) (set_doing u rests (on_root rt g c)) ∙ ap (root_heard s end) (root_here rt g c);
      elsewhere = λ w other. root_else rt (root_heard s end) (set_doing u rests (on_root rt g c)) w other ∙ root_else rt g c w other;
    }

    rests_quiet : IsQuiet rests
    rests_quiet =
        record { calm_then = refl; rests = refl; later = omega arith; elsewhere = λ z o is. absurd (cc is); plain = λ z is. absurd (cc is) }

    abbrev doomed_b : Branch
    doomed_b = record b { doomed = true }

    abbrev doomed_over : Coord
    doomed_over = record plain_over { tree = doomed_at u c.tree }

    tree_is : doomed_at u c.tree ≡ record c.tree { branches = set_place u.num doomed_b (let t = c.tree in t.branches) }
    tree_is = λ i. doomed_branch u c.tree (work.there i)

    doomed_becomes : Becomes doomed_over doomed_b rests (root_heard s end (g before))
    doomed_becomes = record {
      same = doomed_same u c.tree;
      one = record {
        branch = ap (branch_of u) tree_is ∙ (λ i.
            cond ((found_by u c.tree b work.there).0 i) (at_place u.num (set_place u.num doomed_b (let t = c.tree in t.branches))) None)
            ∙ place_same u.num doomed_b b (let t = c.tree in t.branches) (found_by u c.tree b work.there).1;
        doing = (λ i. cond (own_then u i) (at_place u.num (set_place u.num rests c.doings)) None) ∙ doing_put u rests d c work.works;
        branches = λ w other. ap (branch_of w) tree_is ∙ there w other (is_own w c.tree) refl;
        doings = λ w other. (λ i. cond (own_then w i) (at_place w.num (set_place u.num rests c.doings)) None)
            ∙ doing_other u w rests d c work.works other;
      };
      root_is = root_here rt (root_heard s end) (set_doing u rests (on_root rt g c)) ∙ ap (root_heard s end) (root_here rt g c);
      elsewhere = λ w other. root_else rt (root_heard s end) (set_doing u rests (on_root rt g c)) w other ∙ root_else rt g c w other;
    }
      where
        own_then : (w : Uid) → is_own w (doomed_at u c.tree) ≡ is_own w c.tree
        own_then w = ap (is_own w) tree_is

        there : (w : Uid) → w ≢ u → (t : Bool) → is_own w c.tree ≡ t → cond t (at_place w.num
            (set_place u.num doomed_b (let t = c.tree in t.branches))) None ≡ cond t (at_place w.num (let t = c.tree in t.branches)) None
        there w other true own' = place_other u.num w.num doomed_b (let t = c.tree in
            t.branches) (λ is. other (own_is w u c.tree own' (found_by u c.tree b work.there).0 is))
        there w other false own' = refl

    over_seen : LooksSame act x before (root_heard s end (g before)) S → SeesCoord act code x over S
    over_seen looks = subst (λ (e : Coord). SeesCoord act code x e S) (sym over_is) (by end refl)
      where
        plainly : SeesCoord act code x plain_over S
        plainly = quiet_seen plain_over b rests (root_heard s end (g before)) over_becomes refl refl (λ h. h) rests_quiet looks

        dooms : SeesCoord act code x doomed_over S
        dooms = quiet_seen doomed_over doomed_b rests (root_heard s end (g before)) doomed_becomes refl refl (λ h. absurd (cc h))
            rests_quiet looks

        by : (v : CallEnd) → end ≡ v → SeesCoord act code x (doomed_by u v plain_over) S
        by (protocol.Answered a) is = plainly
        by (protocol.Included st) is = plainly
        by (protocol.Conflict h m n) is = plainly
        by (protocol.Changed n w) is = plainly
        by (protocol.Lost n true) is = dooms
        by (protocol.Lost n false) is = plainly

  -- what the root notes at the end
  heard_looks : (s : Steps) (end : CallEnd) (q : Root) → (s.x ≢ x) ⊎ ((a : Answer) → end ≢ protocol.Answered a) →
      LooksSame act x before q S → LooksSame act x before (root_heard s end q) S
  heard_looks s (protocol.Answered a) q away l = ⊎_elim
      (λ other. by (list_any (same_said n) q.said) other)
      (λ none. absurd (none a refl))
      away
    where
      n : Said
      n = record { path = uids_of s.path; x = s.x }

      by : (t : Bool) → s.x ≢ x → LooksSame act x before (with_said n q) S
      by t other = record {
        keeps = (keeps_noted (list_any (same_said n) q.said)).0 ∙ l.keeps;
        fewer = λ z about there.
            ⊎_elim (λ old. l.fewer z about old) (λ new. absurd (other (ap (λ (y : Said). y.x) (sym new) ∙ about))) (noted_old n z q there);
        more = λ z about there. noted_more n z q (l.more z about there);
        heard = λ g w there. l.heard g w (subst (λ (gs : List Grant). Contains gs g) (keeps_noted (list_any (same_said n) q.said)).1 there);
      }
        where
          keeps_noted : (t : Bool) → (keeping_of x (cond t q (record q { said = q.said ++ n ∷ [] })) ≡ keeping_of x q)
              × ((let r = cond t q (record q { said = q.said ++ n ∷ [] }) in r.grants) ≡ q.grants)
          keeps_noted true = (refl, refl)
          keeps_noted false = (refl, refl)
  heard_looks s (protocol.Included st) q away l = record { keeps = l.keeps; fewer = l.fewer; more = l.more; heard = l.heard }
  heard_looks s (protocol.Conflict h m n) q away l = l
  heard_looks s (protocol.Changed n w) q away l = l
  heard_looks s (protocol.Lost n t) q away l = l

  -- what an answer grants
  granted_looks : (s : Steps) (r : Reply) → (s.x ≢ x) ⊎ IsToInclude r →
      LooksSame act x before (notes_grant (granted_by (top_of s.path) s.x r) before) S
  granted_looks s r away = by (granted_by (top_of s.path) s.x r) (of_x r) (of_reply r away)
    where
      of_x : (r : Reply) → (g : Grant) → granted_by (top_of s.path) s.x r ≡ Some g → g.x ≡ s.x
      of_x (Reply.Bound (bound.Live n server i v stores)) g is =
          let one : record { top = top_of s.path; x = s.x; least = v; named = Some n } ≡ g = cc is in ap (λ (y : Grant). y.x) (sym one)
      of_x (Reply.Bound (bound.Make n server v stores)) g is =
          let one : record { top = top_of s.path; x = s.x; least = v; named = Some n } ≡ g = cc is in ap (λ (y : Grant). y.x) (sym one)
      of_x (Reply.Bound (bound.Write v stores)) g is =
          let one : record { top = top_of s.path; x = s.x; least = v; named = None } ≡ g = cc is in ap (λ (y : Grant). y.x) (sym one)
      of_x (Reply.Bound (bound.Conflict h m)) g is = absurd (cc is)
      of_x (Reply.Loaded y) g is = absurd (cc is)
      of_x (Reply.Activated y) g is = absurd (cc is)
      of_x (Reply.Noted y) g is = absurd (cc is)
      of_x (Reply.Invoked y) g is = absurd (cc is)
      of_x (Reply.Voted y) g is = absurd (cc is)
      of_x (Reply.Prepared y) g is = absurd (cc is)
      of_x (Reply.Confirmed y) g is = absurd (cc is)

      of_reply : (r : Reply) → (s.x ≢ x) ⊎ IsToInclude r → (g : Grant) → granted_by (top_of s.path) s.x r ≡ Some g →
          (s.x ≢ x) ⊎ (g.named ≡ None)
      of_reply (Reply.Bound (bound.Live n server i v stores)) (inl other) g is = inl other
      of_reply (Reply.Bound (bound.Live n server i v stores)) (inr bad) g is = absurd bad
      of_reply (Reply.Bound (bound.Make n server v stores)) (inl other) g is = inl other
      of_reply (Reply.Bound (bound.Make n server v stores)) (inr bad) g is = absurd bad
      of_reply (Reply.Bound (bound.Write v stores)) to g is = inr
          (let one : record { top = top_of s.path; x = s.x; least = v; named = None } ≡ g = cc is in ap (λ (y : Grant). y.named) (sym one))
      of_reply (Reply.Bound (bound.Conflict h m)) to g is = absurd (cc is)
      of_reply (Reply.Loaded y) to g is = absurd (cc is)
      of_reply (Reply.Activated y) to g is = absurd (cc is)
      of_reply (Reply.Noted y) to g is = absurd (cc is)
      of_reply (Reply.Invoked y) to g is = absurd (cc is)
      of_reply (Reply.Voted y) to g is = absurd (cc is)
      of_reply (Reply.Prepared y) to g is = absurd (cc is)
      of_reply (Reply.Confirmed y) to g is = absurd (cc is)

      by : (v : Option Grant) → ((g : Grant) → v ≡ Some g → g.x ≡ s.x) → ((g : Grant) → v ≡ Some g → (s.x ≢ x) ⊎ (g.named ≡ None)) →
          LooksSame act x before (notes_grant v before) S
      by None is_x named = looks_here
      by (Some g) is_x named = record {
        keeps = refl;
        fewer = λ z about there. there;
        more = λ z about there. there;
        heard = λ k n there. grants_from (λ (y : Grant). y.x ≡ x → y.named ≡ Some n →
            HasHeard (act y.top) (binding_number n) S) g (let q = before in q.grants)
            (λ h i. seen.heard h n (in_to h (let q = before in q.grants) i))
            (λ about is. absurd (⊎_elim (λ other. other (sym (is_x g refl) ∙ about)) (λ none. cc (sym none ∙ is)) (named g refl)))
            (λ h i top_is of about is. merged h i of about n is)
            k (in_from k (granted_with g (let q = before in q.grants)) there);
      }
        where
          merged : (h : Grant) → list.In h (let q = before in q.grants) → h.x ≡ g.x → h.x ≡ x → (n : Binding) →
              named_last g.named h.named ≡ Some n → HasHeard (act h.top) (binding_number n) S
          merged h i of about n is = ⊎_elim
              (λ other. absurd (other (sym (of ∙ is_x g refl) ∙ about)))
              (λ none. seen.heard h n (in_to h (let q = before in q.grants) i) about
              (ap (λ (v : Option Binding). named_last v h.named) (sym none) ∙ is))
              (named g refl)

  -- ---- a step that the machine doesn't look at

  -- where it may lead
  abbrev IsFine : Steps → CallStep → Type 0
  IsFine s (On a) = (s.x ≢ x) ⊎ (is_early a ≡ true)
  IsFine s (Ended e) = (s.x ≢ x) ⊎ ((a : Answer) → e ≢ protocol.Answered a)

  not_invoke : (a : At) → is_early a ≡ true → is_invoke a ≡ false
  not_invoke (AtBind avoid) h = refl
  not_invoke (AtLoad k n rest) h = refl
  not_invoke (AtActivate k st) h = absurd (cc h)
  not_invoke (AtNote k i) h = absurd (cc h)
  not_invoke (AtInvoke k i) h = absurd (cc h)

  same_call : (z y : Steps) → Calling z ≡ Calling y → z ≡ y
  same_call z y e = cc e

  other_test : (y : ℕ) → y ≢ x → (y == x) ≡ false
  other_test y other = by (y == x) refl
    where
      by : (t : Bool) → (y == x) ≡ t → t ≡ false
      by false e = refl
      by true e = absurd (other (eqb-true y x e))

  busy_quiet : (z : Steps) → IsElsewhere x z → (z.x ≢ x) ⊎ (is_early z.at ≡ true) → d.req ≤ z.req →
      IsQuiet (record d { req = z.req; now = Calling z })
  busy_quiet z away early later = record {
    calm_then = ⊎_elim (λ other. ap (λ (t : Bool). t && is_invoke z.at) (other_test z.x other))
        (λ h. both_false (z.x == x) (is_invoke z.at) (not_invoke z.at h)) early;
    rests = refl;
    later = later;
    elsewhere = λ y o is about goal. (let one = same_call z y is in ⊎_elim
        (λ other. other (ap (λ (v : Steps). v.x) one ∙ about))
        (λ inc. no_run inc.0 o (sym inc.1 ∙ ap (λ (v : Steps). v.goal) one ∙ goal))
        away);
    plain = λ y is about late. (let one = same_call z y is in ⊎_elim
        (λ other. absurd (other (ap (λ (v : Steps). v.x) one ∙ about)))
        (λ h. absurd (differ (ap (λ (v : Steps). is_early v.at) (sym one) ∙ h) late))
        early);
  }
    where
      both_false : (t v : Bool) → v ≡ false → (t && v) ≡ false
      both_false true v h = h
      both_false false v h = refl

      no_run : (store : ℕ) (o : Op) → Include store ≡ Run o → ⊥
      no_run store o e = cc e

  step_seen : (s : Steps) → s.path ≡ pt → IsElsewhere x s → s.req ≡ d.req → (st : CallStep) (g : Root → Root) → IsFine s st →
      LooksSame act x before (g before) S → SeesCoord act code x (let e = step_call s st (on_root rt g c) in e.part) S
  step_seen s on_path away last (On a) g fine looks =
      let z : Steps = record s { req = s.req + 1; at = a } in
      quiet_seen (goes c.tree (same_refl c.tree) (λ w. refl) (λ w. refl) z on_path g) b (record d { req = s.req + 1; now = Calling z })
      (with_went (note c.tree (same_refl c.tree) (λ w. refl) (λ w. refl) z on_path g) (g before))
      (goes_becomes c.tree (same_refl c.tree) (λ w. refl) (λ w. refl) z on_path g) refl refl (λ h. h)
      (busy_quiet z away fine (omega (arith, last)))
      (looks_went act x (note c.tree (same_refl c.tree) (λ w. refl) (λ w. refl) z on_path g) before (g before) S looks)
  step_seen s on_path away last (Ended e) g fine looks = over_seen s on_path e g (heard_looks s e (g before) fine looks)

  fine_other : (s : Steps) → s.x ≢ x → (st : CallStep) → IsFine s st
  fine_other s other (On a) = inl other
  fine_other s other (Ended e) = inl other

  -- what is kept of the object stays
  kept_looks : (s : Steps) (spoilt : Bool) (k : Option Known) (q : Root) → IsElsewhere x s → keeping_of s.x q ≡ keeping_of s.x before →
      LooksSame act x before q S → LooksSame act x before (with_keeping s.x (keeps_after s.goal spoilt k (keeping_of s.x before)) q) S
  kept_looks s spoilt k q away same_k l = looks_kept act x s.x (keeps_after s.goal spoilt k (keeping_of s.x before)) before q S
      (⊎_elim (λ other. inl other) (λ inc. inr ((λ i. keeps_after (inc.1 i) spoilt k (keeping_of s.x before)) ∙ sym same_k)) away) l

  moved_looks : (s : Steps) (r : Reply) (mv : Moved) → IsElsewhere x s → (s.x ≢ x) ⊎ IsToInclude r →
      LooksSame act x before (root_moved s r mv before) S
  moved_looks s r mv away to = kept_looks s (has_changed mv.step) mv.kept (notes_grant (granted_by (top_of s.path) s.x r) before) away
      (same_k (granted_by (top_of s.path) s.x r)) (granted_looks s r to)
    where
      same_k : (v : Option Grant) → keeping_of s.x (notes_grant v before) ≡ keeping_of s.x before
      same_k None = refl
      same_k (Some g) = refl

  lost_looks : (s : Steps) (st : CallStep) → IsElsewhere x s → LooksSame act x before (root_lost s st before) S
  lost_looks s st away = kept_looks s (is_ended st && spoils s.at) (let k = keeping_of s.x before in k.kept) before away refl looks_here

-- ---- an answer, and a giveup

number_cases : (m n : ℕ) → (m ≡ n) ⊎ (m ≢ n)
number_cases m n = grind arith

-- an include waits for its lock or its state
pub include_early : (act : Acts) (code : Codes) (x : ℕ) (c : Coord) (u : Uid) (d : Doing) (s : Steps) (S : State) → SeesCoord act code x c S
    → doing_of u c ≡ Some d → d.now ≡ Calling s → s.x ≡ x → (store : ℕ) → s.goal ≡ Include store → is_early s.at ≡ true
include_early act code x c u d s S sees works calling about store goal = by (is_early s.at) refl
  where
    by : (t : Bool) → is_early s.at ≡ t → t ≡ true
    by true e = refl
    by false e = absurd (let h = sees.plain u d s works calling about e in differ h (ap is_call goal))

-- such a step isn't an Invoke on the object
waits_calm : (act : Acts) (code : Codes) (x : ℕ) (c : Coord) (u : Uid) (d : Doing) (s : Steps) (S : State) → SeesCoord act code x c S →
    doing_of u c ≡ Some d → d.now ≡ Calling s → IsElsewhere x s → invokes x d.now ≡ false
waits_calm act code x c u d s S sees works calling away = ap (invokes x) calling ∙ ⊎_elim
    (λ (is : s.x ≡ x). ⊎_elim (λ other. absurd (other is))
    (λ inc. both (s.x == x) (is_invoke s.at) (late s.at (include_early act code x c u d s S sees works calling is inc.0 inc.1))) away)
    (λ (other : s.x ≢ x). ap (λ (t : Bool). t && is_invoke s.at) (test (s.x == x) refl other))
    (number_cases s.x x)
  where
    both : (t v : Bool) → v ≡ false → (t && v) ≡ false
    both true v h = h
    both false v h = refl

    late : (a : At) → is_early a ≡ true → is_invoke a ≡ false
    late (AtBind avoid) h = refl
    late (AtLoad k n rest) h = refl
    late (AtActivate k st) h = absurd (cc h)
    late (AtNote k i) h = absurd (cc h)
    late (AtInvoke k i) h = absurd (cc h)

    test : (t : Bool) → (s.x == x) ≡ t → s.x ≢ x → t ≡ false
    test false e other = refl
    test true e other = absurd (other (eqb-true s.x x e))

module _ (act : Acts) (code : Codes) (paths : Paths) (x : ℕ) (c : Coord) (b : Branch) (d : Doing) (s : Steps) (S : State)
    (work : IsAtWork act paths c (actor s.path) b d) (on : IsWaiting b d s) (away : IsElsewhere x s) (sees : SeesCoord act code x c S) where
  asks : IsAsking c.tree (actor s.path) s.path
  asks = subst (IsBusy c.tree (actor s.path)) on.calling (work.steady.good.busy (actor s.path) d work.works)

  unserial : b.kind ≢ kind.Serial
  unserial is = asks.unserial (ap (λ (v : Branch). v.kind) (one asks.branch b asks.found work.there) ∙ is)
    where
      one : (v w : Branch) → branch_of (actor s.path) c.tree ≡ Some v → branch_of (actor s.path) c.tree ≡ Some w → v ≡ w
      one v w p q = let e : ◌≡◌ {A = Option Branch} (Some v) (Some w) = sym p ∙ q in cc e

  calm : invokes x d.now ≡ false
  calm = waits_calm act code x c (actor s.path) d s S sees work.works on.calling away

  taken : (st : CallStep) (g : Root → Root) → IsFine act code paths x c s.path b d S work on.path unserial sees calm
      (ap is_committing_now on.calling) s st → LooksSame act x (root_at (root_of s.path) c) (g (root_at (root_of s.path) c)) S →
      SeesCoord act code x (let e = step_call s st (on_root (root_of s.path) g c) in e.part) S
  taken st g fine looks = step_seen act code paths x c s.path b d S work on.path unserial sees calm (ap is_committing_now on.calling) s refl
      away on.last st g fine looks

  fine_answer : (free : Bool) (kept : Option Known) (r : Reply) → (s.x ≡ x → IsToInclude r) → IsFine act code paths x c s.path b d S work
      on.path unserial sees calm (ap is_committing_now on.calling) s (let m = answered free kept s.goal s.at r in m.step)
  fine_answer free kept r to = ⊎_elim
      (λ (is : s.x ≡ x). ⊎_elim
      (λ other. absurd (other is))
      (λ inc. subst (λ (g : Goal). IsFine act code paths x c s.path b d S work on.path unserial sees calm (ap is_committing_now on.calling)
      s (let m = answered free kept g s.at r in m.step)) (sym inc.1)
      (by s.at (include_early act code x c (actor s.path) d s S sees work.works on.calling is inc.0 inc.1) inc.0 r (to is)))
      away)
      (λ (other : s.x ≢ x). fine_other act code paths x c s.path b d S work on.path unserial sees calm (ap is_committing_now on.calling) s
      other (let m = answered free kept s.goal s.at r in m.step))
      (number_cases s.x x)
    where
      abbrev_fine : CallStep → Type 0
      abbrev_fine st = IsFine act code paths x c s.path b d S work on.path unserial sees calm (ap is_committing_now on.calling) s st

      loads : (k : Known) (ss : List ℕ) → abbrev_fine (let m = or_lost kept (load_from k ss) in m.step)
      loads k [] = inr (λ a e. cc e)
      loads k (n ∷ ns) = inr refl

      by : (a : At) → is_early a ≡ true → (store : ℕ) (r : Reply) → IsToInclude r →
          abbrev_fine (let m = answered free kept (Include store) a r in m.step)
      by (AtBind avoid) early store (Reply.Bound (bound.Live n server i g stores)) to' = absurd to'
      by (AtBind avoid) early store (Reply.Bound (bound.Make n server g stores)) to' = absurd to'
      by (AtBind avoid) early store (Reply.Bound (bound.Write g stores)) to' = loads (write_known g stores) stores
      by (AtBind avoid) early store (Reply.Bound (bound.Conflict h m)) to' = inr (λ a e. cc e)
      by (AtBind avoid) early store (Reply.Loaded y) to' = inr refl
      by (AtBind avoid) early store (Reply.Activated y) to' = inr refl
      by (AtBind avoid) early store (Reply.Noted y) to' = inr refl
      by (AtBind avoid) early store (Reply.Invoked y) to' = inr refl
      by (AtBind avoid) early store (Reply.Voted y) to' = inr refl
      by (AtBind avoid) early store (Reply.Prepared y) to' = inr refl
      by (AtBind avoid) early store (Reply.Confirmed y) to' = inr refl
      by (AtLoad k n rest) early store (Reply.Loaded (loaded.State st)) to' = inr (λ a e. cc e)
      by (AtLoad k n rest) early store (Reply.Loaded (loaded.InDoubt h)) to' = inr (λ a e. cc e)
      by (AtLoad k n rest) early store (Reply.Bound y) to' = inr refl
      by (AtLoad k n rest) early store (Reply.Activated y) to' = inr refl
      by (AtLoad k n rest) early store (Reply.Noted y) to' = inr refl
      by (AtLoad k n rest) early store (Reply.Invoked y) to' = inr refl
      by (AtLoad k n rest) early store (Reply.Voted y) to' = inr refl
      by (AtLoad k n rest) early store (Reply.Prepared y) to' = inr refl
      by (AtLoad k n rest) early store (Reply.Confirmed y) to' = inr refl
      by (AtActivate k st) early store r to' = absurd (cc early)
      by (AtNote k i) early store r to' = absurd (cc early)
      by (AtInvoke k i) early store r to' = absurd (cc early)

  fine_lost : IsFine act code paths x c s.path b d S work on.path unserial sees calm (ap is_committing_now on.calling) s (given_up s.at)
  fine_lost = by s.at
    where
      by : (a : At) →
          IsFine act code paths x c s.path b d S work on.path unserial sees calm (ap is_committing_now on.calling) s (given_up a)
      by (AtBind avoid) = inr (λ a e. cc e)
      by (AtLoad k n []) = inr (λ a e. cc e)
      by (AtLoad k n (t ∷ rest)) = inr refl
      by (AtActivate k st) = inr (λ a e. cc e)
      by (AtNote k i) = inr (λ a e. cc e)
      by (AtInvoke k i) = inr (λ a e. cc e)

  answer_seen : (r : Reply) → (s.x ≡ x → IsToInclude r) → SeesCoord act code x (let e = heard_call s r c in e.part) S
  answer_seen r to =
      let mv = answered (is_free (root_of s.path) (actor s.path) s.x c) (kept_at s c) s.goal s.at r in
      taken mv.step (root_moved s r mv) (fine_answer (is_free (root_of s.path) (actor s.path) s.x c) (kept_at s c) r to)
      (moved_looks act code paths x c s.path b d S work on.path unserial sees calm (ap is_committing_now on.calling) s r mv away
      (⊎_elim (λ (is : s.x ≡ x). inr (to is)) (λ (other : s.x ≢ x). inl other) (number_cases s.x x)))

  lost_seen : SeesCoord act code x (let e = give_up_call s c in e.part) S
  lost_seen = taken (given_up s.at) (root_lost s (given_up s.at)) fine_lost
      (lost_looks act code paths x c s.path b d S work on.path unserial sees calm (ap is_committing_now on.calling) s (given_up s.at) away)

pub other_answers_are_taken : OtherAnswersAreTaken
other_answers_are_taken act code paths x c u b d s r S work on away to sees =
    answer_seen act code paths x c b d s S (subst (λ (v : Uid). IsAtWork act paths c v b d) (sym its_actor) work) on away sees r to
  where
    its_actor : actor s.path ≡ u
    its_actor = ap actor on.path ∙ work.steady.good.tree.lists.places u b work.there

pub other_calls_are_given_up : OtherCallsAreGivenUp
other_calls_are_given_up act code paths x c u b d s S work on away sees =
    lost_seen act code paths x c b d s S (subst (λ (v : Uid). IsAtWork act paths c v b d) (sym its_actor) work) on away sees
  where
    its_actor : actor s.path ≡ u
    its_actor = ap actor on.path ∙ work.steady.good.tree.lists.places u b work.there

-- ---- a beginning

module _ (act : Acts) (code : Codes) (paths : Paths) (x y : ℕ) (c : Coord) (b : Branch) (d : Doing) (S : State) (work : IsAtWork act paths c
    (actor b.path) b d) (idle : d.now ≡ Idle) (plain : b.kind ≢ kind.Serial) (sees : SeesCoord act code x c S) where
  abbrev tr : Tree
  tr = uses_object b.path y c.tree

  still : invokes x d.now ≡ false
  still = ap (invokes x) idle

  abbrev root_u : Uid
  root_u = root_of b.path

  begin_seen : (z : Steps) → z.path ≡ b.path → IsElsewhere x z → (z.x ≢ x) ⊎ (is_early z.at ≡ true) → z.req ≡ d.req + 1 →
      (g : Root → Root) → LooksSame act x (root_at root_u c) (g (root_at root_u c)) S →
      SeesCoord act code x (let e = goes_on z (on_root root_u g (record c { tree = tr })) in e.part) S
  begin_seen z on_path away early later g looks =
      quiet_seen act code paths x c b.path b d S work refl plain sees still (ap is_committing_now idle) (goes act code paths x c b.path b d
      S work refl plain sees still (ap is_committing_now idle) tr (uses_same b.path y c.tree) (λ w. refl) (λ w. refl) z on_path g) b
      (record d { req = z.req; now = Calling z }) (with_went (note act code paths x c b.path b d S work refl plain sees still
      (ap is_committing_now idle) tr (uses_same b.path y c.tree) (λ w. refl) (λ w. refl) z on_path g) (g (root_at root_u c)))
      (goes_becomes act code paths x c b.path b d S work refl plain sees still (ap is_committing_now idle) tr (uses_same b.path y c.tree)
      (λ w. refl) (λ w. refl) z on_path g) refl refl (λ h. h)
      (busy_quiet act code paths x c b.path b d S work refl plain sees still (ap is_committing_now idle) z away early
      (omega (arith, later)))
      (looks_went act x (note act code paths x c b.path b d S work refl plain sees still (ap is_committing_now idle) tr
      (uses_same b.path y c.tree) (λ w. refl) (λ w. refl) z on_path g) (root_at root_u c) (g (root_at root_u c)) S looks)

  looks_now : LooksSame act x (root_at root_u c) (root_at root_u c) S
  looks_now = looks_here act code paths x c b.path b d S work refl plain sees still (ap is_committing_now idle)

  req_is : last_req (doing_of (actor b.path) c) + 1 ≡ d.req + 1
  req_is = ap (λ (v : Option Doing). last_req v + 1) work.works

  call_seen : (o : Op) → y ≢ x → SeesCoord act code x (let e = call b.path y o c in e.part) S
  call_seen o other =
      let k = renewed (is_free root_u (actor b.path) y c) (keeping_of y (root_at root_u c)) (let v = keeping_of y (root_at root_u c) in
      v.kept) in
      begin_seen (call_steps b.path y o (last_req (doing_of (actor b.path) c) + 1) (root_at root_u c) c k) refl (inl other) (inl other)
      req_is (with_keeping y k) (looks_kept act x y k (root_at root_u c) (root_at root_u c) S (inl other) looks_now)

  -- an include goes on without a look at its root
  module _ (store : ℕ) where
    abbrev inc : Steps
    inc = record { path = b.path; x = y; goal = Include store; req = last_req (doing_of (actor b.path) c) + 1; at = AtBind unbound }

    abbrev inc_busy : Doing
    inc_busy = record d { req = last_req (doing_of (actor b.path) c) + 1; now = Calling inc }

    abbrev used : Coord
    used = record c { tree = tr }

    abbrev inc_note : Went
    inc_note = record { path = uids_of b.path; node = next_node inc; invoke = is_invoke_ask (next_ask (ends_of root_u tr) inc) }

    abbrev inc_over : Coord → Coord
    inc_over k = on_root root_u (with_went inc_note) (set_doing (actor b.path) inc_busy k)

    include_seen : SeesCoord act code x (let e = include b.path y store c in e.part) S
    include_seen = subst (λ (e : Coord). SeesCoord act code x e S) (λ i. (let e = asks_step inc (change_doing (λ (q : Doing).
        record q { req = last_req (doing_of (actor b.path) c) + 1; now = Calling inc }) (actor b.path) used (sym work.works i)) in e.part))
        (same_coord act code x (inc_over (on_root root_u (λ (r : Root). r) used)) (inc_over used) S refl (λ w. refl) roots
        (subst (λ (e : Coord). SeesCoord act code x e S) (λ i. (let e = asks_step inc
        (change_doing (λ (q : Doing). record q { req = last_req (doing_of (actor b.path) c) + 1; now = Calling inc }) (actor b.path)
        (on_root root_u (λ (r : Root). r) used) (work.works i)) in e.part))
        (begin_seen inc refl (inr (store, refl)) (inr refl) req_is (λ (r : Root). r) looks_now)))
      where
        roots : (w : Uid) → root_at w (inc_over used) ≡ root_at w (inc_over (on_root root_u (λ (r : Root). r) used))
        roots w = ⊎_elim
            (λ (is : w.num ≡ root_u.num). by_num (inc_over used) is ∙ root_here root_u (with_went inc_note)
            (set_doing (actor b.path) inc_busy used) ∙ ap (with_went inc_note) (sym (root_here root_u (λ (r : Root). r) used))
            ∙ sym (root_here root_u (with_went inc_note) (set_doing (actor b.path) inc_busy (on_root root_u (λ (r : Root). r) used)))
            ∙ sym (by_num (inc_over (on_root root_u (λ (r : Root). r) used)) is))
            (λ (other : w.num ≢ root_u.num). root_else root_u (with_went inc_note) (set_doing (actor b.path) inc_busy used) w other
            ∙ sym (root_else root_u (λ (r : Root). r) used w other) ∙ sym
            (root_else root_u (with_went inc_note) (set_doing (actor b.path) inc_busy (on_root root_u (λ (r : Root). r) used)) w other))
            (number_cases w.num root_u.num)
          where
            by_num : (v : Coord) → w.num ≡ root_u.num → root_at w v ≡ root_at root_u v
            by_num v is = ap (λ (n : ℕ). unwrap_or (at_number n v.roots) no_root) is

pub includes_begin : IncludesBegin
includes_begin act code paths x y store c u b d S work idle plain sees =
    include_seen act code paths x y c b d S (subst (λ (v : Uid). IsAtWork act paths c v b d)
    (sym (work.steady.good.tree.lists.places u b work.there)) work) idle plain sees store

pub other_calls_begin : OtherCallsBegin
other_calls_begin act code paths x y c u b d o S work idle plain other sees =
    call_seen act code paths x y c b d S (subst (λ (v : Uid). IsAtWork act paths c v b d)
    (sym (work.steady.good.tree.lists.places u b work.there)) work) idle plain sees o other
