-- What a coordinator knows of its calls and Binds stays as its tree, its work and its roots change.
use Rattle.arj_law_parts.proofs.Words
use Words.{◌≡◌, ◌⊎◌, ◌≤◌, ◌<◌, ℕ, List, [], ◌∷◌, Bool, true, false, cond, Option, Some, None, refl, sym, ◌∙◌, ap, subst, inl, inr, ⊎_elim}
use Words.{arith, is_some, unwrap_or, is_eq, nat_cmp, uid_cases, Uid, Ask, Binding, End, Head, Path, asks, last_uid, uids_of, actor}
use Words.{asks_all, asks_node, is_invoke_ask, Known, Steps, Calling, Coord, Doing, Idle, Root, Said, Went, change_doing, doing_of, is_call}
use Words.{kept_of, no_keeping, no_root, on_doing, on_root, root_at, set_doing, with_went, Intent, ended, at_number, put_number, Branch}
use Words.{Tree, at_place, branch_of, doomed_at, ended_at, ended_branch, is_own, root_of, uses_object, put_same as put_number_same}
use Words.{put_other as put_number_other, one_or_two, Post}
use Words.list
use Words.ask
use Words.ending
use Rattle.arj_law_runs.proofs.Terms
use Terms.{stand_ended, IsSameTree, doomed_same, uses_same, after, at_others, at_u, ended_b, doing_other, doing_put, end_tree_on, In}
use Terms.{IsSpent, IsThere, KnowsBinds, StandsOn}
use Rattle.arj_law_runs.proofs.addresses.{BindAnswers.include_stands, BindAnswers.stands_more, Lists.some_is}
use Rattle.arj_law_runs.proofs.calls
use calls.{CoordEnds.aborts_ended, CoordKnown.went_said, CoordSteps.KeepsAborts}
use calls.CoordCalls.{not_idle, went_keeping}
use Rattle.arj_law_runs.specs.addresses.Binds.{IsCounted, IsSaid}

-- ---- from one tree to the next

-- branches stay with their paths, and who was aborted stays so
pub record IsLater (t v : Tree) : Type 0 where
  pub own : (w : Uid) → is_own w v ≡ is_own w t
  pub stays : (w : Uid) (b : Branch) → branch_of w t ≡ Some b → (q : Branch) × (branch_of w v ≡ Some q) × (q.path ≡ b.path)
  pub aborts : KeepsAborts t v

later_same : (t v : Tree) → IsSameTree t v → IsLater t v
later_same t v same = record {
  own = same.own;
  stays = λ w b is. let f = same.forth w b is in (f.0, f.1, sym f.2);
  aborts = λ w d. let f = same.forth w d.0 d.1 in (f.0, f.1, sym f.4 ∙ d.2);
}

pub later_uses : (p : Path) (x : ℕ) (t : Tree) → IsLater t (uses_object p x t)
later_uses p x t = later_same t (uses_object p x t) (uses_same p x t)

pub later_doomed : (u : Uid) (t : Tree) → IsLater t (doomed_at u t)
later_doomed u t = later_same t (doomed_at u t) (doomed_same u t)

-- an end: an abort, or the commit of an action that is open
pub later_ended : (u : Uid) (e : End) (c : Coord) →
    (e ≡ ending.Commit → (b : Branch) → branch_of u c.tree ≡ Some b → is_some b.ended ≡ false) → IsLater c.tree (ended_at u e c.tree)
later_ended u e c opened =
    record { own = λ w. (end_tree_on u e c).own w; stays = λ w b is. stays w b is (branch_of u c.tree) refl; aborts = aborts e opened }
  where
    stays : (w : Uid) (b : Branch) → branch_of w c.tree ≡ Some b → (o : Option Branch) → branch_of u c.tree ≡ o →
        (q : Branch) × (branch_of w (ended_branch u e c.tree o) ≡ Some q) × (q.path ≡ b.path)
    stays w b is None none = (b, is, refl)
    stays w b is (Some a) found = ⊎_elim
        (λ same. (
          ended_b u e c.tree a found,
          ap (λ z. branch_of z (after u e c.tree a found)) same ∙ at_u u e c.tree a found,
          ap (λ (z : Branch). z.path) (some_is (sym found ∙ ap (λ z. branch_of z c.tree) (sym same) ∙ is)),
        ))
        (λ other. (b, at_others u e c.tree a found w other ∙ is, refl)) (uid_cases w u)

    aborts : (f : End) → (f ≡ ending.Commit → (b : Branch) → branch_of u c.tree ≡ Some b → is_some b.ended ≡ false) →
        KeepsAborts c.tree (ended_at u f c.tree)
    aborts ending.Abort free = aborts_ended u c.tree
    aborts ending.Commit free = λ w d. (stand_ended u ending.Commit c.tree (free refl)).ends w ending.Abort d

-- ---- a coordinator

module _ (sent : List Post) (k : ℕ) where
  abbrev Knows : Coord → Type 0
  Knows c = KnowsBinds sent k c

  spent_on : (t v : Tree) → IsLater t v → (us : List Uid) → IsSpent t us → IsSpent v us
  spent_on t v later us s = (s.0, s.1, later.aborts s.0 s.2)

  -- with the same work a Bind is counted so
  pub counted_on : (c e : Coord) → ((u : Uid) → doing_of u e ≡ doing_of u c) → (h : Head) (include : Bool) → IsCounted c h include →
      IsCounted e h include
  counted_on c e same h include q = record { doing = q.doing; found = same (actor h.path) ∙ q.found; low = q.low; last = q.last }

  -- another tree
  pub tree_binds : (c : Coord) (v : Tree) → IsLater c.tree v → Knows c → Knows (record c { tree = v })
  tree_binds c v later knows = record {
    said = λ root s i. let f = knows.said root s i in let b = later.stays (last_uid s.path) f.branch f.there in record {
      branch = b.0;
      there = b.1;
      path = ap uids_of b.2 ∙ f.path;
      of = ap (λ p. let u = root_of p in u.num) b.2 ∙ f.of;
      kept = ⊎_elim (λ z. inl (spent_on c.tree v later s.path z)) (λ z. inr z) f.kept;
    };
    steps = λ u d s found now. knows.steps u d s (back u ∙ found) now;
    counted = λ p h x include avoid i from is own. counted_on c (record c { tree = v }) (λ u. sym (back u)) h include
        (knows.counted p h x include avoid i from is (sym (later.own (actor h.path)) ∙ own));
  }
    where
      back : (u : Uid) → doing_of u c ≡ doing_of u (record c { tree = v })
      back u = λ i. cond (sym (later.own u) i) (at_place u.num c.doings) None

  -- the work of one action: its number doesn't fall, and rises where it waits in another step
  pub record IsNext (c : Coord) (d e : Doing) : Type 0 where
    pub later : d.req ≤ e.req
    pub fresh : (s : Steps) → e.now ≡ Calling s → (d.req < e.req) ⊎ ((d.now ≡ Calling s) × (d.req ≡ e.req))
    pub stands : (s : Steps) → e.now ≡ Calling s → StandsOn s.goal (kept_of s.x (root_at (root_of s.path) c)) s.at

  pub work_binds : (u : Uid) (f : Doing → Doing) (c : Coord) → ((d : Doing) → doing_of u c ≡ Some d → IsNext c d (f d)) → Knows c →
      Knows (on_doing u f c)
  work_binds u f c next knows = by (doing_of u c) refl
    where
      by : (o : Option Doing) → doing_of u c ≡ o → Knows (change_doing f u c o)
      by None missing = knows
      by (Some old) found = record { said = knows.said; steps = steps; counted = counted }
        where
          n : IsNext c old (f old)
          n = next old found

          here : doing_of u (set_doing u (f old) c) ≡ Some (f old)
          here = doing_put u (f old) old c found

          steps : (w : Uid) (d : Doing) (s : Steps) → doing_of w (set_doing u (f old) c) ≡ Some d → d.now ≡ Calling s →
              StandsOn s.goal (kept_of s.x (root_at (root_of s.path) c)) s.at
          steps w d s at now = ⊎_elim
              (λ same. n.stands s
              (ap (λ (z : Doing). z.now) (some_is (sym here ∙ ap (λ z. doing_of z (set_doing u (f old) c)) (sym same) ∙ at)) ∙ now))
              (λ other. knows.steps w d s (sym (doing_other u w (f old) old c found other) ∙ at) now) (uid_cases w u)

          counted : (p : Post) (h : Head) (x : ℕ) (include : Bool) (avoid : Binding) → In p sent → p.from ≡ k → asks p.message
              ≡ Some (h, ask.Bind x include avoid) → is_own (actor h.path) c.tree ≡ true → IsCounted (set_doing u (f old) c) h include
          counted p h x include avoid i from is own = one (knows.counted p h x include avoid i from is own)
            where
              number : (i j l : ℕ) → i ≤ j → j ≤ l → i ≤ l
              number i j l a b = omega (arith, a, b)

              risen : (i j l : ℕ) → i ≤ j → j < l → i ≡ l → ⊥
              risen i j l a b is = omega (arith, a, b, is)

              one : IsCounted c h include → IsCounted (set_doing u (f old) c) h include
              one q = ⊎_elim same (λ other. record {
                doing = q.doing;
                found = doing_other u (actor h.path) (f old) old c found other ∙ q.found;
                low = q.low;
                last = q.last;
              }) (uid_cases (actor h.path) u)
                where
                  same : actor h.path ≡ u → IsCounted (set_doing u (f old) c) h include
                  same it =
                      let was : q.doing ≡ old = some_is (sym q.found ∙ ap (λ z. doing_of z c) it ∙ found) in
                      let low : h.req ≤ old.req = subst (λ (z : Doing). h.req ≤ z.req) was q.low in
                      record {
                        doing = f old;
                        found = ap (λ z. doing_of z (set_doing u (f old) c)) it ∙ here;
                        low = number h.req old.req (f old).req low n.later;
                        last = λ s now req. ⊎_elim (λ up. absurd (risen h.req old.req (f old).req low up req)) (λ stays.
                            q.last s (ap (λ (z : Doing). z.now) was ∙ stays.0) (req ∙ sym stays.1 ∙ ap (λ (z : Doing). z.req) (sym was)))
                            (n.fresh s now);
                      }

  pub idle_binds : (u : Uid) (c : Coord) → Knows c → Knows (on_doing u (λ (d : Doing). record d { now = Idle }) c)
  idle_binds u c knows = work_binds u (λ (d : Doing). record d { now = Idle }) c
      (λ d found. record { later = omega arith; fresh = λ s now. absurd (not_idle now); stands = λ s now. absurd (not_idle now) }) knows

  pub ended_binds : (u : Uid) (e : End) (c : Coord) →
      (e ≡ ending.Commit → (b : Branch) → branch_of u c.tree ≡ Some b → is_some b.ended ≡ false) → Knows c → Knows (ended u e c)
  ended_binds u e c opened knows =
      idle_binds u (record c { tree = ended_at u e c.tree }) (tree_binds c (ended_at u e c.tree) (later_ended u e c opened) knows)

  -- ---- another root

  -- nothing stands on what the root keeps of the object: each call that was answered is spent, and nobody waits in one
  pub record IsLoose (c : Coord) (root : Uid) (x : ℕ) : Type 0 where
    pub spent : (s : Said) → list.In s (root_at root c).said → s.x ≡ x → IsSpent c.tree s.path
    pub alone : (w : Uid) (d : Doing) (s : Steps) → doing_of w c ≡ Some d → d.now ≡ Calling s → s.x ≡ x → is_call s.goal ≡ true →
        (root_of s.path).num ≡ root.num → ⊥

  pub root_binds : (root : Uid) (f : Root → Root) (c : Coord) →
      ((s : Said) → list.In s (f (root_at root c)).said → list.In s (root_at root c).said ⊎ IsSaid c.tree root.num (f (root_at root c)) s)
      → ((x : ℕ) → IsThere (kept_of x (root_at root c)) → IsThere (kept_of x (f (root_at root c))) ⊎ IsLoose c root x) → Knows c →
      Knows (on_root root f c)
  root_binds root f c says keeps knows = record {
    said = said;
    steps = steps;
    counted = λ p h x include avoid i from is own.
        counted_on c (on_root root f c) (λ u. refl) h include (knows.counted p h x include avoid i from is own);
  }
    where
      q : Root
      q = f (root_at root c)

      as_root : (r : Uid) → root.num ≡ r.num → root_at r c ≡ root_at root c
      as_root r same = ap (λ n. unwrap_or (at_number n c.roots) no_root) (sym same)

      changed : (r : Uid) → root.num ≡ r.num → root_at r (on_root root f c) ≡ f (root_at root c)
      changed r same = ap (λ n. unwrap_or (at_number n (put_number root.num (f (root_at root c)) c.roots)) no_root) (sym same)
          ∙ ap (λ o. unwrap_or o no_root) (put_number_same root.num (f (root_at root c)) c.roots)

      left : (r : Uid) → is_eq (nat_cmp r.num root.num) ≡ false → root_at r (on_root root f c) ≡ root_at r c
      left r apart = ap (λ o. unwrap_or o no_root) (put_number_other root.num r.num (f (root_at root c)) c.roots apart)

      old_said : (s : Said) → IsSaid c.tree root.num (root_at root c) s → list.In s (root_at root c).said →
          IsSaid c.tree root.num (f (root_at root c)) s
      old_said s z i = record {
        branch = z.branch;
        there = z.there;
        path = z.path;
        of = z.of;
        kept = ⊎_elim (λ spent. inl spent)
            (λ there. ⊎_elim (λ still. inr still) (λ (l : IsLoose c root s.x). inl (l.spent s i refl)) (keeps s.x there)) z.kept;
      }

      said : (r : Uid) (s : Said) → list.In s (root_at r (on_root root f c)).said → IsSaid c.tree r.num (root_at r (on_root root f c)) s
      said r s i = ⊎_elim
          (λ same. subst (λ (z : Root). IsSaid c.tree r.num z s) (sym (changed r same))
          (subst (λ n. IsSaid c.tree n (f (root_at root c)) s) same (⊎_elim (λ old. old_said s (knows.said root s old) old) (λ new. new)
          (says s (subst (λ (z : Root). list.In s z.said) (changed r same) i)))))
          (λ apart. subst (λ (z : Root). IsSaid c.tree r.num z s) (sym (left r apart.0))
          (knows.said r s (subst (λ (z : Root). list.In s z.said) (left r apart.0) i))) (one_or_two root.num r.num)

      steps : (u : Uid) (d : Doing) (s : Steps) → doing_of u c ≡ Some d → d.now ≡ Calling s →
          StandsOn s.goal (kept_of s.x (root_at (root_of s.path) (on_root root f c))) s.at
      steps u d s found now = ⊎_elim
          (λ same. subst (λ (z : Root). StandsOn s.goal (kept_of s.x z) s.at) (sym (changed (root_of s.path) same)) (its same
          (subst (λ (z : Root). StandsOn s.goal (kept_of s.x z) s.at) (as_root (root_of s.path) same) (knows.steps u d s found now))))
          (λ apart. subst (λ (z : Root). StandsOn s.goal (kept_of s.x z) s.at) (sym (left (root_of s.path) apart.0))
          (knows.steps u d s found now)) (one_or_two root.num (root_of s.path).num)
        where
          by_there : (o : Option Known) → kept_of s.x (root_at root c) ≡ o → root.num ≡ (root_of s.path).num →
              StandsOn s.goal (kept_of s.x (root_at root c)) s.at → StandsOn s.goal (kept_of s.x (f (root_at root c))) s.at
          by_there None is same stands = stands_more s.goal (kept_of s.x (root_at root c)) (kept_of s.x (f (root_at root c))) s.at
              (λ there. absurd (subst IsThere is there)) stands
          by_there (Some old) is same stands = ⊎_elim
              (λ still. stands_more s.goal (kept_of s.x (root_at root c)) (kept_of s.x (f (root_at root c))) s.at (λ there. still) stands)
              (λ (l : IsLoose c root s.x). include_stands s.goal (kept_of s.x (root_at root c)) (kept_of s.x (f (root_at root c))) s.at
              (λ call. l.alone u d s found now refl call (sym same)) stands) (keeps s.x (subst IsThere (sym is) tt))

          its : root.num ≡ (root_of s.path).num → StandsOn s.goal (kept_of s.x (root_at root c)) s.at →
              StandsOn s.goal (kept_of s.x (f (root_at root c))) s.at
          its same stands = by_there (kept_of s.x (root_at root c)) refl same stands

  -- a root with the same answers and keepings
  pub same_binds : (root : Uid) (f : Root → Root) (c : Coord) → (f (root_at root c)).said ≡ (root_at root c).said →
      ((x : ℕ) → IsThere (kept_of x (root_at root c)) → IsThere (kept_of x (f (root_at root c)))) → Knows c → Knows (on_root root f c)
  same_binds root f c says keeps knows =
      root_binds root f c (λ s i. inl (subst (λ ss. list.In s ss) says i)) (λ x there. inl (keeps x there)) knows

  -- ---- requests that go out

  pub asks_binds : (p : Path) (req : ℕ) (a : ℕ × Ask) (c : Coord) → Knows c → Knows (asks_node p req a c).part
  asks_binds p req a c knows = same_binds (root_of p) (with_went w) c (went_said w (root_at (root_of p) c)) (λ x there.
      subst (λ m. IsThere (unwrap_or (at_number x m) no_keeping).kept) (sym (went_keeping w (root_at (root_of p) c))) there) knows
    where
      w : Went
      w = record { path = uids_of p; node = a.0; invoke = is_invoke_ask a.1 }

  pub asked_binds : (p : Path) (req : ℕ) (asked : List (ℕ × Ask)) (c : Coord) → Knows c → Knows (asks_all p req asked c).part
  asked_binds p req [] c knows = knows
  asked_binds p req (a ∷ rest) c knows = asked_binds p req rest (asks_node p req a c).part (asks_binds p req a c knows)

  pub telling_binds : (c : Coord) (telling : List (Uid × Intent)) → Knows c → Knows (record c { telling = telling })
  telling_binds c telling knows = record {
    said = knows.said;
    steps = knows.steps;
    counted = λ p h x include avoid i from is own.
        counted_on c (record c { telling = telling }) (λ u. refl) h include (knows.counted p h x include avoid i from is own);
  }
