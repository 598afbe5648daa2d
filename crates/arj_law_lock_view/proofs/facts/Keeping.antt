-- A plan has the kept binding: some call counts, so its unit keeps a binding of which an incarnation was heard.
use Rattle.arj_law_parts.proofs.Words
use Words.{◌≡◌, ◌∙◌, ◌≤◌, ℕ, true, false, List, Option, Some, None, refl, sym, ap, subst, ⊎_elim, arith, unwrap_or, or_cases, in_from}
use Words.{in_to, End, Uid, first_uid, is_on, last_uid, uids_of, actor, Known, Used, Calling, Committing, Coord, Doing, Idle, Now, Root}
use Words.{Said, counts, is_called, is_retained, keeping_of, kept_of, known_for, nothing_known, objects_in, root_at, survives, used_of}
use Words.{used_with, binding_number, Branch, branch_of, root_of, Post}
use Words.list
use Words.ending
use Rattle.arj_law_lock_view.proofs.Terms
use Terms.{IsThere, KnowsBinds, counted_said, plan_keeps, retained, surviving, Act, is_action, on, root, Alive, State, run_keeps}
use Terms.{start_holds, by_cases, on_root, roots_low, start_low, Paths, IsFreeToEnd, IsSteady, stage_of, Acts, IsReached, Codes, IsServedBy}
use Terms.{SeesWhole, plan_now, IsNamedSo, binding_at, AreKept, SeesCoord, SeesKeeping, SeesKept, SeesRoot}
use Terms.binds
use Rattle.arj_law_lock.proofs.machine.Kept.{named_kept}
use Rattle.arj_law_lock_view.proofs.view.TreeSteps.{above_there, root_there, seen_at}
use Rattle.arj_law_lock_view.specs.facts.Keeping.{PlansHaveKept}
use Rattle.arj_law_lock_view.specs.view.Roots as roots

low_stage : (o : Option End) (n : Now) (i : ℕ) → i ≡ stage_of o n → (o ≡ Some ending.Abort → ⊥) → i ≤ 3
low_stage (Some ending.Commit) n i is alive = omega (arith, is)
low_stage (Some ending.Abort) n i is alive = absurd (alive refl)
low_stage None Idle i is alive = omega (arith, is)
low_stage None (Calling s) i is alive = omega (arith, is)
low_stage None (Committing m) i is alive = omega (arith, is)

module _ (act : Acts) (code : Codes) (paths : Paths) (x : ℕ) (sent : List Post) (node : ℕ) (c : Coord) (u : Uid) (b : Branch) (d : Doing)
    (S : State) (reached : IsReached S) (free : IsFreeToEnd act paths c u b d) (knows : KnowsBinds sent node c)
    (whole : SeesWhole act code x c S) where
  abbrev steady : IsSteady act paths c
  steady = free.steady

  abbrev coord : SeesCoord act code x c S
  coord = whole.coord

  pub its : actor b.path ≡ u
  its = let good = steady.good in let t = good.tree in t.lists.places u b free.there

  pub found : branch_of (actor b.path) c.tree ≡ Some b
  found = ap (λ v. branch_of v c.tree) its ∙ free.there

  pub root_home : root (act u) ≡ root (act (root_of b.path))
  root_home = let r = root_there act paths x c S.action steady coord.actions u b free.there in
      on_root (act u) (act (root_of b.path)) (steady.alike.above u (root_of b.path) ∙ r.2)

  root_seen : SeesRoot act x (root_of b.path) (root_at (root_of b.path) c) c.tree S
  root_seen =
      let good = steady.good in
      let t = good.tree in
      let r = root_there act paths x c S.action steady coord.actions u b free.there in
      coord.roots (root_of b.path) r.0 r.1 (ap first_uid (t.lists.paths_are (root_of b.path) r.0 r.1)
      ∙ steady.alike.units (root_of b.path) u (sym root_home) ∙ ap first_uid (sym (t.lists.paths_are u b free.there)))

  -- a call that counts wasn't undone
  pub counted_alive : (s : Said) → list.In s (let r = root_at (root_of b.path) c in r.said) → counts (actor b.path) s.path c ≡ true →
      (q : Branch) → branch_of (last_uid s.path) c.tree ≡ Some q → uids_of q.path ≡ s.path → Alive S (act (last_uid s.path))
  counted_alive s i count q there path a above =
      ⊎_elim (λ holds. action holds) (λ isnt. roots_low reached.1 (start_low reached.0) a isnt) (by_cases (is_action a))
    where
      w : Uid
      w = last_uid s.path

      z : binds.IsSaid c.tree (root_of b.path).num (root_at (root_of b.path) c) s
      z = knows.said (root_of b.path) s i

      lasts : paths (last_uid s.path) ≡ s.path
      lasts = let good = steady.good in let t = good.tree in sym (t.lists.paths_are (last_uid s.path) q there) ∙ path

      action : is_action a ≡ true → (S.action a).stage ≤ 3
      action holds =
          let good = steady.good in
          let t = good.tree in
          let f = steady.alike.filled w a above holds in
          let on_path : is_on (paths w) f.0 ≡ true = sym (steady.alike.above w f.0) ∙ ap (on (act w)) (sym f.1) ∙ above in
          let e = above_there paths steady.whole c.tree t.lists f.0 w q there on_path in
          at_action f.0 f.1 e.0 e.1 on_path holds
        where
          at_action : (v : Uid) → a ≡ act v → (e : Branch) → branch_of v c.tree ≡ Some e → is_on (paths (last_uid s.path)) v ≡ true →
              is_action a ≡ true → (S.action a).stage ≤ 3
          at_action v is e at on_path holds =
              let k = seen_at act paths x c S.action steady coord.actions v e at (ap is_action (sym is) ∙ holds) in
              let y = k.2 in
              subst (λ (m : Act). (S.action m).stage ≤ 3) (sym is)
              (low_stage e.ended k.0.now (S.action (act v)).stage y.stage (λ aborted. undone (v, e, at, aborted) on_path))
            where
              undone : (f : (v : Uid) × (e : Branch) × (branch_of v c.tree ≡ Some e) × (e.ended ≡ Some ending.Abort)) →
                  is_on (paths (last_uid s.path)) f.0 ≡ true → ⊥
              undone f on_it =
                  let on_s : is_on s.path f.0 ≡ true = ap (λ us. is_on us f.0) (sym lasts) ∙ on_it in
                  ⊎_elim (surviving steady.actions paths steady.whole sent node c steady.good knows b found free.unended s z f.0 on_s
                  (f.1, f.2, f.3))
                  (retained steady.actions paths steady.whole sent node c steady.good knows b found free.unended s z f.0 on_s
                  (f.1, f.2, f.3))
                  (or_cases (survives (actor b.path) s.path c) (is_retained s.path c) count)

  pub kept_seen : (k : Known) → kept_of x (root_at (root_of b.path) c) ≡ Some k → SeesKept (root (act (root_of b.path))) k S
  kept_seen k is =
      subst (λ o. SeesKeeping (root (act (root_of b.path))) o (keeping_of x (root_at (root_of b.path) c)).avoid S) is root_seen.keeping

  -- an incarnation was heard of the binding, where a call counts
  heard_some : (k : Known) → SeesKept (root (act (root_of b.path))) k S → is_called x (actor b.path) (root_at (root_of b.path) c) c ≡ true →
      IsNamedSo S k.binding (unwrap_or k.inc 0)
  heard_some k kept called = by k.inc refl
    where
      some : (s : Said) × list.In s (let r = root_at (root_of b.path) c in r.said) × (s.x ≡ x) × (counts (actor b.path) s.path c ≡ true)
      some = counted_said x (λ (s : Said). counts (actor b.path) s.path c) (let r = root_at (root_of b.path) c in r.said) called

      -- the call is the machine's
      named : (binding_at S k.binding).named ≡ true
      named = of_call (root_seen.said some.0 (in_to some.0 (let r = root_at (root_of b.path) c in r.said) some.1) some.2)
        where
          of_call : roots.IsSaid act (root_of b.path) some.0 c.tree S → (binding_at S k.binding).named ≡ true
          of_call y =
              let w = last_uid (let s = some.0 in s.path) in
              let good = steady.good in
              let t = good.tree in
              let alive = subst (Alive S) (sym y.by) (counted_alive some.0 some.1 some.3 y.branch y.there y.path) in
              let n = named_kept (run_keeps reached.1 (start_holds reached.0)) y.call y.called alive in
              let r = root_there act paths x c S.action steady coord.actions w y.branch y.there in
              let home : root (let q = y.call in q.act) ≡ root (act (root_of b.path)) = ap root y.by ∙ on_root (act w)
              (act (root_of (let q = y.branch in q.path))) (steady.alike.above w (root_of (let q = y.branch in q.path)) ∙ r.2)
              ∙ ap (λ (v : Uid). root (act v)) y.of in
              ap (λ (i : ℕ). (S.binding i).named) (sym kept.kept ∙ ap S.kept (sym home)) ∙ n.0

      by : (o : Option ℕ) → k.inc ≡ o → IsNamedSo S k.binding (unwrap_or o 0)
      by (Some i) is = kept.named i is
      by None is = let no_way : false ≡ true = sym ((kept.unnamed is).0) ∙ named in absurd (cc no_way)

  kept_known : AreKept x (act u) (plan_now b c) S
  kept_known q there about called = of (list.in_map (used_of (actor b.path) (root_at (root_of b.path) c) c) q
      (objects_in (actor b.path) (root_at (root_of b.path) c) c) (in_from q (let p = plan_now b c in p.used) there))
    where
      r : Root
      r = root_at (root_of b.path) c

      of : (y : ℕ) × list.In y (objects_in (actor b.path) (root_at (root_of b.path) c) c)
          × (used_of (actor b.path) (root_at (root_of b.path) c) c y ≡ q) →
          (S.kept (root (act u)) ≡ binding_number q.binding) × IsServedBy S q.binding q.server × IsNamedSo S q.binding q.inc
      of (y, i, is) = subst (λ (z : Used). (S.kept (root (act u)) ≡ binding_number z.binding) × IsServedBy S z.binding z.server
          × IsNamedSo S z.binding z.inc) (ap (used_of (actor b.path) r c) (sym same) ∙ is) (at_x (kept_of x r) refl
          (plan_keeps steady.actions paths steady.whole sent node c steady.good knows b found free.unended x called_x))
        where
          same : y ≡ x
          same = ap (λ (z : Used). z.x) is ∙ about

          called_x : is_called x (actor b.path) (root_at (root_of b.path) c) c ≡ true
          called_x =
              ap (λ n. is_called n (actor b.path) (root_at (root_of b.path) c) c) (sym same) ∙ ap (λ (z : Used). z.called) is ∙ called

          at_x : (o : Option Known) → kept_of x (root_at (root_of b.path) c) ≡ o → IsThere o → (S.kept (root (act u)) ≡ binding_number
              (used_of (actor b.path) (root_at (root_of b.path) c) c x).binding) × IsServedBy S (used_of (actor b.path) (root_at
              (root_of b.path) c) c x).binding (used_of (actor b.path) (root_at (root_of b.path) c) c x).server × IsNamedSo S (used_of
              (actor b.path) (root_at (root_of b.path) c) c x).binding (used_of (actor b.path) (root_at (root_of b.path) c) c x).inc
          at_x None is there_is = absurd there_is
          at_x (Some k) is there_is =
              let kept = kept_seen k is in
              subst (λ (z : Used). (S.kept (root (act u)) ≡ binding_number z.binding) × IsServedBy S z.binding z.server
              × IsNamedSo S z.binding z.inc) (λ j. used_with x ((sym called_x) j) (actor b.path) r c (its_known j))
              (ap S.kept root_home ∙ kept.kept, kept.server, heard_some k kept called_x)
            where
              its_known : k ≡ known_for (is_called x (actor b.path) r c) x r
              its_known = sym (ap (λ o. unwrap_or o nothing_known) is) ∙ sym (ap (λ t. known_for t x r) called_x)

pub plans_have_kept : PlansHaveKept
plans_have_kept act code paths x sent node c u b d S reached free unserial knows whole =
    kept_known act code paths x sent node c u b d S reached free knows whole
