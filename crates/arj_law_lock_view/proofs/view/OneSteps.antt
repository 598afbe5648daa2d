-- One action of a coordinator changes, and the machine's action with it.
use Rattle.arj_law_parts.proofs.Words
use Words.{◌≡◌, ◌≢◌, ◌⊎◌, ◌∙◌, ◌++◌, ℕ, [], ◌∷◌, Bool, true, false, cond, length, nat_le, Option, Some, None, refl, sym, ap, subst, inl}
use Words.{inr, ⊎_elim, is_some, uid_cases, Uid, End, uids_of, Coord, Doing, Idle, change_doing, doing_of, on_doing, set_doing, ended}
use Words.{Branch, Tree, at_place, branch_of, ended_at, ended_branch, family_of, is_own, root_of, set_place, with_family}
use Words.ending
use Rattle.arj_law_lock_view.proofs.Terms
use Terms.{Act, Root, is_action, root, same, by_cases, same_is, doing_other, doing_put, Acts, AreOne, IsHere, IsIdle, SeesAction}
use Terms.{SeesActions, stage_of}
use Rattle.arj_law_lock.specs.machine.State.{Action}
use Rattle.arj_law_parts.proofs.parts.GoodTrees as tree

-- an action that has ended is committed or aborted
pub over_stage : (x : ℕ) (e : Branch) (d : Doing) (a : Action) → SeesAction x e d a → is_some e.ended ≡ true → (a.stage ≡ 3) ⊎ (a.stage ≡ 4)
over_stage x e d a s over = by e.ended over s.stage
  where
    by : (o : Option End) → is_some o ≡ true → a.stage ≡ stage_of o d.now → (a.stage ≡ 3) ⊎ (a.stage ≡ 4)
    by None un is = absurd (cc un)
    by (Some ending.Commit) un is = inl is
    by (Some ending.Abort) un is = inr is

-- The coordinator after it: one branch and its work are others.
pub record OnlyOne (c : Coord) (u : Uid) (b : Branch) (d : Doing) (e : Coord) : Type 0 where
  pub branch : branch_of u e.tree ≡ Some b
  pub doing : doing_of u e ≡ Some d
  pub branches : (w : Uid) → w ≢ u → branch_of w e.tree ≡ branch_of w c.tree
  pub doings : (w : Uid) → w ≢ u → doing_of w e ≡ doing_of w c

module _ (c : Coord) (u : Uid) (b0 b : Branch) (d : Doing) (e : Coord) (found : branch_of u c.tree ≡ Some b0) (only : OnlyOne c u b d e)
    (path : b.path ≡ b0.path) (later : is_some b.ended ≡ false → is_some b0.ended ≡ false) where
  abbrev t : Tree
  t = c.tree

  -- a branch was there, by the same path
  pub was : (w : Uid) (q : Branch) → branch_of w e.tree ≡ Some q →
      (r : Branch) × (branch_of w t ≡ Some r) × (r.path ≡ q.path) × (is_some q.ended ≡ false → is_some r.ended ≡ false)
  was w q is = ⊎_elim
      (λ (same_one : w ≡ u).
      let one : ◌≡◌ {A = Option Branch} (Some b) (Some q) = sym only.branch ∙ ap (λ (v : Uid). branch_of v e.tree) (sym same_one) ∙ is in
      let k : b ≡ q = cc one in (
        b0,
        ap (λ (v : Uid). branch_of v t) same_one ∙ found,
        sym path ∙ ap (λ (v : Branch). v.path) k,
        λ un. later (ap (λ (v : Branch). is_some v.ended) k ∙ un),
      ))
      (λ (other : w ≢ u). (q, sym (only.branches w other) ∙ is, refl, λ un. un))
      (uid_cases w u)

  still : (w : Uid) (q : Branch) → branch_of w t ≡ Some q → (r : Branch) × (branch_of w e.tree ≡ Some r)
  still w q is = ⊎_elim (λ (same_one : w ≡ u). (b, ap (λ (v : Uid). branch_of v e.tree) same_one ∙ only.branch))
      (λ (other : w ≢ u). (q, only.branches w other ∙ is)) (uid_cases w u)

  module _ (act : Acts) (x : ℕ) (f g : Act → Action) (apart : AreOne act) (sees : SeesActions act x c f) where
    pub one_changed : (is_action (act u) ≡ true → SeesAction x b d (g (act u))) →
        ((a : Act) → same a (act u) ≡ false → is_action a ≡ true → g a ≡ f a)
        → ((w : Uid) (q r : Branch) → branch_of w e.tree ≡ Some q → branch_of (root_of q.path) e.tree ≡ Some r → is_some r.ended ≡ false →
        g (Root (root (act w))) ≡ f (Root (root (act w))))
        → ((n : ℕ) → (g (Root n)).waits ≡ (f (Root n)).waits) → SeesActions act x e g
    one_changed its others units quiet = record {
      each = λ w q k there work holds. ⊎_elim
          (λ (same_one : w ≡ u).
          let one : ◌≡◌ {A = Option Branch} (Some b) (Some q) = sym only.branch ∙ ap (λ (v : Uid). branch_of v e.tree) (sym same_one)
          ∙ there in
          let two : ◌≡◌ {A = Option Doing} (Some d) (Some k) = sym only.doing ∙ ap (λ (v : Uid). doing_of v e) (sym same_one) ∙ work in
          let b_is : b ≡ q = cc one in let d_is : d ≡ k = cc two in
          subst (λ (v : Uid). SeesAction x q k (g (act v))) (sym same_one) (subst (λ (v : Branch). SeesAction x v k (g (act u))) b_is (subst
          (λ (v : Doing). SeesAction x b v (g (act u))) d_is (its (ap (λ (v : Uid). is_action (act v)) (sym same_one) ∙ holds)))))
          (λ (other : w ≢ u). subst (SeesAction x q k) (sym (others (act w) (off w other) holds))
          (sees.each w q k (sym (only.branches w other) ∙ there) (sym (only.doings w other) ∙ work) holds))
          (uid_cases w u);
      opened = λ w q r there root_is_there un.
          let q0 = was w q there in let r0 = was (root_of q.path) r root_is_there in
          ap (λ (v : Action). v.stage) (units w q r there root_is_there un)
          ∙ sees.opened w q0.0 r0.0 q0.1 (ap (λ p. branch_of (root_of p) t) q0.2 ∙ r0.1) (r0.3 un);
      quiet = λ w q there. let q0 = was w q there in quiet (root (act w)) ∙ sees.quiet w q0.0 q0.1;
      others = λ w q a there home holds. let q0 = was w q there in
          by a holds (sees.others w q0.0 a q0.1 home holds) (by_cases (same a (act u)));
    }
      where
        off : (w : Uid) → w ≢ u → same (act w) (act u) ≡ false
        off w other =
            ⊎_elim (λ holds. absurd (other (apart w u (same_is (act w) (act u) holds)))) (λ isnt. isnt) (by_cases (same (act w) (act u)))

        by : (a : Act) → is_action a ≡ true → IsHere act t a ⊎ IsIdle (f a) → (same a (act u) ≡ true) ⊎ (same a (act u) ≡ false) →
            IsHere act e.tree a ⊎ IsIdle (g a)
        by a holds (inl (v, q, there, is)) cases = let r = still v q there in inl (v, r.0, r.1, is)
        by a holds (inr idle) (inl own) = inl (u, b, only.branch, same_is a (act u) own)
        by a holds (inr idle) (inr other) = inr (subst IsIdle (sym (others a other holds)) idle)

-- ---- its work, and its end

module _ (c : Coord) (u : Uid) (b : Branch) (d : Doing) (found : branch_of u c.tree ≡ Some b) (works : doing_of u c ≡ Some d) where
  pub work_changed : (h : Doing → Doing) → OnlyOne c u b (h d) (on_doing u h c)
  work_changed h = subst (λ (e : Coord). OnlyOne c u b (h d) e) (sym (λ i. change_doing h u c (works i)))
      (record {
        branch = found;
        doing = doing_put u (h d) d c works;
        branches = λ w other. refl;
        doings = λ w other. doing_other u w (h d) d c works other;
      })

  -- its end by parts
  module _ (e : End) where
    own_ended : (w : Uid) (o : Option Branch) → is_own w (ended_branch u e c.tree o) ≡ is_own w c.tree
    own_ended w None = refl
    own_ended w (Some q) = by (nat_le (length (uids_of q.path)) 1)
      where
        marked : Tree
        marked = record c.tree { branches = set_place u.num (record q { ended = Some e }) c.tree.branches }

        by : (k : Bool) → is_own w (cond k marked (with_family (root_of q.path) (let g = family_of (root_of q.path) marked in
            record g { ends = g.ends ++ (u, e) ∷ [] }) marked)) ≡ is_own w c.tree
        by true = refl
        by false = refl

    own_same : (w : Uid) → doing_of w (record c { tree = ended_at u e c.tree }) ≡ doing_of w c
    own_same w = λ i. cond (own_ended w (branch_of u c.tree) i) (at_place w.num c.doings) None

    pub ended_is : ended u e c ≡ set_doing u (record d { now = Idle }) (record c { tree = ended_at u e c.tree })
    ended_is =
        λ i. change_doing (λ (q : Doing). record q { now = Idle }) u (record c { tree = ended_at u e c.tree }) ((own_same u ∙ works) i)

  pub end_changed : (e : End) → OnlyOne c u (record b { ended = Some e }) (record d { now = Idle }) (ended u e c)
  end_changed e = record {
    branch = ap (branch_of u) tree_is ∙ tree.at_u u e c.tree b found;
    doing = subst (λ (v : Coord). doing_of u v ≡ Some (record d { now = Idle })) (sym (ended_is e))
        (doing_put u (record d { now = Idle }) d (record c { tree = ended_at u e c.tree }) (own_same e u ∙ works));
    branches = λ w other. ap (branch_of w) tree_is ∙ tree.at_others u e c.tree b found w other;
    doings = λ w other. ap (doing_of w) (ended_is e)
        ∙ doing_other u w (record d { now = Idle }) d (record c { tree = ended_at u e c.tree }) (own_same e u ∙ works) other ∙ own_same e w;
  }
    where
      tree_is : (let v = ended u e c in v.tree) ≡ tree.after u e c.tree b found
      tree_is = ap (λ (v : Coord). v.tree) (ended_is e) ∙ (λ i. ended_branch u e c.tree (found i))
