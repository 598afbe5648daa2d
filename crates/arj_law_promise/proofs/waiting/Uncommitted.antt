-- No store has committed a state of a top that is still at its commit.
use Rattle.arj_law_parts.proofs.Words
use Words.{Bool, List, None, Option, Some, [], cond, false, refl, sym, true, ℕ, ◌∙◌, ◌∷◌, ◌≡◌, ap, subst, ⊎_elim, unwrap_or, uid_is}
use Words.{ObjectState, Uid, is_on, nobody, uid_eq, uids_of, actor, Coord, Doing, doing_of, Already, Old, Pair, Prep, Ready, by_holder}
use Words.{either, first_refusal, held_at, holder_of, is_old, prepare_answer, refusal_in, refusal_of, Parts, Node, at_place, is_own, Path}
use Words.{Seen, Start, arith, and_parts, eqb-true, ◌==◌, ◌<◌, ◌≤◌}
use Rattle.arj_law_promise.proofs.Terms
use Terms.{AreSince, IsSince, IsUp, doing_by, next_inc}
use Terms.{Action, IsAsking, on_own, IsGoodOf, all_at_uid, ArePastIn, IsPast, live_in, ArePastWriters, IsBy, IsPastWriter}
use Rattle.arj_law_promise.proofs.waiting.Untold.{its_up, unpast}
use Rattle.arj_promise.specs.Starts.{IsPast as IsBefore}

-- such an answer stands on a committed state that the action wrote
pub already_written : (act : Uid) (d : Pair) (states : List ObjectState) (w : Uid) → prepare_answer act states d ≡ Already w →
    (u : Uid) × (st : ObjectState) × (held_at u d ≡ Some st) × (st.writer ≡ act)
already_written act d [] w is = absurd (cc is)
already_written act d (s ∷ ss) w is = by (refusal_in act d s) refl is (already_written act d ss w)
  where
    holder_none : (o : Option Uid) → by_holder s o ≡ Some (Already w) → ⊥
    holder_none None e = cc e
    holder_none (Some h) e = cc e

    old_none : (b : Bool) (h : ObjectState) → cond b (Some (Old s.uid h.version)) (by_holder s (holder_of s.uid d)) ≡ Some (Already w) → ⊥
    old_none true h e = cc e
    old_none false h e = holder_none (holder_of s.uid d) e

    of_held : (o : Option ObjectState) → held_at s.uid d ≡ o → refusal_of act s o (holder_of s.uid d) ≡ Some (Already w) →
        (u : Uid) × (st : ObjectState) × (held_at u d ≡ Some st) × (st.writer ≡ act)
    of_held None there e = absurd (holder_none (holder_of s.uid d) e)
    of_held (Some h) there e = one (uid_eq h.writer act) refl e
      where
        one : (b : Bool) → uid_eq h.writer act ≡ b →
            cond b (Some (Already s.uid)) (cond (is_old s h) (Some (Old s.uid h.version)) (by_holder s (holder_of s.uid d)))
            ≡ Some (Already w) → (u : Uid) × (st : ObjectState) × (held_at u d ≡ Some st) × (st.writer ≡ act)
        one true same f = (s.uid, h, there, uid_is h.writer act same)
        one false other f = absurd (old_none (is_old s h) h f)

    by : (o : Option Prep) → refusal_in act d s ≡ o → unwrap_or (either o (first_refusal act d ss)) Ready ≡ Already w →
        (prepare_answer act ss d ≡ Already w → (u : Uid) × (st : ObjectState) × (held_at u d ≡ Some st) × (st.writer ≡ act)) →
        (u : Uid) × (st : ObjectState) × (held_at u d ≡ Some st) × (st.writer ≡ act)
    by None none e ih = ih e
    by (Some p) found e ih = of_held (held_at s.uid d) refl (found ∙ ap Some e)

-- nobody has no work
nobody_works : (c : Coord) (q : Doing) → doing_of nobody c ≡ Some q → ⊥
nobody_works c q is = by (is_own nobody c.tree) is
  where
    by : (b : Bool) → cond b (at_place 0 c.doings) None ≡ Some q → ⊥
    by true e = cc e
    by false e = cc e

-- nor has one from before the run, at a node that is up
before_works : (st : Start) (k i : ℕ) (c : Coord) (q : Doing) (u : Uid) → c.tree.node ≡ k → c.tree.inc ≡ i → next_inc st k ≤ i →
    u.inc < next_inc st u.node → doing_of u c ≡ Some q → ⊥
before_works st k i c q u node inc since before does = let o = doing_by u c q does in
    let own = and_parts (u.node == c.tree.node) (u.inc == c.tree.inc) o.0 in
    low u.inc c.tree.inc i (next_inc st k) (eqb-true u.inc c.tree.inc own.1) inc since
    (subst (λ j. u.inc < next_inc st j) (eqb-true u.node c.tree.node own.0 ∙ node) before)
  where
    low : (a b c first : ℕ) → a ≡ b → b ≡ c → first ≤ c → a < first → ⊥
    low a b c first one two le less = omega (arith, one, two, le, less)

-- at node k an action asks; and at node j a state is committed: another one wrote it
module _ (acts : List Action) (M : Seen) (good : IsGoodOf acts M) (past : ArePastIn acts M) (since : AreSince M)
    (written : ArePastWriters M) where
  pub uncommitted : (k : ℕ) (n : Node) (t : Parts) → M.nodes k ≡ Some n → n.live ≡ Some t → (u : Uid) (q : Doing) →
      doing_of u t.coord ≡ Some q → (p : Path) → actor p ≡ u → IsAsking t.coord.tree u p
      → (j : ℕ) (m : Node) → M.nodes j ≡ Some m → (w : Uid) (st : ObjectState) → held_at w (let d = m.disk in d.store) ≡ Some st →
      st.writer ≡ u → ⊥
  uncommitted k n t found live u q does p by_u asks j m there w st held same =
      ⊎_elim before (λ told. let x = past.posts told.0 told.1 in unpast acts M good k n t found live u p asks u
      (ap (is_on (uids_of p)) (sym by_u) ∙ on_own p) (subst (λ v. IsPast acts (λ i. live_in (M.nodes i)) v) same
      (x.told st.writer told.2 told.3)))
      its
    where
      its : IsPastWriter M.start M.sent st.writer
      its = let x = written.nodes j m there in let y = x.store in
          all_at_uid (IsBy (IsPastWriter M.start M.sent)) w st (let d = m.disk in d.store.held) y.held held

      here : IsUp acts M.sent M.labels k (let d = n.disk in d.inc) t
      here = its_up acts M good k n t found live

      before : IsBefore M.start st.writer → ⊥
      before = ⊎_elim (λ none. nobody_works t.coord q (ap (λ v. doing_of v t.coord) (sym none ∙ same) ∙ does))
          (λ below. before_works M.start k (let d = n.disk in d.inc) t.coord q u (let h = here in h.node) (let h = here in h.inc)
          (subst (IsSince (next_inc M.start k) (let d = n.disk in d.inc)) live (since k n found))
          (subst (λ v. v.inc < next_inc M.start v.node) same below) does)
