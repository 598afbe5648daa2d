-- A top has a part in an object by what it changed only in what its own calls use.
use Rattle.arj_law_parts.proofs.Words
use Words.{◌≡◌, ℕ, Bool, true, false, Option, Some, None, refl, ap, subst, not, uid_is, in_find, ObjectState, Uid, object, uid_eq, Machine}
use Words.{Plan, Used, changed_of, plan_of, Committing, Doing, doing_of, root_at, top_uses, Disk, Parts, root_of, Seen, is_empty}
use Words.list
use Rattle.arj_law_disk_view.proofs.Terms.{up, plan_at, plan_by, used_at, KnowsFew, has_part}
use Rattle.arj_law_disk_view.proofs.view.Frames.{node_here}
use Rattle.arj_law_runs.proofs.calls.ChangedCalls.{changes_in}
use Rattle.arj_law_runs.specs.calls.Runs.{ChangesAreCalled}

-- so it is where few bindings were made
pub changes_here : (k : ℕ) (d : Disk) (t : Parts) (M : Seen) → KnowsFew (up k d t M) → ChangesAreCalled t
changes_here k d t M few = changes_in (up k d t M) few.1.1 k (record { number = k; disk = d; live = Some t }) t
    (node_here M k (record { number = k; disk = d; live = Some t })) refl

module _ (x : ℕ) (t : Parts) (called : ChangesAreCalled t) (u : Uid) (q : Doing) (m : Machine) (p : Plan) (at : doing_of u t.coord ≡ Some q)
    (now : q.now ≡ Committing m) (changed : p.changed ≡ (plan_of m).changed) where
  abbrev Uses_it : Type 0
  Uses_it = top_uses u x (root_at (root_of (plan_of m).path) t.coord) t.coord ≡ true

  by_change : (w : ObjectState) → changed_of x p ≡ Some w → Uses_it
  by_change w is =
      let f = in_find (λ (s : ObjectState). uid_eq s.uid (object x)) w p.changed is in
      let of : w.uid.num ≡ x = ap (λ (v : Uid). v.num) (uid_is w.uid (object x) f.1) in
      subst (λ y. top_uses u y (root_at (root_of (plan_of m).path) t.coord) t.coord ≡ true) of
      (called u q m at now w (subst (list.In w) changed f.0))

  -- It has a part by an include only beside that.
  pub part_used : ((v : Used) → used_at x p.used ≡ Some v → is_empty v.joins ≡ false → Uses_it) → has_part (plan_at x p) ≡ true → Uses_it
  part_used joins part = by (used_at x p.used) refl (changed_of x p) refl part
    where
      filled : (b : Bool) → not b ≡ true → b ≡ false
      filled true h = absurd (cc h)
      filled false h = refl

      by : (o : Option Used) → used_at x p.used ≡ o → (c : Option ObjectState) → changed_of x p ≡ c → has_part (plan_by o c) ≡ true →
          Uses_it
      by None is c changes on = absurd (cc on)
      by (Some v) is (Some w) changes on = by_change w changes
      by (Some v) is None changes on = joins v is (filled (is_empty v.joins) on)
