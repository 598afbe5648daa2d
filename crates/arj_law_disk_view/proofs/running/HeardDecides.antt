-- A top that its coordinator is to decide: what is known of its commit makes it one of its root.
use Rattle.arj_law_parts.proofs.Words
use Words.{◌≡◌, ◌∙◌, ℕ, List, [], ◌∷◌, true, false, Some, refl, sym, ap, subst, Contains, Kind, Uid, first_uid, uids_of, Machine, Plan}
use Words.{plan_of, Committing, Coord, Doing, Said, doing_of, root_at, top_uses, Intent, uid_number, root_of, is_constituent}
use Words.kind
use Rattle.arj_law_disk_view.proofs.Terms
use Terms.{never, IsOfKind, KnowsCoord, KnowsKinds, KnowsMachine, Among, plan_at, AreOneChange, Kinds, has_part, DecidesTop, GoesOnce}
use Terms.{IsTopOf}

module _ (tops : Kinds) (kinds : KnowsKinds tops) (intents : List (Uid × Intent)) (c : Coord) (knows : KnowsCoord tops intents c) where
  -- a commit under way is of a top of its root, and of a constituent exactly where that is a serializing action
  module _ (u : Uid) (m : Machine) (n : KnowsMachine tops c u m) where
    rooted : root_of n.branch.path ≡ root_of (plan_of m).path
    rooted = ap root_of n.path

    pub its_top : IsTopOf tops (root_of (plan_of m).path) u
    its_top = record {
      top = n.top;
      plain = kinds.apart (uid_number u) n.top;
      of_root = knows.root u n.branch n.found n.top ∙ ap uid_number rooted;
    }

    pub own_root : tops.root (uid_number (root_of (plan_of m).path)) ≡ uid_number (root_of (plan_of m).path)
    own_root = ap tops.root (sym its_top.of_root) ∙ kinds.idem (uid_number u) ∙ its_top.of_root

    pub its_kind : is_constituent n.branch.kind ≡ tops.is_serial (uid_number (root_of (plan_of m).path))
    its_kind = by n.branch.kind refl (knows.kind u n.branch n.found)
      where
        alone : uids_of n.branch.path ≡ u ∷ [] → tops.is_serial (uid_number u) ≡ false →
            false ≡ tops.is_serial (uid_number (root_of (plan_of m).path))
        alone path plain = sym (ap (λ w. tops.is_serial (uid_number w)) (sym rooted ∙ ap first_uid path) ∙ plain)

        by : (k : Kind) → n.branch.kind ≡ k → IsOfKind tops u k n.branch.path →
            is_constituent k ≡ tops.is_serial (uid_number (root_of (plan_of m).path))
        by kind.Nested is h = absurd (never n.top h.0)
        by kind.Serial is h = absurd (never n.top h.0)
        by kind.Top is h = alone h.2 h.1
        by kind.Independent is h = alone h.2 h.1
        by kind.Constituent is h =
            let above = knows.above u n.branch n.found n.unended (ap is_constituent is) in
            let serial : IsOfKind tops (root_of n.branch.path) kind.Serial above.branch.path = subst (λ k. IsOfKind tops
            (root_of n.branch.path) k above.branch.path) above.serial (knows.kind (root_of n.branch.path) above.branch above.found) in
            sym (ap (λ w. tops.is_serial (uid_number w)) (sym rooted) ∙ serial.1)

  -- Its decision by its plan, also with naming's confirmation. That it has a part only in what it uses, and that its root's answered calls
  -- go through it once, is known from elsewhere.
  pub decides_top : (x : ℕ) (u : Uid) (q : Doing) (m : Machine) (p : Plan) → doing_of u c ≡ Some q → q.now ≡ Committing m →
      p.path ≡ (plan_of m).path → p.changed ≡ (plan_of m).changed → AreOneChange p
      → (has_part (plan_at x p) ≡ true → top_uses u x (root_at (root_of (plan_of m).path) c) c ≡ true) →
      ((s : Said) → Contains (let r = root_at (root_of (plan_of m).path) c in r.said) s → GoesOnce (root_of (plan_of m).path) u s.path)
      → DecidesTop x tops (root_of (plan_of m).path) u p c
  decides_top x u q m p at now path changed one own goes = let n = knows.machines u q m at now in record {
    branch = n.branch;
    found = n.found;
    unended = n.unended;
    doing = q;
    at_work = at;
    of_root = ap root_of path;
    top = its_top u m n;
    own_root = own_root u m n;
    kind = its_kind u m n;
    changes = one;
    objects = λ s i. n.objects s (subst (Among s) changed i);
    own_part = own;
    paths = goes;
  }
