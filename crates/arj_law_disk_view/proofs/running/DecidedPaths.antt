-- A top that its coordinator is to decide goes once through what its root was answered.
use Rattle.arj_law_parts.proofs.Words
use Words.{◌≡◌, ◌∙◌, ◌==◌, ◌&&◌, ℕ, List, ◌∷◌, true, Some, sym, Contains, Uid, Machine, Plan, plan_of, Committing, Coord, Doing, Said}
use Words.{doing_of, root_at, top_uses, Intent, uid_number, Branch, branch_of, is_own, root_of}
use Rattle.arj_law_disk_view.proofs.Terms.{found_by, KnowsCoord, KnowsKinds, plan_at, AreOneChange, Kinds, has_part, DecidesTop, GoesOnce}
use Rattle.arj_law_disk_view.proofs.running.HeardDecides.{decides_top, its_top}

module _ (tops : Kinds) (kinds : KnowsKinds tops) (intents : List (Uid × Intent)) (c : Coord) (knows : KnowsCoord tops intents c) where
  -- a top's root is of this coordinator too
  pub root_here : (u root : Uid) (b : Branch) → branch_of u c.tree ≡ Some b → tops.is_top (uid_number u) ≡ true →
      tops.root (uid_number u) ≡ uid_number root → is_own root c.tree ≡ true
  root_here u root b found top of =
      let same = kinds.own u root top of in
      (λ i. (sym same.0 i == c.tree.node) && (sym same.1 i == c.tree.inc)) ∙ (found_by u c.tree b found).0

  -- a root begins the paths of what it was answered
  pub headed : (root : Uid) (s : Said) → is_own root c.tree ≡ true → Contains (let r = root_at root c in r.said) s →
      (rest : List Uid) × (s.path ≡ root ∷ rest)
  headed root s own there = let f = knows.said root s own there in (f.rest, f.headed)

  goes : (root u : Uid) → is_own root c.tree ≡ true → (s : Said) → Contains (let r = root_at root c in r.said) s → GoesOnce root u s.path
  goes root u own s there = let f = knows.said root s own there in record { rest = f.rest; headed = f.headed; once = f.once u }

  -- So a top is decided by its plan, also with naming's confirmation, if it has a part only in what it uses.
  pub decides_path : (x : ℕ) (u : Uid) (q : Doing) (m : Machine) (p : Plan) → doing_of u c ≡ Some q → q.now ≡ Committing m →
      p.path ≡ (plan_of m).path → p.changed ≡ (plan_of m).changed → AreOneChange p
      → (has_part (plan_at x p) ≡ true → top_uses u x (root_at (root_of (plan_of m).path) c) c ≡ true) →
      DecidesTop x tops (root_of (plan_of m).path) u p c
  decides_path x u q m p at now path changed one own =
      let n = knows.machines u q m at now in
      let top = its_top tops kinds intents c knows u m n in
      decides_top tops kinds intents c knows x u q m p at now path changed one own
      (goes (root_of (plan_of m).path) u (root_here u (root_of (plan_of m).path) n.branch n.found top.top top.of_root))
