-- What a coordinator does at one action leaves the others.
use Rattle.arj_law_parts.proofs.Words
use Words.{◌≡◌, ◌≢◌, ◌==◌, Bool, true, false, Option, Some, None, refl, sym, ◌∙◌, ap, eqb-true, if◌then◌else◌, and_parts, Uid, Coord, Doing}
use Words.{doing_of, change_doing, on_doing, is_own, at_place, set_place, place_other}
use Rattle.arj_law_disk_view.proofs.Terms.{place_same}

-- who is at work is found in its place
doing_at : (u : Uid) (c : Coord) (d : Doing) → doing_of u c ≡ Some d → (is_own u c.tree ≡ true) × (at_place u.num c.doings ≡ Some d)
doing_at u c d is = by (is_own u c.tree) refl is
  where
    by : (b : Bool) → is_own u c.tree ≡ b → (if b then at_place u.num c.doings else None) ≡ Some d →
        (is_own u c.tree ≡ true) × (at_place u.num c.doings ≡ Some d)
    by true e h = (e, h)
    by false e h = absurd (cc h)

-- two own actions of one number are one
pub own_is : (u w : Uid) (c : Coord) → is_own u c.tree ≡ true → is_own w c.tree ≡ true → w.num ≡ u.num → w ≡ u
own_is u w c a b same =
    let p = and_parts (u.node == c.tree.node) (u.inc == c.tree.inc) a in
    let q = and_parts (w.node == c.tree.node) (w.inc == c.tree.inc) b in
    λ i. record {
      node = (eqb-true w.node c.tree.node q.0 ∙ sym (eqb-true u.node c.tree.node p.0)) i;
      inc = (eqb-true w.inc c.tree.inc q.1 ∙ sym (eqb-true u.inc c.tree.inc p.1)) i;
      num = same i;
    }

pub doing_here : (u : Uid) (f : Doing → Doing) (c : Coord) (d : Doing) → doing_of u c ≡ Some d → doing_of u (on_doing u f c) ≡ Some (f d)
doing_here u f c d is =
    let p = doing_at u c d is in
    ap (λ o. doing_of u (change_doing f u c o)) is ∙ ap (λ b. if b then at_place u.num (set_place u.num (f d) c.doings) else None) p.0
    ∙ place_same u.num (f d) d c.doings p.1

pub doing_other : (u w : Uid) (f : Doing → Doing) (c : Coord) (d : Doing) → doing_of u c ≡ Some d → w ≢ u →
    doing_of w (on_doing u f c) ≡ doing_of w c
doing_other u w f c d is other = ap (λ o. doing_of w (change_doing f u c o)) is ∙ by (is_own w c.tree) refl
  where
    by : (b : Bool) → is_own w c.tree ≡ b → (if is_own w c.tree then at_place w.num (set_place u.num (f d) c.doings) else None)
        ≡ (if is_own w c.tree then at_place w.num c.doings else None)
    by true e = ap (λ b. if b then at_place w.num (set_place u.num (f d) c.doings) else None) e ∙ place_other u.num w.num (f d) c.doings
        (λ same. other (own_is u w c (doing_at u c d is).0 e same)) ∙ sym (ap (λ b. if b then at_place w.num c.doings else None) e)
    by false e = ap (λ b. if b then at_place w.num (set_place u.num (f d) c.doings) else None) e
        ∙ sym (ap (λ b. if b then at_place w.num c.doings else None) e)

-- the tree stays
pub doing_tree : (u : Uid) (f : Doing → Doing) (c : Coord) → (on_doing u f c).tree ≡ c.tree
doing_tree u f c = by (doing_of u c)
  where
    by : (o : Option Doing) → (change_doing f u c o).tree ≡ c.tree
    by None = refl
    by (Some d) = refl
