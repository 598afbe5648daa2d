-- What is known of the coordinator of a node that is up: its actions are those of the journal, under their labels.
use Rattle.arj_law_parts.proofs.Words
use Words.{◌≡◌, ◌∙◌, ◌==◌, ℕ, zero, suc, Bool, true, false, cond, List, [], ◌∷◌, length, Option, Some, None, refl, sym, ap, subst, arith}
use Words.{and_parts, eqb-true}
use Words.{Uid, name, uids_of, actor, Coord, Doing, doing_of, Intent, Parts, Node, Branch, branch_of, at_place, slice_get, is_own, Seen}
use Rattle.arj_law_lock_view.proofs.Terms
use Terms.{act_in, acts, Action, paths_of, IsGoodCoord, IsUp, begun_tree, path_found, AreDistinct}
use Rattle.arj_law_parts.specs.steps.Named.{HasNames}
use Rattle.arj_law_runs.proofs.journal.{Models.its_acts, Models.its_sound, Paths.IsPathedOf, Paths.its_path}
use Rattle.arj_law_runs.specs.journal.{Book.book, Knows.KnowsUp}
use Rattle.arj_law_runs.specs.kept.Worlds.{IsMemory}
use Rattle.arj_model.specs.Actions.{Act, path, uids}

some_is : {A : Type 0} {a b : A} → Some a ≡ Some b → a ≡ b
some_is {A} {a} {b} is = let k : ◌≡◌ {A = Option A} (Some a) (Some b) = is in cc

none_is : {A : Type 0} {x : A} → None ≡ Some x → ⊥
none_is {A} {x} is = let no_way : ◌≡◌ {A = Option A} None (Some x) = is in cc

-- ---- doings and branches

longer : {A B : Type 0} (xs : List A) (ys : List B) → length xs ≡ length ys → (j : ℕ) (x : A) → slice_get xs j ≡ Some x →
    (y : B) × (slice_get ys j ≡ Some y)
longer [] ys same j x is = absurd (none_is is)
longer (a ∷ xs) [] same j x is = absurd (omega (arith, same))
longer (a ∷ xs) (b ∷ ys) same zero x is = (b, refl)
longer (a ∷ xs) (b ∷ ys) same (suc j) x is = longer xs ys (omega (arith, same)) j x is

placed : {A B : Type 0} (xs : List A) (ys : List B) → length xs ≡ length ys → (j : ℕ) (x : A) → at_place j xs ≡ Some x →
    (y : B) × (at_place j ys ≡ Some y)
placed xs ys same zero x is = absurd (none_is is)
placed xs ys same (suc j) x is = longer xs ys same j x is

own_branch : (c : Coord) → length c.doings ≡ length c.tree.branches → (u : Uid) (d : Doing) → doing_of u c ≡ Some d →
    (b : Branch) × (branch_of u c.tree ≡ Some b) × (is_own u c.tree ≡ true)
own_branch c same u d found = by (is_own u c.tree) refl found
  where
    by : (o : Bool) → is_own u c.tree ≡ o → cond o (at_place u.num c.doings) None ≡ Some d →
        (b : Branch) × (branch_of u c.tree ≡ Some b) × (is_own u c.tree ≡ true)
    by false own is = absurd (none_is is)
    by true own is = let q = placed c.doings c.tree.branches same u.num d is in
        (q.0, (λ i. cond (own i) (at_place u.num c.tree.branches) None) ∙ q.1, own)

-- ---- a coordinator

-- what is known of node j, up with these parts
pub record KnowsCoord (begun : List Action) (M : Seen) (j : ℕ) (t : Parts) : Type 0 where
  pub coord : IsGoodCoord begun (paths_of begun) t.coord
  pub inc : ℕ
  pub its : IsUp begun M.sent M.labels j inc t
  pub intents : List (Uid × Intent)
  pub knows : KnowsUp (book M.lines) intents t.coord
  pub names : HasNames t.coord

pub knows_coord : (begun : List Action) (M : Seen) → IsPathedOf begun M → (j : ℕ) (n : Node) (t : Parts) → M.nodes j ≡ Some n →
    n.live ≡ Some t →
    KnowsCoord begun M j t
knows_coord begun M h j n t there live =
    let good = h.1.0 in
    let place = good.places j n there in
    let its : IsUp begun M.sent M.labels j (let z = n.disk in z.inc) t =
    subst (IsMemory begun M.sent M.labels j (let z = n.disk in z.inc)) live
    place.memory in
    let node = its.good (paths_of begun) (begun_tree begun good.begun) (path_found begun good.begun) in
    let o = (let w = h.1.2 in w.nodes j n there) in
    record {
      coord = node.coord;
      inc = (let z = n.disk in z.inc);
      its = its;
      intents = (let z = n.disk in z.intents);
      knows = o.live t live;
      names = h.0.1 j n t there live;
    }

-- each of its actions is the journal's, under its label, of the node, and has its path
pub record IsThere (M : Seen) (j : ℕ) (t : Parts) (u : Uid) (d : Doing) : Type 0 where
  pub branch : Branch
  pub found : branch_of u (let c = t.coord in c.tree) ≡ Some branch
  pub act : Act
  pub named : act_in (acts M.lines) (name d.label) ≡ Some act
  pub uid : act.uid ≡ u
  pub node : u.node ≡ j
  pub path : uids (path (acts M.lines) (name d.label)) ≡ uids_of branch.path
  pub at_end : actor branch.path ≡ u

module _ (begun : List Action) (M : Seen) (h : IsPathedOf begun M) where
  its_acts_are : (let B = book M.lines in B.acts) ≡ acts M.lines
  its_acts_are = let w = h.1.2 in its_acts M.lines w.right

  pub distinct : AreDistinct (acts M.lines)
  distinct = let w = h.1.2 in let s = its_sound M.lines w.right in s.distinct

  pub is_there : (j : ℕ) (t : Parts) → KnowsCoord begun M j t → (u : Uid) (d : Doing) → doing_of u t.coord ≡ Some d → IsThere M j t u d
  is_there j t k u d found =
      let b = own_branch t.coord (let n = k.names in n.count) u d found in
      let s = (let w = k.knows in let q = w.knows in q.acts u b.0 d b.1 found) in
      record {
        branch = b.0;
        found = b.1;
        act = s.act;
        named = ap (λ xs. act_in xs (name d.label)) (sym its_acts_are) ∙ s.named;
        uid = s.uid;
        node = eqb-true u.node t.coord.tree.node (and_parts (u.node == t.coord.tree.node) (u.inc == t.coord.tree.inc) b.2).0
            ∙ (let w = k.its in w.node);
        path = ap (λ xs. uids (path xs (name d.label))) (sym its_acts_are)
            ∙ its_path begun (let g = h.1.0 in g.begun) (book M.lines) t.coord h.1.1 k.coord (let w = k.knows in w.knows) u b.0 d b.1 found;
        at_end = (let c = k.coord in let q = c.tree in let l = q.lists in l.places u b.0 b.1);
      }

  -- two of one name are one
  pub one_name : (i j : ℕ) (s t : Parts) (u w : Uid) (d x : Doing) → IsThere M i s u d → IsThere M j t w x → name d.label ≡ name x.label →
      u ≡ w
  one_name i j s t u w d x a b same =
      sym a.uid ∙ ap (λ (z : Act). z.uid) (some_is (sym a.named ∙ ap (act_in (acts M.lines)) same ∙ b.named)) ∙ b.uid
