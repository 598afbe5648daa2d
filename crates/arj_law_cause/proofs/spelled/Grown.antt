-- As a coordinator goes on, its tree stays that of its node and its incarnation, and each object that a root used it uses still.
use Rattle.arj_law_parts.proofs.Words
use Words.{◌≡◌, ◌∙◌, ◌==◌, ◌||◌, ◌++◌, ◌+◌, ℕ, Bool, true, false, cond, nat_le, length, List, [], ◌∷◌, Option, Some, None, refl, sym}
use Words.{ap, subst, ⊎_elim, unwrap_or, match_ordering, nat_cmp, Ordering, Less, Equal, Greater, Uid, End, Kind, Label, Path, uids_of}
use Words.{Asked, Message, Reply, at_number, has, with_number, put_number, put_same, put_other, one_or_two, Coord, acked, again_all, heard, Disk}
use Words.{Effect, Intent, Parts, Took, handle, Input, acts, parent_of, Tree, Branch, Family, begun_by, branch_of, doomed_at, doomed_branch}
use Words.{ended_at, ended_branch, family_of, next_uid, no_family, path_below, root_of, set_place, uses_object, with_family}
use Rattle.arj_law_promise.proofs.Terms.{IsUsedIn}
use Rattle.arj_law_parts.proofs.coordinator.Trace.{Came, Trace, trace_keeps}
use Rattle.arj_law_parts.proofs.coordinator.Walks.{acked_trace, acts_trace, again_trace, heard_trace}
use Rattle.arj_law_parts.proofs.coordinator.Works.{KeepsTree, tree_move}
use Rattle.arj_law_serial.proofs.whole.CoordCases.{CoordCase, coord_case}
use Rattle.arj_law_serial.proofs.whole.CoordCases as cases

-- a tree, and one that it has become
pub record BecomesSo (t v : Tree) : Type 0 where
  pub node : v.node ≡ t.node
  pub inc : v.inc ≡ t.inc
  pub uses : (k x : ℕ) → IsUsedIn t k x → IsUsedIn v k x

-- ---- the objects of a root

has_put : (n x : ℕ) (ns : List ℕ) → has ns x ≡ true → has (with_number n ns) x ≡ true
has_put n x [] is = let no_way : false ≡ true = is in absurd (cc no_way)
has_put n x (m ∷ ms) is = by (nat_cmp n m) (m == x) is (has_put n x ms)
  where
    later : (a : Bool) → a ≡ true → (b : Bool) → (b || a) ≡ true
    later a h true = refl
    later a h false = h

    by : (r : Ordering) (b : Bool) → (b || has ms x) ≡ true → (has ms x ≡ true → has (with_number n ms) x ≡ true) →
        has (match_ordering r (n ∷ m ∷ ms) (m ∷ ms) (m ∷ with_number n ms)) x ≡ true
    by Less b h ih = later (has (m ∷ ms) x) is (n == x)
    by Equal b h ih = is
    by Greater true h ih = first (m == x) is
      where
        first : (c : Bool) → (c || has ms x) ≡ true → (c || has (with_number n ms) x) ≡ true
        first true k = refl
        first false k = ih k
    by Greater false h ih = later (has (with_number n ms) x) (ih h) (m == x)

module _ (s : Tree) where
  abbrev From : Tree → Type 0
  From v = BecomesSo s v

  -- a family put at a root, with the objects that it had, or more
  with_it : (root : Uid) (f : Family) (t : Tree) → ((x : ℕ) → has (family_of root t).objects x ≡ true → has f.objects x ≡ true) → From t →
      From (with_family root f t)
  with_it root f t more g = record { node = g.node; inc = g.inc; uses = λ k x is. grows k x (g.uses k x is) }
    where
      grows : (k x : ℕ) → IsUsedIn t k x → IsUsedIn (with_family root f t) k x
      grows k x is = ⊎_elim (λ same. subst (λ o. has (let q = unwrap_or o no_family in q.objects) x ≡ true)
          (sym (ap (λ j. at_number j (put_number root.num f t.families)) (sym same) ∙ put_same root.num f t.families))
          (more x (subst (λ j. IsUsedIn t j x) (sym same) is)))
          (λ apart. subst (λ o. has (let q = unwrap_or o no_family in q.objects) x ≡ true)
          (sym (put_other root.num k f t.families apart.0)) is) (one_or_two root.num k)

  begun_so : (k : Kind) (p : Path) (t : Tree) → From t → From (begun_by k p t)
  begun_so k p t g = with_it (root_of p) (let f = family_of (root_of p) m in record f { actions = f.actions + 1 }) m (λ y h. h)
      (record { node = g.node; inc = g.inc; uses = g.uses })
    where
      m : Tree
      m = record t { branches = t.branches ++ record { path = p; kind = k; ended = None; doomed = false } ∷ [] }

  uses_so : (p : Path) (x : ℕ) (t : Tree) → From t → From (uses_object p x t)
  uses_so p x t g = with_it (root_of p) (let f = family_of (root_of p) t in
      record f { objects = with_number x f.objects }) t (λ y h. has_put x y (family_of (root_of p) t).objects h) g

  doomed_so : (u : Uid) (t : Tree) → From t → From (doomed_at u t)
  doomed_so u t g = by (branch_of u t)
    where
      by : (o : Option Branch) → From (doomed_branch u t o)
      by None = g
      by (Some b) = record { node = g.node; inc = g.inc; uses = g.uses }

  ended_so : (u : Uid) (e : End) (t : Tree) → From t → From (ended_at u e t)
  ended_so u e t g = by (branch_of u t)
    where
      by : (o : Option Branch) → From (ended_branch u e t o)
      by None = g
      by (Some b) = one (nat_le (length (uids_of b.path)) 1)
        where
          m : Tree
          m = record t { branches = set_place u.num (record b { ended = Some e }) t.branches }

          its : From m
          its = record { node = g.node; inc = g.inc; uses = g.uses }

          f : Family
          f = let q = family_of (root_of b.path) m in record q { ends = q.ends ++ (u, e) ∷ [] }

          one : (c : Bool) → From (cond c m (with_family (root_of b.path) f m))
          one true = its
          one false = with_it (root_of b.path) f m (λ y h. h) its

-- ---- coordinators

pub same_so : (t : Tree) → BecomesSo t t
same_so t = record { node = refl; inc = refl; uses = λ k x is. is }

keeps : (c : Coord) (came : Came) → KeepsTree (BecomesSo c.tree) c came
keeps c came = record {
  begins = λ l k parent intents is g. begun_so c.tree k (path_below k (parent_of parent c) (next_uid c.tree)) c.tree g;
  uses = λ p x g. uses_so c.tree p x c.tree g;
  dooms = λ u t g. doomed_so c.tree u t g;
  ends = λ u how line t ends g. ended_so c.tree u how t g;
}

onward : {c : Coord} {came : Came} {outs : List Effect} {e : Coord} → Trace c came c outs e → BecomesSo c.tree e.tree
onward {c} {came} t = trace_keeps (λ (e : Coord). BecomesSo c.tree e.tree)
    (λ e f m. tree_move (BecomesSo c.tree) (keeps c came) e f m) t (same_so c.tree)

pub acts_become : (i : Input) (intents : List (Uid × Intent)) (c : Coord) →
    BecomesSo c.tree (let d = acts i intents c in let e = d.part in e.tree)
acts_become i intents c = onward (acts_trace c i intents)

pub again_become : (c : Coord) → BecomesSo c.tree (let d = again_all c.doings c in let e = d.part in e.tree)
again_become c = onward (again_trace c)

pub begins_become : (k : Kind) (parent : Option Label) (c : Coord) →
    BecomesSo c.tree (begun_by k (path_below k (parent_of parent c) (next_uid c.tree)) c.tree)
begins_become k parent c = begun_so c.tree k (path_below k (parent_of parent c) (next_uid c.tree)) c.tree (same_so c.tree)

pub message_becomes : (k : ℕ) (d : Disk) (t v : Parts) (from : ℕ) (m : Message) (outs : List Effect) → handle k d t from m ≡ Took v outs →
    BecomesSo t.coord.tree v.coord.tree
message_becomes k d t v from m outs is = by (coord_case k d t v from m outs is)
  where
    heard_so : (a : Asked) (r : Reply) → BecomesSo t.coord.tree (let q = heard from a r d.intents t.coord in let e = q.part in e.tree)
    heard_so a r = onward (heard_trace t.coord from a r d.intents)

    acked_so : (u : Uid) → BecomesSo t.coord.tree (let q = acked from u d.intents t.coord in let e = q.part in e.tree)
    acked_so u = onward (acked_trace t.coord from u d.intents)

    by : CoordCase d t from m v outs → BecomesSo t.coord.tree v.coord.tree
    by (cases.OfParts mine same plain sent_to) = subst (λ (c : Coord). BecomesSo t.coord.tree c.tree) (sym same) (same_so t.coord.tree)
    by (cases.Asks u query same outs_are) = subst (λ (c : Coord). BecomesSo t.coord.tree c.tree) (sym same) (same_so t.coord.tree)
    by (cases.Heard a r some same outs_are) = subst (λ (c : Coord). BecomesSo t.coord.tree c.tree) same (heard_so a r)
    by (cases.Acks u which same outs_are) = subst (λ (c : Coord). BecomesSo t.coord.tree c.tree) same (acked_so u)
