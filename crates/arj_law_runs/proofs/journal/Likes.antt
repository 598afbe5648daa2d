-- From one coordinator to the next, where nothing ends.
use Rattle.arj_law_parts.proofs.Words
use Words.{◌≡◌, true, false, cond, Option, Some, None, refl, sym, ◌∙◌, ap, subst, ⊎_elim, uid_cases, Uid, End, Kind, Label, Machine}
use Words.{Calling, Committing, Coord, Doing, Idle, Now, Root, change_doing, doing_of, on_doing, on_root, root_at, set_doing}
use Words.{is_committing_now, Branch, Tree, at_place, branch_of, ends_of}
use Rattle.arj_law_runs.proofs.Terms.{IsSameTree, doing_other, doing_put, Book, is_decided, AreSaid, Calls, EachRecord, IsKnown, Knows}
use Rattle.arj_law_parts.proofs.parts.Truths.{IsFree}
use Rattle.arj_law_runs.proofs.coordinators.CoordUses.{KeepsUses, root_cases}
use Rattle.arj_law_runs.proofs.journal.Ties.{SameTies, ties_on, ties_same, ties_then}

pub some_is : {A : Type 0} (a b : A) → Some a ≡ Some b → a ≡ b
some_is {A} a b is = let k : ◌≡◌ {A = Option A} (Some a) (Some b) = is in cc

pub known_as : (B : Book) (u : Uid) (k j : Kind) (o p : Option End) (l m : Label) → k ≡ j → o ≡ p → l ≡ m → IsKnown B u k o l →
    IsKnown B u j p m
known_as B u k j o p l m kinds ends labels s =
    subst (λ x. IsKnown B u x p m) kinds (subst (λ x. IsKnown B u k x m) ends (subst (λ x. IsKnown B u k o x) labels s))

-- at its commit in both, or in none, and with the same machine
pub record SameNow (m n : Now) : Type 0 where
  pub test : is_committing_now m ≡ is_committing_now n
  pub machine : (x : Machine) → n ≡ Committing x → m ≡ Committing x

pub record Alike (c v : Coord) : Type 0 where
  pub branches : (w : Uid) (b : Branch) → branch_of w v.tree ≡ Some b →
      (a : Branch) × (branch_of w c.tree ≡ Some a) × (a.kind ≡ b.kind) × (a.ended ≡ b.ended)
  pub doings : (w : Uid) (q : Doing) → doing_of w v ≡ Some q →
      (p : Doing) × (doing_of w c ≡ Some p) × (p.label ≡ q.label) × SameNow p.now q.now
  pub lists : (r : Uid) → ends_of r v.tree ≡ ends_of r c.tree
  pub telling : v.telling ≡ c.telling
  pub ties : SameTies c.tree v.tree c.roots v.roots

pub same_now : (n : Now) → SameNow n n
same_now n = record { test = refl; machine = λ x is. is }

pub alike_same : (c : Coord) → Alike c c
alike_same c = record {
  branches = λ w b at. (b, at, refl, refl);
  doings = λ w q at. (q, at, refl, same_now q.now);
  lists = λ r. refl;
  telling = refl;
  ties = ties_same c.tree c.roots;
}

pub alike_then : (c d v : Coord) → Alike c d → Alike d v → Alike c v
alike_then c d v a b = record {
  branches = λ w z at. let x = b.branches w z at in let y = a.branches w x.0 x.1 in (y.0, y.1, y.2 ∙ x.2, y.3 ∙ x.3);
  doings = λ w q at. let x = b.doings w q at in let y = a.doings w x.0 x.1 in let m = y.3 in let n = x.3 in
      (y.0, y.1, y.2 ∙ x.2, record { test = m.test ∙ n.test; machine = λ z is. m.machine z (n.machine z is) });
  lists = λ r. b.lists r ∙ a.lists r;
  telling = b.telling ∙ a.telling;
  ties = ties_then c.tree d.tree v.tree c.roots d.roots v.roots a.ties b.ties;
}

-- a root changes
pub alike_root : (r : Uid) (f : Root → Root) (c : Coord) → KeepsUses f → Alike c (on_root r f c)
alike_root r f c keeps = record {
  branches = λ w b at. (b, at, refl, refl);
  doings = λ w q at. (q, at, refl, same_now q.now);
  lists = λ q. refl;
  telling = refl;
  ties =
      record { back = λ w z at. (z, at, refl); forth = λ w a at. (a, at, refl); own = λ w. refl; said = λ q. one q; joined = λ q. two q };
}
  where
    one : (q : Uid) → (root_at q (on_root r f c)).said ≡ (root_at q c).said
    one q = ⊎_elim (λ same. ap (λ (x : Root). x.said) same.1 ∙ keeps.said (root_at q c)) (λ same. ap (λ (x : Root). x.said) same)
        (root_cases r f c q)

    two : (q : Uid) → (root_at q (on_root r f c)).joined ≡ (root_at q c).joined
    two q = ⊎_elim (λ same. ap (λ (x : Root). x.joined) same.1 ∙ keeps.joined (root_at q c)) (λ same. ap (λ (x : Root). x.joined) same)
        (root_cases r f c q)

-- an action at work changes
pub alike_on : (u : Uid) (f : Doing → Doing) (c : Coord) →
    ((d : Doing) → doing_of u c ≡ Some d → ((f d).label ≡ d.label) × SameNow d.now (f d).now) → Alike c (on_doing u f c)
alike_on u f c so = by (doing_of u c) refl
  where
    by : (o : Option Doing) → doing_of u c ≡ o → Alike c (change_doing f u c o)
    by None none = alike_same c
    by (Some old) found = record {
      branches = λ w b at. (b, at, refl, refl);
      doings = λ w q at. ⊎_elim (λ same. its w q same at)
          (λ other. (q, sym (doing_other u w (f old) old c found other) ∙ at, refl, same_now q.now)) (uid_cases w u);
      lists = λ r. refl;
      telling = refl;
      ties = ties_same c.tree c.roots;
    }
      where
        its : (w : Uid) (q : Doing) → w ≡ u → doing_of w (set_doing u (f old) c) ≡ Some q →
            (p : Doing) × (doing_of w c ≡ Some p) × (p.label ≡ q.label) × SameNow p.now q.now
        its w q same at =
            let is : f old ≡ q = some_is (f old) q
            (sym (doing_put u (f old) old c found) ∙ ap (λ x. doing_of x (set_doing u (f old) c)) (sym same) ∙ at) in
            let s = so old found in (
              old,
              ap (λ x. doing_of x c) same ∙ found,
              sym s.0 ∙ ap (λ (d : Doing). d.label) is,
              subst (λ (d : Doing). SameNow old.now d.now) is s.1,
            )

-- a tree in which nothing that matters changes
pub alike_tree : (c : Coord) (t : Tree) → IsSameTree c.tree t → Alike c (record c { tree = t })
alike_tree c t same = record {
  branches = λ w b at. let x = same.back w b at in (x.0, x.1, x.3, x.4);
  doings = λ w q at. (q, (λ i. cond (sym (same.own w) i) (at_place w.num c.doings) None) ∙ at, refl, same_now q.now);
  lists = same.ends;
  telling = refl;
  ties = record {
    back = λ w z at. let x = same.back w z at in (x.0, x.1, x.2);
    forth = λ w a at. let x = same.forth w a at in (x.0, x.1, x.2);
    own = same.own;
    said = λ r. refl;
    joined = λ r. refl;
  };
}

pub alike_knows : (B : Book) (c v : Coord) → Alike c v → Knows B c → Knows B v
alike_knows B c v a s = record {
  acts = λ w b q at does. let x = a.branches w b at in let y = a.doings w q does in let o = x.0 in let p = y.0 in
      known_as B w o.kind b.kind o.ended b.ended p.label q.label x.2 x.3 y.2 (s.acts w x.0 y.0 x.1 y.1);
  lists = λ r. subst (AreSaid B) (sym (a.lists r)) (s.lists r);
  plans = λ w q m does is. let y = a.doings w q does in let n = y.3 in s.plans w y.0 m y.1 (n.machine m is);
  telling = subst (EachRecord (λ u. is_decided B u ≡ true)) (sym a.telling) s.telling;
  ties = ties_on B.acts B.accesses c.tree v.tree c.roots v.roots a.ties s.ties;
}

pub alike_calls : (B : Book) (c v : Coord) → Alike c v → Calls B c → Calls B v
alike_calls B c v a s w b q at does opened = let x = a.branches w b at in let y = a.doings w q does in let n = y.3 in
    s w x.0 y.0 x.1 y.1 (x.3 ∙ opened) ∙ n.test

-- one that isn't at its commit
pub not_committing : (n : Now) → ((m : Machine) → n ≡ Committing m → ⊥) → is_committing_now n ≡ false
not_committing Idle free = refl
not_committing (Calling s) free = refl
not_committing (Committing m) free = absurd (free m refl)

-- it is at no commit before, and at none after
pub both_free : (m n : Now) → ((x : Machine) → m ≡ Committing x → ⊥) → ((x : Machine) → n ≡ Committing x → ⊥) → SameNow m n
both_free m n before now = record { test = not_committing m before ∙ sym (not_committing n now); machine = λ x is. absurd (now x is) }

-- an action at work goes idle, that isn't at its commit
pub alike_idle : (u : Uid) (c : Coord) → IsFree u c → Alike c (on_doing u (λ (d : Doing). record d { now = Idle }) c)
alike_idle u c free = alike_on u (λ (d : Doing). record d { now = Idle }) c
    (λ d found. (refl, both_free d.now Idle (λ m is. free d m found is) (λ m is. absurd (cc is))))
