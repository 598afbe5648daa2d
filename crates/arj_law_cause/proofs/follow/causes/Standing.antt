-- The actions of a coordinator that is up are those of the journal: each with its path, its kind, and whether it is over.
use Rattle.arj_law_parts.proofs.Words
use Words.{◌≡◌, ◌∙◌, ◌==◌, ◌&&◌, ℕ, true, cond, List, [], ◌∷◌, refl, sym, ap, subst, Option, Some, None, In, in_to, is_some, inl, inr}
use Words.{AllByRecursion, Header, Label, Uid, actor, name, number_of, uid_at, uids_of, at_place, Branch, Doing, Node, Parts, World}
use Words.{branch_named, branch_numbered, branch_of, is_on, is_own, see, is_eq, lookup, nat_cmp, slice_cmp, map, root_of}
use Rattle.arj_law_runs.proofs.Terms
use Terms.{Act, act_in, acts, path, uids, book, Holds, IsGiven, IsGoodCoord, IsKept, IsKnown, IsMemory, IsUp, IsWritten, HasNames}
use Terms.{KnowsUp, found_by, paths_of, begun_tree, path_found}
use Rattle.arj_law_runs.proofs.follow.Gone.{ended_so, is_gone, is_gone_branch}
use Rattle.arj_law_runs.proofs.follow.Halts.{KnowsAll}
use Rattle.arj_law_runs.proofs.follow.Labeled.{KnowsFinds, label_there, place_there}
use Rattle.arj_law_runs.proofs.journal.{Models.its_acts, Models.its_sound, Models.named_in, Ties.named_label}
use Rattle.arj_law_runs.proofs.calls.CoordKnown.{root_own}
use Rattle.arj_law_runs.proofs.kept.Walked.{same_number}
use Rattle.arj_law_runs.specs.journal.Knows.{KnowsNode}
use Rattle.arj_law_runs.specs.journal.Laws.{AreDistinct, AreFormed}
use Rattle.arj_model.specs.Actions.{is_over}
use Rattle.arj_model.specs.Refusals.{is_over_act}

some_is : {A : Type 0} (a b : A) → Some a ≡ Some b → a ≡ b
some_is {A} a b is = let k : ◌≡◌ {A = Option A} (Some a) (Some b) = is in cc

all_in : {A : Type 0} (P : A → Type 0) (xs : List A) → AllByRecursion P xs → (x : A) → In x xs → P x
all_in P [] all x i = absurd i
all_in P (y ∷ ys) all x (inl same) = subst P same all.0
all_in P (y ∷ ys) all x (inr i) = all_in P ys all.1 x i

of_place : {A B : Type 0} (f : A → B) (xs : List A) (j : ℕ) (x : A) → at_place j xs ≡ Some x → at_place j (map f xs) ≡ Some (f x)
of_place {A} f xs Words.zero x is = let no_way : ◌≡◌ {A = Option A} None (Some x) = is in absurd (cc no_way)
of_place {A} {B} f xs (Words.suc i) x is = by xs i is
  where
    by : (ys : List A) (i : ℕ) → Words.slice_get ys i ≡ Some x → Words.slice_get (map f ys) i ≡ Some (f x)
    by [] i no_way = let none : ◌≡◌ {A = Option A} None (Some x) = no_way in absurd (cc none)
    by (y ∷ ys) Words.zero here = let same : y ≡ x = cc in ap (λ z. Some (f z)) same
    by (y ∷ ys) (Words.suc i) more = by ys i more

-- an action of the journal and one of a coordinator are one: its label, its Uid, its path, its kind, and whether it is over
pub record IsOne (lines : List Words.Line) (doings : List Doing) (u : Uid) (b : Branch) (a : Act) : Type 0 where
  pub among : In a (acts lines)
  pub uid : a.uid ≡ u
  pub path_is : uids (path (acts lines) a.label) ≡ uids_of b.path
  pub kind_is : a.kind ≡ b.kind
  pub over : is_over lines a ≡ is_some b.ended
  pub doing : Doing
  pub does : at_place (let v = u in v.num) doings ≡ Some doing
  pub label_is : a.label ≡ name doing.label

module _ (hd : Header) (w : World) (h : Holds hd KnowsAll w) (f : Holds hd KnowsFinds w) where
  kept : IsKept (see h.sent w)
  kept = let k = h.holds in k.0

  written : IsWritten (see h.sent w)
  written = kept.1

  acts_are : (let B = book w.lines in B.acts) ≡ acts w.lines
  acts_are = its_acts w.lines written.right

  pub apart : AreDistinct (acts w.lines)
  apart = let s = its_sound w.lines written.right in s.distinct

  pub formed : AreFormed (acts w.lines)
  formed = let s = its_sound w.lines written.right in s.formed

  module _ (k : ℕ) (n : Node) (there : at_place k w.nodes ≡ Some n) (t : Parts) (live : n.live ≡ Some t) where
    up : KnowsUp (book w.lines) (let d = n.disk in d.intents) t.coord
    up = let s : KnowsNode (book w.lines) k n = written.nodes k n there in s.live t live

    its : (let good = kept.0 in IsUp good.0 h.sent w.labels k (let d = n.disk in d.inc) t)
    its = let good = kept.0 in let place = good.1.places k n there in
        subst (IsMemory good.0 h.sent w.labels k (let d = n.disk in d.inc)) live place.memory

    names : HasNames t.coord
    names = up.tops.names

    good : (let begun = kept.0 in IsGoodCoord begun.0 (paths_of begun.0) t.coord)
    good = let begun = kept.0 in let world = begun.1 in
        let node = its.good (paths_of begun.0) (begun_tree begun.0 world.begun) (path_found begun.0 world.begun) in node.coord

    pub own_number : (j : ℕ) → is_own (uid_at j t.coord) t.coord.tree ≡ true
    own_number j = λ i. same_number t.coord.tree.node i && same_number t.coord.tree.inc i

    -- who stands under a Uid has it
    pub its_uid : (u : Uid) (b : Branch) → branch_of u t.coord.tree ≡ Some b → actor b.path ≡ u
    its_uid u b found = good.tree.lists.places u b found

    module _ (u : Uid) (b : Branch) (found : branch_of u t.coord.tree ≡ Some b) where
      own : is_own u t.coord.tree ≡ true
      own = (found_by u t.coord.tree b found).0

      at : at_place u.num t.coord.tree.branches ≡ Some b
      at = (found_by u t.coord.tree b found).1

      works : (q : Doing) × (at_place u.num t.coord.doings ≡ Some q)
      works = place_there t.coord.tree.branches t.coord.doings u.num b (sym names.count) at

      known : (let q = works.0 in IsKnown (book w.lines) u b.kind b.ended q.label)
      known = up.knows.acts u b works.0 found ((λ i. cond (own i) (at_place u.num t.coord.doings) None) ∙ works.1)

      abbrev a : Act
      a = known.act

      in_book : In a (let B = book w.lines in B.acts)
      in_book = named_in (let B = book w.lines in B.acts) (name (let q = works.0 in q.label)) a known.named

      its_label : a.label ≡ name (let q = works.0 in q.label)
      its_label = named_label (let B = book w.lines in B.acts) (name (let q = works.0 in q.label)) a known.named

      -- its label was given, for this node
      given : IsGiven w.labels a
      given = all_in (IsGiven w.labels) (let B = book w.lines in B.acts) written.labels a in_book

      place : (let g = given.1 in g.node) ≡ k
      place = given.4 ∙ ap (λ (v : Uid). v.node) known.uid ∙ node_is
        where
          node_is : u.node ≡ k
          node_is = Words.eqb-true u.node t.coord.tree.node
              (Words.and_parts (u.node == t.coord.tree.node) (u.inc == t.coord.tree.inc) own).0 ∙ its.node

      number : number_of given.0 t.coord ≡ Some u.num
      number = by_names (let q = works.0 in q.label) given.0 (sym its_label ∙ sym given.2)
          ∙ (let m = f.holds in m.1) k n t there live u.num (let q = works.0 in q.label)
          (of_place (λ (d : Doing). d.label) t.coord.doings u.num works.0 works.1)
        where
          by_names : (q m : Label) → name q ≡ name m → number_of m t.coord ≡ number_of q t.coord
          by_names q m is = ap (λ z. lookup (λ x. is_eq (slice_cmp nat_cmp z (name x))) t.coord.labels) (sym is)

      found_so : act_in (acts w.lines) a.label ≡ Some a
      found_so = (λ i. act_in (sym acts_are i) (its_label i)) ∙ known.named

      is_over_so : is_over w.lines a ≡ is_some b.ended
      is_over_so = sym (ap (is_over_act w.lines) (ap (act_in (acts w.lines)) given.2 ∙ found_so))
          ∙ ended_so hd w h f given.0 given.1 given.3 n (ap (λ j. at_place j w.nodes) place ∙ there)
          ∙ ap (is_gone given.0) live ∙ ap (λ o. is_gone_branch (branch_numbered t.coord o)) number ∙ ap is_gone_branch at

      -- the action of the journal
      pub one_of : (a : Act) × IsOne w.lines t.coord.doings u b a
      one_of = (
        a,
        record {
          among = subst (In a) acts_are in_book;
          uid = known.uid;
          path_is = (λ i. uids (path (sym acts_are i) a.label))
              ∙ up.knows.ties.paths a b (in_to a (let B = book w.lines in B.acts) in_book)
              (ap (λ v. branch_of v t.coord.tree) known.uid ∙ found);
          kind_is = known.kind;
          over = is_over_so;
          doing = works.0;
          does = works.1;
          label_is = its_label;
        },
      )

    -- the action that stands under a label
    pub named_one : (l : Label) (b : Branch) → branch_named l t.coord ≡ Some b →
        (j : ℕ) × (branch_of (uid_at j t.coord) t.coord.tree ≡ Some b) × (a : Act) × IsOne w.lines t.coord.doings (uid_at j t.coord) b a
        × (act_in (acts w.lines) (name l) ≡ Some a)
    unfolding one_of
    named_one l b is = by (number_of l t.coord) refl is
      where
        by : (o : Option ℕ) → number_of l t.coord ≡ o → branch_numbered t.coord o ≡ Some b →
            (j : ℕ) × (branch_of (uid_at j t.coord) t.coord.tree ≡ Some b) × (a : Act)
            × IsOne w.lines t.coord.doings (uid_at j t.coord) b a × (act_in (acts w.lines) (name l) ≡ Some a)
        by None none no_way = let never : ◌≡◌ {A = Option Branch} None (Some b) = no_way in absurd (cc never)
        by (Some j) its there_at =
            let here : branch_of (uid_at j t.coord) t.coord.tree ≡ Some b
            = (λ i. cond (own_number j i) (at_place j t.coord.tree.branches) None) ∙ there_at in
            let one = one_of (uid_at j t.coord) b here in
            let m = names.named l j its in
            let q = label_there t.coord.doings j m.0 m.1 in
            let o = one.1 in
            let same : o.doing ≡ q.0 = some_is o.doing q.0 (sym o.does ∙ q.1) in (
              j,
              here,
              one.0,
              o,
              ap (act_in (acts w.lines))
                  (sym m.2 ∙ ap name (sym q.2) ∙ ap (λ (d : Doing). name d.label) (sym same) ∙ sym o.label_is)
                  ∙ found_so (uid_at j t.coord) b here,
            )

    -- an action below one of this coordinator's is its own
    pub below_one : (a : Act) (u : Uid) → In a (acts w.lines) → is_on (uids (path (acts w.lines) a.label)) u ≡ true →
        is_own u t.coord.tree ≡ true → (b : Branch) × (branch_of a.uid t.coord.tree ≡ Some b)
    below_one a u i on own =
        let j = subst (In a) (sym acts_are) i in
        up.knows.ties.homes a u (in_to a (let B = book w.lines in B.acts) j)
        ((λ x. is_on (uids (path (acts_are x) a.label)) u) ∙ on) own

    -- the root of an action is this coordinator's
    pub root_is_own : (u : Uid) (b : Branch) → branch_of u t.coord.tree ≡ Some b → is_own (root_of b.path) t.coord.tree ≡ true
    root_is_own u b found = let begun = kept.0 in let world = begun.1 in
        root_own begun.0 (paths_of begun.0) (begun_tree begun.0 world.begun) t.coord good u b found
