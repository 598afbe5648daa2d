-- An action has ended by the journal exactly where its node has no open one under its label.
use Rattle.arj_law_parts.proofs.Words
use Words.{◌≡◌, ◌∙◌, ◌==◌, ◌&&◌, ◌||◌, not, ℕ, zero, suc, Bool, true, false, cond, List, [], ◌∷◌, ◌++◌, refl, sym, ap, subst, Option, Some}
use Words.{None}
use Words.{is_some, if◌then◌else◌, bytes_eq, bytes_eq-Decides, in_find, in_to, In, eqb-true, uid_eq, uid_same, is_on, map-append}
use Words.{AllByRecursion}
use Words.{Label, name, Uid, End, Kind, Doing, number_of, uid_at, Parts, Node, at_place, Branch, branch_of, branch_named, is_own}
use Words.{Labelled, World, Header, see, is_serial, branch_numbered, lookup, is_eq, slice_cmp, nat_cmp, slice_get, map, inl, inr}
use Words.ending
use Rattle.arj_law_runs.proofs.Terms
use Terms.{Act, act_in, acts, path, uids, upwards, Book, book, Holds, IsEnd, IsGiven, IsKept, IsKnown, IsMemory, IsUp, IsWritten, HasNames}
use Terms.{label_at}
use Rattle.arj_law_parts.specs.steps.Named.{names_of}
use Rattle.arj_law_runs.proofs.follow.Halts.{KnowsAll, is_alive}
use Rattle.arj_law_runs.proofs.follow.Labeled.{KnowsFinds, label_there, place_there}
use Rattle.arj_law_runs.proofs.journal.{Begun.by_name, Closed.one_act, Models.is_book, Models.its_acts, Models.its_sound}
use Rattle.arj_law_runs.proofs.kept.Walked.{same_number}
use Rattle.arj_law_runs.specs.journal.Book.{is_over as over_in}
use Rattle.arj_law_runs.specs.journal.Knows.{KnowsNode, KnowsUp}
use Rattle.arj_model.specs.Actions.{halts, is_halted}
use Rattle.arj_model.specs.Refusals.{has_ended, is_over_act}

-- no open action is there
abbrev pub is_gone_branch : Option Branch → Bool
is_gone_branch None = true
is_gone_branch (Some b) = is_some b.ended

-- a node has no open action under the label
abbrev pub is_gone : Label → Option Parts → Bool
is_gone l None = true
is_gone l (Some t) = is_gone_branch (branch_named l t.coord)

at_end : (us : List Uid) (u : Uid) → is_on (us ++ u ∷ []) u ≡ true
at_end [] u = λ i. uid_same u i || false
at_end (v ∷ us) u = by (uid_eq v u) (at_end us u)
  where
    by : (b : Bool) → is_on (us ++ u ∷ []) u ≡ true → (b || is_on (us ++ u ∷ []) u) ≡ true
    by true more = refl
    by false more = more

-- an action is on its own path
own_on : (xs : List Act) (l : List ℕ) (a : Act) → act_in xs l ≡ Some a → is_on (uids (path xs l)) a.uid ≡ true
own_on [] l a is = let no_way : ◌≡◌ {A = Option Act} None (Some a) = is in absurd (cc no_way)
own_on (x ∷ xs) l a is = by (bytes_eq x.label l) is (own_on xs l a)
  where
    by : (b : Bool) → cond b (Some x) (act_in xs l) ≡ Some a → (act_in xs l ≡ Some a → is_on (uids (path xs l)) a.uid ≡ true) →
        is_on (uids (cond b (upwards x.parent x.kind (path xs) ++ x ∷ []) (path xs l))) a.uid ≡ true
    by true e ih = let same : x ≡ a = cc e in
        ap (λ us. is_on us a.uid) (map-append (λ (y : Act). y.uid) (upwards x.parent x.kind (path xs)) (x ∷ []))
        ∙ subst (λ (y : Act). is_on (uids (upwards x.parent x.kind (path xs)) ++ x.uid ∷ []) y.uid ≡ true) same
        (at_end (uids (upwards x.parent x.kind (path xs))) x.uid)
    by false e ih = ih e

some_is : {A : Type 0} {a b : A} → Some a ≡ Some b → a ≡ b
some_is {A} {a} {b} is = let k : ◌≡◌ {A = Option A} (Some a) (Some b) = is in cc

all_in : {A : Type 0} (P : A → Type 0) (xs : List A) → AllByRecursion P xs → (x : A) → In x xs → P x
all_in P [] all x i = absurd i
all_in P (y ∷ ys) all x (inl same) = subst P same all.0
all_in P (y ∷ ys) all x (inr i) = all_in P ys all.1 x i

of_place : {A B : Type 0} (f : A → B) (xs : List A) (j : ℕ) (x : A) → at_place j xs ≡ Some x → at_place j (map f xs) ≡ Some (f x)
of_place {A} f xs zero x is = let no_way : ◌≡◌ {A = Option A} None (Some x) = is in absurd (cc no_way)
of_place {A} f xs (suc i) x is = by xs i is
  where
    by : (ys : List A) (i : ℕ) → slice_get ys i ≡ Some x → slice_get (map f ys) i ≡ Some (f x)
    by [] i no_way = let none : ◌≡◌ {A = Option A} None (Some x) = no_way in absurd (cc none)
    by (y ∷ ys) zero here = let same : y ≡ x = cc in ap (λ z. Some (f z)) same
    by (y ∷ ys) (suc i) more = by ys i more

-- an end by the book, as the coordinator has it
end_so : (B : Book) (u : Uid) (k : Kind) (o : Option End) → IsEnd B u k o → over_in B u ≡ is_some o
end_so B u k None is = is.0
end_so B u k (Some ending.Abort) is = by (is_on B.committed u)
  where
    by : (b : Bool) → (b || (is_on B.aborted u || is_on B.ended u)) ≡ true
    by true = refl
    by false = λ i. is i || is_on B.ended u
end_so B u k (Some ending.Commit) is = by (is_serial k) is
  where
    last : (x y : Bool) → (x || (y || true)) ≡ true
    last true y = refl
    last false true = refl
    last false false = refl

    by : (b : Bool) → (if b then is_on B.ended u else is_on B.committed u) ≡ true →
        (is_on B.committed u || (is_on B.aborted u || is_on B.ended u)) ≡ true
    by true e = (λ i. is_on B.committed u || (is_on B.aborted u || e i)) ∙ last (is_on B.committed u) (is_on B.aborted u)
    by false e = λ i. e i || (is_on B.aborted u || is_on B.ended u)

module _ (hd : Header) (w : World) (h : Holds hd KnowsAll w) (f : Holds hd KnowsFinds w) (l : Label) (g : Labelled)
    (given : label_at l w.labels ≡ Some g)
    (n : Node) (there : at_place g.node w.nodes ≡ Some n) where
  kept : IsKept (see h.sent w)
  kept = let k = h.holds in k.0

  written : IsWritten (see h.sent w)
  written = kept.1

  abbrev B : Book
  B = book w.lines

  acts_are : (let X = book w.lines in X.acts) ≡ acts w.lines
  acts_are = its_acts w.lines written.right

  -- the action of the label
  abbrev begun : (a : Act) × (act_in (let X = book w.lines in X.acts) (name l) ≡ Some a) × (is_serial a.kind ≡ g.serial)
  begun = written.begun l g given

  abbrev a : Act
  a = begun.0

  found : In a (let X = book w.lines in X.acts) × (bytes_eq a.label (name l) ≡ true)
  found = in_find (λ (x : Act). bytes_eq x.label (name l)) a (let X = book w.lines in X.acts) begun.1

  label_is : a.label ≡ name l
  label_is = (bytes_eq-Decides a.label (name l)).0 found.1

  among : In a (acts w.lines)
  among = subst (In a) acts_are found.0

  node_is : (let u = a.uid in u.node) ≡ g.node
  node_is =
      let i = all_in (IsGiven w.labels) (let X = book w.lines in X.acts) written.labels a found.0 in
      let same : i.1 ≡ g = some_is (sym i.3 ∙ by_name w.labels i.0 l (i.2 ∙ label_is) ∙ given) in
      sym i.4 ∙ ap (λ (x : Labelled). x.node) same

  knows : KnowsNode (book w.lines) g.node n
  knows = written.nodes g.node n there

  by_journal : has_ended w.lines (name l) ≡ (over_in (book w.lines) a.uid || not (is_alive (Some n) (let u = a.uid in u.inc)))
  by_journal =
      ap (λ xs. is_over_act w.lines (act_in xs (name l))) (sym acts_are) ∙ ap (is_over_act w.lines) begun.1
      ∙ (λ i. (let b = is_book w.lines written.right in b.over a (in_to a (acts w.lines) among)) i || is_halted (halts w.lines) a)
      ∙ ap (λ x. over_in (book w.lines) a.uid || x) ((let k = h.holds in k.1) a among
      ∙ ap (λ j. not (is_alive (at_place j w.nodes) (let u = a.uid in u.inc))) node_is
      ∙ ap (λ (o : Option Node). not (is_alive o (let u = a.uid in u.inc))) there)

  or_true : (x : Bool) → (x || true) ≡ true
  or_true true = refl
  or_true false = refl

  or_false : (x : Bool) → (x || false) ≡ x
  or_false true = refl
  or_false false = refl

  -- the node is up
  module _ (t : Parts) (live : n.live ≡ Some t) where
    up : KnowsUp (book w.lines) (let d = n.disk in d.intents) t.coord
    up = knows.live t live

    its : (let good = kept.0 in IsUp good.0 h.sent w.labels g.node (let d = n.disk in d.inc) t)
    its = let good = kept.0 in let place = good.1.places g.node n there in
        subst (IsMemory good.0 h.sent w.labels g.node (let d = n.disk in d.inc)) live place.memory

    its_node : t.coord.tree.node ≡ g.node
    its_node = its.node

    its_inc : t.coord.tree.inc ≡ (let d = n.disk in d.inc)
    its_inc = its.inc

    names : HasNames t.coord
    names = up.tops.names

    own_number : (j : ℕ) → is_own (uid_at j t.coord) t.coord.tree ≡ true
    own_number j = λ i. same_number t.coord.tree.node i && same_number t.coord.tree.inc i

    -- whoever stands under the label is the action
    same_action : (j : ℕ) (b : Branch) → number_of l t.coord ≡ Some j → at_place j t.coord.tree.branches ≡ Some b → a.uid ≡ uid_at j t.coord
    same_action j b number at =
        let m = names.named l j number in
        let q = label_there t.coord.doings j m.0 m.1 in
        let k = up.knows.acts (uid_at j t.coord) b q.0
        ((λ i. cond (own_number j i) (at_place j t.coord.tree.branches) None) ∙ at)
        ((λ i. cond (own_number j i) (at_place j t.coord.doings) None) ∙ q.1) in
        let same : a ≡ k.act = some_is (sym begun.1
        ∙ ap (act_in (let X = book w.lines in X.acts)) (sym m.2 ∙ ap name (sym q.2)) ∙ k.named) in
        ap (λ (x : Act). x.uid) same ∙ k.uid

    gone_if : (o : Option ℕ) → number_of l t.coord ≡ o → ((let d = n.disk in d.inc) == (let u = a.uid in u.inc)) ≡ false →
        is_gone_branch (branch_numbered t.coord o) ≡ true
    gone_if None none past = refl
    gone_if (Some j) number past = by (at_place j t.coord.tree.branches) refl
      where
        by : (o : Option Branch) → at_place j t.coord.tree.branches ≡ o → is_gone_branch o ≡ true
        by None at = refl
        by (Some b) at =
            let inc : (let u = a.uid in u.inc) ≡ (let d = n.disk in d.inc)
            = ap (λ (u : Uid). u.inc) (same_action j b number at) ∙ its_inc in
            let no_way : true ≡ false = sym (same_number (let d = n.disk in d.inc)) ∙ ap (λ i. (let d = n.disk in d.inc) == i) (sym inc)
            ∙ past in
            absurd (cc no_way)

    -- an action of this incarnation stands under its label
    module _ (now : ((let d = n.disk in d.inc) == (let u = a.uid in u.inc)) ≡ true) where
      inc_is : (let u = a.uid in u.inc) ≡ t.coord.tree.inc
      inc_is = sym (eqb-true (let d = n.disk in d.inc) (let u = a.uid in u.inc) now) ∙ sym its_inc

      own : is_own a.uid t.coord.tree ≡ true
      own = (λ i. ((let u = a.uid in u.node) == (its_node ∙ sym node_is) i) && ((let u = a.uid in u.inc) == (sym inc_is) i))
          ∙ (λ i. same_number (let u = a.uid in u.node) i && same_number (let u = a.uid in u.inc) i)

      stands : (b : Branch) × (branch_of a.uid t.coord.tree ≡ Some b)
      stands = up.knows.ties.homes a a.uid (in_to a (let X = book w.lines in X.acts) found.0)
          (ap (λ m. is_on (uids (path (let X = book w.lines in X.acts) m)) a.uid) label_is
          ∙ own_on (let X = book w.lines in X.acts) (name l) a begun.1) own

      placed : at_place (let u = a.uid in u.num) t.coord.tree.branches ≡ Some stands.0
      placed = (λ i. cond (sym own i) (at_place (let u = a.uid in u.num) t.coord.tree.branches) None) ∙ stands.1

      works : (q : Doing) × (at_place (let u = a.uid in u.num) t.coord.doings ≡ Some q)
      works = place_there t.coord.tree.branches t.coord.doings (let u = a.uid in u.num) stands.0 (sym names.count) placed

      known : (let b = stands.0 in let q = works.0 in IsKnown (book w.lines) a.uid b.kind b.ended q.label)
      known = up.knows.acts a.uid stands.0 works.0 stands.1
          ((λ i. cond (own i) (at_place (let u = a.uid in u.num) t.coord.doings) None) ∙ works.1)

      same : known.act ≡ a
      same =
          let k = in_find (λ (x : Act). bytes_eq x.label (name (let q = works.0 in q.label))) known.act (let X = book w.lines in
          X.acts) known.named in
          one_act (acts w.lines) (let s = its_sound w.lines written.right in s.distinct) known.act a (subst
          (In known.act) acts_are k.0) among
          known.uid

      its_label : name (let q = works.0 in q.label) ≡ name l
      its_label =
          let k = in_find (λ (x : Act). bytes_eq x.label (name (let q = works.0 in q.label))) known.act (let X = book w.lines in
          X.acts) known.named in
          sym ((bytes_eq-Decides known.act.label (name (let q = works.0 in q.label))).0 k.1) ∙ ap (λ (x : Act). x.label) same ∙ label_is

      number : number_of l t.coord ≡ Some (let u = a.uid in u.num)
      number = by_names (let q = works.0 in q.label) l its_label
          ∙ (let m = f.holds in m.1) g.node n t there live (let u = a.uid in u.num) (let q = works.0 in q.label) named_at
        where
          named_at : at_place (let u = a.uid in u.num) (names_of t.coord) ≡ Some (let q = works.0 in q.label)
          named_at = of_place (λ (d : Doing). d.label) t.coord.doings (let u = a.uid in u.num) works.0 works.1

          by_names : (q m : Label) → name q ≡ name m → number_of m t.coord ≡ number_of q t.coord
          by_names q m is = ap (λ z. lookup (λ x. is_eq (slice_cmp nat_cmp z (name x))) t.coord.labels) (sym is)

      gone_is : is_gone_branch (branch_named l t.coord) ≡ over_in (book w.lines) a.uid
      gone_is = ap (λ o. is_gone_branch (branch_numbered t.coord o)) number ∙ ap is_gone_branch placed
          ∙ sym (end_so (book w.lines) a.uid (let b = stands.0 in b.kind) (let b = stands.0 in b.ended) known.end)

    up_so : (over_in (book w.lines) a.uid || not (is_alive (Some n) (let u = a.uid in u.inc))) ≡ is_gone_branch (branch_named l t.coord)
    up_so = (λ i. over_in (book w.lines) a.uid || not (is_some (live i) && ((let d = n.disk in d.inc) == (let u = a.uid in u.inc))))
        ∙ by ((let d = n.disk in d.inc) == (let u = a.uid in u.inc)) refl
      where
        by : (b : Bool) → ((let d = n.disk in d.inc) == (let u = a.uid in u.inc)) ≡ b →
            (over_in (book w.lines) a.uid || not ((let d = n.disk in d.inc) == (let u = a.uid in
            u.inc))) ≡ is_gone_branch (branch_named l t.coord)
        by true now = (λ i. over_in (book w.lines) a.uid || not (now i)) ∙ or_false (over_in (book w.lines) a.uid) ∙ sym (gone_is now)
        by false past = (λ i. over_in (book w.lines) a.uid || not (past i)) ∙ or_true (over_in (book w.lines) a.uid)
            ∙ sym (gone_if (number_of l t.coord) refl past)

  pub ended_so : has_ended w.lines (name l) ≡ is_gone l n.live
  ended_so = by_journal ∙ by n.live refl
    where
      by : (o : Option Parts) → n.live ≡ o → (over_in (book w.lines) a.uid || not (is_alive (Some n) (let u = a.uid in
          u.inc))) ≡ is_gone l n.live
      by None down = (λ i. over_in (book w.lines) a.uid || not (is_some (down i) && ((let d = n.disk in d.inc) == (let u = a.uid in
          u.inc))))
          ∙ or_true (over_in (book w.lines) a.uid) ∙ sym (ap (is_gone l) down)
      by (Some t) live = up_so t live ∙ sym (ap (is_gone l) live)

  -- the action that the label is of
  pub its_action : (x : Act) × (act_in (acts w.lines) (name l) ≡ Some x) × ((let u = x.uid in u.node) ≡ g.node)
      × (is_serial x.kind ≡ g.serial)
  its_action = (begun.0, ap (λ xs. act_in xs (name l)) (sym acts_are) ∙ begun.1, node_is, begun.2)
