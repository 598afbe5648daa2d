-- An action begins: its path, and what it begins in.
use Rattle.arj_law_parts.proofs.Words
use Words.{◌≡◌, ◌&&◌, ◌==◌, arith, ℕ, zero, suc, ◌+◌, List, [], ◌∷◌, ◌++◌, length, map, Bool, true, false, cond, slice_get, Option, Some}
use Words.{None, refl, sym, ◌∙◌, ap, subst, length-append, eqb-true, option_map, and_parts, map-append, is_on, in_from, in_to, path_is}
use Words.{Kind, Label, Uid, name, path_of, tops_of, uids_of, actor, Coord, Doing, doing_of, number_of, begin_reasons, begin_refusal}
use Words.{branch_named, branch_numbered, parent_of, refused_by, Branch, at_place, branch_of, next_uid, path_below, Labelled}
use Words.kind
use Rattle.arj_law_runs.proofs.Terms
use Terms.{HasNames, Act, act_in, path, path_in, uids, upwards, Action, AreBegun, MayBegin, action_of, IsGoodCoord, IsTree, Paths}
use Terms.{path_length, serial_alone, behind, off, found_by, MayGive, Book, is_over, Calls, IsKnown, Knows, BeginsIn}
use Rattle.arj_law_runs.proofs.journal.{Coords.waits_free, Likes.not_committing, Models.named_in, Opens.none_of, Ties.named_label}
use Rattle.arj_law_runs.proofs.kept.Walked.{same_number}

-- the path above an action that begins
abbrev pub above_of : Kind → Option Branch → List Uid
above_of kind.Nested (Some b) = uids_of b.path
above_of kind.Constituent (Some b) = uids_of b.path
above_of k o = []

pub new_path : (begun : List Action) → AreBegun begun → (k : Kind) (o : Option Branch) (u : Uid) → MayBegin begun k o →
    uids_of (path_below k o u) ≡ above_of k o ++ u ∷ []
new_path begun all k o u may = by k o may
  where
    longer : (us : List Uid) → length (us ++ u ∷ []) ≡ length us + 1
    longer us = length-append us (u ∷ [])

    alone : uids_of (path_of (u ∷ []) 1) ≡ u ∷ []
    alone = let m = path_is (u ∷ []) 1 (omega arith) (omega arith) (omega arith) (omega arith) (omega arith) in m.has

    by : (k' : Kind) (o' : Option Branch) → MayBegin begun k' o' → uids_of (path_below k' o' u) ≡ above_of k' o' ++ u ∷ []
    by kind.Nested None m = absurd m
    by kind.Nested (Some b) m =
        let us : List Uid = uids_of b.path in
        let long = longer us in
        let made = path_is (us ++ u ∷ []) (tops_of b.path) (omega (arith, long)) (omega (arith, long, m.2)) b.path.one_top b.path.two_tops
        (omega (arith, long, b.path.within, path_length b.path)) in
        made.has
    by kind.Constituent None m = absurd m
    by kind.Constituent (Some b) m =
        let up_alone = serial_alone begun all (action_of b) (in_from (action_of b) begun m.0) m.1 in
        let us : List Uid = uids_of b.path in
        let long : length (us ++ u ∷ []) ≡ 2 = longer us ∙ ap (λ vs. length vs + 1) up_alone.0 in
        let made = path_is (us ++ u ∷ []) 2 (omega (arith, long)) (omega (arith, long)) (omega arith) (omega arith) (omega (arith, long)) in
        made.has
    by kind.Top None m = alone
    by kind.Top (Some b) m = alone
    by kind.Serial None m = alone
    by kind.Serial (Some b) m = alone
    by kind.Independent None m = alone
    by kind.Independent (Some b) m = alone

-- what a label stands for, and its action at work
pub record IsNamed (c : Coord) (p : Label) (b : Branch) : Type 0 where
  pub act : Uid
  pub doing : Doing
  pub found : branch_of act c.tree ≡ Some b
  pub does : doing_of act c ≡ Some doing
  pub name_is : name doing.label ≡ name p

pub named_at : (c : Coord) → HasNames c → (p : Label) (b : Branch) → branch_named p c ≡ Some b → IsNamed c p b
named_at c names p b is = by (number_of p c) refl is
  where
    got : (ds : List Doing) (j : ℕ) (m : Label) → slice_get (map (λ (x : Doing). x.label) ds) j ≡ Some m →
        (x : Doing) × (slice_get ds j ≡ Some x) × (x.label ≡ m)
    got [] j m at = absurd (cc at)
    got (x ∷ ds) zero m at = (x, refl, cc at)
    got (x ∷ ds) (suc j) m at = got ds j m at

    placed : (j : ℕ) (m : Label) → at_place j (map (λ (x : Doing). x.label) c.doings) ≡ Some m →
        (x : Doing) × (at_place j c.doings ≡ Some x) × (x.label ≡ m)
    placed zero m at = absurd (cc at)
    placed (suc j) m at = got c.doings j m at

    by : (o : Option ℕ) → number_of p c ≡ o → branch_numbered c o ≡ Some b → IsNamed c p b
    by None at f = absurd (cc f)
    by (Some j) at f =
        let n = names.named p j at in
        let x = placed j n.0 n.1 in
        record {
          act = record { node = c.tree.node; inc = c.tree.inc; num = j };
          doing = x.0;
          found = (λ i. cond (same_number c.tree.node i && same_number c.tree.inc i) (at_place j c.tree.branches) None) ∙ f;
          does = (λ i. cond (same_number c.tree.node i && same_number c.tree.inc i) (at_place j c.doings) None) ∙ x.1;
          name_is = ap name x.2 ∙ n.2;
        }

module _ (k : ℕ) (begun : List Action) (all : AreBegun begun) (paths : Paths) (tree : IsTree paths) (B : Book) (c : Coord)
    (good : IsGoodCoord begun paths c) (knows : Knows B c) (calls : Calls B c) (names : HasNames c) where
  -- the book's action of a label
  known_at : (p : Label) (b : Branch) → (n : IsNamed c p b) → IsKnown B (let u = n.act in u) b.kind b.ended p
  known_at p b n = let s = knows.acts n.act b n.doing n.found n.does in
      record { act = s.act; named = ap (act_in B.acts) (sym n.name_is) ∙ s.named; uid = s.uid; kind = s.kind; end = s.end }

  label_path : (p : Label) (b : Branch) → branch_named p c ≡ Some b → uids (path B.acts (name p)) ≡ uids_of b.path
  label_path p b is =
      let n = named_at c names p b is in
      let s = known_at p b n in
      ap (λ l. uids (path B.acts l)) (sym (named_label B.acts (name p) s.act s.named)) ∙ knows.ties.paths s.act b
      (in_to s.act B.acts (named_in B.acts (name p) s.act s.named)) (ap (λ u. branch_of u c.tree) s.uid ∙ n.found)

  -- what an action begins in is open, and its commit isn't called
  pub begins_in : (how : Kind) (parent : Option Label) → begin_refusal how c parent ≡ None → BeginsIn B (next_uid c.tree) parent
  begins_in how None none = tt
  begins_in how (Some p) none = by (branch_named p c) refl none
    where
      by : (f : Option Branch) → branch_named p c ≡ f → refused_by (begin_reasons how) c f ≡ None → BeginsIn B (next_uid c.tree) (Some p)
      by None is e = absurd (cc e)
      by (Some b) is e =
          let first = off (begin_reasons how b c) e in
          let second = off (behind (begin_reasons how b c)) first.1 in
          let n = named_at c names p b is in
          let s = known_at p b n in
          let open_b : b.ended ≡ None = none_of b.ended first.0 in
          let end = subst (λ o. IsKnown B (let u = n.act in u) b.kind o p) open_b s in
          let q = n.doing in
          let i = end.end in
          let free = waits_free k begun all paths tree c b second.0 in
          let actor_is : actor b.path ≡ n.act = good.tree.lists.places n.act b n.found in
          let own = (found_by n.act c.tree b n.found).0 in
          let parts = and_parts (let u = n.act in u.node == c.tree.node) (let u = n.act in u.inc == c.tree.inc) own in (
            s.act,
            record { named = s.named; unended = ap (λ u. is_over B u) s.uid ∙ i.0; unfound = ap (is_on B.found) s.uid ∙ i.1 },
            ap (is_on B.called) s.uid ∙ calls n.act b n.doing n.found n.does open_b
                ∙ not_committing q.now (λ m at. free q m (ap (λ u. doing_of u c) actor_is ∙ n.does) at),
            ap (λ (u : Uid). u.node) s.uid ∙ eqb-true (let u = n.act in u.node) c.tree.node parts.0,
            ap (λ (u : Uid). u.inc) s.uid ∙ eqb-true (let u = n.act in u.inc) c.tree.inc parts.1,
          )

  -- the path of the new action
  pub new_path_is : (labels : List (Label × Labelled)) (at : ℕ) (how : Kind) (parent : Option Label) (new : Act) →
      new.uid ≡ next_uid c.tree → new.kind ≡ how → new.parent ≡ option_map name parent → MayGive labels at how parent →
      begin_refusal how c parent ≡ None → MayBegin begun how (parent_of parent c)
      → uids (path_in B.acts new) ≡ uids_of (path_below how (parent_of parent c) (next_uid c.tree))
  new_path_is labels at how parent new uid kind_is parent_is give free may =
      map-append (λ (x : Act). x.uid) (upwards new.parent new.kind (path B.acts)) (new ∷ [])
      ∙ (λ i. uids (upwards (parent_is i) (kind_is i) (path B.acts)) ++ uid i ∷ [])
      ∙ ap (λ us. us ++ next_uid c.tree ∷ []) (above how parent give free)
      ∙ sym (new_path begun all how (parent_of parent c) (next_uid c.tree) may)
    where
      no_top : {A : Type 0} (x : Bool) → kind.Top ≡ cond x kind.Constituent kind.Nested → A
      no_top true is = absurd (cc is)
      no_top false is = absurd (cc is)

      no_serial : {A : Type 0} (x : Bool) → kind.Serial ≡ cond x kind.Constituent kind.Nested → A
      no_serial true is = absurd (cc is)
      no_serial false is = absurd (cc is)

      nested : (p : Label) (f : Option Branch) → branch_named p c ≡ f → refused_by (begin_reasons kind.Nested) c f ≡ None →
          uids (path B.acts (name p)) ≡ above_of kind.Nested f
      nested p None is off = absurd (cc off)
      nested p (Some b) is off = label_path p b is

      constituent : (p : Label) (f : Option Branch) → branch_named p c ≡ f → refused_by (begin_reasons kind.Constituent) c f ≡ None →
          uids (path B.acts (name p)) ≡ above_of kind.Constituent f
      constituent p None is off = absurd (cc off)
      constituent p (Some b) is off = label_path p b is

      above : (h : Kind) (q : Option Label) → MayGive labels at h q → begin_refusal h c q ≡ None →
          uids (upwards (option_map name q) h (path B.acts)) ≡ above_of h (parent_of q c)
      above kind.Top None g f = refl
      above kind.Top (Some p) g f = no_top (let x = g.0 in x.serial) g.3
      above kind.Serial None g f = refl
      above kind.Serial (Some p) g f = no_serial (let x = g.0 in x.serial) g.3
      above kind.Independent None g f = absurd g
      above kind.Independent (Some p) g f = refl
      above kind.Nested None g f = absurd g
      above kind.Nested (Some p) g f = nested p (branch_named p c) refl f
      above kind.Constituent None g f = absurd g
      above kind.Constituent (Some p) g f = constituent p (branch_named p c) refl f
