-- As a commit is called each object of its plan has a grant that counts, of a top of its root, and names the least one of these; and by the
-- journal the action's unit uses it.
use Rattle.arj_law_parts.proofs.Words
use Words.{⊤, ◌≡◌, ◌≢◌, ◌⊎◌, ◌≤◌, ◌∙◌, ◌==◌, ◌&&◌, ◌||◌, ◌++◌, not, nat_le, ℕ, Bool, true, false, cond, List, [], ◌∷◌, map, filter, min}
use Words.{Option, Some}
use Words.{None, refl, sym, ap, subst, inl, inr, ⊎_elim, arith, nat_tests, and_parts, eqb-true, list_any, or_cases, is_some, in_filter}
use Words.{in_map}
use Words.{AllByRecursion, Contains, In, in_from, in_to, uid_eq, uid_is, uid_same, is_on, first_uid, last_uid, uids_of, Kind, Label, Path}
use Words.{Uid}
use Words.{actor, top_of, Header, Node, Parts, Post, Seen, Start, Known as KnownOf, Used, Coord, Doing, Grant, Joined, Root, Said, counts}
use Words.{counts_grant, is_called, is_constituent_branch, is_kept_top, is_retained, kept_of, least_grant, least_of, no_root, objects_in}
use Words.{Plan, End, append-nil, commit_reasons, first_reason, has_open_child, refusal_up, refused_by, sibling_waits, waits_above}
use Words.{waits_below}
use Words.{plan_for, retained_in, root_at, said_in, second_uid, survives, top_uses, used_of, joined_in, last_req, doing_of}
use Words.{is_committing_now}
use Words.{Committing, Branch, branch_of, branch_named, is_committed, is_merged, root_of, is_own, number_set, is_nested, is_serial}
use Words.{is_constituent}
use Words.{is_eq, nat_cmp, Ordering, Less, Equal, Greater, match_ordering, binding_number, Naming}
use Words.input
use Words.kind
use Words.list
use Rattle.arj_law_lock_view.proofs.Terms
use Terms.{IsGranted, KnowsGrants, IsSpent, IsJoin, IsIncluded, KnowsKept, Tests, Passes}
use Terms.{action_of, paths_of, begun_tree, surviving, retained}
use Rattle.arj_law_lock_view.proofs.facts.{Grants.grants_keep, Kept.Place, LowGrants.map_in}
use Rattle.arj_law_lock_view.proofs.records.{Free.records_run_on, Tops.top_on}
use Rattle.arj_law_lock_view.specs.facts.Grants.{GrantsAreKnown}
use Rattle.arj_law_lock_view.specs.records.{Runs.RecordsRun, Tests.PassesLive}
use Rattle.arj_law_parts.proofs.moves.Happens.{keeps_asked}
use Rattle.arj_law_runs.proofs.resting.PlainRuns.{each_of}
use Rattle.arj_law_runs.proofs.Terms.{own_is}
use Rattle.arj_law_runs.proofs.journal.{Coords.waits_free, Likes.not_committing}
use Rattle.arj_law_runs.proofs.journal.Beginning as Beginning
use Rattle.arj_law_runs.specs.addresses.Binds as binds
use Rattle.arj_law_runs.specs.calls.Bindings.{HasFewBindings}
use Rattle.arj_law_runs.specs.journal.Book.{book}
use Rattle.arj_law_serial.proofs.Terms.{Act, AreDistinct, AreFormed, AreRight, acts, any_in, is_top, its_sound, new_book, path_by, uids}
use Rattle.arj_law_serial.proofs.order.{Order.top_plain, Paths.own_there}
use Rattle.arj_model.specs.CausePends.{unit_uses}
use Rattle.arj_law_cause.proofs.confirm.{Granted.AreHad, Granted.IsHad, Granted.its_grants, Had.HadIn, Had.PlanSo, Had.UsesIn}
use Rattle.arj_law_cause.proofs.confirm.{Had.WasHad, Reached.Reached, Reached.reached_has, Survivors.committed_by, Survivors.its_act}
use Rattle.arj_law_cause.proofs.confirm.{Survivors.upper_kind, Survivors.uses_there, Uses.unit_itself, Uses.unit_of, Using.act_roots}
use Rattle.arj_law_cause.proofs.confirm.Placed as placed
use Rattle.arj_law_cause.proofs.bindings.{Asking.AreAtSo, Asking.IsKeptSo, Asking.IsRootSo, Copies.active_by, Lines.IsLined, Said.KnowsBindings}
use Rattle.arj_law_cause.proofs.bindings.{Said.bindings_keep, Since.IsActiveIn, Since.met_in}
use Rattle.arj_law_cause.proofs.rows.Holders.{one_passes}
use Rattle.arj_law_cause.specs.rows.Early.{IsEarly}
use Rattle.arj_law_lock_view.specs.records.Coords.{IsRecorded}
use Rattle.arj_law_parts.proofs.coordinator.Works.{its_root}
use Rattle.arj_law_parts.proofs.parts.LivesNamed.{keyed_at}
use Words.{Keeping, known_for, no_keeping, nothing_known, unwrap_or, used_with}

-- ---- lists

in_with : (n x : ℕ) (ns : List ℕ) → list.In x (number_set (n ∷ ns)) → (n ≡ x) ⊎ list.In x (number_set ns)
in_with n x ns = by (number_set ns)
  where
    same : (k m : ℕ) → nat_cmp k m ≡ Equal → k ≡ m
    same k m is = grind (arith, is)

    by : (ks : List ℕ) → list.In x (Words.with_number n ks) → (n ≡ x) ⊎ list.In x ks
    by [] (inl is) = inl is
    by [] (inr i) = absurd i
    by (k ∷ ks) i = each (nat_cmp n k) refl (by ks) i
      where
        each : (o : Ordering) → nat_cmp n k ≡ o → (list.In x (Words.with_number n ks) → (n ≡ x) ⊎ list.In x ks) →
            list.In x (match_ordering o (n ∷ k ∷ ks) (k ∷ ks) (k ∷ Words.with_number n ks)) → (n ≡ x) ⊎ list.In x (k ∷ ks)
        each Less is ih (inl it) = inl it
        each Less is ih (inr i) = inr i
        each Equal is ih i = inr i
        each Greater is ih (inl it) = inr (inl it)
        each Greater is ih (inr i) = ⊎_elim {C = (n ≡ x) ⊎ list.In x (k ∷ ks)} (λ it. inl it) (λ j. inr (inr j)) (ih i)

pub in_set : (x : ℕ) (ns : List ℕ) → list.In x (number_set ns) → list.In x ns
in_set x [] i = i
in_set x (n ∷ ns) i = ⊎_elim {C = list.In x (n ∷ ns)} (λ it. inl it) (λ j. inr (in_set x ns j)) (in_with n x ns i)

in_both : {A : Type 0} (a : A) (xs ys : List A) → list.In a (xs ++ ys) → list.In a xs ⊎ list.In a ys
in_both a [] ys i = inr i
in_both a (x ∷ xs) ys (inl is) = inl (inl is)
in_both a (x ∷ xs) ys (inr i) = ⊎_elim {C = list.In a (x ∷ xs) ⊎ list.In a ys} (λ l. inl (inr l)) (λ r. inr r) (in_both a xs ys i)

pub kept_in : {A : Type 0} (p : A → Bool) (x : A) (xs : List A) → list.In x xs → p x ≡ true → list.In x (filter p xs)
kept_in p x [] i is = absurd i
kept_in {A} p x (y ∷ ys) i is = by (p y) refl (kept_in p x ys) i
  where
    by : (b : Bool) → p y ≡ b → (list.In x ys → p x ≡ true → list.In x (filter p ys)) → (y ≡ x) ⊎ list.In x ys →
        list.In x (cond b (y ∷ filter p ys) (filter p ys))
    by true e ih (inl same) = inl same
    by true e ih (inr j) = inr (ih j is)
    by false e ih (inl same) = let no_way : true ≡ false = sym (ap p same ∙ is) ∙ e in absurd (cc no_way)
    by false e ih (inr j) = ih j is

-- the least of some numbers is one of them
least_among : (n : ℕ) (ns : List ℕ) → list.In (least_of (n ∷ ns)) (n ∷ ns)
least_among n [] = inl refl
least_among n (m ∷ ns) = by (nat_le n (least_of (m ∷ ns))) refl (least_among m ns)
  where
    left : (a b : ℕ) → nat_le a b ≡ true → min a b ≡ a
    left a b is = grind (arith, is)

    right : (a b : ℕ) → nat_le a b ≡ false → min a b ≡ b
    right a b is = grind (arith, is)

    by : (c : Bool) → nat_le n (least_of (m ∷ ns)) ≡ c → list.In (least_of (m ∷ ns)) (m ∷ ns) →
        list.In (min n (least_of (m ∷ ns))) (n ∷ m ∷ ns)
    by true is ih = inl (sym (left n (least_of (m ∷ ns)) is))
    by false is ih = inr (subst (λ k. list.In k (m ∷ ns)) (sym (right n (least_of (m ∷ ns)) is)) ih)

pub least_in : (ns : List ℕ) (n : ℕ) → list.In n ns → list.In (least_of ns) ns
least_in [] n i = absurd i
least_in (m ∷ ns) n i = least_among m ns

-- ---- what passes at naming, whatever it is

abbrev pub all_tests : Tests
all_tests = record {
  made = λ v. true;
  past = λ x v. true;
  asked = λ x u i. true;
  low = λ i. true;
  listed = λ x v s. true;
}

all_pass : (M : Seen) → Passes all_tests M
all_pass M = (
  refl,
  λ q is. record {
    low = λ i le. refl;
    before = record { made = λ v le. refl; past = λ x v le. refl; asked = λ x u i le. refl; listed = λ x v s le. refl };
    live = by (let d = q.disk in d.inc) q.live;
    lists = λ x v s. refl;
  },
)
  where
    by : (inc : ℕ) (o : Option Parts) → PassesLive all_tests inc o
    by inc None = record { made = λ v le. refl; past = λ x v le. refl; asked = λ x u i le. refl; listed = λ x v s le. refl }
    by inc (Some t) = λ n is. record {
      made = λ v le. refl;
      objects = λ x o at. record { recorded = λ b v is le. refl; asked = λ u on. refl };
    }

-- ---- a commit is called

module _ (sent : List Post) (k : ℕ) (c : Coord) (place : Place sent k c) (grants : KnowsGrants c) (knows : KnowsKept c all_tests sent c)
    (b : Branch) (found : branch_of (actor b.path) c.tree ≡ Some b) (opened : is_some b.ended ≡ false)
    (top : (b.kind ≢ kind.Nested) × (b.kind ≢ kind.Serial)) where
  abbrev u : Uid
  u = actor b.path

  abbrev r : Root
  r = root_at (root_of b.path) c

  -- it counts, and its top uses the object
  abbrev pub IsOf : ℕ → Grant → Type 0
  IsOf x g = (counts_grant (actor b.path) x (root_at (root_of b.path) c) c g ≡ true)
      × (top_uses g.top x (root_at (root_of b.path) c) c ≡ true)

  abbrev pub Counting : ℕ → Type 0
  Counting x = (g : Grant) × list.In g (root_at (root_of b.path) c).grants × IsOf x g

  equal : (a m : ℕ) → a ≡ m → (a == m) ≡ true
  equal a m is = grind (arith, is)

  either_last : (a : Bool) {e : Bool} → e ≡ true → (a || e) ≡ true
  either_last true h = refl
  either_last false h = h

  either_first : (a e : Bool) → a ≡ true → (a || e) ≡ true
  either_first a e h = λ i. h i || e

  -- the constituent in which a path is retained
  retains_it : (us : List Uid) → is_retained us c ≡ true → (v : Uid) × (is_kept_top v c ≡ true) × (survives v us c ≡ true)
  retains_it us is = by (second_uid us) is
    where
      by : (o : Option Uid) → retained_in us c o ≡ true → (v : Uid) × (is_kept_top v c ≡ true) × (survives v us c ≡ true)
      by None h = absurd (cc h)
      by (Some v) h = let p = and_parts (is_kept_top v c) (survives v us c) h in (v, p.0, p.1)

  on_it : (v : Uid) (us : List Uid) → survives v us c ≡ true → is_on us v ≡ true
  on_it v us is = (and_parts (is_on us v) (is_merged v us c.tree) is).0

  -- a top on the path of an action is its top
  one_top : (w : Uid) (q : Branch) → branch_of w c.tree ≡ Some q → (v : Uid) (e : Branch) → branch_of v c.tree ≡ Some e →
      e.kind ≢ kind.Nested → e.kind ≢ kind.Serial → is_on (uids_of q.path) v ≡ true → top_of q.path ≡ v
  one_top w q at v e there unnested unserial on =
      let good = place.good in
      let own : actor e.path ≡ v = good.tree.lists.places v e there in
      top_on place.actions place.begun (action_of e) (good.known v e there) unnested unserial (action_of q) (good.known w q at)
      (ap (is_on (uids_of q.path)) own ∙ on) ∙ own

  kept_branch : (v : Uid) → is_kept_top v c ≡ true →
      (e : Branch) × (branch_of v c.tree ≡ Some e) × (e.kind ≢ kind.Nested) × (e.kind ≢ kind.Serial)
  kept_branch v is = by (branch_of v c.tree) refl (and_parts (is_constituent_branch (branch_of v c.tree)) (is_committed v c.tree) is).0
    where
      no_kind : (e : Branch) (q : Kind) → is_constituent q ≡ false → is_constituent e.kind ≡ true → e.kind ≢ q
      no_kind e q off on same = let no_way : true ≡ false = sym on ∙ ap is_constituent same ∙ off in cc no_way

      by : (o : Option Branch) → branch_of v c.tree ≡ o → is_constituent_branch o ≡ true →
          (e : Branch) × (branch_of v c.tree ≡ Some e) × (e.kind ≢ kind.Nested) × (e.kind ≢ kind.Serial)
      by None none h = absurd (cc h)
      by (Some e) at h = (e, at, no_kind e kind.Nested refl h, no_kind e kind.Serial refl h)

  -- the grant of whoever has used the object counts, where that counts
  counted : (x : ℕ) (us : List Uid) (w : Uid) (q : Branch) → branch_of w c.tree ≡ Some q → uids_of q.path ≡ us →
      counts (actor b.path) us c ≡ true → ((v : Uid) → survives v us c ≡ true → top_uses v x (root_at (root_of b.path) c) c ≡ true) →
      (g : Grant) → g.x ≡ x → g.top ≡ top_of q.path → IsOf x g
  counted x us w q at path on uses g object of =
      ⊎_elim {C = IsOf x g} own held (or_cases (survives (actor b.path) us c) (is_retained us c) on)
    where
      both : (uid_eq g.top (actor b.path) || (is_kept_top g.top c && top_uses g.top x (root_at (root_of b.path) c) c)) ≡ true →
          counts_grant (actor b.path) x (root_at (root_of b.path) c) c g ≡ true
      both h = λ j. equal g.x x object j && h j

      own : survives (actor b.path) us c ≡ true → IsOf x g
      own is =
          let same : g.top ≡ actor b.path = of ∙ one_top w q at (actor b.path) b found top.0 top.1
          (ap (λ vs. is_on vs (actor b.path)) path ∙ on_it (actor b.path) us is) in (
            both (either_first (uid_eq g.top (actor b.path)) (is_kept_top g.top c && top_uses g.top x (root_at (root_of b.path) c) c)
                (ap (λ v. uid_eq v (actor b.path)) same ∙ uid_same (actor b.path))),
            ap (λ v. top_uses v x (root_at (root_of b.path) c) c) same ∙ uses (actor b.path) is,
          )

      held : is_retained us c ≡ true → IsOf x g
      held is =
          let v = retains_it us is in
          let e = kept_branch v.0 v.1 in
          let same : g.top ≡ v.0 = of ∙ one_top w q at v.0 e.0 e.1 e.2 e.3 (ap (λ vs. is_on vs v.0) path ∙ on_it v.0 us v.2) in (
            both (either_last (uid_eq g.top (actor b.path)) (ap (λ t. is_kept_top t c && top_uses t x (root_at (root_of b.path) c) c) same
                ∙ (λ i. v.1 i && uses v.0 v.2 i))),
            ap (λ v. top_uses v x (root_at (root_of b.path) c) c) same ∙ uses v.0 v.2,
          )

  -- a call that counts isn't spent
  pub unspent : (s : Said) → list.In s (root_at (root_of b.path) c).said → counts (actor b.path) s.path c ≡ true → IsSpent c.tree s.path → ⊥
  unspent s i on z = ⊎_elim
      (surviving place.actions (paths_of place.actions) (begun_tree place.actions place.begun) sent k c place.good place.binds b found
      opened s its z.0 z.1 z.2)
      (retained place.actions (paths_of place.actions) (begun_tree place.actions place.begun) sent k c place.good place.binds b found
      opened s its z.0 z.1 z.2)
      (or_cases (survives (actor b.path) s.path c) (is_retained s.path c) on)
    where
      its : binds.IsSaid c.tree (root_of b.path).num (root_at (root_of b.path) c) s
      its = let w = place.binds in w.said (root_of b.path) s i

  -- a call that counts
  said_counts : (s : Said) → list.In s (root_at (root_of b.path) c).said → counts (actor b.path) s.path c ≡ true → Counting s.x
  said_counts s i on = by (kept_of s.x (root_at (root_of b.path) c)) refl its.kept
    where
      its : binds.IsSaid c.tree (root_of b.path).num (root_at (root_of b.path) c) s
      its = let w = place.binds in w.said (root_of b.path) s i

      spent : IsSpent c.tree s.path → ⊥
      spent z = ⊎_elim
          (surviving place.actions (paths_of place.actions) (begun_tree place.actions place.begun) sent k c place.good place.binds b found
          opened s its z.0 z.1 z.2)
          (retained place.actions (paths_of place.actions) (begun_tree place.actions place.begun) sent k c place.good place.binds b found
          opened s its z.0 z.1 z.2)
          (or_cases (survives (actor b.path) s.path c) (is_retained s.path c) on)

      uses : (y : Said) → list.In y (root_at (root_of b.path) c).said → (v : Uid) → survives v y.path c ≡ true →
          top_uses v y.x (root_at (root_of b.path) c) c ≡ true
      uses y j v stays = either_first (list_any (λ (z : Said). (z.x == y.x) && survives v z.path c) (root_at (root_of b.path) c).said)
          (list_any (λ (z : Joined). (z.x == y.x) && survives v z.path c) (root_at (root_of b.path) c).joined)
          (any_in (λ (z : Said). (z.x == y.x) && survives v z.path c) y (root_at (root_of b.path) c).said j
          (λ l. equal y.x y.x refl l && stays l))

      granted : (y : Said) → list.In y (root_at (root_of b.path) c).said → counts (actor b.path) y.path c ≡ true → (n : ℕ) →
          IsGranted c (root_at (root_of b.path) c) y.x n (last_uid y.path) → Counting y.x
      granted y j also n g =
          let z : binds.IsSaid c.tree (root_of b.path).num (root_at (root_of b.path) c) y =
          (let w = place.binds in w.said (root_of b.path) y j) in
          let same : ◌≡◌ {A = Option Branch} (Some g.branch) (Some z.branch) = sym g.found ∙ z.there in
          let one : g.branch ≡ z.branch = cc same in (
            g.grant,
            g.there,
            counted y.x y.path (last_uid y.path) z.branch z.there z.path also (λ v stays. uses y j v stays) g.grant
                g.object (g.top ∙ ap (λ (q : Branch). top_of q.path) one),
          )

      by : (o : Option KnownOf) → kept_of s.x (root_at (root_of b.path) c) ≡ o → IsSpent c.tree s.path ⊎ binds.IsThere o → Counting s.x
      by o at (inl z) = absurd (spent z)
      by None at (inr there) = absurd there
      by (Some old) at (inr there) = ⊎_elim {C = Counting s.x} (λ z. absurd (spent z))
          (λ has. ⊎_elim {C = Counting s.x} (λ g. granted s i on (binding_number old.binding) g)
          (λ w. subst Counting w.object (granted w.said w.there
          (either_last (survives (actor b.path) (let y = w.said in y.path) c) w.retained) (binding_number old.binding)
          (subst (λ y. IsGranted c (root_at (root_of b.path) c) y (binding_number old.binding) (last_uid (let z = w.said in z.path)))
          (sym w.object) w.granted))) has)
          (grants.said (root_of b.path) s old i at)

  -- an include that counts
  joined_counts : (j : Joined) → list.In j (root_at (root_of b.path) c).joined → counts (actor b.path) j.path c ≡ true → Counting j.x
  joined_counts j i on =
      let n : IsJoin c all_tests (root_at (root_of b.path) c) j = knows.joined (root_of b.path) j i in
      let its : IsIncluded all_tests j.x (top_of (let q = n.branch in q.path)) n.grant (root_at (root_of b.path) c) = n.included in (
        its.grant,
        its.there,
        counted j.x j.path (last_uid j.path) n.branch n.found n.path on (λ v stays.
            either_last (list_any (λ (z : Said). (z.x == j.x) && survives v z.path c) (root_at (root_of b.path) c).said)
            (any_in (λ (z : Joined). (z.x == j.x) && survives v z.path c) j (root_at (root_of b.path) c).joined i
            (λ l. equal j.x j.x refl l && stays l))) its.grant its.object its.of,
      )

  pub object_counts : (x : ℕ) → list.In x (objects_in (actor b.path) (root_at (root_of b.path) c) c) → Counting x
  object_counts x i = ⊎_elim {C = Counting x}
      (λ l. let f = in_map (λ (s : Said). s.x) x (said_in (actor b.path) (root_at (root_of b.path) c) c) l in
      let g = in_filter (λ (s : Said). counts (actor b.path) s.path c) f.0 (root_at (root_of b.path) c).said f.1 in
      subst Counting f.2 (said_counts f.0 g.0 g.1))
      (λ l. let f = in_map (λ (s : Joined). s.x) x (joined_in (actor b.path) (root_at (root_of b.path) c) c) l in
      let g = in_filter (λ (s : Joined). counts (actor b.path) s.path c) f.0 (root_at (root_of b.path) c).joined f.1 in
      subst Counting f.2 (joined_counts f.0 g.0 g.1))
      (in_both x (map (λ (s : Said). s.x) (said_in (actor b.path) (root_at (root_of b.path) c) c))
      (map (λ (j : Joined). j.x) (joined_in (actor b.path) (root_at (root_of b.path) c) c))
      (in_set x (map (λ (s : Said). s.x) (said_in (actor b.path) (root_at (root_of b.path) c) c)
      ++ map (λ (j : Joined). j.x) (joined_in (actor b.path) (root_at (root_of b.path) c) c)) i))

  -- the least one is named
  pub least_counts : (x : ℕ) → list.In x (objects_in (actor b.path) (root_at (root_of b.path) c) c) →
      (g : Grant) × list.In g (root_at (root_of b.path) c).grants × (g.x ≡ x)
      × (least_grant (actor b.path) x (root_at (root_of b.path) c) c ≡ g.least)
      × ((g.top ≡ actor b.path) ⊎ (is_kept_top g.top c ≡ true))
  least_counts x i =
      let z = object_counts x i in
      let few = filter (counts_grant (actor b.path) x (root_at (root_of b.path) c) c) (root_at (root_of b.path) c).grants in
      let l = least_in (map (λ (g : Grant). g.least) few) (let g = z.0 in g.least) (map_in (λ (g : Grant). g.least) z.0 few
      (kept_in (counts_grant (actor b.path) x (root_at (root_of b.path) c) c) z.0 (root_at (root_of b.path) c).grants z.1 z.2.0)) in
      let f = in_map (λ (g : Grant). g.least) (least_of (map (λ (g : Grant). g.least) few)) few l in
      let g = in_filter (counts_grant (actor b.path) x (root_at (root_of b.path) c) c) f.0 (root_at (root_of b.path) c).grants f.1 in
      let q = and_parts ((let h = f.0 in h.x) == x) (uid_eq (let h = f.0 in h.top) (actor b.path)
      || (is_kept_top (let h = f.0 in h.top) c && top_uses (let h = f.0 in h.top) x (root_at (root_of b.path) c) c)) g.1 in (
        f.0,
        g.0,
        eqb-true (let h = f.0 in h.x) x q.0,
        sym f.2,
        ⊎_elim
            {C = ((let h = f.0 in h.top) ≡ actor b.path) ⊎ (is_kept_top (let h = f.0 in h.top) c ≡ true)}
            (λ same. inl (uid_is (let h = f.0 in h.top) (actor b.path) same))
            (λ kept. inr (and_parts (is_kept_top (let h = f.0 in h.top) c)
            (top_uses (let h = f.0 in h.top) x (root_at (root_of b.path) c) c) kept).0)
            (or_cases (uid_eq (let h = f.0 in h.top) (actor b.path)) (is_kept_top (let h = f.0 in h.top) c
            && top_uses (let h = f.0 in h.top) x (root_at (root_of b.path) c) c) q.1),
      )

-- ---- by the journal

module _ (hd : Header) (st : Start) (Z : Seen) (reached : Reached hd Z) (k : ℕ) (n : Node) (t : Parts) (here : Z.nodes k ≡ Some n)
    (live : n.live ≡ Some t) (starts : Z.start ≡ st) (roots : AllByRecursion (λ (e : ℕ × Root). AreHad (HadIn st Z.lines) (PlanSo st Z.lines) e.0
    (let r = e.1 in r.grants)) t.coord.roots)
    (l : Label) (b : Branch) (named : branch_named l t.coord ≡ Some b) (free : refusal_up hd (input.Commit l) t.coord ≡ None)
    (unnested : is_nested b.kind ≡ false) (unserial : is_serial b.kind ≡ false)
    (incs : IsEarly Z.lines → branch_of (actor b.path) t.coord.tree ≡ Some b → (s : Said) →
    list.In s (let r = root_at (root_of b.path) t.coord in r.said) → (old : KnownOf) →
    kept_of s.x (root_at (root_of b.path) t.coord) ≡ Some old → old.recorded ≡ true → (i : ℕ) × (old.inc ≡ Some i)) where
  reasons : (is_some b.ended ≡ false) × (waits_above b t.coord ≡ false)
  reasons =
      let f : refused_by commit_reasons t.coord (Some b) ≡ None = subst (λ o. refused_by commit_reasons t.coord o ≡ None) named free in
      let one = off (is_some b.ended) 6 ((7, (waits_above b t.coord || waits_below b t.coord) || sibling_waits b t.coord)
      ∷ (9, has_open_child (actor b.path) t.coord.tree) ∷ []) f in
      let two = off ((waits_above b t.coord || waits_below b t.coord) || sibling_waits b t.coord) 7
      ((9, has_open_child (actor b.path) t.coord.tree) ∷ []) one.1 in (
        one.0,
        (none_of (waits_above b t.coord) (waits_below b t.coord)
            (none_of (waits_above b t.coord || waits_below b t.coord) (sibling_waits b t.coord) two.0).0).0,
      )
    where
      off : (e : Bool) (m : ℕ) (rs : List (ℕ × Bool)) → first_reason ((m, e) ∷ rs) ≡ None → (e ≡ false) × (first_reason rs ≡ None)
      off true m rs is = absurd (cc is)
      off false m rs is = (refl, is)

      none_of : (a e : Bool) → (a || e) ≡ false → (a ≡ false) × (e ≡ false)
      none_of true e is = absurd (cc is)
      none_of false e is = (refl, is)

  name_of : Beginning.IsNamed t.coord l b
  name_of = Beginning.named_at t.coord (let q = placed.knows hd Z reached k n t here live in let w = q.tops in w.names) l b named

  own : actor b.path ≡ name_of.act
  own = let q = placed.place hd Z reached k n t here live in let g = q.good in g.tree.lists.places name_of.act b name_of.found

  found : branch_of (actor b.path) t.coord.tree ≡ Some b
  found = ap (λ v. branch_of v t.coord.tree) own ∙ name_of.found

  does : doing_of (actor b.path) t.coord ≡ Some name_of.doing
  does = ap (λ v. doing_of v t.coord) own ∙ name_of.does

  top : (b.kind ≢ kind.Nested) × (b.kind ≢ kind.Serial)
  top = (
    (λ same. let no_way : true ≡ false = ap is_nested (sym same) ∙ unnested in cc no_way),
    λ same. let no_way : true ≡ false = ap is_serial (sym same) ∙ unserial in cc no_way,
  )

  uncalled : is_on (let B = book Z.lines in B.called) (actor b.path) ≡ false
  uncalled = (let z = placed.knows hd Z reached k n t here live in z.calls) (actor b.path) b name_of.doing found does (none_is b.ended reasons.0)
      ∙ not_committing (let q = name_of.doing in q.now) (λ m is. waits_free k (placed.begun hd Z reached k n t here live)
      (placed.all_begun hd Z reached k n t here live) (paths_of (placed.begun hd Z reached k n t here live))
      (placed.tree hd Z reached k n t here live) t.coord b reasons.1 name_of.doing m does is)
    where
      none_is : (o : Option End) → is_some o ≡ false → o ≡ None
      none_is None is = refl
      none_is (Some e) is = absurd (cc is)

  settled : RecordsRun Z
  settled = reached_has hd RecordsRun (keeps_asked hd RecordsRun (records_run_on hd)) Z reached

  kept : HasFewBindings Z.lines → KnowsKept t.coord all_tests Z.sent t.coord
  kept few =
      let w = (settled.1 few).1 in
      let q = w.0.0.0.1.1 k n t here live in
      (let y = q.records all_tests (record { zero = refl; down = λ x v m le is. refl; answered = w.1.0 all_tests (all_pass Z) }) in y.kept)

  grants : KnowsGrants t.coord
  grants = let g = reached_has hd GrantsAreKnown (keeps_asked hd GrantsAreKnown (grants_keep hd)) Z reached in
      (let e = g.1 in e.nodes k n t here live).0

  had_of : (g : Grant) → list.In g (root_at (root_of b.path) t.coord).grants →
      HadIn st Z.lines (let w = root_of b.path in w.num) g.top g.x g.least
  had_of g i = each_of (IsHad (HadIn st Z.lines) (PlanSo st Z.lines) (let w = root_of b.path in w.num))
      (root_at (root_of b.path) t.coord).grants g (its_grants (HadIn st Z.lines) (PlanSo st Z.lines) (root_of b.path) t.coord roots) i

  -- a kept top that has a grant of the root is of that root
  of_kept : HasFewBindings Z.lines → (g : Grant) → list.In g (root_at (root_of b.path) t.coord).grants → AreDistinct (acts Z.lines) →
      is_kept_top g.top t.coord ≡ true →
      first_uid (uids (path_by (acts Z.lines) g.top)) ≡ first_uid (uids (path_by (acts Z.lines) (actor b.path)))
  of_kept few g i distinct is =
      let e = kept_branch Z.sent k t.coord (placed.place hd Z reached k n t here live) grants (kept few) b found reasons.0 top g.top is in
      let path = placed.path_at hd Z reached k n t here live g.top e.0 e.1 in
      let had = had_of g i in
      ap first_uid path ∙ own_is (root_of (let q = e.0 in q.path)) (root_of b.path) t.coord.tree
      (placed.root_there hd Z reached k n t here live g.top e.0 e.1)
      (placed.root_there hd Z reached k n t here live (actor b.path) b found)
      (ap (λ us. (let v = first_uid us in v.num)) (sym path) ∙ had.of distinct)
      ∙ ap first_uid (sym (placed.path_at hd Z reached k n t here live (actor b.path) b found))

  -- the action or a kept top uses the object by the journal
  object_used : HasFewBindings Z.lines → (x : ℕ) → list.In x (objects_in (actor b.path) (root_at (root_of b.path) t.coord) t.coord) →
      AreDistinct (acts Z.lines) → UsesIn Z.lines (actor b.path) x
  object_used few x i distinct = (its.0, its.1, its.2, ⊎_elim {C = unit_uses Z.lines its.0 x ≡ true} itself another cases)
    where
      right : AreRight new_book Z.lines
      right = placed.right hd Z reached k n t here live

      its : (a : Act) × list.In a (acts Z.lines) × (a.uid ≡ actor b.path) × (a.kind ≡ b.kind)
      its = its_act hd Z reached k n t here live (actor b.path) b found

      z : Counting Z.sent k t.coord (placed.place hd Z reached k n t here live) grants (kept few) b found reasons.0 top x
      z = object_counts Z.sent k t.coord (placed.place hd Z reached k n t here live) grants (kept few) b found reasons.0 top x i

      cases : (uid_eq (let g = z.0 in g.top) (actor b.path) ≡ true)
          ⊎ ((is_kept_top (let g = z.0 in g.top) t.coord
          && top_uses (let g = z.0 in g.top) x (root_at (root_of b.path) t.coord) t.coord) ≡ true)
      cases = or_cases (uid_eq (let g = z.0 in g.top) (actor b.path)) (is_kept_top (let g = z.0 in g.top) t.coord
          && top_uses (let g = z.0 in g.top) x (root_at (root_of b.path) t.coord) t.coord)
          (and_parts ((let g = z.0 in g.x) == x) (uid_eq (let g = z.0 in g.top) (actor b.path)
          || (is_kept_top (let g = z.0 in g.top) t.coord
          && top_uses (let g = z.0 in g.top) x (root_at (root_of b.path) t.coord) t.coord)) z.2.0).1

      itself : uid_eq (let g = z.0 in g.top) (actor b.path) ≡ true → unit_uses Z.lines its.0 x ≡ true
      itself same = unit_itself Z.lines right its.0 x
          (uses_there hd Z reached k n t here live (root_of b.path) (actor b.path) b found (upper_kind b.kind top.0 top.1) x
          (ap (λ v. top_uses v x (root_at (root_of b.path) t.coord) t.coord) (sym (uid_is (let g = z.0 in g.top) (actor b.path) same))
          ∙ z.2.1) its.0 its.1 its.2)

      another : (is_kept_top (let g = z.0 in g.top) t.coord
          && top_uses (let g = z.0 in g.top) x (root_at (root_of b.path) t.coord) t.coord) ≡ true → unit_uses Z.lines its.0 x ≡ true
      another both =
          let is = (and_parts (is_kept_top (let g = z.0 in g.top) t.coord)
          (top_uses (let g = z.0 in g.top) x (root_at (root_of b.path) t.coord) t.coord) both).0 in
          let e = kept_branch Z.sent k t.coord (placed.place hd Z reached k n t here live) grants (kept few) b found reasons.0 top
          (let g = z.0 in g.top) is in
          let v = its_act hd Z reached k n t here live (let g = z.0 in g.top) e.0 e.1 in
          let upper : is_top (let q = e.0 in q.kind) ≡ true = upper_kind (let q = e.0 in q.kind) e.2 e.3 in
          let plain : is_serial (let q = e.0 in q.kind) ≡ false = top_plain (let q = e.0 in q.kind) upper in
          unit_of Z.lines right its.0 v.0 x v.1 (ap is_top v.3 ∙ upper)
          (ap (is_on (let X = book Z.lines in X.committed)) v.2
          ∙ committed_by hd Z reached k n t here live (let g = z.0 in g.top) e.0 e.1 plain
          (and_parts (is_constituent_branch (branch_of (let g = z.0 in g.top) t.coord.tree))
          (is_committed (let g = z.0 in g.top) t.coord.tree) is).1)
          (act_roots (acts Z.lines) distinct v.0 its.0 v.1 its.1
          (own_there (acts Z.lines) distinct formed v.0 v.1) (own_there (acts Z.lines) distinct formed its.0 its.1)
          (ap (λ w. first_uid (uids (path_by (acts Z.lines) w))) v.2 ∙ of_kept few z.0 z.1 distinct is
          ∙ ap (λ w. first_uid (uids (path_by (acts Z.lines) w))) (sym its.2)))
          (uses_there hd Z reached k n t here live (root_of b.path) (let g = z.0 in g.top) e.0 e.1 upper x z.2.1 v.0 v.1 v.2)
        where
          formed : AreFormed (acts Z.lines)
          formed = let s = its_sound Z.lines right in s.formed

  object_so : (x : ℕ) → list.In x (objects_in (actor b.path) (root_at (root_of b.path) t.coord) t.coord) →
      PlanSo st Z.lines (actor b.path) (used_of (actor b.path) (root_at (root_of b.path) t.coord) t.coord x)
  object_so x i few = record {
    first = Z.lines;
    more = [];
    are = sym (append-nil Z.lines);
    uncalled = uncalled;
    top = (let g = its.0 in g.top);
    had = subst (λ y. WasHad st Z.lines (let g = its.0 in g.top) y (least_grant (actor b.path) x (root_at (root_of b.path) t.coord) t.coord))
        its.2 (subst (WasHad st Z.lines (let g = its.0 in g.top) (let g = its.0 in g.x)) (sym its.3) had.had);
    there = had.there;
    its = placed.began hd Z reached k n t here live (actor b.path) b found;
    root = λ distinct. ⊎_elim
        {C = first_uid (uids (path_by (acts Z.lines) (let g = its.0 in g.top))) ≡ first_uid (uids (path_by (acts Z.lines) (actor b.path)))}
        (λ same. ap (λ v. first_uid (uids (path_by (acts Z.lines) v))) same) (λ kept. of_kept few its.0 its.1 distinct kept) its.4;
    uses = λ distinct. object_used few x i distinct;
    server = server_so;
  }
    where
      its : (g : Grant) × list.In g (root_at (root_of b.path) t.coord).grants × (g.x ≡ x)
          × (least_grant (actor b.path) x (root_at (root_of b.path) t.coord) t.coord ≡ g.least)
          × ((g.top ≡ actor b.path) ⊎ (is_kept_top g.top t.coord ≡ true))
      its = least_counts Z.sent k t.coord (placed.place hd Z reached k n t here live) grants (kept few) b found reasons.0 top x i

      had : HadIn st Z.lines (let w = root_of b.path in w.num) (let g = its.0 in g.top) (let g = its.0 in g.x) (let g = its.0 in g.least)
      had = had_of its.0 its.1

      -- where it was called, whose copy was active at the server
      server_so : IsEarly Z.lines → (let w = used_of (actor b.path) (root_at (root_of b.path) t.coord) t.coord x in w.called) ≡ true →
          (let w = used_of (actor b.path) (root_at (root_of b.path) t.coord) t.coord x in IsLined Z.lines w.x w.binding w.server
          × IsActiveIn st Z.lines w.server w.x w.binding w.inc)
      server_so early on = subst (λ (w : Used). IsLined Z.lines w.x w.binding w.server × IsActiveIn st Z.lines w.server w.x w.binding w.inc) (sym same) (
        known.0,
        subst (IsActiveIn st Z.lines (let q = kept_it.0 in q.server) x (let q = kept_it.0 in q.binding))
            (sym (ap (λ o. unwrap_or o 0) inc.1)) (known.1 inc.0 inc.1 few),
      )
        where
          said : (s : Said) × list.In s (said_in (actor b.path) (root_at (root_of b.path) t.coord) t.coord) × ((s.x == x) ≡ true)
          said = one_passes (λ (s : Said). s.x == x) (said_in (actor b.path) (root_at (root_of b.path) t.coord) t.coord) on

          there_too : list.In said.0 (let r = root_at (root_of b.path) t.coord in r.said)
              × (counts (actor b.path) (let s = said.0 in s.path) t.coord ≡ true)
          there_too = in_filter (λ (s : Said). counts (actor b.path) s.path t.coord) said.0
              (let r = root_at (root_of b.path) t.coord in r.said) said.1

          at_x : (let s = said.0 in s.x) ≡ x
          at_x = eqb-true (let s = said.0 in s.x) x said.2

          recorded : (o : Option KnownOf) → kept_of x (root_at (root_of b.path) t.coord) ≡ o → IsRecorded o →
              (q : KnownOf) × (kept_of x (root_at (root_of b.path) t.coord) ≡ Some q) × (q.recorded ≡ true)
          recorded None at is = absurd is
          recorded (Some q) at is = (q, at, is)

          kept_it : (q : KnownOf) × (kept_of x (root_at (root_of b.path) t.coord) ≡ Some q) × (q.recorded ≡ true)
          kept_it = recorded (kept_of x (root_at (root_of b.path) t.coord)) refl
              (subst (λ y. IsRecorded (kept_of y (root_at (root_of b.path) t.coord))) at_x
              (⊎_elim {C = IsRecorded (kept_of (let s = said.0 in s.x) (root_at (root_of b.path) t.coord))}
              (λ z. absurd (unspent Z.sent k t.coord (placed.place hd Z reached k n t here live) grants (kept few) b found reasons.0 top
              said.0 there_too.0 there_too.1 z)) (λ r. r) (let w = kept few in w.said (root_of b.path) said.0 there_too.0)))

          inc : (i : ℕ) × ((let q = kept_it.0 in q.inc) ≡ Some i)
          inc = incs early found said.0 there_too.0 kept_it.0
              (ap (λ y. kept_of y (root_at (root_of b.path) t.coord)) at_x ∙ kept_it.1) kept_it.2

          says : AreAtSo (IsLined Z.lines) (active_by Z.lines) (met_in Z.start Z.lines) t.coord
          says =
              let z : KnowsBindings Z = reached_has hd KnowsBindings (keeps_asked hd KnowsBindings (bindings_keep hd)) Z reached in
              let s = z.1.0 in (s.works k n t here live).0

          known : IsKeptSo (IsLined Z.lines) (active_by Z.lines) (met_in st Z.lines) x (Some kept_it.0)
          known = subst (IsKeptSo (IsLined Z.lines) (active_by Z.lines) (met_in st Z.lines) x) kept_it.1
              (subst (λ s. IsKeptSo (IsLined Z.lines) (active_by Z.lines) (met_in s Z.lines) x (kept_of x (root_at (root_of b.path) t.coord)))
              starts
              (keyed_at (λ y (q : Keeping). IsKeptSo (IsLined Z.lines) (active_by Z.lines) (met_in Z.start Z.lines) y q.kept) no_keeping x tt
              (let r = root_at (root_of b.path) t.coord in r.keeping)
              (its_root (IsRootSo (IsLined Z.lines) (active_by Z.lines) (met_in Z.start Z.lines)) tt (root_of b.path) t.coord
              (let a = says in a.roots))))

          same : used_of (actor b.path) (root_at (root_of b.path) t.coord) t.coord x
              ≡ used_with x true (actor b.path) (root_at (root_of b.path) t.coord) t.coord kept_it.0
          same = (λ j. used_with x (on j) (actor b.path) (root_at (root_of b.path) t.coord) t.coord
              (known_for (on j) x (root_at (root_of b.path) t.coord)))
              ∙ ap (λ o. used_with x true (actor b.path) (root_at (root_of b.path) t.coord) t.coord (unwrap_or o nothing_known)) kept_it.1

  pub plan_so : AllByRecursion (PlanSo st Z.lines (actor b.path)) (let p = plan_for b.path (last_req (doing_of (actor b.path) t.coord))
      (root_at (root_of b.path) t.coord) t.coord in p.used)
  plan_so = each (objects_in (actor b.path) (root_at (root_of b.path) t.coord) t.coord) (λ x i. i)
    where
      each : (xs : List ℕ) →
          ((x : ℕ) → list.In x xs → list.In x (objects_in (actor b.path) (root_at (root_of b.path) t.coord) t.coord)) →
          AllByRecursion (PlanSo st Z.lines (actor b.path)) (map (used_of (actor b.path) (root_at (root_of b.path) t.coord) t.coord) xs)
      each [] within = tt
      each (x ∷ xs) within = (object_so x (within x (inl refl)), each xs (λ y i. within y (inr i)))
