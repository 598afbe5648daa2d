-- As a top's commit begins its plan includes the stores of the includes that survive in it by the journal.
use Rattle.arj_law_parts.proofs.Words
use Words.{◌≡◌, ◌&&◌, ◌||◌, ◌==◌, ◌++◌, ◌∙◌, not, arith, ℕ, List, [], ◌∷◌, length, map, Bool, true, false, Option, Some, None, refl, sym}
use Words.{ap, subst, inl, inr, Contains, if◌then◌else◌, eqb-true, eq-eqb, AllByRecursion, list_all, list_any, and_parts, uid_is, first_uid}
use Words.{is_on, uid_eq, In, in_filter, in_find, in_find_none, in_from, in_map, in_to, Used, Coord, Joined, Root, Said, counts}
use Words.{is_retained, joined_in, joins_on, objects_in, plan_for, root_at, said_in, survives, used_of, Disk, Parts, number_set, Branch}
use Words.{behind, branch_of, ended_so, has_end, is_committed, root_of, End, Kind, Uid, name, uids_of, Seen, is_serial}
use Words.ending
use Words.kind
use Rattle.arj_law_serial.proofs.Terms
use Terms.{any_in, Act, chain_in, path, top_in, uids, is_among, paths_of, IsGoodCoord, IsTree, found_by, work_there, good_coord}
use Terms.{one_tree, up, plan_by, used_at, Access, book, is_top, new_book, IsEnd, IsKept, KnowsUp, Stands, one_act, stands_lines}
use Terms.{stands_new, AreSound, named_in, on_path, its_own, AreRising, IncludesAreNoted, IncludesLeft, has_included, includes_in}
use Terms.{is_of_store, lasts_in}
use Rattle.arj_law_lock_view.proofs.facts.{GrantSteps.found_any, LowGrants.map_in}
use Rattle.arj_law_parts.proofs.parts.Numbered.{set_up}
use Rattle.arj_law_runs.proofs.journal.{Books.committed_decided, Books.never, Books.over_by_commit, Idles.root_same}
use Rattle.arj_law_runs.specs.journal.{Knows.IsAccess, Knows.root_in, Plans.path_of}
use Rattle.arj_law_serial.proofs.joint
use joint.{JoinLines.all_same, JoinLines.on_of, JoinLists.among_set, JoinLists.rising_up, JoinPaths.chain_above, JoinPaths.lasts_same}
use Rattle.arj_law_serial.proofs.order.{Paths.chain_on, Paths.top_on, Paths.well, Values.to_filter}
use Rattle.arj_law_serial.specs.joint.Joins.{acts_of}

-- ---- lists

same_test : (a b : Bool) → (a ≡ true → b ≡ true) → (b ≡ true → a ≡ true) → a ≡ b
same_test true b one two = sym (one refl)
same_test false true one two = two refl
same_test false false one two = refl

among_in : (n : ℕ) (ns : List ℕ) → In n ns → is_among ns n ≡ true
among_in n ns i = any_in (λ m. m == n) n ns i (eq-eqb n n refl)

in_second : {A : Type 0} (x : A) (xs ys : List A) → In x ys → In x (xs ++ ys)
in_second x [] ys i = i
in_second x (z ∷ xs) ys i = inr (in_second x xs ys i)

-- ---- a coordinator

module _ (k : ℕ) (d : Disk) (t : Parts) (M : Seen) (kept : IsKept (up k d t M)) (u : Uid) (b : Branch)
    (found : branch_of u t.coord.tree ≡ Some b) (top : is_top b.kind ≡ true) (notes : IncludesAreNoted (book M.lines) t.coord) where
  abbrev c : Coord
  c = t.coord

  abbrev r : Root
  r = root_at (root_of b.path) t.coord

  up_now : KnowsUp (book M.lines) d.intents t.coord
  up_now = let w = kept.1 in let o = its_own k d (Some t) M w in o.live t refl

  coord : IsGoodCoord (let g = kept.0 in g.0) (paths_of (let g = kept.0 in g.0)) t.coord
  coord = good_coord 0 k d t M kept.0

  tree : IsTree (paths_of (let g = kept.0 in g.0))
  tree = one_tree 0 k d t M kept.0

  works : length t.coord.doings ≡ length t.coord.tree.branches
  works = let n = up_now in let m = n.tops in let h = m.names in h.count

  stands : Stands (book M.lines)
  stands = let w = kept.1 in stands_lines new_book M.lines w.right stands_new

  sound : AreSound (let X = book M.lines in X.acts)
  sound = let s = stands in s.sound

  -- an action of this coordinator, by the journal
  its_act : (w : Uid) (z : Branch) → branch_of w t.coord.tree ≡ Some z →
      (a : Act) × In a (let X = book M.lines in X.acts) × (a.uid ≡ w) × (a.kind ≡ z.kind) × IsEnd (book M.lines) w z.kind z.ended
  its_act w z at =
      let q = work_there t.coord works w z at in
      let n = up_now in
      let m = n.knows in
      let s = m.acts w z q.0 at q.1 in
      (s.act, named_in (let X = book M.lines in X.acts) (name (let e = q.0 in e.label)) s.act s.named, s.uid, s.kind, s.end)

  abbrev U : (a : Act) × In a (let X = book M.lines in X.acts) × (a.uid ≡ u) × (a.kind ≡ b.kind) × IsEnd (book M.lines) u b.kind b.ended
  U = its_act u b found

  upper : is_top (let a = U.0 in a.kind) ≡ true
  upper = ap is_top U.3 ∙ top

  -- a nested action's commit is that of the journal
  committed_same : (a : Act) → In a (let X = book M.lines in X.acts) → a.kind ≡ kind.Nested → (z : Branch) →
      branch_of a.uid t.coord.tree ≡ Some z → is_committed a.uid t.coord.tree ≡ is_on (let X = book M.lines in X.committed) a.uid
  committed_same a there nested z at =
      let s = its_act a.uid z at in
      let one = one_act (let X = book M.lines in X.acts) sound.distinct s.0 a s.1 there s.2 in
      ap (ended_so ending.Commit) at ∙ by z.ended z.kind (sym s.3 ∙ ap (λ (y : Act). y.kind) one ∙ nested) s.4
    where
      by : (o : Option End) (h : Kind) → h ≡ kind.Nested → IsEnd (book M.lines) a.uid h o →
          has_end ending.Commit o ≡ is_on (let X = book M.lines in X.committed) a.uid
      by None h plain e = sym (off (is_on (let X = book M.lines in X.committed) a.uid) refl)
        where
          off : (x : Bool) → is_on (let X = book M.lines in X.committed) a.uid ≡ x → x ≡ false
          off false is = refl
          off true is = absurd (never (over_by_commit (book M.lines) a.uid is) e.0)
      by (Some ending.Commit) h plain e =
          sym (sym (ap (λ y. let X = book M.lines in if is_serial y then is_on X.ended a.uid else is_on X.committed a.uid) plain) ∙ e)
      by (Some ending.Abort) h plain e = sym (off (is_on (let X = book M.lines in X.committed) a.uid) refl)
        where
          off : (x : Bool) → is_on (let X = book M.lines in X.committed) a.uid ≡ x → x ≡ false
          off false is = refl
          off true is = let s = stands in let sane = s.sane in
              absurd (never e (sane.kept a.uid (committed_decided (book M.lines) a.uid is)))

  -- who has this top is of this coordinator
  home_of : (a : Act) → In a (let X = book M.lines in X.acts) → (o : Act) → top_in (path (let X = book M.lines in X.acts) a.label)
      ≡ Some o → uid_eq o.uid u ≡ true → (z : Branch) × (branch_of a.uid t.coord.tree ≡ Some z)
  home_of a there o is same =
      let n = up_now in
      let m = n.knows in
      let ties = m.ties in
      let acts = (let X = book M.lines in X.acts) in
      ties.homes a u (in_to a acts there) (subst (λ w. is_on (uids (path acts a.label)) w ≡ true) (uid_is o.uid u same)
      (on_of (path acts a.label) o (top_on (path acts a.label) o is))) (found_by u t.coord.tree b found).0

  -- below this top
  lasts_here : (l : List ℕ) → lasts_in (λ w. is_committed w t.coord.tree) u (path (let X = book M.lines in X.acts) l)
      (top_in (path (let X = book M.lines in X.acts) l)) ≡ lasts_in (is_on (let X = book M.lines in X.committed)) u
      (path (let X = book M.lines in X.acts) l) (top_in (path (let X = book M.lines in X.acts) l))
  lasts_here l = by (top_in (path (let X = book M.lines in X.acts) l)) refl
    where
      by : (o : Option Act) → top_in (path (let X = book M.lines in X.acts) l) ≡ o →
          lasts_in (λ w. is_committed w t.coord.tree) u (path (let X = book M.lines in X.acts) l) o
          ≡ lasts_in (is_on (let X = book M.lines in X.committed)) u (path (let X = book M.lines in X.acts) l) o
      by None is = refl
      by (Some o) is = one (uid_eq o.uid u) refl
        where
          each : uid_eq o.uid u ≡ true → (e : Act) → In e (chain_in (path (let X = book M.lines in X.acts) l)) →
              is_committed e.uid t.coord.tree ≡ is_on (let X = book M.lines in X.committed) e.uid
          each same e i =
              let acts = (let X = book M.lines in X.acts) in
              let there = on_path acts l e (chain_on (path acts l) e i) in
              let z = home_of e there o (chain_above acts sound.distinct l o e is i) same in
              committed_same e there
              (nested (chain_in (path acts l)) (let w = well acts sound.formed l in let shape = w.0 in shape.below) i) z.0 z.1
            where
              nested : (xs : List Act) → AllByRecursion (λ (y : Act). y.kind ≡ kind.Nested) xs → In e xs → e.kind ≡ kind.Nested
              nested [] all j = absurd j
              nested (x ∷ xs) all (inl q) = ap (λ (y : Act). y.kind) (sym q) ∙ all.0
              nested (x ∷ xs) all (inr j) = nested xs all.1 j

          one : (x : Bool) → uid_eq o.uid u ≡ x → (x && list_all (λ (y : Act). is_committed y.uid t.coord.tree)
              (chain_in (path (let X = book M.lines in X.acts) l))) ≡ (x && list_all
              (λ (y : Act). is_on (let X = book M.lines in X.committed) y.uid) (chain_in (path (let X = book M.lines in X.acts) l)))
          one false off = refl
          one true same = all_same (λ (y : Act). is_committed y.uid t.coord.tree) (λ (y : Act). is_on (let X = book M.lines in
              X.committed) y.uid) (chain_in (path (let X = book M.lines in X.acts) l)) (each same)

  -- what survives here survives by the journal
  survives_same : (a : Act) (us : List Uid) → uids (path (let X = book M.lines in X.acts) a.label) ≡ us →
      survives u us t.coord ≡ lasts_in (is_on (let X = book M.lines in X.committed)) u (path (let X = book M.lines in X.acts) a.label)
      (top_in (path (let X = book M.lines in X.acts) a.label))
  survives_same a us same =
      let acts = (let X = book M.lines in X.acts) in
      ap (λ vs. survives u vs t.coord) (sym same)
      ∙ subst (λ w. (is_on (uids (path acts a.label)) w && not (list_any (λ (v : Uid). not (is_committed v t.coord.tree)) (behind w (uids
      (path acts a.label))))) ≡ lasts_in (λ v. is_committed v t.coord.tree) w (path acts a.label) (top_in (path acts a.label))) U.2
      (lasts_same acts sound.distinct sound.formed U.0 U.1 upper a.label (λ v. is_committed v t.coord.tree))
      ∙ lasts_here a.label

  -- ---- the plan

  abbrev said_objects : List ℕ
  said_objects = map (λ (s : Said). s.x) (said_in u r t.coord)

  abbrev joined_objects : List ℕ
  joined_objects = map (λ (j : Joined). j.x) (joined_in u r t.coord)

  abbrev uses : List Used
  uses = map (used_of u r t.coord) (objects_in u r t.coord)

  abbrev joins_at : ℕ → List ℕ
  joins_at x = let q = plan_by (used_at x uses) None in q.joins

  -- what is used of an object
  its_used : (x : ℕ) (w : Used) → used_at x uses ≡ Some w → used_of u r t.coord x ≡ w
  its_used x w is =
      let f = in_find (λ (v : Used). v.x == x) w uses is in
      let m = in_map (used_of u r t.coord) w (objects_in u r t.coord) f.0 in
      let y : m.0 ≡ x = ap (λ (v : Used). v.x) m.2 ∙ eqb-true w.x x f.1 in
      ap (used_of u r t.coord) (sym y) ∙ m.2

  rises : (x : ℕ) → AreRising (joins_at x)
  rises x = by (used_at x uses) refl
    where
      by : (o : Option Used) → used_at x uses ≡ o → AreRising (let q = plan_by o None in q.joins)
      by None is = tt
      by (Some w) is = subst (λ (v : Used). AreRising v.joins) (its_used x w is) (rising_up (number_set
          (map (λ (j : Joined). j.store) (joins_on x u r t.coord))) (set_up (map (λ (j : Joined). j.store) (joins_on x u r t.coord))))

  -- a store that the plan includes is that of a surviving include
  forth : (x s : ℕ) → is_among (joins_at x) s ≡ true → has_included (book M.lines) u x s ≡ true
  forth x s = by (used_at x uses) refl
    where
      of_join : (j : Joined) → In j r.joined → ((j.x == x) && survives u j.path t.coord) ≡ true → j.store ≡ s →
          has_included (book M.lines) u x s ≡ true
      of_join j i test store =
          access (let n = up_now in let m = n.knows in let ties = m.ties in ties.joined (root_of b.path) j (in_to j r.joined i))
        where
          access : IsAccess (let X = book M.lines in X.accesses) t.coord.tree j.path j.x (λ o. o ≡ Some j.store) →
              has_included (book M.lines) u x s ≡ true
          access (a, z, there, at, path_is, obj, named) =
              let p = and_parts (j.x == x) (survives u j.path t.coord) test in
              let n = up_now in
              let m = n.knows in
              let ties = m.ties in
              let st = stands in
              let sane = st.sane in
              let same = ties.paths a.act z (sane.acted a there) at ∙ sym path_is in
              any_in (includes_in (book M.lines) u x s) a (let X = book M.lines in
              X.accesses) (in_from a (let X = book M.lines in X.accesses) there)
              (λ i. (sym (survives_same a.act j.path same) ∙ p.1) i
              && ((ap (λ y. y == x) obj ∙ p.0) i && (ap (is_of_store s) named ∙ eq-eqb j.store s store) i))

      by : (o : Option Used) → used_at x uses ≡ o → is_among (let q = plan_by o None in q.joins) s ≡ true →
          has_included (book M.lines) u x s ≡ true
      by None is on = absurd (cc on)
      by (Some w) is on =
          let set : is_among (number_set (map (λ (j : Joined). j.store) (joins_on x u r t.coord))) s ≡ true = ap
          (λ (v : Used). is_among v.joins s) (its_used x w is) ∙ on in
          let f = found_any (λ m. m == s) (map (λ (j : Joined). j.store) (joins_on x u r t.coord))
          (sym (among_set (map (λ (j : Joined). j.store) (joins_on x u r t.coord)) s) ∙ set) in
          let m = in_map (λ (j : Joined). j.store) f.0 (joins_on x u r t.coord) f.1 in
          let g = in_filter (λ (j : Joined). (j.x == x) && survives u j.path t.coord) m.0 r.joined m.1 in
          of_join m.0 g.0 g.1 (m.2 ∙ eqb-true f.0 s f.2)

  -- and back
  back : (x s : ℕ) → has_included (book M.lines) u x s ≡ true → is_among (joins_at x) s ≡ true
  back x s on =
      let f = found_any (includes_in (book M.lines) u x s) (let X = book M.lines in X.accesses) on in
      let a = f.0 in
      let p = and_parts (lasts_in (is_on (let X = book M.lines in X.committed)) u (acts_of (book M.lines) a)
      (top_in (acts_of (book M.lines) a))) ((a.x == x) && is_of_store s a.store) f.2 in
      let q = and_parts (a.x == x) (is_of_store s a.store) p.1 in
      of a f.1 p.0 (eqb-true a.x x q.0) a.store refl q.1
    where
      of : (a : Access) → In a (let X = book M.lines in X.accesses) →
          lasts_in (is_on (let X = book M.lines in X.committed)) u (acts_of (book M.lines) a) (top_in (acts_of (book M.lines) a)) ≡ true →
          a.x ≡ x → (o : Option ℕ) → a.store ≡ o → is_of_store s o ≡ true → is_among (joins_at x) s ≡ true
      of a i lasts obj None is test = absurd (cc test)
      of a i lasts obj (Some n) is test = by (top_in (acts_of (book M.lines) a)) refl lasts
        where
          acted : In a.act (let X = book M.lines in X.acts)
          acted = let st = stands in let sane = st.sane in
              in_from a.act (let X = book M.lines in X.acts) (sane.acted a (in_to a (let X = book M.lines in X.accesses) i))

          here : (z : Branch) → branch_of (let e = a.act in e.uid) t.coord.tree ≡ Some z → is_on (path_of (book M.lines) a) u ≡ true →
              is_among (joins_at x) s ≡ true
          here z at over = noted (notes a s (in_to a (let X = book M.lines in X.accesses) i) (is ∙ ap Some (eqb-true n s test))
              (found_by (let e = a.act in e.uid) t.coord.tree z at).0)
            where
              path_is : path_of (book M.lines) a ≡ uids_of z.path
              path_is = let e = up_now in let m = e.knows in let ties = m.ties in
                  ties.paths a.act z (in_to a.act (let X = book M.lines in X.acts) acted) at

              root : first_uid (path_of (book M.lines) a) ≡ root_of b.path
              root =
                  let lists = coord.tree.lists in
                  let g = kept.0 in
                  ap first_uid path_is
                  ∙ ap first_uid (lists.paths_are (let e = a.act in e.uid) z at)
                  ∙ root_same (paths_of g.0) tree t.coord.tree lists u (length (paths_of g.0 (let e = a.act in e.uid))) (let e = a.act in
                  e.uid) z (omega arith) at (ap (λ us. is_on us u) (sym (lists.paths_are (let e = a.act in e.uid) z at))
                  ∙ ap (λ us. is_on us u) (sym path_is) ∙ over)
                  ∙ ap first_uid (sym (lists.paths_are u b found))

              lives : survives u (path_of (book M.lines) a) t.coord ≡ true
              lives = survives_same a.act (path_of (book M.lines) a) refl ∙ lasts

              noted : ((j : Joined) × Contains (root_in (first_uid (path_of (book M.lines) a)) t.coord.roots).joined j
                  × (j.path ≡ path_of (book M.lines) a) × (j.x ≡ a.x) × (j.store ≡ s)) → is_among (joins_at x) s ≡ true
              noted (j, there, same, at_x, store) = used (used_at x uses) refl
                where
                  j_in : In j r.joined
                  j_in = in_from j r.joined (subst (λ w. Contains (root_in w t.coord.roots).joined j) root there)

                  survives_j : survives u j.path t.coord ≡ true
                  survives_j = ap (λ us. survives u us t.coord) same ∙ lives

                  on_x : j.x ≡ x
                  on_x = at_x ∙ obj

                  object : In x (objects_in u r t.coord)
                  object = let m = found_any (λ y. y == x) (objects_in u r t.coord) (among_set (said_objects ++ joined_objects) x
                      ∙ among_in x (said_objects ++ joined_objects) (in_second x said_objects joined_objects (subst
                      (λ y. In y joined_objects) on_x (map_in (λ (z : Joined). z.x) j (joined_in u r t.coord) (to_filter (λ (z : Joined).
                      counts u z.path t.coord) j r.joined j_in (ap (λ e. e || is_retained j.path t.coord) survives_j)))))) in
                      subst (λ y. In y (objects_in u r t.coord)) (eqb-true m.0 x m.2) m.1

                  used : (o : Option Used) → used_at x uses ≡ o → is_among (let q = plan_by o None in q.joins) s ≡ true
                  used None none = absurd (never (eq-eqb x x refl) (in_find_none (λ (v : Used). v.x == x) (used_of u r t.coord x) uses none
                      (map_in (used_of u r t.coord) x (objects_in u r t.coord) object)))
                  used (Some w) some = ap (λ (v : Used). is_among v.joins s) (sym (its_used x w some))
                      ∙ among_set (map (λ (z : Joined). z.store) (joins_on x u r t.coord)) s
                      ∙ among_in s (map (λ (z : Joined). z.store) (joins_on x u r t.coord))
                      (subst (λ y. In y (map (λ (z : Joined). z.store) (joins_on x u r t.coord))) store
                      (map_in (λ (z : Joined). z.store) j (joins_on x u r t.coord) (to_filter (λ (z : Joined). (z.x == x)
                      && survives u z.path t.coord) j r.joined j_in (λ e. eq-eqb j.x x on_x e && survives_j e))))

          by : (o : Option Act) → top_in (acts_of (book M.lines) a) ≡ o →
              lasts_in (is_on (let X = book M.lines in X.committed)) u (acts_of (book M.lines) a) o ≡ true → is_among (joins_at x) s ≡ true
          by None none e = absurd (cc e)
          by (Some o) top_is e =
              let p = and_parts (uid_eq o.uid u)
              (list_all (λ (y : Act). is_on (let X = book M.lines in X.committed) y.uid) (chain_in (acts_of (book M.lines) a))) e in
              let z = home_of a.act acted o top_is p.0 in
              here z.0 z.1 (subst (λ w. is_on (path_of (book M.lines) a) w ≡ true) (uid_is o.uid u p.0)
              (on_of (acts_of (book M.lines) a) o (top_on (acts_of (book M.lines) a) o top_is)))

  pub starts : (req : ℕ) → IncludesLeft (book M.lines) u (plan_for b.path req (root_at (root_of b.path) t.coord) t.coord)
  starts req = subst (λ v. IncludesLeft (book M.lines) u (record (plan_for b.path req r c)
      { used = map (used_of v r c) (objects_in v r c) })) (sym (let lists = coord.tree.lists in lists.places u b found)) (record {
        rising = rises;
        same = λ x s. same_test (is_among (joins_at x) s) (has_included (book M.lines) u x s) (forth x s) (back x s);
      })
