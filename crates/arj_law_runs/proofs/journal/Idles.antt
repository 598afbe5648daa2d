-- A committed top in which nobody took part is idle, and an idle top has no surviving call and no surviving include.
use Rattle.arj_law_parts.proofs.Words
use Words.{◌≡◌, ◌≢◌, ◌≤◌, arith, ℕ, zero, suc, ◌+◌, List, [], ◌∷◌, length, true, false, Option, Some, None, refl, sym, ◌∙◌, ap, subst, inl}
use Words.{inr, ⊎_elim, Contains, if◌then◌else◌, uid_cases, before_last, first_uid, front, is_on, Body, Line, In, in_from, in_to, Coord}
use Words.{root_at, Disk, Parts, Branch, Tree, behind, branch_of, ended_so, has_end as has_end_so, root_of, End, Kind, Uid, uids_of, name}
use Words.{Seen, is_serial}
use Words.ending
use Words.kind
use Rattle.arj_law_runs.proofs.Terms
use Terms.{Act, Placed, act_in, acts_after, path, put, read, uids, Said, said_of, Inclusion, included_of, paths_of, IsGoodCoord}
use Terms.{IsTree, Paths, HasLists, above_of, found_by, shorter, work_there, up, Access, Book, book, book_from, is_top, new_book, turned}
use Terms.{with_access, IsIdle, HasNoted, IsEnd, IsKept, IsKnown, KnowsUp, root_in, AreRight, Right}
use Terms.body
use Rattle.arj_law_runs.proofs.journal
use journal.{Books.never, Likes.some_is, Models.acts_turn, Models.named_in, Ties.named_label, Ties.path_old, Walks.its_own}
use journal.Closed.{Stands, stands_lines, stands_new, stands_turn}
use Rattle.arj_law_runs.proofs.kept.Handled.{good_coord, one_tree}
use Rattle.arj_law_runs.specs.{coordinators.Uses.IsUsed, journal.Idle.IsLeftAlone}

-- ---- one root

first_front : (us : List Uid) (h : Uid) → before_last us ≡ Some h → first_uid (front us) ≡ first_uid us
first_front [] h is = refl
first_front (u ∷ []) h is = cc is
first_front (u ∷ w ∷ us) h is = refl

module _ (paths : Paths) (tree : IsTree paths) (t : Tree) (lists : HasLists paths t) where
  -- who is on a path has its root
  pub root_same : (u : Uid) (k : ℕ) (v : Uid) (b : Branch) → length (paths v) ≤ k → branch_of v t ≡ Some b → is_on (paths v) u ≡ true →
      first_uid (paths v) ≡ first_uid (paths u)
  root_same u zero v b short found on = absurd (none (paths v) short on)
    where
      none : (us : List Uid) → length us ≤ 0 → is_on us u ≡ true → ⊥
      none [] le e = cc e
      none (x ∷ us) le e = absurd (omega (arith, le))
  root_same u (suc k) v b short found on = ⊎_elim
      (λ same. ap (λ w. first_uid (paths w)) same)
      (λ other.
      let a = above_of paths tree t lists u v b found on other in
      let p = lists.parents v a.0 b found a.1 in
      sym (first_front (paths v) a.0 a.1) ∙ ap first_uid a.3
      ∙ root_same u k a.0 p.0 (shorter paths tree t lists v a.0 k a.1 a.3 short) p.1 a.2)
      (uid_cases v u)

-- ---- who was left alone is idle

unnested : (h : Kind) → is_top h ≡ true → h ≢ kind.Nested
unnested h top is = never top (ap is_top is)

unserial : (h : Kind) → is_top h ≡ true → h ≢ kind.Serial
unserial h top is = never top (ap is_top is)

plain : (h : Kind) → is_top h ≡ true → is_serial h ≡ false
plain kind.Top top = refl
plain kind.Independent top = refl
plain kind.Constituent top = refl
plain kind.Nested top = absurd (cc top)
plain kind.Serial top = absurd (cc top)

pub alone_is_idle : (k : ℕ) (d : Disk) (t : Parts) (M : Seen) → IsKept (up k d t M) → (u : Uid) → IsLeftAlone t.coord u →
    IsIdle (book M.lines) u
alone_is_idle k d t M (good, w) u left = record { called = was_called; cut = cut }
  where
    B : Book
    B = book M.lines

    c : Coord
    c = t.coord

    up_now : KnowsUp (book M.lines) d.intents t.coord
    up_now = let o = its_own k d (Some t) M w in o.live t refl

    coord : IsGoodCoord good.0 (paths_of good.0) t.coord
    coord = good_coord 0 k d t M good

    tree : IsTree (paths_of good.0)
    tree = one_tree 0 k d t M good

    works : length t.coord.doings ≡ length t.coord.tree.branches
    works = let n = up_now in let m = n.tops in let h = m.names in h.count

    stands : Stands (book M.lines)
    stands = stands_lines new_book M.lines w.right stands_new

    known : IsKnown (book M.lines) u (let b = left.branch in b.kind) (let b = left.branch in b.ended) (let q = left.doing in q.label)
    known = let n = up_now in let m = n.knows in m.acts u left.branch left.doing left.found left.does

    was_called : is_on (let X = book M.lines in X.called) u ≡ true
    was_called =
        let X = book M.lines in
        let s = known in
        let end : IsEnd X u (let b = left.branch in
        b.kind) (Some ending.Commit) = subst (IsEnd X u (let b = left.branch in b.kind)) left.committed s.end in
        let on : is_on X.committed u ≡ true = sym
        (ap (λ x. if x then is_on X.ended u else is_on X.committed u) (plain (let b = left.branch in b.kind) left.top)) ∙ end in
        let z = stands in
        let h = z.closes in
        ap (is_on X.called) (sym s.uid) ∙ h.tops s.act (named_in X.acts (name (let q = left.doing in q.label)) s.act s.named)
        (ap is_top s.kind ∙ left.top) (ap (is_on X.committed) s.uid ∙ on)

    -- who was aborted here was aborted by the journal
    aborted : (v : Uid) (o : Option Branch) → branch_of v t.coord.tree ≡ o → ended_so ending.Abort o ≡ true →
        is_on (let X = book M.lines in X.aborted) v ≡ true
    aborted v None at is = absurd (cc is)
    aborted v (Some b) at is =
        let q = work_there t.coord works v b at in
        let n = up_now in
        let m = n.knows in
        let s = m.acts v b q.0 at q.1 in
        by b.ended is s.end
      where
        by : (o : Option End) → has_end_so ending.Abort o ≡ true → IsEnd (book M.lines) v b.kind o →
            is_on (let X = book M.lines in X.aborted) v ≡ true
        by None e i = absurd (cc e)
        by (Some ending.Commit) e i = absurd (cc e)
        by (Some ending.Abort) e i = i

    cut : (a : Access) → Contains (let X = book M.lines in X.accesses) a →
        is_on (uids (path (let X = book M.lines in X.acts) (let x = a.act in x.label))) u ≡ true
        → (v : Uid) × (is_on (behind u (uids (path (let X = book M.lines in X.acts) (let x = a.act in x.label)))) v ≡ true)
        × (is_on (let X = book M.lines in X.aborted) v ≡ true)
    cut a there on =
        let X = book M.lines in
        let n = up_now in
        let kn = n.knows in
        let ties = kn.ties in
        let z = stands in
        let sane = z.sane in
        let began = sane.acted a there in
        let home = ties.homes a.act u began on (found_by u t.coord.tree left.branch left.found).0 in
        let b = home.0 in
        let is = ties.paths a.act b began home.1 in
        let here : is_on (uids_of b.path) u ≡ true = ap (λ us. is_on us u) (sym is) ∙ on in
        let lists = coord.tree.lists in
        let root : root_of b.path ≡ root_of (let y = left.branch in y.path) =
        ap first_uid (lists.paths_are (let x = a.act in x.uid) b home.1)
        ∙ root_same (paths_of good.0) tree t.coord.tree lists u (length (paths_of good.0 (let x = a.act in x.uid))) (let x = a.act in
        x.uid) b (omega arith) home.1 (ap (λ us. is_on us u) (sym (lists.paths_are (let x = a.act in x.uid) b home.1)) ∙ here)
        ∙ ap first_uid (sym (lists.paths_are u left.branch left.found)) in
        let m = n.tops in
        let uses = m.uses in
        let x = uses.alone u (record {
          branch = left.branch;
          doing = left.doing;
          found = left.found;
          does = left.does;
          committed = left.committed;
          unnested = unnested (let y = left.branch in y.kind) left.top;
          unserial = unserial (let y = left.branch in y.kind) left.top;
          took = left.took;
        })
        (uids_of b.path) (subst (λ r. IsUsed (uids_of b.path) (root_at r t.coord)) root
        (used a.store a.x (uids_of b.path) (root_of b.path) (ties.noted a b there home.1))) here in
        (x.0, ap (λ us. is_on (behind u us) x.0) is ∙ x.1, aborted x.0 (branch_of x.0 t.coord.tree) refl x.2)
      where
        used : (o : Option ℕ) (y : ℕ) (us : List Uid) (r : Uid) → HasNoted o y us (root_in r t.coord.roots) → IsUsed us (root_at r t.coord)
        used None y us r (s, i, p, at) = inl (s, i, p)
        used (Some m) y us r (inl (j, i, p, at, store)) = inr (j, i, p)
        used (Some m) y us r (inr (s, i, p, at)) = inl (s, i, p)

-- ---- an idle top has nothing

-- a list of lines adds accesses, and leaves paths
module _ {A : Type 0} (f : List Act → Body → Option A) (path_of : A → List Act) (step : (B : Book) (b : Body) (v : A) → Right B b →
    f B.acts b ≡ Some v → (a : Access) × In a (let V = turned B b in V.accesses)
    × (path_of v ≡ path (let V = turned B b in V.acts) (let c = a.act in c.label))) where
  accesses_stay : (B : Book) (ls : List Line) (a : Access) → In a B.accesses → In a (let V = book_from B ls in V.accesses)
  accesses_stay B [] a i = i
  accesses_stay B (l ∷ ls) a i = accesses_stay (turned B l.body) ls a (one l.body)
    where
      more : (o : Option Act) (x : ℕ) (s : Option ℕ) → In a (with_access o x s B.accesses)
      more None x s = i
      more (Some b) x s = inr i

      one : (b : Body) → In a (let V = turned B b in V.accesses)
      one (body.Ok m x o r) = more (act_in B.acts (name m)) x None
      one (body.Includes m x n) = more (act_in B.acts (name m)) x (Some n)
      one (body.Began m h w p) = i
      one (body.Committing m) = i
      one (body.Committed m) = i
      one (body.Aborted m c) = i
      one (body.Ended m) = i
      one (body.Recovered n w) = i
      one b = i

  paths_stay : (B : Book) (ls : List Line) (a : Act) → AreRight B ls → In a B.acts →
      path (let V = book_from B ls in V.acts) a.label ≡ path B.acts a.label
  paths_stay B [] a right i = refl
  paths_stay B (l ∷ ls) a right i = let s = one l.body right.0 in paths_stay (turned B l.body) ls a right.1 s.1 ∙ s.0
    where
      one : (b : Body) → Right B b →
          (path (let V = turned B b in V.acts) a.label ≡ path B.acts a.label) × In a (let V = turned B b in V.acts)
      one (body.Began m h w p) r =
          (path_old (record { id = length B.acts; label = name m; kind = h; uid = w; parent = _ }) B.acts a r.0 i, inr i)
      one (body.Committing m) r = (refl, i)
      one (body.Committed m) r = (refl, i)
      one (body.Aborted m c) r = (refl, i)
      one (body.Ended m) r = (refl, i)
      one (body.Recovered n w) r = (refl, i)
      one (body.Ok m x o q) r = (refl, i)
      one (body.Includes m x n) r = (refl, i)
      one b r = (refl, i)

  pub of_access : (B : Book) (n : ℕ) (ls : List Line) → AreRight B ls → Stands B → (e : Placed A) → In e (read f B.acts n ls) → (a : Access)
      × In a (let V = book_from B ls in V.accesses) × (path_of e.it ≡ path (let V = book_from B ls in V.acts) (let c = a.act in c.label))
  of_access B n [] right s e i = absurd i
  of_access B n (l ∷ ls) right s e i = by (f B.acts l.body) refl i
      (λ j. of_access V (n + 1) ls right.1 next e (subst (λ xs. In e (read f xs (n + 1) ls)) (sym (acts_turn B l.body)) j))
    where
      V : Book
      V = turned B l.body

      next : Stands (turned B l.body)
      next = stands_turn B l.body right.0 s

      by : (o : Option A) → f B.acts l.body ≡ o → In e (put n o (read f (acts_after B.acts l.body) (n + 1) ls)) →
          (In e (read f (acts_after B.acts l.body) (n + 1) ls) → (a : Access) × In a (let X = book_from (turned B l.body) ls in X.accesses)
          × (path_of e.it ≡ path (let X = book_from (turned B l.body) ls in X.acts) (let c = a.act in c.label)))
          → (a : Access) × In a (let X = book_from (turned B l.body) ls in X.accesses)
          × (path_of e.it ≡ path (let X = book_from (turned B l.body) ls in X.acts) (let c = a.act in c.label))
      by None is j ih = ih j
      by (Some v) is (inr j) ih = ih j
      by (Some v) is (inl same) ih =
          let a = step B l.body v right.0 is in
          let sane = next.sane in
          let began = sane.acted a.0 (in_to a.0 (let X = turned B l.body in X.accesses) a.1) in (
            a.0,
            accesses_stay (turned B l.body) ls a.0 a.1,
            ap (λ (x : Placed A). path_of x.it) (sym same) ∙ a.2 ∙ sym (paths_stay (turned B l.body) ls (let y = a.0 in
                y.act) right.1 (in_from (let y = a.0 in y.act) (let X = turned B l.body in X.acts) began)),
          )

pub said_step : (B : Book) (b : Body) (v : Said) → Right B b → said_of B.acts b ≡ Some v →
    (a : Access) × In a (let V = turned B b in V.accesses) × (v.path ≡ path (let V = turned B b in V.acts) (let c = a.act in c.label))
said_step B (body.Ok l x o r) v (s, opened, quiet) is =
    let new : Access = record { act = s; x = x; store = None } in (
      new,
      subst (In new) (sym (ap (λ z. with_access z x None B.accesses) opened.named)) (inl refl),
      ap (λ (y : Said). y.path) (sym (some_is _ v is)) ∙ ap (path B.acts) (sym (named_label B.acts (name l) s opened.named)),
    )
said_step B b v right is = absurd (cc is)

pub included_step : (B : Book) (b : Body) (v : Inclusion) → Right B b → included_of B.acts b ≡ Some v →
    (a : Access) × In a (let V = turned B b in V.accesses) × (v.path ≡ path (let V = turned B b in V.acts) (let c = a.act in c.label))
included_step B (body.Includes l x n) v (s, opened, quiet) is =
    let new : Access = record { act = s; x = x; store = Some n } in (
      new,
      subst (In new) (sym (ap (λ z. with_access z x (Some n) B.accesses) opened.named)) (inl refl),
      ap (λ (y : Inclusion). y.path) (sym (some_is _ v is)) ∙ ap (path B.acts) (sym (named_label B.acts (name l) s opened.named)),
    )
included_step B b v right is = absurd (cc is)
