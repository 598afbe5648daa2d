-- What a coordinator tells of ends is shown, in the whole world: actions end, are aborted, and their ends are told.
use Rattle.arj_law_parts.proofs.Words
use Words.{◌≡◌, ◌≢◌, ◌⊎◌, ◌∙◌, ◌+◌, ◌++◌, ℕ, List, [], ◌∷◌, map, filter, not, Bool, true, false, cond, Option, Some, None, refl, sym, ap}
use Words.{subst, inl, inr, ⊎_elim, arith, length, is_some, in_from, in_to, Body, End, Kind, Label, Uid, first_uid, is_on, uid_eq, uids_of}
use Words.{actor, commit_action, commit_open, Coord, Doing, doing_of, nodes_sent, root_at, servers_told, Did, Effect, Intent, Say}
use Words.{aborts_with, abort_action, all_aborted, ended, ends_with, is_deferred, say_for, says, tell_all, tolds_by, tolds_of}
use Words.{tolds_of_branch, up_to, Branch, branch_of, ends_of, open_below, root_of, numbered}
use Words.list
use Words.body
use Words.cause
use Words.ending
use Words.kind
use Rattle.arj_law_lock_view.proofs.Terms
use Terms.{begun_of, Root, is_action, is_top, root, State, Stands, action_of, Paths, on_own, where_stands, in_more, work_there, IsSteady}
use Terms.{stage_of, Acts, IsReached, AbortsOnly, aborted, committed_at, Goes, GoesWhole, OnlyEnded, SeesWhole, AreAborted, IsTelling}
use Terms.{HasEnded, View, bodies_of, IsTiedToLines, ArePlain, is_plain, Case, IsSeenIn, Spot, view_in, world_at, AreSends, AreSendsShown}
use Terms.{HasStepped, KnowsCoord, StepGoes, coord_at, records_at, AreToldSo, IsToldSo, SeesUp, AreTied, BeginNone}
use Rattle.arj_law_lock_view.proofs.journal.{AbortTies.abort_said, EndTies.doomed_said, EndTies.nested_said, EndTies.serial_said}
use Rattle.arj_law_lock_view.proofs.running
use running.{CoordSteps.coords_go, GoodSteps.steady, OtherSteps.here_of, StepSteps.aborted_stepped, StepSteps.ended_stepped}
use running.{TopSteps.unnested_top}
use running.TieSteps.{none_both, on_page, page_at}
use Rattle.arj_law_lock_view.proofs.view
use view.{AbortInputSteps.actions_are_aborted, OneSteps.end_changed, TreeSteps.action_kind}
use view.InputSteps.{doomed_commits_are_taken, nested_commits_are_taken, to_run}
use view.ListedSteps.{decided_have_ended, listed_have_ended}
use Rattle.arj_law_lock_view.specs.running.Coordinating.{AbortsGo, DoomedCommitsGo, NestedCommitsGo}
use Rattle.std.specs.Prelude.{flat_map}
use Rattle.arj_law_lock_view.proofs.view.AbortSteps as abort

-- ---- lists of messages

-- sends, all shown
abbrev pub AreShownSends : Case → Spot → State → List Effect → Type 0
AreShownSends c s T outs = AreSends outs × AreSendsShown c s T outs

pub sends_app : (c : Case) (s : Spot) (T : State) (xs ys : List Effect) → AreShownSends c s T xs → AreShownSends c s T ys →
    AreShownSends c s T (xs ++ ys)
sends_app c s T [] ys a b = b
sends_app c s T (x ∷ xs) ys a b = let r = sends_app c s T xs ys (a.0.1, a.1.1) b in ((a.0.0, r.0), (a.1.0, r.1))

module _ (c : Case) (s : Spot) (T : State) where
  pub tell_shown : (r : Uid) (ack : Bool) (ends : List (Uid × End)) (ns : List ℕ) → AreToldSo (view_in c s.node) ends T →
      AreShownSends c s T (tell_all r ack ends ns)
  tell_shown r ack ends [] told = (tt, tt)
  tell_shown r ack ends (n ∷ ns) told = let q = tell_shown r ack ends ns told in ((tt, q.0), (λ wide within. told, q.1))

-- one end
pub one_told : (v : View) (T : State) (w : Uid) (g : End) → IsToldSo v T w g → AreToldSo v ((w, g) ∷ []) T
one_told v T w g told u e there = by (in_from {X = Uid × End} (u, e) ((w, g) ∷ []) there)
  where
    by : list.In {X = Uid × End} (u, e) ((w, g) ∷ []) → IsToldSo v T u e
    by (inl is) = subst (λ (p : Uid × End). IsToldSo v T p.0 p.1) is told
    by (inr none) = absurd none

-- what stands up to an end stands in the list
up_in : (u : Uid) (es : List (Uid × End)) (x : Uid × End) → list.In x (up_to u es) → list.In x es
up_in u [] x none = none
up_in u (e ∷ es) x i = by (uid_eq e.0 u) i (up_in u es x)
  where
    by : (t : Bool) → list.In x (cond t (e ∷ []) (e ∷ up_to u es)) → (list.In x (up_to u es) → list.In x es) → list.In x (e ∷ es)
    by true (inl is) ih = inl is
    by true (inr none) ih = absurd none
    by false (inl is) ih = inl is
    by false (inr j) ih = inr (ih j)

-- ---- tolds

module _ (c : Case) (s : Spot) (is_seen : IsSeenIn c (world_at s)) (C : Coord) (knows : KnowsCoord c s C) (T : State)
    (coord : SeesWhole (let f = c.fixed in f.act) (let f = c.fixed in f.code) c.x C T) where
  abbrev V : View
  V = view_in c s.node

  pub telling : IsTelling V C T
  telling = record {
    whole = let a = is_seen.agrees in a.whole;
    good = knows.good;
    works = (let o = knows.on in o.works ∙ (let g = steady c s is_seen in g.works) ∙ sym o.branches);
    actions = let k = coord.coord in k.actions;
    units = coord.units;
  }

  -- the ends of a root
  pub listed_shown : (r u : Uid) → AreToldSo V (up_to u (ends_of r C.tree)) T
  listed_shown r u w e there = so w e
      (listed_have_ended V C (ends_of r C.tree) T telling (let k = knows.sure in k.lists r) (knows.unserial r) w e (in_to {X = Uid × End}
      (w, e) (ends_of r C.tree) (up_in u (ends_of r C.tree) (w, e) (in_from {X = Uid × End} (w, e) (up_to u (ends_of r C.tree)) there))))
    where
      so : (w : Uid) (e : End) → HasEnded V T w e → IsToldSo V T w e
      so w ending.Commit h = h
      so w ending.Abort h = inl h

  -- one abort
  abort_one : (w : Uid) → IsToldSo V T w ending.Abort → AreToldSo V ((w, ending.Abort) ∷ []) T
  abort_one w told = one_told V T w ending.Abort told

  module _ (intents : List (Uid × Intent)) (u : Uid) (q : Branch) (found : branch_of u C.tree ≡ Some q) (e : End) (is : q.ended ≡ Some e)
      (which : (q.kind ≡ kind.Nested) ⊎ ((q.kind ≡ kind.Serial) ⊎ (e ≡ ending.Abort))) where
    -- a serializing action is its unit, and that is over
    unit_over : q.kind ≡ kind.Serial → (T.action (Root (root (let f = c.fixed in f.act u)))).stage ≡ 3
    unit_over serial = coord.units u q found (own q.kind serial (where_stands c.begun (let a = is_seen.agrees in let g = a.whole in
        g.begun) (action_of q) (in_from (action_of q) c.begun (knows.good.known u q found)))) (ap is_some is)
      where
        own : (k : Kind) → k ≡ kind.Serial → Stands c.begun (action_of q) k → root_of q.path ≡ u
        own kind.Serial same stands = ap first_uid stands.0 ∙ knows.good.tree.lists.places u q found
        own kind.Nested same stands = absurd (cc same)
        own kind.Top same stands = absurd (cc same)
        own kind.Constituent same stands = absurd (cc same)
        own kind.Independent same stands = absurd (cc same)

    not_action : q.kind ≡ kind.Serial → is_action (let f = c.fixed in f.act u) ≡ true → is_top (let f = c.fixed in f.act u) ≡ true
    not_action serial = subst (λ (z : Uid). is_action (let f = c.fixed in f.act z) ≡ true →
        is_top (let f = c.fixed in f.act z) ≡ true) (knows.good.tree.lists.places u q found)
        (unnested_top (let f = c.fixed in f.act (actor q.path)) q.kind (let a = is_seen.agrees in let g = a.whole in
        g.placed (action_of q) (knows.good.known u q found)) (λ nested. cc (sym serial ∙ nested)))

    pub tolds_shown : AreShownSends c s T (tolds_of intents C u)
    tolds_shown = subst (λ (o : Option Branch). AreShownSends c s T (tolds_of_branch u intents C o)) (sym found) (by q.kind refl)
      where
        top : (k : Kind) → q.kind ≡ k → k ≢ kind.Nested → k ≢ kind.Serial →
            AreShownSends c s T (tell_all (root_of q.path) false ((u, ending.Abort) ∷ []) (nodes_sent u (root_at (root_of q.path) C)))
        top k same nested serial =
            tell_shown c s T (root_of q.path) false ((u, ending.Abort) ∷ []) (nodes_sent u (root_at (root_of q.path) C)) (abort_one u
            (inl (decided_have_ended V C u ending.Abort q T telling found (is ∙ ap Some abort) (λ bad. serial (sym same ∙ bad)))))
          where
            abort : e ≡ ending.Abort
            abort = ⊎_elim (λ bad. absurd (nested (sym same ∙ bad)))
                (λ more. ⊎_elim (λ bad. absurd (serial (sym same ∙ bad))) (λ it. it) more) which

        by : (k : Kind) → q.kind ≡ k → AreShownSends c s T (tolds_by u k q.path intents C)
        by kind.Nested k = tell_shown c s T (root_of q.path) false (up_to u (ends_of (root_of q.path) C.tree))
            (servers_told u (root_at (root_of q.path) C) C) (listed_shown (root_of q.path) u)
        by kind.Serial k = tell_shown c s T u false ((u, ending.Abort) ∷ [])
            (filter (λ n. not (is_deferred u intents n)) (nodes_sent u (root_at u C))) (abort_one u (inr (inl (unit_over k, not_action k))))
        by kind.Top k = top kind.Top k (λ bad. cc bad) (λ bad. cc bad)
        by kind.Constituent k = top kind.Constituent k (λ bad. cc bad) (λ bad. cc bad)
        by kind.Independent k = top kind.Independent k (λ bad. cc bad) (λ bad. cc bad)

-- ---- one line and tolds

-- the line of the end
abbrev line_of : Kind → Label → Body
line_of kind.Serial l = body.Ended l
line_of _ l = body.Committed l

line_none : (k : Kind) (l : Label) → begun_of (line_of k l) ≡ None
line_none kind.Serial l = refl
line_none kind.Nested l = refl
line_none kind.Top l = refl
line_none kind.Constituent l = refl
line_none kind.Independent l = refl

module _ (c : Case) (s : Spot) (e : ℕ) (is_seen : IsSeenIn c (world_at s)) (u : Uid) (b : Branch) (d : Doing)
    (found : branch_of u (coord_at s).tree ≡ Some b) (works : doing_of u (coord_at s) ≡ Some d) (C : Coord) (knows : KnowsCoord c s C) where
  -- an action ends by its line, and that is told
  end_goes : (how : End) (line : Label → Body) (D : Did Coord) →
      D ≡ record { part = C; outs = says u line (coord_at s) ++ tolds_of (records_at s) C u } → (q : Branch) → branch_of u C.tree ≡ Some q →
      q.ended ≡ Some how → (q.kind ≡ kind.Nested) ⊎ ((q.kind ≡ kind.Serial) ⊎ (how ≡ ending.Abort))
      → begun_of (line d.label) ≡ None → Goes c.state (λ T. HasStepped c s u 1 C T
      × AreTied c.fixed c.x ((let M = s.seen in M.lines) ++ numbered e (line d.label ∷ [])) T) → StepGoes c s e D
  end_goes how line D is q there ended_so which none g =
      let h = g.holds.0 in
      let t = tolds_shown c s is_seen C knows g.state h.coord (records_at s) u q there how ended_so which in
      subst (StepGoes c s e) (sym (is ∙ (λ i. record { part = C; outs = say_for line (works i) ++ tolds_of (records_at s) C u })))
      (coords_go c s e u b (line d.label ∷ []) (tolds_of (records_at s) C u) C g.state is_seen found knows.on t.0 h t.1 (none, tt)
      g.holds.1)

-- how the action ended
pub ended_here : (c : Coord) (u : Uid) (b : Branch) (d : Doing) (e : End) → branch_of u c.tree ≡ Some b → doing_of u c ≡ Some d →
    branch_of u (let k = ended u e c in k.tree) ≡ Some (record b { ended = Some e })
ended_here c u b d e found works = let o = end_changed c u b d found works e in o.branch

pub nested_commits_go : NestedCommitsGo
nested_commits_go c s e u b d is_seen free kinds undoomed childless knows =
    end_goes c s e is_seen u b d free.there free.works C knows' ending.Commit line D did_is (record b { ended = Some ending.Commit })
    (ended_here (coord_at s) u b d ending.Commit free.there free.works) refl (⊎_elim (λ n. inl n) (λ k. inr (inl k)) kinds)
    (line_none b.kind d.label)
    (to_run (nested_commits_are_taken (let f = c.fixed in f.act) (let f = c.fixed in f.code) (let f = c.fixed in
    f.paths) c.x (length (let M = s.seen in M.lines) + 1) (coord_at s) u b d (records_at s) c.state reached_S free kinds undoomed
    childless (let z = is_seen.sees in z.now) here.coord)
    (λ T run h. (
      ended_stepped c s is_seen u b free.there 1 C T (committed_at (length (let M = s.seen in M.lines) + 1) (let S = c.state in
          S.action (let f = c.fixed in f.act u))) run (subst (λ (q : Coord). SeesWhole (let f = c.fixed in f.act) (let f = c.fixed in
          f.code) c.x q T) part_is h.0) h.1.0 h.1.2 (let k = h.1.1 in omega (arith, k)),
      ⊎_elim (λ n. as_line T kind.Nested n
          (λ values is. nested_said (let f = c.fixed in f.act) (let f = c.fixed in f.code) (let f = c.fixed in f.paths) c.x
          (page_at s e values) (coord_at s) u b d c.state T free (on_page c s e is_seen values is) here.coord h.1.0 h.1.1 h.1.2))
          (λ k. as_line T kind.Serial k
          (λ values is. serial_said (let f = c.fixed in f.act) (let f = c.fixed in f.code) (let f = c.fixed in f.paths) c.x
          (page_at s e values) (coord_at s) u b d c.state T free (on_page c s e is_seen values is) here.coord h.1.0 k h.1.1 h.1.2))
          kinds,
    )))
  where
    D : Did Coord
    D = commit_action b (records_at s) (coord_at s)

    C : Coord
    C = ended u ending.Commit (coord_at s)

    line : Label → Body
    line = line_of b.kind

    as_line : (T : State) (k : Kind) → b.kind ≡ k → AreTied c.fixed c.x ((let M = s.seen in M.lines) ++ numbered e (line_of k d.label ∷ []))
        T → AreTied c.fixed c.x ((let M = s.seen in M.lines) ++ numbered e (line d.label ∷ [])) T
    as_line T k is tied =
        subst (λ (k : Kind). AreTied c.fixed c.x ((let M = s.seen in M.lines) ++ numbered e (line_of k d.label ∷ [])) T) (sym is) tied

    its : actor b.path ≡ u
    its = free.steady.good.tree.lists.places u b free.there

    here : SeesUp (view_in c s.node) c.state s.disk s.parts
    here = here_of c.fixed c.x c.begun s.node s.disk (Some s.parts) c.state s.seen is_seen.sees

    reached_S : IsReached c.state
    reached_S = let z = is_seen.sees in (let f = c.fixed in f.first, z.run)

    did_is : D ≡ record { part = C; outs = says u line (coord_at s) ++ tolds_of (records_at s) C u }
    did_is = (λ i. cond (undoomed i) (aborts_with (actor b.path) cause.Doomed (records_at s) (coord_at s)) (commit_open b (records_at s)
        (coord_at s) b.kind)) ∙ by kinds ∙ (λ i. ends_with (its i) ending.Commit line (records_at s) (coord_at s))
      where
        by : (b.kind ≡ kind.Nested) ⊎ (b.kind ≡ kind.Serial) →
            commit_open b (records_at s) (coord_at s) b.kind ≡ ends_with (actor b.path) ending.Commit line (records_at s) (coord_at s)
        by (inl is) = (λ i. commit_open b (records_at s) (coord_at s) (is i))
            ∙ (λ i. ends_with (actor b.path) ending.Commit (line_of (sym is i)) (records_at s) (coord_at s))
        by (inr is) = (λ i. commit_open b (records_at s) (coord_at s) (is i))
            ∙ (λ i. ends_with (actor b.path) ending.Commit (line_of (sym is i)) (records_at s) (coord_at s))

    part_is : D.part ≡ C
    part_is = ap (λ (d : Did Coord). d.part) did_is

    knows' : KnowsCoord c s C
    knows' = subst (KnowsCoord c s) part_is knows

pub doomed_commits_go : DoomedCommitsGo
doomed_commits_go c s e u b d is_seen free doomed childless knows =
    end_goes c s e is_seen u b d free.there free.works C (subst (KnowsCoord c s) part_is knows) ending.Abort
    (λ l. body.Aborted l cause.Doomed) D did_is (record b { ended = Some ending.Abort })
    (ended_here (coord_at s) u b d ending.Abort free.there free.works) refl (inr (inr refl)) refl
    (to_run (doomed_commits_are_taken (let f = c.fixed in f.act) (let f = c.fixed in f.code) (let f = c.fixed in
    f.paths) c.x (length (let M = s.seen in M.lines) + 1) (coord_at s) u b d (records_at s) c.state reached_S free doomed childless
    (let z = is_seen.sees in z.now) here.coord)
    (λ T run h. (
      ended_stepped c s is_seen u b free.there 1 C T (aborted (let S = c.state in S.action (let f = c.fixed in f.act u))) run
          (subst (λ (q : Coord). SeesWhole (let f = c.fixed in f.act) (let f = c.fixed in f.code) c.x q T) part_is h.0) h.1.0 h.1.2
          (let k = h.1.1 in let z = is_seen.sees in let n = z.now in omega (arith, k, n)),
      λ values is. doomed_said (let f = c.fixed in f.act) (let f = c.fixed in f.code) (let f = c.fixed in f.paths) c.x (page_at s e values)
          (coord_at s) u b d c.state T free (on_page c s e is_seen values is) here.coord h.1.0 h.1.1 h.1.2,
    )))
  where
    D : Did Coord
    D = commit_action b (records_at s) (coord_at s)

    C : Coord
    C = ended u ending.Abort (coord_at s)

    here : SeesUp (view_in c s.node) c.state s.disk s.parts
    here = here_of c.fixed c.x c.begun s.node s.disk (Some s.parts) c.state s.seen is_seen.sees

    reached_S : IsReached c.state
    reached_S = let z = is_seen.sees in (let f = c.fixed in f.first, z.run)

    did_is : D ≡ record { part = C; outs = says u (λ l. body.Aborted l cause.Doomed) (coord_at s) ++ tolds_of (records_at s) C u }
    did_is = (λ i. cond (doomed i) (aborts_with (actor b.path) cause.Doomed (records_at s) (coord_at s))
        (commit_open b (records_at s) (coord_at s) b.kind))
        ∙ (λ i. aborts_with (free.steady.good.tree.lists.places u b free.there i) cause.Doomed (records_at s) (coord_at s))

    part_is : D.part ≡ C
    part_is = ap (λ (d : Did Coord). d.part) did_is

-- ---- an abort with all that is open below it

-- what is said is lines alone
says_by : (f : Label → Body) (o : Option Doing) → (bs : List Body) × (say_for f o ≡ map Say bs)
says_by f None = ([], refl)
says_by f (Some d) = (f d.label ∷ [], refl)

abbrev says_lines : (u : Uid) (f : Label → Body) (c : Coord) → (bs : List Body) × (says u f c ≡ map Say bs)
says_lines u f c = says_by f (doing_of u c)

pub plain_app : (xs ys : List Body) → ArePlain xs → ArePlain ys → ArePlain (xs ++ ys)
plain_app [] ys a b = b
plain_app (x ∷ xs) ys a b = (a.0, plain_app xs ys a.1 b)

map_app : (xs ys : List Body) → map Say xs ++ map Say ys ≡ map Say (xs ++ ys)
map_app [] ys = refl
map_app (x ∷ xs) ys = ap (λ zs. Say x ∷ zs) (map_app xs ys)

-- so is what is said of each in a list
pub flat_says : {A : Type 0} (u : Uid) (c : Coord) (g : A → Label → Body) (xs : List A) →
    (bs : List Body) × (flat_map (λ (a : A). says u (g a) c) xs ≡ map Say bs)
flat_says u c g [] = ([], refl)
flat_says u c g (a ∷ xs) =
    let h = says_lines u (g a) c in
    let r = flat_says u c g xs in
    (h.0 ++ r.0, (λ i. h.1 i ++ r.1 i) ∙ map_app h.0 r.0)

pub flat_plain : {A : Type 0} (u : Uid) (c : Coord) (g : A → Label → Body) → ((a : A) (l : Label) → is_plain (g a l) ≡ true) →
    (xs : List A) → ArePlain (let r = flat_says u c g xs in r.0)
unfolding flat_says says_by
flat_plain u c g plain [] = tt
flat_plain u c g plain (a ∷ xs) = plain_app (says_lines u (g a) c).0 (flat_says u c g xs).0 (one (doing_of u c)) (flat_plain u c g plain xs)
  where
    one : (o : Option Doing) → ArePlain (says_by (g a) o).0
    one None = tt
    one (Some d) = (plain a d.label, tt)

aborts_say : (us : List Uid) (c : Coord) → (bs : List Body) × ((let d = all_aborted us c in d.outs) ≡ map Say bs)
aborts_say [] c = ([], refl)
aborts_say (u ∷ us) c =
    let a = says_lines u (λ l. body.Aborted l cause.Asked) c in
    let r = aborts_say us (ended u ending.Abort c) in
    (a.0 ++ r.0, (λ i. a.1 i ++ r.1 i) ∙ map_app a.0 r.0)

-- what they say begins no action
aborts_none : (us : List Uid) (c : Coord) → BeginNone (aborts_say us c).0
unfolding aborts_say says_by
aborts_none [] c = tt
aborts_none (u ∷ us) c = none_both (says_lines u (λ l. body.Aborted l cause.Asked) c).0 (aborts_say us (ended u ending.Abort c)).0
    (one (doing_of u c)) (aborts_none us (ended u ending.Abort c))
  where
    one : (o : Option Doing) → BeginNone (says_by (λ l. body.Aborted l cause.Asked) o).0
    one None = tt
    one (Some d) = (refl, tt)

bodies_says : (bs : List Body) → bodies_of (map Say bs) ≡ bs
bodies_says [] = refl
bodies_says (b ∷ bs) = ap (λ cs. b ∷ cs) (bodies_says bs)

all_told : (c : Case) (s : Spot) (T : State) (f : Uid → List Effect) (us : List Uid) →
    ((w : Uid) → list.In w us → AreShownSends c s T (f w)) → AreShownSends c s T (flat_map f us)
all_told c s T f [] each = (tt, tt)
all_told c s T f (u ∷ us) each = sends_app c s T (f u) (flat_map f us) (each u (inl refl)) (all_told c s T f us (λ w i. each w (inr i)))

pub aborts_go : AbortsGo
aborts_go c s e u b is_seen found unended knows =
    subst (StepGoes c s e) (sym did_is)
    (coords_go c s e u b lines.0 (flat_map (tolds_of (records_at s) C) us) C T is_seen found knows.on shown.0
    (aborted_stepped c s is_seen u b found (length lines.0) C T g.run g.holds.0 g.holds.1.0 g.holds.1.1.2 (let k = g.holds.1.1.0 in
    let z = is_seen.sees in let n = z.now in omega (arith, k, n))) shown.1 (aborts_none us (coord_at s))
    (λ values is. subst (λ bs. IsTiedToLines act (let f = c.fixed in f.code) values c.x ((let M = s.seen in M.lines) ++ numbered e bs) T)
    (ap bodies_of lines.1 ∙ bodies_says lines.0)
    (abort_said act (let f = c.fixed in f.code) paths c.x (page_at s e values) (coord_at s) u b (records_at s) c.state T st found unended
    (on_page c s e is_seen values is) here.coord g.holds.1.0 g.holds.1.1.0 g.holds.1.1.1 g.holds.1.1.2)))
  where
    act : Acts
    act = let f = c.fixed in f.act

    paths : Paths
    paths = let f = c.fixed in f.paths

    D : Did Coord
    D = abort_action u (records_at s) (coord_at s)

    C : Coord
    C = D.part

    us : List Uid
    us = open_below u (let q = coord_at s in q.tree) ++ u ∷ []

    lines : (bs : List Body) × ((let d = all_aborted us (coord_at s) in d.outs) ≡ map Say bs)
    lines = aborts_say us (coord_at s)

    did_is : D ≡ record { part = C; outs = map Say lines.0 ++ flat_map (tolds_of (records_at s) C) us }
    did_is = λ i. record { part = C; outs = lines.1 i ++ flat_map (tolds_of (records_at s) C) us }

    here : SeesUp (view_in c s.node) c.state s.disk s.parts
    here = here_of c.fixed c.x c.begun s.node s.disk (Some s.parts) c.state s.seen is_seen.sees

    st : IsSteady act paths (coord_at s)
    st = steady c s is_seen

    g : GoesWhole act (let f = c.fixed in
        f.code) c.x C c.state (λ T. OnlyEnded (root (act u)) c.state T × ((T.now ≡ (let S = c.state in S.now))
        × AreAborted act paths (let q = coord_at s in q.tree) u T × AbortsOnly act paths (let q = coord_at s in q.tree) u c.state T))
    g = actions_are_aborted act (let f = c.fixed in f.code) paths c.x (coord_at s) u b (records_at s) c.state (let z = is_seen.sees in
        (let f = c.fixed in f.first, z.run)) st found unended here.coord

    T : State
    T = g.state

    below_it : (w : Uid) → list.In w us →
        (q : Branch) × (branch_of w (let k = coord_at s in k.tree) ≡ Some q) × (is_some q.ended ≡ false) × (is_on (paths w) u ≡ true)
    below_it w i = ⊎_elim
        (λ j. let q = abort.is_below_it act (let f = c.fixed in f.code) paths c.x (coord_at s) u b (records_at s) c.state st found unended
        here.coord.units here.coord.coord w j in (q.0, q.1, q.2, q.4))
        (λ (is : u ≡ w). subst (λ (v : Uid). (q : Branch) × (branch_of v (let k = coord_at s in k.tree) ≡ Some q)
        × (is_some q.ended ≡ false) × (is_on (paths v) u ≡ true)) is (
          b,
          found,
          unended,
          ap (λ (vs : List Uid). is_on vs u) (sym (st.good.tree.lists.paths_are u b found))
              ∙ ap (is_on (uids_of b.path)) (sym (st.good.tree.lists.places u b found)) ∙ on_own b.path,
        ))
        (in_more w (open_below u (let q = coord_at s in q.tree)) u i)

    told : (w : Uid) → list.In w us → AreShownSends c s T (tolds_of (records_at s) C w)
    told w i = by q.ended refl (abort.over_E act (let f = c.fixed in
        f.code) paths c.x (coord_at s) u b (records_at s) c.state st found unended here.coord.units here.coord.coord w q there r.3)
      where
        r : (q : Branch) × (branch_of w (let k = coord_at s in k.tree) ≡ Some q) × (is_some q.ended ≡ false) × (is_on (paths w) u ≡ true)
        r = below_it w i

        k : (q : Branch) × (branch_of w C.tree ≡ Some q) × (q.kind ≡ (let z = r.0 in z.kind))
        k = let o = knows.on in o.kinds w r.0 r.1

        q : Branch
        q = k.0

        there : branch_of w C.tree ≡ Some q
        there = k.1

        -- who commits isn't aborted
        abort_of : (how : End) → q.ended ≡ Some how → q.kind ≢ kind.Serial → how ≡ ending.Abort
        abort_of ending.Abort is plain = refl
        abort_of ending.Commit is plain =
            let its : is_action (act w) ≡ true = action_kind (act w) (let z = r.0 in
            z.kind) (λ bad. plain (k.2 ∙ bad)) (st.placed w r.0 r.1) in
            let d = work_there C (let o = knows.on in o.works ∙ st.works ∙ sym o.branches) w q there in
            let a = g.holds.0.coord.actions.each w q d.0 there d.1 its in
            let three : (T.action (act w)).stage ≡ 3 = a.stage ∙ (λ j. stage_of (is j) (let y = d.0 in y.now)) in
            let four : (T.action (act w)).stage ≡ 4 = g.holds.1.1.1 w r.0 r.1 r.2 r.3 its in
            absurd (omega (arith, three, four))

        kinds : (how : End) → q.ended ≡ Some how → (kd : Kind) → q.kind ≡ kd →
            (q.kind ≡ kind.Nested) ⊎ ((q.kind ≡ kind.Serial) ⊎ (how ≡ ending.Abort))
        kinds how is kind.Nested same = inl same
        kinds how is kind.Serial same = inr (inl same)
        kinds how is kind.Top same = inr (inr (abort_of how is (λ bad. cc (sym same ∙ bad))))
        kinds how is kind.Constituent same = inr (inr (abort_of how is (λ bad. cc (sym same ∙ bad))))
        kinds how is kind.Independent same = inr (inr (abort_of how is (λ bad. cc (sym same ∙ bad))))

        by : (o : Option End) → q.ended ≡ o → is_some q.ended ≡ true → AreShownSends c s T (tolds_of (records_at s) C w)
        by None is some = absurd (cc (sym (ap is_some is) ∙ some))
        by (Some how) is some = tolds_shown c s is_seen C knows T g.holds.0 (records_at s) w q there how is (kinds how is q.kind refl)

    shown : AreShownSends c s T (flat_map (tolds_of (records_at s) C) us)
    shown = all_told c s T (tolds_of (records_at s) C) us told
