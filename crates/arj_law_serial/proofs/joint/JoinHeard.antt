-- An include that is answered is noted as such by its root, and nothing else is a new access of the journal.
use Rattle.arj_law_parts.proofs.Words
use Words.{◌≡◌, ◌⊎◌, ◌==◌, ◌&&◌, ◌∙◌, ℕ, Bool, true, false, cond, List, [], ◌∷◌, Option, Some, None, Contains, ap, inl, inr, refl, subst}
use Words.{sym, ⊎_elim, eqb-true, unwrap_or, AllByRecursion, and_parts, uid_is, first_uid, last_uid, uid_eq, In, in_from, in_to, put_same}
use Words.{Answer, Asked, Body, Label, ObjectState, Op, Uid, answer_text, name, uids_of, Reply, actor, end_line, heard, heard_by}
use Words.{heard_call, heard_doing, heard_none, heard_now, kept_at, mark_lines, moved_commit, root_heard, root_moved, step_call}
use Words.{step_commit, store_of, waits_for_call, waits_for_commit, At, AtActivate, AtBind, AtInvoke, AtLoad, AtNote, CallEnd, CallStep}
use Words.{Ended, Goal, Include, Known, Moved, On, Run, Steps, answered, Marked, Calling, Committing, Coord, Doing, Idle, Joined, Now, Root}
use Words.{doing_of, is_free, joined_with, later_state, no_root, on_doing, on_root, root_at, same_join, with_join, Disk, Do, Effect, Intent}
use Words.{Say, Send, Served, say_for, says, Parts, at_number, Branch, branch_of, root_of, Post, Seen}
use Words.body
use Words.bound
use Words.loaded
use Words.calls
use Words.commit
use Rattle.arj_law_serial.proofs.Terms
use Terms.{AnswersAt, AnswersWaiting, all_append, moved_keeps, on_roots, SayOf, Act, path, paths_of, IsAsking, IsBusy, IsGoodCoord}
use Terms.{good_coord, up, Access, Book, book, turned, with_access, IsKept, IsKnown, KnowsUp, after, named_in, its_own, HasJoined}
use Rattle.arj_law_runs.specs.{addresses.Binds.KnowsBinds, addresses.Binds.StandsOn, journal.Knows.root_in, journal.Plans.path_of}
use Rattle.arj_law_serial.proofs.whole.CalledSays.{is_apart, step_fine}

-- ---- lines

-- the line answers nothing
abbrev pub NoAccess : Body → Type 0
NoAccess b = (B : Book) → (turned B b).accesses ≡ B.accesses

abbrev pub NoneAccess : List Effect → Type 0
NoneAccess outs = AllByRecursion (SayOf NoAccess) outs

pub apart_none : (b : Body) → is_apart b ≡ false → NoAccess b
apart_none (body.Ok l x o a) none B = absurd (cc none)
apart_none (body.Includes l x n) none B = absurd (cc none)
apart_none (body.Began l k u p) none B = refl
apart_none (body.Committing l) none B = refl
apart_none (body.Committed l) none B = refl
apart_none (body.Aborted l c) none B = refl
apart_none (body.Ended l) none B = refl
apart_none (body.Recovered n u) none B = refl
apart_none b none B = refl

pub none_after : (B : Book) (outs : List Effect) → NoneAccess outs → (after B outs).accesses ≡ B.accesses
none_after B [] none = refl
none_after B (Say b ∷ es) none = none_after (turned B b) es none.1 ∙ none.0 B
none_after B (Send to m ∷ es) none = none_after B es none.1
none_after B (Do w ∷ es) none = none_after B es none.1

pub says_none : (u : Uid) (f : Label → Body) (c : Coord) → ((l : Label) → NoAccess (f l)) → NoneAccess (says u f c)
says_none u f c none = by (doing_of u c)
  where
    by : (o : Option Doing) → NoneAccess (say_for f o)
    by None = tt
    by (Some d) = (none d.label, tt)

pub marks_none : (u : Uid) (marks : List (ℕ × ℕ)) (c : Coord) → NoneAccess (mark_lines u marks c)
marks_none u [] c = tt
marks_none u (z ∷ marks) c = all_append (SayOf NoAccess) (says u (λ l. body.Excluded l z.0 z.1) c) (mark_lines u marks c)
    (says_none u (λ l. body.Excluded l z.0 z.1) c (λ l B. refl)) (marks_none u marks c)

pub moved_none : (u : Uid) (mk : Marked) (intents : List (Uid × Intent)) (c : Coord) → NoneAccess (moved_commit u mk intents c).outs
moved_none u mk intents c = all_append (SayOf NoAccess) (mark_lines u mk.marks c) (step_commit u mk.step intents c).outs
    (marks_none u mk.marks c) (step_fine NoAccess apart_none u mk.step intents c)

-- ---- an include isn't answered as a call

never_answered : (free : Bool) (kept : Option Known) (n : ℕ) (at : At) (r : Reply) → AnswersAt (Include n) at r →
    StandsOn (Include n) kept at → (a : Answer) → (answered free kept (Include n) at r).step ≡ Ended (calls.Answered a) → ⊥
never_answered free kept n (AtBind avoid) (Reply.Bound (bound.Live b server i g stores)) fits s a is = absurd fits
never_answered free kept n (AtBind avoid) (Reply.Bound (bound.Make b server g stores)) fits s a is = absurd fits
never_answered free kept n (AtBind avoid) (Reply.Bound (bound.Write g [])) fits s a is = cc is
never_answered free kept n (AtBind avoid) (Reply.Bound (bound.Write g (x ∷ xs))) fits s a is = cc is
never_answered free kept n (AtBind avoid) (Reply.Bound (bound.Conflict h m)) fits s a is = cc is
never_answered free kept n (AtLoad k x rest) (Reply.Loaded (loaded.State st)) fits s a is = cc is
never_answered free kept n (AtLoad k x rest) (Reply.Loaded (loaded.InDoubt h)) fits s a is = cc is
never_answered free kept n (AtActivate k st) r fits s a is = absurd s
never_answered free kept n (AtNote k i) r fits s a is = absurd s
never_answered free kept n (AtInvoke k i) r fits s a is = absurd s
never_answered free kept n (AtBind avoid) r fits s a is = cc is
never_answered free kept n (AtLoad k x rest) r fits s a is = cc is

-- ---- a new note

join_new : (j : Joined) (js : List Joined) → ((i : Joined) → In i js → last_uid j.path ≡ last_uid i.path → i.path ≡ j.path) →
    (z : Joined) × In z (joined_with j js) × (z.path ≡ j.path) × (z.x ≡ j.x) × (z.store ≡ j.store)
join_new j [] same = (j, inl refl, refl, refl, refl)
join_new j (v ∷ vs) same = by (same_join j v) refl (join_new j vs (λ i k. same i (inr k)))
  where
    by : (b : Bool) → same_join j v ≡ b → ((z : Joined) × In z (joined_with j vs) × (z.path ≡ j.path) × (z.x ≡ j.x) × (z.store ≡ j.store))
        → (z : Joined) × In z (cond b (record v { loaded = later_state v.loaded j.loaded } ∷ vs) (v ∷ joined_with j vs)) × (z.path ≡ j.path)
        × (z.x ≡ j.x) × (z.store ≡ j.store)
    by true is ih =
        let p = and_parts (uid_eq (last_uid j.path) (last_uid v.path)) ((j.x == v.x) && (j.store == v.store)) is in
        let q = and_parts (j.x == v.x) (j.store == v.store) p.1 in (
          record v { loaded = later_state v.loaded j.loaded },
          inl refl,
          same v (inl refl) (uid_is (last_uid j.path) (last_uid v.path) p.0),
          sym (eqb-true j.x v.x q.0),
          sym (eqb-true j.store v.store q.1),
        )
    by false is (z, i, path, at, store) = (z, inr i, path, at, store)

-- a new include is noted
abbrev pub NewNoted : Book → List Effect → Coord → Type 0
NewNoted B outs e = (a : Access) (s : ℕ) → Contains (after B outs).accesses a → a.store ≡ Some s →
    Contains B.accesses a ⊎ HasJoined a.x s (path_of B a) (root_in (first_uid (path_of B a)) e.roots)

pub nothing_new : (B : Book) (outs : List Effect) (e : Coord) → NoneAccess outs → NewNoted B outs e
nothing_new B outs e none a s there store = inl (subst (λ xs. Contains xs a) (none_after B outs none) there)

module _ (k : ℕ) (d : Disk) (t : Parts) (M : Seen) (kept : IsKept (up k d t M)) (sent : List Post) (binds : KnowsBinds sent k t.coord) where
  up_now : KnowsUp (book M.lines) d.intents t.coord
  up_now = let w = kept.1 in let o = its_own k d (Some t) M w in o.live t refl

  coord : IsGoodCoord (let g = kept.0 in g.0) (paths_of (let g = kept.0 in g.0)) t.coord
  coord = good_coord 0 k d t M kept.0

  module _ (s : Steps) (q : Doing) (u : Uid) (found : doing_of u t.coord ≡ Some q) (now : q.now ≡ Calling s) (r : Reply)
      (fits : AnswersAt s.goal s.at r) where
    asking : IsAsking t.coord.tree u s.path
    asking = subst (IsBusy t.coord.tree u) now (coord.busy u q found)

    actor_is : actor s.path ≡ u
    actor_is = let a = asking in let lists = coord.tree.lists in ap actor (sym a.path) ∙ lists.places u a.branch a.found

    abbrev m : Moved
    m = answered (is_free (root_of s.path) (actor s.path) s.x t.coord) (kept_at s t.coord) s.goal s.at r

    abbrev moved : Coord
    moved = on_root (root_of s.path) (root_moved s r m) t.coord

    known : IsKnown (book M.lines) u (let a = asking in let b = a.branch in b.kind) (let a = asking in let b = a.branch in b.ended) q.label
    known = let n = up_now in let h = n.knows in let a = asking in h.acts u a.branch q a.found found

    abbrev act : Act
    act = known.act

    found_act : branch_of (let a = known.act in a.uid) t.coord.tree ≡ Some (let a = asking in a.branch)
    found_act = ap (λ w. branch_of w t.coord.tree) known.uid ∙ (let a = asking in a.found)

    path_is : path_of (book M.lines) (record { act = act; x = s.x; store = Some (store_of s.goal) }) ≡ uids_of s.path
    path_is = let n = up_now in let h = n.knows in let ties = h.ties in let a = asking in ties.paths act a.branch (in_to act (let X = book
        M.lines in X.acts) (named_in (let X = book M.lines in X.acts) (name q.label) act known.named)) found_act ∙ ap uids_of a.path

    -- what was noted under this action's path is by it
    one_path : (i : Joined) → In i (root_at (root_of s.path) t.coord).joined → last_uid (uids_of s.path) ≡ last_uid i.path →
        i.path ≡ uids_of s.path
    one_path i there last =
        let n = up_now in
        let h = n.knows in
        let ties = h.ties in
        let a = asking in
        let lists = coord.tree.lists in
        let (o, z, in_it, at, path, obj, store) = ties.joined (root_of s.path) i
        (in_to i (root_at (root_of s.path) t.coord).joined there) in
        let w : Uid = (let e = o.act in e.uid) in
        let one : w ≡ u = sym (lists.places w z at) ∙ ap last_uid (sym path) ∙ sym last ∙ actor_is in
        let same : ◌≡◌ {A = Option Branch} (Some z) (Some a.branch) = sym at ∙ ap (λ v. branch_of v t.coord.tree) one ∙ a.found in
        path ∙ ap (λ (b : Branch). uids_of b.path) (let e : z ≡ a.branch = cc same in e) ∙ ap uids_of a.path

    abbrev idle : Coord
    idle = on_doing (actor s.path) (λ (x : Doing). record x { now = Idle }) moved

    joined_same : (root_at (root_of s.path) idle).joined ≡ (root_at (root_of s.path) t.coord).joined
    joined_same =
        ap (λ rs. (unwrap_or (at_number (root_of s.path).num rs) no_root).joined)
        (on_roots (actor s.path) (λ (x : Doing). record x { now = Idle }) moved)
        ∙ ap (λ o. (unwrap_or o no_root).joined)
        (put_same (root_of s.path).num (root_moved s r m (root_at (root_of s.path) t.coord)) t.coord.roots)
        ∙ (let z = moved_keeps s r m in z.joined (root_at (root_of s.path) t.coord))

    noted : (st : ObjectState) → HasJoined s.x (store_of s.goal) (uids_of s.path)
        (root_in (root_of s.path) (on_root (root_of s.path) (root_heard s (calls.Included st)) idle).roots)
    noted st =
        let new : Joined = record { path = uids_of s.path; x = s.x; store = store_of s.goal; loaded = st } in
        let old : Root = root_at (root_of s.path) idle in
        let z = join_new new old.joined (λ i j. one_path i (subst (In i) joined_same j)) in
        subst (HasJoined s.x (store_of s.goal) (uids_of s.path)) (sym (ap (λ o. unwrap_or o no_root) (put_same (root_of s.path).num
        (with_join new old) (let v = idle in v.roots)))) (z.0, in_to z.0 (joined_with new old.joined) z.1, z.2, z.3, z.4)

    -- the line that ends it
    line_says : (f : Label → Body) (e : Coord) → NewNoted (book M.lines) (Say (f q.label) ∷ []) e →
        NewNoted (book M.lines) (says (actor s.path) f moved) e
    line_says f e is = subst (λ o. NewNoted (book M.lines) (say_for f o) e) (sym (ap (λ w. doing_of w t.coord) actor_is ∙ found)) is

    included_new : (st : ObjectState) → NewNoted (book M.lines) (Say (body.Includes q.label s.x (store_of s.goal)) ∷ [])
        (on_root (root_of s.path) (root_heard s (calls.Included st)) idle)
    included_new st a n there store = ⊎_elim
        (λ same. inr (its a (sym same) store))
        (λ old. inl (in_to a (let X = book M.lines in X.accesses) old))
        (in_from a (new ∷ (let X = book M.lines in X.accesses)) (subst (λ xs. Contains xs a)
        (ap (λ z. with_access z s.x (Some (store_of s.goal)) (let X = book M.lines in X.accesses)) known.named) there))
      where
        new : Access
        new = record { act = act; x = s.x; store = Some (store_of s.goal) }

        root_is : first_uid (path_of (book M.lines) new) ≡ root_of s.path
        root_is = ap first_uid path_is

        here : HasJoined s.x (store_of s.goal) (path_of (book M.lines) new)
            (root_in (first_uid (path_of (book M.lines) new)) (on_root (root_of s.path) (root_heard s (calls.Included st)) idle).roots)
        here = subst (λ us. HasJoined s.x (store_of s.goal) us
            (root_in (first_uid us) (on_root (root_of s.path) (root_heard s (calls.Included st)) idle).roots)) (sym path_is) (noted st)

        its : (b : Access) → b ≡ new → b.store ≡ Some n → HasJoined b.x n (path_of (book M.lines) b)
            (root_in (first_uid (path_of (book M.lines) b)) (on_root (root_of s.path) (root_heard s (calls.Included st)) idle).roots)
        its b is named =
            let e : ◌≡◌ {A = Option ℕ} (Some (store_of s.goal)) (Some n) = sym (ap (λ (y : Access). y.store) is) ∙ named in
            let same : store_of s.goal ≡ n = cc e in
            subst (λ (y : Access). HasJoined y.x n (path_of (book M.lines) y) (root_in (first_uid (path_of (book M.lines) y))
            (on_root (root_of s.path) (root_heard s (calls.Included st)) idle).roots)) (sym is)
            (subst (λ w. HasJoined s.x w (path_of (book M.lines) new) (root_in (first_uid (path_of (book M.lines) new))
            (on_root (root_of s.path) (root_heard s (calls.Included st)) idle).roots)) same here)

    -- a call's line has no store
    ok_new : (o : Op) (x : List ℕ) (e : Coord) → NewNoted (book M.lines) (Say (body.Ok q.label s.x o x) ∷ []) e
    ok_new o x e a n there store = ⊎_elim
        (λ same. let no_way : ◌≡◌ {A = Option ℕ} None (Some n) = ap (λ (y : Access). y.store) same ∙ store in absurd (cc no_way))
        (λ old. inl (in_to a (let X = book M.lines in X.accesses) old))
        (in_from a (record { act = act; x = s.x; store = None } ∷ (let X = book M.lines in X.accesses))
        (subst (λ xs. Contains xs a) (ap (λ z. with_access z s.x None (let X = book M.lines in X.accesses)) known.named) there))

    ends_new : (e : CallEnd) → (let z = m in z.step) ≡ Ended e →
        NewNoted (book M.lines) (step_call s (Ended e) moved).outs (step_call s (Ended e) moved).part
    ends_new (calls.Answered x) is = by s.goal refl
      where
        by : (g : Goal) → s.goal ≡ g →
            NewNoted (book M.lines) (step_call s (Ended (calls.Answered x)) moved).outs (step_call s (Ended (calls.Answered x)) moved).part
        by (Run o) goal = line_says (end_line s.x s.goal (calls.Answered x)) (step_call s (Ended (calls.Answered x)) moved).part (subst
            (λ g. NewNoted (book M.lines) (Say (end_line s.x g (calls.Answered x) q.label) ∷ []) (step_call s (Ended (calls.Answered x))
            moved).part) (sym goal) (ok_new o (answer_text x) (step_call s (Ended (calls.Answered x)) moved).part))
        by (Include n) goal =
            absurd (never_answered (is_free (root_of s.path) (actor s.path) s.x t.coord) (kept_at s t.coord) n s.at r (subst
            (λ g. AnswersAt g s.at r) goal fits) (subst (λ g. StandsOn g (kept_at s t.coord) s.at) goal (binds.steps u q s found now)) x
            (ap (λ g. (answered (is_free (root_of s.path) (actor s.path) s.x t.coord) (kept_at s t.coord) g s.at r).step) (sym goal) ∙ is))
    ends_new (calls.Included st) is =
        line_says (end_line s.x s.goal (calls.Included st)) (step_call s (Ended (calls.Included st)) moved).part (included_new st)
    ends_new (calls.Conflict h w n) is =
        nothing_new (book M.lines) (step_call s (Ended (calls.Conflict h w n)) moved).outs (step_call s (Ended (calls.Conflict h w n))
        moved).part (says_none (actor s.path) (end_line s.x s.goal (calls.Conflict h w n)) moved (λ l B. refl))
    ends_new (calls.Changed n w) is = nothing_new (book M.lines) (step_call s (Ended (calls.Changed n w)) moved).outs (step_call s
        (Ended (calls.Changed n w)) moved).part (says_none (actor s.path) (end_line s.x s.goal (calls.Changed n w)) moved (λ l B. refl))
    ends_new (calls.Lost n w) is = nothing_new (book M.lines) (step_call s (Ended (calls.Lost n w)) moved).outs (step_call s
        (Ended (calls.Lost n w)) moved).part (says_none (actor s.path) (end_line s.x s.goal (calls.Lost n w)) moved (λ l B. refl))

    call_new : NewNoted (book M.lines) (heard_call s r t.coord).outs (heard_call s r t.coord).part
    call_new = by (let z = m in z.step) refl
      where
        by : (n : CallStep) → (let z = m in z.step) ≡ n → NewNoted (book M.lines) (step_call s n moved).outs (step_call s n moved).part
        by (On at) is = nothing_new (book M.lines) (step_call s (On at) moved).outs (step_call s (On at) moved).part (tt, tt)
        by (Ended e) is = ends_new e is

  pub heard_new : (from : ℕ) (a : Asked) (r : Reply) → AnswersWaiting from a r t.coord →
      NewNoted (book M.lines) (heard from a r d.intents t.coord).outs (heard from a r d.intents t.coord).part
  heard_new from a r fits = by (doing_of a.act t.coord) refl
    where
      nothing : NewNoted (book M.lines) [] t.coord
      nothing = nothing_new (book M.lines) [] t.coord tt

      now : (q : Doing) → doing_of a.act t.coord ≡ Some q → (n : Now) → q.now ≡ n →
          NewNoted (book M.lines) (heard_now from a r d.intents t.coord n).outs (heard_now from a r d.intents t.coord n).part
      now q found Idle is = nothing
      now q found (Calling s) is = one (waits_for_call from a r s) refl
        where
          one : (w : Bool) → waits_for_call from a r s ≡ w →
              NewNoted (book M.lines) (cond {A = Served Coord (Unit {0})} w (heard_by (heard_call s r t.coord)) (heard_none t.coord)).outs
              (cond {A = Served Coord (Unit {0})} w (heard_by (heard_call s r t.coord)) (heard_none t.coord)).part
          one true waits = call_new s q a.act found is r (fits q s found is waits)
          one false waits = nothing
      now q found (Committing m) is = one (waits_for_commit from a r m)
        where
          one : (w : Bool) → NewNoted (book M.lines) (cond {A = Served Coord (Unit {0})} w
              (heard_by (moved_commit a.act (commit.answered from m r) d.intents t.coord)) (heard_none t.coord)).outs (cond {A = Served
              Coord (Unit {0})} w (heard_by (moved_commit a.act (commit.answered from m r) d.intents t.coord)) (heard_none t.coord)).part
          one true = let z = moved_commit a.act (commit.answered from m r) d.intents t.coord in
              nothing_new (book M.lines) z.outs z.part (moved_none a.act (commit.answered from m r) d.intents t.coord)
          one false = nothing

      by : (o : Option Doing) → doing_of a.act t.coord ≡ o →
          NewNoted (book M.lines) (heard_doing from a r d.intents t.coord o).outs (heard_doing from a r d.intents t.coord o).part
      by None is = nothing
      by (Some q) is = now q is q.now refl
