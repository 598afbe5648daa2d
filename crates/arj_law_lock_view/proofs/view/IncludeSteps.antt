-- Includes of the object go in the machine.
use Rattle.arj_law_parts.proofs.Words
use Words.{◌≡◌, ◌≢◌, ◌≤◌, ◌+◌, ◌⊎◌, ◌∙◌, ◌==◌, ◌&&◌, ◌*◌, ℕ, List, [], ◌∷◌, Bool, true, false, cond, nat_lt, Option, Some, None, refl, sym}
use Words.{ap, subst, inl, inr, ⊎_elim, arith, eqb-true, unwrap_or, Contains, and_parts, uid_cases, uid_is, in_from, in_to, Binding}
use Words.{ObjectState, Uid, first_uid, last_uid, uid_eq, uids_of, Reply, actor, top_of, asks_step, is_invoke_ask, doomed_by, ends_call}
use Words.{goes_on, kept_at, root_heard, root_moved, step_call, store_of, At, AtActivate, AtBind, AtInvoke, AtLoad, AtNote, CallEnd, Ended}
use Words.{Goal, Include as IncludeStore, Included, Known, Moved, On, Steps, answered, next_ask, next_node, write_known, Calling, Coord}
use Words.{Doing, Grant, Idle, Joined, Root, Went, change_doing, doing_of, granted_with, is_free, joined_with, later_state, no_root}
use Words.{on_doing, on_root, root_at, same_join, set_doing, with_join, with_went, at_number, is_committing_now, Branch, at_place}
use Words.{branch_of, doomed_at, ends_of, root_of}
use Words.list
use Words.bound
use Words.loaded
use Words.mode
use Words.calls as protocol
use Rattle.arj_law_lock_view.proofs.Terms
use Terms.{Act, In, is_action, on, root, top, next, stay, step, Include, Message, State, Paths, doomed_same, doing_other, doing_put}
use Terms.{IsAsking, IsBusy, Acts, IsAtWork, IsToInclude, IsWaiting, Codes, Goes, IsJoined, IsLoading, IsNoted, OnlyIncluded, SeesIncludes}
use Terms.{ShowsInclude, WritesInclude, included_by, SeesCoord, is_early}
use Terms.machine
use Terms.event
use Rattle.arj_law_lock_view.proofs.view
use view.{WholeSteps.stays_coord}
use view.ElseSteps.{include_early, other_answers_are_taken}
use view.MoveSteps.{Grows, Moves, grows_join, grows_moved, grows_said, grows_same, grows_went, moves_both, moves_doing, moves_root}
use view.MoveSteps.{moves_tree, new_grant}
use view.RootSteps.{root_else, root_here}
use view.TreeSteps.{action_kind, opens}
use Rattle.arj_law_lock_view.specs.view.Including.{HasGrant, HasState, IncludeAnswersAreTaken, IsGranted}

-- ---- what is seen of includes stays

module _ (act : Acts) (x : ℕ) (c e : Coord) (S T : State) (Ends New : Uid → Type 0) (moves : Moves x c e Ends New) (sent : (m : Message) →
    In m S.net → In m T.net) (includes : T.includes ≡ S.includes) (sees : SeesIncludes act x c S)
    (news : (u : Uid) (d : Doing) (s : Steps) (k : Known) → New u → doing_of u e ≡ Some d → d.now ≡ Calling s → IsLoading x s k →
    IsGranted act x s k (root_at (root_of s.path) e) T) where
  pub includes_stay : SeesIncludes act x e T
  includes_stay = record {
    lines = λ u b k there own i home. (let r = moves.was u b there in
        noted u k (sees.lines u r.0 k r.1 (ap (λ p. root_of p) r.2 ∙ own) (subst (In k) includes i) home));
    joins = λ u b j there own i about. (let r = moves.was u b there in
        joined j (sees.joins u r.0 j r.1 (ap (λ p. root_of p) r.2 ∙ own) (let g = moves.roots u in g.back j i about) about));
    waits = λ u d s k works is load. ⊎_elim
        (λ old. let g = sees.waits u old.0 s k old.1 old.2 load in record {
          sent = sent (machine.Granted (act (top_of s.path)) (k.grant * 4294967296)) g.sent;
          noted = (let n = moves.roots (root_of s.path) in n.grants (top_of s.path) (k.grant * 4294967296) g.noted);
        })
        (λ new. news u d s k new works is load)
        (moves.calls u d s works is);
  }
    where
      noted : (u : Uid) (k : Include) → IsNoted act x k (root_at u c) c.tree → IsNoted act x k (root_at u e) e.tree
      noted u k n = record {
        join = n.join;
        there = (let g = moves.roots u in g.forth n.join n.there n.about);
        about = n.about;
        by = n.by;
        granted = λ q found. (let p = moves.was (last_uid (let j = n.join in j.path)) q found in let g = moves.roots u in
            subst (λ (t : Uid). HasGrant (root_at u e) x t k.grant) (ap (λ y. top_of y) p.2)
            (g.grants (top_of (let y = p.0 in y.path)) k.grant (n.granted p.0 p.1)));
      }

      joined : (j : Joined) → IsJoined j c.tree → IsJoined j e.tree
      joined j n = let q = moves.still (last_uid j.path) n.branch n.found in
          record { branch = q.0; found = q.1; path = ap uids_of (sym q.2) ∙ n.path }

-- ---- a call's step

abbrev pub nobody : Uid → Type 0
nobody w = ⊥

-- the action goes on
pub moves_on : (x : ℕ) (s : Steps) (c : Coord) (Ends New : Uid → Type 0) → New (actor s.path) →
    Moves x c (let e = goes_on s c in e.part) Ends New
moves_on x s c Ends New new = moves_both x c (on_doing (actor s.path) busy c) (let e = goes_on s c in
    e.part) Ends New (moves_doing x c Ends New (actor s.path) busy new)
    (moves_root x (on_doing (actor s.path) busy c) Ends New (root_of s.path) (with_went note) (grows_went x note))
  where
    busy : Doing → Doing
    busy d = record d { req = s.req; now = Calling s }

    note : Went
    note = record {
      path = uids_of s.path;
      node = next_node s;
      invoke = is_invoke_ask (next_ask (ends_of (root_of s.path) (let k = on_doing (actor s.path) busy c in k.tree)) s);
    }

-- in this step
pub on_is : (s : Steps) (c : Coord) (d e : Doing) → doing_of (actor s.path) c ≡ Some d →
    doing_of (actor s.path) (let k = goes_on s c in k.part) ≡ Some e → e.now ≡ Calling s
on_is s c d e works found = ap (λ (v : Doing). v.now) one
  where
    busy : Doing
    busy = record d { req = s.req; now = Calling s }

    now_is : doing_of (actor s.path) (let k = goes_on s c in k.part) ≡ Some busy
    now_is = (λ i. doing_of (actor s.path) (let k = asks_step s (change_doing (λ (q : Doing). record q { req = s.req; now = Calling s })
        (actor s.path) c (works i)) in k.part)) ∙ doing_put (actor s.path) busy d c works

    one : e ≡ busy
    one = let two : ◌≡◌ {A = Option Doing} (Some e) (Some busy) = sym found ∙ now_is in cc two

pub on_now : (s : Steps) (c : Coord) (d e : Doing) (z : Steps) → doing_of (actor s.path) c ≡ Some d →
    doing_of (actor s.path) (let k = goes_on s c in k.part) ≡ Some e → e.now ≡ Calling z → s ≡ z
on_now s c d e z works found is = same (sym (on_is s c d e works found) ∙ is)
  where
    same : Calling s ≡ Calling z → s ≡ z
    same h = cc h

-- or the call ends, but for an include on the object that ends well
pub moves_over : (x : ℕ) (s : Steps) (end : CallEnd) (c : Coord) (Ends New : Uid → Type 0) →
    ((st : ObjectState) → end ≡ Included st → s.x ≢ x) → New (actor s.path) → Moves x c (let e = ends_call s end c in e.part) Ends New
moves_over x s end c Ends New other new = by end other
  where
    idle : Coord
    idle = on_doing (actor s.path) (λ (d : Doing). record d { now = Idle }) c

    after : (v : CallEnd) → ((st : ObjectState) → v ≡ Included st → s.x ≢ x) →
        Moves x c (on_root (root_of s.path) (root_heard s v) idle) Ends New
    after v isnt = moves_both x c idle (on_root (root_of s.path) (root_heard s v) idle) Ends New (moves_doing x c Ends New (actor s.path)
        (λ (d : Doing). record d { now = Idle }) new) (moves_root x idle Ends New (root_of s.path) (root_heard s v) (λ r. grows v isnt r))
      where
        grows : (v : CallEnd) → ((st : ObjectState) → v ≡ Included st → s.x ≢ x) → (r : Root) → Grows x r (root_heard s v r)
        grows (protocol.Answered a) isnt r = grows_said x (record { path = uids_of s.path; x = s.x }) r
        grows (protocol.Included st) isnt r =
            grows_join x (record { path = uids_of s.path; x = s.x; store = store_of s.goal; loaded = st }) r (isnt st refl)
        grows (protocol.Conflict h m n) isnt r = grows_same x r r refl refl
        grows (protocol.Changed n w) isnt r = grows_same x r r refl refl
        grows (protocol.Lost n t) isnt r = grows_same x r r refl refl

    by : (v : CallEnd) → ((st : ObjectState) → v ≡ Included st → s.x ≢ x) →
        Moves x c (doomed_by (actor s.path) v (on_root (root_of s.path) (root_heard s v) idle)) Ends New
    by (protocol.Answered a) isnt = after (protocol.Answered a) isnt
    by (protocol.Included st) isnt = after (protocol.Included st) isnt
    by (protocol.Conflict h m n) isnt = after (protocol.Conflict h m n) isnt
    by (protocol.Changed n w) isnt = after (protocol.Changed n w) isnt
    by (protocol.Lost n false) isnt = after (protocol.Lost n false) isnt
    by (protocol.Lost n true) isnt = let k : Coord = on_root (root_of s.path) (root_heard s (protocol.Lost n true)) idle in
        moves_both x c k (doomed_by (actor s.path) (protocol.Lost n true) k) Ends New (after (protocol.Lost n true) isnt)
        (moves_tree x k Ends New (doomed_at (actor s.path) k.tree) (doomed_same (actor s.path) k.tree))

-- nobody calls anew where it ends
pub over_is : (s : Steps) (end : CallEnd) (c : Coord) (d e : Doing) → doing_of (actor s.path) c ≡ Some d →
    doing_of (actor s.path) (let k = ends_call s end c in k.part) ≡ Some e → e.now ≡ Idle
over_is s end c d e works found = ap (λ (v : Doing). v.now) one
  where
    idle : Doing
    idle = record d { now = Idle }

    own : (v : CallEnd) (k : Coord) → doing_of (actor s.path) (doomed_by (actor s.path) v k) ≡ doing_of (actor s.path) k
    own (protocol.Answered a) k = refl
    own (protocol.Included st) k = refl
    own (protocol.Conflict h m n) k = refl
    own (protocol.Changed n w) k = refl
    own (protocol.Lost n false) k = refl
    own (protocol.Lost n true) k = let t = doomed_same (actor s.path) k.tree in
        λ i. cond (t.own (actor s.path) i) (at_place (let v = actor s.path in v.num) k.doings) None

    now_is : doing_of (actor s.path) (let k = ends_call s end c in k.part) ≡ Some idle
    now_is = own end _ ∙ (λ i. doing_of (actor s.path) (change_doing (λ (q : Doing). record q { now = Idle }) (actor s.path) c (works i)))
        ∙ doing_put (actor s.path) idle d c works

    one : e ≡ idle
    one = let two : ◌≡◌ {A = Option Doing} (Some e) (Some idle) = sym found ∙ now_is in cc two

-- ---- an answered include at its root

later_than : (i j : ObjectState) →
    (i.version ≤ (let s = later_state i j in s.version)) × (j.version ≤ (let s = later_state i j in s.version))
later_than i j = by (nat_lt i.version j.version) refl
  where
    less : (a b : ℕ) → nat_lt a b ≡ true → a ≤ b
    less a b e = grind (arith, e)

    more : (a b : ℕ) → nat_lt a b ≡ false → b ≤ a
    more a b e = grind (arith, e)

    by : (t : Bool) → nat_lt i.version j.version ≡ t →
        (i.version ≤ (let s = cond t j i in s.version)) × (j.version ≤ (let s = cond t j i in s.version))
    by true e = (less i.version j.version e, omega arith)
    by false e = (omega arith, more i.version j.version e)

-- it is there, as it is or with another that has its path
join_there : (j : Joined) (js : List Joined) → (i : Joined) × list.In i (joined_with j js) × (last_uid i.path ≡ last_uid j.path)
    × (i.x ≡ j.x) × (i.store ≡ j.store) × ((let l = j.loaded in l.version) ≤ (let l = i.loaded in l.version))
join_there j [] = (j, inl refl, refl, refl, refl, omega arith)
join_there j (f ∷ fs) = by (same_join j f) refl (join_there j fs)
  where
    by : (t : Bool) → same_join j f ≡ t → (i : Joined) × list.In i (joined_with j fs) × (last_uid i.path ≡ last_uid j.path) × (i.x ≡ j.x)
        × (i.store ≡ j.store) × ((let l = j.loaded in l.version) ≤ (let l = i.loaded in l.version))
        → (i : Joined) × list.In i (cond t (record f { loaded = later_state f.loaded j.loaded } ∷ fs) (f ∷ joined_with j fs))
        × (last_uid i.path ≡ last_uid j.path) × (i.x ≡ j.x) × (i.store ≡ j.store)
        × ((let l = j.loaded in l.version) ≤ (let l = i.loaded in l.version))
    by true e ih =
        let two = and_parts (uid_eq (last_uid j.path) (last_uid f.path)) ((j.x == f.x) && (j.store == f.store)) e in
        let more = and_parts (j.x == f.x) (j.store == f.store) two.1 in (
          record f { loaded = later_state f.loaded j.loaded },
          inl refl,
          sym (uid_is (last_uid j.path) (last_uid f.path) two.0),
          sym (eqb-true j.x f.x more.0),
          sym (eqb-true j.store f.store more.1),
          (later_than f.loaded j.loaded).1,
        )
    by false e ih = (ih.0, inr ih.1, ih.2, ih.3, ih.4, ih.5)

-- what was there is there, by its path
join_stays : (j : Joined) (js : List Joined) (i : Joined) → list.In i js →
    (k : Joined) × list.In k (joined_with j js) × (k.path ≡ i.path) × (k.x ≡ i.x)
join_stays j [] i h = absurd h
join_stays j (f ∷ fs) i h = by (same_join j f) h (λ q. join_stays j fs i q)
  where
    by : (t : Bool) → list.In i (f ∷ fs) → (list.In i fs → (k : Joined) × list.In k (joined_with j fs) × (k.path ≡ i.path) × (k.x ≡ i.x))
        → (k : Joined) × list.In k (cond t (record f { loaded = later_state f.loaded j.loaded } ∷ fs) (f ∷ joined_with j fs))
        × (k.path ≡ i.path) × (k.x ≡ i.x)
    by true (inl is) ih =
        (record f { loaded = later_state f.loaded j.loaded }, inl refl, ap (λ (y : Joined). y.path) is, ap (λ (y : Joined). y.x) is)
    by true (inr q) ih = (i, inr q, refl, refl)
    by false (inl is) ih = (f, inl refl, ap (λ (y : Joined). y.path) is, ap (λ (y : Joined). y.x) is)
    by false (inr q) ih = let k = ih q in (k.0, inr k.1, k.2, k.3)

-- and nothing else is
join_from : (j : Joined) (js : List Joined) (k : Joined) → list.In k (joined_with j js) →
    (k.path ≡ j.path) ⊎ ((i : Joined) × list.In i js × (i.path ≡ k.path) × (i.x ≡ k.x))
join_from j [] k (inl is) = inl (ap (λ (y : Joined). y.path) (sym is))
join_from j [] k (inr h) = absurd h
join_from j (f ∷ fs) k h = by (same_join j f) h (λ q. join_from j fs k q)
  where
    by : (t : Bool) → list.In k (cond t (record f { loaded = later_state f.loaded j.loaded } ∷ fs) (f ∷ joined_with j fs)) →
        (list.In k (joined_with j fs) → (k.path ≡ j.path) ⊎ ((i : Joined) × list.In i fs × (i.path ≡ k.path) × (i.x ≡ k.x)))
        → (k.path ≡ j.path) ⊎ ((i : Joined) × list.In i (f ∷ fs) × (i.path ≡ k.path) × (i.x ≡ k.x))
    by true (inl is) ih = inr (f, inl refl, ap (λ (y : Joined). y.path) is, ap (λ (y : Joined). y.x) is)
    by true (inr q) ih = inr (k, inr q, refl, refl)
    by false (inl is) ih = inr (f, inl refl, ap (λ (y : Joined). y.path) is, ap (λ (y : Joined). y.x) is)
    by false (inr q) ih = ⊎_elim (λ new. inl new) (λ old. inr (old.0, inr old.1, old.2, old.3)) (ih q)

-- ---- an include waits

module _ (act : Acts) (code : Codes) (paths : Paths) (x p store : ℕ) (c : Coord) (b : Branch) (d : Doing) (s : Steps) (S : State)
    (work : IsAtWork act paths c (actor s.path) b d) (on : IsWaiting b d s) (about : s.x ≡ x) (goal : s.goal ≡ IncludeStore store)
    (now : S.now ≤ p) (sees : SeesCoord act code x c S) (inc : SeesIncludes act x c S) where
  abbrev u : Uid
  u = actor s.path

  abbrev rt : Uid
  rt = root_of s.path

  module _ (r : Reply) (o : Option (ℕ × ObjectState)) where
    abbrev first : Moved → Coord
    first mv = on_root rt (root_moved s r mv) c

    abbrev after : Moved → Coord
    after mv = let e = step_call s mv.step (first mv) in e.part

    abbrev Result : Moved → Type 0
    Result mv = Goes S (λ T. SeesCoord act code x (after mv) T × SeesIncludes act x (after mv) T × OnlyIncluded S T
        × WritesInclude act p s o S T × HasState s o (root_at rt (after mv)))

    inc_first : (mv : Moved) → SeesIncludes act x (first mv) S
    inc_first mv = includes_stay act x c (first mv) S S nobody nobody (moves_root x c nobody nobody rt (root_moved s r mv)
        (λ q. grows_moved x s r mv q)) (λ m i. i) refl inc (λ v k z w none. absurd none)

    -- it goes on
    goes : (kept : Option Known) (a : At) → o ≡ None → SeesCoord act code x (after (record { step = On a; kept = kept })) S →
        ((k : Known) → IsLoading x (record s { req = s.req + 1; at = a }) k → IsGranted act x (record s { req = s.req + 1; at = a }) k
        (root_at rt (first (record { step = On a; kept = kept }))) S) → Result (record { step = On a; kept = kept })
    goes kept a none sees_E may = record {
      state = S;
      run = stay;
      holds = (
        sees_E,
        includes_stay act x (first mv) (after mv) S S nobody (λ w. w ≡ u) on_moves (λ m i. i) refl (inc_first mv) news,
        refl,
        subst (λ (v : Option (ℕ × ObjectState)). WritesInclude act p s v S S) (sym none) (refl, refl),
        subst (λ (v : Option (ℕ × ObjectState)). HasState s v (root_at rt (after mv))) (sym none) tt,
      );
    }
      where
        mv : Moved
        mv = record { step = On a; kept = kept }

        z : Steps
        z = record s { req = s.req + 1; at = a }

        on_moves : Moves x (first mv) (after mv) nobody (λ w. w ≡ u)
        on_moves = moves_on x z (first mv) nobody (λ w. w ≡ u) refl

        news : (w : Uid) (e : Doing) (y : Steps) (k : Known) → w ≡ u → doing_of w (after mv) ≡ Some e → e.now ≡ Calling y →
            IsLoading x y k → IsGranted act x y k (root_at (root_of y.path) (after mv)) S
        news w e y k is works calling load = subst (λ (v : Steps). IsGranted act x v k (root_at (root_of v.path) (after mv)) S) one
            (record { sent = g.sent; noted = (let n = on_moves.roots rt in n.grants (top_of s.path) (k.grant * 4294967296) g.noted) })
          where
            one : z ≡ y
            one = on_now z (first mv) d e y work.works (ap (λ (v : Uid). doing_of v (after mv)) (sym is) ∙ works) calling

            g : IsGranted act x z k (root_at rt (first mv)) S
            g = may k (subst (λ (v : Steps). IsLoading x v k) (sym one) load)

    -- it ends without a line
    ends : (kept : Option Known) (end : CallEnd) → o ≡ None → ((st : ObjectState) → end ≢ Included st) →
        SeesCoord act code x (after (record { step = Ended end; kept = kept })) S → Result (record { step = Ended end; kept = kept })
    ends kept end none other sees_E = record {
      state = S;
      run = stay;
      holds = (
        sees_E,
        includes_stay act x (first mv) (after mv) S S nobody (λ w. w ≡ u)
            (moves_over x s end (first mv) nobody (λ w. w ≡ u) (λ st is. absurd (other st is)) refl) (λ m i. i) refl (inc_first mv)
            (λ w e y k is works calling load. absurd (let bad : Idle ≡ Calling y = sym
            (over_is s end (first mv) d e work.works (ap (λ (v : Uid). doing_of v (after mv)) (sym is) ∙ works)) ∙ calling in cc bad)),
        refl,
        subst (λ (v : Option (ℕ × ObjectState)). WritesInclude act p s v S S) (sym none) (refl, refl),
        subst (λ (v : Option (ℕ × ObjectState)). HasState s v (root_at rt (after mv))) (sym none) tt,
      );
    }
      where
        mv : Moved
        mv = record { step = Ended end; kept = kept }

    -- it ends well
    module _ (kept : Option Known) (k : Known) (st : ObjectState) (its : o ≡ Some (k.grant, st)) (loading : IsLoading x s k)
        (sees_E : SeesCoord act code x (after (record { step = Ended (Included st); kept = kept })) S) where
      abbrev mv : Moved
      mv = record { step = Ended (Included st); kept = kept }

      abbrev c1 : Coord
      c1 = first mv

      abbrev j0 : Joined
      j0 = record { path = uids_of s.path; x = s.x; store = store_of s.goal; loaded = st }

      abbrev idle : Doing
      idle = record d { now = Idle }

      abbrev c2 : Coord
      c2 = set_doing u idle c1

      abbrev e : Coord
      e = on_root rt (with_join j0) c2

      abbrev grant : ℕ
      grant = k.grant * 4294967296

      abbrev inc0 : Include
      inc0 = record { act = act u; line = p; grant = grant }

      abbrev T : State
      T = next (event.Included (act u) grant p) S

      e_is : after mv ≡ e
      e_is = λ i. on_root rt (with_join j0) (change_doing (λ (q : Doing). record q { now = Idle }) u c1 (work.works i))

      i1 : SeesIncludes act x c1 S
      i1 = inc_first mv

      abbrev r1 : Uid → Root
      r1 w = root_at w c1

      root_cases : (P : Root → Type 0) (w : Uid) → P (r1 w) → P (with_join j0 (r1 w)) → P (root_at w e)
      root_cases P w old new = ⊎_elim
          (λ (is : w.num ≡ rt.num).
          subst P (sym (by_num e is ∙ root_here rt (with_join j0) c2 ∙ ap (with_join j0) (sym (by_num c1 is)))) new)
          (λ (apart : w.num ≢ rt.num). subst P (sym (root_else rt (with_join j0) c2 w apart)) old)
          (number_cases w.num rt.num)
        where
          number_cases : (m n : ℕ) → (m ≡ n) ⊎ (m ≢ n)
          number_cases m n = grind arith

          by_num : (z : Coord) → w.num ≡ rt.num → root_at w z ≡ root_at rt z
          by_num z is = ap (λ (n : ℕ). unwrap_or (at_number n z.roots) no_root) is

      granted : IsGranted act x s k (r1 rt) S
      granted = i1.waits u d s k work.works on.calling loading

      same_b : (v : Uid) (q : Branch) → v ≡ u → branch_of v c.tree ≡ Some q → b ≡ q
      same_b v q is found = let two : ◌≡◌ {A = Option Branch} (Some b) (Some q) = sym work.there
          ∙ ap (λ (y : Uid). branch_of y c.tree) (sym is) ∙ found in cc two

      new_noted : IsNoted act x inc0 (with_join j0 (r1 rt)) c.tree
      new_noted = let f = join_there j0 (let q = r1 rt in q.joined) in record {
        join = f.0;
        there = in_to f.0 (joined_with j0 (let q = r1 rt in q.joined)) f.1;
        about = f.3 ∙ about;
        by = ap act (sym f.2);
        granted = λ q found. subst (λ (t : Uid). HasGrant (with_join j0 (r1 rt)) x t grant) (ap (λ y. top_of y) on.path
            ∙ ap (λ (y : Branch). top_of y.path) (same_b (last_uid (let j = f.0 in j.path)) q f.2 found)) granted.noted;
      }

      old_noted : (w : Uid) (i : Include) → IsNoted act x i (r1 w) c.tree → IsNoted act x i (with_join j0 (r1 w)) c.tree
      old_noted w i n =
          let f = join_stays j0 (let q = r1 w in q.joined) n.join (in_from n.join (let q = r1 w in q.joined) n.there) in record {
            join = f.0;
            there = in_to f.0 (joined_with j0 (let q = r1 w in q.joined)) f.1;
            about = f.3 ∙ n.about;
            by = n.by ∙ ap (λ us. act (last_uid us)) (sym f.2);
            granted = λ q found. n.granted q (ap (λ us. branch_of (last_uid us) c.tree) (sym f.2) ∙ found);
          }

      inc_e : SeesIncludes act x e T
      inc_e = record {
        lines = λ v q i there own has home. ⊎_elim
            (λ (is : i ≡ inc0). subst (λ (y : Include). IsNoted act x y (root_at v e) c.tree) (sym is)
            (mine v q there own (sym home ∙ ap (λ (y : Include). root y.act) is)))
            (λ old. let n = i1.lines v q i there own old home in root_cases (λ (y : Root). IsNoted act x i y c.tree) v n (old_noted v i n))
            has;
        joins = λ v q j there own i about'. root_cases (λ (y : Root). Contains y.joined j → IsJoined j c.tree) v
            (λ has. i1.joins v q j there own has about')
            (λ has. ⊎_elim
            (λ (is : j.path ≡ j0.path). record {
              branch = b;
              found = ap (λ us. branch_of (last_uid us) c.tree) is ∙ work.there;
              path = ap uids_of (sym on.path) ∙ sym is;
            })
            (λ f. let n = i1.joins v q f.0 there own (in_to f.0 (let z = r1 v in z.joined) f.1) (f.3 ∙ about') in
            record { branch = n.branch; found = ap (λ us. branch_of (last_uid us) c.tree) (sym f.2) ∙ n.found; path = n.path ∙ f.2 })
            (join_from j0 (let z = r1 v in z.joined) j (in_from j (joined_with j0 (let z = r1 v in z.joined)) has)))
            i;
        waits = λ w y z kk works calling load. ⊎_elim
            (λ (is : w ≡ u). absurd (let two : ◌≡◌ {A = Option Doing} (Some idle) (Some y) = sym (doing_put u idle d c1 work.works)
            ∙ ap (λ (v : Uid). doing_of v c2) (sym is) ∙ works in let one : idle ≡ y = cc two in
            let bad : Idle ≡ Calling z = ap (λ (v : Doing). v.now) one ∙ calling in cc bad))
            (λ (other : w ≢ u). let g = i1.waits w y z kk (sym (doing_other u w idle d c1 work.works other) ∙ works) calling load in
            root_cases (λ (v : Root). IsGranted act x z kk v T) (root_of z.path) (record { sent = g.sent; noted = g.noted })
            (record { sent = g.sent; noted = g.noted }))
            (uid_cases w u);
      }
        where
          mine : (v : Uid) (q : Branch) → branch_of v c.tree ≡ Some q → root_of q.path ≡ v → root (act v) ≡ root (act u) →
              IsNoted act x inc0 (root_at v e) c.tree
          mine v q there own home =
              let steady = work.steady in
              let is : v ≡ rt = sym own ∙ ap first_uid (steady.good.tree.lists.paths_are v q there) ∙ steady.alike.units v u home
              ∙ ap first_uid (sym (steady.good.tree.lists.paths_are u b work.there)) ∙ ap (λ y. root_of y) (sym on.path) in
              subst (λ (y : Uid). IsNoted act x inc0 (root_at y e) c.tree) (sym is)
              (subst (λ (y : Root). IsNoted act x inc0 y c.tree) (sym (root_here rt (with_join j0) c2)) new_noted)

      asks : IsAsking c.tree u s.path
      asks = let g = let y = work.steady in y.good in subst (IsBusy c.tree u) on.calling (g.busy u d work.works)

      acts : is_action (act u) ≡ true
      acts = let y = work.steady in action_kind (act u) b.kind
          (λ is. asks.unserial (ap (λ (v : Branch). v.kind) (sym (same_b u asks.branch refl asks.found)) ∙ is)) (y.placed u b work.there)

      guard : In (machine.Granted (top (act u)) grant) S.net
      guard =
          subst (λ (a : Act). In (machine.Granted a grant) S.net) (sym (work.topped ∙ ap (λ y. act (top_of y)) (sym on.path))) granted.sent

      included : Result mv
      included = record {
        state = T;
        run = step (event.Included (act u) grant p) (
          acts,
          guard,
          opens act paths x c S.action work.steady sees.actions u b d work.there work.unended work.works (ap is_committing_now on.calling)
              work.lone,
          now,
        ) stay;
        holds = (
          stays_coord act code x (after mv) (after mv) S S.action (p + 1) (inc0 ∷ S.includes) sees_E sees_E.actions
              (λ w q there. (q, there, refl)) (λ w q there. (q, there, refl)) (λ us h. h) (λ w. refl) (λ w y z works calling. works),
          subst (λ (y : Coord). SeesIncludes act x y T) (sym e_is) inc_e,
          refl,
          subst (λ (v : Option (ℕ × ObjectState)). WritesInclude act p s v S T) (sym its) (refl, refl),
          subst (λ (v : Option (ℕ × ObjectState)). HasState s v (root_at rt (after mv))) (sym its)
              (subst (λ (y : Coord). HasState s (Some (k.grant, st)) (root_at rt y)) (sym e_is)
              (subst (HasState s (Some (k.grant, st))) (sym (root_here rt (with_join j0) c2)) state)),
        );
      }
        where
          state : HasState s (Some (k.grant, st)) (with_join j0 (r1 rt))
          state = let f = join_there j0 (let q = r1 rt in q.joined) in (
            f.0,
            in_to f.0 (joined_with j0 (let q = r1 rt in q.joined)) f.1,
            f.2,
            f.3,
            goal ∙ ap IncludeStore (ap store_of (sym goal) ∙ sym f.4),
            f.5,
          )

  -- ---- whichever answer it is

  abbrev ToInclude : Bool → Option Known → At → Reply → Type 0
  ToInclude free kept a r = Result r (included_by a r) (answered free kept (IncludeStore store) a r)

  abbrev Seen : Bool → Option Known → At → Reply → Type 0
  Seen free kept a r = SeesCoord act code x (after r (included_by a r) (answered free kept (IncludeStore store) a r)) S

  load_same : (k l : Known) (m n : ℕ) (ms ns : List ℕ) → AtLoad k m ms ≡ AtLoad l n ns → k ≡ l
  load_same k l m n ms ns e = cc e

  -- it waits for its Bind
  binds : (free : Bool) (kept : Option Known) (avoid : Binding) (r : Reply) → ShowsInclude act (top_of s.path) S r →
      Seen free kept (AtBind avoid) r → ToInclude free kept (AtBind avoid) r
  binds free kept avoid (Reply.Bound (bound.Live n server i g stores)) shows seen = absurd shows
  binds free kept avoid (Reply.Bound (bound.Make n server g stores)) shows seen = absurd shows
  binds free kept avoid (Reply.Bound (bound.Conflict h m)) shows seen =
      ends (Reply.Bound (bound.Conflict h m)) None kept (protocol.Conflict h m 1) refl (λ st e. cc e) seen
  binds free kept avoid (Reply.Bound (bound.Write g [])) shows seen =
      ends (Reply.Bound (bound.Write g [])) None kept (protocol.Lost 1 false) refl (λ st e. cc e) seen
  binds free kept avoid (Reply.Bound (bound.Write g (n ∷ ns))) shows seen = goes r None kept a refl seen may
    where
      r : Reply
      r = Reply.Bound (bound.Write g (n ∷ ns))

      a : At
      a = AtLoad (write_known g (n ∷ ns)) n ns

      mv : Moved
      mv = record { step = On a; kept = kept }

      asked : Grant
      asked = record { top = top_of s.path; x = s.x; least = g; named = None }

      new : HasGrant (root_moved s r mv (root_at rt c)) x (top_of s.path) (g * 4294967296)
      new = let f = new_grant asked (let q = root_at rt c in q.grants) in (
        f.0,
        in_to f.0 (granted_with asked (let q = root_at rt c in q.grants)) f.1,
        f.2,
        f.3 ∙ about,
        scaled (let y = f.0 in y.least) g f.4,
      )
        where
          scaled : (m n : ℕ) → m ≤ n → m * 4294967296 ≤ n * 4294967296
          scaled m n low = omega (arith, low)

      may : (k : Known) → IsLoading x (record s { req = s.req + 1; at = a }) k →
          IsGranted act x (record s { req = s.req + 1; at = a }) k (root_at rt (first r None mv)) S
      may k load = subst (λ (y : Known). IsGranted act x (record s { req = s.req + 1; at = a }) y (root_at rt (first r None mv)) S)
          (let l = load.at in load_same (write_known g (n ∷ ns)) k n l.0 ns l.1 l.2)
          (record {
            sent = shows;
            noted = subst (λ (q : Root). HasGrant q x (top_of s.path) (g * 4294967296)) (sym (root_here rt (root_moved s r mv) c)) new;
          })
  binds free kept avoid (Reply.Loaded y) shows seen =
      goes (Reply.Loaded y) None kept (AtBind avoid) refl seen (λ k load. absurd (let l = load.at in cc l.2))
  binds free kept avoid (Reply.Activated y) shows seen =
      goes (Reply.Activated y) None kept (AtBind avoid) refl seen (λ k load. absurd (let l = load.at in cc l.2))
  binds free kept avoid (Reply.Noted y) shows seen =
      goes (Reply.Noted y) None kept (AtBind avoid) refl seen (λ k load. absurd (let l = load.at in cc l.2))
  binds free kept avoid (Reply.Invoked y) shows seen =
      goes (Reply.Invoked y) None kept (AtBind avoid) refl seen (λ k load. absurd (let l = load.at in cc l.2))
  binds free kept avoid (Reply.Voted y) shows seen =
      goes (Reply.Voted y) None kept (AtBind avoid) refl seen (λ k load. absurd (let l = load.at in cc l.2))
  binds free kept avoid (Reply.Prepared y) shows seen =
      goes (Reply.Prepared y) None kept (AtBind avoid) refl seen (λ k load. absurd (let l = load.at in cc l.2))
  binds free kept avoid (Reply.Confirmed y) shows seen =
      goes (Reply.Confirmed y) None kept (AtBind avoid) refl seen (λ k load. absurd (let l = load.at in cc l.2))

  -- it waits for its state, and goes on to
  module _ (k : Known) (n : ℕ) (rest : List ℕ) (at : s.at ≡ AtLoad k n rest) where
    loads_again : (r : Reply) (kept : Option Known) → SeesCoord act code x (after r None
        (record { step = On (AtLoad k n rest); kept = kept })) S → Result r None (record { step = On (AtLoad k n rest); kept = kept })
    loads_again r kept seen = goes r None kept (AtLoad k n rest) refl seen
        (λ l load. (let q = inc_first r None (record { step = On (AtLoad k n rest); kept = kept }) in let h = load.at in
        let g = q.waits u d s l work.works on.calling (record { about = about; goal = (store, goal); at = (h.0, h.1, at ∙ h.2) }) in
        record { sent = g.sent; noted = g.noted }))

    loads : (free : Bool) (kept : Option Known) (r : Reply) → Seen free kept (AtLoad k n rest) r → ToInclude free kept (AtLoad k n rest) r
    loads free kept (Reply.Loaded (loaded.State st)) seen = included (Reply.Loaded (loaded.State st)) (Some (k.grant, st)) kept k st refl
        (record { about = about; goal = (store, goal); at = (n, rest, at) }) seen
    loads free kept (Reply.Loaded (loaded.InDoubt h)) seen =
        ends (Reply.Loaded (loaded.InDoubt h)) None kept (protocol.Conflict h mode.Write n) refl (λ st e. cc e) seen
    loads free kept (Reply.Bound y) seen = loads_again (Reply.Bound y) kept seen
    loads free kept (Reply.Activated y) seen = loads_again (Reply.Activated y) kept seen
    loads free kept (Reply.Noted y) seen = loads_again (Reply.Noted y) kept seen
    loads free kept (Reply.Invoked y) seen = loads_again (Reply.Invoked y) kept seen
    loads free kept (Reply.Voted y) seen = loads_again (Reply.Voted y) kept seen
    loads free kept (Reply.Prepared y) seen = loads_again (Reply.Prepared y) kept seen
    loads free kept (Reply.Confirmed y) seen = loads_again (Reply.Confirmed y) kept seen

  by_step : (free : Bool) (kept : Option Known) (a : At) → s.at ≡ a → is_early a ≡ true → (r : Reply) →
      ShowsInclude act (top_of s.path) S r → Seen free kept a r → ToInclude free kept a r
  by_step free kept (AtBind avoid) is early r shows seen = binds free kept avoid r shows seen
  by_step free kept (AtLoad k n rest) is early r shows seen = loads k n rest is free kept r seen
  by_step free kept (AtActivate k st) is early r shows seen = absurd (cc early)
  by_step free kept (AtNote k i) is early r shows seen = absurd (cc early)
  by_step free kept (AtInvoke k i) is early r shows seen = absurd (cc early)

  names_none : (r : Reply) → ShowsInclude act (top_of s.path) S r → IsToInclude r
  names_none (Reply.Bound (bound.Live n server i g stores)) shows = shows
  names_none (Reply.Bound (bound.Make n server g stores)) shows = shows
  names_none (Reply.Bound (bound.Write g stores)) shows = tt
  names_none (Reply.Bound (bound.Conflict h m)) shows = tt
  names_none (Reply.Loaded y) shows = tt
  names_none (Reply.Activated y) shows = tt
  names_none (Reply.Noted y) shows = tt
  names_none (Reply.Invoked y) shows = tt
  names_none (Reply.Voted y) shows = tt
  names_none (Reply.Prepared y) shows = tt
  names_none (Reply.Confirmed y) shows = tt

  answer_goes : (r : Reply) → ShowsInclude act (top_of s.path) S r →
      Result r (included_by s.at r) (answered (is_free rt u s.x c) (kept_at s c) s.goal s.at r)
  answer_goes r shows =
      subst (λ (g : Goal). Result r (included_by s.at r) (answered (is_free rt u s.x c) (kept_at s c) g s.at r)) (sym goal)
      (by_step (is_free rt u s.x c) (kept_at s c) s.at refl (include_early act code x c u d s S sees work.works on.calling about store goal)
      r shows
      (subst (λ (g : Goal). SeesCoord act code x (after r (included_by s.at r) (answered (is_free rt u s.x c) (kept_at s c) g s.at r)) S)
      goal (other_answers_are_taken act code paths x c u b d s r S work on (inr (store, goal)) (λ same. names_none r shows) sees)))

pub include_answers_are_taken : IncludeAnswersAreTaken
include_answers_are_taken act code paths x p store c u b d s r S reached work on about goal now shows sees inc =
    answer_goes act code paths x p store c b d s S (subst (λ (v : Uid). IsAtWork act paths c v b d) (sym its_actor) work) on about goal now
    sees inc r shows
  where
    its_actor : actor s.path ≡ u
    its_actor = ap actor on.path ∙ work.steady.good.tree.lists.places u b work.there
