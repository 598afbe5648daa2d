-- A coordinator that was answered to a call or an include: who waits in it, and what its root takes note of.
use Rattle.arj_law_parts.proofs.Words
use Words.{◌≡◌, ◌≢◌, ◌⊎◌, ◌+◌, ℕ, ◌==◌, ◌&&◌, if◌then◌else◌, Bool, true, false, List, [], ◌∷◌, ◌++◌, Option, Some, None, refl, sym, ◌∙◌, ap}
use Words.{subst, inl, inr, ⊎_elim, Contains, unwrap_or, list_any, and_parts, In, in_from, in_to, Uid, last_uid, uid_eq, uids_of, Reply}
use Words.{actor, top_of, ends_call, goes_on, granted_by, is_invoke_ask, keeps_after, notes_grant, root_heard, root_moved, step_call}
use Words.{store_of, Answered, CallEnd, CallStep, Changed, Conflict, Ended, Goal, Include, Included, Lost, Moved, On, Run, Steps}
use Words.{has_changed, is_include, next_ask, next_node, Calling, Coord, Doing, Grant, Idle, Joined, Keeping, Root, Said, Went, doing_of}
use Words.{granted_with, is_call, joined_with, keeping_of, kept_of, later_state, no_keeping, no_root, on_doing, on_root, root_at, same_join}
use Words.{same_said, with_keeping, with_said, with_went, at_number, branch_of, ends_of, is_own, root_of, put_same as put_number_same}
use Words.bound
use Rattle.arj_law_disk_view.proofs.Terms.{roots_work, some_is, test_is, Kinds, Names, HaveLoads, IsTopOf}
use Rattle.arj_law_disk_view.proofs.running
use running.{HeardGiveups.put_keeps, HeardLike.went_to, HeardTaken.HasGone, HeardTaken.JoinsFrom}
use running.HeardCalls.{root_put, went_with, work_apart}
use running.HeardRoots.{GrantsAlike, HasJoinOf, IsAlike, KeptAlike}
use Rattle.arj_law_disk_view.proofs.view.Doings.{doing_tree}

-- ---- who waits

-- the next step, where there is one
abbrev pub next_of : Steps → CallStep → Option Steps
next_of s (On at) = Some (record s { req = s.req + 1; at = at })
next_of s (Ended e) = None

-- its root, with what it takes note of at the end
abbrev pub gone_root : Steps → CallStep → Root → Root
gone_root s (On at) r = r
gone_root s (Ended e) r = root_heard s e r

-- it doesn't doom its action
abbrev pub dooms_none : CallStep → Bool
dooms_none (Ended (Lost n true)) = false
dooms_none _ = true

put_here : (root : Uid) (f : Root → Root) (c : Coord) → root_at root (on_root root f c) ≡ f (root_at root c)
put_here root f c = ap (λ z. unwrap_or z no_root) (put_number_same (let r = root in r.num) (f (root_at root c)) c.roots)

put_away : (root : Uid) (f : Root → Root) (c : Coord) (u : Uid) → (u.num ≡ root.num → ⊥) → root_at u (on_root root f c) ≡ root_at u c
put_away root f c u not = ⊎_elim (λ same. absurd (not (sym same.0))) (λ other. other) (root_put root f c u)

module _ (s : Steps) (c : Coord) (d : Doing) (found : doing_of (actor s.path) c ≡ Some d) (f : Root → Root) where
  abbrev mid : Coord
  mid = on_root (root_of s.path) f c

  -- a request goes out for the next step
  goes : (z : Steps) → z.path ≡ s.path →
      HasGone s (Some z) (f (root_at (root_of s.path) c)) c (goes_on z (on_root (root_of s.path) f c)).part
  goes z path = record {
    tree = λ u. ap (branch_of u) tree_is;
    own = λ u. ap (is_own u) tree_is;
    works =
        λ u q does. ⊎_elim (λ mine. inr (ap (λ (y : Doing). y.now) (sym mine.1))) (λ old. inl (subst (λ p. u ≢ actor p) path old.0, old.1))
        (work_apart (actor z.path) to_next mid d (ap (λ p. doing_of (actor p) c) path ∙ found) u q does);
    here = here_now;
    path = λ y is. ap (λ (v : Steps). v.path) (some_is is refl) ∙ path;
    there = λ u other. put_away (root_of z.path) (with_went went) asked u (λ same. other (same ∙ ap (λ p. (root_of p).num) path))
        ∙ (worked u ∙ put_away (root_of s.path) f c u other);
  }
    where
      to_next : Doing → Doing
      to_next y = record y { req = z.req; now = Calling z }

      asked : Coord
      asked = on_doing (actor z.path) (λ (y : Doing). record y { req = z.req; now = Calling z }) (on_root (root_of s.path) f c)

      went : Went
      went = record {
        path = uids_of z.path;
        node = next_node z;
        invoke = is_invoke_ask (next_ask (ends_of (root_of z.path) (let m = on_doing (actor z.path)
            (λ (y : Doing). record y { req = z.req; now = Calling z }) (on_root (root_of s.path) f c) in m.tree)) z);
      }

      tree_is : (goes_on z (on_root (root_of s.path) f c)).part.tree ≡ c.tree
      tree_is = doing_tree (actor z.path) (λ (y : Doing). record y { req = z.req; now = Calling z }) (on_root (root_of s.path) f c)

      worked : (u : Uid) → root_at u asked ≡ root_at u (on_root (root_of s.path) f c)
      worked u = ap (λ (rs : List (ℕ × Root)). unwrap_or (at_number u.num rs) no_root)
          (roots_work (actor z.path) to_next (on_root (root_of s.path) f c))

      here_now : (w : List Went)
          × (root_at (root_of s.path) (goes_on z (on_root (root_of s.path) f c)).part ≡ went_to w (f (root_at (root_of s.path) c)))
      here_now =
          let g = went_with went (root_at (root_of z.path) asked) in (
            g.0,
            ap (λ p. root_at (root_of p) (on_root (root_of z.path) (with_went went) asked)) (sym path)
                ∙ (put_here (root_of z.path) (with_went went) asked
                ∙ (g.1 ∙ ap (went_to g.0) (worked (root_of z.path)
                ∙ (ap (λ p. root_at (root_of p) (on_root (root_of s.path) f c)) path ∙ put_here (root_of s.path) f c)))),
          )

  -- it ends
  ends : (e : CallEnd) → dooms_none (Ended e) ≡ true →
      HasGone s None (root_heard s e (f (root_at (root_of s.path) c))) c (ends_call s e (on_root (root_of s.path) f c)).part
  ends e plain = by e plain
    where
      to_idle : Doing → Doing
      to_idle y = record y { now = Idle }

      idle : Coord
      idle = on_doing (actor s.path) (λ (y : Doing). record y { now = Idle }) (on_root (root_of s.path) f c)

      worked : (u : Uid) → root_at u idle ≡ root_at u (on_root (root_of s.path) f c)
      worked u = ap (λ (rs : List (ℕ × Root)). unwrap_or (at_number u.num rs) no_root)
          (roots_work (actor s.path) to_idle (on_root (root_of s.path) f c))

      all : (g : Root → Root) → HasGone s None (g (f (root_at (root_of s.path) c))) c (on_root (root_of s.path) g idle)
      all g = record {
        tree = λ u. ap (branch_of u) tree_is;
        own = λ u. ap (is_own u) tree_is;
        works = λ u q does. ⊎_elim (λ mine. inr (ap (λ (y : Doing). y.now) (sym mine.1))) (λ old. inl old)
            (work_apart (actor s.path) to_idle mid d found u q does);
        here = (
          (let r = g (f (root_at (root_of s.path) c)) in r.went),
          put_here (root_of s.path) g idle ∙ ap g (worked (root_of s.path) ∙ put_here (root_of s.path) f c),
        );
        path = λ y is. absurd (cc is);
        there = λ u other. put_away (root_of s.path) g idle u other ∙ (worked u ∙ put_away (root_of s.path) f c u other);
      }
        where
          tree_is : idle.tree ≡ c.tree
          tree_is = doing_tree (actor s.path) to_idle (on_root (root_of s.path) f c)

      by : (e : CallEnd) → dooms_none (Ended e) ≡ true →
          HasGone s None (root_heard s e (f (root_at (root_of s.path) c))) c (ends_call s e (on_root (root_of s.path) f c)).part
      by (Answered a) on = all (root_heard s (Answered a))
      by (Included st) on = all (root_heard s (Included st))
      by (Conflict holder m n) on = all (root_heard s (Conflict holder m n))
      by (Changed n w) on = all (root_heard s (Changed n w))
      by (Lost n false) on = all (root_heard s (Lost n false))
      by (Lost n true) on = absurd (cc on)

  pub has_gone : (step : CallStep) → dooms_none step ≡ true → HasGone s (next_of s step) (gone_root s step (f (root_at (root_of s.path) c)))
      c (step_call s step (on_root (root_of s.path) f c)).part
  has_gone (On at) on = goes (record s { req = s.req + 1; at = at }) refl
  has_gone (Ended e) on = ends e on

-- ---- what the root takes note of

keep_here : (x : ℕ) (k : Keeping) (r : Root) → kept_of x (with_keeping x k r) ≡ k.kept
keep_here x k r = ap (λ o. (unwrap_or o no_keeping).kept) (put_number_same x k r.keeping)

noted_keeps : (x : ℕ) (g : Option Grant) (o : Root) → kept_of x (notes_grant g o) ≡ kept_of x o
noted_keeps x None o = refl
noted_keeps x (Some g) o = refl

pub noted_said : (g : Option Grant) (o : Root) → (notes_grant g o).said ≡ o.said
noted_said None o = refl
noted_said (Some g) o = refl

pub noted_joined : (g : Option Grant) (o : Root) → (notes_grant g o).joined ≡ o.joined
noted_joined None o = refl
noted_joined (Some g) o = refl

pub noted_states : (g : Option Grant) (o : Root) → (notes_grant g o).states ≡ o.states
noted_states None o = refl
noted_states (Some g) o = refl

-- what is kept after a step of a call is what the answer says; an include changes nothing of it
pub moved_kept : (s : Steps) (r : Reply) (m : Moved) (o : Root) →
    kept_of s.x (root_moved s r m o) ≡ (if is_call s.goal then m.kept else kept_of s.x o)
moved_kept s r m o = keep_here s.x (keeps_after s.goal (has_changed m.step) m.kept (keeping_of s.x o))
    (notes_grant (granted_by (top_of s.path) s.x r) o) ∙ by (is_call s.goal) _
  where
    by : (b z : Bool) → (if b then record (keeping_of s.x o) { kept = m.kept; spoiled = z } else keeping_of s.x o).kept
        ≡ (if b then m.kept else kept_of s.x o)
    by true z = refl
    by false z = refl

pub moved_other : (x : ℕ) (s : Steps) (r : Reply) (m : Moved) (o : Root) → (s.x ≡ x → ⊥) → kept_of x (root_moved s r m o) ≡ kept_of x o
moved_other x s r m o other = ⊎_elim (λ here. absurd (other here.0)) (λ same. same ∙ noted_keeps x (granted_by (top_of s.path) s.x r) o)
    (put_keeps x s.x (keeps_after s.goal (has_changed m.step) m.kept (keeping_of s.x o)) (notes_grant (granted_by (top_of s.path) s.x r) o))

-- ---- and of an end

-- a call that was answered
said_on : (z : Said) (r : Root) (w : Said) → In w r.said → In w (with_said z r).said
said_on z r w i = by (list_any (same_said z) r.said)
  where
    more : (ws : List Said) → In w ws → In w (ws ++ z ∷ [])
    more [] j = absurd j
    more (v ∷ ws) (inl same) = inl same
    more (v ∷ ws) (inr j) = inr (more ws j)

    by : (b : Bool) → In w (if b then r else record r { said = r.said ++ z ∷ [] }).said
    by true = i
    by false = more r.said i

pub said_back : (z : Said) (r : Root) (w : Said) → In w (with_said z r).said → In w r.said ⊎ (w ≡ z)
said_back z r w i = by (list_any (same_said z) r.said) i
  where
    less : (ws : List Said) → In w (ws ++ z ∷ []) → In w ws ⊎ (w ≡ z)
    less [] (inl same) = inr (sym same)
    less [] (inr j) = absurd j
    less (v ∷ ws) (inl same) = inl (inl same)
    less (v ∷ ws) (inr j) = ⊎_elim (λ old. inl (inr old)) (λ new. inr new) (less ws j)

    by : (b : Bool) → In w (if b then r else record r { said = r.said ++ z ∷ [] }).said → In w r.said ⊎ (w ≡ z)
    by true j = inl j
    by false j = less r.said j

pub said_same : {X : Type 0} (f : Root → X) (z : Said) (r : Root) → ((ws : List Said) → f (record r { said = ws }) ≡ f r) →
    f (with_said z r) ≡ f r
said_same f z r same = by (list_any (same_said z) r.said)
  where
    by : (b : Bool) → f (if b then r else record r { said = r.said ++ z ∷ [] }) ≡ f r
    by true = refl
    by false = same (r.said ++ z ∷ [])

-- an include that was answered
joined_on : (j : Joined) (is : List Joined) (i : Joined) → In i is →
    (z : Joined) × In z (joined_with j is) × (z.path ≡ i.path) × (z.x ≡ i.x)
joined_on j [] i there = absurd there
joined_on j (v ∷ is) i there = by (same_join j v) there (joined_on j is i)
  where
    by : (b : Bool) → In i (v ∷ is) → (In i is → (z : Joined) × In z (joined_with j is) × (z.path ≡ i.path) × (z.x ≡ i.x)) →
        (z : Joined) × In z (if b then record v { loaded = later_state v.loaded j.loaded } ∷ is else v ∷ joined_with j is)
        × (z.path ≡ i.path) × (z.x ≡ i.x)
    by true (inl same) ih =
        (record v { loaded = later_state v.loaded j.loaded }, inl refl, ap (λ (w : Joined). w.path) same, ap (λ (w : Joined). w.x) same)
    by true (inr more) ih = (i, inr more, refl, refl)
    by false (inl same) ih = (v, inl refl, ap (λ (w : Joined). w.path) same, ap (λ (w : Joined). w.x) same)
    by false (inr more) ih = let z = ih more in (z.0, inr z.1, z.2, z.3)

joined_back : (x : ℕ) (j : Joined) (is : List Joined) → (j.x ≡ x → ⊥) → (i : Joined) → In i (joined_with j is) → i.x ≡ x → In i is
joined_back x j [] other i (inl same) of = absurd (other (ap (λ (w : Joined). w.x) same ∙ of))
joined_back x j [] other i (inr none) of = absurd none
joined_back x j (v ∷ is) other i there of = by (same_join j v) refl there (λ h. joined_back x j is other i h of)
  where
    by : (b : Bool) → same_join j v ≡ b → In i (if b then record v { loaded = later_state v.loaded j.loaded } ∷ is else v
        ∷ joined_with j is) → (In i (joined_with j is) → In i is) → In i (v ∷ is)
    by true on (inl same) ih = absurd (other (test_is j.x v.x (and_parts (j.x == v.x) (j.store == v.store) (and_parts (uid_eq
        (last_uid j.path) (last_uid v.path)) ((j.x == v.x) && (j.store == v.store)) on).1).0 ∙ (ap (λ (w : Joined). w.x) same ∙ of)))
    by true on (inr more) ih = inr more
    by false on (inl same) ih = inl same
    by false on (inr more) ih = inr (ih more)

joined_from : (j : Joined) (is : List Joined) (i : Joined) → In i (joined_with j is) →
    ((z : Joined) × In z is × (z.path ≡ i.path)) ⊎ (i.path ≡ j.path)
joined_from j [] i (inl same) = inr (ap (λ (w : Joined). w.path) (sym same))
joined_from j [] i (inr none) = absurd none
joined_from j (v ∷ is) i there = by (same_join j v) there (joined_from j is i)
  where
    by : (b : Bool) → In i (if b then record v { loaded = later_state v.loaded j.loaded } ∷ is else v ∷ joined_with j is) →
        (In i (joined_with j is) → ((z : Joined) × In z is × (z.path ≡ i.path)) ⊎ (i.path ≡ j.path)) →
        ((z : Joined) × In z (v ∷ is) × (z.path ≡ i.path)) ⊎ (i.path ≡ j.path)
    by true (inl same) ih = inl (v, inl refl, ap (λ (w : Joined). w.path) same)
    by true (inr more) ih = inl (i, inr more, refl)
    by false (inl same) ih = inl (v, inl refl, ap (λ (w : Joined). w.path) same)
    by false (inr more) ih = ⊎_elim (λ (z : (z : Joined) × In z is × (z.path ≡ i.path)). inl (z.0, inr z.1, z.2)) (λ new. inr new) (ih more)

-- What an end leaves of a root, and what it adds.
pub record EndsRoot (s : Steps) (r q : Root) : Type 0 where
  pub grants : q.grants ≡ r.grants
  pub keeping : q.keeping ≡ r.keeping
  pub states : q.states ≡ r.states
  pub said_more : (z : Said) → In z r.said → In z q.said
  pub said_less : (z : Said) → In z q.said → In z r.said ⊎ (z ≡ record { path = uids_of s.path; x = s.x })
  pub joined_more : (j : Joined) → In j r.joined → HasJoinOf q j
  pub joined_less : (x : ℕ) → (s.x ≡ x → ⊥) → (j : Joined) → In j q.joined → j.x ≡ x → In j r.joined
  pub joined_from : (j : Joined) → In j q.joined → ((i : Joined) × In i r.joined × (i.path ≡ j.path)) ⊎ (j.path ≡ uids_of s.path)

pub ends_root : (s : Steps) (step : CallStep) (r : Root) → EndsRoot s r (gone_root s step r)
ends_root s (On at) r = left
  where
    left : EndsRoot s r r
    left = record {
      grants = refl;
      keeping = refl;
      states = refl;
      said_more = λ z i. i;
      said_less = λ z i. inl i;
      joined_more = λ j i. record { join = j; there = i; path = refl; of = refl };
      joined_less = λ x other j i of. i;
      joined_from = λ j i. inl (j, i, refl);
    }
ends_root s (Ended e) r = by e
  where
    left : EndsRoot s r r
    left = record {
      grants = refl;
      keeping = refl;
      states = refl;
      said_more = λ z i. i;
      said_less = λ z i. inl i;
      joined_more = λ j i. record { join = j; there = i; path = refl; of = refl };
      joined_less = λ x other j i of. i;
      joined_from = λ j i. inl (j, i, refl);
    }

    new : Said
    new = record { path = uids_of s.path; x = s.x }

    by : (e : CallEnd) → EndsRoot s r (root_heard s e r)
    by (Answered a) = record {
      grants = said_same (λ (o : Root). o.grants) new r (λ ws. refl);
      keeping = said_same (λ (o : Root). o.keeping) new r (λ ws. refl);
      states = said_same (λ (o : Root). o.states) new r (λ ws. refl);
      said_more = said_on new r;
      said_less = said_back new r;
      joined_more = λ j i.
          record { join = j; there = subst (In j) (sym (said_same (λ (o : Root). o.joined) new r (λ ws. refl))) i; path = refl; of = refl };
      joined_less = λ x other j i of. subst (In j) (said_same (λ (o : Root). o.joined) new r (λ ws. refl)) i;
      joined_from = λ j i. inl (j, subst (In j) (said_same (λ (o : Root). o.joined) new r (λ ws. refl)) i, refl);
    }
    by (Included st) = let j : Joined = record { path = uids_of s.path; x = s.x; store = store_of s.goal; loaded = st } in record {
      grants = refl;
      keeping = refl;
      states = refl;
      said_more = λ z i. i;
      said_less = λ z i. inl i;
      joined_more = λ i there. let z = joined_on j r.joined i there in record { join = z.0; there = z.1; path = z.2; of = z.3 };
      joined_less = λ x other i there of. joined_back x j r.joined other i there of;
      joined_from = λ i there. joined_from j r.joined i there;
    }
    by (Conflict holder m n) = left
    by (Changed n w) = left
    by (Lost n b) = left

-- ---- alike

-- a grant that an answer brings is of the call's object and top
grant_is : (top : Uid) (x : ℕ) (r : Reply) (g : Grant) → granted_by top x r ≡ Some g → (g.x ≡ x) × (g.top ≡ top)
grant_is top x (Reply.Bound (bound.Live b server i g stores)) z is =
    (ap (λ (y : Grant). y.x) (sym (some_is refl is)), ap (λ (y : Grant). y.top) (sym (some_is refl is)))
grant_is top x (Reply.Bound (bound.Make b server g stores)) z is =
    (ap (λ (y : Grant). y.x) (sym (some_is refl is)), ap (λ (y : Grant). y.top) (sym (some_is refl is)))
grant_is top x (Reply.Bound (bound.Write g stores)) z is =
    (ap (λ (y : Grant). y.x) (sym (some_is refl is)), ap (λ (y : Grant). y.top) (sym (some_is refl is)))
grant_is top x (Reply.Bound (bound.Conflict holder m)) z is = absurd (cc is)
grant_is top x (Reply.Loaded l) z is = absurd (cc is)
grant_is top x (Reply.Activated i) z is = absurd (cc is)
grant_is top x (Reply.Noted l) z is = absurd (cc is)
grant_is top x (Reply.Invoked l) z is = absurd (cc is)
grant_is top x (Reply.Voted l) z is = absurd (cc is)
grant_is top x (Reply.Prepared l) z is = absurd (cc is)
grant_is top x (Reply.Confirmed l) z is = absurd (cc is)

module _ (x : ℕ) (tops : Kinds) (s : Steps) (r : Reply) (m : Moved) (o : Root) where
  e : EndsRoot s (root_moved s r m o) (gone_root s m.step (root_moved s r m o))
  e = ends_root s m.step (root_moved s r m o)

  kept_is : kept_of x (gone_root s m.step (root_moved s r m o)) ≡ kept_of x (root_moved s r m o)
  kept_is = ap (λ (ks : List (ℕ × Keeping)). (unwrap_or (at_number x ks) no_keeping).kept) e.keeping

  -- of the object nothing is noted, and what is kept is alike
  alike_by : GrantsAlike x tops (root_of s.path) o (root_moved s r m o) → KeptAlike (kept_of x o) (kept_of x (root_moved s r m o)) →
      ((z : Said) → In z (gone_root s m.step (root_moved s r m o)).said → z.x ≡ x → In z (root_moved s r m o).said) →
      IsAlike x tops (root_of s.path) o (gone_root s m.step (root_moved s r m o))
  alike_by grants kept said = record {
    grants = ⊎_elim (λ same. inl (e.grants ∙ same)) (λ (z : (g : Grant) × (g.x ≡ x → ⊥) × IsTopOf tops (root_of s.path) g.top
        × ((root_moved s r m o).grants ≡ granted_with g o.grants)). inr (z.0, z.1, z.2, e.grants ∙ z.3)) grants;
    kept = kept_too kept;
    said_back =
        λ z i of. in_to z o.said (subst (In z) (noted_said g o) (said z (in_from z (gone_root s m.step (root_moved s r m o)).said i) of));
    said_on = λ z i. e.said_more z (subst (In z) (sym (noted_said g o)) i);
    joined_on = λ j i. e.joined_more j (subst (In j) (sym (noted_joined g o)) i);
    states = e.states ∙ noted_states g o;
  }
    where
      g : Option Grant
      g = granted_by (top_of s.path) s.x r

      kept_too : KeptAlike (kept_of x o) (kept_of x (root_moved s r m o)) →
          KeptAlike (kept_of x o) (kept_of x (gone_root s m.step (root_moved s r m o)))
      kept_too (inl same) = inl (same ∙ sym kept_is)
      kept_too (inr (k, l, was, now, binding, stores)) = inr (k, l, was, kept_is ∙ now, binding, stores)

  -- includes are those that were, and one under the step's path
  pub joins_from : JoinsFrom (uids_of s.path) o (gone_root s m.step (root_moved s r m o))
  joins_from j i = ⊎_elim (λ (z : (i : Joined) × In i (root_moved s r m o).joined × (i.path ≡ j.path)).
      inl (z.0, in_to z.0 o.joined (subst (In z.0) (noted_joined (granted_by (top_of s.path) s.x r) o) z.1), z.2)) (λ its. inr its)
      (e.joined_from j (in_from j (gone_root s m.step (root_moved s r m o)).joined i))

  -- it is about another object
  pub other_alike : (s.x ≡ x → ⊥) → IsTopOf tops (root_of s.path) (top_of s.path) →
      IsAlike x tops (root_of s.path) o (gone_root s m.step (root_moved s r m o))
  other_alike other top = alike_by (by (granted_by (top_of s.path) s.x r) refl) (inl (sym (moved_other x s r m o other)))
      (λ z i of. ⊎_elim (λ old. old) (λ new. absurd (other (ap (λ (w : Said). w.x) (sym new) ∙ of))) (e.said_less z i))
    where
      by : (g : Option Grant) → granted_by (top_of s.path) s.x r ≡ g → GrantsAlike x tops (root_of s.path) o (root_moved s r m o)
      by None is = inl (ap (λ y. (notes_grant y o).grants) is)
      by (Some g) is = let z = grant_is (top_of s.path) s.x r g is in
          inr (g, (λ of. other (sym z.0 ∙ of)), subst (IsTopOf tops (root_of s.path)) (sym z.1) top, ap (λ y. (notes_grant y o).grants) is)

  pub other_loads : (s.x ≡ x → ⊥) → (N : Names) → HaveLoads x tops (root_of s.path) o N →
      HaveLoads x tops (root_of s.path) (gone_root s m.step (root_moved s r m o)) N
  other_loads other N loads j t i of on top = loads j t (in_to j o.joined (subst (In j) (noted_joined (granted_by (top_of s.path) s.x r) o)
      (e.joined_less x other j (in_from j (gone_root s m.step (root_moved s r m o)).joined i) of))) of on top

  -- it is about the object, and brings no grant: what is kept is alike, where an answer to a call says so
  pub same_alike : s.x ≡ x → granted_by (top_of s.path) s.x r ≡ None → (is_include s.goal ≡ false → KeptAlike (kept_of s.x o) m.kept) →
      IsAlike x tops (root_of s.path) o (root_moved s r m o)
  same_alike of none kept = record {
    grants = inl (ap (λ y. (notes_grant y o).grants) none);
    kept = subst (λ y. KeptAlike (kept_of y o) (kept_of y (root_moved s r m o))) of
        (subst (KeptAlike (kept_of s.x o)) (sym (moved_kept s r m o)) (by s.goal kept));
    said_back = λ z i about. subst (λ ss. Contains ss z) (noted_said (granted_by (top_of s.path) s.x r) o) i;
    said_on = λ z i. subst (In z) (sym (noted_said (granted_by (top_of s.path) s.x r) o)) i;
    joined_on = λ j i.
        record { join = j; there = subst (In j) (sym (noted_joined (granted_by (top_of s.path) s.x r) o)) i; path = refl; of = refl };
    states = noted_states (granted_by (top_of s.path) s.x r) o;
  }
    where
      by : (g : Goal) → (is_include g ≡ false → KeptAlike (kept_of s.x o) m.kept) →
          KeptAlike (kept_of s.x o) (if is_call g then m.kept else kept_of s.x o)
      by (Run op) h = h refl
      by (Include st) h = inl refl

  pub same_loads : (N : Names) → HaveLoads x tops (root_of s.path) o N → HaveLoads x tops (root_of s.path) (root_moved s r m o) N
  same_loads N loads j t i of on top =
      loads j t (subst (λ js. Contains js j) (noted_joined (granted_by (top_of s.path) s.x r) o) i) of on top
