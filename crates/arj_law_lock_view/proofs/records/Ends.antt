-- Naming goes on at ends, at a Confirm, and when a server comes back; and a Confirm prepares entries of objects that it marks.
use Rattle.arj_law_parts.proofs.Words
use Words.{◌≡◌, ◌≢◌, ◌⊎◌, ◌≤◌, ◌==◌, ◌||◌, ◌&&◌, ℕ, Bool, true, false, cond, not, List, [], ◌∷◌, ◌++◌, Option, Some, None, map, filter}
use Words.{refl, sym, ◌∙◌, ap, subst, inl, inr, ⊎_elim, arith, eqb-true, ⊤, AllByRecursion, cons_option, filter_map, is_eq, nat_cmp}
use Words.{uid_cases, Uid, Binding, Body, ConfirmedReply, End, ObjectState, Path, entry, is_on, top_of, Grants, Marks, checked, confirm}
use Words.{confirm_entries, confirm_new, confirms, entries_after, entry_after, entry_state, first_of_each, has_all, is_bare, is_there}
use Words.{lock_all, lock_in, marked, named_back, other_grant, prepared_by, recovered_naming, refused_exclude, same_nodes, stores_after}
use Words.{wanted, with_stores, without_stores, Already, Did, Do, Effect, InDoubt, Look, Old, Pair, Prep, Prepare, Ready, Say, Served}
use Words.{did_nothing, either, held_at, is_prepared, prepare_answer, reply, void, Made, Named, end_named, hello_named, locked, Naming}
use Words.{is_over, taken_end, told_new, at_number, at_uid, binding_number, drop_uid, each, with_uid, without_uid, state_entry}
use Words.list
use Words.body
use Words.confirmed
use Words.ending
use Words.mode
use Words.role
use Words.what
use Words.naming
use Rattle.arj_law_lock_view.proofs.Terms
use Terms.{Action, at_each, each_at, each_passes, either_none, all_append, never, some_is, HoldsObjects, IsMarked, AreBelowLast}
use Terms.keys
use Rattle.arj_law_lock_view.proofs.records.Namings.{AllBelow, Grows, none_not, put_below, put_grows, same_grows, then_grows}
use Rattle.arj_law_parts.specs.parts.Objects.{AreSorted}

-- ---- ends, and a server that comes back

each_grows : (f : ℕ → Named → Named) (told confirmed : List Uid) (n : Naming) → ((x : ℕ) (o : Named) → at_number x n.objects ≡ Some o →
    ((f x o).recorded ≡ o.recorded) × ((u : Uid) → (is_on o.asked u || is_on n.told u) ≡ true →
    (is_on (f x o).asked u || is_on told u) ≡ true) × ((u : Uid) (m : Made) → at_uid u (f x o).made ≡ Some m → at_uid u o.made ≡ Some m)) →
    Grows n (record n { objects = each f n.objects; confirmed = confirmed; told = told })
each_grows f told confirmed n so = record {
  inc = refl;
  count = omega arith;
  objects = λ x o is. (
    f x o,
    each_at f x n.objects o is,
    record { recorded = λ b at. (b, (so x o is).0 ∙ at, omega arith); asked = (so x o is).1; made = λ u m at un old. (so x o is).2 u m at },
  );
}

each_below : (f : ℕ → Named → Named) (n : Naming) → ((x : ℕ) (o : Named) → at_number x n.objects ≡ Some o → AreBelowLast o →
    AreBelowLast (f x o)) → AllBelow n → (x : ℕ) (q : Named) → at_number x (each f n.objects) ≡ Some q → AreBelowLast q
each_below f n so all x q is = let g = at_each f x n.objects q is in subst AreBelowLast (sym g.2) (so x g.0 g.1 (all x g.0 g.1))

without_below : (u : Uid) (o q : Named) → AreSorted o.made → q.made ≡ without_uid u o.made → q.recorded ≡ o.recorded → AreBelowLast o →
    AreBelowLast q
without_below u o q sorted made rec below w m is on =
    let f = below w m (keys.without_cases w u m o.made sorted (sym (ap (at_uid w) made) ∙ is)).1 on in (f.0, rec ∙ f.1, f.2)

end_below : (u : Uid) (how : End) (o : Named) → AreSorted o.made → AreBelowLast o → AreBelowLast (end_named u how o)
end_below u ending.Commit o sorted below = without_below u o (end_named u ending.Commit o) sorted refl refl below
end_below u ending.Abort o sorted below = without_below u o (end_named u ending.Abort o) sorted refl refl below

-- who asked is known until it is told of
still_asked : (u w : Uid) (asked told : List Uid) → (is_on asked w || is_on told w) ≡ true →
    (is_on (drop_uid u asked) w || is_on (with_uid u told) w) ≡ true
still_asked u w asked told on = ⊎_elim
    (λ same. second (is_on (drop_uid u asked) w) (keys.with_on w u told (inl same)))
    (λ other. by (is_on asked w) refl on other) (uid_cases w u)
  where
    second : (a : Bool) {b : Bool} → b ≡ true → (a || b) ≡ true
    second true on = refl
    second false on = on

    first : {a : Bool} (b : Bool) → a ≡ true → (a || b) ≡ true
    first b on = ap (λ z. z || b) on

    by : (a : Bool) → is_on asked w ≡ a → (a || is_on told w) ≡ true → w ≢ u →
        (is_on (drop_uid u asked) w || is_on (with_uid u told) w) ≡ true
    by true is h other = first (is_on (with_uid u told) w) (keys.drop_on w u asked other is)
    by false is h other = second (is_on (drop_uid u asked) w) (keys.with_on w u told (inr h))

pub told_grows : (acts : List Action) (u : Uid) (how : End) (d : Pair) (n : Naming) → HoldsObjects acts n →
    (let s = naming.told u how d n in Grows n s.part × (AllBelow n → AllBelow s.part))
told_grows acts u how d n holds = by (is_on n.told u)
  where
    e : End
    e = taken_end u how n

    named : (x : ℕ) (o : Named) (h : End) → ((end_named u h o).recorded ≡ o.recorded) × ((end_named u h o).asked ≡ drop_uid u o.asked)
    named x o ending.Commit = (refl, refl)
    named x o ending.Abort = (refl, refl)

    left : (x : ℕ) (o : Named) (h : End) → (end_named u h o).made ≡ without_uid u o.made
    left x o ending.Commit = refl
    left x o ending.Abort = refl

    by : (b : Bool) → (let t = cond {A = Did Naming} b (did_nothing n) (told_new u (taken_end u how n) d n) in
        Grows n t.part × (AllBelow n → AllBelow t.part))
    by true = (same_grows n, λ all. all)
    by false = (
      each_grows (λ x. end_named u (taken_end u how n)) (with_uid u n.told) (drop_uid u n.confirmed) n (λ x o is. (
        (named x o (taken_end u how n)).0,
        λ w on. ap (λ us. is_on us w || is_on (with_uid u n.told) w) (named x o (taken_end u how n)).1 ∙ still_asked u w o.asked n.told on,
        λ w m at. (keys.without_cases w u m o.made (let g = holds.objects x o is in
            g.sorted) (sym (ap (at_uid w) (left x o (taken_end u how n))) ∙ at)).1,
      )),
      λ all. each_below (λ x. end_named u (taken_end u how n)) n
          (λ x o is below. end_below u (taken_end u how n) o (let g = holds.objects x o is in g.sorted) below) all,
    )

pub hello_grows : (node inc : ℕ) (n : Naming) → Grows n (naming.hello node inc n) × (AllBelow n → AllBelow (naming.hello node inc n))
hello_grows node inc n = (
  each_grows (λ x. hello_named node inc) n.told n.confirmed n (λ x o is. (refl, λ w on. on, λ u m at. at)),
  λ all. each_below (λ x. hello_named node inc) n (λ x o is below. below) all,
)

-- ---- a Confirm

locks_grow : (p : Path) (xs : List ℕ) (n : Naming) → Grows n (lock_all xs p n).part × (AllBelow n → AllBelow (lock_all xs p n).part)
locks_grow p [] n = (same_grows n, λ all. all)
locks_grow p (x ∷ xs) n =
    let a = one (at_number x n.objects) refl in
    let b = locks_grow p xs (lock_in x p n (at_number x n.objects)).part in (
      then_grows n (lock_in x p n (at_number x n.objects)).part (lock_all xs p (lock_in x p n (at_number x n.objects)).part).part a.0 b.0,
      λ all. b.1 (a.1 all),
    )
  where
    one : (o : Option Named) → at_number x n.objects ≡ o → Grows n (lock_in x p n o).part × (AllBelow n → AllBelow (lock_in x p n o).part)
    one None is = (same_grows n, λ all. all)
    one (Some o) is = (
      put_grows x o (locked x p mode.Exclude o) n.count n is (omega arith) (λ b at. (b, at, omega arith)) (λ u on. on)
          (λ u m at un old. at),
      λ all. put_below x (locked x p mode.Exclude o) n.count n (all x o is) all,
    )

confirmed_grows : (n p : Naming) (us : List Uid) → Grows n p → Grows n (record p { confirmed = us })
confirmed_grows n p us g = record {
  inc = g.inc;
  count = g.count;
  objects = λ x o is. let f = g.objects x o is in (f.0, f.1, record { recorded = f.2.recorded; asked = f.2.asked; made = f.2.made });
}

-- each prepared entry is of an object that is marked, with a grant of this incarnation
pub record IsPrepared (inc : ℕ) (grants : Grants) (excluded included : Marks) (s : ObjectState) : Type 0 where
  pub marks : IsMarked (let u = s.uid in u.num) excluded included
  pub one : (c : ℕ) → list.In ((let u = s.uid in u.num), c) grants → c ≡ inc

-- by these effects such entries of the top are prepared alone
abbrev pub PreparesSo : ℕ → Uid → Grants → Marks → Marks → Effect → Type 0
PreparesSo inc top grants excluded included (Do (Prepare role.Names u states)) =
    (u ≡ top) × ((s : ObjectState) → list.In s states → IsPrepared inc grants excluded included s)
PreparesSo inc top grants excluded included _ = ⊤

marked_in : (x : ℕ) (marks : Marks) → (marked x marks ≡ []) ⊎ ((m : ℕ × ℕ) × list.In m marks × (m.0 ≡ x))
marked_in x [] = inl refl
marked_in x (m ∷ ms) = by (m.0 == x) refl (marked_in x ms)
  where
    by : (b : Bool) → (m.0 == x) ≡ b → (marked x ms ≡ []) ⊎ ((k : ℕ × ℕ) × list.In k ms × (k.0 ≡ x)) → (map (λ (k : ℕ × ℕ). k.1) (cond b (m
        ∷ filter (λ (k : ℕ × ℕ). k.0 == x) ms) (filter (λ (k : ℕ × ℕ). k.0 == x) ms)) ≡ []) ⊎ ((k : ℕ × ℕ) × list.In k (m ∷ ms) × (k.0 ≡ x))
    by true is ih = inr (m, inl refl, eqb-true m.0 x is)
    by false is (inl none) = inl none
    by false is (inr f) = inr (f.0, inr f.1, f.2)

same_list : (ns : List ℕ) → same_nodes ns ns ≡ true
same_list [] = refl
same_list (n ∷ ns) = (λ i. one n i && same_list ns i)
  where
    one : (n : ℕ) → (n == n) ≡ true
    one n = grind arith

module _ (top : Uid) (grants : Grants) (excluded included : Marks) (d : Pair) where
  entry_in : (gs : Grants) (s : ObjectState) → list.In s (filter_map (λ (g : ℕ × ℕ). entry_after top excluded included g.0
      (held_at (entry g.0) d)) gs) → (g : ℕ × ℕ) × list.In g gs × (entry_after top excluded included g.0 (held_at (entry g.0) d) ≡ Some s)
  entry_in [] s i = absurd i
  entry_in (g ∷ gs) s i = by (entry_after top excluded included g.0 (held_at (entry g.0) d)) refl i (entry_in gs s)
    where
      rest : (f : (k : ℕ × ℕ) × list.In k gs × (entry_after top excluded included k.0 (held_at (entry k.0) d) ≡ Some s)) →
          (k : ℕ × ℕ) × list.In k (g ∷ gs) × (entry_after top excluded included k.0 (held_at (entry k.0) d) ≡ Some s)
      rest f = (f.0, inr f.1, f.2)

      by : (o : Option ObjectState) → entry_after top excluded included g.0 (held_at (entry g.0) d) ≡ o →
          list.In s (cons_option o (filter_map (λ (k : ℕ × ℕ). entry_after top excluded included k.0 (held_at (entry k.0) d)) gs)) →
          (list.In s (filter_map (λ (k : ℕ × ℕ). entry_after top excluded included k.0 (held_at (entry k.0) d)) gs) →
          (k : ℕ × ℕ) × list.In k gs × (entry_after top excluded included k.0 (held_at (entry k.0) d) ≡ Some s)) →
          (k : ℕ × ℕ) × list.In k (g ∷ gs) × (entry_after top excluded included k.0 (held_at (entry k.0) d) ≡ Some s)
      by None is j ih = rest (ih j)
      by (Some t) is (inl same) ih = (g, inl refl, is ∙ ap Some same)
      by (Some t) is (inr j) ih = rest (ih j)

  changed_so : (x : ℕ) (s : ObjectState) → entry_after top excluded included x (held_at (entry x) d) ≡ Some s →
      ((let u = s.uid in u.num) ≡ x) × IsMarked x excluded included
  changed_so x s is = held (held_at (entry x) d) is
    where
      held : (o : Option ObjectState) → entry_after top excluded included x o ≡ Some s →
          ((let u = s.uid in u.num) ≡ x) × IsMarked x excluded included
      held None e = none_not e
      held (Some t) e = by (same_nodes (stores_after x excluded included (state_entry t)) (state_entry t).stores) refl e
        where
          marks : (same_nodes (stores_after x excluded included (state_entry t)) (state_entry t).stores ≡ false) →
              IsMarked x excluded included
          marks differs = one (marked_in x excluded) (marked_in x included)
            where
              one : (marked x excluded ≡ []) ⊎ ((m : ℕ × ℕ) × list.In m excluded × (m.0 ≡ x)) →
                  (marked x included ≡ []) ⊎ ((m : ℕ × ℕ) × list.In m included × (m.0 ≡ x)) → IsMarked x excluded included
              one (inr f) b = (f.0, inl f.1, f.2)
              one (inl none) (inr f) = (f.0, inr f.1, f.2)
              one (inl none) (inl also) = absurd (never (same_list (state_entry t).stores) ((λ i. same_nodes
                  (with_stores (sym also i) (without_stores (sym none i) (state_entry t).stores)) (state_entry t).stores) ∙ differs))

          by : (b : Bool) → same_nodes (stores_after x excluded included (state_entry t)) (state_entry t).stores ≡ b →
              cond b None (Some (entry_state x top t (stores_after x excluded included (state_entry t)))) ≡ Some s →
              ((let u = s.uid in u.num) ≡ x) × IsMarked x excluded included
          by true is f = none_not f
          by false is f = (ap (λ (z : ObjectState). let u = z.uid in u.num) (sym (some_is f)), marks is)

-- ---- what a Confirm prepares

abbrev pub AllPrepare : ℕ → Uid → Grants → Marks → Marks → List Effect → Type 0
AllPrepare inc top grants excluded included outs = AllByRecursion (PreparesSo inc top grants excluded included) outs

-- naming goes on, and prepares so
pub record ConfirmsSo (n : Naming) (top : Uid) (grants : Grants) (excluded included : Marks) (r : Served Naming ConfirmedReply) :
    Type 0 where
  pub grows : Grows n r.part
  pub below : AllBelow n → AllBelow r.part
  pub prepares : AllPrepare n.inc top grants excluded included r.outs

module _ (p : Path) (grants : Grants) (excluded included : Marks) (d : Pair) (n : Naming) where
  abbrev All : List Effect → Type 0
  All outs = AllPrepare n.inc (top_of p) grants excluded included outs

  both : (es fs : List Effect) → All es → All fs → All (es ++ fs)
  both es fs a b = all_append (PreparesSo n.inc (top_of p) grants excluded included) es fs a b

  locks_prepare : (xs : List ℕ) (m : Naming) → All (lock_all xs p m).outs
  locks_prepare [] m = tt
  locks_prepare (x ∷ xs) m = both (lock_in x p m (at_number x m.objects)).outs (lock_all xs p (lock_in x p m
      (at_number x m.objects)).part).outs (one (at_number x m.objects)) (locks_prepare xs (lock_in x p m (at_number x m.objects)).part)
    where
      granted : (b : Bool) (l : Body) → All (cond b [] (Say l ∷ []))
      granted true l = tt
      granted false l = (tt, tt)

      one : (o : Option Named) → All (lock_in x p m o).outs
      one None = tt
      one (Some o) = granted _ _

  abbrev So : Served Naming ConfirmedReply → Type 0
  So r = ConfirmsSo n (top_of p) grants excluded included r

  nothing : (r : Option ConfirmedReply) → So (record { part = n; outs = []; reply = r })
  nothing r = record { grows = same_grows n; below = λ all. all; prepares = tt }

  module _ (free : checked p grants excluded included d n ≡ None) where
    abbrev t : Did Naming
    t = lock_all (wanted (top_of p) grants excluded d) p n

    grew : Grows n (lock_all (wanted (top_of p) grants excluded d) p n).part
        × (AllBelow n → AllBelow (lock_all (wanted (top_of p) grants excluded d) p n).part)
    grew = locks_grow p (wanted (top_of p) grants excluded d) n

    lines : All (lock_all (wanted (top_of p) grants excluded d) p n).outs
    lines = locks_prepare (wanted (top_of p) grants excluded d) n

    same_inc : (g : ℕ × ℕ) → list.In g grants → g.1 ≡ n.inc
    same_inc g i =
        let first = either_none (first_of_each (other_grant n) grants)
        (either (first_of_each (refused_exclude p n) (wanted (top_of p) grants excluded d)) (either
        (first_of_each (is_there d) included) (first_of_each is_bare (entries_after (top_of p) grants excluded included d)))) free in
        by (g.1 == n.inc) refl (each_passes (other_grant n) grants g first.0 i)
      where
        by : (b : Bool) → (g.1 == n.inc) ≡ b → cond b None (Some (confirmed.Changed (what.Inc g.1 n.inc))) ≡ None → g.1 ≡ n.inc
        by true is e = eqb-true g.1 n.inc is
        by false is e = none_not (sym e)

    entries_so : (s : ObjectState) → list.In s (entries_after (top_of p) grants excluded included d) →
        IsPrepared n.inc grants excluded included s
    entries_so s i =
        let f = entry_in (top_of p) grants excluded included d grants s i in
        let c = changed_so (top_of p) grants excluded included d (f.0).0 s f.2 in
        record { marks = subst (λ x. IsMarked x excluded included) (sym c.0) c.1; one = λ e j. same_inc ((let u = s.uid in u.num), e) j }

    answered : (states : List ObjectState) (a : Prep) →
        ((s : ObjectState) → list.In s states → IsPrepared n.inc grants excluded included s) → So (prepared_by (top_of p) states t a)
    answered states Ready its = record {
      grows = confirmed_grows n t.part (with_uid (top_of p) t.part.confirmed) grew.0;
      below = grew.1;
      prepares = both t.outs (Do Look ∷ Do (Prepare role.Names (top_of p) states) ∷ Say (body.Prepared 1 (top_of p) role.Names) ∷ []) lines
          (tt, ((refl, its), (tt, tt)));
    }
    answered states (Already u) its = record { grows = grew.0; below = grew.1; prepares = both t.outs (Do Look ∷ []) lines (tt, tt) }
    answered states (Old u v) its = record { grows = grew.0; below = grew.1; prepares = both t.outs (Do Look ∷ []) lines (tt, tt) }
    answered states (InDoubt u v) its = record { grows = grew.0; below = grew.1; prepares = both t.outs (Do Look ∷ []) lines (tt, tt) }

    entries : (states : List ObjectState) → ((s : ObjectState) → list.In s states → IsPrepared n.inc grants excluded included s) →
        So (confirm_entries (top_of p) states d t)
    entries [] its =
        record { grows = confirmed_grows n t.part (with_uid (top_of p) t.part.confirmed) grew.0; below = grew.1; prepares = lines }
    entries (x ∷ xs) its = answered (x ∷ xs) (prepare_answer (top_of p) (x ∷ xs) d) its

  new : (c : Option ConfirmedReply) → checked p grants excluded included d n ≡ c → So (confirm_new p grants excluded included d n c)
  new (Some r) is = nothing (Some r)
  new None is = entries is (entries_after (top_of p) grants excluded included d) (entries_so is)

  pub confirm_so : So (confirm p grants excluded included d n)
  confirm_so = by (is_over p n) (has_all grants n) (is_on n.confirmed (top_of p) || is_prepared (top_of p) d)
    where
      by : (over every again : Bool) →
          So (cond {A = Served Naming ConfirmedReply} (over || not every) (void n) (cond {A = Served Naming ConfirmedReply} again (reply
          (confirms (top_of p) n) confirmed.Yes) (confirm_new p grants excluded included d n (checked p grants excluded included d n))))
      by true every again = nothing None
      by false false again = nothing None
      by false true true =
          record { grows = confirmed_grows n n (with_uid (top_of p) n.confirmed) (same_grows n); below = λ all. all; prepares = tt }
      by false true false = new (checked p grants excluded included d n) refl

-- ---- as naming starts

pub recovered_below : (inc : ℕ) (d : Pair) → AllBelow (recovered_naming inc d)
recovered_below inc d x o is u m at on = by d.held is
  where
    by : (held : List (Uid × ObjectState)) → at_number x (map (named_back d) held) ≡ Some o →
        (b : Binding) × (o.recorded ≡ Some b) × (binding_number m.binding ≤ binding_number b)
    by [] e = none_not e
    by (h ∷ hs) e = one (is_eq (nat_cmp x (named_back d h).0)) e (by hs)
      where
        one : (b : Bool) → cond b (Some (named_back d h).1) (at_number x (map (named_back d) hs)) ≡ Some o → (at_number x
            (map (named_back d) hs) ≡ Some o → (b : Binding) × (o.recorded ≡ Some b) × (binding_number m.binding ≤ binding_number b)) →
            (b : Binding) × (o.recorded ≡ Some b) × (binding_number m.binding ≤ binding_number b)
        one true f ih = none_not (ap (λ (z : Named). at_uid u z.made) (some_is f) ∙ at)
        one false f ih = ih f
