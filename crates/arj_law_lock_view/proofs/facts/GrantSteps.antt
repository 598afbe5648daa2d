-- What a coordinator's roots were granted stays in order through all that it does.
use Rattle.arj_law_parts.proofs.Words
use Words.{◌≡◌, ◌⊎◌, ◌∙◌, ◌≤◌, ◌*◌, ◌==◌, ◌&&◌, ◌||◌, ◌++◌, ℕ, zero, suc, Bool, true, false, cond, not, List, [], ◌∷◌, Option, Some, None}
use Words.{refl, sym, ap, subst, inl, inr, ⊎_elim, arith, is_some, unwrap_or, list_any, is_eq, nat_cmp, and_parts, eqb-true, or_cases}
use Words.{uid_cases, uid_is, Answer, Binding, BoundReply, End, Header, Kind, Label, Op, Uid, is_on, last_uid, uid_eq, Reply, actor, top_of}
use Words.{again_all, begin_action, call, call_steps, give_up_call, granted_by, heard, heard_call, include, is_ended, keeps_after}
use Words.{kept_at, known_at_start, next_req, notes_grant, renewed, step_call, was_named, At, AtActivate, AtBind, AtInvoke, AtLoad, AtNote}
use Words.{CallEnd, CallStep, Ended, Goal, Include, Known, On, Run, Steps, answered, given_up, has_changed, load_from, or_lost, spoils}
use Words.{start_at, write_known, Calling, Coord, Doing, Grant, Idle, Keeping, Root, Said, doing_of, is_call, is_constituent_branch}
use Words.{is_free, is_grant_of, is_kept_top, is_retained, keeping_of, kept_of, new_coord, no_keeping, no_root, on_root, retained_in}
use Words.{retains, root_at, second_uid, survives, with_keeping, acked, at_number, binding_number, unbound, acts, call_reasons, parent_of}
use Words.{refused_by, Branch, at_place, behind, branch_of, ended_so, has_end, is_committed, is_merged, is_own, next_uid}
use Words.{path_below, root_of, uses_object, put_same as put_number_same, put_other as put_number_other, one_or_two, Post}
use Words.{is_constituent, is_binding}
use Words.list
use Words.bound
use Words.ending
use Words.loaded
use Words.calls
use Rattle.arj_law_lock_view.proofs.Terms
use Terms.{paths_of, GoesOn, IsAsking, IsTree, begun_tree, off, Stand, stand_acked, stand_acts, stand_again, stand_begins, stand_heard}
use Terms.{get_more, grown_still, well_acked, well_acts, well_again, well_heard, IsSpent, not_idle, step_is, loose_of, AnswersAt, IsThere}
use Terms.{retained, HasGrant, IsAbove, IsGranted, IsLow, KnowsGrants, KnowsGrantsBy, is_bind}
use Rattle.arj_law_lock_view.proofs.facts
use facts.{Kept.IsKept, Kept.Place, Kept.answers_so}
use facts.GrantAnswers.{IsMoved, Names, WasKept, answer_well, granted_low, noted_low, noted_more, noted_new}
use facts.GrantCoords.{Goes, GrantsOn, IsLoose, RootGoes, grant_on, pieces, root_goes, step_goes, steps_on, uses_goes}
use facts.Pieces.{acked_so, acts_so, again_so, heard_so}
use Rattle.arj_law_lock_view.specs.facts.Grants.{IsRetained}
use Rattle.arj_law_parts.specs.parts.Messages.{IsDecided}
use Rattle.arj_law_runs.specs.addresses.Binds.{StandsOn}

some_is : {A : Type 0} {a b : A} → Some a ≡ Some b → a ≡ b
some_is {A} {a} {b} is = let k : ◌≡◌ {A = Option A} (Some a) (Some b) = is in cc

none_not : {A P : Type 0} {x : A} → None ≡ Some x → P
none_not {A} {P} {x} is = let no_way : ◌≡◌ {A = Option A} None (Some x) = is in absurd (cc no_way)

not_on : {n : At} {e : CallEnd} → On n ≡ Ended e → ⊥
not_on is = cc is

end_is : {e f : CallEnd} → Ended e ≡ Ended f → e ≡ f
end_is is = cc

pub found_any : {A : Type 0} (p : A → Bool) (xs : List A) → list_any p xs ≡ true → (x : A) × list.In x xs × (p x ≡ true)
found_any p [] is = absurd (cc is)
found_any {A} p (x ∷ xs) is = by (p x) refl is (found_any p xs)
  where
    by : (b : Bool) → p x ≡ b → (b || list_any p xs) ≡ true → (list_any p xs ≡ true → (z : A) × list.In z xs × (p z ≡ true)) →
        (z : A) × list.In z (x ∷ xs) × (p z ≡ true)
    by true on h ih = (x, inl refl, on)
    by false off_it h ih = let f = ih h in (f.0, inr f.1, f.2)

-- ---- a tree goes on, and what is retained stays so

-- branches stay with their paths and kinds, and ends stay
pub record Over (c e : Coord) : Type 0 where
  pub ends : (u : Uid) (how : End) → IsDecided u how c.tree → IsDecided u how e.tree
  pub stays : (w : Uid) (b : Branch) → branch_of w c.tree ≡ Some b →
      (q : Branch) × (branch_of w e.tree ≡ Some q) × (q.path ≡ b.path) × (q.kind ≡ b.kind)

module _ (c e : Coord) (over : Over c e) where
  committed_over : (w : Uid) → is_committed w c.tree ≡ true → is_committed w e.tree ≡ true
  committed_over w is = by (branch_of w c.tree) refl is
    where
      ended_is : (o : Option End) → has_end ending.Commit o ≡ true → o ≡ Some ending.Commit
      ended_is None h = absurd (cc h)
      ended_is (Some ending.Commit) h = refl
      ended_is (Some ending.Abort) h = absurd (cc h)

      by : (o : Option Branch) → branch_of w c.tree ≡ o → ended_so ending.Commit o ≡ true → is_committed w e.tree ≡ true
      by None none h = absurd (cc h)
      by (Some b) found h = let d = over.ends w ending.Commit (b, found, ended_is b.ended h) in
          ap (ended_so ending.Commit) d.1 ∙ ap (has_end ending.Commit) d.2

  merged_over : (us : List Uid) → not (list_any (λ w. not (is_committed w c.tree)) us) ≡ true →
      not (list_any (λ w. not (is_committed w e.tree)) us) ≡ true
  merged_over [] is = refl
  merged_over (w ∷ ws) is = by (is_committed w c.tree) refl is (merged_over ws)
    where
      by : (b : Bool) → is_committed w c.tree ≡ b → not (not b || list_any (λ z. not (is_committed z c.tree)) ws) ≡ true →
          (not (list_any (λ z. not (is_committed z c.tree)) ws) ≡ true → not (list_any (λ z. not (is_committed z e.tree)) ws) ≡ true) →
          not (not (is_committed w e.tree) || list_any (λ z. not (is_committed z e.tree)) ws) ≡ true
      by true on h ih = ap (λ b. not (not b || list_any (λ z. not (is_committed z e.tree)) ws)) (committed_over w on) ∙ ih h
      by false off_it h ih = absurd (cc h)

  kept_over : (top : Uid) → is_kept_top top c ≡ true → is_kept_top top e ≡ true
  kept_over top is =
      let p = and_parts (is_constituent_branch (branch_of top c.tree)) (is_committed top c.tree) is in
      (λ i. kind (branch_of top c.tree) refl p.0 i && committed_over top p.1 i)
    where
      kind : (o : Option Branch) → branch_of top c.tree ≡ o → is_constituent_branch o ≡ true →
          is_constituent_branch (branch_of top e.tree) ≡ true
      kind None none h = absurd (cc h)
      kind (Some b) found h = let f = over.stays top b found in ap is_constituent_branch f.1 ∙ ap is_constituent f.3 ∙ h

  pub retained_over : (path : List Uid) → is_retained path c ≡ true → is_retained path e ≡ true
  retained_over path is = by (second_uid path) is
    where
      by : (o : Option Uid) → retained_in path c o ≡ true → retained_in path e o ≡ true
      by None h = absurd (cc h)
      by (Some top) h =
          let p = and_parts (is_kept_top top c) (survives top path c) h in
          let q = and_parts (is_on path top) (is_merged top path c.tree) p.1 in
          (λ i. kept_over top p.0 i && (q.0 i && merged_over (behind top path) q.1 i))

  granted_over : (r : Root) (x n : ℕ) (w : Uid) → IsGranted c r x n w → IsGranted e r x n w
  granted_over r x n w its = let f = over.stays w its.branch its.found in record {
    branch = f.0;
    found = f.1;
    grant = its.grant;
    there = its.there;
    object = its.object;
    top = its.top ∙ ap top_of (sym f.2);
    low = its.low;
  }

  has_over : (r : Root) (x n : ℕ) (w : Uid) → HasGrant c r x n w → HasGrant e r x n w
  has_over r x n w (inl its) = inl (granted_over r x n w its)
  has_over r x n w (inr its) = inr (record {
    said = its.said;
    there = its.there;
    object = its.object;
    retained = retained_over (let s = its.said in s.path) its.retained;
    granted = granted_over r x n (last_uid (let s = its.said in s.path)) its.granted;
  })

  pub grants_over : KnowsGrantsBy c e → KnowsGrants e
  grants_over knows = record {
    named = knows.named;
    said = λ r s k i is. ⊎_elim (λ (z : IsSpent c.tree s.path). inl (z.0, z.1, over.ends z.0 ending.Abort z.2))
        (λ its. inr (has_over (root_at r e) s.x (binding_number k.binding) (last_uid s.path) its)) (knows.said r s k i is);
    steps = λ u d s k at now call past is.
        has_over (root_at (root_of s.path) e) s.x (binding_number k.binding) (actor s.path) (knows.steps u d s k at now call past is);
  }

over_of : (c e : Coord) → Stand c.tree e.tree → GoesOn c e → Goes c e → Over c e
over_of c e stand on g = record {
  ends = stand.ends;
  stays = λ w b is. let f = g.stays w b is in let q = on.kinds w b is in
      (f.0, f.1, f.2, ap (λ (z : Branch). z.kind) (some_is (sym f.1 ∙ q.1)) ∙ q.2);
}

-- ---- answers

-- an include isn't answered as a call is
include_answers : (free : Bool) (kept : Option Known) (n : ℕ) (at : At) (r : Reply) → AnswersAt (Include n) at r →
    StandsOn (Include n) kept at → (a : Answer) → (let m = answered free kept (Include n) at r in m.step) ≡ Ended (calls.Answered a) → ⊥
include_answers free kept n (AtBind avoid) (Reply.Bound (bound.Live b server i g stores)) fits stands a is = absurd fits
include_answers free kept n (AtBind avoid) (Reply.Bound (bound.Make b server g stores)) fits stands a is = absurd fits
include_answers free kept n (AtBind avoid) (Reply.Bound (bound.Write g stores)) fits stands a is = by stores is
  where
    by : (ss : List ℕ) → (let m = or_lost kept (load_from (write_known g stores) ss) in m.step) ≡ Ended (calls.Answered a) → ⊥
    by [] e = let no_way : calls.Lost 1 false ≡ calls.Answered a = end_is e in cc no_way
    by (x ∷ xs) e = not_on e
include_answers free kept n (AtBind avoid) (Reply.Bound (bound.Conflict h m)) fits stands a is =
    let no_way : calls.Conflict h m 1 ≡ calls.Answered a = end_is is in absurd (cc no_way)
include_answers free kept n (AtLoad k m rest) (Reply.Loaded (loaded.State st)) fits stands a is =
    let no_way : calls.Included st ≡ calls.Answered a = end_is is in absurd (cc no_way)
include_answers free kept n (AtLoad k m rest) (Reply.Loaded (loaded.InDoubt h)) fits stands a is = absurd (cc (end_is is))
include_answers free kept n (AtBind avoid) (Reply.Loaded q) fits stands a is = absurd (not_on is)
include_answers free kept n (AtBind avoid) (Reply.Activated q) fits stands a is = absurd (not_on is)
include_answers free kept n (AtBind avoid) (Reply.Noted q) fits stands a is = absurd (not_on is)
include_answers free kept n (AtBind avoid) (Reply.Invoked q) fits stands a is = absurd (not_on is)
include_answers free kept n (AtBind avoid) (Reply.Voted q) fits stands a is = absurd (not_on is)
include_answers free kept n (AtBind avoid) (Reply.Prepared q) fits stands a is = absurd (not_on is)
include_answers free kept n (AtBind avoid) (Reply.Confirmed q) fits stands a is = absurd (not_on is)
include_answers free kept n (AtLoad k m rest) (Reply.Bound q) fits stands a is = absurd (not_on is)
include_answers free kept n (AtLoad k m rest) (Reply.Activated q) fits stands a is = absurd (not_on is)
include_answers free kept n (AtLoad k m rest) (Reply.Noted q) fits stands a is = absurd (not_on is)
include_answers free kept n (AtLoad k m rest) (Reply.Invoked q) fits stands a is = absurd (not_on is)
include_answers free kept n (AtLoad k m rest) (Reply.Voted q) fits stands a is = absurd (not_on is)
include_answers free kept n (AtLoad k m rest) (Reply.Prepared q) fits stands a is = absurd (not_on is)
include_answers free kept n (AtLoad k m rest) (Reply.Confirmed q) fits stands a is = absurd (not_on is)
include_answers free kept n (AtActivate k st) r fits stands a is = absurd stands
include_answers free kept n (AtNote k i) r fits stands a is = absurd stands
include_answers free kept n (AtInvoke k i) r fits stands a is = absurd stands

moved_well : (free : Bool) (kept : Option Known) (g : Goal) (at : At) (r : Reply) → AnswersAt g at r → StandsOn g kept at →
    IsMoved g free kept at r (answered free kept g at r)
moved_well free kept (Run o) at r fits stands = answer_well o kept free at r fits
moved_well free kept (Include n) at r fits stands = record {
  keeps = λ call. absurd (cc call);
  next = λ m on call. absurd (cc call);
  ends = λ a is. absurd (include_answers free kept n at r fits stands a is);
}

-- a call past its Bind stands on what is kept
stands_there : (g : Goal) (o : Option Known) (at : At) → is_call g ≡ true → is_bind at ≡ false → StandsOn g o at → IsThere o
stands_there (Run op) o (AtBind avoid) call past stands = absurd (cc past)
stands_there (Run op) o (AtLoad k n rest) call past stands = stands
stands_there (Run op) o (AtActivate k st) call past stands = stands
stands_there (Run op) o (AtNote k i) call past stands = stands
stands_there (Run op) o (AtInvoke k i) call past stands = stands
stands_there (Include n) o at call past stands = absurd (cc call)

-- a giveup goes on past a Bind alone, and answers nothing
lost_on : (at n : At) → given_up at ≡ On n → is_bind at ≡ false
lost_on (AtBind avoid) n is = absurd (cc is)
lost_on (AtLoad k m rest) n is = refl
lost_on (AtActivate k st) n is = refl
lost_on (AtNote k i) n is = refl
lost_on (AtInvoke k i) n is = refl

lost_answers : (at : At) (a : Answer) → given_up at ≡ Ended (calls.Answered a) → ⊥
lost_answers (AtBind avoid) a is = let no_way : calls.Lost 1 false ≡ calls.Answered a = end_is is in absurd (cc no_way)
lost_answers (AtLoad k m []) a is = let no_way : calls.Lost m false ≡ calls.Answered a = end_is is in absurd (cc no_way)
lost_answers (AtLoad k m (x ∷ xs)) a is = not_on is
lost_answers (AtActivate k st) a is = let no_way : calls.Lost k.server false ≡ calls.Answered a = end_is is in absurd (cc no_way)
lost_answers (AtNote k i) a is = let no_way : calls.Lost 1 false ≡ calls.Answered a = end_is is in absurd (cc no_way)
lost_answers (AtInvoke k i) a is = let no_way : calls.Lost k.server true ≡ calls.Answered a = end_is is in absurd (cc no_way)

grant_keeping : (g : Option Grant) (r : Root) → (notes_grant g r).keeping ≡ r.keeping
grant_keeping None r = refl
grant_keeping (Some g) r = refl

grant_said : (g : Option Grant) (r : Root) → (notes_grant g r).said ≡ r.said
grant_said None r = refl
grant_said (Some g) r = refl

-- what is kept after a step: of a call what it keeps, of an include what was kept
after_call : (g : Goal) (b : Bool) (kept : Option Known) (k : Keeping) → is_call g ≡ true → (keeps_after g b kept k).kept ≡ kept
after_call (Run o) b kept k call = refl
after_call (Include n) b kept k call = absurd (cc call)

after_cases : (g : Goal) (b : Bool) (kept : Option Known) (k : Keeping) (z : Known) → (keeps_after g b kept k).kept ≡ Some z →
    ((is_call g ≡ true) × (kept ≡ Some z)) ⊎ (k.kept ≡ Some z)
after_cases (Run o) b kept k z is = inl (refl, is)
after_cases (Include n) b kept k z is = inr is

put_there : (x : ℕ) (k : Keeping) (r : Root) → kept_of x (with_keeping x k r) ≡ k.kept
put_there x k r = ap (λ o. (unwrap_or o no_keeping).kept) (put_number_same x k r.keeping)

put_apart : (x y : ℕ) (k : Keeping) (r : Root) → is_eq (nat_cmp y x) ≡ false → kept_of y (with_keeping x k r) ≡ kept_of y r
put_apart x y k r apart = ap (λ o. (unwrap_or o no_keeping).kept) (put_number_other x y k r.keeping apart)

at_root : (root : Uid) (q : Root) (e : Coord) → root_at root (on_root root (λ r. q) e) ≡ q
at_root root q e = ap (λ o. unwrap_or o no_root) (put_number_same root.num q e.roots)

module _ (sent : List Post) (k : ℕ) (c : Coord) (place : Place sent k c) (knows : KnowsGrants c) where
  abbrev its_tree : IsTree (paths_of place.actions)
  its_tree = begun_tree place.actions place.begun

  pub start : Goes c c
  start = record { stays = λ w b is. (b, is, refl); knows = knows }

  -- ---- the root is free of what it keeps

  loose_none : (root : Uid) (x : ℕ) → kept_of x (root_at root c) ≡ None → IsLoose c c root x
  loose_none root x none = record {
    spent = λ s i same. let b = place.binds in let z = b.said root s i in
        ⊎_elim (λ spent. spent) (λ there. absurd (subst IsThere (ap (λ y. kept_of y (root_at root c)) same ∙ none) there)) z.kept;
    alone = λ w d s at now same call past num. let b = place.binds in
        subst IsThere (ap (λ y. kept_of y (root_at (root_of s.path) c)) same ∙ ap (λ n. kept_of x (unwrap_or (at_number n c.roots) no_root))
        num ∙ none) (stands_there s.goal (kept_of s.x (root_at (root_of s.path) c)) s.at call past (b.steps w d s at now));
  }

  module _ (s : Steps) (d : Doing) (found : doing_of (actor s.path) c ≡ Some d) (now : d.now ≡ Calling s)
      (asking : IsAsking c.tree (actor s.path) s.path) where
    loose_free : is_bind s.at ≡ true → is_free (root_of s.path) (actor s.path) s.x c ≡ true → IsLoose c c (root_of s.path) s.x
    loose_free bind free =
        let l = loose_of place.actions (paths_of place.actions) its_tree c place.good c.tree (λ w e. e) (actor s.path) asking.branch
        asking.found s.x (ap (λ p. is_free (root_of p) (actor s.path) s.x c) asking.path ∙ free) in
        record {
          spent = λ z i same. l.spent z (subst (λ p. list.In z (root_at (root_of p) c).said) (sym asking.path) i) same;
          alone = λ w e z at is same call past num. ⊎_elim
              (λ own. let its : s ≡ z = step_is (sym now ∙ ap (λ (y : Doing). y.now) (some_is (sym found ∙ ap (λ v. doing_of v c) (sym own)
              ∙ at)) ∙ is) in let no_way : true ≡ false = sym bind ∙ ap (λ (y : Steps). is_bind y.at) its ∙ past in cc no_way)
              (λ other. l.alone w e z other at is same call (num ∙ ap (λ p. let u = root_of p in u.num) (sym asking.path)))
              (uid_cases w (actor s.path));
        }

    abbrev R : Root
    R = root_at (root_of s.path) c

    -- ---- a step of a call

    module _ (g : Option Grant) (b : Bool) (kept : Option Known) (n : CallStep)
        (low : (h : Grant) → g ≡ Some h → (bd : Binding) → h.named ≡ Some bd → IsLow h.least bd)
        (keeps : is_call s.goal ≡ true → (z : Known) → kept ≡ Some z → WasKept (kept_of s.x R) z ⊎ IsLoose c c (root_of s.path) s.x)
        (next : (at : At) → n ≡ On at → is_call s.goal ≡ true → is_bind at ≡ false → (z : Known) → kept ≡ Some z →
        ((is_bind s.at ≡ false) × WasKept (kept_of s.x R) z)
        ⊎ ((h : Grant) × (g ≡ Some h) × (h.x ≡ s.x) × (h.top ≡ top_of s.path) × (h.least * 4294967296 ≤ binding_number z.binding)))
        (ends : (a : Answer) → n ≡ Ended (calls.Answered a) →
        (is_call s.goal ≡ true) × (is_bind s.at ≡ false) × ((z : Known) → kept ≡ Some z → WasKept (kept_of s.x R) z)) where
      abbrev Q : Root
      Q = with_keeping s.x (keeps_after s.goal b kept (keeping_of s.x R)) (notes_grant g R)

      abbrev t : Coord
      t = on_root (root_of s.path) (λ r. Q) c

      on_more : GrantsOn R Q
      on_more = record { grants = λ h i. noted_more g R h i; said = λ z i. subst (λ ss. list.In z ss) (sym (grant_said g R)) i }

      goes : RootGoes c c (root_of s.path) Q
      goes = record {
        low = noted_low g R low (λ h bd i is. knows.named (root_of s.path) h bd i is);
        on = on_more;
        said = λ z i. inl (subst (λ ss. list.In z ss) (grant_said g R) i);
        kept = λ y z is. by y z is (one_or_two s.x y);
      }
        where
          at_x : (z : Known) → ((is_call s.goal ≡ true) × (kept ≡ Some z)) ⊎ ((keeping_of s.x R).kept ≡ Some z) →
              WasKept (kept_of s.x R) z ⊎ IsLoose c c (root_of s.path) s.x
          at_x z (inl call) = keeps call.0 z call.1
          at_x z (inr same) = inl (z, same, refl)

          by : (y : ℕ) (z : Known) → kept_of y Q ≡ Some z → (s.x ≡ y) ⊎ ((is_eq (nat_cmp y s.x) ≡ false) × ((s.x == y) ≡ false)) →
              WasKept (kept_of y R) z ⊎ IsLoose c c (root_of s.path) y
          by y z is (inl same) = subst (λ (m : ℕ). WasKept (kept_of m R) z ⊎ IsLoose c c (root_of s.path) m) same
              (at_x z (after_cases s.goal b kept (keeping_of s.x R) z (sym
              (put_there s.x (keeps_after s.goal b kept (keeping_of s.x R)) (notes_grant g R)) ∙ ap (λ (m : ℕ). kept_of m Q) same ∙ is)))
          by y z is (inr apart) = inl (
            z,
            ap (λ m. (unwrap_or (at_number y m) no_keeping).kept) (sym (grant_keeping g R))
                ∙ sym (put_apart s.x y (keeps_after s.goal b kept (keeping_of s.x R)) (notes_grant g R) apart.0) ∙ is,
            refl,
          )

      its : root_at (root_of s.path) t ≡ Q
      its = at_root (root_of s.path) Q c

      kept_call : (z : Known) → is_call s.goal ≡ true → kept_of s.x (root_at (root_of s.path) t) ≡ Some z → kept ≡ Some z
      kept_call z call is = sym (after_call s.goal b kept (keeping_of s.x R) call)
          ∙ sym (put_there s.x (keeps_after s.goal b kept (keeping_of s.x R)) (notes_grant g R)) ∙ ap (kept_of s.x) (sym its) ∙ is

      -- what it stood on it stands on
      past_grant : (z : Known) → is_call s.goal ≡ true → is_bind s.at ≡ false → WasKept (kept_of s.x R) z →
          HasGrant c (root_at (root_of s.path) t) s.x (binding_number z.binding) (actor s.path)
      past_grant z call past was = subst (λ (q : Root). HasGrant c q s.x (binding_number z.binding) (actor s.path)) (sym its)
          (grant_on c R Q on_more s.x (binding_number (let o = was.0 in o.binding)) (binding_number z.binding) (actor s.path) was.2
          (knows.steps (actor s.path) d s was.0 found now call past was.1))

      new_grant : (z : Known) → (h : Grant) × (g ≡ Some h) × (h.x ≡ s.x) × (h.top ≡ top_of s.path) × (h.least * 4294967296
          ≤ binding_number z.binding) → HasGrant c (root_at (root_of s.path) t) s.x (binding_number z.binding) (actor s.path)
      new_grant z (h, is, object, top, less) = subst (λ (q : Root). HasGrant c q s.x (binding_number z.binding) (actor s.path)) (sym its)
          (let f = noted_new g h R is in inl (record {
            branch = asking.branch;
            found = asking.found;
            grant = f.0;
            there = f.1;
            object = f.2 ∙ object;
            top = f.3 ∙ top ∙ ap top_of (sym asking.path);
            low = number (f.0).least h.least (binding_number z.binding) f.4 less;
          }))
        where
          number : (i j m : ℕ) → i ≤ j → j * 4294967296 ≤ m → i * 4294967296 ≤ m
          number i j m a e = omega (arith, a, e)

      pub after_goes : Goes c (step_call s n t).part
      after_goes = step_goes c s n t
          (λ at is call past z kept_is.
          ⊎_elim (λ old. past_grant z call old.0 old.1) (λ new. new_grant z new) (next at is call past z (kept_call z call kept_is)))
          (λ a is z kept_is. let f = ends a is in past_grant z f.0 f.1 (f.2 z (kept_call z f.0 kept_is)))
          (root_goes c (root_of s.path) (λ r. Q) c goes start)

    -- a call is answered
    heard_goes : (r : Reply) → AnswersAt s.goal s.at r → ((q : BoundReply) → r ≡ Reply.Bound q → IsAbove q) → Goes c (heard_call s r c).part
    heard_goes r fits given =
        after_goes (granted_by (top_of s.path) s.x r) (has_changed m.step) m.kept m.step (granted_low (top_of s.path) s.x r given)
        (λ call z is. ⊎_elim (λ was. inl was)
        (λ at. inr (⊎_elim (λ none. loose_none (root_of s.path) s.x none) (λ free. loose_free at.0 free) at.1)) (w.keeps call z is))
        (λ at is call past z kept_is. ⊎_elim (λ old. inl old) (λ new. inr (names z new)) (w.next at is call past z kept_is))
        (λ a is. w.ends a is)
      where
        free : Bool
        free = is_free (root_of s.path) (actor s.path) s.x c

        m : calls.Moved
        m = answered (is_free (root_of s.path) (actor s.path) s.x c) (kept_at s c) s.goal s.at r

        w : IsMoved s.goal (is_free (root_of s.path) (actor s.path) s.x c) (kept_at s c) s.at r
            (answered (is_free (root_of s.path) (actor s.path) s.x c) (kept_at s c) s.goal s.at r)
        w = moved_well (is_free (root_of s.path) (actor s.path) s.x c) (kept_at s c) s.goal s.at r fits (let b = place.binds in
            b.steps (actor s.path) d s found now)

        names : (z : Known) → Names r z → (h : Grant) × (granted_by (top_of s.path) s.x r ≡ Some h) × (h.x ≡ s.x) × (h.top ≡ top_of s.path)
            × (h.least * 4294967296 ≤ binding_number z.binding)
        names z new = (
          h,
          new.grants (top_of s.path) s.x,
          refl,
          refl,
          subst (λ (i : ℕ). new.incarnation * 4294967296 ≤ i) new.same
              (granted_low (top_of s.path) s.x r given h (new.grants (top_of s.path) s.x) new.binding refl),
        )
          where
            h : Grant
            h = record { top = top_of s.path; x = s.x; least = new.incarnation; named = Some new.binding }

    -- a call is given up
    lost_goes : Goes c (give_up_call s c).part
    lost_goes = after_goes None (is_ended (given_up s.at) && spoils s.at) (keeping_of s.x R).kept (given_up s.at) (λ h is. none_not is)
        (λ call z is. inl (z, is, refl))
        (λ at is call past z kept_is. inl (lost_on s.at at is, (z, kept_is, refl)))
        (λ a is. absurd (lost_answers s.at a is))

  -- ---- a call begins

  call_goes : (hd : Header) (b : Branch) (x : ℕ) (o : Op) → branch_of (actor b.path) c.tree ≡ Some b →
      refused_by (call_reasons hd x o) c (Some b) ≡ None → Goes c (call b.path x o c).part
  call_goes hd b x o found free = steps_on c (call_steps b.path x o (next_req (actor b.path) c) (root_at (root_of b.path) c) c q) t
      (λ call past z is. subst (λ (r : Root). HasGrant c r x (binding_number z.binding) (actor b.path))
      (sym (at_root (root_of b.path) (with_keeping x q (root_at (root_of b.path) c)) c))
      (grant_on c (root_at (root_of b.path) c) (with_keeping x q (root_at (root_of b.path) c)) same_on x (binding_number z.binding)
      (binding_number z.binding) (actor b.path) refl
      (begins q.kept refl z (sym (put_there x q (root_at (root_of b.path) c))
      ∙ ap (kept_of x) (sym (at_root (root_of b.path) (with_keeping x q (root_at (root_of b.path) c)) c)) ∙ is) past)))
      (root_goes c (root_of b.path) (with_keeping x q) (record c { tree = uses_object b.path x c.tree }) goes
      (uses_goes c b.path x c start))
    where
      q : Keeping
      q = renewed (is_free (root_of b.path) (actor b.path) x c) (keeping_of x (root_at (root_of b.path) c))
          (keeping_of x (root_at (root_of b.path) c)).kept

      t : Coord
      t = on_root (root_of b.path) (with_keeping x q) (record c { tree = uses_object b.path x c.tree })

      same_on : GrantsOn (root_at (root_of b.path) c) (with_keeping x q (root_at (root_of b.path) c))
      same_on = record { grants = λ h i. (h, i, refl, refl, omega arith); said = λ z i. i }

      -- what is kept was kept
      renewed_kept : (w : Bool) (y : Keeping) (p : Option Known) (z : Known) → y.kept ≡ p → (renewed w y p).kept ≡ Some z → y.kept ≡ Some z
      renewed_kept w y None z none is = is
      renewed_kept w y (Some old) z some is = by (w && y.spoiled) is
        where
          by : (v : Bool) → (cond v (record { kept = None; spoiled = false; avoid = old.binding }) y).kept ≡ Some z → y.kept ≡ Some z
          by true e = none_not e
          by false e = e

      was : (z : Known) → q.kept ≡ Some z → kept_of x (root_at (root_of b.path) c) ≡ Some z
      was z is = renewed_kept (is_free (root_of b.path) (actor b.path) x c) (keeping_of x (root_at (root_of b.path) c))
          (keeping_of x (root_at (root_of b.path) c)).kept z refl is

      goes : RootGoes c (record c { tree = uses_object b.path x c.tree }) (root_of b.path) (with_keeping x q (root_at (root_of b.path) c))
      goes = record {
        low = λ h bd i is. knows.named (root_of b.path) h bd i is;
        on = same_on;
        said = λ z i. inl i;
        kept = λ y z is. by y z is (one_or_two x y);
      }
        where
          by : (y : ℕ) (z : Known) → kept_of y (with_keeping x q (root_at (root_of b.path) c)) ≡ Some z →
              (x ≡ y) ⊎ ((is_eq (nat_cmp y x) ≡ false) × ((x == y) ≡ false)) → WasKept (kept_of y (root_at (root_of b.path) c)) z
              ⊎ IsLoose c (record c { tree = uses_object b.path x c.tree }) (root_of b.path) y
          by y z is (inl same) = inl (
            z,
            ap (λ (m : ℕ). kept_of m (root_at (root_of b.path) c)) (sym same) ∙ was z (sym (put_there x q (root_at (root_of b.path) c))
                ∙ ap (λ (m : ℕ). kept_of m (with_keeping x q (root_at (root_of b.path) c))) same ∙ is),
            refl,
          )
          by y z is (inr apart) = inl (z, sym (put_apart x y q (root_at (root_of b.path) c) apart.0) ∙ is, refl)

      opened : is_some b.ended ≡ false
      opened = (off (call_reasons hd x o b c) free).0

      is_named_so : (bd : Binding) (n : Option Binding) → is_binding bd n ≡ true →
          (e : Binding) × (n ≡ Some e) × (binding_number bd ≡ binding_number e)
      is_named_so bd None is = absurd (cc is)
      is_named_so bd (Some e) is = (e, refl, eqb-true (binding_number bd) (binding_number e) is)

      -- the top's last answer named it
      by_name : (y : Known) → was_named (top_of b.path) x y.binding (root_at (root_of b.path) c) ≡ true →
          HasGrant c (root_at (root_of b.path) c) x (binding_number y.binding) (actor b.path)
      by_name y is =
          let f = found_any (λ (h : Grant). is_grant_of (top_of b.path) x h && is_binding y.binding h.named)
          (root_at (root_of b.path) c).grants is in
          let h : Grant = f.0 in
          let p = and_parts (is_grant_of (top_of b.path) x h) (is_binding y.binding h.named) f.2 in
          let w = and_parts (uid_eq h.top (top_of b.path)) (h.x == x) p.0 in
          let n = is_named_so y.binding h.named p.1 in
          inl (record {
            branch = b;
            found = found;
            grant = h;
            there = f.1;
            object = eqb-true h.x x w.1;
            top = uid_is h.top (top_of b.path) w.0;
            low = subst (λ (i : ℕ). h.least * 4294967296 ≤ i) (sym n.2) (knows.named (root_of b.path) h n.0 f.1 n.1);
          })

      -- the serializing action retains it
      by_retained : (y : Known) → kept_of x (root_at (root_of b.path) c) ≡ Some y → retains x (root_at (root_of b.path) c) c ≡ true →
          HasGrant c (root_at (root_of b.path) c) x (binding_number y.binding) (actor b.path)
      by_retained y kept is = of (found_any (λ (z : Said). (z.x == x) && is_retained z.path c) (root_at (root_of b.path) c).said is)
        where
          of : (z : Said) × list.In z (root_at (root_of b.path) c).said × (((z.x == x) && is_retained z.path c) ≡ true) →
              HasGrant c (root_at (root_of b.path) c) x (binding_number y.binding) (actor b.path)
          of (z, i, on) =
              ⊎_elim spent has (knows.said (root_of b.path) z y i (ap (λ (m : ℕ). kept_of m (root_at (root_of b.path) c)) same ∙ kept))
            where
              same : z.x ≡ x
              same = eqb-true z.x x (and_parts (z.x == x) (is_retained z.path c) on).0

              stays : is_retained z.path c ≡ true
              stays = (and_parts (z.x == x) (is_retained z.path c) on).1

              spent : IsSpent c.tree z.path → HasGrant c (root_at (root_of b.path) c) x (binding_number y.binding) (actor b.path)
              spent w = absurd (retained place.actions (paths_of place.actions) its_tree sent k c place.good place.binds b found opened z
                  (let d = place.binds in d.said (root_of b.path) z i) w.0 w.1 w.2 stays)

              has : HasGrant c (root_at (root_of b.path) c) z.x (binding_number y.binding) (last_uid z.path) →
                  HasGrant c (root_at (root_of b.path) c) x (binding_number y.binding) (actor b.path)
              has (inl its) = inr (record {
                said = z;
                there = i;
                object = same;
                retained = stays;
                granted =
                    subst (λ (m : ℕ). IsGranted c (root_at (root_of b.path) c) m (binding_number y.binding) (last_uid z.path)) same its;
              })
              has (inr its) = inr (subst (λ (m : ℕ). IsRetained c (root_at (root_of b.path) c) m (binding_number y.binding)) same its)

      begins : (p : Option Known) → q.kept ≡ p → (z : Known) → q.kept ≡ Some z →
          is_bind (start_at (known_at_start (top_of b.path) x (root_at (root_of b.path) c) c p) q.avoid) ≡ false →
          HasGrant c (root_at (root_of b.path) c) x (binding_number z.binding) (actor b.path)
      begins None none z is past = let no_way : true ≡ false = past in cc no_way
      begins (Some y) kept z is past = by (y.recorded
          && (was_named (top_of b.path) x y.binding (root_at (root_of b.path) c) || retains x (root_at (root_of b.path) c) c)) refl past
        where
          same : y ≡ z
          same = some_is (sym kept ∙ is)

          either : (was_named (top_of b.path) x y.binding (root_at (root_of b.path) c) || retains x (root_at (root_of b.path) c) c) ≡ true →
              HasGrant c (root_at (root_of b.path) c) x (binding_number y.binding) (actor b.path)
          either on = ⊎_elim (λ named. by_name y named) (λ keeps. by_retained y (was y kept) keeps)
              (or_cases (was_named (top_of b.path) x y.binding (root_at (root_of b.path) c)) (retains x (root_at (root_of b.path) c) c) on)

          by : (w : Bool) → (y.recorded && (was_named (top_of b.path) x y.binding (root_at (root_of b.path) c)
              || retains x (root_at (root_of b.path) c) c)) ≡ w → is_bind (start_at (cond w (Some y) None) q.avoid) ≡ false →
              HasGrant c (root_at (root_of b.path) c) x (binding_number z.binding) (actor b.path)
          by true on e = subst (λ (m : Known). HasGrant c (root_at (root_of b.path) c) x (binding_number m.binding) (actor b.path)) same
              (either (and_parts y.recorded
              (was_named (top_of b.path) x y.binding (root_at (root_of b.path) c) || retains x (root_at (root_of b.path) c) c) on).1)
          by false off_it e = absurd (cc e)

  include_goes : (b : Branch) (x n : ℕ) → Goes c (include b.path x n c).part
  include_goes b x n = steps_on c (calls.start b.path x (Include n) None unbound (next_req (actor b.path) c))
      (record c { tree = uses_object b.path x c.tree }) (λ call. absurd (cc call)) (uses_goes c b.path x c start)

  -- ---- an action begins

  begin_grants : (l : Label) (how : Kind) (parent : Option Label) → KnowsGrants (begin_action l how parent (parent_of parent c) c).part
  begin_grants l how parent = grants_over c v over (record {
    named = knows.named;
    said = knows.said;
    steps = λ u d s z at now call past is. ⊎_elim (λ old. knows.steps u d s z old now call past is)
        (λ idle. absurd (not_idle (sym idle ∙ now))) (was (is_own u c.tree) u.num d at);
  })
    where
      v : Coord
      v = (begin_action l how parent (parent_of parent c) c).part

      fresh : Doing
      fresh = record { label = l; req = 0; now = Idle; took = [] }

      over : Over c v
      over = record {
        ends = λ u e d. (stand_begins how (path_below how (parent_of parent c) (next_uid c.tree)) c.tree).ends u e d;
        stays = λ w b is. (b, grown_still how (path_below how (parent_of parent c) (next_uid c.tree)) c.tree w b is, refl, refl);
      }

      was : (b : Bool) (j : ℕ) (d : Doing) → cond b (at_place j (c.doings ++ fresh ∷ [])) None ≡ Some d →
          (cond b (at_place j c.doings) None ≡ Some d) ⊎ (d.now ≡ Idle)
      was true zero d at = absurd (cc at)
      was true (suc j) d at = ⊎_elim (λ old. inl old) (λ its. inr (ap (λ (z : Doing). z.now) (sym its.1))) (get_more j fresh d c.doings at)
      was false j d at = absurd (cc at)

to_known : (sent : List Post) (k : ℕ) (c e : Coord) → Place sent k c → Stand c.tree e.tree → GoesOn c e → Goes c e → KnowsGrants e
to_known sent k c e place stand on g = grants_over c e (over_of c e stand on g) g.knows

pub grants_kept : IsKept (answers_so IsAbove) KnowsGrants
grants_kept = record {
  says = λ c q to h a sent. tt;
  new = λ node inc telling. record {
    named = λ r g b i is. absurd i;
    said = λ r s z i is. absurd i;
    steps = λ u d s z at now call past is. absurd (no_doing node inc u d at);
  };
  hears = λ sent k c place from a r intents fits given knows.
      let e = (heard from a r intents c).part in
      to_known sent k c e place
      (stand_heard place.actions (paths_of place.actions) (begun_tree place.actions place.begun) from a r intents c place.good)
      (well_heard place.actions (paths_of place.actions) (begun_tree place.actions place.begun) from a r intents c place.good).0
      (heard_so sent k c place (Goes c) (pieces c (start sent k c place knows)) from a r intents fits
      (λ s step on who. heard_goes sent k c place knows s step.doing step.found step.now step.asking r
      (fits step.doing s (ap (λ v. doing_of v c) (sym who) ∙ step.found) step.now on) given));
  acks = λ sent k c place from u intents knows.
      to_known sent k c (acked from u intents c).part place (stand_acked place.actions (paths_of place.actions) (begun_tree place.actions
      place.begun) from u intents c) (well_acked place.actions (paths_of place.actions) (begun_tree place.actions place.begun) from u
      intents c).0 (acked_so sent k c place (Goes c) (pieces c (start sent k c place knows)) from u intents);
  does = λ sent k c place intents hd i none other knows.
      to_known sent k c (acts i intents c).part place (stand_acts place.actions (paths_of place.actions)
      (begun_tree place.actions place.begun) intents c place.good hd i none) (well_acts place.actions (paths_of place.actions)
      (begun_tree place.actions place.begun) intents c place.good (let f = place.faithful in f.works) hd i none other).0
      (acts_so sent k c place (Goes c) (pieces c (start sent k c place knows)) hd i intents none other (λ b x o found free.
      call_goes sent k c place knows hd b x o found free) (λ b x n found free. include_goes sent k c place knows b x n)
      (λ s step. lost_goes sent k c place knows s step.doing step.found step.now step.asking));
  begins = λ sent k c place l how parent may none knows. begin_grants sent k c place knows l how parent;
  asks = λ sent k c place knows.
      to_known sent k c (again_all c.doings c).part place (stand_again place.actions (paths_of place.actions) (begun_tree place.actions
      place.begun) c.doings c) (well_again place.actions (paths_of place.actions) (begun_tree place.actions place.begun) c place.good).0
      (again_so sent k c place (Goes c) (pieces c (start sent k c place knows)));
}
  where
    no_doing : (node inc : ℕ) (u : Uid) (d : Doing) → doing_of u (new_coord node inc) ≡ Some d → ⊥
    no_doing node inc u d is = by (is_own u (let c = new_coord node inc in c.tree)) u.num is
      where
        by : (x : Bool) (j : ℕ) → cond x (at_place j []) None ≡ Some d → ⊥
        by true zero e = cc e
        by true (suc j) e = cc e
        by false j e = cc e
