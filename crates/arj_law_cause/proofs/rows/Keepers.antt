-- What a root keeps of an object it has from a call of one of its actions, and not from one that still waits for naming to bind it: by what a
-- coordinator does.
use Rattle.arj_law_parts.proofs.Words
use Words.{⊎_elim, ◌≡◌, ◌≢◌, ◌⊎◌, ◌≤◌, ◌∙◌, ◌+◌, ◌++◌, ◌==◌, ◌&&◌, ℕ, zero, suc, Bool, true, false, cond, List, [], ◌∷◌, length, Option, Some}
use Words.{None, refl, sym, ap, subst, inl, inr, and_parts, eqb-true, option_map, unwrap_or, In, first_uid, uids_of, is_own, list_any}
use Words.{Asked, Binding, BoundReply, Header, Kind, Label, Op, Path, Uid, Reply, name, actor, again_all, ask_kind, begin_action}
use Words.{call_steps, doomed_by, goes_on, heard, heard_call, kept_at, keeps_after, next_ask, next_node, next_req, notes_grant, granted_by, renewed}
use Words.{given_away, reply_kind, root_after, keeping_after, kept_after, root_heard, root_lost, root_moved, same_said, step_call, waits_for_call}
use Words.{with_said, with_went, Went, same_went, Said, Grant, Root, Keeping, no_keeping, no_root, new_coord}
use Words.{At, AtActivate, AtBind, AtInvoke, AtLoad, AtNote, CallEnd, CallStep, Ended, Goal, Include, Known, Lost, Moved, On, Run, Steps}
use Words.{answered, binding_eq, binding_less, bound_by, finds, given_up, is_call, live_known, load_from, made_by, made_known, moves}
use Words.{named_again, or_lost, other_binding, same_binding, start, two_bindings, two_incs, with_inc, write_known}
use Words.{plan_of, Calling, Committing, Coord, Doing, Idle, doing_of, change_doing, is_free, keeping_of, kept_of, on_doing, on_root, root_at}
use Words.{with_keeping, Intent, unbound, Input, acts as does, parent_of, refusal_up, at_number, put_number, at_place, Tree, doomed_at}
use Words.{arith, nat_tests, is_eq, nat_cmp, is_invoke_ask, ends_of, ask_at}
use Words.{abort_action, acked, branch_named, Branch, call, commit_action, commit_reasons, give_up, give_up_call, has_changed, include, is_ended}
use Words.{on_branch, refused_by, spoils, top_of, ended_at, root_of, uses_object, Post, Plan}
use Words.bound
use Words.calls
use Words.input
use Words.loaded
use Words.recorded
use Words.invoked
use Rattle.arj_law_serial.proofs.Terms.{on_cases, doomed_same, uses_same, end_tree_on, get_more, root_cases}
use Rattle.arj_law_lock_view.proofs.Terms.{begun_tree, named_found, off as no_more, paths_of}
use Rattle.arj_law_lock_view.proofs.facts.{Kept.Place}
use Rattle.arj_law_lock_view.proofs.facts.Pieces.{IsStep, Pieces, abort_so, acked_so, again_so, commit_so, give_up_so, heard_so}
use Rattle.arj_law_lock_view.specs.asking.Asked.{accepted_of}
use Rattle.arj_law_parts.proofs.coordinator.Works.{tree_same}
use Rattle.arj_law_parts.specs.moves.Moments.{Asking}
use Rattle.arj_law_runs.specs.addresses.Binds.{AnswersWaiting}
use Rattle.arj_model.specs.Actions.{uids}
use Rattle.arj_model.specs.CauseSpans.{is_call as is_call_event}
use Rattle.arj_model.specs.Past.{Asked as AskedOf}
use Rattle.arj_model.specs.Refusals.{asks_by, is_ask_by, object_used}
use Rattle.arj_protocol.proofs.Maps.{put_other, put_same}
use Rattle.arj_protocol.proofs.Unknown.{found_each}

some_is : {A : Type 0} {a b : A} → Some a ≡ Some b → a ≡ b
some_is {A} {a} {b} is = let k : ◌≡◌ {A = Option A} (Some a) (Some b) = is in cc

none_is : {A P : Type 0} {x : A} → None ≡ Some x → P
none_is {A} {P} {x} is = let no_way : ◌≡◌ {A = Option A} None (Some x) = is in absurd (cc no_way)

-- the input asks for a call or an include
abbrev pub asks_for : Input → Bool
asks_for (input.Call l x o) = true
asks_for (input.Include l x n) = true
asks_for i = false

-- ---- what is kept

-- naming is asked for a binding
abbrev pub is_bind : At → Bool
is_bind (AtBind avoid) = true
is_bind _ = false

-- the last of these is another one, behind it
abbrev pub IsBefore : AskedOf → List AskedOf → Type 0
IsBefore q qs = (front : List AskedOf) × (e : AskedOf) × (qs ≡ front ++ e ∷ []) × In q front

-- what was asked isn't what was asked last under this label
abbrev pub IsOther : List Asking → AskedOf → List ℕ → Type 0
IsOther A q l = (is_ask_by l q.event ≡ false) ⊎ IsBefore q (asks_by (accepted_of A) l)

-- One of these was a call of the object by an action of the root, and no action that waits for naming to bind one was asked that last.
pub record IsFromCall (A : List Asking) (B : List AskedOf) (c : Coord) (r : Uid) (x : ℕ) : Type 0 where
  pub asked : AskedOf
  pub there : In asked B
  pub call : is_call_event asked.event ≡ true
  pub object : object_used asked.event ≡ Some x
  pub some : 1 ≤ length (uids asked.path)
  pub root : (let u = first_uid (uids asked.path) in u.num) ≡ r.num
  pub own : is_own (first_uid (uids asked.path)) c.tree ≡ true
  pub other : (u : Uid) (w : Doing) (s : Steps) → doing_of u c ≡ Some w → w.now ≡ Calling s → is_bind s.at ≡ true →
      IsOther A asked (name w.label)

-- so it is of all that roots of a coordinator keep
abbrev pub KeepFromCalls : List Asking → List AskedOf → Coord → Type 0
KeepFromCalls A B c = (r : Uid) (x : ℕ) (old : Known) → kept_of x (root_at r c) ≡ Some old → IsFromCall A B c r x

-- ---- what a root keeps, with what it notes

kept_with : (x y : ℕ) (k : Keeping) (r : Root) → ((x ≡ y) × (kept_of y (with_keeping x k r) ≡ k.kept)) ⊎ (kept_of y (with_keeping x k r) ≡
    kept_of y r)
kept_with x y k r = by (x == y) refl
  where
    other : (x == y) ≡ false → is_eq (nat_cmp y x) ≡ false
    other off = grind (arith, nat_tests, off)

    by : (b : Bool) → (x == y) ≡ b → ((x ≡ y) × (kept_of y (with_keeping x k r) ≡ k.kept)) ⊎ (kept_of y (with_keeping x k r) ≡ kept_of y r)
    by true on = let same = eqb-true x y on in inl (
      same,
      ap (λ n. (let q = unwrap_or (at_number n (put_number x k r.keeping)) no_keeping in q.kept)) (sym same)
          ∙ ap (λ o. (let q = unwrap_or o no_keeping in q.kept)) (put_same x k r.keeping),
    )
    by false off = inr (ap (λ o. (let q = unwrap_or o no_keeping in q.kept)) (put_other x y k r.keeping (other off)))

went_keeps : (w : Went) (r : Root) (x : ℕ) → kept_of x (with_went w r) ≡ kept_of x r
went_keeps w r x = by (list_any (same_went w) r.went)
  where
    by : (b : Bool) → kept_of x (cond b r (record r { went = r.went ++ w ∷ [] })) ≡ kept_of x r
    by true = refl
    by false = refl

said_keeps : (s : Said) (r : Root) (x : ℕ) → kept_of x (with_said s r) ≡ kept_of x r
said_keeps s r x = by (list_any (same_said s) r.said)
  where
    by : (b : Bool) → kept_of x (cond b r (record r { said = r.said ++ s ∷ [] })) ≡ kept_of x r
    by true = refl
    by false = refl

heard_keeps : (s : Steps) (e : CallEnd) (r : Root) (x : ℕ) → kept_of x (root_heard s e r) ≡ kept_of x r
heard_keeps s (calls.Answered a) r x = said_keeps (record { path = uids_of s.path; x = s.x }) r x
heard_keeps s (calls.Included st) r x = refl
heard_keeps s (calls.Conflict h m n) r x = refl
heard_keeps s (calls.Changed n w) r x = refl
heard_keeps s (calls.Lost n b) r x = refl

grant_keeps : (o : Option Grant) (r : Root) (x : ℕ) → kept_of x (notes_grant o r) ≡ kept_of x r
grant_keeps None r x = refl
grant_keeps (Some g) r x = refl

-- where it keeps something after a decision, it did before
after_keeps : (p : Plan) (r : Root) (x : ℕ) (old : Known) → kept_of x (root_after p r) ≡ Some old → (q : Known) × (kept_of x r ≡ Some q)
after_keeps p r x old is = by (at_number x r.keeping) refl (ap (λ o. (let q = unwrap_or o no_keeping in q.kept))
    (sym (found_each (keeping_after p) x r.keeping)) ∙ is)
  where
    kept : (o : Option Known) → kept_after p x o ≡ Some old → (q : Known) × (o ≡ Some q)
    kept None none = none_is none
    kept (Some q) some = (q, refl)

    by : (f : Option Keeping) → at_number x r.keeping ≡ f → (let q = unwrap_or (option_map (keeping_after p x) f) no_keeping in q.kept) ≡
        Some old → (q : Known) × (kept_of x r ≡ Some q)
    by None at none = none_is none
    by (Some k) at some = let z = kept k.kept some in
        (z.0, ap (λ o. (let q = unwrap_or o no_keeping in q.kept)) at ∙ z.1)

-- ---- the step behind an answer

-- naming's answer names a binding
abbrev pub names_one : BoundReply → Bool
names_one (bound.Live b server i g stores) = true
names_one (bound.Make b server g stores) = true
names_one q = false

-- something was kept; or the answer named a binding, and the call goes on
pub data KeptBy (kept : Option Known) (at : At) (r : Reply) (t : CallStep) : Type 0 where
  Stays : (q : Known) → kept ≡ Some q → KeptBy kept at r t
  Named : (avoid : Binding) (q : BoundReply) (next : At) → at ≡ AtBind avoid → r ≡ Reply.Bound q → names_one q ≡ true → t ≡ On next →
      KeptBy kept at r t

-- a step behind an answer to a Bind asks for none
abbrev NoBind : CallStep → Type 0
NoBind t = (next : At) → t ≡ On next → is_bind next ≡ false

bound_on : (free : Bool) (k : Known) (at : At) (kept : Option Known) → is_bind at ≡ false → NoBind (bound_by free k at kept).step
bound_on free k at None off next is = go is
  where
    go : On at ≡ On next → is_bind next ≡ false
    go same = let e : at ≡ next = cc same in ap is_bind (sym e) ∙ off
bound_on free k at (Some old) off next is = one (binding_eq old.binding k.binding) is
  where
    go : On at ≡ On next → is_bind next ≡ false
    go same = let e : at ≡ next = cc same in ap is_bind (sym e) ∙ off

    none : {P : Type 0} (e : CallEnd) → Ended e ≡ On next → P
    none e same = absurd (cc same)

    with_one : (q : Known) (i : ℕ) (o : Option ℕ) → (with_inc i q at o).step ≡ On next → is_bind next ≡ false
    with_one q i None is = go is
    with_one q i (Some first) is = by (first == i) is
      where
        by : (b : Bool) → (cond b (moves (Some q) at) (finds (Some q) (calls.Changed q.server (two_incs first i)))).step ≡ On next →
            is_bind next ≡ false
        by true is = go is
        by false is = none _ is

    same : (i : Option ℕ) → (same_binding old k at i).step ≡ On next → is_bind next ≡ false
    same None is = go is
    same (Some i) is = with_one (named_again old k) i old.inc is

    other : (b : Bool) → (cond b (moves (Some k) at) (finds (Some old) (calls.Changed 1 (two_bindings old.binding k.binding)))).step
        ≡ On next → is_bind next ≡ false
    other true is = go is
    other false is = none _ is

    one : (b : Bool) → (cond b (same_binding old k at k.inc) (other_binding free old k at)).step ≡ On next → is_bind next ≡ false
    one true is = same k.inc is
    one false is = other (free && binding_less old.binding k.binding) is

-- what is kept behind a binding that was named
bound_kept : (free : Bool) (k : Known) (at : At) (kept : Option Known) (P : Type 0) → ((q : Known) → kept ≡ Some q → P) →
    (kept ≡ None → (bound_by free k at kept).step ≡ On at → P) → P
bound_kept free k at None P stays named = named refl refl
bound_kept free k at (Some old) P stays named = stays old refl

kept_by : (free : Bool) (kept : Option Known) (g : Goal) (at : At) (r : Reply) (old : Known) → (answered free kept g at r).kept ≡ Some old →
    KeptBy kept at r (answered free kept g at r).step
kept_by free kept g (AtBind avoid) (Reply.Bound (bound.Live b server i n stores)) old is =
    bound_kept free (live_known b server i n stores) (AtInvoke (live_known b server i n stores) i) kept _ (λ q some. Stays q some)
    (λ none on. Named avoid (bound.Live b server i n stores) (AtInvoke (live_known b server i n stores) i) refl refl refl on)
kept_by free kept g (AtBind avoid) (Reply.Bound (bound.Make b server n stores)) old is = by stores is
  where
    by : (ss : List ℕ) → (made_by free (made_known b server n stores) kept (load_from (made_known b server n stores) ss)).kept ≡ Some old →
        KeptBy kept (AtBind avoid) (Reply.Bound (bound.Make b server n stores))
        (made_by free (made_known b server n stores) kept (load_from (made_known b server n stores) ss)).step
    by [] is = Stays old is
    by (s ∷ ss) is = bound_kept free (made_known b server n stores) (AtLoad (made_known b server n stores) s ss) kept _
        (λ q some. Stays q some)
        (λ none on. Named avoid (bound.Make b server n stores) (AtLoad (made_known b server n stores) s ss) refl refl refl on)
kept_by free kept g (AtBind avoid) (Reply.Bound (bound.Write n stores)) old is = by stores is
  where
    by : (ss : List ℕ) → (or_lost kept (load_from (write_known n stores) ss)).kept ≡ Some old →
        KeptBy kept (AtBind avoid) (Reply.Bound (bound.Write n stores)) (or_lost kept (load_from (write_known n stores) ss)).step
    by [] is = Stays old is
    by (s ∷ ss) is = Stays old is
kept_by free kept g (AtBind avoid) (Reply.Bound (bound.Conflict u m)) old is = Stays old is
kept_by free kept g (AtBind avoid) r old is = Stays old is
kept_by free kept (Run o) (AtLoad k s rest) (Reply.Loaded (loaded.State st)) old is = Stays old is
kept_by free kept (Include n) (AtLoad k s rest) (Reply.Loaded (loaded.State st)) old is = Stays old is
kept_by free kept g (AtLoad k s rest) (Reply.Loaded (loaded.InDoubt u)) old is = Stays old is
kept_by free kept g (AtLoad k s rest) r old is = Stays old is
kept_by free None g (AtActivate k st) (Reply.Activated i) old is = none_is is
kept_by free (Some q) g (AtActivate k st) (Reply.Activated i) old is = Stays q refl
kept_by free kept g (AtActivate k st) r old is = Stays old is
kept_by free None g (AtNote k i) (Reply.Noted recorded.Yes) old is = none_is is
kept_by free (Some q) g (AtNote k i) (Reply.Noted recorded.Yes) old is = Stays q refl
kept_by free kept g (AtNote k i) (Reply.Noted (recorded.Changed w)) old is = Stays old is
kept_by free kept g (AtNote k i) r old is = Stays old is
kept_by free kept g (AtInvoke k i) (Reply.Invoked (invoked.Answered a)) old is = Stays old is
kept_by free kept g (AtInvoke k i) (Reply.Invoked (invoked.Conflict u m)) old is = Stays old is
kept_by free kept g (AtInvoke k i) (Reply.Invoked (invoked.Changed w)) old is = Stays old is
kept_by free kept g (AtInvoke k i) r old is = Stays old is

abbrev step_binds : CallStep → Bool
step_binds (On at) = is_bind at
step_binds (Ended e) = false

-- a call that was bound asks for no Bind
off_bind : (free : Bool) (kept : Option Known) (g : Goal) (at : At) (r : Reply) → is_bind at ≡ false → NoBind (answered free kept g at r).step
off_bind free kept g (AtBind avoid) r off next is = absurd (cc off)
off_bind free kept (Run o) (AtLoad k s rest) (Reply.Loaded (loaded.State st)) off next is = ap step_binds (sym is)
off_bind free kept (Include n) (AtLoad k s rest) (Reply.Loaded (loaded.State st)) off next is = ap step_binds (sym is)
off_bind free kept g (AtLoad k s rest) (Reply.Loaded (loaded.InDoubt u)) off next is = ap step_binds (sym is)
off_bind free kept g (AtLoad k s rest) r off next is = ap step_binds (sym is)
off_bind free None g (AtActivate k st) (Reply.Activated i) off next is = ap step_binds (sym is)
off_bind free (Some q) g (AtActivate k st) (Reply.Activated i) off next is = one (binding_eq q.binding k.binding) is
  where
    with_one : (o : Option ℕ) → (with_inc i q (AtNote k i) o).step ≡ On next → is_bind next ≡ false
    with_one None is = ap step_binds (sym is)
    with_one (Some first) is = by (first == i) is
      where
        by : (b : Bool) → (cond b (moves (Some q) (AtNote k i)) (finds (Some q) (calls.Changed q.server (two_incs first i)))).step ≡ On next →
            is_bind next ≡ false
        by true is = ap step_binds (sym is)
        by false is = ap step_binds (sym is)

    one : (b : Bool) → (cond b (with_inc i q (AtNote k i) q.inc) (moves (Some q) (AtNote k i))).step ≡ On next → is_bind next ≡ false
    one true is = with_one q.inc is
    one false is = ap step_binds (sym is)
off_bind free kept g (AtActivate k st) r off next is = ap step_binds (sym is)
off_bind free kept g (AtNote k i) (Reply.Noted recorded.Yes) off next is = ap step_binds (sym is)
off_bind free kept g (AtNote k i) (Reply.Noted (recorded.Changed w)) off next is = ap step_binds (sym is)
off_bind free kept g (AtNote k i) r off next is = ap step_binds (sym is)
off_bind free kept g (AtInvoke k i) (Reply.Invoked (invoked.Answered a)) off next is = ap step_binds (sym is)
off_bind free kept g (AtInvoke k i) (Reply.Invoked (invoked.Conflict u m)) off next is = ap step_binds (sym is)
off_bind free kept g (AtInvoke k i) (Reply.Invoked (invoked.Changed w)) off next is = ap step_binds (sym is)
off_bind free kept g (AtInvoke k i) r off next is = ap step_binds (sym is)

-- no call goes on with a Bind
on_by : (free : Bool) (kept : Option Known) (g : Goal) (x : ℕ) (at : At) (r : Reply) → (reply_kind r == ask_kind (ask_at x g [] at)) ≡ true →
    NoBind (answered free kept g at r).step
on_by free kept g x (AtBind avoid) (Reply.Bound (bound.Live b server i n stores)) kind next is =
    bound_on free (live_known b server i n stores) (AtInvoke (live_known b server i n stores) i) kept refl next is
on_by free kept g x (AtBind avoid) (Reply.Bound (bound.Make b server n stores)) kind next is = by stores next is
  where
    by : (ss : List ℕ) → NoBind (made_by free (made_known b server n stores) kept (load_from (made_known b server n stores) ss)).step
    by [] next is = ap step_binds (sym is)
    by (s ∷ ss) next is = bound_on free (made_known b server n stores) (AtLoad (made_known b server n stores) s ss) kept refl next is
on_by free kept g x (AtBind avoid) (Reply.Bound (bound.Write n stores)) kind next is = by stores next is
  where
    by : (ss : List ℕ) → NoBind (or_lost kept (load_from (write_known n stores) ss)).step
    by [] next is = ap step_binds (sym is)
    by (s ∷ ss) next is = ap step_binds (sym is)
on_by free kept g x (AtBind avoid) (Reply.Bound (bound.Conflict u m)) kind next is = ap step_binds (sym is)
on_by free kept g x (AtBind avoid) r kind next is = absurd (cc kind)
on_by free kept g x (AtLoad k s rest) r kind next is = off_bind free kept g (AtLoad k s rest) r refl next is
on_by free kept g x (AtActivate k st) r kind next is = off_bind free kept g (AtActivate k st) r refl next is
on_by free kept g x (AtNote k i) r kind next is = off_bind free kept g (AtNote k i) r refl next is
on_by free kept g x (AtInvoke k i) r kind next is = off_bind free kept g (AtInvoke k i) r refl next is

-- nor does one that is given up
given_off : (at : At) → NoBind (given_up at)
given_off (AtBind avoid) next is = ap step_binds (sym is)
given_off (AtLoad k s []) next is = ap step_binds (sym is)
given_off (AtLoad k s (t ∷ ts)) next is = ap step_binds (sym is)
given_off (AtActivate k st) next is = ap step_binds (sym is)
given_off (AtNote k i) next is = ap step_binds (sym is)
given_off (AtInvoke k i) next is = ap step_binds (sym is)

-- ---- a coordinator

module _ (A : List Asking) (B : List AskedOf) where
  abbrev Are : Coord → Type 0
  Are c = KeepFromCalls A B c

  -- who waits for a binding did so before, under its label
  abbrev pub BindsAs : Coord → Coord → Type 0
  BindsAs c e = (u : Uid) (w : Doing) (s : Steps) → doing_of u e ≡ Some w → w.now ≡ Calling s → is_bind s.at ≡ true →
      (v : Uid) × (y : Doing) × (z : Steps) × (doing_of v c ≡ Some y) × (y.now ≡ Calling z) × (is_bind z.at ≡ true) × (y.label ≡ w.label)

  -- what roots keep they kept before
  abbrev pub KeepsAs : Coord → Coord → Type 0
  KeepsAs c e = (r : Uid) (x : ℕ) (old : Known) → kept_of x (root_at r e) ≡ Some old → (q : Known) × (kept_of x (root_at r c) ≡ Some q)

  from_as : (c e : Coord) (r : Uid) (x : ℕ) → ((u : Uid) → is_own u e.tree ≡ is_own u c.tree) → BindsAs c e → IsFromCall A B c r x →
      IsFromCall A B e r x
  from_as c e r x own binds h = record {
    asked = h.asked;
    there = h.there;
    call = h.call;
    object = h.object;
    some = h.some;
    root = h.root;
    own = own (first_uid (uids (let a = h.asked in a.path))) ∙ h.own;
    other = λ u w s found is on. let z = binds u w s found is on in
        subst (λ l. IsOther A h.asked (name l)) z.6 (h.other z.0 z.1 z.2 z.3 z.4 z.5);
  }

  pub are_as : (c e : Coord) → ((u : Uid) → is_own u e.tree ≡ is_own u c.tree) → KeepsAs c e → BindsAs c e → Are c → Are e
  are_as c e own keeps binds all r x old is = let z = keeps r x old is in from_as c e r x own binds (all r x z.0 z.1)

  -- what its actions are at is the same
  same_binds : (c e : Coord) → ((u : Uid) → doing_of u e ≡ doing_of u c) → BindsAs c e
  same_binds c e same u w s found is on = (u, w, s, sym (same u) ∙ found, is, on, refl)

  own_doings : (e : Coord) (v : Tree) → ((u : Uid) → is_own u v ≡ is_own u e.tree) → (u : Uid) → doing_of u (record e { tree = v }) ≡
      doing_of u e
  own_doings e v own u = λ i. cond (own u i) (at_place u.num e.doings) None

  are_own : (e : Coord) (v : Tree) → ((u : Uid) → is_own u v ≡ is_own u e.tree) → Are e → Are (record e { tree = v })
  are_own e v own = are_as e (record e { tree = v }) own (λ r x old is. (old, is)) (same_binds e (record e { tree = v }) (own_doings e v own))

  -- what a root notes
  are_root : (q : Uid) (f : Root → Root) (e : Coord) → ((x : ℕ) (old : Known) → kept_of x (f (root_at q e)) ≡ Some old →
      (k : Known) × (kept_of x (root_at q e) ≡ Some k)) → Are e → Are (on_root q f e)
  are_root q f e keeps = are_as e (on_root q f e) (λ u. refl) (λ r x old is. ⊎_elim
      {C = (k : Known) × (kept_of x (root_at r e) ≡ Some k)}
      (λ same. let z = keeps x old (ap (λ n. kept_of x (f (unwrap_or (at_number n e.roots) no_root))) same.0 ∙ sym (ap (kept_of x) same.1) ∙ is) in
      (z.0, ap (λ n. kept_of x (unwrap_or (at_number n e.roots) no_root)) (sym same.0) ∙ z.1))
      (λ apart. (old, sym (ap (kept_of x) apart) ∙ is)) (root_cases q f e r)) (same_binds e (on_root q f e) (λ u. refl))

  -- what an action is at
  roots_do : (u : Uid) (f : Doing → Doing) (e : Coord) → (on_doing u f e).roots ≡ e.roots
  roots_do u f e = by (doing_of u e)
    where
      by : (o : Option Doing) → (change_doing f u e o).roots ≡ e.roots
      by None = refl
      by (Some d) = refl

  are_do : (u : Uid) (f : Doing → Doing) (e : Coord) → ((w : Doing) (s : Steps) → (f w).now ≡ Calling s → is_bind s.at ≡ true →
      (z : Steps) × (w.now ≡ Calling z) × (is_bind z.at ≡ true) × (w.label ≡ (f w).label)) → Are e → Are (on_doing u f e)
  are_do u f e binds = are_as e (on_doing u f e) (λ w. ap (is_own w) (tree_same u f e))
      (λ r x old is. (old, ap (λ rs. kept_of x (unwrap_or (at_number r.num rs) no_root)) (sym (roots_do u f e)) ∙ is))
      (λ v d s found is on. ⊎_elim {C = (w : Uid) × (y : Doing) × (z : Steps) × (doing_of w e ≡ Some y) × (y.now ≡ Calling z)
      × (is_bind z.at ≡ true) × (y.label ≡ d.label)}
      (λ same. let b = binds same.1 s (ap (λ (z : Doing). z.now) same.3 ∙ is) on in
      (v, same.1, b.0, same.2, b.1, b.2, b.3 ∙ ap (λ (z : Doing). z.label) same.3))
      (λ other. (v, d, s, other.1, is, on, refl)) (on_cases u f e v d found))

  are_sent : (p : Path) (w : Went) (e : Coord) → Are e → Are (on_root (root_of p) (with_went w) e)
  are_sent p w e = are_root (root_of p) (with_went w) e (λ x old is. (old, sym (went_keeps w (root_at (root_of p) e) x) ∙ is))

  are_pieces : (c : Coord) → Are c → Pieces c Are
  are_pieces c first = record {
    start = first;
    end_tree = λ u how e all. let g = end_tree_on u how e in are_own e (ended_at u how e.tree) g.own all;
    idle = λ u e all. are_do u (λ (d : Doing). record d { now = Idle }) e (λ w s is on. absurd (cc is)) all;
    took = λ u ns e all. are_do u (λ (d : Doing). record d { took = ns }) e (λ w s is on. (s, is, on, refl)) all;
    commits = λ u m e planned all. are_do u (λ (d : Doing). record d { req = (plan_of m).req; now = Committing m }) e
        (λ w s is on. absurd (cc is)) all;
    asks = λ p req a e rooted all. are_sent p (record { path = uids_of p; node = a.0; invoke = is_invoke_ask a.1 }) e all;
    decides = λ p e rooted all. are_root (root_of p.path) (root_after p) e (λ x old is. after_keeps p (root_at (root_of p.path) e) x old is) all;
    telling = λ i e all. are_as e (record e { telling = i }) (λ u. refl) (λ r x old is. (old, is)) (same_binds e (record e { telling = i })
        (λ u. refl)) all;
  }

  -- ---- a call goes on

  module _ (s : Steps) (e : Coord) where
    abbrev at_work : Doing → Doing
    at_work d = record d { req = s.req; now = Calling s }

    abbrev waiting : Coord
    waiting = on_doing (actor s.path) (λ (d : Doing). record d { req = s.req; now = Calling s }) e

    abbrev asks_now : Went
    asks_now = record { path = uids_of s.path; node = next_node s; invoke = is_invoke_ask (next_ask (ends_of (root_of s.path) waiting.tree) s) }

    -- what is kept then was kept
    goes_kept : (r : Uid) (x : ℕ) (old : Known) → kept_of x (root_at r (goes_on s e).part) ≡ Some old → kept_of x (root_at r e) ≡ Some old
    goes_kept r x old is = ap (λ rs. kept_of x (unwrap_or (at_number r.num rs) no_root)) (sym (roots_do (actor s.path) at_work e))
        ∙ ⊎_elim {C = kept_of x (root_at r waiting) ≡ Some old}
        (λ on. sym (ap (kept_of x) on.1 ∙ went_keeps asks_now (root_at r waiting) x) ∙ is)
        (λ apart. sym (ap (kept_of x) apart) ∙ is) (root_cases (root_of s.path) (with_went asks_now) waiting r)

    goes_own : (u : Uid) → is_own u (goes_on s e).part.tree ≡ is_own u e.tree
    goes_own u = ap (is_own u) (tree_same (actor s.path) at_work e)

    -- who waits for a binding then, and isn't the one that goes on, did so before
    goes_others : (asked : AskedOf) → ((w : Doing) → doing_of (actor s.path) e ≡ Some w → is_bind s.at ≡ true → IsOther A asked (name w.label)) →
        ((u : Uid) (w : Doing) (z : Steps) → u ≢ actor s.path → doing_of u e ≡ Some w → w.now ≡ Calling z → is_bind z.at ≡ true →
        IsOther A asked (name w.label)) → (u : Uid) (w : Doing) (z : Steps) → doing_of u (goes_on s e).part ≡ Some w → w.now ≡ Calling z →
        is_bind z.at ≡ true → IsOther A asked (name w.label)
    goes_others asked mine others u w z found is on = ⊎_elim {C = IsOther A asked (name w.label)}
        (λ same.
        let it : s ≡ z = (let q : Calling s ≡ Calling z = ap (λ (d : Doing). d.now) same.3 ∙ is in cc q) in
        subst (λ (d : Doing). IsOther A asked (name d.label)) same.3
        (mine same.1 (ap (λ v. doing_of v e) (sym same.0) ∙ same.2) (ap (λ (y : Steps). is_bind y.at) it ∙ on)))
        (λ other. others u w z other.0 other.1 is on) (on_cases (actor s.path) at_work e u w found)

    from_goes : ((q : AskedOf) → In q B → (w : Doing) → doing_of (actor s.path) e ≡ Some w → is_bind s.at ≡ true → IsOther A q (name w.label)) →
        (r : Uid) (x : ℕ) → IsFromCall A B e r x → IsFromCall A B (goes_on s e).part r x
    from_goes mine r x h = record {
      asked = h.asked;
      there = h.there;
      call = h.call;
      object = h.object;
      some = h.some;
      root = h.root;
      own = goes_own (first_uid (uids (let a = h.asked in a.path))) ∙ h.own;
      other = goes_others h.asked (mine h.asked h.there) (λ u w z apart found is on. h.other u w z found is on);
    }

    are_goes : ((q : AskedOf) → In q B → (w : Doing) → doing_of (actor s.path) e ≡ Some w → is_bind s.at ≡ true → IsOther A q (name w.label)) →
        Are e → Are (goes_on s e).part
    are_goes mine all r x old is = from_goes mine r x (all r x old (goes_kept r x old is))

  -- a call ends
  are_ended : (s : Steps) (g : CallEnd) (e : Coord) → Are e → Are (step_call s (Ended g) e).part
  are_ended s g e all = dooms g
    where
      idle : Coord
      idle = on_doing (actor s.path) (λ (d : Doing). record d { now = Idle }) e

      told : Coord
      told = on_root (root_of s.path) (root_heard s g) (on_doing (actor s.path) (λ (d : Doing). record d { now = Idle }) e)

      told_so : Are told
      told_so = are_root (root_of s.path) (root_heard s g) idle
          (λ x old is. (old, sym (heard_keeps s g (root_at (root_of s.path) idle) x) ∙ is))
          (are_do (actor s.path) (λ (d : Doing). record d { now = Idle }) e (λ w z is on. absurd (cc is)) all)

      dooms : (h : CallEnd) → Are (doomed_by (actor s.path) h told)
      dooms (calls.Answered a) = told_so
      dooms (calls.Included st) = told_so
      dooms (calls.Conflict h x n) = told_so
      dooms (calls.Changed n w) = told_so
      dooms (calls.Lost n false) = told_so
      dooms (calls.Lost n true) = let q = doomed_same (actor s.path) told.tree in
          are_own told (doomed_at (actor s.path) told.tree) q.own told_so

  -- what was asked of the action whose answer names a binding
  pub record IsNew (c : Coord) (s : Steps) : Type 0 where
    pub asked : AskedOf
    pub there : In asked B
    pub call : is_call_event asked.event ≡ true
    pub object : object_used asked.event ≡ Some s.x
    pub some : 1 ≤ length (uids asked.path)
    pub root : (let u = first_uid (uids asked.path) in u.num) ≡ (let r = root_of s.path in r.num)
    pub own : is_own (first_uid (uids asked.path)) c.tree ≡ true
    pub others : (u : Uid) (w : Doing) (z : Steps) → u ≢ actor s.path → doing_of u c ≡ Some w → w.now ≡ Calling z → is_bind z.at ≡ true →
        IsOther A asked (name w.label)

  -- what the root keeps of the object behind an answer, by what it kept
  moved_kept : (s : Steps) (r : Reply) (m : Moved) (R : Root) (x : ℕ) (old : Known) → kept_of x (root_moved s r m R) ≡ Some old →
      ((s.x ≡ x) × (is_call s.goal ≡ true) × (m.kept ≡ Some old)) ⊎ (kept_of x R ≡ Some old)
  moved_kept s r m R x old is = ⊎_elim
      {C = ((s.x ≡ x) × (is_call s.goal ≡ true) × (m.kept ≡ Some old)) ⊎ (kept_of x R ≡ Some old)}
      (λ on. by s.goal refl on.0 (sym on.1 ∙ is))
      (λ apart. inr (sym (grant_keeps (granted_by (top_of s.path) s.x r) R x) ∙ sym apart ∙ is))
      (kept_with s.x x (keeps_after s.goal (has_changed m.step) m.kept (keeping_of s.x R)) (notes_grant (granted_by (top_of s.path) s.x r) R))
    where
      by : (g : Goal) → s.goal ≡ g → s.x ≡ x → (let q = keeps_after s.goal (has_changed m.step) m.kept (keeping_of s.x R) in q.kept) ≡ Some old →
          ((s.x ≡ x) × (is_call s.goal ≡ true) × (m.kept ≡ Some old)) ⊎ (kept_of x R ≡ Some old)
      by (Run o) goal same is = inl (
        same,
        ap is_call goal,
        sym (ap (λ g. (let q = keeps_after g (has_changed m.step) m.kept (keeping_of s.x R) in
            q.kept)) goal) ∙ is,
      )
      by (Include n) goal same is = inr (ap (λ y. kept_of y R) (sym same) ∙ sym (ap (λ g. (let q = keeps_after g (has_changed m.step) m.kept
          (keeping_of s.x R) in q.kept)) goal) ∙ is)

  -- behind an answer
  pub are_heard : (sent : List Post) (k : ℕ) (c : Coord) (place : Place sent k c) (from : ℕ) (a : Asked) (r : Reply)
      (intents : List (Uid × Intent)) → AnswersWaiting from a r c
      → ((s : Steps) (w : Doing) (avoid : Binding) (q : BoundReply) → doing_of a.act c ≡ Some w → w.now ≡ Calling s → actor s.path ≡ a.act →
      waits_for_call from a r s ≡ true → s.at ≡ AtBind avoid → r ≡ Reply.Bound q → names_one q ≡ true → is_call s.goal ≡ true →
      IsNew c s) → Are c → Are (heard from a r intents c).part
  are_heard sent k c place from a r intents fits new all =
      heard_so sent k c place Are (are_pieces c all) from a r intents fits calls_on
    where
      calls_on : (s : Steps) → IsStep c s → waits_for_call from a r s ≡ true → actor s.path ≡ a.act → Are (heard_call s r c).part
      calls_on s step on who = by m.step refl
        where
          m : Moved
          m = answered (is_free (root_of s.path) (actor s.path) s.x c) (kept_at s c) s.goal s.at r

          E : Coord
          E = on_root (root_of s.path) (root_moved s r (answered (is_free (root_of s.path) (actor s.path) s.x c) (kept_at s c) s.goal s.at r)) c

          kind : (reply_kind r == ask_kind (ask_at s.x s.goal [] s.at)) ≡ true
          kind = (and_parts (reply_kind r == ask_kind (next_ask [] s)) (next_node s == from)
              (and_parts (s.req == a.req) ((reply_kind r == ask_kind (next_ask [] s)) && (next_node s == from)) on).1).0

          mine : doing_of a.act c ≡ Some step.doing
          mine = ap (λ v. doing_of v c) (sym who) ∙ step.found

          by_kept : (x : ℕ) (old : Known) → s.x ≡ x → is_call s.goal ≡ true → m.kept ≡ Some old → KeptBy (kept_at s c) s.at r m.step
          by_kept x old same call is = kept_by (is_free (root_of s.path) (actor s.path) s.x c) (kept_at s c) s.goal s.at r old is

          -- what the root kept, in the coordinator that goes on
          of_before : (x : ℕ) (q : Known) → kept_of x (root_at (root_of s.path) c) ≡ Some q → IsFromCall A B E (root_of s.path) x
          of_before x q is = from_as c E (root_of s.path) x (λ u. refl) (same_binds c E (λ u. refl)) (all (root_of s.path) x q is)

          -- one of another number
          as_root : (e : Coord) (q : Uid) (x : ℕ) → (let t = root_of s.path in t.num) ≡ q.num → IsFromCall A B e (root_of s.path) x →
              IsFromCall A B e q x
          as_root e q x same h = record {
            asked = h.asked;
            there = h.there;
            call = h.call;
            object = h.object;
            some = h.some;
            root = h.root ∙ same;
            own = h.own;
            other = h.other;
          }

          on_next : (next : At) → m.step ≡ On next → Are (goes_on (record s { req = s.req + 1; at = next }) E).part
          on_next next to q x old is = ⊎_elim {C = IsFromCall A B (goes_on s' E).part q x}
              (λ same. as_root (goes_on s' E).part q x same.0 (its x (moved_kept s r m (root_at (root_of s.path) c) x old
              (ap (λ n. kept_of x (root_moved s r m (unwrap_or (at_number n c.roots) no_root))) same.0 ∙ sym (ap (kept_of x) same.1) ∙ was))))
              (λ apart. from_goes s' E none q x (from_as c E q x (λ u. refl) (same_binds c E (λ u. refl))
              (all q x old (sym (ap (kept_of x) apart) ∙ was))))
              (root_cases (root_of s.path) (root_moved s r m) c q)
            where
              s' : Steps
              s' = record s { req = s.req + 1; at = next }

              off : is_bind next ≡ false
              off = on_by (is_free (root_of s.path) (actor s.path) s.x c) (kept_at s c) s.goal s.x s.at r kind next to

              none : (q : AskedOf) → In q B → (w : Doing) → doing_of (actor s.path) E ≡ Some w → is_bind next ≡ true → IsOther A q (name w.label)
              none q i w found on = let no_way : true ≡ false = sym on ∙ off in absurd (cc no_way)

              was : kept_of x (root_at q E) ≡ Some old
              was = goes_kept s' E q x old is

              newly : (z : ℕ) → IsNew c s → s.x ≡ z → IsFromCall A B (goes_on s' E).part (root_of s.path) z
              newly z n same = record {
                asked = n.asked;
                there = n.there;
                call = n.call;
                object = n.object ∙ ap Some same;
                some = n.some;
                root = n.root;
                own = goes_own s' E (first_uid (uids (let a = n.asked in a.path))) ∙ n.own;
                other = goes_others s' E n.asked (none n.asked n.there) (λ u w v apart found is on. n.others u w v apart found is on);
              }

              its : (y : ℕ) → ((s.x ≡ y) × (is_call s.goal ≡ true) × (m.kept ≡ Some old)) ⊎ (kept_of y (root_at (root_of s.path) c) ≡ Some old) →
                  IsFromCall A B (goes_on s' E).part (root_of s.path) y
              its y (inr is) = from_goes s' E none (root_of s.path) y (of_before y old is)
              its y (inl f) = by_one (by_kept y old f.0 f.1 f.2)
                where
                  by_one : KeptBy (kept_at s c) s.at r m.step → IsFromCall A B (goes_on s' E).part (root_of s.path) y
                  by_one (Stays q is) = from_goes s' E none (root_of s.path) y
                      (of_before y q (ap (λ z. kept_of z (root_at (root_of s.path) c)) (sym f.0) ∙ is))
                  by_one (Named avoid q n at_it is_it one on_it) =
                      newly y (new s step.doing avoid q mine step.now who on at_it is_it one f.1) f.0

          ended : (g : CallEnd) → m.step ≡ Ended g → Are (step_call s (Ended g) E).part
          ended g over = are_ended s g E its
            where
              its : Are E
              its = are_root (root_of s.path) (root_moved s r m) c (λ x old is. ⊎_elim
                  {C = (k : Known) × (kept_of x (root_at (root_of s.path) c) ≡ Some k)}
                  (λ f. by_one x f.0 (by_kept x old f.0 f.1 f.2)) (λ e. (old, e))
                  (moved_kept s r m (root_at (root_of s.path) c) x old is)) all
                where
                  by_one : (x : ℕ) → s.x ≡ x → KeptBy (kept_at s c) s.at r m.step → (k : Known) × (kept_of x (root_at (root_of s.path) c) ≡ Some k)
                  by_one x same (Stays q is) = (q, ap (λ z. kept_of z (root_at (root_of s.path) c)) (sym same) ∙ is)
                  by_one x same (Named avoid q n at_it is_it one on_it) =
                      let no_way : Ended g ≡ On n = sym over ∙ on_it in absurd (cc no_way)

          by : (t : CallStep) → m.step ≡ t → Are (heard_call s r c).part
          by (On next) is = subst (λ t. Are (step_call s t E).part) (sym is) (on_next next is)
          by (Ended g) is = subst (λ t. Are (step_call s t E).part) (sym is) (ended g is)

  -- a call that begins, where what roots have was asked before
  abbrev pub AreNewAsks : Coord → Branch → Type 0
  AreNewAsks c b = (q : AskedOf) → In q B → (w : Doing) → doing_of (actor b.path) c ≡ Some w → IsOther A q (name w.label)

  uses : (c : Coord) → Are c → (p : Path) (x : ℕ) → Are (record c { tree = uses_object p x c.tree })
  uses c all p x = let q = uses_same p x c.tree in are_own c (uses_object p x c.tree) q.own all

  uses_doing : (c : Coord) (p : Path) (x : ℕ) (u : Uid) → doing_of u (record c { tree = uses_object p x c.tree }) ≡ doing_of u c
  uses_doing c p x u = let q = uses_same p x c.tree in own_doings c (uses_object p x c.tree) q.own u

  pub are_calls : (c : Coord) (b : Branch) (x : ℕ) (o : Op) → AreNewAsks c b → Are c → Are (call b.path x o c).part
  are_calls c b x o fresh all = are_goes (call_steps b.path x o (next_req (actor b.path) c) (root_at (root_of b.path) c) c K) E
      (λ q i w found on. fresh q i w (sym (uses_doing c b.path x (actor b.path)) ∙ found))
      (are_root (root_of b.path) (with_keeping x K) (record c { tree = uses_object b.path x c.tree }) keeps (uses c all b.path x))
    where
      K : Keeping
      K = renewed (is_free (root_of b.path) (actor b.path) x c) (keeping_of x (root_at (root_of b.path) c))
          (keeping_of x (root_at (root_of b.path) c)).kept

      E : Coord
      E = on_root (root_of b.path) (with_keeping x (renewed (is_free (root_of b.path) (actor b.path) x c)
          (keeping_of x (root_at (root_of b.path) c)) (keeping_of x (root_at (root_of b.path) c)).kept))
          (record c { tree = uses_object b.path x c.tree })

      kept : (k : Keeping) (o : Option Known) (old : Known) → k.kept ≡ o → (let q =
          renewed (is_free (root_of b.path) (actor b.path) x c) k o in q.kept) ≡ Some old → k.kept ≡ Some old
      kept k None old at is = is
      kept k (Some f) old at is = by (is_free (root_of b.path) (actor b.path) x c && k.spoiled) is
        where
          by : (d : Bool) → (let q = cond d (given_away k f) k in q.kept) ≡ Some old → k.kept ≡ Some old
          by true is = none_is is
          by false is = is

      keeps : (y : ℕ) (old : Known) → kept_of y (with_keeping x K (root_at (root_of b.path) c)) ≡ Some old →
          (k : Known) × (kept_of y (root_at (root_of b.path) c) ≡ Some k)
      keeps y old is = ⊎_elim {C = (k : Known) × (kept_of y (root_at (root_of b.path) c) ≡ Some k)}
          (λ on. (
            old,
            ap (λ z. kept_of z (root_at (root_of b.path) c)) (sym on.0) ∙ kept (keeping_of x (root_at (root_of b.path) c))
                (keeping_of x (root_at (root_of b.path) c)).kept old refl (sym on.1 ∙ is),
          ))
          (λ apart. (old, sym apart ∙ is)) (kept_with x y K (root_at (root_of b.path) c))

  pub are_includes : (c : Coord) (b : Branch) (x n : ℕ) → AreNewAsks c b → Are c → Are (include b.path x n c).part
  are_includes c b x n fresh all = are_goes (start b.path x (Include n) None unbound (next_req (actor b.path) c))
      (record c { tree = uses_object b.path x c.tree })
      (λ q i w found on. fresh q i w (sym (uses_doing c b.path x (actor b.path)) ∙ found)) (uses c all b.path x)

  -- a call is given up
  are_lost : (s : Steps) (c : Coord) → Are c → Are (give_up_call s c).part
  are_lost s c all = by (given_up s.at) refl
    where
      E : Coord
      E = on_root (root_of s.path) (root_lost s (given_up s.at)) c

      same : (k : Keeping) (b : Bool) (g : Goal) → (let q = keeps_after g b k.kept k in q.kept) ≡ k.kept
      same k b (Run o) = refl
      same k b (Include n) = refl

      keeps : (x : ℕ) (old : Known) → kept_of x (root_lost s (given_up s.at) (root_at (root_of s.path) c)) ≡ Some old →
          (k : Known) × (kept_of x (root_at (root_of s.path) c) ≡ Some k)
      keeps x old is =
          let R = root_at (root_of s.path) c in
          let K = keeps_after s.goal (is_ended (given_up s.at) && spoils s.at) (keeping_of s.x R).kept (keeping_of s.x R) in
          ⊎_elim {C = (k : Known) × (kept_of x (root_at (root_of s.path) c) ≡ Some k)}
          (λ on. (
            old,
            ap (λ z. kept_of z R) (sym on.0) ∙ sym (same (keeping_of s.x R) (is_ended (given_up s.at) && spoils s.at) s.goal)
                ∙ sym on.1 ∙ is,
          ))
          (λ apart. (old, sym apart ∙ is)) (kept_with s.x x K R)

      its : Are E
      its = are_root (root_of s.path) (root_lost s (given_up s.at)) c keeps all

      by : (t : CallStep) → given_up s.at ≡ t → Are (give_up_call s c).part
      by (On next) is = subst (λ t. Are (step_call s t E).part) (sym is) (are_goes (record s { req = s.req + 1; at = next }) E
          (λ q i w found on. let no_way : true ≡ false = sym on ∙ given_off s.at next is in absurd (cc no_way)) its)
      by (Ended g) is = subst (λ t. Are (step_call s t E).part) (sym is) (are_ended s g E its)

  -- behind an input that asks for no call and no include
  pub are_acts : (sent : List Post) (k : ℕ) (c : Coord) (place : Place sent k c) (hd : Header) (i : Input) (intents : List (Uid × Intent)) →
      refusal_up hd i c ≡ None → ((l : Label) (how : Kind) (parent : Option Label) → i ≢ input.Begin l how parent) → asks_for i ≡ false →
      Are c → Are (does i intents c).part
  are_acts sent k c place hd (input.Begin l how parent) intents free other off all = absurd (other l how parent refl)
  are_acts sent k c place hd (input.Call l x o) intents free other off all = absurd (cc off)
  are_acts sent k c place hd (input.Include l x n) intents free other off all = absurd (cc off)
  are_acts sent k c place hd (input.Commit l) intents free other off all = by (branch_named l c) refl free
    where
      by : (f : Option Branch) → branch_named l c ≡ f → refused_by commit_reasons c f ≡ None →
          Are (on_branch (λ b. commit_action b intents c) c f).part
      by None is e = all
      by (Some b) is e = commit_so sent k c place Are (are_pieces c all) b intents
          (named_found place.actions (paths_of place.actions) (begun_tree place.actions place.begun) intents c place.good l b is)
          (no_more (commit_reasons b c) e).0
  are_acts sent k c place hd (input.Abort l) intents free other off all = by (branch_named l c)
    where
      by : (f : Option Branch) → Are (on_branch (λ b. abort_action (actor b.path) intents c) c f).part
      by None = all
      by (Some b) = abort_so sent k c place Are (are_pieces c all) (actor b.path) intents
  are_acts sent k c place hd (input.GiveUp l) intents free other off all = by (branch_named l c)
    where
      by : (f : Option Branch) → Are (on_branch (λ b. give_up (actor b.path) intents c) c f).part
      by None = all
      by (Some b) = give_up_so sent k c place Are (are_pieces c all) (actor b.path) intents (λ s step. are_lost s c all)
  are_acts sent k c place hd i intents free other off all = all

  pub are_again : (sent : List Post) (k : ℕ) (c : Coord) (place : Place sent k c) → Are c → Are (again_all c.doings c).part
  are_again sent k c place all = again_so sent k c place Are (are_pieces c all)

  pub are_acked : (sent : List Post) (k : ℕ) (c : Coord) (place : Place sent k c) (from : ℕ) (u : Uid) (intents : List (Uid × Intent)) →
      Are c → Are (acked from u intents c).part
  are_acked sent k c place from u intents all = acked_so sent k c place Are (are_pieces c all) from u intents

  pub are_begins : (l : Label) (how : Kind) (parent : Option Label) (c : Coord) → Are c →
      Are (begin_action l how parent (parent_of parent c) c).part
  are_begins l how parent c all r x old is = from_as c (begin_action l how parent (parent_of parent c) c).part r x (λ u. refl) binds
      (all r x old is)
    where
      binds : BindsAs c (begin_action l how parent (parent_of parent c) c).part
      binds u d w found is on = ⊎_elim {C = (v : Uid) × (y : Doing) × (z : Steps) × (doing_of v c ≡ Some y) × (y.now ≡ Calling z)
          × (is_bind z.at ≡ true) × (y.label ≡ d.label)}
          (λ old. (u, d, w, old, is, on, refl))
          (λ idle. let no_way : Idle ≡ Calling w = sym idle ∙ is in absurd (cc no_way)) (was (is_own u c.tree) u.num found)
        where
          fresh : Doing
          fresh = record { label = l; req = 0; now = Idle; took = [] }

          was : (b : Bool) (j : ℕ) → cond b (at_place j (c.doings ++ fresh ∷ [])) None ≡ Some d →
              (cond b (at_place j c.doings) None ≡ Some d) ⊎ (d.now ≡ Idle)
          was true zero at = absurd (cc at)
          was true (suc j) at = ⊎_elim {C = (cond true (at_place (suc j) c.doings) None ≡ Some d) ⊎ (d.now ≡ Idle)} (λ old. inl old)
              (λ its. inr (ap (λ (z : Doing). z.now) (sym its.1))) (get_more j fresh d c.doings at)
          was false j at = absurd (cc at)

  -- a coordinator that begins keeps nothing
  pub are_new : (node inc : ℕ) (telling : List (Uid × Intent)) → Are (record (new_coord node inc) { telling = telling })
  are_new node inc telling r x old is = none_is is

  -- what its roots keep and its actions are at is the same
  pub are_same : (c e : Coord) → e ≡ c → Are c → Are e
  are_same c e same all = subst Are (sym same) all

-- more is asked, of other labels than of those who wait
pub keepers_more : (A N : List Asking) (B K : List AskedOf) (c : Coord) → ((q : AskedOf) → In q B → In q K) → ((u : Uid) (w : Doing) (s : Steps) →
    doing_of u c ≡ Some w → w.now ≡ Calling s → asks_by (accepted_of N) (name w.label) ≡ asks_by (accepted_of A) (name w.label)) →
    KeepFromCalls A B c → KeepFromCalls N K c
keepers_more A N B K c wider same all r x old is = record {
  asked = h.asked;
  there = wider h.asked h.there;
  call = h.call;
  object = h.object;
  some = h.some;
  root = h.root;
  own = h.own;
  other = λ u w s found is on. by w (same u w s found is) (h.other u w s found is on);
}
  where
    h : IsFromCall A B c r x
    h = all r x old is

    by : (w : Doing) → asks_by (accepted_of N) (name w.label) ≡ asks_by (accepted_of A) (name w.label) → IsOther A h.asked (name w.label) →
        IsOther N h.asked (name w.label)
    by w same (inl off) = inl off
    by w same (inr b) = inr (b.0, b.1, same ∙ b.2, b.3)
