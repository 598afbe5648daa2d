-- An end that a server takes raises a based copy of the object to what its top had planned.
use Rattle.arj_law_parts.proofs.Words
use Words.{arith, length, nat_le, ◌+◌, ◌≡◌, ◌≤◌, ◌⊎◌, ◌++◌, ◌==◌, ℕ, List, [], ◌∷◌, Bool, true, false, Some, refl, sym, ◌∙◌}
use Words.{made_over, ap, subst, inl, inr, ⊎_elim, nat_tests, in_find, in_from, in_to, uid_is, Binding, End, ObjectState, Uid}
use Words.{last_uid, object, Base, Copy, Over, is_of, is_top_over, over_of, raised, at_number, binding_number, next_version}
use Words.{uid_number, Server, apply_ends, end_one, is_told}
use Words.list
use Words.ending
use Rattle.arj_law_serial.proofs.Terms
use Terms.{taken_end, Core, World, Done, Known, KnownIn, Packed, Plan, decided_in, never, or_cases, some_is, test_is, in_decided, packed}
use Terms.{Root, Sub, is_action, top, Run, start, Alive, Call, Entry, State, Vote, go_on, start_holds, MayCount, counting_is_old, AreOne}
use Terms.{OnlyEnds, SeesCopy, Goes, SeesObject, told_stays, Holds, Votes, run_all_votes, start_votes, start_values, AreBrought, IsOfFamily}
use Terms.{Sees, brought_go, family_told, turn_of, Fixed, view_of, Action, AreOrdered, AreApart, HasWriters, IsBasedAt, IsKnownAs}
use Terms.{IsVotedOver, WasVotedOver}
use Terms.disk
use Terms.words
use Rattle.arj_law_lock.proofs.{logs.Overs.writes_have_calls, logs.Overs.writes_lie_over_votes, machine.ValueClaims.Values}
use Rattle.arj_law_lock.specs.machine.Actions.{Act, In, depth, is_top}
use Rattle.arj_law_lock_view.proofs.view.LogSteps.{over_deep}
use Rattle.arj_law_lock_view.specs.view.Telling.{IsCommittedSo, ShowsEnd}
use Rattle.arj_law_parts.proofs.parts.ServerRuns.{one_follows}
use Rattle.arj_law_serial.proofs.joint.{BasedServers.AreRaised, Writing.over_there}
use Rattle.arj_protocol.specs.Copy.{state_over}

-- ---- what was the last state once

-- a known state is the first one, or what a decided top wrote
known_in_cases : (first : Packed) (ds : List Done) (g : Packed) → KnownIn first ds g →
    (first ≡ g) ⊎ ((d : Done) × words.In d ds × (d.plan.writes ≡ Some g))
known_in_cases first [] g k = inl k
known_in_cases first (d ∷ ds) g (inl e) = inr (d, inl refl, e)
known_in_cases first (d ∷ ds) g (inr k) = ⊎_elim (λ (e : first ≡ g). inl e)
    (λ (x : (e : Done) × words.In e ds × (e.plan.writes ≡ Some g)). inr (x.0, inr x.1, x.2)) (known_in_cases first ds g k)

-- or it is older
known_cases : (S : disk.State) (g : Packed) → Known S g →
    words.In g (S.first ∷ S.past) ⊎ ((d : Done) × words.In d S.tops × (d.plan.writes ≡ Some g))
known_cases S g (inl k) = ⊎_elim (λ (e : S.first ≡ g). inl (inl e))
    (λ (x : (e : Done) × words.In e S.tops × (e.plan.writes ≡ Some g)). inr x) (known_in_cases S.first S.tops g k)
known_cases S g (inr i) = inl (inr i)

-- what a decided top wrote is one
known_done : (first : Packed) (ds : List Done) (d : Done) (g : Packed) → words.In d ds → d.plan.writes ≡ Some g → KnownIn first ds g
known_done first [] d g i e = absurd i
known_done first (c ∷ ds) d g (inl is) e = inl (ap (λ (z : Done). z.plan.writes) is ∙ e)
known_done first (c ∷ ds) d g (inr i) e = inr (known_done first ds d g i e)

pub done_there : (ds : List Done) (t : ℕ) → decided_in ds t ≡ true → (d : Done) × words.In d ds × (d.top ≡ t)
done_there [] t on = absurd (never on refl)
done_there (d ∷ ds) t on = ⊎_elim (λ (e : (d.top == t) ≡ true). (d, inl refl, test_is d.top t e))
    (λ (r : decided_in ds t ≡ true). let k = done_there ds t r in (k.0, inr k.1, k.2)) (or_cases (d.top == t) (decided_in ds t) on)

pub known_decided : (S : disk.State) → Core S → (t : ℕ) (g : Packed) → disk.decided S t ≡ true → (let p = S.plan t in p.writes) ≡ Some g →
    Known S g
known_decided S core t g on is =
    let d = done_there S.tops t on in
    inl (known_done S.first S.tops d.0 g d.1 (ap (λ (p : Plan). p.writes) (core.journal.plan d.0 d.1 ∙ ap S.plan d.2) ∙ is))

-- two of one writer are one
module _ (S : disk.State) (core : Core S) (writers : HasWriters S) where
  of_done : (d : Done) (g : Packed) → words.In d S.tops → d.plan.writes ≡ Some g →
      (S.begun d.top ≡ true) × ((let p = S.plan d.top in p.writes) ≡ Some g)
  of_done d g i e = (
    ⊎_elim (λ (h : S.conf d.top ≡ true). core.fresh.conf d.top h) (λ (h : S.light d.top ≡ true). core.fresh.light d.top h)
        (core.coordinators.decided_taken d.top (in_decided S.tops d i)),
    ap (λ (p : Plan). p.writes) (sym (core.journal.plan d i)) ∙ e,
  )

  pub known_one : (g h : Packed) → Known S g → Known S h → g.writer ≡ h.writer → g ≡ h
  known_one g h kg kh same = by (known_cases S g kg) (known_cases S h kh)
    where
      by : words.In g (S.first ∷ S.past) ⊎ ((d : Done) × words.In d S.tops × (d.plan.writes ≡ Some g)) →
          words.In h (S.first ∷ S.past) ⊎ ((d : Done) × words.In d S.tops × (d.plan.writes ≡ Some h)) → g ≡ h
      by (inl a) (inl b) = core.history.past.writer g h a b same
      by (inl a) (inr (d, i, e)) = let o = of_done d h i e in let w = writers d.top h o.0 o.1 in absurd (w.1 g a (same ∙ w.0))
      by (inr (d, i, e)) (inl b) = let o = of_done d g i e in let w = writers d.top g o.0 o.1 in absurd (w.1 h b (sym same ∙ w.0))
      by (inr (d, i, e)) (inr (c, j, k)) =
          let o = of_done d g i e in
          let q = of_done c h j k in
          let tops : d.top ≡ c.top = sym (writers d.top g o.0 o.1).0 ∙ same ∙ (writers c.top h q.0 q.1).0 in
          some_is o.1 (ap (λ (t : ℕ). let p = S.plan t in p.writes) tops ∙ q.1)

-- ---- lists of ends

apply_more : (n : ℕ) (pre : List (Uid × End)) (e : Uid × End) (s : Server) →
    (let d = apply_ends n (pre ++ e ∷ []) s in d.part) ≡ (let d = apply_ends n pre s in let k = end_one n e.0 e.1 d.part in k.part)
apply_more n [] e s = refl
apply_more n (f ∷ pre) e s = apply_more n pre e (let d = end_one n f.0 f.1 s in d.part)

and_more : {X : Type 0} (xs : List X) (y : X) (ys : List X) → (xs ++ y ∷ []) ++ ys ≡ xs ++ (y ∷ ys)
and_more [] y ys = refl
and_more (x ∷ xs) y ys = ap (λ zs. x ∷ zs) (and_more xs y ys)

ordered_front : (acts : List Action) (before xs ys : List (Uid × End)) → AreOrdered acts before (xs ++ ys) → AreOrdered acts before xs
ordered_front acts before [] ys o = tt
ordered_front acts before (e ∷ xs) ys o = (o.0, ordered_front acts (before ++ e ∷ []) xs ys o.1)

in_front : {X : Type 0} (x : X) (xs ys : List X) → list.In x xs → list.In x (xs ++ ys)
in_front x [] ys i = absurd i
in_front x (z ∷ xs) ys (inl is) = inl is
in_front x (z ∷ xs) ys (inr i) = inr (in_front x xs ys i)

in_middle : {X : Type 0} (xs : List X) (y : X) (ys : List X) → list.In y (xs ++ (y ∷ ys))
in_middle [] y ys = inl refl
in_middle (x ∷ xs) y ys = inr (in_middle xs y ys)

-- who was told stays so
told_on : (n : ℕ) (pre : List (Uid × End)) (s : Server) (u : Uid) → is_told u (let d = apply_ends n pre s in d.part) ≡ false →
    is_told u s ≡ false
told_on n pre s u fresh = by (is_told u s) refl
  where
    by : (b : Bool) → is_told u s ≡ b → b ≡ false
    by false is = refl
    by true is = absurd (never (on n pre s is) fresh)
      where
        on : (m : ℕ) (es : List (Uid × End)) (t : Server) → is_told u t ≡ true → is_told u (let d = apply_ends m es t in d.part) ≡ true
        on m [] t yes_it = yes_it
        on m (e ∷ es) t yes_it = on m es (let d = end_one m e.0 e.1 t in
            d.part) (told_stays t (let d = end_one m e.0 e.1 t in d.part) (one_follows m e.0 e.1 t) u yes_it)

-- an action right below its unit is a top
shallow : (a : Act) → is_action a ≡ true → depth a ≤ 1 → is_top a ≡ true
shallow (Root n) act low = absurd (cc act)
shallow (Sub (Root n) j) act low = refl
shallow (Sub (Sub a i) j) act low = absurd (omega (arith, low))

-- an overlay that is found is there, and the action's
over_in : (u : Uid) (os : List Over) (o : Over) → over_of u os ≡ Some o → list.In o os × (is_of u o ≡ true)
over_in u os o is = let g = in_find (is_of u) o os is in (g.0, g.1)

-- ---- one end

module _ (f : Fixed) (apart : AreApart f.code) (x k : ℕ) (begun : List Action) (S : State) (W : World) (core : Core W.disk)
    (writers : HasWriters W.disk) (reached : Run (start f.first) S) (ends : List (Uid × End)) (s : Server)
    (brought : AreBrought (view_of f x begun k) ends s S) (sees : Sees (view_of f x begun k) s S)
    (planned : (u : Uid) → (let a = S.action (f.act u) in a.stage) ≡ 3 → (c : Call) → In c S.calls → c.write ≡ true → top c.act ≡ f.act u →
    Alive S c.act → WasVotedOver f x u S W) where
  abbrev B : Binding → Base → Type 0
  B b base = IsBasedAt S W (binding_number b) base.version base.writer

  -- behind the ends that come first
  module _ (pre : List (Uid × End)) (u : Uid) (how : End) (es : List (Uid × End)) (are : ends ≡ pre ++ ((u, how) ∷ es)) where
    ordered : AreOrdered begun [] pre
    ordered = ordered_front begun [] pre ((u, how) ∷ es) (subst (AreOrdered begun []) are brought.ordered)

    first_ones : AreBrought (view_of f x begun k) pre s S
    first_ones = record {
      whole = brought.whole;
      server = brought.server;
      ordered = ordered;
      shown = λ w q c fresh. brought.shown w q (in_to {X = Uid × End} (w, q) ends (subst (list.In {X = Uid × End} (w, q)) (sym are)
          (in_front {X = Uid × End} (w, q) pre ((u, how) ∷ es) (in_from {X = Uid × End} (w, q) pre c)))) fresh;
    }

    abbrev mid : Server
    mid = let d = apply_ends k pre s in d.part

    goes : Goes S (λ T. Sees (view_of f x begun k) (let d = apply_ends k pre s in d.part) T × OnlyEnds k S T)
    goes = brought_go (view_of f x begun k) pre s S first_ones sees

    abbrev T : State
    T = goes.state

    rest : T ≡ record S { server = T.server }
    rest = let h = goes.holds in let o = h.1 in o.rest

    family : IsOfFamily (let w = view_of f x begun k in w.family) (let d = apply_ends k pre s in d.part)
    family = family_told (view_of f x begun k) pre s brought.whole
        (turn_of (view_of f x begun k) pre s brought.whole brought.server ordered) brought.server

    one : AreOne f.act
    one = let w = brought.whole in let a = w.alike in a.one

    module _ (fresh : is_told u mid ≡ false) (taken : taken_end u how mid ≡ ending.Commit) (c : Copy) (o : Over)
        (there : list.In {X = ℕ × Copy} (x, c) mid.objects) (over : over_of u c.stack ≡ Some o) (is_top_of : is_top_over o ≡ true)
        (its : IsBasedAt S W (binding_number c.binding) (let b = c.base in b.version) (let b = c.base in b.writer)) where
      committing : how ≡ ending.Commit
      committing = by how taken
        where
          by : (e : End) → taken_end u e mid ≡ ending.Commit → e ≡ ending.Commit
          by ending.Commit is = refl
          by ending.Abort is = absurd (cc is)

      committed : IsCommittedSo (let w = view_of f x begun k in w.family) u S
      committed = subst (ShowsEnd (view_of f x begun k) S u) committing (brought.shown u how (in_to {X = Uid × End} (u, how) ends
          (subst (list.In {X = Uid × End} (u, how)) (sym are) (in_middle {X = Uid × End} pre (u, how) es))) (told_on k pre s u fresh))

      three : (let a = T.action (f.act u) in a.stage) ≡ 3
      three = ap (λ (z : State). let a = z.action (f.act u) in a.stage) rest ∙ committed.committed

      copy_there : at_number x mid.objects ≡ Some c
      copy_there = family.listed x c (in_to {X = ℕ × Copy} (x, c) mid.objects there)

      seen : SeesCopy f.act f.code x c (T.server k)
      seen = (subst (λ q. SeesObject f.act f.code x (let d = apply_ends k pre s in let t = d.part in t.inc) q (T.server k) T) copy_there
          (let h = goes.holds in let z = h.0 in z.object)).0

      entry : (e : Entry) × In e (let w = T.server k in w.log) × (e.holder ≡ f.act u)
      entry = over_there f.act f.code u c.stack (let w = T.server k in w.log) seen.overs o over

      run_there : Run (start f.first) T
      run_there = go_on reached goes.run

      holds : Holds T × Values T × Votes T
      holds = run_all_votes run_there (start_holds f.first) (start_values f.first) (start_votes f.first)

      is_top_there : is_top (f.act u) ≡ true
      is_top_there = shallow (f.act u) (subst (λ a. is_action a ≡ true) entry.2 (let v2 = holds.1 in let l = v2.logs k entry.0 entry.1 in
          l.holder)) (deep_low (length o.holder) (depth (f.act u)) o.tops (subst (λ (w : Uid). length o.holder + 1 ≡ depth (f.act w)
          + o.tops) uid_is_it (over_deep f.act f.code c.stack (let w = T.server k in w.log) seen.overs o (over_in u c.stack o over).0))
          (low_of (length o.holder) o.tops is_top_of))
        where
          uid_is_it : last_uid o.holder ≡ u
          uid_is_it = uid_is (last_uid o.holder) u (over_in u c.stack o over).1

          low_of : (a b : ℕ) → nat_le a b ≡ true → a ≤ b
          low_of a b e = grind (arith, nat_tests, e)

          deep_low : (l d t : ℕ) → l + 1 ≡ d + t → l ≤ t → d ≤ 1
          deep_low l d t e low = omega (arith, e, low)

      module _ (p : WasVotedOver f x u S W) (counts : MayCount S (binding_number c.binding))
          (there_counts : MayCount T (let w = T.server k in w.active)) where
        abbrev z : IsVotedOver f x u p.waiting W p.state
        z = p.over

        voted_over : (o2 : Over) × (over_of u (let q = z.copy in q.stack) ≡ Some o2) × (state_over u x z.copy o2 ≡ p.state)
        voted_over = made_over u x z.copy p.state z.state

        voted_entry : (o2 : Over) → over_of u (let q = z.copy in q.stack) ≡ Some o2 →
            (e : Entry) × In e (let b = z.before in let w = b.server z.node in w.log) × (e.holder ≡ f.act u)
        voted_entry o2 is = over_there f.act f.code u (let q = z.copy in q.stack) (let b = z.before in let w = b.server z.node in
            w.log) (let y = z.sees in y.overs) o2 is

        lies : ((let w = T.server k in w.base) ≡ (let b = z.before in let w = b.server z.node in w.base))
            × ((let b = z.before in let w = b.server z.node in w.active) ≡ (let w = T.server k in w.active))
        lies =
            let old = voted_entry voted_over.0 voted_over.1 in
            writes_lie_over_votes f.first z.before p.waiting T z.node k (f.act u) z.inc (let q = p.call in
            q.0) old.0 entry.0 z.reached z.called old.1 old.2 z.run p.stage
            (subst (λ (b : ℕ). In (Vote (f.act u) b z.inc) (let y = p.waiting in y.net)) (sym (let y = z.sees in y.active)) z.sent)
            (let q = p.call in q.1) (let q = p.call in q.2) (let q = p.call in
            q.3) (go_on p.since goes.run) (omega (arith, three)) entry.1 entry.2 there_counts

        same_writer : (let b = c.base in b.writer) ≡ (let q = z.copy in let b = q.base in b.writer)
        same_writer = one (let b = c.base in b.writer) (let q = z.copy in let b = q.base in
            b.writer) (apart _ _ _ _ (sym seen.base ∙ lies.0 ∙ (let y = z.sees in y.base))).1

        same_binding : binding_number (let q = z.copy in q.binding) ≡ binding_number c.binding
        same_binding = sym (let y = z.sees in y.active) ∙ lies.1 ∙ seen.active

        was_known : IsKnownAs W.disk (let q = z.copy in let b = q.base in b.version) (let q = z.copy in let b = q.base in b.writer)
        was_known = let y = z.based in y.1 (counting_is_old f.first p.waiting S (binding_number (let q = z.copy in q.binding)) p.reached y.0
            p.since (subst (MayCount S) (sym same_binding) counts))

        is_known : IsKnownAs W.disk (let b = c.base in b.version) (let b = c.base in b.writer)
        is_known = its.1 counts

        same_version : (let b = c.base in b.version) ≡ (let q = z.copy in let b = q.base in b.version)
        same_version = sym is_known.2 ∙ ap (λ (g : Packed). g.version) (known_one W.disk core writers is_known.0 was_known.0 is_known.1
            was_known.1 (is_known.3 ∙ ap uid_number same_writer ∙ sym was_known.3)) ∙ was_known.2

        voted : (next_version (let q = z.copy in let b = q.base in b.version) ≡ (let q = p.state in q.version))
            × (u ≡ (let q = p.state in q.writer))
        voted = let same = voted_over.2 in (ap (λ (q : ObjectState). q.version) same, ap (λ (q : ObjectState). q.writer) same)

        known : IsKnownAs W.disk (next_version (let b = c.base in b.version)) u
        known = (
          packed p.state,
          known_decided W.disk core (uid_number u) (packed p.state) p.decided p.writes,
          sym (ap next_version same_version ∙ voted.0),
          ap uid_number (sym voted.1),
        )

      raises : B c.binding (raised u o.value c.base)
      raises = (
        its.0,
        λ counts.
            let there_counts : MayCount T (let w = T.server k in w.active) = subst (MayCount T) (sym seen.active)
            (subst (λ (z : State). MayCount z (binding_number c.binding)) (sym rest) counts) in
            let call = writes_have_calls f.first T k (f.act u) entry.0 run_there is_top_there (omega (arith, three)) (omega (arith, three))
            entry.1 entry.2 there_counts in
            let p = planned u committed.committed call.0 (subst (λ (z : State). In call.0 z.calls) rest call.1) call.2 call.3
            (subst (λ (z : State). Alive z (let q = call.0 in q.act)) rest call.4) in
            known p counts there_counts,
      )

  pub all_raise : AreRaised x B k ends s
  all_raise = from [] ends refl
    where
      from : (pre es : List (Uid × End)) → ends ≡ pre ++ es → AreRaised x B k es (let d = apply_ends k pre s in d.part)
      from pre [] are = tt
      from pre (e ∷ es) are = (
        λ fresh taken c o there over is_top_of its. raises pre e.0 e.1 es are fresh taken c o there over is_top_of its,
        subst (AreRaised x B k es) (apply_more k pre e s) (from (pre ++ e ∷ []) es (are ∙ sym (and_more pre e es))),
      )
