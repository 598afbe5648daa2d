-- What a decided top wrote, by its vote in the lock machine: the plan with which it waited for naming has what its server voted.
use Rattle.arj_law_parts.proofs.Words
use Words.{◌≡◌, ◌⊎◌, ◌≤◌, ◌==◌, ℕ, List, [], ◌∷◌, ◌++◌, Bool, true, false, cond, Option, Some, None, refl, sym, ◌∙◌, ap, subst, inl, inr}
use Words.{⊎_elim, arith, eqb-true, option_map, uid_is, uid_same, in_find, in_to, Value, ObjectState, Uid, class_code_of, last_uid}
use Words.{Used, changed_of, Over, is_of, over_of, binding_number, uid_number}
use Rattle.arj_law_serial.proofs.Terms
use Terms.{World, Packed, Plan, packed, plan_at, plan_by, used_at, root, same, top, Alive, Call, Entry, State, Holds, start_holds, same_is}
use Terms.{content_of, same_self, top_root, top_self, start_values, Votes, run_all_votes, start_votes, Acts, AreOne, Codes, side_at, Fixed, IsPlannedSo}
use Rattle.arj_law_lock.proofs.logs.OwnLogs.{Behind, run_behind, votes_given_are_right}
use Rattle.arj_law_lock.proofs.machine.ValueClaims.{Values}
use Rattle.arj_law_lock.specs.machine.{Actions.Act, Actions.In, Laws.given_by, State.Ballot}
use Rattle.arj_law_lock_view.specs.view
use view.{Commits.maker_in, Commits.value_in, Serving.IsVotedSo, Voted.IsCalledIn, Voted.Side}
use view.Copies.{AreHeld, SeesOvers, writer_of}
use Rattle.arj_base.specs.State.{head_of}
use Rattle.arj_base.specs.declared.state.Format.TheVariants.{Two}
use Rattle.arj_protocol.specs.Copy.{state_over}

-- ---- overlays and writes of a log

in_behind : (own rest : List Entry) (e : Entry) → In e rest → In e (own ++ rest)
in_behind [] rest e i = i
in_behind (o ∷ own) rest e i = inr (in_behind own rest e i)

in_either : (own rest : List Entry) (e : Entry) → In e (own ++ rest) → In e own ⊎ In e rest
in_either [] rest e i = inr i
in_either (o ∷ own) rest e (inl is) = inl (inl is)
in_either (o ∷ own) rest e (inr i) = ⊎_elim (λ a. inl (inr a)) (λ b. inr b) (in_either own rest e i)

held_by : (a : Act) (es : List Entry) → AreHeld a es → (e : Entry) → In e es → e.holder ≡ a
held_by a [] held e i = absurd i
held_by a (f ∷ es) held e (inl is) = ap (λ (z : Entry). z.holder) is ∙ held.0
held_by a (f ∷ es) held e (inr i) = held_by a es held.1 e i

module _ (act : Acts) (code : Codes) (u : Uid) where
  -- an overlay of the action has a write that it holds
  pub over_there : (os : List Over) (log : List Entry) → SeesOvers act code os log → (o : Over) → over_of u os ≡ Some o →
      (e : Entry) × In e log × (e.holder ≡ act u)
  over_there [] log sees o is = absurd (cc is)
  over_there (p ∷ os) log (own, rest, are, over, sees) o is = by (is_of u p) refl is (over_there os rest sees o)
    where
      by : (b : Bool) → is_of u p ≡ b → cond b (Some p) (over_of u os) ≡ Some o →
          (over_of u os ≡ Some o → (e : Entry) × In e rest × (e.holder ≡ act u)) → (e : Entry) × In e log × (e.holder ≡ act u)
      by true its is_so ih =
          let newest = over.newest in
          let there : In newest (own ++ rest) = subst (λ (l : List Entry). In newest (l ++ rest)) (sym over.are) (inl refl) in (
            newest,
            subst (In newest) (sym are) there,
            held_by (act (last_uid p.holder)) own over.held newest (subst (In newest) (sym over.are) (inl refl))
                ∙ ap act (uid_is (last_uid p.holder) u its),
          )
      by false its is_so ih = let r = ih is_so in (r.0, subst (In r.0) (sym are) (in_behind own rest r.0 r.1), r.2)

  -- it is the action's own
  pub over_own : (os : List Over) (o : Over) → over_of u os ≡ Some o → last_uid o.holder ≡ u
  over_own [] o is = absurd (cc is)
  over_own (p ∷ os) o is = by (is_of u p) refl is (over_own os o)
    where
      by : (b : Bool) → is_of u p ≡ b → cond b (Some p) (over_of u os) ≡ Some o → (over_of u os ≡ Some o → last_uid o.holder ≡ u) →
          last_uid o.holder ≡ u
      by true its is_so ih = let same : p ≡ o = (let both : ◌≡◌ {A = Option Over} (Some p) (Some o) = is_so in cc both) in
          ap (λ (z : Over). last_uid z.holder) (sym same) ∙ uid_is (last_uid p.holder) u its
      by false its is_so ih = ih is_so

  -- and a write that it holds has its overlay
  pub over_found : AreOne act → (os : List Over) (log : List Entry) → SeesOvers act code os log → (e : Entry) → In e log →
      e.holder ≡ act u → over_of u os ≡ None → ⊥
  over_found one [] log sees e i holder none = absurd (subst (In e) sees i)
  over_found one (p ∷ os) log (own, rest, are, over, sees) e i holder none =
      by (is_of u p) refl none (λ there is_so. over_found one os rest sees e there holder is_so)
    where
      by : (b : Bool) → is_of u p ≡ b → cond b (Some p) (over_of u os) ≡ None → (In e rest → over_of u os ≡ None → ⊥) → ⊥
      by true its is_so ih = absurd (cc is_so)
      by false its is_so ih = ⊎_elim
          (λ here. let uids : last_uid p.holder ≡ u = one (last_uid p.holder) u
          (sym (held_by (act (last_uid p.holder)) own over.held e here) ∙ holder) in
          absurd (let two : true ≡ false = sym (ap (λ (w : Uid). is_of w p) (sym uids) ∙ uid_same (last_uid p.holder)) ∙ its in cc two))
          (λ there. ih there is_so)
          (in_either own rest e (subst (In e) are i))

-- ---- the plan

-- what the top gave to the stores, by the lock machine
abbrev pub VotedIn : Fixed → State → Uid → Option Packed → Type 0
VotedIn f S u None = (c : Call) → In c S.calls → c.write ≡ true → top c.act ≡ f.act u → Alive S c.act → ⊥
VotedIn f S u (Some w) =
    (v : Value) × (a : Act) × ((let b = S.vote (f.act u) in b.value) ≡ f.code v a) × (w.content ≡ content_of Two v)
    × (w.writer ≡ uid_number u) × (c : Call) × In c S.calls × (c.write ≡ true) × (top c.act ≡ f.act u) × Alive S c.act × (a ≡ f.act u)

module _ (f : Fixed) (x : ℕ) (S : State) (W : World) (u : Uid) (one : AreOne f.act) (p : IsPlannedSo f x S W u)
    (two : 2 ≤ (let a = S.action (f.act u) in a.stage)) (three : (let a = S.action (f.act u) in a.stage) ≤ 3) where
  abbrev m : Act
  m = f.act u

  abbrev w : Side
  w = side_at f.act f.code x u

  -- where the top called the object its server's vote is its own in the lock machine
  module _ (q : Used) (called : IsCalledIn w p.plan q) (c : Call) (there : In c p.waiting.calls) (its : top c.act ≡ m)
      (alive : Alive p.waiting c.act) where
    given : IsVotedSo f.act f.code x u (record { binding = q.binding; states = (let k = p.plan in k.changed) }) p.waiting
    given = p.votes.given q called refl

    abbrev log : List Entry
    log = let v = given.vote in let b = v.before in let k = b.server v.node in k.log

    abbrev gave : ℕ
    gave = let v = given.vote in let b = given_by v.before v.node m in b.value

    right : ((d : Call) → In d S.calls → d.write ≡ true → top d.act ≡ m → Alive S d.act →
        ((let b = S.vote m in b.value) ≡ gave) × ((e : Entry) × In e log × (same e.holder m ≡ true)))
        × ((e : Entry) → In e log → same e.holder m ≡ true → (d : Call) × In d S.calls × (d.write ≡ true) × (top d.act ≡ m) × Alive S d.act)
    right =
        let v = given.vote in
        let r = v.reached in
        votes_given_are_right r.0 v.before p.waiting S v.node m (binding_number q.binding) v.inc r.1 v.may v.run p.stage p.since two three c
        there its alive

    overs : SeesOvers f.act f.code (let k = given.copy in k.stack) log
    overs = let s = given.sees in s.overs

    -- the plan's state is that of the overlay
    state_is : (o : Option Over) → over_of u (let k = given.copy in k.stack) ≡ o →
        option_map (state_over u x given.copy) o ≡ changed_of x p.plan
    state_is o is = ap (λ (k : Option Over). option_map (state_over u x given.copy) k) (sym is) ∙ sym given.state

    wrote_over : (st : ObjectState) → changed_of x p.plan ≡ Some st → st.writer ≡ u → VotedIn f S u (Some (packed st))
    wrote_over st changed writer = by (over_of u (let k = given.copy in k.stack)) refl
      where
        by : (o : Option Over) → over_of u (let k = given.copy in k.stack) ≡ o → VotedIn f S u (Some (packed st))
        by None none = absurd (let both : ◌≡◌ {A = Option ObjectState} None (Some st) = state_is None none ∙ changed in cc both)
        by (Some o) some =
            let made : state_over u x given.copy o ≡ st = (let both : ◌≡◌ {A = Option ObjectState} (Some (state_over u x given.copy o))
            (Some st) = state_is (Some o) some ∙ changed in cc both) in
            let e = over_there f.act f.code u (let k = given.copy in k.stack) log overs o some in
            let d = right.1 e.0 e.1 (subst (λ a. same a m ≡ true) (sym e.2) (same_self m)) in
            let own_top : writer_of f.act o ≡ m = (ap (λ (z : Uid). top (f.act z))
            (over_own f.act f.code u (let k = given.copy in k.stack) o some) ∙ top_self m (let s = p.sees.0 in s.top)) in (
              o.value,
              writer_of f.act o,
              (right.0 d.0 d.1 d.2 d.3 d.4).0 ∙ ap (λ (b : Ballot). b.value) (let v = given.vote in v.gives) ∙ ap (λ (k : Option Over).
                  f.code (value_in (let z = given.copy in z.base) k) (maker_in f.act (let z = given.copy in z.base) k)) some,
              ap (λ (z : ObjectState). head_of z.format ∷ class_code_of z.class ∷ z.payload) (sym made),
              ap uid_number writer,
              d.0,
              d.1,
              d.2,
              d.3,
              d.4,
              own_top,
            )

    -- without a state there was none, and the top held no write
    none_over : changed_of x p.plan ≡ None → (d : Call) → In d S.calls → d.write ≡ true → top d.act ≡ m → Alive S d.act → ⊥
    none_over changed d i wr own lives = by (over_of u (let k = given.copy in k.stack)) refl
      where
        by : (o : Option Over) → over_of u (let k = given.copy in k.stack) ≡ o → ⊥
        by (Some o) some = absurd (let both : ◌≡◌ {A = Option ObjectState} (Some (state_over u x given.copy o)) None =
            state_is (Some o) some ∙ changed in cc both)
        by None none = let e = (right.0 d i wr own lives).1 in
            over_found f.act f.code u one (let k = given.copy in k.stack) log overs e.0 e.1 (same_is (let z = e.0 in z.holder) m e.2) none

  -- ---- the plan's state

  then : Holds p.waiting × Values p.waiting × Votes p.waiting
  then = run_all_votes p.reached (start_holds f.first) (start_values f.first) (start_votes f.first)

  behind : Behind m p.waiting S
  behind = run_behind m (let s = p.sees.0 in s.top) p.since then.0 then.1 (omega (arith, p.stage)) three

  voted_some : (st : ObjectState) → changed_of x p.plan ≡ Some st → (q : Used) → used_at x (let k = p.plan in k.used) ≡ Some q →
      q.called ≡ true → st.writer ≡ u → VotedIn f S u (Some (packed st))
  voted_some st is q its called writer =
      let g = in_find (λ (z : Used). z.x == x) q (let k = p.plan in k.used) its in
      let c = p.counted st is in
      wrote_over q (record { there = in_to q (let k = p.plan in k.used) g.0; about = eqb-true q.x x g.1; called = called }) c.0 c.1 c.2 c.3
      st is writer

  voted_none : changed_of x p.plan ≡ None → VotedIn f S u None
  voted_none is c i wr own lives =
      let there = behind.old c i own in
      let alive = behind.back c.act lives in
      let q = (let s = p.sees.0 in
      s.calls c (record { there = there; alive = alive; covered = (sym (top_root c.act) ∙ ap root own, inl own) })) in
      none_over q.0 (record { there = q.1; about = q.2; called = q.3 }) c there own alive is c i wr own lives

  planned_so : VotedIn f S u (let k = plan_at x p.plan in k.writes)
  planned_so = by (changed_of x p.plan) refl
    where
      none_by : (o : Option Used) → (let k = plan_by o None in k.writes) ≡ None
      none_by None = refl
      none_by (Some q) = refl

      by : (o : Option ObjectState) → changed_of x p.plan ≡ o → VotedIn f S u (let k = plan_at x p.plan in k.writes)
      by None is = subst (VotedIn f S u) (sym (ap (λ (o : Option ObjectState). (let k = plan_by (used_at x (let k = p.plan in k.used)) o in
          k.writes)) is ∙ none_by (used_at x (let k = p.plan in k.used)))) (voted_none is)
      by (Some st) is =
          let c = p.changed st is in
          subst (VotedIn f S u) (sym (λ i. (let k = plan_by (c.1.1 i) (is i) in k.writes))) (voted_some st is c.1.0 c.1.1 c.1.2 c.0)

  pub planned_voted : VotedIn f S u (let k = W.disk.plan (uid_number u) in k.writes)
  planned_voted = subst (VotedIn f S u) (ap (λ (k : Plan). k.writes) (sym p.same)) planned_so
