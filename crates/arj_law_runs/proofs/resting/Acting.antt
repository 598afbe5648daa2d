-- What is asked of an action puts what answers it under way, and leaves what answers others.
use Rattle.arj_law_parts.proofs.Words
use Words.{◌≡◌, ◌⊎◌, ◌∙◌, ℕ, Bool, true, false, List, [], ◌∷◌, refl, sym, ap, subst, inl, inr, ⊎_elim, ⊤, Option, Some, None, eqb-true}
use Words.{arith, ◌==◌, if◌then◌else◌, nat_tests, uid_cases, Body, Header, Uid, Coord, Doing, Now, Idle, Calling, Committing, doing_of}
use Words.{Steps, Machine, left_of, has, Did, Disk, Effect, Intent, Say, Send, Parts, with_coord, Input, Node, acts, coord_did, refusal_up}
use Words.{step, step_node, step_unless, step_up, steps, at_place, at_number, Arm, World, done_step, is_up_at, Post, Seen, see}
use Words.{IsOvertaken, IsSaid, coord_in}
use Words.list as members
use Words.body
use Words.input
use Rattle.arj_law_parts.specs.moves.Keeps.{AsksNode, is_act}
use Rattle.arj_law_runs.proofs.Terms.{Holds, KeepsAsked, up, Up, Walks, AreBrought, Asking, HasWay, Want, want_of_call}
use Rattle.arj_law_runs.proofs.Terms.{want_of_commit}
use Rattle.arj_law_runs.proofs.coordinators.CoordUses.{some_is}
use Rattle.arj_law_runs.proofs.resting
use resting.Effects.{works}
use resting.Flights.{MayGrow, MessagesKeep, with_here}
use resting.Hearing.{AsksIn, Goes, Moves}
use resting.Passing.{coords}
use resting.Quiesces.{Ways}
use resting.Ways.{Then, post_of}
use resting.Worlds.{Flown, IsLive, Under, did_flown, done_flown, live_at, nodes_in, seen_up, there_here, was_done}

-- what the action waits for is asked for in these effects
abbrev pub AsksNow : List Effect → Uid → Now → Type 0
AsksNow outs u Idle = ⊤
AsksNow outs u (Calling s) = AsksIn outs (want_of_call u s)
AsksNow outs u (Committing m) = (n : ℕ) → has (left_of m) n ≡ true → AsksIn outs (want_of_commit u m n)

-- each action is at what it was at, or asks for what it waits for
abbrev pub AsksOnly : Coord → Did Coord → Type 0
AsksOnly c did = (u : Uid) (q : Doing) → doing_of u did.part ≡ Some q → (doing_of u c ≡ Some q) ⊎ AsksNow did.outs u q.now

-- so where one moves on that was at nothing
pub moved_asks : (u : Uid) (c : Coord) (did : Did Coord) → Moves 0 Idle u c did.part did.outs → AsksOnly c did
moved_asks u c did m v q does = ⊎_elim (λ same. inr (its same)) (λ other. inl (m.others v q other does)) (uid_cases v u)
  where
    by : (x : Now) → Goes 0 Idle did.outs u x → AsksNow did.outs u x
    by Idle g = tt
    by (Calling s) g = g
    by (Committing k) g = λ n left. ⊎_elim (λ a. a) (λ w. let no_way : Idle ≡ Committing w.was = w.is in absurd (cc no_way)) (g n left)

    its : v ≡ u → AsksNow did.outs v q.now
    its same = subst (λ w. AsksNow did.outs w q.now) (sym same) (by q.now (m.own q (ap (λ w. doing_of w did.part) (sym same) ∙ does)))

-- what the coordinator of node n did
module _ (nodes : ℕ → Type 0) (n : ℕ) (d : Disk) (t : Parts) (M : Seen) (F : Post → Type 0) (B : Body → Type 0) (did : Did Coord)
    (only : AsksOnly t.coord did) where
  pub ways_acted : Ways nodes (up n d t M).nodes F B →
      Ways nodes (with_here n (record { disk = works did.outs d; parts = with_coord t did.part }) M.nodes) (Then F n did.outs) B
  ways_acted brought = record {
    calls = λ k c u q s there found does now. call k c u q s there (k == n) refl found does now;
    commits = λ k c u q m j there found does now left. commit k c u q m j there (k == n) refl found does now left;
  }
    where
      mine : Node
      mine = record { number = n; disk = d; live = Some t }

      left : Node
      left = record { number = n; disk = works did.outs d; live = Some (with_coord t did.part) }

      sent : (k : ℕ) (v : Want) → (k == n) ≡ true → AsksIn did.outs v → HasWay (Then F n did.outs) k v
      sent k v same a = subst (λ j. HasWay (Then F n did.outs) j v) (sym (eqb-true k n same)) (record {
        post = post_of n v.node a.message;
        under_way = inr (refl, a.sent);
        brings = Asking refl refl a.asks;
      })

      old : (k : ℕ) (v : Want) → HasWay F k v → HasWay (Then F n did.outs) k v
      old k v way = record { post = way.post; under_way = inl way.under_way; brings = way.brings }

      was : (k : ℕ) → (k == n) ≡ true → coords (up n d t M).nodes k ≡ Some t.coord
      was k same = ap (λ b. coord_in (if b then Some (record { number = n; disk = d; live = Some t }) else M.nodes k)) same

      other : (k : ℕ) (c : Coord) → (k == n) ≡ false → coord_in (M.nodes k) ≡ Some c → coords (up n d t M).nodes k ≡ Some c
      other k c apart found =
          ap (λ b. coord_in (if b then Some (record { number = n; disk = d; live = Some t }) else M.nodes k)) apart ∙ found

      its : (c : Coord) (u : Uid) (q : Doing) → Some did.part ≡ Some c → doing_of u c ≡ Some q →
          (doing_of u t.coord ≡ Some q) ⊎ AsksNow did.outs u q.now
      its c u q is does = only u q (ap (doing_of u) (some_is did.part c is) ∙ does)

      call : (k : ℕ) (c : Coord) (u : Uid) (q : Doing) (s : Steps) → nodes k → (b : Bool) → (k == n) ≡ b →
          coord_in (if b then Some (record { number = n; disk = works did.outs d; live = Some (with_coord t did.part) }) else M.nodes k)
          ≡ Some c → doing_of u c ≡ Some q → q.now ≡ Calling s
          → IsOvertaken B s ⊎ HasWay (Then F n did.outs) k (want_of_call u s)
      call k c u q s there false apart found does now = ⊎_elim (λ o. inl o) (λ way. inr (old k (want_of_call u s) way))
          (brought.calls k c u q s there (other k c apart found) does now)
      call k c u q s there true same found does now = ⊎_elim
          (λ before. ⊎_elim (λ o. inl o) (λ way. inr (old k (want_of_call u s) way))
          (brought.calls k t.coord u q s there (was k same) before now))
          (λ a. inr (sent k (want_of_call u s) same (subst (AsksNow did.outs u) now a))) (its c u q found does)

      commit : (k : ℕ) (c : Coord) (u : Uid) (q : Doing) (m : Machine) (j : ℕ) → nodes k → (b : Bool) → (k == n) ≡ b →
          coord_in (if b then Some (record { number = n; disk = works did.outs d; live = Some (with_coord t did.part) }) else M.nodes k)
          ≡ Some c → doing_of u c ≡ Some q → q.now ≡ Committing m → has (left_of m) j ≡ true
          → HasWay (Then F n did.outs) k (want_of_commit u m j)
      commit k c u q m j there false apart found does now waits =
          old k (want_of_commit u m j) (brought.commits k c u q m j there (other k c apart found) does now waits)
      commit k c u q m j there true same found does now waits = ⊎_elim
          (λ before. old k (want_of_commit u m j) (brought.commits k t.coord u q m j there (was k same) before now waits))
          (λ a. (let each = subst (AsksNow did.outs u) now a in sent k (want_of_commit u m j) same (each j waits))) (its c u q found does)

-- what is asked of an action at a node that is up keeps what each such act of a coordinator does
module _ (hd : Header) (P : Seen → Type 0) (keeps : KeepsAsked hd P) (I : (ℕ → Option Node) → (Post → Type 0) → (Body → Type 0) →
    Type 0) (more : MayGrow I) (message : MessagesKeep P I) (n : ℕ) (i : Input) (about : is_act i ≡ true) (asks : AsksNode hd i)
    (up_is : (a : Node) (t : Parts) → step_up i a t ≡ coord_did a t (acts i (let d = a.disk in d.intents) t.coord))
    (acted : (d : Disk) (t : Parts) (M : Seen) → P (up n d t M) → refusal_up hd i t.coord ≡ None → (F : Post → Type 0)
    (B : Body → Type 0) → I (up n d t M).nodes F B → let did = acts i d.intents t.coord in
    I (with_here n (record { disk = works did.outs d; parts = with_coord t did.part }) M.nodes) (Then F n did.outs) B)
    (w : World) (h : Holds hd P w) (flown : Flown I more w) (was : is_up_at n w ≡ true) where
  x : IsLive n w
  x = live_at n w was

  abbrev mine : Node
  mine = record { number = n; disk = (let a = x.node in a.disk); live = Some x.parts }

  there : at_place n w.nodes ≡ Some mine
  there = x.there ∙ ap Some (let num = h.stands.numbers n x.node x.there in
      λ i. record { number = num i; disk = (let a = x.node in a.disk); live = x.live i })

  here : P (up n (let a = x.node in a.disk) x.parts (see h.sent w))
  here = seen_up P n x.node x.parts h.sent w x.there (h.stands.numbers n x.node x.there) x.live h.holds

  own : I (with_here n (record { disk = (let a = x.node in a.disk); parts = x.parts }) (nodes_in w)) (Under w.frames)
      (IsSaid w.lines)
  own = subst (λ g. I g (Under w.frames) (IsSaid w.lines))
      (there_here n (record { disk = (let a = x.node in a.disk); parts = x.parts }) w.nodes there) flown

  abbrev did : Did Coord
  did = acts i (let a = x.node in let e = a.disk in e.intents) (let p = x.parts in p.coord)

  refused : (c : ℕ) (arms : List (ℕ × Arm)) → let s = step_unless w.header i mine (Some c) in
      (done_step n s (record w { arms = arms })).full ≡ false → Flown I more (done_step n s (record w { arms = arms }))
  refused c arms fits = done_flown I more n mine
      (record { disk = (let a = x.node in a.disk); parts = x.parts }) (Say (body.Refused c) ∷ []) (Say (body.Refused c) ∷ [])
      (record w { arms = arms }) there fits
      (more (with_here n (record { disk = (let a = x.node in a.disk); parts = x.parts }) (nodes_in w))
      (Under w.frames) (Then (Under w.frames) n (Say (body.Refused c) ∷ [])) (IsSaid w.lines)
      (λ b. IsSaid w.lines b ⊎ members.In (Say b) (Say (body.Refused c) ∷ [])) (
        λ p u. inl u,
        λ p. ⊎_elim (λ u. u) (λ s. ⊎_elim (λ is. absurd (cc is)) (λ none. absurd none) s.1),
      ) (λ b l. inl l) own)

  taken : refusal_up hd i (let p = x.parts in p.coord) ≡ None → (arms : List (ℕ × Arm)) → let s = step_up i mine x.parts in
      (done_step n s (record w { arms = arms })).full ≡ false → Flown I more (done_step n s (record w { arms = arms }))
  taken free arms = subst (λ s. (done_step n s (record w { arms = arms })).full ≡ false →
      Flown I more (done_step n s (record w { arms = arms }))) (sym (up_is mine x.parts))
      (did_flown hd P keeps I more message n
      (let a = x.node in a.disk) (with_coord x.parts did.part) [] did.outs (Under w.frames) h.sent w mine there (λ p u. u, λ p u. u)
      (λ to m i. i)
      (keeps.act w.event n (let a = x.node in a.disk) x.parts i (see h.sent w) about asks free here)
      (acted (let a = x.node in a.disk) x.parts (see h.sent w) here free (Under w.frames) (IsSaid w.lines) own) arms)

  pub act_flown : is_up_at n (steps n i w) ≡ true → (steps n i w).full ≡ false → Flown I more (steps n i w)
  act_flown = subst (λ o. is_up_at n (step_node n i w o) ≡ true → (step_node n i w o).full ≡ false → Flown I more (step_node n i w o))
      (sym there) (λ live. was_done (λ z. z.full ≡ false → Flown I more z) n mine (step w.header mine i) w (at_number n w.arms) there live
      (λ arms. by (refusal_up w.header i (let p = x.parts in p.coord)) refl arms))
    where
      by : (r : Option ℕ) → refusal_up w.header i (let p = x.parts in p.coord) ≡ r → (arms : List (ℕ × Arm)) →
          (done_step n (step_unless w.header i mine r) (record w { arms = arms })).full ≡ false →
          Flown I more (done_step n (step_unless w.header i mine r) (record w { arms = arms }))
      by (Some c) is arms = refused c arms
      by None is arms = taken (ap (λ g. refusal_up g i (let p = x.parts in p.coord)) (sym h.stands.header) ∙ is) arms
