-- Giveups of calls that are overtaken send nothing, and leave fewer who wait.
use Rattle.arj_law_parts.proofs.Words
use Words.{◌≡◌, ◌≢◌, ◌⊎◌, ◌∙◌, ◌-◌, ℕ, zero, suc, Bool, true, false, List, [], ◌∷◌, ◌++◌, refl, sym, ap, subst, inl, inr, ⊎_elim, Option}
use Words.{Some, None, append-nil, length, eqb-true, arith, ⊤, ◌&&◌, ◌==◌, nat_le, nat_lt, not, option_map, take, if◌then◌else◌, is_some}
use Words.{Contains, slice_get, AllByRecursion, nat_tests, place_other, Body, Header, Label, Uid, Path, label_cmp, actor, end_line}
use Words.{ends_call, gaveup_lines, give_up, give_up_call, give_up_doing, gives_up, root_lost, step_call, At, AtActivate, AtNote, Known}
use Words.{Lost, Steps, next_node, Machine, left_of, plan_of, Calling, Committing, Coord, Doing, Idle, Now, doing_of, on_root}
use Words.{number_of, uid_at, Did, Disk, Do, Effect, Intent, Say, Send, Stop, say_for, says, Parts, Ran, most_rounds, next_round, ran}
use Words.{rounds, whole, with_coord, at_number, Node, Step, acts, branch_named, first_reason, is_waiting_now, step, step_unless}
use Words.{refusal_at, Branch, at_place, root_of, set_place, branch_of, is_own, Arm, World, armed, count_works, counted, cut, disarmed}
use Words.{done_step, frames_with, halted_at, halted_outs, is_given, limited, lowest_from, node_of, run_event, run_unless}
use Words.{sends, step_node, step_with, steps, labelled, Move, all_moved, moved, world_by, Seen, AreQuiet, NobodyWaits, AreGivenUp, AreIdle}
use Words.{AreUp, IsToSettle, coord_in, coord_of, lookup, is_at, In, in_from, in_to, and_parts, bytes_eq, cond, is_eq, list_any, name}
use Words.{was_given, ◌||◌, most_frames, is_empty}
use Words.body
use Words.event
use Words.calls
use Words.input
use Words.world
use Rattle.arj_law_runs.proofs.Terms
use Terms.{AreNamed, HasNames, KnowsNames, events_settle, Asked, says as world_says, IsGood, IsMemory, Holds, KeepsAsked, keeps_asked}
use Terms.{place_same, move_asked, moves_asked, moves_go_on, SettlesAll, AnswersWaits, WaitOvertaken, same_acts, IsAsking, IsBusy, paths_of}
use Terms.{Run, begun_tree, path_found, same_key}
use Terms.which
use Rattle.arj_law_parts.proofs.steps.{Spoken.given_node, Whole.move_whole, Whole.runs_whole, Whole.whole_with}
use Rattle.arj_law_parts.specs.{parts.Coords.AreBusy, steps.Writes.IsWhole}
use Rattle.arj_law_runs.proofs.coordinators.CoordUses.{on_cases, some_is}
use Rattle.arj_law_runs.proofs.coordinators.RunCoords.{IsSo, holds_named, keeps_names, names_are_kept}
use Rattle.arj_law_runs.proofs.kept.{Labels.one_name, Walked.same_number}
use Rattle.arj_law_runs.proofs.resting
use resting.{Fits.Few, Fits.all_few, Fits.runs_few, Quiesces.keeps_good, Quiesces.move_answers, Quiets.move_settles, Worlds.Of}
use Rattle.arj_law_runs.specs.resting.Quiet.{RoundsSettle}
use Rattle.arj_promise.specs.Resting.{IsGiveUp, GivesUp}

-- ---- a coordinator

-- whoever waits is a call that asks a server to take a binding, or naming to record it
abbrev pub OnlySettle : Coord → Type 0
OnlySettle c = (u : Uid) (q : Doing) → doing_of u c ≡ Some q → is_waiting_now q.now ≡ true →
    (s : Steps) × (q.now ≡ Calling s) × (k : Known) × IsToSettle s.at k

-- The coordinator knows its labels, and each action stands at the place of its number; and what waits fits its tree.
abbrev pub IsSoundAt : Coord → Type 0
IsSoundAt c = KnowsNames c × AreBusy c

own_is : (u : Uid) (c : Coord) → is_own u c.tree ≡ true → uid_at u.num c ≡ u
own_is u c is = let parts = and_parts (u.node == c.tree.node) (u.inc == c.tree.inc) is in
    λ i. record { node = sym (eqb-true u.node c.tree.node parts.0) i; inc = sym (eqb-true u.inc c.tree.inc parts.1) i; num = u.num }

own_found : (u : Uid) (b : Branch) (c : Coord) → branch_of u c.tree ≡ Some b → is_own u c.tree ≡ true
own_found u b c is = by (is_own u c.tree) refl is
  where
    by : (t : Bool) → is_own u c.tree ≡ t → (if t then at_place u.num c.tree.branches else None) ≡ Some b → is_own u c.tree ≡ true
    by true own found = own
    by false own found = absurd (cc found)

placed : (u : Uid) (b : Branch) (c : Coord) → branch_of u c.tree ≡ Some b → at_place u.num c.tree.branches ≡ Some b
placed u b c is = (λ i. if sym (own_found u b c is) i then at_place u.num c.tree.branches else None) ∙ is

-- a branch that is found for an action is its own
own_branch : (u : Uid) (b : Branch) (c : Coord) → KnowsNames c → branch_of u c.tree ≡ Some b → actor b.path ≡ u
own_branch u b c knows is = knows.places u.num b (placed u b c is) ∙ own_is u c (own_found u b c is)

-- the effects are lines alone
abbrev AreLines : List Effect → Type 0
AreLines [] = ⊤
AreLines (Say b ∷ es) = AreLines es
AreLines (Send to m ∷ es) = ⊥
AreLines (Do w ∷ es) = ⊥

lines_on : (es fs : List Effect) → AreLines es → AreLines fs → AreLines (es ++ fs)
lines_on [] fs a b = b
lines_on (Say x ∷ es) fs a b = lines_on es fs a b
lines_on (Send to m ∷ es) fs a b = absurd a
lines_on (Do w ∷ es) fs a b = absurd a

says_lines : (u : Uid) (f : Label → Body) (c : Coord) → AreLines (says u f c)
says_lines u f c = by (doing_of u c)
  where
    by : (o : Option Doing) → AreLines (say_for f o)
    by None = tt
    by (Some d) = tt

gaveup_are_lines : (u : Uid) (ns : List ℕ) (c : Coord) → AreLines (gaveup_lines u ns c)
gaveup_are_lines u [] c = tt
gaveup_are_lines u (n ∷ ns) c =
    lines_on (says u (λ l. body.GaveUp l n) c) (gaveup_lines u ns c) (says_lines u (λ l. body.GaveUp l n) c) (gaveup_are_lines u ns c)

-- what a giveup of this action leaves
record IsLight (u : Uid) (c e : Coord) (outs : List Effect) : Type 0 where
  lines : AreLines outs
  fewer : (w : Uid) (q : Doing) → doing_of w e ≡ Some q → (q.now ≡ Idle) ⊎ ((doing_of w c ≡ Some q) × (w ≡ u → q.now ≡ Idle))

lost_light : (s : Steps) (n : ℕ) (c : Coord) → let d = ends_call s (Lost n false) c in IsLight (actor s.path) c d.part d.outs
lost_light s n c = record {
  lines = says_lines (actor s.path) (end_line s.x s.goal (Lost n false)) c;
  fewer = λ w q is. ⊎_elim (λ same. inl (ap (λ (x : Doing). x.now) (sym same.3))) (λ other. inr (other.1, λ same. absurd (other.0 same)))
      (on_cases (actor s.path) (λ (d : Doing). record d { now = Idle }) c w q is);
}

behind_lines : (u : Uid) (c e : Coord) (es fs : List Effect) → AreLines es → IsLight u c e fs → IsLight u c e (es ++ fs)
behind_lines u c e es fs a l = record { lines = lines_on es fs a l.lines; fewer = l.fewer }

calling_is : (s x : Steps) → Calling s ≡ Calling x → s ≡ x
calling_is s x is = cc is

-- an action that waits in a call asks by its own path
asks_itself : (u : Uid) (q : Doing) (s : Steps) (c : Coord) → IsSoundAt c → doing_of u c ≡ Some q → q.now ≡ Calling s → actor s.path ≡ u
asks_itself u q s c sound found is =
    let a = subst (IsBusy c.tree u) is (sound.1 u q found) in
    let b = a.branch in
    ap actor (sym a.path) ∙ own_branch u b c sound.0 a.found

give_up_light : (u : Uid) (intents : List (Uid × Intent)) (c : Coord) → IsSoundAt c → OnlySettle c → let d = give_up u intents c in
    IsLight u c d.part d.outs
give_up_light u intents c sound only = by (doing_of u c) refl
  where
    same : ((q : Doing) → doing_of u c ≡ Some q → q.now ≡ Idle) → IsLight u c c []
    same idle = record { lines = tt; fewer = λ w q is. inr (is, λ at. idle q (ap (λ v. doing_of v c) (sym at) ∙ is)) }

    call : (s : Steps) (at : At) (k : Known) → s.at ≡ at → IsToSettle at k → let d = give_up_call s c in
        IsLight (actor s.path) c d.part d.outs
    call s (AtActivate q st) k is to = subst (λ at. let d = step_call s (calls.given_up at)
        (on_root (root_of s.path) (root_lost s (calls.given_up at)) c) in IsLight (actor s.path) c d.part d.outs) (sym is)
        (let l = lost_light s q.server (on_root (root_of s.path) (root_lost s (calls.given_up (AtActivate q st))) c) in
        record { lines = l.lines; fewer = l.fewer })
    call s (AtNote q i) k is to = subst (λ at. let d = step_call s (calls.given_up at)
        (on_root (root_of s.path) (root_lost s (calls.given_up at)) c) in IsLight (actor s.path) c d.part d.outs) (sym is)
        (let l = lost_light s 1 (on_root (root_of s.path) (root_lost s (calls.given_up (AtNote q i))) c) in
        record { lines = l.lines; fewer = l.fewer })
    call s (calls.AtBind b) k is to = absurd to
    call s (calls.AtLoad q n rest) k is to = absurd to
    call s (calls.AtInvoke q i) k is to = absurd to

    now : (q : Doing) → doing_of u c ≡ Some q → (n : Now) → q.now ≡ n → let d = gives_up u intents c n in IsLight u c d.part d.outs
    now q found Idle is = same (λ p at. ap (λ (x : Doing). x.now) (some_is p q (sym at ∙ found)) ∙ is)
    now q found (Calling s) is =
        let w = only u q found (ap is_waiting_now is) in
        let one : w.0 ≡ s = calling_is w.0 s (sym w.1 ∙ is) in
        let d = give_up_call s c in
        behind_lines u c d.part (gaveup_lines u (next_node s ∷ []) c) d.outs (gaveup_are_lines u (next_node s ∷ []) c)
        (subst (λ v. IsLight v c d.part d.outs) (asks_itself u q s c sound found is)
        (call s s.at w.2 refl (subst (λ (x : Steps). IsToSettle x.at w.2) one w.3)))
    now q found (Committing m) is = let w = only u q found (ap is_waiting_now is) in
        let no_way : Committing m ≡ Calling w.0 = sym is ∙ w.1 in absurd (cc no_way)

    by : (o : Option Doing) → doing_of u c ≡ o → let d = give_up_doing u intents c o in IsLight u c d.part d.outs
    by None none = same (λ p at. let no_way : None ≡ Some p = sym none ∙ at in absurd (cc no_way))
    by (Some q) found = now q found q.now refl

-- ---- a step

lines_ran : (n : ℕ) (v : Parts) (es : List Effect) (d : Disk) → AreLines es →
    ran n v es d ≡ record { here = record { disk = d; parts = v }; outs = es; queue = [] }
lines_ran n v [] d a = refl
lines_ran n v (Say b ∷ es) d a = ap (λ (r : Ran). record r { outs = Say b ∷ r.outs }) (lines_ran n v es d a)
lines_ran n v (Send to m ∷ es) d a = absurd a
lines_ran n v (Do w ∷ es) d a = absurd a

nothing_left : (n j : ℕ) (r : Ran) → r.queue ≡ [] → rounds n j r ≡ r
nothing_left n zero r none = refl
nothing_left n (suc j) r none = λ i. elim (none i) [ [] ↦ r | m ∷ ms ↦ rounds n j (next_round n r) ]

whole_lines : (n : ℕ) (v : Parts) (es : List Effect) (d : Disk) → AreLines es →
    whole n v es d ≡ record { here = record { disk = d; parts = v }; outs = es; queue = [] }
whole_lines n v es d a = nothing_left n most_rounds (ran n v es d) (ap (λ (r : Ran). r.queue) (lines_ran n v es d a)) ∙ lines_ran n v es d a

lines_send : (n : ℕ) (es : List Effect) → AreLines es → sends n es ≡ []
lines_send n [] a = refl
lines_send n (Say b ∷ es) a = lines_send n es a
lines_send n (Send to m ∷ es) a = absurd a
lines_send n (Do w ∷ es) a = absurd a

cut_lines : (k : ℕ) (how : Stop) (es : List Effect) (d : Disk) → AreLines es → AreLines (cut k how es d).outs
cut_lines k how [] d a = tt
cut_lines k how (Say b ∷ es) d a = cut_lines k how es d a
cut_lines k how (Send to m ∷ es) d a = absurd a
cut_lines k how (Do w ∷ es) d a = absurd a

-- At the coordinator labels stand for the same actions, and who waits waited before, and isn't the one that this label stands for.
record IsFewer (l : Label) (c e : Coord) : Type 0 where
  labels : e.labels ≡ c.labels
  fewer : (w : Uid) (q : Doing) → doing_of w e ≡ Some q → is_waiting_now q.now ≡ true →
      (doing_of w c ≡ Some q) × (number_of l c ≡ Some w.num → ⊥)

-- a node's step that says lines alone and leaves only who waits so
record IsLightStep (l : Label) (n : Node) (s : Step) : Type 0 where
  outs : AreLines s.outs
  halting : AreLines s.halting
  goes : (e : Coord) → coord_in (Some s.after) ≡ Some e → (c : Coord) × (coord_in (Some n) ≡ Some c) × IsFewer l c e

idle_waits : {X : Type 0} (q : Doing) → q.now ≡ Idle → is_waiting_now q.now ≡ true → X
idle_waits q idle waits = absurd (cc (sym (ap is_waiting_now idle) ∙ waits))

-- an action that waits has a branch of its own, which is open
waits_at : (w : Uid) (q : Doing) (c : Coord) → IsSoundAt c → doing_of w c ≡ Some q → is_waiting_now q.now ≡ true →
    (b : Branch) × (at_place w.num c.tree.branches ≡ Some b) × (actor b.path ≡ w) × (is_some b.ended ≡ false)
waits_at w q c sound found waits = by q.now refl
  where
    here : (p : Path) → IsAsking c.tree w p →
        (b : Branch) × (at_place w.num c.tree.branches ≡ Some b) × (actor b.path ≡ w) × (is_some b.ended ≡ false)
    here p a = (a.branch, placed w a.branch c a.found, own_branch w a.branch c sound.0 a.found, a.opened)

    by : (n : Now) → q.now ≡ n → (b : Branch) × (at_place w.num c.tree.branches ≡ Some b) × (actor b.path ≡ w) × (is_some b.ended ≡ false)
    by Idle is = idle_waits q is waits
    by (Calling s) is = here s.path (subst (IsBusy c.tree w) is (sound.1 w q found))
    by (Committing m) is = let v = subst (IsBusy c.tree w) is (sound.1 w q found) in here (let p = plan_of m in p.path) v.asking

module _ (hd : Header) (n : Node) (l : Label) (t : Parts) (live : n.live ≡ Some t) (here : IsSoundAt t.coord × OnlySettle t.coord) where
  refusal_here : refusal_at hd (input.GiveUp l) n.live ≡ input.refused_by input.giveup_reasons t.coord (branch_named l t.coord)
  refusal_here = λ i. refusal_at hd (input.GiveUp l) (live i)

  -- the label stands for an action that waits
  named_at : (w : Uid) (b : Branch) → number_of l t.coord ≡ Some w.num → at_place w.num t.coord.tree.branches ≡ Some b →
      branch_named l t.coord ≡ Some b
  named_at w b number there = ap (input.branch_numbered t.coord) number ∙ there

  unrefused : (w : Uid) (q : Doing) → doing_of w t.coord ≡ Some q → is_waiting_now q.now ≡ true → number_of l t.coord ≡ Some w.num →
      refusal_at hd (input.GiveUp l) n.live ≡ None
  unrefused w q found waits number =
      let a = waits_at w q t.coord here.0 found waits in
      refusal_here ∙ ap (input.refused_by input.giveup_reasons t.coord) (named_at w a.0 number a.1)
      ∙ (λ i. first_reason ((6, a.3 i) ∷ (8, not (input.is_waiting (doing_of (a.2 i) t.coord))) ∷ []))
      ∙ (λ i. first_reason ((8, not (input.is_waiting (found i))) ∷ []))
      ∙ (λ i. first_reason ((8, not (waits i)) ∷ []))

  giveup_did : (o : Option Branch) → branch_named l t.coord ≡ o → refusal_at hd (input.GiveUp l) n.live ≡ None →
      IsLightStep l n (input.step_of hd (input.GiveUp l) n (Some t))
  giveup_did None none free = absurd (cc (sym (refusal_here ∙ ap (input.refused_by input.giveup_reasons t.coord) none) ∙ free))
  giveup_did (Some b) named free = light
    where
      d : Did Coord
      d = acts (input.GiveUp l) n.disk.intents t.coord

      d_is : d ≡ give_up (actor b.path) n.disk.intents t.coord
      d_is = ap (λ o. input.on_branch (λ (x : Branch). give_up (actor x.path) n.disk.intents t.coord) t.coord o) named

      its : IsLight (actor b.path) t.coord d.part d.outs
      its = subst (λ (x : Did Coord). IsLight (actor b.path) t.coord x.part x.outs) (sym d_is)
          (give_up_light (actor b.path) n.disk.intents t.coord here.0 here.1)

      ran_is : whole n.number (with_coord t d.part) d.outs n.disk
          ≡ record { here = record { disk = n.disk; parts = with_coord t d.part }; outs = d.outs; queue = [] }
      ran_is = whole_lines n.number (with_coord t d.part) d.outs n.disk its.lines

      goes : IsFewer l t.coord d.part
      goes = record {
        labels = let s = same_acts (input.GiveUp l) n.disk.intents t.coord (λ m k p is. absurd (cc is)) in s.labels;
        fewer = λ w q is waits. ⊎_elim
            (λ idle. idle_waits q idle waits)
            (λ old. (
              old.0,
              λ number.
                  let a = waits_at w q t.coord here.0 old.0 waits in
                  let one : a.0 ≡ b = some_is a.0 b (sym (named_at w a.0 number a.1) ∙ named) in
                  idle_waits q (old.1 (sym a.2 ∙ ap (λ (x : Branch). actor x.path) one)) waits,
            ))
            (its.fewer w q is);
      }

      light : IsLightStep l n (input.coord_did n t d)
      light = subst (λ r. IsLightStep l n (input.steps_to n [] r)) (sym ran_is)
          (record {
            outs = its.lines;
            halting = its.lines;
            goes = λ e is.
                (t.coord, (λ i. coord_in (Some (record n { live = live i }))), subst (IsFewer l t.coord) (some_is d.part e is) goes);
          })

giveup_light : (hd : Header) (n : Node) (l : Label) → ((c : Coord) → coord_in (Some n) ≡ Some c → IsSoundAt c × OnlySettle c) →
    IsLightStep l n (step hd n (input.GiveUp l))
giveup_light hd n l holds = by (refusal_at hd (input.GiveUp l) n.live) refl
  where
    here : (t : Parts) → n.live ≡ Some t → IsSoundAt t.coord × OnlySettle t.coord
    here t live = holds t.coord (λ i. coord_in (Some (record n { live = live i })))

    up : (o : Option Parts) → n.live ≡ o → refusal_at hd (input.GiveUp l) n.live ≡ None →
        IsLightStep l n (input.step_of hd (input.GiveUp l) n o)
    up None none free = absurd (cc (sym (λ i. refusal_at hd (input.GiveUp l) (none i)) ∙ free))
    up (Some t) live free = giveup_did hd n l t live (here t live) (branch_named l t.coord) refl free

    -- who is refused doesn't wait
    refused : (x : ℕ) → refusal_at hd (input.GiveUp l) n.live ≡ Some x → (e : Coord) → coord_in (Some n) ≡ Some e → IsFewer l e e
    refused x is e at = record { labels = refl; fewer = λ w q found waits. (found, λ number. one n.live refl at w q found waits number) }
      where
        one : (o : Option Parts) → n.live ≡ o → option_map coord_of o ≡ Some e → (w : Uid) (q : Doing) → doing_of w e ≡ Some q →
            is_waiting_now q.now ≡ true → number_of l e ≡ Some w.num → ⊥
        one None live at w q found waits number = absurd (cc at)
        one (Some t) live at w q found waits number =
            let same : t.coord ≡ e = some_is t.coord e at in
            let no_way : Some x ≡ None = sym is
            ∙ unrefused hd n l t live (here t live) w q (ap (doing_of w) same ∙ found) waits (ap (number_of l) same ∙ number) in
            absurd (cc no_way)

    by : (r : Option ℕ) → refusal_at hd (input.GiveUp l) n.live ≡ r → IsLightStep l n (step_unless hd (input.GiveUp l) n r)
    by (Some x) is = record { outs = tt; halting = tt; goes = λ e at. (e, at, refused x is e at) }
    by None free = up n.live refl free

-- ---- a world

-- no frame is open, and whoever waits at a node of the header is such a call
pub record IsCalm (hd : Header) (w : World) : Type 0 where
  pub none : lowest_from 1 w.frames ≡ None
  pub only : (k : ℕ) (c : Coord) → Of hd k → coord_in (at_place k w.nodes) ≡ Some c → OnlySettle c

-- coordinators of nodes of the header know their labels, and what waits there fits their trees
abbrev pub AreSound : Header → World → Type 0
AreSound hd w = (k : ℕ) (c : Coord) → Of hd k → coord_in (at_place k w.nodes) ≡ Some c → IsSoundAt c

-- Nothing is under way behind the giveup, labels stand for the same actions, and who waits waited before, and isn't the one for which this
-- label stands.
pub record HasGivenUp (hd : Header) (l : Label) (w v : World) : Type 0 where
  pub none : lowest_from 1 v.frames ≡ None
  pub labels : v.labels ≡ w.labels
  pub coords : (k : ℕ) (e : Coord) → Of hd k → coord_in (at_place k v.nodes) ≡ Some e →
      (c : Coord) × (coord_in (at_place k w.nodes) ≡ Some c) × (e.labels ≡ c.labels)
      × ((u : Uid) (q : Doing) → doing_of u e ≡ Some q → is_waiting_now q.now ≡ true →
      (doing_of u c ≡ Some q) × (node_of l w ≡ k → number_of l c ≡ Some u.num → ⊥))

take_none : {A : Type 0} (k : ℕ) → ◌≡◌ {A = List A} (take k []) []
take_none zero = refl
take_none (suc k) = refl

-- nothing is sent
frames_stay : (n : ℕ) (es : List Effect) (w : World) → AreLines es → frames_with w.frames (sends n es) ≡ w.frames
frames_stay n es w a = (λ i. frames_with w.frames (lines_send n es a i))
    ∙ ap (λ xs. w.frames ++ xs) (take_none (most_frames - length w.frames)) ∙ append-nil w.frames

-- the node for which no event is has who waited
stays : (k n : ℕ) (l : Label) (c e : Coord) → (n ≡ k → ⊥) → e ≡ c → (u : Uid) (q : Doing) → doing_of u e ≡ Some q →
    is_waiting_now q.now ≡ true → (doing_of u c ≡ Some q) × (n ≡ k → number_of l c ≡ Some u.num → ⊥)
stays k n l c e apart same u q is waits = (ap (doing_of u) (sym same) ∙ is, λ at number. apart at)

-- a node is put in its place that leaves no more who wait
put_down : (hd : Header) (l : Label) (a b : Node) (w v : World) → at_place (node_of l w) w.nodes ≡ Some a →
    ((e : Coord) → coord_in (Some b) ≡ Some e → (c : Coord) × (coord_in (Some a) ≡ Some c) × IsFewer l c e)
    → lowest_from 1 v.frames ≡ None → v.labels ≡ w.labels → v.nodes ≡ set_place (node_of l w) b w.nodes → HasGivenUp hd l w v
put_down hd l a b w v there goes none labels nodes = record {
  none = none;
  labels = labels;
  coords = λ k e of is. by k e (k == node_of l w) refl (ap (λ ns. coord_in (at_place k ns)) (sym nodes) ∙ is);
}
  where
    apart : (k n : ℕ) → (k == n) ≡ false → k ≢ n
    apart k n e = grind (arith, nat_tests)

    by : (k : ℕ) (e : Coord) (t : Bool) → (k == node_of l w) ≡ t → coord_in (at_place k (set_place (node_of l w) b w.nodes)) ≡ Some e →
        (c : Coord) × (coord_in (at_place k w.nodes) ≡ Some c) × (e.labels ≡ c.labels)
        × ((u : Uid) (q : Doing) → doing_of u e ≡ Some q → is_waiting_now q.now ≡ true →
        (doing_of u c ≡ Some q) × (node_of l w ≡ k → number_of l c ≡ Some u.num → ⊥))
    by k e true at is =
        let here : k ≡ node_of l w = eqb-true k (node_of l w) at in
        let g = goes e (sym (ap coord_in
        (ap (λ j. at_place j (set_place (node_of l w) b w.nodes)) here ∙ place_same (node_of l w) b a w.nodes there)) ∙ is) in
        let f = g.2 in (
          g.0,
          ap (λ j. coord_in (at_place j w.nodes)) here ∙ ap coord_in there ∙ g.1,
          f.labels,
          λ u q found waits. let one = f.fewer u q found waits in (one.0, λ same number. one.1 number),
        )
    by k e false at is = (
      e,
      sym (ap coord_in (place_other (node_of l w) k b w.nodes (apart k (node_of l w) at))) ∙ is,
      refl,
      stays k (node_of l w) l e e (λ same. apart k (node_of l w) at (sym same)) refl,
    )

step_down : (hd : Header) (l : Label) (a : Node) (s : Step) (w : World) (arm : Option Arm) → at_place (node_of l w) w.nodes ≡ Some a →
    IsLightStep l a s → lowest_from 1 w.frames ≡ None → HasGivenUp hd l w (step_with (node_of l w) a s w arm)
step_down hd l a s w arm there light calm = by arm
  where
    n : ℕ
    n = node_of l w

    done : (arms : List (ℕ × Arm)) → HasGivenUp hd l w (done_step n s (record w { arms = arms }))
    done arms = put_down hd l a s.after w (done_step n s (record w { arms = arms })) there light.goes
        (subst (λ fs. lowest_from 1 fs ≡ None) (sym (frames_stay n s.outs w light.outs)) calm) refl refl

    halts : (k : ℕ) (how : Stop) (arms : List (ℕ × Arm)) →
        HasGivenUp hd l w (halted_at n a (cut k how s.halting a.disk) (record w { arms = arms }))
    halts k how arms = put_down hd l a (record a { disk = (cut k how s.halting a.disk).disk; live = None }) w
        (halted_at n a (cut k how s.halting a.disk) (record w { arms = arms })) there (λ e is. absurd (cc is))
        (subst (λ fs. lowest_from 1 fs ≡ None) (sym (frames_stay n (halted_outs n (cut k how s.halting a.disk)) w (lines_on (cut k how
        s.halting a.disk).outs (Say (body.Halted n) ∷ []) (cut_lines k how s.halting a.disk light.halting) tt))) calm) refl refl

    by : (o : Option Arm) → HasGivenUp hd l w (step_with n a s w o)
    by None = done w.arms
    by (Some r) = two (nat_lt (count_works s.halting) r.works)
      where
        two : (t : Bool) → HasGivenUp hd l w (if t then done_step n s (armed n (record r { works = r.works - count_works s.halting }) w)
            else halted_at n a (cut (r.works - 1) r.how s.halting a.disk) (disarmed n w))
        two true = done (armed n (record r { works = r.works - count_works s.halting }) w).arms
        two false = halts (r.works - 1) r.how (disarmed n w).arms

giveup_steps : (hd : Header) (l : Label) (w : World) → Of hd (node_of l w) → IsCalm hd w → AreSound hd w →
    HasGivenUp hd l w (steps (node_of l w) (input.GiveUp l) w)
giveup_steps hd l w of calm sound = by (at_place (node_of l w) w.nodes) refl
  where
    by : (o : Option Node) → at_place (node_of l w) w.nodes ≡ o → HasGivenUp hd l w (step_node (node_of l w) (input.GiveUp l) w o)
    by None none = record {
      none = calm.none;
      labels = refl;
      coords = λ k e at is. (
        e,
        is,
        refl,
        stays k (node_of l w) l e e (λ same. let no_way : None ≡ Some e = sym (ap coord_in (ap (λ j. at_place j w.nodes) (sym same) ∙ none))
            ∙ is in absurd (cc no_way)) refl,
      );
    }
    by (Some a) there = step_down hd l a (step w.header a (input.GiveUp l)) w (at_number (node_of l w) w.arms) there
        (giveup_light w.header a l
        (λ c is. (sound (node_of l w) c of (ap coord_in there ∙ is), calm.only (node_of l w) c of (ap coord_in there ∙ is)))) calm.none

-- a label that was given in the run wasn't given before it
given_anew : (w : World) (l : Label) → IsWhole w → is_given l w ≡ true → was_given l w ≡ false
given_anew w l whole given = by w.labels whole.new given
  where
    alike : (a b : Label) → is_eq (label_cmp a b) ≡ true → (ls : List Label) →
        list_any (is_at (label_cmp a)) ls ≡ list_any (is_at (label_cmp b)) ls
    alike a b is [] = refl
    alike a b is (j ∷ js) = λ i. one i || alike a b is js i
      where
        one : is_eq (label_cmp a j) ≡ is_eq (label_cmp b j)
        one = same_key a j ∙ ap (λ x. bytes_eq x (name j)) (one_name a b is) ∙ sym (same_key b j)

    by : (ls : List (Label × world.Labelled)) → AllByRecursion (λ (e : Label × world.Labelled). was_given e.0 w ≡ false) ls →
        is_some (lookup (is_at (label_cmp l)) ls) ≡ true → was_given l w ≡ false
    by [] all some = absurd (cc some)
    by (e ∷ es) all some = here (is_eq (label_cmp l e.0)) refl some (by es all.1)
      where
        here : (b : Bool) → is_eq (label_cmp l e.0) ≡ b → is_some (cond b (Some e.1) (lookup (is_at (label_cmp l)) es)) ≡ true →
            (is_some (lookup (is_at (label_cmp l)) es) ≡ true → was_given l w ≡ false) → was_given l w ≡ false
        here true is found rest = alike l e.0 is w.start.given ∙ all.0
        here false is found rest = rest found

-- so it is of the event that gives it up
giveup_goes : (hd : Header) (e : Asked) (l : Label) (w : World) → e.event ≡ event.GiveUp l → IsWhole w → w.header ≡ hd → w.over ≡ false →
    IsCalm hd w → AreSound hd w → HasGivenUp hd l w (run_event e w)
giveup_goes hd e l w is is_whole header over calm sound =
    subst (λ b. HasGivenUp hd l w (if b then w else run_unless e.event e.arm w (first_reason (world.reasons e.event w)))) (sym over)
    (subst (λ x. HasGivenUp hd l w (run_unless x e.arm w (first_reason (world.reasons x w)))) (sym is)
    (at_node (was_given l w) (is_given l w) refl refl))
  where
    counts : (v : World) → HasGivenUp hd l (counted w) v → HasGivenUp hd l w v
    counts v g = record { none = g.none; labels = g.labels; coords = g.coords }

    limits : (v : World) → HasGivenUp hd l w v → HasGivenUp hd l w (limited v)
    limits v g = one v.full
      where
        one : (b : Bool) → HasGivenUp hd l w (if b then world_says (body.Limit which.Frames ∷ []) (record v { over = true }) else v)
        one true = record { none = g.none; labels = g.labels; coords = g.coords }
        one false = g

    -- a label that wasn't given stands for no node
    nowhere : is_given l w ≡ false → (k : ℕ) → Of hd k → node_of l w ≡ k → ⊥
    nowhere none k of at = by (labelled l w) refl none
      where
        by : (o : Option world.Labelled) → labelled l w ≡ o → is_some o ≡ false → ⊥
        by None lacks none = let zero_is : k ≡ 0 = sym at ∙ ap world.node_in lacks in
            let no_way : false ≡ true = sym (ap (λ j. nat_le 1 j && nat_le j hd.nodes) zero_is) ∙ of in absurd (cc no_way)
        by (Some g) has none = absurd (cc none)

    refused : is_given l w ≡ false → (c : ℕ) → HasGivenUp hd l w (world_says (body.Refused c ∷ []) (counted w))
    refused none c = record {
      none = calm.none;
      labels = refl;
      coords = λ k e of at. (e, at, refl, stays k (node_of l w) l e e (nowhere none k of) refl);
    }

    at_node : (a b : Bool) → was_given l w ≡ a → is_given l w ≡ b →
        HasGivenUp hd l w (run_unless (event.GiveUp l) e.arm w (first_reason ((5, not (a || b)) ∷ (6, a) ∷ [])))
    at_node false true old given = limits (steps (node_of l (counted w)) (input.GiveUp l) (counted w))
        (counts (steps (node_of l (counted w)) (input.GiveUp l) (counted w)) (giveup_steps hd l (counted w)
        (subst (λ (x : Header). (nat_le 1 (node_of l w) && nat_le (node_of l w) x.nodes) ≡ true) header (given_node w l is_whole given))
        (record { none = calm.none; only = calm.only }) sound))
    at_node false false old none = refused none 5
    at_node true false old none = refused none 6
    at_node true true old given = let no_way : true ≡ false = sym old ∙ given_anew w l is_whole given in absurd (cc no_way)

calm_goes : (hd : Header) (l : Label) (w v : World) → HasGivenUp hd l w v → IsCalm hd w → IsCalm hd v
calm_goes hd l w v g calm = record {
  none = g.none;
  only = λ k e of is u q found waits. let c = g.coords k e of is in calm.only k c.0 of c.1 u q (c.3 u q found waits).0 waits;
}

-- who waits is given up by a move that is still to come
given_goes : (hd : Header) (m : Move) (gs : List Move) (l : Label) (w v : World) → m.asked.event ≡ event.GiveUp l → w.header ≡ hd →
    v.header ≡ hd → HasGivenUp hd l w v → AreGivenUp (m ∷ gs) w → AreGivenUp gs v
given_goes hd m gs l w v is old_header new_header g all k c u q of at found waits =
    let of_hd = subst (λ (x : Header). (nat_le 1 k && nat_le k x.nodes) ≡ true) new_header of in
    let b = g.coords k c of_hd at in
    let o = b.3 u q found waits in
    let i = all k b.0 u q (subst (λ (x : Header). (nat_le 1 k && nat_le k x.nodes) ≡ true) (sym old_header) of_hd) b.1 o.0 waits in
    by b.0 b.2 i.0 i.2 o.1 (in_from i.0 (m ∷ gs) i.1)
  where
    this : (l j : Label) → event.GiveUp l ≡ event.GiveUp j → l ≡ j
    this l j same = cc same

    by : (b : Coord) → c.labels ≡ b.labels → (f : Move) → GivesUp w k b u f → (node_of l w ≡ k → number_of l b ≡ Some u.num → ⊥) →
        In f (m ∷ gs) → (f : Move) × Contains gs f × GivesUp v k c u f
    by b labels f up ended (inl same) =
        let one : up.label ≡ l = this up.label l (sym up.is ∙ ap (λ (x : Move). x.asked.event) (sym same) ∙ is) in
        absurd (ended (ap (λ j. node_of j w) (sym one) ∙ up.node) (ap (λ j. number_of j b) (sym one) ∙ up.number))
    by b labels f up ended (inr there) = (
      f,
      in_to f gs there,
      record {
        label = up.label;
        is = up.is;
        node = ap (λ ls. world.node_in (lookup (is_at (label_cmp up.label)) ls)) g.labels ∙ up.node;
        number = ap (λ ls. lookup (is_at (label_cmp up.label)) ls) labels ∙ up.number;
      },
    )

-- ---- moves

-- once over, nothing changes
pub over_before : (m : Move) (w : World) → (moved m w).over ≡ false → w.over ≡ false
over_before m w last = by w.over refl
  where
    v : World
    v = record w { arms = m.falls }

    by : (b : Bool) → w.over ≡ b → w.over ≡ false
    by false is = is
    by true is =
        sym (λ i. (if is i then v else run_unless m.asked.event m.asked.arm v (first_reason (world.reasons m.asked.event v))).over) ∙ last

pub over_front : (ms : List Move) (w : World) → (all_moved ms w).over ≡ false → w.over ≡ false
over_front [] w last = last
over_front (m ∷ ms) w last = over_before m w (over_front ms (moved m w) last)

-- what is known of each run's world: it has its nodes, which are good, and its coordinators know their labels
record IsInRun (hd : Header) (w : World) : Type 0 where
  whole : IsWhole w
  named : Holds hd (IsSo HasNames names_are_kept) w

names_asked : (hd : Header) → KeepsAsked hd (IsSo HasNames names_are_kept)
names_asked hd = keeps_asked hd (IsSo HasNames names_are_kept) (keeps_names hd)

in_run : (hd : Header) (r : Run hd) → IsInRun hd (world_by hd r)
in_run hd r = record { whole = runs_whole hd r; named = moves_asked hd (IsSo HasNames names_are_kept) (names_asked hd) r }

run_goes : (hd : Header) (m : Move) (w : World) → IsInRun hd w → IsInRun hd (moved m w)
run_goes hd m w r =
    record { whole = move_whole m w r.whole; named = move_asked hd (IsSo HasNames names_are_kept) (names_asked hd) m w r.named }

run_header : (hd : Header) (w : World) → IsInRun hd w → w.header ≡ hd
run_header hd w r = let h = r.named in h.stands.header

run_sound : (hd : Header) (w : World) → IsInRun hd w → AreSound hd w
run_sound hd w r k c of is = by (at_place k w.nodes) refl is
  where
    up : (n : Node) → at_place k w.nodes ≡ Some n → (o : Option Parts) → n.live ≡ o → option_map coord_of o ≡ Some c → IsSoundAt c
    up n there None live at = absurd (cc at)
    up n there (Some t) live at =
        let h = r.named in
        let all = h.holds in
        let good = all.0 in
        let place = (let g = good.1 in g.places k n there) in
        let begun = (let g = good.1 in g.begun) in
        let memory = subst (IsMemory good.0 h.sent w.labels k n.disk.inc) live place.memory in
        let good_node = memory.good (paths_of good.0) (begun_tree good.0 begun) (path_found good.0 begun) in
        subst IsSoundAt (some_is t.coord c at) (holds_named hd w h k n t there live, let g = good_node.coord in g.busy)

    by : (o : Option Node) → at_place k w.nodes ≡ o → coord_in o ≡ Some c → IsSoundAt c
    by None none at = absurd (cc at)
    by (Some n) there at = up n there n.live refl at

-- a giveup in which stops may fall
move_goes : (hd : Header) (m : Move) (l : Label) (w : World) → m.asked.event ≡ event.GiveUp l → IsInRun hd w → w.over ≡ false →
    IsCalm hd w → HasGivenUp hd l w (moved m w)
move_goes hd m l w is r over calm = record { none = goes.none; labels = goes.labels; coords = goes.coords }
  where
    goes : HasGivenUp hd l (record w { arms = m.falls }) (run_event m.asked (record w { arms = m.falls }))
    goes = giveup_goes hd m.asked l (record w { arms = m.falls }) is (whole_with m.falls w r.whole) (run_header hd w r) over
        (record { none = calm.none; only = calm.only }) (run_sound hd w r)

-- giveups leave a world calm, in which who waits is given up by none of them
abbrev AllEnd : Header → List Move → World → Type 0
AllEnd hd gs w = IsCalm hd w → (all_moved gs w).over ≡ false →
    IsCalm hd (all_moved gs w) × (AreGivenUp gs w → AreGivenUp [] (all_moved gs w))

one_ends : (hd : Header) (g : Move) (gs : List Move) (w : World) → IsInRun hd w → IsGiveUp g → AllEnd hd gs (moved g w) →
    AllEnd hd (g ∷ gs) w
one_ends hd g gs w r (l, is) rest calm last = (
  later.0,
  λ given. later.1 (given_goes hd g gs l w (moved g w) is (run_header hd w r) (run_header hd (moved g w) (run_goes hd g w r)) goes given),
)
  where
    goes : HasGivenUp hd l w (moved g w)
    goes = move_goes hd g l w is r (over_front (g ∷ gs) w last) calm

    later : IsCalm hd (all_moved gs (moved g w)) × (AreGivenUp gs (moved g w) → AreGivenUp [] (all_moved gs (moved g w)))
    later = rest (calm_goes hd l w (moved g w) goes calm) last

giveups_end : (hd : Header) (gs : List Move) (w : World) → IsInRun hd w → AllByRecursion IsGiveUp gs → AllEnd hd gs w
giveups_end hd [] w r all = λ calm last. (calm, λ given. given)
giveups_end hd (g ∷ gs) w r all = one_ends hd g gs w r all.0 (giveups_end hd gs (moved g w) (run_goes hd g w r) all.1)

-- where nobody waits all actions at work are idle
nobody_idle : (c : Coord) → ((u : Uid) (q : Doing) → doing_of u c ≡ Some q → is_waiting_now q.now ≡ true → ⊥) → AreIdle c
nobody_idle c none = each c.doings
    (λ i q at. by q.now refl (none (uid_at (suc i) c) q ((λ j. if own_itself j then at_place (suc i) c.doings else None) ∙ at)))
  where
    own_itself : ((c.tree.node == c.tree.node) && (c.tree.inc == c.tree.inc)) ≡ true
    own_itself = λ n. same_number c.tree.node n && same_number c.tree.inc n

    by : (n : Now) {m : Now} → m ≡ n → (is_waiting_now m ≡ true → ⊥) → m ≡ Idle
    by Idle is waits = is
    by (Calling s) is waits = absurd (waits (ap is_waiting_now is))
    by (Committing m) is waits = absurd (waits (ap is_waiting_now is))

    each : (ds : List Doing) → ((i : ℕ) (q : Doing) → slice_get ds i ≡ Some q → q.now ≡ Idle) →
        AllByRecursion (λ (d : Doing). d.now ≡ Idle) ds
    each [] all = tt
    each (d ∷ ds) all = (all 0 d refl, each ds (λ i q at. all (suc i) q at))

-- the giveups that a round has leave nobody waiting
pub nobody_waits : (w : World) → AreGivenUp [] w → NobodyWaits w
nobody_waits w none k c of at = nobody_idle c (λ u q found waits. let g = none k c u q of at found waits in nothing g.0 g.1)
  where
    nothing : (f : Move) → Contains {X = Move} [] f → ⊥
    nothing f there = in_from f [] there

-- who waits behind a quiesce is such a call, since a commit waits for somebody
answered_calm : (hd : Header) (w : World) → w.header ≡ hd → AreNamed w → lowest_from 1 w.frames ≡ None → WaitOvertaken w → IsCalm hd w
answered_calm hd w header named none waits = record {
  none = none;
  only = λ k c of found u q does is. ⊎_elim (λ s. (s.0, s.1, s.2.known, s.2.step)) (λ m. absurd (somebody k c u q m.0 found does m.1 m.2))
      (waits k c u q (subst (λ (x : Header). (nat_le 1 k && nat_le k x.nodes) ≡ true) (sym header) of) found does is);
}
  where
    somebody : (k : ℕ) (c : Coord) (u : Uid) (q : Doing) (m : Machine) → coord_in (at_place k w.nodes) ≡ Some c → doing_of u c ≡ Some q →
        q.now ≡ Committing m → left_of m ≡ [] → ⊥
    somebody k c u q m found does now left = by (at_place k w.nodes) refl found
      where
        up : (n : Node) → at_place k w.nodes ≡ Some n → (o : Option Parts) → n.live ≡ o → option_map coord_of o ≡ Some c → ⊥
        up n there None live is = absurd (cc is)
        up n there (Some t) live is =
            let same : t.coord ≡ c = some_is t.coord c is in
            let knows = named k n t there live in
            let no_way : true ≡ false = sym (ap is_empty left) ∙ knows.waits u q m (ap (doing_of u) same ∙ does) now in
            absurd (cc no_way)

        by : (o : Option Node) → at_place k w.nodes ≡ o → coord_in o ≡ Some c → ⊥
        by None none is = absurd (cc is)
        by (Some n) there is = up n there n.live refl is

-- for any relation that is kept
module _ (hd : Header) (R : Seen → Type 0) (keeps : KeepsAsked hd R) (answers : AnswersWaits hd (λ M. R M × IsGood M))
    (settles : SettlesAll hd (λ M. R M × IsGood M)) where
  abbrev P : Seen → Type 0
  P M = R M × IsGood M

  -- from this world on
  module _ (u : World) (gs : List Move) (m n : Move) (r : IsInRun hd u) (held : Holds hd P u) (few : Few u) where
    abbrev v : World
    v = moved m u

    abbrev w : World
    w = all_moved gs (moved m u)

    held_v : Holds hd P (moved m u)
    held_v = move_asked hd P (keeps_good hd R keeps) m u held

    few_v : Few (moved m u)
    few_v = all_few (m ∷ []) u few

    named : AreNamed (moved m u)
    named = holds_named hd (moved m u) (let z = run_goes hd m u r in z.named)

    module _ (is : m.asked.event ≡ event.Quiesce) (all : AllByRecursion IsGiveUp gs) (over : u.over ≡ false) (went : v.over ≡ false)
        (ups : AreUp v) (over_w : w.over ≡ false) where
      first : IsCalm hd (moved m u)
      first = answered_calm hd (moved m u) (run_header hd (moved m u) (run_goes hd m u r)) named (events_settle m.asked
          (record u { arms = m.falls }) (inr is) few over went) (move_answers hd R keeps answers m u held few is over went ups)

      ends : IsCalm hd (all_moved gs (moved m u)) × (AreGivenUp gs (moved m u) → AreGivenUp [] (all_moved gs (moved m u)))
      ends = giveups_end hd gs (moved m u) (run_goes hd m u r) all first over_w

      settles_on : n.asked.event ≡ event.Quiesce → NobodyWaits w → (moved n w).over ≡ false → AreUp (moved n w) → AreQuiet (moved n w)
      settles_on last nobody over_n ups_n = move_settles hd R keeps settles n w (moves_go_on hd P (keeps_good hd R keeps) gs (moved m u)
          held_v) (all_few gs (moved m u) few_v) ends.0.none nobody last over_w over_n ups_n

  pub round_settles : (run : Run hd) (gs : List Move) (m n : Move) → let u = world_by hd run in let v = moved m u in
      let w = all_moved gs v in
      m.asked.event ≡ event.Quiesce → AllByRecursion IsGiveUp gs → n.asked.event ≡ event.Quiesce
      → u.over ≡ false → v.over ≡ false → AreUp v → w.over ≡ false → AreGivenUp gs v ⊎ NobodyWaits w → (moved n w).over ≡ false →
      AreUp (moved n w) → AreQuiet (moved n w)
  round_settles run gs m n is all last over went ups over_w nobody over_n ups_n = settles_on u gs m n r held few is all over went ups over_w
      last (⊎_elim (λ given. nobody_waits (all_moved gs (moved m u)) (done.1 given)) (λ none. none) nobody) over_n ups_n
    where
      u : World
      u = world_by hd run

      r : IsInRun hd (world_by hd run)
      r = in_run hd run

      held : Holds hd P (world_by hd run)
      held = moves_asked hd P (keeps_good hd R keeps) run

      few : Few (world_by hd run)
      few = runs_few hd run

      done : IsCalm hd (all_moved gs (moved m (world_by hd run)))
          × (AreGivenUp gs (moved m (world_by hd run)) → AreGivenUp [] (all_moved gs (moved m (world_by hd run))))
      done = ends (world_by hd run) gs m n r held few is all over went ups over_w

pub rounds_settle : RoundsSettle
rounds_settle hd test keeps answers settles run gs m n is all last over went ups over_w nobody over_n ups_n =
    round_settles hd (λ M. test M ≡ true) keeps answers settles run gs m n is all last over went ups over_w nobody over_n ups_n
