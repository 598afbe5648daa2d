-- What a store gives to a call that waits, it may give by the lock machine, where that is the last committed state.
use Rattle.arj_law_parts.proofs.Words
use Words.{◌≡◌, ◌≤◌, ◌⊎◌, ◌∙◌, ℕ, true, List, cond, Some, sym, ap, subst, ⊎_elim, arith, Asked, ObjectState, Op, Uid, actor, top_of, AtLoad}
use Words.{Known, Run, Steps, Calling, Coord, Doing, doing_of, Parts, binding_number, Node, Branch, Seen}
use Rattle.arj_law_serial.proofs.Terms
use Terms.{IsAsking, IsBusy, root, Guard, State, Load, up, other_number, same_number, state_code, binding_at, IsLastFor, Case, IsSeenIn}
use Terms.{Spot, world_at, coord_at, Fixed, AwaitsLoad}
use Terms.state as machine
use Rattle.arj_law_lock.specs.machine.Actions.{Act, In, is_top}
use Rattle.arj_law_lock_view.proofs.running.WorkSteps.{here, placed, reached_S, waits_in, works_in}
use Rattle.arj_law_lock_view.proofs.view.CallingSteps.{holds, kp, stays_rebound, step_seen, tied_kept, top_unit}
use Rattle.arj_law_lock_view.specs.{facts.Works.KnowsWaits, running.Coordinating.IsWorking, view.Calling.IsReached, view.Calling.IsWaiting}
use Rattle.arj_law_lock_view.specs.{view.Roots.SeesCoord, view.Roots.SeesStep}

-- ---- a node as it is

apart : (j m : ℕ) → (j ≡ m) ⊎ (j ≡ m → ⊥)
apart j m = grind arith

-- the world in which a node is put as it is
pub as_it_is : (j : ℕ) (n : Node) (t : Parts) (M : Seen) → M.nodes j ≡ Some n → n.number ≡ j → n.live ≡ Some t → up j n.disk t M ≡ M
as_it_is j n t M there number live = λ i. record M { nodes = λ m. each m i }
  where
    its_node : record { number = j; disk = n.disk; live = Some t } ≡ n
    its_node = λ i. record { number = sym number i; disk = n.disk; live = sym live i }

    each : (m : ℕ) → (let W = up j n.disk t M in W.nodes m) ≡ M.nodes m
    each m = ⊎_elim
        (λ (same : m ≡ j). subst (λ (q : ℕ). (let W = up j n.disk t M in W.nodes q) ≡ M.nodes q) (sym same) ((λ i. cond (same_number j i)
        (Some (record { number = j; disk = n.disk; live = Some t })) (M.nodes j)) ∙ ap Some its_node ∙ sym there))
        (λ (other : m ≡ j → ⊥). λ i.
        cond (other_number m j other i) (Some (record { number = j; disk = n.disk; live = Some t })) (M.nodes m))
        (apart m j)

-- ---- the guard

module _ (c : Case) (s : Spot) (is_seen : IsSeenIn c (world_at s)) (waits : KnowsWaits (coord_at s)) (u : Uid) (d : Doing)
    (found : doing_of u (coord_at s) ≡ Some d) (w : Steps) (is : d.now ≡ Calling w) (about : w.x ≡ c.x) (o : Op) (goal : w.goal ≡ Run o)
    (k : Known) (n : ℕ) (rest : List ℕ) (at : w.at ≡ AtLoad k n rest) where
  abbrev f : Fixed
  f = c.fixed

  abbrev S : State
  S = c.state

  abbrev C : Coord
  C = coord_at s

  asking : IsAsking C.tree u w.path
  asking = subst (IsBusy C.tree u) is (let p = placed c s is_seen in let q = p.good in q.busy u d found)

  abbrev b : Branch
  b = asking.branch

  waiting : IsWaiting b d w
  waiting = waits_in c s is_seen u b asking.found waits d w found is

  who : actor w.path ≡ u
  who = ap actor waiting.path
      ∙ (let z = works_in c s is_seen u b asking.found waits d w found is in z.steady.good.tree.lists.places u b asking.found)

  work : IsWorking c s (actor w.path) b d
  work = subst (λ (v : Uid). IsWorking c s v b d) (sym who) (works_in c s is_seen u b asking.found waits d w found is)

  sees : SeesCoord f.act f.code w.x C S
  sees = subst (λ (y : ℕ). SeesCoord f.act f.code y C S) (sym about) (let h = here c s is_seen in let z = h.coord in z.coord)

  abbrev r : IsReached S
  r = reached_S c s is_seen

  stands : SeesStep f.act f.code w o (kp f.act f.code f.paths C b d w o S r work is goal waiting.path waiting.last sees) S (AtLoad k n rest)
  stands = subst (SeesStep f.act f.code w o (kp f.act f.code f.paths C b d w o S r work is goal waiting.path waiting.last sees) S)
      at (step_seen f.act f.code f.paths C b d w o S r work is goal waiting.path waiting.last sees)

  abbrev bn : ℕ
  bn = binding_number k.binding

  -- the binding was made for the call's top
  pub maker_made : (is_top (f.act (top_of w.path)) ≡ true) × ((let v = binding_at S k.binding in v.maker) ≡ f.act (top_of w.path))
  maker_made = let m = (holds f.act f.code f.paths C b d w o S r work is goal waiting.path waiting.last sees).mail
      (machine.Made (f.act (top_of w.path)) bn) stands.1.0 in (m.0, m.1)

  maker_is : (let v = binding_at S k.binding in v.maker) ≡ f.act (top_of w.path)
  maker_is = maker_made.1

  pub load_guard : (st : ObjectState) → IsLastFor c k st → Guard (Load bn (state_code f.act f.code st)) S
  load_guard st last = (
    subst (λ (v : Act). In (machine.Made v bn) S.net) (sym maker_is) stands.1.0,
    (let e : S.kept (root (f.act (actor w.path))) ≡ bn = tied_kept f.act f.code f.paths C b d w o S r work is goal waiting.path waiting.last
        sees (let z = kp f.act f.code f.paths C b d w o S r work is goal waiting.path waiting.last sees in
        z.kept) S (stays_rebound f.act f.code f.paths C b d w o S r work is goal waiting.path waiting.last sees).keeping k stands.0 in
        let g : root (let v = binding_at S k.binding in v.maker) ≡ root (f.act (actor w.path)) = ap root maker_is
        ∙ top_unit f.act f.code f.paths C b d w o S r work is goal waiting.path waiting.last sees in
        subst (λ (v : ℕ). bn ≤ S.kept v) (sym g) (omega (arith, e))),
    last,
  )

-- so it is at each node: for whose top the binding was made
pub maker_there : (c : Case) (M : Seen) (seen : IsSeenIn c M) (a : Asked) (j s : ℕ) (k : Known) (w : AwaitsLoad c.x M a j s k) →
    KnowsWaits (let p = w.parts in p.coord)
    → let t = (let g = c.fixed in g.act (top_of (let q = w.steps in q.path))) in
    (is_top t ≡ true) × ((let v = binding_at c.state k.binding in v.maker) ≡ t)
maker_there c M seen a j s k w waits =
    let n = w.node in
    let spot : Spot = record { node = j; disk = n.disk; parts = w.parts; seen = M } in
    maker_made c spot (subst (IsSeenIn c) (sym (as_it_is j n w.parts M w.here w.number w.live)) seen) waits a.act w.doing w.found w.steps
    w.now w.about w.op w.goal k s w.rest w.waits

-- and the guard
pub guard_there : (c : Case) (M : Seen) (seen : IsSeenIn c M) (a : Asked) (j s : ℕ) (k : Known) (st : ObjectState)
    (w : AwaitsLoad c.x M a j s k) → KnowsWaits (let p = w.parts in p.coord) → IsLastFor c k st →
    Guard (Load (binding_number k.binding) (state_code (let f = c.fixed in f.act) (let f = c.fixed in f.code) st)) c.state
guard_there c M seen a j s k st w waits last =
    let n = w.node in
    let spot : Spot = record { node = j; disk = n.disk; parts = w.parts; seen = M } in
    load_guard c spot (subst (IsSeenIn c) (sym (as_it_is j n w.parts M w.here w.number w.live)) seen) waits a.act w.doing w.found w.steps
    w.now w.about w.op w.goal k s w.rest w.waits st last
