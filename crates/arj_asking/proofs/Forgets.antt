-- The protocol's steps after what an action waited for was taken out.
use Rattle.std.proofs.Common.{◌≡◌, ℕ, ◌+◌, List, [], ◌++◌, ap, subst}
use Rattle.std.specs.List.{flat_map}
use Rattle.arj_asking.specs.Hearing.{IsOf}
use Rattle.arj_asking.proofs.Changes.{ended_idle, idle_again, says_idle, waits_again}
use Rattle.arj_coord.specs.Waiting.{idle_doing}
use Rattle.arj_protocol.specs.Ask.{actor}
use Rattle.arj_protocol.specs.Asking.{asks_machine, asks_step, doomed_by, end_line, gaveup_lines, moved_commit, root_heard, step_call}
use Rattle.arj_protocol.specs.Asking.{step_commit}
use Rattle.arj_protocol.specs.Call.{Steps, CallStep, On, Ended}
use Rattle.arj_protocol.specs.Commit.{Plan, Marked, CommitStep, Stays, Asks, Decides, Aborts, participants, plan_of}
use Rattle.arj_protocol.specs.Coord.{Coord, Doing, Calling, Committing, on_doing, on_root}
use Rattle.arj_protocol.specs.Effect.{Intent}
use Rattle.arj_protocol.specs.Ending.{awaits, decide, decided_told, record_work, root_after, tolds_of}
use Rattle.arj_protocol.specs.Tree.{root_of}
use Rattle.arj_protocol.specs.Words.{Uid}
use Rattle.arj_protocol.specs.Words.body
use Rattle.arj_protocol.specs.Words.ending
use Rattle.std.specs.Prelude.{map}

pub forgets_call : (s : Steps) (next : CallStep) (c : Coord) → step_call s next (on_doing (actor s.path) idle_doing c) ≡ step_call s next c
forgets_call s (On at) c =
    let t : Steps = record s { req = s.req + 1; at = at } in ap (asks_step t) (waits_again (actor s.path) (s.req + 1) (Calling t) c)
forgets_call s (Ended e) c =
    let u : Uid = actor s.path in
    λ i. record {
      part = doomed_by u e (on_root (root_of s.path) (root_heard s e) (idle_again u c i));
      outs = says_idle u (end_line s.x s.goal e) c i;
    }

forgets_decide : (p : Plan) (c : Coord) → decide p (on_doing (actor p.path) idle_doing c) ≡ decide p c
forgets_decide p c =
    let u : Uid = actor p.path in
    λ i. record {
      part = awaits u p (on_root (root_of p.path) (root_after p) (on_doing u (λ (d : Doing). record d {
        took =
            participants p;
      }) (ended_idle u ending.Commit c i)));
      outs = record_work u p ++ says_idle u body.Committed c i ++ map (decided_told (root_of p.path) u p) p.sent;
    }

forgets_step : (u : Uid) (step : CommitStep) (intents : List (Uid × Intent)) (c : Coord) → IsOf u step
    → step_commit u step intents (on_doing u idle_doing c) ≡ step_commit u step intents c
forgets_step u (Stays m) intents c own = λ i. record { part = waits_again u (plan_of m).req (Committing m) c i; outs = [] }
forgets_step u (Asks m) intents c own = ap (asks_machine m) (waits_again u (plan_of m).req (Committing m) c)
forgets_step u (Decides p) intents c own = subst (λ (v : Uid). decide p (on_doing v idle_doing c) ≡ decide p c) own (forgets_decide p c)
forgets_step u (Aborts why p) intents c own =
    λ i. record {
      part = ended_idle u ending.Abort c i;
      outs = says_idle u (λ l. body.Aborted l why) c i ++ tolds_of intents (ended_idle u ending.Abort c i) u;
    }

pub forgets_commit : (u : Uid) (m : Marked) (intents : List (Uid × Intent)) (c : Coord) → IsOf u m.step
    → moved_commit u m intents (on_doing u idle_doing c) ≡ moved_commit u m intents c
forgets_commit u m intents c own =
    let step = forgets_step u m.step intents c own in
    λ i. record {
      part = (step i).part;
      outs = flat_map (λ (k : ℕ × ℕ). says_idle u (λ l. body.Excluded l k.0 k.1) c i) m.marks ++ (step i).outs;
    }

pub forgets_lines : (u : Uid) (nodes : List ℕ) (c : Coord) → gaveup_lines u nodes (on_doing u idle_doing c) ≡ gaveup_lines u nodes c
forgets_lines u nodes c = λ i. flat_map (λ (n : ℕ). says_idle u (λ l. body.GaveUp l n) c i) nodes
