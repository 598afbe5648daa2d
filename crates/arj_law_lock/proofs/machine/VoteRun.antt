-- Each run keeps what votes give.
use Rattle.arj_law_lock.proofs.Terms
use Terms.{◌≡◌, ◌≤◌, ℕ, true, false, inl, inr, sym, ◌∙◌, ap, arith, Act, root, top, is_top, In, Call, State, Alive, start, Run, stay, step}
use Rattle.arj_law_lock.proofs.machine
use machine.{Claims.Holds, Order.step_keeps, Paths.top_root, ValueClaims.Values, ValueRun.step_values, VoteLasts.HasVoted, VoteLasts.Votes}
use machine.{VoteSteps.step_votes}
use Rattle.arj_law_lock.specs.machine.Laws.{VotesAreRight}

pub start_votes : (x : ℕ) → Votes (start x)
start_votes x = record {
  tops = λ m is.
      record { asked = λ e. (let never : false ≡ true = e in absurd (cc)); right = λ c k. absurd k.call; under = λ c k. absurd k.call };
  mail = λ m q i. absurd i;
}

-- a run keeps all three: order, values and votes
pub run_all_votes : {s t : State} → Run s t → Holds s → Values s → Votes s → Holds t × Values t × Votes t
run_all_votes stay h v o = (h, v, o)
run_all_votes {s} (step e guard more') h v o =
    let k = step_keeps e s guard h in
    let w = step_values e s guard h v k.0 in
    run_all_votes more' k.1 w (step_votes e s guard h v k.0 k.1 w o)

pub run_votes : {s t : State} → Run s t → Holds s → Values s → Votes s → Holds t × Votes t
run_votes run h v o = let k = run_all_votes run h v o in (k.0, k.2)

pub votes_are_right : {s : State} → Holds s → Votes s → VotesAreRight s
votes_are_right {s} h o = record {
  value = λ m c is two three i write e alive. (o.tops m is).right c (voted m c is two three i write e alive);
  under = λ m c is two i write e alive.
      (o.tops m is).under c (voted m c is (omega (arith, two)) (omega (arith, two)) i write e alive) (omega (arith, two));
}
  where
    voted : (m : Act) (c : Call) → is_top m ≡ true → 2 ≤ (s.action m).stage → (s.action m).stage ≤ 3 → In c s.calls → c.write ≡ true →
        top c.act ≡ m → Alive s c.act → HasVoted s m c
    voted m c is two three i write e alive =
        let p = (h.tops m is).called two three c i alive (sym (top_root c.act) ∙ ap root e, inl e) in
        record { called = omega (arith, two); alive = three; call = i; write = write; stands = (e, alive); yes = p.0; present = inr p.1 }
