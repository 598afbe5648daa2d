-- Runs of the machine, one after another.
use Rattle.arj_law_parts.proofs.Words.{◌∙◌, ℕ, ap}
use Rattle.arj_law_lock_view.proofs.Terms.{State, go_on, OnlyServer, Goes, Run}

-- what holds where it goes gives more
pub goes_to : {S : State} {P Q : State → Type 0} → Goes S P → ((T : State) → P T → Q T) → Goes S Q
goes_to g more = record { state = g.state; run = g.run; holds = more g.state g.holds }

-- it goes on
pub goes_then : {S : State} {P Q : State → Type 0} → Goes S P → ((T : State) → P T → Goes T Q) → Goes S Q
goes_then g more = let h = more g.state g.holds in record { state = h.state; run = go_on g.run h.run; holds = h.holds }

-- and what comes then may know of the run
pub goes_along : {S : State} {P Q : State → Type 0} → Goes S P → ((T : State) → Run S T → P T → Goes T Q) → Goes S Q
goes_along g more = let h = more g.state g.run g.holds in record { state = h.state; run = go_on g.run h.run; holds = h.holds }

-- a server changes twice
pub only_both : {n : ℕ} {S T V : State} → OnlyServer n S T → OnlyServer n T V → OnlyServer n S V
only_both {n} {S} {T} {V} a b = record {
  rest = b.rest ∙ ap (λ (s : State). record s { server = V.server; net = V.net }) a.rest;
  others = λ k other. b.others k other ∙ a.others k other;
  sent = λ m i. b.sent m (a.sent m i);
}
