-- Messages of a node to itself, one after another, and the rounds of a step.
use Rattle.std.proofs.Common.{◌≡◌, ◌∙◌, ℕ, zero, suc, List, [], ◌∷◌, ◌++◌, refl, sym, ap, subst}
use Rattle.std.proofs.lemmas.List.{append-nil, append_assoc}
use Rattle.arj_node.specs.Ran.{disk_after}
use Rattle.arj_node.proofs.Lists.{disk_behind, disk_outward, ran_is}
use Rattle.arj_protocol.specs.Effect.{Disk, Effect}
use Rattle.arj_protocol.specs.Node.{Handled, Void, Took, Here, Parts, Ran, ran, ran_handled, handle_all, next_round, rounds, taken}
use Rattle.arj_protocol.specs.Words.{Message}

-- what was run leaves the disk that its effects leave
abbrev pub LeavesDisk : Disk → Ran → Type 0
LeavesDisk d r = r.here.disk ≡ disk_after r.outs d

pub ran_leaves : (n : ℕ) (t : Parts) (es : List Effect) (d : Disk) → LeavesDisk d (ran n t es d)
ran_leaves n t es d = subst (LeavesDisk d) (sym (ran_is n t es d)) (sym (disk_outward n es d))

pub handled_leaves : (n : ℕ) (h : Here) (v : Handled) → LeavesDisk h.disk (ran_handled n h v)
handled_leaves n h (Void outs) = ran_leaves n h.parts outs h.disk
handled_leaves n h (Took t outs) = ran_leaves n t outs h.disk

-- what was run behind effects and messages that waited
abbrev pub behind : List Effect → List Message → Ran → Ran
behind es ms r = record { here = r.here; outs = es ++ r.outs; queue = ms ++ r.queue }

pub all_leaves : (n : ℕ) (ms : List Message) (h : Here) → LeavesDisk h.disk (handle_all n ms h)
all_leaves n [] h = refl
all_leaves n (m ∷ ms) h =
    by (ran_handled n h (taken n h.disk h.parts n m)) (handled_leaves n h (taken n h.disk h.parts n m)) (λ r. all_leaves n ms r.here)
  where
    by : (r : Ran) → LeavesDisk h.disk r → ((q : Ran) → LeavesDisk q.here.disk (handle_all n ms q.here)) →
        LeavesDisk h.disk (behind r.outs r.queue (handle_all n ms r.here))
    by r first rest =
        rest r ∙ (ap (disk_after (handle_all n ms r.here).outs) first ∙ sym (disk_behind r.outs (handle_all n ms r.here).outs h.disk))

-- one more message of those that are handled
pub turn : (n : ℕ) (m : Message) (ms : List Message) (h h0 : Here) (all : Ran) (outs : List Effect) (waits : List Message) →
    all ≡ behind outs waits (handle_all n (m ∷ ms) h)
    → all ≡ behind (outs ++ (ran_handled n h (taken n h.disk h.parts n m)).outs) (waits ++ (ran_handled n h (taken n h.disk h.parts n m)).queue) (handle_all n ms (ran_handled n h (taken n h.disk h.parts n m)).here)
turn n m ms h h0 all outs waits is = is ∙ by (ran_handled n h (taken n h.disk h.parts n m))
  where
    by : (r : Ran) →
        behind outs waits (behind r.outs r.queue (handle_all n ms r.here)) ≡ behind (outs ++ r.outs) (waits ++ r.queue) (handle_all n ms r.here)
    by r = λ i. record {
      here = (handle_all n ms r.here).here;
      outs = sym (append_assoc outs r.outs (handle_all n ms r.here).outs) i;
      queue = sym (append_assoc waits r.queue (handle_all n ms r.here).queue) i;
    }

pub no_turn : (n : ℕ) (h : Here) (all : Ran) (outs : List Effect) (waits : List Message) → all ≡ behind outs waits (handle_all n [] h) →
    all ≡ record { here = h; outs = outs; queue = waits }
no_turn n h all outs waits is = is ∙ (λ i. record { here = h; outs = append-nil outs i; queue = append-nil waits i })

-- ---- rounds

pub round_leaves : (n : ℕ) (d : Disk) (r : Ran) → LeavesDisk d r → LeavesDisk d (next_round n r)
round_leaves n d r first =
    all_leaves n r.queue r.here ∙ (ap (disk_after (handle_all n r.queue r.here).outs) first ∙ sym (disk_behind r.outs (handle_all n r.queue r.here).outs d))

-- the effects of what was run
abbrev run_outs : Ran → List Effect
run_outs r = r.outs

-- what was put out stays in front
pub rounds_front : (n k : ℕ) (r : Ran) → (more : List Effect) × ((rounds n k r).outs ≡ r.outs ++ more)
rounds_front n zero r = ([], sym (append-nil r.outs))
rounds_front n (suc k) r = by r.queue (rounds_front n k (next_round n r))
  where
    by : (queue : List Message) → (more : List Effect) × ((rounds n k (next_round n r)).outs ≡ (next_round n r).outs ++ more)
        → (more : List Effect) × (run_outs (elim queue [ [] ↦ r | m ∷ ms ↦ rounds n k (next_round n r) ]) ≡ r.outs ++ more)
    by [] more = ([], sym (append-nil r.outs))
    by (m ∷ ms) more =
        ((handle_all n r.queue r.here).outs ++ more.0, more.1 ∙ append_assoc r.outs (handle_all n r.queue r.here).outs more.0)

-- no message waits: the rounds are over
pub rounds_over : (n k : ℕ) (r : Ran) → r.queue ≡ [] → rounds n k r ≡ r
rounds_over n zero r none = refl
rounds_over n (suc k) r none = λ i. elim (none i) [ [] ↦ r | m ∷ ms ↦ rounds n k (next_round n r) ]

-- a message waits: there is one more round
pub rounds_more : (n k : ℕ) (r : Ran) (m : Message) (ms : List Message) → r.queue ≡ m ∷ ms →
    rounds n (suc k) r ≡ rounds n k (next_round n r)
rounds_more n k r m ms some = λ i. elim (some i) [ [] ↦ r | m ∷ ms ↦ rounds n k (next_round n r) ]
