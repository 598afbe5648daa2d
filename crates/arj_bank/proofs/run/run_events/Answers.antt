-- event after event
use Rattle.std.proofs.Common.{rules, Err, ◌≡◌, ◌∙◌, ◌+◌, ◌∷◌, ap, arith, length, refl, sym, subst}
use Rattle.std.specs.Vec.Iter.{into_iter_items, into_iter_len, into_iter_steps}
use Rattle.arj_bank.specs.Underway.{Underway, moment}
use Rattle.arj_bank.specs.declared.stop.Stop.TheVariants.{Limit, Memory}
use Rattle.arj_world.proofs.Disks.{same_fault}
use Rattle.arj_bank.proofs.Running.{all_counted, first_moment, none_left, ran_whole}
use Rattle.arj_bank.proofs.run.run_events.Goals as goal

pub loop-event-init : goal.loop-event-init
loop-event-init g c =
    let old = moment c.args.rack.now c.args.machine.now c.args.journal.now in
    let whole : into_iter_items c.into_iter-event-iterator.result ≡ c.args.events = search rules in
    record {
      way = subst (λ rest. Underway g.M.Machine c.args.events rest old old) (sym whole) (first_moment g.M.Machine c.args.events old c.requires.form c.requires.first c.requires.going);
      left = search rules;
    }

pub run_one-requires : goal.run_one-requires
run_one-requires g c =
    let old = moment c.args.rack.now c.args.machine.now c.args.journal.now in
    let now = moment c.loop-event.rack c.loop-event.machine c.loop-event.journal in
    let step : (into_iter_items c.loop-event.event-iterator ≡ c.in-Some.event ∷ into_iter_items c.next.new.self) × (into_iter_len c.next.new.self + 1 ≡ into_iter_len c.loop-event.event-iterator) =
    subst (λ r. into_iter_steps c.loop-event.event-iterator r c.next.new.self) c.in-Some.is c.next.ensures.steps in
    (c.args.events, into_iter_items c.next.new.self, old, subst (λ es. Underway g.M.Machine c.args.events es old now) step.0 c.loop-event.invariant.way, c.requires.room, c.requires.ran)

pub loop-event-preserved : goal.loop-event-preserved
loop-event-preserved g c =
    let old = moment c.args.rack.now c.args.machine.now c.args.journal.now in
    let now = moment c.loop-event.rack c.loop-event.machine c.loop-event.journal in
    let step : (into_iter_items c.loop-event.event-iterator ≡ c.in-Some.event ∷ into_iter_items c.next.new.self) × (into_iter_len c.next.new.self + 1 ≡ into_iter_len c.loop-event.event-iterator) =
    subst (λ r. into_iter_steps c.loop-event.event-iterator r c.next.new.self) c.in-Some.is c.next.ensures.steps in
    record {
      way = c.in-Ok.ensures.next c.args.events (into_iter_items c.next.new.self) old (subst (λ es. Underway g.M.Machine c.args.events es old now) step.0 c.loop-event.invariant.way);
      left = let more = ap length step.0 in omega (arith, more, step.1, c.loop-event.invariant.left);
    }

pub returns-in-Err-clause-limit : goal.returns-in-Err-clause-limit
returns-in-Err-clause-limit g c is =
    let old = moment c.args.rack.now c.args.machine.now c.args.journal.now in
    let now = moment c.loop-event.rack c.loop-event.machine c.loop-event.journal in
    let step : (into_iter_items c.loop-event.event-iterator ≡ c.in-Some.event ∷ into_iter_items c.next.new.self) × (into_iter_len c.next.new.self + 1 ≡ into_iter_len c.loop-event.event-iterator) =
    subst (λ r. into_iter_steps c.loop-event.event-iterator r c.next.new.self) c.in-Some.is c.next.ensures.steps in
    c.in-Err.ensures.limit (ap Err (same_fault (Err c.in-Err.stop) c.in-Err.stop Limit refl is)) c.args.events (into_iter_items c.next.new.self) old (subst (λ es. Underway g.M.Machine c.args.events es old now) step.0 c.loop-event.invariant.way)

pub returns-in-Err-clause-memory : goal.returns-in-Err-clause-memory
returns-in-Err-clause-memory g c is =
    let old = moment c.args.rack.now c.args.machine.now c.args.journal.now in
    let now = moment c.loop-event.rack c.loop-event.machine c.loop-event.journal in
    let step : (into_iter_items c.loop-event.event-iterator ≡ c.in-Some.event ∷ into_iter_items c.next.new.self) × (into_iter_len c.next.new.self + 1 ≡ into_iter_len c.loop-event.event-iterator) =
    subst (λ r. into_iter_steps c.loop-event.event-iterator r c.next.new.self) c.in-Some.is c.next.ensures.steps in
    c.in-Err.ensures.memory (ap Err (same_fault (Err c.in-Err.stop) c.in-Err.stop Memory refl is)) c.args.events (into_iter_items c.next.new.self) old (subst (λ es. Underway g.M.Machine c.args.events es old now) step.0 c.loop-event.invariant.way)

pub returns-clause-ran : goal.returns-clause-ran
returns-clause-ran g c first header ran =
    let old = moment c.args.rack.now c.args.machine.now c.args.journal.now in
    let now = moment c.loop-event.rack c.loop-event.machine c.loop-event.journal in
    let none = none_left (into_iter_items c.loop-event.event-iterator) (c.loop-event.invariant.left ∙ c.in-None.ensures.steps.0) in
    ran_whole g.M.Machine c.args.events old now (subst (λ es. Underway g.M.Machine c.args.events es old now) none c.loop-event.invariant.way) first header ran

pub returns-clause-count : goal.returns-clause-count
returns-clause-count g c =
    let old = moment c.args.rack.now c.args.machine.now c.args.journal.now in
    let now = moment c.loop-event.rack c.loop-event.machine c.loop-event.journal in
    let none = none_left (into_iter_items c.loop-event.event-iterator) (c.loop-event.invariant.left ∙ c.in-None.ensures.steps.0) in
    c.stepped.ensures ∙ all_counted g.M.Machine c.args.events old now (subst (λ es. Underway g.M.Machine c.args.events es old now) none c.loop-event.invariant.way)
