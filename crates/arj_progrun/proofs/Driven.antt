-- A schedule that is given, turn by turn.
use Rattle.std.proofs.Common.{◌≡◌, ◌∙◌, ◌≤◌, ◌+◌, inl, ℕ, List, [], ◌∷◌, ◌++◌, Result, OnOk, refl, ap, sym, subst, true, false, Option}
use Rattle.std.proofs.Common.{Some, None, append-nil, length, arith}
use Rattle.std.proofs.Math.Numerals.{add-one}
use Rattle.std.proofs.lemmas.Grind.{flat_map-append}
use Rattle.std.proofs.lemmas.List.{length-append, map-append}
use Rattle.std.proofs.lemmas.Result.{on_ok_weaker}
use Rattle.arj_journal.specs.declared.body.Line.{Line}
use Rattle.arj_journal.specs.declared.body.Which.{Which}
use Rattle.arj_journal.specs.declared.event.Event.{Event}
use Rattle.arj_journal.specs.declared.event.Event.TheVariants as event
use Rattle.arj_prog.specs.declared.plan.Plan.{Plan}
use Rattle.arj_progrun.specs.Driving.{Drives, EndsAt, IsDriven, IsEnded, Moment, Stands, StandsOn, StopsAt}
use Rattle.arj_progrun.specs.Events.{ask_of}
use Rattle.arj_progrun.specs.Schedule.{Given, Gives, Standing, Turning, Turns, are_over, first_standing, lines_heard, report_of, turn_at}
use Rattle.arj_progrun.specs.Stepped.{AreNumbered, HasStepped, Stepped, Stepping, are_of, written}
use Rattle.arj_progrun.specs.declared.nodes.Nodes as nodes
use Rattle.arj_progrun.specs.declared.report.ReportLine.{ReportLine}

-- the nodes of a plan
abbrev pub nodes_of : Plan → ℕ
nodes_of plan = let h = plan.header in h.nodes

-- nothing is asked in the turn
abbrev pub quiet : Standing → Turning
quiet now = record { ask = None; by = None; now = now }

-- the turn asks for what was given
abbrev pub gave : Given → Option ℕ → Standing → Turning
gave g by now = record { ask = Some (ask_of g.event); by = by; now = now }

pub begins : (plan : Plan) (now : Stepping) (standing : Standing) → HasStepped [] now → standing ≡ first_standing plan →
    IsDriven plan 0 now standing
begins plan now standing fresh is =
    record { trace = []; took = (refl, is); stepped = fresh; few = let e : length {A = Given} [] ≤ 0 = omega arith in e }

-- numbered from this number on, with one event more
numbered_more : (n : ℕ) (trace : List Given) (g : Given) → AreNumbered n trace → are_of (n + length trace) g.lines ≡ true →
    AreNumbered n (trace ++ g ∷ [])
numbered_more n [] g all one = (subst (λ k. are_of k g.lines ≡ true) (let e : n + length {A = Given} [] ≡ n = omega arith in e) one, tt)
numbered_more n (h ∷ trace) g all one = (
  all.0,
  numbered_more (n + 1) trace g all.1
      (subst (λ k. are_of k g.lines ≡ true) (let e : n + length (h ∷ trace) ≡ n + 1 + length trace = omega arith in e) one),
)

-- one event more
pub stepped_more : (trace : List Given) (g : Given) (old new : Stepping) → HasStepped trace old → Stepped g old new →
    are_of new.steps g.lines ≡ true → HasStepped (trace ++ g ∷ []) new
stepped_more trace g old new h n are = record {
  events = n.events ∙ ap (λ es. es ++ g.event ∷ []) h.events ∙ sym (map-append (λ x. x.event) trace (g ∷ []));
  journal = n.journal ∙ (λ i. h.journal i ++ sym (append-nil g.lines) i) ∙ sym (flat_map-append (λ x. x.lines) trace (g ∷ []));
  steps = omega (arith, n.steps, h.steps, length-append trace (g ∷ []));
  numbered = numbered_more 1 trace g h.numbered
      (subst (λ k. are_of k g.lines ≡ true) (let e : new.steps ≡ 1 + length trace = omega (arith, n.steps, h.steps) in e) are);
}

-- one turn more
took_more : (plan : Plan) (t : ℕ) (front trace : List Given) (before now : Standing) (turn : Turning) → Turns plan t front before →
    are_over before ≡ false → turn ≡ turn_at (nodes_of plan) t before → Gives turn front trace now → Turns plan (t + 1) trace now
took_more plan t front trace before now turn took going is gives =
    subst (λ n. Turns plan n trace now) (sym (add-one t))
    (before, front, took, going, subst (λ u. Gives u front trace now) is gives)

-- a turn in which nothing is given
pub nothing_given : (plan : Plan) (t : ℕ) (now : Stepping) (was is : Standing) → are_over was ≡ false → IsDriven plan t now was →
    quiet is ≡ turn_at (nodes_of plan) t was → IsDriven plan (t + 1) now is
nothing_given plan t now was is going d turn = record {
  trace = d.trace;
  took = took_more plan t d.trace d.trace was is (quiet is) d.took going turn (refl, refl);
  stepped = d.stepped;
  few = omega (arith, d.few);
}

-- a turn in which an event is given
pub event_given : (plan : Plan) (t : ℕ) (g : Given) (by : Option ℕ) (old new : Stepping) (was mid : Standing) →
    are_over was ≡ false → IsDriven plan t old was → gave g by mid ≡ turn_at (nodes_of plan) t was → Stepped g old new →
    are_of new.steps g.lines ≡ true → IsDriven plan (t + 1) new (lines_heard by g.lines mid)
event_given plan t g by old new was mid going d turn n are = record {
  trace = d.trace ++ g ∷ [];
  took = took_more plan t d.trace (d.trace ++ g ∷ []) was (lines_heard by g.lines mid) (gave g by mid) d.took going turn
      (g, refl, refl, refl);
  stepped = stepped_more d.trace g old new d.stepped n are;
  few = omega (arith, d.few, length-append d.trace (g ∷ []));
}

-- a turn whose event was stepped
pub turn_stepped : {T E : Type 0} (r : Result T E) (t : ℕ) (e : Event) (by : Option ℕ) (old new : Stepping)
    (was mid now : Standing) (nodes : ℕ) →
    gave (written e []) by mid ≡ turn_at nodes t was →
    OnOk r ((lines : List Line) × Stepped (written e lines) old new × (are_of new.steps lines ≡ true) × (now ≡ lines_heard by lines mid)) →
    OnOk r ((plan : Plan) → nodes_of plan ≡ nodes → are_over was ≡ false → IsDriven plan t old was → IsDriven plan (t + 1) new now)
turn_stepped r t e by old new was mid now nodes turn stepped =
    on_ok_weaker r
    (λ (h : (lines : List Line) × Stepped (written e lines) old new × (are_of new.steps lines ≡ true) × (now ≡ lines_heard by lines mid)) plan is going d.
    subst (λ n. IsDriven plan (t + 1) new n) (sym h.3)
    (event_given plan t (written e h.0) by old new was mid going d (turn ∙ ap (λ n. turn_at n t was) (sym is)) h.1 h.2))
    stepped

-- the turn of so many nodes is that of the plan's
pub same_turn : (plan : Plan) (nodes t : ℕ) (was : Standing) (u : Turning) → nodes_of plan ≡ nodes → u ≡ turn_at nodes t was →
    u ≡ turn_at (nodes_of plan) t was
same_turn plan nodes t was u same is = is ∙ ap (λ n. turn_at n t was) (sym same)

-- the quiesce behind the last turn
pub quiesced : (plan : Plan) (lines : List Line) (old new : Stepping) (before : Standing) (told : List ReportLine) →
    IsEnded plan old before → Stepped (written event.Quiesce lines) old new → are_of new.steps lines ≡ true → told ≡ report_of (lines_heard None lines before) →
    Drives plan new told
quiesced plan lines old new before told ended n are is =
    let d = ended.driven in
    record {
      trace = d.trace ++ written event.Quiesce lines ∷ [];
      end = lines_heard None lines before;
      schedule = record {
        turns = ended.turns;
        front = d.trace;
        before = before;
        took = d.took;
        few = ended.ends;
        lines = lines;
        whole = refl;
        heard = refl;
      };
      stepped = stepped_more d.trace (written event.Quiesce lines) old new d.stepped n are;
      is_told = is;
    }

-- ---- runs that stand on

module _ {N R : Type 0} (n : nodes.Ghosts N R) where
  pub standing_still : (now : Moment N R) → StandsOn n now now
  standing_still now first header h = h

  pub standing_on : (old mid new : Moment N R) → StandsOn n old mid → StandsOn n mid new → StandsOn n old new
  standing_on old mid new f g first header h = g first header (f first header h)

  pub some_stands : (old new : Moment N R) → Stands n old → StandsOn n old new → Stands n new
  some_stands old new h f = (h.0, h.1, f h.0 h.1 h.2)

  pub ends_behind : (which : Which) (old mid new : Moment N R) → StandsOn n old mid → EndsAt n which mid new → EndsAt n which old new
  ends_behind which old mid new f e = (e.0, λ first header h. e.1 first header (f first header h))

  pub stops_behind : (old mid new : Moment N R) → StandsOn n old mid → StopsAt n mid new → StopsAt n old new
  stops_behind old mid new f s first header h = s first header (f first header h)

  pub stops_here : (old new : Moment N R) → StandsOn n old new → StopsAt n old new
  stops_here old new f first header h = inl (f first header h)
