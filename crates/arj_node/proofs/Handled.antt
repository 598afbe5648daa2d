-- What parts hand back, put out, is what the protocol's node runs.
use Rattle.std.proofs.Common.{◌≡◌, ◌∙◌, ◌==◌, ℕ, suc, Bool, true, false, List, [], ◌∷◌, ◌++◌, length, refl, sym, ap, subst}
use Rattle.std.proofs.lemmas.Bool.{eqb-true}
use Rattle.std.proofs.lemmas.List.{append-nil, append_assoc, nil_from_length}
use Rattle.std.specs.Global.{Box}
use Rattle.std.specs.Prelude.{Result, Ok, Err, IsErrAnd}
use Rattle.arj_core.specs.declared.output.Output.{Output}
use Rattle.arj_core.specs.Steps.{PutsOut}
use Rattle.arj_node.specs.Goes.{Goes, GoesOn}
use Rattle.arj_node.specs.Handing.{IsTaken, Takes, Leaves, outs_of}
use Rattle.arj_node.specs.Outgoing.{IsHalted, effects_of, loud, messages_of}
use Rattle.arj_node.specs.Ran.{IsCut, IsStoppedAt, disk_after, inward, outward}
use Rattle.arj_node.specs.declared.outgoing.Outgoing.{Outgoing}
use Rattle.arj_node.specs.declared.outgoing.Outgoing.TheVariants as of
use Rattle.arj_node.proofs.Lists.{disk_behind, inward_loud, puts_loud, puts_more, puts_none, ran_is, ran_so, stopped_first, stopped_outward}
use Rattle.arj_node.proofs.Lists.{stopped_second}
use Rattle.arj_node.proofs.Turns.{behind, handled_leaves, no_turn, ran_leaves, round_leaves, rounds_front, rounds_more, rounds_over, turn}
use Rattle.arj_protocol.specs.Effect.{Disk, Effect, Say, Send}
use Rattle.arj_protocol.specs.Node.{Handled, Void, Took, Here, Parts, Ran, ran, ran_handled, handle_all, next_round, rounds, taken, whole}
use Rattle.arj_protocol.specs.Words.{Message}

module _ (n : ℕ) (on : Here → Type 0) where
  -- effects that were done and are put out were run
  pub goes_so : (t : Parts) (es : List Effect) (d : Disk) (outs : List Outgoing) (a b : List Output) (q0 q1 : List Message) →
      on (record { disk = disk_after es d; parts = t }) → effects_of outs ≡ loud es
      → PutsOut (outward n (effects_of outs)) a b → q1 ≡ q0 ++ inward n (effects_of outs) → GoesOn on (ran n t es d) a b q0 q1
  goes_so t es d outs a b q0 q1 stands are puts queue = subst (λ r. GoesOn on r a b q0 q1) (sym (ran_is n t es d)) there
    where
      there : GoesOn on (ran_so n t es d) a b q0 q1
      there = record {
        goes = record { stands = stands; puts = puts_loud n es a b (subst (λ xs. PutsOut (outward n xs) a b) are puts) };
        queue = queue ∙ ap (λ ms. q0 ++ ms) (ap (inward n) are ∙ sym (inward_loud n es));
      }

  pub goes_taken : (h : Here) (v : Handled) (before outs : List Outgoing) (took : Bool) (a b : List Output) (q0 q1 : List Message) →
      before ≡ [] → IsTaken on h v before outs took
      → PutsOut (outward n (effects_of outs)) a b → q1 ≡ q0 ++ inward n (effects_of outs) → GoesOn on (ran_handled n h v) a b q0 q1
  goes_taken h v before outs true a b q0 q1 none takes puts queue =
      let t : Takes on h v before outs = takes in
      subst (λ w. GoesOn on (ran_handled n h w) a b q0 q1) (sym t.is)
      (goes_so t.parts t.effects h.disk outs a b q0 q1 t.does.stands (t.does.tells ∙ ap (λ os. effects_of os ++ loud t.effects) none) puts queue)
  goes_taken h v before outs false a b q0 q1 none leaves puts queue =
      let l : Leaves on h v before outs = leaves in
      subst (λ w. GoesOn on (ran_handled n h w) a b q0 q1) (sym l.is)
      (goes_so h.parts l.looks h.disk outs a b q0 q1 (subst (λ d. on (record {
        disk = d;
        parts =
            h.parts;
      })) (sym l.same) l.stands) (ap effects_of (l.outs ∙ none) ∙ sym l.quiet) puts queue)

-- effects that a stop cut are put out
module _ (n : ℕ) (left : Disk → Type 0) where
  run_outs : (h : Here) (v : Handled) → outward n (outs_of v) ≡ (ran_handled n h v).outs
  run_outs h (Void outs) = sym (ap (λ (r : Ran). r.outs) (ran_is n h.parts outs h.disk))
  run_outs h (Took t outs) = sym (ap (λ (r : Ran). r.outs) (ran_is n t outs h.disk))

  pub halted_so : (es : List Effect) (d : Disk) (before outs : List Outgoing) (a b : List Output) → before ≡ [] →
      IsHalted left es d before outs → PutsOut (outward n (effects_of outs)) a b → IsCut left (outward n es) d a b
  halted_so es d before outs a b none halted puts = record {
    front = outward n halted.front;
    stop = stopped_outward left n es d halted.front halted.stop;
    puts = puts_loud n halted.front a b (subst (λ xs. PutsOut (outward n xs) a b) (halted.tells ∙ ap (λ os. effects_of os ++ loud halted.front) none) puts);
  }

  pub halted_taken : (h : Here) (v : Handled) (before outs : List Outgoing) (a b : List Output) → before ≡ [] →
      IsHalted left (outs_of v) h.disk before outs → PutsOut (outward n (effects_of outs)) a b
      → IsCut left (ran_handled n h v).outs h.disk a b
  halted_taken h v before outs a b none halted puts =
      subst (λ es. IsCut left es h.disk a b) (run_outs h v) (halted_so (outs_of v) h.disk before outs a b none halted puts)

  cut_first : (es fs : List Effect) (d : Disk) (a b : List Output) → IsCut left es d a b → IsCut left (es ++ fs) d a b
  cut_first es fs d a b cut = record { front = cut.front; stop = stopped_first left es fs d cut.front cut.stop; puts = cut.puts }

  -- and of all that it would have run
  pub took_cut : (t : Parts) (es : List Effect) (d : Disk) (before outs : List Outgoing) (a b : List Output) → before ≡ [] →
      IsHalted left es d before outs → PutsOut (outward n (effects_of outs)) a b → IsCut left (whole n t es d).outs d a b
  took_cut t es d before outs a b none halted puts =
      let front = rounds_front n 24 (ran n t es d) in
      let is : (whole n t es d).outs ≡ outward n es ++ front.0 = front.1 ∙ ap (λ (r : Ran). r.outs ++ front.0) (ran_is n t es d) in
      subst (λ xs. IsCut left xs d a b) (sym is) (cut_first (outward n es) front.0 d a b (halted_so es d before outs a b none halted puts))

  -- a cut behind what was put out, and before what would have come
  pub cut_within : (es fs more : List Effect) (d e : Disk) (a b c : List Output) → e ≡ disk_after es d → PutsOut es a b →
      IsCut left fs e b c → IsCut left (es ++ (fs ++ more)) d a c
  cut_within es fs more d e a b c same puts cut = record {
    front = es ++ cut.front;
    stop = stopped_second left es (fs ++ more) d cut.front (subst (λ x. IsStoppedAt left (fs ++ more) x cut.front) same (stopped_first left fs more e cut.front cut.stop));
    puts = puts_more es cut.front a b c puts cut.puts;
  }

-- what was put out, and what waits, before some calls and after them
pub record Flow : Type 0 where
  pub before : List Output
  pub after : List Output
  pub waited : List Message
  pub waits : List Message

abbrev pub flow : List Output → List Output → List Message → List Message → Flow
flow a b q0 q = record { before = a; after = b; waited = q0; waits = q }

-- Some messages are handled: what was run so far, with all that is left, is the whole.
pub record Midway (n : ℕ) (on : Here → Type 0) (all : Ran) (d : Disk) (rest : List Message) (f : Flow) : Type 0 where
  pub h : Here
  pub stands : on h
  pub outs : List Effect
  pub puts : PutsOut outs f.before f.after
  pub waits : List Message
  pub queue : f.waits ≡ f.waited ++ waits
  pub is : all ≡ behind outs waits (handle_all n rest h)
  pub disk : h.disk ≡ disk_after outs d

-- Some rounds are done, and k are left.
pub record Stage (n k : ℕ) (on : Here → Type 0) (all : Ran) (d : Disk) (f : Flow) : Type 0 where
  pub r : Ran
  pub stands : on r.here
  pub puts : PutsOut r.outs f.before f.after
  pub queue : f.waits ≡ r.queue
  pub rest : rounds n k r ≡ all
  pub disk : r.here.disk ≡ disk_after r.outs d

abbrev run_one : ℕ → Message → Here → Ran
run_one n m h = ran_handled n h (taken n h.disk h.parts n m)

module _ (n : ℕ) (on : Here → Type 0) where
  pub midway_first : (ms : List Message) (h : Here) (a : List Output) (q : List Message) → on h →
      Midway n on (handle_all n ms h) h.disk ms (flow a a q q)
  midway_first ms h a q stands =
      record { h = h; stands = stands; outs = []; puts = puts_none a; waits = []; queue = sym (append-nil q); is = refl; disk = refl }

  pub midway_step : (now : Here →
      Type 0) (all : Ran) (d : Disk) (m : Message) (ms : List Message) (a b c : List Output) (q0 q q1 : List Message) →
      Midway n on all d (m ∷ ms) (flow a b q0 q)
      → ((h : Here) → on h → GoesOn now (run_one n m h) b c q q1) → Midway n now all d ms (flow a c q0 q1)
  midway_step now all d m ms a b c q0 q q1 w step =
      by (run_one n m w.h) (step w.h w.stands) (handled_leaves n w.h (taken n w.h.disk w.h.parts n m)) (turn n m ms w.h w.h all w.outs w.waits w.is)
    where
      by : (r : Ran) → GoesOn now r b c q q1 → r.here.disk ≡ disk_after r.outs w.h.disk →
          all ≡ behind (w.outs ++ r.outs) (w.waits ++ r.queue) (handle_all n ms r.here) → Midway n now all d ms (flow a c q0 q1)
      by r g leaves is = record {
        h = r.here;
        stands = g.goes.stands;
        outs = w.outs ++ r.outs;
        puts = puts_more w.outs r.outs a b c w.puts g.goes.puts;
        waits = w.waits ++ r.queue;
        queue = g.queue ∙ (ap (λ x. x ++ r.queue) w.queue ∙ append_assoc q0 w.waits r.queue);
        is = is;
        disk = leaves ∙ (ap (disk_after r.outs) w.disk ∙ sym (disk_behind w.outs r.outs d));
      }

  pub midway_cut : (left : Disk →
      Type 0) (all : Ran) (d : Disk) (m : Message) (ms : List Message) (a b c : List Output) (q0 q : List Message) →
      Midway n on all d (m ∷ ms) (flow a b q0 q)
      → ((h : Here) → on h → IsCut left (run_one n m h).outs h.disk b c) → IsCut left all.outs d a c
  midway_cut left all d m ms a b c q0 q w step = subst (λ es. IsCut left es d a c) (sym (ap (λ (r : Ran). r.outs) w.is))
      (cut_within n left w.outs (run_one n m w.h).outs (handle_all n ms (run_one n m w.h).here).outs d w.h.disk a b c w.disk w.puts (step w.h w.stands))

  pub midway_last : (all : Ran) (d : Disk) (a b : List Output) (q0 q : List Message) → Midway n on all d [] (flow a b q0 q) →
      GoesOn on all a b q0 q
  midway_last all d a b q0 q w = subst (λ r. GoesOn on r a b q0 q) (sym (no_turn n w.h all w.outs w.waits w.is)) there
    where
      there : GoesOn on (record { here = w.h; outs = w.outs; queue = w.waits }) a b q0 q
      there = record { goes = record { stands = w.stands; puts = w.puts }; queue = w.queue }

  -- ---- rounds

  pub stage_first : (t : Parts) (es : List Effect) (d : Disk) (a b : List Output) (q : List Message) → GoesOn on (ran n t es d) a b [] q →
      Stage n 24 on (whole n t es d) d (flow a b [] q)
  stage_first t es d a b q g =
      record { r = ran n t es d; stands = g.goes.stands; puts = g.goes.puts; queue = g.queue; rest = refl; disk = ran_leaves n t es d }

  stage_is : (all r : Ran) (a b : List Output) → on r.here → PutsOut r.outs a b → r ≡ all → Goes on all a b
  stage_is all r a b stands puts is = subst (λ w. Goes on w a b) is there
    where
      there : Goes on r a b
      there = record { stands = stands; puts = puts }

  pub stage_over : (k : ℕ) (all : Ran) (d : Disk) (a b : List Output) (q : List Message) → Stage n k on all d (flow a b [] q) → q ≡ [] →
      Goes on all a b
  stage_over k all d a b q s none = stage_is all s.r a b s.stands s.puts (sym (rounds_over n k s.r (sym s.queue ∙ none)) ∙ s.rest)

  pub stage_end : (all : Ran) (d : Disk) (a b : List Output) (q : List Message) → Stage n 0 on all d (flow a b [] q) → Goes on all a b
  stage_end all d a b q s = stage_is all s.r a b s.stands s.puts s.rest

  pub stage_step : (k : ℕ) (now : Here → Type 0) (all : Ran) (d : Disk) (a b c : List Output) (m : Message) (ms q1 : List Message) →
      Stage n (suc k) on all d (flow a b [] (m ∷ ms))
      → ((h : Here) → on h → GoesOn now (handle_all n (m ∷ ms) h) b c [] q1) → Stage n k now all d (flow a c [] q1)
  stage_step k now all d a b c m ms q1 s step =
      let g : GoesOn now (handle_all n s.r.queue s.r.here) b c [] q1 =
      subst (λ q. GoesOn now (handle_all n q s.r.here) b c [] q1) s.queue (step s.r.here s.stands) in
      record {
        r = next_round n s.r;
        stands = g.goes.stands;
        puts = puts_more s.r.outs (handle_all n s.r.queue s.r.here).outs a b c s.puts g.goes.puts;
        queue = g.queue;
        rest = sym (rounds_more n k s.r m ms (sym s.queue)) ∙ s.rest;
        disk = round_leaves n d s.r s.disk;
      }

  pub stage_cut : (left : Disk → Type 0) (k : ℕ) (all : Ran) (d : Disk) (a b c : List Output) (m : Message) (ms : List Message) →
      Stage n (suc k) on all d (flow a b [] (m ∷ ms))
      → ((h : Here) → on h → IsCut left (handle_all n (m ∷ ms) h).outs h.disk b c) → IsCut left all.outs d a c
  stage_cut left k all d a b c m ms s step =
      let cut : IsCut left (handle_all n s.r.queue s.r.here).outs s.r.here.disk b c =
      subst (λ q. IsCut left (handle_all n q s.r.here).outs s.r.here.disk b c) s.queue (step s.r.here s.stands) in
      let front = rounds_front n k (next_round n s.r) in
      subst (λ es. IsCut left es d a c) (sym (ap (λ (r : Ran). r.outs) (sym s.rest ∙ rounds_more n k s.r m ms (sym s.queue)) ∙ (front.1 ∙ append_assoc s.r.outs (handle_all n s.r.queue s.r.here).outs front.0)))
      (cut_within n left s.r.outs (handle_all n s.r.queue s.r.here).outs front.0 d s.r.here.disk a b c s.disk s.puts cut)

pub same_fault : {T E : Type 0} (r : Result T E) (fault halted : E) → IsErrAnd r (λ e. e ≡ fault) → r ≡ Err halted → fault ≡ halted
same_fault (Ok value) fault halted is e = absurd is
same_fault (Err other) fault halted is e = cc

-- what is handed back is no work
pub told_loud : (outs : List Outgoing) → effects_of outs ≡ loud (effects_of outs)
told_loud [] = refl
told_loud (of.Say b ∷ outs) = ap (λ es. Say b ∷ es) (told_loud outs)
told_loud (of.Send to m ∷ outs) = ap (λ es. Send to m ∷ es) (told_loud outs)

pub is_nil : (q : List (Box Message)) (len : ℕ) → len ≡ length q → true ≡ (len == 0) → messages_of q ≡ []
is_nil q len same is = ap messages_of (nil_from_length q (sym same ∙ eqb-true len 0 (sym is)))

pub isnt_nil : (q : List (Box Message)) (len : ℕ) → len ≡ length q → false ≡ (len == 0) →
    (m : Message) × (ms : List Message) × (messages_of q ≡ m ∷ ms)
isnt_nil [] len same isnt = let never : false ≡ true = isnt ∙ ap (λ k. k == 0) same in absurd cc
isnt_nil (m ∷ ms) len same isnt = (m.value, messages_of ms, refl)

module _ (n : ℕ) (on : Here → Type 0) where
  pub stage_turn : (k : ℕ) (now : Here → Type 0) (all : Ran) (d : Disk) (a b c : List Output) (q q1 : List Message) →
      ((m : Message) × (ms : List Message) × (q ≡ m ∷ ms)) → Stage n (suc k) on all d (flow a b [] q)
      → ((h : Here) → on h → GoesOn now (handle_all n q h) b c [] q1) → Stage n k now all d (flow a c [] q1)
  stage_turn k now all d a b c q q1 some s step =
      stage_step n on k now all d a b c some.0 some.1 q1 (subst (λ x. Stage n (suc k) on all d (flow a b [] x)) some.2 s) (λ h at. subst (λ x. GoesOn now (handle_all n x h) b c [] q1) some.2 (step h at))

  pub stage_halt : (left : Disk → Type 0) (k : ℕ) (all : Ran) (d : Disk) (a b c : List Output) (q : List Message) →
      ((m : Message) × (ms : List Message) × (q ≡ m ∷ ms)) → Stage n (suc k) on all d (flow a b [] q)
      → ((h : Here) → on h → IsCut left (handle_all n q h).outs h.disk b c) → IsCut left all.outs d a c
  stage_halt left k all d a b c q some s step =
      stage_cut n on left k all d a b c some.0 some.1 (subst (λ x. Stage n (suc k) on all d (flow a b [] x)) some.2 s) (λ h at. subst (λ x. IsCut left (handle_all n x h).outs h.disk b c) some.2 (step h at))
