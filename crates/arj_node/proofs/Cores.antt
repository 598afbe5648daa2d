-- A step of a core over its parts is one of its node.
use Rattle.std.proofs.Common.{◌≡◌, ◌∙◌, ◌<◌, ℕ, false, List, [], ◌∷◌, ◌++◌, Option, Some, None, is_some, refl, sym, ap, subst}
use Rattle.std.specs.Prelude.{OnOk, Result}
use Rattle.arj_core.specs.declared.output.Output.{Output}
use Rattle.arj_core.specs.declared.output.Output.TheVariants as output
use Rattle.arj_core.specs.Steps.{Did, PutsOut, WasCut}
use Rattle.arj_disk.specs.FileMap.{FileMap}
use Rattle.arj_node.specs.Acting.{asked_of}
use Rattle.arj_node.specs.Lives.{DoesStep, IsLive, IsNode, StopsStep, Turn}
use Rattle.arj_node.specs.Ran.{IsCut, disk_after}
use Rattle.arj_node.specs.Roster.{IsOf}
use Rattle.arj_node.specs.Stepped.{Steps, down_node, up_node}
use Rattle.arj_node.specs.declared.act.Act.{Act}
use Rattle.arj_node.specs.declared.act.Act.TheVariants as of
use Rattle.arj_node.specs.declared.node.NodeCore.{NodeCore}
use Rattle.arj_node.specs.declared.parts.Parts.{Ghosts}
use Rattle.arj_node.proofs.Lists.{count_front, cut_there, puts_none}
use Rattle.arj_node.proofs.Outs.{said_one}
use Rattle.arj_protocol.specs.Effect.{Disk, Effect, stopped}
use Rattle.arj_protocol.specs.Node.{Here}
use Rattle.arj_protocol.specs.Step.{Input, Node, Step, crash_step, does_nothing, only_says, step}
use Rattle.arj_protocol.specs.Words.{Body, Header}
use Rattle.arj_protocol.specs.Words.body
use Rattle.arj_protocol.specs.World.{Cut, count_works, cut}

-- a cut of a step, by its count of works
cut_is : (left : Disk → Type 0) (es : List Effect) (d : Disk) (a b : List Output) (c : IsCut left es d a b) →
    cut (count_works c.front) c.stop.how es d ≡ record { outs = c.front; disk = stopped c.stop.how c.stop.work (disk_after c.front d) }
cut_is left es d a b c =
    ap (λ fs. cut (count_works c.front) c.stop.how fs d) c.stop.are ∙ cut_there c.front c.stop.work c.stop.back c.stop.how d

cut_within : (left : Disk → Type 0) (es : List Effect) (d : Disk) (a b : List Output) (c : IsCut left es d a b) →
    count_works c.front < count_works es
cut_within left es d a b c =
    subst (λ fs. count_works c.front < count_works fs) (sym c.stop.are) (count_front c.front c.stop.work c.stop.back)

pub was_cut : (stands : Node → Type 0) (left : Disk → Type 0) (n : Node) (s : Step) (a b : List Output) →
    ((d : Disk) → left d → stands (record n { disk = d; live = None })) → IsCut left s.halting n.disk a b → WasCut stands n s a b
was_cut stands left n s a b falls c = record {
  work = count_works c.front;
  how = c.stop.how;
  within = cut_within left s.halting n.disk a b c;
  node = subst (λ (x : Cut). stands (record n {
    disk = x.disk;
    live =
        None;
  })) (sym (cut_is left s.halting n.disk a b c)) (falls (stopped c.stop.how c.stop.work (disk_after c.front n.disk)) c.stop.disk);
  outs = subst (λ (x : Cut). PutsOut x.outs a b) (sym (cut_is left s.halting n.disk a b c)) c.puts;
}

module _ {P : Type 0} (g : Ghosts P) (header : Header) where
  abbrev with_parts : NodeCore P → Option P → NodeCore P
  with_parts core parts = record core { parts = parts }

  -- ---- up

  is_up : (core : NodeCore P) (parts : P) (file : FileMap) (n : Node) → core.parts ≡ Some parts → IsNode g header core file n →
      (h : Here) × (n ≡ up_node core.number h) × g.stands header core.number parts file h
  is_up core parts file n up node = subst (λ p. IsLive g header core.number p file n) up node.live

  is_down : (core : NodeCore P) (file : FileMap) (n : Node) → core.parts ≡ None → IsNode g header core file n →
      (d : Disk) × (n ≡ down_node core.number d) × g.rests header core.number file d
  is_down core file n down node = subst (λ p. IsLive g header core.number p file n) down node.live

  did_so : (core : NodeCore P) (parts : P) (file : FileMap) (s : Step) (a b : List Output) → IsOf header core.roster →
      Steps core.number (g.stands header core.number parts file) s a b → Did (IsNode g header (with_parts core (Some parts)) file) s a b
  did_so core parts file s a b roster steps =
      record { node = record { roster = roster; live = (steps.here, steps.after_is, steps.stands) }; outs = steps.puts }

  cut_so : (core : NodeCore P) (gone : Option P) (file : FileMap) (n : Node) (s : Step) (a b : List Output) → gone ≡ None →
      IsOf header core.roster → n.number ≡ core.number → IsCut (g.rests header core.number file) s.halting n.disk a b
      → WasCut (IsNode g header (with_parts core gone) file) n s a b
  cut_so core gone file n s a b none roster number c =
      was_cut (IsNode g header (with_parts core gone) file) (g.rests header core.number file) n s a b
      (λ d rests. record {
        roster = roster;
        live =
            subst (λ p. IsLive g header core.number p file (record n { disk = d; live = None })) (sym none) (
              d,
              (λ i. record {
                number =
                    number i;
                disk = d;
                live = None;
              }),
              rests,
            );
      }) c

  pub up_did : (core : NodeCore P) (parts later : P) (file left : FileMap) (input : Input) (a b : List Output) → core.parts ≡ Some parts
      → (IsOf header core.roster → (h : Here) → g.stands header core.number parts file h →
      Steps core.number (g.stands header core.number later left) (step header (up_node core.number h) input) a b)
      → (n : Node) → IsNode g header core file n → Did (IsNode g header (with_parts core (Some later)) left) (step header n input) a b
  up_did core parts later file left input a b up steps n node =
      let live = is_up core parts file n up node in
      subst (λ m. Did (IsNode g header (with_parts core (Some later)) left) (step header m input) a b) (sym live.1) (did_so core later left (step header (up_node core.number live.0) input) a b node.roster (steps node.roster live.0 live.2))

  pub up_cut : (core : NodeCore P) (parts : P) (gone : Option P) (file left : FileMap) (input : Input) (a b : List Output) →
      core.parts ≡ Some parts → gone ≡ None
      → (IsOf header core.roster → (h : Here) → g.stands header core.number parts file h →
      IsCut (g.rests header core.number left) (step header (up_node core.number h) input).halting h.disk a b)
      → (n : Node) → IsNode g header core file n → WasCut (IsNode g header (with_parts core gone) left) n (step header n input) a b
  up_cut core parts gone file left input a b up none cuts n node =
      let live = is_up core parts file n up node in
      subst (λ m. WasCut (IsNode g header (with_parts core gone) left) m (step header m input) a b) (sym live.1) (cut_so core gone left (up_node core.number live.0) (step header (up_node core.number live.0) input) a b none node.roster refl (cuts node.roster live.0 live.2))

  -- ---- down

  pub down_did : (core : NodeCore P) (later : P) (file left : FileMap) (input : Input) (a b : List Output) → core.parts ≡ None
      → (IsOf header core.roster → (d : Disk) → g.rests header core.number file d →
      Steps core.number (g.stands header core.number later left) (step header (down_node core.number d) input) a b)
      → (n : Node) → IsNode g header core file n → Did (IsNode g header (with_parts core (Some later)) left) (step header n input) a b
  down_did core later file left input a b down steps n node =
      let live = is_down core file n down node in
      subst (λ m. Did (IsNode g header (with_parts core (Some later)) left) (step header m input) a b) (sym live.1) (did_so core later left (step header (down_node core.number live.0) input) a b node.roster (steps node.roster live.0 live.2))

  pub down_cut : (core : NodeCore P) (gone : Option P) (file left : FileMap) (input : Input) (a b : List Output) → core.parts ≡ None →
      gone ≡ None
      → (IsOf header core.roster → (d : Disk) → g.rests header core.number file d →
      IsCut (g.rests header core.number left) (step header (down_node core.number d) input).halting d a b)
      → (n : Node) → IsNode g header core file n → WasCut (IsNode g header (with_parts core gone) left) n (step header n input) a b
  down_cut core gone file left input a b down none cuts n node =
      let live = is_down core file n down node in
      subst (λ m. WasCut (IsNode g header (with_parts core gone) left) m (step header m input) a b) (sym live.1) (cut_so core gone left (down_node core.number live.0) (step header (down_node core.number live.0) input) a b none node.roster refl (cuts node.roster live.0 live.2))

  -- what a node that is down does at an input but a restart: nothing, or it says one line
  pub down_still : (core : NodeCore P) (file : FileMap) (input : Input) (a : List Output) → core.parts ≡ None →
      ((d : Disk) → step header (down_node core.number d) input ≡ does_nothing (down_node core.number d))
      → (n : Node) → IsNode g header core file n → Did (IsNode g header core file) (step header n input) a a
  down_still core file input a down still n node =
      let live = is_down core file n down node in
      subst (λ m. Did (IsNode g header core file) (step header m input) a a) (sym live.1) (subst (λ s. Did (IsNode g header core file) s a a) (sym (still live.0)) there)
    where
      there : Did (IsNode g header core file) (does_nothing (down_node core.number (is_down core file n down node).0)) a a
      there = record { node = subst (IsNode g header core file) (is_down core file n down node).1 node; outs = puts_none a }

  pub down_says : (core : NodeCore P) (file : FileMap) (input : Input) (b : Body) (before after : List Output) → core.parts ≡ None →
      ((d : Disk) → step header (down_node core.number d) input ≡ only_says (down_node core.number d) b) → after ≡ before ++ output.Say b ∷ []
      → (n : Node) → IsNode g header core file n → Did (IsNode g header core file) (step header n input) before after
  down_says core file input b before after down says are n node =
      let live = is_down core file n down node in
      subst (λ m. Did (IsNode g header core file) (step header m input) before after) (sym live.1) (subst (λ s. Did (IsNode g header core file) s before after) (sym (says live.0)) there)
    where
      there : Did (IsNode g header core file) (only_says (down_node core.number (is_down core file n down node).0) b) before after
      there = record { node = subst (IsNode g header core file) (is_down core file n down node).1 node; outs = said_one b before after are }

  -- a node that is up isn't restarted
  pub up_still : (core : NodeCore P) (parts : P) (file : FileMap) (input : Input) (a : List Output) → core.parts ≡ Some parts →
      ((h : Here) → step header (up_node core.number h) input ≡ does_nothing (up_node core.number h))
      → (n : Node) → IsNode g header core file n → Did (IsNode g header core file) (step header n input) a a
  up_still core parts file input a up still n node =
      let live = is_up core parts file n up node in
      subst (λ m. Did (IsNode g header core file) (step header m input) a a) (sym live.1) (subst (λ s. Did (IsNode g header core file) s a a) (sym (still live.0)) there)
    where
      there : Did (IsNode g header core file) (does_nothing (up_node core.number (is_up core parts file n up node).0)) a a
      there = record { node = subst (IsNode g header core file) (is_up core parts file n up node).1 node; outs = puts_none a }

  -- a crash
  pub up_crashes : (core : NodeCore P) (parts : P) (file : FileMap) (input : Input) (before after : List Output) → core.parts ≡ Some parts →
      ((h : Here) → step header (up_node core.number h) input ≡ crash_step (up_node core.number h))
      → ((h : Here) → g.stands header core.number parts file h → g.rests header core.number file h.disk) →
      after ≡ before ++ output.Say (body.Halted core.number) ∷ []
      → (n : Node) → IsNode g header core file n → Did (IsNode g header (with_parts core None) file) (step header n input) before after
  up_crashes core parts file input before after up crashes falls are n node =
      let live = is_up core parts file n up node in
      subst (λ m. Did (IsNode g header (with_parts core None) file) (step header m input) before after) (sym live.1) (subst (λ s. Did (IsNode g header (with_parts core None) file) s before after) (sym (crashes live.0)) there)
    where
      there : Did (IsNode g header (with_parts core None) file) (crash_step (up_node core.number (is_up core parts file n up node).0)) before after
      there = record {
        node = record {
          roster = node.roster;
          live =
              ((is_up core parts file n up node).0.disk, refl, falls (is_up core parts file n up node).0 (is_up core parts file n up node).2);
        };
        outs = said_one (body.Halted core.number) before after are;
      }

-- an action of a node that is down has ended
pub down_act : (header : Header) (k : ℕ) (d : Disk) (act : Act) →
    step header (down_node k d) (asked_of act) ≡ only_says (down_node k d) (body.Refused 6)
down_act header k d (of.Begin l kind parent) = refl
down_act header k d (of.Call l x op) = refl
down_act header k d (of.Include l x s) = refl
down_act header k d (of.Commit l) = refl
down_act header k d (of.Abort l) = refl
down_act header k d (of.GiveUp l) = refl

-- no parts are there
pub none_there : {P : Type 0} (parts : Option P) → false ≡ is_some parts → parts ≡ None
none_there None isnt = refl
none_there (Some parts) isnt = absurd cc

-- the same step, of an input in other words
pub does_as : {P T E : Type 0} (g : Ghosts P) (t : Turn P) (r : Result T E) (i j : Input) → i ≡ j → OnOk r (DoesStep g t i) →
    OnOk r (DoesStep g t j)
does_as g t r i j same does = subst (λ k. OnOk r (DoesStep g t k)) same does

pub stops_as : {P : Type 0} (g : Ghosts P) (t : Turn P) (q : Type 0) (i j : Input) → i ≡ j → (q → StopsStep g t i) → q → StopsStep g t j
stops_as g t q i j same stops = subst (λ k. q → StopsStep g t k) same stops
