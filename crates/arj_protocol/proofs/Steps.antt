-- A step of one node, and events.
use Rattle.std.proofs.Common.{◌≡◌, ℕ, zero, suc, ◌-◌, List, [], ◌∷◌, ◌++◌, Bool, true, false, refl, sym, ◌∙◌, ap, length, Option, Some}
use Rattle.std.proofs.Common.{None, append-nil}
use Rattle.std.specs.Prelude.{nat_lt, take, if◌then◌else◌}
use Rattle.std.specs.List.{AllByRecursion}
use Rattle.arj_protocol.specs.Order.{at_number}
use Rattle.arj_protocol.specs.Effect.{Effect, Say, Send, Do}
use Rattle.arj_protocol.specs.Tree.{at_place, set_place}
use Rattle.arj_protocol.specs.Step.{Node, Input, Step, step}
use Rattle.arj_protocol.specs.World.{World, Arm, sends, put, steps, step_node, step_with, done_step, halted_at, set_node, armed, disarmed}
use Rattle.arj_protocol.specs.World.{count_works, cut, bodies, numbered, halted_outs}
use Rattle.arj_protocol.specs.Laws.{Local, effects_of, effects_until, effects_of_node}
use Rattle.arj_protocol.proofs.Maps.{place_other}
use Rattle.arj_start.specs.Limits.{most_frames}

-- what a node sends has it as sender
sends_from : (n : ℕ) (es : List Effect) → AllByRecursion (λ f. f.from ≡ n) (sends n es)
sends_from n [] = tt
sends_from n (Send to m ∷ es) = (refl, sends_from n es)
sends_from n (Say b ∷ es) = sends_from n es
sends_from n (Do w ∷ es) = sends_from n es

take_all : {A : Type 0} (P : A → Type 0) (k : ℕ) (xs : List A) → AllByRecursion P xs → AllByRecursion P (take k xs)
take_all P zero xs h = tt
take_all P (suc k) [] h = tt
take_all P (suc k) (x ∷ xs) h = (h.0, take_all P k xs h.1)

-- what was put is this node's
put_local : (n : ℕ) (s : Node) (outs : List Effect) (w v : World) → v.nodes ≡ set_place n s w.nodes → v.frames ≡ w.frames →
    v.lines ≡ w.lines → Local n w (put n outs v)
put_local n s outs w v nodes frames lines = record {
  others = λ m other. ap (λ ns. at_place m ns) nodes ∙ place_other n m s w.nodes other;
  sent = take (most_frames - length v.frames) (sends n outs);
  frames = ap (λ fs. fs ++ take (most_frames - length v.frames) (sends n outs)) frames;
  sender = take_all (λ f. f.from ≡ n) (most_frames - length v.frames) (sends n outs) (sends_from n outs);
  said = numbered v.event (bodies n (length v.frames) outs);
  lines = ap (λ ls. ls ++ numbered v.event (bodies n (length v.frames) outs)) lines;
}

armed_local : (k : ℕ) (n : Node) (s : Step) (w : World) (a : Arm) (b : Bool) →
    Local k w (if b then done_step k s (armed k (record a {
      works =
          a.works - count_works s.halting;
    }) w) else halted_at k n (cut (a.works - 1) a.how s.halting n.disk) (disarmed k w))
armed_local k n s w a true =
    put_local k s.after s.outs w (set_node k s.after (armed k (record a { works = a.works - count_works s.halting }) w)) refl refl refl
armed_local k n s w a false =
    let c = cut (a.works - 1) a.how s.halting n.disk in
    put_local k (record n {
      disk = c.disk;
      live =
          None;
    }) (halted_outs k c) w (set_node k (record n { disk = c.disk; live = None }) (disarmed k w)) refl refl refl

with_local : (k : ℕ) (n : Node) (s : Step) (w : World) (a : Option Arm) → Local k w (step_with k n s w a)
with_local k n s w None = put_local k s.after s.outs w (set_node k s.after w) refl refl refl
with_local k n s w (Some a) = armed_local k n s w a (nat_lt (count_works s.halting) a.works)

nothing_local : (k : ℕ) (w : World) → Local k w w
nothing_local k w =
    record {
      others = λ m other. refl;
      sent = [];
      frames = sym (append-nil w.frames);
      sender = tt;
      said = [];
      lines =
          sym (append-nil w.lines);
    }

node_local : (k : ℕ) (i : Input) (w : World) (n : Option Node) → Local k w (step_node k i w n)
node_local k i w None = nothing_local k w
node_local k i w (Some n) = with_local k n (step w.header n i) w (at_number k w.arms)

pub steps_local : (k : ℕ) (i : Input) (w : World) → Local k w (steps k i w)
steps_local k i w = node_local k i w (at_place k w.nodes)

-- ---- the lines of a step

armed_lines : (k : ℕ) (n : Node) (s : Step) (w : World) (a : Arm) (b : Bool) →
    (if b then done_step k s (armed k (record a {
      works =
          a.works - count_works s.halting;
    }) w) else halted_at k n (cut (a.works - 1) a.how s.halting n.disk) (disarmed k w)).lines
    ≡ w.lines ++ numbered w.event (bodies k (length w.frames) (if b then s.outs else halted_outs k (cut (a.works - 1) a.how s.halting n.disk)))
armed_lines k n s w a true = refl
armed_lines k n s w a false = refl

with_lines : (k : ℕ) (n : Node) (s : Step) (w : World) (a : Option Arm) →
    (step_with k n s w a).lines ≡ w.lines ++ numbered w.event (bodies k (length w.frames) (effects_until k n s a))
with_lines k n s w None = refl
with_lines k n s w (Some a) = armed_lines k n s w a (nat_lt (count_works s.halting) a.works)

node_lines : (k : ℕ) (i : Input) (w : World) (n : Option Node) →
    (step_node k i w n).lines ≡ w.lines ++ numbered w.event (bodies k (length w.frames) (effects_of_node k i w n))
node_lines k i w None = sym (append-nil w.lines)
node_lines k i w (Some n) = with_lines k n (step w.header n i) w (at_number k w.arms)

pub steps_lines : (k : ℕ) (i : Input) (w : World) →
    (steps k i w).lines ≡ w.lines ++ numbered w.event (bodies k (length w.frames) (effects_of k i w))
steps_lines k i w = node_lines k i w (at_place k w.nodes)
