-- Inputs about an action, ticks, shows and restarts are steps of a node.
use Rattle.std.proofs.Common.{◌≡◌, ◌∙◌, ◌==◌, ℕ, Bool, true, false, cond, List, [], ◌∷◌, ◌++◌, Option, Some, None, refl, sym, ap, subst}
use Rattle.arj_core.specs.declared.output.Output.{Output}
use Rattle.arj_core.specs.Steps.{PutsOut}
use Rattle.arj_node.specs.Acting.{IsDone, Shows, acts_at, asked_of, why_at}
use Rattle.arj_node.specs.Goes.{Goes}
use Rattle.arj_node.specs.Handing.{Does}
use Rattle.arj_node.specs.Outgoing.{IsHalted, effects_of, loud}
use Rattle.arj_node.specs.Ran.{IsCut, disk_after, outward}
use Rattle.arj_node.specs.Stepped.{Steps, up_node}
use Rattle.arj_node.specs.declared.act.Act.{Act}
use Rattle.arj_node.specs.declared.act.Act.TheVariants as of
use Rattle.arj_node.specs.declared.outgoing.Outgoing.{Outgoing}
use Rattle.arj_node.proofs.Handled.{halted_so, took_cut}
use Rattle.arj_node.proofs.Lists.{out_behind, puts_loud}
use Rattle.arj_protocol.specs.Effect.{Disk, Effect, Pair, Do, Look, held_at, holder_of}
use Rattle.arj_protocol.specs.Node.{Here, Parts, whole, with_coord}
use Rattle.arj_protocol.specs.Step.{Step, coord_did, copy_line, entry_line, node_did, only_says, show_entry, show_outs, show_step, shown}
use Rattle.arj_protocol.specs.Step.{step, step_unless, step_up}
use Rattle.arj_protocol.specs.Words.{Header, ObjectState, Uid, entry, object}
use Rattle.arj_protocol.specs.Words.body

-- ---- inputs about an action

-- one that isn't refused is the coordinator's
did_up : (n : ℕ) (h : Here) (act : Act) → step_up (asked_of act) (up_node n h) h.parts ≡ coord_did (up_node n h) h.parts (acts_at act h)
did_up n h (of.Begin l k parent) = refl
did_up n h (of.Call l x op) = refl
did_up n h (of.Include l x s) = refl
did_up n h (of.Commit l) = refl
did_up n h (of.Abort l) = refl
did_up n h (of.GiveUp l) = refl

act_step : (n : ℕ) (header : Header) (act : Act) (h : Here) → why_at header act h ≡ None →
    step header (up_node n h) (asked_of act) ≡ coord_did (up_node n h) h.parts (acts_at act h)
act_step n header act h free = ap (step_unless header (asked_of act) (up_node n h)) free ∙ did_up n h act

pub refused_step : (n : ℕ) (header : Header) (act : Act) (h : Here) (cause : ℕ) → why_at header act h ≡ Some cause →
    step header (up_node n h) (asked_of act) ≡ only_says (up_node n h) (body.Refused cause)
refused_step n header act h cause is = ap (step_unless header (asked_of act) (up_node n h)) is

-- effects that are all told, behind nothing
all_told : (es : List Effect) (before outs : List Outgoing) → before ≡ [] → effects_of outs ≡ effects_of before ++ loud es →
    effects_of outs ≡ loud es
all_told es before outs none tells = tells ∙ ap (λ os. effects_of os ++ loud es) none

module _ (n : ℕ) (on : Here → Type 0) where
  -- what was done, with all messages to itself, is the step
  pub does_step : (mid : Here →
      Type 0) (live : Option Parts) (t : Parts) (es : List Effect) (d : Disk) (before outs : List Outgoing) (a b : List Output) →
      before ≡ [] → Does mid t es d before outs
      → ((u : Parts) (fs : List Effect) (e : Disk) → mid (record { disk = disk_after fs e; parts = u }) → effects_of outs ≡ loud fs →
      Goes on (whole n u fs e) a b) → Steps n on (node_did (record { number = n; disk = d; live = live }) [] t es) a b
  does_step mid live t es d before outs a b none does settled =
      let goes : Goes on (whole n t es d) a b = settled t es d does.stands (all_told es before outs none does.tells) in
      record { here = (whole n t es d).here; after_is = refl; stands = goes.stands; puts = goes.puts }

  pub acted_step : (mid : Here → Type 0) (header : Header) (act : Act) (h : Here) (before outs : List Outgoing) (a b : List Output) →
      before ≡ [] → IsDone mid h (why_at header act h) (acts_at act h) (record { before = before; after = outs })
      → ((u : Parts) (fs : List Effect) (e : Disk) → mid (record { disk = disk_after fs e; parts = u }) → effects_of outs ≡ loud fs →
      Goes on (whole n u fs e) a b) → Steps n on (step header (up_node n h) (asked_of act)) a b
  acted_step mid header act h before outs a b none done settled = subst (λ s. Steps n on s a b) (sym (act_step n header act h done.free))
      (does_step mid (Some h.parts) (with_coord h.parts (acts_at act h).part) (acts_at act h).outs h.disk before outs a b none done.does settled)

module _ (n : ℕ) (left : Disk → Type 0) where
  -- a stop among the messages to itself
  pub does_cut : (mid : Here → Type 0) (t : Parts) (es : List Effect) (d : Disk) (before outs : List Outgoing) (a b : List Output) →
      before ≡ [] → Does mid t es d before outs
      → ((u : Parts) (fs : List Effect) (e : Disk) → mid (record { disk = disk_after fs e; parts = u }) → effects_of outs ≡ loud fs →
      IsCut left (whole n u fs e).outs e a b) → IsCut left (whole n t es d).outs d a b
  does_cut mid t es d before outs a b none does settled = settled t es d does.stands (all_told es before outs none does.tells)

  pub acted_cut : (mid : Here → Type 0) (header : Header) (act : Act) (h : Here) (before outs : List Outgoing) (a b : List Output) →
      before ≡ [] → IsDone mid h (why_at header act h) (acts_at act h) (record { before = before; after = outs })
      → ((u : Parts) (fs : List Effect) (e : Disk) → mid (record { disk = disk_after fs e; parts = u }) → effects_of outs ≡ loud fs →
      IsCut left (whole n u fs e).outs e a b) → IsCut left (step header (up_node n h) (asked_of act)).halting h.disk a b
  acted_cut mid header act h before outs a b none done settled =
      subst (λ (s : Step). IsCut left s.halting h.disk a b) (sym (act_step n header act h done.free))
      (does_cut mid (with_coord h.parts (acts_at act h).part) (acts_at act h).outs h.disk before outs a b none done.does settled)

  -- a stop in what the input itself does
  pub stopped_act : (header : Header) (act : Act) (h : Here) (before outs : List Outgoing) (a b : List Output) → before ≡ [] →
      why_at header act h ≡ None → IsHalted left (acts_at act h).outs h.disk before outs
      → PutsOut (outward n (effects_of outs)) a b → IsCut left (step header (up_node n h) (asked_of act)).halting h.disk a b
  stopped_act header act h before outs a b none free halted puts =
      subst (λ (s : Step). IsCut left s.halting h.disk a b) (sym (act_step n header act h free))
      (took_cut n left (with_coord h.parts (acts_at act h).part) (acts_at act h).outs h.disk before outs a b none halted puts)

-- ---- shows

copy_out : (n m x : ℕ) (s : Option ObjectState) → outward n (copy_line m x s) ≡ copy_line m x s
copy_out n m x None = refl
copy_out n m x (Some s) = refl

entry_out : (n x : ℕ) (s : Option ObjectState) → outward n (entry_line x s) ≡ entry_line x s
entry_out n x None = refl
entry_out n x (Some s) = refl

one_out : (n : ℕ) (line : Option ObjectState → List Effect) (u : Uid) (d : Pair) (holder : Option Uid) →
    outward n (line (held_at u d)) ≡ line (held_at u d) → outward n (shown line u d holder) ≡ shown line u d holder
one_out n line u d (Some holder) is = refl
one_out n line u d None is = ap (λ es. Do Look ∷ es) is

entries_out : (n m x : ℕ) (d : Pair) → outward n (show_entry m x d) ≡ show_entry m x d
entries_out n m x d = by (m == 1) (one_out n (entry_line x) (entry x) d (holder_of (entry x) d) (entry_out n x (held_at (entry x) d)))
  where
    by : (b : Bool) →
        outward n (shown (entry_line x) (entry x) d (holder_of (entry x) d)) ≡ shown (entry_line x) (entry x) d (holder_of (entry x) d)
        → outward n (cond b (shown (entry_line x) (entry x) d (holder_of (entry x) d)) []) ≡ cond b (shown (entry_line x) (entry x) d (holder_of (entry x) d)) []
    by true is = is
    by false is = refl

-- a show sends nothing
shown_out : (n x : ℕ) (d : Disk) → outward n (show_outs n x d) ≡ show_outs n x d
shown_out n x d = out_behind n (show_entry n x d.names) (shown (copy_line n x) (object x) d.store (holder_of (object x) d.store))
    ∙ (λ i. entries_out n n x d.names i ++ one_out n (copy_line n x) (object x) d.store (holder_of (object x) d.store) (copy_out n n x (held_at (object x) d.store)) i)

pub shows_step : (n : ℕ) (on : Here → Type 0) (h : Here) (x : ℕ) (before outs : List Outgoing) (a b : List Output) → before ≡ [] →
    Shows on h (show_outs n x h.disk) before outs → PutsOut (outward n (effects_of outs)) a b → Steps n on (show_step x (up_node n h)) a b
shows_step n on h x before outs a b none shows puts = record {
  here = h;
  after_is = refl;
  stands = shows.stands;
  puts = subst (λ es. PutsOut es a b) (shown_out n x h.disk) (puts_loud n (show_outs n x h.disk) a b (subst (λ es. PutsOut (outward n es) a b) (all_told (show_outs n x h.disk) before outs none shows.tells) puts));
}

pub shows_cut : (n : ℕ) (left : Disk → Type 0) (h : Here) (x : ℕ) (before outs : List Outgoing) (a b : List Output) → before ≡ [] →
    IsHalted left (show_outs n x h.disk) h.disk before outs → PutsOut (outward n (effects_of outs)) a b
    → IsCut left (show_step x (up_node n h)).halting h.disk a b
shows_cut n left h x before outs a b none halted puts =
    subst (λ es. IsCut left es h.disk a b) (shown_out n x h.disk) (halted_so n left (show_outs n x h.disk) h.disk before outs a b none halted puts)
