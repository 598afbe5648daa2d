-- An action that waits at a coordinator of the whole world is at work there, or at its commit; and what is known of the coordinator behind
-- a step.
use Rattle.arj_law_parts.proofs.Words
use Words.{◌≡◌, ◌≢◌, ◌≤◌, ◌∙◌, false, Option, Some, sym, ap, subst, arith, is_some, Uid, top_of, Steps, Machine, plan_of, Calling}
use Words.{Committing, Coord, Doing, doing_of, is_waiting_now, Branch, branch_of}
use Words.kind
use Rattle.arj_law_lock_view.proofs.Terms
use Terms.{top, GoesOn, IsAsking, IsBusy, IsGoodCoord, IsVoting, IsSure, IsNumbered, KnowsEnds, KnowsWaits, IsLone, IsReached, IsWaiting}
use Terms.{Family, Case, IsSeenIn, Spot, view_in, world_at, IsAtCommit, IsWorking, KnowsAsks, KnowsCoord, coord_at, Fixed, family_of}
use Terms.{KnowsAfter, SeesUp}
use Rattle.arj_law_lock_view.proofs.facts.Given.{actions_topped, listed_unserial, waiters_alone}
use Rattle.arj_law_lock_view.proofs.running.{GoodSteps.good_node, GoodSteps.its, GoodSteps.steady, OtherSteps.here_of}
use Rattle.arj_law_lock_view.proofs.view.TreeSteps.{action_kind}
use Rattle.arj_law_lock_view.specs.facts.Given.{IsPlaced}

-- all that is known of the coordinator behind a step
pub record Behind (c : Case) (s : Spot) (C : Coord) : Type 0 where
  pub coord : KnowsCoord c s C
  pub asks : KnowsAsks c C
  pub ends : KnowsEnds C

module _ (c : Case) (s : Spot) (is_seen : IsSeenIn c (world_at s)) where
  abbrev f : Fixed
  f = c.fixed

  abbrev C : Coord
  C = coord_at s

  abbrev g : Family
  g = family_of f c.begun

  pub placed : IsPlaced g C
  placed = record { whole = (let a = is_seen.agrees in a.whole); good = (let n = good_node c s is_seen in n.coord) }

  pub here : SeesUp (view_in c s.node) c.state s.disk s.parts
  here = here_of f c.x c.begun s.node s.disk (Some s.parts) c.state s.seen is_seen.sees

  pub reached_S : IsReached c.state
  reached_S = let z = is_seen.sees in (f.first, z.run)

  -- where it goes on, and is good and sure
  pub behind_step : (D : Coord) → GoesOn C D → IsGoodCoord c.begun f.paths D → IsSure D → KnowsAfter c D → Behind c s D
  behind_step D on good sure after = record {
    coord = record {
      on = on;
      good = good;
      sure = sure;
      unserial = λ r. listed_unserial g D r (record { whole = placed.whole; good = good }) after.ends;
    };
    asks = after.asks;
    ends = after.ends;
  }

  module _ (u : Uid) (b : Branch) (there : branch_of u C.tree ≡ Some b) where
    pub topped : b.kind ≢ kind.Serial → top (f.act u) ≡ f.act (top_of b.path)
    topped unserial =
        actions_topped g C placed u b there (action_kind (f.act u) b.kind unserial (let z = steady c s is_seen in z.placed u b there))

    pub working : (d : Doing) → is_some b.ended ≡ false → doing_of u C ≡ Some d → IsLone f.paths u C → b.kind ≢ kind.Serial →
        IsWorking c s u b d
    working d unended works lone unserial =
        record { steady = steady c s is_seen; there = there; unended = unended; works = works; lone = lone; topped = topped unserial }

    -- it waits in a step of a call or an include
    module _ (waits : KnowsWaits C) (d : Doing) (w : Steps) (works : doing_of u C ≡ Some d) (is : d.now ≡ Calling w) where
      asking : IsAsking C.tree u w.path
      asking = subst (IsBusy C.tree u) is (placed.good.busy u d works)

      same_branch : asking.branch ≡ b
      same_branch = let two : ◌≡◌ {A = Option Branch} (Some asking.branch) (Some b) = sym asking.found ∙ there in cc two

      pub waits_in : IsWaiting b d w
      waits_in = record {
        calling = is;
        path = sym asking.path ∙ ap (λ (q : Branch). q.path) same_branch;
        last = subst (IsNumbered d.req) is (let i = its c s is_seen in i.numbered u d works);
      }

      pub works_in : IsWorking c s u b d
      works_in = working d (ap (λ (q : Branch). is_some q.ended) (sym same_branch) ∙ asking.opened) works (waiters_alone g C u d placed
          waits works (ap is_waiting_now is)) (λ serial. asking.unserial (ap (λ (q : Branch). q.kind) same_branch ∙ serial))

    -- it is at its commit
    pub at_commit : (d : Doing) (m : Machine) → doing_of u C ≡ Some d → d.now ≡ Committing m → IsAtCommit s u b d m
    at_commit d m works is = record {
      there = there;
      unended = ap (λ (q : Branch). is_some q.ended) (sym same_branch) ∙ asking.opened;
      works = works;
      at = is;
      number = at_least;
    }
      where
        asking : IsAsking C.tree u (let p = plan_of m in p.path)
        asking = let v : IsVoting C.tree u (plan_of m) = subst (IsBusy C.tree u) is (placed.good.busy u d works) in v.asking

        same_branch : asking.branch ≡ b
        same_branch = let two : ◌≡◌ {A = Option Branch} (Some asking.branch) (Some b) = sym asking.found ∙ there in cc two

        at_least : d.req ≤ (let p = plan_of m in p.req)
        at_least = let z = (subst (IsNumbered d.req) is (let i = its c s is_seen in i.numbered u d works)).0 in omega (arith, z)
