-- How a world goes on within an event, piece by piece.
use Rattle.std.proofs.Common.{◌≡◌, inl, inr, ℕ, ◌-◌, ◌≤◌, true, List, [], refl, ap, sym, ◌∙◌, subst, Option, Some, None, arith}
use Rattle.std.specs.Prelude.{option_map}
use Rattle.arj_protocol.specs.Step.{Node, Input, step, refusal, refusal_at, is_about_action}
use Rattle.arj_protocol.specs.Step as input
use Rattle.arj_protocol.specs.Tree.{at_place}
use Rattle.arj_protocol.specs.Words.{Header}
use Rattle.arj_protocol.specs.World.{World, Arm, count_works, done_step, steps}
use Rattle.arj_world.specs.Goes.{Begins, Goes, Reaches, StepsOne, Went, arms_of, is_no_restart, left_of}
use Rattle.arj_world.specs.Turns.{FallAtWorks, with_arms}
use Rattle.arj_world.proofs.Arms.{alike, all_from, none_of}
use Rattle.arj_world.proofs.Reach.{goes_on, goes_down}

pub no_none : (x : ℕ) → Some x ≡ None → ⊥
no_none x e = cc e

-- at an event's beginning no node has done anything
abbrev pub start : (most : ℕ) (go : World → World) (w : World) → Reaches most go w go w
start most go w = record {
  done = λ k. Some 0;
  pick = λ f. f;
  works = λ f admits. admits;
  down = λ k n none at. absurd (no_none 0 none);
  same = λ f admits. ap (λ arms. go (with_arms arms w)) (alike most 1 f (left_of (λ k. Some 0) f) (λ n. whole (f n)));
}
  where
    whole : (o : Option Arm) → o ≡ option_map (λ (a : Arm). record a { works = a.works - 0 }) o
    whole None = refl
    whole (Some a) = ap (λ (x : ℕ). Some (record a { works = x })) (omega arith)

-- at its end no stop is still to fall
pub finish : (most : ℕ) (run : World → World) (first now : World) (r : Reaches most run first (λ v. v) now) →
    run (with_arms (arms_of most (r.pick (λ k. None))) first) ≡ with_arms [] now
finish most run first now r =
    r.same (λ k. None) (λ n a is. absurd (cc is)) ∙ ap (λ arms. with_arms arms now) (none_of most 1 (left_of r.done (λ k. None)) (λ n. refl))

-- and each stop that fell fell at a work
pub fallen : (most : ℕ) (run rest : World → World) (first now : World) (r : Reaches most run first rest now) →
    FallAtWorks (arms_of most (r.pick (λ k. None)))
fallen most run rest first now r = all_from most 1 (r.pick (λ k. None)) (r.works (λ k. None) (λ n a is. absurd (cc is)))

-- ---- from piece to piece

module _ (most : ℕ) where
  -- what is left of one piece is done by the next
  pub onward : (go left after : World → World) (w : World) (P Q : World → Type 0) → (g : Goes most go left w P) →
      Goes most left after g.now Q → Goes most go after w Q
  onward go left after w P Q g h = record {
    now = h.now;
    stands = h.stands;
    reaches = λ run rest first r. h.reaches run rest first (g.reaches run rest first r);
  }

  -- one piece, and then another one
  pub behind : (go left after : World → World) (w : World) (P : World → Type 0) → Goes most go left w P →
      Goes most (λ v. after (go v)) (λ v. after (left v)) w P
  behind go left after w P g =
      record { now = g.now; stands = g.stands; reaches = λ run rest first r. g.reaches run (λ v. rest (after v)) first r }

  -- nothing is done
  pub stays : (go : World → World) (w : World) (P : World → Type 0) → P w → Goes most go go w P
  stays go w P p = record { now = w; stands = p; reaches = λ run rest first r. r }

  -- two ways to say what is done, which are one whatever arms there are
  pub as_well : (go other left : World → World) (w : World) (P : World → Type 0) →
      ((arms : List (ℕ × Arm)) → go (with_arms arms w) ≡ other (with_arms arms w)) → Goes most other left w P → Goes most go left w P
  as_well go other left w P same g = record {
    now = g.now;
    stands = g.stands;
    reaches = λ run rest first r. g.reaches run rest first (record {
      done = r.done;
      pick = r.pick;
      works = r.works;
      down = r.down;
      same =
          λ f admits. r.same f admits ∙ ap rest (same (arms_of most (left_of r.done f)));
    });
  }

  -- something is done that doesn't look at arms, and leaves the nodes
  pub plainly : (go : World → World) (w : World) (P : World → Type 0) →
      ((arms : List (ℕ × Arm)) → go (with_arms arms w) ≡ with_arms arms (go w)) → (go w).nodes ≡ w.nodes → P (go w) →
      Goes most go (λ v. v) w P
  plainly go w P same nodes p = record {
    now = go w;
    stands = p;
    reaches = λ run rest first r. record {
      done = r.done;
      pick = r.pick;
      works = r.works;
      down = λ k n none at. r.down k n none (ap (at_place k) (sym nodes) ∙ at);
      same = λ f admits. r.same f admits ∙ ap rest (same (arms_of most (left_of r.done f)));
    };
  }

  pub begins : (go : World → World) (w : World) (P : World → Type 0) → Goes most go (λ v. v) w P → Begins most go w P
  begins go w P g = record { now = g.now; stands = g.stands; reaches = g.reaches go (λ v. v) w (start most go w) }

  -- ---- a step of a node

  idle : (h : Header) (i : Input) (n : Node) → is_no_restart i ≡ true → n.live ≡ None →
      ((step h n i).after.live ≡ None) × (count_works (step h n i).halting ≡ 0)
  idle h i n other down =
      subst (λ live. ((step h (record n { live = live }) i).after.live ≡ None) × (count_works (step h (record n {
        live =
            live;
      }) i).halting ≡ 0)) (sym down) (by i other)
    where
      by : (j : Input) → is_no_restart j ≡ true →
          ((step h (record n { live = None }) j).after.live ≡ None) × (count_works (step h (record n { live = None }) j).halting ≡ 0)
      by (input.Begin l k parent) o = (refl, refl)
      by (input.Call l x op) o = (refl, refl)
      by (input.Include l x s) o = (refl, refl)
      by (input.Commit l) o = (refl, refl)
      by (input.Abort l) o = (refl, refl)
      by (input.GiveUp l) o = (refl, refl)
      by (input.Frame k from m) o = (refl, refl)
      by input.Tick o = (refl, refl)
      by input.Restart o = absurd (cc o)
      by input.Crash o = (refl, refl)
      by (input.Show x) o = (refl, refl)

  pub one_step : (k : ℕ) (i : Input) (w : World) (P : World → Type 0) → 1 ≤ k → k ≤ most → is_no_restart i ≡ true → StepsOne k i w P →
      Goes most (steps k i) (λ v. v) w P
  one_step k i w P low high other s = by s.went
    where
      n : Node
      n = s.node

      by : Went k i w P n → Goes most (steps k i) (λ v. v) w P
      by (inl p) = record {
        now = done_step k (step w.header n i) w;
        stands = p;
        reaches = λ run rest first r. goes_on most k low high i n w s.here run rest first r (λ none. idle w.header i n other (r.down k n none s.here));
      }
      by (inr q) = record {
        now = _;
        stands = q.3;
        reaches = λ run rest first r. goes_down most k low high i n w s.here run rest first r q.0 q.1 q.2 (λ none. (idle w.header i n other (r.down k n none s.here)).1);
      }

  -- also a restart, at an event's beginning
  pub first_step : (k : ℕ) (i : Input) (w : World) (P : World → Type 0) → 1 ≤ k → k ≤ most → StepsOne k i w P → Begins most (steps k i) w P
  first_step k i w P low high s = by s.went
    where
      n : Node
      n = s.node

      by : Went k i w P n → Begins most (steps k i) w P
      by (inl p) = record {
        now = done_step k (step w.header n i) w;
        stands = p;
        reaches = goes_on most k low high i n w s.here (steps k i) (λ v. v) w (start most (steps k i) w) (λ none. absurd (no_none 0 none));
      }
      by (inr q) = record {
        now = _;
        stands = q.3;
        reaches = goes_down most k low high i n w s.here (steps k i) (λ v. v) w (start most (steps k i) w) q.0 q.1 q.2 (λ none. absurd (no_none 0 none));
      }
