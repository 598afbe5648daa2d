-- The step that follows a vote, from its lists.
use Rattle.std.proofs.Common.{◌≡◌, ℕ, ◌+◌, ◌≤◌, List, [], ◌∷◌, Bool, true, false, ◌||◌, Option, Some, None, if◌then◌else◌, is_some, nat_lt}
use Rattle.std.proofs.Common.{refl, sym, ap, ◌∙◌, arith}
use Rattle.std.specs.List.{flat_map, list_any, AllByRecursion, find}
use Rattle.arj_base.specs.declared.state.ObjectState.{ObjectState}
use Rattle.arj_base.specs.Uid.{uid_eq, object}
use Rattle.arj_protocol.specs.Order.{number_set}
use Rattle.arj_protocol.specs.Commit.{Used, Plan, stores_by, targets_of, with_state, with_states, begin_prepare, begin_confirm}
use Rattle.arj_commit.specs.Fits.{IsNode, PlanFits}
use Rattle.arj_commit.specs.Plans.{with_changed}
use Rattle.arj_commit.specs.Sets.{is_among, stores_if, targets_with}
use Rattle.arj_commit.specs.Steps.{next_of, entered, begun, MayEnter, AwaitsAll}
use Rattle.arj_commit.specs.declared.limits.TheConstants.{LAST_START}
use Rattle.arj_commit.proofs.Nodes.{targets_nodes}

-- ---- the stores that are asked

found_any : (t : ObjectState → Bool) (ss : List ObjectState) → is_some (find t ss) ≡ list_any t ss
found_any t [] = refl
found_any t (s ∷ ss) = by (t s) (found_any t ss)
  where
    by : (b : Bool) → is_some (find t ss) ≡ list_any t ss → is_some (if b then Some s else find t ss) ≡ (b || list_any t ss)
    by true rest = refl
    by false rest = rest

swap : (a b c : Bool) → (a || (b || c)) ≡ (b || (a || c))
swap true true c = refl
swap true false c = refl
swap false b c = refl

any_with : (t : ObjectState → Bool) (s : ObjectState) (all : List ObjectState) → list_any t (with_state s all) ≡ (t s || list_any t all)
any_with t s [] = refl
any_with t s (x ∷ xs) = by (nat_lt x.uid.num s.uid.num) (any_with t s xs)
  where
    by : (b : Bool) → list_any t (with_state s xs) ≡ (t s || list_any t xs)
        → list_any t (if b then x ∷ with_state s xs else s ∷ x ∷ xs) ≡ (t s || (t x || list_any t xs))
    by true rest = ap (λ c. t x || c) rest ∙ swap (t x) (t s) (list_any t xs)
    by false rest = refl

assoc : (a b c : Bool) → (a || (b || c)) ≡ ((b || a) || c)
assoc true true c = refl
assoc true false c = refl
assoc false true c = refl
assoc false false c = refl

any_withs : (t : ObjectState → Bool) (ss all : List ObjectState) → list_any t (with_states ss all) ≡ (list_any t ss || list_any t all)
any_withs t [] all = refl
any_withs t (s ∷ ss) all =
    any_withs t ss (with_state s all) ∙ ap (λ c. list_any t ss || c) (any_with t s all) ∙ assoc (list_any t ss) (t s) (list_any t all)

stores_is : (u : Used) (o : Option ObjectState) → stores_if (is_some o) u ≡ stores_by u o
stores_is u None = refl
stores_is u (Some s) = refl

asks_same : (more changed : List ObjectState) (u : Used)
    → stores_if (is_among more u.x || is_among changed u.x) u ≡ stores_by u (find (λ s. uid_eq s.uid (object u.x)) (with_states more changed))
asks_same more changed u =
    let t : ObjectState → Bool = λ s. uid_eq s.uid (object u.x) in
    ap (λ b. stores_if b u) (sym (found_any t (with_states more changed) ∙ any_withs t more changed)) ∙ stores_is u (find t (with_states more changed))

pub targets_same : (more : List ObjectState) (p : Plan) → targets_with more p.changed p.used ≡ targets_of (with_changed more p)
targets_same more p = λ i. number_set (flat_map (λ u. asks_same more p.changed u i) p.used)

-- ---- the step

next_confirm : (more : List ObjectState) (p : Plan) (us : List Used) →
    next_of (begin_confirm us p) ≡ next_of (begin_confirm us (with_changed more p))
next_confirm more p [] = refl
next_confirm more p (u ∷ us) = refl

next_prepare : (more : List ObjectState) (p : Plan) (ts : List ℕ) →
    next_of (begin_prepare ts p) ≡ next_of (begin_prepare ts (with_changed more p))
next_prepare more p [] = next_confirm more p p.used
next_prepare more p (t ∷ ts) = refl

-- what follows is the same whether the plan has the new states already or not
pub next_votes : (more : List ObjectState) (p : Plan)
    → next_of (begin_prepare (targets_with more p.changed p.used) p) ≡ next_of (begin_prepare (targets_of (with_changed more p)) (with_changed more p))
next_votes more p = ap (λ ts. next_of (begin_prepare ts p)) (targets_same more p) ∙ next_prepare more p (targets_of (with_changed more p))

may_confirm : (p : Plan) (us : List Used) → p.req ≤ LAST_START + 1 → MayEnter p (next_of (begin_confirm us p))
may_confirm p [] room = tt
may_confirm p (u ∷ us) room = omega (arith, room)

may_prepare : (p : Plan) (ts : List ℕ) → AllByRecursion IsNode ts → p.req ≤ LAST_START + 1 → MayEnter p (next_of (begin_prepare ts p))
may_prepare p [] nodes room = may_confirm p p.used room
may_prepare p (t ∷ ts) nodes room = (nodes, room)

pub may_votes : (p : Plan) → PlanFits p → p.req ≤ LAST_START + 1 → MayEnter p (next_of (begin_prepare (targets_of p) p))
may_votes p fits room = may_prepare p (targets_of p) (targets_nodes p fits) room

step_confirm : (p : Plan) (us : List Used) → begin_confirm us p ≡ begun (entered p (next_of (begin_confirm us p)))
step_confirm p [] = refl
step_confirm p (u ∷ us) = refl

pub step_prepare : (p : Plan) (ts : List ℕ) → begin_prepare ts p ≡ begun (entered p (next_of (begin_prepare ts p)))
step_prepare p [] = step_confirm p p.used
step_prepare p (t ∷ ts) = refl

told_confirm : (p : Plan) (us : List Used) → AwaitsAll (entered p (next_of (begin_confirm us p)))
told_confirm p [] = refl
told_confirm p (u ∷ us) = tt

pub told_prepare : (p : Plan) (ts : List ℕ) → AwaitsAll (entered p (next_of (begin_prepare ts p)))
told_prepare p [] = told_confirm p p.used
told_prepare p (t ∷ ts) = tt
