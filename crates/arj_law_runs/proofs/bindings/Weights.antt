-- What effects of a node weigh: its lines of new bindings, and the Binds that it sends to itself.
use Rattle.arj_law_parts.proofs.Words
use Words.{◌≡◌, ◌≤◌, ◌==◌, ◌+◌, ℕ, Bool, true, false, cond, List, [], ◌∷◌, ◌++◌, map, Option, Some, None, refl, sym, ◌∙◌, ap, arith, ⊤}
use Words.{if◌then◌else◌, AllByRecursion, flat_map, list_all, and_parts, Ask, Body, Head, Message, asks, request, Do, Effect, Say, Send}
use Words.{AreAll}
use Words.ask
use Words.body
use Rattle.arj_law_runs.proofs.Terms.{bound_by}

-- 1 for a Bind, 0 for anything else
abbrev pub bind_ask : Ask → ℕ
bind_ask (ask.Bind x include avoid) = 1
bind_ask _ = 0

abbrev pub bind_by : Option (Head × Ask) → ℕ
bind_by None = 0
bind_by (Some a) = bind_ask a.1

abbrev pub binds : Message → ℕ
binds m = bind_by (asks m)

abbrev pub weight : ℕ → Effect → ℕ
weight n (Say b) = bound_by b
weight n (Send to m) = if to == n then binds m else 0
weight n (Do w) = 0

abbrev pub weigh : ℕ → List Effect → ℕ
weigh n [] = 0
weigh n (e ∷ es) = weight n e + weigh n es

three : (a b c : ℕ) → a + (b + c) ≡ a + b + c
three a b c = omega arith

pub weigh_both : (n : ℕ) (es fs : List Effect) → weigh n (es ++ fs) ≡ weigh n es + weigh n fs
weigh_both n [] fs = none (weigh n fs)
  where
    none : (k : ℕ) → k ≡ 0 + k
    none k = omega arith
weigh_both n (e ∷ es) fs = ap (λ k. weight n e + k) (weigh_both n es fs) ∙ three (weight n e) (weigh n es) (weigh n fs)

ask_few : (a : Ask) → bind_ask a ≤ 1
ask_few (ask.Bind x i avoid) = omega arith
ask_few (ask.Load x) = omega arith
ask_few (ask.Activate b st) = omega arith
ask_few (ask.Record x b i g) = omega arith
ask_few (ask.Invoke x b i ends op) = omega arith
ask_few (ask.Vote i ties ends) = omega arith
ask_few (ask.Prepare states) = omega arith
ask_few (ask.Confirm g ex inc) = omega arith

pub binds_few : (m : Message) → binds m ≤ 1
binds_few m = by (asks m)
  where
    by : (o : Option (Head × Ask)) → bind_by o ≤ 1
    by None = omega arith
    by (Some a) = ask_few a.1

-- one message
pub sent_few : (n to : ℕ) (m : Message) → weigh n (Send to m ∷ []) ≤ 1
sent_few n to m = by (to == n) (binds_few m)
  where
    by : (b : Bool) → binds m ≤ 1 → cond b (binds m) 0 + 0 ≤ 1
    by true few = omega (arith, few)
    by false few = omega arith

-- ---- what weighs nothing

-- it sends no Bind
abbrev pub IsNoBind : Effect → Type 0
IsNoBind (Say b) = ⊤
IsNoBind (Send to m) = binds m ≡ 0
IsNoBind (Do w) = ⊤

abbrev pub NoBinds : List Effect → Type 0
NoBinds outs = AllByRecursion IsNoBind outs

-- and it says no new binding
abbrev pub IsLight : Effect → Type 0
IsLight (Say b) = bound_by b ≡ 0
IsLight (Send to m) = binds m ≡ 0
IsLight (Do w) = ⊤

abbrev pub AllLight : List Effect → Type 0
AllLight outs = AllByRecursion IsLight outs

module _ (P : Effect → Type 0) where
  pub every_both : (es fs : List Effect) → AllByRecursion P es → AllByRecursion P fs → AllByRecursion P (es ++ fs)
  every_both [] fs a b = b
  every_both (e ∷ es) fs a b = (a.0, every_both es fs a.1 b)

  pub every_flat : {A : Type 0} (f : A → List Effect) (items : List A) → ((a : A) → AllByRecursion P (f a)) →
      AllByRecursion P (flat_map f items)
  every_flat f [] each = tt
  every_flat f (a ∷ rest) each = every_both (f a) (flat_map f rest) (each a) (every_flat f rest each)

  pub every_map : {A : Type 0} (f : A → Effect) (items : List A) → ((a : A) → P (f a)) → AllByRecursion P (map f items)
  every_map f [] each = tt
  every_map f (a ∷ rest) each = (each a, every_map f rest each)

pub light_weighs : (n : ℕ) (outs : List Effect) → AllLight outs → weigh n outs ≡ 0
light_weighs n [] light = refl
light_weighs n (Say b ∷ es) light = both (bound_by b) (weigh n es) light.0 (light_weighs n es light.1)
  where
    both : (a b : ℕ) → a ≡ 0 → b ≡ 0 → a + b ≡ 0
    both a b x y = omega (arith, x, y)
light_weighs n (Send to m ∷ es) light = by (to == n) (binds m) (weigh n es) light.0 (light_weighs n es light.1)
  where
    by : (q : Bool) (a b : ℕ) → a ≡ 0 → b ≡ 0 → cond q a 0 + b ≡ 0
    by true a b x y = omega (arith, x, y)
    by false a b x y = omega (arith, y)
light_weighs n (Do w ∷ es) light = both (weigh n es) (light_weighs n es light.1)
  where
    both : (b : ℕ) → b ≡ 0 → 0 + b ≡ 0
    both b y = omega (arith, y)

pub weighs_less : (n k : ℕ) (outs : List Effect) → AllLight outs → weigh n outs ≤ k
weighs_less n k outs light = less (weigh n outs) (light_weighs n outs light)
  where
    less : (a : ℕ) → a ≡ 0 → a ≤ k
    less a is = omega (arith, is)

-- a line of a kind to which new bindings don't belong is none
pub other_line : (test : Body → Bool) → ((x : ℕ) (b : _) (s : ℕ) → test (body.Bound x b s) ≡ false) → (b : Body) → test b ≡ true →
    bound_by b ≡ 0
other_line test none (body.Began a b c d) is = refl
other_line test none (body.Ok a b c d) is = refl
other_line test none (body.Includes a b c) is = refl
other_line test none (body.Conflict a b c d) is = refl
other_line test none (body.Lost a b) is = refl
other_line test none (body.Changed a b c) is = refl
other_line test none (body.Committing a) is = refl
other_line test none (body.Committed a) is = refl
other_line test none (body.Ended a) is = refl
other_line test none (body.Aborted a b) is = refl
other_line test none (body.GaveUp a b) is = refl
other_line test none (body.Excluded a b c) is = refl
other_line test none (body.Granted a b c d) is = refl
other_line test none (body.Lowered a b c) is = refl
other_line test none (body.Bound a b c) is = absurd (cc (sym is ∙ none a b c))
other_line test none (body.Active a b c) is = refl
other_line test none (body.Told a b c d) is = refl
other_line test none (body.Prepared a b c) is = refl
other_line test none (body.Done a b c d) is = refl
other_line test none (body.Sent a b c d) is = refl
other_line test none (body.Got a) is = refl
other_line test none (body.Void a) is = refl
other_line test none (body.Dropped a) is = refl
other_line test none (body.Halted a) is = refl
other_line test none (body.Up a b) is = refl
other_line test none (body.Armed a) is = refl
other_line test none (body.Recovered a b) is = refl
other_line test none (body.Refused a) is = refl
other_line test none (body.Entry a b c d) is = refl
other_line test none (body.Copy a b c d e) is = refl
other_line test none (body.Quiet a) is = refl
other_line test none (body.Bad a) is = refl
other_line test none (body.Limit a) is = refl

-- effects of a kind to which new bindings don't belong, without a Bind
pub class_light : (test : Effect → Bool) (line : Body → Bool) → ((b : Body) → test (Say b) ≡ line b) →
    ((x : ℕ) (b : _) (s : ℕ) → line (body.Bound x b s) ≡ false) → (outs : List Effect) → AreAll test outs → NoBinds outs → AllLight outs
class_light test line same none [] all no_binds = tt
class_light test line same none (Say b ∷ es) all no_binds = let own = and_parts (test (Say b)) (list_all test es) all in
    (other_line line none b (sym (same b) ∙ own.0), class_light test line same none es own.1 no_binds.1)
class_light test line same none (Send to m ∷ es) all no_binds =
    (no_binds.0, class_light test line same none es (and_parts (test (Send to m)) (list_all test es) all).1 no_binds.1)
class_light test line same none (Do w ∷ es) all no_binds =
    (tt, class_light test line same none es (and_parts (test (Do w)) (list_all test es) all).1 no_binds.1)

-- what is of a kind that never sends sends no Bind
pub unsent : (test : Effect → Bool) → ((to : ℕ) (m : Message) → test (Send to m) ≡ false) → (outs : List Effect) → AreAll test outs →
    NoBinds outs
unsent test none [] all = tt
unsent test none (Say b ∷ es) all = (tt, unsent test none es (and_parts (test (Say b)) (list_all test es) all).1)
unsent test none (Send to m ∷ es) all = absurd (cc (sym (and_parts (test (Send to m)) (list_all test es) all).0 ∙ none to m))
unsent test none (Do w ∷ es) all = (tt, unsent test none es (and_parts (test (Do w)) (list_all test es) all).1)

-- a request that is no Bind
pub request_no_bind : (h : Head) (a : Ask) → bind_ask a ≡ 0 → binds (request h a) ≡ 0
request_no_bind h (ask.Bind x i avoid) none = absurd (cc none)
request_no_bind h (ask.Load x) none = refl
request_no_bind h (ask.Activate b st) none = refl
request_no_bind h (ask.Record x b i g) none = refl
request_no_bind h (ask.Invoke x b i ends op) none = refl
request_no_bind h (ask.Vote i ties ends) none = refl
request_no_bind h (ask.Prepare states) none = refl
request_no_bind h (ask.Confirm g ex inc) none = refl
