-- How many frames messages lead to in all, whoever takes them: what a message is worth itself, and what is left to do of a call or a
-- commit, that is counted where it is at work.
use Rattle.arj_law_parts.proofs.Words
use Words.{◌≡◌, ◌≤◌, ◌<◌, ◌∙◌, ◌+◌, ◌*◌, ◌==◌, ◌&&◌, not, ℕ, zero, suc, Bool, true, false, cond, List, [], ◌∷◌, ◌++◌, map, filter, length}
use Words.{refl, sym, ap, subst, arith, nat_tests, nat_le, slice_get, slice_set, AllByRecursion, Option, Some, None, flat_map, and_parts}
use Words.{Body, Coord, Disk, Do, Doing, Effect, Label, Message, Say, Send, Uid, End, Intent, doing_of, says, say_for, tell_all}
use Words.{query_about}
use Words.{At, Steps, Now, Idle, Calling, Committing, Machine, Voting, Preparing, Confirming, on_doing, change_doing, is_own, at_place}
use Words.calls
use Words.message
use Rattle.arj_law_parts.proofs.parts.Numbered.{AreUp}
use Rattle.arj_law_cause.proofs.quiesces.Sends.{count_sent}

-- ---- sums

abbrev pub sum_of : {A : Type 0} → (A → ℕ) → List A → ℕ
sum_of f [] = 0
sum_of f (x ∷ xs) = f x + sum_of f xs

pub sum_both : {A : Type 0} (f : A → ℕ) (xs ys : List A) → sum_of f (xs ++ ys) ≡ sum_of f xs + sum_of f ys
sum_both f [] ys = none (sum_of f ys)
  where
    none : (a : ℕ) → a ≡ 0 + a
    none a = omega arith
sum_both f (x ∷ xs) ys = ap (λ a. f x + a) (sum_both f xs ys) ∙ three (f x) (sum_of f xs) (sum_of f ys)
  where
    three : (a b c : ℕ) → a + (b + c) ≡ (a + b) + c
    three a b c = omega arith

-- one in place of another
pub sum_set : {A : Type 0} (f : A → ℕ) (i : ℕ) (x y : A) (xs : List A) → slice_get xs i ≡ Some x →
    sum_of f (slice_set xs i y) + f x ≡ sum_of f xs + f y
sum_set {A} f i x y [] is = let no_way : ◌≡◌ {A = Option A} None (Some x) = is in absurd (cc no_way)
sum_set {A} f zero x y (z ∷ zs) is =
    let same : z ≡ x = (let s : ◌≡◌ {A = Option A} (Some z) (Some x) = is in cc s) in
    swap (f y) (sum_of f zs) (f x) (f z) (ap f same)
  where
    swap : (a b c e : ℕ) → e ≡ c → (a + b) + c ≡ (e + b) + a
    swap a b c e is = omega (arith, is)
sum_set f (suc i) x y (z ∷ zs) is = more (f z) (sum_of f (slice_set zs i y)) (f x) (sum_of f zs) (f y) (sum_set f i x y zs is)
  where
    more : (a b c e g : ℕ) → b + c ≡ e + g → (a + b) + c ≡ (a + e) + g
    more a b c e g is = omega (arith, is)

-- ---- so many times

abbrev pub times : ℕ → ℕ → ℕ
times a zero = 0
times a (suc k) = a + times a k

pub times_is : (a k : ℕ) → times a k ≡ a * k
times_is a zero = none a
  where
    none : (a : ℕ) → 0 ≡ a * 0
    none a = grind arith
times_is a (suc k) = ap (λ b. a + b) (times_is a k) ∙ next a k
  where
    next : (a k : ℕ) → a + a * k ≡ a * suc k
    next a k = grind arith

pub times_more : (a b k : ℕ) → a ≤ b → times a k ≤ times b k
times_more a b zero le = omega arith
times_more a b (suc k) le = both a b (times a k) (times b k) le (times_more a b k le)
  where
    both : (a b c e : ℕ) → a ≤ b → c ≤ e → a + c ≤ b + e
    both a b c e x y = omega (arith, x, y)

pub times_longer : (a k l : ℕ) → k ≤ l → times a k ≤ times a l
times_longer a zero l le = least (times a l)
  where
    least : (b : ℕ) → 0 ≤ b
    least b = omega arith
times_longer a (suc k) zero le = absurd (never k le)
  where
    never : (b : ℕ) → suc b ≤ 0 → ⊥
    never b le = omega (arith, le)
times_longer a (suc k) (suc l) le = both a (times a k) (times a l) (times_longer a k l (lower le))
  where
    lower : suc k ≤ suc l → k ≤ l
    lower le = omega (arith, le)

    both : (a c e : ℕ) → c ≤ e → a + c ≤ a + e
    both a c e x = omega (arith, x)

-- ---- messages

-- What a message leads to, with so many nodes, and where a hello leads to so many: an answer to a request; to a told that asks for it an
-- acknowledgement, and to that one told for each node, as the end of a serializing action may be told; to a question a told.
abbrev pub lead : ℕ → ℕ → Message → ℕ
lead n hello (message.Told m) = cond m.ack (suc n) 0
lead n hello (message.Acked m) = n
lead n hello (message.Query m) = suc (suc n)
lead n hello (message.Hello m) = hello
lead n hello (message.Bind m) = 1
lead n hello (message.Load m) = 1
lead n hello (message.Activate m) = 1
lead n hello (message.RecordMsg m) = 1
lead n hello (message.Invoke m) = 1
lead n hello (message.Vote m) = 1
lead n hello (message.Prepare m) = 1
lead n hello (message.Confirm m) = 1
lead n hello m = 0

-- a node of so many
abbrev pub inside : ℕ → ℕ → Bool
inside n to = nat_le 1 to && nat_le to n

-- how many of these numbers are of nodes
abbrev pub count_in : ℕ → List ℕ → ℕ
count_in n [] = 0
count_in n (m ∷ ms) = cond (inside n m) (suc (count_in n ms)) (count_in n ms)

few_above : (n b : ℕ) (ms : List ℕ) → b ≤ n → AllByRecursion (λ (m : ℕ). b < m) ms → AreUp ms → count_in n ms + b ≤ n
few_above n b [] le above up = none le
  where
    none : b ≤ n → 0 + b ≤ n
    none le = omega (arith, le)
few_above n b (m ∷ ms) le above up = by (inside n m) refl (λ h. few_above n m ms h up.0 up.1) (few_above n b ms le above.1 up.1)
  where
    high : inside n m ≡ true → m ≤ n
    high is = let p = and_parts (nat_le 1 m) (nat_le m n) is in let q = p.1 in grind (arith, nat_tests, q)

    one : (c : ℕ) → c + m ≤ n → b < m → suc c + b ≤ n
    one c le less = omega (arith, le, less)

    by : (x : Bool) → inside n m ≡ x → (m ≤ n → count_in n ms + m ≤ n) → count_in n ms + b ≤ n →
        cond x (suc (count_in n ms)) (count_in n ms) + b ≤ n
    by true is here rest = one (count_in n ms) (here (high is)) above.0
    by false is here rest = rest

fewer_in : (n : ℕ) (test : ℕ → Bool) (ms : List ℕ) → count_in n (filter test ms) ≤ count_in n ms
fewer_in n test [] = omega arith
fewer_in n test (m ∷ ms) = by (test m) (inside n m) (fewer_in n test ms)
  where
    both : (a b : ℕ) → a ≤ b → suc a ≤ suc b
    both a b le = omega (arith, le)

    more : (a b : ℕ) → a ≤ b → a ≤ suc b
    more a b le = omega (arith, le)

    kept : (c : Bool) → count_in n (filter test ms) ≤ count_in n ms →
        cond c (suc (count_in n (filter test ms))) (count_in n (filter test ms)) ≤ cond c (suc (count_in n ms)) (count_in n ms)
    kept true le = both (count_in n (filter test ms)) (count_in n ms) le
    kept false le = le

    gone : (c : Bool) → count_in n (filter test ms) ≤ count_in n ms →
        count_in n (filter test ms) ≤ cond c (suc (count_in n ms)) (count_in n ms)
    gone true le = more (count_in n (filter test ms)) (count_in n ms) le
    gone false le = le

    by : (x c : Bool) → count_in n (filter test ms) ≤ count_in n ms →
        count_in n (cond x (m ∷ filter test ms) (filter test ms)) ≤ count_in n (m ∷ ms)
    by true c le = kept (inside n m) le
    by false c le = gone (inside n m) le

-- of increasing numbers there are no more than nodes
pub few_in : (n : ℕ) (ms : List ℕ) → AreUp ms → count_in n ms ≤ n
few_in n [] up = omega arith
few_in n (m ∷ ms) up = by (inside n m) refl (few_in n ms up.1)
  where
    high : inside n m ≡ true → (1 ≤ m) × (m ≤ n)
    high is = let p = and_parts (nat_le 1 m) (nat_le m n) is in
        ((let q = p.0 in grind (arith, nat_tests, q)), (let q = p.1 in grind (arith, nat_tests, q)))

    one : (c : ℕ) → c + m ≤ n → 1 ≤ m → suc c ≤ n
    one c le some = omega (arith, le, some)

    by : (x : Bool) → inside n m ≡ x → count_in n ms ≤ n → cond x (suc (count_in n ms)) (count_in n ms) ≤ n
    by true is rest = let h = high is in one (count_in n ms) (few_above n m ms h.1 up.0 up.1) h.0
    by false is rest = rest

pub few_but : (n : ℕ) (test : ℕ → Bool) (ms : List ℕ) → AreUp ms → count_in n (filter test ms) ≤ n
few_but n test ms up = less (count_in n (filter test ms)) (count_in n ms) (fewer_in n test ms) (few_in n ms up)
  where
    less : (a b : ℕ) → a ≤ b → b ≤ n → a ≤ n
    less a b x y = omega (arith, x, y)

-- ---- effects

-- With `n` nodes, of node `k`. A hello leads to `hello`, and one that the node sends to itself to `own`.
module _ (n k hello own : ℕ) where
  abbrev pub worth : ℕ → Message → ℕ
  worth to m = lead n (cond (to == k) own hello) m

  -- a message to a node, and what it leads to
  abbrev pub cost : ℕ → Message → ℕ
  cost to m = cond (inside n to) (suc (worth to m)) 0

  abbrev pub load : List Effect → ℕ
  load [] = 0
  load (Send to m ∷ es) = cost to m + load es
  load (Say b ∷ es) = load es
  load (Do w ∷ es) = load es

  pub load_both : (es fs : List Effect) → load (es ++ fs) ≡ load es + load fs
  load_both [] fs = none (load fs)
    where
      none : (a : ℕ) → a ≡ 0 + a
      none a = omega arith
  load_both (Send to m ∷ es) fs = ap (λ a. cost to m + a) (load_both es fs) ∙ three (cost to m) (load es) (load fs)
    where
      three : (a b c : ℕ) → a + (b + c) ≡ (a + b) + c
      three a b c = omega arith
  load_both (Say b ∷ es) fs = load_both es fs
  load_both (Do w ∷ es) fs = load_both es fs

  pub unsent : (es : List Effect) → count_sent es ≡ 0 → load es ≡ 0
  unsent [] none = refl
  unsent (Send to m ∷ es) none = never (count_sent es) none
    where
      never : {A : Type 0} (a : ℕ) → 1 + a ≡ 0 → A
      never a is = absurd (omega (arith, is))
  unsent (Say b ∷ es) none = unsent es none
  unsent (Do w ∷ es) none = unsent es none

  pub costs : (a to : ℕ) (m : Message) → ((z : ℕ) → lead n z m ≤ a) → cost to m ≤ suc a
  costs a to m less = by (inside n to)
    where
      more : (b : ℕ) → b ≤ a → suc b ≤ suc a
      more b le = omega (arith, le)

      none : (b : ℕ) → 0 ≤ suc b
      none b = omega arith

      by : (b : Bool) → cond b (suc (worth to m)) 0 ≤ suc a
      by true = more (worth to m) (less (cond (to == k) own hello))
      by false = none a

  pub one_load : (a to : ℕ) (m : Message) → ((z : ℕ) → lead n z m ≤ a) → load (Send to m ∷ []) ≤ suc a
  one_load a to m less = none (cost to m) (suc a) (costs a to m less)
    where
      none : (b c : ℕ) → b ≤ c → b + 0 ≤ c
      none b c le = omega (arith, le)

  -- behind what sends nothing
  pub behind_none : (es fs : List Effect) (a : ℕ) → load es ≡ 0 → load fs ≤ a → load (es ++ fs) ≤ a
  behind_none es fs a none le = both (load (es ++ fs)) (load es) (load fs) (load_both es fs) none le
    where
      both : (x y z : ℕ) → x ≡ y + z → y ≡ 0 → z ≤ a → x ≤ a
      both x y z is none le = omega (arith, is, none, le)

  -- one message to each of these
  pub cost_in : (a to : ℕ) (m : Message) (c : ℕ) (rest : ℕ) → ((z : ℕ) → lead n z m ≤ a) → rest ≤ times (suc a) c →
      cost to m + rest ≤ times (suc a) (cond (inside n to) (suc c) c)
  cost_in a to m c rest less le = by (inside n to)
    where
      more : (b x : ℕ) → b ≤ a → rest ≤ x → suc b + rest ≤ suc a + x
      more b x one two = omega (arith, one, two)

      none : (x : ℕ) → rest ≤ x → 0 + rest ≤ x
      none x two = omega (arith, two)

      by : (b : Bool) → cond b (suc (worth to m)) 0 + rest ≤ times (suc a) (cond b (suc c) c)
      by true = more (worth to m) (times (suc a) c) (less (cond (to == k) own hello)) le
      by false = none (times (suc a) c) le

  pub each_in : (f : ℕ → Message) (a : ℕ) → ((i z : ℕ) → lead n z (f i) ≤ a) → (ns : List ℕ) →
      load (map (λ i. Send i (f i)) ns) ≤ times (suc a) (count_in n ns)
  each_in f a less [] = omega arith
  each_in f a less (i ∷ ns) = cost_in a i (f i) (count_in n ns) (load (map (λ (j : ℕ). Send j (f j)) ns)) (λ z. less i z) (each_in f a
      less ns)

  pub either_in : (f g : ℕ → Message) (test : ℕ → Bool) (a : ℕ) → ((i z : ℕ) → lead n z (f i) ≤ a) → ((i z : ℕ) → lead n z (g i) ≤ a) →
      (ns : List ℕ) → load (map (λ i. cond (test i) (Send i (f i)) (Send i (g i))) ns) ≤ times (suc a) (count_in n ns)
  either_in f g test a less low [] = omega arith
  either_in f g test a less low (i ∷ ns) = by (test i) (either_in f g test a less low ns)
    where
      rest : List Effect
      rest = map (λ (j : ℕ). cond (test j) (Send j (f j)) (Send j (g j))) ns

      by : (b : Bool) → load rest ≤ times (suc a) (count_in n ns) →
          load (cond b (Send i (f i)) (Send i (g i)) ∷ rest) ≤ times (suc a) (count_in n (i ∷ ns))
      by true ih = cost_in a i (f i) (count_in n ns) (load rest) (λ z. less i z) ih
      by false ih = cost_in a i (g i) (count_in n ns) (load rest) (λ z. low i z) ih

  pub all_in : (x a c : ℕ) → x ≤ times a c → c ≤ n → x ≤ times a n
  all_in x a c le few = less x (times a c) (times a n) le (times_longer a c n few)
    where
      less : (x y z : ℕ) → x ≤ y → y ≤ z → x ≤ z
      less x y z one two = omega (arith, one, two)

  -- tolds that ask for no acknowledgement
  pub told_load : (root : Uid) (ends : List (Uid × End)) (ns : List ℕ) → count_in n ns ≤ n → load (tell_all root false ends ns) ≤ times 1 n
  told_load root ends ns few = all_in (load (tell_all root false ends ns)) 1 (count_in n ns)
      (each_in (λ i. message.Told (record { root = root; ack = false; ends = ends })) 0 (λ i z. omega arith) ns) few

  pub said_none : (u : Uid) (f : Label → Body) (c : Coord) → load (says u f c) ≡ 0
  said_none u f c = by (doing_of u c)
    where
      by : (o : Option Doing) → load (say_for f o) ≡ 0
      by None = refl
      by (Some d) = refl

  pub lines_none : {A : Type 0} (u : Uid) (f : A → Label → Body) (c : Coord) (xs : List A) → load (flat_map (λ x. says u (f x) c) xs) ≡ 0
  lines_none u f c [] = refl
  lines_none u f c (x ∷ xs) = both (load (says u (f x) c ++ flat_map (λ z. says u (f z) c) xs)) (load (says u (f x) c))
      (load (flat_map (λ z. says u (f z) c) xs)) (load_both (says u (f x) c) (flat_map (λ z. says u (f z) c) xs)) (said_none u (f x) c)
      (lines_none u f c xs)
    where
      both : (a b e : ℕ) → a ≡ b + e → b ≡ 0 → e ≡ 0 → a ≡ 0
      both a b e is one two = omega (arith, is, one, two)

  -- questions
  pub asks_load : (us : List Uid) → load (map query_about us) ≤ times (suc (suc (suc n))) (length us)
  asks_load [] = omega arith
  asks_load (u ∷ us) = both (cost u.node (message.Query (record { act = u }))) (load (map query_about us))
      (times (suc (suc (suc n))) (length us)) (costs (suc (suc n)) u.node (message.Query (record { act = u })) (λ z. same (suc (suc n))))
      (asks_load us)
    where
      same : (a : ℕ) → a ≤ a
      same a = omega arith

      both : (a b c : ℕ) → a ≤ suc (suc (suc n)) → b ≤ c → a + b ≤ suc (suc (suc n)) + c
      both a b c x y = omega (arith, x, y)

-- ---- what is left to do

-- of a call: two frames for each request that may come still, the request and its answer
abbrev pub steps_left : At → ℕ
steps_left (calls.AtBind b) = 8
steps_left (calls.AtLoad i s rest) = 6
steps_left (calls.AtActivate i st) = 4
steps_left (calls.AtNote i b) = 2
steps_left (calls.AtInvoke i b) = 0

-- of tolds of a decision to each of so many nodes
abbrev pub all_told : ℕ → ℕ
all_told n = times (suc (suc n)) n

-- of a commit: of states prepared, a confirmation, and tolds of its end
abbrev pub machine_left : ℕ → Machine → ℕ
machine_left n (Voting p left) = times 2 n + (2 + all_told n)
machine_left n (Preparing p left) = 2 + all_told n
machine_left n (Confirming p) = all_told n

abbrev pub left_now : ℕ → Now → ℕ
left_now n Idle = 0
left_now n (Calling s) = steps_left s.at
left_now n (Committing m) = machine_left n m

abbrev pub left_of_doing : ℕ → Doing → ℕ
left_of_doing n d = left_now n d.now

-- of all actions at work
abbrev pub left_all : ℕ → List Doing → ℕ
left_all n ds = sum_of (left_of_doing n) ds

-- where what an action is at changes
pub changed : (n : ℕ) (u : Uid) (f : Doing → Doing) (c : Coord) (d : Doing) → doing_of u c ≡ Some d →
    left_all n (on_doing u f c).doings + left_of_doing n d ≡ left_all n c.doings + left_of_doing n (f d)
changed n u f c d found = subst (λ (o : Option Doing). left_all n (change_doing f u c o).doings + left_of_doing n d
    ≡ left_all n c.doings + left_of_doing n (f d)) (sym found) (by (is_own u c.tree) u.num refl found)
  where
    by : (b : Bool) (j : ℕ) → u.num ≡ j → cond b (at_place j c.doings) None ≡ Some d →
        left_all n (Words.set_place u.num (f d) c.doings) + left_of_doing n d ≡ left_all n c.doings + left_of_doing n (f d)
    by false j same is = let no_way : ◌≡◌ {A = Option Doing} None (Some d) = is in absurd (cc no_way)
    by true zero same is = let no_way : ◌≡◌ {A = Option Doing} None (Some d) = is in absurd (cc no_way)
    by true (suc j) same is = subst (λ i. left_all n (Words.set_place i (f d) c.doings) + left_of_doing n d
        ≡ left_all n c.doings + left_of_doing n (f d)) (sym same) (sum_set (left_of_doing n) j d (f d) c.doings is)

-- an action that isn't at work any more leaves nothing to do
pub rested : (n : ℕ) (u : Uid) (f : Doing → Doing) (c : Coord) → ((d : Doing) → left_of_doing n (f d) ≤ left_of_doing n d) →
    left_all n (on_doing u f c).doings ≤ left_all n c.doings
rested n u f c less = by (doing_of u c) refl
  where
    same : (a : ℕ) → a ≤ a
    same a = omega arith

    lower : (a b x y : ℕ) → a + x ≡ b + y → y ≤ x → a ≤ b
    lower a b x y is le = omega (arith, is, le)

    by : (o : Option Doing) → doing_of u c ≡ o → left_all n (on_doing u f c).doings ≤ left_all n c.doings
    by None none = subst (λ (o : Option Doing). left_all n (change_doing f u c o).doings ≤ left_all n c.doings) (sym none)
        (same (left_all n c.doings))
    by (Some d) found = lower (left_all n (on_doing u f c).doings) (left_all n c.doings) (left_of_doing n d) (left_of_doing n (f d))
        (changed n u f c d found) (less d)
