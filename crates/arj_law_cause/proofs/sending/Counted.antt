-- How many frames go to each node, in a world and in a step; and how many are added to the world by it: at most so many to each node but
-- the one that takes the step.
use Rattle.arj_law_parts.proofs.Words
use Words.{◌≡◌, ◌≤◌, ◌<◌, ◌∙◌, ◌+◌, ◌-◌, ◌*◌, ◌==◌, ◌&&◌, ◌++◌, ℕ, zero, suc, Bool, true, false, cond, List, [], ◌∷◌, length, take, refl}
use Words.{sym, ap}
use Words.{subst, arith, nat_tests, nat_le, nat_lt, and_parts, AllByRecursion, Option, Some, None, Disk, Do, Effect, Say, Send}
use Words.{Stop, worked}
use Words.{Header, Input, Node, Step, at_place, at_number, set_place, slice_get, slice_set, step, Arm, Frame, World, armed, count_works}
use Words.{cut}
use Words.{disarmed, done_step, halted_at, halted_outs, most_frames, put, sends, step_node, step_with, steps}
use Words.body
use Rattle.arj_law_runs.specs.addresses.Addresses.{GoWithin, IsNode}
use Rattle.arj_law_cause.proofs.sending.Wholes.{sent_to}

-- ---- frames to a node

-- how many frames go to node j
abbrev pub frames_to : ℕ → List Frame → ℕ
frames_to j [] = 0
frames_to j (f ∷ fs) = cond (f.to == j) 1 0 + frames_to j fs

frames_both : (j : ℕ) (fs gs : List Frame) → frames_to j (fs ++ gs) ≡ frames_to j fs + frames_to j gs
frames_both j [] gs = none (frames_to j gs)
  where
    none : (a : ℕ) → a ≡ 0 + a
    none a = omega arith
frames_both j (f ∷ fs) gs = ap (λ a. cond (f.to == j) 1 0 + a) (frames_both j fs gs)
    ∙ three (cond (f.to == j) 1 0) (frames_to j fs) (frames_to j gs)
  where
    three : (a b c : ℕ) → a + (b + c) ≡ (a + b) + c
    three a b c = omega arith

frames_fewer : (j n : ℕ) (fs : List Frame) → frames_to j (take n fs) ≤ frames_to j fs
frames_fewer j zero [] = omega arith
frames_fewer j zero (f ∷ fs) = least (frames_to j (f ∷ fs))
  where
    least : (a : ℕ) → 0 ≤ a
    least a = omega arith
frames_fewer j (suc n) [] = omega arith
frames_fewer j (suc n) (f ∷ fs) = more (cond (f.to == j) 1 0) (frames_to j (take n fs)) (frames_to j fs) (frames_fewer j n fs)
  where
    more : (a b c : ℕ) → b ≤ c → a + b ≤ a + c
    more a b c le = omega (arith, le)

sends_to : (j n : ℕ) (outs : List Effect) → frames_to j (sends n outs) ≡ sent_to j outs
sends_to j n [] = refl
sends_to j n (Send to m ∷ es) = ap (λ a. cond (to == j) 1 0 + a) (sends_to j n es)
sends_to j n (Say b ∷ es) = sends_to j n es
sends_to j n (Do w ∷ es) = sends_to j n es

-- one that is changed goes where it went
pub same_to : (j i : ℕ) (f g : Frame) (fs : List Frame) → at_place i fs ≡ Some f → g.to ≡ f.to →
    frames_to j (set_place i g fs) ≡ frames_to j fs
same_to j zero f g fs there to = refl
same_to j (suc i) f g fs there to = by i fs there
  where
    by : (i : ℕ) (fs : List Frame) → slice_get fs i ≡ Some f → frames_to j (slice_set fs i g) ≡ frames_to j fs
    by i [] is = refl
    by zero (x ∷ xs) is =
        let same : x ≡ f = cc is in
        λ k. cond ((to ∙ ap (λ (y : Frame). y.to) (sym same)) k == j) 1 0 + frames_to j xs
    by (suc i) (x ∷ xs) is = ap (λ a. cond (x.to == j) 1 0 + a) (by i xs is)

-- ---- a step

sent_both : (j : ℕ) (es fs : List Effect) → sent_to j (es ++ fs) ≡ sent_to j es + sent_to j fs
sent_both j [] fs = none (sent_to j fs)
  where
    none : (a : ℕ) → a ≡ 0 + a
    none a = omega arith
sent_both j (Send to m ∷ es) fs = ap (λ a. cond (to == j) 1 0 + a) (sent_both j es fs)
    ∙ three (cond (to == j) 1 0) (sent_to j es) (sent_to j fs)
  where
    three : (a b c : ℕ) → a + (b + c) ≡ (a + b) + c
    three a b c = omega arith
sent_both j (Say b ∷ es) fs = sent_both j es fs
sent_both j (Do w ∷ es) fs = sent_both j es fs

put_to : (j c k : ℕ) (outs : List Effect) (w : World) → sent_to j outs ≤ c → frames_to j (put k outs w).frames ≤ frames_to j w.frames + c
put_to j c k outs w le = more (frames_to j (put k outs w).frames) (frames_to j w.frames)
    (frames_to j (take (most_frames - length w.frames) (sends k outs))) (frames_to j (sends k outs)) (sent_to j outs)
    (frames_both j w.frames (take (most_frames - length w.frames) (sends k outs)))
    (frames_fewer j (most_frames - length w.frames) (sends k outs)) (sends_to j k outs) le
  where
    more : (a f t s o : ℕ) → a ≡ f + t → t ≤ s → s ≡ o → o ≤ c → a ≤ f + c
    more a f t s o is x y z = omega (arith, is, x, y, z)

cut_to : (j k : ℕ) (how : Stop) (outs : List Effect) (d : Disk) → sent_to j (cut k how outs d).outs ≤ sent_to j outs
cut_to j k how [] d = omega arith
cut_to j zero how (Do w ∷ es) d = least (sent_to j es)
  where
    least : (a : ℕ) → 0 ≤ a
    least a = omega arith
cut_to j (suc k) how (Do w ∷ es) d = cut_to j k how es (worked w d)
cut_to j zero how (Say b ∷ es) d = cut_to j zero how es d
cut_to j (suc k) how (Say b ∷ es) d = cut_to j (suc k) how es d
cut_to j zero how (Send to m ∷ es) d = more (cond (to == j) 1 0) (sent_to j (cut zero how es d).outs) (sent_to j es)
    (cut_to j zero how es d)
  where
    more : (a b c : ℕ) → b ≤ c → a + b ≤ a + c
    more a b c le = omega (arith, le)
cut_to j (suc k) how (Send to m ∷ es) d = more (cond (to == j) 1 0) (sent_to j (cut (suc k) how es d).outs) (sent_to j es)
    (cut_to j (suc k) how es d)
  where
    more : (a b c : ℕ) → b ≤ c → a + b ≤ a + c
    more a b c le = omega (arith, le)

-- it sends so many to node j at most, also where it is stopped
abbrev pub FewTo : ℕ → ℕ → Step → Type 0
FewTo j c s = (sent_to j s.outs ≤ c) × (sent_to j s.halting ≤ c)

steps_to : (j c k : ℕ) (i : Input) (w : World) → ((n : Node) → at_place k w.nodes ≡ Some n → FewTo j c (step w.header n i)) →
    frames_to j (steps k i w).frames ≤ frames_to j w.frames + c
steps_to j c k i w few = node (at_place k w.nodes) refl
  where
    stays : (a b : ℕ) → a ≤ a + b
    stays a b = omega arith

    done : (n : Node) → FewTo j c (step w.header n i) → frames_to j (done_step k (step w.header n i) w).frames ≤ frames_to j w.frames + c
    done n its = put_to j c k (step w.header n i).outs w its.0

    halted : (n : Node) → FewTo j c (step w.header n i) → (h : ℕ) (a : Arm) →
        frames_to j (halted_at k n (cut h a.how (step w.header n i).halting n.disk) (disarmed k w)).frames ≤ frames_to j w.frames + c
    halted n its h a =
        let q = cut h a.how (step w.header n i).halting n.disk in
        put_to j c k (halted_outs k q) w (less (sent_to j (halted_outs k q)) (sent_to j q.outs) (sent_to j (step w.header n i).halting)
        (sent_both j q.outs (Say (body.Halted k) ∷ [])) (cut_to j h a.how (step w.header n i).halting n.disk) its.1)
      where
        less : (a b s : ℕ) → a ≡ b + 0 → b ≤ s → s ≤ c → a ≤ c
        less a b s is x y = omega (arith, is, x, y)

    with_arm : (n : Node) → FewTo j c (step w.header n i) → (a : Arm) (b : Bool) → frames_to j (cond b
        (done_step k (step w.header n i) (armed k (record a { works = a.works - count_works (step w.header n i).halting }) w))
        (halted_at k n (cut (a.works - 1) a.how (step w.header n i).halting n.disk) (disarmed k w))).frames ≤ frames_to j w.frames + c
    with_arm n its a true = done n its
    with_arm n its a false = halted n its (a.works - 1) a

    arms : (n : Node) → FewTo j c (step w.header n i) → (o : Option Arm) →
        frames_to j (step_with k n (step w.header n i) w o).frames ≤ frames_to j w.frames + c
    arms n its None = done n its
    arms n its (Some a) = with_arm n its a (nat_lt (count_works (step w.header n i).halting) a.works)

    node : (o : Option Node) → at_place k w.nodes ≡ o → frames_to j (step_node k i w o).frames ≤ frames_to j w.frames + c
    node None there = stays (frames_to j w.frames) c
    node (Some n) there = arms n (few n there) (at_number k w.arms)

-- ---- all nodes

-- the number is that of one of so many nodes
abbrev IsNodeOf : ℕ → ℕ → Type 0
IsNodeOf n to = (nat_le 1 to && nat_le to n) ≡ true

-- frames to the nodes up to this one
abbrev in_all : ℕ → List Frame → ℕ
in_all zero fs = 0
in_all (suc n) fs = frames_to (suc n) fs + in_all n fs

-- how many of the numbers up to this one a number is
abbrev is_in : ℕ → ℕ → ℕ
is_in zero to = 0
is_in (suc n) to = cond (to == suc n) 1 0 + is_in n to

in_more : (n : ℕ) (f : Frame) (fs : List Frame) → in_all n (f ∷ fs) ≡ is_in n f.to + in_all n fs
in_more zero f fs = refl
in_more (suc n) f fs = four (cond (f.to == suc n) 1 0) (frames_to (suc n) fs) (in_all n (f ∷ fs)) (is_in n f.to) (in_all n fs)
    (in_more n f fs)
  where
    four : (a b c d e : ℕ) → c ≡ d + e → (a + b) + c ≡ (a + d) + (b + e)
    four a b c d e is = omega (arith, is)

-- a number above them is none, and any is one at most
above : (n to : ℕ) → n < to → is_in n to ≡ 0
above zero to less = refl
above (suc n) to less = (λ i. cond (apart less i) 1 0 + is_in n to) ∙ none (is_in n to) (above n to (lower less))
  where
    apart : suc n < to → (to == suc n) ≡ false
    apart less = grind (arith, nat_tests, less)

    lower : suc n < to → n < to
    lower less = omega (arith, less)

    none : (a : ℕ) → a ≡ 0 → 0 + a ≡ 0
    none a is = omega (arith, is)

is_one : (n to : ℕ) → is_in n to ≤ 1
is_one zero to = omega arith
is_one (suc n) to = by (to == suc n) refl (is_one n to)
  where
    same : (to == suc n) ≡ true → n < to
    same is = grind (arith, nat_tests, is)

    one : (a : ℕ) → a ≡ 0 → 1 + a ≤ 1
    one a is = omega (arith, is)

    none : (a : ℕ) → a ≤ 1 → 0 + a ≤ 1
    none a le = omega (arith, le)

    by : (b : Bool) → (to == suc n) ≡ b → is_in n to ≤ 1 → cond b 1 0 + is_in n to ≤ 1
    by true is le = one (is_in n to) (above n to (same is))
    by false is le = none (is_in n to) le

-- one of them is one
there : (n to : ℕ) → 1 ≤ to → to ≤ n → is_in n to ≡ 1
there zero to low high = absurd (never low high)
  where
    never : 1 ≤ to → to ≤ 0 → ⊥
    never a b = omega (arith, a, b)
there (suc n) to low high = by (to == suc n) refl (λ le. there n to low le)
  where
    same : (to == suc n) ≡ true → n < to
    same is = grind (arith, nat_tests, is)

    below : (to == suc n) ≡ false → to ≤ n
    below is = grind (arith, nat_tests, is, high)

    one : (a : ℕ) → a ≡ 0 → 1 + a ≡ 1
    one a is = omega (arith, is)

    rest : (a : ℕ) → a ≡ 1 → 0 + a ≡ 1
    rest a is = omega (arith, is)

    by : (b : Bool) → (to == suc n) ≡ b → (to ≤ n → is_in n to ≡ 1) → cond b 1 0 + is_in n to ≡ 1
    by true is ih = one (is_in n to) (above n to (same is))
    by false is ih = rest (is_in n to) (ih (below is))

all_in : (n : ℕ) (fs : List Frame) → AllByRecursion (λ (f : Frame). IsNodeOf n f.to) fs → length fs ≡ in_all n fs
all_in n [] all = none n
  where
    none : (n : ℕ) → 0 ≡ in_all n []
    none zero = refl
    none (suc n) = none n ∙ zero_more (in_all n [])
      where
        zero_more : (a : ℕ) → a ≡ 0 + a
        zero_more a = omega arith
all_in n (f ∷ fs) all =
    let p = and_parts (nat_le 1 f.to) (nat_le f.to n) all.0 in
    more (length fs) (in_all n fs) (is_in n f.to) (in_all n (f ∷ fs)) (all_in n fs all.1)
    (there n f.to (low p.0) (high p.1)) (in_more n f fs)
  where
    low : nat_le 1 f.to ≡ true → 1 ≤ f.to
    low is = grind (arith, nat_tests, is)

    high : nat_le f.to n ≡ true → f.to ≤ n
    high is = grind (arith, nat_tests, is)

    more : (a b c d : ℕ) → a ≡ b → c ≡ 1 → d ≡ c + b → suc a ≡ d
    more a b c d one two three = omega (arith, one, two, three)

few_in : (n : ℕ) (fs : List Frame) → in_all n fs ≤ length fs
few_in n [] = none n
  where
    none : (n : ℕ) → in_all n [] ≤ 0
    none zero = omega arith
    none (suc n) = zero_more (in_all n []) (none n)
      where
        zero_more : (a : ℕ) → a ≤ 0 → 0 + a ≤ 0
        zero_more a le = omega (arith, le)
few_in n (f ∷ fs) = more (length fs) (in_all n fs) (is_in n f.to) (in_all n (f ∷ fs)) (few_in n fs) (is_one n f.to) (in_more n f fs)
  where
    more : (a b c d : ℕ) → b ≤ a → c ≤ 1 → d ≡ c + b → d ≤ suc a
    more a b c d one two three = omega (arith, one, two, three)

-- so many for each of these, but for one
abbrev but_one : ℕ → ℕ → ℕ → ℕ
but_one k c zero = 0
but_one k c (suc n) = cond (suc n == k) 0 c + but_one k c n

abbrev pub each : ℕ → ℕ → ℕ
each c zero = 0
each c (suc n) = c + each c n

pub each_is : (c n : ℕ) → each c n ≡ c * n
each_is c zero = none c
  where
    none : (c : ℕ) → 0 ≡ c * 0
    none c = grind arith
each_is c (suc n) = ap (λ a. c + a) (each_is c n) ∙ next c n
  where
    next : (c n : ℕ) → c + c * n ≡ c * suc n
    next c n = grind arith

but_all : (k c n : ℕ) → n < k → but_one k c n ≡ each c n
but_all k c zero less = refl
but_all k c (suc n) less = (λ i. cond (apart less i) 0 c + but_one k c n) ∙ ap (λ a. c + a) (but_all k c n (lower less))
  where
    apart : suc n < k → (suc n == k) ≡ false
    apart less = grind (arith, nat_tests, less)

    lower : suc n < k → n < k
    lower less = omega (arith, less)

but_few : (k c n : ℕ) → 1 ≤ k → k ≤ suc n → but_one k c (suc n) ≤ each c n
but_few k c zero low high = (subst (λ b. cond b 0 c + 0 ≤ 0) (sym (same low high)) (omega arith))
  where
    same : 1 ≤ k → k ≤ 1 → (1 == k) ≡ true
    same low high = grind (arith, nat_tests, low, high)
but_few k c (suc n) low high = by (suc (suc n) == k) refl (λ le. but_few k c n low le)
  where
    same : (suc (suc n) == k) ≡ true → suc n < k
    same is = grind (arith, nat_tests, is)

    below : (suc (suc n) == k) ≡ false → k ≤ suc n
    below is = grind (arith, nat_tests, is, high)

    first : (a b : ℕ) → a ≡ b → 0 + a ≤ b
    first a b is = omega (arith, is)

    rest : (a b : ℕ) → a ≤ b → c + a ≤ c + b
    rest a b le = omega (arith, le)

    by : (b : Bool) → (suc (suc n) == k) ≡ b → (k ≤ suc n → but_one k c (suc n) ≤ each c n) →
        cond b 0 c + but_one k c (suc n) ≤ each c (suc n)
    by true is ih = first (but_one k c (suc n)) (each c (suc n)) (but_all k c (suc n) (same is))
    by false is ih = rest (but_one k c (suc n)) (each c n) (ih (below is))

grown : (k c n : ℕ) (fs gs : List Frame) → ((j : ℕ) → frames_to j gs ≤ frames_to j fs + cond (j == k) 0 c) →
    in_all n gs ≤ in_all n fs + but_one k c n
grown k c zero fs gs more = omega arith
grown k c (suc n) fs gs more = four (frames_to (suc n) gs) (frames_to (suc n) fs) (cond (suc n == k) 0 c) (in_all n gs) (in_all n fs)
    (but_one k c n) (more (suc n)) (grown k c n fs gs more)
  where
    four : (a b d e f g : ℕ) → a ≤ b + d → e ≤ f + g → a + e ≤ (b + f) + (d + g)
    four a b d e f g one two = omega (arith, one, two)

-- At most so many for each node but one, where all frames are to nodes of the header.
pub added : (hd : Header) (k c : ℕ) (fs gs : List Frame) → IsNode hd k → AllByRecursion (λ (f : Frame). IsNodeOf hd.nodes f.to) gs →
    ((j : ℕ) → frames_to j gs ≤ frames_to j fs + cond (j == k) 0 c) → length gs ≤ length fs + each c (hd.nodes - 1)
added hd k c fs gs node within more =
    let p = and_parts (nat_le 1 k) (nat_le k hd.nodes) node in
    let last = next hd.nodes (low p.0) (high p.1) in
    five (length gs) (in_all hd.nodes gs) (in_all hd.nodes fs) (but_one k c hd.nodes) (each c (hd.nodes - 1)) (length fs)
    (all_in hd.nodes gs within) (grown k c hd.nodes fs gs more)
    (subst (λ a. but_one k c a ≤ each c (hd.nodes - 1)) last (but_few k c (hd.nodes - 1) (low p.0) (subst (λ a. k
    ≤ a) (sym last) (high p.1))))
    (few_in hd.nodes fs)
  where
    low : nat_le 1 k ≡ true → 1 ≤ k
    low is = grind (arith, nat_tests, is)

    high : nat_le k hd.nodes ≡ true → k ≤ hd.nodes
    high is = grind (arith, nat_tests, is)

    next : (a : ℕ) → 1 ≤ k → k ≤ a → suc (a - 1) ≡ a
    next a some le = omega (arith, some, le)

    five : (a b d e f g : ℕ) → a ≡ b → b ≤ d + e → e ≤ f → d ≤ g → a ≤ g + f
    five a b d e f g one two three four = omega (arith, one, two, three, four)

-- A step adds at most so many to each other node.
pub step_adds : (hd : Header) (c k : ℕ) (i : Input) (w : World) → ((n : Node) → at_place k w.nodes ≡ Some n → IsNode hd k) →
    GoWithin hd.nodes (steps k i w) →
    ((j : ℕ) (n : Node) → at_place k w.nodes ≡ Some n → FewTo j (cond (j == k) 0 c) (step w.header n i)) →
    length (steps k i w).frames ≤ length w.frames + each c (hd.nodes - 1)
step_adds hd c k i w node within few = by (at_place k w.nodes) refl
  where
    stays : (a b : ℕ) → a ≤ a + b
    stays a b = omega arith

    by : (o : Option Node) → at_place k w.nodes ≡ o → length (steps k i w).frames ≤ length w.frames + each c (hd.nodes - 1)
    by None none = subst (λ (fs : List Frame). length fs ≤ length w.frames + each c (hd.nodes - 1))
        (sym (ap (λ (o : Option Node). (step_node k i w o).frames) none)) (stays (length w.frames) (each c (hd.nodes - 1)))
    by (Some n) there = added hd k c w.frames (steps k i w).frames (node n there) within
        (λ j. steps_to j (cond (j == k) 0 c) k i w (λ x at. few j x at))
