-- What a world's frames, and what is at work in it, lead to at most, in words of its journal: by open frames, and by the actions that wait.
use Rattle.arj_law_parts.proofs.Words
use Words.{◌≡◌, ◌≤◌, ◌<◌, ◌∙◌, ◌+◌, ◌*◌, ◌==◌, ℕ, zero, suc, Bool, true, false, cond, List, [], ◌∷◌, length}
use Words.{filter}
use Words.{refl, sym, ap, subst, arith, nat_tests, slice_get, Option, Some, None, AllByRecursion}
use Words.{Doing, Idle, Calling, Committing, Now, Voting, Preparing, Confirming, At, Header, Line, Message, Node, Parts}
use Words.{Frame, at_place, is_open_frame, is_waiting_now, frame_kind}
use Words.calls
use Words.message
use Rattle.arj_journal.specs.declared.body.FrameKind.{FrameKind}
use Rattle.arj_law_runs.proofs.Terms.{Act, acts}
use Rattle.arj_law_runs.proofs.follow.Telling.{carried_by, frame_test, opens}
use Rattle.arj_law_cause.proofs.leading.Loads as loads
use loads.{all_told, inside, lead, left_all, left_now, left_of_doing, machine_left, steps_left, sum_of, times}
use Rattle.arj_law_cause.proofs.leading.Worlds as worlds
use Rattle.arj_law_cause.specs.rounds.Sends.{all_led, carries, is_hello, most_led}

least : (a : ℕ) → 0 ≤ a
least a = omega arith

-- ---- what is at work

-- what one action has to do, whatever it is at
abbrev pub most_left : ℕ → ℕ
most_left n = (8 + times 2 n) + all_told n

left_few : (n : ℕ) (x : Now) → left_now n x ≤ most_left n
left_few n Idle = least (most_left n)
left_few n (Calling s) = low (steps_left s.at) (times 2 n) (all_told n) (by s.at)
  where
    low : (a x y : ℕ) → a ≤ 8 → a ≤ (8 + x) + y
    low a x y le = omega (arith, le)

    by : (at : At) → steps_left at ≤ 8
    by (calls.AtBind b) = omega arith
    by (calls.AtLoad i s rest) = omega arith
    by (calls.AtActivate i st) = omega arith
    by (calls.AtNote i b) = omega arith
    by (calls.AtInvoke i b) = omega arith
left_few n (Committing (Voting p left)) = low (times 2 n) (all_told n)
  where
    low : (x y : ℕ) → x + (2 + y) ≤ (8 + x) + y
    low x y = omega arith
left_few n (Committing (Preparing p left)) = low (times 2 n) (all_told n)
  where
    low : (x y : ℕ) → 2 + y ≤ (8 + x) + y
    low x y = omega arith
left_few n (Committing (Confirming p)) = low (times 2 n) (all_told n)
  where
    low : (x y : ℕ) → y ≤ (8 + x) + y
    low x y = omega arith

-- those of which an action waits
abbrev pub at_work : List Doing → List Doing
at_work ds = filter (λ (d : Doing). is_waiting_now d.now) ds

-- others have nothing to do
all_few : (n : ℕ) (ds : List Doing) → left_all n ds ≤ times (most_left n) (length (at_work ds))
all_few n [] = omega arith
all_few n (d ∷ ds) = by d.now (all_few n ds)
  where
    both : (a b c e : ℕ) → a ≤ c → b ≤ e → a + b ≤ c + e
    both a b c e x y = omega (arith, x, y)

    none : (b e : ℕ) → b ≤ e → 0 + b ≤ e
    none b e le = omega (arith, le)

    by : (x : Now) → left_all n ds ≤ times (most_left n) (length (at_work ds)) →
        left_now n x + left_all n ds ≤ times (most_left n) (length (cond (is_waiting_now x) (d ∷ at_work ds) (at_work ds)))
    by Idle ih = none (left_all n ds) (times (most_left n) (length (at_work ds))) ih
    by (Calling s) ih = both (left_now n (Calling s)) (left_all n ds) (most_left n) (times (most_left n) (length (at_work ds)))
        (left_few n (Calling s)) ih
    by (Committing m) ih = both (left_now n (Committing m)) (left_all n ds) (most_left n) (times (most_left n) (length (at_work ds)))
        (left_few n (Committing m)) ih

-- how many of these actions are of this node
abbrev pub of_node : ℕ → List Act → ℕ
of_node k xs = length (filter (λ (a : Act). (let u = a.uid in u.node) == k) xs)

-- of all nodes from this one on: each action is of one of them at most
abbrev of_all : ℕ → ℕ → List Act → ℕ
of_all k zero xs = 0
of_all k (suc m) xs = of_node k xs + of_all (suc k) m xs

none_all : (k m : ℕ) → of_all k m [] ≡ 0
none_all k zero = refl
none_all k (suc m) = ap (λ a. 0 + a) (none_all (suc k) m)

-- one action more
abbrev is_one : ℕ → ℕ → ℕ → ℕ
is_one j k zero = 0
is_one j k (suc m) = cond (j == k) 1 0 + is_one j (suc k) m

below_none : (j k m : ℕ) → j < k → is_one j k m ≡ 0
below_none j k zero less = refl
below_none j k (suc m) less = (λ i. cond (apart less i) 1 0 + is_one j (suc k) m)
    ∙ none (is_one j (suc k) m) (below_none j (suc k) m (further less))
  where
    none : (x : ℕ) → x ≡ 0 → 0 + x ≡ 0
    none x is = omega (arith, is)

    apart : j < k → (j == k) ≡ false
    apart less = grind (arith, nat_tests, less)

    further : j < k → j < suc k
    further less = omega (arith, less)

once : (j k m : ℕ) → is_one j k m ≤ 1
once j k zero = omega arith
once j k (suc m) = by (j == k) refl (once j (suc k) m)
  where
    same : (j == k) ≡ true → j < suc k
    same is = grind (arith, nat_tests, is)

    one : (a : ℕ) → a ≡ 0 → 1 + a ≤ 1
    one a is = omega (arith, is)

    none : (a : ℕ) → a ≤ 1 → 0 + a ≤ 1
    none a le = omega (arith, le)

    by : (b : Bool) → (j == k) ≡ b → is_one j (suc k) m ≤ 1 → cond b 1 0 + is_one j (suc k) m ≤ 1
    by true is le = one (is_one j (suc k) m) (below_none j (suc k) m (same is))
    by false is le = none (is_one j (suc k) m) le

one_more : (k m : ℕ) (a : Act) (xs : List Act) → of_all k m (a ∷ xs) ≡ is_one (let u = a.uid in u.node) k m + of_all k m xs
one_more k zero a xs = refl
one_more k (suc m) a xs = sum (of_node k (a ∷ xs)) (of_node k xs) (cond ((let u = a.uid in u.node) == k) 1 0) (of_all (suc k) m (a ∷ xs))
    (is_one (let u = a.uid in u.node) (suc k) m) (of_all (suc k) m xs) (here ((let u = a.uid in u.node) == k)) (one_more (suc k) m a xs)
  where
    sum : (x y c p q r : ℕ) → x ≡ c + y → p ≡ q + r → x + p ≡ (c + q) + (y + r)
    sum x y c p q r one two = omega (arith, one, two)

    others : List Act
    others = filter (λ (b : Act). (let u = b.uid in u.node) == k) xs

    here : (b : Bool) → length (cond b (a ∷ others) others) ≡ cond b 1 0 + length others
    here true = suc_is (length others)
      where
        suc_is : (x : ℕ) → suc x ≡ 1 + x
        suc_is x = omega arith
    here false = none (length others)
      where
        none : (x : ℕ) → x ≡ 0 + x
        none x = omega arith

in_all : (k m : ℕ) (xs : List Act) → of_all k m xs ≤ length xs
in_all k m [] = none (of_all k m []) (none_all k m)
  where
    none : (a : ℕ) → a ≡ 0 → a ≤ 0
    none a is = omega (arith, is)
in_all k m (a ∷ xs) = sum (of_all k m (a ∷ xs)) (is_one (let u = a.uid in u.node) k m) (of_all k m xs) (length xs) (one_more k m a xs)
    (once (let u = a.uid in u.node) k m) (in_all k m xs)
  where
    sum : (x c r l : ℕ) → x ≡ c + r → c ≤ 1 → r ≤ l → x ≤ suc l
    sum x c r l is one le = omega (arith, is, one, le)

module _ (n hello own : ℕ) (more : hello ≤ own) where
  -- at all nodes from this one on
  nodes_from : (k : ℕ) (xs : List Act) (ns : List Node) → ((i : ℕ) (x : Node) → slice_get ns i ≡ Some x → (t : Parts) → x.live ≡ Some t →
      length (at_work t.coord.doings) ≤ of_node (k + i) xs) → sum_of (worlds.left_node n hello own more) ns ≤ times (most_left n) (of_all k
      (length ns) xs)
  nodes_from k xs [] few = omega arith
  nodes_from k xs (x ∷ ns) few = sum (worlds.left_node n hello own more x) (sum_of (worlds.left_node n hello own more) ns)
      (times (most_left n) (of_node k xs)) (times (most_left n) (of_all (suc k) (length ns) xs))
      (times (most_left n) (of_node k xs + of_all (suc k) (length ns) xs)) (by x.live refl)
      (nodes_from (suc k) xs ns (λ i y at t live. subst (λ j. length (at_work t.coord.doings) ≤ of_node j xs) (next k i) (few (suc i) y
      at t live)))
      (split (most_left n) (of_node k xs) (of_all (suc k) (length ns) xs))
    where
      sum : (a b c e s : ℕ) → a ≤ c → b ≤ e → s ≡ c + e → a + b ≤ s
      sum a b c e s x y is = omega (arith, x, y, is)

      next : (k i : ℕ) → k + suc i ≡ suc k + i
      next k i = omega arith

      none : (k : ℕ) → k + 0 ≡ k
      none k = omega arith

      less : (a b c : ℕ) → a ≤ b → b ≤ c → a ≤ c
      less a b c x y = omega (arith, x, y)

      split : (c a b : ℕ) → times c (a + b) ≡ times c a + times c b
      split c a b = loads.times_is c (a + b) ∙ parts c a b ∙ (λ i. sym (loads.times_is c a) i + sym (loads.times_is c b) i)
        where
          parts : (c a b : ℕ) → c * (a + b) ≡ c * a + c * b
          parts c a b = grind arith

      by : (o : Option Parts) → x.live ≡ o → worlds.left_up n hello own more o ≤ times (most_left n) (of_node k xs)
      by None is = least (times (most_left n) (of_node k xs))
      by (Some t) is = less (left_all n t.coord.doings) (times (most_left n) (length (at_work t.coord.doings))) (times (most_left n)
          (of_node k xs))
          (all_few n t.coord.doings)
          (loads.times_longer (most_left n) (length (at_work t.coord.doings)) (of_node k xs)
          (subst (λ j. length (at_work t.coord.doings) ≤ of_node j xs) (none k) (few zero x refl t is)))

  -- at all nodes: so much for each of these actions
  pub nodes_few : (xs : List Act) (ns : List Node) → ((k : ℕ) (x : Node) → at_place k ns ≡ Some x → (t : Parts) → x.live ≡ Some t →
      length (at_work t.coord.doings) ≤ of_node k xs) → sum_of (worlds.left_node n hello own more) ns ≤ times (most_left n) (length xs)
  nodes_few xs ns few = less (sum_of (worlds.left_node n hello own more) ns) (times (most_left n) (of_all 1 (length ns) xs))
      (times (most_left n) (length xs))
      (nodes_from 1 xs ns (λ i x at t live. subst (λ j. length (at_work t.coord.doings) ≤ of_node j xs) (one i) (few (suc i) x at t live)))
      (loads.times_longer (most_left n) (of_all 1 (length ns) xs) (length xs) (in_all 1 (length ns) xs))
    where
      one : (i : ℕ) → suc i ≡ 1 + i
      one i = omega arith

      less : (a b c : ℕ) → a ≤ b → b ≤ c → a ≤ c
      less a b c x y = omega (arith, x, y)

  -- ---- frames

  one_low : (a : ℕ) → 1 ≤ suc (suc a)
  one_low a = omega arith

  -- what an open frame leads to, by what it carries
  abbrev pub carried_lead : FrameKind → ℕ
  carried_lead what = cond (is_hello what) hello (suc (suc n))

  kind_lead : (m : Message) → lead n hello m ≤ carried_lead (frame_kind m)
  kind_lead (message.Hello m) = itself hello
    where
      itself : (a : ℕ) → a ≤ a
      itself a = omega arith
  kind_lead (message.Told m) = by m.ack
    where
      one : (a : ℕ) → suc a ≤ suc (suc a)
      one a = omega arith

      by : (b : Bool) → cond b (suc n) 0 ≤ suc (suc n)
      by true = one n
      by false = least (suc (suc n))
  kind_lead (message.Acked m) = two n
    where
      two : (a : ℕ) → a ≤ suc (suc a)
      two a = omega arith
  kind_lead (message.Query m) = itself (suc (suc n))
    where
      itself : (a : ℕ) → a ≤ a
      itself a = omega arith
  kind_lead (message.Bind m) = one_low n
  kind_lead (message.Load m) = one_low n
  kind_lead (message.Activate m) = one_low n
  kind_lead (message.RecordMsg m) = one_low n
  kind_lead (message.Invoke m) = one_low n
  kind_lead (message.Vote m) = one_low n
  kind_lead (message.Prepare m) = one_low n
  kind_lead (message.Confirm m) = one_low n
  kind_lead (message.Bound m) = least (suc (suc n))
  kind_lead (message.Loaded m) = least (suc (suc n))
  kind_lead (message.Activated m) = least (suc (suc n))
  kind_lead (message.Recorded m) = least (suc (suc n))
  kind_lead (message.Invoked m) = least (suc (suc n))
  kind_lead (message.Voted m) = least (suc (suc n))
  kind_lead (message.Prepared m) = least (suc (suc n))
  kind_lead (message.Confirmed m) = least (suc (suc n))

  pub message_lead : (o : Option Message) → worlds.lead_of n hello own more o ≤ carried_lead (carried_by o)
  message_lead None = least (suc (suc n))
  message_lead (Some m) = kind_lead m

  -- of frames from this number on
  frames_from : (k : ℕ) (leads : ℕ → ℕ) (fs : List Frame) → ((i : ℕ) (f : Frame) → slice_get fs i ≡ Some f →
      carried_lead (carried_by f.message) ≤ leads (k + i)) →
      sum_of (worlds.weight n hello own more) fs ≤ length fs + sum_of leads (opens k fs)
  frames_from k leads [] found = omega arith
  frames_from k leads (f ∷ fs) found = by (is_open_frame f) (inside n f.to) (frames_from (k + 1) leads fs
      (λ i g at. subst (λ j. carried_lead (carried_by g.message) ≤ leads j) (next k i) (found (suc i) g at)))
    where
      next : (k i : ℕ) → k + suc i ≡ (k + 1) + i
      next k i = omega arith

      none : (k : ℕ) → k + 0 ≡ k
      none k = omega arith

      here : worlds.lead_of n hello own more f.message ≤ leads k
      here = less (worlds.lead_of n hello own more f.message) (carried_lead (carried_by f.message)) (leads k) (message_lead f.message)
          (subst (λ j. carried_lead (carried_by f.message) ≤ leads j) (none k) (found zero f refl))
        where
          less : (a b c : ℕ) → a ≤ b → b ≤ c → a ≤ c
          less a b c x y = omega (arith, x, y)

      rest : ℕ
      rest = sum_of (worlds.weight n hello own more) fs

      one : (l x r s : ℕ) → l ≤ x → r ≤ length fs + s → suc l + r ≤ suc (length fs) + (x + s)
      one l x r s le ih = omega (arith, le, ih)

      out : (x r s : ℕ) → r ≤ length fs + s → 0 + r ≤ suc (length fs) + (x + s)
      out x r s ih = omega (arith, ih)

      shut : (r s : ℕ) → r ≤ length fs + s → 1 + r ≤ suc (length fs) + s
      shut r s ih = omega (arith, ih)

      off : (r s : ℕ) → r ≤ length fs + s → 0 + r ≤ suc (length fs) + s
      off r s ih = omega (arith, ih)

      by : (b c : Bool) → rest ≤ length fs + sum_of leads (opens (k + 1) fs) →
          cond c (suc (cond b (worlds.lead_of n hello own more f.message) 0)) 0 + rest
          ≤ suc (length fs) + sum_of leads (cond b (k ∷ opens (k + 1) fs) (opens (k + 1) fs))
      by true true ih = one (worlds.lead_of n hello own more f.message) (leads k) rest (sum_of leads (opens (k + 1) fs)) here ih
      by true false ih = out (leads k) rest (sum_of leads (opens (k + 1) fs)) ih
      by false true ih = shut rest (sum_of leads (opens (k + 1) fs)) ih
      by false false ih = off rest (sum_of leads (opens (k + 1) fs)) ih

  -- all frames to nodes count
  pub frames_long : (fs : List Frame) → AllByRecursion (λ (f : Frame). inside n f.to ≡ true) fs →
      length fs ≤ sum_of (worlds.weight n hello own more) fs
  frames_long [] all = omega arith
  frames_long (f ∷ fs) all = sum (worlds.weight n hello own more f) (length fs) (sum_of (worlds.weight n hello own more) fs)
      (cond (is_open_frame f) (worlds.lead_of n hello own more f.message) 0)
      (λ i. cond (all.0 i) (suc (cond (is_open_frame f) (worlds.lead_of n hello own more f.message) 0)) 0) (frames_long fs all.1)
    where
      sum : (w l s x : ℕ) → w ≡ suc x → l ≤ s → suc l ≤ w + s
      sum w l s x is le = omega (arith, is, le)

-- by the journal: what open frames lead to
pub frames_led : (hd : Header) (ls : List Line) (hello : ℕ) (fs : List Frame) (own : ℕ) (more : hello ≤ own) → hello ≤
    (hd.nodes + 3) * length (acts ls) → ((k : ℕ) → carries is_hello ls k ≡ frame_test (λ from to what. is_hello what) (at_place k fs)) →
    sum_of (worlds.weight hd.nodes hello own more) fs ≤ length fs + all_led hd ls (opens 1 fs)
frames_led hd ls hello fs own more few tells = subst (λ a. sum_of (worlds.weight hd.nodes hello own more) fs ≤ length fs + a)
    (same (opens 1 fs)) (frames_from hd.nodes hello own more 1 (most_led hd ls) fs found)
  where
    same : (ks : List ℕ) → sum_of (most_led hd ls) ks ≡ all_led hd ls ks
    same [] = refl
    same (k ∷ ks) = ap (λ a. most_led hd ls k + a) (same ks)

    two : (a : ℕ) → suc (suc a) ≤ a + 2
    two a = omega arith

    place : (i : ℕ) → at_place (1 + i) fs ≡ slice_get fs i
    place i = ap (λ j. at_place j fs) (one i)
      where
        one : (i : ℕ) → 1 + i ≡ suc i
        one i = omega arith

    found : (i : ℕ) (f : Frame) → slice_get fs i ≡ Some f →
        carried_lead hd.nodes hello own more (carried_by f.message) ≤ most_led hd ls (1 + i)
    found i f at = subst (λ b. carried_lead hd.nodes hello own more (carried_by f.message)
        ≤ cond b ((hd.nodes + 3) * length (acts ls)) (hd.nodes + 2)) (sym (tells (1 + i)
        ∙ ap (frame_test (λ from to what. is_hello what)) (place i ∙ at))) (by (is_hello (carried_by f.message)))
      where
        by : (b : Bool) → cond b hello (suc (suc hd.nodes)) ≤ cond b ((hd.nodes + 3) * length (acts ls)) (hd.nodes + 2)
        by true = few
        by false = two hd.nodes
