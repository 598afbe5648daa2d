-- How many lines of new bindings a step of the world adds.
use Rattle.arj_law_parts.proofs.Words
use Words.{◌≡◌, ◌≤◌, ◌+◌, ◌-◌, ℕ, zero, suc, Bool, true, false, cond, List, [], ◌∷◌, ◌++◌, length, Option, Some, None, refl, arith, nat_le}
use Words.{nat_lt, frame_kind, Disk, Do, Effect, Say, Send, Stop, worked, at_number, Input, Node, step, at_place, Arm, World, armed, bodies}
use Words.{count_works, cut, disarmed, done_step, halted_at, halted_outs, numbered, put, step_node, step_with, steps, most_frames}
use Words.body
use Rattle.arj_law_runs.proofs.Terms.{bindings_made, bound_by}
use Rattle.arj_law_runs.proofs.bindings.{Steps.cost, Steps.step_weigh, Weights.weigh, Weights.weigh_both, Weights.weight}
use Rattle.arj_law_runs.proofs.calls.MadeLines.{lines_both}

heavier : (w a b : ℕ) → a ≤ b → w + a ≤ w + b
heavier w a b le = omega (arith, le)

-- the lines of effects say no more new bindings than the effects weigh
bodies_made : (n e k j : ℕ) (outs : List Effect) → bindings_made (numbered e (bodies k j outs)) ≤ weigh n outs
bodies_made n e k j [] = omega arith
bodies_made n e k j (Say b ∷ es) = heavier (bound_by b) (bindings_made (numbered e (bodies k j es))) (weigh n es) (bodies_made n e k j es)
bodies_made n e k j (Do w ∷ es) = more (bindings_made (numbered e (bodies k j es))) (weigh n es) (bodies_made n e k j es)
  where
    more : (a b : ℕ) → a ≤ b → a ≤ 0 + b
    more a b le = omega (arith, le)
bodies_made n e k j (Send to m ∷ es) = within (weight n (Send to m)) (bindings_made (numbered e (bodies k (j + 1) es))) (weigh n es)
    (bindings_made (numbered e (cond (nat_le (j + 1) most_frames) (body.Sent (j + 1) k to (frame_kind m) ∷ []) [] ++ bodies k (j + 1) es)))
    (line (nat_le (j + 1) most_frames)) (bodies_made n e k (j + 1) es)
  where
    line : (q : Bool) → bindings_made (numbered e (cond q (body.Sent (j + 1) k to (frame_kind m) ∷ []) [] ++ bodies k (j + 1) es))
        ≤ bindings_made (numbered e (bodies k (j + 1) es))
    line true = less (bindings_made (numbered e (bodies k (j + 1) es)))
      where
        less : (a : ℕ) → 0 + a ≤ a
        less a = omega arith
    line false = less (bindings_made (numbered e (bodies k (j + 1) es)))
      where
        less : (a : ℕ) → a ≤ a
        less a = omega arith

    within : (w a b c : ℕ) → c ≤ a → a ≤ b → c ≤ w + b
    within w a b c x y = omega (arith, x, y)

-- what was done until a stop weighs no more
cut_weigh : (n k : ℕ) (how : Stop) (outs : List Effect) (d : Disk) → weigh n (cut k how outs d).outs ≤ weigh n outs
cut_weigh n k how [] d = omega arith
cut_weigh n zero how (Do w ∷ es) d = none (weigh n es)
  where
    none : (a : ℕ) → 0 ≤ 0 + a
    none a = omega arith
cut_weigh n (suc k) how (Do w ∷ es) d =
    heavier 0 (weigh n (cut k how es (worked w d)).outs) (weigh n es) (cut_weigh n k how es (worked w d))
cut_weigh n k how (Say b ∷ es) d = heavier (bound_by b) (weigh n (cut k how es d).outs) (weigh n es) (cut_weigh n k how es d)
cut_weigh n k how (Send to m ∷ es) d = heavier (weight n (Send to m)) (weigh n (cut k how es d).outs) (weigh n es) (cut_weigh n k how es d)

abbrev pub made : World → ℕ
made w = bindings_made w.lines

put_made : (n c k : ℕ) (outs : List Effect) (w : World) → weigh n outs ≤ c → made (put k outs w) ≤ made w + c
put_made n c k outs w le = more (made (put k outs w)) (made w) (bindings_made (numbered w.event (bodies k (length w.frames) outs))) (weigh n
    outs) c (lines_both w.lines (numbered w.event (bodies k (length w.frames) outs))) (bodies_made n w.event k (length w.frames) outs) le
  where
    more : (a l b o c : ℕ) → a ≡ l + b → b ≤ o → o ≤ c → a ≤ l + c
    more a l b o c is x y = omega (arith, is, x, y)

-- what the step of the node at a place may add
abbrev pub cost_at : Input → Option Node → ℕ
cost_at i None = 0
cost_at i (Some n) = cost i n

pub steps_made : (k : ℕ) (i : Input) (w : World) → made (steps k i w) ≤ made w + cost_at i (at_place k w.nodes)
steps_made k i w = node (at_place k w.nodes)
  where
    stays : (a : ℕ) → a ≤ a + 0
    stays a = omega arith

    halted : (n : Node) (c : ℕ) (a : Arm) →
        made (halted_at k n (cut c a.how (step w.header n i).halting n.disk) (disarmed k w)) ≤ made w + cost i n
    halted n c a =
        let s = step w.header n i in
        let q = cut c a.how s.halting n.disk in
        put_made n.number (cost i n) k (halted_outs k q) w (less (weigh n.number (halted_outs k q)) (weigh n.number q.outs)
        (weigh n.number s.halting) (cost i n) (weigh_both n.number q.outs (Say (body.Halted k) ∷ []))
        (cut_weigh n.number c a.how s.halting n.disk) (step_weigh w.header n i).1)
      where
        less : (a b s c : ℕ) → a ≡ b + (0 + 0) → b ≤ s → s ≤ c → a ≤ c
        less a b s c is x y = omega (arith, is, x, y)

    done : (n : Node) → made (done_step k (step w.header n i) w) ≤ made w + cost i n
    done n = put_made n.number (cost i n) k (step w.header n i).outs w (step_weigh w.header n i).0

    with_arm : (n : Node) (a : Arm) (b : Bool) →
        made (cond b (done_step k (step w.header n i) (armed k (record a { works = a.works - count_works (step w.header n i).halting }) w))
        (halted_at k n (cut (a.works - 1) a.how (step w.header n i).halting n.disk) (disarmed k w))) ≤ made w + cost i n
    with_arm n a true = done n
    with_arm n a false = halted n (a.works - 1) a

    arms : (n : Node) (o : Option Arm) → made (step_with k n (step w.header n i) w o) ≤ made w + cost i n
    arms n None = done n
    arms n (Some a) = with_arm n a (nat_lt (count_works (step w.header n i).halting) a.works)

    node : (o : Option Node) → made (step_node k i w o) ≤ made w + cost_at i o
    node None = stays (made w)
    node (Some n) = arms n (at_number k w.arms)

-- a step gives no label
pub steps_labels : (k : ℕ) (i : Input) (w : World) → (steps k i w).labels ≡ w.labels
steps_labels k i w = node (at_place k w.nodes)
  where
    with_arm : (n : Node) (a : Arm) (b : Bool) →
        (cond b (done_step k (step w.header n i) (armed k (record a { works = a.works - count_works (step w.header n i).halting }) w))
        (halted_at k n (cut (a.works - 1) a.how (step w.header n i).halting n.disk) (disarmed k w))).labels ≡ w.labels
    with_arm n a true = refl
    with_arm n a false = refl

    arms : (n : Node) (o : Option Arm) → (step_with k n (step w.header n i) w o).labels ≡ w.labels
    arms n None = refl
    arms n (Some a) = with_arm n a (nat_lt (count_works (step w.header n i).halting) a.works)

    node : (o : Option Node) → (step_node k i w o).labels ≡ w.labels
    node None = refl
    node (Some n) = arms n (at_number k w.arms)
