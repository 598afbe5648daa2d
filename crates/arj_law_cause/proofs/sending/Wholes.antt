-- A whole step leads to no more than what its handler put out, whatever the node sends to itself.
use Rattle.arj_law_parts.proofs.Words
use Words.{◌≡◌, ◌≤◌, ◌<◌, ◌+◌, ◌==◌, ℕ, zero, suc, Bool, true, false, cond, List, [], ◌∷◌, ◌++◌, refl, sym, ap, subst, arith, nat_tests}
use Words.{◌∙◌}
use Words.{inl, inr, Message, Disk, Do, Effect, Look, Say, Send, Handled, Here, Parts, Ran, Took, Void, taken, taken_took}
use Words.{first_done, first_queued, handle_all, most_rounds, next_round, ran, ran_handled, rounds, whole, worked}
use Words.{Abort, Commit, Prepare, PutInc, PutIntent, RemoveIntent}
use Words.list as members
use Rattle.arj_law_parts.proofs.moves.Rounds.{AreLooks, LooksAlone, taken_looks}
use Rattle.arj_law_runs.proofs.bindings.Handled.{outs_of}
use Rattle.arj_law_cause.proofs.quiesces.Asking.{own_whole}
use Rattle.arj_law_cause.proofs.sending.Ordered.{AllPut, UpCoord, UpRecords, message_up, worked_up}
use Rattle.arj_law_cause.proofs.sending.Handlers.{taken_mass}
use Rattle.arj_law_cause.proofs.sending.Weights.{mass, mass_both, own, weigh}

-- ---- what holds of a node within a step

abbrev pub Good : Here → Type 0
Good h = UpRecords (let d = h.disk in d.intents) × UpCoord (let t = h.parts in t.coord)

pub ran_good : (n : ℕ) (v : Parts) (es : List Effect) (d : Disk) → UpCoord v.coord → UpRecords d.intents → AllPut es →
    Good (ran n v es d).here
ran_good n v [] d up all puts = (all, up)
ran_good n v (Say b ∷ es) d up all puts = ran_good n v es d up all puts.1
ran_good n v (Do w ∷ es) d up all puts = ran_good n v es (worked w d) up (worked_up w d puts.0 all) puts.1
ran_good n v (Send to m ∷ es) d up all puts = by (to == n) (ran_good n v es d up all puts.1)
  where
    by : (b : Bool) → Good (ran n v es d).here → Good (cond b (first_queued m (ran n v es d)) (first_done (Send to m) (ran n v es d))).here
    by true ih = ih
    by false ih = ih

pub looks_put : (es : List Effect) → AreLooks es → AllPut es
looks_put [] looks = tt
looks_put (Do Look ∷ es) looks = (tt, looks_put es looks)
looks_put (Do (PutInc i) ∷ es) looks = absurd (cc looks)
looks_put (Do (Prepare r u s) ∷ es) looks = absurd (cc looks)
looks_put (Do (Commit r u) ∷ es) looks = absurd (cc looks)
looks_put (Do (Abort r u) ∷ es) looks = absurd (cc looks)
looks_put (Do (PutIntent u i) ∷ es) looks = absurd (cc looks)
looks_put (Do (RemoveIntent u) ∷ es) looks = absurd (cc looks)
looks_put (Say b ∷ es) looks = absurd (cc looks)
looks_put (Send to m ∷ es) looks = absurd (cc looks)

-- ---- what it leads to

module _ (n j k : ℕ) where
  abbrev queued : List Message → ℕ
  queued [] = 0
  queued (m ∷ ms) = own n j k m + queued ms

  queued_both : (xs ys : List Message) → queued (xs ++ ys) ≡ queued xs + queued ys
  queued_both [] ys = none (queued ys)
    where
      none : (a : ℕ) → a ≡ 0 + a
      none a = omega arith
  queued_both (x ∷ xs) ys = ap (λ a. own n j k x + a) (queued_both xs ys) ∙ three (own n j k x) (queued xs) (queued ys)
    where
      three : (a b c : ℕ) → a + (b + c) ≡ (a + b) + c
      three a b c = omega arith

  -- of messages to the node itself, and of those that went out
  abbrev total : Ran → ℕ
  total r = queued r.queue + mass n j k r.outs

  ran_total : (v : Parts) (es : List Effect) (d : Disk) → total (ran n v es d) ≡ mass n j k es
  ran_total v [] d = refl
  ran_total v (Say b ∷ es) d = ran_total v es d
  ran_total v (Do w ∷ es) d = ran_total v es (worked w d)
  ran_total v (Send to m ∷ es) d = by (to == n) refl (ran_total v es d)
    where
      in_queue : (o a b c w : ℕ) → w ≡ o → a + b ≡ c → (o + a) + b ≡ w + c
      in_queue o a b c w same is = omega (arith, same, is)

      out : (w a b c : ℕ) → a + b ≡ c → a + (w + b) ≡ w + c
      out w a b c is = omega (arith, is)

      by : (b : Bool) → (to == n) ≡ b → total (ran n v es d) ≡ mass n j k es →
          total (cond b (first_queued m (ran n v es d)) (first_done (Send to m) (ran n v es d))) ≡ weigh n j k to m + mass n j k es
      by true is ih = in_queue (own n j k m) (queued (ran n v es d).queue) (mass n j k (ran n v es d).outs) (mass n j k es)
          (weigh n j k to m)
          (λ i. cond (is i) (own n j k m) (cond (to == j) 1 0)) ih
      by false is ih = out (weigh n j k to m) (queued (ran n v es d).queue) (mass n j k (ran n v es d).outs) (mass n j k es) ih

  -- one message
  one_total : (m : Message) (h : Here) → Good h → own n j k m < k →
      let r = ran_handled n h (taken n h.disk h.parts n m) in (total r ≤ own n j k m) × Good r.here
  one_total m h good few = by (taken n h.disk h.parts n m) refl
      (taken_mass n j k n n h.disk h.parts good.1 good.0 m few)
    where
      by : (r : Handled) → taken n h.disk h.parts n m ≡ r → mass n j k (outs_of r) ≤ own n j k m →
          (total (ran_handled n h r) ≤ own n j k m) × Good (ran_handled n h r).here
      by (Void outs) is le = (
        subst (λ a. a ≤ own n j k m) (sym (ran_total h.parts outs h.disk)) le,
        ran_good n h.parts outs h.disk good.1 good.0
            (looks_put outs (subst LooksAlone is (taken_looks n h.disk h.parts n m))),
      )
      by (Took v outs) is le =
          let so = message_up n h.disk h.parts v n m outs (taken_took n h.disk h.parts v n m outs is) good.1 in (
            subst (λ a. a ≤ own n j k m) (sym (ran_total v outs h.disk)) le,
            ran_good n v outs h.disk so.0 good.0 so.1,
          )

  all_total : (ms : List Message) (h : Here) → Good h → queued ms < k →
      (total (handle_all n ms h) ≤ queued ms) × Good (handle_all n ms h).here
  all_total [] h good few = (omega arith, good)
  all_total (m ∷ ms) h good few =
      let r = ran_handled n h (taken n h.disk h.parts n m) in
      let t = handle_all n ms r.here in
      let one = one_total m h good (first (own n j k m) (queued ms) few) in
      let rest = all_total ms r.here one.1 (later (own n j k m) (queued ms) few) in (
        more (queued (r.queue ++ t.queue)) (queued r.queue) (queued t.queue) (mass n j k (r.outs ++ t.outs)) (mass n j k r.outs)
            (mass n j k t.outs) (own n j k m) (queued ms) (queued_both r.queue t.queue) (mass_both n j k r.outs t.outs) one.0 rest.0,
        rest.1,
      )
    where
      first : (a b : ℕ) → a + b < k → a < k
      first a b less = omega (arith, less)

      later : (a b : ℕ) → a + b < k → b < k
      later a b less = omega (arith, less)

      more : (q a b o c e x y : ℕ) → q ≡ a + b → o ≡ c + e → a + c ≤ x → b + e ≤ y → q + o ≤ x + y
      more q a b o c e x y one two three four = omega (arith, one, two, three, four)

  rounds_total : (i : ℕ) (r : Ran) → Good r.here → total r < k → mass n j k (rounds n i r).outs ≤ total r
  rounds_total zero r good few = less (queued r.queue) (mass n j k r.outs)
    where
      less : (a b : ℕ) → b ≤ a + b
      less a b = omega arith
  rounds_total (suc i) r good few = by r.queue (within (mass n j k (rounds n i (next_round n r)).outs) (queued t.queue)
      (mass n j k (r.outs ++ t.outs)) (mass n j k r.outs) (mass n j k t.outs) (queued r.queue)
      (rounds_total i (next_round n r) next.1 (still (queued t.queue) (mass n j k (r.outs ++ t.outs)) (mass n j k r.outs)
      (mass n j k t.outs)
      (queued r.queue) (mass_both n j k r.outs t.outs) next.0 few))
      (mass_both n j k r.outs t.outs) next.0)
    where
      t : Ran
      t = handle_all n r.queue r.here

      first : (a b : ℕ) → a + b < k → a < k
      first a b less = omega (arith, less)

      next : (total (handle_all n r.queue r.here) ≤ queued r.queue) × Good (handle_all n r.queue r.here).here
      next = all_total r.queue r.here good (first (queued r.queue) (mass n j k r.outs) few)

      still : (a o c e q : ℕ) → o ≡ c + e → a + e ≤ q → q + c < k → a + o < k
      still a o c e q is less few = omega (arith, is, less, few)

      within : (x a o c e q : ℕ) → x ≤ a + o → o ≡ c + e → a + e ≤ q → x ≤ q + c
      within x a o c e q le is few = omega (arith, le, is, few)

      less : (a b : ℕ) → b ≤ a + b
      less a b = omega arith

      one : List Message → Ran
      one q = elim q [ [] ↦ r | m ∷ ms ↦ rounds n i (next_round n r) ]

      by : (q : List Message) → mass n j k (rounds n i (next_round n r)).outs ≤ total r → mass n j k (one q).outs ≤ total r
      by [] rest = less (queued r.queue) (mass n j k r.outs)
      by (m ∷ ms) rest = rest

  pub whole_mass : (t : Parts) (outs : List Effect) (d : Disk) → UpCoord t.coord → UpRecords d.intents → AllPut outs → mass n j k outs < k →
      mass n j k (whole n t outs d).outs ≤ mass n j k outs
  whole_mass t outs d up all puts few =
      let same = ran_total t outs d in
      subst (λ a. mass n j k (whole n t outs d).outs ≤ a) same
      (rounds_total most_rounds (ran n t outs d) (ran_good n t outs d up all puts) (subst (λ a. a < k) (sym same) few))

-- ---- how many go to one node

-- how many messages go to node j
abbrev pub sent_to : ℕ → List Effect → ℕ
sent_to j [] = 0
sent_to j (Send to m ∷ es) = cond (to == j) 1 0 + sent_to j es
sent_to j (Say b ∷ es) = sent_to j es
sent_to j (Do w ∷ es) = sent_to j es

-- to another node no more than effects lead to
to_mass : (n j k : ℕ) → (j == n) ≡ false → (es : List Effect) → sent_to j es ≤ mass n j k es
to_mass n j k apart [] = omega arith
to_mass n j k apart (Send to m ∷ es) = both (cond (to == j) 1 0) (weigh n j k to m) (sent_to j es) (mass n j k es) (by (to == j) refl)
    (to_mass n j k apart es)
  where
    both : (a b c d : ℕ) → a ≤ b → c ≤ d → a + c ≤ b + d
    both a b c d x y = omega (arith, x, y)

    none : (a : ℕ) → 0 ≤ a
    none a = omega arith

    other : (to == j) ≡ true → (to == n) ≡ false
    other same = grind (arith, nat_tests, same, apart)

    by : (b : Bool) → (to == j) ≡ b → cond b 1 0 ≤ cond (to == n) (own n j k m) (cond (to == j) 1 0)
    by false is = none (weigh n j k to m)
    by true is = subst (λ a. 1
        ≤ a) (sym ((λ i. cond (other is i) (own n j k m) (cond (to == j) 1 0)) ∙ (λ i. cond (is i) 1 0))) (omega arith)
to_mass n j k apart (Say b ∷ es) = to_mass n j k apart es
to_mass n j k apart (Do w ∷ es) = to_mass n j k apart es

-- to itself none goes out
none_to : (n : ℕ) (es : List Effect) → ((m : Message) → members.In (Send n m) es → ⊥) → sent_to n es ≡ 0
none_to n [] none = refl
none_to n (Send to m ∷ es) none = by (to == n) refl (none_to n es (λ x i. none x (inr i)))
  where
    same : (to == n) ≡ true → to ≡ n
    same is = grind (arith, nat_tests, is)

    zero_more : (a : ℕ) → a ≡ 0 → 0 + a ≡ 0
    zero_more a is = omega (arith, is)

    by : (b : Bool) → (to == n) ≡ b → sent_to n es ≡ 0 → cond b 1 0 + sent_to n es ≡ 0
    by true is ih = absurd (none m (inl (ap (λ x. Send x m) (same is))))
    by false is ih = zero_more (sent_to n es) ih
none_to n (Say b ∷ es) none = none_to n es (λ x i. none x (inr i))
none_to n (Do w ∷ es) none = none_to n es (λ x i. none x (inr i))

-- A whole step of node n sends at most so many to each node, and none to itself.
pub whole_to : (n j c : ℕ) (t : Parts) (outs : List Effect) (d : Disk) → UpCoord t.coord → UpRecords d.intents → AllPut outs →
    mass n j (c + 1) outs ≤ c → (sent_to j (whole n t outs d).outs ≤ c) × ((j == n) ≡ true → sent_to j (whole n t outs d).outs ≡ 0)
whole_to n j c t outs d up all puts few = by (j == n) refl
  where
    outs_all : List Effect
    outs_all = (whole n t outs d).outs

    same : (j == n) ≡ true → n ≡ j
    same is = grind (arith, nat_tests, is)

    none : (j == n) ≡ true → sent_to j (whole n t outs d).outs ≡ 0
    none is = subst (λ x. sent_to x (whole n t outs d).outs ≡ 0) (same is)
        (none_to n (whole n t outs d).outs (λ m i. own_whole n t outs d m i))

    low : (a : ℕ) → a ≡ 0 → a ≤ c
    low a is = omega (arith, is)

    below : (a : ℕ) → a ≤ c → a < c + 1
    below a le = omega (arith, le)

    three : (a b e : ℕ) → a ≤ b → b ≤ e → e ≤ c → a ≤ c
    three a b e x y z = omega (arith, x, y, z)

    by : (b : Bool) → (j == n) ≡ b →
        (sent_to j (whole n t outs d).outs ≤ c) × ((j == n) ≡ true → sent_to j (whole n t outs d).outs ≡ 0)
    by true is = (low (sent_to j (whole n t outs d).outs) (none is), none)
    by false is = (
      three (sent_to j (whole n t outs d).outs) (mass n j (c + 1) (whole n t outs d).outs) (mass n j (c + 1) outs)
          (to_mass n j (c + 1) is (whole n t outs d).outs)
          (whole_mass n j (c + 1) t outs d up all puts (below (mass n j (c + 1) outs) few)) few,
      none,
    )
