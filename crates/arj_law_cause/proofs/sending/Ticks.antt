-- What a tick and a restart lead to: to each other node so many messages for each action at work, for each record, and for each action
-- that is asked about.
use Rattle.arj_law_parts.proofs.Words
use Words.{◌≡◌, ◌≤◌, ◌<◌, ◌∙◌, ◌+◌, ◌*◌, ◌==◌, ◌&&◌, not, ℕ, zero, suc, Bool, true, false, cond, List, [], ◌∷◌, ◌++◌, map, length}
use Words.{refl, sym, subst, arith, nat_tests, slice_get, AllByRecursion, Some, None, Disk, Do, Effect, Say}
use Words.{Send}
use Words.{Intent, Uid, Header, Parts, Coord, Doing, Now, Idle, Calling, Committing, Machine, Voting, Preparing, Confirming}
use Words.{again_all, again_now, at_place, is_own, uid_at, tell_all, tolds_again, query_about, holders, tick_outs, Look, PutInc}
use Words.{prepared_actions, uid_set, hello_to, naming_at, naming_back, numbers_to, recovered_records, restart_outs, without_number}
use Words.body
use Words.ending
use Words.message
use Rattle.arj_law_runs.proofs.kept.Walked.{same_number}
use Rattle.arj_law_serial.proofs.joint.Restarting.{back_said}
use Rattle.arj_law_cause.proofs.follow.lines.Rising.{AreRising, IsRising}
use Rattle.arj_law_cause.proofs.sending.Handlers.{asked, call_mass, machine_mass}
use Rattle.arj_law_cause.proofs.sending.Hellos.{queries_mass}
use Rattle.arj_law_cause.proofs.sending.Ordered.{UpCoord, UpRecords}
use Rattle.arj_law_cause.proofs.sending.Weights as weights
use weights.{fewer, once, tally, times}

-- ---- all that a coordinator has at work

all_at : {P : Doing → Type 0} (ds : List Doing) → ((j : ℕ) (d : Doing) → slice_get ds j ≡ Some d → P d) → AllByRecursion P ds
all_at [] each = tt
all_at (d ∷ ds) each = (each zero d refl, all_at ds (λ j e at. each (suc j) e at))

pub all_rise : (c : Coord) → AreRising c → AllByRecursion (λ (d : Doing). IsRising d.now) c.doings
all_rise c up = all_at c.doings (λ j d at. up (uid_at (suc j) c) d ((λ i. cond (own j i) (at_place (suc j) c.doings) None) ∙ at))
  where
    own : (j : ℕ) → is_own (uid_at (suc j) c) c.tree ≡ true
    own j = λ i. same_number c.tree.node i && same_number c.tree.inc i

-- ---- numbers of nodes

tally_last : (j m : ℕ) (ns : List ℕ) → tally j (ns ++ m ∷ []) ≡ tally j ns + cond (m == j) 1 0
tally_last j m [] = by (m == j)
  where
    by : (b : Bool) → cond b 1 0 ≡ 0 + cond b 1 0
    by true = refl
    by false = refl
tally_last j m (n ∷ ns) = by (n == j) (tally_last j m ns)
  where
    more : (a b c : ℕ) → a ≡ b + c → suc a ≡ suc b + c
    more a b c is = omega (arith, is)

    by : (b : Bool) → tally j (ns ++ m ∷ []) ≡ tally j ns + cond (m == j) 1 0 →
        cond b (suc (tally j (ns ++ m ∷ []))) (tally j (ns ++ m ∷ [])) ≡ cond b (suc (tally j ns)) (tally j ns) + cond (m == j) 1 0
    by true ih = more (tally j (ns ++ m ∷ [])) (tally j ns) (cond (m == j) 1 0) ih
    by false ih = ih

none_above : (j n : ℕ) → n < j → tally j (numbers_to n) ≡ 0
none_above j zero less = refl
none_above j (suc n) less = tally_last j (suc n) (numbers_to n)
    ∙ (λ i. none_above j n (lower less) i + cond (apart less i) 1 0)
  where
    lower : suc n < j → n < j
    lower less = omega (arith, less)

    apart : suc n < j → (suc n == j) ≡ false
    apart less = grind (arith, nat_tests, less)

pub one_of : (j n : ℕ) → tally j (numbers_to n) ≤ 1
one_of j zero = omega arith
one_of j (suc n) = by (suc n == j) refl (one_of j n)
  where
    below : (suc n == j) ≡ true → n < j
    below is = grind (arith, nat_tests, is)

    one : (a b : ℕ) → a ≡ b + 1 → b ≡ 0 → a ≤ 1
    one a b is none = omega (arith, is, none)

    none : (a b : ℕ) → a ≡ b + 0 → b ≤ 1 → a ≤ 1
    none a b is le = omega (arith, is, le)

    by : (b : Bool) → (suc n == j) ≡ b → tally j (numbers_to n) ≤ 1 → tally j (numbers_to n ++ suc n ∷ []) ≤ 1
    by true is ih = one (tally j (numbers_to n ++ suc n ∷ [])) (tally j (numbers_to n))
        (tally_last j (suc n) (numbers_to n) ∙ (λ i. tally j (numbers_to n) + cond (is i) 1 0)) (none_above j n (below is))
    by false is ih = none (tally j (numbers_to n ++ suc n ∷ [])) (tally j (numbers_to n))
        (tally_last j (suc n) (numbers_to n) ∙ (λ i. tally j (numbers_to n) + cond (is i) 1 0)) ih

module _ (n j k : ℕ) where
  abbrev mass : List Effect → ℕ
  mass es = weights.mass n j k es

  -- ---- a tick

  again_mass : (ds : List Doing) (c : Coord) → AllByRecursion (λ (d : Doing). IsRising d.now) ds →
      mass (again_all ds c).outs ≤ 4 * length ds
  again_mass [] c all = omega arith
  again_mass (d ∷ ds) c all =
      let t = again_now c d.now in
      both (mass (t.outs ++ (again_all ds t.part).outs)) (mass t.outs) (mass (again_all ds t.part).outs) (length ds)
      (weights.mass_both n j k t.outs (again_all ds t.part).outs) (now d.now all.0) (again_mass ds t.part all.1)
    where
      both : (a b e l : ℕ) → a ≡ b + e → b ≤ 4 → e ≤ 4 * l → a ≤ 4 * suc l
      both a b e l is one rest = omega (arith, is, one, rest)

      low : (a : ℕ) → a ≤ 1 → a ≤ 4
      low a le = omega (arith, le)

      less : (a b : ℕ) → a ≤ b → b ≤ 4 → a ≤ 4
      less a b x y = omega (arith, x, y)

      most : (m : Machine) → asked n j k m ≤ 4
      most (Voting p left) = omega arith
      most (Preparing p left) = omega arith
      most (Confirming p) = omega arith

      now : (x : Now) → IsRising x → mass (again_now c x).outs ≤ 4
      now Idle up = omega arith
      now (Calling s) up = low (mass (again_now c (Calling s)).outs) (call_mass n j k s c)
      now (Committing m) up = less (mass (again_now c (Committing m)).outs) (asked n j k m) (machine_mass n j k m c up.0) (most m)

  again_tolds : (telling : List (Uid × Intent)) → UpRecords telling → mass (tolds_again telling) ≤ 2 * length telling
  again_tolds [] all = omega arith
  again_tolds (e ∷ es) all =
      let here = tell_all e.1.root true ((e.0, ending.Commit) ∷ []) e.1.nodes in
      both (mass (here ++ tolds_again es)) (mass here) (mass (tolds_again es)) (length es) (weights.mass_both n j k here (tolds_again es))
      (weights.within n j k (mass here) 1 (tally n e.1.nodes) (tally j e.1.nodes)
      (weights.each_mass n j k (λ i. message.Told (record { root = e.1.root; ack = true; ends = (e.0, ending.Commit) ∷ [] })) 1
      (λ i. omega arith) e.1.nodes) (once n e.1.nodes all.0) (once j e.1.nodes all.0)) (again_tolds es all.1)
    where
      both : (a b c l : ℕ) → a ≡ b + c → b ≤ 2 → c ≤ 2 * l → a ≤ 2 * suc l
      both a b c l is one rest = omega (arith, is, one, rest)

  -- four for each action at work, two for each record, one for each that is asked about
  pub tick_mass : (i : ℕ) (d : Disk) (t : Parts) → UpCoord t.coord → mass (tick_outs (record { number = i; disk = d; live = Some t }) t)
      ≤ (4 * length t.coord.doings + 2 * length t.coord.telling) + length (holders d t)
  tick_mass i d t up =
      let r = (again_all t.coord.doings t.coord).outs in
      let told = tolds_again t.coord.telling in
      let asks = map query_about (holders d t) in
      three (mass ((r ++ told) ++ asks)) (mass (r ++ told)) (mass r) (mass told) (mass asks) (length t.coord.doings)
      (length t.coord.telling) (length (holders d t)) (weights.mass_both n j k (r ++ told) asks) (weights.mass_both n j k r told)
      (again_mass t.coord.doings t.coord (all_rise t.coord up.0)) (again_tolds t.coord.telling up.2) (queries_mass n j k (holders d t))
    where
      three : (a b c e f x y z : ℕ) → a ≡ b + f → b ≡ c + e → c ≤ 4 * x → e ≤ 2 * y → f ≤ z → a ≤ (4 * x + 2 * y) + z
      three a b c e f x y z one two p q r = omega (arith, one, two, p, q, r)

  -- ---- a restart

  abbrev Silent : Effect → Type 0
  Silent e = mass (e ∷ []) ≡ 0

  silent_mass : (es : List Effect) → AllByRecursion Silent es → mass es ≡ 0
  silent_mass [] all = refl
  silent_mass (Send to m ∷ es) all = both (weights.weigh n j k to m) (mass es) all.0 (silent_mass es all.1)
    where
      both : (a b : ℕ) → a + 0 ≡ 0 → b ≡ 0 → a + b ≡ 0
      both a b one two = omega (arith, one, two)
  silent_mass (Say b ∷ es) all = silent_mass es all.1
  silent_mass (Do w ∷ es) all = silent_mass es all.1

  found_none : (es : List (Uid × Intent)) (i : ℕ) → mass (recovered_records i es) ≡ 0
  found_none [] i = refl
  found_none (e ∷ es) i = found_none es i

  hellos_mass : (inc : ℕ) (ns : List ℕ) → mass (map (hello_to n inc) (without_number n ns)) ≤ tally j ns
  hellos_mass inc [] = omega arith
  hellos_mass inc (m ∷ ns) = by (m == n) refl (hellos_mass inc ns)
    where
      rest : List Effect
      rest = map (hello_to n inc) (without_number n ns)

      more : (b : Bool) (a c : ℕ) → a ≤ c → a ≤ cond b (suc c) c
      more true a c le = omega (arith, le)
      more false a c le = le

      one : (b : Bool) (a c : ℕ) → a ≤ c → cond b 1 0 + a ≤ cond b (suc c) c
      one true a c le = omega (arith, le)
      one false a c le = omega (arith, le)

      by : (b : Bool) → (m == n) ≡ b → mass rest ≤ tally j ns →
          mass (map (hello_to n inc) (cond (not b) (m ∷ without_number n ns) (without_number n ns))) ≤ tally j (m ∷ ns)
      by true same ih = more (m == j) (mass rest) (tally j ns) ih
      by false apart ih = subst (λ a. a + mass rest ≤ tally j (m ∷ ns)) (λ i. cond (sym apart i) k (cond (m == j) 1 0))
          (one (m == j) (mass rest) (tally j ns) ih)

  -- two for each record, one for each that is asked about, and a hello
  pub restart_mass : (hd : Header) (inc : ℕ) (d : Disk) → UpRecords d.intents → mass (restart_outs hd n inc d)
      ≤ (2 * length d.intents + length (uid_set (prepared_actions d.store ++ prepared_actions d.names))) + 1
  restart_mass hd inc d up =
      four (mass (three ++ asks ++ hellos)) (mass (three ++ asks)) (mass three) (mass (one ++ two)) (mass one) (mass two)
      (mass (tolds_again d.intents)) (mass asks) (mass hellos) (length d.intents)
      (length (uid_set (prepared_actions d.store ++ prepared_actions d.names))) (weights.mass_both n j k (three ++ asks) hellos)
      (weights.mass_both n j k three asks) (weights.mass_both n j k (one ++ two) (tolds_again d.intents)) (weights.mass_both n j k one two)
      (silent_mass back (back_said Silent (λ b. refl) (naming_at n inc d.names))) (found_none d.intents n) (again_tolds d.intents up)
      (queries_mass n j k (uid_set (prepared_actions d.store ++ prepared_actions d.names)))
      (less (mass hellos) (tally j (numbers_to hd.nodes)) (hellos_mass inc (numbers_to hd.nodes)) (one_of j hd.nodes))
    where
      back : List Effect
      back = naming_back (naming_at n inc d.names)

      one : List Effect
      one = Do Look ∷ Do (PutInc inc) ∷ Say (body.Up n inc) ∷ Do Look ∷ back

      two : List Effect
      two = Do Look ∷ recovered_records n d.intents

      three : List Effect
      three = (one ++ two) ++ tolds_again d.intents

      asks : List Effect
      asks = map query_about (uid_set (prepared_actions d.store ++ prepared_actions d.names))

      hellos : List Effect
      hellos = map (hello_to n inc) (without_number n (numbers_to hd.nodes))

      less : (a b : ℕ) → a ≤ b → b ≤ 1 → a ≤ 1
      less a b x y = omega (arith, x, y)

      four : (a b c e f g t q h x y : ℕ) → a ≡ b + h → b ≡ c + q → c ≡ e + t → e ≡ f + g → f ≡ 0 → g ≡ 0 → t ≤ 2 * x → q ≤ y → h ≤ 1 →
          a ≤ (2 * x + y) + 1
      four a b c e f g t q h x y p r s u v w l m o = omega (arith, p, r, s, u, v, w, l, m, o)
