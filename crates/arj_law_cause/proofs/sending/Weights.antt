-- How many messages to one other node a message that a node sends to itself may lead to, in the same step, and so the effects of a handler:
-- what is told of an end, and of a decision.
use Rattle.arj_law_parts.proofs.Words
use Words.{◌≡◌, ◌≤◌, ◌<◌, ◌+◌, ◌==◌, ◌&&◌, ◌||◌, not, ℕ, zero, suc, Bool, true, false, cond, List, [], ◌∷◌, ◌++◌, map, filter, refl, sym}
use Words.{ap, subst}
use Words.{arith, nat_tests, ◌∙◌, ⊤, AllByRecursion, flat_map, length}
use Words.{Option, Some, None, option_map, list_all, and_parts, AreAll, Ask, Asked, Body, End, Head, Kind, Label, Message, ObjectState}
use Words.{Path, Uid}
use Words.{request, Reply, actor, asked_by, response, last_end, heard, heard_by, heard_call, heard_doing, heard_none, heard_now, kept_at}
use Words.{moved_commit, step_call, step_commit, waits_for_call, waits_for_commit, CallStep, Ended, Goal, On, Steps, At, ask_at, goes_on}
use Words.{Machine, Voting, Preparing, Confirming, ask_of, left_of, plan_of, Plan, CommitStep, Stays, Asks, Decides, Aborts, Marked, Used}
use Words.{begin_confirm, begin_prepare, begin_vote, servers_of, targets_of, stores_left, votes_left, marks_store, marks_stores, stores_by}
use Words.{changed_of, with_states, waiting, participants, has_record}
use Words.{Calling, Committing, Coord, Doing, Idle, Now, doing_of, is_free, on_root, root_at, nodes_sent, servers_told}
use Words.{Disk, Do, Effect, Intent, Pair, Prep, PutIntent, RemoveIntent, Say, Send, Served, Did, has, Naming, Handled, Parts, Took, Void}
use Words.{at_uid, is_prepared, prepare_answer, prepare_by, prepare_states, Ready, Already, Old, InDoubt, without_number, without_uid}
use Words.{with_number}
use Words.{ack_told, end_states, handle, handle_ends, handle_told, if_naming, is_meant, naming_told, store_told, coord_heard, by_reply}
use Words.{sends_answer, served, taken, with_coord, with_naming, with_server, is_naming_effect, confirm, confirm_own, ends_own, told_own}
use Words.{vote_own}
use Words.{asks_all, asks_node, commits_in, mark_lines, say_for, says, tell, tell_all, tolds_by, tolds_of, tolds_of_branch, up_to}
use Words.{ends_of, root_of}
use Words.{acked, acked_by, acked_left, tolds_let_go, let_go, aborts_with, ends_with, decide, decided_told, ended, Branch, branch_of}
use Words.{uid_eq}
use Words.{answer_query, answer_decided, answer_recorded, is_deferred, is_kept_commit, is_open, root_or_self, Moved, answered, root_moved}
use Words.{next_ask, next_node, step}
use Words.ask
use Words.body
use Words.calls
use Words.cause
use Words.commit
use Words.confirmed
use Words.ending
use Words.kind
use Words.message
use Words.naming
use Words.prepared
use Words.server
use Words.voted
use Rattle.arj_law_parts.proofs.parts.Numbered.{AreUp, set_up}
use Rattle.arj_protocol.specs.Coord.{is_invoked_by}
use Rattle.arj_law_cause.proofs.quiesces.Sends.{AllCalls, count_sent, of_call}

-- ---- numbers in lists

-- how often the number stands there
abbrev pub tally : ℕ → List ℕ → ℕ
tally j [] = 0
tally j (m ∷ ms) = cond (m == j) (suc (tally j ms)) (tally j ms)

above_none : (j : ℕ) (ms : List ℕ) → AllByRecursion (λ (m : ℕ). j < m) ms → tally j ms ≡ 0
above_none j [] all = refl
above_none j (m ∷ ms) all = (λ i. cond (apart all.0 i) (suc (tally j ms)) (tally j ms)) ∙ above_none j ms all.1
  where
    apart : j < m → (m == j) ≡ false
    apart less = grind (arith, nat_tests, less)

pub once : (j : ℕ) (ms : List ℕ) → AreUp ms → tally j ms ≤ 1
once j [] up = omega arith
once j (m ∷ ms) up = by (m == j) refl (once j ms up.1)
  where
    one : (a : ℕ) → a ≡ 0 → suc a ≤ 1
    one a none = omega (arith, none)

    by : (b : Bool) → (m == j) ≡ b → tally j ms ≤ 1 → cond b (suc (tally j ms)) (tally j ms) ≤ 1
    by true is ih = one (tally j ms) (above_none j ms (subst (λ h. AllByRecursion (λ (i : ℕ). h < i) ms) (same is) up.0))
      where
        same : (m == j) ≡ true → m ≡ j
        same is = grind (arith, nat_tests, is)
    by false is ih = ih

pub fewer : (j : ℕ) (test : ℕ → Bool) (ms : List ℕ) → tally j (filter test ms) ≤ tally j ms
fewer j test [] = omega arith
fewer j test (m ∷ ms) = by (test m) (fewer j test ms)
  where
    kept : (a b : ℕ) → a ≤ b → suc a ≤ suc b
    kept a b le = omega (arith, le)

    more : (a b : ℕ) → a ≤ b → a ≤ suc b
    more a b le = omega (arith, le)

    both : (c : Bool) (a b : ℕ) → a ≤ b → cond c (suc a) a ≤ cond c (suc b) b
    both true a b le = kept a b le
    both false a b le = le

    one : (c : Bool) (a b : ℕ) → a ≤ b → a ≤ cond c (suc b) b
    one true a b le = more a b le
    one false a b le = le

    by : (b : Bool) → tally j (filter test ms) ≤ tally j ms →
        tally j (cond b (m ∷ filter test ms) (filter test ms)) ≤ cond (m == j) (suc (tally j ms)) (tally j ms)
    by true ih = both (m == j) (tally j (filter test ms)) (tally j ms) ih
    by false ih = one (m == j) (tally j (filter test ms)) (tally j ms) ih

abbrev pub times : ℕ → ℕ → ℕ
times a zero = 0
times a (suc k) = a + times a k

times_one : (a k : ℕ) → k ≤ 1 → times a k ≤ a
times_one a zero le = omega arith
times_one a (suc zero) le = one a
  where
    one : (b : ℕ) → b + 0 ≤ b
    one b = omega arith
times_one a (suc (suc k)) le = absurd (never k le)
  where
    never : (b : ℕ) → suc (suc b) ≤ 1 → ⊥
    never b le = omega (arith, le)

-- ---- weights

-- Of node n, and of another one, j. A greeting that a node sends to itself isn't bounded: it weighs k.
module _ (n j k : ℕ) where
  -- what a message that node n sends to itself may lead to
  abbrev pub own : Message → ℕ
  own (message.Told m) = cond m.ack 1 0
  own (message.Acked m) = 1
  own (message.Query m) = 1
  own (message.Vote m) = 3
  own (message.Voted m) = 3
  own (message.Prepare m) = 2
  own (message.Prepared m) = 2
  own (message.Confirm m) = 2
  own (message.Confirmed m) = 2
  own (message.Bind m) = 1
  own (message.Bound m) = 1
  own (message.Load m) = 1
  own (message.Loaded m) = 1
  own (message.Activate m) = 1
  own (message.Activated m) = 1
  own (message.RecordMsg m) = 1
  own (message.Recorded m) = 1
  own (message.Invoke m) = 1
  own (message.Invoked m) = 1
  own (message.Hello m) = k

  -- a message to node j is one
  abbrev pub weigh : ℕ → Message → ℕ
  weigh to m = cond (to == n) (own m) (cond (to == j) 1 0)

  -- what effects lead to
  abbrev pub mass : List Effect → ℕ
  mass [] = 0
  mass (Send to m ∷ es) = weigh to m + mass es
  mass (Say b ∷ es) = mass es
  mass (Do w ∷ es) = mass es

  pub mass_both : (es fs : List Effect) → mass (es ++ fs) ≡ mass es + mass fs
  mass_both [] fs = none (mass fs)
    where
      none : (a : ℕ) → a ≡ 0 + a
      none a = omega arith
  mass_both (Send to m ∷ es) fs = ap (λ a. weigh to m + a) (mass_both es fs) ∙ three (weigh to m) (mass es) (mass fs)
    where
      three : (a b c : ℕ) → a + (b + c) ≡ (a + b) + c
      three a b c = omega arith
  mass_both (Say b ∷ es) fs = mass_both es fs
  mass_both (Do w ∷ es) fs = mass_both es fs

  -- what sends nothing leads to nothing
  pub unsent : (es : List Effect) → count_sent es ≡ 0 → mass es ≡ 0
  unsent [] none = refl
  unsent (Send to m ∷ es) none = never (count_sent es) none
    where
      never : {A : Type 0} (a : ℕ) → 1 + a ≡ 0 → A
      never a is = absurd (omega (arith, is))
  unsent (Say b ∷ es) none = unsent es none
  unsent (Do w ∷ es) none = unsent es none

  -- one message
  pub weighs : (a to : ℕ) (m : Message) → own m ≤ a → 1 ≤ a → weigh to m ≤ a
  weighs a to m own_less some = by (to == n) (to == j)
    where
      none : (b : ℕ) → 0 ≤ b
      none b = omega arith

      by : (b c : Bool) → cond b (own m) (cond c 1 0) ≤ a
      by true c = own_less
      by false true = some
      by false false = none a

  pub one_sent : (a to : ℕ) (m : Message) → own m ≤ a → 1 ≤ a → mass (Send to m ∷ []) ≤ a
  one_sent a to m own_less some = none (weigh to m) a (weighs a to m own_less some)
    where
      none : (b c : ℕ) → b ≤ c → b + 0 ≤ c
      none b c le = omega (arith, le)

  pub of_call_one : (m : Message) → of_call m ≡ true → own m ≤ 1
  of_call_one (message.Bind m) is = omega arith
  of_call_one (message.Bound m) is = omega arith
  of_call_one (message.Load m) is = omega arith
  of_call_one (message.Loaded m) is = omega arith
  of_call_one (message.Activate m) is = omega arith
  of_call_one (message.Activated m) is = omega arith
  of_call_one (message.RecordMsg m) is = omega arith
  of_call_one (message.Recorded m) is = omega arith
  of_call_one (message.Invoke m) is = omega arith
  of_call_one (message.Invoked m) is = omega arith
  of_call_one (message.Vote m) is = absurd (cc is)
  of_call_one (message.Voted m) is = absurd (cc is)
  of_call_one (message.Prepare m) is = absurd (cc is)
  of_call_one (message.Prepared m) is = absurd (cc is)
  of_call_one (message.Confirm m) is = absurd (cc is)
  of_call_one (message.Confirmed m) is = absurd (cc is)
  of_call_one (message.Told m) is = absurd (cc is)
  of_call_one (message.Acked m) is = absurd (cc is)
  of_call_one (message.Query m) is = absurd (cc is)
  of_call_one (message.Hello m) is = absurd (cc is)

  -- messages of calls lead to as many as they are
  pub calls_mass : (es : List Effect) → AllCalls es → mass es ≤ count_sent es
  calls_mass [] all = omega arith
  calls_mass (Send to m ∷ es) all =
      let p = and_parts (of_call m) (list_all _ es) all in
      both (weigh to m) (mass es) (count_sent es) (weighs 1 to m (of_call_one m p.0) (omega arith)) (calls_mass es p.1)
    where
      both : (a b c : ℕ) → a ≤ 1 → b ≤ c → a + b ≤ 1 + c
      both a b c x y = omega (arith, x, y)
  calls_mass (Say b ∷ es) all = calls_mass es all
  calls_mass (Do w ∷ es) all = calls_mass es all

  -- ---- to each of these nodes

  pub one_more : (a w tn tj rest : ℕ) (b c : Bool) → w ≤ a → rest ≤ times a tn + tj →
      cond b w (cond c 1 0) + rest ≤ times a (cond b (suc tn) tn) + cond c (suc tj) tj
  one_more a w tn tj rest b c less ih = by b c
    where
      x : ℕ
      x = times a tn

      both : (y : ℕ) → rest ≤ y + tj → w + rest ≤ (a + y) + suc tj
      both y le = omega (arith, less, le)

      here : (y : ℕ) → rest ≤ y + tj → w + rest ≤ (a + y) + tj
      here y le = omega (arith, less, le)

      there : (y : ℕ) → rest ≤ y + tj → 1 + rest ≤ y + suc tj
      there y le = omega (arith, le)

      none : (y : ℕ) → rest ≤ y + tj → 0 + rest ≤ y + tj
      none y le = omega (arith, le)

      by : (b c : Bool) → cond b w (cond c 1 0) + rest ≤ times a (cond b (suc tn) tn) + cond c (suc tj) tj
      by true true = both x ih
      by true false = here x ih
      by false true = there x ih
      by false false = none x ih

  -- one message to each, of which none leads to more than so many
  pub each_mass : (f : ℕ → Message) (a : ℕ) → ((i : ℕ) → own (f i) ≤ a) → (ns : List ℕ) →
      mass (map (λ i. Send i (f i)) ns) ≤ times a (tally n ns) + tally j ns
  each_mass f a less [] = omega arith
  each_mass f a less (i ∷ ns) = one_more a (own (f i)) (tally n ns) (tally j ns) (mass (map (λ (z : ℕ). Send z (f z)) ns)) (i == n) (i == j)
      (less i) (each_mass f a less ns)

  -- or one of two
  pub either_mass : (f g : ℕ → Message) (test : ℕ → Bool) (a : ℕ) → ((i : ℕ) → own (f i) ≤ a) → ((i : ℕ) → own (g i) ≤ a) → (ns : List ℕ) →
      mass (map (λ i. cond (test i) (Send i (f i)) (Send i (g i))) ns) ≤ times a (tally n ns) + tally j ns
  either_mass f g test a less low [] = omega arith
  either_mass f g test a less low (i ∷ ns) = by (test i) (either_mass f g test a less low ns)
    where
      rest : List Effect
      rest = map (λ (z : ℕ). cond (test z) (Send z (f z)) (Send z (g z))) ns

      by : (b : Bool) → mass rest ≤ times a (tally n ns) + tally j ns → mass (cond b (Send i (f i)) (Send i (g i)) ∷ rest)
          ≤ times a (tally n (i ∷ ns)) + tally j (i ∷ ns)
      by true ih = one_more a (own (f i)) (tally n ns) (tally j ns) (mass rest) (i == n) (i == j) (less i) ih
      by false ih = one_more a (own (g i)) (tally n ns) (tally j ns) (mass rest) (i == n) (i == j) (low i) ih

  pub within : (x a t u : ℕ) → x ≤ times a t + u → t ≤ 1 → u ≤ 1 → x ≤ a + 1
  within x a t u le one two = by (times a t) le (times_one a t one)
    where
      by : (y : ℕ) → x ≤ y + u → y ≤ a → x ≤ a + 1
      by y le less = omega (arith, le, less, two)

  -- tolds that ask for no acknowledgement, and such as do
  pub told_mass : (root : Uid) (ends : List (Uid × End)) (ns : List ℕ) → tally n ns ≤ 1 → tally j ns ≤ 1 →
      mass (tell_all root false ends ns) ≤ 1
  told_mass root ends ns one two = within (mass (tell_all root false ends ns)) 0 (tally n ns) (tally j ns)
      (each_mass (λ i. message.Told (record { root = root; ack = false; ends = ends })) 0 (λ i. omega arith) ns) one two

  pub flag_one : (b : Bool) → cond b 1 0 ≤ 1
  flag_one true = omega arith
  flag_one false = omega arith

  -- ---- lines

  pub said_none : (u : Uid) (f : Label → Body) (c : Coord) → mass (says u f c) ≡ 0
  said_none u f c = by (doing_of u c)
    where
      by : (o : Option Doing) → mass (say_for f o) ≡ 0
      by None = refl
      by (Some d) = refl

  pub lines_none : {A : Type 0} (u : Uid) (f : A → Label → Body) (c : Coord) (xs : List A) → mass (flat_map (λ x. says u (f x) c) xs) ≡ 0
  lines_none u f c [] = refl
  lines_none u f c (x ∷ xs) = both (mass (says u (f x) c ++ flat_map (λ z. says u (f z) c) xs)) (mass (says u (f x) c))
      (mass (flat_map (λ z. says u (f z) c) xs)) (mass_both (says u (f x) c) (flat_map (λ z. says u (f z) c) xs)) (said_none u (f x) c)
      (lines_none u f c xs)
    where
      both : (a b d : ℕ) → a ≡ b + d → b ≡ 0 → d ≡ 0 → a ≡ 0
      both a b d is one two = omega (arith, is, one, two)

  -- behind what leads to nothing
  pub behind_none : (es fs : List Effect) (a : ℕ) → mass es ≡ 0 → mass fs ≤ a → mass (es ++ fs) ≤ a
  behind_none es fs a none le = both (mass (es ++ fs)) (mass es) (mass fs) (mass_both es fs) none le
    where
      both : (x y z : ℕ) → x ≡ y + z → y ≡ 0 → z ≤ a → x ≤ a
      both x y z is none le = omega (arith, is, none, le)

  -- ---- ends

  pub tolds_mass : (intents : List (Uid × Intent)) (c : Coord) (u : Uid) → mass (tolds_of intents c u) ≤ 1
  tolds_mass intents c u = by (branch_of u c.tree)
    where
      none : (a : ℕ) → 0 ≤ a
      none a = omega arith

      less : (a b : ℕ) → a ≤ b → b ≤ 1 → a ≤ 1
      less a b x y = omega (arith, x, y)

      sent_once : (i : ℕ) (w : Uid) (r : Words.Root) → tally i (nodes_sent w r) ≤ 1
      sent_once i w r = once i (nodes_sent w r) (set_up (map (λ (x : Words.Went). x.node) (filter (λ
          (x : Words.Went). Words.is_on x.path w) r.went)))

      kinds : (p : Path) (q : Kind) → mass (tolds_by u q p intents c) ≤ 1
      kinds p kind.Nested =
          let r = root_at (root_of p) c in
          let ns = servers_told u r c in
          let up : AreUp ns = set_up (map (λ (w : Words.Went). w.node) (filter (is_invoked_by u c) r.went)) in
          told_mass (root_of p) (up_to u (ends_of (root_of p) c.tree)) ns (once n ns up) (once j ns up)
      kinds p kind.Serial =
          let all = nodes_sent u (root_at u c) in
          let test : ℕ → Bool = λ i. not (is_deferred u intents i) in
          told_mass u ((u, ending.Abort) ∷ []) (filter test all)
          (less (tally n (filter test all)) (tally n all) (fewer n test all) (sent_once n u (root_at u c)))
          (less (tally j (filter test all)) (tally j all) (fewer j test all) (sent_once j u (root_at u c)))
      kinds p kind.Top = told_mass (root_of p) ((u, ending.Abort) ∷ []) (nodes_sent u (root_at (root_of p) c))
          (sent_once n u (root_at (root_of p) c)) (sent_once j u (root_at (root_of p) c))
      kinds p kind.Independent = told_mass (root_of p) ((u, ending.Abort) ∷ []) (nodes_sent u (root_at (root_of p) c))
          (sent_once n u (root_at (root_of p) c)) (sent_once j u (root_at (root_of p) c))
      kinds p kind.Constituent = told_mass (root_of p) ((u, ending.Abort) ∷ []) (nodes_sent u (root_at (root_of p) c))
          (sent_once n u (root_at (root_of p) c)) (sent_once j u (root_at (root_of p) c))

      by : (o : Option Branch) → mass (tolds_of_branch u intents c o) ≤ 1
      by None = none 1
      by (Some b) = kinds b.path b.kind

  pub ends_mass : (u : Uid) (e : End) (f : Label → Body) (intents : List (Uid × Intent)) (c : Coord) →
      mass (ends_with u e f intents c).outs ≤ 1
  ends_mass u e f intents c = behind_none (says u f c) (tolds_of intents (ended u e c) u) 1 (said_none u f c)
      (tolds_mass intents (ended u e c) u)

  pub decide_mass : (p : Plan) (c : Coord) → AreUp p.sent → mass (decide p c).outs ≤ 2
  decide_mass p c up = behind_none (Words.record_work u p ++ says u body.Committed c) (map (decided_told root u p) p.sent) 2
      (both (mass (Words.record_work u p ++ says u body.Committed c)) (mass (Words.record_work u p)) (mass (says u body.Committed c))
      (mass_both (Words.record_work u p) (says u body.Committed c)) (recorded (has_record p)) (said_none u body.Committed c))
      (within (mass (map (decided_told root u p) p.sent)) 1 (tally n p.sent) (tally j p.sent)
      (either_mass (λ i. message.Told (record { root = root; ack = has_record p; ends = (u, ending.Commit) ∷ [] }))
      (λ i. message.Told (record { root = root; ack = false; ends = (u, ending.Abort) ∷ [] })) (has (participants p)) 1
      (λ i. flag_one (has_record p)) (λ i. omega arith) p.sent) (once n p.sent up) (once j p.sent up))
    where
      u : Uid
      u = actor p.path

      root : Uid
      root = root_of p.path

      both : (a b d : ℕ) → a ≡ b + d → b ≡ 0 → d ≡ 0 → a ≡ 0
      both a b d is one two = omega (arith, is, one, two)

      recorded : (b : Bool) → mass (cond b (Do (PutIntent u (record { root = root; nodes = participants p })) ∷ []) []) ≡ 0
      recorded true = refl
      recorded false = refl
