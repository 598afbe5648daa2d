-- What a node leaves waiting that is asked something on its own: nobody who didn't wait is overtaken, since naming's answer names the last
-- binding of the object, and makes no other one in the event.
use Rattle.arj_law_parts.proofs.Words
use Words.{◌≡◌, ◌⊎◌, ◌∙◌, ◌≤◌, ◌<◌, ◌+◌, ◌*◌, ◌==◌, ◌++◌, ℕ, Bool, true, false, cond, List, [], ◌∷◌, Option, Some, None, refl, sym, ap}
use Words.{subst, arith, nat_lt, nat_tests, ⊤, inl, inr, ⊎_elim, and_parts, list_all, append-nil, Row, Binding}
use Words.{BoundReply, Entry, Head, Header, Message, Path, Uid, request, Reply, actor, top_of, At, AtActivate, AtBind, AtInvoke, AtLoad}
use Words.{AtNote, Goal, Include, Known, Run, Steps, goes_on, is_include, start, Calling, Coord, Doing, doing_of, Did, Effect, Say}
use Words.{Send, Served, void, Counted, Live, Made, Named, Naming, bind_call, bind_made, bind_named, bound_new, conflict_on, is_over}
use Words.{listed_entry, live_above, live_asked, lock_lines, made_above, make_asked, next_server, on_counted, at_number, at_uid}
use Words.{binding_less}
use Words.{binding_number, Parts, with_coord, whole, Ran, Input, Node, acts, is_waiting_now, refusal_up, at_place, World, Seen, see}
use Words.{IsOvertaken, IsSaid}
use Words.{IsToSettle, is_on, numbered}
use Words.list as members
use Words.ask
use Words.body
use Words.bound
use Words.mode
use Words.naming
use Rattle.arj_law_lock_view.proofs.Terms.{IsAsker, begun_fits, owners_of, untold_path}
use Rattle.arj_law_lock_view.specs.facts.Uppers.{HoldsObjects, ObjectsAreHeld}
use Rattle.arj_law_parts.proofs.Terms.{Fits, IsGoodObject}
use Rattle.arj_law_parts.proofs.moves.Happens.{keeps_asked}
use Rattle.arj_law_parts.proofs.parts.GoodObjects.{owner_untold}
use Rattle.arj_law_parts.specs.moves.Keeps.{AsksNode, is_act}
use Rattle.arj_law_parts.specs.parts.Messages.{FitsAsked}
use Rattle.arj_law_promise.proofs.Terms.{Holds, up}
use Rattle.arj_law_runs.proofs.kept.Walked.{same_number}
use Rattle.arj_law_runs.proofs.resting
use resting.{Effects.after, Effects.after_sent, Effects.walk_end, Effects.works, Hearing.IsHome, Ways.post_of, Worlds.seen_up}
use Rattle.arj_law_runs.specs.calls.Bindings.{HasFewBindings}
use Rattle.arj_law_serial.proofs.holding.Says as saying
use Rattle.arj_law_cause.proofs.bindings.Binding.{IsLight, bind_shape, locks_plain}
use Rattle.arj_law_cause.proofs.bindings.Counted.{IsBefore}
use Rattle.arj_law_cause.proofs.bindings.Latest.{AllLatest, KnowsLatest, count_small, latest_keep, made_before, said_lined}
use Rattle.arj_law_cause.proofs.bindings.Lines.{IsLined, lined_more}
use Rattle.arj_law_cause.proofs.bindings.Nodes.{ArePlain, is_plain}
use Rattle.arj_law_cause.proofs.quiesces.Chain
use Chain.{AtFine, CoordFine, EndFine, ReplyFine, goes_fine, whole_bind}
use Rattle.arj_law_cause.proofs.quiesces.Commits.{AreCalm, calm_ask, calm_commit, commit_leaves, whole_calm}

some_is : {A : Type 0} {a b : A} → Some a ≡ Some b → a ≡ b
some_is {A} {a} {b} is = let k : ◌≡◌ {A = Option A} (Some a) (Some b) = is in cc

none_is : {A P : Type 0} {x : A} → None ≡ Some x → P
none_is {A} {P} {x} is = let no_way : ◌≡◌ {A = Option A} None (Some x) = is in absurd (cc no_way)

-- ---- numbers

-- a binding that was made before isn't the greater one
before_less : (b c : Binding) → IsBefore b.inc b.count c → c.count < 4294967296 → binding_less b c ≡ false
before_less b c before small = by before
  where
    by : IsBefore b.inc b.count c → nat_lt (binding_number b) (binding_number c) ≡ false
    by (inl less) = not_less (binding_number b) (binding_number c) (over b.inc b.count c.inc c.count less small)
      where
        over : (m p n q : ℕ) → n < m → q < 4294967296 → n * 4294967296 + q ≤ m * 4294967296 + p
        over m p n q less few = omega (arith, less, few)

        not_less : (m n : ℕ) → n ≤ m → nat_lt m n ≡ false
        not_less m n le = grind (arith, nat_tests, le)
    by (inr same) = not_less (binding_number b) (binding_number c) (over b.inc b.count c.inc c.count same.0 same.1)
      where
        over : (m p n q : ℕ) → n ≡ m → q ≤ p → n * 4294967296 + q ≤ m * 4294967296 + p
        over m p n q is le = omega (arith, is, le)

        not_less : (m n : ℕ) → n ≤ m → nat_lt m n ≡ false
        not_less m n le = grind (arith, nat_tests, le)

-- ---- answers to a call

abbrev is_write : BoundReply → Bool
is_write (bound.Write g ss) = true
is_write r = false

-- a call is never answered by a lock alone
call_binds : (inc x : ℕ) (p : Path) (avoid : Binding) (e : Entry) (c : Counted) (g : ℕ) (ss : List ℕ) →
    (let r = bind_named inc x p false avoid e c in r.reply) ≡ Some (bound.Write g ss) → ⊥
call_binds inc x p avoid e c g ss = by (live_above avoid (let o = c.named in o.live))
  where
    never : (y : BoundReply) → is_write y ≡ false → Some y ≡ Some (bound.Write g ss) → ⊥
    never y off is = let no_way : false ≡ true = sym off ∙ ap is_write (some_is is) in cc no_way

    live : (l : Live) (r : Option Row) → (let s = live_asked inc x p e c l r in s.reply) ≡ Some (bound.Write g ss) → ⊥
    live l (Some r) is = never _ refl is
    live l None is = never _ refl is

    made : (q : Option Made) → (let s = bind_made inc x p e c q in s.reply) ≡ Some (bound.Write g ss) → ⊥
    made (Some m) is = never _ refl is
    made None is = never _ refl is

    make : (r : Option Row) → (let s = make_asked inc x p avoid e c r in s.reply) ≡ Some (bound.Write g ss) → ⊥
    make (Some r) is = never _ refl is
    make None is = made (made_above avoid (at_uid (top_of p) (let o = c.named in o.made))) is

    by : (l : Option Live) → (let s = bind_call inc x p avoid e c l in s.reply) ≡ Some (bound.Write g ss) → ⊥
    by (Some l) is = live l (conflict_on x p mode.Read c.named) is
    by None is = make (conflict_on x p mode.Write c.named) is

-- ---- a node that is asked something

module _ (hd : Header) (w : World) (held : Holds hd KnowsLatest w) (few : HasFewBindings w.lines) (n : ℕ) (a : Node) (y : Parts)
    (there : at_place n w.nodes ≡ Some a) (live : a.live ≡ Some y) (home : IsHome y.coord) where
  -- the action waited before
  abbrev pub Waited : Uid → Type 0
  Waited v = (q : Doing) × (doing_of v y.coord ≡ Some q) × (is_waiting_now q.now ≡ true)

  here : KnowsLatest (up n a.disk y (see held.sent w))
  here = seen_up KnowsLatest n a y held.sent w there (held.stands.numbers n a there) live held.holds

  waited_fine : (x : ℕ) (g : Goal) (G : Binding → Type 0) → CoordFine Waited x g G y.coord
  waited_fine x g G u q s does now = (home.calls u q s does now, inl (q, does, ap is_waiting_now now))

  -- ---- of a call or an include, by a Bind

  module _ (i : Input) (about : is_act i ≡ true) (asks_it : AsksNode hd i) (free : refusal_up hd i y.coord
      ≡ None) (x : ℕ) (g : Goal) (h : Head)
      (avoid : Binding) (outs : (acts i (let d = a.disk in d.intents) y.coord).outs ≡ Send 1 (request h (ask.Bind x
      (is_include g) avoid)) ∷ []) where
    v : Parts
    v = with_coord y (acts i (let d = a.disk in d.intents) y.coord).part

    abbrev asked : Message
    asked = request h (ask.Bind x (is_include g) avoid)

    abbrev M : Seen
    M = after w.event n (Send 1 (request h (ask.Bind x (is_include g) avoid)) ∷ []) (see held.sent w)

    known : KnowsLatest (up n a.disk (with_coord y (acts i (let d = a.disk in d.intents) y.coord).part) M)
    known = subst (λ es. KnowsLatest (up n (works es a.disk) (with_coord y (acts i (let d = a.disk in d.intents) y.coord).part)
        (after w.event n es (see held.sent w)))) outs
        (walk_end KnowsLatest w.event n (acts i (let d = a.disk in d.intents) y.coord).outs
        (Rattle.arj_law_parts.specs.moves.Walks.Up KnowsLatest n (with_coord y (acts i (let d = a.disk in d.intents) y.coord).part)) a.disk
        (see held.sent w) (let k = keeps_asked hd KnowsLatest (latest_keep hd) in k.act w.event n a.disk y i
        (see held.sent w) about asks_it free here))

    its_node : (let S = up n a.disk (with_coord y (acts i (let d = a.disk in d.intents) y.coord).part) M in S.nodes n)
        ≡ Some (record { number = n; disk = a.disk; live = Some (with_coord y (acts i (let d = a.disk in d.intents) y.coord).part) })
    its_node = λ j. cond (same_number n j)
        (Some (record { number = n; disk = a.disk; live = Some (with_coord y (acts i (let d = a.disk in d.intents) y.coord).part) }))
        (M.nodes n)

    was_held : ObjectsAreHeld (up n a.disk (with_coord y (acts i (let d = a.disk in d.intents) y.coord).part) M)
    was_held = known.0.1

    objects : (o : Naming) → y.naming ≡ Some o → HoldsObjects was_held.0 o
    objects o at = (let u = was_held.2 n (record {
      number = n;
      disk = a.disk;
      live = Some (with_coord y (acts i (let d = a.disk in d.intents) y.coord).part);
    }) its_node in u.live (with_coord y (acts i (let d = a.disk in d.intents) y.coord).part) o refl at)

    latest : (o : Naming) → y.naming ≡ Some o → AllLatest M.lines o
    latest o at = (known.1.1 n (record {
      number = n;
      disk = a.disk;
      live = Some (with_coord y (acts i (let d = a.disk in d.intents) y.coord).part);
    }) (with_coord y (acts i (let d = a.disk in d.intents) y.coord).part) its_node refl o at).1

    older : (o : Naming) → y.naming ≡ Some o → (z : ℕ) (c : Binding) (s : ℕ) → IsLined M.lines z c s → IsBefore o.inc o.count c
    older = made_before n (with_coord y (acts i (let d = a.disk in d.intents) y.coord).part) w.start M.lines
        (known.0.0.1.1 n (record {
          number = n;
          disk = a.disk;
          live = Some (with_coord y (acts i (let d = a.disk in d.intents) y.coord).part);
        }) (with_coord y (acts i (let d = a.disk in d.intents) y.coord).part) its_node refl) known.0.0.1.0

    who : IsAsker was_held.0 h.path
    who = subst (FitsAsked was_held.0 asked) (Words.request_reads_back h (ask.Bind x (is_include g) avoid))
        (let k = was_held.1 in k.fits (post_of n 1 asked)
        (after_sent w.event n (Send 1 asked ∷ []) (see held.sent w) 1 asked (inl refl)))

    fits : Fits (owners_of was_held.0) h.path
    fits = subst (Fits (owners_of was_held.0)) who.2 (begun_fits was_held.0 (let k = was_held.1 in k.begun) who.0 who.1 who.3)

    lined : (c : Binding) (s : ℕ) → IsSaid w.lines (body.Bound x c s) → IsLined M.lines x c s
    lined c s said = lined_more w.lines (numbered w.event []) x c s (said_lined w.lines x c s said)

    small : (c : Binding) (s : ℕ) → IsLined M.lines x c s → c.count < 4294967296
    small c s l = count_small w.start M.lines known.0.0.1.0 (subst HasFewBindings (sym (append-nil w.lines)) few) x c s l

    -- naming says so of its answer
    abbrev pub Says : Binding → ℕ → Type 0
    Says c s = (o : Naming) × (y.naming ≡ Some o)
        × members.In (Say (body.Bound x c s)) (let r = naming.bind h.path x (is_include g) avoid (let d = a.disk in d.names) o in r.outs)

    -- no greater binding of the object was made before, or in naming's answer
    abbrev pub Greatest : Binding → Type 0
    Greatest b = (c : Binding) (s : ℕ) → IsSaid w.lines (body.Bound x c s) ⊎ Says c s → binding_less b c ≡ false

    module _ (o : Naming) (at : y.naming ≡ Some o) where
      abbrev Answer : Served Naming BoundReply → Type 0
      Answer r = (b : BoundReply) → r.reply ≡ Some b → ReplyFine Waited x g Greatest (Reply.Bound b)

      -- whatever naming says is of its own answer
      its_own : (c : Binding) (s : ℕ) → Says c s →
          members.In (Say (body.Bound x c s)) (let r = naming.bind h.path x (is_include g) avoid (let d = a.disk in d.names) o in r.outs)
      its_own c s z = subst (λ (k : Naming).
          members.In (Say (body.Bound x c s)) (let r = naming.bind h.path x (is_include g) avoid (let d = a.disk in d.names) k in r.outs))
          (some_is (sym z.1 ∙ at)) z.2

      unsaid : (es : List Effect) → ArePlain es → (c : Binding) (s : ℕ) → members.In (Say (body.Bound x c s)) es → ⊥
      unsaid [] plain c s i = absurd i
      unsaid (e ∷ es) plain c s (inl is) = let no_way : false ≡ true = ap (saying.says is_plain) (sym is)
          ∙ (and_parts (saying.says is_plain e) (list_all (saying.says is_plain) es) plain).0 in cc no_way
      unsaid (e ∷ es) plain c s (inr j) = unsaid es (and_parts (saying.says is_plain e) (list_all (saying.says is_plain) es) plain).1 c s j

      module _ (q : Named) (found : at_number x o.objects ≡ Some q) (fresh : is_over h.path o ≡ false) where
        abbrev counted : Counted
        counted = record { named = q; count = o.count }

        abbrev e_entry : Entry
        e_entry = listed_entry x (let d = a.disk in d.names)

        abbrev r : Served Counted BoundReply
        r = bind_named o.inc x h.path (is_include g) avoid (listed_entry x (let d = a.disk in d.names))
            (record { named = q; count = o.count })

        bind_is : naming.bind h.path x (is_include g) avoid (let d = a.disk in d.names) o
            ≡ on_counted x (bind_named o.inc x h.path (is_include g) avoid (listed_entry x (let d = a.disk in d.names))) o (Some q)
        bind_is = (λ j. cond (fresh j) (void o)
            (on_counted x (bind_named o.inc x h.path (is_include g) avoid (listed_entry x (let d = a.disk in d.names))) o
            (at_number x o.objects)))
            ∙ (λ j. on_counted x (bind_named o.inc x h.path (is_include g) avoid (listed_entry x (let d = a.disk in d.names))) o (found j))

        said_in : (c : Binding) (s : ℕ) → Says c s → members.In (Say (body.Bound x c s)) r.outs
        said_in c s z = subst (λ (k : Served Naming BoundReply). members.In (Say (body.Bound x c s)) k.outs) bind_is (its_own c s z)

        good : IsGoodObject (owners_of was_held.0) (is_on o.told) o.inc o.count x q
        good = (let k = objects o at in k.objects x q found)

        -- it names a binding that was made for the top
        again : (m : Made) → at_uid (top_of h.path) q.made ≡ Some m → m.recorded ≡ false → ArePlain r.outs → Greatest m.binding
        again m its not_yet plain c s (inr z) = absurd (unsaid r.outs plain c s (said_in c s z))
        again m its not_yet plain c s (inl said) = before_less m.binding c
            (latest o at x q (top_of h.path) m found its not_yet
            (good.unrecorded (top_of h.path) m its not_yet
            (owner_untold (owners_of was_held.0) (is_on o.told) x h.path fits (untold_path h.path o fresh))).lock
            c s (lined c s said)) (small c s (lined c s said))

        -- or the next one
        next : Binding
        next = record { inc = o.inc; count = o.count + 1 }

        newest : r ≡ bound_new o.inc x h.path e_entry counted (next_server q.turn (let k = e_entry in k.servers)) →
            Greatest (record { inc = o.inc; count = o.count + 1 })
        newest is c s (inl said) = before_less (record { inc = o.inc; count = o.count + 1 }) c (later (older o at x c s (lined c s said)))
            (small c s (lined c s said))
          where
            later : IsBefore o.inc o.count c → IsBefore o.inc (o.count + 1) c
            later (inl less) = inl less
            later (inr same) = inr (same.0, up_one c.count o.count same.1)
              where
                up_one : (p m : ℕ) → p ≤ m → p ≤ m + 1
                up_one p m le = omega (arith, le)
        newest is c s (inr z) = by (either (lock_lines x h.path mode.Write q) (Say (body.Bound x
            (record { inc = o.inc; count = o.count + 1 })
            (next_server q.turn (let k = e_entry in k.servers))) ∷ []) (subst (λ (k : Served Counted BoundReply). members.In (Say
            (body.Bound x c s)) k.outs) is (said_in c s z)))
          where
            either : (xs ys : List Effect) → members.In (Say (body.Bound x c s)) (xs ++ ys) →
                members.In (Say (body.Bound x c s)) xs ⊎ members.In (Say (body.Bound x c s)) ys
            either [] ys j = inr j
            either (k ∷ xs) ys (inl same) = inl (inl same)
            either (k ∷ xs) ys (inr j) = ⊎_elim (λ l. inl (inr l)) (λ m. inr m) (either xs ys j)

            same_less : (m : ℕ) → nat_lt m m ≡ false
            same_less m = grind (arith, nat_tests)

            by : members.In (Say (body.Bound x c s)) (lock_lines x h.path mode.Write q) ⊎ members.In (Say (body.Bound x c s))
                (Say (body.Bound x (record { inc = o.inc; count = o.count + 1 }) (next_server q.turn
                (let k = e_entry in k.servers))) ∷ []) →
                binding_less (record { inc = o.inc; count = o.count + 1 }) c ≡ false
            by (inl j) = absurd (unsaid (lock_lines x h.path mode.Write q) (locks_plain x h.path mode.Write q) c s j)
            by (inr (inl same)) = let one : record { inc = o.inc; count = o.count + 1 } ≡ c = cc same in
                subst (λ (z : Binding). binding_less (record { inc = o.inc; count = o.count + 1 }) z ≡ false) one
                (same_less (binding_number (record { inc = o.inc; count = o.count + 1 })))
            by (inr (inr j)) = absurd j

        answer_is : (b : BoundReply) → r.reply ≡ Some b → ReplyFine Waited x g Greatest (Reply.Bound b)
        answer_is b is = by b is
          where
            light : IsLight x h.path counted r → (k : Binding) (s j : ℕ) (ss : List ℕ) → r.reply ≡ Some (bound.Make k s j ss) → Greatest k
            light l k s j ss same = named (subst (λ (z : Option BoundReply). Rattle.arj_law_cause.proofs.bindings.Binding.MakesAgain
                h.path q z) same l.again)
              where
                named : (m : Made) × (at_uid (top_of h.path) q.made ≡ Some m) × (m.recorded ≡ false) × (m.binding ≡ k) → Greatest k
                named f = subst Greatest f.3 (again f.0 f.1 f.2 l.plain)

            new : r ≡ bound_new o.inc x h.path e_entry counted (next_server q.turn (let k = e_entry in k.servers)) →
                (k : Binding) (s j : ℕ) (ss : List ℕ) →
                r.reply ≡ Some (bound.Make k s j ss) → Greatest k
            new same k s j ss reply =
                let made : bound.Make (record { inc = o.inc; count = o.count + 1 }) (next_server q.turn
                (let k = e_entry in k.servers)) o.inc
                (let k = e_entry in k.stores) ≡ bound.Make k s j ss = some_is (sym (ap (λ
                (z : Served Counted BoundReply). z.reply) same) ∙ reply) in
                let one : record { inc = o.inc; count = o.count + 1 } ≡ k = cc made in subst Greatest one (newest same)

            by : (b : BoundReply) → r.reply ≡ Some b → ReplyFine Waited x g Greatest (Reply.Bound b)
            by (bound.Make k s j ss) same = ⊎_elim (λ l. light l k s j ss same) (λ z. new z k s j ss same)
                (bind_shape o.inc x h.path e_entry counted (is_include g) avoid)
            by (bound.Write j ss) same = include_of (is_include g) refl
              where
                include_of : (z : Bool) → is_include g ≡ z → is_include g ≡ true
                include_of true is_it = is_it
                include_of false is_it = absurd (call_binds o.inc x h.path avoid e_entry counted j ss
                    (subst (λ z. (let k = bind_named o.inc x h.path z avoid e_entry counted in k.reply)
                    ≡ Some (bound.Write j ss)) is_it same))
            by (bound.Live k s j m ss) same = tt
            by (bound.Conflict k m) same = tt

        answer_whole : Answer (naming.bind h.path x (is_include g) avoid (let d = a.disk in d.names) o)
        answer_whole = subst Answer (sym bind_is) answer_is

      answers_so : Answer (naming.bind h.path x (is_include g) avoid (let d = a.disk in d.names) o)
      answers_so = by (is_over h.path o) refl
        where
          Whole : Type 0
          Whole = Answer (naming.bind h.path x (is_include g) avoid (let d = a.disk in d.names) o)

          by_object : is_over h.path o ≡ false → (q : Option Named) → at_number x o.objects ≡ q →
              Answer (naming.bind h.path x (is_include g) avoid (let d = a.disk in d.names) o)
          by_object fresh None none = subst Answer (sym ((λ j. cond (fresh j) (void o)
              (on_counted x (bind_named o.inc x h.path (is_include g) avoid (listed_entry x (let d = a.disk in d.names))) o
              (at_number x o.objects)))
              ∙ (λ j. on_counted x (bind_named o.inc x h.path (is_include g) avoid (listed_entry x (let d = a.disk in d.names))) o
              (none j))))
              (λ b is. none_is is)
          by_object fresh (Some q) found = answer_whole q found fresh

          by : (b : Bool) → is_over h.path o ≡ b → Answer (naming.bind h.path x (is_include g) avoid (let d = a.disk in d.names) o)
          by true over = subst Answer (sym (λ j. cond (over j) (void o)
              (on_counted x (bind_named o.inc x h.path (is_include g) avoid (listed_entry x (let d = a.disk in d.names))) o
              (at_number x o.objects))))
              (λ b is. none_is is)
          by false fresh = by_object fresh (at_number x o.objects) refl

    -- what waits behind it
    pub binds_end : CoordFine Waited x g Greatest (acts i (let d = a.disk in d.intents) y.coord).part → n ≡ 1 →
        EndFine Waited x g Greatest n Says (whole n (with_coord y (acts i (let d = a.disk in d.intents) y.coord).part)
        (acts i (let d = a.disk in d.intents) y.coord).outs a.disk)
    binds_end fine one = subst (λ es. EndFine Waited x g Greatest n Says
        (whole n (with_coord y (acts i (let d = a.disk in d.intents) y.coord).part) es a.disk)) (sym outs)
        (whole_bind Waited x g Greatest n Says h (is_include g) avoid (with_coord y (acts i
        (let d = a.disk in d.intents) y.coord).part) a.disk fine
        (λ o at. (answers_so o at, λ c s j. (o, at, j))) 1 (own n one))
      where
        own : (k : ℕ) → k ≡ 1 → (1 == k) ≡ true
        own k is = grind (arith, nat_tests, is)

  -- ---- nobody else is overtaken

  -- whoever is overtaken behind this whole step waited before
  abbrev pub NoneOver : Ran → Type 0
  NoneOver q = (v : Uid) (e : Doing) (c : Steps) → doing_of v (let k = q.here in let t = k.parts in t.coord) ≡ Some e → e.now ≡ Calling c →
      IsOvertaken (λ f. IsSaid w.lines f ⊎ members.In (Say f) q.outs) c → Waited v

  none_over : (x : ℕ) (g : Goal) (G : Binding → Type 0) (S : Binding → ℕ → Type 0) → ((b : Binding) → G b → (c : Binding) (s : ℕ) →
      IsSaid w.lines (body.Bound x c s) ⊎ S c s → binding_less b c ≡ false) → (q : Ran) → EndFine Waited x g G n S q → NoneOver q
  none_over x g G S least q fine v e c does now over = ⊎_elim (λ waited. waited) (λ f. absurd (by c.at refl over.step f.2 f.0))
      (fine.0 v e c does now).1
    where
      said : c.x ≡ x → IsSaid w.lines (body.Bound x over.binding over.server) ⊎ S over.binding over.server
      said same = ⊎_elim (λ line. inl line) (λ line. inr (fine.1 over.binding over.server line))
          (subst (λ z. IsSaid w.lines (body.Bound z over.binding over.server) ⊎ members.In (Say
          (body.Bound z over.binding over.server)) q.outs) same over.line)

      never : (k : Known) → k ≡ over.known → G k.binding → c.x ≡ x → ⊥
      never k same good on =
          let no_way : false ≡ true = sym (least k.binding good over.binding over.server (said on))
          ∙ ap (λ (z : Known). binding_less z.binding over.binding) same ∙ over.greater in cc no_way

      by : (at : At) → c.at ≡ at → IsToSettle c.at over.known → AtFine Waited x g G c.at → c.x ≡ x → ⊥
      by (AtActivate k st) is to good on = never k (subst (λ z. IsToSettle z over.known) is to) (subst (AtFine Waited x g G) is good) on
      by (AtNote k i) is to good on = never k (subst (λ z. IsToSettle z over.known) is to) (subst (AtFine Waited x g G) is good) on
      by (AtBind avoid) is to good on = absurd (subst (λ z. IsToSettle z over.known) is to)
      by (AtLoad k s rest) is to good on = absurd (subst (λ z. IsToSettle z over.known) is to)
      by (AtInvoke k i) is to good on = absurd (subst (λ z. IsToSettle z over.known) is to)

  -- where no Bind is sent
  calm_over : (x : ℕ) (g : Goal) (did : Did Coord) → CoordFine Waited x g (λ b. ⊥) did.part → AreCalm did.outs →
      NoneOver (whole n (with_coord y did.part) did.outs a.disk)
  calm_over x g did fine calm = none_over x g (λ b. ⊥) (λ b s. ⊤) (λ b none. absurd none) (whole n (with_coord y did.part) did.outs a.disk)
      (whole_calm Waited x g (λ b. ⊥) n (λ b s. ⊤) (with_coord y did.part) did.outs a.disk fine calm (λ b s i. tt))

  abbrev did_of : Input → Did Coord
  did_of i = acts i (let d = a.disk in d.intents) y.coord

  -- a call or an include
  pub start_over : (i : Input) → is_act i ≡ true → AsksNode hd i → refusal_up hd i y.coord ≡ None → n ≡ 1 →
      (p : Path) (x : ℕ) (g : Goal) (avoid : Binding) (req : ℕ) (c : Coord) → ((v : Uid) → doing_of v c ≡ doing_of v y.coord) →
      (known : Option Known) →
      acts i (let d = a.disk in d.intents) y.coord ≡ goes_on (start p x g known avoid req) c →
      NoneOver (whole n (with_coord y (acts i (let d = a.disk in d.intents) y.coord).part) (acts i
      (let d = a.disk in d.intents) y.coord).outs a.disk)
  start_over i about asks_it free one p x g avoid req c same None is =
      none_over x g (Greatest i about asks_it free x g h avoid outs) (Says i about asks_it free x g h avoid outs) (λ b good. good)
      (whole n (with_coord y (acts i (let d = a.disk in d.intents) y.coord).part) (acts i
      (let d = a.disk in d.intents) y.coord).outs a.disk)
      (binds_end i about asks_it free x g h avoid outs
      (subst (λ (z : Did Coord). CoordFine Waited x g (Greatest i about asks_it free x g h avoid outs) z.part) (sym is)
      (goes_fine Waited x g (Greatest i about asks_it free x g h avoid outs) (start p x g None avoid req) c (actor p) refl (inr
      (refl, refl, tt))
      (λ u q s does now. waited_fine x g (Greatest i about asks_it free x g h avoid outs) u q s (sym (same u) ∙ does) now))) one)
    where
      h : Head
      h = record { path = p; req = req }

      outs : (acts i (let d = a.disk in d.intents) y.coord).outs ≡ Send 1 (request (record { path = p; req = req }) (ask.Bind x
          (is_include g) avoid)) ∷ []
      outs = ap (λ (z : Did Coord). z.outs) is
  start_over i about asks_it free one p x g avoid req c same (Some k) is = subst (λ (z : Did Coord). NoneOver (whole n
      (with_coord y z.part) z.outs a.disk)) (sym is)
      (calm_over x g (goes_on (start p x g (Some k) avoid req) c)
      (goes_fine Waited x g (λ b. ⊥) (start p x g (Some k) avoid req) c (actor p) refl (inr (refl, refl, tt))
      (λ u q s does now. waited_fine x g (λ b. ⊥) u q s (sym (same u) ∙ does) now)) (
        calm_ask (record { path = p; req = req }) (Words.next_ask (Words.ends_of (Words.root_of p) (let t = c.tree in t)) (start p x g
            (Some k) avoid req)) refl,
        tt,
      ))

  -- a commit
  pub commit_over : (br : Words.Branch) (did : Did Coord) → did ≡ Words.commit_action br (let d = a.disk in d.intents) y.coord →
      NoneOver (whole n (with_coord y did.part) did.outs a.disk)
  commit_over br did is = subst (λ (z : Did Coord). NoneOver (whole n (with_coord y z.part) z.outs a.disk)) (sym is)
      (calm_over 0 (Include 0) (Words.commit_action br (let d = a.disk in d.intents) y.coord)
      (commit_leaves br (let d = a.disk in d.intents) y.coord Waited 0 (Include 0) (λ b. ⊥) (waited_fine 0 (Include 0) (λ b. ⊥)))
      (calm_commit br (let d = a.disk in d.intents) y.coord))

  module _ (l : Words.Label) (br : Words.Branch) (found : Words.branch_named l y.coord ≡ Some br) (one : n ≡ 1) where
    abbrev root_now : Words.Root
    root_now = Words.root_at (Words.root_of br.path) y.coord

    abbrev keeping_now : ℕ → Words.Keeping
    keeping_now x = Words.renewed (Words.is_free (Words.root_of br.path) (actor br.path) x y.coord) (Words.keeping_of x root_now)
        (let k = Words.keeping_of x root_now in k.kept)

    pub call_over : (x : ℕ) (o : Words.Op) → AsksNode hd (Words.input.Call l x o) → refusal_up hd (Words.input.Call l x o) y.coord ≡ None →
        NoneOver (whole n (with_coord y (did_of (Words.input.Call l x o)).part) (did_of (Words.input.Call l x o)).outs a.disk)
    call_over x o asks_it free = start_over (Words.input.Call l x o) refl asks_it free one br.path x (Run o)
        (let k = keeping_now x in k.avoid)
        (Words.next_req (actor br.path) y.coord) (Words.on_root (Words.root_of br.path) (Words.with_keeping x (keeping_now x))
        (record y.coord { tree = Words.uses_object br.path x y.coord.tree })) (λ v. refl)
        (Words.known_at_start (top_of br.path) x root_now y.coord (let k = keeping_now x in k.kept))
        (ap (Words.on_branch (λ (f : Words.Branch). Words.call f.path x o y.coord) y.coord) found)

    pub include_over : (x s : ℕ) → AsksNode hd (Words.input.Include l x s) → refusal_up hd (Words.input.Include l x s) y.coord ≡ None →
        NoneOver (whole n (with_coord y (did_of (Words.input.Include l x s)).part) (did_of (Words.input.Include l x s)).outs a.disk)
    include_over x s asks_it free = start_over (Words.input.Include l x s) refl asks_it free one br.path x (Include s) Words.unbound
        (Words.next_req (actor br.path) y.coord) (record y.coord { tree = Words.uses_object br.path x y.coord.tree }) (λ v. refl) None
        (ap (Words.on_branch (λ (f : Words.Branch). Words.include f.path x s y.coord) y.coord) found)

    pub commits_over : NoneOver (whole n (with_coord y (did_of (Words.input.Commit l)).part) (did_of (Words.input.Commit l)).outs a.disk)
    commits_over = commit_over br (did_of (Words.input.Commit l))
        (ap (Words.on_branch (λ (f : Words.Branch). Words.commit_action f (let d = a.disk in d.intents) y.coord) y.coord) found)
