-- What a node makes of a message says what stands in the journal of bindings.
use Rattle.arj_law_parts.proofs.Words
use Words.{◌≡◌, ◌≢◌, ◌⊎◌, ◌≤◌, ◌∙◌, ◌+◌, ◌*◌, ◌==◌, ◌++◌, ◌&&◌, ◌||◌, not, ℕ, Bool, true, false, cond, filter, List, [], ◌∷◌, map, Option}
use Words.{Some}
use Words.{None, refl, sym, ap, subst, ⊤, inl, inr, ⊎_elim, arith, append_assoc, and_parts, eqb-true, uid_is, AllByRecursion, Ask, Asked}
use Words.{Binding}
use Words.{Body, BoundReply, End, Head, Line, Message, ObjectState, Uid, asks, object, Reply, actor, answers, ask_kind, asked_by, heard}
use Words.{last_end, next_ask, next_node, reply_kind, response, waits_for_call, confirm, Coord, Doing, Calling, doing_of, Steps, Already}
use Words.{Disk, Live, Made, Start, naming_hello}
use Words.{Do, Effect, InDoubt, Look, Old, Prep, Ready, Say, Send, Served, held_at, holder_of, is_prepared, prepare_answer, void, reply}
use Words.{acked}
use Words.{answer_query, Counted, Named, bind_named, bound_new, lock_lines, next_server, Naming, is_over, listed_entry, on_counted}
use Words.{Handled}
use Words.{Parts, Took, Void, ack_told, answer_is_meant, asked_is_meant, by_reply, coord_heard, end_states, handle, handle_answer}
use Words.{handle_ask}
use Words.{handle_ends, handle_other, holders, if_naming, is_earlier, is_loaded_for, is_loaded_in, is_meant, load_by, load_held}
use Words.{naming_told}
use Words.{prepare_by, query_about, reply_is_meant, sends_answer, serve, served, store_told, with_coord, with_naming, with_server, is_own}
use Words.{at_number, at_place, binding_eq, binding_less, binding_number, numbered, option_map, Node, Post, Seen, activate_own, bind_own}
use Words.{confirm_own, ends_own, invoke_own, note_own, told_own, vote_own, Copy, Server, active_binding, binding_of, has_ended}
use Words.{took_copy}
use Words.ask
use Words.body
use Words.bound
use Words.ending
use Words.loaded
use Words.message
use Words.mode
use Words.naming
use Words.prepared
use Words.server
use Rattle.arj_law_disk_view.proofs.running.HeardBinds.{bind_kind}
use Rattle.arj_law_disk_view.specs.running.Heard.{IsOfGoal}
use Rattle.arj_law_lock_view.specs.facts.Requests.{AreAsked, IsAskedBy}
use Rattle.arj_law_parts.specs.moves.Seen.{In, up}
use Rattle.arj_law_parts.specs.parts.Lives.{IsOfObject}
use Rattle.arj_law_parts.specs.parts.Requests.{IsNumbered}
use Rattle.arj_law_runs.proofs.Terms as runs
use runs.{AreTrue, IsGood, bare, paths_of, true_query, well_acked, well_heard}
use Rattle.arj_law_runs.proofs.calls.CoordOuts.{quiet_query}
use Rattle.arj_law_runs.proofs.calls.WorldSteps.{no_request, reads_back}
use Rattle.arj_law_runs.proofs.kept.Handled.{good_coord, it, one_tree, own_of_disk, tops_of_disk}
use Rattle.arj_law_runs.proofs.kept.Walked.{same_number}
use Rattle.arj_law_runs.specs.calls.Coords.{IsOfStep}
use Rattle.arj_law_cause.proofs.bindings.Asking
use Asking.{AllSo, AreAtSo, AskedSo, BoundSo, FitsCall, IsGrant, ReplySo, at_acked, at_heard}
use Rattle.arj_law_cause.proofs.bindings.Binding.{GrantsNow, bind_grants, bind_shape}
use Rattle.arj_law_cause.proofs.bindings.Copies.{HasCopies, active_by}
use Rattle.arj_law_cause.proofs.bindings.Counted.{HasNames, IsGiven, lined_in}
use Rattle.arj_law_cause.proofs.bindings.Lines.{IsLined, active_last, lined_last, lined_more}
use Rattle.arj_law_cause.proofs.bindings.Named.{AreMadeSo, IsLiveSo, IsNamedSo, IsNamingSo, NamesBound, bind_so, confirm_so, hello_so}
use Rattle.arj_law_cause.proofs.bindings.Named.{naming_map, note_so, told_so}
use Rattle.arj_law_cause.proofs.bindings.Ones.{met_alike, one_binding}
use Rattle.arj_law_cause.proofs.bindings.Since.{IsActiveIn, active_in_last, active_of, met_in}
use Rattle.arj_model.specs.Refusals.{incarnation}
use Rattle.arj_law_cause.proofs.bindings.Posts
use Posts.{AllPosted, At, Claims, IsAnswerSo, IsSilent, Later, PostSo, Says, all_claims, anything, asks_posts, coord_posts, front_claims}
use Posts.{later_more}
use Posts.{later_same, naming_silent, own_of, plain_post, quiet_posts, server_silent}

none_is : {A P : Type 0} {x : A} → None ≡ Some x → P
none_is {A} {P} {x} is = let no_way : ◌≡◌ {A = Option A} None (Some x) = is in absurd (cc no_way)

some_is : {A : Type 0} {a b : A} → Some a ≡ Some b → a ≡ b
some_is {A} {a} {b} is = let k : ◌≡◌ {A = Option A} (Some a) (Some b) = is in cc

silent_both : (xs ys : List Effect) → AllByRecursion IsSilent xs → AllByRecursion IsSilent ys → AllByRecursion IsSilent (xs ++ ys)
silent_both xs ys a b = runs.all_both IsSilent xs ys a b

module _ (k : ℕ) (d : Disk) (t : Parts) (M : Seen) (good : IsGood (up k d t M)) (requests : AreAsked (up k d t M))
    (given : IsGiven M.start M.lines) (names : HasNames k t M.start M.lines) (had : HasCopies k t.server M.start M.lines)
    (now : incarnation M.start M.lines k ≡ d.inc) (says : Says (up k d t M)) (from : ℕ) (m : Message) (posted : In (record {
      from = from;
      to = k;
      message = m;
    }) M.sent) where
  abbrev ls : List Line
  ls = M.lines

  abbrev base : List Post
  base = M.sent

  mine : At M.start M.lines t
  mine = own_of k d t M says

  alike : (x : ℕ) (b c : Binding) (s t i : ℕ) → binding_eq b c ≡ true → IsLined M.lines x b s → IsLined M.lines x c t →
      met_in M.start M.lines x c t i → met_in M.start M.lines x b s i
  alike = met_alike M.start M.lines given

  -- the server is in its node's incarnation
  level : incarnation M.start M.lines k ≡ (let s = t.server in s.inc)
  level = now ∙ sym (let u = it 0 k d t M good in u.server)

  its : PostSo M.start base ls (record { from = from; to = k; message = m })
  its = says.sent (record { from = from; to = k; message = m }) posted

  -- what it leaves, and sends
  abbrev pub By : Handled → Type 0
  By (Void outs) = ⊤
  By (Took v outs) = At M.start M.lines v × ((e : ℕ) → Claims k M.start base e outs ls)

  -- an answer to the message's request
  answer_post : (h : Head) (a : Ask) → asks m ≡ Some (h, a) → (r : Reply) (ms : List Line) → ReplySo (IsLined ms) (active_by ms) (met_in
      M.start ms) k a r →
      PostSo M.start base ms (record { from = k; to = from; message = response (asked_by h) r })
  answer_post h a is r ms so = record {
    asking = subst (AskedSo (IsLined ms) (active_by ms) (met_in M.start ms) from) (sym (no_request (asked_by h) r)) tt;
    answering = λ b q at. let same = some_is (sym (reads_back (asked_by h) r) ∙ at) in record {
      request = record { from = from; to = k; message = m };
      head = h;
      ask = a;
      posted = posted;
      asking = is;
      same = ap (λ (z : Asked × Reply). z.0) same;
      from = refl;
      so = subst (ReplySo (IsLined ms) (active_by ms) (met_in M.start ms) k a) (ap (λ (z : Asked × Reply). z.1) same) so;
    };
  }

  -- behind effects that send nothing
  answered : (h : Head) (a : Ask) → asks m ≡ Some (h, a) → (v : Parts) (outs : List Effect) (o : Option Reply) → At M.start M.lines v →
      AllByRecursion IsSilent outs → ((r : Reply) → o ≡ Some r → (ms : List Line) → Later ls ms →
      ReplySo (IsLined ms) (active_by ms) (met_in M.start ms) k a r) →
      By (sends_answer from h v outs o)
  answered h a is v outs None own silent so = tt
  answered h a is v outs (Some r) own silent so = (
    own,
    λ e. front_claims k M.start base e outs (Send from (response (asked_by h) r) ∷ []) silent ls ls
        (later_same ls) (λ ns l. (answer_post h a is r ns (so r refl ns l), λ more quiet. tt)),
  )

  with_it : (f : Naming → Handled) (o : Option Naming) → t.naming ≡ o → ((n : Naming) → t.naming ≡ Some n → By (f n)) → By (if_naming f o)
  with_it f None is each = tt
  with_it f (Some n) is each = each n is

  kinds : {R : Type 0} (a : Ask) (say : R → Reply) (o : Option R) →
      ((r : R) → o ≡ Some r → (ms : List Line) → Later ls ms → ReplySo (IsLined ms) (active_by ms) (met_in M.start ms) k a (say r)) →
      (q : Reply) → option_map say o ≡ Some q → (ms : List Line) → Later ls ms → ReplySo (IsLined ms) (active_by ms) (met_in M.start ms) k
      a q
  kinds a say None each q is ms l = none_is is
  kinds a say (Some r) each q is ms l = subst (ReplySo (IsLined ms) (active_by ms) (met_in M.start ms) k a) (some_is is) (each r refl ms l)

  -- ---- a Bind

  module _ (h : Head) (x : ℕ) (include : Bool) (avoid : Binding) (is : asks m ≡ Some (h, ask.Bind x include avoid)) (n : Naming)
      (at : t.naming ≡ Some n) where
    abbrev full : Served Naming BoundReply
    full = naming.bind h.path x include avoid d.names n

    abbrev next : Binding
    next = record { inc = n.inc; count = n.count + 1 }

    abbrev servers : List ℕ
    servers = (listed_entry x d.names).servers

    -- what naming has, and answers, of incarnations
    so : IsNamingSo anything (met_in M.start M.lines) full.part
        × ((a : BoundReply) → full.reply ≡ Some a → NamesBound anything (met_in M.start M.lines) x a)
    so = bind_so anything (met_in M.start M.lines) h.path x include avoid d.names n (λ o there more. tt) (mine.1 n at)

    left : At M.start M.lines (with_naming t full.part)
    left = (mine.0, λ o is. subst (IsNamingSo anything (met_in M.start M.lines)) (some_is is) so.0)

    -- no binding is new, or it has its line
    abbrev ShapeOf : Served Naming BoundReply → Type 0
    ShapeOf r = ((let v = r.part in v.count) ≡ n.count) ⊎ ((q : Named) × (at_number x n.objects ≡ Some q)
        × (r.outs ≡ lock_lines x h.path mode.Write q ++ Say (body.Bound x next (next_server q.turn servers)) ∷ []))

    shape : ShapeOf full
    shape = by (is_over h.path n)
      where
        found : (o : Option Named) → at_number x n.objects ≡ o → ShapeOf
            (on_counted x (bind_named n.inc x h.path include avoid (listed_entry x d.names)) n o)
        found None there = inl refl
        found (Some q) there = ⊎_elim
            {C = ShapeOf (on_counted x (bind_named n.inc x h.path include avoid (listed_entry x d.names)) n (Some q))}
            (λ light. inl light.count)
            (λ same. inr (q, there, ap (λ (r : Served Counted BoundReply). r.outs) same))
            (bind_shape n.inc x h.path (listed_entry x d.names) (record { named = q; count = n.count }) include avoid)

        by : (b : Bool) → ShapeOf (cond {A = Served Naming BoundReply} b (void n)
            (on_counted x (bind_named n.inc x h.path include avoid (listed_entry x d.names)) n (at_number x n.objects)))
        by true = inl refl
        by false = found (at_number x n.objects) refl

    -- what makes a binding grants the lock in the incarnation of the binding
    granted : (b : Binding) (s g : ℕ) (stores : List ℕ) → full.reply ≡ Some (bound.Make b s g stores) → IsGrant b g
    granted b s g stores replied = subst (GrantsNow n.inc) replied grants ∙ sym (of_inc.1 (bound.Make b s g stores) replied)
      where
        of_inc : IsNamingSo (λ y c z. c.inc ≡ n.inc) (λ y c z i. ⊤) full.part
            × ((a : BoundReply) → full.reply ≡ Some a → NamesBound (λ y c z. c.inc ≡ n.inc) (λ y c z i. ⊤) x a)
        of_inc = bind_so (λ y c z. c.inc ≡ n.inc) (λ y c z i. ⊤) h.path x include avoid d.names n (λ o there more. refl)
            (naming_map (lined_in M.start ls) (λ y c z. c.inc ≡ n.inc) (λ y c z i. ⊤) (λ y c z i. ⊤)
            (λ y c z q. q.1 ∙ sym (let u = names n at in u.inc)) (λ y c z i q. q) n (let u = names n at in u.lined))

        grants : GrantsNow n.inc full.reply
        grants = by (is_over h.path n)
          where
            found : (o : Option Named) → GrantsNow n.inc
                (on_counted x (bind_named n.inc x h.path include avoid (listed_entry x d.names)) n o).reply
            found None = tt
            found (Some q) = bind_grants n.inc x h.path (listed_entry x d.names) (record { named = q; count = n.count }) include avoid

            by : (c : Bool) → GrantsNow n.inc (cond {A = Served Naming BoundReply} c (void n)
                (on_counted x (bind_named n.inc x h.path include avoid (listed_entry x d.names)) n (at_number x n.objects))).reply
            by true = tt
            by false = found (at_number x n.objects)

    reply_so : (ms : List Line) → Later ls ms → ((o : Named) → at_number x n.objects ≡ Some o →
        (let v = full.part in v.count) ≡ n.count + 1 →
        IsLined ms x next (next_server o.turn servers)) → (r : BoundReply) → full.reply ≡ Some r →
        BoundSo (IsLined ms) (active_by ms) (met_in M.start ms) x include r
    reply_so ms l new r replied =
        both r (λ y b s i z. l.met M.start y b s i z) (bind_kind h.path x include avoid d.names n r replied) (so.1 r replied)
        ((bind_so (IsLined ms) (λ y b s i. ⊤) h.path x include avoid d.names n new
        (naming_map (lined_in M.start ls) (IsLined ms) (λ y b s i. ⊤) (λ y b s i. ⊤) (λ y b s z. l.lined y b s z.0) (λ y b s i z. z) n
        (let c = names n at in c.lined))).1 r replied) (λ b s g stores same. granted b s g stores (replied ∙ ap Some same))
      where
        both : (r : BoundReply) → ((y : ℕ) (b : Binding) (s i : ℕ) → met_in M.start M.lines y b s i → met_in M.start ms y b s i) →
            IsOfGoal include r → NamesBound anything (met_in M.start M.lines) x r → NamesBound (IsLined ms) (λ y b s i. ⊤) x r →
            ((b : Binding) (s g : ℕ) (stores : List ℕ) → r ≡ bound.Make b s g stores → IsGrant b g) →
            BoundSo (IsLined ms) (active_by ms) (met_in M.start ms) x include r
        both (bound.Live b s i g stores) later goal met named granted = (goal, named.0, later x b s i met.1)
        both (bound.Make b s g stores) later goal met named granted = (goal, named, granted b s g stores refl)
        both (bound.Write g stores) later goal met named granted = goal
        both (bound.Conflict u w) later goal met named granted = tt

    bind_by : By (served from h (with_naming t) Reply.Bound full)
    bind_by = by full.reply refl
      where
        claims : (e : ℕ) (r : BoundReply) → full.reply ≡ Some r → ShapeOf full →
            Claims k M.start base e (full.outs ++ Send from (response (asked_by h) (Reply.Bound r)) ∷ []) ls
        claims e r replied (inl same) = front_claims k M.start base e full.outs (Send from (response (asked_by h) (Reply.Bound r)) ∷ [])
            (naming_silent full.outs (bind_own h.path x include avoid d.names n)) ls ls (later_same ls)
            (λ ns l. (
              answer_post h (ask.Bind x include avoid) is (Reply.Bound r) ns
                  (reply_so ns l (λ o there more. absurd (never more)) r replied),
              λ lines quiet. tt,
            ))
          where
            no_more : (a b : ℕ) → a ≡ b → a ≡ b + 1 → ⊥
            no_more a b p q = omega (arith, p, q)

            never : (let v = full.part in v.count) ≡ n.count + 1 → ⊥
            never more = no_more (let v = full.part in v.count) n.count same more
        claims e r replied (inr (q, there, outs)) =
            let s = next_server q.turn servers in
            let line = body.Bound x next s in
            let last = Send from (response (asked_by h) (Reply.Bound r)) ∷ [] in
            subst (λ es. Claims k M.start base e (es ++ last) ls) (sym outs)
            (subst (λ es. Claims k M.start base e es ls) (sym (append_assoc (lock_lines x h.path mode.Write q) (Say line ∷ []) last))
            (front_claims k M.start base e (lock_lines x h.path mode.Write q) (Say line ∷ last) locks ls ls (later_same ls)
            (λ ns l. (
              answer_post h (ask.Bind x include avoid) is (Reply.Bound r) (ns ++ numbered e (line ∷ []))
                  (reply_so (ns ++ numbered e (line ∷ []))
                  (Posts.later_both ls ns (ns ++ numbered e (line ∷ [])) l (later_more ns (numbered e (line ∷ []))))
                  (λ o at_o more. subst (λ (z : Named). IsLined (ns ++ numbered e (line ∷ [])) x next (next_server z.turn servers))
                  (some_is (sym there ∙ at_o)) (lined_last ns e x next s)) r replied),
              λ lines quiet. tt,
            ))))
          where
            locks : AllByRecursion IsSilent (lock_lines x h.path mode.Write q)
            locks = one (Words.is_granted (Words.entry x) (Words.last_uid (Words.top_path h.path)) mode.Write q.rows)
              where
                one : (b : Bool) → AllByRecursion IsSilent
                    (cond b [] (Say (body.Granted 1 (Words.last_uid (Words.top_path h.path)) (Words.entry x) mode.Write) ∷ []))
                one true = tt
                one false = (tt, tt)

        by : (o : Option BoundReply) → full.reply ≡ o → By (sends_answer from h (with_naming t full.part) full.outs
            (option_map Reply.Bound o))
        by None none = tt
        by (Some r) replied = (left, λ e. claims e r replied shape)

  -- ---- an Activate

  module _ (h : Head) (b : Binding) (st : ObjectState) (is : asks m ≡ Some (h, ask.Activate b st)) where
    abbrev x : ℕ
    x = let u = st.uid in u.num

    lined : IsLined ls x b k
    lined = subst (AskedSo (IsLined ls) (active_by ls) (met_in M.start ls) k) is its.asking

    s : Server
    s = t.server

    -- a copy is there under a binding of this number
    abbrev Active : List Line → Type 0
    Active ms = active_by ms x b k × met_in M.start ms x b k (let s = t.server in s.inc)

    there : binding_eq b (active_binding x t.server) ≡ true → active_by M.lines x b k
        × met_in M.start M.lines x b k (let s = t.server in s.inc)
    there same = by (at_number x (let s = t.server in s.objects)) refl
      where
        numbers : binding_number b ≡ binding_number (active_binding x t.server)
        numbers = eqb-true (binding_number b) (binding_number (active_binding x t.server)) same

        none_left : (i c : ℕ) → i * 4294967296 + c ≡ 0 * 4294967296 + 0 → 1 ≤ c → ⊥
        none_left i c is some = omega (arith, is, some)

        by : (o : Option Copy) → at_number x (let s = t.server in s.objects) ≡ o → Active ls
        by None none = absurd (none_left b.inc b.count (numbers ∙ ap (λ o. binding_number (binding_of o)) none) (given.some x b k lined))
        by (Some c) at =
            let r = had.there x c at in
            let eq : binding_eq b c.binding ≡ true = ap (λ o. binding_eq b (binding_of o)) (sym at) ∙ same in (
              (
                c.binding,
                ap (λ o. binding_number (binding_of o)) (sym at) ∙ sym numbers,
                r.0,
                active_of M.start M.lines k x c.binding (incarnation M.start M.lines k) r.1,
              ),
              λ few. subst (IsActiveIn M.start M.lines k x b) level (subst (λ z. IsActiveIn M.start M.lines k x z
                  (incarnation M.start M.lines k)) (sym (one_binding M.start M.lines given few x x b c.binding k k lined r.0 eq)) r.1),
            )

    activate_by : By (served from h (with_server t) Reply.Activated (server.activate k h.path b st t.server))
    activate_by = by (has_ended h.path t.server) (binding_less b (active_binding x t.server)) (binding_eq b (active_binding x t.server))
        refl
      where
        by : (o l q : Bool) → binding_eq b (active_binding x t.server) ≡ q → By (served from h (with_server t) Reply.Activated
            (cond {A = Served Server ℕ} (o || l) (void t.server) (cond {A = Served Server ℕ} q (reply t.server (let s = t.server in s.inc))
            (took_copy k x b st t.server))))
        by true l q same = tt
        by false true q same = tt
        by false false true same = (
          mine,
          λ e. (
            answer_post h (ask.Activate b st) is (Reply.Activated (let s = t.server in s.inc)) ls (there same),
            λ more quiet. tt,
          ),
        )
        by false false false same = (
          mine,
          λ e. let ms : List Line = ls ++ numbered e (body.Active k x b ∷ []) in (
            answer_post h (ask.Activate b st) is (Reply.Activated (let s = t.server in s.inc)) ms (
              (b, refl, lined_more ls (numbered e (body.Active k x b ∷ [])) x b k lined, active_last ls e k x b),
              λ few. subst (IsActiveIn M.start (M.lines ++ numbered e (body.Active k x b ∷ [])) k x b) level
                  (active_in_last M.start M.lines e k x b),
            ),
            λ more quiet. tt,
          ),
        )

  -- ---- a Record

  -- what naming has of incarnations, with their bindings
  with_lines : (n : Naming) → IsNamingSo (lined_in M.start M.lines) (λ x b s i. ⊤) n → IsNamingSo anything (met_in M.start M.lines) n →
      IsNamingSo (IsLined M.lines) (met_in M.start M.lines) n
  with_lines n named met = by n.objects named met
    where
      live : (x : ℕ) (l : Option Live) → IsLiveSo (lined_in M.start M.lines) (λ x b s i. ⊤) x l →
          IsLiveSo anything (met_in M.start M.lines) x l → IsLiveSo (IsLined M.lines) (met_in M.start M.lines) x l
      live x None a b = tt
      live x (Some l) a b = ((let z = a.0 in z.0), b.1)

      made : (x : ℕ) (ms : List (Uid × Made)) → AreMadeSo (lined_in M.start M.lines) (λ x b s i. ⊤) x ms →
          AreMadeSo (IsLined M.lines) (met_in M.start M.lines) x ms
      made x [] a = tt
      made x (e ∷ es) a = ((let z = a.0 in z.0), made x es a.1)

      by : (os : List (ℕ × Named)) → AllByRecursion (λ (e : ℕ × Named). IsNamedSo (lined_in M.start M.lines) (λ x b s i. ⊤) e.0 e.1) os →
          AllByRecursion (λ (e : ℕ × Named). IsNamedSo anything (met_in M.start M.lines) e.0 e.1) os →
          AllByRecursion (λ (e : ℕ × Named). IsNamedSo (IsLined M.lines) (met_in M.start M.lines) e.0 e.1) os
      by [] a b = tt
      by (e ∷ es) a b = (
        record {
          live = live e.0 (let o = e.1 in o.live) (let z = a.0 in z.live) (let z = b.0 in z.live);
          made = made e.0 (let o = e.1 in o.made) (let z = a.0 in z.made);
        },
        by es a.1 b.1,
      )

  noted : (h : Head) (x : ℕ) (b : Binding) (i g : ℕ) → asks m ≡ Some (h, ask.Record x b i g) → (n : Naming) → t.naming ≡ Some n →
      At M.start M.lines (with_naming t (naming.note h.path x b i g n).part)
  noted h x b i g is n at = (mine.0, λ o same. subst (IsNamingSo anything (met_in M.start M.lines)) (some_is same) after)
    where
      asked_so : (s : ℕ) × IsLined M.lines x b s × active_by M.lines x b s × met_in M.start M.lines x b s i × IsGrant b g
      asked_so = subst (AskedSo (IsLined M.lines) (active_by M.lines) (met_in M.start M.lines) k) is its.asking

      after : IsNamingSo anything (met_in M.start M.lines) (naming.note h.path x b i g n).part
      after = naming_map (IsLined M.lines) anything (met_in M.start M.lines) (met_in M.start M.lines) (λ y c s z. tt) (λ y c s j z. z)
          (naming.note h.path x b i g n).part
          (note_so (IsLined M.lines) (met_in M.start M.lines) h.path x b i g n
          (λ q lined same. alike x q.binding b q.server asked_so.0 i (turned b q.binding same) lined asked_so.1 asked_so.3)
          (with_lines n (let c = names n at in c.lined) (mine.1 n at)))
        where
          turned : (b c : Binding) → binding_eq b c ≡ true → binding_eq c b ≡ true
          turned b c is = number (binding_number b) (binding_number c) is
            where
              number : (j l : ℕ) → (j == l) ≡ true → (l == j) ≡ true
              number j l same = grind (arith, same)

  -- ---- the others

  asked : (h : Head) (a : Ask) → asks m ≡ Some (h, a) → By (serve k d t from h a)
  asked h (ask.Bind x include avoid) is = with_it _ t.naming refl (λ n at. bind_by h x include avoid is n at)
  asked h (ask.Load x) is = load (holder_of (object x) d.store)
    where
      held : (s : Option ObjectState) → By (load_held from h t s)
      held None = tt
      held (Some s) = (mine, λ e. (answer_post h (ask.Load x) is (Reply.Loaded (loaded.State s)) ls tt, λ more quiet. tt))

      load : (o : Option Uid) → By (load_by x d.store from h t o)
      load (Some u) = (mine, λ e. (answer_post h (ask.Load x) is (Reply.Loaded (loaded.InDoubt u)) ls tt, λ more quiet. tt))
      load None = held (held_at (object x) d.store)
  asked h (ask.Activate b st) is = activate_by h b st is
  asked h (ask.Record x b i g) is = with_it _ t.naming refl (λ n at. let r = naming.note h.path x b i g n in
      answered h (ask.Record x b i g) is (with_naming t r.part) r.outs (option_map Reply.Noted r.reply)
      (noted h x b i g is n at)
      (naming_silent r.outs (note_own h.path x b i g n)) (kinds (ask.Record x b i g) Reply.Noted r.reply (λ a q ms l. tt)))
  asked h (ask.Invoke x b i ends o) is = let r = server.invoke k h x b i ends o t.server in
      answered h (ask.Invoke x b i ends o) is (with_server t r.part) r.outs (option_map Reply.Invoked r.reply) mine
      (server_silent k r.outs (invoke_own k h x b i ends o t.server)) (kinds (ask.Invoke x b i ends o) Reply.Invoked r.reply
      (λ a q ms l. tt))
  asked h (ask.Vote i ties ends) is = let r = server.vote k h.path i ties ends t.server in
      answered h (ask.Vote i ties ends) is (with_server t r.part) r.outs (option_map Reply.Voted r.reply) mine
      (server_silent k r.outs (vote_own k h.path i ties ends t.server)) (kinds (ask.Vote i ties ends) Reply.Voted r.reply (λ a q ms l. tt))
  asked h (ask.Prepare states) is = twice (is_prepared (actor h.path) d.store)
    where
      plain : (r : Words.PreparedReply) (ms : List Line) →
          PostSo M.start base ms (record { from = k; to = from; message = response (asked_by h) (Reply.Prepared r) })
      plain r ms = answer_post h (ask.Prepare states) is (Reply.Prepared r) ms tt

      new : (a : Prep) → By (prepare_by k states from h t a)
      new Ready = (mine, λ e. (plain prepared.Yes _, λ more quiet. tt))
      new (Already u) = tt
      new (Old u w) = (mine, λ e. (plain (prepared.Old u.num w) ls, λ more quiet. tt))
      new (InDoubt u holder) = (mine, λ e. (plain (prepared.InDoubt u.num holder) ls, λ more quiet. tt))

      twice : (b : Bool) → By (cond b (sends_answer from h t [] (Some (Reply.Prepared prepared.Yes)))
          (prepare_by k states from h t (prepare_answer (actor h.path) states d.store)))
      twice true = (mine, λ e. (plain prepared.Yes ls, λ more quiet. tt))
      twice false = new (prepare_answer (actor h.path) states d.store)
  asked h (ask.Confirm grants excluded included) is = with_it _ t.naming refl (λ n at.
      let r = confirm h.path grants excluded included d.names n in
      answered h (ask.Confirm grants excluded included) is (with_naming t r.part) r.outs (option_map Reply.Confirmed r.reply) (
        mine.0,
        λ o same. subst (IsNamingSo anything (met_in M.start M.lines)) (some_is same)
            (confirm_so anything (met_in M.start M.lines) h.path grants excluded included d.names n (mine.1 n at)),
      )
      (naming_silent r.outs (confirm_own h.path grants excluded included d.names n))
      (kinds (ask.Confirm grants excluded included) Reply.Confirmed r.reply (λ a q ms l. tt)))

  coord_left : (r : Served Coord (Unit {0})) → AreTrue r.part r.outs →
      AreAtSo (IsLined ls) (active_by ls) (met_in M.start ls) r.part × AllSo (IsLined ls) (active_by ls) (met_in M.start ls) r.outs →
      By (coord_heard t r)
  coord_left r truly f = by r.reply
    where
      by : (o : Option (Unit {0})) → By (by_reply (with_coord t r.part) r.outs o)
      by None = tt
      by (Some u) = (
        (f.0, mine.1),
        λ e. all_claims k M.start base e ls r.outs (coord_posts k M.start base ls r.part r.outs truly f.1) ls
            (later_same ls),
      )

  ends_left : (ack : Bool) (ends : List (Uid × End)) (o : Option (Uid × End)) → By (handle_ends k d t from ack ends o)
  ends_left ack ends None = (mine, λ e. tt)
  ends_left ack ends (Some u) =
      let s = server.told k ends t.server in
      let o = naming_told u.0 u.1 d.names t.naming in (
        (mine.0, λ n same. told_left t.naming refl n same),
        λ e. front_claims k M.start base e (store_told k u.0 u.1 d.store ++ o.outs ++ s.outs) (ack_told from u.0 ack)
            (silent_both (store_told k u.0 u.1 d.store ++ o.outs) s.outs (silent_both (store_told k u.0 u.1 d.store) o.outs
            (stored (is_prepared u.0 d.store) u.1) (named t.naming)) (server_silent k s.outs (ends_own k ends t.server)))
            ls ls (later_same ls) (λ ns l. acks e ack ns),
      )
    where
      told_left : (o : Option Naming) → t.naming ≡ o → (n : Naming) → (naming_told u.0 u.1 d.names o).part ≡ Some n →
          IsNamingSo anything (met_in M.start M.lines) n
      told_left None at n same = none_is same
      told_left (Some p) at n same = subst (IsNamingSo anything (met_in M.start M.lines)) (some_is same)
          (told_so anything (met_in M.start M.lines) u.0 u.1 d.names p (mine.1 p at))

      named : (o : Option Naming) → AllByRecursion IsSilent (naming_told u.0 u.1 d.names o).outs
      named None = tt
      named (Some p) = naming_silent (naming.told u.0 u.1 d.names p).outs (told_own u.0 u.1 d.names p)

      stored : (b : Bool) (how : End) → AllByRecursion IsSilent (cond b (end_states k u.0 how) [])
      stored false how = tt
      stored true ending.Commit = (tt, (tt, tt))
      stored true ending.Abort = (tt, (tt, tt))

      acks : (e : ℕ) (b : Bool) (ns : List Line) → Claims k M.start base e (ack_told from u.0 b) ns
      acks e true ns = (plain_post k M.start base ns from _ refl refl, λ more quiet. tt)
      acks e false ns = tt

  -- ---- an answer

  module _ (meant : is_meant t m ≡ true) where
    -- a call that waits for the answer asked what it answers
    fits : (a : Asked) (r : Reply) → answers m ≡ Some (a, r) → FitsCall (IsLined ls) (active_by ls) (met_in M.start ls) from a r t.coord
    fits a r at q w found now waits = (
      subst (λ z. ReplySo (IsLined ls) (active_by ls) (met_in M.start ls) from z r) step.same (bare_so (let z = its.answering a r at in
          z.ask) r
          (let z = its.answering a r at in z.so)),
      of_object r refl,
    )
      where
        node_here : Node
        node_here = record { number = k; disk = d; live = Some t }

        act : actor (let z = its.answering a r at in let h = z.head in h.path) ≡ a.act
        act = ap (λ (z : Asked). z.act) (let z = its.answering a r at in z.same)

        own : (b : Bool) → is_own a.act t.coord.tree ≡ b → cond b (at_place (let u = a.act in u.num) t.coord.doings) None ≡ Some q →
            b ≡ true
        own true e at_it = refl
        own false e at_it = none_is at_it

        counted : IsAskedBy t.coord (let z = its.answering a r at in let w = z.request in w.to) (let z = its.answering a r at in z.head)
            (let z = its.answering a r at in z.ask)
        counted = let z = its.answering a r at in requests k node_here t
            (λ i. cond (same_number k i) (Some (record { number = k; disk = d; live = Some t })) (M.nodes k)) refl z.request z.head z.ask
            z.posted z.from z.asking (ap (λ u. is_own u t.coord.tree) act ∙ own (is_own a.act t.coord.tree) refl found)

        same : q ≡ (let z = counted in z.doing)
        same = some_is (sym found ∙ ap (λ u. doing_of u t.coord) (sym act) ∙ counted.found)

        number_is : w.req ≡ q.req
        number_is = subst (IsNumbered q.req) now (let u = it 0 k d t M good in u.numbered a.act q found)

        number : (let z = its.answering a r at in let h = z.head in h.req) ≡ (let z = counted in let w = z.doing in w.req)
        number = ap (λ (z : Asked). z.req) (let z = its.answering a r at in z.same) ∙ sym (eqb-true w.req a.req (and_parts (w.req == a.req)
            ((reply_kind r == ask_kind (next_ask [] w)) && (next_node w == from)) waits).0) ∙ number_is ∙ ap (λ (z : Doing). z.req) same

        step : IsOfStep w (let z = its.answering a r at in let w = z.request in w.to) (let z = its.answering a r at in z.head)
            (let z = its.answering a r at in z.ask)
        step = counted.step w (ap (λ (z : Doing). z.now) (sym same) ∙ now) number

        bare_so : (z : Ask) (r : Reply) → ReplySo (IsLined ls) (active_by ls) (met_in M.start ls) from z r → ReplySo (IsLined ls)
            (active_by ls) (met_in M.start ls) from (bare z) r
        bare_so (ask.Bind x i avoid) r so = so
        bare_so (ask.Load x) r so = so
        bare_so (ask.Activate b st) r so = so
        bare_so (ask.Record x b i g) r so = so
        bare_so (ask.Invoke x b i ends op) r so = so
        bare_so (ask.Vote i ties ends) r so = so
        bare_so (ask.Prepare states) r so = so
        bare_so (ask.Confirm grants ex inc) r so = so

        answer_meant : reply_is_meant t.coord a r ≡ true
        answer_meant = sym (ap (answer_is_meant t.coord) at)
            ∙ (and_parts (asked_is_meant t.server (asks m)) (answer_is_meant t.coord (answers m)) meant).1

        loaded_here : (st : ObjectState) → reply_is_meant t.coord a (Reply.Loaded (loaded.State st)) ≡ true →
            (let u = st.uid in u.num) ≡ w.x
        loaded_here st meant_so =
            ap (λ (u : Uid). u.num) (uid_is st.uid (object w.x) (sym (ap (is_loaded_for st) found ∙ ap (is_loaded_in st) now) ∙ meant_so))

        of_object : (z : Reply) → r ≡ z → IsOfObject w.x z
        of_object (Reply.Loaded (loaded.State st)) same_r = loaded_here st (ap (reply_is_meant t.coord a) (sym same_r) ∙ answer_meant)
        of_object (Reply.Loaded (loaded.InDoubt h)) same_r = tt
        of_object (Reply.Bound z) same_r = tt
        of_object (Reply.Activated z) same_r = tt
        of_object (Reply.Noted z) same_r = tt
        of_object (Reply.Invoked z) same_r = tt
        of_object (Reply.Voted z) same_r = tt
        of_object (Reply.Prepared z) same_r = tt
        of_object (Reply.Confirmed z) same_r = tt

    abbrev hears : (a : Asked) (r : Reply) → (let q = heard from a r d.intents t.coord in AreTrue q.part q.outs)
    hears a r = (well_heard good.0 (paths_of good.0) (one_tree 0 k d t M good) from a r d.intents t.coord (good_coord 0 k d t M good)).1

    helloed : (node inc : ℕ) (o : Option Naming) → t.naming ≡ o → (n : Naming) → naming_hello node inc o ≡ Some n →
        IsNamingSo anything (met_in M.start M.lines) n
    helloed node inc None at n same = none_is same
    helloed node inc (Some p) at n same = subst (IsNamingSo anything (met_in M.start M.lines)) (some_is same)
        (hello_so anything (met_in M.start M.lines) node inc p (mine.1 p at))

    other : (n : Message) → By (handle_other k d t from n)
    other (message.Told n) = ends_left n.ack n.ends (last_end n.ends)
    other (message.Acked n) = coord_left (acked from n.act d.intents t.coord)
        (well_acked good.0 (paths_of good.0) (one_tree 0 k d t M good) from n.act d.intents t.coord).1
        (at_acked (IsLined ls) (active_by ls) (met_in M.start ls) alike from n.act d.intents t.coord mine.0)
    other (message.Query n) = (
      mine,
      λ e. all_claims k M.start base e ls (answer_query from n.act d.intents t.coord) (quiet_posts k M.start base ls t.coord
          (answer_query from n.act d.intents t.coord) (true_query good.0 (paths_of good.0) (one_tree 0 k d t M good)
          from n.act d.intents t.coord
          (tops_of_disk 0 k d t M good) (own_of_disk 0 k d t M good) (good_coord 0 k d t M good))
          (quiet_query from n.act d.intents t.coord)) ls (later_same ls),
    )
    other (message.Hello n) = (
      (mine.0, λ o same. helloed n.node n.inc t.naming refl o same),
      λ e. all_claims k M.start base e ls (map query_about (filter (is_earlier n.node n.inc) (holders d t)))
          (asks_posts k M.start base ls (filter (is_earlier n.node n.inc) (holders d t))) ls (later_same ls),
    )
    other (message.Bind n) = tt
    other (message.Bound n) = tt
    other (message.Load n) = tt
    other (message.Loaded n) = tt
    other (message.Activate n) = tt
    other (message.Activated n) = tt
    other (message.RecordMsg n) = tt
    other (message.Recorded n) = tt
    other (message.Invoke n) = tt
    other (message.Invoked n) = tt
    other (message.Vote n) = tt
    other (message.Voted n) = tt
    other (message.Prepare n) = tt
    other (message.Prepared n) = tt
    other (message.Confirm n) = tt
    other (message.Confirmed n) = tt

    pub message_by : By (handle k d t from m)
    message_by = by (asks m) refl
      where
        answer : (o : Option (Asked × Reply)) → answers m ≡ o → By (handle_answer k d t from m o)
        answer None is = other m
        answer (Some a) is = coord_left (heard from a.0 a.1 d.intents t.coord) (hears a.0 a.1)
            (at_heard (IsLined ls) (active_by ls) (met_in M.start ls) alike from a.0 a.1 d.intents t.coord mine.0 (fits a.0 a.1 is))

        by : (o : Option (Head × Ask)) → asks m ≡ o → By (handle_ask k d t from m o)
        by None is = answer (answers m) refl
        by (Some a) is = asked a.0 a.1 is
