-- The copies that servers have stand in the journal: each became active there under its binding, which naming made for that node, and none
-- that did in the node's present life is newer.
use Rattle.arj_law_parts.proofs.Words
use Words.{◌≡◌, ◌⊎◌, ◌≤◌, ◌∙◌, ◌+◌, ◌==◌, ◌++◌, ◌&&◌, ◌||◌, not, ℕ, Bool, true, false, cond, filter, List, [], ◌∷◌, map, Option, Some}
use Words.{None, refl}
use Words.{length, inl, inr, sym, ap, subst, ⊤, arith, nat_tests, nat_lt, append-nil, list_all, and_parts, eqb-true, eq-eqb, option_map}
use Words.{AllByRecursion}
use Words.{Ask, Asked}
use Words.{Binding, Body, End, Head, Header, InvokedReply, Line, Message, ObjectState, Op, Path, Start, Uid, VotedReply, What, Row, asks}
use Words.{answers}
use Words.{Reply, actor, asked_by, heard, last_end, object, response, Coord, Disk, Do, Effect, Look, Pair, Prep, Already, InDoubt, Old}
use Words.{Ready, Say}
use Words.{Send, Did, Served, did_nothing, either, held_at, holder_of, is_prepared, prepare_answer, reply, void, acked, answer_query}
use Words.{Naming}
use Words.{Handled, Parts, Took, Void, ack_told, by_reply, coord_heard, handle, handle_answer, handle_ask, handle_ends, handle_other}
use Words.{holders}
use Words.{if_naming, is_earlier, is_meant, load_by, load_held, naming_told, prepare_by, query_about, sends_answer, serve, store_told}
use Words.{with_coord}
use Words.{with_naming, with_server, at_number, at_uid, binding_eq, binding_less, binding_number, each, put_number, put_other, put_same}
use Words.{is_eq}
use Words.{nat_cmp, AreAll, is_coord_effect, is_coord_line, is_naming_effect, is_naming_line, acked_own, bind_own, confirm, confirm_own}
use Words.{heard_own, map_own, note_own, query_own, told_own, all_both, end_states, is_coord_line, Copy, end_copy, invoke_copy, Kept}
use Words.{Server}
use Words.{active_binding, apply_ends, binding_of, changed_by, end_new, end_one, first_unbound, has_ended, invoke_kept, invoke_new}
use Words.{invoke_now}
use Words.{is_below, is_told, on_copy, other_inc, took_copy, vote_now, is_granted, row_for, first_conflict, op_mode, uids_of, tops_of}
use Words.{last_uid}
use Words.{new_server, parts_in, numbered, restart_outs, Node, Seen, see, world_from}
use Words.ask
use Words.body
use Words.ending
use Words.loaded
use Words.message
use Words.naming
use Words.prepared
use Words.role
use Words.server
use Rattle.arj_law_parts.proofs.steps.Still.{Still, is_still, says_still}
use Rattle.arj_law_parts.specs.moves.Seen.{AreQuiet, In, at, down, is_quiet_line, up}
use Rattle.arj_law_runs.proofs.calls.Given.{KeepsGiven}
use Rattle.arj_law_runs.proofs.follow.Halts as halts
use Rattle.arj_law_runs.proofs.follow.Uids.{KnowsNext}
use Rattle.arj_law_runs.proofs.kept.Starts.{first_up}
use Rattle.arj_law_runs.proofs.kept.Walked.{same_number}
use Rattle.arj_law_serial.proofs.holding.Says as saying
use Rattle.arj_model.specs.Actions.{Placed}
use Rattle.arj_model.specs.CauseCopies.{Activation, is_under, since_up}
use Rattle.arj_model.specs.Refusals.{incarnation}
use Rattle.arj_law_cause.proofs.bindings.Asking.{AskedSo}
use Rattle.arj_law_cause.proofs.bindings.Counted.{Names, owns}
use Rattle.arj_law_cause.proofs.bindings.Lines.{IsActive, IsLined, copies, copies_still, copies_with, inc_still, inc_with}
use Rattle.arj_law_cause.proofs.bindings.Lines.{lined_more, quiet_tells, tells}
use Rattle.arj_law_cause.proofs.bindings.Since.{AreLow, IsActiveIn, IsAmong, IsLast, active_in_last, active_in_more, active_in_parts}
use Rattle.arj_law_cause.proofs.bindings.Since.{among_more, in_last, last_more, last_new, low_first, low_more, met_in, none_active}
use Rattle.arj_law_cause.proofs.bindings.Since.{placed_low}
use Rattle.arj_law_cause.proofs.bindings.Named.{OfServer}
use Rattle.arj_law_cause.proofs.bindings.Resting.{Idle, SameCopies, StaysBy, active_is, binding_at, is_activate, is_idle, message_copies}
use Rattle.arj_law_cause.proofs.bindings.Resting.{same_key}
use Rattle.arj_law_cause.proofs.bindings.Nodes as nodes
use Rattle.arj_law_cause.proofs.bindings.Nodes.{is_own, own_all}

some_is : {A : Type 0} {a b : A} → Some a ≡ Some b → a ≡ b
some_is {A} {a} {b} is = let k : ◌≡◌ {A = Option A} (Some a) (Some b) = is in cc

none_is : {A P : Type 0} {x : A} → None ≡ Some x → P
none_is {A} {P} {x} is = let no_way : ◌≡◌ {A = Option A} None (Some x) = is in absurd (cc no_way)

-- ---- what is known

-- a copy that became active at the node isn't newer than the one that the server has, and naming made its binding for the node
abbrev pub IsUnder : ℕ → Server → List Line → Placed Activation → Type 0
IsUnder j s ls a = let c = a.it in (c.node == j) ≡ true →
    (binding_number c.binding ≤ binding_number (active_binding c.x s)) × IsLined ls c.x c.binding j

-- Each copy became active in the node's present life, as the last one of its object; and whatever did in the node's present incarnation did
-- in this life.
pub record HasCopies (j : ℕ) (s : Server) (st : Start) (ls : List Line) : Type 0 where
  pub there : (x : ℕ) (c : Copy) → at_number x s.objects ≡ Some c →
      IsLined ls x c.binding j × IsActiveIn st ls j x c.binding (incarnation st ls j)
  pub above : AllByRecursion (IsUnder j s ls) (copies j ls)
  pub last : (x : ℕ) (c : Copy) → at_number x s.objects ≡ Some c → IsLast j x c.binding (copies j ls)
  pub since : (x : ℕ) (b : Binding) → IsActiveIn st ls j x b (incarnation st ls j) → IsAmong j x b (copies j ls)

abbrev pub Copied : ℕ → Parts → Start → List Line → Type 0
Copied j t st ls = HasCopies j t.server st ls

pub low_stays : (st : Start) (ls : List Line) (e : ℕ) (b : Body) → tells b ≡ false → AreLow st ls → AreLow st (ls ++ numbered e (b ∷ []))
low_stays st ls e b is low = low_more st ls e b (λ n. least (incarnation st ls n) (incarnation st (ls ++ numbered e (b ∷ [])) n)
    (sym (inc_still st n e ls b is))) low
  where
    least : (m n : ℕ) → m ≡ n → m ≤ n
    least m n is = omega (arith, is)

low_bound : (st : Start) (ls : List Line) (e x : ℕ) (b : Binding) (n : ℕ) → AreLow st ls → AreLow st (ls ++ numbered e
    (body.Bound x b n ∷ []))
low_bound st ls e x b n low = low_more st ls e (body.Bound x b n) (λ j. least (incarnation st ls j)
    (incarnation st (ls ++ numbered e (body.Bound x b n ∷ [])) j) (sym (inc_with st j e ls (body.Bound x b n)))) low
  where
    least : (m n : ℕ) → m ≡ n → m ≤ n
    least m n is = omega (arith, is)

low_active : (st : Start) (ls : List Line) (e n x : ℕ) (b : Binding) → AreLow st ls → AreLow st (ls ++ numbered e
    (body.Active n x b ∷ []))
low_active st ls e n x b low = low_more st ls e (body.Active n x b) (λ j. least (incarnation st ls j)
    (incarnation st (ls ++ numbered e (body.Active n x b ∷ [])) j) (sym (inc_with st j e ls (body.Active n x b)))) low
  where
    least : (m n : ℕ) → m ≡ n → m ≤ n
    least m n is = omega (arith, is)

-- ---- lines

unders : (j : ℕ) (s v : Server) (ls ms : List Line) → ((x : ℕ) → binding_number (active_binding x s) ≤ binding_number
    (active_binding x v)) →
    ((x : ℕ) (b : Binding) (n : ℕ) → IsLined ls x b n → IsLined ms x b n) → (cs : List (Placed Activation)) →
    AllByRecursion (IsUnder j s ls) cs → AllByRecursion (IsUnder j v ms) cs
unders j s v ls ms rises more [] all = tt
unders j s v ls ms rises more (a ∷ cs) all = (one all.0, unders j s v ls ms rises more cs all.1)
  where
    most : (k m n : ℕ) → k ≤ m → m ≤ n → k ≤ n
    most k m n p q = omega (arith, p, q)

    one : IsUnder j s ls a → IsUnder j v ms a
    one its here = let c = a.it in let f = its here in (
      most (binding_number c.binding) (binding_number (active_binding c.x s)) (binding_number (active_binding c.x v)) f.0 (rises c.x),
      more c.x c.binding j f.1,
    )

copies_moved : (j : ℕ) (s : Server) (st : Start) (ls : List Line) (e : ℕ) (b : Body) →
    copies j (ls ++ numbered e (b ∷ [])) ≡ copies j ls →
    incarnation st (ls ++ numbered e (b ∷ [])) j ≡ incarnation st ls j → ((x : ℕ) (c : Binding) → b ≡ body.Active j x c → ⊥) →
    HasCopies j s st ls → HasCopies j s st (ls ++ numbered e (b ∷ []))
copies_moved j s st ls e b same inc never h = record {
  there = λ x c at. let r = h.there x c at in (
    lined_more ls line x c.binding j r.0,
    subst (IsActiveIn st (ls ++ numbered e (b ∷ [])) j x c.binding) (sym inc)
        (active_in_more st ls line j x c.binding (incarnation st ls j) r.1),
  );
  above = subst (AllByRecursion (IsUnder j s (ls ++ numbered e (b ∷ [])))) (sym same)
      (unders j s s ls (ls ++ line) (λ x. least (binding_number (active_binding x s))) (λ x c n. lined_more ls line x c n) (copies j ls)
      h.above);
  last = λ x c at. subst (IsLast j x c.binding) (sym same) (h.last x c at);
  since = λ x c i. subst (IsAmong j x c) (sym same) (h.since x c (old x c (active_in_parts st ls e b j x c (incarnation st ls j)
      (subst (IsActiveIn st (ls ++ numbered e (b ∷ [])) j x c) inc i))));
}
  where
    line : List Line
    line = numbered e (b ∷ [])

    least : (n : ℕ) → n ≤ n
    least n = omega arith

    old : (x : ℕ) (c : Binding) → IsActiveIn st ls j x c (incarnation st ls j) ⊎ ((b ≡ body.Active j x c)
        × (incarnation st ls j ≡ incarnation st ls j)) → IsActiveIn st ls j x c (incarnation st ls j)
    old x c (inl before) = before
    old x c (inr new) = absurd (never x c new.0)

told_off : (b : Body) (j x : ℕ) (c : Binding) → tells b ≡ false → b ≡ body.Active j x c → ⊥
told_off b j x c is same = let no_way : false ≡ true = sym is ∙ ap tells same in cc no_way

pub copied_keeps : (j : ℕ) (t : Parts) (st : Start) (ls : List Line) (e : ℕ) (b : Body) → tells b ≡ false → Copied j t st ls →
    Copied j t st (ls ++ numbered e (b ∷ []))
copied_keeps j t st ls e b is h = copies_moved j t.server st ls e b (copies_still j ls e b is) (inc_still st j e ls b is)
    (λ x c same. told_off b j x c is same) h

turned : (m n : ℕ) → (m == n) ≡ false → (n == m) ≡ false
turned m n is = grind (arith, nat_tests, is)

all_more : (P : Placed Activation → Type 0) (xs : List (Placed Activation)) (a : Placed Activation) → AllByRecursion P xs → P a →
    AllByRecursion P (xs ++ a ∷ [])
all_more P [] a all its = (its, tt)
all_more P (x ∷ xs) a all its = (all.0, all_more P xs a all.1 its)

-- a line of a binding
copied_bound : (j : ℕ) (s : Server) (st : Start) (ls : List Line) (e x : ℕ) (b : Binding) (n : ℕ) → HasCopies j s st ls →
    HasCopies j s st (ls ++ numbered e (body.Bound x b n ∷ []))
copied_bound j s st ls e x b n h = copies_moved j s st ls e (body.Bound x b n)
    (copies_with j ls e (body.Bound x b n) ∙ append-nil (copies j ls)) (inc_with st j e ls (body.Bound x b n))
    (λ y c same. let no_way : body.Bound x b n ≡ body.Active j y c = same in cc no_way) h

pub copied_off : (j k : ℕ) → (j == k) ≡ false → (t : Parts) (st : Start) (ls : List Line) (e : ℕ) (b : Body) → is_own k b ≡ true →
    Copied j t st ls → Copied j t st (ls ++ numbered e (b ∷ []))
copied_off j k off t st ls e (body.Bound x b s) own h = copied_bound j t.server st ls e x b s h
copied_off j k off t st ls e (body.Active n x b) own h = record {
  there = λ y c at. let r = h.there y c at in (
    lined_more ls line y c.binding j r.0,
    subst (IsActiveIn st (ls ++ numbered e (body.Active n x b ∷ [])) j y c.binding) (sym inc)
        (active_in_more st ls line j y c.binding (incarnation st ls j) r.1),
  );
  above = subst (AllByRecursion (IsUnder j t.server (ls ++ line))) (sym more)
      (all_more (IsUnder j t.server (ls ++ line)) (copies j ls) new
      (unders j t.server t.server ls (ls ++ line) (λ y. least (binding_number (active_binding y t.server)))
      (λ y c m. lined_more ls line y c m)
      (copies j ls) h.above) (λ here. absurd (cc (sym here ∙ other))));
  last = λ y c at. subst (IsLast j y c.binding) (sym more) (last_more j y c.binding (copies j ls) new (λ i. other i && (x == y))
      (h.last y c at));
  since = λ y c i. subst (IsAmong j y c) (sym more) (among_more j y c (copies j ls) new (h.since y c (old y c
      (active_in_parts st ls e (body.Active n x b) j y c (incarnation st ls j)
      (subst (IsActiveIn st (ls ++ numbered e (body.Active n x b ∷ [])) j y c) inc i)))));
}
  where
    line : List Line
    line = numbered e (body.Active n x b ∷ [])

    new : Placed Activation
    new = record { at = 0 + length (since_up j ls); it = record { node = n; x = x; binding = b } }

    more : copies j (ls ++ numbered e (body.Active n x b ∷ [])) ≡ copies j ls ++ new ∷ []
    more = copies_with j ls e (body.Active n x b)

    inc : incarnation st (ls ++ numbered e (body.Active n x b ∷ [])) j ≡ incarnation st ls j
    inc = inc_with st j e ls (body.Active n x b)

    least : (n : ℕ) → n ≤ n
    least n = omega arith

    other : (n == j) ≡ false
    other = (λ i. eqb-true n k own i == j) ∙ turned j k off

    node_of : Body → ℕ
    node_of (body.Active m y c) = m
    node_of b = 0

    old : (y : ℕ) (c : Binding) → IsActiveIn st ls j y c (incarnation st ls j) ⊎ ((body.Active n x b ≡ body.Active j y c)
        × (incarnation st ls j ≡ incarnation st ls j)) → IsActiveIn st ls j y c (incarnation st ls j)
    old y c (inl before) = before
    old y c (inr same) = let no_way : false ≡ true = sym other ∙ ap (λ z. node_of z == j) same.0 ∙ same_number j in absurd (cc no_way)
copied_off j k off t st ls e (body.Up n i) own h = copies_moved j t.server st ls e (body.Up n i)
    (copies_with j ls e (body.Up n i) ∙ (λ z. cond (other z) [] (copies j ls ++ [])) ∙ append-nil (copies j ls))
    (inc_with st j e ls (body.Up n i) ∙ (λ z. cond (other z) i (incarnation st ls j)))
    (λ y c same. let no_way : body.Up n i ≡ body.Active j y c = same in cc no_way) h
  where
    other : (n == j) ≡ false
    other = (λ z. eqb-true n k own z == j) ∙ turned j k off
copied_off j k off t st ls e b own h = copied_keeps j t st ls e b refl h

abbrev pub Copies : Seen → Type 0
Copies = nodes.HoldsSo Copied AreLow copied_keeps copied_off low_stays

abbrev Due : ℕ → Parts → Start → ℕ → List Effect → List Line → Type 0
Due = nodes.Due Copied AreLow copied_keeps copied_off low_stays

-- ---- servers that take no copy

same_copied : (j : ℕ) (s t : Server) (st : Start) (ls : List Line) → SameCopies s t → HasCopies j s st ls → HasCopies j t st ls
same_copied j s t st ls same h = record {
  there = λ x c at. before x c (sym (same x) ∙ ap (option_map (λ (c : Copy). c.binding)) at) (at_number x s.objects) refl;
  above = unders j s t ls ls (λ x. most (binding_number (active_binding x s)) (binding_number (active_binding x t))
      (ap binding_number (active_is x s ∙ ap (λ o. Words.unwrap_or o Words.unbound) (sym (same x)) ∙ sym (active_is x t))))
      (λ x b n l. l) (copies j ls) h.above;
  last = λ x c at. ended x c (sym (same x) ∙ ap (option_map (λ (c : Copy). c.binding)) at) (at_number x s.objects) refl;
  since = h.since;
}
  where
    most : (m n : ℕ) → m ≡ n → m ≤ n
    most m n is = omega (arith, is)

    ended : (x : ℕ) (c : Copy) → binding_at x s ≡ Some c.binding → (o : Option Copy) → at_number x s.objects ≡ o →
        IsLast j x c.binding (copies j ls)
    ended x c is None at = none_is (ap (option_map (λ (c : Copy). c.binding)) (sym at) ∙ is)
    ended x c is (Some q) at =
        let b : q.binding ≡ c.binding = some_is (ap (option_map (λ (c : Copy). c.binding)) (sym at) ∙ is) in
        subst (λ z. IsLast j x z (copies j ls)) b (h.last x q at)

    before : (x : ℕ) (c : Copy) → binding_at x s ≡ Some c.binding → (o : Option Copy) → at_number x s.objects ≡ o →
        IsLined ls x c.binding j × IsActiveIn st ls j x c.binding (incarnation st ls j)
    before x c is None at = none_is (ap (option_map (λ (c : Copy). c.binding)) (sym at) ∙ is)
    before x c is (Some q) at =
        let f = h.there x q at in
        let b : q.binding ≡ c.binding = some_is (ap (option_map (λ (c : Copy). c.binding)) (sym at) ∙ is) in
        (subst (λ z. IsLined ls x z j) b f.0, subst (λ z. IsActiveIn st ls j x z (incarnation st ls j)) b f.1)

-- ---- effects by which no copy becomes active

idle_copied : (k : ℕ) (v : Parts) (st : Start) (ls : List Line) (e : ℕ) (b : Body) → is_idle b ≡ true → Copied k v st ls →
    Copied k v st (ls ++ numbered e (b ∷ []))
idle_copied k v st ls e (body.Active n x b) is h = absurd (cc is)
idle_copied k v st ls e (body.Up n i) is h = absurd (cc is)
idle_copied k v st ls e (body.Bound x b s) is h = copied_bound k v.server st ls e x b s h
idle_copied k v st ls e b is h = copied_keeps k v st ls e b refl h

idle_low : (st : Start) (ls : List Line) (e : ℕ) (b : Body) → is_idle b ≡ true → AreLow st ls → AreLow st (ls ++ numbered e (b ∷ []))
idle_low st ls e (body.Active n x b) is low = absurd (cc is)
idle_low st ls e (body.Up n i) is low = absurd (cc is)
idle_low st ls e (body.Bound x b s) is low = low_bound st ls e x b s low
idle_low st ls e b is low = low_stays st ls e b refl low

idle_due : (k : ℕ) (v : Parts) (st : Start) (e : ℕ) (es : List Effect) → Idle es → (ls : List Line) → AreLow st ls → Copied k v st ls →
    Due k v st e es ls
idle_due k v st e [] all ls low h = h
idle_due k v st e (Do w ∷ es) all ls low h = idle_due k v st e es all ls low h
idle_due k v st e (Say b ∷ es) all ls low h =
    let q = and_parts (is_idle b) (list_all (saying.says is_idle) es) all in
    let after = idle_low st ls e b q.0 low in
    (after, idle_due k v st e es q.1 (ls ++ numbered e (b ∷ [])) after (idle_copied k v st ls e b q.0 h))
idle_due k v st e (Send to m ∷ es) all ls low h = λ more quiet. idle_due k v st e es all (ls ++ numbered e more) (lows more quiet ls low)
    (lines more quiet ls h)
  where
    lows : (bs : List Body) → AreQuiet bs → (ms : List Line) → AreLow st ms → AreLow st (ms ++ numbered e bs)
    lows [] are ms h = subst (AreLow st) (sym (append-nil ms)) h
    lows (b ∷ bs) are ms h =
        let q = and_parts (is_quiet_line b) (list_all is_quiet_line bs) are in
        subst (AreLow st) (Words.append_assoc ms (numbered e (b ∷ [])) (numbered e bs)) (lows bs q.1 (ms ++ numbered e (b ∷ []))
        (low_stays st ms e b (quiet_tells b q.0) h))

    lines : (bs : List Body) → AreQuiet bs → (ms : List Line) → Copied k v st ms → Copied k v st (ms ++ numbered e bs)
    lines [] are ms h = subst (Copied k v st) (sym (append-nil ms)) h
    lines (b ∷ bs) are ms h =
        let q = and_parts (is_quiet_line b) (list_all is_quiet_line bs) are in
        subst (Copied k v st) (Words.append_assoc ms (numbered e (b ∷ [])) (numbered e bs)) (lines bs q.1 (ms ++ numbered e (b ∷ []))
        (copied_keeps k v st ms e b (quiet_tells b q.0) h))

-- ---- an Activate

module _ (k e : ℕ) (t : Parts) (st : Start) (from : ℕ) (h : Head) (b : Binding) (u : ObjectState) (ls : List Line)
    (lined : IsLined ls (let i = u.uid in i.num) b k) (low_now : AreLow st ls) (had : HasCopies k t.server st ls) where
  abbrev x : ℕ
  x = let i = u.uid in i.num

  abbrev DueBy : Handled → Type 0
  DueBy (Void es) = ⊤
  DueBy (Took w es) = Due k w st e es ls

  took : binding_less b (active_binding x t.server) ≡ false →
      Due k (with_server t (took_copy k x b u t.server).part) st e
      ((took_copy k x b u t.server).outs ++ Send from (response (asked_by h) (Reply.Activated (let s = t.server in s.inc))) ∷ []) ls
  took low = (
    low_active st ls e k x b low_now,
    idle_due k (with_server t (took_copy k x b u t.server).part) st e
        (Send from (response (asked_by h) (Reply.Activated (let s = t.server in s.inc))) ∷ []) refl (ls ++ line)
        (low_active st ls e k x b low_now) now,
  )
    where
      line : List Line
      line = numbered e (body.Active k x b ∷ [])

      new : Placed Activation
      new = record { at = 0 + length (since_up k ls); it = record { node = k; x = x; binding = b } }

      longer : copies k (ls ++ numbered e (body.Active k x b ∷ [])) ≡ copies k ls ++ new ∷ []
      longer = copies_with k ls e (body.Active k x b)

      inc : incarnation st (ls ++ numbered e (body.Active k x b ∷ [])) k ≡ incarnation st ls k
      inc = inc_with st k e ls (body.Active k x b)

      its_own : is_under k x b new ≡ true
      its_own = λ i. (same_number k i && same_number x i) && (same_number b.inc i && same_number b.count i)

      object_of : Body → ℕ
      object_of (body.Active m y c) = y
      object_of b = x

      binding_of_line : Body → Binding
      binding_of_line (body.Active m y c) = c
      binding_of_line z = b

      among : (y : ℕ) (c : Binding) → IsActiveIn st ls k y c (incarnation st ls k) ⊎ ((body.Active k x b ≡ body.Active k y c)
          × (incarnation st ls k ≡ incarnation st ls k)) → IsAmong k y c (copies k ls ++ new ∷ [])
      among y c (inl before) = among_more k y c (copies k ls) new (had.since y c before)
      among y c (inr same) = (
        new,
        in_last new (copies k ls),
        subst (λ z. is_under k y z new ≡ true) (ap binding_of_line same.0)
            (subst (λ z. is_under k z b new ≡ true) (ap object_of same.0) its_own),
      )

      v : Server
      v = (took_copy k x b u t.server).part

      here : at_number x v.objects ≡ Some (Words.taken_copy b u)
      here = put_same x (Words.taken_copy b u) (let s = t.server in s.objects)

      rises : (y : ℕ) → binding_number (active_binding y t.server) ≤ binding_number (active_binding y v)
      rises y = by (is_eq (nat_cmp y x)) refl
        where
          at_most : (m n : ℕ) → nat_lt n m ≡ false → m ≤ n
          at_most m n is = grind (arith, nat_tests, is)

          same : (m n : ℕ) → m ≡ n → m ≤ n
          same m n is = omega (arith, is)

          by : (c : Bool) → is_eq (nat_cmp y x) ≡ c → binding_number (active_binding y t.server) ≤ binding_number (active_binding y v)
          by true at = subst (λ z. binding_number (active_binding z t.server) ≤ binding_number (active_binding z v)) (same_key y x at)
              (subst (λ (o : Option Copy). binding_number (active_binding x t.server) ≤ binding_number (binding_of o)) (sym here)
              (at_most (binding_number (active_binding x t.server)) (binding_number b) low))
          by false at = same (binding_number (active_binding y t.server)) (binding_number (active_binding y v))
              (ap (λ o. binding_number (binding_of o)) (sym (put_other x y (Words.taken_copy b u) (let s = t.server in s.objects) at)))

      now : HasCopies k v st (ls ++ line)
      now = record {
        there = λ y c at. by y c at (is_eq (nat_cmp y x)) refl;
        last = λ y c at. subst (IsLast k y c.binding) (sym longer) (ended y c at (is_eq (nat_cmp y x)) refl);
        since = λ y c i. subst (IsAmong k y c) (sym longer) (among y c (active_in_parts st ls e (body.Active k x b) k y c
            (incarnation st ls k) (subst (IsActiveIn st (ls ++ numbered e (body.Active k x b ∷ [])) k y c) inc i)));
        above = subst (AllByRecursion (IsUnder k v (ls ++ line))) (sym (copies_with k ls e (body.Active k x b)))
            (all_more (IsUnder k v (ls ++ line)) (copies k ls) _
            (unders k t.server v ls (ls ++ line) rises (λ y c m. lined_more ls line y c m) (copies k ls) had.above)
            (λ its. (
              subst (λ (o : Option Copy). binding_number b ≤ binding_number (binding_of o)) (sym here) (least (binding_number b)),
              lined_more ls line x b k lined,
            )));
      }
        where
          least : (n : ℕ) → n ≤ n
          least n = omega arith

          its : List Line → ℕ → Binding → Type 0
          its ms y c = IsLined ms y c k × IsActiveIn st ms k y c (incarnation st ms k)

          by : (y : ℕ) (c : Copy) → at_number y v.objects ≡ Some c → (q : Bool) → is_eq (nat_cmp y x) ≡ q →
              IsLined (ls ++ line) y c.binding k × IsActiveIn st (ls ++ line) k y c.binding (incarnation st (ls ++ line) k)
          by y c at true is =
              let same : Words.taken_copy b u ≡ c = some_is (sym here ∙ ap (λ z. at_number z v.objects) (same_key y x is) ∙ at) in
              subst (λ (z : Copy). its (ls ++ numbered e (body.Active k x b ∷ [])) y z.binding) same
              (subst (λ z. its (ls ++ numbered e (body.Active k x b ∷ [])) z b) (same_key y x is) (
                lined_more ls line x b k lined,
                subst (IsActiveIn st (ls ++ numbered e (body.Active k x b ∷ [])) k x b) (sym inc)
                    (active_in_last st ls e k x b),
              ))
          by y c at false is =
              let r = had.there y c (sym (put_other x y (Words.taken_copy b u) (let s = t.server in s.objects) is) ∙ at) in (
                lined_more ls line y c.binding k r.0,
                subst (IsActiveIn st (ls ++ numbered e (body.Active k x b ∷ [])) k y c.binding) (sym inc)
                    (active_in_more st ls line k y c.binding (incarnation st ls k) r.1),
              )

          apart : (y : ℕ) → is_eq (nat_cmp y x) ≡ false → (x == y) ≡ false
          apart y is = grind (arith, nat_tests, is)

          ended : (y : ℕ) (c : Copy) → at_number y v.objects ≡ Some c → (q : Bool) → is_eq (nat_cmp y x) ≡ q →
              IsLast k y c.binding (copies k ls ++ new ∷ [])
          ended y c at true is =
              let same : Words.taken_copy b u ≡ c = some_is (sym here ∙ ap (λ z. at_number z v.objects) (same_key y x is) ∙ at) in
              subst (λ (z : Copy). IsLast k y z.binding (copies k ls ++ new ∷ [])) same
              (subst (λ z. IsLast k z b (copies k ls ++ new ∷ [])) (same_key y x is)
              (last_new k x b (copies k ls) new its_own (placed_low [] 0 (since_up k ls))))
          ended y c at false is = last_more k y c.binding (copies k ls) new (λ i. same_number k i && apart y is i) (had.last y c
              (sym (put_other x y (Words.taken_copy b u) (let s = t.server in s.objects) is) ∙ at))

  activate_due : DueBy (Words.served from h (with_server t) Reply.Activated (server.activate k h.path b u t.server))
  activate_due = by (has_ended h.path t.server) (binding_less b (active_binding x t.server)) refl (binding_eq b (active_binding x t.server))
    where
      by : (o l : Bool) → binding_less b (active_binding x t.server) ≡ l → (q : Bool) →
          DueBy (Words.served from h (with_server t) Reply.Activated
          (cond {A = Served Server ℕ} (o || l) (void t.server) (cond {A = Served Server ℕ} q (reply t.server (let s = t.server in s.inc))
          (took_copy k x b u t.server))))
      by true l less q = tt
      by false true less q = tt
      by false false less true = idle_due k (with_server t t.server) st e
          (Send from (response (asked_by h) (Reply.Activated (let s = t.server in s.inc))) ∷ []) refl ls low_now had
      by false false less false = took less

-- ---- whole runs

-- what became active under a binding of this number
abbrev pub active_by : List Line → OfServer
active_by ls x b s = (c : Binding) × (binding_number c ≡ binding_number b) × IsLined ls x c s × IsActive ls s x c

abbrev is_inactive : Body → Bool
is_inactive (body.Active n x b) = false
is_inactive b = true

idle_both : (es : List Effect) → Still es → saying.All is_inactive es → Idle es
idle_both [] still all = refl
idle_both (Say b ∷ es) still all =
    let p = and_parts (is_still b) (list_all says_still es) still in
    let q = and_parts (is_inactive b) (list_all (saying.says is_inactive) es) all in
    λ i. one b p.0 q.0 i && idle_both es p.1 q.1 i
  where
    one : (b : Body) → is_still b ≡ true → is_inactive b ≡ true → is_idle b ≡ true
    one (body.Active n x c) still is = absurd (cc is)
    one (body.Up n j) still is = absurd (cc still)
    one b still is = refl
idle_both (Send to m ∷ es) still all = idle_both es still all
idle_both (Do w ∷ es) still all = idle_both es still all

new_copies : (j i : ℕ) (d : Disk) (st : Start) (ls : List Line) → copies j ls ≡ [] →
    ((x : ℕ) (b : Binding) → IsActiveIn st ls j x b (incarnation st ls j) → ⊥) → Copied j (parts_in j i d) st ls
new_copies j i d st ls none never = record {
  there = λ x c at. none_is at;
  above = subst (AllByRecursion (IsUnder j (new_server i) ls)) (sym none) tt;
  last = λ x c at. none_is at;
  since = λ x b is. absurd (never x b is);
}

module _ (hd : Header) (H : Seen → Type 0) (known : (k : ℕ) (d : Disk) (M : Seen) → H (down k d M) → KnowsNext (down k d M))
    (names : (k : ℕ) (d : Disk) (t : Parts) (M : Seen) → H (up k d t M) → Names (up k d t M))
    (asking : (k : ℕ) (d : Disk) (t : Parts) (M : Seen) → H (up k d t M) → (from : ℕ) (m : Message) →
    In (record { from = from; to = k; message = m }) M.sent → AskedSo (IsLined M.lines) (active_by M.lines) (met_in M.start M.lines) k
    (asks m)) where
  own_copies : (k : ℕ) (d : Disk) (t : Parts) (M : Seen) → Copies (up k d t M) → HasCopies k t.server M.start M.lines
  own_copies k d t M h = h.1 k (record { number = k; disk = d; live = Some t }) t
      (λ i. cond (same_number k i) (Some (record { number = k; disk = d; live = Some t })) (M.nodes k)) refl

  message_due : (e k : ℕ) (d : Disk) (t v : Parts) (from : ℕ) (m : Message) (outs : List Effect) (M : Seen) →
      AskedSo (IsLined M.lines) (active_by M.lines) (met_in M.start M.lines) k (asks m) → AreLow M.start M.lines → HasCopies k t.server
      M.start M.lines →
      handle k d t from m ≡ Took v outs → Due k v M.start e outs M.lines
  message_due e k d t v from m outs M its low had is = by (asks m) refl its
    where
      others : (o : Option (Head × Ask)) → asks m ≡ o → is_activate o ≡ false → Due k v M.start e outs M.lines
      others o at off =
          let s = subst (StaysBy k d t from) (sym (ap (handle_ask k d t from m) at) ∙ is) (message_copies k d t from m o off) in
          idle_due k v M.start e outs s.1 M.lines low (same_copied k t.server v.server M.start M.lines s.0 had)

      by : (o : Option (Head × Ask)) → asks m ≡ o → AskedSo (IsLined M.lines) (active_by M.lines) (met_in M.start M.lines) k o → Due k v
          M.start e outs M.lines
      by None at its = others None at refl
      by (Some (h, ask.Bind x include avoid)) at its = others (Some (h, ask.Bind x include avoid)) at refl
      by (Some (h, ask.Load x)) at its = others (Some (h, ask.Load x)) at refl
      by (Some (h, ask.Activate b st)) at its = subst (DueBy k e t M.start from h b st M.lines its low had)
          (sym (ap (handle_ask k d t from m) at) ∙ is)
          (activate_due k e t M.start from h b st M.lines its low had)
      by (Some (h, ask.Record x b i g)) at its = others (Some (h, ask.Record x b i g)) at refl
      by (Some (h, ask.Invoke x b i es o)) at its = others (Some (h, ask.Invoke x b i es o)) at refl
      by (Some (h, ask.Vote i ties es)) at its = others (Some (h, ask.Vote i ties es)) at refl
      by (Some (h, ask.Prepare states)) at its = others (Some (h, ask.Prepare states)) at refl
      by (Some (h, ask.Confirm g x i)) at its = others (Some (h, ask.Confirm g x i)) at refl

  restart_due : (e k : ℕ) (d : Disk) (M : Seen) → H (down k d M) → AreLow M.start M.lines → Due k (parts_in k (d.inc + 1) d) M.start e
      (restart_outs hd k (d.inc + 1) d)
      M.lines
  restart_due e k d M h low = (
    low_after,
    idle_due k (parts_in k (d.inc + 1) d) M.start e rest (idle_both rest rest_still rest_inactive) after low_after
        (new_copies k (d.inc + 1) d M.start after fresh none),
  )
    where
      up_now : incarnation M.start M.lines k ≤ d.inc
      up_now = ((known k d M h).1 k (record { number = k; disk = d; live = None })
          (λ i. cond (same_number k i) (Some (record { number = k; disk = d; live = None })) (M.nodes k))).0

      inc_after : (n : ℕ) → incarnation M.start (M.lines ++ numbered e (body.Up k (d.inc + 1) ∷ [])) n ≡
          cond (k == n) (d.inc + 1) (incarnation M.start M.lines n)
      inc_after n = inc_with M.start n e M.lines (body.Up k (d.inc + 1))

      low_after : AreLow M.start (M.lines ++ numbered e (body.Up k (d.inc + 1) ∷ []))
      low_after = low_more M.start M.lines e (body.Up k (d.inc + 1)) (λ n. rises n (k == n) refl) low
        where
          up_to : (m n : ℕ) → m ≤ n → m ≤ n + 1
          up_to m n le = omega (arith, le)

          least : (m n : ℕ) → m ≡ n → m ≤ n
          least m n is = omega (arith, is)

          rises : (n : ℕ) (b : Bool) → (k == n) ≡ b → incarnation M.start M.lines n ≤
              incarnation M.start (M.lines ++ numbered e (body.Up k (d.inc + 1) ∷ [])) n
          rises n true is = subst (λ z. incarnation M.start M.lines n ≤ z) (sym (inc_after n ∙ (λ i. cond (is i) (d.inc + 1)
              (incarnation M.start M.lines n)))) (subst (λ z. incarnation M.start M.lines z ≤ d.inc + 1) (eqb-true k n is)
              (up_to (incarnation M.start M.lines k) d.inc up_now))
          rises n false is = least (incarnation M.start M.lines n) (incarnation M.start
              (M.lines ++ numbered e (body.Up k (d.inc + 1) ∷ [])) n)
              (sym (inc_after n ∙ (λ i. cond (is i) (d.inc + 1) (incarnation M.start M.lines n))))

      none : (x : ℕ) (b : Binding) → IsActiveIn M.start (M.lines ++ numbered e (body.Up k (d.inc + 1) ∷ [])) k x b
          (incarnation M.start (M.lines ++ numbered e (body.Up k (d.inc + 1) ∷ [])) k) → ⊥
      none x b i = by (active_in_parts M.start M.lines e (body.Up k (d.inc + 1)) k x b (d.inc + 1)
          (subst (IsActiveIn M.start (M.lines ++ numbered e (body.Up k (d.inc + 1) ∷ [])) k x b)
          (inc_after k ∙ (λ j. cond (same_number k j) (d.inc + 1) (incarnation M.start M.lines k))) i))
        where
          above : (m n : ℕ) → n + 1 ≤ m → m ≤ n → ⊥
          above m n a b = omega (arith, a, b)

          by : IsActiveIn M.start M.lines k x b (d.inc + 1) ⊎ ((body.Up k (d.inc + 1) ≡ body.Active k x b)
              × (incarnation M.start M.lines k ≡ d.inc + 1)) → ⊥
          by (inl before) = above (incarnation M.start M.lines k) d.inc (low.low k x b (d.inc + 1) before) up_now
          by (inr same) = let no_way : body.Up k (d.inc + 1) ≡ body.Active k x b = same.0 in cc no_way

      after : List Line
      after = M.lines ++ numbered e (body.Up k (d.inc + 1) ∷ [])

      rest : List Effect
      rest = halts.behind hd e k d M (known k d M h).0

      rest_still : Still rest
      rest_still = halts.behind_still hd e k d M (known k d M h).0

      rest_inactive : saying.All is_inactive rest
      rest_inactive = saying.restart_says is_inactive hd k (d.inc + 1) d coord_inactive (λ is u o how. refl) (λ u. refl) refl
        where
          coord_inactive : (b : Body) → is_coord_line b ≡ true → is_inactive b ≡ true
          coord_inactive (body.Active n x c) is = absurd (cc is)
          coord_inactive b is = refl

      fresh : copies k after ≡ []
      fresh = copies_with k M.lines e (body.Up k (d.inc + 1)) ∙ (λ i. cond (same_number k i) [] (copies k M.lines ++ []))

  pub copies_given : KeepsGiven hd H Copies
  copies_given = nodes.nodes_keep Copied AreLow copied_keeps copied_off low_stays hd H (λ j t c st ls h. h)
      (λ e k d t v from m outs M h had there meant is.
      let n = names k d t M h in
      let own = n.1 k (record { number = k; disk = d; live = Some t }) t
      (λ i. cond (same_number k i) (Some (record { number = k; disk = d; live = Some t })) (M.nodes k)) refl in (
        owns e k d t v from m outs M.start M.lines n.0 own meant is,
        message_due e k d t v from m outs M (asking k d t M h from m there) had.0 (own_copies k d t M had) is,
      ))
      (λ e k d M h had. restart_due e k d M h had.0)
      (λ st formed. (
        low_first st,
        λ j n t there live. subst (λ (z : Parts). Copied j z st []) (first_up hd st j n t there live)
            (new_copies j (st.incs j + 1) (Rattle.arj_law_runs.proofs.Terms.disk_by hd st j) st [] refl
            (λ x b is. none_active st j x b (incarnation st [] j) is)),
      ))
