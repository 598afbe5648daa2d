-- The row of copies: each becomes active under a binding that naming made for its node, newer than those of the object's copies there.
use Rattle.arj_law_parts.proofs.Words
use Words.{◌≡◌, ◌≤◌, ◌<◌, ◌∙◌, ◌+◌, ◌*◌, ◌==◌, ◌++◌, ◌&&◌, ◌||◌, not, ℕ, Bool, true, false, cond, List, [], ◌∷◌, Option, Some, None, refl}
use Words.{sym, ap, subst, inl, inr, ⊤, arith, nat_lt, nat_tests, list_all, list_any, and_parts, eqb-true, map, AllByRecursion, Ask}
use Words.{Binding, Body}
use Words.{Event, Head, Header, Line, Message, ObjectState, Start, Reply, asks, Disk, Do, Effect, Say, Send, Served}
use Words.{void, reply}
use Words.{Handled, Parts, Took, Void, handle, handle_ask, holders, query_about, with_server, acts as does, acts_own, again_all}
use Words.{again_own, all_both, AreAll, is_coord_effect, is_coord_line, begin_action, parent_of, tick_outs, tolds_again, tolds_again_own}
use Words.{restart_outs}
use Words.{Server, active_binding, has_ended, took_copy, binding_eq, binding_less, binding_number, In}
use Words.ask
use Words.body
use Words.input
use Words.server
use Rattle.arj_law_parts.proofs.moves.Happens.{Wide}
use Rattle.arj_law_parts.specs.moves.Moments as moments
use Rattle.arj_law_parts.specs.moves.Moments.{Moment}
use Rattle.arj_law_parts.specs.moves.Seen.{is_quiet_line}
use Rattle.arj_law_runs.proofs.bindings.Events.{moves_few}
use Rattle.arj_law_runs.proofs.calls.MadeLines.{fewer}
use Rattle.arj_law_runs.proofs.kept.Walked.{same_number}
use Rattle.arj_law_runs.specs.calls.Bindings.{HasFewBindings, bindings_made, most_bindings}
use Rattle.arj_law_runs.specs.follow.Frames.{run_events}
use Rattle.arj_law_serial.proofs.holding.Says as saying
use Rattle.arj_model.specs.Actions.{Act, Placed, acts_after, put, read}
use Rattle.arj_model.specs.CauseCopies.{Activation, Naming, is_at, is_older, naming_of, same_binding}
use Rattle.arj_model.specs.CauseLocks.{active_caused}
use Rattle.arj_model.specs.CauseSpans.{Here}
use Rattle.arj_model.specs.Caused.{has_cause}
use Rattle.arj_model.specs.Past.{Past}
use Rattle.arj_promise.specs.Runs.{IsInForm, Run, journal_by}
use Rattle.arj_law_cause.proofs.bindings.Asking.{AskedSo}
use Rattle.arj_law_cause.proofs.bindings.Copies.{HasCopies, IsUnder, active_by}
use Rattle.arj_law_cause.proofs.bindings.Resting.{StaysBy, is_activate, is_idle, message_copies}
use Rattle.arj_law_cause.proofs.bindings.Counted.{IsGiven}
use Rattle.arj_law_cause.proofs.bindings.Lines.{IsLined, copies}
use Rattle.arj_law_cause.proofs.bindings.Since.{met_in}
use Rattle.arj_law_cause.proofs.bindings.Said.{KnowsBindings, bindings_keep}
use Rattle.arj_law_cause.proofs.kinds.Lines.{tested_row}
use Rattle.arj_law_cause.proofs.kinds.Nodes.{wide_all}
use Rattle.arj_law_cause.proofs.kinds.Running.{nothing_more, row_run}
use Rattle.arj_law_cause.proofs.kinds.Walks as walks
use Rattle.arj_law_cause.specs.kinds.Kinds.{is_active}
use Rattle.arj_law_cause.specs.kinds.Rows.{RowHolds}

-- ---- lines

-- so few bindings that each has a number of its own
abbrev pub is_few : List Line → Bool
is_few ls = nat_lt (bindings_made ls) most_bindings

abbrev passes : Here → Body → Bool
passes h (body.Active n x b) = not (is_few h.lines) || active_caused h n x b
passes h b = true

quiet : (b : Body) → is_quiet_line b ≡ true → is_active b ≡ false
quiet (body.Active n x b) is = absurd (cc is)
quiet b is = refl

no_halt : (k : ℕ) → is_active (body.Halted k) ≡ false
no_halt k = refl

abbrev is_other : Body → Bool
is_other b = not (is_active b)

coord_other : (b : Body) → is_coord_line b ≡ true → is_other b ≡ true
coord_other (body.Active n x c) is = absurd (cc is)
coord_other b is = refl

-- ---- a binding that stands in the journal

is_same : (b : Binding) → same_binding b b ≡ true
is_same b = λ i. same_number b.inc i && same_number b.count i

module _ (x : ℕ) (b : Binding) (s : ℕ) where
  abbrev is_it : Placed Naming → Bool
  is_it m = (m.it.x == x) && (same_binding m.it.binding b && (m.it.server == s))

  it_is : (m : Placed Naming) → m.it ≡ record { x = x; binding = b; server = s } → is_it m ≡ true
  it_is m is = (λ i. (let z = is i in (z.x == x) && (same_binding z.binding b && (z.server == s))))
      ∙ (λ i. same_number x i && (is_same b i && same_number s i))

  in_put : (n : ℕ) (o : Option Naming) (ms : List (Placed Naming)) → list_any is_it ms ≡ true → list_any is_it (put n o ms) ≡ true
  in_put n None ms is = is
  in_put n (Some m) ms is = or_is (is_it (record { at = n; it = m })) is
    where
      or_is : (a : Bool) {c : Bool} → c ≡ true → (a || c) ≡ true
      or_is true is = refl
      or_is false is = is

  pub named_from : (xs : List Act) (n : ℕ) (ls : List Line) (e : ℕ) → In (record { event = e; body = body.Bound x b s }) ls →
      list_any is_it (read naming_of xs n ls) ≡ true
  named_from xs n [] e i = absurd i
  named_from xs n (l ∷ ls) e (inl is) =
      (λ i. list_any is_it (put n (naming_of xs (let z = is i in z.body)) (read naming_of (acts_after xs l.body) (n + 1) ls)))
      ∙ (λ i. it_is (record { at = n; it = record { x = x; binding = b; server = s } }) refl i
      || list_any is_it (read naming_of (acts_after xs l.body) (n + 1) ls))
  named_from xs n (l ∷ ls) e (inr i) = in_put n (naming_of xs l.body) (read naming_of (acts_after xs l.body) (n + 1) ls)
      (named_from (acts_after xs l.body) (n + 1) ls e i)

-- ---- bindings of lower numbers

pub few_low : (c m : ℕ) → c ≤ m → nat_lt m most_bindings ≡ true → c < 4294967296
few_low c m low few = grind (arith, nat_tests, low, few)

pub older_is : (b c : Binding) → b.count < 4294967296 → c.count < 4294967296 → binding_number b < binding_number c → is_older b c ≡ true
older_is b c small low less = by (nat_lt b.inc c.inc) refl
  where
    by : (t : Bool) → nat_lt b.inc c.inc ≡ t → (t || ((b.inc == c.inc) && nat_lt b.count c.count)) ≡ true
    by true is = refl
    by false is =
        let same : b.inc ≡ c.inc = alike b.inc c.inc b.count c.count is low less in
        λ i. (ap (λ z. z == c.inc) same ∙ same_number c.inc) i && under b.inc c.inc b.count c.count same less i
      where
        alike : (m n p q : ℕ) → nat_lt m n ≡ false → q < 4294967296 → m * 4294967296 + p < n * 4294967296 + q → m ≡ n
        alike m n p q off low less = grind (arith, nat_tests, off, low, less)

        under : (m n p q : ℕ) → m ≡ n → m * 4294967296 + p < n * 4294967296 + q → nat_lt p q ≡ true
        under m n p q is less = grind (arith, nat_tests, is, less)

-- ---- an event

module _ (hd : Header) (st : Start) (q : Past) (e : Event) where
  abbrev Inside : Moment → Type 0
  Inside = walks.Inside passes hd is_active quiet no_halt st q e

  abbrev Well : List Effect → List Line → Type 0
  Well es ls = walks.Well passes hd is_active quiet no_halt st q e es ls

  abbrev at : List Line → Here
  at ls = walks.here_behind passes hd is_active quiet no_halt st q e ls

  others_well : (es : List Effect) (ls : List Line) → saying.All is_other es → Well es ls
  others_well es ls all = walks.each_well passes hd is_active quiet no_halt st q e is_other (λ ms b is. λ i. is i || passes (at ms) b)
      es ls all

  coord_others : (es : List Effect) → AreAll is_coord_effect es → saying.All is_other es
  coord_others = saying.kind_says is_other is_coord_effect is_coord_line (λ b. refl) coord_other

  -- ---- an Activate

  module _ (k from : ℕ) (t : Parts) (h : Head) (b : Binding) (u : ObjectState) (ls : List Line)
      (lined : IsLined ls (let i = u.uid in i.num) b k) (had : HasCopies k t.server st ls) (given : IsGiven st ls) where
    abbrev x : ℕ
    x = let i = u.uid in i.num

    abbrev WellBy : Handled → Type 0
    WellBy (Void es) = ⊤
    WellBy (Took w es) = Well es ls

    -- each copy of the object that became active here is older
    older : is_few ls ≡ true → binding_number (active_binding x t.server) < binding_number b → (cs : List (Placed Activation)) →
        AllByRecursion (IsUnder k t.server ls) cs → list_all (λ a. not (is_at k x a.it) || is_older a.it.binding b) cs ≡ true
    older few less [] all = refl
    older few less (a ∷ cs) all = λ i. one (is_at k x a.it) refl i && older few less cs all.1 i
      where
        below : (m n p : ℕ) → m ≤ n → n < p → m < p
        below m n p le less = omega (arith, le, less)

        one : (c : Bool) → is_at k x a.it ≡ c → (not c || is_older a.it.binding b) ≡ true
        one false off = refl
        one true here =
            let p = and_parts (a.it.node == k) (a.it.x == x) here in
            let f = all.0 p.0 in
            older_is a.it.binding b (few_low a.it.binding.count (bindings_made ls) (given.small a.it.x a.it.binding k f.1) few)
            (few_low b.count (bindings_made ls) (given.small x b k lined) few)
            (below (binding_number a.it.binding) (binding_number (active_binding x t.server)) (binding_number b)
            (subst (λ z. binding_number a.it.binding ≤ binding_number (active_binding z t.server)) (eqb-true a.it.x x p.1) f.0) less)

    caused : is_few ls ≡ true → binding_number (active_binding x t.server) < binding_number b → active_caused (at ls) k x b ≡ true
    caused few less = λ i. named_from x b k [] 0 ls lined.0 lined.1 i && older few less (copies k ls) had.above i

    line_passes : binding_number (active_binding x t.server) < binding_number b → passes (at ls) (body.Active k x b) ≡ true
    line_passes less = by (is_few ls) refl
      where
        by : (c : Bool) → is_few ls ≡ c → (not c || active_caused (at ls) k x b) ≡ true
        by false many = refl
        by true few = caused few less

    activate_well : WellBy (Words.served from h (with_server t) Reply.Activated (server.activate k h.path b u t.server))
    activate_well = by (has_ended h.path t.server) (binding_less b (active_binding x t.server)) refl
        (binding_eq b (active_binding x t.server)) refl
      where
        above : (m n : ℕ) → nat_lt n m ≡ false → (n == m) ≡ false → m < n
        above m n low off = grind (arith, nat_tests, low, off)

        by : (o l : Bool) → binding_less b (active_binding x t.server) ≡ l → (c : Bool) → binding_eq b (active_binding x t.server) ≡ c →
            WellBy (Words.served from h (with_server t) Reply.Activated
            (cond {A = Served Server ℕ} (o || l) (void t.server) (cond {A = Served Server ℕ} c (reply t.server (let s = t.server in s.inc))
            (took_copy k x b u t.server))))
        by true l less c same = tt
        by false true less c same = tt
        by false false less true same = λ more are. tt
        by false false less false off =
            (line_passes (above (binding_number (active_binding x t.server)) (binding_number b) less off), (λ more are. tt))

  message_well : (k : ℕ) (d : Disk) (t v : Parts) (from : ℕ) (m : Message) (outs : List Effect) (M : Moment) →
      Wide KnowsBindings (moments.up k d t M) →
      Inside M → In (record { from = from; to = k; message = m }) M.seen.sent → handle k d t from m ≡ Took v outs → Well outs M.seen.lines
  message_well k d t v from m outs M known h there is = asked (asks m) refl
      ((let s = known.2.1.0 in let p = s.sent (record { from = from; to = k; message = m }) (known.1 _ there) in p.asking))
    where
      its_place : Words.cond (k == k) (Some (record { number = k; disk = d; live = Some t })) (M.seen.nodes k) ≡
          Some (record { number = k; disk = d; live = Some t })
      its_place = λ i. cond (same_number k i) (Some (record { number = k; disk = d; live = Some t })) (M.seen.nodes k)

      had : HasCopies k t.server st M.seen.lines
      had = subst (λ z. HasCopies k t.server z M.seen.lines) h.start
          (known.2.1.1.1 k (record { number = k; disk = d; live = Some t }) t its_place refl)

      given : IsGiven st M.seen.lines
      given = subst (λ z. IsGiven z M.seen.lines) h.start (known.2.0.1.1.0)

      idle_others : (es : List Effect) → saying.All is_idle es → saying.All is_other es
      idle_others [] all = refl
      idle_others (Say c ∷ es) all =
          let p = and_parts (is_idle c)
          (list_all (saying.says is_idle) es) all in
          λ i. one c p.0 i && idle_others es p.1 i
        where
          one : (c : Body) → is_idle c ≡ true → is_other c ≡ true
          one (body.Active n x b) is = absurd (cc is)
          one c is = refl
      idle_others (Send to m ∷ es) all = idle_others es all
      idle_others (Do w ∷ es) all = idle_others es all

      others : (o : Option (Head × Ask)) → asks m ≡ o → is_activate o ≡ false → Well outs M.seen.lines
      others o at off =
          let s = subst (StaysBy k d t from) (sym (ap (handle_ask k d t from m) at) ∙ is) (message_copies k d t from m o off) in
          others_well outs M.seen.lines (idle_others outs s.1)

      asked : (o : Option (Head × Ask)) → asks m ≡ o →
          AskedSo (IsLined M.seen.lines)
          (active_by M.seen.lines) (met_in (let S = M.seen in S.start) M.seen.lines) k o → Well outs M.seen.lines
      asked None at its = others None at refl
      asked (Some (hh, ask.Bind x include avoid)) at its = others (Some (hh, ask.Bind x include avoid)) at refl
      asked (Some (hh, ask.Load x)) at its = others (Some (hh, ask.Load x)) at refl
      asked (Some (hh, ask.Activate b u)) at its =
          subst (WellBy k from t hh b u M.seen.lines its had given) (sym (ap (handle_ask k d t from m) at) ∙ is)
          (activate_well k from t hh b u M.seen.lines its had given)
      asked (Some (hh, ask.Record x b i g)) at its = others (Some (hh, ask.Record x b i g)) at refl
      asked (Some (hh, ask.Invoke x b i es o)) at its = others (Some (hh, ask.Invoke x b i es o)) at refl
      asked (Some (hh, ask.Vote i ties es)) at its = others (Some (hh, ask.Vote i ties es)) at refl
      asked (Some (hh, ask.Prepare states)) at its = others (Some (hh, ask.Prepare states)) at refl
      asked (Some (hh, ask.Confirm g x i)) at its = others (Some (hh, ask.Confirm g x i)) at refl

  well : walks.SaysWell passes hd is_active quiet no_halt st q e (Wide KnowsBindings)
  well = record {
    message = λ k d t v from m outs M known h there meant may is. message_well k d t v from m outs M known h there is;
    act = λ k d t i M is brings fresh asks free known h. others_well (does i d.intents t.coord).outs M.seen.lines
        (coord_others (does i d.intents t.coord).outs (acts_own i d.intents t.coord));
    begin = λ k d t l how parent M brings fresh new gives none known h.
        let did = begin_action l how parent (parent_of parent t.coord) t.coord in
        others_well did.outs M.seen.lines (coord_others did.outs (acts_own (input.Begin l how parent) d.intents t.coord));
    tick = λ k d t M known h.
        let r = again_all t.coord.doings t.coord in
        others_well (tick_outs (record { number = k; disk = d; live = Some t }) t) M.seen.lines
        (all_both (saying.says is_other) (r.outs ++ tolds_again t.coord.telling) (map query_about (holders d t))
        (all_both (saying.says is_other) r.outs (tolds_again t.coord.telling) (coord_others r.outs (again_own t.coord.doings t.coord))
        (coord_others (tolds_again t.coord.telling) (tolds_again_own t.coord.telling)))
        (saying.map_says is_other query_about (holders d t) (λ u. refl)));
    restart = λ k d M its fresh known h.
        others_well (restart_outs hd k (d.inc + 1) d) M.seen.lines
        (saying.restart_says is_other hd k (d.inc + 1) d coord_other (λ is u o how. refl) (λ u. refl) refl);
  }

-- ---- runs

to_cause : (h : Here) (b : Body) → is_active b ≡ true → HasFewBindings h.lines → passes h b ≡ true → has_cause h b ≡ true
to_cause h (body.Active n x c) its few is = (λ i. not (sym (short (bindings_made h.lines) few) i) || active_caused h n x c) ∙ is
  where
    short : (m : ℕ) → m < 4294967295 → nat_lt m 4294967295 ≡ true
    short m low = grind (arith, nat_tests, low)
to_cause h b its few is = absurd (cc its)

-- naming makes few bindings
pub few_before : (hd : Header) (r : Run hd) → IsInForm hd r → (before : List Line) (line : Line) (behind : List Line) →
    journal_by hd r ≡ before ++ line ∷ behind → HasFewBindings before
few_before hd r form before line behind is =
    least (bindings_made before) (bindings_made (before ++ line ∷ behind)) (fewer before (line ∷ behind))
    (subst HasFewBindings is (moves_few hd r form.few))
  where
    least : (m n : ℕ) → m ≤ n → n < 4294967295 → m < 4294967295
    least m n le low = omega (arith, le, low)

pub active_row : RowHolds is_active
active_row hd r form =
    let lines = journal_by hd r in
    let keeps = wide_all hd KnowsBindings (bindings_keep hd) in
    tested_row (λ ls b. HasFewBindings ls) is_active passes has_cause to_cause lines (few_before hd r form) hd r.start (run_events hd r)
    (row_run passes is_active quiet no_halt hd (Wide KnowsBindings) keeps (nothing_more hd (Wide KnowsBindings) keeps.steps)
    (λ st q e w between lines count. well hd st q e) r form)
