-- The row of new bindings: each is the next one of naming's present life, for the server whose turn it is, under a write lock of the entry.
use Rattle.arj_law_parts.proofs.Words
use Words.{⊤, ◌≡◌, ◌≤◌, ◌⊎◌, ⊎_elim, ◌∙◌, ◌==◌, ◌&&◌, ◌||◌, ◌++◌, ◌+◌, not, ℕ, Bool, true, false, cond, filter, if◌then◌else◌, List, []}
use Words.{◌∷◌, length}
use Words.{Option, Some, None, refl, sym, ap, subst, arith, and_parts, append_assoc, list_all, list_any, nat_le, nat_tests, option_map}
use Words.{eqb-true}
use Words.{eq-eqb, uid_eq, uid_is, uid_same, entry, mode_code, is_row_of, last_uid, grant_row, is_granted, row_for, top_path, tops_of}
use Words.{AllByRecursion}
use Words.{Ask, Binding, Body, BoundReply, Entry, Event, Head, Header, Line, Message, Mode, ObjectState, Path, Row, Start, Uid, asks}
use Words.{asked_by}
use Words.{response, Reply, Disk, Do, Effect, Say, Send, Served, void, Counted, Named, bind_named, bound_new, lock_lines, next_server}
use Words.{held_at}
use Words.{Naming, is_over, listed_entry, on_counted, at_number, Handled, Parts, Took, Void, handle, handle_ask, if_naming, is_meant}
use Words.{sends_answer}
use Words.{served, with_naming, AreAll, is_coord_effect, is_coord_line, acts as does, acts_own, again_all, again_own, all_both}
use Words.{begin_action}
use Words.{holders, map, map_own, numbered, parent_of, query_about, restart_outs, tick_outs, tolds_again, tolds_again_own, Seen, World}
use Words.{entry_back}
use Words.{state_entry, is_some, ObjectLine, Pair}
use Words.ask
use Words.body
use Words.input
use Words.mode
use Words.naming
use Words.part
use Rattle.arj_law_parts.proofs.moves.Happens.{Wide, wide_kept}
use Rattle.arj_law_parts.proofs.parts.LivesNamed.{keyed_found}
use Rattle.arj_law_parts.specs.moves.Keeps.{IsAtStarts}
use Rattle.arj_law_parts.specs.moves.Moments as moments
use Rattle.arj_law_parts.specs.moves.Moments.{MayTake, Moment, up}
use Rattle.arj_law_parts.specs.moves.Seen.{is_quiet_line}
use Rattle.arj_law_parts.specs.moves.With.{KeepsAll}
use Rattle.arj_law_runs.proofs.addresses.Runs.{kept}
use Rattle.arj_law_runs.proofs.kept.Walked.{same_number}
use Rattle.arj_law_runs.specs.addresses.Addresses.{AreAddressed, HasEntry, IsNode, NamedOf, NamesOf, NamingOf}
use Rattle.arj_law_runs.specs.follow.Frames.{run_events}
use Rattle.arj_law_serial.proofs.Terms
use Terms.{AreSo, acts, holders_in, kind_of, named_locks, rows_on, up_of}
use Rattle.arj_law_serial.proofs.holding.{Events.IsShown, Lines.own_line}
use Rattle.arj_law_serial.proofs.holding.Running.{Showing}
use Rattle.arj_law_serial.proofs.holding.Says as saying
use Rattle.arj_law_serial.proofs.joint.FormRuns.{kept_forms}
use Rattle.arj_model.specs.CauseCopies.{same_binding}
use Rattle.arj_model.specs.CauseLocks.{bound_caused, bound_last, first_of, in_turn, is_restart, next_of}
use Rattle.arj_model.specs.CauseSpans.{Here, same_mode}
use Rattle.arj_model.specs.Caused.{has_cause}
use Rattle.arj_model.specs.Follows.{Runs}
use Rattle.arj_model.specs.Last.{object_line, servers_of_line}
use Rattle.arj_model.specs.Past.{Past, at_start}
use Rattle.arj_model.specs.Refusals.{incarnation}
use Rattle.arj_model.specs.Table.{table}
use Rattle.arj_promise.specs.Runs.{HeaderFits, journal_by}
use Rattle.arj_protocol.specs.Named.{first_server, server_behind}
use Rattle.arj_law_cause.proofs.bindings.Binding.{bind_shape}
use Rattle.arj_law_cause.proofs.bindings.Counted.{IsCounted, KnowsNames, is_free, is_unbound, message_free, names_keep, restart_unbound}
use Rattle.arj_law_cause.proofs.bindings.Every.{Each, each_keep, keeps_both, knows_with}
use Rattle.arj_law_cause.proofs.bindings.Lines.{made}
use Rattle.arj_law_cause.proofs.bindings.Nodes.{is_plain}
use Rattle.arj_law_cause.proofs.bindings.Tabled.{table_now as table_within}
use Rattle.arj_law_cause.proofs.kinds.Anew.{IsAnew}
use Rattle.arj_law_cause.proofs.kinds.Ended.{Known, known_all}
use Rattle.arj_law_cause.proofs.kinds.Lines.{tested_row}
use Rattle.arj_law_cause.proofs.kinds.Nodes.{wide_all}
use Rattle.arj_law_cause.proofs.kinds.Running.{row_run}
use Rattle.arj_law_cause.proofs.kinds.Served.{fewer_along, restart_is, shown_knows}
use Rattle.arj_law_cause.proofs.kinds.Walks as walks
use Rattle.arj_law_cause.specs.kinds.Kinds.{is_bound}
use Rattle.arj_law_cause.specs.kinds.Rows.{RowHolds, TestedStep, tested}

some_is : {A : Type 0} {a b : A} → Some a ≡ Some b → a ≡ b
some_is {A} {a} {b} is = let k : ◌≡◌ {A = Option A} (Some a) (Some b) = is in cc

-- ---- lines

-- a new binding, and a line by which a node starts anew
abbrev of : Body → Bool
of (body.Bound x b s) = true
of (body.Up n i) = true
of b = false

abbrev passes : Here → Body → Bool
passes h (body.Bound x b s) = bound_caused h x b s
passes h (body.Up n i) = is_restart h.event
passes h b = true

quiet : (b : Body) → is_quiet_line b ≡ true → of b ≡ false
quiet (body.Bound x b s) is = absurd (cc is)
quiet (body.Up n i) is = absurd (cc is)
quiet b is = refl

no_halt : (k : ℕ) → of (body.Halted k) ≡ false
no_halt k = refl

abbrev is_other : Body → Bool
is_other b = not (of b)

free_other : (b : Body) → is_free b ≡ true → is_other b ≡ true
free_other (body.Bound x c s) is = absurd (cc is)
free_other (body.Up n i) is = absurd (cc is)
free_other b is = refl

coord_other : (b : Body) → is_coord_line b ≡ true → is_other b ≡ true
coord_other (body.Bound x c s) is = absurd (cc is)
coord_other (body.Up n i) is = absurd (cc is)
coord_other b is = refl

ups : (h : Here) (n i : ℕ) → tested passes (λ g. of) h (body.Up n i) ≡ true → is_restart h.event ≡ true
ups h n i is = is

-- ---- whose turn it is

turn_behind : (n : ℕ) (all ss : List ℕ) → server_behind n all ss ≡ next_of (first_of all) n ss
turn_behind n all [] = first all
  where
    first : (ss : List ℕ) → first_server ss ≡ first_of ss
    first [] = refl
    first (s ∷ ss) = refl
turn_behind n all (s ∷ []) = first all
  where
    first : (ss : List ℕ) → first_server ss ≡ first_of ss
    first [] = refl
    first (s ∷ ss) = refl
turn_behind n all (s ∷ u ∷ ss) = λ i. cond (s == n) u (turn_behind n all (u ∷ ss) i)

turn_is : (o : Option ℕ) (ss : List ℕ) → next_server o ss ≡ in_turn ss o
turn_is None [] = refl
turn_is None (s ∷ ss) = refl
turn_is (Some n) ss = turn_behind n ss ss

-- ---- the write lock

module _ (o : Uid) where
  abbrev is_write : Row → Bool
  is_write r = uid_eq r.object o && same_mode r.mode mode.Write

  any_on : (rows : List Row) → list_any is_write rows ≡ list_any is_write (rows_on o rows)
  any_on [] = refl
  any_on (r ∷ rs) = by (uid_eq r.object o) refl (any_on rs)
    where
      by : (b : Bool) → uid_eq r.object o ≡ b → list_any is_write rs ≡ list_any is_write (rows_on o rs) →
          (is_write r || list_any is_write rs) ≡ list_any is_write (cond b (r ∷ rows_on o rs) (rows_on o rs))
      by true is ih = λ i. is_write r || ih i
      by false off ih = (λ i. (off i && same_mode r.mode mode.Write) || list_any is_write rs) ∙ ih

  strong : (m : Mode) → nat_le 2 (mode_code m) ≡ true → same_mode m mode.Write ≡ true
  strong mode.Read is = absurd (cc is)
  strong mode.Exclude is = absurd (cc is)
  strong mode.Write is = refl

  or_more : (a : Bool) {b : Bool} → b ≡ true → (a || b) ≡ true
  or_more true is = refl
  or_more false is = is

  granted_write : (act : Uid) (rows : List Row) → list_any (λ r. is_row_of o act r && nat_le 2 (mode_code r.mode)) rows ≡ true →
      list_any is_write rows ≡ true
  granted_write act [] is = absurd (cc is)
  granted_write act (r ∷ rs) is = by (is_row_of o act r && nat_le 2 (mode_code r.mode)) refl is (granted_write act rs)
    where
      by : (b : Bool) → (is_row_of o act r && nat_le 2 (mode_code r.mode)) ≡ b →
          (b || list_any (λ r. is_row_of o act r && nat_le 2 (mode_code r.mode)) rs) ≡ true →
          (list_any (λ r. is_row_of o act r && nat_le 2 (mode_code r.mode)) rs ≡ true → list_any is_write rs ≡ true) →
          (is_write r || list_any is_write rs) ≡ true
      by true on is ih =
          let p = and_parts (is_row_of o act r) (nat_le 2 (mode_code r.mode)) on in
          let q = and_parts (uid_eq r.object o) (uid_eq (last_uid r.holder) act) p.0 in
          λ i. (q.0 i && strong r.mode p.1 i) || list_any is_write rs
      by false off is ih = or_more (is_write r) (ih is)

  raised_write : (us : List Uid) (n : ℕ) (rows : List Row) → list_any is_write (grant_row (row_for o us n mode.Write) rows) ≡ true
  raised_write us n [] = λ i. (uid_same o i && true) || false
  raised_write us n (r ∷ rs) = by (is_row_of o (last_uid us) r) refl (raised_write us n rs)
    where
      stronger_write : (m : Mode) → same_mode (Rattle.arj_base.specs.Mode.stronger m mode.Write) mode.Write ≡ true
      stronger_write mode.Read = refl
      stronger_write mode.Exclude = refl
      stronger_write mode.Write = refl

      by : (b : Bool) → is_row_of o (last_uid us) r ≡ b → list_any is_write (grant_row (row_for o us n mode.Write) rs) ≡ true →
          list_any is_write (cond b (record r { mode = Rattle.arj_base.specs.Mode.stronger r.mode mode.Write } ∷ rs)
          (r ∷ grant_row (row_for o us n mode.Write) rs)) ≡ true
      by true on ih = λ i. ((and_parts (uid_eq r.object o) (uid_eq (last_uid r.holder) (last_uid us)) on).0 i && stronger_write r.mode i)
          || list_any is_write rs
      by false off ih = or_more (is_write r) ih

-- ---- what is known

-- of naming, by the journal; of each object's entry; and that naming has an entry of each of its objects
abbrev pub Extra : Header → Moment → Type 0
Extra hd M = Wide KnowsNames M × (Wide (Each (λ x. AreSo (kind_of hd x))) M × Wide (AreAddressed hd) M)

pub extra_keep : (hd : Header) → HeaderFits hd → KeepsAll hd (Extra hd)
extra_keep hd form =
    let forms = Each (λ x. AreSo (kind_of hd x)) in
    let w = wide_kept hd (IsAtStarts hd (AreAddressed hd)) (AreAddressed hd) (kept hd form) in
    keeps_both hd (Wide KnowsNames) (λ M. Wide forms M × Wide (AreAddressed hd) M) (wide_all hd KnowsNames (names_keep hd))
    (keeps_both hd (Wide forms) (Wide (AreAddressed hd))
    (wide_all hd forms (each_keep (λ x. AreSo (kind_of hd x)) hd (λ x. kept_forms hd x form)))
    (record { opens = w.opens; closes = w.closes; steps = w.steps; first = λ st formed. ([], (λ p i. i), w.first st formed) }))

-- ---- an event

module _ (hd : Header) (st : Start) (q : Past) (e : Event) (w : World) (shown : IsShown hd w) (lines_are : q.lines ≡ w.lines)
    (count_is : q.count ≡ w.event) where
  abbrev Number : ℕ
  Number = w.event + 1

  abbrev InIt : Moment → Type 0
  InIt M = (Known hd M × (Wide (Showing hd (length w.lines) Number) M × IsAnew Number M)) × Extra hd M

  abbrev Inside : Moment → Type 0
  Inside = walks.Inside passes hd of quiet no_halt st q e

  abbrev Well : List Effect → List Line → Type 0
  Well es ls = walks.Well passes hd of quiet no_halt st q e es ls

  abbrev at : List Line → Here
  at ls = walks.here_behind passes hd of quiet no_halt st q e ls

  others_well : (es : List Effect) (ls : List Line) → saying.All is_other es → Well es ls
  others_well es ls all = walks.each_well passes hd of quiet no_halt st q e is_other (λ ms b is. λ i. is i || passes (at ms) b) es ls all

  free_others : (es : List Effect) → saying.All is_free es → saying.All is_other es
  free_others [] all = refl
  free_others (Say b ∷ es) all = let p = and_parts (is_free b) (list_all (saying.says is_free) es) all in
      λ i. free_other b p.0 i && free_others es p.1 i
  free_others (Send to m ∷ es) all = free_others es all
  free_others (Do x ∷ es) all = free_others es all

  coord_others : (es : List Effect) → AreAll is_coord_effect es → saying.All is_other es
  coord_others = saying.kind_says is_other is_coord_effect is_coord_line (λ b. refl) coord_other

  -- ---- a Bind

  module _ (t : Parts) (d : Disk) (n : Naming) (x : ℕ) (p : Path) (named : Named) (servers_are : (listed_entry x d.names).servers ≡
      servers_of_line (object_line hd x)) (there : at_number x n.objects ≡ Some named) (ls : List Line) (counted : IsCounted 1 n st ls)
      (table_is : rows_on (entry x) (table 1 ls) ≡ named.rows) (h : Head) (r : Reply) (from : ℕ) where
    abbrev s : ℕ
    s = next_server named.turn (listed_entry x d.names).servers

    abbrev b : Binding
    b = record { inc = n.inc; count = n.count + 1 }

    abbrev last : List Effect
    last = Send from (response (asked_by h) r) ∷ []

    line_passes : (ms : List Line) → IsCounted 1 n st ms → list_any (is_write (entry x)) (table 1 ms) ≡ true →
        bound_caused (at ms) x b s ≡ true
    line_passes ms c lock = λ i. binding_so i && (server_so i && lock i)
      where
        next : b ≡ record { inc = incarnation st ms 1; count = length (made ms) + 1 }
        next = λ i. record { inc = c.inc i; count = c.count i + 1 }

        binding_so : same_binding b (record { inc = incarnation st ms 1; count = length (made ms) + 1 }) ≡ true
        binding_so = ap (same_binding b) (sym next) ∙ (λ i. same_number b.inc i && same_number b.count i)

        turn : named.turn ≡ bound_last x None (made ms)
        turn = ap Rattle.arj_law_cause.proofs.bindings.Staying.turn_in (sym there) ∙ c.turns x

        server_so : (s == in_turn (servers_of_line (object_line hd x)) (bound_last x None (made ms))) ≡ true
        server_so = eq-eqb s (in_turn (servers_of_line (object_line hd x)) (bound_last x None (made ms)))
            (turn_is named.turn (listed_entry x d.names).servers ∙ (λ i. in_turn (servers_are i) (turn i)))

    new_well : Well ((lock_lines x p mode.Write named ++ Say (body.Bound x b s) ∷ []) ++ last) ls
    new_well = by (is_granted (entry x) (last_uid (top_path p)) mode.Write named.rows) refl
      where
        granted : Body
        granted = body.Granted 1 (last_uid (top_path p)) (entry x) mode.Write

        by : (g : Bool) → is_granted (entry x) (last_uid (top_path p)) mode.Write named.rows ≡ g →
            Well ((cond g [] (Say granted ∷ []) ++ Say (body.Bound x b s) ∷ []) ++ last) ls
        by true on = (
          line_passes ls counted (any_on (entry x) (table 1 ls) ∙ ap (list_any (is_write (entry x))) table_is
              ∙ granted_write (entry x) (last_uid (top_path p)) named.rows on),
          λ more are. tt,
        )
        by false off = (refl, (line_passes ms more_counted write, λ more are. tt))
          where
            ms : List Line
            ms = ls ++ numbered (q.count + 1) (granted ∷ [])

            more_counted : IsCounted 1 n st ms
            more_counted = Rattle.arj_law_cause.proofs.bindings.Counted.counted_keeps 1 (with_naming t n) st ls (q.count + 1) granted refl
                (λ o is. subst (λ z. IsCounted 1 z st ls) (some_is is) counted) n refl

            hs : Words.Holders
            hs = holders_in (q.count + 1 == up_of 1 ls) (acts ls)

            write : list_any (is_write (entry x)) (table 1 ms) ≡ true
            write = any_on (entry x) (table 1 ms)
                ∙ ap (list_any (is_write (entry x))) (own_line 1 part.Naming (entry x) refl (q.count + 1) granted ls
                ∙ (λ i. cond (uid_same (entry x) i) (grant_row (row_for (entry x) (hs.path (last_uid (top_path p)))
                (hs.tops (last_uid (top_path p))) mode.Write) (table_is i)) (table_is i)))
                ∙ raised_write (entry x) (hs.path (last_uid (top_path p))) (hs.tops (last_uid (top_path p))) named.rows

  -- ---- a message, in an event that is no restart

  module _ (k : ℕ) (d : Disk) (t : Parts) (M : Moment) (known : InIt (up k d t M)) (h : Inside M) (off : is_restart e ≡ false) where
    table_now : (k == 1) ≡ true → (x : ℕ) → rows_on (entry x) (table k M.seen.lines) ≡ named_locks x t.naming
    table_now = table_within passes of quiet no_halt ups hd st q e w shown lines_are count_is off k d t M known.0.1.0 h

    mine : Seen → Type 0
    mine S = S.nodes k ≡ Some (record { number = k; disk = d; live = Some t })

    its_place : (let N = up k d t M in N.seen.nodes k) ≡ Some (record { number = k; disk = d; live = Some t })
    its_place = λ i. if same_number k i then Some (record { number = k; disk = d; live = Some t }) else M.seen.nodes k

    names : (o : Naming) → t.naming ≡ Some o → IsCounted k o M.seen.start M.seen.lines
    names = (let z = known.1.0.2.1 in z.1 k (record { number = k; disk = d; live = Some t }) t its_place refl)

    -- the entry of an object that naming has lists the header's servers
    servers_now : (o : Naming) (x : ℕ) (f : Named) → t.naming ≡ Some o → at_number x o.objects ≡ Some f →
        (listed_entry x d.names).servers ≡ servers_of_line (object_line hd x)
    servers_now o x f has there = by (held_at (entry x) d.names) refl
      where
        all : NamesOf (IsNode hd) d.names t.naming
        all = let a = known.1.1.1.2.1.0 k (record { number = k; disk = d; live = Some t }) its_place in (let m = a.2 in m.naming)

        entries : NamingOf (IsNode hd) d.names o
        entries = subst (NamesOf (IsNode hd) d.names) has all

        has_entry : HasEntry d.names x
        has_entry = (keyed_found (λ y (z : Named). HasEntry d.names y × NamedOf (IsNode hd) z) x o.objects f entries there).0

        by : (s : Option ObjectState) → held_at (entry x) d.names ≡ s →
            (listed_entry x d.names).servers ≡ servers_of_line (object_line hd x)
        by None none = let no_way : false ≡ true = sym (ap is_some none) ∙ has_entry in absurd (cc no_way)
        by (Some s) is =
            let forms = known.1.1.0.2 x in
            let node = forms.0 k (record { number = k; disk = d; live = Some t }) its_place in
            let disk = node.0 in
            let its = (let n = disk.names in n.held (entry x) s is).0 refl in
            ap (λ (o : Option ObjectState). (let en = Rattle.arj_protocol.specs.Naming.entry_of o in en.servers)) is
            ∙ ap (λ bytes. (state_entry (record s { payload = bytes })).servers) its.1
            ∙ ap (λ (f : Entry). f.servers) (entry_back (record {
              servers = servers_of_line (object_line hd x);
              stores =
                  (state_entry s).stores;
            }))

    bind_well : (from : ℕ) (hh : Head) (x : ℕ) (include : Bool) (avoid : Binding) (o : Naming) → t.naming ≡ Some o → (rep : Reply) →
        Well ((naming.bind hh.path x include avoid d.names o).outs ++ Send from (response (asked_by hh) rep) ∷ []) M.seen.lines
    bind_well from hh x include avoid o has rep = by (is_over hh.path o)
      where
        c : IsCounted k o M.seen.start M.seen.lines
        c = names o has

        one : (k == 1) ≡ true
        one = eq-eqb k 1 c.first

        counted : IsCounted 1 o st M.seen.lines
        counted = subst (λ z. IsCounted 1 o z M.seen.lines) h.start (subst (λ z. IsCounted z o M.seen.start M.seen.lines) c.first c)

        table_one : rows_on (entry x) (table 1 M.seen.lines) ≡ named_locks x t.naming
        table_one = subst (λ z. rows_on (entry x) (table z M.seen.lines) ≡ named_locks x t.naming) c.first (table_now one x)

        Outs : Served Naming BoundReply → Type 0
        Outs r = Well (r.outs ++ Send from (response (asked_by hh) rep) ∷ []) M.seen.lines

        found : (f : Option Named) → at_number x o.objects ≡ f →
            Outs (on_counted x (bind_named o.inc x hh.path include avoid (listed_entry x d.names)) o f)
        found None there = λ more are. tt
        found (Some f) there = ⊎_elim
            {C = Outs (on_counted x (bind_named o.inc x hh.path include avoid (listed_entry x d.names)) o (Some f))}
            (λ light. let outs = (bind_named o.inc x hh.path include avoid (listed_entry x d.names)
            (record { named = f; count = o.count })).outs in
            others_well (outs ++ Send from (response (asked_by hh) rep) ∷ []) M.seen.lines (all_both (saying.says is_other) outs
            (Send from (response (asked_by hh) rep) ∷ []) (plain_others outs light.plain) refl))
            (λ same. subst (λ (z : Served Counted BoundReply). Well (z.outs ++ Send from (response (asked_by hh) rep) ∷ []) M.seen.lines)
            (sym same)
            (new_well t d o x hh.path f (servers_now o x f has there) there M.seen.lines counted
            (table_one ∙ ap (named_locks x) has ∙ ap Words.rows_in_named there) hh rep from))
            (bind_shape o.inc x hh.path (listed_entry x d.names) (record { named = f; count = o.count }) include avoid)
          where
            plain_others : (es : List Effect) → saying.All is_plain es → saying.All is_other es
            plain_others [] all = refl
            plain_others (Say b ∷ es) all = let p = and_parts (is_plain b) (list_all (saying.says is_plain) es) all in
                λ i. plain_other b p.0 i && plain_others es p.1 i
              where
                plain_other : (b : Body) → is_plain b ≡ true → is_other b ≡ true
                plain_other (body.Bound x c s) is = absurd (cc is)
                plain_other (body.Up n i) is = absurd (cc is)
                plain_other b is = refl
            plain_others (Send to m ∷ es) all = plain_others es all
            plain_others (Do x ∷ es) all = plain_others es all

        by : (b : Bool) → Outs (cond {A = Served Naming BoundReply} b (void o)
            (on_counted x (bind_named o.inc x hh.path include avoid (listed_entry x d.names)) o (at_number x o.objects)))
        by true = λ more are. tt
        by false = found (at_number x o.objects) refl

    message_well : (v : Parts) (from : ℕ) (m : Message) (outs : List Effect) → is_meant t m ≡ true → handle k d t from m ≡ Took v outs →
        Well outs M.seen.lines
    message_well v from m outs meant is = asked (asks m) refl
      where
        others : (o : Option (Head × Ask)) → asks m ≡ o → Rattle.arj_law_runs.proofs.bindings.Weights.bind_by o ≡ 0 → Well outs M.seen.lines
        others o at none = others_well outs M.seen.lines (free_others outs (message_free k d t v from m outs meant is o at none))

        asked : (o : Option (Head × Ask)) → asks m ≡ o → Well outs M.seen.lines
        asked (Some (hh, ask.Bind x include avoid)) at = named t.naming refl (sym (ap (handle_ask k d t from m) at) ∙ is)
          where
            named : (o : Option Naming) → t.naming ≡ o →
                if_naming (λ n. served from hh (with_naming t) Reply.Bound (naming.bind hh.path x include avoid d.names n))
                o ≡ Took v outs →
                Well outs M.seen.lines
            named None there same = let no_way : Void [] ≡ Took v outs = same in absurd (cc no_way)
            named (Some n) there same = by (naming.bind hh.path x include avoid d.names n).reply same
              where
                by : (r : Option BoundReply) → sends_answer from hh (with_naming t (naming.bind hh.path x include avoid d.names n).part)
                    (naming.bind hh.path x include avoid d.names n).outs (option_map Reply.Bound r) ≡ Took v outs → Well outs M.seen.lines
                by None same = let no_way : Void [] ≡ Took v outs = same in absurd (cc no_way)
                by (Some r) same = subst (λ z. Well (saying.outs_of z) M.seen.lines) same
                    (bind_well from hh x include avoid n there (Reply.Bound r))
        asked None at = others None at refl
        asked (Some (hh, ask.Load x)) at = others (Some (hh, ask.Load x)) at refl
        asked (Some (hh, ask.Activate b s)) at = others (Some (hh, ask.Activate b s)) at refl
        asked (Some (hh, ask.Record x b i g)) at = others (Some (hh, ask.Record x b i g)) at refl
        asked (Some (hh, ask.Invoke x b i es o)) at = others (Some (hh, ask.Invoke x b i es o)) at refl
        asked (Some (hh, ask.Vote i ties es)) at = others (Some (hh, ask.Vote i ties es)) at refl
        asked (Some (hh, ask.Prepare states)) at = others (Some (hh, ask.Prepare states)) at refl
        asked (Some (hh, ask.Confirm g x i)) at = others (Some (hh, ask.Confirm g x i)) at refl

  well : walks.SaysWell passes hd of quiet no_halt st q e InIt
  well = record {
    message = λ k d t v from m outs M known h there meant may is. by (is_restart e) refl k d t v from m outs M known h meant may is;
    act = λ k d t i M is brings fresh asks free known h. others_well (does i d.intents t.coord).outs M.seen.lines
        (coord_others (does i d.intents t.coord).outs (acts_own i d.intents t.coord));
    begin = λ k d t l how parent M brings fresh new gives none known h.
        let did = begin_action l how parent (parent_of parent t.coord) t.coord in
        others_well did.outs M.seen.lines (coord_others did.outs (acts_own (input.Begin l how parent) d.intents t.coord));
    tick = λ k d t M known h.
        let r = again_all t.coord.doings t.coord in
        others_well (tick_outs (record { number = k; disk = d; live = Some t }) t) M.seen.lines
        (all_both (saying.says is_other) (r.outs ++ tolds_again t.coord.telling) (map query_about (holders d t))
        (all_both (saying.says is_other) r.outs (tolds_again t.coord.telling) (coord_others r.outs (again_own t.coord.doings t.coord))
        (coord_others (tolds_again t.coord.telling) (tolds_again_own t.coord.telling)))
        (saying.map_says is_other query_about (holders d t) (λ u. refl)));
    restart = λ k d M its fresh known h.
        let restarts : is_restart e ≡ true = ap is_restart (sym h.event ∙ its) in
        walks.each_well passes hd of quiet no_halt st q e is_unbound (λ ms b is. in_restart restarts ms b is)
        (restart_outs hd k (d.inc + 1) d)
        M.seen.lines (restart_unbound hd k d);
  }
    where
      in_restart : is_restart e ≡ true → (ms : List Line) (b : Body) → is_unbound b ≡ true → tested passes (λ g. of) (at ms) b ≡ true
      in_restart restarts ms (body.Bound x c s) is = absurd (cc is)
      in_restart restarts ms (body.Up n i) is = restarts
      in_restart restarts ms b is = refl

      by : (b : Bool) → is_restart e ≡ b → (k : ℕ) (d : Disk) (t v : Parts) (from : ℕ) (m : Message) (outs : List Effect) (M : Moment) →
          InIt (up k d t M) → Inside M → is_meant t m ≡ true → MayTake M.past.event m →
          handle k d t from m ≡ Took v outs → Well outs M.seen.lines
      by true on k d t v from m outs M known h meant may is =
          let none = (may (ap moments.is_restart h.event ∙ restart_is e on)).0 in
          others_well outs M.seen.lines (free_others outs (message_free k d t v from m outs meant is Words.None none refl))
      by false off k d t v from m outs M known h meant may is = message_well k d t M known h off v from m outs meant is

-- ---- runs

its_of : (b : Body) → is_bound b ≡ true → of b ≡ true
its_of (body.Bound x c s) is = refl
its_of b is = absurd (cc is)

to_cause : (h : Here) (b : Body) → is_bound b ≡ true → ⊤ → passes h b ≡ true → has_cause h b ≡ true
to_cause h (body.Bound x c s) its known is = is
to_cause h b its known is = absurd (cc its)

pub bound_row : RowHolds is_bound
bound_row hd r form =
    let lines = journal_by hd r in
    let extra = extra_keep hd form.header in
    let G : Moment → Type 0 = λ M. Known hd M × Extra hd M in
    let runs : Runs (TestedStep passes (λ h. of) hd) r.start (run_events hd r) lines =
    row_run passes of quiet no_halt hd G (keeps_both hd (Known hd) (Extra hd) (known_all hd) extra)
    (knows_with hd (Known hd) (Extra hd) extra (shown_knows hd))
    (λ st q e w between lines count. well hd st q e w between lines count) r form in
    tested_row (λ ls b. ⊤) is_bound passes has_cause to_cause lines (λ before line behind is. tt) hd r.start (run_events hd r) (
      runs.0,
      runs.1,
      fewer_along passes of is_bound its_of hd (run_events hd r) (at_start r.start) runs.0 runs.2,
      runs.3,
      runs.4,
    )
