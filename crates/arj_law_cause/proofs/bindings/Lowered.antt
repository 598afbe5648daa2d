-- The row of locks that are lowered: naming lowers the write lock of a top that has it, where a copy became active under a binding of
-- naming's
-- present incarnation.
use Rattle.arj_law_parts.proofs.Words
use Words.{◌≡◌, ◌≤◌, ◌<◌, ◌∙◌, ◌+◌, ◌*◌, ◌==◌, ◌++◌, ◌&&◌, ◌||◌, not, ℕ, Bool, true, false, cond, List, [], ◌∷◌, length, Option, Some}
use Words.{None, refl}
use Words.{sym, ap, subst, inl, inr, ⊤, ⊎_elim, arith, nat_le, nat_lt, nat_tests, list_all, list_any, and_parts, eqb-true, eq-eqb, map}
use Words.{AllByRecursion}
use Words.{Ask, Binding, Body, Event, Head, Header, Line, Message, Start, Reply, RecordedReply, Uid, asks, asked_by, response, entry}
use Words.{top_of, uid_eq}
use Words.{last_uid, mode_code, is_row_of, Row, Disk, Do, Effect, Say, Send, Served, void, reply, option_map, is_some, is_on, is_binding}
use Words.{Handled, Parts, Took, Void, handle, handle_ask, holders, if_naming, is_meant, query_about, sends_answer, with_naming}
use Words.{acts as does}
use Words.{acts_own, again_all, again_own, all_both, AreAll, is_coord_effect, is_coord_line, begin_action, parent_of, tick_outs}
use Words.{tolds_again}
use Words.{tolds_again_own, restart_outs, binding_eq, binding_number, In, numbered, Naming, Named, Made, at_number, at_uid, is_over}
use Words.{on_named, note_named}
use Words.{note_other, note_made, is_lowered, lowered, lower_lines, in_use, World, Seen}
use Words.ask
use Words.body
use Words.event
use Words.input
use Words.mode
use Words.naming
use Words.recorded
use Words.what
use Rattle.arj_law_parts.proofs.moves.Happens.{Wide}
use Rattle.arj_law_parts.proofs.parts.LivesNamed.{keyed_found}
use Rattle.arj_law_parts.proofs.steps.Still.{Still, is_still, says_still, taken_good}
use Rattle.arj_law_parts.specs.moves.Moments as moments
use Rattle.arj_law_parts.specs.moves.Moments.{MayTake, Moment, up}
use Rattle.arj_law_parts.specs.moves.Seen.{is_quiet_line}
use Rattle.arj_law_runs.proofs.kept.Walked.{same_number}
use Rattle.arj_law_runs.specs.calls.Bindings.{HasFewBindings, bindings_made}
use Rattle.arj_law_runs.specs.follow.Frames.{run_events}
use Rattle.arj_law_serial.proofs.Terms
use Terms.{named_locks, rows_on}
use Rattle.arj_law_serial.proofs.holding.{Events.IsShown}
use Rattle.arj_law_serial.proofs.holding.Running.{Showing}
use Rattle.arj_law_serial.proofs.holding.Says as saying
use Rattle.arj_model.specs.Actions.{Act, Placed, acts_after, put, read}
use Rattle.arj_model.specs.CauseAnswers.{has_lock}
use Rattle.arj_model.specs.CauseCopies.{Activation, activation_of, activations}
use Rattle.arj_model.specs.CauseLocks.{is_restart, lowered_caused}
use Rattle.arj_model.specs.CauseSpans.{Here}
use Rattle.arj_model.specs.Caused.{has_cause}
use Rattle.arj_model.specs.Follows.{Runs}
use Rattle.arj_model.specs.Past.{Past, at_start}
use Rattle.arj_model.specs.Refusals.{incarnation}
use Rattle.arj_model.specs.Table.{table}
use Rattle.arj_promise.specs.Runs.{journal_by}
use Rattle.arj_protocol.specs.Named.{is_write_row}
use Rattle.arj_law_cause.proofs.bindings.Active.{few_before, few_low, is_few}
use Rattle.arj_law_cause.proofs.bindings.Asking.{AskedSo}
use Rattle.arj_law_cause.proofs.bindings.Copies.{active_by}
use Rattle.arj_law_cause.proofs.bindings.Counted.{IsCounted, IsGiven, lined_in}
use Rattle.arj_law_cause.proofs.bindings.Every.{knows_with, keeps_both}
use Rattle.arj_law_cause.proofs.bindings.Lines.{IsLined}
use Rattle.arj_law_cause.proofs.bindings.Since.{met_in}
use Rattle.arj_law_cause.proofs.bindings.Lowering.{is_calm, is_record, message_calm, CalmBy, Calm}
use Rattle.arj_law_cause.proofs.bindings.Named.{IsNamedSo, made_found}
use Rattle.arj_law_cause.proofs.bindings.Said.{KnowsBindings, bindings_keep}
use Rattle.arj_law_cause.proofs.bindings.Tabled as tabled
use Rattle.arj_law_cause.proofs.kinds.Anew.{IsAnew}
use Rattle.arj_law_cause.proofs.kinds.Ended.{Known, known_all}
use Rattle.arj_law_cause.proofs.kinds.Lines.{tested_row}
use Rattle.arj_law_cause.proofs.kinds.Nodes.{wide_all}
use Rattle.arj_law_cause.proofs.kinds.Running.{row_run}
use Rattle.arj_law_cause.proofs.kinds.Served.{fewer_along, restart_is, shown_knows}
use Rattle.arj_law_cause.proofs.kinds.Walks as walks
use Rattle.arj_law_cause.specs.kinds.Kinds.{is_lock_lowered}
use Rattle.arj_law_cause.specs.kinds.Rows.{RowHolds, TestedStep, tested}

-- ---- lines

-- a lock that is lowered, and a line by which a node starts anew
abbrev of : Body → Bool
of (body.Lowered n u o) = true
of (body.Up n i) = true
of b = false

abbrev passes : Here → Body → Bool
passes h (body.Lowered n u o) = not (is_few h.lines) || lowered_caused h n u o
passes h (body.Up n i) = is_restart h.event
passes h b = true

quiet : (b : Body) → is_quiet_line b ≡ true → of b ≡ false
quiet (body.Lowered n u o) is = absurd (cc is)
quiet (body.Up n i) is = absurd (cc is)
quiet b is = refl

no_halt : (k : ℕ) → of (body.Halted k) ≡ false
no_halt k = refl

abbrev is_other : Body → Bool
is_other b = not (of b)

ups : (h : Here) (n i : ℕ) → tested passes (λ g. of) h (body.Up n i) ≡ true → is_restart h.event ≡ true
ups h n i is = is

coord_other : (b : Body) → is_coord_line b ≡ true → is_other b ≡ true
coord_other (body.Lowered n u o) is = absurd (cc is)
coord_other (body.Up n i) is = absurd (cc is)
coord_other b is = refl

-- ---- a copy that stands in the journal

module _ (x i : ℕ) where
  abbrev is_it : Placed Activation → Bool
  is_it a = (a.it.x == x) && (a.it.binding.inc == i)

  or_more : (a : Bool) {c : Bool} → c ≡ true → (a || c) ≡ true
  or_more true is = refl
  or_more false is = is

  in_put : (n : ℕ) (o : Option Activation) (ms : List (Placed Activation)) → list_any is_it ms ≡ true → list_any is_it (put n o ms) ≡ true
  in_put n None ms is = is
  in_put n (Some m) ms is = or_more (is_it (record { at = n; it = m })) is

  active_from : (s : ℕ) (c : Binding) → c.inc ≡ i → (xs : List Act) (n : ℕ) (ls : List Line) (e : ℕ) →
      In (record { event = e; body = body.Active s x c }) ls → list_any is_it (read activation_of xs n ls) ≡ true
  active_from s c same xs n [] e there = absurd there
  active_from s c same xs n (l ∷ ls) e (inl is) =
      (λ j. list_any is_it (put n (activation_of xs (let z = is j in z.body)) (read activation_of (acts_after xs l.body) (n + 1) ls)))
      ∙ (λ j. ((same_number x j) && (ap (λ z. z == i) same ∙ same_number i) j)
      || list_any is_it (read activation_of (acts_after xs l.body) (n + 1) ls))
  active_from s c same xs n (l ∷ ls) e (inr there) =
      in_put n (activation_of xs l.body) (read activation_of (acts_after xs l.body) (n + 1) ls)
      (active_from s c same (acts_after xs l.body) (n + 1) ls e there)

-- ---- the write lock

module _ (o act : Uid) where
  write_on : (rows : List Row) → list_any (is_write_row o act) rows ≡ list_any (is_write_row o act) (rows_on o rows)
  write_on [] = refl
  write_on (r ∷ rs) = by (uid_eq r.object o) refl (write_on rs)
    where
      by : (b : Bool) → uid_eq r.object o ≡ b → list_any (is_write_row o act) rs ≡ list_any (is_write_row o act) (rows_on o rs) →
          (is_write_row o act r || list_any (is_write_row o act) rs) ≡ list_any (is_write_row o act)
          (cond b (r ∷ rows_on o rs) (rows_on o rs))
      by true is ih = λ i. is_write_row o act r || ih i
      by false off ih = (λ i. ((off i && uid_eq (last_uid r.holder) act) && nat_le 2 (mode_code r.mode)) || list_any (is_write_row o act)
          rs) ∙ ih

-- ---- bindings of one number

-- they are of one incarnation
same_inc : (b c : Binding) → b.count < 4294967296 → c.count < 4294967296 → binding_number b ≡ binding_number c → b.inc ≡ c.inc
same_inc b c small low is = alike b.inc c.inc b.count c.count small low is
  where
    alike : (m n p q : ℕ) → p < 4294967296 → q < 4294967296 → m * 4294967296 + p ≡ n * 4294967296 + q → m ≡ n
    alike m n p q small low is = omega (arith, small, low, is)

-- ---- an event

module _ (hd : Header) (st : Start) (q : Past) (e : Event) (w : World) (shown : IsShown hd w) (lines_are : q.lines ≡ w.lines)
    (count_is : q.count ≡ w.event) where
  abbrev Number : ℕ
  Number = w.event + 1

  abbrev InIt : Moment → Type 0
  InIt M = (Known hd M × (Wide (Showing hd (length w.lines) Number) M × IsAnew Number M)) × Wide KnowsBindings M

  abbrev Inside : Moment → Type 0
  Inside = walks.Inside passes hd of quiet no_halt st q e

  abbrev Well : List Effect → List Line → Type 0
  Well es ls = walks.Well passes hd of quiet no_halt st q e es ls

  abbrev at : List Line → Here
  at ls = walks.here_behind passes hd of quiet no_halt st q e ls

  others_well : (es : List Effect) (ls : List Line) → saying.All is_other es → Well es ls
  others_well es ls all = walks.each_well passes hd of quiet no_halt st q e is_other (λ ms b is. λ i. is i || passes (at ms) b) es ls all

  coord_others : (es : List Effect) → AreAll is_coord_effect es → saying.All is_other es
  coord_others = saying.kind_says is_other is_coord_effect is_coord_line (λ b. refl) coord_other

  -- ---- a Record

  module _ (x : ℕ) (top : Uid) (b : Binding) (o : Named) (ls : List Line) (so : IsNamedSo (lined_in st ls) (λ x b s i. ⊤) x o)
      (given : IsGiven st ls) (s : ℕ) (lined : IsLined ls x b s) (active : active_by ls x b s)
      (table_is : rows_on (entry x) (table 1 ls) ≡ o.rows) where
    line_passes : (m : Made) → at_uid top o.made ≡ Some m → binding_eq b m.binding ≡ true → is_lowered x top o ≡ true →
        passes (at ls) (body.Lowered 1 top (entry x)) ≡ true
    line_passes m there same low = by (is_few ls) refl
      where
        caused : is_few ls ≡ true → lowered_caused (at ls) 1 top (entry x) ≡ true
        caused few = λ i. lock i && copy i
          where
            lock : has_lock 1 top (entry x) mode.Write ls ≡ true
            lock = write_on (entry x) top (table 1 ls) ∙ ap (list_any (is_write_row (entry x) top)) table_is
                ∙ (and_parts (list_any (is_write_row (entry x) top) o.rows) (not (is_on o.asked top)) low).0

            found : lined_in st ls x m.binding m.server
            found = made_found (lined_in st ls) (λ x b s i. ⊤) x top m o.made so.made there

            c : Binding
            c = active.0

            inc_is : c.inc ≡ incarnation st ls 1
            inc_is = same_inc c m.binding (few_low c.count (bindings_made ls) (given.small x c s active.2) few)
                (few_low m.binding.count (bindings_made ls) (given.small x m.binding m.server found.0) few)
                (active.1 ∙ eqb-true (binding_number b) (binding_number m.binding) same) ∙ found.1

            copy : list_any (λ a. (a.it.x == x) && (a.it.binding.inc == incarnation st ls 1)) (activations ls) ≡ true
            copy = active_from x (incarnation st ls 1) s c inc_is [] 0 ls active.3.0 active.3.1

        by : (f : Bool) → is_few ls ≡ f → (not f || lowered_caused (at ls) 1 top (entry x)) ≡ true
        by false many = refl
        by true few = caused few

    module _ (i : ℕ) (fs : List Effect) (rest : (ms : List Line) → Well fs ms) where
      abbrev WellOf : Served Named RecordedReply → Type 0
      WellOf r = Well (r.outs ++ fs) ls

      noted_well : WellOf (note_named x top b i o)
      noted_well = by (is_binding b o.recorded)
        where
          made : (m : Made) → at_uid top o.made ≡ Some m → binding_eq b m.binding ≡ true → WellOf (note_made x top i o m)
          made m there same = one m.recorded
            where
              lines : (c : Bool) → is_lowered x top o ≡ c → Well (cond c (Say (body.Lowered 1 top (entry x)) ∷ []) [] ++ fs) ls
              lines true low = (line_passes m there same low, rest _)
              lines false off = rest ls

              one : (c : Bool) → WellOf (cond {A = Served Named RecordedReply} c (reply o recorded.Yes)
                  (record { part = lowered x top (in_use top m i o); outs = lower_lines x top o; reply = Some recorded.Yes }))
              one true = rest ls
              one false = lines (is_lowered x top o) refl

          other : (f : Option Made) → at_uid top o.made ≡ f → WellOf (note_other x top b i o f)
          other None there = rest ls
          other (Some m) there = one (binding_eq b m.binding) refl
            where
              one : (c : Bool) → binding_eq b m.binding ≡ c → WellOf (cond {A = Served Named RecordedReply} c (note_made x top i o m)
                  (void o))
              one true same = made m there same
              one false off = rest ls

          by : (c : Bool) →
              WellOf (cond {A = Served Named RecordedReply} c (reply o recorded.Yes) (note_other x top b i o (at_uid top o.made)))
          by true = rest ls
          by false = other (at_uid top o.made) refl

  -- ---- a message, in an event that is no restart

  calm_others : (es : List Effect) → Still es → Calm es → saying.All is_other es
  calm_others [] still calm = refl
  calm_others (Say b ∷ es) still calm =
      let p = and_parts (is_still b) (list_all says_still es) still in
      let q = and_parts (is_calm b) (list_all (saying.says is_calm) es) calm in
      λ i. one b p.0 q.0 i && calm_others es p.1 q.1 i
    where
      one : (b : Body) → is_still b ≡ true → is_calm b ≡ true → is_other b ≡ true
      one (body.Lowered n u o) still is = absurd (cc is)
      one (body.Up n j) still is = absurd (cc still)
      one b still is = refl
  calm_others (Send to m ∷ es) still calm = calm_others es still calm
  calm_others (Do x ∷ es) still calm = calm_others es still calm

  module _ (k : ℕ) (d : Disk) (t : Parts) (M : Moment) (known : InIt (up k d t M)) (h : Inside M) (off : is_restart e ≡ false) where
    its_place : (let N = up k d t M in N.seen.nodes k) ≡ Some (record { number = k; disk = d; live = Some t })
    its_place = λ i. cond (same_number k i) (Some (record { number = k; disk = d; live = Some t })) (M.seen.nodes k)

    table_now : (k == 1) ≡ true → (x : ℕ) → rows_on (entry x) (table k M.seen.lines) ≡ named_locks x t.naming
    table_now = tabled.table_now passes of quiet no_halt ups hd st q e w shown lines_are count_is off k d t M known.0.1.0 h

    names : (o : Naming) → t.naming ≡ Some o → IsCounted k o M.seen.start M.seen.lines
    names = (let z = known.1.2.0.1.1 in z.1 k (record { number = k; disk = d; live = Some t }) t its_place refl)

    given : IsGiven st M.seen.lines
    given = subst (λ z. IsGiven z M.seen.lines) h.start known.1.2.0.1.1.0

    note_well : (from : ℕ) (hh : Head) (x : ℕ) (b : Binding) (i g : ℕ) (o : Naming) → t.naming ≡ Some o → (rep : Reply) →
        AskedSo (IsLined M.seen.lines) (active_by M.seen.lines) (met_in (let S = M.seen in S.start) M.seen.lines) k (Some (
          hh,
          ask.Record
              x b i g,
        )) →
        Well ((naming.note hh.path x b i g o).outs ++ Send from (response (asked_by hh) rep) ∷ []) M.seen.lines
    note_well from hh x b i g o has rep its = by (is_over hh.path o || not (is_some (at_number x o.objects))) (g == o.inc)
      where
        c : IsCounted k o M.seen.start M.seen.lines
        c = names o has

        one : (k == 1) ≡ true
        one = eq-eqb k 1 c.first

        table_one : rows_on (entry x) (table 1 M.seen.lines) ≡ named_locks x t.naming
        table_one = subst (λ z. rows_on (entry x) (table z M.seen.lines) ≡ named_locks x t.naming) c.first (table_now one x)

        fs : List Effect
        fs = Send from (response (asked_by hh) rep) ∷ []

        rest : (ms : List Line) → Well fs ms
        rest ms = λ more are. tt

        Outs : Served Naming RecordedReply → Type 0
        Outs r = Well (r.outs ++ fs) M.seen.lines

        found : (f : Option Named) → at_number x o.objects ≡ f → Outs (on_named x (note_named x (top_of hh.path) b i) o f)
        found None there = rest M.seen.lines
        found (Some f) there = noted_well x (top_of hh.path) b f M.seen.lines
            (subst (λ z. IsNamedSo (lined_in z M.seen.lines) (λ x b s i. ⊤) x f) h.start
            (keyed_found (IsNamedSo (lined_in M.seen.start M.seen.lines) (λ x b s i. ⊤)) x o.objects f c.lined there))
            given its.0 its.1 its.2 (table_one ∙ ap (named_locks x) has ∙ ap Words.rows_in_named there) i fs rest

        by : (over ours : Bool) → Outs (cond {A = Served Naming RecordedReply} over (void o) (cond {A = Served Naming RecordedReply} ours
            (on_named x (note_named x (top_of hh.path) b i) o (at_number x o.objects)) (reply o (recorded.Changed (what.Inc g o.inc)))))
        by true ours = rest M.seen.lines
        by false true = found (at_number x o.objects) refl
        by false false = rest M.seen.lines

    message_well : (v : Parts) (from : ℕ) (m : Message) (outs : List Effect) →
        AskedSo (IsLined M.seen.lines) (active_by M.seen.lines) (met_in (let S = M.seen in S.start) M.seen.lines) k (asks m) → Still outs
        → handle k d t from m ≡ Took v outs →
        Well outs M.seen.lines
    message_well v from m outs its still is = asked (asks m) refl its
      where
        others : (o : Option (Head × Ask)) → asks m ≡ o → is_record o ≡ false → Well outs M.seen.lines
        others o at none = others_well outs M.seen.lines (calm_others outs still
            (subst (CalmBy k d t from) (sym (ap (handle_ask k d t from m) at) ∙ is) (message_calm k d t from m o none)))

        asked : (o : Option (Head × Ask)) → asks m ≡ o → AskedSo (IsLined M.seen.lines) (active_by M.seen.lines) (met_in (let S = M.seen
            in S.start) M.seen.lines) k o →
            Well outs M.seen.lines
        asked (Some (hh, ask.Record x b i g)) at its = named t.naming refl (sym (ap (handle_ask k d t from m) at) ∙ is)
          where
            named : (o : Option Naming) → t.naming ≡ o →
                if_naming (λ n. Words.served from hh (with_naming t) Reply.Noted (naming.note hh.path x b i g n)) o ≡ Took v outs →
                Well outs M.seen.lines
            named None there same = let no_way : Void [] ≡ Took v outs = same in absurd (cc no_way)
            named (Some n) there same = by (naming.note hh.path x b i g n).reply same
              where
                by : (r : Option RecordedReply) → sends_answer from hh (with_naming t (naming.note hh.path x b i g n).part)
                    (naming.note hh.path x b i g n).outs (option_map Reply.Noted r) ≡ Took v outs → Well outs M.seen.lines
                by None same = let no_way : Void [] ≡ Took v outs = same in absurd (cc no_way)
                by (Some r) same = subst (λ z. Well (saying.outs_of z) M.seen.lines) same
                    (note_well from hh x b i g n there (Reply.Noted r) its)
        asked None at its = others None at refl
        asked (Some (hh, ask.Bind x include avoid)) at its = others (Some (hh, ask.Bind x include avoid)) at refl
        asked (Some (hh, ask.Load x)) at its = others (Some (hh, ask.Load x)) at refl
        asked (Some (hh, ask.Activate b s)) at its = others (Some (hh, ask.Activate b s)) at refl
        asked (Some (hh, ask.Invoke x b i es o)) at its = others (Some (hh, ask.Invoke x b i es o)) at refl
        asked (Some (hh, ask.Vote i ties es)) at its = others (Some (hh, ask.Vote i ties es)) at refl
        asked (Some (hh, ask.Prepare states)) at its = others (Some (hh, ask.Prepare states)) at refl
        asked (Some (hh, ask.Confirm g x i)) at its = others (Some (hh, ask.Confirm g x i)) at refl

  well : walks.SaysWell passes hd of quiet no_halt st q e InIt
  well = record {
    message = λ k d t v from m outs M known h there meant may is.
        let its = (let s = known.1.2.1.0 in let p = s.sent (record { from = from; to = k; message = m }) (known.1.1 _ there) in p.asking) in
        let still = subst (λ (x : Handled). Still (Rattle.arj_law_parts.proofs.steps.Still.outs_of x))
        ((λ i. cond (meant i) (handle k d t from m) (Void [])) ∙ is) (taken_good k d t from m) in
        by (is_restart e) refl k d t v from m outs M known h its still may is;
    act = λ k d t i M is brings fresh asks free known h. others_well (does i d.intents t.coord).outs M.seen.lines
        (coord_others (does i d.intents t.coord).outs (acts_own i d.intents t.coord));
    begin = λ k d t l how parent M brings fresh new gives none known h.
        let did = begin_action l how parent (parent_of parent t.coord) t.coord in
        others_well did.outs M.seen.lines (coord_others did.outs (acts_own (input.Begin l how parent) d.intents t.coord));
    tick = λ k d t M known h.
        let r = again_all t.coord.doings t.coord in
        others_well (tick_outs (record { number = k; disk = d; live = Some t }) t) M.seen.lines
        (all_both (saying.says is_other) (r.outs ++ tolds_again t.coord.telling) (map query_about (holders d t))
        (all_both (saying.says is_other) r.outs (tolds_again t.coord.telling) (coord_others r.outs (again_own t.coord.doings t.coord))
        (coord_others (tolds_again t.coord.telling) (tolds_again_own t.coord.telling)))
        (saying.map_says is_other query_about (holders d t) (λ u. refl)));
    restart = λ k d M its fresh known h.
        let restarts : is_restart e ≡ true = ap is_restart (sym h.event ∙ its) in
        walks.each_well passes hd of quiet no_halt st q e is_calm (λ ms b is. in_restart restarts ms b is) (restart_outs hd k (d.inc + 1) d)
        M.seen.lines (saying.restart_says is_calm hd k (d.inc + 1) d coord_line_calm (λ is u o how. refl) (λ u. refl) refl);
  }
    where
      coord_line_calm : (b : Body) → is_coord_line b ≡ true → is_calm b ≡ true
      coord_line_calm (body.Lowered n u o) is = absurd (cc is)
      coord_line_calm b is = refl

      in_restart : is_restart e ≡ true → (ms : List Line) (b : Body) → is_calm b ≡ true → tested passes (λ g. of) (at ms) b ≡ true
      in_restart restarts ms (body.Lowered n u o) is = absurd (cc is)
      in_restart restarts ms (body.Up n i) is = restarts
      in_restart restarts ms b is = refl

      by : (c : Bool) → is_restart e ≡ c → (k : ℕ) (d : Disk) (t v : Parts) (from : ℕ) (m : Message) (outs : List Effect) (M : Moment) →
          InIt (up k d t M) → Inside M → AskedSo (IsLined M.seen.lines) (active_by M.seen.lines) (met_in (let S = M.seen in S.start)
          M.seen.lines) k (asks m) → Still outs →
          MayTake M.past.event m → handle k d t from m ≡ Took v outs → Well outs M.seen.lines
      by true on k d t v from m outs M known h its still may is =
          let none = (may (ap moments.is_restart h.event ∙ restart_is e on)).0 in
          others_well outs M.seen.lines (calm_others outs still
          (subst (CalmBy k d t from) (sym (ap (handle_ask k d t from m) none) ∙ is) (message_calm k d t from m Words.None refl)))
      by false off k d t v from m outs M known h its still may is = message_well k d t M known h off v from m outs its still is

-- ---- runs

its_of : (b : Body) → is_lock_lowered b ≡ true → of b ≡ true
its_of (body.Lowered n u o) is = refl
its_of b is = absurd (cc is)

to_cause : (h : Here) (b : Body) → is_lock_lowered b ≡ true → HasFewBindings h.lines → passes h b ≡ true → has_cause h b ≡ true
to_cause h (body.Lowered n u o) its few is = (λ i. not (sym (short (bindings_made h.lines) few) i) || lowered_caused h n u o) ∙ is
  where
    short : (m : ℕ) → m < 4294967295 → nat_lt m 4294967295 ≡ true
    short m low = grind (arith, nat_tests, low)
to_cause h b its few is = absurd (cc its)

pub lowered_row : RowHolds is_lock_lowered
lowered_row hd r form =
    let lines = journal_by hd r in
    let bindings = wide_all hd KnowsBindings (bindings_keep hd) in
    let G : Moment → Type 0 = λ M. Known hd M × Wide KnowsBindings M in
    let runs : Runs (TestedStep passes (λ h. of) hd) r.start (run_events hd r) lines =
    row_run passes of quiet no_halt hd G (keeps_both hd (Known hd) (Wide KnowsBindings) (known_all hd) bindings)
    (knows_with hd (Known hd) (Wide KnowsBindings) bindings (shown_knows hd))
    (λ st q e w between lines count. well hd st q e w between lines count) r form in
    tested_row (λ ls b. HasFewBindings ls) is_lock_lowered passes has_cause to_cause lines (few_before hd r form) hd r.start
    (run_events hd r) (
      runs.0,
      runs.1,
      fewer_along passes of is_lock_lowered its_of hd (run_events hd r) (at_start r.start) runs.0 runs.2,
      runs.3,
      runs.4,
    )
