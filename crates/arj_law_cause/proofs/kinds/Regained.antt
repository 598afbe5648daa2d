-- Naming's objects stand by rising numbers at each moment; and in an event in which node 1 starts anew, its table has naming's locks from
-- then
-- on: those that the restart gives back, less those that ends take.
use Rattle.arj_law_parts.proofs.Words
use Words.{⊤, ◌≡◌, ◌∙◌, ◌==◌, ◌&&◌, ◌++◌, ◌+◌, ℕ, Bool, true, false, cond, List, [], ◌∷◌, map, flat_map, Option, Some, None, refl}
use Words.{sym, ap, subst, and_parts, list_all, all_both, all_quiet, coord_quiet, after_both, is_some, eqb-true, Body, Event, Header}
use Words.{Line, Message, ObjectState, Uid, End, Row, entry, nobody, uid_eq, Disk, Do, Effect, Intent, Look, Say, Send, Holders}
use Words.{rows_after, rows_by}
use Words.{AreOfActions, AreEntries, TablesFollow, NamingFollows, Handled, Parts, Took, Void, handle, with_coord, Named, Naming, back_lines}
use Words.{named_back, naming_back, numbers_to, parts_in, prepared_actions, query_about, recovered_naming}
use Words.{recovered_records, restart_outs, tolds_again, tolds_again_own, uid_set, without_number, hello_to, is_coord_effect}
use Words.{is_coord_line, Node}
use Words.{numbered, asks, at_place, see, world_from, Contains, IsFormed, Seen, Start}
use Words.body
use Words.follow
use Words.message
use Rattle.arj_law_parts.proofs.moves.Happens.{Wide}
use Rattle.arj_law_parts.specs.moves.Moments.{Moment, down, is_restart, no_history, up}
use Rattle.arj_law_parts.specs.moves.Seen.{AreQuiet}
use Rattle.arj_law_parts.specs.moves.Seen as seen
use Rattle.arj_law_parts.specs.moves.With.{KeepsAll, KeepsSteps}
use Rattle.arj_law_parts.specs.parts.Ends.{told_by}
use Rattle.arj_law_runs.proofs.kept.{Starts.first_at, Starts.first_up, Walked.same_number}
use Rattle.arj_law_serial.proofs.Terms
use Terms.{acts, disk_by, holders_in, named_locks, rows_on, table, up_of, ArePastIn}
use Terms.part
use Rattle.arj_law_serial.proofs.holding
use holding.{Facts.are_entries, Facts.on_path, Facts.someone, Lines.other_starts, Lines.other_tables, Lines.own_line, Lines.quiet_starts}
use holding.{Lines.quiet_table, Messages.own_lines, Running.Showing, Says.All, Says.kind_says, Says.map_says, Says.says, Sorts.by_kind}
use holding.{Sorts.is_free, Sorts.is_no_start, Sorts.is_of, Writes.none_starts}
use Rattle.arj_law_serial.specs.past.Told.{IsPast, SaysPast, live_in}
use Rattle.arj_protocol.proofs.{Follow.handle_follows, FollowSteps.restart_follows}
use Rattle.arj_protocol.specs.Follow.{alone}
use Rattle.arj_law_cause.proofs.rows.Inside.{handle_starts}
use Rattle.arj_law_cause.proofs.kinds.AtNodes
use AtNodes.{Due, Dues, HoldsSo, due_each, with_dues}
use Rattle.arj_law_cause.proofs.kinds.Ended.{Known, known_all}
use Rattle.arj_law_cause.proofs.kinds.Numbered.{Rise, message_rises, recovered_rise}

all_true : (es : List Effect) → All (λ b. true) es
all_true [] = refl
all_true (Say b ∷ es) = all_true es
all_true (Send to m ∷ es) = all_true es
all_true (Do w ∷ es) = all_true es

-- ---- what stands of a node that is down, and of a message

module _ (hd : Header) (first event : ℕ) where
  module _ (k : ℕ) (d : Disk) (M : Moment) (base : Wide (Showing hd first event) (down k d M)) where
    its_node : (let S = down k d M in seen.with_sent base.0 S.seen).nodes k ≡ Some (record { number = k; disk = d; live = None })
    its_node = λ i. cond (same_number k i) (Some (record { number = k; disk = d; live = None })) (M.seen.nodes k)

    pub disk_rises : (inc : ℕ) → Rise (recovered_naming inc (let z = d in z.names))
    disk_rises inc = let u = base.2.1.1.1.0 k (record { number = k; disk = d; live = None }) its_node in let p = u.names in
        recovered_rise (let z = d in z.names) (let q = (let z = d in z.names) in q.held) p.held
        (base.2.1.1.1.1 k (record { number = k; disk = d; live = None }) its_node)

    pub disk_entries : AreEntries (let q = (let z = d in z.names) in q.held)
    disk_entries = let u = base.2.1.1.1.0 k (record { number = k; disk = d; live = None }) its_node in let p = u.names in
        are_entries (let q = (let z = d in z.names) in q.held) p.held (base.2.1.1.1.1 k (record { number = k; disk = d; live = None })
        its_node)

  module _ (k : ℕ) (d : Disk) (t : Parts) (M : Moment) (base : Wide (Showing hd first event) (up k d t M)) where
    abbrev S : Seen
    S = seen.with_sent base.0 (let N = up k d t M in N.seen)

    past : ArePastIn base.2.0 S
    past = base.2.1.1.0.0

    pub its_place : is_some t.naming ≡ (k == 1)
    its_place = (let n = past.nodes k (record { number = k; disk = d; live = Some t })
        (λ i. cond (same_number k i) (Some (record { number = k; disk = d; live = Some t })) (M.seen.nodes k)) in
        let l = n.live t refl in l.place)

    -- who is told of is an action
    told_actions : (from : ℕ) (m : Message) → seen.In (record { from = from; to = k; message = m }) M.seen.sent → AreOfActions (told_by m)
    told_actions from m there = go (told_by m) (λ u e c. of_past u (says.told u e c))
      where
        says : SaysPast base.2.0 (λ j. live_in (S.nodes j)) (record { from = from; to = k; message = m })
        says = past.posts (record { from = from; to = k; message = m }) (base.1 (record { from = from; to = k; message = m }) there)

        of_past : (u : Uid) → IsPast base.2.0 (λ j. live_in (S.nodes j)) u → uid_eq nobody u ≡ false
        of_past u its =
            let good = base.2.1.0.1.0 in
            someone u (on_path base.2.0 good.begun base.2.1.1.0.1 its.0.0 (Words.in_from its.0.0 base.2.0 its.0.1) u its.0.2)

        go : (es : List (Uid × End)) → ((u : Uid) (e : End) → Contains {X = Uid × End} es (u, e) → uid_eq nobody u ≡ false) → AreOfActions
            es
        go [] each = tt
        go (e ∷ es) each = (
          each e.0 e.1 (Words.in_to e (e ∷ es) (Words.inl refl)),
          go es (λ u f c. each u f (Words.in_to (u, f) (e ∷ es) (Words.inr (Words.in_from (u, f) es c)))),
        )

-- ---- naming's objects rise

abbrev Rises : Event → ℕ → List Line → ℕ → Parts → Type 0
Rises e i ls j t = (o : Naming) → t.naming ≡ Some o → Rise o

-- so it is at each node
abbrev pub AllRise : Moment → Type 0
AllRise M = HoldsSo Rises (λ e i ls j t bs quiet f. f) (λ e i ls j k t b apart of f. f) M

rises_due : (hd : Header) → Dues Rises (λ e i ls j t bs quiet f. f) (λ e i ls j k t b apart of f. f) hd (Known hd)
rises_due hd = record {
  message = λ k d t v from m outs M known f there may is. (
    own_lines k d t v (its_place hd 0 0 k d t M known.1) from m outs is,
    due k v M.past.event M.past.number outs M.seen.lines (message_rises k d t from f v m outs is),
  );
  coord = λ k t c e i ls outs own f. due k (with_coord t c) e i outs ls f;
  restart = λ k d M event known. due k (parts_in k (d.inc + 1) d) M.past.event M.past.number (restart_outs hd k (d.inc + 1) d) M.seen.lines
      (named k d M known (k == 1));
}
  where
    due : (k : ℕ) (v : Parts) (e : Event) (i : ℕ) (es : List Effect) (ls : List Line) → Rises e i ls k v →
        Due Rises (λ e i ls j t bs quiet f. f) (λ e i ls j k t b apart of f. f) k v e i es ls
    due k v e i es ls f = due_each Rises (λ e i ls j t bs quiet f. f) (λ e i ls j k t b apart of f. f) k v e i (λ b. true)
        (λ ms b is g. g) es (all_true es) ls f

    named : (k : ℕ) (d : Disk) (M : Moment) → Known hd (down k d M) → (b : Bool) → (o : Naming) →
        cond b (Some (recovered_naming (d.inc + 1) d.names)) None ≡ Some o → Rise o
    named k d M known false o is = absurd (cc is)
    named k d M known true o is = let same : recovered_naming (d.inc + 1) d.names ≡ o = cc is in
        subst Rise same (disk_rises hd 0 0 k d M known.1 (d.inc + 1))

pub rising_keep : (hd : Header) → KeepsAll hd (λ M. Known hd M × AllRise M)
rising_keep hd = record {
  opens = λ e M fresh number h. (keeps.opens e M fresh number h.0, h.1);
  closes = λ bodies M number lines h. (keeps.closes bodies M number lines h.0, h.1);
  steps = with_dues Rises (λ e i ls j t bs quiet f. f) (λ e i ls j k t b apart of f. f) hd (Known hd) keeps.steps (rises_due hd);
  first = λ st formed. let k = keeps.first st formed in (
    k,
    λ j n t there live o has. at_first st formed j n there o (j == 1)
        (ap (λ (z : Parts). z.naming) (first_up hd st j n t there live) ∙ has),
  );
}
  where
    keeps : KeepsAll hd (Known hd)
    keeps = known_all hd

    -- by what the disk has at first
    at_first : (st : Start) (formed : IsFormed hd st) (j : ℕ) (n : Node) → at_place j (world_from hd st).nodes ≡ Some n → (o : Naming) →
        (b : Bool) → cond b (Some (recovered_naming (st.incs j + 1) (let z = disk_by hd st j in z.names))) None ≡ Some o → Rise o
    at_first st formed j n there o false is = absurd (cc is)
    at_first st formed j n there o true is =
        let same : recovered_naming (st.incs j + 1) (let z = disk_by hd st j in z.names) ≡ o = cc is in subst Rise same by_disk
      where
        base : Wide (Showing hd 0 0) (record { past = no_history st; seen = see [] (world_from hd st) })
        base = let k = keeps.first st formed in k.1

        disk_is : (let z : Node = n in z.disk) ≡ disk_by hd st j
        disk_is = ap (λ (z : Node). z.disk) (sym (first_at hd st j n there))

        by_disk : Rise (recovered_naming (st.incs j + 1) (let z = disk_by hd st j in z.names))
        by_disk = subst (λ (z : Disk). Rise (recovered_naming (st.incs j + 1) z.names)) disk_is
            (let u = base.2.1.1.1.0 j n there in let p = u.names in
            recovered_rise (let z = n.disk in z.names) (let q = (let z = n.disk in z.names) in q.held) p.held (base.2.1.1.1.1 j n there))

-- ---- locks that come back

module _ (N : ℕ) where
  -- in a restart, where node 1 starts anew in this event, its table has naming's locks
  abbrev pub Regains : Event → ℕ → List Line → ℕ → Parts → Type 0
  Regains e i ls j t = (j == 1) ≡ true → is_restart e ≡ true → i ≡ N → (N == up_of 1 ls) ≡ true → (x : ℕ) →
      rows_on (entry x) (table 1 ls) ≡ named_locks x t.naming

  pub regains_more : (e : Event) (i : ℕ) (ls : List Line) (j : ℕ) (t : Parts) (bs : List Body) → AreQuiet bs → Regains e i ls j t →
      Regains e i (ls ++ numbered i bs) j t
  regains_more e i ls j t bs quiet f one r num new x = ap (rows_on (entry x)) (quiet_table 1 i bs quiet ls)
      ∙ f one r num (ap (λ u. N == u) (sym (quiet_starts 1 i bs quiet ls)) ∙ new) x

  pub regains_off : (e : Event) (i : ℕ) (ls : List Line) (j k : ℕ) (t : Parts) (b : Body) → (j == k) ≡ false → is_of k b ≡ true →
      Regains e i ls j t → Regains e i (ls ++ numbered i (b ∷ [])) j t
  regains_off e i ls j k t b apart of f one r num new x =
      let off : (1 == k) ≡ false = ap (λ z. z == k) (sym (eqb-true j 1 one)) ∙ apart in
      ap (rows_on (entry x)) (other_tables 1 k i off (b ∷ []) (λ z. of z && true) ls)
      ∙ f one r num (ap (λ u. N == u) (sym (other_starts 1 k i off (b ∷ []) (λ z. of z && true) ls)) ∙ new) x

  -- so it is at each node
  abbrev pub IsRegained : Moment → Type 0
  IsRegained M = HoldsSo Regains regains_more regains_off M

  abbrev DueSo : ℕ → Parts → Event → ℕ → List Effect → List Line → Type 0
  DueSo k v e i es ls = Due Regains regains_more regains_off k v e i es ls

  coord_no : (b : Body) → is_coord_line b ≡ true → is_no_start 1 b ≡ true
  coord_no (body.Up n i) is = absurd (cc is)
  coord_no b is = refl

  free_no : (b : Body) → is_free b ≡ true → is_no_start 1 b ≡ true
  free_no (body.Up n i) is = absurd (cc is)
  free_no b is = refl

  -- a coordinator's line changes no lock
  coord_keeps : (e : Event) (i : ℕ) (k : ℕ) (v : Parts) (ls : List Line) (b : Body) → is_coord_line b ≡ true → Regains e i ls k v →
      Regains e i (ls ++ numbered i (b ∷ [])) k v
  coord_keeps e i k v ls b is f one r num new x =
      let h : Holders = holders_in (i == up_of 1 ls) (acts ls) in
      own_line 1 part.Naming (entry x) refl i b ls
      ∙ all_quiet h 1 part.Naming (entry x) is_coord_effect (coord_quiet h 1 part.Naming (entry x)) (Say b ∷ []) (λ z. is z && true)
      (rows_on (entry x) (table 1 ls))
      ∙ f one r num (ap (λ u. N == u) (sym (none_starts 1 i (b ∷ []) (λ z. coord_no b is z && true) ls)) ∙ new) x

  -- effects by which the node doesn't start, whose lines make the locks
  own_due : (k : ℕ) (v : Parts) (e : Event) (i : ℕ) (es : List Effect) (ls : List Line) → All (is_no_start 1) es → ((k == 1) ≡ true →
      is_restart e ≡ true → i ≡ N → (N == up_of 1 ls) ≡ true → (x : ℕ) →
      rows_after alone 1 part.Naming (entry x) es (rows_on (entry x) (table 1 ls)) ≡ named_locks x v.naming) → DueSo k v e i es ls
  own_due k v e i [] ls all own = own
  own_due k v e i (Do w ∷ es) ls all own = own_due k v e i es ls all own
  own_due k v e i (Say b ∷ es) ls all own =
      let p = and_parts (is_no_start 1 b) (list_all (says (is_no_start 1)) es) all in
      own_due k v e i es (ls ++ numbered i (b ∷ [])) p.1 (λ one r num new x.
      let before : (N == up_of 1 ls) ≡ true = ap (λ u. N == u) (sym (none_starts 1 i (b ∷ []) (λ z. p.0 z && true) ls)) ∙ new in
      let here : (i == up_of 1 ls) ≡ true = ap (λ u. u == up_of 1 ls) num ∙ before in
      ap (rows_after alone 1 part.Naming (entry x) es) (own_line 1 part.Naming (entry x) refl i b ls
      ∙ (λ z. rows_by (holders_in (here z) (acts ls)) 1 part.Naming (entry x) b (rows_on (entry x) (table 1 ls))))
      ∙ own one r num before x)
  own_due k v e i (Send to m ∷ es) ls all own = λ bs quiet. own_due k v e i es (ls ++ numbered i bs) all (λ one r num new x.
      ap (λ z. rows_after alone 1 part.Naming (entry x) es (rows_on (entry x) z)) (quiet_table 1 i bs quiet ls)
      ∙ own one r num (ap (λ u. N == u) (sym (quiet_starts 1 i bs quiet ls)) ∙ new) x)

  -- ---- a restart

  free_rows : (o : Uid) (es : List Effect) → All is_free es → (rows : List Row) → rows_after alone 1 part.Naming o es rows ≡ rows
  free_rows o [] all rows = refl
  free_rows o (Say b ∷ es) all rows =
      let q = and_parts (is_free b) (list_all (says is_free) es) all in
      free_rows o es q.1 (rows_by alone 1 part.Naming o b rows) ∙ one b q.0
    where
      one : (b : Body) → is_free b ≡ true → rows_by alone 1 part.Naming o b rows ≡ rows
      one = by_kind (λ b. is_free b ≡ true → rows_by alone 1 part.Naming o b rows ≡ rows)
          (λ b plain is. plain.rows alone 1 part.Naming o rows)
          (λ l k u q is. refl)
          (λ m u x how is. absurd (cc is))
          (λ m u x is. absurd (cc is))
          (λ m x c is. absurd (cc is))
          (λ m u e q is. absurd (cc is))
          (λ m is. absurd (cc is))
          (λ m i is. absurd (cc is))
  free_rows o (Send to m ∷ es) all rows = free_rows o es all rows
  free_rows o (Do w ∷ es) all rows = free_rows o es all rows

  free_coord : (b : Body) → is_coord_line b ≡ true → is_free b ≡ true
  free_coord (body.Granted m u o how) is = absurd (cc is)
  free_coord (body.Lowered m u o) is = absurd (cc is)
  free_coord (body.Active m x b) is = absurd (cc is)
  free_coord (body.Told m u e p) is = absurd (cc is)
  free_coord (body.Halted m) is = absurd (cc is)
  free_coord (body.Up m i) is = absurd (cc is)
  free_coord b is = refl

  module _ (hd : Header) (inc : ℕ) (d : Disk) where
    abbrev pub lines : List Effect
    lines = Do Look ∷ naming_back (Some (recovered_naming inc (let z = d in z.names)))

    abbrev pub tail : List Effect
    tail = (((Do Look ∷ recovered_records 1 (let z = d in z.intents)) ++ tolds_again (let z = d in z.intents)) ++ map query_about
        (uid_set (prepared_actions (let z = d in z.store) ++ prepared_actions (let z = d in z.names))))
        ++ map (hello_to 1 inc) (without_number 1 (numbers_to (let z = hd in z.nodes)))

    abbrev pub behind : List Effect
    behind = (((lines ++ Do Look ∷ recovered_records 1 (let z = d in z.intents)) ++ tolds_again (let z = d in z.intents)) ++ map query_about
        (uid_set (prepared_actions (let z = d in z.store) ++ prepared_actions (let z = d in z.names))))
        ++ map (hello_to 1 inc) (without_number 1 (numbers_to (let z = hd in z.nodes)))

    pub in_two : behind ≡ lines ++ tail
    in_two =
        let two = Do Look ∷ recovered_records 1 (let z = d in z.intents) in
        let three = tolds_again (let z = d in z.intents) in
        let four = map query_about (uid_set (prepared_actions (let z = d in z.store) ++ prepared_actions (let z = d in z.names))) in
        let five = map (hello_to 1 inc) (without_number 1 (numbers_to (let z = hd in z.nodes))) in
        ap (λ es. (es ++ four) ++ five) (Words.append_assoc lines two three) ∙ ap (λ es. es ++ five) (Words.append_assoc lines (two ++
        three) four)
        ∙ Words.append_assoc lines ((two ++ three) ++ four) five

    pub tail_free : All is_free tail
    tail_free =
        let two = Do Look ∷ recovered_records 1 (let z = d in z.intents) in
        let three = tolds_again (let z = d in z.intents) in
        let four = map query_about (uid_set (prepared_actions (let z = d in z.store) ++ prepared_actions (let z = d in z.names))) in
        let five = map (hello_to 1 inc) (without_number 1 (numbers_to (let z = hd in z.nodes))) in
        all_both (says is_free) ((two ++ three) ++ four) five
        (all_both (says is_free) (two ++ three) four (all_both (says is_free) two three
        (map_says is_free (λ (e : Uid × Intent). Say (body.Recovered 1 e.0)) (let z = d in z.intents) (λ e. refl))
        (kind_says is_free is_coord_effect is_coord_line (λ b. refl) free_coord three (tolds_again_own (let z = d in z.intents))))
        (map_says is_free query_about (uid_set (prepared_actions (let z = d in z.store) ++ prepared_actions (let z = d in z.names)))
        (λ u. refl))) (map_says is_free (hello_to 1 inc) (without_number 1 (numbers_to (let z = hd in z.nodes))) (λ m. refl))

    lines_no : All (is_no_start 1) lines
    lines_no = each (let q = (let z = d in z.names) in q.held)
      where
        one : (rows : List Row) → All (is_no_start 1) (map (λ (r : Row). Say (body.Granted 1 (Words.last_uid r.holder) r.object r.mode))
            rows)
        one rows = map_says (is_no_start 1) (λ (r : Row). Say (body.Granted 1 (Words.last_uid r.holder) r.object r.mode)) rows (λ r. refl)

        each : (held : List (Uid × ObjectState)) →
            All (is_no_start 1) (flat_map (λ (e : ℕ × Named). back_lines e.1) (map (named_back (let z = d in z.names)) held))
        each [] = refl
        each (e ∷ es) = all_both (says (is_no_start 1)) (back_lines (let o = named_back (let z = d in z.names) e in o.1))
            (flat_map (λ (f : ℕ × Named). back_lines f.1) (map (named_back (let z = d in z.names)) es))
            (one (let o = (let p = named_back (let z = d in z.names) e in p.1) in o.rows)) (each es)

    pub behind_no : All (is_no_start 1) behind
    behind_no = subst (All (is_no_start 1)) (sym in_two) (all_both (says (is_no_start 1)) lines tail lines_no
        (kind_says (is_no_start 1) (says is_free) is_free (λ b. refl) free_no tail tail_free))

    pub behind_rows : AreEntries (let q = (let z = d in z.names) in q.held) → (x : ℕ) →
        rows_after alone 1 part.Naming (entry x) behind [] ≡ named_locks x (Some (recovered_naming inc (let z = d in z.names)))
    behind_rows entries x = ap (λ es. rows_after alone 1 part.Naming (entry x) es []) in_two
        ∙ after_both alone 1 part.Naming (entry x) lines tail []
        ∙ free_rows (entry x) tail tail_free (rows_after alone 1 part.Naming (entry x) lines [])
        ∙ sym (restart_follows x inc (let z = d in z.names) entries)

  -- ---- handlers

  fits_other : (m : Message) → AreOfActions (told_by m) → follow.FitsOther m
  fits_other (message.Told m) its = its
  fits_other m its = tt

  regains_due : (hd : Header) (first event : ℕ) → Dues Regains regains_more regains_off hd (Wide (Showing hd first event))
  regains_due hd first event = record {
    message = λ k d t v from m outs M base f there may is. (
      own_lines k d t v (its_place hd first event k d t M base) from m outs is,
      own_due k v M.past.event M.past.number outs M.seen.lines (handle_starts k d t v from m outs is 1) (λ one r num new x.
          ap (rows_after alone 1 part.Naming (entry x) outs) (f one r num new x)
          ∙ sym (follows k t v x outs (its_place hd first event k d t M base ∙ one)
          (let z = subst (λ (z : Handled). LeftBy k t x z) is (left k d t from m x (may r) (told_actions hd first event k d t M base from
          m there)) in z))),
    );
    coord = λ k t c e i ls outs own f. due_each Regains regains_more regains_off k (with_coord t c) e i is_coord_line
        (λ ms b is g. coord_keeps e i k (with_coord t c) ms b is g) outs (kind_says is_coord_line is_coord_effect is_coord_line (λ b. refl)
        (λ b is. is) outs own) ls f;
    restart = λ k d M event base. by k d M base (k == 1) refl;
  }
    where
      LeftBy : ℕ → Parts → ℕ → Handled → Type 0
      LeftBy k t x (Void outs) = ⊤
      LeftBy k t x (Took v outs) = NamingFollows alone x t.naming outs v.naming

      left : (k : ℕ) (d : Disk) (t : Parts) (from : ℕ) (m : Message) (x : ℕ) → (asks m ≡ None) × (Words.answers m ≡ None) →
          AreOfActions (told_by m) → LeftBy k t x (handle k d t from m)
      left k d t from m x none of = to (handle k d t from m) (handle_follows alone k x d t from m
          (subst (follow.FitsAsked alone m) (sym none.0) (fits_other m of)))
        where
          Follows : Handled → Type 0
          Follows (Void es) = (p : Words.Part) (n : ℕ) (o : Uid) (rows : List Row) → rows_after alone n p o es rows ≡ rows
          Follows (Took w es) = TablesFollow alone k x t es w

          to : (r : Handled) → Follows r → LeftBy k t x r
          to (Void es) f = tt
          to (Took w es) f = f.naming

      follows : (k : ℕ) (t v : Parts) (x : ℕ) (outs : List Effect) → is_some t.naming ≡ true → NamingFollows alone x t.naming outs
          v.naming →
          named_locks x v.naming ≡ rows_after alone 1 part.Naming (entry x) outs (named_locks x t.naming)
      follows k t v x outs there f = by t.naming v.naming there f
        where
          by : (a b : Option Naming) → is_some a ≡ true → NamingFollows alone x a outs b →
              named_locks x b ≡ rows_after alone 1 part.Naming (entry x) outs (named_locks x a)
          by None b there g = absurd (cc there)
          by (Some a) None there g = absurd g
          by (Some a) (Some b) there g = g

      by : (k : ℕ) (d : Disk) (M : Moment) → Wide (Showing hd first event) (down k d M) → (b : Bool) → (k == 1) ≡ b →
          DueSo k (parts_in k (d.inc + 1) d) M.past.event M.past.number (restart_outs hd k (d.inc + 1) d) M.seen.lines
      by k d M base false off = due_each Regains regains_more regains_off k (parts_in k (d.inc + 1) d) M.past.event M.past.number (λ b.
          true)
          (λ ms b is g one. (let no_way : true ≡ false = sym one ∙ off in absurd (cc no_way))) (restart_outs hd k (d.inc + 1) d)
          (all_true (restart_outs hd k (d.inc + 1) d)) M.seen.lines (λ one. (let no_way : true ≡ false = sym one ∙ off in absurd (cc
          no_way)))
      by k d M base true one = subst (λ j. DueSo j (parts_in j (d.inc + 1) d) M.past.event M.past.number (restart_outs hd j (d.inc + 1) d)
          M.seen.lines) (sym (eqb-true k 1 one))
          (own_due 1 (parts_in 1 (d.inc + 1) d) M.past.event M.past.number (behind hd (d.inc + 1) d)
          (M.seen.lines ++ numbered M.past.number (body.Up 1 (d.inc + 1) ∷ [])) (behind_no hd (d.inc + 1) d) (λ same r num new x.
          ap (rows_after alone 1 part.Naming (entry x) (behind hd (d.inc + 1) d)) (own_line 1 part.Naming (entry x) refl M.past.number
          (body.Up 1 (d.inc + 1)) M.seen.lines) ∙ behind_rows hd (d.inc + 1) d (disk_entries hd first event k d M base) x))

  -- beside what tables show
  pub regained_step : (hd : Header) (first event : ℕ) → KeepsSteps hd (Wide (Showing hd first event)) →
      KeepsSteps hd (λ M. Wide (Showing hd first event) M × IsRegained M)
  regained_step hd first event keeps =
      with_dues Regains regains_more regains_off hd (Wide (Showing hd first event)) keeps (regains_due hd first event)
