-- The table of a node that restarts has the locks that it gives back, each with its holder alone.
use Rattle.arj_law_parts.proofs.Words
use Words.{◌≡◌, ◌∙◌, ◌==◌, ◌&&◌, ◌++◌, ◌+◌, ℕ, zero, suc, List, [], ◌∷◌, Bool, true, false, cond, map, Option, Some, None, refl, sym, ap}
use Words.{append-nil, append_assoc, eqb-true, nat_le, if◌then◌else◌, AllByRecursion, flat_map, list_all, and_parts, Row, entry, nobody}
use Words.{object, uid_eq, Body, Header, Line, Message, ObjectState, Part, Uid, frame_kind, back_lines, named_back, pending_of}
use Words.{recovered_lines, recovered_naming, rows_back, Disk, Do, Effect, Intent, Look, Pair, PutInc, Say, Send, AreEntries, NamingFollows}
use Words.{TablesFollow, Holders, rows_after, rows_by, server_rows, Named, unnamed, Naming, Parts, Ran, most_rounds, next_round, handle_all}
use Words.{prepared_actions, query_about, ran, rounds, whole, uid_set, without_number, is_coord_effect, is_coord_line, hello_to}
use Words.{naming_back, numbers_to, parts_in, recovered_records, restart_outs, tolds_again, bodies, numbered, tolds_again_own}
use Words.{all_both, after_both, most_frames}
use Words.body
use Rattle.arj_law_serial.proofs.Terms
use Terms.{Act, acts, acts_after, table, table_from, table_step, IsOfPart, holders_in, rows_on, up_of, named_locks, ShowsLocks}
use Terms.part
use Rattle.arj_law_serial.proofs.holding
use holding.{Lines.itself, Lines.start_stays, Lines.table_more, Sorts.by_kind, Sorts.is_free}
use holding.Says.{All, kind_says, map_says, says}
use holding.Telling.{ran_queue, restart_tells, rounds_fit}
use Rattle.arj_law_serial.proofs.tables.Rows.{lines_go_by_objects}
use Rattle.arj_protocol.proofs.{Follow.whole_follows, FollowSteps.restart_follows}
use Rattle.arj_protocol.specs.Follow.{alone}

-- ---- lines of the event in which a node is up again

alone_rows : (n : ℕ) (p : Part) (o : Uid) → IsOfPart p o → (event from frames : ℕ) (outs : List Effect) (begun : List Act) (rows : List Row)
    → rows_on o (table_from n begun event rows (numbered event (bodies from frames outs))) ≡ rows_after alone n p o outs (rows_on o rows)
alone_rows n p o of event from frames [] begun rows = refl
alone_rows n p o of event from frames (Say b ∷ es) begun rows =
    let on : List Row = table_step n begun event event b rows in
    (λ i. rows_on o (table_from n (acts_after begun b) (start_stays n event b i) on (numbered event (bodies from frames es))))
    ∙ alone_rows n p o of event from frames es (acts_after begun b) on
    ∙ ap (rows_after alone n p o es) (lines_go_by_objects n p o of begun event event b rows
    ∙ (λ i. rows_by (holders_in (itself event i) begun) n p o b (rows_on o rows)))
alone_rows n p o of event from frames (Do w ∷ es) begun rows = alone_rows n p o of event from frames es begun rows
alone_rows n p o of event from frames (Send to m ∷ es) begun rows =
    by (nat_le (frames + 1) most_frames) (alone_rows n p o of event from (frames + 1) es begun rows)
  where
    by : (b : Bool) → rows_on o (table_from n begun event rows (numbered event (bodies from (frames + 1) es)))
        ≡ rows_after alone n p o es (rows_on o rows)
        → rows_on o (table_from n begun event rows (numbered event (cond b (body.Sent (frames + 1) from to (frame_kind m) ∷ []) []
        ++ bodies from (frames + 1) es))) ≡ rows_after alone n p o es (rows_on o rows)
    by true ih = ih
    by false ih = ih

-- behind its start a table has what the lines after it make of none
started : (n : ℕ) (p : Part) (o : Uid) → IsOfPart p o → (event from frames i : ℕ) (tail : List Effect) (ls : List Line) →
    rows_on o (table n (ls ++ numbered event (body.Up n i ∷ bodies from frames tail))) ≡ rows_after alone n p o tail []
started n p o of event from frames i tail ls =
    ap (rows_on o) (table_more n ls (numbered event (body.Up n i ∷ bodies from frames tail)) ∙ (λ j. table_from n (acts ls)
    (if itself n j then event else up_of n ls) (if itself n j then [] else table n ls) (numbered event (bodies from frames tail))))
    ∙ alone_rows n p o of event from frames tail (acts ls) []

-- ---- effects that say nothing of locks

free_rows : (h : Holders) (n : ℕ) (p : Part) (o : Uid) (es : List Effect) → All is_free es → (rows : List Row) →
    rows_after h n p o es rows ≡ rows
free_rows h n p o [] all rows = refl
free_rows h n p o (Say b ∷ es) all rows =
    let q = and_parts (is_free b) (list_all (says is_free) es) all in
    free_rows h n p o es q.1 (rows_by h n p o b rows) ∙ one b q.0
  where
    one : (b : Body) → is_free b ≡ true → rows_by h n p o b rows ≡ rows
    one = by_kind (λ b. is_free b ≡ true → rows_by h n p o b rows ≡ rows)
        (λ b plain is. plain.rows h n p o rows)
        (λ l k u q is. refl)
        (λ m u x how is. absurd (cc is))
        (λ m u x is. absurd (cc is))
        (λ m x c is. absurd (cc is))
        (λ m u e q is. absurd (cc is))
        (λ m is. absurd (cc is))
        (λ m i is. absurd (cc is))
free_rows h n p o (Send to m ∷ es) all rows = free_rows h n p o es all rows
free_rows h n p o (Do w ∷ es) all rows = free_rows h n p o es all rows

free_coord : (b : Body) → is_coord_line b ≡ true → is_free b ≡ true
free_coord = by_kind (λ b. is_coord_line b ≡ true → is_free b ≡ true)
    (λ b plain is. plain.free)
    (λ l k u q is. refl)
    (λ m u x how is. absurd (cc is))
    (λ m u x is. absurd (cc is))
    (λ m x c is. absurd (cc is))
    (λ m u e q is. absurd (cc is))
    (λ m is. absurd (cc is))
    (λ m i is. absurd (cc is))

-- ---- what a restart gives back

-- the parts and effects of a restart, at node 1 or another one
abbrev named_as : Bool → ℕ → Pair → Option Naming
named_as b inc d = cond b (Some (recovered_naming inc d)) None

abbrev rest_outs : Header → ℕ → ℕ → Disk → List Effect
rest_outs hd n inc d = (((Do Look ∷ recovered_records n d.intents) ++ tolds_again d.intents) ++ map query_about
    (uid_set (prepared_actions d.store ++ prepared_actions d.names))) ++ map (hello_to n inc) (without_number n (numbers_to hd.nodes))

abbrev first_outs : Bool → ℕ → ℕ → Disk → List Effect
first_outs b n inc d = Do Look ∷ Do (PutInc inc) ∷ Say (body.Up n inc) ∷ Do Look ∷ naming_back (named_as b inc d.names)

-- the same effects, in two parts
in_two : (b : Bool) (hd : Header) (n inc : ℕ) (d : Disk) → (((first_outs b n inc d ++ Do Look ∷ recovered_records n d.intents)
    ++ tolds_again d.intents) ++ map query_about (uid_set (prepared_actions d.store ++ prepared_actions d.names)))
    ++ map (hello_to n inc) (without_number n (numbers_to hd.nodes)) ≡ first_outs b n inc d ++ rest_outs hd n inc d
in_two b hd n inc d =
    let one = first_outs b n inc d in
    let two = Do Look ∷ recovered_records n d.intents in
    let three = tolds_again d.intents in
    let four = map query_about (uid_set (prepared_actions d.store ++ prepared_actions d.names)) in
    let five = map (hello_to n inc) (without_number n (numbers_to hd.nodes)) in
    ap (λ es. (es ++ four) ++ five) (append_assoc one two three) ∙ ap (λ es. es ++ five) (append_assoc one (two ++ three) four)
    ∙ append_assoc one ((two ++ three) ++ four) five

rest_free : (hd : Header) (n inc : ℕ) (d : Disk) → All is_free (rest_outs hd n inc d)
rest_free hd n inc d =
    all_both (says is_free) (((Do Look ∷ recovered_records n d.intents) ++ tolds_again d.intents) ++ map query_about
    (uid_set (prepared_actions d.store ++ prepared_actions d.names))) (map (hello_to n inc) (without_number n (numbers_to hd.nodes)))
    (all_both (says is_free) ((Do Look ∷ recovered_records n d.intents) ++ tolds_again d.intents)
    (map query_about (uid_set (prepared_actions d.store ++ prepared_actions d.names)))
    (all_both (says is_free) (Do Look ∷ recovered_records n d.intents) (tolds_again d.intents)
    (map_says is_free (λ (e : Uid × Intent). Say (body.Recovered n e.0)) d.intents (λ e. refl))
    (kind_says is_free is_coord_effect is_coord_line (λ b. refl) free_coord (tolds_again d.intents) (tolds_again_own d.intents)))
    (map_says is_free query_about (uid_set (prepared_actions d.store ++ prepared_actions d.names)) (λ u. refl)))
    (map_says is_free (hello_to n inc) (without_number n (numbers_to hd.nodes)) (λ m. refl))

-- entries are no objects
entry_apart : (x : ℕ) (u : Uid) → u ≡ entry u.num → uid_eq u (object x) ≡ false
entry_apart x u is = ap (λ w. uid_eq w (object x)) is

-- locks on entries do nothing to those on objects
back_quiet : (n x : ℕ) (d : Pair) (es : List (Uid × ObjectState)) → AreEntries es → (rows : List Row) →
    rows_after alone n part.Server (object x) (flat_map (λ (e : ℕ × Named). back_lines e.1) (map (named_back d) es)) rows ≡ rows
back_quiet n x d [] entries rows = refl
back_quiet n x d (e ∷ es) entries rows =
    let lines = back_lines (unnamed (rows_back e.0 e.1 (pending_of e.0 d.pend))) in
    after_both alone n part.Server (object x) lines (flat_map (λ (q : ℕ × Named). back_lines q.1) (map (named_back d) es)) rows
    ∙ back_quiet n x d es entries.2 (rows_after alone n part.Server (object x) lines rows) ∙ own (pending_of e.0 d.pend)
  where
    off : (b : Bool) (ys : List Row) → cond (b && uid_eq e.0 (object x)) ys rows ≡ rows
    off true ys = λ i. cond (entry_apart x e.0 entries.0 i) ys rows
    off false ys = refl

    own : (p : Option (Uid × ObjectState)) →
        rows_after alone n part.Server (object x) (back_lines (unnamed (rows_back e.0 e.1 p))) rows ≡ rows
    own None = refl
    own (Some p) = off (1 == n) _

module _ (hd : Header) (n inc x : ℕ) (d : Disk) (entries : (n == 1) ≡ true → AreEntries (let p = d.names in p.held)) where
  empty_up : (b : Bool) (rows : List Row) → b ≡ true → cond b [] rows ≡ []
  empty_up true rows is = refl
  empty_up false rows is = absurd (cc is)

  server_starts : (b : Bool) → (n == 1) ≡ b → (rows : List Row) →
      rows_after alone n part.Server (object x) (first_outs b n inc d ++ rest_outs hd n inc d) rows ≡ []
  server_starts b is rows =
      after_both alone n part.Server (object x) (first_outs b n inc d) (rest_outs hd n inc d) rows
      ∙ free_rows alone n part.Server (object x) (rest_outs hd n inc d) (rest_free hd n inc d)
      (rows_after alone n part.Server (object x) (first_outs b n inc d) rows)
      ∙ ap (rows_after alone n part.Server (object x) (naming_back (named_as b inc d.names))) (empty_up (n == n) rows (itself n)) ∙ by b is
    where
      by : (b : Bool) → (n == 1) ≡ b → rows_after alone n part.Server (object x) (naming_back (named_as b inc d.names)) [] ≡ []
      by false is = refl
      by true is = back_quiet n x d.names d.names.held (entries is) []

  naming_starts : (n == 1) ≡ true → (rows : List Row) → rows_after alone 1 part.Naming (entry x)
      (first_outs true n inc d ++ rest_outs hd n inc d) rows ≡ named_locks x (Some (recovered_naming inc d.names))
  naming_starts is rows =
      after_both alone 1 part.Naming (entry x) (first_outs true n inc d) (rest_outs hd n inc d) rows
      ∙ free_rows alone 1 part.Naming (entry x) (rest_outs hd n inc d) (rest_free hd n inc d)
      (rows_after alone 1 part.Naming (entry x) (first_outs true n inc d) rows)
      ∙ ap (rows_after alone 1 part.Naming (entry x) (recovered_lines (recovered_naming inc d.names))) (empty_up (n == 1) rows is)
      ∙ sym (restart_follows x inc d.names (entries is))

  -- a restart follows its lines, from whatever was there
  starts_follow : TablesFollow alone n x (parts_in n inc d) (restart_outs hd n inc d) (parts_in n inc d)
  starts_follow = by (n == 1) refl
    where
      parts_as : Bool → Parts
      parts_as b = let p = parts_in n inc d in record p { naming = named_as b inc d.names }

      outs_as : Bool → List Effect
      outs_as b = (((first_outs b n inc d ++ Do Look ∷ recovered_records n d.intents) ++ tolds_again d.intents) ++ map query_about
          (uid_set (prepared_actions d.store ++ prepared_actions d.names))) ++ map (hello_to n inc) (without_number n (numbers_to hd.nodes))

      named : (b : Bool) → (n == 1) ≡ b → NamingFollows alone x (named_as b inc d.names) (outs_as b) (named_as b inc d.names)
      named false is = tt
      named true is = sym (ap (λ es. rows_after alone 1 part.Naming (entry x) es (named_locks x (Some (recovered_naming inc d.names))))
          (in_two true hd n inc d) ∙ naming_starts is (named_locks x (Some (recovered_naming inc d.names))))

      by : (b : Bool) → (n == 1) ≡ b → TablesFollow alone n x (parts_as b) (outs_as b) (parts_as b)
      by b is = record {
        server = sym (ap (λ es. rows_after alone n part.Server (object x) es []) (in_two b hd n inc d) ∙ server_starts b is []);
        naming = named b is;
      }

-- ---- the whole step

front_of : (n k : ℕ) (r : Ran) → (more : List Effect) × ((rounds n k r).outs ≡ r.outs ++ more)
front_of n zero r = ([], sym (append-nil r.outs))
front_of n (suc k) r = by r.queue (front_of n k (next_round n r))
  where
    picked : List Message → Ran
    picked ms = elim ms [ [] ↦ r | m ∷ ms ↦ rounds n k (next_round n r) ]

    by : (ms : List Message) → ((more : List Effect) × ((rounds n k (next_round n r)).outs ≡ (next_round n r).outs ++ more)) →
        (more : List Effect) × ((picked ms).outs ≡ r.outs ++ more)
    by [] ih = ([], sym (append-nil r.outs))
    by (m ∷ ms) ih = ((handle_all n r.queue r.here).outs ++ ih.0, ih.1 ∙ append_assoc r.outs (handle_all n r.queue r.here).outs ih.0)

module _ (hd : Header) (n : ℕ) (d : Disk) (entries : (n == 1) ≡ true → AreEntries (let p = d.names in p.held)) (records : AllByRecursion
    (λ (e : Uid × Intent). uid_eq nobody e.0 ≡ false) d.intents) (store : AllByRecursion (λ (u : Uid). uid_eq nobody u ≡ false)
    (prepared_actions d.store)) (names : AllByRecursion (λ (u : Uid). uid_eq nobody u ≡ false) (prepared_actions d.names)) where
  abbrev inc : ℕ
  inc = d.inc + 1

  abbrev v : Parts
  v = parts_in n inc d

  abbrev outs : List Effect
  outs = restart_outs hd n inc d

  abbrev r : Ran
  r = whole n v outs d

  -- all its effects begin with the start
  front : (tail : List Effect) × (r.outs ≡ Do Look ∷ Do (PutInc inc) ∷ Say (body.Up n inc) ∷ tail)
  front = let f = front_of n most_rounds (ran n v outs d) in (behind (ran n v outs d).outs ++ f.0, f.1)
    where
      behind : List Effect → List Effect
      behind (a ∷ b ∷ c ∷ es) = es
      behind es = es

  follows : (x : ℕ) → TablesFollow alone n x v r.outs r.here.parts
  follows x = whole_follows alone n x v v outs d (starts_follow hd n inc x d entries)
      (rounds_fit n alone most_rounds (ran n v outs d) (ran_queue n v outs d (restart_tells n hd inc d records store names)))

  from_start : (m : ℕ) (p : Part) (o : Uid) → (n == m) ≡ true → (rows : List Row) →
      rows_after alone m p o r.outs rows ≡ rows_after alone m p o front.0 []
  from_start m p o is rows =
      ap (λ es. rows_after alone m p o es rows) front.1 ∙ (λ i. rows_after alone m p o front.0 (if is i then [] else rows))

  pub restart_shows : (event frames : ℕ) (ls : List Line) → ShowsLocks n (ls ++ numbered event (bodies n frames r.outs)) (Some r.here.parts)
  restart_shows event frames ls = record {
    server = λ x. let f = follows x in
        in_table part.Server (object x) refl ∙ sym (from_start n part.Server (object x) (itself n) (server_rows x v.server)) ∙ sym f.server;
    naming = λ x one. let f = follows x in in_table part.Naming (entry x) refl ∙ (λ i. rows_after alone (eqb-true n 1 one i) part.Naming
        (entry x) front.0 []) ∙ named x one v.naming r.here.parts.naming (is_named one) f.naming;
  }
    where
      in_table : (p : Part) (o : Uid) → IsOfPart p o →
          rows_on o (table n (ls ++ numbered event (bodies n frames r.outs))) ≡ rows_after alone n p o front.0 []
      in_table p o of = ap (λ es. rows_on o (table n (ls ++ numbered event (bodies n frames es)))) front.1
          ∙ started n p o of event n frames inc front.0 ls

      is_named : (n == 1) ≡ true → v.naming ≡ Some (recovered_naming inc d.names)
      is_named one = λ i. cond (one i) (Some (recovered_naming inc d.names)) None

      named : (x : ℕ) → (n == 1) ≡ true → (a b : Option Naming) → a ≡ Some (recovered_naming inc d.names) →
          NamingFollows alone x a r.outs b → rows_after alone 1 part.Naming (entry x) front.0 [] ≡ named_locks x b
      named x one None b is f = absurd (cc is)
      named x one (Some a) None is f = absurd f
      named x one (Some a) (Some b) is f = sym (from_start 1 part.Naming (entry x) one (named_locks x (Some a))) ∙ sym f
