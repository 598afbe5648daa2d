-- What a journal shows of actions, calls, commits and lists is the same where its lines are shown with other numbers of events and frames.
use Rattle.arj_law.proofs.Terms
use Terms.body
use Terms.class
use Terms.{◌≡◌, ◌∙◌, ◌+◌, ◌==◌, ◌&&◌, ◌++◌, ◌∷◌, [], List, Option, None, Some, ℕ, ap, cond, filter, length, map, not, refl}
use Terms.{Act, Body, Header, Line, Placed, Top, acts, acts_after, acts_from, arrange, begun_of, changers, committed, committed_calls}
use Terms.{committed_of, committing_of, committings, entry, entry_payload, excluded_of, filter_map, included, included_of, increasing}
use Terms.{is_among, joins_by}
use Terms.{joins_of, kept, leaves_of, lex, listed, listed_after, listed_from, nested_calls, numbered, object_line, put, read, recovered}
use Terms.{recovered_of}
use Terms.{run, said, said_of, same_list, serial_calls, serial_key, serial_less, serial_tops, servers_of_line, top_in, top_of, tops}
use Terms.{writes_on}
use Rattle.arj_journal.specs.declared.body.FrameKind.{FrameKind}
use Rattle.arj_model.specs.Last.{changer_from, entry_from, excluded, first_values, last_from, state_after, stores_of_line}
use Rattle.arj_model.specs.Nested.{nested_less}
use Rattle.arj_model.specs.Shown.{raised, shown_lines}
use Rattle.arj_start.specs.Start.{Marks, Start, format_at}

-- what is read of a line doesn't look at lines of frames
record IsBlind {A : Type 0} (f : List Act → Body → Option A) : Type 0 where
  pub sent : (so : List Act) (m n from to : ℕ) (what : FrameKind) → f so (body.Sent m from to what) ≡ f so (body.Sent n from to what)
  pub got : (so : List Act) (m n : ℕ) → f so (body.Got m) ≡ f so (body.Got n)
  pub void : (so : List Act) (m n : ℕ) → f so (body.Void m) ≡ f so (body.Void n)
  pub dropped : (so : List Act) (m n : ℕ) → f so (body.Dropped m) ≡ f so (body.Dropped n)

blind_read : {A : Type 0} (f : List Act → Body → Option A) → IsBlind f → (k : ℕ) (so : List Act) (b : Body) → f so (raised k b) ≡ f so b
blind_read f blind k so (body.Sent n from to what) = blind.sent so (k + n) n from to what
blind_read f blind k so (body.Got n) = blind.got so (k + n) n
blind_read f blind k so (body.Void n) = blind.void so (k + n) n
blind_read f blind k so (body.Dropped n) = blind.dropped so (k + n) n
blind_read f blind k so b = refl

begun_alike : (k : ℕ) (b : Body) → begun_of (raised k b) ≡ begun_of b
begun_alike k b = blind_read (λ so b. begun_of b) (record {
  sent = λ so m n from to what. refl;
  got = λ so m n. refl;
  void = λ so m n. refl;
  dropped = λ so m n. refl;
}) k [] b

module _ (st : Start) where
  acts_alike : (so : List Act) (lines : List Line) → acts_from so (shown_lines st lines) ≡ acts_from so lines
  acts_alike so [] = refl
  acts_alike so (line ∷ lines) =
      ap (λ b. acts_from (numbered so b) (shown_lines st lines)) (begun_alike st.frames line.body)
      ∙ acts_alike (acts_after so line.body) lines

  pub same_acts : (lines : List Line) → acts (shown_lines st lines) ≡ acts lines
  same_acts lines = acts_alike [] lines

  read_alike : {A : Type 0} (f : List Act → Body → Option A) → IsBlind f → (so : List Act) (n : ℕ) (lines : List Line) →
      read f so n (shown_lines st lines) ≡ read f so n lines
  read_alike f blind so n [] = refl
  read_alike f blind so n (line ∷ lines) =
      ap (λ b. put n (f so (raised st.frames line.body)) (read f (numbered so b) (n + 1) (shown_lines st lines)))
      (begun_alike st.frames line.body)
      ∙ ap (λ o. put n o (read f (acts_after so line.body) (n + 1) (shown_lines st lines))) (blind_read f blind st.frames so line.body)
      ∙ ap (put n (f so line.body)) (read_alike f blind (acts_after so line.body) (n + 1) lines)

  pub same_committed : (lines : List Line) → committed (shown_lines st lines) ≡ committed lines
  same_committed lines = read_alike committed_of (record {
    sent = λ so m n from to what. refl;
    got = λ so m n. refl;
    void = λ so m n. refl;
    dropped = λ so m n. refl;
  }) [] 0 lines

  pub same_recovered : (lines : List Line) → recovered (shown_lines st lines) ≡ recovered lines
  same_recovered lines = read_alike recovered_of (record {
    sent = λ so m n from to what. refl;
    got = λ so m n. refl;
    void = λ so m n. refl;
    dropped = λ so m n. refl;
  }) [] 0 lines

  same_said : (lines : List Line) → said (shown_lines st lines) ≡ said lines
  same_said lines = read_alike said_of (record {
    sent = λ so m n from to what. refl;
    got = λ so m n. refl;
    void = λ so m n. refl;
    dropped = λ so m n. refl;
  }) [] 0 lines

  same_committings : (lines : List Line) → committings (shown_lines st lines) ≡ committings lines
  same_committings lines = read_alike committing_of (record {
    sent = λ so m n from to what. refl;
    got = λ so m n. refl;
    void = λ so m n. refl;
    dropped = λ so m n. refl;
  }) [] 0 lines

  same_excluded : (lines : List Line) → excluded (shown_lines st lines) ≡ excluded lines
  same_excluded lines = read_alike excluded_of (record {
    sent = λ so m n from to what. refl;
    got = λ so m n. refl;
    void = λ so m n. refl;
    dropped = λ so m n. refl;
  }) [] 0 lines

  same_included : (lines : List Line) → included (shown_lines st lines) ≡ included lines
  same_included lines = read_alike included_of (record {
    sent = λ so m n from to what. refl;
    got = λ so m n. refl;
    void = λ so m n. refl;
    dropped = λ so m n. refl;
  }) [] 0 lines

  pub same_calls : (lines : List Line) → committed_calls (shown_lines st lines) ≡ committed_calls lines
  same_calls lines i = filter_map (kept (same_committed lines i) (same_recovered lines i)) (same_said lines i)

  pub same_tops : (lines : List Line) → tops (shown_lines st lines) ≡ tops lines
  same_tops lines i = filter_map (top_of (same_committed lines i) (same_recovered lines i)) (same_committings lines i)

  pub same_serial_calls : (lines : List Line) → serial_calls (shown_lines st lines) ≡ serial_calls lines
  same_serial_calls lines i = arrange (serial_less (same_tops lines i)) (same_calls lines i)

  pub same_nested_calls : (lines : List Line) → nested_calls (shown_lines st lines) ≡ nested_calls lines
  same_nested_calls lines i = arrange (nested_less (same_committed lines i)) (same_serial_calls lines i)

  same_joins : (lines : List Line) (id x : ℕ) → joins_of (shown_lines st lines) id x ≡ joins_of lines id x
  same_joins lines id x i = filter_map (λ j. joins_by (same_committed lines i) id x j (top_in j.it.path)) (same_included lines i)

  same_leaves : (lines : List Line) (id x : ℕ) → leaves_of (shown_lines st lines) id x ≡ leaves_of lines id x
  same_leaves lines id x i = map (λ e. e.it.node) (filter (λ e. (e.it.top == id) && (e.it.x == x)) (same_excluded lines i))

  same_after : (lines : List Line) (x : ℕ) (stores : List ℕ) (t : Top) →
      listed_after (shown_lines st lines) x stores t ≡ listed_after lines x stores t
  same_after lines x stores t i =
      filter (λ s. not (is_among (same_leaves lines t.id x i) s)) stores
      ++ increasing (filter (λ s. not (is_among (same_leaves lines t.id x i) s)) (same_joins lines t.id x i))

  same_listed_from : (lines : List Line) (x : ℕ) (stores : List ℕ) (ts : List Top) →
      listed_from (shown_lines st lines) x stores ts ≡ listed_from lines x stores ts
  same_listed_from lines x stores [] = refl
  same_listed_from lines x stores (t ∷ ts) =
      ap (λ ss. listed_from (shown_lines st lines) x ss ts) (same_after lines x stores t)
      ∙ same_listed_from lines x (listed_after lines x stores t) ts

  pub same_serial_tops : (lines : List Line) → serial_tops (shown_lines st lines) ≡ serial_tops lines
  same_serial_tops lines i = arrange (λ t u. lex (serial_key (same_tops lines i) t.id) (serial_key (same_tops lines i) u.id))
      (same_tops lines i)

  pub same_listed : (header : Header) (lines : List Line) (x : ℕ) → listed header (shown_lines st lines) x ≡ listed header lines x
  same_listed header lines x =
      ap (listed_from (shown_lines st lines) x (stores_of_line (object_line header x))) (same_serial_tops lines)
      ∙ same_listed_from lines x (stores_of_line (object_line header x)) (serial_tops lines)

  same_changers : (lines : List Line) (x : ℕ) (stores : List ℕ) (ts : List Top) →
      changers (shown_lines st lines) x stores ts ≡ changers lines x stores ts
  same_changers lines x stores [] = refl
  same_changers lines x stores (t ∷ ts) =
      ap (λ ss. cond (same_list ss stores) (changers (shown_lines st lines) x stores ts) (t ∷ changers (shown_lines st lines) x ss ts))
      (same_after lines x stores t)
      ∙ ap (λ ts_so. cond (same_list (listed_after lines x stores t) stores) ts_so
      (t ∷ changers (shown_lines st lines) x (listed_after lines x stores t) ts))
      (same_changers lines x stores ts)
      ∙ ap (λ ts_so. cond (same_list (listed_after lines x stores t) stores) (changers lines x stores ts) (t ∷ ts_so))
      (same_changers lines x (listed_after lines x stores t) ts)

  pub same_last : (header : Header) (marks : Marks) (lines : List Line) (x : ℕ) →
      last_from header marks (shown_lines st lines) x ≡ last_from header marks lines x
  same_last header marks lines x i =
      state_after header.format (marks.states x) x (run (first_values header) (same_serial_calls lines i) x)
      (filter (writes_on x) (same_serial_calls lines i))

  pub same_entry : (header : Header) (marks : Marks) (lines : List Line) (x : ℕ) →
      entry_from header marks (shown_lines st lines) x ≡ entry_from header marks lines x
  same_entry header marks lines x i =
      let mark = marks.entries x in
      record {
        uid = entry x;
        class = class.Entry;
        version = mark.version + length (changed i);
        writer = changer_from (same_acts lines i) mark.writer (changed i);
        payload = entry_payload (servers_of_line (object_line header x)) (same_listed header lines x i);
        format = format_at header.format (mark.version + length (changed i));
      }
    where
      changed : changers (shown_lines st lines) x (stores_of_line (object_line header x)) (serial_tops (shown_lines st lines))
          ≡ changers lines x (stores_of_line (object_line header x)) (serial_tops lines)
      changed = ap (changers (shown_lines st lines) x (stores_of_line (object_line header x))) (same_serial_tops lines)
          ∙ same_changers lines x (stores_of_line (object_line header x)) (serial_tops lines)
