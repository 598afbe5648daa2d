-- What a readable journal left is a formed start, where nodes hold states that objects had.
use Rattle.std.proofs.Common.{◌≡◌, ◌≢◌, ◌<◌, ◌≤◌, ◌⊎◌, ◌+◌, ◌==◌, inl, inr, ℕ, List, [], ◌∷◌, map, filter, length, Bool, true, false}
use Rattle.std.proofs.Common.{Option, Some, None}
use Rattle.std.proofs.Common.{refl, sym, ◌∙◌, ap, subst, arith, is_some, slice_get}
use Rattle.std.specs.List.{AllByRecursion}
use Rattle.arj_base.specs.State.{StateInForm}
use Rattle.arj_base.specs.Uid.{UidFits, nobody, object}
use Rattle.arj_base.specs.declared.limits.TheConstants.{LAST_VERSION}
use Rattle.arj_base.specs.declared.state.ObjectState.{ObjectState}
use Rattle.arj_base.specs.declared.uid.Uid.{Uid}
use Rattle.arj_law_calm.proofs.Own.{HaveNewUids, new_uids}
use Rattle.arj_check.specs.Keys.{HaveOwnKeys}
use Rattle.arj_class.specs.Forms.{FormatHolds}
use Rattle.arj_class.specs.Table.{own_class}
use Rattle.arj_class.specs.declared.value.Value.{Value}
use Rattle.arj_journal.specs.LineForm.{BodyInForm, LineInForm}
use Rattle.arj_journal.specs.declared.body.Body.{Body}
use Rattle.std.specs.Option.{option_map}
use Rattle.arj_text.specs.Label.{name}
use Rattle.arj_journal.specs.ScriptForm.{ObjectLineInForm}
use Rattle.arj_journal.specs.declared.body.Body.TheVariants as body
use Rattle.arj_journal.specs.declared.body.Line.{Line}
use Rattle.arj_journal.specs.declared.header.Header.{Header}
use Rattle.arj_journal.specs.declared.header.ObjectLine.{ObjectLine}
use Rattle.arj_law.proofs.Common.{Pairwise, all_map, never, pairwise_of}
use Rattle.arj_law.proofs.{Last.all_filtered, Moves.all_arrange}
use Rattle.arj_law.specs.Joined.{marks_after}
use Rattle.arj_lock.proofs.Members.{In, in_find_none, in_to}
use Rattle.std.proofs.lemmas.Bool.{eq-eqb}
use Rattle.arj_model.specs.Actions.{Act, Begun, acts, begun_of}
use Rattle.arj_model.specs.Calls.{Call, committed_calls, tops}
use Rattle.arj_model.specs.Disks.{Disks}
use Rattle.arj_model.specs.Last.{changers, count_tops, entry_state, first_values, last_state, object_line, serial_tops, stores_of_line}
use Rattle.arj_model.specs.Last.{writes_of}
use Rattle.arj_model.specs.Serial.{run, serial_calls, serial_key, serial_less, writes_on}
use Rattle.arj_law.proofs.Answers.{run_writes}
use Rattle.arj_law.specs.Joined.{mark_of}
use Rattle.arj_class.proofs.Payloads.{short_payload}
use Rattle.arj_msg.specs.Sendable.{StateSends}
use Rattle.arj_protocol.specs.Step.{state_by}
use Rattle.arj_protocol.specs.Values.{state_value}
use Rattle.arj_promise.specs.Starts.{IsBefore}
use Rattle.arj_start.specs.Limits.{most_labels}
use Rattle.arj_text.specs.Fields.{AreBytes}
use Rattle.arj_base.specs.declared.state.Format.TheVariants as format
use Rattle.std.proofs.Common.{zero, suc, eqb-true, if◌then◌else◌}
use Rattle.arj_past.proofs.Fronts.{StandsBefore}
use Rattle.arj_past.proofs.Pasts.{in_serial, writes_stand}
use Rattle.arj_past.specs.Past.{calls_to, is_up_to, state_to}
use Rattle.arj_promise.specs.Starts.{AreOne, IsFormed, IsOlder, IsPast}
use Rattle.arj_protocol.proofs.Payloads.{value_back}
use Rattle.arj_replay.specs.Verdict.{HasCall}
use Rattle.arj_start.specs.Start.{Start, format_at}
use Rattle.arj_text.proofs.Values.{value_in_form}
use Rattle.arj_text.specs.Fields.{ValueTextInForm}
use Rattle.arj_text.specs.declared.label.Label.{Label}
use Rattle.arj_law_serial.proofs.joint.GivenBytes.{payload_bytes, text_bytes, two_holds}
use Rattle.arj_law_calm.proofs.Counts.{changes_less, version_less}
use Rattle.arj_law_calm.proofs.Fronts.{IsOneTop}
use Rattle.arj_law_calm.proofs.Headers.{holds_found, none_counted}
use Rattle.arj_law_calm.proofs.Older.{IsFound, at_nodes}
use Rattle.arj_law_calm.proofs.States as states
use Rattle.arj_law_calm.proofs.Values.{IsOpInForm, run_class, run_text}
use Rattle.arj_law_calm.proofs.Writers.{IsByTop, acts_all, calls_by, changer_so, one_top, writer_so, writes_by}
use Rattle.arj_law_calm.specs.Leaves.{HasBegun, IsLeft, Leaves}
use Rattle.arj_law_calm.specs.Next.{next_header, next_object}

-- what holds of each of a list holds of what stands at a place
all_got : {A : Type 0} (P : A → Type 0) (k : ℕ) (a : A) (xs : List A) → AllByRecursion P xs → slice_get xs k ≡ Some a → P a
all_got P k a [] all h = absurd (cc h)
all_got P zero a (x ∷ xs) all h = let same : x ≡ a = cc h in subst P same all.0
all_got P (suc k) a (x ∷ xs) all h = all_got P k a xs all.1 h

in_map : {A B : Type 0} (f : A → B) (x : A) (xs : List A) → In x xs → In (f x) (map f xs)
in_map f x [] i = absurd i
in_map f x (y ∷ ys) (inl same) = inl (ap f same)
in_map f x (y ∷ ys) (inr i) = inr (in_map f x ys i)

all_at_line : (P : ObjectLine → Type 0) (os : List ObjectLine) → AllByRecursion P os → (o : ObjectLine) → In o os → P o
all_at_line P [] all o i = absurd i
all_at_line P (p ∷ ps) all o (inl same) = subst P same all.0
all_at_line P (p ∷ ps) all o (inr i) = all_at_line P ps all.1 o i

-- a line of the header is found by its number
pub line_there : (header : Header) (o : ObjectLine) → In o header.objects → is_some (object_line header o.x) ≡ true
line_there header o i = by (object_line header o.x) refl
  where
    by : (q : Option ObjectLine) → object_line header o.x ≡ q → is_some q ≡ true
    by None none = absurd (never (o.x == o.x) (eq-eqb o.x o.x refl) (in_find_none (λ (p : ObjectLine). p.x == o.x) o header.objects none i))
    by (Some p) found = refl

module _ (header : Header) (lines : List Line) (disks : Disks) (incs : ℕ → ℕ) (leaves : Leaves header lines disks incs)
    (calls : AllByRecursion (HasCall header lines) (committed_calls lines))
    (own : AllByRecursion (λ c. AllByRecursion (λ d. HaveOwnKeys (tops lines) d c) (committed_calls lines)) (committed_calls lines)) where
  abbrev next : Header
  next = next_header header lines

  -- ---- who wrote

  -- an action of a node and of an incarnation to which it has come
  abbrev K : Uid → Type 0
  K u = HasBegun incs u × UidFits u

  began : AllByRecursion (λ (l : Line). (b : Begun) → begun_of l.body ≡ Some b → K b.uid) lines
  began = each lines leaves.known leaves.form
    where
      each : (ls : List Line) → AllByRecursion (λ (l : Line). (b : Begun) → begun_of l.body ≡ Some b → HasBegun incs b.uid) ls →
          AllByRecursion LineInForm ls → AllByRecursion (λ (l : Line). (b : Begun) → begun_of l.body ≡ Some b → K b.uid) ls
      each [] known form = tt
      each (l ∷ ls) known form = ((λ b is. (known.0 b is, fits l form.0 b is)), each ls known.1 form.1)
        where
          fits : (l : Line) → LineInForm l → (b : Begun) → begun_of l.body ≡ Some b → UidFits b.uid
          fits l f b is = by l.body f.1 is
            where
              by : (z : Body) → BodyInForm z → begun_of z ≡ Some b → UidFits b.uid
              by (body.Began lab k u p) g e =
                  let same : record { label = name lab; kind = k; uid = u; parent = option_map name p } ≡ b = cc e in
                  subst (λ (c : Begun). UidFits c.uid) same g.1
              by z g e = absurd (cc e)

  all : AllByRecursion (λ (a : Act). K a.uid) (acts lines)
  all = acts_all K [] lines tt began

  well : HaveNewUids (acts lines)
  well = new_uids header lines leaves.readable

  by_tops : (x : ℕ) → AllByRecursion (IsByTop (acts lines) K) (writes_of lines x)
  by_tops x = writes_by lines K well all x

  -- so it is of who wrote what is held, or nobody did
  abbrev Wrote : Uid → Type 0
  Wrote u = (u ≡ nobody) ⊎ K u

  wrote_tops : (x : ℕ) → AllByRecursion (IsByTop (acts lines) Wrote) (writes_of lines x)
  wrote_tops x = writes_by lines Wrote well (all_map (λ (a : Act). K a.uid) (λ (a : Act). Wrote a.uid) (λ a k. inr k) (acts lines) all) x

  nobody_fits : UidFits nobody
  nobody_fits = (omega arith, omega arith, omega arith)

  wrote_fits : (u : Uid) → Wrote u → UidFits u
  wrote_fits u (inl none) = subst UidFits (sym none) nobody_fits
  wrote_fits u (inr k) = k.1

  state_wrote : (x : ℕ) → Wrote (last_state header lines x).writer
  state_wrote x = writer_so lines Wrote well
      (all_map (λ (a : Act). K a.uid) (λ (a : Act). Wrote a.uid) (λ a k. inr k) (acts lines) all) nobody (writes_of lines x)
      (inl refl) (wrote_tops x)

  entry_wrote : (x : ℕ) → Wrote (entry_state header lines x).writer
  entry_wrote x = changer_so lines Wrote well
      (all_map (λ (a : Act). K a.uid) (λ (a : Act). Wrote a.uid) (λ a k. inr k) (acts lines) all) nobody
      (changers lines x (stores_of_line (object_line header x)) (serial_tops lines)) (inl refl) (inl refl)

  -- ---- the order of writes

  stand : (x : ℕ) → Pairwise (StandsBefore (serial_key (tops lines))) (writes_of lines x)
  stand x = writes_stand lines x (in_serial lines own)

  one : (x : ℕ) → Pairwise (IsOneTop (serial_key (tops lines))) (writes_of lines x)
  one x = pairwise_of (IsOneTop (serial_key (tops lines))) (writes_of lines x)
      (all_map (IsByTop (acts lines) K) (λ (c : Call). AllByRecursion (IsOneTop (serial_key (tops lines)) c) (writes_of lines x))
      (λ c a. all_map (IsByTop (acts lines) K) (IsOneTop (serial_key (tops lines)) c) (λ d b. one_top lines K well all c d a b)
      (writes_of lines x)
      (by_tops x)) (writes_of lines x) (by_tops x))

  somebody : (u : Uid) → K u → u ≢ nobody
  somebody u k none = let some : 1 ≤ u.node = k.0.0 in
      let zero : u.node ≡ 0 = ap (λ (w : Uid). w.node) none in omega (arith, some, zero)

  written : (x : ℕ) → AllByRecursion (λ (c : Call). c.writer ≢ nobody) (writes_of lines x)
  written x = all_map (IsByTop (acts lines) K) (λ (c : Call). c.writer ≢ nobody)
      (λ c b. somebody c.writer (subst K (sym b.writer) b.holds)) (writes_of lines x) (by_tops x)

  -- ---- values

  ops : AllByRecursion IsOpInForm (committed_calls lines)
  ops = all_map (HasCall header lines) IsOpInForm said (committed_calls lines) calls
    where
      said : (c : Call) → HasCall header lines c → IsOpInForm c
      said c has =
          let line = all_got LineInForm c.at (record { event = has.event; body = body.Ok has.label c.x c.op c.answer }) lines
          leaves.form has.here in
          line.1.2

  first_text : (x : ℕ) → ValueTextInForm (first_values header x)
  first_text x = holds_found ValueTextInForm (omega arith) x header.objects
      (all_map (ObjectLineInForm header.nodes) (λ (o : ObjectLine). ValueTextInForm o.value) (λ o f. f.value) header.objects
      (let h = leaves.header_form in let os = h.objects in os.0))

  first_holds : (x : ℕ) → FormatHolds header.format (first_values header x)
  first_holds x = holds_found (FormatHolds header.format) tt x header.objects (let h = leaves.header_form in h.held)

  ops_to : (place : List ℕ) → AllByRecursion IsOpInForm (calls_to lines place)
  ops_to place = all_filtered IsOpInForm (is_up_to lines place) (serial_calls lines)
      (all_arrange IsOpInForm (serial_less (tops lines)) (committed_calls lines) ops)

  abbrev value_to : List ℕ → ℕ → Value
  value_to place x = run (first_values header) (calls_to lines place) x

  text_to : (place : List ℕ) (x : ℕ) → ValueTextInForm (value_to place x)
  text_to place x = run_text (first_values header) (calls_to lines place) (ops_to place) first_text x

  -- so it is of what all calls leave
  pub text_last : (x : ℕ) → ValueTextInForm (run (first_values header) (serial_calls lines) x)
  text_last x = run_text (first_values header) (serial_calls lines)
      (all_arrange IsOpInForm (serial_less (tops lines)) (committed_calls lines) ops) first_text x

  abbrev W : List ℕ → ℕ → List Call
  W place x = filter (writes_on x) (calls_to lines place)

  holds_to : (place : List ℕ) (x : ℕ) → FormatHolds (format_at header.format (0 + count_tops (W place x))) (value_to place x)
  holds_to place x = by (0 + count_tops (W place x) == 0) refl
    where
      stays : 0 + count_tops (W place x) ≡ 0 → value_to place x ≡ first_values header x
      stays none = sym (run_writes (first_values header) (first_values header) x (calls_to lines place) refl)
          ∙ ap (λ cs. run (first_values header) cs x) (none_counted (W place x) none)

      by : (b : Bool) → (0 + count_tops (W place x) == 0) ≡ b → FormatHolds (if b then header.format else format.Two) (value_to place x)
      by true e = subst (FormatHolds header.format) (sym (stays (eqb-true (0 + count_tops (W place x)) 0 e))) (first_holds x)
      by false e = two_holds (value_to place x) (value_in_form (value_to place x) (text_to place x))

  -- ---- the start

  found : (ps : List (ℕ × ObjectState)) × AllByRecursion (IsFound header lines disks) ps
  found = at_nodes header lines disks header.nodes
      (λ n low high o i. (let p = leaves.past in p.past o.x (line_there header o i) n low high))

  module _ (given : List Label) (events frames : ℕ) where
    abbrev start : Start
    start = record {
      marks = marks_after header lines;
      older = found.0;
      incs = incs;
      up = λ n. false;
      given = given;
      events = events;
      frames = frames;
    }

    wrote_past : (u : Uid) → Wrote u → IsPast start u
    wrote_past u (inl none) = inl none
    wrote_past u (inr k) = inr (let came = k.0.1 in let i : ℕ = incs u.node in omega (arith, came))

    few_versions : (m : ℕ) → m ≤ length lines → (0 + m) + most_labels < LAST_VERSION
    few_versions m le = let few = leaves.few in omega (arith, le, few)

    is_older : (p : ℕ × ObjectState) → IsFound header lines disks p → IsOlder next start p
    is_older p f = record {
      line = next_object header lines f.object_is;
      there = in_to (next_object header lines f.object_is) next.objects
          (in_map (next_object header lines) f.object_is header.objects f.there);
      of = ap (λ (s : ObjectState). s.uid) f.is;
      class = ap (λ (s : ObjectState). own_class (state_value s)) f.is ∙ ap own_class (value_back v (value_in_form v text))
          ∙ run_class (first_values header) (calls_to lines f.place) x ∙ sym (run_class (first_values header) (serial_calls lines) x);
      form = subst StateInForm (sym f.is) (
        (omega arith, omega arith, (let n = number in omega (arith, n))),
        (let less = states.count_to header lines x (stand x) (one x) (written x) f.place in
            let few = leaves.few in let most = version_less lines x in omega (arith, less, few, most)),
        wrote_fits (state_to header lines f.place x).writer wrote,
        (let short = short_payload v (value_in_form v text) in omega (arith, short)),
      );
      unlisted = f.unlisted;
      was = subst (λ (s : ObjectState). (s ≡ state_by header.format (mark_of (last_state header lines x))
          (next_object header lines f.object_is))
          ⊎ IsBefore s (mark_of (last_state header lines x))) (sym f.is) (states.was header lines x (stand x) (one x) (written x) f.place);
      past = subst (λ (s : ObjectState). IsPast start s.writer) (sym f.is) (wrote_past (state_to header lines f.place x).writer wrote);
      bytes = subst (λ (s : ObjectState). AreBytes s.payload) (sym f.is) (payload_bytes v (text_bytes v text));
      restores = subst StateSends (sym f.is) (v, refl, value_in_form v text, holds_to f.place x, refl);
    }
      where
        x : ℕ
        x = let o = f.object_is in o.x

        v : Value
        v = value_to f.place x

        text : ValueTextInForm v
        text = text_to f.place x

        number : x < 18446744073709551616
        number = all_at_line (λ (o : ObjectLine). o.x < 18446744073709551616) header.objects (all_map (ObjectLineInForm header.nodes)
            (λ (o : ObjectLine). o.x < 18446744073709551616) (λ o g. let n = g.number in omega (arith, n.1)) header.objects
            (let h = leaves.header_form in let os = h.objects in os.0)) f.object_is f.there

        wrote : Wrote (state_to header lines f.place x).writer
        wrote = writer_so lines Wrote well
            (all_map (λ (a : Act). K a.uid) (λ (a : Act). Wrote a.uid) (λ a k. inr k) (acts lines) all) nobody (W f.place x) (inl refl)
            (all_filtered (IsByTop (acts lines) Wrote) (writes_on x) (calls_to lines f.place)
            (all_filtered (IsByTop (acts lines) Wrote) (is_up_to lines f.place) (serial_calls lines)
            (all_arrange (IsByTop (acts lines) Wrote) (serial_less (tops lines)) (committed_calls lines)
            (calls_by lines Wrote well (all_map (λ (a : Act). K a.uid) (λ (a : Act). Wrote a.uid) (λ a k. inr k) (acts lines) all)))))

    are_one : (p q : ℕ × ObjectState) → IsFound header lines disks p → IsFound header lines disks q → AreOne p.1 q.1
    are_one p q f g = record {
      version = λ same. let a = at same in a.version same;
      writer = λ same. let a = at same in a.writer same;
    }
      where
        y : ℕ
        y = let o = g.object_is in o.x

        -- they are of one object
        at : p.1.uid ≡ q.1.uid → AreOne p.1 q.1
        at same =
            let number : (let o = f.object_is in o.x) ≡ y =
            ap (λ (u : Uid). u.num) (ap (λ (s : ObjectState). s.uid) (sym f.is) ∙ same ∙ ap (λ (s : ObjectState). s.uid) g.is) in
            subst (λ (s : ObjectState). AreOne s q.1) (sym (f.is ∙ ap (state_to header lines f.place) number))
            (subst (λ (s : ObjectState). AreOne (state_to header lines f.place y) s) (sym g.is)
            (states.are_one header lines y (stand y) (one y) (written y) f.place g.place))

    formed : IsFormed next start
    formed = record {
      states = λ x. wrote_past (last_state header lines x).writer (state_wrote x);
      entries = λ x. wrote_past (entry_state header lines x).writer (entry_wrote x);
      writers = λ x. (
        wrote_fits (last_state header lines x).writer (state_wrote x),
        wrote_fits (entry_state header lines x).writer (entry_wrote x),
      );
      short = λ x. few_versions (count_tops (writes_of lines x)) (version_less lines x);
      brief = λ x. few_versions (length (changers lines x (stores_of_line (object_line header x)) (serial_tops lines)))
          (changes_less lines x (stores_of_line (object_line header x)));
      incs = λ n. (let low = leaves.low n in let i : ℕ = incs n in omega (arith, low));
      older = all_map (IsFound header lines disks) (IsOlder next start) is_older found.0 found.1;
      one = all_map (IsFound header lines disks) (λ (a : ℕ × ObjectState). AllByRecursion (λ (b : ℕ × ObjectState). AreOne a.1 b.1) found.0)
          (λ a f. all_map (IsFound header lines disks) (λ (b : ℕ × ObjectState). AreOne a.1 b.1) (λ b g. are_one a b f g) found.0 found.1)
          found.0 found.1;
    }

  -- so there is one
  pub start_left : (given : List Label) (counts : ℕ × ℕ) → (st : Start) × IsLeft header lines incs given counts st
  start_left given counts = (
    start given counts.0 counts.1,
    record {
      formed = formed given counts.0 counts.1;
      marks = refl;
      before = λ n. refl;
      down = λ n. refl;
      labels = refl;
      events = refl;
      frames = refl;
    },
  )
